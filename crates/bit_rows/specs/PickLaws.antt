-- Picking by parts: the bits of a part come before the remaining ones, and a loop that picks one part per pass.
use Rattle.std.specs.Prelude.{◌≡◌, ℕ, zero, suc, ◌+◌, ◌-◌, ◌≤◌, ◌<◌, length, set}
use Rattle.std.proofs.Math.Path.{refl, ap, sym, subst}
use Rattle.std.proofs.Common.{ap₂, ◌∙◌, zero-le, not-suc-le-zero, le_of_suc-le-suc, length-drop, length-append, take-append-drop, take_at, drop_at, drop-drop}
use Rattle.std.proofs.Common.{length-take-le}
use mathlib.Core.List.{List, [], ◌∷◌, ◌++◌, append-nil, append_assoc}
use native.Mathlib.Omega.{arith}
use Rattle.std.proofs.Math.Numerals.{add-one}
use Rattle.std.proofs.Math.ListN.{get_or, take, drop, drop_of_length-le}
use Rattle.std.proofs.Math.Seq.{drop-cons}
use Rattle.std.proofs.lemmas.List.{set_split}
use borrow.Rule.Slice.PartMut.{mid_of, put_mid}
use Rattle.numbers.specs.Sums.{sum}
use Rattle.numbers.specs.SumsLaws.{sum-append}
use Rattle.numbers.specs.Lent.{lent_from, back_from}
use Rattle.words.specs.Bits.{Bits}
use Rattle.words.specs.TransformLaws.{bits_take, bits_drop}
use Rattle.words.specs.Kinds.{pick}
use Rattle.words.proofs.FillLaws.{length-pick}
use Rattle.bit_rows.specs.Pick.{pick_front, Pickable}

-- ---- a part p of the kinds, and then q
pick-append : (p q u : List ℕ) → length p ≤ length u → pick (p ++ q) u ≡ pick p u ++ pick q (drop (length p) u)
pick-append [] q u h = refl
pick-append (k ∷ p) q [] h = absurd (not-suc-le-zero h)
pick-append (zero ∷ p) q (a ∷ u) h = pick-append p q u (le_of_suc-le-suc h)
pick-append (suc k ∷ p) q (a ∷ u) h = ap (λ (l : List ℕ). a ∷ l) (pick-append p q u (le_of_suc-le-suc h))

-- no more of a row is read than there are kinds
pick-take : (p u : List ℕ) → pick p u ≡ pick p (take (length p) u)
pick-take [] u = refl
pick-take (k ∷ p) [] = refl
pick-take (zero ∷ p) (a ∷ u) = pick-take p u
pick-take (suc k ∷ p) (a ∷ u) = ap (λ (l : List ℕ). a ∷ l) (pick-take p u)

-- ---- a buffer b, picked into from the front
module _ (ks u b : List ℕ) (a : Pickable ks u b) where
  length_picked : length (pick ks u) ≡ sum ks
  length_picked = ap length (pick-take ks u) ∙ length-pick ks (take (length ks) u) a.bits_kinds (length-take-le (length ks) u a.long)

  module _ (c : ℕ) (h : c ≤ length ks) where
    sum_parts : sum ks ≡ sum (take c ks) + sum (drop c ks)
    sum_parts = ap sum (sym (take-append-drop c ks)) ∙ sum-append (take c ks) (drop c ks)

    pub first_pickable : Pickable (take c ks) u b
    first_pickable = record {
      long = omega (arith, length-take-le c ks h, a.long);
      room = omega (arith, sum_parts, a.room);
      bits_kinds = bits_take c ks a.bits_kinds;
    }

    by_parts : pick_front ks u b ≡ pick (take c ks) u ++ pick_front (drop c ks) (drop c u) (drop (sum (take c ks)) b)
    by_parts =
        let p = take c ks in
        let q = drop c ks in
        let cut : pick ks u ≡ pick p u ++ pick q (drop c u) =
        ap (λ (l : List ℕ). pick l u) (sym (take-append-drop c ks))
        ∙ pick-append p q u first_pickable.long
        ∙ ap (λ (n : ℕ). pick p u ++ pick q (drop n u)) (length-take-le c ks h) in
        let rest : drop (sum ks) b ≡ drop (sum q) (drop (sum p) b) = ap (λ (n : ℕ). drop n b) sum_parts ∙ sym (drop-drop (sum q) (sum p) b) in
        ap₂ ◌++◌ cut rest ∙ append_assoc (pick p u) (pick q (drop c u)) (drop (sum q) (drop (sum p) b))

-- a row and a buffer that are not longer
module _ (ks u b : List ℕ) (whole : (length u ≡ length ks) × (length b ≡ sum ks) × Bits ks) where
  pub all_pickable : Pickable ks u b
  all_pickable = record { long = omega arith; room = omega arith; bits_kinds = whole.2 }

  pub picked_all : pick_front ks u b ≡ pick ks u
  picked_all = ap (λ (l : List ℕ). pick ks u ++ l) (drop_of_length-le b {i = sum ks} (omega arith)) ∙ append-nil (pick ks u)

-- ---- a loop that picks one part per pass: the kinds before i are done and gave `taken` bits
pub record Picked (ks u b₀ b : List ℕ) (i taken : ℕ) : Type 0 where
  pub within : i ≤ length ks
  pub is : take taken b ++ pick_front (drop i ks) (drop i u) (drop taken b) ≡ pick_front ks u b₀
  pub long : length b ≡ length b₀
  pub left : taken + sum (drop i ks) ≡ sum ks

module _ (ks u b₀ : List ℕ) (a : Pickable ks u b₀) where
  pub pick-starts : Picked ks u b₀ b₀ 0 0
  pick-starts = record { within = zero-le; is = refl; long = refl; left = omega arith }

  module _ (b : List ℕ) (i taken : ℕ) (w : Picked ks u b₀ b i taken) where
    left_pickable : Pickable (drop i ks) (drop i u) (drop taken b)
    left_pickable = record {
      long = simp length-drop (omega (arith, a.long));
      room = simp length-drop (omega (arith, w.left, w.long, a.room));
      bits_kinds = bits_drop i ks a.bits_kinds;
    }

    pub pick_ends : length ks ≤ i → (b ≡ pick_front ks u b₀) × (taken ≡ sum ks)
    unfolding sum
    pick_ends h =
        let none = drop_of_length-le ks {i = i} h in (
          sym (take-append-drop taken b) ∙ sym (ap (λ (l : List ℕ). take taken b ++ pick_front l (drop i u) (drop taken b)) none) ∙ w.is,
          omega (arith, ap sum none, w.left),
        )

    next-part : (c : ℕ) → i + c ≤ length ks → (out : List ℕ) → out ≡ pick_front (take c (drop i ks)) (drop i u) (drop taken b)
        → Picked ks u b₀ (take taken b ++ out) (i + c) (taken + sum (take c (drop i ks)))
    next-part c h out e =
        let p = take c (drop i ks) in
        let here = left_pickable in
        let more : c ≤ length (drop i ks) = simp length-drop (omega arith) in
        let parts = sum_parts (drop i ks) (drop i u) (drop taken b) here c more in
        let some = pick p (drop i u) in
        let rest = drop (sum p) (drop taken b) in
        let before = take taken b ++ some in
        let inside : taken ≤ length b = omega (arith, w.left, w.long, a.room) in
        let ls : length some ≡ sum p = length_picked p (drop i u) (drop taken b) (first_pickable (drop i ks) (drop i u) (drop taken b) here c more) in
        let lb : length before ≡ taken + sum p = length-append (take taken b) some ∙ ap₂ ◌+◌ (length-take-le taken b inside) ls in
        let lr : length rest ≡ length b - (taken + sum p) = ap length (drop-drop (sum p) taken b) ∙ length-drop (taken + sum p) b in
        let is_out : take taken b ++ out ≡ before ++ rest = ap (λ (l : List ℕ). take taken b ++ l) e ∙ sym (append_assoc (take taken b) some rest) in
        subst (λ (l : List ℕ). Picked ks u b₀ l (i + c) (taken + sum p)) (sym is_out)
        (record {
          within = h;
          is =
              rw (take_at before rest (taken + sum p) lb, drop_at before rest (taken + sum p) lb, ← drop-drop c i ks, ← drop-drop c i u)
              (append_assoc (take taken b) some (pick_front (drop c (drop i ks)) (drop c (drop i u)) rest)
              ∙ ap (λ (l : List ℕ). take taken b ++ l) (sym (by_parts (drop i ks) (drop i u) (drop taken b) here c more))
              ∙ w.is);
          long = length-append before rest ∙ omega (arith, lb, lr, parts, w.left, w.long, a.room);
          left = rw (← drop-drop c i ks) (omega (arith, parts, w.left));
        })

    -- a pass lends what is left
    pub part_asked : Pickable (mid_of i (length ks - i) ks) (mid_of i (length u - i) u) (mid_of taken (length b - taken) b)
    part_asked = rw (lent_from i ks, lent_from i u, lent_from taken b) left_pickable

    pub part-back : (c : ℕ) → i + c ≤ length ks → (out : List ℕ) (n : ℕ)
        → (out ≡ pick_front (take c (mid_of i (length ks - i) ks)) (mid_of i (length u - i) u) (mid_of taken (length b - taken) b))
        × (n ≡ sum (take c (mid_of i (length ks - i) ks)))
        → Picked ks u b₀ (put_mid taken (length b - taken) b out) (i + c) (taken + n)
    part-back c h out n e =
        rw (back_from taken b out, e.1, lent_from i ks)
        (next-part c h out (e.0 ∙ rw (lent_from i ks, lent_from i u, lent_from taken b) refl))

    pub last-back : (out : List ℕ)
        → out ≡ pick_front (mid_of i (length ks - i) ks) (mid_of i (length u - i) u) (mid_of taken (length b - taken) b)
        → put_mid taken (length b - taken) b out ≡ pick_front ks u b₀
    last-back out e =
        back_from taken b out
        ∙ ap (λ (l : List ℕ). take taken b ++ l) (e ∙ rw (lent_from i ks, lent_from i u, lent_from taken b) refl)
        ∙ w.is

    -- a part of one kind
    module _ (h : i < length ks) (k : ℕ) (is-kind : get_or ks i 0 ≡ k) where
      one-kind : take 1 (drop i ks) ≡ k ∷ []
      one-kind = rw (drop-cons ks i 0 h, is-kind)

      next_one : (out : List ℕ) → out ≡ pick_front (k ∷ []) (get_or u i 0 ∷ drop (suc i) u) (drop taken b)
          → Picked ks u b₀ (take taken b ++ out) (i + 1) (taken + sum (k ∷ []))
      next_one out e =
          subst (λ (p : List ℕ). Picked ks u b₀ (take taken b ++ out) (i + 1) (taken + sum p)) one-kind
          (next-part 1 (omega arith) out (rw (one-kind, drop-cons u i 0 (omega (arith, a.long))) e))

    pub pick_frozen : i < length ks → get_or ks i 0 ≡ 0 → Picked ks u b₀ b (i + 1) taken
    unfolding sum
    pick_frozen h z =
        let e : taken + (0 + 0) ≡ taken = omega arith in
        subst (λ (n : ℕ). Picked ks u b₀ b (i + 1) n) e
        (subst (λ (l : List ℕ). Picked ks u b₀ l (i + 1) (taken + (0 + 0))) (take-append-drop taken b) (next_one h 0 z (drop taken b) refl))

    module _ (h : i < length ks) (one : get_or ks i 0 ≡ 1) where
      pub place_left : taken < length b
      unfolding sum
      place_left =
          let e = drop-cons ks i 0 h ∙ ap (λ (n : ℕ). n ∷ drop (suc i) ks) one in
          omega (arith, ap sum e, w.left, w.long, a.room)

      pub pick_information : Picked ks u b₀ (set b taken (get_or u i 0)) (i + 1) (taken + 1)
      unfolding sum
      pick_information =
          let rest : drop (suc taken) b ≡ drop 1 (drop taken b) = rw (drop-drop 1 taken b, add-one taken) refl in
          rw (set_split b taken (get_or u i 0) place_left)
          (next_one h 1 one (get_or u i 0 ∷ drop (suc taken) b) (ap (λ (l : List ℕ). get_or u i 0 ∷ l) rest))
