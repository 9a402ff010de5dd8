-- The loops of `fill`, `some_frozen_one` and `first_frozen_one`: what holds before each pass, and what a pass does.
use Rattle.std.specs.Prelude.{◌≡◌, refl, Some, Bool, true, false, not, ◌||◌, ◌&&◌, ◌⊎◌, ℕ, zero, suc, ◌+◌, ◌-◌, ◌≤◌, ◌<◌, ltb, eqb, length, get_or, set}
use Rattle.std.proofs.Math.Path.{ap}
use Rattle.std.proofs.Common.{sym, ◌∙◌, subst, true≢false, inl, inr, ⊎_elim, zero-le, suc-le-suc, arith, suc-ne-zero, add-one, length-set, drop_of_length-le}
use Rattle.std.proofs.Common.{lt-ltb, le-ltb, ltb-false}
use mathlib.Core.List.{List, [], ◌∷◌}
use Rattle.std.proofs.Math.Dec.{eqb-suc-zero}
use Rattle.std.proofs.Math.ListN.{drop}
use Rattle.std.proofs.Math.Seq.{drop-cons}
use Rattle.numbers.specs.Sums.{sum}
use Rattle.std.proofs.lemmas.List.{set-get_or}
use Rattle.numbers.specs.Front.{front, front-after, front-done, front-next, drop-next}
use Rattle.words.specs.Kinds.{fill}
use Rattle.words.proofs.FillLaws.{length-fill}
use Rattle.words.specs.Inverse.{first_frozen_one}
use Rattle.bit_rows.specs.FrozenOne.{found_frozen_one}

-- ---- fill: i kinds are passed, `used` bits are used
pub record Filled (ks b row₀ row : List ℕ) (i used : ℕ) : Type 0 where
  pub within : i ≤ length ks
  pub is : row ≡ front row₀ (fill ks b) i
  pub long : length row ≡ length row₀
  pub rest : drop i (fill ks b) ≡ fill (drop i ks) (drop used b)
  pub room : used + sum (drop i ks) ≤ length b

module _ (ks b row₀ : List ℕ) (same : length row₀ ≡ length ks) where
  pub fill-starts : sum ks ≤ length b → Filled ks b row₀ row₀ 0 0
  fill-starts h = record { within = zero-le; is = refl; long = refl; rest = refl; room = omega arith }

  module _ (row : List ℕ) (i used : ℕ) (f : Filled ks b row₀ row i used) where
    fill_pass : (a u : ℕ) → i < length ks → drop i (fill ks b) ≡ a ∷ fill (drop (suc i) ks) (drop u b) → u + sum (drop (suc i) ks) ≤ length b
        → Filled ks b row₀ (set row i a) (i + 1) u
    fill_pass a u h e r =
        rw add-one
        (record {
          within = h;
          is = rw f.is (front-next row₀ (fill ks b) i a _ (omega arith) e);
          long = length-set row i a ∙ f.long;
          rest = drop-next (fill ks b) i a _ e;
          room = r;
        })

    pub fill_frozen : i < length ks → get_or ks i 0 ≡ 0 → Filled ks b row₀ (set row i 0) (i + 1) used
    unfolding sum
    fill_frozen h z =
        let e : drop i ks ≡ 0 ∷ drop (suc i) ks = drop-cons ks i 0 h ∙ ap (λ (k : ℕ). k ∷ drop (suc i) ks) z in
        fill_pass 0 used h (f.rest ∙ ap (λ (l : List ℕ). fill l (drop used b)) e) (omega (arith, ap sum e, f.room))

    -- a row that holds 0 there needs no write
    pub fill_kept : i < length ks → get_or ks i 0 ≡ 0 → get_or row₀ i 0 ≡ 0 → Filled ks b row₀ row (i + 1) used
    fill_kept h z k =
        let held : get_or row i 0 ≡ 0 = rw f.is (front-after row₀ (fill ks b) i i 0 (omega arith) (omega (arith, length-fill ks b)) (omega arith)) ∙ k in
        let same : set row i 0 ≡ row = ap (set row i) (sym held) ∙ set-get_or row i 0 in
        subst (λ (l : List ℕ). Filled ks b row₀ l (i + 1) used) same (fill_frozen h z)

    module _ (h : i < length ks) (k : ℕ) (is-kind : get_or ks i 0 ≡ suc k) where
      kinds-left : drop i ks ≡ suc k ∷ drop (suc i) ks
      kinds-left = drop-cons ks i 0 h ∙ ap (λ (n : ℕ). n ∷ drop (suc i) ks) is-kind

      room-left : suc used + sum (drop (suc i) ks) ≤ length b
      unfolding sum
      room-left = omega (arith, ap sum kinds-left, f.room)

      fill_one : Filled ks b row₀ (set row i (get_or b used 0)) (i + 1) (used + 1)
      fill_one =
          let e : drop used b ≡ get_or b used 0 ∷ drop (suc used) b = drop-cons b used 0 (omega (arith, room-left)) in
          let g = f.rest ∙ ap (λ (l : List ℕ). fill l (drop used b)) kinds-left ∙ ap (fill (suc k ∷ drop (suc i) ks)) e in
          subst (Filled ks b row₀ (set row i (get_or b used 0)) (i + 1)) (sym (add-one used)) (fill_pass (get_or b used 0) (suc used) h g room-left)

    module _ (h : i < length ks) (one : get_or ks i 0 ≡ 0 → ⊥) where
      pub bit_left : used < length b
      bit_left = omega (arith, room-left h (get_or ks i 0 - 1) (omega arith))

      pub fill_information : Filled ks b row₀ (set row i (get_or b used 0)) (i + 1) (used + 1)
      fill_information = fill_one h (get_or ks i 0 - 1) (omega arith)

    pub fill_ends : length ks ≤ i → row ≡ fill ks b
    fill_ends h =
        let e : drop i (fill ks b) ≡ [] = f.rest ∙ ap (λ (l : List ℕ). fill l (drop used b)) (drop_of_length-le ks {i = i} h) in
        f.is ∙ front-done row₀ (fill ks b) i (omega arith) e

-- ---- first_frozen_one: i kinds are passed
abbrev pub Passed : List ℕ → List ℕ → ℕ → Type 0
Passed ks u i = (i ≤ length ks) × (first_frozen_one ks u ≡ i + first_frozen_one (drop i ks) (drop i u))

one-passed : (k a : ℕ) (ks u : List ℕ) → (k ≡ 0 → a ≡ 0) → first_frozen_one (k ∷ ks) (a ∷ u) ≡ suc (first_frozen_one ks u)
unfolding first_frozen_one
one-passed zero zero ks u h = refl
one-passed zero (suc a) ks u h = absurd (suc-ne-zero a (h refl))
one-passed (suc k) a ks u h = refl

one_found : (k a : ℕ) (ks u : List ℕ) → k ≡ 0 → (a ≡ 0 → ⊥) → first_frozen_one (k ∷ ks) (a ∷ u) ≡ 0
unfolding first_frozen_one
one_found zero zero ks u z h = absurd (h refl)
one_found zero (suc a) ks u z h = refl
one_found (suc k) a ks u z h = absurd (suc-ne-zero k z)

module _ (ks u : List ℕ) (i : ℕ) (same : length u ≡ length ks) (p : Passed ks u i) where
  module _ (h : i < length ks) where
    next-kind : first_frozen_one ks u ≡ i + first_frozen_one (get_or ks i 0 ∷ drop (suc i) ks) (get_or u i 0 ∷ drop (suc i) u)
    next-kind = p.1 ∙ rw (drop-cons ks i 0 h, drop-cons u i 0 (omega arith)) refl

    pub pass : (get_or ks i 0 ≡ 0 → get_or u i 0 ≡ 0) → Passed ks u (i + 1)
    pass k = rw add-one (h, omega (arith, next-kind, one-passed (get_or ks i 0) (get_or u i 0) (drop (suc i) ks) (drop (suc i) u) k))

    pub is-first : get_or ks i 0 ≡ 0 → (get_or u i 0 ≡ 0 → ⊥) → i ≡ first_frozen_one ks u
    is-first z k = omega (arith, next-kind, one_found (get_or ks i 0) (get_or u i 0) (drop (suc i) ks) (drop (suc i) u) z k)

    pub found : get_or ks i 0 ≡ 0 → (get_or u i 0 ≡ 0 → ⊥) → Some i ≡ found_frozen_one ks u
    found z k = rw (← is-first z k, lt-ltb i (length ks) h) refl

  pub none_found : length ks ≤ i → i ≡ first_frozen_one ks u
  unfolding first_frozen_one
  none_found h = omega (arith, p.1, ap (λ (l : List ℕ). first_frozen_one l (drop i u)) (drop_of_length-le ks {i = i} h))

-- ---- some_frozen_one: i kinds are passed, or one was found
abbrev pub Seen : List ℕ → List ℕ → ℕ → Bool → Type 0
Seen ks u i some = ((some ≡ false) × Passed ks u i) ⊎ ((some ≡ true) × (first_frozen_one ks u < length ks))

-- whether an index is frozen and 1, as it is tested
here : (k a : ℕ) → (((eqb k 0 && not (eqb a 0)) ≡ false) × (k ≡ 0 → a ≡ 0)) ⊎ (((eqb k 0 && not (eqb a 0)) ≡ true) × (k ≡ 0) × (a ≡ 0 → ⊥))
here zero zero = inl (refl, λ z. refl)
here zero (suc a) = inr (rw (eqb-suc-zero a) refl, refl, suc-ne-zero a)
here (suc k) a = inl (rw (eqb-suc-zero k) refl, λ z. absurd (suc-ne-zero k z))

module _ (ks u : List ℕ) (i : ℕ) (same : length u ≡ length ks) where
  pub see_more : (some : Bool) → i < length ks → Seen ks u i some → Seen ks u (i + 1) (some || (eqb (get_or ks i 0) 0 && not (eqb (get_or u i 0) 0)))
  see_more true h s = inr (refl, ⊎_elim (λ w. absurd (true≢false w.0)) (λ w. w.1) s)
  see_more false h s =
      ⊎_elim
      (λ w. ⊎_elim
      (λ n. inl (n.0, pass ks u i same w.1 h n.1))
      (λ y. inr (y.0, omega (arith, is-first ks u i same w.1 h y.1 y.2)))
      (here (get_or ks i 0) (get_or u i 0)))
      (λ w. absurd (true≢false (sym w.0)))
      s

  pub see_all : (some : Bool) → length ks ≤ i → Seen ks u i some → some ≡ ltb (first_frozen_one ks u) (length ks)
  see_all some h s =
      ⊎_elim
      (λ w. w.0 ∙ sym (le-ltb (first_frozen_one ks u) (length ks) (omega (arith, none_found ks u i same w.1 h))))
      (λ w. w.0 ∙ sym (lt-ltb (first_frozen_one ks u) (length ks) w.1))
      s

most : (ks u : List ℕ) → first_frozen_one ks u ≤ length ks
unfolding first_frozen_one
most [] u = zero-le
most (k ∷ ks) [] = zero-le
most (zero ∷ ks) (zero ∷ u) = suc-le-suc (most ks u)
most (zero ∷ ks) (suc a ∷ u) = zero-le
most (suc k ∷ ks) (a ∷ u) = suc-le-suc (most ks u)

pub none_seen : (ks u : List ℕ) → ltb (first_frozen_one ks u) (length ks) ≡ false → length ks ≡ first_frozen_one ks u
none_seen ks u e = omega (arith, most ks u, ltb-false (first_frozen_one ks u) (length ks) e)
