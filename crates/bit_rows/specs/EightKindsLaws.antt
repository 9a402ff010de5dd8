-- That a code's row of kinds is made of such eights, and the loop that fills it by them.
use Rattle.std.specs.Prelude.{◌≡◌, refl, Bool, true, false, leb, get_or, set, replicate, take, drop}
use Rattle.std.proofs.Math.Path.{ap, ap₂, subst}
use Rattle.std.proofs.Common.{sym, ◌∙◌, ⊎_elim, not-suc-le-zero, le_of_suc-le-suc, pow-add, length-drop, drop_of_length-le, take_at, take_all, drop-drop}
use Rattle.std.proofs.Common.{length-take-le, le-leb}
use Rattle.std.proofs.Math.Bool.{cond}
use mathlib.Core.List.{List, [], ◌∷◌, ◌++◌, append-nil, append_assoc}
use Prim.Native.Nat.{ℕ, zero, suc, ◌+◌, ◌*◌, ◌-◌, ◌^◌, ◌/◌, ◌%◌, ◌≤◌, ◌<◌, zero-le}
use native.Mathlib.Omega.{arith}
use Rattle.std.proofs.Math.Nat.{two-pow-succ, div-div-eq-div-mul}
use Rattle.std.specs.Int.Count as Count
use Rattle.std.proofs.Math.ListN.{length, length-append, get_or-eq_default}
use Rattle.std.proofs.Math.Numerals.{add-one}
use Rattle.std.proofs.Math.Seq.{drop_at, drop-cons}
use Rattle.std.proofs.lemmas.List.{get_or-replicate}
use borrow.Rule.Slice.PartMut.{mid_of, put_mid}
use Rattle.std.proofs.lemmas.Bool.{lt-leb}
use Rattle.numbers.specs.Choice.{lt_or_le}
use Rattle.numbers.specs.Sums.{tabulate, sum}
use Rattle.numbers.specs.SumsLaws.{tabulate_split, tabulate_same, length-tabulate, get_d_tabulate, sum-append}
use Rattle.numbers.specs.Lent.{lent_from}
use Rattle.words.specs.Bits.{Bits, digit, ones}
use Rattle.words.specs.BitLaws.{ones-counted}
use Rattle.words.specs.Kinds.{kind, kinds, fill}
use Rattle.words.proofs.KindLaws.{length-kinds}
use Rattle.words.proofs.FillLaws.{length-fill}
use Rattle.bit_rows.specs.EightKinds.{eight_kinds, Fillable}
use Rattle.bit_rows.specs.FillLaws.{Filled, fill_kept, bit_left, fill_information, fill_ends}

-- ---- the ones of an index, of which the lowest three digits are j
digit_low : (p s j : ℕ) → p < 3 → s % 8 ≡ 0 → j < 8 → digit p (s + j) ≡ digit p s + digit p j
unfolding digit
digit_low zero s j h e k = omega arith
digit_low (suc zero) s j h e k =
    let q : s ≡ 8 * (s / 8) = omega arith in
    let a : (s + j) / 2 ≡ 4 * (s / 8) + j / 2 = omega arith in
    let b : s / 2 ≡ 4 * (s / 8) = omega arith in
    rw (a, b) (omega arith)
digit_low (suc (suc zero)) s j h e k =
    let q : s ≡ 8 * (s / 8) = omega arith in
    let a : (s + j) / 4 ≡ 2 * (s / 8) + j / 4 = omega arith in
    let b : s / 4 ≡ 2 * (s / 8) = omega arith in
    rw (a, b) (omega arith)
digit_low (suc (suc (suc p))) s j h e k = absurd (omega arith)

digit_high : (k s j : ℕ) → s % 8 ≡ 0 → j < 8 → digit (suc (suc (suc k))) (s + j) ≡ digit (suc (suc (suc k))) s
unfolding digit
digit_high k s j e h =
    let q : (s + j) / 8 ≡ s / 8 = omega arith in
    let p : 2 ^ suc (suc (suc k)) ≡ 8 * 2 ^ k = omega (arith, two-pow-succ k, two-pow-succ (suc k), two-pow-succ (suc (suc k))) in
    rw (p, ← div-div-eq-div-mul (s + j) 8 (2 ^ k), ← div-div-eq-div-mul s 8 (2 ^ k), q)

pub ones_apart : (k s j : ℕ) → s % 8 ≡ 0 → j < 8 → ones (suc (suc (suc k))) (s + j) ≡ ones (suc (suc (suc k))) s + ones 3 j
unfolding ones
ones_apart zero s j e h =
    omega (arith, digit_low 0 s j (omega arith) e h, digit_low 1 s j (omega arith) e h, digit_low 2 s j (omega arith) e h)
ones_apart (suc k) s j e h = omega (arith, ones_apart k s j e h, digit_high k s j e h)

-- ---- the kinds of eight indices from s on
needed : (a b c : ℕ) → leb a (b + c) ≡ leb (a - b) c
needed a b c =
    ⊎_elim (λ h. lt-leb a (b + c) h ∙ sym (lt-leb (a - b) c (omega arith)))
    (λ h. le-leb a (b + c) h ∙ sym (le-leb (a - b) c (omega arith)))
    (lt_or_le (b + c) a)

module _ (r m s : ℕ) (eight : 3 ≤ m) (e : s % 8 ≡ 0) (within : s + 8 ≤ 2 ^ m) where
  kind_apart : (j : ℕ) → j < 8 → kind r m (s + j) ≡ cond (leb (m - r - ones m s) (ones 3 j)) 1 0
  unfolding kind
  kind_apart j h =
      let q : m ≡ suc (suc (suc (m - 3))) = omega arith in
      let apart : ones m (s + j) ≡ ones m s + ones 3 j =
      subst (λ (n : ℕ). ones n (s + j) ≡ ones n s + ones 3 j) (sym q) (ones_apart (m - 3) s j e h) in
      rw (apart, needed (m - r) (ones m s) (ones 3 j))

  pub eight_kinds_lem : drop s (kinds r m) ≡ eight_kinds (m - r - ones m s) ++ drop (s + 8) (kinds r m)
  unfolding kinds eight_kinds
  eight_kinds_lem =
      let f = kind r m in
      let g = tabulate (λ i. f (s + i)) 8 in
      let p : 2 ^ m ≡ s + 8 + (2 ^ m - (s + 8)) = omega arith in
      let last = tabulate (λ i. f (s + 8 + i)) (2 ^ m - (s + 8)) in
      let front = tabulate f s in
      let cut : tabulate f (2 ^ m) ≡ (front ++ g) ++ last =
      ap (tabulate f) p ∙ tabulate_split f (s + 8) (2 ^ m - (s + 8)) ∙ ap (λ (l : List ℕ). l ++ last) (tabulate_split f s 8) in
      let long : length front ≡ s = length-tabulate f s in
      let long2 : length (front ++ g) ≡ s + 8 =
      length-append front g ∙ ap₂ ◌+◌ long (length-tabulate (λ i. f (s + i)) 8) in
      ap (drop s) (cut ∙ append_assoc front g last)
      ∙ drop_at front (g ++ last) s long
      ∙ ap₂ ◌++◌ (tabulate_same (λ i. f (s + i)) (λ j. cond (leb (m - r - ones m s) (ones 3 j)) 1 0) 8 kind_apart)
      (sym (ap (drop (s + 8)) cut ∙ drop_at (front ++ g) last (s + 8) long2))

pub length-eight_kinds : (d : ℕ) → length (eight_kinds d) ≡ 8
unfolding eight_kinds
length-eight_kinds d = length-tabulate (λ j. cond (leb d (ones 3 j)) 1 0) 8

pub same_kinds : (d k : ℕ) → d ≡ k → eight_kinds d ≡ eight_kinds k
same_kinds d k e = ap eight_kinds e

-- four ones are in none of them
pub no_kinds : (d : ℕ) → 4 ≤ d → eight_kinds d ≡ eight_kinds 4
unfolding eight_kinds tabulate ones digit
no_kinds d h = rw (lt-leb d 0 (omega arith), lt-leb d 1 (omega arith), lt-leb d 2 (omega arith), lt-leb d 3 (omega arith))

-- ---- the bits in front, one by one
pub first_of : (n : ℕ) (b : List ℕ) → n ≤ length b → b ≡ tabulate (λ i. get_or b i 0) n ++ drop n b
unfolding tabulate
first_of zero b h = refl
first_of (suc n) [] h = absurd (not-suc-le-zero h)
first_of (suc n) (a ∷ b) h = ap (λ (l : List ℕ). a ∷ l) (first_of n b (le_of_suc-le-suc h))

-- ---- filling by parts
pub fill-append : (p q b : List ℕ) → Bits p → sum p ≤ length b → fill (p ++ q) b ≡ fill p b ++ fill q (drop (sum p) b)
unfolding sum
fill-append [] q b h k = refl
fill-append (zero ∷ p) q b h k =
    let e : 0 + sum p ≡ sum p = omega arith in
    rw e (ap (λ (l : List ℕ). 0 ∷ l) (fill-append p q b (λ i. h (suc i)) (omega arith)))
fill-append (suc zero ∷ p) q [] h k = absurd (omega arith)
fill-append (suc zero ∷ p) q (a ∷ b) h k =
    let e : 1 + sum p ≡ suc (sum p) = omega arith in
    rw e (ap (λ (l : List ℕ). a ∷ l) (fill-append p q b (λ i. h (suc i)) (omega arith)))
fill-append (suc (suc x) ∷ p) q b h k = absurd (omega (arith, h 0))

bit : (z : Bool) → cond z 1 0 < 2
bit true = omega arith
bit false = omega arith

bits_eight_kinds : (d : ℕ) → Bits (eight_kinds d)
unfolding eight_kinds
bits_eight_kinds d i =
    let f : ℕ → ℕ = λ j. cond (leb d (ones 3 j)) 1 0 in
    ⊎_elim (λ h. rw (get_d_tabulate f 8 i 0 h) (bit (leb d (ones 3 i))))
    (λ h. rw (get_or-eq_default (tabulate f 8) 0 {n = i} (rw (length-tabulate f 8) h)) (omega arith))
    (lt_or_le i 8)

-- ---- a loop that fills eight indices one by one: those before j are filled and took `used` bits
pub record OfEight (d : ℕ) (bits row : List ℕ) (j used : ℕ) : Type 0 where
  pub filled : Filled (eight_kinds d) bits (replicate 8 0) row j used
  pub left : used + sum (drop j (eight_kinds d)) ≡ sum (eight_kinds d)

same_length : (d : ℕ) → length {A = ℕ} (replicate 8 0) ≡ length (eight_kinds d)
same_length d = sym (length-eight_kinds d)

module _ (d : ℕ) (bits row : List ℕ) (j used : ℕ) (w : OfEight d bits row j used) where
  within : j < 8 → j < length (eight_kinds d)
  within h = rw (length-eight_kinds d) h

  kind-counted : j < 8 → get_or (eight_kinds d) j 0 ≡ cond (leb d (Count.ones j)) 1 0
  unfolding eight_kinds
  kind-counted h =
      get_d_tabulate (λ i. cond (leb d (ones 3 i)) 1 0) 8 j 0 h ∙ ap (λ (n : ℕ). cond (leb d n) 1 0) (sym (ones-counted 3 j h))

  kinds-left : j < 8 → drop j (eight_kinds d) ≡ get_or (eight_kinds d) j 0 ∷ drop (j + 1) (eight_kinds d)
  kinds-left h = drop-cons (eight_kinds d) j 0 (within h) ∙ rw add-one refl

  pub eight_frozen : j < 8 → Count.ones j < d → OfEight d bits row (j + 1) used
  unfolding sum
  eight_frozen h few =
      let none : get_or (eight_kinds d) j 0 ≡ 0 = kind-counted h ∙ rw (lt-leb d (Count.ones j) few) refl in
      record {
        filled = fill_kept _ _ _ (same_length d) _ _ _ w.filled (within h) none (get_or-replicate 8 j 0 0 h);
        left = omega (arith, ap sum (kinds-left h), none, w.left);
      }

  module _ (h : j < 8) (enough : d ≤ Count.ones j) where
    one : get_or (eight_kinds d) j 0 ≡ 1
    one = kind-counted h ∙ rw (le-leb d (Count.ones j) enough) refl

    pub eight_bit_left : used < length bits
    eight_bit_left = bit_left _ _ _ (same_length d) _ _ _ w.filled (within h) (λ z. absurd (omega (arith, one)))

    pub eight_information : OfEight d bits (set row j (get_or bits used 0)) (j + 1) (used + 1)
    unfolding sum
    eight_information = record {
      filled = fill_information _ _ _ (same_length d) _ _ _ w.filled (within h) (λ z. absurd (omega (arith, one)));
      left = omega (arith, ap sum (kinds-left h), one, w.left);
    }

  pub eight_ends : 8 ≤ j → (row ≡ fill (eight_kinds d) bits) × (used ≡ sum (eight_kinds d))
  unfolding sum
  eight_ends h =
      let all : length (eight_kinds d) ≤ j = omega (arith, length-eight_kinds d) in (
        fill_ends _ _ _ (same_length d) _ _ _ w.filled all,
        omega (arith, ap sum (drop_of_length-le (eight_kinds d) {i = j} all), w.left),
      )

-- ---- a loop that fills eight indices per pass: those before s are filled and took `used` bits
pub record ByEights (r m : ℕ) (bits row : List ℕ) (s used : ℕ) : Type 0 where
  pub whole : s % 8 ≡ 0
  pub within : s ≤ 2 ^ m
  pub long : length row ≡ 2 ^ m
  pub is : take s row ++ fill (drop s (kinds r m)) (drop used bits) ≡ fill (kinds r m) bits
  pub room : used + sum (drop s (kinds r m)) ≤ length bits

pub eights_start : (r m : ℕ) (bits row : List ℕ) → Fillable r m bits row → ByEights r m bits row 0 0
eights_start r m bits row f = record { whole = refl; within = zero-le; long = f.long_row; is = refl; room = omega (arith, f.enough) }

-- from m = 3 on the row is whole blocks of eight
whole_eights : (m : ℕ) → 3 ≤ m → 2 ^ m ≡ 8 * 2 ^ (m - 3)
whole_eights m eight =
    let q : 3 + (m - 3) ≡ m = omega arith in
    ap (λ (n : ℕ). 2 ^ n) (sym q) ∙ pow-add 2 3 (m - 3)

module _ (r m : ℕ) (bits row : List ℕ) (s used : ℕ) (w : ByEights r m bits row s used) where
  pub eights_end : 2 ^ m ≤ s → row ≡ fill (kinds r m) bits
  eights_end h =
      let none = drop_of_length-le (kinds r m) {i = s} (omega (arith, length-kinds r m)) in
      sym (append-nil row)
      ∙ ap₂ ◌++◌ (sym (take_all s row (omega (arith, w.long)))) (sym (ap (λ (ks : List ℕ). fill ks (drop used bits)) none))
      ∙ w.is

  -- by the length of the row that is to be filled
  pub eights_end_row : {row₀ : List ℕ} → Fillable r m bits row₀ → length row₀ / 8 * 8 ≤ s → row ≡ fill (kinds r m) bits
  eights_end_row f h = eights_end (omega (arith, f.long_row, whole_eights m f.eight))

  module _ (eight : 3 ≤ m) (more : s < 2 ^ m) where
    -- a whole block is there
    pub block_within : s + 8 ≤ 2 ^ m
    block_within = omega (arith, w.whole, whole_eights m eight)

    -- its kinds, and those that are left
    cut : drop s (kinds r m) ≡ eight_kinds (m - r - ones m s) ++ drop (s + 8) (kinds r m)
    cut = eight_kinds_lem r m s eight w.whole block_within

    sums : sum (drop s (kinds r m)) ≡ sum (eight_kinds (m - r - ones m s)) + sum (drop (s + 8) (kinds r m))
    sums = ap sum cut ∙ sum-append (eight_kinds (m - r - ones m s)) (drop (s + 8) (kinds r m))

    pub enough_left : used + sum (eight_kinds (m - r - ones m s)) ≤ length bits
    enough_left = omega (arith, sums, w.room)

    pub eights_more : (out : List ℕ) → out ≡ fill (eight_kinds (m - r - ones m s)) (drop used bits)
        → ByEights r m bits (take s row ++ (out ++ drop (s + 8) row)) (s + 8) (used + sum (eight_kinds (m - r - ones m s)))
    eights_more out e =
        let p = eight_kinds (m - r - ones m s) in
        let ks = drop (s + 8) (kinds r m) in
        let front = take s row in
        let tail = drop (s + 8) row in
        let lo : length out ≡ 8 = ap length e ∙ length-fill p (drop used bits) ∙ length-eight_kinds (m - r - ones m s) in
        let lf : length front ≡ s = length-take-le s row (omega (arith, w.long, w.within)) in
        let lfo : length (front ++ out) ≡ s + 8 = length-append front out ∙ ap₂ ◌+◌ lf lo in
        let lt : length tail ≡ 2 ^ m - (s + 8) = length-drop (s + 8) row ∙ ap (λ (n : ℕ). n - (s + 8)) w.long in
        let parts = append_assoc front out tail in
        let both : fill (p ++ ks) (drop used bits) ≡ out ++ fill ks (drop (used + sum p) bits) =
        fill-append p ks (drop used bits) (bits_eight_kinds (m - r - ones m s)) (simp length-drop (omega (arith, enough_left)))
        ∙ ap₂ (λ (a b : List ℕ). a ++ fill ks b) (sym e) (drop-drop (sum p) used bits) in
        record {
          whole = omega (arith, w.whole);
          within = block_within;
          long = ap length (sym parts) ∙ length-append (front ++ out) tail ∙ omega (arith, lfo, lt, block_within);
          is =
              ap (λ (l : List ℕ). l ++ fill ks (drop (used + sum p) bits))
              (ap (take (s + 8)) (sym parts) ∙ take_at (front ++ out) tail (s + 8) lfo)
              ∙ append_assoc front out (fill ks (drop (used + sum p) bits))
              ∙ ap (λ (l : List ℕ). front ++ l) (sym both)
              ∙ ap (λ (l : List ℕ). front ++ fill l (drop used bits)) (sym cut)
              ∙ w.is;
          room = omega (arith, sums, w.room);
        }

    -- the same for the parts that are lent, when the code has counted the ones of s
    module _ (d : ℕ) (counted : d ≡ m - r - Count.ones s) where
      is-needed : d ≡ m - r - ones m s
      is-needed = counted ∙ ap (λ (n : ℕ). m - r - n) (ones-counted m s more)

      pub eight_asked : (length (mid_of s (s + 8 - s) row) ≡ 8) × (sum (eight_kinds d) ≤ length (mid_of used (length bits - used) bits))
      eight_asked =
          let q : s + 8 - s ≡ 8 = omega arith in (
            rw q (length-take-le 8 (drop s row) (simp length-drop (omega (arith, w.long, block_within)))),
            rw (lent_from used bits, is-needed) (simp length-drop (omega (arith, enough_left))),
          )

      pub eight_back : (out : List ℕ) (taken : ℕ) → (out ≡ fill (eight_kinds d) (mid_of used (length bits - used) bits)) × (taken ≡ sum (eight_kinds d))
          → ByEights r m bits (put_mid s (s + 8 - s) row out) (s + 8) (used + taken)
      eight_back out taken e =
          let q : s + 8 - s ≡ 8 = omega arith in
          let is : out ≡ fill (eight_kinds (m - r - ones m s)) (drop used bits) = rw (← is-needed, ← lent_from used bits) e.0 in
          rw (q, drop-drop 8 s row, e.1, is-needed) (eights_more out is)
