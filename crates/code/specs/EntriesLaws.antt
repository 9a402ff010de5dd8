-- Laws of the lowest bad place: where it is, and what holds for all entries if there is none.
use Rattle.std.specs.Prelude.{◌≡◌, refl, Bool, true, false, ◌||◌, ℤ, pos, negsuc, nat_abs, neg_ℤ, ◌-ℤ◌, length, get_or, drop}
use Rattle.std.proofs.Math.Path.{ap, sym}
use Rattle.std.proofs.Common.{◌∙◌, true≢false, arith, not-suc-le-zero, le_of_suc-le-suc, drop_of_length-le, drop-cons, lt-ltb, le-ltb}
use Rattle.std.proofs.Math.Bool.{or-false}
use mathlib.Core.List.{List, [], ◌∷◌}
use Rattle.std.proofs.Math.Logic.{⊎_elim}
use Prim.Native.Nat.{ℕ, zero, suc, ◌+◌, ◌^◌, ◌≤◌, ◌<◌, zero-le}
use Rattle.std.proofs.Math.Numerals.{add-one}
use Rattle.std.proofs.Math.Nat.{suc_inj}
use Rattle.std.proofs.Math.Dec.{ltb}
use Rattle.std.specs.Int.Signed.{lt_z}
use Rattle.std.proofs.Math.ListN.{get_or-eq_default}
use Rattle.std.specs.Int.{w16}
use mir.Val.{SFits, hbits}
use Rattle.numbers.specs.Choice.{lt_or_le}
use Rattle.numbers.specs.Parts.{up, down}
use Rattle.numbers.specs.PartsLaws.{parts, negated, sum_parts, fits_size, less_parts, not_less_parts}
use Rattle.words.specs.Bits.{Bits}
use Rattle.code.specs.Entries.{first_above, some_above, first_bad_bit, first_bad_reading}

module _ {A : Type 0} (d : A) (number : A → ℕ) (limit : ℕ) where
  -- all entries before place i are good
  abbrev pub GoodBefore : List A → ℕ → Type 0
  GoodBefore l i = (j : ℕ) → j < i → number (get_or l j d) ≤ limit

  -- a bad entry after good ones is the first
  pub first-here : (l : List A) (i : ℕ) → GoodBefore l i → i < length l → limit < number (get_or l i d) → i ≡ first_above number limit l
  unfolding first_above
  first-here [] i g h k = absurd (not-suc-le-zero h)
  first-here (x ∷ l) zero g h k = rw (lt-ltb limit (number x) k)
  first-here (x ∷ l) (suc i) g h k =
      rw (le-ltb limit (number x) (g 0 (omega arith))) (ap suc (first-here l i (λ j m. g (suc j) (omega arith)) (le_of_suc-le-suc h) k))

  -- one more good entry
  pub good_more : (l : List A) (i : ℕ) → GoodBefore l i → number (get_or l i d) ≤ limit → GoodBefore l (i + 1)
  good_more l i g h j m =
      ⊎_elim (λ k. g j k) (λ k. let e : j ≡ i = omega arith in rw e h) (lt_or_le j i)

  -- no bad entry
  pub first-none : (l : List A) (i : ℕ) → GoodBefore l i → i ≡ length l → i ≡ first_above number limit l
  unfolding first_above
  first-none [] i g e = e
  first-none (x ∷ l) zero g e = absurd (omega arith)
  first-none (x ∷ l) (suc i) g e =
      rw (le-ltb limit (number x) (g 0 (omega arith))) (ap suc (first-none l i (λ j m. g (suc j) (omega arith)) (suc_inj e)))

  -- and back: if the place is the length, every entry is good
  pub all_good : (l : List A) → length l ≤ first_above number limit l → GoodBefore l (length l)
  unfolding first_above
  all_good [] h j m = absurd (not-suc-le-zero m)
  all_good (x ∷ l) h zero m =
      ⊎_elim (λ k. absurd (not-suc-le-zero (rw (lt-ltb limit (number x) k) at h))) (λ k. k) (lt_or_le limit (number x))
  all_good (x ∷ l) h (suc j) m =
      ⊎_elim (λ k. absurd (not-suc-le-zero (rw (lt-ltb limit (number x) k) at h)))
      (λ k. all_good l (le_of_suc-le-suc (rw (le-ltb limit (number x) k) at h)) j (le_of_suc-le-suc m))
      (lt_or_le limit (number x))

  -- the same at every place, if the default is good too
  pub all_good_everywhere : (l : List A) → length l ≤ first_above number limit l → number d ≤ limit → (i : ℕ) → number (get_or l i d) ≤ limit
  all_good_everywhere l h k i = ⊎_elim (all_good l h i) (λ m. rw (get_or-eq_default l d {n = i} m) k) (lt_or_le i (length l))

-- ---- a loop that only asks whether there is a bad entry: it has tested i of them and found `some`
or_assoc : (a b c : Bool) → ((a || b) || c) ≡ (a || (b || c))
or_assoc true b c = refl
or_assoc false b c = refl

module _ {A : Type 0} (d : A) (number : A → ℕ) (limit : ℕ) (l : List A) where
  abbrev pub Asked : ℕ → Bool → Type 0
  Asked i some = (i ≤ length l) × ((some || some_above number limit (drop i l)) ≡ some_above number limit l)

  pub ask_more : (i : ℕ) (some : Bool) → i < length l → Asked i some → Asked (i + 1) (some || ltb limit (number (get_or l i d)))
  unfolding some_above
  ask_more i some h a =
      let t = ltb limit (number (get_or l i d)) in
      rw add-one (
        h,
        or_assoc some t (some_above number limit (drop (suc i) l))
            ∙ ap (λ (r : List A). some || some_above number limit r) (sym (drop-cons l i d h))
            ∙ a.1,
      )

  pub asked_all : (i : ℕ) (some : Bool) → length l ≤ i → Asked i some → some ≡ some_above number limit l
  unfolding some_above
  asked_all i some h a =
      sym (or-false some) ∙ ap (λ (r : List A). some || some_above number limit r) (sym (drop_of_length-le l {i = i} h)) ∙ a.1

-- if there is none, the place is the length
pub none_above : {A : Type 0} (number : A → ℕ) (limit : ℕ) (l : List A) → some_above number limit l ≡ false → length l ≡ first_above number limit l
unfolding some_above first_above
none_above number limit [] e = refl
none_above number limit (x ∷ l) e =
    ⊎_elim (λ k. absurd (true≢false (rw (lt-ltb limit (number x) k) at e)))
    (λ k. rw (le-ltb limit (number x) k) (ap suc (none_above number limit l (rw (le-ltb limit (number x) k) at e))))
    (lt_or_le limit (number x))

pub good_bits : (l : List ℕ) → length l ≤ first_bad_bit l → Bits l
good_bits l h i = omega (arith, all_good_everywhere 0 (λ b. b) 1 l h zero-le i)

pub good_readings : (largest : ℕ) (l : List ℤ) → length l ≤ first_bad_reading largest l → (i : ℕ) → nat_abs (get_or l i (pos 0)) ≤ largest
good_readings largest l h = all_good_everywhere (pos 0) nat_abs largest l h zero-le

-- the two signed tests of the code are one test on the size
up_fits : (z : ℤ) → down z ≡ 0 → SFits w16 z → up z < 2 ^ hbits w16
up_fits (pos n) e f = f.sfits
up_fits (negsuc n) e f = absurd (omega arith)

module _ (x largest : ℤ) (least : down largest ≡ 0) where
  abbrev low : ℤ
  low = pos 0 -ℤ largest

  low_parts : (up low ≡ 0) × (down low ≡ up largest)
  low_parts = omega (arith, sum_parts (pos 0) (neg_ℤ largest), negated largest, parts low)

  pub low_fits : SFits w16 largest → SFits w16 low
  low_fits f = fits_size low (omega (arith, up_fits largest least f, low_parts, parts low))

  pub beyond_below : lt_z x low ≡ true → true ≡ ltb (up largest) (nat_abs x)
  beyond_below e = sym (lt-ltb (up largest) (nat_abs x) (omega (arith, less_parts x low e, low_parts, parts x)))

  above : (b : Bool) → lt_z largest x ≡ b → lt_z x low ≡ false → b ≡ ltb (up largest) (nat_abs x)
  above true e f = sym (lt-ltb (up largest) (nat_abs x) (omega (arith, less_parts largest x e, parts x)))
  above false e f = sym (le-ltb (up largest) (nat_abs x) (omega (arith, not_less_parts largest x e, not_less_parts x low f, low_parts, parts x)))

  pub beyond_above : lt_z x low ≡ false → lt_z largest x ≡ ltb (up largest) (nat_abs x)
  beyond_above = above (lt_z largest x) refl
