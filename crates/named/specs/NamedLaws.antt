-- Laws of rows that name indices: the kinds left, the test, and what the loops over a row have found so far.
use Rattle.std.specs.Prelude.{◌≡◌, Bool, true, false, ◌&&◌, ◌||◌, ℕ, zero, suc, ◌+◌, ◌^◌, ◌≤◌, ◌<◌, length, get_or, drop, replicate, Result, Ok, Err}
use Rattle.std.proofs.Math.Path.{refl, ap, ap₂}
use Rattle.std.specs.Result.{is_err}
use Rattle.std.proofs.Common.{sym, ◌∙◌, subst, ⊎_elim, true≢false, zero-le, suc-ne-zero, drop_of_length-le}
use Rattle.std.proofs.Math.Bool.{not}
use mathlib.Core.List.{List, [], ◌∷◌}
use native.Mathlib.Omega.{arith}
use Rattle.std.proofs.Math.Decide.{ℕ_discrete}
use Rattle.std.proofs.Math.Nat.{suc_inj}
use Rattle.std.proofs.Math.Numerals.{add-one}
use Rattle.std.proofs.lemmas.List.{length-replicate}
use Rattle.std.proofs.Math.Seq.{drop-cons}
use Rattle.std.proofs.Math.Dec.{ltb, eqb}
use borrow.Author.Tests.{eq-eqb, ne_eqb, eqb-true, lt-ltb, le-ltb, ltb-true, ltb-false, not-true}
use Rattle.numbers.specs.Choice.{lt_or_le}
use Rattle.numbers.specs.Sums.{sum}
use Rattle.words.specs.Bits.{Bits}
use Rattle.words.specs.Kinds.{kinds, Frozen}
use Rattle.words.proofs.KindLaws.{length-kinds, bits_kinds, sum_kinds_pos}
use Rattle.words.specs.TransformLaws.{bits_zeros}
use Rattle.code.specs.declared.Code.{Code}
use Rattle.code.specs.declared.Refusal.{Refusal}
use Rattle.code.specs.declared.Refusal.TheVariants.{Parameters, Named}
use Rattle.code.specs.Sound.{Sound, made, rm}
use Rattle.code.specs.SoundLaws.{made_refused, made_of}
use Rattle.code.specs.Entries.{first_bad_bit}
use Rattle.code.specs.EntriesLaws.{good_bits, first-none}
use Rattle.code.specs.Admitted.{bits_tested}
use Rattle.code.specs.AdmittedLaws.{entry_refused, entry_passed}
use Rattle.named.specs.Named.{kind_left, left, GoodRow, named_frozen, names_frozen, good_row, row_admitted}

-- ---- the kinds left
kind_left_frozen : (a : ℕ) → kind_left a 0 ≡ 0
kind_left_frozen zero = refl
kind_left_frozen (suc a) = refl

kind_left_bit : (a k : ℕ) → k < 2 → kind_left a k < 2
kind_left_bit zero k h = h
kind_left_bit (suc a) k h = omega arith

pub kind_left_named : (a k : ℕ) → (a ≡ 0 → ⊥) → kind_left a k ≡ 0
kind_left_named zero k f = absurd (f refl)
kind_left_named (suc a) k f = refl

pub left_at : (named ks : List ℕ) (i : ℕ) → get_or (left named ks) i 0 ≡ kind_left (get_or named i 0) (get_or ks i 0)
unfolding left
left_at [] ks i = refl
left_at (a ∷ named) [] i = sym (kind_left_frozen (get_or (a ∷ named) i 0))
left_at (a ∷ named) (k ∷ ks) zero = refl
left_at (a ∷ named) (k ∷ ks) (suc i) = left_at named ks i

pub length-left : (named ks : List ℕ) → length (left named ks) ≡ length ks
unfolding left
length-left [] ks = refl
length-left (a ∷ named) [] = refl
length-left (a ∷ named) (k ∷ ks) = ap suc (length-left named ks)

pub bits_left : (named ks : List ℕ) → Bits ks → Bits (left named ks)
bits_left named ks b i = rw (left_at named ks i) (kind_left_bit (get_or named i 0) (get_or ks i 0) (b i))

-- frozen where the code is, and where the row names an index
pub left_frozen : (named ks : List ℕ) → Frozen ks (left named ks)
left_frozen named ks i e = left_at named ks i ∙ ap (kind_left (get_or named i 0)) e ∙ kind_left_frozen (get_or named i 0)

pub left_named : (named ks : List ℕ) (i : ℕ) → get_or named i 0 ≡ 1 → get_or (left named ks) i 0 ≡ 0
left_named named ks i e = left_at named ks i ∙ kind_left_named (get_or named i 0) (get_or ks i 0) (λ z. omega arith)

-- all others are unchanged
pub left_other : (named ks : List ℕ) (i : ℕ) → get_or named i 0 ≡ 0 → get_or (left named ks) i 0 ≡ get_or ks i 0
left_other named ks i e = left_at named ks i ∙ ap (λ (a : ℕ). kind_left a (get_or ks i 0)) e

-- an empty choice leaves all
pub left-all : (n : ℕ) (ks : List ℕ) → left (replicate n 0) ks ≡ ks
unfolding left
left-all zero ks = refl
left-all (suc n) [] = refl
left-all (suc n) (k ∷ ks) = ap (λ (l : List ℕ). k ∷ l) (left-all n ks)

-- ---- the test decides whether a row is good
or_left : (a b : Bool) → (a || b) ≡ false → a ≡ false
or_left true b e = e
or_left false b e = refl

or_right : (a b : Bool) → (a || b) ≡ false → b ≡ false
or_right true b e = absurd (true≢false e)
or_right false b e = e

and_left : (a b : Bool) → (a && b) ≡ true → a ≡ true
and_left true b e = refl
and_left false b e = e

and_right : (a b : Bool) → (a && b) ≡ true → b ≡ true
and_right true b e = e
and_right false b e = absurd (true≢false (sym e))

is_named : (a k : ℕ) → (a ≡ 0 → ⊥) → k ≡ 0 → named_frozen a k ≡ true
is_named zero k f e = absurd (f refl)
is_named (suc a) zero f e = refl
is_named (suc a) (suc k) f e = absurd (suc-ne-zero k e)

pub named-frozen : (a k : ℕ) → (a ≡ 0 → ⊥) → eqb k 0 ≡ named_frozen a k
named-frozen zero k f = absurd (f refl)
named-frozen (suc a) zero f = refl
named-frozen (suc a) (suc k) f = ne_eqb (suc k) 0 (suc-ne-zero k)

not_both : (a k : ℕ) → ((a ≡ 0 → ⊥) → k ≡ 0 → ⊥) → named_frozen a k ≡ false
not_both zero k f = refl
not_both (suc a) zero f = absurd (f (suc-ne-zero a) refl)
not_both (suc a) (suc k) f = refl

none_frozen : (named ks : List ℕ) → length named ≡ length ks → names_frozen named ks ≡ false → (i : ℕ) → (get_or named i 0 ≡ 0 → ⊥) → get_or ks i 0 ≡ 0 → ⊥
unfolding names_frozen
none_frozen [] ks l e i f g = f refl
none_frozen (a ∷ named) [] l e i f g = suc-ne-zero (length named) l
none_frozen (a ∷ named) (k ∷ ks) l e zero f g = true≢false (sym (is_named a k f g) ∙ or_left (named_frozen a k) (names_frozen named ks) e)
none_frozen (a ∷ named) (k ∷ ks) l e (suc i) f g = none_frozen named ks (suc_inj l) (or_right (named_frozen a k) (names_frozen named ks) e) i f g

frozen_none : (named ks : List ℕ) → ((i : ℕ) → (get_or named i 0 ≡ 0 → ⊥) → get_or ks i 0 ≡ 0 → ⊥) → names_frozen named ks ≡ false
unfolding names_frozen
frozen_none [] ks f = refl
frozen_none (a ∷ named) [] f = refl
frozen_none (a ∷ named) (k ∷ ks) f = ap₂ ◌||◌ (not_both a k (f 0)) (frozen_none named ks (λ i. f (suc i)))

module _ (named ks : List ℕ) (are : Bits ks) where
  pub row_good : good_row named ks ≡ true → GoodRow named ks
  unfolding good_row
  row_good e =
      let place = first_bad_bit named in
      let long = eqb (length named) (length ks) in
      let bad = not (ltb place (length named)) in
      let frozen = not (names_frozen named ks) in
      let some = ltb 0 (sum (left named ks)) in
      let same = eqb-true (length named) (length ks) (and_left long (bad && (frozen && some)) e) in
      let rest = and_right long (bad && (frozen && some)) e in
      let later = and_right bad (frozen && some) rest in
      let none = none_frozen named ks same (not-true (names_frozen named ks) (and_left frozen some later)) in
      record {
        long = same;
        are_bits = good_bits named (ltb-false place (length named) (not-true (ltb place (length named)) (and_left bad (frozen && some) rest)));
        information = λ i h. elim (ℕ_discrete (get_or ks i 0) 0) [
          | yes z ↦ absurd (none i (λ y. omega arith) z)
          | no z ↦ omega (arith, are i)
        ];
        leaves = ltb-true 0 (sum (left named ks)) (and_right frozen some later);
      }

  pub good-row : GoodRow named ks → good_row named ks ≡ true
  unfolding good_row
  good-row g =
      let place = first_bad_bit named in
      let all = first-none 0 (λ b. b) 1 named (length named) (λ j h. omega (arith, g.are_bits j)) refl in
      let none = frozen_none named ks (λ i f z. omega (arith, g.information i (omega (arith, g.are_bits i)))) in
      rw (eq-eqb (length named) (length ks) g.long, le-ltb place (length named) (omega (arith, all)), none, lt-ltb 0 (sum (left named ks)) g.leaves)

  -- each end of the test
  pub wrong_length : (length named ≡ length ks → ⊥) → false ≡ good_row named ks
  unfolding good_row
  wrong_length f = rw (ne_eqb (length named) (length ks) f)

  module _ (long : length named ≡ length ks) where
    pub wrong_byte : first_bad_bit named < length named → false ≡ good_row named ks
    unfolding good_row
    wrong_byte h = rw (eq-eqb (length named) (length ks) long, lt-ltb (first_bad_bit named) (length named) h)

    module _ (bits : length named ≤ first_bad_bit named) where
      pub frozen_named : names_frozen named ks ≡ true → false ≡ good_row named ks
      unfolding good_row
      frozen_named e = rw (eq-eqb (length named) (length ks) long, le-ltb (first_bad_bit named) (length named) bits, e)

      pub none_wrong : names_frozen named ks ≡ false → ltb 0 (sum (left named ks)) ≡ good_row named ks
      unfolding good_row
      none_wrong e = rw (eq-eqb (length named) (length ks) long, le-ltb (first_bad_bit named) (length named) bits, e)

-- what the test of its bytes shows
pub byte_wrong : (named : List ℕ) → is_err (bits_tested named) ≡ true → first_bad_bit named < length named
byte_wrong named e =
    let place = first_bad_bit named in
    ⊎_elim
    (λ h. h)
    (λ h. absurd (true≢false (sym e ∙ ap is_err (sym (entry_passed place (length named) h)))))
    (lt_or_le place (length named))

pub bytes_right : (named : List ℕ) → is_err (bits_tested named) ≡ false → length named ≤ first_bad_bit named
bytes_right named e =
    let place = first_bad_bit named in
    ⊎_elim
    (λ h. absurd (true≢false (ap is_err (entry_refused place (length named) h) ∙ e)))
    (λ h. h)
    (lt_or_le place (length named))

-- ---- the tests 1 and 12
module _ (r m : ℕ) (named : List ℕ) where
  pub row_parameters : {why : Refusal} → made r m ≡ Err why → Err why ≡ row_admitted r m named
  unfolding row_admitted
  row_parameters e = rw e

  module _ (c : Code) (good : made r m ≡ Ok c) where
    pub row_named : good_row named (kinds c.r c.m) ≡ false → Err Named ≡ row_admitted r m named
    unfolding row_admitted
    row_named e = rw (good, e)

    pub row_allowed : good_row named (kinds c.r c.m) ≡ true → Ok c ≡ row_admitted r m named
    unfolding row_admitted
    row_allowed e = rw (good, e)

-- and back: 1 first, then 12 exactly if the row is not a good one
pub data RowDecided (r m : ℕ) (named : List ℕ) : Type 0 where
  bad_parameters : made r m ≡ Err Parameters → Err Parameters ≡ row_admitted r m named → RowDecided r m named
  bad-row : Sound (rm r m) → (GoodRow named (kinds r m) → ⊥) → Err Named ≡ row_admitted r m named → RowDecided r m named
  sound_row : Sound (rm r m) → GoodRow named (kinds r m) → Ok (rm r m) ≡ row_admitted r m named → RowDecided r m named

module _ (r m : ℕ) (named : List ℕ) where
  row_decided_good : (c : Code) (b : Bool) → made r m ≡ Ok c → good_row named (kinds c.r c.m) ≡ b → RowDecided r m named
  row_decided_good c true e f =
      let is = made_of r m c e in
      sound_row (subst Sound is.same is.sound)
      (subst (λ (d : Code). GoodRow named (kinds d.r d.m)) is.same (row_good named (kinds c.r c.m) (bits_kinds c.r c.m) f))
      (ap Ok (sym is.same) ∙ row_allowed r m named c e f)
  row_decided_good c false e f =
      let is = made_of r m c e in
      let bad : GoodRow named (kinds c.r c.m) → ⊥ = λ g. true≢false (sym (good-row named (kinds c.r c.m) (bits_kinds c.r c.m) g) ∙ f) in
      bad-row (subst Sound is.same is.sound) (subst (λ (d : Code). GoodRow named (kinds d.r d.m) → ⊥) is.same bad) (row_named r m named c e f)

  row_decided_by : (x : Result Code Refusal) → made r m ≡ x → RowDecided r m named
  row_decided_by (Ok c) e = row_decided_good c (good_row named (kinds c.r c.m)) e refl
  row_decided_by (Err why) e =
      let is = made_refused r m why e in
      bad_parameters (e ∙ ap Err is) (ap Err (sym is) ∙ row_parameters r m named e)

  pub row_decided : RowDecided r m named
  row_decided = row_decided_by (made r m) refl

  -- what an allowed row shows
  pub allowed_row : (c : Code) → Ok c ≡ row_admitted r m named → (c ≡ rm r m) × Sound c × GoodRow named (kinds c.r c.m)
  allowed_row c e =
      elim row_decided [
        | bad_parameters b f ↦ let z : ◌≡◌ {A = ℕ} 0 1 = cc in absurd (omega arith)
        | bad-row s b f ↦ let z : ◌≡◌ {A = ℕ} 0 1 = cc in absurd (omega arith)
        | sound_row s g f ↦ let same : c ≡ rm r m = cc in rw same (refl, s, g)
      ]

-- an empty choice is a good row
zero_at : (n i : ℕ) → ◌≡◌ {A = ℕ} (get_or (replicate n 0) i 0) 0
zero_at zero i = refl
zero_at (suc n) zero = refl
zero_at (suc n) (suc i) = zero_at n i

pub empty_good : (r m : ℕ) → GoodRow (replicate (2 ^ m) 0) (kinds r m)
empty_good r m =
    record {
      long = length-replicate (2 ^ m) 0 ∙ sym (length-kinds r m);
      are_bits = bits_zeros (2 ^ m);
      information = λ i h. absurd (omega (arith, zero_at (2 ^ m) i));
      leaves = rw (left-all (2 ^ m) (kinds r m)) (sum_kinds_pos r m);
    }

-- ---- loops over a row of as many entries as there are kinds: what is left from index i on
module _ (named ks : List ℕ) where
  -- no frozen index is named before i
  abbrev pub NoneBefore : ℕ → Type 0
  NoneBefore i = (i ≤ length named) × (names_frozen (drop i named) (drop i ks) ≡ names_frozen named ks)

  -- this many are left before i
  abbrev pub CountedBefore : ℕ → ℕ → Type 0
  CountedBefore i count = (i ≤ length named) × (count ≤ i) × (count + sum (left (drop i named) (drop i ks)) ≡ sum (left named ks))

module _ (named ks : List ℕ) (same : length named ≡ length ks) where
  module _ (i : ℕ) (h : i < length named) where
    left-next : left (drop i named) (drop i ks) ≡ kind_left (get_or named i 0) (get_or ks i 0) ∷ left (drop (suc i) named) (drop (suc i) ks)
    unfolding left
    left-next = rw (drop-cons named i 0 h, drop-cons ks i 0 (omega arith))

    frozen_next : names_frozen (drop i named) (drop i ks)
        ≡ (named_frozen (get_or named i 0) (get_or ks i 0) || names_frozen (drop (suc i) named) (drop (suc i) ks))
    unfolding names_frozen
    frozen_next = rw (drop-cons named i 0 h, drop-cons ks i 0 (omega arith))

  pub named_here : (i : ℕ) → i < length named → NoneBefore named ks i → named_frozen (get_or named i 0) (get_or ks i 0) ≡ true → true ≡ names_frozen named ks
  named_here i h before e = sym (ap (λ (t : Bool). t || names_frozen (drop (suc i) named) (drop (suc i) ks)) e) ∙ sym (frozen_next i h) ∙ before.1

  pub not-here : (i : ℕ) → i < length named → NoneBefore named ks i → named_frozen (get_or named i 0) (get_or ks i 0) ≡ false → NoneBefore named ks (i + 1)
  not-here i h before e =
      rw add-one (h, sym (ap (λ (t : Bool). t || names_frozen (drop (suc i) named) (drop (suc i) ks)) e) ∙ sym (frozen_next i h) ∙ before.1)

  pub none_named : (i : ℕ) → length named ≤ i → NoneBefore named ks i → false ≡ names_frozen named ks
  unfolding names_frozen
  none_named i h before = ap (λ (l : List ℕ). names_frozen l (drop i ks)) (sym (drop_of_length-le named {i = i} h)) ∙ before.1

  pub counted_none : CountedBefore named ks 0 0
  counted_none = (zero-le, zero-le, omega arith)

  pub count-more : (i count k : ℕ) → i < length named → CountedBefore named ks i count → Bits ks → k ≡ kind_left (get_or named i 0) (get_or ks i 0)
      → CountedBefore named ks (i + 1) (count + k)
  unfolding sum
  count-more i count k h before are e =
      let next = ap sum (left-next i h) in
      let small = kind_left_bit (get_or named i 0) (get_or ks i 0) (are i) in
      (omega arith, omega (arith, before.1, small), rw add-one (omega (arith, before.2, next, e)))

  pub counted-all : (i count : ℕ) → length named ≤ i → CountedBefore named ks i count → count ≡ sum (left named ks)
  unfolding left sum
  counted-all i count h before =
      let none : left (drop i named) (drop i ks) ≡ [] =
      ap₂ left (drop_of_length-le named {i = i} h) (drop_of_length-le ks {i = i} (omega arith)) in
      omega (arith, before.2, ap sum none)
