-- The outcome at each place where `first_order` returns.
use Rattle.std.specs.Prelude.{◌≡◌, refl, List, ℕ, zero, suc, ◌-◌, ◌^◌, ◌/◌, ◌≤◌, ◌<◌, ℤ, length, Ok, Err}
use Rattle.std.proofs.Common.{ap, sym, ◌∙◌, arith, le_refl, pow_pos, pow_mono, eq-eqb, ne_eqb}
use Rattle.std.proofs.Math.Nat.{two-pow-succ}
use Rattle.words.specs.Kinds.{kinds}
use Rattle.decoding.specs.Readings.{sizes}
use Rattle.decoding.specs.Walk.{tree}
use Rattle.decoding.specs.Answer.{Answer, answer}
use Rattle.decoding.specs.StepLaws.{sizes_within}
use Rattle.decoding.specs.Quick.{hard}
use Rattle.hadamard.specs.Hadamard.{hadamard, entry, first_order, bits_of, LargestTwo}
use Rattle.hadamard.proofs.AnswerLaws.{least-by_place, answer-by_place}
use Rattle.code.specs.declared.Code.{Code}
use Rattle.code.specs.declared.Refusal.{Refusal}
use Rattle.code.specs.declared.Refusal.TheVariants.{Parameters, Tied}
use Rattle.code.specs.Sound.{largest_reading, rm}
use Rattle.code.specs.SoundInput.{SoundReadings}
use Rattle.code.specs.SoundLaws.{length_most}
use Rattle.code.specs.Admitted.{admitted}
use Rattle.code.specs.AdmittedLaws.{allows, refuses, decided, refused_small}
use Rattle.code.specs.RefusalLaws.{carries_none}
use Rattle.search.specs.Outcome.{found_with, refused, by_answer}
use Rattle.search.specs.OutcomeLaws.{searching-refused}
use Rattle.search.specs.Demands.{SoundSearch}
use Rattle.search.specs.DemandsMet.{sound_answered}
use Rattle.first_order.specs.Outcome.{without_visits, as_search, first_ordering}
use Rattle.first_order.specs.Work.{largest_entry}

-- ---- the tests
module _ (r m : ℕ) (l : List ℤ) (bits word : List ℕ) where
  pub other_order : (r ≡ 1 → ⊥) → refused Parameters bits word ≡ first_ordering r m l bits word
  unfolding first_ordering
  other_order h = rw (ne_eqb r 1 h)

  pub first-order : r ≡ 1 → as_search m l bits word ≡ first_ordering r m l bits word
  unfolding first_ordering
  first-order h = rw (eq-eqb r 1 h)

  pub test_refused : (why : Refusal) → Err why ≡ admitted 1 m l (length bits) (length word) → refused why bits word ≡ as_search m l bits word
  test_refused why e =
      let small = refused_small 1 m l (length bits) (length word) why e in
      let plain : without_visits (refused why bits word) ≡ refused why bits word = rw (carries_none why (λ k. omega arith) (λ k. omega arith)) in
      sym (ap without_visits (searching-refused 1 m (tree (kinds 1 m)) l bits word why e) ∙ plain)

-- what the tests allow is the code of r and m
pub allowed_code : (r m : ℕ) (l : List ℤ) (k n : ℕ) (c : Code) → Ok c ≡ admitted r m l k n → c ≡ rm r m
allowed_code r m l k n c e =
    elim (decided r m l k n) [
      | allows d f is a ↦ let same : c ≡ d = cc in same ∙ is
      | refuses why f h ↦ let z : ◌≡◌ {A = ℕ} 0 1 = cc in absurd (omega arith)
    ]

-- from 2 to 256 readings
pub two_or_more : (m : ℕ) → 0 < m → 2 ≤ 2 ^ m
two_or_more zero h = absurd (omega arith)
two_or_more (suc m) h = omega (arith, two-pow-succ m, pow_pos m)

pub power_most : (m : ℕ) → m ≤ 8 → 2 ^ m ≤ 256
power_most m h = pow_mono h

-- sound readings are so small that a size and a place fit one number
pub sums_small : {m : ℕ} {l : List ℤ} {k n : ℕ} → SoundReadings (rm 1 m) l k n → sizes l < largest_entry
sums_small {l = l} a = omega (arith, sizes_within largest_reading l a.entries.within, length_most a.sound, a.entries.long)

-- ---- the answer, once the largest two entries are found
module _ (m : ℕ) (l : List ℤ) (bits word : List ℕ) (x : SoundSearch 1 m l bits word) (place best second : ℕ)
    (t : LargestTwo (hadamard m l) place best second) where
  pub best_most : best ≤ sizes l
  best_most = omega (arith, least-by_place m l x.entries.long place best second t)

  ended : (a : Answer) → answer m (kinds 1 m) l (tree (kinds 1 m)) ≡ a → as_search m l bits word ≡ without_visits (by_answer (tree (kinds 1 m)) bits word a)
  ended a e =
      let all = tree (kinds 1 m) in
      ap without_visits (sound_answered bits word x all ∙ ap (by_answer all bits word) e)

  pub tied_reported : best ≡ second → refused (Tied ((sizes l - best) / 2) 0) bits word ≡ as_search m l bits word
  tied_reported e =
      let all = tree (kinds 1 m) in
      sym (ended _ (answer-by_place m l x.entries.long place best second t all (le_refl all)) ∙ rw (eq-eqb best second e) refl)

  pub found-reported : (best ≡ second → ⊥) → (sign : ℕ) → sign ≡ hard (entry m l place) → (b w : List ℕ)
      → b ≡ bits_of m place sign → w ≡ first_order m place sign
      → found_with ((sizes l - best) / 2) ((best - second) / 2) 0 b w ≡ as_search m l bits word
  found-reported d sign e b w eb ew =
      let all = tree (kinds 1 m) in
      rw (eb, ew, e)
      (sym (ended _ (answer-by_place m l x.entries.long place best second t all (le_refl all)) ∙ rw (ne_eqb best second d) refl))
