-- The searches that the theorems are for: over RM(r,m), and over a shortened set whose row does not name the last index.
use Rattle.std.specs.Prelude.{◌≡◌, refl, List, ℕ, ◌-◌, ◌^◌, ◌≤◌, ◌<◌, ℤ, length, get_or}
use Rattle.std.proofs.Common.{ap, sym, ◌∙◌, subst, arith}
use Rattle.numbers.specs.Sums.{sum}
use Rattle.words.specs.Kinds.{kinds, Word}
use Rattle.words.proofs.KindLaws.{length-kinds, bits_kinds, sum-kinds}
use Rattle.words.proofs.HalfLaws.{word_ones}
use Rattle.words.proofs.InverseLaws.{word-length, word_bits, word_frozen, frozen_word}
use Rattle.words.proofs.DistanceLaws.{distance_least}
use Rattle.decoding.specs.Answer.{Answer, found, tied, out_of_visits, answer}
use Rattle.code.specs.declared.Code.{Code}
use Rattle.code.specs.declared.Refusal.{Refusal}
use Rattle.code.specs.declared.Refusal.TheVariants.{Parameters, Named}
use Rattle.code.specs.Sound.{rm, number_of}
use Rattle.code.specs.SoundLaws.{made_good}
use Rattle.code.specs.SoundInput.{GoodReadings, SoundFor, SoundReadings}
use Rattle.code.specs.AdmittedLaws.{allows, refuses, decided, decided_for, tested-made}
use Rattle.code.specs.RefusalLaws.{number_above}
use Rattle.named.specs.Named.{GoodRow}
use Rattle.named.specs.NamedLaws.{bad_parameters, bad-row, sound_row, row_decided, left_frozen}
use Rattle.named.specs.AllOnesNamed.{all_ones-left}
use Rattle.search.specs.Outcome.{by_answer, searching}
use Rattle.search.specs.OutcomeLaws as plain
use Rattle.search.specs.RunnerUp.{RunnerUpOutcome}
use Rattle.search.specs.Demands.{SoundSearch, Passes, whole_code}
use Rattle.search.specs.DemandsMet.{sound_answered, larger_allowance, outcome_demands}
use Rattle.shortened.specs.Outcome.{left_of}
use Rattle.shortened.specs.WorkLaws.{long_left, are_left}
use Rattle.shortened_search.specs.Outcome.{refused_with_none, searching_shortened}
use Rattle.shortened_search.specs.OutcomeLaws.{searching-refused, searching-left, over-refused}
use Rattle.shortened_search.specs.Demands.{smaller_set}
use Rattle.shortened_search.specs.DemandsMet.{answered, shortened_larger_allowance, shortened_demands}
use Rattle.guarded.specs.Theorems.{Guards, Apart}

answer_small : (allowed : ℕ) (bits word : List ℕ) (a : Answer) → (by_answer allowed bits word a).number < 13
answer_small allowed bits word (found b x p g v) = omega arith
answer_small allowed bits word (tied p v) = omega arith
answer_small allowed bits word out_of_visits = omega arith

-- ---- what the tests do
-- refused by a number from 1 to 12, or passed
data Tested (passes : Type 0) (number : ℕ) : Type 0 where
  stopped : 0 < number → number < 13 → (number ≡ 6 → ⊥) → Tested passes number
  let_through : passes → number < 13 → Tested passes number

tested-passes : {passes : Type 0} {number : ℕ} → Tested passes number → number ≡ 0 → passes
tested-passes (stopped h k f) z = absurd (omega arith)
tested-passes (let_through x k) z = x

tested_out : {passes : Type 0} {number : ℕ} → Tested passes number → number ≡ 6 → passes
tested_out (stopped h k f) z = absurd (f z)
tested_out (let_through x k) z = x

tested_small : {passes : Type 0} {number : ℕ} → Tested passes number → number < 13
tested_small (stopped h k f) = k
tested_small (let_through x k) = k

module _ (r m allowed : ℕ) (l : List ℤ) (bits word : List ℕ) where
  code_tested : Tested (SoundSearch r m l bits word) (searching r m allowed l bits word).number
  code_tested =
      elim (decided r m l (length bits) (length word)) [
        | allows c e is a ↦
            let x : SoundSearch r m l bits word = subst (λ (d : Code). SoundReadings d l (length bits) (length word)) is a in
            let_through x (rw (sound_answered bits word x allowed) (answer_small allowed bits word (answer m (kinds r m) l allowed)))
        | refuses why e h ↦
            rw (plain.searching-refused r m allowed l bits word why e) (stopped (number_above why) (omega (arith, h)) (λ z. omega (arith, z, h)))
      ]

pub guards_code : (r m : ℕ) → Guards (whole_code r m)
guards_code r m =
    record {
      long_kinds = length-kinds r m;
      are_kinds = bits_kinds r m;
      counted = sym (sum-kinds r m);
      all_ones_lem = word_ones r m;
      demands = λ l bits word x. outcome_demands bits word x;
      found-passes = λ allowed l bits word. tested-passes (code_tested r m allowed l bits word);
      out_passes = λ allowed l bits word. tested_out (code_tested r m allowed l bits word);
      below_13 = λ allowed l bits word. tested_small (code_tested r m allowed l bits word);
      larger = λ allowed more l bits word h n. ap (λ (w : RunnerUpOutcome). w.outcome) (larger_allowance r m l bits word allowed more h n);
    }

-- its words differ in 2^(m-r) places or more
pub apart_code : (r m : ℕ) → r ≤ m → Apart (whole_code r m) (2 ^ (m - r))
apart_code r m below c x w u z = distance_least r m c x below w u z

-- ---- over a shortened set
module _ (r m allowed : ℕ) (named : List ℕ) (l : List ℤ) (bits word : List ℕ) where
  abbrev number : RunnerUpOutcome → ℕ
  number w = w.outcome.number

  refused_by : (why : Refusal) → number_of why < 13 → (number_of why ≡ 6 → ⊥)
      → refused_with_none why bits word ≡ searching_shortened r m allowed named l bits word
      → Tested (Passes (smaller_set r m named) l bits word) (number (searching_shortened r m allowed named l bits word))
  refused_by why h f e = rw (← e) (stopped (number_above why) h f)

  left-tested : GoodRow named (kinds r m)
      → Tested (Passes (smaller_set r m named) l bits word) (number (searching_shortened r m allowed named l bits word))
  left-tested g =
      let ks = left_of named (rm r m) in
      elim (row_decided r m named) [
        | bad_parameters b e ↦ refused_by Parameters (omega arith) (λ z. omega arith) (searching-refused r m allowed named l bits word Parameters e)
        | bad-row s bad e ↦ refused_by Named (omega arith) (λ z. omega arith) (searching-refused r m allowed named l bits word Named e)
        | sound_row s g' e ↦
            let same = tested-made (λ c. sum ks) r m l (length bits) (length word) (rm r m) (made_good r m s.m_small s.r_small) in
            elim (decided_for (λ c. sum ks) r m l (length bits) (length word)) [
              | refuses why f h ↦
                  refused_by why (omega (arith, h)) (λ z. omega (arith, z, h))
                  (over-refused ks (rm r m) allowed l bits word why (f ∙ sym same)
                  ∙ searching-left r m allowed named l bits word (rm r m) e)
              | allows c f is a ↦
                  let x : Passes (smaller_set r m named) l bits word =
                  subst (λ (d : Code). SoundFor d (sum ks) (length bits) (length word) (GoodReadings d l)) is a in
                  let_through x (rw (answered r m named g l bits word x allowed) (answer_small allowed bits word (answer m ks l allowed)))
            ]
      ]

pub guards_left : (r m : ℕ) (named : List ℕ) → GoodRow named (kinds r m) → get_or named (2 ^ m - 1) 0 ≡ 0 → Guards (smaller_set r m named)
guards_left r m named g free =
    record {
      long_kinds = long_left named (rm r m);
      are_kinds = are_left named (rm r m);
      counted = refl;
      all_ones_lem = (all_ones-left r m named).1 free;
      demands = shortened_demands r m named g;
      found-passes = λ allowed l bits word. tested-passes (left-tested r m allowed named l bits word g);
      out_passes = λ allowed l bits word. tested_out (left-tested r m allowed named l bits word g);
      below_13 = λ allowed l bits word. tested_small (left-tested r m allowed named l bits word g);
      larger = λ allowed more l bits word h n.
          ap (λ (w : RunnerUpOutcome). w.outcome) (shortened_larger_allowance r m named l bits word allowed more h n);
    }

-- its words are words of RM(r,m), and differ in as many places; with fewer words it may be more
pub apart_left : (r m : ℕ) (named : List ℕ) → r ≤ m → Apart (smaller_set r m named) (2 ^ (m - r))
apart_left r m named below c x w u z =
    let ks = left_of named (rm r m) in
    let f = long_left named (rm r m) in
    let in_code : (y : List ℕ) → Word m ks y → Word m (kinds r m) y = λ y v.
    frozen_word m (kinds r m) y (length-kinds r m) (bits_kinds r m) (word-length m ks y f v) (word_bits m ks y f v)
    (λ i k. word_frozen m ks y f v i (left_frozen named (kinds r m) i k)) in
    distance_least r m c x below (in_code c w) (in_code x u) z
