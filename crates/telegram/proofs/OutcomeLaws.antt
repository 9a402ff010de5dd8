-- The outcome at each place where the writer and the reader return, by what the encoder and the search promise.
use Rattle.std.specs.Prelude.{◌≡◌, refl, List, ◌++◌, ℕ, ◌≤◌, ◌<◌, ℤ, length, take, drop, replicate, Result, Ok, Err}
use Rattle.std.proofs.Math.Path.{ap}
use Rattle.std.proofs.Common.{sym, subst, ◌∙◌, arith}
use borrow.Author.Tests.{eq-eqb, ne_eqb, lt-ltb, le-ltb}
use Rattle.numbers.specs.Sums.{total, sum}
use Rattle.words.specs.Bits.{Bits, digits}
use Rattle.words.specs.Kinds.{kinds, choose, dimension}
use Rattle.words.proofs.KindLaws.{sum-kinds}
use Rattle.decoding.specs.Answer.{Answer, found, tied, out_of_visits, answer}
use Rattle.decoding.specs.Walk.{needed}
use Rattle.decoding.specs.Demands.{BestFound}
use Rattle.code.specs.declared.Code.{Code}
use Rattle.code.specs.declared.Refusal.{Refusal}
use Rattle.code.specs.declared.Refusal.TheVariants.{InputLength, OutputLength, Entry, OutOfVisits}
use Rattle.code.specs.Sound.{carried}
use Rattle.code.specs.Entries.{first_bad_bit}
use Rattle.code.specs.EntriesLaws.{first-none}
use Rattle.code.specs.SoundInput.{SoundReadings}
use Rattle.code.specs.RefusalLaws.{number_above}
use Rattle.code.specs.AdmittedLaws.{allows, refuses, decided}
use Rattle.encode.specs.Outcome as Encode
use Rattle.encode.specs.OutcomeLaws.{sound_encoding}
use Rattle.search.specs.Outcome as Search
use Rattle.search.specs.Outcome.{by_answer}
use Rattle.search.specs.OutcomeLaws.{searching-refused}
use Rattle.search.specs.Demands.{SoundSearch}
use Rattle.search.specs.DemandsMet.{sound_answered, outcome_demands}
use Rattle.telegram.specs.declared.Telegram.{Telegram}
use Rattle.guarded.specs.declared.Fault.TheVariants.{Link}
use Rattle.telegram.specs.Telegram.{telegram_bits, word_of}
use Rattle.telegram.specs.TelegramLaws.{length_bits, bits_bits}
use Rattle.telegram.specs.Faults.{writer_fault}
use Rattle.guarded.specs.Written.{refused}
use Rattle.telegram.specs.Outcome.{written_if, writing_telegram, faulted, judged, passed_on, heard, link_search, reading_telegram}
use Rattle.telegram.specs.Outcome.{reading_bits}

-- ---- RM(2,5)
pub dimension_25 : dimension 2 5 ≡ 16
unfolding dimension total choose
dimension_25 = refl

pub sum_25 : sum (kinds 2 5) ≡ 16
sum_25 = sum-kinds 2 5 ∙ dimension_25

-- ---- the writer
-- the bits as the three numbers are put into them, one after the other
module _ (t : Telegram) (x : List ℕ) (cylinder : x ≡ digits 3 t.cylinder) where
  abbrev first : List ℕ
  first = x ++ replicate 13 0

  pub length-first : length first ≡ 16
  unfolding digits
  length-first = rw cylinder

  module _ (y : List ℕ) (direction : y ≡ digits (length (take 1 (drop 3 first))) t.direction) where
    abbrev second : List ℕ
    second = take 3 first ++ (y ++ drop 1 (drop 3 first))

    pub length-second : length second ≡ 16
    unfolding digits
    length-second = rw (direction, cylinder)

    module _ (z : List ℕ) (tilt : z ≡ digits (length (take 11 (drop 4 second))) t.tilt) where
      abbrev third : List ℕ
      third = take 4 second ++ (z ++ drop 11 (drop 4 second))

      pub bits_put : third ≡ telegram_bits t
      unfolding digits
      bits_put = rw (tilt, direction, cylinder)

-- the encoder writes the telegram's word
outcome_buffer : (a : Result (Unit {0}) Refusal) (x : List ℕ) → (Encode.outcome_of a x).buffer ≡ x
outcome_buffer (Ok _) x = refl
outcome_buffer (Err why) x = refl

pub word-written : (t : Telegram) (word : List ℕ) → length word ≡ 32 → (a : Result (Unit {0}) Refusal) (x : List ℕ)
    → Encode.outcome_of a x ≡ Encode.encoding 2 5 (telegram_bits t) word → x ≡ word_of t
word-written t word e a x is =
    let done =
    sound_encoding 2 5 (telegram_bits t) word
    (record {
      sound = record { r_small = omega arith; m_small = omega arith };
      long_bits = length_bits 0 t ∙ sym dimension_25;
      long_word = e;
      entries = bits_bits 0 t (omega arith);
    }) in
    sym (outcome_buffer a x) ∙ ap (λ (o : Encode.Outcome). o.buffer) (is ∙ done)

module _ (cylinder direction tilt : ℕ) (word : List ℕ) where
  abbrev pub given : Telegram
  given = record { cylinder = cylinder; direction = direction; tilt = tilt }

  pub writing_short : (length word ≡ 32 → ⊥) → writing_telegram cylinder direction tilt word ≡ refused (Link OutputLength) word
  unfolding writing_telegram
  writing_short h = rw (ne_eqb (length word) 32 h)

  pub writing-tested : length word ≡ 32 → writing_telegram cylinder direction tilt word ≡ written_if (writer_fault given) given word
  unfolding writing_telegram
  writing-tested h = rw (eq-eqb (length word) 32 h)

-- ---- the reader
module _ (allowed : ℕ) (l : List ℤ) where
  pub reading-found : (link_search allowed l).number ≡ 0
      → reading_telegram allowed l ≡ (let o = link_search allowed l in judged o.bits o.penalty o.gap o.visits)
  unfolding reading_telegram
  reading-found e = rw (eq-eqb (link_search allowed l).number 0 e)

  pub reading_other : ((link_search allowed l).number ≡ 0 → ⊥) → reading_telegram allowed l ≡ passed_on (link_search allowed l)
  unfolding reading_telegram
  reading_other n = rw (ne_eqb (link_search allowed l).number 0 n)

  pub reading-refused : (why : Refusal) (b w : List ℕ) → link_search allowed l ≡ Search.refused why b w → reading_telegram allowed l ≡ faulted (Link why)
  unfolding reading_telegram
  reading-refused why b w e =
      ap heard e ∙ rw (ne_eqb (Search.refused why b w).number 0 (λ z. omega (arith, number_above why)))

-- ---- information bits, without a search
module _ (b : List ℕ) where
  pub bits_short : (length b ≡ 16 → ⊥) → reading_bits b ≡ faulted (Link InputLength)
  unfolding reading_bits
  bits_short n = rw (ne_eqb (length b) 16 n)

  pub bits_entry : length b ≡ 16 → first_bad_bit b < length b → reading_bits b ≡ faulted (Link (Entry (first_bad_bit b)))
  unfolding reading_bits
  bits_entry e h = rw (eq-eqb (length b) 16 e, lt-ltb (first_bad_bit b) (length b) h)

  pub bits_judged : length b ≡ 16 → length b ≤ first_bad_bit b → reading_bits b ≡ judged b 0 0 0
  unfolding reading_bits
  bits_judged e h = rw (eq-eqb (length b) 16 e, le-ltb (first_bad_bit b) (length b) h)

  pub bits_read : length b ≡ 16 → Bits b → reading_bits b ≡ judged b 0 0 0
  bits_read e h =
      let none = first-none 0 (λ x. x) 1 b (length b) (λ j m. omega (arith, h j)) refl in
      bits_judged e (omega (arith, none))

-- ---- the search, by its demands
-- the buffers that the reader lends to it
abbrev bits₀ : List ℕ
bits₀ = replicate 16 0

abbrev word₀ : List ℕ
word₀ = replicate 32 0

-- the tests 1 to 4 refuse nothing
abbrev pub Passed : List ℤ → Type 0
Passed l = SoundSearch 2 5 l bits₀ word₀

-- or give their refusal
pub data Tests (allowed : ℕ) (l : List ℤ) : Type 0 where
  passed : Passed l → Tests allowed l
  stopped : (why : Refusal) → link_search allowed l ≡ Search.refused why bits₀ word₀ → (carried why).number < 5 → Tests allowed l

pub tests : (allowed : ℕ) (l : List ℤ) → Tests allowed l
tests allowed l =
    elim (decided 2 5 l (length bits₀) (length word₀)) [
      | allows c e is a ↦ passed (subst (λ (d : Code). SoundReadings d l (length bits₀) (length word₀)) is a)
      | refuses why e h ↦ stopped why (searching-refused 2 5 allowed l bits₀ word₀ why e) h
    ]

-- what is found: the best word, with as many visits as the walk needs
pub record FoundBest (allowed : ℕ) (l : List ℤ) : Type 0 where
  pub passes : Passed l
  pub enough : needed 5 (kinds 2 5) l ≤ allowed
  pub best : let o = link_search allowed l in BestFound 5 (kinds 2 5) l o.bits o.word o.penalty o.gap
  pub visits_are : (link_search allowed l).visits ≡ needed 5 (kinds 2 5) l

module _ (allowed : ℕ) (l : List ℤ) where
  by_answer_lem : Passed l → (link_search allowed l).number ≡ 0 → (a : Answer) → link_search allowed l ≡ by_answer allowed bits₀ word₀ a → FoundBest allowed l
  by_answer_lem x n (found b w p g v) e =
      let d = ((outcome_demands bits₀ word₀ x).demand_2 allowed (found b w p g v)).0 e in
      record { passes = x; enough = d.0; best = rw e d.1; visits_are = rw e d.2 }
  by_answer_lem x n (tied p v) e = absurd (omega (arith, ap (λ (o : Search.Outcome). o.number) e))
  by_answer_lem x n out_of_visits e = absurd (omega (arith, ap (λ (o : Search.Outcome). o.number) e))

  pub found_all : (link_search allowed l).number ≡ 0 → FoundBest allowed l
  found_all n =
      elim (tests allowed l) [
        | passed x ↦ by_answer_lem x n (answer 5 (kinds 2 5) l allowed) (sound_answered bits₀ word₀ x allowed)
        | stopped why e h ↦ absurd (omega (arith, ap (λ (o : Search.Outcome). o.number) e, number_above why))
      ]

  -- under another allowance that is large enough, the same
  pub found-again : FoundBest allowed l → (allowed' : ℕ) → needed 5 (kinds 2 5) l ≤ allowed' → link_search allowed' l ≡ link_search allowed l
  found-again f allowed' h =
      let o = link_search allowed l in
      let d = (outcome_demands bits₀ word₀ f.passes).demand_2 in
      let a = found o.bits o.word o.penalty o.gap o.visits in
      (d allowed' a).1 (h, f.best, f.visits_are) ∙ sym ((d allowed a).1 (f.enough, f.best, f.visits_are))

  pub out_of_visits_lem : Passed l → allowed < needed 5 (kinds 2 5) l → link_search allowed l ≡ Search.refused (OutOfVisits allowed) bits₀ word₀
  out_of_visits_lem x h = ((outcome_demands bits₀ word₀ x).demand_2 allowed out_of_visits).1 h

  -- the bits that it leaves are 16 information bits
  pub found_long : FoundBest allowed l → length (link_search allowed l).bits ≡ 16
  found_long f = f.best.information.0 ∙ sum_25

  pub found_bits : FoundBest allowed l → Bits (link_search allowed l).bits
  found_bits f = f.best.information.1

  -- so in the reader, for the search's answer
  module _ (p g v : ℕ) (b w : List ℕ) (e : Search.found_with p g v b w ≡ link_search allowed l) where
    pub judged_bits : Bits b × (length b ≡ 16)
    judged_bits =
        let f = found_all (ap (λ (o : Search.Outcome). o.number) (sym e)) in
        let same : b ≡ (link_search allowed l).bits = ap (λ (o : Search.Outcome). o.bits) e in
        (subst Bits (sym same) (found_bits f), ap length same ∙ found_long f)

    pub judged-reading : judged b p g v ≡ reading_telegram allowed l
    unfolding reading_telegram
    judged-reading = ap heard e
