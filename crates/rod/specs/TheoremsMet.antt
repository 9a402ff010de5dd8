-- The theorems on rod positions hold: by those on guarded words, since the engine answers as the search does with the whole tree allowed.
use Rattle.std.specs.Prelude.{◌≡◌, refl, List, [], ◌∷◌, ◌++◌, ℕ, zero, suc, ◌+◌, ◌-◌, ◌*◌, ◌%◌, ◌^◌, ◌≤◌, ◌<◌, ℤ, length, replicate}
use Rattle.std.proofs.Math.Path.{ap}
use Rattle.std.proofs.Common.{sym, ◌∙◌, subst, arith, le_refl}
use Rattle.std.proofs.Math.Decide.{ℕ_discrete}
use Rattle.std.proofs.lemmas.List.{length-replicate}
use Rattle.words.specs.Bits.{Bits, digits, ones}
use Rattle.words.specs.BitLaws.{length_digits, bits_digits}
use Rattle.words.specs.Kinds.{kinds, encoded}
use Rattle.words.proofs.KindLaws.{bits_kinds}
use Rattle.decoding.specs.Walk.{tree}
use Rattle.decoding.specs.TreeLaws.{needed_most}
use Rattle.decoding.specs.CleanLaws.{clean}
use Rattle.decoding.specs.GapLaws.{drift}
use Rattle.hadamard.specs.Hadamard.{first_order, bits_of}
use Rattle.hadamard.proofs.EncodedLaws.{encoded-bits_of, word_once}
use Rattle.code.specs.Sound.{carrying}
use Rattle.search.specs.Outcome as Search
use Rattle.search.specs.Outcome.{by_answer, searching}
use Rattle.search.specs.Demands.{SoundSearch, whole_code}
use Rattle.first_order.specs.Outcome.{without_visits}
use Rattle.first_order.specs.DemandsMet.{first_order-as_search}
use Rattle.guarded.specs.declared.Fault.TheVariants.{Marker}
use Rattle.guarded.specs.Guard.{guarded_bits, last_bit, of_digits}
use Rattle.guarded.specs.DigitLaws.{number_digits, digits_number, number_most}
use Rattle.guarded.specs.Outcome.{GuardedOutcome, guarded}
use Rattle.guarded.specs.Theorems as general
use Rattle.guarded.specs.Theorems.{turned, own_search, reading}
use Rattle.guarded.proofs.GuardLaws.{guarded_other, guarded-shown, guarded_marked}
use Rattle.guarded.proofs.TheoremsMet.{found_all, guard_theorems}
use Rattle.guarded.proofs.Instances.{guards_code, apart_code}
use Rattle.rod.specs.Rod.{rod_bits, rod_word}
use Rattle.rod.specs.Outcome.{RodOutcome, position_shown, no_position, rod_search, rod_message, position_said, reading_rod}
use Rattle.rod.specs.Theorems.{Finds, TurnedOver, Theorems}

pub number-zeros : (m : ℕ) → of_digits (replicate m 0) ≡ 0
unfolding of_digits
number-zeros zero = refl
number-zeros (suc m) = omega (arith, number-zeros m)

-- the word of a position, as a word of the transform
rod_bits_lem : (m position : ℕ) → rod_bits m position ≡ bits_of m position (ones m position % 2)
unfolding bits_of
rod_bits_lem m position =
    let even : 0 ≡ (ones m position + ones m position % 2) % 2 = omega arith in
    ap (λ (k : ℕ). digits m position ++ k ∷ []) even

pub rod_word_lem : (m position : ℕ) → position < 2 ^ m → rod_word m position ≡ first_order m position (ones m position % 2)
rod_word_lem m position h = ap (encoded m (kinds 1 m)) (rod_bits_lem m position) ∙ encoded-bits_of m position (ones m position % 2) h (omega arith)

-- ---- the guard without visits
abbrev no_visits : GuardedOutcome → GuardedOutcome
no_visits o = record { carry = carrying o.carry.number o.carry.place o.carry.penalty 0; gap = o.gap; message = o.message }

guarded-without : (o : Search.Outcome) (room : List ℕ) → guarded (without_visits o) room ≡ no_visits (guarded o room)
guarded-without o room =
    elim (ℕ_discrete o.number 0) [
      | yes e ↦
          elim (ℕ_discrete (last_bit o.bits) 0) [
            | yes z ↦ guarded-shown (without_visits o) room e z ∙ sym (ap no_visits (guarded-shown o room e z))
            | no z ↦ guarded_marked (without_visits o) room e z ∙ sym (ap no_visits (guarded_marked o room e z))
          ]
      | no n ↦ guarded_other (without_visits o) room n ∙ sym (ap no_visits (guarded_other o room n))
    ]

module _ (m : ℕ) where
  abbrev room : List ℕ
  room = replicate m 0

  abbrev all : ℕ
  all = tree (kinds 1 m)

  abbrev as_searched : List ℤ → Search.Outcome
  as_searched l = own_search (whole_code 1 m) all l room

  pub engine_is : (l : List ℤ) → rod_search m l ≡ without_visits (as_searched l)
  engine_is l =
      (first_order-as_search m l (replicate (suc m) 0) (replicate (2 ^ m) 0)).as_search_lem all (le_refl all)
      ∙ ap (λ (k : ℕ). without_visits (searching 1 m all l (replicate (suc k) 0) (replicate (2 ^ m) 0))) (sym (length-replicate m 0))

  -- its number is below 13, and what it finds are bits
  pub engine_small : (l : List ℤ) → (rod_search m l).number < 13
  engine_small l =
      subst (λ (o : Search.Outcome). o.number < 13) (sym (engine_is l))
      ((guards_code 1 m).below_13 all l (replicate (suc (length room)) 0) (replicate (2 ^ m) 0))

  pub engine_bits : (l : List ℤ) → (rod_search m l).number ≡ 0 → Bits (rod_search m l).bits
  engine_bits l =
      subst (λ (o : Search.Outcome). o.number ≡ 0 → Bits o.bits) (sym (engine_is l))
      (λ n. (found_all (whole_code 1 m) (guards_code 1 m) all l (replicate (suc (length room)) 0) (replicate (2 ^ m) 0) n).best.information.1)

  message_is : (l : List ℤ) → rod_message m l ≡ no_visits (reading (whole_code 1 m) all l room)
  message_is l = ap (λ (o : Search.Outcome). guarded o room) (engine_is l) ∙ guarded-without (as_searched l) room

  reading-is : (l : List ℤ) (o : GuardedOutcome) → reading (whole_code 1 m) all l room ≡ o → reading_rod m l ≡ position_said (no_visits o)
  unfolding reading_rod
  reading-is l o e = ap position_said (message_is l ∙ ap no_visits e)

  number_is : (l : List ℤ) → (reading_rod m l).carry.number ≡ (reading (whole_code 1 m) all l room).carry.number
  number_is l = ap (λ (o : RodOutcome). o.carry.number) (reading-is l (reading (whole_code 1 m) all l room) refl)

  -- ---- written and read
  module _ (position : ℕ) (h : position < 2 ^ m) (l : List ℤ) (f : Finds m position l) where
    found : general.Finds (whole_code 1 m) all l room (digits m position)
    found =
        record {
          long = length_digits m position ∙ sym (length-replicate m 0);
          are_bits = bits_digits m position;
          answers = sym (ap (λ (o : Search.Outcome). o.number) (engine_is l)) ∙ f.answers;
          finds = sym (ap (λ (o : Search.Outcome). o.word) (engine_is l)) ∙ f.finds;
        }

    written_read : let o = rod_search m l in reading_rod m l ≡ position_shown position o.penalty o.gap
    written_read =
        let o = as_searched l in
        reading-is l _ ((guard_theorems (whole_code 1 m) (guards_code 1 m)).written_read all l room (digits m position) found)
        ∙ ap (λ (p : ℕ). position_shown p o.penalty o.gap) (number_digits m position h)
        ∙ ap (λ (o : Search.Outcome). position_shown position o.penalty o.gap) (sym (engine_is l))

    turned_marked : reading_rod m (turned l) ≡ no_position Marker
    turned_marked =
        let t = (guard_theorems (whole_code 1 m) (guards_code 1 m)).turned_message all l room (digits m position) found in
        reading-is (turned l) _ (t.marked all (needed_most m (kinds 1 m) (turned l) (bits_kinds 1 m)))
        ∙ ap (λ (p : ℕ). record { carry = carrying 13 0 0 0; gap = 0; position = p }) (number-zeros m)

  read-written : (l : List ℤ) → (reading_rod m l).carry.number ≡ 0 → ((reading_rod m l).position < 2 ^ m) × Finds m (reading_rod m l).position l
  read-written l z =
      let o = reading (whole_code 1 m) all l room in
      let f = (guard_theorems (whole_code 1 m) (guards_code 1 m)).read-written all l room (sym (number_is l) ∙ z) in
      let says : (reading_rod m l).position ≡ of_digits o.message = ap (λ (r : RodOutcome). r.position) (reading-is l o refl) in
      let long : length o.message ≡ m = f.long ∙ length-replicate m 0 in
      let back : digits m (of_digits o.message) ≡ o.message =
      ap (λ (k : ℕ). digits k (of_digits o.message)) (sym long) ∙ digits_number o.message f.are_bits in
      rw says (
        subst (λ (k : ℕ). of_digits o.message < 2 ^ k) long (number_most o.message f.are_bits),
        record {
          answers = ap (λ (r : Search.Outcome). r.number) (engine_is l) ∙ f.answers;
          finds = ap (λ (r : Search.Outcome). r.word) (engine_is l) ∙ f.finds ∙ ap (λ (b : List ℕ). encoded m (kinds 1 m) (guarded_bits b)) (sym back);
        },
      )

  -- ---- noise
  noise_corrected : (position : ℕ) → position < 2 ^ m → (s : ℕ) → 1 ≤ s → (l : List ℤ) → SoundSearch 1 m l (replicate (suc m) 0) (replicate (2 ^ m) 0)
      → drift (clean s (rod_word m position)) l < s * 2 ^ (m - 1) → Finds m position l
  noise_corrected position h s above l x small =
      let passes = subst (λ (k : ℕ). SoundSearch 1 m l (replicate (suc k) 0) (replicate (2 ^ m) 0)) (sym (length-replicate {A = ℕ} m 0)) x in
      let f =
      (guard_theorems (whole_code 1 m) (guards_code 1 m)).noise_corrected (2 ^ (m - 1)) (apart_code 1 m x.sound.r_small) room (digits m position)
      (length_digits m position ∙ sym (length-replicate m 0)) (bits_digits m position) s above all l passes (needed_most m (kinds 1 m) l (bits_kinds 1 m))
      small in
      record {
        answers = ap (λ (o : Search.Outcome). o.number) (engine_is l) ∙ f.answers;
        finds = ap (λ (o : Search.Outcome). o.word) (engine_is l) ∙ f.finds;
      }

  -- ---- all readings, upright and negated
  turned-over : (l : List ℤ) → TurnedOver m l
  turned-over l =
      let t = (guard_theorems (whole_code 1 m) (guards_code 1 m)).turned-over l room in
      record {
        never_both = λ e e'. t.never_both all all (sym (number_is l) ∙ e) (sym (number_is (turned l)) ∙ e');
        marked_exactly = rw (number_is l, number_is (turned l)) (t.marked_exactly all);
        upright_exactly = rw (number_is l, number_is (turned l)) (t.upright_exactly all);
      }

  never_out : (l : List ℤ) → (reading_rod m l).carry.number ≡ 6 → ⊥
  unfolding reading_rod
  never_out l e =
      let o = rod_search m l in
      let six = (first_order-as_search m l (replicate (suc m) 0) (replicate (2 ^ m) 0)).never_out 1 in
      elim (ℕ_discrete o.number 0) [
        | yes n ↦
            elim (ℕ_discrete (last_bit o.bits) 0) [
              | yes z ↦ omega (arith, e, ap (λ (r : GuardedOutcome). r.carry.number) (guarded-shown o room n z))
              | no z ↦ omega (arith, e, ap (λ (r : GuardedOutcome). r.carry.number) (guarded_marked o room n z))
            ]
        | no n ↦ six (sym (ap (λ (r : GuardedOutcome). r.carry.number) (guarded_other o room n)) ∙ e)
      ]

pub theorems : (m : ℕ) → Theorems m
theorems m =
    record {
      word-is = rod_word_lem m;
      one_word = λ p q h k e.
          (word_once m p (ones m p % 2) q (ones m q % 2) h (omega arith) k (omega arith) (sym (rod_word_lem m p h) ∙ e ∙ rod_word_lem m q k)).0;
      written_read = written_read m;
      noise_corrected = noise_corrected m;
      read-written = read-written m;
      turned_marked = turned_marked m;
      turned-over = turned-over m;
      never_out = never_out m;
    }
