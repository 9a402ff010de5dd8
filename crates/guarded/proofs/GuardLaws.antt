-- The guard at each outcome of a search, and at two outcomes of which the second is that of the negated readings.
use Rattle.std.specs.Prelude.{◌≡◌, ◌↔◌, List, ℕ, ◌+◌, ◌-◌, ◌%◌, ◌^◌, ◌<◌, length, get_or}
use Rattle.std.proofs.Common.{ap, sym, ◌∙◌, arith, eq-eqb, ne_eqb}
use Rattle.std.proofs.Math.Decide.{ℕ_discrete}
use Rattle.words.specs.Bits.{Bits, xors}
use Rattle.words.specs.Kinds.{InformationBits, Word, all_ones}
use Rattle.words.specs.TransformLaws.{length-xors, get_or-xors}
use Rattle.code.specs.declared.Refusal.{Refusal}
use Rattle.code.specs.RefusalLaws.{number_above}
use Rattle.search.specs.Outcome as Search
use Rattle.search.specs.Demands.{PlusWord}
use Rattle.guarded.specs.declared.Fault.TheVariants.{Link, Marker}
use Rattle.guarded.specs.Guard.{last_bit, message_of}
use Rattle.guarded.specs.Outcome.{GuardedOutcome, message_shown, no_message, message_if, search_refused, guarded}
use Rattle.guarded.proofs.MarkerLaws.{ones_marker}

abbrev number : GuardedOutcome → ℕ
number o = o.carry.number

module _ (o : Search.Outcome) (room : List ℕ) where
  pub guarded-found : o.number ≡ 0 → guarded o room ≡ message_if o.bits o.penalty o.gap o.visits room
  unfolding guarded
  guarded-found e = rw (eq-eqb o.number 0 e)

  pub guarded_other : (o.number ≡ 0 → ⊥) → guarded o room ≡ search_refused o room
  unfolding guarded
  guarded_other n = rw (ne_eqb o.number 0 n)

  pub guarded-shown : o.number ≡ 0 → last_bit o.bits ≡ 0 → guarded o room ≡ message_shown (message_of o.bits) o.penalty o.gap o.visits
  guarded-shown e z = guarded-found e ∙ rw (eq-eqb (last_bit o.bits) 0 z)

  pub guarded_marked : o.number ≡ 0 → (last_bit o.bits ≡ 0 → ⊥) → guarded o room ≡ no_message Marker room
  guarded_marked e z = guarded-found e ∙ rw (ne_eqb (last_bit o.bits) 0 z)

  pub guarded-refused : (why : Refusal) (b w : List ℕ) → o ≡ Search.refused why b w → guarded o room ≡ no_message (Link why) room
  guarded-refused why b w e =
      guarded_other (λ z. omega (arith, number_above why, ap (λ (p : Search.Outcome). p.number) e, z)) ∙ ap (λ (p : Search.Outcome). search_refused p room) e

  -- what is shown was found with the marker 0
  pub shown-found : number (guarded o room) ≡ 0 → (o.number ≡ 0) × (last_bit o.bits ≡ 0)
  shown-found z =
      elim (ℕ_discrete o.number 0) [
        | yes e ↦
            elim (ℕ_discrete (last_bit o.bits) 0) [
              | yes k ↦ (e, k)
              | no k ↦ absurd (omega (arith, z, ap number (guarded_marked e k)))
            ]
        | no n ↦ absurd (n (sym (ap number (guarded_other n)) ∙ z))
      ]

  -- what is refused by the marker was found with another
  pub marked_found : o.number < 13 → number (guarded o room) ≡ 13 → (o.number ≡ 0) × (last_bit o.bits ≡ 0 → ⊥)
  marked_found small z =
      elim (ℕ_discrete o.number 0) [
        | yes e ↦ (e, λ k. omega (arith, z, ap number (guarded-shown e k)))
        | no n ↦ absurd (omega (arith, small, z, ap number (guarded_other n)))
      ]

  -- a number between 1 and 12 is the search's
  pub passed_on_lem : (n : ℕ) → 0 < n → n < 13 → (number (guarded o room) ≡ n) ↔ (o.number ≡ n)
  passed_on_lem n above below = (
    λ e.
        elim (ℕ_discrete o.number 0) [
          | yes z ↦
              elim (ℕ_discrete (last_bit o.bits) 0) [
                | yes k ↦ absurd (omega (arith, e, ap number (guarded-shown z k)))
                | no k ↦ absurd (omega (arith, e, ap number (guarded_marked z k)))
              ]
          | no z ↦ sym (ap number (guarded_other z)) ∙ e
        ],
    λ e. ap number (guarded_other (λ z. omega (arith, z, e))) ∙ e,
  )

-- ---- the outcome o' of the negated readings has the bits of the all-ones word added
module _ (m : ℕ) (ks : List ℕ) (e : length ks ≡ 2 ^ m) (h : Bits ks) (w : Word m ks (all_ones m)) (o o' : Search.Outcome)
    (p : PlusWord w.bits (all_ones m) o o') (n : o.number ≡ 0) (i : InformationBits ks o.bits) where
  pub also_found : o'.number ≡ 0
  also_found = p.same_number ∙ n

  pub marker_turned : last_bit o'.bits ≡ (last_bit o.bits + 1) % 2
  marker_turned =
      let b = o.bits in
      let a = w.bits in
      let same : length b ≡ length a = i.0 ∙ sym w.long in
      let one : get_or a (length b - 1) 0 ≡ 1 = ap (λ (k : ℕ). get_or a (k - 1) 0) i.0 ∙ ones_marker m ks e h w in
      ap last_bit (p.bits_added n) ∙ ap (λ (k : ℕ). get_or (xors b a) (k - 1) 0) (length-xors b a same) ∙ get_or-xors b a (length b - 1) same
      ∙ ap (λ (k : ℕ). (last_bit b + k) % 2) one

  module _ (room : List ℕ) where
    pub then_marked : last_bit o.bits ≡ 0 → guarded o' room ≡ no_message Marker room
    then_marked z = guarded_marked o' room also_found (λ k. omega (arith, k, z, marker_turned))

    pub then_shown : (last_bit o.bits ≡ 0 → ⊥) → number (guarded o' room) ≡ 0
    then_shown f =
        ap number (guarded-shown o' room also_found (omega (arith, f, marker_turned, i.1 (length o.bits - 1))))
