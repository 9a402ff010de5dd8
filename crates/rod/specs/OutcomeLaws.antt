-- The outcome at each place where the reader returns.
use Rattle.std.specs.Prelude.{◌≡◌, refl, List, ◌++◌, ℕ, suc, ◌+◌, ◌-◌, ◌^◌, ◌≤◌, ◌<◌, ℤ, length, get_or, take, replicate, Err}
use Rattle.std.proofs.Math.Path.{ap, sym}
use Rattle.std.proofs.Common.{ap₂, ◌∙◌, subst, arith, take_at, pow_mono, eq-eqb, ne_eqb}
use Rattle.words.specs.Bits.{Bits}
use Rattle.words.specs.Kinds.{kinds}
use Rattle.decoding.specs.Walk.{tree}
use Rattle.hadamard.proofs.EncodedLaws.{sum-first_order}
use Rattle.code.specs.declared.Refusal.{Refusal}
use Rattle.code.specs.declared.Refusal.TheVariants.{Parameters}
use Rattle.code.specs.Sound.{made, carrying, carried, largest_m}
use Rattle.code.specs.SoundLaws.{made_large}
use Rattle.code.specs.SoundInput.{dimension_of}
use Rattle.code.specs.AdmittedLaws.{refused_parameters}
use Rattle.search.specs.Outcome as Search
use Rattle.search.specs.Demands.{whole_code}
use Rattle.first_order.specs.Outcome.{first_ordering}
use Rattle.first_order.specs.OutcomeLaws.{first-order, test_refused}
use Rattle.first_order.specs.DemandsMet.{first_order-as_search}
use Rattle.guarded.specs.declared.Fault.TheVariants.{Link, Marker}
use Rattle.guarded.specs.Guard.{last_bit, message_of, of_digits}
use Rattle.guarded.specs.Outcome as guard
use Rattle.guarded.proofs.GuardLaws.{guarded-found, guarded-refused}
use Rattle.guarded.proofs.TheoremsMet.{found_all}
use Rattle.guarded.proofs.Instances.{guards_code}
use Rattle.rod.specs.Outcome.{position_shown, no_position, rod_search, position_said, reading_rod}
use Rattle.rod.specs.WorkLaws.{take-zeros}
use Rattle.rod.specs.TheoremsMet.{number-zeros, engine_is}

-- ---- judging
module _ (m : ℕ) (b : List ℕ) (e : length b ≡ suc m) (p g : ℕ) where
  abbrev judgement : guard.GuardedOutcome
  judgement = guard.message_if b p g 0 (replicate m 0)

  last-is : last_bit b ≡ get_or b m 0
  last-is = let k : length b - 1 ≡ m = omega arith in ap (λ (i : ℕ). get_or b i 0) k

  pub judged_marked : (get_or b m 0 ≡ 0 → ⊥) → no_position Marker ≡ position_said judgement
  judged_marked f =
      let marked : judgement ≡ guard.no_message Marker (replicate m 0) = rw (ne_eqb (last_bit b) 0 (λ z. f (sym last-is ∙ z))) in
      sym (ap position_said marked ∙ ap (λ (k : ℕ). record { carry = carrying 13 0 0 0; gap = 0; position = k }) (number-zeros m))

  pub judged-shown : get_or b m 0 ≡ 0 → (n : ℕ) → n ≡ of_digits (take (m - 0) b) → position_shown n p g ≡ position_said judgement
  judged-shown z n is =
      let k : length b - 1 ≡ m - 0 = omega arith in
      let shown : judgement ≡ guard.message_shown (message_of b) p g 0 = rw (eq-eqb (last_bit b) 0 (last-is ∙ z)) in
      let position : n ≡ of_digits (message_of b) = is ∙ ap (λ (i : ℕ). of_digits (take i b)) (sym k) in
      ap (λ (i : ℕ). position_shown i p g) position ∙ sym (ap position_said shown)

-- ---- reading
module _ (m : ℕ) (l : List ℤ) where
  pub reading-refused : (why : Refusal) (b w : List ℕ) → Search.refused why b w ≡ rod_search m l → no_position (Link why) ≡ reading_rod m l
  unfolding reading_rod
  reading-refused why b w e =
      sym
      (ap position_said (guarded-refused (rod_search m l) (replicate m 0) why b w (sym e))
      ∙ ap (λ (k : ℕ). record { carry = carried why; gap = 0; position = k }) (number-zeros m))

  -- above the largest m
  pub reading_above : largest_m < m → no_position (Link Parameters) ≡ reading_rod m l
  reading_above h =
      let b : List ℕ = replicate (suc m) 0 in
      let w : List ℕ = replicate (2 ^ m) 0 in
      reading-refused Parameters b w
      (test_refused 1 m l b w Parameters (refused_parameters dimension_of 1 m l (length b) (length w) (made_large 1 m h)) ∙ first-order 1 m l b w refl)

  -- and whatever is not the m of a code RM(1,m)
  pub reading_unmade : {why : Refusal} → made 1 m ≡ Err why → no_position (Link why) ≡ reading_rod m l
  reading_unmade {why} e =
      let b : List ℕ = replicate (suc m) 0 in
      let w : List ℕ = replicate (2 ^ m) 0 in
      reading-refused why b w
      (test_refused 1 m l b w why (refused_parameters dimension_of 1 m l (length b) (length w) e) ∙ first-order 1 m l b w refl)

  module _ (p g v : ℕ) (b w : List ℕ) (e : Search.found_with p g v b w ≡ rod_search m l) where
    -- m + 1 information bits
    pub found_bits : Bits b × (length b ≡ suc m)
    found_bits =
        let all = tree (kinds 1 m) in
        let n = ap (λ (o : Search.Outcome). o.number) (sym (engine_is m l) ∙ sym e) in
        let f = found_all (whole_code 1 m) (guards_code 1 m) all l (replicate (suc (length (replicate {A = ℕ} m 0))) 0) (replicate (2 ^ m) 0) n in
        let same = ap (λ (o : Search.Outcome). o.bits) (e ∙ engine_is m l) in
        (subst Bits (sym same) f.best.information.1, ap length same ∙ f.best.information.0 ∙ sum-first_order m)

    pub found-reading : position_said (guard.message_if b p g 0 (replicate m 0)) ≡ reading_rod m l
    unfolding reading_rod
    found-reading =
        let o = rod_search m l in
        let none : v ≡ 0 =
        ap (λ (x : Search.Outcome). x.visits) e ∙ (first_order-as_search m l (replicate (suc m) 0) (replicate (2 ^ m) 0)).no_visits_lem 1 in
        ap position_said
        (ap (λ (k : ℕ). guard.message_if b p g k (replicate m 0)) (sym none)
        ∙ sym (guarded-found (Search.found_with p g v b w) (replicate m 0) refl)
        ∙ ap (λ (x : Search.Outcome). guard.guarded x (replicate m 0)) e)

-- ---- the lent parts of zeros are the engine's buffers
pub rod_lent : (m k n : ℕ) (l : List ℤ) → m ≤ largest_m → k ≡ m + 1 → n ≡ 2 ^ m
    → first_ordering 1 m l (take (k - 0) (replicate {A = ℕ} 9 0)) (take (n - 0) (replicate {A = ℕ} 256 0)) ≡ rod_search m l
rod_lent m k n l h e f =
    let k-is : k - 0 ≡ suc m = omega arith in
    let n-is : n - 0 ≡ 2 ^ m = omega arith in
    let most : 2 ^ m ≤ 256 = pow_mono {j = 8} h in
    ap₂ (λ (b w : List ℕ). first_ordering 1 m l b w)
    (ap (λ (i : ℕ). take i (replicate {A = ℕ} 9 0)) k-is ∙ take-zeros (suc m) 9 (omega arith))
    (ap (λ (i : ℕ). take i (replicate {A = ℕ} 256 0)) n-is ∙ take-zeros (2 ^ m) 256 most)

-- the front of the array that was lent is what was found
pub front-is : (m : ℕ) (b rest : List ℕ) → length b ≡ suc m → take (m + 1 - 0) (b ++ rest) ≡ b
front-is m b rest e = take_at b rest (m + 1 - 0) (omega arith)

pub front-found : (m : ℕ) (b rest : List ℕ) → Bits b × (length b ≡ suc m)
    → Bits (take (m + 1 - 0) (b ++ rest)) × (length (take (m + 1 - 0) (b ++ rest)) ≡ suc m)
front-found m b rest f = subst (λ (x : List ℕ). Bits x × (length x ≡ suc m)) (sym (front-is m b rest f.1)) f
