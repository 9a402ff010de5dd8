-- Demand 1 follows if the checks are made in their order, each on what the checks before it leave.
use Rattle.std.specs.Prelude.{◌≡◌, refl, ◌⊎◌, ℕ, zero, suc, ◌^◌, ◌≤◌, ◌<◌, ℤ, pos, nat_abs, length, get_or, Err}
use Rattle.std.proofs.Common.{ap, sym, subst, ◌∙◌, inl, inr, arith, not-suc-le-zero, le_of_suc-le-suc, lt-ltb, le-ltb}
use Rattle.std.proofs.Math.Logic.{⊎_elim}
use mathlib.Core.List.{List, [], ◌∷◌}
use Rattle.std.proofs.Math.Decide.{ℕ_discrete}
use Rattle.numbers.specs.Choice.{lt_or_le}
use Rattle.code.specs.declared.Code.{Code}
use Rattle.code.specs.declared.Refusal.{Refusal}
use Rattle.code.specs.declared.Refusal.TheVariants.{Parameters, InputLength, OutputLength, Entry}
use Rattle.code.specs.Sound.{Sound, largest_m, largest_reading, made, number_of, rm}
use Rattle.code.specs.SoundInput.{dimension_of, GoodReadings, SoundFor, SoundReadings}
use Rattle.code.specs.SoundLaws.{made_large, made-crossed, made_good}
use Rattle.code.specs.RefusalLaws.{number_above}
use Rattle.code.specs.Entries.{first_above, first_bad_reading}
use Rattle.code.specs.EntriesLaws.{first-here, all_good, good_readings}
use Rattle.code.specs.Admitted.{admitted_for, admitted}
use Rattle.code.specs.AdmittedLaws.{refused_parameters, tested-made, refused_input, refused_bits, refused-word, refused-entry}
use Rattle.code.specs.Demand1.{View, refused_as, Checks, passed, check, check_at, First, NoneApplies, Demand1, LowestBad}
use Rattle.code.specs.Demand1.{first_checks, reading_checks_for, reading_checks}

module _ (before : List (List ℕ)) (o : View) where
  -- the first check that applies refuses; if none does, nothing is refused
  abbrev pub Decides : Checks → Type 0
  Decides passed = (o.number ≡ 0) × (o.place ≡ 0)
  Decides (check why applies rest) = (applies × (o ≡ refused_as why before)) ⊎ ((applies → ⊥) × Decides rest)
  -- at one place only
  Decides (check_at why applies rest) =
      ((p : ℕ) × applies p × ((q : ℕ) → applies q → q ≡ p) × (o ≡ refused_as (why p) before)) ⊎ (((p : ℕ) → applies p → ⊥) × Decides rest)

  first-given : (such : Refusal → Type 0) (checks : Checks) → Decides checks → First such checks → (why : Refusal) × such why × (o ≡ refused_as why before)
  first-given such passed d f = absurd f
  first-given such (check why applies rest) d f =
      ⊎_elim
      (λ x. ⊎_elim (λ y. (why, x.0, y.1)) (λ y. absurd (y.0 x.1)) d)
      (λ x. ⊎_elim (λ y. absurd (x.0 y.0)) (λ y. first-given such rest y.1 x.1) d)
      f
  first-given such (check_at why applies rest) d f =
      ⊎_elim
      (λ x. ⊎_elim (λ y. (why y.0, subst (λ (p : ℕ). such (why p)) (y.2 x.0 x.2) x.1, y.3)) (λ y. absurd (y.0 x.0 x.2)) d)
      (λ x. ⊎_elim (λ y. absurd (x.0 y.0 y.1)) (λ y. first-given such rest y.1 x.1) d)
      f

  number-given : (checks : Checks) → Decides checks → (n : ℕ) → 0 < n → o.number ≡ n → First (λ why. number_of why ≡ n) checks
  number-given passed d n h e = absurd (omega arith)
  number-given (check why applies rest) d n h e =
      ⊎_elim (λ x. inl (ap (λ (v : View). v.number) (sym x.1) ∙ e, x.0)) (λ x. inr (x.0, number-given rest x.1 n h e)) d
  number-given (check_at why applies rest) d n h e =
      ⊎_elim (λ x. inl (x.0, ap (λ (v : View). v.number) (sym x.3) ∙ e, x.1)) (λ x. inr (x.0, number-given rest x.1 n h e)) d

  none-given : (checks : Checks) → Decides checks → o.number ≡ 0 → NoneApplies checks
  none-given passed d e = tt
  none-given (check why applies rest) d e =
      ⊎_elim
      (λ x. absurd (omega (arith, number_above why, ap (λ (v : View). v.number) x.1)))
      (λ x. (x.0, none-given rest x.1 e))
      d
  none-given (check_at why applies rest) d e =
      ⊎_elim
      (λ x. absurd (omega (arith, number_above (why x.0), ap (λ (v : View). v.number) x.3)))
      (λ x. (x.0, none-given rest x.1 e))
      d

  given-none : (checks : Checks) → Decides checks → NoneApplies checks → o.number ≡ 0
  given-none passed d n = d.0
  given-none (check why applies rest) d n = ⊎_elim (λ x. absurd (n.0 x.0)) (λ x. given-none rest x.1 n.1) d
  given-none (check_at why applies rest) d n = ⊎_elim (λ x. absurd (n.0 x.0 x.1)) (λ x. given-none rest x.1 n.1) d

  refused-or-done : (checks : Checks) → Decides checks → ((o.number ≡ 0) × (o.place ≡ 0)) ⊎ ((0 < o.number) × (o.buffers ≡ before))
  refused-or-done passed d = inl d
  refused-or-done (check why applies rest) d =
      ⊎_elim (λ x. inr (rw x.1 (number_above why, refl))) (λ x. refused-or-done rest x.1) d
  refused-or-done (check_at why applies rest) d =
      ⊎_elim (λ x. inr (rw x.3 (number_above (why x.0), refl))) (λ x. refused-or-done rest x.1) d

  pub demand_1 : (checks : Checks) → Decides checks → Demand1 checks before o
  demand_1 checks d =
      let either = refused-or-done checks d in
      record {
        number = λ n h. (
          number-given checks d n h,
          λ f. let g = first-given (λ why. number_of why ≡ n) checks d f in ap (λ (v : View). v.number) g.2 ∙ g.1,
        );
        done = (none-given checks d, given-none checks d);
        refused = λ why f.
            let g = first-given (λ given. given ≡ why) checks d f in
            g.2 ∙ ap (λ (w : Refusal). refused_as w before) g.1;
        kept = λ h. ⊎_elim (λ x. absurd (omega arith)) (λ x. x.1) either;
        no_place = λ z. ⊎_elim (λ x. x.1) (λ x. absurd (omega arith)) either;
      }

-- ---- the checks 1 to 4
-- the first entry above the limit is the lowest
module _ {A : Type 0} (d : A) (size : A → ℕ) (limit : ℕ) where
  good_more : (x : A) (l : List A) (p : ℕ) → size x ≤ limit → ((j : ℕ) → j < p → size (get_or l j d) ≤ limit)
      → (j : ℕ) → j < suc p → size (get_or (x ∷ l) j d) ≤ limit
  good_more x l p k f zero h = k
  good_more x l p k f (suc j) h = f j (le_of_suc-le-suc h)

  first_lowest : (l : List A) → first_above size limit l < length l → LowestBad d size limit l (first_above size limit l)
  unfolding first_above
  first_lowest [] h = absurd (not-suc-le-zero h)
  first_lowest (x ∷ l) h =
      ⊎_elim
      (λ k. rw (lt-ltb limit (size x) k) (record { below = omega arith; bad = k; lowest = λ j i. absurd (not-suc-le-zero i) }))
      (λ k.
      let rest = first_lowest l (le_of_suc-le-suc (rw (le-ltb limit (size x) k) at h)) in
      let more = good_more x l (first_above size limit l) k rest.lowest in
      rw (le-ltb limit (size x) k) (record { below = omega (arith, rest.below); bad = rest.bad; lowest = more }))
      (lt_or_le limit (size x))

  -- check 4, by a call that compares the first such place with the length
  pub decides_entry : (l : List A) (before : List (List ℕ)) (o : View) (rest : Checks)
      → (first_above size limit l < length l → o ≡ refused_as (Entry (first_above size limit l)) before)
      → (length l ≤ first_above size limit l → Decides before o rest) → Decides before o (check_at Entry (LowestBad d size limit l) rest)
  decides_entry l before o rest four else =
      ⊎_elim
      (λ h. inl (first_above size limit l, first_lowest l h, λ q b. first-here d size limit l q b.lowest b.below b.bad, four h))
      (λ h. inr (λ p b. omega (arith, b.bad, all_good d size limit l h p b.below), else h))
      (lt_or_le (first_above size limit l) (length l))

  -- each check by the call, on what the checks before it leave
  pub record MadeFirst (r m : ℕ) (l : List A) (expected : ℕ) (outputs : Type 0) (before : List (List ℕ)) (o : View) (rest : Checks) : Type 0 where
    pub decidable : outputs ⊎ (outputs → ⊥)
    pub one : made r m ≡ Err Parameters → o ≡ refused_as Parameters before
    pub two : Sound (rm r m) → (length l ≡ expected → ⊥) → o ≡ refused_as InputLength before
    pub three : Sound (rm r m) → length l ≡ expected → (outputs → ⊥) → o ≡ refused_as OutputLength before
    pub four : Sound (rm r m) → length l ≡ expected → outputs → first_above size limit l < length l → o ≡ refused_as (Entry (first_above size limit l)) before
    pub else : Sound (rm r m) → length l ≡ expected → outputs → length l ≤ first_above size limit l → Decides before o rest

  pub decides_first : (r m : ℕ) (l : List A) (expected : ℕ) (outputs : Type 0) (before : List (List ℕ)) (o : View) (rest : Checks)
      → MadeFirst r m l expected outputs before o rest → Decides before o (first_checks d size limit r m l expected outputs rest)
  decides_first r m l expected outputs before o rest by =
      ⊎_elim
      (λ large. inl (inl large, by.one (made_large r m large)))
      (λ small. ⊎_elim
      (λ crossed. inl (inr crossed, by.one (made-crossed r m small crossed)))
      (λ within.
      let sound : Sound (rm r m) = record { r_small = within; m_small = small } in
      inr (
        λ x. ⊎_elim (λ y. omega arith) (λ y. omega arith) x,
        elim (ℕ_discrete (length l) expected) [
          | no e ↦ inl (e, by.two sound e)
          | yes e ↦ inr (
            λ f. f e,
            ⊎_elim
                (λ out. inr (
                  λ f. f out,
                  decides_entry l before o rest (by.four sound e out) (by.else sound e out),
                ))
                (λ no-out. inl (no-out, by.three sound e no-out))
                by.decidable,
          )
        ],
      ))
      (lt_or_le m r))
      (lt_or_le largest_m m)

-- of readings, by the tests that `quick` and the search share
module _ (expected : Code → ℕ) (r m : ℕ) (l : List ℤ) (k n : ℕ) where
  both_long : (b : ℕ) → ((k ≡ b) × (n ≡ 2 ^ m)) ⊎ ((k ≡ b) × (n ≡ 2 ^ m) → ⊥)
  both_long b =
      elim (ℕ_discrete k b) [
        | no e ↦ inr (λ x. e x.0)
        | yes e ↦ elim (ℕ_discrete n (2 ^ m)) [
          | no f ↦ inr (λ x. f x.1)
          | yes f ↦ inl (e, f)
        ]
      ]

  pub decides_readings_for : (before : List (List ℕ)) (o : View) (rest : Checks)
      → ((why : Refusal) → Err why ≡ admitted_for expected r m l k n → o ≡ refused_as why before)
      → (SoundFor (rm r m) (expected (rm r m)) k n (GoodReadings (rm r m) l) → Decides before o rest)
      → Decides before o (reading_checks_for (expected (rm r m)) r m l k n rest)
  decides_readings_for before o rest by then =
      let c = rm r m in
      let b = expected c in
      let after : Sound c → _ = λ s. tested-made expected r m l k n c (made_good r m s.m_small s.r_small) in
      decides_first (pos 0) nat_abs largest_reading r m l (2 ^ m) ((k ≡ b) × (n ≡ 2 ^ m)) before o rest
      (record {
        decidable = both_long b;
        one = λ e. by Parameters (refused_parameters expected r m l k n e);
        two = λ s e. by InputLength (refused_input c b l k n e ∙ after s);
        three = λ s e f. by OutputLength (elim (ℕ_discrete k b) [
          | no g ↦ refused_bits c b l k n e g ∙ after s
          | yes g ↦ refused-word c b l k n e g (λ w. f (g, w)) ∙ after s
        ]);
        four = λ s e out h. by (Entry (first_bad_reading largest_reading l)) (refused-entry c b l k n e out.0 out.1 h ∙ after s);
        else = λ s e out h. then (record {
          sound = s;
          long_bits = out.0;
          long_word = out.1;
          entries = record { long = e; within = good_readings largest_reading l h };
        });
      })

pub decides_readings : (r m : ℕ) (l : List ℤ) (k n : ℕ) (before : List (List ℕ)) (o : View) (rest : Checks)
    → ((why : Refusal) → Err why ≡ admitted r m l k n → o ≡ refused_as why before) → (SoundReadings (rm r m) l k n → Decides before o rest)
    → Decides before o (reading_checks r m l k n rest)
decides_readings = decides_readings_for dimension_of
