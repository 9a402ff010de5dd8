-- Rows of zeros that are lent in part, and the outcome at each place where the writer returns.
use Rattle.std.specs.Prelude.{◌≡◌, refl, List, ◌∷◌, ℕ, zero, suc, ◌*◌, ◌%◌, ◌^◌, ◌≤◌, ◌<◌, length, take, replicate, Ok, Err}
use Rattle.std.proofs.Common.{ap, sym, ⊎_elim, arith, pow_mono}
use Rattle.std.proofs.Math.Decide.{ℕ_discrete}
use borrow.Author.Tests.{eq-eqb, ne_eqb, lt-ltb, le-ltb}
use Rattle.numbers.specs.Choice.{lt_or_le}
use Rattle.code.specs.declared.Code.{Code}
use Rattle.code.specs.declared.Refusal.{Refusal}
use Rattle.code.specs.declared.Refusal.TheVariants.{Parameters, OutputLength}
use Rattle.code.specs.Sound.{Sound, largest_m, made}
use Rattle.code.specs.SoundLaws.{made_of, made_good, made_refused}
use Rattle.guarded.specs.declared.Fault.TheVariants.{Link, Field}
use Rattle.rod.specs.Rod.{rod_word}
use Rattle.guarded.specs.Written.{done, refused}
use Rattle.rod.specs.Outcome.{writing_rod}

pub take-zeros : (k n : ℕ) → k ≤ n → take k (replicate {A = ℕ} n 0) ≡ replicate k 0
take-zeros zero n h = refl
take-zeros (suc k) zero h = absurd (omega arith)
take-zeros (suc k) (suc n) h = ap (λ (l : List ℕ). 0 ∷ l) (take-zeros k n (omega arith))

-- one shifted by m, as the machine has it
pub shifted : (m : ℕ) → m ≤ largest_m → 1 * 2 ^ m % 18446744073709551616 ≡ 2 ^ m
shifted m h = let most : 2 ^ m ≤ 256 = pow_mono {j = 8} h in omega arith

-- ---- the writer
module _ (m position : ℕ) (word : List ℕ) where
  pub writing-none : m ≡ 0 → writing_rod m position word ≡ refused (Link Parameters) word
  unfolding writing_rod
  writing-none e = rw (eq-eqb m 0 e)

  module _ (some : m ≡ 0 → ⊥) where
    pub writing_above : largest_m < m → writing_rod m position word ≡ refused (Link Parameters) word
    unfolding writing_rod
    writing_above h = rw (ne_eqb m 0 some, lt-ltb largest_m m h)

    module _ (small : m ≤ largest_m) where
      pub writing_short : (length word ≡ 2 ^ m → ⊥) → writing_rod m position word ≡ refused (Link OutputLength) word
      unfolding writing_rod
      writing_short f = rw (ne_eqb m 0 some, le-ltb largest_m m small, ne_eqb (length word) (2 ^ m) f)

      module _ (long : length word ≡ 2 ^ m) where
        pub writing_large : 2 ^ m ≤ position → writing_rod m position word ≡ refused Field word
        unfolding writing_rod
        writing_large h = rw (ne_eqb m 0 some, le-ltb largest_m m small, eq-eqb (length word) (2 ^ m) long, le-ltb position (2 ^ m) h)

        pub writing-done : position < 2 ^ m → writing_rod m position word ≡ done (rod_word m position)
        unfolding writing_rod
        writing-done h = rw (ne_eqb m 0 some, le-ltb largest_m m small, eq-eqb (length word) (2 ^ m) long, lt-ltb position (2 ^ m) h)

  -- test 1, by the code-parameter type: RM(1,m) has m of 1 to 8
  pub writing_unmade : {why : Refusal} → made 1 m ≡ Err why → refused (Link why) word ≡ writing_rod m position word
  writing_unmade e =
      rw (made_refused 1 m _ e)
      (elim (ℕ_discrete m 0) [
        | yes z ↦ sym (writing-none z)
        | no some ↦ ⊎_elim
            (λ large. sym (writing_above some large))
            (λ small. let z : ◌≡◌ {A = ℕ} 0 1 = cc (made_good 1 m small (omega arith)) in absurd (omega arith))
            (lt_or_le largest_m m)
      ])

-- what a code RM(1,m) that is made shows
pub record Made (m : ℕ) (c : Code) : Type 0 where
  pub some : m ≡ 0 → ⊥
  pub small : m ≤ largest_m
  pub sound : Sound c
  pub same-m : c.m ≡ m

pub is_made : (m : ℕ) (c : Code) → made 1 m ≡ Ok c → Made m c
is_made m c e =
    let shown = made_of 1 m c e in
    let r : c.r ≡ 1 = ap (λ (d : Code). d.r) shown.same in
    let is : c.m ≡ m = ap (λ (d : Code). d.m) shown.same in
    record {
      some = λ z. omega (arith, shown.sound.r_small, r, is, z);
      small = omega (arith, shown.sound.m_small, is);
      sound = shown.sound;
      same-m = is;
    }
