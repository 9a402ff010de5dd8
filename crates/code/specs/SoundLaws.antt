-- Laws of the code parameters: what the tests on r and m show, and the row of kinds as it is filled.
use Rattle.std.specs.Prelude.{◌≡◌, ℕ, ◌-◌, ◌^◌, ◌≤◌, ◌<◌, Ok, Err}
use Rattle.std.proofs.Common.{⊎_elim, arith, pow_mono}
use Rattle.std.specs.Int.Count as Count
use borrow.Author.Tests.{le-leb, lt-leb}
use Rattle.numbers.specs.Choice.{lt_or_le}
use Rattle.words.specs.BitLaws.{ones-counted}
use Rattle.words.specs.Kinds.{kind, dimension}
use Rattle.words.proofs.KindLaws.{dimension_most}
use Rattle.code.specs.declared.Code.{Code}
use Rattle.code.specs.Sound.{Sound, made, largest_m, rm}
use Rattle.code.specs.declared.Refusal.{Refusal}
use Rattle.code.specs.declared.Refusal.TheVariants.{Parameters}

module _ (r m : ℕ) where
  pub made_large : largest_m < m → made r m ≡ Err Parameters
  unfolding made
  made_large h = rw (lt-leb m largest_m h)

  pub made-crossed : m ≤ largest_m → m < r → made r m ≡ Err Parameters
  unfolding made
  made-crossed h k = rw (le-leb m largest_m h, lt-leb r m k)

  pub made_good : m ≤ largest_m → r ≤ m → made r m ≡ Ok (rm r m)
  unfolding made
  made_good h k = rw (le-leb m largest_m h, le-leb r m k)

  -- by the machine's count of ones
  module _ (i : ℕ) (h : i < 2 ^ m) where
    pub kind-one : m - r ≤ Count.ones i → 1 ≡ kind r m i
    unfolding kind
    kind-one k = rw (le-leb (m - r) _ (rw (ones-counted m i h) at k))

    pub kind-zero : Count.ones i < m - r → 0 ≡ kind r m i
    unfolding kind
    kind-zero k = rw (lt-leb (m - r) _ (rw (ones-counted m i h) at k))

-- what a code that is made shows: it is the code of r and m, and sound
pub record MadeOf (r m : ℕ) (c : Code) : Type 0 where
  pub same : c ≡ rm r m
  pub sound : Sound c

pub made_of : (r m : ℕ) (c : Code) → made r m ≡ Ok c → MadeOf r m c
made_of r m c e =
    ⊎_elim
    (λ large. let z : ◌≡◌ {A = ℕ} 0 1 = cc (made_large r m large) in absurd (omega arith))
    (λ small.
    ⊎_elim
    (λ crossed. let z : ◌≡◌ {A = ℕ} 0 1 = cc (made-crossed r m small crossed) in absurd (omega arith))
    (λ within.
    let same : c ≡ rm r m = cc (made_good r m small within) in
    record { same = same; sound = rw same (record { r_small = within; m_small = small }) })
    (lt_or_le m r))
    (lt_or_le largest_m m)

-- what is not made is refused as 1
pub made_refused : (r m : ℕ) (why : Refusal) → made r m ≡ Err why → why ≡ Parameters
made_refused r m why e =
    ⊎_elim
    (λ large. cc (made_large r m large))
    (λ small.
    ⊎_elim
    (λ crossed. cc (made-crossed r m small crossed))
    (λ within. let z : ◌≡◌ {A = ℕ} 0 1 = cc (made_good r m small within) in absurd (omega arith))
    (lt_or_le m r))
    (lt_or_le largest_m m)

-- n is at most 256
pub length_most : {c : Code} → Sound c → 2 ^ c.m ≤ 256
length_most s = pow_mono s.m_small

-- and so is k
pub dimension-largest : (c : Code) → Sound c → dimension c.r c.m ≤ 256
dimension-largest c s = omega (arith, dimension_most c.r c.m, length_most s)
