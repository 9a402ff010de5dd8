-- The numbers of the rules that no other law fixes: the largest m, the standing allowance, and the refusals' numbers.
use Rattle.std.specs.Prelude.{◌≡◌, refl, ℕ, Ok, Err}
use Rattle.code.specs.declared.Refusal.TheVariants.{Parameters, InputLength, OutputLength, Entry, NotAWord, OutOfVisits, Tied, Torn, Pad, NoEntry, Map, Named}
use Rattle.code.specs.Sound.{default_allowance, rm, made, number_of}

pub record RuleNumbers : Type 0 where
  -- 0 ≤ r ≤ m ≤ 8
  pub longest_code : made 8 8 ≡ Ok (rm 8 8)
  pub m_too_large : made 0 9 ≡ Err Parameters
  pub r_too_large : made 8 7 ≡ Err Parameters
  pub standing : default_allowance ≡ 200000
  pub n1 : number_of Parameters ≡ 1
  pub n2 : number_of InputLength ≡ 2
  pub n3 : number_of OutputLength ≡ 3
  pub n4 : (place : ℕ) → number_of (Entry place) ≡ 4
  pub n5 : (index : ℕ) → number_of (NotAWord index) ≡ 5
  pub n6 : (allowed : ℕ) → number_of (OutOfVisits allowed) ≡ 6
  pub n7 : (penalty visits : ℕ) → number_of (Tied penalty visits) ≡ 7
  pub n8 : number_of Torn ≡ 8
  pub n9 : number_of Pad ≡ 9
  pub n10 : number_of NoEntry ≡ 10
  pub n11 : number_of Map ≡ 11
  pub n12 : number_of Named ≡ 12

pub rule_numbers : RuleNumbers
unfolding made
rule_numbers =
    record {
      longest_code = refl;
      m_too_large = refl;
      r_too_large = refl;
      standing = refl;
      n1 = refl;
      n2 = refl;
      n3 = refl;
      n4 = λ place. refl;
      n5 = λ index. refl;
      n6 = λ allowed. refl;
      n7 = λ penalty visits. refl;
      n8 = refl;
      n9 = refl;
      n10 = refl;
      n11 = refl;
      n12 = refl;
    }
