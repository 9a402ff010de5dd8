-- The early answer's test (docs/RULES.md, §10): whether the quick reading's word has the property of §4, with the largest size as M.
use Rattle.std.specs.Prelude.{Bool, List, ℕ, ◌-◌, ◌*◌, ◌^◌, ℤ, ltb}
use Rattle.words.specs.Kinds.{Word}
use Rattle.decoding.specs.Quick.{quick_word}
use Rattle.sure.specs.Sure.{largest, doubt, Sure}

-- for a word x; never with M = 0, as nothing is below 0
unfoldable pub is_sure : ℕ → ℕ → List ℤ → List ℕ → Bool
is_sure r m l x = let M = largest l in ltb (doubt M l x) (M * 2 ^ (m - r))

-- for the quick reading's word, in the set of ks
abbrev pub passes : ℕ → ℕ → List ℕ → List ℤ → Bool
passes r m ks l = is_sure r m l (quick_word m ks l)

-- some word of the set has the property, for some M
pub record SomeSure (r m : ℕ) (ks : List ℕ) (l : List ℤ) : Type 0 where
  pub M : ℕ
  pub word : List ℕ
  pub is_word : Word m ks word
  pub sure : Sure M r m l word
