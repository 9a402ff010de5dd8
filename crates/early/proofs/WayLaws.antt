-- The outcome on sound input: if the test passes, and if it does not.
use Rattle.std.specs.Prelude.{◌≡◌, refl, ◌⊎◌, Bool, true, false, List, ℕ, ℤ, length}
use Rattle.std.proofs.Common.{inl, inr}
use Rattle.words.specs.Kinds.{kinds}
use Rattle.decoding.specs.Quick.{quick_word, quick_bits, quick_penalty}
use Rattle.sure.specs.Test.{passes}
use Rattle.code.specs.Sound.{rm}
use Rattle.code.specs.AdmittedLaws.{sound_allowed}
use Rattle.search.specs.Outcome.{found_with, searching}
use Rattle.search.specs.Demands.{SoundSearch}
use Rattle.search.specs.DemandsMet.{sound_answered}
use Rattle.early.specs.Outcome.{word_only, early_by, answering}
use Rattle.early.proofs.OutcomeLaws.{answering_sound}

pub true_or_false : (b : Bool) → (b ≡ true) ⊎ (b ≡ false)
true_or_false true = inl refl
true_or_false false = inr refl

module _ {r m : ℕ} {l : List ℤ} (bits word : List ℕ) (x : SoundSearch r m l bits word) (allowed : ℕ) where
  sound_is : answering r m allowed l bits word ≡ early_by (rm r m) allowed l bits word
  sound_is = answering_sound r m allowed l bits word (rm r m) (sound_allowed r m l (length bits) (length word) x)

  pub passed_is : passes r m (kinds r m) l ≡ true
      → answering r m allowed l bits word ≡ found_with (quick_penalty m (kinds r m) l) 0 0 (quick_bits m (kinds r m) l) (quick_word m (kinds r m) l)
  passed_is e = rw (sound_is, e)

  pub failed_is : passes r m (kinds r m) l ≡ false → answering r m allowed l bits word ≡ word_only (searching r m allowed l bits word)
  failed_is e = rw (sound_is, e, sound_answered bits word x allowed)
