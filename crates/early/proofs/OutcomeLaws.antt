-- The outcome at each place where `early_within` returns.
use Rattle.std.specs.Prelude.{◌≡◌, refl, true, false, List, ℕ, ℤ, length, Result, Ok, Err}
use Rattle.std.proofs.Common.{ap, ◌∙◌, arith, ne_eqb}
use Rattle.words.specs.Kinds.{kinds}
use Rattle.decoding.specs.Answer.{answer}
use Rattle.decoding.specs.Quick.{quick_word}
use Rattle.sure.specs.Test.{is_sure}
use Rattle.quick.specs.Outcome as Quick
use Rattle.code.specs.declared.Code.{Code}
use Rattle.code.specs.declared.Refusal.{Refusal}
use Rattle.code.specs.Sound.{number_of}
use Rattle.code.specs.RefusalLaws.{number_above}
use Rattle.code.specs.Admitted.{admitted}
use Rattle.search.specs.Outcome.{found_with, refused, by_answer}
use Rattle.search.specs.Outcome as Search
use Rattle.early.specs.Outcome.{as_searched, outcome_of, word_only, early_by, answering}
use Rattle.early.specs.OutcomeLaws.{penalty_only}
use Rattle.search.specs.declared.Found.{Found}

pub penalty_only-again : (a : Result ℕ Refusal) → penalty_only (as_searched a) ≡ a
penalty_only-again (Ok penalty) = refl
penalty_only-again (Err why) = refl

-- a refusal is reported with all that it carries
refusal_whole : (why : Refusal) (bits word : List ℕ) → refused why bits word ≡ word_only (refused why bits word)
refusal_whole why bits word = rw (ne_eqb (number_of why) 0 (λ e. omega (arith, number_above why, e)))

pub penalty_only_outcome : (a : Result Found Refusal) (bits word : List ℕ) → outcome_of (penalty_only a) bits word ≡ word_only (Search.outcome_of a bits word)
penalty_only_outcome (Ok best) bits word = refl
penalty_only_outcome (Err why) bits word = refusal_whole why bits word

module _ (r m allowed : ℕ) (l : List ℤ) (bits word : List ℕ) where
  pub answering-refused : (why : Refusal) → Err why ≡ admitted r m l (length bits) (length word)
      → answering r m allowed l bits word ≡ refused why bits word
  unfolding answering
  answering-refused why e = rw (← e)

  pub answering_sound : (c : Code) → Ok c ≡ admitted r m l (length bits) (length word)
      → answering r m allowed l bits word ≡ early_by c allowed l bits word
  unfolding answering
  answering_sound c e = rw (← e)

-- ---- once the input is sound: the quick reading is b and x, of penalty p
module _ (c : Code) (allowed : ℕ) (l : List ℤ) (bits word : List ℕ) (p : ℕ) (b x : List ℕ) (read : Quick.done p b x ≡ Quick.reading_by c l) where
  word_read : x ≡ quick_word c.m (kinds c.r c.m) l
  word_read = ap (λ (o : Quick.Outcome). o.word) read

  -- its test passes, or does not
  pub at_once : is_sure c.r c.m l x ≡ true → (b' x' : List ℕ) → b' ≡ b → x' ≡ x → found_with p 0 0 b' x' ≡ early_by c allowed l bits word
  at_once e b' x' f g =
      rw (rw word_read at e, f ∙ ap (λ (o : Quick.Outcome). o.bits) read, g ∙ word_read, ap (λ (o : Quick.Outcome). o.penalty) read)

  pub by_search : is_sure c.r c.m l x ≡ false → (a : Result Found Refusal) (bits' word' : List ℕ)
      → Search.outcome_of a bits' word' ≡ by_answer allowed bits word (answer c.m (kinds c.r c.m) l allowed)
      → outcome_of (penalty_only a) bits' word' ≡ early_by c allowed l bits word
  by_search e a bits' word' f = rw (rw word_read at e) (penalty_only_outcome a bits' word' ∙ ap word_only f)
