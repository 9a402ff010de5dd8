-- A run in which no read and no write failed has not failed: so, once it has ended, it has handed over the output of all bytes.
use Rattle.std.specs.Prelude.{◌≡◌, refl, List, Bool, true, false, ℕ, zero, suc, Option, None, Some}
use Rattle.std.proofs.Common.{ap, ◌∙◌}
use Rattle.numbers.specs.Choice.{cond_by}
use Rattle.rounds.specs.declared.Situation.{Situation}
use Rattle.program.specs.Program.{Result, answered, refused, result_of, stops}
use Rattle.rounds.specs.Situation.{unread, after, after_read, after_write}
use Rattle.cinorbis.specs.Runs.{RoundTaken, writes, takes, totals, reads, Passed, Chain, start, round, Ran, HandsOver, Came, Went, AllWent}
use Rattle.cinorbis.specs.RunsLaws.{ran_hands_over}

-- ---- a round keeps it
pub failed_after : (s : Situation) (result : Result) (text at : ℕ) → (after s result text at).failed ≡ s.failed
failed_after s (answered bits penalty gap visits) text at = refl
failed_after s (refused why) text at =
    cond_by (λ (t : Situation). t.failed ≡ s.failed) (stops (refused why)) _ _ (λ z. refl) (λ z. refl)

failed_written : (s : Situation) (done : Bool) → done ≡ true → (after_write done s).failed ≡ s.failed
failed_written s done e = rw e

failed_read : (s : Situation) (got : Option ℕ) (n : ℕ) → Came got → (after_read got n s).failed ≡ s.failed
failed_read s (Some zero) n h = refl
failed_read s (Some (suc k)) n h = refl
failed_read s None n h = absurd h

went_kept : (s : Situation) (input output : List ℕ) (t : Situation) (input' output' : List ℕ) (w : RoundTaken s input output t input' output')
    → Went s input output t input' output' w → t.failed ≡ s.failed
went_kept s input output t input' output' (writes next k i o) h = ap (λ (x : Situation). x.failed) k.is ∙ failed_written s k.done h
went_kept s input output t input' output' (takes next k i) h =
    ap (λ (x : Situation). x.failed) k.counts ∙ failed_after s (result_of (unread s input)) t.text _
went_kept s input output t input' output' (totals next k i) h = ap (λ (x : Situation). x.failed) k.closes
went_kept s input output t input' output' (reads next k o) h = ap (λ (x : Situation). x.failed) k.is ∙ failed_read s k.got _ h

-- ---- so does a chain
pub chain_went : (n : ℕ) (s : Situation) (input output : List ℕ) (p : Passed) (c : Chain n s input output p) → AllWent n s input output p c → s.failed ≡ false
unfolding AllWent
chain_went n s input output p (start i o) h = refl
chain_went n s input output p (round m s₀ input₀ output₀ p₀ t input' output' c g e f w) h =
    went_kept s₀ input₀ output₀ t input' output' w h.0 ∙ chain_went m s₀ input₀ output₀ p₀ c h.1

-- A run that has ended, and in which no read and no write failed, has handed over the output of all bytes.
pub went_hands_over : (s : Situation) (input output : List ℕ) (x : Ran s input output) → s.going ≡ false
    → AllWent x.rounds s input output x.passed x.chain → HandsOver x.passed
went_hands_over s input output x g h = ran_hands_over s input output x g (chain_went x.rounds s input output x.passed x.chain h)
