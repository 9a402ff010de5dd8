-- The program ends: each round brings it nearer, so that a run has at most three rounds for each byte that came, plus four.
use Rattle.std.specs.Prelude.{◌≡◌, refl, List, ◌++◌, ◌⊎◌, Bool, true, false, cond, not, ℕ, zero, suc}
use Rattle.std.specs.Prelude.{◌+◌, ◌-◌, ◌*◌, ◌^◌, ◌≤◌, ◌<◌, min, Option, None, Some, ltb}
use Rattle.std.specs.Prelude.{length, take, drop}
use Rattle.std.proofs.Common.{ap, sym, ◌∙◌, subst, inl, inr, ⊎_elim, arith, length-append, length-drop, length-take, ltb-true}
use Rattle.numbers.specs.Choice.{cond_by}
use Rattle.rounds.specs.declared.Situation.{Situation}
use Rattle.rounds.specs.declared.Next.TheVariants.{Write, Take, Total, Read}
use Rattle.program.specs.Program.{Result, answered, refused, result_of, stops, next_start}
use Rattle.program.specs.OutputLaws.{goes_on_there}
use Rattle.rounds.specs.Situation.{room, longest, Ready, unread, is_there, after, after_read, after_write}
use Rattle.rounds.specs.SituationLaws.{next-shown, there_first, absent_short}
use Rattle.cinorbis.specs.Runs.{RoundTaken, writes, takes, totals, reads, Passed, with_read, passing, Chain, start, round, Ran}
use Rattle.cinorbis.specs.RunsLaws.{Bounded, chain_holds}

-- as many rounds may still come if no other byte does
abbrev pub rounds_left : Situation → ℕ
rounds_left s = 2 * (s.«end» - s.at) + min 1 s.text + cond s.closed 0 2 + cond s.ended 0 1 + cond s.going 1 0

at_most_one : (b : Bool) → cond b 1 0 ≤ 1
at_most_one true = omega arith
at_most_one false = omega arith

-- c bytes came
grown : (n l k c t a b g : ℕ) → n + (2 * k + t + a + b + 1) ≤ 3 * l + 4 → 1 ≤ c → g ≤ 1 → suc n + (2 * (k + c - 0) + t + a + b + g) ≤ 3 * (l + c) + 4
grown n l k c t a b g h one small = omega arith

module _ (n most : ℕ) (s : Situation) (input output : List ℕ) (r : Ready s input output) (g : s.going ≡ true)
    (space : longest ≤ length input) (line : room ≤ length output) (h : n + rounds_left s ≤ most) where
  before : n + (2 * (s.«end» - s.at) + min 1 s.text + cond s.closed 0 2 + cond s.ended 0 1 + 1) ≤ most
  before = rw g at h

  -- ---- what waits is written: it is not empty, or it is the last
  left_written_some : (done : Bool) → 0 < s.text → suc n + rounds_left (after_write done s) ≤ most
  left_written_some true t = omega (arith, before, at_most_one (not s.closed))
  left_written_some false t = omega (arith, before)

  left-written-last : (done : Bool) → s.closed ≡ true → suc n + rounds_left (after_write done s) ≤ most
  left-written-last true c = let b = rw c at before in rw c (omega (arith, b))
  left-written-last false c = omega (arith, before)

  left-written : (done : Bool) → (s.closed ≡ true) ⊎ (ltb (length output - s.text) room ≡ true) ⊎ (ltb 0 s.text ≡ true)
      → suc n + rounds_left (after_write done s) ≤ most
  left-written done =
      ⊎_elim (λ c. left-written-last done c)
      (⊎_elim (λ f. left_written_some done (omega (arith, ltb-true (length output - s.text) room f))) (λ f. left_written_some done (ltb-true 0 s.text f)))

  -- ---- a record is taken: it has bytes
  rounds_after : (result : Result) (text : ℕ) → is_there s input ≡ true → result_of (unread s input) ≡ result
      → suc n + rounds_left (after s result text (s.at + next_start (unread s input))) ≤ most
  rounds_after (answered bits penalty gap visits) text t e =
      omega (arith, before, at_most_one s.going, (goes_on_there (unread s input) (rw e)).some, there_first s input t r.order)
  rounds_after (refused why) text t e =
      cond_by (λ (x : Situation). suc n + rounds_left x ≤ most) (stops (refused why)) _ _
      (λ z. omega (arith, before, at_most_one s.going, there_first s input t r.order))
      (λ z. omega (arith, before, at_most_one s.going, (goes_on_there (unread s input) (rw e z)).some, there_first s input t r.order))

  -- ---- a read: bytes came, or it is the last
  left-read : (got : Option ℕ) (input' : List ℕ) → length input' ≡ length input → is_there s input ≡ false → s.ended ≡ false → (p : Passed)
      → most ≡ 3 * length p.came + 4 → let k = s.«end» - s.at in
      suc n + rounds_left (after_read got (length input - k) s) ≤ 3 * length (with_read p got (drop k input')).came + 4
  left-read None input' same t e p b = omega (arith, before)
  left-read (Some zero) input' same t e p b = let c = rw e at before in omega (arith, c, at_most_one s.going)
  left-read (Some (suc j)) input' same t e p b =
      let k = s.«end» - s.at in
      let c = min (suc j) (length input - k) in
      let fresh = drop k input' in
      let long : length fresh ≡ length input - k = length-drop k input' ∙ ap (λ (n : ℕ). n - k) same in
      let came : length (p.came ++ take (suc j) fresh) ≡ length p.came + c =
      length-append p.came (take (suc j) fresh) ∙ ap (λ (n : ℕ). length p.came + n) (length-take (suc j) fresh ∙ ap (min (suc j)) long) in
      let one : 1 ≤ c = omega (arith, absent_short s input t e) in
      rw came
      (grown n (length p.came) k c (min 1 s.text) (cond s.closed 0 2) (cond s.ended 0 1) (cond s.going 1 0)
      (rw b at before) one (at_most_one s.going))

  left_round : (p : Passed) → most ≡ 3 * length p.came + 4 → (t : Situation) (input' output' : List ℕ) → length input' ≡ length input
      → (w : RoundTaken s input output t input' output') → suc n + rounds_left t ≤ 3 * length (passing s input output t input' output' w p).came + 4
  left_round p b t input' output' same (writes next k i o) =
      subst (λ (x : Situation). suc n + rounds_left x ≤ 3 * length p.came + 4) (sym k.is)
      (rw (← b) (left-written k.done (next-shown s input (length output) Write next)))
  left_round p b t input' output' same (takes next k i) =
      let w = next-shown s input (length output) Take next in
      subst (λ (x : Situation). suc n + rounds_left x ≤ 3 * length p.came + 4) (sym k.counts)
      (rw (← b) (rounds_after (result_of (unread s input)) t.text w.2 refl))
  left_round p b t input' output' same (totals next k i) =
      let c = rw (next-shown s input (length output) Total next).0 at before in
      subst (λ (x : Situation). suc n + rounds_left x ≤ 3 * length p.came + 4) (sym k.closes) (omega (arith, c, at_most_one s.going))
  left_round p b t input' output' same (reads next k o) =
      let w = next-shown s input (length output) Read next in
      subst (λ (x : Situation). suc n + rounds_left x ≤ 3 * length (with_read p k.got (drop (s.«end» - s.at) input')).came + 4) (sym k.is)
      (left-read k.got input' same w.2 w.3 p b)

-- the rounds of a chain, and those still to come
pub chain_length : (n : ℕ) (s : Situation) (input output : List ℕ) (p : Passed) → Chain n s input output p → longest ≤ length input → room ≤ length output
    → n + rounds_left s ≤ 3 * length p.came + 4
chain_length n s input output p (start i o) space line = omega arith
chain_length n s input output p (round m s₀ input₀ output₀ p₀ t input' output' c g e f w) space line =
    let big : longest ≤ length input₀ = omega arith in
    let wide : room ≤ length output₀ = omega arith in
    let r = (chain_holds m s₀ input₀ output₀ p₀ c).bounded.ready in
    left_round m (3 * length p₀.came + 4) s₀ input₀ output₀ r g big wide (chain_length m s₀ input₀ output₀ p₀ c big wide) p₀ refl t input' output' e w

-- ---- for the proof at the code: a chain of so many rounds, over buffers in which the longest record and the longest line fit
pub record Along (n : ℕ) (s : Situation) (input output : List ℕ) : Type 0 where
  pub passed : Passed
  pub chain : Chain n s input output passed
  pub space : longest ≤ length input
  pub line : room ≤ length output

module _ (n : ℕ) (s : Situation) (input output : List ℕ) (a : Along n s input output) where
  pub along_bounded : Bounded n s input output a.passed
  along_bounded = (chain_holds n s input output a.passed a.chain).bounded

  unfoldable pub along_round : (t : Situation) (input' output' : List ℕ) → s.going ≡ true → length input' ≡ length input
      → length output' ≡ length output
      → RoundTaken s input output t input' output' → Along (suc n) t input' output'
  along_round t input' output' g e f w =
      record {
        passed = passing s input output t input' output' w a.passed;
        chain = round n s input output a.passed t input' output' a.chain g e f w;
        space = omega (arith, a.space);
        line = omega (arith, a.line);
      }

  unfoldable pub along_ran : (s.going ≡ false) ⊎ (2 ^ 64 - 1 ≤ n) → Ran s input output
  along_ran e =
      record {
        rounds = n;
        passed = a.passed;
        chain = a.chain;
        ends = ⊎_elim (λ g. inl g) (λ z. inr (omega (arith, z, chain_length n s input output a.passed a.chain a.space a.line))) e;
      }
