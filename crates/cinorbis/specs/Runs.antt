-- A run of the program: any chain of rounds, with all that passed between it and the operating system.
use Rattle.std.specs.Prelude.{◌≡◌, List, [], ◌++◌, Bool, true, false, ◌⊎◌, ℕ, zero, suc, ◌-◌, ◌^◌, ◌<◌, Option, None, Some, length, take, drop}
use Rattle.rounds.specs.declared.Situation.{Situation}
use Rattle.rounds.specs.declared.Next.TheVariants.{Write, Take, Total, Read}
use Rattle.program.specs.Program.{output}
use Rattle.rounds.specs.Situation.{starting, next_of, text_of, Took, Finished, Flushed, Refilled}

-- a round does what is next, and only that
pub data RoundTaken (s : Situation) (input output : List ℕ) (t : Situation) (input' output' : List ℕ) : Type 0 where
  writes : next_of s input (length output) ≡ Write → Flushed s t → input' ≡ input → output' ≡ output → RoundTaken s input output t input' output'
  takes : next_of s input (length output) ≡ Take → Took s input output t output' → input' ≡ input → RoundTaken s input output t input' output'
  totals : next_of s input (length output) ≡ Total → Finished s output t output' → input' ≡ input → RoundTaken s input output t input' output'
  reads : next_of s input (length output) ≡ Read → Refilled s input t input' → output' ≡ output → RoundTaken s input output t input' output'

-- what has passed so far: the bytes that came, one read after another; whether a read returned 0; and the texts handed to the writer, one after another
pub record Passed : Type 0 where
  pub came : List ℕ
  pub over : Bool
  pub handed : List ℕ

abbrev pub nothing : Passed
nothing = record { came = []; over = false; handed = [] }

abbrev pub with_text : Passed → List ℕ → Passed
with_text p text = record { came = p.came; over = p.over; handed = p.handed ++ text }

-- a read returned a number, and the bytes that it put are at the front of fresh
abbrev pub with_read : Passed → Option ℕ → List ℕ → Passed
with_read p None fresh = p
with_read p (Some zero) fresh = record { came = p.came; over = true; handed = p.handed }
with_read p (Some (suc k)) fresh = record { came = p.came ++ take (suc k) fresh; over = p.over; handed = p.handed }

-- what a round adds: all of the text that waits is handed over, and each byte that a read gave came
abbrev pub passing : (s : Situation) (input output : List ℕ) (t : Situation) (input' output' : List ℕ)
    → RoundTaken s input output t input' output' → Passed → Passed
passing s input output t input' output' (writes next f i o) p = with_text p (text_of s output)
passing s input output t input' output' (takes next f i) p = p
passing s input output t input' output' (totals next f i) p = p
passing s input output t input' output' (reads next f o) p = with_read p f.got (drop (s.«end» - s.at) input')

-- n rounds from the start on, each while the program is going
pub data Chain : ℕ → Situation → List ℕ → List ℕ → Passed → Type 0 where
  start : (input output : List ℕ) → Chain 0 starting input output nothing
  round : (n : ℕ) (s : Situation) (input output : List ℕ) (p : Passed) (t : Situation) (input' output' : List ℕ)
      → Chain n s input output p → s.going ≡ true → length input' ≡ length input → length output' ≡ length output
      → (w : RoundTaken s input output t input' output') → Chain (suc n) t input' output' (passing s input output t input' output' w p)

-- a read did not fail
abbrev pub Came : Option ℕ → Type 0
Came (Some n) = Unit {0}
Came None = ⊥

-- the operating system reported no error in a round
abbrev pub Went : (s : Situation) (input output : List ℕ) (t : Situation) (input' output' : List ℕ) → RoundTaken s input output t input' output' → Type 0
Went s input output t input' output' (writes next f i o) = f.done ≡ true
Went s input output t input' output' (takes next f i) = Unit {0}
Went s input output t input' output' (totals next f i) = Unit {0}
Went s input output t input' output' (reads next f o) = Came f.got

-- nor in any round of a chain
unfoldable pub AllWent : (n : ℕ) (s : Situation) (input output : List ℕ) (p : Passed) → Chain n s input output p → Type 0
AllWent n s input output p (start i o) = Unit {0}
AllWent n s input output p (round m s₀ input₀ output₀ p₀ t input' output' c g e f w) =
    Went s₀ input₀ output₀ t input' output' w × AllWent m s₀ input₀ output₀ p₀ c

-- A run that leaves this situation and these buffers is a chain of rounds from the start on. It has ended, unless more than 2^62 bytes came.
pub record Ran (s : Situation) (input output : List ℕ) : Type 0 where
  pub rounds : ℕ
  pub passed : Passed
  pub chain : Chain rounds s input output passed
  pub ends : (s.going ≡ false) ⊎ (2 ^ 62 < length passed.came)

-- What was handed over is what the definition gives for all bytes of the input: those that came and those not read, of which there are none if a read
-- returned 0.
pub record HandsOver (p : Passed) : Type 0 where
  pub output-is : (rest : List ℕ) → (p.over ≡ true → rest ≡ []) → p.handed ≡ output (p.came ++ rest)

pub record Beginning (handed all : List ℕ) : Type 0 where
  pub more : List ℕ
  pub is : handed ++ more ≡ all
