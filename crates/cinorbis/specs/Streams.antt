-- What a run does to its reader and its writer: to the bytes that a reader has left, and to those that a writer holds, where these are known.
use Rattle.std.specs.Prelude.{◌≡◌, List, true, false, ℕ, ◌-◌, take, drop, Option, IfSome}
use Rattle.std.specs.Io.KnownBytes.{Appends, Consumes, IsAtEnd}
use Rattle.rounds.specs.declared.Situation.{Situation}
use Rattle.rounds.specs.declared.Next.{Next}
use Rattle.rounds.specs.declared.Next.TheVariants.{Write, Take, Total, Read}
use Rattle.program.specs.Program.{output}
use Rattle.rounds.specs.Situation.{text_of}

-- the text was handed to the writer: unless that failed, the writer holds it too
abbrev pub WrittenOn : Situation → List ℕ → Option (List ℕ) → Option (List ℕ) → Type 0
WrittenOn t text held held' = t.failed ≡ false → Appends held held' text

-- A read put bytes after the unread ones: unless it failed, they are the next that the reader had, and if the input ended with it, none is left.
abbrev pub ReadOn : (s t : Situation) → List ℕ → Option (List ℕ) → Option (List ℕ) → Type 0
ReadOn s t input' left left' =
    t.failed ≡ false
    → Consumes left left' (take (t.«end» - (s.«end» - s.at)) (drop (s.«end» - s.at) input')) × (s.ended ≡ false → t.ended ≡ true → IsAtEnd left')

-- what each kind of round does to both
abbrev pub Streamed : Next → (s t : Situation) → (output input' : List ℕ) → (left left' held held' : Option (List ℕ)) → Type 0
Streamed Write s t output input' left left' held held' = (left' ≡ left) × WrittenOn t (text_of s output) held held'
Streamed Take s t output input' left left' held held' = (left' ≡ left) × (held' ≡ held)
Streamed Total s t output input' left left' held held' = (left' ≡ left) × (held' ≡ held)
Streamed Read s t output input' left left' held held' = (held' ≡ held) × ReadOn s t input' left left'

-- A run that has ended without an error has written the output of all bytes that the reader had.
abbrev pub Whole : Situation → (left held held' : Option (List ℕ)) → Type 0
Whole t left held held' = t.going ≡ false → t.failed ≡ false → IfSome left (λ bytes. Appends held held' (output bytes))
