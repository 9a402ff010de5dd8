-- The tests 1 to 4 of a call that is given readings and lends two outputs, bits and word (docs/RULES.md, §6).
use Rattle.std.specs.Prelude.{List, cond, not, ℕ, ◌^◌, ℤ, length, ltb, eqb, Result, Ok, Err}
use Rattle.code.specs.declared.Code.{Code}
use Rattle.code.specs.declared.Refusal.{Refusal}
use Rattle.code.specs.declared.Refusal.TheVariants.{InputLength, OutputLength, Entry}
use Rattle.code.specs.Sound.{made, largest_reading}
use Rattle.code.specs.SoundInput.{dimension_of}
use Rattle.code.specs.Entries.{first_bad_bit, first_bad_reading}

abbrev pub if_made : Result Code Refusal → (Code → Result Code Refusal) → Result Code Refusal
if_made (Ok c) f = f c
if_made (Err why) f = Err why

-- test 4: the place of the first bad entry, if it is one of this many
abbrev pub entry_tested : ℕ → ℕ → Result (Unit {0}) Refusal
entry_tested place n = cond (ltb place n) (Err (Entry place)) (Ok tt)

abbrev pub bits_tested : List ℕ → Result (Unit {0}) Refusal
bits_tested b = entry_tested (first_bad_bit b) (length b)

abbrev pub readings_tested : ℕ → List ℤ → Result (Unit {0}) Refusal
readings_tested largest l = entry_tested (first_bad_reading largest l) (length l)

-- tests 2 to 4 of a code, with this number of information bits expected: readings l, and outputs of k and n bits
abbrev pub admitted_by : Code → ℕ → List ℤ → ℕ → ℕ → Result Code Refusal
admitted_by c expected l k n =
    let place = first_bad_reading largest_reading l in
    cond (not (eqb (length l) (2 ^ c.m))) (Err InputLength)
    (cond (not (eqb k expected)) (Err OutputLength)
    (cond (not (eqb n (2 ^ c.m))) (Err OutputLength)
    (cond (ltb place (length l)) (Err (Entry place)) (Ok c))))

unfoldable pub admitted_for : (Code → ℕ) → ℕ → ℕ → List ℤ → ℕ → ℕ → Result Code Refusal
admitted_for expected r m l k n = if_made (made r m) (λ c. admitted_by c (expected c) l k n)

-- the k information bits of RM(r,m)
abbrev pub admitted : ℕ → ℕ → List ℤ → ℕ → ℕ → Result Code Refusal
admitted r m l k n = admitted_for dimension_of r m l k n

-- what a call gives after its tests: a refusal, or what the call gives for the code
abbrev pub after_test : {O : Type 0} → Result Code Refusal → (Refusal → O) → (Code → O) → O
after_test (Err why) refuse then = refuse why
after_test (Ok c) refuse then = then c
