-- Laws of what the program must write: it goes record by record, and bytes after a record do not change its line.
use Rattle.std.specs.Prelude as std
use Rattle.std.specs.Prelude.{◌≡◌, refl, List, [], ◌∷◌, ◌++◌, true, false, cond, ℕ, zero, suc, ◌+◌, ◌-◌, ◌^◌, ◌≤◌, ◌<◌, length, drop, Ok, Err}
use Rattle.std.proofs.Common.{ap, ◌∙◌, arith, length-append, length-drop}
use Rattle.std.proofs.lemmas.List.{drop-append-le}
use Rattle.numbers.specs.Choice.{cond_two}
use Rattle.record.specs.Reader.{header_of}
use Rattle.record.specs.HeaderLaws.{There, header_there, header_before, readings_before}
use Rattle.lines.specs.Line.{total_line}
use Rattle.program.specs.Program.{Result, allowance, headed, result_of, line_of, stops, is_answered, next_start, output_from}
use Rattle.code.specs.declared.Code.{Code}
use Rattle.code.specs.declared.Refusal.{Refusal}

-- the program's allowance is a million
pub allowance-is : allowance ≡ 10 ^ 6
allowance-is = refl

-- if a record does not stop the program, all of its bytes are there
pub goes_on_there : (s : List ℕ) → stops (result_of s) ≡ false → There s
unfolding result_of
goes_on_there s h = header_there s (λ e. let f : true ≡ false = rw e at h in cc)
    (λ e. let f : true ≡ false = rw e at h in cc)

headed-before : (s rest : List ℕ) (h : std.Result Code Refusal) → header_of s ≡ h → headed h (s ++ rest) ≡ headed h s
headed-before s rest (Err why) e = refl
headed-before s rest (Ok c) e = rw (readings_before s rest c e)

-- what becomes of a record that is there completely does not depend on the bytes after it
pub result_before : (s rest : List ℕ) → 0 < length s → next_start s ≤ length s → result_of (s ++ rest) ≡ result_of s
unfolding result_of
result_before s rest h n = ap (λ (x : std.Result Code Refusal). headed x (s ++ rest)) (header_before s rest h n) ∙ headed-before s rest (header_of s) refl

-- as many records as there are bytes are enough
enough : (k j a f : ℕ) (s : List ℕ) → length s ≤ k → length s ≤ j → output_from k a f s ≡ output_from j a f s
unfolding output_from
enough zero zero a f s h i = refl
enough zero (suc j) a f [] h i = refl
enough zero (suc j) a f (x ∷ s) h i = absurd (omega arith)
enough (suc k) zero a f [] h i = refl
enough (suc k) zero a f (x ∷ s) h i = absurd (omega arith)
enough (suc k) (suc j) a f [] h i = refl
enough (suc k) (suc j) a f (x ∷ s) h i =
    let t = x ∷ s in
    let result = result_of t in
    ap (λ (l : List ℕ). line_of (a + f) result ++ l)
    (cond_two (λ (x y : List ℕ). x ≡ y) (stops result) _ _ _ _ (λ e. refl)
    (λ e.
    let there = goes_on_there t e in
    let short : length (drop (next_start t) t) ≡ suc (length s) - next_start t = length-drop (next_start t) t in
    enough k j _ _ (drop (next_start t) t) (omega (arith, there.some)) (omega (arith, there.some))))

-- the lines and the total of bytes s, when this many records before them were answered and refused
abbrev pub lines_of : ℕ → ℕ → List ℕ → List ℕ
lines_of answers refusals s = output_from (length s) answers refusals s

pub lines_end : (answers refusals : ℕ) → lines_of answers refusals [] ≡ total_line answers refusals
unfolding output_from
lines_end answers refusals = refl

-- the counts after a record
abbrev pub answers_after : Result → ℕ → ℕ
answers_after result n = cond (is_answered result) (suc n) n

abbrev pub refusals_after : Result → ℕ → ℕ
refusals_after result n = cond (is_answered result) n (suc n)

-- after a record with this result, when s are the bytes after it
abbrev pub lines_after : ℕ → ℕ → Result → List ℕ → List ℕ
lines_after a f result s =
    cond (stops result) (total_line (answers_after result a) (refusals_after result f)) (lines_of (answers_after result a) (refusals_after result f) s)

-- the first record's line and then those of the others, whatever follows the bytes s, as long as it does not change the record
pub lines_first : (a f : ℕ) (s rest : List ℕ) → 0 < length s → result_of (s ++ rest) ≡ result_of s
    → lines_of a f (s ++ rest) ≡ line_of (a + f) (result_of s) ++ lines_after a f (result_of s) (drop (next_start s) s ++ rest)
unfolding output_from
lines_first a f [] rest h e = absurd (omega arith)
lines_first a f (x ∷ s) rest h e =
    let t = x ∷ s in
    let n = next_start t in
    let result = result_of t in
    rw e
    (ap (λ (l : List ℕ). line_of (a + f) result ++ l)
    (cond_two (λ (x y : List ℕ). x ≡ y) (stops result) _ _ _ _ (λ e. refl)
    (λ e.
    let there = goes_on_there t e in
    let behind : drop n (t ++ rest) ≡ drop n t ++ rest = drop-append-le n t rest there.whole in
    let short : length (drop n t ++ rest) ≤ length (s ++ rest) =
    omega (arith, length-append (drop n t) rest, length-append s rest, length-drop n t, there.some) in
    rw behind (enough (length (s ++ rest)) (length (drop n t ++ rest)) _ _ (drop n t ++ rest) short (omega arith)))))
