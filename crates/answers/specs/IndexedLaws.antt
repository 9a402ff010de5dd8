-- The exports of an index report the outcomes of the calls that they make.
use Rattle.std.specs.Prelude.{◌≡◌, refl, List, [], ◌∷◌, ℕ, length, drop, Result, Ok, Err}
use Rattle.std.proofs.Common.{ap, ap₂, ◌∙◌, arith, ne_eqb}
use Rattle.code.specs.Sound.{carried}
use Rattle.code.specs.RefusalLaws.{number_above}
use Rattle.index.specs.declared.Located.{Located}
use Rattle.index.specs.Making as Making
use Rattle.index.specs.Making.{IndexOutcome}
use Rattle.index.specs.Fronting.{FrontOutcome, front_outcome_of}
use Rattle.index.specs.Appending.{AppendOutcome, append_outcome_of}
use Rattle.answers.specs.Reported.{reported}
use Rattle.record.specs.Reader.{header_of, part_by}
use Rattle.index.specs.Finding.{start_in, header_at, part_at, header_in, part_in, part_after, part_start_at, part_start}
use Rattle.index.specs.Finding.{located_by, located_at, located_in}
use Rattle.answers.specs.Answers.{header_number}
use Rattle.answers.specs.Indexed.{shown_made, found_number, found_numbers, entry_numbers, shown_entry, shown_appended}
use Rattle.answers.specs.Indexed.{indexed_number, made_numbers, appended_numbers, pair_after}
use Rattle.answers.specs.Indexed.{shown_front, fronted_number, fronted_numbers}
use Rattle.code.specs.declared.Code.{Code}
use Rattle.code.specs.declared.Refusal.{Refusal}
use Rattle.index.specs.declared.Index.{Index}
use Rattle.index.specs.declared.FrontIndex.{FrontIndex}

by_made : (a : Result Index Refusal) (t : List ℕ) → reported (indexed_number a) (made_numbers a) (t ∷ []) ≡ shown_made (Making.outcome_of a t)
by_made (Ok i) t = refl
by_made (Err why) t = refl

pub reported-made : (a : Result Index Refusal) (t : List ℕ) (o : IndexOutcome) (returned : ℕ) (out : List ℕ) → Making.outcome_of a t ≡ o
    → returned ≡ indexed_number a → out ≡ made_numbers a → reported returned out (t ∷ []) ≡ shown_made o
reported-made a t o returned out e f g = ap₂ (λ (n : ℕ) (l : List ℕ). reported n l (t ∷ [])) f g ∙ by_made a t ∙ ap shown_made e

by_front : (a : Result FrontIndex Refusal) (t : List ℕ) → reported (fronted_number a) (fronted_numbers a) (t ∷ []) ≡ shown_front (front_outcome_of a t)
by_front (Ok f) t = refl
by_front (Err why) t = refl

pub reported-front : (a : Result FrontIndex Refusal) (t : List ℕ) (o : FrontOutcome) (returned : ℕ) (out : List ℕ) → front_outcome_of a t ≡ o
    → returned ≡ fronted_number a → out ≡ fronted_numbers a → reported returned out (t ∷ []) ≡ shown_front o
reported-front a t o returned out e f g = ap₂ (λ (n : ℕ) (l : List ℕ). reported n l (t ∷ [])) f g ∙ by_front a t ∙ ap shown_front e

by_appended : (before : List ℕ) (a : Result Index Refusal) (d t : List ℕ)
    → reported (indexed_number a) (appended_numbers a) (pair_after before a ∷ d ∷ t ∷ []) ≡ shown_appended before (append_outcome_of a d t)
by_appended before (Ok i) d t = refl
by_appended before (Err why) d t = rw (ne_eqb (carried why).number 0 (λ z. omega (arith, number_above why, z)))

pub reported-appended : (before : List ℕ) (a : Result Index Refusal) (d t : List ℕ) (o : AppendOutcome) (returned : ℕ) (out after : List ℕ)
    → append_outcome_of a d t ≡ o → returned ≡ indexed_number a → out ≡ appended_numbers a → after ≡ pair_after before a
    → reported returned out (after ∷ d ∷ t ∷ []) ≡ shown_appended before o
reported-appended before a d t o returned out after e f g h =
    ap₂ (λ (n : ℕ) (l : List ℕ). reported n l (after ∷ d ∷ t ∷ [])) f g
    ∙ ap (λ (x : List ℕ). reported (indexed_number a) (appended_numbers a) (x ∷ d ∷ t ∷ [])) h
    ∙ by_appended before a d t
    ∙ ap (shown_appended before) e

-- an answer with this header, this start and this part's length
pub reported-entry : (header : Result Code Refusal) (start : ℕ) (part out : List ℕ) (returned : ℕ) → returned ≡ header_number header
    → out ≡ entry_numbers header start (length part) → reported returned out [] ≡ shown_entry header start part
reported-entry header start part out returned f g = ap₂ (λ (n : ℕ) (l : List ℕ). reported n l []) f g

-- a record that was found: its header, where its packed part starts, and that part
by_header : (h : Result Code Refusal) (start : ℕ) (s : List ℕ) → let a = located_by h (part_after h start) (length (part_by h s)) in
    reported (found_number a) (found_numbers a) [] ≡ shown_entry h (part_after h start) (part_by h s)
by_header (Ok c) start s = refl
by_header (Err why) start s = refl

by_found : (s : List ℕ) (p : Result ℕ Refusal) → let a = located_at s p in
    reported (found_number a) (found_numbers a) [] ≡ shown_entry (header_at s p) (part_start_at s p) (part_at s p)
by_found s (Err why) = refl
by_found s (Ok start) = by_header (header_of (drop start s)) start (drop start s)

pub reported-found : (answer : Result Located Refusal) (s table : List ℕ) (w : ℕ) (out : List ℕ) (returned : ℕ) → answer ≡ located_in s table w
    → returned ≡ found_number answer → out ≡ found_numbers answer
    → reported returned out [] ≡ shown_entry (header_in s table w) (part_start s table w) (part_in s table w)
reported-found answer s table w out returned e f g =
    ap₂ (λ (n : ℕ) (l : List ℕ). reported n l []) f g
    ∙ ap (λ (a : Result Located Refusal). reported (found_number a) (found_numbers a) []) e
    ∙ by_found s (start_in s table w)

-- what an append reports, by its variant
pub handed_append : (before : List ℕ) (answer a : Result Index Refusal) (returned : ℕ) (after out : List ℕ) → answer ≡ a
    → returned ≡ indexed_number a → after ≡ pair_after before a → out ≡ appended_numbers a
    → (returned ≡ indexed_number answer) × (after ≡ pair_after before answer) × (out ≡ appended_numbers answer)
handed_append before answer a returned after out e f g h = (rw e f, rw e g, rw e h)
