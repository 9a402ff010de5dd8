-- A table that belongs to a capture finds its records, whatever the entries past its own hold; and the part that is found is where the answer says.
use Rattle.std.specs.Prelude.{◌≡◌, refl, List, ℕ, ◌+◌, ◌/◌, ◌≤◌, ◌<◌, length, get_or, take, drop, Result, Ok, Err}
use Rattle.std.proofs.Common.{ap, sym, ◌∙◌, arith, length-take, get_or-take, drop-drop}
use Rattle.std.proofs.lemmas.Bool.{lt-leb}
use Rattle.packing.specs.Layout.{part_length}
use Rattle.record.specs.Reader.{header_of, part_by}
use Rattle.index.specs.declared.Index.{Index}
use Rattle.index.specs.Steps.{starts_of}
use Rattle.index.specs.Finding.{start_in, header_at, part_at, part_in, part_after, part_start_at, part_start, block}
use Rattle.index.specs.Making.{entries_of, list_of}
use Rattle.index.proofs.MakingLaws.{length_entries}
use Rattle.index.specs.Own.{Belongs, FoundInUse}
use Rattle.index.proofs.OwnMet.{own-start}
use Rattle.index.proofs.BelongsMet.{take_taken}
use Rattle.code.specs.declared.Code.{Code}
use Rattle.code.specs.declared.Refusal.{Refusal}

-- an entry of its own is read the same
same_start : (s own table : List ℕ) (w : ℕ) → take (length own) table ≡ own → w / block < length own → start_in s table w ≡ start_in s own w
unfolding start_in
same_start s own table w front there =
    let long : length own ≤ length table = omega (arith, ap length front, length-take (length own) table) in
    let entry : get_or table (w / block) 0 ≡ get_or own (w / block) 0 =
    sym (get_or-take (length own) table (w / block) 0 there) ∙ ap (λ (t : List ℕ). get_or t (w / block) 0) front in
    rw (lt-leb (length table) (w / block) (omega arith), lt-leb (length own) (w / block) there, entry)

pub found_in_use : (index : Index) (capture table : List ℕ) → Belongs index capture table → (w : ℕ) → w < index.records → FoundInUse index capture table w
found_in_use index capture table b w h =
    let s = take index.used capture in
    let all = list_of (starts_of s) in
    let own = entries_of all in
    let there : w / block < length own = omega (arith, b.count, length_entries all) in
    let is = same_start s own table w b.entries there ∙ own-start s own (record { whole = b.whole; own = refl }) w there in
    record { header = ap (header_at s) is; part = ap (part_at s) is }

-- ---- the part is where the answer says
header_located : (s : List ℕ) (start : ℕ) (h : Result Code Refusal)
    → part_by h (drop start s) ≡ take (length (part_by h (drop start s))) (drop (part_after h start) s)
header_located s start (Err why) = refl
header_located s start (Ok c) =
    let same : drop (start + 1) s ≡ drop 1 (drop start s) = sym (drop-drop 1 start s) in
    rw same (sym (take_taken (part_length c.m) (drop 1 (drop start s))))

place_located : (s : List ℕ) (p : Result ℕ Refusal) → part_at s p ≡ take (length (part_at s p)) (drop (part_start_at s p) s)
place_located s (Err why) = refl
place_located s (Ok start) = header_located s start (header_of (drop start s))

pub part_located : (s table : List ℕ) (w : ℕ) → part_in s table w ≡ take (length (part_in s table w)) (drop (part_start s table w) s)
part_located s table w = place_located s (start_in s table w)
