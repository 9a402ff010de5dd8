-- A table that was just made belongs to its capture, and after an append it belongs to the longer one: appends can follow one another.
use Rattle.std.specs.Prelude.{◌≡◌, refl, List, [], ◌∷◌, ℕ, zero, suc, ℤ, length, take, drop}
use Rattle.std.proofs.Common.{ap, subst, sym, ◌∙◌, ⊎_elim, arith, length-take, take_at, lt-ltb}
use Rattle.numbers.specs.Choice.{lt_or_le}
use Rattle.code.specs.RefusalLaws.{number_above}
use Rattle.index.specs.declared.Index.{Index}
use Rattle.index.specs.Steps.{Starts, these, refused, starts_of}
use Rattle.index.specs.Making.{entries_of, IndexOutcome, made_by, making, list_of}
use Rattle.index.proofs.MakingLaws.{made_whole}
use Rattle.index.specs.Appending.{appending}
use Rattle.index.specs.Own.{Belongs}
use Rattle.index.proofs.AppendMet.{append_afresh}

-- ---- what is made of a capture with these starts
record MadeOf (s : List ℕ) (starts : Starts) (o : IndexOutcome) : Type 0 where
  whole : starts ≡ these (list_of starts)
  used : o.index.used ≡ length s
  count : o.index.records ≡ length (list_of starts)
  entries : take (length (entries_of (list_of starts))) o.table ≡ entries_of (list_of starts)

made_of_starts : (s t : List ℕ) (starts : Starts) → (made_by starts s t).carry.number ≡ 0 → MadeOf s starts (made_by starts s t)
made_of_starts s t (refused why) e = absurd (omega (arith, number_above why, e))
made_of_starts s t (these l) e =
    let made = entries_of l in
    ⊎_elim
    (λ short. absurd (omega (arith, rw (lt-ltb (length t) (length made) short) at e)))
    (λ room.
    subst (MadeOf s (these l)) (made_whole s t (these l) refl room)
    (record { whole = refl; used = refl; count = refl; entries = take_at made (drop (length made) t) (length made) refl }))
    (lt_or_le (length t) (length made))

pub take_taken : (n : ℕ) (l : List ℕ) → take (length (take n l)) l ≡ take n l
take_taken zero l = refl
take_taken (suc n) [] = refl
take_taken (suc n) (x ∷ l) = ap (λ (y : List ℕ). x ∷ y) (take_taken n l)

-- for the used part of a buffer, whatever follows it
pub made_belongs : (used : ℕ) (capture table : List ℕ) → let o = making (take used capture) table in
    o.carry.number ≡ 0 → Belongs o.index capture o.table
unfolding making
made_belongs used capture table e =
    let s = take used capture in
    let made = made_of_starts s table (starts_of s) e in
    let o = making s table in
    let same : s ≡ take o.index.used capture = sym (ap (λ (n : ℕ). take n capture) made.used ∙ take_taken used capture) in
    record {
      inside = omega (arith, made.used, length-take used capture);
      whole = subst (λ (x : List ℕ). starts_of x ≡ these (list_of (starts_of x))) same made.whole;
      count = subst (λ (x : List ℕ). o.index.records ≡ length (list_of (starts_of x))) same made.count;
      entries = subst (λ (x : List ℕ). let own = entries_of (list_of (starts_of x)) in take (length own) o.table ≡ own) same made.entries;
    }

pub belongs_again : (index : Index) (r m : ℕ) (l : List ℤ) (capture table : List ℕ) → Belongs index capture table
    → let o = appending index r m l capture table in o.carry.number ≡ 0 → Belongs o.index o.capture o.table
belongs_again index r m l capture table b e =
    let o = appending index r m l capture table in
    subst (λ (x : IndexOutcome). x.carry.number ≡ 0 → Belongs x.index o.capture x.table) (append_afresh index r m l capture table b e)
    (made_belongs o.index.used o.capture table) refl
