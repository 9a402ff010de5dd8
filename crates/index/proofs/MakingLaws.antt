-- Laws of making: the entries one by one from the front of the table.
use Rattle.std.specs.Prelude.{◌≡◌, refl, List, [], ◌∷◌, ◌++◌, ℕ, zero, suc, ◌+◌, ◌-◌, ◌*◌, ◌/◌, ◌%◌, ◌≤◌, ◌<◌, length, get_or, drop, set, Ok, Err}
use Rattle.std.proofs.Math.Path.{ap}
use Rattle.std.proofs.Common.{sym, ◌∙◌, ⊎_elim, arith, length-drop, take_all, eq-eqb, ne_eqb, lt-ltb, le-ltb}
use Rattle.std.proofs.Math.Decide.{ℕ_discrete}
use Rattle.numbers.specs.Choice.{lt_or_le}
use Rattle.numbers.specs.Front.{front, front-suc}
use Rattle.code.specs.declared.Refusal.{Refusal}
use Rattle.code.specs.declared.Refusal.TheVariants.{OutputLength}
use Rattle.index.specs.Finding.{block}
use Rattle.index.specs.Steps.{stepped, Starts, these, refused, starts_at, starts_of}
use Rattle.index.specs.Making.{every, entries_of, index_of, outcome_of, made_by, making, counted, entries_for, Room, with_entry, list_of, Enterable, entered}
use Rattle.index.specs.StepsLaws.{Begins}
use Rattle.index.proofs.StepsLaws.{step_goes, starts-end, starts_begin, starts_none}
use Rattle.index.specs.MakingLaws.{Entering}

-- ---- every 16th
length-every : (k : ℕ) (l : List ℕ) → k < block → length (every k l) ≡ (length l + ((block - 1) - k)) / block
length-every k [] h = omega arith
length-every zero (x ∷ l) h = omega (arith, length-every (block - 1) l (omega arith))
length-every (suc k) (x ∷ l) h = omega (arith, length-every k l (omega arith))

pub length_entries : (l : List ℕ) → length (entries_of l) ≡ entries_for (length l)
length_entries l = omega (arith, length-every 0 l (omega arith))

every_at : (k : ℕ) (l : List ℕ) (q : ℕ) → get_or (every k l) q 0 ≡ get_or l (k + block * q) 0
every_at k [] q = refl
every_at zero (x ∷ l) zero = refl
every_at zero (x ∷ l) (suc q) =
    let e : 0 + block * suc q ≡ suc ((block - 1) + block * q) = omega arith in
    rw e (every_at (block - 1) l q)
every_at (suc k) (x ∷ l) q =
    let e : suc k + block * q ≡ suc (k + block * q) = omega arith in
    rw e (every_at k l q)

-- entry q is the start of record 16 q
pub entry_at : (l : List ℕ) (q : ℕ) → get_or (entries_of l) q 0 ≡ get_or l (block * q) 0
entry_at l q = every_at 0 l q ∙ ap (λ (i : ℕ). get_or l i 0) (omega arith)

these_same : {l l' : List ℕ} → these l ≡ these l' → l ≡ l'
these_same e = cc

pub enter_first : (s before : List ℕ) → Enterable s (length before) → Entering s before 0 0 before
enter_first s before e =
    record { inside = omega arith; few = omega arith; left = e.whole; some = omega arith; enough = e.enough; same = refl; is = refl }

drop-cons : (l : List ℕ) (w : ℕ) → w < length l → drop w l ≡ get_or l w 0 ∷ drop (w + 1) l
drop-cons [] w h = absurd (omega arith)
drop-cons (x ∷ l) zero h = refl
drop-cons (x ∷ l) (suc w) h =
    let e : suc w + 1 ≡ suc (w + 1) = omega arith in
    rw e (drop-cons l w (omega arith))

drop-none : (l : List ℕ) (w : ℕ) → length l ≤ w → drop w l ≡ []
drop-none [] zero h = refl
drop-none [] (suc w) h = refl
drop-none (x ∷ l) zero h = absurd (omega arith)
drop-none (x ∷ l) (suc w) h = drop-none l w (omega arith)

module _ (s before now : List ℕ) (at w : ℕ) (h : Entering s before at w now) where
  abbrev all : List ℕ
  all = list_of (starts_of s)

  -- a record is left if bytes are
  pub one_left : at < length s → w < length all
  one_left inside = ⊎_elim (λ k. k) (λ k. absurd (none k)) (lt_or_le w (length all))
    where
      none : length all ≤ w → ⊥
      none k = omega (arith, starts_none s at h.inside (h.left ∙ ap these (drop-none all w k)))

  -- and it starts at this place
  begins : at < length s → Begins s at (get_or all w 0) (drop (w + 1) all)
  begins inside = starts_begin s at (get_or all w 0) (drop (w + 1) all) h.inside (h.left ∙ ap these (drop-cons all w (one_left inside)))

  -- so a step that is refused has come to the end
  pub enter_stopped : ((next : ℕ) → stepped s at ≡ Ok next → ⊥) → length s ≤ at
  enter_stopped none = ⊎_elim (λ inside. absurd (none (begins inside).next (begins inside).step)) (λ past. past) (lt_or_le at (length s))

  pub entry-room : at < length s → Room (length now) w
  entry-room inside e = omega (arith, h.same, length_entries all, one_left inside, h.enough)

  next-entry : at < length s → with_entry w at now ≡ front before (entries_of all) (entries_for (w + 1))
  next-entry inside =
      let made = entries_of all in
      let q = w / block in
      let count = length_entries all in
      let one = one_left inside in
      elim (ℕ_discrete (w % block) 0) [
        | yes z ↦
            let f : entries_for w ≡ q = omega arith in
            let g : entries_for (w + 1) ≡ suc q = omega arith in
            let i : w ≡ block * q = omega arith in
            let v : at ≡ get_or made q 0 = sym (begins inside).first ∙ ap (λ (i : ℕ). get_or all i 0) i ∙ sym (entry_at all q) in
            rw (eq-eqb (w % block) 0 z)
            (ap (λ (x : List ℕ). set x q at) (h.is ∙ ap (front before made) f)
            ∙ ap (set (front before made q) q) v
            ∙ front-suc before made q 0 (omega (arith, count, one, h.enough)) (omega (arith, count, one))
            ∙ ap (front before made) (sym g))
        | no n ↦
            let f : entries_for w ≡ entries_for (w + 1) = omega (arith, n) in
            rw (ne_eqb (w % block) 0 n) (h.is ∙ ap (front before made) f)
      ]

  pub enter_next : (next : ℕ) (then : List ℕ) → stepped s at ≡ Ok next → then ≡ with_entry w at now → length then ≡ length now
      → Entering s before next (w + 1) then
  enter_next next then e f g =
      let go = step_goes s at next e in
      let b = begins go.inside in
      let same : next ≡ b.next = cc in
      record {
        inside = go.there;
        few = omega (arith, go.further, h.few);
        left = ap (starts_at s) same ∙ b.others;
        some = omega (arith, one_left go.inside);
        enough = h.enough;
        same = g ∙ h.same;
        is = f ∙ next-entry go.inside;
      }

  pub enter_done : length s ≤ at → now ≡ entered s before
  enter_done past =
      let made = entries_of all in
      let none : drop w all ≡ [] = these_same (sym h.left ∙ starts-end s at (omega (arith, h.inside))) in
      let all_done : entries_for w ≡ length made = omega (arith, length_entries all, ap length none, length-drop w all, h.some) in
      h.is ∙ ap (front before made) all_done ∙ ap (λ (x : List ℕ). x ++ drop (length made) before) (take_all (length made) made (omega arith))

-- ---- the three answers of making
module _ (s table : List ℕ) where
  pub record Whole (n : ℕ) : Type 0 where
    pub whole : starts_of s ≡ these (list_of (starts_of s))
    pub count : n ≡ length (list_of (starts_of s))

  counted_by_lem : (n : ℕ) (t : Starts) → Ok n ≡ counted 0 t → (t ≡ these (list_of t)) × (n ≡ length (list_of t))
  counted_by_lem n (refused why) e = let z : ◌≡◌ {A = ℕ} 0 1 = cc in absurd (omega arith)
  counted_by_lem n (these l) e = let same : n ≡ 0 + length l = cc in (refl, omega arith)

  pub counted_whole : (n : ℕ) → Ok n ≡ counted 0 (starts_of s) → Whole n
  counted_whole n e = let r = counted_by_lem n (starts_of s) e in record { whole = r.0; count = r.1 }

  made-refused : (why : Refusal) (t : Starts) → Err why ≡ counted 0 t → outcome_of (Err why) table ≡ made_by t s table
  made-refused why (refused why') e = let same : why ≡ why' = cc in ap (λ (w : Refusal). outcome_of (Err w) table) same
  made-refused why (these l) e = let z : ◌≡◌ {A = ℕ} 0 1 = cc in absurd (omega arith)

  made_short : (t : Starts) → t ≡ these (list_of t) → length table < length (entries_of (list_of t))
      → outcome_of (Err OutputLength) table ≡ made_by t s table
  made_short (refused why) e h = let z : ◌≡◌ {A = ℕ} 0 1 = cc in absurd (omega arith)
  made_short (these l) e h = rw (lt-ltb (length table) (length (entries_of l)) h)

  pub made_whole : (t : Starts) → t ≡ these (list_of t) → length (entries_of (list_of t)) ≤ length table
      → outcome_of (Ok (index_of (length (list_of t)) (length s))) (entries_of (list_of t) ++ drop (length (entries_of (list_of t))) table)
      ≡ made_by t s table
  made_whole (refused why) e h = let z : ◌≡◌ {A = ℕ} 0 1 = cc in absurd (omega arith)
  made_whole (these l) e h = rw (le-ltb (length table) (length (entries_of l)) h)

  pub make_refused : (why : Refusal) → Err why ≡ counted 0 (starts_of s) → outcome_of (Err why) table ≡ making s table
  unfolding making
  make_refused why e = made-refused why (starts_of s) e

  module _ (n : ℕ) (w : Whole n) where
    pub make_short : length table < entries_for n → outcome_of (Err OutputLength) table ≡ making s table
    unfolding making
    make_short h =
        let same = w.count in
        made_short (starts_of s) w.whole (omega (arith, length_entries (list_of (starts_of s)), rw same at h))

    pub make_room : entries_for n ≤ length table → Enterable s (length table)
    make_room h =
        let same = w.count in
        record { whole = w.whole; enough = omega (arith, length_entries (list_of (starts_of s)), rw same at h) }

    pub make_done : entries_for n ≤ length table → outcome_of (Ok (index_of n (length s))) (entered s table) ≡ making s table
    unfolding making
    make_done h =
        ap (λ (n : ℕ). outcome_of (Ok (index_of n (length s))) (entered s table)) w.count
        ∙ made_whole (starts_of s) w.whole (make_room h).enough
