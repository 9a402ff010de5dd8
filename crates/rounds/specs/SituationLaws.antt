-- Laws of the program's state: what is next, a record that is taken, and the bytes after which a read puts new ones.
use Rattle.std.specs.Prelude.{◌≡◌, refl, List, ◌++◌, ◌⊎◌, Bool, true, false, cond, ℕ, ◌+◌, ◌-◌, ◌≤◌, ◌<◌, length, get_or, take, drop}
use Rattle.std.specs.Prelude.{ltb, leb, eqb}
use Rattle.std.proofs.Common.{ap, ◌∙◌, subst, inl, inr, ⊎_elim, arith, length-append, length-drop, length-take-le, take_at, eq-eqb, ne_eqb, eqb-true}
use Rattle.std.proofs.Common.{leb-false, leb-true}
use borrow.Rule.Slice.PartMut.{mid_of, put_mid}
use Rattle.numbers.specs.Lent.{lent_from, back_from}
use Rattle.numbers.specs.Choice.{lt_or_le, cond_by}
use Rattle.record.specs.Reader.{code_of, length_by}
use Rattle.record.specs.HeaderLaws.{record_small}
use Rattle.rounds.specs.declared.Situation.{Situation}
use Rattle.rounds.specs.declared.Next.{Next}
use Rattle.rounds.specs.declared.Next.TheVariants.{Write, Take, Total, Read}
use Rattle.program.specs.declared.Became.TheVariants as became
use Rattle.program.specs.declared.Step.{Step}
use Rattle.lines.specs.declared.Text.{Text}
use Rattle.program.specs.Program.{Result, answered, refused, result_of, stops}
use Rattle.program.specs.Step.{became_of, Stepped}
use Rattle.rounds.specs.Situation.{room, unread, is_there, next_of, after, counted, counted_as, counted_by, Took}

-- what the tests on the way to a kind of round have shown
abbrev Shown : Bool → Bool → Bool → Bool → Bool → Next → Type 0
Shown closed full there ended some Write = (closed ≡ true) ⊎ (full ≡ true) ⊎ (some ≡ true)
Shown closed full there ended some Take = (closed ≡ false) × (full ≡ false) × (there ≡ true)
Shown closed full there ended some Total = (closed ≡ false) × (full ≡ false) × (there ≡ false) × (ended ≡ true)
Shown closed full there ended some Read = (closed ≡ false) × (full ≡ false) × (there ≡ false) × (ended ≡ false)

shown : (closed full there ended some : Bool)
    → Shown closed full there ended some (cond closed Write (cond full Write (cond there Take (cond ended Total (cond some Write Read)))))
shown true full there ended some = inl refl
shown false true there ended some = inr (inl refl)
shown false false true ended some = (refl, refl, refl)
shown false false false true some = (refl, refl, refl, refl)
shown false false false false true = inr (inr refl)
shown false false false false false = (refl, refl, refl, refl)

pub next-shown : (s : Situation) (input : List ℕ) (n : ℕ) (x : Next) → next_of s input n ≡ x
    → Shown s.closed (ltb (n - s.text) room) (is_there s input) s.ended (ltb 0 s.text) x
next-shown s input n x e =
    subst (Shown s.closed (ltb (n - s.text) room) (is_there s input) s.ended (ltb 0 s.text)) e
    (shown s.closed (ltb (n - s.text) room) (is_there s input) s.ended (ltb 0 s.text))

-- what the work on a record reports counts as its result does
counted-after : (s : Situation) (result : Result) (text at : ℕ) → counted_as (record s { text = text }) at (became_of result) ≡ after s result text at
counted-after s (answered bits penalty gap visits) text at = refl
counted-after s (refused why) text at = by_last (stops (refused why))
  where
    by_last : (last : Bool)
        → counted_as (record s { text = text }) at (cond last became.Last became.Refused)
        ≡ cond last (counted s s.«end» true text s.read (s.refused + 1)) (counted s at s.ended text s.read (s.refused + 1))
    by_last true = refl
    by_last false = refl

-- the line of a record that is taken ends where the waiting text then ends
after_text : (s : Situation) (result : Result) (text at : ℕ) → (after s result text at).text ≡ text
after_text s (answered bits penalty gap visits) text at = refl
after_text s (refused why) text at = cond_by (λ (t : Situation). t.text ≡ text) (stops (refused why)) _ _ (λ z. refl) (λ z. refl)

pub took : (s : Situation) (input : List ℕ) (old new : Text) (step : Step) (t : Situation) → old.at ≡ s.text
    → Stepped (s.read + s.refused) (unread s input) (result_of (unread s input)) old step new
    → t ≡ counted_by (record s { text = new.at }) step → Took s input old.out.now t new.out.now
took s input old new step t z o e =
    let result = result_of (unread s input) in
    let at = s.at + step.taken in
    let is : t ≡ after s result new.at at =
    e ∙ ap (counted_as (record s { text = new.at }) at) o.became_is ∙ counted-after s result new.at at in
    let text : t.text ≡ new.at = ap (λ (t : Situation). t.text) is ∙ after_text s result new.at at in
    record {
      line = rw (text, ← z) o.line.put;
      counts = is ∙ rw (text, o.next);
    }

-- what was in front of the bytes of a read is still there
pub kept_front : (d m q : List ℕ) (at «end» : ℕ) → at ≤ «end» → «end» ≤ length d → m ≡ take («end» - at) (drop at d) ++ drop («end» - at) d
    → take («end» - at) (put_mid («end» - at) (length m - («end» - at)) m q) ≡ take («end» - at) (drop at d)
kept_front d m q at «end» h l e =
    let k = «end» - at in
    let long : length (take k (drop at d)) ≡ k = length-take-le k (drop at d) (simp length-drop (omega arith)) in
    let front : take k m ≡ take k (drop at d) = ap (take k) e ∙ take_at (take k (drop at d)) (drop k d) k long in
    rw (back_from k m q, front) (take_at (take k (drop at d)) q k long)

-- how many bytes there are after them
pub length_behind : (k n : ℕ) (m q : List ℕ) → length m ≡ n → k ≤ n → length q ≡ length (mid_of k (length m - k) m)
    → length (mid_of k (length (put_mid k (length m - k) m q) - k) (put_mid k (length m - k) m q)) ≡ n - k
length_behind k n m q e h l =
    let x = take k m ++ q in
    let long : length x ≡ length m = omega (arith, length-append (take k m) q, length-take-le k m (omega arith), ap length (lent_from k m), length-drop k m) in
    rw (back_from k m q) (length-take-le (length x - k) (drop k x) (omega (arith, length-drop k x)) ∙ omega arith)

-- what the test for the next record shows
module _ (s : Situation) (input : List ℕ) where
  pub there_first : is_there s input ≡ true → s.at ≤ s.«end» → s.at < s.«end»
  there_first t h =
      ⊎_elim (λ k. k)
      (λ k.
      let e : s.at ≡ s.«end» = omega arith in
      let f : false ≡ true = rw (eq-eqb s.at s.«end» e) at t in
      cc)
      (lt_or_le s.at s.«end»)

  -- or the input has ended, or all of its bytes are there
  pub there_whole : is_there s input ≡ true → s.ended ≡ false → length_by (code_of (get_or input s.at 0)) ≤ s.«end» - s.at
  there_whole t e =
      let n = length_by (code_of (get_or input s.at 0)) in
      cond_by (λ (b : Bool). b ≡ true → n ≤ s.«end» - s.at) (eqb s.at s.«end») _ _
      (λ q f. cc)
      (λ q f. leb-true n (s.«end» - s.at) (rw e at f)) t

  pub absent_none : is_there s input ≡ false → s.ended ≡ true → s.at ≡ s.«end»
  absent_none t e =
      cond_by (λ (b : Bool). b ≡ false → s.at ≡ s.«end») (eqb s.at s.«end») _ _
      (λ q f. eqb-true s.at s.«end» q)
      (λ q f. let g : true ≡ false = rw e at f in cc) t

  pub absent_short : is_there s input ≡ false → s.ended ≡ false → s.«end» - s.at < 385
  absent_short t e =
      ⊎_elim
      (λ k.
      ⊎_elim
      (λ l. omega (arith, l))
      (λ l.
      let ne : s.at ≡ s.«end» → ⊥ = λ q. omega (arith, q) in
      let n = length_by (code_of (get_or input s.at 0)) in
      let f : leb n (s.«end» - s.at) ≡ false = rw (ne_eqb s.at s.«end» ne, e) at t in
      omega (arith, leb-false n (s.«end» - s.at) f, record_small (get_or input s.at 0)))
      (lt_or_le s.«end» s.at))
      (λ k. omega arith)
      (lt_or_le s.at s.«end»)
