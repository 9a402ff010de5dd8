-- What holds if `reorder` or `reorder_word` is done; and two searches, of readings and of what `reorder` made of them, agree.
use Rattle.std.specs.Prelude.{◌≡◌, refl, ◌&&◌, List, ℕ, ◌^◌, ◌≤◌, ℤ, pos, nat_abs, length, eqb}
use Rattle.std.proofs.Common.{ap, sym, ◌∙◌, arith, eqb-true}
use Rattle.words.specs.Bits.{Bits}
use Rattle.decoding.specs.Readings.{Within}
use Rattle.decoding.specs.Answer.{Answer}
use Rattle.code.specs.Sound.{Sound, largest_reading, rm}
use Rattle.code.specs.Entries.{first_above}
use Rattle.code.specs.EntriesLaws.{good_bits, good_readings}
use Rattle.maps.specs.Maps.{reordered, Alongside, both_tied, both_found}
use Rattle.maps.specs.ImageLaws.{length-reordered}
use Rattle.maps.proofs.ReorderedBest.{within_reordered, answers_alongside}
use Rattle.images.specs.Images.{is_map, Mapped}
use Rattle.search.specs.Outcome as Search
use Rattle.search.specs.Demands.{SoundSearch}
use Rattle.search.specs.DemandsMet.{sound_answered}
use Rattle.reorder.specs.Outcome.{Outcome, done, is_long, entry_checked, reordering_entries_long, reordering_entries, reordering, reordering_word}
use Rattle.reorder.specs.OutcomeLaws.{both_true, sized_right, map_allowed, entry_allowed, mapped}
use Rattle.reorder.specs.Demands.{Good, WordReordered, SearchReordered, Buffers}
use Rattle.reorder.specs.Demand1Met.{map_exactly, sized-zero, map-zero, entry_zero}

-- ---- if `reorder` or `reorder_word` is done
-- what holds for its arguments, and what it leaves; `Fine` is what test 4 asks of the entries
pub record CallDone {T : Type 0} (d : T) (Fine : List T → Type 0) (m : ℕ) (A b : List ℕ) (l out lent : List T) : Type 0 where
  pub map_long : Mapped m A b
  pub good : Good m A b
  pub long : length l ≡ 2 ^ m
  pub room : length out ≡ 2 ^ m
  pub fine : Fine l
  pub leaves : lent ≡ reordered d m A b l

module _ {T : Type 0} (d : T) (size : T → ℕ) (limit : ℕ) (Fine : List T → Type 0)
    (none-bad : (l : List T) → length l ≤ first_above size limit l → Fine l) (m : ℕ) (A b : List ℕ) (l out : List T) where
  call_done : (reordering_entries d size limit m A b l out).carry.number ≡ 0
      → CallDone d Fine m A b l out (reordering_entries d size limit m A b l out).lent
  call_done e =
      let moved = done (reordered d m A b l) in
      let bad = first_above size limit l in
      let entries = entry_checked out bad (length l) moved in
      let long_call = reordering_entries_long d size limit m A b l out in
      let sizes = sized-zero out long_call m (is_long m (length A) (length b) && eqb (length l) (2 ^ m)) (eqb (length out) (2 ^ m)) e in
      let tested = map-zero out entries (is_map m A b) sizes.1 in
      let fine = entry_zero out moved bad (length l) tested.1 in
      let inputs = both_true (is_long m (length A) (length b)) (eqb (length l) (2 ^ m)) sizes.0.inputs_right in
      let map_long = mapped m A b sizes.0.small inputs.0 in
      record {
        map_long = map_long;
        good = (map_exactly m A b map_long).0 tested.0;
        long = eqb-true (length l) (2 ^ m) inputs.1;
        room = eqb-true (length out) (2 ^ m) sizes.0.outputs_right;
        fine = none-bad l fine;
        leaves =
            ap (λ (o : Outcome (List T)). o.lent)
            (sym
            (entry_allowed out moved bad (length l) fine ∙ map_allowed out entries (is_map m A b) tested.0
            ∙ sized_right out long_call m _ _ sizes.0));
      }

-- of `reorder`
abbrev pub ReorderDone : ℕ → List ℕ → List ℕ → List ℤ → List ℤ → Type 0
ReorderDone m A b l out = CallDone (pos 0) (Within largest_reading) m A b l out (reordering m A b l out).lent

pub reorder_done : (m : ℕ) (A b : List ℕ) (l out : List ℤ) → (reordering m A b l out).carry.number ≡ 0 → ReorderDone m A b l out
unfolding reordering
reorder_done m A b l out e =
    call_done (pos 0) nat_abs largest_reading (Within largest_reading) (good_readings largest_reading) m A b l out e

pub reorder_word_done : (m : ℕ) (A b x out : List ℕ) → (reordering_word m A b x out).carry.number ≡ 0
    → CallDone 0 Bits m A b x out (reordering_word m A b x out).lent
unfolding reordering_word
reorder_word_done m A b x out e = call_done 0 (λ b. b) 1 Bits good_bits m A b x out e

-- ---- two searches
reordered_outcomes : {m : ℕ} {A b : List ℕ} {a a' : Answer} (allowed allowed' : ℕ) (bits word bits' word' : List ℕ) → Alongside m A b a a'
    → WordReordered m A b (Search.by_answer allowed bits word a) (Search.by_answer allowed' bits' word' a')
reordered_outcomes allowed allowed' bits word bits' word' (both_tied p v v') =
    record { same_number = refl; same_penalty = refl; same_gap = refl; word-reordered = λ z. absurd (omega arith) }
reordered_outcomes allowed allowed' bits word bits' word' (both_found b b' x p g v v') =
    record { same_number = refl; same_penalty = refl; same_gap = refl; word-reordered = λ z. refl }

module _ (r m : ℕ) (r_small : r ≤ m) (A b : List ℕ) (l out : List ℤ) (is-done : (reordering m A b l out).carry.number ≡ 0) (bits word bits' word' : List ℕ)
    (buffers : Buffers r m bits word) (buffers' : Buffers r m bits' word') where
  by_done : ReorderDone m A b l out → SearchReordered r m A b l (reordered (pos 0) m A b l) bits word bits' word'
  by_done d =
      let l' = reordered (pos 0) m A b l in
      let undoable = d.good.1 in
      let sound : Sound (rm r m) = record { r_small = r_small; m_small = d.map_long.small } in
      let x : SoundSearch r m l bits word = record {
        sound = sound;
        long_bits = buffers.long_bits;
        long_word = buffers.long_word;
        entries = record { long = d.long; within = d.fine };
      } in
      let x' : SoundSearch r m l' bits' word' = record {
        sound = sound;
        long_bits = buffers'.long_bits;
        long_word = buffers'.long_word;
        entries = record { long = length-reordered (pos 0) m A b l; within = within_reordered largest_reading m A b l d.fine };
      } in
      record {
        sound = x;
        sound' = x';
        together = λ allowed allowed' n n'.
            rw (sound_answered bits word x allowed, sound_answered bits' word' x' allowed')
            (reordered_outcomes allowed allowed' bits word bits' word'
            (answers_alongside r m l d.long A b undoable.table undoable.row undoable.undoes allowed allowed'
            (λ e. n (ap (λ (o : Search.Outcome). o.number) (sound_answered bits word x allowed ∙ ap (Search.by_answer allowed bits word) e)))
            (λ e. n' (ap (λ (o : Search.Outcome). o.number) (sound_answered bits' word' x' allowed' ∙ ap (Search.by_answer allowed' bits' word') e)))));
      }

  pub search_reordered : SearchReordered r m A b l (reordering m A b l out).lent bits word bits' word'
  search_reordered = let d = reorder_done m A b l out is-done in rw d.leaves (by_done d)
