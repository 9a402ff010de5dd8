-- The theorem of the program: whatever pieces the bytes arrive in, what it hands over is the output of all of them.
use Rattle.std.specs.Prelude.{◌≡◌, refl, List, [], ◌++◌, Bool, true, false, cond, ℕ, zero, suc}
use Rattle.std.specs.Prelude.{◌+◌, ◌-◌, ◌≤◌, ◌<◌, min, Option, None, Some, length, get_or, take}
use Rattle.std.specs.Prelude.{drop}
use Rattle.std.proofs.Common.{ap, sym, ◌∙◌, subst, append_assoc, append-nil, ⊎_elim, arith, add-one, length-append, length-drop, length-take-le, take_at}
use Rattle.std.proofs.Common.{take-add, take_all, drop-drop, get_or-take, get_or-drop}
use Rattle.std.proofs.Math.Nat.{sub-zero}
use Rattle.std.proofs.Math.Seq.{take-length}
use Rattle.std.proofs.lemmas.Bool.{not-false}
use Rattle.numbers.specs.Choice.{lt_or_le, cond_by, cond_two}
use Rattle.numbers.specs.Halves.{drop-take}
use Rattle.rounds.specs.declared.Situation.{Situation}
use Rattle.rounds.specs.declared.Next.TheVariants.{Take, Total, Read}
use Rattle.lines.specs.Line.{total_line, Put}
use Rattle.program.specs.Program.{Result, answered, refused, result_of, line_of, stops, next_start, output}
use Rattle.program.specs.OutputLaws.{lines_of, lines_after, lines_end, lines_first, result_before, goes_on_there}
use Rattle.rounds.specs.Situation.{starting, Ready, unread, is_there, after, after_read, after_write, Took, Finished}
use Rattle.rounds.specs.SituationLaws.{next-shown, there_first, there_whole, absent_none}
use Rattle.cinorbis.specs.Runs.{RoundTaken, writes, takes, totals, reads, Passed, nothing, with_text, with_read, passing}
use Rattle.cinorbis.specs.Runs.{Chain, start, round, Ran, HandsOver, Beginning}

-- what is still to be handed over, if these bytes are still to come
abbrev pub to_hand_over : Situation → List ℕ → List ℕ → List ℕ
to_hand_over s input rest = cond s.closed [] (lines_of s.read s.refused (unread s input ++ cond s.ended [] rest))

-- what holds after n rounds: bounds, counts and ends
pub record Bounded (n : ℕ) (s : Situation) (input output₁ : List ℕ) (p : Passed) : Type 0 where
  pub ready : Ready s input output₁
  pub counts : s.read + s.refused ≤ n
  pub over : p.over ≡ true → s.ended ≡ true
  pub done : s.going ≡ false → s.failed ≡ false → (s.closed ≡ true) × (s.text ≡ 0)

-- and that what was handed over, what waits and what is still to be handed over are the output
pub record Holds (n : ℕ) (s : Situation) (input output₁ : List ℕ) (p : Passed) : Type 0 where
  pub bounded : Bounded n s input output₁ p
  pub output-is : (rest : List ℕ) → (p.over ≡ true → rest ≡ []) → p.handed ++ take s.text output₁ ++ to_hand_over s input rest ≡ output (p.came ++ rest)

length-unread : (s : Situation) (input output₁ : List ℕ) → Ready s input output₁ → length (unread s input) ≡ s.«end» - s.at
length-unread s input output₁ r = length-take-le (s.«end» - s.at) (drop s.at input) (simp length-drop (omega (arith, r.within)))

-- as many as there are
pub take_min : (j : ℕ) (l : List ℕ) → take (min j (length l)) l ≡ take j l
take_min j l =
    ⊎_elim (λ k. let e : min j (length l) ≡ j = omega arith in rw e)
    (λ k. let e : min j (length l) ≡ length l = omega arith in rw (e, take-length l, take_all j l k))
    (lt_or_le j (length l))

-- ---- texts: a line that was put comes after the text that waited
put-text : (d : List ℕ) (at : ℕ) (t : List ℕ) («end» : ℕ) (d' : List ℕ) → Put d at t «end» d' → at ≤ length d → take «end» d' ≡ take at d ++ t
put-text d at t «end» d' p h =
    let long : length (take at d ++ t) ≡ «end» = omega (arith, length-append (take at d) t, length-take-le at d h, p.end_is) in
    let same : d' ≡ take at d ++ t ++ drop (at + length t) d = p.text_is ∙ sym (append_assoc (take at d) t (drop (at + length t) d)) in
    rw same (take_at (take at d ++ t) (drop (at + length t) d) «end» long)

put_within : (d : List ℕ) (at : ℕ) (t : List ℕ) («end» : ℕ) (d' : List ℕ) → Put d at t «end» d' → at ≤ length d → length d' ≡ length d → «end» ≤ length d
put_within d at t «end» d' p h e =
    let n = at + length t in
    omega (
      arith,
      p.end_is,
      ap length p.text_is,
      length-append (take at d) (t ++ drop n d),
      length-append t (drop n d),
      length-take-le at d h,
      length-drop n d,
    )

holds_start : (input output₁ : List ℕ) → Holds 0 starting input output₁ nothing
unfolding output
holds_start input output₁ =
    record {
      bounded =
          record {
            ready = record { order = omega arith; within = omega arith; waiting = omega arith };
            counts = omega arith;
            over = λ e. cc;
            done = λ e f. cc;
          };
      output-is = λ rest h. refl;
    }

module _ (n : ℕ) (s : Situation) (input output₁ : List ℕ) (p : Passed) (h : Holds n s input output₁ p) (g : s.going ≡ true) where
  abbrev r : Ready s input output₁
  r = h.bounded.ready

  -- ---- the text that waits is handed to the writer
  holds_written : (done : Bool) → Holds (suc n) (after_write done s) input output₁ (with_text p (take s.text output₁))
  holds_written true =
      record {
        bounded =
            record {
              ready = record { order = r.order; within = r.within; waiting = omega arith };
              counts = omega (arith, h.bounded.counts);
              over = h.bounded.over;
              done = λ e f. (not-false s.closed e, refl);
            };
        output-is = λ rest z. rw (append-nil (p.handed ++ take s.text output₁)) (h.output-is rest z);
      }
  holds_written false =
      record {
        bounded =
            record {
              ready = record { order = r.order; within = r.within; waiting = omega arith };
              counts = omega (arith, h.bounded.counts);
              over = h.bounded.over;
              done = λ e f. cc;
            };
        output-is = λ rest z. rw (append-nil (p.handed ++ take s.text output₁)) (h.output-is rest z);
      }

  -- ---- a line is put after it
  -- if what is still to be handed over begins with the line
  output-more : (t : Situation) (line output' rest : List ℕ) → Put output₁ s.text line t.text output'
      → to_hand_over s input rest ≡ line ++ to_hand_over t input rest → (p.over ≡ true → rest ≡ [])
      → p.handed ++ take t.text output' ++ to_hand_over t input rest ≡ output (p.came ++ rest)
  output-more t line output' rest k e z =
      let old = rw e at (h.output-is rest z) in
      rw (put-text output₁ s.text line t.text output' k r.waiting) (simp append_assoc (simp append_assoc at old))

  -- ---- the next record is taken
  module _ (closed : s.closed ≡ false) (there : is_there s input ≡ true) where
    abbrev u : List ℕ
    u = unread s input

    some : 0 < length u
    some = omega (arith, length-unread s input output₁ r, there_first s input there r.order)

    first_byte : get_or u 0 0 ≡ get_or input s.at 0
    first_byte =
        let z : s.at + 0 ≡ s.at = omega arith in
        get_or-take (s.«end» - s.at) (drop s.at input) 0 0 (omega (arith, there_first s input there r.order))
        ∙ get_or-drop s.at input 0 0
        ∙ ap (λ (k : ℕ). get_or input k 0) z

    -- what follows does not change the record: nothing follows, or the record is there completely
    same : (ended : Bool) → s.ended ≡ ended → (rest : List ℕ) → result_of (u ++ cond ended [] rest) ≡ result_of u
    same true e rest = ap result_of (append-nil u)
    same false e rest =
        result_before u rest some (rw first_byte (omega (arith, there_whole s input there e, length-unread s input output₁ r)))

    unread-after : take (s.«end» - (s.at + next_start u)) (drop (s.at + next_start u) input) ≡ drop (next_start u) u
    unread-after =
        let k = next_start u in
        let e : s.«end» - (s.at + k) ≡ s.«end» - s.at - k = omega arith in
        rw e (sym (drop-take k (s.«end» - s.at) (drop s.at input) ∙ ap (take (s.«end» - s.at - k)) (drop-drop k s.at input)))

    left_after : (result : Result) (text : ℕ) (rest : List ℕ)
        → to_hand_over (after s result text (s.at + next_start u)) input rest
        ≡ lines_after s.read s.refused result (drop (next_start u) u ++ cond s.ended [] rest)
    left_after (answered bits penalty gap visits) text rest = rw (closed, unread-after, add-one)
    left_after (refused why) text rest =
        let none : s.«end» - s.«end» ≡ 0 = omega arith in
        cond_two (λ (t : Situation) (l : List ℕ). to_hand_over t input rest ≡ l) (stops (refused why)) _ _ _ _
        (λ e. rw (closed, none, add-one) (lines_end s.read (suc s.refused)))
        (λ e. rw (closed, unread-after, add-one))

    bounded_after : (result : Result) (text : ℕ) (output' : List ℕ) → result_of u ≡ result → text ≤ length output'
        → Bounded (suc n) (after s result text (s.at + next_start u)) input output' p
    bounded_after (answered bits penalty gap visits) text output' e w =
        let there = goes_on_there u (rw e) in
        record {
          ready = record { order = omega (arith, there.whole, length-unread s input output₁ r, r.order); within = r.within; waiting = w };
          counts = omega (arith, h.bounded.counts);
          over = h.bounded.over;
          done = λ a b. cc;
        }
    bounded_after (refused why) text output' e w =
        cond_by (λ (t : Situation). Bounded (suc n) t input output' p) (stops (refused why)) _ _
        (λ z.
        record {
          ready = record { order = omega arith; within = r.within; waiting = w };
          counts = omega (arith, h.bounded.counts);
          over = λ a. refl;
          done = λ a b. cc;
        })
        (λ z.
        let there = goes_on_there u (rw e z) in
        record {
          ready = record { order = omega (arith, there.whole, length-unread s input output₁ r, r.order); within = r.within; waiting = w };
          counts = omega (arith, h.bounded.counts);
          over = h.bounded.over;
          done = λ a b. cc;
        })

    holds_taken : (t : Situation) (output' : List ℕ) → Took s input output₁ t output' → length output' ≡ length output₁ → Holds (suc n) t input output' p
    holds_taken t output' k e =
        let result = result_of u in
        let is = k.counts in
        let within : t.text ≤ length output' = omega (arith, put_within output₁ s.text _ t.text output' k.line r.waiting e) in
        record {
          bounded = subst (λ (t : Situation). Bounded (suc n) t input output' p) (sym is) (bounded_after result t.text output' refl within);
          output-is = λ rest z.
              output-more t (line_of (s.read + s.refused) result) output' rest k.line
              (rw closed (lines_first s.read s.refused u (cond s.ended [] rest) some (same s.ended refl rest))
              ∙ ap (λ (l : List ℕ). line_of (s.read + s.refused) result ++ l)
              (sym (ap (λ (t : Situation). to_hand_over t input rest) is ∙ left_after result t.text rest))) z;
        }

  -- ---- the total
  holds_finished : (t : Situation) (output' : List ℕ) → s.closed ≡ false → is_there s input ≡ false → s.ended ≡ true
      → Finished s output₁ t output' → length output' ≡ length output₁ → Holds (suc n) t input output' p
  holds_finished t output' closed absent ended k e =
      let total = total_line s.read s.refused in
      let within : t.text ≤ length output' = omega (arith, put_within output₁ s.text total t.text output' k.line r.waiting e) in
      let none : s.«end» - s.at ≡ 0 = omega (arith, absent_none s input absent ended) in
      record {
        bounded =
            subst (λ (t : Situation). Bounded (suc n) t input output' p) (sym k.closes)
            (record {
              ready = record { order = r.order; within = r.within; waiting = within };
              counts = omega (arith, h.bounded.counts);
              over = h.bounded.over;
              done = λ a b. cc;
            });
        output-is = λ rest z.
            output-more t total output' rest k.line
            (rw (closed, none, ended) (lines_end s.read s.refused)
            ∙ sym (ap (λ (l : List ℕ). total ++ l) (ap (λ (t : Situation). to_hand_over t input rest) k.closes) ∙ append-nil total)) z;
      }

  -- ---- a read, when the unread bytes are in front
  module _ (closed : s.closed ≡ false) (ended : s.ended ≡ false) (input' : List ℕ) (same : length input' ≡ length input)
      (kept : take (s.«end» - s.at) input' ≡ unread s input) where
    abbrev k : ℕ
    k = s.«end» - s.at

    abbrev fresh : List ℕ
    fresh = drop k input'

    front : take (k - 0) input' ≡ unread s input
    front = rw sub-zero kept

    -- as many of the fresh bytes as came
    behind : (j : ℕ) → take (k + min j (length input - k) - 0) input' ≡ unread s input ++ take j fresh
    behind j =
        let long : length fresh ≡ length input - k = length-drop k input' ∙ ap (λ (n : ℕ). n - k) same in
        rw (sub-zero, take-add k (min j (length input - k)) input', kept, ← long) (ap (λ (l : List ℕ). unread s input ++ l) (take_min j fresh))

    holds_read : (got : Option ℕ) → Holds (suc n) (after_read got (length input - k) s) input' output₁ (with_read p got fresh)
    holds_read None =
        record {
          bounded =
              record {
                ready = record { order = omega arith; within = omega (arith, r.within); waiting = r.waiting };
                counts = omega (arith, h.bounded.counts);
                over = h.bounded.over;
                done = λ a b. cc;
              };
          output-is = λ rest z. rw front (h.output-is rest z);
        }
    holds_read (Some zero) =
        record {
          bounded =
              record {
                ready = record { order = omega arith; within = omega (arith, r.within); waiting = r.waiting };
                counts = omega (arith, h.bounded.counts);
                over = λ a. refl;
                done = λ a b. cc;
              };
          output-is = λ rest z. rw (front, z refl) (rw (ended, z refl) at (h.output-is rest (λ a. z refl)));
        }
    holds_read (Some (suc j)) =
        record {
          bounded =
              record {
                ready = record { order = omega arith; within = omega (arith, r.within); waiting = r.waiting };
                counts = omega (arith, h.bounded.counts);
                over = h.bounded.over;
                done = λ a b. cc;
              };
          output-is = λ rest z.
              let old = rw ended at (h.output-is (take (suc j) fresh ++ rest) (λ a. cc (h.bounded.over a))) in
              rw (behind (suc j), ended, append_assoc p.came (take (suc j) fresh) rest, append_assoc (unread s input) (take (suc j) fresh) rest) old;
        }

  -- ---- any round
  holds_round : (t : Situation) (input' output' : List ℕ) → length input' ≡ length input → length output' ≡ length output₁
      → (w : RoundTaken s input output₁ t input' output') → Holds (suc n) t input' output' (passing s input output₁ t input' output' w p)
  holds_round t input' output' e f (writes next k i o) =
      rw (i, o, k.is) (holds_written k.done)
  holds_round t input' output' e f (takes next k i) =
      let w = next-shown s input (length output₁) Take next in
      rw i (holds_taken w.0 w.2 t output' k f)
  holds_round t input' output' e f (totals next k i) =
      let w = next-shown s input (length output₁) Total next in
      rw i (holds_finished t output' w.0 w.2 w.3 k f)
  holds_round t input' output' e f (reads next k o) =
      let w = next-shown s input (length output₁) Read next in
      rw (o, k.is) (holds_read w.0 w.3 input' e k.kept k.got)

pub chain_holds : (n : ℕ) (s : Situation) (input output₁ : List ℕ) (p : Passed) → Chain n s input output₁ p → Holds n s input output₁ p
chain_holds n s input output₁ p (start i o) = holds_start i o
chain_holds n s input output₁ p (round m s₀ input₀ output₀ p₀ t input' output' c g e f w) =
    holds_round m s₀ input₀ output₀ p₀ (chain_holds m s₀ input₀ output₀ p₀ c) g t input' output' e f w

-- At any time, and so after an error too, what was handed over is a beginning of the output of all bytes.
pub chain_begins : (n : ℕ) (s : Situation) (input output₁ : List ℕ) (p : Passed) → Chain n s input output₁ p → (rest : List ℕ) → (p.over ≡ true → rest ≡ [])
    → Beginning p.handed (output (p.came ++ rest))
chain_begins n s input output₁ p c rest z =
    record {
      more = take s.text output₁ ++ to_hand_over s input rest;
      is = sym (append_assoc p.handed (take s.text output₁) (to_hand_over s input rest)) ∙ (chain_holds n s input output₁ p c).output-is rest z;
    }

-- The theorem. A program that has ended without an error has handed over the output of all bytes.
pub chain_hands_over : (n : ℕ) (s : Situation) (input output₁ : List ℕ) (p : Passed) → Chain n s input output₁ p → s.going ≡ false
    → s.failed ≡ false → HandsOver p
chain_hands_over n s input output₁ p c g f =
    let h = chain_holds n s input output₁ p c in
    let d = h.bounded.done g f in
    record { output-is = λ rest z. sym (append-nil p.handed) ∙ (rw (d.0, d.1, append-nil) at (h.output-is rest z)) }

-- and so has a run of the program
pub ran_hands_over : (s : Situation) (input output₁ : List ℕ) (x : Ran s input output₁) → s.going ≡ false → s.failed ≡ false → HandsOver x.passed
ran_hands_over s input output₁ x = chain_hands_over x.rounds s input output₁ x.passed x.chain
