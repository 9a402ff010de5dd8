-- Laws of a run's streams: what one read and one write do to them, and that a chain of rounds keeps count.
use Rattle.std.specs.Prelude.{◌≡◌, refl, ⊤, List, [], ◌++◌, Bool, true, false, ℕ, zero, suc, ◌+◌, ◌-◌, ◌^◌, ◌⊎◌, ◌≤◌, ◌<◌, min, length, take}
use Rattle.std.specs.Prelude.{drop, Option, None, Some, Result, Ok, Err, IfSome, OnOk, is_ok}
use Rattle.std.specs.Result.{result_ok}
use Rattle.std.proofs.Common.{ap, sym, ◌∙◌, subst, arith, add-one, length-drop, length-take-le, append-nil}
use Rattle.std.proofs.Math.Seq.{drop-append_seam}
use Rattle.std.specs.Io.{ReadsAtMost}
use Rattle.std.specs.Io.KnownBytes.{Appends, Consumes, IsAtEnd, ReadConsumes}
use Rattle.std.proofs.KnownBytes.{Consumes-nil, Appends-nil, Consumes-trans, Appends-trans}
use borrow.Rule.Slice.PartMut.{put_mid}
use Rattle.numbers.specs.Lent.{back_from}
use Rattle.rounds.specs.declared.Situation.{Situation}
use Rattle.rounds.specs.declared.Next.{Next}
use Rattle.rounds.specs.declared.Next.TheVariants.{Read}
use Rattle.program.specs.Program.{output, result_of}
use Rattle.rounds.specs.Situation.{starting, longest, room, next_of, text_of, unread, after_read, after_write}
use Rattle.rounds.specs.SituationLaws.{next-shown}
use Rattle.cinorbis.specs.Runs.{RoundTaken, writes, takes, totals, reads, Passed, nothing, with_read, passing, start, Ran, HandsOver}
use Rattle.cinorbis.specs.RunsLaws.{ran_hands_over, take_min}
use Rattle.cinorbis.specs.EndLaws.{Along, along_bounded, along_round, along_ran}
use Rattle.cinorbis.specs.UnfailedLaws.{failed_after}
use Rattle.cinorbis.specs.Streams.{WrittenOn, ReadOn, Streamed, Whole}

-- ---- one write
pub written_on : {E : Type 0} (r : Result ⊤ E) (s : Situation) (text : List ℕ) (held held' : Option (List ℕ)) → OnOk r (Appends held held' text)
    → WrittenOn (after_write (is_ok r) s) text held held'
written_on (Ok x) s text held held' h e = h
written_on (Err x) s text held held' h e = cc

-- ---- one read into the bytes of a buffer after the first k
read_bytes : {E : Type 0} (r : Result ℕ E) (s : Situation) (buf : List ℕ) (left left' : Option (List ℕ)) → ReadConsumes left left' r buf
    → ReadsAtMost r buf → 0 < length buf → let t = after_read (result_ok r) (length buf) s in t.failed ≡ false
    → Consumes left left' (take (t.«end» - (s.«end» - s.at)) buf) × (s.ended ≡ false → t.ended ≡ true → IsAtEnd left')
read_bytes (Ok zero) s buf left left' h m some e =
    let k = s.«end» - s.at in
    let none : k - k ≡ 0 = omega arith in
    (rw none h.0, λ a b. h.1 refl some)
read_bytes (Ok (suc n)) s buf left left' h m some e =
    let k = s.«end» - s.at in
    let all : k + min (suc n) (length buf) - k ≡ suc n = omega (arith, m.0) in
    (rw all h.0, λ a b. cc)
read_bytes (Err x) s buf left left' h m some e = cc

-- the same of the whole buffer, whose bytes after the first k were lent to the reader
pub read_on : {E : Type 0} (r : Result ℕ E) (s : Situation) (t : Situation) (m buf : List ℕ) (n : ℕ) (left left' : Option (List ℕ))
    → ReadConsumes left left' r buf → ReadsAtMost r buf → length buf ≡ n → 0 < n → s.«end» - s.at ≤ length m → t ≡ after_read (result_ok r) n s
    → ReadOn s t (put_mid (s.«end» - s.at) (length m - (s.«end» - s.at)) m buf) left left'
read_on r s t m buf n left left' h most long some k is e =
    let fresh : drop (s.«end» - s.at) (put_mid (s.«end» - s.at) (length m - (s.«end» - s.at)) m buf) ≡ buf =
    ap (drop (s.«end» - s.at)) (back_from (s.«end» - s.at) m buf)
    ∙ drop_front (take (s.«end» - s.at) m) buf (s.«end» - s.at) (length-take-le (s.«end» - s.at) m k) in
    rw (fresh, is, ← long) (read_bytes r s buf left left' h most (omega (arith, some, long)) (rw (is, ← long) at e))
  where
    drop_front : (x y : List ℕ) (k : ℕ) → length x ≡ k → drop k (x ++ y) ≡ y
    drop_front x y k e = rw (← e) (drop-append_seam x y)

-- ---- what has passed by now, of both streams: all bytes that came were the reader's, and the writer holds all that was handed over
pub record Known (s : Situation) (p : Passed) (left left' held held' : Option (List ℕ)) : Type 0 where
  pub came : Consumes left left' p.came
  pub over : p.over ≡ true → IsAtEnd left'
  pub handed : Appends held held' p.handed

-- a round of the chain
module _ (s : Situation) (input output₁ : List ℕ) (p : Passed) (left₀ left held₀ held : Option (List ℕ))
    (k : s.failed ≡ false → Known s p left₀ left held₀ held) (over : p.over ≡ true → s.ended ≡ true) where
  known_written : (t : Situation) (done : Bool) (left' held' : Option (List ℕ)) → left' ≡ left → t ≡ after_write done s
      → WrittenOn t (text_of s output₁) held held' → t.failed ≡ false
      → Known t (record { came = p.came; over = p.over; handed = p.handed ++ text_of s output₁ }) left₀ left' held₀ held'
  known_written t true left' held' e is w f =
      let o = k (ap (λ (x : Situation). x.failed) (sym is) ∙ f) in
      rw e (record { came = o.came; over = o.over; handed = Appends-trans held₀ held held' p.handed (text_of s output₁) o.handed (w f) })
  known_written t false left' held' e is w f = cc

  known_read : (t : Situation) (got : Option ℕ) (n : ℕ) (input' : List ℕ) (left' held' : Option (List ℕ)) → s.ended ≡ false → held' ≡ held
      → t ≡ after_read got n s → length (drop (s.«end» - s.at) input') ≡ n → ReadOn s t input' left left' → t.failed ≡ false
      → Known t (with_read p got (drop (s.«end» - s.at) input')) left₀ left' held₀ held'
  known_read t None n input' left' held' more e is long w f = cc
  known_read t (Some zero) n input' left' held' more e is long w f =
      let q = s.«end» - s.at in
      let unfailed : s.failed ≡ false = ap (λ (x : Situation). x.failed) (sym is) ∙ f in
      let o = k unfailed in
      let r = w f in
      let none : t.«end» - q ≡ 0 = ap (λ (x : Situation). x.«end» - q) is ∙ omega arith in
      let c : Consumes left left' [] = rw none at r.0 in
      rw e (record {
        came = subst (Consumes left₀ left') (append-nil p.came) (Consumes-trans left₀ left left' p.came [] o.came c);
        over = λ z. r.1 more (ap (λ (x : Situation). x.ended) is);
        handed = o.handed;
      })
  known_read t (Some (suc j)) n input' left' held' more e is long w f =
      let q = s.«end» - s.at in
      let fresh = drop q input' in
      let unfailed : s.failed ≡ false = ap (λ (x : Situation). x.failed) (sym is) ∙ f in
      let o = k unfailed in
      let r = w f in
      let some : t.«end» - q ≡ min (suc j) (length fresh) = ap (λ (x : Situation). x.«end» - q) is ∙ rw long (omega arith) in
      let c : Consumes left left' (take (suc j) fresh) = subst (Consumes left left') (ap (λ (x : ℕ). take x fresh) some ∙ take_min (suc j) fresh) r.0 in
      rw e (record {
        came = Consumes-trans left₀ left left' p.came (take (suc j) fresh) o.came c;
        over = λ z. cc (over z);
        handed = o.handed;
      })

  known_round : (t : Situation) (input' output' : List ℕ) (left' held' : Option (List ℕ)) → length input' ≡ length input
      → (w : RoundTaken s input output₁ t input' output') → Streamed (next_of s input (length output₁)) s t output₁ input' left left' held held'
      → t.failed ≡ false → Known t (passing s input output₁ t input' output' w p) left₀ left' held₀ held'
  known_round t input' output' left' held' same (writes next f i o) z u =
      let y = subst (λ (n : Next). Streamed n s t output₁ input' left left' held held') next z in
      known_written t f.done left' held' y.0 f.is y.1 u
  known_round t input' output' left' held' same (takes next f i) z u =
      let y = subst (λ (n : Next). Streamed n s t output₁ input' left left' held held') next z in
      let o = k (sym (failed_after s (result_of (unread s input)) t.text _) ∙ ap (λ (x : Situation). x.failed) (sym f.counts) ∙ u) in
      rw (y.0, y.1) (record { came = o.came; over = o.over; handed = o.handed })
  known_round t input' output' left' held' same (totals next f i) z u =
      let y = subst (λ (n : Next). Streamed n s t output₁ input' left left' held held') next z in
      let o = k (ap (λ (x : Situation). x.failed) (sym f.closes) ∙ u) in
      rw (y.0, y.1) (record { came = o.came; over = o.over; handed = o.handed })
  known_round t input' output' left' held' same (reads next f o) z u =
      let y = subst (λ (n : Next). Streamed n s t output₁ input' left left' held held') next z in
      let q = next-shown s input (length output₁) Read next in
      known_read t f.got (length input - (s.«end» - s.at)) input' left' held' q.3 y.0 f.is
      (length-drop (s.«end» - s.at) input' ∙ ap (λ (n : ℕ). n - (s.«end» - s.at)) same) y.1 u

-- ---- for the proof at the code: the chain of rounds, and what it did to the streams
pub record Streaming (n : ℕ) (s : Situation) (input output₁ : List ℕ) (left left' held held' : Option (List ℕ)) : Type 0 where
  pub along : Along n s input output₁
  pub known : s.failed ≡ false → Known s along.passed left left' held held'

pub streaming_start : (input output₁ : List ℕ) (s : Situation) (left held : Option (List ℕ)) → (e : s ≡ starting) → (space : longest ≤ length input)
    → (line : room ≤ length output₁) → Streaming 0 s input output₁ left left held held
streaming_start input output₁ s left held e space line =
    rw e (record {
      along = record { passed = nothing; chain = start input output₁; space = space; line = line };
      known = λ f. record { came = Consumes-nil left; over = λ z. cc; handed = Appends-nil held };
    })

module _ (n : ℕ) (s : Situation) (input output₁ : List ℕ) (left₀ left held₀ held : Option (List ℕ))
    (a : Streaming n s input output₁ left₀ left held₀ held) where
  pub streaming_round : (t : Situation) (input' output' : List ℕ) (left' held' : Option (List ℕ)) → s.going ≡ true
      → length input' ≡ length input → length output' ≡ length output₁ → RoundTaken s input output₁ t input' output'
      → Streamed (next_of s input (length output₁)) s t output₁ input' left left' held held'
      → Streaming (n + 1) t input' output' left₀ left' held₀ held'
  unfolding along_round
  streaming_round t input' output' left' held' g e f w z =
      rw add-one
      (record {
        along = along_round n s input output₁ a.along t input' output' g e f w;
        known = known_round s input output₁ a.along.passed left₀ left held₀ held a.known (along_bounded n s input output₁ a.along).over
            t input' output' left' held' e w z;
      })

  -- the theorem: a run that has ended without an error has written the output of all bytes of its reader
  pub streaming_whole : (s.going ≡ false) ⊎ (2 ^ 64 - 1 ≤ n) → Whole s left₀ held₀ held
  unfolding along_ran
  streaming_whole r g f =
      let x : Ran s input output₁ = along_ran n s input output₁ a.along r in
      whole left₀ left a.along.passed (ran_hands_over s input output₁ x g f) (a.known f)
    where
      whole : (left₀ left : Option (List ℕ)) (p : Passed) → HandsOver p → Known s p left₀ left held₀ held
          → IfSome left₀ (λ bytes. Appends held₀ held (output bytes))
      whole None left p h k = tt
      whole (Some xs) None p h k = absurd k.came
      whole (Some xs) (Some ys) p h k =
          subst (Appends held₀ held) (h.output-is ys k.over ∙ ap output (sym k.came)) k.handed
