-- Laws of the work on one record: what the search's answer says about its result.
use Rattle.std.specs.Prelude as std
use Rattle.std.specs.Prelude.{◌≡◌, refl, List, ℕ, ◌-◌, ◌^◌, ◌≤◌, ℤ, ltb, eqb, length, take, replicate, cond, Ok, Err}
use Rattle.std.proofs.Math.Path.{ap}
use Rattle.std.proofs.Common.{sym, ◌∙◌, subst, arith, length-take-le}
use Rattle.numbers.specs.Choice.{cond_by}
use Rattle.words.specs.Bits.{Bits}
use Rattle.words.specs.Kinds.{kinds, dimension}
use Rattle.decoding.specs.Answer.{Answer, found, tied, out_of_visits, answer}
use Rattle.decoding.specs.Best.{least_penalty, gap, best_bits, best_word}
use Rattle.decoding.specs.Walk.{needed}
use Rattle.decoding.specs.BestLaws.{bits_best}
use Rattle.code.specs.declared.Code.{Code}
use Rattle.code.specs.declared.Refusal.TheVariants.{OutOfVisits, Tied}
use Rattle.search.specs.Outcome as Outcome
use Rattle.search.specs.OnlyOutcome.{search_only}
use Rattle.search.specs.Demands.{SoundSearch}
use Rattle.search.specs.DemandsMet.{sound_answered}
use Rattle.record.specs.Reader.{readings_of, header_of}
use Rattle.record.specs.ReaderLaws.{framed_record, length-readings_of}
use Rattle.record.specs.Accepted.{readings_allowed}
use Rattle.record.specs.Searching.{searching_by}
use Rattle.program.specs.Program as program
use Rattle.program.specs.Program.{Result, answered, refused, allowance, headed, result_of}
use Rattle.code.specs.declared.Refusal.{Refusal}
use Rattle.search.specs.declared.Found.{Found}

-- the result that an answer and the bits beside it say
abbrev pub result_in : std.Result Found Refusal → List ℕ → Result
result_in (Ok f) bits = answered bits f.penalty f.gap f.visits
result_in (Err why) bits = refused why

reported_result : (a : std.Result Found Refusal) (bits word bits₀ word₀ : List ℕ) (x : Answer)
    → Outcome.outcome_of a bits word ≡ Outcome.by_answer allowance bits₀ word₀ x → result_in a bits ≡ program.searched x
reported_result a bits word bits₀ word₀ (found b y p g v) e =
    let best : std.Result Found Refusal = Ok (record { penalty = p; gap = g; visits = v }) in
    let o = search_only (Outcome.outcome_of best b y) a best bits word b y e refl in
    ap (λ (a : std.Result Found Refusal). result_in a bits) o.0 ∙ ap (λ (c : List ℕ). answered c p g v) o.1
reported_result a bits word bits₀ word₀ (tied p v) e =
    let why = Err (Tied p v) in
    let o = search_only (Outcome.outcome_of why bits₀ word₀) a why bits word bits₀ word₀ e refl in
    ap (λ (a : std.Result Found Refusal). result_in a bits) o.0
reported_result a bits word bits₀ word₀ out_of_visits e =
    let why = Err (OutOfVisits allowance) in
    let o = search_only (Outcome.outcome_of why bits₀ word₀) a why bits word bits₀ word₀ e refl in
    ap (λ (a : std.Result Found Refusal). result_in a bits) o.0

module _ (s : List ℕ) (c : Code) (bits word bits₀ word₀ : List ℕ) (h : header_of s ≡ Ok c)
    (long_bits : length bits₀ ≡ dimension c.r c.m) (long_word : length word₀ ≡ 2 ^ c.m) where
  is_sound : SoundSearch c.r c.m (readings_of c s) bits₀ word₀
  is_sound =
      let f = framed_record s c h in
      record {
        sound = f.sound;
        long_bits = long_bits;
        long_word = long_word;
        entries = record { long = length-readings_of c s f.whole; within = readings_allowed c s };
      }

  -- the search of an accepted record says what becomes of it
  pub searched_result : (a : std.Result Found Refusal) → Outcome.outcome_of a bits word ≡ searching_by (Ok c) allowance s bits₀ word₀
      → result_in a bits ≡ result_of s
  unfolding result_of
  searched_result a e =
      reported_result a bits word bits₀ word₀ (answer c.m (kinds c.r c.m) (readings_of c s) allowance)
      (e ∙ sound_answered bits₀ word₀ is_sound allowance)
      ∙ ap (λ (k : std.Result Code Refusal). headed k s) (sym h)

-- the bits of an answer are bits
abbrev BitsIn : Result → Type 0
BitsIn (answered bits penalty gap visits) = Bits bits
BitsIn (refused why) = Unit {0}

answer_bits : (m : ℕ) (ks : List ℕ) (l : List ℤ) (allowed : ℕ) → BitsIn (program.searched (answer m ks l allowed))
unfolding answer
answer_bits m ks l allowed =
    let n = needed m ks l in
    let p = least_penalty m ks l in
    let best = found (best_bits m ks l) (best_word m ks l) p (gap m ks l) n in
    let P : Answer → Type 0 = λ x. BitsIn (program.searched x) in
    cond_by P (ltb allowed n) out_of_visits (cond (eqb (gap m ks l) 0) (tied p n) best) (λ t. tt {0})
    (λ t. cond_by P (eqb (gap m ks l) 0) (tied p n) best (λ u. tt {0}) (λ u. bits_best m ks l))

headed_bits : (h : std.Result Code Refusal) (s : List ℕ) → BitsIn (headed h s)
headed_bits (Err why) s = tt
headed_bits (Ok c) s = answer_bits c.m (kinds c.r c.m) (readings_of c s) allowance

pub found_bits : (s bits : List ℕ) (penalty gap visits : ℕ) → answered bits penalty gap visits ≡ result_of s → Bits bits
unfolding result_of
found_bits s bits penalty gap visits e = subst BitsIn (sym e) (headed_bits (header_of s) s)

-- the first k of 256 zeros
pub zeros-front : (k : ℕ) → k ≤ 256 → length {A = ℕ} (take (k - 0) (replicate 256 0)) ≡ k
zeros-front k h = let e : k - 0 ≡ k = omega arith in rw e (length-take-le {A = ℕ} k (replicate 256 0) h)
