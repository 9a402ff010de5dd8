-- A record's header and the outcomes of its search meet demand 1; a larger allowance changes no answer; and 4 is never given for a record.
use Rattle.std.specs.Prelude.{◌≡◌, refl, ℕ, suc, ◌/◌, ◌%◌, ◌^◌, ◌≤◌, ◌<◌, length, Result, Ok, Err}
use Rattle.std.proofs.Math.Path.{ap}
use Rattle.std.proofs.Common.{◌∙◌}
use Rattle.std.proofs.Math.Logic.{inl, inr, ⊎_elim}
use mathlib.Core.List.{List, [], ◌∷◌}
use native.Mathlib.Omega.{arith}
use Rattle.std.proofs.Math.Decide.{ℕ_discrete}
use Rattle.numbers.specs.Choice.{lt_or_le}
use Rattle.words.specs.Kinds.{dimension}
use Rattle.code.specs.declared.Code.{Code}
use Rattle.code.specs.declared.Refusal.{Refusal}
use Rattle.code.specs.declared.Refusal.TheVariants.{Parameters, OutputLength, Torn, Pad}
use Rattle.code.specs.Sound.{Sound, largest_m, rm}
use Rattle.code.specs.SoundLaws.{made_large, made-crossed, made_good, made_of}
use Rattle.code.specs.RefusalLaws.{number_above}
use Rattle.code.specs.Demand1.{View, refused_as, Checks, passed, check}
use Rattle.code.specs.Demand1Laws.{Decides, demand_1}
use Rattle.search.specs.Outcome.{searching}
use Rattle.search.specs.Demands.{view, walk_checks}
use Rattle.search.proofs.Demand1Met.{search_decides}
use Rattle.search.specs.DemandsMet.{larger_allowance}
use Rattle.packing.specs.Layout.{part_length, pad_of}
use Rattle.record.specs.Reader.{part_of, readings_of, headed_by, header_of, outcome_of}
use Rattle.record.specs.ReaderLaws.{frame_torn, frame_pad, frame_whole, framed_record, length-readings_of}
use Rattle.record.specs.Searching.{searching_by, searching_record, searching_with_runner_up_by}
use Rattle.record.specs.Accepted.{readings_allowed}
use Rattle.record.specs.Demands.{said_r, said_m, header_checks, header_view, HeaderDemand1, record_checks, RecordDemand1, RecordLargerAllowance, Never4}

-- the checks on the bytes, for everything that depends on the header: refused as the header is, and decided by the rest for a record
module _ (before : List (List ℕ)) (o : View) (rest : Checks) where
  decides_header : (s : List ℕ) → ((why : Refusal) → header_of s ≡ Err why → o ≡ refused_as why before)
      → (let c = rm (said_r s) (said_m s) in Sound c → suc (part_length c.m) ≤ length s → header_of s ≡ Ok c → Decides before o rest)
      → Decides before o (header_checks s rest)
  unfolding header_of
  decides_header [] stop then = inr (λ x. ⊎_elim (λ y. omega arith) (λ y. omega arith) x, inl (omega arith, stop Torn refl))
  decides_header (first ∷ t) stop then =
      let r = first % 16 in
      let m = first / 16 in
      let s = first ∷ t in
      let c = rm r m in
      ⊎_elim
      (λ large. inl (inl large, stop Parameters (rw (made_large r m large))))
      (λ small. ⊎_elim
      (λ crossed. inl (inr crossed, stop Parameters (rw (made-crossed r m small crossed))))
      (λ within.
      let sound : Sound c = record { r_small = within; m_small = small } in
      let by : header_of s ≡ headed_by (Ok c) s = rw (made_good r m small within) in
      inr (
        λ x. ⊎_elim (λ y. omega arith) (λ y. omega arith) x,
        ⊎_elim
            (λ torn. inl (torn, stop Torn (by ∙ frame_torn c s (omega arith))))
            (λ whole. inr (
              λ x. omega arith,
              elim (ℕ_discrete (pad_of m (part_of c s)) 0) [
                | no pad ↦ inl (pad, stop Pad (by ∙ frame_pad c s (omega arith) pad))
                | yes clear ↦ inr (λ f. f clear, then sound whole (by ∙ frame_whole c s (omega arith) clear))
              ],
            ))
            (lt_or_le (length s) (suc (part_length m))),
      ))
      (lt_or_le m r))
      (lt_or_le largest_m m)

-- ---- the header
pub header_decides : (s : List ℕ) → Decides [] (header_view (outcome_of (header_of s))) (header_checks s passed)
header_decides s =
    decides_header [] (header_view (outcome_of (header_of s))) passed s
    (λ why e. ap (λ (h : Result Code Refusal). header_view (outcome_of h)) e)
    (λ sound whole e. rw e (refl, refl))

header_said : (s : List ℕ) (h : Result Code Refusal) → header_of s ≡ h → (outcome_of h).carry.number ≡ 0
    → ((outcome_of h).r ≡ said_r s) × ((outcome_of h).m ≡ said_m s)
header_said s (Err why) is e = absurd (omega (arith, number_above why))
header_said s (Ok c) is e =
    let same = (made_of (said_r s) (said_m s) c (framed_record s c is).said).same in
    (ap (λ (d : Code). d.r) same, ap (λ (d : Code). d.m) same)

pub header_none : (h : Result Code Refusal) → 0 < (outcome_of h).carry.number → ((outcome_of h).r ≡ 0) × ((outcome_of h).m ≡ 0)
header_none (Err why) h = (refl, refl)
header_none (Ok c) h = absurd (omega arith)

pub header_demand_1 : (s : List ℕ) → HeaderDemand1 s
header_demand_1 s =
    record {
      checked = demand_1 [] (header_view (outcome_of (header_of s))) (header_checks s passed) (header_decides s);
      said = header_said s (header_of s) refl;
      refused = header_none (header_of s);
    }

-- ---- the search
module _ (allowed : ℕ) (bits word : List ℕ) where
  -- given as many readings as the code has positions, none beyond the largest, the search checks 3, 6 and 7
  then_search : (r m : ℕ) (s : List ℕ) → Sound (rm r m) → suc (part_length m) ≤ length s
      → let l = readings_of (rm r m) s in
      Decides (bits ∷ word ∷ []) (view (searching r m allowed l bits word))
      (check OutputLength ((length bits ≡ dimension r m) × (length word ≡ 2 ^ m) → ⊥) (walk_checks r m allowed l))
  then_search r m s sound whole =
      let l = readings_of (rm r m) s in
      let long = length-readings_of (rm r m) s whole in
      ⊎_elim
      (λ x. absurd (⊎_elim (λ y. omega (arith, sound.m_small)) (λ y. omega (arith, sound.r_small)) x.0))
      (λ x. ⊎_elim
      (λ y. absurd (y.0 long))
      (λ y. ⊎_elim
      (λ z. inl z)
      (λ z. inr (
        z.0,
        ⊎_elim
            (λ u. absurd (omega (arith, u.1.bad, readings_allowed (rm r m) s u.0)))
            (λ u. u.1)
            z.1,
      ))
      y.1)
      x.1)
      (search_decides r m allowed l bits word)

  record_decides : (s : List ℕ) → Decides (bits ∷ word ∷ []) (view (searching_record allowed s bits word)) (record_checks allowed s bits word)
  unfolding searching_record
  record_decides s =
      let r = said_r s in
      let m = said_m s in
      let l = readings_of (rm r m) s in
      decides_header (bits ∷ word ∷ []) (view (searching_record allowed s bits word))
      (check OutputLength ((length bits ≡ dimension r m) × (length word ≡ 2 ^ m) → ⊥) (walk_checks r m allowed l)) s
      (λ why e. ap (λ (h : Result Code Refusal). view (searching_by h allowed s bits word)) e)
      (λ sound whole e. rw e (then_search r m s sound whole))

  pub record_demand_1 : (s : List ℕ) → RecordDemand1 allowed s bits word
  record_demand_1 s = demand_1 (bits ∷ word ∷ []) (view (searching_record allowed s bits word)) (record_checks allowed s bits word) (record_decides s)

-- ---- a larger allowance
headed_kept : (h : Result Code Refusal) (s bits word : List ℕ) (allowed more : ℕ) → allowed ≤ more → ((searching_by h allowed s bits word).number ≡ 6 → ⊥)
    → searching_with_runner_up_by h more s bits word ≡ searching_with_runner_up_by h allowed s bits word
headed_kept (Err why) s bits word allowed more h n = refl
headed_kept (Ok c) s bits word allowed more h n = larger_allowance c.r c.m (readings_of c s) bits word allowed more h n

pub record_larger_allowance : (s bits word : List ℕ) → RecordLargerAllowance s bits word
unfolding searching_record
record_larger_allowance s bits word = headed_kept (header_of s) s bits word

-- ---- 4 is never given
pub never_4 : (allowed : ℕ) (s bits word : List ℕ) → Never4 allowed s bits word
never_4 allowed s bits word =
    record {
      header = λ e.
          ⊎_elim (λ x. omega (arith, x.0)) (λ x.
          ⊎_elim (λ x. omega (arith, x.0)) (λ x.
          ⊎_elim (λ x. omega (arith, x.0)) (λ x. x.1)
          x.1) x.1)
          (((header_demand_1 s).checked.number 4 (omega arith)).0 e);
      search = λ e.
          ⊎_elim (λ x. omega (arith, x.0)) (λ x.
          ⊎_elim (λ x. omega (arith, x.0)) (λ x.
          ⊎_elim (λ x. omega (arith, x.0)) (λ x.
          ⊎_elim (λ x. omega (arith, x.0)) (λ x.
          ⊎_elim (λ x. omega (arith, x.0)) (λ x.
          ⊎_elim (λ x. omega (arith, x.0)) (λ x. x.1)
          x.1) x.1) x.1) x.1) x.1)
          (((record_demand_1 allowed bits word s).number 4 (omega arith)).0 e);
    }
