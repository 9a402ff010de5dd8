-- The answer with the runner-up at each place where the search returns, and its runner-up in an array of zeros.
use Rattle.std.specs.Prelude.{◌≡◌, List, ◌++◌, ℕ, ◌+◌, ◌-◌, ◌≤◌, ℤ, length, take, drop, replicate, Result, Ok, Err}
use Rattle.std.proofs.Common.{ap, sym, ◌∙◌, arith, drop_at, length-take-le, ne_eqb}
use Rattle.std.proofs.Math.Nat.{sub-zero}
use Rattle.std.proofs.lemmas.List.{length-replicate, replicate-append-replicate}
use Rattle.words.specs.Kinds.{kinds, pick}
use Rattle.words.proofs.FillLaws.{length-pick}
use Rattle.decoding.specs.Answer.{found, tied, out_of_visits, answer}
use Rattle.code.specs.declared.Code.{Code}
use Rattle.code.specs.declared.Refusal.{Refusal}
use Rattle.code.specs.declared.Refusal.TheVariants.{OutOfVisits, Tied}
use Rattle.code.specs.Sound.{number_of}
use Rattle.code.specs.RefusalLaws.{number_above}
use Rattle.code.specs.Admitted.{admitted}
use Rattle.code.specs.SoundInput.{dimension_of}
use Rattle.code.specs.AdmittedLaws.{allowed_sound_for}
use Rattle.search.specs.Outcome.{found_with, refused, by_answer}
use Rattle.search.specs.OutcomeLaws.{searching-refused, searching_answered}
use Rattle.search.specs.RunnerUp.{roomy, runner_up, shown_with, runner_up_outcome_of, with_none, runner_up_outcome_by, searching_with_runner_up}
use Rattle.search.specs.Work.{with_bits, Pickable}
use Rattle.search.specs.declared.Found.{Found}

-- a refusal shows no runner-up
pub none-shown : (x : List ℕ) (why : Refusal) (bits word : List ℕ)
    → shown_with x (refused why bits word) ≡ runner_up_outcome_of (with_none (Err why)) bits word
none-shown x why bits word = rw (ne_eqb (number_of why) 0 (λ e. omega (arith, number_above why)))

-- an array of zeros that is left as it was shows none
pub none_put : {x : List ℕ} → x ≡ replicate 256 0 → (a : Result Found Refusal) (bits word : List ℕ)
    → runner_up_outcome_of (with_bits a x) bits word ≡ runner_up_outcome_of (with_none a) bits word
none_put zeros a bits word = ap (λ (x : List ℕ). runner_up_outcome_of (with_bits a x) bits word) zeros

-- if tests 1 to 4 refuse nothing: by the answer, over the words of any row of kinds
module _ (m : ℕ) (ks : List ℕ) (l : List ℤ) (allowed : ℕ) (bits word : List ℕ) where
  pub runner_up_out : answer m ks l allowed ≡ out_of_visits
      → runner_up_outcome_of (with_none (Err (OutOfVisits allowed))) bits word ≡ runner_up_outcome_by m ks l allowed bits word
  runner_up_out e = rw e

  pub runner_up_tied : {p v : ℕ} → answer m ks l allowed ≡ tied p v
      → runner_up_outcome_of (with_none (Err (Tied p v))) bits word ≡ runner_up_outcome_by m ks l allowed bits word
  runner_up_tied e = rw e

  pub runner_up-found : {b x y : List ℕ} {p g v : ℕ} → answer m ks l allowed ≡ found b x p g v → y ≡ runner_up m ks l
      → record { outcome = found_with p g v b x; runner_up = y } ≡ runner_up_outcome_by m ks l allowed bits word
  runner_up-found e f = rw (e, f)

-- ---- an array of zeros, whose first k places are lent to the bits
zeros-left : (k : ℕ) → k ≤ 256 → drop k (replicate {A = ℕ} 256 0) ≡ replicate (256 - k) 0
zeros-left k h =
    let parts : 256 ≡ k + (256 - k) = omega arith in
    ap (λ (n : ℕ). drop k (replicate {A = ℕ} n 0)) parts ∙ ap (drop k) (sym (replicate-append-replicate k (256 - k) 0))
    ∙ drop_at (replicate k 0) (replicate (256 - k) 0) k (length-replicate k 0)

pub second-shown : (n k : ℕ) (ks second b : List ℕ) → Pickable n k ks → length second ≡ 256 → b ≡ pick ks (take n second)
    → b ++ drop (k - 0) (replicate {A = ℕ} 256 0) ≡ roomy (pick ks (take n second))
second-shown n k ks second b p long is =
    let row : length (take n second) ≡ length ks = length-take-le n second (omega (arith, p.room)) ∙ sym p.long_kinds in
    let e : length (pick ks (take n second)) ≡ k = length-pick ks (take n second) p.are_kinds row ∙ sym p.long_bits in
    rw (sub-zero, is, zeros-left k p.few) (ap (λ (j : ℕ). pick ks (take n second) ++ replicate {A = ℕ} (256 - j) 0) (sym e))

module _ (r m allowed : ℕ) (l : List ℤ) (bits word : List ℕ) where
  pub runner_up-refused : (why : Refusal) → Err why ≡ admitted r m l (length bits) (length word)
      → searching_with_runner_up r m allowed l bits word ≡ runner_up_outcome_of (with_none (Err why)) bits word
  runner_up-refused why e =
      ap (shown_with (runner_up m (kinds r m) l)) (searching-refused r m allowed l bits word why e) ∙ none-shown (runner_up m (kinds r m) l) why bits word

  pub runner_up_answered : (c : Code) → Ok c ≡ admitted r m l (length bits) (length word)
      → searching_with_runner_up r m allowed l bits word ≡ runner_up_outcome_by c.m (kinds c.r c.m) l allowed bits word
  runner_up_answered c e =
      ap (shown_with (runner_up m (kinds r m) l)) (searching_answered r m allowed l bits word c e)
      ∙ ap (λ (d : Code). shown_with (runner_up d.m (kinds d.r d.m) l) (by_answer allowed bits word (answer c.m (kinds c.r c.m) l allowed)))
      (sym (allowed_sound_for dimension_of r m l (length bits) (length word) c e).0)
