-- `float_search::search_sound`: the kinds and the readings are at the fronts of arrays of 256.
use mathlib.Core.Path.{◌≡◌, refl, ap, ap₂, sym, ◌∙◌}
use mathlib.Core.List.{List, ◌++◌}
use Prim.Native.Nat.{ℕ, ◌-◌, ◌^◌, ◌≤◌}
use native.Mathlib.Omega.{arith}
use native.Mathlib.Nat.{sub-zero}
use lib.IntN.{ℤ}
use lib.ListN.{length, take, replicate}
use lib.Seq.{length-take-le}
use lib.Ieee.{Float, binary32, of_bits}
use Rattle.words.specs.Kinds.{kinds}
use Rattle.words.proofs.KindLaws.{length-kinds}
use Rattle.code.specs.SoundLaws.{length_most}
use Rattle.search.specs.RunnerUp.{runner_up_outcome_by}
use Rattle.search.specs.WorkLaws.{front-is, same_readings, searchable}
use Rattle.float_numbers.specs.Whole.{wholes}
use Rattle.float_numbers.proofs.WholesLaws.{length-wholes, wholes-take}
use Rattle.float_search.proofs.search_sound.Goals as goal

-- the readings again, as whole numbers
own_is : (a rest l : List Float) (n : ℕ) → a ≡ l → length (wholes l) ≡ n → take n (wholes (a ++ rest)) ≡ wholes l
own_is a rest l n e f = sym (wholes-take n (a ++ rest)) ∙ ap wholes (front-is a rest l n e (sym (length-wholes l) ∙ f))

-- the front of an array of zeros, lent
lent_long : (n : ℕ) → n ≤ 256 → length (take (n - 0) (replicate {A = Float} 256 (of_bits binary32 0))) ≡ n
lent_long n h = rw sub-zero (length-take-le n (replicate {A = Float} 256 (of_bits binary32 0)) h)

pub copy-requires : goal.copy-requires
copy-requires c =
    let filled = c in
    let sized = filled in
    let start = sized in
    let l = start.args.readings.now in
    let room : sized.length-n.result ≤ 256 = omega (arith, length_most start.requires.sound, sized.length-n.ensures) in
    lent_long sized.length-n.result room ∙ sized.length-n.ensures ∙ sym start.requires.entries.long ∙ length-wholes l

pub search_kinds-result-requires : goal.search_kinds-result-requires
search_kinds-result-requires c =
    let copied = c in
    let filled = copied in
    let start = filled in
    let s = start.args in
    let n = 2 ^ s.code.m in (
      refl,
      same_readings (own_is copied.copy.new.to _ s.readings.now n copied.copy.ensures start.requires.entries.long)
          (searchable _
          (front-is filled.put_kinds.new.row _ (kinds s.code.r s.code.m) n filled.put_kinds.ensures (length-kinds s.code.r s.code.m))
          start.requires),
    )

pub returns : goal.returns
returns c =
    let done = c in
    let copied = done in
    let filled = copied in
    let start = filled in
    let s = start.args in
    let m = s.code.m in
    let own = own_is copied.copy.new.to _ s.readings.now (2 ^ m) copied.copy.ensures start.requires.entries.long in
    let is = front-is filled.put_kinds.new.row _ (kinds s.code.r m) (2 ^ m) filled.put_kinds.ensures (length-kinds s.code.r m) in
    done.search_kinds-result.ensures
    ∙ ap₂ (λ (ks : List ℕ) (x : List ℤ). runner_up_outcome_by m ks x s.allowed s.bits.now s.word.now) is own
