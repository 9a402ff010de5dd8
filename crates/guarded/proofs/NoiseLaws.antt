-- What noise a guarded word stands, in any set of words: less than the size of a reading times the least number of places in which two words differ.
use Rattle.std.specs.Prelude.{◌≡◌, refl, List, ℕ, suc, ◌*◌, ◌^◌, ◌≤◌, pos, length, replicate}
use Rattle.std.proofs.Common.{ap, sym, ◌∙◌, arith}
use Rattle.std.proofs.lemmas.List.{length-map, length-replicate}
use Rattle.numbers.specs.Sums.{sum}
use Rattle.words.specs.Kinds.{encoded, Word}
use Rattle.words.proofs.InverseLaws.{word-length}
use Rattle.words.specs.TransformLaws.{bits_more}
use Rattle.decoding.specs.Readings.{turn}
use Rattle.decoding.specs.Best.{gap}
use Rattle.decoding.specs.Answer.{answer}
use Rattle.decoding.specs.AnswerLaws.{answer-found}
use Rattle.decoding.proofs.DemandsMet.{demands}
use Rattle.decoding.proofs.GapLaws.{undrifted}
use Rattle.decoding.specs.CleanLaws.{clean}
use Rattle.decoding.proofs.CleanLaws.{clean_best, clean_apart}
use Rattle.search.specs.Outcome as Search
use Rattle.search.specs.Outcome.{by_answer}
use Rattle.search.specs.Demands.{Searching}
use Rattle.guarded.specs.Guard.{guarded_bits}
use Rattle.guarded.specs.Theorems.{Guards, NoiseCorrected}
use Rattle.guarded.proofs.MarkerLaws.{length_with, some-information}

pub noise_corrected : (s : Searching) → Guards s → NoiseCorrected s
noise_corrected s g d far room message long are size above allowed l x enough small =
    let m = s.code.m in
    let ks = s.kinds in
    let f = g.long_kinds in
    let h = g.are_kinds in
    let some = some-information m ks f h g.all_ones_lem in
    let b : List ℕ = replicate (suc (length room)) 0 in
    let w : List ℕ = replicate (2 ^ m) 0 in
    let c = encoded m ks (guarded_bits message) in
    let many : suc (length room) ≡ sum ks = sym (length-replicate (suc (length room)) 0) ∙ x.long_bits ∙ g.counted in
    let sent : Word m ks c = record {
      bits = guarded_bits message;
      long = length_with 0 message ∙ ap suc long ∙ many;
      are_bits = bits_more message 0 are (omega arith);
      gives = refl;
    } in
    let wide : size * d ≤ gap m ks (clean size c) = clean_apart m ks f h c sent size above some d (λ y u z. far c y sent u z) in
    let as_long : length (clean size c) ≡ 2 ^ m = length-map c (λ bit. turn bit (pos size)) ∙ word-length m ks c f sent in
    let kept = undrifted m ks f h some (clean size c) l as_long x.entries.long (omega (arith, small, wide)) in
    let meets = ((demands m ks l x.entries.long f h some).demand_2 allowed (answer m ks l allowed)).0 refl in
    let is = ((g.demands l b w x).demand_2 allowed (answer m ks l allowed)).1 meets
    ∙ ap (by_answer allowed b w) (answer-found m ks l allowed enough kept.gap-left) in
    record {
      long = long;
      are_bits = are;
      answers = ap (λ (o : Search.Outcome). o.number) is;
      finds = ap (λ (o : Search.Outcome). o.word) is ∙ kept.same_word ∙ (clean_best m ks f h c sent size above).clean-word;
    }
