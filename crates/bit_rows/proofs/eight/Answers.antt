-- The eight bits go into one number and come back as their transform.
use Rattle.std.proofs.Common.{ap, ◌∙◌, List, ℕ, ◌++◌, drop}
use Rattle.bit_rows.specs.Eight.{unpacked, bytes_added, pairs_added, fours_added}
use Rattle.bit_rows.specs.EightLaws.{eight_word}
use Rattle.bit_rows.proofs.eight.Goals as goal

pub returns : goal.returns
returns c =
    let rest = drop 8 c.args.word.now in
    c.store.ensures
    ∙ ap (λ (y : ℕ). unpacked y ++ rest) (c.three_layers.ensures ∙ ap (λ (x : ℕ). fours_added (pairs_added (bytes_added x))) c.load-x.ensures)
    ∙ ap (λ (l : List ℕ). l ++ rest) (eight_word c.args.word.now c.requires.0 c.requires.1)
