-- The loop's invariant: each position passed is at its own image's place.
use Rattle.std.proofs.Common.{◌≡◌, sym, ◌∙◌, arith, get_or}
use Rattle.maps.specs.Maps.{where_is}
use Rattle.images.specs.ArrayLaws.{not_apart, all_placed, own-more}
use Rattle.images.proofs.all_apart.Goals as goal
use Rattle.images.proofs.all_apart.Goals.{After-from-in-loop-j}

-- where the image of this position is found
found : (c : After-from-in-loop-j) → c.from-in-loop-j.result
    ≡ where_is (λ k. get_or c.args.images.now k 0) (get_or c.args.images.now c.loop-j.j 0) c.args.n
found c =
    let is = c.requires.1.is_place (get_or c.args.images.now c.loop-j.j 0) (c.fits-images c.loop-j.j) in
    cc

pub returns-then-from-j : goal.returns-then-from-j
returns-then-from-j c =
    not_apart _ c.args.n c.loop-j.j c.loop-j-test.true
    (λ e. c.if-from-j.true (found ((goal.at.returns-then-from-j c).After-from-in-loop-j) ∙ e))

pub loop-j-preserved : goal.loop-j-preserved
loop-j-preserved c =
    own-more _ c.args.n c.loop-j.j (sym (found ((goal.at.loop-j-preserved c).After-from-in-loop-j)) ∙ c.if-from-j.false) c.loop-j.invariant

pub returns : goal.returns
returns c = all_placed _ c.args.n (λ i h. c.loop-j.invariant i (omega arith))
