-- `lines::Text::put_number` meets its contract: the digits are made in an array and copied.
use Rattle.lines.specs.LineLaws.{digits_text}
use Rattle.lines.proofs.Text.put_number.Goals as goal

pub returns-clause-puts : goal.returns-clause-puts
returns-clause-puts c =
    let d = c.decimal-k in
    rw (← digits_text c.args.n d.result d.new.out c.ranges.n.fits d.ensures.len d.ensures.digits) c.put_text.ensures
