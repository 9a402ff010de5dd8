-- The library's bytes of a number are `unpacked`.
use Rattle.std.proofs.Common.{div-one}
use Rattle.numbers.specs.Sums.{tabulate}
use Rattle.bit_rows.specs.Eight.{unpacked}
use Rattle.bit_rows.proofs.store.Goals as goal

pub returns : goal.returns
unfolding unpacked tabulate
returns c = rw (c.copy.ensures, c.to_le_bytes.ensures, div-one c.args.x)
