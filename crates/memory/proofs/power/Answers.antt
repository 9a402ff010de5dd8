-- `power`: 2^m does not wrap, since it is at most the length of an array.
use Rattle.std.proofs.Common.{arith}
use Rattle.memory.specs.TopLaws.{exponent_small}
use Rattle.memory.proofs.power.Goals as goal

pub overflow_shl-result : goal.overflow_shl-result
overflow_shl-result c = omega (arith, exponent_small c.args.m c.requires)
