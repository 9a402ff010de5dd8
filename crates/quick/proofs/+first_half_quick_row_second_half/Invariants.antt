-- The measure of the three functions falls: a row of 2^m sums counts 2m + 1, a half of it 2m.
use Rattle.std.proofs.Common.{◌+◌, ◌*◌}
use Rattle.quick.proofs.+first_half_quick_row_second_half.Given as goal

abbrev pub decreases-first_half : goal.decreases-first_half
decreases-first_half l = 2 * l.m

abbrev pub decreases-quick_row : goal.decreases-quick_row
decreases-quick_row l = 2 * l.m + 1

abbrev pub decreases-second_half : goal.decreases-second_half
decreases-second_half l = 2 * l.m
