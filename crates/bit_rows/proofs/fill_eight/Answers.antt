-- Four ones or more are in none of eight indices.
use Rattle.std.proofs.Common.{List, ℕ, ◌≡◌, ◌≤◌, arith, length, subst}
use Rattle.numbers.specs.Sums.{sum}
use Rattle.bit_rows.specs.EightKindsLaws.{no_kinds}
use Rattle.bit_rows.proofs.fill_eight.Goals as goal

pub put_eight-requires-in_default : goal.put_eight-requires-in_default
put_eight-requires-in_default c =
    subst (λ (ks : List ℕ). (length c.args.row.now ≡ 8) × (sum ks ≤ length c.args.bits.now)) (no_kinds c.args.d (omega arith)) c.requires

pub returns-in_default : goal.returns-in_default
returns-in_default c = rw (no_kinds c.args.d (omega arith)) c.put_eight-in_default.ensures
