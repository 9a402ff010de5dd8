-- `Code::kind`: the machine's count of ones is the number of ones of the definition.
use native.Mathlib.Omega.{arith}
use borrow.Author.Rules.{rules}
use lib.Pow.{pow_mono}
use Rattle.code.specs.SoundLaws.{kind-one, kind-zero}
use Rattle.code.proofs.Code.kind.Goals as goal

pub overflow_cast-i : goal.overflow_cast-i
overflow_cast-i c = let s = c.before in omega (arith, s.requires.1, pow_mono s.requires.0.m_small)

pub returns-then-self-i : goal.returns-then-self-i
returns-then-self-i c = let s = c.before.before in kind-one s.args.self.r s.args.self.m s.args.i s.requires.1 c.if-self-i.true

pub returns-else-self-i : goal.returns-else-self-i
returns-else-self-i c = let s = c.before.before in kind-zero s.args.self.r s.args.self.m s.args.i s.requires.1 c.if-self-i.false
