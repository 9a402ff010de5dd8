-- `Code::new` makes the code exactly if the tests pass.
use native.Mathlib.Omega.{arith}
use mathlib.Core.Path.{sym}
use Rattle.code.specs.SoundLaws.{made_large, made-crossed, made_good}
use Rattle.code.proofs.Code.new.Goals as goal

pub returns-then-m-gt-LARGEST_M : goal.returns-then-m-gt-LARGEST_M
returns-then-m-gt-LARGEST_M c = let a = c.args in sym (made_large a.r a.m (omega arith))

pub returns-then-m-r : goal.returns-then-m-r
returns-then-m-r c = let a = c.args in sym (made-crossed a.r a.m (omega arith) (omega arith))

pub returns : goal.returns
returns c = let a = c.args in sym (made_good a.r a.m (omega arith) (omega arith))
