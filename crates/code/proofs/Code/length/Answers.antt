-- `Code::length`: 2^m does not wrap, since m is at most 8.
use borrow.Author.Rules.{rules}
use native.Mathlib.Omega.{arith}
use native.Mathlib.Nat.{mod-eq_of_lt, one-mul}
use lib.Pow.{pow_mono}
use Rattle.code.proofs.Code.length.Goals as goal

pub returns : goal.returns
returns c = rw one-mul (mod-eq_of_lt (omega (arith, pow_mono c.requires.m_small)))
