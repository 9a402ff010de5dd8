-- After p passes the first 2^p bits are the word of the place's lowest p digits.
use Rattle.std.specs.Prelude.{◌≡◌, ◌^◌, take}
use Rattle.hadamard.specs.Hadamard.{first_order}
use Rattle.first_order.proofs.put_word.Given as goal

abbrev pub invariant-loop-p : goal.invariant-loop-p
invariant-loop-p l = take (2 ^ l.p) l.word ≡ first_order l.p l.place l.sign
