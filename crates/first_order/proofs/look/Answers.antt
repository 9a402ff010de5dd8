-- The place by the largest key; the next size once that entry is set to 0.
use Rattle.std.specs.Prelude.{◌≡◌, ℤ, pos, negsuc, get_or, ◌%◌}
use Rattle.std.specs.Int.{w32, from_bool, is_negative}
use Rattle.std.proofs.Common.{ap, ◌∙◌, arith, to_z-of_z}
use Rattle.std.proofs.lemmas.Bool.Decides.{nat_tests}
use Rattle.decoding.specs.Quick.{hard}
use Rattle.first_order.specs.TopLaws.{Placed, placed, both_found}
use Rattle.first_order.proofs.look.Goals as goal
use Rattle.first_order.proofs.look.Goals.{After-top_key-key}

-- the bit that an entry speaks for
sign_read : (z : ℤ) → from_bool (is_negative z) ≡ hard z
sign_read (pos n) = grind (arith, nat_tests)
sign_read (negsuc n) = grind (arith, nat_tests)

found-place : (c : After-top_key-key) → Placed c.args.row.now c.top_key-key.result
found-place c =
    placed c.args.row.now c.top_key-key.result c.requires.0 c.requires.1 c.top_key-key.ensures

pub returns : goal.returns
returns c =
    let row = c.args.row.now in
    let place = c.top_key-key.result % 256 in
    record {
      largest =
          both_found row c.top_key-key.result c.top_size-second.result c.requires.0
          (found-place ((goal.at.returns c).After-top_key-key)) c.top_size-second.ensures;
      sign-is =
          ap from_bool c.is_negative-negative.ensures
          ∙ ap (λ (z : ℤ). from_bool (is_negative z)) (to_z-of_z {w = w32} {z = get_or row place (pos 0)} (record { sfits = omega arith }))
          ∙ sign_read (get_or row place (pos 0));
    }
