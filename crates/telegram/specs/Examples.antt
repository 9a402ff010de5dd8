-- A telegram by its bits: cylinder 5, 12.34 degrees to port, is 101 1 10011010010 0.
use Rattle.std.specs.Prelude.{◌≡◌, refl, [], ◌∷◌}
use Rattle.words.specs.Bits.{digit, digits}
use Rattle.telegram.specs.Telegram.{telegram_bits}

pub port_1234 : telegram_bits (record { cylinder = 5; direction = 1; tilt = 1234 })
    ≡ 1 ∷ 0 ∷ 1 ∷ 1 ∷ 1 ∷ 0 ∷ 0 ∷ 1 ∷ 1 ∷ 0 ∷ 1 ∷ 0 ∷ 0 ∷ 1 ∷ 0 ∷ 0 ∷ []
unfolding digits digit
port_1234 = refl
