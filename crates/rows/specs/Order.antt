-- The lesser and the greater of two signed numbers.
use Rattle.std.specs.Prelude.{min, max, ℤ, pos, negsuc}

abbrev pub lesser : ℤ → ℤ → ℤ
lesser (pos x) (pos y) = pos (min x y)
lesser (pos x) (negsuc y) = negsuc y
lesser (negsuc x) (pos y) = negsuc x
lesser (negsuc x) (negsuc y) = negsuc (max x y)

abbrev pub greater : ℤ → ℤ → ℤ
greater (pos x) (pos y) = pos (max x y)
greater (pos x) (negsuc y) = pos x
greater (negsuc x) (pos y) = pos y
greater (negsuc x) (negsuc y) = negsuc (min x y)
