-- Black dots, counted byte by byte.
use Rattle.std.specs.Prelude.{ℕ, zero, suc, ◌+◌, if◌then◌else◌}
use Rattle.pcl_bitmap.specs.Bitmap.{bit_of_byte}

-- how many bits of a byte are set of this many after the first ones, from the left
unfoldable pub black_in_byte : (byte skip : ℕ) → ℕ → ℕ
black_in_byte byte skip zero = 0
black_in_byte byte skip (suc more) = black_in_byte byte skip more + (if bit_of_byte byte (skip + more) then 1 else 0)
