-- The head of a replacement.
use Rattle.std.specs.Prelude.{ℕ, ◌+◌, ◌-◌, ◌/◌, ◌%◌, nat_lt, if◌then◌else◌}
use Rattle.pcl_rows.specs.Heads.{Head, Near, Far}

-- the command byte of a replacement, with the bytes that lengthen its offset
abbrev pub replacement : ℕ → ℕ → Head
replacement offset len =
    if nat_lt offset 31 then Near (len - 1) offset else Far (len - 1) ((offset - 31) / 255) ((offset - 31) % 255)

-- how many bytes it has
abbrev pub replacement_bytes : ℕ → ℕ
replacement_bytes offset = if nat_lt offset 31 then 1 else 2 + (offset - 31) / 255
