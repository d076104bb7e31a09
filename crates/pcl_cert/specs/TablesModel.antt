-- Row tables as a certificate keeps them in bytes.
use Rattle.std.specs.Prelude.{◌≡◌, ℕ, ◌+◌, ◌*◌, ◌≤◌, List, length, map, take, drop}
use Rattle.std.specs.Int.{w16, from_be_bytes}
use Rattle.std.specs.List.{AllByRecursion}
use Rattle.pcl_cert.specs.declared.tables.Bytes.{Bytes}
use Rattle.pcl_cert.specs.declared.tables.Bytes.TheVariants.{Kept, Lent}
use Rattle.pcl_cert.specs.declared.tables.RowTables.TheInside.{Inside}
use Rattle.pcl_cert.specs.RowTables.{numbers_from}

-- a list at the front of bytes: how many numbers it has, and these
abbrev pub count_at_front : List ℕ → ℕ
count_at_front bytes = from_be_bytes w16 (take 2 bytes)

abbrev pub list_from : List ℕ → List ℕ
list_from bytes = numbers_from (count_at_front bytes) (drop 2 bytes)

-- a list begins at a place of the bytes, and is whole
pub record IsListAt (bytes : List ℕ) (start : ℕ) : Type 0 where
  pub whole : start + 2 + 2 * count_at_front (drop start bytes) ≤ length bytes

-- ---- how they are kept

abbrev pub contents : Bytes → List ℕ
contents (Kept bytes) = bytes.items
contents (Lent bytes) = bytes.now

abbrev pub lists_within : List ℕ → List ℕ → List (List ℕ)
lists_within bytes starts = map (λ start. list_from (drop start bytes)) starts

abbrev pub tables_view : Inside → List (List ℕ)
tables_view a = lists_within (contents a.bytes) a.starts.items

pub record AreTables (a : Inside) : Type 0 where
  pub rows : ℕ
  pub few : rows ≤ 10000
  pub size : length a.starts.items ≡ 4 * rows
  pub whole : AllByRecursion (IsListAt (contents a.bytes)) a.starts.items
