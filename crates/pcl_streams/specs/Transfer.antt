-- What reaches a call from a reader, and a writer from a call.
use Rattle.std.specs.Prelude.{◌≡◌, ℕ, ◌+◌, ◌≤◌, List, ◌++◌, length, Option, Result, Ok, Err}
use Rattle.std.specs.Global.{Vec}
use Rattle.std.specs.Io.KnownBytes.{Consumes, Appends, IsAtEnd}
use Rattle.pcl_streams.specs.declared.fault.Fault.{Fault}
use Rattle.pcl_streams.specs.declared.fault.Fault.TheVariants.{Refused, Memory, ReadFault, TooLong, WriteFault, NoSuchPage}

-- the reader has given some bytes, at most this many
abbrev pub GivesAtMost : Option (List ℕ) → Option (List ℕ) → ℕ → Type 0
GivesAtMost old new most = (bytes : List ℕ) × Consumes old new bytes × (length bytes ≤ most)

-- Reading to the end: the bytes are those that the reader gave; TooLong where it gave more than the limit; no fault
-- but of reading, length and memory. After a fault the reader has given at most one byte past the limit.
abbrev pub IsReadAll : Option (List ℕ) → Option (List ℕ) → ℕ → Result (Vec ℕ) Fault → Type 0
IsReadAll old new limit (Ok bytes) = Consumes old new bytes.items × IsAtEnd new × (length bytes.items ≤ limit)
IsReadAll old new limit (Err TooLong) = (bytes : List ℕ) × Consumes old new bytes × (length bytes ≡ limit + 1)
IsReadAll old new limit (Err ReadFault) = GivesAtMost old new limit
IsReadAll old new limit (Err Memory) = GivesAtMost old new (limit + 1)
IsReadAll old new limit (Err fault) = ⊥

-- all of the bytes were written, or a prefix of them
abbrev pub AppendsFront : Option (List ℕ) → Option (List ℕ) → List ℕ → Type 0
AppendsFront old new bytes = (front rest : List ℕ) × (bytes ≡ front ++ rest) × Appends old new front

abbrev pub IsWritten : Option (List ℕ) → Option (List ℕ) → List ℕ → Result (Unit {0}) Fault → Type 0
IsWritten old new bytes (Ok unit) = Appends old new bytes
IsWritten old new bytes (Err WriteFault) = AppendsFront old new bytes
IsWritten old new bytes (Err fault) = ⊥
