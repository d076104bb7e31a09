-- What becomes of a file that is read whole, and of one that is written whole or not at all.
use Rattle.std.specs.Prelude.{◌≡◌, ℕ, List, ◌⊎◌, Option, Result, Ok, Err}
use Rattle.std.specs.Global.{Vec}
use Rattle.pcl_base.specs.Limits.{input_limit}
use Rattle.pcl_streams.specs.declared.fault.Fault.{Fault}
use Rattle.pcl_streams.specs.declared.fault.Fault.TheVariants.{Refused, ReadFault}
use Rattle.pcl_streams.specs.Transfer.{IsReadAll, IsWritten}
use Rattle.pcl_files.specs.Files.{FileAct, Opened, Unopened, Begun, Unbegun, Placed, BothPlaced, Unplaced, Dropped, write_fault_of}
use Rattle.pcl_files.specs.declared.files.FileFault.{FileFault}

-- a file of this name was opened, and read to its end or up to a fault; or it can't be opened, which is a fault of reading
abbrev pub IsFileRead : {F : Type 0} → (F → FileAct → F → Type 0) → F → List ℕ → Result (Vec ℕ) Fault → Type 0
IsFileRead acts files name read =
    (acts files (Unopened name) files × (read ≡ Err ReadFault))
    ⊎ ((given left : Option (List ℕ)) × acts files (Opened name given) files × IsReadAll given left input_limit read)

-- a file of this name wasn't opened, which is a fault of reading; or it was, and read to its end or up to a fault or to this limit
abbrev pub IsPlainRead : {F : Type 0} → (F → FileAct → F → Type 0) → F → List ℕ → (limit : ℕ) → Result (Vec ℕ) Fault → Type 0
IsPlainRead acts files name limit read =
    (read ≡ Err ReadFault)
    ⊎ ((given left : Option (List ℕ)) × acts files (Opened name given) files × IsReadAll given left limit read)

-- A file that was begun is placed where the task was done, and dropped where it failed or the file can't be placed.
abbrev pub IsSettled : {F : Type 0} → (F → FileAct → F → Type 0) → List ℕ → (holds : Option (List ℕ)) → Result (Unit {0}) Fault
    → (files kept : F) → Result (Unit {0}) Fault → Type 0
IsSettled acts name holds (Ok unit) files kept done =
    (acts files (Placed name holds) kept × (done ≡ Ok tt))
    ⊎ ((why : FileFault) × acts files (Unplaced name why) kept × (done ≡ Err (write_fault_of why)))
IsSettled acts name holds (Err fault) files kept done = acts files (Dropped name) kept × (done ≡ Err fault)

-- a file that was begun is placed, or can't be
abbrev pub IsPlacedOrNot : {F : Type 0} → (F → FileAct → F → Type 0) → List ℕ → (holds : Option (List ℕ)) → (files kept : F) → Type 0
IsPlacedOrNot acts name holds files kept =
    acts files (Placed name holds) kept ⊎ ((why : FileFault) × acts files (Unplaced name why) kept)

-- The file of a certificate is settled as another one, but where the job is refused: then it is placed as it is.
abbrev pub IsSettledAside : {F : Type 0} → (F → FileAct → F → Type 0) → List ℕ → (holds : Option (List ℕ)) → Result (Unit {0}) Fault
    → (files kept : F) → Result (Unit {0}) Fault → Type 0
IsSettledAside acts name holds (Err (Refused refusal)) files kept done =
    IsPlacedOrNot acts name holds files kept × (done ≡ Err (Refused refusal))
IsSettledAside acts name holds outcome files kept done = IsSettled acts name holds outcome files kept done

-- A job and its certificate are placed where the task was done, both or neither. Where it failed the job is dropped, and then the
-- certificate is settled.
abbrev pub AreSettled : {F : Type 0} → (F → FileAct → F → Type 0) → (name : List ℕ) → (holds : Option (List ℕ)) → (aside : List ℕ)
    → (aside_holds : Option (List ℕ)) → Result (Unit {0}) Fault → (files kept : F) → Result (Unit {0}) Fault → Type 0
AreSettled acts name holds aside aside_holds (Ok unit) files kept done =
    (acts files (BothPlaced aside aside_holds name holds) kept × (done ≡ Ok tt))
    ⊎ ((why : FileFault) × acts files (Unplaced aside why) kept × (done ≡ Err (write_fault_of why)))
AreSettled {F} acts name holds aside aside_holds (Err fault) files kept done =
    (left : F) × acts files (Dropped name) left × IsSettledAside acts aside aside_holds (Err fault) left kept done

-- a file was begun for this name, got these bytes and was settled; or it can't be begun
abbrev pub IsFileWritten : {F : Type 0} → (F → FileAct → F → Type 0) → (name bytes : List ℕ) → (files kept : F)
    → Result (Unit {0}) Fault → Type 0
IsFileWritten {F} acts name bytes files kept done =
    ((why : FileFault) × acts files (Unbegun name why) kept × (done ≡ Err (write_fault_of why)))
    ⊎ ((begun : F) × (held holds : Option (List ℕ)) × (written : Result (Unit {0}) Fault) × acts files (Begun name held) begun
    × IsWritten held holds bytes written × IsSettled acts name holds written begun kept done)
