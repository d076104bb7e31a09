-- What is done with files, by their names.
use Rattle.std.specs.Prelude.{ℕ, List, Option}
use Rattle.pcl_streams.specs.declared.fault.Fault.{Fault}
use Rattle.pcl_streams.specs.declared.fault.Fault.TheVariants as fault
use Rattle.pcl_files.specs.declared.files.FileFault.{FileFault}
use Rattle.pcl_files.specs.declared.files.FileFault.TheVariants.{Memory, Folder, Owner, Changed, Nameless, System}

-- A name is the bytes of its text. Of a file that was opened this says which bytes it gives, and of one that was begun which it
-- holds, where they are known. One that was begun is beside what its name has, until it is placed there or dropped.
pub data FileAct : Type 0 where
  Opened : (name : List ℕ) → (given : Option (List ℕ)) → FileAct
  Unopened : (name : List ℕ) → FileAct
  OneFile : (name other : List ℕ) → FileAct
  TwoFiles : (name other : List ℕ) → FileAct
  FolderMade : (name : List ℕ) → FileAct
  Begun : (name : List ℕ) → (held : Option (List ℕ)) → FileAct
  Unbegun : (name : List ℕ) → (why : FileFault) → FileAct
  Placed : (name : List ℕ) → (holds : Option (List ℕ)) → FileAct
  BothPlaced : (name : List ℕ) → (holds : Option (List ℕ)) → (other : List ℕ) → (other_holds : Option (List ℕ)) → FileAct
  ThreePlaced : (name : List ℕ) → (holds : Option (List ℕ)) → (other : List ℕ) → (other_holds : Option (List ℕ))
      → (third : List ℕ) → (third_holds : Option (List ℕ)) → FileAct
  Unplaced : (name : List ℕ) → (why : FileFault) → FileAct
  Dropped : (name : List ℕ) → FileAct

-- what a run fails with where a file can't be begun or placed
abbrev pub write_fault_of : FileFault → Fault
write_fault_of Memory = fault.Memory
write_fault_of Folder = fault.WriteFault
write_fault_of Owner = fault.WriteFault
write_fault_of Changed = fault.WriteFault
write_fault_of Nameless = fault.WriteFault
write_fault_of System = fault.WriteFault

-- two names are those of one file, or of two
abbrev pub AreOne : {F : Type 0} → (F → FileAct → F → Type 0) → F → (name other : List ℕ) → Type 0
AreOne acts files name other = acts files (OneFile name other) files

abbrev pub AreTwo : {F : Type 0} → (F → FileAct → F → Type 0) → F → (name other : List ℕ) → Type 0
AreTwo acts files name other = acts files (TwoFiles name other) files
