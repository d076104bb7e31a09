-- Faults that come of reading a file.
use Rattle.pcl_files.proofs.Names.{List, ℕ, Err, arith, Fault, Memory, ReadFault, TooLong, FileAct, IsFileRead}

-- a fault that reading a file can have
abbrev pub IsReadFault : Fault → Type 0
IsReadFault ReadFault = Unit {0}
IsReadFault TooLong = Unit {0}
IsReadFault Memory = Unit {0}
IsReadFault other = ⊥

pub read_fault : {F : Type 0} (acts : F → FileAct → F → Type 0) (files : F) (name : List ℕ) (fault : Fault)
    → IsFileRead acts files name (Err fault) → IsReadFault fault
read_fault acts files name fault r = grind arith
