-- Faults that come of an image.
use Rattle.pcl_same.specs.declared.comparison.PageComparison.TheVariants.{Same, PageCount, Page}
use Rattle.pcl_same.specs.declared.comparison.Difference.TheVariants.{Size, Copies, Dot}
use Rattle.std.specs.Prelude.{◌≡◌}
use Rattle.pcl_command.proofs.Names.{PageComparison, IsComparison, DifferInDots, dotted_page, List, ℕ, Option, Some, Err, inl, refl, arith, Bor, Profile, Dpi, Picture, Fault, Memory, WriteFault, IsImageWritten, FileFault, FileAct, write_fault_of, IsDifferingPage, IsImageMade, IsImageDrawnTo}

-- a fault that an image can have
abbrev pub IsImageFault : Fault → Type 0
IsImageFault WriteFault = Unit {0}
IsImageFault Memory = Unit {0}
IsImageFault other = ⊥

written_fault : (old new : Option (List ℕ)) (image : Picture) (fault : Fault) → IsImageWritten old new image (Err fault)
    → IsImageFault fault
written_fault old new image fault w = grind arith

unmade_fault : (why : FileFault) → IsImageFault (write_fault_of why)
unmade_fault why = grind arith

made_fault : {F : Type 0} (acts : F → FileAct → F → Type 0) (name : List ℕ) (image : Picture) (files kept : F) (fault : Fault)
    → IsImageMade acts name image files kept (Err fault) → IsImageFault fault
made_fault acts name image files kept fault m = grind (arith, unmade_fault, written_fault)

pub drawn_fault : {F : Type 0} (acts : F → FileAct → F → Type 0) (name : Option (Bor (List ℕ))) (number : Option ℕ) (widest : Profile)
    (dpi : Dpi) (first second : List ℕ) (files kept : F) (fault : Fault)
    → IsImageDrawnTo acts name number widest dpi first second files kept (Err fault) → IsImageFault fault
drawn_fault acts name number widest dpi first second files kept fault m = grind (arith, made_fault)

-- an image that can't be drawn
pub undrawn : {F : Type 0} (acts : F → FileAct → F → Type 0) (name : Bor (List ℕ)) (number : ℕ) (widest : Profile) (dpi : Dpi)
    (first second : List ℕ) (files : F) (fault : Fault) → IsDifferingPage widest dpi first second number (Err fault)
    → IsImageDrawnTo acts (Some name) (Some number) widest dpi first second files files (Err fault)
undrawn acts name number widest dpi first second files Memory d = inl (refl, refl)
undrawn acts name number widest dpi first second files other d = absurd d

-- jobs that differ first in a dot of this page
pub differ_in_dots : (widest : Profile) (dpi : Dpi) (first second : List ℕ) (comparison : PageComparison) (number : ℕ)
    → IsComparison widest dpi first second comparison → dotted_page comparison ≡ Some number
    → DifferInDots widest dpi first second number
differ_in_dots widest dpi first second (Page n (Dot x y)) number is e =
    let same : n ≡ number = grind (arith, e) in (x, y, rw (← same) is)
differ_in_dots widest dpi first second (Page n (Size a b)) number is e = absurd (grind (arith, e))
differ_in_dots widest dpi first second (Page n (Copies a b)) number is e = absurd (grind (arith, e))
differ_in_dots widest dpi first second (PageCount a b) number is e = absurd (grind (arith, e))
differ_in_dots widest dpi first second Same number is e = absurd (grind (arith, e))
