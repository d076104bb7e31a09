use Rattle.std.proofs.Common.{ap, ◌∙◌}
use Rattle.pcl_bitmap.proofs.Names.{Picture, dot}
use Rattle.pcl_bitmap.proofs.Pictures.{blank_from_zeros, blank_dots, blank_is_picture}
use Rattle.pcl_bitmap.proofs.OneInk.{nothing_inked}
use Rattle.pcl_bitmap.proofs.bitmap.Bitmap.new.Goals as goal

pub returns-clause-blank : goal.returns-clause-blank
returns-clause-blank c =
    blank_from_zeros c.args.size c.args.dpi c.in_ok-vec.field-0.items c.height.result c.row_bytes.result c.height.ensures
    c.row_bytes.ensures (c.in_ok-vec.ensures.items_if_clones_equal (λ _ e. e))

pub returns-clause-dots : goal.returns-clause-dots
returns-clause-dots c x y = ap (λ (t : Picture). dot t x y) (returns-clause-blank c) ∙ blank_dots c.args.size c.args.dpi x y

pub invariant_of-result : goal.invariant_of-result
invariant_of-result c =
    record { picture = rw (returns-clause-blank c) (blank_is_picture c.args.size c.args.dpi); inked = nothing_inked _ _ c.nothing.ensures }
