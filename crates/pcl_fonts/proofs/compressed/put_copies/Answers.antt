use Rattle.std.proofs.Common.{◌∙◌, ◌++◌, ap}
use Rattle.pcl_fonts.proofs.Expanding.{copies_more}
use Rattle.pcl_fonts.proofs.compressed.put_copies.Goals as goal

pub loop-preserved : goal.loop-preserved
loop-preserved c =
    c.in_ok-extend_from_slice.ensures.items ∙ ap (λ r. r ++ c.args.row.now) c.loop.invariant
    ∙ copies_more c.args.rows.now.items c.args.row.now c.loop.counter
