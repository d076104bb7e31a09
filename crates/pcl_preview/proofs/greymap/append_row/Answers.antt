use Rattle.std.proofs.Common.{◌∙◌}
use Rattle.pcl_preview.proofs.Pixels.{no_pixel, pixel_more}
use Rattle.pcl_preview.proofs.greymap.append_row.Goals as goal

pub loop-column-init : goal.loop-column-init
loop-column-init c = no_pixel c.args.bitmap.now c.args.side c.args.row c.args.image.now.items

pub loop-column-preserved : goal.loop-column-preserved
loop-column-preserved c =
    c.in_ok-push.ensures.items
    ∙ pixel_more c.args.bitmap.now c.args.side c.args.row c.loop-column.column c.loop-column.image.items c.args.image.now.items
    c.mean.result c.loop-column.invariant c.mean.ensures
