use Rattle.std.proofs.Common.{◌∙◌, ap}
use Rattle.pcl_page.proofs.Names.{decoded_is, cleared_past}
use Rattle.pcl_page.proofs.raster.decode_within.Goals as goal

pub returns : goal.returns
returns c = c.clear_past.ensures ∙ ap (cleared_past c.args.width)
    (decoded_is c.args.method c.args.seed.now c.args.bytes.now c.decode.new.row c.decode.ensures)
