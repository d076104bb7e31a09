use Rattle.std.proofs.Common.{◌∙◌, sym}
use Rattle.pcl_command.proofs.Drawn.{differ_in_dots}
use Rattle.pcl_command.proofs.difference_images.draw_difference.Goals as goal

pub differing_page-requires : goal.differing_page-requires
differing_page-requires g c =
    let jobs = c.args.jobs in
    differ_in_dots jobs.widest jobs.dpi jobs.first.now jobs.second.now c.args.comparison.now c.in-Some-Some.page c.requires
    (sym c.dotted_page.ensures ∙ c.in-Some-Some.is-1)
