use Rattle.std.proofs.Common.{ap, rules}
use Rattle.pcl_page.proofs.Names.{Picture}
use Rattle.pcl_page.proofs.performer.Performer.new.Goals as goal

pub returns : goal.returns
returns c =
    let size = ap (λ (p : Picture). p.size) c.in_ok-new.ensures.blank in
    let resolution = ap (λ (p : Picture). p.dpi) c.in_ok-new.ensures.blank in
    search (rules, c.in_ok-new.ensures.dots, size, resolution)
