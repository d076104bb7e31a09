use Rattle.std.proofs.Common.{◌≡◌, sym, ◌∙◌, rules}
use Rattle.pcl_same.proofs.comparing.difference.Goals as goal

pub returns : goal.returns
returns c = λ page keeps same.
    let size : c.args.kept.now.bitmap.size ≡ c.args.page.now.size = search rules in
    let copies : c.args.kept.now.copies ≡ c.args.page.now.copies = search rules in (
      sym page.size_is ∙ sym keeps.bitmap.size ∙ size,
      sym keeps.copies ∙ copies,
      rw (← page.size_is, ← page.dpi_is) (c.in_ok-x.ensures page.bitmap page.picture keeps.bitmap),
    )
