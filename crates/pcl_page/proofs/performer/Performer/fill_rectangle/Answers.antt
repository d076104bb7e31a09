use Rattle.std.proofs.Common.{◌≡◌, ◌∙◌, Some, refl, sym}
use Rattle.pcl_page.proofs.Names.{ink_of}
use Rattle.pcl_page.proofs.Turns.{drawn_in}
use Rattle.pcl_page.proofs.performer.Performer.fill_rectangle.Goals as goal

pub returns : goal.returns
returns c = λ s i.
    let ink : ink_of c.args.value ≡ Some c.in-Some.ink = sym c.ink_of.ensures ∙ c.in-Some.is in
    let followed = rw c.size-size.ensures.value at c.in_ok-follow_size.ensures in
    let settings = followed.settings ∙ i.settings in
    rw ink (
      refl,
      rw settings at (drawn_in i followed c.ink_rectangle.ensures.drawn
          (c.ink_rectangle.ensures.raster ∙ followed.raster ∙ i.raster)),
    )
