use Rattle.pcl_page.proofs.Names.{refl, ap, Picture}
use Rattle.pcl_page.proofs.performer.Performer.eject.Goals as goal

pub returns-clause-ok : goal.returns-clause-ok
returns-clause-ok g c = (
  record {
    settings = c.new_page.ensures;
    raster = refl;
    marked = refl;
    ejected = refl;
    performed = refl;
    asks = c.in_ok-push_page.ensures;
    fonts = refl;
    size = ap (λ (p : Picture). p.size) c.clear.ensures.blank;
    resolution = ap (λ (p : Picture). p.dpi) c.clear.ensures.blank;
    white = λ x y wide high. c.clear.ensures.dots x y;
  },
  (_, record { size = refl; resolution = refl; copies_are = refl; bitmap = refl }, c.in_ok-page.ensures.taken),
)
