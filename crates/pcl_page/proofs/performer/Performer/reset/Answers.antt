use Rattle.std.proofs.Common.{ap, ◌∙◌}
use Rattle.pcl_page.specs.Asks.{with_reset}
use Rattle.pcl_page.proofs.performer.Performer.reset.Goals as goal

pub returns : goal.returns
returns c = λ dpi s i.
    c.put_back.ensures dpi (record s { asks = with_reset s.asks }) (record {
      settings = i.settings;
      raster = i.raster;
      marked = i.marked;
      ejected = i.ejected;
      performed = i.performed;
      asks = c.reset.ensures ∙ ap with_reset i.asks;
      fonts = i.fonts;
      sized = i.sized;
      painted = i.painted;
    })
