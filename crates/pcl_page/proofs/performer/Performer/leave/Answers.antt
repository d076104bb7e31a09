use Rattle.std.proofs.Common.{ℕ, length, ap, ◌∙◌}
use Rattle.pcl_page.proofs.Names.{asks_of}
use Rattle.pcl_page.specs.Asks.{with_exit}
use Rattle.pcl_page.specs.Situation.{exited}
use Rattle.pcl_page.proofs.performer.Performer.leave.Goals as goal

pub returns : goal.returns
returns c = λ dpi s i.
    let lines = c.args.lines.now in
    c.put_back.ensures dpi (exited lines s) (record {
      settings = i.settings;
      raster = i.raster;
      marked = i.marked;
      ejected = i.ejected;
      performed = i.performed;
      asks = c.in_ok-push_exit.ensures
          ∙ ap (λ (n : ℕ). with_exit n lines (asks_of c.args.self.now.asks)) i.ejected
          ∙ ap (with_exit (length s.pages) lines) i.asks;
      fonts = i.fonts;
      sized = i.sized;
      painted = i.painted;
    })
