use Rattle.std.proofs.Common.{◌≡◌, ◌∙◌, Option, unwrap_or, refl, sym, ap, ℕ, rules}
use Rattle.pcl_page.proofs.Names.{Raster, raster_from}
use Rattle.pcl_page.proofs.Painted.{or_is}
use Rattle.pcl_page.proofs.performer.Performer.send_row.Goals as goal
use Rattle.pcl_page.proofs.performer.Performer.send_row.Goals.{in-Some, in-None+in_ok-raster-in-None}

pub returns : goal.returns
returns c =
    let old = c.follow_size.new.self in
    let followed = rw c.size-size.ensures.value at c.in_ok-follow_size.ensures in
    let raster = c.match-take.raster in
    let chosen : Option Raster → Raster = λ r. unwrap_or r (raster_from c.args.dpi 0 old.environment) in
    let is : raster ≡ chosen old.raster =
    elim c.match-take.branch [
      | in-Some w ↦ w.raster-is
          ∙ sym (ap chosen (sym c.take.ensures.value ∙ w.in-Some.is))
      | in-None+in_ok-raster-in-None w ↦
          w.raster-is ∙ w.in_ok-raster-in-None.ensures
          ∙ sym (ap chosen (sym c.take.ensures.value ∙ w.in-None.is))
    ] in
    let method = c.method.ensures in
    let dots = λ (x y : ℕ). rw (method, followed.settings, or_is) at (c.send.ensures.dots x y) in
    record {
      begun = old;
      followed = record {
        settings = followed.settings;
        raster = followed.raster;
        marked = followed.marked;
        ejected = followed.ejected;
        fonts = followed.fonts;
        performed = followed.performed;
        asks = followed.asks;
        size_is = followed.size_is;
        resolution = followed.resolution;
        same = followed.same;
        white = followed.white;
      };
      raster = raster;
      raster_is = rw (followed.raster, followed.settings) at is;
      sent = rw (c.send.ensures.raster, method, followed.settings) refl;
      drawn = search (rules, c.send.ensures, dots);
    }
