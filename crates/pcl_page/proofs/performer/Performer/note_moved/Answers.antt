use Rattle.std.proofs.Common.{◌≡◌, ◌&&◌, ◌∙◌, refl}
use Rattle.std.specs.Prelude.{not}
use Rattle.pcl_env.specs.Offset.{lie_together}
use Rattle.pcl_page.proofs.Names.{is_marked}
use Rattle.pcl_page.proofs.performer.Performer.note_moved.Goals as goal

pub returns-clause-situation : goal.returns-clause-situation
returns-clause-situation c = λ dpi s i.
    let same : c.is_moved-is_moved.result ≡ (is_marked s && not (lie_together c.args.asked s.settings.asked)) =
    c.is_moved-is_moved.ensures ∙ rw (i.marked, i.settings) refl in
    rw same at c.last_if.ensures.situation dpi s i
