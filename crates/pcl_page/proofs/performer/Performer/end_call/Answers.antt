use Rattle.std.proofs.Common.{◌∙◌, ap, rules}
use Rattle.pcl_page.proofs.Names.{EndRaster, Settings, restored}
use Rattle.pcl_page.proofs.Turns.{prepared_in}
use Rattle.pcl_page.proofs.Printed.{settings_in}
use Rattle.pcl_page.proofs.performer.Performer.end_call.Goals as goal

pub returns-clause-situation : goal.returns-clause-situation
returns-clause-situation c = λ s i.
    let ended = prepared_in {operation = EndRaster} i c.prepare.ensures in
    let restored_in = settings_in ended (search (rules, c.restore.ensures ∙ ap (restored c.args.saved) ended.settings, ended.settings)) in
    let before = c.asked-asked.ensures ∙ ap (λ (t : Settings). t.asked) i.settings in
    rw before at c.note_moved.ensures.situation c.args.dpi _ restored_in
