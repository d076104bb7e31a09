use Rattle.std.proofs.Common.{◌≡◌, ◌∙◌, is_some, ap}
use Rattle.pcl_page.specs.Macros.{macro_lasts, macro_now}
use Rattle.pcl_page.proofs.Interpreted.{defined_is}
use Rattle.pcl_page.proofs.interpreter.Interpreter.note.Goals as goal

pub returns-clause-situation : goal.returns-clause-situation
returns-clause-situation c = λ dpi s at.
    let there = c.is_some-is_defined.ensures ∙ ap is_some c.body.ensures ∙ defined_is at c.macro_id-id.ensures in
    let test : c.macro_lasts.result ≡ macro_lasts c.args.action (is_some (macro_now s)) =
    c.macro_lasts.ensures ∙ ap (macro_lasts c.args.action) there in
    record { is_in = rw test at (c.last_if.ensures.situation dpi s at.is_in); macros = at.macros; begun = at.begun }
