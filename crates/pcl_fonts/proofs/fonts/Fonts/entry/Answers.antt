use Rattle.std.proofs.Common.{sym, ap, ◌∙◌}
use Rattle.pcl_fonts.proofs.Names.{option_map, stored_in}
use Rattle.pcl_fonts.proofs.Tables.{entry_found, live_when}
use Rattle.pcl_fonts.proofs.fonts.Fonts.entry.Goals as goal

pub returns-in_err-entry : goal.returns-in_err-entry
returns-in_err-entry c =
    ap (option_map (λ e. stored_in e.now)) c.from_residual.ensures
    ∙ entry_found c.self.inside.deletions c.self.inside.entries.entries c.args.id c.self.invariant.unique c.self.view_is
    c.in_err-entry.ensures.value

pub returns-then-not-is_there : goal.returns-then-not-is_there
returns-then-not-is_there c =
    let d = c.self.inside.deletions in
    ap (option_map stored_in) (sym (live_when d c.in_ok-entry.entry.now c.if-not-is_there.ensures))
    ∙ entry_found d c.self.inside.entries.entries c.args.id c.self.invariant.unique c.self.view_is c.in_ok-entry.ensures.value

pub returns : goal.returns
returns c =
    let d = c.self.inside.deletions in
    ap (option_map stored_in) (sym (live_when d c.in_ok-entry.entry.now c.if-not-is_there.ensures))
    ∙ entry_found d c.self.inside.entries.entries c.args.id c.self.invariant.unique c.self.view_is c.in_ok-entry.ensures.value
