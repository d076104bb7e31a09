use Rattle.std.proofs.Common.{rules, Bool, cond, Some, None, ap, ◌∙◌}
use Rattle.pcl_macros.proofs.Names.{option_map, begun_in, macro_in, places_of}
use Rattle.pcl_macros.proofs.Tables.{macro_of}
use Rattle.pcl_macros.proofs.table.Macros.body.Goals as goal

pub returns-in_err-body : goal.returns-in_err-body
returns-in_err-body c =
    search rules
    ∙ ap places_of (macro_of c.self.inside.deletions c.self.inside.bodies.entries (option_map begun_in c.self.inside.begun) c.args.id
    c.self.invariant.unique c.self.view_is c.in_err-body.ensures.value)

pub returns-then-not-is_there : goal.returns-then-not-is_there
returns-then-not-is_there c =
    ap (λ (t : Bool). places_of (option_map macro_in (cond t (Some c.in_ok-body.body.now) None))) c.if-not-is_there.ensures
    ∙ ap places_of (macro_of c.self.inside.deletions c.self.inside.bodies.entries (option_map begun_in c.self.inside.begun) c.args.id
    c.self.invariant.unique c.self.view_is c.in_ok-body.ensures.value)

pub returns : goal.returns
returns c =
    ap (λ (t : Bool). places_of (option_map macro_in (cond t (Some c.in_ok-body.body.now) None))) c.if-not-is_there.ensures
    ∙ ap places_of (macro_of c.self.inside.deletions c.self.inside.bodies.entries (option_map begun_in c.self.inside.begun) c.args.id
    c.self.invariant.unique c.self.view_is c.in_ok-body.ensures.value)
