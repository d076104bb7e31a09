use Rattle.std.proofs.Common.{false, None, Option, cond, nat_eq, sym, ap, refl, ◌∙◌}
use Rattle.pcl_macros.proofs.Names.{lookup, option_map, MacroBody, defined, MacroTable, begun_in}
use Rattle.pcl_macros.proofs.Tables.{found, follows_by, found_becomes, there_now}
use Rattle.pcl_macros.proofs.table.Macros.end.Goals as goal

pub returns-in-Ok : goal.returns-in-Ok
returns-in-Ok c =
    let definition = begun_in c.in-Some.definition in
    let d = c.self.inside.deletions in
    let es = c.self.inside.bodies.entries in
    let fs = c.insert.new.self.entries in (
      definition,
      ap (λ (t : MacroTable). t.begun) (sym c.self.view_is) ∙ ap (option_map begun_in) c.in-Some.is,
      follows_by d d es fs (option_map begun_in c.self.inside.begun) None (defined definition.id definition.from c.args.to)
          c.self.invariant.unique c.in-Ok.ensures.unique c.self.view_is
          (λ q. found_becomes d es fs definition.id _ c.in-Ok.ensures.updates.0 q
          ∙ ap (λ (o : Option MacroBody). cond (nat_eq definition.id q) o (found d (lookup (nat_eq q) es)))
          (there_now d definition.from c.args.to false)),
      refl,
    )
