use Rattle.pcl_fonts.proofs.Names.{Some, false, nat_eq, refl, ap, lookup, Entry}
use Rattle.pcl_fonts.proofs.Tables.{Entries, live, seen, follows_at, changed, header_steps, sent_now, same_seen}
use Rattle.pcl_fonts.proofs.fonts.Fonts.header.Goals as goal

pub returns-in-Ok : goal.returns-in-Ok
returns-in-Ok c =
    let d = c.self.inside.deletions in
    let its = c.in-Some.header in
    let e : Entry =
    record { info = its.info; font_type = its.font_type; is_permanent = false; deletions = d; characters = c.new.result } in (
      c.in-Some.ensures.0,
      follows_at
          (changed d c.self.inside.entries.entries c.insert.new.self.entries c.args.id (Some e) c.self.invariant.unique c.self.view_is
          c.in-Ok.ensures.unique c.in-Ok.ensures.updates.0 refl (sent_now d e refl))
          (header_steps c.args.id e c.in-Some.ensures.1 c.new.ensures.empty),
    )

pub returns : goal.returns
returns c =
    let d = c.self.inside.deletions in
    same_seen (seen d c.self.inside.entries.entries c.self.invariant.unique c.self.view_is (λ q. refl))
    (seen d c.insert.new.self.entries c.in-Err.ensures.unique refl
    (λ q. ap (λ (es : Entries). live d (lookup (nat_eq q) es)) c.in-Err.ensures.err))
