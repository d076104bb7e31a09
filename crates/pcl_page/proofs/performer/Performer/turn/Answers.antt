use Rattle.std.proofs.Common.{◌∙◌, refl, sym, arith}
use Rattle.pcl_page.proofs.Turns.{turned_stays, turned_ejects}
use Rattle.pcl_page.proofs.performer.Performer.turn.Goals as goal

pub returns-in_ok-eject-clause-turned : goal.returns-in_ok-eject-clause-turned
returns-in_ok-eject-clause-turned g c = λ s i.
    turned_ejects _ _ _ _ _ s _ _ i c.in-Ok.ensures (sym c.ejects.ensures ∙ c.if-ejects.true)
    (omega (arith, c.if-self-ge-PAGE_LIMIT.false)) c.size-size.ensures.value c.copies-copies.ensures.value c.asked-asked.ensures
    c.in_ok-follow_size.ensures c.in_ok-eject.ensures.ok refl refl refl refl refl refl

pub returns-else-ejects-clause-turned : goal.returns-else-ejects-clause-turned
returns-else-ejects-clause-turned g c = λ s i.
    turned_stays _ _ _ _ c.in-Ok.effect s c.args.self.now _ _ _ i c.in-Ok.ensures (sym c.ejects.ensures ∙ c.if-ejects.false)
    c.args.self.now.few_pages refl refl refl refl refl refl refl refl
