use Rattle.pcl_page.proofs.Names.{refl, arith, TooManyPages}
use Rattle.pcl_page.proofs.Steps.{end_marked, end_unmarked, end_past}
use Rattle.pcl_page.proofs.performer.Performer.finish.Goals as goal

pub returns-then-self-ge-PAGE_LIMIT : goal.returns-then-self-ge-PAGE_LIMIT
returns-then-self-ge-PAGE_LIMIT g c = λ dpi s i m.
    (TooManyPages, end_past i c.if-self.true (omega (arith, c.if-self-ge-PAGE_LIMIT.true)), c.new.ensures, refl)

pub returns-then-self : goal.returns-then-self
returns-then-self g c = λ dpi s i m.
    let ejected = c.in_ok-eject.ensures.ok.0 in
    end_marked _ dpi s _ _ c.args.self.now c.eject.new.self c.end_asks.new.self _ _ i c.if-self.true
    (omega (arith, c.if-self-ge-PAGE_LIMIT.false)) c.copies-copies.ensures.value c.asked-asked.ensures ejected
    c.in_ok-eject.ensures.ok.1 (rw m at (c.end_asks.ensures s.fonts (rw ejected.fonts i.fonts)))

pub returns : goal.returns
returns g c = λ dpi s i m.
    end_unmarked _ dpi s c.args.self.now c.end_asks-2.new.self _ _ i c.if-self.false c.args.self.now.few_pages refl
    (rw m at (c.end_asks-2.ensures s.fonts i.fonts))
