use Rattle.std.proofs.Common.{List, ◌+◌, ap, sym, subst, ◌∙◌}
use Rattle.pcl_page.specs.declared.asks.Exit.{Exit}
use Rattle.pcl_shrink.proofs.Asked.{WritesExits, writes_there, writes_elsewhere}
use Rattle.pcl_shrink.proofs.asking.append_exits.Goals as goal
use Rattle.pcl_shrink.proofs.asking.append_exits.Goals.{then-exit-pages+in_ok-append_exit, else-exit-pages}

pub loop-exit-preserved : goal.loop-exit-preserved
loop-exit-preserved c =
    let number = c.args.pages in
    let lent = c.deref-exit-items.ensures.value in
    let i = c.loop-exit.exit-index in
    let old = c.args.out.now.items in
    let mid = c.loop-exit.out.items in
    let so_far = subst (λ (exits : List Exit). WritesExits number exits i old mid c.loop-exit.found) (sym lent) c.loop-exit.invariant in
    subst (λ (exits : List Exit). WritesExits number exits (i + 1) old c.if-exit-pages.out.items c.if-exit-pages.found) lent
    (elim c.if-exit-pages.branch [
      | then-exit-pages+in_ok-append_exit w ↦
          writes_there number _ _ old mid c.loop-exit.found c.loop-exit-test.true w.if-exit-pages.true so_far
          (ap (λ out. out.items) w.out-is ∙ w.in_ok-append_exit.ensures) w.found-is
      | else-exit-pages w ↦
          writes_elsewhere number _ _ old mid c.loop-exit.found c.loop-exit-test.true w.if-exit-pages.false so_far
          (ap (λ out. out.items) w.out-is) w.found-is
    ])
