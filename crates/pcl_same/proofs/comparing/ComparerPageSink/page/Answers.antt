use Rattle.std.proofs.Common.{◌≡◌, length, drop, refl, arith}
use Rattle.pcl_same.proofs.Names.{drop_all, drop-cons, IsFoundNext}
use Rattle.pcl_same.proofs.comparing.ComparerPageSink.page.Goals.{in-Some, in-None}
use Rattle.pcl_same.proofs.comparing.ComparerPageSink.page.Goals as goal

pub returns-clause-taken : goal.returns-clause-taken
returns-clause-taken c =
    let kept = c.self.inside.kept.now in
    let count : c.len.result ≡ length c.self.inside.found.items = omega (arith, c.len.ensures) in
    let next : IsFoundNext (drop c.len.result kept) c.args.page.now c.match-get.difference = elim c.match-get.branch [
      | in-Some w ↦
          rw (w.difference-is, drop-cons kept c.len.result w.in-Some.kept.now w.in-Some.ensures.lookup.3.0, ← w.in-Some.ensures.lookup.1)
          w.difference-difference.ensures
      | in-None w ↦ rw (drop_all c.len.result kept w.in-None.ensures.lookup.3) tt
    ] in
    rw (← c.self.view_is) (record {
      kept = refl;
      next = c.match-get.difference;
      found = c.in_ok-push.ensures.items;
      is = rw (← count) next;
    })
