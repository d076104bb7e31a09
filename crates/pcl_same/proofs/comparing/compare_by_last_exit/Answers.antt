use Rattle.std.proofs.Common.{◌≡◌, length, ap, ◌∙◌, arith}
use Rattle.pcl_same.proofs.Names.{accepted_pages, has_pages, Compared}
use Rattle.pcl_same.proofs.Answered.{beside_kept}
use Rattle.pcl_same.proofs.Beside.{found_all}
use Rattle.pcl_same.proofs.comparing.compare_by_last_exit.Goals as goal

pub returns : goal.returns
returns c = λ first kept.
    let h = c.in_ok-asks.ensures.0 in
    let count : c.len.result ≡ length c.args.kept.now.pages.items = omega (arith, c.len.ensures) in
    let all = found_all c.args.dpi (accepted_pages h) c.perform_asked.new.sink c.deref.ensures.value c.new.ensures.items h.handed.1 in
    beside_kept (c.one_meaning.ensures.pages c.args.profile) kept (has_pages h) c.in_ok-asks.ensures.1 c.pages_difference-pages.result
    c.perform_asked.new.sink.found all
    (rw (count, c.deref-2.ensures.value ∙ ap (λ (s : Compared). s.found) c.comparer.view_is) at c.pages_difference-pages.ensures)
    c.conclude.result c.conclude.ensures.pages c.conclude.ensures.asks
