use Rattle.std.proofs.Common.{ap, ◌∙◌, ◌++◌, List, ℕ}
use Rattle.pcl_shrink.proofs.Names.{asks_of, Text, as_said}
use Rattle.pcl_shrink.proofs.Asked.{appended_page}
use Rattle.pcl_shrink.proofs.raster_jobs.asked_job.Goals as goal

pub loop-number-preserved : goal.loop-number-preserved
loop-number-preserved c =
    let asks = asks_of c.args.asks.now in
    let text = c.index-texts-number.result in
    let lent = c.deref.ensures.value ∙ ap (λ (t : Text). t.least.items) c.index-texts-number.is in
    appended_page asks c.args.texts.now text c.loop-number-test.true c.loop-number.invariant
    c.in_ok-append_page_start.ensures.text
    (c.in_ok-append_page_text.ensures ∙ ap (λ (bytes : List ℕ). c.append_page_start.new.out.items ++ as_said asks c.loop-number.number bytes) lent)
