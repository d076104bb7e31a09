use Rattle.std.proofs.Common.{ap, ◌++◌, ◌∙◌, List, ℕ, arith}
use Rattle.pcl_shrink.proofs.Names.{asks_of, Text, as_said, page_start}
use Rattle.pcl_shrink.proofs.Asked.{counted_page}
use Rattle.pcl_shrink.proofs.raster_jobs.asked_len.Goals as goal

pub loop-number-preserved : goal.loop-number-preserved
loop-number-preserved c =
    let asks = asks_of c.args.asks.now in
    let begun = c.in_ok-append_page_start.ensures.text
    ∙ ap (λ (bytes : List ℕ). bytes ++ page_start asks c.loop-number.number) c.clear.ensures.items in
    let lent = c.deref.ensures.value ∙ ap (λ (t : Text). t.least.items) c.index-texts-number.is in
    let written = c.in_ok-append_page_text.ensures
    ∙ ap (λ (bytes : List ℕ). c.append_page_start.new.out.items ++ as_said asks c.loop-number.number bytes) lent in
    counted_page asks c.args.texts.now c.index-texts-number.result c.loop-number.len c.saturating_add-len.result c.loop-number-test.true
    c.loop-number.invariant begun written (omega (arith, c.len.ensures, c.saturating_add-len.ensures))
