use Rattle.std.proofs.Common.{rules, refl, sym, append-nil, []}
use Rattle.pcl_preview.proofs.Names.{err_from_is_err_and}
use Rattle.pcl_preview.specs.inner.Streaming.{streaming}
use Rattle.pcl_preview.proofs.Streamings.{HasOneMeaning, all_flushed, all_taken, all_unflushed, begun, front_streamed, has_stopped}
use Rattle.pcl_preview.proofs.streamed_images.write_pages.Goals as goal

pub returns-in_err-perform_by : goal.returns-in_err-perform_by
returns-in_err-perform_by g c =
    let p = err_from_is_err_and c.from_residual.result c.from_residual.ensures.1 in
    let one : HasOneMeaning c.args.profile c.args.dpi c.args.job.now =
    (c.one_meaning.ensures.pages c.args.profile c.args.dpi _, c.one_meaning.ensures.apart c.args.profile c.args.dpi _) in
    let stopped = has_stopped (streaming g.W.Write.contents) c.requires.sheets c.in_err-perform_by.field-0.0 _ c.perform_by.new.sink one
    c.requires.meaning c.in_err-perform_by.ensures in
    let left = begun c.args.choice _ _ c.is_all.ensures c.listed.ensures in
    let name = stopped.streamed.name in
    rw (p.1, p.2, stopped.memory) (front_streamed c.args.choice stopped.front stopped.rest _ _ _ c.requires stopped.all stopped.streamed
    left refl (search rules))

pub returns-then-streamed : goal.returns-then-streamed
returns-then-streamed g c =
    let one : HasOneMeaning c.args.profile c.args.dpi c.args.job.now =
    (c.one_meaning.ensures.pages c.args.profile c.args.dpi _, c.one_meaning.ensures.apart c.args.profile c.args.dpi _) in
    let taken = all_taken (streaming g.W.Write.contents) one c.requires c.in_ok-perform_by.ensures in
    let left = begun c.args.choice _ _ c.is_all.ensures c.listed.ensures in
    let name = taken.name in
    front_streamed c.args.choice c.requires.sheets [] _ _ _ c.requires (sym (append-nil c.requires.sheets)) taken left refl
    (search rules)

pub returns-in-Ok : goal.returns-in-Ok
returns-in-Ok g c =
    let one : HasOneMeaning c.args.profile c.args.dpi c.args.job.now =
    (c.one_meaning.ensures.pages c.args.profile c.args.dpi _, c.one_meaning.ensures.apart c.args.profile c.args.dpi _) in
    let taken = all_taken (streaming g.W.Write.contents) one c.requires c.in_ok-perform_by.ensures in
    let left = begun c.args.choice _ _ c.is_all.ensures c.listed.ensures in
    let name = taken.name in
    all_flushed c.args.choice _ _ _ _ c.requires taken left refl c.if-streamed.false c.in-Ok.ensures.bytes (search rules)

pub returns-in-Err : goal.returns-in-Err
returns-in-Err g c =
    let one : HasOneMeaning c.args.profile c.args.dpi c.args.job.now =
    (c.one_meaning.ensures.pages c.args.profile c.args.dpi _, c.one_meaning.ensures.apart c.args.profile c.args.dpi _) in
    let taken = all_taken (streaming g.W.Write.contents) one c.requires c.in_ok-perform_by.ensures in
    let left = begun c.args.choice _ _ c.is_all.ensures c.listed.ensures in
    let name = taken.name in
    all_unflushed c.args.choice _ _ _ _ c.requires taken left refl c.if-streamed.false c.in-Err.ensures.bytes (search rules)
