use Rattle.std.proofs.Common.{◌+◌, [], sym, arith}
use Rattle.pcl_writer.proofs.Names.{slice_index_or, flat_map, token_bytes, drop_of_length-le, append-nil, drop_more, joined_front, page_height, Skip, length_rows, width_of, height_small}
use Rattle.pcl_writer.proofs.Bodies.{begin, writable, written_more, written_all, ends_at}
use Rattle.pcl_writer.proofs.body.append_body.Goals as goal

pub loop-i-init : goal.loop-i-init
loop-i-init c =
    let old = c.args.out.now.items in
    record {
      front = joined_front [] (sym (append-nil old));
      written = rw (c.steps-steps.ensures, c.start-node.ensures) (begin old c.requires);
    }

pub append_step-requires : goal.append_step-requires
append_step-requires c =
    let steps = c.steps-steps.result.now in
    let i = c.loop-i.i in
    writable (slice_index_or steps i (Skip 0)) c.requires (rw (drop_more steps i (Skip 0) c.loop-i-test.true) at c.loop-i.invariant.written)

pub after-node-requires : goal.after-node-requires
after-node-requires c =
    let picture = c.args.bitmap.now in
    omega (
      arith,
      c.loop-i.invariant.written.within,
      length_rows (page_height picture.size picture.dpi) (width_of picture) picture.bytes,
      height_small picture.size picture.dpi,
    )

pub loop-i-preserved : goal.loop-i-preserved
loop-i-preserved c =
    let steps = c.steps-steps.result.now in
    let i = c.loop-i.i in
    let ends = ends_at steps {k = i + 1} (omega (arith, c.loop-i-test.true)) in
    let before = rw (drop_more steps i (Skip 0) c.loop-i-test.true) at c.loop-i.invariant.written in
    let appends = rw (← ends) at c.in_ok-append_step.ensures.ok in
    let moves = rw (← ends) at c.after-node.ensures in
    let written = written_more c.requires before appends moves in
    record { front = joined_front (flat_map token_bytes written.done) written.spelled; written = written }

pub returns-clause-ok : goal.returns-clause-ok
returns-clause-ok c = written_all (rw (drop_of_length-le c.steps-steps.result.now c.loop-i-test.false) at c.loop-i.invariant.written)
