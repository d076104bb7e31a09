use Rattle.std.proofs.Common.{◌≡◌, arith, rules}
use Rattle.pcl_coders.proofs.Names.{take_rest, slice_index, element_bytes, flat_map, front_stays}
use Rattle.pcl_coders.proofs.Along.{right_from_drop}
use Rattle.pcl_coders.proofs.Filling.{appended_more, appended_all}
use Rattle.pcl_coders.proofs.table.append_steps.Goals as goal

pub returns-in_err-append-clause-err : goal.returns-in_err-append-clause-err
returns-in_err-append-clause-err c =
    let a = c.loop-place.invariant in
    search (rules, front_stays c.append.new.out.items (flat_map element_bytes a.done) a.joined c.in_err-append.ensures.err)

pub along-choice-requires-clause-right : goal.along-choice-requires-clause-right
along-choice-requires-clause-right c = simp take_rest (right_from_drop c.loop-place.invariant.within c.requires.right)

pub loop-place-preserved : goal.loop-place-preserved
loop-place-preserved c =
    appended_more c.requires.same c.requires.right c.loop-place-test.true c.loop-place.invariant (simp take_rest at c.along-choice.ensures)
    (simp take_rest at c.in_ok-append.ensures.ok) (omega (arith, c.stop-place.ensures))

pub returns-clause-ok : goal.returns-clause-ok
returns-clause-ok c =
    let none : slice_index c.args.numbers.now c.loop-place.place ≡ 0 = omega arith in
    appended_all c.requires.right none c.loop-place.invariant
