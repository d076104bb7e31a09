use Rattle.std.proofs.Common.{◌≡◌, ◌+◌, ◌≤◌, ℕ, min, subst, arith}
use Rattle.pcl_coders.proofs.Names.{nat_tests, slice_index, IsLiteralLen, NoLiteral, Packed}
use Rattle.pcl_coders.proofs.Choices.{plain_choice}
use Rattle.pcl_coders.proofs.Along.{along_run, along_start, along_replacement, along_literal, along_repeat, no_literal_repeat}
use Rattle.pcl_coders.proofs.Places.{packed_shorten, falls, literal_bounds}
use Rattle.pcl_coders.proofs.choice.Choice.along.Goals as goal

pub literal_len-requires-clause-falls : goal.literal_len-requires-clause-falls
literal_len-requires-clause-falls c i j order within =
    let right = rw c.in-Packed.is at c.requires.right in
    falls Packed c.args.old.now c.args.wanted.now c.args.numbers.now 0 i j packed_shorten c.requires.same right (omega arith) order
    (omega (arith, c.min.ensures))

pub literal_len-requires-clause-least : goal.literal_len-requires-clause-least
literal_len-requires-clause-least c k some within =
    let right = rw c.in-Packed.is at c.requires.right in
    let at : 0 + k ≡ k = omega arith in
    rw at at (literal_bounds 0 k (right 0 (omega arith) (omega arith)) some (omega (arith, c.min.ensures)) (omega (arith, c.min.ensures)))

pub returns-then-not-is_repeat : goal.returns-then-not-is_repeat
returns-then-not-is_repeat c =
    let is = subst (λ (most : ℕ). IsLiteralLen c.args.numbers.now most c.in-Some.len) c.min.ensures c.in-Some.ensures in
    rw (c.in-Packed.is, c.from-sum-in-Packed.ensures) (along_literal (rw c.in-Packed.is at c.requires.right) is)

pub returns-else-run-len : goal.returns-else-run-len
returns-else-run-len c =
    let sum-is : (2 ≤ c.min-run.result) × (slice_index c.args.numbers.now c.min-run.result + 2 ≡ slice_index c.args.numbers.now 0) =
    grind (arith, nat_tests, c.if-run-ge2.branch) in
    rw (c.in-Packed.is, c.from-sum-in-Packed.ensures)
    (along_repeat (rw c.in-Packed.is at c.requires.right) c.run_end-in-Packed.ensures c.min-run.ensures sum-is.0 sum-is.1)

pub returns-in_default : goal.returns-in_default
returns-in_default c =
    let none = subst (λ (most : ℕ). NoLiteral c.args.numbers.now most) c.min.ensures c.in_default.ensures in
    rw (c.in-Packed.is, c.from-sum-in-Packed.ensures)
    (no_literal_repeat c.args.old.now c.args.wanted.now c.args.numbers.now c.min-run.result c.run_end-in-Packed.result c.requires.same
    c.requires.place.some (rw c.in-Packed.is at c.requires.right) c.requires.needed c.run_end-in-Packed.ensures c.min-run.ensures none)

pub returns-in-Plain : goal.returns-in-Plain
returns-in-Plain c = rw (c.in-Plain.is, c.from.ensures) (plain_choice c.requires.place.some)

pub returns-in-Runs : goal.returns-in-Runs
returns-in-Runs c =
    rw (c.in-Runs.is, c.from-sum.ensures) (along_run c.requires.same (rw c.in-Runs.is at c.requires.right)
    c.run_end.ensures c.min-len.ensures)

pub after-requires-clause-inside : goal.after-requires-clause-inside
after-requires-clause-inside c =
    along_start c.requires.same (rw c.in-Delta.is at c.requires.right) c.requires.needed c.first_difference-start.ensures

pub returns-in-Delta : goal.returns-in-Delta
returns-in-Delta c =
    rw c.in-Delta.is (along_replacement c.requires.same c.requires.place.size (rw c.in-Delta.is at c.requires.right) c.requires.needed
    c.first_difference-start.ensures c.after.ensures)
