use Rattle.std.proofs.Common.{◌≡◌, ◌+◌, ◌-◌, length, take, drop, sym, arith}
use Rattle.pcl_rows.proofs.Names.{length-take, length-drop, drop-drop}
use Rattle.pcl_rows.proofs.Overlays.{overlaid_copies}
use Rattle.pcl_rows.proofs.decoding.put_copies.Goals as goal

pub returns-clause-row : goal.returns-clause-row
returns-clause-row c =
    let row = c.args.row.now in
    let n = c.min.result in
    let size : length (take (c.args.place + n - c.args.place) (drop c.args.place row)) ≡ n =
    omega (arith, length-take (c.args.place + n - c.args.place) (drop c.args.place row), length-drop c.args.place row) in
    let filled = rw size at (c.fill.ensures.after (λ y e. e)) in
    let part : c.args.place + n - c.args.place ≡ n = omega arith in
    rw (filled, part, drop-drop n c.args.place row) (sym (overlaid_copies row c.args.copies c.args.byte c.requires c.min.ensures))
