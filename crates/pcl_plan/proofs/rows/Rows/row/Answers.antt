use Rattle.std.proofs.Common.{◌≡◌, ◌+◌, ◌-◌, ◌*◌, ℕ, take, drop, sym, ap, ◌∙◌, arith}
use Rattle.pcl_plan.proofs.Names.{row_of_bytes}
use Rattle.pcl_plan.proofs.rows.Rows.row.Goals as goal

pub returns-clause-row : goal.returns-clause-row
returns-clause-row c =
    let rows = c.args.self.now in
    let start : ℕ = c.args.y * rows.width in
    let len : start + rows.width - start ≡ rows.width = omega arith in
    ap (λ (n : ℕ). take n (drop start rows.bytes.now)) len ∙ sym (row_of_bytes c.args.y rows.count rows.width rows.bytes.now c.requires)
