use Rattle.std.proofs.Common.{◌≡◌, ℕ, List, length, replicate, sym, ap, subst, ◌∙◌, arith}
use Rattle.pcl_check.proofs.Names.{All, length-replicate, nat_tests, all_zeros, page_row_bytes, row_of}
use Rattle.pcl_check.proofs.ComparedRows.{first_row, past_rows, zeros_all}
use Rattle.pcl_check.proofs.reading.comparison.Comparison.has_white_row.Goals as goal

pub returns-then-y-page_height : goal.returns-then-y-page_height
returns-then-y-page_height c =
    (λ yes. absurd cc, λ e. let both = e ∙ (past_rows c.args.self.now.bitmap.now (omega (arith, c.page_height.ensures))) in absurd cc)

pub returns-then-row-row_bytes : goal.returns-then-row-row_bytes
returns-then-row-row_bytes c =
    let picture = c.args.self.now.bitmap.now in
    let width = page_row_bytes c.args.self.now.size picture.dpi in
    let first = first_row picture (omega (arith, c.page_height.ensures)) in
    let wide : length (row_of picture c.args.y) ≡ width =
    ap length (sym c.row.ensures.bytes) ∙ c.if-row-row_bytes.true ∙ c.row_bytes.ensures in (
      λ yes. let zeros = all_zeros (row_of picture c.args.y) (c.is_blank.ensures.bytes.0 yes) in cc,
      λ e.
          let same : replicate width 0 ≡ row_of picture c.args.y = (let both = e ∙ first in cc) in
          c.is_blank.ensures.bytes.1 (subst (λ (z : List ℕ). All {X = ℕ} (λ byte. byte ≡ 0) z) same (zeros_all width)),
    )

pub returns-else-row-row_bytes : goal.returns-else-row-row_bytes
returns-else-row-row_bytes c =
    let picture = c.args.self.now.bitmap.now in
    let width = page_row_bytes c.args.self.now.size picture.dpi in
    let first = first_row picture (omega (arith, c.page_height.ensures)) in (
      λ yes. absurd (grind (arith, nat_tests)),
      λ e.
          let same : replicate width 0 ≡ row_of picture c.args.y = (let both = e ∙ first in cc) in
          let wide = ap length same in
          absurd (c.if-row-row_bytes.false (ap length c.row.ensures.bytes ∙ sym wide ∙ length-replicate width 0 ∙ sym c.row_bytes.ensures)),
    )
