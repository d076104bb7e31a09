use Rattle.std.proofs.Common.{◌≡◌, ◌/◌, ℕ, List, [], length, sym, ap, ◌∙◌, arith, refl}
use Rattle.pcl_cert.proofs.Names.{eqb-true, eq-eqb, nil_from_length, list_of, contents}
use Rattle.pcl_cert.specs.RowTables.{numbers_from}
use Rattle.pcl_cert.proofs.Numbers.{length_numbers}
use Rattle.pcl_cert.proofs.Written.{list_kept}
use Rattle.pcl_cert.proofs.tables.RowTables.is_empty.Goals as goal

no_numbers : (bytes : List ℕ) → bytes ≡ [] → numbers_from (length bytes / 2) bytes ≡ []
unfolding numbers_from
no_numbers bytes none = rw none refl

pub returns : goal.returns
returns c =
    let numbers = c.numbers_at.result.now in
    let list = list_kept (contents c.self.inside.bytes) c.self.inside.starts.items c.args.row c.args.method
    (sym c.self.view_is) c.requires c.code.ensures c.index.ensures in
    let same : list_of c.args.self.now c.args.row c.args.method ≡ numbers_from (length numbers / 2) numbers =
    rw (list, ← c.as_slice.ensures, ← c.numbers_at.ensures.numbers) refl in (
      λ said. same ∙ no_numbers numbers (nil_from_length numbers (eqb-true (length numbers) 0 (sym c.is_empty.ensures ∙ said))),
      λ none. c.is_empty.ensures ∙ eq-eqb (length numbers) 0
          (omega (arith, c.numbers_at.ensures.size, length_numbers (length numbers / 2) numbers, ap length (sym same ∙ none))),
    )
