use Rattle.std.proofs.Common.{◌≡◌, refl, sym, ap, ◌∙◌, inl, inr}
use Rattle.pcl_escape.proofs.Names.{digits_of, fraction_parts, greatest_parts, ten_thousandths, number_of}
use Rattle.pcl_escape.proofs.Values.{value_read, fraction_read}
use Rattle.pcl_escape.proofs.field.Field.value.Goals as goal
use Rattle.pcl_escape.proofs.field.Field.value.Goals.{in-Minus, in-Absent}

-- up to where the sign lets a value go
greatest_is : (c : goal.After-then_some) → c.match-self.greatest ≡ greatest_parts c.args.self.now.sign
greatest_is c = elim c.match-self.branch [
  | in-Minus w ↦ w.greatest-is ∙ sym (ap greatest_parts w.in-Minus.is)
  | in-Absent w ↦ w.greatest-is ∙ elim w.in-Absent.is [
    | inl absent ↦ sym (ap greatest_parts absent)
    | inr plus ↦ sym (ap greatest_parts plus)
  ]
]

pub returns : goal.returns
returns c =
    let field = c.args.self.now in
    let digits = c.ten_thousandths.ensures ∙ ap (λ (b : _). ten_thousandths b.now) c.unwrap_or-fraction.ensures
    ∙ fraction_read field.fraction _ refl in
    value_read field.sign (number_of field.whole.now) (fraction_parts (digits_of field.fraction))
    c.then_some.ensures c.number.ensures digits
    (greatest_is c)
