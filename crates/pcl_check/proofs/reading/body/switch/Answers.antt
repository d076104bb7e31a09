use Rattle.std.proofs.Common.{◌≡◌, [], refl, sym, arith}
use Rattle.pcl_check.proofs.Names.{method_code, number_of, method_small}
use Rattle.pcl_check.proofs.Fronts.{front_at, is_method, is_skip, is_send}
use Rattle.pcl_check.proofs.Moves.{with_code, method_becomes}
use Rattle.pcl_check.proofs.Steps.{told, shorter, cased, of_code}
use Rattle.pcl_check.proofs.reading.body.switch.Goals as goal

pub returns-in_err-method : goal.returns-in_err-method
returns-in_err-method c = λ picture size above within.
    let signed = cased c.requires.letter in
    rw c.from_residual.ensures
    (λ rows printed. elim (front_at (told picture size above c.args.place _ c.requires.inside c.requires.parameter) printed) [
      | is_method next last b m p ↦
          let le = method_small next in
          let number : c.args.parameter.number ≡ method_code next = omega (arith, c.requires.parameter.number_is, m) in
          let coded = with_code next in cc (c.in_err-method.ensures)
      | is_skip last others b some few r p ↦ grind (arith, signed.1)
      | is_send bytes more first others b m r some f row row_data p ↦ grind (arith, signed.1)
    ])

pub returns : goal.returns
returns c = λ picture size above within.
    let signed = cased c.requires.letter in
    let le = method_small c.in_ok-method.method in
    let spelled : number_of c.args.parameter.digits.now ≡ method_code c.in_ok-method.method =
    omega (arith, c.requires.parameter.number_is, of_code c.args.parameter.number (sym c.in_ok-method.ensures)) in (
      record {
        given = [];
        becomes = rw signed.2 (method_becomes (told picture size above c.args.place _ c.requires.inside c.requires.parameter)
            signed.0 signed.1 spelled);
        row_is = omega arith;
        within = within;
        same = (λ yes. (yes, refl), λ h. h.0);
      },
      shorter c.args.place.text.now c.args.parameter c.requires.parameter,
    )
