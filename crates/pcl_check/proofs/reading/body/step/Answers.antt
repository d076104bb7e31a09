use Rattle.pcl_check.proofs.Names.{Some, None, rules, [], length, refl, ap, arith, length-append, strip_prefix_is, Decides-eqb}
use Rattle.pcl_check.proofs.Moves.{no_byte, no_letter}
use Rattle.pcl_check.proofs.Outside.{opening_bytes, opening_becomes, no_opening}
use Rattle.pcl_check.proofs.Steps.{told}
use Rattle.pcl_check.proofs.reading.body.step.Goals as goal

pub returns-in_err-text : goal.returns-in_err-text
returns-in_err-text c =
    let none = strip_prefix_is Decides-eqb c.args.place.text.now opening_bytes None c.in_err-text.ensures.cases in
    rw c.from_residual.ensures (λ rows printed. no_opening c.if-not-place.true none (c.requires.goes_on c.if-not-place.true) printed)

pub returns-then-not-place : goal.returns-then-not-place
returns-then-not-place c =
    let opened = strip_prefix_is Decides-eqb c.args.place.text.now opening_bytes (Some c.in_ok-text.text) c.in_ok-text.ensures.cases in (
      record {
        given = [];
        becomes = opening_becomes c.if-not-place.true opened;
        row_is = omega arith;
        within = c.requires.row;
        same = (λ yes. (yes, refl), λ h. h.0);
      },
      omega (arith, ap length opened, length-append opening_bytes c.in_ok-text.text.now),
    )

pub returns-in_err-parameter : goal.returns-in_err-parameter
returns-in_err-parameter c =
    rw c.from_residual-in_err-parameter.ensures (λ rows printed. no_byte c.if-not-place.false c.in_err-parameter.ensures printed)

pub returns-in_default : goal.returns-in_default
returns-in_default c = λ rows printed.
    no_letter (told c.args.comparison.bitmap.now c.args.comparison.size c.args.above.now c.args.place _ c.if-not-place.false
    c.in_ok-parameter.ensures) (search rules) (search rules) (search rules) (search rules) (search rules) printed
