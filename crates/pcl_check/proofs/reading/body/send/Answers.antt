use Rattle.std.proofs.Common.{◌∷◌, [], length, refl, sym, ap, ◌∙◌, arith}
use Rattle.pcl_check.proofs.Names.{length-append, same_fronts}
use Rattle.pcl_check.proofs.Moves.{no_send, send_becomes}
use Rattle.pcl_check.proofs.Steps.{told, shorter, becomes_to}
use Rattle.pcl_check.proofs.reading.body.send.Goals as goal
use Rattle.pcl_check.proofs.reading.body.send.Goals.{then-place-height-via-then-place-height, then-place-height-via-else-place-height+then-not-paint}

pub returns-in_err-bytes : goal.returns-in_err-bytes
returns-in_err-bytes c =
    rw c.from_residual.ensures
    (λ rows printed.
    no_send (told c.args.comparison.bitmap.now c.args.comparison.size c.args.above.now c.args.place _ c.requires.inside
    c.requires.parameter) c.requires.letter
    (λ bytes more first n parts some row row_data.
    omega (arith, c.in_err-bytes.ensures, c.requires.parameter.number_is, n, ap length parts, length-append bytes more, row_data.fits))
    printed)

pub returns-then-place-height : goal.returns-then-place-height
returns-then-place-height c = λ rows printed.
    no_send (told c.args.comparison.bitmap.now c.args.comparison.size c.args.above.now c.args.place _ c.requires.inside
    c.requires.parameter) c.requires.letter
    (λ sent after first m joined some row row_data.
    let parts = c.in_ok-bytes.ensures in
    let same = same_fronts sent c.in_ok-bytes.bytes.now (omega (arith, c.requires.parameter.number_is, m, parts.0, parts.1))
    (sym joined ∙ parts.2) in
    elim c.then-place-height.branch [
      | then-place-height-via-then-place-height w ↦ omega (arith, c.height.ensures, w.if-place-height.true, some)
      | then-place-height-via-else-place-height+then-not-paint w ↦ w.if-not-paint.ensures first row (rw same.0 at row_data)
    ])
    printed

pub returns : goal.returns
returns c =
    let is = c.requires.parameter in
    let parts = c.in_ok-bytes.ensures in
    let row = c.if-not-paint.ensures in (
      record {
        given = c.paint.new.above ∷ [];
        becomes = becomes_to refl refl (omega arith)
            (send_becomes (told c.args.comparison.bitmap.now c.args.comparison.size c.args.above.now c.args.place _ c.requires.inside is)
            c.requires.letter (omega (arith, is.number_is, parts.0, parts.1)) parts.2
            (omega (arith, c.height.ensures, c.if-place-height.false)) row.0 row.1);
        row_is = refl;
        within = omega (arith, c.height.ensures, c.if-place-height.false);
        same = grind (arith, c.if-place.branch);
      },
      let size = length-append c.in_ok-bytes.bytes.now c.in_ok-bytes.rest.now in
          omega (arith, shorter c.args.place.text.now c.args.parameter is, ap length parts.2),
    )
