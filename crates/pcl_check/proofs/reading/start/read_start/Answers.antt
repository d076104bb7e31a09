use Rattle.pcl_check.proofs.Names.{Some, None, sym, arith, strip_prefix_is, Decides-eqb}
use Rattle.pcl_check.proofs.Beginnings.{no_copies, no_code, first_bytes, no_size, no_raster, size_read, begun, copies_of, size_of}
use Rattle.pcl_check.proofs.reading.start.read_start.Goals as goal

pub returns-in_err-copies : goal.returns-in_err-copies
returns-in_err-copies c =
    let front = strip_prefix_is Decides-eqb _ first_bytes (Some c.in_ok-strip_prefix.field-0) c.in_ok-strip_prefix.ensures.cases in
    rw c.from_residual-in_err-copies.ensures
    (λ copies size rest some few e. no_copies (record { few = few; text_is = e }) front c.in_err-copies.ensures)

pub returns-in_err-code : goal.returns-in_err-code
returns-in_err-code c =
    let front = strip_prefix_is Decides-eqb _ first_bytes (Some c.in_ok-strip_prefix.field-0) c.in_ok-strip_prefix.ensures.cases in
    let read = copies_of front c.in_ok-copies.ensures in
    rw c.from_residual-in_err-code.ensures
    (λ copies size rest some few e. no_code (record { few = few; text_is = e }) read c.in_err-code.ensures)

pub returns-in_err-size : goal.returns-in_err-size
returns-in_err-size c =
    let front = strip_prefix_is Decides-eqb _ first_bytes (Some c.in_ok-strip_prefix.field-0) c.in_ok-strip_prefix.ensures.cases in
    let read = size_of front c.in_ok-copies.ensures c.in_ok-code.ensures in
    rw c.from_residual-in_err-size.ensures
    (λ copies size rest some few e. no_size (record { few = few; text_is = e }) read (sym c.in_err-size.ensures))

pub returns-in_err-rest : goal.returns-in_err-rest
returns-in_err-rest c =
    let front = strip_prefix_is Decides-eqb _ first_bytes (Some c.in_ok-strip_prefix.field-0) c.in_ok-strip_prefix.ensures.cases in
    let read = size_of front c.in_ok-copies.ensures c.in_ok-code.ensures in
    let none = strip_prefix_is Decides-eqb c.in_ok-code.rest.now c.raster_start.result.now None c.in_err-rest.ensures.cases in
    rw c.from_residual-in_err-rest.ensures
    (λ copies size rest some few e. no_raster (record { few = few; text_is = e }) read (sym c.in_ok-size.ensures)
    (λ after is. none after (rw c.raster_start.ensures is)))

pub returns-then-copies-eq0 : goal.returns-then-copies-eq0
returns-then-copies-eq0 c = λ copies size rest some few e.
    let front = strip_prefix_is Decides-eqb _ first_bytes (Some c.in_ok-strip_prefix.field-0) c.in_ok-strip_prefix.ensures.cases in
    let found = size_read (record { few = few; text_is = e }) (size_of front c.in_ok-copies.ensures c.in_ok-code.ensures) in
    grind (arith, found.0, c.then-copies-eq0.branch)

pub returns : goal.returns
returns c =
    let front = strip_prefix_is Decides-eqb _ first_bytes (Some c.in_ok-strip_prefix.field-0) c.in_ok-strip_prefix.ensures.cases in
    let raster = strip_prefix_is Decides-eqb _ c.raster_start.result.now (Some c.in_ok-rest.rest) c.in_ok-rest.ensures.cases in (
      omega arith,
      omega arith,
      begun c.args.dpi c.args.text.now c.in_ok-copies.copies c.in_ok-code.code c.in_ok-code.rest.now c.in_ok-size.size c.in_ok-rest.rest.now
          (size_of front c.in_ok-copies.ensures c.in_ok-code.ensures) (sym c.in_ok-size.ensures) (rw c.raster_start.ensures at raster),
    )
