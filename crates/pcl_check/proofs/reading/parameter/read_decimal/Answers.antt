use Rattle.std.proofs.Common.{◌≡◌, ◌∙◌, true, arith}
use Rattle.pcl_check.proofs.Names.{slice_eq-Decides, Decides-eqb, decimal, is_digit}
use Rattle.pcl_check.proofs.Decimals.{decimal_found}
use Rattle.pcl_check.proofs.Splits.{no_split}
use Rattle.pcl_check.proofs.reading.parameter.read_decimal.Goals as goal

pub returns-in_err-parameter : goal.returns-in_err-parameter
returns-in_err-parameter c =
    rw c.from_residual.ensures (λ n rest le e. no_split is_digit _ (decimal n) rest c.in_err-parameter.ensures c.requires e)

pub returns-else-is_shortest : goal.returns-else-is_shortest
returns-else-is_shortest c = λ n rest le e.
    let found = decimal_found rest c.in_ok-parameter.ensures c.requires le e in
    let equal : c.eq-is_shortest.result ≡ true =
    (slice_eq-Decides Decides-eqb c.as_bytes.result.now c.in_ok-parameter.parameter.digits.now c.eq-is_shortest.result
    c.eq-is_shortest.ensures).1 (c.as_bytes.ensures.value ∙ c.format.ensures.text ∙ found.digits) in
    grind (arith, c.else-is_shortest.branch, found.letter)
