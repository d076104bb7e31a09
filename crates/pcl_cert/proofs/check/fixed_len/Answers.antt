use Rattle.std.proofs.Common.{ap, ◌∙◌, arith}
use Rattle.pcl_cert.proofs.Names.{code_of, digit_count, count_of_some}
use Rattle.pcl_cert.proofs.FixedParts.{fixed_length}
use Rattle.pcl_cert.proofs.check.fixed_len.Goals as goal

pub returns : goal.returns
returns c =
    let page = c.args.page.now in
    let copies = c.digits.ensures.count ∙ ap digit_count c.from.ensures ∙ count_of_some page.copies page.copies_in_range.0 in
    let code = c.digits-2.ensures.count ∙ ap digit_count c.code.ensures ∙ count_of_some (code_of page.size) (grind arith) in
    omega (arith, fixed_length page.dpi page.size page.copies, copies, code)
