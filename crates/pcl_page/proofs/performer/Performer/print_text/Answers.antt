use Rattle.std.proofs.Common.{◌∙◌, true, false, sym}
use Rattle.pcl_page.proofs.Names.{font_now}
use Rattle.pcl_page.proofs.Printed.{without_font, with_its_font, printed_as}
use Rattle.pcl_page.proofs.performer.Performer.print_text.Goals as goal

pub returns-in-None : goal.returns-in-None
returns-in-None g c = λ s i.
    let none = sym c.in-None.is ∙ c.font_in_use.ensures c.args.dpi s i in (
      without_font c.args.codes.now (font_now s) true none (sym c.are_spaces.ensures ∙ c.if-are_spaces.true),
      printed_as c.args.codes.now s none (c.pass_blanks.ensures c.args.dpi s i),
    )

pub returns-in-None-2 : goal.returns-in-None-2
returns-in-None-2 g c = λ s i.
    without_font c.args.codes.now (font_now s) false (sym c.in-None-2.is ∙ c.font_in_use.ensures c.args.dpi s i)
    (sym c.are_spaces.ensures ∙ c.if-are_spaces.false)

pub returns-in_ok-print_codes-in-Some : goal.returns-in_ok-print_codes-in-Some
returns-in_ok-print_codes-in-Some g c = λ s i.
    let some = sym c.in-Some.is ∙ c.font_in_use.ensures c.args.dpi s i in
    (with_its_font c.args.codes.now (font_now s) some, printed_as c.args.codes.now s some (c.in_ok-print_codes-in-Some.ensures s i))
