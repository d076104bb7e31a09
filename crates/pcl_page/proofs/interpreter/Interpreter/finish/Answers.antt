use Rattle.std.proofs.Common.{sym, ◌∙◌}
use Rattle.pcl_page.proofs.Interpreted.{ends_outside}
use Rattle.pcl_page.proofs.interpreter.Interpreter.finish.Goals as goal

pub returns : goal.returns
returns g c = λ dpi s at.
    ends_outside g.S.PageSink.takes dpi c.args.end s c.args.self.now c.finish.new.self c.finish.result c.args.sink.now c.finish.new.sink at
    (sym c.is_begun.ensures ∙ c.if-is_begun.false) (c.finish.ensures dpi s at.is_in
    (c.has_permanent-is_macro_permanent.ensures s.macros at.macros))
