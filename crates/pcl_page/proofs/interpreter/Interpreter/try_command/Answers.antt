use Rattle.std.proofs.Common.{◌≡◌, ◌∙◌, true, sym}
use Rattle.pcl_page.proofs.Names.{operation_of, is_begun, Ends, keeping_of}
use Rattle.pcl_page.proofs.Defining.{stepped_kept, stepped_ending}
use Rattle.pcl_page.proofs.interpreter.Interpreter.try_command.Goals as goal

pub returns-in-Kept : goal.returns-in-Kept
returns-in-Kept g c = λ s at.
    let begun : is_begun c.args.self.now.macros ≡ true = sym c.is_begun.ensures ∙ c.if-not-is_begun.false in
    stepped_kept _ _ _ _ s _ _ at begun (sym c.keeping_of.ensures ∙ c.in-Kept.is)

pub returns-in-Ends : goal.returns-in-Ends
returns-in-Ends g c = λ s at.
    let begun : is_begun c.args.self.now.macros ≡ true = cc in
    let ends : keeping_of (operation_of c.args.command.now.name) c.args.command.now.value ≡ Ends = cc in
    stepped_ending _ _ _ _ s _ _ _ _ _ at begun ends (c.try_counted-in-Ends.ensures s at)
