use Rattle.std.proofs.Common.{◌≡◌, ◌<◌, ◌∷◌, ◌+◌, List, ℕ, length, drop, get_or, refl, subst, arith, add-one, drop-cons}
use Rattle.std.proofs.lemmas.List.{drop_all}
use Rattle.pcl_page.proofs.Names.{Situation, IsIn, blanks_passed}
use Rattle.pcl_page.proofs.Printed.{blank_done}
use Rattle.pcl_page.proofs.performer.Performer.pass_blanks.Goals as goal

-- the next code and those after it
next_is : (codes : List ℕ) {i : ℕ} (default : ℕ) → i < length codes → drop i codes ≡ get_or codes i default ∷ drop (i + 1) codes
next_is codes {i} default lt = rw (add-one, drop-cons codes i default) refl

pub loop-code-preserved : goal.loop-code-preserved
loop-code-preserved g c = λ dpi s i.
    let next = next_is c.args.codes.now 0 c.loop-code-test.true in
    blank_done (get_or c.args.codes.now c.loop-code.code-index 0) (rw next at (c.loop-code.invariant dpi s i)) c.pass_blank.ensures

pub returns : goal.returns
returns g c = λ dpi s i.
    let p = c.loop-code.invariant dpi s i in
    let none = drop_all c.loop-code.code-index c.args.codes.now (omega (arith, c.loop-code-test.false)) in
    let done : p.now ≡ blanks_passed c.args.codes.now s = rw none at p.left in
    subst (λ (t : Situation). IsIn dpi t c.loop-code.self) done p.is_in
