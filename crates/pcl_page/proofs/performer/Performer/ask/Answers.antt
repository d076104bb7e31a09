use Rattle.std.proofs.Common.{◌≡◌, Bool, inl, inr, refl, subst}
use Rattle.pcl_page.proofs.Names.{IsIn}
use Rattle.pcl_base.specs.Value.{signed_whole}
use Rattle.pcl_page.specs.Asks.{with_said_sides, with_separation}
use Rattle.pcl_page.specs.Situation.{with_lasting, asked_for, is_marked}
use Rattle.pcl_page.proofs.performer.Performer.ask.Goals as goal

pub returns-in-Sides : goal.returns-in-Sides
returns-in-Sides c = λ dpi s i.
    let said = c.say_sides.ensures dpi s i in
    let with_them = record s { asks = with_said_sides (signed_whole c.args.value) s.asks } in
    rw c.in-Sides.is
    (subst (λ (test : Bool). IsIn dpi (with_lasting test with_them) c.last_if.new.self) said.marked
    (c.last_if.ensures.situation dpi with_them said))

pub returns-in-MediaType : goal.returns-in-MediaType
returns-in-MediaType c = λ dpi s i.
    let same : asked_for c.args.what c.args.value s ≡ with_lasting (is_marked s) s =
    elim c.in-MediaType.is [ inl e ↦ rw e refl | inr e ↦ rw e refl ] in
    rw same
    (subst (λ (test : Bool). IsIn dpi (with_lasting test s) c.last_if-in-MediaType.new.self) i.marked
    (c.last_if-in-MediaType.ensures.situation dpi s i))

pub returns-in-JobSeparation : goal.returns-in-JobSeparation
returns-in-JobSeparation c = λ dpi s i.
    let apart = c.separate.ensures dpi s i in
    let separated = record s { asks = with_separation (signed_whole c.args.value) s.asks } in
    rw c.in-JobSeparation.is
    (subst (λ (test : Bool). IsIn dpi (with_lasting test separated) c.last_if-in-JobSeparation.new.self) apart.marked
    (c.last_if-in-JobSeparation.ensures.situation dpi separated apart))

pub returns-in-TextScale : goal.returns-in-TextScale
returns-in-TextScale c = λ dpi s i.
    let same : asked_for c.args.what c.args.value s ≡ with_lasting (is_marked s) s =
    elim c.in-TextScale.is [
      | inl e ↦ rw e refl
      | inr o ↦ elim o [
        | inl e ↦ rw e refl
        | inr o ↦ elim o [ inl e ↦ rw e refl | inr o ↦ elim o [ inl e ↦ rw e refl | inr e ↦ rw e refl ] ]
      ]
    ] in
    rw same
    (subst (λ (test : Bool). IsIn dpi (with_lasting test s) c.last_if-in-TextScale.new.self) i.marked
    (c.last_if-in-TextScale.ensures.situation dpi s i))
