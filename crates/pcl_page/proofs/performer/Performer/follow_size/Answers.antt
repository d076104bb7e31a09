use denote.Enum.Bare.{sameb, same_true, true_same}
use Rattle.std.proofs.Common.{◌≡◌, ◌∙◌, Bool, not, true, false, refl, sym, ap, rules}
use Rattle.pcl_page.proofs.Names.{Size, Picture, the_type}
use Rattle.pcl_page.proofs.performer.Performer.follow_size.Goals as goal

-- what a test for another size says
same_size : (test : Bool) (size other : Size) → test ≡ sameb the_type size other → not test ≡ false → size ≡ other
same_size true size other e same = same_true the_type tt size other (sym e)
same_size false size other e same = absurd cc

other_size : (test : Bool) (size other : Size) → test ≡ sameb the_type size other → not test ≡ true → size ≡ other → ⊥
other_size true size other e differ same = absurd cc
other_size false size other e differ same = absurd (let s = true_same the_type size other same in cc)

pub returns-else-ne : goal.returns-else-ne
returns-else-ne c =
    let page = c.args.self.now.page in
    let same = same_size _ c.args.size page.size refl (sym c.ne.ensures ∙ c.if-ne.false) in
    let size : page.bitmap.size ≡ c.args.size = page.size_is ∙ sym same in
    search (rules, size)

pub returns-in_ok-new : goal.returns-in_ok-new
returns-in_ok-new c =
    let old = c.args.self.now in
    let blank = c.in_ok-new.ensures.blank in
    let differ = other_size _ c.args.size old.page.size refl (sym c.ne.ensures ∙ c.if-ne.true) in
    let size = ap (λ (p : Picture). p.size) blank in
    let resolution = ap (λ (p : Picture). p.dpi) blank ∙ sym old.page.dpi_is in
    let same : old.page.bitmap.size ≡ c.args.size → c.in_ok-new.field-0 ≡ old.page.bitmap =
    λ e. absurd (differ (sym e ∙ old.page.size_is)) in
    search (rules, size, resolution, same, c.in_ok-new.ensures.dots)
