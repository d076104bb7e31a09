use Rattle.std.proofs.Common.{refl, replicate, ap, ◌∙◌, arith}
use Rattle.pcl_bitmap.proofs.Names.{page_height, page_row_bytes}
use Rattle.pcl_bitmap.proofs.Pictures.{blank_from_zeros, blank_is_picture}
use Rattle.pcl_bitmap.proofs.OneInk.{nothing_inked}
use Rattle.pcl_bitmap.proofs.bitmap.Bitmap.clear.Goals as goal

pub returns-clause-blank : goal.returns-clause-blank
returns-clause-blank c =
    let a = c.self.inside in
    rw (← c.self.view_is)
    (blank_from_zeros a.size a.dpi c.fill.new.self.items (page_height a.size a.dpi) (page_row_bytes a.size a.dpi) refl refl
    (c.fill.ensures.items (λ _ e. e) ∙ ap (λ n. replicate n 0) (omega (arith, a.bytes.ok.0, c.self.invariant.picture.whole))))

pub invariant_of-self : goal.invariant_of-self
invariant_of-self c = record {
  picture = rw (returns-clause-blank c) (blank_is_picture c.args.self.now.size c.args.self.now.dpi);
  inked = nothing_inked _ _ c.nothing-self-inside.ensures;
}
