use Rattle.std.proofs.Common.{[], ◌∷◌, arith, ◌++◌, ◌∙◌, ap, append_assoc, ℕ}
use Rattle.pcl_cert.proofs.Names.{on_ok_weaker}
use Rattle.pcl_cert.proofs.KeptLists.{list_more}
use Rattle.pcl_cert.proofs.listing.Lists.push.Goals as goal

pub returns : goal.returns
returns c =
    on_ok_weaker c.append_numbers.result (λ written. list_more c.requires.whole c.requires.few
    (λ k. omega (arith, c.type_inv.numbers k)) c.trimmed-numbers.ensures
    (written ∙ rw (c.in_ok-extend_from_slice.ensures.items, c.to_be_bytes.ensures) (append_assoc c.args.self.now.bytes.items _ _))
    (c.in_ok-push.ensures.items ∙ ap (λ (n : ℕ). c.args.self.now.starts.items ++ n ∷ []) (c.len.ensures ∙ omega arith)))
    c.append_numbers.ensures
