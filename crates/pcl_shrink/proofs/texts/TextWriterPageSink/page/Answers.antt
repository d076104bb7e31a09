use Rattle.std.proofs.Common.{List, Option, ℕ, [], ◌∷◌, ◌++◌, ap, subst, ◌∙◌}
use Rattle.pcl_shrink.proofs.Names.{map-append, KeepsWithin, KeptPage, PagesRead, Text, kept_pages, least_of}
use Rattle.pcl_shrink.proofs.texts.TextWriterPageSink.page.Goals as goal

pub returns-clause-taken : goal.returns-clause-taken
returns-clause-taken g c =
    let text = c.in_ok-text.text in record {
      text = (
        text.least.items,
        ap least_of c.in_ok-push.ensures.items ∙ map-append (λ (t : Text). t.least.items) c.self.inside.texts.items (text ∷ [])
            ∙ ap (λ (old : List (List ℕ)). old ++ text.least.items ∷ []) (ap (λ (p : PagesRead). p.texts) c.self.view_is),
        c.in_ok-text.ensures,
      );
      kept =
          subst (λ (old : Option (List KeptPage)). KeepsWithin old c.args.page.now (kept_pages c.keep.new.self))
          (ap (λ (p : PagesRead). p.kept) c.self.view_is) c.keep.ensures;
    }
