use Rattle.pcl_shrink.proofs.Names.{ap, sym, subst, accepted_pages, has_pages, all_kept_within, AreLeastTexts, KeepAllIfAny, PagesRead, least_of}
use Rattle.pcl_shrink.proofs.Listed.{pages_kept, texts_from_none, texts_taken}
use Rattle.pcl_shrink.proofs.texts.page_texts.Goals as goal

pub returns : goal.returns
returns g c =
    let h = c.in_ok-asks.ensures.0 in
    let dpi = c.args.source.at.first in
    let sheets = accepted_pages h in
    let new = c.perform_observed.new.sink in
    let listed = texts_from_none dpi sheets new.texts (texts_taken dpi sheets _ new h.handed.1) (ap least_of c.new.ensures.items) in
    let kept = all_kept_within dpi sheets new.kept c.new-3.ensures (pages_kept dpi sheets _ new h.handed.1) in (
      (sheets, has_pages h, subst (AreLeastTexts dpi sheets) (sym (ap (λ (p : PagesRead). p.texts) c.writer.view_is)) listed),
      (
        c.in_ok-asks.ensures.1,
        (sheets, has_pages h, subst (KeepAllIfAny dpi sheets) (sym (ap (λ (p : PagesRead). p.kept) c.writer.view_is)) kept),
      ),
    )
