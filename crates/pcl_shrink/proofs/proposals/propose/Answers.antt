use Rattle.pcl_shrink.proofs.Names.{arith, length-map, asks_of, Text, least_of}
use Rattle.pcl_shrink.proofs.Listed.{as_many_texts}
use Rattle.pcl_shrink.proofs.Found.{kept_while_read}
use Rattle.pcl_shrink.proofs.proposals.propose.Goals as goal

pub returns : goal.returns
returns g c =
    let found = c.in_ok-texts.ensures in
    let texts = c.in_ok-texts.texts.items in (
      record {
        limit_is = record {
          pages = found.0.0;
          meaning = found.0.1;
          asks = asks_of c.in_ok-texts.found.asks;
          asked = found.1.0;
          texts = least_of texts;
          least = found.0.2;
          within = rw c.deref.ensures.value at c.in_ok-limit.ensures;
        };
        counted = omega (
          arith,
          c.len-pages.ensures,
          as_many_texts c.args.source.at.first found.0.0 (least_of texts) found.0.2,
          length-map texts (λ (t : Text). t.least.items),
        );
      },
      kept_while_read c.in_ok-texts.found.keeper c.in_ok-texts.found.asks c.finish.result found.1.0 found.1.1
          c.finish.ensures.pages c.finish.ensures.asks,
    )
