use Rattle.pcl_shrink.proofs.Names.{Stated}
use Rattle.pcl_shrink.proofs.Written.{prints_again, asks_the_same, within_for}
use Rattle.pcl_shrink.proofs.laws.shrunk_jobs_have_the_same_pages.Goals as goal

pub returns-clause-pages : goal.returns-clause-pages
returns-clause-pages c = λ readers widest profile dpi job shrunk pages s read meaning.
    prints_again (c.one_meaning.ensures.apart Stated) readers widest profile dpi job shrunk s (c.one_meaning.ensures.pages profile) pages
    read meaning

pub returns-clause-asks : goal.returns-clause-asks
returns-clause-asks c = λ readers widest profile dpi job shrunk asks s read asked.
    asks_the_same (c.one_meaning.ensures.apart Stated) readers widest profile dpi job shrunk s (c.one_meaning.ensures.asks profile) asks
    read asked

pub returns-clause-input : goal.returns-clause-input
returns-clause-input c = λ readers widest dpi job shrunk s. within_for s.0 dpi job shrunk readers shrunk.doubt s.2
