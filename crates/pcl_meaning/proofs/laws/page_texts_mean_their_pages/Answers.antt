use Rattle.pcl_meaning.proofs.Jobs.{text_means_page}
use Rattle.pcl_meaning.proofs.laws.page_texts_mean_their_pages.Goals as goal

pub returns : goal.returns
returns c dpi size copies rows text printed few = text_means_page dpi size copies rows text printed few
