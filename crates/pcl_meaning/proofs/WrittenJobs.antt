-- A job written again: page texts of its pages between two resets.
use Rattle.std.proofs.Common.{◌≡◌, ℕ, List, ◌++◌, sym, subst, append_assoc}
use Rattle.pcl_meaning.proofs.Names.{Dpi, Profile, Sheet, HasPagesBy, HasAsksBy, frame_bytes, IsWrittenPage, PrintEach, IsJobOfBy, said_for}
use Rattle.pcl_meaning.proofs.Jobs.{IsAgain, written_again}

-- a least raster job asks for what its page texts say
pub asks_as_said : {profile : Profile} {dpi : Dpi} {job output : List ℕ} (w : IsJobOfBy profile dpi job output)
    → HasAsksBy profile dpi output (said_for w.pages)
asks_as_said {profile} {dpi} w =
    subst (λ (bytes : List ℕ). HasAsksBy profile dpi bytes (said_for w.pages)) (sym w.spelled)
    (written_again w.texts w.meaning w.print).asks

-- page texts of the job's pages between two resets
unfoldable pub job_of_texts : (profile : Profile) (dpi : Dpi) (job start body output texts : List ℕ) (pages : List Sheet)
    → HasPagesBy profile dpi job pages → start ≡ frame_bytes
    → PrintEach IsWrittenPage dpi pages texts → body ≡ start ++ texts → output ≡ body ++ frame_bytes → IsJobOfBy profile dpi job output
job_of_texts profile dpi job start body output texts pages meaning opened print joined closed =
    let spelled : output ≡ frame_bytes ++ texts ++ frame_bytes = rw (closed, joined, opened) (append_assoc frame_bytes texts frame_bytes) in
    let w = subst (IsAgain profile dpi pages) (sym spelled) (written_again texts meaning print) in
    record {
      pages = pages;
      meaning = meaning;
      texts = texts;
      print = print;
      spelled = spelled;
      again = w.again;
      accepted = w.meaning;
      alike = w.alike;
      few = w.few;
    }
