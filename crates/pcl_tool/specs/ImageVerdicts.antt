-- What the checker of a job answers of images of pages, an output and a certificate, whoever made these.
use Rattle.std.specs.Prelude.{◌≡◌, ◌≢◌, List, ℕ, Result, Ok, Err}
use Rattle.pcl_base.specs.declared.dpi.Dpi.{Dpi}
use Rattle.pcl_page.specs.Delivering.{IsRefusal}
use Rattle.pcl_streams.specs.declared.fault.Fault.{Fault}
use Rattle.pcl_tool.specs.declared.job_verdict.CheckAnswer.{CheckAnswer}
use Rattle.pcl_tool.specs.declared.job_verdict.CheckAnswer.TheVariants.{OtherImages, Job}
use Rattle.pcl_preview.specs.declared.page_images.PageChoice.TheVariants.{All}
use Rattle.pcl_base.specs.declared.profile.Profile.TheVariants.{Stated}
use Rattle.pcl_preview.specs.PageImages.{AreImagesOf}
use Rattle.pcl_streams.specs.JobFaults.{RefusedOrMemory}
use Rattle.pcl_tool.specs.JobVerdicts.{IsJobVerdict}

-- The output is accepted, and the images of its pages aren't these. Or they are, and the verdict on it is right of a job with
-- its own pages: Proved where no job text with the pages of these images is shorter.
abbrev pub IsImagesAnswer : Dpi → List ℕ → List ℕ → List ℕ → CheckAnswer → Type 0
IsImagesAnswer dpi images output certificate OtherImages =
    (printed : List ℕ) × AreImagesOf Stated dpi output All printed × (printed ≢ images)
IsImagesAnswer dpi images output certificate (Job verdict) =
    AreImagesOf Stated dpi output All images × IsJobVerdict dpi output output certificate verdict

-- an output that is refused is refused as by its performing; no fault comes but this and out of memory
abbrev pub IsCheckedByImages : Dpi → List ℕ → List ℕ → List ℕ → Result CheckAnswer Fault → Type 0
IsCheckedByImages dpi images output certificate (Ok verdict) = IsImagesAnswer dpi images output certificate verdict
IsCheckedByImages dpi images output certificate (Err fault) = RefusedOrMemory (IsRefusal dpi output) fault
