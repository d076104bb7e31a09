-- What a preview writes whose images are written as their pages are made.
use Rattle.std.specs.Prelude.{ℕ, List, ◌⊎◌, Option, Result, Err}
use Rattle.std.specs.Io.KnownBytes.{Keeps}
use Rattle.pcl_base.specs.declared.dpi.Dpi.{Dpi}
use Rattle.pcl_base.specs.declared.profile.Profile.{Profile}
use Rattle.pcl_streams.specs.declared.fault.Fault.{Fault}
use Rattle.pcl_streams.specs.declared.fault.Fault.TheVariants.{Memory}
use Rattle.pcl_streams.specs.Transfer.{AppendsFront}
use Rattle.pcl_preview.specs.declared.form.ImageForm.{ImageForm}
use Rattle.pcl_preview.specs.declared.page_images.PageChoice.{PageChoice}
use Rattle.pcl_preview.specs.PageImages.{AreImagesIn, IsPagesPreview}

-- a prefix of the images of the pages that are asked for is written; the job is accepted, and they are there
abbrev pub WritesFront : ImageForm → Profile → Dpi → List ℕ → PageChoice → (old new : Option (List ℕ)) → Type 0
WritesFront form profile dpi job choice old new =
    (bytes : List ℕ) × AreImagesIn form profile dpi job choice bytes × AppendsFront old new bytes

-- Where memory runs out, a prefix of the images may be written. All else is as where all images are made before the first is written.
abbrev pub IsPagesStreamed : ImageForm → Profile → Dpi → List ℕ → PageChoice → (old new : Option (List ℕ)) → Result (Unit {0}) Fault
    → Type 0
IsPagesStreamed form profile dpi job choice old new (Err Memory) =
    Keeps old new ⊎ WritesFront form profile dpi job choice old new
IsPagesStreamed form profile dpi job choice old new result = IsPagesPreview form profile dpi job choice old new result
