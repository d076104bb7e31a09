-- What is reported of jobs without pages.
use Rattle.std.specs.Prelude.{ℕ, ◌==◌, Bool, false, List, Option, Some, None, Ok}
use Rattle.pcl_base.specs.declared.dpi.Dpi.{Dpi}
use Rattle.pcl_base.specs.declared.profile.Profile.{Profile}
use Rattle.pcl_page.specs.Accepting.{IsPageCount, IsRefused}
use Rattle.pcl_request.specs.declared.request.Layout.{Layout}
use Rattle.pcl_request.specs.declared.request.Layout.TheVariants.{Json}

-- how many pages a job has, or none where it is refused
abbrev pub IsCountUnlessRefused : Profile → Dpi → List ℕ → Option ℕ → Type 0
IsCountUnlessRefused profile dpi job (Some number) = IsPageCount profile dpi job (Ok number)
IsCountUnlessRefused profile dpi job None = IsRefused profile dpi job

-- a shrunk job with this many pages has none, and a line says so, unless an object of JSON says how many there are
abbrev pub says_no_page : ℕ → Option Layout → Bool
says_no_page pages (Some Json) = false
says_no_page pages other = pages == 0
