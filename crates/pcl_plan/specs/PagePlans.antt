-- The plan of a page.
use Rattle.pcl_base.specs.Size.{page_row_bytes}
use Rattle.pcl_bitmap.specs.declared.page.Page.{Page}
use Rattle.pcl_output.specs.PageText.{bitmap_rows}
use Rattle.pcl_plan.specs.Plans.{StepsAndTable, IsPlan}

-- a plan for the rows of a page
abbrev pub IsPlanOf : Page → StepsAndTable → Type 0
IsPlanOf page plan = IsPlan (page_row_bytes page.size page.dpi) (bitmap_rows page.bitmap) plan
