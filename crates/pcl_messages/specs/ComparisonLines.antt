-- What the program says of two compared jobs.
use Rattle.std.specs.Prelude.{ℕ, ℤ, Bool, true, false, List, ◌++◌, Option, None, Some, codes, decimal}
use Rattle.std.specs.Fmt.{signed_decimal}
use Rattle.pcl_base.specs.Refusal.{refusal_text}
use Rattle.pcl_base.specs.Size.{size_name}
use Rattle.pcl_env.specs.Offset.{offset_text}
use Rattle.pcl_request.specs.declared.request.Layout.{Layout}
use Rattle.pcl_messages.specs.Layouts.{laid_out}
use Rattle.pcl_same.specs.declared.comparison.AskedComparison.{AskedComparison}
use Rattle.pcl_same.specs.declared.comparison.AskedComparison.TheVariants.{Same, Pages, Asks}
use Rattle.pcl_same.specs.declared.comparison.PagesDifference.{PagesDifference}
use Rattle.pcl_same.specs.declared.comparison.PagesDifference.TheVariants as pages
use Rattle.pcl_same.specs.declared.comparison.AsksDifference.{AsksDifference}
use Rattle.pcl_same.specs.declared.comparison.AsksDifference.TheVariants as asks
use Rattle.pcl_same.specs.declared.comparison.ExitDifference.{ExitDifference}
use Rattle.pcl_same.specs.declared.comparison.ExitDifference.TheVariants as exit
use Rattle.pcl_same.specs.declared.comparison.AskedDifference.{AskedDifference}
use Rattle.pcl_same.specs.declared.comparison.AskedDifference.TheVariants as asked
use Rattle.pcl_same.specs.declared.comparison.Setting.{Setting}
use Rattle.pcl_same.specs.declared.comparison.Setting.TheVariants.{Copies, PageSize, PageLength, Orientation, Sides, OutputBin, MediaType, PaperSource, LeftOffset, TopOffset, TextScale, PrintQuality, Shingling, Depletion, RasterQuality, SheetSide, SizeAgain, SidesAgain, SourceAgain}
use Rattle.pcl_same.specs.declared.comparison.SettingDifference.{SettingDifference}
use Rattle.pcl_same.specs.declared.comparison.Difference.{Difference}
use Rattle.pcl_same.specs.declared.comparison.Difference.TheVariants as difference
use Rattle.pcl_same.specs.declared.fault.SameFault.{SameFault}
use Rattle.pcl_same.specs.declared.fault.SameFault.TheVariants as same
use Rattle.pcl_same.specs.declared.fault.Which.{Which}
use Rattle.pcl_same.specs.declared.fault.Which.TheVariants.{First, Second}
use Rattle.pcl_streams.specs.declared.fault.Fault.{Fault}
use Rattle.pcl_streams.specs.declared.fault.Fault.TheVariants as run
use Rattle.pcl_messages.specs.declared.compare_fault.CompareFault.{CompareFault}
use Rattle.pcl_messages.specs.declared.compare_fault.CompareFault.TheVariants.{Refused, Failed}
use Rattle.pcl_messages.specs.Faults.{line_of, status_for}
use Rattle.pcl_messages.specs.Texts.{subject_text}

-- what is said of the first job, and of the second
abbrev pub pair_text : List ℕ → List ℕ → List ℕ → List ℕ
pair_text label first second = label ++ first ++ codes " " ++ second

abbrev pub difference_text : Difference → List ℕ
difference_text (difference.Size first second) = pair_text (codes "size ") (size_name first) (size_name second)
difference_text (difference.Copies first second) = pair_text (codes "copies ") (decimal first) (decimal second)
difference_text (difference.Dot x y) = pair_text (codes "dot ") (decimal x) (decimal y)

abbrev pub pages_text : PagesDifference → List ℕ
pages_text (pages.Count first second) = pair_text (codes "not the same: page count ") (decimal first) (decimal second)
pages_text (pages.Page number difference) = subject_text (codes "not the same: page ") number ++ difference_text difference

-- ---- what is asked

abbrev pub setting_label : Setting → List ℕ
setting_label Copies = codes "copies "
setting_label PageSize = codes "size "
setting_label PageLength = codes "length "
setting_label Orientation = codes "orientation "
setting_label Sides = codes "sides "
setting_label OutputBin = codes "bin "
setting_label MediaType = codes "media "
setting_label PaperSource = codes "source "
setting_label LeftOffset = codes "left offset "
setting_label TopOffset = codes "top offset "
setting_label TextScale = codes "text scale "
setting_label PrintQuality = codes "print quality "
setting_label Shingling = codes "shingling "
setting_label Depletion = codes "depletion "
setting_label RasterQuality = codes "raster quality "
setting_label SheetSide = codes "side "
setting_label SizeAgain = codes "size again "
setting_label SidesAgain = codes "sides again "
setting_label SourceAgain = codes "source again "

-- an offset in decipoints with its decimals, all others as whole numbers
abbrev pub number_text : Setting → ℤ → List ℕ
number_text LeftOffset value = offset_text value
number_text TopOffset value = offset_text value
number_text other value = signed_decimal value

abbrev pub value_text : Setting → Option ℤ → List ℕ
value_text setting (Some value) = number_text setting value
value_text setting None = codes "none"

abbrev pub setting_text : SettingDifference → List ℕ
setting_text difference =
    pair_text (setting_label difference.setting) (value_text difference.setting difference.first)
    (value_text difference.setting difference.second)

abbrev pub asked_text : AskedDifference → List ℕ
asked_text asked.Reset = codes "reset"
asked_text (asked.Setting difference) = setting_text difference

abbrev pub exit_text : ExitDifference → List ℕ
exit_text (exit.Place first second) = pair_text (codes "pages before ") (decimal first) (decimal second)
exit_text exit.Reset = codes "reset"
exit_text exit.Lines = codes "lines"

abbrev pub asks_text : AsksDifference → List ℕ
asks_text (asks.Page number difference) = subject_text (codes "not the same: page ") number ++ asked_text difference
asks_text (asks.ExitCount first second) = pair_text (codes "not the same: exit count ") (decimal first) (decimal second)
asks_text (asks.Exit number difference) = subject_text (codes "not the same: exit ") number ++ exit_text difference
asks_text asks.Separation = codes "not the same: job separation"
asks_text asks.Lasting = codes "not the same: what the printer keeps or ejects"

-- ---- the line on standard output, and the status

abbrev pub comparison_text : AskedComparison → List ℕ
comparison_text Same = codes "same"
comparison_text (Pages difference) = pages_text difference
comparison_text (Asks difference) = asks_text difference

abbrev pub are_same : AskedComparison → Bool
are_same Same = true
are_same other = false

abbrev pub comparison_line_of : Layout → AskedComparison → List ℕ
comparison_line_of layout comparison = laid_out layout (codes "same") (are_same comparison) (comparison_text comparison)

-- 0 where the jobs are the same, else 1
abbrev pub comparison_status_for : AskedComparison → ℕ
comparison_status_for Same = 0
comparison_status_for (Pages difference) = 1
comparison_status_for (Asks difference) = 1

-- ---- faults

-- what the comparison of two jobs answers, as a fault of a run
abbrev pub compare_fault_of : SameFault → CompareFault
compare_fault_of (same.Refused which refusal) = Refused which refusal
compare_fault_of same.Memory = Failed run.Memory

abbrev pub refused_job_text : Which → List ℕ
refused_job_text First = codes "first job refused: "
refused_job_text Second = codes "second job refused: "

-- the line on standard error
abbrev pub compare_line_of : CompareFault → List ℕ
compare_line_of (Refused which refusal) = codes "pclmin: " ++ refused_job_text which ++ refusal_text refusal ++ codes "\n"
compare_line_of (Failed fault) = line_of fault 0

abbrev pub compare_status_for : CompareFault → ℕ
compare_status_for (Refused which refusal) = 1
compare_status_for (Failed fault) = status_for fault

-- the fault of the run, where neither job is refused
abbrev pub run_fault : CompareFault → Option Fault
run_fault (Refused which refusal) = None
run_fault (Failed fault) = Some fault
