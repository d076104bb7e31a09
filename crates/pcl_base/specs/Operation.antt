-- The names that are performed.
use Rattle.std.specs.Prelude.{ℕ, Bool, true, false, ◌==◌, ◌&&◌, ◌||◌, if◌then◌else◌, List, [], ◌∷◌, Option, Some, None, codes}
use Rattle.pcl_base.specs.declared.name.Name.{Name}
use Rattle.pcl_base.specs.declared.name.Name.TheVariants.{Empty, One, Two, Three}
use Rattle.pcl_base.specs.declared.operation.Axis.TheVariants.{Horizontal, Vertical}
use Rattle.pcl_base.specs.declared.operation.Unit.TheVariants.{PclUnit, Decipoint, Column}
use Rattle.pcl_base.specs.declared.operation.Side.TheVariants.{Primary, Secondary}
use Rattle.pcl_base.specs.declared.operation.Asking.{Asking}
use Rattle.pcl_base.specs.declared.operation.Asking.TheVariants.{Sides, OutputBin, MediaType, PaperSource, SheetSide, PageLength, Orientation, LeftOffset, TopOffset, JobSeparation, TextScale, PrintQuality, Shingling, Depletion, RasterQuality}
use Rattle.pcl_base.specs.declared.operation.Operation.{Operation}
use Rattle.pcl_base.specs.declared.operation.Operation.TheVariants.{Reset, UniversalExit, ClearMargins, HalfLineFeed, HorizontalTab, LineFeed, FormFeed, CarriageReturn, Shift, PageSize, Copies, VerticalMotionIndex, LineSpacing, TopMargin, TextLength, PerforationSkip, OnlyZero, Ask, UnitOfMeasure, HorizontalMotionIndex, LineTermination, LeftMargin, Move, CursorStack, MacroId, ControlMacros, RectangleSize, FillRectangle, FontId, CharacterCode, ControlFonts, DownloadFont, DownloadCharacter, SelectFont, PrintText, RasterResolution, RasterWidth, RasterHeight, RasterPresentation, StartRaster, EndRaster, EndRasterResetMethod, RasterMethod, SeedRowSource, RasterOffset, RasterRow, NoEffect}
use Rattle.pcl_base.specs.declared.profile.Profile.{Profile}
use Rattle.pcl_base.specs.declared.profile.Profile.TheVariants.{Stated, Drivers}

-- a name from its bytes
abbrev pub named : List ℕ → Name
named (first ∷ []) = One first
named (first ∷ second ∷ []) = Two first second
named (first ∷ second ∷ third ∷ []) = Three first second third
named other = Empty

-- control codes by their numbers: HT, LF, FF, CR, SO, SI
abbrev pub control : ℕ → Name
control code = One code

-- the name of a run of text
abbrev pub text : Name
text = One 32

-- each name, with what its command does
abbrev pub operations : List (Name × Operation)
operations =
    (named (codes "E"), Reset) ∷
    (named (codes "%X"), UniversalExit) ∷
    (named (codes "9"), ClearMargins) ∷
    (named (codes "="), HalfLineFeed) ∷
    (control 9, HorizontalTab) ∷
    (control 10, LineFeed) ∷
    (control 12, FormFeed) ∷
    (control 13, CarriageReturn) ∷
    (control 14, Shift Secondary) ∷
    (control 15, Shift Primary) ∷
    (text, PrintText) ∷
    (named (codes "%A"), NoEffect) ∷
    (named (codes "(X"), SelectFont Primary) ∷
    (named (codes ")X"), SelectFont Secondary) ∷
    (named (codes "&lA"), PageSize) ∷
    (named (codes "&lX"), Copies) ∷
    (named (codes "&lC"), VerticalMotionIndex) ∷
    (named (codes "&lD"), LineSpacing) ∷
    (named (codes "&lE"), TopMargin) ∷
    (named (codes "&lF"), TextLength) ∷
    (named (codes "&lL"), PerforationSkip) ∷
    (named (codes "&lO"), Ask Orientation) ∷
    (named (codes "&lU"), Ask LeftOffset) ∷
    (named (codes "&lZ"), Ask TopOffset) ∷
    (named (codes "&lH"), Ask PaperSource) ∷
    (named (codes "&lS"), Ask Sides) ∷
    (named (codes "&lG"), Ask OutputBin) ∷
    (named (codes "&lM"), Ask MediaType) ∷
    (named (codes "&lP"), Ask PageLength) ∷
    (named (codes "&lT"), Ask JobSeparation) ∷
    (named (codes "&kW"), Ask TextScale) ∷
    (named (codes "*oM"), Ask PrintQuality) ∷
    (named (codes "*oQ"), Ask Shingling) ∷
    (named (codes "*oD"), Ask Depletion) ∷
    (named (codes "*rQ"), Ask RasterQuality) ∷
    (named (codes "&aP"), OnlyZero) ∷
    (named (codes "&aG"), Ask SheetSide) ∷
    (named (codes "&aL"), LeftMargin) ∷
    (named (codes "&aH"), Move Horizontal Decipoint) ∷
    (named (codes "&aV"), Move Vertical Decipoint) ∷
    (named (codes "&aC"), Move Horizontal Column) ∷
    (named (codes "&aR"), Move Vertical Column) ∷
    (named (codes "&aM"), NoEffect) ∷
    (named (codes "&uD"), UnitOfMeasure) ∷
    (named (codes "&kH"), HorizontalMotionIndex) ∷
    (named (codes "&kG"), LineTermination) ∷
    (named (codes "&fS"), CursorStack) ∷
    (named (codes "&fY"), MacroId) ∷
    (named (codes "&fX"), ControlMacros) ∷
    (named (codes "&sC"), NoEffect) ∷
    (named (codes "&d@"), NoEffect) ∷
    (named (codes "&pX"), PrintText) ∷
    (named (codes "*pX"), Move Horizontal PclUnit) ∷
    (named (codes "*pY"), Move Vertical PclUnit) ∷
    (named (codes "*cA"), RectangleSize Horizontal PclUnit) ∷
    (named (codes "*cB"), RectangleSize Vertical PclUnit) ∷
    (named (codes "*cH"), RectangleSize Horizontal Decipoint) ∷
    (named (codes "*cV"), RectangleSize Vertical Decipoint) ∷
    (named (codes "*cP"), FillRectangle) ∷
    (named (codes "*cD"), FontId) ∷
    (named (codes "*cE"), CharacterCode) ∷
    (named (codes "*cF"), ControlFonts) ∷
    (named (codes ")sW"), DownloadFont) ∷
    (named (codes "(sW"), DownloadCharacter) ∷
    (named (codes "*vN"), OnlyZero) ∷
    (named (codes "*vT"), OnlyZero) ∷
    (named (codes "*tR"), RasterResolution) ∷
    (named (codes "*rS"), RasterWidth) ∷
    (named (codes "*rT"), RasterHeight) ∷
    (named (codes "*rF"), RasterPresentation) ∷
    (named (codes "*rA"), StartRaster) ∷
    (named (codes "*rB"), EndRaster) ∷
    (named (codes "*rC"), EndRasterResetMethod) ∷
    (named (codes "*bM"), RasterMethod) ∷
    (named (codes "*bS"), SeedRowSource) ∷
    (named (codes "*bY"), RasterOffset) ∷
    (named (codes "*bW"), RasterRow) ∷
    (named (codes "*vO"), NoEffect) ∷
    (named (codes "*cG"), NoEffect) ∷
    (named (codes "(sP"), NoEffect) ∷ (named (codes ")sP"), NoEffect) ∷
    (named (codes "(sH"), NoEffect) ∷ (named (codes ")sH"), NoEffect) ∷
    (named (codes "(sV"), NoEffect) ∷ (named (codes ")sV"), NoEffect) ∷
    (named (codes "(sS"), NoEffect) ∷ (named (codes ")sS"), NoEffect) ∷
    (named (codes "(sB"), NoEffect) ∷ (named (codes ")sB"), NoEffect) ∷
    (named (codes "(sT"), NoEffect) ∷ (named (codes ")sT"), NoEffect) ∷ []

-- both names have the same bytes
abbrev pub is_name : Name → Name → Bool
is_name Empty Empty = true
is_name (One a) (One b) = a == b
is_name (Two a b) (Two c d) = a == c && b == d
is_name (Three a b c) (Three d e f) = a == d && (b == e && c == f)
is_name name other = false

-- symbol sets and fonts by characteristics, ESC ( or ESC ) and any other ending byte: they select nothing
abbrev pub operation_by_rule : Name → Option Operation
operation_by_rule (Two first last) = if first == 40 || first == 41 then Some NoEffect else None
operation_by_rule name = None

-- the operation of a name in a table, or else by the rule
abbrev pub operation_in : List (Name × Operation) → Name → Option Operation
operation_in [] name = operation_by_rule name
operation_in (row ∷ rows) name = if is_name name row.0 then Some row.1 else operation_in rows name

-- what a command of this name does, where the name is known
unfoldable pub operation_of : Name → Option Operation
operation_of name = operation_in operations name

-- what the stated profile doesn't have, of what is asked of the printer
abbrev pub is_stated : Asking → Bool
is_stated JobSeparation = false
is_stated TextScale = false
is_stated PrintQuality = false
is_stated Shingling = false
is_stated Depletion = false
is_stated RasterQuality = false
is_stated other = true

-- which operations a profile has
abbrev pub has : Profile → Operation → Bool
has Drivers operation = true
has Stated SeedRowSource = false
has Stated (Ask what) = is_stated what
has Stated other = true

-- a parameter of a sequence with data after it
abbrev pub takes_data : Operation → Bool
takes_data RasterRow = true
takes_data DownloadFont = true
takes_data DownloadCharacter = true
takes_data PrintText = true
takes_data other = false
