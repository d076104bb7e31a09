use Rattle.pcl_page.proofs.Names.{refl, view}
use Rattle.pcl_page.proofs.Printed.{settings_in, row_in}
use Rattle.pcl_page.proofs.performer.Performer.draw.Goals as goal

pub returns-in-DownloadFont : goal.returns-in-DownloadFont
returns-in-DownloadFont g c = λ s i. rw c.in-DownloadFont.is (c.download_font.ensures s i)

pub returns-in-DownloadCharacter : goal.returns-in-DownloadCharacter
returns-in-DownloadCharacter g c = λ s i. rw c.in-DownloadCharacter.is (c.download_character.ensures c.args.dpi s i)

pub returns-in-ControlFonts : goal.returns-in-ControlFonts
returns-in-ControlFonts g c = λ s i. rw c.in-ControlFonts.is (c.control_fonts.ensures c.args.dpi s i)

pub returns-in_ok-leave-in-UniversalExit : goal.returns-in_ok-leave-in-UniversalExit
returns-in_ok-leave-in-UniversalExit g c = λ s i. rw c.in-UniversalExit.is (refl, c.in_ok-leave-in-UniversalExit.ensures c.args.dpi s i)

pub returns-in-SelectFont : goal.returns-in-SelectFont
returns-in-SelectFont g c = λ s i. rw c.in-SelectFont.is (refl, settings_in i (c.select_font.ensures c.args.dpi s i))

pub returns-in_ok-send_row-in-RasterRow : goal.returns-in_ok-send_row-in-RasterRow
returns-in_ok-send_row-in-RasterRow g c = λ s i. rw c.in-RasterRow.is
    (refl, row_in (view c.args.command.now) i c.in_ok-send_row-in-RasterRow.ensures)

pub returns-in-Reset : goal.returns-in-Reset
returns-in-Reset g c = λ s i. rw c.in-Reset.is (refl, c.reset.ensures c.args.dpi s i)

pub returns-in-Ask : goal.returns-in-Ask
returns-in-Ask g c = λ s i. rw c.in-Ask.is (refl, c.ask.ensures c.args.dpi s i)
