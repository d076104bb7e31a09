use Rattle.std.proofs.Common.{◌≡◌, ◌∙◌, List, ℕ, Option, Result, Ok, Err, inl, inr, subst}
use Rattle.pcl_command.proofs.Names.{Vec, err_from_is_err_and, Keeps-refl, Dpi, Fault, Refused, Memory, ReadFault, TooLong, WriteFault, CheckAnswer, AppendsFront, IsWritten, CheckedFiles, FileAct, IsSeenAt, answer_line_of, AreRead, IsAnswer, IsCheckRun, IsCheckedBeside, IsFileRead, IsFileUnread, performed}
use Rattle.pcl_base.specs.declared.profile.Profile.TheVariants.{Stated}
use Rattle.pcl_files.proofs.FileReads.{read_fault}
use Rattle.pcl_command.proofs.checks.check.Goals as goal

-- a write of the line that fails
stops : {F : Type 0} {acts : F → FileAct → F → Type 0} {files : F} {asked : CheckedFiles} (old new : Option (List ℕ))
    (verdict : CheckAnswer) (line : List ℕ) (fault : Fault) → IsAnswer acts files asked verdict
    → line ≡ answer_line_of asked.layout verdict → IsWritten old new line (Err fault) → IsCheckRun acts files asked old new (Err fault)
stops old new verdict line WriteFault a e w = (verdict, a, subst (AppendsFront old new) e w)
stops old new verdict line other a e w = absurd w

-- the first of the files that can't be read
unread : {F : Type 0} (acts : F → FileAct → F → Type 0) {files : F} (asked : CheckedFiles) (name : List ℕ) (held : Option (List ℕ))
    (fault : Fault) → IsFileRead acts files name (Err fault) → IsFileUnread acts files asked fault
    → IsCheckRun acts files asked held held (Err fault)
unread acts asked name held ReadFault r u = (u, Keeps-refl held)
unread acts asked name held TooLong r u = (u, Keeps-refl held)
unread acts asked name held Memory r u = Keeps-refl held
unread acts asked name held other r u = absurd (read_fault acts _ name other r)

-- what is known of the bytes of the three files, whatever lent them to the checker
seen_beside : {F : Type 0} {acts : F → FileAct → F → Type 0} {files : F} (asked : CheckedFiles) {input output certificate : Vec ℕ}
    (dpi : Dpi) (result : Result CheckAnswer Fault) {lent one other third : List ℕ} → IsFileRead acts files asked.input.now (Ok input)
    → IsFileRead acts files asked.output.now (Ok output) → IsFileRead acts files asked.certificate.now (Ok certificate)
    → lent ≡ performed asked.beside one other → one ≡ input.items → other ≡ output.items → third ≡ certificate.items
    → IsSeenAt asked.resolution Stated lent dpi → IsCheckedBeside asked.beside dpi one other third result
    → AreRead acts files asked input output certificate × IsSeenAt asked.resolution Stated
    (performed asked.beside input.items output.items) dpi
    × IsCheckedBeside asked.beside dpi input.items output.items certificate.items result
seen_beside asked dpi result a b c lent p q r seen checked =
    (record { input_is = a; output_is = b; certificate_is = c }, rw (← p, ← q, ← lent) seen, rw (← p, ← q, ← r) checked)

-- a job of the files that isn't performed
unchecked : {F : Type 0} {acts : F → FileAct → F → Type 0} {files : F} {asked : CheckedFiles} (held : Option (List ℕ))
    (input output certificate : Vec ℕ) (dpi : Dpi) (fault : Fault) → AreRead acts files asked input output certificate
    × IsSeenAt asked.resolution Stated (performed asked.beside input.items output.items) dpi
    × IsCheckedBeside asked.beside dpi input.items output.items certificate.items (Err fault)
    → IsCheckRun acts files asked held held (Err fault)
unchecked held input output certificate dpi (Refused refusal) s = ((input, output, certificate, dpi, s.0, s.1, s.2), Keeps-refl held)
unchecked held input output certificate dpi Memory s = Keeps-refl held
unchecked held input output certificate dpi other s = absurd s.2

pub returns-in_err-input : goal.returns-in_err-input
returns-in_err-input g c =
    let p = err_from_is_err_and c.from_residual.result c.from_residual.ensures.1 in
    rw (p.1, p.2) (unread _ c.args.asked _ _ c.in_err-input.field-0.0 c.in_err-input.ensures (inl c.in_err-input.ensures))

pub returns-in_err-output : goal.returns-in_err-output
returns-in_err-output g c =
    let p = err_from_is_err_and c.from_residual-in_err-output.result c.from_residual-in_err-output.ensures.1 in
    rw (p.1, p.2) (unread _ c.args.asked _ _ c.in_err-output.field-0.0 c.in_err-output.ensures
    (inr (inl (c.in_ok-input.input, c.in_ok-input.ensures, c.in_err-output.ensures))))

pub returns-in_err-certificate : goal.returns-in_err-certificate
returns-in_err-certificate g c =
    let p = err_from_is_err_and c.from_residual-in_err-certificate.result c.from_residual-in_err-certificate.ensures.1 in
    rw (p.1, p.2)
    (unread g.F.JobFiles.acts c.args.asked c.args.asked.certificate.now _ c.in_err-certificate.field-0.0 c.in_err-certificate.ensures
    (inr (inr (c.in_ok-input.input, c.in_ok-output.output, c.in_ok-input.ensures, c.in_ok-output.ensures, c.in_err-certificate.ensures))))

pub returns-in_err-answer : goal.returns-in_err-answer
returns-in_err-answer g c =
    let p = err_from_is_err_and c.from_residual-in_err-answer.result c.from_residual-in_err-answer.ensures.1 in
    rw (p.1, p.2)
    (unchecked _ _ _ _ c.in_ok-dpi.dpi c.in_err-answer.field-0.0
    (seen_beside c.args.asked c.in_ok-dpi.dpi (Err c.in_err-answer.field-0.0) c.in_ok-input.ensures c.in_ok-output.ensures
    c.in_ok-certificate.ensures c.performed-performed.ensures c.deref.ensures.value c.deref-2.ensures.value c.deref-3.ensures.value
    c.in_ok-dpi.ensures c.in_err-answer.ensures))

pub returns-in_err-write_all : goal.returns-in_err-write_all
returns-in_err-write_all g c =
    let p = err_from_is_err_and c.from_residual-in_err-write_all.result c.from_residual-in_err-write_all.ensures.1 in
    let s = seen_beside c.args.asked c.in_ok-dpi.dpi (Ok c.in_ok-answer.answer) c.in_ok-input.ensures c.in_ok-output.ensures
    c.in_ok-certificate.ensures c.performed-performed.ensures c.deref.ensures.value c.deref-2.ensures.value c.deref-3.ensures.value
    c.in_ok-dpi.ensures c.in_ok-answer.ensures in
    rw (p.1, p.2)
    (stops _ _ c.in_ok-answer.answer c.deref-4.result.now c.in_err-write_all.field-0.0 (_, _, _, _, s.0, s.1, s.2)
    (c.deref-4.ensures.value ∙ c.in_ok-line.ensures) c.in_err-write_all.ensures)

pub returns : goal.returns
returns g c =
    let s = seen_beside c.args.asked c.in_ok-dpi.dpi (Ok c.in_ok-answer.answer) c.in_ok-input.ensures c.in_ok-output.ensures
    c.in_ok-certificate.ensures c.performed-performed.ensures c.deref.ensures.value c.deref-2.ensures.value c.deref-3.ensures.value
    c.in_ok-dpi.ensures c.in_ok-answer.ensures in
    ((_, _, _, _, s.0, s.1, s.2), rw (c.deref-4.ensures.value, c.in_ok-line.ensures) at c.in_ok-write_all.ensures)
