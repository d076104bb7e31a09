use Rattle.std.proofs.Common.{◌≡◌, ◌∙◌, List, ℕ, Option, Result, Ok, Err, inl, inr, refl, sym, subst}
use Rattle.pcl_command.proofs.Names.{Vec, err_from_is_err_and, Keeps-refl, Dpi, Fault, Memory, ReadFault, TooLong, WriteFault, AppendsFront, IsWritten, AskedComparison, PageComparison, SameFault, IsComparison, IsCompared, of_pages, FileAct, AreComparedAt, IsFileRead, ComparedFiles, Failed, comparison_line_of, AreFilesSeen, IsOneUnread, IsComparisonFor, IsComparedAndDrawn, IsCompareRun, compare_fault_of, dotted_page, IsImageDrawn}
use Rattle.pcl_same.specs.declared.fault.SameFault.TheVariants as same
use Rattle.pcl_files.proofs.FileReads.{read_fault}
use Rattle.pcl_command.proofs.ComparedFor.{by_pages}
use Rattle.pcl_command.proofs.Drawn.{drawn_fault}
use Rattle.pcl_command.proofs.comparisons.compare.Goals as goal

-- the first of the files that can't be read
unread : {F : Type 0} (acts : F → FileAct → F → Type 0) (files : F) (asked : ComparedFiles) (name : List ℕ) (held : Option (List ℕ))
    (fault : Fault) → IsFileRead acts files name (Err fault) → IsOneUnread acts files asked fault
    → IsCompareRun acts asked files files held held (Err (Failed fault))
unread acts files asked name held ReadFault r u = (refl, u, Keeps-refl held)
unread acts files asked name held TooLong r u = (refl, u, Keeps-refl held)
unread acts files asked name held Memory r u = (inl refl, Keeps-refl held)
unread acts files asked name held other r u = absurd (read_fault acts files name other r)

-- what holds of bytes that were lent holds of those that were read
of_bytes : (P : List ℕ → List ℕ → Type 0) {one other first second : List ℕ} → one ≡ first → other ≡ second → P one other → P first second
of_bytes P p q h = rw (← p, ← q) h

-- the bytes of the two files, and where they are seen, whatever lent them
abbrev are_seen : {F : Type 0} {acts : F → FileAct → F → Type 0} {files : F} (asked : ComparedFiles) (dpi : Dpi) {first second : Vec ℕ}
    {one other : List ℕ} → IsFileRead acts files asked.first.now (Ok first) → IsFileRead acts files asked.second.now (Ok second)
    → one ≡ first.items → other ≡ second.items → AreComparedAt asked.resolution asked.asks asked.profile one other dpi
    → AreFilesSeen acts files asked
are_seen asked dpi {first} {second} f s p q seen = record {
  first = first;
  second = second;
  read = record { first_is = f; second_is = s };
  dpi = dpi;
  seen = of_bytes (λ (one other : List ℕ). AreComparedAt asked.resolution asked.asks asked.profile one other dpi) p q seen;
}

-- their comparison, and its image, whatever lent the bytes
drawn_beside : {F : Type 0} (acts : F → FileAct → F → Type 0) (files kept : F) (asked : ComparedFiles) (comparison : AskedComparison)
    (pages : PageComparison) (done : Result (Unit {0}) Fault) (seen : AreFilesSeen acts files asked) {one other third fourth : List ℕ}
    → one ≡ seen.first.items → other ≡ seen.second.items → IsComparisonFor asked.asks asked.profile seen.dpi one other comparison
    → pages ≡ of_pages comparison → third ≡ seen.first.items → fourth ≡ seen.second.items
    → IsImageDrawn acts asked.image asked.profile seen.dpi third fourth pages files kept done
    → IsComparedAndDrawn acts asked files kept comparison done
drawn_beside acts files kept asked comparison pages done seen p q compared e r s drawn = (
  seen,
  of_bytes (λ (one other : List ℕ). IsComparisonFor asked.asks asked.profile seen.dpi one other comparison) p q compared,
  of_bytes (λ (one other : List ℕ). IsImageDrawn acts asked.image asked.profile seen.dpi one other (of_pages comparison) files kept done)
      r s (rw e at drawn),
)

-- jobs that can't be compared
uncompared : {F : Type 0} (acts : F → FileAct → F → Type 0) (files : F) (asked : ComparedFiles) (held : Option (List ℕ))
    (fault : SameFault) (seen : AreFilesSeen acts files asked)
    → IsCompared asked.profile seen.dpi seen.first.items seen.second.items (Err fault)
    → IsCompareRun acts asked files files held held (Err (compare_fault_of fault))
uncompared acts files asked held (same.Refused which refusal) seen a = (refl, (seen, a), Keeps-refl held)
uncompared acts files asked held same.Memory seen a = (inl refl, Keeps-refl held)

-- an image that fails
undrawn : {F : Type 0} (acts : F → FileAct → F → Type 0) (files kept : F) (asked : ComparedFiles) (held : Option (List ℕ))
    (comparison : AskedComparison) (fault : Fault) → IsComparedAndDrawn acts asked files kept comparison (Err fault)
    → IsCompareRun acts asked files kept held held (Err (Failed fault))
undrawn acts files kept asked held comparison WriteFault a = (comparison, inl (a, Keeps-refl held))
undrawn acts files kept asked held comparison Memory a = (inr (comparison, a), Keeps-refl held)
undrawn acts files kept asked held comparison other a = absurd (drawn_fault acts asked.image (dotted_page (of_pages comparison))
    asked.profile a.0.dpi a.0.first.items a.0.second.items files kept other a.2)

-- a write of the line that fails
stops : {F : Type 0} (acts : F → FileAct → F → Type 0) (files kept : F) (asked : ComparedFiles) (old new : Option (List ℕ))
    (comparison : AskedComparison) (line : List ℕ) (fault : Fault) → IsComparedAndDrawn acts asked files kept comparison (Ok tt)
    → line ≡ comparison_line_of asked.layout comparison → IsWritten old new line (Err fault)
    → IsCompareRun acts asked files kept old new (Err (Failed fault))
stops acts files kept asked old new comparison line WriteFault a e w = (comparison, inr (a, subst (AppendsFront old new) e w))
stops acts files kept asked old new comparison line other a e w = absurd w

pub returns-in_err-first : goal.returns-in_err-first
returns-in_err-first g c =
    let p = err_from_is_err_and c.from_residual.result c.from_residual.ensures.1 in
    rw (p.1, p.2) (unread _ _ c.args.asked _ _ c.in_err-first.field-0.0 c.in_err-first.ensures (inl c.in_err-first.ensures))

pub returns-in_err-second : goal.returns-in_err-second
returns-in_err-second g c =
    let p = err_from_is_err_and c.from_residual-in_err-second.result c.from_residual-in_err-second.ensures.1 in
    rw (p.1, p.2) (unread _ _ c.args.asked _ _ c.in_err-second.field-0.0 c.in_err-second.ensures
    (inr (c.in_ok-first.first, c.in_ok-first.ensures, c.in_err-second.ensures)))

pub returns-in_err-comparison : goal.returns-in_err-comparison
returns-in_err-comparison g c =
    let p = err_from_is_err_and c.from_residual-in_err-comparison.result c.from_residual-in_err-comparison.ensures.1 in
    let fault = c.in_err-comparison.field-0.0 in
    let seen = are_seen c.args.asked c.in_ok-dpi.dpi c.in_ok-first.ensures c.in_ok-second.ensures c.deref.ensures.value
    c.deref-2.ensures.value c.in_ok-dpi.ensures in
    rw (p.1, p.2)
    (uncompared g.F.JobFiles.acts _ c.args.asked _ fault seen
    (of_bytes (λ (one other : List ℕ). IsCompared c.args.asked.profile c.in_ok-dpi.dpi one other (Err fault)) c.deref-3.ensures.value
    c.deref-4.ensures.value
    c.in_err-comparison.ensures))

pub draw_difference-requires : goal.draw_difference-requires
draw_difference-requires g c =
    subst (IsComparison c.args.asked.profile c.in_ok-dpi.dpi c.deref-5.result.now c.deref-6.result.now) (sym c.of_pages-pages.ensures)
    (by_pages c.args.asked.asks _ _ _ _ c.in_ok-comparison.comparison
    (of_bytes (λ (one other : List ℕ).
    IsComparisonFor c.args.asked.asks c.args.asked.profile c.in_ok-dpi.dpi one other c.in_ok-comparison.comparison)
    (c.deref-3.ensures.value ∙ sym c.deref-5.ensures.value) (c.deref-4.ensures.value ∙ sym c.deref-6.ensures.value)
    c.in_ok-comparison.ensures))

pub returns-in_err-draw_difference : goal.returns-in_err-draw_difference
returns-in_err-draw_difference g c =
    let p = err_from_is_err_and c.from_residual-in_err-draw_difference.result c.from_residual-in_err-draw_difference.ensures.1 in
    let fault = c.in_err-draw_difference.field-0.0 in
    let seen = are_seen c.args.asked c.in_ok-dpi.dpi c.in_ok-first.ensures c.in_ok-second.ensures c.deref.ensures.value
    c.deref-2.ensures.value c.in_ok-dpi.ensures in
    rw (p.1, p.2)
    (undrawn g.F.JobFiles.acts _ _ c.args.asked _ c.in_ok-comparison.comparison fault
    (drawn_beside g.F.JobFiles.acts _ _ c.args.asked c.in_ok-comparison.comparison _ (Err fault) seen c.deref-3.ensures.value
    c.deref-4.ensures.value c.in_ok-comparison.ensures c.of_pages-pages.ensures c.deref-5.ensures.value c.deref-6.ensures.value
    c.in_err-draw_difference.ensures))

pub returns-in_err-write_all : goal.returns-in_err-write_all
returns-in_err-write_all g c =
    let p = err_from_is_err_and c.from_residual-in_err-write_all.result c.from_residual-in_err-write_all.ensures.1 in
    let seen = are_seen c.args.asked c.in_ok-dpi.dpi c.in_ok-first.ensures c.in_ok-second.ensures c.deref.ensures.value
    c.deref-2.ensures.value c.in_ok-dpi.ensures in
    rw (p.1, p.2)
    (stops g.F.JobFiles.acts _ _ c.args.asked _ _ c.in_ok-comparison.comparison c.deref-7.result.now c.in_err-write_all.field-0.0
    (drawn_beside g.F.JobFiles.acts _ _ c.args.asked c.in_ok-comparison.comparison _ (Ok tt) seen c.deref-3.ensures.value
    c.deref-4.ensures.value c.in_ok-comparison.ensures c.of_pages-pages.ensures c.deref-5.ensures.value c.deref-6.ensures.value
    c.in_ok-draw_difference.ensures) (c.deref-7.ensures.value ∙ c.in_ok-line.ensures) c.in_err-write_all.ensures)

pub returns : goal.returns
returns g c =
    let seen = are_seen c.args.asked c.in_ok-dpi.dpi c.in_ok-first.ensures c.in_ok-second.ensures c.deref.ensures.value
    c.deref-2.ensures.value c.in_ok-dpi.ensures in (
      drawn_beside g.F.JobFiles.acts _ _ c.args.asked c.in_ok-comparison.comparison _ (Ok tt) seen c.deref-3.ensures.value
          c.deref-4.ensures.value c.in_ok-comparison.ensures c.of_pages-pages.ensures c.deref-5.ensures.value c.deref-6.ensures.value
          c.in_ok-draw_difference.ensures,
      rw (c.deref-7.ensures.value, c.in_ok-line.ensures) at c.in_ok-write_all.ensures,
    )
