use Rattle.std.proofs.Common.{◌≡◌, ◌<◌, ◌∷◌, ◌+◌, ◌∙◌, List, ℕ, Some, None, length, drop, get_or, refl, sym, ap, rules, add-one, drop-cons}
use Rattle.pcl_page.proofs.Names.{option_map, IsTrue, character_in, font_in_use, prints, drawn_character, IsInked}
use Rattle.pcl_page.proofs.Printed.{same_character, code_done, blank_passed_in, inked_last, last_now, last_still}
use Rattle.pcl_page.proofs.performer.Performer.print_codes.Goals as goal
use Rattle.pcl_page.proofs.performer.Performer.print_codes.Goals.{in-Some+in_ok-print_glyph-in-Some, in-None}

-- the next code and those after it
next_is : (codes : List ℕ) {i : ℕ} (default : ℕ) → i < length codes → drop i codes ≡ get_or codes i default ∷ drop (i + 1) codes
next_is codes {i} default lt = rw (add-one, drop-cons codes i default) refl

pub loop-code-preserved : goal.loop-code-preserved
loop-code-preserved g c = λ s i.
    let code = get_or c.args.codes.now c.loop-code.code-index 0 in
    let characters = prints s.fonts (font_in_use s.settings) in
    let next = next_is c.args.codes.now 0 c.loop-code-test.true in
    let so_far = c.loop-code.invariant s i in
    let p = rw next at so_far.0 in
    let found = c.glyph.ensures c.args.dpi p.now p.is_in in
    elim c.match-glyph.branch [
      | in-Some+in_ok-print_glyph-in-Some w ↦
          let here = w.at_cursor-here.result in
          let printed = character_in w.in-Some.glyph in
          let is = sym (ap (option_map character_in) w.in-Some.is) ∙ found in
          let its : Some printed ≡ characters here.code =
          same_character p code (Some printed) is ∙ ap characters (sym w.at_cursor-here.ensures.code) in
          let inked : IsTrue w.eq.result → IsInked (drawn_character c.args.dpi c.args.font printed here.x here.y) c.loop-code.self =
          λ same. inked_last c.loop-code.last here p so_far.1 (search rules) its in
          rw (w.self-is, w.last-is) (
            code_done code (Some printed) p is (w.in_ok-print_glyph-in-Some.ensures.printed p.now code p.is_in inked),
            last_now c.args.dpi c.args.font characters here its (w.in_ok-print_glyph-in-Some.ensures.inked inked),
          )
      | in-None w ↦
          rw (w.self-is, w.last-is) (
            code_done code None p (sym (ap (option_map character_in) w.in-None.is) ∙ found)
                (blank_passed_in code p.is_in w.pass_blank.ensures),
            last_still c.args.dpi c.args.font characters c.loop-code.last so_far.1 w.pass_blank.ensures,
          )
    ]
