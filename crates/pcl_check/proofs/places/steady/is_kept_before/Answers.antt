use Rattle.std.proofs.Common.{◌≡◌, ℕ, ◌+◌, ◌<◌, ◌≤◌, min, List, inl, inr, arith}
use Rattle.pcl_check.proofs.Names.{slice_index, cases_lt, replacement_bytes, near_bytes, far_bytes}
use Rattle.pcl_check.proofs.places.steady.is_kept_before.Goals as goal

-- what no command of so few bytes undercuts is kept where the next one reaches no farther
kept_near : (number : ℕ) (least : List ℕ) (place start : ℕ) {one two : ℕ} → one ≡ min start (place + 30) → two ≡ min start (place + 285)
    → number + one ≤ 1 + slice_index least (one + 1) → number + two ≤ 2 + slice_index least (two + 1)
    → (offset : ℕ) → offset < 286 → place + offset ≤ start
    → (far : ℕ) × (place + offset ≤ far) × (far ≤ start) × (number + far ≤ replacement_bytes offset + slice_index least (far + 1))
kept_near number least place start {one} {two} first second a b offset few within =
    elim (cases_lt offset 31) [
      | inl near ↦ (one, omega arith, omega arith, omega (arith, near_bytes offset))
      | inr far ↦ (two, omega arith, omega arith, omega (arith, far_bytes offset))
    ]

pub returns-then-start-place-2 : goal.returns-then-start-place-2
returns-then-start-place-2 c near offset within =
    let le : c.args.start ≤ c.args.place + 285 = c.if-start-place-2.true in
    kept_near c.args.number c.args.least.now c.args.place c.args.start c.min.ensures c.min-else-start-place.ensures
    (c.is_kept.ensures c.if-is_kept.true) (c.is_kept-else-start-place.ensures c.if-is_kept-2.true) offset (omega arith) within

pub returns-then-is_kept-3 : goal.returns-then-is_kept-3
returns-then-is_kept-3 c last offset within =
    elim (cases_lt offset 286) [
      | inl few ↦
          kept_near c.args.number c.args.least.now c.args.place c.args.start c.min.ensures c.min-else-start-place.ensures
          (c.is_kept.ensures c.if-is_kept.true) (c.is_kept-else-start-place.ensures c.if-is_kept-2.true) offset few within
      | inr far ↦
          elim (cases_lt offset 541) [
            | inl three ↦ (
              c.min-else-start-place-2.result,
              omega (arith, c.min-else-start-place-2.ensures),
              omega (arith, c.min-else-start-place-2.ensures),
              omega (arith, far_bytes offset, c.is_kept-else-start-place-2.ensures c.if-is_kept-3.true),
            )
            | inr four ↦ (c.args.start, within, omega arith, omega (arith, far_bytes offset, c.is_kept-then-is_kept-3.ensures last))
          ]
    ]
