use Rattle.std.proofs.Common.{◌≡◌, ℕ, ◌<◌, ◌≤◌, ◌||◌, length, get_or, false}
use Rattle.pcl_base.specs.Limits.{page_limit}
use Rattle.pcl_preview.specs.PageImages.{is_between}
use Rattle.pcl_preview.proofs.page_images.PageSet.with.Given as goal

abbrev pub invariant-loop-before : goal.invariant-loop-before
invariant-loop-before l =
    (length l.flags ≡ page_limit)
    × ((k : ℕ) → k < l.before → get_or l.flags k false ≡ (get_or l.fn.self.flags k false || is_between l.fn.first l.fn.last k))
    × ((k : ℕ) → l.before ≤ k → get_or l.flags k false ≡ get_or l.fn.self.flags k false)
