-- What stands between two resets.
use Rattle.std.proofs.Common.{◌≡◌, ℕ, List, ◌++◌, Option, Some, None, sym, ◌∙◌, ◌≢◌, MatchOption}
use Rattle.pcl_tool.proofs.Names.{Bor, append_cancel_left, frame_bytes}

-- the front is a reset, and what stands after it ends in one or doesn't
pub framed_is : {output rest : List ℕ} (texts : Option (Bor (List ℕ))) → output ≡ frame_bytes ++ rest
    → MatchOption texts ((front : List ℕ) → rest ≢ front ++ frame_bytes) (λ t. rest ≡ t.now ++ frame_bytes)
    → MatchOption texts ((others : List ℕ) → output ≡ frame_bytes ++ others ++ frame_bytes → ⊥)
    (λ t. output ≡ frame_bytes ++ t.now ++ frame_bytes)
framed_is {rest} None e m = λ others f. m others (append_cancel_left frame_bytes rest (others ++ frame_bytes) (sym e ∙ f))
framed_is (Some texts) e m = rw (e, m)
