-- The count of a certificate's pages, in four bytes after eight.
use Rattle.std.proofs.Common.{◌≡◌, ℕ, ◌+◌, List, ◌++◌, length, take, drop, refl, sym, append_assoc}
use Rattle.pcl_cert.proofs.Names.{w32, to_be_bytes, take_at, drop_at}
use borrow.Rule.Slice.PartMut.{put_mid}

-- the four bytes of the count
after_front : (front rest : List ℕ) {old : List ℕ} (pages : ℕ) → length front ≡ 8 → old ≡ front ++ to_be_bytes w32 pages ++ rest
    → drop 8 old ≡ to_be_bytes w32 pages ++ rest
after_front front rest pages size is =
    rw (is, append_assoc front (to_be_bytes w32 pages) rest) (drop_at front (to_be_bytes w32 pages ++ rest) 8 size)

pub count_there : (front rest : List ℕ) {old : List ℕ} (pages : ℕ) → length front ≡ 8 → old ≡ front ++ to_be_bytes w32 pages ++ rest
    → take 4 (drop 8 old) ≡ to_be_bytes w32 pages
count_there front rest pages size is = rw (after_front front rest pages size is) refl

-- other four bytes in their place
pub count_put : (front rest : List ℕ) {old count : List ℕ} (pages : ℕ) → length front ≡ 8 → old ≡ front ++ to_be_bytes w32 pages ++ rest
    → count ≡ to_be_bytes w32 (pages + 1) → put_mid 8 4 old count ≡ front ++ to_be_bytes w32 (pages + 1) ++ rest
count_put front rest {old} pages size is spelled =
    let before : take 8 old ≡ front =
    rw (is, append_assoc front (to_be_bytes w32 pages) rest) (take_at front (to_be_bytes w32 pages ++ rest) 8 size) in
    let after : drop 4 (drop 8 old) ≡ rest = rw (after_front front rest pages size is) refl in
    rw (before, after, spelled) (sym (append_assoc front (to_be_bytes w32 (pages + 1)) rest))
