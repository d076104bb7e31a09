-- Each page of a job was asked with something.
use Rattle.std.proofs.Common.{◌≡◌, ℕ, List, length, refl, ap, arith}
use Rattle.pcl_same.proofs.Names.{Profile, rest_grows, at_start, Dpi, Asks, HasPagesBy, HasAsksBy, performance, pages_of, Sheet}

-- a job has one list of pages
abbrev pub OnePages : Profile → Type 0
OnePages profile =
    (dpi : Dpi) (job : List ℕ) (pages others : List Sheet) → HasPagesBy profile dpi job pages → HasPagesBy profile dpi job others
    → pages ≡ others

pub asked_pages : {profile : Profile} → OnePages profile → {dpi : Dpi} {job : List ℕ} {pages : List Sheet} {asks : Asks}
    → HasPagesBy profile dpi job pages → HasAsksBy profile dpi job asks
    → length asks.pages ≡ length pages
asked_pages {profile} one {dpi} {job} {pages} meaning asked =
    let whole = performance profile dpi (length job) asked.commands in
    let again : HasPagesBy profile dpi job (pages_of whole) =
    record { commands = asked.commands; reading = asked.reading; accepted = asked.accepted; ejected = refl } in
    let grown = rest_grows dpi (length job) asked.commands 0 asked.commands (at_start profile) in
    let same = one dpi job (pages_of whole) pages again meaning in
    omega (arith, ap (λ (a : Asks). length a.pages) asked.asked, grown.2, ap length grown.1, ap length same)
