-- What reads one thing and the text that spells it: whatever is read is spelled so, and what is spelled is read.
use Rattle.std.proofs.Common.{◌≡◌, ℕ, zero, suc, ◌<◌, false, ltb, List, [], ◌∷◌, ◌++◌, length, take, Ok, refl, sym, ap, ◌∙◌, append_assoc, arith}
use Rattle.pcl_cert.proofs.Names.{Width, byte_len, to_be_bytes, flat_map, AllByRecursion, ltb-false, le-ltb, take_at, drop_at, take-append-drop, length-append, flat_map-cons, Short, uint_at}
use Rattle.pcl_cert.proofs.FieldsRead.{AreBytes, rest_bytes, front_bytes, Splits, splits_both, step_ok, passed, same_ok, IsNumberWidth, front_spelled}
use Rattle.pcl_cert.proofs.Loops.{Reader, IsMany}

pub record Spells {X : Type 0} (one : Reader X) (text : X → List ℕ) (Fits : X → Type 0) : Type 0 where
  pub found : (bytes : List ℕ) (x : X × List ℕ) → AreBytes bytes → one bytes ≡ Ok x → Splits bytes (text x.0) x.1 × Fits x.0
  pub again : (x : X) (rest : List ℕ) → Fits x → one (text x ++ rest) ≡ Ok (x, rest)

pub number_spells : {w : Width} {limit : ℕ} → IsNumberWidth w limit → Spells (uint_at w) (to_be_bytes w) (λ n. n < limit)
number_spells {w} is = record {
  found = λ bytes x are e.
      let front : List ℕ = take (byte_len w) bytes in
      let test = passed (ltb (length bytes) (byte_len w)) Short e in
      rw (← same_ok test.1) (
        record {
          joined = rw (front_spelled is bytes are (ltb-false _ _ test.0)) (sym (take-append-drop (byte_len w) bytes));
          rest_are = rest_bytes (byte_len w) bytes are;
        },
        is.below front (front_bytes (byte_len w) bytes are),
      );
  again = λ n rest lt.
      let text : List ℕ = to_be_bytes w n in
      let long : ltb (length (text ++ rest)) (byte_len w) ≡ false = le-ltb _ _ (omega (arith, length-append text rest, is.len n)) in
      rw (long, take_at text rest (byte_len w) (is.len n), drop_at text rest (byte_len w) (is.len n), is.again n lt) refl;
}

-- ---- many things

module _ {X : Type 0} {one : Reader X} {many : ℕ → Reader (List X)} {text : X → List ℕ} {Fits : X → Type 0}
    (is : IsMany one many) (spells : Spells one text Fits) where
  many_found : (n : ℕ) (bytes : List ℕ) (x : List X × List ℕ) → AreBytes bytes → many n bytes ≡ Ok x
      → Splits bytes (flat_map text x.0) x.1 × ((length x.0 ≡ n) × AllByRecursion Fits x.0)
  many_found zero bytes x are e = rw (← same_ok (sym (is.none bytes) ∙ e)) (record { joined = refl; rest_are = are }, (refl, tt))
  many_found (suc n) bytes x are e =
      let first = step_ok (one bytes) (sym (is.more n bytes) ∙ e) in
      let later = step_ok (many n first.0.1) first.2 in
      let one_is = spells.found bytes first.0 are first.1 in
      let many_is = many_found n first.0.1 later.0 one_is.0.rest_are later.1 in
      rw (← same_ok later.2) (rw flat_map-cons (splits_both one_is.0 many_is.0), (ap suc many_is.1.0, (one_is.1, many_is.1.1)))

  many_again : (xs : List X) (rest : List ℕ) → AllByRecursion Fits xs → many (length xs) (flat_map text xs ++ rest) ≡ Ok (xs, rest)
  many_again [] rest fits = is.none rest
  many_again (x ∷ xs) rest fits =
      rw (flat_map-cons, append_assoc, is.more, spells.again x (flat_map text xs ++ rest) fits.0, many_again xs rest fits.1)

  -- this many things
  pub many_spell : (n : ℕ) → Spells (many n) (flat_map text) (λ xs. (length xs ≡ n) × AllByRecursion Fits xs)
  many_spell n = record { found = many_found n; again = λ xs rest fits. rw (← fits.0) (many_again xs rest fits.1) }
