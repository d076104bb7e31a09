-- Tables of fonts as the entries of a map, and what each event does to them.
use Rattle.std.proofs.Common.{◌≡◌, ℕ, ◌≤◌, ◌+◌, Bool, true, false, ◌&&◌, cond, nat_eq, if◌then◌else◌, List, [], map, filter, Option, None, Some, is_some, IfSome, refl, sym, ap, ◌∙◌, arith}
use Rattle.pcl_fonts.proofs.Names.{eqb-true, eq-eqb, nat_tests, lookup-map_values, lookup-filter-values, option_filter, nat_eq_equiv, IsDistinct, keys_of, lookup, option_map, IndexMap, get, WritesThrough, Character, defined_font, has_code, FontEvent, header, character, control, with_permanent, font_step, character_step, FontTable, Follows, IsSame, printed, font_at, character_at, stored_character, font_in, character_in, stored_in, is_there, Entry, FontControl, Temporary, One, MakeTemporary, MakePermanent}
use Rattle.pcl_fonts.specs.Fields.{character_of as character_with}
use Rattle.pcl_fonts.specs.declared.fonts.FontControl.TheVariants as controls

abbrev pub Entries : Type 0
Entries = List (ℕ × Entry)

-- the table of some entries after this many deletions of temporary fonts
abbrev pub view : ℕ → Entries → FontTable
view deletions es = map (λ e. (e.0, stored_in e.1)) (filter (λ e. is_there deletions e.1) es)

-- an entry, if it is still there
abbrev pub live : ℕ → Option Entry → Option Entry
live deletions entry = option_filter (is_there deletions) entry

pub stored_view : (deletions : ℕ) (es : Entries) (id : ℕ) → IsDistinct nat_eq (keys_of es)
    → lookup (nat_eq id) (view deletions es) ≡ option_map stored_in (live deletions (lookup (nat_eq id) es))
stored_view deletions es id distinct =
    lookup-map_values stored_in (nat_eq id) (filter (λ (e : ℕ × Entry). is_there deletions e.1) es)
    ∙ ap (option_map stored_in) (lookup-filter-values nat_eq_equiv (is_there deletions) id es distinct)

-- what is found of an ID
pub entry_found : (deletions : ℕ) (es : Entries) (id : ℕ) {table : FontTable} {o : Option Entry} → IsDistinct nat_eq (keys_of es)
    → view deletions es ≡ table → o ≡ lookup (nat_eq id) es → option_map stored_in (live deletions o) ≡ lookup (nat_eq id) table
entry_found deletions es id distinct is found =
    ap (λ (x : Option Entry). option_map stored_in (live deletions x)) found ∙ sym (stored_view deletions es id distinct)
    ∙ ap (λ (t : FontTable). lookup (nat_eq id) t) is

-- the character of a code in an entry
abbrev pub entry_character : Option Entry → ℕ → Option Character
entry_character None code = None
entry_character (Some e) code = option_map character_in (lookup (nat_eq code) e.characters.entries)

-- a table in which these are the entries that are there, by their IDs
pub record IsSeen (table : FontTable) (entry : ℕ → Option Entry) : Type 0 where
  pub fonts : (id : ℕ) → font_at table id ≡ option_map font_in (entry id)
  pub characters : (id code : ℕ) → character_at table id code ≡ entry_character (entry id) code

pub seen : (deletions : ℕ) (es : Entries) {table : FontTable} {entry : ℕ → Option Entry} → IsDistinct nat_eq (keys_of es)
    → view deletions es ≡ table → ((id : ℕ) → live deletions (lookup (nat_eq id) es) ≡ entry id) → IsSeen table entry
seen deletions es {entry = entry} distinct is of = record {
  fonts = λ id. rw (← is, stored_view deletions es id distinct, of) (grind arith);
  characters = λ id code. rw (← is, stored_view deletions es id distinct, of) (characters (entry id) code);
}
  where
    characters : (o : Option Entry) (code : ℕ) → stored_character (option_map stored_in o) code ≡ entry_character o code
    characters None code = refl
    characters (Some e) code = lookup-map_values character_in (nat_eq code) e.characters.entries

-- the same entries
pub same_seen : {old new : FontTable} {entry : ℕ → Option Entry} → IsSeen old entry → IsSeen new entry → IsSame old new
same_seen o n = (λ id. rw (n.fonts, o.fonts), λ id code. rw (n.characters, o.characters))

-- ---- what an event makes of an entry

pub record Steps (event : FontEvent) (id : ℕ) (old new : Option Entry) : Type 0 where
  pub font : option_map font_in new ≡ font_step event id (option_map font_in old)
  pub character : (code : ℕ) → entry_character new code ≡ character_step event id code (option_map font_in old) (entry_character old code)

pub follows : {old new : FontTable} {entry later : ℕ → Option Entry} (event : FontEvent) → IsSeen old entry → IsSeen new later
    → ((id : ℕ) → Steps event id (entry id) (later id)) → Follows old new event
follows event o n steps = record {
  fonts = λ id. rw (n.fonts, o.fonts) (steps id).font;
  characters = λ id code. rw (n.characters, o.fonts, o.characters) ((steps id).character code);
}

-- temporary fonts that are gone
pub temporary_steps : (q : ℕ) (x : Option Entry) → Steps (control Temporary 0 0) q x (option_filter (λ e. e.is_permanent) x)
temporary_steps q x = record { font = grind arith; character = λ its. grind arith }

-- an event that turns the entry before of an ID into the entry after, and leaves those of other IDs
abbrev pub StepsAt : FontEvent → ℕ → Option Entry → Option Entry → Type 0
StepsAt event id before after = (q : ℕ) (x : Option Entry) → (nat_eq id q ≡ true → x ≡ before)
    → Steps event q x (cond (nat_eq id q) after x)

-- a new font
pub header_steps : (id : ℕ) {bytes : List ℕ} {before : Option Entry} (e : Entry) → font_in e ≡ defined_font bytes
    → e.characters.entries ≡ []
    → StepsAt (header id bytes) id before (Some e)
header_steps id e is none q x at = record { font = grind (arith, is); character = λ its. grind (arith, none) }

-- a font that is gone
pub one_steps : (id : ℕ) {before : Option Entry} → StepsAt (control One id 0) id before None
one_steps id q x at = record { font = grind arith; character = λ its. grind arith }

abbrev pub making : Bool → FontControl
making permanent = if permanent then MakePermanent else MakeTemporary

-- a font that gets this mark, if there is one
pub mark_steps : (permanent : Bool) (id : ℕ) (before after : Option Entry)
    → option_map font_in after ≡ option_map (with_permanent permanent) (option_map font_in before)
    → ((its : ℕ) → entry_character after its ≡ entry_character before its) → StepsAt (control (making permanent) id 0) id before after
mark_steps permanent id before after font same q x at = record {
  font = grind (arith, at, font);
  character = λ its. grind (arith, at, same its);
}

-- a character that is sent, for a font or for none
pub character_steps : (id code : ℕ) {bytes : List ℕ} (before after : Option Entry) → option_map font_in after ≡ option_map font_in before
    → ((its : ℕ) → entry_character after its
    ≡ cond (nat_eq code its && is_some (option_map font_in before)) (Some (character_with bytes)) (entry_character before its))
    → StepsAt (character id code bytes) id before after
character_steps id code before after font characters q x at = record {
  font = grind (arith, at, font);
  character = λ its. grind (arith, at, characters its);
}

-- one that is deleted
pub no_more_steps : (id code : ℕ) (before after : Option Entry) → option_map font_in after ≡ option_map font_in before
    → ((its : ℕ) → entry_character after its ≡ cond (nat_eq code its) None (entry_character before its))
    → StepsAt (control controls.Character id code) id before after
no_more_steps id code before after font characters q x at = record {
  font = grind (arith, at, font);
  character = λ its. grind (arith, at, characters its);
}

-- the character that is printed
pub printed_stored : (table : FontTable) (id code : ℕ) (e : Entry) → lookup (nat_eq id) table ≡ Some (stored_in e) → printed table id code
    ≡ (if has_code e.font_type code then option_map character_in (lookup (nat_eq code) e.characters.entries) else None)
printed_stored table id code e is = grind (arith, is, lookup-map_values character_in (nat_eq code) e.characters.entries)

-- ---- one entry of a map changes

-- the entry of an ID becomes w, those of others stay
abbrev pub Becomes : Entries → Entries → ℕ → Option Entry → Type 0
Becomes es fs id w = (q : ℕ) → lookup (nat_eq q) fs ≡ cond (nat_eq id q) w (lookup (nat_eq q) es)

-- tables with the same entries but for one ID
pub record Changes (old new : FontTable) (id : ℕ) (before after : Option Entry) : Type 0 where
  pub entry : ℕ → Option Entry
  pub seen_before : IsSeen old entry
  pub seen_after : IsSeen new (λ q. cond (nat_eq id q) after (entry q))
  pub at : (q : ℕ) → nat_eq id q ≡ true → entry q ≡ before

pub changed : (deletions : ℕ) (es fs : Entries) (id : ℕ) (w : Option Entry) {table : FontTable} {before after : Option Entry}
    → IsDistinct nat_eq (keys_of es) → view deletions es ≡ table → IsDistinct nat_eq (keys_of fs) → Becomes es fs id w
    → live deletions (lookup (nat_eq id) es) ≡ before → live deletions w ≡ after → Changes table (view deletions fs) id before after
changed deletions es fs id w distinct is unique becomes was now = record {
  entry = λ q. live deletions (lookup (nat_eq q) es);
  seen_before = seen deletions es distinct is (λ q. refl);
  seen_after = seen deletions fs unique refl (λ q. grind (arith, becomes q, now));
  at = λ q same. rw (← eqb-true id q same) was;
}

-- nothing is there and nothing changes
pub unchanged : (deletions : ℕ) (es : Entries) (id : ℕ) {table : FontTable} → IsDistinct nat_eq (keys_of es) → view deletions es ≡ table
    → lookup (nat_eq id) es ≡ None → Changes table (view deletions es) id None None
unchanged deletions es id distinct is none =
    changed deletions es es id None distinct is distinct (λ q. grind (arith, eqb-true id q, none)) (ap (live deletions) none) refl

-- what is written through a loan of an entry
pub becomes_of : {S : Type 0} (m : IndexMap ℕ Entry S) {n : IndexMap ℕ Entry S} (id : ℕ) {e f : Entry} → get nat_eq m id ≡ Some e
    → WritesThrough nat_eq (nat_eq id) m f n → Becomes m.entries n.entries id (Some f)
becomes_of m id there w = (w.3 (ap is_some there)).0

pub written : {S : Type 0} (deletions : ℕ) (m : IndexMap ℕ Entry S) {n : IndexMap ℕ Entry S} (id : ℕ) {table : FontTable} {e f : Entry}
    {before after : Option Entry} → IsDistinct nat_eq (keys_of m.entries) → view deletions m.entries ≡ table → get nat_eq m id ≡ Some e
    → WritesThrough nat_eq (nat_eq id) m f n → live deletions (Some e) ≡ before → live deletions (Some f) ≡ after
    → Changes table (view deletions n.entries) id before after
written deletions m {n} id distinct is there w was now =
    changed deletions m.entries n.entries id _ distinct is w.4 (becomes_of m id there w) (ap (live deletions) there ∙ was) now

pub follows_at : {event : FontEvent} {old new : FontTable} {id : ℕ} {before after : Option Entry} → Changes old new id before after
    → StepsAt event id before after → Follows old new event
follows_at {event} c steps = follows event c.seen_before c.seen_after (λ q. steps q (c.entry q) (c.at q))

-- another entry with the same font and characters is the same to see
pub same_to_see : {old new : FontTable} {id : ℕ} {before after : Option Entry} → Changes old new id before after
    → option_map font_in after ≡ option_map font_in before → ((its : ℕ) → entry_character after its ≡ entry_character before its)
    → IsSame old new
same_to_see c font same = (
  λ q. rw (c.seen_after.fonts, c.seen_before.fonts) (grind (arith, c.at q, font)),
  λ q its. rw (c.seen_after.characters, c.seen_before.characters) (grind (arith, c.at q, same its)),
)

-- whether a font was there
pub was_there : {old new : FontTable} (id : ℕ) {before after : Option Entry} → Changes old new id before after
    → is_some (font_at old id) ≡ is_some before
was_there id c = rw (c.seen_before.fonts, c.at id (eq-eqb id id refl)) (grind arith)

-- ---- what is there after deletions of temporary fonts

pub live_when : (deletions : ℕ) (e : Entry) {b : Bool} → b ≡ is_there deletions e → live deletions (Some e) ≡ cond b (Some e) None
live_when deletions e is = ap (λ (t : Bool). cond t (Some e) None) (sym is)

-- one that was sent after the last of them
pub sent_now : (deletions : ℕ) (e : Entry) → e.deletions ≡ deletions → live deletions (Some e) ≡ Some e
sent_now deletions e is = grind (arith, eq-eqb e.deletions deletions is)

-- after one more an entry is there where it is permanent
pub one_more : (deletions : ℕ) (entry : Option Entry) → IfSome entry (λ e. e.is_permanent ≡ false → e.deletions ≤ deletions)
    → live (deletions + 1) entry ≡ option_filter (λ e. e.is_permanent) (live deletions entry)
one_more deletions None earlier = refl
one_more deletions (Some e) earlier = grind (arith, nat_tests, earlier)

-- and so where those are kept that are permanent
pub kept : (deletions : ℕ) (entry : Option Entry)
    → live 0 (option_filter (λ e. e.is_permanent) entry) ≡ option_filter (λ e. e.is_permanent) (live deletions entry)
kept deletions x = grind arith

-- none of them is from after a deletion
pub kept_permanent : (entry : Option Entry)
    → IfSome (option_filter (λ e. e.is_permanent) entry) (λ e. e.is_permanent ≡ false → e.deletions ≤ 0)
kept_permanent None = tt
kept_permanent (Some e) = grind arith

abbrev pub IsEarlier : ℕ → Entry → Type 0
IsEarlier deletions e = e.is_permanent ≡ false → e.deletions ≤ deletions

-- no entry is from after a later deletion than the last
pub earlier_becomes : (deletions : ℕ) (es fs : Entries) (id : ℕ) {e : Entry} (f : Entry) → lookup (nat_eq id) es ≡ Some e
    → Becomes es fs id (Some f) → (IsEarlier deletions e → IsEarlier deletions f)
    → ((q : ℕ) → IfSome (lookup (nat_eq q) es) (IsEarlier deletions)) → (q : ℕ) → IfSome (lookup (nat_eq q) fs) (IsEarlier deletions)
earlier_becomes deletions es fs id f there b same earlier q = grind (arith, b q, there, same, earlier id, earlier q)
