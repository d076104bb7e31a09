-- Tables of macros as the entries of a map, and what each event does to them.
use Rattle.std.proofs.Common.{◌≡◌, ℕ, ◌≤◌, ◌+◌, Bool, true, false, cond, nat_eq, List, map, filter, Option, None, Some, is_some, IfSome, refl, ap, ◌∙◌, arith}
use Rattle.pcl_macros.proofs.Names.{eqb-true, eq-eqb, nat_tests, lookup-map_values, lookup-filter-values, option_filter, nat_eq_equiv, IsDistinct, keys_of, lookup, option_map, IndexMap, get, WritesThrough, MacroEvent, MacroBody, control, with_permanent, if_permanent, body_step, Begun, MacroTable, Follows, macro_at, macro_in, is_there, Body, MacroControl, MakeTemporary, MakePermanent}

abbrev pub Entries : Type 0
Entries = List (ℕ × Body)

-- the table of some entries after this many deletions of temporary macros
abbrev pub view : ℕ → Entries → Option Begun → MacroTable
view deletions es begun = record { bodies = map (λ e. (e.0, macro_in e.1)) (filter (λ e. is_there deletions e.1) es); begun = begun }

-- the macro of a body, if it is still there
abbrev pub found : ℕ → Option Body → Option MacroBody
found deletions body = option_map macro_in (option_filter (is_there deletions) body)

pub macro_view : (deletions : ℕ) (es : Entries) (begun : Option Begun) (id : ℕ) → IsDistinct nat_eq (keys_of es)
    → macro_at (view deletions es begun) id ≡ found deletions (lookup (nat_eq id) es)
macro_view deletions es begun id distinct =
    lookup-map_values macro_in (nat_eq id) (filter (λ (e : ℕ × Body). is_there deletions e.1) es)
    ∙ ap (option_map macro_in) (lookup-filter-values nat_eq_equiv (is_there deletions) id es distinct)

-- the macro of an ID in the table of a map
pub macro_of : (deletions : ℕ) (es : Entries) (begun : Option Begun) {table : MacroTable} (id : ℕ) {body : Option Body}
    → IsDistinct nat_eq (keys_of es) → view deletions es begun ≡ table → body ≡ lookup (nat_eq id) es
    → found deletions body ≡ macro_at table id
macro_of deletions es begun id distinct is there = rw (← is, macro_view deletions es begun id distinct, there)

-- an event that does its part to each body
pub follows_by : (deletions later : ℕ) (es fs : Entries) (begun ends : Option Begun) {table : MacroTable} (event : MacroEvent)
    → IsDistinct nat_eq (keys_of es) → IsDistinct nat_eq (keys_of fs) → view deletions es begun ≡ table
    → ((id : ℕ) → found later (lookup (nat_eq id) fs) ≡ body_step event id (found deletions (lookup (nat_eq id) es)))
    → Follows table (view later fs ends) event
follows_by deletions later es fs begun ends event distinct unique is steps id =
    rw (← is, macro_view later fs ends id unique, macro_view deletions es begun id distinct) (steps id)

-- one that leaves the definition that is begun
pub follows_only : (deletions later : ℕ) (es fs : Entries) (begun : Option Begun) {table : MacroTable} (event : MacroEvent)
    → IsDistinct nat_eq (keys_of es) → IsDistinct nat_eq (keys_of fs) → view deletions es begun ≡ table
    → ((id : ℕ) → found later (lookup (nat_eq id) fs) ≡ body_step event id (found deletions (lookup (nat_eq id) es)))
    → Follows table (view later fs begun) event × (begun ≡ table.begun)
follows_only deletions later es fs begun event distinct unique is steps =
    (follows_by deletions later es fs begun begun event distinct unique is steps, ap (λ (t : MacroTable). t.begun) is)

-- ---- one entry changes

-- the entry of an ID becomes w, those of others stay
abbrev pub Becomes : Entries → Entries → ℕ → Option Body → Type 0
Becomes es fs id w = (q : ℕ) → lookup (nat_eq q) fs ≡ cond (nat_eq id q) w (lookup (nat_eq q) es)

pub found_becomes : (deletions : ℕ) (es fs : Entries) (id : ℕ) (w : Option Body) → Becomes es fs id w → (q : ℕ)
    → found deletions (lookup (nat_eq q) fs) ≡ cond (nat_eq id q) (found deletions w) (found deletions (lookup (nat_eq q) es))
found_becomes deletions es fs id w b q = grind (arith, b q)

-- nothing changes
pub stays : (es : Entries) (id : ℕ) {w : Option Body} → lookup (nat_eq id) es ≡ w → Becomes es es id w
stays es id there q = grind (arith, eqb-true id q, there)

-- what is written through a loan of an entry
pub becomes_of : {S : Type 0} (m : IndexMap ℕ Body S) {n : IndexMap ℕ Body S} (id : ℕ) {e f : Body} → get nat_eq m id ≡ Some e
    → WritesThrough nat_eq (nat_eq id) m f n → Becomes m.entries n.entries id (Some f)
becomes_of m id there w = (w.3 (ap is_some there)).0

-- a body of now is there
pub there_now : (deletions from to : ℕ) (permanent : Bool)
    → found deletions (Some (record { from = from; to = to; is_permanent = permanent; deletions = deletions }))
    ≡ Some (record { from = from; to = to; permanent = permanent })
there_now deletions from to permanent = grind (arith, eq-eqb deletions deletions refl)

-- ---- temporary and permanent macros

abbrev pub making : Bool → MacroControl
making permanent = cond permanent MakePermanent MakeTemporary

-- the macro of an ID is marked, if there is one
pub mark : (permanent : Bool) (deletions : ℕ) (es fs : Entries) (id : ℕ) (w : Option Body) (before : Option MacroBody)
    → found deletions (lookup (nat_eq id) es) ≡ before → Becomes es fs id w
    → found deletions w ≡ option_map (with_permanent permanent) before → (q : ℕ) → found deletions (lookup (nat_eq q) fs)
    ≡ body_step (control (making permanent) id) q (found deletions (lookup (nat_eq q) es))
mark permanent deletions es fs id w before was b now q = grind (arith, b q, eqb-true id q, was, now)

-- ---- macros that are deleted

-- after one more deletion a body is there where it is permanent
pub one_more : (deletions : ℕ) (body : Option Body) → IfSome body (λ b. b.is_permanent ≡ false → b.deletions ≤ deletions)
    → found (deletions + 1) body ≡ if_permanent (found deletions body)
one_more deletions None earlier = refl
one_more deletions (Some b) earlier = grind (arith, nat_tests, earlier)

-- and so where those are kept that are permanent
pub kept : (deletions : ℕ) (body : Option Body) → found 0 (option_filter (λ b. b.is_permanent) body) ≡ if_permanent (found deletions body)
kept deletions body = grind arith

-- none of them is from after a deletion
pub kept_permanent : (body : Option Body)
    → IfSome (option_filter (λ b. b.is_permanent) body) (λ b. b.is_permanent ≡ false → b.deletions ≤ 0)
kept_permanent None = tt
kept_permanent (Some b) = grind arith
