-- The body of a page along the steps of its plan.
use Rattle.std.proofs.Common.{◌≡◌, ℕ, ◌≤◌, Bool, true, false, List, [], ◌∷◌, ◌++◌, length, drop, refl, sym, ap, subst, ◌∙◌, inl, inr, append_assoc, arith, not, ◌&&◌, ◌==◌}
use Rattle.pcl_writer.proofs.Names.{drop_of_length-le, cases_lt, nat_tests, flat_map, append-nil, drop_more, flat_map-append, Method, method_code, Picture, IsLeastLength, AppendsLeast, Walk, total, IsFeasible, Step, Skip, Switch, Row, Token, opening, method, skip, send, token_bytes, IsSpelled, bitmap_rows, Node, start, row_at, Leads, Ends, cost, stays_inside, node_after, least_spelling, node_number, StepsAndTable, IsTokenOf, opened, none_follow, node, cost_opening, cost_send, least_alone, opened_more, spells_any, step_is_least, sent_is_least, width_of, above, IsBitmapPlan, IsWritable, HasRowData, AppendsRow, AppendsStep, AppendsBody}
use Rattle.pcl_plan.specs.Plans.{Spells}

pub page_joined : (old : List ℕ) {one two three : List ℕ} (start body tail : List ℕ) → one ≡ old ++ start → two ≡ one ++ body
    → three ≡ two ++ tail → three ≡ old ++ (start ++ body ++ tail)
page_joined old start body tail a b c = simp (c, b, a, append_assoc)

-- the tokens are a walk from the node
abbrev pub IsWalk : Picture → Node → List Token → Type 0
IsWalk picture = Walk (Leads (width_of picture) (bitmap_rows picture)) (Ends (bitmap_rows picture))

-- ---- the token of a step

skip_token : {count : ℕ} {ends : Bool} (token : Token) → IsTokenOf (Skip count) ends token → token ≡ skip (least_spelling count) count ends
skip_token (skip digits rows capital) t = let a = t.0 in let b = t.1 in let e = t.2 in cc
skip_token token t = absurd t

switch_token : {next : Method} {ends : Bool} (token : Token) → IsTokenOf (Switch next) ends token → token
    ≡ method (least_spelling (method_code next)) next ends
switch_token (method digits current capital) t = let a = t.0 in let b = t.1 in let e = t.2 in cc
switch_token token t = absurd t

row_token : {count : ℕ} (ends : Bool) (token : Token) → IsTokenOf (Row count) ends token → (bytes : List ℕ)
    × (token ≡ send (least_spelling count) bytes) × (length bytes ≡ count)
row_token ends (send digits bytes) t = (bytes, ap (λ (d : List ℕ). send d bytes) t.1, t.0)
row_token ends token t = absurd t

-- another token of the same step leads to the same node, and costs the same
pub record LeadsToo (picture : Picture) (place after : Node) (token written : Token) (b : Node) : Type 0 where
  pub there : b ≡ after
  pub leads : Leads (width_of picture) (bitmap_rows picture) (node place.row place.method true) written b
  pub costs : cost written ≡ cost token
  pub within : after.row ≤ length (bitmap_rows picture)

leads_too : {picture : Picture} {place after : Node} (step : Step) (ends : Bool) {token written : Token} {b : Node}
    → place.row ≤ length (bitmap_rows picture) → IsTokenOf step ends token → IsTokenOf step ends written
    → HasRowData picture place.row place.method written
    → after ≡ node_after place step ends → Leads (width_of picture) (bitmap_rows picture) (node place.row place.method true) token b
    → LeadsToo picture place after token written b
leads_too (Skip count) ends {token} {written} before t w d p l =
    let led = rw (skip_token token t) at l in
    let same : written ≡ token = skip_token written w ∙ sym (skip_token token t) in
    record { within = omega (arith, ap (λ (n : Node). n.row) p, led.3); there = led.5 ∙ sym p; leads = rw same l; costs = ap cost same }
leads_too (Switch next) ends {token} {written} before t w d p l =
    let led = rw (switch_token token t) at l in
    let same : written ≡ token = switch_token written w ∙ sym (switch_token token t) in
    record { within = omega (arith, ap (λ (n : Node). n.row) p, before); there = led.2 ∙ sym p; leads = rw same l; costs = ap cost same }
leads_too (Row count) ends {token} {written} before t w d p l =
    let one = row_token ends token t in
    let other = row_token ends written w in
    let led = rw one.1 at l in
    let whole = rw other.1 at d in
    let spelled : IsSpelled (least_spelling count) (length other.0) = rw other.2 (rw one.2 at led.1) in
    record {
      within = omega (arith, ap (λ (n : Node). n.row) p, led.2);
      there = led.4 ∙ sym p;
      leads = rw other.1 (refl, spelled, led.2, whole, led.4);
      costs = rw (one.1, other.1)
          (omega (arith, cost_send (least_spelling count) one.0, cost_send (least_spelling count) other.0, one.2, other.2));
    }

-- ---- a walk from inside a sequence

-- a walk that costs what a node's number is
abbrev pub IsLeastWalk : Picture → (Node → ℕ) → Node → List Token → Type 0
IsLeastWalk picture number place tokens = IsWalk picture place tokens × (total cost tokens ≡ number place)

pub record IsOpened (picture : Picture) (number : Node → ℕ) (row : ℕ) (current : Method) (is_open : Bool) (tokens : List Token) : Type 0
  where
    pub walk : IsWalk picture (node row current true) tokens
    pub total_is : total cost tokens ≡ number (node row current true)
    pub back : (other : List Token) → IsLeastWalk picture number (node row current true) other
        → IsLeastWalk picture number (node row current is_open) (opened is_open other)

opened_is : {picture : Picture} {number : Node → ℕ} → IsFeasible (Leads (width_of picture) (bitmap_rows picture))
    (Ends (bitmap_rows picture)) cost number → {row : ℕ} {current : Method} (is_open : Bool) {tokens : List Token}
    → IsWalk picture (node row current is_open) (opened is_open tokens)
    → total cost (opened is_open tokens) ≡ number (node row current is_open) → IsOpened picture number row current is_open tokens
opened_is feasible true w t = record { walk = w; total_is = t; back = λ other v. v }
opened_is {picture} {number} feasible {row} {current} false {tokens} w t =
    let s = step_is_least (width_of picture) feasible (node row current false) opening tokens w.1 w.1.1 w.2 t in
    record {
      walk = s.1;
      total_is = s.2;
      back = λ other v. ((node row current true, (refl, refl), v.0), omega (arith, v.1, s.0, cost_opening));
    }

-- ---- what is written

-- what is written up to a node, and what is to come
pub record IsWrittenTo (picture : Picture) (table : StepsAndTable) (old now : List ℕ) (todo : List Step) (place : Node) : Type 0 where
  pub within : place.row ≤ length (bitmap_rows picture)
  pub done : List Token
  pub spelled : now ≡ old ++ flat_map token_bytes done
  pub left : List Token
  pub spells : Spells place.inside todo left
  pub walk : IsWalk picture place left
  pub total_is : total cost left ≡ node_number table.table place
  pub goes_on : (rest : List Token) → IsLeastWalk picture (node_number table.table) place rest
      → IsLeastWalk picture (node_number table.table) start (done ++ rest)

pub begin : {picture : Picture} {plan : StepsAndTable} (old : List ℕ) → IsBitmapPlan picture plan
    → IsWrittenTo picture plan old old plan.steps start
begin old is = record {
  within = omega arith;
  done = [];
  spelled = sym (append-nil old);
  left = is.tokens;
  spells = is.spelled;
  walk = is.walk;
  total_is = is.total_is;
  goes_on = λ rest w. w;
}

-- the token that comes next
pub record IsNextToken (picture : Picture) (plan : StepsAndTable) (place : Node) (step : Step) (more : List Step) : Type 0 where
  pub token : Token
  pub rest : List Token
  pub is_of : IsTokenOf step (none_follow more) token
  pub spells : Spells (stays_inside step) more rest
  pub from : IsOpened picture (node_number plan.table) place.row place.method place.inside (token ∷ rest)

next_token : {picture : Picture} {plan : StepsAndTable} {old now : List ℕ} {step : Step} {more : List Step} {place : Node}
    → IsBitmapPlan picture plan → IsWrittenTo picture plan old now (step ∷ more) place → IsNextToken picture plan place step more
unfolding Spells
next_token {picture} {place} is w =
    let s = w.spells in
    record {
      token = s.0;
      rest = s.1;
      is_of = s.2;
      spells = s.4;
      from = opened_is is.feasible place.inside (rw s.3 at w.walk) (ap (total cost) (sym s.3) ∙ w.total_is);
    }

-- a row that comes next is sent by as few bytes as can be
pub writable : {picture : Picture} {plan : StepsAndTable} {old now : List ℕ} (step : Step) {more : List Step} {place : Node}
    → IsBitmapPlan picture plan → IsWrittenTo picture plan old now (step ∷ more) place → IsWritable picture place.row place.method step
writable (Skip count) is w = tt
writable (Switch next) is w = tt
writable {picture} (Row count) {more} {place} is w =
    let n = next_token is w in
    let one = row_token (none_follow more) n.token n.is_of in
    let walk = rw one.1 at n.from.walk in
    let total_is = rw one.1 at n.from.total_is in
    let least = sent_is_least (width_of picture) is.feasible place.row place.method walk.0 (least_spelling count) one.0 n.rest walk.1
    walk.2 total_is in
    (walk.1.2, rw one.2 at least)

-- after the last step it makes no difference whether a sequence is open
goes_on_open : (step : Step) {last : Bool} → last ≡ false → stays_inside step ≡ (stays_inside step && not last)
goes_on_open (Skip count) e = sym (ap not e)
goes_on_open (Switch next) e = sym (ap not e)
goes_on_open (Row count) e = refl

pub written_more : {picture : Picture} {plan : StepsAndTable} {old now new : List ℕ} {step : Step} {more : List Step}
    {place after : Node} → IsBitmapPlan picture plan → IsWrittenTo picture plan old now (step ∷ more) place
    → AppendsStep picture place step (none_follow more) now new → after ≡ node_after place step (none_follow more)
    → IsWrittenTo picture plan old new more after
written_more {picture} {plan} {old} {step} {more} {place} {after} is w a p =
    let n = next_token is w in
    let walk = n.from.walk in
    let from = node place.row place.method true in
    let too = leads_too {picture = picture} {place = place} {after = after} step (none_follow more) w.within n.is_of a.1 a.2 p walk.1 in
    let s = step_is_least (width_of picture) is.feasible from n.token n.rest walk.1 too.there walk.2 n.from.total_is in
    let token : List Token = opened place.inside (a.0 ∷ []) in
    record {
      within = too.within;
      done = w.done ++ token;
      spelled = a.3 ∙ rw (w.spelled, flat_map-append token_bytes w.done token, append_assoc);
      left = n.rest;
      spells = spells_any more n.rest (λ others. goes_on_open step others ∙ sym (ap (λ (n : Node). n.inside) p)) n.spells;
      walk = s.1;
      total_is = s.2;
      goes_on = λ rest v.
          let there = subst (λ (x : Node). IsWalk picture x rest) (sym too.there) v.0 in
          rw (append_assoc w.done token rest, ← opened_more place.inside a.0 rest)
          (w.goes_on _ (n.from.back (a.0 ∷ rest) ((walk.0, too.leads, there), omega (arith, v.1, s.0, too.costs))));
    }

pub written_all : {picture : Picture} {plan : StepsAndTable} {old now : List ℕ} {place : Node}
    → IsWrittenTo picture plan old now [] place → AppendsBody picture plan old now
unfolding Spells
written_all w =
    let none : w.left ≡ [] = w.spells in
    let g = rw (none, append-nil w.done) at (w.goes_on w.left (w.walk, w.total_is)) in
    (w.done, w.spelled, g.0, g.1)

-- a token after the opening of its sequence
pub opened_bytes : (is_open : Bool) (token : Token) → flat_map token_bytes (opened is_open []) ++ token_bytes token
    ≡ flat_map token_bytes (opened is_open (token ∷ []))
opened_bytes true token = sym (append-nil (token_bytes token))
opened_bytes false token = simp append_assoc (ap (λ (t : List ℕ). token_bytes opening ++ t) (sym (append-nil (token_bytes token))))

-- the last step by its place
pub ends_at : (steps : List Step) {k : ℕ} → k ≤ length steps → none_follow (drop k steps) ≡ (k == length steps)
ends_at steps {k} le =
    elim (cases_lt k (length steps)) [
      | inl lt ↦ rw (drop_more steps k (Skip 0) lt) (grind (arith, nat_tests))
      | inr ge ↦ rw (drop_of_length-le steps ge) (grind (arith, nat_tests))
    ]

-- a row's data after its length
pub appended_row : (picture : Picture) (y : ℕ) {current : Method} {count : ℕ} (old : List ℕ) {one mid new seed row : List ℕ} → row
    ≡ row_at (bitmap_rows picture) y → seed ≡ above picture y
    → IsLeastLength current (above picture y) (row_at (bitmap_rows picture) y) count → one ≡ old ++ least_spelling count → mid
    ≡ one ++ 87 ∷ [] → AppendsLeast current seed row mid new → AppendsRow picture y current count old new
appended_row picture y old r s least a b appends =
    let is = rw (r, s) at appends in
    (is.bytes, is.whole, least_alone is.least least, is.joined ∙ simp (b, a, append_assoc))
