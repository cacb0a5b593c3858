-- A thread that has something to do takes each place of its branch.
use Rattle.std.proofs.Common.{◌≡◌, ℕ, zero, suc, ◌-◌, Bool, true, false, ◌||◌, List, [], ◌∷◌, ◌++◌, map, refl, ap, ◌∙◌}
use Rattle.std.specs.Prelude.{Option, Some, None, Ok, Err, is_some, option_map, bytes_eq, nat_le, if◌then◌else◌}
use Rattle.std.specs.List.{list_any}
use Rattle.std.specs.Option.{option_map_or}
use Rattle.ha_config.specs.declared.config.RepeatKind.{RepeatKind}
use Rattle.ha_config.specs.declared.config.Action.{Action}
use Rattle.ha_config.specs.declared.config.ActionKind.{ActionKind}
use Rattle.ha_config.specs.declared.config.ActionKind.TheOpen.{ActionKind-F}
use Rattle.ha_sight.specs.declared.item.Item.{Item}
use Rattle.ha_sight.specs.Conditions.{hold_all, holds}
use Rattle.ha_sight.specs.Calls.{Checked, call_item, span_of, spans_of, count_of, forms_of, fields_of}
use Rattle.ha_sight.specs.Scripts.{Branch, Spot, Scopes, Next, Outcome, Status, Loop, flat, exec, ends, gives, prefixed, outer, in_order, called, on_checked, failed, goes_into, looped, turns, after_turn, count_loop, each_loop, while_loop, until_loop, set_all, woven, all_allowed, is_open, first_halt, after_lists, each_on, joined_lists, side_by_side, lists_from, behind_call, call_ask, waited}
use Rattle.ha_sight.proofs.Rolls.{run_action-out}
use Rattle.ha_sight.specs.Items.{awaits_end}
use Rattle.ha_config.proofs.EqualLemmas.{same-refl}
use Rattle.script_step.specs.Blocks.{Round, Block, turns_behind, at_end, goes_on}
use Rattle.script_step.specs.Parts.{kind_of, option_list}
use Rattle.script_step.specs.Turns.{first_holding}
use Rattle.script_step.specs.Step.{kind_at}
use Rattle.script_step.proofs.KindLemmas.{run-at, options_in, mapped, chosen-list}
use Rattle.script_step.proofs.ParallelLemmas.{lists_meant, meant}

pub gives-some : (item : Item) (o : Option Outcome) → is_some o ≡ true → is_some (gives item o) ≡ true
gives-some item None h = absurd cc
gives-some item (Some o) h = refl

pub prefixed-some : (items : List Item) (o : Option Outcome) → is_some o ≡ true → is_some (prefixed items o) ≡ true
prefixed-some items None h = absurd cc
prefixed-some items (Some o) h = refl

checked-some : {A : Type 0} (go : A → Option Outcome) (c : Checked A) → ((x : A) → is_some (go x) ≡ true) → is_some (on_checked go c []) ≡ true
checked-some go (Ok x) h = h x
checked-some go (Err code) h = refl

mapped-some : {A : Type 0} (go : A → Option Outcome) (o : Option A) → ((x : A) → is_some (go x) ≡ true) → is_some (option_map_or go o (failed 1 [])) ≡ true
mapped-some go (Some x) h = h x
mapped-some go None h = refl

-- ---- on no places

part-on-nothing : (actions : List Action) (end : Next) (scopes : Scopes) (b : Branch) → is_some (end scopes []) ≡ true → is_some (exec actions end scopes b []) ≡ true
part-on-nothing [] end scopes b h = h
part-on-nothing (a ∷ rest) end scopes b h = ap is_some (run_action-out a (λ s p. exec rest end s b p) end scopes b [])

pub blocks-on-nothing : (b : Branch) (xs : List Block) (scopes : Scopes) → is_some (goes_on b xs scopes []) ≡ true
blocks-on-nothing b [] scopes = refl
blocks-on-nothing b (x ∷ xs) scopes = part-on-nothing x.left (at_end b x.round (goes_on b xs)) scopes b (by x.round (blocks-on-nothing b xs (outer scopes)))
  where
    by : (r : Option Round) → is_some (goes_on b xs (outer scopes) []) ≡ true → is_some (at_end b r (goes_on b xs) scopes []) ≡ true
    by None h = h
    by (Some r) h = refl

turns-some : (body : List Action) (loop : Loop) (b : Branch) (next : Next) (more i : ℕ) (scopes : Scopes) → is_some (turns (exec body) loop b next more i scopes []) ≡ true
unfolding turns
turns-some body loop b next zero i scopes = part-on-nothing body (after_turn (exec body) loop b next i (λ s rest. gives (Item.Failed 6) (ends Status.Faulted rest))) (scopes ++ (loop.variables i ∷ [])) b refl
turns-some body loop b next (suc more) i scopes = part-on-nothing body (after_turn (exec body) loop b next i (λ s rest. gives Item.Nothing (turns (exec body) loop b next more (suc i) s rest))) (scopes ++ (loop.variables i ∷ [])) b refl

looped-some : (body : List Action) (loop : Loop) (b : Branch) (next : Next) (t : Bool) (more : ℕ) (scopes : Scopes) → is_some (next scopes []) ≡ true
    → is_some (looped (exec body) loop b next t more scopes []) ≡ true
looped-some body loop b next true more scopes h = gives-some Item.Nothing (turns (exec body) loop b next more 1 scopes []) (turns-some body loop b next more 1 scopes)
looped-some body loop b next false more scopes h = gives-some Item.Nothing (next scopes []) h

into-some : (body : List Action) (next : Next) (scopes : Scopes) (b : Branch) → ((sc : Scopes) → is_some (next sc []) ≡ true) → is_some (goes_into (exec body) next scopes b []) ≡ true
into-some body next scopes b h =
    gives-some Item.Nothing (exec body (λ s p. next (outer s) p) (scopes ++ ([] ∷ [])) b []) (part-on-nothing body (λ s p. next (outer s) p) (scopes ++ ([] ∷ [])) b (h (outer (scopes ++ ([] ∷ [])))))

-- lists that are there on no places
abbrev pub EachSome : List (List Spot → Option Outcome) → Type 0
EachSome [] = Unit {0}
EachSome (l ∷ ls) = (is_some (l []) ≡ true) × EachSome ls

pub all-some : (ls : List (List Spot → Option Outcome)) (b : Branch) (i : ℕ) → EachSome ls → is_some (all_allowed (each_on b i ls [])) ≡ true
all-some [] b i h = refl
all-some (l ∷ ls) b i h = by (l []) h.0 (all_allowed (each_on b (suc i) ls [])) (all-some ls b (suc i) h.1) refl
  where
    by : (o : Option Outcome) → is_some o ≡ true → (r : Option (List Outcome)) → is_some r ≡ true → all_allowed (each_on b (suc i) ls []) ≡ r
        → is_some (all_allowed (o ∷ each_on b (suc i) ls [])) ≡ true
    by None e r f q = absurd cc
    by (Some x) e None f q = absurd cc
    by (Some x) e (Some os) f q = ap (λ m. is_some (option_map (λ more. x ∷ more) m)) q

pub after-some : (os : List Outcome) (next : List Spot → Option Outcome) → is_some (next []) ≡ true → is_some (after_lists os next []) ≡ true
after-some os next h = by (list_any (λ o. is_open o.status) os) (first_halt os)
  where
    by : (t : Bool) (o : Option Status) → is_some (if t then ends Status.Open [] else option_map_or (λ status. ends status []) o (next [])) ≡ true
    by true o = refl
    by false None = h
    by false (Some status) = refl

joined-some : (b : Branch) (next : List Spot → Option Outcome) (r : Option (List Outcome)) → is_some r ≡ true → is_some (next []) ≡ true → is_some (joined_lists b next [] [] r) ≡ true
joined-some b next None h n = absurd cc
joined-some b next (Some os) h n = prefixed-some (woven b [] (map (λ o. o.items) os)) (after_lists os next []) (after-some os next n)

pub side-on-nothing : (b : Branch) (ls : List (List Spot → Option Outcome)) (next : List Spot → Option Outcome) → EachSome ls → is_some (next []) ≡ true
    → is_some (side_by_side b ls next []) ≡ true
side-on-nothing b ls next h n = joined-some b next (all_allowed (each_on b 0 ls [])) (all-some ls b 0 h) n

lists-some : (ls : List (List Action)) (i : ℕ) (scopes : Scopes) (b : Branch) → EachSome (lists_from i (map in_order (meant ls)) scopes b)
unfolding meant lists_meant
lists-some [] i scopes b = tt
lists-some (l ∷ ls) i scopes b = (part-on-nothing l (λ s p. ends Status.Done p) (scopes ++ ([] ∷ [])) (b ++ (i ∷ [])) refl, lists-some ls (suc i) scopes b)

-- ---- one action

called-some : (item : Item) (o : Option Outcome) → is_some o ≡ true → is_some (called item o []) ≡ true
called-some (Item.Failed code) o h = refl
called-some Item.Nothing o h = gives-some Item.Nothing o h
called-some (Item.Call service target fields) o h = gives-some (Item.Call service target fields) o h
called-some (Item.Fired kind pairs) o h = gives-some (Item.Fired kind pairs) o h
called-some (Item.Switched rows) o h = gives-some (Item.Switched rows) o h
called-some (Item.Triggered all skip) o h = gives-some (Item.Triggered all skip) o h
called-some (Item.Started scripts fields waits) o h = gives-some (Item.Started scripts fields waits) o h
called-some (Item.Halted scripts) o h = gives-some (Item.Halted scripts) o h
called-some (Item.Helped changes) o h = gives-some (Item.Helped changes) o h

behind-some : (item : Item) (p : ℕ) (next : Next) (scopes : Scopes) (b : Branch) → is_some (next scopes []) ≡ true → is_some (behind_call item p next scopes b []) ≡ true
behind-some item p next scopes b h = by (awaits_end item)
  where
    by : (t : Bool) → is_some (if t then waited (call_ask scopes) true p next scopes b [] else next scopes []) ≡ true
    by true = refl
    by false = h

pub kind-some : (k : ActionKind-F ActionKind Action) (s : Spot) (next end : Next) (scopes : Scopes) (b : Branch) → ((sc : Scopes) → is_some (next sc []) ≡ true)
    → ((sc : Scopes) → is_some (end sc []) ≡ true) → is_some (kind_at k s next end scopes b []) ≡ true
unfolding mapped options_in meant lists_meant
kind-some (ActionKind-F.Call service target fields) s next end scopes b n e =
    (let item : Item = call_item s.sight (flat scopes) service target fields in
    called-some item (behind_call item s.place next scopes b []) (behind-some item s.place next scopes b (n scopes)))
kind-some (ActionKind-F.Delay form) s next end scopes b n e = checked-some _ (span_of s.sight (flat scopes) form) (λ d. refl)
kind-some (ActionKind-F.WaitUntil test timeout go_on) s next end scopes b n e = checked-some _ (spans_of s.sight (flat scopes) timeout) (λ d. refl)
kind-some (ActionKind-F.WaitFor triggers timeout go_on) s next end scopes b n e = checked-some _ (spans_of s.sight (flat scopes) timeout) (λ d. refl)
kind-some (ActionKind-F.Choose options fallback) s next end scopes b n e =
    (λ i. is_some (goes_into (chosen-list options fallback s.sight (flat scopes) i) next scopes b []))
    ∙ into-some (option_list options fallback (first_holding s.sight (flat scopes) options)) next scopes b n
kind-some (ActionKind-F.If tests yes' no') s next end scopes b n e = by (hold_all s.sight tests (flat scopes))
  where
    by : (t : Bool) → is_some (goes_into (if t then exec yes' else exec no') next scopes b []) ≡ true
    by true = into-some yes' next scopes b n
    by false = into-some no' next scopes b n
kind-some (ActionKind-F.Repeat (RepeatKind.Count t) body) s next end scopes b n e =
    checked-some _ (count_of s.sight (flat scopes) t) (λ m. looped-some body (count_loop m) b next (nat_le 1 m) (m - 1) scopes (n scopes))
kind-some (ActionKind-F.Repeat (RepeatKind.Each fs) body) s next end scopes b n e =
    mapped-some _ (forms_of s.sight (flat scopes) fs) (λ vs. looped-some body (each_loop vs) b next _ _ scopes (n scopes))
kind-some (ActionKind-F.Repeat (RepeatKind.While cs) body) s next end scopes b n e = looped-some body (while_loop cs) b next ((while_loop cs).enters 1 scopes s.sight) 9999 scopes (n scopes)
kind-some (ActionKind-F.Repeat (RepeatKind.Until cs) body) s next end scopes b n e = looped-some body (until_loop cs) b next true 9999 scopes (n scopes)
kind-some (ActionKind-F.Parallel lists) s next end scopes b n e =
    gives-some Item.Nothing (side_by_side b (lists_from 0 (map in_order (meant lists)) scopes b) (next scopes) [])
    (side-on-nothing b (lists_from 0 (map in_order (meant lists)) scopes b) (next scopes) (lists-some lists 0 scopes b) (n scopes))
kind-some (ActionKind-F.Block body) s next end scopes b n e = into-some body next scopes b n
kind-some (ActionKind-F.Set pairs) s next end scopes b n e = mapped-some _ (set_all pairs s.sight scopes) (λ new. gives-some Item.Nothing (next new []) (n new))
kind-some (ActionKind-F.Fire event fields) s next end scopes b n e = mapped-some _ (fields_of s.sight (flat scopes) fields) (λ ps. gives-some (Item.Fired event ps) (next scopes []) (n scopes))
kind-some ActionKind-F.Stop s next end scopes b n e = refl
kind-some (ActionKind-F.Test c) s next end scopes b n e = by (holds s.sight c (flat scopes))
  where
    by : (t : Bool) → is_some (gives Item.Nothing (if t then next scopes [] else end scopes [])) ≡ true
    by true = gives-some Item.Nothing (next scopes []) (n scopes)
    by false = gives-some Item.Nothing (end scopes []) (e scopes)

-- ---- one place of a block that has something to do

abbrev pub is_left : List Action → Bool
is_left [] = false
is_left (a ∷ rest) = true

pub block-some : (x : Block) (xs : List Block) (scopes : Scopes) (b : Branch) (s : Spot) → (is_some x.round || is_left x.left) ≡ true → s.branch ≡ b
    → is_some (goes_on b (x ∷ xs) scopes (s ∷ [])) ≡ true
block-some x xs scopes b s h here = by x.left x.round h
  where
    own : bytes_eq s.branch b ≡ true
    own = ap (λ c. bytes_eq c b) here ∙ same-refl b

    turn : (r : Round) (more : ℕ) (t : Bool) → is_some (if t then turns_behind b r more (goes_on b xs) (outer scopes) [] else gives Item.Nothing (goes_on b xs (outer scopes) [])) ≡ true
    turn r zero true = refl
    turn r (suc more) true = gives-some Item.Nothing (turns (exec r.body) r.loop b (goes_on b xs) more (suc r.index) (outer scopes) []) (turns-some r.body r.loop b (goes_on b xs) more (suc r.index) (outer scopes))
    turn r more false = gives-some Item.Nothing (goes_on b xs (outer scopes) []) (blocks-on-nothing b xs (outer scopes))

    by : (left : List Action) (round : Option Round) → (is_some round || is_left left) ≡ true → is_some (goes_on b (record { left = left; round = round } ∷ xs) scopes (s ∷ [])) ≡ true
    by [] None e = absurd cc
    by [] (Some r) e = rw own (turn r r.more (r.loop.enters (suc r.index) (outer scopes) s.sight))
    by (a ∷ rest) round e =
        ap is_some (run-at a (goes_on b (record { left = rest; round = round } ∷ xs)) (goes_on b (record { left = []; round = round } ∷ xs)) scopes b s [] here)
        ∙ kind-some (kind_of a) s (goes_on b (record { left = rest; round = round } ∷ xs)) (goes_on b (record { left = []; round = round } ∷ xs)) scopes b
        (blocks-on-nothing b (record { left = rest; round = round } ∷ xs)) (blocks-on-nothing b (record { left = []; round = round } ∷ xs))
