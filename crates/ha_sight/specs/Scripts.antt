-- What a script means on a list of places.
use Rattle.std.specs.Prelude.{ℕ, zero, suc, ◌+◌, ◌-◌, Bool, true, false, not, ◌&&◌, ◌||◌, nat_eq, nat_le, nat_lt, List, [], ◌∷◌, ◌++◌, length, map, filter, Option, Some, None, Ok, Err, slice_get, option_map, option_and_then, unwrap_or, codes, pos, if◌then◌else◌, bytes_eq}
use Rattle.std.specs.List.{list_any, list_all, starts_with, cons_option}
use Rattle.std.specs.Option.{option_map_or}
use Rattle.ha_value.specs.declared.value.Num.{Num}
use Rattle.ha_value.specs.declared.value.Value.{Value}
use Rattle.ha_value.specs.declared.value.Value.TheVariants.{Pairs as Map}
use Rattle.ha_config.specs.declared.template.Template.{Template}
use Rattle.ha_config.specs.declared.config.Condition.{Condition}
use Rattle.ha_config.specs.declared.config.Trigger.{Trigger}
use Rattle.ha_config.specs.declared.config.Form.{Form}
use Rattle.ha_config.specs.declared.config.RepeatKind.{RepeatKind}
use Rattle.ha_config.specs.declared.config.Action.{Action}
use Rattle.ha_config.specs.declared.config.ActionKind.TheOpen.{ActionKind-F, Action-F}
use Rattle.ha_config.specs.declared.config.ActionKind.TheFolds.{fold-Action}
use Rattle.ha_sight.specs.declared.item.Item.{Item}
use Rattle.ha_sight.specs.declared.waiting.WaitEnd.{WaitEnd}
use Rattle.ha_sight.specs.Items.{awaits_end}
use Rattle.ha_config.specs.Words.{Text, Pairs, same, has_name}
use Rattle.ha_sight.specs.Sight.{Sight}
use Rattle.ha_sight.specs.Templates.{data_of}
use Rattle.ha_sight.specs.Conditions.{hold_all, holds}
use Rattle.ha_sight.specs.Calls.{Checked, template_fault, too_many_turns, call_item, span_of, spans_of, count_of, forms_of, fields_of}

abbrev pub Branch : Type 0
Branch = List ℕ

-- the blocks round an action, the outermost first, each with its variables
abbrev pub Scopes : Type 0
Scopes = List Pairs

abbrev pub flat : Scopes → Pairs
flat [] = []
flat (block ∷ blocks) = block ++ flat blocks

-- what a wait asks for; one of a call asks for the end of the run that the call started
pub record Ask : Type 0 where
  pub test : Option Template
  pub triggers : List Trigger
  pub timeout : Option ℕ
  pub env : Pairs
  pub called : Bool

-- a place of a run, with its branch, and all that a script asks there: what it sees, and the end before it of a wait that began at place p
pub record Spot : Type 0 where
  pub place : ℕ
  pub branch : Branch
  pub sight : Sight
  pub wait_end : Ask → ℕ → Option WaitEnd

pub data Status : Type 0 where
  Open : Status
  Done : Status
  Stopped : Status
  Faulted : Status

-- what a script gives on its places: an item for each, and how it then stands. A place that is not allowed gives None
pub record Outcome : Type 0 where
  pub items : List Item
  pub status : Status

-- what follows a part of a script, by the scopes and the places that the part leaves
abbrev pub Next : Type 0
Next = Scopes → List Spot → Option Outcome

-- what a list of actions means, by what follows it; what an action means, by what follows it in its list and what follows its list
abbrev pub Part : Type 0
Part = Next → Scopes → Branch → List Spot → Option Outcome

abbrev pub Meaning : Type 0
Meaning = Next → Part

-- items, and then those of what follows
abbrev pub prefixed : List Item → Option Outcome → Option Outcome
prefixed items None = None
prefixed items (Some o) = Some (record o { items = items ++ o.items })

abbrev pub gives : Item → Option Outcome → Option Outcome
gives item None = None
gives item (Some o) = Some (record o { items = item ∷ o.items })

-- the end, after which no place is allowed
abbrev pub ends : Status → List Spot → Option Outcome
ends status [] = Some (record { items = []; status = status })
ends status (s ∷ ss) = None

-- the next place, which is of this branch; with no place left all is Open
abbrev pub with_place : Branch → List Spot → (Spot → List Spot → Option Outcome) → Option Outcome
with_place b [] next = Some (record { items = []; status = Status.Open })
with_place b (s ∷ rest) next = if bytes_eq s.branch b then next s rest else None

-- a list of actions, each on what the one before it left
abbrev pub in_order : List Meaning → Part
in_order [] end scopes b ps = end scopes ps
in_order (m ∷ ms) end scopes b ps = m (λ s p. in_order ms end s b p) end scopes b ps

-- all blocks but the innermost
abbrev pub outer : Scopes → Scopes
outer [] = []
outer (block ∷ []) = []
outer (block ∷ next ∷ blocks) = block ∷ outer (next ∷ blocks)

-- adds a pair to the innermost block
abbrev pub add_inside : Text × Value → Scopes → Scopes
add_inside p [] = (p ∷ []) ∷ []
add_inside p (block ∷ []) = (block ++ (p ∷ [])) ∷ []
add_inside p (block ∷ next ∷ blocks) = block ∷ add_inside p (next ∷ blocks)

-- adds a pair to the innermost block that has the name, and to the innermost block where none has
abbrev pub add_where_named : Text × Value → Scopes → Scopes
add_where_named p [] = (p ∷ []) ∷ []
add_where_named p (block ∷ blocks) =
    if has_name p.0 block && not (list_any (has_name p.0) blocks) then (block ++ (p ∷ [])) ∷ blocks
    else if list_any (has_name p.0) blocks then block ∷ add_where_named p blocks
    else add_inside p (block ∷ blocks)

abbrev pub set_name : Text × Value → Scopes → Scopes
set_name p scopes =
    if same p.0 (codes "trigger") || same p.0 (codes "repeat") || same p.0 (codes "wait") then add_inside p scopes
    else add_where_named p scopes

-- c is b, or goes deeper than it; c goes deeper than b
abbrev pub is_under : Branch → Branch → Bool
is_under b c = starts_with nat_eq c b

abbrev pub is_deeper : Branch → Branch → Bool
is_deeper b c = is_under b c && nat_lt (length b) (length c)

-- the longest front of the places whose branches go deeper, and the rest
abbrev pub front : Branch → List Spot → List Spot
front b [] = []
front b (s ∷ ss) = if is_deeper b s.branch then s ∷ front b ss else []

abbrev pub past_front : Branch → List Spot → List Spot
past_front b [] = []
past_front b (s ∷ ss) = if is_deeper b s.branch then past_front b ss else s ∷ ss

-- which list of a block in branch b a deeper place belongs to
abbrev pub side : Branch → Spot → ℕ
side b s = unwrap_or (slice_get s.branch (length b)) 0

abbrev pub on_side : Branch → ℕ → List Spot → List Spot
on_side b i = filter (λ s. nat_eq (side b s) i)

-- the items of several lists in the order of the places: each place takes the next item of the list that its branch names
abbrev pub take_item : ℕ → List (List Item) → Option Item × List (List Item)
take_item i [] = (None, [])
take_item zero ([] ∷ rest) = (None, [] ∷ rest)
take_item zero ((x ∷ xs) ∷ rest) = (Some x, xs ∷ rest)
take_item (suc i) (xs ∷ rest) = (let r : Option Item × List (List Item) = take_item i rest in (r.0, xs ∷ r.1))

abbrev pub woven : Branch → List Spot → List (List Item) → List Item
woven b [] lists = []
woven b (s ∷ ss) lists = (let r : Option Item × List (List Item) = take_item (side b s) lists in cons_option r.0 (woven b ss r.1))

-- a loop: whether turn i is entered, in these scopes at this place, and its variables
pub record Loop : Type 0 where
  pub enters : ℕ → Scopes → Sight → Bool
  pub variables : ℕ → Pairs

abbrev pub turn_pairs : ℕ → Pairs → Value
turn_pairs i more = Map ((codes "index", Value.Number (Num.Whole (pos i))) ∷ (codes "first", Value.Flag (nat_eq i 1)) ∷ more)

abbrev pub repeat_pair : Value → Pairs
repeat_pair v = (codes "repeat", v) ∷ []

-- the outcomes of the lists of a parallel block, if each is allowed
abbrev pub all_allowed : List (Option Outcome) → Option (List Outcome)
all_allowed [] = Some []
all_allowed (None ∷ os) = None
all_allowed (Some o ∷ os) = option_map (λ rest. o ∷ rest) (all_allowed os)

abbrev pub is_open : Status → Bool
is_open Status.Open = true
is_open Status.Done = false
is_open Status.Stopped = false
is_open Status.Faulted = false

-- the first status that stops or faults, if there is one
abbrev pub halt_or : Status → Option Status → Option Status
halt_or Status.Stopped later = Some Status.Stopped
halt_or Status.Faulted later = Some Status.Faulted
halt_or Status.Open later = later
halt_or Status.Done later = later

abbrev pub first_halt : List Outcome → Option Status
first_halt [] = None
first_halt (o ∷ os) = halt_or o.status (first_halt os)

-- what a parallel block gives after its lists stand so, on the places behind its front
abbrev pub after_lists : List Outcome → (List Spot → Option Outcome) → List Spot → Option Outcome
after_lists os next past =
    if list_any (λ o. is_open o.status) os then ends Status.Open past
    else option_map_or (λ status. ends status past) (first_halt os) (next past)

-- what the lists of a block give, each on the front's places of its side
abbrev pub each_on : Branch → ℕ → List (List Spot → Option Outcome) → List Spot → List (Option Outcome)
each_on b i [] ps = []
each_on b i (l ∷ ls) ps = l (on_side b i ps) ∷ each_on b (suc i) ls ps

abbrev pub joined_lists : Branch → (List Spot → Option Outcome) → List Spot → List Spot → Option (List Outcome) → Option Outcome
joined_lists b next places past None = None
joined_lists b next places past (Some os) = prefixed (woven b places (map (λ o. o.items) os)) (after_lists os next past)

-- a parallel block whose lists go on in these ways: each on the front's places of its branch and deeper
abbrev pub side_by_side : Branch → List (List Spot → Option Outcome) → (List Spot → Option Outcome) → List Spot → Option Outcome
side_by_side b lists next rest =
    if list_all (λ s. nat_lt (side b s) (length lists)) (front b rest)
    then joined_lists b next (front b rest) (past_front b rest) (all_allowed (each_on b 0 lists (front b rest)))
    else None

module _ (body : Part) (loop : Loop) (b : Branch) (next : Next) where
  -- after turn i: one place, which enters the next turn or ends the loop
  abbrev pub after_turn : ℕ → (Scopes → List Spot → Option Outcome) → Next
  after_turn i again s ps = with_place b ps (λ q rest.
      if loop.enters (suc i) (outer s) q.sight then again (outer s) rest else gives Item.Nothing (next (outer s) rest))

  -- the turns from turn i on, where `more` turns may follow it
  unfoldable pub turns : ℕ → ℕ → Next
  turns zero i scopes ps =
      body (after_turn i (λ s rest. gives (Item.Failed too_many_turns) (ends Status.Faulted rest))) (scopes ++ (loop.variables i ∷ [])) b ps
  turns (suc more) i scopes ps =
      body (after_turn i (λ s rest. gives Item.Nothing (turns more (suc i) s rest))) (scopes ++ (loop.variables i ∷ [])) b ps

  -- the step of a loop that is entered, or not
  abbrev pub looped : Bool → ℕ → Next
  looped true more scopes rest = gives Item.Nothing (turns more 1 scopes rest)
  looped false more scopes rest = gives Item.Nothing (next scopes rest)

-- `count`: turns 1 to n
abbrev pub count_loop : ℕ → Loop
count_loop n = record {
  enters = λ i scopes sight. nat_le i n;
  variables = λ i. repeat_pair (turn_pairs i ((codes "last", Value.Flag (nat_eq i n)) ∷ []));
}

-- `for_each`: a turn for each value
abbrev pub each_loop : List Value → Loop
each_loop vs = record {
  enters = λ i scopes sight. nat_le i (length vs);
  variables = λ i. repeat_pair (turn_pairs i ((codes "last", Value.Flag (nat_eq i (length vs)))
      ∷ (codes "item", unwrap_or (slice_get vs (i - 1)) Value.Null) ∷ []));
}

abbrev pub plain_turn : ℕ → Pairs
plain_turn i = repeat_pair (turn_pairs i [])

-- `while`: the conditions hold with the `repeat` of the turn to enter
abbrev pub while_loop : List Condition → Loop
while_loop cs = record {
  enters = λ i scopes sight. hold_all sight cs (flat (scopes ++ (plain_turn i ∷ [])));
  variables = plain_turn;
}

-- `until`: the conditions do not hold with the `repeat` of the turn that ended
abbrev pub until_loop : List Condition → Loop
until_loop cs = record {
  enters = λ i scopes sight. nat_eq i 1 || not (hold_all sight cs (flat (scopes ++ (plain_turn (i - 1) ∷ []))));
  variables = plain_turn;
}

-- `while` and `until` enter at most this many turns
abbrev pub most_turns : ℕ
most_turns = 10000

abbrev pub failed : ℕ → List Spot → Option Outcome
failed code rest = gives (Item.Failed code) (ends Status.Faulted rest)

-- goes on with a field's value; a field that fails gives its code
abbrev pub on_checked : {A : Type 0} → (A → Option Outcome) → Checked A → List Spot → Option Outcome
on_checked go_on (Ok x) rest = go_on x
on_checked go_on (Err code) rest = failed code rest

abbrev pub repeated : RepeatKind → Part → Spot → Part
repeated (RepeatKind.Count t) body p next scopes b rest =
    on_checked (λ n. looped body (count_loop n) b next (nat_le 1 n) (n - 1) scopes rest) (count_of p.sight (flat scopes) t) rest
repeated (RepeatKind.Each fs) body p next scopes b rest =
    option_map_or
    (λ vs. looped body (each_loop vs) b next (nat_le 1 (length vs)) (length vs - 1) scopes rest)
    (forms_of p.sight (flat scopes) fs) (failed template_fault rest)
repeated (RepeatKind.While cs) body p next scopes b rest =
    looped body (while_loop cs) b next ((while_loop cs).enters 1 scopes p.sight) (most_turns - 1) scopes rest
repeated (RepeatKind.Until cs) body p next scopes b rest = looped body (until_loop cs) b next true (most_turns - 1) scopes rest

-- a list goes on in one block more, which is dropped after it
abbrev pub goes_into : Part → Part
goes_into list next scopes b rest = gives Item.Nothing (list (λ s p. next (outer s) p) (scopes ++ ([] ∷ [])) b rest)

-- the lists of a parallel block, each in its branch and in scopes of its own
abbrev pub lists_from : ℕ → List Part → Scopes → Branch → List (List Spot → Option Outcome)
lists_from i [] scopes b = []
lists_from i (l ∷ ls) scopes b = l (λ s p. ends Status.Done p) (scopes ++ ([] ∷ [])) (b ++ (i ∷ [])) ∷ lists_from (suc i) ls scopes b

abbrev pub parallel : List Part → Part
parallel lists next scopes b rest = gives Item.Nothing (side_by_side b (lists_from 0 lists scopes b) (next scopes) rest)

-- the first list whose conditions all hold, else the other one
abbrev pub chosen : List (List Condition × Part) → Part → Sight → Pairs → Part
chosen [] other sight env = other
chosen (x ∷ xs) other sight env = if hold_all sight x.0 env then x.1 else chosen xs other sight env

abbrev pub set_all : List (Text × Form) → Sight → Scopes → Option Scopes
set_all [] sight scopes = Some scopes
set_all (p ∷ ps) sight scopes = option_and_then (λ v. set_all ps sight (set_name (p.0, v) scopes)) (data_of sight p.1 (flat scopes))

-- what `wait` holds after a wait
abbrev pub wait_value : WaitEnd → Value
wait_value e = Map (
    (codes "completed", Value.Flag e.done)
    ∷ (codes "remaining", option_map_or Value.Number e.remaining Value.Null)
    ∷ (codes "trigger", unwrap_or e.trigger Value.Null) ∷ [])

-- the second place of a delay that is over at `due`
abbrev pub delayed : ℕ → Part
delayed due next scopes b rest = with_place b rest (λ s after.
    if nat_le due s.sight.now then gives Item.Nothing (next scopes after) else None)

-- what a wait asks for, with its timeout and the variables at its first place
abbrev pub wait_for : Option Template → List Trigger → Option ℕ → Scopes → Ask
wait_for test triggers timeout scopes = record { test = test; triggers = triggers; timeout = timeout; env = flat scopes; called = false }

-- what a call asks for that waits: nothing but the end of the run that it started
abbrev pub call_ask : Scopes → Ask
call_ask scopes = record { test = None; triggers = []; timeout = None; env = flat scopes; called = true }

-- the scopes behind a wait: they have `wait`, but behind the end of a called run they are as they were
abbrev pub scopes_behind : Ask → WaitEnd → Scopes → Scopes
scopes_behind ask e scopes = if ask.called then scopes else add_inside (codes "wait", wait_value e) scopes

-- the second place of a wait that began at p, or of a call that waits for the end of the run that it started there
abbrev pub waited : Ask → Bool → ℕ → Part
waited ask go_on p next scopes b rest = with_place b rest (λ s after. option_map_or (λ e.
    gives Item.Nothing (if e.done || go_on then next (scopes_behind ask e scopes) after else ends Status.Stopped after))
    (s.wait_end ask p) None)

abbrev pub called : Item → Option Outcome → List Spot → Option Outcome
called (Item.Failed code) after rest = failed code rest
called Item.Nothing after rest = gives Item.Nothing after
called (Item.Call service target fields) after rest = gives (Item.Call service target fields) after
called (Item.Fired kind pairs) after rest = gives (Item.Fired kind pairs) after
called (Item.Switched targets) after rest = gives (Item.Switched targets) after
called (Item.Triggered automations skip) after rest = gives (Item.Triggered automations skip) after
called (Item.Started scripts fields waits) after rest = gives (Item.Started scripts fields waits) after
called (Item.Halted scripts) after rest = gives (Item.Halted scripts) after
called (Item.Helped changes) after rest = gives (Item.Helped changes) after

-- what follows a call's item, whose step is at place p: where it waits, its second place
abbrev pub behind_call : Item → ℕ → Part
behind_call item p next scopes b rest = if awaits_end item then waited (call_ask scopes) true p next scopes b rest else next scopes rest

-- one level, at its place p: a list of actions stands as the meanings of its actions
abbrev pub kind_step : ActionKind-F (Spot → Meaning) Meaning → Spot → Meaning
kind_step (ActionKind-F.Call service target fields) p next end scopes b rest =
    (let item : Item = call_item p.sight (flat scopes) service target fields in called item (behind_call item p.place next scopes b rest) rest)
kind_step (ActionKind-F.Delay form) p next end scopes b rest =
    on_checked (λ d. gives Item.Nothing (delayed (p.sight.now + d) next scopes b rest)) (span_of p.sight (flat scopes) form) rest
kind_step (ActionKind-F.WaitUntil test timeout go_on) p next end scopes b rest =
    on_checked
    (λ d. gives Item.Nothing (waited (wait_for (Some test) [] d scopes) go_on p.place next scopes b rest))
    (spans_of p.sight (flat scopes) timeout) rest
kind_step (ActionKind-F.WaitFor triggers timeout go_on) p next end scopes b rest =
    on_checked
    (λ d. gives Item.Nothing (waited (wait_for None triggers d scopes) go_on p.place next scopes b rest))
    (spans_of p.sight (flat scopes) timeout) rest
kind_step (ActionKind-F.Choose options fallback) p next end scopes b rest =
    goes_into (chosen (map (λ x. (x.0, in_order x.1)) options) (in_order fallback) p.sight (flat scopes)) next scopes b rest
kind_step (ActionKind-F.If tests yes' no') p next end scopes b rest =
    goes_into (chosen ((tests, in_order yes') ∷ []) (in_order no') p.sight (flat scopes)) next scopes b rest
kind_step (ActionKind-F.Repeat kind body) p next end scopes b rest = repeated kind (in_order body) p next scopes b rest
kind_step (ActionKind-F.Parallel lists) p next end scopes b rest = parallel (map in_order lists) next scopes b rest
kind_step (ActionKind-F.Block body) p next end scopes b rest = goes_into (in_order body) next scopes b rest
kind_step (ActionKind-F.Set pairs) p next end scopes b rest =
    option_map_or (λ new. gives Item.Nothing (next new rest)) (set_all pairs p.sight scopes) (failed template_fault rest)
kind_step (ActionKind-F.Fire event fields) p next end scopes b rest =
    option_map_or
    (λ ps. gives (Item.Fired event ps) (next scopes rest))
    (fields_of p.sight (flat scopes) fields) (failed template_fault rest)
kind_step ActionKind-F.Stop p next end scopes b rest = gives Item.Nothing (ends Status.Stopped rest)
kind_step (ActionKind-F.Test c) p next end scopes b rest =
    gives Item.Nothing (if holds p.sight c (flat scopes) then next scopes rest else end scopes rest)

-- an action takes one place, at which its kind's step is
abbrev pub action_step : Action-F (Spot → Meaning) Meaning → Meaning
action_step a next end scopes b ps = with_place b ps (λ p rest. a.kind p next end scopes b rest)

abbrev pub run_action : Action → Meaning
run_action = fold-Action (Spot → Meaning) Meaning kind_step action_step

-- what a list of actions means
abbrev pub exec : List Action → Part
exec actions = in_order (map run_action actions)

-- Exec: a whole script runs in the empty branch, with its environment as the one block
abbrev pub whole : List Action → Pairs → List Spot → Option Outcome
whole actions env = exec actions (λ s p. ends Status.Done p) (env ∷ []) []
