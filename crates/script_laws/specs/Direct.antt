-- What a script means, said directly. `Scripts.exec` says it by what follows each part, as the frames of a run need it; here each part
-- tells the items that it gives, how it then stands, and the scopes and the places that it leaves. A law says that the two agree.
use Rattle.std.specs.Prelude.{ℕ, zero, suc, ◌+◌, Bool, true, false, ◌||◌, nat_le, nat_lt, List, [], ◌∷◌, ◌++◌, length, map, Option}
use Rattle.std.specs.Prelude.{Some, None, Ok, Err, ok_or, option_map, option_and_then, if◌then◌else◌, bytes_eq}
use Rattle.std.specs.List.{list_any, list_all}
use Rattle.std.specs.Option.{option_map_or}
use Rattle.ha_config.specs.declared.template.Template.{Template}
use Rattle.ha_config.specs.declared.config.Condition.{Condition}
use Rattle.ha_config.specs.declared.config.Trigger.{Trigger}
use Rattle.ha_config.specs.declared.config.SpanForm.{SpanForm}
use Rattle.ha_config.specs.declared.config.RepeatKind.{RepeatKind}
use Rattle.ha_config.specs.declared.config.Action.{Action}
use Rattle.ha_config.specs.declared.config.ActionKind.TheOpen.{ActionKind-F, Action-F}
use Rattle.ha_config.specs.declared.config.ActionKind.TheFolds.{fold-Action}
use Rattle.ha_sight.specs.declared.item.Item.{Item}
use Rattle.ha_sight.specs.declared.waiting.WaitEnd.{WaitEnd}
use Rattle.ha_config.specs.Words.{Pairs}
use Rattle.ha_sight.specs.Sight.{Sight}
use Rattle.ha_sight.specs.Conditions.{hold_all, holds}
use Rattle.ha_sight.specs.Calls.{Checked, template_fault, call_item, span_of, spans_of, count_of, forms_of, fields_of}
use Rattle.ha_sight.specs.Scripts.{Branch, Scopes, Ask, Spot, Status, Outcome, Loop, flat, outer, set_all, count_loop, each_loop, while_loop, until_loop, most_turns, front, past_front, side, on_side, woven, wait_for, call_ask, scopes_behind}
use Rattle.ha_sight.specs.Items.{awaits_end}

-- how a part of a script stands: what follows it in its list is next; a condition is false, so that its list is done at once; its next
-- place is not there yet; it stopped the run, or it failed
pub data Standing : Type 0 where
  Done : Standing
  ListDone : Standing
  Open : Standing
  Stopped : Standing
  Faulted : Standing

-- what a part leaves: an item for each place that it used, how it stands, and the scopes and the places that are left
pub record Left : Type 0 where
  pub items : List Item
  pub standing : Standing
  pub scopes : Scopes
  pub places : List Spot

-- what a part of a script does in these scopes and this branch on these places; None where a place is not allowed
abbrev pub Effect : Type 0
Effect = Scopes → Branch → List Spot → Option Left

abbrev pub leaves : List Item → Standing → Scopes → List Spot → Option Left
leaves items standing scopes places = Some (record { items = items; standing = standing; scopes = scopes; places = places })

-- ---- one after the other

-- the next place is one of this branch; with no place left the part is open
abbrev pub at_place : Branch → Scopes → List Spot → (Spot → List Spot → Option Left) → Option Left
at_place b scopes [] step = leaves [] Standing.Open scopes []
at_place b scopes (p ∷ rest) step = if bytes_eq p.branch b then step p rest else None

-- items, and then those of what follows them
abbrev pub items_then : List Item → Option Left → Option Left
items_then items None = None
items_then items (Some l) = Some (record l { items = items ++ l.items })

-- a part that is done goes on with the rest of its list, in the scopes and on the places that it leaves; behind a false condition the list
-- is done at once; else the list stands as the part
abbrev pub by_standing : Standing → Left → (Scopes → List Spot → Option Left) → Option Left
by_standing Standing.Done l rest = items_then l.items (rest l.scopes l.places)
by_standing Standing.ListDone l rest = Some (record l { standing = Standing.Done })
by_standing Standing.Open l rest = Some l
by_standing Standing.Stopped l rest = Some l
by_standing Standing.Faulted l rest = Some l

abbrev pub and_then : Option Left → (Scopes → List Spot → Option Left) → Option Left
and_then None rest = None
and_then (Some l) rest = by_standing l.standing l rest

-- a list without actions is done and uses no place; else it is its first action, and then the rest
abbrev pub in_turn : List Effect → Effect
in_turn [] scopes b ps = leaves [] Standing.Done scopes ps
in_turn (first ∷ others) scopes b ps = and_then (first scopes b ps) (λ s rest. in_turn others s b rest)

-- ---- one action

-- an item, with which an action is done, or has failed
abbrev pub standing_of : Item → Standing
standing_of (Item.Failed code) = Standing.Faulted
standing_of Item.Nothing = Standing.Done
standing_of (Item.Call service target fields) = Standing.Done
standing_of (Item.Fired kind pairs) = Standing.Done
standing_of (Item.Switched targets) = Standing.Done
standing_of (Item.Triggered automations skip) = Standing.Done
standing_of (Item.Started scripts fields waits) = Standing.Done
standing_of (Item.Halted scripts) = Standing.Done
standing_of (Item.Helped changes) = Standing.Done

abbrev pub does : Item → Scopes → List Spot → Option Left
does item scopes rest = leaves (item ∷ []) (standing_of item) scopes rest

-- Nothing at the action's own place, and then what it goes on with
abbrev pub nothing_then : Option Left → Option Left
nothing_then o = items_then (Item.Nothing ∷ []) o

-- goes on with a field's value; where it fails, the action does, with its code
abbrev pub on_field : {A : Type 0} → Checked A → Scopes → List Spot → (A → Option Left) → Option Left
on_field (Ok x) scopes rest step = step x
on_field (Err code) scopes rest step = does (Item.Failed code) scopes rest

-- a delay uses a second place, which is allowed once its time has come
abbrev pub delays : ℕ → Effect
delays due scopes b rest = at_place b scopes rest (λ s after. if nat_le due s.sight.now then does Item.Nothing scopes after else None)

-- a wait uses a second place, which is allowed once it has an end; there it stops where it timed out and may not go on, else it adds `wait`
-- to the innermost block; behind the end of a called run the scopes are as they were
abbrev pub waited_for : Ask → WaitEnd → Bool → Scopes → List Spot → Option Left
waited_for ask e go_on scopes after =
    if e.done || go_on then does Item.Nothing (scopes_behind ask e scopes) after
    else leaves (Item.Nothing ∷ []) Standing.Stopped scopes after

abbrev pub waits : Ask → Bool → ℕ → Effect
waits ask go_on p scopes b rest =
    at_place b scopes rest (λ s after. option_map_or (λ e. waited_for ask e go_on scopes after) (s.wait_end ask p) None)

-- a wait with this template or these triggers, at its place p
abbrev pub begins_wait : Option Template → List Trigger → Option SpanForm → Bool → Spot → Effect
begins_wait test triggers timeout go_on p scopes b rest = on_field (spans_of p.sight (flat scopes) timeout) scopes rest (λ d.
    nothing_then (waits (wait_for test triggers d scopes) go_on p.place scopes b rest))

-- a call gives its item; where it waits for the end of the run that it started at its place p, it uses a second place
abbrev pub calls : Item → ℕ → Effect
calls item p scopes b rest =
    if awaits_end item then items_then (item ∷ []) (waits (call_ask scopes) true p scopes b rest) else does item scopes rest

-- a list in the scopes with one block more, which is dropped behind it
abbrev pub drop_block : Option Left → Option Left
drop_block None = None
drop_block (Some l) = Some (record l { scopes = outer l.scopes })

abbrev pub in_block : Pairs → Effect → Effect
in_block block list scopes b ps = drop_block (list (scopes ++ (block ∷ [])) b ps)

-- the first list whose conditions all hold, else the other one
abbrev pub chosen_list : List (List Condition × Effect) → Effect → Sight → Pairs → Effect
chosen_list [] other sight env = other
chosen_list (x ∷ xs) other sight env = if hold_all sight x.0 env then x.1 else chosen_list xs other sight env

-- ---- repeats

module _ (body : Effect) (loop : Loop) (b : Branch) where
  -- place p enters turn i, if so many turns more may be entered, or ends the repeat; a turn is the list with the variables of the turn as
  -- one block more, in the scopes that the turn before left, and behind it stands one place more
  unfoldable pub turns_from : ℕ → ℕ → Scopes → Spot → List Spot → Option Left
  turns_from zero i scopes p rest = if loop.enters i scopes p.sight then does (Item.Failed 6) scopes rest else does Item.Nothing scopes rest
  turns_from (suc more) i scopes p rest =
      if loop.enters i scopes p.sight
      then nothing_then (and_then (in_block (loop.variables i) body scopes b rest)
      (λ s after. at_place b s after (λ q later. turns_from more (suc i) s q later)))
      else does Item.Nothing scopes rest

-- the count and the list are those of the repeat's own place
abbrev pub repeats : RepeatKind → Effect → Spot → Effect
repeats (RepeatKind.Count t) body p scopes b rest =
    on_field (count_of p.sight (flat scopes) t) scopes rest (λ n. turns_from body (count_loop n) b n 1 scopes p rest)
repeats (RepeatKind.Each fs) body p scopes b rest =
    on_field (ok_or (forms_of p.sight (flat scopes) fs) template_fault) scopes rest
    (λ vs. turns_from body (each_loop vs) b (length vs) 1 scopes p rest)
repeats (RepeatKind.While cs) body p scopes b rest = turns_from body (while_loop cs) b most_turns 1 scopes p rest
repeats (RepeatKind.Until cs) body p scopes b rest = turns_from body (until_loop cs) b most_turns 1 scopes p rest

-- ---- lists beside each other

-- no place may be left
abbrev pub if_no_place : List Spot → Left → Option Left
if_no_place [] l = Some l
if_no_place (p ∷ ps) l = None

abbrev pub all_used : Option Left → Option Left
all_used None = None
all_used (Some l) = if_no_place l.places l

-- list i runs in branch b with i added, on the places of this branch and deeper, in the scopes with one empty block more, which it has for
-- itself
abbrev pub each_beside : ℕ → List Effect → Scopes → Branch → List Spot → Option (List Left)
each_beside i [] scopes b places = Some []
each_beside i (list ∷ lists) scopes b places =
    option_and_then (λ l. option_map (λ ls. l ∷ ls) (each_beside (suc i) lists scopes b places))
    (all_used (in_block [] list scopes (b ++ (i ∷ [])) (on_side b i places)))

abbrev pub stands_open : Standing → Bool
stands_open Standing.Open = true
stands_open Standing.Done = false
stands_open Standing.ListDone = false
stands_open Standing.Stopped = false
stands_open Standing.Faulted = false

-- as the first list that stopped or failed; done where none did
abbrev pub stops_or : Standing → Standing → Standing
stops_or Standing.Stopped later = Standing.Stopped
stops_or Standing.Faulted later = Standing.Faulted
stops_or Standing.Done later = later
stops_or Standing.ListDone later = later
stops_or Standing.Open later = later

abbrev pub first_stop : List Left → Standing
first_stop [] = Standing.Done
first_stop (l ∷ ls) = stops_or l.standing (first_stop ls)

-- the items in the order of the places; open while a list is, and then no place may be left; afterwards the scopes are as before
abbrev pub joined_up : Branch → List Spot → List Spot → Scopes → List Left → Option Left
joined_up b places past scopes ls =
    if list_any (λ l. stands_open l.standing) ls then all_used (leaves (woven b places (map (λ l. l.items) ls)) Standing.Open scopes past)
    else leaves (woven b places (map (λ l. l.items) ls)) (first_stop ls) scopes past

-- a parallel block takes the longest front of the places whose branches go deeper, and each has to be in a branch of one of its lists
abbrev pub beside : List Effect → Effect
beside lists scopes b rest =
    if list_all (λ s. nat_lt (side b s) (length lists)) (front b rest)
    then option_and_then (joined_up b (front b rest) (past_front b rest) scopes) (each_beside 0 lists scopes b (front b rest)) else None

-- ---- all actions

-- an action at its place p, with what it sees there, on the places behind it; lists of actions stand as what each action in them does
abbrev pub kind_effect : ActionKind-F (Spot → Effect) Effect → Spot → Effect
kind_effect (ActionKind-F.Call service target fields) p scopes b rest =
    calls (call_item p.sight (flat scopes) service target fields) p.place scopes b rest
kind_effect (ActionKind-F.Delay form) p scopes b rest =
    on_field (span_of p.sight (flat scopes) form) scopes rest (λ d. nothing_then (delays (p.sight.now + d) scopes b rest))
kind_effect (ActionKind-F.WaitUntil test timeout go_on) p scopes b rest = begins_wait (Some test) [] timeout go_on p scopes b rest
kind_effect (ActionKind-F.WaitFor triggers timeout go_on) p scopes b rest = begins_wait None triggers timeout go_on p scopes b rest
kind_effect (ActionKind-F.Choose options fallback) p scopes b rest =
    nothing_then (in_block [] (chosen_list (map (λ x. (x.0, in_turn x.1)) options) (in_turn fallback) p.sight (flat scopes)) scopes b rest)
kind_effect (ActionKind-F.If tests yes' no') p scopes b rest =
    nothing_then (in_block [] (if hold_all p.sight tests (flat scopes) then in_turn yes' else in_turn no') scopes b rest)
kind_effect (ActionKind-F.Repeat kind body) p scopes b rest = repeats kind (in_turn body) p scopes b rest
kind_effect (ActionKind-F.Parallel lists) p scopes b rest = nothing_then (beside (map in_turn lists) scopes b rest)
kind_effect (ActionKind-F.Block body) p scopes b rest = nothing_then (in_block [] (in_turn body) scopes b rest)
kind_effect (ActionKind-F.Set pairs) p scopes b rest =
    on_field (ok_or (set_all pairs p.sight scopes) template_fault) scopes rest (λ new. does Item.Nothing new rest)
kind_effect (ActionKind-F.Fire event fields) p scopes b rest =
    on_field (ok_or (fields_of p.sight (flat scopes) fields) template_fault) scopes rest
    (λ pairs. does (Item.Fired event pairs) scopes rest)
kind_effect ActionKind-F.Stop p scopes b rest = leaves (Item.Nothing ∷ []) Standing.Stopped scopes rest
kind_effect (ActionKind-F.Test c) p scopes b rest =
    leaves (Item.Nothing ∷ []) (if holds p.sight c (flat scopes) then Standing.Done else Standing.ListDone) scopes rest

-- each action uses one place
abbrev pub action_effect : Action-F (Spot → Effect) Effect → Effect
action_effect a scopes b ps = at_place b scopes ps (λ p rest. a.kind p scopes b rest)

abbrev pub left_by_action : Action → Effect
left_by_action = fold-Action (Spot → Effect) Effect kind_effect action_effect

-- what a list of actions leaves
abbrev pub left_by : List Action → Effect
left_by actions = in_turn (map left_by_action actions)

-- ---- the whole script

abbrev pub status_of : Standing → Status
status_of Standing.Done = Status.Done
status_of Standing.ListDone = Status.Done
status_of Standing.Open = Status.Open
status_of Standing.Stopped = Status.Stopped
status_of Standing.Faulted = Status.Faulted

abbrev pub outcome_of : Left → Outcome
outcome_of l = record { items = l.items; status = status_of l.standing }

-- it runs in the empty branch, with its environment as the one block; no place may be left
abbrev pub left_by_script : List Action → Pairs → List Spot → Option Outcome
left_by_script actions env ps = option_map outcome_of (all_used (left_by actions (env ∷ []) [] ps))
