-- By induction on a script: its two meanings are the same, and what it uses of its places.
use Rattle.std.proofs.Common.{◌≡◌, ℕ, ◌+◌, Bool, true, false, List, [], ◌∷◌, ◌++◌, length, map, refl, sym, ap, subst, ◌∙◌, append-nil, ◌<◌}
use Rattle.std.specs.Prelude.{Option, Some, None, Ok, Err, ok_or, option_map, nat_le, not, codes, ◌||◌, if◌then◌else◌, bytes_eq}
use Rattle.std.specs.Option.{option_map_or}
use Rattle.std.proofs.lemmas.Slice.Eq.{bytes_eq-Decides}
use Rattle.ha_value.specs.declared.value.EntityId.{EntityId}
use Rattle.ha_config.specs.declared.template.Template.{Template}
use Rattle.ha_config.specs.declared.config.Trigger.{Trigger}
use Rattle.ha_config.specs.declared.config.Condition.{Condition}
use Rattle.ha_config.specs.declared.config.SpanForm.{SpanForm}
use Rattle.ha_config.specs.declared.config.RepeatKind.{RepeatKind}
use Rattle.ha_config.specs.declared.config.Action.{Action}
use Rattle.ha_config.specs.declared.config.ActionKind.{ActionKind}
use Rattle.ha_config.specs.declared.config.ActionKind.TheOpen.{ActionKind-F, Action-F}
use Rattle.ha_config.specs.declared.config.ActionKind.TheViews.{roll-ActionKind, roll-Action}
use Rattle.ha_config.specs.declared.config.ActionKind.TheFolds.{fold-ActionKind, fold-roll-ActionKind, fold-roll-Action, map-ActionKind, map-Action, ind-Action}
use Rattle.ha_sight.specs.declared.item.Item.{Item}
use Rattle.ha_sight.specs.declared.steps.Inner.{Inner}
use Rattle.ha_sight.specs.declared.waiting.WaitEnd.{WaitEnd}
use Rattle.ha_config.specs.declared.config.Form.{Form}
use Rattle.ha_config.specs.Words.{Text, Pairs, same}
use Rattle.ha_config.proofs.EqualLemmas.{same-refl}
use Rattle.ha_sight.specs.Sight.{Automations, Sight}
use Rattle.ha_sight.specs.Conditions.{hold_all, holds}
use Rattle.ha_sight.specs.Calls.{Checked, automations_of, call_item, checked_then, count_of, done_by, fields_of, flag_named, forms_of, item_of, item_or_failed, service_of, span_of, spans_of, switched_to, targets_of, template_fault, was_on}
use Rattle.ha_sight.specs.Inner.{inner_of, inner_of_helpers, own_item}
use Rattle.ha_sight.specs.Scripts.{Branch, Scopes, Ask, Spot, Status, Outcome, Next, Part, Meaning, flat, gives, prefixed, ends, in_order, add_inside, count_loop, each_loop, while_loop, until_loop, most_turns, chosen, set_all, wait_value, delayed, kind_step, run_action, exec, whole, is_open, wait_for, call_ask, scopes_behind}
use Rattle.ha_sight.proofs.Rolls.{run_kind, run_action-roll, run_kind-roll}
use Rattle.ha_sight.specs.Items.{awaits_end, changes_by}
use Rattle.script_laws.specs.Followed.{followed}
use Rattle.script_laws.proofs.FollowLemmas.{one-item, item-follows, place-follows, done-follows, field-follows, option-follows, then-follows, OfList, of-then}
use Rattle.script_laws.proofs.BesideLemmas.{list_end, ended-list, SameList, SameLists, beside-follows}
use Rattle.script_laws.specs.Direct.{Standing, Left, Effect, leaves, items_then, nothing_then, in_turn, does, on_field, delays, waited_for, waits, begins_wait, in_block, chosen_list, turns_from, repeats, if_no_place, all_used, beside, kind_effect, action_effect, left_by_action, left_by, status_of, stands_open, outcome_of, left_by_script, calls}
use Rattle.script_laws.specs.Made.{AreMade}
use Rattle.script_laws.specs.Stands.{EachStands, GoesOn, NamesNoScript, next_in, sees_named}
use Rattle.script_laws.specs.Used.{IsUsed}
use Rattle.script_laws.proofs.HelpedLemmas.{call-helps, helped-cases}
use Rattle.script_laws.proofs.NamedLemmas.{call-sees}
use Rattle.script_laws.proofs.StandLemmas.{still-stands}
use Rattle.script_laws.proofs.SameMeaning.{delay-same, begins-same, test-same, into-same, either-same, repeat-same, call-same}
use Rattle.script_laws.proofs.UsedLemmas.{Uses, UsesWell, EachWell, inside-length, set-length, one-place, does-uses, place-uses, nothing-still, failed-still, nothing-uses, field-uses, then-uses, block-uses, either-uses, turns-use, beside-uses}

-- ---- by induction on the script

abbrev pub left_by_kind : ActionKind → Spot → Effect
left_by_kind = fold-ActionKind (Spot → Effect) Effect kind_effect action_effect

pub kind-roll : (x : ActionKind-F ActionKind Action) (p : Spot) (scopes : Scopes) (b : Branch) (rest : List Spot)
    → left_by_kind (roll-ActionKind x) p scopes b rest ≡ kind_effect (map-ActionKind ActionKind Action (Spot → Effect) Effect left_by_kind left_by_action x) p scopes b rest
kind-roll x p scopes b rest = ap (λ f. f p scopes b rest) (fold-roll-ActionKind (Spot → Effect) Effect kind_effect action_effect x)

pub action-roll : (x : Action-F ActionKind Action) (scopes : Scopes) (b : Branch) (ps : List Spot)
    → left_by_action (roll-Action x) scopes b ps ≡ action_effect (map-Action ActionKind Action (Spot → Effect) Effect left_by_kind left_by_action x) scopes b ps
action-roll x scopes b ps = ap (λ f. f scopes b ps) (fold-roll-Action (Spot → Effect) Effect kind_effect action_effect x)

abbrev SameMeaning : Meaning → Effect → Type 0
SameMeaning m list = (next end : Next) (scopes : Scopes) (b : Branch) (ps : List Spot) → m next end scopes b ps ≡ followed next end (list scopes b ps)

abbrev SameKind : ActionKind → Type 0
SameKind k = (p : Spot) → SameMeaning (run_kind k p) (left_by_kind k p)

abbrev SameAction : Action → Type 0
SameAction a = SameMeaning (run_action a) (left_by_action a)

abbrev KindUses : ActionKind → Type 0
KindUses k = (p : Spot) (scopes : Scopes) (b : Branch) (rest : List Spot) → bytes_eq p.branch b ≡ true → Uses scopes (p ∷ rest) (left_by_kind k p scopes b rest)

abbrev KindProved : Type 0
KindProved = (k : ActionKind) × (SameKind k × KindUses k)

abbrev ActionProved : Type 0
ActionProved = (a : Action) × (SameAction a × UsesWell (left_by_action a))

abbrev plain : List ActionProved → List Action
plain acts = map {A = ActionProved} {B = Action} (λ e. e.0) acts

-- the two meanings of such a list
abbrev part : List ActionProved → Part
part acts = in_order (map run_action (plain acts))

abbrev list : List ActionProved → Effect
list acts = in_turn (map left_by_action (plain acts))

list-follows : (acts : List ActionProved) (next : Next) (scopes : Scopes) (b : Branch) (ps : List Spot) → part acts next scopes b ps ≡ followed next next (list acts scopes b ps)
list-follows [] next scopes b ps = by (next scopes ps)
  where
    by : (o : Option Outcome) → o ≡ prefixed [] o
    by None = refl
    by (Some o) = refl
list-follows (a ∷ acts) next scopes b ps =
    a.1.0 (λ s p. part acts next s b p) next scopes b ps
    ∙ (λ i. followed (λ s p. list-follows acts next s b p i) next (left_by_action a.0 scopes b ps))
    ∙ then-follows next (λ s rest. list acts s b rest) (left_by_action a.0 scopes b ps)

list-ends : (acts : List ActionProved) (scopes : Scopes) (b : Branch) (ps : List Spot) → OfList (list acts scopes b ps)
list-ends [] scopes b ps = tt
list-ends (a ∷ acts) scopes b ps = of-then (λ s rest. list acts s b rest) (λ s rest. list-ends acts s b rest) (left_by_action a.0 scopes b ps)

list-same : (acts : List ActionProved) → SameList (part acts) (list acts)
list-same acts = (list-follows acts, list-ends acts)

abbrev Options : Type 0
Options = List (List Condition × List ActionProved)

abbrev plain_options : Options → List (List Condition × List Action)
plain_options options = map {A = List Condition × List ActionProved} {B = List Condition × List Action} (λ x. (x.0, plain x.1)) options

abbrev option_parts : Options → List (List Condition × Part)
option_parts options = map {A = List Condition × List Meaning} {B = List Condition × Part} (λ x. (x.0, in_order x.1))
    (map {A = List Condition × List Action} {B = List Condition × List Meaning} (λ x. (x.0, map run_action x.1)) (plain_options options))

abbrev option_lists : Options → List (List Condition × Effect)
option_lists options = map {A = List Condition × List Effect} {B = List Condition × Effect} (λ x. (x.0, in_turn x.1))
    (map {A = List Condition × List Action} {B = List Condition × List Effect} (λ x. (x.0, map left_by_action x.1)) (plain_options options))

chosen-same : (options : Options) (fallback : List ActionProved) (sight : Sight) (env : Pairs)
    → SameList (chosen (option_parts options) (part fallback) sight env) (chosen_list (option_lists options) (list fallback) sight env)
chosen-same [] fallback sight env = list-same fallback
chosen-same (x ∷ xs) fallback sight env =
    either-same (hold_all sight x.0 env) (part x.1) (chosen (option_parts xs) (part fallback) sight env) (list x.1) (chosen_list (option_lists xs) (list fallback) sight env)
    (list-same x.1) (chosen-same xs fallback sight env)

abbrev several_parts : List (List ActionProved) → List Part
several_parts lists = map in_order (map {A = List Action} {B = List Meaning} (λ l. map run_action l) (map {A = List ActionProved} {B = List Action} plain lists))

abbrev several_lists : List (List ActionProved) → List Effect
several_lists lists = map in_turn (map {A = List Action} {B = List Effect} (λ l. map left_by_action l) (map {A = List ActionProved} {B = List Action} plain lists))

lists-same : (lists : List (List ActionProved)) → SameLists (several_parts lists) (several_lists lists)
lists-same [] = tt
lists-same (l ∷ ls) = (list-same l, lists-same ls)

abbrev plain_kind : ActionKind-F KindProved ActionProved → ActionKind-F ActionKind Action
plain_kind y = map-ActionKind KindProved ActionProved ActionKind Action (λ e. e.0) (λ e. e.0) y

kind-same : (y : ActionKind-F KindProved ActionProved) (p : Spot)
    → SameMeaning (kind_step (map-ActionKind ActionKind Action (Spot → Meaning) Meaning run_kind run_action (plain_kind y)) p)
    (kind_effect (map-ActionKind ActionKind Action (Spot → Effect) Effect left_by_kind left_by_action (plain_kind y)) p)
kind-same (ActionKind-F.Call service target fields) p next end scopes b rest = call-same next end scopes b (call_item p.sight (flat scopes) service target fields) p.place rest
kind-same (ActionKind-F.Delay form) p next end scopes b rest =
    field-follows next end (λ d. gives Item.Nothing (delayed (p.sight.now + d) next scopes b rest)) (λ d. items_then (Item.Nothing ∷ []) (delays (p.sight.now + d) scopes b rest))
    (λ d. ap (gives Item.Nothing) (delay-same next end scopes b (p.sight.now + d) rest) ∙ item-follows next end Item.Nothing (delays (p.sight.now + d) scopes b rest))
    (span_of p.sight (flat scopes) form) scopes rest
kind-same (ActionKind-F.WaitUntil test timeout go_on) p next end scopes b rest = begins-same next end scopes b (Some test) [] timeout go_on p rest
kind-same (ActionKind-F.WaitFor triggers timeout go_on) p next end scopes b rest = begins-same next end scopes b None triggers timeout go_on p rest
kind-same (ActionKind-F.Choose options fallback) p next end scopes b rest =
    into-same (chosen (option_parts options) (part fallback) p.sight (flat scopes)) (chosen_list (option_lists options) (list fallback) p.sight (flat scopes))
    (chosen-same options fallback p.sight (flat scopes)) next end scopes b rest
kind-same (ActionKind-F.If tests yes' no') p next end scopes b rest =
    let c = hold_all p.sight tests (flat scopes) in
    into-same (if c then part yes' else part no') (if c then list yes' else list no') (either-same c (part yes') (part no') (list yes') (list no') (list-same yes') (list-same no')) next end scopes b rest
kind-same (ActionKind-F.Repeat kind body) p next end scopes b rest = repeat-same kind (part body) (list body) (list-same body) p next end scopes b rest
kind-same (ActionKind-F.Parallel lists) p next end scopes b rest =
    ap (gives Item.Nothing) (beside-follows next end scopes b (several_parts lists) (several_lists lists) (lists-same lists) rest)
    ∙ item-follows next end Item.Nothing (beside (several_lists lists) scopes b rest)
kind-same (ActionKind-F.Block body) p next end scopes b rest = into-same (part body) (list body) (list-same body) next end scopes b rest
kind-same (ActionKind-F.Set pairs) p next end scopes b rest =
    option-follows next end (λ new. gives Item.Nothing (next new rest)) (λ new. does Item.Nothing new rest) (λ new. done-follows next end Item.Nothing new rest) (set_all pairs p.sight scopes) scopes rest
kind-same (ActionKind-F.Fire event fields) p next end scopes b rest =
    option-follows next end (λ ps. gives (Item.Fired event ps) (next scopes rest)) (λ ps. does (Item.Fired event ps) scopes rest) (λ ps. done-follows next end (Item.Fired event ps) scopes rest)
    (fields_of p.sight (flat scopes) fields) scopes rest
kind-same ActionKind-F.Stop p next end scopes b rest = one-item Item.Nothing (ends Status.Stopped rest)
kind-same (ActionKind-F.Test c) p next end scopes b rest = test-same next end scopes b (holds p.sight c (flat scopes)) rest

kind-layer : (y : ActionKind-F KindProved ActionProved) → SameKind (roll-ActionKind (plain_kind y))
kind-layer y p next end scopes b rest =
    run_kind-roll (plain_kind y) p next end scopes b rest
    ∙ kind-same y p next end scopes b rest
    ∙ ap (followed next end) (sym (kind-roll (plain_kind y) p scopes b rest))

abbrev plain_action : Action-F KindProved ActionProved → Action-F ActionKind Action
plain_action y = map-Action KindProved ActionProved ActionKind Action (λ e. e.0) (λ e. e.0) y

action-layer : (y : Action-F KindProved ActionProved) → SameAction (roll-Action (plain_action y))
action-layer y next end scopes b ps =
    run_action-roll (plain_action y) next end scopes b ps
    ∙ place-follows next end b scopes (λ p rest. run_kind y.kind.0 p next end scopes b rest) (λ p rest. left_by_kind y.kind.0 p scopes b rest) (λ p rest. y.kind.1.0 p next end scopes b rest) ps
    ∙ ap (followed next end) (sym (action-roll (plain_action y) scopes b ps))

-- ---- what is used

list-uses : (acts : List ActionProved) → UsesWell (list acts)
list-uses [] scopes b ps = record { used = []; places = refl; items = refl; none_left = λ e. absurd cc; blocks = λ e. refl; stand = tt }
list-uses (a ∷ acts) scopes b ps = then-uses scopes ps (λ s rest. list acts s b rest) (λ s rest. list-uses acts s b rest) (left_by_action a.0 scopes b ps) (a.1.1 scopes b ps)

chosen-uses : (options : Options) (fallback : List ActionProved) (sight : Sight) (env : Pairs) → UsesWell (chosen_list (option_lists options) (list fallback) sight env)
chosen-uses [] fallback sight env = list-uses fallback
chosen-uses (x ∷ xs) fallback sight env =
    either-uses (hold_all sight x.0 env) (list x.1) (chosen_list (option_lists xs) (list fallback) sight env) (list-uses x.1) (chosen-uses xs fallback sight env)

lists-use : (lists : List (List ActionProved)) → EachWell (several_lists lists)
lists-use [] = tt
lists-use (l ∷ ls) = (list-uses l, lists-use ls)

into-uses : (e : Effect) → UsesWell e → (scopes : Scopes) (b : Branch) (p : Spot) (rest : List Spot) → Uses scopes (p ∷ rest) (nothing_then (in_block [] e scopes b rest))
into-uses e h scopes b p rest =
    let inside = scopes ++ ([] ∷ []) in
    nothing-uses scopes p rest (in_block [] e scopes b rest) (block-uses scopes [] rest (e inside b rest) (h inside b rest))

delay-uses : (due : ℕ) → UsesWell (delays due)
delay-uses due scopes b = place-uses b scopes (λ s after. if nat_le due s.sight.now then does Item.Nothing scopes after else None) (λ s after own. by s after (nat_le due s.sight.now))
  where
    by : (s : Spot) (after : List Spot) (c : Bool) → Uses scopes (s ∷ after) (if c then does Item.Nothing scopes after else None)
    by s after true = does-uses Item.Nothing scopes scopes s after (nothing-still s) (λ e. refl)
    by s after false = tt

behind-length : (ask : Ask) (e : WaitEnd) (scopes : Scopes) → 0 < length scopes → length (scopes_behind ask e scopes) ≡ length scopes
behind-length ask e scopes h = by ask.called
  where
    by : (c : Bool) → length (if c then scopes else add_inside (codes "wait", wait_value e) scopes) ≡ length scopes
    by true = refl
    by false = inside-length (codes "wait", wait_value e) scopes h

wait-uses : (ask : Ask) (go_on : Bool) (p : ℕ) → UsesWell (waits ask go_on p)
wait-uses ask go_on p scopes b = place-uses b scopes (λ s after. option_map_or (λ e. waited_for ask e go_on scopes after) (s.wait_end ask p) None) (λ s after own. by s after (s.wait_end ask p))
  where
    ended : (e : WaitEnd) (s : Spot) (after : List Spot) (c : Bool)
        → Uses scopes (s ∷ after) (if c then does Item.Nothing (scopes_behind ask e scopes) after else leaves (Item.Nothing ∷ []) Standing.Stopped scopes after)
    ended e s after true = does-uses Item.Nothing scopes (scopes_behind ask e scopes) s after (nothing-still s) (behind-length ask e scopes)
    ended e s after false = one-place scopes scopes s after Item.Nothing Standing.Stopped refl (nothing-still s) (λ z. refl)

    by : (s : Spot) (after : List Spot) (o : Option WaitEnd) → Uses scopes (s ∷ after) (option_map_or (λ e. waited_for ask e go_on scopes after) o None)
    by s after None = tt
    by s after (Some e) = ended e s after (e.done || go_on)

-- where no script is seen, a call's item names none
pub call-names : (s : Sight) (env : Pairs) (service : Template) (target : List Template) (fields : List (Text × Form)) → s.scripts ≡ [] → NamesNoScript (call_item s env service target fields)
call-names s env service target fields none = by-service (service_of s env service)
  where
    -- one of the services of automations, or a call that is written
    outer : (all : Automations) (name : Text) (es : List EntityId) (ps : Pairs) → NamesNoScript (item_of all name es ps)
    outer all name es ps = by (same name (codes "automation.turn_on")) (same name (codes "automation.turn_off")) (same name (codes "automation.toggle")) (same name (codes "automation.trigger"))
      where
        by : (a b c d : Bool) → NamesNoScript (
            if a then Item.Switched (map (switched_to true ps) (automations_of all es))
            else if b then Item.Switched (map (switched_to false ps) (automations_of all es))
            else if c then Item.Switched (map (λ n. switched_to (not (was_on all n)) ps n) (automations_of all es))
            else if d then Item.Triggered (automations_of all es) (flag_named (codes "skip_condition") ps)
            else Item.Call name es ps)
        by true b c d = tt
        by false true c d = tt
        by false false true d = tt
        by false false false true = tt
        by false false false false = tt

    by-fields : (name : Text) (es : List EntityId) (r : Checked Pairs)
        → NamesNoScript (item_or_failed s env (checked_then (λ ps. done_by (inner_of s name es ps) (item_of s.automations name es ps)) r))
    by-fields name es (Ok ps) =
        subst (λ all. NamesNoScript (item_or_failed s env (done_by (option_map_or Inner.Does (own_item all name es ps) (inner_of_helpers s name es ps)) (item_of s.automations name es ps)))) (sym none)
        (helped-cases s name es ps (item_of s.automations name es ps) (λ r. NamesNoScript (item_or_failed s env r)) (outer s.automations name es ps) (λ changes seen. tt) (λ code. tt))
    by-fields name es (Err code) = tt

    by-targets : (name : Text) (r : Checked (List EntityId))
        → NamesNoScript (item_or_failed s env (checked_then (λ es. checked_then (λ ps. done_by (inner_of s name es ps) (item_of s.automations name es ps)) (ok_or (fields_of s env fields) template_fault)) r))
    by-targets name (Ok es) = by-fields name es (ok_or (fields_of s env fields) template_fault)
    by-targets name (Err code) = tt

    by-service : (r : Checked Text)
        → NamesNoScript (item_or_failed s env (checked_then (λ n. checked_then (λ es. checked_then (λ ps. done_by (inner_of s n es ps) (item_of s.automations n es ps)) (ok_or (fields_of s env fields) template_fault)) (targets_of s env target)) r))
    by-service (Ok name) = by-targets name (targets_of s env target)
    by-service (Err code) = tt

-- a call that waits: its second place, in its branch, is one before which the run that it started has ended
waiting-uses : (item : Item) (p : Spot) (scopes : Scopes) (b : Branch) (rest : List Spot) → bytes_eq p.branch b ≡ true → (p.sight.scripts ≡ [] → NamesNoScript item)
    → AreMade p.sight (changes_by item) → sees_named p.sight item ≡ true → Uses scopes (p ∷ rest) (items_then (item ∷ []) (waits (call_ask scopes) true p.place scopes b rest))
waiting-uses item p scopes b [] own names helps sees =
    record { used = p ∷ []; places = refl; items = refl; none_left = λ e. refl; blocks = λ e. refl; stand = (record { waits = λ w. refl; names = names; helps = helps; sees = sees }, tt) }
waiting-uses item p scopes b (s ∷ after) own names helps sees = by (bytes_eq s.branch b) refl (s.wait_end (call_ask scopes) p.place) refl
  where
    -- its branch is the call's
    goes : bytes_eq s.branch b ≡ true → (e : WaitEnd) → s.wait_end (call_ask scopes) p.place ≡ Some e → GoesOn false p.place (next_in p.branch (s ∷ []))
    goes same e is =
        let one : s.branch ≡ b = (bytes_eq-Decides s.branch b).0 same in
        let two : p.branch ≡ b = (bytes_eq-Decides p.branch b).0 own in
        let alike : bytes_eq s.branch p.branch ≡ true = (λ i. bytes_eq (one i) (two i)) ∙ same-refl b in
        subst (λ c. GoesOn false p.place (if c then Some s else None)) (sym alike) (scopes, e, is)

    ended : bytes_eq s.branch b ≡ true → (e : WaitEnd) → s.wait_end (call_ask scopes) p.place ≡ Some e
        → Uses scopes (p ∷ s ∷ after) (items_then (item ∷ []) (does Item.Nothing scopes after))
    ended same e is =
        record {
          used = p ∷ s ∷ [];
          places = refl;
          items = refl;
          none_left = λ z. absurd cc;
          blocks = λ z. refl;
          stand = (record { waits = λ w. goes same e is; names = names; helps = helps; sees = sees }, (still-stands false s Item.Nothing [] (nothing-still s), tt));
        }

    either : (c : Bool) (e : WaitEnd) → Uses scopes (p ∷ s ∷ after) (items_then (item ∷ []) (does Item.Nothing scopes after))
        → Uses scopes (p ∷ s ∷ after) (items_then (item ∷ []) (if c || true then does Item.Nothing (scopes_behind (call_ask scopes) e scopes) after else leaves (Item.Nothing ∷ []) Standing.Stopped scopes after))
    either true e h = h
    either false e h = h

    by : (c : Bool) → bytes_eq s.branch b ≡ c → (o : Option WaitEnd) → s.wait_end (call_ask scopes) p.place ≡ o
        → Uses scopes (p ∷ s ∷ after) (items_then (item ∷ []) (if c then option_map_or (λ e. waited_for (call_ask scopes) e true scopes after) o None else None))
    by false same o is = tt
    by true same None is = tt
    by true same (Some e) is = either e.done e (ended same e is)

call-uses : (item : Item) (p : Spot) (scopes : Scopes) (b : Branch) (rest : List Spot) → bytes_eq p.branch b ≡ true → (p.sight.scripts ≡ [] → NamesNoScript item)
    → AreMade p.sight (changes_by item) → sees_named p.sight item ≡ true → Uses scopes (p ∷ rest) (calls item p.place scopes b rest)
call-uses item p scopes b rest own names helps sees = by (awaits_end item) refl
  where
    by : (c : Bool) → awaits_end item ≡ c → Uses scopes (p ∷ rest) (if c then items_then (item ∷ []) (waits (call_ask scopes) true p.place scopes b rest) else does item scopes rest)
    by true e = waiting-uses item p scopes b rest own names helps sees
    by false e = does-uses item scopes scopes p rest (e, names, helps, sees) (λ z. refl)

begins-use : (test : Option Template) (triggers : List Trigger) (timeout : Option SpanForm) (go_on : Bool) (p : Spot) (scopes : Scopes) (b : Branch) (rest : List Spot)
    → Uses scopes (p ∷ rest) (begins_wait test triggers timeout go_on p scopes b rest)
begins-use test triggers timeout go_on p scopes b rest =
    field-uses scopes p rest (λ d. nothing_then (waits (ask d) go_on p.place scopes b rest)) (spans_of p.sight (flat scopes) timeout)
    (λ d e. nothing-uses scopes p rest (waits (ask d) go_on p.place scopes b rest) (wait-uses (ask d) go_on p.place scopes b rest))
  where
    ask : Option ℕ → Ask
    ask d = wait_for test triggers d scopes

set-uses : (pairs : List (Text × Form)) (p : Spot) (scopes : Scopes) (rest : List Spot) (o : Option Scopes) → set_all pairs p.sight scopes ≡ o
    → Uses scopes (p ∷ rest) (on_field (ok_or o 1) scopes rest (λ new. does Item.Nothing new rest))
set-uses pairs p scopes rest None e = does-uses (Item.Failed 1) scopes scopes p rest (failed-still p 1) (λ z. refl)
set-uses pairs p scopes rest (Some new) e = does-uses Item.Nothing scopes new p rest (nothing-still p) (set-length pairs p.sight scopes new e)

repeat-uses : (kind : RepeatKind) (e : Effect) → UsesWell e → (p : Spot) (scopes : Scopes) (b : Branch) (rest : List Spot) → Uses scopes (p ∷ rest) (repeats kind e p scopes b rest)
repeat-uses (RepeatKind.Count t) e h p scopes b rest =
    field-uses scopes p rest (λ n. turns_from e (count_loop n) b n 1 scopes p rest) (count_of p.sight (flat scopes) t) (λ n z. turns-use e h (count_loop n) b n 1 scopes p rest)
repeat-uses (RepeatKind.Each fs) e h p scopes b rest =
    field-uses scopes p rest (λ vs. turns_from e (each_loop vs) b (length vs) 1 scopes p rest) (ok_or (forms_of p.sight (flat scopes) fs) template_fault)
    (λ vs z. turns-use e h (each_loop vs) b (length vs) 1 scopes p rest)
repeat-uses (RepeatKind.While cs) e h p scopes b rest = turns-use e h (while_loop cs) b most_turns 1 scopes p rest
repeat-uses (RepeatKind.Until cs) e h p scopes b rest = turns-use e h (until_loop cs) b most_turns 1 scopes p rest

kind-uses : (y : ActionKind-F KindProved ActionProved) (p : Spot) (scopes : Scopes) (b : Branch) (rest : List Spot) → bytes_eq p.branch b ≡ true
    → Uses scopes (p ∷ rest) (kind_effect (map-ActionKind ActionKind Action (Spot → Effect) Effect left_by_kind left_by_action (plain_kind y)) p scopes b rest)
kind-uses (ActionKind-F.Call service target fields) p scopes b rest own =
    call-uses (call_item p.sight (flat scopes) service target fields) p scopes b rest own (call-names p.sight (flat scopes) service target fields)
    (call-helps p.sight (flat scopes) service target fields) (call-sees p.sight (flat scopes) service target fields)
kind-uses (ActionKind-F.Delay form) p scopes b rest own =
    field-uses scopes p rest (λ d. nothing_then (delays (p.sight.now + d) scopes b rest)) (span_of p.sight (flat scopes) form)
    (λ d z. nothing-uses scopes p rest (delays (p.sight.now + d) scopes b rest) (delay-uses (p.sight.now + d) scopes b rest))
kind-uses (ActionKind-F.WaitUntil test timeout go_on) p scopes b rest own = begins-use (Some test) [] timeout go_on p scopes b rest
kind-uses (ActionKind-F.WaitFor triggers timeout go_on) p scopes b rest own = begins-use None triggers timeout go_on p scopes b rest
kind-uses (ActionKind-F.Choose options fallback) p scopes b rest own =
    into-uses (chosen_list (option_lists options) (list fallback) p.sight (flat scopes)) (chosen-uses options fallback p.sight (flat scopes)) scopes b p rest
kind-uses (ActionKind-F.If tests yes' no') p scopes b rest own =
    let c = hold_all p.sight tests (flat scopes) in
    into-uses (if c then list yes' else list no') (either-uses c (list yes') (list no') (list-uses yes') (list-uses no')) scopes b p rest
kind-uses (ActionKind-F.Repeat kind body) p scopes b rest own = repeat-uses kind (list body) (list-uses body) p scopes b rest
kind-uses (ActionKind-F.Parallel lists) p scopes b rest own = nothing-uses scopes p rest (beside (several_lists lists) scopes b rest) (beside-uses (several_lists lists) (lists-use lists) scopes b rest)
kind-uses (ActionKind-F.Block body) p scopes b rest own = into-uses (list body) (list-uses body) scopes b p rest
kind-uses (ActionKind-F.Set pairs) p scopes b rest own = set-uses pairs p scopes rest (set_all pairs p.sight scopes) refl
kind-uses (ActionKind-F.Fire event fields) p scopes b rest own =
    field-uses scopes p rest (λ pairs. does (Item.Fired event pairs) scopes rest) (ok_or (fields_of p.sight (flat scopes) fields) template_fault)
    (λ pairs z. does-uses (Item.Fired event pairs) scopes scopes p rest (refl, λ w. tt, tt, refl) (λ w. refl))
kind-uses ActionKind-F.Stop p scopes b rest own = one-place scopes scopes p rest Item.Nothing Standing.Stopped refl (nothing-still p) (λ z. refl)
kind-uses (ActionKind-F.Test c) p scopes b rest own = by (holds p.sight c (flat scopes))
  where
    by : (d : Bool) → Uses scopes (p ∷ rest) (leaves (Item.Nothing ∷ []) (if d then Standing.Done else Standing.ListDone) scopes rest)
    by true = one-place scopes scopes p rest Item.Nothing Standing.Done refl (nothing-still p) (λ z. refl)
    by false = one-place scopes scopes p rest Item.Nothing Standing.ListDone refl (nothing-still p) (λ z. refl)

uses-layer : (y : ActionKind-F KindProved ActionProved) → KindUses (roll-ActionKind (plain_kind y))
uses-layer y p scopes b rest own = subst (Uses scopes (p ∷ rest)) (sym (kind-roll (plain_kind y) p scopes b rest)) (kind-uses y p scopes b rest own)

well-layer : (y : Action-F KindProved ActionProved) → UsesWell (left_by_action (roll-Action (plain_action y)))
well-layer y scopes b ps =
    subst (Uses scopes ps) (sym (action-roll (plain_action y) scopes b ps)) (place-uses b scopes (λ p rest. left_by_kind y.kind.0 p scopes b rest) (λ p rest own. y.kind.1.1 p scopes b rest own) ps)

-- ---- both, by induction

abbrev KindHolds : ActionKind → Type 0
KindHolds k = SameKind k × KindUses k

abbrev ActionHolds : Action → Type 0
ActionHolds a = SameAction a × UsesWell (left_by_action a)

action-holds : (a : Action) → ActionHolds a
action-holds =
    ind-Action KindHolds ActionHolds (λ x y is. subst (λ z. KindHolds (roll-ActionKind z)) is (kind-layer y, uses-layer y))
    (λ x y is. subst (λ z. ActionHolds (roll-Action z)) is (action-layer y, well-layer y))

-- ---- lists and whole scripts

pub actions-same : (actions : List Action) (next : Next) (scopes : Scopes) (b : Branch) (ps : List Spot) → exec actions next scopes b ps ≡ followed next next (left_by actions scopes b ps)
actions-same [] next scopes b ps = by (next scopes ps)
  where
    by : (o : Option Outcome) → o ≡ prefixed [] o
    by None = refl
    by (Some o) = refl
actions-same (a ∷ actions) next scopes b ps =
    (action-holds a).0 (λ s p. exec actions next s b p) next scopes b ps
    ∙ (λ i. followed (λ s p. actions-same actions next s b p i) next (left_by_action a scopes b ps))
    ∙ then-follows next (λ s rest. left_by actions s b rest) (left_by_action a scopes b ps)

pub script-same : (actions : List Action) (env : Pairs) (ps : List Spot) → whole actions env ps ≡ left_by_script actions env ps
script-same actions env ps = actions-same actions list_end (env ∷ []) [] ps ∙ ended-list (left_by actions (env ∷ []) [] ps)

pub actions-use : (actions : List Action) → UsesWell (left_by actions)
actions-use [] scopes b ps = record { used = []; places = refl; items = refl; none_left = λ e. absurd cc; blocks = λ e. refl; stand = tt }
actions-use (a ∷ actions) scopes b ps =
    then-uses scopes ps (λ s rest. left_by actions s b rest) (λ s rest. actions-use actions s b rest) (left_by_action a scopes b ps) ((action-holds a).1 scopes b ps)

used-of : (scopes : Scopes) (ps : List Spot) (o : Option Left) → Uses scopes ps o → (l : Left) → o ≡ Some l → IsUsed scopes ps l
used-of scopes ps None u l e = absurd cc
used-of scopes ps (Some m) u l e = (let known : m ≡ l = cc in subst (IsUsed scopes ps) known u)

pub list-used : (actions : List Action) (scopes : Scopes) (b : Branch) (ps : List Spot) (l : Left) → left_by actions scopes b ps ≡ Some l → IsUsed scopes ps l
list-used actions scopes b ps = used-of scopes ps (left_by actions scopes b ps) (actions-use actions scopes b ps)

-- a whole script gives an item for each place
whole-length : (scopes : Scopes) (ps : List Spot) (o : Option Left) → Uses scopes ps o → (x : Outcome) → option_map outcome_of (all_used o) ≡ Some x → length x.items ≡ length ps
whole-length scopes ps None u x e = absurd cc
whole-length scopes ps (Some l) u x e = by l.places u e
  where
    by : (places : List Spot) → IsUsed scopes ps (record l { places = places }) → option_map outcome_of (if_no_place places (record l { places = places })) ≡ Some x
        → length x.items ≡ length ps
    by (p ∷ rest) u e = absurd cc
    by [] u e =
        let known : outcome_of (record l { places = [] }) ≡ x = cc in
        ap (λ o. length o.items) (sym known) ∙ u.items ∙ sym (ap length (u.places ∙ append-nil u.used))

pub script-used : (actions : List Action) (env : Pairs) (ps : List Spot) (o : Outcome) → whole actions env ps ≡ Some o → length o.items ≡ length ps
script-used actions env ps o e = whole-length (env ∷ []) ps (left_by actions (env ∷ []) [] ps) (actions-use actions (env ∷ []) [] ps) o (sym (script-same actions env ps) ∙ e)

-- each item stands among the places of the script
same-open : (s : Standing) → stands_open s ≡ is_open (status_of s)
same-open Standing.Done = refl
same-open Standing.ListDone = refl
same-open Standing.Open = refl
same-open Standing.Stopped = refl
same-open Standing.Faulted = refl

whole-stand : (scopes : Scopes) (ps : List Spot) (o : Option Left) → Uses scopes ps o → (x : Outcome) → option_map outcome_of (all_used o) ≡ Some x → EachStands (is_open x.status) ps x.items
whole-stand scopes ps None u x e = absurd cc
whole-stand scopes ps (Some l) u x e = by l.places u e
  where
    by : (places : List Spot) → IsUsed scopes ps (record l { places = places }) → option_map outcome_of (if_no_place places (record l { places = places })) ≡ Some x
        → EachStands (is_open x.status) ps x.items
    by (p ∷ rest) u e = absurd cc
    by [] u e =
        let known : outcome_of (record l { places = [] }) ≡ x = cc in
        let own : ps ≡ u.used = u.places ∙ append-nil u.used in
        let stand : EachStands (is_open (status_of l.standing)) u.used l.items = subst (λ o. EachStands o u.used l.items) (same-open l.standing) u.stand in
        subst (λ y. EachStands (is_open y.status) ps y.items) known (subst (λ q. EachStands (is_open (status_of l.standing)) q l.items) (sym own) stand)

pub script-stands : (actions : List Action) (env : Pairs) (ps : List Spot) (o : Outcome) → whole actions env ps ≡ Some o → EachStands (is_open o.status) ps o.items
script-stands actions env ps o e = whole-stand (env ∷ []) ps (left_by actions (env ∷ []) [] ps) (actions-use actions (env ∷ []) [] ps) o (sym (script-same actions env ps) ∙ e)
