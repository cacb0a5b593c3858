-- By induction on a script: on places that see no script it means what it means where there are none.
use Rattle.std.proofs.Common.{◌≡◌, ℕ, ◌+◌, Bool, true, false, List, [], ◌∷◌, ◌++◌, length, map, refl, sym, ap, subst, ◌∙◌}
use Rattle.std.specs.Prelude.{Option, Some, None, Ok, Err, ok_or, option_map, if◌then◌else◌}
use Rattle.std.specs.Option.{option_map_or}
use Rattle.ha_value.specs.declared.value.EntityId.{EntityId}
use Rattle.ha_config.specs.declared.template.Template.{Template}
use Rattle.ha_config.specs.declared.config.Trigger.{Trigger}
use Rattle.ha_config.specs.declared.config.Condition.{Condition}
use Rattle.ha_config.specs.declared.config.Form.{Form}
use Rattle.ha_config.specs.declared.config.SpanForm.{SpanForm}
use Rattle.ha_config.specs.declared.config.RepeatKind.{RepeatKind}
use Rattle.ha_config.specs.declared.config.Action.{Action}
use Rattle.ha_config.specs.declared.config.ActionKind.{ActionKind}
use Rattle.ha_config.specs.declared.config.ActionKind.TheOpen.{ActionKind-F, Action-F}
use Rattle.ha_config.specs.declared.config.ActionKind.TheViews.{roll-ActionKind, roll-Action}
use Rattle.ha_config.specs.declared.config.ActionKind.TheFolds.{fold-ActionKind, fold-roll-ActionKind, fold-roll-Action, map-ActionKind, map-Action, ind-Action}
use Rattle.ha_config.specs.Words.{Pairs, Text}
use Rattle.ha_sight.specs.declared.item.Item.{Item}
use Rattle.ha_sight.specs.declared.steps.Inner.{Inner}
use Rattle.ha_sight.specs.declared.waiting.WaitEnd.{WaitEnd}
use Rattle.ha_sight.specs.Sight.{Sight}
use Rattle.ha_sight.specs.Conditions.{hold_all}
use Rattle.ha_sight.specs.Calls.{Checked, call_item, checked_then, count_of, done_by, fields_of, forms_of, item_of, item_or_failed, service_of, span_of, spans_of, targets_of, template_fault}
use Rattle.ha_sight.specs.Inner.{inner_of, inner_of_helpers, own_item}
use Rattle.ha_sight.specs.Items.{awaits_end}
use Rattle.ha_sight.specs.Scripts.{Branch, Scopes, Spot, call_ask, count_loop, each_loop, flat, most_turns, set_all, until_loop, wait_for, while_loop, whole}
use Rattle.script_laws.specs.Direct.{Effect, action_effect, begins_wait, beside, calls, chosen_list, delays, does, in_block, in_turn, items_then, kind_effect, left_by, left_by_action, nothing_then, outcome_of, repeats, turns_from, waits}
use Rattle.script_laws.specs.Plain.{SeeNone, plain_by, plain_by_action, plain_effect, plain_item, plain_script, told_of}
use Rattle.script_laws.specs.Stands.{NamesNoScript}
use Rattle.script_laws.proofs.ByScript.{action-roll, call-names, kind-roll, left_by_kind, script-same}
use Rattle.script_laws.proofs.PlainLemmas.{EachSame, SameEffect, SameLeft, beside-plain, block-plain, delay-plain, either-plain, field-plain, heard, items-plain, place-plain, then-plain, turns-plain, used-plain, wait-plain}

-- ---- one level of the plain meaning

abbrev plain_by_kind : ActionKind → Spot → Effect
plain_by_kind = fold-ActionKind (Spot → Effect) Effect plain_effect action_effect

plain-kind-roll : (x : ActionKind-F ActionKind Action) (p : Spot) (scopes : Scopes) (b : Branch) (rest : List Spot)
    → plain_by_kind (roll-ActionKind x) p scopes b rest ≡ plain_effect (map-ActionKind ActionKind Action (Spot → Effect) Effect plain_by_kind plain_by_action x) p scopes b rest
plain-kind-roll x p scopes b rest = ap (λ f. f p scopes b rest) (fold-roll-ActionKind (Spot → Effect) Effect plain_effect action_effect x)

plain-action-roll : (x : Action-F ActionKind Action) (scopes : Scopes) (b : Branch) (ps : List Spot)
    → plain_by_action (roll-Action x) scopes b ps ≡ action_effect (map-Action ActionKind Action (Spot → Effect) Effect plain_by_kind plain_by_action x) scopes b ps
plain-action-roll x scopes b ps = ap (λ f. f scopes b ps) (fold-roll-Action (Spot → Effect) Effect plain_effect action_effect x)

-- ---- a call

plain-call : (s : Sight) (env : Pairs) (service : Template) (target : List Template) (fields : List (Text × Form)) → s.scripts ≡ [] → call_item s env service target fields ≡ plain_item s env service target fields
plain-call s env service target fields none = by-service (service_of s env service)
  where
    by-fields : (name : Text) (es : List EntityId) (r : Checked Pairs)
        → checked_then (λ ps. done_by (inner_of s name es ps) (item_of s.automations name es ps)) r ≡ checked_then (λ ps. done_by (inner_of_helpers s name es ps) (item_of s.automations name es ps)) r
    by-fields name es (Ok ps) = (λ i. done_by (option_map_or Inner.Does (own_item (none i) name es ps) (inner_of_helpers s name es ps)) (item_of s.automations name es ps))
    by-fields name es (Err code) = refl

    by-targets : (name : Text) (r : Checked (List EntityId))
        → checked_then (λ es. checked_then (λ ps. done_by (inner_of s name es ps) (item_of s.automations name es ps)) (ok_or (fields_of s env fields) template_fault)) r
        ≡ checked_then (λ es. checked_then (λ ps. done_by (inner_of_helpers s name es ps) (item_of s.automations name es ps)) (ok_or (fields_of s env fields) template_fault)) r
    by-targets name (Ok es) = by-fields name es (ok_or (fields_of s env fields) template_fault)
    by-targets name (Err code) = refl

    by-service : (r : Checked Text)
        → item_or_failed s env (checked_then (λ name. checked_then (λ es. checked_then (λ ps. done_by (inner_of s name es ps) (item_of s.automations name es ps)) (ok_or (fields_of s env fields) template_fault)) (targets_of s env target)) r)
        ≡ item_or_failed s env (checked_then (λ name. checked_then (λ es. checked_then (λ ps. done_by (inner_of_helpers s name es ps) (item_of s.automations name es ps)) (ok_or (fields_of s env fields) template_fault)) (targets_of s env target)) r)
    by-service (Ok name) = ap (item_or_failed s env) (by-targets name (targets_of s env target))
    by-service (Err code) = refl

-- an item that names no script does not wait
plain-waits : (item : Item) → NamesNoScript item → awaits_end item ≡ false
plain-waits (Item.Started scripts fields waits) h = absurd h
plain-waits (Item.Halted scripts) h = absurd h
plain-waits (Item.Helped changes) h = refl
plain-waits Item.Nothing h = refl
plain-waits (Item.Call service target fields) h = refl
plain-waits (Item.Fired kind pairs) h = refl
plain-waits (Item.Switched targets) h = refl
plain-waits (Item.Triggered chosen skip) h = refl
plain-waits (Item.Failed code) h = refl

plain-calls : (item item' : Item) (p : ℕ) (scopes : Scopes) (b : Branch) (rest : List Spot) → item ≡ item' → NamesNoScript item → calls item p scopes b rest ≡ does item' scopes rest
plain-calls item item' p scopes b rest e h =
    (λ i. if plain-waits item h i then items_then (item ∷ []) (waits (call_ask scopes) true p scopes b rest) else does item scopes rest) ∙ (λ i. does (e i) scopes rest)

-- ---- by induction on the script

module _ (told : ℕ → ℕ → Option WaitEnd) where
  abbrev PlainKind : ActionKind → Type 0
  PlainKind k = (p : Spot) (scopes : Scopes) (b : Branch) (rest : List Spot) → p.sight.scripts ≡ [] → SeeNone rest
      → SameLeft told (left_by_kind k (told_of told p) scopes b (heard told rest)) (plain_by_kind k p scopes b rest)

  abbrev PlainAction : Action → Type 0
  PlainAction a = SameEffect told (left_by_action a) (plain_by_action a)

  abbrev KindPlain : Type 0
  KindPlain = (k : ActionKind) × PlainKind k

  abbrev ActionPlain : Type 0
  ActionPlain = (a : Action) × PlainAction a

  abbrev bare : List ActionPlain → List Action
  bare acts = map {A = ActionPlain} {B = Action} (λ e. e.0) acts

  abbrev list : List ActionPlain → Effect
  list acts = in_turn (map left_by_action (bare acts))

  abbrev list' : List ActionPlain → Effect
  list' acts = in_turn (map plain_by_action (bare acts))

  list-plain : (acts : List ActionPlain) → SameEffect told (list acts) (list' acts)
  list-plain [] scopes b ps see = (refl, see)
  list-plain (a ∷ acts) scopes b ps see =
      then-plain told (left_by_action a.0 scopes b (heard told ps)) (plain_by_action a.0 scopes b ps) (a.1 scopes b ps see)
      (λ s rest. list acts s b rest) (λ s rest. list' acts s b rest) (λ s q seen. list-plain acts s b q seen)

  abbrev Options : Type 0
  Options = List (List Condition × List ActionPlain)

  abbrev bare_options : Options → List (List Condition × List Action)
  bare_options options = map {A = List Condition × List ActionPlain} {B = List Condition × List Action} (λ x. (x.0, bare x.1)) options

  abbrev option_lists : (Action → Effect) → Options → List (List Condition × Effect)
  option_lists by options = map {A = List Condition × List Effect} {B = List Condition × Effect} (λ x. (x.0, in_turn x.1))
      (map {A = List Condition × List Action} {B = List Condition × List Effect} (λ x. (x.0, map by x.1)) (bare_options options))

  chosen-plain : (options : Options) (fallback : List ActionPlain) (sight : Sight) (env : Pairs)
      → SameEffect told (chosen_list (option_lists left_by_action options) (list fallback) sight env) (chosen_list (option_lists plain_by_action options) (list' fallback) sight env)
  chosen-plain [] fallback sight env = list-plain fallback
  chosen-plain (x ∷ xs) fallback sight env =
      either-plain told (hold_all sight x.0 env) (list x.1) (chosen_list (option_lists left_by_action xs) (list fallback) sight env) (list' x.1) (chosen_list (option_lists plain_by_action xs) (list' fallback) sight env)
      (list-plain x.1) (chosen-plain xs fallback sight env)

  abbrev several : (Action → Effect) → List (List ActionPlain) → List Effect
  several by lists = map in_turn (map {A = List Action} {B = List Effect} (λ l. map by l) (map {A = List ActionPlain} {B = List Action} bare lists))

  lists-plain : (lists : List (List ActionPlain)) → EachSame told (several left_by_action lists) (several plain_by_action lists)
  lists-plain [] = tt
  lists-plain (l ∷ ls) = (list-plain l, lists-plain ls)

  into-plain : (e e' : Effect) → SameEffect told e e' → (scopes : Scopes) (b : Branch) (rest : List Spot) → SeeNone rest
      → SameLeft told (nothing_then (in_block [] e scopes b (heard told rest))) (nothing_then (in_block [] e' scopes b rest))
  into-plain e e' h scopes b rest see =
      let inside = scopes ++ ([] ∷ []) in
      items-plain told (Item.Nothing ∷ []) (in_block [] e scopes b (heard told rest)) (in_block [] e' scopes b rest)
      (block-plain told (e inside b (heard told rest)) (e' inside b rest) (h inside b rest see))

  begins-plain : (test : Option Template) (triggers : List Trigger) (timeout : Option SpanForm) (go_on : Bool) (p : Spot) (scopes : Scopes) (b : Branch) (rest : List Spot) → SeeNone rest
      → SameLeft told (begins_wait test triggers timeout go_on (told_of told p) scopes b (heard told rest)) (begins_wait test triggers timeout go_on p scopes b rest)
  begins-plain test triggers timeout go_on p scopes b rest see =
      field-plain told scopes rest see (λ d. nothing_then (waits (wait_for test triggers d scopes) go_on p.place scopes b (heard told rest))) (λ d. nothing_then (waits (wait_for test triggers d scopes) go_on p.place scopes b rest))
      (λ d. items-plain told (Item.Nothing ∷ []) (waits (wait_for test triggers d scopes) go_on p.place scopes b (heard told rest)) (waits (wait_for test triggers d scopes) go_on p.place scopes b rest)
      (wait-plain told test triggers d scopes go_on p.place scopes b rest see))
      (spans_of p.sight (flat scopes) timeout)

  repeat-plain : (kind : RepeatKind) (e e' : Effect) → SameEffect told e e' → (p : Spot) (scopes : Scopes) (b : Branch) (rest : List Spot) → SeeNone rest
      → SameLeft told (repeats kind e (told_of told p) scopes b (heard told rest)) (repeats kind e' p scopes b rest)
  repeat-plain (RepeatKind.Count t) e e' h p scopes b rest see =
      field-plain told scopes rest see (λ n. turns_from e (count_loop n) b n 1 scopes (told_of told p) (heard told rest)) (λ n. turns_from e' (count_loop n) b n 1 scopes p rest)
      (λ n. turns-plain told e e' h (count_loop n) b n 1 scopes p rest see) (count_of p.sight (flat scopes) t)
  repeat-plain (RepeatKind.Each fs) e e' h p scopes b rest see =
      field-plain told scopes rest see (λ vs. turns_from e (each_loop vs) b (length vs) 1 scopes (told_of told p) (heard told rest)) (λ vs. turns_from e' (each_loop vs) b (length vs) 1 scopes p rest)
      (λ vs. turns-plain told e e' h (each_loop vs) b (length vs) 1 scopes p rest see) (ok_or (forms_of p.sight (flat scopes) fs) template_fault)
  repeat-plain (RepeatKind.While cs) e e' h p scopes b rest see = turns-plain told e e' h (while_loop cs) b most_turns 1 scopes p rest see
  repeat-plain (RepeatKind.Until cs) e e' h p scopes b rest see = turns-plain told e e' h (until_loop cs) b most_turns 1 scopes p rest see

  abbrev bare_kind : ActionKind-F KindPlain ActionPlain → ActionKind-F ActionKind Action
  bare_kind y = map-ActionKind KindPlain ActionPlain ActionKind Action (λ e. e.0) (λ e. e.0) y

  kind-plain : (y : ActionKind-F KindPlain ActionPlain) (p : Spot) (scopes : Scopes) (b : Branch) (rest : List Spot) → p.sight.scripts ≡ [] → SeeNone rest
      → SameLeft told (kind_effect (map-ActionKind ActionKind Action (Spot → Effect) Effect left_by_kind left_by_action (bare_kind y)) (told_of told p) scopes b (heard told rest))
      (plain_effect (map-ActionKind ActionKind Action (Spot → Effect) Effect plain_by_kind plain_by_action (bare_kind y)) p scopes b rest)
  kind-plain (ActionKind-F.Call service target fields) p scopes b rest none see =
      let env = flat scopes in (
        plain-calls (call_item p.sight env service target fields) (plain_item p.sight env service target fields) p.place scopes b (heard told rest)
            (plain-call p.sight env service target fields none) (call-names p.sight env service target fields none),
        see,
      )
  kind-plain (ActionKind-F.Delay form) p scopes b rest none see =
      field-plain told scopes rest see (λ d. nothing_then (delays (p.sight.now + d) scopes b (heard told rest))) (λ d. nothing_then (delays (p.sight.now + d) scopes b rest))
      (λ d. items-plain told (Item.Nothing ∷ []) (delays (p.sight.now + d) scopes b (heard told rest)) (delays (p.sight.now + d) scopes b rest) (delay-plain told (p.sight.now + d) scopes b rest see))
      (span_of p.sight (flat scopes) form)
  kind-plain (ActionKind-F.WaitUntil test timeout go_on) p scopes b rest none see = begins-plain (Some test) [] timeout go_on p scopes b rest see
  kind-plain (ActionKind-F.WaitFor triggers timeout go_on) p scopes b rest none see = begins-plain None triggers timeout go_on p scopes b rest see
  kind-plain (ActionKind-F.Choose options fallback) p scopes b rest none see =
      into-plain (chosen_list (option_lists left_by_action options) (list fallback) p.sight (flat scopes)) (chosen_list (option_lists plain_by_action options) (list' fallback) p.sight (flat scopes))
      (chosen-plain options fallback p.sight (flat scopes)) scopes b rest see
  kind-plain (ActionKind-F.If tests yes' no') p scopes b rest none see =
      let c = hold_all p.sight tests (flat scopes) in
      into-plain (if c then list yes' else list no') (if c then list' yes' else list' no') (either-plain told c (list yes') (list no') (list' yes') (list' no') (list-plain yes') (list-plain no')) scopes b rest see
  kind-plain (ActionKind-F.Repeat kind body) p scopes b rest none see = repeat-plain kind (list body) (list' body) (list-plain body) p scopes b rest see
  kind-plain (ActionKind-F.Parallel lists) p scopes b rest none see =
      items-plain told (Item.Nothing ∷ []) (beside (several left_by_action lists) scopes b (heard told rest)) (beside (several plain_by_action lists) scopes b rest)
      (beside-plain told (several left_by_action lists) (several plain_by_action lists) (lists-plain lists) scopes b rest see)
  kind-plain (ActionKind-F.Block body) p scopes b rest none see = into-plain (list body) (list' body) (list-plain body) scopes b rest see
  kind-plain (ActionKind-F.Set pairs) p scopes b rest none see =
      field-plain told scopes rest see (λ new. does Item.Nothing new (heard told rest)) (λ new. does Item.Nothing new rest) (λ new. (refl, see)) (ok_or (set_all pairs p.sight scopes) template_fault)
  kind-plain (ActionKind-F.Fire event fields) p scopes b rest none see =
      field-plain told scopes rest see (λ pairs. does (Item.Fired event pairs) scopes (heard told rest)) (λ pairs. does (Item.Fired event pairs) scopes rest) (λ pairs. (refl, see))
      (ok_or (fields_of p.sight (flat scopes) fields) template_fault)
  kind-plain ActionKind-F.Stop p scopes b rest none see = (refl, see)
  kind-plain (ActionKind-F.Test c) p scopes b rest none see = (refl, see)

  kind-layer : (y : ActionKind-F KindPlain ActionPlain) → PlainKind (roll-ActionKind (bare_kind y))
  kind-layer y p scopes b rest none see =
      subst (λ o. SameLeft told (left_by_kind (roll-ActionKind (bare_kind y)) (told_of told p) scopes b (heard told rest)) o) (sym (plain-kind-roll (bare_kind y) p scopes b rest))
      (subst (λ o. SameLeft told o (plain_effect (map-ActionKind ActionKind Action (Spot → Effect) Effect plain_by_kind plain_by_action (bare_kind y)) p scopes b rest))
      (sym (kind-roll (bare_kind y) (told_of told p) scopes b (heard told rest))) (kind-plain y p scopes b rest none see))

  abbrev bare_action : Action-F KindPlain ActionPlain → Action-F ActionKind Action
  bare_action y = map-Action KindPlain ActionPlain ActionKind Action (λ e. e.0) (λ e. e.0) y

  action-layer : (y : Action-F KindPlain ActionPlain) → PlainAction (roll-Action (bare_action y))
  action-layer y scopes b ps see =
      subst (λ o. SameLeft told (left_by_action (roll-Action (bare_action y)) scopes b (heard told ps)) o) (sym (plain-action-roll (bare_action y) scopes b ps))
      (subst (λ o. SameLeft told o (action_effect (map-Action ActionKind Action (Spot → Effect) Effect plain_by_kind plain_by_action (bare_action y)) scopes b ps))
      (sym (action-roll (bare_action y) scopes b (heard told ps)))
      (place-plain told b scopes (λ p rest. left_by_kind y.kind.0 p scopes b rest) (λ p rest. plain_by_kind y.kind.0 p scopes b rest)
      (λ p rest none later. y.kind.1 p scopes b rest none later) ps see))

  action-plain : (a : Action) → PlainAction a
  action-plain =
      ind-Action PlainKind PlainAction (λ x y is. subst (λ z. PlainKind (roll-ActionKind z)) is (kind-layer y))
      (λ x y is. subst (λ z. PlainAction (roll-Action z)) is (action-layer y))

  actions-plain : (actions : List Action) → SameEffect told (left_by actions) (plain_by actions)
  actions-plain [] scopes b ps see = (refl, see)
  actions-plain (a ∷ actions) scopes b ps see =
      then-plain told (left_by_action a scopes b (heard told ps)) (plain_by_action a scopes b ps) (action-plain a scopes b ps see)
      (λ s rest. left_by actions s b rest) (λ s rest. plain_by actions s b rest) (λ s q seen. actions-plain actions s b q seen)

-- LAW: whatever is told of called runs, such a script means what it means where there are no scripts
pub script-plain : (told : ℕ → ℕ → Option WaitEnd) (actions : List Action) (env : Pairs) (ps : List Spot) → SeeNone ps → whole actions env (map (told_of told) ps) ≡ plain_script actions env ps
script-plain told actions env ps see =
    script-same actions env (map (told_of told) ps)
    ∙ ap (option_map outcome_of) (used-plain told (left_by actions (env ∷ []) [] (heard told ps)) (plain_by actions (env ∷ []) [] ps) (actions-plain told actions (env ∷ []) [] ps see))
