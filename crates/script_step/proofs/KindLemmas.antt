-- The step of each kind of action.
use Rattle.std.proofs.Common.{◌≡◌, ℕ, zero, suc, ◌+◌, ◌-◌, ◌<◌, Bool, true, false, List, [], ◌∷◌, ◌++◌, length, drop, map, get_or, refl, sym, ap, ◌∙◌, subst, arith}
use Rattle.std.specs.Prelude.{Option, Some, None, Ok, slice_get, option_map, bytes_eq, nat_le, codes, if◌then◌else◌}
use Rattle.std.specs.Option.{option_map_or}
use Rattle.ha_value.specs.declared.value.Value.{Value}
use Rattle.ha_config.specs.declared.template.Template.{Template}
use Rattle.ha_config.specs.declared.config.Form.{Form}
use Rattle.ha_config.specs.declared.config.RepeatKind.{RepeatKind}
use Rattle.ha_config.specs.declared.config.Condition.{Condition}
use Rattle.ha_config.specs.declared.config.Action.{Action}
use Rattle.ha_config.specs.declared.config.ActionKind.{ActionKind}
use Rattle.ha_config.specs.declared.config.ActionKind.TheOpen.{ActionKind-F}
use Rattle.ha_config.specs.declared.config.ActionKind.TheViews.{out-Action}
use Rattle.ha_config.specs.declared.config.ActionKind.TheFolds.{map-ActionKind}
use Rattle.ha_sight.specs.declared.item.Item.{Item}
use Rattle.ha_config.specs.Words.{Pairs, Text}
use Rattle.ha_sight.specs.Sight.{Sight}
use Rattle.ha_sight.specs.Conditions.{hold_all}
use Rattle.ha_sight.specs.Calls.{Checked, call_item, count_of, forms_of}
use Rattle.ha_sight.specs.Scripts.{Branch, Spot, Scopes, Next, Meaning, Outcome, exec, gives, behind_call, called, outer, flat, failed, on_checked, goes_into, chosen, in_order, looped, turns, count_loop, each_loop, while_loop, plain_turn, run_action}
use Rattle.ha_sight.proofs.Rolls.{run_action-out, run_kind-out}
use Rattle.ha_config.proofs.EqualLemmas.{same-refl}
use Rattle.script_step.specs.declared.fault.FieldFault.{FieldFault}
use Rattle.script_step.specs.declared.thread.Rounds.{Rounds}
use Rattle.script_step.specs.declared.thread.Turn.{Turn}
use Rattle.script_step.specs.declared.thread.Frame.{Frame}
use Rattle.script_step.specs.declared.thread.Thread.{Thread}
use Rattle.script_step.specs.declared.strand.End.{End}
use Rattle.script_step.specs.declared.strand.Stage.{Stage}
use Rattle.script_step.specs.Blocks.{goes_on}
use Rattle.script_step.specs.Parts.{kind_of, option_list, part_in, tests_in, before, list_in, tests_at, loop_by, round_of, blocks_of}
use Rattle.script_step.specs.Continuation.{Began, own_list, last_action, open_blocks, thread_next, placed}
use Rattle.script_step.specs.Fields.{IsCause}
use Rattle.script_step.specs.Turns.{turn_value, first_holding}
use Rattle.script_step.specs.Step.{IsTaken, IsDone, Does, GoesBehind, IsInto, IsFirst, IsFailure, run_kind, kind_at, at_last, stage_meaning, thread_on}
use Rattle.script_step.proofs.BlockLemmas.{turns-block, at-action}
use Rattle.script_step.proofs.StageLemmas.{stage-ready, stage-ended}
use Rattle.script_step.proofs.ThreadLemmas.{entered, entered-turn}

-- ---- an action at its place

pub drop-get : {X : Type 0} (xs : List X) (n : ℕ) (x : X) → slice_get xs n ≡ Some x → drop n xs ≡ x ∷ drop (n + 1) xs
drop-get [] n x e = absurd cc
drop-get (y ∷ ys) zero x e = (λ i. known e i ∷ ys)
  where
    known : Some y ≡ Some x → y ≡ x
    known h = cc
drop-get (y ∷ ys) (suc n) x e = (let next : suc (n + 1) ≡ suc n + 1 = omega arith in drop-get ys n x e ∙ ap (λ k. x ∷ drop k (y ∷ ys)) next)

drop-all : {X : Type 0} (xs : List X) → drop (length xs) xs ≡ []
drop-all [] = refl
drop-all (x ∷ xs) = drop-all xs

before-next : (list : List Action) (n : ℕ) → before list (n + 1) ≡ slice_get list n
before-next list n = (let next : n + 1 ≡ suc n = omega arith in ap (before list) next)

-- the thread behind its next action
abbrev pub advanced : Thread → Thread
advanced t = record { scopes = t.scopes; outer = t.outer; here = record { inside = t.here.inside; at = t.here.at + 1; turn = t.here.turn } }

pub run-at : (a : Action) (next end : Next) (scopes : Scopes) (b : Branch) (s : Spot) (rest : List Spot) → s.branch ≡ b
    → run_action a next end scopes b (s ∷ rest) ≡ kind_at (kind_of a) s next end scopes b rest
run-at a next end scopes b s rest here =
    let own : bytes_eq s.branch b ≡ true = ap (λ c. bytes_eq c b) here ∙ same-refl b in
    run_action-out a next end scopes b (s ∷ rest) ∙ rw own (run_kind-out (out-Action a).kind s next end scopes b rest)

pub taken : (sight : Sight) (list : List Action) (t : Thread) (a : Action) (item : Item) (new : Thread) (stage : Stage)
    → slice_get (own_list list t) t.here.at ≡ Some a → IsDone sight list (kind_of a) (advanced t) item new stage
    → IsTaken sight list (λ b ps. thread_next b list t.outer t.here t.scopes ps) item new stage
taken sight list t a item new stage is done b began s rest seen here =
    let own = own_list list t in
    let round = option_map (round_of own (tests_at list [] t.outer)) t.here.turn in
    let out = blocks_of list [] t.outer [] in
    (λ i. goes_on b (record { left = drop-get own t.here.at a is i; round = round } ∷ out) t.scopes (s ∷ rest))
    ∙ at-action b a (drop (t.here.at + 1) own) round out t.scopes (s ∷ rest)
    ∙ run-at a (thread_next b list t.outer (advanced t).here) (goes_on b (record { left = []; round = round } ∷ out)) t.scopes b s rest here
    ∙ (λ i. kind_at (kind_of a) s (thread_next b list t.outer (advanced t).here) (goes_on b (record { left = sym (drop-all own) i; round = round } ∷ out)) t.scopes b rest)
    ∙ (λ i. kind_at (kind_of a) (record { place = s.place; branch = here i; sight = seen i; wait_end = s.wait_end }) (thread_next b list t.outer (advanced t).here) (thread_next b list t.outer (at_last list (advanced t))) t.scopes b rest)
    ∙ done b began s.place s.wait_end rest

-- a thread that did the action is behind it
pub behind : (list : List Action) (t : Thread) (a : Action) → slice_get (own_list list t) t.here.at ≡ Some a
    → before (own_list list (advanced t)) (advanced t).here.at ≡ Some a
behind list t a is = before-next (own_list list t) t.here.at ∙ is

-- ---- fields that fail

pub failed-field : {X : Type 0} (go_on : X → Option Outcome) (fault : FieldFault) (checked : Checked X) (item : Item) (stage : Stage) (rest : List Spot)
    (a : Option Action) (next : Next) (scopes : Scopes) (b : Branch) (began : Began)
    → IsCause fault checked → IsFailure fault item stage → on_checked go_on checked rest ≡ gives item (stage_meaning stage a next scopes b began rest)
failed-field go_on FieldFault.Template checked item stage rest a next scopes b began h r = rw (h, r.0, r.1) (ap (gives (Item.Failed 1)) (sym (stage-ended a next scopes b began rest End.Faulted)))
failed-field go_on FieldFault.Service checked item stage rest a next scopes b began h r = rw (h, r.0, r.1) (ap (gives (Item.Failed 2)) (sym (stage-ended a next scopes b began rest End.Faulted)))
failed-field go_on FieldFault.Target checked item stage rest a next scopes b began h r = rw (h, r.0, r.1) (ap (gives (Item.Failed 3)) (sym (stage-ended a next scopes b began rest End.Faulted)))
failed-field go_on FieldFault.Duration checked item stage rest a next scopes b began h r = rw (h, r.0, r.1) (ap (gives (Item.Failed 4)) (sym (stage-ended a next scopes b began rest End.Faulted)))
failed-field go_on FieldFault.Count checked item stage rest a next scopes b began h r = rw (h, r.0, r.1) (ap (gives (Item.Failed 5)) (sym (stage-ended a next scopes b began rest End.Faulted)))
failed-field go_on (FieldFault.Own n) checked item stage rest a next scopes b began h r = rw (h, r.0, r.1) (ap (gives (Item.Failed n)) (sym (stage-ended a next scopes b began rest End.Faulted)))
failed-field go_on FieldFault.Memory checked item stage rest a next scopes b began h r = absurd r

-- ---- going into a list

pub goes-in : (list : List Action) (old new : Thread) (k : ℕ) (a : Action) → before (own_list list old) old.here.at ≡ Some a
    → new.outer ≡ old.outer ++ (record { inside = k; at = old.here.at; turn = old.here.turn } ∷ []) → new.here ≡ record { inside = 0; at = 0; turn = None }
    → new.scopes ≡ old.scopes ++ ([] ∷ []) → (b : Branch) (rest : List Spot)
    → goes_into (exec (part_in (kind_of a) k)) (thread_next b list old.outer old.here) old.scopes b rest
    ≡ gives Item.Nothing (thread_next b list new.outer new.here new.scopes rest)
goes-in list old new k a is outer_is here_is scopes_is b rest =
    ap (gives Item.Nothing)
    (sym (entered list old.outer old.here k a is b (old.scopes ++ ([] ∷ [])) rest)
    ∙ (λ i. thread_next b list (sym outer_is i) (sym here_is i) (sym scopes_is i) rest))

-- the options with the meanings of their actions
unfoldable pub options_in : ActionKind-F (Spot → Meaning) Meaning → List (List Condition × List Meaning)
options_in (ActionKind-F.Choose options fallback) = options
options_in _ = []

unfoldable pub mapped : List (List Condition × List Action) → List (List Condition × List Meaning)
mapped options = options_in (map-ActionKind ActionKind Action (Spot → Meaning) Meaning run_kind run_action (ActionKind-F.Choose options []))

pub chosen-list : (options : List (List Condition × List Action)) (fallback : List Action) (sight : Sight) (env : Pairs)
    → chosen (map (λ x. (x.0, in_order x.1)) (mapped options)) (exec fallback) sight env ≡ exec (option_list options fallback (first_holding sight env options))
unfolding mapped options_in
chosen-list [] fallback sight env = refl
chosen-list (x ∷ xs) fallback sight env = by (hold_all sight x.0 env) (chosen-list xs fallback sight env)
  where
    by : (t : Bool) → chosen (map (λ y. (y.0, in_order y.1)) (mapped xs)) (exec fallback) sight env ≡ exec (option_list xs fallback (first_holding sight env xs))
        → (if t then exec x.1 else chosen (map (λ y. (y.0, in_order y.1)) (mapped xs)) (exec fallback) sight env)
        ≡ exec (option_list (x ∷ xs) fallback (if t then 0 else suc (first_holding sight env xs)))
    by true h = refl
    by false h = h

-- ---- turns

pub turn-variables : (t : Turn) (tests : List Condition) → (loop_by t.rounds t.most tests).variables t.index ≡ (codes "repeat", turn_value t.rounds t.most t.index) ∷ []
turn-variables t tests = by t.rounds
  where
    by : (r : Rounds) → (loop_by r t.most tests).variables t.index ≡ (codes "repeat", turn_value r t.most t.index) ∷ []
    by Rounds.Count = refl
    by (Rounds.Each values) = refl
    by Rounds.While = refl
    by Rounds.Until = refl

-- the first turn of a loop
pub first-turn : (list : List Action) (old new : Thread) (a : Action) (t : Turn) → before (own_list list old) old.here.at ≡ Some a → t.index ≡ 1
    → new.outer ≡ old.outer ++ (record { inside = 0; at = old.here.at; turn = old.here.turn } ∷ []) → new.here ≡ record { inside = 0; at = 0; turn = Some t }
    → new.scopes ≡ old.scopes ++ (((codes "repeat", turn_value t.rounds t.most t.index) ∷ []) ∷ []) → (b : Branch) (rest : List Spot)
    → turns (exec (part_in (kind_of a) 0)) (loop_by t.rounds t.most (tests_in (kind_of a))) b (thread_next b list old.outer old.here) (t.most - 1) 1 old.scopes rest
    ≡ thread_next b list new.outer new.here new.scopes rest
first-turn list old new a t is one outer_is here_is scopes_is b rest =
    let loop = loop_by t.rounds t.most (tests_in (kind_of a)) in
    let body = part_in (kind_of a) 0 in
    turns-block b loop body (open_blocks list old.outer old.here) (t.most - 1) 1 old.scopes rest
    ∙ (λ i. goes_on b (record { left = body; round = Some (record { loop = loop; body = body; index = sym one i; more = t.most - sym one i }) } ∷ open_blocks list old.outer old.here) (old.scopes ++ (loop.variables (sym one i) ∷ [])) rest)
    ∙ (λ i. goes_on b (record { left = body; round = Some (round_of body (tests_in (kind_of a)) t) } ∷ open_blocks list old.outer old.here) (old.scopes ++ (turn-variables t (tests_in (kind_of a)) i ∷ [])) rest)
    ∙ sym (entered-turn list old.outer old.here a t is b (old.scopes ++ (((codes "repeat", turn_value t.rounds t.most t.index) ∷ []) ∷ [])) rest)
    ∙ (λ i. thread_next b list (sym outer_is i) (sym here_is i) (sym scopes_is i) rest)

-- ---- an action by its kind

pub acted : (sight : Sight) (list : List Action) (t : Thread) (a : Action) (k : ActionKind-F ActionKind Action) (item : Item) (new : Thread) (stage : Stage)
    → slice_get (own_list list t) t.here.at ≡ Some a → kind_of a ≡ k → Does sight k (advanced t) item new stage
    → IsTaken sight list (λ b ps. thread_next b list t.outer t.here t.scopes ps) item new stage
acted sight list t a k item new stage is kind does =
    taken sight list t a item new stage is (subst (λ (x : ActionKind-F ActionKind Action). IsDone sight list x (advanced t) item new stage) (sym kind) (does list a (behind list t a is) kind))

pub found : {X : Type 0} (xs : List X) (n : ℕ) (x : X) → n < length xs → x ≡ get_or xs n x → slice_get xs n ≡ Some x
found [] n x lt e = absurd (omega (arith, lt))
found (y ∷ ys) zero x lt e = ap Some (sym e)
found (y ∷ ys) (suc n) x lt e = found ys n x (omega (arith, lt)) e

pub at-own : (list : List Action) (t : Thread) (outer : List Frame) (own : List Action) (a : Action) → outer ≡ t.outer → own ≡ list_in list outer
    → t.here.at < length (own_list list t) → a ≡ get_or own t.here.at a → slice_get (own_list list t) t.here.at ≡ Some a
at-own list t outer own a outer_is own_is lt e =
    found (own_list list t) t.here.at a lt (e ∙ ap (λ xs. get_or xs t.here.at a) (own_is ∙ ap (list_in list) outer_is))

pub choose-done : (sight : Sight) (options : List (List Condition × List Action)) (fallback : List Action) (old new : Thread) (k : ℕ) (item : Item) (stage : Stage)
    → k ≡ first_holding sight (flat old.scopes) options → IsInto k old item new stage → Does sight (ActionKind-F.Choose options fallback) old item new stage
unfolding mapped options_in
choose-done sight options fallback old new k item stage is into list a at kind b began p w rest =
    (λ i. goes_into (chosen-list options fallback sight (flat old.scopes) i) (thread_next b list old.outer old.here) old.scopes b rest)
    ∙ (λ i. goes_into (exec (part_in (sym kind i) (sym is i))) (thread_next b list old.outer old.here) old.scopes b rest)
    ∙ into list a at b (placed [] p began) rest

pub if-done : (sight : Sight) (tests : List Condition) (yes' no' : List Action) (old new : Thread) (k : ℕ) (item : Item) (stage : Stage)
    → k ≡ (if hold_all sight tests (flat old.scopes) then 0 else 1) → IsInto k old item new stage → Does sight (ActionKind-F.If tests yes' no') old item new stage
if-done sight tests yes' no' old new k item stage is into list a at kind b began p w rest =
    (λ i. goes_into (by (hold_all sight tests (flat old.scopes)) i) (thread_next b list old.outer old.here) old.scopes b rest)
    ∙ (λ i. goes_into (exec (part_in (sym kind i) (sym is i))) (thread_next b list old.outer old.here) old.scopes b rest)
    ∙ into list a at b (placed [] p began) rest
  where
    by : (t : Bool) → (if t then exec yes' else exec no') ≡ exec (part_in (ActionKind-F.If tests yes' no') (if t then 0 else 1))
    by true = refl
    by false = refl

pub block-done : (sight : Sight) (body : List Action) (old new : Thread) (item : Item) (stage : Stage)
    → IsInto 0 old item new stage → Does sight (ActionKind-F.Block body) old item new stage
block-done sight body old new item stage into list a at kind b began p w rest =
    (λ i. goes_into (exec (part_in (sym kind i) 0)) (thread_next b list old.outer old.here) old.scopes b rest)
    ∙ into list a at b (placed [] p began) rest

pub stop-done : (sight : Sight) (t : Thread) → Does sight ActionKind-F.Stop t Item.Nothing t (Stage.Ended End.Stopped)
stop-done sight t list a at kind b began p w rest =
    ap (gives Item.Nothing) (sym (stage-ended (last_action list t) (thread_next b list t.outer t.here) t.scopes b (placed [] p began) rest End.Stopped))

-- ---- loops

module _ (sight : Sight) (old : Thread) where
  nothing-done : (list : List Action) (b : Branch) (began : Began) (rest : List Spot)
      → gives Item.Nothing (thread_next b list old.outer old.here old.scopes rest) ≡ gives Item.Nothing (thread_on list old Stage.Ready b began rest)
  nothing-done list b began rest = ap (gives Item.Nothing) (sym (stage-ready (last_action list old) (thread_next b list old.outer old.here) old.scopes b began rest))

  pub count-done : (t : Template) (n : ℕ) (body : List Action) (item : Item) (new : Thread) (stage : Stage) → count_of sight (flat old.scopes) t ≡ Ok n → nat_le 1 n ≡ true
      → IsFirst Rounds.Count n old item new stage → Does sight (ActionKind-F.Repeat (RepeatKind.Count t) body) old item new stage
  count-done t n body item new stage is some first list a at kind b began p w rest =
      (λ i. on_checked (λ m. looped (exec body) (count_loop m) b (thread_next b list old.outer old.here) (nat_le 1 m) (m - 1) old.scopes rest) (is i) rest)
      ∙ (λ i. looped (exec body) (count_loop n) b (thread_next b list old.outer old.here) (some i) (n - 1) old.scopes rest)
      ∙ (λ i. looped (exec (part_in (sym kind i) 0)) (loop_by Rounds.Count n (tests_in (sym kind i))) b (thread_next b list old.outer old.here) true (n - 1) old.scopes rest)
      ∙ first list a at b (placed [] p began) rest

  pub count-none : (t : Template) (body : List Action) → count_of sight (flat old.scopes) t ≡ Ok 0
      → Does sight (ActionKind-F.Repeat (RepeatKind.Count t) body) old Item.Nothing old Stage.Ready
  count-none t body is list a at kind b began p w rest =
      (λ i. on_checked (λ m. looped (exec body) (count_loop m) b (thread_next b list old.outer old.here) (nat_le 1 m) (m - 1) old.scopes rest) (is i) rest)
      ∙ nothing-done list b (placed [] p began) rest

  pub each-done : (fs : List Form) (vs : List Value) (n : ℕ) (body : List Action) (item : Item) (new : Thread) (stage : Stage) → forms_of sight (flat old.scopes) fs ≡ Some vs → n ≡ length vs
      → nat_le 1 n ≡ true → IsFirst (Rounds.Each vs) n old item new stage → Does sight (ActionKind-F.Repeat (RepeatKind.Each fs) body) old item new stage
  each-done fs vs n body item new stage is len some first list a at kind b began p w rest =
      (λ i. option_map_or (λ us. looped (exec body) (each_loop us) b (thread_next b list old.outer old.here) (nat_le 1 (length us)) (length us - 1) old.scopes rest) (is i) (failed 1 rest))
      ∙ (λ i. looped (exec body) (each_loop vs) b (thread_next b list old.outer old.here) (nat_le 1 (sym len i)) (sym len i - 1) old.scopes rest)
      ∙ (λ i. looped (exec body) (each_loop vs) b (thread_next b list old.outer old.here) (some i) (n - 1) old.scopes rest)
      ∙ (λ i. looped (exec (part_in (sym kind i) 0)) (loop_by (Rounds.Each vs) n (tests_in (sym kind i))) b (thread_next b list old.outer old.here) true (n - 1) old.scopes rest)
      ∙ first list a at b (placed [] p began) rest

  pub each-none : (fs : List Form) (vs : List Value) (body : List Action) → forms_of sight (flat old.scopes) fs ≡ Some vs → length vs ≡ 0
      → Does sight (ActionKind-F.Repeat (RepeatKind.Each fs) body) old Item.Nothing old Stage.Ready
  each-none fs vs body is none list a at kind b began p w rest =
      (λ i. option_map_or (λ us. looped (exec body) (each_loop us) b (thread_next b list old.outer old.here) (nat_le 1 (length us)) (length us - 1) old.scopes rest) (is i) (failed 1 rest))
      ∙ (λ i. looped (exec body) (each_loop vs) b (thread_next b list old.outer old.here) (nat_le 1 (none i)) (length vs - 1) old.scopes rest)
      ∙ nothing-done list b (placed [] p began) rest

  pub each-fault : (fs : List Form) (body : List Action) (item : Item) (stage : Stage) → forms_of sight (flat old.scopes) fs ≡ None → IsFailure FieldFault.Template item stage
      → Does sight (ActionKind-F.Repeat (RepeatKind.Each fs) body) old item old stage
  each-fault fs body item stage is r list a at kind b began p w rest =
      (λ i. option_map_or (λ us. looped (exec body) (each_loop us) b (thread_next b list old.outer old.here) (nat_le 1 (length us)) (length us - 1) old.scopes rest) (is i) (failed 1 rest))
      ∙ rw (r.0, r.1) (ap (gives (Item.Failed 1)) (sym (stage-ended (last_action list old) (thread_next b list old.outer old.here) old.scopes b (placed [] p began) rest End.Faulted)))

  pub while-done : (cs : List Condition) (body : List Action) (item : Item) (new : Thread) (stage : Stage) → hold_all sight cs (flat (old.scopes ++ (plain_turn 1 ∷ []))) ≡ true
      → IsFirst Rounds.While 10000 old item new stage → Does sight (ActionKind-F.Repeat (RepeatKind.While cs) body) old item new stage
  while-done cs body item new stage holds first list a at kind b began p w rest =
      (λ i. looped (exec body) (while_loop cs) b (thread_next b list old.outer old.here) (holds i) 9999 old.scopes rest)
      ∙ (λ i. looped (exec (part_in (sym kind i) 0)) (loop_by Rounds.While 10000 (tests_in (sym kind i))) b (thread_next b list old.outer old.here) true 9999 old.scopes rest)
      ∙ first list a at b (placed [] p began) rest

  pub while-none : (cs : List Condition) (body : List Action) → hold_all sight cs (flat (old.scopes ++ (plain_turn 1 ∷ []))) ≡ false
      → Does sight (ActionKind-F.Repeat (RepeatKind.While cs) body) old Item.Nothing old Stage.Ready
  while-none cs body holds list a at kind b began p w rest =
      (λ i. looped (exec body) (while_loop cs) b (thread_next b list old.outer old.here) (holds i) 9999 old.scopes rest)
      ∙ nothing-done list b (placed [] p began) rest

  pub until-done : (cs : List Condition) (body : List Action) (item : Item) (new : Thread) (stage : Stage)
      → IsFirst Rounds.Until 10000 old item new stage → Does sight (ActionKind-F.Repeat (RepeatKind.Until cs) body) old item new stage
  until-done cs body item new stage first list a at kind b began p w rest =
      (λ i. looped (exec (part_in (sym kind i) 0)) (loop_by Rounds.Until 10000 (tests_in (sym kind i))) b (thread_next b list old.outer old.here) true 9999 old.scopes rest)
      ∙ first list a at b (placed [] p began) rest

-- a first turn from a thread with the same scopes
pub first-from : (rounds : Rounds) (most : ℕ) (old same_thread new : Thread) (item : Item) (stage : Stage) → same_thread.scopes ≡ old.scopes
    → IsFirst rounds most (record { scopes = same_thread.scopes; outer = old.outer; here = old.here }) item new stage → IsFirst rounds most old item new stage
first-from rounds most old same_thread new item stage e first =
    subst (λ (s : Scopes). IsFirst rounds most (record { scopes = s; outer = old.outer; here = old.here }) item new stage) e first

-- ---- a call

-- LEMMA: the step of a call
pub call-done : (sight : Sight) (service : Template) (target : List Template) (fields : List (Text × Form)) (t : Thread) (item : Item) (stage : Stage)
    → item ≡ call_item sight (flat t.scopes) service target fields → GoesBehind item stage → Does sight (ActionKind-F.Call service target fields) t item t stage
call-done sight service target fields t item stage is goes list a last kind b began p w rest =
    (λ i. called (sym is i) (behind_call (sym is i) p (thread_next b list t.outer t.here) t.scopes b rest) rest)
    ∙ goes a service target fields kind (thread_next b list t.outer t.here) t.scopes b (placed [] p began) rest
    ∙ (λ i. gives item (stage_meaning stage (sym last i) (thread_next b list t.outer t.here) t.scopes b (placed [] p began) rest))
