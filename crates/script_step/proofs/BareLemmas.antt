-- A wait for a run that was called asks for nothing else.
use Rattle.std.proofs.Common.{◌≡◌, ℕ, true, List, [], ◌∷◌, refl, sym, ap, subst, ◌∙◌, true≢false}
use Rattle.std.specs.Prelude.{Option, Some, None, slice_get}
use Rattle.std.specs.Option.{option_map_or}
use Rattle.ha_config.specs.declared.config.Action.{Action}
use Rattle.ha_config.specs.declared.config.ActionKind.{ActionKind}
use Rattle.ha_config.specs.declared.config.ActionKind.TheOpen.{ActionKind-F}
use Rattle.ha_config.specs.Words.{Pairs}
use Rattle.ha_sight.specs.Scripts.{Ask, Branch, flat}
use Rattle.script_step.specs.declared.strand.Strand.{Strand}
use Rattle.script_step.specs.declared.strand.Stage.{Stage}
use Rattle.script_step.specs.declared.strand.Stage.TheOpen.{Stage-F}
use Rattle.script_step.specs.declared.strand.Stage.TheViews.{out-Stage, out-Strand}
use Rattle.script_step.specs.declared.strand.Stage.TheFolds.{map-Stage}
use Rattle.script_step.specs.Continuation.{Asks, StageAsks, ask_in, asks, is_call_in, last_action, lists_of, nth_list, stage_asks, test_in, timeout_in, triggers_in}
use Rattle.script_step.specs.Parts.{kind_of}
use Rattle.script_step.specs.Told.{IsBare}
use Rattle.script_step.proofs.StepLemmas.{ask_stage, asks-out, get-map, get-none}

none-is : (ask : Ask) → None ≡ Some ask → ⊥
none-is ask e = (let bad : ◌≡◌ {A = Option Ask} None (Some ask) = e in cc)

-- of an action's kind
record KindBare (k : ActionKind-F ActionKind Action) (timeout : Option ℕ) : Type 0 where
  test : test_in k ≡ None
  triggers : triggers_in k ≡ []
  timeout_is : timeout_in k timeout ≡ None

kind-bare : (k : ActionKind-F ActionKind Action) (timeout : Option ℕ) → is_call_in k ≡ true → KindBare k timeout
kind-bare (ActionKind-F.Call service target fields) timeout h = record { test = refl; triggers = refl; timeout_is = refl }
kind-bare (ActionKind-F.Delay form) timeout h = absurd (true≢false (sym h))
kind-bare (ActionKind-F.WaitUntil test' limit go_on) timeout h = absurd (true≢false (sym h))
kind-bare (ActionKind-F.WaitFor triggers' limit go_on) timeout h = absurd (true≢false (sym h))
kind-bare (ActionKind-F.Choose options fallback) timeout h = absurd (true≢false (sym h))
kind-bare (ActionKind-F.If tests yes' no') timeout h = absurd (true≢false (sym h))
kind-bare (ActionKind-F.Repeat kind body) timeout h = absurd (true≢false (sym h))
kind-bare (ActionKind-F.Parallel lists) timeout h = absurd (true≢false (sym h))
kind-bare (ActionKind-F.Block body) timeout h = absurd (true≢false (sym h))
kind-bare (ActionKind-F.Set pairs) timeout h = absurd (true≢false (sym h))
kind-bare (ActionKind-F.Fire event fields) timeout h = absurd (true≢false (sym h))
kind-bare ActionKind-F.Stop timeout h = absurd (true≢false (sym h))
kind-bare (ActionKind-F.Test c) timeout h = absurd (true≢false (sym h))

ask-bare : (a : Option Action) (timeout : Option ℕ) (env : Pairs) → (ask_in a timeout env).called ≡ true → IsBare (ask_in a timeout env)
ask-bare None timeout env h = absurd (true≢false (sym h))
ask-bare (Some a) timeout env h = (let k = kind-bare (kind_of a) timeout h in record { test = k.test; triggers = k.triggers; timeout = k.timeout_is })

same-bare : (ask other : Ask) → Some ask ≡ Some other → (ask.called ≡ true → IsBare ask) → other.called ≡ true → IsBare other
same-bare ask other e h = (let same : ask ≡ other = cc in subst (λ (y : Ask). y.called ≡ true → IsBare y) same h)

-- what the wait of a branch asks, by the stage of its strand
module _ (x : Strand) (list : List Action) (c : Branch) where
  abbrev asks_at : Stage-F Stage Strand → Option Ask
  asks_at k = (let t = (out-Strand x).thread in stage_asks (map-Stage Stage Strand StageAsks Asks ask_stage asks k) (last_action list t) t.scopes c)

  abbrev Bare : Stage-F Stage Strand → Type 0
  Bare k = (ask : Ask) → asks_at k ≡ Some ask → ask.called ≡ true → IsBare ask

IsBareAt : Branch → Type 0
IsBareAt c = (x : Strand) (list : List Action) (ask : Ask) → asks x list c ≡ Some ask → ask.called ≡ true → IsBare ask

bare-here : (x : Strand) (list : List Action) (k : Stage-F Stage Strand) → Bare x list [] k
bare-here x list Stage-F.Ready ask e = absurd (none-is ask e)
bare-here x list (Stage-F.Delay due) ask e = absurd (none-is ask e)
bare-here x list (Stage-F.Wait timeout) ask e =
    (let t = (out-Strand x).thread in
    same-bare (ask_in (last_action list t) timeout (flat t.scopes)) ask e (ask-bare (last_action list t) timeout (flat t.scopes)))
bare-here x list (Stage-F.Sides xs) ask e = absurd (none-is ask e)
bare-here x list (Stage-F.Ended end) ask e = absurd (none-is ask e)

bare-below : (c : Branch) → IsBareAt c → (i : ℕ) (x : Strand) (list : List Action) (k : Stage-F Stage Strand) → Bare x list (i ∷ c) k
unfolding IsBareAt
bare-below c ih i x list Stage-F.Ready ask e = absurd (none-is ask e)
bare-below c ih i x list (Stage-F.Delay due) ask e = absurd (none-is ask e)
bare-below c ih i x list (Stage-F.Wait timeout) ask e = absurd (none-is ask e)
bare-below c ih i x list (Stage-F.Ended end) ask e = absurd (none-is ask e)
bare-below c ih i x list (Stage-F.Sides xs) ask e = by (slice_get xs i) refl
  where
    lists : List (List Action)
    lists = lists_of (last_action list (out-Strand x).thread)

    by : (o : Option Strand) → slice_get xs i ≡ o → ask.called ≡ true → IsBare ask
    by None q = absurd (none-is ask (sym (ap (λ o. option_map_or (λ m. m (nth_list lists i) c) o None) (get-none asks xs i q)) ∙ e))
    by (Some y) q = ih y (nth_list lists i) ask (sym (ap (λ o. option_map_or (λ m. m (nth_list lists i) c) o None) (get-map asks xs i y q)) ∙ e)

-- LEMMA: what a wait asks that is for a run that was called
pub asks-bare : (c : Branch) → (x : Strand) (list : List Action) (ask : Ask) → asks x list c ≡ Some ask → ask.called ≡ true → IsBare ask
unfolding IsBareAt
asks-bare [] x list ask e = bare-here x list (out-Stage (out-Strand x).stage) ask (sym (asks-out x list []) ∙ e)
asks-bare (i ∷ c) x list ask e = bare-below c (asks-bare c) i x list (out-Stage (out-Strand x).stage) ask (sym (asks-out x list (i ∷ c)) ∙ e)
