-- The branches that may step are the open part of those at a place of their own.
use Rattle.std.proofs.Common.{◌≡◌, ℕ, suc, Bool, true, false, List, [], ◌∷◌, ◌++◌, map, refl, sym, ap, ◌∙◌, subst}
use Rattle.std.specs.Prelude.{Option, Some, None, is_some, slice_get, filter, nat_le, option_and_then, if◌then◌else◌}
use Rattle.std.specs.Option.{option_map_or}
use Rattle.ha_config.specs.declared.config.Action.{Action}
use Rattle.ha_sight.specs.Scripts.{Branch, flat}
use Rattle.script_step.specs.declared.thread.Thread.{Thread}
use Rattle.script_step.specs.declared.strand.Strand.{Strand}
use Rattle.script_step.specs.declared.strand.Stage.{Stage}
use Rattle.script_step.specs.declared.strand.Stage.TheOpen.{Stage-F, Strand-F}
use Rattle.script_step.specs.declared.strand.Stage.TheViews.{out-Stage, out-Strand, roll-Stage, roll-Strand}
use Rattle.script_step.specs.declared.strand.Stage.TheVariants.{Sides, outs-Sides}
use Rattle.script_step.specs.declared.strand.Stage.TheFolds.{ind-Strand, fold-Stage, fold-roll-Stage, fold-roll-Strand, fold_out-Stage, fold_out-Strand, map-Stage, map-Strand}
use Rattle.script_step.specs.Continuation.{Began, has_next, last_action, ask_in, lists_of, nth_list}
use Rattle.script_step.specs.Ready.{Ends, Readies, StageReadies, readies, readies_from, stage_readies}
use Rattle.script_step.specs.Gates.{Gate, Fronts, FrontsOf, StageFronts, gate_at, is_open, open_now, due_of, in_side, fronts_from, stage_fronts, fronts, Dues, due_side, stage_dues, dues}
use Rattle.script_step.proofs.StepLemmas.{get-map, get-none}
use Rattle.script_step.proofs.GateLemmas.{front_stage, fronts-out, due_stage, dues-out, gate-here, gate-side}

open-append : (now : ℕ) (ends : Ends) (xs ys : Fronts) → open_now now ends (xs ++ ys) ≡ open_now now ends xs ++ open_now now ends ys
open-append now ends [] ys = refl
open-append now ends (x ∷ xs) ys = by (is_open now (ends x.0) x.1) (open-append now ends xs ys)
  where
    by : (t : Bool) → open_now now ends (xs ++ ys) ≡ open_now now ends xs ++ open_now now ends ys
        → map (λ y. y.0) (if t then x ∷ filter (λ y. is_open now (ends y.0) y.1) (xs ++ ys) else filter (λ y. is_open now (ends y.0) y.1) (xs ++ ys))
        ≡ map (λ y. y.0) (if t then x ∷ filter (λ y. is_open now (ends y.0) y.1) xs else filter (λ y. is_open now (ends y.0) y.1) xs) ++ open_now now ends ys
    by true h = ap (λ l. x.0 ∷ l) h
    by false h = h

open-side : (now : ℕ) (ends : Ends) (i : ℕ) (xs : Fronts) → open_now now ends (map (in_side i) xs) ≡ map (λ c. i ∷ c) (open_now now (λ c. ends (i ∷ c)) xs)
open-side now ends i [] = refl
open-side now ends i (x ∷ xs) = by (is_open now (ends (i ∷ x.0)) x.1) (open-side now ends i xs)
  where
    by : (t : Bool) → open_now now ends (map (in_side i) xs) ≡ map (λ c. i ∷ c) (open_now now (λ c. ends (i ∷ c)) xs)
        → map (λ y. y.0) (if t then in_side i x ∷ filter (λ y. is_open now (ends y.0) y.1) (map (in_side i) xs) else filter (λ y. is_open now (ends y.0) y.1) (map (in_side i) xs))
        ≡ map (λ c. i ∷ c) (map (λ y. y.0) (if t then x ∷ filter (λ y. is_open now (ends (i ∷ y.0)) y.1) xs else filter (λ y. is_open now (ends (i ∷ y.0)) y.1) xs))
    by true h = ap (λ l. (i ∷ x.0) ∷ l) h
    by false h = h

abbrev pub ready_stage : Stage → StageReadies
ready_stage = fold-Stage StageReadies Readies stage_readies (λ x list. x.stage list x.thread)

abbrev pub StageSame : Stage → Type 0
StageSame k = (list : List Action) (t : Thread) (now : ℕ) (ends : Ends) (began : Began) → ready_stage k list t now ends ≡ open_now now ends (front_stage k list t began)

abbrev pub StrandSame : Strand → Type 0
StrandSame x = (list : List Action) (now : ℕ) (ends : Ends) (began : Began) → readies x list now ends ≡ open_now now ends (fronts x list began)

abbrev SuchStage : Type 0
SuchStage = (k : Stage) × StageSame k

abbrev SuchStrand : Type 0
SuchStrand = (x : Strand) × StrandSame x

each-same : (ys : List SuchStrand) (i : ℕ) (lists : List (List Action)) (now : ℕ) (ends : Ends) (began : Began)
    → readies_from i (map readies (map (λ e. e.0) ys)) lists now ends ≡ open_now now ends (fronts_from i (map fronts (map (λ e. e.0) ys)) lists began)
each-same [] i lists now ends began = refl
each-same (y ∷ ys) i lists now ends began =
    let own = fronts y.0 (nth_list lists i) (λ c. began (i ∷ c)) in
    let later = fronts_from (suc i) (map fronts (map (λ e. e.0) ys)) lists began in
    (λ j. map (λ c. i ∷ c) (y.1 (nth_list lists i) now (λ c. ends (i ∷ c)) (λ c. began (i ∷ c)) j) ++ each-same ys (suc i) lists now ends began j)
    ∙ (λ j. sym (open-side now ends i own) j ++ open_now now ends later)
    ∙ sym (open-append now ends (map (in_side i) own) later)

layer-same : (y : Stage-F SuchStage SuchStrand) (list : List Action) (t : Thread) (now : ℕ) (ends : Ends) (began : Began)
    → stage_readies (map-Stage Stage Strand StageReadies Readies ready_stage readies (map-Stage SuchStage SuchStrand Stage Strand (λ e. e.0) (λ e. e.0) y)) list t now ends
    ≡ open_now now ends (stage_fronts (map-Stage Stage Strand StageFronts FrontsOf front_stage fronts (map-Stage SuchStage SuchStrand Stage Strand (λ e. e.0) (λ e. e.0) y)) list t began)
layer-same Stage-F.Ready list t now ends began = by (has_next list t)
  where
    by : (h : Bool) → (if h then [] ∷ [] else []) ≡ open_now now ends (if h then ([], Gate.Free) ∷ [] else [])
    by true = refl
    by false = refl
layer-same (Stage-F.Delay due) list t now ends began = by (nat_le due now)
  where
    by : (h : Bool) → (if h then [] ∷ [] else []) ≡ map (λ (y : Branch × Gate). y.0) (if h then ([], Gate.From due) ∷ [] else [])
    by true = refl
    by false = refl
layer-same (Stage-F.Wait timeout) list t now ends began = by (is_some (ends []))
  where
    by : (h : Bool) → (if h then [] ∷ [] else []) ≡ map (λ (y : Branch × Gate). y.0) (if h then ([], Gate.Behind (ask_in (last_action list t) timeout (flat t.scopes)) (began [])) ∷ [] else [])
    by true = refl
    by false = refl
layer-same (Stage-F.Sides ys) list t now ends began = each-same ys 0 (lists_of (last_action list t)) now ends began
layer-same (Stage-F.Ended e) list t now ends began = refl

rolled-stage : (y : Stage-F SuchStage SuchStrand) → StageSame (roll-Stage (map-Stage SuchStage SuchStrand Stage Strand (λ e. e.0) (λ e. e.0) y))
rolled-stage y list t now ends began =
    let x = map-Stage SuchStage SuchStrand Stage Strand (λ e. e.0) (λ e. e.0) y in
    ap (λ f. f list t now ends) (fold-roll-Stage StageReadies Readies stage_readies (λ z l. z.stage l z.thread) x)
    ∙ layer-same y list t now ends began
    ∙ sym (ap (λ f. open_now now ends (f list t began)) (fold-roll-Stage StageFronts FrontsOf stage_fronts (λ z l. z.stage l z.thread) x))

rolled-strand : (y : Strand-F SuchStage SuchStrand) → StrandSame (roll-Strand (map-Strand SuchStage SuchStrand Stage Strand (λ e. e.0) (λ e. e.0) y))
rolled-strand y list now ends began =
    let x = map-Strand SuchStage SuchStrand Stage Strand (λ e. e.0) (λ e. e.0) y in
    ap (λ f. f list now ends) (fold-roll-Strand StageReadies Readies stage_readies (λ z l. z.stage l z.thread) x)
    ∙ y.stage.1 list y.thread now ends began
    ∙ sym (ap (λ f. open_now now ends (f list began)) (fold-roll-Strand StageFronts FrontsOf stage_fronts (λ z l. z.stage l z.thread) x))

pub ready-fronts : (x : Strand) → StrandSame x
ready-fronts = ind-Strand StageSame StrandSame (λ x y is. subst (λ z. StageSame (roll-Stage z)) is (rolled-stage y)) (λ x y is. subst (λ z. StrandSame (roll-Strand z)) is (rolled-strand y))

-- those of a parallel block
pub readies-sides : (x : Strand) (xs : List Strand) (list : List Action) (now : ℕ) (ends : Ends) → x.stage ≡ Sides xs
    → readies x list now ends ≡ readies_from 0 (map readies xs) (lists_of (last_action list x.thread)) now ends
readies-sides x xs list now ends e =
    ap (λ f. f list now ends) (fold_out-Strand StageReadies Readies stage_readies (λ y l. y.stage l y.thread) x)
    ∙ (λ k. ready_stage (e k) list x.thread now ends)
    ∙ ap (λ f. f list x.thread now ends) (fold_out-Stage StageReadies Readies stage_readies (λ y l. y.stage l y.thread) (Sides xs))
    ∙ ap (λ k. stage_readies (map-Stage Stage Strand StageReadies Readies ready_stage readies k) list x.thread now ends) (outs-Sides xs)

-- ---- the due of a branch's delay is that of its gate

module _ (x : Strand) (list : List Action) (began : Began) (c : Branch) where
  abbrev dues_at : Stage-F Stage Strand → Option ℕ
  dues_at k = stage_dues (map-Stage Stage Strand Dues Dues due_stage dues k) c

  abbrev fronts_at : Stage-F Stage Strand → Fronts
  fronts_at k = stage_fronts (map-Stage Stage Strand StageFronts FrontsOf front_stage fronts k) list (out-Strand x).thread began

  abbrev Due : Stage-F Stage Strand → Type 0
  Due k = dues_at k ≡ option_and_then due_of (gate_at c (fronts_at k))

  due-by : Due (out-Stage (out-Strand x).stage) → dues x c ≡ option_and_then due_of (gate_at c (fronts x list began))
  due-by due = dues-out x c ∙ due ∙ sym (ap (λ f. option_and_then due_of (gate_at c f)) (fronts-out x list began))

IsDue : Branch → Type 0
IsDue c = (x : Strand) (list : List Action) (began : Began) → dues x c ≡ option_and_then due_of (gate_at c (fronts x list began))

free-due : (c : Branch) (t : Bool) → None ≡ option_and_then due_of (gate_at c (if t then ([], Gate.Free) ∷ [] else []))
free-due [] true = refl
free-due (i ∷ c) true = refl
free-due c false = refl

due-here : (x : Strand) (list : List Action) (began : Began) (k : Stage-F Stage Strand) → Due x list began [] k
due-here x list began Stage-F.Ready = free-due [] (has_next list (out-Strand x).thread)
due-here x list began (Stage-F.Delay due) = refl
due-here x list began (Stage-F.Wait timeout) = refl
due-here x list began (Stage-F.Ended e) = refl
due-here x list began (Stage-F.Sides xs) = sym (ap (option_and_then due_of) (gate-here xs 0 (lists_of (last_action list (out-Strand x).thread)) began))

due-below : (c : Branch) → IsDue c → (i : ℕ) (x : Strand) (list : List Action) (began : Began) (k : Stage-F Stage Strand) → Due x list began (i ∷ c) k
unfolding IsDue
due-below c ih i x list began Stage-F.Ready = free-due (i ∷ c) (has_next list (out-Strand x).thread)
due-below c ih i x list began (Stage-F.Delay due) = refl
due-below c ih i x list began (Stage-F.Wait timeout) = refl
due-below c ih i x list began (Stage-F.Ended e) = refl
due-below c ih i x list began (Stage-F.Sides xs) = by (slice_get xs i) refl ∙ sym (ap (option_and_then due_of) (gate-side xs i c lists began))
  where
    lists : List (List Action)
    lists = lists_of (last_action list (out-Strand x).thread)

    by : (o : Option Strand) → slice_get xs i ≡ o
        → due_side (map dues xs) (i ∷ c) ≡ option_and_then due_of (option_map_or (λ y. gate_at c (fronts y (nth_list lists i) (λ d. began (i ∷ d)))) (slice_get xs i) None)
    by None e =
        ap (λ o. option_map_or (λ m. m c) o None) (get-none dues xs i e)
        ∙ sym (ap (λ o. option_and_then due_of (option_map_or (λ y. gate_at c (fronts y (nth_list lists i) (λ d. began (i ∷ d)))) o None)) e)
    by (Some y) e =
        ap (λ o. option_map_or (λ m. m c) o None) (get-map dues xs i y e)
        ∙ ih y (nth_list lists i) (λ d. began (i ∷ d))
        ∙ sym (ap (λ o. option_and_then due_of (option_map_or (λ z. gate_at c (fronts z (nth_list lists i) (λ d. began (i ∷ d)))) o None)) e)

pub due-gate : (c : Branch) (x : Strand) (list : List Action) (began : Began) → dues x c ≡ option_and_then due_of (gate_at c (fronts x list began))
unfolding IsDue
due-gate [] x list began = due-by x list began [] (due-here x list began (out-Stage (out-Strand x).stage))
due-gate (i ∷ c) x list began = due-by x list began (i ∷ c) (due-below c (due-gate c) i x list began (out-Stage (out-Strand x).stage))

-- ---- in code, along the path

module _ (x : Strand) (path c : Branch) (i : ℕ) (strands : List Strand) (is : (out-Strand x).stage ≡ Sides strands) (path_is : path ≡ i ∷ c) where
  due-at : dues x path ≡ option_map_or (λ m. m c) (slice_get (map dues strands) i) None
  due-at = dues-out x path ∙ (λ k. stage_dues (map-Stage Stage Strand Dues Dues due_stage dues ((ap out-Stage is ∙ outs-Sides strands) k)) (path_is k))

  pub due-at-side : (side : Strand) → slice_get strands i ≡ Some side → dues x path ≡ dues side c
  unfolding due-at
  due-at-side side get = due-at ∙ ap (λ o. option_map_or (λ m. m c) o None) (get-map dues strands i side get)

  pub due-at-none : slice_get strands i ≡ None → dues x path ≡ None
  unfolding due-at
  due-at-none get = due-at ∙ ap (λ o. option_map_or (λ m. m c) o None) (get-none dues strands i get)
