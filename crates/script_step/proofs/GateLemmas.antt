-- The branches at a place of their own, and their gates.
use Rattle.std.proofs.Common.{◌≡◌, ℕ, zero, suc, ◌+◌, ◌<◌, Bool, true, false, ◌&&◌, List, [], ◌∷◌, ◌++◌, length, map, refl, sym, ap, ◌∙◌, subst, arith, rules}
use Rattle.std.specs.Prelude.{Option, Some, None, is_some, slice_get, option_map, option_and_then, bytes_eq, find, nat_eq, nat_lt, if◌then◌else◌}
use Rattle.std.specs.Option.{option_map_or}
use Rattle.ha_config.specs.declared.config.Action.{Action}
use Rattle.ha_sight.specs.declared.item.Item.{Item}
use Rattle.ha_sight.specs.declared.waiting.WaitEnd.{WaitEnd}
use Rattle.ha_config.specs.Words.{Pairs}
use Rattle.ha_sight.specs.Scripts.{Branch, Spot, Scopes, Ask, Outcome, flat, prefixed, whole}
use Rattle.script_step.specs.declared.strand.End.{End}
use Rattle.script_step.specs.declared.strand.Strand.{Strand}
use Rattle.script_step.specs.declared.strand.Stage.{Stage}
use Rattle.script_step.specs.declared.strand.Stage.TheOpen.{Stage-F}
use Rattle.script_step.specs.declared.strand.Stage.TheViews.{out-Stage, out-Strand}
use Rattle.script_step.specs.declared.strand.Stage.TheVariants.{outs-Ready, outs-Ended}
use Rattle.script_step.specs.declared.strand.Stage.TheFolds.{fold-Stage, fold_out-Stage, fold_out-Strand, map-Stage}
use Rattle.script_step.specs.declared.frames.Frames.{Frames}
use Rattle.script_step.specs.Continuation.{Began, May, StageMay, Asks, StageAsks, has_next, last_action, ask_in, lists_of, nth_list, stage_may, may_step, may_side, stage_asks, asks, ask_side}
use Rattle.script_step.specs.Gates.{Gate, Fronts, FrontsOf, StageFronts, gate_at, lets, in_side, fronts_from, stage_fronts, fronts, fronts_of, first_fronts, Dues, stage_dues, dues}
use Rattle.script_step.specs.Frames.{ask_of, began_by, begins, continues, Stands}
use Rattle.script_step.specs.Sides.{Standings, stage_standing, standing, first_stage, first_thread}
use Rattle.std.proofs.lemmas.Bool.{lt-ltb}
use Rattle.script_step.proofs.SettledLemmas.{StageStanding, stage_stands, standing-out}
use Rattle.script_step.proofs.StepLemmas.{may_stage, may-out, ask_stage, asks-out, get-map, get-none}
use Rattle.script_step.proofs.MayLemmas.{exact}

-- ---- fronts, by the stage

abbrev pub front_stage : Stage → StageFronts
front_stage = fold-Stage StageFronts FrontsOf stage_fronts (λ x list. x.stage list x.thread)

pub fronts-out : (x : Strand) (list : List Action) (began : Began)
    → fronts x list began ≡ stage_fronts (map-Stage Stage Strand StageFronts FrontsOf front_stage fronts (out-Stage (out-Strand x).stage)) list (out-Strand x).thread began
fronts-out x list began =
    ap (λ f. f list began) (fold_out-Strand StageFronts FrontsOf stage_fronts (λ y l. y.stage l y.thread) x)
    ∙ ap (λ f. f list (out-Strand x).thread began) (fold_out-Stage StageFronts FrontsOf stage_fronts (λ y l. y.stage l y.thread) (out-Strand x).stage)

abbrev pub due_stage : Stage → Dues
due_stage = fold-Stage Dues Dues stage_dues (λ x. x.stage)

pub dues-out : (x : Strand) (c : Branch) → dues x c ≡ stage_dues (map-Stage Stage Strand Dues Dues due_stage dues (out-Stage (out-Strand x).stage)) c
dues-out x c =
    ap (λ f. f c) (fold_out-Strand Dues Dues stage_dues (λ y. y.stage) x)
    ∙ ap (λ f. f c) (fold_out-Stage Dues Dues stage_dues (λ y. y.stage) (out-Strand x).stage)

-- ---- the gate of a branch in the lists of a parallel block

own-number : (i : ℕ) → nat_eq i i ≡ true
own-number i = search rules

other-number : (a b : ℕ) → (a ≡ b → ⊥) → nat_eq a b ≡ false
other-number a b e = search rules

find-own : (i : ℕ) (c : Branch) (fs rest : Fronts) → gate_at (i ∷ c) rest ≡ None → gate_at (i ∷ c) (map (in_side i) fs ++ rest) ≡ gate_at c fs
find-own i c [] rest e = e
find-own i c (f ∷ fs) rest e =
    (λ j. option_map (λ x. x.1) (if own-number i j && bytes_eq f.0 c then Some (in_side i f) else find (λ x. bytes_eq x.0 (i ∷ c)) (map (in_side i) fs ++ rest)))
    ∙ by (bytes_eq f.0 c) (find-own i c fs rest e)
  where
    by : (t : Bool) → gate_at (i ∷ c) (map (in_side i) fs ++ rest) ≡ gate_at c fs
        → option_map (λ x. x.1) (if t then Some (in_side i f) else find (λ x. bytes_eq x.0 (i ∷ c)) (map (in_side i) fs ++ rest))
        ≡ option_map (λ x. x.1) (if t then Some f else find (λ x. bytes_eq x.0 c) fs)
    by true h = refl
    by false h = h

find-other : (k i : ℕ) (c : Branch) (fs rest : Fronts) → nat_eq k i ≡ false → gate_at (i ∷ c) (map (in_side k) fs ++ rest) ≡ gate_at (i ∷ c) rest
find-other k i c [] rest off = refl
find-other k i c (f ∷ fs) rest off =
    (λ j. option_map (λ x. x.1) (if off j && bytes_eq f.0 c then Some (in_side k f) else find (λ x. bytes_eq x.0 (i ∷ c)) (map (in_side k) fs ++ rest)))
    ∙ find-other k i c fs rest off

find-here : (k : ℕ) (fs rest : Fronts) → gate_at [] (map (in_side k) fs ++ rest) ≡ gate_at [] rest
find-here k [] rest = refl
find-here k (f ∷ fs) rest = find-here k fs rest

gate-later : (xs : List Strand) (k i : ℕ) (c : Branch) (lists : List (List Action)) (began : Began) → i < k → gate_at (i ∷ c) (fronts_from k (map fronts xs) lists began) ≡ None
gate-later [] k i c lists began lt = refl
gate-later (y ∷ ys) k i c lists began lt =
    find-other k i c (fronts y (nth_list lists k) (λ d. began (k ∷ d))) (fronts_from (suc k) (map fronts ys) lists began) (other-number k i (λ e. omega (arith, e, lt)))
    ∙ gate-later ys (suc k) i c lists began (omega (arith, lt))

pub gate-here : (xs : List Strand) (k : ℕ) (lists : List (List Action)) (began : Began) → gate_at [] (fronts_from k (map fronts xs) lists began) ≡ None
gate-here [] k lists began = refl
gate-here (y ∷ ys) k lists began =
    find-here k (fronts y (nth_list lists k) (λ d. began (k ∷ d))) (fronts_from (suc k) (map fronts ys) lists began) ∙ gate-here ys (suc k) lists began

gate-below : (xs : List Strand) (k i : ℕ) (c : Branch) (lists : List (List Action)) (began : Began)
    → gate_at ((k + i) ∷ c) (fronts_from k (map fronts xs) lists began)
    ≡ option_map_or (λ y. gate_at c (fronts y (nth_list lists (k + i)) (λ d. began ((k + i) ∷ d)))) (slice_get xs i) None
gate-below [] k i c lists began = refl
gate-below (y ∷ ys) k zero c lists began =
    let n : k + 0 ≡ k = omega arith in
    (λ j. gate_at (n j ∷ c) (fronts_from k (map fronts (y ∷ ys)) lists began))
    ∙ find-own k c (fronts y (nth_list lists k) (λ d. began (k ∷ d))) (fronts_from (suc k) (map fronts ys) lists began) (gate-later ys (suc k) k c lists began (omega arith))
    ∙ (λ j. gate_at c (fronts y (nth_list lists (sym n j)) (λ d. began (sym n j ∷ d))))
gate-below (y ∷ ys) k (suc i) c lists began =
    let n : suc k + i ≡ k + suc i = omega arith in
    find-other k (k + suc i) c (fronts y (nth_list lists k) (λ d. began (k ∷ d))) (fronts_from (suc k) (map fronts ys) lists began) (other-number k (k + suc i) (λ e. omega (arith, e)))
    ∙ (λ j. gate_at (sym n j ∷ c) (fronts_from (suc k) (map fronts ys) lists began))
    ∙ gate-below ys (suc k) i c lists began
    ∙ (λ j. option_map_or (λ z. gate_at c (fronts z (nth_list lists (n j)) (λ d. began (n j ∷ d)))) (slice_get ys i) None)

pub gate-side : (xs : List Strand) (i : ℕ) (c : Branch) (lists : List (List Action)) (began : Began)
    → gate_at (i ∷ c) (fronts_from 0 (map fronts xs) lists began) ≡ option_map_or (λ y. gate_at c (fronts y (nth_list lists i) (λ d. began (i ∷ d)))) (slice_get xs i) None
gate-side xs i c lists began = (let z : 0 + i ≡ i = omega arith in subst (λ (n : ℕ). gate_at (n ∷ c) (fronts_from 0 (map fronts xs) lists began) ≡ option_map_or (λ y. gate_at c (fronts y (nth_list lists n) (λ d. began (n ∷ d)))) (slice_get xs i) None) z (gate-below xs 0 i c lists began))

-- ---- a branch may step exactly where it has a gate that opens

module _ (x : Strand) (list : List Action) (began : Began) (s : Spot) (c : Branch) (end : Option WaitEnd) where
  abbrev may_at : Stage-F Stage Strand → Bool
  may_at k = stage_may (map-Stage Stage Strand StageMay May may_stage may_step k) list (out-Strand x).thread c s.sight.now end

  abbrev asks_at : Stage-F Stage Strand → Option Ask
  asks_at k = (let t = (out-Strand x).thread in stage_asks (map-Stage Stage Strand StageAsks Asks ask_stage asks k) (last_action list t) t.scopes c)

  abbrev fronts_at : Stage-F Stage Strand → Fronts
  fronts_at k = stage_fronts (map-Stage Stage Strand StageFronts FrontsOf front_stage fronts k) list (out-Strand x).thread began

  abbrev Gated : Stage-F Stage Strand → Type 0
  Gated k = ((ask : Ask) → asks_at k ≡ Some ask → s.wait_end ask (began c) ≡ end) → may_at k ≡ lets (gate_at c (fronts_at k)) s

  gated-by : Gated (out-Stage (out-Strand x).stage) → ((ask : Ask) → asks x list c ≡ Some ask → s.wait_end ask (began c) ≡ end)
      → may_step x list c s.sight.now end ≡ lets (gate_at c (fronts x list began)) s
  gated-by gated tells =
      may-out x list c s.sight.now end
      ∙ gated (λ ask e. tells ask (asks-out x list c ∙ e))
      ∙ sym (ap (λ f. lets (gate_at c f) s) (fronts-out x list began))

IsGated : Branch → Type 0
IsGated c = (x : Strand) (list : List Action) (began : Began) (s : Spot) (end : Option WaitEnd)
    → ((ask : Ask) → asks x list c ≡ Some ask → s.wait_end ask (began c) ≡ end) → may_step x list c s.sight.now end ≡ lets (gate_at c (fronts x list began)) s

gated-here : (x : Strand) (list : List Action) (began : Began) (s : Spot) (end : Option WaitEnd) (k : Stage-F Stage Strand) → Gated x list began s [] end k
gated-here x list began s end Stage-F.Ready = λ tells. by (has_next list (out-Strand x).thread)
  where
    by : (t : Bool) → t ≡ lets (gate_at [] (if t then ([], Gate.Free) ∷ [] else [])) s
    by true = refl
    by false = refl
gated-here x list began s end (Stage-F.Delay due) = λ tells. refl
gated-here x list began s end (Stage-F.Wait timeout) = λ tells. sym (ap is_some (tells (ask_in (last_action list (out-Strand x).thread) timeout (flat (out-Strand x).thread.scopes)) refl))
gated-here x list began s end (Stage-F.Ended e) = λ tells. refl
gated-here x list began s end (Stage-F.Sides xs) = λ tells. sym (ap (λ g. lets g s) (gate-here xs 0 (lists_of (last_action list (out-Strand x).thread)) began))

gated-below : (c : Branch) → IsGated c → (i : ℕ) (x : Strand) (list : List Action) (began : Began) (s : Spot) (end : Option WaitEnd) (k : Stage-F Stage Strand) → Gated x list began s (i ∷ c) end k
unfolding IsGated
gated-below c ih i x list began s end Stage-F.Ready = λ tells. by (has_next list (out-Strand x).thread)
  where
    by : (t : Bool) → false ≡ lets (gate_at (i ∷ c) (if t then ([], Gate.Free) ∷ [] else [])) s
    by true = refl
    by false = refl
gated-below c ih i x list began s end (Stage-F.Delay due) = λ tells. refl
gated-below c ih i x list began s end (Stage-F.Wait timeout) = λ tells. refl
gated-below c ih i x list began s end (Stage-F.Ended e) = λ tells. refl
gated-below c ih i x list began s end (Stage-F.Sides xs) = λ tells. by (slice_get xs i) refl tells ∙ sym (ap (λ g. lets g s) (gate-side xs i c lists began))
  where
    lists : List (List Action)
    lists = lists_of (last_action list (out-Strand x).thread)

    by : (o : Option Strand) → slice_get xs i ≡ o → ((ask : Ask) → ask_side (map asks xs) lists (i ∷ c) ≡ Some ask → s.wait_end ask (began (i ∷ c)) ≡ end)
        → may_side (map may_step xs) lists (i ∷ c) s.sight.now end ≡ lets (option_map_or (λ y. gate_at c (fronts y (nth_list lists i) (λ d. began (i ∷ d)))) (slice_get xs i) None) s
    by None e tells =
        ap (λ o. option_map_or (λ m. m (nth_list lists i) c s.sight.now end) o false) (get-none may_step xs i e)
        ∙ sym (ap (λ o. lets (option_map_or (λ y. gate_at c (fronts y (nth_list lists i) (λ d. began (i ∷ d)))) o None) s) e)
    by (Some y) e tells =
        ap (λ o. option_map_or (λ m. m (nth_list lists i) c s.sight.now end) o false) (get-map may_step xs i y e)
        ∙ ih y (nth_list lists i) (λ d. began (i ∷ d)) s end (λ ask q. tells ask (ap (λ o. option_map_or (λ m. m (nth_list lists i) c) o None) (get-map asks xs i y e) ∙ q))
        ∙ sym (ap (λ o. lets (option_map_or (λ z. gate_at c (fronts z (nth_list lists i) (λ d. began (i ∷ d)))) o None) s) e)

pub gated : (c : Branch) (x : Strand) (list : List Action) (began : Began) (s : Spot) (end : Option WaitEnd)
    → ((ask : Ask) → asks x list c ≡ Some ask → s.wait_end ask (began c) ≡ end) → may_step x list c s.sight.now end ≡ lets (gate_at c (fronts x list began)) s
unfolding IsGated
gated [] x list began s end tells = gated-by x list began s [] end (gated-here x list began s end (out-Stage (out-Strand x).stage)) tells
gated (i ∷ c) x list began s end tells = gated-by x list began s (i ∷ c) end (gated-below c (gated c) i x list began s end (out-Stage (out-Strand x).stage)) tells

-- ---- one more place of a branch is allowed exactly where its gate opens there

pub gate-allowed : (f : Frames) (began : Began) (s : Spot) → is_some (continues f began (s ∷ [])) ≡ lets (gate_at s.branch (fronts_of f began)) s
gate-allowed f began s =
    let end : Option WaitEnd = option_and_then (λ ask. s.wait_end ask (began s.branch)) (ask_of f s.branch) in
    let tells : (ask : Ask) → ask_of f s.branch ≡ Some ask → s.wait_end ask (began s.branch) ≡ end =
    λ ask e. sym (ap (option_and_then (λ a. s.wait_end a (began s.branch))) e) in
    exact s.branch f.root f.script.value [] began s end f.settled refl tells ∙ gated s.branch f.root f.script.value began s end tells

pub gate-stands : (f : Frames) (actions : List Action) (env : Pairs) (given : List Spot) (items : List Item) (s : Spot) → Stands f actions env given items
    → is_some (whole actions env (given ++ (s ∷ []))) ≡ lets (gate_at s.branch (fronts_of f (began_by begins given))) s
gate-stands f actions env given items s stands =
    ap is_some (stands.goes (s ∷ [])) ∙ by (continues f (began_by begins given) (s ∷ [])) ∙ gate-allowed f (began_by begins given) s
  where
    by : (o : Option Outcome) → is_some (prefixed items o) ≡ is_some o
    by None = refl
    by (Some o) = refl

-- ---- fresh frames

pub first-left : (a : Action) (rest : List Action) → nat_lt 0 (length (a ∷ rest)) ≡ true
first-left a rest = lt-ltb 0 (length (a ∷ rest)) (omega arith)

pub fresh-fronts : (scopes : Scopes) (actions : List Action) (began : Began) → fronts (record { thread = first_thread scopes; stage = first_stage actions }) actions began ≡ first_fronts actions
fresh-fronts scopes [] began =
    fronts-out (record { thread = first_thread scopes; stage = Stage.Ended End.Done }) [] began
    ∙ ap (λ k. stage_fronts (map-Stage Stage Strand StageFronts FrontsOf front_stage fronts k) [] (first_thread scopes) began) (outs-Ended End.Done)
fresh-fronts scopes (a ∷ rest) began =
    fronts-out (record { thread = first_thread scopes; stage = Stage.Ready }) (a ∷ rest) began
    ∙ ap (λ k. stage_fronts (map-Stage Stage Strand StageFronts FrontsOf front_stage fronts k) (a ∷ rest) (first_thread scopes) began) outs-Ready
    ∙ (λ j. if first-left a rest j then ([], Gate.Free) ∷ [] else [])

-- fresh frames are settled
pub fresh-settled : (scopes : Scopes) (actions : List Action) → (standing (record { thread = first_thread scopes; stage = first_stage actions }) actions).settled ≡ true
fresh-settled scopes [] =
    ap (λ z. z.settled) (standing-out (record { thread = first_thread scopes; stage = Stage.Ended End.Done }) []
    ∙ ap (λ k. stage_standing (map-Stage Stage Strand StageStanding Standings stage_stands standing k) [] (first_thread scopes)) (outs-Ended End.Done))
fresh-settled scopes (a ∷ rest) =
    ap (λ z. z.settled) (standing-out (record { thread = first_thread scopes; stage = Stage.Ready }) (a ∷ rest)
    ∙ ap (λ k. stage_standing (map-Stage Stage Strand StageStanding Standings stage_stands standing k) (a ∷ rest) (first_thread scopes)) outs-Ready)
    ∙ first-left a rest
