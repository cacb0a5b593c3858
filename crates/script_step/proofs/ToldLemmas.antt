-- What a step changes of the gates: those of other lists stay, and lists that begin are free.
use Rattle.std.proofs.Common.{◌≡◌, ℕ, zero, suc, Bool, ◌&&◌, true, false, List, [], ◌∷◌, ◌++◌, map, set, refl, sym, ap, ◌∙◌, rules}
use Rattle.std.specs.Prelude.{Option, Some, None, slice_get, bytes_eq, nat_eq, option_map, option_and_then, if◌then◌else◌}
use Rattle.std.specs.Option.{option_map_or}
use Rattle.ha_config.specs.declared.config.Action.{Action}
use Rattle.ha_sight.specs.Scripts.{Branch, Scopes, Ask}
use Rattle.script_step.specs.declared.strand.Strand.{Strand}
use Rattle.script_step.specs.declared.strand.Stage.{Stage}
use Rattle.script_step.specs.declared.strand.Stage.TheOpen.{Stage-F}
use Rattle.script_step.specs.declared.strand.Stage.TheViews.{out-Stage, out-Strand}
use Rattle.script_step.specs.declared.strand.Stage.TheFolds.{map-Stage}
use Rattle.script_step.specs.Continuation.{Began, Asks, StageAsks, has_next, last_action, lists_of, nth_list, placed, asks, ask_side, stage_asks}
use Rattle.script_step.specs.Gates.{Gate, Fronts, FrontsOf, StageFronts, gate_at, fronts_from, fronts, first_fronts, stage_fronts, wait_of}
use Rattle.script_step.specs.Sides.{side_of}
use Rattle.script_step.proofs.StepLemmas.{get-map, get-none, ask_stage, asks-out}
use Rattle.script_step.proofs.GateLemmas.{front_stage, fronts-out, gate-here, gate-side, fresh-fronts}

get-set : (xs : List Strand) (i j : ℕ) (y : Strand) → (j ≡ i → ⊥) → slice_get (set xs i y) j ≡ slice_get xs j
get-set [] i j y off = refl
get-set (x ∷ xs) zero zero y off = absurd (off refl)
get-set (x ∷ xs) zero (suc j) y off = refl
get-set (x ∷ xs) (suc i) zero y off = refl
get-set (x ∷ xs) (suc i) (suc j) y off = get-set xs i j y (λ e. off (ap suc e))

other-number : (a b : ℕ) → (a ≡ b → ⊥) → nat_eq a b ≡ false
other-number a b e = search rules

-- where list i takes a step, the gates in another list stay
pub gate-elsewhere : (xs : List Strand) (i j n : ℕ) (p c : Branch) (y : Strand) (lists : List (List Action)) (began : Began) → (j ≡ i → ⊥)
    → gate_at (j ∷ c) (fronts_from 0 (map fronts (set xs i y)) lists (placed (i ∷ p) n began)) ≡ gate_at (j ∷ c) (fronts_from 0 (map fronts xs) lists began)
gate-elsewhere xs i j n p c y lists began off =
    gate-side (set xs i y) j c lists (placed (i ∷ p) n began)
    ∙ (λ k. option_map_or (λ z. gate_at c (fronts z (nth_list lists j) (λ d. if other-number j i off k && bytes_eq d p then n else began (j ∷ d)))) (get-set xs i j y off k) None)
    ∙ sym (gate-side xs j c lists began)

pub same-gate : (g h : Gate) → Some g ≡ Some h → g ≡ h
same-gate g h e = cc

pub none-some : (g : Gate) → None ≡ Some g → ⊥
none-some g e = cc

first-free : (l : List Action) (c : Branch) (g : Gate) → gate_at c (first_fronts l) ≡ Some g → g ≡ Gate.Free
first-free [] c g e = absurd (none-some g e)
first-free (a ∷ rest) [] g e = sym (same-gate Gate.Free g e)
first-free (a ∷ rest) (i ∷ c) g e = absurd (none-some g e)

-- each branch of lists that have just begun is free
pub begun-free : (scopes : Scopes) (lists : List (List Action)) (c : Branch) (began : Began) (g : Gate)
    → gate_at c (fronts_from 0 (map fronts (map (side_of scopes) lists)) lists began) ≡ Some g → g ≡ Gate.Free
begun-free scopes lists [] began g e = absurd (none-some g (sym (gate-here (map (side_of scopes) lists) 0 lists began) ∙ e))
begun-free scopes lists (i ∷ c) began g e = by (slice_get lists i) refl (sym (gate-side (map (side_of scopes) lists) i c lists began) ∙ e)
  where
    by : (o : Option (List Action)) → slice_get lists i ≡ o
        → option_map_or (λ y. gate_at c (fronts y (nth_list lists i) (λ d. began (i ∷ d)))) (slice_get (map (side_of scopes) lists) i) None ≡ Some g → g ≡ Gate.Free
    by None q h = absurd (none-some g (sym (ap (λ o. option_map_or (λ y. gate_at c (fronts y (nth_list lists i) (λ d. began (i ∷ d)))) o None) (get-none (side_of scopes) lists i q)) ∙ h))
    by (Some l) q h =
        let list : nth_list lists i ≡ l = ap (λ o. option_map_or (λ m. m) o []) q in
        first-free l c g
        (sym (ap (gate_at c) (fresh-fronts (scopes ++ ([] ∷ [])) l (λ d. began (i ∷ d))))
        ∙ (λ k. gate_at c (fronts (side_of scopes l) (sym list k) (λ d. began (i ∷ d))))
        ∙ sym (ap (λ o. option_map_or (λ y. gate_at c (fronts y (nth_list lists i) (λ d. began (i ∷ d)))) o None) (get-map (side_of scopes) lists i l q))
        ∙ h)

-- ---- the gate behind a wait has what the wait asks, and where it began

module _ (x : Strand) (list : List Action) (began : Began) (c : Branch) where
  abbrev asks_at : Stage-F Stage Strand → Option Ask
  asks_at k = (let t = (out-Strand x).thread in stage_asks (map-Stage Stage Strand StageAsks Asks ask_stage asks k) (last_action list t) t.scopes c)

  abbrev fronts_at : Stage-F Stage Strand → Fronts
  fronts_at k = stage_fronts (map-Stage Stage Strand StageFronts FrontsOf front_stage fronts k) list (out-Strand x).thread began

  abbrev Waits : Stage-F Stage Strand → Type 0
  Waits k = option_map (λ ask. (ask, began c)) (asks_at k) ≡ option_and_then wait_of (gate_at c (fronts_at k))

  wait-by : Waits (out-Stage (out-Strand x).stage) → option_map (λ ask. (ask, began c)) (asks x list c) ≡ option_and_then wait_of (gate_at c (fronts x list began))
  wait-by wait = ap (option_map (λ ask. (ask, began c))) (asks-out x list c) ∙ wait ∙ sym (ap (λ f. option_and_then wait_of (gate_at c f)) (fronts-out x list began))

IsWait : Branch → Type 0
IsWait c = (x : Strand) (list : List Action) (began : Began) → option_map (λ ask. (ask, began c)) (asks x list c) ≡ option_and_then wait_of (gate_at c (fronts x list began))

free-wait : (c : Branch) (t : Bool) → None ≡ option_and_then wait_of (gate_at c (if t then ([], Gate.Free) ∷ [] else []))
free-wait [] true = refl
free-wait (i ∷ c) true = refl
free-wait c false = refl

wait-here : (x : Strand) (list : List Action) (began : Began) (k : Stage-F Stage Strand) → Waits x list began [] k
wait-here x list began Stage-F.Ready = free-wait [] (has_next list (out-Strand x).thread)
wait-here x list began (Stage-F.Delay due) = refl
wait-here x list began (Stage-F.Wait timeout) = refl
wait-here x list began (Stage-F.Ended e) = refl
wait-here x list began (Stage-F.Sides xs) = sym (ap (option_and_then wait_of) (gate-here xs 0 (lists_of (last_action list (out-Strand x).thread)) began))

wait-below : (c : Branch) → IsWait c → (i : ℕ) (x : Strand) (list : List Action) (began : Began) (k : Stage-F Stage Strand) → Waits x list began (i ∷ c) k
unfolding IsWait
wait-below c ih i x list began Stage-F.Ready = free-wait (i ∷ c) (has_next list (out-Strand x).thread)
wait-below c ih i x list began (Stage-F.Delay due) = refl
wait-below c ih i x list began (Stage-F.Wait timeout) = refl
wait-below c ih i x list began (Stage-F.Ended e) = refl
wait-below c ih i x list began (Stage-F.Sides xs) = by (slice_get xs i) refl ∙ sym (ap (option_and_then wait_of) (gate-side xs i c lists began))
  where
    lists : List (List Action)
    lists = lists_of (last_action list (out-Strand x).thread)

    by : (o : Option Strand) → slice_get xs i ≡ o
        → option_map (λ ask. (ask, began (i ∷ c))) (ask_side (map asks xs) lists (i ∷ c))
        ≡ option_and_then wait_of (option_map_or (λ y. gate_at c (fronts y (nth_list lists i) (λ d. began (i ∷ d)))) (slice_get xs i) None)
    by None e =
        ap (λ o. option_map (λ ask. (ask, began (i ∷ c))) (option_map_or (λ m. m (nth_list lists i) c) o None)) (get-none asks xs i e)
        ∙ sym (ap (λ o. option_and_then wait_of (option_map_or (λ y. gate_at c (fronts y (nth_list lists i) (λ d. began (i ∷ d)))) o None)) e)
    by (Some y) e =
        ap (λ o. option_map (λ ask. (ask, began (i ∷ c))) (option_map_or (λ m. m (nth_list lists i) c) o None)) (get-map asks xs i y e)
        ∙ ih y (nth_list lists i) (λ d. began (i ∷ d))
        ∙ sym (ap (λ o. option_and_then wait_of (option_map_or (λ z. gate_at c (fronts z (nth_list lists i) (λ d. began (i ∷ d)))) o None)) e)

pub wait-gate : (c : Branch) (x : Strand) (list : List Action) (began : Began) → option_map (λ ask. (ask, began c)) (asks x list c) ≡ option_and_then wait_of (gate_at c (fronts x list began))
unfolding IsWait
wait-gate [] x list began = wait-by x list began [] (wait-here x list began (out-Stage (out-Strand x).stage))
wait-gate (i ∷ c) x list began = wait-by x list began (i ∷ c) (wait-below c (wait-gate c) i x list began (out-Stage (out-Strand x).stage))
