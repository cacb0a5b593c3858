-- Strands stay settled.
use Rattle.std.proofs.Common.{◌≡◌, ℕ, zero, suc, ◌+◌, Bool, true, false, not, ◌&&◌, List, [], ◌∷◌, ◌++◌, length, map, set, refl, sym, ap, ◌∙◌, arith, rules}
use Rattle.std.specs.Prelude.{Option, Some, is_some, slice_get, nat_eq}
use Rattle.ha_config.specs.declared.config.Action.{Action}
use Rattle.ha_sight.specs.Scripts.{Scopes}
use Rattle.script_step.specs.declared.thread.Thread.{Thread}
use Rattle.script_step.specs.declared.strand.End.{End}
use Rattle.script_step.specs.declared.strand.Strand.{Strand}
use Rattle.script_step.specs.declared.strand.Stage.{Stage}
use Rattle.script_step.specs.declared.strand.Stage.TheOpen.{Stage-F}
use Rattle.script_step.specs.declared.strand.Stage.TheViews.{out-Stage, out-Strand}
use Rattle.script_step.specs.declared.strand.Stage.TheVariants.{Sides, outs-Ready, outs-Delay, outs-Wait, outs-Sides, outs-Ended}
use Rattle.script_step.specs.declared.strand.Stage.TheFolds.{fold_out-Stage, fold_out-Strand, map-Stage}
use Rattle.script_step.specs.Continuation.{has_next, last_action, lists_of, nth_list}
use Rattle.script_step.specs.Sides.{Standings, all_settled, each_over, stage_standing, standing, all_over, end_of, end_in, side_of, whole_in, is_whole, plain_in, is_plain}
use Rattle.script_step.proofs.SettledLemmas.{StageStanding, stage_stands, standing-out, both}
use Rattle.script_step.proofs.StepLemmas.{same-some}
use Rattle.script_step.proofs.GateLemmas.{fresh-settled}

-- a stage's standing on a thread
pub stage-stands : (k : Stage) (list : List Action) (t : Thread) → stage_stands k list t ≡ stage_standing (map-Stage Stage Strand StageStanding Standings stage_stands standing (out-Stage k)) list t
stage-stands k list t = ap (λ f. f list t) (fold_out-Stage StageStanding Standings stage_standing (λ y l. y.stage l y.thread) k)

pub strand-stands : (x : Strand) (list : List Action) → standing x list ≡ stage_stands (out-Strand x).stage list (out-Strand x).thread
strand-stands x list = ap (λ f. f list) (fold_out-Strand StageStanding Standings stage_standing (λ y l. y.stage l y.thread) x)

-- what is no parallel block is whole
pub plain-whole : (k : Stage) (list : List Action) (t : Thread) → is_plain k ≡ true → is_whole k list t ≡ true
plain-whole k list t plain = by (out-Stage k) plain
  where
    by : (o : Stage-F Stage Strand) → plain_in o ≡ true → whole_in o list t ≡ true
    by Stage-F.Ready h = refl
    by (Stage-F.Delay due) h = refl
    by (Stage-F.Wait timeout) h = refl
    by (Stage-F.Ended e) h = refl
    by (Stage-F.Sides xs) h = absurd cc

-- all have ended
over-one : (x : Strand) → (standing x []).over ≡ is_some (end_of x)
over-one x = ap (λ z. z.over) (standing-out x []) ∙ by (out-Stage (out-Strand x).stage)
  where
    by : (k : Stage-F Stage Strand) → (stage_standing (map-Stage Stage Strand StageStanding Standings stage_stands standing k) [] (out-Strand x).thread).over ≡ is_some (end_in k)
    by Stage-F.Ready = refl
    by (Stage-F.Delay due) = refl
    by (Stage-F.Wait timeout) = refl
    by (Stage-F.Sides xs) = refl
    by (Stage-F.Ended e) = refl

pub over-all : (xs : List Strand) → each_over (map standing xs) ≡ all_over xs
over-all [] = refl
over-all (x ∷ xs) = (λ j. over-one x j && over-all xs j)

map-length : (xs : List Strand) → length (map standing xs) ≡ length xs
map-length [] = refl
map-length (x ∷ xs) = ap suc (map-length xs)

-- ---- a stage behind a step

module _ (list : List Action) (t : Thread) where
  stands_as : Stage-F Stage Strand → Bool
  stands_as k = (stage_standing (map-Stage Stage Strand StageStanding Standings stage_stands standing k) list t).settled

  pub settled-ready : has_next list t ≡ true → (stage_stands Stage.Ready list t).settled ≡ true
  unfolding stands_as
  settled-ready h = ap (λ z. z.settled) (stage-stands Stage.Ready list t) ∙ ap stands_as outs-Ready ∙ h

  pub settled-ended : (e : End) → (stage_stands (Stage.Ended e) list t).settled ≡ true
  unfolding stands_as
  settled-ended e = ap (λ z. z.settled) (stage-stands (Stage.Ended e) list t) ∙ ap stands_as (outs-Ended e)

  pub settled-delay : (due : ℕ) → (stage_stands (Stage.Delay due) list t).settled ≡ true
  unfolding stands_as
  settled-delay due = ap (λ z. z.settled) (stage-stands (Stage.Delay due) list t) ∙ ap stands_as (outs-Delay due)

  pub settled-wait : (timeout : Option ℕ) → (stage_stands (Stage.Wait timeout) list t).settled ≡ true
  unfolding stands_as
  settled-wait timeout = ap (λ z. z.settled) (stage-stands (Stage.Wait timeout) list t) ∙ ap stands_as (outs-Wait timeout)

  settled-lists : (xs : List Strand) → (stage_stands (Sides xs) list t).settled
      ≡ (nat_eq (length xs) (length (lists_of (last_action list t))) && (all_settled 0 (map standing xs) (lists_of (last_action list t)) && not (all_over xs)))
  unfolding stands_as
  settled-lists xs =
      ap (λ z. z.settled) (stage-stands (Sides xs) list t) ∙ ap stands_as (outs-Sides xs)
      ∙ (λ j. nat_eq (map-length xs j) (length (lists_of (last_action list t))) && (all_settled 0 (map standing xs) (lists_of (last_action list t)) && not (over-all xs j)))

  pub settled-sides : (xs : List Strand) → is_whole (Sides xs) list t ≡ true → all_over xs ≡ false → (stage_stands (Sides xs) list t).settled ≡ true
  settled-sides xs whole over =
      settled-lists xs
      ∙ by (nat_eq (length xs) (length (lists_of (last_action list t)))) (all_settled 0 (map standing xs) (lists_of (last_action list t))) (sym (ap (λ k. whole_in k list t) (outs-Sides xs)) ∙ whole)
    where
      by : (a b : Bool) → (a && b) ≡ true → (a && (b && not (all_over xs))) ≡ true
      by true true h = ap not over
      by true false h = absurd cc
      by false b h = absurd cc

  -- a settled strand's lists
  pub whole-lists : (xs : List Strand) → (stage_stands (Sides xs) list t).settled ≡ true
      → (nat_eq (length xs) (length (lists_of (last_action list t))) ≡ true) × (all_settled 0 (map standing xs) (lists_of (last_action list t)) ≡ true)
  whole-lists xs h =
      let known = both (nat_eq (length xs) (length (lists_of (last_action list t)))) (all_settled 0 (map standing xs) (lists_of (last_action list t)) && not (all_over xs)) (sym (settled-lists xs) ∙ h) in
      (known.0, (both (all_settled 0 (map standing xs) (lists_of (last_action list t))) (not (all_over xs)) known.1).0)

  pub whole-sides : (xs : List Strand) → nat_eq (length xs) (length (lists_of (last_action list t))) ≡ true → all_settled 0 (map standing xs) (lists_of (last_action list t)) ≡ true
      → is_whole (Sides xs) list t ≡ true
  whole-sides xs a b = ap (λ k. whole_in k list t) (outs-Sides xs) ∙ (λ j. a j && b j)

-- ---- lists that have just begun

side-settled : (scopes : Scopes) (list : List Action) → (standing (side_of scopes list) list).settled ≡ true
side-settled scopes list = fresh-settled (scopes ++ ([] ∷ [])) list

get-plus : (done lists : List (List Action)) (l : List Action) → nth_list (done ++ (l ∷ lists)) (length done) ≡ l
get-plus [] lists l = refl
get-plus (d ∷ done) lists l = get-plus done lists l

begun-settled : (scopes : Scopes) (done lists : List (List Action)) (i : ℕ) → i ≡ length done → all_settled i (map standing (map (side_of scopes) lists)) (done ++ lists) ≡ true
begun-settled scopes done [] i e = refl
begun-settled scopes done (l ∷ lists) i e =
    (λ j. (standing (side_of scopes l) (((λ k. nth_list (done ++ (l ∷ lists)) (e k)) ∙ get-plus done lists l) j)).settled
    && all_settled (suc i) (map standing (map (side_of scopes) lists)) (sym (one-by-one done l lists) j))
    ∙ (λ j. side-settled scopes l j && begun-settled scopes (done ++ (l ∷ [])) lists (suc i) (ap suc e ∙ sym (one-more done)) j)
  where
    one-by-one : (d : List (List Action)) (x : List Action) (xs : List (List Action)) → (d ++ (x ∷ [])) ++ xs ≡ d ++ (x ∷ xs)
    one-by-one [] x xs = refl
    one-by-one (y ∷ d) x xs = ap (λ m. y ∷ m) (one-by-one d x xs)

    one-more : (d : List (List Action)) → length (d ++ (l ∷ [])) ≡ suc (length d)
    one-more [] = refl
    one-more (y ∷ d) = ap suc (one-more d)

sides-many : (scopes : Scopes) (lists : List (List Action)) → length (map (side_of scopes) lists) ≡ length lists
sides-many scopes [] = refl
sides-many scopes (l ∷ lists) = ap suc (sides-many scopes lists)

same-number : (a b : ℕ) → a ≡ b → nat_eq a b ≡ true
same-number a b e = search (rules, e)

pub begun-whole : (scopes : Scopes) (list : List Action) (t : Thread) (lists : List (List Action)) → lists_of (last_action list t) ≡ lists → is_whole (Sides (map (side_of scopes) lists)) list t ≡ true
begun-whole scopes list t lists e =
    whole-sides list t (map (side_of scopes) lists)
    (same-number (length (map (side_of scopes) lists)) (length (lists_of (last_action list t))) (sides-many scopes lists ∙ ap length (sym e)))
    ((λ j. all_settled 0 (map standing (map (side_of scopes) lists)) (e j)) ∙ begun-settled scopes [] lists 0 refl)

-- ---- one list takes a step

put-settled : (xs : List Strand) (k i : ℕ) (lists : List (List Action)) (y : Strand) → all_settled k (map standing xs) lists ≡ true → (standing y (nth_list lists (k + i))).settled ≡ true
    → all_settled k (map standing (set xs i y)) lists ≡ true
put-settled [] k i lists y all one = refl
put-settled (x ∷ xs) k zero lists y all one =
    let n : k + 0 ≡ k = omega arith in
    let known = both (standing x (nth_list lists k)).settled (all_settled (suc k) (map standing xs) lists) all in
    (λ j. ((λ m. (standing y (nth_list lists (sym n m))).settled) ∙ one) j && known.1 j)
put-settled (x ∷ xs) k (suc i) lists y all one =
    let n : k + suc i ≡ suc k + i = omega arith in
    let known = both (standing x (nth_list lists k)).settled (all_settled (suc k) (map standing xs) lists) all in
    (λ j. known.0 j && put-settled xs (suc k) i lists y known.1 ((λ m. (standing y (nth_list lists (sym n m))).settled) ∙ one) j)

pub settled-set : (xs : List Strand) (i : ℕ) (lists : List (List Action)) (y : Strand) → all_settled 0 (map standing xs) lists ≡ true → (standing y (nth_list lists i)).settled ≡ true
    → all_settled 0 (map standing (set xs i y)) lists ≡ true
settled-set xs i lists y all one = (let z : 0 + i ≡ i = omega arith in put-settled xs 0 i lists y all ((λ j. (standing y (nth_list lists (z j))).settled) ∙ one))

pub set-many : (xs : List Strand) (i : ℕ) (y : Strand) → length (set xs i y) ≡ length xs
set-many [] i y = refl
set-many (x ∷ xs) zero y = refl
set-many (x ∷ xs) (suc i) y = ap suc (set-many xs i y)

get-settled : (xs : List Strand) (k i : ℕ) (lists : List (List Action)) (y : Strand) → all_settled k (map standing xs) lists ≡ true → slice_get xs i ≡ Some y
    → (standing y (nth_list lists (k + i))).settled ≡ true
get-settled [] k i lists y all e = absurd cc
get-settled (x ∷ xs) k zero lists y all e =
    let n : k + 0 ≡ k = omega arith in
    (λ j. (standing (sym (same-some x y e) j) (nth_list lists (n j))).settled) ∙ (both (standing x (nth_list lists k)).settled (all_settled (suc k) (map standing xs) lists) all).0
get-settled (x ∷ xs) k (suc i) lists y all e =
    let n : k + suc i ≡ suc k + i = omega arith in
    (λ j. (standing y (nth_list lists (n j))).settled) ∙ get-settled xs (suc k) i lists y (both (standing x (nth_list lists k)).settled (all_settled (suc k) (map standing xs) lists) all).1 e

pub settled-get : (xs : List Strand) (i : ℕ) (lists : List (List Action)) (y : Strand) → all_settled 0 (map standing xs) lists ≡ true → slice_get xs i ≡ Some y
    → (standing y (nth_list lists i)).settled ≡ true
settled-get xs i lists y all e = (let z : i ≡ 0 + i = omega arith in (λ j. (standing y (nth_list lists (z j))).settled) ∙ get-settled xs 0 i lists y all e)
