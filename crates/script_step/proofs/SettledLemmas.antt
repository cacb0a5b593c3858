-- A settled strand that has not ended is open on no places.
use Rattle.std.proofs.Common.{◌≡◌, ℕ, suc, Bool, true, false, not, ◌&&◌, ◌||◌, List, [], ◌∷◌, ◌++◌, length, map, drop, refl, sym, ap, ◌∙◌, subst}
use Rattle.std.specs.Prelude.{Option, Some, None, is_some, option_map, nat_eq, nat_lt, if◌then◌else◌}
use Rattle.std.specs.List.{list_any}
use Rattle.std.specs.Option.{option_map_or}
use Rattle.std.proofs.lemmas.Bool.{ltb-true}
use Rattle.ha_config.specs.declared.config.Action.{Action}
use Rattle.ha_sight.specs.Scripts.{Branch, Spot, Scopes, Outcome, Status, ends, prefixed, all_allowed, is_open, first_halt, each_on, joined_lists}
use Rattle.ha_sight.proofs.Rolls.{run_action-out}
use Rattle.script_step.specs.declared.thread.Turn.{Turn}
use Rattle.script_step.specs.declared.thread.Thread.{Thread}
use Rattle.script_step.specs.declared.strand.Strand.{Strand}
use Rattle.script_step.specs.declared.strand.Stage.{Stage}
use Rattle.script_step.specs.declared.strand.Stage.TheOpen.{Stage-F, Strand-F}
use Rattle.script_step.specs.declared.strand.Stage.TheViews.{out-Stage, out-Strand, roll-Stage, roll-Strand}
use Rattle.script_step.specs.declared.strand.Stage.TheFolds.{ind-Strand, fold-Stage, fold-roll-Stage, fold-roll-Strand, fold_out-Stage, fold_out-Strand, map-Stage, map-Strand}
use Rattle.script_step.specs.Blocks.{Round, Block, at_end, goes_on}
use Rattle.script_step.specs.Parts.{tests_at, round_of, block_of, blocks_of}
use Rattle.script_step.specs.Continuation.{Began, Meaning, StageMeaning, last_action, own_list, thread_next, nth_list, lists_of, sides_from, stage_step, strand_step, continuation}
use Rattle.script_step.specs.Sides.{Standing, Standings, all_settled, each_over, stage_standing, standing}
use Rattle.script_step.specs.Step.{stage_meaning}
use Rattle.script_step.proofs.ExactLemmas.{EachSome, all-some, is_left}
use Rattle.script_step.proofs.OpenLemmas.{there, left-behind}

pub both : (p q : Bool) → (p && q) ≡ true → (p ≡ true) × (q ≡ true)
both true q e = (refl, e)
both false q e = absurd cc

-- ---- standings

abbrev pub StageStanding : Type 0
StageStanding = List Action → Thread → Standing

abbrev pub stage_stands : Stage → StageStanding
stage_stands = fold-Stage StageStanding Standings stage_standing (λ x list. x.stage list x.thread)

pub standing-out : (x : Strand) (list : List Action)
    → standing x list ≡ stage_standing (map-Stage Stage Strand StageStanding Standings stage_stands standing (out-Stage (out-Strand x).stage)) list (out-Strand x).thread
standing-out x list =
    ap (λ f. f list) (fold_out-Strand StageStanding Standings stage_standing (λ y l. y.stage l y.thread) x)
    ∙ ap (λ f. f list (out-Strand x).thread) (fold_out-Stage StageStanding Standings stage_standing (λ y l. y.stage l y.thread) (out-Strand x).stage)

-- whether a strand has ended does not hang on its list
over-same : (x : Strand) (l m : List Action) → (standing x l).over ≡ (standing x m).over
over-same x l m = ap (λ z. z.over) (standing-out x l) ∙ by (out-Stage (out-Strand x).stage) ∙ ap (λ z. z.over) (sym (standing-out x m))
  where
    by : (k : Stage-F Stage Strand) → (stage_standing (map-Stage Stage Strand StageStanding Standings stage_stands standing k) l (out-Strand x).thread).over
        ≡ (stage_standing (map-Stage Stage Strand StageStanding Standings stage_stands standing k) m (out-Strand x).thread).over
    by Stage-F.Ready = refl
    by (Stage-F.Delay due) = refl
    by (Stage-F.Wait timeout) = refl
    by (Stage-F.Sides xs) = refl
    by (Stage-F.Ended e) = refl

-- ---- open on no places

abbrev pub opens : Option Outcome → Type 0
opens o = option_map (λ r. is_open r.status) o ≡ Some true

abbrev pub StageOpen : Stage → Type 0
StageOpen k = (list : List Action) (t : Thread) (b : Branch) (began : Began) → (stage_stands k list t).settled ≡ true → (stage_stands k list t).over ≡ false
    → opens (stage_meaning k (last_action list t) (thread_next b list t.outer t.here) t.scopes b began [])

abbrev pub StrandOpen : Strand → Type 0
StrandOpen x = (list : List Action) (b : Branch) (began : Began) → (standing x list).settled ≡ true → (standing x list).over ≡ false → opens (continuation x list b began [])

abbrev SuchStage : Type 0
SuchStage = (k : Stage) × StageOpen k

abbrev SuchStrand : Type 0
SuchStrand = (x : Strand) × StrandOpen x

block-open : (x : Block) (xs : List Block) (scopes : Scopes) (b : Branch) → (is_some x.round || is_left x.left) ≡ true → opens (goes_on b (x ∷ xs) scopes [])
block-open x xs scopes b h = by x.left x.round h
  where
    by : (left : List Action) (round : Option Round) → (is_some round || is_left left) ≡ true → opens (goes_on b (record { left = left; round = round } ∷ xs) scopes [])
    by [] None e = absurd cc
    by [] (Some r) e = refl
    by (a ∷ rest) round e =
        ap (option_map (λ r. is_open r.status)) (run_action-out a (goes_on b (record { left = rest; round = round } ∷ xs)) (at_end b round (goes_on b xs)) scopes b [])

pub sides-there : (xs : List Strand) (i : ℕ) (lists : List (List Action)) (b : Branch) (began : Began) → EachSome (sides_from i (map continuation xs) lists b began)
sides-there [] i lists b began = tt
sides-there (x ∷ xs) i lists b began = (there x (nth_list lists i) (b ++ (i ∷ [])) (λ c. began (i ∷ c)), sides-there xs (suc i) lists b began)

abbrev pub OneOpen : Option (List Outcome) → Type 0
OneOpen r = (os : List Outcome) × (r ≡ Some os) × (list_any (λ o. is_open o.status) os ≡ true)

pub taken-some : {X : Type 0} (o : Option X) → is_some o ≡ true → (x : X) × (o ≡ Some x)
taken-some (Some x) h = (x, refl)
taken-some None h = absurd cc

opened : (o : Option Outcome) → opens o → (x : Outcome) × (o ≡ Some x) × (is_open x.status ≡ true)
opened None h = absurd cc
opened (Some x) h = (x, refl, same-flag (is_open x.status) h)
  where
    same-flag : (f : Bool) → Some f ≡ Some true → f ≡ true
    same-flag f e = cc

one-open : (ys : List SuchStrand) (k i : ℕ) (lists : List (List Action)) (b : Branch) (began : Began) → all_settled i (map standing (map (λ e. e.0) ys)) lists ≡ true
    → each_over (map standing (map (λ e. e.0) ys)) ≡ false → OneOpen (all_allowed (each_on b k (sides_from i (map continuation (map (λ e. e.0) ys)) lists b began) []))
one-open [] k i lists b began settled over = absurd cc
one-open (y ∷ ys) k i lists b began settled over =
    by (standing y.0 []).over refl (both (standing y.0 (nth_list lists i)).settled (all_settled (suc i) (map standing (map (λ e. e.0) ys)) lists) settled)
    (λ s o. one-open ys (suc k) (suc i) lists b began s o)
  where
    later : List (List Spot → Option Outcome)
    later = sides_from (suc i) (map continuation (map (λ e. e.0) ys)) lists b began

    head : Option Outcome
    head = continuation y.0 (nth_list lists i) (b ++ (i ∷ [])) (λ c. began (i ∷ c)) []

    or-true : (t : Bool) → (t || true) ≡ true
    or-true true = refl
    or-true false = refl

    by : (t : Bool) → (standing y.0 []).over ≡ t → ((standing y.0 (nth_list lists i)).settled ≡ true) × (all_settled (suc i) (map standing (map (λ e. e.0) ys)) lists ≡ true)
        → (all_settled (suc i) (map standing (map (λ e. e.0) ys)) lists ≡ true → each_over (map standing (map (λ e. e.0) ys)) ≡ false → OneOpen (all_allowed (each_on b (suc k) later [])))
        → OneOpen (all_allowed (head ∷ each_on b (suc k) later []))
    by false e st again =
        let first = opened head (y.1 (nth_list lists i) (b ++ (i ∷ [])) (λ c. began (i ∷ c)) st.0 (over-same y.0 (nth_list lists i) [] ∙ e)) in
        let rest = taken-some (all_allowed (each_on b (suc k) later [])) (all-some later b (suc k) (sides-there (map (λ e'. e'.0) ys) (suc i) lists b began)) in (
          first.0 ∷ rest.0,
          (λ j. all_allowed (first.1 j ∷ each_on b (suc k) later [])) ∙ ap (option_map (λ more. first.0 ∷ more)) rest.1,
          (λ j. first.2 j || list_any (λ o. is_open o.status) rest.0),
        )
    by true e st again =
        let rest = again st.1 ((λ j. sym e j && each_over (map standing (map (λ e'. e'.0) ys))) ∙ over) in
        let first = taken-some head (there y.0 (nth_list lists i) (b ++ (i ∷ [])) (λ c. began (i ∷ c))) in (
          first.0 ∷ rest.0,
          (λ j. all_allowed (first.1 j ∷ each_on b (suc k) later [])) ∙ ap (option_map (λ more. first.0 ∷ more)) rest.1,
          (λ j. is_open first.0.status || rest.2 j) ∙ or-true (is_open first.0.status),
        )

-- a block with an open list, on no places of its lists
pub joined-open : (b : Branch) (next : List Spot → Option Outcome) (past : List Spot) (r : Option (List Outcome)) → OneOpen r → joined_lists b next [] past r ≡ prefixed [] (ends Status.Open past)
joined-open b next past r one =
    (λ j. joined_lists b next [] past (one.1 j))
    ∙ (λ j. prefixed [] (if one.2 j then ends Status.Open past else option_map_or (λ status. ends status past) (first_halt one.0) (next past)))

layer-open : (y : Stage-F SuchStage SuchStrand) (list : List Action) (t : Thread) (b : Branch) (began : Began)
    → (stage_standing (map-Stage Stage Strand StageStanding Standings stage_stands standing (map-Stage SuchStage SuchStrand Stage Strand (λ e. e.0) (λ e. e.0) y)) list t).settled ≡ true
    → (stage_standing (map-Stage Stage Strand StageStanding Standings stage_stands standing (map-Stage SuchStage SuchStrand Stage Strand (λ e. e.0) (λ e. e.0) y)) list t).over ≡ false
    → opens (stage_step (map-Stage Stage Strand StageMeaning Meaning stage_meaning continuation (map-Stage SuchStage SuchStrand Stage Strand (λ e. e.0) (λ e. e.0) y)) (last_action list t) (thread_next b list t.outer t.here) t.scopes b began [])
layer-open Stage-F.Ready list t b began settled over =
    block-open (block_of (own_list list t) (tests_at list [] t.outer) t.here) (blocks_of list [] t.outer []) t.scopes b (by t.here.turn settled)
  where
    by : (turn : Option Turn) → (is_some turn || nat_lt t.here.at (length (own_list list t))) ≡ true
        → (is_some (option_map (round_of (own_list list t) (tests_at list [] t.outer)) turn) || is_left (drop t.here.at (own_list list t))) ≡ true
    by (Some turn) h = refl
    by None h = left-behind t.here.at (own_list list t) (ltb-true t.here.at (length (own_list list t)) h)
layer-open (Stage-F.Delay due) list t b began settled over = refl
layer-open (Stage-F.Wait timeout) list t b began settled over = refl
layer-open (Stage-F.Sides ys) list t b began settled over =
    let lists = lists_of (last_action list t) in
    let known = both (nat_eq (length (map standing (map (λ e. e.0) ys))) (length lists)) (all_settled 0 (map standing (map (λ e. e.0) ys)) lists && not (each_over (map standing (map (λ e. e.0) ys)))) settled in
    let more = both (all_settled 0 (map standing (map (λ e. e.0) ys)) lists) (not (each_over (map standing (map (λ e. e.0) ys)))) known.1 in
    let one = one-open ys 0 0 lists b began more.0 (is-not (each_over (map standing (map (λ e. e.0) ys))) more.1) in
    ap (option_map (λ r. is_open r.status)) (joined-open b (thread_next b list t.outer t.here t.scopes) [] (all_allowed (each_on b 0 (sides_from 0 (map continuation (map (λ e. e.0) ys)) lists b began) [])) one)
  where
    is-not : (f : Bool) → not f ≡ true → f ≡ false
    is-not true h = absurd cc
    is-not false h = refl
layer-open (Stage-F.Ended e) list t b began settled over = absurd cc

rolled-stage : (y : Stage-F SuchStage SuchStrand) → StageOpen (roll-Stage (map-Stage SuchStage SuchStrand Stage Strand (λ e. e.0) (λ e. e.0) y))
rolled-stage y list t b began settled over =
    let x = map-Stage SuchStage SuchStrand Stage Strand (λ e. e.0) (λ e. e.0) y in
    let same = ap (λ f. f list t) (fold-roll-Stage StageStanding Standings stage_standing (λ z l. z.stage l z.thread) x) in
    ap (λ f. option_map (λ r. is_open r.status) (f (last_action list t) (thread_next b list t.outer t.here) t.scopes b began [])) (fold-roll-Stage StageMeaning Meaning stage_step strand_step x)
    ∙ layer-open y list t b began (ap (λ z. z.settled) (sym same) ∙ settled) (ap (λ z. z.over) (sym same) ∙ over)

rolled-strand : (y : Strand-F SuchStage SuchStrand) → StrandOpen (roll-Strand (map-Strand SuchStage SuchStrand Stage Strand (λ e. e.0) (λ e. e.0) y))
rolled-strand y list b began settled over =
    let x = map-Strand SuchStage SuchStrand Stage Strand (λ e. e.0) (λ e. e.0) y in
    let same = ap (λ f. f list) (fold-roll-Strand StageStanding Standings stage_standing (λ z l. z.stage l z.thread) x) in
    ap (λ f. option_map (λ r. is_open r.status) (f list b began [])) (fold-roll-Strand StageMeaning Meaning stage_step strand_step x)
    ∙ y.stage.1 list y.thread b began (ap (λ z. z.settled) (sym same) ∙ settled) (ap (λ z. z.over) (sym same) ∙ over)

pub open-strand : (x : Strand) → StrandOpen x
open-strand = ind-Strand StageOpen StrandOpen (λ x y is. subst (λ z. StageOpen (roll-Stage z)) is (rolled-stage y)) (λ x y is. subst (λ z. StrandOpen (roll-Strand z)) is (rolled-strand y))

-- the same of strands alone
pub one-of-strands : (xs : List Strand) (k i : ℕ) (lists : List (List Action)) (b : Branch) (began : Began) → all_settled i (map standing xs) lists ≡ true
    → each_over (map standing xs) ≡ false → OneOpen (all_allowed (each_on b k (sides_from i (map continuation xs) lists b began) []))
one-of-strands xs k i lists b began settled over =
    subst (λ (l : List Strand). OneOpen (all_allowed (each_on b k (sides_from i (map continuation l) lists b began) []))) (firsts xs)
    (one-open (map with_open xs) k i lists b began
    (ap (λ l. all_settled i (map standing l) lists) (firsts xs) ∙ settled) (ap (λ l. each_over (map standing l)) (firsts xs) ∙ over))
  where
    with_open : Strand → SuchStrand
    with_open x = (x, open-strand x)

    firsts : (l : List Strand) → map (λ e. e.0) (map with_open l) ≡ l
    firsts [] = refl
    firsts (x ∷ l) = ap (λ m. x ∷ m) (firsts l)
