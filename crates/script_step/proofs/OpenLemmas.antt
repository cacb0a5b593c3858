-- A strand on no places, and one that is ready on a place of its branch.
use Rattle.std.proofs.Common.{◌≡◌, ℕ, zero, suc, ◌<◌, true, ◌||◌, List, [], ◌∷◌, ◌++◌, length, map, drop, refl, ap, ◌∙◌, subst, arith}
use Rattle.std.specs.Prelude.{Option, Some, None, is_some, option_map, nat_lt}
use Rattle.std.proofs.lemmas.Bool.{ltb-true}
use Rattle.ha_config.specs.declared.config.Action.{Action}
use Rattle.ha_sight.specs.Scripts.{Branch, Spot, Scopes, Next}
use Rattle.script_step.specs.declared.thread.Turn.{Turn}
use Rattle.script_step.specs.declared.thread.Thread.{Thread}
use Rattle.script_step.specs.declared.strand.Strand.{Strand}
use Rattle.script_step.specs.declared.strand.Stage.{Stage}
use Rattle.script_step.specs.declared.strand.Stage.TheOpen.{Stage-F, Strand-F}
use Rattle.script_step.specs.declared.strand.Stage.TheViews.{roll-Stage, roll-Strand}
use Rattle.script_step.specs.declared.strand.Stage.TheFolds.{ind-Strand, fold-roll-Stage, fold-roll-Strand, map-Stage, map-Strand}
use Rattle.script_step.specs.Parts.{tests_at, round_of, block_of, blocks_of}
use Rattle.script_step.specs.Continuation.{Began, Meaning, StageMeaning, has_next, last_action, open_blocks, own_list, thread_next, nth_list, lists_of, sides_from, stage_step, strand_step, continuation}
use Rattle.script_step.specs.Step.{stage_meaning}
use Rattle.script_step.proofs.ExactLemmas.{EachSome, side-on-nothing, blocks-on-nothing, block-some, is_left}

-- ---- on no places a strand is open or has ended

abbrev pub StageThere : Stage → Type 0
StageThere k = (a : Option Action) (next : Next) (scopes : Scopes) (b : Branch) (began : Began) → ((sc : Scopes) → is_some (next sc []) ≡ true)
    → is_some (stage_meaning k a next scopes b began []) ≡ true

abbrev pub StrandThere : Strand → Type 0
StrandThere x = (list : List Action) (b : Branch) (began : Began) → is_some (continuation x list b began []) ≡ true

abbrev SuchStage : Type 0
SuchStage = (k : Stage) × StageThere k

abbrev SuchStrand : Type 0
SuchStrand = (x : Strand) × StrandThere x

sides-there : (ys : List SuchStrand) (i : ℕ) (lists : List (List Action)) (b : Branch) (began : Began) → EachSome (sides_from i (map continuation (map (λ e. e.0) ys)) lists b began)
sides-there [] i lists b began = tt
sides-there (y ∷ ys) i lists b began = (y.1 (nth_list lists i) (b ++ (i ∷ [])) (λ c. began (i ∷ c)), sides-there ys (suc i) lists b began)

layer-there : (y : Stage-F SuchStage SuchStrand) (a : Option Action) (next : Next) (scopes : Scopes) (b : Branch) (began : Began) → ((sc : Scopes) → is_some (next sc []) ≡ true)
    → is_some (stage_step (map-Stage Stage Strand StageMeaning Meaning stage_meaning continuation (map-Stage SuchStage SuchStrand Stage Strand (λ e. e.0) (λ e. e.0) y)) a next scopes b began []) ≡ true
layer-there Stage-F.Ready a next scopes b began n = n scopes
layer-there (Stage-F.Delay due) a next scopes b began n = refl
layer-there (Stage-F.Wait timeout) a next scopes b began n = refl
layer-there (Stage-F.Sides ys) a next scopes b began n =
    side-on-nothing b (sides_from 0 (map continuation (map (λ e. e.0) ys)) (lists_of a) b began) (next scopes) (sides-there ys 0 (lists_of a) b began) (n scopes)
layer-there (Stage-F.Ended e) a next scopes b began n = refl

rolled-stage : (y : Stage-F SuchStage SuchStrand) → StageThere (roll-Stage (map-Stage SuchStage SuchStrand Stage Strand (λ e. e.0) (λ e. e.0) y))
rolled-stage y a next scopes b began n =
    let x = map-Stage SuchStage SuchStrand Stage Strand (λ e. e.0) (λ e. e.0) y in
    ap (λ f. is_some (f a next scopes b began [])) (fold-roll-Stage StageMeaning Meaning stage_step strand_step x) ∙ layer-there y a next scopes b began n

rolled-strand : (y : Strand-F SuchStage SuchStrand) → StrandThere (roll-Strand (map-Strand SuchStage SuchStrand Stage Strand (λ e. e.0) (λ e. e.0) y))
rolled-strand y list b began =
    let x = map-Strand SuchStage SuchStrand Stage Strand (λ e. e.0) (λ e. e.0) y in
    ap (λ f. is_some (f list b began [])) (fold-roll-Strand StageMeaning Meaning stage_step strand_step x)
    ∙ y.stage.1 (last_action list y.thread) (thread_next b list y.thread.outer y.thread.here) y.thread.scopes b began (blocks-on-nothing b (open_blocks list y.thread.outer y.thread.here))

pub there : (x : Strand) → StrandThere x
there = ind-Strand StageThere StrandThere (λ x y is. subst (λ z. StageThere (roll-Stage z)) is (rolled-stage y)) (λ x y is. subst (λ z. StrandThere (roll-Strand z)) is (rolled-strand y))

-- ---- a thread that is ready, on a place of its branch

pub left-behind : (n : ℕ) (xs : List Action) → n < length xs → is_left (drop n xs) ≡ true
left-behind zero [] h = absurd (omega (arith, h))
left-behind zero (x ∷ xs) h = refl
left-behind (suc n) [] h = absurd (omega (arith, h))
left-behind (suc n) (x ∷ xs) h = left-behind n xs (omega (arith, h))

pub thread-some : (list : List Action) (t : Thread) → has_next list t ≡ true → (b : Branch) (s : Spot) → s.branch ≡ b
    → is_some (thread_next b list t.outer t.here t.scopes (s ∷ [])) ≡ true
thread-some list t next b s own =
    block-some (block_of (own_list list t) (tests_at list [] t.outer) t.here) (blocks_of list [] t.outer []) t.scopes b s (by t.here.turn next) own
  where
    by : (turn : Option Turn) → (is_some turn || nat_lt t.here.at (length (own_list list t))) ≡ true
        → (is_some (option_map (round_of (own_list list t) (tests_at list [] t.outer)) turn) || is_left (drop t.here.at (own_list list t))) ≡ true
    by (Some turn) h = refl
    by None h = left-behind t.here.at (own_list list t) (ltb-true t.here.at (length (own_list list t)) h)
