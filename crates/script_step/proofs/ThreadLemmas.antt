-- What a thread goes on with where it goes into a block, and where it leaves one.
use Rattle.std.proofs.Common.{◌≡◌, ℕ, zero, suc, ◌≤◌, Bool, false, ◌||◌, List, [], ◌∷◌, ◌++◌, length, drop, refl, sym, ◌∙◌, arith}
use Rattle.std.specs.Prelude.{Option, Some, None, is_some, nat_lt, option_map}
use Rattle.std.proofs.lemmas.Bool.{ltb-false}
use Rattle.ha_config.specs.declared.config.Action.{Action}
use Rattle.ha_config.specs.declared.config.Condition.{Condition}
use Rattle.ha_sight.specs.Scripts.{Branch, Spot, Scopes, exec, outer}
use Rattle.script_step.specs.declared.thread.Turn.{Turn}
use Rattle.script_step.specs.declared.thread.Frame.{Frame}
use Rattle.script_step.specs.declared.thread.Thread.{Thread}
use Rattle.script_step.specs.Blocks.{goes_on}
use Rattle.script_step.specs.Parts.{kind_of, part_in, tests_in, before, list_in, tests_at, round_of, block_of, blocks_of}
use Rattle.script_step.specs.Continuation.{own_list, open_blocks, thread_next}
use Rattle.script_step.specs.Step.{GoAlike, GoesToEnd}
use Rattle.script_step.proofs.WalkLemmas.{list-snoc, tests-snoc, blocks-snoc}

pub nothing-behind : {X : Type 0} (n : ℕ) (xs : List X) → length xs ≤ n → drop n xs ≡ []
nothing-behind zero [] h = refl
nothing-behind zero (x ∷ xs) h = absurd (omega (arith, h))
nothing-behind (suc n) [] h = refl
nothing-behind (suc n) (x ∷ xs) h = nothing-behind n xs (omega (arith, h))

no-turn : (t : Option Turn) (later : Bool) → (is_some t || later) ≡ false → (t ≡ None) × (later ≡ false)
no-turn None later h = (refl, h)
no-turn (Some t) later h = absurd cc

-- a block of which nothing is left
empty-block : (list : List Action) (tests : List Condition) (f : Frame) → (is_some f.turn || nat_lt f.at (length list)) ≡ false
    → block_of list tests f ≡ record { left = []; round = None }
empty-block list tests f h =
    let none = no-turn f.turn (nat_lt f.at (length list)) h in
    (λ i. record { left = nothing-behind f.at list (ltb-false f.at (length list) none.1) i; round = option_map (round_of list tests) (none.0 i) })

pub settle-one : (list : List Action) (t new : Thread) (f : Frame) → (is_some t.here.turn || nat_lt t.here.at (length (own_list list t))) ≡ false
    → t.outer ≡ new.outer ++ (f ∷ []) → new.here ≡ f → new.scopes ≡ outer t.scopes → GoAlike list t new
settle-one list t new f h popped here scopes b ps =
    (λ i. goes_on b (empty-block (own_list list t) (tests_at list [] t.outer) t.here h i ∷ blocks_of list [] (popped i) []) t.scopes ps)
    ∙ (λ i. goes_on b (blocks-snoc list [] new.outer (sym here i) [] i) (sym scopes i) ps)

pub settle-last : (list : List Action) (t : Thread) → (is_some t.here.turn || nat_lt t.here.at (length (own_list list t))) ≡ false
    → t.outer ≡ [] → GoesToEnd list t
settle-last list t h none b ps =
    (λ i. goes_on b (empty-block (own_list list t) (tests_at list [] t.outer) t.here h i ∷ blocks_of list [] (none i) []) t.scopes ps)

-- a thread that has gone into list k of its last action
pub entered : (list : List Action) (out : List Frame) (f : Frame) (k : ℕ) (a : Action) → before (list_in list out) f.at ≡ Some a
    → (b : Branch) (scopes : Scopes) (ps : List Spot)
    → thread_next b list (out ++ (record { inside = k; at = f.at; turn = f.turn } ∷ [])) (record { inside = 0; at = 0; turn = None }) scopes ps
    ≡ exec (part_in (kind_of a) k) (λ s p. thread_next b list out f (outer s) p) scopes b ps
entered list out f k a is b scopes ps =
    let g : Frame = record { inside = k; at = f.at; turn = f.turn } in
    let list_is : list_in list (out ++ (g ∷ [])) ≡ part_in (kind_of a) k = list-snoc list out g ∙ rw is in
    (λ i. goes_on b (record { left = list_is i; round = None } ∷ blocks-snoc list [] out g [] i) scopes ps)

-- and into a turn of the loop that its last action is
pub entered-turn : (list : List Action) (out : List Frame) (f : Frame) (a : Action) (t : Turn) → before (list_in list out) f.at ≡ Some a
    → (b : Branch) (scopes : Scopes) (ps : List Spot)
    → thread_next b list (out ++ (record { inside = 0; at = f.at; turn = f.turn } ∷ [])) (record { inside = 0; at = 0; turn = Some t }) scopes ps
    ≡ goes_on b (record { left = part_in (kind_of a) 0; round = Some (round_of (part_in (kind_of a) 0) (tests_in (kind_of a)) t) } ∷ open_blocks list out f) scopes ps
entered-turn list out f a t is b scopes ps =
    let g : Frame = record { inside = 0; at = f.at; turn = f.turn } in
    let list_is : list_in list (out ++ (g ∷ [])) ≡ part_in (kind_of a) 0 = list-snoc list out g ∙ rw is in
    let tests_is : tests_at list [] (out ++ (g ∷ [])) ≡ tests_in (kind_of a) = tests-snoc list [] out g ∙ rw is in
    (λ i. goes_on b (record { left = list_is i; round = Some (round_of (list_is i) (tests_is i) t) } ∷ blocks-snoc list [] out g [] i) scopes ps)
