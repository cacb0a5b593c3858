-- A step in one branch leaves the other branches of its run at their gates: two places of different branches are allowed exactly where each is.
use Rattle.std.proofs.Common.{◌≡◌, ℕ, suc, ◌+◌, Bool, true, false, ◌&&◌, List, [], ◌∷◌, ◌++◌, length, map, refl, sym, ap, subst, ◌∙◌, arith, rules, append_assoc}
use Rattle.std.specs.Prelude.{Option, Some, None, is_some, slice_get, option_map, unwrap_or, nat_eq, nat_le, nat_lt, if◌then◌else◌}
use Rattle.std.specs.List.{list_all}
use Rattle.std.specs.Option.{option_map_or}
use Rattle.std.proofs.lemmas.Bool.{lt-ltb}
use Rattle.ha_config.specs.declared.config.Action.{Action}
use Rattle.ha_sight.specs.declared.item.Item.{Item}
use Rattle.ha_sight.specs.declared.waiting.WaitEnd.{WaitEnd}
use Rattle.ha_sight.specs.Sight.{Sight}
use Rattle.ha_sight.specs.Scripts.{Ask, Branch, Outcome, Spot, after_lists, all_allowed, each_on, front, gives, is_deeper, joined_lists, on_side, past_front, side, side_by_side, woven}
use Rattle.script_step.specs.declared.frames.Frames.{Frames}
use Rattle.script_step.specs.declared.strand.Strand.{Strand}
use Rattle.script_step.specs.declared.strand.Stage.{Stage}
use Rattle.script_step.specs.declared.strand.Stage.TheOpen.{Stage-F}
use Rattle.script_step.specs.declared.strand.Stage.TheViews.{out-Stage, out-Strand}
use Rattle.script_step.specs.declared.strand.Stage.TheFolds.{map-Stage}
use Rattle.script_step.specs.Continuation.{Began, Meaning, StageMeaning, continuation, has_next, last_action, lists_of, nth_list, open_blocks, placed, sides_from, stage_step, thread_next}
use Rattle.script_step.specs.Frames.{Steps, ask_of, continues}
use Rattle.script_step.specs.Gates.{Fronts, FrontsOf, Gate, StageFronts, fronts, fronts_of, gate_at, lets, stage_fronts}
use Rattle.script_step.specs.Step.{stage_meaning}
use Rattle.script_step.proofs.ExactLemmas.{after-some, blocks-on-nothing, prefixed-some}
use Rattle.script_step.proofs.GateLemmas.{front_stage, fronts-out, gate-allowed, gate-here, gate-side}
use Rattle.script_step.proofs.ParallelLemmas.{sides-length}
use Rattle.script_step.proofs.SettledLemmas.{sides-there}
use Rattle.script_step.proofs.StageLemmas.{stage-out, strand-out}
use Rattle.script_step.proofs.StepLemmas.{below, get-behind, within}
use Rattle.engine_parts.specs.Runs.{IsWait}

-- ---- tests

and-true : (b : Bool) → b ≡ (b && true)
and-true true = refl
and-true false = refl

both-sides : (p q u v : Bool) → ((p && q) && (u && v)) ≡ ((p && u) && (q && v))
both-sides true true u v = refl
both-sides true false true v = refl
both-sides true false false v = refl
both-sides false q u v = refl

allowed-all : (os : List (Option Outcome)) → is_some (all_allowed os) ≡ list_all is_some os
allowed-all [] = refl
allowed-all (None ∷ os) = refl
allowed-all (Some o ∷ os) = by (all_allowed os) ∙ allowed-all os
  where
    by : (r : Option (List Outcome)) → is_some (option_map (λ rest. o ∷ rest) r) ≡ is_some r
    by None = refl
    by (Some rest) = refl

same-some : (p q : Strand) → Some p ≡ Some q → p ≡ q
same-some p q h = cc

-- ---- the lists of a parallel block on two places

-- a list on two places is there exactly where it is on each
abbrev IsTwo : (List Spot → Option Outcome) → List Spot → List Spot → List Spot → Type 0
IsTwo l both one other = is_some (l both) ≡ (is_some (l one) && is_some (l other))

module _ (lists : List (List Action)) (b : Branch) (began : Began) (s s' : Spot) where
  abbrev on_list : ℕ → Strand → List Spot → Option Outcome
  on_list q y = continuation y (nth_list lists q) (b ++ (q ∷ [])) (λ c. began (q ∷ c))

  abbrev OnTwo : ℕ → Strand → Type 0
  OnTwo q y = IsTwo (on_list q y) (on_side b q (s ∷ s' ∷ [])) (on_side b q (s ∷ [])) (on_side b q (s' ∷ []))

  each-two : (xs : List Strand) (m : ℕ) → ((n : ℕ) (y : Strand) → slice_get xs n ≡ Some y → OnTwo (m + n) y)
      → list_all is_some (each_on b m (sides_from m (map continuation xs) lists b began) (s ∷ s' ∷ []))
      ≡ (list_all is_some (each_on b m (sides_from m (map continuation xs) lists b began) (s ∷ [])) && list_all is_some (each_on b m (sides_from m (map continuation xs) lists b began) (s' ∷ [])))
  each-two [] m one = refl
  each-two (x ∷ xs) m one =
      let head : OnTwo m x = (let at : m + 0 ≡ m = omega arith in subst (λ q. OnTwo q x) at (one 0 x refl)) in
      let tail = each-two xs (suc m) (λ n y e. (let at : m + suc n ≡ suc m + n = omega arith in subst (λ q. OnTwo q y) at (one (suc n) y e))) in
      (λ i. head i && tail i)
      ∙ both-sides (is_some (on_list m x (on_side b m (s ∷ [])))) (is_some (on_list m x (on_side b m (s' ∷ []))))
      (list_all is_some (each_on b (suc m) (sides_from (suc m) (map continuation xs) lists b began) (s ∷ [])))
      (list_all is_some (each_on b (suc m) (sides_from (suc m) (map continuation xs) lists b began) (s' ∷ [])))

  eq-of : (a c : ℕ) → nat_eq a c ≡ true → a ≡ c
  eq-of a c e = search (rules, e)

  -- where both places are of this list, by what is known of its strand
  on-two : (q : ℕ) (y : Strand) → (side b s ≡ q → side b s' ≡ q → IsTwo (on_list q y) (s ∷ s' ∷ []) (s ∷ []) (s' ∷ [])) → OnTwo q y
  on-two q y both = by (nat_eq (side b s) q) (nat_eq (side b s') q) refl refl
    where
      nothing : is_some (on_list q y []) ≡ true
      nothing = (sides-there (y ∷ []) q lists b began).0

      by : (t u : Bool) → nat_eq (side b s) q ≡ t → nat_eq (side b s') q ≡ u
          → IsTwo (on_list q y) (if t then s ∷ (if u then s' ∷ [] else []) else (if u then s' ∷ [] else [])) (if t then s ∷ [] else []) (if u then s' ∷ [] else [])
      by true true e f = both (eq-of (side b s) q e) (eq-of (side b s') q f)
      by true false e f = and-true (is_some (on_list q y (s ∷ []))) ∙ (λ i. is_some (on_list q y (s ∷ [])) && sym nothing i)
      by false true e f = (λ i. sym nothing i && is_some (on_list q y (s' ∷ [])))
      by false false e f = nothing ∙ (λ i. sym nothing i && sym nothing i)

-- ---- the block

module _ (xs : List Strand) (lists : List (List Action)) (b : Branch) (began : Began) (next : List Spot → Option Outcome) (some : is_some (next []) ≡ true) where
  abbrev conts : List (List Spot → Option Outcome)
  conts = sides_from 0 (map continuation xs) lists b began

  abbrev tested : Bool → List Spot → Option Outcome
  tested t ps = if t then joined_lists b next ps [] (all_allowed (each_on b 0 conts ps)) else None

  joined : (ps : List Spot) (r : Option (List Outcome)) → is_some (joined_lists b next ps [] r) ≡ is_some r
  joined ps None = refl
  joined ps (Some os) = prefixed-some (woven b ps (map (λ o. o.items) os)) (after_lists os next []) (after-some os next some)

  side-of : (s : Spot) (i : ℕ) (c : Branch) → s.branch ≡ b ++ (i ∷ c) → side b s ≡ i
  side-of s i c branch = (λ j. unwrap_or (slice_get (branch j) (length b)) 0) ∙ ap (λ o. unwrap_or o 0) (get-behind b c i)

  deep : (s : Spot) (i : ℕ) (c : Branch) → s.branch ≡ b ++ (i ∷ c) → is_deeper b s.branch ≡ true
  deep s i c branch = (λ j. is_deeper b (branch j)) ∙ below b c i

  fits : (s : Spot) (i : ℕ) (c : Branch) (y : Strand) → s.branch ≡ b ++ (i ∷ c) → slice_get xs i ≡ Some y → nat_lt (side b s) (length conts) ≡ true
  fits s i c y branch get = (λ j. nat_lt (side-of s i c branch j) (length conts)) ∙ lt-ltb i (length conts) (omega (arith, within xs i y get, sides-length xs 0 lists b began))

  one-place : (s : Spot) (i : ℕ) (c : Branch) (y : Strand) → s.branch ≡ b ++ (i ∷ c) → slice_get xs i ≡ Some y → is_some (side_by_side b conts next (s ∷ [])) ≡ list_all is_some (each_on b 0 conts (s ∷ []))
  one-place s i c y branch get =
      let on = deep s i c branch in
      let f : front b (s ∷ []) ≡ s ∷ [] = rw on refl in
      let p : past_front b (s ∷ []) ≡ [] = rw on refl in
      let ok = fits s i c y branch get in
      ap is_some
      ((λ j. if list_all (λ q. nat_lt (side b q) (length conts)) (f j) then joined_lists b next (f j) (p j) (all_allowed (each_on b 0 conts (f j))) else None)
      ∙ (λ j. tested (ok j && true) (s ∷ [])))
      ∙ joined (s ∷ []) (all_allowed (each_on b 0 conts (s ∷ []))) ∙ allowed-all (each_on b 0 conts (s ∷ []))

  two-places : (s s' : Spot) (i k : ℕ) (c d : Branch) (y z : Strand) → s.branch ≡ b ++ (i ∷ c) → s'.branch ≡ b ++ (k ∷ d) → slice_get xs i ≡ Some y → slice_get xs k ≡ Some z
      → is_some (side_by_side b conts next (s ∷ s' ∷ [])) ≡ list_all is_some (each_on b 0 conts (s ∷ s' ∷ []))
  two-places s s' i k c d y z branch branch' get get' =
      let on = deep s i c branch in
      let on' = deep s' k d branch' in
      let f : front b (s ∷ s' ∷ []) ≡ s ∷ s' ∷ [] = (λ j. if on j then s ∷ (if on' j then s' ∷ [] else []) else []) in
      let p : past_front b (s ∷ s' ∷ []) ≡ [] = (λ j. if on j then (if on' j then [] else s' ∷ []) else s ∷ s' ∷ []) in
      let ok = fits s i c y branch get in
      let ok' = fits s' k d z branch' get' in
      ap is_some
      ((λ j. if list_all (λ q. nat_lt (side b q) (length conts)) (f j) then joined_lists b next (f j) (p j) (all_allowed (each_on b 0 conts (f j))) else None)
      ∙ (λ j. tested (ok j && (ok' j && true)) (s ∷ s' ∷ [])))
      ∙ joined (s ∷ s' ∷ []) (all_allowed (each_on b 0 conts (s ∷ s' ∷ []))) ∙ allowed-all (each_on b 0 conts (s ∷ s' ∷ []))

  -- LAW: a block on two places
  block-two : (s s' : Spot) (i k : ℕ) (c d : Branch) (y z : Strand) → s.branch ≡ b ++ (i ∷ c) → s'.branch ≡ b ++ (k ∷ d) → slice_get xs i ≡ Some y → slice_get xs k ≡ Some z
      → (i ≡ k → IsTwo (on_list lists b began s s' i y) (s ∷ s' ∷ []) (s ∷ []) (s' ∷ [])) → IsTwo (side_by_side b conts next) (s ∷ s' ∷ []) (s ∷ []) (s' ∷ [])
  block-two s s' i k c d y z branch branch' get get' own =
      two-places s s' i k c d y z branch branch' get get'
      ∙ each-two lists b began s s' xs 0 (λ n x e. (let at : n ≡ 0 + n = omega arith in subst (λ q. OnTwo lists b began s s' q x) at (on-two lists b began s s' n x (one n x e))))
      ∙ (λ j. sym (one-place s i c y branch get) j && sym (one-place s' k d z branch' get') j)
    where
      one : (n : ℕ) (x : Strand) → slice_get xs n ≡ Some x → side b s ≡ n → side b s' ≡ n → IsTwo (on_list lists b began s s' n x) (s ∷ s' ∷ []) (s ∷ []) (s' ∷ [])
      one n x e at at' =
          let first : i ≡ n = sym (side-of s i c branch) ∙ at in
          let second : k ≡ n = sym (side-of s' k d branch') ∙ at' in
          let strand : y ≡ x = same-some y x (sym get ∙ ap (slice_get xs) first ∙ e) in
          subst (λ (v : Strand). IsTwo (on_list lists b began s s' n v) (s ∷ s' ∷ []) (s ∷ []) (s' ∷ [])) strand
          (subst (λ q. IsTwo (on_list lists b began s s' q y) (s ∷ s' ∷ []) (s ∷ []) (s' ∷ [])) first (own (first ∙ sym second)))

-- ---- strands

-- what two branches with gates of their own allow
IsApart : Branch → Type 0
IsApart c =
    (d : Branch) (x : Strand) (list : List Action) (b : Branch) (began : Began) (s s' : Spot) → is_some (gate_at c (fronts x list began)) ≡ true → is_some (gate_at d (fronts x list began)) ≡ true → (c ≡ d → ⊥)
    → s.branch ≡ b ++ c → s'.branch ≡ b ++ d → IsTwo (continuation x list b began) (s ∷ s' ∷ []) (s ∷ []) (s' ∷ [])

module _ (x : Strand) (list : List Action) (b : Branch) (began : Began) (s s' : Spot) (c d : Branch) where
  abbrev means_at : Stage-F Stage Strand → List Spot → Option Outcome
  means_at k ps = (let t = (out-Strand x).thread in stage_step (map-Stage Stage Strand StageMeaning Meaning stage_meaning continuation k) (last_action list t) (thread_next b list t.outer t.here) t.scopes b began ps)

  abbrev fronts_at : Stage-F Stage Strand → Fronts
  fronts_at k = stage_fronts (map-Stage Stage Strand StageFronts FrontsOf front_stage fronts k) list (out-Strand x).thread began

  abbrev AtStage : Stage-F Stage Strand → Type 0
  AtStage k = is_some (gate_at c (fronts_at k)) ≡ true → is_some (gate_at d (fronts_at k)) ≡ true → IsTwo (means_at k) (s ∷ s' ∷ []) (s ∷ []) (s' ∷ [])

  by-stage : AtStage (out-Stage (out-Strand x).stage) → is_some (gate_at c (fronts x list began)) ≡ true → is_some (gate_at d (fronts x list began)) ≡ true
      → IsTwo (continuation x list b began) (s ∷ s' ∷ []) (s ∷ []) (s' ∷ [])
  by-stage at one other =
      let t = (out-Strand x).thread in
      let opened = λ (ps : List Spot). strand-out x list b began ps ∙ stage-out (last_action list t) (thread_next b list t.outer t.here) t.scopes b began ps (out-Strand x).stage in
      let there = fronts-out x list began in
      ap is_some (opened (s ∷ s' ∷ []))
      ∙ at (ap (λ f. is_some (gate_at c f)) (sym there) ∙ one) (ap (λ f. is_some (gate_at d f)) (sym there) ∙ other)
      ∙ (λ j. is_some (sym (opened (s ∷ [])) j) && is_some (sym (opened (s' ∷ [])) j))

false-true : false ≡ true → ⊥
false-true h = cc

-- in list n of a block this branch has a gate
abbrev GatedIn : List (List Action) → Began → ℕ → Branch → Option Strand → Type 0
GatedIn lists began n e o = is_some (option_map_or (λ y. gate_at e (fronts y (nth_list lists n) (λ a. began (n ∷ a)))) o None) ≡ true

-- a stage that has its own branch alone has no gate below
ready-below : (t : Bool) (i : ℕ) (c : Branch) → is_some (gate_at (i ∷ c) (if t then ([], Gate.Free) ∷ [] else [])) ≡ true → ⊥
ready-below true i c h = false-true h
ready-below false i c h = false-true h

apart-here : (d : Branch) (x : Strand) (list : List Action) (b : Branch) (began : Began) (s s' : Spot) → ([] ≡ d → ⊥) → (k : Stage-F Stage Strand) → AtStage x list b began s s' [] d k
apart-here [] x list b began s s' apart k one other = absurd (apart refl)
apart-here (i ∷ d) x list b began s s' apart Stage-F.Ready one other = absurd (ready-below (has_next list (out-Strand x).thread) i d other)
apart-here (i ∷ d) x list b began s s' apart (Stage-F.Delay due) one other = absurd (false-true other)
apart-here (i ∷ d) x list b began s s' apart (Stage-F.Wait timeout) one other = absurd (false-true other)
apart-here (i ∷ d) x list b began s s' apart (Stage-F.Ended e) one other = absurd (false-true other)
apart-here (i ∷ d) x list b began s s' apart (Stage-F.Sides xs) one other = absurd (false-true (ap is_some (sym (gate-here xs 0 (lists_of (last_action list (out-Strand x).thread)) began)) ∙ one))

apart-below : (i : ℕ) (c : Branch) → IsApart c → (d : Branch) (x : Strand) (list : List Action) (b : Branch) (began : Began) (s s' : Spot) → ((i ∷ c) ≡ d → ⊥) → s.branch ≡ b ++ (i ∷ c) → s'.branch ≡ b ++ d
    → (k : Stage-F Stage Strand) → AtStage x list b began s s' (i ∷ c) d k
unfolding IsApart
apart-below i c ih d x list b began s s' apart branch branch' Stage-F.Ready one other = absurd (ready-below (has_next list (out-Strand x).thread) i c one)
apart-below i c ih d x list b began s s' apart branch branch' (Stage-F.Delay due) one other = absurd (false-true one)
apart-below i c ih d x list b began s s' apart branch branch' (Stage-F.Wait timeout) one other = absurd (false-true one)
apart-below i c ih d x list b began s s' apart branch branch' (Stage-F.Ended e) one other = absurd (false-true one)
apart-below i c ih [] x list b began s s' apart branch branch' (Stage-F.Sides xs) one other = absurd (false-true (ap is_some (sym (gate-here xs 0 (lists_of (last_action list (out-Strand x).thread)) began)) ∙ other))
apart-below i c ih (k ∷ d) x list b began s s' apart branch branch' (Stage-F.Sides xs) one other =
    by (slice_get xs i) (slice_get xs k) refl refl (ap is_some (sym (gate-side xs i c lists began)) ∙ one) (ap is_some (sym (gate-side xs k d lists began)) ∙ other)
  where
    lists : List (List Action)
    lists = lists_of (last_action list (out-Strand x).thread)

    next : List Spot → Option Outcome
    next = thread_next b list (out-Strand x).thread.outer (out-Strand x).thread.here (out-Strand x).thread.scopes

    by : (o p : Option Strand) → slice_get xs i ≡ o → slice_get xs k ≡ p → GatedIn lists began i c o → GatedIn lists began k d p
        → IsTwo (side_by_side b (sides_from 0 (map continuation xs) lists b began) next) (s ∷ s' ∷ []) (s ∷ []) (s' ∷ [])
    by None p e f g h = absurd (false-true g)
    by (Some y) None e f g h = absurd (false-true h)
    by (Some y) (Some z) e f g h =
        block-two xs lists b began next (blocks-on-nothing b (open_blocks list (out-Strand x).thread.outer (out-Strand x).thread.here) (out-Strand x).thread.scopes) s s' i k c d y z branch branch' e f
        (λ same.
        (let strand : z ≡ y = same-some z y (sym f ∙ ap (slice_get xs) (sym same) ∙ e) in
        ih d y (nth_list lists i) (b ++ (i ∷ [])) (λ a. began (i ∷ a)) s s' g
        (subst (λ (v : Strand). is_some (gate_at d (fronts v (nth_list lists i) (λ a. began (i ∷ a)))) ≡ true) strand
        (subst (λ n. is_some (gate_at d (fronts z (nth_list lists n) (λ a. began (n ∷ a)))) ≡ true) (sym same) h))
        (λ q. apart (λ j. same j ∷ q j))
        (branch ∙ sym (append_assoc b (i ∷ []) c))
        (branch' ∙ ap (λ n. b ++ (n ∷ d)) (sym same) ∙ sym (append_assoc b (i ∷ []) d))))

apart-strands : (c : Branch) → IsApart c
unfolding IsApart
apart-strands [] d x list b began s s' one other apart branch branch' = by-stage x list b began s s' [] d (apart-here d x list b began s s' apart (out-Stage (out-Strand x).stage)) one other
apart-strands (i ∷ c) d x list b began s s' one other apart branch branch' =
    by-stage x list b began s s' (i ∷ c) d (apart-below i c (apart-strands c) d x list b began s s' apart branch branch' (out-Stage (out-Strand x).stage)) one other

-- LAW: two places of different branches, each with a gate of its own, are allowed exactly where each is
pub two-allowed : (f : Frames) (began : Began) (s s' : Spot) → is_some (gate_at s.branch (fronts_of f began)) ≡ true → is_some (gate_at s'.branch (fronts_of f began)) ≡ true → (s.branch ≡ s'.branch → ⊥)
    → is_some (continues f began (s ∷ s' ∷ [])) ≡ (is_some (continues f began (s ∷ [])) && is_some (continues f began (s' ∷ [])))
unfolding IsApart
two-allowed f began s s' one other apart = apart-strands s.branch s'.branch f.root f.script.value [] began s s' one other apart refl refl

-- ---- behind a step

gives-same : (item : Item) (o : Option Outcome) → is_some (gives item o) ≡ is_some o
gives-same item None = refl
gives-same item (Some o) = refl

module _ (old new : Frames) (began : Began) (s : Spot) (item : Item) (end : Option WaitEnd) (sight : Sight) (steps : Steps sight s.branch end old item new) (sees : s.sight ≡ sight)
    (tells : (ask : Ask) → ask_of old s.branch ≡ Some ask → s.wait_end ask (began s.branch) ≡ end) (open' : lets (gate_at s.branch (fronts_of old began)) s ≡ true) where
  gated : (o : Option Gate) → lets o s ≡ true → is_some o ≡ true
  gated None h = absurd (false-true h)
  gated (Some g) h = refl

  -- at each place of another branch its gate opens where it did
  opens-alike : (s' : Spot) → is_some (gate_at s'.branch (fronts_of old began)) ≡ true → (s.branch ≡ s'.branch → ⊥)
      → lets (gate_at s'.branch (fronts_of new (placed s.branch s.place began))) s' ≡ lets (gate_at s'.branch (fronts_of old began)) s'
  opens-alike s' there apart =
      sym (gate-allowed new (placed s.branch s.place began) s')
      ∙ sym (gives-same item (continues new (placed s.branch s.place began) (s' ∷ [])))
      ∙ ap is_some (sym (steps.goes began s (s' ∷ []) sees refl tells))
      ∙ two-allowed old began s s' (gated (gate_at s.branch (fronts_of old began)) open') there apart
      ∙ (λ i. gate-allowed old began s i && gate-allowed old began s' i)
      ∙ (λ i. open' i && lets (gate_at s'.branch (fronts_of old began)) s')

  abbrev spot : Branch → ℕ → Option WaitEnd → Spot
  spot c now e = record { place = s.place; branch = c; sight = record s.sight { now = now }; wait_end = λ ask p. e }

  some_end : WaitEnd
  some_end = record { place = 0; done = false; remaining = None; trigger = None }

  at-due : (n : ℕ) → nat_le n n ≡ true
  at-due n = search rules

  -- LAW: another branch that is behind a wait is so behind the step
  pub others-wait : (c : Branch) → (s.branch ≡ c → ⊥) → IsWait (gate_at c (fronts_of old began)) → IsWait (gate_at c (fronts_of new (placed s.branch s.place began)))
  others-wait c apart waits =
      by (gate_at c (fronts_of old began)) (gate_at c (fronts_of new (placed s.branch s.place began))) refl waits (λ now e there. opens-alike (spot c now e) there apart)
    where
      by : (o n : Option Gate) → gate_at c (fronts_of old began) ≡ o → IsWait o → ((now : ℕ) (e : Option WaitEnd) → is_some (gate_at c (fronts_of old began)) ≡ true → lets n (spot c now e) ≡ lets (gate_at c (fronts_of old began)) (spot c now e)) → IsWait n
      by None n q h alike = absurd h
      by (Some Gate.Free) n q h alike = absurd h
      by (Some (Gate.From due)) n q h alike = absurd h
      by (Some (Gate.Behind ask p)) None q h alike = absurd (false-true (alike 0 (Some some_end) (ap is_some q) ∙ ap (λ g. lets g (spot c 0 (Some some_end))) q))
      by (Some (Gate.Behind ask p)) (Some Gate.Free) q h alike = absurd (false-true (sym (alike 0 None (ap is_some q) ∙ ap (λ g. lets g (spot c 0 None)) q)))
      by (Some (Gate.Behind ask p)) (Some (Gate.From due)) q h alike = absurd (false-true (sym (sym (at-due due) ∙ alike due None (ap is_some q) ∙ ap (λ g. lets g (spot c due None)) q)))
      by (Some (Gate.Behind ask p)) (Some (Gate.Behind a r)) q h alike = tt
