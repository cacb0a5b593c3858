-- What a step leaves of the gates: those of other branches stay, but for those that come free.
use Rattle.std.proofs.Common.{◌≡◌, ℕ, zero, suc, ◌⊎◌, inl, inr, Bool, ◌&&◌, true, false, List, [], ◌∷◌, map, set, refl, sym, ap, subst, ◌∙◌, rules, eqb-true}
use Rattle.std.specs.Prelude.{Option, Some, None, slice_get, bytes_eq, nat_eq, if◌then◌else◌}
use Rattle.std.specs.List.{list_all}
use Rattle.std.specs.Option.{option_map_or}
use Rattle.ha_config.specs.declared.config.Action.{Action}
use Rattle.ha_sight.specs.Scripts.{Branch, Scopes, flat}
use Rattle.script_step.specs.declared.thread.Thread.{Thread}
use Rattle.script_step.specs.declared.strand.End.{End}
use Rattle.script_step.specs.declared.strand.Strand.{Strand}
use Rattle.script_step.specs.declared.strand.Stage.{Stage}
use Rattle.script_step.specs.declared.strand.Stage.TheOpen.{Stage-F}
use Rattle.script_step.specs.declared.strand.Stage.TheViews.{out-Stage, out-Strand}
use Rattle.script_step.specs.declared.strand.Stage.TheVariants.{Sides, outs-Ready, outs-Sides, outs-Ended}
use Rattle.script_step.specs.declared.strand.Stage.TheFolds.{fold_out-Stage, fold_out-Strand, map-Stage}
use Rattle.script_step.specs.Continuation.{Began, ask_in, has_next, last_action, lists_of, nth_list, placed}
use Rattle.script_step.specs.Gates.{Gate, Fronts, FrontsOf, StageFronts, gate_at, fronts_from, fronts, fronts_on, stage_fronts}
use Rattle.script_step.specs.Sides.{begun_in, fresh_in, is_begun, is_fresh, is_plain, plain_in, side_of}
use Rattle.script_step.specs.Told.{Tells}
use Rattle.script_step.proofs.SettledLemmas.{both}
use Rattle.script_step.proofs.GateLemmas.{front_stage, fronts-out, gate-here, gate-side}
use Rattle.script_step.proofs.ToldLemmas.{gate-elsewhere, none-some, same-gate}

-- ---- the fronts of a thread in a stage

pub fronts-stage : (k : Stage) (list : List Action) (t : Thread) (began : Began)
    → fronts_on k list t began ≡ stage_fronts (map-Stage Stage Strand StageFronts FrontsOf front_stage fronts (out-Stage k)) list t began
fronts-stage k list t began = ap (λ f. f list t began) (fold_out-Stage StageFronts FrontsOf stage_fronts (λ y l. y.stage l y.thread) k)

pub fronts-strand : (x : Strand) (list : List Action) (began : Began) → fronts x list began ≡ fronts_on (out-Strand x).stage list (out-Strand x).thread began
fronts-strand x list began = ap (λ f. f list began) (fold_out-Strand StageFronts FrontsOf stage_fronts (λ y l. y.stage l y.thread) x)

one-front : (c : Branch) (g h : Gate) → gate_at c (([], h) ∷ []) ≡ Some g → (c ≡ []) × (h ≡ g)
one-front [] g h e = (refl, same-gate h g e)
one-front (i ∷ c) g h e = absurd (none-some g e)

free-front : (b : Bool) (c : Branch) (g : Gate) → gate_at c (if b then ([], Gate.Free) ∷ [] else []) ≡ Some g → g ≡ Gate.Free
free-front true c g e = sym (one-front c g Gate.Free e).1
free-front false c g e = absurd (none-some g e)

pub ready-free : (list : List Action) (t : Thread) (began : Began) (c : Branch) (g : Gate) → gate_at c (fronts_on Stage.Ready list t began) ≡ Some g → g ≡ Gate.Free
ready-free list t began c g e =
    free-front (has_next list t) c g
    (sym (ap (gate_at c) (fronts-stage Stage.Ready list t began ∙ ap (λ k. stage_fronts (map-Stage Stage Strand StageFronts FrontsOf front_stage fronts k) list t began) outs-Ready)) ∙ e)

pub ended-none : (end : End) (list : List Action) (t : Thread) (began : Began) (c : Branch) (g : Gate) → gate_at c (fronts_on (Stage.Ended end) list t began) ≡ Some g → ⊥
ended-none end list t began c g e =
    none-some g
    (sym (ap (gate_at c) (fronts-stage (Stage.Ended end) list t began ∙ ap (λ k. stage_fronts (map-Stage Stage Strand StageFronts FrontsOf front_stage fronts k) list t began) (outs-Ended end))) ∙ e)

-- ---- what has just begun

begun-free : (y : Strand) (list : List Action) (began : Began) (c : Branch) (g : Gate) → is_begun y ≡ true → gate_at c (fronts y list began) ≡ Some g → g ≡ Gate.Free
begun-free y list began c g begun e = by (out-Stage (out-Strand y).stage) begun (sym (ap (gate_at c) (fronts-out y list began)) ∙ e)
  where
    by : (k : Stage-F Stage Strand) → begun_in k ≡ true
        → gate_at c (stage_fronts (map-Stage Stage Strand StageFronts FrontsOf front_stage fronts k) list (out-Strand y).thread began) ≡ Some g → g ≡ Gate.Free
    by Stage-F.Ready h f = free-front (has_next list (out-Strand y).thread) c g f
    by (Stage-F.Delay due) h f = absurd (cc)
    by (Stage-F.Wait timeout) h f = absurd (cc)
    by (Stage-F.Sides xs) h f = absurd (cc)
    by (Stage-F.Ended end) h f = absurd (none-some g f)

all-begun : (xs : List Strand) (i : ℕ) (y : Strand) → list_all is_begun xs ≡ true → slice_get xs i ≡ Some y → is_begun y ≡ true
all-begun [] zero y h e = absurd (cc)
all-begun [] (suc i) y h e = absurd (cc)
all-begun (x ∷ xs) zero y h e = (let z : x ≡ y = cc in ap is_begun (sym z) ∙ (both (is_begun x) (list_all is_begun xs) h).0)
all-begun (x ∷ xs) (suc i) y h e = all-begun xs i y (both (is_begun x) (list_all is_begun xs) h).1 e

-- where a stage is fresh, a shut gate is of its own branch
pub fresh-told : (k : Stage) (list : List Action) (t : Thread) (began : Began) (c : Branch) (g : Gate) → is_fresh k ≡ true → gate_at c (fronts_on k list t began) ≡ Some g
    → (g ≡ Gate.Free) ⊎ (c ≡ [])
fresh-told k list t began c g fresh e = by (out-Stage k) fresh c (sym (ap (gate_at c) (fronts-stage k list t began)) ∙ e)
  where
    side : (xs : List Strand) (i : ℕ) (d : Branch) → list_all is_begun xs ≡ true → (o : Option Strand) → slice_get xs i ≡ o
        → option_map_or (λ y. gate_at d (fronts y (nth_list (lists_of (last_action list t)) i) (λ a. began (i ∷ a)))) o None ≡ Some g → g ≡ Gate.Free
    side xs i d h None q f = absurd (none-some g f)
    side xs i d h (Some y) q f = begun-free y (nth_list (lists_of (last_action list t)) i) (λ a. began (i ∷ a)) d g (all-begun xs i y h q) f

    by : (x : Stage-F Stage Strand) → fresh_in x ≡ true → (c : Branch)
        → gate_at c (stage_fronts (map-Stage Stage Strand StageFronts FrontsOf front_stage fronts x) list t began) ≡ Some g → (g ≡ Gate.Free) ⊎ (c ≡ [])
    by Stage-F.Ready h c f = inl (free-front (has_next list t) c g f)
    by (Stage-F.Delay due) h c f = inr (one-front c g (Gate.From due) f).0
    by (Stage-F.Wait timeout) h c f = inr (one-front c g (Gate.Behind (ask_in (last_action list t) timeout (flat t.scopes)) (began [])) f).0
    by (Stage-F.Sides xs) h [] f = absurd (none-some g (sym (gate-here xs 0 (lists_of (last_action list t)) began) ∙ f))
    by (Stage-F.Sides xs) h (i ∷ d) f = inl (side xs i d h (slice_get xs i) refl (sym (gate-side xs i d (lists_of (last_action list t)) began) ∙ f))
    by (Stage-F.Ended end) h c f = absurd (none-some g f)

-- what is no parallel block is fresh
pub plain-fresh : (k : Stage) → is_plain k ≡ true → is_fresh k ≡ true
plain-fresh k plain = by (out-Stage k) plain
  where
    by : (x : Stage-F Stage Strand) → plain_in x ≡ true → fresh_in x ≡ true
    by Stage-F.Ready h = refl
    by (Stage-F.Delay due) h = refl
    by (Stage-F.Wait timeout) h = refl
    by (Stage-F.Sides xs) h = absurd (cc)
    by (Stage-F.Ended end) h = refl

side-begun : (scopes : Scopes) (l : List Action) → is_begun (side_of scopes l) ≡ true
side-begun scopes [] = ap begun_in (outs-Ended End.Done)
side-begun scopes (a ∷ rest) = ap begun_in outs-Ready

sides-begun : (scopes : Scopes) (lists : List (List Action)) → list_all is_begun (map (side_of scopes) lists) ≡ true
sides-begun scopes [] = refl
sides-begun scopes (l ∷ lists) = (λ k. side-begun scopes l k && sides-begun scopes lists k)

-- lists that begin are fresh
pub sides-fresh : (scopes : Scopes) (lists : List (List Action)) → is_fresh (Sides (map (side_of scopes) lists)) ≡ true
sides-fresh scopes lists = ap fresh_in (outs-Sides (map (side_of scopes) lists)) ∙ sides-begun scopes lists

-- the fronts of a parallel block
pub fronts-sides : (xs : List Strand) (list : List Action) (t : Thread) (began : Began) → fronts_on (Sides xs) list t began ≡ fronts_from 0 (map fronts xs) (lists_of (last_action list t)) began
fronts-sides xs list t began =
    fronts-stage (Sides xs) list t began ∙ ap (λ k. stage_fronts (map-Stage Stage Strand StageFronts FrontsOf front_stage fronts k) list t began) (outs-Sides xs)

pub fronts-of-sides : (x : Strand) (list : List Action) (xs : List Strand) (began : Began) → x.stage ≡ Sides xs
    → fronts x list began ≡ fronts_from 0 (map fronts xs) (lists_of (last_action list x.thread)) began
fronts-of-sides x list xs began e = fronts-strand x list began ∙ (λ k. fronts_on (e k) list x.thread began) ∙ fronts-sides xs list x.thread began

-- ---- a step in a branch of its own, and one in a list of a parallel block

pub own-told : (path c : Branch) (g : Gate) (old : Fronts) (k : Stage) (list : List Action) (t : Thread) (began : Began) → path ≡ [] → is_fresh k ≡ true
    → (g ≡ Gate.Free) ⊎ (gate_at c (fronts_on k list t began) ≡ Some g) → Tells path old c g
own-told path c g old k list t began here fresh (inl free) = inl free
own-told path c g old k list t began here fresh (inr e) = by (fresh-told k list t began c g fresh e)
  where
    by : (g ≡ Gate.Free) ⊎ (c ≡ []) → Tells path old c g
    by (inl free) = inl free
    by (inr own) = inr (inl (own ∙ sym here))

pub ready-told : (path c : Branch) (g : Gate) (old : Fronts) (list : List Action) (t : Thread) (began : Began)
    → (g ≡ Gate.Free) ⊎ (gate_at c (fronts_on Stage.Ready list t began) ≡ Some g) → Tells path old c g
ready-told path c g old list t began (inl free) = inl free
ready-told path c g old list t began (inr e) = inl (ready-free list t began c g e)

-- the block gives way, or stays
pub block-told : (path c : Branch) (g : Gate) (old new : Fronts) → (gate_at c new ≡ Some g → Tells path old c g) → (g ≡ Gate.Free) ⊎ (gate_at c new ≡ Some g) → Tells path old c g
block-told path c g old new told (inl free) = inl free
block-told path c g old new told (inr e) = told e

own-number : (i : ℕ) → nat_eq i i ≡ true
own-number i = search rules

get-put : (xs : List Strand) (i : ℕ) (x y : Strand) → slice_get xs i ≡ Some x → slice_get (set xs i y) i ≡ Some y
get-put [] zero x y e = absurd (cc)
get-put [] (suc i) x y e = absurd (cc)
get-put (z ∷ zs) zero x y e = refl
get-put (z ∷ zs) (suc i) x y e = get-put zs i x y e

decide : (j i : ℕ) → (j ≡ i) ⊎ (j ≡ i → ⊥)
decide j i = by (nat_eq j i) refl
  where
    by : (b : Bool) → nat_eq j i ≡ b → (j ≡ i) ⊎ (j ≡ i → ⊥)
    by true e = inl (eqb-true j i e)
    by false e = inr (λ h. absurd (let z : nat_eq j i ≡ true = ap (λ n. nat_eq n i) h ∙ own-number i in cc))

module _ (lists : List (List Action)) (i n : ℕ) (path : Branch) (xs : List Strand) (x y : Strand) (get : slice_get xs i ≡ Some x) (began : Began)
    (told : (c : Branch) (g : Gate) → gate_at c (fronts y (nth_list lists i) (placed path n (λ d. began (i ∷ d)))) ≡ Some g → Tells path (fronts x (nth_list lists i) (λ d. began (i ∷ d))) c g) where
  abbrev old_fronts : Fronts
  old_fronts = fronts_from 0 (map fronts xs) lists began

  inner : (c : Branch) (g : Gate) → Tells path (fronts x (nth_list lists i) (λ d. began (i ∷ d))) c g → Tells (i ∷ path) old_fronts (i ∷ c) g
  inner c g (inl free) = inl free
  inner c g (inr (inl own)) = inr (inl (ap (λ d. i ∷ d) own))
  inner c g (inr (inr e)) =
      inr (inr (gate-side xs i c lists began ∙ ap (λ o. option_map_or (λ z. gate_at c (fronts z (nth_list lists i) (λ d. began (i ∷ d)))) o None) get ∙ e))

  pub side-told : (c : Branch) (g : Gate) → gate_at c (fronts_from 0 (map fronts (set xs i y)) lists (placed (i ∷ path) n began)) ≡ Some g → Tells (i ∷ path) old_fronts c g
  side-told [] g e = absurd (none-some g (sym (gate-here (set xs i y) 0 lists (placed (i ∷ path) n began)) ∙ e))
  side-told (j ∷ c) g e = by (decide j i)
    where
      by : (j ≡ i) ⊎ (j ≡ i → ⊥) → Tells (i ∷ path) old_fronts (j ∷ c) g
      by (inr off) = inr (inr (sym (gate-elsewhere xs i j n path c y lists began off) ∙ e))
      by (inl is) =
          subst (λ (m : ℕ). Tells (i ∷ path) old_fronts (m ∷ c) g) (sym is)
          (inner c g
          (told c g
          ((λ k. gate_at c (fronts y (nth_list lists i) (λ d. if sym (own-number i) k && bytes_eq d path then n else began (i ∷ d))))
          ∙ sym (ap (λ o. option_map_or (λ z. gate_at c (fronts z (nth_list lists i) (λ d. placed (i ∷ path) n began (i ∷ d)))) o None) (get-put xs i x y get))
          ∙ sym (gate-side (set xs i y) i c lists (placed (i ∷ path) n began))
          ∙ (λ k. gate_at (sym is k ∷ c) (fronts_from 0 (map fronts (set xs i y)) lists (placed (i ∷ path) n began)))
          ∙ e)))
