-- The fronts of a run ascend, are branches of its script, and with open gates they are those at which one more place is allowed.
use Rattle.std.proofs.Common.{◌≡◌, ℕ, zero, suc, ◌<◌, ◌≤◌, ◌⊎◌, inl, inr, Bool, true, false, List, [], ◌∷◌, ◌++◌, length, map, refl, sym, ap, subst, ◌∙◌, arith, eqb-true}
use Rattle.std.specs.Prelude.{Option, Some, None, not, ◌&&◌, is_some, nat_eq, slice_get, option_map, bytes_eq, find, filter, if◌then◌else◌}
use Rattle.std.specs.Option.{option_map_or}
use Rattle.ha_config.specs.declared.config.Action.{Action}
use Rattle.ha_sight.specs.declared.item.Item.{Item}
use Rattle.ha_config.specs.Words.{Pairs, comes_before}
use Rattle.ha_sight.specs.Scripts.{Branch, Spot, whole}
use Rattle.ha_sight.specs.Branches.{branches_of}
use Rattle.ha_config.proofs.EqualLemmas.{same-refl}
use Rattle.script_step.specs.declared.thread.Thread.{Thread}
use Rattle.script_step.specs.declared.strand.Strand.{Strand}
use Rattle.script_step.specs.declared.strand.Stage.{Stage}
use Rattle.script_step.specs.declared.strand.Stage.TheOpen.{Stage-F, Strand-F}
use Rattle.script_step.specs.declared.strand.Stage.TheViews.{out-Stage, out-Strand, roll-Stage, roll-Strand}
use Rattle.script_step.specs.declared.strand.Stage.TheFolds.{ind-Strand, fold-roll-Stage, fold-roll-Strand, map-Stage, map-Strand}
use Rattle.script_step.specs.declared.frames.Frames.{Frames}
use Rattle.script_step.specs.Continuation.{Began, has_next, last_action, lists_of, nth_list}
use Rattle.script_step.specs.Gates.{Gate, Fronts, FrontsOf, StageFronts, fronts, fronts_from, fronts_of, gate_at, in_side, lets, open_branches, opens, stage_fronts}
use Rattle.script_step.specs.Frames.{began_by, begins, Stands}
use Rattle.script_step.specs.Sides.{all_settled, each_over, standing, Standings, stage_standing}
use Rattle.script_step.proofs.SettledLemmas.{StageStanding, both, stage_stands, standing-out}
use Rattle.script_step.proofs.WholeLemmas.{settled-get}
use Rattle.script_step.proofs.GateLemmas.{front_stage, fronts-out, gate-side, gate-stands}
use Rattle.script_step.proofs.ToldLemmas.{none-some}
use Rattle.script_step.proofs.OrderLemmas.{Ascends, In, after-in, below-ascends, filter-ascends, filter-in, in-after, in-filter, irrefl, less-first, same-members}
use Rattle.script_step.proofs.BranchLemmas.{branches-ascend, last-in}

abbrev pub names : Fronts → List Branch
names fs = map (λ x. x.0) fs

-- ---- the fronts ascend

split : (c : Branch) (xs ys : List Branch) → In c (xs ++ ys) → In c xs ⊎ In c ys
split c [] ys m = inr m
split c (z ∷ zs) ys (inl e) = inl (inl e)
split c (z ∷ zs) ys (inr m) = down (split c zs ys m)
  where
    down : In c zs ⊎ In c ys → In c (z ∷ zs) ⊎ In c ys
    down (inl p) = inl (inr p)
    down (inr p) = inr p

ascends-append : (xs ys : List Branch) → Ascends xs → Ascends ys → ((b c : Branch) → In b xs → In c ys → comes_before b c ≡ true) → Ascends (xs ++ ys)
ascends-append [] ys h k f = k
ascends-append (x ∷ xs) ys h k f = (in-after x (xs ++ ys) (λ c m. by c (split c xs ys m)), ascends-append xs ys h.1 k (λ b c p q. f b c (inr p) q))
  where
    by : (c : Branch) → In c xs ⊎ In c ys → comes_before x c ≡ true
    by c (inl p) = after-in x c xs h.0 p
    by c (inr p) = f x c (inl refl) p

names-append : (fs gs : Fronts) → names (fs ++ gs) ≡ names fs ++ names gs
names-append [] gs = refl
names-append (f ∷ fs) gs = ap (λ l. f.0 ∷ l) (names-append fs gs)

names-side : (i : ℕ) (fs : Fronts) → names (map (in_side i) fs) ≡ map (λ c. i ∷ c) (names fs)
names-side i [] = refl
names-side i (f ∷ fs) = ap (λ l. (i ∷ f.0) ∷ l) (names-side i fs)

-- a branch below list i or a later one
abbrev From : ℕ → Branch → Type 0
From i c = (j : ℕ) × (d : Branch) × (j ∷ d ≡ c) × (i ≤ j)

map-from : (i : ℕ) (xs : List Branch) (c : Branch) → In c (map (λ d. i ∷ d) xs) → (d : Branch) × (i ∷ d ≡ c)
map-from i [] c h = absurd h
map-from i (x ∷ xs) c (inl e) = (x, e)
map-from i (x ∷ xs) c (inr k) = map-from i xs c k

own-from : (i : ℕ) (c : Branch) (xs : List Branch) → In c (map (λ d. i ∷ d) xs) → From i c
own-from i c xs k = (let w = map-from i xs c k in (i, w.0, w.1, omega arith))

earlier : (i : ℕ) (c : Branch) → From (suc i) c → From i c
earlier i c w = (w.0, w.1, w.2, omega (arith, w.3))

fronts-from : (zs : List Strand) (i : ℕ) (lists : List (List Action)) (began : Began) (c : Branch) → In c (names (fronts_from i (map fronts zs) lists began)) → From i c
fronts-from [] i lists began c h = absurd h
fronts-from (z ∷ zs) i lists began c h =
    let own = fronts z (nth_list lists i) (λ d. began (i ∷ d)) in
    let later = fronts_from (suc i) (map fronts zs) lists began in
    by (names own) (names later)
    (split c (map (λ d. i ∷ d) (names own)) (names later)
    (subst (λ (l : List Branch). In c l) (names-append (map (in_side i) own) later ∙ (λ k. names-side i own k ++ names later)) h))
    (fronts-from zs (suc i) lists began c)
  where
    by : (xs ys : List Branch) → In c (map (λ d. i ∷ d) xs) ⊎ In c ys → (In c ys → From (suc i) c) → From i c
    by xs ys (inl k) more = own-from i c xs k
    by xs ys (inr k) more = earlier i c (more k)

abbrev StageUp : Stage → Type 0
StageUp k = (list : List Action) (t : Thread) (began : Began) → Ascends (names (front_stage k list t began))

abbrev StrandUp : Strand → Type 0
StrandUp x = (list : List Action) (began : Began) → Ascends (names (fronts x list began))

abbrev SuchStage : Type 0
SuchStage = (k : Stage) × StageUp k

abbrev SuchStrand : Type 0
SuchStrand = (x : Strand) × StrandUp x

less-of : (i j : ℕ) (b c d e : Branch) → i ∷ d ≡ b → j ∷ e ≡ c → i < j → comes_before b c ≡ true
less-of i j b c d e p q lt = (λ k. comes_before (sym p k) (sym q k)) ∙ less-first i j d e lt

each-up : (ys : List SuchStrand) (i : ℕ) (lists : List (List Action)) (began : Began) → Ascends (names (fronts_from i (map fronts (map (λ e. e.0) ys)) lists began))
each-up [] i lists began = tt
each-up (y ∷ ys) i lists began =
    let own = fronts y.0 (nth_list lists i) (λ d. began (i ∷ d)) in
    let later = fronts_from (suc i) (map fronts (map (λ e. e.0) ys)) lists began in
    subst (λ (l : List Branch). Ascends l) (sym (names-append (map (in_side i) own) later ∙ (λ k. names-side i own k ++ names later)))
    (ascends-append (map (λ d. i ∷ d) (names own)) (names later) (below-ascends i (names own) (y.1 (nth_list lists i) (λ d. began (i ∷ d)))) (each-up ys (suc i) lists began)
    (λ b c p q.
    let u = map-from i (names own) b p in
    let v = fronts-from (map (λ e. e.0) ys) (suc i) lists began c q in
    less-of i v.0 b c u.0 v.1 u.1 v.2 (omega (arith, v.3))))

layer-up : (y : Stage-F SuchStage SuchStrand) (list : List Action) (t : Thread) (began : Began)
    → Ascends (names (stage_fronts (map-Stage Stage Strand StageFronts FrontsOf front_stage fronts (map-Stage SuchStage SuchStrand Stage Strand (λ e. e.0) (λ e. e.0) y)) list t began))
layer-up Stage-F.Ready list t began = by (has_next list t)
  where
    by : (b : Bool) → Ascends (names (if b then ([], Gate.Free) ∷ [] else []))
    by true = (tt, tt)
    by false = tt
layer-up (Stage-F.Delay due) list t began = (tt, tt)
layer-up (Stage-F.Wait timeout) list t began = (tt, tt)
layer-up (Stage-F.Sides ys) list t began = each-up ys 0 (lists_of (last_action list t)) began
layer-up (Stage-F.Ended e) list t began = tt

rolled-stage : (y : Stage-F SuchStage SuchStrand) → StageUp (roll-Stage (map-Stage SuchStage SuchStrand Stage Strand (λ e. e.0) (λ e. e.0) y))
rolled-stage y list t began =
    let x = map-Stage SuchStage SuchStrand Stage Strand (λ e. e.0) (λ e. e.0) y in
    subst (λ (f : Fronts). Ascends (names f)) (sym (ap (λ f. f list t began) (fold-roll-Stage StageFronts FrontsOf stage_fronts (λ z l. z.stage l z.thread) x))) (layer-up y list t began)

rolled-strand : (y : Strand-F SuchStage SuchStrand) → StrandUp (roll-Strand (map-Strand SuchStage SuchStrand Stage Strand (λ e. e.0) (λ e. e.0) y))
rolled-strand y list began =
    let x = map-Strand SuchStage SuchStrand Stage Strand (λ e. e.0) (λ e. e.0) y in
    subst (λ (f : Fronts). Ascends (names f)) (sym (ap (λ f. f list began) (fold-roll-Strand StageFronts FrontsOf stage_fronts (λ z l. z.stage l z.thread) x))) (y.stage.1 list y.thread began)

pub fronts-ascend : (x : Strand) → StrandUp x
fronts-ascend = ind-Strand StageUp StrandUp (λ x y is. subst (λ z. StageUp (roll-Stage z)) is (rolled-stage y)) (λ x y is. subst (λ z. StrandUp (roll-Strand z)) is (rolled-strand y))

-- ---- a front is found by its branch

pub same-true : (b c : Branch) → bytes_eq b c ≡ true → b ≡ c
same-true [] [] h = refl
same-true [] (y ∷ c) h = absurd (cc)
same-true (x ∷ b) [] h = absurd (cc)
same-true (x ∷ b) (y ∷ c) h = (let p = both (nat_eq x y) (bytes_eq b c) h in (λ i. eqb-true x y p.0 i ∷ same-true b c p.1 i))

abbrev pub StandsOf : Branch → Gate → Fronts → Type 0
StandsOf c g [] = ⊥
StandsOf c g (f ∷ fs) = (f ≡ (c, g)) ⊎ StandsOf c g fs

pub found-front : (fs : Fronts) (c : Branch) (g : Gate) → gate_at c fs ≡ Some g → StandsOf c g fs
found-front [] c g e = absurd (none-some g e)
found-front (f ∷ fs) c g e = by (bytes_eq f.0 c) refl e (found-front fs c g)
  where
    by : (t : Bool) → bytes_eq f.0 c ≡ t → option_map (λ (x : Branch × Gate). x.1) (if t then Some f else find (λ x. bytes_eq x.0 c) fs) ≡ Some g → (gate_at c fs ≡ Some g → StandsOf c g fs) → StandsOf c g (f ∷ fs)
    by true h k more = (let z : f.1 ≡ g = cc in inl (λ i. (same-true f.0 c h i, z i)))
    by false h k more = inr (more k)

pub stands-in : (fs : Fronts) (c : Branch) (g : Gate) → StandsOf c g fs → In c (names fs)
stands-in [] c g h = absurd h
stands-in (f ∷ fs) c g (inl e) = inl (ap (λ (x : Branch × Gate). x.0) e)
stands-in (f ∷ fs) c g (inr k) = inr (stands-in fs c g k)

pub front-found : (fs : Fronts) (c : Branch) (g : Gate) → Ascends (names fs) → StandsOf c g fs → gate_at c fs ≡ Some g
front-found [] c g up h = absurd h
front-found (f ∷ fs) c g up (inl e) = (λ i. gate_at c (e i ∷ fs)) ∙ (λ i. option_map (λ (x : Branch × Gate). x.1) (if same-refl c i then Some (c, g) else find (λ x. bytes_eq x.0 c) fs))
front-found (f ∷ fs) c g up (inr k) = by (bytes_eq f.0 c) refl (front-found fs c g up.1 k)
  where
    by : (t : Bool) → bytes_eq f.0 c ≡ t → gate_at c fs ≡ Some g → option_map (λ (x : Branch × Gate). x.1) (if t then Some f else find (λ x. bytes_eq x.0 c) fs) ≡ Some g
    by true h more = absurd (irrefl c (ap (λ b. comes_before b c) (sym (same-true f.0 c h)) ∙ after-in f.0 c (names fs) up.0 (stands-in fs c g k)))
    by false h more = more

-- ---- the fronts are branches of the script

abbrev IsIn : Branch → Type 0
IsIn c = (x : Strand) (list : List Action) (began : Began) (g : Gate) → (standing x list).settled ≡ true → gate_at c (fronts x list began) ≡ Some g → In c (branches_of list)

got-within : (xs : List Strand) (i : ℕ) (y : Strand) → slice_get xs i ≡ Some y → i < length xs
got-within [] zero y e = absurd (cc)
got-within [] (suc i) y e = absurd (cc)
got-within (x ∷ xs) zero y e = omega arith
got-within (x ∷ xs) (suc i) y e = omega (arith, got-within xs i y e)

map-many : (xs : List Strand) → length (map standing xs) ≡ length xs
map-many [] = refl
map-many (x ∷ xs) = ap suc (map-many xs)

no-front : (b : Bool) (i : ℕ) (c : Branch) (g : Gate) → gate_at (i ∷ c) (if b then ([], Gate.Free) ∷ [] else []) ≡ Some g → ⊥
no-front true i c g e = none-some g e
no-front false i c g e = none-some g e

module _ (c : Branch) (later : IsIn c) (i : ℕ) (list : List Action) (t : Thread) (began : Began) (g : Gate) where
  abbrev lists : List (List Action)
  lists = lists_of (last_action list t)

  side : (xs : List Strand) (o : Option Strand) → nat_eq (length (map standing xs)) (length lists) ≡ true → all_settled 0 (map standing xs) lists ≡ true → slice_get xs i ≡ o
      → option_map_or (λ y. gate_at c (fronts y (nth_list lists i) (λ d. began (i ∷ d)))) o None ≡ Some g → In (i ∷ c) (branches_of list)
  side xs None many settled q k = absurd (none-some g k)
  side xs (Some y) many settled q k =
      last-in list t i c (omega (arith, got-within xs i y q, map-many xs, eqb-true (length (map standing xs)) (length lists) many))
      (later y (nth_list lists i) (λ d. began (i ∷ d)) g (settled-get xs i lists y settled q) k)

  below-in-it : (k : Stage-F Stage Strand) → (stage_standing (map-Stage Stage Strand StageStanding Standings stage_stands standing k) list t).settled ≡ true
      → gate_at (i ∷ c) (stage_fronts (map-Stage Stage Strand StageFronts FrontsOf front_stage fronts k) list t began) ≡ Some g → In (i ∷ c) (branches_of list)
  below-in-it Stage-F.Ready s h = absurd (no-front (has_next list t) i c g h)
  below-in-it (Stage-F.Delay due) s h = absurd (none-some g h)
  below-in-it (Stage-F.Wait timeout) s h = absurd (none-some g h)
  below-in-it (Stage-F.Ended end) s h = absurd (none-some g h)
  below-in-it (Stage-F.Sides xs) s h =
      let p = both (nat_eq (length (map standing xs)) (length lists)) (all_settled 0 (map standing xs) lists && not (each_over (map standing xs))) s in
      side xs (slice_get xs i) p.0 (both (all_settled 0 (map standing xs) lists) (not (each_over (map standing xs))) p.1).0 refl (sym (gate-side xs i c lists began) ∙ h)

front-in : (c : Branch) → IsIn c
front-in [] x list began g settled e = inl refl
front-in (i ∷ c) x list began g settled e =
    below-in-it c (front-in c) i list (out-Strand x).thread began g (out-Stage (out-Strand x).stage)
    (ap (λ z. z.settled) (sym (standing-out x list)) ∙ settled) (sym (ap (gate_at (i ∷ c)) (fronts-out x list began)) ∙ e)

-- ---- with one place for each branch, the open fronts are the branches at which the script goes on

open-in : (at : Branch → Spot) (fs : Fronts) (c : Branch) (g : Gate) → StandsOf c g fs → opens g (at c) ≡ true → In c (open_branches at fs)
open-in at [] c g h e = absurd h
open-in at (f ∷ fs) c g h e = by (opens f.1 (at f.0)) refl h (λ k. open-in at fs c g k e)
  where
    by : (t : Bool) → opens f.1 (at f.0) ≡ t → StandsOf c g (f ∷ fs) → (StandsOf c g fs → In c (open_branches at fs)) → In c (names (if t then f ∷ filter (λ x. opens x.1 (at x.0)) fs else filter (λ x. opens x.1 (at x.0)) fs))
    by true q (inl p) more = inl (ap (λ (x : Branch × Gate). x.0) p)
    by true q (inr p) more = inr (more p)
    by false q (inl p) more = absurd (let z : opens f.1 (at f.0) ≡ true = (λ i. opens (p i).1 (at (p i).0)) ∙ e in cc)
    by false q (inr p) more = more p

in-open : (at : Branch → Spot) (fs : Fronts) (c : Branch) → In c (open_branches at fs) → (g : Gate) × StandsOf c g fs × (opens g (at c) ≡ true)
in-open at [] c h = absurd h
in-open at (f ∷ fs) c h = by (opens f.1 (at f.0)) refl h (in-open at fs c)
  where
    more-of : (g : Gate) × StandsOf c g fs × (opens g (at c) ≡ true) → (g : Gate) × StandsOf c g (f ∷ fs) × (opens g (at c) ≡ true)
    more-of w = (w.0, inr w.1, w.2)

    by : (t : Bool) → opens f.1 (at f.0) ≡ t → In c (names (if t then f ∷ filter (λ x. opens x.1 (at x.0)) fs else filter (λ x. opens x.1 (at x.0)) fs))
        → (In c (open_branches at fs) → (g : Gate) × StandsOf c g fs × (opens g (at c) ≡ true)) → (g : Gate) × StandsOf c g (f ∷ fs) × (opens g (at c) ≡ true)
    by true q (inl p) more = (f.1, inl (λ i. (p i, f.1)), (λ i. opens f.1 (at (sym p i))) ∙ q)
    by true q (inr p) more = more-of (more p)
    by false q p more = more-of (more p)

names-filter : (p : Branch × Gate → Bool) (fs : Fronts) (c : Branch) → In c (names (filter p fs)) → In c (names fs)
names-filter p [] c h = absurd h
names-filter p (f ∷ fs) c h = by (p f) h (names-filter p fs c)
  where
    by : (t : Bool) → In c (names (if t then f ∷ filter p fs else filter p fs)) → (In c (names (filter p fs)) → In c (names fs)) → In c (names (f ∷ fs))
    by true (inl e) more = inl e
    by true (inr k) more = inr (more k)
    by false k more = inr (more k)

open-ascends : (p : Branch × Gate → Bool) (fs : Fronts) → Ascends (names fs) → Ascends (names (filter p fs))
open-ascends p [] h = tt
open-ascends p (f ∷ fs) h = by (p f) (open-ascends p fs h.1)
  where
    by : (t : Bool) → Ascends (names (filter p fs)) → Ascends (names (if t then f ∷ filter p fs else filter p fs))
    by true more = (in-after f.0 (names (filter p fs)) (λ c k. after-in f.0 c (names fs) h.0 (names-filter p fs c k)), more)
    by false more = more

lets-some : (o : Option Gate) (s : Spot) → lets o s ≡ true → (g : Gate) × (o ≡ Some g) × (opens g s ≡ true)
lets-some None s e = absurd (cc)
lets-some (Some g) s e = (g, refl, e)

module _ (f : Frames) (actions : List Action) (env : Pairs) (given : List Spot) (items : List Item) (at : Branch → Spot) (own : (b : Branch) → (at b).branch ≡ b)
    (stands : Stands f actions env given items) where
  abbrev all : Fronts
  all = fronts_of f (began_by begins given)

  abbrev allowed : Branch → Bool
  allowed b = is_some (whole actions env (given ++ (at b ∷ [])))

  up : Ascends (names all)
  up = fronts-ascend f.root f.script.value (began_by begins given)

  tells : (b : Branch) → allowed b ≡ lets (gate_at b all) (at b)
  tells b = gate-stands f actions env given items (at b) stands ∙ (λ k. lets (gate_at (own b k) all) (at b))

  there : (b : Branch) → In b (filter allowed (branches_of actions)) → In b (open_branches at all)
  there b h =
      let p = filter-in allowed b (branches_of actions) h in
      let w = lets-some (gate_at b all) (at b) (sym (tells b) ∙ p.1) in
      open-in at all b w.0 (found-front all b w.0 w.1) w.2

  back : (b : Branch) → In b (open_branches at all) → In b (filter allowed (branches_of actions))
  back b h =
      let w = in-open at all b h in
      let gate = front-found all b w.0 up w.1 in
      in-filter allowed b (branches_of actions)
      (subst (λ (l : List Action). In b (branches_of l)) stands.script (front-in b f.root f.script.value (began_by begins given) w.0 f.settled gate))
      (tells b ∙ ap (λ o. lets o (at b)) gate ∙ w.2)

  pub fronts-are : filter allowed (branches_of actions) ≡ open_branches at all
  fronts-are =
      same-members (filter allowed (branches_of actions)) (open_branches at all) (filter-ascends allowed (branches_of actions) (branches-ascend actions))
      (open-ascends (λ x. opens x.1 (at x.0)) all up) there back
