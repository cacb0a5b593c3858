-- One step of a strand, by its stage.
use Rattle.std.proofs.Common.{◌≡◌, ℕ, zero, suc, ◌+◌, ◌<◌, Bool, true, false, ◌&&◌, List, [], ◌∷◌, ◌++◌, length, map, take, set, get_or, remove, insert, refl, sym, ap, ◌∙◌, arith, rules, append_assoc, length-append}
use Rattle.std.specs.Prelude.{Option, Some, None, slice_get, is_some, unwrap_or, bytes_eq, nat_eq, nat_le, nat_lt, if◌then◌else◌}
use Rattle.std.specs.Option.{option_map_or}
use Rattle.std.proofs.lemmas.List.{append-nil}
use Rattle.std.proofs.lemmas.Bool.{lt-ltb}
use Rattle.ha_config.specs.declared.config.Action.{Action}
use Rattle.ha_sight.specs.declared.item.Item.{Item}
use Rattle.ha_sight.specs.declared.waiting.WaitEnd.{WaitEnd}
use Rattle.ha_sight.specs.Sight.{Sight}
use Rattle.ha_sight.specs.Scripts.{Branch, Spot, Ask, Outcome, flat, gives, is_deeper, side, side_by_side}
use Rattle.ha_config.proofs.EqualLemmas.{same-refl}
use Rattle.ha_sight.proofs.SideLemmas.{side-step}
use Rattle.script_step.specs.declared.thread.Thread.{Thread}
use Rattle.script_step.specs.declared.strand.End.{End}
use Rattle.script_step.specs.declared.strand.Strand.{Strand}
use Rattle.script_step.specs.declared.strand.Stage.{Stage}
use Rattle.script_step.specs.declared.strand.Stage.TheOpen.{Stage-F}
use Rattle.script_step.specs.declared.strand.Stage.TheViews.{out-Stage, out-Strand}
use Rattle.script_step.specs.declared.strand.Stage.TheVariants.{Sides, outs-Ready, outs-Delay, outs-Wait, outs-Sides, outs-Ended}
use Rattle.script_step.specs.declared.strand.Stage.TheFolds.{fold-Stage, fold_out-Stage, fold_out-Strand, map-Stage}
use Rattle.script_step.specs.Continuation.{Began, May, StageMay, Asks, StageAsks, has_next, last_action, thread_next, ask_in, lists_of, nth_list, sides_from, continuation, placed, is_here, may_side, stage_may, may_step, ask_side, stage_asks, asks}
use Rattle.script_step.specs.Step.{IsTaken, IsStep, IsSide, IsWaited, thread_on}
use Rattle.script_step.proofs.StageLemmas.{stage-ready, stage-delay, stage-wait, stage-sides, strand-out}
use Rattle.script_step.proofs.ParallelLemmas.{sides-length}

-- ---- which branches may step, and what waits ask, by the stage

abbrev pub may_stage : Stage → StageMay
may_stage = fold-Stage StageMay May stage_may (λ x list. x.stage list x.thread)

pub may-out : (x : Strand) (list : List Action) (c : Branch) (now : ℕ) (end : Option WaitEnd)
    → may_step x list c now end ≡ stage_may (map-Stage Stage Strand StageMay May may_stage may_step (out-Stage (out-Strand x).stage)) list (out-Strand x).thread c now end
may-out x list c now end =
    ap (λ f. f list c now end) (fold_out-Strand StageMay May stage_may (λ y l. y.stage l y.thread) x)
    ∙ ap (λ f. f list (out-Strand x).thread c now end) (fold_out-Stage StageMay May stage_may (λ y l. y.stage l y.thread) (out-Strand x).stage)

abbrev pub ask_stage : Stage → StageAsks
ask_stage = fold-Stage StageAsks Asks stage_asks (λ x list c. x.stage (last_action list x.thread) x.thread.scopes c)

pub asks-out : (x : Strand) (list : List Action) (c : Branch)
    → asks x list c ≡ stage_asks (map-Stage Stage Strand StageAsks Asks ask_stage asks (out-Stage (out-Strand x).stage)) (last_action list (out-Strand x).thread) (out-Strand x).thread.scopes c
asks-out x list c =
    ap (λ f. f list c) (fold_out-Strand StageAsks Asks stage_asks (λ y l d. y.stage (last_action l y.thread) y.thread.scopes d) x)
    ∙ ap (λ f. f (last_action list (out-Strand x).thread) (out-Strand x).thread.scopes c) (fold_out-Stage StageAsks Asks stage_asks (λ y l d. y.stage (last_action l y.thread) y.thread.scopes d) (out-Strand x).stage)

both : (p q : Bool) → (p && q) ≡ true → (p ≡ true) × (q ≡ true)
both true q e = (refl, e)
both false q e = absurd cc

here-only : (c : Branch) → is_here c ≡ true → c ≡ []
here-only [] h = refl
here-only (i ∷ c) h = absurd cc

module _ (x : Strand) (list : List Action) (path : Branch) (now : ℕ) (end : Option WaitEnd) (may : may_step x list path now end ≡ true) where
  may_at : Stage-F Stage Strand → Bool
  may_at k = stage_may (map-Stage Stage Strand StageMay May may_stage may_step k) list (out-Strand x).thread path now end

  pub may-ready : (out-Strand x).stage ≡ Stage.Ready → (path ≡ []) × (has_next list (out-Strand x).thread ≡ true)
  unfolding may_at
  may-ready e =
      let h = both (is_here path) (has_next list (out-Strand x).thread) (sym (ap may_at (ap out-Stage e ∙ outs-Ready)) ∙ sym (may-out x list path now end) ∙ may) in
      (here-only path h.0, h.1)

  pub may-delay : (due : ℕ) → (out-Strand x).stage ≡ Stage.Delay due → (path ≡ []) × (nat_le due now ≡ true)
  unfolding may_at
  may-delay due e =
      let h = both (is_here path) (nat_le due now) (sym (ap may_at (ap out-Stage e ∙ outs-Delay due)) ∙ sym (may-out x list path now end) ∙ may) in
      (here-only path h.0, h.1)

  pub may-wait : (timeout : Option ℕ) → (out-Strand x).stage ≡ Stage.Wait timeout → (path ≡ []) × (is_some end ≡ true)
  unfolding may_at
  may-wait timeout e =
      let h = both (is_here path) (is_some end) (sym (ap may_at (ap out-Stage e ∙ outs-Wait timeout)) ∙ sym (may-out x list path now end) ∙ may) in
      (here-only path h.0, h.1)

  pub may-sides : (strands : List Strand) → (out-Strand x).stage ≡ Sides strands
      → may_side (map may_step strands) (lists_of (last_action list (out-Strand x).thread)) path now end ≡ true
  unfolding may_at
  may-sides strands e = sym (ap may_at (ap out-Stage e ∙ outs-Sides strands)) ∙ sym (may-out x list path now end) ∙ may

  pub may-ended : (d : End) → (out-Strand x).stage ≡ Stage.Ended d → ⊥
  unfolding may_at
  may-ended d e = false-true (sym (ap may_at (ap out-Stage e ∙ outs-Ended d)) ∙ sym (may-out x list path now end) ∙ may)
    where
      false-true : false ≡ true → ⊥
      false-true h = cc

-- ---- steps in the strand's own branch

pub own-branch : (b : Branch) (path c : Branch) → path ≡ [] → c ≡ b ++ path → c ≡ b
own-branch b path c here e = e ∙ ap (λ p. b ++ p) here ∙ append-nil b

module _ (sight : Sight) (list : List Action) (path : Branch) (end : Option WaitEnd) (x y : Strand) (new : Thread) (stage : Stage)
    (closes : (b : Branch) (began : Began) (ps : List Spot) → thread_on list new stage b began ps ≡ continuation y list b began ps) where
  closed : (b : Branch) (began : Began) (p : ℕ) (rest : List Spot) (item : Item) → path ≡ []
      → gives item (thread_on list new stage b (placed [] p began) rest) ≡ gives item (continuation y list b (placed path p began) rest)
  closed b began p rest item here = ap (gives item) (closes b (placed [] p began) rest ∙ (λ i. continuation y list b (placed (sym here i) p began) rest))

  pub step-ready : (item : Item) → (out-Strand x).stage ≡ Stage.Ready → path ≡ []
      → IsTaken sight list (λ b ps. thread_next b list (out-Strand x).thread.outer (out-Strand x).thread.here (out-Strand x).thread.scopes ps) item new stage
      → IsStep sight list path end x item y
  step-ready item is here taken b began s rest seen branch tells =
      let t = (out-Strand x).thread in
      strand-out x list b began (s ∷ rest)
      ∙ (λ i. thread_on list t (is i) b began (s ∷ rest))
      ∙ stage-ready (last_action list t) (thread_next b list t.outer t.here) t.scopes b began (s ∷ rest)
      ∙ taken b began s rest seen (own-branch b path s.branch here branch)
      ∙ closed b began s.place rest item here

module _ (sight : Sight) (list : List Action) (path : Branch) (end : Option WaitEnd) (x y : Strand) where
  pub step-delay : (due : ℕ) → (out-Strand x).stage ≡ Stage.Delay due → path ≡ [] → nat_le due sight.now ≡ true
      → ((b : Branch) (began : Began) (ps : List Spot) → thread_on list (out-Strand x).thread Stage.Ready b began ps ≡ continuation y list b began ps)
      → IsStep sight list path end x Item.Nothing y
  step-delay due is here over closes b began s rest seen branch tells =
      let t = (out-Strand x).thread in
      let a = last_action list t in
      let next = thread_next b list t.outer t.here in
      let own : bytes_eq s.branch b ≡ true = ap (λ c. bytes_eq c b) (own-branch b path s.branch here branch) ∙ same-refl b in
      let due_is : nat_le due s.sight.now ≡ true = (λ i. nat_le due (seen i).now) ∙ over in
      strand-out x list b began (s ∷ rest)
      ∙ (λ i. thread_on list t (is i) b began (s ∷ rest))
      ∙ stage-delay a next t.scopes b began (s ∷ rest) due
      ∙ rw (own, due_is) refl
      ∙ ap (gives Item.Nothing) (sym (stage-ready a next t.scopes b (placed [] s.place began) rest))
      ∙ closed sight list path end x y t Stage.Ready closes b began s.place rest Item.Nothing here

  pub step-wait : (timeout : Option ℕ) (e : WaitEnd) (new : Thread) (stage : Stage) → (out-Strand x).stage ≡ Stage.Wait timeout → path ≡ [] → end ≡ Some e
      → IsWaited list e (out-Strand x).thread new stage
      → ((b : Branch) (began : Began) (ps : List Spot) → thread_on list new stage b began ps ≡ continuation y list b began ps)
      → IsStep sight list path end x Item.Nothing y
  step-wait timeout e new stage is here ended waits closes b began s rest seen branch tells =
      let t = (out-Strand x).thread in
      let a = last_action list t in
      let next = thread_next b list t.outer t.here in
      let ask = ask_in a timeout (flat t.scopes) in
      let own : bytes_eq s.branch b ≡ true = ap (λ c. bytes_eq c b) (own-branch b path s.branch here branch) ∙ same-refl b in
      let asked : asks x list path ≡ Some ask =
      asks-out x list path ∙ (λ i. stage_asks (map-Stage Stage Strand StageAsks Asks ask_stage asks ((ap out-Stage is ∙ outs-Wait timeout) i)) a t.scopes (here i)) in
      let told : s.wait_end ask (began []) ≡ Some e = (λ i. s.wait_end ask (began (sym here i))) ∙ tells ask asked ∙ ended in
      strand-out x list b began (s ∷ rest)
      ∙ (λ i. thread_on list t (is i) b began (s ∷ rest))
      ∙ stage-wait a next t.scopes b began (s ∷ rest) timeout
      ∙ rw (own, told) refl
      ∙ ap (gives Item.Nothing) (waits b (placed [] s.place began) rest)
      ∙ closed sight list path end x y new stage closes b began s.place rest Item.Nothing here

  pub step-sides : (item : Item) (old new : List Strand) → (out-Strand x).stage ≡ Sides old
      → IsSide sight (lists_of (last_action list (out-Strand x).thread)) path end old item new
      → ((b : Branch) (began : Began) (ps : List Spot) → thread_on list (out-Strand x).thread (Sides new) b began ps ≡ continuation y list b began ps)
      → IsStep sight list path end x item y
  step-sides item old new is side closes b began s rest seen branch tells =
      let t = (out-Strand x).thread in
      let a = last_action list t in
      let next = thread_next b list t.outer t.here in
      let asked : asks x list path ≡ ask_side (map asks old) (lists_of a) path =
      asks-out x list path ∙ (λ i. stage_asks (map-Stage Stage Strand StageAsks Asks ask_stage asks ((ap out-Stage is ∙ outs-Sides old) i)) a t.scopes path) in
      strand-out x list b began (s ∷ rest)
      ∙ (λ i. thread_on list t (is i) b began (s ∷ rest))
      ∙ stage-sides a next t.scopes b began (s ∷ rest) old
      ∙ side b began (next t.scopes) s rest seen branch (λ ask e. tells ask (asked ∙ e))
      ∙ ap (gives item) (sym (stage-sides a next t.scopes b (placed path s.place began) rest new) ∙ closes b (placed path s.place began) rest)

-- ---- a step in one list of a parallel block

take-front : (b c : Branch) → take (length b) (b ++ c) ≡ b
take-front [] c = refl
take-front (x ∷ b) c = ap (λ l. x ∷ l) (take-front b c)

pub get-behind : (b c : Branch) (i : ℕ) → slice_get (b ++ (i ∷ c)) (length b) ≡ Some i
get-behind [] c i = refl
get-behind (x ∷ b) c i = get-behind b c i

pub below : (b c : Branch) (i : ℕ) → is_deeper b (b ++ (i ∷ c)) ≡ true
below b c i =
    (λ k. bytes_eq b (take-front b (i ∷ c) k) && nat_lt (length b) (length (b ++ (i ∷ c))))
    ∙ (λ k. same-refl b k && nat_lt (length b) (length (b ++ (i ∷ c))))
    ∙ lt-ltb (length b) (length (b ++ (i ∷ c))) (omega (arith, length-append b (i ∷ c)))

at-index : (strands : List Strand) (k i : ℕ) (x : Strand) (lists : List (List Action)) (b : Branch) (began : Began) → slice_get strands i ≡ Some x
    → (z : List Spot → Option Outcome) → get_or (sides_from k (map continuation strands) lists b began) i z
    ≡ continuation x (nth_list lists (k + i)) (b ++ ((k + i) ∷ [])) (λ c. began ((k + i) ∷ c))
at-index [] k i x lists b began e z = absurd cc
at-index (y ∷ ys) k zero x lists b began e z =
    let n : k ≡ k + 0 = omega arith in
    (λ j. continuation (same-member y x e j) (nth_list lists (n j)) (b ++ (n j ∷ [])) (λ c. began (n j ∷ c)))
  where
    same-member : (p q : Strand) → Some p ≡ Some q → p ≡ q
    same-member p q h = cc
at-index (y ∷ ys) k (suc i) x lists b began e z =
    let n : suc k + i ≡ k + suc i = omega arith in
    at-index ys (suc k) i x lists b began e z
    ∙ (λ j. continuation x (nth_list lists (n j)) (b ++ (n j ∷ [])) (λ c. began (n j ∷ c)))

same-number : (a b : ℕ) → a ≡ b → nat_eq a b ≡ true
same-number a b e = search (rules, e)

other-number : (a b : ℕ) → (a ≡ b → ⊥) → nat_eq a b ≡ false
other-number a b e = search rules

later-sides : (strands : List Strand) (k i p : ℕ) (path : Branch) (lists : List (List Action)) (b : Branch) (began : Began) → i < k
    → sides_from k (map continuation strands) lists b began ≡ sides_from k (map continuation strands) lists b (placed (i ∷ path) p began)
later-sides [] k i p path lists b began lt = refl
later-sides (y ∷ ys) k i p path lists b began lt =
    let off : nat_eq k i ≡ false = other-number k i (λ e. omega (arith, e, lt)) in
    (λ j. continuation y (nth_list lists k) (b ++ (k ∷ [])) (λ c. if sym off j && bytes_eq c path then p else began (k ∷ c))
    ∷ later-sides ys (suc k) i p path lists b began (omega (arith, lt)) j)

set-side : (strands : List Strand) (k i p : ℕ) (path : Branch) (x : Strand) (lists : List (List Action)) (b : Branch) (began : Began) → i < length strands
    → set (sides_from k (map continuation strands) lists b began) i (continuation x (nth_list lists (k + i)) (b ++ ((k + i) ∷ [])) (placed path p (λ c. began ((k + i) ∷ c))))
    ≡ sides_from k (map continuation (set strands i x)) lists b (placed ((k + i) ∷ path) p began)
set-side [] k i p path x lists b began lt = absurd (omega (arith, lt))
set-side (y ∷ ys) k zero p path x lists b began lt =
    let n : k + 0 ≡ k = omega arith in
    let own : nat_eq k (k + 0) ≡ true = same-number k (k + 0) (sym n) in
    (λ j. continuation x (nth_list lists (n j)) (b ++ (n j ∷ [])) (λ c. if sym own j && bytes_eq c path then p else began (n j ∷ c))
    ∷ later-sides ys (suc k) (k + 0) p path lists b began (omega arith) j)
set-side (y ∷ ys) k (suc i) p path x lists b began lt =
    let n : suc k + i ≡ k + suc i = omega arith in
    let off : nat_eq k (k + suc i) ≡ false = other-number k (k + suc i) (λ e. omega (arith, e)) in
    (λ j. continuation y (nth_list lists k) (b ++ (k ∷ [])) (λ c. if sym off j && bytes_eq c path then p else began (k ∷ c))
    ∷ ((λ m. set (sides_from (suc k) (map continuation ys) lists b began) i (continuation x (nth_list lists (sym n m)) (b ++ (sym n m ∷ [])) (placed path p (λ c. began (sym n m ∷ c)))))
    ∙ set-side ys (suc k) i p path x lists b began (omega (arith, lt))
    ∙ (λ m. sides_from (suc k) (map continuation (set ys i x)) lists b (placed (n m ∷ path) p began))) j)

pub within : {X : Type 0} (xs : List X) (i : ℕ) (x : X) → slice_get xs i ≡ Some x → i < length xs
within [] i x e = absurd cc
within (y ∷ ys) zero x e = omega arith
within (y ∷ ys) (suc i) x e = omega (arith, within ys i x e)

pub same-some : {X : Type 0} (p q : X) → Some p ≡ Some q → p ≡ q
same-some p q h = cc

pub get-map : {X Y : Type 0} (f : X → Y) (xs : List X) (i : ℕ) (x : X) → slice_get xs i ≡ Some x → slice_get (map f xs) i ≡ Some (f x)
get-map f [] i x e = absurd cc
get-map f (y ∷ ys) zero x e = ap Some (ap f (same-some y x e))
get-map f (y ∷ ys) (suc i) x e = get-map f ys i x e

pub side-done : (sight : Sight) (lists : List (List Action)) (path c : Branch) (i : ℕ) (end : Option WaitEnd) (old : List Strand) (x y : Strand) (item : Item)
    → path ≡ i ∷ c → slice_get old i ≡ Some x → IsStep sight (nth_list lists i) c end x item y → IsSide sight lists path end old item (set old i y)
side-done sight lists path c i end old x y item path_is get step b began next s rest seen branch tells =
    let z : 0 + i ≡ i = omega arith in
    let br : s.branch ≡ b ++ (i ∷ c) = branch ∙ ap (λ q. b ++ q) path_is in
    let deeper : is_deeper b s.branch ≡ true = (λ k. is_deeper b (br k)) ∙ below b c i in
    let sd : side b s ≡ i = (λ k. unwrap_or (slice_get (br k) (length b)) 0) ∙ ap (λ o. unwrap_or o 0) (get-behind b c i) in
    let lt = within old i x get in
    let conts = sides_from 0 (map continuation old) lists b began in
    let new : List Spot → Option Outcome = continuation y (nth_list lists i) (b ++ (i ∷ [])) (placed c s.place (λ d. began (i ∷ d))) in
    let told : (ask : Ask) → asks x (nth_list lists i) c ≡ Some ask → s.wait_end ask (began (i ∷ c)) ≡ end =
    λ ask e. (λ k. s.wait_end ask (began (sym path_is k))) ∙ tells ask
    ((λ k. ask_side (map asks old) lists (path_is k)) ∙ ap (λ o. option_map_or (λ m. m (nth_list lists i) c) o None) (get-map asks old i x get) ∙ e) in
    let h : (d : List Spot → Option Outcome) (qs : List Spot) → get_or conts (side b s) d (s ∷ qs) ≡ gives item (new qs) =
    λ d qs. (λ k. get_or conts (sd k) d (s ∷ qs))
    ∙ ap (λ f. f (s ∷ qs)) (at-index old 0 i x lists b began get d ∙ (λ k. continuation x (nth_list lists (z k)) (b ++ (z k ∷ [])) (λ e. began (z k ∷ e))))
    ∙ step (b ++ (i ∷ [])) (λ d'. began (i ∷ d')) s qs seen (br ∙ sym (append_assoc b (i ∷ []) c)) told in
    side-step b next s rest conts item new deeper (omega (arith, sd, lt, sides-length old 0 lists b began)) h
    ∙ ap (gives item) (λ k. side_by_side b
    (((λ m. set conts (sd m) new)
    ∙ (λ m. set conts i (continuation y (nth_list lists (sym z m)) (b ++ (sym z m ∷ [])) (placed c s.place (λ d. began (sym z m ∷ d)))))
    ∙ set-side old 0 i s.place c y lists b began lt
    ∙ (λ m. sides_from 0 (map continuation (set old i y)) lists b (placed (z m ∷ c) s.place began))
    ∙ (λ m. sides_from 0 (map continuation (set old i y)) lists b (placed (sym path_is m) s.place began))) k) next rest)

-- taken out and put back
pub put-back : {X : Type 0} (xs : List X) (i : ℕ) (y : X) → i < length xs → insert (remove xs i) i y ≡ set xs i y
put-back [] i y lt = absurd (omega (arith, lt))
put-back (x ∷ xs) zero y lt = refl
put-back (x ∷ xs) (suc i) y lt = ap (λ l. x ∷ l) (put-back xs i y (omega (arith, lt)))

-- the list that a side names may step
pub may-inner : (strands : List Strand) (lists : List (List Action)) (path c : Branch) (i : ℕ) (now : ℕ) (end : Option WaitEnd) (x : Strand) → path ≡ i ∷ c
    → may_side (map may_step strands) lists path now end ≡ true → slice_get strands i ≡ Some x → may_step x (nth_list lists i) c now end ≡ true
may-inner strands lists path c i now end x path_is may get =
    ap (λ o. option_map_or (λ m. m (nth_list lists i) c now end) o false) (sym (get-map may_step strands i x get))
    ∙ (λ k. may_side (map may_step strands) lists (sym path_is k) now end) ∙ may

-- ---- what holds in a list of a parallel block

pub get-none : {X Y : Type 0} (f : X → Y) (xs : List X) (i : ℕ) → slice_get xs i ≡ None → slice_get (map f xs) i ≡ None
get-none f [] i e = refl
get-none f (y ∷ ys) zero e = absurd cc
get-none f (y ∷ ys) (suc i) e = get-none f ys i e

module _ (x : Strand) (list : List Action) (path c : Branch) (i : ℕ) (strands : List Strand) (is : (out-Strand x).stage ≡ Sides strands) (path_is : path ≡ i ∷ c) where
  may-at : (now : ℕ) (end : Option WaitEnd) → may_step x list path now end
      ≡ option_map_or (λ m. m (nth_list (lists_of (last_action list (out-Strand x).thread)) i) c now end) (slice_get (map may_step strands) i) false
  may-at now end =
      may-out x list path now end
      ∙ (λ k. stage_may (map-Stage Stage Strand StageMay May may_stage may_step ((ap out-Stage is ∙ outs-Sides strands) k)) list (out-Strand x).thread (path_is k) now end)

  ask-at : asks x list path ≡ option_map_or (λ m. m (nth_list (lists_of (last_action list (out-Strand x).thread)) i) c) (slice_get (map asks strands) i) None
  ask-at =
      asks-out x list path
      ∙ (λ k. stage_asks (map-Stage Stage Strand StageAsks Asks ask_stage asks ((ap out-Stage is ∙ outs-Sides strands) k)) (last_action list (out-Strand x).thread) (out-Strand x).thread.scopes (path_is k))

  pub may-at-side : (side : Strand) → slice_get strands i ≡ Some side → (now : ℕ) (end : Option WaitEnd)
      → may_step x list path now end ≡ may_step side (nth_list (lists_of (last_action list (out-Strand x).thread)) i) c now end
  unfolding may-at
  may-at-side side get now end = may-at now end ∙ ap (λ o. option_map_or (λ m. m (nth_list (lists_of (last_action list (out-Strand x).thread)) i) c now end) o false) (get-map may_step strands i side get)

  pub may-at-none : slice_get strands i ≡ None → (now : ℕ) (end : Option WaitEnd) → may_step x list path now end ≡ false
  unfolding may-at
  may-at-none get now end = may-at now end ∙ ap (λ o. option_map_or (λ m. m (nth_list (lists_of (last_action list (out-Strand x).thread)) i) c now end) o false) (get-none may_step strands i get)

  pub ask-at-side : (side : Strand) → slice_get strands i ≡ Some side
      → asks x list path ≡ asks side (nth_list (lists_of (last_action list (out-Strand x).thread)) i) c
  unfolding ask-at
  ask-at-side side get = ask-at ∙ ap (λ o. option_map_or (λ m. m (nth_list (lists_of (last_action list (out-Strand x).thread)) i) c) o None) (get-map asks strands i side get)

  pub ask-at-none : slice_get strands i ≡ None → asks x list path ≡ None
  unfolding ask-at
  ask-at-none get = ask-at ∙ ap (λ o. option_map_or (λ m. m (nth_list (lists_of (last_action list (out-Strand x).thread)) i) c) o None) (get-none asks strands i get)
