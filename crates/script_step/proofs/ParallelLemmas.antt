-- The lists of a parallel block: how they begin, and how the block goes on when all have ended.
use Rattle.std.proofs.Common.{◌≡◌, ℕ, zero, suc, ◌+◌, ◌<◌, Bool, true, false, ◌&&◌, ◌||◌, List, [], ◌∷◌, ◌++◌, length, map, drop, refl, sym, ap, ◌∙◌, arith, rules}
use Rattle.std.specs.Prelude.{Option, Some, None, is_some, option_map, bytes_eq, nat_eq, nat_lt, if◌then◌else◌}
use Rattle.std.specs.List.{list_any, list_all, starts_with}
use Rattle.std.specs.Option.{option_map_or}
use Rattle.std.proofs.lemmas.Bool.{ltb-true}
use Rattle.ha_config.specs.declared.config.Action.{Action}
use Rattle.ha_config.specs.declared.config.ActionKind.{ActionKind}
use Rattle.ha_config.specs.declared.config.ActionKind.TheOpen.{ActionKind-F}
use Rattle.ha_config.specs.declared.config.ActionKind.TheFolds.{map-ActionKind}
use Rattle.ha_sight.specs.declared.item.Item.{Item}
use Rattle.ha_sight.specs.Sight.{Sight}
use Rattle.ha_sight.specs.Scripts.{Branch, Spot, Scopes, outer, Meaning, Outcome, Status, ends, gives, prefixed, exec, in_order, run_action, is_deeper, front, past_front, side, on_side, all_allowed, is_open, first_halt, halt_or, after_lists, each_on, joined_lists, side_by_side, lists_from}
use Rattle.ha_sight.proofs.Rolls.{run_action-out}
use Rattle.script_step.specs.declared.thread.Thread.{Thread}
use Rattle.script_step.specs.declared.strand.End.{End}
use Rattle.script_step.specs.declared.strand.Strand.{Strand}
use Rattle.script_step.specs.declared.strand.Stage.{Stage}
use Rattle.script_step.specs.declared.strand.Stage.TheOpen.{Stage-F}
use Rattle.script_step.specs.declared.strand.Stage.TheViews.{out-Stage, out-Strand}
use Rattle.script_step.specs.declared.strand.Stage.TheVariants.{Sides}
use Rattle.script_step.specs.Blocks.{Round, Block, at_end, goes_on}
use Rattle.script_step.specs.Parts.{lists_in}
use Rattle.script_step.specs.Continuation.{Began, last_action, open_blocks, thread_next, status_of, nth_list, lists_of, sides_from, continuation, placed}
use Rattle.script_step.specs.Sides.{first_stage, first_thread, side_of, end_in, end_of, all_over, halts, halt_of}
use Rattle.script_step.specs.Step.{Does, run_kind, thread_on}
use Rattle.script_step.proofs.StageLemmas.{stage_at, stage-out, stage-ready, stage-ended, stage-sides, strand-out}

-- ---- how the lists begin

pub begun-in : (scopes : Scopes) (list : List Action) (b : Branch) (began : Began) (ps : List Spot)
    → continuation (record { thread = first_thread scopes; stage = first_stage list }) list b began ps ≡ exec list (λ s p. ends Status.Done p) scopes b ps
begun-in scopes [] b began ps =
    strand-out (record { thread = first_thread scopes; stage = first_stage [] }) [] b began ps
    ∙ stage-ended (last_action [] (first_thread scopes)) (thread_next b [] [] (first_thread scopes).here) scopes b began ps End.Done
begun-in scopes (a ∷ list) b began ps =
    strand-out (record { thread = first_thread scopes; stage = first_stage (a ∷ list) }) (a ∷ list) b began ps
    ∙ stage-ready (last_action (a ∷ list) (first_thread scopes)) (thread_next b (a ∷ list) [] (first_thread scopes).here) scopes b began ps

begun : (scopes : Scopes) (list : List Action) (b : Branch) (began : Began) (ps : List Spot)
    → continuation (side_of scopes list) list b began ps ≡ exec list (λ s p. ends Status.Done p) (scopes ++ ([] ∷ [])) b ps
begun scopes list b began ps = begun-in (scopes ++ ([] ∷ [])) list b began ps

nth-drop : (all : List (List Action)) (i : ℕ) (l : List Action) (ls : List (List Action)) → drop i all ≡ l ∷ ls → (nth_list all i ≡ l) × (drop (suc i) all ≡ ls)
nth-drop [] zero l ls e = absurd cc
nth-drop [] (suc i) l ls e = absurd cc
nth-drop (x ∷ xs) zero l ls e = (first e, rest e)
  where
    first : x ∷ xs ≡ l ∷ ls → x ≡ l
    first h = cc

    rest : x ∷ xs ≡ l ∷ ls → xs ≡ ls
    rest h = cc
nth-drop (x ∷ xs) (suc i) l ls e = nth-drop xs i l ls e

-- the lists of a block with the meanings of their actions
unfoldable pub lists_meant : ActionKind-F (Spot → Meaning) Meaning → List (List Meaning)
lists_meant (ActionKind-F.Parallel lists) = lists
lists_meant _ = []

unfoldable pub meant : List (List Action) → List (List Meaning)
meant lists = lists_meant (map-ActionKind ActionKind Action (Spot → Meaning) Meaning run_kind run_action (ActionKind-F.Parallel lists))

sides-begin : (scopes : Scopes) (all ls : List (List Action)) (i : ℕ) (b : Branch) (began : Began) → drop i all ≡ ls
    → lists_from i (map in_order (meant ls)) scopes b ≡ sides_from i (map continuation (map (side_of scopes) ls)) all b began
unfolding meant lists_meant
sides-begin scopes all [] i b began e = refl
sides-begin scopes all (l ∷ ls) i b began e =
    let at = nth-drop all i l ls e in
    (λ k. (λ ps. (sym (begun scopes l (b ++ (i ∷ [])) (λ c. began (i ∷ c)) ps) ∙ (λ m. continuation (side_of scopes l) (sym at.0 m) (b ++ (i ∷ [])) (λ c. began (i ∷ c)) ps)) k)
    ∷ sides-begin scopes all ls (suc i) b began at.1 k)

pub parallel-done : (sight : Sight) (lists : List (List Action)) (t : Thread)
    → Does sight (ActionKind-F.Parallel lists) t Item.Nothing t (Sides (map (side_of t.scopes) lists))
unfolding meant lists_meant
parallel-done sight lists t list a at kind b began p w rest =
    let all : lists_of (last_action list t) ≡ lists = ap lists_of at ∙ ap lists_in kind in
    ap (gives Item.Nothing)
    ((λ i. side_by_side b (sides-begin t.scopes lists lists 0 b (placed [] p began) refl i) (thread_next b list t.outer t.here t.scopes) rest)
    ∙ (λ i. side_by_side b (sides_from 0 (map continuation (map (side_of t.scopes) lists)) (sym all i) b (placed [] p began)) (thread_next b list t.outer t.here t.scopes) rest)
    ∙ sym (stage-sides (last_action list t) (thread_next b list t.outer t.here) t.scopes b (placed [] p began) rest (map (side_of t.scopes) lists)))

-- ---- a place of another branch

pub elsewhere : (b : Branch) (xs : List Block) (scopes : Scopes) (s : Spot) (rest : List Spot) → bytes_eq s.branch b ≡ false → goes_on b xs scopes (s ∷ rest) ≡ None
elsewhere b [] scopes s rest off = refl
elsewhere b (x ∷ xs) scopes s rest off = by x.left x.round (λ sc. elsewhere b xs sc s rest off)
  where
    by : (left : List Action) (round : Option Round) → ((sc : Scopes) → goes_on b xs sc (s ∷ rest) ≡ None)
        → goes_on b (record { left = left; round = round } ∷ xs) scopes (s ∷ rest) ≡ None
    by [] None later = later (outer scopes)
    by [] (Some r) later = rw off refl
    by (a ∷ left) round later =
        run_action-out a (goes_on b (record { left = left; round = round } ∷ xs)) (at_end b round (goes_on b xs)) scopes b (s ∷ rest) ∙ rw off refl

same-length : (c b : Branch) → bytes_eq c b ≡ true → length c ≡ length b
same-length [] [] h = refl
same-length [] (y ∷ b) h = absurd cc
same-length (x ∷ c) [] h = absurd cc
same-length (x ∷ c) (y ∷ b) h = ap suc (same-length c b (second (nat_eq x y) (bytes_eq c b) h))
  where
    second : (p q : Bool) → (p && q) ≡ true → q ≡ true
    second true q e = e
    second false q e = absurd cc

deeper-off : (b c : Branch) → is_deeper b c ≡ true → bytes_eq c b ≡ false
deeper-off b c h = by (bytes_eq c b) refl
  where
    second : (p q : Bool) → (p && q) ≡ true → q ≡ true
    second true q e = e
    second false q e = absurd cc

    by : (t : Bool) → bytes_eq c b ≡ t → bytes_eq c b ≡ false
    by false e = e
    by true e = absurd (omega (arith, same-length c b e, ltb-true (length b) (length c) (second (starts_with nat_eq c b) (nat_lt (length b) (length c)) h)))

pub on-own : (b : Branch) (k : ℕ) (s : Spot) (f : List Spot) → side b s ≡ k → on_side b k (s ∷ f) ≡ s ∷ on_side b k f
on-own b k s f e = (let h : nat_eq (side b s) k ≡ true = search rules in rw h)

-- ---- a block whose lists have all ended

some-same : (d e : End) → Some d ≡ Some e → d ≡ e
some-same d e h = cc

known-end : (k : Stage-F Stage Strand) (e : End) → end_in k ≡ Some e → k ≡ Stage-F.Ended e
known-end (Stage-F.Ended d) e h = ap Stage-F.Ended (some-same d e h)
known-end Stage-F.Ready e h = absurd cc
known-end (Stage-F.Delay due) e h = absurd cc
known-end (Stage-F.Wait timeout) e h = absurd cc
known-end (Stage-F.Sides strands) e h = absurd cc

pub ended-means : (x : Strand) (e : End) → end_of x ≡ Some e → (list : List Action) (b : Branch) (began : Began) (ps : List Spot)
    → continuation x list b began ps ≡ ends (status_of e) ps
ended-means x e h list b began ps =
    let y = out-Strand x in
    let a = last_action list y.thread in
    let next = thread_next b list y.thread.outer y.thread.here in
    strand-out x list b began ps ∙ stage-out a next y.thread.scopes b began ps y.stage
    ∙ ap (stage_at a next y.thread.scopes b began ps) (known-end (out-Stage y.stage) e h)

over_outcome : Strand → Outcome
over_outcome x = record { items = []; status = option_map_or status_of (end_of x) Status.Done }

split-over : (o : Option End) (later : Bool) → (is_some o && later) ≡ true → ((e : End) × (o ≡ Some e)) × (later ≡ true)
split-over (Some e) later h = ((e, refl), h)
split-over None later h = absurd cc

each-empty : (xs : List Strand) (k i : ℕ) (lists : List (List Action)) (b : Branch) (began : Began) → all_over xs ≡ true
    → all_allowed (each_on b k (sides_from i (map continuation xs) lists b began) []) ≡ Some (map over_outcome xs)
unfolding over_outcome
each-empty [] k i lists b began h = refl
each-empty (x ∷ xs) k i lists b began h =
    let at = split-over (end_of x) (all_over xs) h in
    let first = ended-means x at.0.0 at.0.1 (nth_list lists i) (b ++ (i ∷ [])) (λ c. began (i ∷ c)) [] in
    (λ m. all_allowed (first m ∷ each_on b (suc k) (sides_from (suc i) (map continuation xs) lists b began) []))
    ∙ ap (option_map (λ more. record { items = []; status = status_of at.0.0 } ∷ more)) (each-empty xs (suc k) (suc i) lists b began at.1)
    ∙ (λ m. Some (record { items = []; status = option_map_or status_of (sym at.0.1 m) Status.Done } ∷ map over_outcome xs))

-- with a place of one of them
each-none : (xs : List Strand) (k d i : ℕ) (lists : List (List Action)) (b : Branch) (began : Began) (s : Spot) (f : List Spot) → all_over xs ≡ true
    → side b s ≡ k + d → d < length xs → all_allowed (each_on b k (sides_from i (map continuation xs) lists b began) (s ∷ f)) ≡ None
each-none [] k d i lists b began s f h e lt = absurd (omega (arith, lt))
each-none (x ∷ xs) k zero i lists b began s f h e lt =
    let at = split-over (end_of x) (all_over xs) h in
    let on : on_side b k (s ∷ f) ≡ s ∷ on_side b k f = on-own b k s f (omega (arith, e)) in
    let first = ended-means x at.0.0 at.0.1 (nth_list lists i) (b ++ (i ∷ [])) (λ c. began (i ∷ c)) (s ∷ on_side b k f) in
    (λ m. all_allowed (continuation x (nth_list lists i) (b ++ (i ∷ [])) (λ c. began (i ∷ c)) (on m) ∷ each_on b (suc k) (sides_from (suc i) (map continuation xs) lists b began) (s ∷ f)))
    ∙ (λ m. all_allowed (first m ∷ each_on b (suc k) (sides_from (suc i) (map continuation xs) lists b began) (s ∷ f)))
each-none (x ∷ xs) k (suc d) i lists b began s f h e lt =
    let at = split-over (end_of x) (all_over xs) h in
    let later = each-none xs (suc k) d (suc i) lists b began s f at.1 (omega (arith, e)) (omega (arith, lt)) in
    by (continuation x (nth_list lists i) (b ++ (i ∷ [])) (λ c. began (i ∷ c)) (on_side b k (s ∷ f))) (each_on b (suc k) (sides_from (suc i) (map continuation xs) lists b began) (s ∷ f)) later
  where
    by : (o : Option Outcome) (os : List (Option Outcome)) → all_allowed os ≡ None → all_allowed (o ∷ os) ≡ None
    by None os q = refl
    by (Some x') os q = ap (option_map (λ more. x' ∷ more)) q

halt-same : (xs : List Strand) → first_halt (map over_outcome xs) ≡ option_map status_of (halt_of xs)
unfolding over_outcome
halt-same [] = refl
halt-same (x ∷ xs) = by (end_of x) (halt-same xs)
  where
    by : (o : Option End) → first_halt (map over_outcome xs) ≡ option_map status_of (halt_of xs)
        → halt_or (option_map_or status_of o Status.Done) (first_halt (map over_outcome xs)) ≡ option_map status_of (halts o (halt_of xs))
    by None q = q
    by (Some End.Done) q = q
    by (Some End.Stopped) q = refl
    by (Some End.Faulted) q = refl

none-open : (xs : List Strand) → list_any (λ o. is_open o.status) (map over_outcome xs) ≡ false
unfolding over_outcome
none-open [] = refl
none-open (x ∷ xs) = by (end_of x) (none-open xs)
  where
    by : (o : Option End) → list_any (λ q. is_open q.status) (map over_outcome xs) ≡ false
        → (is_open (option_map_or status_of o Status.Done) || list_any (λ q. is_open q.status) (map over_outcome xs)) ≡ false
    by None q = q
    by (Some End.Done) q = q
    by (Some End.Stopped) q = q
    by (Some End.Faulted) q = q

pub prefixed-none : (o : Option Outcome) → prefixed [] o ≡ o
prefixed-none None = refl
prefixed-none (Some o) = refl

pub sides-length : (xs : List Strand) (i : ℕ) (lists : List (List Action)) (b : Branch) (began : Began) → length (sides_from i (map continuation xs) lists b began) ≡ length xs
sides-length [] i lists b began = refl
sides-length (x ∷ xs) i lists b began = ap suc (sides-length xs (suc i) lists b began)

-- what follows
abbrev pub behind_all : List Strand → (List Spot → Option Outcome) → List Spot → Option Outcome
behind_all xs next ps = option_map_or (λ e. ends (status_of e) ps) (halt_of xs) (next ps)

module _ (xs : List Strand) (lists : List (List Action)) (b : Branch) (began : Began) (h : all_over xs ≡ true) (next : List Spot → Option Outcome) where
  conts : List (List Spot → Option Outcome)
  conts = sides_from 0 (map continuation xs) lists b began

  joined-empty : (ps : List Spot) → joined_lists b next [] ps (all_allowed (each_on b 0 conts [])) ≡ behind_all xs next ps
  unfolding conts
  joined-empty ps =
      ap (joined_lists b next [] ps) (each-empty xs 0 0 lists b began h)
      ∙ prefixed-none (after_lists (map over_outcome xs) next ps)
      ∙ (λ i. if none-open xs i then ends Status.Open ps else option_map_or (λ status. ends status ps) (halt-same xs i) (next ps))
      ∙ by (halt_of xs)
    where
      by : (o : Option End) → option_map_or (λ status. ends status ps) (option_map status_of o) (next ps) ≡ option_map_or (λ e. ends (status_of e) ps) o (next ps)
      by None = refl
      by (Some e) = refl

  pub over-block : ((s : Spot) (rest : List Spot) → is_deeper b s.branch ≡ true → next (s ∷ rest) ≡ None) → (ps : List Spot)
      → side_by_side b (sides_from 0 (map continuation xs) lists b began) next ps ≡ behind_all xs next ps
  unfolding conts joined-empty
  over-block away [] = joined-empty []
  over-block away (s ∷ rest) = by (is_deeper b s.branch) refl
    where
      none-behind : is_deeper b s.branch ≡ true → (o : Option End) → option_map_or (λ e. ends (status_of e) (s ∷ rest)) o (next (s ∷ rest)) ≡ None
      none-behind e None = away s rest e
      none-behind e (Some d) = refl

      tested : (t : Bool) → (t ≡ true → joined_lists b next (s ∷ front b rest) (past_front b rest) (all_allowed (each_on b 0 (sides_from 0 (map continuation xs) lists b began) (s ∷ front b rest))) ≡ None)
          → (if t then joined_lists b next (s ∷ front b rest) (past_front b rest) (all_allowed (each_on b 0 (sides_from 0 (map continuation xs) lists b began) (s ∷ front b rest))) else None) ≡ None
      tested true f = f refl
      tested false f = refl

      first-true : (p q : Bool) → (p && q) ≡ true → p ≡ true
      first-true true q e = refl
      first-true false q e = absurd cc

      by : (t : Bool) → is_deeper b s.branch ≡ t → side_by_side b (sides_from 0 (map continuation xs) lists b began) next (s ∷ rest) ≡ behind_all xs next (s ∷ rest)
      by false e =
          let f : front b (s ∷ rest) ≡ [] = rw e refl in
          let p : past_front b (s ∷ rest) ≡ s ∷ rest = rw e refl in
          (λ i. if list_all (λ q. nat_lt (side b q) (length (sides_from 0 (map continuation xs) lists b began))) (f i)
          then joined_lists b next (f i) (p i) (all_allowed (each_on b 0 (sides_from 0 (map continuation xs) lists b began) (f i))) else None)
          ∙ joined-empty (s ∷ rest)
      by true e =
          let f : front b (s ∷ rest) ≡ s ∷ front b rest = rw e refl in
          let p : past_front b (s ∷ rest) ≡ past_front b rest = rw e refl in
          let test : Bool = list_all (λ q. nat_lt (side b q) (length (sides_from 0 (map continuation xs) lists b began))) (s ∷ front b rest) in
          (λ i. if list_all (λ q. nat_lt (side b q) (length (sides_from 0 (map continuation xs) lists b began))) (f i)
          then joined_lists b next (f i) (p i) (all_allowed (each_on b 0 (sides_from 0 (map continuation xs) lists b began) (f i))) else None)
          ∙ tested test (λ t. ap (joined_lists b next (s ∷ front b rest) (past_front b rest))
          (each-none xs 0 (side b s) 0 lists b began s (front b rest) h (omega arith)
          (omega (
            arith,
            sides-length xs 0 lists b began,
            ltb-true (side b s) (length (sides_from 0 (map continuation xs) lists b began))
                (first-true (nat_lt (side b s) (length (sides_from 0 (map continuation xs) lists b began))) (list_all (λ q. nat_lt (side b q) (length (sides_from 0 (map continuation xs) lists b began))) (front b rest)) t),
          ))))
          ∙ sym (none-behind e (halt_of xs))

-- a block whose lists have all ended ends by the first that stopped or faulted, else it goes on
pub over-stage : (list : List Action) (t : Thread) (xs : List Strand) → all_over xs ≡ true → (b : Branch) (began : Began) (ps : List Spot)
    → thread_on list t (Sides xs) b began ps ≡ option_map_or (λ e. thread_on list t (Stage.Ended e) b began ps) (halt_of xs) (thread_on list t Stage.Ready b began ps)
over-stage list t xs h b began ps =
    let a = last_action list t in
    let next = thread_next b list t.outer t.here in
    stage-sides a next t.scopes b began ps xs
    ∙ over-block xs (lists_of a) b began h (next t.scopes) (λ s rest e. elsewhere b (open_blocks list t.outer t.here) t.scopes s rest (deeper-off b s.branch e)) ps
    ∙ (λ i. option_map_or (λ e. sym (stage-ended a next t.scopes b began ps e) i) (halt_of xs) (sym (stage-ready a next t.scopes b began ps) i))
