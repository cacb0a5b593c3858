-- A branch of a settled strand may step exactly where one more place of it is allowed.
use Rattle.std.proofs.Common.{◌≡◌, ℕ, zero, suc, ◌+◌, ◌<◌, ◌≤◌, Bool, true, false, not, ◌&&◌, ◌||◌, List, [], ◌∷◌, ◌++◌, length, map, take, refl, sym, ap, ◌∙◌, arith, rules, append_assoc}
use Rattle.std.specs.Prelude.{Option, Some, None, is_some, slice_get, option_map, unwrap_or, bytes_eq, nat_eq, nat_le, nat_lt, if◌then◌else◌}
use Rattle.std.specs.List.{list_all}
use Rattle.std.specs.Option.{option_map_or}
use Rattle.std.proofs.lemmas.List.{append-nil}
use Rattle.std.proofs.lemmas.Bool.{lt-ltb, le-ltb}
use Rattle.ha_config.specs.declared.config.Action.{Action}
use Rattle.ha_sight.specs.declared.item.Item.{Item}
use Rattle.ha_sight.specs.declared.waiting.WaitEnd.{WaitEnd}
use Rattle.ha_sight.specs.Scripts.{Branch, Spot, Scopes, Ask, Outcome, Status, flat, ends, gives, woven, all_allowed, after_lists, each_on, joined_lists, side_by_side, side, on_side, front, past_front, is_deeper, scopes_behind}
use Rattle.ha_config.proofs.EqualLemmas.{same-refl}
use Rattle.script_step.specs.declared.thread.Thread.{Thread}
use Rattle.script_step.specs.declared.strand.End.{End}
use Rattle.script_step.specs.declared.strand.Strand.{Strand}
use Rattle.script_step.specs.declared.strand.Stage.{Stage}
use Rattle.script_step.specs.declared.strand.Stage.TheOpen.{Stage-F}
use Rattle.script_step.specs.declared.strand.Stage.TheViews.{out-Stage, out-Strand}
use Rattle.script_step.specs.declared.strand.Stage.TheFolds.{map-Stage}
use Rattle.script_step.specs.Continuation.{Began, Meaning, StageMeaning, May, StageMay, Asks, StageAsks, last_action, open_blocks, thread_next, ask_in, may_go_on, lists_of, nth_list, sides_from, stage_step, continuation, may_side, stage_may, may_step, ask_side, stage_asks, asks}
use Rattle.script_step.specs.Sides.{Standings, all_settled, each_over, stage_standing, standing}
use Rattle.script_step.specs.Step.{stage_meaning}
use Rattle.script_step.proofs.StageLemmas.{stage-out, strand-out}
use Rattle.script_step.proofs.StepLemmas.{may_stage, may-out, ask_stage, asks-out, below, get-behind, get-map, get-none, same-some, within}
use Rattle.script_step.proofs.ParallelLemmas.{elsewhere, on-own, sides-length}
use Rattle.script_step.proofs.ExactLemmas.{EachSome, gives-some, prefixed-some, after-some, blocks-on-nothing}
use Rattle.script_step.proofs.OpenLemmas.{thread-some}
use Rattle.script_step.proofs.SettledLemmas.{StageStanding, stage_stands, standing-out, both, sides-there, joined-open, one-of-strands}

-- ---- a strand whose stage is opened

module _ (x : Strand) (list : List Action) (b : Branch) (began : Began) (s : Spot) (c : Branch) (end : Option WaitEnd) where
  abbrev means_at : Stage-F Stage Strand → Option Outcome
  means_at k = (let t = (out-Strand x).thread in stage_step (map-Stage Stage Strand StageMeaning Meaning stage_meaning continuation k) (last_action list t) (thread_next b list t.outer t.here) t.scopes b began (s ∷ []))

  abbrev may_at : Stage-F Stage Strand → Bool
  may_at k = stage_may (map-Stage Stage Strand StageMay May may_stage may_step k) list (out-Strand x).thread c s.sight.now end

  abbrev asks_at : Stage-F Stage Strand → Option Ask
  asks_at k = (let t = (out-Strand x).thread in stage_asks (map-Stage Stage Strand StageAsks Asks ask_stage asks k) (last_action list t) t.scopes c)

  abbrev settled_at : Stage-F Stage Strand → Bool
  settled_at k = (stage_standing (map-Stage Stage Strand StageStanding Standings stage_stands standing k) list (out-Strand x).thread).settled

  -- exactness at a stage
  abbrev Exact : Stage-F Stage Strand → Type 0
  Exact k = settled_at k ≡ true → s.branch ≡ b ++ c → ((ask : Ask) → asks_at k ≡ Some ask → s.wait_end ask (began c) ≡ end) → is_some (means_at k) ≡ may_at k

  by-stage : Exact (out-Stage (out-Strand x).stage) → (standing x list).settled ≡ true → s.branch ≡ b ++ c
      → ((ask : Ask) → asks x list c ≡ Some ask → s.wait_end ask (began c) ≡ end) → is_some (continuation x list b began (s ∷ [])) ≡ may_step x list c s.sight.now end
  by-stage exact settled branch tells =
      let t = (out-Strand x).thread in
      ap is_some (strand-out x list b began (s ∷ []) ∙ stage-out (last_action list t) (thread_next b list t.outer t.here) t.scopes b began (s ∷ []) (out-Strand x).stage)
      ∙ exact (ap (λ z. z.settled) (sym (standing-out x list)) ∙ settled) branch (λ ask e. tells ask (asks-out x list c ∙ e))
      ∙ sym (may-out x list c s.sight.now end)

-- a branch below is not the branch itself
not-below : (b : Branch) (i : ℕ) (c : Branch) → bytes_eq (b ++ (i ∷ c)) b ≡ false
not-below [] i c = refl
not-below (x ∷ b) i c = ap (λ t. nat_eq x x && t) (not-below b i c) ∙ and-false (nat_eq x x)
  where
    and-false : (t : Bool) → (t && false) ≡ false
    and-false true = refl
    and-false false = refl

-- ---- the stages without lists

off-below : (b : Branch) (c : Branch) (i : ℕ) (s : Spot) → s.branch ≡ b ++ (i ∷ c) → bytes_eq s.branch b ≡ false
off-below b c i s branch = (λ j. bytes_eq (branch j) b) ∙ not-below b i c

on-here : (b : Branch) (s : Spot) → s.branch ≡ b ++ [] → bytes_eq s.branch b ≡ true
on-here b s branch = (λ j. bytes_eq ((branch ∙ append-nil b) j) b) ∙ same-refl b

pub exact-ready : (x : Strand) (list : List Action) (b : Branch) (began : Began) (s : Spot) (c : Branch) (end : Option WaitEnd) → Exact x list b began s c end Stage-F.Ready
exact-ready x list b began s [] end settled branch tells = thread-some list (out-Strand x).thread settled b s (branch ∙ append-nil b) ∙ sym settled
exact-ready x list b began s (i ∷ c) end settled branch tells =
    ap is_some (elsewhere b (open_blocks list (out-Strand x).thread.outer (out-Strand x).thread.here) (out-Strand x).thread.scopes s [] (off-below b c i s branch))

exact-delay : (x : Strand) (list : List Action) (b : Branch) (began : Began) (s : Spot) (c : Branch) (end : Option WaitEnd) (due : ℕ) → Exact x list b began s c end (Stage-F.Delay due)
exact-delay x list b began s [] end due settled branch tells = (let own = on-here b s branch in rw own (by (nat_le due s.sight.now)))
  where
    next : Option Outcome
    next = thread_next b list (out-Strand x).thread.outer (out-Strand x).thread.here (out-Strand x).thread.scopes []

    by : (t : Bool) → is_some (if t then gives Item.Nothing next else None) ≡ t
    by true = gives-some Item.Nothing next (blocks-on-nothing b (open_blocks list (out-Strand x).thread.outer (out-Strand x).thread.here) (out-Strand x).thread.scopes)
    by false = refl
exact-delay x list b began s (i ∷ c) end due settled branch tells = (let off = off-below b c i s branch in rw off refl)

exact-wait : (x : Strand) (list : List Action) (b : Branch) (began : Began) (s : Spot) (c : Branch) (end : Option WaitEnd) (timeout : Option ℕ) → Exact x list b began s c end (Stage-F.Wait timeout)
exact-wait x list b began s [] end timeout settled branch tells =
    let own = on-here b s branch in
    let told = tells (ask_in (last_action list (out-Strand x).thread) timeout (flat (out-Strand x).thread.scopes)) refl in
    rw (own, told) (by end)
  where
    next : Scopes → Option Outcome
    next sc = thread_next b list (out-Strand x).thread.outer (out-Strand x).thread.here sc []

    chosen : (t : Bool) (sc : Scopes) → is_some (if t then next sc else ends Status.Stopped []) ≡ true
    chosen true sc = blocks-on-nothing b (open_blocks list (out-Strand x).thread.outer (out-Strand x).thread.here) sc
    chosen false sc = refl

    by : (e : Option WaitEnd) → is_some (option_map_or (λ w. gives Item.Nothing (if w.done || may_go_on (last_action list (out-Strand x).thread) then next (scopes_behind (ask_in (last_action list (out-Strand x).thread) timeout (flat (out-Strand x).thread.scopes)) w (out-Strand x).thread.scopes) else ends Status.Stopped [])) e None) ≡ is_some e
    by None = refl
    by (Some w) = gives-some Item.Nothing (if w.done || may_go_on (last_action list (out-Strand x).thread) then next (scopes_behind (ask_in (last_action list (out-Strand x).thread) timeout (flat (out-Strand x).thread.scopes)) w (out-Strand x).thread.scopes) else ends Status.Stopped [])
        (chosen (w.done || may_go_on (last_action list (out-Strand x).thread)) (scopes_behind (ask_in (last_action list (out-Strand x).thread) timeout (flat (out-Strand x).thread.scopes)) w (out-Strand x).thread.scopes))
exact-wait x list b began s (i ∷ c) end timeout settled branch tells = (let off = off-below b c i s branch in rw off refl)

exact-ended : (x : Strand) (list : List Action) (b : Branch) (began : Began) (s : Spot) (c : Branch) (end : Option WaitEnd) (e : End) → Exact x list b began s c end (Stage-F.Ended e)
exact-ended x list b began s c end e settled branch tells = refl

-- ---- a parallel block

IsExact : Branch → Type 0
IsExact c = (x : Strand) (list : List Action) (b : Branch) (began : Began) (s : Spot) (end : Option WaitEnd) → (standing x list).settled ≡ true → s.branch ≡ b ++ c
    → ((ask : Ask) → asks x list c ≡ Some ask → s.wait_end ask (began c) ≡ end) → is_some (continuation x list b began (s ∷ [])) ≡ may_step x list c s.sight.now end

is-not : (f : Bool) → not f ≡ true → f ≡ false
is-not true h = absurd cc
is-not false h = refl

-- in the block's own branch no place is allowed, since a list is open
not-deeper : (b : Branch) → is_deeper b b ≡ false
not-deeper b = (let less : nat_lt (length b) (length b) ≡ false = search rules in ap (λ t. bytes_eq b (take (length b) b) && t) less ∙ and-false (bytes_eq b (take (length b) b)))
  where
    and-false : (t : Bool) → (t && false) ≡ false
    and-false true = refl
    and-false false = refl

sides-here : (xs : List Strand) (lists : List (List Action)) (b : Branch) (began : Began) (next : List Spot → Option Outcome) (s : Spot) → all_settled 0 (map standing xs) lists ≡ true
    → each_over (map standing xs) ≡ false → s.branch ≡ b → side_by_side b (sides_from 0 (map continuation xs) lists b began) next (s ∷ []) ≡ None
sides-here xs lists b began next s settled over own =
    let off : is_deeper b s.branch ≡ false = (λ j. is_deeper b (own j)) ∙ not-deeper b in
    let f : front b (s ∷ []) ≡ [] = rw off refl in
    let p : past_front b (s ∷ []) ≡ s ∷ [] = rw off refl in
    (λ j. if list_all (λ q. nat_lt (side b q) (length (sides_from 0 (map continuation xs) lists b began))) (f j)
    then joined_lists b next (f j) (p j) (all_allowed (each_on b 0 (sides_from 0 (map continuation xs) lists b began) (f j))) else None)
    ∙ joined-open b next (s ∷ []) (all_allowed (each_on b 0 (sides_from 0 (map continuation xs) lists b began) [])) (one-of-strands xs 0 0 lists b began settled over)

-- the lists that a place is not of have no place
off-own : (b : Branch) (k : ℕ) (s : Spot) → (side b s ≡ k → ⊥) → on_side b k (s ∷ []) ≡ []
off-own b k s off = (let h : nat_eq (side b s) k ≡ false = search rules in rw h refl)

later-some : (ls : List (List Spot → Option Outcome)) (b : Branch) (k : ℕ) (s : Spot) → side b s < k → EachSome ls → is_some (all_allowed (each_on b k ls (s ∷ []))) ≡ true
later-some [] b k s lt h = refl
later-some (l ∷ ls) b k s lt h =
    (λ j. is_some (all_allowed (l (off-own b k s (λ e. omega (arith, e, lt)) j) ∷ each_on b (suc k) ls (s ∷ []))))
    ∙ by (l []) h.0 (all_allowed (each_on b (suc k) ls (s ∷ []))) (later-some ls b (suc k) s (omega (arith, lt)) h.1) refl
  where
    by : (o : Option Outcome) → is_some o ≡ true → (r : Option (List Outcome)) → is_some r ≡ true → all_allowed (each_on b (suc k) ls (s ∷ [])) ≡ r
        → is_some (all_allowed (o ∷ each_on b (suc k) ls (s ∷ []))) ≡ true
    by None e r f q = absurd cc
    by (Some x) e None f q = absurd cc
    by (Some x) e (Some os) f q = ap (λ m. is_some (option_map (λ more. x ∷ more) m)) q

each-one : (xs : List Strand) (k d i : ℕ) (lists : List (List Action)) (b : Branch) (began : Began) (s : Spot) (y : Strand) → slice_get xs d ≡ Some y → side b s ≡ k + d
    → is_some (all_allowed (each_on b k (sides_from i (map continuation xs) lists b began) (s ∷ [])))
    ≡ is_some (continuation y (nth_list lists (i + d)) (b ++ ((i + d) ∷ [])) (λ c. began ((i + d) ∷ c)) (s ∷ []))
each-one [] k d i lists b began s y get e = absurd cc
each-one (x ∷ xs) k zero i lists b began s y get e =
    let n : i ≡ i + 0 = omega arith in
    (λ j. is_some (all_allowed (continuation x (nth_list lists i) (b ++ (i ∷ [])) (λ c. began (i ∷ c)) (on-own b k s [] (omega (arith, e)) j) ∷ each_on b (suc k) (sides_from (suc i) (map continuation xs) lists b began) (s ∷ []))))
    ∙ by (continuation x (nth_list lists i) (b ++ (i ∷ [])) (λ c. began (i ∷ c)) (s ∷ [])) (all_allowed (each_on b (suc k) (sides_from (suc i) (map continuation xs) lists b began) (s ∷ [])))
    (later-some (sides_from (suc i) (map continuation xs) lists b began) b (suc k) s (omega (arith, e)) (sides-there xs (suc i) lists b began)) refl
    ∙ (λ j. is_some (continuation (same-some x y get j) (nth_list lists (n j)) (b ++ (n j ∷ [])) (λ c. began (n j ∷ c)) (s ∷ [])))
  where
    by : (o : Option Outcome) (r : Option (List Outcome)) → is_some r ≡ true → all_allowed (each_on b (suc k) (sides_from (suc i) (map continuation xs) lists b began) (s ∷ [])) ≡ r
        → is_some (all_allowed (o ∷ each_on b (suc k) (sides_from (suc i) (map continuation xs) lists b began) (s ∷ []))) ≡ is_some o
    by None r f q = refl
    by (Some o) None f q = absurd cc
    by (Some o) (Some os) f q = ap (λ m. is_some (option_map (λ more. o ∷ more) m)) q
each-one (x ∷ xs) k (suc d) i lists b began s y get e =
    let n : suc i + d ≡ i + suc d = omega arith in
    (λ j. is_some (all_allowed (continuation x (nth_list lists i) (b ++ (i ∷ [])) (λ c. began (i ∷ c)) (off-own b k s (λ q. omega (arith, q, e)) j) ∷ each_on b (suc k) (sides_from (suc i) (map continuation xs) lists b began) (s ∷ []))))
    ∙ by (continuation x (nth_list lists i) (b ++ (i ∷ [])) (λ c. began (i ∷ c)) []) ((sides-there (x ∷ xs) i lists b began).0) (all_allowed (each_on b (suc k) (sides_from (suc i) (map continuation xs) lists b began) (s ∷ []))) refl
    ∙ each-one xs (suc k) d (suc i) lists b began s y get (omega (arith, e))
    ∙ (λ j. is_some (continuation y (nth_list lists (n j)) (b ++ (n j ∷ [])) (λ c. began (n j ∷ c)) (s ∷ [])))
  where
    by : (o : Option Outcome) → is_some o ≡ true → (r : Option (List Outcome)) → all_allowed (each_on b (suc k) (sides_from (suc i) (map continuation xs) lists b began) (s ∷ [])) ≡ r
        → is_some (all_allowed (o ∷ each_on b (suc k) (sides_from (suc i) (map continuation xs) lists b began) (s ∷ []))) ≡ is_some (all_allowed (each_on b (suc k) (sides_from (suc i) (map continuation xs) lists b began) (s ∷ [])))
    by None h r q = absurd cc
    by (Some o) h None q = ap (λ m. is_some (option_map (λ more. o ∷ more) m)) q ∙ ap is_some (sym q)
    by (Some o) h (Some os) q = ap (λ m. is_some (option_map (λ more. o ∷ more) m)) q ∙ ap is_some (sym q)

none-length : {X : Type 0} (xs : List X) (i : ℕ) → slice_get xs i ≡ None → length xs ≤ i
none-length [] i e = omega arith
none-length (x ∷ xs) zero e = absurd cc
none-length (x ∷ xs) (suc i) e = omega (arith, none-length xs i e)

settled-at : (xs : List Strand) (k d : ℕ) (lists : List (List Action)) (y : Strand) → all_settled k (map standing xs) lists ≡ true → slice_get xs d ≡ Some y
    → (standing y (nth_list lists (k + d))).settled ≡ true
settled-at [] k d lists y h e = absurd cc
settled-at (x ∷ xs) k zero lists y h e =
    let n : k + 0 ≡ k = omega arith in
    (λ j. (standing (sym (same-some x y e) j) (nth_list lists (n j))).settled) ∙ (both (standing x (nth_list lists k)).settled (all_settled (suc k) (map standing xs) lists) h).0
settled-at (x ∷ xs) k (suc d) lists y h e =
    let n : k + suc d ≡ suc k + d = omega arith in
    (λ j. (standing y (nth_list lists (n j))).settled) ∙ settled-at xs (suc k) d lists y (both (standing x (nth_list lists k)).settled (all_settled (suc k) (map standing xs) lists) h).1 e

module _ (xs : List Strand) (lists : List (List Action)) (b : Branch) (began : Began) (next : List Spot → Option Outcome) (s : Spot) (i : ℕ) (c : Branch) (branch : s.branch ≡ b ++ (i ∷ c)) where
  abbrev conts : List (List Spot → Option Outcome)
  conts = sides_from 0 (map continuation xs) lists b began

  abbrev tested : Bool → Option Outcome
  tested t = if t then joined_lists b next (s ∷ []) [] (all_allowed (each_on b 0 conts (s ∷ []))) else None

  side-is : side b s ≡ i
  side-is = (λ j. unwrap_or (slice_get (branch j) (length b)) 0) ∙ ap (λ o. unwrap_or o 0) (get-behind b c i)

  opened-block : side_by_side b conts next (s ∷ []) ≡ tested (nat_lt i (length conts) && true)
  opened-block =
      let on : is_deeper b s.branch ≡ true = (λ j. is_deeper b (branch j)) ∙ below b c i in
      let f : front b (s ∷ []) ≡ s ∷ [] = rw on refl in
      let p : past_front b (s ∷ []) ≡ [] = rw on refl in
      (λ j. if list_all (λ q. nat_lt (side b q) (length conts)) (f j) then joined_lists b next (f j) (p j) (all_allowed (each_on b 0 conts (f j))) else None)
      ∙ (λ j. tested (nat_lt (side-is j) (length conts) && true))

  pub below-none : slice_get xs i ≡ None → side_by_side b conts next (s ∷ []) ≡ None
  below-none e =
      let less : nat_lt i (length conts) ≡ false = not-less i (length conts) (omega (arith, none-length xs i e, sides-length xs 0 lists b began)) in
      opened-block ∙ (λ j. tested (less j && true))
    where
      not-less : (n m : ℕ) → m ≤ n → nat_lt n m ≡ false
      not-less n m h = search (rules, le-ltb)

  pub below-some : (y : Strand) → slice_get xs i ≡ Some y → is_some (next []) ≡ true
      → is_some (side_by_side b conts next (s ∷ [])) ≡ is_some (continuation y (nth_list lists i) (b ++ (i ∷ [])) (λ d. began (i ∷ d)) (s ∷ []))
  below-some y get n =
      let z : 0 + i ≡ i = omega arith in
      let less : nat_lt i (length conts) ≡ true = lt-ltb i (length conts) (omega (arith, within xs i y get, sides-length xs 0 lists b began)) in
      ap is_some (opened-block ∙ (λ j. tested (less j && true)))
      ∙ by (all_allowed (each_on b 0 conts (s ∷ [])))
      ∙ each-one xs 0 i 0 lists b began s y get (omega (arith, side-is))
      ∙ (λ j. is_some (continuation y (nth_list lists (z j)) (b ++ (z j ∷ [])) (λ d. began (z j ∷ d)) (s ∷ [])))
    where
      by : (r : Option (List Outcome)) → is_some (joined_lists b next (s ∷ []) [] r) ≡ is_some r
      by None = refl
      by (Some os) = prefixed-some (woven b (s ∷ []) (map (λ o. o.items) os)) (after_lists os next []) (after-some os next n)

stage-here : (x : Strand) (list : List Action) (b : Branch) (began : Began) (s : Spot) (end : Option WaitEnd) (k : Stage-F Stage Strand) → Exact x list b began s [] end k
stage-here x list b began s end Stage-F.Ready = exact-ready x list b began s [] end
stage-here x list b began s end (Stage-F.Delay due) = exact-delay x list b began s [] end due
stage-here x list b began s end (Stage-F.Wait timeout) = exact-wait x list b began s [] end timeout
stage-here x list b began s end (Stage-F.Ended e) = exact-ended x list b began s [] end e
stage-here x list b began s end (Stage-F.Sides xs) = λ settled branch tells.
    let t = (out-Strand x).thread in
    let lists = lists_of (last_action list t) in
    let known = both (nat_eq (length (map standing xs)) (length lists)) (all_settled 0 (map standing xs) lists && not (each_over (map standing xs))) settled in
    let more = both (all_settled 0 (map standing xs) lists) (not (each_over (map standing xs))) known.1 in
    ap is_some (sides-here xs lists b began (thread_next b list t.outer t.here t.scopes) s more.0 (is-not (each_over (map standing xs)) more.1) (branch ∙ append-nil b))

stage-below : (c : Branch) → IsExact c → (i : ℕ) (x : Strand) (list : List Action) (b : Branch) (began : Began) (s : Spot) (end : Option WaitEnd) (k : Stage-F Stage Strand)
    → Exact x list b began s (i ∷ c) end k
unfolding IsExact
stage-below c ih i x list b began s end Stage-F.Ready = exact-ready x list b began s (i ∷ c) end
stage-below c ih i x list b began s end (Stage-F.Delay due) = exact-delay x list b began s (i ∷ c) end due
stage-below c ih i x list b began s end (Stage-F.Wait timeout) = exact-wait x list b began s (i ∷ c) end timeout
stage-below c ih i x list b began s end (Stage-F.Ended e) = exact-ended x list b began s (i ∷ c) end e
stage-below c ih i x list b began s end (Stage-F.Sides xs) = λ settled branch tells.
    let known = both (nat_eq (length (map standing xs)) (length lists)) (all_settled 0 (map standing xs) lists && not (each_over (map standing xs))) settled in
    let more = both (all_settled 0 (map standing xs) lists) (not (each_over (map standing xs))) known.1 in
    by (slice_get xs i) refl more.0 branch tells
  where
    t : Thread
    t = (out-Strand x).thread

    lists : List (List Action)
    lists = lists_of (last_action list (out-Strand x).thread)

    next : List Spot → Option Outcome
    next = thread_next b list (out-Strand x).thread.outer (out-Strand x).thread.here (out-Strand x).thread.scopes

    by : (o : Option Strand) → slice_get xs i ≡ o → all_settled 0 (map standing xs) lists ≡ true → s.branch ≡ b ++ (i ∷ c)
        → ((ask : Ask) → ask_side (map asks xs) lists (i ∷ c) ≡ Some ask → s.wait_end ask (began (i ∷ c)) ≡ end)
        → is_some (side_by_side b (sides_from 0 (map continuation xs) lists b began) next (s ∷ [])) ≡ may_side (map may_step xs) lists (i ∷ c) s.sight.now end
    by None e settled branch tells =
        ap is_some (below-none xs lists b began next s i c branch e)
        ∙ sym (ap (λ o. option_map_or (λ m. m (nth_list lists i) c s.sight.now end) o false) (get-none may_step xs i e))
    by (Some y) e settled branch tells =
        let z : 0 + i ≡ i = omega arith in
        below-some xs lists b began next s i c branch y e (blocks-on-nothing b (open_blocks list (out-Strand x).thread.outer (out-Strand x).thread.here) (out-Strand x).thread.scopes)
        ∙ ih y (nth_list lists i) (b ++ (i ∷ [])) (λ d. began (i ∷ d)) s end ((λ j. (standing y (nth_list lists (sym z j))).settled) ∙ settled-at xs 0 i lists y settled e)
        (branch ∙ sym (append_assoc b (i ∷ []) c))
        (λ ask q. tells ask (ap (λ o. option_map_or (λ m. m (nth_list lists i) c) o None) (get-map asks xs i y e) ∙ q))
        ∙ sym (ap (λ o. option_map_or (λ m. m (nth_list lists i) c s.sight.now end) o false) (get-map may_step xs i y e))

-- a branch of a settled strand may step exactly where one more place of it, which tells that end of its wait, is allowed
pub exact : (c : Branch) (x : Strand) (list : List Action) (b : Branch) (began : Began) (s : Spot) (end : Option WaitEnd) → (standing x list).settled ≡ true → s.branch ≡ b ++ c
    → ((ask : Ask) → asks x list c ≡ Some ask → s.wait_end ask (began c) ≡ end) → is_some (continuation x list b began (s ∷ [])) ≡ may_step x list c s.sight.now end
unfolding IsExact
exact [] x list b began s end settled branch tells = by-stage x list b began s [] end (stage-here x list b began s end (out-Stage (out-Strand x).stage)) settled branch tells
exact (i ∷ c) x list b began s end settled branch tells =
    by-stage x list b began s (i ∷ c) end (stage-below c (exact c) i x list b began s end (out-Stage (out-Strand x).stage)) settled branch tells
