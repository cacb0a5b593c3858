-- The branch of an allowed place is among those that the script has.
use Rattle.std.proofs.Common.{◌≡◌, ℕ, zero, suc, ◌+◌, ◌-◌, ◌<◌, ◌≤◌, ◌⊎◌, inl, inr, List, [], ◌∷◌, ◌++◌, length, map, filter, Bool, true, false, refl, sym, ap, subst, ◌∙◌, arith, Option, append_assoc}
use Rattle.std.specs.Prelude.{Some, None, Ok, Err, is_some, nat_eq, nat_le, nat_lt, option_map, ◌||◌, if◌then◌else◌, bytes_eq}
use Rattle.std.specs.List.{list_any, list_all}
use Rattle.std.specs.Option.{option_map_or}
use Rattle.std.proofs.lemmas.Bool.{leb-true}
use Rattle.std.proofs.lemmas.Bool.Decides.{eqb_tells, leb_tells, nat_tests}
use Rattle.std.proofs.lemmas.Slice.Eq.{bytes_eq-Decides}
use Rattle.ha_config.specs.declared.config.Condition.{Condition}
use Rattle.ha_config.specs.declared.config.RepeatKind.{RepeatKind}
use Rattle.ha_config.specs.declared.config.Action.{Action}
use Rattle.ha_config.specs.declared.config.ActionKind.{ActionKind}
use Rattle.ha_config.specs.declared.config.ActionKind.TheOpen.{ActionKind-F, Action-F}
use Rattle.ha_config.specs.declared.config.ActionKind.TheViews.{roll-ActionKind, roll-Action}
use Rattle.ha_config.specs.declared.config.ActionKind.TheFolds.{map-ActionKind, map-Action, ind-Action}
use Rattle.ha_sight.specs.declared.item.Item.{Item}
use Rattle.ha_model.specs.declared.record.Record.{Record}
use Rattle.ha_config.specs.Words.{Pairs, comes_before}
use Rattle.ha_journal.specs.Journal.{Journal, units}
use Rattle.ha_sight.specs.Sight.{Sight}
use Rattle.ha_sight.specs.Conditions.{hold_all, holds}
use Rattle.ha_sight.specs.Calls.{Checked, call_item, span_of, spans_of, count_of, forms_of, fields_of}
use Rattle.ha_sight.specs.Scripts.{Branch, Scopes, Ask, Spot, Status, Outcome, Next, Part, Meaning, flat, prefixed, gives, ends, with_place, in_order, outer, is_deeper, front, past_front, side, on_side, woven, Loop, all_allowed, is_open, first_halt, after_lists, each_on, joined_lists, side_by_side, after_turn, turns, looped, count_loop, each_loop, while_loop, until_loop, most_turns, failed, on_checked, repeated, goes_into, lists_from, parallel, chosen, set_all, delayed, waited, called, kind_step, run_action, call_ask, scopes_behind, behind_call}
use Rattle.ha_sight.specs.Branches.{among, union, union_all, branches_from, kind_branches, action_branches, branches_of}
use Rattle.ha_model.specs.Records.{Records, actions_of, spots, ran_on, next_spot}
use Rattle.ha_model.specs.Lawful.{may_step}
use Rattle.ha_sight.proofs.Rolls.{run_kind, run_action-roll, run_kind-roll, below_kind, action_branches-roll, below_kind-roll}
use Rattle.ha_sight.specs.Items.{awaits_end}
use Rattle.ha_config.proofs.EqualLemmas.{same-refl, and_left, and_right}
use Rattle.ha_config.proofs.ListLemmas.{none-some, true-false}

-- ---- what holds of each branch of a list

abbrev Each : (Branch → Type 0) → List Branch → Type 0
Each P [] = Unit {0}
Each P (b ∷ bs) = P b × Each P bs

abbrev EachList : (Branch → Type 0) → List (List Branch) → Type 0
EachList P [] = Unit {0}
EachList P (bs ∷ rest) = Each P bs × EachList P rest

neither-before : (b c : Branch) → comes_before b c ≡ false → comes_before c b ≡ false → b ≡ c
neither-before [] [] h g = refl
neither-before [] (y ∷ ys) h g = absurd (true-false h)
neither-before (x ∷ xs) [] h g = absurd (true-false g)
neither-before (x ∷ xs) (y ∷ ys) h g = elim (eqb_tells x y) [
  | inl same ↦
      let at : x ≡ y = same.1 in
      let one : nat_lt x y ≡ false = grind (arith, nat_tests, at) in
      let two : nat_lt y x ≡ false = grind (arith, nat_tests, at) in
      let three : nat_eq x y ≡ true = same.0 in
      let four : nat_eq y x ≡ true = grind (arith, nat_tests, at) in
      let rest = neither-before xs ys (sym (λ i. if one i then true else (if three i then comes_before xs ys else false)) ∙ h) (sym (λ i. if two i then true else (if four i then comes_before ys xs else false)) ∙ g) in
      (λ i. at i ∷ rest i)
  | inr other ↦ elim (leb_tells (suc x) y) [
    | inl less ↦ let one : nat_lt x y ≡ true = less.0 in absurd (true-false (sym (λ i. if one i then true else (if nat_eq x y then comes_before xs ys else false)) ∙ h))
    | inr more ↦
        let apart = other.1 in
        let above = more.1 in
        let two : nat_lt y x ≡ true = grind (arith, nat_tests, apart, above) in
        absurd (true-false (sym (λ i. if two i then true else (if nat_eq y x then comes_before ys xs else false)) ∙ g))
  ]
]

module _ (P : Branch → Type 0) where
  each-among : (b : Branch) (cs : List Branch) → Each P (among b cs) → P b × Each P cs
  each-among b [] h = (h.0, tt)
  each-among b (c ∷ cs) h = by (comes_before b c) refl (comes_before c b) refl (each-among b cs) h
    where
      by : (t : Bool) → comes_before b c ≡ t → (u : Bool) → comes_before c b ≡ u → (Each P (among b cs) → P b × Each P cs)
          → Each P (if t then b ∷ c ∷ cs else (if u then c ∷ among b cs else c ∷ cs)) → P b × Each P (c ∷ cs)
      by true e u f ih h = h
      by false e true f ih h = (let r = ih h.1 in (r.0, (h.0, r.1)))
      by false e false f ih h = (subst P (sym (neither-before b c e f)) h.0, h)

  each-union : (bs cs : List Branch) → Each P (union bs cs) → Each P bs × Each P cs
  each-union [] cs h = (tt, h)
  each-union (b ∷ bs) cs h = (let r = each-among b (union bs cs) h in let q = each-union bs cs r.1 in ((r.0, q.0), q.1))

  each-all : (bss : List (List Branch)) → Each P (union_all bss) → EachList P bss
  each-all [] h = tt
  each-all (bs ∷ rest) h = (let r = each-union bs (union_all rest) h in (r.0, each-all rest r.1))

  each-map : (f : Branch → Branch) (bs : List Branch) → Each P (map f bs) → Each (λ d. P (f d)) bs
  each-map f [] h = tt
  each-map f (b ∷ bs) h = (h.0, each-map f bs h.1)

each-then : (P Q : Branch → Type 0) → ((d : Branch) → P d → Q d) → (bs : List Branch) → Each P bs → Each Q bs
each-then P Q f [] h = tt
each-then P Q f (b ∷ bs) h = (f b h.0, each-then P Q f bs h.1)

-- ---- what follows takes only places of these branches

gives-some : (item : Item) (r : Option Outcome) (o : Outcome) → gives item r ≡ Some o → (x : Outcome) × (r ≡ Some x)
gives-some item None o h = absurd (none-some o h)
gives-some item (Some x) o h = (x, refl)

prefixed-some : (items : List Item) (r : Option Outcome) (o : Outcome) → prefixed items r ≡ Some o → (x : Outcome) × (r ≡ Some x)
prefixed-some items None o h = absurd (none-some o h)
prefixed-some items (Some x) o h = (x, refl)

module _ (B : Branch → Type 0) where
  abbrev Takes : (List Spot → Option Outcome) → Type 0
  Takes k = (ps : List Spot) (s : Spot) (o : Outcome) → k (ps ++ (s ∷ [])) ≡ Some o → B s.branch

  abbrev AllTake : Next → Type 0
  AllTake next = (scopes : Scopes) → Takes (next scopes)

  takes-same : (k k' : List Spot → Option Outcome) → ((ps : List Spot) → k ps ≡ k' ps) → Takes k' → Takes k
  takes-same k k' same h ps s o e = h ps s o (sym (same (ps ++ (s ∷ []))) ∙ e)

  takes-ends : (status : Status) → Takes (ends status)
  takes-ends status [] s o h = absurd (none-some o h)
  takes-ends status (p ∷ ps) s o h = absurd (none-some o h)

  takes-gives : (item : Item) (k : List Spot → Option Outcome) → Takes k → Takes (λ ps. gives item (k ps))
  takes-gives item k h ps s o e = (let r = gives-some item (k (ps ++ (s ∷ []))) o e in h ps s r.0 r.1)

  takes-failed : (code : ℕ) → Takes (failed code)
  takes-failed code = takes-gives (Item.Failed code) (ends Status.Faulted) (takes-ends Status.Faulted)

  takes-none : Takes (λ ps. None)
  takes-none ps s o e = absurd (none-some o e)

  takes-if : (c : Bool) (k k' : List Spot → Option Outcome) → Takes k → Takes k' → Takes (λ ps. if c then k ps else k' ps)
  takes-if true k k' h g = h
  takes-if false k k' h g = g

  takes-place : (b : Branch) (k : Spot → List Spot → Option Outcome) → B b → ((p : Spot) → Takes (k p)) → Takes (λ ps. with_place b ps k)
  takes-place b k own h [] s o e = by (bytes_eq s.branch b) refl e
    where
      by : (c : Bool) → bytes_eq s.branch b ≡ c → (if c then k s [] else None) ≡ Some o → B s.branch
      by true same e = subst B (sym ((bytes_eq-Decides s.branch b).0 same)) own
      by false same e = absurd (none-some o e)
  takes-place b k own h (p ∷ ps) s o e = by (bytes_eq p.branch b) e
    where
      by : (c : Bool) → (if c then k p (ps ++ (s ∷ [])) else None) ≡ Some o → B s.branch
      by true e = h p ps s o e
      by false e = absurd (none-some o e)

  takes-checked : {A : Type 0} (f : A → List Spot → Option Outcome) → ((x : A) → Takes (f x)) → (r : Checked A) → Takes (λ rest. on_checked (λ x. f x rest) r rest)
  takes-checked f h (Ok x) = h x
  takes-checked f h (Err code) = takes-failed code

  takes-option : {A : Type 0} (f : A → List Spot → Option Outcome) → ((x : A) → Takes (f x)) → (r : Option A) (k : List Spot → Option Outcome) → Takes k → Takes (λ rest. option_map_or (λ x. f x rest) r (k rest))
  takes-option f h None k g = g
  takes-option f h (Some x) k g = h x

  -- ---- parts of a script in branch b

  abbrev IsGood : Branch → Part → Type 0
  IsGood b part = (next : Next) → AllTake next → (scopes : Scopes) → Takes (part next scopes b)

  abbrev IsGoodMeaning : Branch → Meaning → Type 0
  IsGoodMeaning b m = (next end : Next) → AllTake next → AllTake end → (scopes : Scopes) → Takes (m next end scopes b)

  module _ (b : Branch) (own : B b) where
    good-called : (item : Item) (k : List Spot → Option Outcome) → Takes k → Takes (λ rest. called item (k rest) rest)
    good-called Item.Nothing k h = takes-gives Item.Nothing k h
    good-called (Item.Call service target fields) k h = takes-gives (Item.Call service target fields) k h
    good-called (Item.Fired kind pairs) k h = takes-gives (Item.Fired kind pairs) k h
    good-called (Item.Switched targets) k h = takes-gives (Item.Switched targets) k h
    good-called (Item.Triggered all skip) k h = takes-gives (Item.Triggered all skip) k h
    good-called (Item.Failed code) k h = takes-failed code
    good-called (Item.Started scripts fields waits) k h = takes-gives (Item.Started scripts fields waits) k h
    good-called (Item.Halted scripts) k h = takes-gives (Item.Halted scripts) k h
    good-called (Item.Helped changes) k h = takes-gives (Item.Helped changes) k h

    good-delayed : (due : ℕ) → IsGood b (delayed due)
    good-delayed due next h scopes =
        takes-place b (λ s after. if nat_le due s.sight.now then gives Item.Nothing (next scopes after) else None) own
        (λ s. takes-if (nat_le due s.sight.now) (λ after. gives Item.Nothing (next scopes after)) (λ after. None) (takes-gives Item.Nothing (next scopes) (h scopes)) takes-none)

    good-waited : (ask : Ask) (go_on : Bool) (p : ℕ) → IsGood b (waited ask go_on p)
    good-waited ask go_on p next h scopes =
        takes-place b (λ s after. option_map_or (λ e. gives Item.Nothing (if e.done || go_on then next (scopes_behind ask e scopes) after else ends Status.Stopped after)) (s.wait_end ask p) None) own
        (λ s. takes-option (λ e after. gives Item.Nothing (if e.done || go_on then next (scopes_behind ask e scopes) after else ends Status.Stopped after))
        (λ e. takes-gives Item.Nothing (λ after. if e.done || go_on then next (scopes_behind ask e scopes) after else ends Status.Stopped after)
        (takes-if (e.done || go_on) (next (scopes_behind ask e scopes)) (ends Status.Stopped) (h (scopes_behind ask e scopes)) (takes-ends Status.Stopped)))
        (s.wait_end ask p) (λ after. None) takes-none)

    good-behind : (item : Item) (p : ℕ) → IsGood b (behind_call item p)
    good-behind item p next h scopes = by (awaits_end item)
      where
        by : (t : Bool) → Takes (λ rest. if t then waited (call_ask scopes) true p next scopes b rest else next scopes rest)
        by true = good-waited (call_ask scopes) true p next h scopes
        by false = h scopes

    good-into : (part : Part) → IsGood b part → IsGood b (goes_into part)
    good-into part good next h scopes = takes-gives Item.Nothing (part (λ s p. next (outer s) p) (scopes ++ ([] ∷ [])) b) (good (λ s p. next (outer s) p) (λ s. h (outer s)) (scopes ++ ([] ∷ [])))

    module _ (body : Part) (good : IsGood b body) (loop : Loop) (next : Next) (h : AllTake next) where
      takes-turn : (i : ℕ) (again : Next) → AllTake again → AllTake (after_turn body loop b next i again)
      takes-turn i again g scopes =
          takes-place b (λ q rest. if loop.enters (suc i) (outer scopes) q.sight then again (outer scopes) rest else gives Item.Nothing (next (outer scopes) rest)) own
          (λ q. takes-if (loop.enters (suc i) (outer scopes) q.sight) (again (outer scopes)) (λ rest. gives Item.Nothing (next (outer scopes) rest)) (g (outer scopes)) (takes-gives Item.Nothing (next (outer scopes)) (h (outer scopes))))

      takes-turns : (more i : ℕ) → AllTake (turns body loop b next more i)
      unfolding turns
      takes-turns zero i scopes =
          good (after_turn body loop b next i (λ s rest. gives (Item.Failed 6) (ends Status.Faulted rest)))
          (takes-turn i (λ s rest. gives (Item.Failed 6) (ends Status.Faulted rest)) (λ s. takes-failed 6)) (scopes ++ (loop.variables i ∷ []))
      takes-turns (suc more) i scopes =
          good (after_turn body loop b next i (λ s rest. gives Item.Nothing (turns body loop b next more (suc i) s rest)))
          (takes-turn i (λ s rest. gives Item.Nothing (turns body loop b next more (suc i) s rest)) (λ s. takes-gives Item.Nothing (turns body loop b next more (suc i) s) (takes-turns more (suc i) s))) (scopes ++ (loop.variables i ∷ []))

      takes-looped : (entered : Bool) (more : ℕ) → AllTake (looped body loop b next entered more)
      takes-looped true more scopes = takes-gives Item.Nothing (turns body loop b next more 1 scopes) (takes-turns more 1 scopes)
      takes-looped false more scopes = takes-gives Item.Nothing (next scopes) (h scopes)

    good-repeated : (kind : RepeatKind) (body : Part) → IsGood b body → (p : Spot) → IsGood b (repeated kind body p)
    good-repeated (RepeatKind.Count t) body good p next h scopes =
        takes-checked (λ n. looped body (count_loop n) b next (nat_le 1 n) (n - 1) scopes) (λ n. takes-looped body good (count_loop n) next h (nat_le 1 n) (n - 1) scopes) (count_of p.sight (flat scopes) t)
    good-repeated (RepeatKind.Each fs) body good p next h scopes =
        takes-option (λ vs. looped body (each_loop vs) b next (nat_le 1 (length vs)) (length vs - 1) scopes) (λ vs. takes-looped body good (each_loop vs) next h (nat_le 1 (length vs)) (length vs - 1) scopes)
        (forms_of p.sight (flat scopes) fs) (failed 1) (takes-failed 1)
    good-repeated (RepeatKind.While cs) body good p next h scopes = takes-looped body good (while_loop cs) next h ((while_loop cs).enters 1 scopes p.sight) (most_turns - 1) scopes
    good-repeated (RepeatKind.Until cs) body good p next h scopes = takes-looped body good (until_loop cs) next h true (most_turns - 1) scopes

  -- ---- lists side by side

  abbrev EachTakes : List (List Spot → Option Outcome) → Type 0
  EachTakes [] = Unit {0}
  EachTakes (l ∷ ls) = Takes l × EachTakes ls

  takes-lists : (os : List Outcome) (next : List Spot → Option Outcome) → Takes next → Takes (after_lists os next)
  takes-lists os next h =
      takes-if (list_any (λ o. is_open o.status) os) (ends Status.Open) (λ past. option_map_or (λ status. ends status past) (first_halt os) (next past)) (takes-ends Status.Open)
      (takes-option (λ status. ends status) (λ status. takes-ends status) (first_halt os) next h)

  module _ (b : Branch) where
    -- the last of these places stands behind the front, or all of them are the front
    split : (ps : List Spot) (s : Spot) → ((past : List Spot) × (past_front b (ps ++ (s ∷ [])) ≡ past ++ (s ∷ []))) ⊎ (front b (ps ++ (s ∷ [])) ≡ ps ++ (s ∷ []))
    split [] s = by (is_deeper b s.branch)
      where
        by : (c : Bool) → ((past : List Spot) × ((if c then past_front b [] else s ∷ []) ≡ past ++ (s ∷ []))) ⊎ ((if c then s ∷ front b [] else []) ≡ s ∷ [])
        by true = inr refl
        by false = inl ([], refl)
    split (p ∷ ps) s = by (is_deeper b p.branch) (split ps s)
      where
        by : (c : Bool) → ((past : List Spot) × (past_front b (ps ++ (s ∷ [])) ≡ past ++ (s ∷ []))) ⊎ (front b (ps ++ (s ∷ [])) ≡ ps ++ (s ∷ []))
            → ((past : List Spot) × ((if c then past_front b (ps ++ (s ∷ [])) else p ∷ (ps ++ (s ∷ []))) ≡ past ++ (s ∷ []))) ⊎ ((if c then p ∷ front b (ps ++ (s ∷ [])) else []) ≡ p ∷ (ps ++ (s ∷ [])))
        by false rest = inl (p ∷ ps, refl)
        by true (inl behind) = inl behind
        by true (inr all) = inr (λ i. p ∷ all i)

    filter-last : (test : Spot → Bool) (ps : List Spot) (s : Spot) → test s ≡ true → filter test (ps ++ (s ∷ [])) ≡ filter test ps ++ (s ∷ [])
    filter-last test [] s h = (λ i. if h i then s ∷ [] else [])
    filter-last test (p ∷ ps) s h = by (test p) (filter-last test ps s h)
      where
        by : (c : Bool) → filter test (ps ++ (s ∷ [])) ≡ filter test ps ++ (s ∷ []) → (if c then p ∷ filter test (ps ++ (s ∷ [])) else filter test (ps ++ (s ∷ []))) ≡ (if c then p ∷ filter test ps else filter test ps) ++ (s ∷ [])
        by true e = (λ i. p ∷ e i)
        by false e = e

    all-last : (test : Spot → Bool) (ps : List Spot) (s : Spot) → list_all test (ps ++ (s ∷ [])) ≡ true → test s ≡ true
    all-last test [] s h = and_left (test s) true h
    all-last test (p ∷ ps) s h = all-last test ps s (and_right (test p) (list_all test (ps ++ (s ∷ []))) h)

    one-side : (i : ℕ) (ls : List (List Spot → Option Outcome)) → EachTakes ls → (ps : List Spot) (s : Spot) (os : List Outcome) → all_allowed (each_on b i ls (ps ++ (s ∷ []))) ≡ Some os
        → i ≤ side b s → side b s < i + length ls → B s.branch
    one-side i [] h ps s os e low high = absurd (omega (arith, low, high))
    one-side i (l ∷ ls) h ps s os e low high =
        by (λ more q above. one-side (suc i) ls h.1 ps s more q above (omega (arith, high))) (l (on_side b i (ps ++ (s ∷ [])))) refl e
      where
        rest : (r : Option (List Outcome)) (x : Outcome) → option_map {T = List Outcome} {U = List Outcome} (λ more. x ∷ more) r ≡ Some os → (more : List Outcome) × (r ≡ Some more)
        rest None x e = absurd (none-some os e)
        rest (Some more) x e = (more, refl)

        by : ((more : List Outcome) → all_allowed (each_on b (suc i) ls (ps ++ (s ∷ []))) ≡ Some more → suc i ≤ side b s → B s.branch)
            → (r : Option Outcome) → l (on_side b i (ps ++ (s ∷ []))) ≡ r → all_allowed (r ∷ each_on b (suc i) ls (ps ++ (s ∷ []))) ≡ Some os → B s.branch
        by later None q e = absurd (none-some os e)
        by later (Some x) q e = elim (eqb_tells (side b s) i) [
          | inl same ↦ h.0 (filter (λ y. nat_eq (side b y) i) ps) s x (ap l (sym (filter-last (λ y. nat_eq (side b y) i) ps s same.0)) ∙ q)
          | inr other ↦
              (let apart = other.1 in
              let behind = rest (all_allowed (each_on b (suc i) ls (ps ++ (s ∷ [])))) x e in
              later behind.0 behind.1 (omega (arith, low, apart)))
        ]

    takes-side : (ls : List (List Spot → Option Outcome)) → EachTakes ls → (next : List Spot → Option Outcome) → Takes next → Takes (side_by_side b ls next)
    takes-side ls h next g ps s o e = by (list_all is_side (front b whole_list)) refl e
      where
        whole_list : List Spot
        whole_list = ps ++ (s ∷ [])

        is_side : Spot → Bool
        is_side y = nat_lt (side b y) (length ls)

        joined : list_all is_side (front b whole_list) ≡ true → (r : Option (List Outcome)) → all_allowed (each_on b 0 ls (front b whole_list)) ≡ r
            → joined_lists b next (front b whole_list) (past_front b whole_list) r ≡ Some o → B s.branch
        joined all None q e = absurd (none-some o e)
        joined all (Some os) q e =
            let after = prefixed-some (woven b (front b whole_list) (map {A = Outcome} {B = List Item} (λ x. x.items) os)) (after_lists os next (past_front b whole_list)) o e in
            elim (split ps s) [
              | inl behind ↦ takes-lists os next g behind.0 s after.0 (ap (after_lists os next) (sym behind.1) ∙ after.1)
              | inr same ↦
                  (let less : nat_lt (side b s) (length ls) ≡ true = all-last is_side ps s (subst (λ l. list_all is_side l ≡ true) same all) in
                  let within : side b s < length ls = leb-true (suc (side b s)) (length ls) less in
                  one-side 0 ls h ps s os ((λ i. all_allowed (each_on b 0 ls (sym same i))) ∙ q) (omega arith) (omega (arith, within)))
            ]

        by : (c : Bool) → list_all is_side (front b whole_list) ≡ c
            → (if c then joined_lists b next (front b whole_list) (past_front b whole_list) (all_allowed (each_on b 0 ls (front b whole_list))) else None) ≡ Some o → B s.branch
        by true all e = joined all (all_allowed (each_on b 0 ls (front b whole_list))) refl e
        by false all e = absurd (none-some o e)

    -- each list in a branch of its own
    abbrev EachGoodFrom : ℕ → List Part → Type 0
    EachGoodFrom i [] = Unit {0}
    EachGoodFrom i (l ∷ ls) = IsGood (b ++ (i ∷ [])) l × EachGoodFrom (suc i) ls

    lists-take : (i : ℕ) (ls : List Part) (scopes : Scopes) → EachGoodFrom i ls → EachTakes (lists_from i ls scopes b)
    lists-take i [] scopes h = tt
    lists-take i (l ∷ ls) scopes h = (h.0 (λ s p. ends Status.Done p) (λ s. takes-ends Status.Done) (scopes ++ ([] ∷ [])), lists-take (suc i) ls scopes h.1)

    good-parallel : (ls : List Part) → EachGoodFrom 0 ls → IsGood b (parallel ls)
    good-parallel ls h next g scopes =
        takes-gives Item.Nothing (side_by_side b (lists_from 0 ls scopes b) (next scopes)) (takes-side (lists_from 0 ls scopes b) (lists-take 0 ls scopes h) (next scopes) (g scopes))

  -- ---- by induction on the script

  abbrev Behind : Branch → List Branch → Type 0
  Behind b bs = Each (λ d. B (b ++ d)) bs

  abbrev KindTakes : ActionKind → Type 0
  KindTakes k = (b : Branch) → B b → Behind b (below_kind k) → (p : Spot) → IsGoodMeaning b (run_kind k p)

  abbrev ActionTakes : Action → Type 0
  ActionTakes a = (b : Branch) → B b → Behind b (action_branches a) → IsGoodMeaning b (run_action a)

  abbrev KindProved : Type 0
  KindProved = (k : ActionKind) × KindTakes k

  abbrev ActionProved : Type 0
  ActionProved = (a : Action) × ActionTakes a

  abbrev plain : List ActionProved → List Action
  plain acts = map {A = ActionProved} {B = Action} (λ e. e.0) acts

  list-good : (b : Branch) → B b → (acts : List ActionProved) → Behind b (union_all (map action_branches (plain acts))) → IsGood b (in_order (map run_action (plain acts)))
  list-good b own [] h end g scopes = g scopes
  list-good b own (a ∷ acts) h end g scopes =
      let parts = each-union (λ d. B (b ++ d)) (action_branches a.0) (union_all (map action_branches (plain acts))) h in
      a.1 b own parts.0 (λ s p. in_order (map run_action (plain acts)) end s b p) end (λ s. list-good b own acts parts.1 end g s) g scopes

  abbrev Options : Type 0
  Options = List (List Condition × List ActionProved)

  abbrev plain_options : Options → List (List Condition × List Action)
  plain_options options = map {A = List Condition × List ActionProved} {B = List Condition × List Action} (λ x. (x.0, plain x.1)) options

  abbrev option_parts : Options → List (List Condition × Part)
  option_parts options = map {A = List Condition × List Meaning} {B = List Condition × Part} (λ x. (x.0, in_order x.1))
      (map {A = List Condition × List Action} {B = List Condition × List Meaning} (λ x. (x.0, map run_action x.1)) (plain_options options))

  abbrev option_branches : Options → List (List Branch)
  option_branches options = map {A = List Condition × List (List Branch)} {B = List Branch} (λ x. union_all x.1)
      (map {A = List Condition × List Action} {B = List Condition × List (List Branch)} (λ x. (x.0, map action_branches x.1)) (plain_options options))

  chosen-good : (b : Branch) → B b → (options : Options) → Behind b (union_all (option_branches options)) → (other : Part) → IsGood b other → (sight : Sight) (env : Pairs)
      → IsGood b (chosen (option_parts options) other sight env)
  chosen-good b own [] h other g sight env = g
  chosen-good b own (x ∷ xs) h other g sight env =
      let parts = each-union (λ d. B (b ++ d)) (union_all (map action_branches (plain x.1))) (union_all (option_branches xs)) h in
      by (hold_all sight x.0 env) (list-good b own x.1 parts.0) (chosen-good b own xs parts.1 other g sight env)
    where
      by : (c : Bool) → IsGood b (in_order (map run_action (plain x.1))) → IsGood b (chosen (option_parts xs) other sight env)
          → IsGood b (if c then in_order (map run_action (plain x.1)) else chosen (option_parts xs) other sight env)
      by true here there = here
      by false here there = there

  lists-good : (b : Branch) (i : ℕ) (lists : List (List ActionProved))
      → Behind b (branches_from i (map {A = List Action} {B = List (List Branch)} (λ l. map action_branches l) (map {A = List ActionProved} {B = List Action} plain lists)))
      → EachGoodFrom b i (map in_order (map {A = List Action} {B = List Meaning} (λ l. map run_action l) (map {A = List ActionProved} {B = List Action} plain lists)))
  lists-good b i [] h = tt
  lists-good b i (l ∷ ls) h =
      let bs = union_all (map action_branches (plain l)) in
      let parts = each-union (λ d. B (b ++ d)) ((i ∷ []) ∷ map (λ d. i ∷ d) bs)
      (branches_from (suc i) (map {A = List Action} {B = List (List Branch)} (λ l. map action_branches l) (map {A = List ActionProved} {B = List Action} plain ls))) h in
      let inside = each-then (λ d. B (b ++ (i ∷ d))) (λ d. B ((b ++ (i ∷ [])) ++ d)) (λ d one. subst B (sym (append_assoc b (i ∷ []) d)) one) bs (each-map (λ d. B (b ++ d)) (λ d. i ∷ d) bs parts.0.1) in
      (list-good (b ++ (i ∷ [])) parts.0.0 l inside, lists-good b (suc i) ls parts.1)

  abbrev plain_kind : ActionKind-F KindProved ActionProved → ActionKind-F ActionKind Action
  plain_kind y = map-ActionKind KindProved ActionProved ActionKind Action (λ e. e.0) (λ e. e.0) y

  kind-good : (y : ActionKind-F KindProved ActionProved) (b : Branch) → B b
      → Behind b (kind_branches (map-ActionKind ActionKind Action (List Branch) (List Branch) below_kind action_branches (plain_kind y))) → (p : Spot)
      → IsGoodMeaning b (kind_step (map-ActionKind ActionKind Action (Spot → Meaning) Meaning run_kind run_action (plain_kind y)) p)
  kind-good (ActionKind-F.Call service target fields) b own h p next end g t scopes =
      (let item : Item = call_item p.sight (flat scopes) service target fields in
      good-called b own item (behind_call item p.place next scopes b) (good-behind b own item p.place next g scopes))
  kind-good (ActionKind-F.Delay form) b own h p next end g t scopes =
      takes-checked (λ d rest. gives Item.Nothing (delayed (p.sight.now + d) next scopes b rest))
      (λ d. takes-gives Item.Nothing (delayed (p.sight.now + d) next scopes b) (good-delayed b own (p.sight.now + d) next g scopes)) (span_of p.sight (flat scopes) form)
  kind-good (ActionKind-F.WaitUntil test timeout go_on) b own h p next end g t scopes =
      takes-checked (λ d rest. gives Item.Nothing (waited (record { test = Some test; triggers = []; timeout = d; env = flat scopes; called = false }) go_on p.place next scopes b rest))
      (λ d. takes-gives Item.Nothing (waited (record { test = Some test; triggers = []; timeout = d; env = flat scopes; called = false }) go_on p.place next scopes b)
      (good-waited b own (record { test = Some test; triggers = []; timeout = d; env = flat scopes; called = false }) go_on p.place next g scopes)) (spans_of p.sight (flat scopes) timeout)
  kind-good (ActionKind-F.WaitFor triggers timeout go_on) b own h p next end g t scopes =
      takes-checked (λ d rest. gives Item.Nothing (waited (record { test = None; triggers = triggers; timeout = d; env = flat scopes; called = false }) go_on p.place next scopes b rest))
      (λ d. takes-gives Item.Nothing (waited (record { test = None; triggers = triggers; timeout = d; env = flat scopes; called = false }) go_on p.place next scopes b)
      (good-waited b own (record { test = None; triggers = triggers; timeout = d; env = flat scopes; called = false }) go_on p.place next g scopes)) (spans_of p.sight (flat scopes) timeout)
  kind-good (ActionKind-F.Choose options fallback) b own h p next end g t scopes =
      let parts = each-union (λ d. B (b ++ d)) (union_all (option_branches options)) (union_all (map action_branches (plain fallback))) h in
      good-into b own (chosen (option_parts options) (in_order (map run_action (plain fallback))) p.sight (flat scopes))
      (chosen-good b own options parts.0 (in_order (map run_action (plain fallback))) (list-good b own fallback parts.1) p.sight (flat scopes)) next g scopes
  kind-good (ActionKind-F.If tests yes' no') b own h p next end g t scopes =
      let parts = each-union (λ d. B (b ++ d)) (union_all (map action_branches (plain yes'))) (union_all (map action_branches (plain no'))) h in
      good-into b own (chosen ((tests, in_order (map run_action (plain yes'))) ∷ []) (in_order (map run_action (plain no'))) p.sight (flat scopes))
      (by (hold_all p.sight tests (flat scopes)) (list-good b own yes' parts.0) (list-good b own no' parts.1)) next g scopes
    where
      by : (c : Bool) → IsGood b (in_order (map run_action (plain yes'))) → IsGood b (in_order (map run_action (plain no')))
          → IsGood b (if c then in_order (map run_action (plain yes')) else in_order (map run_action (plain no')))
      by true here there = here
      by false here there = there
  kind-good (ActionKind-F.Repeat kind body) b own h p next end g t scopes =
      good-repeated b own kind (in_order (map run_action (plain body))) (list-good b own body h) p next g scopes
  kind-good (ActionKind-F.Parallel lists) b own h p next end g t scopes =
      good-parallel b (map in_order (map {A = List Action} {B = List Meaning} (λ l. map run_action l) (map {A = List ActionProved} {B = List Action} plain lists))) (lists-good b 0 lists h) next g scopes
  kind-good (ActionKind-F.Block body) b own h p next end g t scopes = good-into b own (in_order (map run_action (plain body))) (list-good b own body h) next g scopes
  kind-good (ActionKind-F.Set pairs) b own h p next end g t scopes =
      takes-option (λ new rest. gives Item.Nothing (next new rest)) (λ new. takes-gives Item.Nothing (next new) (g new)) (set_all pairs p.sight scopes) (failed 1) (takes-failed 1)
  kind-good (ActionKind-F.Fire event fields) b own h p next end g t scopes =
      takes-option (λ ps rest. gives (Item.Fired event ps) (next scopes rest)) (λ ps. takes-gives (Item.Fired event ps) (next scopes) (g scopes)) (fields_of p.sight (flat scopes) fields) (failed 1) (takes-failed 1)
  kind-good ActionKind-F.Stop b own h p next end g t scopes = takes-gives Item.Nothing (ends Status.Stopped) (takes-ends Status.Stopped)
  kind-good (ActionKind-F.Test c) b own h p next end g t scopes =
      takes-gives Item.Nothing (λ rest. if holds p.sight c (flat scopes) then next scopes rest else end scopes rest) (takes-if (holds p.sight c (flat scopes)) (next scopes) (end scopes) (g scopes) (t scopes))

  kind-layer : (y : ActionKind-F KindProved ActionProved) → KindTakes (roll-ActionKind (plain_kind y))
  kind-layer y b own h p next end g t scopes =
      takes-same (run_kind (roll-ActionKind (plain_kind y)) p next end scopes b)
      (kind_step (map-ActionKind ActionKind Action (Spot → Meaning) Meaning run_kind run_action (plain_kind y)) p next end scopes b)
      (run_kind-roll (plain_kind y) p next end scopes b)
      (kind-good y b own (subst (Behind b) (below_kind-roll (plain_kind y)) h) p next end g t scopes)

  abbrev plain_action : Action-F KindProved ActionProved → Action-F ActionKind Action
  plain_action y = map-Action KindProved ActionProved ActionKind Action (λ e. e.0) (λ e. e.0) y

  action-layer : (y : Action-F KindProved ActionProved) → ActionTakes (roll-Action (plain_action y))
  action-layer y b own h next end g t scopes =
      takes-same (run_action (roll-Action (plain_action y)) next end scopes b)
      (λ ps. with_place b ps (λ p rest. run_kind y.kind.0 p next end scopes b rest))
      (run_action-roll (plain_action y) next end scopes b)
      (takes-place b (λ p rest. run_kind y.kind.0 p next end scopes b rest) own (λ p. y.kind.1 b own (subst (Behind b) (action_branches-roll (plain_action y)) h) p next end g t scopes))

  action-takes : (a : Action) → ActionTakes a
  action-takes = ind-Action KindTakes ActionTakes (λ x y is. subst (λ z. KindTakes (roll-ActionKind z)) is (kind-layer y)) (λ x y is. subst (λ z. ActionTakes (roll-Action z)) is (action-layer y))

  script-takes : (b : Branch) → B b → (acts : List Action) → Behind b (union_all (map action_branches acts)) → IsGood b (in_order (map run_action acts))
  script-takes b own [] h end g scopes = g scopes
  script-takes b own (a ∷ acts) h end g scopes =
      let parts = each-union (λ d. B (b ++ d)) (action_branches a) (union_all (map action_branches acts)) h in
      action-takes a b own parts.0 (λ s p. in_order (map run_action acts) end s b p) end (λ s. script-takes b own acts parts.1 end g s) g scopes

-- ---- the branches of a script

any-here : (xs : List Branch) (y : Branch) (ys : List Branch) → list_any (bytes_eq y) (xs ++ (y ∷ ys)) ≡ true
any-here [] y ys = (λ i. same-refl y i || list_any (bytes_eq y) ys)
any-here (x ∷ xs) y ys = by (bytes_eq y x) (any-here xs y ys)
  where
    by : (c : Bool) → list_any (bytes_eq y) (xs ++ (y ∷ ys)) ≡ true → (c || list_any (bytes_eq y) (xs ++ (y ∷ ys))) ≡ true
    by true h = refl
    by false h = h

abbrev IsListed : List Branch → Branch → Type 0
IsListed all c = list_any (bytes_eq c) all ≡ true

all-listed : (xs ys : List Branch) → Each (IsListed (xs ++ ys)) ys
all-listed xs [] = tt
all-listed xs (y ∷ ys) = (any-here xs y ys, subst (λ all. Each (IsListed all) ys) (append_assoc xs (y ∷ []) ys) (all-listed (xs ++ (y ∷ [])) ys))

-- LAW: where a place of this branch is allowed next, the branch is listed
pub allowed-is-listed : (all : Records) (j : Journal) (r : Record) (b : Branch) → may_step all j r b ≡ true → list_any (bytes_eq b) (branches_of (actions_of (units j) r.automation)) ≡ true
allowed-is-listed all j r b h = by (ran_on j r (spots j r.serial ++ (next_spot j b ∷ []))) refl h
  where
    actions : List Action
    actions = actions_of (units j) r.automation

    deeper : List Branch
    deeper = union_all (map action_branches actions)

    by : (o : Option Outcome) → ran_on j r (spots j r.serial ++ (next_spot j b ∷ [])) ≡ o → is_some o ≡ true → IsListed ([] ∷ deeper) b
    by None e h = absurd (true-false (sym h))
    by (Some o) e h =
        script-takes (IsListed ([] ∷ deeper)) [] refl actions (all-listed ([] ∷ []) deeper) (λ s p. ends Status.Done p) (λ s. takes-ends (IsListed ([] ∷ deeper)) Status.Done) (r.env ∷ []) (spots j r.serial) (next_spot j b) o e
