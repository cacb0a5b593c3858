-- Parts on places that see no script, whatever is told there of runs that were called, at each way in which parts are put together.
use Rattle.std.proofs.Common.{◌≡◌, ℕ, zero, suc, Bool, true, false, List, [], ◌∷◌, ◌++◌, length, map, refl, sym, ap, subst, ◌∙◌}
use Rattle.std.specs.Prelude.{Option, Some, None, Ok, Err, ◌&&◌, ◌||◌, nat_eq, nat_lt, nat_le, option_and_then, option_map, if◌then◌else◌, bytes_eq}
use Rattle.std.specs.List.{list_any, list_all, cons_option}
use Rattle.std.specs.Option.{option_map_or}
use Rattle.ha_config.specs.declared.config.Trigger.{Trigger}
use Rattle.ha_config.specs.declared.template.Template.{Template}
use Rattle.ha_sight.specs.declared.item.Item.{Item}
use Rattle.ha_sight.specs.declared.waiting.WaitEnd.{WaitEnd}
use Rattle.ha_sight.specs.Calls.{Checked}
use Rattle.ha_sight.specs.Scripts.{Ask, Branch, Loop, Scopes, Spot, front, is_deeper, on_side, past_front, scopes_behind, side, take_item, wait_for, woven}
use Rattle.script_laws.specs.Direct.{Effect, Left, Standing, all_used, and_then, at_place, beside, by_standing, delays, does, drop_block, each_beside, first_stop, if_no_place, in_block, items_then, joined_up, leaves, nothing_then, on_field, stands_open, turns_from, waited_for, waits}
use Rattle.script_laws.specs.Plain.{SeeNone, told_of}

module _ (told : ℕ → ℕ → Option WaitEnd) where
  -- the places with what is told of called runs
  abbrev pub heard : List Spot → List Spot
  heard ps = map (told_of told) ps

  abbrev pub moved : Left → Left
  moved l = record l { places = heard l.places }

  -- on those places a part leaves the same, with those places, and these see no script either
  abbrev pub SameLeft : Option Left → Option Left → Type 0
  SameLeft o None = o ≡ None
  SameLeft o (Some l) = (o ≡ Some (moved l)) × SeeNone l.places

  abbrev pub SameEffect : Effect → Effect → Type 0
  SameEffect e e' = (scopes : Scopes) (b : Branch) (ps : List Spot) → SeeNone ps → SameLeft (e scopes b (heard ps)) (e' scopes b ps)

  pub place-plain : (b : Branch) (scopes : Scopes) (step step' : Spot → List Spot → Option Left)
      → ((p : Spot) (rest : List Spot) → p.sight.scripts ≡ [] → SeeNone rest → SameLeft (step (told_of told p) (heard rest)) (step' p rest))
      → (ps : List Spot) → SeeNone ps → SameLeft (at_place b scopes (heard ps) step) (at_place b scopes ps step')
  place-plain b scopes step step' h [] see = (refl, tt)
  place-plain b scopes step step' h (p ∷ rest) see = by (bytes_eq p.branch b)
    where
      by : (c : Bool) → SameLeft (if c then step (told_of told p) (heard rest) else None) (if c then step' p rest else None)
      by true = h p rest see.0 see.1
      by false = refl

  pub items-plain : (items : List Item) (o o' : Option Left) → SameLeft o o' → SameLeft (items_then items o) (items_then items o')
  items-plain items o None h = ap (items_then items) h
  items-plain items o (Some l) h = (ap (items_then items) h.0, h.1)

  pub then-plain : (o o' : Option Left) → SameLeft o o' → (rest rest' : Scopes → List Spot → Option Left)
      → ((s : Scopes) (q : List Spot) → SeeNone q → SameLeft (rest s (heard q)) (rest' s q)) → SameLeft (and_then o rest) (and_then o' rest')
  then-plain o None h rest rest' g = ap (λ z. and_then z rest) h
  then-plain o (Some l) h rest rest' g = subst (λ z. SameLeft (and_then z rest) (and_then (Some l) rest')) (sym h.0) (by l.standing)
    where
      by : (s : Standing) → SameLeft (by_standing s (moved l) rest) (by_standing s l rest')
      by Standing.Done = items-plain l.items (rest l.scopes (heard l.places)) (rest' l.scopes l.places) (g l.scopes l.places h.1)
      by Standing.ListDone = (refl, h.1)
      by Standing.Open = (refl, h.1)
      by Standing.Stopped = (refl, h.1)
      by Standing.Faulted = (refl, h.1)

  pub field-plain : {A : Type 0} (scopes : Scopes) (rest : List Spot) → SeeNone rest → (step step' : A → Option Left) → ((x : A) → SameLeft (step x) (step' x)) → (c : Checked A)
      → SameLeft (on_field c scopes (heard rest) step) (on_field c scopes rest step')
  field-plain scopes rest see step step' h (Ok x) = h x
  field-plain scopes rest see step step' h (Err code) = (refl, see)

  pub block-plain : (o o' : Option Left) → SameLeft o o' → SameLeft (drop_block o) (drop_block o')
  block-plain o None h = ap drop_block h
  block-plain o (Some l) h = (ap drop_block h.0, h.1)

  pub either-plain : (c : Bool) (e d e' d' : Effect) → SameEffect e e' → SameEffect d d' → SameEffect (if c then e else d) (if c then e' else d')
  either-plain true e d e' d' h g = h
  either-plain false e d e' d' h g = g

  pub delay-plain : (due : ℕ) → SameEffect (delays due) (delays due)
  delay-plain due scopes b ps see =
      place-plain b scopes (λ s after. if nat_le due s.sight.now then does Item.Nothing scopes after else None) (λ s after. if nat_le due s.sight.now then does Item.Nothing scopes after else None)
      (λ s after none later. by after later (nat_le due s.sight.now)) ps see
    where
      by : (after : List Spot) → SeeNone after → (c : Bool) → SameLeft (if c then does Item.Nothing scopes (heard after) else None) (if c then does Item.Nothing scopes after else None)
      by after later true = (refl, later)
      by after later false = refl

  -- a wait asks of no called run
  pub wait-plain : (test : Option Template) (triggers : List Trigger) (timeout : Option ℕ) (first : Scopes) (go_on : Bool) (p : ℕ)
      → SameEffect (waits (wait_for test triggers timeout first) go_on p) (waits (wait_for test triggers timeout first) go_on p)
  wait-plain test triggers timeout first go_on p scopes b ps see =
      place-plain b scopes (λ s after. option_map_or (λ e. waited_for ask e go_on scopes after) (s.wait_end ask p) None)
      (λ s after. option_map_or (λ e. waited_for ask e go_on scopes after) (s.wait_end ask p) None) (λ s after none later. by after later (s.wait_end ask p)) ps see
    where
      ask : Ask
      ask = wait_for test triggers timeout first

      ended : (after : List Spot) → SeeNone after → (e : WaitEnd) (c : Bool)
          → SameLeft (if c then does Item.Nothing (scopes_behind (wait_for test triggers timeout first) e scopes) (heard after) else leaves (Item.Nothing ∷ []) Standing.Stopped scopes (heard after))
          (if c then does Item.Nothing (scopes_behind (wait_for test triggers timeout first) e scopes) after else leaves (Item.Nothing ∷ []) Standing.Stopped scopes after)
      ended after later e true = (refl, later)
      ended after later e false = (refl, later)

      by : (after : List Spot) → SeeNone after → (o : Option WaitEnd)
          → SameLeft (option_map_or (λ e. waited_for (wait_for test triggers timeout first) e go_on scopes (heard after)) o None)
          (option_map_or (λ e. waited_for (wait_for test triggers timeout first) e go_on scopes after) o None)
      by after later None = refl
      by after later (Some e) = ended after later e (e.done || go_on)

  -- ---- repeats

  pub turns-plain : (e e' : Effect) → SameEffect e e' → (loop : Loop) (b : Branch) (more i : ℕ) (scopes : Scopes) (p : Spot) (rest : List Spot) → SeeNone rest
      → SameLeft (turns_from e loop b more i scopes (told_of told p) (heard rest)) (turns_from e' loop b more i scopes p rest)
  unfolding turns_from
  turns-plain e e' h loop b zero i scopes p rest see = by (loop.enters i scopes p.sight)
    where
      by : (c : Bool) → SameLeft (if c then does (Item.Failed 6) scopes (heard rest) else does Item.Nothing scopes (heard rest)) (if c then does (Item.Failed 6) scopes rest else does Item.Nothing scopes rest)
      by true = (refl, see)
      by false = (refl, see)
  turns-plain e e' h loop b (suc more) i scopes p rest see =
      by (loop.enters i scopes p.sight)
      (then-plain (in_block (loop.variables i) e scopes b (heard rest)) (in_block (loop.variables i) e' scopes b rest)
      (block-plain (e (scopes ++ (loop.variables i ∷ [])) b (heard rest)) (e' (scopes ++ (loop.variables i ∷ [])) b rest) (h (scopes ++ (loop.variables i ∷ [])) b rest see))
      (λ s after. at_place b s after (λ q later. turns_from e loop b more (suc i) s q later)) (λ s after. at_place b s after (λ q later. turns_from e' loop b more (suc i) s q later))
      (λ s after seen. place-plain b s (λ q later. turns_from e loop b more (suc i) s q later) (λ q later. turns_from e' loop b more (suc i) s q later)
      (λ q later none behind. turns-plain e e' h loop b more (suc i) s q later behind) after seen))
    where
      by : (c : Bool)
          → SameLeft (and_then (in_block (loop.variables i) e scopes b (heard rest)) (λ s after. at_place b s after (λ q later. turns_from e loop b more (suc i) s q later)))
          (and_then (in_block (loop.variables i) e' scopes b rest) (λ s after. at_place b s after (λ q later. turns_from e' loop b more (suc i) s q later)))
          → SameLeft
          (if c then nothing_then (and_then (in_block (loop.variables i) e scopes b (heard rest)) (λ s after. at_place b s after (λ q later. turns_from e loop b more (suc i) s q later)))
          else does Item.Nothing scopes (heard rest))
          (if c then nothing_then (and_then (in_block (loop.variables i) e' scopes b rest) (λ s after. at_place b s after (λ q later. turns_from e' loop b more (suc i) s q later)))
          else does Item.Nothing scopes rest)
      by true u =
          items-plain (Item.Nothing ∷ []) (and_then (in_block (loop.variables i) e scopes b (heard rest)) (λ s after. at_place b s after (λ q later. turns_from e loop b more (suc i) s q later)))
          (and_then (in_block (loop.variables i) e' scopes b rest) (λ s after. at_place b s after (λ q later. turns_from e' loop b more (suc i) s q later))) u
      by false u = (refl, see)

  -- ---- lists beside each other: the branches are as they were

  front-heard : (b : Branch) (ps : List Spot) → front b (heard ps) ≡ heard (front b ps)
  front-heard b [] = refl
  front-heard b (s ∷ ps) = by (is_deeper b s.branch) (front-heard b ps)
    where
      by : (c : Bool) → front b (heard ps) ≡ heard (front b ps) → (if c then told_of told s ∷ front b (heard ps) else []) ≡ heard (if c then s ∷ front b ps else [])
      by true e = ap (λ q. told_of told s ∷ q) e
      by false e = refl

  past-heard : (b : Branch) (ps : List Spot) → past_front b (heard ps) ≡ heard (past_front b ps)
  past-heard b [] = refl
  past-heard b (s ∷ ps) = by (is_deeper b s.branch) (past-heard b ps)
    where
      by : (c : Bool) → past_front b (heard ps) ≡ heard (past_front b ps) → (if c then past_front b (heard ps) else told_of told s ∷ heard ps) ≡ heard (if c then past_front b ps else s ∷ ps)
      by true e = e
      by false e = refl

  side-heard : (b : Branch) (k : ℕ) (ps : List Spot) → on_side b k (heard ps) ≡ heard (on_side b k ps)
  side-heard b k [] = refl
  side-heard b k (s ∷ ps) = by (nat_eq (side b s) k) (side-heard b k ps)
    where
      by : (c : Bool) → on_side b k (heard ps) ≡ heard (on_side b k ps) → (if c then told_of told s ∷ on_side b k (heard ps) else on_side b k (heard ps)) ≡ heard (if c then s ∷ on_side b k ps else on_side b k ps)
      by true e = ap (λ q. told_of told s ∷ q) e
      by false e = e

  all-heard : (b : Branch) (n : ℕ) (ps : List Spot) → list_all (λ s. nat_lt (side b s) n) (heard ps) ≡ list_all (λ s. nat_lt (side b s) n) ps
  all-heard b n [] = refl
  all-heard b n (s ∷ ps) = (λ i. nat_lt (side b s) n && all-heard b n ps i)

  woven-heard : (b : Branch) (ps : List Spot) (lists : List (List Item)) → woven b (heard ps) lists ≡ woven b ps lists
  woven-heard b [] lists = refl
  woven-heard b (s ∷ ps) lists = (λ i. cons_option (take_item (side b s) lists).0 (woven-heard b ps (take_item (side b s) lists).1 i))

  see-front : (b : Branch) (ps : List Spot) → SeeNone ps → SeeNone (front b ps)
  see-front b [] see = tt
  see-front b (s ∷ ps) see = by (is_deeper b s.branch) (see-front b ps see.1)
    where
      by : (c : Bool) → SeeNone (front b ps) → SeeNone (if c then s ∷ front b ps else [])
      by true later = (see.0, later)
      by false later = tt

  see-past : (b : Branch) (ps : List Spot) → SeeNone ps → SeeNone (past_front b ps)
  see-past b [] see = tt
  see-past b (s ∷ ps) see = by (is_deeper b s.branch) (see-past b ps see.1)
    where
      by : (c : Bool) → SeeNone (past_front b ps) → SeeNone (if c then past_front b ps else s ∷ ps)
      by true later = later
      by false later = see

  see-side : (b : Branch) (k : ℕ) (ps : List Spot) → SeeNone ps → SeeNone (on_side b k ps)
  see-side b k [] see = tt
  see-side b k (s ∷ ps) see = by (nat_eq (side b s) k) (see-side b k ps see.1)
    where
      by : (c : Bool) → SeeNone (on_side b k ps) → SeeNone (if c then s ∷ on_side b k ps else on_side b k ps)
      by true later = (see.0, later)
      by false later = later

  pub used-plain : (o o' : Option Left) → SameLeft o o' → all_used o ≡ all_used o'
  used-plain o None h = ap all_used h
  used-plain o (Some l) h = ap all_used h.0 ∙ by l.places
    where
      by : (places : List Spot) → if_no_place (heard places) (record l { places = heard places }) ≡ if_no_place places (record l { places = places })
      by [] = refl
      by (p ∷ ps) = refl

  abbrev pub EachSame : List Effect → List Effect → Type 0
  EachSame [] [] = Unit {0}
  EachSame [] (e' ∷ es') = ⊥
  EachSame (e ∷ es) [] = ⊥
  EachSame (e ∷ es) (e' ∷ es') = SameEffect e e' × EachSame es es'

  same-length : (es es' : List Effect) → EachSame es es' → length es ≡ length es'
  same-length [] [] h = refl
  same-length [] (e' ∷ es') h = absurd h
  same-length (e ∷ es) [] h = absurd h
  same-length (e ∷ es) (e' ∷ es') h = ap suc (same-length es es' h.1)

  each-plain : (k : ℕ) (es es' : List Effect) → EachSame es es' → (scopes : Scopes) (b : Branch) (ps : List Spot) → SeeNone ps
      → each_beside k es scopes b (heard ps) ≡ each_beside k es' scopes b ps
  each-plain k [] [] h scopes b ps see = refl
  each-plain k [] (e' ∷ es') h scopes b ps see = absurd h
  each-plain k (e ∷ es) [] h scopes b ps see = absurd h
  each-plain k (e ∷ es) (e' ∷ es') h scopes b ps see =
      let inside = scopes ++ ([] ∷ []) in
      let own : List Spot = on_side b k ps in
      let one : all_used (in_block [] e scopes (b ++ (k ∷ [])) (on_side b k (heard ps))) ≡ all_used (in_block [] e' scopes (b ++ (k ∷ [])) (on_side b k ps))
      = (λ i. all_used (in_block [] e scopes (b ++ (k ∷ [])) (side-heard b k ps i)))
      ∙ used-plain (in_block [] e scopes (b ++ (k ∷ [])) (heard own)) (in_block [] e' scopes (b ++ (k ∷ [])) own)
      (block-plain (e inside (b ++ (k ∷ [])) (heard own)) (e' inside (b ++ (k ∷ [])) own) (h.0 inside (b ++ (k ∷ [])) own (see-side b k ps see))) in
      let rest = each-plain (suc k) es es' h.1 scopes b ps see in
      (λ i. option_and_then (λ l. option_map (λ ls. l ∷ ls) (rest i)) (one i))

  joined-plain : (b : Branch) (places past : List Spot) (scopes : Scopes) → SeeNone past → (ls : List Left)
      → SameLeft (joined_up b (heard places) (heard past) scopes ls) (joined_up b places past scopes ls)
  joined-plain b places past scopes see ls =
      subst (λ items. SameLeft (if list_any (λ l. stands_open l.standing) ls then all_used (leaves items Standing.Open scopes (heard past)) else leaves items (first_stop ls) scopes (heard past))
      (joined_up b places past scopes ls)) (sym (woven-heard b places (map (λ l. l.items) ls))) (by past see (list_any (λ l. stands_open l.standing) ls))
    where
      by : (past : List Spot) → SeeNone past → (c : Bool)
          → SameLeft (if c then all_used (leaves (woven b places (map (λ l. l.items) ls)) Standing.Open scopes (heard past)) else leaves (woven b places (map (λ l. l.items) ls)) (first_stop ls) scopes (heard past))
          (if c then all_used (leaves (woven b places (map (λ l. l.items) ls)) Standing.Open scopes past) else leaves (woven b places (map (λ l. l.items) ls)) (first_stop ls) scopes past)
      by [] see true = (refl, tt)
      by (p ∷ ps) see true = refl
      by past see false = (refl, see)

  pub beside-plain : (es es' : List Effect) → EachSame es es' → SameEffect (beside es) (beside es')
  beside-plain es es' h scopes b rest see =
      let P : List Spot = front b rest in
      let Q : List Spot = past_front b rest in
      let all : list_all (λ s. nat_lt (side b s) (length es)) (front b (heard rest)) ≡ list_all (λ s. nat_lt (side b s) (length es')) P
      = (λ i. list_all (λ s. nat_lt (side b s) (same-length es es' h i)) (front-heard b rest i)) ∙ all-heard b (length es') P in
      let sides : each_beside 0 es scopes b (front b (heard rest)) ≡ each_beside 0 es' scopes b P
      = (λ i. each_beside 0 es scopes b (front-heard b rest i)) ∙ each-plain 0 es es' h scopes b P (see-front b rest see) in
      let is : beside es scopes b (heard rest) ≡ (if list_all (λ s. nat_lt (side b s) (length es')) P then option_and_then (joined_up b (heard P) (heard Q) scopes) (each_beside 0 es' scopes b P) else None)
      = (λ i. if all i then option_and_then (joined_up b (front-heard b rest i) (past-heard b rest i) scopes) (sides i) else None) in
      subst (λ z. SameLeft z (beside es' scopes b rest)) (sym is) (by (list_all (λ s. nat_lt (side b s) (length es')) P) (each_beside 0 es' scopes b P))
    where
      by : (c : Bool) (q : Option (List Left))
          → SameLeft (if c then option_and_then (joined_up b (heard (front b rest)) (heard (past_front b rest)) scopes) q else None)
          (if c then option_and_then (joined_up b (front b rest) (past_front b rest) scopes) q else None)
      by true None = refl
      by true (Some ls) = joined-plain b (front b rest) (past_front b rest) scopes (see-past b rest see) ls
      by false q = refl
