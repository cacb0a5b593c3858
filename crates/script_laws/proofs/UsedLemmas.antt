-- What a part uses, at each way in which parts are put together.
use Rattle.std.proofs.Common.{◌≡◌, ℕ, zero, suc, ◌+◌, ◌<◌, Bool, true, false, List, [], ◌∷◌, ◌++◌, length, map, refl, sym, ap, subst, ◌∙◌, rules, arith, append_assoc, append-nil, length-append}
use Rattle.std.specs.Prelude.{Option, Some, None, Ok, Err, not, ◌&&◌, ◌||◌, nat_eq, nat_lt, option_map, option_and_then, codes, if◌then◌else◌, bytes_eq}
use Rattle.std.specs.List.{list_any, list_all, cons_option}
use Rattle.std.proofs.lemmas.Bool.{leb-true}
use Rattle.ha_value.specs.declared.value.Value.{Value}
use Rattle.ha_config.specs.declared.config.Form.{Form}
use Rattle.ha_sight.specs.declared.item.Item.{Item}
use Rattle.ha_config.specs.Words.{Text, Pairs, has_name, same}
use Rattle.ha_sight.specs.Sight.{Sight}
use Rattle.ha_sight.specs.Templates.{data_of}
use Rattle.ha_sight.specs.Calls.{Checked}
use Rattle.ha_sight.specs.Scripts.{Branch, Scopes, Spot, Loop, flat, outer, add_inside, add_where_named, set_name, set_all, is_deeper, front, past_front, side, on_side, take_item, woven}
use Rattle.ha_config.proofs.EqualLemmas.{and_left, and_right}
use Rattle.script_laws.specs.Direct.{Standing, Left, Effect, leaves, at_place, items_then, by_standing, and_then, standing_of, does, nothing_then, on_field, drop_block, in_block, turns_from, if_no_place, all_used, each_beside, stands_open, stops_or, first_stop, joined_up, beside}
use Rattle.script_laws.specs.Stands.{EachStands}
use Rattle.script_laws.specs.Used.{IsUsed}
use Rattle.script_laws.proofs.StandLemmas.{IsStill, SidesStand, TakenStand, stand-append, stand-open, still-stands, taken-stand}

abbrev pub Uses : Scopes → List Spot → Option Left → Type 0
Uses scopes ps None = Unit {0}
Uses scopes ps (Some l) = IsUsed scopes ps l

abbrev pub UsesWell : Effect → Type 0
UsesWell e = (scopes : Scopes) (b : Branch) (ps : List Spot) → Uses scopes ps (e scopes b ps)

-- ---- how many blocks there are

pub inside-length : (p : Text × Value) (scopes : Scopes) → 0 < length scopes → length (add_inside p scopes) ≡ length scopes
inside-length p [] h = absurd (omega (arith, h))
inside-length p (block ∷ []) h = refl
inside-length p (block ∷ next ∷ blocks) h = ap suc (inside-length p (next ∷ blocks) (omega arith))

named-length : (p : Text × Value) (scopes : Scopes) → 0 < length scopes → length (add_where_named p scopes) ≡ length scopes
named-length p [] h = absurd (omega (arith, h))
named-length p (block ∷ []) h = by (has_name p.0 block && true)
  where
    by : (c : Bool) → length (if c then (block ++ (p ∷ [])) ∷ [] else add_inside p (block ∷ [])) ≡ 1
    by true = refl
    by false = refl
named-length p (block ∷ next ∷ blocks) h =
    by (has_name p.0 block && not (list_any (has_name p.0) (next ∷ blocks))) (list_any (has_name p.0) (next ∷ blocks)) (named-length p (next ∷ blocks) (omega arith))
  where
    by : (c d : Bool) → length (add_where_named p (next ∷ blocks)) ≡ suc (length blocks)
        → length (if c then (block ++ (p ∷ [])) ∷ next ∷ blocks else (if d then block ∷ add_where_named p (next ∷ blocks) else add_inside p (block ∷ next ∷ blocks))) ≡ suc (suc (length blocks))
    by true d e = refl
    by false true e = ap suc e
    by false false e = inside-length p (block ∷ next ∷ blocks) (omega arith)

name-length : (p : Text × Value) (scopes : Scopes) → 0 < length scopes → length (set_name p scopes) ≡ length scopes
name-length p scopes h = by (same p.0 (codes "trigger") || same p.0 (codes "repeat") || same p.0 (codes "wait"))
  where
    by : (c : Bool) → length (if c then add_inside p scopes else add_where_named p scopes) ≡ length scopes
    by true = inside-length p scopes h
    by false = named-length p scopes h

pub set-length : (pairs : List (Text × Form)) (sight : Sight) (scopes new : Scopes) → set_all pairs sight scopes ≡ Some new → 0 < length scopes → length new ≡ length scopes
set-length [] sight scopes new e h = (let known : scopes ≡ new = cc in ap length (sym known))
set-length (p ∷ ps) sight scopes new e h = by (λ v. set-length ps sight (set_name (p.0, v) scopes) new) (data_of sight p.1 (flat scopes)) e
  where
    by : ((v : Value) → set_all ps sight (set_name (p.0, v) scopes) ≡ Some new → 0 < length (set_name (p.0, v) scopes) → length new ≡ length (set_name (p.0, v) scopes))
        → (o : Option Value) → option_and_then (λ v. set_all ps sight (set_name (p.0, v) scopes)) o ≡ Some new → length new ≡ length scopes
    by later None e = absurd cc
    by later (Some v) e = (let one = name-length (p.0, v) scopes h in later v e (omega (arith, one, h)) ∙ one)

outer-length : (xs : Scopes) (n : ℕ) → length xs ≡ suc n → length (outer xs) ≡ n
outer-length [] n e = absurd (omega (arith, e))
outer-length (x ∷ []) n e = omega (arith, e)
outer-length (x ∷ y ∷ ys) n e = (let r = outer-length (y ∷ ys) (length ys) refl in omega (arith, r, e))

-- ---- one after the other

-- a place and its item
pub one-place : (scopes new : Scopes) (p : Spot) (rest : List Spot) (item : Item) (s : Standing) → stands_open s ≡ false → IsStill p item → (0 < length scopes → length new ≡ length scopes)
    → IsUsed scopes (p ∷ rest) (record { items = item ∷ []; standing = s; scopes = new; places = rest })
one-place scopes new p rest item s closed still h =
    record {
      used = p ∷ [];
      places = refl;
      items = refl;
      none_left = λ e. absurd (let z : false ≡ true = sym closed ∙ e in cc);
      blocks = h;
      stand = (still-stands (stands_open s) p item [] still, tt);
    }

pub does-uses : (item : Item) (scopes new : Scopes) (p : Spot) (rest : List Spot) → IsStill p item → (0 < length scopes → length new ≡ length scopes) → Uses scopes (p ∷ rest) (does item new rest)
does-uses item scopes new p rest still h = one-place scopes new p rest item (standing_of item) (closed item) still h
  where
    closed : (item : Item) → stands_open (standing_of item) ≡ false
    closed (Item.Failed code) = refl
    closed Item.Nothing = refl
    closed (Item.Call service target fields) = refl
    closed (Item.Fired kind pairs) = refl
    closed (Item.Switched targets) = refl
    closed (Item.Triggered automations skip) = refl
    closed (Item.Started scripts fields waits) = refl
    closed (Item.Halted scripts) = refl
    closed (Item.Helped changes) = refl

pub place-uses : (b : Branch) (scopes : Scopes) (step : Spot → List Spot → Option Left) → ((p : Spot) (rest : List Spot) → bytes_eq p.branch b ≡ true → Uses scopes (p ∷ rest) (step p rest))
    → (ps : List Spot) → Uses scopes ps (at_place b scopes ps step)
place-uses b scopes step h [] = record { used = []; places = refl; items = refl; none_left = λ e. refl; blocks = λ e. refl; stand = tt }
place-uses b scopes step h (p ∷ rest) = by (bytes_eq p.branch b) refl
  where
    by : (c : Bool) → bytes_eq p.branch b ≡ c → Uses scopes (p ∷ rest) (if c then step p rest else None)
    by true own = h p rest own
    by false own = tt

-- Nothing neither waits for a run nor names a script, and changes no helper, and a failure doesn't either
pub nothing-still : (p : Spot) → IsStill p Item.Nothing
nothing-still p = (refl, λ e. tt, tt, refl)

pub failed-still : (p : Spot) (code : ℕ) → IsStill p (Item.Failed code)
failed-still p code = (refl, λ e. tt, tt, refl)

pub nothing-uses : (scopes : Scopes) (p : Spot) (rest : List Spot) (o : Option Left) → Uses scopes rest o → Uses scopes (p ∷ rest) (nothing_then o)
nothing-uses scopes p rest None u = tt
nothing-uses scopes p rest (Some l) u =
    record {
      used = p ∷ u.used;
      places = ap (λ q. p ∷ q) u.places;
      items = ap suc u.items;
      none_left = u.none_left;
      blocks = u.blocks;
      stand = (still-stands (stands_open l.standing) p Item.Nothing u.used (nothing-still p), u.stand);
    }

pub field-uses : {A : Type 0} (scopes : Scopes) (p : Spot) (rest : List Spot) (step : A → Option Left) (c : Checked A) → ((x : A) → c ≡ Ok x → Uses scopes (p ∷ rest) (step x))
    → Uses scopes (p ∷ rest) (on_field c scopes rest step)
field-uses scopes p rest step (Ok x) h = h x refl
field-uses scopes p rest step (Err code) h = does-uses (Item.Failed code) scopes scopes p rest (failed-still p code) (λ e. refl)

pub then-uses : (scopes : Scopes) (ps : List Spot) (rest : Scopes → List Spot → Option Left) → ((s : Scopes) (q : List Spot) → Uses s q (rest s q))
    → (o : Option Left) → Uses scopes ps o → Uses scopes ps (and_then o rest)
then-uses scopes ps rest h None u = tt
then-uses scopes ps rest h (Some l) u = by l.standing u
  where
    more : IsUsed scopes ps (record l { standing = Standing.Done }) → (o : Option Left) → Uses l.scopes l.places o → Uses scopes ps (items_then l.items o)
    more u None v = tt
    more u (Some m) v =
        record {
          used = u.used ++ v.used;
          places = u.places ∙ ap (λ q. u.used ++ q) v.places ∙ sym (append_assoc u.used v.used m.places);
          items = length-append l.items m.items ∙ (λ i. u.items i + v.items i) ∙ sym (length-append u.used v.used);
          none_left = v.none_left;
          blocks = λ e. (let first = u.blocks e in v.blocks (omega (arith, e, first)) ∙ first);
          stand = stand-append (stands_open m.standing) u.used v.used l.items m.items u.items u.stand v.stand;
        }

    by : (s : Standing) → IsUsed scopes ps (record l { standing = s }) → Uses scopes ps (by_standing s (record l { standing = s }) rest)
    by Standing.Done v = more v (rest l.scopes l.places) (h l.scopes l.places)
    by Standing.ListDone v = record { used = v.used; places = v.places; items = v.items; none_left = λ e. absurd cc; blocks = v.blocks; stand = v.stand }
    by Standing.Open v = v
    by Standing.Stopped v = v
    by Standing.Faulted v = v

pub block-uses : (scopes : Scopes) (block : Pairs) (ps : List Spot) (o : Option Left) → Uses (scopes ++ (block ∷ [])) ps o → Uses scopes ps (drop_block o)
block-uses scopes block ps None u = tt
block-uses scopes block ps (Some l) u =
    let long : length (scopes ++ (block ∷ [])) ≡ suc (length scopes) = length-append scopes (block ∷ []) ∙ omega arith in
    record { used = u.used; places = u.places; items = u.items; none_left = u.none_left; blocks = λ e. outer-length l.scopes (length scopes) (u.blocks (omega (arith, long)) ∙ long); stand = u.stand }

pub either-uses : (c : Bool) (e e' : Effect) → UsesWell e → UsesWell e' → UsesWell (if c then e else e')
either-uses true e e' h k = h
either-uses false e e' h k = k

pub turns-use : (e : Effect) → UsesWell e → (loop : Loop) (b : Branch) (more i : ℕ) (scopes : Scopes) (p : Spot) (rest : List Spot)
    → Uses scopes (p ∷ rest) (turns_from e loop b more i scopes p rest)
unfolding turns_from
turns-use e h loop b zero i scopes p rest = by (loop.enters i scopes p.sight)
  where
    by : (c : Bool) → Uses scopes (p ∷ rest) (if c then does (Item.Failed 6) scopes rest else does Item.Nothing scopes rest)
    by true = does-uses (Item.Failed 6) scopes scopes p rest (failed-still p 6) (λ z. refl)
    by false = does-uses Item.Nothing scopes scopes p rest (nothing-still p) (λ z. refl)
turns-use e h loop b (suc more) i scopes p rest =
    by (loop.enters i scopes p.sight)
    (then-uses scopes rest (λ s after. at_place b s after (λ q later. turns_from e loop b more (suc i) s q later))
    (λ s after. place-uses b s (λ q later. turns_from e loop b more (suc i) s q later) (λ q later own. turns-use e h loop b more (suc i) s q later) after)
    (in_block (loop.variables i) e scopes b rest) (block-uses scopes (loop.variables i) rest (e (scopes ++ (loop.variables i ∷ [])) b rest) (h (scopes ++ (loop.variables i ∷ [])) b rest)))
  where
    by : (c : Bool)
        → Uses scopes rest (and_then (in_block (loop.variables i) e scopes b rest) (λ s after. at_place b s after (λ q later. turns_from e loop b more (suc i) s q later)))
        → Uses scopes (p ∷ rest)
        (if c then nothing_then (and_then (in_block (loop.variables i) e scopes b rest) (λ s after. at_place b s after (λ q later. turns_from e loop b more (suc i) s q later)))
        else does Item.Nothing scopes rest)
    by true u = nothing-uses scopes p rest (and_then (in_block (loop.variables i) e scopes b rest) (λ s after. at_place b s after (λ q later. turns_from e loop b more (suc i) s q later))) u
    by false u = does-uses Item.Nothing scopes scopes p rest (nothing-still p) (λ z. refl)

-- ---- lists beside each other

-- each list has an item for each place of its side
abbrev Fits : Branch → ℕ → List Spot → List (List Item) → Type 0
Fits b k ps [] = Unit {0}
Fits b k ps (xs ∷ more) = (length xs ≡ length (on_side b k ps)) × Fits b (suc k) ps more

module _ (b : Branch) (s : Spot) (ps : List Spot) where
  on-it : (k : ℕ) → side b s ≡ k → length (on_side b k (s ∷ ps)) ≡ suc (length (on_side b k ps))
  on-it k e = (let h : nat_eq (side b s) k ≡ true = search rules in rw h refl)

  off-it : (k : ℕ) → (side b s ≡ k → ⊥) → length (on_side b k (s ∷ ps)) ≡ length (on_side b k ps)
  off-it k e = (let h : nat_eq (side b s) k ≡ false = search rules in rw h refl)

  later-fits : (k : ℕ) (lists : List (List Item)) → side b s < k → Fits b k (s ∷ ps) lists → Fits b k ps lists
  later-fits k [] lt f = tt
  later-fits k (xs ∷ more) lt f = (f.0 ∙ off-it k (λ e. omega arith), later-fits (suc k) more (omega arith) f.1)

  -- the place takes an item of its list, and the others fit the places behind it
  abbrev Takes : ℕ → ℕ → List (List Item) → Type 0
  Takes k d lists = (x : Item) × (rest : List (List Item)) × (take_item d lists ≡ (Some x, rest)) × Fits b k ps rest × (length rest ≡ length lists)

  takes : (k d : ℕ) (lists : List (List Item)) → side b s ≡ k + d → d < length lists → Fits b k (s ∷ ps) lists → Takes k d lists
  takes k d [] e lt f = absurd (omega (arith, lt))
  takes k zero ([] ∷ more) e lt f = (let one = on-it k (omega arith) in absurd (omega (arith, one, f.0)))
  takes k zero ((x ∷ xs) ∷ more) e lt f =
      let one = on-it k (omega arith) in
      (x, xs ∷ more, refl, (omega (arith, one, f.0), later-fits (suc k) more (omega arith) f.1), refl)
  takes k (suc d) (xs ∷ more) e lt f =
      let t = takes (suc k) d more (omega arith) (omega arith) f.1 in
      (t.0, xs ∷ t.1, (λ i. ((t.2 i).0, xs ∷ (t.2 i).1)), (f.0 ∙ off-it k (λ z. omega (arith, z, e)), t.3), ap suc t.4)

woven-length : (b : Branch) (ps : List Spot) (lists : List (List Item)) → list_all (λ s. nat_lt (side b s) (length lists)) ps ≡ true → Fits b 0 ps lists
    → length (woven b ps lists) ≡ length ps
woven-length b [] lists all f = refl
woven-length b (s ∷ ps) lists all f =
    let first : nat_lt (side b s) (length lists) ≡ true = and_left (nat_lt (side b s) (length lists)) (list_all (λ q. nat_lt (side b q) (length lists)) ps) all in
    let within : side b s < length lists = leb-true (suc (side b s)) (length lists) first in
    let t = takes b s ps 0 (side b s) lists (omega arith) within f in
    let others = and_right (nat_lt (side b s) (length lists)) (list_all (λ q. nat_lt (side b q) (length lists)) ps) all in
    (λ i. length (cons_option (t.2 i).0 (woven b ps (t.2 i).1)))
    ∙ ap suc (woven-length b ps t.1 ((λ i. list_all (λ q. nat_lt (side b q) (t.4 i)) ps) ∙ others) t.3)

woven-stand : (unended : Bool) (b : Branch) (ps : List Spot) (lists : List (List Item)) → list_all (λ s. nat_lt (side b s) (length lists)) ps ≡ true → Fits b 0 ps lists → SidesStand unended b 0 ps lists
    → EachStands unended ps (woven b ps lists)
woven-stand unended b [] lists all f h = tt
woven-stand unended b (s ∷ ps) lists all f h =
    let first : nat_lt (side b s) (length lists) ≡ true = and_left (nat_lt (side b s) (length lists)) (list_all (λ q. nat_lt (side b q) (length lists)) ps) all in
    let within : side b s < length lists = leb-true (suc (side b s)) (length lists) first in
    let t = takes b s ps 0 (side b s) lists (omega arith) within f in
    let others = and_right (nat_lt (side b s) (length lists)) (list_all (λ q. nat_lt (side b q) (length lists)) ps) all in
    subst (λ r. TakenStand unended b s ps 0 r → EachStands unended (s ∷ ps) (cons_option r.0 (woven b ps r.1))) (sym t.2)
    (λ g. (g.0, woven-stand unended b ps t.1 ((λ i. list_all (λ q. nat_lt (side b q) (t.4 i)) ps) ∙ others) t.3 g.1))
    (taken-stand unended b s ps 0 (side b s) lists (omega arith) h)

abbrev items_of : List Left → List (List Item)
items_of ls = map (λ l. l.items) ls

-- and they stand among these places, by how it stands
abbrev LeftsStand : Branch → ℕ → List Spot → List Left → Type 0
LeftsStand b k ps [] = Unit {0}
LeftsStand b k ps (l ∷ ls) = EachStands (stands_open l.standing) (on_side b k ps) l.items × LeftsStand b (suc k) ps ls

-- by whether one of the lists is open
sides-stand : (b : Branch) (k : ℕ) (ps : List Spot) (ls : List Left) (c : Bool) → list_any (λ l. stands_open l.standing) ls ≡ c → LeftsStand b k ps ls → SidesStand c b k ps (items_of ls)
sides-stand b k ps [] c e h = tt
sides-stand b k ps (l ∷ ls) true e h = (stand-open (stands_open l.standing) (on_side b k ps) l.items h.0, all-open (suc k) ls h.1)
  where
    all-open : (k : ℕ) (ls : List Left) → LeftsStand b k ps ls → SidesStand true b k ps (items_of ls)
    all-open k [] h = tt
    all-open k (l ∷ ls) h = (stand-open (stands_open l.standing) (on_side b k ps) l.items h.0, all-open (suc k) ls h.1)
sides-stand b k ps (l ∷ ls) false e h = by (stands_open l.standing) refl e (λ z. sides-stand b (suc k) ps ls false z h.1)
  where
    by : (o : Bool) → stands_open l.standing ≡ o → (o || list_any (λ l. stands_open l.standing) ls) ≡ false
        → (list_any (λ l. stands_open l.standing) ls ≡ false → SidesStand false b (suc k) ps (items_of ls)) → SidesStand false b k ps (items_of (l ∷ ls))
    by true f e later = absurd (let z : true ≡ false = e in cc)
    by false f e later = (subst (λ o. EachStands o (on_side b k ps) l.items) f h.0, later e)

abbrev EachFits : Branch → ℕ → List Spot → ℕ → Option (List Left) → Type 0
EachFits b k ps n None = Unit {0}
EachFits b k ps n (Some ls) = Fits b k ps (items_of ls) × (length (items_of ls) ≡ n) × LeftsStand b k ps ls

-- the effects of lists beside each other
abbrev pub EachWell : List Effect → Type 0
EachWell [] = Unit {0}
EachWell (e ∷ es) = UsesWell e × EachWell es

one-fits : (b : Branch) (k n : ℕ) (ps : List Spot) (scopes : Scopes) (o : Option Left) → Uses scopes (on_side b k ps) o → (q : Option (List Left)) → EachFits b (suc k) ps n q
    → EachFits b k ps (suc n) (option_and_then (λ l. option_map (λ ls. l ∷ ls) q) (all_used o))
one-fits b k n ps scopes None u q f = tt
one-fits b k n ps scopes (Some l) u q f = by l.places u q f
  where
    by : (places : List Spot) → IsUsed scopes (on_side b k ps) (record l { places = places }) → (q : Option (List Left)) → EachFits b (suc k) ps n q
        → EachFits b k ps (suc n) (option_and_then (λ m. option_map (λ ls. m ∷ ls) q) (if_no_place places (record l { places = places })))
    by (p ∷ rest) u q f = tt
    by [] u None f = tt
    by [] u (Some ls) f =
        let own : on_side b k ps ≡ u.used = u.places ∙ append-nil u.used in
        ((u.items ∙ sym (ap length own), f.0), ap suc f.1, (subst (λ q. EachStands (stands_open l.standing) q l.items) (sym own) u.stand, f.2))

each-fits : (b : Branch) (scopes : Scopes) (ps : List Spot) (k : ℕ) (lists : List Effect) → EachWell lists → EachFits b k ps (length lists) (each_beside k lists scopes b ps)
each-fits b scopes ps k [] h = (tt, refl, tt)
each-fits b scopes ps k (e ∷ es) h =
    let inside = scopes ++ ([] ∷ []) in
    let own = on_side b k ps in
    one-fits b k (length es) ps scopes (in_block [] e scopes (b ++ (k ∷ [])) own) (block-uses scopes [] own (e inside (b ++ (k ∷ [])) own) (h.0 inside (b ++ (k ∷ [])) own))
    (each_beside (suc k) es scopes b ps) (each-fits b scopes ps (suc k) es h.1)

front-past : (b : Branch) (ps : List Spot) → ps ≡ front b ps ++ past_front b ps
front-past b [] = refl
front-past b (s ∷ ps) = by (is_deeper b s.branch) (front-past b ps)
  where
    by : (c : Bool) → ps ≡ front b ps ++ past_front b ps → s ∷ ps ≡ (if c then s ∷ front b ps else []) ++ (if c then past_front b ps else s ∷ ps)
    by true e = ap (λ q. s ∷ q) e
    by false e = refl

stop-closed : (ls : List Left) → stands_open (first_stop ls) ≡ false
stop-closed [] = refl
stop-closed (l ∷ ls) = by l.standing (stop-closed ls)
  where
    by : (s : Standing) → stands_open (first_stop ls) ≡ false → stands_open (stops_or s (first_stop ls)) ≡ false
    by Standing.Done e = e
    by Standing.ListDone e = e
    by Standing.Open e = e
    by Standing.Stopped e = refl
    by Standing.Faulted e = refl

joined-uses : (scopes : Scopes) (rest places past : List Spot) (items : List Item) (s : Standing) → rest ≡ places ++ past → length items ≡ length places → stands_open s ≡ false → (c : Bool) → EachStands c places items
    → Uses scopes rest (if c then all_used (leaves items Standing.Open scopes past) else leaves items s scopes past)
joined-uses scopes rest places past items s e long closed false st =
    record {
      used = places;
      places = e;
      items = long;
      none_left = λ z. absurd (let y : false ≡ true = sym closed ∙ z in cc);
      blocks = λ z. refl;
      stand = subst (λ o. EachStands o places items) (sym closed) st;
    }
joined-uses scopes rest places [] items s e long closed true st = record { used = places; places = e; items = long; none_left = λ z. refl; blocks = λ z. refl; stand = st }
joined-uses scopes rest places (p ∷ past) items s e long closed true st = tt

pub beside-uses : (lists : List Effect) → EachWell lists → UsesWell (beside lists)
beside-uses lists h scopes b rest = by (list_all (λ s. nat_lt (side b s) (length lists)) (front b rest)) refl
  where
    joined : list_all (λ s. nat_lt (side b s) (length lists)) (front b rest) ≡ true → (q : Option (List Left)) → EachFits b 0 (front b rest) (length lists) q
        → Uses scopes rest (option_and_then (joined_up b (front b rest) (past_front b rest) scopes) q)
    joined all None f = tt
    joined all (Some ls) f =
        let within : list_all (λ s. nat_lt (side b s) (length (items_of ls))) (front b rest) ≡ true = (λ i. list_all (λ s. nat_lt (side b s) (f.1 i)) (front b rest)) ∙ all in
        let open_one = list_any (λ l. stands_open l.standing) ls in
        joined-uses scopes rest (front b rest) (past_front b rest) (woven b (front b rest) (items_of ls)) (first_stop ls) (front-past b rest)
        (woven-length b (front b rest) (items_of ls) within f.0) (stop-closed ls) open_one
        (woven-stand open_one b (front b rest) (items_of ls) within f.0 (sides-stand b 0 (front b rest) ls open_one refl f.2))

    by : (c : Bool) → list_all (λ s. nat_lt (side b s) (length lists)) (front b rest) ≡ c
        → Uses scopes rest (if c then option_and_then (joined_up b (front b rest) (past_front b rest) scopes) (each_beside 0 lists scopes b (front b rest)) else None)
    by true all = joined all (each_beside 0 lists scopes b (front b rest)) (each-fits b scopes (front b rest) 0 lists h)
    by false all = tt
