-- What is stored, and whether the last put changed it.
use Rattle.std.proofs.Common.{◌≡◌, ℕ, zero, suc, ◌+◌, ◌-◌, ◌<◌, List, [], ◌∷◌, ◌++◌, length, map, drop, take, Bool, true, false, refl, sym, ap, subst, ◌∙◌, arith}
use Rattle.std.specs.Prelude.{nat_eq, nat_le, not, is_some, slice_get, unwrap_or, Option, Some, None, option_map, ◌&&◌, ◌||◌, if◌then◌else◌}
use Rattle.std.specs.List.{cons_option, list_all}
use Rattle.std.specs.Option.{option_map_or}
use Rattle.ha_clock.specs.Local.{last_moment}
use Rattle.ha_config.specs.declared.config.Automation.{Automation}
use Rattle.ha_config.specs.declared.config.Script.{Script}
use Rattle.ha_config.specs.Equal.{same_flag}
use Rattle.ha_config.specs.Names.{names_of}
use Rattle.ha_config.specs.Sound.{are_sound_automations, is_sound_automation}
use Rattle.ha_config.specs.StoreText.{in_name_order, placed_by_name}
use Rattle.ha_config.specs.ValueFacts.{all_distinct}
use Rattle.ha_config.specs.Words.{Text, comes_before, same}
use Rattle.ha_config.proofs.EqualLemmas.{and_left, and_right}
use Rattle.ha_config.proofs.ListLemmas.{none-some, some-same}
use Rattle.ha_config.proofs.NumberedLemmas.{get-within}
use Rattle.ha_journal.specs.declared.entry.Entry.{Entry}
use Rattle.ha_journal.specs.Entries.{is_again, is_restart, reload_in}
use Rattle.ha_journal.specs.Force.{force}
use Rattle.ha_journal.specs.Journal.{HasEntry, Journal, automations, configured, in_force, more, names, now, units}
use Rattle.ha_journal.specs.States.{switches_of}
use Rattle.ha_journal.proofs.ForceLaws.{automations-more, in-force-are, in-force-units, names-more}
use Rattle.ha_journal.proofs.MoreLemmas.{has-entry}
use Rattle.ha_model.specs.Lawful as one
use Rattle.ha_model.specs.Records as all
use Rattle.ha_model.specs.Records.{Records, last_is}
use Rattle.ha_model.proofs.KnownLaws.{AllKnown, all-known}
use Rattle.ha_model.proofs.LastEntry as last
use Rattle.ha_whole.specs.Lasts.{last_triggered, lasts, lasts_carried}
use Rattle.ha_whole.specs.Named.{named}
use Rattle.ha_whole.specs.Segments.{alone, carried, segment}
use Rattle.ha_whole.specs.Whole.{before_put, changes_store, same_pairs_by}
use Rattle.store_text.specs.Store.{AreMoments}
use Rattle.switch_book.proofs.BookLemmas.{all-named}
use Rattle.named_runs.specs.Named.{NamedTable, first_in}
use Rattle.segment_carry.specs.ByName.{rule_order, listed}
use Rattle.segment_carry.proofs.MomentLemmas.{moments-listed, moments-storable}
use Rattle.unit_book.specs.declared.book.UnitBook.{UnitBook}
use Rattle.unit_book.specs.Book.{firsts_of}
use Rattle.unit_book.proofs.FirstLemmas.{names-many}
use Rattle.whole_laws.specs.Puts.{IsPut}
use Rattle.whole_laws.proofs.CutLemmas.{alone-reload, segment-on}
use Rattle.engine_parts.specs.declared.parts.Parts.{Parts}
use Rattle.engine_parts.specs.Kept.{AreSound, Kept}
use Rattle.engine_parts.proofs.ViewLemmas.{sound-automations}
use Rattle.engine_parts.specs.Numbers.{numbers_in, rule_numbers}
use Rattle.ha_engine.specs.declared.bounds.Bounds.{Bounds}
use Rattle.ha_engine.specs.Noted.{AreNoted, are_in_time, changes_lasts, changes_switches, moved_by, noted}
use Rattle.ha_engine.specs.Told.{AreLasts, IsFollowed, IsTold}
use Rattle.ha_engine.proofs.ChangeLemmas.{take-less}
use Rattle.ha_engine.proofs.FollowedLemmas.{firsts-told, rules-differ}
use Rattle.ha_engine.proofs.LastsLemmas.{AreBy, carried-same, drop-known, last-more, lasts-by}
use Rattle.ha_engine.proofs.MovedLemmas.{each-in-time, is_listed, lasts-named, lasts_by_name, moved-told, noted-in-time}
use Rattle.ha_engine.proofs.ReopenLemmas.{unit-numbered}

-- ---- what the last put changed

-- LAW: it changed what is stored where it changed a switch, or when an automation last triggered
store-split : (j : Journal) → changes_store j ≡ (changes_switches j || changes_lasts j)
store-split j =
    by (nat_eq (length j) 1) (same_pairs_by same_flag (in_name_order (switches_of (segment (before_put j)))) (in_name_order (switches_of (segment j))))
    (same_pairs_by nat_eq (in_name_order (lasts (segment (before_put j)))) (in_name_order (lasts (segment j))))
  where
    by : (n a b : Bool) → (n || not (a && b)) ≡ ((n || not a) || not b)
    by true a b = refl
    by false true b = refl
    by false false b = refl

pub store-told : (j : Journal) (switched moved : Bool) → switched ≡ changes_switches j → ((length j ≡ 1 → ⊥) → changes_lasts j ≡ moved) → (switched || moved) ≡ changes_store j
store-told j switched moved is h = by (nat_eq (length j) 1) refl
  where
    first : (c : Bool) → nat_eq (length j) 1 ≡ true → (changes_switches j || c) ≡ true
    first c e = (λ i. (e i || not (same_pairs_by same_flag (in_name_order (switches_of (segment (before_put j)))) (in_name_order (switches_of (segment j))))) || c)

    one-of : (n : ℕ) → nat_eq n 1 ≡ false → n ≡ 1 → ⊥
    one-of n e same = absurd (let bad : ◌≡◌ {A = Bool} true false = (λ i. nat_eq (sym same i) 1) ∙ e in cc)

    by : (b : Bool) → nat_eq (length j) 1 ≡ b → (switched || moved) ≡ changes_store j
    by true e = (λ i. is i || moved) ∙ first moved e ∙ sym (first (changes_lasts j) e) ∙ sym (store-split j)
    by false e = (λ i. is i || sym (h (one-of (length j) e)) i) ∙ sym (store-split j)

-- ---- one entry more that opens no segment and changes nothing of what is in force

module _ (j : Journal) (x : Entry) (b : Bounds) (u : UnitBook) (t t' : NamedTable) (p p' : Parts) (ls : List (Option ℕ)) (reset : Bool) (is_put : IsPut x) (stays : is_restart x ≡ false) (quiet : reload_in x ≡ None)
    (told : IsTold j b u t) (followed : IsFollowed j u t p ls reset) (own : one.Right (more (segment j) (alone (segment j) x)) t'.list) (kept : Kept (more (segment j) (alone (segment j) x)) t'.list p')
    (firsts : t'.firsts ≡ t.firsts) where
  abbrev s : Journal
  s = segment j

  abbrev y : Entry
  y = alone s x

  abbrev k : Journal
  k = more j x

  same-segment : segment k ≡ more s y
  same-segment = segment-on j x is_put.none

  back : before_put k ≡ j
  back =
      (let never : last_is is_again k ≡ false = last.last-is is_again j x ∙ ap is_some is_put.none in
      (λ i. take (length k - (if never i then 2 else 1)) k) ∙ take-less j x)

  right : one.Right s (all.records_of s)
  right = subst (one.Right s) told.runs.own told.own_right

  has : HasEntry s
  has = has-entry s right.journal

  quiet-y : reload_in y ≡ None
  quiet-y = alone-reload (carried s) x ∙ quiet

  abbrev new : Records
  new = drop (length (all.records_of s)) (all.records_of (more s y))

  all-names : names s ≡ names (more s y)
  all-names = names-more s y has quiet-y

  new-known : AllKnown (length (names (more s y))) new
  new-known = drop-known (length (names (more s y))) (length (all.records_of s)) (all.records_of (more s y))
      (subst (λ n. AllKnown n (all.records_of (more s y))) (sym (names-many (more s y))) (all-known (more s y)))

  firsts-s : u.firsts.items ≡ firsts_of (names s)
  firsts-s = firsts-told j s u told.holds

  firsts-k : t'.firsts ≡ firsts_of (names (more s y))
  firsts-k = firsts ∙ followed.firsts_are ∙ firsts-s ∙ ap firsts_of all-names

  listed-k : u.listed.items ≡ map (is_listed (automations s)) (names (more s y))
  listed-k = told.holds.listed_are ∙ (λ i. map (is_listed (automations s)) ((told.holds.names_are ∙ all-names) i))

  lasts-k : changes_lasts k ≡ moved_by p'.at t'.firsts u.listed.items (drop (length t.list) t'.list) ls
  lasts-k =
      (λ i. not (same_pairs_by nat_eq (in_name_order (lasts (segment (back i)))) (in_name_order (lasts (same-segment i)))))
      ∙ moved-told (now (more s y)) s (more s y) (names (more s y)) new ls (last_triggered s) (automations-more s y has quiet-y) (rules-differ s followed.kept.going.sees.sound) new-known
      (subst (λ ns. AreBy ns ls (last_triggered s)) all-names (lasts-by s u ls firsts-s followed.lasts_are)) (λ name yes. refl) (last-more s y right quiet-y)
      ∙ (λ i. moved_by (sym kept.going.sees.looks.now_is i) (sym firsts-k i) (sym listed-k i) (drop (length (sym told.runs.own i)) (sym own.records_are i)) ls)

  -- LAW: whether it changed when an automation last triggered
  pub plain-noted : are_in_time ls ≡ true → list_all (λ p. nat_le p.1 last_moment) (lasts_carried s) ≡ true → (ls' : List (Option ℕ)) (moved : Bool) → ls' ≡ noted p'.at t'.firsts (drop (length t.list) t'.list) ls
      → moved ≡ moved_by p'.at t'.firsts u.listed.items (drop (length t.list) t'.list) ls → AreNoted k ls' moved
  plain-noted in_time carried_in_time ls' moved noted_is is = record {
    in_time = subst (λ l. are_in_time l ≡ true) (sym noted_is) (noted-in-time p'.at t'.firsts (drop (length t.list) t'.list) ls kept.going.sees.looks.in_time in_time);
    carried = (λ i. list_all (λ p. nat_le p.1 last_moment) ((ap lasts_carried same-segment ∙ carried-same s y has) i)) ∙ carried_in_time;
    moved_is = λ many plain. lasts-k ∙ sym is;
  }

-- ---- two entries more

pub automations-behind : (j : Journal) (x y : Entry) → HasEntry j → reload_in x ≡ None → reload_in y ≡ None → automations j ≡ automations (more (more j x) y)
automations-behind [] x y some one two = absurd some
automations-behind (e ∷ es) x y some one two = automations-more (e ∷ es) x some one ∙ automations-more (more (e ∷ es) x) y tt two

-- ---- what is carried

pub named-in-time : (name : Text) (ms : List (Text × ℕ)) → list_all (λ p. nat_le p.1 last_moment) ms ≡ true → option_map_or (λ at. nat_le at last_moment) (named name ms) true ≡ true
named-in-time name [] h = refl
named-in-time name (m ∷ ms) h = by (same m.0 name) (and_left (nat_le m.1 last_moment) (list_all (λ p. nat_le p.1 last_moment) ms) h) (named-in-time name ms (and_right (nat_le m.1 last_moment) (list_all (λ p. nat_le p.1 last_moment) ms) h))
  where
    by : (b : Bool) → nat_le m.1 last_moment ≡ true → option_map_or (λ at. nat_le at last_moment) (named name ms) true ≡ true → option_map_or (λ at. nat_le at last_moment) (if b then Some m.1 else named name ms) true ≡ true
    by true here later = here
    by false here later = later

each-named : (v : Text → Option ℕ) (ns : List Text) → ((name : Text) → option_map_or (λ at. nat_le at last_moment) (v name) true ≡ true) → are_in_time (map v ns) ≡ true
each-named v [] h = refl
each-named v (n ∷ ns) h = (λ i. h n i && each-named v ns h i)

-- LAW: the moments that an opening takes over by name are in time
pub carried-in-time : (ns : List Text) (ms : List (Text × ℕ)) → list_all (λ p. nat_le p.1 last_moment) ms ≡ true → are_in_time (map (λ name. named name ms) ns) ≡ true
carried-in-time ns ms h = each-named (λ name. named name ms) ns (λ name. named-in-time name ms h)

pub placed-in-time : (p : Text × ℕ) (ms : List (Text × ℕ)) → nat_le p.1 last_moment ≡ true → list_all (λ q. nat_le q.1 last_moment) ms ≡ true → list_all (λ q. nat_le q.1 last_moment) (placed_by_name p ms) ≡ true
placed-in-time p [] here h = (λ i. here i && true)
placed-in-time p (m ∷ ms) here h = by (comes_before p.0 m.0) (placed-in-time p ms here (and_right (nat_le m.1 last_moment) (list_all (λ q. nat_le q.1 last_moment) ms) h))
  where
    by : (b : Bool) → list_all (λ q. nat_le q.1 last_moment) (placed_by_name p ms) ≡ true → list_all (λ q. nat_le q.1 last_moment) (if b then p ∷ m ∷ ms else m ∷ placed_by_name p ms) ≡ true
    by true later = (λ i. here i && h i)
    by false later = (λ i. and_left (nat_le m.1 last_moment) (list_all (λ q. nat_le q.1 last_moment) ms) h i && later i)

pub order-in-time : (ms : List (Text × ℕ)) → list_all (λ q. nat_le q.1 last_moment) ms ≡ true → list_all (λ q. nat_le q.1 last_moment) (in_name_order ms) ≡ true
order-in-time [] h = refl
order-in-time (m ∷ ms) h =
    placed-in-time m (in_name_order ms) (and_left (nat_le m.1 last_moment) (list_all (λ q. nat_le q.1 last_moment) ms) h) (order-in-time ms (and_right (nat_le m.1 last_moment) (list_all (λ q. nat_le q.1 last_moment) ms) h))

rules-in-time : (v : Text → Option ℕ) (xs : List Automation) → ((i : ℕ) (x : Automation) → slice_get xs i ≡ Some x → option_map_or (λ at. nat_le at last_moment) (v x.name) true ≡ true)
    → list_all (λ q. nat_le q.1 last_moment) (lasts_by_name v xs) ≡ true
rules-in-time v [] h = refl
rules-in-time v (x ∷ xs) h = by (v x.name) (h 0 x refl) (rules-in-time v xs (λ i y e. h (suc i) y e))
  where
    by : (o : Option ℕ) → option_map_or (λ at. nat_le at last_moment) o true ≡ true → list_all (λ q. nat_le q.1 last_moment) (lasts_by_name v xs) ≡ true
        → list_all (λ q. nat_le q.1 last_moment) (cons_option (option_map {T = ℕ} {U = Text × ℕ} (λ m. (x.name, m)) o) (lasts_by_name v xs)) ≡ true
    by None e rest = rest
    by (Some m) e rest = (λ i. e i && rest i)

-- ---- by the automations in force

module _ (s : Journal) (u : UnitBook) (ls : List (Option ℕ)) (lasts_are : AreLasts s u ls) where
  -- LAW: the moment of an automation in force, by its number
  pub rule-last : (i : ℕ) (p : ℕ × Automation) → slice_get (in_force s) i ≡ Some p → slice_get ls (first_in u.firsts.items p.0) ≡ Some (last_triggered s p.1.name)
  rule-last i p here =
      let unit : slice_get (units s) p.0 ≡ Some p.1 = unit-numbered (units s) (in_force s) i p (in-force-units s) here in
      lasts_are.last p.0 (get-within (units s) p.0 p.1 unit) ∙ (λ k. Some (last_triggered s (option_map_or (λ (x : Automation). x.name) (unit k) [])))

  rules-from : (ps : List (ℕ × Automation)) → ((i : ℕ) (p : ℕ × Automation) → slice_get ps i ≡ Some p → slice_get ls (first_in u.firsts.items p.0) ≡ Some (last_triggered s p.1.name))
      → map (λ n. unwrap_or (slice_get ls (first_in u.firsts.items n)) None) (map {A = ℕ × Automation} {B = ℕ} (λ p. p.0) ps)
      ≡ map {A = Automation} {B = Option ℕ} (λ x. last_triggered s x.name) (map {A = ℕ × Automation} {B = Automation} (λ p. p.1) ps)
  rules-from [] h = refl
  rules-from (p ∷ ps) h = (λ k. unwrap_or (h 0 p refl k) None ∷ rules-from ps (λ i q e. h (suc i) q e) k)

  -- LAW: the moments by the numbers of the automations in force are those by their names
  pub rules-last : map (λ n. unwrap_or (slice_get ls (first_in u.firsts.items n)) None) (rule_numbers s) ≡ map {A = Automation} {B = Option ℕ} (λ x. last_triggered s x.name) (automations s)
  rules-last = rules-from (in_force s) rule-last ∙ (λ k. map {A = Automation} {B = Option ℕ} (λ x. last_triggered s x.name) (in-force-are s k))

  -- LAW: and they are in time
  pub last-in-time : are_in_time ls ≡ true → (i : ℕ) (x : Automation) → slice_get (automations s) i ≡ Some x → option_map_or (λ at. nat_le at last_moment) (last_triggered s x.name) true ≡ true
  last-in-time in_time i x here =
      let got = numbered-at (in_force s) i x ((λ k. slice_get (in-force-are s k) i) ∙ here) in
      (λ k. option_map_or (λ at. nat_le at last_moment) (last_triggered s (sym got.2 k).name) true)
      ∙ each-in-time ls (first_in u.firsts.items got.0.0) (last_triggered s got.0.1.name) (rule-last i got.0 got.1) in_time
    where
      numbered-at : (ps : List (ℕ × Automation)) (i : ℕ) (x : Automation) → slice_get (map {A = ℕ × Automation} {B = Automation} (λ p. p.1) ps) i ≡ Some x → (p : ℕ × Automation) × (slice_get ps i ≡ Some p) × (p.1 ≡ x)
      numbered-at [] i x e = absurd (none-some x e)
      numbered-at (p ∷ ps) zero x e = (p, refl, some-same p.1 x e)
      numbered-at (p ∷ ps) (suc i) x e = numbered-at ps i x e

  pub lasts-in-time : are_in_time ls ≡ true → list_all (λ q. nat_le q.1 last_moment) (in_name_order (lasts s)) ≡ true
  lasts-in-time in_time =
      order-in-time (lasts s) ((λ k. list_all (λ q. nat_le q.1 last_moment) (lasts-named s k)) ∙ rules-in-time (last_triggered s) (automations s) (last-in-time in_time))

-- the numbers of the automations are the first ones
pub first-numbers : (s : Journal) (ns : List ℕ) → ns ≡ numbers_in s → take (length (automations s)) ns ≡ rule_numbers s
first-numbers s ns is =
    let many : length (automations s) ≡ length (rule_numbers s) = ap length (sym (in-force-are s)) ∙ by (in_force s) in
    (λ k. take (many k) (is k)) ∙ front (rule_numbers s) (map {A = ℕ × Script} {B = ℕ} (λ p. p.0) (force s).scripts)
  where
    by : (ps : List (ℕ × Automation)) → length (map {A = ℕ × Automation} {B = Automation} (λ p. p.1) ps) ≡ length (map {A = ℕ × Automation} {B = ℕ} (λ p. p.0) ps)
    by [] = refl
    by (p ∷ ps) = ap suc (by ps)

    front : (xs ys : List ℕ) → take (length xs) (xs ++ ys) ≡ xs
    front [] ys = refl
    front (x ∷ xs) ys = ap (λ l. x ∷ l) (front xs ys)

-- ---- what is stored

module _ (j : Journal) (b : Bounds) (u : UnitBook) (t : NamedTable) (p : Parts) (ls : List (Option ℕ)) (reset moved : Bool) (told : IsTold j b u t) (followed : IsFollowed j u t p ls reset) (known : AreNoted j ls moved) where
  -- LAW: the moments by name, as the store has them
  pub told-moments : (rules : List Automation) (order : List ℕ) (l : List (Option ℕ)) → rules ≡ automations (segment j) → order ≡ rule_order (automations (segment j))
      → l ≡ map (λ n. unwrap_or (slice_get ls (first_in u.firsts.items n)) None) (rule_numbers (segment j))
      → listed (names_of rules) (λ a. unwrap_or (slice_get l a) None) order ≡ in_name_order (lasts (segment j))
  told-moments rules order l is order_is l_is =
      (λ i. listed (names_of (is i)) (λ a. unwrap_or (slice_get l a) None) (order_is i)) ∙ moments-listed (segment j) l (l_is ∙ rules-last (segment j) u ls followed.lasts_are)

  pub told-storable : AreMoments (in_name_order (lasts (segment j)))
  told-storable =
      (let sound : AreSound (segment j) = followed.kept.going.sees.sound in
      let rules : List Automation = automations (segment j) in
      let own : are_sound_automations rules ≡ true = sound-automations (configured (segment j)) sound in
      moments-storable (segment j) (rules-differ (segment j) sound)
      (all-named rules (and_right (nat_le (length rules) 1_024 && all_distinct (names_of rules)) (list_all is_sound_automation rules) own))
      (λ a lt. (let got = there rules a lt in
      (λ i. option_map_or (λ at. nat_le at last_moment) (last_triggered (segment j) (option_map_or (λ (x : Automation). x.name) (got.1 i) [])) true)
      ∙ last-in-time (segment j) u ls followed.lasts_are known.in_time a got.0 got.1)))
    where
      there : (all : List Automation) (a : ℕ) → a < length all → (x : Automation) × (slice_get all a ≡ Some x)
      there [] a lt = absurd (omega (arith, lt))
      there (x ∷ xs) zero lt = (x, refl)
      there (x ∷ xs) (suc a) lt = there xs a (omega (arith, lt))
