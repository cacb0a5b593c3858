-- What a hold watches is compared with what it was when the trigger moved. A numeric trigger moves into its bounds, and a template trigger where it
-- becomes true; so for them it is enough to ask whether the number is still in the bounds, and whether the template is still true.
use Rattle.std.proofs.Common.{◌≡◌, ℕ, zero, suc, List, [], ◌∷◌, ◌++◌, take, Bool, true, false, refl, sym, ap, ◌∙◌, Option, append-nil}
use Rattle.std.specs.Prelude.{Some, None, not, slice_get, is_some, is_none, nat_le, nat_lt, filter_map, option_and_then, ◌&&◌, ◌+◌, ◌-◌, if◌then◌else◌}
use Rattle.std.specs.List.{list_all, list_any, cons_option}
use Rattle.std.specs.Option.{option_map_or}
use Rattle.std.proofs.lemmas.List.Elements.{filter_map-append}
use Rattle.ha_value.specs.declared.value.EntityId.{EntityId}
use Rattle.ha_value.specs.declared.value.Num.{Num}
use Rattle.ha_config.specs.declared.config.Trigger.{Trigger}
use Rattle.ha_config.specs.declared.config.TriggerRule.{TriggerRule}
use Rattle.ha_journal.specs.declared.entry.Entry.{Entry}
use Rattle.ha_config.specs.Words.{Text, same, first_pair, longest_end, last_of, or_else}
use Rattle.ha_journal.specs.Entries.{is_boot, opens_segment, is_moment}
use Rattle.ha_config.specs.Equal.{same_flag}
use Rattle.ha_config.specs.Numbers.{in_bounds}
use Rattle.ha_journal.specs.Journal.{Journal, more}
use Rattle.ha_sight.specs.Templates.{rendered, says}
use Rattle.ha_sight.specs.Rules.{same_optional, starts}
use Rattle.ha_journal.specs.Moves.{report_number, latest_number, after, before, rule_moves, moves}
use Rattle.ha_journal.specs.Holds.{same_watched, between, fires}
use Rattle.ha_config.proofs.EqualLemmas.{and_left, and_right}
use Rattle.ha_config.proofs.ListLemmas.{none-some, some-same, true-false}
use Rattle.ha_journal.proofs.StateLemmas.{longest_end-ends, longest_end-keeps, last_of-snoc}

-- LAW: the latest number of an entity with one more entry
pub latest-more : (j : Journal) (x : Entry) (e : EntityId) (name : Option Text) → latest_number e name (more j x) ≡ (if opens_segment x then None else or_else (report_number e name x) (latest_number e name j))
latest-more j x e name = by (opens_segment x) refl
  where
    last-one : (xs : List Num) (o : Option Num) → last_of (xs ++ cons_option o []) ≡ or_else o (last_of xs)
    last-one xs None = ap last_of (append-nil xs)
    last-one xs (Some n) = last_of-snoc xs n

    by : (b : Bool) → opens_segment x ≡ b → latest_number e name (more j x) ≡ (if b then None else or_else (report_number e name x) (latest_number e name j))
    by true h = ap (λ l. last_of (filter_map (report_number e name) l)) (longest_end-ends (λ y. not (opens_segment y)) j x (ap not h))
    by false h =
        ap (λ l. last_of (filter_map (report_number e name) l)) (longest_end-keeps (λ y. not (opens_segment y)) j x (ap not h))
        ∙ ap last_of (filter_map-append (report_number e name) (longest_end (λ y. not (opens_segment y)) j) (x ∷ []))
        ∙ last-one (filter_map (report_number e name) (longest_end (λ y. not (opens_segment y)) j)) (report_number e name x)

module _ (j : Journal) where
  -- what a hold watches after place p is as the trigger's move at place i left it
  abbrev pub still_watched : TriggerRule → Option EntityId → ℕ → ℕ → Bool
  still_watched (TriggerRule.State entities (Some name) from to) (Some e) i p =
      same_optional (option_and_then (λ s. first_pair name s.attributes) ((after j i).states e)) (option_and_then (λ s. first_pair name s.attributes) ((after j p).states e))
  still_watched (TriggerRule.State entities None from to) (Some e) i p =
      option_map_or (λ s. option_map_or (λ o. same o.text s.text) ((after j i).states e) false) ((after j p).states e) (is_none ((after j i).states e))
  still_watched (TriggerRule.State entities attribute from to) None i p = false
  still_watched (TriggerRule.Numeric entities attribute above below) (Some e) i p = option_map_or (in_bounds above below) (latest_number e attribute (take (suc p) j)) false
  still_watched (TriggerRule.Numeric entities attribute above below) None i p = false
  still_watched (TriggerRule.Template t) (Some e) i p = false
  still_watched (TriggerRule.Template t) None i p = says (rendered (after j p) t [])
  still_watched (TriggerRule.Event kinds pairs) e i p = false
  still_watched (TriggerRule.Time seconds) e i p = false
  still_watched (TriggerRule.Pattern hours minutes seconds) e i p = false
  still_watched TriggerRule.Start e i p = false

  take-one : (i : ℕ) (xs : Journal) (x : Entry) → slice_get xs i ≡ Some x → take (suc i) xs ≡ more (take i xs) x
  take-one i [] x h = absurd (none-some x h)
  take-one zero (y ∷ ys) x h = ap (λ z. z ∷ []) (some-same y x h)
  take-one (suc i) (y ∷ ys) x h = ap (λ l. y ∷ l) (take-one i ys x h)

  -- a number that moves the rule is the latest one after its entry
  latest-moved : (i : ℕ) (x : Entry) (e : EntityId) (name : Option Text) (above below : Option Num) → slice_get j i ≡ Some x → opens_segment x ≡ false
      → option_map_or (in_bounds above below) (report_number e name x) false ≡ true → option_map_or (in_bounds above below) (latest_number e name (take (suc i) j)) false ≡ true
  latest-moved i x e name above below at opens h =
      (λ k. option_map_or (in_bounds above below) (latest_number e name (take-one i j x at k)) false)
      ∙ (λ k. option_map_or (in_bounds above below) (latest-more (take i j) x e name k) false)
      ∙ (λ k. option_map_or (in_bounds above below) (if opens k then None else or_else (report_number e name x) (latest_number e name (take i j))) false)
      ∙ by (report_number e name x) h
    where
      by : (n : Option Num) → option_map_or (in_bounds above below) n false ≡ true → option_map_or (in_bounds above below) (or_else n (latest_number e name (take i j))) false ≡ true
      by None h = absurd (true-false (sym h))
      by (Some n) h = h

  still-of : (rule : TriggerRule) (held : Bool) (e : Option EntityId) (i q : ℕ) (x : Entry) → slice_get j i ≡ Some x → opens_segment x ≡ false → rule_moves j rule held e i x ≡ true
      → same_watched j rule e i q ≡ still_watched rule e i q
  still-of (TriggerRule.State entities (Some name) from to) held (Some e) i q x at opens h = refl
  still-of (TriggerRule.State entities None from to) held (Some e) i q x at opens h = refl
  still-of (TriggerRule.State entities (Some name) from to) held None i q x at opens h = refl
  still-of (TriggerRule.State entities None from to) held None i q x at opens h = refl
  still-of (TriggerRule.Numeric entities attribute above below) held (Some e) i q x at opens h =
      (λ k. same_flag (latest-moved i x e attribute above below at opens (and_left _ _ h) k) (option_map_or (in_bounds above below) (latest_number e attribute (take (suc q) j)) false))
  still-of (TriggerRule.Numeric entities attribute above below) held None i q x at opens h = refl
  still-of (TriggerRule.Event kinds pairs) held e i q x at opens h = refl
  still-of (TriggerRule.Time seconds) held e i q x at opens h = refl
  still-of (TriggerRule.Pattern hours minutes seconds) held e i q x at opens h = refl
  still-of (TriggerRule.Template t) held (Some e) i q x at opens h = refl
  still-of (TriggerRule.Template t) held None i q x at opens h = (λ k. same_flag (and_left (says (rendered (after j i) t [])) (not (says (rendered (before j i) t []))) h k) (says (rendered (after j q) t [])))
  still-of TriggerRule.Start held e i q x at opens h = refl

  no-start : (rule : TriggerRule) (e : Option EntityId) (i q : ℕ) → starts rule ≡ true → same_watched j rule e i q ≡ still_watched rule e i q
  no-start (TriggerRule.State entities attribute from to) e i q h = absurd (true-false (sym h))
  no-start (TriggerRule.Numeric entities attribute above below) e i q h = absurd (true-false (sym h))
  no-start (TriggerRule.Event kinds pairs) e i q h = absurd (true-false (sym h))
  no-start (TriggerRule.Time seconds) e i q h = absurd (true-false (sym h))
  no-start (TriggerRule.Pattern hours minutes seconds) e i q h = absurd (true-false (sym h))
  no-start (TriggerRule.Template t) e i q h = absurd (true-false (sym h))
  no-start TriggerRule.Start e i q h = refl

  -- LAW: where a trigger moved at place i, what it watches is the same at place q exactly where it is still so there
  pub moved-still : (t : Trigger) (e : Option EntityId) (i q : ℕ) → moves j t e i ≡ true → same_watched j t.rule e i q ≡ still_watched t.rule e i q
  moved-still t e i q h = by (slice_get j i) refl h
    where
      entry : (x : Entry) → slice_get j i ≡ Some x → (b : Bool) → opens_segment x ≡ b → (if b then is_boot x && starts t.rule && is_none e else rule_moves j t.rule (is_some t.hold) e i x) ≡ true
          → same_watched j t.rule e i q ≡ still_watched t.rule e i q
      entry x at true opens h = no-start t.rule e i q (and_right (is_boot x) (starts t.rule) (and_left (is_boot x && starts t.rule) (is_none e) h))
      entry x at false opens h = still-of t.rule (is_some t.hold) e i q x at opens h

      by : (o : Option Entry) → slice_get j i ≡ o → option_map_or (λ x. if opens_segment x then is_boot x && starts t.rule && is_none e else rule_moves j t.rule (is_some t.hold) e i x) o false ≡ true
          → same_watched j t.rule e i q ≡ still_watched t.rule e i q
      by None at h = absurd (true-false (sym h))
      by (Some x) at h = entry x at (opens_segment x) refl h

  all-still : (f g : ℕ → Bool) (ns : List ℕ) → ((q : ℕ) → f q ≡ g q) → list_all f ns ≡ list_all g ns
  all-still f g [] h = refl
  all-still f g (n ∷ ns) h = (λ k. h n k && all-still f g ns h k)

  -- a hold of d that began at place i fires at place p, by whether the trigger moved there and by the test of what it watches
  abbrev pub held_by : ℕ → ℕ → ℕ → ℕ → Bool → (ℕ → Bool) → Bool
  held_by d since p i moved stays =
      nat_lt since i && moved
      && option_map_or is_moment (slice_get j p) false && nat_le ((after j i).now + d) (after j p).now
      && not (list_any (λ q. option_map_or is_moment (slice_get j q) false && nat_le ((after j i).now + d) (after j q).now) (between j i (p - 1)))
      && list_all stays (between j i p)

  none-held : (d since p i : ℕ) (f g : ℕ → Bool) → held_by d since p i false f ≡ held_by d since p i false g
  none-held d since p i f g = by (nat_lt since i)
    where
      by : (c : Bool) → (c && false
          && option_map_or is_moment (slice_get j p) false && nat_le ((after j i).now + d) (after j p).now
          && not (list_any (λ q. option_map_or is_moment (slice_get j q) false && nat_le ((after j i).now + d) (after j q).now) (between j i (p - 1)))
          && list_all f (between j i p))
          ≡ (c && false
          && option_map_or is_moment (slice_get j p) false && nat_le ((after j i).now + d) (after j p).now
          && not (list_any (λ q. option_map_or is_moment (slice_get j q) false && nat_le ((after j i).now + d) (after j q).now) (between j i (p - 1)))
          && list_all g (between j i p))
      by true = refl
      by false = refl

  -- LAW: so a trigger with a `for` that moved at i fires at p by whether what it watches is still so up to there
  pub fires-still : (t : Trigger) (d : ℕ) (e : Option EntityId) (since p i : ℕ)
      → fires j (record t { hold = Some d }) e since p i ≡ held_by d since p i (moves j (record t { hold = Some d }) e i) (still_watched t.rule e i)
  fires-still t d e since p i = by (moves j (record t { hold = Some d }) e i) refl
    where
      by : (b : Bool) → moves j (record t { hold = Some d }) e i ≡ b → held_by d since p i b (same_watched j t.rule e i) ≡ held_by d since p i b (still_watched t.rule e i)
      by false h = none-held d since p i (same_watched j t.rule e i) (still_watched t.rule e i)
      by true h =
          let stayed = all-still (same_watched j t.rule e i) (still_watched t.rule e i) (between j i p) (λ q. moved-still (record t { hold = Some d }) e i q h) in
          (λ k. nat_lt since i && true
          && option_map_or is_moment (slice_get j p) false && nat_le ((after j i).now + d) (after j p).now
          && not (list_any (λ q. option_map_or is_moment (slice_get j q) false && nat_le ((after j i).now + d) (after j q).now) (between j i (p - 1)))
          && stayed k)
