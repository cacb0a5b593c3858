-- What the store keeps, read by the numbers of the automations in force.
use Rattle.std.proofs.Common.{◌≡◌, ℕ, zero, suc, ◌+◌, ◌≤◌, List, [], ◌∷◌, ◌++◌, length, length-append, map, Bool, true, false, refl, sym, ap, ◌∙◌, rules, arith, Option}
use Rattle.std.specs.Prelude.{Some, None, filter_map, nat_eq, not, option_and_then, option_map, slice_get, unwrap_or, ◌&&◌, ◌||◌, if◌then◌else◌}
use Rattle.std.specs.List.{enumerate_from}
use Rattle.std.proofs.lemmas.List.{length-map}
use Rattle.ha_config.specs.declared.config.Automation.{Automation}
use Rattle.ha_config.specs.declared.config.Script.{Script}
use Rattle.ha_config.specs.Equal.{same_flag}
use Rattle.ha_config.specs.Names.{names_of}
use Rattle.ha_config.specs.Numbered.{has_number}
use Rattle.ha_config.proofs.ListLemmas.{none-some, some-same, true-false}
use Rattle.ha_config.proofs.NumberedLemmas.{get-front, get-within}
use Rattle.ha_journal.specs.declared.entry.Entry.{Entry}
use Rattle.ha_journal.specs.declared.entry.Entry.TheVariants.{Boot, Line, Step, Again}
use Rattle.ha_journal.specs.Entries.{is_reload}
use Rattle.ha_journal.specs.Force.{force}
use Rattle.ha_journal.specs.Journal.{Journal, automations, in_force}
use Rattle.ha_journal.specs.States.{switches_of}
use Rattle.ha_journal.specs.Switches.{is_on}
use Rattle.ha_journal.proofs.ForceLaws.{in-force-are}
use Rattle.ha_model.specs.Records.{last_is}
use Rattle.ha_sight.specs.Sight.{Automations, switch_at}
use Rattle.ha_whole.specs.Lasts.{last_triggered, lasts}
use Rattle.ha_whole.specs.Named.{in_name_order}
use Rattle.ha_whole.specs.Segments.{segment}
use Rattle.ha_whole.specs.Whole.{AreEntries, IsFirst, before_put, changes_store, same_pairs_by}
use Rattle.switch_book.specs.Book.{StandsFor, Switch}
use Rattle.switch_book.proofs.SwitchLaws.{switch-of-journal}
use Rattle.named_runs.specs.Named.{first_in}
use Rattle.segment_carry.specs.ByName.{listed, rule_order}
use Rattle.segment_carry.specs.Closing.{flag_in}
use Rattle.segment_carry.proofs.ByNameLemmas.{all-given, given, given-each, listed-by-name}
use Rattle.unit_book.specs.declared.book.UnitBook.{UnitBook}
use Rattle.engine_parts.specs.Numbers.{numbers_in, rule_numbers}
use Rattle.ha_engine.specs.declared.kept.Kept.{Kept}
use Rattle.ha_engine.specs.Engines.{IsStored}
use Rattle.ha_engine.specs.Told.{AreLasts}
use Rattle.ha_engine.proofs.LastsLemmas.{apart-of}
use Rattle.ha_engine.proofs.MovedLemmas.{got-mapped}
use Rattle.ha_engine.proofs.StoredLemmas.{rule-last}

equal-self : (a : ℕ) → nat_eq a a ≡ true
equal-self a = search rules

has-at : (ps : List (ℕ × Automation)) (i : ℕ) (p : ℕ × Automation) → slice_get ps i ≡ Some p → has_number ps p.0 ≡ true
has-at [] i p e = absurd (none-some p e)
has-at (q ∷ ps) zero p e = (λ k. nat_eq (some-same q p e k).0 p.0 || has_number ps p.0) ∙ (λ k. equal-self p.0 k || has_number ps p.0)
has-at (q ∷ ps) (suc i) p e = by (nat_eq q.0 p.0) (has-at ps i p e)
  where
    by : (b : Bool) → has_number ps p.0 ≡ true → (b || has_number ps p.0) ≡ true
    by true h = refl
    by false h = h

module _ (s : Journal) where
  -- what is listed of the automations in force, by what each has
  listed-in-force : {X : Type 0} (f : ℕ → Option X) (value : ℕ × Automation → Option X) → ((i : ℕ) (p : ℕ × Automation) → slice_get (in_force s) i ≡ Some p → f i ≡ value p)
      → listed (names_of (automations s)) f (rule_order (automations s)) ≡ in_name_order {X = X} (filter_map (λ p. option_map (λ v. (p.1.name, v)) (value p)) (in_force s))
  listed-in-force {X} f value h =
      listed-by-name (automations s) f
      ∙ (λ k. in_name_order {X = X} (filter_map (given f) (enumerate_from 0 (sym (in-force-are s) k))))
      ∙ ap (in_name_order {X = X}) (given-each {Y = ℕ × Automation} {X = X} (λ p. p.1) value f 0 (in_force s) (λ i p e. (let none : 0 + i ≡ i = omega arith in ap f none ∙ h i p e)))

  -- those that all have a switch
  switches-listed : (f : ℕ → Option Bool) → ((i : ℕ) (p : ℕ × Automation) → slice_get (in_force s) i ≡ Some p → f i ≡ Some (is_on s p.0))
      → listed (names_of (automations s)) f (rule_order (automations s)) ≡ in_name_order (switches_of s)
  switches-listed f h = listed-in-force f (λ p. Some (is_on s p.0)) h ∙ ap (in_name_order {X = Bool}) (all-given {Y = ℕ × Automation} {X = Bool} (λ p. p.1) (λ p. is_on s p.0) (in_force s))

  -- LAW: the switches that stand for a journal, by their places
  pub switches-placed : (sw : Automations) → StandsFor sw s → listed (names_of (automations s)) (flag_in sw) (rule_order (automations s)) ≡ in_name_order (switches_of s)
  switches-placed sw stands = switches-listed (flag_in sw) there
    where
      there : (i : ℕ) (p : ℕ × Automation) → slice_get (in_force s) i ≡ Some p → flag_in sw i ≡ Some (is_on s p.0)
      there i p e =
          (λ k. option_map (λ (q : Switch). q.2) (slice_get (stands k) i))
          ∙ ap (option_map (λ (q : Switch). q.2)) (got-mapped {X = ℕ × Automation} {Y = Switch} (λ p. (p.0, p.1.name, is_on s p.0)) (in_force s) i p e)

  module _ (numbers : List ℕ) (numbers_are : numbers ≡ numbers_in s) where
    number-there : (i : ℕ) (p : ℕ × Automation) → slice_get (in_force s) i ≡ Some p → slice_get numbers i ≡ Some p.0
    number-there i p e =
        let got : slice_get (rule_numbers s) i ≡ Some p.0 = got-mapped {X = ℕ × Automation} {Y = ℕ} (λ q. q.0) (in_force s) i p e in
        (λ k. slice_get (numbers_are k) i) ∙ get-front (rule_numbers s) (map {A = ℕ × Script} {B = ℕ} (λ q. q.0) (force s).scripts) i (get-within (rule_numbers s) i p.0 got) ∙ got

    -- LAW: and by their numbers
    pub flags-listed : (sw : Automations) → StandsFor sw s → listed (names_of (automations s)) (λ a. option_and_then (switch_at sw) (slice_get numbers a)) (rule_order (automations s)) ≡ in_name_order (switches_of s)
    flags-listed sw stands = switches-listed (λ a. option_and_then (switch_at sw) (slice_get numbers a)) there
      where
        there : (i : ℕ) (p : ℕ × Automation) → slice_get (in_force s) i ≡ Some p → option_and_then (switch_at sw) (slice_get numbers i) ≡ Some (is_on s p.0)
        there i p e =
            (λ k. option_and_then (switch_at sw) (number-there i p e k))
            ∙ switch-of-journal sw s stands p.0
            ∙ (λ k. if has-at (in_force s) i p e k then Some (is_on s p.0) else None)

    -- LAW: the moments, by the first units of the names of those numbers
    pub lasts-listed : (u : UnitBook) (ls : List (Option ℕ)) → AreLasts s u ls
        → listed (names_of (automations s)) (λ a. option_and_then (λ n. unwrap_or (slice_get ls (first_in u.firsts.items n)) None) (slice_get numbers a)) (rule_order (automations s)) ≡ in_name_order (lasts s)
    lasts-listed u ls are = listed-in-force (λ a. option_and_then (λ n. unwrap_or (slice_get ls (first_in u.firsts.items n)) None) (slice_get numbers a)) (λ p. last_triggered s p.1.name) there
      where
        there : (i : ℕ) (p : ℕ × Automation) → slice_get (in_force s) i ≡ Some p
            → option_and_then (λ n. unwrap_or (slice_get ls (first_in u.firsts.items n)) None) (slice_get numbers i) ≡ last_triggered s p.1.name
        there i p e =
            (λ k. option_and_then (λ n. unwrap_or (slice_get ls (first_in u.firsts.items n)) None) (number-there i p e k))
            ∙ (λ k. unwrap_or (rule-last s u ls are i p e k) None)

-- the numbers of the automations are among those of all units
pub many-numbers : (s : Journal) (numbers : List ℕ) → numbers ≡ numbers_in s → length (automations s) ≤ length numbers
many-numbers s numbers is =
    (let many : length (automations s) ≡ length (in_force s) = ap length (sym (in-force-are s)) ∙ length-map (in_force s) (λ (p : ℕ × Automation). p.1) in
    let rules : length (rule_numbers s) ≡ length (in_force s) = length-map (in_force s) (λ (p : ℕ × Automation). p.0) in
    let all : length (rule_numbers s ++ map {A = ℕ × Script} {B = ℕ} (λ q. q.0) (force s).scripts) ≡ length (rule_numbers s) + length (map {A = ℕ × Script} {B = ℕ} (λ q. q.0) (force s).scripts)
    = length-append (rule_numbers s) (map {A = ℕ × Script} {B = ℕ} (λ q. q.0) (force s).scripts) in
    let here : length numbers ≡ length (numbers_in s) = ap length is in
    omega (arith, many, rules, all, here))

-- ---- behind a Reload

reload-many : (j : Journal) → AreEntries j → last_is is_reload j ≡ true → nat_eq (length j) 1 ≡ false
reload-many [] entries e = absurd entries
reload-many (x ∷ []) entries e = absurd (by x entries.0 e)
  where
    by : (x : Entry) → IsFirst x → last_is is_reload (x ∷ []) ≡ true → ⊥
    by (Boot text config stored start zone carry) first e = true-false (sym e)
    by (Line source number cmd) first e = first
    by (Step worker serial branch item) first e = first
    by (Again number start stored carry) first e = first
reload-many (x ∷ y ∷ xs) entries e = apart-of (suc (suc (length xs))) 1 (λ same. omega (arith, same))

-- LAW: it changed what is stored where what the store kept before it is not the same
pub reload-changes : (j : Journal) (k : Kept) → AreEntries j → IsStored j (Some k)
    → not (same_pairs_by same_flag k.switches (in_name_order (switches_of (segment j))) && same_pairs_by nat_eq k.moments (in_name_order (lasts (segment j)))) ≡ changes_store j
reload-changes j k entries stored =
    (λ i. not (same_pairs_by same_flag (stored.1 i) (in_name_order (switches_of (segment j))) && same_pairs_by nat_eq (stored.2 i) (in_name_order (lasts (segment j)))))
    ∙ (λ i. sym (reload-many j entries stored.0) i || not (same_pairs_by same_flag (in_name_order (switches_of (segment (before_put j)))) (in_name_order (switches_of (segment j))) && same_pairs_by nat_eq (in_name_order (lasts (segment (before_put j)))) (in_name_order (lasts (segment j)))))
