-- Whether the last put changed a switch, where the last entry is no opening.
use Rattle.std.proofs.Common.{◌≡◌, ℕ, suc, ◌-◌, ◌<◌, ◌≤◌, [], ◌∷◌, ◌++◌, length, map, take, Bool, false, refl, sym, ap, subst, ◌∙◌, arith}
use Rattle.std.specs.Prelude.{nat_eq, not, ◌||◌, Option, Some, None, is_some, if◌then◌else◌}
use Rattle.std.specs.List.{list_any}
use Rattle.std.specs.Option.{option_map_or}
use Rattle.std.proofs.Math.Seq.{take-append_seam}
use Rattle.ha_config.specs.declared.config.Automation.{Automation}
use Rattle.ha_config.specs.declared.config.Config.{Config}
use Rattle.ha_config.specs.Equal.{same_flag}
use Rattle.ha_config.specs.StoreText.{in_name_order}
use Rattle.ha_config.specs.Words.{Text, last_of}
use Rattle.ha_config.proofs.ListLemmas.{true-false}
use Rattle.ha_journal.specs.declared.entry.Entry.{Entry}
use Rattle.ha_journal.specs.declared.entry.Entry.TheVariants.{Boot, Line, Step, Again}
use Rattle.ha_journal.specs.Entries.{Reopening, again_in, is_again, is_reload, reload_in}
use Rattle.ha_journal.specs.Journal.{HasEntry, Journal, in_force, more}
use Rattle.ha_journal.specs.Sights.{changes_switch, renames}
use Rattle.ha_journal.specs.States.{switches_of}
use Rattle.ha_journal.specs.Switches.{is_on}
use Rattle.ha_journal.proofs.ForceLaws.{in-force-more}
use Rattle.ha_journal.proofs.MoreLemmas.{length-more}
use Rattle.ha_model.specs.Records.{last_is}
use Rattle.ha_model.proofs.LastEntry as last
use Rattle.ha_whole.specs.Segments.{alone, carried, front, reopened, segment}
use Rattle.ha_whole.specs.Whole.{AreEntries, before_put, same_pairs_by}
use Rattle.whole_laws.proofs.CutLemmas.{IsCut, alone-reload, is-cut, segment-again, segment-on}
use Rattle.whole_laws.proofs.SeenLemmas.{front-below}
use Rattle.ha_engine.specs.Noted.{changes_switches}
use Rattle.ha_engine.proofs.LastsLemmas.{apart-of}
use Rattle.ha_engine.proofs.PairLemmas.{made-same}
use Rattle.ha_engine.proofs.PrepareLemmas.{last-split}

-- what an Again opens is one entry at most
reopened-short : (s : Journal) (a : Reopening) → length (reopened s a) ≤ 1
reopened-short [] a = omega arith
reopened-short (Boot text config stored start zone carry ∷ es) a = omega arith
reopened-short (Line source number cmd ∷ es) a = omega arith
reopened-short (Step worker serial branch item ∷ es) a = omega arith
reopened-short (Again number start stored carry ∷ es) a = omega arith

pub take-less : (d : Journal) (x : Entry) → take (length (more d x) - 1) (more d x) ≡ d
take-less d x = (let e : length (more d x) - 1 ≡ length d = omega (arith, length-more d x) in λ i. take (e i) (more d x)) ∙ take-append_seam d (x ∷ [])

-- one entry was put behind this journal alone
pub more-before : (d d' : Journal) (x x' : Entry) → more d x ≡ more d' x' → d ≡ d'
more-before d d' x x' e = sym (take-less d x) ∙ (λ i. take (length (e i) - 1) (e i)) ∙ take-less d' x'

not-one : (n : ℕ) → (n ≡ 1 → ⊥) → nat_eq n 1 ≡ false
not-one n h = apart-of n 1 h

module _ (d : Journal) (x : Entry) (entries : AreEntries (more d x)) (inner : length (more d x) ≡ suc (front (more d x)) → ⊥) (quiet : reload_in x ≡ None) where
  abbrev k : Journal
  k = more d x

  abbrev s : Journal
  s = segment d

  abbrev y : Entry
  y = alone s x

  c : IsCut k
  c = is-cut k entries

  below : front k < length k
  below = front-below k entries

  last-end : (l : Journal) (z : Entry) → last_of (l ++ (z ∷ [])) ≡ Some z
  last-end [] z = refl
  last-end (e ∷ []) z = refl
  last-end (e ∷ a ∷ l) z = last-end (a ∷ l) z

  -- the switches before the last entry and behind it, where the same automations are in force
  module _ (none : again_in x ≡ None) where
    on : segment k ≡ more s y
    on = segment-on d x none

    has : HasEntry s
    has = by s (λ e. (let one : length (more s y) ≡ 1 = ap (λ (l : Journal). length (more l y)) e in inner (omega (arith, below, c.length_is, ap length on, one))))
      where
        by : (l : Journal) → (l ≡ [] → ⊥) → HasEntry l
        by [] h = h refl
        by (e ∷ es) h = tt

    quiet-y : reload_in y ≡ None
    quiet-y = alone-reload (carried s) x ∙ quiet

    back : before_put k ≡ d
    back = (let never : last_is is_again k ≡ false = last.last-is is_again d x ∙ ap is_some none in λ i. take (length k - (if never i then 2 else 1)) k) ∙ take-less d x

    first : nat_eq (length k) 1 ≡ false
    first = not-one (length k) (λ e. inner (omega (arith, e, below)))

    own : nat_eq (length (more s y)) 1 ≡ false
    own = not-one (length (more s y)) (λ e. inner (omega (arith, e, ap length on, c.length_is)))

    in-force : in_force s ≡ in_force (more s y)
    in-force = in-force-more s y has quiet-y

    abbrev told : Bool → Journal → Bool
    told b was = if b then renames was (more s y) else list_any (λ p. not (same_flag (is_on was p.0) (is_on (more s y) p.0))) (in_force (more s y))

    plain-last : option_map_or is_reload (last_of (more s y)) false ≡ false
    plain-last = (λ i. option_map_or is_reload (last-end s y i) false) ∙ ap is_some quiet-y

    -- what the last entry changed
    inside : changes_switch (more s y) ≡ list_any (λ (p : ℕ × Automation). not (same_flag (is_on s p.0) (is_on (more s y) p.0))) (in_force (more s y))
    inside = (λ i. own i || told (plain-last i) (take-less s y i))

    plain : changes_switches k ≡ changes_switch (segment k)
    plain =
        (λ i. first i || not (same_pairs_by same_flag (in_name_order (switches_of (segment (back i)))) (in_name_order (switches_of (on i)))))
        ∙ (λ i. not (same_pairs_by same_flag (in_name_order (map {A = ℕ × Automation} {B = Text × Bool} (λ p. (p.1.name, is_on s p.0)) (in-force i))) (in_name_order (switches_of (more s y)))))
        ∙ made-same same_flag (λ (p : ℕ × Automation). p.1.name) (λ p. is_on s p.0) (λ p. is_on (more s y) p.0) (in_force (more s y))
        ∙ sym inside ∙ (λ i. changes_switch (sym on i))

    -- the segment's last entry is no Reload either
    last-plain : last_is is_reload (segment k) ≡ false
    last-plain = (λ i. last_is is_reload (on i)) ∙ last.last-is is_reload s y ∙ ap is_some quiet-y

  last-one : last_is is_reload (segment k) ≡ false
  last-one = by (again_in x) refl
    where
      by : (o : Option Reopening) → again_in x ≡ o → last_is is_reload (segment k) ≡ false
      by None e = last-plain e
      by (Some a) e = absurd (inner (omega (arith, below, c.length_is, ap length (segment-again d x a e), reopened-short s a)))

  again : (a : Reopening) → again_in x ≡ Some a → changes_switches k ≡ changes_switch (segment k)
  again a some = absurd (inner (omega (arith, below, c.length_is, ap length (segment-again d x a some), reopened-short s a)))

  one-more : changes_switches k ≡ changes_switch (segment k)
  one-more = by (again_in x) refl
    where
      by : (o : Option Reopening) → again_in x ≡ o → changes_switches k ≡ changes_switch (segment k)
      by None e = plain e
      by (Some a) e = again a e

none-of : (o : Option Config) → is_some o ≡ false → o ≡ None
none-of None e = refl
none-of (Some c) e = absurd (true-false e)

-- LAW: where no Reload stands last, none does so in the last segment
pub last-inside : (j : Journal) → AreEntries j → (length j ≡ suc (front j) → ⊥) → last_is is_reload j ≡ false → last_is is_reload (segment j) ≡ false
last-inside j entries inner quiet =
    let split = last-split j (let lt = front-below j entries in omega (arith, lt)) in
    let told : is_reload split.1 ≡ false = sym (last.last-is is_reload split.0 split.1) ∙ (λ i. last_is is_reload (sym split.2 i)) ∙ quiet in
    subst (λ k. last_is is_reload (segment k) ≡ false) (sym split.2)
    (last-one split.0 split.1 (subst AreEntries split.2 entries) (λ e. inner (subst (λ k. length k ≡ suc (front k)) (sym split.2) e)) (none-of (reload_in split.1) told))

-- LAW: the last put changed a switch where the last entry did, which is no Reload
pub changes-inside : (j : Journal) → AreEntries j → (length j ≡ suc (front j) → ⊥) → last_is is_reload j ≡ false → changes_switches j ≡ changes_switch (segment j)
changes-inside j entries inner quiet =
    let split = last-split j (let lt = front-below j entries in omega (arith, lt)) in
    let told : is_reload split.1 ≡ false = sym (last.last-is is_reload split.0 split.1) ∙ (λ i. last_is is_reload (sym split.2 i)) ∙ quiet in
    subst (λ k. changes_switches k ≡ changes_switch (segment k)) (sym split.2)
    (one-more split.0 split.1 (subst AreEntries split.2 entries) (λ e. inner (subst (λ k. length k ≡ suc (front k)) (sym split.2) e)) (none-of (reload_in split.1) told))
