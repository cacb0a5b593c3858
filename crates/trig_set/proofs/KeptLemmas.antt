-- What a spot keeps, step by step.
use Rattle.std.proofs.Common.{◌≡◌, ℕ, ◌+◌, ◌≤◌, length, Bool, true, false, refl, sym, ap, subst, ◌∙◌, arith}
use Rattle.std.specs.Prelude.{Option, Some, None, is_some, nat_lt, nat_le, option_map, option_and_then, ◌&&◌, ◌||◌, if◌then◌else◌}
use Rattle.std.proofs.lemmas.Bool.Decides.{nat_tests}
use Rattle.ha_value.specs.declared.value.EntityId.{EntityId}
use Rattle.ha_value.specs.declared.value.Value.{Value}
use Rattle.ha_config.specs.declared.config.Trigger.{Trigger}
use Rattle.ha_config.specs.declared.config.TriggerRule.{TriggerRule}
use Rattle.ha_journal.specs.declared.entry.Entry.{Entry}
use Rattle.ha_journal.specs.Entries.{is_moment}
use Rattle.ha_journal.specs.Journal.{Journal, now, more}
use Rattle.ha_config.specs.Sound.{may_hold}
use Rattle.ha_sight.specs.Sight.{Sight}
use Rattle.ha_journal.specs.Moves.{sight, moves}
use Rattle.ha_sight.specs.Rules.{starts, is_template}
use Rattle.ha_journal.specs.Variables.{variables}
use Rattle.ha_journal.specs.Holds.{fired_from}
use Rattle.ha_journal.proofs.MoreLemmas.{through-last}
use Rattle.trig_set.specs.declared.spot.Held.{Held}
use Rattle.trig_set.specs.declared.spot.Spot.{Spot}
use Rattle.trig_set.specs.Kept.{Keeps, Moved, Fired, Settles, holding, holds_well, is_true, ripened, ripened_by}
use Rattle.ha_past.specs.Holds.{pending}
use Rattle.ha_past.specs.Looks.{Holding, holding_of, standing, arrived, at_once, moves_with, moves_after, moves_here, stays_watched, ripe_value, unripe, is_ripe, or_else}
use Rattle.ha_past.proofs.EntryLaws.{fired-any, standing-any, standing-fresh}

module _ (j : Journal) (x : Entry) (t : Trigger) (since : ℕ) (e : Option EntityId) where
  longer : Journal
  longer = more j x

  start-not : (k : Journal) (rule : TriggerRule) → may_hold rule ≡ true → starts rule ≡ false
  start-not k (TriggerRule.State entities attribute from to) m = refl
  start-not k (TriggerRule.Numeric entities attribute above below) m = refl
  start-not k (TriggerRule.Event kinds pairs) m = refl
  start-not k (TriggerRule.Time seconds) m = refl
  start-not k (TriggerRule.Pattern hours minutes seconds) m = refl
  start-not k (TriggerRule.Template x) m = refl
  start-not k TriggerRule.Start m = cc

  after-is-here : may_hold t.rule ≡ true → moves_after j x t e since ≡ moves_here j x t e since
  after-is-here may =
      (λ i. moves (more j x) t e (length j) && (nat_lt since (length j) || start-not (more j x) t.rule may i))
      ∙ by (moves (more j x) t e (length j)) (nat_lt since (length j))
    where
      by : (a b : Bool) → (a && (b || false)) ≡ (b && a)
      by true true = refl
      by true false = refl
      by false true = refl
      by false false = refl

  abbrev made : ℕ → ℕ → Value → Holding
  made to d v = record { due = to + d; value = v }

  given-here : (to d : ℕ) → may_hold t.rule ≡ true → to ≡ now (more j x) → option_map (made to d) (moves_with j x t e since) ≡ (if moves_here j x t e since then Some (holding_of (more j x) t e d (length j)) else None)
  given-here to d may is =
      (λ i. option_map (made to d) (if after-is-here may i then Some (variables (more j x) t e (length j)) else None))
      ∙ by (moves_here j x t e since)
    where
      by : (b : Bool) → option_map (made to d) (if b then Some (variables (more j x) t e (length j)) else None) ≡ (if b then Some (holding_of (more j x) t e d (length j)) else None)
      by true = (λ i. Some (record { due = (is ∙ ap now (sym (through-last j x))) i + d; value = variables (more j x) t e (length j) }))
      by false = refl

  kept-here : (stayed : Bool) (o : Option Holding) → o ≡ standing j t e since → (nat_lt since (length j) ≡ true → stayed ≡ stays_watched j x t e since) → (if stayed then o else None) ≡ (if stays_watched j x t e since then standing j t e since else None)
  kept-here stayed o is told = by (nat_lt since (length j)) refl
    where
      none : (a b : Bool) → ◌≡◌ {A = Option Holding} (if a then None else None) (if b then None else None)
      none true true = refl
      none true false = refl
      none false true = refl
      none false false = refl

      by : (b : Bool) → nat_lt since (length j) ≡ b → (if stayed then o else None) ≡ (if stays_watched j x t e since then standing j t e since else None)
      by true lt = (λ i. if told lt i then is i else None)
      by false lt =
          let le : length j ≤ since = grind (arith, nat_tests, lt) in
          let fresh = standing-fresh j t e since le in
          (λ i. if stayed then (is ∙ fresh) i else None) ∙ none stayed (stays_watched j x t e since) ∙ (λ i. if stays_watched j x t e since then sym fresh i else None)

  -- what a hold becomes
  pub hold-arrives : (to d : ℕ) (stayed : Bool) (o n : Option Holding) (given : Option Value) → t.hold ≡ Some d → holds_well t
      → n ≡ or_else (if stayed then o else None) (option_map (made to d) given)
      → (nat_lt since (length j) ≡ true → stayed ≡ stays_watched j x t e since) → given ≡ moves_with j x t e since → to ≡ now (more j x) → o ≡ standing j t e since
      → n ≡ arrived j x t e since
  hold-arrives to d stayed o n given hold well is told with now-is was =
      let may = well.0 (ap is_some hold) in
      is
      ∙ (λ i. or_else (kept-here stayed o was told i) (option_map (made to d) (with i)))
      ∙ (λ i. or_else (if stays_watched j x t e since then standing j t e since else None) (given-here to d may now-is i))
      ∙ (λ i. option_and_then (λ d. or_else (if stays_watched j x t e since then standing j t e since else None) (if moves_here j x t e since then Some (holding_of (more j x) t e d (length j)) else None)) (sym hold i))

  -- without `for` there is no hold
  pub none-arrives : (o : Option Holding) → t.hold ≡ None → o ≡ standing j t e since → o ≡ arrived j x t e since
  none-arrives o hold was =
      was ∙ (λ i. option_and_then (λ d. option_map (holding_of j t e d) (pending j t e since)) (hold i))
      ∙ (λ i. option_and_then (λ d. or_else (if stays_watched j x t e since then standing j t e since else None) (if moves_here j x t e since then Some (holding_of (more j x) t e d (length j)) else None)) (sym hold i))

  pub at-once-some : (d : ℕ) → t.hold ≡ Some d → ◌≡◌ None (at_once j x t e since)
  at-once-some d hold = (λ i. if is_some (sym hold i) then None else moves_with j x t e since)

  pub at-once-none : t.hold ≡ None → moves_with j x t e since ≡ at_once j x t e since
  at-once-none hold = (λ i. if is_some (sym hold i) then None else moves_with j x t e since)

module _ (j : Journal) (x : Entry) (t : Trigger) (since : ℕ) where
  -- LAW: what an entry makes of a spot, before the holds that are over fire
  pub step-moved : (to : ℕ) (is stayed : Bool) (given : Option Value) (old mid : Spot) → Settles t.hold to stayed given old mid → holds_well t
      → is ≡ is_true (sight (more j x) (length (more j x))) t.rule → Keeps j t since old
      → (nat_lt since (length j) ≡ true → may_hold t.rule ≡ true → stayed ≡ stays_watched j x t old.entity since)
      → given ≡ moves_with j x t old.entity since → to ≡ now (more j x)
      → Moved j x t since (record mid { was = is })
  step-moved to is stayed given old mid settles well true-now keeps told with now-is = by t.hold refl settles
    where
      by : (o : Option ℕ) → t.hold ≡ o → Settles o to stayed given old mid → Moved j x t since (record mid { was = is })
      by None hold s =
          subst (λ (m : Spot). Moved j x t since (record m { was = is })) (sym s)
          (record { hold = none-arrives j x t since old.entity (option_map holding old.hold) hold keeps.hold; was = true-now; fired = with ∙ at-once-none j x t since old.entity hold })
      by (Some d) hold s =
          subst (λ (m : Spot). Moved j x t since (record m { was = is })) (sym s.1)
          (record {
            hold = hold-arrives j x t since old.entity to d stayed (option_map holding old.hold) (option_map holding mid.hold) given hold well s.0 (λ lt. told lt (well.0 (ap is_some hold))) with now-is keeps.hold;
            was = true-now;
            fired = keeps.fired ∙ at-once-some j x t since old.entity d hold;
          })

  nothing-more : (o : Option Value) → or_else o None ≡ o
  nothing-more None = refl
  nothing-more (Some v) = refl

  bare-false : (seen : Sight) (rule : TriggerRule) → is_template rule ≡ false → is_true seen rule ≡ false
  bare-false seen (TriggerRule.State entities attribute from to) b = refl
  bare-false seen (TriggerRule.Numeric entities attribute above below) b = refl
  bare-false seen (TriggerRule.Event kinds pairs) b = refl
  bare-false seen (TriggerRule.Time seconds) b = refl
  bare-false seen (TriggerRule.Pattern hours minutes seconds) b = refl
  bare-false seen (TriggerRule.Template u) b = cc
  bare-false seen TriggerRule.Start b = refl

  -- LAW: what is left of a spot once what fires was taken out keeps what is pending, and what was taken out is what fires
  pub fired-keeps : (s : Spot) → holds_well t → Fired j x t since s → Keeps (more j x) t since (record s { fired = None })
  fired-keeps s well f = record { hold = f.hold ∙ sym (standing-any j x t s.entity since well.0); was = (λ lt. f.was); bare = (λ b. f.was ∙ bare-false (sight (more j x) (length (more j x))) t.rule b); fired = refl }

  pub fired-is : (s : Spot) → holds_well t → Fired j x t since s → s.fired ≡ option_map (variables (more j x) t s.entity) (fired_from (more j x) t s.entity since (length j))
  fired-is s well f = f.fired ∙ sym (fired-any j x t s.entity since well.0)

  -- LAW: at a moment the holds that are over fire
  pub moved-fires : (to : ℕ) (s : Spot) → is_moment x ≡ true → to ≡ now (more j x) → Moved j x t since s → Fired j x t since (ripened to s)
  moved-fires to s moment is m = by s.hold refl
    where
      none-at-once : (h : Holding) → Some h ≡ arrived j x t s.entity since → at_once j x t s.entity since ≡ None
      none-at-once h q = of t.hold refl
        where
          of : (o : Option ℕ) → t.hold ≡ o → at_once j x t s.entity since ≡ None
          of None hold = absurd (let bad : ◌≡◌ {A = Option Holding} (Some h) None = q ∙ (λ i. option_and_then (λ d. or_else (if stays_watched j x t s.entity since then standing j t s.entity since else None) (if moves_here j x t s.entity since then Some (holding_of (more j x) t s.entity d (length j)) else None)) (hold i)) in cc)
          of (Some d) hold = (λ i. if is_some (hold i) then None else moves_with j x t s.entity since)

      by : (o : Option Held) → s.hold ≡ o → Fired j x t since (ripened_by to s o)
      by None q =
          let none : None ≡ arrived j x t s.entity since = sym (ap (option_map holding) q) ∙ m.hold in
          record {
            hold = ap (option_map holding) q ∙ (λ i. unripe x (now (more j x)) (none i));
            was = m.was;
            fired = m.fired ∙ sym (nothing-more (at_once j x t s.entity since)) ∙ (λ i. or_else (at_once j x t s.entity since) (ripe_value x (now (more j x)) (none i)));
          }
      by (Some h) q = over (nat_le h.due to) refl
        where
          some : Some (holding h) ≡ arrived j x t s.entity since
          some = sym (ap (option_map holding) q) ∙ m.hold

          ripe-is : (b : Bool) → nat_le h.due to ≡ b → is_ripe x (now (more j x)) (holding h) ≡ b
          ripe-is b r = (λ i. moment i && nat_le h.due (sym is i)) ∙ r

          over : (b : Bool) → nat_le h.due to ≡ b → Fired j x t since (if b then record s { hold = None; fired = Some h.value } else s)
          over true r = record {
            hold = (λ i. if sym (ripe-is true r) i then None else Some (holding h)) ∙ (λ i. unripe x (now (more j x)) (some i));
            was = m.was;
            fired = (λ i. or_else (sym (none-at-once (holding h) some) i) (if sym (ripe-is true r) i then Some h.value else None)) ∙ (λ i. or_else (at_once j x t s.entity since) (ripe_value x (now (more j x)) (some i)));
          }
          over false r = record {
            hold = ap (option_map holding) q ∙ (λ i. if sym (ripe-is false r) i then None else Some (holding h)) ∙ (λ i. unripe x (now (more j x)) (some i));
            was = m.was;
            fired = m.fired ∙ sym (nothing-more (at_once j x t s.entity since)) ∙ (λ i. or_else (at_once j x t s.entity since) (if sym (ripe-is false r) i then Some h.value else None)) ∙ (λ i. or_else (at_once j x t s.entity since) (ripe_value x (now (more j x)) (some i)));
          }

  -- LAW: at other entries none fires
  pub moved-waits : (s : Spot) → is_moment x ≡ false → Moved j x t since s → Fired j x t since s
  moved-waits s moment m =
      record {
        hold = m.hold ∙ unripe-all (arrived j x t s.entity since);
        was = m.was;
        fired = m.fired ∙ sym (nothing-more (at_once j x t s.entity since)) ∙ (λ i. or_else (at_once j x t s.entity since) (ripe-none (arrived j x t s.entity since) i));
      }
    where
      unripe-all : (o : Option Holding) → o ≡ unripe x (now (more j x)) o
      unripe-all None = refl
      unripe-all (Some h) = (λ i. if sym moment i && nat_le h.due (now (more j x)) then None else Some h)

      ripe-none : (o : Option Holding) → None ≡ ripe_value x (now (more j x)) o
      ripe-none None = refl
      ripe-none (Some h) = (λ i. if sym moment i && nat_le h.due (now (more j x)) then Some h.value else None)
