-- What is seen, moves and is watched at the places of a journal stays as it is with one more entry.
use Rattle.std.proofs.Common.{◌≡◌, ℕ, suc, ◌+◌, ◌<◌, ◌≤◌, [], ◌∷◌, length, Bool, false, refl, ◌∙◌, arith}
use Rattle.std.specs.Prelude.{Option, is_some, is_none, slice_get, option_map, nat_le, ◌&&◌, if◌then◌else◌}
use Rattle.std.specs.Option.{option_map_or}
use Rattle.ha_value.specs.declared.value.EntityId.{EntityId}
use Rattle.ha_config.specs.declared.config.Trigger.{Trigger}
use Rattle.ha_config.specs.declared.config.TriggerRule.{TriggerRule}
use Rattle.ha_journal.specs.declared.entry.Entry.{Entry}
use Rattle.ha_journal.specs.Entries.{is_boot, is_moment, opens_segment}
use Rattle.ha_journal.specs.Journal.{Journal, HasEntry, scripts_in, zone_of, now, more}
use Rattle.ha_journal.specs.Helpers.{known, event_for, events_at, events_of}
use Rattle.ha_journal.specs.States.{states, switches_seen}
use Rattle.ha_journal.specs.Moves.{sight, moves, rule_moves, looks}
use Rattle.ha_sight.specs.Rules.{starts, given}
use Rattle.ha_journal.specs.Holds.{same_watched, watches}
use Rattle.ha_journal.specs.Variables.{variables}
use Rattle.ha_journal.proofs.SinceLaws.{take-before, take-more}
use Rattle.ha_config.proofs.ListLemmas.{get-last, get-more}
use Rattle.ha_journal.proofs.MoreLemmas.{length-more}
use Rattle.ha_past.specs.Holds.{is_over}

pub zone-more : (j : Journal) (x : Entry) → HasEntry j → zone_of (more j x) ≡ zone_of j
zone-more [] x h = absurd h
zone-more (e ∷ es) x h = refl

pub has-place : (j : Journal) (n : ℕ) → n < length j → HasEntry j
has-place [] n lt = absurd (omega (arith, lt))
has-place (e ∷ es) n lt = tt

-- what the entries before a place show is the same
pub sight-more : (j : Journal) (x : Entry) → HasEntry j → (n : ℕ) → n ≤ length j → sight (more j x) n ≡ sight j n
sight-more j x h n le = let t = take-more j x n le in let z = zone-more j x h in λ i. record { states = states (t i); now = now (t i); zone = z i; automations = switches_seen (t i); scripts = scripts_in (t i); helpers = known (t i) }

-- the last sight of the journal, and the new one
pub sight-whole : (j : Journal) (x : Entry) → sight (more j x) (suc (length j)) ≡ sight (more j x) (length (more j x))
sight-whole j x = (let e : suc (length j) ≡ length (more j x) = omega (arith, length-more j x) in λ i. sight (more j x) (e i))

module _ (j : Journal) (x : Entry) (h : HasEntry j) where
  rule-more : (rule : TriggerRule) (held : Bool) (e : Option EntityId) (n : ℕ) (y : Entry) → n < length j → rule_moves (more j x) rule held e n y ≡ rule_moves j rule held e n y
  rule-more rule held e n y lt =
      (let b = sight-more j x h n (omega (arith, lt)) in let a = sight-more j x h (suc n) (omega (arith, lt)) in let past = take-more j x n (omega (arith, lt)) in λ i. looks (b i) (a i) (past i) rule held e y)

  -- LAW: an earlier place at which a trigger moves is one at which it moves
  pub moves-more : (t : Trigger) (e : Option EntityId) (n : ℕ) → n < length j → moves (more j x) t e n ≡ moves j t e n
  moves-more t e n lt =
      (λ i. option_map_or (λ y. if opens_segment y then is_boot y && starts t.rule && is_none e else rule_moves (more j x) t.rule (is_some t.hold) e n y) (get-more j x n lt i) false)
      ∙ (λ i. option_map_or (λ y. if opens_segment y then is_boot y && starts t.rule && is_none e else rule-more t.rule (is_some t.hold) e n y lt i) (slice_get j n) false)

  pub watched-more : (rule : TriggerRule) (e : Option EntityId) (i p : ℕ) → i < length j → p < length j → same_watched (more j x) rule e i p ≡ same_watched j rule e i p
  watched-more rule e i p one two =
      (let a = sight-more j x h (suc i) (omega (arith, one)) in
      let b = sight-more j x h (suc p) (omega (arith, two)) in
      let first = take-more j x (suc i) (omega (arith, one)) in
      let second = take-more j x (suc p) (omega (arith, two)) in
      λ k. watches (a k) (b k) (first k) (second k) rule e)

  pub over-more : (t : Trigger) (e : Option EntityId) (since d i q : ℕ) → i < length j → q < length j → is_over (more j x) t e since d i q ≡ is_over j t e since d i q
  over-more t e since d i q one two =
      (λ k. option_map_or is_moment (get-more j x q two k) false && nat_le ((sight-more j x h (suc i) (omega (arith, one)) k).now + d) (sight-more j x h (suc q) (omega (arith, two)) k).now)

-- ---- events

-- LAW: the events of an earlier place stay
pub events-more : (j : Journal) (x : Entry) (i : ℕ) → i < length j → events_at (more j x) i ≡ events_at j i
events-more j x i lt = (let past = take-more j x i (omega (arith, lt)) in let y = get-more j x i lt in λ k. option_map_or (events_of (past k)) (y k) [])

-- LAW: those of the last one are those that it gives behind the journal
pub events-last : (j : Journal) (x : Entry) → events_at (more j x) (length j) ≡ events_of j x
events-last j x = (let past = take-before j x in let y = get-last j x in λ i. option_map_or (events_of (past i)) (y i) [])

-- ---- variables

pub variables-more : (j : Journal) (x : Entry) → HasEntry j → (t : Trigger) (e : Option EntityId) (i : ℕ) → i < length j → variables (more j x) t e i ≡ variables j t e i
variables-more j x h t e i lt =
    (let b = sight-more j x h i (omega (arith, lt)) in let a = sight-more j x h (suc i) (omega (arith, lt)) in let y = events-more j x i lt in λ k. given (b k) (a k) (option_map (λ v. (v.kind, v.pairs)) (event_for e (y k))) t e)
