-- What fires at an opening is told by the triggers alone.
use Rattle.std.proofs.Common.{◌≡◌, ℕ, ◌+◌, List, [], ◌∷◌, ◌++◌, Bool, true, false, refl, sym, ◌∙◌, rules, Option}
use Rattle.std.specs.Prelude.{Some, None, ◌&&◌, ◌||◌, filter_map, flat_map, map, option_map, is_none, nat_lt, if◌then◌else◌}
use Rattle.std.specs.List.{enumerate_from}
use Rattle.ha_value.specs.declared.value.EntityId.{EntityId}
use Rattle.ha_config.specs.declared.config.Trigger.{Trigger}
use Rattle.ha_config.specs.declared.config.TriggerRule.{TriggerRule}
use Rattle.ha_journal.specs.declared.entry.Entry.{Entry}
use Rattle.ha_journal.specs.declared.entry.Entry.TheVariants.{Boot, Line, Step, Again}
use Rattle.ha_journal.specs.declared.event.BusEvent.{BusEvent}
use Rattle.ha_journal.specs.Helpers.{events_at}
use Rattle.ha_journal.specs.Journal.{Journal}
use Rattle.ha_journal.specs.Entries.{IsBoot}
use Rattle.ha_journal.specs.Triggers.{Fired, entities_at, firing_for, firings, firings_by}
use Rattle.ha_sight.specs.Rules.{entities_of, is_event, starts}
use Rattle.ha_journal.specs.Holds.{fires}
use Rattle.ha_journal.specs.Variables.{variables}

-- whether a trigger fires at an opening
abbrev opens_for : Trigger → Option ℕ → Option EntityId → Bool
opens_for t None e = (true && ((true && starts t.rule) && is_none e)) && (false || starts t.rule)
opens_for t (Some d) e = false

boot-fires : (b : Entry) → IsBoot b → (t : Trigger) (h : Option ℕ) (e : Option EntityId) (s : ℕ) → fires (b ∷ []) (record t { hold = h }) e s 0 0 ≡ opens_for t h e
boot-fires (Boot text config stored start zone carry) h t None e s = (let no_lt : nat_lt s 0 ≡ false = search rules in λ i. (true && ((true && starts t.rule) && is_none e)) && (no_lt i || starts t.rule))
boot-fires (Boot text config stored start zone carry) h t (Some d) e s = none (nat_lt s 0) _ _ _ _ _ (search rules)
  where
    none : (a b c d f g : Bool) → a ≡ false → (((((a && b) && c) && d) && f) && g) ≡ false
    none a b c d f g e = (λ i. ((((e i && b) && c) && d) && f) && g)
boot-fires (Line source number cmd) h t o e s = absurd h
boot-fires (Step worker serial branch item) h t o e s = absurd h
boot-fires (Again number start stored carry) h t o e s = absurd h

boot-events : (b : Entry) → IsBoot b → events_at (b ∷ []) 0 ≡ []
boot-events (Boot text config stored start zone carry) h = refl
boot-events (Line source number cmd) h = absurd h
boot-events (Step worker serial branch item) h = absurd h
boot-events (Again number start stored carry) h = absurd h

abbrev given : Journal → ℕ → Trigger → Option EntityId → Option ℕ → Option Fired
given j n t e o = option_map {T = ℕ} {U = Fired} (λ i. record { trigger = n; entity = e; variables = variables j t e i }) o

abbrev at_front : Bool → Option ℕ
at_front y = if y then Some 0 else None

module _ (b b' : Entry) (h : IsBoot b) (h' : IsBoot b') where
  -- of a rule that does not start, nothing fires; of one that does, the variables name the trigger alone
  alike : (n : ℕ) (t : Trigger) (rule : TriggerRule) (hold : Option ℕ) (e : Option EntityId)
      → given (b ∷ []) n (record t { rule = rule; hold = hold }) e (at_front (opens_for (record t { rule = rule; hold = hold }) hold e))
      ≡ given (b' ∷ []) n (record t { rule = rule; hold = hold }) e (at_front (opens_for (record t { rule = rule; hold = hold }) hold e))
  alike n t rule (Some d) e = refl
  alike n t (TriggerRule.State entities attribute from to) None e = refl
  alike n t (TriggerRule.Numeric entities attribute above below) None e = refl
  alike n t (TriggerRule.Event kinds pairs) None e = refl
  alike n t (TriggerRule.Time seconds) None e = refl
  alike n t (TriggerRule.Pattern hours minutes seconds) None e = refl
  alike n t (TriggerRule.Template x) None e = refl
  alike n t TriggerRule.Start None e = refl

  first-firing : (n : ℕ) (t : Trigger) (s : ℕ) (e : Option EntityId) → firing_for (b ∷ []) s 0 (n, t) e ≡ firing_for (b' ∷ []) s 0 (n, t) e
  first-firing n t s e =
      (λ i. given (b ∷ []) n t e (at_front (boot-fires b h t t.hold e s i)))
      ∙ alike n t t.rule t.hold e
      ∙ (λ i. given (b' ∷ []) n t e (at_front (sym (boot-fires b' h' t t.hold e s) i)))

  first-by : (n : ℕ) (t : Trigger) (s : ℕ) (es : List (Option EntityId)) → filter_map (firing_for (b ∷ []) s 0 (n, t)) es ≡ filter_map (firing_for (b' ∷ []) s 0 (n, t)) es
  first-by n t s [] = refl
  first-by n t s (e ∷ es) = (λ i. cons (first-firing n t s e i) (first-by n t s es i))
    where
      cons : Option Fired → List Fired → List Fired
      cons (Some x) xs = x ∷ xs
      cons None xs = xs

  -- nobody gives an event at an opening
  for-alike : (rule : TriggerRule) → entities_at (b ∷ []) 0 rule ≡ entities_at (b' ∷ []) 0 rule
  for-alike rule = (let none = boot-events b h ∙ sym (boot-events b' h') in λ i. if is_event rule then map (λ (v : BusEvent). v.entity) (none i) else entities_of rule)

  first-all : (n : ℕ) (ts : List Trigger) (s : ℕ) → flat_map (firings_by (b ∷ []) s 0) (enumerate_from n ts) ≡ flat_map (firings_by (b' ∷ []) s 0) (enumerate_from n ts)
  first-all n [] s = refl
  first-all n (t ∷ ts) s =
      (λ i. first-by n t s (entities_at (b ∷ []) 0 t.rule) i ++ first-all (n + 1) ts s i)
      ∙ (λ i. filter_map (firing_for (b' ∷ []) s 0 (n, t)) (for-alike t.rule i) ++ flat_map (firings_by (b' ∷ []) s 0) (enumerate_from (n + 1) ts))

  -- LAW: at an opening the same fires, with the same variables, whatever the Boot says else
  pub openings-alike : (ts : List Trigger) (s : ℕ) → firings (b ∷ []) ts s 0 ≡ firings (b' ∷ []) ts s 0
  openings-alike ts s = first-all 0 ts s
