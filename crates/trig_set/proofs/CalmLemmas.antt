-- What an entry doesn't concern keeps what it keeps, and fires nothing.
use Rattle.std.proofs.Common.{◌≡◌, ℕ, zero, suc, ◌<◌, List, [], ◌∷◌, ◌++◌, length, map, Bool, true, false, refl, sym, ap, subst, ◌∙◌}
use Rattle.std.specs.Prelude.{Option, Some, None, MatchOption, flat_map, is_some, nat_lt, option_map, slice_get, not, ◌&&◌, if◌then◌else◌}
use Rattle.std.specs.List.{cons_option, list_all}
use Rattle.std.specs.Option.{option_map_or}
use Rattle.timer_queue.specs.Timers.{Timer, due_of}
use Rattle.ha_value.specs.declared.value.EntityId.{EntityId}
use Rattle.ha_value.specs.declared.value.Num.{Num}
use Rattle.ha_value.specs.declared.value.Value.{Value}
use Rattle.ha_config.specs.declared.config.Trigger.{Trigger}
use Rattle.ha_config.specs.declared.config.TriggerRule.{TriggerRule}
use Rattle.ha_config.specs.declared.template.Template.{Template}
use Rattle.ha_journal.specs.declared.entry.Entry.{Entry}
use Rattle.ha_journal.specs.Entries.{event_in, is_moment, opens_segment}
use Rattle.ha_config.specs.Equal.{same_flag}
use Rattle.ha_journal.specs.declared.event.BusEvent.{BusEvent}
use Rattle.ha_journal.specs.Helpers.{helper_events}
use Rattle.ha_journal.specs.Journal.{Journal, HasEntry, now, more}
use Rattle.ha_config.specs.Numbers.{in_bounds}
use Rattle.ha_config.specs.Sound.{may_hold}
use Rattle.ha_sight.specs.Sight.{Sight}
use Rattle.ha_journal.specs.States.{states}
use Rattle.ha_journal.specs.Moves.{latest_number, sight, looks}
use Rattle.ha_sight.specs.Rules.{pair_holds, passed, given, is_template}
use Rattle.ha_sight.specs.Templates.{rendered, says}
use Rattle.ha_config.specs.Words.{Text, Pairs, one_of, same_entity}
use Rattle.ha_config.proofs.EqualLemmas.{same-refl}
use Rattle.ha_journal.proofs.EventLaws.{nobodys-named}
use Rattle.ha_journal.proofs.HeldLaws.{latest-more}
use Rattle.ha_journal.proofs.MoreLemmas.{length-more}
use Rattle.ha_past.specs.Firings.{Owner, firings_of}
use Rattle.ha_past.specs.Looks.{moves_with, or_else}
use Rattle.ha_journal.specs.Holds.{watches}
use Rattle.tpl_reads.specs.Reads.{entities_read}
use Rattle.tpl_reads.proofs.TemplateLemmas.{rendered-same}
use Rattle.event_bus.specs.Subjects.{Subject, by_read, concerns}
use Rattle.trig_set.specs.declared.spot.Spot.{Spot}
use Rattle.trig_set.specs.Kept.{All, AreTimed, AreWell, Keeps, KeepsAt, Moved, MovedAt, Settles, SpotsStand, cleared, firing_in, holding, holds_well, is_true, ripened, ripened_if}
use Rattle.trig_set.specs.Next.{reports}
use Rattle.trig_set.specs.Timed.{event_seen, firings_in, timed_in, timed_of}
use Rattle.trig_set.proofs.KeptLemmas.{step-moved}
use Rattle.trig_set.proofs.MovedLemmas.{moves-by, moves-not, own-skipped, seen_now, seen_then, unlisted-moves, unlisted-number, unlisted-stays, unreported}
use Rattle.trig_set.proofs.NoteLemmas.{spots-give, spots-stand}
use Rattle.trig_set.proofs.RipeLemmas.{none-ripens}
use Rattle.trig_set.proofs.TimedLemmas.{AreUnnamed, others-off, timed-off}

pub never : (b : Bool) → b ≡ true → b ≡ false → ⊥
never b h k = (let bad : ◌≡◌ {A = Bool} true false = sym h ∙ k in cc)

entity-refl : (e : EntityId) → same_entity e e ≡ true
entity-refl e = (λ i. same-refl e.domain i && same-refl e.object i)

flag-refl : (b : Bool) → same_flag b b ≡ true
flag-refl true = refl
flag-refl false = refl

-- what the entry leaves of a spot as it is: the states of its entity, with no report of it, and of those that its template reads; its events are of
-- other types, those of helpers too; it asks no template whose entities are not known; and where it is a moment, the trigger is not one on times.
-- An entry behind the place at which it was attached was noted before
pub record IsCalm (j : Journal) (x : Entry) (since : ℕ) (rule : TriggerRule) (e : Option EntityId) : Type 0 where
  pub apart : (f : EntityId) → concerns rule e (Subject.Entity f) ≡ true → nat_lt since (length j) ≡ true → (states (more j x) f ≡ states j f) × (reports f x ≡ false)
  pub unnamed : MatchOption (option_map (λ v. v.0) (event_in x)) (Unit {0}) (λ q. concerns rule e (Subject.Event q) ≡ false)
  pub others : AreUnnamed rule e (helper_events j x)
  pub plain : concerns rule e Subject.Entries ≡ false
  pub late : nat_lt since (length j) ≡ true
  pub untimed : is_moment x ≡ true → concerns rule e Subject.Moments ≡ false

module _ (j : Journal) (x : Entry) (t : Trigger) (since : ℕ) (h : HasEntry j) (opens : opens_segment x ≡ false) where
  abbrev before : Sight
  before = sight j (length j)

  abbrev behind : Sight
  behind = sight (more j x) (suc (length j))

  abbrev target : Option EntityId → Option Value
  target e = if looks before behind j t.rule (is_some t.hold) e x then Some (given before behind (event_seen j x e) t e) else None

  off : (rule : TriggerRule) (e : Option EntityId) → t.rule ≡ rule → looks before behind j rule (is_some t.hold) e x ≡ false → None ≡ target e
  off rule e is f =
      (λ i. if sym f i then Some (given before behind (event_seen j x e) t e) else None)
      ∙ (λ i. if looks before behind j (sym is i) (is_some t.hold) e x then Some (given before behind (event_seen j x e) t e) else None)

  event-off : (kinds : List Text) (pairs : Pairs) (o : Option (Text × Pairs)) → MatchOption (option_map (λ v. v.0) o) (Unit {0}) (λ q. one_of q kinds ≡ false)
      → option_map_or (λ v. one_of v.0 kinds && list_all (pair_holds v.1) pairs) o false ≡ false
  event-off kinds pairs None u = refl
  event-off kinds pairs (Some v) u = (λ i. u i && list_all (pair_holds v.1) pairs)

  -- a moment moves triggers on times alone
  unpassed : (passes : Bool) → (is_moment x ≡ true → true ≡ false) → (is_moment x && passes) ≡ false
  unpassed passes never-now = by (is_moment x) refl
    where
      by : (b : Bool) → is_moment x ≡ b → (b && passes) ≡ false
      by true is = absurd (let bad : ◌≡◌ {A = Bool} true false = never-now is in cc)
      by false is = refl

  -- the sights before and behind the entry agree on an entity whose state it does not change
  seen-same : (f : EntityId) → states (more j x) f ≡ states j f → behind.states f ≡ before.states f
  seen-same f same = (λ i. seen_then j x i f) ∙ same ∙ sym (λ i. seen_now j x i f)

  -- a template is as true as before: the states that it reads are the same
  same-truth : (u : Template) → IsCalm j x since (TriggerRule.Template u) None → says (rendered behind u []) ≡ says (rendered before u [])
  same-truth u calm = by (entities_read u) refl
    where
      by : (o : Option (List EntityId)) → entities_read u ≡ o → says (rendered behind u []) ≡ says (rendered before u [])
      by None is = absurd (never true refl (sym (ap (λ w. by_read w Subject.Entries) is) ∙ calm.plain))
      by (Some es) is =
          ap says (rendered-same behind before u es is
          (λ f among. seen-same f (calm.apart f (ap (λ w. by_read w (Subject.Entity f)) is ∙ among) calm.late).0) [])

  and-not : (b : Bool) → (b && not b) ≡ false
  and-not true = refl
  and-not false = refl

  -- it does not move
  idle : (rule : TriggerRule) (e : Option EntityId) → t.rule ≡ rule → IsCalm j x since rule e → nat_lt since (length j) ≡ true → None ≡ target e
  idle (TriggerRule.State entities attribute from to) (Some y) is calm lt = unlisted-moves j x t y entities attribute from to is (calm.apart y (entity-refl y) lt).0
  idle (TriggerRule.State entities attribute from to) None is calm lt = absurd (never true refl calm.plain)
  idle (TriggerRule.Numeric entities attribute above below) (Some y) is calm lt = unlisted-number j x t y entities attribute above below is (calm.apart y (entity-refl y) lt).1
  idle (TriggerRule.Numeric entities attribute above below) None is calm lt = absurd (never true refl calm.plain)
  idle (TriggerRule.Event kinds pairs) (Some y) is calm lt =
      off (TriggerRule.Event kinds pairs) (Some y) is
      ((λ i. option_map_or (λ v. one_of v.kind kinds && list_all (pair_holds v.pairs) pairs) (own-skipped j x y i) false) ∙ others-off kinds pairs (Some y) (helper_events j x) calm.others)
  idle (TriggerRule.Event kinds pairs) None is calm lt = off (TriggerRule.Event kinds pairs) None is (nobodys-named j x kinds pairs ∙ event-off kinds pairs (event_in x) calm.unnamed)
  idle (TriggerRule.Time seconds) (Some y) is calm lt = off (TriggerRule.Time seconds) (Some y) is refl
  idle (TriggerRule.Time seconds) None is calm lt = off (TriggerRule.Time seconds) None is (unpassed (passed (TriggerRule.Time seconds) before.zone before.now behind.now) calm.untimed)
  idle (TriggerRule.Pattern hours minutes seconds) (Some y) is calm lt = off (TriggerRule.Pattern hours minutes seconds) (Some y) is refl
  idle (TriggerRule.Pattern hours minutes seconds) None is calm lt =
      off (TriggerRule.Pattern hours minutes seconds) None is (unpassed (passed (TriggerRule.Pattern hours minutes seconds) before.zone before.now behind.now) calm.untimed)
  idle (TriggerRule.Template u) (Some y) is calm lt = absurd (never true refl calm.plain)
  idle (TriggerRule.Template u) None is calm lt =
      off (TriggerRule.Template u) None is ((λ i. same-truth u calm i && not (says (rendered before u []))) ∙ and-not (says (rendered before u [])))
  idle TriggerRule.Start (Some y) is calm lt = off TriggerRule.Start (Some y) is refl
  idle TriggerRule.Start None is calm lt = off TriggerRule.Start None is refl

  same-number : (y : EntityId) (name : Option Text) → reports y x ≡ false → latest_number y name (more j x) ≡ latest_number y name j
  same-number y name r = latest-more j x y name ∙ (λ i. if opens i then None else or_else (unreported y name x r i) (latest_number y name j))

  within-same : (above below : Option Num) (a b : Option Num) → b ≡ a → true ≡ same_flag (option_map_or (in_bounds above below) a false) (option_map_or (in_bounds above below) b false)
  within-same above below a b e =
      sym (flag-refl (option_map_or (in_bounds above below) a false)) ∙ (λ i. same_flag (option_map_or (in_bounds above below) a false) (option_map_or (in_bounds above below) (sym e i) false))

  -- what it watches stays
  steady : (rule : TriggerRule) (e : Option EntityId) → IsCalm j x since rule e → nat_lt since (length j) ≡ true → may_hold rule ≡ true → true ≡ watches before behind j (more j x) rule e
  steady (TriggerRule.State entities attribute from to) (Some y) calm lt may = unlisted-stays j x (TriggerRule.State entities attribute from to) y refl (calm.apart y (entity-refl y) lt).0
  steady (TriggerRule.State entities attribute from to) None calm lt may = absurd (never true refl calm.plain)
  steady (TriggerRule.Numeric entities attribute above below) (Some y) calm lt may =
      within-same above below (latest_number y attribute j) (latest_number y attribute (more j x)) (same-number y attribute (calm.apart y (entity-refl y) lt).1)
  steady (TriggerRule.Numeric entities attribute above below) None calm lt may = absurd (never true refl calm.plain)
  steady (TriggerRule.Event kinds pairs) e calm lt may = absurd (never false may refl)
  steady (TriggerRule.Time seconds) e calm lt may = absurd (never false may refl)
  steady (TriggerRule.Pattern hours minutes seconds) e calm lt may = absurd (never false may refl)
  steady (TriggerRule.Template u) None calm lt may =
      sym (flag-refl (says (rendered before u []))) ∙ (λ i. same_flag (says (rendered before u [])) (sym (same-truth u calm) i))
  steady (TriggerRule.Template u) (Some y) calm lt may = absurd (never true refl calm.plain)
  steady TriggerRule.Start e calm lt may = absurd (never false may refl)

  bare-true : (rule : TriggerRule) (e : Option EntityId) (was : Bool) → IsCalm j x since rule e → (is_template rule ≡ false → was ≡ false)
      → (nat_lt since (length j) ≡ true → was ≡ is_true before rule) → was ≡ is_true (sight (more j x) (length (more j x))) rule
  bare-true (TriggerRule.State entities attribute from to) e was calm bare kept = bare refl
  bare-true (TriggerRule.Numeric entities attribute above below) e was calm bare kept = bare refl
  bare-true (TriggerRule.Event kinds pairs) e was calm bare kept = bare refl
  bare-true (TriggerRule.Time seconds) e was calm bare kept = bare refl
  bare-true (TriggerRule.Pattern hours minutes seconds) e was calm bare kept = bare refl
  bare-true (TriggerRule.Template u) (Some y) was calm bare kept = absurd (never true refl calm.plain)
  bare-true (TriggerRule.Template u) None was calm bare kept = kept calm.late ∙ sym (same-truth u calm) ∙ ap (λ n. says (rendered (sight (more j x) n) u [])) (sym (length-more j x))
  bare-true TriggerRule.Start e was calm bare kept = bare refl

  module _ (s : Spot) (well : holds_well t) (keeps : Keeps j t since s) (calm : IsCalm j x since t.rule s.entity) where
    kept-hold : {X : Type 0} (o : Option X) → o ≡ or_else o None
    kept-hold None = refl
    kept-hold (Some v) = refl

    settles : (o : Option ℕ) → Settles o (now (more j x)) true None s s
    settles None = (λ i. record s { fired = keeps.fired i })
    settles (Some d) = (kept-hold (option_map holding s.hold), refl)

    no-move : None ≡ moves_with j x t s.entity since
    no-move = by (nat_lt since (length j)) refl
      where
        by : (b : Bool) → nat_lt since (length j) ≡ b → None ≡ moves_with j x t s.entity since
        by true lt = idle t.rule s.entity refl calm lt ∙ sym (moves-by j x t s.entity since opens lt)
        by false lt = sym (moves-not j x t s.entity since h opens lt)

    -- LAW: the entry moves the spot to itself
    pub calm-moved : Moved j x t since s
    calm-moved =
        step-moved j x t since (now (more j x)) s.was true None s s (settles t.hold) well (bare-true t.rule s.entity s.was calm keeps.bare keeps.was) keeps
        (λ lt may. steady t.rule s.entity calm lt may) no-move refl

-- ---- all spots of an owner

pub none-fired : (j : Journal) (triggers : List Trigger) (since : ℕ) (s : Spot) → KeepsAt j triggers since s → s.fired ≡ None
none-fired j triggers since s = by (slice_get triggers s.trigger)
  where
    by : (o : Option Trigger) → MatchOption o ((s.hold ≡ None) × (s.fired ≡ None)) (λ t. Keeps j t since s) → s.fired ≡ None
    by None k = k.1
    by (Some t) k = k.fired

cleared-same : (spots : List Spot) → All spots (λ s. s.fired ≡ None) → spots ≡ map cleared spots
cleared-same [] f = refl
cleared-same (s ∷ ss) f = (λ i. record s { fired = f 0 i } ∷ cleared-same ss (λ n. f (suc n)) i)

quiet : (o : Owner) (place : ℕ) (events : List BusEvent) (spots : List Spot) → All spots (λ s. s.fired ≡ None) → All spots (λ s. timed_in o place events s ≡ []) → flat_map (firings_in o place events) spots ≡ []
quiet o place events [] f u = refl
quiet o place events (s ∷ ss) f u = (λ i. cons_option (firing_in o.owner (record s { fired = f 0 i })) (u 0 i) ++ quiet o place events ss (λ n. f (suc n)) (λ n. u (suc n)) i)

all-then : (P Q : Spot → Type 0) (spots : List Spot) → ((s : Spot) → P s → Q s) → All spots P → All spots Q
all-then P Q [] step h n = h n
all-then P Q (s ∷ ss) step h zero = step s (h zero)
all-then P Q (s ∷ ss) step h (suc n) = all-then P Q ss step (λ m. h (suc m)) n

-- each spot is calm, with its trigger
abbrev pub CalmAt : Journal → Entry → List Trigger → ℕ → Spot → Type 0
CalmAt j x triggers since s = MatchOption (slice_get triggers s.trigger) (Unit {0}) (λ t. IsCalm j x since t.rule s.entity)

-- LAW: a calm spot fires with nothing for the events of helpers
pub calm-untimed : (j : Journal) (x : Entry) (triggers : List Trigger) (since owner place : ℕ) (s : Spot) → CalmAt j x triggers since s
    → timed_in (record { owner = owner; triggers = triggers; since = since }) place (helper_events j x) s ≡ []
calm-untimed j x triggers since owner place s = by (slice_get triggers s.trigger)
  where
    by : (u : Option Trigger) → MatchOption u (Unit {0}) (λ t. IsCalm j x since t.rule s.entity)
        → option_map_or (timed_of (record { owner = owner; triggers = triggers; since = since }) place (helper_events j x) s.trigger) u [] ≡ []
    by None c = refl
    by (Some t) c = timed-off (record { owner = owner; triggers = triggers; since = since }) place (helper_events j x) s.trigger t s.entity c.others

module _ (j : Journal) (x : Entry) (triggers : List Trigger) (since : ℕ) (h : HasEntry j) (opens : opens_segment x ≡ false) (well : AreWell triggers) (spots : List Spot) (timers : List Timer)
    (stand : SpotsStand j triggers since spots timers) (calm : All spots (CalmAt j x triggers since)) (later : is_moment x ≡ true → (n d : ℕ) → due_of n timers ≡ Some d → now (more j x) < d) where
  moved-at : (s : Spot) → KeepsAt j triggers since s → CalmAt j x triggers since s → MovedAt j x triggers since s
  moved-at s = by (slice_get triggers s.trigger) (well s.trigger)
    where
      by : (o : Option Trigger) → MatchOption o (Unit {0}) holds_well → MatchOption o ((s.hold ≡ None) × (s.fired ≡ None)) (λ t. Keeps j t since s) → MatchOption o (Unit {0}) (λ t. IsCalm j x since t.rule s.entity)
          → MatchOption o ((s.hold ≡ None) × (s.fired ≡ None)) (λ t. Moved j x t since s)
      by None w k c = k
      by (Some t) w k c = calm-moved j x t since h opens s w k c

  all-moved : All spots (MovedAt j x triggers since)
  all-moved n = by (slice_get spots n) (stand.kept n) (calm n)
    where
      by : (o : Option Spot) → MatchOption o (Unit {0}) (KeepsAt j triggers since) → MatchOption o (Unit {0}) (CalmAt j x triggers since) → MatchOption o (Unit {0}) (MovedAt j x triggers since)
      by None k c = tt
      by (Some s) k c = moved-at s k c

  all-quiet : All spots (λ s. s.fired ≡ None)
  all-quiet = all-then (KeepsAt j triggers since) (λ s. s.fired ≡ None) spots (none-fired j triggers since) stand.kept

  same-if : ripened_if x (now (more j x)) spots ≡ spots
  same-if = by (is_moment x) refl
    where
      by : (b : Bool) → is_moment x ≡ b → (if b then map (ripened (now (more j x))) spots else spots) ≡ spots
      by true is = none-ripens (now (more j x)) timers spots (later is) stand.timed
      by false is = refl

  -- LAW: they stand for the journal with the entry
  pub calm-stand : SpotsStand (more j x) triggers since spots timers
  calm-stand =
      spots-stand j x triggers since well (now (more j x)) spots spots timers refl all-moved stand.places (subst (λ l. AreTimed timers l) (sym same-if) stand.timed)
      (cleared-same spots all-quiet ∙ sym (ap (map cleared) same-if))

  all-untimed : (owner : ℕ) → All spots (λ s. timed_in (record { owner = owner; triggers = triggers; since = since }) (length j) (helper_events j x) s ≡ [])
  all-untimed owner n = by (slice_get spots n) (calm n)
    where
      by : (o : Option Spot) → MatchOption o (Unit {0}) (CalmAt j x triggers since)
          → MatchOption o (Unit {0}) (λ s. timed_in (record { owner = owner; triggers = triggers; since = since }) (length j) (helper_events j x) s ≡ [])
      by None c = tt
      by (Some s) c = calm-untimed j x triggers since owner (length j) s c

  -- LAW: and fire nothing
  pub calm-quiet : (owner : ℕ) → firings_of (more j x) (length j) (record { owner = owner; triggers = triggers; since = since }) ≡ []
  calm-quiet owner =
      let o : Owner = record { owner = owner; triggers = triggers; since = since } in
      sym (spots-give j x triggers since well owner (now (more j x)) spots [] (flat_map (firings_in o (length j) (helper_events j x)) (ripened_if x (now (more j x)) spots)) refl all-moved stand.places refl)
      ∙ ap (flat_map (firings_in o (length j) (helper_events j x))) same-if ∙ quiet o (length j) (helper_events j x) spots all-quiet (all-untimed owner)
