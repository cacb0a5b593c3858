-- A Reload of what is in force moves no trigger: none fires, nothing is attempted, and what is pending stays so.
use Rattle.std.proofs.Common.{◌≡◌, ℕ, zero, suc, ◌+◌, ◌-◌, ◌<◌, List, [], ◌∷◌, ◌++◌, length, take, map, Bool, true, false, refl, sym, ◌∙◌, arith}
use Rattle.std.specs.Prelude.{Option, Some, None, is_some, is_none, find, not, nat_eq, nat_lt, nat_le, option_and_then, slice_get, ◌&&◌, ◌||◌, if◌then◌else◌}
use Rattle.std.specs.List.{list_all, list_any}
use Rattle.std.specs.Option.{option_map_or}
use Rattle.ha_value.specs.declared.value.EntityId.{EntityId}
use Rattle.ha_config.specs.declared.config.Automation.{Automation}
use Rattle.ha_config.specs.declared.config.Trigger.{Trigger}
use Rattle.ha_config.specs.declared.config.TriggerRule.{TriggerRule}
use Rattle.ha_config.specs.Equal.{same_flag}
use Rattle.ha_config.specs.Numbers.{in_bounds}
use Rattle.ha_config.specs.Words.{Text, numbers_from, one_of, or_else, up_to}
use Rattle.ha_config.proofs.ListLemmas.{get-last}
use Rattle.ha_sight.specs.Rules.{pair_holds, passed, starts}
use Rattle.ha_sight.specs.Sight.{Sight}
use Rattle.ha_sight.specs.Templates.{rendered, says}
use Rattle.ha_journal.specs.declared.entry.Entry.{Entry}
use Rattle.ha_journal.specs.declared.event.BusEvent.{BusEvent}
use Rattle.ha_journal.specs.Attempts.{attempts, passing}
use Rattle.ha_journal.specs.Entries.{is_boot, is_moment}
use Rattle.ha_journal.specs.Helpers.{event_for}
use Rattle.ha_journal.specs.Holds.{between, fired_from, fires, same_watched, watches}
use Rattle.ha_journal.specs.Journal.{HasEntry, Journal, automations, more}
use Rattle.ha_journal.specs.Moves.{after, latest_number, looks, moves, sight}
use Rattle.ha_journal.proofs.EventLaws.{events-none, number-none}
use Rattle.ha_journal.proofs.FiringLaws.{EachOf, EachTrigger, FiresNot, attempts-none, passing-none, state-stays}
use Rattle.ha_journal.proofs.HeldLaws.{latest-more}
use Rattle.ha_journal.proofs.MoreLemmas.{length-more, through-last}
use Rattle.ha_journal.proofs.SinceLaws.{take-before}
use Rattle.ha_model.proofs.LastEntry.{or-none}
use Rattle.ha_past.specs.Holds.{holds_to, is_over, pending}
use Rattle.ha_past.proofs.EntryLaws.{moves-at}
use Rattle.ha_past.proofs.HoldLaws.{at-between}
use Rattle.ha_past.proofs.ListLemmas.{all-append, any-append, find-alike, find-none, find-snoc, map-snoc, up_to-snoc}
use Rattle.ha_past.proofs.PastLemmas.{moves-more, over-more, sight-more, watched-more}
use Rattle.reload_laws.proofs.ReloadLine.{IsOnly}

not-itself : (b : Bool) → (b && not b) ≡ false
not-itself true = refl
not-itself false = refl

or-false : (b : Bool) → (b || false) ≡ b
or-false true = refl
or-false false = refl

-- a test that follows from another adds nothing to it
and-same : (b c : Bool) → (b ≡ true → c ≡ true) → (b && c) ≡ b
and-same true c h = h refl
and-same false c h = refl

all-alike : (f g : ℕ → Bool) (i low n : ℕ) → ((q : ℕ) → q < i + low + n → f q ≡ g q) → list_all f (map (λ m. i + m) (numbers_from low n)) ≡ list_all g (map (λ m. i + m) (numbers_from low n))
all-alike f g i low zero h = refl
all-alike f g i low (suc n) h = (λ k. h (i + low) (omega arith) k && all-alike f g i (low + 1) n (λ q lt. h q (omega (arith, lt))) k)

any-alike : (f g : ℕ → Bool) (i low n : ℕ) → ((q : ℕ) → q < i + low + n → f q ≡ g q) → list_any f (map (λ m. i + m) (numbers_from low n)) ≡ list_any g (map (λ m. i + m) (numbers_from low n))
any-alike f g i low zero h = refl
any-alike f g i low (suc n) h = (λ k. h (i + low) (omega arith) k || any-alike f g i (low + 1) n (λ q lt. h q (omega (arith, lt))) k)

-- the places up to p, and those before it
between-last : (j : Journal) (i p : ℕ) → i < p → between j i p ≡ between j i (p - 1) ++ (p ∷ [])
between-last j i p lt =
    let one : suc p - i ≡ suc (suc (p - 1) - i) = omega (arith, lt) in
    let last : i + (suc (p - 1) - i) ≡ p = omega (arith, lt) in
    (λ k. map (λ m. i + m) (up_to (one k)))
    ∙ (λ k. map (λ m. i + m) (up_to-snoc (suc (p - 1) - i) k))
    ∙ map-snoc (λ m. i + m) (up_to (suc (p - 1) - i)) (suc (p - 1) - i)
    ∙ (λ k. map (λ m. i + m) (up_to (suc (p - 1) - i)) ++ (last k ∷ []))

-- where nothing that is seen changes, no rule holds
looks-still : (a : Sight) (past : Journal) (x : Entry) → IsOnly x → (rule : TriggerRule) (held : Bool) (e : Option EntityId) → looks a a past rule held e x ≡ false
looks-still a past x s (TriggerRule.State entities attribute from to) held (Some e) = state-stays attribute from to held (a.states e)
looks-still a past x s (TriggerRule.State entities attribute from to) held None = refl
looks-still a past x s (TriggerRule.Numeric entities attribute above below) held (Some e) =
    (λ i. option_map_or (in_bounds above below) (number-none e attribute x s.report s.helps i) false && not (option_map_or (in_bounds above below) (latest_number e attribute past) false))
looks-still a past x s (TriggerRule.Numeric entities attribute above below) held None = refl
looks-still a past x s (TriggerRule.Event kinds pairs) held e =
    (λ i. option_map_or (λ v. one_of v.kind kinds && list_all (pair_holds v.pairs) pairs) (event_for e (events-none past x s.event s.helps s.moment i)) false) ∙ nobody e
  where
    nobody : (e : Option EntityId) → option_map_or (λ (v : BusEvent). one_of v.kind kinds && list_all (pair_holds v.pairs) pairs) (event_for e []) false ≡ false
    nobody None = refl
    nobody (Some f) = refl
looks-still a past x s (TriggerRule.Time seconds) held (Some e) = refl
looks-still a past x s (TriggerRule.Time seconds) held None = (λ i. s.moment i && passed (TriggerRule.Time seconds) a.zone a.now a.now)
looks-still a past x s (TriggerRule.Pattern hours minutes seconds) held (Some e) = refl
looks-still a past x s (TriggerRule.Pattern hours minutes seconds) held None = (λ i. s.moment i && passed (TriggerRule.Pattern hours minutes seconds) a.zone a.now a.now)
looks-still a past x s (TriggerRule.Template t) held (Some e) = refl
looks-still a past x s (TriggerRule.Template t) held None = not-itself (says (rendered a t []))
looks-still a past x s TriggerRule.Start held e = refl

each-of : (P : Trigger → Type 0) → ((t : Trigger) → P t) → (ts : List Trigger) → EachOf P ts
each-of P f [] = tt
each-of P f (t ∷ ts) = (f t, each-of P f ts)

each-trigger : (P : Trigger → Type 0) → ((t : Trigger) → P t) → (all : List Automation) → EachTrigger P all
each-trigger P f [] = tt
each-trigger P f (a ∷ all) = (each-of P f a.triggers, each-trigger P f all)

module _ (j : Journal) (x : Entry) (h : HasEntry j) (s : IsOnly x) (seen : sight (more j x) (suc (length j)) ≡ sight (more j x) (length j)) where
  abbrev k : Journal
  k = more j x

  abbrev p : ℕ
  p = length j

  moves-here : (t : Trigger) (e : Option EntityId) → moves k t e p ≡ false
  moves-here t e =
      moves-at j x h t e
      ∙ (λ i. if s.opens i then is_boot x && starts t.rule && is_none e else looks (sight j p) ((seen ∙ sight-more j x h p (omega arith)) i) j t.rule (is_some t.hold) e x)
      ∙ looks-still (sight j p) j x s t.rule (is_some t.hold) e

  -- ---- nothing fires

  abbrev with_hold : Trigger → Option ℕ → Trigger
  with_hold t hold = record t { hold = hold }

  fires-here : (t : Trigger) (hold : Option ℕ) (e : Option EntityId) (since i : ℕ) → fires k (with_hold t hold) e since p i ≡ false
  fires-here t None e since i = (λ q. (nat_eq i p && moves-here (with_hold t None) e q) && (nat_lt since p || starts t.rule)) ∙ first (nat_eq i p)
    where
      first : (b : Bool) → ((b && false) && (nat_lt since p || starts t.rule)) ≡ false
      first true = refl
      first false = refl
  fires-here t (Some d) e since i =
      (λ q. (((nat_lt since i && moves k (with_hold t (Some d)) e i) && option_map_or is_moment (get-last j x q) false) && nat_le ((after k i).now + d) (after k p).now)
      && not (list_any (λ q. option_map_or is_moment (slice_get k q) false && nat_le ((after k i).now + d) (after k q).now) (between k i (p - 1)))
      && list_all (same_watched k t.rule e i) (between k i p))
      ∙ (λ q. (((nat_lt since i && moves k (with_hold t (Some d)) e i) && s.moment q) && nat_le ((after k i).now + d) (after k p).now)
      && not (list_any (λ q. option_map_or is_moment (slice_get k q) false && nat_le ((after k i).now + d) (after k q).now) (between k i (p - 1)))
      && list_all (same_watched k t.rule e i) (between k i p))
      ∙ second (nat_lt since i && moves k (with_hold t (Some d)) e i)
    where
      second : (b : Bool) → (((b && false) && nat_le ((after k i).now + d) (after k p).now)
          && not (list_any (λ q. option_map_or is_moment (slice_get k q) false && nat_le ((after k i).now + d) (after k q).now) (between k i (p - 1)))
          && list_all (same_watched k t.rule e i) (between k i p)) ≡ false
      second true = refl
      second false = refl

  -- LAW: no trigger fires
  pub fires-none : (t : Trigger) (e : Option EntityId) (since : ℕ) → fired_from k t e since p ≡ None
  fires-none t e since = find-none (fires k t e since p) (up_to (suc p)) (λ i. fires-here t t.hold e since i)

  -- LAW: nothing is attempted
  pub attempts-here : attempts k p ≡ []
  attempts-here = attempts-none j x s.asks (each-trigger (FiresNot k p) fires-none (automations k))

  pub passing-here : passing k ≡ []
  passing-here = passing-none j x attempts-here

  -- ---- holds

  latest-still : (e : EntityId) (name : Option Text) → latest_number e name (take (suc p) k) ≡ latest_number e name (take p k)
  latest-still e name =
      (λ i. latest_number e name (through-last j x i))
      ∙ latest-more j x e name
      ∙ (λ i. if s.opens i then None else or_else (number-none e name x s.report s.helps i) (latest_number e name j))
      ∙ (λ i. latest_number e name (sym (take-before j x) i))

  past-still : (one two : Sight) (first : Journal) (rule : TriggerRule) (e : Option EntityId) → watches one two first (take (suc p) k) rule e ≡ watches one two first (take p k) rule e
  past-still one two first (TriggerRule.State entities (Some name) from to) (Some e) = refl
  past-still one two first (TriggerRule.State entities None from to) (Some e) = refl
  past-still one two first (TriggerRule.State entities (Some name) from to) None = refl
  past-still one two first (TriggerRule.State entities None from to) None = refl
  past-still one two first (TriggerRule.Numeric entities attribute above below) (Some e) =
      (λ i. same_flag (option_map_or (in_bounds above below) (latest_number e attribute first) false) (option_map_or (in_bounds above below) (latest-still e attribute i) false))
  past-still one two first (TriggerRule.Numeric entities attribute above below) None = refl
  past-still one two first (TriggerRule.Event kinds pairs) e = refl
  past-still one two first (TriggerRule.Time seconds) e = refl
  past-still one two first (TriggerRule.Pattern hours minutes seconds) e = refl
  past-still one two first (TriggerRule.Template t) (Some e) = refl
  past-still one two first (TriggerRule.Template t) None = refl
  past-still one two first TriggerRule.Start e = refl

  -- what is watched behind the Reload is what it was after the entry before it
  watch-still : (rule : TriggerRule) (e : Option EntityId) (i : ℕ) → i < p → same_watched k rule e i p ≡ same_watched k rule e i (p - 1)
  watch-still rule e i lt =
      let before : p ≡ suc (p - 1) = omega (arith, lt) in
      (λ q. watches (sight k (suc i)) (seen q) (take (suc i) k) (take (suc p) k) rule e)
      ∙ past-still (sight k (suc i)) (sight k p) (take (suc i) k) rule e
      ∙ (λ q. watches (sight k (suc i)) (sight k (before q)) (take (suc i) k) (take (before q) k) rule e)

  module _ (t : Trigger) (e : Option EntityId) (since d : ℕ) where
    watched-still : (i : ℕ) → i < p → list_all (same_watched k t.rule e i) (between k i p) ≡ list_all (same_watched j t.rule e i) (between j i (p - 1))
    watched-still i lt =
        (λ q. list_all (same_watched k t.rule e i) (between-last k i p lt q))
        ∙ all-append (same_watched k t.rule e i) (between k i (p - 1)) p
        ∙ and-same (list_all (same_watched k t.rule e i) (between k i (p - 1))) (same_watched k t.rule e i p)
        (λ all. watch-still t.rule e i lt ∙ at-between k (same_watched k t.rule e i) i (p - 1) (p - 1) all (omega (arith, lt)) (omega arith))
        ∙ all-alike (same_watched k t.rule e i) (same_watched j t.rule e i) i 0 (suc (p - 1) - i) (λ q below. watched-more j x h t.rule e i q lt (omega (arith, lt, below)))

    over-here : (i : ℕ) → is_over k t e since d i p ≡ false
    over-here i =
        (λ q. option_map_or is_moment (get-last j x q) false && nat_le ((after k i).now + d) (after k p).now) ∙ (λ q. s.moment q && nat_le ((after k i).now + d) (after k p).now)

    over-still : (i : ℕ) → i < p → list_any (is_over k t e since d i) (between k i p) ≡ list_any (is_over j t e since d i) (between j i (p - 1))
    over-still i lt =
        (λ q. list_any (is_over k t e since d i) (between-last k i p lt q))
        ∙ any-append (is_over k t e since d i) (between k i (p - 1)) p
        ∙ (λ q. list_any (is_over k t e since d i) (between k i (p - 1)) || over-here i q)
        ∙ or-false (list_any (is_over k t e since d i) (between k i (p - 1)))
        ∙ any-alike (is_over k t e since d i) (is_over j t e since d i) i 0 (suc (p - 1) - i) (λ q below. over-more j x h t e since d i q lt (omega (arith, lt, below)))

    holds-still : (i : ℕ) → i < p → holds_to k t e since p d i ≡ holds_to j t e since (p - 1) d i
    holds-still i lt = (λ q. nat_lt since i && moves-more j x h t e i lt q && watched-still i lt q && not (over-still i lt q))

    holds-here : holds_to k t e since p d p ≡ false
    holds-here =
        (λ q. nat_lt since p && moves-here t e q && list_all (same_watched k t.rule e p) (between k p p) && not (list_any (is_over k t e since d p) (between k p p)))
        ∙ by (nat_lt since p) (list_all (same_watched k t.rule e p) (between k p p)) (not (list_any (is_over k t e since d p) (between k p p)))
      where
        by : (a b c : Bool) → (a && false && b && c) ≡ false
        by true b c = refl
        by false b c = refl

    found-still : find (holds_to k t e since (length k - 1) d) (up_to (length k)) ≡ find (holds_to j t e since (p - 1) d) (up_to p)
    found-still =
        let last : length k - 1 ≡ p = omega (arith, length-more j x) in
        (λ q. find (holds_to k t e since (last q) d) (up_to (length-more j x q)))
        ∙ (λ q. find (holds_to k t e since p d) (up_to-snoc p q))
        ∙ find-snoc (holds_to k t e since p d) (up_to p) p
        ∙ (λ q. or_else (find (holds_to k t e since p d) (up_to p)) (if holds-here q then Some p else None))
        ∙ or-none (find (holds_to k t e since p d) (up_to p))
        ∙ find-alike (holds_to k t e since p d) (holds_to j t e since (p - 1) d) 0 p (λ i lt. holds-still i (omega (arith, lt)))

  -- LAW: a pending hold stays, and no other begins
  pub pending-same : (t : Trigger) (e : Option EntityId) (since : ℕ) → pending k t e since ≡ pending j t e since
  pending-same t e since = (λ q. option_and_then (λ d. found-still t e since d q) t.hold)
