-- A set of waits over one entry: which asks stay, which waits end, and who owns them.
use Rattle.std.proofs.Common.{◌≡◌, ℕ, suc, ◌+◌, take, List, [], ◌∷◌, map, filter, Bool, true, false, cond, refl, sym, ap, subst, ◌∙◌, rules, arith, length}
use Rattle.std.specs.Prelude.{Option, Some, None, nat_eq, is_some, is_none, option_map, option_and_then, ◌&&◌, ◌||◌, if◌then◌else◌, nat_le}
use Rattle.std.specs.List.{list_any}
use Rattle.ha_sight.specs.declared.waiting.WaitEnd.{WaitEnd}
use Rattle.ha_journal.specs.declared.firing.Firing.{Firing}
use Rattle.ha_journal.specs.Journal.{Journal, now}
use Rattle.ha_sight.specs.Sight.{Sight}
use Rattle.ha_config.specs.Words.{or_else, first_of_list}
use Rattle.ha_sight.specs.Scripts.{Branch, Ask}
use Rattle.ha_sight.specs.Templates.{rendered, says}
use Rattle.ha_journal.specs.Triggers.{firings}
use Rattle.ha_journal.specs.Waits.{wait_end, all_fired}
use Rattle.ha_past.specs.Firings.{Owner, owner_named}
use Rattle.wait_set.specs.declared.asked.Asked as wait
use Rattle.wait_set.specs.Asked.{WaitTable, is_of, wait_of, end_of, end_now, fired_values, noted, noted_one, ends_in, owners_ended, end_with, is_bare}
use Rattle.wait_set.specs.Stands.{StandsFor, StandsOne, AreFired}
use Rattle.wait_set.specs.Timers.{AreApart}
use Rattle.wait_set.proofs.BareLemmas.{no-test, no-time, no-trigger}
use Rattle.engine_parts.specs.Waiting.{Asked, asked, ends, fresh, AsksKept, EndsGrow, TellsEnds}
use Rattle.engine_parts.specs.Pending.{AreOthers, AreWaits}
use Rattle.engine_parts.specs.Kept.{AreOwned}
use Rattle.ha_config.proofs.EqualLemmas.{and_left, and_right}
use Rattle.std.specs.Option.{option_map_or}

-- ---- what a set tells

stands-found : (j : Journal) (s : ℕ) (b : Branch) (a : wait.Asked) (asks : List wait.Asked) → StandsFor asks j → wait_of s b asks ≡ Some a → StandsOne j a
stands-found j s b a [] h e = absurd (let bad : ◌≡◌ {A = Option wait.Asked} None (Some a) = e in cc)
stands-found j s b a (x ∷ xs) h e = by (is_of s b x) (stands-found j s b a xs h.1) e
  where
    by : (c : Bool) → (wait_of s b xs ≡ Some a → StandsOne j a) → (if c then Some x else wait_of s b xs) ≡ Some a → StandsOne j a
    by true later is = (let same : x ≡ a = cc in subst (StandsOne j) same h.0)
    by false later is = later is

-- LAW: waits that stand for a journal tell how its waits ended
pub stands-tells : (w : WaitTable) (j : Journal) → StandsFor w.asks j → TellsEnds w j
stands-tells w j h s b a ask found full is = by (wait_of s b w.asks) refl found
  where
    by : (o : Option wait.Asked) → wait_of s b w.asks ≡ o → option_map {T = wait.Asked} {U = Asked} asked o ≡ Some a → ends w s b ≡ wait_end j ask a.place
    by None e bad = absurd (let none : ◌≡◌ {A = Option Asked} None (Some a) = bad in cc)
    by (Some x) e some =
        let same : asked x ≡ a = cc in
        let one : StandsOne j x = stands-found j s b x w.asks h e in
        let place : x.place ≡ a.place = ap (λ (y : Asked). y.place) same in
        let ask_is : x.ask ≡ a.ask = ap (λ (y : Asked). y.ask) same in
        ap (λ (y : Option wait.Asked). option_and_then {T = wait.Asked} {U = WaitEnd} (λ z. z.end) y) e
        ∙ one.end (ap is_bare ask_is ∙ full) ask (record {
          test = ap (λ y. y.test) ask_is ∙ is.test;
          triggers = ap (λ y. y.triggers) ask_is ∙ is.triggers;
          env = ap (λ y. y.env) ask_is ∙ is.env;
          due = ap (λ y. y.due) ask_is ∙ subst (λ q. a.ask.due ≡ option_map {T = ℕ} {U = ℕ} (λ d. now (take (suc q) j) + d) ask.timeout) (sym place) is.due;
        })
        ∙ ap (wait_end j ask) place

-- ---- after an entry

none-kept : (e z : Option WaitEnd) → or_else e z ≡ None → e ≡ None
none-kept None z h = refl
none-kept (Some w) z h = h

-- a bare wait is not ended by an entry that is told of its triggers, of which it has none
bare-noted : (k : Journal) (q : ℕ) (s : Sight) (fired : List Firing) (a : wait.Asked) → is_bare a.ask ≡ true
    → (a.end ≡ None → (ask : Ask) → a.ask.triggers ≡ ask.triggers → fired_values a.owner fired ≡ all_fired k ask a.place q) → or_else a.end (end_now q s (fired_values a.owner fired) a.ask) ≡ a.end
bare-noted k q s fired a bare told = by a.end refl
  where
    front : (is_none a.ask.test && nat_eq (length a.ask.triggers) 0) ≡ true
    front = and_left (is_none a.ask.test && nat_eq (length a.ask.triggers) 0) (is_none a.ask.due) bare

    test : a.ask.test ≡ None
    test = no-test a.ask.test (and_left (is_none a.ask.test) (nat_eq (length a.ask.triggers) 0) front)

    triggers : a.ask.triggers ≡ []
    triggers = no-trigger a.ask.triggers (and_right (is_none a.ask.test) (nat_eq (length a.ask.triggers) 0) front)

    due : a.ask.due ≡ None
    due = no-time a.ask.due (and_right (is_none a.ask.test && nat_eq (length a.ask.triggers) 0) (is_none a.ask.due) bare)

    asked_for : Ask
    asked_for = record { test = None; triggers = a.ask.triggers; timeout = None; env = a.ask.env; called = false }

    none : a.end ≡ None → fired_values a.owner fired ≡ []
    none e = told e asked_for refl ∙ (λ i. map (λ f. f.variables) (firings k (triggers i) a.place q))

    never : a.end ≡ None → end_now q s (fired_values a.owner fired) a.ask ≡ None
    never e =
        (λ i. if (option_map_or (λ t. says (rendered s t a.ask.env)) (test i) false || is_some (first_of_list (none e i))) || option_map_or (λ d. nat_le d s.now) (due i) false
        then Some (end_with q s (fired_values a.owner fired) a.ask) else None)

    by : (o : Option WaitEnd) → a.end ≡ o → or_else a.end (end_now q s (fired_values a.owner fired) a.ask) ≡ a.end
    by None e = (λ i. or_else (e i) (end_now q s (fired_values a.owner fired) a.ask)) ∙ never e ∙ sym e
    by (Some x) e = (λ i. or_else (e i) (end_now q s (fired_values a.owner fired) a.ask)) ∙ sym e

-- so what is kept of a wait stays
same-noted : (k : Journal) (q : ℕ) (s : Sight) (fired : List Firing) (a : wait.Asked)
    → (a.end ≡ None → (ask : Ask) → a.ask.triggers ≡ ask.triggers → fired_values a.owner fired ≡ all_fired k ask a.place q) → asked (noted_one q s fired a) ≡ asked a
same-noted k q s fired a told = (λ i. record { owner = a.owner; place = a.place; ask = a.ask; named = by (is_bare a.ask) refl i })
  where
    by : (c : Bool) → is_bare a.ask ≡ c → (if is_bare a.ask then or_else a.end (end_now q s (fired_values a.owner fired) a.ask) else None) ≡ (if is_bare a.ask then a.end else None)
    by true e = (λ i. if is_bare a.ask then bare-noted k q s fired a e told i else None)
    by false e = (λ i. if e i then or_else a.end (end_now q s (fired_values a.owner fired) a.ask) else None) ∙ (λ i. if sym e i then a.end else None)

asked-noted : (k : Journal) (q : ℕ) (s : Sight) (fired : List Firing) (serial : ℕ) (b : Branch) (asks : List wait.Asked) → AreFired k q fired asks
    → option_map {T = wait.Asked} {U = Asked} asked (wait_of serial b (noted q s fired asks)) ≡ option_map {T = wait.Asked} {U = Asked} asked (wait_of serial b asks)
asked-noted k q s fired serial b [] told = refl
asked-noted k q s fired serial b (x ∷ xs) told = by (is_of serial b x) (asked-noted k q s fired serial b xs told.1)
  where
    by : (c : Bool) → option_map {T = wait.Asked} {U = Asked} asked (wait_of serial b (noted q s fired xs)) ≡ option_map {T = wait.Asked} {U = Asked} asked (wait_of serial b xs)
        → option_map {T = wait.Asked} {U = Asked} asked (if c then Some (noted_one q s fired x) else wait_of serial b (noted q s fired xs)) ≡ option_map {T = wait.Asked} {U = Asked} asked (if c then Some x else wait_of serial b xs)
    by true h = ap Some (same-noted k q s fired x told.0)
    by false h = h

-- LAW: the asks stay
pub asks-noted : (k : Journal) (q : ℕ) (s : Sight) (fired : List Firing) (w w' : WaitTable) → w'.asks ≡ noted q s fired w.asks → AreFired k q fired w.asks → (serial : ℕ) → AsksKept w w' serial
asks-noted k q s fired w w' e told serial b = ap (λ l. option_map {T = wait.Asked} {U = Asked} asked (wait_of serial b l)) e ∙ asked-noted k q s fired serial b w.asks told

-- LAW: and which waits end is told
pub grow-noted : (w w' : WaitTable)
    → ((serial : ℕ) (b : Branch) (a : wait.Asked) → wait_of serial b w.asks ≡ Some a → is_some (end_of w'.asks serial b) ≡ (is_some (end_of w.asks serial b) || list_any (nat_eq a.owner) w'.fresh))
    → (serial : ℕ) → EndsGrow w w' serial
grow-noted w w' told serial b a found = by (wait_of serial b w.asks) refl found
  where
    by : (o : Option wait.Asked) → wait_of serial b w.asks ≡ o → option_map {T = wait.Asked} {U = Asked} asked o ≡ Some a
        → is_some (ends w' serial b) ≡ (is_some (ends w serial b) || list_any (nat_eq a.owner) (fresh w'))
    by None e bad = absurd (let none : ◌≡◌ {A = Option Asked} None (Some a) = bad in cc)
    by (Some x) e some =
        let same : asked x ≡ a = cc in
        told serial b x e ∙ ap (λ (y : Asked). is_some (ends w serial b) || list_any (nat_eq y.owner) (fresh w')) same

-- LAW: who owns the waits stays
pub owned-noted : (q : ℕ) (s : Sight) (fired : List Firing) (n : ℕ) (owners : List Owner) (asks : List wait.Asked) → AreOwned n owners asks → AreOwned n owners (noted q s fired asks)
owned-noted q s fired n owners [] h = tt
owned-noted q s fired n owners (a ∷ asks) h = (
  record { owner_is = h.0.owner_is; early = h.0.early; attached = λ e. h.0.attached (none-kept a.end (end_now q s (fired_values a.owner fired) a.ask) e) },
  owned-noted q s fired n owners asks h.1,
)

same-owners : (q : ℕ) (s : Sight) (fired : List Firing) (o : ℕ) (asks : List wait.Asked) → list_any (λ b. nat_eq b.owner o) (noted q s fired asks) ≡ list_any (λ b. nat_eq b.owner o) asks
same-owners q s fired o [] = refl
same-owners q s fired o (a ∷ asks) = ap (λ c. nat_eq a.owner o || c) (same-owners q s fired o asks)

-- LAW: and the owners are still apart
pub apart-noted : (q : ℕ) (s : Sight) (fired : List Firing) (asks : List wait.Asked) → AreApart asks → AreApart (noted q s fired asks)
apart-noted q s fired [] h = tt
apart-noted q s fired (a ∷ asks) h = (same-owners q s fired a.owner asks ∙ h.0, apart-noted q s fired asks h.1)

or-left : (a b : Bool) → (a || b) ≡ false → a ≡ false
or-left true b h = absurd (let bad : ◌≡◌ {A = Bool} true false = h in cc)
or-left false b h = refl

or-right : (a b : Bool) → (a || b) ≡ false → b ≡ false
or-right true b h = absurd (let bad : ◌≡◌ {A = Bool} true false = h in cc)
or-right false b h = h

or-false : (a b : Bool) → a ≡ false → b ≡ false → (a || b) ≡ false
or-false a b p q = (λ i. p i || q i)

-- one owner more, which none of the waits has
others-more : (o : ℕ) (F : List ℕ) (asks : List wait.Asked) → list_any (λ b. nat_eq b.owner o) asks ≡ false → AreOthers F asks → AreOthers (o ∷ F) asks
others-more o F [] apart h = tt
others-more o F (a ∷ asks) apart h = (
  λ e. or-false (nat_eq a.owner o) (list_any (nat_eq a.owner) F) (or-left (nat_eq a.owner o) (list_any (λ b. nat_eq b.owner o) asks) apart) (h.0 e),
  others-more o F asks (or-right (nat_eq a.owner o) (list_any (λ b. nat_eq b.owner o) asks) apart) h.1,
)

-- an owner that none of the waits has is not told
none-told : (q : ℕ) (s : Sight) (fired : List Firing) (o : ℕ) (asks : List wait.Asked) → list_any (λ b. nat_eq b.owner o) asks ≡ false → list_any (nat_eq o) (owners_ended q s fired asks) ≡ false
none-told q s fired o [] h = refl
none-told q s fired o (a ∷ asks) h = by (ends_in q s fired a) (none-told q s fired o asks (or-right (nat_eq a.owner o) (list_any (λ b. nat_eq b.owner o) asks) h))
  where
    turned : (a b : ℕ) → nat_eq a b ≡ false → nat_eq b a ≡ false
    turned a b e = search (rules, e)

    by : (c : Bool) → list_any (nat_eq o) (owners_ended q s fired asks) ≡ false
        → list_any (nat_eq o) (map {A = wait.Asked} {B = ℕ} (λ b. b.owner) (cond c (a ∷ filter (ends_in q s fired) asks) (filter (ends_in q s fired) asks))) ≡ false
    by true e = or-false (nat_eq o a.owner) (list_any (nat_eq o) (owners_ended q s fired asks)) (turned a.owner o (or-left (nat_eq a.owner o) (list_any (λ b. nat_eq b.owner o) asks) h)) e
    by false e = e

-- LAW: the owners that are told are none of the waits that have not ended
pub others-noted : (q : ℕ) (s : Sight) (fired : List Firing) (asks : List wait.Asked) → AreApart asks → AreOthers (owners_ended q s fired asks) (noted q s fired asks)
others-noted q s fired [] h = tt
others-noted q s fired (a ∷ asks) h = by (ends_in q s fired a) refl (others-noted q s fired asks h.1)
  where
    apart : list_any (λ b. nat_eq b.owner a.owner) (noted q s fired asks) ≡ false
    apart = same-owners q s fired a.owner asks ∙ h.0

    ended : (e z : Option WaitEnd) → (is_none e && is_some (or_else e z)) ≡ true → or_else e z ≡ None → ⊥
    ended None None h n = (let bad : ◌≡◌ {A = Bool} false true = h in cc)
    ended None (Some w) h n = (let bad : ◌≡◌ {A = Option WaitEnd} (Some w) None = n in cc)
    ended (Some v) z h n = (let bad : ◌≡◌ {A = Bool} false true = h in cc)

    by : (c : Bool) → ends_in q s fired a ≡ c → AreOthers (owners_ended q s fired asks) (noted q s fired asks)
        → AreOthers (map {A = wait.Asked} {B = ℕ} (λ b. b.owner) (cond c (a ∷ filter (ends_in q s fired) asks) (filter (ends_in q s fired) asks))) (noted q s fired (a ∷ asks))
    by true e rest = (λ none. absurd (ended a.end (end_now q s (fired_values a.owner fired) a.ask) e none), others-more a.owner (owners_ended q s fired asks) (noted q s fired asks) apart rest)
    by false e rest = (λ none. none-told q s fired a.owner asks h.0, rest)

-- LAW: they are owners of waits
pub waits-noted : (q : ℕ) (s : Sight) (fired : List Firing) (n : ℕ) (owners : List Owner) (asks : List wait.Asked) → AreOwned n owners asks → AreWaits (owners_ended q s fired asks)
waits-noted q s fired n owners [] h = tt
waits-noted q s fired n owners (a ∷ asks) h = by (ends_in q s fired a) (waits-noted q s fired n owners asks h.1)
  where
    by : (c : Bool) → AreWaits (owners_ended q s fired asks) → AreWaits (map {A = wait.Asked} {B = ℕ} (λ b. b.owner) (cond c (a ∷ filter (ends_in q s fired) asks) (filter (ends_in q s fired) asks)))
    by true e = (omega (arith, h.0.owner_is), e)
    by false e = e

-- ---- an owner is detached

-- LAW: where an owner is none of the waits', they have their triggers attached without it
pub owned-without : (o n : ℕ) (F : List ℕ) (owners left : List Owner) (asks : List wait.Asked) → ((p : ℕ) → nat_eq p o ≡ false → owner_named p left ≡ owner_named p owners) → AreOthers (o ∷ F) asks
    → AreOwned n owners asks → AreOwned n left asks
owned-without o n F owners left [] same others h = tt
owned-without o n F owners left (a ∷ asks) same others h = (
  record {
    owner_is = h.0.owner_is;
    early = h.0.early;
    attached = λ e. same a.owner (or-left (nat_eq a.owner o) (list_any (nat_eq a.owner) F) (others.0 e)) ∙ h.0.attached e;
  },
  owned-without o n F owners left asks same others.1 h.1,
)

pub others-less : (o : ℕ) (F : List ℕ) (asks : List wait.Asked) → AreOthers (o ∷ F) asks → AreOthers F asks
others-less o F [] h = tt
others-less o F (a ∷ asks) h = (λ e. or-right (nat_eq a.owner o) (list_any (nat_eq a.owner) F) (h.0 e), others-less o F asks h.1)
