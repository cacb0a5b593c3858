-- A wait is still where nothing fires for its owner, its due has not come and its template, if it asks one, is not true.
use Rattle.std.proofs.Common.{◌≡◌, ℕ, zero, suc, ◌<◌, List, [], ◌∷◌, length, get_or, map, filter, All, Bool, true, false, ◌&&◌, ◌||◌, refl, sym, subst, ◌∙◌, arith, Option, true≢false}
use Rattle.std.specs.Prelude.{Some, None, MatchOption, nat_eq, nat_le, is_some, is_none, if◌then◌else◌}
use Rattle.std.specs.BTreeSet.{BTreeSet}
use Rattle.std.specs.Option.{option_map_or}
use Rattle.std.proofs.lemmas.Bool.Decides.{nat_tests}
use Rattle.ha_value.specs.declared.value.Value.{Value}
use Rattle.ha_sight.specs.declared.waiting.WaitEnd.{WaitEnd}
use Rattle.ha_journal.specs.declared.firing.Firing.{Firing}
use Rattle.ha_config.specs.declared.template.Template.{Template}
use Rattle.ha_sight.specs.Sight.{Sight}
use Rattle.ha_sight.specs.Templates.{rendered, says}
use Rattle.ha_config.specs.Words.{or_else}
use Rattle.timer_queue.specs.Timers.{Timer, due_of}
use Rattle.wait_set.specs.declared.asked.Asked.{Asked}
use Rattle.wait_set.specs.Asked.{end_now, end_with, fired_values, noted_one, value_of}
use Rattle.wait_set.specs.Concern.{IsStill, fires_for, has}
use Rattle.wait_set.specs.Readers.{Reads}
use Rattle.wait_set.specs.Runs.{Pair}
use Rattle.wait_set.specs.Tested.{TestedOrQuiet}
use Rattle.wait_set.specs.Timers.{AreKept, IsLater, due_in}
use Rattle.wait_set.proofs.TimedLemmas.{due-at}

either : (a b : Bool) → (a || b) ≡ false → (a ≡ false) × (b ≡ false)
either true b h = absurd (true≢false h)
either false b h = (refl, h)

none-fired : (fired : List Firing) (o : ℕ) → fires_for fired o ≡ false → fired_values o fired ≡ []
none-fired [] o h = refl
none-fired (f ∷ fs) o h =
    let parts = either (nat_eq f.owner o) (fires_for fs o) h in
    (λ i. map {A = Firing} {B = Value} (λ g. value_of g.env) (if parts.0 i then f ∷ filter (λ (g : Firing). nat_eq g.owner o) fs else filter (λ (g : Firing). nat_eq g.owner o) fs))
    ∙ none-fired fs o parts.1

module _ (q : ℕ) (s : Sight) (fired : List Firing) where
  not-late : (o : Option ℕ) → ((d : ℕ) → o ≡ Some d → s.now < d) → option_map_or (λ due. nat_le due s.now) o false ≡ false
  not-late None h = refl
  not-late (Some d) h = (let lt = h d refl in grind (arith, nat_tests, lt))

  module _ (a : Asked) (unmet : a.end ≡ None → option_map_or (λ x. says (rendered s x a.ask.env)) a.ask.test false ≡ false) (later : (d : ℕ) → due_in a ≡ Some d → s.now < d) (none : fires_for fired a.owner ≡ false) where
    stays : noted_one q s fired a ≡ a
    stays = by a.end refl
      where
        by : (e : Option WaitEnd) → a.end ≡ e → record a { end = or_else a.end (end_now q s (fired_values a.owner fired) a.ask) } ≡ a
        by (Some w) e = (λ i. record a { end = or_else (e i) (end_now q s (fired_values a.owner fired) a.ask) }) ∙ (λ i. record a { end = sym e i })
        by None e =
            (let met = unmet e in
            let early = not-late a.ask.due (λ d f. later d ((λ i. if is_none (e i) then a.ask.due else None) ∙ f)) in
            (λ i. record a { end = or_else (e i) (end_now q s (none-fired fired a.owner none i) a.ask) })
            ∙ (λ i. record a { end = if (met i || false) || early i then Some (end_with q s [] a.ask) else None })
            ∙ (λ i. record a { end = sym e i }))

    still : IsStill q s fired a
    still = record { noted = stays; ends = (λ i. is_none a.end && is_some (stays i).end) ∙ by a.end }
      where
        by : (e : Option WaitEnd) → (is_none e && is_some e) ≡ false
        by None = refl
        by (Some w) = refl

-- ---- among the others

any-default : (asks : List Asked) (n : ℕ) (d e : Asked) → n < length asks → get_or asks n d ≡ get_or asks n e
any-default [] n d e lt = absurd (omega (arith, lt))
any-default (a ∷ asks) zero d e lt = refl
any-default (a ∷ asks) (suc n) d e lt = any-default asks n d e (omega (arith, lt))

-- LAW: a wait whose due has not come, for whose owner nothing fires, and who is not tested, is still
pub still-aside : (q : ℕ) (s : Sight) (fired : List Firing) (asks : List Asked) (ts : List Timer) (reads : Reads) (tested : BTreeSet ℕ) (runs : BTreeSet Pair) (ordered : Bool) (now : ℕ) → AreKept asks ts reads runs ordered
    → All (TestedOrQuiet s (has tested)) asks → now ≡ s.now → (n : ℕ) (d : Asked) → n < length asks → IsLater now ts (get_or asks n d).owner → has tested (get_or asks n d).owner ≡ false
    → fires_for fired (get_or asks n d).owner ≡ false → IsStill q s fired (get_or asks n d)
still-aside q s fired asks ts reads tested runs ordered now kept quiet at n d lt later untested none = still q s fired a unmet due none
  where
    a : Asked
    a = get_or asks n d

    unmet : a.end ≡ None → option_map_or (λ x. says (rendered s x a.ask.env)) a.ask.test false ≡ false
    unmet e = by a.ask.test refl
      where
        by : (t : Option Template) → a.ask.test ≡ t → option_map_or (λ x. says (rendered s x a.ask.env)) a.ask.test false ≡ false
        by None is = (λ i. option_map_or (λ x. says (rendered s x a.ask.env)) (is i) false)
        by (Some t) is = (λ i. option_map_or (λ x. says (rendered s x a.ask.env)) (is i) false) ∙ quiet n d lt t e is untested

    due : (e : ℕ) → due_in a ≡ Some e → s.now < e
    due e is =
        (let of : due_of a.owner ts ≡ Some e = kept.timed.dues a.owner ∙ due-at n asks a kept.timed.apart lt (any-default asks n d a lt) ∙ is in
        let lt = subst (λ o. MatchOption o (Unit {0}) (λ due. now < due)) of later in
        omega (arith, at, lt))
