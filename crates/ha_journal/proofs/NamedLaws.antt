-- The helper of an id with one more entry, and when a timer of that id finishes.
use Rattle.std.proofs.Common.{◌≡◌, List, [], ◌∷◌, ◌++◌, map, Bool, true, false, true≢false, refl, sym, ap, ◌∙◌}
use Rattle.std.specs.Prelude.{Some, None, filter, filter_map, codes, ◌&&◌, ◌||◌, if◌then◌else◌}
use Rattle.std.specs.List.{list_any}
use Rattle.std.specs.Option.{option_map_or}
use Rattle.ha_value.specs.declared.value.EntityId.{EntityId}
use Rattle.ha_config.specs.declared.helper.Helper.{Helper}
use Rattle.ha_config.specs.Helpers.{helper_named}
use Rattle.ha_config.specs.Words.{Text, same_entity}
use Rattle.ha_config.proofs.EqualLemmas.{entity-refl, entity-sound}
use Rattle.ha_journal.specs.declared.entry.Entry.{Entry}
use Rattle.ha_journal.specs.declared.entry.Entry.TheVariants.{Again, Boot, Line, Step}
use Rattle.ha_journal.specs.Entries.{changes_in, is_boot, is_moment}
use Rattle.ha_journal.specs.Helpers.{comes, due_in, event_of_change, finished, finishes, helper_events, is_of, timer_event}
use Rattle.ha_journal.specs.Journal.{Journal, HasEntry, helpers, more, now}
use Rattle.ha_journal.specs.States.{of_helper, reported}
use Rattle.ha_journal.proofs.HelperLaws.{finishes-not}
use Rattle.ha_journal.proofs.MoreLemmas.{helpers-more}

-- ---- the helper of an id

-- LAW: it has that id
pub named-is : (all : List Helper) (e : EntityId) (h : Helper) → helper_named all e ≡ Some h → h.entity ≡ e
named-is [] e h q = cc
named-is (a ∷ all) e h q = by (same_entity a.entity e) refl q (named-is all e h)
  where
    by : (b : Bool) → same_entity a.entity e ≡ b → (if b then Some a else helper_named all e) ≡ Some h → (helper_named all e ≡ Some h → h.entity ≡ e) → h.entity ≡ e
    by true one k rest = (let is : a ≡ h = (let m = k in cc) in ap (λ (g : Helper). g.entity) (sym is) ∙ entity-sound a.entity e one)
    by false one k rest = rest k

-- LAW: where there is none with one more entry, there was none
pub none-before : (j : Journal) (x : Entry) (e : EntityId) → helper_named (helpers (more j x)) e ≡ None → helper_named (helpers j) e ≡ None
none-before [] x e q = refl
none-before (y ∷ ys) x e q = (λ i. helper_named (helpers-more (y ∷ ys) x tt i) e) ∙ q

-- LAW: one is there before an entry that is no Boot
pub some-has : (j : Journal) (x : Entry) (e : EntityId) (h : Helper) → is_boot x ≡ false → helper_named (helpers (more j x)) e ≡ Some h → HasEntry j
some-has [] (Boot text config stored start zone carry) e h b q = absurd (true≢false b)
some-has [] (Line source number cmd) e h b q = cc
some-has [] (Step worker serial branch item) e h b q = cc
some-has [] (Again number start stored carry) e h b q = cc
some-has (y ∷ ys) x e h b q = tt

pub before-is : (j : Journal) (x : Entry) (e : EntityId) (h : Helper) → HasEntry j → helper_named (helpers (more j x)) e ≡ Some h → helper_named (helpers j) e ≡ Some h
before-is j x e h some q = (λ i. helper_named (helpers-more j x some i) e) ∙ q

-- LAW: the state before the entry
pub before-state : (j : Journal) (x : Entry) (e : EntityId) (h : Helper) → helper_named (helpers (more j x)) e ≡ Some h → of_helper j h ≡ option_map_or (of_helper j) (helper_named (helpers j) e) (reported j e)
before-state [] x e h q = refl
before-state (y ∷ ys) x e h q = sym (λ i. option_map_or (of_helper (y ∷ ys)) (before-is (y ∷ ys) x e h tt q i) (reported (y ∷ ys) e))

-- ---- timers of an id that finish

module _ (j : Journal) (x : Entry) (e : EntityId) where
  finishes-alike : (g h : Helper) → g.entity ≡ h.entity → finishes j x g ≡ finishes j x h
  finishes-alike g h same = (λ i. option_map_or (λ due. comes due (now (more j x), x)) (due_in j (same i)) false)

  -- the other way round
  turned : (f : EntityId) → same_entity f e ≡ false → same_entity e f ≡ false
  turned f other = by (same_entity e f) refl
    where
      by : (b : Bool) → same_entity e f ≡ b → b ≡ false
      by true one = absurd (true≢false (sym (ap (λ (d : EntityId). same_entity d e) (sym (entity-sound e f one)) ∙ entity-refl e) ∙ other))
      by false one = refl

  abbrev ended : List Helper → Bool
  ended hs = list_any (same_entity e) (map (λ (h : Helper). h.entity) (filter (finishes j x) hs))

  -- none of that id
  none-ended : (hs : List Helper) → helper_named hs e ≡ None → ended hs ≡ false
  none-ended [] q = refl
  none-ended (a ∷ hs) q = by (same_entity a.entity e) refl q (none-ended hs)
    where
      of : (b : Bool) → same_entity e a.entity ≡ false → ended hs ≡ false → list_any (same_entity e) (map (λ (h : Helper). h.entity) (if b then a ∷ filter (finishes j x) hs else filter (finishes j x) hs)) ≡ false
      of true other rest = (λ i. other i || rest i)
      of false other rest = rest

      by : (b : Bool) → same_entity a.entity e ≡ b → (if b then Some a else helper_named hs e) ≡ None → (helper_named hs e ≡ None → ended hs ≡ false) → ended (a ∷ hs) ≡ false
      by true one k rest = cc
      by false one k rest = of (finishes j x a) (turned a.entity one) (rest k)

  -- one that finishes, and one that doesn't
  one-ended : (hs : List Helper) (h : Helper) → helper_named hs e ≡ Some h → finishes j x h ≡ true → ended hs ≡ true
  one-ended [] h q f = cc
  one-ended (a ∷ hs) h q f = by (same_entity a.entity e) refl q (λ k. one-ended hs h k f)
    where
      or-true : (b : Bool) → (b || true) ≡ true
      or-true true = refl
      or-true false = refl

      of : (b : Bool) → ended hs ≡ true → list_any (same_entity e) (map (λ (g : Helper). g.entity) (if b then a ∷ filter (finishes j x) hs else filter (finishes j x) hs)) ≡ true
      of true rest = (λ i. same_entity e a.entity || rest i) ∙ or-true (same_entity e a.entity)
      of false rest = rest

      by : (b : Bool) → same_entity a.entity e ≡ b → (if b then Some a else helper_named hs e) ≡ Some h → (helper_named hs e ≡ Some h → ended hs ≡ true) → ended (a ∷ hs) ≡ true
      by true one k rest =
          let is : a ≡ h = (let m = k in cc) in
          let own : finishes j x a ≡ true = ap (finishes j x) is ∙ f in
          let here : same_entity e a.entity ≡ true = ap (same_entity e) (entity-sound a.entity e one) ∙ entity-refl e in
          (λ i. list_any (same_entity e) (map (λ (g : Helper). g.entity) (if own i then a ∷ filter (finishes j x) hs else filter (finishes j x) hs)))
          ∙ (λ i. here i || ended hs)
      by false one k rest = of (finishes j x a) (rest k)

  not-ended : (h : Helper) → h.entity ≡ e → finishes j x h ≡ false → (hs : List Helper) → ended hs ≡ false
  not-ended h id f [] = refl
  not-ended h id f (a ∷ hs) = by (finishes j x a) refl (not-ended h id f hs)
    where
      apart : finishes j x a ≡ true → (b : Bool) → same_entity e a.entity ≡ b → b ≡ false
      apart g true one = absurd (true≢false (sym g ∙ finishes-alike a h (sym (entity-sound e a.entity one) ∙ sym id) ∙ f))
      apart g false one = refl

      by : (b : Bool) → finishes j x a ≡ b → ended hs ≡ false → list_any (same_entity e) (map (λ (g : Helper). g.entity) (if b then a ∷ filter (finishes j x) hs else filter (finishes j x) hs)) ≡ false
      by true g rest = (λ i. apart g (same_entity e a.entity) refl i || rest i)
      by false g rest = rest

  moment-changes : (y : Entry) → is_moment y ≡ true → changes_in y ≡ []
  moment-changes (Boot text config stored start zone carry) m = refl
  moment-changes (Again number start stored carry) m = refl
  moment-changes (Line source number cmd) m = refl
  moment-changes (Step worker serial branch item) m = cc

  of-finished : (kind : Text) (es : List EntityId) → list_any (is_of (Some e)) (map (timer_event kind) es) ≡ list_any (same_entity e) es
  of-finished kind [] = refl
  of-finished kind (f ∷ fs) = (λ i. same_entity e f || of-finished kind fs i)

  at-moment : is_moment x ≡ true → list_any (is_of (Some e)) (helper_events j x) ≡ ended (helpers j)
  at-moment m =
      (λ i. list_any (is_of (Some e)) (filter_map event_of_change (moment-changes x m i) ++ map (timer_event (codes "timer.finished")) (finished j x)))
      ∙ of-finished (codes "timer.finished") (finished j x)

  -- LAW: a timer is among those that finish exactly where it finishes
  pub finished-is : (h : Helper) → is_moment x ≡ true → helper_named (helpers j) e ≡ Some h → list_any (same_entity e) (finished j x) ≡ finishes j x h
  finished-is h m q = over (finishes j x h) refl
    where
      over : (b : Bool) → finishes j x h ≡ b → ended (helpers j) ≡ finishes j x h
      over true f = one-ended (helpers j) h q f ∙ sym f
      over false f = not-ended h (named-is (helpers j) e h q) f (helpers j) ∙ sym f

  -- LAW: an entity that is no helper is not
  pub finished-nobody : is_moment x ≡ true → helper_named (helpers j) e ≡ None → list_any (same_entity e) (finished j x) ≡ false
  finished-nobody m q = none-ended (helpers j) q

  -- LAW: at a moment there is an event of the helper exactly where it finishes
  pub event-finishes : (h : Helper) → helper_named (helpers j) e ≡ Some h → (is_moment x && list_any (is_of (Some e)) (helper_events j x)) ≡ finishes j x h
  event-finishes h q = by (is_moment x) refl
    where
      by : (b : Bool) → is_moment x ≡ b → (is_moment x && list_any (is_of (Some e)) (helper_events j x)) ≡ finishes j x h
      by true m = (λ i. m i && list_any (is_of (Some e)) (helper_events j x)) ∙ at-moment m ∙ finished-is h m q
      by false m = (λ i. m i && list_any (is_of (Some e)) (helper_events j x)) ∙ sym (finishes-not j x h m)

  -- LAW: and none of an entity that is no helper
  pub event-nobody : helper_named (helpers j) e ≡ None → (is_moment x && list_any (is_of (Some e)) (helper_events j x)) ≡ false
  event-nobody q = by (is_moment x) refl
    where
      by : (b : Bool) → is_moment x ≡ b → (is_moment x && list_any (is_of (Some e)) (helper_events j x)) ≡ false
      by true m = (λ i. m i && list_any (is_of (Some e)) (helper_events j x)) ∙ at-moment m ∙ none-ended (helpers j) q
      by false m = (λ i. m i && list_any (is_of (Some e)) (helper_events j x))
