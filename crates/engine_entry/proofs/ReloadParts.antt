-- What is known once a Reload has made its own changes.
use Rattle.std.proofs.Common.{◌≡◌, ℕ, zero, suc, ◌+◌, ◌-◌, ◌≤◌, List, [], ◌∷◌, length, take, Bool, true, false, true≢false, refl, sym, ap, subst, ◌∙◌, arith}
use Rattle.std.specs.Prelude.{Some, None, IsSome, IsTrue, is_some, zip, filter, ◌||◌}
use Rattle.std.specs.List.{list_all}
use Rattle.std.specs.Option.{option_map_or}
use Rattle.ha_value.specs.declared.value.EntityId.{EntityId}
use Rattle.ha_clock.specs.Zone as clock
use Rattle.ha_config.specs.declared.config.Automation.{Automation}
use Rattle.ha_config.specs.declared.config.Config.{Config}
use Rattle.ha_config.specs.Helpers.{is_helper}
use Rattle.ha_config.specs.Sound.{are_sound_automations, is_sound_automation}
use Rattle.ha_config.specs.Words.{last_of}
use Rattle.ha_config.proofs.ListLemmas.{none-some, true-false}
use Rattle.ha_sight.specs.Sight.{Automations}
use Rattle.ha_journal.specs.declared.entry.Entry.{Entry}
use Rattle.ha_journal.specs.declared.entry.Entry.TheVariants.{Boot, Line, Step, Again}
use Rattle.ha_journal.specs.declared.event.BusEvent.{BusEvent}
use Rattle.ha_journal.specs.Entries.{IsBoot, is_reload, reload_in}
use Rattle.ha_journal.specs.Force.{IsAlike}
use Rattle.ha_journal.specs.Helpers.{last_events}
use Rattle.ha_journal.specs.Journal.{HasEntry, IsJournal, Journal, automations, configured, helpers, in_force, more, now, units, zone_of}
use Rattle.ha_journal.proofs.AlikeLaws.{rules-alike, sound-reloaded}
use Rattle.ha_journal.proofs.EventLaws.{helps-none, last-events}
use Rattle.ha_journal.proofs.MoreLemmas.{length-more}
use Rattle.ha_journal.proofs.StateLemmas.{last_of-snoc}
use Rattle.ha_past.specs.Firings.{Owner}
use Rattle.helper_set.specs.Kept as helped
use Rattle.helper_set.proofs.SightLemmas.{left-stands}
use Rattle.conf_reload.specs.declared.outcome.Plan.{Plan}
use Rattle.state_laws.specs.Stands.{StandsFor}
use Rattle.state_table.specs.declared.table.StateTable.{StateTable}
use Rattle.switch_book.specs.Book as switches
use Rattle.trig_set.specs.Next.{Listed}
use Rattle.trig_set.specs.Stands as triggers
use Rattle.trig_set.specs.declared.set.TrigSet.{TrigSet}
use Rattle.engine_parts.specs.declared.parts.Parts.{Parts}
use Rattle.engine_parts.specs.Kept.{AreOwned, AreSound, Owned, last_is}
use Rattle.engine_parts.specs.Numbers.{AreFew, is_ascending, numbers_in, rule_numbers}
use Rattle.engine_parts.specs.Owners.{AreAscending, AreBelow, is_automation}
use Rattle.engine_parts.specs.Runs.{first_wait}
use Rattle.engine_parts.specs.Stages.{Entered}
use Rattle.engine_parts.proofs.KeyLemmas.{keys_more}
use Rattle.engine_parts.proofs.RuleLemmas.{numbers_of}
use Rattle.engine_parts.proofs.ViewLemmas.{rules-first}
use Rattle.engine_entry.specs.Reloaded.{AreFresh, Entering, Halfway, HaveEntered, HaveLeft, IsSettled, Leaving, Reloading, with_new, without_all}
use Rattle.engine_entry.specs.Turned.{entity_named}
use Rattle.engine_entry.proofs.EnterLemmas.{now-left, zone-more}
use Rattle.engine_entry.proofs.ForceNames.{names-differ}
use Rattle.engine_entry.proofs.NamedLemmas.{all-sound}
use Rattle.engine_entry.proofs.NameNumbers.{AreNumbered, config-numbered}
use Rattle.engine_entry.proofs.ReloadNumbers.{free-behind, numbers-behind}
use Rattle.engine_entry.proofs.ReloadOwners.{ascend-behind, below-behind, fresh-behind, owned-behind, owners-behind}
use Rattle.engine_entry.proofs.ReloadStates.{IsQuiet, entering, leaving, listed-behind, reload-quiet, states-behind}

-- ---- numbers at the front

zip-first : (ns : List ℕ) (us : List Automation) → length us ≤ length ns → zip (take (length us) ns) us ≡ zip ns us
zip-first [] [] len = refl
zip-first (n ∷ ns) [] len = refl
zip-first [] (u ∷ us) len = refl
zip-first (n ∷ ns) (u ∷ us) len = ap (λ l. (n, u) ∷ l) (zip-first ns us (omega (arith, len)))

length-first : (m : ℕ) (ns : List ℕ) → m ≤ length ns → length (take m ns) ≡ m
length-first zero [] len = refl
length-first zero (n ∷ ns) len = refl
length-first (suc m) [] len = absurd (omega (arith, len))
length-first (suc m) (n ∷ ns) len = ap suc (length-first m ns (omega (arith, len)))

zip-numbers : (ns : List ℕ) (us : List Automation) → length ns ≤ length us → numbers_of (zip ns us) ≡ ns
zip-numbers [] us len = refl
zip-numbers (n ∷ ns) [] len = absurd (omega (arith, len))
zip-numbers (n ∷ ns) (u ∷ us) len = ap (λ l. n ∷ l) (zip-numbers ns us (omega (arith, len)))

-- ---- the journal before it

boots-none : (x : Entry) → IsBoot x → reload_in x ≡ None
boots-none (Boot text config stored start zone carry) h = refl
boots-none (Again number start stored carry) h = absurd h
boots-none (Line source number cmd) h = absurd h
boots-none (Step worker serial branch item) h = absurd h

has-before : (j : Journal) (x : Entry) (c : Config) → IsJournal (more j x) → reload_in x ≡ Some c → HasEntry j
has-before [] x c h e = absurd (none-some c (sym (boots-none x h.0) ∙ e))
has-before (y ∷ ys) x c h e = tt

module _ (k : Journal) (old new : Config) (plan : Plan) (p : Parts) (h : Reloading k old new plan p) where
  abbrev j : Journal
  j = h.j

  abbrev x : Entry
  x = h.x

  longer : more j x ≡ k
  longer = sym h.journal_is

  some : HasEntry j
  some = has-before j x new (subst IsJournal h.journal_is h.journal) h.reloads

  -- LAW: something stands before it
  pub some-before : HasEntry j
  some-before = some

  quiet : IsQuiet x
  quiet = reload-quiet x new h.reloads

  numbers-whole : plan.numbers ≡ numbers_in k
  numbers-whole = numbers-behind j old new p.numbers p.free plan h.sees.looks.numbers_are h.old_is h.planned x some h.reloads h.sees.free_is ∙ ap (λ (i : Journal). numbers_in i) longer

  -- LAW: what is in force behind it is sound
  pub sound-whole : AreSound k
  sound-whole = subst AreSound longer (sound-reloaded j x new some h.reloads h.sees.sound h.sound)

  now-whole : p.at ≡ now k
  now-whole = h.sees.looks.now_is ∙ sym (now-left j x quiet.still) ∙ ap now longer

  old-numbered : AreNumbered j old.automations p.numbers
  old-numbered = config-numbered j old p.numbers (ap (λ (d : Config). d.automations) h.old_is) h.sees.looks.numbers_are

  module _ (c : Config) (is : IsAlike c (configured k)) where
    rules-same : c.automations ≡ automations k
    rules-same = ap (λ (d : Config). d.automations) is

    whole-numbered : AreNumbered k c.automations plan.numbers
    whole-numbered = config-numbered k c plan.numbers rules-same numbers-whole

    -- LAW: each of its automations has its number
    pub rules-within : length c.automations ≤ length plan.numbers
    rules-within = whole-numbered.within

    -- LAW: and they are sound
    pub rules-sound : IsTrue (are_sound_automations c.automations)
    rules-sound = rules-alike c (configured k) is sound-whole

    pub each-sound : list_all is_sound_automation c.automations ≡ true
    each-sound = (λ i. list_all is_sound_automation (rules-same i)) ∙ all-sound (configured k) sound-whole

    module _ (own : List ℕ) (own_is : own ≡ take (length c.automations) plan.numbers) where
      own-length : length own ≡ length c.automations
      own-length = ap (λ (l : List ℕ). length l) own_is ∙ length-first (length c.automations) plan.numbers rules-within

      own-numbered : AreNumbered k c.automations own
      own-numbered = record {
        are = (λ i. zip (own_is i) c.automations) ∙ zip-first plan.numbers c.automations rules-within ∙ whole-numbered.are;
        within = (let same = own-length in omega (arith, same));
      }

      pub own-within : length c.automations ≤ length own
      own-within = own-numbered.within

      -- LAW: they are those in force behind it
      pub own-are : zip own c.automations ≡ in_force (more j x)
      own-are = own-numbered.are ∙ ap (λ (i : Journal). in_force i) h.journal_is

      own-first : own ≡ rule_numbers k
      own-first = own_is ∙ (λ i. take (length (rules-same i)) plan.numbers) ∙ rules-first k plan.numbers numbers-whole

      module _ (s : Automations) (stands : switches.StandsFor s (more j x)) where
        few : AreFew (more j x)
        few = subst AreFew h.journal_is h.few

        -- LAW: no new number has an owner
        pub fresh-own : AreFresh p.free (without_all plan.gone (triggers.attached p.triggers)) own
        fresh-own =
            (let at : numbers_of (in_force (more j x)) ≡ own = (λ i. numbers_of (sym own-are i)) ∙ zip-numbers own c.automations (let same = own-length in omega (arith, same)) in
            subst (AreFresh p.free (without_all plan.gone (triggers.attached p.triggers))) at
            (fresh-behind j x old new p.numbers p.free plan h.sees.looks.numbers_are h.old_is h.planned some h.reloads quiet.opens h.sees.free_is few s stands (triggers.attached p.triggers) h.owned.ascend h.owned.automations_attached))

        -- LAW: what the states are gone through with
        pub leaving-here : Leaving j k c p.states []
        leaving-here =
            subst (λ (i : Journal). Leaving j i c p.states []) longer
            (leaving j x new some h.reloads old c p.numbers own old-numbered (record { are = own-are; within = own-within }) p.states [] (λ e. h.sees.looks.states_stand e))

        pub entering-here : Entering j k old p.numbers p.switches c.automations own s p.at
        entering-here =
            subst (λ (i : Journal). Entering j i old p.numbers p.switches c.automations own s p.at) longer
            (entering j x new some h.reloads old c p.numbers own old-numbered (record { are = own-are; within = own-within }) p.switches s p.at h.sees.switches_stand stands
            (names-differ (more j x) (subst AreSound h.journal_is sound-whole)) (now-whole ∙ ap now h.journal_is))

        module _ (t : StateTable) (before : Listed) (half : Halfway j k t before) (left : HaveLeft j k c before old.automations) (entered : HaveEntered j k before c.automations)
            (g : TrigSet) (attached_is : triggers.attached g ≡ with_new s p.free (length j) (zip own c.automations) (without_all plan.gone (triggers.attached p.triggers))) (stand : triggers.StandsFor g j)
            (v : List BusEvent) (none : v ≡ []) (up : Bool) (up_is : up ≡ is_ascending own) where
          half-here : Halfway j (more j x) t before
          half-here = subst (λ (i : Journal). Halfway j i t before) h.journal_is half

          left-here : HaveLeft j (more j x) c before old.automations
          left-here = subst (λ (i : Journal). HaveLeft j i c before old.automations) h.journal_is left

          entered-here : HaveEntered j (more j x) before c.automations
          entered-here = subst (λ (i : Journal). HaveEntered j i before c.automations) h.journal_is entered

          stand-here : StandsFor t (more j x)
          stand-here = states-behind j x new some h.reloads old c p.numbers own old-numbered (record { are = own-are; within = own-within }) t before half-here left-here entered-here

          abbrev behind : List Owner
          behind = with_new s p.free (length j) (in_force (more j x)) (without_all plan.gone (triggers.attached p.triggers))

          attached-behind : triggers.attached g ≡ behind
          attached-behind = attached_is ∙ (λ i. with_new s p.free (length j) (own-are i) (without_all plan.gone (triggers.attached p.triggers)))

          owned-here : Owned (more j x) g p.waits
          owned-here = record {
            automations_attached = (λ i. filter is_automation (attached-behind i))
                ∙ owners-behind j x old new p.numbers p.free plan h.sees.looks.numbers_are h.old_is h.planned some h.reloads quiet.opens h.sees.free_is few s stands (triggers.attached p.triggers) h.owned.ascend h.owned.automations_attached;
            ascend = subst (AreAscending 0) (sym attached-behind)
                (ascend-behind j x old new p.numbers p.free plan h.sees.looks.numbers_are h.old_is h.planned some h.reloads quiet.opens h.sees.free_is few s stands (triggers.attached p.triggers) h.owned.ascend h.owned.automations_attached);
            early = subst (AreBelow (first_wait + length (more j x))) (sym attached-behind)
                (below-behind j x old new p.numbers p.free plan h.sees.looks.numbers_are h.old_is h.planned some h.reloads quiet.opens h.sees.free_is few s stands (triggers.attached p.triggers) h.owned.ascend h.owned.automations_attached h.owned.early);
            waits_owned = subst (λ (os : List Owner). AreOwned (length (more j x)) os p.waits.asks) (sym attached-behind)
                (owned-behind j x old new p.numbers p.free plan h.sees.looks.numbers_are h.old_is h.planned some h.reloads quiet.opens h.sees.free_is few s stands (triggers.attached p.triggers) h.owned.ascend h.owned.automations_attached p.waits.asks h.owned.waits_owned);
            apart = h.owned.apart;
          }

          reloads-last : last_is is_reload k ≡ true
          reloads-last = (λ i. option_map_or is_reload ((ap last_of h.journal_is ∙ last_of-snoc j x) i) false) ∙ ap is_some h.reloads

          -- LAW: all but the triggers and the waits stands for the journal with the Reload
          pub reload-entered : Entered k (record p { numbers = plan.numbers; free = plan.free; ascending = up; states = t; switches = s; triggers = g; given = v; changed = false }) before
          reload-entered = record {
            sees = record {
              looks = record {
                now_is = now-whole;
                in_time = h.sees.looks.in_time;
                zone_is = h.sees.looks.zone_is ∙ sym (zone-more j x some) ∙ ap zone_of longer;
                zone_read = subst (λ z. IsSome (clock.zone_of z)) (sym (zone-more j x some) ∙ ap zone_of longer) h.sees.looks.zone_read;
                states_stand = subst (StandsFor t) longer stand-here;
                numbers_are = numbers-whole;
              };
              helpers_stand = subst (helped.StandsFor p.helpers) longer (left-stands j some p.helpers.kept.items p.helpers.timers h.sees.helpers_stand x quiet.changes quiet.moment);
              switches_stand = subst (switches.StandsFor s) longer stands;
              changed_is = λ plain. absurd (true-false (sym reloads-last ∙ plain));
              sound = sound-whole;
              few = h.few;
              free_is = free-behind j old new p.numbers p.free plan h.sees.looks.numbers_are h.old_is h.planned x some h.reloads h.sees.free_is ∙ ap (λ (i : Journal). length (units i)) longer;
              ascending_is = up_is ∙ ap is_ascending own-first;
            };
            untold = record {
              j = j;
              x = x;
              journal_is = h.journal_is;
              journal = h.journal;
              some = some;
              triggers_stand = stand;
              waits_stand = h.waits_stand;
              owned = subst (λ (i : Journal). Owned i g p.waits) longer owned-here;
              listed = λ earlier. listed-behind j x new some h.reloads old c p.numbers own old-numbered (record { are = own-are; within = own-within }) t before half-here left-here entered-here;
              apart = λ spared. absurd (true≢false (sym spared ∙ (λ i. quiet.opens i || is_some (quiet.report i) || is_some (quiet.gone i))));
              helped = (λ i. list_all (λ a. is_helper (helpers (more j x)) a.entity) (quiet.changes i));
            };
            given_is = none ∙ sym (helps-none j x quiet.changes quiet.moment) ∙ sym (last-events j x) ∙ ap last_events longer;
            keys_early = keys_more (length j) (length k) p.delays (omega (arith, length-more j x, ap length h.journal_is)) h.keys_early;
          }

        -- LAW: so it is where the states, and then the triggers, were gone through
        pub reload-done : (rules olds : List Automation) → rules ≡ c.automations → olds ≡ old.automations → (t1 t2 : StateTable) (b0 b1 b2 : Listed) → b0 ≡ []
            → ((i l : Journal) → Leaving i l c p.states b0 → Halfway i l t1 b1 × HaveLeft i l c b1 olds)
            → ((i l : Journal) → Entering i l old p.numbers p.switches rules own s p.at → Halfway i l t1 b1
            → Halfway i l t2 b2 × HaveEntered i l b2 rules × ((e : EntityId) → IsSettled i l b1 e → IsSettled i l b2 e))
            → (gone : List ℕ) → gone ≡ plan.gone → (place : ℕ) → place ≡ length j → (g1 g2 : TrigSet) → triggers.attached g1 ≡ without_all gone (triggers.attached p.triggers)
            → triggers.attached g2 ≡ with_new s p.free place (zip own rules) (triggers.attached g1) → triggers.StandsFor g2 j → (v : List BusEvent) → v ≡ [] → (up : Bool) → up ≡ is_ascending own
            → Entered k (record p { numbers = plan.numbers; free = plan.free; ascending = up; states = t2; switches = s; triggers = g2; given = v; changed = false }) b2
        reload-done rules olds rules_are olds_are t1 t2 b0 b1 b2 empty went came gone gone_are place place_is g1 g2 left_is attached_is stand v none up up_is =
            (let first = went j k (subst (λ (l : Listed). Leaving j k c p.states l) (sym empty) leaving-here) in
            let second = came j k (subst (λ (l : List Automation). Entering j k old p.numbers p.switches l own s p.at) (sym rules_are) entering-here) first.0 in
            reload-entered t2 b2 second.0 (subst (HaveLeft j k c b2) olds_are (kept olds second.2 first.1)) (subst (HaveEntered j k b2) rules_are second.1) g2
            (attached_is ∙ (λ i. with_new s p.free (place_is i) (zip own (rules_are i)) ((left_is ∙ (λ q. without_all (gone_are q) (triggers.attached p.triggers))) i))) stand v none up up_is)
          where
            kept : (ys : List Automation) → ((e : EntityId) → IsSettled j k b1 e → IsSettled j k b2 e) → HaveLeft j k c b1 ys → HaveLeft j k c b2 ys
            kept [] more' h' = tt
            kept (y ∷ ys) more' h' = (λ e. more' (entity_named y.name) (h'.0 e), kept ys more' h'.1)
