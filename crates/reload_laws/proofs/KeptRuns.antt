-- Runs at a Reload: those of kept units go on, the others end there, and no run makes a step behind its end.
use Rattle.std.proofs.Common.{◌≡◌, ℕ, zero, suc, ◌+◌, ◌-◌, ◌<◌, ◌≤◌, ◌⊎◌, inl, inr, Bool, true, false, [], ◌∷◌, ◌++◌, length, refl, sym, ap, subst, ◌∙◌, arith, rules, Option, length-append}
use Rattle.std.specs.Prelude.{Some, None, IsTrue, MatchOption, is_some, not, nat_eq, nat_le, nat_lt, slice_get, option_and_then, option_map, ◌&&◌, ◌||◌, if◌then◌else◌}
use Rattle.std.specs.List.{list_any}
use Rattle.std.specs.Option.{option_map_or}
use Rattle.std.proofs.lemmas.Bool.{leb-true}
use Rattle.ha_config.specs.declared.config.Config.{Config}
use Rattle.ha_config.specs.Sound.{IsSoundConfig}
use Rattle.ha_config.specs.Words.{EachAfter, or_else}
use Rattle.ha_config.proofs.EqualLemmas.{and_right}
use Rattle.ha_config.proofs.ListLemmas.{none-some, some-same, true-false}
use Rattle.ha_sight.specs.declared.item.Item.{Item}
use Rattle.ha_sight.specs.Scripts.{Branch}
use Rattle.ha_journal.specs.declared.entry.Entry.{Entry}
use Rattle.ha_journal.specs.declared.entry.Entry.TheVariants.{Step}
use Rattle.ha_journal.specs.Entries.{is_reload, is_restart, reload_in}
use Rattle.ha_journal.specs.Force.{force, has_unit}
use Rattle.ha_journal.specs.Journal.{HasEntry, Journal, configured, last_place, more, units}
use Rattle.ha_journal.proofs.MoreLemmas.{length-more}
use Rattle.ha_model.specs.declared.record.EndCause.{EndCause}
use Rattle.ha_model.specs.declared.record.Record.{Record}
use Rattle.ha_model.specs.Lawful.{IsRightEntry, Right, is_running, record_of}
use Rattle.ha_model.specs.Records.{Records, is_step_of, own_cause, ran, records_of, script_end, stops, stops_turned}
use Rattle.ha_model.proofs.KnownLaws.{all-known, known-at}
use Rattle.ha_model.proofs.LastEntry.{last-is, or-none}
use Rattle.reload_laws.specs.Ends.{end_of}
use Rattle.reload_laws.specs.Kept.{is_kept}
use Rattle.reload_laws.proofs.EndLemmas.{IsRun, end-longer, end_then, run-more}
use Rattle.reload_laws.proofs.KeptLemmas.{has-kept, kept-has}
use Rattle.reload_laws.proofs.ReloadLine.{IsOnly, reload-only}

module _ (j : Journal) (x : Entry) (c : Config) (reloads : reload_in x ≡ Some c) where
  abbrev k : Journal
  k = more j x

  last : last_place k ≡ length j
  last = omega (arith, length-more j x)

  -- LAW: a Reload gives a run an end exactly where its unit is not in force behind it
  pub cause-is : (r : Record) → own_cause k r ≡ (if not (has_unit (force k) r.automation) then Some EndCause.Reloaded else None)
  cause-is r = (let s = reload-only x c reloads in by s)
    where
      by : IsOnly x → own_cause k r ≡ (if not (has_unit (force k) r.automation) then Some EndCause.Reloaded else None)
      by s =
          (λ i. or_else (if last-is (is_step_of r.serial) j x i then option_and_then (λ o. script_end o.status) (ran k r) else None)
          (if last-is (stops (units k) r.automation) j x i then Some EndCause.SwitchedOff
          else if last-is is_restart j x i then Some EndCause.Restarted
          else if last-is is_reload j x i && not (has_unit (force k) r.automation) then Some EndCause.Reloaded
          else None))
          ∙ (λ i. or_else (if option_map_or (λ y. nat_eq y.serial r.serial) (s.step i) false then option_and_then (λ o. script_end o.status) (ran k r) else None)
          (if stops_turned (units k) r.automation (s.turns i) || list_any (nat_eq r.automation) (s.halts i) then Some EndCause.SwitchedOff
          else if s.restart i then Some EndCause.Restarted
          else if is_some (reloads i) && not (has_unit (force k) r.automation) then Some EndCause.Reloaded
          else None))

  pub cause-kept : (r : Record) → has_unit (force k) r.automation ≡ true → own_cause k r ≡ None
  cause-kept r h = cause-is r ∙ (λ i. if not (h i) then Some EndCause.Reloaded else None)

  cause-gone : (r : Record) → has_unit (force k) r.automation ≡ false → own_cause k r ≡ Some EndCause.Reloaded
  cause-gone r h = cause-is r ∙ (λ i. if not (h i) then Some EndCause.Reloaded else None)

  -- LAW: a run of a kept unit has the end that it had, or is replaced there
  pub runs-kept : (s : ℕ) (r : Record) → HasEntry j → IsSoundConfig (configured j) → record_of (records_of j) s ≡ Some r → is_kept (force j) c r.automation ≡ true
      → (end_of (records_of k) s ≡ r.end) ⊎ ((r.end ≡ None) × (end_of (records_of k) s ≡ Some (length j, EndCause.Replaced)))
  runs-kept s r some sound found kept = (let run = run-more j x (s - 1) r found in by run.run run.found run.is_run)
    where
      still : end_then k r ≡ r.end
      still = (λ i. or_else r.end (option_map {T = EndCause} (λ z. (last_place k, z)) (cause-kept r (kept-has j x c some reloads r.automation sound kept) i))) ∙ or-none r.end

      by : (r' : Record) → record_of (records_of k) s ≡ Some r' → IsRun (last_place k) (end_then k r) r r'
          → (end_of (records_of k) s ≡ r.end) ⊎ ((r.end ≡ None) × (end_of (records_of k) s ≡ Some (length j, EndCause.Replaced)))
      by r' at is = two is.ends
        where
          ends : end_of (records_of k) s ≡ r'.end
          ends = (λ i. option_map_or (λ (z : Record). z.end) (at i) None)

          two : (r'.end ≡ end_then k r) ⊎ ((end_then k r ≡ None) × (r'.end ≡ Some (last_place k, EndCause.Replaced)))
              → (end_of (records_of k) s ≡ r.end) ⊎ ((r.end ≡ None) × (end_of (records_of k) s ≡ Some (length j, EndCause.Replaced)))
          two (inl e) = inl (ends ∙ e ∙ still)
          two (inr (none, e)) = inr (sym still ∙ none, ends ∙ e ∙ ap (λ p. Some (p, EndCause.Replaced)) last)

  -- LAW: a live run of a unit that is not kept ends there, in every longer journal
  pub runs-gone : (behind : Journal) (s : ℕ) (r : Record) → HasEntry j → record_of (records_of j) s ≡ Some r → r.end ≡ None → is_kept (force j) c r.automation ≡ false
      → end_of (records_of (k ++ behind)) s ≡ Some (length j, EndCause.Reloaded)
  runs-gone behind s r some found live gone = end-longer k behind s (length j, EndCause.Reloaded) (let run = run-more j x (s - 1) r found in by run.run run.found run.is_run)
    where
      known : r.automation < length (units j)
      known = at (record_of (records_of j) s) found (known-at (length (units j)) (records_of j) (s - 1) (all-known j))
        where
          at : (o : Option Record) → o ≡ Some r → MatchOption o (Unit {0}) (λ y. y.automation < length (units j)) → r.automation < length (units j)
          at None e h = absurd (none-some r e)
          at (Some y) e h = subst (λ (z : Record). z.automation < length (units j)) (some-same y r e) h

      out : has_unit (force k) r.automation ≡ false
      out = of (has_unit (force k) r.automation) refl
        where
          of : (b : Bool) → has_unit (force k) r.automation ≡ b → b ≡ false
          of true e = absurd (true-false (sym (has-kept j x c some reloads r.automation known e) ∙ gone))
          of false e = refl

      ends : end_then k r ≡ Some (length j, EndCause.Reloaded)
      ends =
          (λ i. or_else (live i) (option_map {T = EndCause} (λ z. (last_place k, z)) (cause-gone r out i)))
          ∙ ap (λ p. Some (p, EndCause.Reloaded)) last

      by : (r' : Record) → record_of (records_of k) s ≡ Some r' → IsRun (last_place k) (end_then k r) r r' → end_of (records_of k) s ≡ Some (length j, EndCause.Reloaded)
      by r' at is = (λ i. option_map_or (λ (z : Record). z.end) (at i) None) ∙ two is.ends
        where
          two : (r'.end ≡ end_then k r) ⊎ ((end_then k r ≡ None) × (r'.end ≡ Some (last_place k, EndCause.Replaced))) → r'.end ≡ Some (length j, EndCause.Reloaded)
          two (inl e) = e ∙ ends
          two (inr (none, e)) = absurd (none-some (length j, EndCause.Reloaded) (sym none ∙ ends))

-- ---- behind an end

-- the Step at a place is right behind the entries before it
record IsStepThere (rs : Records) (place worker serial : ℕ) (branch : Branch) (item : Item) : Type 0 where
  before : Journal
  length_is : length before ≡ place
  is_right : IsRightEntry rs before (Step worker serial branch item)

step-there : (rs : Records) (before xs : Journal) (n worker serial : ℕ) (branch : Branch) (item : Item) → EachAfter (IsRightEntry rs) before xs → slice_get xs n ≡ Some (Step worker serial branch item)
    → IsStepThere rs (length before + n) worker serial branch item
step-there rs before [] n worker serial branch item h e = absurd (none-some (Step worker serial branch item) e)
step-there rs before (y ∷ ys) zero worker serial branch item h e =
    record { before = before; length_is = omega arith; is_right = subst (IsRightEntry rs before) (some-same y (Step worker serial branch item) e) h.0 }
step-there rs before (y ∷ ys) (suc n) worker serial branch item h e =
    let one = step-there rs (before ++ (y ∷ [])) ys n worker serial branch item h.1 e in
    record { before = one.before; length_is = omega (arith, one.length_is, length-append before (y ∷ [])); is_right = one.is_right }

is-true : (b : Bool) → IsTrue b → b ≡ true
is-true b h = search (rules, h)

-- LAW: a run makes no step behind the place of its end
pub silent : (k : Journal) (rs : Records) (n worker serial : ℕ) (branch : Branch) (item : Item) (p : ℕ) (cause : EndCause) → Right k rs → slice_get k n ≡ Some (Step worker serial branch item)
    → end_of rs serial ≡ Some (p, cause) → n ≤ p
silent k rs n worker serial branch item p cause right at ends =
    let one = step-there rs [] k n worker serial branch item right.entries at in
    let own = one.is_right in
    by one.before (omega (arith, one.length_is)) own.0 own.1 (is-true (is_running (length (one.before ++ (Step worker serial branch item ∷ [])) - 1) own.0) own.3.runs)
  where
    by : (d : Journal) → length d ≡ n → (r : Record) → record_of rs serial ≡ Some r → is_running (length (d ++ (Step worker serial branch item ∷ [])) - 1) r ≡ true → n ≤ p
    by d len r found runs =
        let m : ℕ = length (d ++ (Step worker serial branch item ∷ [])) - 1 in
        let place : m ≡ n = omega (arith, len, length-append d (Step worker serial branch item ∷ [])) in
        let own : r.end ≡ Some (p, cause) = (λ i. option_map_or (λ (z : Record). z.end) (sym found i) None) ∙ ends in
        let within : nat_le m p ≡ true = (λ i. option_map_or (λ e. nat_le m e.0) (sym own i) true) ∙ and_right (option_map_or (λ b. nat_lt b m) r.begin false) (option_map_or (λ e. nat_le m e.0) r.end true) runs in
        omega (arith, place, leb-true m p within)
