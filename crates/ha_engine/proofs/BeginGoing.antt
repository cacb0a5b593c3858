-- The parts where a run has ended, and the one that was queued behind it begins.
use Rattle.std.proofs.Common.{◌≡◌, ℕ, suc, ◌-◌, ◌<◌, ◌≤◌, [], length, Bool, true, false, refl, sym, ap, subst, ◌∙◌, rules, arith}
use Rattle.std.specs.Prelude.{Option, Some, None, nat_eq, slice_get, option_map, if◌then◌else◌}
use Rattle.std.specs.Option.{option_map_or}
use Rattle.std.proofs.lemmas.Option.{slice_get_within}
use Rattle.ha_model.specs.declared.record.EndCause.{EndCause}
use Rattle.ha_model.specs.declared.record.Record.{Record}
use Rattle.ha_journal.specs.Journal.{Journal, units, last_place}
use Rattle.ha_model.specs.Lawful.{is_running, record_of}
use Rattle.ha_model.specs.Records.{CallEnds, Records, actions_of, spots}
use Rattle.ha_config.specs.Words.{or_else}
use Rattle.ha_config.specs.Sound.{are_sound_actions}
use Rattle.ha_ready.specs.ReadyPairs.{branches_with, changed_at, pairs_from, ready_with}
use Rattle.ha_ready.proofs.RunPast.{begun-runs}
use Rattle.run_modes.specs.Changes.{after_end}
use Rattle.run_modes.specs.Table.{begins_at, begun_by, called_on, ended_at}
use Rattle.run_modes.proofs.ChangeLaws.{called-record, ended-record}
use Rattle.script_step.proofs.SoundFew.{sound-few}
use Rattle.engine_parts.specs.declared.parts.Parts.{Parts}
use Rattle.engine_parts.specs.Called.{AreAlike, CallsKept, told_by}
use Rattle.engine_parts.specs.Kept.{Going, RunsKept, left_branches, nobody}
use Rattle.engine_parts.specs.Records.{also, first_branches}
use Rattle.engine_entry.specs.Stepping.{StepEnds}
use Rattle.engine_parts.proofs.ToldLemmas.{told-alike}
use Rattle.engine_parts.proofs.CalledLemmas.{calls-alike}
use Rattle.engine_entry.proofs.EndLemmas.{called-length, called-table, end-alike, none-before, none-begun, one-begun}
use Rattle.engine_entry.proofs.QueuedLemmas.{Queued, begun-found, first-ready}

module _ (k : Journal) (rs : Records) (s : ℕ) (cause : EndCause) (h : StepEnds k rs s) (live : (i : ℕ) (r : Record) → slice_get rs i ≡ Some r → r.serial ≡ s → r.end ≡ None) (p : Parts) (going : Going (also nobody s) k rs p) where
  last : length k ≡ suc (length k - 1)
  last = omega (arith, h.some)

  -- what is told, and who waits, is the same behind
  alike : AreAlike (also nobody s) (last_place k) rs (ended_at s (length k - 1) cause rs)
  alike = end-alike s (length k - 1) 0 cause rs h.table.numbered live

  abbrev so : CallEnds
  so = told_by (also nobody s) k rs

  same-told : so ≡ told_by nobody k (ended_at s (length k - 1) cause rs)
  same-told = told-alike (also nobody s) k rs (ended_at s (length k - 1) cause rs) alike

  calls-behind : CallsKept (told_by nobody k (ended_at s (length k - 1) cause rs)) k (ended_at s (length k - 1) cause rs) p.calls p.frames.items
  calls-behind = calls-alike (also nobody s) k rs (ended_at s (length k - 1) cause rs) p.delays p.waits p.frames.items p.calls h.table.numbered alike going.runs_kept.slots going.calls_kept

  -- LAW: where nobody waited for it
  pub going-ended : begun_by s rs ≡ None → Going nobody k (ended_at s (length k - 1) cause rs) p
  going-ended none = record {
    sees = going.sees;
    triggers_stand = going.triggers_stand;
    waits_stand = going.waits_stand;
    owned = going.owned;
    keys_early = going.keys_early;
    runs_kept = subst (λ (told : CallEnds). RunsKept told nobody k (ended_at s (length k - 1) cause rs) p.delays p.waits p.frames.items p.ready.pairs.items) same-told
        (none-begun so k p.delays p.waits rs h.table.numbered s (length k - 1) cause last p.frames.items p.ready.pairs.items going.runs_kept none);
    calls_kept = calls-behind;
  }

  -- the run that begins, before and behind
  module _ (q : ℕ) (is : begun_by s rs ≡ Some q) where
    pub queued : Queued 0 q rs
    queued = (begun-found s 0 q rs h.table.numbered is).0

    behind : s < q
    behind = (begun-found s 0 q rs h.table.numbered is).1

    pub low : 0 < q
    low = omega (arith, behind)

    pub high : q ≤ length rs
    high = (let within : queued.index < length rs = slice_get_within rs queued.index queued.run queued.found in omega (arith, within, queued.place))

    found : record_of rs q ≡ Some queued.run
    found = (let at : q - 1 ≡ queued.index = omega (arith, queued.place) in ap (slice_get rs) at ∙ queued.found)

    abbrev pub new : Record
    new = begins_at (length k - 1) queued.run

    pub found-behind : record_of (ended_at s (length k - 1) cause rs) q ≡ Some new
    found-behind = ended-record s q (length k - 1) cause rs h.table.numbered ∙ ap (option_map (after_end s (length k - 1) cause (begun_by s rs))) found ∙ ap (λ r. Some r) changed
      where
        apart : nat_eq queued.run.serial s ≡ false
        apart = is-not queued.run.serial s (λ e. omega (arith, e, queued.own, behind))
          where
            is-not : (a b : ℕ) → (a ≡ b → ⊥) → nat_eq a b ≡ false
            is-not a b e = search (rules, e)

        own : nat_eq queued.run.serial q ≡ true
        own = is-so queued.run.serial q queued.own
          where
            is-so : (a b : ℕ) → a ≡ b → nat_eq a b ≡ true
            is-so a b e = search (rules, e)

        changed : after_end s (length k - 1) cause (begun_by s rs) queued.run ≡ new
        changed =
            (λ i. if apart i then record queued.run { end = Some (length k - 1, cause) } else if option_map_or (nat_eq queued.run.serial) (is i) false then new else queued.run)
            ∙ (λ i. if own i then new else queued.run)

    begun : new.begin ≡ Some (length k - 1)
    begun = (λ i. or_else (queued.waits i) (Some (length k - 1)))

    runs : is_running (length k) new ≡ true
    runs = (λ i. is_running (last i) new) ∙ begun-runs (length k - 1) (length k - 1) new begun (omega arith) queued.live

    nowhere : spots k new.serial ≡ []
    nowhere = ap (spots k) queued.own ∙ h.nowhere q queued.run found queued.waits queued.live (λ e. omega (arith, e, behind))

    branches : are_sound_actions (actions_of (units k) queued.run.automation) ≡ true → branches_with so (ended_at s (length k - 1) cause rs) k q ≡ first_branches (actions_of (units k) queued.run.automation)
    branches acts =
        ap (λ o. option_map_or (ready_with so k) o []) found-behind
        ∙ first-ready so k new runs nowhere (sound-few (actions_of (units k) queued.run.automation) acts)

    pub before-none : left_branches (also nobody s) so rs k q ≡ []
    before-none = none-before so k p.delays p.waits rs h.table.numbered s (length k - 1) cause last p.frames.items p.ready.pairs.items going.runs_kept q is

    -- LAW: where one begins, whose pairs are put in
    pub going-begun : are_sound_actions (actions_of (units k) queued.run.automation) ≡ true → (p' : Parts) → p' ≡ record p { ready = p'.ready }
        → p'.ready.pairs.items ≡ pairs_from 0 (length rs) (changed_at q (first_branches (actions_of (units k) new.automation)) (left_branches (also nobody s) so rs k)) → Going nobody k (ended_at s (length k - 1) cause rs) p'
    going-begun acts p' rest pairs =
        subst (Going nobody k (ended_at s (length k - 1) cause rs)) (sym rest)
        (record {
          sees = record { looks = going.sees.looks; helpers_stand = going.sees.helpers_stand; switches_stand = going.sees.switches_stand; changed_is = going.sees.changed_is; sound = going.sees.sound; few = going.sees.few; free_is = going.sees.free_is; ascending_is = going.sees.ascending_is };
          triggers_stand = going.triggers_stand;
          waits_stand = going.waits_stand;
          owned = going.owned;
          keys_early = going.keys_early;
          runs_kept = subst (λ (told : CallEnds). RunsKept told nobody k (ended_at s (length k - 1) cause rs) p.delays p.waits p.frames.items p'.ready.pairs.items) same-told
              (one-begun so k p.delays p.waits rs h.table.numbered s (length k - 1) cause last p.frames.items p.ready.pairs.items going.runs_kept q (first_branches (actions_of (units k) queued.run.automation)) p'.ready.pairs.items is (branches acts) pairs);
          calls_kept = calls-behind;
        })

-- LAW: where a call was counted, a run that has not begun has no places
pub ends-called : (k : Journal) (rs : Records) (s : ℕ) → StepEnds k rs s → StepEnds k (called_on s rs) s
ends-called k rs s h = record {
  table = called-table s k rs h.table;
  some = h.some;
  low = h.low;
  high = omega (arith, h.high, called-length s rs);
  nowhere = λ q r e begin end apart. by q r (record_of rs q) refl (sym (called-record s q rs) ∙ e) begin end apart;
}
  where
    by : (q : ℕ) (r : Record) (o : Option Record) → record_of rs q ≡ o → option_map (λ (y : Record). if nat_eq y.serial s then record y { calls = suc y.calls } else y) o ≡ Some r → r.begin ≡ None → r.end ≡ None → (s ≡ q → ⊥) → spots k q ≡ []
    by q r None f g begin end apart = absurd (let bad : ◌≡◌ {A = Option Record} None (Some r) = g in cc)
    by q r (Some y) f g begin end apart =
        (let same : (if nat_eq y.serial s then record y { calls = suc y.calls } else y) ≡ r = cc in
        h.nowhere q y f (begins (nat_eq y.serial s) ∙ ap (λ (z : Record). z.begin) same ∙ begin) (ends (nat_eq y.serial s) ∙ ap (λ (z : Record). z.end) same ∙ end) apart)
      where
        begins : (c : Bool) → y.begin ≡ (if c then record y { calls = suc y.calls } else y).begin
        begins true = refl
        begins false = refl

        ends : (c : Bool) → y.end ≡ (if c then record y { calls = suc y.calls } else y).end
        ends true = refl
        ends false = refl
