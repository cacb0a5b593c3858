-- A bus that was sent round among workers, by the lists of these.
use Rattle.std.proofs.Common.{◌≡◌, ◌∙◌, ◌≤◌, inl, true, List, [], length, map, Option, None, Some, ap, arith, refl, sym, subst}
use Rattle.std.specs.Prelude.{All}
use Rattle.ha_config.specs.declared.config.Config.{Config}
use Rattle.ha_config.specs.Words.{Text}
use Rattle.ha_journal.specs.declared.entry.Entry.{Entry}
use Rattle.ha_whole.specs.Whole.{Running}
use Rattle.ha_model.specs.Records.{Records}
use Rattle.ha_status.specs.declared.status.Status.{Status}
use Rattle.bus_turn.specs.Shown.{BusView, texts_of}
use Rattle.bus_turn.specs.States.{Outside}
use Rattle.bus_turn.specs.Writes.{Shows}
use Rattle.bus_pass.specs.declared.hand.Hand.{Hand}
use Rattle.bus_pass.specs.declared.hand.Origin.{Origin}
use Rattle.bus_pass.specs.Journal.{IsRestless}
use Rattle.bus_pass.specs.Origins.{IsStored, origin_of}
use Rattle.bus_pass.specs.Rule.{StandsForAll, Tells, hand}
use Rattle.ha_worker.specs.declared.end.WorkerEnd.{WorkerEnd}
use Rattle.ha_worker.specs.Courses.{SourceState}
use Rattle.ha_run.specs.Team.{AreDone, AreReady, IsAble, IsLater, IsLead, Seat, StoodStill, WentRound, joined, told_by}
use Rattle.ha_run.proofs.CrewLemmas.{able_of, done_count, later_of, map_twice, ready_count}
use Rattle.ha_run.proofs.TeamLemmas.{joined_taken, stands_for_all, went_round}

module _ {W : Type 0} (reading : Text → Option Config) (f : W → Seat) (before : List SourceState) where
  pub all_able : (workers slice : List W) → slice ≡ workers → AreReady 0 before (map f workers) → length before ≤ 16 → All (λ w. IsAble (f w)) slice
  all_able workers slice e ready few =
      subst (λ z. All (λ w. IsAble (f w)) z) (sym e) (able_of f (λ w. Unit {0}) 0 before workers ready (omega (arith, few, ready_count f (λ w. Unit {0}) before workers ready)))

  pub ready_in : (workers slice : List W) → slice ≡ workers → AreReady 0 before (map f workers) → AreReady 0 before (map f slice)
  ready_in workers slice e ready = subst (λ z. AreReady 0 before (map f z)) (sym e) ready

  pub done_in : (workers slice : List W) → slice ≡ workers → AreDone reading 0 before (map f workers) → AreDone reading 0 before (map f slice)
  done_in workers slice e done = subst (λ z. AreDone reading 0 before (map f z)) (sym e) done

  pub count_in : (workers : List W) → AreDone reading 0 before (map f workers) → length workers ≡ length before
  count_in workers done = done_count reading f before workers done

  pub all_later : (workers : List W) → AreDone reading 0 before (map f workers) → All (λ w. IsLater (f w).hand) workers
  all_later workers done = later_of reading f 0 before workers done

  pub idle_in : (workers : List W) (v v' : Hand) → v' ≡ joined v (map f workers) → v.taken ≡ None → v'.taken ≡ None
  idle_in workers v v' e idle = ap (λ (z : Hand). z.taken) e ∙ joined_taken (map f workers) v ∙ idle

  pub all_in : (workers : List W) (v v' : Hand) (o : Origin) → v' ≡ joined v (map f workers) → IsLead (length before) o v → AreDone reading 0 before (map f workers) → StandsForAll v'
  all_in workers v v' o e lead done = subst StandsForAll (sym e) (stands_for_all reading before (map f workers) v o lead done)

  pub went : {S : Type 0} (src : S → SourceState) (own : W → S) → ((w : W) → (f w).source ≡ src (own w)) → (base b : BusView) (workers : List W) (v v' : Hand) (back : List S) (told : Status) → v' ≡ joined v (map f workers)
      → IsLead (length before) (origin_of base) v → AreDone reading 0 before (map f workers) → Tells IsRestless v' b.journal b.first (origin_of b) → Running b.journal b.records → IsStored b
      → back ≡ map own workers → told ≡ told_by 0 (map (λ w. (f w).end) workers)
      → (ends : List (Option WorkerEnd)) × WentRound reading base b before (map src back) ends × (told ≡ told_by 0 ends)
  went {S} src own same base b workers v v' back told e lead done tells running stored back_is told_is =
      let ends = map (λ (s : Seat). s.end) (map f workers) in
      let r = went_round reading base b before (map f workers) v lead done (subst (λ z. Tells IsRestless z b.journal b.first (origin_of b)) e tells) running stored in
      let seen : map (λ (s : Seat). s.source) (map f workers) ≡ map src back =
      map_twice (λ (s : Seat). s.source) f workers ∙ ap (λ (g : W → SourceState). map g workers) (λ i w. same w i) ∙ sym (map_twice src own workers) ∙ sym (ap (map src) back_is) in (
        ends,
        subst (λ z. WentRound reading base b before z ends) seen r,
        told_is ∙ ap (told_by 0) (sym (map_twice (λ (s : Seat). s.end) f workers)),
      )

-- the first pass of a turn, which the bus lies in
pub lead_of : (b : BusView) (v : Hand) → b.first ≡ None → v ≡ hand true 0 [] None b.first [] (Some (origin_of b)) → IsLead 0 (origin_of b) v
lead_of b v free e = subst (IsLead 0 (origin_of b)) (sym e) (record { first = refl; made = refl; alone = refl; idle = refl; unnoted = free; undue = refl; origin_is = refl })

-- a bus that had stopped before
pub stopped_still : (b : BusView) (sources : List SourceState) → ((b.first ≡ None) → ⊥) → StoodStill b b sources sources
stopped_still b sources fault = record { same = refl; same_sources = refl; fault = fault; stopped = λ f h. inl h }

pub shown_by : (boot : Entry) (old : Outside) (base : BusView) (rs : Records) → base.records ≡ rs → Shows (texts_of rs [] boot) old base.first base.out → Shows (texts_of base.records [] boot) old base.first base.out
shown_by boot old base rs e h = subst (λ z. Shows (texts_of z [] boot) old base.first base.out) (sym e) h
