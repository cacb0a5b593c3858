-- Which branches may step after one more entry, run by run.
use Rattle.std.proofs.Common.{◌≡◌, ℕ, suc, ◌<◌, List, [], ◌∷◌, ◌++◌, length, map, filter, Bool, true, false, refl, sym, subst, ◌∙◌}
use Rattle.std.specs.Prelude.{nat_lt, nat_le, ◌&&◌, if◌then◌else◌}
use Rattle.std.specs.Option.{option_map_or}
use Rattle.ha_journal.specs.declared.entry.Entry.{Entry}
use Rattle.ha_model.specs.declared.record.Record.{Record}
use Rattle.ha_config.specs.Words.{Pairs}
use Rattle.ha_journal.specs.Journal.{Journal, HasEntry, more, units}
use Rattle.ha_sight.specs.Scripts.{Spot}
use Rattle.ha_sight.specs.Branches.{branches_of}
use Rattle.ha_model.specs.Records.{actions_of, spots, spot_of, CallEnds, spot_with}
use Rattle.ha_model.specs.Lawful.{is_running}
use Rattle.ha_config.specs.declared.config.Automation.{Automation}
use Rattle.ha_journal.proofs.ForceLaws.{unit-more}
use Rattle.ha_journal.proofs.MoreLemmas.{length-more}
use Rattle.ha_model.proofs.FoldLaws.{spots-more}
use Rattle.ha_config.proofs.ListLemmas.{append-nil}
use Rattle.script_step.specs.Gates.{Fronts, opens}
use Rattle.script_step.specs.Gates.{open_branches}
use Rattle.engine_parts.specs.Fronts.{AreFronts}
use Rattle.ha_ready.specs.ReadyPairs.{may_with, ready_with}
use Rattle.ha_ready.proofs.RunPast.{running-stays, resting-with}
use Rattle.ha_ready.specs.RunPast.{IsPast, SameScript}
use Rattle.engine_parts.specs.OneMore.{FrontsStay}

-- ---- its branches that may step

-- LAW: those of a run that runs are the fronts whose gates are open
pub front-branches : (told : CallEnds) (j : Journal) (r : Record) (F : Fronts) → is_running (length j) r ≡ true
    → AreFronts (actions_of (units j) r.automation) r.env (spots j r.serial) F → ready_with told j r ≡ open_branches (spot_with told j) F
front-branches told j r F on fronts =
    (λ i. if on i then filter (may_with told j r) (branches_of (actions_of (units j) r.automation)) else []) ∙ fronts (spot_with told j) (λ b. refl)

pub open-same : (told told' : CallEnds) (j k : Journal) (F : Fronts) → FrontsStay told told' j k F → open_branches (spot_with told' k) F ≡ open_branches (spot_with told j) F
open-same told told' j k [] h = refl
open-same told told' j k (x ∷ xs) h =
    (λ i. map (λ y. y.0) (if h.0 i then x ∷ filter (λ y. opens y.1 (spot_with told' k y.0)) xs else filter (λ y. opens y.1 (spot_with told' k y.0)) xs))
    ∙ by (opens x.1 (spot_with told j x.0)) (open-same told told' j k xs h.1)
  where
    by : (b : Bool) → open_branches (spot_with told' k) xs ≡ open_branches (spot_with told j) xs
        → map (λ y. y.0) (if b then x ∷ filter (λ y. opens y.1 (spot_with told' k y.0)) xs else filter (λ y. opens y.1 (spot_with told' k y.0)) xs)
        ≡ map (λ y. y.0) (if b then x ∷ filter (λ y. opens y.1 (spot_with told j y.0)) xs else filter (λ y. opens y.1 (spot_with told j y.0)) xs)
    by true e = (λ i. x.0 ∷ e i)
    by false e = e

-- LAW: a unit that is known has the same script behind each entry
pub script-more : (j : Journal) (x : Entry) (a : ℕ) → a < length (units j) → actions_of (units j) a ≡ actions_of (units (more j x)) a
script-more j x a lt = (λ i. option_map_or (λ (u : Automation). u.actions) (sym (unit-more j x a lt) i) [])

-- the fronts of a run stay where it makes no step
pub fronts-kept : (j : Journal) (x : Entry) (r r' : Record) (F : Fronts) → r.automation < length (units j) → SameScript r r' → spot_of r'.serial j x ≡ []
    → AreFronts (actions_of (units j) r.automation) r.env (spots j r.serial) F
    → AreFronts (actions_of (units (more j x)) r'.automation) r'.env (spots (more j x) r'.serial) F
fronts-kept j x r r' F known same none fronts =
    let places : spots j r.serial ≡ spots (more j x) r'.serial
    = (λ i. spots j (same.serial i)) ∙ sym (append-nil (spots j r'.serial)) ∙ (λ i. spots j r'.serial ++ sym none i) ∙ sym (spots-more j x r'.serial) in
    let script : actions_of (units j) r.automation ≡ actions_of (units (more j x)) r'.automation
    = script-more j x r.automation known ∙ (λ i. actions_of (units (more j x)) (same.automation i)) in
    let family : List Spot → Type 0 = λ ss. AreFronts (actions_of (units (more j x)) r'.automation) r'.env ss F in
    subst family places
    (subst (λ (env : Pairs). AreFronts (actions_of (units (more j x)) r'.automation) env (spots j r.serial) F) same.env
    (subst (λ actions. AreFronts actions r.env (spots j r.serial) F) script fronts))

-- LAW: where a run makes no step, neither begins nor ends, and none of its gates opens, its branches that may step stay
pub branches-stay : (told told' : CallEnds) (j : Journal) (x : Entry) (r r' : Record) (F : Fronts) → HasEntry j → IsPast (length j) r → r.automation < length (units j) → SameScript r r' → r.begin ≡ r'.begin → r.end ≡ r'.end
    → spot_of r'.serial j x ≡ [] → AreFronts (actions_of (units j) r.automation) r.env (spots j r.serial) F → FrontsStay told told' j (more j x) F
    → ready_with told' (more j x) r' ≡ ready_with told j r
branches-stay told told' j x r r' F h past known same begin end none fronts stay =
    let running : is_running (length (more j x)) r' ≡ is_running (length j) r
    = (λ i. is_running (length-more j x i) r')
    ∙ (λ i. option_map_or (λ b. nat_lt b (suc (length j))) (sym begin i) false && option_map_or (λ e. nat_le (suc (length j)) e.0) (sym end i) true)
    ∙ running-stays (length j) r past in
    by (is_running (length j) r) running refl
  where
    by : (c : Bool) → is_running (length (more j x)) r' ≡ c → is_running (length j) r ≡ c → ready_with told' (more j x) r' ≡ ready_with told j r
    by true on' on =
        front-branches told' (more j x) r' F on' (fronts-kept j x r r' F known same none fronts)
        ∙ open-same told told' j (more j x) F stay
        ∙ sym (front-branches told j r F on fronts)
    by false off' off = resting-with told' (more j x) r' off' ∙ sym (resting-with told j r off)
