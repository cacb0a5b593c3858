-- A journal that is one Boot: its attempts, its records, and what stands for it.
use Rattle.std.proofs.Common.{◌≡◌, ℕ, ◌-◌, [], ◌∷◌, length, refl, sym, subst}
use Rattle.std.specs.Prelude.{Option}
use Rattle.ha_config.specs.declared.config.Config.{Config}
use Rattle.ha_config.specs.Units.{units_of}
use Rattle.ha_config.specs.Words.{Text, up_to}
use Rattle.ha_journal.specs.declared.carry.Carry.{Carry}
use Rattle.ha_journal.specs.declared.entry.Entry.TheVariants.{Boot, Line, Step, Again}
use Rattle.ha_journal.specs.Attempts.{attempts, fired, passing}
use Rattle.ha_journal.specs.Force.{force, opened}
use Rattle.ha_journal.specs.Journal.{Journal, HasEntry, configured, last_place}
use Rattle.ha_model.specs.Records.{Records, records_of}
use Rattle.ha_model.specs.Lawful.{Right}
use Rattle.run_modes.specs.Calls.{all_tried}
use Rattle.run_laws.proofs.EntryLaws.{by-first-calls}
use Rattle.ha_ready.specs.RestedFlags.{RestedKept}
use Rattle.store_text.specs.Store.{Switches}
use Rattle.ha_sight.specs.Sight.{Automations}
use Rattle.segment_view.specs.Views.{HasBoot, seen_at}
use Rattle.engine_parts.specs.Numbers.{numbers_in}
use Rattle.engine_parts.specs.Records.{IsTable}
use Rattle.ha_engine.specs.Begun.{Begun, IsBegun, trues}
use Rattle.ha_engine.proofs.BeginLemmas.{boot-rested, boot-right, boot-table, boot-up-to}

-- what is so of each Boot alone
pub each-begun : (P : Journal → Type 0) → ((text : Text) (config : Config) (stored : Option Switches) (start : ℕ) (zone : Text) (carry : Carry) → P (Boot text config stored start zone carry ∷ [])) → (k : Journal) → IsBegun k → P k
each-begun P f [] h = absurd h
each-begun P f (Boot text config stored start zone carry ∷ []) h = f text config stored start zone carry
each-begun P f (Line source number cmd ∷ []) h = absurd h
each-begun P f (Step worker serial branch item ∷ []) h = absurd h
each-begun P f (Again number start stored carry ∷ []) h = absurd h
each-begun P f (e ∷ x ∷ es) h = absurd h

pub begun-is : (k : Journal) (s : Automations) (zone : Text) (at : ℕ) → Begun k s zone at → IsBegun k
begun-is k s zone at h = subst IsBegun (sym h.journal_is) tt

pub begun-some : (k : Journal) → IsBegun k → HasEntry k
begun-some = each-begun HasEntry (λ text config stored start zone carry. tt)

pub begun-length : (k : Journal) → IsBegun k → length k ≡ 1
begun-length k h = each-begun (λ i. length i ≡ 1) (λ text config stored start zone carry. refl) k h

-- LAW: its units have the first numbers
pub begun-numbers : (k : Journal) → IsBegun k → numbers_in k ≡ up_to (length (units_of (configured k)))
begun-numbers k h = each-begun (λ i. numbers_in i ≡ up_to (length (units_of (configured i)))) boot-up-to k h

-- LAW: what is in force is what its configuration opens
pub begun-force : (k : Journal) → IsBegun k → opened (configured k) ≡ force k
begun-force k h = each-begun (λ i. opened (configured i) ≡ force i) (λ text config stored start zone carry. refl) k h

-- LAW: its attempts are by its triggers
pub begun-attempts : (k : Journal) → IsBegun k → attempts k (last_place k) ≡ fired k (last_place k)
begun-attempts k h = each-begun (λ i. attempts i (last_place i) ≡ fired i (last_place i)) (λ text config stored start zone carry. refl) k h

-- LAW: its records are its attempts'
pub begun-records : (k : Journal) → IsBegun k → all_tried k [] (passing k) ≡ records_of k
begun-records k h = each-begun (λ i. all_tried i [] (passing i) ≡ records_of i) (λ text config stored start zone carry. by-first-calls (Boot text config stored start zone carry) tt) k h

pub begun-right : (k : Journal) → IsBegun k → Right k (records_of k)
begun-right k h = each-begun (λ i. Right i (records_of i)) boot-right k h

pub begun-table : (k : Journal) → IsBegun k → IsTable k []
begun-table k h = each-begun (λ i. IsTable i []) boot-table k h

pub begun-rested : (rs : Records) (k : Journal) → IsBegun k → RestedKept k rs (trues 16)
begun-rested rs k h = each-begun (λ i. RestedKept i rs (trues 16)) (λ text config stored start zone carry. boot-rested text config stored start zone carry rs) k h

-- LAW: the list of all entries, where it is the boot alone, is its one segment
pub begun-boot : (k : Journal) → IsBegun k → HasBoot k
begun-boot k h = each-begun HasBoot (λ text config stored start zone carry. tt) k h

pub begun-seen : (k : Journal) → IsBegun k → seen_at k 0 0 ≡ k
begun-seen k h = each-begun (λ i. seen_at i 0 0 ≡ i) (λ text config stored start zone carry. refl) k h
