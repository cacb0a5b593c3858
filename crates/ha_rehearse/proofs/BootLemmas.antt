-- A rehearsal from its boot on.
use Rattle.std.proofs.Common.{◌≡◌, ◌∙◌, ℕ, ap, refl, sym, subst, ◌∷◌, []}
use Rattle.std.specs.Prelude.{Ok, true}
use Rattle.ha_config.specs.declared.config.Config.{Config}
use Rattle.ha_whole.specs.declared.faults.CoreFault.{CoreFault}
use Rattle.ha_journal.specs.declared.entry.Entry.{Entry}
use Rattle.ha_journal.specs.Journal.{Journal}
use Rattle.ha_whole.specs.Whole.{Right, is_rested}
use Rattle.ha_model.specs.Records.{Records}
use Rattle.rehearsal.specs.Generated.{config_text}
use Rattle.conf_auto.specs.Config.{config_of}
use Rattle.ha_rehearse.specs.Puts.{Failed, On}
use Rattle.ha_rehearse.specs.Rehearsed.{RehearsedFull, boot_of}
use Rattle.ha_rehearse.proofs.EntryLemmas.{boot_alone, boot_number, boot_open, boot_puts, boot_rested, boot_runs}

-- a boot alone
abbrev pub Booted : Journal → Type 0
Booted j = (config : Config) × (config_of config_text ≡ Ok config) × (j ≡ boot_of config ∷ [])

pub boot_on : (j : Journal) (rs : Records) (boot : Entry) → j ≡ boot ∷ [] → Right j rs → On boot 0 j rs
boot_on j rs boot e right =
    let first : Right (boot ∷ []) rs = subst (λ (k : Journal). Right k rs) e right in
    subst (λ (k : Journal). On boot 0 k rs) (sym e) (record {
      running = boot_runs rs boot first;
      put = record { later = []; begins = refl; alone = boot_alone rs boot first; puts = boot_puts rs boot first; number = boot_number rs boot first; unshut = boot_open rs boot first };
    })

pub boot_rests : (j : Journal) (rs : Records) (boot : Entry) → j ≡ boot ∷ [] → Right j rs → is_rested rs 0 j ≡ true
boot_rests j rs boot e right = ap (is_rested rs 0) e ∙ boot_rested rs boot (subst (λ (k : Journal). Right k rs) e right)

-- where the journal got full
pub rehearsed_full : (most : ℕ) (config : Config) (fault : CoreFault) (j : Journal) (rs : Records) → config_of config_text ≡ Ok config → fault ≡ CoreFault.Full → Failed (boot_of config) most fault j rs → RehearsedFull most
rehearsed_full most config fault j rs reads full f =
    record { journal = j; records = rs; n = f.n; within = f.within; rehearses = record { config = config; reads = reads; closing = f.closing }; full = f.due full }
