-- A journal that is the boot alone runs, no worker has an entry in it, and it is not full.
use Rattle.std.proofs.Common.{◌≡◌, ◌∙◌, ◌⊎◌, inl, inr, ap, refl, sym, subst, ℕ, [], ◌∷◌, arith}
use Rattle.std.specs.Prelude.{Some}
use Rattle.ha_journal.specs.declared.entry.Entry.{Entry}
use Rattle.ha_journal.specs.declared.entry.Entry.TheVariants.{Boot, Line, Step, Again}
use Rattle.ha_journal.specs.Journal.{Journal}
use Rattle.ha_whole.specs.Whole.{CannotRestart, IsFull, Right, Running}
use Rattle.ha_model.specs.Records.{Records}
use Rattle.bus_turn.specs.declared.fault.BusFault.{BusFault}
use Rattle.bus_turn.specs.Shown.{BusView}
use Rattle.bus_turn.specs.Buses.{IsBus, Stands}
use Rattle.bus_pass.specs.Journal.{placed}

running : (boot : Entry) (rs : Records) → Right (boot ∷ []) rs → Running (boot ∷ []) rs
running (Boot text config stored start zone carry) rs right = record { lawful = record { right = right; turns = (tt, tt); closed = (tt, tt) }; is_open = (tt, tt) }
running (Again number start stored carry) rs right = absurd right.journal.entries.0
running (Line source number cmd) rs right = absurd right.journal.entries.0
running (Step worker serial branch item) rs right = absurd right.journal.entries.0

alone : (boot : Entry) (rs : Records) → Right (boot ∷ []) rs → (k : ℕ) → placed k 0 (boot ∷ []) ≡ []
alone (Boot text config stored start zone carry) rs right k = refl
alone (Again number start stored carry) rs right k = absurd right.journal.entries.0
alone (Line source number cmd) rs right k = absurd right.journal.entries.0
alone (Step worker serial branch item) rs right k = absurd right.journal.entries.0

no-full : (boot : Entry) (rs : Records) → Right (boot ∷ []) rs → IsFull (boot ∷ []) ⊎ CannotRestart (boot ∷ []) → ⊥
no-full (Boot text config stored start zone carry) rs right (inl (inl h)) = omega (arith, h)
no-full (Boot text config stored start zone carry) rs right (inl (inr h)) = omega (arith, h)
no-full (Boot text config stored start zone carry) rs right (inr (inl h)) = omega (arith, h)
no-full (Boot text config stored start zone carry) rs right (inr (inr h)) = omega (arith, h)
no-full (Again number start stored carry) rs right h = absurd right.journal.entries.0
no-full (Line source number cmd) rs right h = absurd right.journal.entries.0
no-full (Step worker serial branch item) rs right h = absurd right.journal.entries.0

module _ (b : BusView) (bus : IsBus b) (boot : Entry) (is : b.journal ≡ boot ∷ []) where
  right-boot : Right (boot ∷ []) b.records
  right-boot = subst (λ (j : Journal). Right j b.records) is bus.right

  pub boot-runs : Running b.journal b.records
  boot-runs = subst (λ (j : Journal). Running j b.records) (sym is) (running boot b.records right-boot)

  pub boot-alone : (k : ℕ) → placed k 0 b.journal ≡ []
  boot-alone k = ap (λ (j : Journal). placed k 0 j) is ∙ alone boot b.records right-boot k

  pub boot-room : b.first ≡ Some BusFault.Full → ⊥
  boot-room full =
      let stands : Stands b (Some BusFault.Full) = subst (Stands b) full bus.stands in
      no-full boot b.records right-boot (subst (λ (j : Journal). IsFull j ⊎ CannotRestart j) is stands.1)
