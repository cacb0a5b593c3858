-- What an opening makes of spots and owners.
use Rattle.std.proofs.Common.{◌≡◌, ℕ, List, [], ◌∷◌, map, Bool, true, false, refl, sym, ◌∙◌, arith, rules}
use Rattle.std.specs.Prelude.{Option, Some, None, codes, is_none, is_some, nat_lt, option_and_then, ◌&&◌, if◌then◌else◌}
use Rattle.ha_value.specs.declared.value.EntityId.{EntityId}
use Rattle.ha_value.specs.declared.value.Value.{Value}
use Rattle.ha_value.specs.declared.value.Value.TheVariants.{Pairs as Map}
use Rattle.ha_config.specs.declared.config.Trigger.{Trigger}
use Rattle.ha_journal.specs.declared.entry.Entry.{Entry}
use Rattle.ha_journal.specs.declared.entry.Entry.TheVariants.{Boot, Line, Step, Again}
use Rattle.ha_journal.specs.Entries.{IsBoot, is_boot, is_moment, opens_segment}
use Rattle.ha_journal.specs.Moves.{moves, sight}
use Rattle.ha_sight.specs.Rules.{head_pairs, starts}
use Rattle.ha_past.specs.Looks.{Holding, arrived, holding_of, or_else, standing, stays_watched}
use Rattle.ha_past.proofs.EntryLaws.{standing-fresh}
use Rattle.trig_set.specs.declared.spot.Spot.{Spot}
use Rattle.trig_set.specs.Kept.{Keeps, Moved, is_true, ripened, ripened_if}
use Rattle.trig_set.proofs.MovedLemmas.{moves-boot}

pub boot-opens : (x : Entry) → IsBoot x → opens_segment x ≡ true
boot-opens (Boot text config stored start zone carry) h = refl
boot-opens (Line source number cmd) h = absurd h
boot-opens (Step worker serial branch item) h = absurd h
boot-opens (Again number start stored carry) h = absurd h

boots : (x : Entry) → IsBoot x → is_boot x ≡ true
boots (Boot text config stored start zone carry) h = refl
boots (Line source number cmd) h = absurd h
boots (Step worker serial branch item) h = absurd h
boots (Again number start stored carry) h = absurd h

boot-no-moment : (x : Entry) → IsBoot x → is_moment x ≡ false
boot-no-moment (Boot text config stored start zone carry) h = refl
boot-no-moment (Line source number cmd) h = absurd h
boot-no-moment (Step worker serial branch item) h = absurd h
boot-no-moment (Again number start stored carry) h = absurd h

-- no hold is over there
pub none-ripe : (x : Entry) → IsBoot x → (to : ℕ) (spots : List Spot) → ripened_if x to spots ≡ spots
none-ripe x h to spots = (λ i. if boot-no-moment x h i then map (ripened to) spots else spots)

-- and none begins
none-arrives : (x : Entry) (t : Trigger) (e : Option EntityId) (since : ℕ) → arrived [] x t e since ≡ None
none-arrives x t e since = by t.hold
  where
    fresh : standing [] t e since ≡ None
    fresh = standing-fresh [] t e since (omega arith)

    no-lt : nat_lt since 0 ≡ false
    no-lt = search rules

    neither : (b : Bool) → ◌≡◌ {A = Option Holding} (or_else (if b then None else None) None) None
    neither true = refl
    neither false = refl

    by : (o : Option ℕ) → option_and_then (λ d. or_else (if stays_watched [] x t e since then standing [] t e since else None) (if nat_lt since 0 && moves (x ∷ []) t e 0 then Some (holding_of (x ∷ []) t e d 0) else None)) o ≡ None
    by None = refl
    by (Some d) =
        (λ i. or_else (if stays_watched [] x t e since then fresh i else None) (if no-lt i && moves (x ∷ []) t e 0 then Some (holding_of (x ∷ []) t e d 0) else None))
        ∙ neither (stays_watched [] x t e since)

-- LAW: what an opening makes of a spot
pub spot-opens : (x : Entry) → IsBoot x → (t : Trigger) (since : ℕ) (is : Bool) (old : Spot) (given : Option Value)
    → given ≡ (if is_some t.hold then None else if starts t.rule && is_none old.entity then Some (Map (head_pairs (codes "homeassistant") t)) else None)
    → is ≡ is_true (sight (x ∷ []) 1) t.rule → Keeps [] t since old → Moved [] x t since (record old { fired = given; was = is })
spot-opens x h t since is old given e true-now keeps = record {
  hold = keeps.hold ∙ standing-fresh [] t old.entity since (omega arith) ∙ sym (none-arrives x t old.entity since);
  was = true-now;
  fired = e ∙ (λ i. if is_some t.hold then None else sym (moves-boot [] x t old.entity since (boots x h)) i);
}
