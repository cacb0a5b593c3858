-- What a step of a right journal changes are helpers.
use Rattle.std.proofs.Common.{◌≡◌, ℕ, true, List, [], ◌∷◌, ◌++◌, length, map, refl, sym, ap, ◌∙◌, arith}
use Rattle.std.proofs.lemmas.List.{take_all}
use Rattle.std.specs.Prelude.{Option, Some, None, option_and_then}
use Rattle.std.specs.List.{list_all}
use Rattle.ha_config.specs.declared.helper.Helper.{Helper}
use Rattle.ha_config.specs.Helpers.{is_helper}
use Rattle.ha_config.specs.Words.{last_of}
use Rattle.ha_config.proofs.ListLemmas.{none-some}
use Rattle.ha_sight.specs.declared.item.Item.{Item}
use Rattle.ha_sight.specs.Items.{changes_by}
use Rattle.ha_sight.specs.Known.{Known}
use Rattle.ha_sight.specs.Scripts.{Branch, Outcome, Spot, is_open}
use Rattle.ha_journal.specs.declared.entry.Entry.{Entry}
use Rattle.ha_journal.specs.declared.entry.Entry.TheVariants.{Step}
use Rattle.ha_journal.specs.Helpers.{known, last_change}
use Rattle.ha_journal.specs.Journal.{HasEntry, Journal, helpers, more, units}
use Rattle.ha_journal.proofs.MoreLemmas.{helpers-more}
use Rattle.ha_model.specs.declared.record.Record.{Record}
use Rattle.ha_model.specs.Lawful.{IsRightEntry}
use Rattle.ha_model.specs.Records.{Records, actions_of, next_spot, ran, spots}
use Rattle.ha_model.proofs.StepLaws.{ran-step}
use Rattle.script_laws.proofs.ByScript.{script-stands, script-used}
use Rattle.script_laws.proofs.MadeLemmas.{made-seen}
use Rattle.script_laws.proofs.StandLemmas.{last-stands}
use Rattle.trig_set.specs.Next.{changes_helpers}

known-bare : (j : Journal) (hs : List Helper) → map (λ (k : Known). k.helper) (map {A = Helper} {B = Known} (λ h. record { helper = h; last = last_change j h.entity }) hs) ≡ hs
known-bare j [] = refl
known-bare j (h ∷ hs) = ap (λ l. h ∷ l) (known-bare j hs)

-- the helpers that the next place sees
next-sees : (j : Journal) (b : Branch) → map (λ (k : Known). k.helper) (next_spot j b).sight.helpers ≡ helpers j
next-sees j b = (λ i. map (λ (k : Known). k.helper) (known (take_all (length j) j (omega arith) i))) ∙ known-bare j (helpers j)

module _ (j : Journal) (worker serial : ℕ) (b : Branch) (item : Item) (some : HasEntry j) where
  abbrev x : Entry
  x = Step worker serial b item

  by-outcome : (r : Record) → r.serial ≡ serial → (o : Option Outcome) → ran (more j x) r ≡ o → option_and_then (λ z. last_of z.items) o ≡ Some item → changes_helpers j x ≡ true
  by-outcome r own None f e = absurd (none-some item e)
  by-outcome r own (Some o) f e =
      let ps : List Spot = spots j r.serial ++ (next_spot j b ∷ []) in
      let given = sym (ran-step j worker serial b item r some own) ∙ f in
      (λ i. list_all (λ c. is_helper ((sym (helpers-more j x some) ∙ sym (next-sees j b)) i) c.entity) (changes_by item))
      ∙ made-seen (next_spot j b).sight (changes_by item)
      (last-stands (is_open o.status) (spots j r.serial) (next_spot j b) o.items item (script-used (actions_of (units j) r.automation) r.env ps o given)
      (script-stands (actions_of (units j) r.automation) r.env ps o given) e).helps

  -- LAW: each change of a right step is of a helper
  pub step-helps : (rs : Records) → IsRightEntry rs j x → changes_helpers j x ≡ true
  step-helps rs right = by-outcome right.0 right.2 (ran (more j x) right.0) refl right.3.item_is
