-- The line of a step that calls, by the record after it.
use Rattle.std.proofs.Common.{◌≡◌, ◌∙◌, ap, refl, sym, subst, ℕ, suc, List, []}
use Rattle.std.specs.Prelude.{Option, Some, None, is_some, option_and_then, option_map}
use Rattle.std.specs.Option.{option_map_or}
use Rattle.ha_journal.specs.declared.entry.Entry.{Entry}
use Rattle.ha_journal.specs.declared.entry.Entry.TheVariants.{Boot, Line, Step, Again}
use Rattle.ha_sight.specs.declared.item.Item.{Item}
use Rattle.ha_model.specs.declared.record.Record.{Record}
use Rattle.ha_config.specs.Words.{Text}
use Rattle.ha_sight.specs.Items.{Called, call_in}
use Rattle.ha_journal.specs.Journal.{Journal, more}
use Rattle.ha_model.specs.Lawful.{record_of}
use Rattle.ha_model.specs.Records.{Records, calls_of}
use Rattle.ha_config.specs.Names.{name_in}
use Rattle.ha_journal.specs.EntryText.{call_line}
use Rattle.ha_model.specs.Texts.{call_of_step}
use Rattle.ha_whole.specs.Trace.{call_text_of, names}
use Rattle.ha_whole.specs.Whole.{Right}
use Rattle.whole_laws.proofs.CallLemmas.{call-counted}
use Rattle.whole_laws.proofs.TextLemmas.{names-stepped}
use Rattle.bus_turn.specs.Lines.{called_line, text_in}

module _ (before : Journal) (worker serial : ℕ) (branch : List ℕ) (item : Item) (rs : Records) (right : Right (more before (Step worker serial branch item)) rs) where
  abbrev here : Entry
  here = Step worker serial branch item

  module _ (all : List Text) (is : all ≡ names (more before here)) where
    by_record : (call : Called) → call_in item ≡ Some call → (o : Option Record) → record_of rs serial ≡ o
        → text_in (option_and_then (λ r. option_map (call_line (name_in all r.automation) r.number r.calls) (Some call)) o)
        ≡ option_map_or (λ r. call_line (name_in (names before) r.automation) r.number (suc (calls_of before serial)) call) o []
    by_record call made None found = refl
    by_record call made (Some r) found =
        let counted : r.calls ≡ suc (calls_of before serial) = call-counted before worker serial branch item rs right r found (ap is_some made) in
        let told : all ≡ names before = is ∙ sym (names-stepped before worker serial branch item) in
        let name : name_in all r.automation ≡ name_in (names before) r.automation = (λ i. name_in (told i) r.automation) in
        λ i. call_line (name i) r.number (counted i) call

    no-call : (o : Option Record) → text_in (option_and_then (λ r. option_map (call_line (name_in all r.automation) r.number r.calls) None) o) ≡ []
    no-call None = refl
    no-call (Some r) = refl

    step-line : text_in (called_line all rs here) ≡ call_text_of rs before here
    step-line = by (call_in item) refl
      where
        by : (o : Option Called) → call_in item ≡ o
            → text_in (option_and_then (λ r. option_map (call_line (name_in all r.automation) r.number r.calls) o) (record_of rs serial))
            ≡ option_map_or (call_of_step (names before) rs before (record { worker = worker; serial = serial; branch = branch; item = item })) o []
        by None made = no-call (record_of rs serial)
        by (Some call) made = by_record call made (record_of rs serial) refl

pub called-is : (before : Journal) (x : Entry) (rs : Records) (all : List Text) → Right (more before x) rs → all ≡ names (more before x)
    → text_in (called_line all rs x) ≡ call_text_of rs before x
called-is before (Boot text config stored start zone carry) rs all right is = refl
called-is before (Again number start stored carry) rs all right is = refl
called-is before (Line source number cmd) rs all right is = refl
called-is before (Step worker serial branch item) rs all right is = step-line before worker serial branch item rs right all is

-- the same by the names that the code has
pub called-here : (k before : Journal) (x : Entry) (rs rs' : Records) (all : List Text) → Right k rs → k ≡ more before x → rs' ≡ rs → all ≡ names k
    → (text : Text) → text ≡ text_in (called_line all rs' x) → text ≡ call_text_of rs before x
called-here k before x rs rs' all right is same all-is text e =
    e ∙ (λ i. text_in (called_line all (same i) x))
    ∙ called-is before x rs all (subst (λ j. Right j rs) is right) (all-is ∙ ap names is)
