-- The calls' text where records grow: it tells of a run only its automation and its number.
use Rattle.std.proofs.Common.{◌≡◌, ℕ, zero, suc, ◌-◌, List, [], ◌∷◌, ◌++◌, set, refl, sym, ap, ◌∙◌, Option}
use Rattle.std.specs.Prelude.{Some, None, slice_get}
use Rattle.std.specs.Option.{option_map_or}
use Rattle.ha_journal.specs.declared.entry.Entry.{Entry}
use Rattle.ha_journal.specs.declared.entry.Entry.TheVariants.{Boot, Line, Step, Again}
use Rattle.ha_model.specs.declared.record.Record.{Record}
use Rattle.ha_config.specs.Words.{Text, EachAfter}
use Rattle.ha_sight.specs.Items.{Called, call_in}
use Rattle.ha_journal.specs.Entries.{Stepped}
use Rattle.ha_journal.specs.Journal.{Journal, names}
use Rattle.ha_config.specs.Names.{name_in}
use Rattle.ha_model.specs.Records.{Records, calls_of}
use Rattle.ha_model.specs.Lawful.{IsRightEntry, Right}
use Rattle.ha_laws.specs.OneRun.{SameNumbers}
use Rattle.ha_journal.specs.EntryText.{call_line, texts_after}
use Rattle.ha_model.specs.Texts.{call_of_step, call_text_of, call_text}
use Rattle.ha_config.proofs.ListLemmas.{none-some, some-same}

pub numbers-append : (rs more : Records) → SameNumbers rs (rs ++ more)
numbers-append [] more = tt
numbers-append (r ∷ rs) more = (refl, refl, numbers-append rs more)

pub numbers-same : (rs : Records) → SameNumbers rs rs
numbers-same [] = tt
numbers-same (r ∷ rs) = (refl, refl, numbers-same rs)

pub numbers-set : (rs : Records) (i : ℕ) (r r' : Record) → slice_get rs i ≡ Some r → r.automation ≡ r'.automation → r.number ≡ r'.number → SameNumbers rs (set rs i r')
numbers-set [] i r r' e a n = tt
numbers-set (y ∷ ys) zero r r' e a n = (ap (λ z. z.automation) (some-same y r e) ∙ a, ap (λ z. z.number) (some-same y r e) ∙ n, numbers-same ys)
numbers-set (y ∷ ys) (suc i) r r' e a n = (refl, refl, numbers-set ys i r r' e a n)

get-same : (rs rs' : Records) (i : ℕ) (r : Record) → SameNumbers rs rs' → slice_get rs i ≡ Some r → (r' : Record) × (slice_get rs' i ≡ Some r') × (r.automation ≡ r'.automation) × (r.number ≡ r'.number)
get-same [] rs' i r s e = absurd (none-some r e)
get-same (y ∷ ys) [] i r s e = absurd s
get-same (y ∷ ys) (z ∷ zs) zero r s e = (z, refl, sym (ap (λ o. o.automation) (some-same y r e)) ∙ s.0, sym (ap (λ o. o.number) (some-same y r e)) ∙ s.1)
get-same (y ∷ ys) (z ∷ zs) (suc i) r s e = get-same ys zs i r s.2 e

line_for : List Text → Journal → Stepped → Called → ℕ → ℕ → Text
line_for all before s call a n = call_line (name_in all a) n (suc (calls_of before s.serial)) call

text_for : List Text → Journal → Stepped → Called → Option Record → Text
text_for all before s call o = option_map_or (λ r. call_line (name_in all r.automation) r.number (suc (calls_of before s.serial)) call) o []

pub step-same : (all : List Text) (before : Journal) (s : Stepped) (call : Called) (rs rs' : Records) (r : Record) → SameNumbers rs rs' → slice_get rs (s.serial - 1) ≡ Some r
    → call_of_step all rs before s call ≡ call_of_step all rs' before s call
unfolding line_for text_for
step-same all before s call rs rs' r same e =
    let found = get-same rs rs' (s.serial - 1) r same e in
    ap (text_for all before s call) e
    ∙ (λ i. line_for all before s call (found.2 i) (found.3 i))
    ∙ ap (text_for all before s call) (sym found.1)

module _ (rs rs' : Records) (same : SameNumbers rs rs') where
  text-same : (before : Journal) (x : Entry) → IsRightEntry rs before x → call_text_of rs before x ≡ call_text_of rs' before x
  text-same before (Boot text config stored start zone carry) h = refl
  text-same before (Again number start stored carry) h = refl
  text-same before (Line source number cmd) h = refl
  text-same before (Step worker serial branch item) h = by (call_in item)
    where
      stepped : Stepped
      stepped = record { worker = worker; serial = serial; branch = branch; item = item }

      by : (o : Option Called) → option_map_or (call_of_step (names before) rs before (record { worker = worker; serial = serial; branch = branch; item = item })) o []
          ≡ option_map_or (call_of_step (names before) rs' before (record { worker = worker; serial = serial; branch = branch; item = item })) o []
      by None = refl
      by (Some call) = step-same (names before) before (record { worker = worker; serial = serial; branch = branch; item = item }) call rs rs' h.0 same h.1

  texts-same : (before xs : Journal) → EachAfter (IsRightEntry rs) before xs → texts_after (call_text_of rs) before xs ≡ texts_after (call_text_of rs') before xs
  texts-same before [] h = refl
  texts-same before (x ∷ xs) h = (λ i. text-same before x h.0 i ++ texts-same (before ++ (x ∷ [])) xs h.1 i)

-- LAW: the calls' text of a right journal is the same by records that have grown
pub calls-same : (j : Journal) (rs rs' : Records) → Right j rs → SameNumbers rs rs' → call_text j rs ≡ call_text j rs'
calls-same j rs rs' right same = texts-same rs rs' same [] j right.entries
