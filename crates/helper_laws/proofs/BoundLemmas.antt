-- A counter has a number within its bounds after each entry.
use Rattle.std.proofs.Common.{◌≡◌, ℕ, zero, suc, Bool, true, false, ℤ, List, [], ◌∷◌, ◌++◌, length, map, take, refl, sym, ap, subst, ◌∙◌, arith, append_assoc, append-nil}
use Rattle.std.specs.Prelude.{Option, Some, None, ◌+ℤ◌, ◌-ℤ◌, pos, ◌&&◌, int_le, int_lt, nat_le, IsTrue, is_some, find, option_map, option_and_then, codes, if◌then◌else◌}
use Rattle.std.specs.List.{list_all}
use Rattle.std.specs.Option.{option_map_or}
use Rattle.std.proofs.lemmas.Int.{ints}
use Rattle.std.proofs.lemmas.List.{take_all}
use Rattle.ha_value.specs.declared.value.EntityId.{EntityId}
use Rattle.ha_value.specs.Ids.{entity_text, is_entity}
use Rattle.ha_config.specs.declared.helper.Helper.{Helper}
use Rattle.ha_config.specs.declared.helper.HelperKind.{HelperKind}
use Rattle.ha_config.specs.Helpers.{Counter, counter_in, first_text, flag_in, helper_named, span_in}
use Rattle.ha_config.specs.Sound.{are_sound_helpers, is_sound_helper, is_sound_kind, is_whole_in_range}
use Rattle.ha_config.specs.ValueFacts.{all_distinct}
use Rattle.ha_config.specs.Words.{EachAfter, Text, same, same_entity}
use Rattle.ha_config.proofs.EqualLemmas.{and_left, and_right, entity-sound}
use Rattle.ha_config.proofs.ListLemmas.{none-some, some-same, true-false}
use Rattle.ha_sight.specs.declared.helped.HelperChange.{HelperChange}
use Rattle.ha_sight.specs.declared.helped.HelperService.{HelperService}
use Rattle.ha_sight.specs.declared.helped.Wanted.{Wanted}
use Rattle.ha_sight.specs.Known.{Known}
use Rattle.ha_sight.specs.Services.{begun, change_by, counted, fits, held, is_for, is_within, number_in, text_seen}
use Rattle.ha_sight.specs.Sight.{Sight}
use Rattle.ha_journal.specs.declared.entry.Entry.{Entry}
use Rattle.ha_journal.specs.declared.entry.Entry.TheVariants.{Boot, Line, Step, Again}
use Rattle.ha_journal.specs.Entries.{IsBoot, change_of, changes_in}
use Rattle.ha_journal.specs.Helpers.{comes, due_in, finishes, known, last_change, text_of}
use Rattle.ha_journal.specs.HelperSteps.{due_with, text_with}
use Rattle.ha_journal.specs.Journal.{HasEntry, IsJournal, Journal, helpers, more, now}
use Rattle.ha_journal.specs.Moves.{sight}
use Rattle.ha_journal.proofs.HelperLaws.{due-more, text-more}
use Rattle.ha_journal.proofs.MoreLemmas.{helpers-more}
use Rattle.ha_model.specs.Lawful.{Right}
use Rattle.ha_model.specs.Records.{Records}
use Rattle.script_laws.specs.Made.{AreMade, IsMade}
use Rattle.script_laws.proofs.MadeLemmas.{named-known}
use Rattle.helper_laws.specs.Bounds.{IsCount}
use Rattle.helper_laws.specs.Starts.{is_start}
use Rattle.helper_laws.proofs.MadeChanges.{ChangesMade, changes-made, more-has}
use Rattle.helper_laws.proofs.StartLemmas.{no-start, not-finishes}

-- ---- numbers

least-own : (z : ℤ) → true ≡ int_le z z
least-own z = search (arith, ints)

not-less : (a b : ℤ) → int_lt a b ≡ false → true ≡ int_le b a
not-less a b e = search (arith, ints, e)

le-chain : (a b c : ℤ) → int_le a b ≡ true → int_le b c ≡ true → true ≡ int_le a c
le-chain a b c p q = search (arith, ints, p, q)

both : (a b : Bool) → a ≡ true → b ≡ true → (a && b) ≡ true
both a b p q = (λ i. p i && q i)

module _ (c : Counter) (apt : is_within c c.initial ≡ true) where
  ordered : int_le c.least c.greatest ≡ true
  ordered = sym (le-chain c.least c.initial c.greatest (and_left (int_le c.least c.initial) (int_le c.initial c.greatest) apt) (and_right (int_le c.least c.initial) (int_le c.initial c.greatest) apt))

  -- what is held within the bounds is within
  held-within : (z : ℤ) → is_within c (held c.least c.greatest z) ≡ true
  held-within z = by (int_lt z c.least) refl (int_lt c.greatest z) refl
    where
      by : (a : Bool) → int_lt z c.least ≡ a → (b : Bool) → int_lt c.greatest z ≡ b → is_within c (if a then c.least else if b then c.greatest else z) ≡ true
      by true below b e = both (int_le c.least c.least) (int_le c.least c.greatest) (sym (least-own c.least)) ordered
      by false above true e = both (int_le c.least c.greatest) (int_le c.greatest c.greatest) ordered (sym (least-own c.greatest))
      by false above false e = both (int_le c.least z) (int_le z c.greatest) (sym (not-less z c.least above)) (sym (not-less c.greatest z e))

-- ---- what services make of a counter

-- the change is one to a number within the bounds
record IsCounted (c : Counter) (h : Helper) (r : HelperChange) : Type 0 where
  number : ℤ
  is : r ≡ counted h number
  within : is_within c number ≡ true

mapped-counts : (c : Counter) (h : Helper) (o : Option ℤ) → ((z : ℤ) → o ≡ Some z → is_within c z ≡ true) → (r : HelperChange) → option_map (counted h) o ≡ Some r → IsCounted c h r
mapped-counts c h None f r e = absurd (none-some r e)
mapped-counts c h (Some z) f r e = record { number = z; is = sym (some-same (counted h z) r e); within = f z refl }

-- a counter is of no other kind
not-flag : (c : Counter) (kind : HelperKind) → counter_in kind ≡ Some c → is_some (flag_in kind) ≡ true → ⊥
not-flag c (HelperKind.Flag initial) is h = none-some c is
not-flag c (HelperKind.Counter initial step least greatest) is h = true-false (sym h)
not-flag c (HelperKind.Timer span) is h = none-some c is

not-timer : (c : Counter) (kind : HelperKind) → counter_in kind ≡ Some c → is_some (span_in kind) ≡ true → ⊥
not-timer c (HelperKind.Flag initial) is h = none-some c is
not-timer c (HelperKind.Counter initial step least greatest) is h = true-false (sym h)
not-timer c (HelperKind.Timer span) is h = none-some c is

module _ (c : Counter) (apt : is_within c c.initial ≡ true) (w : Wanted) (now' : ℕ) (text : Text) (k : Known) (is : counter_in k.helper.kind ≡ Some c) where
  -- a number that is held within the bounds
  held-counts : (f : Counter → ℤ) (r : HelperChange) → option_map (counted k.helper) (option_map (λ d. held d.least d.greatest (f d)) (counter_in k.helper.kind)) ≡ Some r → IsCounted c k.helper r
  held-counts f r e =
      mapped-counts c k.helper (option_map (λ d. held d.least d.greatest (f d)) (counter_in k.helper.kind))
      (λ z got. (let own = some-same (held c.least c.greatest (f c)) z (sym (ap (option_map (λ d. held d.least d.greatest (f d))) is) ∙ got) in
      subst (λ q. is_within c q ≡ true) own (held-within c apt (f c)))) r e

  service-counts : (s : HelperService) → is_for s k.helper.kind ≡ true → fits w k ≡ true → (r : HelperChange) → change_by s w now' text k ≡ Some r → IsCounted c k.helper r
  service-counts HelperService.TurnOn meant fit r e = absurd (not-flag c k.helper.kind is meant)
  service-counts HelperService.TurnOff meant fit r e = absurd (not-flag c k.helper.kind is meant)
  service-counts HelperService.Toggle meant fit r e = absurd (not-flag c k.helper.kind is meant)
  service-counts HelperService.Increment meant fit r e = held-counts (λ d. number_in text +ℤ d.step) r e
  service-counts HelperService.Decrement meant fit r e = held-counts (λ d. number_in text -ℤ d.step) r e
  service-counts HelperService.Reset meant fit r e =
      mapped-counts c k.helper (begun k.helper.kind)
      (λ z got. (let own = some-same c.initial z (sym (ap (option_map (λ (d : Counter). d.initial)) is) ∙ got) in subst (λ q. is_within c q ≡ true) own apt)) r e
  service-counts HelperService.SetValue meant fit r e =
      mapped-counts c k.helper w.value
      (λ z got. sym (ap (λ o. option_map_or (λ d. is_within d z) o true) is)
      ∙ sym (ap (λ o. option_map_or (λ y. option_map_or (λ d. is_within d y) (counter_in k.helper.kind) true) o true) got) ∙ fit) r e
  service-counts HelperService.Start meant fit r e = absurd (not-timer c k.helper.kind is meant)
  service-counts HelperService.Pause meant fit r e = absurd (not-timer c k.helper.kind is meant)
  service-counts HelperService.Cancel meant fit r e = absurd (not-timer c k.helper.kind is meant)
  service-counts HelperService.Finish meant fit r e = absurd (not-timer c k.helper.kind is meant)

-- ---- the helper of an id

named-own : (all : List Helper) (e : EntityId) (h : Helper) → helper_named all e ≡ Some h → h.entity ≡ e
named-own [] e h named = absurd (none-some h named)
named-own (x ∷ xs) e h named = by (same_entity x.entity e) refl named (named-own xs e h)
  where
    by : (b : Bool) → same_entity x.entity e ≡ b → (if b then Some x else helper_named xs e) ≡ Some h → (helper_named xs e ≡ Some h → h.entity ≡ e) → h.entity ≡ e
    by true own named later = subst (λ (y : Helper). y.entity ≡ e) (some-same x h named) (entity-sound x.entity e own)
    by false own named later = later named

known-bare : (j : Journal) (hs : List Helper) → map (λ (k : Known). k.helper) (map {A = Helper} {B = Known} (λ h. record { helper = h; last = last_change j h.entity }) hs) ≡ hs
known-bare j [] = refl
known-bare j (h ∷ hs) = ap (λ l. h ∷ l) (known-bare j hs)

-- the change of e is among those that are made
found-made : (s : Sight) (cs : List HelperChange) (e : EntityId) (r : HelperChange) → AreMade s cs → find (λ c. same_entity c.entity e) cs ≡ Some r → IsMade s r × (r.entity ≡ e)
found-made s [] e r made found = absurd (none-some r found)
found-made s (c ∷ cs) e r made found = by (same_entity c.entity e) refl found (found-made s cs e r made.1)
  where
    by : (b : Bool) → same_entity c.entity e ≡ b → (if b then Some c else find (λ x. same_entity x.entity e) cs) ≡ Some r
        → (find (λ x. same_entity x.entity e) cs ≡ Some r → IsMade s r × (r.entity ≡ e)) → IsMade s r × (r.entity ≡ e)
    by true own found later =
        let is = some-same c r found in
        (subst (IsMade s) is made.0, subst (λ (x : HelperChange). x.entity ≡ e) is (entity-sound c.entity e own))
    by false own found later = later found

-- ---- after each entry

no-span : (r : HelperChange) → r.span ≡ None → is_start r ≡ false
no-span r none = (λ i. same r.text (codes "active") && is_some (none i)) ∙ by (same r.text (codes "active"))
  where
    by : (b : Bool) → (b && false) ≡ false
    by true = refl
    by false = refl

module _ (c : Counter) (apt : is_within c c.initial ≡ true) (h : Helper) (counts : counter_in h.kind ≡ Some c) where
  -- it has no due, and a number within its bounds
  record Keeps (j : Journal) : Type 0 where
    due : due_in j h.entity ≡ None
    text : IsCount c (text_of j h)

  one-more : (j : Journal) (x : Entry) → Keeps j → ((r : HelperChange) → change_of h.entity x ≡ Some r → IsCounted c h r) → Keeps (more j x)
  one-more j x keeps each = by (change_of h.entity x) refl
    where
      before : Text
      before = if finishes j x h then codes "idle" else text_of j h

      by : (o : Option HelperChange) → change_of h.entity x ≡ o → Keeps (more j x)
      by None none =
          record {
            due = due-more j x h.entity ∙ ap (due_with j x h.entity) none
                ∙ ap (option_and_then (λ due. if comes due (now (more j x), x) then None else Some due)) keeps.due;
            text = subst (IsCount c)
                (sym (text-more j x h ∙ ap (λ o. text_with o before) none ∙ (λ i. if not-finishes j x h keeps.due i then codes "idle" else text_of j h))) keeps.text;
          }
      by (Some r) some =
          let z = each r some in
          record {
            due = due-more j x h.entity ∙ ap (due_with j x h.entity) some ∙ no-start r (now (more j x)) (no-span r (ap (λ (y : HelperChange). y.span) z.is));
            text = subst (IsCount c) (sym (text-more j x h ∙ ap (λ o. text_with o before) some))
                (record { number = z.number; is = ap (λ (y : HelperChange). y.text) z.is; within = z.within });
          }

  -- what is made behind a journal whose helper it is
  made-counts : (j : Journal) → helper_named (helpers j) h.entity ≡ Some h → (r : HelperChange) → IsMade (sight j (length j)) r → r.entity ≡ h.entity → IsCounted c h r
  made-counts j named r made own =
      let all = known (take (length j) j) in
      let bare : map (λ (k : Known). k.helper) all ≡ helpers j = (λ i. map (λ (k : Known). k.helper) (known (take_all (length j) j (omega arith) i))) ∙ known-bare j (helpers j) in
      let seen : helper_named (helpers j) h.entity ≡ Some made.seen.helper
      = (λ i. helper_named (sym bare i) (sym own i)) ∙ named-known all r.entity ∙ ap (option_map (λ (k : Known). k.helper)) made.is_seen in
      let one : made.seen.helper ≡ h = some-same made.seen.helper h (sym seen ∙ named) in
      subst (λ y. IsCounted c y r) one
      (service-counts c apt made.want (sight j (length j)).now (text_seen (sight j (length j)) made.seen) made.seen (ap (λ (y : Helper). counter_in y.kind) one ∙ counts)
      made.service made.is_meant made.is_fit r made.is_it)

  entry-keeps : (j : Journal) (x : Entry) → helper_named (helpers j) h.entity ≡ Some h → ChangesMade j x → Keeps j → Keeps (more j x)
  entry-keeps j x named made keeps =
      one-more j x keeps (λ r found. (let m = found-made (sight j (length j)) (changes_in x) h.entity r made found in made-counts j named r m.0 m.1))

  keeps-behind : (j xs : Journal) → HasEntry j → helper_named (helpers j) h.entity ≡ Some h → Keeps j → EachAfter ChangesMade j xs → (n : ℕ) → Keeps (j ++ take n xs)
  keeps-behind j xs some named keeps made zero = subst Keeps (sym (append-nil j)) keeps
  keeps-behind j [] some named keeps made (suc n) = subst Keeps (sym (append-nil j)) keeps
  keeps-behind j (x ∷ xs) some named keeps made (suc n) =
      subst Keeps (append_assoc j (x ∷ []) (take n xs))
      (keeps-behind (more j x) xs (more-has j x some) ((λ i. helper_named (sym (helpers-more j x some) i) h.entity) ∙ named) (entry-keeps j x named made.0 keeps) made.1 n)

  first-count : (kind : HelperKind) → counter_in kind ≡ Some c → IsCount c (first_text kind)
  first-count (HelperKind.Flag initial) is = absurd (none-some c is)
  first-count (HelperKind.Counter initial step least greatest) is =
      let d : Counter = record { initial = initial; step = step; least = least; greatest = greatest } in
      let own : d ≡ c = some-same d c is in
      record { number = initial; is = refl; within = subst (λ y. is_within y initial ≡ true) own (subst (λ (y : Counter). is_within y y.initial ≡ true) (sym own) apt) }
  first-count (HelperKind.Timer span) is = absurd (none-some c is)

  at-first : Keeps []
  at-first = record { due = refl; text = first-count h.kind counts }

  keeps-all : (j : Journal) → IsJournal j → helper_named (helpers j) h.entity ≡ Some h → EachAfter ChangesMade [] j → (n : ℕ) → Keeps (take n j)
  keeps-all j is named made zero = at-first
  keeps-all [] is named made (suc n) = at-first
  keeps-all (x ∷ xs) is named made (suc n) =
      keeps-behind (x ∷ []) xs tt named (one-more [] x at-first (λ r found. absurd (none-some r (sym (boot-silent x is.0 h.entity) ∙ found)))) made.1 n
    where
      boot-silent : (y : Entry) → IsBoot y → (e : EntityId) → change_of e y ≡ None
      boot-silent (Boot text config stored start zone carry) b e = refl
      boot-silent (Again number start stored carry) b e = absurd b
      boot-silent (Line source number cmd) b e = absurd b
      boot-silent (Step worker serial branch item) b e = absurd b

-- LAW: in a right journal a counter has a number within its bounds after each entry, where it begins with one
pub counter-within : (j : Journal) (rs : Records) → Right j rs → (e : EntityId) (h : Helper) (c : Counter) → helper_named (helpers j) e ≡ Some h → counter_in h.kind ≡ Some c
    → is_within c c.initial ≡ true → (n : ℕ) → IsCount c (text_of (take n j) h)
counter-within j rs right e h c named counts apt n =
    (keeps-all c apt h counts j right.journal (ap (helper_named (helpers j)) (named-own (helpers j) e h named) ∙ named) (changes-made j rs right) n).text

-- ---- where helpers are sound

named-sound : (all : List Helper) (e : EntityId) (h : Helper) → list_all is_sound_helper all ≡ true → helper_named all e ≡ Some h → is_sound_helper h ≡ true
named-sound [] e h sound named = absurd (none-some h named)
named-sound (x ∷ xs) e h sound named =
    by (same_entity x.entity e) named (named-sound xs e h (and_right (is_sound_helper x) (list_all is_sound_helper xs) sound))
  where
    by : (b : Bool) → (if b then Some x else helper_named xs e) ≡ Some h → (helper_named xs e ≡ Some h → is_sound_helper h ≡ true) → is_sound_helper h ≡ true
    by true named later = subst (λ y. is_sound_helper y ≡ true) (some-same x h named) (and_left (is_sound_helper x) (list_all is_sound_helper xs) sound)
    by false named later = later named

-- a sound counter begins within its bounds
begins-within : (domain : Text) (kind : HelperKind) (c : Counter) → is_sound_kind domain kind ≡ true → counter_in kind ≡ Some c → is_within c c.initial ≡ true
begins-within domain (HelperKind.Flag initial) c sound is = absurd (none-some c is)
begins-within domain (HelperKind.Counter initial step least greatest) c sound is =
    let d : Counter = record { initial = initial; step = step; least = least; greatest = greatest } in
    let front = same domain (codes "counter") && is_whole_in_range initial && is_whole_in_range step && is_whole_in_range least && is_whole_in_range greatest && int_le (pos 1) step in
    let low : int_le least initial ≡ true = and_right front (int_le least initial) (and_left (front && int_le least initial) (int_le initial greatest) sound) in
    let high : int_le initial greatest ≡ true = and_right (front && int_le least initial) (int_le initial greatest) sound in
    subst (λ (y : Counter). is_within y y.initial ≡ true) (some-same d c is) (both (int_le least initial) (int_le initial greatest) low high)
begins-within domain (HelperKind.Timer span) c sound is = absurd (none-some c is)

-- LAW: so it is where the helpers are sound
pub sound-within : (j : Journal) (rs : Records) → Right j rs → IsTrue (are_sound_helpers (helpers j)) → (e : EntityId) (h : Helper) (c : Counter) → helper_named (helpers j) e ≡ Some h
    → counter_in h.kind ≡ Some c → (n : ℕ) → IsCount c (text_of (take n j) h)
sound-within j rs right sound e h c named counts n =
    let all = helpers j in
    let each = and_right (nat_le (length all) 1_024 && all_distinct (map (λ (y : Helper). entity_text y.entity) all)) (list_all is_sound_helper all) sound in
    let own = named-sound all e h each named in
    counter-within j rs right e h c named counts (begins-within h.entity.domain h.kind c (and_right (is_entity h.entity) (is_sound_kind h.entity.domain h.kind) own) counts) n
