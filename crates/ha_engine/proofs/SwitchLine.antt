-- A line that turns an automation on or off.
use Rattle.std.proofs.Common.{◌≡◌, ℕ, zero, suc, ◌+◌, ◌-◌, ◌<◌, ◌≤◌, List, [], ◌∷◌, length, filter, Bool, true, false, cond, refl, sym, ap, subst, ◌∙◌, rules, arith}
use Rattle.std.specs.Prelude.{Some, IsTrue, is_some, not, nat_eq, nat_lt, ◌^◌, ◌&&◌, ◌||◌, fold, if◌then◌else◌}
use Rattle.std.specs.List.{list_any}
use Rattle.std.specs.Option.{option_map_or}
use Rattle.std.proofs.lemmas.Bool.Decides.{nat_tests}
use Rattle.ha_config.specs.declared.command.Cmd.{Cmd}
use Rattle.ha_config.specs.declared.config.Automation.{Automation}
use Rattle.ha_config.specs.Names.{name_of, named_among, unit_of}
use Rattle.ha_config.specs.Numbered.{has_number}
use Rattle.ha_config.specs.Words.{Text, numbers_from, same}
use Rattle.ha_config.proofs.EqualLemmas.{same-sound}
use Rattle.ha_config.proofs.ListLemmas.{some-same, true-false}
use Rattle.ha_config.proofs.NumberedLemmas.{get-within}
use Rattle.ha_model.specs.declared.record.EndCause.{EndCause}
use Rattle.ha_journal.specs.declared.entry.Entry.{Entry}
use Rattle.ha_journal.specs.declared.entry.Entry.TheVariants.{Line}
use Rattle.ha_journal.specs.Attempts.{passing}
use Rattle.ha_journal.specs.Commands.{IsFair, has_automation}
use Rattle.ha_journal.specs.Journal.{Journal, HasEntry, IsJournal, in_force, more, names, units}
use Rattle.ha_journal.specs.Switches.{is_on}
use Rattle.ha_journal.proofs.ForceLaws.{in-force-more, names-more}
use Rattle.ha_journal.proofs.MoreLemmas.{has-entry, length-more}
use Rattle.ha_journal.proofs.SwitchLemmas.{on-more}
use Rattle.ha_model.specs.Lawful.{Right}
use Rattle.ha_model.specs.RecordSteps.{records_after}
use Rattle.ha_model.specs.Records.{Records}
use Rattle.ha_model.proofs.LawfulLaws.{right-more}
use Rattle.ha_model.proofs.FoldLaws.{records-more}
use Rattle.run_laws.proofs.EntryLaws.{by-calls}
use Rattle.run_modes.specs.Calls.{AreTurned, all_tried, stop_turned}
use Rattle.ha_ready.specs.RestedFlags.{RestedKept}
use Rattle.named_runs.specs.Named.{first_in}
use Rattle.unit_book.specs.Book.{firsts_of}
use Rattle.unit_book.proofs.FirstLemmas.{first-same, firsts-many, names-many, text-name}
use Rattle.engine_parts.specs.declared.parts.Parts.{Parts}
use Rattle.engine_parts.specs.Kept.{AreSound, Going, nobody}
use Rattle.engine_parts.specs.Numbers.{numbers_in}
use Rattle.engine_parts.specs.Records.{IsTable}
use Rattle.engine_parts.specs.Stages.{PushedAs, RunsBefore, Stopped}
use Rattle.engine_entry.specs.Between.{Turning}
use Rattle.engine_entry.specs.Turned.{IsTurn}
use Rattle.engine_entry.proofs.EnterLemmas.{sound-more}
use Rattle.engine_entry.proofs.ForceMore.{numbers-more}
use Rattle.engine_entry.proofs.ForceNames.{IsFound, force-unit, found-name, own-name}
use Rattle.engine_entry.proofs.NamedLemmas.{same-self}
use Rattle.engine_entry.proofs.PlaceLemmas.{eq-self}
use Rattle.ha_engine.specs.Named.{named_as}
use Rattle.ha_engine.proofs.ConcludeLemmas.{line-table}

or-none : (b : Bool) → (b || false) ≡ b
or-none true = refl
or-none false = refl

flipped : (a b : ℕ) → nat_eq a b ≡ nat_eq b a
flipped a b = grind (arith, nat_tests)

eq-of : (a b : ℕ) → nat_eq a b ≡ true → a ≡ b
eq-of a b e = search (rules, e)

eq-less : (a b : ℕ) → a < b → nat_eq b a ≡ false
eq-less a b lt = search (rules, lt)

-- one number is among those that pass where it passes
none-below : (test : ℕ → Bool) (low n b : ℕ) → b < low → list_any (λ c. nat_eq c b) (filter test (numbers_from low n)) ≡ false
none-below test low zero b lt = refl
none-below test low (suc n) b lt = by (test low) (none-below test (low + 1) n b (omega (arith, lt)))
  where
    by : (t : Bool) → list_any (λ c. nat_eq c b) (filter test (numbers_from (low + 1) n)) ≡ false
        → list_any (λ c. nat_eq c b) (cond t (low ∷ filter test (numbers_from (low + 1) n)) (filter test (numbers_from (low + 1) n))) ≡ false
    by true rest = (λ i. eq-less b low lt i || rest i)
    by false rest = rest

any-passing : (test : ℕ → Bool) (low n b : ℕ) → low ≤ b → b < low + n → list_any (λ c. nat_eq c b) (filter test (numbers_from low n)) ≡ test b
any-passing test low zero b le lt = absurd (omega (arith, le, lt))
any-passing test low (suc n) b le lt = by (nat_eq low b) refl (λ above. any-passing test (low + 1) n b above (omega (arith, lt)))
  where
    rest : List ℕ
    rest = filter test (numbers_from (low + 1) n)

    other : (t : Bool) → nat_eq low b ≡ false → list_any (λ c. nat_eq c b) (cond t (low ∷ rest) rest) ≡ list_any (λ c. nat_eq c b) rest
    other true e = (λ i. e i || list_any (λ c. nat_eq c b) rest)
    other false e = refl

    own : (t : Bool) → nat_eq low b ≡ true → list_any (λ c. nat_eq c b) rest ≡ false → list_any (λ c. nat_eq c b) (cond t (low ∷ rest) rest) ≡ t
    own true e none = (λ i. e i || list_any (λ c. nat_eq c b) rest)
    own false e none = none

    apart : nat_eq low b ≡ false → low ≡ b → ⊥
    apart e same = absurd (true-false (sym ((λ i. nat_eq (same i) b) ∙ eq-self b) ∙ e))

    above : nat_eq low b ≡ false → low + 1 ≤ b
    above e = by-less (nat_lt low b) refl
      where
        by-less : (t : Bool) → nat_lt low b ≡ t → low + 1 ≤ b
        by-less true f = (let lt' : low < b = search (rules, f) in omega (arith, lt'))
        by-less false f = (let ge : b ≤ low = search (rules, f) in absurd (apart e (omega (arith, ge, le))))

    by : (t : Bool) → nat_eq low b ≡ t → (low + 1 ≤ b → list_any (λ c. nat_eq c b) rest ≡ test b) → list_any (λ c. nat_eq c b) (cond (test low) (low ∷ rest) rest) ≡ test b
    by true e later = (let same : low ≡ b = eq-of low b e in own (test low) e (none-below test (low + 1) n b (omega (arith, same))) ∙ ap test same)
    by false e later = other (test low) e ∙ later (above e)

module _ (j : Journal) (some : HasEntry j) (sound : AreSound j) (name : Text) (a : ℕ) (named : named_among (in_force j) name ≡ Some a) (firsts : List ℕ) (firsts_are : firsts ≡ firsts_of (names j)) (source number : ℕ) (on stop : Bool) where
  abbrev x : Entry
  x = Line source number (Cmd.Switch name on stop)

  found : IsFound j name a
  found = found-name j name a named

  name-a : name_of (units j) a ≡ name
  name-a = (λ i. option_map_or (λ (y : Automation). y.name) (found.here i) []) ∙ found.name_is

  -- among those in force the automation of the name alone has it
  name-own : (b : ℕ) → has_number (in_force j) b ≡ true → same name (name_of (units j) b) ≡ nat_eq a b
  name-own b known = by (same name (name_of (units j) b)) (nat_eq a b) refl refl
    where
      unit : (y : Automation) × (unit_of (units j) b ≡ Some y)
      unit = force-unit j b known

      name-b : name_of (units j) b ≡ unit.0.name
      name-b = (λ i. option_map_or (λ (y : Automation). y.name) (unit.1 i) [])

      by : (s e : Bool) → same name (name_of (units j) b) ≡ s → nat_eq a b ≡ e → s ≡ e
      by true true f g = refl
      by false false f g = refl
      by true false f g =
          (let is : name ≡ unit.0.name = same-sound name (name_of (units j) b) f ∙ name-b in
          let one : a ≡ b = some-same a b (sym named ∙ (λ i. named_among (in_force j) (is i)) ∙ own-name j sound b unit.0 known unit.1) in
          sym (sym g ∙ (λ i. nat_eq (one i) b) ∙ eq-self b))
      by false true f g =
          (let one : a ≡ b = eq-of a b g in
          sym f ∙ (λ i. same name (name_of (units j) (sym one i))) ∙ (λ i. same name (name-a i)) ∙ same-self name)

  on-behind : (b : ℕ) → is_on (more j x) b ≡ (if same name (name_of (units j) b) then on else is_on j b)
  on-behind b = on-more j x b some refl

  -- LAW: it turns that automation
  pub switch-turn : IsTurn j x ((a, on, stop) ∷ [])
  switch-turn = record {
    only = record { reloads = refl; some = some; report = refl; gone = refl; restart = refl; opens = refl; moment = refl; still = refl; changes = refl };
    once = (refl, tt);
    set = (found.known, on-behind a ∙ (λ i. if same name (name-a i) then on else is_on j a) ∙ (λ i. if same-self name i then on else is_on j a), tt);
    others = λ b known h. on-behind b ∙ (λ i. if (name-own b known ∙ sym (or-none (nat_eq a b)) ∙ h) i then on else is_on j b);
  }

  -- those whose runs it ends: of all units of the name
  abbrev pub turned : List ℕ
  turned = if not on && stop then named_as firsts a else []

  many : length firsts ≡ length (units j)
  many = ap length firsts_are ∙ firsts-many (names j) ∙ names-many j

  a-known : a < length (units j)
  a-known = get-within (units j) a found.automation found.here

  same-names : (b : ℕ) → b < length (units j) → nat_eq (first_in firsts b) (first_in firsts a) ≡ same name (name_of (units j) b)
  same-names b lt =
      let count = names-many j in
      (λ i. nat_eq (first_in (firsts_are i) b) (first_in (firsts_are i) a))
      ∙ flipped (first_in (firsts_of (names j)) b) (first_in (firsts_of (names j)) a)
      ∙ first-same (names j) a b (omega (arith, a-known, count)) (omega (arith, lt, count))
      ∙ (λ i. same ((text-name (units j) a ∙ name-a) i) (text-name (units j) b i))

  are-turned : AreTurned j x turned
  are-turned b lt =
      or-none ((same name (name_of (units j) b) && not on && stop) || false) ∙ or-none (same name (name_of (units j) b) && not on && stop)
      ∙ by (same name (name_of (units j) b)) (not on) stop (sym (any-passing (λ c. nat_eq (first_in firsts c) (first_in firsts a)) 0 (length firsts) b (omega arith) (omega (arith, lt, many)) ∙ same-names b lt))
    where
      by : (s u v : Bool) → s ≡ list_any (λ c. nat_eq c b) (named_as firsts a) → (s && u && v) ≡ list_any (λ c. nat_eq c b) (if u && v then named_as firsts a else [])
      by s true true e = keep s ∙ e
        where
          keep : (s : Bool) → (s && true && true) ≡ s
          keep true = refl
          keep false = refl
      by s true false e = drop-it s
        where
          drop-it : (s : Bool) → (s && true && false) ≡ false
          drop-it true = refl
          drop-it false = refl
      by s false v e = drop-it s v
        where
          drop-it : (s v : Bool) → (s && false && v) ≡ false
          drop-it true v = refl
          drop-it false v = refl

  -- LAW: its calls give the records behind it
  pub switch-records : (rs : Records) → Right j rs → IsFair j (Cmd.Switch name on stop) → (place : ℕ) → place ≡ length j
      → all_tried (more j x) (fold (stop_turned place EndCause.SwitchedOff) rs turned) (passing (more j x)) ≡ records_after j rs x
  switch-records rs right fair place at =
      (λ i. all_tried (more j x) (fold (stop_turned (at i) EndCause.SwitchedOff) rs turned) (passing (more j x)))
      ∙ by-calls j rs x turned right (λ boot. boot) fair are-turned ∙ records-more j x ∙ ap (λ l. records_after j l x) (sym right.records_are)

-- ---- a line that was pushed

module _ (name : Text) (on stop : Bool) (k : Journal) (rs : Records) (p : Parts) (h : PushedAs (Cmd.Switch name on stop) k rs p) where
  abbrev j : Journal
  j = h.pushed.j

  abbrev y : Entry
  y = Line h.pushed.source h.pushed.number (Cmd.Switch name on stop)

  pub pushed-is : k ≡ more j y
  pushed-is = h.pushed.journal_is ∙ (λ i. more j (Line h.pushed.source h.pushed.number (h.cmd_is i)))

  pub pushed-fair : IsFair j (Cmd.Switch name on stop)
  pushed-fair = subst (IsFair j) h.cmd_is h.pushed.fair

  pushed-some : HasEntry j
  pushed-some = has-entry j h.pushed.right.journal

  all-are : in_force k ≡ in_force j
  all-are = ap (λ (i : Journal). in_force i) pushed-is ∙ sym (in-force-more j y pushed-some refl)

  right-behind : Right k (records_after j rs y)
  right-behind = subst (λ (i : Journal). Right i (records_after j rs y)) (sym pushed-is) (right-more j rs y h.pushed.right (λ boot. boot) pushed-fair)

  -- LAW: what its number is asked with
  pub pushed-journal : IsJournal k
  pushed-journal = right-behind.journal

  pub pushed-sound : AreSound k
  pushed-sound = subst AreSound (sym pushed-is) (sound-more j y pushed-some refl h.pushed.kept.going.sees.sound)

  pub pushed-named : IsTrue (has_automation k name)
  pushed-named = (λ i. is_some (named_among (all-are i) name)) ∙ pushed-fair.1

  -- LAW: and the numbers of what is in force
  pub pushed-numbers : p.numbers ≡ numbers_in k
  pushed-numbers = h.pushed.kept.going.sees.looks.numbers_are ∙ numbers-more j y pushed-some refl ∙ ap numbers_in (sym pushed-is)

  pub pushed-place : length k - 1 ≡ length j
  pushed-place = omega (arith, ap length pushed-is, length-more j y)

  pub pushed-within : length k - 1 < length k
  pushed-within = omega (arith, ap length pushed-is, length-more j y)

  -- LAW: the runs before it
  pub pushed-before : RunsBefore k rs p.waits p.delays p.frames.items p.ready.pairs.items p.calls
  pushed-before = record {
    j = j;
    source = h.pushed.source;
    number = h.pushed.number;
    cmd = Cmd.Switch name on stop;
    journal_is = pushed-is;
    right = h.pushed.right;
    waits_stand = h.pushed.kept.going.waits_stand;
    runs_kept = h.pushed.kept.going.runs_kept;
    calls_kept = h.pushed.kept.going.calls_kept;
  }

  pub pushed-table : IsTable k rs
  pushed-table = subst (λ (i : Journal). IsTable i rs) (sym pushed-is) (line-table j rs h.pushed.source h.pushed.number (Cmd.Switch name on stop) h.pushed.right)

  module _ (a : ℕ) (named : named_among (in_force k) name ≡ Some a) (firsts : List ℕ) (firsts_are : firsts ≡ firsts_of (names k)) where
    own-named : named_among (in_force j) name ≡ Some a
    own-named = (λ i. named_among (sym all-are i) name) ∙ named

    own-firsts : firsts ≡ firsts_of (names j)
    own-firsts = firsts_are ∙ (λ i. firsts_of (names (pushed-is i))) ∙ ap firsts_of (sym (names-more j y pushed-some refl))

    -- LAW: it turns the automation
    pub pushed-turning : Turning k ((a, on, stop) ∷ []) p
    pushed-turning = record {
      j = j;
      x = y;
      journal_is = pushed-is;
      journal = pushed-journal;
      turn = switch-turn j pushed-some h.pushed.kept.going.sees.sound name a own-named firsts own-firsts h.pushed.source h.pushed.number on stop;
      sees = h.pushed.kept.going.sees;
      triggers_stand = h.pushed.kept.going.triggers_stand;
      waits_stand = h.pushed.kept.going.waits_stand;
      owned = h.pushed.kept.going.owned;
      keys_early = h.pushed.kept.going.keys_early;
    }

    -- LAW: its unit is known
    pub pushed-known : a < length firsts
    pushed-known =
        (let own : IsFound j name a = found-name j name a own-named in
        let within = get-within (units j) a own.automation own.here in
        let many : length firsts ≡ length (units j) = ap length own-firsts ∙ firsts-many (names j) ∙ names-many j in
        omega (arith, within, many))

    pub pushed-few : length firsts < 2 ^ 32
    pushed-few =
        (let few = h.pushed.kept.going.sees.few in
        let many : length firsts ≡ length (units j) = ap length own-firsts ∙ firsts-many (names j) ∙ names-many j in
        omega (arith, few.reloads, few.units, many))

    -- LAW: where the stops were made
    pub pushed-stopped : (rs' : Records) (q : Parts) → rs' ≡ fold (stop_turned (length k - 1) EndCause.SwitchedOff) rs (if not on && stop then named_as firsts a else []) → IsTable k rs' → Going nobody k rs' q
        → RestedKept j rs q.rested.items → Stopped k rs' q
    pushed-stopped rs' q are table going rested = record {
      j = j;
      x = y;
      before = rs;
      journal_is = pushed-is;
      known = h.pushed.known;
      right = h.pushed.right;
      right_behind = right-behind;
      table = table;
      records = (λ i. all_tried k (are i) (passing k)) ∙ (λ i. all_tried (pushed-is i) (fold (stop_turned (length k - 1) EndCause.SwitchedOff) rs (if not on && stop then named_as firsts a else [])) (passing (pushed-is i)))
          ∙ switch-records j pushed-some h.pushed.kept.going.sees.sound name a own-named firsts own-firsts h.pushed.source h.pushed.number on stop rs h.pushed.right pushed-fair (length k - 1) pushed-place;
      going = going;
      rested_is = rested;
    }
