-- A line that brings another configuration into force, in its segment.
use Rattle.std.proofs.Common.{◌≡◌, ℕ, zero, suc, ◌+◌, ◌-◌, ◌<◌, List, [], ◌∷◌, ◌++◌, length, map, Bool, true, false, refl, sym, ap, subst, ◌∙◌, rules, arith}
use Rattle.std.specs.Prelude.{Some, not, nat_eq, replicate, slice_get, slice_set, fold, ◌^◌, ◌||◌, if◌then◌else◌}
use Rattle.ha_config.specs.declared.command.Cmd.{Cmd}
use Rattle.ha_config.specs.declared.config.Automation.{Automation}
use Rattle.ha_config.specs.declared.config.Config.{Config}
use Rattle.ha_config.specs.declared.config.Script.{Script}
use Rattle.ha_config.proofs.ListLemmas.{none-some, some-same}
use Rattle.ha_config.proofs.NumberedLemmas.{get-within}
use Rattle.ha_model.specs.declared.record.EndCause.{EndCause}
use Rattle.ha_journal.specs.declared.entry.Entry.{Entry}
use Rattle.ha_journal.specs.declared.entry.Entry.TheVariants.{Line}
use Rattle.ha_journal.specs.Attempts.{passing}
use Rattle.ha_journal.specs.Force.{force, has_unit}
use Rattle.ha_journal.specs.Journal.{Journal, HasEntry, IsJournal, in_force, more, units}
use Rattle.ha_journal.proofs.MoreLemmas.{has-entry, length-more}
use Rattle.ha_model.specs.Lawful.{Right}
use Rattle.ha_model.specs.RecordSteps.{records_after}
use Rattle.ha_model.specs.Records.{Records}
use Rattle.ha_model.proofs.LawfulLaws.{right-more}
use Rattle.ha_model.proofs.FoldLaws.{records-more}
use Rattle.run_laws.proofs.EntryLaws.{by-calls}
use Rattle.run_modes.specs.Calls.{AreTurned, all_tried, stop_turned}
use Rattle.ha_ready.specs.RestedFlags.{RestedKept}
use Rattle.conf_reload.specs.declared.outcome.Plan.{Plan}
use Rattle.engine_parts.specs.declared.parts.Parts.{Parts}
use Rattle.engine_parts.specs.Kept.{Going, nobody}
use Rattle.engine_parts.specs.Numbers.{numbers_in}
use Rattle.engine_parts.specs.Records.{IsTable}
use Rattle.engine_parts.specs.Stages.{RunsBefore, Stopped}
use Rattle.engine_entry.specs.Reloaded.{Reloading}
use Rattle.engine_entry.proofs.ReloadNumbers.{among, any-number, numbers-behind}
use Rattle.ha_engine.specs.Reloads.{IsEntering, marked, marks_of, unmarked}
use Rattle.ha_engine.proofs.ConcludeLemmas.{line-table}
use Rattle.ha_engine.proofs.LastsLemmas.{apart-of, set-there}

-- ---- what is marked

eq-self : (a : ℕ) → nat_eq a a ≡ true
eq-self a = search rules

set-mark : (ms : List Bool) (n a : ℕ) (g : Bool) → slice_get ms a ≡ Some g → slice_get (slice_set ms n true) a ≡ Some (nat_eq n a || g)
set-mark ms n a g e = set-there ms n a true (get-within ms a g e) ∙ by (nat_eq n a)
  where
    by : (b : Bool) → (if b then Some true else slice_get ms a) ≡ Some (b || g)
    by true = refl
    by false = e

-- LAW: so it is with each number
marked-at : (ns : List ℕ) (ms : List Bool) (a : ℕ) (g : Bool) → slice_get ms a ≡ Some g → slice_get (marked ns ms) a ≡ Some (among a ns || g)
marked-at [] ms a g e = e
marked-at (n ∷ ns) ms a g e = marked-at ns (slice_set ms n true) a (nat_eq n a || g) (set-mark ms n a g e) ∙ ap Some (by (nat_eq n a) (among a ns))
  where
    by : (b c : Bool) → (c || (b || g)) ≡ ((b || c) || g)
    by true true = refl
    by true false = refl
    by false true = refl
    by false false = refl

none-marked : (n a : ℕ) → a < n → slice_get (replicate n false) a ≡ Some false
none-marked zero a lt = absurd (omega (arith, lt))
none-marked (suc n) zero lt = refl
none-marked (suc n) (suc a) lt = none-marked n a (omega (arith, lt))

none-below : (n b : ℕ) (ms : List Bool) → b < n → among b (unmarked n ms) ≡ false
none-below n b [] lt = refl
none-below n b (m ∷ ms) lt = by m (none-below (suc n) b ms (omega (arith, lt)))
  where
    by : (m : Bool) → among b (unmarked (suc n) ms) ≡ false → among b (if m then unmarked (suc n) ms else n ∷ unmarked (suc n) ms) ≡ false
    by true h = h
    by false h = (λ i. apart-of n b (λ e. omega (arith, e, lt)) i || h i)

unmarked-any : (n : ℕ) (ms : List Bool) (a : ℕ) (g : Bool) → slice_get ms a ≡ Some g → among (n + a) (unmarked n ms) ≡ not g
unmarked-any n [] a g e = absurd (none-some g e)
unmarked-any n (m ∷ ms) zero g e = by m (let here : n + 0 < suc n = omega arith in none-below (suc n) (n + 0) ms here) ∙ ap not (some-same m g e)
  where
    by : (m : Bool) → among (n + 0) (unmarked (suc n) ms) ≡ false → among (n + 0) (if m then unmarked (suc n) ms else n ∷ unmarked (suc n) ms) ≡ not m
    by true h = h
    by false h = (let here : n + 0 ≡ n = omega arith in λ i. nat_eq n (here i) || among (n + 0) (unmarked (suc n) ms)) ∙ (λ i. eq-self n i || among (n + 0) (unmarked (suc n) ms))
unmarked-any n (m ∷ ms) (suc a) g e = by m (let next : n + suc a ≡ suc n + a = omega arith in (λ i. among (next i) (unmarked (suc n) ms)) ∙ unmarked-any (suc n) ms a g e)
  where
    by : (m : Bool) → among (n + suc a) (unmarked (suc n) ms) ≡ not g → among (n + suc a) (if m then unmarked (suc n) ms else n ∷ unmarked (suc n) ms) ≡ not g
    by true h = h
    by false h = (λ i. apart-of n (n + suc a) (λ same. omega (arith, same)) i || among (n + suc a) (unmarked (suc n) ms)) ∙ h

-- LAW: of so many units those have no mark that are not among the numbers
pub unmarked-those : (numbers : List ℕ) (count a : ℕ) → a < count → among a (unmarked 0 (marks_of numbers count)) ≡ not (among a numbers)
unmarked-those numbers count a lt =
    (let all : 0 + a ≡ a = omega arith in
    (λ i. among (sym all i) (unmarked 0 (marks_of numbers count)))
    ∙ unmarked-any 0 (marks_of numbers count) a (among a numbers || false) (marked-at numbers (replicate count false) a false (none-marked count a lt))
    ∙ ap not (or-none (among a numbers)))
  where
    or-none : (b : Bool) → (b || false) ≡ b
    or-none true = refl
    or-none false = refl

among-both : (m : ℕ) (xs ys : List ℕ) → among m (xs ++ ys) ≡ (among m xs || among m ys)
among-both m [] ys = refl
among-both m (x ∷ xs) ys = by (nat_eq x m) (among-both m xs ys)
  where
    by : (b : Bool) → among m (xs ++ ys) ≡ (among m xs || among m ys) → (b || among m (xs ++ ys)) ≡ ((b || among m xs) || among m ys)
    by true e = refl
    by false e = e

-- a unit is in force where its number is among those of what is in force
pub among-units : (k : Journal) (a : ℕ) → among a (numbers_in k) ≡ has_unit (force k) a
among-units k a =
    among-both a (map {A = ℕ × Automation} {B = ℕ} (λ p. p.0) (in_force k)) (map {A = ℕ × Script} {B = ℕ} (λ p. p.0) (force k).scripts)
    ∙ (λ i. any-number (in_force k) a i || any-number (force k).scripts a i)

-- ---- a reload that was pushed

module _ (k : Journal) (old : Config) (plan : Plan) (rs : Records) (p : Parts) (h : IsEntering k old plan rs p) where
  abbrev j : Journal
  j = h.j

  abbrev y : Entry
  y = Line h.source h.number (Cmd.Reload h.text (Some h.config))

  entering-some : HasEntry j
  entering-some = has-entry j h.right.journal

  right-behind : Right k (records_after j rs y)
  right-behind = subst (λ (i : Journal). Right i (records_after j rs y)) (sym h.journal_is) (right-more j rs y h.right (λ boot. boot) h.fair)

  pub entering-journal : IsJournal k
  entering-journal = right-behind.journal

  -- LAW: what enters it
  pub entering : Reloading k old h.config plan p
  entering = record {
    j = j;
    x = y;
    journal_is = h.journal_is;
    journal = entering-journal;
    reloads = refl;
    old_is = h.old_is;
    sound = h.sound;
    planned = h.planned;
    few = h.few;
    sees = h.kept.going.sees;
    triggers_stand = h.kept.going.triggers_stand;
    waits_stand = h.kept.going.waits_stand;
    owned = h.kept.going.owned;
    keys_early = h.kept.going.keys_early;
  }

  -- LAW: the runs before it
  pub entering-before : RunsBefore k rs p.waits p.delays p.frames.items p.ready.pairs.items p.calls
  entering-before = record {
    j = j;
    source = h.source;
    number = h.number;
    cmd = Cmd.Reload h.text (Some h.config);
    journal_is = h.journal_is;
    right = h.right;
    waits_stand = h.kept.going.waits_stand;
    runs_kept = h.kept.going.runs_kept;
    calls_kept = h.kept.going.calls_kept;
  }

  pub entering-table : IsTable k rs
  entering-table = subst (λ (i : Journal). IsTable i rs) (sym h.journal_is) (line-table j rs h.source h.number (Cmd.Reload h.text (Some h.config)) h.right)

  pub entering-place : length k - 1 ≡ length j
  entering-place = omega (arith, ap length h.journal_is, length-more j y)

  pub entering-within : length k - 1 < length k
  entering-within = omega (arith, ap length h.journal_is, length-more j y)

  -- LAW: how many units there are before it
  pub entering-free : p.free ≡ length (units j)
  entering-free = h.kept.going.sees.free_is

  pub entering-count : p.free < 2 ^ 32
  entering-count = (let few = h.kept.going.sees.few in omega (arith, few.reloads, few.units, entering-free))

  -- those whose runs it ends
  abbrev dropped : List ℕ
  dropped = unmarked 0 (marks_of plan.numbers p.free)

  numbers-are : plan.numbers ≡ numbers_in (more j y)
  numbers-are = numbers-behind j old h.config p.numbers p.free plan h.kept.going.sees.looks.numbers_are h.old_is h.planned y entering-some refl entering-free

  are-dropped : AreTurned j y dropped
  are-dropped a lt =
      ap not (sym (ap (among a) numbers-are ∙ among-units (more j y) a))
      ∙ sym (unmarked-those plan.numbers p.free a (omega (arith, lt, entering-free)))

  -- LAW: where the stops were made
  pub entering-stopped : (place : ℕ) (rs' : Records) (q : Parts) → place ≡ length k - 1 → rs' ≡ fold (stop_turned place EndCause.Reloaded) rs dropped → IsTable k rs' → Going nobody k rs' q
      → RestedKept j rs q.rested.items → Stopped k rs' q
  entering-stopped place rs' q at are table going rested = record {
    j = j;
    x = y;
    before = rs;
    journal_is = h.journal_is;
    known = h.known;
    right = h.right;
    right_behind = right-behind;
    table = table;
    records = (λ i. all_tried k (are i) (passing k))
        ∙ (λ i. all_tried (h.journal_is i) (fold (stop_turned ((at ∙ entering-place) i) EndCause.Reloaded) rs dropped) (passing (h.journal_is i)))
        ∙ by-calls j rs y dropped h.right (λ boot. boot) h.fair are-dropped
        ∙ records-more j y ∙ ap (λ l. records_after j l y) (sym h.right.records_are);
    going = going;
    rested_is = rested;
  }
