-- A reload that was pushed to the list of all entries.
use Rattle.std.proofs.Common.{◌≡◌, ℕ, zero, suc, ◌+◌, ◌-◌, ◌<◌, ◌≤◌, List, [], ◌∷◌, ◌++◌, length, length-append, map, take, Bool, true, false, refl, sym, ap, subst, ◌∙◌, rules, arith, IsTrue}
use Rattle.std.specs.Prelude.{Option, Some, count_by, nat_eq, nat_lt, option_and_then, option_map, replicate, slice_get, ◌&&◌, ◌||◌, ◌^◌}
use Rattle.std.specs.List.{list_all}
use Rattle.std.specs.Option.{option_map_or}
use Rattle.std.proofs.lemmas.List.{length-map, length-replicate}
use Rattle.ha_config.specs.declared.command.Cmd.{Cmd}
use Rattle.ha_config.specs.declared.config.Automation.{Automation}
use Rattle.ha_config.specs.declared.config.Config.{Config}
use Rattle.ha_config.specs.declared.config.Script.{Script}
use Rattle.ha_config.specs.Fair.{most_reloads}
use Rattle.ha_config.specs.Names.{names_of}
use Rattle.ha_config.specs.Sound.{is_sound_config}
use Rattle.ha_config.specs.Units.{as_unit}
use Rattle.ha_config.proofs.ListLemmas.{append-nil, get-last}
use Rattle.ha_config.proofs.NumberedLemmas.{get-front, get-within}
use Rattle.ha_config.proofs.UnitLemmas.{units-few}
use Rattle.ha_config.specs.Words.{Text}
use Rattle.ha_journal.specs.declared.carry.Carry.{Carry}
use Rattle.ha_journal.specs.declared.entry.Entry.{Entry}
use Rattle.ha_journal.specs.declared.entry.Entry.TheVariants.{Boot, Line, Step, Again}
use Rattle.ha_journal.specs.Commands.{IsFair, lets_reload}
use Rattle.ha_journal.specs.Entries.{BeginsSegment, Reopening, is_reload}
use Rattle.ha_journal.specs.Force.{IsAlike, force, reloaded}
use Rattle.ha_journal.specs.Journal.{HasEntry, Journal, automations, configured, in_force, more, names, scripts, units}
use Rattle.ha_journal.proofs.AlikeLaws.{alike-rules, alike-scripts}
use Rattle.ha_journal.proofs.ForceLaws.{entered, force-reloaded, in-force-are, in-force-below, more-units, scripts-are, unit-more, units-grow}
use Rattle.ha_journal.proofs.MoreLemmas.{has-entry}
use Rattle.ha_whole.specs.Lasts.{lasts_carried}
use Rattle.ha_whole.specs.Segments.{alone, reopened, segment}
use Rattle.ha_whole.specs.Whole.{numbers_carried}
use Rattle.whole_laws.proofs.CutLemmas.{segment-again, segment-on}
use Rattle.conf_reload.specs.declared.outcome.Plan.{Plan}
use Rattle.conf_reload.specs.Plan.{IsPlan}
use Rattle.segment_carry.specs.Sources.{carry_in}
use Rattle.segment_view.specs.Views.{HoldsLast}
use Rattle.named_runs.specs.Named.{NamedTable}
use Rattle.unit_book.specs.declared.book.UnitBook.{UnitBook}
use Rattle.unit_book.specs.Book.{Holds, config_at, config_in, firsts_of, numbers_in}
use Rattle.unit_book.specs.Opens.{Reloads}
use Rattle.unit_book.proofs.BookLemmas.{alike-there, holds-front}
use Rattle.unit_book.proofs.FirstLemmas.{firsts-many, names-many}
use Rattle.unit_book.proofs.GrownLemmas.{firsts-front, names-append}
use Rattle.engine_parts.specs.declared.parts.Parts.{Parts}
use Rattle.engine_parts.specs.Numbers.{AreFew}
use Rattle.engine_parts.proofs.FewLemmas.{few-reloaded}
use Rattle.engine_parts.proofs.ViewLemmas.{true-of}
use Rattle.engine_entry.proofs.ReloadNumbers.{among, numbers-behind}
use Rattle.ha_engine.specs.declared.bounds.Bounds.{Bounds}
use Rattle.ha_engine.specs.Reloads.{AddsReload, BringsNext, EntersUnits, PlansLast, lasts_at, marked, marks_of, numbers_at}
use Rattle.ha_engine.proofs.CarriedLemmas.{lasts-found, numbers-found, opening-found}
use Rattle.ha_engine.proofs.FollowedLemmas.{firsts-told}
use Rattle.ha_engine.proofs.LastsLemmas.{set-length}
use Rattle.ha_engine.proofs.LieLemmas.{more-seen}
use Rattle.ha_engine.proofs.PlainLemmas.{reloads-more}
use Rattle.ha_engine.proofs.ReloadLine.{among-units}

-- LAW: there are so many marks
pub marks-many : (numbers : List ℕ) (count : ℕ) → length (marks_of numbers count) ≡ count
marks-many numbers count = by numbers (replicate count false) ∙ length-replicate count false
  where
    by : (ns : List ℕ) (ms : List Bool) → length (marked ns ms) ≡ length ms
    by [] ms = refl
    by (n ∷ ns) ms = by ns _ ∙ set-length ms n true

-- ---- how many Reloads the last segment has

reopened-none : (s : Journal) (a : Reopening) → count_by is_reload (reopened s a) ≡ 0
reopened-none [] a = refl
reopened-none (Boot text config stored start zone carry ∷ es) a = refl
reopened-none (Line source number cmd ∷ es) a = refl
reopened-none (Step worker serial branch item ∷ es) a = refl
reopened-none (Again number start stored carry ∷ es) a = refl

fewer-more : (d : Journal) (x : Entry) → segment (more d x) ≡ more (segment d) (alone (segment d) x) → is_reload (alone (segment d) x) ≡ is_reload x → count_by is_reload (segment d) ≤ count_by is_reload d
    → count_by is_reload (segment (more d x)) ≤ count_by is_reload (more d x)
fewer-more d x on same h = by (is_reload x) refl
  where
    by : (b : Bool) → is_reload x ≡ b → count_by is_reload (segment (more d x)) ≤ count_by is_reload (more d x)
    by true e =
        let one = reloads-more d x true e in
        let two = ap (count_by is_reload) on ∙ reloads-more (segment d) (alone (segment d) x) true (same ∙ e) in
        omega (arith, h, one, two)
    by false e =
        let one = reloads-more d x false e in
        let two = ap (count_by is_reload) on ∙ reloads-more (segment d) (alone (segment d) x) false (same ∙ e) in
        omega (arith, h, one, two)

fewer-on : (d : Journal) (x : Entry) → count_by is_reload (segment d) ≤ count_by is_reload d → count_by is_reload (segment (more d x)) ≤ count_by is_reload (more d x)
fewer-on d (Boot text config stored start zone carry) h = fewer-more d (Boot text config stored start zone carry) (segment-on d (Boot text config stored start zone carry) refl) refl h
fewer-on d (Line source number cmd) h = fewer-more d (Line source number cmd) (segment-on d (Line source number cmd) refl) refl h
fewer-on d (Step worker serial branch item) h = fewer-more d (Step worker serial branch item) (segment-on d (Step worker serial branch item) refl) refl h
fewer-on d (Again number start stored carry) h =
    (let a : Reopening = record { number = number; start = start; stored = stored; carry = carry } in
    let none : count_by is_reload (segment (more d (Again number start stored carry))) ≡ 0 = ap (count_by is_reload) (segment-again d (Again number start stored carry) a refl) ∙ reopened-none (segment d) a in
    omega (arith, none))

fewer-along : (d xs : Journal) → count_by is_reload (segment d) ≤ count_by is_reload d → count_by is_reload (segment (d ++ xs)) ≤ count_by is_reload (d ++ xs)
fewer-along d [] h = subst (λ (l : Journal). count_by is_reload (segment l) ≤ count_by is_reload l) (sym (append-nil d)) h
fewer-along d (x ∷ xs) h = subst (λ (l : Journal). count_by is_reload (segment l) ≤ count_by is_reload l) (joined d xs) (fewer-along (more d x) xs (fewer-on d x h))
  where
    joined : (es xs : Journal) → more es x ++ xs ≡ es ++ (x ∷ xs)
    joined [] xs = refl
    joined (e ∷ es) xs = ap (λ l. e ∷ l) (joined es xs)

less-of : (a b : ℕ) → nat_lt a b ≡ true → a < b
less-of a b e = search (rules, e)

is-less : (a b : ℕ) → a < b → nat_lt a b ≡ true
is-less a b e = search (rules, e)

-- LAW: where one more may stand one may stand there
pub lets-alone : (j : Journal) → lets_reload j ≡ true → lets_reload (segment j) ≡ true
lets-alone j h =
    (let few = fewer-along [] j (omega arith) in
    let lt = less-of (count_by is_reload j) most_reloads h in
    is-less (count_by is_reload (segment j)) most_reloads (omega (arith, few, lt)))

true-is : (b : Bool) → b ≡ true → IsTrue b
true-is b h = search (rules, h)

of-true : (b : Bool) → IsTrue b → b ≡ true
of-true b h = search (rules, h)

-- ---- numbers before it

all-lt : (ns : List ℕ) (free : ℕ) → ((a : ℕ) → among a ns ≡ true → a < free) → list_all (λ n. nat_lt n free) ns ≡ true
all-lt [] free h = refl
all-lt (n ∷ ns) free h = (λ i. is-less n free (h n (λ k. eq-self n k || among n ns)) i && all-lt ns free (λ a e. h a (behind a e)) i)
  where
    eq-self : (a : ℕ) → nat_eq a a ≡ true
    eq-self a = search rules

    behind : (a : ℕ) → among a ns ≡ true → among a (n ∷ ns) ≡ true
    behind a e = by (nat_eq n a)
      where
        by : (b : Bool) → (b || among a ns) ≡ true
        by true = refl
        by false = e

-- LAW: the numbers of what is in force are below the next free one
pub numbers-below : (s : Journal) (numbers : List ℕ) (free : ℕ) → numbers ≡ numbers_in (force s) → free ≡ length (units s) → list_all (λ n. nat_lt n free) numbers ≡ true
numbers-below s numbers free is free_is =
    all-lt numbers free (λ a e. (let lt : a < length (units s) = in-force-below s a (sym (ap (among a) is ∙ among-units s a) ∙ e) in omega (arith, lt, free_is)))

-- LAW: and as many as the configuration has units
pub numbers-whole : (s : Journal) (numbers : List ℕ) (old : Config) → numbers ≡ numbers_in (force s) → IsAlike old (configured s) → length numbers ≡ length old.automations + length old.scripts
numbers-whole s numbers old is alike =
    (let here = ap length is in
    let all = length-append (map {A = ℕ × Automation} {B = ℕ} (λ p. p.0) (in_force s)) (map {A = ℕ × Script} {B = ℕ} (λ p. p.0) (force s).scripts) in
    let one = length-map (in_force s) (λ (p : ℕ × Automation). p.0) in
    let two = length-map (force s).scripts (λ (p : ℕ × Script). p.0) in
    let three = length-map (in_force s) (λ (p : ℕ × Automation). p.1) in
    let four = length-map (force s).scripts (λ (p : ℕ × Script). p.1) in
    let five = ap length (in-force-are s) in
    let six = ap length (scripts-are s) in
    let seven = ap length (alike-rules old (configured s) alike) in
    let eight = ap length (alike-scripts old (configured s) alike) in
    omega (arith, here, all, one, two, three, four, five, six, seven, eight))

-- ---- what it brings

-- LAW: what the book makes of it
abbrev pub bring-reloads : (k : Journal) (b : Bounds) (u : UnitBook) (numbers : List ℕ) → BringsNext k b u numbers → Reloads k numbers u
bring-reloads k b u numbers h = record { j = h.j; s = h.s; x = h.x; c = h.new; journal_is = h.journal_is; reloads = h.reloads; sound = h.sound; holds = h.holds; numbers_are = h.numbers_are; few = h.few }

module _ (k : Journal) (b : Bounds) (u : UnitBook) (t : NamedTable) (p : Parts) (ls : List (Option ℕ)) (h : AddsReload k b u t p ls) where
  abbrev pub before : Journal
  before = segment h.j

  abbrev pub cmd : Cmd
  cmd = Cmd.Reload h.text (Some h.config)

  abbrev pub line : Entry
  line = Line h.source h.number cmd

  abbrev pub behind : Journal
  behind = more before line

  pub some : HasEntry before
  some = has-entry before h.told.own_right.journal

  pub force-is : force behind ≡ reloaded (force before) h.config
  force-is = force-reloaded before line h.config some refl

  pub holds-k : Holds k (force before) u
  holds-k = subst (λ (i : Journal). Holds i (force before) u) (sym h.journal_is) (holds-front h.j (line ∷ []) (force before) u h.told.holds)

  fair-j : IsFair h.j cmd
  fair-j = h.fair

  -- LAW: it is fair in its segment
  pub fair-s : IsFair before cmd
  fair-s = (fair-j.0, fair-j.1, true-is (lets_reload before) (lets-alone h.j (of-true (lets_reload h.j) fair-j.2)))

  lets-s : lets_reload before ≡ true
  lets-s = lets-alone h.j (of-true (lets_reload h.j) fair-j.2)

  -- LAW: few units there are behind it
  pub few-s : AreFew behind
  few-s = few-reloaded before line h.config some refl h.sound lets-s h.kept.going.sees.few

  pub few-brought : length (reloaded (force before) h.config).units < 2 ^ 32
  few-brought = subst (λ f. length f.units < 2 ^ 32) force-is (let few = few-s in omega (arith, few.reloads, few.units))

  pub new-there : config_at k (length h.j) ≡ Some h.config
  new-there = ap (λ l. option_and_then config_in (slice_get l (length h.j))) h.journal_is ∙ ap (option_and_then config_in) (get-last h.j line)

  pub last-is-j : length k - 1 ≡ length h.j
  last-is-j = omega (arith, ap length h.journal_is, length-append h.j (line ∷ []))

  -- LAW: what becomes of the numbers is asked with this
  pub plans : PlansLast k u p
  plans = record {
    j = h.j;
    s = before;
    x = line;
    new = h.config;
    journal_is = h.journal_is;
    new_is = new-there;
    sound = h.sound;
    holds = holds-k;
    numbers_are = h.kept.going.sees.looks.numbers_are;
    free_is = h.kept.going.sees.free_is;
    room = (let few = h.kept.going.sees.few in
        let most = units-few h.config (true-of (is_sound_config h.config) h.sound) in
        let all = length-append h.config.automations (map as_unit h.config.scripts) in
        let made = length-map h.config.scripts as_unit in
        let free = h.kept.going.sees.free_is in
        omega (arith, few.reloads, few.units, most, all, made, free));
  }

  -- LAW: the configuration before it
  pub old-there : (old : Config) × (config_at k u.latest ≡ Some old) × IsAlike old (configured before)
  old-there = alike-there (configured before) (config_at k u.latest) holds-k.config_is

  opening-j : (e : Entry) × (slice_get h.j b.front ≡ Some e) × BeginsSegment e
  opening-j = opening-found h.j b h.told.lies

  there-k : slice_get k b.front ≡ slice_get h.j b.front
  there-k = (λ i. slice_get (h.journal_is i) b.front) ∙ get-front h.j (line ∷ []) b.front (get-within h.j b.front opening-j.0 opening-j.1)

  pub opens-k : (e : Entry) × (slice_get k b.front ≡ Some e) × BeginsSegment e
  opens-k = (opening-j.0, there-k ∙ opening-j.1, opening-j.2)

  pub lasts-k : lasts_at k b.front ≡ lasts_carried before
  lasts-k = (λ i. lasts-of (there-k i)) ∙ lasts-found h.j b h.told.lies
    where
      lasts-of : Option Entry → List (Text × ℕ)
      lasts-of o = option_map_or (λ (c : Carry). c.last) (option_map carry_in o) []

  pub numbers-k : numbers_at k b.front ≡ numbers_carried before
  numbers-k = (λ i. numbers-of (there-k i)) ∙ numbers-found h.j b h.told.lies
    where
      numbers-of : Option Entry → List (Text × ℕ)
      numbers-of o = option_map_or (λ (c : Carry). c.numbers) (option_map carry_in o) []

  module _ (old : Config) (plan : Plan) (alike : IsAlike old (configured before)) (planned : IsPlan old p.numbers p.free h.config plan) where
    -- LAW: and what it brings
    abbrev pub brings : BringsNext k b u plan.numbers
    brings = record {
      j = h.j;
      s = before;
      x = line;
      new = h.config;
      journal_is = h.journal_is;
      reloads = refl;
      new_is = new-there;
      sound = h.sound;
      holds = h.told.holds;
      numbers_are = numbers-behind before old h.config p.numbers p.free plan h.kept.going.sees.looks.numbers_are alike planned line some refl h.kept.going.sees.free_is ∙ ap numbers_in force-is;
      few = few-brought;
      opens = opens-k;
      front = lasts-k;
    }

  module _ (n : UnitBook) (holds : Holds k (reloaded (force before) h.config) n) where
    pub holds-next : Holds k (force behind) n
    holds-next = subst (λ f. Holds k f n) (sym force-is) holds

    pub next-firsts : n.firsts.items ≡ firsts_of (names behind)
    next-firsts = firsts-told k behind n holds-next

    pub count-t : length t.firsts ≡ length (units before)
    count-t = ap length (h.firsts_are ∙ firsts-told h.j before u h.told.holds) ∙ firsts-many (names before) ∙ names-many before

    -- LAW: the table is to have its units
    abbrev pub enters : EntersUnits k b n t
    enters = record {
      s = before;
      j = h.j;
      x = line;
      holds = holds-next;
      names_grow = λ a lt. ap (λ (o : Option Automation). option_map_or (λ (y : Automation). y.name) o []) (unit-more before line a lt);
      firsts_are = λ a lt. same-first a lt;
      longer = (let more_there = more-units before line in
          let new = ap length next-firsts ∙ firsts-many (names behind) ∙ names-many behind in
          omega (arith, more_there, count-t, new));
      numbers = h.told.runs.numbers;
      count_is = count-t;
      opens = opens-k;
      front = numbers-k;
    }
      where
        same-first : (a : ℕ) → a < length t.firsts → slice_get n.firsts.items a ≡ slice_get t.firsts a
        same-first a lt =
            (let own : t.firsts ≡ firsts_of (names before) = h.firsts_are ∙ firsts-told h.j before u h.told.holds in
            let grown : names behind ≡ names before ++ names_of (grown-units) = grown-names in
            ap (λ l. slice_get l a) (next-firsts ∙ ap firsts_of grown) ∙ sym (got-front (firsts_of (names before)) (firsts_of (names before ++ names_of grown-units)) a
            (firsts-front (names before) (names_of grown-units) (firsts_of (names before)) refl) (omega (arith, lt, ap length own))) ∙ ap (λ l. slice_get l a) (sym own))
          where
            grown-units : List Automation
            grown-units = entered (force before) (Some h.config)

            grown-names : names behind ≡ names before ++ names_of grown-units
            grown-names = ap names_of (units-grow before line some) ∙ names-append (units before) grown-units

            got-front : (xs ys : List ℕ) (a : ℕ) → xs ≡ take (length xs) ys → a < length xs → slice_get xs a ≡ slice_get ys a
            got-front xs ys a e lt = ap (λ l. slice_get l a) e ∙ by ys (length xs) a lt
              where
                by : (zs : List ℕ) (m i : ℕ) → i < m → slice_get (take m zs) i ≡ slice_get zs i
                by zs zero i g = absurd (omega (arith, g))
                by [] (suc m) i g = refl
                by (z ∷ zs) (suc m) zero g = refl
                by (z ∷ zs) (suc m) (suc i) g = by zs m i (omega (arith, g))

    -- LAW: the segment has it last
    pub seen-k : HoldsLast k b.front b.base n
    seen-k = record {
      j = h.j;
      x = line;
      journal_is = h.journal_is;
      holds = subst (λ (i : Journal). Holds k (force i) n) (sym (more-seen h.j b h.told.lies k line h.journal_is)) holds-next;
    }
