-- What follows the journal as long as memory suffices, with one entry more that opens no segment.
use Rattle.std.proofs.Common.{◌≡◌, ℕ, ◌+◌, ◌-◌, ◌%◌, ◌<◌, List, drop, length, map, Bool, true, false, refl, sym, ap, subst, ◌∙◌, arith}
use Rattle.std.specs.Prelude.{Option, Some, None, option_map, slice_get}
use Rattle.std.proofs.lemmas.List.{length-map}
use Rattle.std.proofs.lemmas.Option.{slice_get-map}
use Rattle.ha_config.specs.declared.command.Cmd.{Cmd}
use Rattle.ha_config.specs.Names.{name_of, names_of}
use Rattle.ha_config.specs.Units.{as_unit}
use Rattle.ha_config.specs.ValueFacts.{all_distinct}
use Rattle.ha_config.proofs.UnitLemmas.{units-apart}
use Rattle.ha_journal.specs.declared.entry.Entry.{Entry}
use Rattle.ha_journal.specs.declared.entry.Entry.TheVariants.{Step}
use Rattle.ha_sight.specs.declared.item.Item.{Item}
use Rattle.ha_sight.specs.Scripts.{Branch}
use Rattle.ha_journal.specs.Entries.{is_restart, reload_in, restarts}
use Rattle.ha_journal.specs.Force.{force}
use Rattle.ha_journal.specs.Journal.{Journal, automations, configured, more, names, now, units}
use Rattle.ha_model.specs.Lawful as one
use Rattle.ha_model.specs.Lawful.{pick}
use Rattle.ha_model.specs.Records as all
use Rattle.ha_whole.specs.Segments.{alone, carried, carried_number, segment}
use Rattle.ha_whole.specs.Whole.{AreEntries, HasRoom, Right, is_quiet, is_rested, ready}
use Rattle.segment_runs.specs.Segment.{all_of, number_at}
use Rattle.named_runs.specs.Named.{NamedTable}
use Rattle.unit_book.specs.declared.book.UnitBook.{UnitBook}
use Rattle.unit_book.specs.Book.{Holds, firsts_of}
use Rattle.whole_laws.specs.Puts.{IsPut}
use Rattle.whole_laws.proofs.CutLemmas.{is-cut}
use Rattle.whole_laws.proofs.LiftLemmas.{quiet-is, ready-is, rested-is}
use Rattle.engine_parts.specs.declared.parts.Parts.{Parts}
use Rattle.engine_parts.specs.Kept.{AreSound, Kept}
use Rattle.segment_carry.proofs.ListedLemmas.{front-apart}
use Rattle.ha_engine.specs.declared.bounds.Bounds.{Bounds}
use Rattle.ha_engine.specs.Told.{AreLasts, IsFollowed, IsTold}
use Rattle.ha_engine.specs.Noted.{noted}
use Rattle.ha_engine.proofs.LastsLemmas.{lasts-more}
use Rattle.ha_engine.proofs.WholeLemmas.{alone-quiet, below-limit, holds-quiet, not-opening, numbers-quiet, on, told-on}

-- the names of a sound configuration's automations differ
pub rules-differ : (s : Journal) → AreSound s → all_distinct (names_of (automations s)) ≡ true
rules-differ s sound = front-apart (automations s) (map as_unit (configured s).scripts) (units-apart (configured s) sound)

-- LAW: the firsts of a book are those of the segment's names
pub firsts-told : (es : Journal) (s : Journal) (u : UnitBook) → Holds es (force s) u → u.firsts.items ≡ firsts_of (names s)
firsts-told es s u h = h.firsts_are ∙ ap firsts_of h.names_are

module _ (j : Journal) (x : Entry) (b : Bounds) (u : UnitBook) (t t' : NamedTable) (p p' : Parts) (ls : List (Option ℕ)) (reset : Bool) (is_put : IsPut x) (stays : is_restart x ≡ false) (quiet : reload_in x ≡ None)
    (told : IsTold j b u t) (followed : IsFollowed j u t p ls reset) (own : one.Right (more (segment j) (alone (segment j) x)) t'.list) (kept : Kept (more (segment j) (alone (segment j) x)) t'.list p')
    (closed : t'.closed ≡ t.closed) (firsts : t'.firsts ≡ t.firsts) (room : HasRoom j false) where
  abbrev s : Journal
  s = segment j

  abbrev k : Journal
  k = more j x

  entries : AreEntries j
  entries = told.lies.entries

  below : length j < b.limit
  below = below-limit j b told.lies told.bounded false room

  records-same : t'.closed.records ≡ t.closed.records
  records-same i = (closed i).records

  entries-same : t'.closed.entries ≡ t.closed.entries
  entries-same i = (closed i).entries

  numbers-same : (a : ℕ) → a < length (units (more s (alone s x))) → number_at t'.closed.numbers a ≡ carried_number (more s (alone s x)) (name_of (units (more s (alone s x))) a)
  numbers-same = numbers-quiet j x u t t' entries quiet told.runs closed

  holds-same : Holds k (force (more s (alone s x))) u
  holds-same = holds-quiet j x u t t' entries quiet told.runs closed told.holds

  -- LAW: it goes on to stand for the journal
  pub plain-told : IsTold k b u t'
  plain-told = told-on j x b u u t t' is_put stays told own records-same entries-same numbers-same holds-same below

  same-segment : segment k ≡ more s (alone s x)
  same-segment = on j x b u u t t' is_put stays told own records-same entries-same numbers-same holds-same below

  firsts-are : t'.firsts ≡ u.firsts.items
  firsts-are = firsts ∙ followed.firsts_are

  -- LAW: and so do the parts and the moments, with those of the runs that were admitted
  pub plain-followed : IsFollowed k u t' p' (noted p'.at t'.firsts (drop (length t.list) t'.list) ls) reset
  plain-followed = record {
    kept = subst (λ i. Kept i t'.list p') (sym same-segment) kept;
    firsts_are = firsts-are;
    lasts_are = subst (λ l. AreLasts (segment k) u l) (λ i. noted (sym kept.going.sees.looks.now_is i) (sym firsts-are i) (drop (length (sym told.runs.own i)) (sym own.records_are i)) ls)
        (subst (λ q. AreLasts q u (noted (now (more s (alone s x))) u.firsts.items (drop (length (all.records_of s)) (all.records_of (more s (alone s x)))) ls)) (sym same-segment)
        (lasts-more s (alone s x) (subst (one.Right s) told.runs.own told.own_right) (alone-quiet j x u t t' entries quiet told.runs closed) u ls (firsts-told j s u told.holds) followed.lasts_are));
    reset_is = λ e. absurd (not-opening j x b u u t t' is_put stays told own records-same entries-same numbers-same holds-same below e);
  }

-- ---- what is told of the last segment alone

module _ (j : Journal) (b : Bounds) (u : UnitBook) (t : NamedTable) (told : IsTold j b u t) where
  -- LAW: the quiet is that of the whole journal
  pub told-quiet : one.is_quiet t.list (segment j) ≡ is_quiet (all_of t.closed t.list) j
  told-quiet = (λ i. one.is_quiet (told.runs.own i) (segment j)) ∙ sym (quiet-is j (all_of t.closed t.list) (is-cut j told.lies.entries) told.right.records_are)

  pub told-rested : (source : ℕ) → one.is_rested t.list source (segment j) ≡ is_rested (all_of t.closed t.list) source j
  told-rested source = (λ i. one.is_rested (told.runs.own i) source (segment j)) ∙ sym (rested-is j (all_of t.closed t.list) (is-cut j told.lies.entries) told.right.records_are source)

  -- LAW: the step of a run of all is that of a run of the segment
  pub step-alone : (worker serial : ℕ) (branch : Branch) (item : Item) → alone (segment j) (Step worker (b.base + serial) branch item) ≡ Step worker serial branch item
  step-alone worker serial branch item = (let e : (b.base + serial) - carried (segment j) ≡ serial = omega (arith, told.lies.base_is) in λ i. Step worker (e i) branch item)

  -- LAW: and it is picked among all
  pub step-picked : (worker serial : ℕ) (branch : Branch) → pick worker (one.ready t.list (segment j)) ≡ Some (serial, branch) → pick worker (ready (all_of t.closed t.list) j) ≡ Some (b.base + serial, branch)
  step-picked worker serial branch e =
      (let pairs : List (ℕ × Branch) = one.ready (all.records_of (segment j)) (segment j) in
      let n : ℕ = carried (segment j) in
      let f : ℕ × Branch → ℕ × Branch = (λ p. (n + p.0, p.1)) in
      ap (pick worker) (ready-is j (all_of t.closed t.list) (is-cut j told.lies.entries) told.right.records_are)
      ∙ (λ i. slice_get (map {A = ℕ × Branch} {B = ℕ × Branch} f pairs) (worker % length-map pairs f i))
      ∙ slice_get-map {A = ℕ × Branch} {B = ℕ × Branch} f pairs (worker % length pairs)
      ∙ ap (option_map f) ((λ i. pick worker (one.ready (sym told.runs.own i) (segment j))) ∙ e)
      ∙ (λ i. Some (sym told.lies.base_is i + serial, branch)))

-- LAW: with the same records all stands for the same journal
pub told-same : (j j' : Journal) (b : Bounds) (u : UnitBook) (t t' : NamedTable) → IsTold j b u t → j' ≡ j → t'.list ≡ t.list → t'.closed ≡ t.closed → IsTold j' b u t'
told-same j j' b u t t' h is list closed =
    subst (λ i. IsTold i b u t') (sym is)
    (record {
      right = subst (Right j) (λ i. all_of (sym closed i) (sym list i)) h.right;
      own_right = subst (one.Right (segment j)) (sym list) h.own_right;
      runs = record {
        own = list ∙ h.runs.own;
        records = (λ i. (closed i).records) ∙ h.runs.records;
        entries = (λ i. (closed i).entries) ∙ h.runs.entries;
        numbers = λ a lt. (λ i. number_at (closed i).numbers a) ∙ h.runs.numbers a lt;
      };
      lies = h.lies;
      bounded = h.bounded;
      holds = h.holds;
    })

pub true-not : {X : Type 0} → true ≡ false → X
true-not e = absurd (let bad : ◌≡◌ {A = Bool} true false = e in cc)

-- LAW: a command that restarts is the one that does
pub restart-is : (cmd : Cmd) → restarts cmd ≡ true → cmd ≡ Cmd.Restart
restart-is Cmd.Restart e = refl
restart-is (Cmd.Reload text config) e = true-not (sym e)
restart-is (Cmd.Report entity text attributes) e = true-not (sym e)
restart-is (Cmd.Gone entity) e = true-not (sym e)
restart-is (Cmd.Event kind pairs) e = true-not (sym e)
restart-is (Cmd.Moment at) e = true-not (sym e)
restart-is (Cmd.Switch name flag stop) e = true-not (sym e)
restart-is (Cmd.Trigger name skip) e = true-not (sym e)
restart-is (Cmd.Refused code) e = true-not (sym e)
restart-is Cmd.Lost e = true-not (sym e)
restart-is Cmd.TooLong e = true-not (sym e)
