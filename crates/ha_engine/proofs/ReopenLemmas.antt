-- A restart: the segment that it closes, and the one that is opened behind it.
use Rattle.std.proofs.Common.{◌≡◌, ℕ, zero, suc, ◌+◌, ◌-◌, ◌≤◌, List, [], ◌∷◌, ◌++◌, length, map, Bool, true, false, refl, sym, ap, subst, ◌∙◌, arith}
use Rattle.std.specs.Prelude.{Option, Some, None, IsSome, drop, not, ◌&&◌, ◌||◌, slice_get, unwrap_or, if◌then◌else◌}
use Rattle.std.specs.List.{enumerate_from, list_any}
use Rattle.std.specs.Option.{option_map_or}
use Rattle.ha_clock.specs.Zone as clock
use Rattle.ha_clock.specs.Local.{last_moment}
use Rattle.ha_config.specs.declared.command.Cmd.{Cmd}
use Rattle.ha_config.specs.declared.config.Automation.{Automation}
use Rattle.ha_config.specs.declared.config.Config.{Config}
use Rattle.ha_config.specs.Equal.{same_flag}
use Rattle.ha_config.specs.Names.{names_of, stored_switch}
use Rattle.ha_config.specs.Numbered.{AreUnits}
use Rattle.ha_config.specs.StoreText.{in_name_order}
use Rattle.ha_config.specs.Units.{units_of}
use Rattle.ha_config.specs.ValueFacts.{all_distinct, keys_of}
use Rattle.ha_config.specs.Words.{Text, same}
use Rattle.ha_config.proofs.EqualLemmas.{same-refl}
use Rattle.ha_config.proofs.ListLemmas.{none-some, some-same}
use Rattle.ha_config.proofs.UnitLemmas.{unit-there}
use Rattle.ha_journal.specs.Force.{IsAlike}
use Rattle.ha_journal.specs.declared.carry.Carry.{Carry}
use Rattle.ha_journal.specs.declared.entry.Entry.{Entry}
use Rattle.ha_journal.specs.declared.entry.Entry.TheVariants.{Boot, Line, Step, Again}
use Rattle.ha_journal.specs.Entries.{Reopening}
use Rattle.ha_journal.specs.Journal.{HasEntry, Journal, IsJournal, automations, configured, in_force, more, units, zone_of}
use Rattle.ha_journal.specs.States.{switches_of}
use Rattle.ha_journal.specs.Switches.{is_on}
use Rattle.ha_journal.proofs.ForceLaws.{automations-more, in-force-are, in-force-more, in-force-units}
use Rattle.ha_journal.proofs.MoreLemmas.{has-entry}
use Rattle.ha_journal.proofs.SwitchLemmas.{on-more}
use Rattle.ha_model.specs.Records.{Records}
use Rattle.ha_sight.specs.Sight.{Automations}
use Rattle.ha_whole.specs.Segments.{reopened}
use Rattle.ha_whole.specs.Whole.{same_pairs_by}
use Rattle.segment_runs.specs.Segment.{Closed, all_of, number_at}
use Rattle.segment_runs.specs.Goes.{moved_all}
use Rattle.store_text.specs.Store.{Switches}
use Rattle.switch_book.specs.Book as switches
use Rattle.switch_book.proofs.StoredLaws.{found-in_name_order}
use Rattle.engine_parts.specs.Kept.{AreSound}
use Rattle.ha_engine.specs.Begun.{Begun, IsBegun}
use Rattle.ha_engine.proofs.MovedLemmas.{got-mapped}
use Rattle.ha_engine.proofs.PairLemmas.{AreBeside, any_differs, order-same}

-- ---- what is opened

-- LAW: it is one Boot alone
pub reopened-begun : (s : Journal) (a : Reopening) → IsJournal s → IsBegun (reopened s a)
reopened-begun [] a h = absurd h
reopened-begun (Boot text config stored start zone carry ∷ es) a h = tt
reopened-begun (Line source number cmd ∷ es) a h = absurd h.0
reopened-begun (Step worker serial branch item ∷ es) a h = absurd h.0
reopened-begun (Again number start stored carry ∷ es) a h = absurd h.0

pub reopened-automations : (s : Journal) (a : Reopening) → IsJournal s → automations (reopened s a) ≡ automations s
reopened-automations [] a h = absurd h
reopened-automations (Boot text config stored start zone carry ∷ es) a h = refl
reopened-automations (Line source number cmd ∷ es) a h = absurd h.0
reopened-automations (Step worker serial branch item ∷ es) a h = absurd h.0
reopened-automations (Again number start stored carry ∷ es) a h = absurd h.0

pub reopened-configured : (s : Journal) (a : Reopening) → IsJournal s → configured (reopened s a) ≡ configured s
reopened-configured [] a h = absurd h
reopened-configured (Boot text config stored start zone carry ∷ es) a h = refl
reopened-configured (Line source number cmd ∷ es) a h = absurd h.0
reopened-configured (Step worker serial branch item ∷ es) a h = absurd h.0
reopened-configured (Again number start stored carry ∷ es) a h = absurd h.0

-- LAW: its switches are those that are restored from what the Again has
pub opening-begun : (s : Journal) (a : Reopening) (zone : Text) (at : ℕ) → IsJournal s → AreSound s → zone ≡ zone_of s → IsSome (clock.zone_of zone) → at ≡ a.start → at ≤ last_moment
    → (sw : Automations) (config : Config) → IsAlike config (configured s)
    → ((text : Text) (start : ℕ) (zone : Text) (carry : Carry) → switches.StandsFor sw (Boot text config (Some a.stored) start zone carry ∷ []))
    → Begun (reopened s a) sw zone at
opening-begun [] a zone at h sound zone_is read at_is in_time sw config same stand = absurd h
opening-begun (Boot text c stored start z carry ∷ es) a zone at h sound zone_is read at_is in_time sw config same stand =
    let d : Config = configured (Boot text c stored start z carry ∷ es) in
    record {
      text = text;
      config = d;
      stored = Some a.stored;
      carry = a.carry;
      journal_is = (λ i. Boot text d (Some a.stored) (sym at_is i) (sym zone_is i) a.carry ∷ []);
      sound = sound;
      zone_read = read;
      in_time = in_time;
      switches_stand = subst (λ (e : Config). switches.StandsFor sw (Boot text e (Some a.stored) a.start z a.carry ∷ [])) same (stand text a.start z a.carry);
    }
opening-begun (Line source number cmd ∷ es) a zone at h sound zone_is read at_is in_time sw config same stand = absurd h.0
opening-begun (Step worker serial branch item ∷ es) a zone at h sound zone_is read at_is in_time sw config same stand = absurd h.0
opening-begun (Again number start stored carry ∷ es) a zone at h sound zone_is read at_is in_time sw config same stand = absurd h.0

-- ---- its switches

apart : (a b : Bool) → (not a && b) ≡ true → (a ≡ false) × (b ≡ true)
apart true b h = absurd (let bad : ◌≡◌ {A = Bool} false true = h in cc)
apart false b h = (refl, h)

either : (a b : Bool) → (a || b) ≡ false → (a ≡ false) × (b ≡ false)
either true b h = absurd (let bad : ◌≡◌ {A = Bool} true false = h in cc)
either false b h = (refl, h)

-- automations with their numbers
abbrev pub Numbered : Type 0
Numbered = List (ℕ × Automation)

abbrev rules_of : Numbered → List Automation
rules_of ps = map {A = ℕ × Automation} {B = Automation} (λ p. p.1) ps

other-name : (t : Text) (ps : Numbered) (n : ℕ) (p : ℕ × Automation) → slice_get ps n ≡ Some p → list_any (same t) (names_of (rules_of ps)) ≡ false → same t p.1.name ≡ false
other-name t [] n p here none = absurd (none-some p here)
other-name t (q ∷ qs) zero p here none = subst (λ (z : ℕ × Automation). same t z.1.name ≡ false) (some-same q p here) (either (same t q.1.name) (list_any (same t) (names_of (rules_of qs))) none).0
other-name t (q ∷ qs) (suc n) p here none = other-name t qs n p here (either (same t q.1.name) (list_any (same t) (names_of (rules_of qs))) none).1

-- the switches of automations whose names differ
abbrev pub switches_by : (ℕ → Bool) → Numbered → Switches
switches_by on ps = map {A = ℕ × Automation} {B = Text × Bool} (λ p. (p.1.name, on p.0)) ps

own-found : (on : ℕ → Bool) (ps : Numbered) → all_distinct (names_of (rules_of ps)) ≡ true → (i : ℕ) (p : ℕ × Automation) → slice_get ps i ≡ Some p → stored_switch p.1.name (switches_by on ps) ≡ Some (on p.0)
own-found on [] d i p here = absurd (none-some p here)
own-found on (q ∷ qs) d zero p here =
    (λ i. stored_switch (sym (some-same q p here) i).1.name (switches_by on (q ∷ qs)))
    ∙ (λ i. if same-refl q.1.name i then Some (on q.0) else stored_switch q.1.name (switches_by on qs))
    ∙ (λ i. Some (on (some-same q p here i).0))
own-found on (q ∷ qs) d (suc i) p here =
    (let parts = apart (list_any (same q.1.name) (names_of (rules_of qs))) (all_distinct (names_of (rules_of qs))) d in
    (λ k. if other-name q.1.name qs i p here parts.0 k then Some (on q.0) else stored_switch p.1.name (switches_by on qs)) ∙ own-found on qs parts.1 i p here)

keys-by : (on : ℕ → Bool) (ps : Numbered) → keys_of (switches_by on ps) ≡ names_of (rules_of ps)
keys-by on [] = refl
keys-by on (p ∷ ps) = ap (λ ts. p.1.name ∷ ts) (keys-by on ps)

-- an automation in force is the unit of its number
pub unit-numbered : (us : List Automation) (ps : Numbered) (i : ℕ) (p : ℕ × Automation) → AreUnits (λ (x : Automation). x) us ps → slice_get ps i ≡ Some p → slice_get us p.0 ≡ Some p.1
unit-numbered us [] i p h here = absurd (none-some p here)
unit-numbered us (q ∷ qs) zero p h here = subst (λ (r : ℕ × Automation). slice_get us r.0 ≡ Some r.1) (some-same q p here) h.0
unit-numbered us (q ∷ qs) (suc i) p h here = unit-numbered us qs i p h.1 here

-- LAW: a restart sets each switch to its initial state, if it has one, and leaves the others
pub on-restarted : (s : Journal) (source number : ℕ) → HasEntry s → (i : ℕ) (p : ℕ × Automation) → slice_get (in_force s) i ≡ Some p
    → is_on (more s (Line source number Cmd.Restart)) p.0 ≡ unwrap_or p.1.initial (is_on s p.0)
on-restarted s source number has i p here =
    on-more s (Line source number Cmd.Restart) p.0 has refl
    ∙ (λ k. unwrap_or (option_map_or (λ (x : Automation). x.initial) (unit-numbered (units s) (in_force s) i p (in-force-units s) here k) None) (is_on s p.0))

-- behind the opening a switch is the initial one, else that of the Again
pub on-opened : (s : Journal) (a : Reopening) (n : ℕ) (x : Automation) → IsJournal s → slice_get (automations s) n ≡ Some x → is_on (reopened s a) n ≡ unwrap_or x.initial (unwrap_or (stored_switch x.name a.stored) true)
on-opened [] a n x h here = absurd h
on-opened (Boot text config stored start zone carry ∷ es) a n x h here =
    (let k : Journal = Boot text config stored start zone carry ∷ es in
    let there : slice_get (units_of (configured k)) n ≡ Some x = unit-there (configured k) n x here in
    λ i. unwrap_or (option_map_or (λ (y : Automation). y.initial) (there i) None) (unwrap_or (stored_switch (option_map_or (λ (y : Automation). y.name) (there i) []) a.stored) true))
on-opened (Line source number cmd ∷ es) a n x h here = absurd h.0
on-opened (Step worker serial branch item ∷ es) a n x h here = absurd h.0
on-opened (Again number start stored carry ∷ es) a n x h here = absurd h.0

twice : (o : Option Bool) (b : Bool) → unwrap_or o (unwrap_or o b) ≡ unwrap_or o b
twice None b = refl
twice (Some x) b = refl

-- LAW: a restart and the opening behind it set each switch to its initial state, if it has one, and leave the others
pub on-reopened : (s : Journal) (source number : ℕ) (a : Reopening) → IsJournal s → IsJournal (more s (Line source number Cmd.Restart)) → all_distinct (names_of (automations s)) ≡ true
    → a.stored ≡ in_name_order (switches_of (more s (Line source number Cmd.Restart))) → (n : ℕ) (p : ℕ × Automation) → slice_get (in_force s) n ≡ Some p
    → is_on (reopened (more s (Line source number Cmd.Restart)) a) n ≡ unwrap_or p.1.initial (is_on s p.0)
on-reopened s source number a h h-k distinct stored n p here =
    (let r : Entry = Line source number Cmd.Restart in
    let k : Journal = more s r in
    let has : HasEntry s = has-entry s h in
    let same-force : in_force s ≡ in_force k = in-force-more s r has refl in
    let here-k : slice_get (in_force k) n ≡ Some p = (λ i. slice_get (sym same-force i) n) ∙ here in
    let rule-k : slice_get (automations k) n ≡ Some p.1 = (λ i. slice_get (sym (in-force-are k) i) n) ∙ got-mapped {X = ℕ × Automation} {Y = Automation} (λ q. q.1) (in_force k) n p here-k in
    let distinct-k : all_distinct (names_of (rules_of (in_force k))) ≡ true
    = (λ i. all_distinct (names_of (rules_of (sym same-force i)))) ∙ (λ i. all_distinct (names_of (in-force-are s i))) ∙ distinct in
    let found : stored_switch p.1.name a.stored ≡ Some (is_on k p.0)
    = (λ i. stored_switch p.1.name (stored i))
    ∙ found-in_name_order p.1.name (switches_of k) ((λ i. all_distinct (keys-by (is_on k) (in_force k) i)) ∙ distinct-k)
    ∙ own-found (is_on k) (in_force k) distinct-k n p here-k in
    on-opened k a n p.1 h-k rule-k
    ∙ (λ i. unwrap_or p.1.initial (unwrap_or (found i) true))
    ∙ (λ i. unwrap_or p.1.initial (on-restarted s source number has n p here i))
    ∙ twice p.1.initial (is_on s p.0))

-- the automations in force behind the opening have their places as numbers
pub reopened-force : (s : Journal) (a : Reopening) → IsJournal s → in_force (reopened s a) ≡ enumerate_from 0 (automations s)
reopened-force [] a h = absurd h
reopened-force (Boot text config stored start zone carry ∷ es) a h = refl
reopened-force (Line source number cmd ∷ es) a h = absurd h.0
reopened-force (Step worker serial branch item ∷ es) a h = absurd h.0
reopened-force (Again number start stored carry ∷ es) a h = absurd h.0

-- ---- what changes with it

-- the switches of these automations, by their places from n on, are beside those by their numbers
placed-beside : (on : ℕ → Bool) (now' : ℕ → Bool) (n : ℕ) (ps : Numbered) → AreBeside same_flag (switches_by on ps) (switches_by now' (enumerate_from n (rules_of ps)))
placed-beside on now' n [] = tt
placed-beside on now' n (p ∷ ps) = (refl, placed-beside on now' (n + 1) ps)

placed-differs : (on now' new : ℕ → Bool) (test : ℕ × Automation → Bool) (n : ℕ) (ps : Numbered) → ((i : ℕ) (p : ℕ × Automation) → slice_get ps i ≡ Some p → not (same_flag (on p.0) (now' (n + i))) ≡ test p)
    → any_differs same_flag (switches_by on ps) (switches_by now' (enumerate_from n (rules_of ps))) ≡ list_any test ps
placed-differs on now' new test n [] h = refl
placed-differs on now' new test n (p ∷ ps) h =
    (let e : n + 0 ≡ n = omega arith in
    λ i. ((λ k. not (same_flag (on p.0) (now' (sym e k)))) ∙ h 0 p refl) i
    || placed-differs on now' new test (n + 1) ps (λ m q here. (let next : n + 1 + m ≡ n + suc m = omega arith in (λ k. not (same_flag (on q.0) (now' (next k)))) ∙ h (suc m) q here)) i)

-- LAW: the switches in force are others exactly where an initial state is another than the switch was
pub switches-reopened : (s : Journal) (source number : ℕ) (a : Reopening) → IsJournal s → IsJournal (more s (Line source number Cmd.Restart)) → all_distinct (names_of (automations s)) ≡ true
    → a.stored ≡ in_name_order (switches_of (more s (Line source number Cmd.Restart)))
    → not (same_pairs_by same_flag (in_name_order (switches_of s)) (in_name_order (switches_of (reopened (more s (Line source number Cmd.Restart)) a))))
    ≡ list_any (λ (p : ℕ × Automation). not (same_flag (is_on s p.0) (unwrap_or p.1.initial (is_on s p.0)))) (in_force s)
switches-reopened s source number a h h-k distinct stored =
    let r : Entry = Line source number Cmd.Restart in
    let k : Journal = more s r in
    let n : Journal = reopened k a in
    let rules : automations k ≡ rules_of (in_force s) = sym (automations-more s r (has-entry s h) refl) ∙ sym (in-force-are s) in
    let force-n : in_force n ≡ enumerate_from 0 (rules_of (in_force s)) = reopened-force k a h-k ∙ (λ i. enumerate_from 0 (rules i)) in
    (λ i. not (same_pairs_by same_flag (in_name_order (switches_of s)) (in_name_order (switches_by (is_on n) (force-n i)))))
    ∙ order-same same_flag (switches_of s) (switches_by (is_on n) (enumerate_from 0 (rules_of (in_force s)))) (placed-beside (is_on s) (is_on n) 0 (in_force s))
    ∙ placed-differs (is_on s) (is_on n) (is_on n) (λ p. not (same_flag (is_on s p.0) (unwrap_or p.1.initial (is_on s p.0)))) 0 (in_force s)
    (λ i p here. (let e : 0 + i ≡ i = omega arith in (λ m. not (same_flag (is_on s p.0) (is_on n (e m)))) ∙ (λ m. not (same_flag (is_on s p.0) (on-reopened s source number a h h-k distinct stored i p here m)))))

-- ---- the records

-- LAW: as many of the last segment are as many of all
pub all-as-long : (c : Closed) (rs rs' : Records) → length rs ≡ length rs' → length (all_of c rs) ≡ length (all_of c rs')
all-as-long c rs rs' e = behind c.records
  where
    many : (xs : Records) → length (moved_all c.entries (length c.records) (number_at c.numbers) xs) ≡ length xs
    many [] = refl
    many (x ∷ xs) = ap suc (many xs)

    behind : (cs : Records) → length (cs ++ moved_all c.entries (length c.records) (number_at c.numbers) rs) ≡ length (cs ++ moved_all c.entries (length c.records) (number_at c.numbers) rs')
    behind [] = many rs ∙ e ∙ sym (many rs')
    behind (r ∷ cs) = ap suc (behind cs)

-- nothing is behind as many as there are
pub none-behind : {X : Type 0} (xs ys : List X) → length xs ≡ length ys → drop (length xs) ys ≡ []
none-behind [] [] e = refl
none-behind [] (y ∷ ys) e = absurd (omega (arith, e))
none-behind (x ∷ xs) [] e = absurd (omega (arith, e))
none-behind (x ∷ xs) (y ∷ ys) e = none-behind xs ys (omega (arith, e))
