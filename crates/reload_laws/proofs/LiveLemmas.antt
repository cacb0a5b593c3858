-- Each live run of a right journal is of a unit in force.
use Rattle.std.proofs.Common.{◌≡◌, ℕ, zero, suc, ◌+◌, ◌-◌, ◌⊎◌, inl, inr, Bool, true, false, cond, List, [], ◌∷◌, ◌++◌, length, map, take, refl, sym, ap, subst, ◌∙◌, arith, rules, append_assoc, Option}
use Rattle.std.specs.Prelude.{Some, None, filter, find, flat_map, nat_eq, not, option_and_then, option_map, slice_get, ◌&&◌, ◌||◌, if◌then◌else◌}
use Rattle.std.specs.List.{enumerate_from, list_all}
use Rattle.std.specs.Option.{option_map_or}
use Rattle.std.proofs.lemmas.List.{take_all}
use Rattle.ha_config.specs.declared.command.Cmd.{Cmd}
use Rattle.ha_config.specs.declared.config.Automation.{Automation}
use Rattle.ha_config.specs.declared.config.Config.{Config}
use Rattle.ha_config.specs.declared.config.Script.{Script}
use Rattle.ha_config.specs.Names.{named_among}
use Rattle.ha_config.specs.Numbered.{has_number}
use Rattle.ha_config.specs.Words.{EachAfter, Text, last_of, or_else, same}
use Rattle.ha_config.proofs.EqualLemmas.{and_left, and_right}
use Rattle.ha_config.proofs.ListLemmas.{append-nil, get-last, none-some, some-same}
use Rattle.ha_sight.specs.declared.item.Item.{Item}
use Rattle.ha_sight.specs.Inner.{Scripts}
use Rattle.ha_sight.specs.Scripts.{Branch, Outcome, Spot, is_open}
use Rattle.ha_sight.specs.Sight.{Automations}
use Rattle.ha_journal.specs.declared.entry.Entry.{Entry}
use Rattle.ha_journal.specs.declared.entry.Entry.TheVariants.{Boot, Line, Step, Again}
use Rattle.ha_journal.specs.Attempts.{Attempt, attempt_for, attempts, attempts_asked, attempts_of, by_hand, fired_for, passes, passing}
use Rattle.ha_journal.specs.Entries.{Asked, IsBoot, asked_in, reload_in}
use Rattle.ha_journal.specs.Force.{Force, force, has_unit}
use Rattle.ha_journal.specs.Journal.{HasEntry, IsJournal, Journal, in_force, last_place, more, through, units}
use Rattle.ha_journal.specs.Moves.{sight}
use Rattle.ha_journal.specs.Switches.{is_on, since}
use Rattle.ha_journal.specs.Triggers.{Fired, firings}
use Rattle.ha_journal.proofs.FiringLaws.{passing-last}
use Rattle.ha_journal.proofs.ForceLaws.{force-still}
use Rattle.ha_journal.proofs.MoreLemmas.{through-last}
use Rattle.ha_model.specs.declared.record.EndCause.{EndCause}
use Rattle.ha_model.specs.declared.record.Record.{Record}
use Rattle.ha_model.specs.Lawful.{IsRightEntry, Right, record_of}
use Rattle.ha_model.specs.Records.{Records, actions_of, is_restart_mode, lets_in_after, mode_of, new_record, next_spot, own_cause, ran, records_of, spots}
use Rattle.ha_model.specs.RunSteps.{attempt_all, ends_for, joined, own_ends, replace_all, settled}
use Rattle.ha_model.proofs.FoldLaws.{records-more}
use Rattle.ha_model.proofs.StepLaws.{ran-step}
use Rattle.script_laws.specs.Stands.{is_automation_in, is_script_in, names_in, sees_named}
use Rattle.script_laws.proofs.ByScript.{script-stands, script-used}
use Rattle.script_laws.proofs.StandLemmas.{last-stands}
use Rattle.reload_laws.proofs.KeptLemmas.{or-left, or-right}
use Rattle.reload_laws.proofs.KeptRuns.{cause-is}

-- ---- records

-- where the record is live, its unit is in force
abbrev IsLive : Force → Record → Type 0
IsLive f r = r.end ≡ None → has_unit f r.automation ≡ true

abbrev AllLive : Force → Records → Type 0
AllLive f [] = Unit {0}
AllLive f (r ∷ rs) = IsLive f r × AllLive f rs

live-at : (f : Force) (rs : Records) (n : ℕ) (r : Record) → AllLive f rs → slice_get rs n ≡ Some r → IsLive f r
live-at f [] n r h e = absurd (none-some r e)
live-at f (y ∷ ys) zero r h e = subst (IsLive f) (some-same y r e) h.0
live-at f (y ∷ ys) (suc n) r h e = live-at f ys n r h.1 e

none-left : (e other : Option (ℕ × EndCause)) → or_else e other ≡ None → e ≡ None
none-left None other h = refl
none-left (Some x) other h = h

none-right : (e other : Option (ℕ × EndCause)) → or_else e other ≡ None → other ≡ None
none-right None other h = h
none-right (Some x) other h = absurd (none-some x (sym h))

no-cause : (p : ℕ) (cause : Option EndCause) → option_map {T = EndCause} {U = ℕ × EndCause} (λ c. (p, c)) cause ≡ None → cause ≡ None
no-cause p None h = refl
no-cause p (Some c) h = absurd (none-some (p, c) (sym h))

live-snoc : (f : Force) (rs : Records) (r : Record) → AllLive f rs → IsLive f r → AllLive f (rs ++ (r ∷ []))
live-snoc f [] r h one = (one, tt)
live-snoc f (y ∷ ys) r h one = (h.0, live-snoc f ys r h.1 one)

live-replaced : (f : Force) (a p : ℕ) (rs : Records) → AllLive f rs → AllLive f (replace_all a p rs)
live-replaced f a p [] h = tt
live-replaced f a p (r ∷ rs) h =
    (λ e. h.0 (none-left r.end (option_map {T = EndCause} (λ c. (p, c)) (if nat_eq r.automation a then Some EndCause.Replaced else None)) e), live-replaced f a p rs h.1)

live-settled : (f : Force) (k : Journal) (before rs : Records) → AllLive f rs → AllLive f (settled k before rs)
live-settled f k before [] h = tt
live-settled f k before (r ∷ rs) h = (h.0, live-settled f k (r ∷ before) rs h.1)

-- each of these attempts is of a unit in force
abbrev AllOf : Force → List Attempt → Type 0
AllOf f [] = Unit {0}
AllOf f (x ∷ xs) = (has_unit f x.automation ≡ true) × AllOf f xs

abbrev AllAsked : Force → List (ℕ × Attempt) → Type 0
AllAsked f [] = Unit {0}
AllAsked f (x ∷ xs) = (has_unit f x.1.automation ≡ true) × AllAsked f xs

live-attempts : (f : Force) (k : Journal) (rs : Records) (xs : List (ℕ × Attempt)) → AllAsked f xs → AllLive f rs → AllLive f (attempt_all k rs xs)
live-attempts f k rs [] asked h = h
live-attempts f k rs (x ∷ xs) asked h =
    live-attempts f k (if lets_in_after (units k) rs x.1.automation then joined (mode_of (units k) x.1.automation) x.1.automation (last_place k) rs (new_record k rs x) else rs) xs asked.1
    (by (lets_in_after (units k) rs x.1.automation))
  where
    one : (b : Bool) → AllLive f ((if b then replace_all x.1.automation (last_place k) rs else rs) ++ (new_record k rs x ∷ []))
    one true = live-snoc f (replace_all x.1.automation (last_place k) rs) (new_record k rs x) (live-replaced f x.1.automation (last_place k) rs h) (λ e. asked.0)
    one false = live-snoc f rs (new_record k rs x) h (λ e. asked.0)

    by : (b : Bool) → AllLive f (if b then joined (mode_of (units k) x.1.automation) x.1.automation (last_place k) rs (new_record k rs x) else rs)
    by true = one (is_restart_mode (mode_of (units k) x.1.automation))
    by false = h

-- ---- lists of attempts

of-append : (f : Force) (xs ys : List Attempt) → AllOf f xs → AllOf f ys → AllOf f (xs ++ ys)
of-append f [] ys h g = g
of-append f (x ∷ xs) ys h g = (h.0, of-append f xs ys h.1 g)

of-each : {X : Type 0} (f : Force) (make : X → Attempt) → ((y : X) → has_unit f (make y).automation ≡ true) → (ys : List X) → AllOf f (map make ys)
of-each f make h [] = tt
of-each f make h (y ∷ ys) = (h y, of-each f make h ys)

of-chosen : (f : Force) (make : ℕ → Attempt) → ((a : ℕ) → (make a).automation ≡ a) → (ns : List ℕ) → list_all (has_unit f) ns ≡ true → AllOf f (map make ns)
of-chosen f make own [] h = tt
of-chosen f make own (a ∷ ns) h =
    (ap (has_unit f) (own a) ∙ and_left (has_unit f a) (list_all (has_unit f) ns) h, of-chosen f make own ns (and_right (has_unit f a) (list_all (has_unit f) ns) h))

asked-numbered : (f : Force) (n : ℕ) (xs : List Attempt) → AllOf f xs → AllAsked f (enumerate_from n xs)
asked-numbered f n [] h = tt
asked-numbered f n (x ∷ xs) h = (h.0, asked-numbered f (n + 1) xs h.1)

asked-kept : (f : Force) (test : ℕ × Attempt → Bool) (xs : List (ℕ × Attempt)) → AllAsked f xs → AllAsked f (filter test xs)
asked-kept f test [] h = tt
asked-kept f test (x ∷ xs) h = by (test x) (asked-kept f test xs h.1)
  where
    by : (b : Bool) → AllAsked f (filter test xs) → AllAsked f (cond b (x ∷ filter test xs) (filter test xs))
    by true later = (h.0, later)
    by false later = later

-- ---- numbers of what is in force

same-number : (m n : ℕ) → m ≡ n → nat_eq m n ≡ true
same-number m n e = search (rules, e)

-- it is one of these
abbrev IsOne : ℕ × Automation → List (ℕ × Automation) → Type 0
IsOne q [] = ⊥
IsOne q (y ∷ ys) = (y ≡ q) ⊎ IsOne q ys

one-has : (q : ℕ × Automation) (ys : List (ℕ × Automation)) → IsOne q ys → has_number ys q.0 ≡ true
one-has q [] h = absurd h
one-has q (y ∷ ys) (inl e) = or-left (nat_eq y.0 q.0) (has_number ys q.0) (same-number y.0 q.0 (ap (λ (z : ℕ × Automation). z.0) e))
one-has q (y ∷ ys) (inr h) = or-right (nat_eq y.0 q.0) (has_number ys q.0) (one-has q ys h)

found-has : (test : ℕ × Automation → Bool) (ys : List (ℕ × Automation)) (q : ℕ × Automation) → find test ys ≡ Some q → has_number ys q.0 ≡ true
found-has test [] q e = absurd (none-some q e)
found-has test (y ∷ ys) q e = by (test y) e (found-has test ys q)
  where
    by : (b : Bool) → cond b (Some y) (find test ys) ≡ Some q → (find test ys ≡ Some q → has_number ys q.0 ≡ true) → (nat_eq y.0 q.0 || has_number ys q.0) ≡ true
    by true e later = or-left (nat_eq y.0 q.0) (has_number ys q.0) (same-number y.0 q.0 (ap (λ (z : ℕ × Automation). z.0) (some-same y q e)))
    by false e later = or-right (nat_eq y.0 q.0) (has_number ys q.0) (later e)

named-has : (ys : List (ℕ × Automation)) (name : Text) (a : ℕ) → named_among ys name ≡ Some a → has_number ys a ≡ true
named-has ys name a h = by (find (λ (p : ℕ × Automation). same p.1.name name) ys) refl h
  where
    by : (o : Option (ℕ × Automation)) → find (λ (p : ℕ × Automation). same p.1.name name) ys ≡ o → option_map (λ (p : ℕ × Automation). p.0) o ≡ Some a → has_number ys a ≡ true
    by None is h = absurd (none-some a h)
    by (Some q) is h = subst (λ (m : ℕ). has_number ys m ≡ true) (some-same q.0 a h) (found-has (λ (p : ℕ × Automation). same p.1.name name) ys q is)

-- what a place sees is what is in force
rules-seen : (on : ℕ → Bool) (ys : List (ℕ × Automation)) (a : ℕ) → is_automation_in (map {A = ℕ × Automation} {B = ℕ × Text × Bool} (λ p. (p.0, p.1.name, on p.0)) ys) a ≡ has_number ys a
rules-seen on [] a = refl
rules-seen on (y ∷ ys) a = ap (λ (b : Bool). nat_eq y.0 a || b) (rules-seen on ys a)

scripts-seen : (ys : List (ℕ × Script)) (a : ℕ) → is_script_in (map {A = ℕ × Script} {B = Text × ℕ} (λ p. (p.1.name, p.0)) ys) a ≡ has_number ys a
scripts-seen [] a = refl
scripts-seen (y ∷ ys) a = ap (λ (b : Bool). nat_eq y.0 a || b) (scripts-seen ys a)

module _ (j : Journal) where
  whole : take (length j) j ≡ j
  whole = take_all (length j) j (omega arith)

  rule-in-force : (a : ℕ) → is_automation_in (sight j (length j)).automations a ≡ true → has_unit (force j) a ≡ true
  rule-in-force a h =
      or-left (has_number (force j).rules a) (has_number (force j).scripts a)
      ((λ i. has_number (in_force (sym whole i)) a) ∙ sym (rules-seen (is_on (take (length j) j)) (in_force (take (length j) j)) a) ∙ h)

  script-in-force : (a : ℕ) → is_script_in (sight j (length j)).scripts a ≡ true → has_unit (force j) a ≡ true
  script-in-force a h =
      or-right (has_number (force j).rules a) (has_number (force j).scripts a)
      ((λ i. has_number (force (sym whole i)).scripts a) ∙ sym (scripts-seen (force (take (length j) j)).scripts a) ∙ h)

-- ---- what an entry asks for

-- the numbers that are asked for are of units in force
abbrev AskedIn : Force → Asked → Type 0
AskedIn f (Asked.ByName name skip) = Unit {0}
AskedIn f (Asked.ByNumber chosen skip) = list_all (has_unit f) chosen ≡ true
AskedIn f (Asked.OfScripts chosen fields) = list_all (has_unit f) chosen ≡ true
AskedIn f Asked.Nobody = Unit {0}

all-then : (one two : ℕ → Bool) → ((a : ℕ) → one a ≡ true → two a ≡ true) → (ns : List ℕ) → list_all one ns ≡ true → list_all two ns ≡ true
all-then one two then' [] h = refl
all-then one two then' (a ∷ ns) h =
    (λ i. then' a (and_left (one a) (list_all one ns) h) i && list_all two ns) ∙ all-then one two then' ns (and_right (one a) (list_all one ns) h)

line-asked : (f : Force) (source number : ℕ) (cmd : Cmd) → AskedIn f (asked_in (Line source number cmd))
line-asked f source number (Cmd.Report entity text attributes) = tt
line-asked f source number (Cmd.Gone entity) = tt
line-asked f source number (Cmd.Event kind pairs) = tt
line-asked f source number (Cmd.Moment at) = tt
line-asked f source number (Cmd.Switch name on stop) = tt
line-asked f source number (Cmd.Trigger name skip) = tt
line-asked f source number Cmd.Restart = tt
line-asked f source number (Cmd.Reload text config) = tt
line-asked f source number (Cmd.Refused code) = tt
line-asked f source number Cmd.Lost = tt
line-asked f source number Cmd.TooLong = tt

module _ (f : Force) (all : Automations) (scripts : Scripts) (rule : (a : ℕ) → is_automation_in all a ≡ true → has_unit f a ≡ true) (script : (a : ℕ) → is_script_in scripts a ≡ true → has_unit f a ≡ true) where
  step-asked : (worker serial : ℕ) (b : Branch) (item : Item) → names_in all scripts item ≡ true → AskedIn f (asked_in (Step worker serial b item))
  step-asked worker serial b (Item.Triggered automations skip) h = all-then (is_automation_in all) (has_unit f) rule automations h
  step-asked worker serial b (Item.Started chosen fields waits) h = all-then (is_script_in scripts) (has_unit f) script chosen h
  step-asked worker serial b (Item.Switched targets) h = tt
  step-asked worker serial b (Item.Halted chosen) h = tt
  step-asked worker serial b (Item.Helped changes) h = tt
  step-asked worker serial b Item.Nothing h = tt
  step-asked worker serial b (Item.Call service target fields) h = tt
  step-asked worker serial b (Item.Fired kind pairs) h = tt
  step-asked worker serial b (Item.Failed code) h = tt

module _ (j : Journal) (worker serial : ℕ) (b : Branch) (item : Item) (some : HasEntry j) where
  abbrev step : Entry
  step = Step worker serial b item

  step-sees : (r : Record) → r.serial ≡ serial → (o : Option Outcome) → ran (more j step) r ≡ o → option_and_then (λ z. last_of z.items) o ≡ Some item → sees_named (sight j (length j)) item ≡ true
  step-sees r own None f e = absurd (none-some item e)
  step-sees r own (Some o) f e =
      let ps : List Spot = spots j r.serial ++ (next_spot j b ∷ []) in
      let given = sym (ran-step j worker serial b item r some own) ∙ f in
      (last-stands (is_open o.status) (spots j r.serial) (next_spot j b) o.items item (script-used (actions_of (units j) r.automation) r.env ps o given)
      (script-stands (actions_of (units j) r.automation) r.env ps o given) e).sees

  still : (a : ℕ) → has_unit (force j) a ≡ true → has_unit (force (more j step)) a ≡ true
  still a h = (λ i. has_unit (sym (force-still j step some refl) i) a) ∙ h

  step-right : (rs : Records) → IsRightEntry rs j step → AskedIn (force (more j step)) (asked_in step)
  step-right rs right =
      step-asked (force (more j step)) (sight j (length j)).automations (sight j (length j)).scripts (λ a h. still a (rule-in-force j a h)) (λ a h. still a (script-in-force j a h))
      worker serial b item (step-sees right.0 right.2 (ran (more j step) right.0) refl right.3.item_is)

-- LAW: what a right entry asks for by numbers is in force
entry-asked : (rs : Records) (j : Journal) (x : Entry) → HasEntry j → IsRightEntry rs j x → AskedIn (force (more j x)) (asked_in x)
entry-asked rs j (Boot text config stored start zone carry) some right = tt
entry-asked rs j (Again number start stored carry) some right = tt
entry-asked rs j (Line source number cmd) some right = line-asked (force (more j (Line source number cmd))) source number cmd
entry-asked rs j (Step worker serial b item) some right = step-right j worker serial b item some rs right

-- the attempts by the triggers of these automations
fired-in : (f : Force) (k : Journal) (p : ℕ) (ys : List (ℕ × Automation)) → ((q : ℕ × Automation) → IsOne q ys → has_unit f q.0 ≡ true) → AllOf f (flat_map (fired_for k p) ys)
fired-in f k p [] h = tt
fired-in f k p (y ∷ ys) h = of-append f (fired_for k p y) (flat_map (fired_for k p) ys) (by (is_on (take (suc p) k) y.0)) (fired-in f k p ys (λ q one. h q (inr one)))
  where
    fires : List Fired
    fires = firings k y.1.triggers (since (take (suc p) k) y.0) p

    by : (b : Bool) → AllOf f (if b then map (attempt_for y.0) fires else [])
    by true = of-each f (attempt_for y.0) (λ one. h y (inl refl)) fires
    by false = tt

module _ (j : Journal) (x : Entry) where
  abbrev k : Journal
  k = more j x

  here : (a : ℕ) → has_number (in_force (through k (length j))) a ≡ true → has_unit (force k) a ≡ true
  here a h =
      (λ i. has_unit (force (sym (through-last j x) i)) a)
      ∙ or-left (has_number (force (through k (length j))).rules a) (has_number (force (through k (length j))).scripts a) h

  asked-in-force : (a : Asked) → AskedIn (force k) a → AllOf (force k) (attempts_asked k (length j) a)
  asked-in-force (Asked.ByName name skip) h = by (named_among (in_force (through k (length j))) name) refl
    where
      by : (o : Option ℕ) → named_among (in_force (through k (length j))) name ≡ o → AllOf (force k) (option_map_or (λ a. record { automation = a; env = by_hand; skip = skip } ∷ []) o [])
      by None is = tt
      by (Some a) is = (here a (named-has (in_force (through k (length j))) name a is), tt)
  asked-in-force (Asked.ByNumber chosen skip) h = of-chosen (force k) (λ a. record { automation = a; env = by_hand; skip = skip }) (λ a. refl) chosen h
  asked-in-force (Asked.OfScripts chosen fields) h = of-chosen (force k) (λ a. record { automation = a; env = by_hand ++ fields; skip = true }) (λ a. refl) chosen h
  asked-in-force Asked.Nobody h =
      fired-in (force k) k (length j) (in_force (through k (length j))) (λ q one. here q.0 (one-has q (in_force (through k (length j))) one))

  attempts-in : AskedIn (force k) (asked_in x) → AllOf (force k) (attempts k (length j))
  attempts-in h = subst (AllOf (force k)) (λ i. option_map_or (attempts_of k (length j)) (sym (get-last j x) i) []) (asked-in-force (asked_in x) h)

  passing-in : AskedIn (force k) (asked_in x) → AllAsked (force k) (passing k)
  passing-in h =
      subst (AllAsked (force k)) (sym (passing-last j x))
      (asked-kept (force k) (λ y. passes k (length j) y.1) (enumerate_from 0 (attempts k (length j))) (asked-numbered (force k) 0 (attempts k (length j)) (attempts-in h)))

  -- what an entry leaves of these records, behind its ends
  live-after : (rs : Records) → records_of j ≡ rs → AllLive (force k) (own_ends k rs) → AskedIn (force k) (asked_in x) → AllLive (force k) (records_of k)
  live-after rs are h asked =
      subst (AllLive (force k)) (sym (records-more j x))
      (live-settled (force k) k [] (attempt_all k (own_ends k (records_of j)) (passing k))
      (live-attempts (force k) k (own_ends k (records_of j)) (passing k) (passing-in asked) (subst (λ (old : Records). AllLive (force k) (own_ends k old)) (sym are) h)))

  module _ (some : HasEntry j) where
    live-own : (r : Record) → IsLive (force j) r → IsLive (force k) (ends_for (last_place k) (own_cause k r) r)
    live-own r h e = by (reload_in x) refl
      where
        ends : Option (ℕ × EndCause)
        ends = option_map {T = EndCause} (λ c. (last_place k, c)) (own_cause k r)

        kept : (c : Config) → reload_in x ≡ Some c → (b : Bool) → has_unit (force k) r.automation ≡ b → b ≡ true
        kept c reloads true is = refl
        kept c reloads false is =
            absurd (none-some EndCause.Reloaded (sym (no-cause (last_place k) (own_cause k r) (none-right r.end ends e)) ∙ cause-is j x c reloads r ∙ (λ i. if not (is i) then Some EndCause.Reloaded else None)))

        by : (o : Option Config) → reload_in x ≡ o → has_unit (force k) r.automation ≡ true
        by None is = (λ i. has_unit (sym (force-still j x some is) i) r.automation) ∙ h (none-left r.end ends e)
        by (Some c) is = kept c is (has_unit (force k) r.automation) refl

    live-ends : (rs : Records) → AllLive (force j) rs → AllLive (force k) (own_ends k rs)
    live-ends [] h = tt
    live-ends (r ∷ rs) h = (live-own r h.0, live-ends rs h.1)

-- ---- along a journal

no-records : records_of [] ≡ []
unfolding records_of
no-records = refl

has-more : (j : Journal) (x : Entry) → HasEntry (more j x)
has-more [] x = tt
has-more (e ∷ es) x = tt

live-along : (rs : Records) (before xs : Journal) → HasEntry before → AllLive (force before) (records_of before) → EachAfter (IsRightEntry rs) before xs
    → AllLive (force (before ++ xs)) (records_of (before ++ xs))
live-along rs before [] some h right = subst (λ (l : Journal). AllLive (force l) (records_of l)) (sym (append-nil before)) h
live-along rs before (x ∷ xs) some h right =
    subst (λ (l : Journal). AllLive (force l) (records_of l)) (append_assoc before (x ∷ []) xs)
    (live-along rs (more before x) xs (has-more before x)
    (live-after before x (records_of before) refl (live-ends before x some (records_of before) h) (entry-asked rs before x some right.0)) right.1)

live-first : (x : Entry) → IsBoot x → AllLive (force (x ∷ [])) (records_of (x ∷ []))
live-first (Boot text config stored start zone carry) is = live-after [] (Boot text config stored start zone carry) [] no-records tt tt
live-first (Again number start stored carry) is = absurd is
live-first (Line source number cmd) is = absurd is
live-first (Step worker serial b item) is = absurd is

all-live : (rs : Records) (j : Journal) → IsJournal j → EachAfter (IsRightEntry rs) [] j → AllLive (force j) (records_of j)
all-live rs [] is right = absurd is
all-live rs (x ∷ xs) is right = live-along rs (x ∷ []) xs tt (live-first x is.0) right.1

-- LAW: each live run of a right journal is of a unit in force
pub live-in-force : (j : Journal) (rs : Records) → Right j rs → (s : ℕ) (r : Record) → record_of rs s ≡ Some r → r.end ≡ None → has_unit (force j) r.automation ≡ true
live-in-force j rs right s r found live =
    live-at (force j) (records_of j) (s - 1) r (all-live rs j right.journal right.entries) ((λ i. slice_get (sym right.records_are i) (s - 1)) ∙ found) live
