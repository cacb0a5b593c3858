-- What follows of a line that is the next lawful one, and that a core's own entry is such a one.
use Rattle.std.proofs.Common.{◌≡◌, ◌∙◌, ap, sym, subst, refl, ℕ, zero, suc, ◌+◌, ◌-◌, ◌<◌, ◌≤◌, inl, inr, List, [], ◌∷◌, ◌++◌, length, Bool, true, false, rules, arith, append_assoc}
use Rattle.std.proofs.lemmas.List.Folds.{list_any-append}
use Rattle.std.proofs.lemmas.List.Sums.{sum_by-append}
use Rattle.std.specs.Prelude.{◌⊎◌, ◌||◌, cond, nat_eq, nat_lt, Option, Some, None, count_by, is_some, map, slice_get, if◌then◌else◌}
use Rattle.std.specs.List.{list_all, list_any}
use Rattle.std.specs.Option.{option_map_or}
use Rattle.ha_config.specs.declared.config.Automation.{Automation}
use Rattle.ha_config.specs.declared.config.Config.{Config}
use Rattle.ha_config.specs.declared.command.Cmd.{Cmd}
use Rattle.ha_sight.specs.declared.item.Item.{Item}
use Rattle.ha_journal.specs.declared.entry.Entry.{Entry}
use Rattle.ha_journal.specs.declared.entry.Entry.TheVariants.{Boot, Line, Step, Again}
use Rattle.ha_config.specs.Words.{Text, EachAfter, EachWith, last_below, same}
use Rattle.ha_config.specs.Fair.{most_reloads, prepared}
use Rattle.ha_journal.specs.Journal.{Journal, helpers, more}
use Rattle.ha_journal.specs.Entries.{Reopening, is_reload, is_restart, reloads_to, restarts}
use Rattle.ha_journal.specs.Commands.{IsFair, has_automation, lets_reload}
use Rattle.ha_journal.proofs.ReloadLemmas.{fair-lets}
use Rattle.ha_config.specs.Helpers.{is_helper}
use Rattle.ha_journal.proofs.ForceLaws.{helpers-are}
use Rattle.ha_config.specs.CommandText.{cmd_text}
use Rattle.ha_sight.specs.Scripts.{Branch}
use Rattle.ha_model.specs.Records as all
use Rattle.ha_model.specs.Records.{Records}
use Rattle.ha_model.specs.RecordSteps.{records_after}
use Rattle.ha_model.specs.Lawful as one
use Rattle.ha_model.specs.Lawful.{is_by_worker_0, is_empty, is_line_of, pick, shuts}
use Rattle.ha_config.proofs.ListLemmas.{append-nil, true-false}
use Rattle.ha_model.proofs.AppendLemmas.{SameUpTo}
use Rattle.ha_config.proofs.EqualLemmas.{and_left, and_right}
use Rattle.ha_model.proofs.LawfulLaws as one_laws
use Rattle.ha_laws.specs.Makers.{makers, maker, cmds_of}
use Rattle.ha_laws.proofs.PrefixLaws.{same-less}
use Rattle.ha_laws.proofs.RightMore.{each-last}
use Rattle.ha_whole.specs.Segments.{alone, carried, cut, reopened, segment}
use Rattle.ha_whole.specs.Trace.{names}
use Rattle.ha_whole.specs.Whole.{AreEntries, IsBusy, IsDue, IsFirst, IsJournal, IsOpen, IsRightEntry, IsTurn, Lawful, Right, again_of, appended, is_quiet, is_rested, own, put, ready, records_of}
use Rattle.whole_laws.specs.Puts.{IsPut}
use Rattle.whole_laws.specs.Segments.{EachRight}
use Rattle.whole_laws.proofs.AnswerLemmas.{one_answer}
use Rattle.whole_laws.proofs.ClosingLemmas.{put-step, right-closes}
use Rattle.whole_laws.proofs.CutLemmas.{IsCut, alone-reload, cut-first, is-cut, segment-again, segment-on}
use Rattle.whole_laws.proofs.EachLemmas.{each-right}
use Rattle.whole_laws.proofs.LiftLemmas.{entries-have, right-lifts, right-runs, same-put}
use Rattle.whole_laws.proofs.PrefixLemmas.{each-cut, ready-told, rested-told}
use Rattle.whole_laws.proofs.PutLemmas.{line-put, put-appends, step-is-put}
use Rattle.flow_printed.specs.Printed.{line_text}
use Rattle.ha_replay.specs.Traces.{IsNext, IsNoNext, Reached, Stands, TellsClosing, reached}
use Rattle.ha_replay.specs.Steps.{IsAllowed, IsOf}
use Rattle.ha_replay.proofs.CmdLemmas.{fair-moved, has-by}
use Rattle.ha_replay.proofs.SeamLemmas.{again-put, behind-of, each-front, put-first, with-behind}
use Rattle.ha_replay.proofs.TextLemmas.{line-text, step-is-of}

-- ---- the records of the journal before, and those of the longer one

busy-first : (rs : Records) (e : Entry) → IsFirst e → IsBusy rs [] e
busy-first rs (Boot text config stored start zone carry) h = tt
busy-first rs (Line source number cmd) h = absurd h
busy-first rs (Step worker serial branch item) h = absurd h
busy-first rs (Again number start stored carry) h = absurd h

busy-back : (d : Journal) (rs rs' : Records) → IsCut d → SameUpTo (length d) rs rs' → (y : Entry) → IsBusy rs' d y → IsBusy rs d y
busy-back d rs rs' c s (Boot text config stored start zone carry) h = tt
busy-back d rs rs' c s (Again number start stored carry) h = tt
busy-back d rs rs' c s (Line k number cmd) h = tt
busy-back d rs rs' c s (Step k serial branch item) h = rested-told d rs rs' c s k ∙ h

open-back : (j : Journal) (rs rs' : Records) → AreEntries j → SameUpTo (length j) rs rs' → IsOpen rs' j → IsOpen rs j
open-back [] rs rs' b s h = absurd b
open-back (e ∷ es) rs rs' b s h = (
  busy-first rs e b.0,
  each-cut (IsBusy rs') (IsBusy rs) (length (e ∷ es)) (λ d y c has lt p. busy-back d rs rs' c (same-less (length (e ∷ es)) (length d) (omega (arith, lt)) rs rs' s) y p)
      (e ∷ []) es (cut-first e b.0) tt b.1 (omega arith) h.1,
)

module _ (j : Journal) (rs rs' : Records) (x : Entry) (old : Right j rs) (p : IsPut x) (new : Right (put j x) rs') where
  same-records : SameUpTo (length j) rs rs'
  same-records =
      subst (λ l. SameUpTo (length j) l rs') (sym old.records_are)
      (subst (SameUpTo (length j) (records_of j)) (sym new.records_are) (same-put j x (is-cut j old.journal.entries) (entries-have j old.journal.entries) p))

  same-rested : (k : ℕ) → is_rested rs k j ≡ is_rested rs' k j
  same-rested k = rested-told j rs rs' (is-cut j old.journal.entries) same-records k

  same-ready : ready rs j ≡ ready rs' j
  same-ready = ready-told j rs rs' (is-cut j old.journal.entries) same-records

  same-open : IsOpen rs' j → IsOpen rs j
  same-open h = open-back j rs rs' old.journal.entries same-records h

-- ---- closing steps

with-busy : {A B C : Type 0} → A → B ⊎ C → (A × B) ⊎ C
with-busy a (inl b) = inl (a, b)
with-busy a (inr c) = inr c

all-behind : (xs ys : Journal) → list_all is_by_worker_0 (xs ++ ys) ≡ true → list_all is_by_worker_0 ys ≡ true
all-behind [] ys h = h
all-behind (x ∷ xs) ys h = all-behind xs ys (and_right (is_by_worker_0 x) (list_all is_by_worker_0 (xs ++ ys)) h)

-- either no step so far closes, or what stands behind is by worker 0
open-or-closed : (rs : Records) (before xs ys : Journal) → EachWith (IsDue rs) before (xs ++ ys) → EachAfter (IsBusy rs) before xs ⊎ (list_all is_by_worker_0 ys ≡ true)
open-or-closed rs before [] ys h = inl tt
open-or-closed rs before (Boot text config stored start zone carry ∷ xs) ys h = with-busy tt (open-or-closed rs (before ++ (Boot text config stored start zone carry ∷ [])) xs ys h.1)
open-or-closed rs before (Again number start stored carry ∷ xs) ys h = with-busy tt (open-or-closed rs (before ++ (Again number start stored carry ∷ [])) xs ys h.1)
open-or-closed rs before (Line k number cmd ∷ xs) ys h = with-busy tt (open-or-closed rs (before ++ (Line k number cmd ∷ [])) xs ys h.1)
open-or-closed rs before (Step k serial branch item ∷ xs) ys h = by h.0 (open-or-closed rs (before ++ (Step k serial branch item ∷ [])) xs ys h.1)
  where
    by : (is_rested rs k before ≡ false) ⊎ ((k ≡ 0) × (list_all is_by_worker_0 (xs ++ ys) ≡ true))
        → EachAfter (IsBusy rs) (before ++ (Step k serial branch item ∷ [])) xs ⊎ (list_all is_by_worker_0 ys ≡ true)
        → EachAfter (IsBusy rs) before (Step k serial branch item ∷ xs) ⊎ (list_all is_by_worker_0 ys ≡ true)
    by (inl busy) rest = with-busy busy rest
    by (inr closes) rest = inr (all-behind xs ys closes.1)

closing-by : (c : Bool) (rs : Records) (j : Journal) (P : Type 0) → TellsClosing c rs j → IsOpen rs j ⊎ P → (c ≡ false) ⊎ P
closing-by true rs j P tells (inl is_open) = absurd (tells is_open)
closing-by true rs j P tells (inr p) = inr p
closing-by false rs j P tells h = inl refl

-- what a put appends is by worker 0 where its entry is
first-by-0 : (j : Journal) (x : Entry) → list_all is_by_worker_0 (appended j x) ≡ true → is_by_worker_0 x ≡ true
first-by-0 j x h = by (is_restart x) h
  where
    by : (b : Bool) → list_all is_by_worker_0 (if b then x ∷ again_of (more j x) ∷ [] else x ∷ []) ≡ true → is_by_worker_0 x ≡ true
    by true h = and_left (is_by_worker_0 x) (list_all is_by_worker_0 (again_of (more j x) ∷ [])) h
    by false h = and_left (is_by_worker_0 x) true h

-- what is due of one put, as it is appended
due-appended : (j : Journal) (rs' : Records) (x : Entry) → Lawful (put j x) rs' → EachWith (IsDue rs') [] (j ++ appended j x)
due-appended j rs' x lawful = subst (EachWith (IsDue rs') []) (put-appends j x) lawful.closed

-- where a journal has a closing step, what stands next is by worker 0
next-closing : (r : Reached) (x : Entry) (rs' : Records) → Stands r → IsPut x → Lawful (put r.journal x) rs' → (r.closing ≡ false) ⊎ (is_by_worker_0 x ≡ true)
next-closing r x rs' stands p lawful =
    closing-by r.closing r.records r.journal _ stands.closing (back (open-or-closed rs' [] r.journal (appended r.journal x) (due-appended r.journal rs' x lawful)))
  where
    back : EachAfter (IsBusy rs') [] r.journal ⊎ (list_all is_by_worker_0 (appended r.journal x) ≡ true) → IsOpen r.records r.journal ⊎ (is_by_worker_0 x ≡ true)
    back (inl h) = inl (same-open r.journal r.records rs' x stands.lawful.right p lawful.right h)
    back (inr h) = inr (first-by-0 r.journal x h)

-- ---- the next line of a source

pub record LineFacts (read : Text → Option Config) (r : Reached) (line : Text) (k n : ℕ) (cmd : Cmd) : Type 0 where
  pub is_open : r.closing ≡ false
  pub known : k < 16
  pub rested : is_rested r.records k r.journal ≡ true
  pub next : n ≡ count_by (is_line_of k) r.journal
  pub unshut : list_any (shuts k) r.journal ≡ false
  pub fair : IsFair r.journal cmd
  pub read_is : prepared read cmd ≡ cmd
  pub line_is : line ≡ line_text k n (cmd_text cmd)

-- the last segment has the names of the whole, and no more Reloads
same-has : (j : Journal) → IsCut j → has_automation (segment j) ≡ has_automation j
same-has j c = (λ i name. (has-by (segment j) name ∙ (λ k. list_any (λ (a : Automation). same a.name name) (c.automations_are k)) ∙ sym (has-by j name)) i)

count-snoc : (d : Journal) (x : Entry) → count_by is_reload (more d x) ≡ count_by is_reload d + cond (is_reload x) 1 0
count-snoc d x = sum_by-append (λ y. cond (is_reload y) 1 0) d (x ∷ []) ∙ last (cond (is_reload x) 1 0)
  where
    last : (n : ℕ) → count_by is_reload d + (0 + n) ≡ count_by is_reload d + n
    last n = omega arith

same-reload : (s : Journal) (x : Entry) → cond {A = ℕ} (is_reload (alone s x)) 1 0 ≡ cond {A = ℕ} (is_reload x) 1 0
same-reload s x = (λ i. cond {A = ℕ} (is_some (alone-reload (carried s) x i)) 1 0)

reopened-reloads : (s : Journal) (a : Reopening) → count_by is_reload (reopened s a) ≡ 0
reopened-reloads [] a = refl
reopened-reloads (Boot text config stored start zone carry ∷ es) a = refl
reopened-reloads (Line source number cmd ∷ es) a = refl
reopened-reloads (Step worker serial branch item ∷ es) a = refl
reopened-reloads (Again number start stored carry ∷ es) a = refl

reloads-on : (d : Journal) (x : Entry) → count_by is_reload (segment d) ≤ count_by is_reload d → count_by is_reload (segment (more d x)) ≤ count_by is_reload (more d x)
reloads-on d (Boot text config stored start zone carry) h =
    (let x : Entry = Boot text config stored start zone carry in omega (arith, h, ap (count_by is_reload) (segment-on d x refl), count-snoc (segment d) (alone (segment d) x), count-snoc d x, same-reload (segment d) x))
reloads-on d (Line source number cmd) h =
    (let x : Entry = Line source number cmd in omega (arith, h, ap (count_by is_reload) (segment-on d x refl), count-snoc (segment d) (alone (segment d) x), count-snoc d x, same-reload (segment d) x))
reloads-on d (Step worker serial branch item) h =
    (let x : Entry = Step worker serial branch item in omega (arith, h, ap (count_by is_reload) (segment-on d x refl), count-snoc (segment d) (alone (segment d) x), count-snoc d x, same-reload (segment d) x))
reloads-on d (Again number start stored carry) h =
    let a : Reopening = record { number = number; start = start; stored = stored; carry = carry } in
    omega (arith, ap (count_by is_reload) (segment-again d (Again number start stored carry) a refl), reopened-reloads (segment d) a)

reloads-along : (d xs : Journal) → count_by is_reload (segment d) ≤ count_by is_reload d → count_by is_reload (segment (d ++ xs)) ≤ count_by is_reload (d ++ xs)
reloads-along d [] h = subst (λ (l : Journal). count_by is_reload (segment l) ≤ count_by is_reload l) (sym (append-nil d)) h
reloads-along d (x ∷ xs) h = subst (λ (l : Journal). count_by is_reload (segment l) ≤ count_by is_reload l) (append_assoc d (x ∷ []) xs) (reloads-along (more d x) xs (reloads-on d x h))

lets-below : (m n : ℕ) → m ≤ n → nat_lt n most_reloads ≡ true → nat_lt m most_reloads ≡ true
lets-below m n le h = (let lt : n < most_reloads = search (rules, h) in below (omega (arith, le, lt)))
  where
    below : m < most_reloads → nat_lt m most_reloads ≡ true
    below lt = search (rules, lt)

lets-alone : (j : Journal) → lets_reload j ≡ true → lets_reload (segment j) ≡ true
lets-alone j h = lets-below (count_by is_reload (segment j)) (count_by is_reload j) (reloads-along [] j (omega arith)) h

-- it has the helpers of the whole
same-helps : (j : Journal) → IsCut j → is_helper (helpers (segment j)) ≡ is_helper (helpers j)
same-helps j c = ap is_helper (sym (helpers-are (segment j)) ∙ ap (λ (d : Config). d.helpers) c.configured_are ∙ helpers-are j)

-- a command is fair in a journal where it is so in its last segment, which has the same names and helpers, and where one Reload more may stand in it
fair-whole : (j : Journal) (cmd : Cmd) → IsCut j → (is_some (reloads_to cmd) ≡ true → lets_reload j ≡ true) → IsFair (segment j) cmd → IsFair j cmd
fair-whole j cmd c lets h = fair-moved (has_automation (segment j)) (has_automation j) (is_helper (helpers (segment j))) (is_helper (helpers j)) (lets_reload (segment j)) (lets_reload j) cmd (same-has j c) (same-helps j c) lets h

fair-alone : (j : Journal) (cmd : Cmd) → IsCut j → IsFair j cmd → IsFair (segment j) cmd
fair-alone j cmd c h =
    fair-moved (has_automation j) (has_automation (segment j)) (is_helper (helpers j)) (is_helper (helpers (segment j))) (lets_reload j) (lets_reload (segment j)) cmd (sym (same-has j c)) (sym (same-helps j c)) (λ e. lets-alone j (fair-lets j cmd h e)) h

line-facts : (read : Text → Option Config) (r : Reached) (line : Text) (k n : ℕ) (cmd : Cmd) (rs' : Records) → Stands r → IsNext read r.journal line (Line k n cmd) rs' → LineFacts read r line k n cmd
line-facts read r line k n cmd rs' stands next =
    let x : Entry = Line k n cmd in
    let p : IsPut x = line-put k n cmd in
    let turn : IsTurn rs' r.journal x = put-first (IsTurn rs') r.journal x next.lawful.turns in
    record {
      is_open = by (next-closing r x rs' stands p next.lawful);
      known = turn.0;
      rested = same-rested r.journal r.records rs' x stands.lawful.right p next.lawful.right k ∙ turn.1;
      next = turn.2;
      unshut = turn.3;
      fair = fair-whole r.journal cmd (is-cut r.journal stands.lawful.right.journal.entries) turn.4 (put-first (IsRightEntry rs') r.journal x next.lawful.right.entries);
      read_is = next.read_is;
      line_is = line-text (names r.journal) line k n cmd next.line_is;
    }
  where
    by : (r.closing ≡ false) ⊎ (is_by_worker_0 (Line k n cmd) ≡ true) → r.closing ≡ false
    by (inl e) = e
    by (inr e) = absurd (true-false (sym e))

-- ---- the next step

none-below : (test : ℕ → Bool) (n : ℕ) → ((m : ℕ) → test m ≡ false) → last_below test n ≡ None
none-below test zero misses = refl
none-below test (suc n) misses = rw (misses n) (none-below test n misses)

no-line-of : (rs : Records) (before xs : Journal) (k : ℕ) → 16 ≤ k → EachAfter (IsTurn rs) before xs → list_any (is_line_of k) xs ≡ false
no-line-of rs before [] k far h = refl
no-line-of rs before (Boot text config stored start zone carry ∷ xs) k far h = no-line-of rs (before ++ (Boot text config stored start zone carry ∷ [])) xs k far h.1
no-line-of rs before (Again number start stored carry ∷ xs) k far h = no-line-of rs (before ++ (Again number start stored carry ∷ [])) xs k far h.1
no-line-of rs before (Step q serial branch item ∷ xs) k far h = no-line-of rs (before ++ (Step q serial branch item ∷ [])) xs k far h.1
no-line-of rs before (Line q number cmd ∷ xs) k far h =
    let rest = no-line-of rs (before ++ (Line q number cmd ∷ [])) xs k far h.1 in
    let own = other q k (omega (arith, far, h.0.0)) in
    (λ i. own i || rest i)
  where
    other : (q k : ℕ) → q < k → nat_eq q k ≡ false
    other q k lt = search (rules, lt)

pub or-first : (a b : Bool) → (a || b) ≡ false → a ≡ false
or-first true b e = absurd (true-false e)
or-first false b e = refl

pub or-second : (a b : Bool) → (a || b) ≡ false → b ≡ false
or-second true b e = absurd (true-false e)
or-second false b e = e

reopened-none : (k : ℕ) (s : Journal) (a : Reopening) → list_any (is_line_of k) (reopened s a) ≡ false
reopened-none k [] a = refl
reopened-none k (Boot text config stored start zone carry ∷ es) a = refl
reopened-none k (Line source number cmd ∷ es) a = refl
reopened-none k (Step worker serial branch item ∷ es) a = refl
reopened-none k (Again number start stored carry ∷ es) a = refl

none-snoc : (k : ℕ) (s : Journal) (y : Entry) → list_any (is_line_of k) s ≡ false → is_line_of k y ≡ false → list_any (is_line_of k) (more s y) ≡ false
none-snoc k s y h e = list_any-append (is_line_of k) s (y ∷ []) ∙ (λ i. h i || (e i || false))

none-on : (k : ℕ) (d : Journal) (x : Entry) → list_any (is_line_of k) (segment d) ≡ false → is_line_of k x ≡ false → list_any (is_line_of k) (segment (more d x)) ≡ false
none-on k d (Boot text config stored start zone carry) h e =
    ap (list_any (is_line_of k)) (segment-on d (Boot text config stored start zone carry) refl) ∙ none-snoc k (segment d) (Boot text config stored start zone carry) h refl
none-on k d (Line source number cmd) h e = ap (list_any (is_line_of k)) (segment-on d (Line source number cmd) refl) ∙ none-snoc k (segment d) (Line source number cmd) h e
none-on k d (Step worker serial branch item) h e = ap (list_any (is_line_of k)) (segment-on d (Step worker serial branch item) refl) ∙ none-snoc k (segment d) (Step worker (serial - carried (segment d)) branch item) h refl
none-on k d (Again number start stored carry) h e =
    let a : Reopening = record { number = number; start = start; stored = stored; carry = carry } in
    ap (list_any (is_line_of k)) (segment-again d (Again number start stored carry) a refl) ∙ reopened-none k (segment d) a

none-along : (k : ℕ) (d xs : Journal) → list_any (is_line_of k) (segment d) ≡ false → list_any (is_line_of k) xs ≡ false → list_any (is_line_of k) (segment (d ++ xs)) ≡ false
none-along k d [] h e = (λ i. list_any (is_line_of k) (segment (append-nil d i))) ∙ h
none-along k d (x ∷ xs) h e =
    let rest = none-along k (more d x) xs (none-on k d x h (or-first (is_line_of k x) (list_any (is_line_of k) xs) e)) (or-second (is_line_of k x) (list_any (is_line_of k) xs) e) in
    (λ i. list_any (is_line_of k) (segment (sym (append_assoc d (x ∷ []) xs) i))) ∙ rest

none-at : (k : ℕ) (s : Journal) → list_any (is_line_of k) s ≡ false → (m : ℕ) → option_map_or (is_line_of k) (slice_get s m) false ≡ false
none-at k [] e m = refl
none-at k (x ∷ s) e zero = or-first (is_line_of k x) (list_any (is_line_of k) s) e
none-at k (x ∷ s) e (suc m) = none-at k s (or-second (is_line_of k x) (list_any (is_line_of k) s) e) m

none-rested : (rs : Records) (k : ℕ) (s : Journal) → list_any (is_line_of k) s ≡ false → one.is_rested rs k s ≡ true
none-rested rs k s e = (let missed = none-below (λ m. option_map_or (is_line_of k) (slice_get s m) false) (length s) (none-at k s e) in rw missed refl)

-- a worker that is not rested has a line, so it is one of the 16
pub not-rested-known : (rs : Records) (k : ℕ) (j : Journal) → EachAfter (IsTurn rs) [] j → is_rested rs k j ≡ false → k < 16
not-rested-known rs k j turns e = by (nat_lt k 16) refl
  where
    by : (b : Bool) → nat_lt k 16 ≡ b → k < 16
    by true h = search (rules, h)
    by false h = (let far : 16 ≤ k = search (rules, h) in
        let none = none-along k [] j refl (no-line-of rs [] j k far turns) in
        let rested : is_rested rs k j ≡ true = none-rested (own j rs) k (segment j) none in
        absurd (true-false (sym rested ∙ e)))

pub record StepFacts (r : Reached) (line : Text) (k serial : ℕ) (branch : Branch) : Type 0 where
  pub allowed : IsAllowed r k
  pub known : k < 16
  pub picked : pick k (ready r.records r.journal) ≡ Some (serial, branch)
  pub line_is : IsOf line k

abbrev raised : ℕ → List (ℕ × Branch) → List (ℕ × Branch)
raised n ps = map {A = ℕ × Branch} {B = ℕ × Branch} (λ p. (n + p.0, p.1)) ps

busy-of : (n : ℕ) (pairs : List (ℕ × Branch)) → 0 < length (raised n pairs) → is_empty pairs ≡ false
busy-of n [] lt = absurd (none-less lt)
  where
    none-less : 0 < 0 → ⊥
    none-less h = omega (arith, h)
busy-of n (p ∷ ps) lt = refl

busy-length : (n : ℕ) (pairs : List (ℕ × Branch)) → is_empty pairs ≡ false → 0 < length (raised n pairs)
busy-length n [] e = absurd (true-false e)
busy-length n (p ∷ ps) e = omega arith

-- some pair is ready exactly where the journal is not quiet
busy-whole : (j : Journal) (rs : Records) → 0 < length (ready rs j) → is_quiet rs j ≡ false
busy-whole j rs lt = busy-of (carried (segment j)) (one.ready (own j rs) (segment j)) lt

ready-whole : (j : Journal) (rs : Records) → is_quiet rs j ≡ false → 0 < length (ready rs j)
ready-whole j rs e = busy-length (carried (segment j)) (one.ready (own j rs) (segment j)) e

step-facts : (read : Text → Option Config) (r : Reached) (line : Text) (k serial : ℕ) (branch : Branch) (item : Item) (rs' : Records) → Stands r → IsNext read r.journal line (Step k serial branch item) rs' → StepFacts r line k serial branch
step-facts read r line k serial branch item rs' stands next =
    let x : Entry = Step k serial branch item in
    let p : IsPut x = step-is-put k serial branch item in
    let turn : IsTurn rs' r.journal x = put-first (IsTurn rs') r.journal x next.lawful.turns in
    let readies = same-ready r.journal r.records rs' x stands.lawful.right p next.lawful.right in
    let due = due-by (with-behind (IsDue rs') [] r.journal (x ∷ []) (due-appended r.journal rs' x next.lawful)).0 (next-closing r x rs' stands p next.lawful) in
    record {
      allowed = record { busy = busy-whole r.journal r.records (subst (λ l. 0 < length l) (sym readies) turn.0); due = due };
      known = known-by due;
      picked = (λ i. pick k (readies i)) ∙ turn.1;
      line_is = step-is-of (names r.journal) line k serial branch item next.line_is;
    }
  where
    rested-back : is_rested rs' k r.journal ≡ false → is_rested r.records k r.journal ≡ false
    rested-back e = same-rested r.journal r.records rs' (Step k serial branch item) stands.lawful.right (step-is-put k serial branch item) next.lawful.right k ∙ e

    zero-of : is_by_worker_0 (Step k serial branch item) ≡ true → k ≡ 0
    zero-of e = search (rules, e)

    due-by : (is_rested rs' k r.journal ≡ false) ⊎ ((k ≡ 0) × (list_all is_by_worker_0 [] ≡ true)) → (r.closing ≡ false) ⊎ (is_by_worker_0 (Step k serial branch item) ≡ true)
        → (k ≡ 0) ⊎ ((r.closing ≡ false) × (is_rested r.records k r.journal ≡ false))
    due-by (inl busy) (inl not_closing) = inr (not_closing, rested-back busy)
    due-by (inl busy) (inr by_zero) = inl (zero-of by_zero)
    due-by (inr closes) closing = inl closes.0

    known-by : (k ≡ 0) ⊎ ((r.closing ≡ false) × (is_rested r.records k r.journal ≡ false)) → k < 16
    known-by (inl e) = omega (arith, e)
    known-by (inr h) = not-rested-known r.records k r.journal stands.lawful.turns h.1

-- ---- nothing else may stand next

-- no line of a source and no step is the next one
pub nothing-next : (read : Text → Option Config) (r : Reached) (line : Text) → Stands r
    → ((k n : ℕ) (cmd : Cmd) → LineFacts read r line k n cmd → ⊥)
    → ((k serial : ℕ) (branch : Branch) (item : Item) (rs' : Records) → IsNext read r.journal line (Step k serial branch item) rs' → StepFacts r line k serial branch → ⊥)
    → IsNoNext read r.journal line
nothing-next read r line stands no_line no_step (Boot text config stored start zone carry) rs' next =
    behind-of r.journal (Boot text config stored start zone carry) (entries-have r.journal stands.lawful.right.journal.entries) next.lawful.right.journal.entries
nothing-next read r line stands no_line no_step (Again number start stored carry) rs' next =
    (let h = behind-of r.journal (Again number start stored carry) (entries-have r.journal stands.lawful.right.journal.entries) next.lawful.right.journal.entries in
    true-false (sym h.0 ∙ stands.lawful.right.journal.opened))
nothing-next read r line stands no_line no_step (Line k n cmd) rs' next = no_line k n cmd (line-facts read r line k n cmd rs' stands next)
nothing-next read r line stands no_line no_step (Step k serial branch item) rs' next = no_step k serial branch item rs' next (step-facts read r line k serial branch item rs' stands next)

-- ---- the core's own line

pub line-restarts : (k n : ℕ) (cmd : Cmd) → is_restart (Line k n cmd) ≡ restarts cmd
line-restarts k n (Cmd.Report entity text attributes) = refl
line-restarts k n (Cmd.Gone entity) = refl
line-restarts k n (Cmd.Event kind pairs) = refl
line-restarts k n (Cmd.Moment at) = refl
line-restarts k n (Cmd.Switch name on stop) = refl
line-restarts k n (Cmd.Trigger name skip) = refl
line-restarts k n Cmd.Restart = refl
line-restarts k n (Cmd.Reload text config) = refl
line-restarts k n (Cmd.Refused code) = refl
line-restarts k n Cmd.Lost = refl
line-restarts k n Cmd.TooLong = refl

pub line-stands : (r : Reached) (k n : ℕ) (cmd : Cmd) (rs' : Records) → Stands r → r.closing ≡ false → Right (put r.journal (Line k n cmd)) rs' → IsTurn r.records r.journal (Line k n cmd)
    → Stands (reached (put r.journal (Line k n cmd)) rs' r.closing (restarts cmd))
line-stands r k n cmd rs' stands e right turn = by r.closing e stands.closing
  where
    by : (c : Bool) → c ≡ false → TellsClosing c r.records r.journal → Stands (reached (put r.journal (Line k n cmd)) rs' c (restarts cmd))
    by true e tells = absurd (true-false e)
    by false e tells =
        let run = right-runs r.journal r.records rs' (Line k n cmd) (record { lawful = stands.lawful; is_open = tells }) (line-put k n cmd) right turn tt in
        record { lawful = run.lawful; closing = run.is_open; again = λ h. again-put r.journal (Line k n cmd) (line-restarts k n cmd ∙ h) }

last-right : (ss : List Journal) (s : Journal) → EachRight (ss ++ (s ∷ [])) → one.Right s (all.records_of s)
last-right [] s h = h.0
last-right (t ∷ ss) s h = last-right ss s h.1

-- LAW: with a fair line whose turn it is, the journal stays lawful
pub line-lawful : (r : Reached) (k n : ℕ) (cmd : Cmd) → Stands r → r.closing ≡ false → IsFair r.journal cmd → IsTurn r.records r.journal (Line k n cmd)
    → Lawful (put r.journal (Line k n cmd)) (records_of (put r.journal (Line k n cmd)))
line-lawful r k n cmd stands e fair turn =
    let j = r.journal in
    let s = segment j in
    let x : Entry = Line k n cmd in
    let old = stands.lawful.right in
    let right = last-right (cut j).closed s (each-right j r.records old) in
    let next = one_laws.right-more s (all.records_of s) x right (λ h. h) (fair-alone j cmd (is-cut j old.journal.entries) fair) in
    (line-stands r k n cmd (records_of (put j x)) stands e (right-lifts j r.records (records_after s (all.records_of s) x) x (line-put k n cmd) old next) turn).lawful

-- ---- the core's own step

module _ (r : Reached) (k serial : ℕ) (branch : Branch) (item : Item) (rs' : Records) (stands : Stands r) (right : Right (more r.journal (Step k serial branch item)) rs')
    (turn : IsTurn r.records r.journal (Step k serial branch item)) where
  put-is : put r.journal (Step k serial branch item) ≡ more r.journal (Step k serial branch item)
  put-is = put-step r.journal k serial branch item

  right-put : Right (put r.journal (Step k serial branch item)) rs'
  right-put = subst (λ l. Right l rs') (sym put-is) right

  not-open : (c rested : Bool) → rested ≡ is_rested r.records k r.journal → TellsClosing c r.records r.journal → (c || rested) ≡ true → IsOpen rs' (more r.journal (Step k serial branch item)) → ⊥
  not-open true rested is tells e is_open =
      tells (same-open r.journal r.records rs' (Step k serial branch item) stands.lawful.right (step-is-put k serial branch item) right-put
      (each-front (IsBusy rs') [] r.journal (Step k serial branch item ∷ []) is_open))
  not-open false true is tells e is_open =
      true-false (is ∙ same-rested r.journal r.records rs' (Step k serial branch item) stands.lawful.right (step-is-put k serial branch item) right-put k
      ∙ each-last (IsBusy rs') [] r.journal (Step k serial branch item) is_open)
  not-open false false is tells e is_open = true-false (sym e)

  closes : k ≡ 0 → Lawful (more r.journal (Step k serial branch item)) rs'
  closes e = by k (sym e) right turn
    where
      by : (q : ℕ) → 0 ≡ q → Right (more r.journal (Step q serial branch item)) rs' → IsTurn r.records r.journal (Step q serial branch item) → Lawful (more r.journal (Step q serial branch item)) rs'
      by zero e right turn = right-closes r.journal r.records rs' serial branch item stands.lawful right turn
      by (suc q) e right turn = absurd (zero-suc q e)
        where
          zero-suc : (q : ℕ) → 0 ≡ suc q → ⊥
          zero-suc q e = omega (arith, e)

  runs : TellsClosing false r.records r.journal → is_rested r.records k r.journal ≡ false → Stands (reached (more r.journal (Step k serial branch item)) rs' false false)
  runs tells busy =
      let run = right-runs r.journal r.records rs' (Step k serial branch item) (record { lawful = stands.lawful; is_open = tells }) (step-is-put k serial branch item) right-put turn busy in
      record { lawful = subst (λ l. Lawful l rs') put-is run.lawful; closing = subst (IsOpen rs') put-is run.is_open; again = λ bad. absurd (true-false (sym bad)) }

  step-by : (c rested : Bool) → rested ≡ is_rested r.records k r.journal → TellsClosing c r.records r.journal → (k ≡ 0) ⊎ ((c ≡ false) × (rested ≡ false))
      → Stands (reached (more r.journal (Step k serial branch item)) rs' (c || rested) false)
  step-by false false is tells due = runs tells (sym is)
  step-by true rested is tells (inl e) = record { lawful = closes e; closing = not-open true rested is tells refl; again = λ bad. absurd (true-false (sym bad)) }
  step-by true rested is tells (inr h) = absurd (true-false h.0)
  step-by false true is tells (inl e) = record { lawful = closes e; closing = not-open false true is tells refl; again = λ bad. absurd (true-false (sym bad)) }
  step-by false true is tells (inr h) = absurd (true-false h.1)

pub step-stands : (r : Reached) (k serial : ℕ) (branch : Branch) (item : Item) (rs' : Records) → Stands r → IsAllowed r k → pick k (ready r.records r.journal) ≡ Some (serial, branch)
    → Right (more r.journal (Step k serial branch item)) rs'
    → Stands (reached (more r.journal (Step k serial branch item)) rs' (r.closing || is_rested r.records k r.journal) false)
step-stands r k serial branch item rs' stands allowed picked right =
    step-by r k serial branch item rs' stands right (ready-whole r.journal r.records allowed.busy, picked) r.closing (is_rested r.records k r.journal) refl stands.closing allowed.due

-- ---- one step alone may stand next

makers-more : (xs : Journal) (x y : Entry) → maker x ≡ maker y → makers (xs ++ (x ∷ [])) ≡ makers (xs ++ (y ∷ []))
makers-more [] x y e = (λ i. e i ∷ [])
makers-more (z ∷ xs) x y e = (λ i. maker z ∷ makers-more xs x y e i)

cmds-more : (q : ℕ) (xs : Journal) (x y : Entry) → cmds_of q (x ∷ []) ≡ cmds_of q (y ∷ []) → cmds_of q (xs ++ (x ∷ [])) ≡ cmds_of q (xs ++ (y ∷ []))
cmds-more q [] x y e = e
cmds-more q (Boot text config stored start zone carry ∷ xs) x y e = cmds-more q xs x y e
cmds-more q (Again number start stored carry ∷ xs) x y e = cmds-more q xs x y e
cmds-more q (Step k serial branch item ∷ xs) x y e = cmds-more q xs x y e
cmds-more q (Line k n cmd ∷ xs) x y e = by (nat_eq k q) (cmds-more q xs x y e)
  where
    by : (b : Bool) → cmds_of q (xs ++ (x ∷ [])) ≡ cmds_of q (xs ++ (y ∷ [])) → (if b then cmd ∷ cmds_of q (xs ++ (x ∷ [])) else cmds_of q (xs ++ (x ∷ []))) ≡ (if b then cmd ∷ cmds_of q (xs ++ (y ∷ [])) else cmds_of q (xs ++ (y ∷ [])))
    by true rest = ap (λ l. cmd ∷ l) rest
    by false rest = rest

pub last-same : {X : Type 0} (xs : List X) (x y : X) → xs ++ (x ∷ []) ≡ xs ++ (y ∷ []) → x ≡ y
last-same [] x y e = ap (head_or x) e
  where
    head_or : {X : Type 0} → X → List X → X
    head_or d [] = d
    head_or d (z ∷ zs) = z
last-same (z ∷ xs) x y e = last-same xs x y (ap tail_of e)
  where
    tail_of : {X : Type 0} → List X → List X
    tail_of [] = []
    tail_of (w ∷ ws) = ws

pub one-step : (j : Journal) (rs rs' : Records) (k s s' : ℕ) (b b' : Branch) (item item' : Item) → IsJournal j → Lawful (more j (Step k s b item)) rs → Lawful (more j (Step k s' b' item')) rs'
    → Step k s b item ≡ Step k s' b' item'
one-step [] rs rs' k s s' b b' item item' is left right = absurd is.entries
one-step (boot ∷ xs) rs rs' k s s' b b' item item' is left right =
    let x : Entry = Step k s b item in
    let y : Entry = Step k s' b' item' in
    let same = one_answer boot (xs ++ (x ∷ [])) (xs ++ (y ∷ [])) rs rs' left right (makers-more xs x y refl) (λ q. cmds-more q xs x y refl) in
    last-same xs x y same.0
