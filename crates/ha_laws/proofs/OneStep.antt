-- What may step next, where at most the last run is live, and what its one step does.
use Rattle.std.proofs.Common.{◌≡◌, ℕ, suc, ◌+◌, ◌-◌, ◌<◌, ◌≤◌, [], ◌∷◌, ◌++◌, length, map, filter, Bool, true, false, refl, sym, ap, ◌∙◌, rules, arith, Option}
use Rattle.std.specs.Prelude.{Some, None, is_none, nat_eq, nat_lt, nat_le, flat_map, fold, cond, slice_get, ◌&&◌, ◌||◌, if◌then◌else◌}
use Rattle.std.specs.Option.{option_map_or}
use Rattle.std.proofs.lemmas.Bool.Decides.{nat_tests}
use Rattle.std.proofs.lemmas.Option.{slice_get_within}
use Rattle.ha_config.specs.declared.command.Cmd.{Cmd}
use Rattle.ha_model.specs.declared.record.EndCause.{EndCause}
use Rattle.ha_journal.specs.declared.entry.Entry.{Entry}
use Rattle.ha_journal.specs.declared.entry.Entry.TheVariants.{Boot, Line, Step, Again}
use Rattle.ha_model.specs.declared.record.Record.{Record}
use Rattle.ha_config.specs.Words.{EachAfter}
use Rattle.ha_journal.specs.Journal.{Journal, HasEntry, more, units}
use Rattle.ha_sight.specs.Branches.{branches_of}
use Rattle.ha_model.specs.Records.{Records, spot_of, spots_from, spots, actions_of, live_count, next_spot}
use Rattle.ha_model.specs.Lawful.{is_running, is_empty, IsRightEntry, Right, may_step, ready_of, ready, is_quiet, is_rested, is_line_of}
use Rattle.ha_laws.specs.OneRun.{has_ended, AllEnded, IsBegun}
use Rattle.ha_config.proofs.ListLemmas.{append-nil}
use Rattle.ha_journal.proofs.MoreLemmas.{length-more}
use Rattle.ha_model.proofs.RestedLaws.{rested-more}
use Rattle.ha_model.proofs.StepLaws.{serial-at}

-- ---- runs that have ended

and-false : (b : Bool) → (b && false) ≡ false
and-false true = refl
and-false false = refl

past : (n m : ℕ) → nat_lt m n ≡ true → nat_le n m ≡ false
past n m h = grind (arith, nat_tests)

over : (n : ℕ) (b : Bool) (o : Option (ℕ × EndCause)) → option_map_or (λ e. nat_lt e.0 n) o false ≡ true → (b && option_map_or (λ e. nat_le n e.0) o true) ≡ false
over n b None h = absurd (let bad : ◌≡◌ {A = Bool} false true = h in cc)
over n b (Some e) h = (λ i. b && past n e.0 h i) ∙ and-false b

-- a run that has ended does not run
pub ended-over : (n : ℕ) (r : Record) → has_ended n r ≡ true → is_running n r ≡ false
ended-over n r h = over n (option_map_or (λ b. nat_lt b n) r.begin false) r.end h

pub ready-ended : (all : Records) (j : Journal) (rs : Records) → AllEnded (length j) rs → flat_map (ready_of all j) rs ≡ []
ready-ended all j [] h = refl
ready-ended all j (r ∷ rs) h =
    (λ i. (if ended-over (length j) r h.0 i then map (λ b. (r.serial, b)) (filter (may_step all j r) (branches_of (actions_of (units j) r.automation))) else []) ++ ready-ended all j rs h.1 i)

-- LAW: where all runs have ended, the journal is quiet
pub ended-quiet : (j : Journal) (rs : Records) → AllEnded (length j) rs → is_quiet rs j ≡ true
ended-quiet j rs h = ap is_empty (ready-ended rs j rs h)

later : (n m : ℕ) → n ≤ m → (o : Option (ℕ × EndCause)) → option_map_or (λ e. nat_lt e.0 n) o false ≡ true → option_map_or (λ e. nat_lt e.0 m) o false ≡ true
later n m le None h = h
later n m le (Some e) h = grind (arith, nat_tests)

pub ended-later : (n m : ℕ) → n ≤ m → (rs : Records) → AllEnded n rs → AllEnded m rs
ended-later n m le [] h = tt
ended-later n m le (r ∷ rs) h = (later n m le r.end h.0, ended-later n m le rs h.1)

pub ended-append : (n : ℕ) (rs : Records) (r : Record) → AllEnded n rs → has_ended n r ≡ true → AllEnded n (rs ++ (r ∷ []))
ended-append n [] r h e = (e, tt)
ended-append n (x ∷ xs) r h e = (h.0, ended-append n xs r h.1 e)

no-live : (n a m : ℕ) (rs : Records) → AllEnded n rs → fold (λ m r. m + cond (nat_eq r.automation a && is_none r.end) 1 0) m rs ≡ m
no-live n a m [] h = refl
no-live n a m (r ∷ rs) h =
    let none : (nat_eq r.automation a && is_none r.end) ≡ false = (λ i. nat_eq r.automation a && is-there r.end h.0 i) ∙ and-false (nat_eq r.automation a) in
    let same : m + cond (nat_eq r.automation a && is_none r.end) 1 0 ≡ m = (λ i. m + cond (none i) 1 0) ∙ omega arith in
    (λ i. fold (λ m r. m + cond (nat_eq r.automation a && is_none r.end) 1 0) (same i) rs) ∙ no-live n a m rs h.1
  where
    is-there : (o : Option (ℕ × EndCause)) → option_map_or (λ e. nat_lt e.0 n) o false ≡ true → is_none o ≡ false
    is-there None h = absurd (let bad : ◌≡◌ {A = Bool} false true = h in cc)
    is-there (Some e) h = refl

-- no run of an automation is live then
pub ended-live : (n a : ℕ) (rs : Records) → AllEnded n rs → live_count a rs ≡ 0
ended-live n a rs h = no-live n a 0 rs h

-- ---- the last run alone is live

ready-last : (all : Records) (j : Journal) (rs : Records) (r : Record) → AllEnded (length j) rs → flat_map (ready_of all j) (rs ++ (r ∷ [])) ≡ ready_of all j r
ready-last all j [] r h = append-nil (ready_of all j r)
ready-last all j (x ∷ xs) r h =
    (λ i. (if ended-over (length j) x h.0 i then map (λ b. (x.serial, b)) (filter (may_step all j x) (branches_of (actions_of (units j) x.automation))) else []) ++ ready-last all j xs r h.1 i)

is-less : (a b : ℕ) → a < b → nat_lt a b ≡ true
is-less a b lt = grind (arith, nat_tests)

pub begun-length : (k : ℕ) (j : Journal) (rs : Records) (b : IsBegun k j rs) → length j ≡ suc (length b.before)
begun-length k j rs b = ap length b.line ∙ length-more b.before (Line k b.number b.cmd)

pub begun-runs : (k : ℕ) (j : Journal) (rs : Records) (b : IsBegun k j rs) → is_running (length j) b.run ≡ true
begun-runs k j rs b =
    let before : nat_lt (length b.before) (length j) ≡ true = is-less (length b.before) (length j) (omega (arith, begun-length k j rs b)) in
    (λ i. option_map_or (λ p. nat_lt p (length j)) (b.begin i) false && option_map_or (λ e. nat_le (length j) e.0) (b.live i) true) ∙ (λ i. before i && true)

-- LAW: then its one branch is ready, and no other, where one more place of it is allowed
pub begun-ready : (k : ℕ) (j : Journal) (rs : Records) (b : IsBegun k j rs) → branches_of (actions_of (units j) b.run.automation) ≡ [] ∷ [] → may_step rs j b.run [] ≡ true
    → ready rs j ≡ (b.run.serial, []) ∷ []
begun-ready k j rs b one allowed =
    (λ i. flat_map (ready_of rs j) (b.records_are i))
    ∙ ready-last rs j b.earlier b.run b.ended
    ∙ (λ i. if begun-runs k j rs b i then map (λ c. (b.run.serial, c)) (filter (may_step rs j b.run) (one i)) else [])
    ∙ (λ i. map (λ c. (b.run.serial, c)) (if allowed i then [] ∷ [] else []))

-- ---- who is rested

or-true : (a : Bool) → (a || true) ≡ true
or-true true = refl
or-true false = refl

-- a journal with an entry is one with a last entry
has-last : (j : Journal) → HasEntry j → (before : Journal) × (x : Entry) × (j ≡ more before x)
has-last [] h = absurd h
has-last (e ∷ []) h = ([], e, refl)
has-last (e ∷ f ∷ es) h = let rest = has-last (f ∷ es) tt in (e ∷ rest.0, rest.1, ap (λ l. e ∷ l) rest.2)

-- LAW: each source is rested where the journal is quiet
pub quiet-rested : (rs : Records) (k : ℕ) (j : Journal) → HasEntry j → is_quiet rs j ≡ true → is_rested rs k j ≡ true
quiet-rested rs k j h quiet =
    let last = has-last j h in
    ap (is_rested rs k) last.2 ∙ rested-more rs k last.0 last.1
    ∙ (λ i. (if is_line_of k last.1 then false else is_rested rs k last.0) || (ap (is_quiet rs) (sym last.2) ∙ quiet) i)
    ∙ or-true (if is_line_of k last.1 then false else is_rested rs k last.0)

same-number : (k : ℕ) → nat_eq k k ≡ true
same-number k = search rules

-- LAW: a source is not rested behind its own line, where the journal is not quiet there
pub line-busy : (rs : Records) (k number : ℕ) (cmd : Cmd) (j before : Journal) → j ≡ more before (Line k number cmd) → is_quiet rs j ≡ false → is_rested rs k j ≡ false
line-busy rs k number cmd j before line busy =
    ap (is_rested rs k) line ∙ rested-more rs k before (Line k number cmd)
    ∙ (λ i. (if same-number k i then false else is_rested rs k before) || (ap (is_quiet rs) (sym line) ∙ busy) i)

-- ---- a run that has made no step

not-equal : (a b : ℕ) → a < b → nat_eq a b ≡ false
not-equal a b lt = search rules

-- in a right journal no Step has a serial that no record has
pub no-places : (j : Journal) (rs : Records) → Right j rs → (s : ℕ) → length rs < s → spots j s ≡ []
no-places j rs right s lt = go [] j right.entries
  where
    is_none' : (before : Journal) (y : Entry) → IsRightEntry rs before y → spot_of s before y ≡ []
    is_none' before (Boot text config stored start zone carry) h = refl
    is_none' before (Again number start stored carry) h = refl
    is_none' before (Line source number cmd) h = refl
    is_none' before (Step worker t branch item) h =
        let within : t - 1 < length rs = slice_get_within rs (t - 1) h.0 h.1 in
        let numbered : h.0.serial ≡ suc (t - 1) = serial-at j (t - 1) h.0 (ap (λ l. slice_get l (t - 1)) (sym right.records_are) ∙ h.1) in
        let other : nat_eq t s ≡ false = not-equal t s (omega (arith, numbered, h.2)) in
        (λ i. if other i then next_spot before branch ∷ [] else [])

    go : (before xs : Journal) → EachAfter (IsRightEntry rs) before xs → spots_from s before xs ≡ []
    go before [] h = refl
    go before (y ∷ ys) h = (λ i. is_none' before y h.0 i ++ go (before ++ (y ∷ [])) ys h.1 i)
