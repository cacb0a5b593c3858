-- The attempts of an entry that starts runs of scripts.
use Rattle.std.proofs.Common.{◌≡◌, ℕ, zero, suc, ◌+◌, ◌<◌, Bool, true, false, List, [], ◌∷◌, length, map, filter, refl, sym, ap, ◌∙◌, arith}
use Rattle.std.specs.Prelude.{Option, Some, None, is_some, nat_lt, slice_get, ◌||◌, if◌then◌else◌}
use Rattle.std.specs.List.{list_all, enumerate_from}
use Rattle.std.specs.Option.{option_map_or}
use Rattle.std.proofs.lemmas.Bool.{ltb-true}
use Rattle.ha_config.specs.declared.config.Automation.{Automation}
use Rattle.ha_config.specs.Words.{Pairs}
use Rattle.ha_config.proofs.EqualLemmas.{and_left, and_right}
use Rattle.ha_config.proofs.ListLemmas.{get-last}
use Rattle.ha_sight.specs.declared.item.Item.{Item}
use Rattle.ha_sight.specs.Conditions.{hold_all}
use Rattle.ha_sight.specs.Scripts.{Branch}
use Rattle.ha_journal.specs.declared.entry.Entry.{Entry}
use Rattle.ha_journal.specs.declared.entry.Entry.TheVariants.{Step}
use Rattle.ha_journal.specs.Attempts.{Attempt, attempts, attempts_of, passes, passing}
use Rattle.ha_journal.specs.Journal.{HasEntry, Journal, more, units}
use Rattle.ha_journal.specs.Moves.{sight}
use Rattle.ha_journal.proofs.FiringLaws.{passing-last}
use Rattle.ha_journal.proofs.ForceLaws.{units-more}
use Rattle.ha_model.specs.Records.{records_of}
use Rattle.ha_model.specs.RunSteps.{runs_after}
use Rattle.ha_model.proofs.FoldLaws.{records-more}
use Rattle.call_laws.specs.Called.{called_with}

is-there : {X : Type 0} (xs : List X) (i : ℕ) → i < length xs → is_some (slice_get xs i) ≡ true
is-there [] i lt = absurd (omega (arith, lt))
is-there (x ∷ xs) zero lt = refl
is-there (x ∷ xs) (suc i) lt = is-there xs i (omega (arith, lt))

-- a script that there is passes
script-passes : (k : Journal) (p : ℕ) (fields : Pairs) (a : ℕ) → a < length (units k) → passes k p (called_with fields a) ≡ true
script-passes k p fields a lt = by (slice_get (units k) a) (is-there (units k) a lt)
  where
    by : (o : Option Automation) → is_some o ≡ true → option_map_or (λ u. true || hold_all (sight k (suc p)) u.tests (called_with fields a).env) o false ≡ true
    by None h = h
    by (Some u) h = refl

all-pass : (k : Journal) (p n : ℕ) (fields : Pairs) (scripts : List ℕ) → list_all (λ a. nat_lt a (length (units k))) scripts ≡ true
    → filter (λ y. passes k p y.1) (enumerate_from n (map (called_with fields) scripts)) ≡ enumerate_from n (map (called_with fields) scripts)
all-pass k p n fields [] h = refl
all-pass k p n fields (a ∷ rest) h =
    let known = and_left (nat_lt a (length (units k))) (list_all (λ a. nat_lt a (length (units k))) rest) h in
    let later = and_right (nat_lt a (length (units k))) (list_all (λ a. nat_lt a (length (units k))) rest) h in
    let here : ℕ × Attempt = (n, called_with fields a) in
    let behind : List (ℕ × Attempt) = filter (λ y. passes k p y.1) (enumerate_from (n + 1) (map (called_with fields) rest)) in
    (λ i. if script-passes k p fields a (ltb-true a (length (units k)) known) i then here ∷ behind else behind)
    ∙ ap (λ t. here ∷ t) (all-pass k p (n + 1) fields rest later)

-- LAW: each of the scripts is attempted, and passes
pub called-pass : (j : Journal) (worker serial : ℕ) (branch : Branch) (scripts : List ℕ) (fields : Pairs) (waits : Bool) → HasEntry j → list_all (λ a. nat_lt a (length (units j))) scripts ≡ true
    → passing (more j (Step worker serial branch (Item.Started scripts fields waits))) ≡ enumerate_from 0 (map (called_with fields) scripts)
called-pass j worker serial branch scripts fields waits has h =
    let x : Entry = Step worker serial branch (Item.Started scripts fields waits) in
    let k = more j x in
    let tried : attempts k (length j) ≡ map (called_with fields) scripts = (λ i. option_map_or (attempts_of k (length j)) (get-last j x i) []) in
    passing-last j x
    ∙ (λ i. filter (λ y. passes k (length j) y.1) (enumerate_from 0 (tried i)))
    ∙ all-pass k (length j) 0 fields scripts ((λ i. list_all (λ a. nat_lt a (length (sym (units-more j x has refl) i))) scripts) ∙ h)

-- LAW: so the records are those after these attempts
pub called-records : (j : Journal) (worker serial : ℕ) (branch : Branch) (scripts : List ℕ) (fields : Pairs) (waits : Bool) → HasEntry j → list_all (λ a. nat_lt a (length (units j))) scripts ≡ true
    → records_of (more j (Step worker serial branch (Item.Started scripts fields waits)))
    ≡ runs_after (more j (Step worker serial branch (Item.Started scripts fields waits))) (records_of j) (enumerate_from 0 (map (called_with fields) scripts))
called-records j worker serial branch scripts fields waits has h =
    let x : Entry = Step worker serial branch (Item.Started scripts fields waits) in
    records-more j x ∙ (λ i. runs_after (more j x) (records_of j) (called-pass j worker serial branch scripts fields waits has h i))
