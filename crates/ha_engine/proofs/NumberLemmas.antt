-- Runs that are counted by the first unit of their name are those of the name.
use Rattle.std.proofs.Common.{◌≡◌, ℕ, suc, ◌+◌, ◌<◌, List, [], ◌∷◌, length, map, cond, true, refl, sym, ap, subst, ◌∙◌, rules, arith}
use Rattle.std.specs.Prelude.{count_by, nat_eq, nat_lt}
use Rattle.std.specs.List.{list_all}
use Rattle.std.proofs.lemmas.List.Sums.{sum_by-cons}
use Rattle.ha_config.specs.Names.{name_of}
use Rattle.ha_config.proofs.EqualLemmas.{and_left, and_right}
use Rattle.ha_config.specs.Words.{Text, numbers_from, same, up_to}
use Rattle.ha_journal.specs.Journal.{Journal, names, units}
use Rattle.ha_model.specs.declared.record.Record.{Record}
use Rattle.ha_model.specs.Records.{Records, has_name}
use Rattle.ha_model.proofs.KnownLaws.{AllKnown}
use Rattle.named_runs.specs.Named.{first_in, runs_named}
use Rattle.unit_book.specs.Book.{firsts_of}
use Rattle.unit_book.proofs.FirstLemmas.{first-same, firsts-many, names-many, text-name, text_at}

-- LAW: of known units as many
pub runs-by-name : (ns : List Text) (rs : Records) (a : ℕ) → a < length ns → AllKnown (length ns) rs
    → runs_named (firsts_of ns) (first_in (firsts_of ns) a) rs ≡ count_by (λ r. same (text_at ns r.automation) (text_at ns a)) rs
runs-by-name ns [] a lt known = refl
runs-by-name ns (r ∷ rs) a lt known =
    sum_by-cons (λ (q : Record). cond (nat_eq (first_in (firsts_of ns) q.automation) (first_in (firsts_of ns) a)) 1 0) r rs
    ∙ (λ i. cond (first-same ns r.automation a known.0 lt i) 1 0 + runs-by-name ns rs a lt known.1 i)
    ∙ sym (sum_by-cons (λ (q : Record). cond (same (text_at ns q.automation) (text_at ns a)) 1 0) r rs)

-- LAW: so of a journal's units
pub runs-told : (j : Journal) (rs : Records) (a : ℕ) → a < length (units j) → AllKnown (length (units j)) rs
    → runs_named (firsts_of (names j)) (first_in (firsts_of (names j)) a) rs ≡ count_by (has_name j (name_of (units j) a)) rs
runs-told j rs a lt known =
    runs-by-name (names j) rs a (let many = names-many j in omega (arith, lt, many)) (subst (λ n. AllKnown n rs) (sym (names-many j)) known)
    ∙ (λ i. count_by (λ (r : Record). same (text-name (units j) r.automation i) (text-name (units j) a i)) rs)

-- LAW: what is told by number is told by name
pub each-name : {X : Type 0} (v : ℕ → X) (w : Text → X) (ns : List Text) (low : ℕ) → ((a : ℕ) → a < length ns → v (low + a) ≡ w (text_at ns a)) → map v (numbers_from low (length ns)) ≡ map w ns
each-name v w [] low h = refl
each-name v w (x ∷ xs) low h =
    (let here : low + 0 ≡ low = omega arith in
    λ i. ((λ k. v (sym here k)) ∙ h 0 (omega arith)) i
    ∷ each-name v w xs (low + 1) (λ a lt. (let next : low + 1 + a ≡ low + suc a = omega arith in (λ k. v (next k)) ∙ h (suc a) (omega (arith, lt)))) i)

-- LAW: where all units are told by number, all names are
pub all-named : {X : Type 0} (v : ℕ → X) (w : Text → X) (ns : List Text) → ((a : ℕ) → a < length ns → v a ≡ w (text_at ns a)) → map v (up_to (length ns)) ≡ map w ns
all-named v w ns h = each-name v w ns 0 (λ a lt. (let e : 0 + a ≡ a = omega arith in (λ k. v (e k)) ∙ h a lt))

-- LAW: runs of known units
pub known-told : (n : ℕ) (rs : Records) → list_all (λ r. nat_lt r.automation n) rs ≡ true → AllKnown n rs
known-told n [] h = tt
known-told n (r ∷ rs) h =
    (less-of r.automation n (and_left (nat_lt r.automation n) (list_all (λ q. nat_lt q.automation n) rs) h), known-told n rs (and_right (nat_lt r.automation n) (list_all (λ q. nat_lt q.automation n) rs) h))
  where
    less-of : (a b : ℕ) → nat_lt a b ≡ true → a < b
    less-of a b e = search (rules, e)

-- LAW: the next number of a unit, where the firsts are those of the journal's names
pub number-told : (j : Journal) (firsts : List ℕ) (rs : Records) (a : ℕ) → firsts ≡ firsts_of (names j) → a < length firsts → list_all (λ r. nat_lt r.automation (length firsts)) rs ≡ true
    → suc (runs_named firsts (first_in firsts a) rs) ≡ suc (count_by (has_name j (name_of (units j) a)) rs)
number-told j firsts rs a is lt known =
    let many : length firsts ≡ length (units j) = ap length is ∙ firsts-many (names j) ∙ names-many j in
    (λ i. suc (runs_named (is i) (first_in (is i) a) rs)) ∙ ap suc (runs-told j rs a (omega (arith, lt, many)) (subst (λ n. AllKnown n rs) many (known-told (length firsts) rs known)))
