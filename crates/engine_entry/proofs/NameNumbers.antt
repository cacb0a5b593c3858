-- Automations with their numbers, by their names.
use Rattle.std.proofs.Common.{◌≡◌, ℕ, zero, suc, ◌+◌, ◌<◌, ◌≤◌, List, [], ◌∷◌, length, drop, get_or, Bool, true, false, refl, sym, subst, ◌∙◌, arith}
use Rattle.std.specs.Prelude.{Option, Some, None, find, is_some, option_map, option_and_then, slice_get, slice_index_or, zip, if◌then◌else◌}
use Rattle.std.specs.List.{enumerate_from}
use Rattle.std.proofs.lemmas.List.{drop_all}
use Rattle.ha_config.specs.declared.config.Automation.{Automation}
use Rattle.ha_config.specs.declared.config.Config.{Config}
use Rattle.ha_config.specs.Names.{named_among}
use Rattle.ha_config.specs.Words.{Text, same}
use Rattle.ha_journal.specs.Journal.{Journal, automations, in_force}
use Rattle.cond_eval.proofs.NameLemmas.{EachIn}
use Rattle.engine_parts.specs.Numbers.{numbers_in}
use Rattle.engine_parts.proofs.ViewLemmas.{rules-are, rules-numbered}
use Rattle.engine_entry.specs.Reloaded.{has_name, number_by}

-- ---- one place further

named-next : (m : ℕ) (us : List Automation) (i : ℕ) (x : Automation) (name : Text) → i < length us → x ≡ get_or us i x
    → named_among (enumerate_from m (drop i us)) name ≡ (if same x.name name then Some m else named_among (enumerate_from (m + 1) (drop (suc i) us)) name)
named-next m [] i x name lt is = absurd (omega (arith, lt))
named-next m (u ∷ us) zero x name lt is = by (same u.name name) refl ∙ (λ q. if same (sym is q).name name then Some m else named_among (enumerate_from (m + 1) us) name)
  where
    by : (b : Bool) → same u.name name ≡ b
        → option_map {T = ℕ × Automation} {U = ℕ} (λ p. p.0) (if b then Some (m, u) else find (λ p. same p.1.name name) (enumerate_from (m + 1) us)) ≡ (if b then Some m else named_among (enumerate_from (m + 1) us) name)
    by true e = refl
    by false e = refl
named-next m (u ∷ us) (suc i) x name lt is = named-next m us i x name (omega (arith, lt)) is

-- LAW: the one at a place is found there
pub named-here : (us : List Automation) (i : ℕ) (x : Automation) (name : Text) → i < length us → x ≡ get_or us i x → same x.name name ≡ true → named_among (enumerate_from i (drop i us)) name ≡ Some i
named-here us i x name lt is e = named-next i us i x name lt is ∙ (λ q. if e q then Some i else named_among (enumerate_from (i + 1) (drop (suc i) us)) name)

-- LAW: one of another name is passed
pub named-on : (us : List Automation) (i : ℕ) (x : Automation) (name : Text) → i < length us → x ≡ get_or us i x → same x.name name ≡ false
    → named_among (enumerate_from i (drop i us)) name ≡ named_among (enumerate_from (i + 1) (drop (i + 1) us)) name
named-on us i x name lt is e =
    named-next i us i x name lt is ∙ (λ q. if e q then Some i else named_among (enumerate_from (i + 1) (drop (suc i) us)) name)
    ∙ (let up : suc i ≡ i + 1 = omega arith in λ q. named_among (enumerate_from (i + 1) (drop (up q) us)) name)

-- LAW: behind the last there is none
pub named-none : (us : List Automation) (i : ℕ) (name : Text) → length us ≤ i → named_among (enumerate_from i (drop i us)) name ≡ None
named-none us i name le = (λ q. named_among (enumerate_from i (drop_all i us le q)) name)

-- ---- numbers at places

-- the number at the place of a name is that of the name
by-place : (f : ℕ → Option ℕ) (m : ℕ) (ns : List ℕ) (us : List Automation) (name : Text) → length us ≤ length ns → ((i : ℕ) → f (m + i) ≡ slice_get ns i)
    → named_among (zip ns us) name ≡ option_and_then f (named_among (enumerate_from m us) name)
by-place f m [] [] name len has = refl
by-place f m (n ∷ ns) [] name len has = refl
by-place f m [] (u ∷ us) name len has = absurd (omega (arith, len))
by-place f m (n ∷ ns) (u ∷ us) name len has =
    by (same u.name name) (by-place f (m + 1) ns us name (omega (arith, len)) (λ i. (let up : m + 1 + i ≡ m + suc i = omega arith in λ q. f (up q)) ∙ has (suc i)))
  where
    here : f m ≡ Some n
    here = (let none : m ≡ m + 0 = omega arith in λ q. f (none q)) ∙ has 0

    by : (b : Bool) → named_among (zip ns us) name ≡ option_and_then f (named_among (enumerate_from (m + 1) us) name)
        → option_map {T = ℕ × Automation} {U = ℕ} (λ p. p.0) (if b then Some (n, u) else find (λ p. same p.1.name name) (zip ns us))
        ≡ option_and_then f (option_map {T = ℕ × Automation} {U = ℕ} (λ p. p.0) (if b then Some (m, u) else find (λ p. same p.1.name name) (enumerate_from (m + 1) us)))
    by true rest = sym here
    by false rest = rest

-- a name is there with numbers where it is without
some-place : (m : ℕ) (ns : List ℕ) (us : List Automation) (name : Text) → length us ≤ length ns → is_some (named_among (zip ns us) name) ≡ is_some (named_among (enumerate_from m us) name)
some-place m [] [] name len = refl
some-place m (n ∷ ns) [] name len = refl
some-place m [] (u ∷ us) name len = absurd (omega (arith, len))
some-place m (n ∷ ns) (u ∷ us) name len = by (same u.name name) (some-place (m + 1) ns us name (omega (arith, len)))
  where
    by : (b : Bool) → is_some (named_among (zip ns us) name) ≡ is_some (named_among (enumerate_from (m + 1) us) name)
        → is_some (option_map {T = ℕ × Automation} {U = ℕ} (λ p. p.0) (if b then Some (n, u) else find (λ p. same p.1.name name) (zip ns us)))
        ≡ is_some (option_map {T = ℕ × Automation} {U = ℕ} (λ p. p.0) (if b then Some (m, u) else find (λ p. same p.1.name name) (enumerate_from (m + 1) us)))
    by true rest = refl
    by false rest = rest

-- LAW: a fact of each with its number is one of that at a place
pub each-at : (P : ℕ → Automation → Type 0) (ns : List ℕ) (us : List Automation) (i : ℕ) (y : Automation) → i < length us → length us ≤ length ns → y ≡ get_or us i y → EachIn P (zip ns us) → P (slice_index_or ns i 0) y
each-at P ns [] i y lt len is h = absurd (omega (arith, lt))
each-at P [] (u ∷ us) i y lt len is h = absurd (omega (arith, len))
each-at P (n ∷ ns) (u ∷ us) zero y lt len is h = subst (P n) (sym is) h.0
each-at P (n ∷ ns) (u ∷ us) (suc i) y lt len is h = each-at P ns us i y (omega (arith, lt)) (omega (arith, len)) is h.1

-- ---- those in force after a journal

-- with these numbers they are those in force
pub record AreNumbered (i : Journal) (all : List Automation) (ns : List ℕ) : Type 0 where
  pub are : zip ns all ≡ in_force i
  pub within : length all ≤ length ns

-- LAW: with all numbers those of a configuration are
pub config-numbered : (i : Journal) (c : Config) (ns : List ℕ) → c.automations ≡ automations i → ns ≡ numbers_in i → AreNumbered i c.automations ns
config-numbered i c ns all named = record {
  are = rules-are i ns c named all;
  within = subst (λ (l : List Automation). length l ≤ length ns) (sym all) (rules-numbered i ns named);
}

-- LAW: the number of a name, and whether it is there
pub number-known : (i : Journal) (c : Config) (ns : List ℕ) (name : Text) → AreNumbered i c.automations ns → number_by c ns name ≡ named_among (in_force i) name
number-known i c ns name h =
    sym (by-place (λ n. slice_get ns n) 0 ns c.automations name h.within (λ m. (let none : 0 + m ≡ m = omega arith in λ q. slice_get ns (none q))))
    ∙ (λ q. named_among (h.are q) name)

pub has-known : (i : Journal) (c : Config) (ns : List ℕ) (name : Text) → AreNumbered i c.automations ns → has_name c name ≡ is_some (named_among (in_force i) name)
has-known i c ns name h = sym (some-place 0 ns c.automations name h.within) ∙ (λ q. is_some (named_among (h.are q) name))
