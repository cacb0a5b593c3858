-- Who waits for a run, by the map of callers, and what one that comes or goes leaves.
use Rattle.std.proofs.Common.{◌≡◌, ℕ, [], ◌∷◌, Bool, true, false, refl, sym, ap, ◌∙◌, arith, rules}
use Rattle.std.specs.Prelude.{Option, Some, None, nat_eq, if◌then◌else◌}
use Rattle.std.specs.BTreeMap.{BTreeMap, Updates, is_at}
use Rattle.std.specs.BTreeSet.{BTreeSet}
use Rattle.std.specs.Map.{lookup}
use Rattle.std.specs.Ordering.{is_eq, nat_cmp}
use Rattle.std.proofs.lemmas.Bool.{eqb-true}
use Rattle.std.proofs.lemmas.Bool.Decides.{nat_tests}
use Rattle.wait_set.specs.Runs.{Pair, has_pair}
use Rattle.script_calls.specs.Waiting.{AreListed, Caller, Waiting, caller_in, caller_of, is_by, unless_by}

-- ---- the list of calls, and the map

cmp-eq : (a b : ℕ) → is_eq (nat_cmp a b) ≡ nat_eq a b
cmp-eq a b = by (nat_eq a b) refl
  where
    by : (t : Bool) → nat_eq a b ≡ t → is_eq (nat_cmp a b) ≡ t
    by true e = grind (arith, nat_tests, e)
    by false e = grind (arith, nat_tests, e)

-- LEMMA: the map's entry is the list's
pub found-is : (c : ℕ) (es : Waiting) → lookup (is_at (nat_cmp c)) es ≡ caller_of c es
found-is c [] = refl
found-is c (x ∷ xs) = (λ i. if cmp-eq c x.0 i then Some x.1 else found-is c xs i)

-- LEMMA: what an update of one entry says of each
pub updated : (old new : BTreeMap ℕ Caller) (k : ℕ) (w : Option Caller) → Updates nat_cmp old new k w → (c : ℕ) → caller_in new c ≡ (if nat_eq k c then w else caller_in old c)
updated old new k w u c = u.0 c ∙ (λ i. if cmp-eq k c i then w else caller_in old c)

pub updated-list : (old new : BTreeMap ℕ Caller) (k : ℕ) (w : Option Caller) → Updates nat_cmp old new k w → (c : ℕ) → caller_of c new.entries ≡ (if nat_eq k c then w else caller_of c old.entries)
updated-list old new k w u c =
    sym (found-is c new.entries) ∙ updated old new k w u c ∙ (λ i. if nat_eq k c then w else found-is c old.entries i)

-- ---- callers that are listed

turned : (m n : ℕ) → nat_eq m n ≡ false → nat_eq n m ≡ false
turned m n e = search (rules, e)

-- LEMMA: the others stay listed, where a caller's call goes with its pair
pub dropped : (old new : BTreeMap ℕ Caller) (pairs pairs' : BTreeSet Pair) (caller k : ℕ)
    → ((c : ℕ) → caller_in new c ≡ (if nat_eq k c then unless_by caller (caller_in old c) else caller_in old c))
    → has_pair pairs' caller k ≡ false
    → ((s o : ℕ) → nat_eq k o ≡ false → has_pair pairs' s o ≡ has_pair pairs s o)
    → ((s o : ℕ) → nat_eq caller s ≡ false → has_pair pairs' s o ≡ has_pair pairs s o) → AreListed old pairs → AreListed new pairs'
dropped old new pairs pairs' caller k u gone others apart h s c = by (nat_eq k c) refl
  where
    never : (o : Option Caller) → nat_eq caller s ≡ true → is_by s (unless_by caller o) ≡ false
    never None same = refl
    never (Some w) same = one (nat_eq caller w.0) refl
      where
        one : (t : Bool) → nat_eq caller w.0 ≡ t → is_by s (if t then None else Some w) ≡ false
        one true e = refl
        one false e = (λ i. nat_eq (sym (eqb-true caller s same) i) w.0) ∙ e

    stays : (o : Option Caller) → nat_eq caller s ≡ false → is_by s o ≡ is_by s (unless_by caller o)
    stays None off = refl
    stays (Some w) off = one (nat_eq caller w.0) refl
      where
        one : (t : Bool) → nat_eq caller w.0 ≡ t → nat_eq s w.0 ≡ is_by s (if t then None else Some w)
        one true e = (λ i. nat_eq s (sym (eqb-true caller w.0 e) i)) ∙ turned caller s off
        one false e = refl

    here : (t : Bool) → nat_eq caller s ≡ t → nat_eq k c ≡ true → has_pair pairs' s c ≡ is_by s (unless_by caller (caller_in old c))
    here true same is = (λ i. has_pair pairs' (sym (eqb-true caller s same) i) (sym (eqb-true k c is) i)) ∙ gone ∙ sym (never (caller_in old c) same)
    here false off is = apart s c off ∙ h s c ∙ stays (caller_in old c) off

    by : (t : Bool) → nat_eq k c ≡ t → has_pair pairs' s c ≡ is_by s (caller_in new c)
    by true is = here (nat_eq caller s) refl is ∙ ap (is_by s) (sym (u c ∙ (λ i. if is i then unless_by caller (caller_in old c) else caller_in old c)))
    by false is = others s c is ∙ h s c ∙ ap (is_by s) (sym (u c ∙ (λ i. if is i then unless_by caller (caller_in old c) else caller_in old c)))

-- LEMMA: where no pair of a caller is listed, it waits for no run
pub none-left : (m : BTreeMap ℕ Caller) (pairs : BTreeSet Pair) (caller : ℕ) → AreListed m pairs → ((c : ℕ) → has_pair pairs caller c ≡ false) → (c : ℕ) → caller_in m c ≡ unless_by caller (caller_in m c)
none-left m pairs caller h none c = by (caller_in m c) (sym (h caller c) ∙ none c)
  where
    by : (o : Option Caller) → is_by caller o ≡ false → o ≡ unless_by caller o
    by None e = refl
    by (Some w) e = (λ i. if sym e i then None else Some w)
