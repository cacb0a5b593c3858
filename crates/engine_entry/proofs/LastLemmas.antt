-- The last target of each automation that a step switches.
use Rattle.std.proofs.Common.{◌≡◌, ℕ, List, [], ◌∷◌, ◌++◌, Bool, true, false, refl, sym, ap, subst, ◌∙◌, rules}
use Rattle.std.specs.Prelude.{Option, Some, None, is_some, not, nat_eq, unwrap_or, ◌&&◌, ◌||◌, if◌then◌else◌}
use Rattle.ha_journal.specs.declared.entry.Entry.TheVariants.{Step}
use Rattle.ha_sight.specs.declared.item.Item.{Item}
use Rattle.ha_config.specs.Numbered.{has_number}
use Rattle.ha_journal.specs.Journal.{Journal, HasEntry, in_force, more}
use Rattle.ha_sight.specs.Scripts.{Branch}
use Rattle.ha_journal.specs.Switches.{is_on, switched}
use Rattle.ha_journal.proofs.SwitchLemmas.{on-more}
use Rattle.std.proofs.Math.Path.{fun_ext}
use Rattle.ha_sight.specs.Sight.{Automations}
use Rattle.switch_book.specs.Book.{StandsFor}
use Rattle.switch_book.proofs.SwitchLaws.{switch-of-journal}
use Rattle.engine_entry.specs.Lasts.{AreLasts, EachLast, is_new, kept_with, knows}
use Rattle.engine_entry.specs.Turned.{AreOnce, AreSet, IsTurn, Target, is_target}

eq-of : (a b : ℕ) → nat_eq a b ≡ true → a ≡ b
eq-of a b e = search (rules, e)

eq-self : (a : ℕ) → nat_eq a a ≡ true
eq-self a = search rules

both : (a b : Bool) → (a && b) ≡ true → (a ≡ true) × (b ≡ true)
both true b h = (refl, h)
both false b h = absurd (let bad : ◌≡◌ {A = Bool} false true = h in cc)

not-true : (b : Bool) → not b ≡ true → b ≡ false
not-true true h = absurd (let bad : ◌≡◌ {A = Bool} false true = h in cc)
not-true false h = refl

or-left : (a b : Bool) → (a || b) ≡ false → a ≡ false
or-left true b h = absurd (let bad : ◌≡◌ {A = Bool} true false = h in cc)
or-left false b h = refl

or-right : (a b : Bool) → (a || b) ≡ false → b ≡ false
or-right true b h = absurd (let bad : ◌≡◌ {A = Bool} true false = h in cc)
or-right false b h = h

or-false : (a b : Bool) → a ≡ false → b ≡ false → (a || b) ≡ false
or-false a b p q = (λ i. p i || q i)

-- the value that an earlier target leaves
switched-some : (a : ℕ) (t : Target) (ts : List Target) (b : Bool) → switched a ts ≡ Some b → switched a (t ∷ ts) ≡ Some b
switched-some a t ts b h = by (switched a ts) h refl
  where
    by : (o : Option Bool) → o ≡ Some b → switched a ts ≡ o → switched a (t ∷ ts) ≡ Some b
    by None e f = absurd (let bad : ◌≡◌ {A = Option Bool} None (Some b) = e in cc)
    by (Some v) e f = rw f e

switched-none : (a : ℕ) (t : Target) (ts : List Target) → switched a ts ≡ None → switched a (t ∷ ts) ≡ (if nat_eq t.0 a then Some t.1 else None)
switched-none a t ts h = rw h refl

each-later : (n : ℕ → Bool) (t : Target) (ts kept : List Target) → EachLast n ts kept → EachLast n (t ∷ ts) kept
each-later n t ts [] h = tt
each-later n t ts (u ∷ us) h = (h.0, switched-some u.0 t ts u.1 h.1, each-later n t ts us h.2)

each-snoc : (n : ℕ → Bool) (ts kept : List Target) (t : Target) → EachLast n ts kept → n t.0 ≡ true → switched t.0 ts ≡ Some t.1 → EachLast n ts (kept ++ (t ∷ []))
each-snoc n ts [] t h lt e = (lt, e, tt)
each-snoc n ts (u ∷ us) t h lt e = (h.0, h.1, each-snoc n ts us t h.2 lt e)

target-snoc : (kept : List Target) (t : Target) (a : ℕ) → is_target (kept ++ (t ∷ [])) a ≡ (is_target kept a || nat_eq t.0 a)
target-snoc [] t a = by (nat_eq t.0 a)
  where
    by : (b : Bool) → (b || false) ≡ b
    by true = refl
    by false = refl
target-snoc (u ∷ us) t a = ap (λ b. nat_eq u.0 a || b) (target-snoc us t a) ∙ by (nat_eq u.0 a)
  where
    by : (b : Bool) → (b || (is_target us a || nat_eq t.0 a)) ≡ ((b || is_target us a) || nat_eq t.0 a)
    by true = refl
    by false = refl

turned-eq : (a b : ℕ) → nat_eq a b ≡ false → nat_eq b a ≡ false
turned-eq a b e = search (rules, e)

once-snoc : (kept : List Target) (t : Target) → AreOnce kept → is_target kept t.0 ≡ false → AreOnce (kept ++ (t ∷ []))
once-snoc [] t h off = (refl, tt)
once-snoc (u ∷ us) t h off = (
  target-snoc us t u.0 ∙ or-false (is_target us u.0) (nat_eq t.0 u.0) h.0 (turned-eq u.0 t.0 (or-left (nat_eq u.0 t.0) (is_target us t.0) off)),
  once-snoc us t h.1 (or-right (nat_eq u.0 t.0) (is_target us t.0) off),
)

-- LAW: with one target more in front
pub lasts-next : (n : ℕ → Bool) (t : Target) (ts kept kept' : List Target) → kept' ≡ kept_with n kept t → AreLasts n ts kept → AreLasts n (t ∷ ts) kept'
lasts-next n t ts kept kept' is h = subst (AreLasts n (t ∷ ts)) (sym is) (by (is_new n kept t) refl)
  where
    by : (b : Bool) → is_new n kept t ≡ b → AreLasts n (t ∷ ts) (if b then kept ++ (t ∷ []) else kept)
    by true e =
        (let parts = both (n t.0) (not (is_target kept t.0)) e in
        let lt : n t.0 ≡ true = parts.0 in
        let off : is_target kept t.0 ≡ false = not-true (is_target kept t.0) parts.1 in
        record {
          once = once-snoc kept t h.once off;
          last = each-snoc n (t ∷ ts) kept t (each-later n t ts kept h.last) lt (switched-none t.0 t ts (h.all t.0 lt off) ∙ (λ i. if eq-self t.0 i then Some t.1 else None));
          all = λ a low none.
              (let parts' = sym (target-snoc kept t a) ∙ none in
              switched-none a t ts (h.all a low (or-left (is_target kept a) (nat_eq t.0 a) parts')) ∙ (λ i. if or-right (is_target kept a) (nat_eq t.0 a) parts' i then Some t.1 else None));
        })
    by false e = record {
      once = h.once;
      last = each-later n t ts kept h.last;
      all = λ a low none. switched-none a t ts (h.all a low none) ∙ one a low none (nat_eq t.0 a) refl;
    }
      where
        one : (a : ℕ) → n a ≡ true → is_target kept a ≡ false → (c : Bool) → nat_eq t.0 a ≡ c → (if c then Some t.1 else None) ≡ None
        one a low none true at =
            (let here : t.0 ≡ a = eq-of t.0 a at in
            let new : is_new n kept t ≡ true = (λ i. (ap n here ∙ low) i && not ((ap (is_target kept) here ∙ none) i)) in
            absurd (let bad : ◌≡◌ {A = Bool} true false = sym new ∙ e in cc))
        one a low none false at = refl

pub lasts-none : (n : ℕ → Bool) → AreLasts n [] []
lasts-none n = record { once = tt; last = tt; all = λ a low none. refl }

-- LAW: the last targets are what the step turns
pub switched-turn : (j : Journal) (worker serial : ℕ) (branch : Branch) (targets kept : List Target) → HasEntry j → AreLasts (has_number (in_force j)) targets kept → IsTurn j (Step worker serial branch (Item.Switched targets)) kept
switched-turn j worker serial branch targets kept some h = record {
  only = record { reloads = refl; some = some; report = refl; gone = refl; restart = refl; opens = refl; moment = refl; still = refl; changes = refl };
  once = h.once;
  set = set kept h.last;
  others = λ a low none. on a ∙ (λ i. unwrap_or (h.all a low none i) (is_on j a));
}
  where
    on : (a : ℕ) → is_on (more j (Step worker serial branch (Item.Switched targets))) a ≡ unwrap_or (switched a targets) (is_on j a)
    on a = on-more j (Step worker serial branch (Item.Switched targets)) a some refl

    set : (ks : List Target) → EachLast (has_number (in_force j)) targets ks → AreSet (is_on (more j (Step worker serial branch (Item.Switched targets)))) (has_number (in_force j)) ks
    set [] h = tt
    set (u ∷ us) h = (h.0, on u.0 ∙ (λ i. unwrap_or (h.1 i) (is_on j u.0)), set us h.2)

-- LAW: by the switches those are known that are in force
pub knows-force : (j : Journal) (s : Automations) → StandsFor s j → knows s ≡ has_number (in_force j)
knows-force j s stands = fun_ext (λ a. ap is_some (switch-of-journal s j stands a) ∙ by (has_number (in_force j) a) (is_on j a))
  where
    by : (b on : Bool) → is_some (if b then Some on else None) ≡ b
    by true on = refl
    by false on = refl
