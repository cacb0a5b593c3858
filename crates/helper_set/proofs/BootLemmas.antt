-- What is kept at the Boot; and the helper that an id names, by what is kept.
use Rattle.std.proofs.Common.{◌≡◌, ℕ, zero, suc, ◌+◌, ◌≤◌, List, [], ◌∷◌, length, map, Bool, true, false, cond, refl, sym, ap, subst, ◌∙◌, arith}
use Rattle.std.specs.Prelude.{Option, Some, None, MatchOption, IsTrue, not, is_some, nat_lt, nat_le, slice_get, option_map, option_and_then, ◌&&◌, ◌||◌, if◌then◌else◌}
use Rattle.std.specs.List.{list_all, list_any, position_or_len}
use Rattle.std.proofs.lemmas.Bool.Decides.{nat_tests}
use Rattle.ha_value.specs.declared.value.EntityId.{EntityId}
use Rattle.ha_value.specs.Ids.{entity_text}
use Rattle.ha_config.specs.declared.config.Config.{Config}
use Rattle.ha_config.specs.declared.helper.Helper.{Helper}
use Rattle.ha_journal.specs.declared.carry.Carry.{Carry}
use Rattle.ha_journal.specs.declared.entry.Entry.TheVariants.{Boot}
use Rattle.ha_config.specs.Words.{Text, same, same_entity}
use Rattle.ha_config.specs.ValueFacts.{all_distinct}
use Rattle.ha_config.specs.Sound.{are_sound_automations, are_sound_scripts, is_sound_config, is_sound_helper}
use Rattle.ha_journal.specs.Helpers.{due_in, text_of}
use Rattle.ha_config.specs.Helpers.{helper_named, is_helper}
use Rattle.ha_journal.specs.Journal.{Journal, helpers}
use Rattle.ha_config.proofs.EqualLemmas.{and_left, and_right, entity-sound, same-refl}
use Rattle.helper_set.specs.declared.kept.Kept.{Kept}
use Rattle.helper_set.specs.Kept.{AreApart, At, KeepsIt, Stands, first_kept, place_in}

-- ---- each at its own place

abbrev named_so : EntityId → Kept → Bool
named_so e k = same_entity k.helper.entity e

abbrev texts : List Helper → List Text
texts hs = map (λ h. entity_text h.entity) hs

among : (t : Text) (hs : List Helper) (n : ℕ) (h : Helper) → slice_get hs n ≡ Some h → list_any (same t) (texts hs) ≡ false → same t (entity_text h.entity) ≡ false
among t [] n h get none = absurd (let bad : ◌≡◌ {A = Option Helper} None (Some h) = get in cc)
among t (x ∷ xs) n h get none = by (same t (entity_text x.entity)) refl none n get (among t xs)
  where
    by : (b : Bool) → same t (entity_text x.entity) ≡ b → (b || list_any (same t) (texts xs)) ≡ false → (n : ℕ) → slice_get (x ∷ xs) n ≡ Some h
        → ((m : ℕ) (g : Helper) → slice_get xs m ≡ Some g → list_any (same t) (texts xs) ≡ false → same t (entity_text g.entity) ≡ false) → same t (entity_text h.entity) ≡ false
    by true e all n get rest = absurd (let bad : ◌≡◌ {A = Bool} true false = all in cc)
    by false e all zero get rest = (let q : x ≡ h = cc in subst (λ (y : Helper). same t (entity_text y.entity) ≡ false) q e)
    by false e all (suc n) get rest = rest n h get all

apart-by : (a b : EntityId) → same (entity_text a) (entity_text b) ≡ false → same_entity a b ≡ false
apart-by a b h = by (same_entity a b) refl
  where
    by : (c : Bool) → same_entity a b ≡ c → c ≡ false
    by false e = refl
    by true e =
        (let q : same (entity_text a) (entity_text b) ≡ true = subst (λ x. same (entity_text a) (entity_text x) ≡ true) (entity-sound a b e) (same-refl (entity_text a)) in
        absurd (let bad : ◌≡◌ {A = Bool} true false = sym q ∙ h in cc))

entity-refl : (e : EntityId) → same_entity e e ≡ true
entity-refl e = (λ i. same-refl e.domain i && same-refl e.object i)

own-at : (hs : List Helper) (n : ℕ) (h : Helper) → all_distinct (texts hs) ≡ true → slice_get hs n ≡ Some h → position_or_len (named_so h.entity) (map first_kept hs) ≡ n
own-at [] n h d get = absurd (let bad : ◌≡◌ {A = Option Helper} None (Some h) = get in cc)
own-at (x ∷ xs) zero h d get =
    (let q : x ≡ h = cc in let e : same_entity x.entity h.entity ≡ true = subst (λ (y : Helper). same_entity x.entity y.entity ≡ true) q (entity-refl x.entity) in
    λ i. cond (not (e i)) (1 + position_or_len (named_so h.entity) (map first_kept xs)) 0)
own-at (x ∷ xs) (suc n) h d get =
    let none : list_any (same (entity_text x.entity)) (texts xs) ≡ false = unnot (list_any (same (entity_text x.entity)) (texts xs)) (and_left (not (list_any (same (entity_text x.entity)) (texts xs))) (all_distinct (texts xs)) d) in
    let e = apart-by x.entity h.entity (among (entity_text x.entity) xs n h get none) in
    (λ i. cond (not (e i)) (1 + position_or_len (named_so h.entity) (map first_kept xs)) 0)
    ∙ ap (λ m. 1 + m) (own-at xs n h (and_right (not (list_any (same (entity_text x.entity)) (texts xs))) (all_distinct (texts xs)) d) get)
    ∙ (let z : 1 + n ≡ suc n = omega arith in z)
  where
    unnot : (b : Bool) → not b ≡ true → b ≡ false
    unnot true h = absurd (let bad : ◌≡◌ {A = Bool} false true = h in cc)
    unnot false h = refl

length-first : (hs : List Helper) → length (map first_kept hs) ≡ length hs
length-first [] = refl
length-first (h ∷ hs) = ap suc (length-first hs)

get-first : (hs : List Helper) (n : ℕ) → slice_get (map first_kept hs) n ≡ option_map first_kept (slice_get hs n)
get-first [] n = refl
get-first (h ∷ hs) zero = refl
get-first (h ∷ hs) (suc n) = get-first hs n

within : (hs : List Helper) (n : ℕ) (h : Helper) → slice_get hs n ≡ Some h → nat_lt n (length hs) ≡ true
within [] n h get = absurd (let bad : ◌≡◌ {A = Option Helper} None (Some h) = get in cc)
within (x ∷ xs) zero h get = (let z : nat_lt 0 (suc (length xs)) ≡ true = grind (arith, nat_tests) in z)
within (x ∷ xs) (suc n) h get = (let r = within xs n h get in grind (arith, nat_tests, r))

apart-first : (hs : List Helper) → all_distinct (texts hs) ≡ true → AreApart (map first_kept hs)
apart-first hs d n = subst (λ o. MatchOption o (Unit {0}) (λ k. place_in (map first_kept hs) k.helper.entity ≡ Some n)) (sym (get-first hs n)) (by (slice_get hs n) refl)
  where
    by : (o : Option Helper) → slice_get hs n ≡ o → MatchOption (option_map first_kept o) (Unit {0}) (λ k. place_in (map first_kept hs) k.helper.entity ≡ Some n)
    by None get = tt
    by (Some h) get =
        (let at = own-at hs n h d get in let len = length-first hs in
        (λ i. cond (nat_lt (at i) (len i)) (Some (at i)) None) ∙ (λ i. cond (within hs n h get i) (Some n) None))

distinct-in : (c : Config) → IsTrue (is_sound_config c) → all_distinct (texts c.helpers) ≡ true
distinct-in c sound =
    let few = nat_le (length c.helpers) 1_024 in
    let apart = all_distinct (texts c.helpers) in
    let fine = list_all is_sound_helper c.helpers in
    second-of (are_sound_automations c.automations) (are_sound_scripts c.scripts) few apart fine sound
  where
    second-of : (a b c d e : Bool) → IsTrue (a && (b && (c && d && e))) → d ≡ true
    second-of a b c true e h = refl
    second-of true true true false e h = absurd (let bad : ◌≡◌ {A = Bool} false true = h in cc)
    second-of true true false false e h = absurd (let bad : ◌≡◌ {A = Bool} false true = h in cc)
    second-of true false c false e h = absurd (let bad : ◌≡◌ {A = Bool} false true = h in cc)
    second-of false b c false e h = absurd (let bad : ◌≡◌ {A = Bool} false true = h in cc)

-- LAW: what is made of a sound configuration stands for its Boot
pub boot-stands : (c : Config) (kept : List Kept) → IsTrue (is_sound_config c) → kept ≡ map first_kept c.helpers
    → (text : Text) (stored : Option (List (Text × Bool))) (start : ℕ) (zone : Text) (carry : Carry) → Stands kept [] (Boot text c stored start zone carry ∷ [])
boot-stands c kept sound is text stored start zone carry = subst (λ (l : List Kept). Stands l [] (Boot text c stored start zone carry ∷ [])) (sym is) (record {
  apart = apart-first c.helpers (distinct-in c sound);
  each = λ n. subst (λ o. MatchOption (slice_get c.helpers n) (o ≡ None) (λ h. MatchOption o ⊥ (KeepsIt (Boot text c stored start zone carry ∷ []) h))) (sym (get-first c.helpers n)) (by (slice_get c.helpers n));
  timed = λ n. none (slice_get c.helpers n);
})
  where
    by : (o : Option Helper) → MatchOption o (option_map first_kept o ≡ None) (λ h. MatchOption (option_map first_kept o) ⊥ (KeepsIt (Boot text c stored start zone carry ∷ []) h))
    by None = refl
    by (Some h) = record { helper = refl; text = refl; last = refl; timely = tt }

    none : (o : Option Helper) → None ≡ option_and_then (λ h. due_in (Boot text c stored start zone carry ∷ []) h.entity) o
    none None = refl
    none (Some h) = refl

-- ---- the helper that an id names

module _ (j : Journal) (P : Helper → Kept → Type 0) (same_helper : (h : Helper) (k : Kept) → P h k → k.helper ≡ h) where
  pub named-at : (e : EntityId) (hs : List Helper) (kept : List Kept) → ((n : ℕ) → At hs kept n P) → helper_named hs e ≡ slice_get hs (position_or_len (named_so e) kept)
  named-at e [] [] h = refl
  named-at e [] (k ∷ ks) h = absurd (let bad : ◌≡◌ {A = Option Kept} (Some k) None = h 0 in cc)
  named-at e (a ∷ hs) [] h = absurd (h 0)
  named-at e (a ∷ hs) (k ∷ ks) h = by (same_entity a.entity e) (ap (λ (y : Helper). same_entity y.entity e) (same_helper a k (h 0))) (named-at e hs ks (λ n. h (suc n)))
    where
      by : (b : Bool) → same_entity k.helper.entity e ≡ b → helper_named hs e ≡ slice_get hs (position_or_len (named_so e) ks)
          → (if b then Some a else helper_named hs e) ≡ slice_get (a ∷ hs) (cond (not (same_entity k.helper.entity e)) (1 + position_or_len (named_so e) ks) 0)
      by true q rest = (λ i. slice_get (a ∷ hs) (cond (not (sym q i)) (1 + position_or_len (named_so e) ks) 0))
      by false q rest =
          rest ∙ (let z : suc (position_or_len (named_so e) ks) ≡ 1 + position_or_len (named_so e) ks = omega arith in λ i. slice_get (a ∷ hs) (z i))
          ∙ (λ i. slice_get (a ∷ hs) (cond (not (sym q i)) (1 + position_or_len (named_so e) ks) 0))

pub past : {X : Type 0} (xs : List X) (n : ℕ) → length xs ≤ n → slice_get xs n ≡ None
past [] n le = refl
past (x ∷ xs) zero le = absurd (omega (arith, le))
past (x ∷ xs) (suc n) le = past xs n (omega (arith, le))

is-some-get : (hs : List Helper) (n : ℕ) → is_some (slice_get hs n) ≡ nat_lt n (length hs)
is-some-get [] n = (let z : nat_lt n 0 ≡ false = grind (arith, nat_tests) in sym z)
is-some-get (h ∷ hs) zero = (let z : nat_lt 0 (suc (length hs)) ≡ true = grind (arith, nat_tests) in sym z)
is-some-get (h ∷ hs) (suc n) = is-some-get hs n ∙ (let z : nat_lt n (length hs) ≡ nat_lt (suc n) (suc (length hs)) = grind (arith, nat_tests) in z)

as-many : (P : Helper → Kept → Type 0) (hs : List Helper) (kept : List Kept) → ((n : ℕ) → At hs kept n P) → length kept ≡ length hs
as-many P [] [] h = refl
as-many P [] (k ∷ ks) h = absurd (let bad : ◌≡◌ {A = Option Kept} (Some k) None = h 0 in cc)
as-many P (a ∷ hs) [] h = absurd (h 0)
as-many P (a ∷ hs) (k ∷ ks) h = ap suc (as-many P hs ks (λ n. h (suc n)))

module _ (j : Journal) (e : EntityId) (kept : List Kept) (each : (n : ℕ) → At (helpers j) kept n (KeepsIt j)) where
  abbrev at : ℕ
  at = position_or_len (named_so e) kept

  named-by : helper_named (helpers j) e ≡ slice_get (helpers j) at
  named-by = named-at j (KeepsIt j) (λ h k t. t.helper) e (helpers j) kept each

  -- LAW: an id names a helper exactly where it has a place
  pub has-place : is_some (place_in kept e) ≡ is_helper (helpers j) e
  has-place =
      by (nat_lt at (length kept))
      ∙ (λ i. nat_lt at (as-many (KeepsIt j) (helpers j) kept each i))
      ∙ sym (is-some-get (helpers j) at) ∙ ap is_some (sym named-by)
    where
      by : (b : Bool) → is_some (cond b (Some at) None) ≡ b
      by true = refl
      by false = refl

  -- LAW: where it has none there is no helper; else the text that is kept there is the helper's
  pub text-none : place_in kept e ≡ None → None ≡ option_map (text_of j) (helper_named (helpers j) e)
  text-none none = by (helper_named (helpers j) e) (sym (has-place ∙ refl) ∙ ap is_some none)
    where
      by : (o : Option Helper) → is_some o ≡ false → None ≡ option_map (text_of j) o
      by None h = refl
      by (Some a) h = absurd (let bad : ◌≡◌ {A = Bool} true false = h in cc)

  pub text-some : (n : ℕ) (k : Kept) → place_in kept e ≡ Some n → slice_get kept n ≡ Some k → Some k.text ≡ option_map (text_of j) (helper_named (helpers j) e)
  text-some n k place get =
      by (slice_get (helpers j) n) (each n) ∙ ap (option_map (text_of j)) (sym (named-by ∙ ap (slice_get (helpers j)) (here (nat_lt at (length kept)) place)))
    where
      here : (b : Bool) → cond b (Some at) None ≡ Some n → at ≡ n
      here true q = cc
      here false q = absurd (let bad : ◌≡◌ {A = Option ℕ} None (Some n) = q in cc)

      by : (o : Option Helper) → MatchOption o (slice_get kept n ≡ None) (λ h. MatchOption (slice_get kept n) ⊥ (KeepsIt j h)) → Some k.text ≡ option_map (text_of j) o
      by None t = absurd (let bad : ◌≡◌ {A = Option Kept} (Some k) None = sym get ∙ t in cc)
      by (Some h) t = ap Some (subst (λ o. MatchOption o ⊥ (KeepsIt j h)) get t).text

  -- LAW: the text of the helper that is found by its id
  pub text-found : option_map (λ k. k.text) (option_and_then (slice_get kept) (place_in kept e)) ≡ option_map (text_of j) (helper_named (helpers j) e)
  text-found = by (place_in kept e) refl
    where
      two : (n : ℕ) (o : Option Kept) → place_in kept e ≡ Some n → slice_get kept n ≡ o → option_map (λ k. k.text) o ≡ option_map (text_of j) (helper_named (helpers j) e)
      two n None p g = absurd (gone (nat_lt at (length kept)) refl p g)
        where
          reach : (xs : List Kept) (m : ℕ) → nat_lt m (length xs) ≡ true → slice_get xs m ≡ None → ⊥
          reach [] m lt q = (let bad : ◌≡◌ {A = Bool} false true = sym (let z : nat_lt m 0 ≡ false = grind (arith, nat_tests) in z) ∙ lt in cc)
          reach (x ∷ xs) zero lt q = (let bad : ◌≡◌ {A = Option Kept} (Some x) None = q in cc)
          reach (x ∷ xs) (suc m) lt q = reach xs m (let z : nat_lt m (length xs) ≡ true = grind (arith, nat_tests, lt) in z) q

          gone : (b : Bool) → nat_lt at (length kept) ≡ b → cond b (Some at) None ≡ Some n → slice_get kept n ≡ None → ⊥
          gone true lt p q = (let z : at ≡ n = cc in reach kept at lt (ap (slice_get kept) z ∙ q))
          gone false lt p q = (let bad : ◌≡◌ {A = Option ℕ} None (Some n) = p in cc)
      two n (Some k) p g = text-some n k p g

      by : (o : Option ℕ) → place_in kept e ≡ o → option_map (λ k. k.text) (option_and_then (slice_get kept) o) ≡ option_map (text_of j) (helper_named (helpers j) e)
      by None p = text-none p
      by (Some n) p = two n (slice_get kept n) p refl
