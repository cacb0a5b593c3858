-- Maps with text keys, with one name changed.
use Rattle.std.proofs.Common.{◌≡◌, ℕ, Bool, true, false, refl, sym, ap, subst, ◌∙◌, nat_cmp, Ok, Err}
use Rattle.std.specs.Prelude.{Option, Some, OnErr, OnOk, Result, String, not, ◌&&◌, ◌||◌, if◌then◌else◌}
use Rattle.std.specs.Option.{option_map_or}
use Rattle.std.specs.BTreeSet.{BTreeSet, IsEmpty as IsEmptySet}
use Rattle.std.specs.BTreeMap.{is_at}
use Rattle.std.specs.List.{list_any}
use Rattle.std.specs.HashMap.{HashMap, UpdatesBy, get_by_text}
use Rattle.std.specs.Str.{bytes_eq}
use Rattle.std.specs.String.{string_bytes, string_eq}
use Rattle.std.proofs.lemmas.Map.Text.{hash_map_updates_text}
use Rattle.ha_config.specs.Words.{Text, same}
use Rattle.ha_config.proofs.EqualLemmas.{same-sound}
use Rattle.event_bus.specs.Lists.{has}

module _ {X Y S : Type 0} (m n : HashMap (String Y) X S) where
  abbrev pub At : Text → Option X → Type 0
  At bs w = UpdatesBy string_eq (λ k. bytes_eq bs (string_bytes k)) m n w

  abbrev pub ChangesName : Text → Option X → Type 0
  ChangesName name value = (q : Text) → get_by_text n q ≡ (if same name q then value else get_by_text m q)

  pub changes-name : (bs name : Text) (w : Option X) → bs ≡ name → At bs w → ChangesName name w
  changes-name bs name w e u = subst (λ t. ChangesName t w) e (hash_map_updates_text bs m n w u)

module _ {X Y S : Type 0} (seen m n : HashMap (String Y) X S) (same_map : seen ≡ m) where
  pub inserts-name : (key name : Text) (w : Option X) → key ≡ name → At seen n key w → ChangesName m n name w
  inserts-name key name w e u = subst (λ k. ChangesName k n name w) same_map (changes-name seen n key name w e u)

-- what a value under the changed name passes, in the new map by what it passes in the old one
module _ {X Y S : Type 0} (passes : X → Bool) (m n : HashMap (String Y) X S) (name : Text) (new : X) (written : ChangesName m n name (Some new)) (before : Option X) (is : before ≡ get_by_text m name) where
  abbrev passes_at : HashMap (String Y) X S → Text → Bool
  passes_at k q = option_map_or passes (get_by_text k q) false

  abbrev was : Bool
  was = option_map_or passes before false

  was-at : (q : Text) → same name q ≡ true → was ≡ passes_at m q
  was-at q h = ap (λ o. option_map_or passes o false) is ∙ ap (passes_at m) (same-sound name q h)

  -- LAW: where it passes as before, all is as before
  pub as-before : passes new ≡ was → (q : Text) → passes_at n q ≡ passes_at m q
  as-before e q = ap (λ o. option_map_or passes o false) (written q) ∙ by (same name q) refl
    where
      by : (b : Bool) → same name q ≡ b → option_map_or passes (if b then Some new else get_by_text m q) false ≡ passes_at m q
      by true h = e ∙ was-at q h
      by false h = refl

  -- LAW: where it passes now, it does under the name
  pub passes-too : (also : Bool) → passes new ≡ (also || was) → (q : Text) → passes_at n q ≡ ((same name q && also) || passes_at m q)
  passes-too also e q = ap (λ o. option_map_or passes o false) (written q) ∙ by (same name q) refl
    where
      by : (b : Bool) → same name q ≡ b → option_map_or passes (if b then Some new else get_by_text m q) false ≡ ((b && also) || passes_at m q)
      by true h = e ∙ ap (λ b. also || b) (was-at q h)
      by false h = refl

  -- LAW: where it passes no more, it does not under the name
  pub passes-not : (gone : Bool) → passes new ≡ (not gone && was) → (q : Text) → passes_at n q ≡ (not (same name q && gone) && passes_at m q)
  passes-not gone e q = ap (λ o. option_map_or passes o false) (written q) ∙ by (same name q) refl
    where
      by : (b : Bool) → same name q ≡ b → option_map_or passes (if b then Some new else get_by_text m q) false ≡ (not (b && gone) && passes_at m q)
      by true h = e ∙ ap (λ b. not gone && b) (was-at q h)
      by false h = refl

pub and-true : (b : Bool) → (b && true) ≡ b
and-true true = refl
and-true false = refl

pub none-in : (set : BTreeSet ℕ) → IsEmptySet set → (n : ℕ) → has set n ≡ false
none-in set empty n = ap (list_any (is_at (nat_cmp n))) empty

pub on-then : {T E : Type 0} (P Q : Type 0) (r : Result T E) → (P → Q) → OnOk r P → OnOk r Q
on-then P Q (Ok x) f p = f p
on-then P Q (Err e) f p = tt

pub err-then : {T E : Type 0} (P Q : Type 0) (r : Result T E) → (P → Q) → OnErr r P → OnErr r Q
err-then P Q (Ok x) f p = tt
err-then P Q (Err e) f p = f p

pub or-true : (b : Bool) → (b || true) ≡ true
or-true true = refl
or-true false = refl

-- what is put in where the answer is Ok, and changes nothing else
module _ {T E S : Type 0} (r : Result T E) (put : S → Bool) (old new : S → ℕ → Bool) (n : ℕ) (own : OnOk r ((s : S) → new s n ≡ (put s || old s n))) (err : OnErr r ((s : S) (k : ℕ) → new s k ≡ old s k)) (s : S) where
  -- LAW: no more is there than was, and is put in
  pub part-of : new s n ≡ true → (put s || old s n) ≡ true
  part-of = by r own err
    where
      by : (q : Result T E) → OnOk q ((s : S) → new s n ≡ (put s || old s n)) → OnErr q ((s : S) (k : ℕ) → new s k ≡ old s k) → new s n ≡ true → (put s || old s n) ≡ true
      by (Ok x) o e h = sym (o s) ∙ h
      by (Err x) o e h = ap (λ b. put s || b) (sym (e s n) ∙ h) ∙ or-true (put s)

  -- LAW: and all that was
  pub kept-of : old s n ≡ true → new s n ≡ true
  kept-of = by r own err
    where
      by : (q : Result T E) → OnOk q ((s : S) → new s n ≡ (put s || old s n)) → OnErr q ((s : S) (k : ℕ) → new s k ≡ old s k) → old s n ≡ true → new s n ≡ true
      by (Ok x) o e h = o s ∙ ap (λ b. put s || b) h ∙ or-true (put s)
      by (Err x) o e h = e s n ∙ h
