-- The values of an object, one after another, and the order of their names.
use Rattle.std.proofs.Common.{◌≡◌, ◌∙◌, ap, ap₂, refl, sym, ℕ, ◌≤◌, Bool, true, false, true≢false, List, [], ◌∷◌, ◌++◌, map, ◌&&◌, Option, Some, None, option_map, option_and_then, string_bytes, arith, rules, Ordering}
use Rattle.std.specs.Prelude.{nat_le}
use Rattle.ha_clock.specs.Local.{last_moment}
use Rattle.std.proofs.lemmas.Cmp.{same_from_slice_cmp}
use Rattle.std.proofs.lemmas.Bool.Decides.{nat_tests}
use Rattle.std.specs.Ordering.{nat_cmp, is_lt}
use Rattle.std.specs.Cmp.Lexicographic.{slice_cmp}
use Rattle.std.specs.List.{list_all}
use Rattle.std.specs.Str.{is_utf8}
use Rattle.std.proofs.lemmas.Str.{is_utf8-from_IsUtf8, IsUtf8-string_bytes}
use Rattle.std.specs.List.Sorted.{IsStrictlySortedBy}
use Rattle.std.specs.String.{string_cmp}
use Rattle.serde_json.specs.Data.{Data}
use Rattle.serde_json.specs.Find.{as_bool}
use Rattle.serde_json.specs.View.{members_view, view}
use Rattle.serde_json.proofs.Views.{Entry}
use Rattle.std.specs.Prelude.{String}
use Rattle.std.specs.Map as maps
use Rattle.std.specs.declared.alloc.Global.{Global}
use Rattle.ha_config.specs.Words.{Text, comes_before}
use Rattle.ha_config.specs.ValueFacts.{keys_of}
use Rattle.ha_config.specs.Sound.{AreSoundMoments, are_in_name_order, IsSoundStore}
use Rattle.store_text.specs.Store.{Moments, Switches, as_moment, flags_of, moments_of, values_of}

module _ {X : Type 0} (form : Data → Option X) where
  abbrev Pairs : Type 0
  Pairs = List (Text × X)

  abbrev step : Text → Option X → Option Pairs → Option Pairs
  step k o r = option_and_then (λ x. option_map (λ rest. (k, x) ∷ rest) r) o

  abbrev joined : Option Pairs → Option Pairs → Option Pairs
  joined (Some a) (Some b) = Some (a ++ b)
  joined (Some a) None = None
  joined None b = None

  step_joined : (k : Text) (o : Option X) (p q : Option Pairs) → step k o (joined p q) ≡ joined (step k o p) q
  step_joined k None p q = refl
  step_joined k (Some x) None q = refl
  step_joined k (Some x) (Some p) None = refl
  step_joined k (Some x) (Some p) (Some q) = refl

  joined_first : (q : Option Pairs) → q ≡ joined (Some []) q
  joined_first None = refl
  joined_first (Some q) = refl

  joined_none : (p : Option Pairs) → joined p None ≡ None
  joined_none None = refl
  joined_none (Some p) = refl

  values_append : (xs ys : List Entry) → values_of form (members_view (xs ++ ys)) ≡ joined (values_of form (members_view xs)) (values_of form (members_view ys))
  values_append [] ys = joined_first (values_of form (members_view ys))
  values_append (x ∷ xs) ys = ap (step (string_bytes x.0) (form (view x.1))) (values_append xs ys)
      ∙ step_joined (string_bytes x.0) (form (view x.1)) (values_of form (members_view xs)) (values_of form (members_view ys))

  -- one more value
  pub values_more : (done : List Entry) (e : Entry) (s : Pairs) (x : X) → values_of form (members_view done) ≡ Some s → form (view e.1) ≡ Some x
      → values_of form (members_view (done ++ e ∷ [])) ≡ Some (s ++ (string_bytes e.0, x) ∷ [])
  values_more done e s x h k = values_append done (e ∷ []) ∙ ap₂ joined h (ap (λ o. step (string_bytes e.0) o (Some [])) k)

  -- a value that is not of the form
  pub values_stop : (done : List Entry) (e : Entry) (left : List Entry) → form (view e.1) ≡ None → values_of form (members_view (done ++ e ∷ left)) ≡ None
  values_stop done e left k = values_append done (e ∷ left)
      ∙ ap (joined (values_of form (members_view done))) (ap (λ o. step (string_bytes e.0) o (values_of form (members_view left))) k)
      ∙ joined_none (values_of form (members_view done))

  abbrev names : Option Pairs → List Text
  names None = []
  names (Some s) = keys_of s

  named_step : (k : Text) (ks : List Text) (o : Option X) (r : Option Pairs) (s : Pairs) → ((more : Pairs) → r ≡ Some more → keys_of more ≡ ks) → step k o r ≡ Some s → keys_of s ≡ k ∷ ks
  named_step k ks None r s later h = absurd (cc)
  named_step k ks (Some x) None s later h = absurd (cc)
  named_step k ks (Some x) (Some more) s later h = ap names (sym h) ∙ ap (λ ts. k ∷ ts) (later more refl)

  -- the names are the keys
  named : (es : List Entry) (s : Pairs) → values_of form (members_view es) ≡ Some s → keys_of s ≡ map string_bytes (maps.keys_of es)
  named [] s h = ap names (sym h)
  named (e ∷ es) s h = named_step (string_bytes e.0) (map string_bytes (maps.keys_of es)) (form (view e.1)) (values_of form (members_view es)) s (named es) h

-- ---- the order of the names

-- the order of a map's keys is that of texts
pub is_lt-comes_before : (k l : Text) (o : Ordering) → o ≡ slice_cmp nat_cmp k l → is_lt o ≡ comes_before k l
is_lt-comes_before = same_from_slice_cmp nat_cmp is_lt comes_before refl (λ _ _. refl) (λ _ _. refl) (λ x y xs ys o h. grind (arith, nat_tests))

abbrev names_in_order : List Text → Bool
names_in_order [] = true
names_in_order (t ∷ []) = true
names_in_order (t ∷ u ∷ ts) = comes_before t u && names_in_order (u ∷ ts)

by_names : {X : Type 0} (ps : List (Text × X)) → are_in_name_order ps ≡ names_in_order (keys_of ps)
by_names [] = refl
by_names (p ∷ []) = refl
by_names (p ∷ q ∷ ps) = ap (λ b. comes_before p.0 q.0 && b) (by_names (q ∷ ps))

in_order : (ks : List (String Global)) → IsStrictlySortedBy string_cmp ks → names_in_order (map string_bytes ks) ≡ true
unfolding IsStrictlySortedBy
in_order [] h = refl
in_order (k ∷ []) h = refl
in_order (k ∷ l ∷ ks) h = ap₂ ◌&&◌ (sym (is_lt-comes_before (string_bytes k) (string_bytes l) _ refl) ∙ ap is_lt h.0.0) (in_order (l ∷ ks) h.1)

utf8_by_names : {X : Type 0} (ps : List (Text × X)) → list_all (λ p. is_utf8 p.0) ps ≡ list_all is_utf8 (keys_of ps)
utf8_by_names [] = refl
utf8_by_names (p ∷ ps) = ap (λ b. is_utf8 p.0 && b) (utf8_by_names ps)

all_utf8 : (ks : List (String Global)) → list_all is_utf8 (map string_bytes ks) ≡ true
all_utf8 [] = refl
all_utf8 (k ∷ ks) = ap₂ ◌&&◌ (is_utf8-from_IsUtf8 (string_bytes k) (IsUtf8-string_bytes k)) (all_utf8 ks)

-- LAW: an object's flags are in the order of their names, each of which is UTF-8
pub flags_sound : (es : List Entry) (s : Switches) → flags_of (members_view es) ≡ Some s → IsStrictlySortedBy string_cmp (maps.keys_of es) → IsSoundStore (Some s)
flags_sound es s h o =
    ap₂ ◌&&◌ (by_names s ∙ ap names_in_order (named as_bool es s h) ∙ in_order (maps.keys_of es) o) (utf8_by_names s ∙ ap (list_all is_utf8) (named as_bool es s h) ∙ all_utf8 (maps.keys_of es))

-- and so are an object's moments, where none is past the last one that has a text
pub moments_sound : (es : List Entry) (s : Moments) → moments_of (members_view es) ≡ Some s → IsStrictlySortedBy string_cmp (maps.keys_of es) → list_all (λ p. nat_le p.1 last_moment) s ≡ true → AreSoundMoments s
moments_sound es s h o in_time = record {
  ordered = by_names s ∙ ap names_in_order (named as_moment es s h) ∙ in_order (maps.keys_of es) o;
  utf8 = utf8_by_names s ∙ ap (list_all is_utf8) (named as_moment es s h) ∙ all_utf8 (maps.keys_of es);
  in_time = in_time;
}

-- one more of them
pub in-time-more : (ms : Moments) (k : Text) (at : ℕ) → list_all (λ p. nat_le p.1 last_moment) ms ≡ true → at ≤ last_moment → list_all (λ p. nat_le p.1 last_moment) (ms ++ (k, at) ∷ []) ≡ true
in-time-more [] k at h le = (let e : nat_le at last_moment ≡ true = search (rules, le) in ap (λ b. b && true) e)
in-time-more (m ∷ ms) k at h le = (let parts = both (nat_le m.1 last_moment) (list_all (λ p. nat_le p.1 last_moment) ms) h in ap₂ ◌&&◌ parts.0 (in-time-more ms k at parts.1 le))
  where
    both : (a b : Bool) → (a && b) ≡ true → (a ≡ true) × (b ≡ true)
    both true b h = (refl, h)
    both false b h = absurd (true≢false (sym h))
