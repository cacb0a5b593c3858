-- The first pairs of names, with one more pair.
use Rattle.std.proofs.Common.{◌≡◌, [], ◌∷◌, ◌++◌, Bool, true, false, refl, sym, ap, subst, ◌∙◌, nat_cmp}
use Rattle.std.specs.Prelude.{Option, Some, None, String, is_some, option_and_then, if◌then◌else◌}
use Rattle.std.specs.BTreeMap.{BTreeMap, get_by_text}
use Rattle.std.specs.BTreeSet.{BTreeSet, contains_text}
use Rattle.std.specs.BTreeSet as sorted
use Rattle.std.specs.Cmp.Lexicographic.{slice_cmp}
use Rattle.std.specs.String.{string_bytes, string_cmp}
use Rattle.std.proofs.lemmas.Map.Text.{btree_set_updates_text}
use Rattle.ha_value.specs.declared.value.Num.{Num}
use Rattle.ha_value.specs.declared.value.Value.{Value}
use Rattle.ha_sight.specs.Conditions.{attribute_text}
use Rattle.ha_config.specs.Numbers.{read_number}
use Rattle.ha_config.specs.Words.{or_else, Text, Pairs, same, first_pair}
use Rattle.ha_config.proofs.EqualLemmas.{same-sound}
use Rattle.trig_set.specs.Table.{SoFar}

first-more : (q : Text) (front : Pairs) (a : Text × Value) → first_pair q (front ++ (a ∷ [])) ≡ or_else (first_pair q front) (if same a.0 q then Some a.1 else None)
first-more q [] a = refl
first-more q (p ∷ ps) a = (λ i. if same p.0 q then Some p.1 else first-more q ps a i) ∙ by (same p.0 q) (first_pair q ps)
  where
    by : (b : Bool) (o : Option Value) → (if b then Some p.1 else or_else o (if same a.0 q then Some a.1 else None)) ≡ or_else (if b then Some p.1 else o) (if same a.0 q then Some a.1 else None)
    by true o = refl
    by false o = refl

-- a set with one more name
pub adds-name : {Z : Type 0} (seen seen' : BTreeSet (String Z)) (key name : Text) → key ≡ name → sorted.UpdatesBy string_cmp (λ k. slice_cmp nat_cmp key (string_bytes k)) seen seen' true
    → (q : Text) → contains_text seen' q ≡ (if same name q then true else contains_text seen q)
adds-name seen seen' key name e u = subst (λ t. (q : Text) → contains_text seen' q ≡ (if same t q then true else contains_text seen q)) e (btree_set_updates_text key seen seen' true u)

-- the number of a value
abbrev pub value_number : Option Value → Option Num
value_number o = option_and_then read_number (option_and_then attribute_text o)

some-or : (o p : Option Value) → is_some o ≡ true → or_else o p ≡ o
some-or None p h = let bad : ◌≡◌ {A = Bool} false true = h in cc
some-or (Some v) p h = refl

none-or : (o p : Option Value) → is_some o ≡ false → or_else o p ≡ p
none-or None p h = refl
none-or (Some v) p h = let bad : ◌≡◌ {A = Bool} true false = h in cc

-- a pair whose name came before changes nothing
kept-first : (front : Pairs) (a : Text × Value) → is_some (first_pair a.0 front) ≡ true → (q : Text) → first_pair q (front ++ (a ∷ [])) ≡ first_pair q front
kept-first front a there q = first-more q front a ∙ by (same a.0 q) refl
  where
    or-none : (o : Option Value) → or_else o None ≡ o
    or-none None = refl
    or-none (Some v) = refl

    by : (b : Bool) → same a.0 q ≡ b → or_else (first_pair q front) (if b then Some a.1 else None) ≡ first_pair q front
    by true h = some-or (first_pair q front) (Some a.1) (ap (λ t. is_some (first_pair t front)) (sym (same-sound a.0 q h)) ∙ there)
    by false h = or-none (first_pair q front)

module _ {Y Z : Type 0} (before : Text → Option Num) (front : Pairs) (a : Text × Value) where
  -- LAW: so far the same, where its name came before
  pub seen-before : (seen : BTreeSet (String Z)) (numbers : BTreeMap (String Y) Num) → contains_text seen a.0 ≡ true → SoFar seen numbers before front → SoFar seen numbers before (front ++ (a ∷ []))
  seen-before seen numbers there far =
      let first = kept-first front a (sym (far.names a.0) ∙ there) in
      record {
        names = λ q. far.names q ∙ ap is_some (sym (first q));
        given = λ q. far.given q ∙ ap (λ o. or_else (value_number o) (before q)) (sym (first q));
      }

  -- LAW: and with its name and its number, where it did not
  pub seen-first : (seen seen' : BTreeSet (String Z)) (numbers numbers' : BTreeMap (String Y) Num) (number : Option Num) → contains_text seen a.0 ≡ false
      → ((q : Text) → contains_text seen' q ≡ (if same a.0 q then true else contains_text seen q))
      → number ≡ value_number (Some a.1)
      → ((q : Text) → get_by_text numbers' q ≡ (if same a.0 q then or_else number (get_by_text numbers q) else get_by_text numbers q))
      → SoFar seen numbers before front → SoFar seen' numbers' before (front ++ (a ∷ []))
  seen-first seen seen' numbers numbers' number new added is put far = record {
    names = λ q. added q ∙ name q (same a.0 q) refl ∙ ap is_some (sym (first-more q front a));
    given = λ q. put q ∙ given q (same a.0 q) refl ∙ ap (λ o. or_else (value_number o) (before q)) (sym (first-more q front a));
  }
    where
      none : (q : Text) → same a.0 q ≡ true → is_some (first_pair q front) ≡ false
      none q h = ap (λ t. is_some (first_pair t front)) (sym (same-sound a.0 q h)) ∙ sym (far.names a.0) ∙ new

      name : (q : Text) (b : Bool) → same a.0 q ≡ b → (if b then true else contains_text seen q) ≡ is_some (or_else (first_pair q front) (if b then Some a.1 else None))
      name q true h = ap is_some (sym (none-or (first_pair q front) (Some a.1) (none q h)))
      name q false h = far.names q ∙ or-none (first_pair q front)
        where
          or-none : (o : Option Value) → is_some o ≡ is_some (or_else o None)
          or-none None = refl
          or-none (Some v) = refl

      before-none : (o : Option Value) (n : Option Num) → is_some o ≡ false → or_else (value_number o) n ≡ n
      before-none None n h = refl
      before-none (Some v) n h = let bad : ◌≡◌ {A = Bool} true false = h in cc

      given : (q : Text) (b : Bool) → same a.0 q ≡ b → (if b then or_else number (get_by_text numbers q) else get_by_text numbers q) ≡ or_else (value_number (or_else (first_pair q front) (if b then Some a.1 else None))) (before q)
      given q true h =
          (λ i. or_else (is i) ((far.given q ∙ before-none (first_pair q front) (before q) (none q h)) i))
          ∙ ap (λ o. or_else (value_number o) (before q)) (sym (none-or (first_pair q front) (Some a.1) (none q h)))
      given q false h = far.given q ∙ ap (λ o. or_else (value_number o) (before q)) (or-none (first_pair q front))
        where
          or-none : (o : Option Value) → o ≡ or_else o None
          or-none None = refl
          or-none (Some v) = refl
