-- How a map with text keys changes at one key.
use Rattle.std.proofs.Common.{◌≡◌, ℕ, Bool, true, false, ◌&&◌, Option, subst, sym, refl, ap, ◌∙◌, nat_cmp}
use Rattle.std.specs.Prelude.{Some, None, String, Result, Ok, Err, OnOk, OnErr, if◌then◌else◌}
use Rattle.std.specs.String.{string_bytes, string_cmp}
use Rattle.std.specs.Cmp.Lexicographic.{slice_cmp}
use Rattle.std.specs.BTreeMap.{BTreeMap, UpdatesBy, get_by, get_by_text}
use Rattle.std.proofs.lemmas.Map.Text.{btree_map_updates_text}
use Rattle.ha_sight.specs.declared.state.StateObject.{StateObject}
use Rattle.ha_config.specs.Words.{Text, Pairs, same}
use Rattle.ha_config.specs.Equal.{same_pairs}
use Rattle.ha_sight.specs.StateStep.{next_object}
use Rattle.ha_config.proofs.EqualLemmas.{same-sound, same_pairs-sound}
use Rattle.state_table.specs.Domain.{ChangesName, SaysTheSame}

pub ok-then : {T E : Type 0} {P Q : Type 0} (r : Result T E) → (P → Q) → OnOk r P → OnOk r Q
ok-then (Ok x) f h = f h
ok-then (Err x) f h = h

pub err-then : {T E : Type 0} {P Q : Type 0} (r : Result T E) → (P → Q) → OnErr r P → OnErr r Q
err-then (Ok x) f h = h
err-then (Err x) f h = f h

module _ {X Y : Type 0} (m n : BTreeMap (String Y) X) where
  -- the map is updated at these bytes
  abbrev pub At : Text → Option X → Type 0
  At bs w = UpdatesBy string_cmp (λ k. slice_cmp nat_cmp bs (string_bytes k)) m n w

  abbrev pub found : Text → Option X
  found bs = get_by (λ k. slice_cmp nat_cmp bs (string_bytes k)) m

  -- a change at the key that the text is
  pub changes-name : (bs name : Text) (w : Option X) → bs ≡ name → At bs w → ChangesName m n name w
  changes-name bs name w e u = subst (λ t. ChangesName m n t w) e (btree_map_updates_text bs m n w u)

  -- what is written is what was there
  pub says-the-same : (bs name : Text) (old made : X) → bs ≡ name → Some old ≡ found bs → At bs (Some made) → made ≡ old → SaysTheSame m n
  says-the-same bs name old made e there u rest q =
      changes-name bs bs (Some made) refl u q ∙ by (same bs q) refl
    where
      by : (b : Bool) → same bs q ≡ b → (if b then Some made else get_by_text m q) ≡ get_by_text m q
      by true h = ap Some rest ∙ there ∙ ap (get_by_text m) (same-sound bs q h)
      by false h = refl

module _ {Y : Type 0} (m n : BTreeMap (String Y) StateObject) (bs name : Text) (e : bs ≡ name) (text : Text) (attributes : Pairs) (at : ℕ) where
  -- a report where there was this
  pub reported-in : (before : Option StateObject) (made : StateObject) → before ≡ found m n bs → At m n bs (Some made) → made ≡ next_object before text attributes at
      → ChangesName m n name (Some (next_object (get_by_text m name) text attributes at))
  reported-in before made there u is =
      subst (λ w. ChangesName m n name (Some w)) (is ∙ ap (λ o. next_object o text attributes at) (there ∙ ap (get_by_text m) e)) (changes-name m n bs name (Some made) e u)

-- an insertion into a map that is the one from before
module _ {X Y : Type 0} (seen m n : BTreeMap (String Y) X) (same_map : seen ≡ m) where
  pub inserts-name : (key name : Text) (w : Option X) → key ≡ name → At seen n key w → ChangesName m n name w
  inserts-name key name w e u = subst (λ k. ChangesName k n name w) same_map (changes-name seen n key name w e u)

module _ {Y : Type 0} (seen m n : BTreeMap (String Y) StateObject) (same_map : seen ≡ m) (text : Text) (attributes : Pairs) (at : ℕ) where
  -- a report where there was nothing
  pub reported-new : (bs name : Text) → bs ≡ name → None ≡ found m n bs → ChangesName seen n name (Some (next_object None text attributes at))
      → ChangesName m n name (Some (next_object (get_by_text m name) text attributes at))
  reported-new bs name f none written =
      subst (λ k. ChangesName k n name (Some (next_object (get_by_text m name) text attributes at))) same_map
      (subst (λ o. ChangesName seen n name (Some (next_object o text attributes at))) (none ∙ ap (get_by_text m) f) written)

-- what a map that is the one from before says
pub same-as-before : {X Y : Type 0} (seen m n : BTreeMap (String Y) X) → seen ≡ m → SaysTheSame seen n → SaysTheSame m n
same-as-before seen m n same_map said = subst (λ k. SaysTheSame k n) same_map said

both : (a b : Bool) → a ≡ true → b ≡ true → (a && b) ≡ true
both true b p q = q
both false b p q = p

-- a report of what is there already
pub unchanged : (o : StateObject) (text : Text) (attributes : Pairs) (at : ℕ) → same o.text text ≡ true → same_pairs o.attributes attributes ≡ true
    → o ≡ next_object (Some o) text attributes at
unchanged o text attributes at t p = (λ i. record {
  text = same-sound o.text text t i;
  attributes = same_pairs-sound o.attributes attributes p i;
  changed = if sym t i then o.changed else at;
  updated = if sym (both _ _ t p) i then o.updated else at;
})
