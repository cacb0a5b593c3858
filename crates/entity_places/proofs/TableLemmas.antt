-- A change of the table at a text.
use Rattle.std.proofs.Common.{◌≡◌, ℕ, nat_cmp, subst}
use Rattle.std.specs.Prelude.{Option, String, Result, Ok, Err, OnOk, if◌then◌else◌}
use Rattle.std.specs.BTreeMap.{BTreeMap, UpdatesBy, get_by_text}
use Rattle.std.specs.Cmp.Lexicographic.{slice_cmp}
use Rattle.std.specs.String.{string_bytes, string_cmp}
use Rattle.std.proofs.lemmas.Map.Text.{btree_map_updates_text}
use Rattle.ha_config.specs.Words.{Text, same}

-- a change at the key that the text is
pub puts-name : {X : Type 0} (m n : BTreeMap (String X) ℕ) (key name : Text) (w : Option ℕ) → key ≡ name
    → UpdatesBy string_cmp (λ k. slice_cmp nat_cmp key (string_bytes k)) m n w → (q : Text) → get_by_text n q ≡ (if same name q then w else get_by_text m q)
puts-name m n key name w e u = subst (λ t. (q : Text) → get_by_text n q ≡ (if same t q then w else get_by_text m q)) e (btree_map_updates_text key m n w u)

pub ok-then : {T E : Type 0} {P Q : Type 0} (r : Result T E) → (P → Q) → OnOk r P → OnOk r Q
ok-then (Ok x) f h = f h
ok-then (Err x) f h = h
