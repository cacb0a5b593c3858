-- How the latest numbers change with one entity's.
use Rattle.std.proofs.Common.{◌≡◌, List, [], ◌∷◌, ◌++◌, map, Bool, true, false, Option, subst, refl, sym, ap, ◌∙◌, nat_cmp}
use Rattle.std.specs.Prelude.{Some, None, String, filter_map, find, is_some, option_and_then, if◌then◌else◌}
use Rattle.std.specs.List.{cons_option}
use Rattle.std.specs.Option.{option_to_list}
use Rattle.std.specs.BTreeMap.{BTreeMap, IsEmpty, UpdatesBy, get_by, get_by_text, is_at}
use Rattle.std.specs.Map.{lookup}
use Rattle.std.specs.Cmp.Lexicographic.{slice_cmp}
use Rattle.std.specs.String.{string_bytes, string_cmp}
use Rattle.std.proofs.lemmas.Map.Text.{btree_map_updates_text}
use Rattle.ha_value.specs.declared.value.EntityId.{EntityId}
use Rattle.ha_value.specs.declared.value.Num.{Num}
use Rattle.ha_value.specs.Ids.{entity_text, for_id}
use Rattle.ha_value.specs.Lists.{after_first}
use Rattle.ha_config.specs.Words.{Text, first_of_list, same}
use Rattle.ha_config.proofs.EqualLemmas.{same-sound}
use Rattle.ha_sight.specs.declared.helped.HelperChange.{HelperChange}
use Rattle.ha_journal.specs.declared.entry.Entry.{Entry}
use Rattle.ha_journal.specs.Entries.{Reported, changes_in, report_in, text_given}
use Rattle.ha_journal.specs.Moves.{number_in_text, report_number}
use Rattle.trig_set.specs.declared.numbers.Latest.{Latest}
use Rattle.ha_past.specs.Looks.{or_else}
use Rattle.trig_set.specs.Table.{ChangesName, number_among, number_changed, number_of, number_reported, numbers_in}

module _ {X Y : Type 0} (m n : BTreeMap (String Y) X) where
  abbrev pub At : Text → Option X → Type 0
  At bs w = UpdatesBy string_cmp (λ k. slice_cmp nat_cmp bs (string_bytes k)) m n w

  abbrev pub found : Text → Option X
  found bs = get_by (λ k. slice_cmp nat_cmp bs (string_bytes k)) m

  pub changes-name : (bs name : Text) (w : Option X) → bs ≡ name → At bs w → ChangesName m n name w
  changes-name bs name w e u = subst (λ t. ChangesName m n t w) e (btree_map_updates_text bs m n w u)

module _ {X Y : Type 0} (seen m n : BTreeMap (String Y) X) (same_map : seen ≡ m) where
  pub inserts-name : (key name : Text) (w : Option X) → key ≡ name → At seen n key w → ChangesName m n name w
  inserts-name key name w e u = subst (λ k. ChangesName k n name w) same_map (changes-name seen n key name w e u)

get_by_text-empty : {X Y : Type 0} (m : BTreeMap (String Y) X) → IsEmpty m → (q : Text) → get_by_text m q ≡ None
get_by_text-empty m empty q = ap (lookup (is_at (λ k. slice_cmp nat_cmp q (string_bytes k)))) empty

-- LAW: a new entity has no numbers
pub none-yet : (l : Latest) → l.own ≡ None → IsEmpty l.attributes → (name : Option Text) → number_of name l ≡ None
none-yet l own empty None = own
none-yet l own empty (Some name) = get_by_text-empty l.attributes empty name

module _ {Y : Type 0} (m n : BTreeMap (String Y) Latest) (object : Text) (new : Latest) (written : ChangesName m n object (Some new)) (before : Option Latest) (is : before ≡ get_by_text m object) (name : Option Text) (made : Option Num) where
  -- LAW: the numbers of all entities change with one's
  pub put-one : number_of name new ≡ or_else made (option_and_then (number_of name) before) → (q : Text) → numbers_in n q name ≡ or_else (if same object q then made else None) (numbers_in m q name)
  put-one e q = ap (option_and_then (number_of name)) (written q) ∙ by (same object q) refl
    where
      by : (b : Bool) → same object q ≡ b → option_and_then (number_of name) (if b then Some new else get_by_text m q) ≡ or_else (if b then made else None) (numbers_in m q name)
      by true h = e ∙ ap (λ o. or_else made (option_and_then (number_of name) o)) (is ∙ ap (get_by_text m) (same-sound object q h))
      by false h = refl

-- the number of an entity, by the text of its id
pub number-here : {Y : Type 0} (m : BTreeMap (String Y) Latest) (e : EntityId) (name : Option Text) → option_and_then (number_of name) (for_id None (get_by_text m) e) ≡ for_id None (λ q. numbers_in m q name) e
number-here m e name = by (is_some (after_first 46 e.domain))
  where
    by : (b : Bool) → option_and_then (number_of name) (if b then None else get_by_text m (entity_text e)) ≡ (if b then None else numbers_in m (entity_text e) name)
    by true = refl
    by false = refl

-- ---- the numbers that changes give

-- LAW: one of two, and else a third
pub or-join : (a b c : Option Num) → or_else a (or_else b c) ≡ or_else (or_else a b) c
or-join None b c = refl
or-join (Some n) b c = refl

module _ (e : EntityId) (name : Option Text) where
  first-or : (o : Option Num) (ns : List Num) → first_of_list (cons_option o ns) ≡ or_else o (first_of_list ns)
  first-or None ns = refl
  first-or (Some n) ns = refl

  -- LAW: the number of one more change in front
  pub among-more : (c : HelperChange) (cs : List HelperChange) → number_among e name (c ∷ cs) ≡ or_else (number_changed e name c) (number_among e name cs)
  among-more c cs = first-or (number_changed e name c) (filter_map (number_changed e name) cs)

  -- LAW: it is that of the first that gives one
  pub among-found : (cs : List HelperChange) → number_among e name cs ≡ option_and_then (number_changed e name) (find (λ c. is_some (number_changed e name c)) cs)
  among-found [] = refl
  among-found (c ∷ cs) = by (number_changed e name c) refl (among-found cs)
    where
      by : (o : Option Num) → number_changed e name c ≡ o → number_among e name cs ≡ option_and_then (number_changed e name) (find (λ d. is_some (number_changed e name d)) cs)
          → first_of_list (cons_option o (filter_map (number_changed e name) cs)) ≡ option_and_then (number_changed e name) (if is_some o then Some c else find (λ d. is_some (number_changed e name d)) cs)
      by None q rest = rest
      by (Some n) q rest = sym q

  texts-changed : (cs : List HelperChange) → filter_map (number_in_text e name) (map text_given cs) ≡ filter_map (number_changed e name) cs
  texts-changed [] = refl
  texts-changed (c ∷ cs) = (λ i. cons_option (number_changed e name c) (texts-changed cs i))

  -- LAW: an entry gives the number of its Report, or else the first that one of its changes gives
  pub number-is : (x : Entry) → report_number e name x ≡ or_else (number_reported e name x) (number_among e name (changes_in x))
  number-is x = by (report_in x)
    where
      by : (o : Option Reported) → first_of_list (filter_map (number_in_text e name) (option_to_list o ++ map text_given (changes_in x))) ≡ or_else (option_and_then (number_in_text e name) o) (number_among e name (changes_in x))
      by None = ap first_of_list (texts-changed (changes_in x))
      by (Some r) =
          first-or (number_in_text e name r) (filter_map (number_in_text e name) (map text_given (changes_in x)))
          ∙ (λ i. or_else (number_in_text e name r) (first_of_list (texts-changed (changes_in x) i)))
