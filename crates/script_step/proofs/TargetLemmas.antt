-- The parts of a target between commas, and the targets of a call.
use Rattle.std.proofs.Common.{◌≡◌, ◌∙◌, ap, ℕ, ◌+◌, ◌<◌, ◌≤◌, Bool, true, false, cond, refl, List, [], ◌∷◌, ◌++◌, length, take, drop, map, sym, arith, append_assoc, append-nil}
use Rattle.std.specs.Prelude.{Option, Some, None, Ok, Err, nat_eq, nat_lt, option_map, option_and_then}
use Rattle.std.specs.List.{position, position_or_len, slice_split}
use Rattle.std.proofs.lemmas.List.Splits.{slice_split_first}
use Rattle.std.proofs.lemmas.Bool.Decides.{nat_tests}
use Rattle.ha_value.specs.declared.value.EntityId.{EntityId}
use Rattle.ha_value.specs.Ids.{read_entity}
use Rattle.ha_config.specs.declared.template.Template.{Template}
use Rattle.ha_sight.specs.Sight.{Sight}
use Rattle.ha_config.specs.Words.{Text, Pairs, without_blanks, parts_between_commas}
use Rattle.ha_sight.specs.Calls.{Checked, all_read, checked_map, checked_then, target_of, targets_of}
use Rattle.script_step.specs.declared.fault.FieldFault.{FieldFault}
use Rattle.script_step.specs.Fields.{IsCause}
use Rattle.script_step.proofs.EachLemmas.{each, Goes, goes-more, goes-fault, goes-all}

-- ---- a text by its commas

abbrev pub read_part : Text → Option EntityId
read_part part = read_entity (without_blanks part)

abbrev pub parts : Text → List Text
parts t = slice_split (nat_eq 44) t

pub parts-each : (ps : List Text) → all_read (map without_blanks ps) ≡ each read_part ps
parts-each [] = refl
parts-each (p ∷ ps) = (λ k. option_and_then (λ e. option_map (λ es. e ∷ es) (parts-each ps k)) (read_part p))

found-at : (b : Bool) (n i : ℕ) → cond b (Some n) None ≡ Some i → (b ≡ true) × (n ≡ i)
found-at true n i e = (refl, cc)
found-at false n i e = absurd (cc)

not-found : (b : Bool) (n : ℕ) → cond b (Some n) None ≡ None → b ≡ false
not-found true n e = absurd (cc)
not-found false n e = refl

is-less : (a b : ℕ) → nat_lt a b ≡ true → a < b
is-less a b h = grind (arith, nat_tests)

is-not-less : (a b : ℕ) → nat_lt a b ≡ false → b ≤ a
is-not-less a b h = grind (arith, nat_tests)

pub parts-first : (t : Text) (i : ℕ) → position (nat_eq 44) t ≡ Some i → parts t ≡ take i t ∷ parts (drop (i + 1) t)
parts-first t i h =
    let n = position_or_len (nat_eq 44) t in
    let at = found-at (nat_lt n (length t)) n i h in
    slice_split_first (nat_eq 44) t 0 (is-less n (length t) at.0) ∙ (λ k. take (at.1 k) t ∷ parts (drop (at.1 k + 1) t))

none-before : (p : ℕ → Bool) (xs : List ℕ) → length xs ≤ position_or_len p xs → slice_split p xs ≡ xs ∷ []
none-before p [] h = refl
none-before p (x ∷ xs) h = by (p x) refl (none-before p xs)
  where
    by : (b : Bool) → p x ≡ b → (length xs ≤ position_or_len p xs → slice_split p xs ≡ xs ∷ []) → slice_split p (x ∷ xs) ≡ (x ∷ xs) ∷ []
    by true e more = absurd (let z : position_or_len p (x ∷ xs) ≡ 0 = rw e refl in omega (arith, z, h))
    by false e more =
        let z : position_or_len p (x ∷ xs) ≡ 1 + position_or_len p xs = rw e refl in
        let rest : slice_split p xs ≡ xs ∷ [] = more (omega (arith, z, h)) in
        rw (e, rest) refl

pub parts-last : (t : Text) → position (nat_eq 44) t ≡ None → parts t ≡ t ∷ []
parts-last t h = none-before (nat_eq 44) t (is-not-less (position_or_len (nat_eq 44) t) (length t) (not-found (nat_lt (position_or_len (nat_eq 44) t) (length t)) (position_or_len (nat_eq 44) t) h))

-- one part more is read
pub part-more : (t rest part new_rest : Text) (i : ℕ) (es new : List EntityId) → Goes read_part (parts t) (parts rest) es → Some i ≡ position (nat_eq 44) rest → part ≡ take i rest
    → new_rest ≡ drop (i + 1) rest → option_map (λ e. es ++ (e ∷ [])) (read_part part) ≡ Some new → Goes read_part (parts t) (parts new_rest) new
part-more t rest part new_rest i es new known at part_is rest_is made =
    goes-more read_part (parts t) (parts rest) (parts new_rest) es new (take i rest) known
    (parts-first rest i (sym at) ∙ (λ k. take i rest ∷ parts (sym rest_is k))) ((λ k. option_map (λ e. es ++ (e ∷ [])) (read_part (sym part_is k))) ∙ made)

pub part-fault : (t rest part : Text) (i : ℕ) (es : List EntityId) → Goes read_part (parts t) (parts rest) es → Some i ≡ position (nat_eq 44) rest → part ≡ take i rest
    → read_part part ≡ None → all_read (parts_between_commas t) ≡ None
part-fault t rest part i es known at part_is none =
    parts-each (parts t) ∙ goes-fault read_part (parts t) (parts rest) (parts (drop (i + 1) rest)) es (take i rest) known (parts-first rest i (sym at)) ((λ k. read_part (sym part_is k)) ∙ none)

pub last-fault : (t rest : Text) (es : List EntityId) → Goes read_part (parts t) (parts rest) es → None ≡ position (nat_eq 44) rest → read_part rest ≡ None
    → all_read (parts_between_commas t) ≡ None
last-fault t rest es known at none = parts-each (parts t) ∙ goes-fault read_part (parts t) (parts rest) [] es rest known (parts-last rest (sym at)) none

pub last-part : (t rest : Text) (es new : List EntityId) → Goes read_part (parts t) (parts rest) es → None ≡ position (nat_eq 44) rest
    → option_map (λ e. es ++ (e ∷ [])) (read_part rest) ≡ Some new → all_read (parts_between_commas t) ≡ Some new
last-part t rest es new known at made =
    parts-each (parts t)
    ∙ goes-all read_part (parts t) [] new (goes-more read_part (parts t) (parts rest) [] es new rest known (parts-last rest (sym at)) made) refl

-- ---- fields that are checked one after the other

pub cause-then : {X Y : Type 0} (fault : FieldFault) (c : Checked X) (f : X → Checked Y) → IsCause fault c → IsCause fault (checked_then f c)
cause-then FieldFault.Memory c f h = tt
cause-then FieldFault.Template c f h = rw h refl
cause-then FieldFault.Service c f h = rw h refl
cause-then FieldFault.Target c f h = rw h refl
cause-then FieldFault.Duration c f h = rw h refl
cause-then FieldFault.Count c f h = rw h refl
cause-then (FieldFault.Own n) c f h = rw h refl

pub cause-map : {X Y : Type 0} (fault : FieldFault) (c : Checked X) (f : X → Y) → IsCause fault c → IsCause fault (checked_map f c)
cause-map FieldFault.Memory c f h = tt
cause-map FieldFault.Template c f h = rw h refl
cause-map FieldFault.Service c f h = rw h refl
cause-map FieldFault.Target c f h = rw h refl
cause-map FieldFault.Duration c f h = rw h refl
cause-map FieldFault.Count c f h = rw h refl
cause-map (FieldFault.Own n) c f h = rw h refl

pub cause-is : {X : Type 0} (fault : FieldFault) (c d : Checked X) → c ≡ d → IsCause fault d → IsCause fault c
cause-is fault c d e h = rw e h

module _ (sight : Sight) (env : Pairs) where
  -- the entities so far, and those of the other targets, are all
  abbrev pub Names : List Template → List Template → List EntityId → Type 0
  Names ts rest es = targets_of sight env ts ≡ checked_map (λ more. es ++ more) (targets_of sight env rest)

  abbrev one_more : List EntityId → Checked (List EntityId) → Checked (List EntityId) → Checked (List EntityId)
  one_more es first rest = checked_map (λ more. es ++ more) (checked_then (λ fs. checked_map (λ more. fs ++ more) rest) first)

  first-of : (c : Checked (List EntityId)) → c ≡ checked_map (λ more. [] ++ more) c
  first-of (Ok es) = refl
  first-of (Err code) = refl

  pub names-first : (ts : List Template) → Names ts ts []
  names-first ts = first-of (targets_of sight env ts)

  joined : (es new : List EntityId) (first rest : Checked (List EntityId)) → checked_map (λ fs. es ++ fs) first ≡ Ok new → one_more es first rest ≡ checked_map (λ more. new ++ more) rest
  joined es new (Err code) rest e = absurd (cc)
  joined es new (Ok fs) (Err code) e = refl
  joined es new (Ok fs) (Ok gs) e = (let z : es ++ fs ≡ new = cc in ap Ok (sym (append_assoc es fs gs) ∙ ap (λ l. l ++ gs) z))

  pub names-more : (ts rest more : List Template) (es new : List EntityId) (t : Template) → Names ts rest es → rest ≡ t ∷ more → checked_map (λ fs. es ++ fs) (target_of sight env t) ≡ Ok new
      → Names ts more new
  names-more ts rest more es new t known is made =
      known ∙ ap (λ l. checked_map (λ m. es ++ m) (targets_of sight env l)) is ∙ joined es new (target_of sight env t) (targets_of sight env more) made

  pub names-fault : (ts rest more : List Template) (es : List EntityId) (t : Template) (fault : FieldFault) → Names ts rest es → rest ≡ t ∷ more → IsCause fault (target_of sight env t)
      → IsCause fault (targets_of sight env ts)
  names-fault ts rest more es t fault known is cause =
      cause-is fault (targets_of sight env ts) (one_more es (target_of sight env t) (targets_of sight env more)) (known ∙ ap (λ l. checked_map (λ m. es ++ m) (targets_of sight env l)) is)
      (cause-map fault (checked_then (λ fs. checked_map (λ m. fs ++ m) (targets_of sight env more)) (target_of sight env t)) (λ m. es ++ m)
      (cause-then fault (target_of sight env t) (λ fs. checked_map (λ m. fs ++ m) (targets_of sight env more)) cause))

  pub names-all : (ts rest : List Template) (es : List EntityId) → Names ts rest es → rest ≡ [] → targets_of sight env ts ≡ Ok es
  names-all ts rest es known is = known ∙ ap (λ l. checked_map (λ m. es ++ m) (targets_of sight env l)) is ∙ ap Ok (append-nil es)
