-- The text in which an entity id is kept, and its two parts.
use Rattle.std.proofs.Common.{◌≡◌, ℕ, zero, suc, ◌<◌, ◌≤◌, Bool, true, false, cond, ◌&&◌, nat_eq, List, [], ◌∷◌, ◌++◌, length, get_or, take, drop, Some, None, refl, sym, ap, subst, ◌∙◌, arith, rules}
use Rattle.std.specs.Prelude.{Option, is_some}
use Rattle.std.proofs.lemmas.Bool.Decides.{nat_tests}
use Rattle.std.specs.Str.{IsUtf8, bytes_eq}
use Rattle.std.proofs.lemmas.Slice.Eq.{bytes_eq-Decides}
use Rattle.std.proofs.lemmas.Str.{IsUtf8-append, IsUtf8-from_ascii}
use Rattle.std.proofs.lemmas.Str.Ascii.{IsAscii-nil, IsAscii-cons}
use Rattle.ha_value.specs.Entities.{Entity, IsKept, behind, entity_in, object_in}
use Rattle.ha_value.specs.Ids.{entity_from, entity_text, is_entity, is_name, read_entity}
use Rattle.ha_value.specs.Lists.{after_first, before_first}
use Rattle.ha_value.proofs.CutLemmas.{name_utf8}

same_by : (x c : ℕ) → nat_eq x c ≡ true → x ≡ c
same_by x c h = grind (arith, nat_tests)

is_so : (c : ℕ) → nat_eq c c ≡ true
is_so c = grind (arith, nat_tests)

bytes_sound : (a b : List ℕ) → bytes_eq a b ≡ true → a ≡ b
bytes_sound a b h = search (rules, bytes_eq-Decides)

bytes_along : (a b : List ℕ) → a ≡ b → bytes_eq a b ≡ true
bytes_along a b h = search (rules, bytes_eq-Decides)

and_left : (a b : Bool) → (a && b) ≡ true → a ≡ true
and_left true b h = refl
and_left false b h = h

and_right : (a b : Bool) → (a && b) ≡ true → b ≡ true
and_right true b h = h
and_right false b h = absurd (cc)

-- ---- a text that has the byte is joined by it

join_by : (b : Bool) (x c : ℕ) (xs front rest : List ℕ) (after : Option (List ℕ)) → nat_eq x c ≡ b → (after ≡ Some rest → xs ≡ front ++ c ∷ rest)
    → cond b (Some xs) after ≡ Some rest → x ∷ xs ≡ cond b [] (x ∷ front) ++ c ∷ rest
join_by true x c xs front rest after e joined h = (λ i. same_by x c e i ∷ ap behind h i)
join_by false x c xs front rest after e joined h = ap (λ l. x ∷ l) (joined h)

pub cut_joined : (c : ℕ) (xs rest : List ℕ) → after_first c xs ≡ Some rest → xs ≡ before_first c xs ++ c ∷ rest
cut_joined c [] rest h = absurd (cc)
cut_joined c (x ∷ xs) rest h =
    join_by (nat_eq x c) x c xs (before_first c xs) rest (after_first c xs) refl (cut_joined c xs rest) h

-- ---- what is joined by a byte that is not in front is cut there

past_by : (b : Bool) (xs : List ℕ) (after : Option (List ℕ)) → cond b (Some xs) after ≡ None → (b ≡ false) × (after ≡ None)
past_by true xs after h = absurd (cc)
past_by false xs after h = (refl, h)

pub before_joined : (c : ℕ) (front back : List ℕ) → after_first c front ≡ None → before_first c (front ++ c ∷ back) ≡ front
before_joined c [] back h = rw (is_so c) refl
before_joined c (x ∷ xs) back h =
    let p = past_by (nat_eq x c) xs (after_first c xs) h in rw p.0 (ap (λ l. x ∷ l) (before_joined c xs back p.1))

pub after_joined : (c : ℕ) (front back : List ℕ) → after_first c front ≡ None → after_first c (front ++ c ∷ back) ≡ Some back
after_joined c [] back h = rw (is_so c) refl
after_joined c (x ∷ xs) back h =
    let p = past_by (nat_eq x c) xs (after_first c xs) h in rw p.0 (after_joined c xs back p.1)

no_dot_by : (b : Bool) (x c : ℕ) (front : List ℕ) → nat_eq x c ≡ b → after_first c front ≡ None → after_first c (cond b [] (x ∷ front)) ≡ None
no_dot_by true x c front e h = refl
no_dot_by false x c front e h = rw e h

-- what stands before the first byte has none
pub none_before : (c : ℕ) (xs : List ℕ) → after_first c (before_first c xs) ≡ None
none_before c [] = refl
none_before c (x ∷ xs) = no_dot_by (nat_eq x c) x c (before_first c xs) refl (none_before c xs)

-- ---- a text that is read as an id

test_by : (b : Bool) (e : Entity) → is_some (cond b (Some e) None) ≡ true → b ≡ true
test_by true e h = refl
test_by false e h = h

found_by : (front : List ℕ) (after : Option (List ℕ)) → is_some (entity_from front after) ≡ true → (after ≡ Some (behind after)) × ((is_name front && is_name (behind after)) ≡ true)
found_by front None h = absurd (cc)
found_by front (Some object) h = (refl, test_by _ _ h)

read_by : (front object : List ℕ) (after : Option (List ℕ)) → after ≡ Some object → (is_name front && is_name object) ≡ true → entity_from front after ≡ Some (record { domain = front; object = object })
read_by front object after e h = rw (e, h) refl

parts_found : (text : List ℕ) → is_some (read_entity text) ≡ true → (after_first 46 text ≡ Some (object_in text)) × (is_entity (entity_in text) ≡ true)
unfolding read_entity
parts_found text h = found_by (before_first 46 text) (after_first 46 text) h

pub read_is : (text : List ℕ) → is_some (read_entity text) ≡ true → read_entity text ≡ Some (entity_in text)
unfolding read_entity
read_is text h = let p = parts_found text h in read_by (before_first 46 text) (object_in text) (after_first 46 text) p.0 p.1

pub read_form : (text : List ℕ) → is_some (read_entity text) ≡ true → is_entity (entity_in text) ≡ true
read_form text h = (parts_found text h).1

pub read_kept : (text : List ℕ) → is_some (read_entity text) ≡ true → IsKept text
read_kept text h =
    let p = parts_found text h in
    record {
      written = cut_joined 46 text (object_in text) p.0;
      domain = name_utf8 (before_first 46 text) (and_left _ _ p.1);
      object = name_utf8 (object_in text) (and_right (is_name (before_first 46 text)) _ p.1);
    }

abbrev or_this : Entity → Option Entity → Entity
or_this a None = a
or_this a (Some e) = e

same_some : (a b : Entity) → Some a ≡ Some b → a ≡ b
same_some a b e = ap (or_this a) e

-- LAW: what is read as an id is written as it, and its domain has no dot
pub read_parts : (text : List ℕ) (e : Entity) → read_entity text ≡ Some e → (text ≡ entity_text e) × (after_first 46 e.domain ≡ None)
read_parts text e h =
    let some : is_some (read_entity text) ≡ true = ap is_some h in
    let is : entity_in text ≡ e = same_some (entity_in text) e (sym (read_is text some) ∙ h) in
    ((read_kept text some).written ∙ ap entity_text is, ap (λ (x : Entity). after_first 46 x.domain) (sym is) ∙ none_before 46 text)

-- ---- a text that is written piece by piece

dot_between : (front back : List ℕ) → (front ++ 46 ∷ []) ++ back ≡ front ++ 46 ∷ back
dot_between [] back = refl
dot_between (x ∷ xs) back = ap (λ l. x ∷ l) (dot_between xs back)

pub dotted : (front back one two three : List ℕ) → one ≡ front → two ≡ one ++ 46 ∷ [] → three ≡ two ++ back → three ≡ front ++ 46 ∷ back
dotted front back one two three a b c = c ∙ ap (λ t. t ++ back) (b ∙ ap (λ t. t ++ 46 ∷ []) a) ∙ dot_between front back

-- ---- kept texts

pub joined_utf8 : (front back : List ℕ) → IsUtf8 front → IsUtf8 back → IsUtf8 (front ++ 46 ∷ back)
joined_utf8 front back f b =
    IsUtf8-append front (46 ∷ back) f (IsUtf8-append (46 ∷ []) back (IsUtf8-from_ascii (46 ∷ []) (IsAscii-cons 46 [] (omega arith) IsAscii-nil)) b)

pub kept_utf8 : (text : List ℕ) → IsKept text → IsUtf8 text
kept_utf8 text k = subst (λ (t : List ℕ). IsUtf8 t) (sym k.written) (joined_utf8 (before_first 46 text) (object_in text) k.domain k.object)

pub kept_same : (one two : List ℕ) → IsKept one → IsKept two → entity_in one ≡ entity_in two → one ≡ two
kept_same one two k l e = k.written ∙ ap entity_text e ∙ sym l.written

abbrev parts_of : List ℕ → List ℕ → Entity
parts_of domain object = record { domain = domain; object = object }

entity_by : (front domain object : List ℕ) (after : Option (List ℕ)) → front ≡ domain → after ≡ Some object → parts_of front (behind after) ≡ parts_of domain object
entity_by front domain object after d o = rw (d, o) refl

-- the text of two parts, the first without a dot
pub parts_joined : (domain object : List ℕ) → after_first 46 domain ≡ None → entity_in (domain ++ 46 ∷ object) ≡ record { domain = domain; object = object }
parts_joined domain object h = entity_by _ domain object _ (before_joined 46 domain object h) (after_joined 46 domain object h)

kept_by : (text domain object : List ℕ) → text ≡ domain ++ 46 ∷ object → before_first 46 text ≡ domain → after_first 46 text ≡ Some object → IsUtf8 domain → IsUtf8 object → IsKept text
kept_by text domain object t d o u v = record { written = rw (d, o) t; domain = rw d u; object = rw o v }

pub kept_joined : (domain object : List ℕ) → after_first 46 domain ≡ None → IsUtf8 domain → IsUtf8 object → IsKept (domain ++ 46 ∷ object)
kept_joined domain object h = kept_by (domain ++ 46 ∷ object) domain object refl (before_joined 46 domain object h) (after_joined 46 domain object h)

-- ---- a text that begins with a domain and a dot

pub cut_at_byte : (xs : List ℕ) (n c : ℕ) → n < length xs → get_or xs n 0 ≡ c → xs ≡ take n xs ++ c ∷ drop (suc n) xs
cut_at_byte [] n c l h = absurd (omega arith)
cut_at_byte (x ∷ xs) zero c l h = ap (λ b. b ∷ xs) h
cut_at_byte (x ∷ xs) (suc n) c l h = ap (λ r. x ∷ r) (cut_at_byte xs n c (omega arith) h)

byte_between : (front rest : List ℕ) (c : ℕ) → get_or (front ++ c ∷ rest) (length front) 0 ≡ c
byte_between [] rest c = refl
byte_between (x ∷ xs) rest c = byte_between xs rest c

front_before : (front rest : List ℕ) → take (length front) (front ++ rest) ≡ front
front_before [] rest = refl
front_before (x ∷ xs) rest = ap (λ l. x ∷ l) (front_before xs rest)

shorter : (front rest : List ℕ) (c : ℕ) → length front < length (front ++ c ∷ rest)
shorter [] rest c = omega arith
shorter (x ∷ xs) rest c = let s = shorter xs rest c in omega (arith, s)

module _ (text front : List ℕ) (kept : IsKept text) where
  abbrev own : List ℕ
  own = before_first 46 text

  -- the text, where its domain is the front
  joined_by : bytes_eq own front ≡ true → text ≡ front ++ 46 ∷ object_in text
  joined_by e = kept.written ∙ ap (λ d. d ++ 46 ∷ object_in text) (bytes_sound own front e)

  by_false : (bytes_eq own front ≡ true → ⊥) → false ≡ bytes_eq own front
  by_false never = by (bytes_eq own front) never
    where
      by : (b : Bool) → (b ≡ true → ⊥) → false ≡ b
      by true never = absurd (never refl)
      by false never = refl

  pub too_short : length text ≤ length front → false ≡ bytes_eq own front
  too_short l = by_false (λ e.
      let longer : length front < length text = subst (λ (t : List ℕ). length front < length t) (sym (joined_by e)) (shorter front (object_in text) 46) in
      absurd (omega (arith, l, longer)))

  pub other_byte : (get_or text (length front) 0 ≡ 46 → ⊥) → false ≡ bytes_eq own front
  other_byte never = by_false (λ e. never (ap (λ t. get_or t (length front) 0) (joined_by e) ∙ byte_between front (object_in text) 46))

  pub front_tells : length front < length text → get_or text (length front) 0 ≡ 46 → after_first 46 front ≡ None
      → bytes_eq (take (length front) text) front ≡ bytes_eq own front
  front_tells l b plain = by (bytes_eq (take (length front) text) front) (bytes_eq own front) refl refl
    where
      by : (a d : Bool) → bytes_eq (take (length front) text) front ≡ a → bytes_eq own front ≡ d → a ≡ d
      by true true p q = refl
      by false false p q = refl
      by true false p q =
          let whole : text ≡ front ++ 46 ∷ drop (suc (length front)) text =
          cut_at_byte text (length front) 46 l b ∙ ap (λ t. t ++ 46 ∷ drop (suc (length front)) text) (bytes_sound (take (length front) text) front p) in
          let is : own ≡ front = ap (before_first 46) whole ∙ before_joined 46 front (drop (suc (length front)) text) plain in
          sym (bytes_along own front is) ∙ q
      by false true p q =
          let is : take (length front) text ≡ front = ap (take (length front)) (joined_by q) ∙ front_before front (46 ∷ object_in text) in
          sym p ∙ bytes_along (take (length front) text) front is
