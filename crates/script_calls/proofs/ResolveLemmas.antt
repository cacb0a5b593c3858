-- Scripts by name and number.
use Rattle.std.proofs.Common.{◌≡◌, ◌∙◌, ℕ, zero, suc, ◌+◌, ◌<◌, ◌≤◌, Bool, true, false, refl, List, [], ◌∷◌, length, get_or, drop, sym, rules, arith}
use Rattle.std.proofs.lemmas.List.{drop_all}
use Rattle.std.specs.Prelude.{Some, None, nat_eq, if◌then◌else◌}
use Rattle.ha_value.specs.declared.value.EntityId.{EntityId}
use Rattle.ha_config.specs.declared.config.Script.{Script}
use Rattle.ha_config.specs.Words.{Text, Pairs, same}
use Rattle.ha_sight.specs.Inner.{number_named, own_item, script_item}
use Rattle.script_calls.specs.Numbered.{scripts_with}

-- ---- one script more is looked at

named-next : (ns : List ℕ) (xs : List Script) (i : ℕ) (x : Script) (name : Text) → i < length xs → length xs ≤ length ns → x ≡ get_or xs i x → same x.name name ≡ false
    → number_named (scripts_with (drop i ns) (drop i xs)) name ≡ number_named (scripts_with (drop (suc i) ns) (drop (suc i) xs)) name
named-next ns [] i x name lt len is e = absurd (omega (arith, lt))
named-next [] (u ∷ us) i x name lt len is e = absurd (omega (arith, len))
named-next (n ∷ ns) (u ∷ us) zero x name lt len is e = (λ i. if ((λ k. same (sym is k).name name) ∙ e) i then Some n else number_named (scripts_with ns us) name)
named-next (n ∷ ns) (u ∷ us) (suc i) x name lt len is e = named-next ns us i x name (omega (arith, lt)) (omega (arith, len)) is e

-- LEMMA: a script that is not at this place is behind it
pub named-on : (ns : List ℕ) (xs : List Script) (i : ℕ) (x : Script) (name : Text) → i < length xs → length xs ≤ length ns → x ≡ get_or xs i x → same x.name name ≡ false
    → number_named (scripts_with (drop i ns) (drop i xs)) name ≡ number_named (scripts_with (drop (i + 1) ns) (drop (i + 1) xs)) name
named-on ns xs i x name lt len is e = named-next ns xs i x name lt len is e ∙ (let up : suc i ≡ i + 1 = omega arith in λ k. number_named (scripts_with (drop (up k) ns) (drop (up k) xs)) name)

-- LEMMA: the script at this place is found where it has the name
pub named-here : (ns : List ℕ) (xs : List Script) (i n : ℕ) (x : Script) (name : Text) → i < length xs → length xs ≤ length ns → x ≡ get_or xs i x → n ≡ get_or ns i n → same x.name name ≡ true
    → Some n ≡ number_named (scripts_with (drop i ns) (drop i xs)) name
named-here ns [] i n x name lt len is at e = absurd (omega (arith, lt))
named-here [] (u ∷ us) i n x name lt len is at e = absurd (omega (arith, len))
named-here (m ∷ ns) (u ∷ us) zero n x name lt len is at e =
    (λ i. Some (at i)) ∙ (λ i. if sym ((λ k. same (sym is k).name name) ∙ e) i then Some m else number_named (scripts_with ns us) name)
named-here (m ∷ ns) (u ∷ us) (suc i) n x name lt len is at e = named-here ns us i n x name (omega (arith, lt)) (omega (arith, len)) is at e

-- LEMMA: behind the last there is none
pub none-left : (ns : List ℕ) (xs : List Script) (i : ℕ) (name : Text) → length xs ≤ i → None ≡ number_named (scripts_with (drop i ns) (drop i xs)) name
none-left ns xs i name le = sym ((λ k. number_named (scripts_with (drop i ns) (drop_all i xs le k)) name) ∙ none (drop i ns))
  where
    none : (ms : List ℕ) → number_named (scripts_with ms []) name ≡ None
    none [] = refl
    none (m ∷ ms) = refl

-- ---- an item

-- LEMMA: where there is a script, a call has the item of scripts
pub item-own : (ns : List ℕ) (xs : List Script) (service : Text) (targets : List EntityId) (fields : Pairs) → length xs ≤ length ns → nat_eq (length xs) 0 ≡ false
    → script_item (scripts_with ns xs) service targets fields ≡ own_item (scripts_with ns xs) service targets fields
item-own ns [] service targets fields len some = absurd (let bad : ◌≡◌ {A = Bool} true false = some in cc)
item-own [] (x ∷ xs) service targets fields len some = absurd (omega (arith, len))
item-own (n ∷ ns) (x ∷ xs) service targets fields len some = refl

zero-of : (a : ℕ) → nat_eq a 0 ≡ true → a ≡ 0
zero-of a e = search (rules, e)

-- LEMMA: where there is none, it has none
pub item-none : (ns : List ℕ) (xs : List Script) (service : Text) (targets : List EntityId) (fields : Pairs) → nat_eq (length xs) 0 ≡ true → None ≡ own_item (scripts_with ns xs) service targets fields
item-none [] [] service targets fields none = refl
item-none (n ∷ ns) [] service targets fields none = refl
item-none ns (x ∷ xs) service targets fields none = absurd (let z = zero-of (suc (length xs)) none in omega (arith, z))

-- LEMMA: the numbers behind those of the automations
pub length-behind : (n : ℕ) (ns : List ℕ) (m : ℕ) → n + m ≤ length ns → m ≤ length (drop n ns)
length-behind zero ns m h = omega (arith, h)
length-behind (suc n) [] m h = absurd (omega (arith, h))
length-behind (suc n) (x ∷ ns) m h = length-behind n ns m (omega (arith, h))
