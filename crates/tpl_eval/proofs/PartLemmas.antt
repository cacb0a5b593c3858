-- A text that stands somewhere in another.
use Rattle.std.proofs.Common.{◌≡◌, ◌∙◌, ap, ℕ, Bool, true, false, ◌||◌, refl, [], ◌∷◌, ◌++◌, length, take, drop, sym}
use Rattle.std.specs.Prelude.{◌↔◌}
use Rattle.std.specs.Str.Iter.{HasSubslice}
use Rattle.std.specs.Cmp.Lexicographic.{bytes_decides}
use Rattle.ha_config.specs.Words.{Text, begins_with, is_part_of}
use Rattle.tpl_fns.proofs.ReplaceLemmas.{begins, whole}

or_left : (a b : Bool) → a ≡ true → (a || b) ≡ true
or_left true b h = refl
or_left false b h = absurd (cc)

or_right : (a b : Bool) → b ≡ true → (a || b) ≡ true
or_right true b h = refl
or_right false b h = h

here : (part rest : Text) → is_part_of part (part ++ rest) ≡ true
here [] [] = refl
here [] (c ∷ cs) = or_left (begins_with [] (c ∷ cs)) (is_part_of [] cs) (begins [] (c ∷ cs))
here (x ∷ xs) rest = or_left (begins_with (x ∷ xs) (x ∷ (xs ++ rest))) (is_part_of (x ∷ xs) (xs ++ rest)) (begins (x ∷ xs) rest)

behind : (before part rest : Text) → is_part_of part (before ++ (part ++ rest)) ≡ true
behind [] part rest = here part rest
behind (x ∷ xs) part rest = or_right (begins_with part (x ∷ (xs ++ (part ++ rest)))) _ (behind xs part rest)

at_front : (t part : Text) → begins_with part t ≡ true → HasSubslice t part
at_front t part h =
    let front = (bytes_decides part (take (length part) t)).0 h in
    ([], drop (length part) t, sym (whole (length part) t) ∙ ap (λ l. l ++ drop (length part) t) (sym front))

one_more : (c : ℕ) (t part : Text) → HasSubslice t part → HasSubslice (c ∷ t) part
one_more c t part f = (c ∷ f.0, f.1, ap (λ l. c ∷ l) f.2)

either : {P : Type 0} (a b : Bool) → (a || b) ≡ true → (a ≡ true → P) → (b ≡ true → P) → P
either true b h f g = f refl
either false b h f g = g h

found : (t part : Text) → is_part_of part t ≡ true → HasSubslice t part
found [] [] h = ([], [], refl)
found [] (x ∷ xs) h = absurd (cc)
found (c ∷ cs) part h =
    either (begins_with part (c ∷ cs)) (is_part_of part cs) h (at_front (c ∷ cs) part) (λ e. one_more c cs part (found cs part e))

agree : (r b : Bool) → (r ≡ true → b ≡ true) → (b ≡ true → r ≡ true) → r ≡ b
agree true b f g = sym (f refl)
agree false true f g = g refl
agree false false f g = refl

-- a test that says whether a part stands in a text
pub part-decided : (r : Bool) (part t : Text) → ((r ≡ true) ↔ HasSubslice t part) → r ≡ is_part_of part t
part-decided r part t h =
    agree r (is_part_of part t) (λ e. let s = h.0 e in ap (is_part_of part) s.2 ∙ behind s.0 part s.1) (λ e. h.1 (found t part e))
