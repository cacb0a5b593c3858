-- What a token that stands somewhere says of the text.
use Rattle.std.proofs.Common.{◌≡◌, ℕ, suc, ◌≤◌, Bool, true, false, cond, List, [], ◌∷◌, length, Option, Some, refl, sym, ap, ◌∙◌, arith}
use Rattle.std.specs.Prelude.{◌==◌}
use Rattle.std.specs.List.{find}
use Rattle.tpl_parse.specs.declared.token.Token.{Token}
use Rattle.ha_value.specs.Truth.{is_blank_or_break}
use Rattle.tpl_parse.specs.Token.{common, spaces, stands}

pub common_within : (a b : List ℕ) → common a b ≤ length b
unfolding common
common_within [] b = omega arith
common_within (x ∷ a) [] = omega arith
common_within (x ∷ a) (y ∷ b) =
    let h = common_within a b in
    elim (x == y) as (λ t. cond t (suc (common a b)) 0 ≤ length (y ∷ b)) [ true ↦ omega (arith, h) | false ↦ omega arith ]

pub spaces_twice : (rest : List ℕ) → spaces (spaces rest) ≡ spaces rest
unfolding spaces
spaces_twice [] = refl
spaces_twice (b ∷ rest) =
    let h : spaces (spaces rest) ≡ spaces rest = spaces_twice rest in
    let go : (t : Bool) → is_blank_or_break b ≡ t → spaces (cond t (spaces rest) (b ∷ rest)) ≡ cond t (spaces rest) (b ∷ rest) = λ t. elim t as (λ t. is_blank_or_break b ≡ t → spaces (cond t (spaces rest) (b ∷ rest)) ≡ cond t (spaces rest) (b ∷ rest)) [ true ↦ λ e. h | false ↦ λ e. rw e refl ] in
    go (is_blank_or_break b) refl

pub found_operator : {A : Type 0} (rows : List (Token × A)) (text old new : List ℕ) (r : Option (Token × A)) (row : Token × A)
    → text ≡ new → new ≡ spaces old → r ≡ find (λ row. stands row.0 text) rows → r ≡ Some row → find (λ row. stands row.0 (spaces old)) rows ≡ Some row
found_operator rows text old new r row same skipped found is = ap (λ t. find (λ row. stands row.0 t) rows) (sym (same ∙ skipped)) ∙ sym found ∙ is
