-- Lines of bytes that come in pieces.
use Rattle.std.proofs.Common.{◌≡◌, ◌∙◌, Bool, true, false, List, [], ◌∷◌, ◌++◌, take, append_assoc, ap, refl, sym}
use Rattle.std.specs.Prelude.{◌&&◌, ◌==◌, if◌then◌else◌}
use Rattle.std.specs.List.{list_all}
use Rattle.std.proofs.lemmas.List.{append-nil}
use Rattle.std.proofs.lemmas.List.Folds.{list_all-append}
use Rattle.ha_config.specs.Words.{Text}
use Rattle.ha_text.specs.Lines.{IsNone, IsTaken, SameLines, counted, is_blank, lines_from, lines_of, longest, whole_from, whole_lines, without_cr}
use Rattle.ha_worker.specs.Taken.{Took}

-- ---- the whole lines are all but the last one of those with a letter behind them

and-false : (a : Bool) → (a && false) ≡ false
and-false true = refl
and-false false = refl

letter_counts : (line : Text) → list_all is_blank (line ++ (97 ∷ [])) ≡ false
letter_counts line = list_all-append is_blank line (97 ∷ []) ∙ and-false (list_all is_blank line)

behind_letter : (line text : Text) → (last : Text) × (lines_from line (text ++ (97 ∷ [])) ≡ whole_from line text ++ (last ∷ []))
unfolding lines_from whole_from counted
behind_letter line [] = (take longest (line ++ (97 ∷ [])), (λ i. if letter_counts line i then [] else take longest (line ++ (97 ∷ [])) ∷ []))
behind_letter line (b ∷ text) = by (b == 10) (behind_letter [] text) (behind_letter (line ++ (b ∷ [])) text)
  where
    by : (x : Bool) → (last : Text) × (lines_from [] (text ++ (97 ∷ [])) ≡ whole_from [] text ++ (last ∷ []))
        → (last : Text) × (lines_from (line ++ (b ∷ [])) (text ++ (97 ∷ [])) ≡ whole_from (line ++ (b ∷ [])) text ++ (last ∷ []))
        → (last : Text) × ((if x then counted (without_cr line) ++ lines_from [] (text ++ (97 ∷ [])) else lines_from (line ++ (b ∷ [])) (text ++ (97 ∷ [])))
        ≡ (if x then counted (without_cr line) ++ whole_from [] text else whole_from (line ++ (b ∷ [])) text) ++ (last ∷ []))
    by true p q = (p.0, ap (λ z. counted (without_cr line) ++ z) p.1 ∙ sym (append_assoc (counted (without_cr line)) (whole_from [] text) (p.0 ∷ [])))
    by false p q = q

-- all but the last
front : List Text → List Text
front [] = []
front (x ∷ []) = []
front (x ∷ y ∷ xs) = x ∷ front (y ∷ xs)

front-snoc : (xs : List Text) (x : Text) → front (xs ++ (x ∷ [])) ≡ xs
unfolding front
front-snoc [] x = refl
front-snoc (y ∷ []) x = refl
front-snoc (y ∷ z ∷ xs) x = ap (λ l. y ∷ l) (front-snoc (z ∷ xs) x)

snoc-same : (xs ys : List Text) (x y : Text) → xs ++ (x ∷ []) ≡ ys ++ (y ∷ []) → xs ≡ ys
snoc-same xs ys x y e = sym (front-snoc xs x) ∙ ap front e ∙ front-snoc ys y

-- ---- what is taken

pub took_nothing : (text : Text) → Took text [] text
took_nothing text = λ more. refl

pub took_then : (a b c : Text) (xs ys : List Text) → Took a xs b → Took b ys c → Took a (xs ++ ys) c
took_then a b c xs ys p q = λ more. p more ∙ ap (λ z. xs ++ z) (q more) ∙ sym (append_assoc xs ys (lines_of (c ++ more)))

pub took_one : (old line new : Text) → IsTaken old line new → Took old (line ∷ []) new
took_one old line new t = λ more. t.first more

pub took_none : (old new : Text) → IsNone old new → Took old [] new
took_none old new n = λ more. sym (n.same more)

-- a piece comes behind
pub took_piece : (bytes cut piece : Text) (lines : List Text) → Took bytes lines cut → Took (bytes ++ piece) lines (cut ++ piece)
took_piece bytes cut piece lines p = λ more.
    ap lines_of (append_assoc bytes piece more) ∙ p (piece ++ more) ∙ ap (λ z. lines ++ lines_of z) (sym (append_assoc cut piece more))

pub took_pushed : (bytes old new piece : Text) (lines : List Text) → Took bytes lines old → SameLines new (old ++ piece) → Took (bytes ++ piece) lines new
took_pushed bytes old new piece lines p same = λ more. took_piece bytes old piece lines p more ∙ ap (λ z. lines ++ z) (sym (same more))

pub took_whole : (bytes cut : Text) (lines : List Text) → Took bytes lines cut → whole_lines bytes ≡ lines ++ whole_lines cut
took_whole bytes cut lines p =
    let a = behind_letter [] bytes in
    let b = behind_letter [] cut in
    snoc-same (whole_lines bytes) (lines ++ whole_lines cut) a.0 b.0
    (sym a.1 ∙ p (97 ∷ []) ∙ ap (λ z. lines ++ z) b.1 ∙ sym (append_assoc lines (whole_lines cut) (b.0 ∷ [])))

pub took_all : (bytes cut : Text) (lines : List Text) → Took bytes lines cut → lines_of bytes ≡ lines ++ lines_of cut
took_all bytes cut lines p = ap lines_of (sym (append-nil bytes)) ∙ p [] ∙ ap (λ z. lines ++ lines_of z) (append-nil cut)

pub same_whole : (a b : Text) → SameLines a b → whole_lines a ≡ whole_lines b
same_whole a b same = took_whole a b [] same

pub whole_empty : whole_lines [] ≡ []
unfolding whole_from
whole_empty = refl
