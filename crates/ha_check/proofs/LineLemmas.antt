-- The line of an automation, from its parts as they are written.
use Rattle.std.proofs.Common.{◌≡◌, ◌∙◌, ◌+◌, ◌<◌, ◌++◌, ◌∷◌, [], ℕ, List, append_assoc, append-nil, ap, ap₂, sym, codes, decimal, get_or, length, map, take}
use Rattle.std.specs.List.{concat}
use Rattle.std.proofs.lemmas.List.{map_more}
use Rattle.std.proofs.lemmas.List.Folds.{concat-append}
use Rattle.ha_config.specs.declared.config.Automation.{Automation}
use Rattle.ha_config.specs.CheckText.{check_line, mode_text}
use Rattle.ha_status.specs.StatusLine.{Text}
use Rattle.ha_check.specs.Lines.{line_counts, line_head}

-- parts that are joined from the right
joined : (p n s m x o t c k a q l : Text)
    → (p ++ (n ++ (s ++ (m ++ (s ++ x))))) ++ (o ++ (t ++ (c ++ (k ++ (a ++ (q ++ l)))))) ≡ (p ++ n ++ s ++ m ++ s ++ x ++ o ++ t ++ c ++ k ++ a ++ q) ++ l
joined p n s m x o t c k a q l = simp append_assoc

pub line_is : (a : Automation) → line_head a ++ line_counts a ≡ check_line a
line_is a = joined (codes "automation.") a.name (codes " ") (mode_text a.mode) (decimal a.max) (codes " triggers ") (decimal (length a.triggers)) (codes " conditions ")
    (decimal (length a.tests)) (codes " actions ") (decimal (length a.actions)) (10 ∷ [])

pub line_written : (a : Automation) (first between last head counts : Text) → between ≡ first ++ head → head ≡ line_head a → last ≡ between ++ counts → counts ≡ line_counts a
    → last ≡ first ++ check_line a
line_written a first between last head counts b h e k =
    e ∙ ap₂ (λ (x y : Text). x ++ y) (b ∙ ap (λ (x : Text). first ++ x) h) k ∙ append_assoc first (line_head a) (line_counts a) ∙ ap (λ (x : Text). first ++ x) (line_is a)

-- one line more
pub lines_more : (all : List Automation) (i : ℕ) (a : Automation) (before after : Text) → i < length all → a ≡ get_or all i a → before ≡ concat (map check_line (take i all))
    → after ≡ before ++ check_line a → after ≡ concat (map check_line (take (i + 1) all))
lines_more all i a before after low is b e =
    e ∙ ap₂ (λ (x y : Text). x ++ y) b (ap check_line is ∙ sym (append-nil _))
    ∙ sym (ap concat (map_more check_line all i a low) ∙ concat-append (map check_line (take i all)) (check_line (get_or all i a) ∷ []))
