-- The texts of a journal with one more entry.
use Rattle.std.proofs.Common.{◌≡◌, ℕ, List, [], ◌∷◌, ◌++◌, false, refl, sym, ap, ◌∙◌, append_assoc, append-nil}
use Rattle.ha_journal.specs.declared.entry.Entry.{Entry}
use Rattle.ha_config.specs.Words.{Text}
use Rattle.ha_journal.specs.Journal.{Journal, more}
use Rattle.ha_model.specs.Records.{Records}
use Rattle.ha_journal.specs.Commands.{placed_line, placed_from, lines_of}
use Rattle.ha_journal.specs.EntryText.{texts_after, error_text_of, error_text, trace_by, trace_line}
use Rattle.ha_model.specs.Texts.{call_text_of, call_text}

pub texts-more : (gives : Journal → Entry → Text) (before xs : Journal) (x : Entry) → texts_after gives before (xs ++ (x ∷ [])) ≡ texts_after gives before xs ++ gives (before ++ xs) x
texts-more gives before [] x = append-nil (gives before x) ∙ (λ i. gives (sym (append-nil before) i) x)
texts-more gives before (y ∷ ys) x =
    (λ i. gives before y ++ texts-more gives (before ++ (y ∷ [])) ys x i)
    ∙ (λ i. gives before y ++ (texts_after gives (before ++ (y ∷ [])) ys ++ gives (append_assoc before (y ∷ []) ys i) x))
    ∙ sym (append_assoc (gives before y) (texts_after gives (before ++ (y ∷ [])) ys) (gives (before ++ (y ∷ ys)) x))

-- LAW: the calls, the errors and the trace of a journal with one more entry
pub calls-more : (j : Journal) (x : Entry) (rs : Records) → call_text (more j x) rs ≡ call_text j rs ++ call_text_of rs j x
calls-more j x rs = texts-more (call_text_of rs) [] j x

pub errors-more : (j : Journal) (x : Entry) → error_text (more j x) ≡ error_text j ++ error_text_of x
errors-more j x = texts-more (λ before y. error_text_of y) [] j x

pub trace-more : (names_at : Journal → List Text) (j : Journal) (x : Entry) → trace_by names_at (more j x) false ≡ trace_by names_at j false ++ trace_line (names_at j) x
trace-more names_at j x =
    append-nil (texts_after (λ before y. trace_line (names_at before) y) [] (more j x))
    ∙ texts-more (λ before y. trace_line (names_at before) y) [] j x
    ∙ (λ i. sym (append-nil (texts_after (λ before y. trace_line (names_at before) y) [] j)) i ++ trace_line (names_at j) x)

placed-more : (k : ℕ) (before xs : Journal) (x : Entry) → placed_from k before (xs ++ (x ∷ [])) ≡ placed_from k before xs ++ placed_line k (before ++ xs) x
placed-more k before [] x = append-nil (placed_line k before x) ∙ (λ i. placed_line k (sym (append-nil before) i) x)
placed-more k before (y ∷ ys) x =
    (λ i. placed_line k before y ++ placed-more k (before ++ (y ∷ [])) ys x i)
    ∙ (λ i. placed_line k before y ++ (placed_from k (before ++ (y ∷ [])) ys ++ placed_line k (append_assoc before (y ∷ []) ys i) x))
    ∙ sym (append_assoc (placed_line k before y) (placed_from k (before ++ (y ∷ [])) ys) (placed_line k (before ++ (y ∷ ys)) x))

-- LAW: the lines of a source with one more entry
pub lines-more : (k : ℕ) (j : Journal) (x : Entry) → lines_of k (more j x) ≡ lines_of k j ++ placed_line k j x
lines-more k j x = placed-more k [] j x
