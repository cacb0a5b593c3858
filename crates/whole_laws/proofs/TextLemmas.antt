-- The texts of a journal with one put more.
use Rattle.std.proofs.Common.{◌≡◌, ℕ, ◌-◌, List, [], ◌∷◌, ◌++◌, false, refl, sym, ◌∙◌, append_assoc, append-nil}
use Rattle.std.specs.Prelude.{flat_map, if◌then◌else◌}
use Rattle.ha_journal.specs.declared.entry.Entry.{Entry}
use Rattle.ha_journal.specs.declared.entry.Entry.TheVariants.{Boot, Line, Step, Again}
use Rattle.ha_sight.specs.declared.item.Item.{Item}
use Rattle.ha_sight.specs.Scripts.{Branch}
use Rattle.ha_journal.specs.Commands.{placed_line, lines_of}
use Rattle.ha_journal.specs.EntryText.{error_text, error_text_of, trace_line}
use Rattle.ha_journal.specs.Journal as here
use Rattle.ha_journal.specs.Journal.{Journal, more}
use Rattle.ha_journal.proofs.ForceLaws.{names-more}
use Rattle.ha_model.specs.Records.{Records}
use Rattle.ha_whole.specs.Segments.{carried, segment}
use Rattle.ha_whole.specs.Trace.{call_text, call_text_of, names, trace_text}
use Rattle.ha_whole.specs.Whole.{again_of, appended, put}
use Rattle.ha_laws.proofs.TextLemmas.{errors-more, lines-more, texts-more, trace-more}
use Rattle.whole_laws.proofs.PutLemmas.{Once, Twice, Way, put-on, same-by-put, way-of}
use Rattle.whole_laws.proofs.CutLemmas.{segment-on}

-- LAW: the calls and the errors of a journal with one put more, and the lines of a source: an Again gives none of them
pub calls-put : (j : Journal) (x : Entry) (rs : Records) → call_text (put j x) rs ≡ call_text j rs ++ call_text_of rs j x
calls-put j x rs =
    same-by-put (λ k. call_text k rs) j x (λ k. texts-more (call_text_of rs) [] k (again_of k) ∙ append-nil (call_text k rs))
    ∙ texts-more (call_text_of rs) [] j x

pub errors-put : (j : Journal) (x : Entry) → error_text (put j x) ≡ error_text j ++ error_text_of x
errors-put j x = same-by-put error_text j x (λ k. errors-more k (again_of k) ∙ append-nil (error_text k)) ∙ errors-more j x

pub lines-put : (k : ℕ) (j : Journal) (x : Entry) → lines_of k (put j x) ≡ lines_of k j ++ placed_line k j x
lines-put k j x = same-by-put (lines_of k) j x (λ d. lines-more k d (again_of d) ∙ append-nil (lines_of k d)) ∙ lines-more k j x

-- ---- the trace

-- a Step leaves the names
names-step : (s : Journal) (worker serial : ℕ) (branch : Branch) (item : Item) → here.names s ≡ here.names (more s (Step worker serial branch item))
names-step [] worker serial branch item = refl
names-step (e ∷ es) worker serial branch item = names-more (e ∷ es) (Step worker serial branch item) tt refl

pub names-stepped : (j : Journal) (worker serial : ℕ) (branch : Branch) (item : Item) → names j ≡ names (more j (Step worker serial branch item))
names-stepped j worker serial branch item =
    names-step (segment j) worker (serial - carried (segment j)) branch item
    ∙ (λ i. here.names (sym (segment-on j (Step worker serial branch item) refl) i))

-- a line of the trace is the same by the names before its entry and by those behind it
line-names : (j : Journal) (x : Entry) → trace_line (names j) x ≡ trace_line (names (put j x)) x
line-names j (Boot text config stored start zone carry) = refl
line-names j (Again number start stored carry) = refl
line-names j (Line source number cmd) = refl
line-names j (Step worker serial branch item) =
    let x : Entry = Step worker serial branch item in
    let same : names j ≡ names (put j x) = names-stepped j worker serial branch item ∙ (λ i. names (sym (put-on j x refl) i)) in
    (λ i. trace_line (same i) x)

-- LAW: the trace has the lines of all entries of the put
pub trace-put : (j : Journal) (x : Entry) → trace_text (put j x) false ≡ trace_text j false ++ flat_map (trace_line (names (put j x))) (appended j x)
trace-put j x = by (way-of j x)
  where
    by : Way j x → trace_text (put j x) false ≡ trace_text j false ++ flat_map (trace_line (names (put j x))) (appended j x)
    by (Once e is) =
        (λ i. trace_text (is i) false)
        ∙ trace-more names j x
        ∙ (λ i. trace_text j false ++ line-names j x i)
        ∙ (λ i. trace_text j false ++ sym (append-nil (trace_line (names (put j x)) x)) i)
        ∙ (λ i. trace_text j false ++ flat_map (trace_line (names (put j x))) (if sym e i then x ∷ again_of (more j x) ∷ [] else x ∷ []))
    by (Twice e is) =
        (λ i. trace_text (is i) false)
        ∙ trace-more names (more j x) (again_of (more j x))
        ∙ (λ i. trace-more names j x i ++ trace_line (names (more j x)) (again_of (more j x)))
        ∙ append_assoc (trace_text j false) (trace_line (names j) x) (trace_line (names (more j x)) (again_of (more j x)))
        ∙ (λ i. trace_text j false ++ (line-names j x i ++ sym (append-nil (trace_line (names (put j x)) (again_of (more j x)))) i))
        ∙ (λ i. trace_text j false ++ flat_map (trace_line (names (put j x))) (if sym e i then x ∷ again_of (more j x) ∷ [] else x ∷ []))
