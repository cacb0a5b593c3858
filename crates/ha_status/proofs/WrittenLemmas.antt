-- What the sinks took.
use Rattle.std.proofs.Common.{◌≡◌, ◌⊎◌, inl, inr, [], Option, refl, sym, ◌∙◌, append-nil, take, drop}
use Rattle.std.proofs.lemmas.List.{take-append-drop}
use Rattle.ha_io.specs.Told.{Takes}
use Rattle.ha_io.specs.Whole.{IsFrontTaken}
use Rattle.ha_io.proofs.ToldLemmas.{Takes-nothing}
use Rattle.ha_status.specs.declared.status.Status.{Status}
use Rattle.ha_status.specs.StatusLine.{Text, status_line}
use Rattle.ha_status.specs.Written.{AreErrorsWritten, IsLineOf, IsWritten, TookBut, TookLine}

-- ---- fronts of texts

-- a front of a text was taken
pub took_but : (text : Text) (a b : Option Text) → (t : IsFrontTaken a text b) → TookBut (drop t.0 text) text a b
took_but text a b t = record { front = take t.0 text; text_is = sym (take-append-drop t.0 text); took = t.1.1 }

-- nothing was to be written, and nothing was
pub none_written : (s : Status) (sink : Option Text) → IsWritten s [] sink sink
none_written s sink = record { rest = []; took = record { front = []; text_is = refl; took = Takes-nothing sink }; all = λ h. refl }

-- nothing was written, where the command did not end as wanted
pub nothing_written : (s : Status) (text : Text) (sink : Option Text) → (s ≡ Status.Ok → ⊥) → IsWritten s text sink sink
nothing_written s text sink other = record { rest = text; took = record { front = []; text_is = refl; took = Takes-nothing sink }; all = λ h. absurd (other h) }

-- a front of it was written, where the command did not end as wanted; and all of it
pub front_written : (s : Status) (text piece : Text) (a b : Option Text) → (s ≡ Status.Ok → ⊥) → piece ≡ text → IsFrontTaken a piece b → IsWritten s text a b
front_written s text piece a b other e t = record {
  rest = drop t.0 piece;
  took = record { front = take t.0 piece; text_is = sym e ∙ sym (take-append-drop t.0 piece); took = t.1.1 };
  all = λ h. absurd (other h);
}

pub all_written : (s : Status) (text piece : Text) (a b : Option Text) → piece ≡ text → Takes a piece b → IsWritten s text a b
all_written s text piece a b e t = record { rest = []; took = record { front = piece; text_is = sym e ∙ sym (append-nil piece); took = t }; all = λ h. refl }

-- the status that was told, or want of memory
pub told_written : (s r : Status) (text : Text) (a b : Option Text) → (r ≡ s) ⊎ (r ≡ Status.Memory) → IsWritten s text a b → IsWritten r text a b
told_written s r text a b (inl e) w = record { rest = w.rest; took = w.took; all = λ h. w.all (sym e ∙ h) }
told_written s r text a b (inr e) w = record { rest = w.rest; took = w.took; all = λ h. absurd (let bad : ◌≡◌ {A = Status} Status.Memory Status.Ok = sym e ∙ h in cc) }

-- ---- the status line

pub took_whole : (faulted : Type 0) (s : Status) (text : Text) (a b : Option Text) → text ≡ status_line s → Takes a text b → TookLine faulted s a b
took_whole faulted s text a b e t = record { line = text; line_is = inl e; took = t }

pub took_front : (faulted : Type 0) (s : Status) (text : Text) (a b : Option Text) → faulted → text ≡ status_line s → IsFrontTaken a text b → TookLine faulted s a b
took_front faulted s text a b f e t = record {
  line = take t.0 text;
  line_is = inr (inl (f, (drop t.0 text, sym e ∙ sym (take-append-drop t.0 text))));
  took = t.1.1;
}

-- memory ran out while it was written, or before
pub took_some : (faulted : Type 0) (s : Status) (text : Text) (a b : Option Text) → text ≡ status_line s → IsFrontTaken a text b → TookLine faulted Status.Memory a b
took_some faulted s text a b e t = record {
  line = take t.0 text;
  line_is = inr (inr (refl, (s, (drop t.0 text, sym e ∙ sym (take-append-drop t.0 text)))));
  took = t.1.1;
}

pub took_none : (faulted : Type 0) (a : Option Text) → TookLine faulted Status.Memory a a
took_none faulted a = record { line = []; line_is = inr (inr (refl, (Status.Memory, (status_line Status.Memory, refl)))); took = Takes-nothing a }

-- a wider cause
pub line_by_wider : (faulted more : Type 0) (s : Status) (a b : Option Text) → (faulted → more) → TookLine faulted s a b → TookLine more s a b
line_by_wider faulted more s a b wider t = record { line = t.line; line_is = by t.line_is; took = t.took }
  where
    by : IsLineOf faulted s t.line → IsLineOf more s t.line
    by (inl e) = inl e
    by (inr (inl f)) = inr (inl (wider f.0, f.1))
    by (inr (inr m)) = inr (inr m)

-- error lines, and then the status line
pub errors_written : (faulted more : Type 0) (s r : Status) (errors : Text) (a b c : Option Text) → (r ≡ s) ⊎ (r ≡ Status.Memory) → (faulted → more) → IsWritten s errors a b
    → TookLine faulted r b c → AreErrorsWritten more r errors a c
errors_written faulted more s r errors a b c e wider w l =
    record { between = b; errors_took = told_written s r errors a b e w; line_took = line_by_wider faulted more r b c wider l }
