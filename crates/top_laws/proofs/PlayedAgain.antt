-- A run, and then a replay of its trace: where nothing hinders that, it ends well, and writes what the run wrote.
use Rattle.std.proofs.Common.{◌≡◌, ◌⊎◌, inl, inr, ◌∙◌, ap, sym, subst, refl, ◌++◌, [], ◌∷◌, append-nil}
use Rattle.std.specs.Prelude.{Option, Some, None, IfSome, IsSomeAnd}
use Rattle.std.specs.Option.{option_map}
use Rattle.ha_io.specs.Told.{Takes}
use Rattle.ha_config.specs.Words.{Text}
use Rattle.ha_journal.specs.EntryText.{error_text}
use Rattle.ha_status.specs.declared.status.Status.{Status}
use Rattle.ha_status.specs.Causes.{OneRose}
use Rattle.ha_status.specs.Files.{Files}
use Rattle.ha_status.specs.StatusLine.{status_line}
use Rattle.ha_status.specs.Written.{IsLineOf}
use Rattle.ha_words.specs.declared.plan.RunWords.{RunWords}
use Rattle.trace_laws.specs.Tells.{IsTraceOf}
use Rattle.replay_file.specs.Judged.{AreErrorsTaken, IsTaken}
use Rattle.ha_top.specs.Views.{After, Before}
use Rattle.ha_top.specs.Written.{EndWritten, written}
use Rattle.ha_top.specs.Answered.{Answered, IsBooted, scene}
use Rattle.ha_top.specs.Program.{Replayed}
use Rattle.top_laws.specs.Traced.{IsPlayedAgain, IsTraceHeld, IsTraced}
use Rattle.top_laws.specs.Unhindered.{IsWellReplay, IsWholeTrace}
use Rattle.top_laws.proofs.Completeness.{Good}
use Rattle.top_laws.proofs.ReplayEnds.{replay-ends-well}
use Rattle.top_laws.proofs.RunReplayed.{ran_to_end, run-traced, trace-replayed}
use Rattle.ha_whole.specs.Trace.{call_text}

-- ---- at Ok

front_of_none : (front rest : Text) → [] ≡ front ++ rest → front ≡ []
front_of_none [] rest e = refl
front_of_none (x ∷ front) rest e = absurd cc

line_of_ok : (faulted : Type 0) (line : Text) → IsLineOf faulted Status.Ok line → line ≡ []
unfolding status_line
line_of_ok faulted line (inl e) = e
line_of_ok faulted line (inr (inl h)) = front_of_none line h.1.0 h.1.1
line_of_ok faulted line (inr (inr h)) = absurd (let clash : ◌≡◌ {A = Status} Status.Ok Status.Memory = h.0 in cc)

-- there is no status line
no_line : (faulted : Type 0) (status : Status) (line : Text) → IsLineOf faulted status line → status ≡ Status.Ok → line ≡ []
no_line faulted status line is ok = line_of_ok faulted line (subst (λ s. IsLineOf faulted s line) ok is)

-- and all of a text is taken
ok_taken : (text : Text) (before after : Option Text) → IsTaken Status.Ok text before after → Takes before text after
ok_taken text before after t =
    let whole : t.took.front ≡ text = sym (append-nil t.took.front) ∙ ap (λ z. t.took.front ++ z) (sym (none t.all)) ∙ sym t.took.text_is in
    subst (λ z. Takes before z after) whole t.took.took
  where
    none : ⊥ ⊎ (t.rest ≡ []) → t.rest ≡ []
    none (inl h) = absurd h
    none (inr h) = h

all_taken : (status : Status) (text : Text) (before after : Option Text) → status ≡ Status.Ok → IsTaken status text before after → Takes before text after
all_taken status text before after ok t = ok_taken text before after (subst (λ s. IsTaken s text before after) ok t)

with_nothing : (o : Option Text) → option_map (λ all. all ++ []) o ≡ o
with_nothing None = refl
with_nothing (Some t) = ap (λ (z : Text). Some z) (append-nil t)

errors_taken : (faulted : Type 0) (status : Status) (text : Text) (before after : Option Text) → status ≡ Status.Ok → AreErrorsTaken faulted status text before after → Takes before text after
errors_taken faulted status text before after ok t =
    let empty = no_line faulted status t.line_taken.line t.line_taken.line_is ok in
    let same : after ≡ t.between = t.line_taken.took ∙ ap (λ (z : Text). option_map (λ all. all ++ z) t.between) empty ∙ with_nothing t.between in
    subst (λ z. Takes before text z) (sym same) (all_taken status text before t.between ok t.errors_taken)

-- ---- what was taken by both

again : (took : Option Text) (text : Text) (before after : Option Text) → IfSome took (λ t. t ≡ text) → Takes before text after → IfSome took (λ t. Takes before t after)
again None text before after h k = tt
again (Some t) text before after h k = subst (λ z. Takes before z after) (sym h) k

again_but : (took between : Option Text) (text line : Text) (before after : Option Text) → Takes between line took → IfSome between (λ t. t ≡ text) → Takes before text after
    → IfSome took (λ t. (errors : Text) × (t ≡ errors ++ line) × Takes before errors after)
again_but took between text line before after e h k = subst (λ o. IfSome o (λ t. (errors : Text) × (t ≡ errors ++ line) × Takes before errors after)) (sym e) (by between h)
  where
    by : (o : Option Text) → IfSome o (λ t. t ≡ text) → IfSome (option_map (λ all. all ++ line) o) (λ t. (errors : Text) × (t ≡ errors ++ line) × Takes before errors after)
    by None h = tt
    by (Some t) h = (t, refl, subst (λ z. Takes before z after) (sym h) k)

-- ---- a run and its replay

whole_held : (files : Option Files) (name text : Text) → IsSomeAnd files (λ f. f name ≡ Some text) → IsWholeTrace text → IsSomeAnd files (λ f. IsSomeAnd (f name) IsWholeTrace)
whole_held None name text held whole = absurd held
whole_held (Some f) name text held whole = subst (λ (file : Option Text). IsSomeAnd file IsWholeTrace) (sym held) whole

module _ (words : RunWords) (b b' : Before) (a a' : After) (name text : Text) (ran : Answered words b a) (traced : IsTraced a text) (replayed : Replayed name b' a') (held : IsTraceHeld b' name text) (well : IsWellReplay b' a') where
  trace : IsTraceOf text a.journal a.records
  trace = run-traced words b a text ran traced

  ends : Good a'.status
  ends = replay-ends-well name b' a' replayed (record {
    traced = whole_held b'.place.files name text held.held (record { journal = a.journal; records = a.records; trace = trace; within = held.within });
    well = well;
  })

  end : EndWritten b a
  end = (ran_to_end (IsBooted words b) (scene words b a) (written b a) a.status traced.ended ran.stands).0

  played : a'.status ≡ Status.Ok → IsPlayedAgain b a b' a'
  played ok =
      let same = trace-replayed name text b' a' a.journal a.records replayed held.held trace ok in
      let calls = all_taken a'.status (call_text a.journal a.records) b'.out.took a'.out.took ok same.0 in
      let errors = errors_taken _ a'.status (error_text a.journal) b'.err.took a'.err.took ok same.1 in
      record {
        line = end.line.line;
        line_is = end.line.line_is;
        no_line = no_line (OneRose b.err.faults a.err.faults b.err.zeros a.err.zeros) a.status end.line.line end.line.line_is;
        calls = again a.out.took (call_text a.journal a.records) b'.out.took a'.out.took end.texts.calls calls;
        errors = again_but a.err.took end.errors (error_text a.journal) end.line.line b'.err.took a'.err.took end.line.took end.texts.errors errors;
      }

  by_end : Good a'.status → (a'.status ≡ Status.Memory) ⊎ ((a'.status ≡ Status.Ok) × IsPlayedAgain b a b' a')
  by_end (inl ok) = inr (ok, played ok)
  by_end (inr memory) = inl memory

  pub played-again : (a'.status ≡ Status.Memory) ⊎ ((a'.status ≡ Status.Ok) × IsPlayedAgain b a b' a')
  played-again = by_end ends
