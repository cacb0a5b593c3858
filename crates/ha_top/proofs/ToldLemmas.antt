-- What a run answers for behind its status line.
use Rattle.std.proofs.Common.{◌≡◌, ◌⊎◌, inl, inr, ◌∙◌, ◌≤◌, ℕ, ◌++◌, map, Option, Some, None, ap, refl, sym, subst, arith}
use Rattle.std.proofs.Math.Nat.{le_refl}
use Rattle.std.specs.Prelude.{IfSome, is_some}
use Rattle.std.specs.Option.{option_map}
use Rattle.ha_io.proofs.CountLemmas.{Rose-within}
use Rattle.ha_config.specs.Words.{Text}
use Rattle.ha_status.specs.declared.status.Status.{Status}
use Rattle.ha_status.specs.Causes.{KeepCause, OneRose, ReadCause, WriteCause}
use Rattle.ha_status.specs.Files.{IsTextFault}
use Rattle.ha_status.specs.Written.{TookLine}
use Rattle.ha_status.proofs.CauseLemmas.{told_status, wider_write}
use Rattle.ha_status.proofs.WrittenLemmas.{line_by_wider}
use Rattle.ha_words.specs.declared.plan.RunWords.{RunWords}
use Rattle.bus_turn.specs.Buses.{IsWritten}
use Rattle.bus_turn.specs.States.{SinkState}
use Rattle.ha_worker.specs.Courses.{SourceState}
use Rattle.conf_auto.specs.Config.{config_in}
use Rattle.ha_run.specs.Core.{IsEndCut, IsEndWritten, IsHandedOn, IsPartWritten}
use Rattle.ha_run.specs.Stands.{StandsAt}
use Rattle.ha_run.proofs.TellLemmas.{stands_in, stands_memory}
use Rattle.ha_run.proofs.WrittenLemmas.{end_cut_of_end}
use Rattle.ha_check.specs.Configured.{RefusedCause}
use Rattle.ha_top.specs.Views.{After, Before}
use Rattle.ha_top.specs.Written.{AllWritten, EndCutWritten, EndWritten, LineBehind, NoneWritten, SomeWritten, handed, seen, written}
use Rattle.ha_top.specs.Answered.{Answered, IsAskedFor, IsBooted, IsStore, IsStoreFault, IsTaken, RunOpenCause, StopsAt, StoreCause, WriteFailed, WriteTookNone, opens, scene}
use Rattle.ha_top.specs.Lived.{Lived, Untouched, unlined}

if_all : {X : Type 0} (o : Option X) (P : X → Type 0) → ((x : X) → P x) → IfSome o P
if_all None P h = tt
if_all (Some x) P h = h x

pub still_told : (o : Option Text) (line : Text) → is_some (option_map (λ (all : Text). all ++ line) o) ≡ is_some o
still_told None line = refl
still_told (Some t) line = refl

pub memory_handed : (kept : Option ℕ) → IsHandedOn kept Status.Memory
memory_handed None = tt
memory_handed (Some n) = tt

module _ (words : RunWords) (b : Before) (a : After) (r : Status) (err : SinkState) (l : Lived words b a) (is : (r ≡ a.status) ⊎ (r ≡ Status.Memory))
    (line : TookLine (OneRose a.err.faults err.faults a.err.zeros err.zeros) r a.err.took err.took) (faults : a.err.faults ≤ err.faults) (zeros : a.err.zeros ≤ err.zeros) (name : err.name ≡ a.err.name)
    (asked : IsAskedFor (opens words) a.journal b.place.asked a.place.asked) (stops : StopsAt words b.place.files a.journal a.sources b.place.asked a.place.asked a.status)
    (handed_on : IsHandedOn a.kept_back a.status) where
  abbrev told_after : After
  told_after = record a { status = r; err = err }

  wider : OneRose a.err.faults err.faults a.err.zeros err.zeros → OneRose b.err.faults err.faults b.err.zeros err.zeros
  wider (inl h) = inl (Rose-within b.err.faults a.err.faults err.faults err.faults l.same.err.faults h (le_refl err.faults))
  wider (inr h) = inr (Rose-within b.err.zeros a.err.zeros err.zeros err.zeros l.same.err.zeros h (le_refl err.zeros))

  behind : LineBehind b told_after a.err.took
  behind = line_by_wider _ _ r a.err.took err.took wider line

  texts : IsWritten (seen a a.err.took) → IsWritten (seen told_after a.err.took)
  texts w = record { calls = w.calls; errors = w.errors; trace = w.trace; keep = w.keep }

  end_texts : IsEndWritten (seen a a.err.took) → IsEndWritten (seen told_after a.err.took)
  end_texts w = record { calls = w.calls; errors = w.errors; trace = w.trace; keep = w.keep }

  cut_texts : IsEndCut (seen a a.err.took) → IsEndCut (seen told_after a.err.took)
  cut_texts w = record { calls = w.calls; errors = w.errors; trace = w.trace; keep = w.keep }

  part : IsPartWritten (handed b) (seen a a.err.took) → IsPartWritten (handed b) (seen told_after a.err.took)
  part (inl w) = inl (texts w)
  part (inr w) = inr (record {
    cut = record { before = w.cut.before; last = w.cut.last; is = w.cut.is; calls = w.cut.calls; errors = w.cut.errors; trace = w.cut.trace; keep = w.cut.keep };
    store = w.store;
  })

  ended : IsEndWritten (seen a a.err.took) → EndWritten b told_after
  ended w = record { errors = a.err.took; texts = end_texts w; line = behind }

  end_cut : IsEndCut (seen a a.err.took) → EndCutWritten b told_after
  end_cut w = record { errors = a.err.took; texts = cut_texts w; line = behind }

  all : IsWritten (seen a a.err.took) → AllWritten b told_after
  all w = record { errors = a.err.took; texts = texts w; line = behind }

  some : IsPartWritten (handed b) (seen a a.err.took) → SomeWritten b told_after
  some w = record { errors = a.err.took; texts = part w; line = behind }

  none : Untouched b a → NoneWritten b told_after
  none u = record {
    no_call = ap (λ (s : SinkState). s.took) u.no_call;
    no_trace = u.no_trace;
    no_store = u.no_store;
    line = subst (λ (s : SinkState). LineBehind b told_after s.took) u.no_error behind;
  }

  stood : StandsAt config_in (IsBooted words b) (scene words b told_after) (written b told_after) r
  stood = by is
    where
      by : (r ≡ a.status) ⊎ (r ≡ Status.Memory) → StandsAt config_in (IsBooted words b) (scene words b told_after) (written b told_after) r
      by (inl e) = subst (StandsAt config_in (IsBooted words b) (scene words b told_after) (written b told_after)) (sym e)
          (stands_in config_in (IsBooted words b) (IsBooted words b) (scene words b a) (λ h. h) (unlined b a) (written b told_after) ended end_cut all some none a.status l.stands)
      by (inr e) = subst (StandsAt config_in (IsBooted words b) (scene words b told_after) (written b told_after)) (sym e)
          (stands_memory config_in (IsBooted words b) (scene words b a) (unlined b a) (written b told_after) end_cut some none (λ w. end_cut (end_cut_of_end (seen a a.err.took) w))
          (λ w. some (inl w)) a.status l.stands)

  later : (x x' y : ℕ) → OneRose x x' y a.err.faults → OneRose x x' y err.faults
  later x x' y (inl h) = inl h
  later x x' y (inr h) = inr (Rose-within y y a.err.faults err.faults (le_refl y) h faults)

  later_zero : (x x' y : ℕ) → OneRose x x' y a.err.zeros → OneRose x x' y err.zeros
  later_zero x x' y (inl h) = inl h
  later_zero x x' y (inr h) = inr (Rose-within y y a.err.zeros err.zeros (le_refl y) h zeros)

  failed : WriteFailed b a → WriteFailed b told_after
  failed (inl h) = inl (later b.out.faults a.out.faults b.err.faults h)
  failed (inr h) = inr h

  took_none : WriteTookNone b a → WriteTookNone b told_after
  took_none (inl h) = inl (later_zero b.out.zeros a.out.zeros b.err.zeros h)
  took_none (inr h) = inr h

  -- the status line is written behind all else
  pub told_answers : Answered words b told_after
  told_answers = record {
    stands = stood;
    traced = l.traced;
    asked = asked;
    stops = told_status (λ s. StopsAt words b.place.files a.journal a.sources b.place.asked a.place.asked s) a.status r is stops tt;
    handed = told_status (λ s. IsHandedOn a.kept_back s) a.status r is handed_on (memory_handed a.kept_back);
    same = record {
      out = l.same.out;
      err = record {
        told = ap is_some line.took ∙ still_told a.err.took line.line ∙ l.same.err.told;
        faults = omega (arith, l.same.err.faults, faults);
        zeros = omega (arith, l.same.err.zeros, zeros);
        same_name = name ∙ l.same.err.same_name;
      };
      keep = l.same.keep;
    };
    refused = told_status (λ s. RefusedCause b.place.files words.config s) a.status r is l.refused tt;
    config_first = told_status (λ s. IfSome b.place.files (λ f. (IsTaken (f words.config) → ⊥) → IsTextFault words.config s)) a.status r is l.config_first
        (if_all b.place.files (λ f. (IsTaken (f words.config) → ⊥) → IsTextFault words.config Status.Memory) (λ f never. tt));
    store_refused = told_status (λ s. StoreCause b.keep.kept s) a.status r is l.store_refused tt;
    store_next = told_status (λ s. IfSome b.keep.kept (λ kept. (IsStore kept → ⊥) → IsTextFault words.config s ⊎ IsStoreFault s)) a.status r is l.store_next
        (if_all b.keep.kept (λ kept. (IsStore kept → ⊥) → IsTextFault words.config Status.Memory ⊎ IsStoreFault Status.Memory) (λ kept never. inl tt));
    unopened = told_status (λ s. RunOpenCause words b.place.faults a.place.faults a.place.last s) a.status r is l.unopened tt;
    unread = told_status (λ s. ReadCause words.config words.sources (map (λ (x : SourceState). x.faults) a.sources) (map (λ (x : SourceState). x.name) a.sources) s) a.status r is l.unread tt;
    unwritten = told_status (λ s. WriteCause (WriteFailed b told_after) (WriteTookNone b told_after) s) a.status r is (wider_write _ _ _ _ a.status failed took_none l.unwritten) tt;
    unkept = told_status (λ s. KeepCause b.keep.faults a.keep.faults s) a.status r is l.unkept tt;
  }
