-- What the trace's sink took at the end.
use Rattle.std.proofs.Common.{◌≡◌, ◌∙◌, ap, refl, sym, subst, true, false, ◌++◌, length}
use Rattle.std.specs.Prelude.{[], Option, Some, None, IfSome, Result, Ok, Err}
use Rattle.std.specs.Result.{result_err}
use Rattle.ha_journal.specs.Journal.{Journal}
use Rattle.ha_journal.specs.EntryText.{end_line, texts_after, trace_line}
use Rattle.ha_config.specs.Words.{Text}
use Rattle.ha_config.proofs.ListLemmas.{append-nil}
use Rattle.bus_turn.specs.declared.fault.BusFault.{BusFault}
use Rattle.bus_turn.specs.States.{SinkState}
use Rattle.bus_turn.specs.Writes.{Writes, WritesIn, fault_of}
use Rattle.bus_turn.specs.Shown.{BusView}
use Rattle.bus_turn.specs.Buses.{HasTaken, HasTakenFront, IsBus, Stands}
use Rattle.bus_turn.specs.Ends.{HasEnded}
use Rattle.bus_turn.proofs.GrowthLemmas.{sink-failed}
use Rattle.bus_turn.proofs.SinkLemmas.{took-in-more, writes-front}
use Rattle.ha_whole.specs.Trace.{names, trace_text}

module _ (j : Journal) where
  abbrev done : Text
  done = trace_text j false

  abbrev rest : Text
  rest = end_line (length j)

  -- the whole trace is what was written before, and then the end line
  whole : done ++ rest ≡ trace_text j true
  whole = ap (λ (t : Text). t ++ rest) (append-nil (texts_after (λ before x. trace_line (names before) x) [] j))

  in_front : (s s' : SinkState) (fault : BusFault) → HasTaken done s → Writes rest s (Some fault) s' → HasTakenFront done (trace_text j true) s'
  in_front s s' fault h w = subst (λ (t : Text). HasTakenFront done t s') whole (writes-front done rest s (Some fault) s' h w)

  pub has_ended : (before : Option SinkState) (first : Option BusFault) (after : Option SinkState) → IfSome before (HasTaken done) → WritesIn rest before first after → HasEnded j first after
  has_ended before None after h w = subst (λ (t : Text). IfSome after (HasTaken t)) whole (took-in-more done rest before after h w)
  has_ended None (Some fault) None h w = absurd w
  has_ended None (Some fault) (Some s') h w = absurd w
  has_ended (Some s) (Some fault) None h w = absurd w
  has_ended (Some s) (Some (BusFault.Write zero)) (Some s') h w = (in_front s s' (BusFault.Write zero) h w, sink-failed zero s s' w.1)
  has_ended (Some s) (Some BusFault.Keep) (Some s') h w = absurd w.1
  has_ended (Some s) (Some BusFault.Full) (Some s') h w = absurd w.1
  has_ended (Some s) (Some BusFault.Memory) (Some s') h w = in_front s s' BusFault.Memory h w

same_fault : {Y : Type 0} (r : Result Y BusFault) → fault_of r ≡ result_err r
same_fault (Ok y) = refl
same_fault (Err fault) = refl

-- a bus that kept no fault, and then wrote the end line
pub ended_so : {Y : Type 0} (old v : BusView) (j : Journal) (r : Result Y BusFault) (first : Option BusFault) (after : Option SinkState)
    → old ≡ v → IsBus old → v.first ≡ None → j ≡ old.journal → first ≡ result_err r → WritesIn (end_line (length j)) old.out.trace (fault_of r) after
    → HasEnded v.journal first after
ended_so old v j r first after same bus free e f w =
    let stands : Stands old None = subst (Stands old) (ap (λ (b : BusView). b.first) same ∙ free) bus.stands in
    let written : WritesIn (end_line (length old.journal)) old.out.trace first after =
    subst (λ (x : Option BusFault). WritesIn (end_line (length old.journal)) old.out.trace x after) (same_fault r ∙ sym f)
    (subst (λ (k : Journal). WritesIn (end_line (length k)) old.out.trace (fault_of r) after) e w) in
    subst (λ (k : Journal). HasEnded k first after) (ap (λ (b : BusView). b.journal) same) (has_ended old.journal old.out.trace first after stands.1.trace written)
