-- What was written, with the end of the trace or without it, and that it was written to the sinks that were handed in.
use Rattle.std.proofs.Common.{◌≡◌, ◌∙◌, true, false, length, take, [], ◌++◌, Option, Some, None, ap, refl, sym, subst}
use Rattle.std.proofs.lemmas.List.{append-nil}
use Rattle.std.proofs.lemmas.Option.{IfSome_then, none-some, same_Some}
use Rattle.std.specs.Prelude.{is_some}
use Rattle.std.specs.Option.{option_map}
use Rattle.ha_io.specs.Told.{Takes}
use Rattle.ha_journal.specs.Journal.{Journal}
use Rattle.ha_journal.specs.EntryText.{end_line, texts_after, trace_line}
use Rattle.ha_config.specs.Words.{Text}
use Rattle.bus_turn.specs.declared.fault.BusFault.{BusFault}
use Rattle.bus_turn.specs.Buses.{HasTaken, HasTakenFront, IsBetween, IsCut, IsWritten}
use Rattle.bus_turn.specs.Ends.{Ends}
use Rattle.bus_turn.specs.Growth.{OutGrows, SinkGrows, TraceGrows}
use Rattle.bus_turn.specs.Shown.{BusView}
use Rattle.bus_turn.specs.States.{Outside, SinkState}
use Rattle.bus_turn.specs.Writes.{WritesIn}
use Rattle.bus_pass.specs.declared.hand.Origin.{Origin}
use Rattle.bus_pass.specs.declared.hand.SinkMark.{SinkMark}
use Rattle.bus_pass.specs.Origins.{mark_of, origin_of}
use Rattle.ha_run.specs.Core.{IsEndCut, IsEndWritten, SameOutside, SameSink, SameTrace, view_of}
use Rattle.ha_whole.specs.Trace.{names, trace_text}

-- ---- the end of the trace

trace_whole : (j : Journal) → trace_text j true ≡ trace_text j false ++ end_line (length j)
trace_whole j = sym (ap (λ (z : Text). z ++ end_line (length j)) (append-nil (texts_after (λ before x. trace_line (names before) x) [] j)))

between_whole : (done whole more t : Text) → whole ≡ done ++ more → t ≡ whole → IsBetween done t whole
between_whole done whole more t e f = record { more_done = more; missing = []; begins = f ∙ e; ends = sym f ∙ sym (append-nil t) }

end_is_front : (j : Journal) (s : SinkState) → HasTaken (trace_text j true) s → HasTakenFront (trace_text j false) (trace_text j true) s
end_is_front j s h = IfSome_then s.took h (λ t e. between_whole (trace_text j false) (trace_text j true) (end_line (length j)) t (trace_whole j) e)

pub end_cut_of_end : (b : BusView) → IsEndWritten b → IsEndCut b
end_cut_of_end b w = record { calls = w.calls; errors = w.errors; trace = IfSome_then b.out.trace w.trace (λ s h. end_is_front b.journal s h); keep = w.keep }

pub seen_whole : (b : BusView) → IsWritten b → IsWritten (view_of b.journal b.records b.out)
seen_whole b w = record { calls = w.calls; errors = w.errors; trace = w.trace; keep = w.keep }

unfoldable pub seen_cut : (b : BusView) → IsCut b → IsCut (view_of b.journal b.records b.out)
seen_cut b c = record { before = c.before; last = c.last; is = c.is; calls = c.calls; errors = c.errors; trace = c.trace; keep = c.keep }

-- ---- the same sinks

same_self : (s : SinkState) → SameSink s s
same_self s = record { told = refl; same_name = refl }

same_by : (s s' : SinkState) → s' ≡ s → SameSink s s'
same_by s s' e = subst (SameSink s) (sym e) (same_self s)

grown_sink : (s s' : SinkState) → SinkGrows s s' → SameSink s s'
grown_sink s s' g = record { told = g.told; same_name = g.same_name }

grown_trace : (o o' : Option SinkState) → TraceGrows o o' → SameTrace o o'
grown_trace None None g = tt
grown_trace None (Some s') g = absurd g
grown_trace (Some s) None g = absurd g
grown_trace (Some s) (Some s') g = grown_sink s s' g

pub grown_out : (o o' : Outside) → OutGrows o o' → SameOutside o o'
grown_out o o' g = record {
  calls = grown_sink o.calls o'.calls g.calls;
  errors = grown_sink o.errors o'.errors g.errors;
  trace = grown_trace o.trace o'.trace g.trace;
  keep = g.keep.told;
}

sink_then : (a b c : SinkState) → SameSink a b → SameSink b c → SameSink a c
sink_then a b c g h = record { told = h.told ∙ g.told; same_name = h.same_name ∙ g.same_name }

trace_then : (a b c : Option SinkState) → SameTrace a b → SameTrace b c → SameTrace a c
trace_then None None None g h = tt
trace_then None None (Some t) g h = absurd h
trace_then None (Some s) c g h = absurd g
trace_then (Some r) None c g h = absurd g
trace_then (Some r) (Some s) None g h = absurd h
trace_then (Some r) (Some s) (Some t) g h = sink_then r s t g h

pub same_then : (a b c : Outside) → SameOutside a b → SameOutside b c → SameOutside a c
same_then a b c g h = record {
  calls = sink_then a.calls b.calls c.calls g.calls h.calls;
  errors = sink_then a.errors b.errors c.errors g.errors h.errors;
  trace = trace_then a.trace b.trace c.trace g.trace h.trace;
  keep = h.keep ∙ g.keep;
}

marked_sink : (s s' : SinkState) → mark_of s' ≡ mark_of s → SameSink s s'
marked_sink s s' e = record { told = ap (λ (m : SinkMark). m.told) e; same_name = ap (λ (m : SinkMark). m.name) e }

marked_trace : (o o' : Option SinkState) → option_map mark_of o' ≡ option_map mark_of o → SameTrace o o'
marked_trace None None e = tt
marked_trace None (Some s') e = absurd (none-some (mark_of s') (sym e))
marked_trace (Some s) None e = absurd (none-some (mark_of s) e)
marked_trace (Some s) (Some s') e = marked_sink s s' (same_Some (mark_of s') (mark_of s) e)

-- a bus that went round
pub round_same : (a b : BusView) → origin_of b ≡ origin_of a → SameOutside a.out b.out
round_same a b e = record {
  calls = marked_sink a.out.calls b.out.calls (ap (λ (o : Origin). o.calls) e);
  errors = marked_sink a.out.errors b.out.errors (ap (λ (o : Origin). o.errors) e);
  trace = marked_trace a.out.trace b.out.trace (ap (λ (o : Origin). o.trace) e);
  keep = ap (λ (o : Origin). o.keep) e;
}

still_told : (text : Text) (o : Option Text) → is_some (option_map (λ (all : Text). all ++ text) o) ≡ is_some o
still_told text None = refl
still_told text (Some t) = refl

told_still : (text : Text) (before after : Option Text) → Takes before text after → is_some after ≡ is_some before
told_still text before after h = ap is_some h ∙ still_told text before

ended_trace : (text : Text) (o : Option SinkState) (fault : Option BusFault) (o' : Option SinkState) → WritesIn text o fault o' → SameTrace o o'
ended_trace text None None None w = tt
ended_trace text None None (Some s') w = absurd w
ended_trace text None (Some fault) o' w = absurd w
ended_trace text (Some s) None None w = absurd w
ended_trace text (Some s) None (Some s') w = record { told = told_still text s.took s'.took w.took; same_name = w.same_name }
ended_trace text (Some s) (Some fault) None w = absurd w
ended_trace text (Some s) (Some fault) (Some s') w = record { told = told_still (take w.0.front.0 text) s.took s'.took w.0.front.1.1; same_name = w.0.same_name }

-- a bus that was ended
pub ended_same : (j : Journal) (o o' : Outside) (first : Option BusFault) → Ends j o first o' → SameOutside o o'
ended_same j o o' first e = record {
  calls = same_by o.calls o'.calls e.calls;
  errors = same_by o.errors o'.errors e.errors;
  trace = ended_trace (end_line (length j)) o.trace first o'.trace e.trace;
  keep = ap (λ k. is_some k.kept) e.keep;
}
