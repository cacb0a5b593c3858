-- What lies outside grows with each put, and each fault of it has its cause in the counts.
use Rattle.std.proofs.Common.{◌≡◌, ◌∙◌, ◌⊎◌, inl, inr, ap, refl, sym, subst, ℕ, ◌<◌, ◌++◌, Bool, true, false, arith}
use Rattle.std.proofs.Math.Nat.{le_refl}
use Rattle.std.specs.Prelude.{[], Option, Some, None, is_some, IfSome, IsSomeAnd}
use Rattle.std.specs.Option.{option_map}
use Rattle.ha_io.specs.Counts.{Rose}
use Rattle.ha_io.specs.Told.{Takes, told_as}
use Rattle.ha_io.proofs.CountLemmas.{Rose-within}
use Rattle.ha_config.specs.Words.{Text}
use Rattle.bus_turn.specs.declared.fault.BusFault.{BusFault}
use Rattle.bus_turn.specs.States.{SinkState, KeeperState, Outside}
use Rattle.bus_turn.specs.Writes.{EntryTexts, KeeperCause, Saves, Shows, SinkCause, Took, TookFront, Writes, WritesIn}
use Rattle.bus_turn.specs.Growth.{HasRisen, KeeperGrows, OutGrows, SinkGrows, TraceCause, TraceGrows}
use Rattle.ha_config.proofs.ListLemmas.{append-nil}
use Rattle.bus_turn.specs.Buses.{HasCause, HasTaken, HasTakenFront, IsBetween, SinkFailed}

-- ---- a fault's cause: what rose is above 0

above : (a b : ℕ) → Rose a b → 0 < b
above a b (inl rose) = omega (arith, rose)
above a b (inr stands) = omega (arith, stands.1)

pub sink-failed : (zero : Bool) (s s' : SinkState) → SinkCause (BusFault.Write zero) s s' → SinkFailed (BusFault.Write zero) s'
sink-failed false s s' h = above s.faults s'.faults h
sink-failed true s s' h = above s.zeros s'.zeros h

trace-failed : (zero : Bool) (o o' : Option SinkState) → TraceCause (BusFault.Write zero) o o' → IsSomeAnd o' (SinkFailed (BusFault.Write zero))
trace-failed zero None None h = absurd h
trace-failed zero None (Some s') h = absurd h
trace-failed zero (Some s) None h = absurd h
trace-failed zero (Some s) (Some s') h = sink-failed zero s s' h

pub write-cause : (zero : Bool) (o o' : Outside) → HasRisen (BusFault.Write zero) o o' → HasCause (BusFault.Write zero) o'
write-cause zero o o' (inl h) = inl (sink-failed zero o.calls o'.calls h)
write-cause zero o o' (inr (inl h)) = inr (inl (sink-failed zero o.errors o'.errors h))
write-cause zero o o' (inr (inr (inl h))) = inr (inr (inl (trace-failed zero o.trace o'.trace h)))
write-cause zero o o' (inr (inr (inr h))) = absurd h

no-trace-cause : (fault : BusFault) → ((s s' : SinkState) → SinkCause fault s s' → ⊥) → (o o' : Option SinkState) → TraceCause fault o o' → ⊥
no-trace-cause fault never None None h = h
no-trace-cause fault never None (Some s') h = h
no-trace-cause fault never (Some s) None h = h
no-trace-cause fault never (Some s) (Some s') h = never s s' h

pub keep-cause : (o o' : Outside) → HasRisen BusFault.Keep o o' → HasCause BusFault.Keep o'
keep-cause o o' (inl h) = absurd h
keep-cause o o' (inr (inl h)) = absurd h
keep-cause o o' (inr (inr (inl h))) = absurd (no-trace-cause BusFault.Keep (λ s s' h. h) o.trace o'.trace h)
keep-cause o o' (inr (inr (inr h))) = inr (inr (inr (above o.keep.faults o'.keep.faults h)))

pub full-cause : (o o' : Outside) → HasRisen BusFault.Full o o' → ⊥
full-cause o o' (inl h) = h
full-cause o o' (inr (inl h)) = h
full-cause o o' (inr (inr (inl h))) = no-trace-cause BusFault.Full (λ s s' h. h) o.trace o'.trace h
full-cause o o' (inr (inr (inr h))) = h

-- ---- what is written of one entry has its cause

trace-rise : (text : Text) (fault : BusFault) (o o' : Option SinkState) → WritesIn text o (Some fault) o' → TraceCause fault o o'
trace-rise text fault None None w = absurd w
trace-rise text fault None (Some s') w = absurd w
trace-rise text fault (Some s) None w = absurd w
trace-rise text fault (Some s) (Some s') w = w.1

keep-rise : (text : Option Text) (fault : BusFault) (k k' : KeeperState) → Saves text k (Some fault) k' → KeeperCause fault k k'
keep-rise None fault k k' w = absurd w
keep-rise (Some text) fault k k' w = w.1

pub shows-rise : (texts : EntryTexts) (o o' : Outside) (fault : BusFault) → Shows texts o (Some fault) o' → HasRisen fault o o'
shows-rise texts o o' fault (inl w) = inl w.0.1
shows-rise texts o o' fault (inr (inl w)) = inr (inl w.1.1)
shows-rise texts o o' fault (inr (inr (inl w))) = inr (inr (inl (trace-rise texts.trace fault o.trace o'.trace w.2)))
shows-rise texts o o' fault (inr (inr (inr w))) = inr (inr (inr (keep-rise texts.store fault o.keep o'.keep w.3)))

-- ---- growth of each part

still-told : {X Y : Type 0} (f : X → Y) (o : Option X) → is_some (option_map f o) ≡ is_some o
still-told f None = refl
still-told f (Some x) = refl

takes-told : (before : Option Text) (text : Text) (after : Option Text) → Takes before text after → is_some after ≡ is_some before
takes-told before text after h = ap is_some h ∙ still-told (λ all. all ++ text) before

took-grows : (text : Text) (s s' : SinkState) → Took text s s' → SinkGrows s s'
took-grows text s s' w = record { told = takes-told s.took text s'.took w.took; faults = w.faults_stay; zeros = w.zeros_stay; same_name = w.same_name }

front-grows : (text : Text) (s s' : SinkState) → TookFront text s s' → SinkGrows s s'
front-grows text s s' w = record { told = takes-told s.took _ s'.took w.front.1.1; faults = w.faults_stay; zeros = w.zeros_stay; same_name = w.same_name }

writes-grow : (text : Text) (s : SinkState) (fault : Option BusFault) (s' : SinkState) → Writes text s fault s' → SinkGrows s s'
writes-grow text s None s' w = took-grows text s s' w
writes-grow text s (Some fault) s' w = front-grows text s s' w.0

sink-grows : (s : SinkState) → SinkGrows s s
sink-grows s = record { told = refl; faults = le_refl s.faults; zeros = le_refl s.zeros; same_name = refl }

sink-stays : (s s' : SinkState) → s' ≡ s → SinkGrows s s'
sink-stays s s' same = subst (SinkGrows s) (sym same) (sink-grows s)

traced-grows : (text : Text) (o : Option SinkState) (fault : Option BusFault) (o' : Option SinkState) → WritesIn text o fault o' → TraceGrows o o'
traced-grows text None None None w = tt
traced-grows text None None (Some s') w = absurd w
traced-grows text None (Some fault) None w = absurd w
traced-grows text None (Some fault) (Some s') w = absurd w
traced-grows text (Some s) None None w = absurd w
traced-grows text (Some s) (Some fault) None w = absurd w
traced-grows text (Some s) None (Some s') w = took-grows text s s' w
traced-grows text (Some s) (Some fault) (Some s') w = front-grows text s s' w.0

trace-grows : (o : Option SinkState) → TraceGrows o o
trace-grows None = tt
trace-grows (Some s) = sink-grows s

trace-stays : (o o' : Option SinkState) → o' ≡ o → TraceGrows o o'
trace-stays o o' same = subst (TraceGrows o) (sym same) (trace-grows o)

keeper-grows : (k : KeeperState) → KeeperGrows k k
keeper-grows k = record { told = refl; faults = le_refl k.faults }

keeper-stays : (k k' : KeeperState) → k' ≡ k → KeeperGrows k k'
keeper-stays k k' same = subst (KeeperGrows k) (sym same) (keeper-grows k)

kept-told : (told kept : Option (Option Text)) (text : Text) → (kept ≡ told) ⊎ (kept ≡ told_as told (Some text)) → is_some kept ≡ is_some told
kept-told told kept text (inl e) = ap is_some e
kept-told told kept text (inr e) = ap is_some e ∙ still-told (λ _. Some text) told

saved-grows : (text : Option Text) (k : KeeperState) (fault : Option BusFault) (k' : KeeperState) → Saves text k fault k' → KeeperGrows k k'
saved-grows None k None k' w = keeper-stays k k' w
saved-grows (Some text) k None k' w = record { told = kept-told k.kept k'.kept text (inr w.kept); faults = w.faults_stay }
saved-grows None k (Some fault) k' w = absurd w
saved-grows (Some text) k (Some fault) k' w = record { told = kept-told k.kept k'.kept text w.0.kept; faults = w.0.faults_stay }

-- ---- growth of all

pub shows-grow : (texts : EntryTexts) (o : Outside) (first : Option BusFault) (o' : Outside) → Shows texts o first o' → OutGrows o o'
shows-grow texts o None o' w = record {
  calls = writes-grow texts.calls o.calls None o'.calls w.0;
  errors = writes-grow texts.errors o.errors None o'.errors w.1;
  trace = traced-grows texts.trace o.trace None o'.trace w.2;
  keep = saved-grows texts.store o.keep None o'.keep w.3;
}
shows-grow texts o (Some fault) o' (inl w) = record {
  calls = writes-grow texts.calls o.calls (Some fault) o'.calls w.0;
  errors = sink-stays o.errors o'.errors w.1;
  trace = trace-stays o.trace o'.trace w.2;
  keep = keeper-stays o.keep o'.keep w.3;
}
shows-grow texts o (Some fault) o' (inr (inl w)) = record {
  calls = writes-grow texts.calls o.calls None o'.calls w.0;
  errors = writes-grow texts.errors o.errors (Some fault) o'.errors w.1;
  trace = trace-stays o.trace o'.trace w.2;
  keep = keeper-stays o.keep o'.keep w.3;
}
shows-grow texts o (Some fault) o' (inr (inr (inl w))) = record {
  calls = writes-grow texts.calls o.calls None o'.calls w.0;
  errors = writes-grow texts.errors o.errors None o'.errors w.1;
  trace = traced-grows texts.trace o.trace (Some fault) o'.trace w.2;
  keep = keeper-stays o.keep o'.keep w.3;
}
shows-grow texts o (Some fault) o' (inr (inr (inr w))) = record {
  calls = writes-grow texts.calls o.calls None o'.calls w.0;
  errors = writes-grow texts.errors o.errors None o'.errors w.1;
  trace = traced-grows texts.trace o.trace None o'.trace w.2;
  keep = saved-grows texts.store o.keep (Some fault) o'.keep w.3;
}

pub out-grows : (o : Outside) → OutGrows o o
out-grows o = record { calls = sink-grows o.calls; errors = sink-grows o.errors; trace = trace-grows o.trace; keep = keeper-grows o.keep }

sink-then : (a b c : SinkState) → SinkGrows a b → SinkGrows b c → SinkGrows a c
sink-then a b c g h = record {
  told = h.told ∙ g.told;
  faults = omega (arith, g.faults, h.faults);
  zeros = omega (arith, g.zeros, h.zeros);
  same_name = h.same_name ∙ g.same_name;
}

trace-then : (a b c : Option SinkState) → TraceGrows a b → TraceGrows b c → TraceGrows a c
trace-then None None None g h = tt
trace-then None None (Some t) g h = absurd h
trace-then None (Some s) c g h = absurd g
trace-then (Some r) None c g h = absurd g
trace-then (Some r) (Some s) None g h = absurd h
trace-then (Some r) (Some s) (Some t) g h = sink-then r s t g h

pub grows-then : (a b c : Outside) → OutGrows a b → OutGrows b c → OutGrows a c
grows-then a b c g h = record {
  calls = sink-then a.calls b.calls c.calls g.calls h.calls;
  errors = sink-then a.errors b.errors c.errors g.errors h.errors;
  trace = trace-then a.trace b.trace c.trace g.trace h.trace;
  keep = record { told = h.keep.told ∙ g.keep.told; faults = omega (arith, g.keep.faults, h.keep.faults) };
}

-- ---- what rose in one part of a run rose in the whole of it

sink-within : (fault : BusFault) (a b c d : SinkState) → SinkGrows a b → SinkCause fault b c → SinkGrows c d → SinkCause fault a d
sink-within (BusFault.Write false) a b c d g h k = Rose-within a.faults b.faults c.faults d.faults g.faults h k.faults
sink-within (BusFault.Write true) a b c d g h k = Rose-within a.zeros b.zeros c.zeros d.zeros g.zeros h k.zeros
sink-within BusFault.Keep a b c d g h k = absurd h
sink-within BusFault.Full a b c d g h k = absurd h
sink-within BusFault.Memory a b c d g h k = tt

trace-within : (fault : BusFault) (a b c d : Option SinkState) → TraceGrows a b → TraceCause fault b c → TraceGrows c d → TraceCause fault a d
trace-within fault (Some p) (Some q) (Some r) (Some s) g h k = sink-within fault p q r s g h k
trace-within fault (Some p) (Some q) (Some r) None g h k = absurd k
trace-within fault (Some p) (Some q) None d g h k = absurd h
trace-within fault a None c d g h k = absurd (none c h)
  where
    none : (c : Option SinkState) → TraceCause fault None c → ⊥
    none None h = h
    none (Some r) h = h
trace-within fault None (Some q) c d g h k = absurd g

keep-within : (fault : BusFault) (a b c d : KeeperState) → KeeperGrows a b → KeeperCause fault b c → KeeperGrows c d → KeeperCause fault a d
keep-within (BusFault.Write zero) a b c d g h k = absurd h
keep-within BusFault.Keep a b c d g h k = Rose-within a.faults b.faults c.faults d.faults g.faults h k.faults
keep-within BusFault.Full a b c d g h k = absurd h
keep-within BusFault.Memory a b c d g h k = tt

pub risen-within : (fault : BusFault) (a b c d : Outside) → OutGrows a b → HasRisen fault b c → OutGrows c d → HasRisen fault a d
risen-within fault a b c d g (inl h) k = inl (sink-within fault a.calls b.calls c.calls d.calls g.calls h k.calls)
risen-within fault a b c d g (inr (inl h)) k = inr (inl (sink-within fault a.errors b.errors c.errors d.errors g.errors h k.errors))
risen-within fault a b c d g (inr (inr (inl h))) k = inr (inr (inl (trace-within fault a.trace b.trace c.trace d.trace g.trace h k.trace)))
risen-within fault a b c d g (inr (inr (inr h))) k = inr (inr (inr (keep-within fault a.keep b.keep c.keep d.keep g.keep h k.keep)))

-- ---- what a sink that had taken nothing takes

whole-told : (text : Text) (b a : Option Text) → IfSome b (λ t. t ≡ []) → is_some a ≡ is_some b → IfSome a (λ t. t ≡ text) → Takes b text a
whole-told text None None was told h = refl
whole-told text None (Some u) was told h = absurd (cc)
whole-told text (Some w) None was told h = absurd (cc)
whole-told text (Some w) (Some u) was told h = ap (λ (t : Text). Some t) (h ∙ ap (λ t. t ++ text) (sym was))

pub takes-whole : (text : Text) (before after : SinkState) → HasTaken [] before → SinkGrows before after → HasTaken text after → Takes before.took text after.took
takes-whole text before after was grows h = whole-told text before.took after.took was grows.told h

part-told : (done whole : Text) (b a : Option Text) → IfSome b (λ t. t ≡ []) → is_some a ≡ is_some b → IfSome a (λ t. IsBetween done t whole)
    → (front : Text) × (rest : Text) × (whole ≡ front ++ rest) × Takes b front a
part-told done whole None None was told h = (whole, [], sym (append-nil whole), refl)
part-told done whole None (Some u) was told h = absurd (cc)
part-told done whole (Some w) None was told h = absurd (cc)
part-told done whole (Some w) (Some u) was told h = (u, h.missing, h.ends, ap (λ (t : Text). Some t) (ap (λ t. t ++ u) (sym was)))

pub takes-part : (done whole : Text) (before after : SinkState) → HasTaken [] before → SinkGrows before after → HasTakenFront done whole after
    → (front : Text) × (rest : Text) × (whole ≡ front ++ rest) × Takes before.took front after.took
takes-part done whole before after was grows h = part-told done whole before.took after.took was grows.told h
