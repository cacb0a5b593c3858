-- What a put makes of a bus.
use Rattle.std.proofs.Common.{◌≡◌, ◌∙◌, ◌⊎◌, inl, inr, ap, refl, sym, subst, [], ◌∷◌, Bool, true, false}
use Rattle.std.specs.Prelude.{◌↔◌, Option, Some, None, flat_map, is_some, Result, Ok, Err, OnOk, OnErr, IfErr, IfSome}
use Rattle.ha_whole.specs.Trace.{call_text, call_text_of, names, trace_text}
use Rattle.ha_whole.specs.declared.faults.CoreFault.{CoreFault}
use Rattle.ha_journal.specs.declared.entry.Entry.{Entry}
use Rattle.ha_journal.specs.Entries.{is_again, is_restart}
use Rattle.ha_journal.specs.Journal.{Journal}
use Rattle.ha_model.specs.Records.{Records}
use Rattle.ha_journal.specs.EntryText.{error_text, error_text_of, trace_line}
use Rattle.ha_whole.specs.Whole as whole
use Rattle.ha_whole.specs.Whole.{AreEntries, CannotRestart, HasRoom, IsFull, IsWithin, LacksRoom, Right, appended, put}
use Rattle.whole_laws.specs.Puts.{IsPut}
use Rattle.whole_laws.proofs.CallLemmas.{calls-same}
use Rattle.whole_laws.proofs.NumberLemmas.{numbers-more}
use Rattle.whole_laws.proofs.PutLemmas.{LastPut, last-put, within-put}
use Rattle.whole_laws.proofs.TextLemmas.{calls-put, errors-put, trace-put}
use Rattle.bus_turn.specs.declared.fault.BusFault.{BusFault}
use Rattle.bus_turn.specs.States.{Outside}
use Rattle.bus_turn.specs.Writes.{Shows, refusal}
use Rattle.bus_turn.specs.Growth.{HasRisen, OutGrows}
use Rattle.bus_turn.specs.Shown.{BusView, bus_view, texts_of}
use Rattle.bus_turn.specs.Buses.{HasTaken, HasTakenFront, HoldsStore, IsBus, IsCut, IsRefusal, IsWritten, Puts, Refuses, Stands}
use Rattle.bus_turn.proofs.BusLemmas.{First, Held, Later, stands-more, store-part}
use Rattle.bus_turn.proofs.GrowthLemmas.{full-cause, out-grows, shows-grow, shows-rise}
use Rattle.bus_turn.proofs.LastLemmas.{boot-put, boot-within}
use Rattle.bus_turn.proofs.SinkLemmas.{taken-front, taken-in-front}

-- what is written whole is cut of nothing
uncut : (b : BusView) → LastPut b.journal → IsWritten b → IsCut b
uncut b last w = record {
  before = last.before;
  last = last.entry;
  is = last.is;
  calls = (let e = ap (λ j. call_text j b.records) last.is ∙ calls-put last.before last.entry b.records in
      subst (λ t. HasTakenFront (call_text last.before b.records) t b.out.calls) (sym e) (taken-front (call_text last.before b.records) (call_text_of b.records last.before last.entry) b.out.calls (subst (λ t. HasTaken t b.out.calls) e w.calls)));
  errors = (let e = ap error_text last.is ∙ errors-put last.before last.entry in
      subst (λ t. HasTakenFront (error_text last.before) t b.out.errors) (sym e) (taken-front (error_text last.before) (error_text_of last.entry) b.out.errors (subst (λ t. HasTaken t b.out.errors) e w.errors)));
  trace = (let e = ap (λ j. trace_text j false) last.is ∙ trace-put last.before last.entry in
      subst (λ t. IfSome b.out.trace (HasTakenFront (trace_text last.before false) t)) (sym e)
      (taken-in-front (trace_text last.before false) (flat_map (trace_line (names (put last.before last.entry))) (appended last.before last.entry)) b.out.trace (subst (λ t. IfSome b.out.trace (HasTaken t)) e w.trace)));
  keep = inr (inr w.keep);
}

plain : (x : Entry) → IsPut x → is_again x ≡ false
plain x p = ap is_some p.none

full-lacks : (j : Journal) (restarts : Bool) → LacksRoom j restarts → IsFull j ⊎ CannotRestart j
full-lacks j restarts (inl full) = inl full
full-lacks j restarts (inr lacks) = inr lacks.1

module _ (restarts : Bool) (Is : Entry → Type 0) (old : BusView) (bus : IsBus old) (is_open : old.first ≡ None) where
  stood : Stands old None
  stood = subst (Stands old) is_open bus.stands

  module _ (k : Journal) (rs : Records) (spent : Bool) (first : Option BusFault) (out : Outside) where
    abbrev new : BusView
    new = bus_view k rs spent out first

    put-ok : (x : Entry) → Is x → IsPut x → is_restart x ≡ restarts → k ≡ put old.journal x → HasRoom old.journal restarts → Right k rs → spent ≡ false → Shows (texts_of rs old.journal x) old.out first out → IsBus new × Puts restarts Is old new
    put-ok x is p r e room right fresh shows =
        let same = calls-same old.journal old.records rs bus.right (numbers-more old.journal x old.records rs p bus.right (subst (λ j. Right j rs) e right)) in
        let held : Held old.journal rs old.out = record { calls = subst (λ t. HasTaken t old.out.calls) same stood.1.calls; errors = stood.1.errors; trace = stood.1.trace; keep = inr stood.1.keep } in
        let stands = stands-more old.journal x rs (Later bus.right.journal.entries p) old.out out held spent first fresh shows in (
          record {
            right = right;
            room = subst IsWithin (sym e) (within-put old.journal x p.none bus.room (subst (HasRoom old.journal) (sym r) room));
            stands = subst (λ j. Stands (bus_view j rs spent out first) first) (sym e) stands;
          },
          inl (record { entry = x; is_it = is; room = room; journal = e; shown = shows }),
        )

    written-still : k ≡ old.journal → rs ≡ old.records → out ≡ old.out → IsWritten new
    written-still ek er eo =
        let here : IsWritten (bus_view old.journal old.records spent old.out first) = record { calls = stood.1.calls; errors = stood.1.errors; trace = stood.1.trace; keep = stood.1.keep } in
        subst (λ j. IsWritten (bus_view j rs spent out first)) (sym ek) (subst (λ r. IsWritten (bus_view old.journal r spent out first)) (sym er) (subst (λ o. IsWritten (bus_view old.journal old.records spent o first)) (sym eo) here))

    right-still : k ≡ old.journal → rs ≡ old.records → Right k rs
    right-still ek er = subst (λ j. Right j rs) (sym ek) (subst (λ r. Right old.journal r) (sym er) bus.right)

    stands-refused : (fault : CoreFault) → k ≡ old.journal → rs ≡ old.records → out ≡ old.out → (fault ≡ CoreFault.Full → LacksRoom old.journal restarts) → Stands new (Some (refusal fault))
    stands-refused CoreFault.Full ek er eo full = (written-still ek er eo, subst (λ j. IsFull j ⊎ CannotRestart j) (sym ek) (full-lacks old.journal restarts (full refl)))
    stands-refused CoreFault.Memory ek er eo full = uncut new (last-put k (right-still ek er).journal) (written-still ek er eo)

    is-refusal : (fault : CoreFault) → IsRefusal (Some (refusal fault))
    is-refusal CoreFault.Full = tt
    is-refusal CoreFault.Memory = tt

    full-refusal : (fault : CoreFault) → (fault ≡ CoreFault.Full → LacksRoom old.journal restarts) → Some (refusal fault) ≡ Some BusFault.Full → LacksRoom old.journal restarts
    full-refusal CoreFault.Full full e = full refl
    full-refusal CoreFault.Memory full e = absurd (cc)

    put-refused : (fault : CoreFault) → k ≡ old.journal → rs ≡ old.records → first ≡ Some (refusal fault) → out ≡ old.out → (fault ≡ CoreFault.Full → LacksRoom old.journal restarts) → IsBus new × Puts restarts Is old new
    put-refused fault ek er ef eo full = (
      record { right = right-still ek er; room = subst IsWithin (sym ek) bus.room; stands = subst (Stands new) (sym ef) (stands-refused fault ek er eo full) },
      inr (record { refusal = subst IsRefusal (sym ef) (is-refusal fault); full = λ e. full-refusal fault full (sym ef ∙ e); journal = ek; records = er; out = eo }),
    )

    pub after-put : {T : Type 0} (put : Result T CoreFault) → OnOk put ((x : Entry) × Is x × IsPut x × (is_restart x ≡ restarts) × (k ≡ whole.put old.journal x)) → OnOk put (HasRoom old.journal restarts) → OnOk put (Right k rs)
        → OnErr put ((k ≡ old.journal) × (rs ≡ old.records)) → IfErr put (λ fault. fault ≡ CoreFault.Full → LacksRoom old.journal restarts) → OnOk put (spent ≡ false)
        → OnOk put ((before : Journal) (x : Entry) → is_again x ≡ false → k ≡ whole.put before x → Shows (texts_of rs before x) old.out first out)
        → IfErr put (λ fault. (first ≡ Some (refusal fault)) × (out ≡ old.out)) → IsBus new × Puts restarts Is old new
    after-put (Ok u) p room right stays full fresh shows err = put-ok p.0 p.1 p.2 p.3 p.4 room right fresh (shows old.journal p.0 (plain p.0 p.2) p.4)
    after-put (Err fault) p room right stays full fresh shows err = put-refused fault stays.0 stays.1 err.0 err.1 full

-- after a put that was not refused the core is not spent
pub fresh-of : {T : Type 0} (put : Result T CoreFault) (s : Bool) → (s ≡ true) ↔ (put ≡ Err CoreFault.Memory) → OnOk put (s ≡ false)
fresh-of (Ok u) true h = absurd (let e = h.0 refl in cc)
fresh-of (Ok u) false h = refl
fresh-of (Err fault) s h = tt

-- a core with the boot alone, whose texts are written as far as no fault came
pub started : (k : Journal) (rs : Records) (spent : Bool) (first : Option BusFault) (old out : Outside) (boot : Entry) → Right k rs → k ≡ boot ∷ [] → spent ≡ false
    → HasTaken [] old.calls → HasTaken [] old.errors → IfSome old.trace (HasTaken []) → Shows (texts_of rs [] boot) old first out → IsBus (bus_view k rs spent out first)
started k rs spent first old out boot right is fresh calls errors trace shows =
    let held : Held [] rs old = record { calls = calls; errors = errors; trace = trace; keep = inl refl } in
    let p = boot-put boot rs (subst (λ (j : Journal). Right j rs) is right) in
    record {
      right = right;
      room = subst IsWithin (sym is) (boot-within boot rs (subst (λ (j : Journal). Right j rs) is right));
      stands = subst (λ j. Stands (bus_view j rs spent out first) first) (p.0 ∙ sym is) (stands-more [] boot rs (First refl p.0) old out held spent first fresh shows);
    }

-- ---- what a caller learns of a put

pub puts-grow : (r : Bool) (Is : Entry → Type 0) (old after : BusView) → Puts r Is old after → OutGrows old.out after.out
puts-grow r Is old after (inl adds) = shows-grow (texts_of after.records old.journal adds.entry) old.out after.first after.out adds.shown
puts-grow r Is old after (inr refuses) = subst (OutGrows old.out) (sym refuses.out) (out-grows old.out)

no-refusal : (fault : BusFault) → (fault ≡ BusFault.Full → ⊥) → IsRefusal (Some fault) → (o o' : Outside) → HasRisen fault o o'
no-refusal (BusFault.Write zero) never is o o' = absurd is
no-refusal BusFault.Keep never is o o' = absurd is
no-refusal BusFault.Full never is o o' = absurd (never refl)
no-refusal BusFault.Memory never is o o' = inl tt

-- a fault of a put has its cause in the counts, but for a full journal
pub puts-rise : (r : Bool) (Is : Entry → Type 0) (old after : BusView) (fault : BusFault) → (fault ≡ BusFault.Full → ⊥) → Puts r Is old after → after.first ≡ Some fault → HasRisen fault old.out after.out
puts-rise r Is old after fault never (inl adds) first =
    let texts = texts_of after.records old.journal adds.entry in
    shows-rise texts old.out after.out fault (subst (λ f. Shows texts old.out f after.out) first adds.shown)
puts-rise r Is old after fault never (inr refuses) first = no-refusal fault never (subst IsRefusal first refuses.refusal) old.out after.out

-- where there was no room nothing was put
pub puts-full : (r : Bool) (Is : Entry → Type 0) (old after : BusView) → Puts r Is old after → after.first ≡ Some BusFault.Full → Refuses r old after
puts-full r Is old after (inl adds) first =
    let texts = texts_of after.records old.journal adds.entry in
    absurd (full-cause old.out after.out (shows-rise texts old.out after.out BusFault.Full (subst (λ f. Shows texts old.out f after.out) first adds.shown)))
puts-full r Is old after (inr refuses) first = refuses

-- after any put the keeper holds the store's text of the journal before or after it, if it held that before
pub puts-keep : (r : Bool) (Is : Entry → Type 0) → ((x : Entry) → Is x → IsPut x) → (old after : BusView) → AreEntries old.journal → HoldsStore old.journal old.out.keep → Puts r Is old after
    → HoldsStore old.journal after.out.keep ⊎ HoldsStore after.journal after.out.keep
puts-keep r Is puts old after entries held (inl adds) =
    by (store-part old.journal adds.entry after.records entries (puts adds.entry adds.is_it) old.out after.out held after.first adds.shown)
  where
    by : HoldsStore old.journal after.out.keep ⊎ HoldsStore (put old.journal adds.entry) after.out.keep → HoldsStore old.journal after.out.keep ⊎ HoldsStore after.journal after.out.keep
    by (inl h) = inl h
    by (inr h) = inr (subst (λ j. HoldsStore j after.out.keep) (sym adds.journal) h)
puts-keep r Is puts old after entries held (inr refuses) = inl (subst (λ o. HoldsStore old.journal o.keep) (sym refuses.out) held)

-- a bus that keeps want of memory, of which nothing was written
pub ran-out : (b : BusView) → IsBus b → b.first ≡ None → IsBus (bus_view b.journal b.records b.is_spent b.out (Some BusFault.Memory))
ran-out b bus is_open =
    let stood : Stands b None = subst (Stands b) is_open bus.stands in
    let spent : BusView = bus_view b.journal b.records b.is_spent b.out (Some BusFault.Memory) in
    let written : IsWritten spent = record { calls = stood.1.calls; errors = stood.1.errors; trace = stood.1.trace; keep = stood.1.keep } in
    record { right = bus.right; room = bus.room; stands = uncut spent (last-put b.journal bus.right.journal) written }
