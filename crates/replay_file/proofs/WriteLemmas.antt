-- What is written of the last entry.
use Rattle.std.proofs.Common.{◌≡◌, ◌∙◌, ap, sym, subst, refl, ℕ, ◌-◌, ◌≤◌, inl, inr, length, true, false, arith}
use Rattle.std.proofs.Math.Seq.{take-length}
use Rattle.std.specs.Prelude.{◌⊎◌, Option, Some, None, slice_get}
use Rattle.ha_io.specs.Told.{Takes}
use Rattle.ha_io.proofs.ToldLemmas.{Takes-nothing}
use Rattle.ha_journal.specs.declared.entry.Entry.{Entry}
use Rattle.ha_config.specs.Words.{Text}
use Rattle.ha_journal.specs.Journal.{Journal, more}
use Rattle.ha_model.specs.Records.{Records}
use Rattle.ha_journal.specs.EntryText.{error_text_of}
use Rattle.ha_config.proofs.ListLemmas.{none-some, some-same}
use Rattle.bus_turn.specs.declared.fault.BusFault.{BusFault}
use Rattle.bus_turn.specs.States.{SinkState}
use Rattle.bus_turn.specs.Writes.{SinkCause, Took, TookFront, Writes}
use Rattle.bus_turn.proofs.LastLemmas.{last-is}
use Rattle.ha_status.specs.declared.status.Status.{Status}
use Rattle.ha_status.specs.Causes.{NeverFall, OneRose, WriteCause}
use Rattle.ha_io.proofs.CountLemmas.{Rose-within}
use Rattle.ha_status.proofs.CauseLemmas.{wider_write}
use Rattle.ha_replay.specs.Traces.{Reached, Takes as TakesEntry, told}
use Rattle.replay_file.specs.Steps.{IfWrite, WritesBoth}
use Rattle.replay_file.proofs.ToldLemmas.{last_gives}
use Rattle.ha_whole.specs.Trace.{call_text_of}

-- ---- one sink

nothing_taken : (text : Text) (s : SinkState) → TookFront text s s
nothing_taken text s = record { front = (0, (omega arith, Takes-nothing s.took)); faults_stay = omega arith; zeros_stay = omega arith; same_name = refl }

all_taken : (text : Text) (s s' : SinkState) → Took text s s' → TookFront text s s'
all_taken text s s' t = record {
  front = (length text, (omega arith, subst (λ z. Takes s.took z s'.took) (sym (take-length text)) t.took));
  faults_stay = t.faults_stay;
  zeros_stay = t.zeros_stay;
  same_name = t.same_name;
}

-- ---- the last entry

last_entry : (k seen before : Journal) (x entry : Entry) → k ≡ more before x → seen ≡ k → Some entry ≡ slice_get seen (length seen - 1) → entry ≡ x
last_entry k seen before x entry is same last =
    some-same entry x (last ∙ (λ i. slice_get ((same ∙ is) i) (length ((same ∙ is) i) - 1)) ∙ last-is before x)

-- a journal with an entry has a last one
pub has_last : (k seen before : Journal) (x : Entry) → k ≡ more before x → seen ≡ k → None ≡ slice_get seen (length seen - 1) → ⊥
has_last k seen before x is same last =
    none-some x (last ∙ (λ i. slice_get ((same ∙ is) i) (length ((same ∙ is) i) - 1)) ∙ last-is before x)

-- ---- both texts

module _ (k seen before : Journal) (x entry : Entry) (rs : Records) (is : k ≡ more before x) (same : seen ≡ k) (last : Some entry ≡ slice_get seen (length seen - 1)) where
  abbrev one : entry ≡ x
  one = last_entry k seen before x entry is same last

  call_of : (o o' : SinkState) (f : Option BusFault) → ((b : Journal) → k ≡ more b entry → Writes (call_text_of rs b entry) o f o') → Writes (call_text_of rs before x) o f o'
  call_of o o' f w = subst (λ y. Writes (call_text_of rs before y) o f o') one (w before (is ∙ ap (more before) (sym one)))

  -- the call was not written
  pub call_unwritten : (o o' e : SinkState) (fault : BusFault) → ((b : Journal) → k ≡ more b entry → Writes (call_text_of rs b entry) o (Some fault) o')
      → WritesBoth (call_text_of rs before x) (error_text_of x) o e (Some fault) o' e
  call_unwritten o o' e fault w = let c = call_of o o' (Some fault) w in (c.0, nothing_taken (error_text_of x) e, inl c.1)

  -- the call was written, and the error perhaps
  pub call_written : (o o' e e' : SinkState) (f : Option BusFault) → ((b : Journal) → k ≡ more b entry → Writes (call_text_of rs b entry) o None o') → Writes (error_text_of entry) e f e'
      → WritesBoth (call_text_of rs before x) (error_text_of x) o e f o' e'
  call_written o o' e e' f w v = by f (call_of o o' None w) (subst (λ y. Writes (error_text_of y) e f e') one v)
    where
      by : (f : Option BusFault) → Took (call_text_of rs before x) o o' → Writes (error_text_of x) e f e' → WritesBoth (call_text_of rs before x) (error_text_of x) o e f o' e'
      by None c d = (c, d)
      by (Some fault) c d = (all_taken (call_text_of rs before x) o o' c, d.0, inr d.1)

-- ---- both texts of a line that was taken

-- no count of the sinks falls, and their names stay
pub record BothStay (o e o' e' : SinkState) : Type 0 where
  pub out_counts : NeverFall o.faults o'.faults o.zeros o'.zeros
  pub err_counts : NeverFall e.faults e'.faults e.zeros e'.zeros
  pub out_name : o'.name ≡ o.name
  pub err_name : e'.name ≡ e.name

both_stay : (calls errors : Text) (o e o' e' : SinkState) (f : Option BusFault) → WritesBoth calls errors o e f o' e' → BothStay o e o' e'
both_stay calls errors o e o' e' None w = record {
  out_counts = record { faults_stay = w.0.faults_stay; zeros_stay = w.0.zeros_stay };
  err_counts = record { faults_stay = w.1.faults_stay; zeros_stay = w.1.zeros_stay };
  out_name = w.0.same_name;
  err_name = w.1.same_name;
}
both_stay calls errors o e o' e' (Some fault) w = record {
  out_counts = record { faults_stay = w.0.faults_stay; zeros_stay = w.0.zeros_stay };
  err_counts = record { faults_stay = w.1.faults_stay; zeros_stay = w.1.zeros_stay };
  out_name = w.0.same_name;
  err_name = w.1.same_name;
}

module _ (line : Text) (r r' : Reached) (t : TakesEntry line r r') (o e o' e' : SinkState) (f : Option BusFault)
    (w : (before : Journal) (x : Entry) → r'.journal ≡ more before x → WritesBoth (call_text_of r'.records before x) (error_text_of x) o e f o' e') where
  -- what is written of the last entry is that of the entry whose line it is
  pub written : WritesBoth (call_text_of r'.records (told r) t.entry) (error_text_of t.entry) o e f o' e'
  written =
      let gives = last_gives r' (told r) t.entry t.stands t.journal in
      subst (λ z. WritesBoth (call_text_of r'.records (told r) t.entry) z o e f o' e') gives.errors
      (subst (λ z. WritesBoth z (error_text_of gives.entry) o e f o' e') gives.calls (w gives.before gives.entry gives.is))

  pub stay : BothStay o e o' e'
  stay = both_stay (call_text_of r'.records (told r) t.entry) (error_text_of t.entry) o e o' e' f written

-- why a text was not written
pub cause_of : (o e o' e' : SinkState) (fault : BusFault) (s : Status) → IfWrite s fault → SinkCause fault o o' ⊎ SinkCause fault e e'
    → WriteCause (OneRose o.faults o'.faults e.faults e'.faults) (OneRose o.zeros o'.zeros e.zeros e'.zeros) s
cause_of o e o' e' fault (Status.WriteFault false) is cause = subst (λ (z : BusFault). SinkCause z o o' ⊎ SinkCause z e e') is cause
cause_of o e o' e' fault (Status.WriteFault true) is cause = subst (λ (z : BusFault). SinkCause z o o' ⊎ SinkCause z e e') is cause
cause_of o e o' e' fault Status.Ok is cause = tt
cause_of o e o' e' fault Status.Usage is cause = tt
cause_of o e o' e' fault (Status.ConfigRefused line code) is cause = tt
cause_of o e o' e' fault (Status.OpenFault name) is cause = tt
cause_of o e o' e' fault (Status.ReadFault source) is cause = tt
cause_of o e o' e' fault Status.KeepFault is cause = tt
cause_of o e o' e' fault Status.JournalFull is cause = tt
cause_of o e o' e' fault (Status.SourceTooLong source) is cause = tt
cause_of o e o' e' fault (Status.StoreRefused code) is cause = tt
cause_of o e o' e' fault (Status.TraceRefused line) is cause = tt
cause_of o e o' e' fault Status.Memory is cause = tt

-- ---- longer times

pub rose_within : (f f' f'' g g' g'' : ℕ) → f ≤ f' → g ≤ g' → OneRose f' f'' g' g'' → OneRose f f'' g g''
rose_within f f' f'' g g' g'' low less (inl rose) = inl (Rose-within f f' f'' f'' low rose (omega arith))
rose_within f f' f'' g g' g'' low less (inr rose) = inr (Rose-within g g' g'' g'' less rose (omega arith))

-- a cause in a later time is one in the whole
pub cause_later : (s : Status) (f f' f'' g g' g'' z z' z'' y y' y'' : ℕ) → NeverFall f f' z z' → NeverFall g g' y y' → WriteCause (OneRose f' f'' g' g'') (OneRose z' z'' y' y'') s
    → WriteCause (OneRose f f'' g g'') (OneRose z z'' y y'') s
cause_later s f f' f'' g g' g'' z z' z'' y y' y'' a b = wider_write _ _ _ _ s (rose_within f f' f'' g g' g'' a.faults_stay b.faults_stay) (rose_within z z' z'' y y' y'' a.zeros_stay b.zeros_stay)

rose_longer : (f f' g g' g'' : ℕ) → g' ≤ g'' → OneRose f f' g g' → OneRose f f' g g''
rose_longer f f' g g' g'' high (inl rose) = inl rose
rose_longer f f' g g' g'' high (inr rose) = inr (Rose-within g g g' g'' (omega arith) rose high)

-- and one before the status line is written, too
pub cause_before : (s : Status) (f f' g g' g'' z z' y y' y'' : ℕ) → NeverFall g' g'' y' y'' → WriteCause (OneRose f f' g g') (OneRose z z' y y') s → WriteCause (OneRose f f' g g'') (OneRose z z' y y'') s
cause_before s f f' g g' g'' z z' y y' y'' b = wider_write _ _ _ _ s (rose_longer f f' g g' g'' b.faults_stay) (rose_longer z z' y y' y'' b.zeros_stay)

-- no cause is any cause
pub cause_none : (s : Status) (A B : Type 0) → WriteCause ⊥ ⊥ s → WriteCause A B s
cause_none s A B w = wider_write ⊥ ⊥ A B s (λ never. absurd never) (λ never. absurd never) w
