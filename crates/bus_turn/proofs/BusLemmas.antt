-- A bus stays one with each put.
use Rattle.std.proofs.Common.{◌≡◌, ◌∙◌, ◌⊎◌, inl, inr, refl, sym, subst, [], ◌∷◌, Bool, true, false}
use Rattle.std.specs.Prelude.{Option, Some, None, IfSome, if◌then◌else◌}
use Rattle.ha_io.specs.Told.{told_as}
use Rattle.ha_journal.specs.declared.entry.Entry.{Entry}
use Rattle.ha_config.specs.Words.{Text}
use Rattle.ha_journal.specs.Journal.{Journal}
use Rattle.ha_model.specs.Records.{Records}
use Rattle.ha_journal.specs.EntryText.{error_text}
use Rattle.ha_whole.specs.Trace.{call_text, trace_text}
use Rattle.ha_whole.specs.Whole.{AreEntries, changes_store, put, store_text}
use Rattle.whole_laws.specs.Puts.{IsPut}
use Rattle.whole_laws.proofs.StoreLemmas.{store-stays}
use Rattle.whole_laws.proofs.TextLemmas.{calls-put, errors-put, trace-put}
use Rattle.bus_turn.specs.declared.fault.BusFault.{BusFault}
use Rattle.bus_turn.specs.States.{KeeperState, Outside}
use Rattle.bus_turn.specs.Writes.{EntryTexts, Saves, Shows, Writes, WritesIn}
use Rattle.bus_turn.specs.Shown.{BusView, bus_view, texts_of}
use Rattle.bus_turn.specs.Buses.{HasTaken, HasTakenFront, HoldsStore, IsCut, IsWritten, Stands}
use Rattle.bus_turn.proofs.GrowthLemmas.{full-cause, keep-cause, shows-rise, write-cause}
use Rattle.bus_turn.proofs.SinkLemmas.{stays-front, stays-in-front, took-in-more, took-more, writes-front, writes-in-front}

-- what is written before a put, by the records after it; before the boot nothing is said of the keeper
pub record Held (before : Journal) (rs : Records) (out : Outside) : Type 0 where
  pub calls : HasTaken (call_text before rs) out.calls
  pub errors : HasTaken (error_text before) out.errors
  pub trace : IfSome out.trace (HasTaken (trace_text before false))
  pub keep : (before ≡ []) ⊎ HoldsStore before out.keep

-- the put is of the boot, or of a line or step behind entries
pub data IsPutTo (before : Journal) (x : Entry) : Type 0 where
  First : before ≡ [] → put [] x ≡ x ∷ [] → IsPutTo before x
  Later : AreEntries before → IsPut x → IsPutTo before x

module _ (before : Journal) (x : Entry) (rs : Records) (to : IsPutTo before x) where
  abbrev now : Journal
  now = put before x

  abbrev texts : EntryTexts
  texts = texts_of rs before x

  module _ (out out' : Outside) where
    module _ (had : (before ≡ []) ⊎ HoldsStore before out.keep) where
      -- ---- the keeper

      told-now : (told kept : Option (Option Text)) → kept ≡ told_as told (Some (store_text now)) → IfSome kept (λ t. t ≡ Some (store_text now))
      told-now None kept e = subst (λ o. IfSome o (λ t. t ≡ Some (store_text now))) (sym e) tt
      told-now (Some w) kept e = subst (λ o. IfSome o (λ t. t ≡ Some (store_text now))) (sym e) refl

      -- the put of the boot changes the store
      not-first : changes_store now ≡ false → before ≡ [] → ⊥
      not-first stays e = by to
        where
          by : IsPutTo before x → ⊥
          by (First none is) =
              let f : changes_store (x ∷ []) ≡ false = (λ i. changes_store (sym is i)) ∙ (λ i. changes_store (put (sym none i) x)) ∙ stays in absurd (cc)
          by (Later entries p) = subst AreEntries e entries

      held-on : changes_store now ≡ false → (k : KeeperState) → k ≡ out.keep → HoldsStore now k
      held-on stays k e = by had
        where
          same : store_text now ≡ store_text before
          same = of to
            where
              of : IsPutTo before x → store_text now ≡ store_text before
              of (First none is) = absurd (not-first stays none)
              of (Later entries p) = store-stays before x p stays

          by : (before ≡ []) ⊎ HoldsStore before out.keep → HoldsStore now k
          by (inl none) = absurd (not-first stays none)
          by (inr h) = subst (HoldsStore now) (sym e) (subst (λ t. IfSome out.keep.kept (λ s. s ≡ Some t)) (sym same) h)

      saved-all : (b : Bool) → changes_store now ≡ b → Saves (if b then Some (store_text now) else None) out.keep None out'.keep → HoldsStore now out'.keep
      saved-all true c w = told-now out.keep.kept out'.keep.kept w.kept
      saved-all false c w = held-on c out'.keep w

      abbrev KeptOne : Type 0
      KeptOne = (before ≡ []) ⊎ (HoldsStore before out'.keep ⊎ HoldsStore now out'.keep)

      kept-stays : out'.keep ≡ out.keep → KeptOne
      kept-stays e = by had
        where
          by : (before ≡ []) ⊎ HoldsStore before out.keep → KeptOne
          by (inl none) = inl none
          by (inr h) = inr (inl (subst (HoldsStore before) (sym e) h))

      saved-part : (b : Bool) (fault : BusFault) → Saves (if b then Some (store_text now) else None) out.keep (Some fault) out'.keep → KeptOne
      saved-part true fault w = either w.0.kept
        where
          stayed : out'.keep.kept ≡ out.keep.kept → (before ≡ []) ⊎ HoldsStore before out.keep → KeptOne
          stayed e (inl none) = inl none
          stayed e (inr h) = inr (inl (subst (λ o. IfSome o (λ t. t ≡ Some (store_text before))) (sym e) h))

          either : (out'.keep.kept ≡ out.keep.kept) ⊎ (out'.keep.kept ≡ told_as out.keep.kept (Some (store_text now))) → KeptOne
          either (inl e) = stayed e had
          either (inr e) = inr (inr (told-now out.keep.kept out'.keep.kept e))
      saved-part false fault w = absurd w

      pub kept-one : (first : Option BusFault) → Shows texts out first out' → KeptOne
      kept-one None w = inr (inr (saved-all (changes_store now) refl w.3))
      kept-one (Some fault) (inl w) = kept-stays w.3
      kept-one (Some fault) (inr (inl w)) = kept-stays w.3
      kept-one (Some fault) (inr (inr (inl w))) = kept-stays w.3
      kept-one (Some fault) (inr (inr (inr w))) = saved-part (changes_store now) fault w.3

    module _ (held : Held before rs out) where
      -- ---- each sink

      calls-whole : Writes texts.calls out.calls None out'.calls → HasTaken (call_text now rs) out'.calls
      calls-whole w = subst (λ t. HasTaken t out'.calls) (sym (calls-put before x rs)) (took-more (call_text before rs) texts.calls out.calls out'.calls held.calls w)

      errors-whole : Writes texts.errors out.errors None out'.errors → HasTaken (error_text now) out'.errors
      errors-whole w = subst (λ t. HasTaken t out'.errors) (sym (errors-put before x)) (took-more (error_text before) texts.errors out.errors out'.errors held.errors w)

      trace-whole : WritesIn texts.trace out.trace None out'.trace → IfSome out'.trace (HasTaken (trace_text now false))
      trace-whole w = subst (λ t. IfSome out'.trace (HasTaken t)) (sym (trace-put before x)) (took-in-more (trace_text before false) texts.trace out.trace out'.trace held.trace w)

      calls-front : (fault : Option BusFault) → Writes texts.calls out.calls fault out'.calls → HasTakenFront (call_text before rs) (call_text now rs) out'.calls
      calls-front fault w = subst (λ t. HasTakenFront (call_text before rs) t out'.calls) (sym (calls-put before x rs)) (writes-front (call_text before rs) texts.calls out.calls fault out'.calls held.calls w)

      errors-front : (fault : Option BusFault) → Writes texts.errors out.errors fault out'.errors → HasTakenFront (error_text before) (error_text now) out'.errors
      errors-front fault w = subst (λ t. HasTakenFront (error_text before) t out'.errors) (sym (errors-put before x)) (writes-front (error_text before) texts.errors out.errors fault out'.errors held.errors w)

      errors-stay : out'.errors ≡ out.errors → HasTakenFront (error_text before) (error_text now) out'.errors
      errors-stay e = subst (λ t. HasTakenFront (error_text before) t out'.errors) (sym (errors-put before x)) (stays-front (error_text before) texts.errors out.errors out'.errors held.errors e)

      trace-front : (fault : Option BusFault) → WritesIn texts.trace out.trace fault out'.trace → IfSome out'.trace (HasTakenFront (trace_text before false) (trace_text now false))
      trace-front fault w = subst (λ t. IfSome out'.trace (HasTakenFront (trace_text before false) t)) (sym (trace-put before x)) (writes-in-front (trace_text before false) texts.trace out.trace fault out'.trace held.trace w)

      trace-stays : out'.trace ≡ out.trace → IfSome out'.trace (HasTakenFront (trace_text before false) (trace_text now false))
      trace-stays e = subst (λ t. IfSome out'.trace (HasTakenFront (trace_text before false) t)) (sym (trace-put before x)) (stays-in-front (trace_text before false) texts.trace out.trace out'.trace held.trace e)

      -- ---- all

      module _ (spent : Bool) where
        abbrev shown : Option BusFault → BusView
        shown first = bus_view now rs spent out' first

        written : (first : Option BusFault) → Shows texts out None out' → IsWritten (shown first)
        written first w = record { calls = calls-whole w.0; errors = errors-whole w.1; trace = trace-whole w.2; keep = saved-all held.keep (changes_store now) refl w.3 }

        cut : (first : Option BusFault) (fault : BusFault) → Shows texts out (Some fault) out' → IsCut (shown first)
        cut first fault (inl w) = record {
          before = before;
          last = x;
          is = refl;
          calls = calls-front (Some fault) w.0;
          errors = errors-stay w.1;
          trace = trace-stays w.2;
          keep = kept-stays held.keep w.3;
        }
        cut first fault (inr (inl w)) = record {
          before = before;
          last = x;
          is = refl;
          calls = calls-front None w.0;
          errors = errors-front (Some fault) w.1;
          trace = trace-stays w.2;
          keep = kept-stays held.keep w.3;
        }
        cut first fault (inr (inr (inl w))) = record {
          before = before;
          last = x;
          is = refl;
          calls = calls-front None w.0;
          errors = errors-front None w.1;
          trace = trace-front (Some fault) w.2;
          keep = kept-stays held.keep w.3;
        }
        cut first fault (inr (inr (inr w))) = record {
          before = before;
          last = x;
          is = refl;
          calls = calls-front None w.0;
          errors = errors-front None w.1;
          trace = trace-front None w.2;
          keep = saved-part held.keep (changes_store now) fault w.3;
        }

        pub stands-more : (first : Option BusFault) → spent ≡ false → Shows texts out first out' → Stands (shown first) first
        stands-more None fresh w = (fresh, written None w)
        stands-more (Some BusFault.Full) fresh w = absurd (full-cause out out' (shows-rise texts out out' BusFault.Full w))
        stands-more (Some (BusFault.Write zero)) fresh w =
            (cut (Some (BusFault.Write zero)) (BusFault.Write zero) w, write-cause zero out out' (shows-rise texts out out' (BusFault.Write zero) w))
        stands-more (Some BusFault.Keep) fresh w = (cut (Some BusFault.Keep) BusFault.Keep w, keep-cause out out' (shows-rise texts out out' BusFault.Keep w))
        stands-more (Some BusFault.Memory) fresh w = cut (Some BusFault.Memory) BusFault.Memory w

-- what the keeper holds after a put's texts, where it held the store's text before
pub store-part : (before : Journal) (x : Entry) (rs : Records) → AreEntries before → IsPut x → (out out' : Outside) → HoldsStore before out.keep → (first : Option BusFault)
    → Shows (texts_of rs before x) out first out' → HoldsStore before out'.keep ⊎ HoldsStore (put before x) out'.keep
store-part before x rs entries p out out' held first shows = by (kept-one before x rs (Later entries p) out out' (inr held) first shows)
  where
    some : (j : Journal) → AreEntries j → j ≡ [] → ⊥
    some [] h e = h
    some (y ∷ j) h e = cc

    by : (before ≡ []) ⊎ (HoldsStore before out'.keep ⊎ HoldsStore (put before x) out'.keep) → HoldsStore before out'.keep ⊎ HoldsStore (put before x) out'.keep
    by (inl none) = absurd (some before entries none)
    by (inr h) = h
