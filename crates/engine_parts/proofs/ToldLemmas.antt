-- Where called runs ended as far as it is told, where an entry comes and its records are told.
use Rattle.std.proofs.Common.{◌≡◌, ℕ, suc, ◌+◌, ◌<◌, ◌≤◌, [], ◌∷◌, ◌++◌, length, Bool, true, false, refl, sym, ap, subst, ◌∙◌, rules, arith, true≢false}
use Rattle.std.proofs.Math.Path.{fun_ext}
use Rattle.std.specs.Prelude.{Option, Some, None, ◌&&◌, ◌||◌, nat_eq, nat_lt, nat_le, if◌then◌else◌}
use Rattle.std.specs.Option.{option_map_or}
use Rattle.ha_config.specs.Words.{or_else}
use Rattle.ha_journal.specs.declared.entry.Entry.{Entry}
use Rattle.ha_journal.specs.Journal.{Journal, last_place, more}
use Rattle.ha_journal.proofs.MoreLemmas.{length-more}
use Rattle.ha_model.specs.declared.record.Record.{Record}
use Rattle.ha_model.specs.Records.{Records, call_end, records_of}
use Rattle.ha_ready.specs.ReadyPairs.{ends_at}
use Rattle.ha_ready.specs.RunPast.{AllPast}
use Rattle.run_modes.specs.Fits.{AreNumbered}
use Rattle.engine_parts.specs.Called.{Alike, AreAlike, called_by, ended_in, place_of, run_at, told_after, told_by}
use Rattle.engine_parts.specs.Kept.{Gone, nobody}
use Rattle.engine_parts.specs.Records.{AreEnded, EndsIf, also}

or-none : (o : Option ℕ) → or_else o None ≡ o
or-none None = refl
or-none (Some n) = refl

pub apart : (a b : ℕ) → (a ≡ b → ⊥) → nat_eq a b ≡ false
apart a b h = search (rules, h)

pub self : (a b : ℕ) → a ≡ b → nat_eq a b ≡ true
self a b e = search (rules, e)

pub eq-of : (a b : ℕ) → nat_eq a b ≡ true → a ≡ b
eq-of a b e = search (rules, e)

pub none-some : {X : Type 0} (x : X) → None ≡ Some x → ⊥
none-some {X} x e = (let bad : ◌≡◌ {A = Option X} None (Some x) = e in cc)

-- ---- the first run of a place

pub none-there : (n : ℕ) (rs : Records) → AllPast n rs → run_at n rs ≡ None
none-there n [] h = refl
none-there n (r ∷ rs) h = (λ i. if apart r.place n (λ e. omega (arith, e, h.0.place)) i then Some r else run_at n rs) ∙ none-there n rs h.1

-- its serial is one of theirs
pub found-within : (p n : ℕ) (rs : Records) (r : Record) → AreNumbered n rs → run_at p rs ≡ Some r → (n < r.serial) × (r.serial ≤ n + length rs)
found-within p n [] r num e = absurd (none-some r e)
found-within p n (y ∷ rs) r num e = by (nat_eq y.place p) e (λ later. found-within p (suc n) rs r num.1 later)
  where
    by : (c : Bool) → (if c then Some y else run_at p rs) ≡ Some r → (run_at p rs ≡ Some r → (suc n < r.serial) × (r.serial ≤ suc n + length rs)) → (n < r.serial) × (r.serial ≤ n + suc (length rs))
    by true is rec = (let same : y ≡ r = cc in let own : y.serial ≡ r.serial = ap (λ (z : Record). z.serial) same in (omega (arith, own, num.0), omega (arith, own, num.0)))
    by false is rec = (let later = rec is in (omega (arith, later.0), omega (arith, later.1)))

-- ---- where called runs ended

-- LAW: of what was called before the entry, the records before it tell
pub told-first : (j : Journal) (x : Entry) (rs : Records) → rs ≡ records_of j → (p : ℕ) → p < length j → told_by nobody (more j x) rs p ≡ ends_at j p
told-first j x rs is p lt =
    (λ i. option_map_or (ended_in nobody (more j x)) (run_at p rs) (if off i then None else Some p))
    ∙ by (run_at p rs)
    ∙ ap (λ (l : Records). call_end l p) is
  where
    off : nat_eq p (last_place (more j x)) ≡ false
    off = apart p (last_place (more j x)) (λ e. omega (arith, e, lt, length-more j x))

    by : (o : Option Record) → option_map_or (ended_in nobody (more j x)) o (Some p) ≡ option_map_or (λ (r : Record). place_of r.end) o (Some p)
    by None = refl
    by (Some r) = or-none (place_of r.end)

-- LAW: of what it calls itself nothing is told
pub told-last : (j : Journal) (x : Entry) (rs : Records) → AllPast (length j) rs → told_by nobody (more j x) rs (length j) ≡ None
told-last j x rs past =
    (λ i. option_map_or (ended_in nobody (more j x)) (none-there (length j) rs past i) (if on i then None else Some (length j)))
  where
    on : nat_eq (length j) (last_place (more j x)) ≡ true
    on = self (length j) (last_place (more j x)) (omega (arith, length-more j x))

-- LAW: and it is the next run
pub called-last : (j : Journal) (rs : Records) → AllPast (length j) rs → called_by rs (length j) ≡ suc (length rs)
called-last j rs past = (λ i. option_map_or (λ (r : Record). r.serial) (none-there (length j) rs past i) (suc (length rs)))

-- LAW: where one run more went, its end is told
pub told-also : (gone : Gone) (k : Journal) (rs : Records) (s : ℕ) → s ≤ length rs → told_by (also gone s) k rs ≡ told_after s (last_place k) (told_by gone k rs) rs
told-also gone k rs s le = fun_ext (λ p. by p (run_at p rs))
  where
    none : (c d : Bool) (p : ℕ) → d ≡ false → (if c then None else Some p) ≡ or_else (if c then None else Some p) (if d then Some (last_place k) else None)
    none true d p e = (λ i. or_else None (if sym e i then Some (last_place k) else None))
    none false d p e = refl

    one : (e : Option ℕ) (c d : Bool) → or_else e (if c || d then Some (last_place k) else None) ≡ or_else (or_else e (if c then Some (last_place k) else None)) (if d then Some (last_place k) else None)
    one (Some n) c d = refl
    one None true d = refl
    one None false true = refl
    one None false false = refl

    by : (p : ℕ) (o : Option Record) → option_map_or (ended_in (also gone s) k) o (if nat_eq p (last_place k) then None else Some p)
        ≡ or_else (option_map_or (ended_in gone k) o (if nat_eq p (last_place k) then None else Some p)) (if nat_eq (option_map_or (λ (r : Record). r.serial) o (suc (length rs))) s then Some (last_place k) else None)
    by p None = none (nat_eq p (last_place k)) (nat_eq (suc (length rs)) s) p (apart (suc (length rs)) s (λ e. omega (arith, e, le)))
    by p (Some r) = one (place_of r.end) (gone r.serial) (nat_eq r.serial s)

-- LAW: where the run that was called last has no record, it is as if it had ended there: so all is told
pub told-whole : (k : Journal) (rs : Records) → AreNumbered 0 rs → told_after (suc (length rs)) (last_place k) (told_by nobody k rs) rs ≡ call_end rs
told-whole k rs num = fun_ext (λ p. by p (run_at p rs) refl)
  where
    none : (c d : Bool) (p : ℕ) → (c ≡ true → p ≡ last_place k) → d ≡ true → or_else (if c then None else Some p) (if d then Some (last_place k) else None) ≡ Some p
    none true d p at e = (λ i. or_else None (if e i then Some (last_place k) else None)) ∙ ap Some (sym (at refl))
    none false d p at e = refl

    by : (p : ℕ) (o : Option Record) → run_at p rs ≡ o
        → or_else (option_map_or (ended_in nobody k) o (if nat_eq p (last_place k) then None else Some p)) (if nat_eq (option_map_or (λ (r : Record). r.serial) o (suc (length rs))) (suc (length rs)) then Some (last_place k) else None)
        ≡ option_map_or (λ (r : Record). place_of r.end) o (Some p)
    by p None e = none (nat_eq p (last_place k)) (nat_eq (suc (length rs)) (suc (length rs))) p (λ h. eq-of p (last_place k) h) (self (suc (length rs)) (suc (length rs)) refl)
    by p (Some r) e =
        (λ i. or_else (or_else (place_of r.end) None) (if apart r.serial (suc (length rs)) (λ same. omega (arith, same, (found-within p 0 rs r num e).1)) i then Some (last_place k) else None))
        ∙ or-none (or_else (place_of r.end) None)
        ∙ or-none (place_of r.end)

-- ---- records that are told anew

abbrev pub BothFound : Gone → ℕ → Option Record → Option Record → Type 0
BothFound gone q None None = Unit {0}
BothFound gone q None (Some r') = ⊥
BothFound gone q (Some r) None = ⊥
BothFound gone q (Some r) (Some r') = Alike gone q r r'

found-alike : (gone : Gone) (q p : ℕ) (rs rs' : Records) → AreAlike gone q rs rs' → BothFound gone q (run_at p rs) (run_at p rs')
found-alike gone q p [] [] h = tt
found-alike gone q p [] (r' ∷ rs') h = absurd h
found-alike gone q p (r ∷ rs) [] h = absurd h
found-alike gone q p (r ∷ rs) (r' ∷ rs') h =
    subst (λ n. BothFound gone q (if nat_eq r.place p then Some r else run_at p rs) (if nat_eq n p then Some r' else run_at p rs')) h.0.place
    (by (nat_eq r.place p) (found-alike gone q p rs rs' h.1))
  where
    by : (c : Bool) → BothFound gone q (run_at p rs) (run_at p rs') → BothFound gone q (if c then Some r else run_at p rs) (if c then Some r' else run_at p rs')
    by true later = h.0
    by false later = later

alike-length : (gone : Gone) (q : ℕ) (rs rs' : Records) → AreAlike gone q rs rs' → length rs ≡ length rs'
alike-length gone q [] [] h = refl
alike-length gone q [] (r' ∷ rs') h = absurd h
alike-length gone q (r ∷ rs) [] h = absurd h
alike-length gone q (r ∷ rs) (r' ∷ rs') h = ap suc (alike-length gone q rs rs' h.1)

-- LAW: the ends that were promised are told
pub told-alike : (gone : Gone) (k : Journal) (rs rs' : Records) → AreAlike gone (last_place k) rs rs' → told_by gone k rs ≡ told_by nobody k rs'
told-alike gone k rs rs' h = fun_ext (λ p. by p (run_at p rs) (run_at p rs') (found-alike gone (last_place k) p rs rs' h))
  where
    by : (p : ℕ) (o o' : Option Record) → BothFound gone (last_place k) o o'
        → option_map_or (ended_in gone k) o (if nat_eq p (last_place k) then None else Some p) ≡ option_map_or (ended_in nobody k) o' (if nat_eq p (last_place k) then None else Some p)
    by p None None both = refl
    by p None (Some r') both = absurd both
    by p (Some r) None both = absurd both
    by p (Some r) (Some r') both = sym both.ends ∙ sym (or-none (place_of r'.end))

pub called-alike : (gone : Gone) (q : ℕ) (rs rs' : Records) → AreAlike gone q rs rs' → (p : ℕ) → called_by rs p ≡ called_by rs' p
called-alike gone q rs rs' h p = by (run_at p rs) (run_at p rs') (found-alike gone q p rs rs' h)
  where
    by : (o o' : Option Record) → BothFound gone q o o' → option_map_or (λ (r : Record). r.serial) o (suc (length rs)) ≡ option_map_or (λ (r : Record). r.serial) o' (suc (length rs'))
    by None None both = ap suc (alike-length gone q rs rs' h)
    by None (Some r') both = absurd both
    by (Some r) None both = absurd both
    by (Some r) (Some r') both = both.serial

-- LAW: runs that went end alike
pub ended-alike : (gone : Gone) (q : ℕ) (rs rs' : Records) → AreEnded gone q rs rs' → AreAlike gone q rs rs'
ended-alike gone q [] [] h = tt
ended-alike gone q [] (r' ∷ rs') h = absurd h
ended-alike gone q (r ∷ rs) [] h = absurd h
ended-alike gone q (r ∷ rs) (r' ∷ rs') h = (one (gone r.serial) refl h.0, ended-alike gone q rs rs' h.1)
  where
    one : (b : Bool) → gone r.serial ≡ b → EndsIf b q r r' → Alike gone q r r'
    one true e h = record {
      serial = h.0.serial;
      place = h.1;
      ends = h.2 ∙ (λ i. or_else (place_of r.end) (if sym e i then Some q else None));
      runs = λ n off. absurd (true≢false (sym e ∙ off));
    }
    one false e h = record {
      serial = h.0.script.serial;
      place = h.1;
      ends = (λ i. place_of (sym h.0.end i)) ∙ sym (or-none (place_of r.end)) ∙ (λ i. or_else (place_of r.end) (if sym e i then Some q else None));
      runs = λ n off run. sym (λ i. option_map_or (λ b. nat_lt b n) (h.0.begin i) false && option_map_or (λ x. nat_le n x.0) (h.0.end i) true) ∙ run;
    }

-- ---- one record more

found-append : (p : ℕ) (rs : Records) (new : Record) → run_at p (rs ++ (new ∷ [])) ≡ or_else (run_at p rs) (if nat_eq new.place p then Some new else None)
found-append p [] new = refl
found-append p (r ∷ rs) new = by (nat_eq r.place p) (found-append p rs new)
  where
    by : (c : Bool) → run_at p (rs ++ (new ∷ [])) ≡ or_else (run_at p rs) (if nat_eq new.place p then Some new else None)
        → (if c then Some r else run_at p (rs ++ (new ∷ []))) ≡ or_else (if c then Some r else run_at p rs) (if nat_eq new.place p then Some new else None)
    by true h = refl
    by false h = h

-- LAW: nothing more is told with a run that begins or waits
pub told-joined : (k : Journal) (rs : Records) (new : Record) → new.place ≡ last_place k → new.end ≡ None → told_by nobody k (rs ++ (new ∷ [])) ≡ told_by nobody k rs
told-joined k rs new here open' = fun_ext (λ p. (λ i. option_map_or (ended_in nobody k) (found-append p rs new i) (if nat_eq p (last_place k) then None else Some p)) ∙ by p (run_at p rs) (nat_eq new.place p) refl)
  where
    by : (p : ℕ) (o : Option Record) (c : Bool) → nat_eq new.place p ≡ c
        → option_map_or (ended_in nobody k) (or_else o (if c then Some new else None)) (if nat_eq p (last_place k) then None else Some p) ≡ option_map_or (ended_in nobody k) o (if nat_eq p (last_place k) then None else Some p)
    by p (Some r) c e = refl
    by p None true e =
        (λ i. or_else (place_of (open' i)) None)
        ∙ (λ i. if sym (self p (last_place k) (sym (eq-of new.place p e) ∙ here)) i then None else Some p)
    by p None false e = refl

-- LAW: and for who is waited for, whose run is there or is this one
pub called-joined : (k : Journal) (rs : Records) (new : Record) → new.place ≡ last_place k → new.serial ≡ suc (length rs) → (p : ℕ) → told_by nobody k rs p ≡ None → called_by (rs ++ (new ∷ [])) p ≡ called_by rs p
called-joined k rs new here own p none =
    (λ i. option_map_or (λ (r : Record). r.serial) (found-append p rs new i) (suc (length (rs ++ (new ∷ []))))) ∙ by (run_at p rs) (nat_eq new.place p) refl none
  where
    some-none : (n : ℕ) → Some n ≡ None → ⊥
    some-none n e = (let bad : ◌≡◌ {A = Option ℕ} (Some n) None = e in cc)

    by : (o : Option Record) (c : Bool) → nat_eq new.place p ≡ c → option_map_or (ended_in nobody k) o (if nat_eq p (last_place k) then None else Some p) ≡ None
        → option_map_or (λ (r : Record). r.serial) (or_else o (if c then Some new else None)) (suc (length (rs ++ (new ∷ [])))) ≡ option_map_or (λ (r : Record). r.serial) o (suc (length rs))
    by (Some r) c e h = refl
    by None true e h = own
    by None false e h =
        absurd (some-none p ((λ i. if sym (apart p (last_place k) (λ same. not-here (sym same))) i then None else Some p) ∙ h))
      where
        not-here : last_place k ≡ p → ⊥
        not-here same = true≢false (sym (self new.place p (here ∙ same)) ∙ e)
