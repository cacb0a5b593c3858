-- A file's bytes and their judgement, and the status that was told.
use Rattle.std.proofs.Common.{◌≡◌, ◌∙◌, ap, sym, subst, refl, ℕ, ◌≤◌, inl, inr, List, [], ◌∷◌, ◌++◌, length, arith, append_assoc, append-nil}
use Rattle.std.specs.Prelude.{◌⊎◌, Option, Some, None, IsSomeAnd}
use Rattle.std.specs.Io.KnownBytes.{IsAtEnd}
use Rattle.ha_io.specs.Told.{Gives, HasFile}
use Rattle.ha_config.specs.Words.{Text}
use Rattle.ha_status.specs.declared.status.Status.{Status}
use Rattle.ha_status.specs.Files.{Files}
use Rattle.ha_status.specs.Written.{TookLine}
use Rattle.ha_status.specs.Causes.{IsUnread as IsUnreadSource, ReadCause}
use Rattle.ha_status.proofs.CauseLemmas.{read_cause, told_status}
use Rattle.replay_file.specs.declared.front.FrontEnd.{FrontEnd}
use Rattle.replay_file.specs.Fronts.{IsFrontOf, IsRead, IsReadFrom, IsReadOf, most_bytes}
use Rattle.replay_file.specs.Judged.{AreErrorsTaken, IsStatusOf, IsTaken, Judged}
use Rattle.replay_file.specs.Replays.{IsReplay, IsUnread}

-- ---- the bytes

-- what a source gave is what it had, and then what it has
given : (bytes text : List ℕ) (after : Option (List ℕ)) → Gives (Some bytes) text after → (rest : List ℕ) × (after ≡ Some rest) × (bytes ≡ text ++ rest)
given bytes text None g = absurd (let bad : ◌≡◌ {A = Option (List ℕ)} (Some bytes) None = g in cc)
given bytes text (Some rest) g = (rest, refl, (let whole : ◌≡◌ {A = Option (List ℕ)} (Some bytes) (Some (text ++ rest)) = g in cc))

at_its_end : (rest : List ℕ) (after : Option (List ℕ)) → after ≡ Some rest → IsAtEnd after → rest ≡ []
at_its_end rest after e h = subst IsAtEnd e h

-- one byte, and then the rest
one_more : (bytes text more rest : List ℕ) (after : Option (List ℕ)) → length more ≡ 1 → after ≡ Some rest → bytes ≡ text ++ (more ++ rest)
    → (next : ℕ) × (rest' : List ℕ) × (after ≡ Some rest') × (bytes ≡ text ++ next ∷ rest')
one_more bytes text [] rest after one left is = absurd (omega (arith, one))
one_more bytes text (next ∷ []) rest after one left is = (next, rest, left, is)
one_more bytes text (next ∷ x ∷ more) rest after one left is = absurd (omega (arith, one))

read_from : (bytes text : List ℕ) (end : FrontEnd) (after : Option (List ℕ)) → IsRead most_bytes (Some bytes) text end after → IsReadFrom text end after bytes
read_from bytes text FrontEnd.Whole after r =
    let g = given bytes text after r.0 in
    let end : g.0 ≡ [] = at_its_end g.0 after g.1 r.1 in
    (g.1 ∙ ap (λ (z : List ℕ). Some z) end, g.2 ∙ ap (λ z. text ++ z) end ∙ append-nil text)
read_from bytes text FrontEnd.Failed after r = let g = given bytes text after r in (g.0, g.1, g.2)
read_from bytes text FrontEnd.TooLong after r =
    let more = r.1.0 in
    let g = given bytes (text ++ more) after r.1.2 in
    (r.0, one_more bytes text more g.0 after r.1.1 g.1 (g.2 ∙ append_assoc text more g.0))

-- what was read is a front of the file
pub front_of : (bytes text : List ℕ) (end : FrontEnd) (left : Option (List ℕ)) → IsReadFrom text end left bytes → IsFrontOf text end bytes
front_of bytes text FrontEnd.Whole left r = r.1
front_of bytes text FrontEnd.Failed left r = (r.0, r.2)
front_of bytes text FrontEnd.TooLong left r = (r.0, (r.1.0 ∷ r.1.1, omega arith, r.1.3))

pub read_of : (files : Option Files) (name text : Text) (end : FrontEnd) (before after : Option (List ℕ)) → HasFile files name before → IsRead most_bytes before text end after
    → IsReadOf files name text end (after ∷ [])
read_of None name text end before after has r = tt
read_of (Some f) name text end before after has r = (after, refl, by (f name) has)
  where
    by : (file : Option (List ℕ)) → IsSomeAnd file (λ bytes. before ≡ Some bytes) → IsSomeAnd file (IsReadFrom text end after)
    by None h = absurd h
    by (Some bytes) h = read_from bytes text end after (subst (λ z. IsRead most_bytes z text end after) h r)

-- ---- a file that was read

pub read_replay : (files : Option Files) (name text text' : Text) (end : FrontEnd) (before after : Option (List ℕ)) (s : Status) (C E : Text → Type 0) → HasFile files name before → IsRead most_bytes before text end after
    → length text ≤ most_bytes → text' ≡ text → Judged text' end s C E → IsReplay files name (after ∷ []) s C E
read_replay files name text text' end before after s C E has r low same j = inr (record {
  text = text;
  end = end;
  read = read_of files name text end before after has r;
  within = low;
  judged = subst (λ z. Judged z end s C E) same j;
})

-- a failed read is that of the one source
pub read_causes : (name text : Text) (end : FrontEnd) (s : Status) (C E : Text → Type 0) (faults : List ℕ) (names : List (Option Text)) → Judged text end s C E → (end ≡ FrontEnd.Failed → IsUnreadSource name 0 faults names)
    → ReadCause name (name ∷ []) faults names s
read_causes name text end s C E faults names j failed = read_cause name (name ∷ []) faults names s (λ k e. by k (subst (IsStatusOf text end j.journal j.records j.ended j.left) e j.status_is))
  where
    by : (k : Option ℕ) → IsStatusOf text end j.journal j.records j.ended j.left (Status.ReadFault k) → ReadCause name (name ∷ []) faults names (Status.ReadFault k)
    by None is = absurd is
    by (Some n) is = subst (λ (z : ℕ). ReadCause name (name ∷ []) faults names (Status.ReadFault (Some z))) (sym is.0) (name, refl, failed is.1)

-- ---- the status that was told

taken_told : (s r : Status) (t : Text) (a b : Option Text) → (r ≡ s) ⊎ (r ≡ Status.Memory) → IsTaken s t a b → IsTaken r t a b
taken_told s r t a b told w = told_status (λ z. IsTaken z t a b) s r told w (record { rest = w.rest; took = w.took; all = inl tt })

module _ (files : Option Files) (name : Text) (lefts : List (Option Text)) (s r : Status) (told : (r ≡ s) ⊎ (r ≡ Status.Memory)) (faulted : Type 0) (o o' e e' e'' : Option Text) (line : TookLine faulted r e' e'') where
  errors_told : (t : Text) → IsTaken s t e e' → AreErrorsTaken faulted r t e e''
  errors_told t w = record { between = e'; errors_taken = taken_told s r t e e' told w; line_taken = line }

  pub replay_told : IsReplay files name lefts s (λ t. IsTaken s t o o') (λ t. IsTaken s t e e') → IsReplay files name lefts r (λ t. IsTaken r t o o') (λ t. AreErrorsTaken faulted r t e e'')
  replay_told (inl none) = inl (told_status IsUnread s r told none.0 tt, taken_told s r [] o o' told none.1, errors_told [] none.2)
  replay_told (inr h) =
      let j = h.judged in
      inr (record {
        text = h.text;
        end = h.end;
        read = h.read;
        within = h.within;
        judged = record {
          journal = j.journal;
          records = j.records;
          ended = j.ended;
          left = j.left;
          begins = j.begins;
          status_is = told_status (IsStatusOf h.text h.end j.journal j.records j.ended j.left) s r told j.status_is tt;
          calls = taken_told s r _ o o' told j.calls;
          errors = errors_told _ j.errors;
        };
      })
