-- On right journals a run makes its Steps after its begin, and so after its own place.
use Rattle.std.proofs.Common.{◌≡◌, ℕ, zero, suc, ◌-◌, ◌<◌, ◌≤◌, ◌⊎◌, inl, inr, List, [], ◌∷◌, ◌++◌, length, take, Bool, true, false, refl, sym, ap, subst, ◌∙◌, arith, Option, append_assoc, length-append}
use Rattle.std.specs.Prelude.{Some, None, slice_get, nat_le, nat_lt, if◌then◌else◌}
use Rattle.std.specs.Option.{option_map_or}
use Rattle.std.proofs.lemmas.Bool.{eqb-true, leb-true}
use Rattle.std.proofs.lemmas.Bool.Decides.{leb_tells}
use Rattle.std.proofs.lemmas.List.{length-take-le}
use Rattle.ha_config.specs.declared.config.Mode.{Mode}
use Rattle.ha_model.specs.declared.record.EndCause.{EndCause}
use Rattle.ha_journal.specs.declared.entry.Entry.{Entry}
use Rattle.ha_journal.specs.declared.entry.Entry.TheVariants.{Boot, Line, Step, Again}
use Rattle.ha_model.specs.declared.record.Record.{Record}
use Rattle.ha_config.specs.Words.{EachAfter, last_of}
use Rattle.ha_journal.specs.Journal.{Journal, through}
use Rattle.ha_model.specs.Records.{Records, last_is, is_step_of, begin_of, begin_behind}
use Rattle.ha_model.specs.Lawful.{IsRightEntry, is_running}
use Rattle.ha_config.proofs.ListLemmas.{true-false, none-some, some-same}

last-get : {X : Type 0} (p : ℕ) (xs : List X) → p < length xs → last_of (take (suc p) xs) ≡ slice_get xs p
last-get p [] lt = absurd (omega arith)
last-get zero (x ∷ xs) lt = refl
last-get (suc p) (x ∷ []) lt = absurd (omega arith)
last-get (suc p) (x ∷ y ∷ xs) lt = last-get p (y ∷ xs) (omega arith)

each-at : {X : Type 0} (P : List X → X → Type 0) (before xs : List X) (p : ℕ) (x : X) → EachAfter P before xs → slice_get xs p ≡ Some x → P (before ++ take p xs) x
each-at P before [] p x h e = absurd (none-some x e)
each-at P before (y ∷ ys) zero x h e = subst (λ z. P (before ++ []) z) (some-same y x e) (subst (λ l. P l y) (sym (none before)) h.0)
  where
    none : {X : Type 0} (xs : List X) → xs ++ [] ≡ xs
    none [] = refl
    none (z ∷ zs) = ap (λ l. z ∷ l) (none zs)
each-at P before (y ∷ ys) (suc p) x h e = subst (λ l. P l x) (append_assoc before (y ∷ []) (take p ys)) (each-at P (before ++ (y ∷ [])) ys p x h.1 e)

-- a Step of a record's serial is made while it runs
pub step-runs : (j : Journal) (rs : Records) (i p : ℕ) (f : Record) → EachAfter (IsRightEntry rs) [] j → p < length j → slice_get rs i ≡ Some f → f.serial ≡ suc i
    → last_is (is_step_of f.serial) (through j p) ≡ true → is_running p f ≡ true
step-runs j rs i p f right lt found serial step = by (slice_get j p) refl ((λ k. option_map_or (is_step_of f.serial) (sym (last-get p j lt) k) false) ∙ step)
  where
    entry : (x : Entry) → slice_get j p ≡ Some x → is_step_of f.serial x ≡ true → is_running p f ≡ true
    entry (Boot text config stored start zone carry) e h = absurd (true-false (sym h))
    entry (Again number start stored carry) e h = absurd (true-false (sym h))
    entry (Line source number cmd) e h = absurd (true-false (sym h))
    entry (Step worker s branch item) e h =
        let right_entry : IsRightEntry rs (take p j) (Step worker s branch item) = each-at (IsRightEntry rs) [] j p (Step worker s branch item) right e in
        let same : s ≡ f.serial = eqb-true s f.serial h in
        let at : s - 1 ≡ i = omega (arith, same, serial) in
        let is_f : right_entry.0 ≡ f = some-same right_entry.0 f (sym right_entry.1 ∙ ap (slice_get rs) at ∙ found) in
        let place : length (take p j ++ (Step worker s branch item ∷ [])) - 1 ≡ p = omega (arith, length-append (take p j) (Step worker s branch item ∷ []), length-take-le p j (omega arith)) in
        (λ k. is_running (sym place k) (sym is_f k)) ∙ right_entry.3.runs

    by : (o : Option Entry) → slice_get j p ≡ o → option_map_or (is_step_of f.serial) o false ≡ true → is_running p f ≡ true
    by None e h = absurd (true-false (sym h))
    by (Some x) e h = entry x e h

below : (a b : ℕ) → nat_lt a b ≡ true → a < b
below a b h = leb-true (suc a) b h

-- a begin is at the record's place or later
pub begins-late : (m : Mode) (previous : Option Record) (r : Record) (p : ℕ) → option_map_or (λ b. nat_lt b p) (begin_of m previous r) false ≡ true → r.place < p
begins-late Mode.Single previous r p h = below r.place p h
begins-late Mode.Restart previous r p h = below r.place p h
begins-late Mode.Parallel previous r p h = below r.place p h
begins-late Mode.Queued None r p h = below r.place p h
begins-late Mode.Queued (Some x) r p h = by x.end h
  where
    own : (e : ℕ × EndCause) (b : Bool) → r.place < e.0 → option_map_or (λ b. nat_lt b p) (if b then None else Some e.0) false ≡ true → r.place < p
    own e true lt h = absurd (true-false (sym h))
    own e false lt h = omega (arith, below e.0 p h)

    split : (e : ℕ × EndCause) (b : Bool) → (((b ≡ true) × (e.0 ≤ r.place)) ⊎ ((b ≡ false) × (r.place < e.0)))
        → option_map_or (λ b. nat_lt b p) (if b then Some r.place else if option_map_or (λ x. nat_le x.0 e.0) r.end false then None else Some e.0) false ≡ true → r.place < p
    split e true t h = below r.place p h
    split e false (inl (f, le)) h = absurd (true-false (sym f))
    split e false (inr (f, lt)) h = own e (option_map_or (λ x. nat_le x.0 e.0) r.end false) lt h

    by : (o : Option (ℕ × EndCause)) → option_map_or (λ b. nat_lt b p) (begin_behind r.place r.end o) false ≡ true → r.place < p
    by None h = absurd (true-false (sym h))
    by (Some e) h = split e (nat_le e.0 r.place) (leb_tells e.0 r.place) h
