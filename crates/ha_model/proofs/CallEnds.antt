-- The end of a called run with one more entry: where it is there it stays, and else it comes at the entry that ends the run.
use Rattle.std.proofs.Common.{◌≡◌, ℕ, ◌<◌, ◌⊎◌, inl, inr, [], ◌∷◌, length, Bool, true, false, refl, sym, subst, ◌∙◌, rules, arith, Option}
use Rattle.std.specs.Prelude.{Some, None, nat_eq, find, option_map, if◌then◌else◌}
use Rattle.std.specs.Option.{option_map_or}
use Rattle.ha_journal.specs.declared.entry.Entry.{Entry}
use Rattle.ha_model.specs.declared.record.EndCause.{EndCause}
use Rattle.ha_model.specs.declared.record.Record.{Record}
use Rattle.ha_journal.specs.Journal.{Journal, units, more}
use Rattle.ha_model.specs.Records.{Records, call_end, records_of, begin_of, mode_of, last_record, calls_of}
use Rattle.ha_model.proofs.Passes.{with_begins, ended}
use Rattle.ha_model.proofs.FoldLaws.{records-passes}
use Rattle.ha_model.proofs.RecordGrowth.{EndGrows, Grown, grown-ended}
use Rattle.ha_config.proofs.ListLemmas.{true-false}

-- the end of a record that was found
abbrev end_found : ℕ → Option Record → Option ℕ
end_found p o = option_map_or (λ x. option_map (λ e. e.0) x.end) o (Some p)

-- begins and calls leave it as it is
ends-begun : (j : Journal) (p : ℕ) (back rs : Records) → call_end (with_begins j back rs) p ≡ call_end rs p
ends-begun j p back [] = refl
ends-begun j p back (r ∷ rs) = by (nat_eq r.place p) (ends-begun j p (r ∷ back) rs)
  where
    by : (b : Bool) → call_end (with_begins j (r ∷ back) rs) p ≡ call_end rs p
        → end_found p (if b then Some (record r { begin = begin_of (mode_of (units j) r.automation) (last_record r.automation back) r; calls = calls_of j r.serial }) else find (λ x. nat_eq x.place p) (with_begins j (r ∷ back) rs))
        ≡ end_found p (if b then Some r else find (λ x. nat_eq x.place p) rs)
    by true h = refl
    by false h = h

-- the same, or an end at place n where there was none
abbrev pub CallGrows : ℕ → Option ℕ → Option ℕ → Type 0
CallGrows n e e' = (e' ≡ e) ⊎ ((e ≡ None) × (e' ≡ Some n))

abbrev place_of_end : Option (ℕ × EndCause) → Option ℕ
place_of_end e = option_map (λ x. x.0) e

end-grows : (n : ℕ) (e e' : Option (ℕ × EndCause)) → EndGrows n e e' → CallGrows n (place_of_end e) (place_of_end e')
end-grows n e e' (inl same) = inl (λ i. place_of_end (sym same i))
end-grows n e e' (inr (none, c, some)) = inr ((λ i. place_of_end (none i)), (λ i. place_of_end (some i)))

not-equal : (a b : ℕ) → b < a → nat_eq a b ≡ false
not-equal a b lt = search rules

grown-calls : (n p : ℕ) → p < n → (rs rs' : Records) → Grown n rs rs' → CallGrows n (call_end rs p) (call_end rs' p)
grown-calls n p lt [] [] g = inl refl
grown-calls n p lt [] (r' ∷ rs') g =
    let other : nat_eq r'.place p ≡ false = not-equal r'.place p (omega (arith, g.0, lt)) in
    subst (λ b. CallGrows n (Some p) (option_map_or (λ x. option_map (λ e. e.0) x.end) (if b then Some r' else find (λ x. nat_eq x.place p) rs') (Some p)))
    (sym other) (grown-calls n p lt [] rs' g.1)
grown-calls n p lt (r ∷ rs) [] g = absurd g
grown-calls n p lt (r ∷ rs) (r' ∷ rs') g = by (nat_eq r.place p) (nat_eq r'.place p) (λ i. nat_eq (g.0.place i) p) (grown-calls n p lt rs rs' g.1)
  where
    by : (b b' : Bool) → b ≡ b' → CallGrows n (call_end rs p) (call_end rs' p)
        → CallGrows n (end_found p (if b then Some r else find (λ x. nat_eq x.place p) rs)) (end_found p (if b' then Some r' else find (λ x. nat_eq x.place p) rs'))
    by true true e h = end-grows n r.end r'.end g.0.end
    by false false e h = h
    by true false e h = absurd (true-false e)
    by false true e h = absurd (true-false (sym e))

-- LAW: the end of the run that an earlier entry called, with one more entry
pub call-ends-more : (j : Journal) (x : Entry) (p : ℕ) → p < length j → CallGrows (length j) (call_end (records_of j) p) (call_end (records_of (more j x)) p)
call-ends-more j x p lt =
    let old : call_end (ended j) p ≡ call_end (records_of j) p = sym (ends-begun j p [] (ended j)) ∙ (λ i. call_end (sym (records-passes j) i) p) in
    let new : call_end (ended (more j x)) p ≡ call_end (records_of (more j x)) p = sym (ends-begun (more j x) p [] (ended (more j x))) ∙ (λ i. call_end (sym (records-passes (more j x)) i) p) in
    subst (λ e. CallGrows (length j) e (call_end (records_of (more j x)) p)) old
    (subst (λ e. CallGrows (length j) (call_end (ended j) p) e) new (grown-calls (length j) p lt (ended j) (ended (more j x)) (grown-ended j x)))
