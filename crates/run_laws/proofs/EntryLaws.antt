-- THE LAWS of the calls for one entry.
use Rattle.std.proofs.Common.{◌≡◌, ℕ, zero, suc, ◌+◌, ◌-◌, ◌<◌, List, [], ◌∷◌, ◌++◌, length, map, Bool, true, false, cond, refl, sym, ap, subst, ◌∙◌, rules, arith, Option, length-append}
use Rattle.std.specs.Prelude.{Some, None, nat_eq, nat_le, nat_lt, slice_get, option_map, option_and_then, ◌&&◌}
use Rattle.std.specs.Option.{option_map_or}
use Rattle.std.proofs.lemmas.Bool.{leb-true}
use Rattle.std.proofs.lemmas.Option.{slice_get_within}
use Rattle.ha_config.specs.declared.config.Automation.{Automation}
use Rattle.ha_sight.specs.declared.item.Item.{Item}
use Rattle.ha_config.specs.declared.command.Cmd.{Cmd}
use Rattle.ha_journal.specs.declared.entry.Entry.{Entry}
use Rattle.ha_journal.specs.declared.entry.Entry.TheVariants.{Boot, Line, Step, Again}
use Rattle.ha_model.specs.declared.record.EndCause.{EndCause}
use Rattle.ha_model.specs.declared.record.Record.{Record}
use Rattle.ha_sight.specs.Items.{is_call}
use Rattle.ha_journal.specs.Entries.{BeginsSegment, IsBoot}
use Rattle.ha_journal.specs.Journal.{Journal, HasEntry, last_place, more, units}
use Rattle.ha_journal.specs.Attempts.{passing}
use Rattle.ha_sight.specs.Scripts.{Branch}
use Rattle.ha_model.specs.Records.{Records, is_call_of, calls_of, own_cause, records_of}
use Rattle.ha_config.specs.Words.{or_else}
use Rattle.ha_model.specs.RecordSteps.{records_after}
use Rattle.ha_model.specs.RunSteps.{own_ends, settled, attempt_all}
use Rattle.ha_model.specs.NextPlace.{next_end}
use Rattle.ha_model.specs.Lawful.{record_of, IsRightEntry, Right, is_running}
use Rattle.ha_journal.proofs.MoreLemmas.{length-more, has-entry}
use Rattle.ha_model.proofs.RecordGrowth.{EndBelow}
use Rattle.ha_model.proofs.LastEntry.{calls-more, no-calls}
use Rattle.ha_model.proofs.StepLaws.{serial-at}
use Rattle.ha_model.proofs.LawfulLaws.{right-more}
use Rattle.ha_model.proofs.FoldLaws.{records-more, first-records}
use Rattle.ha_model.proofs.KnownLaws.{AllKnown, all-known}
use Rattle.run_modes.specs.Table.{called_on}
use Rattle.ha_laws.specs.Order.{InOrder}
use Rattle.run_modes.specs.Fits.{AreNumbered}
use Rattle.run_modes.specs.Calls.{steps_done, stops_done, call_counted, own_ended, AreTurned, all_tried}
use Rattle.run_modes.proofs.TableLemmas.{serial-at as serial-in}
use Rattle.run_modes.proofs.StopLemmas.{called-numbered}
use Rattle.ha_laws.proofs.OrderLaws.{in-order}
use Rattle.run_laws.proofs.OldLaws.{OldOne, AllOld, AllCounted, all-old, all-counted}
use Rattle.run_laws.proofs.CallLaws.{recounted, recounted-same, called-known, called-recounted, called-old, called-order, called-get, counted_one, counted-end, plain-counted, step-counted, EachOwn, no-script, own-script, settled-plain, settled-ends}
use Rattle.run_laws.proofs.AttemptLaws.{EndsBelow, settled-order, attempts-settled}

not-equal : (a b : ℕ) → a < b → nat_eq a b ≡ false
not-equal a b lt = search rules

-- ---- what is known before the entry

numbered-from : (n : ℕ) (rs : Records) → ((i : ℕ) (r : Record) → slice_get rs i ≡ Some r → r.serial ≡ suc (n + i)) → AreNumbered n rs
numbered-from n [] h = tt
numbered-from n (r ∷ rs) h = (h 0 r refl ∙ here, numbered-from (suc n) rs (λ i q e. h (suc i) q e ∙ there i))
  where
    here : suc (n + 0) ≡ suc n
    here = omega arith

    there : (i : ℕ) → suc (n + suc i) ≡ suc (suc n + i)
    there i = omega arith

pub record Known (j : Journal) (rs : Records) : Type 0 where
  pub some : HasEntry j
  pub numbered : AreNumbered 0 rs
  pub there : AllKnown (length (units j)) rs
  pub old : AllOld (units j) (length j) rs
  pub counted : AllCounted j rs
  pub order : InOrder (units j) rs

known : (j : Journal) (rs : Records) → Right j rs → Known j rs
known j rs right = record {
  some = has-entry j right.journal;
  numbered = subst (AreNumbered 0) (sym right.records_are) (numbered-from 0 (records_of j) (λ i r e. serial-at j i r e ∙ zero-less i));
  there = subst (AllKnown (length (units j))) (sym right.records_are) (all-known j);
  old = subst (AllOld (units j) (length j)) (sym right.records_are) (all-old j);
  counted = subst (AllCounted j) (sym right.records_are) (all-counted j);
  order = in-order j rs right;
}
  where
    zero-less : (i : ℕ) → suc i ≡ suc (0 + i)
    zero-less i = omega arith

-- ---- the ends of an entry

-- a running record has no end
running-live : (all : List Automation) (n : ℕ) (r : Record) → OldOne all n r → is_running n r ≡ true → r.end ≡ None
running-live all n r old running = by r.end refl old.end (and-right (option_map_or (λ b. nat_lt b n) r.begin false) (option_map_or (λ e. nat_le n e.0) r.end true) running)
  where
    and-right : (b c : Bool) → (b && c) ≡ true → c ≡ true
    and-right true c e = e
    and-right false c e = cc

    by : (e : Option (ℕ × EndCause)) → r.end ≡ e → EndBelow n e → option_map_or (λ e. nat_le n e.0) r.end true ≡ true → r.end ≡ None
    by None g h t = g
    by (Some x) g h t = absurd (omega (arith, h, leb-true n x.0 ((λ i. option_map_or (λ e. nat_le n e.0) (sym g i) true) ∙ t)))

old-get : (all : List Automation) (n i : ℕ) (rs : Records) (r : Record) → AllOld all n rs → slice_get rs i ≡ Some r → OldOne all n r
old-get all n i [] r old e = cc
old-get all n zero (y ∷ ys) r old e = (let same : y ≡ r = cc in subst (OldOne all n) same old.0)
old-get all n (suc i) (y ∷ ys) r old e = old-get all n i ys r old.1 e

module _ (j : Journal) (rs : Records) (turned : List ℕ) (known : Known j rs) where
  line-settled : (source number : ℕ) (cmd : Cmd) → AreTurned j (Line source number cmd) turned
      → stops_done (length j) (Line source number cmd) turned rs ≡ settled (more j (Line source number cmd)) [] (own_ends (more j (Line source number cmd)) rs)
  line-settled source number cmd are =
      let x : Entry = Line source number cmd in
      settled-plain j x turned known.some are 0 rs rs (no-script j x refl rs) known.there known.there known.old known.old (recounted-same (more j x) rs (plain-counted j x rs (λ s. refl) known.counted))

  module _ (w s : ℕ) (branch : Branch) (item : Item) where
    abbrev x : Entry
    x = Step w s branch item

    abbrev cause : Option EndCause
    cause = option_and_then (λ r. next_end j r branch) (record_of rs s)

    abbrev counted : Records
    counted = call_counted (is_call item) s rs

    counted-is : (b : Bool) → is_call item ≡ b → map {A = Record} {B = Record} (recounted (more j (Step w s branch item))) rs ≡ call_counted b s rs
    counted-is true e = sym (called-recounted s (more j x) rs) ∙ recounted-same (more j x) (called_on s rs) (step-counted j w s branch item rs e known.counted)
    counted-is false e = recounted-same (more j x) rs (plain-counted j x rs (λ q. (λ i. nat_eq s q && e i) ∙ and-false (nat_eq s q)) known.counted)
      where
        and-false : (b : Bool) → (b && false) ≡ false
        and-false true = refl
        and-false false = refl

    counted-there : (b : Bool) → AllKnown (length (units j)) (call_counted b s rs)
    counted-there true = called-known s (length (units j)) rs known.there
    counted-there false = known.there

    counted-old : (b : Bool) → AllOld (units j) (length j) (call_counted b s rs)
    counted-old true = called-old s (units j) (length j) rs known.old
    counted-old false = known.old

    counted-numbered : (b : Bool) → AreNumbered 0 (call_counted b s rs)
    counted-numbered true = called-numbered s 0 rs known.numbered
    counted-numbered false = known.numbered

    counted-order : (b : Bool) → InOrder (units j) (call_counted b s rs)
    counted-order true = called-order s (units j) (λ a. false) rs known.order
    counted-order false = known.order

    -- the run that steps, in the list with its call counted
    record Steps (i : ℕ) (b : Bool) : Type 0 where
      run : Record
      found : slice_get (call_counted b s rs) i ≡ Some run
      live : run.end ≡ None

    counted-run : (b : Bool) (r : Record) → slice_get rs (s - 1) ≡ Some r → r.end ≡ None → Steps (s - 1) b
    counted-run true r e live = record { run = counted_one s r; found = called-get s (s - 1) rs r e; live = counted-end s r ∙ live }
    counted-run false r e live = record { run = r; found = e; live = live }

    own : EachOwn (more j (Step w s branch item)) s (option_and_then (λ r. next_end j r branch) (record_of rs s)) rs
    own = own-script j w s branch item known.some rs 0 rs (λ i r e. (λ k. slice_get rs (less i k)) ∙ e) known.numbered
      where
        less : (i : ℕ) → 0 + i ≡ i
        less i = omega arith

    step-settled : IsRightEntry rs j (Step w s branch item) → AreTurned j (Step w s branch item) turned
        → stops_done (length j) (Step w s branch item) turned (own_ended (length j) s (option_and_then (λ r. next_end j r branch) (record_of rs s)) (call_counted (is_call item) s rs))
        ≡ settled (more j (Step w s branch item)) [] (own_ends (more j (Step w s branch item)) rs)
    step-settled right are = by (option_and_then (λ r. next_end j r branch) (record_of rs s)) refl
      where
        place : length (j ++ (Step w s branch item ∷ [])) - 1 ≡ length j
        place = omega (arith, length-append j (Step w s branch item ∷ []))

        running : is_running (length j) right.0 ≡ true
        running = (λ i. is_running (sym place i) right.0) ∙ right.3.runs

        live : right.0.end ≡ None
        live = running-live (units j) (length j) right.0 (old-get (units j) (length j) (s - 1) rs right.0 known.old right.1) running

        at : s ≡ suc (s - 1)
        at = (let e = serial-in 0 (s - 1) rs right.0 known.numbered right.1 in omega (arith, e, right.2))

        by : (c : Option EndCause) → option_and_then (λ r. next_end j r branch) (record_of rs s) ≡ c
            → stops_done (length j) (Step w s branch item) turned (own_ended (length j) s c (call_counted (is_call item) s rs)) ≡ settled (more j (Step w s branch item)) [] (own_ends (more j (Step w s branch item)) rs)
        by None e =
            settled-plain j x turned known.some are s rs counted (subst (λ c. EachOwn (more j (Step w s branch item)) s c rs) e own) known.there (counted-there (is_call item)) known.old (counted-old (is_call item)) (counted-is (is_call item) refl)
        by (Some c) e =
            let steps = counted-run (is_call item) right.0 right.1 live in
            settled-ends j x turned known.some are s (s - 1) c steps.run rs counted (subst (λ c. EachOwn (more j (Step w s branch item)) s c rs) e own) known.there (counted-there (is_call item)) known.old (counted-old (is_call item)) (counted-is (is_call item) refl)
            (counted-numbered (is_call item)) (counted-order (is_call item)) steps.found at steps.live

  ends-settled : (x : Entry) → (BeginsSegment x → ⊥) → IsRightEntry rs j x → AreTurned j x turned → stops_done (length j) x turned (steps_done j rs x) ≡ settled (more j x) [] (own_ends (more j x) rs)
  ends-settled (Boot text config stored start zone carry) not_boot right are = absurd (not_boot tt)
  ends-settled (Again number start stored carry) not_boot right are = absurd (not_boot tt)
  ends-settled (Line source number cmd) not_boot right are = line-settled source number cmd are
  ends-settled (Step w s branch item) not_boot right are = step-settled w s branch item right are

-- ---- after the ends

own-below : (k : Journal) (n : ℕ) (all : List Automation) → last_place k ≡ n → (rs : Records) → AllOld all n rs → EndsBelow (suc (last_place k)) (own_ends k rs)
own-below k n all at [] old = tt
own-below k n all at (r ∷ rs) old = (one r.end (own_cause k r) old.0.end, own-below k n all at rs old.1)
  where
    one : (e : Option (ℕ × EndCause)) (c : Option EndCause) → EndBelow n e → EndBelow (suc (last_place k)) (or_else e (option_map {T = EndCause} (λ c. (last_place k, c)) c))
    one (Some y) c h = omega (arith, h, at)
    one None (Some c) h = omega arith
    one None None h = tt

own-length : (k : Journal) (rs : Records) → length (own_ends k rs) ≡ length rs
own-length k [] = refl
own-length k (r ∷ rs) = ap suc (own-length k rs)

no-call : (j : Journal) (rs : Records) (x : Entry) → Right j rs → IsRightEntry rs j x → (s : ℕ) → length rs < s → is_call_of s x ≡ false
no-call j rs (Boot text config stored start zone carry) right h s lt = refl
no-call j rs (Again number start stored carry) right h s lt = refl
no-call j rs (Line source number cmd) right h s lt = refl
no-call j rs (Step w t branch item) right h s lt =
    let within : t - 1 < length rs = slice_get_within rs (t - 1) h.0 h.1 in
    (λ i. not-equal t s (omega (arith, lt, within)) i && is_call item)

-- LAW: after the calls for one entry, in their order, the records are those of the journal with it
pub by-calls : (j : Journal) (rs : Records) (x : Entry) (turned : List ℕ) → Right j rs → (BeginsSegment x → ⊥) → IsRightEntry rs j x → AreTurned j x turned
    → all_tried (more j x) (stops_done (length j) x turned (steps_done j rs x)) (passing (more j x)) ≡ records_of (more j x)
by-calls j rs x turned right not_boot fair are =
    let k = more j x in
    let before = known j rs right in
    let after = right-more j rs x right not_boot fair in
    let place : last_place (more j x) ≡ length j = omega (arith, length-more j x) in
    let told : records_of (more j x) ≡ settled (more j x) [] (attempt_all (more j x) (own_ends (more j x) rs) (passing (more j x)))
    = records-more j x ∙ (λ i. settled (more j x) [] (attempt_all (more j x) (own_ends (more j x) (sym right.records_are i)) (passing (more j x)))) in
    let order : InOrder (units (more j x)) (attempt_all (more j x) (own_ends (more j x) rs) (passing (more j x)))
    = settled-order (more j x) (λ a. false) [] (attempt_all (more j x) (own_ends (more j x) rs) (passing (more j x)))
    (subst (InOrder (units (more j x))) (after.records_are ∙ told) (in-order (more j x) (records_after j rs x) after)) in
    (λ i. all_tried (more j x) (ends-settled j rs turned before x not_boot fair are i) (passing (more j x)))
    ∙ attempts-settled (more j x) (own_ends (more j x) rs) (passing (more j x)) order (own-below (more j x) (length j) (units j) place rs before.old)
    (λ s lt. calls-more j x s ∙ (λ i. no-calls j rs right s (omega (arith, lt, own-length (more j x) rs)) i + cond (no-call j rs x right fair s (omega (arith, lt, own-length (more j x) rs)) i) 1 0))
    ∙ sym told

-- ---- the first entry

first-right : (boot : Entry) → IsBoot boot → Right (boot ∷ []) (records_of (boot ∷ []))
first-right (Boot text config stored start zone carry) is = record { journal = (is, tt); records_are = refl; entries = (tt, tt) }
first-right (Again number start stored carry) is = absurd is
first-right (Line source number cmd) is = absurd is
first-right (Step worker serial branch item) is = absurd is

first-calls : (boot : Entry) → IsBoot boot → (s : ℕ) → calls_of (boot ∷ []) s ≡ 0
first-calls (Boot text config stored start zone carry) is s = refl
first-calls (Again number start stored carry) is s = absurd is
first-calls (Line source number cmd) is s = absurd is
first-calls (Step worker serial branch item) is s = absurd is

-- LAW: the same of the first entry, before which there are no records
pub by-first-calls : (boot : Entry) → IsBoot boot → all_tried (boot ∷ []) [] (passing (boot ∷ [])) ≡ records_of (boot ∷ [])
by-first-calls boot is =
    let k = boot ∷ [] in
    let told : records_of (boot ∷ []) ≡ settled (boot ∷ []) [] (attempt_all (boot ∷ []) [] (passing (boot ∷ [])))
    = first-records boot in
    let order : InOrder (units (boot ∷ [])) (attempt_all (boot ∷ []) [] (passing (boot ∷ [])))
    = settled-order (boot ∷ []) (λ a. false) [] (attempt_all (boot ∷ []) [] (passing (boot ∷ [])))
    (subst (InOrder (units (boot ∷ []))) told (in-order (boot ∷ []) (records_of (boot ∷ [])) (first-right boot is))) in
    attempts-settled (boot ∷ []) [] (passing (boot ∷ [])) order tt (λ s lt. first-calls boot is s) ∙ sym told
