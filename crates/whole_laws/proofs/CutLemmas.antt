-- How a journal is cut, with one more entry.
use Rattle.std.proofs.Common.{◌≡◌, ℕ, suc, ◌+◌, ◌-◌, List, [], ◌∷◌, ◌++◌, length, refl, sym, subst, ◌∙◌, arith, append_assoc}
use Rattle.std.specs.Prelude.{Option, Some, None}
use Rattle.std.specs.Option.{option_map_or}
use Rattle.std.proofs.lemmas.List.Sums.{fold-append}
use Rattle.ha_journal.specs.declared.entry.Entry.{Entry}
use Rattle.ha_journal.specs.declared.entry.Entry.TheVariants.{Boot, Line, Step, Again}
use Rattle.ha_config.specs.Words.{EachAfter, EachFrom}
use Rattle.ha_config.specs.declared.config.Config.{Config}
use Rattle.ha_journal.specs.Entries.{Reopening, again_in, BeginsSegment, IsBoot, reload_in}
use Rattle.ha_journal.specs.Force.{force, reloaded, in_place_of}
use Rattle.ha_journal.specs.Journal.{Journal, HasEntry, automations, configured, more}
use Rattle.ha_journal.specs.Journal as one
use Rattle.ha_model.specs.Records as all
use Rattle.ha_model.specs.Records.{Records}
use Rattle.ha_whole.specs.Segments.{Cut, alone, carried, counted_from, cut, cut_by, cut_more, entries_in, front, reopened, segment, segments}
use Rattle.ha_whole.specs.Whole.{AreEntries, IsBehind, IsFirst, again_of, carry_of, placed_all, records_from, records_of}
use Rattle.ha_config.proofs.ListLemmas.{append-nil, none-some}
use Rattle.ha_laws.proofs.PrefixLaws.{has-more}
use Rattle.ha_journal.proofs.ForceLaws.{configured-more, force-more}
use Rattle.ha_journal.proofs.MoreLemmas.{has-entry, length-more}

abbrev none_yet : Cut
none_yet = record { closed = []; last = [] }

-- the cut of one more entry
pub cut-snoc : (j : Journal) (x : Entry) → cut (more j x) ≡ cut_more (cut j) x
cut-snoc j x = fold-append cut_more none_yet j (x ∷ [])

pub segment-on : (j : Journal) (x : Entry) → again_in x ≡ None → segment (more j x) ≡ more (segment j) (alone (segment j) x)
segment-on j x e = (λ i. (cut-snoc j x i).last) ∙ (λ i. (cut_by (cut j) x (e i)).last)

pub closed-on : (j : Journal) (x : Entry) → again_in x ≡ None → (cut (more j x)).closed ≡ (cut j).closed
closed-on j x e = (λ i. (cut-snoc j x i).closed) ∙ (λ i. (cut_by (cut j) x (e i)).closed)

pub segment-again : (j : Journal) (x : Entry) (a : Reopening) → again_in x ≡ Some a → segment (more j x) ≡ reopened (segment j) a
segment-again j x a e = (λ i. (cut-snoc j x i).last) ∙ (λ i. (cut_by (cut j) x (e i)).last)

pub closed-again : (j : Journal) (x : Entry) (a : Reopening) → again_in x ≡ Some a → (cut (more j x)).closed ≡ segments j
closed-again j x a e = (λ i. (cut-snoc j x i).closed) ∙ (λ i. (cut_by (cut j) x (e i)).closed)

pub entries-snoc : (ss : List Journal) (s : Journal) → entries_in (ss ++ (s ∷ [])) ≡ entries_in ss + length s
entries-snoc [] s = omega arith
entries-snoc (t ∷ ss) s = omega (arith, entries-snoc ss s)

pub records-snoc : (n : ℕ) (ss : List Journal) (s : Journal)
    → records_from n (ss ++ (s ∷ [])) ≡ records_from n ss ++ placed_all (n + entries_in ss) s (all.records_of s)
records-snoc n [] s =
    append-nil (placed_all n s (all.records_of s)) ∙ (let e : n ≡ n + 0 = omega arith in λ i. placed_all (e i) s (all.records_of s))
records-snoc n (t ∷ ss) s =
    let e : (n + length t) + entries_in ss ≡ n + (length t + entries_in ss) = omega arith in
    (λ i. placed_all n t (all.records_of t) ++ records-snoc (n + length t) ss s i)
    ∙ sym (append_assoc (placed_all n t (all.records_of t)) (records_from (n + length t) ss) (placed_all ((n + length t) + entries_in ss) s (all.records_of s)))
    ∙ (λ i. (placed_all n t (all.records_of t) ++ records_from (n + length t) ss) ++ placed_all (e i) s (all.records_of s))

-- the records of the closed segments, and then those of the last
abbrev pub closed_records : Journal → Records
closed_records j = records_from 0 (cut j).closed

pub records-cut : (j : Journal) → records_of j ≡ closed_records j ++ placed_all (front j) (segment j) (all.records_of (segment j))
records-cut j =
    let e : 0 + entries_in (cut j).closed ≡ front j = omega arith in
    records-snoc 0 (cut j).closed (segment j) ∙ (λ i. closed_records j ++ placed_all (e i) (segment j) (all.records_of (segment j)))

-- an entry that is read alone
alone-begins : (n : ℕ) (x : Entry) → BeginsSegment (counted_from n x) → BeginsSegment x
alone-begins n (Boot text config stored start zone carry) h = tt
alone-begins n (Line source number cmd) h = h
alone-begins n (Step worker serial branch item) h = h
alone-begins n (Again number start stored carry) h = tt

goes-on : (x : Entry) → again_in x ≡ None → (IsBoot x → ⊥) → BeginsSegment x → ⊥
goes-on (Boot text config stored start zone carry) e not_boot h = not_boot tt
goes-on (Line source number cmd) e not_boot h = h
goes-on (Step worker serial branch item) e not_boot h = h
goes-on (Again number start stored carry) e not_boot h = none-some _ (sym e)

-- read alone, an entry that is no Boot and no Again begins no segment
pub alone-goes-on : (n : ℕ) (x : Entry) → again_in x ≡ None → (IsBoot x → ⊥) → BeginsSegment (counted_from n x) → ⊥
alone-goes-on n x e not_boot h = goes-on x e not_boot (alone-begins n x h)

-- what is known of the last segment of a journal
pub record IsCut (j : Journal) : Type 0 where
  pub alone : one.IsJournal (segment j)
  pub length_is : front j + length (segment j) ≡ length j
  pub automations_are : automations (segment j) ≡ automations j
  pub configured_are : configured (segment j) ≡ configured j
  pub carried_is : carried (segment j) ≡ length (closed_records j)

snoc : (n : ℕ) (xs : Journal) (x : Entry) → EachFrom (λ n y. ¬ BeginsSegment y) n xs → (BeginsSegment x → ⊥) → EachFrom (λ n y. ¬ BeginsSegment y) n (xs ++ (x ∷ []))
snoc n [] x h p = (p, tt)
snoc n (y ∷ ys) x h p = (h.0, snoc (suc n) ys x h.1 p)

journal-on : (s : Journal) (x : Entry) → one.IsJournal s → (BeginsSegment x → ⊥) → one.IsJournal (more s x)
journal-on [] x h p = absurd h
journal-on (e ∷ es) x h p = (h.0, snoc 1 es x h.1 p)

pub carried-on : (s : Journal) (x : Entry) → HasEntry s → carried (more s x) ≡ carried s
carried-on [] x h = absurd h
carried-on (e ∷ es) x h = refl

-- a Reload is one, read alone
pub alone-reload : (n : ℕ) (x : Entry) → reload_in (counted_from n x) ≡ reload_in x
alone-reload n (Boot text config stored start zone carry) = refl
alone-reload n (Line source number cmd) = refl
alone-reload n (Step worker serial branch item) = refl
alone-reload n (Again number start stored carry) = refl

-- the configuration in force with any entry more
pub configured-told : (j : Journal) (x : Entry) → HasEntry j → configured (more j x) ≡ option_map_or (in_place_of (configured j)) (reload_in x) (configured j)
configured-told j x h = (λ i. (force-more j x h i).config) ∙ by (reload_in x)
  where
    by : (o : Option Config) → (option_map_or (reloaded (force j)) o (force j)).config ≡ option_map_or (in_place_of (configured j)) o (configured j)
    by None = refl
    by (Some c) = refl

-- with an entry that opens no segment
pub cut-on : (j : Journal) (x : Entry) → IsCut j → HasEntry j → again_in x ≡ None → (IsBoot x → ⊥) → IsCut (more j x)
cut-on j x c has e not_boot =
    let s = segment j in
    let y = alone s x in
    let on : segment (more j x) ≡ more s y = segment-on j x e in
    let closed = closed-on j x e in
    let conf : configured (segment (more j x)) ≡ configured (more j x)
    = (λ i. configured (on i)) ∙ configured-told s y (has-entry s c.alone)
    ∙ (λ i. option_map_or (in_place_of (c.configured_are i)) (alone-reload (carried s) x i) (c.configured_are i))
    ∙ sym (configured-told j x has) in
    record {
      alone = subst one.IsJournal (sym on) (journal-on s y c.alone (alone-goes-on (carried s) x e not_boot));
      length_is =
          (λ i. entries_in (closed i) + length (on i)) ∙ omega (arith, c.length_is, length-more s y, length-more j x);
      automations_are = (λ i. (conf i).automations);
      configured_are = conf;
      carried_is =
          (λ i. carried (on i)) ∙ carried-on s y (has-entry s c.alone) ∙ c.carried_is ∙ (λ i. length (records_from 0 (sym closed i)));
    }

-- what a Boot opens again
pub record Opens (s : Journal) (a : Reopening) : Type 0 where
  pub boot : Entry
  pub is : reopened s a ≡ boot ∷ []
  pub is_boot : IsBoot boot
  pub configured_are : configured (boot ∷ []) ≡ configured s
  pub carried_is : carried (boot ∷ []) ≡ a.carry.serials

pub reopens : (s : Journal) (a : Reopening) → one.IsJournal s → Opens s a
reopens [] a h = absurd h
reopens (Boot text config stored start zone carry ∷ es) a h =
    record {
      boot = Boot text (configured (Boot text config stored start zone carry ∷ es)) (Some a.stored) a.start zone a.carry;
      is = refl;
      is_boot = tt;
      configured_are = refl;
      carried_is = refl;
    }
reopens (Line source number cmd ∷ es) a h = absurd h.0
reopens (Step worker serial branch item ∷ es) a h = absurd h.0
reopens (Again number start stored carry ∷ es) a h = absurd h.0

-- with the Again that is told by what stands before it
pub cut-again : (j : Journal) → IsCut j → HasEntry j → IsCut (more j (again_of j))
cut-again j c has =
    let x = again_of j in
    let s = segment j in
    let a : Reopening = record { number = _; start = _; stored = _; carry = carry_of j } in
    let o = reopens s a c.alone in
    let on : segment (more j x) ≡ o.boot ∷ [] = segment-again j x a refl ∙ o.is in
    let closed : (cut (more j x)).closed ≡ segments j = closed-again j x a refl in
    let conf : configured (segment (more j x)) ≡ configured (more j x)
    = (λ i. configured (on i)) ∙ o.configured_are ∙ c.configured_are ∙ configured-more j x has refl in
    record {
      alone = subst one.IsJournal (sym on) (o.is_boot, tt);
      length_is =
          (λ i. entries_in (closed i) + length (on i))
          ∙ omega (arith, entries-snoc (cut j).closed s, c.length_is, length-more j x);
      automations_are = (λ i. (conf i).automations);
      configured_are = conf;
      carried_is = (λ i. carried (on i)) ∙ o.carried_is ∙ (λ i. length (records_from 0 (sym closed i)));
    }

pub cut-behind : (j : Journal) (x : Entry) → IsCut j → HasEntry j → IsBehind j x → IsCut (more j x)
cut-behind j (Boot text config stored start zone carry) c has h = absurd h
cut-behind j (Line source number cmd) c has h = cut-on j (Line source number cmd) c has refl (λ b. b)
cut-behind j (Step worker serial branch item) c has h = cut-on j (Step worker serial branch item) c has refl (λ b. b)
cut-behind j (Again number start stored carry) c has h = subst (λ x. IsCut (more j x)) (sym h.1) (cut-again j c has)

cut-from : (before xs : Journal) → IsCut before → HasEntry before → EachAfter IsBehind before xs → IsCut (before ++ xs)
cut-from before [] c has h = subst IsCut (sym (append-nil before)) c
cut-from before (x ∷ xs) c has h =
    subst IsCut (append_assoc before (x ∷ []) xs) (cut-from (more before x) xs (cut-behind before x c has h.0) (has-more before x has) h.1)

pub cut-first : (e : Entry) → IsFirst e → IsCut (e ∷ [])
cut-first (Boot text config stored start zone carry) h =
    record { alone = (tt, tt); length_is = refl; automations_are = refl; configured_are = refl; carried_is = h.serials }
cut-first (Line source number cmd) h = absurd h
cut-first (Step worker serial branch item) h = absurd h
cut-first (Again number start stored carry) h = absurd h

-- LAW: the last segment of a journal is itself a journal, with the entries behind those before it, with the same configuration in force,
-- and it carries how many runs there were
pub is-cut : (j : Journal) → AreEntries j → IsCut j
is-cut [] h = absurd h
is-cut (e ∷ es) h = cut-from (e ∷ []) es (cut-first e h.0) tt h.1
