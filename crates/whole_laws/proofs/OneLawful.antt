-- A lawful journal of one segment is lawful as a whole journal.
use Rattle.std.proofs.Common.{◌≡◌, ℕ, ◌+◌, ◌-◌, ◌<◌, inl, inr, List, [], ◌∷◌, ◌++◌, length, map, false, refl, sym, subst, ◌∙◌, Option, append_assoc, append-nil}
use Rattle.std.specs.Prelude.{Some, None, drop, option_map}
use Rattle.std.specs.List.{list_any}
use Rattle.std.proofs.lemmas.Bool.{or_parts}
use Rattle.ha_model.specs.declared.record.EndCause.{EndCause}
use Rattle.ha_model.specs.declared.record.Record.{Record}
use Rattle.ha_journal.specs.declared.entry.Entry.{Entry}
use Rattle.ha_journal.specs.declared.entry.Entry.TheVariants.{Boot, Line, Step, Again}
use Rattle.ha_config.specs.Words.{EachAfter, EachFrom, EachWith, Text}
use Rattle.ha_config.specs.Names.{name_of}
use Rattle.ha_journal.specs.Entries.{again_in, is_restart, BeginsSegment}
use Rattle.ha_journal.proofs.ReloadLemmas.{fair-lets}
use Rattle.ha_journal.specs.Journal.{Journal, HasEntry, more, units}
use Rattle.ha_sight.specs.Scripts.{Branch}
use Rattle.ha_model.specs.Records.{Records}
use Rattle.ha_model.specs.Lawful as one
use Rattle.ha_whole.specs.Segments.{alone, carried, carried_number, counted_from, entries_in, front, segment}
use Rattle.ha_whole.specs.Whole.{AreEntries, IsBehind, IsDue, IsFirst, IsRightEntry, IsTurn, Lawful, ends_segment, is_rested, own, ready, taken_back}
use Rattle.ha_laws.proofs.PrefixLaws.{has-more}
use Rattle.whole_laws.specs.Segments.{HasNoAgain, HasNoRestart}
use Rattle.whole_laws.proofs.CutLemmas.{carried-on, closed-on, segment-on}
use Rattle.whole_laws.proofs.LiftLemmas.{ends-more}
use Rattle.whole_laws.proofs.OneSegment.{CarriesNone, IsOne, counted-zero, first-carries, first-one, less-zero, one-segment, plus-zero}

-- ---- each front is its one segment

record Alone (d : Journal) : Type 0 where
  is_one : IsOne d
  none : CarriesNone d

number-on : (s : Journal) (x : Entry) → HasEntry s → (name : Text) → carried_number (more s x) name ≡ carried_number s name
number-on [] x h name = absurd h
number-on (e ∷ es) x h name = refl

alone-on : (d : Journal) (x : Entry) → HasEntry d → again_in x ≡ None → Alone d → Alone (more d x)
alone-on d x h e a = record {
  is_one = record {
    is = segment-on d x e ∙ (λ i. more (a.is_one.is i) (alone (a.is_one.is i) x)) ∙ (λ i. more d (counted_from (a.none.serials i) x)) ∙ (λ i. more d (counted-zero x i));
    closed = closed-on d x e ∙ a.is_one.closed;
  };
  none = record { serials = carried-on d x h ∙ a.none.serials; numbers = λ name. number-on d x h name ∙ a.none.numbers name };
}

-- ---- a record that is taken back out of the only segment

back-zero : (n : ℕ) (s : Journal) → n ≡ 0 → CarriesNone s → (r : Record) → taken_back n s r ≡ r
back-zero n s z c r = λ i. record r {
  serial = ((λ i. r.serial - c.serials i) ∙ less-zero r.serial) i;
  number = ((λ i. r.number - c.numbers (name_of (units s) r.automation) i) ∙ less-zero r.number) i;
  place = ((λ i. r.place - z i) ∙ less-zero r.place) i;
  begin = begins r.begin i;
  end = ends r.end i;
}
  where
    begins : (o : Option ℕ) → option_map (λ p. p - n) o ≡ o
    begins None = refl
    begins (Some p) = (λ i. Some (((λ i. p - z i) ∙ less-zero p) i))

    ends : (o : Option (ℕ × EndCause)) → option_map {T = ℕ × EndCause} {U = ℕ × EndCause} (λ e. (e.0 - n, e.1)) o ≡ o
    ends None = refl
    ends (Some e) = (λ i. Some (((λ i. e.0 - z i) ∙ less-zero e.0) i, e.1))

back-all : (n : ℕ) (s : Journal) → n ≡ 0 → CarriesNone s → (rs : Records) → map {A = Record} {B = Record} (taken_back n s) rs ≡ rs
back-all n s z c [] = refl
back-all n s z c (r ∷ rs) = (λ i. back-zero n s z c r i ∷ back-all n s z c rs i)

module _ (d : Journal) (a : Alone d) (rs : Records) where
  own-all : own d rs ≡ rs
  own-all =
      let seg = a.is_one.is in
      let nothing : front d ≡ 0 = (λ i. entries_in (a.is_one.closed i)) in
      let none : CarriesNone (segment d) = subst CarriesNone (sym seg) a.none in
      (λ i. map {A = Record} {B = Record} (taken_back (front d) (segment d)) (drop (none.serials i) rs)) ∙ back-all (front d) (segment d) nothing none rs

  alone-same : (x : Entry) → alone (segment d) x ≡ x
  alone-same x = (λ i. counted_from (((λ i. carried (a.is_one.is i)) ∙ a.none.serials) i) x) ∙ counted-zero x

  right-whole : (x : Entry) → one.IsRightEntry rs d x → IsRightEntry rs d x
  right-whole x h = subst (λ l. one.IsRightEntry l (segment d) (alone (segment d) x)) (sym own-all)
      (subst (λ s. one.IsRightEntry rs s (alone (segment d) x)) (sym a.is_one.is) (subst (one.IsRightEntry rs d) (sym (alone-same x)) h))

  rested-whole : (k : ℕ) → is_rested rs k d ≡ one.is_rested rs k d
  rested-whole k = (λ i. one.is_rested (own-all i) k (a.is_one.is i))

  raised-none : (ps : List (ℕ × Branch)) → map {A = ℕ × Branch} {B = ℕ × Branch} (λ p. (0 + p.0, p.1)) ps ≡ ps
  raised-none [] = refl
  raised-none (p ∷ ps) = (λ i. (plus-zero p.0 i, p.1) ∷ raised-none ps i)

  ready-whole : ready rs d ≡ one.ready rs d
  ready-whole =
      (λ i. map {A = ℕ × Branch} {B = ℕ × Branch} (λ p. (((λ i. carried (a.is_one.is i)) ∙ a.none.serials) i + p.0, p.1)) (one.ready (own-all i) (a.is_one.is i)))
      ∙ raised-none (one.ready rs d)

  turn-whole : (x : Entry) → one.IsRightEntry rs d x → one.IsTurn rs d x → IsTurn rs d x
  turn-whole (Boot text config stored start zone carry) right h = tt
  turn-whole (Again number start stored carry) right h = tt
  turn-whole (Line k number cmd) right h = (h.0, rested-whole k ∙ h.1, h.2, h.3, fair-lets d cmd right)
  turn-whole (Step k serial branch item) right h =
      (subst (λ l. 0 < length l) (sym ready-whole) h.0, (λ i. one.pick k (ready-whole i)) ∙ h.1)

  due-whole : (xs : List Entry) → one.IsDue rs d xs → IsDue rs d xs
  due-whole [] h = tt
  due-whole (Boot text config stored start zone carry ∷ xs) h = tt
  due-whole (Again number start stored carry ∷ xs) h = tt
  due-whole (Line source number cmd ∷ xs) h = tt
  due-whole (Step k serial branch item ∷ xs) (inl busy) = inl (rested-whole k ∙ busy)
  due-whole (Step k serial branch item ∷ xs) (inr closing) = inr closing

-- ---- along the journal

each-both : (P Q : Journal → Entry → Type 0) (d xs : Journal) → EachAfter P d xs → EachAfter Q d xs → EachAfter (λ d x. P d x × Q d x) d xs
each-both P Q d [] p q = tt
each-both P Q d (x ∷ xs) p q = ((p.0, q.0), each-both P Q (more d x) xs p.1 q.1)

each-alone : (P Q : Journal → Entry → Type 0) → ((d : Journal) (x : Entry) → Alone d → P d x → Q d x) → (d xs : Journal) → HasEntry d → Alone d → HasNoAgain xs → EachAfter P d xs → EachAfter Q d xs
each-alone P Q f d [] h a none p = tt
each-alone P Q f d (x ∷ xs) h a none p = (f d x a p.0, each-alone P Q f (more d x) xs (has-more d x h) (alone-on d x h none.0 a) none.1 p.1)

due-alone : (rs : Records) (d xs : Journal) → HasEntry d → Alone d → HasNoAgain xs → EachWith (one.IsDue rs) d xs → EachWith (IsDue rs) d xs
due-alone rs d [] h a none p = tt
due-alone rs d (x ∷ xs) h a none p = (due-whole d a rs (x ∷ xs) p.0, due-alone rs (more d x) xs (has-more d x h) (alone-on d x h none.0 a) none.1 p.1)

no-agains : (n : ℕ) (xs : Journal) → EachFrom (λ n y. ¬ BeginsSegment y) n xs → HasNoAgain xs
no-agains n [] h = tt
no-agains n (Boot text config stored start zone carry ∷ xs) h = absurd (h.0 tt)
no-agains n (Again number start stored carry ∷ xs) h = absurd (h.0 tt)
no-agains n (Line source number cmd ∷ xs) h = (refl, no-agains _ xs h.1)
no-agains n (Step worker serial branch item ∷ xs) h = (refl, no-agains _ xs h.1)

behind-all : (d xs : Journal) → ends_segment d ≡ false → HasNoAgain xs → HasNoRestart xs → (n : ℕ) → EachFrom (λ n y. ¬ BeginsSegment y) n xs → EachAfter IsBehind d xs
behind-all d [] e none open_all n h = tt
behind-all d (x ∷ xs) e none open_all n h = (here x e h.0, behind-all (more d x) xs (ends-more d x ∙ open_all.0) none.1 open_all.1 _ h.1)
  where
    here : (x : Entry) → ends_segment d ≡ false → (BeginsSegment x → ⊥) → IsBehind d x
    here (Boot text config stored start zone carry) e other = absurd (other tt)
    here (Again number start stored carry) e other = absurd (other tt)
    here (Line source number cmd) e other = e
    here (Step worker serial branch item) e other = e

last-open : (d xs : Journal) → ends_segment d ≡ false → HasNoRestart xs → ends_segment (d ++ xs) ≡ false
last-open d [] e h = (λ i. ends_segment (append-nil d i)) ∙ e
last-open d (x ∷ xs) e h = (λ i. ends_segment (sym (append_assoc d (x ∷ []) xs) i)) ∙ last-open (more d x) xs (ends-more d x ∙ h.0) h.1

first-ends : (boot : Entry) → IsFirst boot → ends_segment (boot ∷ []) ≡ false
first-ends (Boot text config stored start zone carry) h = refl
first-ends (Line source number cmd) h = absurd h
first-ends (Step worker serial branch item) h = absurd h
first-ends (Again number start stored carry) h = absurd h

first-plain : (boot : Entry) → IsFirst boot → again_in boot ≡ None
first-plain (Boot text config stored start zone carry) h = refl
first-plain (Line source number cmd) h = absurd h
first-plain (Step worker serial branch item) h = absurd h
first-plain (Again number start stored carry) h = absurd h

module _ (rs : Records) where
  first-right : (boot : Entry) → IsFirst boot → IsRightEntry rs [] boot
  first-right (Boot text config stored start zone carry) h = tt
  first-right (Line source number cmd) h = absurd h
  first-right (Step worker serial branch item) h = absurd h
  first-right (Again number start stored carry) h = absurd h

  first-turn : (boot : Entry) → IsFirst boot → IsTurn rs [] boot
  first-turn (Boot text config stored start zone carry) h = tt
  first-turn (Line source number cmd) h = absurd h
  first-turn (Step worker serial branch item) h = absurd h
  first-turn (Again number start stored carry) h = absurd h

  first-due : (boot : Entry) (es : Journal) → IsFirst boot → IsDue rs [] (boot ∷ es)
  first-due (Boot text config stored start zone carry) es h = tt
  first-due (Line source number cmd) es h = absurd h
  first-due (Step worker serial branch item) es h = absurd h
  first-due (Again number start stored carry) es h = absurd h

-- where none is found there is none
pub no-restart : (xs : Journal) → list_any is_restart xs ≡ false → HasNoRestart xs
no-restart [] h = tt
no-restart (x ∷ xs) h = let p = or_parts (is_restart x) (list_any is_restart xs) h in (p.0, no-restart xs p.1)

-- LAW: what is lawful as one segment, and has no Restart, is lawful as a whole journal
pub one-lawful : (boot : Entry) (es : Journal) (rs : Records) → IsFirst boot → HasNoRestart es → one.Lawful (boot ∷ es) rs → Lawful (boot ∷ es) rs
one-lawful boot es rs first open_all h =
    let tail = h.right.journal.1 in
    let none = no-agains 1 es tail in
    let entries : AreEntries (boot ∷ es) = (first, behind-all (boot ∷ []) es (first-ends boot first) none open_all 1 tail) in
    let a : Alone (boot ∷ []) = record { is_one = first-one boot first; none = first-carries boot [] first } in
    record {
      right = record {
        journal = record { entries = entries; opened = last-open (boot ∷ []) es (first-ends boot first) open_all };
        records_are = h.right.records_are ∙ sym (one-segment (boot ∷ es) entries (first-plain boot first, none)).records_are;
        entries = (first-right rs boot first, each-alone (one.IsRightEntry rs) (IsRightEntry rs) (λ d x a p. right-whole d a rs x p) (boot ∷ []) es tt a none h.right.entries.1);
      };
      turns = (
        first-turn rs boot first,
        each-alone (λ d x. one.IsRightEntry rs d x × one.IsTurn rs d x) (IsTurn rs) (λ d x a p. turn-whole d a rs x p.0 p.1) (boot ∷ []) es tt a none
            (each-both (one.IsRightEntry rs) (one.IsTurn rs) (boot ∷ []) es h.right.entries.1 h.turns.1),
      );
      closed = (first-due rs boot es first, due-alone rs (boot ∷ []) es tt a none h.closed.1);
    }
