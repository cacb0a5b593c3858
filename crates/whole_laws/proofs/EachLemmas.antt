-- Each segment of a right journal is right, read alone.
use Rattle.std.proofs.Common.{◌≡◌, ◌-◌, List, [], ◌∷◌, ◌++◌, length, refl, sym, subst, ◌∙◌, append_assoc}
use Rattle.std.specs.Prelude.{None, Some}
use Rattle.ha_journal.specs.declared.entry.Entry.{Entry}
use Rattle.ha_journal.specs.declared.entry.Entry.TheVariants.{Boot, Line, Step, Again}
use Rattle.ha_config.specs.Words.{EachAfter}
use Rattle.ha_journal.specs.Entries.{Reopening, again_in, IsBoot}
use Rattle.ha_journal.specs.Journal.{Journal, HasEntry, more}
use Rattle.ha_model.specs.Records as all
use Rattle.ha_model.specs.Records.{Records}
use Rattle.ha_model.specs.Lawful as one
use Rattle.ha_whole.specs.Segments.{alone, carried, cut, segment, segments}
use Rattle.ha_whole.specs.Whole.{IsBehind, IsFirst, IsRightEntry, Right, own, records_of}
use Rattle.ha_config.proofs.ListLemmas.{append-nil}
use Rattle.ha_model.proofs.AppendLemmas.{SameUpTo}
use Rattle.ha_model.proofs.LawfulLaws as one_laws
use Rattle.whole_laws.specs.Segments.{EachRight}
use Rattle.whole_laws.proofs.CutLemmas.{IsCut, alone-goes-on, closed-again, closed-on, cut-behind, cut-first, reopens, segment-again, segment-on}
use Rattle.whole_laws.proofs.GrowthLemmas.{own-is, own-same}
use Rattle.ha_laws.proofs.PrefixLaws.{has-more}
use Rattle.whole_laws.proofs.PrefixLemmas.{records-prefix}
use Rattle.ha_laws.proofs.RightMore.{right-back}

abbrev pub RightAlone : Journal → Type 0
RightAlone s = one.Right s (all.records_of s)

pub record Segs (d : Journal) : Type 0 where
  pub closed : EachRight (cut d).closed
  pub last : RightAlone (segment d)

each-snoc-right : (ss : List Journal) (s : Journal) → EachRight ss → RightAlone s → EachRight (ss ++ (s ∷ []))
each-snoc-right [] s h r = (r, tt)
each-snoc-right (t ∷ ss) s h r = (h.0, each-snoc-right ss s h.1 r)

boot-right : (x : Entry) → IsBoot x → RightAlone (x ∷ [])
boot-right (Boot text config stored start zone carry) h = record { journal = (tt, tt); records_are = refl; entries = (tt, tt) }
boot-right (Line source number cmd) h = absurd h
boot-right (Step worker serial branch item) h = absurd h
boot-right (Again number start stored carry) h = absurd h

-- an entry that is right by records that are the same up to here is right by those of the last segment alone
pub right-alone : (d : Journal) (rs : Records) (x : Entry) → IsCut d → SameUpTo (length d) (records_of d) rs → IsRightEntry rs d x → one.IsRightEntry (all.records_of (segment d)) (segment d) (alone (segment d) x)
right-alone d rs x c same h =
    let s = segment d in
    let seen : SameUpTo (length s) (all.records_of s) (own d rs) = subst (λ l. SameUpTo (length s) l (own d rs)) (own-is d c) (own-same d (records_of d) rs c same) in
    right-back (length s) (all.records_of s) (own d rs) seen s (alone s x) refl h

-- with an entry that opens no segment, right by records that are the same up to here
segs-on : (d : Journal) (rs : Records) (x : Entry) → IsCut d → again_in x ≡ None → (IsBoot x → ⊥) → SameUpTo (length d) (records_of d) rs → IsRightEntry rs d x → Segs d → Segs (more d x)
segs-on d rs x c e not_boot same h g =
    let s = segment d in
    let y = alone s x in
    let right = right-alone d rs x c same h in
    let next = one_laws.right-more s (all.records_of s) y g.last (alone-goes-on (carried s) x e not_boot) right in
    let on : segment (more d x) ≡ more s y = segment-on d x e in
    record {
      closed = subst EachRight (sym (closed-on d x e)) g.closed;
      last = subst RightAlone (sym on) (subst (one.Right (more s y)) next.records_are next);
    }

segs-again : (d : Journal) (x : Entry) (a : Reopening) → IsCut d → again_in x ≡ Some a → Segs d → Segs (more d x)
segs-again d x a c e g =
    let o = reopens (segment d) a c.alone in
    let on : segment (more d x) ≡ o.boot ∷ [] = segment-again d x a e ∙ o.is in
    record {
      closed = subst EachRight (sym (closed-again d x a e)) (each-snoc-right (cut d).closed (segment d) g.closed g.last);
      last = subst RightAlone (sym on) (boot-right o.boot o.is_boot);
    }

pub segs-behind : (d : Journal) (rs : Records) (x : Entry) → IsCut d → IsBehind d x → SameUpTo (length d) (records_of d) rs → IsRightEntry rs d x → Segs d → Segs (more d x)
segs-behind d rs (Boot text config stored start zone carry) c b same h g = absurd b
segs-behind d rs (Line source number cmd) c b same h g = segs-on d rs (Line source number cmd) c refl (λ h. h) same h g
segs-behind d rs (Step worker serial branch item) c b same h g = segs-on d rs (Step worker serial branch item) c refl (λ h. h) same h g
segs-behind d rs (Again number start stored carry) c b same h g =
    segs-again d (Again number start stored carry) (record { number = number; start = start; stored = stored; carry = carry }) c refl g

segs-from : (d xs : Journal) (rs : Records) → IsCut d → HasEntry d → rs ≡ records_of (d ++ xs) → EachAfter IsBehind d xs → EachAfter (IsRightEntry rs) d xs → Segs d → Segs (d ++ xs)
segs-from d [] rs c has e b h g = subst Segs (sym (append-nil d)) g
segs-from d (x ∷ xs) rs c has e b h g =
    let same : SameUpTo (length d) (records_of d) rs = subst (SameUpTo (length d) (records_of d)) (sym e) (records-prefix d (x ∷ xs) c has b) in
    subst Segs (append_assoc d (x ∷ []) xs)
    (segs-from (more d x) xs rs (cut-behind d x c has b.0) (has-more d x has) (e ∙ (λ i. records_of (sym (append_assoc d (x ∷ []) xs) i))) b.1 h.1 (segs-behind d rs x c b.0 same h.0 g))

pub first-segs : (e : Entry) → IsFirst e → Segs (e ∷ [])
first-segs (Boot text config stored start zone carry) h = record { closed = tt; last = boot-right (Boot text config stored start zone carry) tt }
first-segs (Line source number cmd) h = absurd h
first-segs (Step worker serial branch item) h = absurd h
first-segs (Again number start stored carry) h = absurd h

-- LAW: each segment of a right journal is right, read alone
pub each-right : (j : Journal) (rs : Records) → Right j rs → EachRight (segments j)
each-right [] rs h = absurd h.journal.entries
each-right (e ∷ es) rs h =
    let b = h.journal.entries in
    let g = segs-from (e ∷ []) es rs (cut-first e b.0) tt h.records_are b.1 h.entries.1 (first-segs e b.0) in
    each-snoc-right (cut (e ∷ es)).closed (segment (e ∷ es)) g.closed g.last
