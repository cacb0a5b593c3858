-- What templates read, where one owner more has one, or one less; and who is known for it.
use Rattle.std.proofs.Common.{◌≡◌, ◌∙◌, ℕ, [], ◌∷◌, Bool, true, false, refl, sym, ap, subst, arith, rules}
use Rattle.std.specs.Prelude.{Option, Some, None, nat_eq, not, ◌&&◌, ◌||◌, if◌then◌else◌}
use Rattle.std.specs.BTreeMap.{BTreeMap, Updates, is_at}
use Rattle.std.specs.Map.{lookup}
use Rattle.std.specs.Ordering.{is_eq, nat_cmp}
use Rattle.std.proofs.lemmas.Bool.{eqb-true}
use Rattle.std.proofs.lemmas.Bool.Decides.{nat_tests}
use Rattle.event_bus.specs.Subjects.{Subject, by_read}
use Rattle.tpl_reads.specs.Reads.{Written}
use Rattle.wait_set.specs.Readers.{AreIndexed, Reads, hears, read_by}

-- ---- the list of owners, and the map

cmp-eq : (a b : ℕ) → is_eq (nat_cmp a b) ≡ nat_eq a b
cmp-eq a b = by (nat_eq a b) refl
  where
    by : (t : Bool) → nat_eq a b ≡ t → is_eq (nat_cmp a b) ≡ t
    by true e = grind (arith, nat_tests, e)
    by false e = grind (arith, nat_tests, e)

equal-self : (n : ℕ) → nat_eq n n ≡ true
equal-self n = search rules

-- LEMMA: the map's entry is the list's
pub found-is : (o : ℕ) (es : Reads) → lookup (is_at (nat_cmp o)) es ≡ read_by o es
found-is o [] = refl
found-is o (x ∷ xs) = (λ i. if cmp-eq o x.0 i then Some x.1 else found-is o xs i)

module _ (old new : BTreeMap ℕ Written) (o : ℕ) (w : Option Written) (updates : Updates nat_cmp old new o w) where
  updated : (n : ℕ) → read_by n new.entries ≡ (if nat_eq o n then w else read_by n old.entries)
  updated n =
      sym (found-is n new.entries) ∙ updates.0 n ∙ (λ i. if cmp-eq o n i then w else lookup (is_at (nat_cmp n)) old.entries)
      ∙ (λ i. if nat_eq o n then w else found-is n old.entries i)

  -- LEMMA: what the owner has
  pub read-here : read_by o new.entries ≡ w
  read-here = updated o ∙ (λ i. if equal-self o i then w else read_by o old.entries)

  -- LEMMA: and the others
  pub read-others : (n : ℕ) → nat_eq o n ≡ false → read_by n new.entries ≡ read_by n old.entries
  read-others n apart = updated n ∙ (λ i. if apart i then w else read_by n old.entries)

-- ---- who is known

-- LEMMA: all are known for what they read, where one owner's template changes
pub indexed-one : (o : ℕ) (old new : Reads) (known known' : Subject → ℕ → Bool) → ((s : Subject) → known' s o ≡ hears s (read_by o new))
    → ((n : ℕ) → nat_eq o n ≡ false → read_by n new ≡ read_by n old) → ((s : Subject) (n : ℕ) → nat_eq o n ≡ false → known' s n ≡ known s n)
    → AreIndexed old known → AreIndexed new known'
indexed-one o old new known known' here reads rest h s n = by (nat_eq o n) refl
  where
    by : (b : Bool) → nat_eq o n ≡ b → known' s n ≡ hears s (read_by n new)
    by true e = subst (λ (m : ℕ). known' s m ≡ hears s (read_by m new)) (eqb-true o n e) (here s)
    by false e = rest s n e ∙ h s n ∙ ap (hears s) (sym (reads n e))

not-both : (b : Bool) → (not b && b) ≡ false
not-both true = refl
not-both false = refl

pub or-none : (b c : Bool) → c ≡ false → (b || c) ≡ b
or-none true c none = refl
or-none false c none = none

-- LEMMA: an owner who is taken out is known for nothing
pub known-none : (s : Subject) (read : Written) (o : ℕ) (old new : Reads) (was is : Bool) → read_by o old ≡ Some read → read_by o new ≡ None
    → was ≡ hears s (read_by o old) → is ≡ (not (by_read read s) && was) → is ≡ hears s (read_by o new)
known-none s read o old new was is there gone h e =
    e ∙ (λ i. not (by_read read s) && (h ∙ ap (hears s) there) i) ∙ not-both (by_read read s) ∙ ap (hears s) (sym gone)

-- LEMMA: one who was known for a part of it alone is known for nothing any more
pub part-taken : (read old mid new : Bool) → old ≡ false → (mid ≡ true → (read || old) ≡ true) → new ≡ (not read && mid) → new ≡ false
part-taken true old mid new none part is = is
part-taken false old true new none part is = absurd (let bad : ◌≡◌ {A = Bool} false true = sym none ∙ part refl in cc)
part-taken false old false new none part is = is

-- LEMMA: nor one who was known for all of it
pub all-taken : (read mid new : Bool) → mid ≡ read → new ≡ (not read && mid) → new ≡ false
all-taken read mid new all is = is ∙ (λ i. not read && all i) ∙ not-both read
