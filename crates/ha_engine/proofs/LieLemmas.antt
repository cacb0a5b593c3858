-- The last segment, where it lies in the list of all entries.
use Rattle.std.proofs.Common.{◌≡◌, ◌+◌, ◌^◌, ◌<◌, [], ◌∷◌, length, sym, subst, ◌∙◌, arith}
use Rattle.ha_journal.specs.declared.entry.Entry.{Entry}
use Rattle.ha_journal.specs.Journal.{Journal, more}
use Rattle.ha_journal.proofs.MoreLemmas.{length-more}
use Rattle.ha_whole.specs.Segments.{front, segment}
use Rattle.segment_view.specs.Views.{HasBoot, seen_at}
use Rattle.whole_laws.proofs.SeenLemmas.{front-below, has-boot, seen-there}
use Rattle.ha_engine.specs.declared.bounds.Bounds.{Bounds}
use Rattle.ha_engine.specs.Lies.{Lies}

module _ (j : Journal) (b : Bounds) (h : Lies j b) where
  -- LAW: it is what is seen behind so many entries and runs
  pub lies-seen : seen_at j b.front b.base ≡ segment j
  lies-seen = (λ i. seen_at j (h.front_is i) (h.base_is i)) ∙ sym (seen-there j h.entries)

  pub lies-boot : HasBoot j
  lies-boot = has-boot j h.entries

  pub lies-few : length j < 2 ^ 56
  lies-few = omega (arith, h.few)

  pub lies-front : b.front < length j
  lies-front = subst (λ n. n < length j) (sym h.front_is) (front-below j h.entries)

  module _ (k : Journal) (x : Entry) (is : k ≡ more j x) where
    pub more-boot : HasBoot k
    more-boot = subst HasBoot (sym is) (by j lies-boot)
      where
        by : (i : Journal) → HasBoot i → HasBoot (more i x)
        by [] g = absurd g
        by (e ∷ es) g = g

    pub more-few : length k < 2 ^ 56
    more-few = subst (λ l. length l < 2 ^ 56) (sym is) (omega (arith, h.few, length-more j x))

    pub more-front : b.front + 1 < length k
    more-front = subst (λ l. b.front + 1 < length l) (sym is) (omega (arith, lies-front, length-more j x))

    pub more-seen : more (seen_at j b.front b.base) x ≡ more (segment j) x
    more-seen = (λ i. more (lies-seen i) x)
