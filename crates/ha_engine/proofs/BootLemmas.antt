-- The engine after the boot.
use Rattle.std.proofs.Common.{◌≡◌, ℕ, zero, suc, ◌+◌, ◌≤◌, inl, inr, List, [], ◌∷◌, length, map, Bool, true, refl, sym, ap, subst, ◌∙◌, arith}
use Rattle.std.specs.Prelude.{Option, ◌⊎◌}
use Rattle.ha_clock.specs.Local.{last_moment}
use Rattle.ha_config.specs.declared.config.Config.{Config}
use Rattle.ha_config.specs.Names.{of_automations}
use Rattle.ha_config.specs.Sound.{AreSoundMoments, IsSoundConfig}
use Rattle.ha_config.specs.Words.{Text}
use Rattle.ha_config.proofs.OrderLemmas.{moments-kept, moments-named}
use Rattle.ha_journal.specs.declared.entry.Entry.{Entry}
use Rattle.ha_journal.specs.declared.entry.Entry.TheVariants.{Boot}
use Rattle.ha_journal.specs.Entries.{first_carry}
use Rattle.ha_journal.specs.Force.{force}
use Rattle.ha_journal.specs.Journal.{Journal, names, now}
use Rattle.ha_model.specs.Lawful as one
use Rattle.ha_model.specs.Records as all
use Rattle.ha_whole.specs.Named.{named}
use Rattle.ha_whole.specs.Whole.{AreEntries, IsFirst, Right, most_entries, most_in_segment, records_of}
use Rattle.segment_runs.specs.Segment.{all_of, number_at}
use Rattle.named_runs.specs.Named.{NamedTable}
use Rattle.unit_book.specs.declared.book.UnitBook.{UnitBook}
use Rattle.unit_book.specs.Book.{Holds}
use Rattle.store_text.specs.Store.{Moments, Switches}
use Rattle.engine_parts.specs.declared.parts.Parts.{Parts}
use Rattle.engine_parts.specs.Kept.{Kept}
use Rattle.ha_engine.specs.declared.bounds.Bounds.{Bounds}
use Rattle.ha_engine.specs.Lies.{Follows}
use Rattle.ha_engine.specs.Noted.{AreNoted, are_in_time, known_lasts, noted}
use Rattle.ha_engine.specs.Told.{AreLasts, AreRuns, IsFollowed, IsTold}
use Rattle.ha_engine.proofs.BeginLemmas.{boot-right, starts}
use Rattle.ha_engine.proofs.FollowedLemmas.{firsts-told}
use Rattle.ha_engine.proofs.LastsLemmas.{lasts-opened}
use Rattle.ha_engine.proofs.MovedLemmas.{noted-in-time}
use Rattle.ha_engine.proofs.StoredLemmas.{carried-in-time}
use Rattle.ha_engine.proofs.WholeLemmas.{all-records}
use Rattle.ha_engine.proofs.NextLemmas.{known-none}

-- the journal that is the boot alone: of the moments those are taken over whose names automations have
abbrev pub booted : Text → Config → Option Switches → ℕ → Text → Moments → Journal
booted text config stored start zone last = Boot text config stored start zone (first_carry (of_automations config.automations last)) ∷ []

module _ (text : Text) (config : Config) (stored : Option Switches) (start : ℕ) (zone : Text) (sound : IsSoundConfig config) (last : Moments) (moments : AreSoundMoments last) where
  -- what is taken over of the moments
  abbrev known : Moments
  known = of_automations config.automations last

  abbrev x : Entry
  x = Boot text config stored start zone (first_carry known)

  abbrev k : Journal
  k = x ∷ []

  first : IsFirst x
  first = record {
    serials = refl;
    numbers = refl;
    lines = refl;
    shut = refl;
    last = moments-named config.automations last;
    ordered = (moments-kept config.automations last moments).ordered;
  }

  entries : AreEntries k
  entries = (first, tt)

  number-none : (n : ℕ) → number_at [] n ≡ 0
  number-none zero = refl
  number-none (suc n) = refl

  module _ (t : NamedTable) (b : Bounds) (u : UnitBook) (own : t.list ≡ all.records_of k) (closed : t.closed ≡ record { records = []; entries = 0; numbers = [] }) (b_is : Follows b 0 0 1) (holds : Holds k (force k) u)
      (firsts : t.firsts ≡ u.firsts.items) where
    runs-boot : AreRuns k t
    runs-boot = record {
      own = own;
      records = (λ i. (closed i).records);
      entries = (λ i. (closed i).entries);
      numbers = λ a lt. (λ i. number_at (closed i).numbers a) ∙ number-none a;
    }

    all-boot : all_of t.closed t.list ≡ records_of k
    all-boot = sym (all-records k t entries runs-boot)

    right-boot : Right k (records_of k)
    right-boot = record { journal = record { entries = entries; opened = refl }; records_are = refl; entries = (tt, tt) }

    -- LAW: all stands for the boot alone
    pub told-boot : IsTold k b u t
    told-boot = record {
      right = subst (Right k) (sym all-boot) right-boot;
      own_right = subst (one.Right k) (sym own) (boot-right text config stored start zone (first_carry known));
      runs = runs-boot;
      lies = record { entries = entries; few = omega arith; front_is = b_is.front_is; base_is = b_is.base_is };
      bounded = record {
        segments_are = b_is.segments_are;
        few = omega (arith, b_is.segments_are);
        limit = b_is.limit;
        within = by b_is.limit.is;
      };
      holds = holds;
    }
      where
        by : (b.limit ≡ 0 + most_in_segment) ⊎ (b.limit ≡ most_entries) → length k ≤ b.limit
        by (inl e) = omega (arith, e)
        by (inr e) = omega (arith, e)

    -- the moments of its units before it
    abbrev before : List (Option ℕ)
    before = map (λ name. named name known) (names k)

    known-are : known_lasts [] u.names known ≡ before
    known-are = known-none u.names known ∙ ap (map (λ name. named name known)) holds.names_are

    noted-there : (ls' : List (Option ℕ)) → ls' ≡ noted start t.firsts t.list (known_lasts [] u.names known) → ls' ≡ noted (now k) u.firsts.items (all.records_of k) before
    noted-there ls' is = is ∙ (λ i. noted (starts text config stored start zone (first_carry known) i) (firsts i) (own i) (known-are i))

    pub followed-boot : (p : Parts) (ls' : List (Option ℕ)) → Kept k t.list p → ls' ≡ noted start t.firsts t.list (known_lasts [] u.names known) → IsFollowed k u t p ls' true
    followed-boot p ls' kept is = record {
      kept = kept;
      firsts_are = firsts;
      lasts_are = subst (AreLasts k u) (sym (noted-there ls' is)) (lasts-opened k u tt (firsts-told k k u holds));
      reset_is = λ e. refl;
    }

    pub noted-boot : (ls' : List (Option ℕ)) (moved : Bool) → start ≤ last_moment → ls' ≡ noted start t.firsts t.list (known_lasts [] u.names known) → AreNoted k ls' moved
    noted-boot ls' moved le is = record {
      in_time = subst (λ l. are_in_time l ≡ true) (sym is)
          (noted-in-time start t.firsts t.list (known_lasts [] u.names known) le
          (subst (λ l. are_in_time l ≡ true) (sym known-are) (carried-in-time (names k) known (moments-kept config.automations last moments).in_time)));
      carried = (moments-kept config.automations last moments).in_time;
      moved_is = λ many plain. absurd (many refl);
    }
