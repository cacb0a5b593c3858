-- A restart line that was pushed: what the engine does from there on.
use Rattle.std.proofs.Common.{◌≡◌, ℕ, ◌+◌, ◌-◌, ◌^◌, ◌<◌, ◌≤◌, List, [], ◌∷◌, length, map, Bool, true, refl, sym, ap, subst, ◌∙◌, arith}
use Rattle.std.specs.Prelude.{IfSome, Option, None, Some, not, option_map, unwrap_or}
use Rattle.std.specs.List.{list_any}
use Rattle.ha_config.specs.declared.command.Cmd.{Cmd}
use Rattle.ha_config.specs.declared.config.Automation.{Automation}
use Rattle.ha_config.specs.declared.config.Config.{Config}
use Rattle.ha_config.specs.Equal.{same_flag}
use Rattle.ha_config.specs.Sound.{IsSoundConfig}
use Rattle.ha_journal.specs.declared.entry.Entry.TheVariants.{Line}
use Rattle.ha_journal.specs.Attempts.{passing}
use Rattle.ha_journal.specs.Force.{force, in_place_of}
use Rattle.ha_journal.specs.Journal.{Journal, configured, in_force, more}
use Rattle.ha_journal.specs.Switches.{is_on}
use Rattle.ha_journal.proofs.ForceLaws.{configured-more}
use Rattle.ha_journal.proofs.MoreLemmas.{has-entry, length-more}
use Rattle.ha_past.proofs.RestartLemmas.{restart-passes-none}
use Rattle.ha_model.specs.declared.record.EndCause.{EndCause}
use Rattle.ha_model.specs.Lawful.{Right}
use Rattle.ha_model.specs.Records.{records_of}
use Rattle.run_modes.specs.Table.{stopped}
use Rattle.ha_whole.specs.Lasts.{lasts_carried}
use Rattle.ha_whole.specs.Segments.{carried_number, segment}
use Rattle.ha_whole.specs.Whole.{again_of}
use Rattle.whole_laws.proofs.CutLemmas.{is-cut}
use Rattle.segment_runs.specs.Segment.{all_of}
use Rattle.switch_book.specs.Book as switches
use Rattle.named_runs.specs.Named.{NamedTable}
use Rattle.unit_book.specs.declared.book.UnitBook.{UnitBook}
use Rattle.unit_book.specs.Book.{Holds, config_at}
use Rattle.unit_book.proofs.BookLemmas.{holds-front}
use Rattle.engine_parts.specs.declared.parts.Parts.{Parts}
use Rattle.engine_parts.specs.Kept.{Kept}
use Rattle.ha_engine.specs.declared.bounds.Bounds.{Bounds}
use Rattle.ha_engine.specs.Begun.{IsBegun}
use Rattle.ha_engine.specs.Lies.{Follows}
use Rattle.ha_engine.specs.Noted.{AreNoted, are_in_time, known_lasts, moved_by, noted}
use Rattle.ha_engine.specs.Restarts.{ClosesWith, Reopened, Restarting, reopening}
use Rattle.ha_engine.specs.Told.{IsFollowed, IsTold}
use Rattle.ha_engine.proofs.NextLemmas.{begun, closes, entries-k, followed-n, holds-k, noted-n, on-k, reopened-n, segment-n, told-n}
use Rattle.ha_engine.proofs.ReopenLemmas.{reopened-configured}

-- the bounds are those of a segment that stands behind the journal
abbrev pub IsNextOf : Journal → Bounds → NamedTable → Bounds → Type 0
IsNextOf k b t next = Follows next (length k) (length (all_of t.closed t.list)) (b.segments + 1)

module _ (k : Journal) (b : Bounds) (u : UnitBook) (t : NamedTable) (p : Parts) (ls : List (Option ℕ)) (h : Restarting k b u t p ls) where
  abbrev s : Journal
  s = segment h.j

  abbrev r : Journal
  r = more h.j (Line h.source h.number Cmd.Restart)

  nothing : passing (more s (Line h.source h.number Cmd.Restart)) ≡ []
  nothing = restart-passes-none s h.source h.number

  pub starting-few : length k < 2 ^ 56
  starting-few = omega (arith, ap length h.journal_is, length-more h.j (Line h.source h.number Cmd.Restart), h.room.room)

  -- LAW: its book holds what is in force in the segment that closes
  pub starting-holds : Holds k (force (segment k)) u
  starting-holds = subst (λ i. Holds i (force (segment i)) u) (sym h.journal_is) (holds-k h.j h.source h.number b u t p ls h.told h.firsts_are h.kept h.lasts_are h.room nothing)

  -- LAW: the configuration in force is the one before the restart
  pub starting-config : (force (segment k)).config ≡ configured s
  starting-config = (λ i. (force (segment (h.journal_is i))).config)
      ∙ (λ i. (force (on-k h.j h.source h.number b u t p ls h.told h.firsts_are h.kept h.lasts_are h.room nothing i)).config)
      ∙ sym (configured-more s (Line h.source h.number Cmd.Restart) (has-entry s h.told.own_right.journal) refl)

  -- LAW: all stands for the segment that closes, with the switches that are set anew
  pub starting-closes : (q : Parts) → q.at ≡ p.at → q.numbers ≡ p.numbers → switches.StandsFor q.switches (more s (Line h.source h.number Cmd.Restart)) → ClosesWith k b u t q ls
  starting-closes q at numbers stand =
      subst (λ i. ClosesWith i b u t q ls) (sym h.journal_is) (closes h.j h.source h.number b u t p ls h.told h.firsts_are h.kept h.lasts_are h.room nothing q at numbers stand)

  -- the restart's place in its segment
  pub starting-place : length k - 1 - b.front ≡ length s
  starting-place = omega (arith, ap length h.journal_is, length-more h.j (Line h.source h.number Cmd.Restart), (is-cut h.j h.told.lies.entries).length_is, h.told.lies.front_is)

  pub starting-behind : b.front ≤ length k - 1
  starting-behind = omega (arith, ap length h.journal_is, length-more h.j (Line h.source h.number Cmd.Restart), (is-cut h.j h.told.lies.entries).length_is, h.told.lies.front_is)

  module _ (n : Journal) (next : Bounds) (is : n ≡ more k (again_of k)) (next_is : IsNextOf k b t next) where
    same-next : IsNextOf r b t next
    same-next = subst (λ i. IsNextOf i b t next) h.journal_is next_is

    same-n : n ≡ more r (again_of r)
    same-n = is ∙ (λ i. more (h.journal_is i) (again_of (h.journal_is i)))

    -- LAW: the next segment is opened behind it
    pub starting-reopened : Reopened n next p.zone p.at
    starting-reopened = subst (λ i. Reopened i next p.zone p.at) (sym same-n) (reopened-n h.j h.source h.number b u t p ls h.told h.firsts_are h.kept h.lasts_are h.room nothing next same-next)

    same-configured : configured (segment n) ≡ (force (segment k)).config
    same-configured =
        (λ i. configured (segment (same-n i)))
        ∙ (λ i. configured (segment-n h.j h.source h.number b u t p ls h.told h.firsts_are h.kept h.lasts_are h.room nothing i))
        ∙ reopened-configured (segment r) (reopening r) (is-cut r (entries-k h.j h.source h.number b u t p ls h.told h.firsts_are h.kept h.lasts_are h.room nothing)).alone
        ∙ (λ i. configured (segment (sym h.journal_is i)))

    holds-n : Holds n (force (segment k)) u
    holds-n = subst (λ i. Holds i (force (segment k)) u) (sym is) (holds-front k (again_of k ∷ []) (force (segment k)) u starting-holds)

    -- LAW: the configuration in force stands where it stood, but for its helpers
    pub starting-latest : option_map (in_place_of (configured (segment n))) (config_at n u.latest) ≡ Some (configured (segment n))
    starting-latest = subst (λ (d : Config). option_map (in_place_of d) (config_at n u.latest) ≡ Some d) (sym same-configured) holds-n.config_is

    pub starting-sound : IfSome (config_at n u.latest) IsSoundConfig
    starting-sound = holds-n.sound

    pub starting-begun : IsBegun (segment n)
    starting-begun = subst (λ i. IsBegun (segment i)) (sym same-n) (begun h.j h.source h.number b u t p ls h.told h.firsts_are h.kept h.lasts_are h.room nothing)

    module _ (u' : UnitBook) (t' : NamedTable) (p' : Parts) (ls' : List (Option ℕ)) (numbers' : List ℕ) (own_is : t'.list ≡ records_of (segment n)) (own_right : Right (segment n) t'.list)
        (kept' : Kept (segment n) t'.list p')
        (closed_is : t'.closed ≡ record { records = all_of t.closed (stopped None (length s) EndCause.Restarted t.list); entries = length k; numbers = numbers' }) (holds' : Holds n (force (segment n)) u')
        (numbers_is : numbers' ≡ map (carried_number (segment n)) u'.names) (firsts' : t'.firsts ≡ u'.firsts.items)
        (noted_is : ls' ≡ noted p'.at t'.firsts t'.list (known_lasts [] u'.names (lasts_carried (segment n)))) where
      closed-there : t'.closed ≡ record { records = all_of t.closed (stopped None (length s) EndCause.Restarted t.list); entries = length r; numbers = numbers' }
      closed-there = closed_is ∙ (λ i. record { records = all_of t.closed (stopped None (length s) EndCause.Restarted t.list); entries = length (h.journal_is i); numbers = numbers' })

      -- LAW: all stands for the journal with the opening
      pub starting-told : IsTold n next u' t'
      starting-told =
          subst (λ i. IsTold i next u' t') (sym same-n)
          (told-n h.j h.source h.number b u t p ls h.told h.firsts_are h.kept h.lasts_are h.room nothing next same-next u' t' p' ls' numbers'
          (own_is ∙ (λ i. records_of (segment (same-n i)))) (subst (λ i. Right (segment i) t'.list) same-n own_right) (subst (λ i. Kept (segment i) t'.list p') same-n kept') closed-there
          (subst (λ i. Holds i (force (segment i)) u') same-n holds') (numbers_is ∙ (λ i. map (carried_number (segment (same-n i))) u'.names)) firsts'
          (noted_is ∙ (λ i. noted p'.at t'.firsts t'.list (known_lasts [] u'.names (lasts_carried (segment (same-n i)))))))

      pub starting-followed : (reset : Bool) → reset ≡ list_any (λ (q : ℕ × Automation). not (same_flag (is_on s q.0) (unwrap_or q.1.initial (is_on s q.0)))) (in_force s) → IsFollowed n u' t' p' ls' reset
      starting-followed reset reset_is =
          subst (λ i. IsFollowed i u' t' p' ls' reset) (sym same-n)
          (followed-n h.j h.source h.number b u t p ls h.told h.firsts_are h.kept h.lasts_are h.room nothing next same-next u' t' p' ls' numbers'
          (own_is ∙ (λ i. records_of (segment (same-n i)))) (subst (λ i. Right (segment i) t'.list) same-n own_right) (subst (λ i. Kept (segment i) t'.list p') same-n kept') closed-there
          (subst (λ i. Holds i (force (segment i)) u') same-n holds') (numbers_is ∙ (λ i. map (carried_number (segment (same-n i))) u'.names)) firsts'
          (noted_is ∙ (λ i. noted p'.at t'.firsts t'.list (known_lasts [] u'.names (lasts_carried (segment (same-n i)))))) reset reset_is)

      pub starting-noted : are_in_time ls ≡ true → (moved : Bool) → moved ≡ moved_by p'.at t'.firsts u'.listed.items t'.list (known_lasts [] u'.names (lasts_carried (segment n))) → AreNoted n ls' moved
      starting-noted in_time moved moved_is =
          subst (λ i. AreNoted i ls' moved) (sym same-n)
          (noted-n h.j h.source h.number b u t p ls h.told h.firsts_are h.kept h.lasts_are h.room nothing next same-next u' t' p' ls' numbers'
          (own_is ∙ (λ i. records_of (segment (same-n i)))) (subst (λ i. Right (segment i) t'.list) same-n own_right) (subst (λ i. Kept (segment i) t'.list p') same-n kept') closed-there
          (subst (λ i. Holds i (force (segment i)) u') same-n holds') (numbers_is ∙ (λ i. map (carried_number (segment (same-n i))) u'.names)) firsts'
          (noted_is ∙ (λ i. noted p'.at t'.firsts t'.list (known_lasts [] u'.names (lasts_carried (segment (same-n i)))))) in_time moved
          (moved_is ∙ (λ i. moved_by p'.at t'.firsts u'.listed.items t'.list (known_lasts [] u'.names (lasts_carried (segment (same-n i)))))))
