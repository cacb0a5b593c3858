use Rattle.std.proofs.Common.{◌≡◌, ◌+◌, ◌-◌, ◌≤◌, [], length, map, take, refl, sym, ap, subst, ◌∙◌, arith}
use Rattle.std.specs.Prelude.{IfSome, None, Some, option_map, zip}
use Rattle.ha_config.specs.declared.command.Cmd.{Cmd}
use Rattle.ha_config.specs.declared.config.Config.{Config}
use Rattle.ha_config.specs.Sound.{IsSoundConfig}
use Rattle.ha_journal.specs.declared.entry.Entry.TheVariants.{Line}
use Rattle.ha_journal.specs.Force.{IsAlike, force, in_place_of}
use Rattle.ha_journal.specs.Journal.{Journal, configured, in_force, more}
use Rattle.ha_journal.proofs.MoreLemmas.{length-more, has-entry}
use Rattle.ha_model.specs.declared.record.EndCause.{EndCause}
use Rattle.run_modes.specs.Table.{stopped}
use Rattle.ha_whole.specs.Lasts.{lasts_carried}
use Rattle.ha_whole.specs.Segments.{carried_number, segment}
use Rattle.ha_whole.specs.Whole.{again_of}
use Rattle.segment_runs.specs.Segment.{all_of}
use Rattle.unit_book.specs.declared.book.UnitBook.{UnitBook}
use Rattle.unit_book.specs.Book.{Holds, config_at}
use Rattle.engine_parts.specs.declared.parts.Parts.{Parts}
use Rattle.ha_engine.specs.Lies.{Follows}
use Rattle.ha_engine.specs.Named.{AreFirsts}
use Rattle.ha_engine.specs.Next.{IsNextSegment}
use Rattle.ha_engine.specs.Noted.{known_lasts, moved_by, noted}
use Rattle.ha_engine.specs.Restarts.{ClosesWith, Reopened}
use Rattle.ha_engine.proofs.AdmitLemmas.{known-stack}
use Rattle.ha_engine.proofs.ChangeLemmas.{take-less}
use Rattle.ha_engine.proofs.FollowedLemmas.{firsts-told}
use Rattle.ha_engine.proofs.RestartLine.{numbers-many, zip-force}
use Rattle.ha_engine.proofs.RestartingLemmas.{IsNextOf, starting-begun, starting-behind, starting-closes, starting-config, starting-few, starting-followed, starting-holds, starting-latest, starting-noted, starting-place, starting-reopened, starting-sound, starting-told}
use Rattle.ha_engine.proofs.restart.follow_restart.Goals as goal

pub configuration-requires : goal.configuration-requires
configuration-requires c =
    let k : Journal = c.args.journal.now.items in
    let b = c.args.bounds.now in
    let u = c.args.book.now in
    let t = c.args.runs.now in
    let p : Parts = c.args.parts.now in
    let ls = c.args.lasts.now.items in
    let h = c.requires.restarting in
    (force (segment k), subst (λ i. Holds i (force (segment k)) u) (sym c.as_slice.ensures.value) (starting-holds k b u t p ls h))

pub reset_switches-reset-requires : goal.reset_switches-reset-requires
reset_switches-reset-requires c =
    let k : Journal = c.args.journal.now.items in
    let b = c.args.bounds.now in
    let u = c.args.book.now in
    let t = c.args.runs.now in
    let p : Parts = c.args.parts.now in
    let ls = c.args.lasts.now.items in
    let h = c.requires.restarting in
    let config : IsAlike c.configuration.result.now (force (segment k)).config = c.configuration.ensures (force (segment k)) (subst (λ i. Holds i (force (segment k)) u) (sym c.as_slice.ensures.value) (starting-holds k b u t p ls h)) in
    subst (λ (d : Config). length d.automations ≤ length p.numbers) (sym (config ∙ starting-config k b u t p ls h)) (numbers-many (segment h.j) p.numbers h.kept.going.sees.looks.numbers_are)

pub push_again-requires-clause-stands : goal.push_again-requires-clause-stands
push_again-requires-clause-stands c =
    let k : Journal = c.args.journal.now.items in
    let b = c.args.bounds.now in
    let u = c.args.book.now in
    let t = c.args.runs.now in
    let p : Parts = c.args.parts.now in
    let ls = c.args.lasts.now.items in
    let h = c.requires.restarting in
    let config : IsAlike c.configuration.result.now (force (segment k)).config = c.configuration.ensures (force (segment k)) (subst (λ i. Holds i (force (segment k)) u) (sym c.as_slice.ensures.value) (starting-holds k b u t p ls h)) in
    let rules = ap (λ (d : Config). d.automations) (config ∙ starting-config k b u t p ls h) in
    let q : Parts = c.reset_switches-reset.new.parts in
    let rest = c.reset_switches-reset.ensures.rest in
    let stand = c.reset_switches-reset.ensures.stands (segment h.j) h.source h.number (has-entry (segment h.j) h.told.own_right.journal) (sym rules) h.kept.going.sees.switches_stand in
    subst (λ l. ClosesWith k b u t q l) (sym c.as_slice-2.ensures.value) (starting-closes k b u t p ls h q (ap (λ (v : Parts). v.at) rest) (ap (λ (v : Parts). v.numbers) rest) stand)

pub next-behind-requires-clause-front : goal.next-behind-requires-clause-front
next-behind-requires-clause-front c =
    let h = c.requires.restarting in
    omega (arith, c.len-front.ensures, c.push_again.new.journal.ok.0, ap length c.in_ok-push_again.ensures.put, length-more c.args.journal.now.items (again_of c.args.journal.now.items), ap length h.journal_is, length-more h.j (Line h.source h.number Cmd.Restart), h.room.room)

pub next-behind-requires-clause-segments : goal.next-behind-requires-clause-segments
next-behind-requires-clause-segments c =
    let h = c.requires.restarting in
    omega (arith, h.told.bounded.segments_are, (h.room.restart refl).1)

pub open_next-requires-clause-reopened : goal.open_next-requires-clause-reopened
open_next-requires-clause-reopened c =
    let k : Journal = c.args.journal.now.items in
    let b = c.args.bounds.now in
    let u = c.args.book.now in
    let t = c.args.runs.now in
    let p : Parts = c.args.parts.now in
    let ls = c.args.lasts.now.items in
    let h = c.requires.restarting in
    let n : Journal = c.push_again.new.journal.items in
    let put : n ≡ more k (again_of k) = c.in_ok-push_again.ensures.put in
    let front : c.len-front.result - 1 ≡ length k = omega (arith, c.len-front.ensures, c.push_again.new.journal.ok.0, ap length put, length-more k (again_of k)) in
    let next_is : IsNextOf k b t c.next-behind.result
    = subst (λ m. Follows c.next-behind.result m (length (all_of t.closed t.list)) (b.segments + 1)) front (subst (λ m. Follows c.next-behind.result (c.len-front.result - 1) m (b.segments + 1)) c.count_runs.ensures c.next-behind.ensures) in
    let rest = c.reset_switches-reset.ensures.rest in
    let q : Parts = c.reset_switches-reset.new.parts in
    let made : Reopened n c.next-behind.result p.zone p.at = starting-reopened k b u t p ls h n c.next-behind.result put next_is in
    subst (λ (i : Journal). Reopened i c.next-behind.result q.zone q.at) (sym c.as_slice-3.ensures.value)
    (subst (λ (v : Parts). Reopened n c.next-behind.result v.zone v.at) (sym rest) made)

pub open_next-requires-clause-config : goal.open_next-requires-clause-config
open_next-requires-clause-config c =
    let k : Journal = c.args.journal.now.items in
    let b = c.args.bounds.now in
    let u = c.args.book.now in
    let t = c.args.runs.now in
    let p : Parts = c.args.parts.now in
    let ls = c.args.lasts.now.items in
    let h = c.requires.restarting in
    let n : Journal = c.push_again.new.journal.items in
    let put : n ≡ more k (again_of k) = c.in_ok-push_again.ensures.put in
    let front : c.len-front.result - 1 ≡ length k = omega (arith, c.len-front.ensures, c.push_again.new.journal.ok.0, ap length put, length-more k (again_of k)) in
    let next_is : IsNextOf k b t c.next-behind.result
    = subst (λ m. Follows c.next-behind.result m (length (all_of t.closed t.list)) (b.segments + 1)) front (subst (λ m. Follows c.next-behind.result (c.len-front.result - 1) m (b.segments + 1)) c.count_runs.ensures c.next-behind.ensures) in
    subst (λ (i : Journal). option_map (in_place_of (configured (segment i))) (config_at i c.latest.result) ≡ Some (configured (segment i))) (sym c.as_slice-3.ensures.value)
    (subst (λ m. option_map (in_place_of (configured (segment n))) (config_at n m) ≡ Some (configured (segment n))) (sym c.latest.ensures) (starting-latest k b u t p ls h n c.next-behind.result put next_is))

pub open_next-requires-clause-sound : goal.open_next-requires-clause-sound
open_next-requires-clause-sound c =
    let k : Journal = c.args.journal.now.items in
    let b = c.args.bounds.now in
    let u = c.args.book.now in
    let t = c.args.runs.now in
    let p : Parts = c.args.parts.now in
    let ls = c.args.lasts.now.items in
    let h = c.requires.restarting in
    let n : Journal = c.push_again.new.journal.items in
    let put : n ≡ more k (again_of k) = c.in_ok-push_again.ensures.put in
    let front : c.len-front.result - 1 ≡ length k = omega (arith, c.len-front.ensures, c.push_again.new.journal.ok.0, ap length put, length-more k (again_of k)) in
    let next_is : IsNextOf k b t c.next-behind.result
    = subst (λ m. Follows c.next-behind.result m (length (all_of t.closed t.list)) (b.segments + 1)) front (subst (λ m. Follows c.next-behind.result (c.len-front.result - 1) m (b.segments + 1)) c.count_runs.ensures c.next-behind.ensures) in
    subst (λ (i : Journal). IfSome (config_at i c.latest.result) IsSoundConfig) (sym c.as_slice-3.ensures.value)
    (subst (λ m. IfSome (config_at n m) IsSoundConfig) (sym c.latest.ensures) (starting-sound k b u t p ls h n c.next-behind.result put next_is))

pub overflow_sub-place-2 : goal.overflow_sub-place-2
overflow_sub-place-2 c =
    let k : Journal = c.args.journal.now.items in
    let b = c.args.bounds.now in
    let u = c.args.book.now in
    let t = c.args.runs.now in
    let p : Parts = c.args.parts.now in
    let ls = c.args.lasts.now.items in
    let h = c.requires.restarting in
    let n : Journal = c.push_again.new.journal.items in
    let put : n ≡ more k (again_of k) = c.in_ok-push_again.ensures.put in
    let front : c.len-front.result - 1 ≡ length k = omega (arith, c.len-front.ensures, c.push_again.new.journal.ok.0, ap length put, length-more k (again_of k)) in
    let next_is : IsNextOf k b t c.next-behind.result
    = subst (λ m. Follows c.next-behind.result m (length (all_of t.closed t.list)) (b.segments + 1)) front (subst (λ m. Follows c.next-behind.result (c.len-front.result - 1) m (b.segments + 1)) c.count_runs.ensures c.next-behind.ensures) in
    omega (arith, starting-behind k b u t p ls h, front)

pub turn_over-opened-requires-clause-place : goal.turn_over-opened-requires-clause-place
turn_over-opened-requires-clause-place c =
    let k : Journal = c.args.journal.now.items in
    let b = c.args.bounds.now in
    let u = c.args.book.now in
    let t = c.args.runs.now in
    let p : Parts = c.args.parts.now in
    let ls = c.args.lasts.now.items in
    let h = c.requires.restarting in
    let n : Journal = c.push_again.new.journal.items in
    let put : n ≡ more k (again_of k) = c.in_ok-push_again.ensures.put in
    let front : c.len-front.result - 1 ≡ length k = omega (arith, c.len-front.ensures, c.push_again.new.journal.ok.0, ap length put, length-more k (again_of k)) in
    let next_is : IsNextOf k b t c.next-behind.result
    = subst (λ m. Follows c.next-behind.result m (length (all_of t.closed t.list)) (b.segments + 1)) front (subst (λ m. Follows c.next-behind.result (c.len-front.result - 1) m (b.segments + 1)) c.count_runs.ensures c.next-behind.ensures) in
    omega (arith, front, starting-few k b u t p ls h)

pub turn_over-opened-requires-clause-front : goal.turn_over-opened-requires-clause-front
turn_over-opened-requires-clause-front c =
    let k : Journal = c.args.journal.now.items in
    let b = c.args.bounds.now in
    let u = c.args.book.now in
    let t = c.args.runs.now in
    let p : Parts = c.args.parts.now in
    let ls = c.args.lasts.now.items in
    let h = c.requires.restarting in
    let n : Journal = c.push_again.new.journal.items in
    let put : n ≡ more k (again_of k) = c.in_ok-push_again.ensures.put in
    let front : c.len-front.result - 1 ≡ length k = omega (arith, c.len-front.ensures, c.push_again.new.journal.ok.0, ap length put, length-more k (again_of k)) in
    let next_is : IsNextOf k b t c.next-behind.result
    = subst (λ m. Follows c.next-behind.result m (length (all_of t.closed t.list)) (b.segments + 1)) front (subst (λ m. Follows c.next-behind.result (c.len-front.result - 1) m (b.segments + 1)) c.count_runs.ensures c.next-behind.ensures) in
    omega (arith, front, starting-few k b u t p ls h)

pub turn_over-opened-requires-clause-spare : goal.turn_over-opened-requires-clause-spare
turn_over-opened-requires-clause-spare c = c.in-Ok.ensures.next.room_runs

pub turn_over-opened-requires-clause-room : goal.turn_over-opened-requires-clause-room
turn_over-opened-requires-clause-room c = c.in-Ok.ensures.next.room

pub turn_over-opened-requires-clause-opens : goal.turn_over-opened-requires-clause-opens
turn_over-opened-requires-clause-opens c = c.in-Ok.ensures.next.opens

pub turn_over-opened-requires-clause-known : goal.turn_over-opened-requires-clause-known
turn_over-opened-requires-clause-known c =
    let k : Journal = c.args.journal.now.items in
    let b = c.args.bounds.now in
    let u = c.args.book.now in
    let t = c.args.runs.now in
    let p : Parts = c.args.parts.now in
    let ls = c.args.lasts.now.items in
    let h = c.requires.restarting in
    let n : Journal = c.push_again.new.journal.items in
    let put : n ≡ more k (again_of k) = c.in_ok-push_again.ensures.put in
    let front : c.len-front.result - 1 ≡ length k = omega (arith, c.len-front.ensures, c.push_again.new.journal.ok.0, ap length put, length-more k (again_of k)) in
    let next_is : IsNextOf k b t c.next-behind.result
    = subst (λ m. Follows c.next-behind.result m (length (all_of t.closed t.list)) (b.segments + 1)) front (subst (λ m. Follows c.next-behind.result (c.len-front.result - 1) m (b.segments + 1)) c.count_runs.ensures c.next-behind.ensures) in
    let nx = c.in-Ok.next in
    let made : IsNextSegment n c.open_next.new.runs.spare nx = subst (λ (i : Journal). IsNextSegment i c.open_next.new.runs.spare nx) c.as_slice-3.ensures.value c.in-Ok.ensures.next in
    let own : AreFirsts (segment n) nx.opening.firsts.items = made.firsts_are ∙ firsts-told n (segment n) nx.book made.holds in
    known-stack (segment n) nx.opening.firsts.items nx.stack.items own made.prepared

pub returns-clause-told : goal.returns-clause-told
returns-clause-told c =
    let k : Journal = c.args.journal.now.items in
    let b = c.args.bounds.now in
    let u = c.args.book.now in
    let t = c.args.runs.now in
    let p : Parts = c.args.parts.now in
    let ls = c.args.lasts.now.items in
    let h = c.requires.restarting in
    let n : Journal = c.push_again.new.journal.items in
    let put : n ≡ more k (again_of k) = c.in_ok-push_again.ensures.put in
    let front : c.len-front.result - 1 ≡ length k = omega (arith, c.len-front.ensures, c.push_again.new.journal.ok.0, ap length put, length-more k (again_of k)) in
    let next_is : IsNextOf k b t c.next-behind.result
    = subst (λ m. Follows c.next-behind.result m (length (all_of t.closed t.list)) (b.segments + 1)) front (subst (λ m. Follows c.next-behind.result (c.len-front.result - 1) m (b.segments + 1)) c.count_runs.ensures c.next-behind.ensures) in
    let nx = c.in-Ok.next in
    let made : IsNextSegment n c.open_next.new.runs.spare nx = subst (λ (i : Journal). IsNextSegment i c.open_next.new.runs.spare nx) c.as_slice-3.ensures.value c.in-Ok.ensures.next in
    let own : AreFirsts (segment n) nx.opening.firsts.items = made.firsts_are ∙ firsts-told n (segment n) nx.book made.holds in
    let isbegun = starting-begun k b u t p ls h n c.next-behind.result put next_is in
    let told = c.turn_over-opened.ensures.begun (segment n) isbegun own made.going made.rested made.prepared in
    let place : c.len-front.result - 1 - 1 - b.front ≡ length (segment h.j) = omega (arith, front, starting-place k b u t p ls h) in
    let closed : c.turn_over-opened.new.runs.closed ≡ record { records = all_of t.closed (stopped None (length (segment h.j)) EndCause.Restarted t.list); entries = length k; numbers = nx.opening.numbers }
    = c.turn_over-opened.ensures.closed ∙ (λ i. record { records = all_of (c.open_next.ensures.closed i) (stopped None (place i) EndCause.Restarted (c.open_next.ensures.list i)); entries = front i; numbers = nx.opening.numbers }) in
    let book : c.turn_over-opened.result.0 ≡ nx.book = c.turn_over-opened.ensures.book in
    let holds = subst (λ (v : UnitBook). Holds n (force (segment n)) v) (sym book) made.holds in
    let numbers = made.numbers_are ∙ (λ i. map (carried_number (segment n)) (sym book i).names) in
    let firsts = c.turn_over-opened.ensures.firsts ∙ made.firsts_are ∙ (λ i. (sym book i).firsts.items) in
    let before = made.lasts_are ∙ (λ i. known_lasts [] (sym book i).names (lasts_carried (segment n))) in
    let noted_is = c.turn_over-opened.ensures.lasts ∙ (λ i. noted c.turn_over-opened.result.1.at c.turn_over-opened.new.runs.firsts c.turn_over-opened.new.runs.list (before i)) in
    starting-told k b u t p ls h n c.next-behind.result put next_is c.turn_over-opened.result.0 c.turn_over-opened.new.runs c.turn_over-opened.result.1 c.turn_over-opened.result.2.items nx.opening.numbers told.0 told.1 told.2 closed holds numbers firsts noted_is

pub returns-clause-followed : goal.returns-clause-followed
returns-clause-followed c =
    let k : Journal = c.args.journal.now.items in
    let b = c.args.bounds.now in
    let u = c.args.book.now in
    let t = c.args.runs.now in
    let p : Parts = c.args.parts.now in
    let ls = c.args.lasts.now.items in
    let h = c.requires.restarting in
    let n : Journal = c.push_again.new.journal.items in
    let put : n ≡ more k (again_of k) = c.in_ok-push_again.ensures.put in
    let front : c.len-front.result - 1 ≡ length k = omega (arith, c.len-front.ensures, c.push_again.new.journal.ok.0, ap length put, length-more k (again_of k)) in
    let next_is : IsNextOf k b t c.next-behind.result
    = subst (λ m. Follows c.next-behind.result m (length (all_of t.closed t.list)) (b.segments + 1)) front (subst (λ m. Follows c.next-behind.result (c.len-front.result - 1) m (b.segments + 1)) c.count_runs.ensures c.next-behind.ensures) in
    let nx = c.in-Ok.next in
    let made : IsNextSegment n c.open_next.new.runs.spare nx = subst (λ (i : Journal). IsNextSegment i c.open_next.new.runs.spare nx) c.as_slice-3.ensures.value c.in-Ok.ensures.next in
    let own : AreFirsts (segment n) nx.opening.firsts.items = made.firsts_are ∙ firsts-told n (segment n) nx.book made.holds in
    let isbegun = starting-begun k b u t p ls h n c.next-behind.result put next_is in
    let told = c.turn_over-opened.ensures.begun (segment n) isbegun own made.going made.rested made.prepared in
    let place : c.len-front.result - 1 - 1 - b.front ≡ length (segment h.j) = omega (arith, front, starting-place k b u t p ls h) in
    let closed : c.turn_over-opened.new.runs.closed ≡ record { records = all_of t.closed (stopped None (length (segment h.j)) EndCause.Restarted t.list); entries = length k; numbers = nx.opening.numbers }
    = c.turn_over-opened.ensures.closed ∙ (λ i. record { records = all_of (c.open_next.ensures.closed i) (stopped None (place i) EndCause.Restarted (c.open_next.ensures.list i)); entries = front i; numbers = nx.opening.numbers }) in
    let book : c.turn_over-opened.result.0 ≡ nx.book = c.turn_over-opened.ensures.book in
    let holds = subst (λ (v : UnitBook). Holds n (force (segment n)) v) (sym book) made.holds in
    let numbers = made.numbers_are ∙ (λ i. map (carried_number (segment n)) (sym book i).names) in
    let firsts = c.turn_over-opened.ensures.firsts ∙ made.firsts_are ∙ (λ i. (sym book i).firsts.items) in
    let before = made.lasts_are ∙ (λ i. known_lasts [] (sym book i).names (lasts_carried (segment n))) in
    let noted_is = c.turn_over-opened.ensures.lasts ∙ (λ i. noted c.turn_over-opened.result.1.at c.turn_over-opened.new.runs.firsts c.turn_over-opened.new.runs.list (before i)) in
    let config : IsAlike c.configuration.result.now (force (segment k)).config = c.configuration.ensures (force (segment k)) (subst (λ i. Holds i (force (segment k)) u) (sym c.as_slice.ensures.value) (starting-holds k b u t p ls h)) in
    let rules = ap (λ (d : Config). d.automations) (config ∙ starting-config k b u t p ls h) in
    let there : zip p.numbers c.configuration.result.now.automations ≡ in_force (segment h.j) = (λ i. zip p.numbers (rules i)) ∙ zip-force (segment h.j) p.numbers h.kept.going.sees.looks.numbers_are in
    starting-followed k b u t p ls h n c.next-behind.result put next_is c.turn_over-opened.result.0 c.turn_over-opened.new.runs c.turn_over-opened.result.1 c.turn_over-opened.result.2.items nx.opening.numbers told.0 told.1 told.2 closed holds numbers firsts noted_is
    c.reset_switches-reset.result (c.reset_switches-reset.ensures.changed (segment h.j) h.kept.going.sees.switches_stand there)

pub returns-clause-noted : goal.returns-clause-noted
returns-clause-noted c =
    let k : Journal = c.args.journal.now.items in
    let b = c.args.bounds.now in
    let u = c.args.book.now in
    let t = c.args.runs.now in
    let p : Parts = c.args.parts.now in
    let ls = c.args.lasts.now.items in
    let h = c.requires.restarting in
    let n : Journal = c.push_again.new.journal.items in
    let put : n ≡ more k (again_of k) = c.in_ok-push_again.ensures.put in
    let front : c.len-front.result - 1 ≡ length k = omega (arith, c.len-front.ensures, c.push_again.new.journal.ok.0, ap length put, length-more k (again_of k)) in
    let next_is : IsNextOf k b t c.next-behind.result
    = subst (λ m. Follows c.next-behind.result m (length (all_of t.closed t.list)) (b.segments + 1)) front (subst (λ m. Follows c.next-behind.result (c.len-front.result - 1) m (b.segments + 1)) c.count_runs.ensures c.next-behind.ensures) in
    let nx = c.in-Ok.next in
    let made : IsNextSegment n c.open_next.new.runs.spare nx = subst (λ (i : Journal). IsNextSegment i c.open_next.new.runs.spare nx) c.as_slice-3.ensures.value c.in-Ok.ensures.next in
    let own : AreFirsts (segment n) nx.opening.firsts.items = made.firsts_are ∙ firsts-told n (segment n) nx.book made.holds in
    let isbegun = starting-begun k b u t p ls h n c.next-behind.result put next_is in
    let told = c.turn_over-opened.ensures.begun (segment n) isbegun own made.going made.rested made.prepared in
    let place : c.len-front.result - 1 - 1 - b.front ≡ length (segment h.j) = omega (arith, front, starting-place k b u t p ls h) in
    let closed : c.turn_over-opened.new.runs.closed ≡ record { records = all_of t.closed (stopped None (length (segment h.j)) EndCause.Restarted t.list); entries = length k; numbers = nx.opening.numbers }
    = c.turn_over-opened.ensures.closed ∙ (λ i. record { records = all_of (c.open_next.ensures.closed i) (stopped None (place i) EndCause.Restarted (c.open_next.ensures.list i)); entries = front i; numbers = nx.opening.numbers }) in
    let book : c.turn_over-opened.result.0 ≡ nx.book = c.turn_over-opened.ensures.book in
    let holds = subst (λ (v : UnitBook). Holds n (force (segment n)) v) (sym book) made.holds in
    let numbers = made.numbers_are ∙ (λ i. map (carried_number (segment n)) (sym book i).names) in
    let firsts = c.turn_over-opened.ensures.firsts ∙ made.firsts_are ∙ (λ i. (sym book i).firsts.items) in
    let before = made.lasts_are ∙ (λ i. known_lasts [] (sym book i).names (lasts_carried (segment n))) in
    let noted_is = c.turn_over-opened.ensures.lasts ∙ (λ i. noted c.turn_over-opened.result.1.at c.turn_over-opened.new.runs.firsts c.turn_over-opened.new.runs.list (before i)) in
    let moved = c.turn_over-opened.ensures.moved
    ∙ (λ i. moved_by c.turn_over-opened.result.1.at c.turn_over-opened.new.runs.firsts (sym book i).listed.items c.turn_over-opened.new.runs.list (before i)) in
    starting-noted k b u t p ls h n c.next-behind.result put next_is c.turn_over-opened.result.0 c.turn_over-opened.new.runs c.turn_over-opened.result.1 c.turn_over-opened.result.2.items nx.opening.numbers told.0 told.1 told.2 closed holds numbers firsts noted_is c.requires.in_time c.turn_over-opened.result.3 moved

pub returns-in-Err-clause-journal : goal.returns-in-Err-clause-journal
returns-in-Err-clause-journal c =
    let k : Journal = c.args.journal.now.items in
    let put : c.push_again.new.journal.items ≡ more k (again_of k) = c.in_ok-push_again.ensures.put in
    c.drop_last.ensures ∙ (λ i. take (length (put i) - 1) (put i)) ∙ take-less k (again_of k)
