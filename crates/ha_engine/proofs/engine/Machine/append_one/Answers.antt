use Rattle.std.proofs.Common.{◌≡◌, ◌+◌, false, drop, length, refl, sym, ap, subst, ◌∙◌}
use Rattle.std.specs.Prelude.{Some, count_by}
use Rattle.ha_journal.specs.declared.entry.Entry.{Entry}
use Rattle.ha_journal.specs.declared.entry.Entry.TheVariants.{Step}
use Rattle.ha_journal.specs.Entries.{is_reload}
use Rattle.ha_journal.specs.Force.{force}
use Rattle.ha_journal.specs.Journal.{Journal, more}
use Rattle.ha_model.specs.Lawful as one
use Rattle.ha_model.specs.Lawful.{Right, pick}
use Rattle.ha_whole.specs.Segments.{alone, segment}
use Rattle.ha_whole.specs.Whole.{HasRoom, Right as RightWhole, is_quiet, ready}
use Rattle.segment_carry.specs.ByName.{rule_order}
use Rattle.segment_runs.specs.Segment.{all_of}
use Rattle.whole_laws.proofs.PutLemmas.{step-is-put}
use Rattle.unit_book.specs.Book.{Holds}
use Rattle.engine_parts.specs.Kept.{Kept}
use Rattle.whole_laws.proofs.CutLemmas.{is-cut}
use Rattle.engine_entry.specs.Stepping.{Stepping}
use Rattle.ha_engine.specs.Core.{Core}
use Rattle.ha_engine.specs.GoesOn.{GoesOn}
use Rattle.ha_engine.specs.Lies.{Lies}
use Rattle.ha_engine.specs.Named.{AreFirsts}
use Rattle.ha_engine.specs.Noted.{moved_by, noted}
use Rattle.ha_engine.proofs.FollowedLemmas.{firsts-told, step-alone, step-picked, told-quiet, told-same, true-not}
use Rattle.ha_engine.proofs.PlainLemmas.{goes-on}
use Rattle.ha_engine.proofs.engine.Machine.append_one.Goals as goal

pub advance-requires-clause-lies : goal.advance-requires-clause-lies
advance-requires-clause-lies c = subst (λ (l : Journal). Lies l c.self.inside.bounds) (sym c.reserve.ensures.items) c.self.invariant.told.lies

pub advance-requires-clause-holds : goal.advance-requires-clause-holds
advance-requires-clause-holds c = subst (λ (l : Journal). Holds l (force (segment l)) c.self.inside.book) (sym c.reserve.ensures.items) c.self.invariant.told.holds

pub advance-requires-clause-named : goal.advance-requires-clause-named
advance-requires-clause-named c =
    let j : Journal = c.self.inside.journal.items in
    let followed = c.self.invariant.followed (ap (λ (v : Core). v.is_spent) c.self.view_is ∙ c.requires.usable) in
    subst (λ (l : Journal). AreFirsts (segment l) c.self.inside.runs.firsts) (sym c.reserve.ensures.items) (followed.firsts_are ∙ firsts-told j (segment j) c.self.inside.book c.self.invariant.told.holds)

pub advance-requires-clause-counted : goal.advance-requires-clause-counted
advance-requires-clause-counted c =
    let told = c.self.invariant.told in
    ap length told.runs.records ∙ sym (is-cut c.self.inside.journal.items told.lies.entries).carried_is ∙ sym told.lies.base_is

pub advance-requires-clause-stepping : goal.advance-requires-clause-stepping
advance-requires-clause-stepping c =
    let j : Journal = c.self.inside.journal.items in
    let t = c.self.inside.runs in
    let told = c.self.invariant.told in
    let followed = c.self.invariant.followed (ap (λ (v : Core). v.is_spent) c.self.view_is ∙ c.requires.usable) in
    let room : HasRoom j false = subst (λ (v : Core). HasRoom v.entries false) (sym c.self.view_is) c.requires.room in
    let made : Stepping (segment j) t.list c.self.inside.parts
    = record {
      right = told.own_right;
      room = room.segment_room;
      kept = followed.kept;
      busy = told-quiet j c.self.inside.bounds c.self.inside.book t told ∙ ap (λ (v : Core). is_quiet v.runs v.entries) c.self.view_is ∙ c.requires.busy;
    } in
    subst (λ (l : Journal). Stepping (segment l) t.list c.self.inside.parts) (sym c.reserve.ensures.items) made

pub invariant_of-self : goal.invariant_of-self
invariant_of-self c = record {
  told = told-same c.self.inside.journal.items _ c.self.inside.bounds c.self.inside.book c.self.inside.runs _ c.self.invariant.told c.reserve.ensures.items refl refl;
  reloads_are = c.self.invariant.reloads_are ∙ ap (count_by is_reload) (sym c.reserve.ensures.items);
  followed = true-not;
  noted = true-not;
  stored = true-not;
  ordered = true-not;
}

pub invariant_of-self-in-Ok : goal.invariant_of-self-in-Ok
invariant_of-self-in-Ok c =
    let j : Journal = c.self.inside.journal.items in
    let t = c.self.inside.runs in
    let b = c.self.inside.bounds in
    let u = c.self.inside.book in
    let told = c.self.invariant.told in
    let usable = ap (λ (v : Core). v.is_spent) c.self.view_is ∙ c.requires.usable in
    let followed = c.self.invariant.followed usable in
    let room : HasRoom j false = subst (λ (v : Core). HasRoom v.entries false) (sym c.self.view_is) c.requires.room in
    let made = c.in-Ok.ensures.ok in
    let x : Entry = Step c.args.worker (b.base + made.0) made.1 made.2 in
    let is : c.advance.new.journal.items ≡ more j x = made.4 ∙ (λ i. more (c.reserve.ensures.items i) x) in
    let there : segment c.reserve.new.self.items ≡ segment j = (λ i. segment (c.reserve.ensures.items i)) in
    let alone_is = step-alone j b u t told c.args.worker made.0 made.1 made.2 in
    let own : Right (more (segment j) (alone (segment j) x)) c.advance.new.runs.list
    = subst (λ (e : Entry). Right (more (segment j) e) c.advance.new.runs.list) (sym alone_is) (subst (λ (l : Journal). Right (more l (Step c.args.worker made.0 made.1 made.2)) c.advance.new.runs.list) there made.5) in
    let kept : Kept (more (segment j) (alone (segment j) x)) c.advance.new.runs.list c.advance.new.parts
    = subst (λ (e : Entry). Kept (more (segment j) e) c.advance.new.runs.list c.advance.new.parts) (sym alone_is)
    (subst (λ (l : Journal). Kept (more l (Step c.args.worker made.0 made.1 made.2)) c.advance.new.runs.list c.advance.new.parts) there made.6) in
    let on = goes-on j x b u t c.advance.new.runs c.self.inside.parts c.advance.new.parts c.self.inside.lasts.items c.self.inside.reset
    (step-is-put c.args.worker (b.base + made.0) made.1 made.2) refl refl told followed own kept c.advance.ensures.closed c.advance.ensures.firsts room (c.self.invariant.noted usable).in_time (c.self.invariant.noted usable).carried
    c.note_lasts-self-inside.new.lasts.items c.note_lasts-self-inside.result
    (c.note_lasts-self-inside.ensures.lasts ∙ (λ i. noted c.advance.new.parts.at c.advance.new.runs.firsts (drop (c.len-before.ensures i) c.advance.new.runs.list) c.self.inside.lasts.items))
    (c.note_lasts-self-inside.ensures.moved ∙ (λ i. moved_by c.advance.new.parts.at c.advance.new.runs.firsts (c.listed.ensures i) (drop (c.len-before.ensures i) c.advance.new.runs.list) c.self.inside.lasts.items)) in
    let behind = subst (λ (i : Journal). GoesOn j i b u c.advance.new.runs c.advance.new.parts c.note_lasts-self-inside.new.lasts.items c.self.inside.reset c.note_lasts-self-inside.result) (sym is) on in
    record {
      told = behind.told;
      reloads_are = c.self.invariant.reloads_are ∙ sym behind.reloads;
      followed = λ e. behind.followed;
      noted = λ e. behind.noted;
      stored = λ e. behind.plain;
      ordered = λ e. c.self.invariant.ordered usable ∙ ap rule_order behind.same;
    }

pub returns-in-Ok-clause-put : goal.returns-in-Ok-clause-put
returns-in-Ok-clause-put c =
    let j : Journal = c.self.inside.journal.items in
    let t = c.self.inside.runs in
    let b = c.self.inside.bounds in
    let u = c.self.inside.book in
    let told = c.self.invariant.told in
    let usable = ap (λ (v : Core). v.is_spent) c.self.view_is ∙ c.requires.usable in
    let followed = c.self.invariant.followed usable in
    let room : HasRoom j false = subst (λ (v : Core). HasRoom v.entries false) (sym c.self.view_is) c.requires.room in
    let made = c.in-Ok.ensures.ok in
    let x : Entry = Step c.args.worker (b.base + made.0) made.1 made.2 in
    let is : c.advance.new.journal.items ≡ more j x = made.4 ∙ (λ i. more (c.reserve.ensures.items i) x) in
    let there : segment c.reserve.new.self.items ≡ segment j = (λ i. segment (c.reserve.ensures.items i)) in
    let found : pick c.args.worker (one.ready t.list (segment j)) ≡ Some (made.0, made.1) = (λ i. pick c.args.worker (one.ready t.list (sym there i))) ∙ made.3 in (
      b.base + made.0,
      made.1,
      made.2,
      ap (λ (v : Core). pick c.args.worker (ready v.runs v.entries)) (sym c.self.view_is) ∙ step-picked j b u t told c.args.worker made.0 made.1 found,
      is ∙ ap (λ (v : Core). more v.entries x) c.self.view_is,
    )

pub returns-in-Ok-clause-right : goal.returns-in-Ok-clause-right
returns-in-Ok-clause-right c =
    let j : Journal = c.self.inside.journal.items in
    let t = c.self.inside.runs in
    let b = c.self.inside.bounds in
    let u = c.self.inside.book in
    let told = c.self.invariant.told in
    let usable = ap (λ (v : Core). v.is_spent) c.self.view_is ∙ c.requires.usable in
    let followed = c.self.invariant.followed usable in
    let room : HasRoom j false = subst (λ (v : Core). HasRoom v.entries false) (sym c.self.view_is) c.requires.room in
    let made = c.in-Ok.ensures.ok in
    let x : Entry = Step c.args.worker (b.base + made.0) made.1 made.2 in
    let is : c.advance.new.journal.items ≡ more j x = made.4 ∙ (λ i. more (c.reserve.ensures.items i) x) in
    let there : segment c.reserve.new.self.items ≡ segment j = (λ i. segment (c.reserve.ensures.items i)) in
    let alone_is = step-alone j b u t told c.args.worker made.0 made.1 made.2 in
    let own : Right (more (segment j) (alone (segment j) x)) c.advance.new.runs.list
    = subst (λ (e : Entry). Right (more (segment j) e) c.advance.new.runs.list) (sym alone_is) (subst (λ (l : Journal). Right (more l (Step c.args.worker made.0 made.1 made.2)) c.advance.new.runs.list) there made.5) in
    let kept : Kept (more (segment j) (alone (segment j) x)) c.advance.new.runs.list c.advance.new.parts
    = subst (λ (e : Entry). Kept (more (segment j) e) c.advance.new.runs.list c.advance.new.parts) (sym alone_is)
    (subst (λ (l : Journal). Kept (more l (Step c.args.worker made.0 made.1 made.2)) c.advance.new.runs.list c.advance.new.parts) there made.6) in
    let on = goes-on j x b u t c.advance.new.runs c.self.inside.parts c.advance.new.parts c.self.inside.lasts.items c.self.inside.reset
    (step-is-put c.args.worker (b.base + made.0) made.1 made.2) refl refl told followed own kept c.advance.ensures.closed c.advance.ensures.firsts room (c.self.invariant.noted usable).in_time (c.self.invariant.noted usable).carried
    c.note_lasts-self-inside.new.lasts.items c.note_lasts-self-inside.result
    (c.note_lasts-self-inside.ensures.lasts ∙ (λ i. noted c.advance.new.parts.at c.advance.new.runs.firsts (drop (c.len-before.ensures i) c.advance.new.runs.list) c.self.inside.lasts.items))
    (c.note_lasts-self-inside.ensures.moved ∙ (λ i. moved_by c.advance.new.parts.at c.advance.new.runs.firsts (c.listed.ensures i) (drop (c.len-before.ensures i) c.advance.new.runs.list) c.self.inside.lasts.items)) in
    subst (λ (i : Journal). RightWhole i (all_of c.advance.new.runs.closed c.advance.new.runs.list)) (sym is) on.told.right

pub invariant_of-self-in-Err : goal.invariant_of-self-in-Err
invariant_of-self-in-Err c = record {
  told = told-same c.self.inside.journal.items _ c.self.inside.bounds c.self.inside.book c.self.inside.runs _ c.self.invariant.told (c.in-Err.ensures.journal ∙ c.reserve.ensures.items) c.in-Err.ensures.records c.advance.ensures.closed;
  reloads_are = c.self.invariant.reloads_are ∙ ap (count_by is_reload) (sym (c.in-Err.ensures.journal ∙ c.reserve.ensures.items));
  followed = true-not;
  noted = true-not;
  stored = true-not;
  ordered = true-not;
}

pub returns-in-Err-clause-stays : goal.returns-in-Err-clause-stays
returns-in-Err-clause-stays c = (
  c.in-Err.ensures.journal ∙ c.reserve.ensures.items ∙ ap (λ (v : Core). v.entries) c.self.view_is,
  (λ i. all_of (c.advance.ensures.closed i) (c.in-Err.ensures.records i)) ∙ ap (λ (v : Core). v.runs) c.self.view_is,
)
