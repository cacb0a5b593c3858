use Rattle.std.proofs.Common.{◌≡◌, ◌+◌, ◌≤◌, length, refl, sym, ap, subst, ◌∙◌}
use Rattle.std.proofs.lemmas.List.{take_at}
use Rattle.ha_journal.specs.declared.entry.Entry.{Entry}
use Rattle.ha_journal.specs.declared.entry.Entry.TheVariants.{Step}
use Rattle.ha_journal.specs.Force.{force}
use Rattle.ha_journal.specs.Journal.{Journal, HasEntry, more}
use Rattle.ha_journal.proofs.ForceLaws.{names-more}
use Rattle.ha_journal.proofs.MoreLemmas.{has-entry}
use Rattle.ha_journal.specs.Moves.{sight}
use Rattle.ha_model.specs.Records.{Records}
use Rattle.ha_whole.specs.Segments.{segment}
use Rattle.whole_laws.proofs.CutLemmas.{is-cut}
use Rattle.unit_book.specs.Book.{Holds, firsts_of}
use Rattle.helper_set.specs.Kept.{StandsFor}
use Rattle.script_step.specs.Taken.{out_of}
use Rattle.engine_parts.specs.declared.parts.Parts.{Parts}
use Rattle.engine_parts.specs.Kept.{AreSound, Looks}
use Rattle.engine_entry.specs.Stepping.{MaySlot, SlotStep, StepPushed}
use Rattle.ha_engine.specs.Lies.{Lies}
use Rattle.ha_engine.proofs.ActsLemmas.{holds-acts}
use Rattle.ha_engine.proofs.WholeLemmas.{holds-still}
use Rattle.ha_engine.proofs.AdvanceLemmas.{may-slot, pairs-there, picks, pushed, within-all}
use Rattle.ha_engine.proofs.advance.advance.Goals as goal

pub picked-requires : goal.picked-requires
picked-requires c =
    let acts = holds-acts c.args.journal.now.items (force (segment c.args.journal.now.items)) c.args.book.now c.requires.holds in
    pairs-there (segment c.args.journal.now.items) c.args.runs.now.list c.args.parts.now c.requires.stepping acts

pub make_step-requires-clause-holds : goal.make_step-requires-clause-holds
make_step-requires-clause-holds c = subst (λ (i : Journal). Holds i (force (segment i)) c.args.book.now) (sym c.as_slice.ensures.value) c.requires.holds

pub make_step-requires-clause-lies : goal.make_step-requires-clause-lies
make_step-requires-clause-lies c = subst (λ (i : Journal). Lies i c.args.bounds) (sym c.as_slice.ensures.value) c.requires.lies

pub make_step-requires-clause-looks : goal.make_step-requires-clause-looks
make_step-requires-clause-looks c =
    let p = c.args.parts.now in
    subst (λ (i : Journal). Looks (segment i) p.states p.numbers p.zone p.at) (sym c.as_slice.ensures.value) c.requires.stepping.kept.going.sees.looks

pub make_step-requires-clause-helpers : goal.make_step-requires-clause-helpers
make_step-requires-clause-helpers c =
    let p = c.args.parts.now in
    subst (λ (i : Journal). StandsFor p.helpers (segment i)) (sym c.as_slice.ensures.value) c.requires.stepping.kept.going.sees.helpers_stand

pub make_step-requires-clause-sound : goal.make_step-requires-clause-sound
make_step-requires-clause-sound c = subst (λ (i : Journal). AreSound (segment i)) (sym c.as_slice.ensures.value) c.requires.stepping.kept.going.sees.sound

pub make_step-requires-clause-slot : goal.make_step-requires-clause-slot
make_step-requires-clause-slot c =
    let acts = holds-acts c.args.journal.now.items (force (segment c.args.journal.now.items)) c.args.book.now c.requires.holds in
    subst (λ (i : Journal). MaySlot (segment i) c.in_ok-serial.serial c.in_ok-serial.branch c.args.parts.now.at c.in_ok-wait.wait c.args.parts.now.frames.items) (sym c.as_slice.ensures.value)
    (may-slot (segment c.args.journal.now.items) c.args.runs.now.list c.args.parts.now c.requires.stepping acts c.args.worker c.in_ok-serial.serial c.in_ok-serial.branch c.in_ok-serial.ensures c.in_ok-wait.wait c.in_ok-wait.ensures)

pub whole_serial-whole-requires : goal.whole_serial-whole-requires
whole_serial-whole-requires c =
    let acts = holds-acts c.args.journal.now.items (force (segment c.args.journal.now.items)) c.args.book.now c.requires.holds in
    subst (λ (l : Records). c.args.bounds.base + c.in_ok-serial.serial ≤ length l) (sym c.all.ensures)
    (within-all (segment c.args.journal.now.items) c.args.runs.now.list c.args.parts.now c.requires.stepping acts c.args.worker c.in_ok-serial.serial c.in_ok-serial.branch c.in_ok-serial.ensures c.args.runs.now.closed c.args.bounds.base c.requires.counted)

pub follow_made-requires : goal.follow_made-requires
follow_made-requires c =
    let j : Journal = c.args.journal.now.items in
    let rs = c.args.runs.now.list in
    let p : Parts = c.args.parts.now in
    let s = c.in_ok-serial.serial in
    let b = c.in_ok-serial.branch in
    let q : Parts = c.make_step.new.parts in
    let out = out_of c.in_ok-out.out in
    let acts = holds-acts j (force (segment j)) c.args.book.now c.requires.holds in
    let has : HasEntry (segment j) = has-entry (segment j) (is-cut j c.requires.lies.entries).alone in
    let x : Entry = Step c.args.worker s b out.item in
    let is : c.as_slice-2.result.now ≡ more j x = c.as_slice-2.ensures.value ∙ c.push_step.ensures in
    let step : SlotStep (sight (segment j) (length (segment j))) s b c.in_ok-wait.wait p.frames.items q.frames.items out c.in_ok-out.due
    = subst (λ (i : Journal). SlotStep (sight (segment i) (length (segment i))) s b c.in_ok-wait.wait p.frames.items q.frames.items out c.in_ok-out.due) c.as_slice.ensures.value c.in_ok-out.ensures.step in
    let made : StepPushed (more (segment j) (Step c.args.worker s b out.item)) rs (record p { frames = q.frames }) out.progress out.wait c.in_ok-out.due
    = pushed (segment j) rs p c.requires.stepping acts c.args.worker s b c.in_ok-serial.ensures c.in_ok-wait.wait c.in_ok-wait.ensures q.frames out c.in_ok-out.due step in
    record {
      j = j;
      x = x;
      journal_is = is;
      lies = c.requires.lies;
      holds = subst (λ (i : Journal). Holds i (force (more (segment j) x)) c.args.book.now) (sym is) (holds-still j (segment j) x x c.args.book.now has refl c.requires.holds);
      named = c.requires.named ∙ ap firsts_of (names-more (segment j) x has refl);
      pushed = subst (λ (v : Parts). StepPushed (more (segment j) (Step c.args.worker s b out.item)) rs v out.progress out.wait c.in_ok-out.due) (sym c.in_ok-out.ensures.rest) made;
    }

pub returns-in-Ok-clause-ok : goal.returns-in-Ok-clause-ok
returns-in-Ok-clause-ok c =
    let j : Journal = c.args.journal.now.items in
    let s = c.in_ok-serial.serial in
    let b = c.in_ok-serial.branch in
    let item = c.in_ok-out.out.item in
    let acts = holds-acts j (force (segment j)) c.args.book.now c.requires.holds in
    let told = c.in-Ok.ensures.ok j (Step c.args.worker s b item) c.requires.lies (c.as_slice-2.ensures.value ∙ c.push_step.ensures) in (
      s,
      b,
      item,
      picks (segment j) c.args.runs.now.list c.args.parts.now c.requires.stepping acts c.args.worker s b c.in_ok-serial.ensures,
      take_at c.count_last.new.journal _ c.push_step.new.journal.len (c.count_last.ensures.len ∙ c.as_mut_slice.ensures.len)
          ∙ c.count_last.ensures.last j c.args.worker s b item (c.as_mut_slice.ensures.value ∙ c.push_step.ensures)
          ∙ (λ i. more j (Step c.args.worker (c.whole_serial-whole.ensures i) b item)),
      told.0,
      told.1,
    )
