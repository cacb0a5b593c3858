use Rattle.std.proofs.Common.{◌≡◌, ◌-◌, false, drop, take, length, refl, sym, ap, subst, ◌∙◌}
use Rattle.std.specs.Prelude.{None, count_by, is_some, ◌&&◌}
use Rattle.std.proofs.lemmas.List.{take_at}
use Rattle.ha_journal.specs.declared.entry.Entry.{Entry}
use Rattle.ha_journal.specs.declared.entry.Entry.TheVariants.{Line}
use Rattle.ha_journal.specs.Commands.{IsFair, lets_reload, put_as}
use Rattle.ha_journal.specs.Entries.{is_reload, reloads_to}
use Rattle.ha_journal.specs.Journal.{Journal, more}
use Rattle.ha_whole.specs.Whole.{HasRoom, Right, put}
use Rattle.segment_carry.specs.ByName.{rule_order}
use Rattle.segment_runs.specs.Segment.{all_of}
use Rattle.whole_laws.proofs.PutLemmas.{line-put, put-on, put-restarts}
use Rattle.ha_engine.specs.Core.{Core}
use Rattle.ha_engine.specs.GoesOn.{GoesOn}
use Rattle.ha_engine.specs.Noted.{moved_by, noted}
use Rattle.ha_engine.proofs.ChangeLemmas.{take-less}
use Rattle.ha_engine.proofs.FollowedLemmas.{told-same, true-not}
use Rattle.ha_engine.proofs.PlainLemmas.{adds, goes-on, lets-told, quiet-put, settles}
use Rattle.ha_engine.proofs.engine.Machine.append_plain.Goals as goal

-- what settles the command is known of the entries before it
pub settle_last-requires : goal.settle_last-requires
settle_last-requires c =
    let j : Journal = c.self.inside.journal.items in
    let told = c.self.invariant.told in
    let usable = ap (λ (v : Core). v.is_spent) c.self.view_is ∙ c.requires.usable in
    let followed = c.self.invariant.followed usable in
    let pushed : c.as_mut_slice.result.now ≡ more j (Line c.args.source c.args.number c.args.cmd)
    = c.as_mut_slice.ensures.value ∙ c.push_line.ensures.items ∙ ap (λ (l : Journal). more l (Line c.args.source c.args.number c.args.cmd)) c.reserve.ensures.items in
    settles j c.self.inside.bounds c.self.inside.book c.self.inside.runs c.self.inside.parts c.self.inside.lasts.items c.self.inside.reset told followed c.as_mut_slice.result.now (Line c.args.source c.args.number c.args.cmd) c.lets_more-lets.result
    pushed (c.lets_more-lets.ensures ∙ lets-told j c.self.inside.reloads c.self.invariant.reloads_are)

pub follow_pushed-requires : goal.follow_pushed-requires
follow_pushed-requires c =
    let j : Journal = c.self.inside.journal.items in
    let told = c.self.invariant.told in
    let usable = ap (λ (v : Core). v.is_spent) c.self.view_is ∙ c.requires.usable in
    let followed = c.self.invariant.followed usable in
    let x : Entry = Line c.args.source c.args.number (put_as j c.args.cmd) in
    let seen : j ≡ c.args.self.now.entries = ap (λ (v : Core). v.entries) c.self.view_is in
    let pushed : c.as_mut_slice.result.now ≡ more j (Line c.args.source c.args.number c.args.cmd)
    = c.as_mut_slice.ensures.value ∙ c.push_line.ensures.items ∙ ap (λ (l : Journal). more l (Line c.args.source c.args.number c.args.cmd)) c.reserve.ensures.items in
    let is : c.as_slice.result.now ≡ more j x = c.as_slice.ensures.value ∙ take_at c.settle_last.new.journal _ c.push_line.new.journal.len (c.settle_last.ensures.len ∙ c.as_mut_slice.ensures.len)
    ∙ c.settle_last.ensures.last j c.args.source c.args.number c.args.cmd pushed in
    let none : reloads_to (put_as j c.args.cmd) ≡ None = quiet-put j c.args.cmd ((λ i. is_some (reloads_to c.args.cmd) && lets_reload (seen i)) ∙ c.requires.quiet) in
    let stays = put-restarts j c.args.source c.args.number c.args.cmd ∙ c.requires.plain in
    let fair : IsFair j (put_as j c.args.cmd) = subst (λ (l : Journal). IsFair l (put_as l c.args.cmd)) (sym seen) c.requires.fair in
    adds j c.self.inside.bounds c.self.inside.book c.self.inside.runs c.self.inside.parts c.self.inside.lasts.items c.self.inside.reset told followed c.as_slice.result.now c.args.source c.args.number (put_as j c.args.cmd) is c.requires.known stays none fair

pub invariant_of-self : goal.invariant_of-self
invariant_of-self c = record {
  told = told-same c.self.inside.journal.items _ c.self.inside.bounds c.self.inside.book c.self.inside.runs _ c.self.invariant.told c.reserve.ensures.items refl refl;
  reloads_are = c.self.invariant.reloads_are ∙ ap (count_by is_reload) (sym c.reserve.ensures.items);
  followed = true-not;
  noted = true-not;
  stored = true-not;
  ordered = true-not;
}

pub invariant_of-self-in-Ok : goal.invariant_of-self-in-Ok
invariant_of-self-in-Ok c =
    let j : Journal = c.self.inside.journal.items in
    let told = c.self.invariant.told in
    let usable = ap (λ (v : Core). v.is_spent) c.self.view_is ∙ c.requires.usable in
    let followed = c.self.invariant.followed usable in
    let x : Entry = Line c.args.source c.args.number (put_as j c.args.cmd) in
    let seen : j ≡ c.args.self.now.entries = ap (λ (v : Core). v.entries) c.self.view_is in
    let pushed : c.as_mut_slice.result.now ≡ more j (Line c.args.source c.args.number c.args.cmd)
    = c.as_mut_slice.ensures.value ∙ c.push_line.ensures.items ∙ ap (λ (l : Journal). more l (Line c.args.source c.args.number c.args.cmd)) c.reserve.ensures.items in
    let is : c.as_slice.result.now ≡ more j x = c.as_slice.ensures.value ∙ take_at c.settle_last.new.journal _ c.push_line.new.journal.len (c.settle_last.ensures.len ∙ c.as_mut_slice.ensures.len)
    ∙ c.settle_last.ensures.last j c.args.source c.args.number c.args.cmd pushed in
    let none : reloads_to (put_as j c.args.cmd) ≡ None = quiet-put j c.args.cmd ((λ i. is_some (reloads_to c.args.cmd) && lets_reload (seen i)) ∙ c.requires.quiet) in
    let stays = put-restarts j c.args.source c.args.number c.args.cmd ∙ c.requires.plain in
    let room : HasRoom j false = subst (λ (v : Core). HasRoom v.entries false) (sym c.self.view_is) c.requires.room in
    let own = c.in-Ok.ensures.ok j x told.lies is in
    let on = goes-on j x c.self.inside.bounds c.self.inside.book c.self.inside.runs c.follow_pushed.new.runs c.self.inside.parts c.follow_pushed.new.parts c.self.inside.lasts.items c.self.inside.reset
    (line-put c.args.source c.args.number (put_as j c.args.cmd)) stays none told followed own.0 own.1 c.follow_pushed.ensures.closed c.follow_pushed.ensures.firsts room (c.self.invariant.noted usable).in_time (c.self.invariant.noted usable).carried
    c.note_lasts-self-inside.new.lasts.items c.note_lasts-self-inside.result
    (c.note_lasts-self-inside.ensures.lasts ∙ (λ i. noted c.follow_pushed.new.parts.at c.follow_pushed.new.runs.firsts (drop (c.len-before.ensures i) c.follow_pushed.new.runs.list) c.self.inside.lasts.items))
    (c.note_lasts-self-inside.ensures.moved ∙ (λ i. moved_by c.follow_pushed.new.parts.at c.follow_pushed.new.runs.firsts (c.listed.ensures i) (drop (c.len-before.ensures i) c.follow_pushed.new.runs.list) c.self.inside.lasts.items)) in
    let there = sym c.as_slice.ensures.value ∙ is in
    let behind = subst (λ (i : Journal). GoesOn j i c.self.inside.bounds c.self.inside.book c.follow_pushed.new.runs c.follow_pushed.new.parts c.note_lasts-self-inside.new.lasts.items c.self.inside.reset c.note_lasts-self-inside.result) (sym there) on in
    record {
      told = behind.told;
      reloads_are = c.self.invariant.reloads_are ∙ sym behind.reloads;
      followed = λ e. behind.followed;
      noted = λ e. behind.noted;
      stored = λ e. behind.plain;
      ordered = λ e. c.self.invariant.ordered usable ∙ ap rule_order behind.same;
    }

pub returns-in-Ok-clause-put : goal.returns-in-Ok-clause-put
returns-in-Ok-clause-put c =
    let j : Journal = c.self.inside.journal.items in
    let told = c.self.invariant.told in
    let usable = ap (λ (v : Core). v.is_spent) c.self.view_is ∙ c.requires.usable in
    let followed = c.self.invariant.followed usable in
    let x : Entry = Line c.args.source c.args.number (put_as j c.args.cmd) in
    let seen : j ≡ c.args.self.now.entries = ap (λ (v : Core). v.entries) c.self.view_is in
    let pushed : c.as_mut_slice.result.now ≡ more j (Line c.args.source c.args.number c.args.cmd)
    = c.as_mut_slice.ensures.value ∙ c.push_line.ensures.items ∙ ap (λ (l : Journal). more l (Line c.args.source c.args.number c.args.cmd)) c.reserve.ensures.items in
    let is : c.as_slice.result.now ≡ more j x = c.as_slice.ensures.value ∙ take_at c.settle_last.new.journal _ c.push_line.new.journal.len (c.settle_last.ensures.len ∙ c.as_mut_slice.ensures.len)
    ∙ c.settle_last.ensures.last j c.args.source c.args.number c.args.cmd pushed in
    sym c.as_slice.ensures.value ∙ is ∙ sym (put-on j x (put-restarts j c.args.source c.args.number c.args.cmd ∙ c.requires.plain))
    ∙ (λ i. put (seen i) (Line c.args.source c.args.number (put_as (seen i) c.args.cmd)))

pub returns-in-Ok-clause-right : goal.returns-in-Ok-clause-right
returns-in-Ok-clause-right c =
    let j : Journal = c.self.inside.journal.items in
    let told = c.self.invariant.told in
    let usable = ap (λ (v : Core). v.is_spent) c.self.view_is ∙ c.requires.usable in
    let followed = c.self.invariant.followed usable in
    let x : Entry = Line c.args.source c.args.number (put_as j c.args.cmd) in
    let seen : j ≡ c.args.self.now.entries = ap (λ (v : Core). v.entries) c.self.view_is in
    let pushed : c.as_mut_slice.result.now ≡ more j (Line c.args.source c.args.number c.args.cmd)
    = c.as_mut_slice.ensures.value ∙ c.push_line.ensures.items ∙ ap (λ (l : Journal). more l (Line c.args.source c.args.number c.args.cmd)) c.reserve.ensures.items in
    let is : c.as_slice.result.now ≡ more j x = c.as_slice.ensures.value ∙ take_at c.settle_last.new.journal _ c.push_line.new.journal.len (c.settle_last.ensures.len ∙ c.as_mut_slice.ensures.len)
    ∙ c.settle_last.ensures.last j c.args.source c.args.number c.args.cmd pushed in
    let none : reloads_to (put_as j c.args.cmd) ≡ None = quiet-put j c.args.cmd ((λ i. is_some (reloads_to c.args.cmd) && lets_reload (seen i)) ∙ c.requires.quiet) in
    let stays = put-restarts j c.args.source c.args.number c.args.cmd ∙ c.requires.plain in
    let room : HasRoom j false = subst (λ (v : Core). HasRoom v.entries false) (sym c.self.view_is) c.requires.room in
    let own = c.in-Ok.ensures.ok j x told.lies is in
    let on = goes-on j x c.self.inside.bounds c.self.inside.book c.self.inside.runs c.follow_pushed.new.runs c.self.inside.parts c.follow_pushed.new.parts c.self.inside.lasts.items c.self.inside.reset
    (line-put c.args.source c.args.number (put_as j c.args.cmd)) stays none told followed own.0 own.1 c.follow_pushed.ensures.closed c.follow_pushed.ensures.firsts room (c.self.invariant.noted usable).in_time (c.self.invariant.noted usable).carried
    c.note_lasts-self-inside.new.lasts.items c.note_lasts-self-inside.result
    (c.note_lasts-self-inside.ensures.lasts ∙ (λ i. noted c.follow_pushed.new.parts.at c.follow_pushed.new.runs.firsts (drop (c.len-before.ensures i) c.follow_pushed.new.runs.list) c.self.inside.lasts.items))
    (c.note_lasts-self-inside.ensures.moved ∙ (λ i. moved_by c.follow_pushed.new.parts.at c.follow_pushed.new.runs.firsts (c.listed.ensures i) (drop (c.len-before.ensures i) c.follow_pushed.new.runs.list) c.self.inside.lasts.items)) in
    let there = sym c.as_slice.ensures.value ∙ is in
    subst (λ (i : Journal). Right i (all_of c.follow_pushed.new.runs.closed c.follow_pushed.new.runs.list)) (sym there) on.told.right

pub invariant_of-self-in-Err : goal.invariant_of-self-in-Err
invariant_of-self-in-Err c =
    let j : Journal = c.self.inside.journal.items in
    let told = c.self.invariant.told in
    let usable = ap (λ (v : Core). v.is_spent) c.self.view_is ∙ c.requires.usable in
    let followed = c.self.invariant.followed usable in
    let x : Entry = Line c.args.source c.args.number (put_as j c.args.cmd) in
    let pushed : c.as_mut_slice.result.now ≡ more j (Line c.args.source c.args.number c.args.cmd)
    = c.as_mut_slice.ensures.value ∙ c.push_line.ensures.items ∙ ap (λ (l : Journal). more l (Line c.args.source c.args.number c.args.cmd)) c.reserve.ensures.items in
    let is : c.as_slice.result.now ≡ more j x = c.as_slice.ensures.value ∙ take_at c.settle_last.new.journal _ c.push_line.new.journal.len (c.settle_last.ensures.len ∙ c.as_mut_slice.ensures.len)
    ∙ c.settle_last.ensures.last j c.args.source c.args.number c.args.cmd pushed in
    let back : c.drop_last.new.journal.items ≡ j = c.drop_last.ensures ∙ (λ i. take (length ((sym c.as_slice.ensures.value ∙ is) i) - 1) ((sym c.as_slice.ensures.value ∙ is) i)) ∙ take-less j x in
    record {
      told = told-same j c.drop_last.new.journal.items c.self.inside.bounds c.self.inside.book c.self.inside.runs c.follow_pushed.new.runs told back c.in-Err.ensures.err c.follow_pushed.ensures.closed;
      reloads_are = c.self.invariant.reloads_are ∙ ap (count_by is_reload) (sym back);
      followed = true-not;
      noted = true-not;
      stored = true-not;
      ordered = true-not;
    }

pub returns-in-Err-clause-stays : goal.returns-in-Err-clause-stays
returns-in-Err-clause-stays c =
    let j : Journal = c.self.inside.journal.items in
    let told = c.self.invariant.told in
    let usable = ap (λ (v : Core). v.is_spent) c.self.view_is ∙ c.requires.usable in
    let followed = c.self.invariant.followed usable in
    let x : Entry = Line c.args.source c.args.number (put_as j c.args.cmd) in
    let pushed : c.as_mut_slice.result.now ≡ more j (Line c.args.source c.args.number c.args.cmd)
    = c.as_mut_slice.ensures.value ∙ c.push_line.ensures.items ∙ ap (λ (l : Journal). more l (Line c.args.source c.args.number c.args.cmd)) c.reserve.ensures.items in
    let is : c.as_slice.result.now ≡ more j x = c.as_slice.ensures.value ∙ take_at c.settle_last.new.journal _ c.push_line.new.journal.len (c.settle_last.ensures.len ∙ c.as_mut_slice.ensures.len)
    ∙ c.settle_last.ensures.last j c.args.source c.args.number c.args.cmd pushed in
    let back : c.drop_last.new.journal.items ≡ j = c.drop_last.ensures ∙ (λ i. take (length ((sym c.as_slice.ensures.value ∙ is) i) - 1) ((sym c.as_slice.ensures.value ∙ is) i)) ∙ take-less j x in (
      back ∙ ap (λ (v : Core). v.entries) c.self.view_is,
      (λ i. all_of (c.follow_pushed.ensures.closed i) (c.in-Err.ensures.err i)) ∙ ap (λ (v : Core). v.runs) c.self.view_is,
    )
