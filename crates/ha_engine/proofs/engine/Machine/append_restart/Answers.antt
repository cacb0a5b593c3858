use Rattle.std.proofs.Common.{◌≡◌, ◌+◌, ◌-◌, true, false, take, length, refl, sym, ap, subst, ◌∙◌, arith}
use Rattle.std.specs.Prelude.{count_by}
use Rattle.ha_config.specs.declared.command.Cmd.{Cmd}
use Rattle.ha_journal.specs.declared.entry.Entry.{Entry}
use Rattle.ha_journal.specs.declared.entry.Entry.TheVariants.{Line}
use Rattle.ha_journal.specs.Entries.{is_reload}
use Rattle.ha_journal.specs.Journal.{Journal, automations, more}
use Rattle.ha_model.specs.Records.{last_is}
use Rattle.ha_model.proofs.LastEntry.{last-is}
use Rattle.ha_whole.specs.Whole.{HasRoom, again_of, put}
use Rattle.segment_carry.specs.ByName.{rule_order}
use Rattle.segment_runs.specs.Segment.{all_of}
use Rattle.whole_laws.proofs.LiftLemmas.{entries-have}
use Rattle.whole_laws.proofs.PutLemmas.{put-restart}
use Rattle.unit_book.specs.declared.book.UnitBook.{UnitBook}
use Rattle.ha_engine.specs.Core.{Core}
use Rattle.ha_engine.specs.declared.bounds.Bounds.{Bounds}
use Rattle.ha_engine.specs.Told.{IsTold}
use Rattle.ha_engine.proofs.ChangeLemmas.{take-less}
use Rattle.ha_engine.proofs.FollowedLemmas.{told-same, true-not}
use Rattle.ha_engine.proofs.StoredLemmas.{automations-behind}
use Rattle.ha_engine.proofs.PlainLemmas.{reloads-more}
use Rattle.ha_engine.proofs.engine.Machine.append_restart.Goals as goal

pub follow_restart-requires-clause-restarting : goal.follow_restart-requires-clause-restarting
follow_restart-requires-clause-restarting c =
    let j : Journal = c.self.inside.journal.items in
    let told = c.self.invariant.told in
    let followed = c.self.invariant.followed (ap (λ (v : Core). v.is_spent) c.self.view_is ∙ c.requires.usable) in
    record {
      j = j;
      source = c.args.source;
      number = c.args.number;
      journal_is = c.push_line.ensures.items ∙ ap (λ (l : Journal). more l (Line c.args.source c.args.number Cmd.Restart)) c.reserve.ensures.items;
      known = c.requires.known;
      room = subst (λ (v : Core). HasRoom v.entries true) (sym c.self.view_is) c.requires.room;
      told = told;
      firsts_are = followed.firsts_are;
      kept = followed.kept;
      lasts_are = followed.lasts_are;
    }

pub follow_restart-requires-clause-in_time : goal.follow_restart-requires-clause-in_time
follow_restart-requires-clause-in_time c = (c.self.invariant.noted (ap (λ (v : Core). v.is_spent) c.self.view_is ∙ c.requires.usable)).in_time

pub invariant_of-self : goal.invariant_of-self
invariant_of-self c = record {
  told = told-same c.self.inside.journal.items _ c.self.inside.bounds c.self.inside.book c.self.inside.runs _ c.self.invariant.told c.reserve.ensures.items refl refl;
  reloads_are = c.self.invariant.reloads_are ∙ ap (count_by is_reload) (sym c.reserve.ensures.items);
  followed = true-not;
  noted = true-not;
  stored = true-not;
  ordered = true-not;
}

pub invariant_of-self-in-Ok : goal.invariant_of-self-in-Ok
invariant_of-self-in-Ok c =
    let j : Journal = c.self.inside.journal.items in
    let x : Entry = Line c.args.source c.args.number Cmd.Restart in
    let is : c.push_line.new.journal.items ≡ more j x = c.push_line.ensures.items ∙ ap (λ (l : Journal). more l x) c.reserve.ensures.items in
    let behind : c.follow_restart.new.journal.items ≡ more (more j x) (again_of (more j x)) = c.in-Ok.ensures.put ∙ (λ i. more (is i) (again_of (is i))) in
    let one : count_by is_reload (more j x) ≡ count_by is_reload j + 0 = reloads-more j x false refl in
    let two : count_by is_reload (more (more j x) (again_of (more j x))) ≡ count_by is_reload (more j x) + 0 = reloads-more (more j x) (again_of (more j x)) false refl in
    let same : count_by is_reload j ≡ count_by is_reload (more (more j x) (again_of (more j x))) = omega (arith, one, two) in
    record {
      told = c.in-Ok.ensures.told;
      reloads_are = c.self.invariant.reloads_are ∙ same ∙ ap (count_by is_reload) (sym behind);
      followed = λ e. c.in-Ok.ensures.followed;
      noted = λ e. c.in-Ok.ensures.noted;
      stored = λ e. ap (last_is is_reload) behind ∙ last-is is_reload (more j x) (again_of (more j x));
      ordered = λ e. c.self.invariant.ordered (ap (λ (v : Core). v.is_spent) c.self.view_is ∙ c.requires.usable)
          ∙ ap rule_order (automations-behind j x (again_of (more j x)) (entries-have j c.self.invariant.told.lies.entries) refl refl ∙ ap automations (sym behind));
    }

pub returns-in-Ok-clause-put : goal.returns-in-Ok-clause-put
returns-in-Ok-clause-put c =
    let j : Journal = c.self.inside.journal.items in
    let told = c.self.invariant.told in
    let is : c.push_line.new.journal.items ≡ more j (Line c.args.source c.args.number Cmd.Restart)
    = c.push_line.ensures.items ∙ ap (λ (l : Journal). more l (Line c.args.source c.args.number Cmd.Restart)) c.reserve.ensures.items in
    c.in-Ok.ensures.put ∙ (λ i. more (is i) (again_of (is i))) ∙ sym (put-restart j (Line c.args.source c.args.number Cmd.Restart) refl)
    ∙ ap (λ (v : Core). put v.entries (Line c.args.source c.args.number Cmd.Restart)) c.self.view_is

pub returns-in-Ok-clause-right : goal.returns-in-Ok-clause-right
returns-in-Ok-clause-right c = c.in-Ok.ensures.told.right

pub invariant_of-self-in-Err : goal.invariant_of-self-in-Err
invariant_of-self-in-Err c =
    let j : Journal = c.self.inside.journal.items in
    let told = c.self.invariant.told in
    let is : c.push_line.new.journal.items ≡ more j (Line c.args.source c.args.number Cmd.Restart)
    = c.push_line.ensures.items ∙ ap (λ (l : Journal). more l (Line c.args.source c.args.number Cmd.Restart)) c.reserve.ensures.items in
    let same = c.in-Err.ensures.stays in
    let here : c.follow_restart.new.journal.items ≡ more j (Line c.args.source c.args.number Cmd.Restart) = c.in-Err.ensures.journal ∙ is in
    let back : c.drop_last.new.journal.items ≡ j = c.drop_last.ensures ∙ (λ i. take (length (here i) - 1) (here i)) ∙ take-less j (Line c.args.source c.args.number Cmd.Restart) in
    record {
      told = subst (λ (b : Bounds). IsTold c.drop_last.new.journal.items b c.follow_restart.new.book c.follow_restart.new.runs) (sym same.0)
          (subst (λ (u : UnitBook). IsTold c.drop_last.new.journal.items c.self.inside.bounds u c.follow_restart.new.runs) (sym same.1)
          (told-same j c.drop_last.new.journal.items c.self.inside.bounds c.self.inside.book c.self.inside.runs c.follow_restart.new.runs told back same.2 same.3));
      reloads_are = c.self.invariant.reloads_are ∙ ap (count_by is_reload) (sym back);
      followed = true-not;
      noted = true-not;
      stored = true-not;
      ordered = true-not;
    }

pub returns-in-Err-clause-stays : goal.returns-in-Err-clause-stays
returns-in-Err-clause-stays c =
    let j : Journal = c.self.inside.journal.items in
    let told = c.self.invariant.told in
    let is : c.push_line.new.journal.items ≡ more j (Line c.args.source c.args.number Cmd.Restart)
    = c.push_line.ensures.items ∙ ap (λ (l : Journal). more l (Line c.args.source c.args.number Cmd.Restart)) c.reserve.ensures.items in
    let same = c.in-Err.ensures.stays in
    let here : c.follow_restart.new.journal.items ≡ more j (Line c.args.source c.args.number Cmd.Restart) = c.in-Err.ensures.journal ∙ is in
    let back : c.drop_last.new.journal.items ≡ j = c.drop_last.ensures ∙ (λ i. take (length (here i) - 1) (here i)) ∙ take-less j (Line c.args.source c.args.number Cmd.Restart) in (
      back ∙ ap (λ (v : Core). v.entries) c.self.view_is,
      (λ i. all_of (same.3 i) (same.2 i)) ∙ ap (λ (v : Core). v.runs) c.self.view_is,
    )
