use Rattle.std.proofs.Common.{◌≡◌, ◌-◌, false, true, drop, take, length, refl, sym, ap, subst, ◌∙◌, arith}
use Rattle.std.specs.Prelude.{IfSome, Some, count_by}
use Rattle.ha_config.specs.declared.command.Cmd.{Cmd}
use Rattle.ha_config.specs.Sound.{IsSoundConfig}
use Rattle.ha_config.specs.StoreText.{in_name_order}
use Rattle.ha_journal.specs.declared.entry.Entry.{Entry}
use Rattle.ha_journal.specs.declared.entry.Entry.TheVariants.{Line}
use Rattle.ha_journal.specs.Commands.{IsFair}
use Rattle.ha_journal.specs.Entries.{is_reload, reloads_to}
use Rattle.ha_journal.specs.Journal.{Journal, automations, more}
use Rattle.ha_journal.specs.States.{switches_of}
use Rattle.ha_journal.proofs.MoreLemmas.{length-more}
use Rattle.ha_journal.proofs.ReloadLemmas.{fair-lets}
use Rattle.ha_whole.specs.Lasts.{lasts}
use Rattle.ha_whole.specs.Segments.{segment}
use Rattle.ha_whole.specs.Whole.{HasRoom, Right, put}
use Rattle.segment_carry.specs.ByName.{rule_order}
use Rattle.segment_runs.specs.Segment.{all_of}
use Rattle.whole_laws.proofs.PutLemmas.{put-on}
use Rattle.ha_engine.specs.Core.{Core}
use Rattle.ha_engine.specs.Engines.{IsStored}
use Rattle.ha_engine.specs.Noted.{AreNoted, are_in_time, noted}
use Rattle.ha_engine.specs.Reloads.{AddsReload}
use Rattle.ha_engine.specs.Told.{AreLasts, IsFollowed, IsTold}
use Rattle.ha_engine.proofs.ChangeLemmas.{take-less}
use Rattle.ha_engine.proofs.FollowedLemmas.{told-same, true-not}
use Rattle.ha_engine.proofs.ReloadGoes.{few-before, reload-before, reload-count, reload-followed, reload-is, reload-last, reload-noted, reload-rules, reload-told, stays-reload, told-parted}
use Rattle.ha_engine.proofs.engine.Machine.append_kept.Goals as goal

pub follow_reload-requires : goal.follow_reload-requires
follow_reload-requires c =
    let j : Journal = c.self.inside.journal.items in
    let told = c.self.invariant.told in
    let usable = ap (λ (v : Core). v.is_spent) c.self.view_is ∙ c.requires.usable in
    let followed = c.self.invariant.followed usable in
    let got = reload-is c.args.cmd c.requires.reloads in
    let x : Entry = Line c.args.source c.args.number c.args.cmd in
    let is : c.as_slice.result.now ≡ more j x = c.as_slice.ensures.value ∙ c.push_line.ensures.items ∙ ap (λ (l : Journal). more l x) c.reserve.ensures.items in
    let room : HasRoom j false = subst (λ (v : Core). HasRoom v.entries false) (sym c.self.view_is) c.requires.room in
    let adds : AddsReload c.as_slice.result.now c.self.inside.bounds c.self.inside.book c.self.inside.runs c.self.inside.parts c.as_slice-2.result.now
    = record {
      j = j;
      source = c.args.source;
      number = c.args.number;
      text = got.0;
      config = got.1;
      journal_is = is ∙ (λ i. more j (Line c.args.source c.args.number (got.2 i)));
      known = c.requires.known;
      fair = subst (IsFair j) got.2 (subst (λ (v : Core). IsFair v.entries c.args.cmd) (sym c.self.view_is) c.requires.fair);
      sound = subst (λ (m : Cmd). IfSome (reloads_to m) IsSoundConfig) got.2 c.requires.sound;
      told = told;
      kept = followed.kept;
      firsts_are = followed.firsts_are;
      lasts_are = subst (AreLasts (segment j) c.self.inside.book) (sym c.as_slice-2.ensures.value) followed.lasts_are;
      small = omega (arith, ap length is, length-more j x, told.lies.few);
    } in
    adds

pub one_more-reloads-requires : goal.one_more-reloads-requires
one_more-reloads-requires c =
    let j : Journal = c.self.inside.journal.items in
    let fair : IsFair j c.args.cmd = subst (λ (v : Core). IsFair v.entries c.args.cmd) (sym c.self.view_is) c.requires.fair in
    few-before j c.self.inside.reloads c.self.invariant.reloads_are (fair-lets j c.args.cmd fair c.requires.reloads)

pub invariant_of-self : goal.invariant_of-self
invariant_of-self c = record {
  told = told-same c.self.inside.journal.items _ c.self.inside.bounds c.self.inside.book c.self.inside.runs _ c.self.invariant.told c.reserve.ensures.items refl refl;
  reloads_are = c.self.invariant.reloads_are ∙ ap (count_by is_reload) (sym c.reserve.ensures.items);
  followed = true-not;
  noted = true-not;
  stored = true-not;
  ordered = true-not;
}

pub invariant_of-self-in-Ok : goal.invariant_of-self-in-Ok
invariant_of-self-in-Ok c =
    let j : Journal = c.self.inside.journal.items in
    let told = c.self.invariant.told in
    let usable = ap (λ (v : Core). v.is_spent) c.self.view_is ∙ c.requires.usable in
    let followed = c.self.invariant.followed usable in
    let got = reload-is c.args.cmd c.requires.reloads in
    let x : Entry = Line c.args.source c.args.number c.args.cmd in
    let is : c.as_slice.result.now ≡ more j x = c.as_slice.ensures.value ∙ c.push_line.ensures.items ∙ ap (λ (l : Journal). more l x) c.reserve.ensures.items in
    let room : HasRoom j false = subst (λ (v : Core). HasRoom v.entries false) (sym c.self.view_is) c.requires.room in
    let adds : AddsReload c.as_slice.result.now c.self.inside.bounds c.self.inside.book c.self.inside.runs c.self.inside.parts c.as_slice-2.result.now
    = record {
      j = j;
      source = c.args.source;
      number = c.args.number;
      text = got.0;
      config = got.1;
      journal_is = is ∙ (λ i. more j (Line c.args.source c.args.number (got.2 i)));
      known = c.requires.known;
      fair = subst (IsFair j) got.2 (subst (λ (v : Core). IsFair v.entries c.args.cmd) (sym c.self.view_is) c.requires.fair);
      sound = subst (λ (m : Cmd). IfSome (reloads_to m) IsSoundConfig) got.2 c.requires.sound;
      told = told;
      kept = followed.kept;
      firsts_are = followed.firsts_are;
      lasts_are = subst (AreLasts (segment j) c.self.inside.book) (sym c.as_slice-2.ensures.value) followed.lasts_are;
      small = omega (arith, ap length is, length-more j x, told.lies.few);
    } in
    let n = c.in-Ok.next in
    let done = c.in-Ok.ensures.ok adds in
    let noted_is : c.note_lasts-self-inside.new.lasts.items ≡ noted c.follow_reload.new.parts.at c.follow_reload.new.runs.firsts (drop (length c.self.inside.runs.list) c.follow_reload.new.runs.list) n.lasts.items
    = c.note_lasts-self-inside.ensures.lasts ∙ (λ i. noted c.follow_reload.new.parts.at c.follow_reload.new.runs.firsts (drop (c.len-before.ensures i) c.follow_reload.new.runs.list) n.lasts.items) in
    let there : c.as_slice.result.now ≡ c.push_line.new.journal.items = c.as_slice.ensures.value in
    let known = c.self.invariant.noted usable in
    let size : c.one_more-reloads.result ≡ count_by is_reload c.as_slice.result.now = (let more_one = reload-count c.as_slice.result.now c.self.inside.bounds c.self.inside.book c.self.inside.runs c.self.inside.parts c.as_slice-2.result.now adds n c.follow_reload.new.runs c.follow_reload.new.parts done c.follow_reload.ensures.records c.follow_reload.ensures.entries room in omega (arith, more_one, c.one_more-reloads.ensures, c.self.invariant.reloads_are)) in
    let stored : IsStored c.as_slice.result.now (Some c.args.kept) = (
      reload-last c.as_slice.result.now c.self.inside.bounds c.self.inside.book c.self.inside.runs c.self.inside.parts c.as_slice-2.result.now adds n c.follow_reload.new.runs c.follow_reload.new.parts done c.follow_reload.ensures.records c.follow_reload.ensures.entries room,
      c.requires.switches ∙ ap (λ (v : Core). in_name_order (switches_of (segment v.entries))) (sym c.self.view_is) ∙ (λ i. in_name_order (switches_of (segment (sym (reload-before c.as_slice.result.now c.self.inside.bounds c.self.inside.book c.self.inside.runs c.self.inside.parts c.as_slice-2.result.now adds n c.follow_reload.new.runs c.follow_reload.new.parts done c.follow_reload.ensures.records c.follow_reload.ensures.entries room) i)))),
      c.requires.moments ∙ ap (λ (v : Core). in_name_order (lasts (segment v.entries))) (sym c.self.view_is) ∙ (λ i. in_name_order (lasts (segment (sym (reload-before c.as_slice.result.now c.self.inside.bounds c.self.inside.book c.self.inside.runs c.self.inside.parts c.as_slice-2.result.now adds n c.follow_reload.new.runs c.follow_reload.new.parts done c.follow_reload.ensures.records c.follow_reload.ensures.entries room) i)))),
    ) in
    record {
      told = subst (λ (i : Journal). IsTold i c.self.inside.bounds n.book c.follow_reload.new.runs) there (reload-told c.as_slice.result.now c.self.inside.bounds c.self.inside.book c.self.inside.runs c.self.inside.parts c.as_slice-2.result.now adds n c.follow_reload.new.runs c.follow_reload.new.parts done c.follow_reload.ensures.records c.follow_reload.ensures.entries room);
      reloads_are = size ∙ ap (count_by is_reload) there;
      followed = λ e. subst (λ (i : Journal). IsFollowed i n.book c.follow_reload.new.runs c.follow_reload.new.parts c.note_lasts-self-inside.new.lasts.items c.self.inside.reset) there (reload-followed c.as_slice.result.now c.self.inside.bounds c.self.inside.book c.self.inside.runs c.self.inside.parts c.as_slice-2.result.now adds n c.follow_reload.new.runs c.follow_reload.new.parts done c.follow_reload.ensures.records c.follow_reload.ensures.entries room c.note_lasts-self-inside.new.lasts.items c.self.inside.reset noted_is);
      noted = λ e. subst (λ (i : Journal). AreNoted i c.note_lasts-self-inside.new.lasts.items c.note_lasts-self-inside.result) there
          (reload-noted c.as_slice.result.now c.self.inside.bounds c.self.inside.book c.self.inside.runs c.self.inside.parts c.as_slice-2.result.now adds n c.follow_reload.new.runs c.follow_reload.new.parts done c.follow_reload.ensures.records c.follow_reload.ensures.entries room c.note_lasts-self-inside.new.lasts.items c.note_lasts-self-inside.result (subst (λ l. are_in_time l ≡ true) (sym c.as_slice-2.ensures.value) known.in_time) known.carried noted_is);
      stored = λ e. subst (λ (i : Journal). IsStored i (Some c.args.kept)) there stored;
      ordered = λ e. done.order_is ∙ ap rule_order (sym (reload-rules c.as_slice.result.now c.self.inside.bounds c.self.inside.book c.self.inside.runs c.self.inside.parts c.as_slice-2.result.now adds n c.follow_reload.new.runs c.follow_reload.new.parts done c.follow_reload.ensures.records c.follow_reload.ensures.entries room) ∙ ap automations there);
    }

pub returns-in-Ok-clause-put : goal.returns-in-Ok-clause-put
returns-in-Ok-clause-put c =
    let j : Journal = c.self.inside.journal.items in
    let got = reload-is c.args.cmd c.requires.reloads in
    let x : Entry = Line c.args.source c.args.number c.args.cmd in
    let is : c.as_slice.result.now ≡ more j x = c.as_slice.ensures.value ∙ c.push_line.ensures.items ∙ ap (λ (l : Journal). more l x) c.reserve.ensures.items in
    sym c.as_slice.ensures.value ∙ is ∙ sym (put-on j x (stays-reload c.args.source c.args.number c.args.cmd got.0 got.1 got.2)) ∙ ap (λ (v : Core). put v.entries x) c.self.view_is

pub returns-in-Ok-clause-right : goal.returns-in-Ok-clause-right
returns-in-Ok-clause-right c =
    let j : Journal = c.self.inside.journal.items in
    let told = c.self.invariant.told in
    let usable = ap (λ (v : Core). v.is_spent) c.self.view_is ∙ c.requires.usable in
    let followed = c.self.invariant.followed usable in
    let got = reload-is c.args.cmd c.requires.reloads in
    let x : Entry = Line c.args.source c.args.number c.args.cmd in
    let is : c.as_slice.result.now ≡ more j x = c.as_slice.ensures.value ∙ c.push_line.ensures.items ∙ ap (λ (l : Journal). more l x) c.reserve.ensures.items in
    let room : HasRoom j false = subst (λ (v : Core). HasRoom v.entries false) (sym c.self.view_is) c.requires.room in
    let adds : AddsReload c.as_slice.result.now c.self.inside.bounds c.self.inside.book c.self.inside.runs c.self.inside.parts c.as_slice-2.result.now
    = record {
      j = j;
      source = c.args.source;
      number = c.args.number;
      text = got.0;
      config = got.1;
      journal_is = is ∙ (λ i. more j (Line c.args.source c.args.number (got.2 i)));
      known = c.requires.known;
      fair = subst (IsFair j) got.2 (subst (λ (v : Core). IsFair v.entries c.args.cmd) (sym c.self.view_is) c.requires.fair);
      sound = subst (λ (m : Cmd). IfSome (reloads_to m) IsSoundConfig) got.2 c.requires.sound;
      told = told;
      kept = followed.kept;
      firsts_are = followed.firsts_are;
      lasts_are = subst (AreLasts (segment j) c.self.inside.book) (sym c.as_slice-2.ensures.value) followed.lasts_are;
      small = omega (arith, ap length is, length-more j x, told.lies.few);
    } in
    let n = c.in-Ok.next in
    let done = c.in-Ok.ensures.ok adds in
    subst (λ (i : Journal). Right i (all_of c.follow_reload.new.runs.closed c.follow_reload.new.runs.list)) c.as_slice.ensures.value (reload-told c.as_slice.result.now c.self.inside.bounds c.self.inside.book c.self.inside.runs c.self.inside.parts c.as_slice-2.result.now adds n c.follow_reload.new.runs c.follow_reload.new.parts done c.follow_reload.ensures.records c.follow_reload.ensures.entries room).right

pub invariant_of-self-in-Err-1 : goal.invariant_of-self-in-Err-1
invariant_of-self-in-Err-1 c =
    let j : Journal = c.self.inside.journal.items in
    let told = c.self.invariant.told in
    let x : Entry = Line c.args.source c.args.number c.args.cmd in
    let is : c.as_slice.result.now ≡ more j x = c.as_slice.ensures.value ∙ c.push_line.ensures.items ∙ ap (λ (l : Journal). more l x) c.reserve.ensures.items in
    let back : c.drop_last.new.journal.items ≡ j = c.drop_last.ensures ∙ (λ i. take (length ((sym c.as_slice.ensures.value ∙ is) i) - 1) ((sym c.as_slice.ensures.value ∙ is) i)) ∙ take-less j x in
    record {
      told = told-parted j c.drop_last.new.journal.items c.self.inside.bounds c.self.inside.book c.self.inside.runs c.follow_reload.new.runs told (c.self.invariant.followed (ap (λ (v : Core). v.is_spent) c.self.view_is ∙ c.requires.usable)).firsts_are back c.in-Err.ensures.err
          c.follow_reload.ensures.records c.follow_reload.ensures.entries c.in-Err.ensures.all c.in-Err.ensures.numbers;
      reloads_are = c.self.invariant.reloads_are ∙ ap (count_by is_reload) (sym back);
      followed = true-not;
      noted = true-not;
      stored = true-not;
      ordered = true-not;
    }

pub returns-in-Err-clause-stays : goal.returns-in-Err-clause-stays
returns-in-Err-clause-stays c =
    let j : Journal = c.self.inside.journal.items in
    let x : Entry = Line c.args.source c.args.number c.args.cmd in
    let is : c.as_slice.result.now ≡ more j x = c.as_slice.ensures.value ∙ c.push_line.ensures.items ∙ ap (λ (l : Journal). more l x) c.reserve.ensures.items in
    let back : c.drop_last.new.journal.items ≡ j = c.drop_last.ensures ∙ (λ i. take (length ((sym c.as_slice.ensures.value ∙ is) i) - 1) ((sym c.as_slice.ensures.value ∙ is) i)) ∙ take-less j x in (
      back ∙ ap (λ (v : Core). v.entries) c.self.view_is,
      c.in-Err.ensures.all ∙ ap (λ (v : Core). v.runs) c.self.view_is,
    )
