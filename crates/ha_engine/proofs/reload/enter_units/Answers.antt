use Rattle.std.proofs.Common.{◌≡◌, [], map, sym, ap, subst, ◌∙◌}
use Rattle.std.specs.Prelude.{option_map, unwrap_or}
use Rattle.std.specs.Option.{option_map_or}
use Rattle.ha_journal.specs.declared.carry.Carry.{Carry}
use Rattle.ha_whole.specs.Named.{named}
use Rattle.ha_whole.specs.Segments.{carried_number}
use Rattle.segment_carry.specs.Sources.{carry_in}
use Rattle.segment_runs.specs.Segment.{number_at}
use Rattle.named_runs.specs.Named.{GoesOn}
use Rattle.trig_set.proofs.OnLemmas.{on-then}
use Rattle.ha_engine.specs.Reloads.{AreEntered, numbers_at}
use Rattle.ha_engine.proofs.CarriedLemmas.{numbers-named}
use Rattle.ha_engine.proofs.ReloadTable.{enters-firsts, enters-numbers, on-both}
use Rattle.ha_engine.proofs.reload.enter_units.Goals as goal

pub carry_at-requires : goal.carry_at-requires
carry_at-requires c = c.requires.opens

pub enter-requires-clause-firsts : goal.enter-requires-clause-firsts
enter-requires-clause-firsts c = subst (GoesOn c.args.runs.now.firsts) (sym c.firsts.ensures) (enters-firsts c.args.journal.now c.args.bounds c.args.book.now c.args.runs.now c.requires)

pub enter-requires-clause-numbers : goal.enter-requires-clause-numbers
enter-requires-clause-numbers c =
    let h = c.requires in
    let carried : c.as_slice-carried.result.now ≡ numbers_at c.args.journal.now c.args.bounds.front
    = c.as_slice-carried.ensures ∙ ap (λ (v : Carry). v.numbers) (c.carry_at.ensures h.opens.0 h.opens.1)
    ∙ (λ i. option_map_or (λ (v : Carry). v.numbers) (option_map carry_in (sym h.opens.1 i)) []) in
    let is : c.in_ok-numbers.numbers ≡ map (carried_number h.s) c.args.book.now.names
    = c.in_ok-numbers.ensures ∙ (λ i. map (λ name. unwrap_or (named name c.as_slice-carried.result.now) 0) ((c.as_slice.ensures ∙ c.names.ensures) i)) ∙ numbers-named h.s c.as_slice-carried.result.now c.args.book.now.names (carried ∙ h.front) in
    λ a lt. enters-numbers c.args.journal.now c.args.bounds c.args.book.now c.args.runs.now h a lt ∙ (λ i. number_at (sym is i) a)

pub returns-clause-ok : goal.returns-clause-ok
returns-clause-ok c =
    let carried : c.as_slice-carried.result.now ≡ numbers_at c.args.journal.now c.args.bounds.front
    = c.as_slice-carried.ensures ∙ ap (λ (v : Carry). v.numbers) (c.carry_at.ensures c.requires.opens.0 c.requires.opens.1)
    ∙ (λ i. option_map_or (λ (v : Carry). v.numbers) (option_map carry_in (sym c.requires.opens.1 i)) []) in
    on-then _ (AreEntered c.args.journal.now c.args.bounds c.args.book.now c.args.runs.now c.enter.new.self) c.enter.result
    (λ both. record {
      firsts_are = both.0 ∙ c.firsts.ensures;
      records = (λ i. (both.1 i).records);
      entries = (λ i. (both.1 i).entries);
      numbers = λ h. (λ i. (both.1 i).numbers) ∙ c.in_ok-numbers.ensures ∙ (λ i. map (λ name. unwrap_or (named name c.as_slice-carried.result.now) 0) ((c.as_slice.ensures ∙ c.names.ensures) i))
          ∙ numbers-named h.s c.as_slice-carried.result.now c.args.book.now.names (carried ∙ h.front);
    })
    (on-both _ _ c.enter.result c.enter.ensures.firsts c.enter.ensures.closed)
