use Rattle.std.proofs.Common.{◌≡◌, List, ℕ, [], length, map, sym, ap, subst, ◌∙◌}
use Rattle.std.specs.Prelude.{nat_lt, option_map, unwrap_or}
use Rattle.std.specs.List.{list_all}
use Rattle.std.specs.Option.{option_map_or}
use Rattle.ha_config.specs.Words.{Text}
use Rattle.ha_journal.specs.declared.carry.Carry.{Carry}
use Rattle.ha_whole.specs.Named.{named}
use Rattle.named_runs.specs.Opening.{IsOpening}
use Rattle.segment_carry.specs.Sources.{carry_in}
use Rattle.unit_book.proofs.FirstLemmas.{firsts-within}
use Rattle.ha_engine.specs.Reloads.{numbers_at}
use Rattle.ha_engine.proofs.restart.open_runs.Goals as goal

pub opening-requires : goal.opening-requires
opening-requires c =
    let is = c.firsts.ensures ∙ c.requires.firsts in
    (λ i. list_all (λ n. nat_lt n (length (is i))) (is i)) ∙ firsts-within c.args.book.now.names

pub returns-clause-opens : goal.returns-clause-opens
returns-clause-opens c =
    let h = c.in_ok-opening.ensures in
    let o = c.in_ok-opening.opening in
    subst (λ (fs : List ℕ). IsOpening fs o.numbers o) (sym h.firsts_are) (subst (λ (ns : List ℕ). IsOpening c.firsts.result.now ns o) (sym h.numbers_are) h)

pub returns-clause-firsts : goal.returns-clause-firsts
returns-clause-firsts c = c.in_ok-opening.ensures.firsts_are ∙ c.firsts.ensures

pub returns-clause-numbers : goal.returns-clause-numbers
returns-clause-numbers c =
    let names : c.as_slice.result.now ≡ c.args.book.now.names = c.as_slice.ensures ∙ c.names.ensures in
    let carried : c.as_slice-carried.result.now ≡ numbers_at c.args.journal.now c.args.front
    = c.as_slice-carried.ensures ∙ ap (λ (v : Carry). v.numbers) (c.carry_at.ensures c.requires.carried.0 c.requires.carried.1)
    ∙ (λ i. option_map_or (λ (v : Carry). v.numbers) (option_map carry_in (sym c.requires.carried.1 i)) []) in
    c.in_ok-opening.ensures.numbers_are ∙ c.in_ok-numbers.ensures ∙ (λ i. map {A = Text} {B = ℕ} (λ name. unwrap_or (named name (carried i)) 0) (names i))
