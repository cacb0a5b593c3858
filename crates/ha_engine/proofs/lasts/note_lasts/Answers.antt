use Rattle.std.proofs.Common.{◌∙◌, ◌+◌, ◌<◌, ◌||◌, drop, refl, subst, sym, arith}
use Rattle.ha_engine.specs.Noted.{moved_by}
use Rattle.ha_engine.proofs.MovedLemmas.{moved-none, moved-step}
use Rattle.ha_engine.proofs.NotedLemmas.{noted-none, noted-step}
use Rattle.ha_engine.proofs.lasts.note_lasts.Goals as goal

pub runs-init : goal.runs-init
runs-init c = record { lasts = refl; moved = refl }

pub runs-preserved : goal.runs-preserved
runs-preserved c =
    let within = subst (λ n. c.runs.place < n) c.len-place-end.ensures c.runs-test.true in
    record {
      lasts = noted-step c.args.at c.runs.place c.args.runs.now.firsts c.args.runs.now.list c.runs.lasts.items c.note_last.new.lasts.items c.first-first.result within c.first-first.ensures c.note_last.ensures.lasts
          ∙ c.runs.invariant.lasts;
      moved = (λ i. c.either-moved.ensures i || moved_by c.args.at c.args.runs.now.firsts c.args.listed.now (drop (c.runs.place + 1) c.args.runs.now.list) c.note_last.new.lasts.items)
          ∙ moved-step c.args.at c.runs.place c.args.runs.now.firsts c.args.listed.now c.args.runs.now.list c.runs.lasts.items c.note_last.new.lasts.items c.first-first.result c.runs.moved c.note_last.result _ within
          c.first-first.ensures c.note_last.ensures.lasts c.note_last.ensures.moved c.runs.invariant.moved;
    }

pub returns-clause-lasts : goal.returns-clause-lasts
returns-clause-lasts c =
    sym (noted-none c.args.at c.args.runs.now.firsts c.args.runs.now.list c.runs.place c.runs.lasts.items (omega (arith, c.runs-test.false, c.len-place-end.ensures))) ∙ c.runs.invariant.lasts

pub returns-clause-moved : goal.returns-clause-moved
returns-clause-moved c =
    sym (moved-none c.args.at c.args.runs.now.firsts c.args.listed.now c.args.runs.now.list c.runs.place c.runs.lasts.items c.runs.moved (omega (arith, c.runs-test.false, c.len-place-end.ensures))) ∙ c.runs.invariant.moved
