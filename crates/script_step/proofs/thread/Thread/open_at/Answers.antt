use Rattle.std.proofs.Common.{◌≡◌, ◌∙◌, ap, sym, length, take, Some, arith}
use Rattle.std.specs.Prelude.{if◌then◌else◌}
use Rattle.script_step.specs.OpenBlocks.{is_left, last_left}
use Rattle.script_step.specs.Parts.{inner_list, list_in}
use Rattle.script_step.proofs.CutLemmas.{length-take, take-all}
use Rattle.script_step.proofs.LeftLemmas.{left-snoc}
use Rattle.ha_sight.proofs.OnceLemmas.{front-more}
use Rattle.script_step.proofs.WalkLemmas.{list-snoc}
use Rattle.script_step.proofs.thread.Thread.open_at.Goals as goal

pub loop-i-preserved : goal.loop-i-preserved
loop-i-preserved c =
    let list = c.args.list.now in
    let fs = c.as_slice-outer.result.now in
    let i = c.loop-i.i in
    let f = c.index-outer-i.result in
    let more = front-more fs i f c.loop-i-test.true c.index-outer-i.is in
    let place : i ≡ length (take i fs) = sym (length-take i fs (omega (arith, c.loop-i-test.true))) in
    record {
      own = c.inner_list-own.ensures ∙ (λ k. inner_list (c.loop-i.invariant.own k) f) ∙ sym (list-snoc list (take i fs) f) ∙ sym (ap (list_in list) more);
      found =
          c.later_open-found.ensures ∙ (λ k. if c.is_left-left.ensures k then Some i else c.loop-i.invariant.found k)
          ∙ (λ k. if is_left (c.loop-i.invariant.own k) f then Some (place k) else last_left list (take i fs))
          ∙ sym (left-snoc list (take i fs) f) ∙ sym (ap (last_left list) more);
    }

pub returns : goal.returns
returns c =
    let list = c.args.list.now in
    let t = c.args.self.now in
    let fs = c.as_slice-outer.result.now in
    let all : take c.loop-i.i fs ≡ t.outer = take-all fs c.loop-i.i (omega (arith, c.loop-i-test.false)) ∙ c.as_slice-outer.ensures in
    c.later_open.ensures ∙ (λ k. if c.is_left-here.ensures k then Some (length fs) else c.loop-i.invariant.found k)
    ∙ (λ k. if is_left ((c.loop-i.invariant.own ∙ ap (list_in list) all) k) t.here then Some (ap length c.as_slice-outer.ensures k) else last_left list (all k))
