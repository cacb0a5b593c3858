use Rattle.std.proofs.Common.{sym, ◌∙◌, ap, length, drop, take, refl, ◌-◌}
use Rattle.ha_text.specs.Lines.{kept_of, lines_of, counted}
use Rattle.ha_text.proofs.LineLemmas.{front_passed, last_line, slice_rest, rest_free}
use Rattle.ha_text.proofs.lines.LineCut.finish.Goals as goal

pub blank-preserved-in-Some-2 : goal.blank-preserved-in-Some-2
blank-preserved-in-Some-2 c =
    let f = rw c.in-Some.is at c.in_ok-long.ensures in
    let now = c.deref.result.now in
    let items = c.self.inside.held.items in
    let r = front_passed items c.blank.start c.in-Some.long c.in-Some.long (take (length now - c.blank.start) (drop c.blank.start now)) (kept_of c.in-Some.field-0-0) (lines_of c.args.self.now) (slice_rest now items c.blank.start c.deref.ensures.value) f refl
    c.blank.invariant.within c.blank.invariant.whole c.blank.invariant.same in
    record { within = r.0; same = r.1; whole = r.2; still = c.blank.invariant.still }

pub returns-clause-last : goal.returns-clause-last
returns-clause-last c =
    let f = rw c.in_default.is at c.in_ok-long.ensures in
    let items = c.self.inside.held.items in
    sym c.blank.invariant.same ∙ last_line (drop c.blank.start items) (rest_free c.deref.result.now items c.blank.start c.deref.ensures.value f) ∙ ap counted (sym (slice_rest c.deref-2.result.now items c.blank.start c.deref-2.ensures.value)) ∙ sym c.in_ok-last.ensures
