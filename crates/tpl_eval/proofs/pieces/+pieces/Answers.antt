use Rattle.std.proofs.Common.{◌∙◌, ap, ◌++◌, get_or, refl, sym, subst}
use Rattle.std.specs.Prelude.{Option, Some, Err}
use Rattle.ha_config.specs.Words.{Text, Pairs}
use Rattle.tpl_eval.specs.Pieces.{behind, Alike, Grows}
use Rattle.tpl_eval.proofs.PieceLemmas.{assign-is, choice-arm, choice-fault, choice-none, follows-all, follows-fault, follows-more, show-is, template-is, text-writes, written}
use Rattle.tpl_eval.proofs.PlainLemmas.{text-is}
use Rattle.tpl_eval.proofs.pieces.+pieces.Goals as goal

pub write_template-returns-in-Err : goal.write_template-returns-in-Err
write_template-returns-in-Err t c = λ sight h whole alike.
    let ps = c.as_slice-pieces.result.now in
    let before = c.loop-i.invariant.follows sight h whole alike in
    let fault = rw c.in-Err.is at (c.write_piece.ensures sight h before.0 before.1) in
    subst (λ (o : Option (Text × Pairs)). Grows {Y = Unit {0}} c.args.env.now c.args.page.now c.write_piece.new.page o (Err c.in-Err.fault))
    (sym (template-is sight whole c.args.template.now ps c.as_slice-pieces.ensures))
    (follows-fault sight c.args.page.now.text c.loop-i.page.text (written sight ps whole) ps c.loop-i.i before.0 before.2
    c.index-pieces-i.result c.loop-i-test.true c.index-pieces-i.is c.args.env.now c.args.page.now c.loop-i.page c.write_piece.new.page c.in-Err.fault refl refl fault)

pub write_template-returns : goal.write_template-returns
write_template-returns t c = λ sight h whole alike.
    let ps = c.as_slice-pieces.result.now in
    let before = c.loop-i.invariant.follows sight h whole alike in (
      before.0,
      before.1,
      ap (behind c.args.page.now.text) (template-is sight whole c.args.template.now ps c.as_slice-pieces.ensures)
          ∙ follows-all sight c.args.page.now.text c.loop-i.page.text (written sight ps whole) ps c.loop-i.i before.0 before.2 c.loop-i-test.false,
      c.loop-i.invariant.short sight h,
    )

pub write_template-loop-i-preserved : goal.write_template-loop-i-preserved
write_template-loop-i-preserved t c = record {
  short = λ sight h s. (rw c.in-Ok.is at (c.write_piece.ensures sight h (c.args.env.now ++ c.loop-i.page.set) (λ n. refl))).3 (c.loop-i.invariant.short sight h s);
  follows = λ sight h whole alike.
      let before = c.loop-i.invariant.follows sight h whole alike in
      let after = rw c.in-Ok.is at (c.write_piece.ensures sight h before.0 before.1) in (
        after.0,
        after.1,
        follows-more sight c.args.page.now.text c.loop-i.page.text (written sight c.as_slice-pieces.result.now whole) c.as_slice-pieces.result.now c.loop-i.i before.0 before.2
            c.index-pieces-i.result c.write_piece.new.page.text after.0 c.loop-i-test.true c.index-pieces-i.is after.2,
      );
}

pub write_piece-returns-in-Text : goal.write_piece-returns-in-Text
write_piece-returns-in-Text t c = λ sight h whole alike.
    let page = record c.args.page.now { text = c.append.new.text } in
    subst (λ (o : Option (Text × Pairs)). Grows c.args.env.now c.args.page.now page o c.append.result)
    (ap (λ (w : Text). Some (w, whole)) c.as_str.ensures.value ∙ sym (text-is sight whole c.args.piece.now c.in-Text.text c.in-Text.is))
    (text-writes c.args.env.now whole c.args.page.now page (Some c.as_str.result.now) c.append.result alike refl c.append.ensures)

pub write_piece-returns-in-Show : goal.write_piece-returns-in-Show
write_piece-returns-in-Show t c = λ sight h whole alike.
    subst (λ (o : Option (Text × Pairs)). Grows c.args.env.now c.args.page.now c.show.new.page o c.show.result)
    (sym (show-is sight whole c.args.piece.now c.in-Show.expr c.in-Show.is)) (c.show.ensures sight h whole alike)

pub write_piece-returns-in-Assign : goal.write_piece-returns-in-Assign
write_piece-returns-in-Assign t c = λ sight h whole alike.
    subst (λ (o : Option (Text × Pairs)). Grows c.args.env.now c.args.page.now c.assign.new.page o c.assign.result)
    (sym (assign-is sight whole c.args.piece.now c.in-Assign.name c.in-Assign.value c.in-Assign.is)) (c.assign.ensures sight h whole alike)

pub write_choice-returns-in-Err : goal.write_choice-returns-in-Err
write_choice-returns-in-Err t c = λ sight h whole alike.
    let chosen = rw c.in-Err.is at (c.first_true.ensures sight h whole (subst (λ (s : Pairs). Alike whole (c.args.env.now ++ s)) (sym c.as_slice.ensures) alike)) in
    choice-fault sight whole c.args.piece.now c.in-Choice.arms c.as_slice-arms.result.now c.in-Choice.fallback c.in-Choice.is c.as_slice-arms.ensures c.args.env.now c.args.page.now c.args.page.now c.in-Err.fault chosen

pub write_choice-returns-then-place-arms : goal.write_choice-returns-then-place-arms
write_choice-returns-then-place-arms t c = λ sight h whole alike.
    let arms = c.as_slice-arms.result.now in
    let chosen = rw c.in-Ok.is at (c.first_true.ensures sight h whole (subst (λ (s : Pairs). Alike whole (c.args.env.now ++ s)) (sym c.as_slice.ensures) alike)) in
    let e = choice-arm sight whole c.args.piece.now c.in-Choice.arms arms c.in-Choice.fallback c.in-Choice.is c.as_slice-arms.ensures c.in-Ok.place (get_or arms c.in-Ok.place c.index-arms-place.result) chosen c.if-place-arms.true (ap (get_or arms c.in-Ok.place) c.index-arms-place.is) in
    subst (λ (o : Option (Text × Pairs)). Grows c.args.env.now c.args.page.now c.write_template.new.page o c.write_template.result) (sym e) (c.write_template.ensures sight h whole alike)

pub write_choice-returns-else-place-arms : goal.write_choice-returns-else-place-arms
write_choice-returns-else-place-arms t c = λ sight h whole alike.
    let chosen = rw c.in-Ok.is at (c.first_true.ensures sight h whole (subst (λ (s : Pairs). Alike whole (c.args.env.now ++ s)) (sym c.as_slice.ensures) alike)) in
    let e = choice-none sight whole c.args.piece.now c.in-Choice.arms c.as_slice-arms.result.now c.in-Choice.fallback c.in-Choice.is c.as_slice-arms.ensures c.in-Ok.place chosen c.if-place-arms.false in
    subst (λ (o : Option (Text × Pairs)). Grows c.args.env.now c.args.page.now c.write_template-else-place-arms.new.page o c.write_template-else-place-arms.result) (sym e) (c.write_template-else-place-arms.ensures sight h whole alike)
