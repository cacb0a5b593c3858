use Rattle.std.proofs.Common.{◌∙◌, sym, ap, subst, Option, List, Ok, [], ◌&&◌, Bool, true, if◌then◌else◌, refl, ℕ}
use Rattle.yaml_scan.specs.Answers.{Gives}
use Rattle.yaml_scan.specs.declared.fault.Code.TheVariants as code
use Rattle.ha_config.specs.declared.config.Action.{Action}
use Rattle.yaml_tree.specs.Readers.{is_null_word, line_of}
use Rattle.conf_field.specs.declared.key.Key.TheVariants as key
use Rattle.conf_field.specs.Readings.{Read, behind, keep, made, bad}
use Rattle.conf_field.specs.Fields.{row, place}
use Rattle.conf_field.proofs.Made.{kept_more, one_more}
use Rattle.conf_cond.specs.Conditions.{condition_map}
use Rattle.conf_script.specs.declared.name.ActionName.{ActionName}
use Rattle.conf_script.specs.Actions as a
use Rattle.conf_script.proofs.Opened as opened
use Rattle.conf_script.proofs.actions.+actions.Goals as goal

-- ---- one action

pub one-returns-in-Scalar : goal.one-returns-in-Scalar
one-returns-in-Scalar t c =
    let Whole : Read (Option Action) → Type 0 = λ r. Gives r c.scalar_action.result in
    subst Whole (sym (opened.one_scalar c.args.node.now c.in-Scalar.text c.bytes.result.now c.in-Scalar.plain c.in-Scalar.is c.bytes.ensures.value))
    c.scalar_action.ensures

pub one-returns-in-Map : goal.one-returns-in-Map
one-returns-in-Map t c =
    let Whole : Read (Option Action) → Type 0 = λ r. Gives r c.of_map.result in
    subst Whole (sym (opened.one_map c.args.node.now c.in-Map.pairs c.as_slice.result.now c.in-Map.is c.as_slice.ensures)) c.of_map.ensures

pub one-returns-in-List : goal.one-returns-in-List
one-returns-in-List t c =
    let Whole : Read (Option Action) → Type 0 = λ r. Gives r c.bad.result in
    subst Whole (sym (opened.one_list c.args.node.now c.in-List._items c.in-List.is)) c.bad.ensures

-- ---- lists of actions

pub list_in-returns-in-Some : goal.list_in-returns-in-Some
list_in-returns-in-Some t c = λ m h.
    let Whole : Read (List Action) → Type 0 = λ r. Gives r c.all.result in
    subst Whole
    (sym (opened.in_field m a.all_of c.args.pairs.now c.args.row c.in-Some.i c.index-pairs-i.result c.in-Some.ensures.value c.in-Some.ensures.within (sym c.index-pairs-i.is)))
    c.all.ensures

pub all-returns-then-is_null_scalar : goal.all-returns-then-is_null_scalar
all-returns-then-is_null_scalar t c =
    let Whole : Read (List Action) → Type 0 = λ r. Gives r (Ok c.make.result) in
    let null = ap (λ w. c.in-Scalar.plain && is_null_word w) (sym c.bytes.ensures.value) ∙ sym c.is_null_scalar.ensures ∙ c.if-is_null_scalar.true in
    subst Whole (sym (opened.all_null c.args.node.now c.in-Scalar.text c.in-Scalar.plain c.in-Scalar.is null ∙ ap Ok (sym c.make.ensures))) refl

pub all-returns-else-is_null_scalar : goal.all-returns-else-is_null_scalar
all-returns-else-is_null_scalar t c =
    let Whole : Read (List Action) → Type 0 = λ r. Gives r c.alone.result in
    let some = ap (λ w. c.in-Scalar.plain && is_null_word w) (sym c.bytes.ensures.value) ∙ sym c.is_null_scalar.ensures ∙ c.if-is_null_scalar.false in
    subst Whole (sym (opened.all_scalar c.args.node.now c.in-Scalar.text c.in-Scalar.plain c.in-Scalar.is some)) (c.alone.ensures (a.one_action c.args.node.now) c.one.ensures)

pub all-returns-in-List : goal.all-returns-in-List
all-returns-in-List t c =
    let Whole : Read (List Action) → Type 0 = λ r. Gives r c.each_of.result in
    subst Whole (sym (opened.all_list c.args.node.now c.in-List.items c.as_slice.result.now c.in-List.is c.as_slice.ensures)) c.each_of.ensures

pub all-returns-in-Map : goal.all-returns-in-Map
all-returns-in-Map t c =
    let Whole : Read (List Action) → Type 0 = λ r. Gives r c.alone-in-Map.result in
    subst Whole (sym (opened.all_map c.args.node.now c.in-Map._pairs c.in-Map.is)) (c.alone-in-Map.ensures (a.one_action c.args.node.now) c.one-in-Map.ensures)

pub each_of-items-preserved : goal.each_of-items-preserved
each_of-items-preserved t c =
    let old = c.items.invariant in
    let x = c.index-items-i.result in (
      keep old.0 (a.one_action x),
      c.keep-found.ensures old.0 (a.one_action x) old.1 c.one.ensures,
      sym (kept_more a.one_action old.0 c.args.items.now c.items.i x c.items-test.true (sym c.index-items-i.is)) ∙ old.2,
    )

-- ---- options of a choice

pub each_option-items-preserved : goal.each_option-items-preserved
each_option-items-preserved t c =
    let old = c.items.invariant in
    let x = c.index-items-i.result in (
      behind old.0 (a.option x),
      c.behind-found.ensures old.0 (a.option x) old.1 c.chosen.ensures,
      sym (one_more a.option old.0 c.args.items.now c.items.i x c.items-test.true (sym c.index-items-i.is)) ∙ old.2,
    )

-- ---- branches

pub each_branch-items-preserved : goal.each_branch-items-preserved
each_branch-items-preserved t c =
    let old = c.items.invariant in
    let x = c.index-items-i.result in (
      keep old.0 (a.one_branch x),
      c.keep-found.ensures old.0 (a.one_branch x) old.1 c.branch-items.ensures,
      sym (kept_more a.one_branch old.0 c.args.items.now c.items.i x c.items-test.true (sym c.index-items-i.is)) ∙ old.2,
    )

pub branches-returns-in-Some : goal.branches-returns-in-Some
branches-returns-in-Some t c =
    let Whole : Read (List (List Action)) → Type 0 = λ r. Gives r c.all_branches.result in
    subst Whole
    (sym (opened.in_field (bad c.args.line code.MissingKey) a.branches_of c.args.pairs.now (row key.Parallel) c.in-Some.i c.index-pairs-i.result c.in-Some.ensures.value c.in-Some.ensures.within (sym c.index-pairs-i.is)))
    c.all_branches.ensures

pub all_branches-returns-then-is_null_scalar : goal.all_branches-returns-then-is_null_scalar
all_branches-returns-then-is_null_scalar t c =
    let Whole : Read (List (List Action)) → Type 0 = λ r. Gives r (Ok c.make.result) in
    let null = ap (λ w. c.in-Scalar.plain && is_null_word w) (sym c.bytes.ensures.value) ∙ sym c.is_null_scalar.ensures ∙ c.if-is_null_scalar.true in
    subst Whole (sym (opened.branches_null c.args.node.now c.in-Scalar.text c.in-Scalar.plain c.in-Scalar.is null ∙ ap Ok (sym c.make.ensures))) refl

pub all_branches-returns-else-is_null_scalar : goal.all_branches-returns-else-is_null_scalar
all_branches-returns-else-is_null_scalar t c =
    let Whole : Read (List (List Action)) → Type 0 = λ r. Gives r c.alone.result in
    let some = ap (λ w. c.in-Scalar.plain && is_null_word w) (sym c.bytes.ensures.value) ∙ sym c.is_null_scalar.ensures ∙ c.if-is_null_scalar.false in
    subst Whole (sym (opened.branches_scalar c.args.node.now c.in-Scalar.text c.in-Scalar.plain c.in-Scalar.is some)) (c.alone.ensures (a.one_branch c.args.node.now) c.branch-node.ensures)

pub all_branches-returns-in-List : goal.all_branches-returns-in-List
all_branches-returns-in-List t c =
    let Whole : Read (List (List Action)) → Type 0 = λ r. Gives r c.each_branch.result in
    subst Whole (sym (opened.branches_list c.args.node.now c.in-List.items c.as_slice.result.now c.in-List.is c.as_slice.ensures)) c.each_branch.ensures

pub all_branches-returns-in-Map : goal.all_branches-returns-in-Map
all_branches-returns-in-Map t c =
    let Whole : Read (List (List Action)) → Type 0 = λ r. Gives r c.alone-in-Map.result in
    subst Whole (sym (opened.branches_map c.args.node.now c.in-Map._pairs c.in-Map.is)) (c.alone-in-Map.ensures (a.one_branch c.args.node.now) c.branch-node-in-Map.ensures)

pub branch-returns-in-Scalar : goal.branch-returns-in-Scalar
branch-returns-in-Scalar t c =
    let Whole : Read (Option (List Action)) → Type 0 = λ r. Gives r c.branch_of.result in
    subst Whole (sym (opened.branch_scalar c.args.node.now c.in-Scalar._text c.in-Scalar._plain c.in-Scalar.is)) (c.branch_of.ensures (a.one_action c.args.node.now) c.one.ensures)

pub branch-returns-in-List : goal.branch-returns-in-List
branch-returns-in-List t c =
    let Whole : Read (Option (List Action)) → Type 0 = λ r. Gives r c.some_branch.result in
    subst Whole (sym (opened.branch_list c.args.node.now c.in-List._items c.in-List.is)) (c.some_branch.ensures (a.actions c.args.node.now) c.all.ensures)

pub branch-returns-in-Map : goal.branch-returns-in-Map
branch-returns-in-Map t c =
    let Whole : Read (Option (List Action)) → Type 0 = λ r. Gives r c.branch_of-in-Map.result in
    subst Whole (sym (opened.branch_map c.args.node.now c.in-Map._pairs c.in-Map.is)) (c.branch_of-in-Map.ensures (a.one_action c.args.node.now) c.one-in-Map.ensures)

-- ---- a choice

pub choices-returns-in-Scalar : goal.choices-returns-in-Scalar
choices-returns-in-Scalar t c =
    let pairs = c.args.pairs.now in
    let x = c.index-pairs-i.result in
    let Whole : Read (List a.Chosen) → Type 0 = λ r. Gives r c.bad.result in
    let At : ℕ → Type 0 = λ l. Gives (bad {A = List a.Chosen} l code.Kind) c.bad.result in
    subst Whole
    (sym (opened.in_field (bad c.args.line code.MissingKey) a.choices_of pairs (row key.Choose) c.in-Some.i x c.in-Some.ensures.value c.in-Some.ensures.within (sym c.index-pairs-i.is)
    ∙ opened.options_scalar x.2 (place x) c.in-Scalar._text c.in-Scalar._plain c.in-Scalar.is))
    (subst At c.place.ensures c.bad.ensures)

pub choices-returns-in-List : goal.choices-returns-in-List
choices-returns-in-List t c =
    let pairs = c.args.pairs.now in
    let x = c.index-pairs-i.result in
    let Whole : Read (List a.Chosen) → Type 0 = λ r. Gives r c.each_option.result in
    subst Whole
    (sym (opened.in_field (bad c.args.line code.MissingKey) a.choices_of pairs (row key.Choose) c.in-Some.i x c.in-Some.ensures.value c.in-Some.ensures.within (sym c.index-pairs-i.is)
    ∙ opened.options_list x.2 (place x) c.in-List.items c.as_slice.result.now c.in-List.is c.as_slice.ensures))
    c.each_option.ensures

pub choices-returns-in-Map : goal.choices-returns-in-Map
choices-returns-in-Map t c =
    let pairs = c.args.pairs.now in
    let x = c.index-pairs-i.result in
    let Whole : Read (List a.Chosen) → Type 0 = λ r. Gives r c.one_option.result in
    subst Whole
    (sym (opened.in_field (bad c.args.line code.MissingKey) a.choices_of pairs (row key.Choose) c.in-Some.i x c.in-Some.ensures.value c.in-Some.ensures.within (sym c.index-pairs-i.is)
    ∙ opened.options_map x.2 (place x) c.in-Map._pairs c.in-Map.is))
    (c.one_option.ensures (a.option x.2) c.chosen.ensures)

-- ---- one option

pub chosen-returns-in-Scalar : goal.chosen-returns-in-Scalar
chosen-returns-in-Scalar t c =
    let Whole : Read a.Chosen → Type 0 = λ r. Gives r c.bad.result in
    subst Whole (sym (opened.option_scalar c.args.node.now c.in-Scalar._text c.in-Scalar._plain c.in-Scalar.is)) c.bad.ensures

pub chosen-returns-in-List : goal.chosen-returns-in-List
chosen-returns-in-List t c =
    let Whole : Read a.Chosen → Type 0 = λ r. Gives r c.bad-in-List.result in
    subst Whole (sym (opened.option_list c.args.node.now c.in-List._items c.in-List.is)) c.bad-in-List.ensures

pub chosen-returns-in-Map : goal.chosen-returns-in-Map
chosen-returns-in-Map t c =
    let pairs = c.as_slice-pairs.result.now in
    let line = line_of c.args.node.now in
    let actions = a.need_in a.all_of line (a.inside pairs (row key.Sequence)) in
    let Whole : Read a.Chosen → Type 0 = λ r. Gives r c.option_with.result in
    subst Whole (sym (opened.option_map_is c.args.node.now c.in-Map.pairs pairs c.in-Map.is c.as_slice-pairs.ensures))
    (c.option_with.ensures actions (c.list_in-actions.ensures (bad line code.MissingKey) c.bad-in-Map.ensures))

-- ---- a repeat

pub turns-returns-in-Scalar : goal.turns-returns-in-Scalar
turns-returns-in-Scalar t c =
    let pairs = c.args.pairs.now in
    let x = c.index-pairs-i.result in
    let Whole : Read a.Turns → Type 0 = λ r. Gives r c.bad.result in
    let At : ℕ → Type 0 = λ l. Gives (bad {A = a.Turns} l code.Kind) c.bad.result in
    subst Whole
    (sym (opened.in_field (bad c.args.line code.MissingKey) a.turns_of pairs (row key.Repeat) c.in-Some.i x c.in-Some.ensures.value c.in-Some.ensures.within (sym c.index-pairs-i.is)
    ∙ opened.turns_scalar x.2 (place x) c.in-Scalar._text c.in-Scalar._plain c.in-Scalar.is))
    (subst At c.place.ensures c.bad.ensures)

pub turns-returns-in-List : goal.turns-returns-in-List
turns-returns-in-List t c =
    let pairs = c.args.pairs.now in
    let x = c.index-pairs-i.result in
    let Whole : Read a.Turns → Type 0 = λ r. Gives r c.bad-in-List.result in
    let At : ℕ → Type 0 = λ l. Gives (bad {A = a.Turns} l code.Kind) c.bad-in-List.result in
    subst Whole
    (sym (opened.in_field (bad c.args.line code.MissingKey) a.turns_of pairs (row key.Repeat) c.in-Some.i x c.in-Some.ensures.value c.in-Some.ensures.within (sym c.index-pairs-i.is)
    ∙ opened.turns_list x.2 (place x) c.in-List._items c.in-List.is))
    (subst At c.place-in-List.ensures c.bad-in-List.ensures)

pub turns-returns-in-Map : goal.turns-returns-in-Map
turns-returns-in-Map t c =
    let pairs = c.args.pairs.now in
    let x = c.index-pairs-i.result in
    let inner = c.as_slice-inner.result.now in
    let line = line_of x.2 in
    let actions = a.need_in a.all_of line (a.inside inner (row key.Sequence)) in
    let Whole : Read a.Turns → Type 0 = λ r. Gives r c.turns_with.result in
    subst Whole
    (sym (opened.in_field (bad c.args.line code.MissingKey) a.turns_of pairs (row key.Repeat) c.in-Some.i x c.in-Some.ensures.value c.in-Some.ensures.within (sym c.index-pairs-i.is)
    ∙ opened.turns_map x.2 (place x) c.in-Map.inner inner c.in-Map.is c.as_slice-inner.ensures))
    (c.turns_with.ensures actions (c.list_in-actions.ensures (bad line code.MissingKey) c.bad-in-Map.ensures))

-- ---- what an action does

pub of_map-returns-then-is_test : goal.of_map-returns-then-is_test
of_map-returns-then-is_test t c =
    let pairs = c.args.pairs.now in
    let line = c.args.line in
    let name = c.in-Some.name in
    let test = condition_map true line pairs in
    let Named : Option ActionName → Type 0 = λ o. Gives (a.by_name line pairs (a.inside pairs) o) c.tested.result in
    let Tested : Bool → Type 0 =
    λ b. Gives (if b then made a.tested test else a.with_keys name pairs (a.body name line pairs (a.inside pairs))) c.tested.result in
    subst Named c.in-Some.ensures (subst Tested (sym c.if-is_test.true ∙ c.is_test.ensures) (c.tested.ensures test c.read_condition_action.ensures.exact))

pub of_map-returns-else-is_test : goal.of_map-returns-else-is_test
of_map-returns-else-is_test t c =
    let pairs = c.args.pairs.now in
    let line = c.args.line in
    let name = c.in-Some.name in
    let test = condition_map true line pairs in
    let kind = a.body name line pairs (a.inside pairs) in
    let Named : Option ActionName → Type 0 = λ o. Gives (a.by_name line pairs (a.inside pairs) o) c.with_keys.result in
    let Tested : Bool → Type 0 = λ b. Gives (if b then made a.tested test else a.with_keys name pairs kind) c.with_keys.result in
    subst Named c.in-Some.ensures (subst Tested (sym c.if-is_test.false ∙ c.is_test.ensures) (c.with_keys.ensures kind c.body-kind.ensures))

pub body-returns-in-OfChoose : goal.body-returns-in-OfChoose
body-returns-in-OfChoose t c =
    let pairs = c.args.pairs.now in
    let inside = a.inside pairs in
    let options = a.need_in a.choices_of c.args.line (inside (row key.Choose)) in
    let fallback = a.may_in a.all_of (inside (row key.Default)) in
    let P : ActionName → Type 0 = λ k. Gives (a.body k c.args.line pairs inside) c.choose_with.result in
    subst P (sym c.in-OfChoose.is)
    (c.choose_with.ensures options fallback c.choices-options.ensures (c.list_in-fallback.ensures (Ok []) (sym (ap Ok c.make.ensures))))

pub body-returns-in-OfIf : goal.body-returns-in-OfIf
body-returns-in-OfIf t c =
    let pairs = c.args.pairs.now in
    let line = c.args.line in
    let inside = a.inside pairs in
    let yes' = a.need_in a.all_of line (inside (row key.Then)) in
    let no' = a.may_in a.all_of (inside (row key.Else)) in
    let P : ActionName → Type 0 = λ k. Gives (a.body k line pairs inside) c.if_with.result in
    subst P (sym c.in-OfIf.is)
    (c.if_with.ensures yes' no' (c.list_in-yes.ensures (bad line code.MissingKey) c.bad.ensures) (c.list_in-no.ensures (Ok []) (sym (ap Ok c.make-in-OfIf.ensures))))

pub body-returns-in-OfRepeat : goal.body-returns-in-OfRepeat
body-returns-in-OfRepeat t c =
    let pairs = c.args.pairs.now in
    let inside = a.inside pairs in
    let P : ActionName → Type 0 = λ k. Gives (a.body k c.args.line pairs inside) c.made_repeat.result in
    subst P (sym c.in-OfRepeat.is) (c.made_repeat.ensures (a.need_in a.turns_of c.args.line (inside (row key.Repeat))) c.turns.ensures)

pub body-returns-in-OfParallel : goal.body-returns-in-OfParallel
body-returns-in-OfParallel t c =
    let pairs = c.args.pairs.now in
    let inside = a.inside pairs in
    let P : ActionName → Type 0 = λ k. Gives (a.body k c.args.line pairs inside) c.made_parallel.result in
    subst P (sym c.in-OfParallel.is) (c.made_parallel.ensures (a.need_in a.branches_of c.args.line (inside (row key.Parallel))) c.branches.ensures)

pub body-returns-in-OfSequence : goal.body-returns-in-OfSequence
body-returns-in-OfSequence t c =
    let pairs = c.args.pairs.now in
    let line = c.args.line in
    let inside = a.inside pairs in
    let P : ActionName → Type 0 = λ k. Gives (a.body k line pairs inside) c.made_block.result in
    subst P (sym c.in-OfSequence.is)
    (c.made_block.ensures (a.need_in a.all_of line (inside (row key.Sequence))) (c.list_in-actions.ensures (bad line code.MissingKey) c.bad-in-OfSequence.ensures))
