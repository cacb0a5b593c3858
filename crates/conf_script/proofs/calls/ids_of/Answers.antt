use Rattle.std.proofs.Common.{◌≡◌, ◌∙◌, ap, sym, subst, ℕ, List, [], ◌∷◌, ◌++◌, ◌+◌, true, false, drop, get_or, Result}
use Rattle.ha_config.specs.declared.template.Template.{Template}
use Rattle.yaml_scan.specs.Answers.{Gives}
use Rattle.yaml_scan.specs.declared.fault.YamlFault.{YamlFault}
use Rattle.conf_field.specs.Readings.{Read, behind}
use Rattle.conf_script.specs.Calls.{ids_from, part_id}
use Rattle.conf_script.proofs.Steps.{id_ends, id_goes_on, last_id}
use Rattle.conf_script.proofs.calls.ids_of.Goals.{then-is_comma, else-is_comma+in_ok-push}
use Rattle.conf_script.proofs.calls.ids_of.Goals as goal

pub text-init : goal.text-init
text-init c = λ m h. (m, h, ap (λ (p : List ℕ). ids_from c.args.line m p c.args.text.now) c.new-part.ensures.items)

pub text-preserved : goal.text-preserved
text-preserved c = λ m h.
    let line = c.args.line in
    let text = c.args.text.now in
    let part = c.text.part.items in
    let i = c.text.b-index in
    let old = c.text.invariant m h in
    elim c.if-is_comma.branch [
      | then-is_comma w ↦
          let ended = behind old.0 (part_id line part) in
          let Part : List ℕ → Type 0 = λ p. Gives (part_id line p) w.part_id.result in
          let Found : Result (List Template) YamlFault → Type 0 = λ r. Gives ended r in
          let empty : c.if-is_comma.part.items ≡ [] = ap (λ v. v.items) w.part-is ∙ w.clear.ensures.items in (
            ended,
            subst Found (sym w.found-is) (w.behind-found.ensures old.0 (part_id line part) old.1 (subst Part w.as_slice.ensures.value w.part_id.ensures)),
            ap (λ (p : List ℕ). ids_from line ended p (drop (i + 1) text)) empty
                ∙ sym (id_ends line old.0 part text i c.text-test.true (sym c.is_comma.ensures ∙ w.if-is_comma.true)) ∙ old.2,
          )
      | else-is_comma+in_ok-push w ↦
          let Found : Result (List Template) YamlFault → Type 0 = λ r. Gives old.0 r in
          let longer : c.if-is_comma.part.items ≡ part ++ get_or text i 0 ∷ [] = ap (λ v. v.items) w.part-is ∙ w.in_ok-push.ensures.items in (
            old.0,
            subst Found (sym w.found-is) old.1,
            ap (λ (p : List ℕ). ids_from line old.0 p (drop (i + 1) text)) longer
                ∙ sym (id_goes_on line old.0 part text i c.text-test.true (sym c.is_comma.ensures ∙ w.if-is_comma.false)) ∙ old.2,
          )
    ]

pub returns : goal.returns
returns c = λ m h.
    let line = c.args.line in
    let part = c.text.part.items in
    let old = c.text.invariant m h in
    let Part : List ℕ → Type 0 = λ p. Gives (part_id line p) c.part_id-2.result in
    let Whole : Read (List Template) → Type 0 = λ r. Gives r c.behind.result in
    subst Whole (last_id line old.0 part c.args.text.now c.text.b-index c.text-test.false ∙ old.2)
    (c.behind.ensures old.0 (part_id line part) old.1 (subst Part c.as_slice-2.ensures.value c.part_id-2.ensures))
