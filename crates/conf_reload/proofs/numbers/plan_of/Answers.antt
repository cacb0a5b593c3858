use Rattle.std.proofs.Common.{◌∙◌}
use Rattle.std.specs.Prelude.{nat_eq, filter, true, false, zip}
use Rattle.std.specs.List.{list_any}
use Rattle.ha_config.specs.Equal.{same_flag}
use Rattle.conf_reload.proofs.PlanLemmas.{kept-part, gone-part}
use Rattle.conf_reload.proofs.numbers.plan_of.Goals as goal

pub returns : goal.returns
returns g c =
    let equal = g.K.Kind.equal in
    let ns = c.args.numbers.now in
    let old = zip ns c.args.old.now in
    let new = c.args.new.now in
    let given = c.in_ok-made.made.0 in
    let numbers = c.in_ok-made.ensures.numbers in record {
      numbers_are = numbers;
      kept_are = c.in_ok-kept.ensures ∙ (λ i. filter (λ n. same_flag true (list_any (λ m. nat_eq m n) (c.as_slice.ensures i))) ns)
          ∙ kept-part equal old c.args.free new given ns numbers c.requires.below;
      gone_are = c.in_ok-gone.ensures ∙ (λ i. filter (λ n. same_flag false (list_any (λ m. nat_eq m n) (c.as_slice-2.ensures i))) ns)
          ∙ gone-part equal old c.args.free new given ns numbers c.requires.below;
      free_is = c.in_ok-made.ensures.free;
    }
