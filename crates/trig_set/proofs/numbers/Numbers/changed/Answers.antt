use Rattle.std.proofs.Common.{◌≡◌, ◌∙◌, ◌-◌, ℕ, suc, List, [], ◌∷◌, None, drop, drop-cons, length, refl, sym, ap, arith}
use Rattle.std.specs.Prelude.{if◌then◌else◌}
use Rattle.ha_config.specs.Words.{or_else, same_entity}
use Rattle.ha_sight.specs.Conditions.{number_watched}
use Rattle.ha_sight.specs.declared.helped.HelperChange.{HelperChange}
use Rattle.trig_set.specs.Table.{number_among, number_at, number_changed}
use Rattle.trig_set.proofs.TableLemmas.{among-more, or-join}
use Rattle.trig_set.proofs.numbers.Numbers.changed.Goals as goal

drop-whole : (xs : List HelperChange) → drop (length xs) xs ≡ []
drop-whole [] = refl
drop-whole (x ∷ xs) = drop-whole xs

pub changes-init : goal.changes-init
changes-init c = record {
  fits = omega arith;
  given = λ e name. sym (λ i. or_else (number_among e name (drop-whole c.args.changes.now i)) (number_at c.args.self.now e name));
}

pub changes-preserved : goal.changes-preserved
changes-preserved c =
    let n : ℕ = c.changes.left - 1 in
    let all : List HelperChange = c.args.changes.now in
    let t : HelperChange = c.index-changes-left.result in
    let rest : drop n all ≡ t ∷ drop c.changes.left all
    = drop-cons all n t (omega (arith, c.changes-test.true, c.changes.invariant.fits))
    ∙ (λ i. sym c.index-changes-left.is i ∷ drop (suc n) all)
    ∙ (let e : suc n ≡ c.changes.left = omega (arith, c.changes-test.true) in ap (λ m. t ∷ drop m all) e) in
    record {
      fits = omega (arith, c.changes.invariant.fits);
      given = λ e name.
          let old = number_at c.args.self.now e name in
          c.in_ok-report.ensures e name
          ∙ (λ i. or_else (if same_entity t.entity e then number_watched name t.text (c.make-none.ensures i) else None) (c.changes.invariant.given e name i))
          ∙ or-join (number_changed e name t) (number_among e name (drop c.changes.left all)) old
          ∙ (λ i. or_else (sym (among-more e name t (drop c.changes.left all)) i) old)
          ∙ (λ i. or_else (number_among e name (sym rest i)) old);
    }
