use Rattle.std.proofs.Common.{◌≡◌, ℕ, suc, ◌+◌, ◌-◌, List, ◌∷◌, drop, map, get_or, sym, ap, subst, ◌∙◌, arith, drop-cons}
use Rattle.ha_journal.specs.Attempts.{Attempt, by_hand, passes}
use Rattle.ha_journal.specs.Journal.{last_place}
use Rattle.ha_config.specs.Words.{Pairs}
use Rattle.ha_engine.specs.Admits.{ArePassing, IsPut, asked_for}
use Rattle.ha_engine.proofs.PrepareLemmas.{passing-next}
use Rattle.ha_engine.proofs.prepare.prepare_chosen.Goals as goal

pub chosen-preserved : goal.chosen-preserved
chosen-preserved g c =
    let n : ℕ = c.chosen.left - 1 in
    let all : List ℕ = c.args.chosen.now in
    let x : ℕ = get_or all n 0 in
    record {
      fits = omega (arith, c.chosen.invariant.fits);
      done = λ k seen known.
          (let next : c.chosen.left ≡ n + 1 = omega (arith, c.chosen-test.true) in
          let put = subst (λ (e : Pairs). IsPut (passes k (last_place k) (asked_for x e c.args.skip)) k (n, asked_for x e c.args.skip) c.chosen.stack.items c.prepare_one.new.stack.items) c.in_ok-env.ensures (c.in_ok-prepare_one.ensures k seen known) in
          let rest : drop n all ≡ x ∷ drop c.chosen.left all
          = drop-cons all n 0 (omega (arith, c.chosen-test.true, c.chosen.invariant.fits)) ∙ (let e : suc n ≡ c.chosen.left = omega (arith, c.chosen-test.true) in ap (λ m. x ∷ drop m all) e) in
          subst (λ (l : List ℕ). ArePassing k n (map {A = ℕ} {B = Attempt} (λ a. asked_for a by_hand c.args.skip) l) c.prepare_one.new.stack.items) (sym rest)
          (passing-next k n c.chosen.left (asked_for x by_hand c.args.skip) (map {A = ℕ} {B = Attempt} (λ a. asked_for a by_hand c.args.skip) (drop c.chosen.left all)) c.chosen.stack.items c.prepare_one.new.stack.items next put
          (c.chosen.invariant.done k seen known)));
    }
