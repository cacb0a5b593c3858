use Rattle.std.proofs.Common.{◌≡◌, ◌≤◌, ℕ, List, [], ◌++◌, length, take, drop, filter, sym, ap, subst, ◌∙◌, arith}
use Rattle.std.specs.Prelude.{not, nat_eq}
use Rattle.ha_sight.specs.Scripts.{Branch}
use Rattle.ha_ready.specs.ReadyPairs.{changed_at, pairs_from, pairs_of, with_run}
use Rattle.ha_ready.proofs.ReadyLemmas.{change-run}
use Rattle.engine_parts.specs.Lower.{Ascends, lower}
use Rattle.engine_parts.proofs.ForgetLemmas.{pairs-without}
use Rattle.engine_parts.proofs.PutLemmas.{pairs-ascend, put-at}
use Rattle.engine_parts.proofs.ready.put_anew.Goals as goal

pub put_pairs-requires : goal.put_pairs-requires
put_pairs-requires c = subst (λ (l : List (ℕ × Branch)). c.lower-at.result ≤ length l) c.as_slice.ensures.value c.lower-at.ensures.fits

pub returns : goal.returns
returns c m by old low high =
    let s : ℕ = c.args.serial in
    let bs : List Branch = c.args.branches in
    let mid : List (ℕ × Branch) = c.drop_pairs.new.ready.pairs.items in
    let before : Ascends 0 c.args.ready.now.pairs.items = subst (Ascends 0) (sym old) (pairs-ascend 0 m by) in
    let rest : mid ≡ pairs_from 0 m (changed_at s [] by) = c.drop_pairs.ensures.rest before ∙ ap (filter (λ (x : ℕ × Branch). not (nat_eq x.0 s))) old ∙ pairs-without s 0 m by in
    let whole = c.as_slice.ensures.value in
    let at = c.lower-at.ensures.lower (subst (Ascends 0) (sym (whole ∙ rest)) (pairs-ascend 0 m (changed_at s [] by))) ∙ ap (lower s) whole in
    c.in_ok-put_pairs.ensures
    ∙ (λ i. take (at i) mid ++ (pairs_of s bs ++ drop (at i) mid))
    ∙ (λ i. take (lower s (rest i)) (rest i) ++ (pairs_of s bs ++ drop (lower s (rest i)) (rest i)))
    ∙ put-at s 0 m bs by low (omega (arith, high))
    ∙ sym (change-run 0 m s bs by low (omega (arith, high)))
    ∙ ap (with_run s bs) (sym old)
