use Rattle.std.proofs.Common.{◌∙◌, ◌++◌, ap, length, sym, nat_eq}
use Rattle.std.specs.Prelude.{option_map, slice_get, if◌then◌else◌}
use Rattle.helper_set.specs.Kept.{place_in}
use Rattle.helper_set.specs.Passes.{entity_at, idled}
use Rattle.helper_set.proofs.StandLemmas.{same-place}
use Rattle.helper_set.proofs.TakenLemmas.{ok-then, written}
use Rattle.helper_set.proofs.list.KeptList.finish_at.Goals as goal

pub invariant_of-self : goal.invariant_of-self
invariant_of-self c e =
    let v = c.as_mut_slice.ensures.value in
    let list = c.self.inside.list in
    let new = c.finish_at.new.kept in
    c.self.invariant e
    ∙ sym (same-place e list.items new (λ n. c.finish_at.ensures.ids n ∙ (λ i. option_map (λ k. k.helper.entity) (slice_get (v i) n))))
    ∙ ap (λ l. place_in l e) (sym (written list.len new list.items (list.ok.0 ∙ ap length (sym v) ∙ sym c.finish_at.auto.kept)))

pub returns-clause-found : goal.returns-clause-found
returns-clause-found c =
    let v = c.as_mut_slice.ensures.value in
    ok-then c.finish_at.result
    (λ made. made ∙ (λ i. c.args.found.now ++ entity_at (v i) c.args.place) ∙ (λ i. c.args.found.now ++ entity_at (c.self.view_is i).items c.args.place))
    c.finish_at.ensures.found

pub returns-clause-kept : goal.returns-clause-kept
returns-clause-kept c =
    let v = c.as_mut_slice.ensures.value in
    let list = c.self.inside.list in
    let new = c.finish_at.new.kept in
    ok-then c.finish_at.result
    (λ made n.
    ap (λ l. slice_get l n) (written list.len new list.items (list.ok.0 ∙ ap length (sym v) ∙ sym c.finish_at.auto.kept))
    ∙ made n
    ∙ (λ i. if nat_eq c.args.place n then option_map idled (slice_get (v i) n) else slice_get (v i) n)
    ∙ (λ i. if nat_eq c.args.place n then option_map idled (slice_get (c.self.view_is i).items n) else slice_get (c.self.view_is i).items n))
    c.finish_at.ensures.kept
