use Rattle.std.proofs.Common.{◌∙◌, ap, length, sym, subst, nat_eq, ◌<◌}
use Rattle.std.specs.Prelude.{Some, option_map, slice_get, if◌then◌else◌}
use Rattle.helper_set.specs.Changes.{kept_with}
use Rattle.helper_set.specs.Kept.{place_in}
use Rattle.helper_set.proofs.StandLemmas.{same-place}
use Rattle.helper_set.proofs.TakenLemmas.{ok-then, written}
use Rattle.helper_set.proofs.list.KeptList.change_at.Goals as goal

pub invariant_of-self : goal.invariant_of-self
invariant_of-self c e =
    let v = c.as_mut_slice.ensures.value in
    let list = c.self.inside.list in
    let new = c.change_at.new.kept in
    c.self.invariant e
    ∙ sym (same-place e list.items new (λ n. c.change_at.ensures.ids n ∙ (λ i. option_map (λ k. k.helper.entity) (slice_get (v i) n))))
    ∙ ap (λ l. place_in l e) (sym (written list.len new list.items (list.ok.0 ∙ ap length (sym v) ∙ sym c.change_at.auto.kept)))

pub change_at-requires : goal.change_at-requires
change_at-requires c = subst (λ l. c.args.place < length l) ((λ i. (sym c.self.view_is i).items) ∙ sym c.as_mut_slice.ensures.value) c.requires

pub returns : goal.returns
returns c =
    let v = c.as_mut_slice.ensures.value in
    let list = c.self.inside.list in
    let new = c.change_at.new.kept in
    ok-then c.change_at.result
    (λ made n.
    ap (λ l. slice_get l n) (written list.len new list.items (list.ok.0 ∙ ap length (sym v) ∙ sym c.change_at.auto.kept))
    ∙ made n
    ∙ (λ i. if nat_eq c.args.place n then option_map (kept_with c.args.at (Some c.args.made.now)) (slice_get (v i) n) else slice_get (v i) n)
    ∙ (λ i. if nat_eq c.args.place n then option_map (kept_with c.args.at (Some c.args.made.now)) (slice_get (c.self.view_is i).items n) else slice_get (c.self.view_is i).items n))
    c.change_at.ensures.kept
