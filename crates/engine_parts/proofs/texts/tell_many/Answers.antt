use Rattle.std.proofs.Common.{◌≡◌, ◌∙◌, ◌++◌, ◌∷◌, ◌+◌, [], List, arith, refl, subst, sym, take}
use Rattle.std.proofs.lemmas.List.{take_all, take_more}
use Rattle.ha_sight.specs.declared.helped.HelperChange.{HelperChange}
use Rattle.state_table.specs.Table.{at}
use Rattle.trig_set.specs.Next.{Listed}
use Rattle.entity_places.specs.Placed.{place_in, place_or}
use Rattle.entity_places.proofs.PlaceLemmas.{more-placed, none-placed}
use Rattle.engine_parts.specs.Texts.{AreTold, change_is_of}
use Rattle.engine_parts.proofs.TextLemmas.{told-none}
use Rattle.engine_parts.proofs.texts.tell_many.Goals as goal

pub loop-place-init : goal.loop-place-init
loop-place-init c = record {
  told = subst (λ (l : Listed). AreTold c.args.now (at c.args.states.now) [] c.args.states.now l) (sym c.make-before.ensures) (told-none c.args.now (at c.args.states.now) c.args.states.now (λ e. refl));
  placed = none-placed c.make-places.result change_is_of c.make-places.ensures;
}

pub loop-place-preserved : goal.loop-place-preserved
loop-place-preserved c =
    let n = c.loop-place.place in
    let all = c.args.changes.now in
    let change = c.index-changes-place.result in
    let more : take n all ++ (change ∷ []) ≡ take (n + 1) all
    = (λ i. take n all ++ (c.index-changes-place.is i ∷ [])) ∙ sym (take_more all n change c.loop-place-test.true) in
    let next = c.in_ok-tell_placed.ensures in
    record {
      told = subst (λ (cs : List HelperChange). AreTold c.args.now (at c.args.states.now) cs c.tell_placed.new.states c.tell_placed.new.before) more
          (next.told (at c.args.states.now) (take n all) c.loop-place.invariant.told c.loop-place.invariant.placed);
      placed = more-placed c.loop-place.places c.tell_placed.new.places change_is_of all n change c.loop-place-test.true
          (λ e. next.placed e ∙ (λ i. place_or n (change_is_of e (c.index-changes-place.is i)) (place_in c.loop-place.places e)))
          c.loop-place.invariant.placed;
    }

pub returns : goal.returns
returns c = subst (λ (cs : List HelperChange). AreTold c.args.now (at c.args.states.now) cs c.loop-place.states c.loop-place.before) (take_all c.loop-place.place c.args.changes.now (omega arith)) c.loop-place.invariant.told
