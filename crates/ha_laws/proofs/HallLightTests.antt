-- The journal of a hall light that goes out after two minutes.
use Rattle.ha_laws.proofs.AsciiTexts.{on-utf8, off-utf8}
use Rattle.std.proofs.Common.{◌≡◌, [], ◌∷◌, true, refl, sym, ◌∙◌, arith, inl}
use Rattle.std.specs.Prelude.{Some, None}
use Rattle.ha_sight.specs.declared.item.Item.{Item}
use Rattle.ha_sight.specs.Scripts.{Status, whole}
use Rattle.ha_model.specs.Lawful.{is_quiet, Lawful, Right}
use Rattle.ha_model.proofs.FoldLaws.{records-passes}
use Rattle.ha_model.proofs.Passes.{by_passes}
use Rattle.ha_sight.proofs.Rolls.{rolls}
use Rattle.ha_value.specs.Ids.{read_entity}
use Rattle.ha_laws.specs.WorkedHall.{hall_light, on_item, off_item, journal, env, spot, the_record, records}

items_are : (whole hall_light.actions env (spot 3 ∷ spot 4 ∷ spot 6 ∷ spot 7 ∷ [])) ≡ Some (record { items = on_item ∷ Item.Nothing ∷ Item.Nothing ∷ off_item ∷ []; status = Status.Done })
unfolding read_entity
items_are = simp rolls

too_early : (whole hall_light.actions env (spot 3 ∷ spot 4 ∷ spot 5 ∷ [])) ≡ None
unfolding read_entity
too_early = simp rolls

by-passes : records ≡ by_passes journal
unfolding read_entity
by-passes = simp rolls

it_is_right : Right journal records
unfolding read_entity
it_is_right = record {
  journal = (tt, (λ h. h, (λ h. h, (λ h. h, (λ h. h, (λ h. h, (λ h. h, (λ h. h, tt))))))));
  records_are = by-passes ∙ sym (records-passes journal);
  entries = (
    tt,
    (
      (((refl, λ h. cc), off-utf8, omega arith, (refl, refl, omega arith)), refl),
      (
        (((refl, λ h. cc), on-utf8, omega arith, (refl, refl, omega arith)), refl),
        (
          (the_record, refl, refl, record { runs = refl; item_is = simp rolls }),
          (
            (the_record, refl, refl, record { runs = refl; item_is = simp rolls }),
            (
              omega arith,
              (
                (the_record, refl, refl, record { runs = refl; item_is = simp rolls }),
                ((the_record, refl, refl, record { runs = refl; item_is = simp rolls }), tt),
              ),
            ),
          ),
        ),
      ),
    ),
  );
}

pub it_is_lawful : Lawful journal records
unfolding read_entity
it_is_lawful = record {
  right = it_is_right;
  turns = (tt, ((omega arith, refl, refl, refl), ((omega arith, refl, refl, refl), (simp rolls (omega arith, refl), (simp rolls (omega arith, refl), (simp rolls (omega arith, refl, refl, refl), (simp rolls (omega arith, refl), (simp rolls (omega arith, refl), tt))))))));
  closed = (tt, (tt, (tt, (simp rolls (inl refl), (simp rolls (inl refl), (tt, (simp rolls (inl refl), (simp rolls (inl refl), tt))))))));
}

pub it_is_quiet : is_quiet records journal ≡ true
unfolding read_entity
it_is_quiet = refl
