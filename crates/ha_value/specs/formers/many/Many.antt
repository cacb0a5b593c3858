-- `Many` as a type that may hold the type that holds it. How a list is split into its items, counted
-- and coded is as of the kit's list of items; where they lie is as of its own vector. It serves the
-- check alone: no contract speaks of it.
use mathlib.Core.Path.{refl}
use mathlib.Core.Former.{Former, this, list, via}
use denote.RattleType.{RattleType}
use denote.Hole.Fix.{over}
use denote.HoleLaws.{Alike}
use denote.HolePlaces.{Recodes, struct_places, laid}
use denote.Model.Placed.{view_places}
use Rattle.sqlite_items.specs.formers.items.Items as kit
use Rattle.std.specs.formers.vec.Vec as vec
use Rattle.std.specs.contracts.alloc.Global as heap
use Rattle.std.specs.declared.alloc.Global.{Global}
use Rattle.std.specs.contracts.impls.GlobalAllocator.TheImpl.{ghosts}
use Rattle.ha_value.specs.contracts.many.Many as M
use Rattle.ha_value.specs.contracts.many.Many.TheInside as inner
use Rattle.ha_value.specs.declared.many.Many.TheInside.{Inside}
use Rattle.ha_value.specs.declared.many.Many.TheView.{view, invariant}
pub use Rattle.sqlite_items.specs.formers.items.Items.{the_former, the_weighed, the_empty, the_items, the_items_listed}

abbrev vector : Former {0}
vector = via (vec.the_former this Global) Inside (λ X i. i.held) (λ X v. record { held = v }) (λ X i. refl) (λ X v. refl)

module _ (From To : RattleType) (turned : From.Denot → To.Denot) where
  pub the_places : Alike From To turned → Alike (M.the_row From) (M.the_row To) ((the_former this).map From.Denot To.Denot turned)
  the_places alike =
      let lies = laid _ _ _ (vec.the_places heap.the_row ghosts From To turned alike) in
      view_places vector (list this) view (λ X Y k u. refl) (λ X u. refl) From.Denot To.Denot turned
      (M.the_row From).coded (M.the_row To).coded (invariant From.Denot) (invariant To.Denot)
      (λ u p q. refl) (λ u p q. refl) (λ u e. tt) (λ u e. tt) (over (inner.the_row From)) (over (inner.the_row To))
      (struct_places (inner.the_type From) (inner.the_type To) (vec.mapped turned, tt) _ (λ d. refl) refl (lies, tt))

  pub the_codes_placed : Recodes From To turned → Recodes (M.the_row From) (M.the_row To) ((the_former this).map From.Denot To.Denot turned)
  the_codes_placed recoded = kit.the_codes_placed From To turned recoded
