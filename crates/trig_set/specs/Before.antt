-- States before an entry, as they are kept.
use Rattle.std.specs.Prelude.{[], ◌∷◌, Option, Some, None}
use Rattle.std.specs.Global.{Box}
use Rattle.trig_set.specs.declared.scene.Shift.{Shift}
use Rattle.trig_set.specs.Next.{Listed}

-- the one that is alone, or several
abbrev pub listed_of : Option (Box Shift) → Listed → Listed
listed_of (Some b) several = (b.value.entity, b.value.old) ∷ []
listed_of None several = several
