-- What is kept of a bracket around the innermost one; no contract above needs it, since it is seen as its frame.
use Rattle.yaml_tree.specs.declared.flow.Frame.{Frame}
use Rattle.yaml_tree.specs.declared.outer.Shelved.{Shelved}
use Rattle.yaml_tree.specs.Flow.{fresh}

abbrev pub frame_of : Shelved → Frame
frame_of (Shelved.Fresh is_map) = fresh is_map
frame_of (Shelved.Held frame) = frame.value
