use Rattle.flow_line.proofs.Characters.{unicode_found, is_scalar}
use Rattle.flow_line.proofs.value.FlowReader.escape.Goals as goal

pub scalar-requires : goal.scalar-requires
scalar-requires c = is_scalar (unicode_found c.bump.new.self c.in_ok-unicode.field-0 c.unicode.new.self c.in_ok-unicode.ensures)
