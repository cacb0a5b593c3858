use Rattle.helper_laws.proofs.NoChanges.{changes-without}
use Rattle.helper_laws.proofs.laws.without_helpers_entries_change_none.Goals as goal

pub returns : goal.returns
returns c j rs right none = changes-without j rs right none
