use Rattle.helper_laws.proofs.MadeChanges.{changes-made}
use Rattle.helper_laws.proofs.laws.services_make_all_changes.Goals as goal

pub returns : goal.returns
returns c j rs right = changes-made j rs right
