use Rattle.std.proofs.Common.{◌≡◌, None, subst}
use Rattle.ha_value.specs.Entities.{Entity}
use Rattle.ha_value.specs.Lists.{after_first}
use Rattle.ha_value.proofs.EntityLemmas.{none_before}
use Rattle.ha_value.proofs.value.EntityId.text.Goals as goal

pub returns-clause-domain : goal.returns-clause-domain
returns-clause-domain c =
    subst (λ (e : Entity). after_first 46 e.domain ≡ None) c.self.view_is (none_before 46 c.self.inside.text)
