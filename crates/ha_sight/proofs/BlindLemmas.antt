-- What templates and conditions mean has nothing of the scripts that a place sees, nor of the helpers' last changes.
use Rattle.std.proofs.Common.{◌≡◌, ℕ, List, refl}
use Rattle.ha_config.specs.declared.template.Template.{Template}
use Rattle.ha_config.specs.declared.config.Condition.{Condition}
use Rattle.ha_config.specs.Words.{Text, Pairs}
use Rattle.ha_sight.specs.Known.{Known}
use Rattle.ha_sight.specs.Sight.{Sight}
use Rattle.ha_sight.specs.Templates.{rendered}
use Rattle.ha_sight.specs.Conditions.{holds}

pub rendered-blind : (s : Sight) (names : List (Text × ℕ)) (t : Template) (env : Pairs) → rendered (record s { scripts = names }) t env ≡ rendered s t env
rendered-blind s names t env = refl

pub holds-blind : (s : Sight) (names : List (Text × ℕ)) (c : Condition) (env : Pairs) → holds (record s { scripts = names }) c env ≡ holds s c env
holds-blind s names c env = refl

pub rendered-unhelped : (s : Sight) (all : List Known) (t : Template) (env : Pairs) → rendered (record s { helpers = all }) t env ≡ rendered s t env
rendered-unhelped s all t env = refl

pub holds-unhelped : (s : Sight) (all : List Known) (c : Condition) (env : Pairs) → holds (record s { helpers = all }) c env ≡ holds s c env
holds-unhelped s all c env = refl
