-- What an expression sees.
use Rattle.std.specs.Prelude.{◌++◌}
use Rattle.ha_config.specs.Words.{Pairs}
use Rattle.tpl_eval.specs.declared.scope.Scope.{Scope}

-- the variables of the run, then those that the template set: of several of one name the last is seen
abbrev pub variables : Scope → Pairs
variables s = s.env.now ++ s.set.now
