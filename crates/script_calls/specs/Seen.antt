-- What a place sees.
use Rattle.ha_sight.specs.Sight.{Sight}
use Rattle.script_calls.specs.With.{sees_with}
use Rattle.script_calls.specs.declared.seeing.Seeing.{Seeing}

abbrev pub sees : Seeing → Sight
sees s = sees_with s.view s.helpers.now
