-- Records in the modes restart and queued, computed.
use Rattle.std.proofs.Common.{◌≡◌, [], ◌∷◌, ◌∙◌}
use Rattle.std.specs.Prelude.{Some, None}
use Rattle.ha_config.specs.declared.config.Mode.{Mode}
use Rattle.ha_model.specs.declared.record.EndCause.{EndCause}
use Rattle.ha_model.specs.Records.{records_of}
use Rattle.ha_model.proofs.FoldLaws.{records-passes}
use Rattle.ha_sight.proofs.Rolls.{rolls}
use Rattle.ha_value.specs.Ids.{read_entity}
use Rattle.ha_laws.specs.WorkedModes.{twice, env_at, then_done}

-- a new run replaces the old one
pub restarted : records_of (twice Mode.Restart) ≡
    record { serial = 1; automation = 0; number = 1; place = 2; order = 0; env = env_at 2 Mode.Restart; begin = Some 2; end = Some (4, EndCause.Replaced); calls = 0 }
    ∷ record { serial = 2; automation = 0; number = 2; place = 4; order = 0; env = env_at 4 Mode.Restart; begin = Some 4; end = None; calls = 0 } ∷ []
restarted = records-passes (twice Mode.Restart)

-- in mode single the second is not admitted
pub single : records_of (twice Mode.Single) ≡
    record { serial = 1; automation = 0; number = 1; place = 2; order = 0; env = env_at 2 Mode.Single; begin = Some 2; end = None; calls = 0 } ∷ []
single = records-passes (twice Mode.Single)

-- a queued run waits for the one before it
pub queued : records_of (twice Mode.Queued) ≡
    record { serial = 1; automation = 0; number = 1; place = 2; order = 0; env = env_at 2 Mode.Queued; begin = Some 2; end = None; calls = 0 }
    ∷ record { serial = 2; automation = 0; number = 2; place = 4; order = 0; env = env_at 4 Mode.Queued; begin = None; end = None; calls = 0 } ∷ []
queued = records-passes (twice Mode.Queued)

-- it begins where that one ends, and a switch ends it
pub then_off : records_of then_done ≡
    record { serial = 1; automation = 0; number = 1; place = 2; order = 0; env = env_at 2 Mode.Queued; begin = Some 2; end = Some (5, EndCause.Done); calls = 1 }
    ∷ record { serial = 2; automation = 0; number = 2; place = 4; order = 0; env = env_at 4 Mode.Queued; begin = Some 5; end = Some (6, EndCause.SwitchedOff); calls = 0 } ∷ []
unfolding read_entity
then_off = records-passes then_done ∙ simp rolls
