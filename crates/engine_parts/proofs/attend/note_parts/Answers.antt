use Rattle.engine_parts.proofs.attend.note_parts.Goals as goal

pub returns-clause-noted : goal.returns-clause-noted
returns-clause-noted c =
    let sees = c.requires.sees in
    record {
      sees = record { looks = sees.looks; helpers_stand = sees.helpers_stand; switches_stand = sees.switches_stand; changed_is = sees.changed_is; sound = sees.sound; few = sees.few; free_is = sees.free_is; ascending_is = sees.ascending_is };
      told = c.in_ok-fired.ensures.told;
      keys_early = c.requires.keys_early;
    }
