use Rattle.replay_file.proofs.BootLemmas.{booted, sound_moments}
use Rattle.replay_file.proofs.boot.boot.Goals as goal

pub boot-requires-clause-last : goal.boot-requires-clause-last
boot-requires-clause-last g c =
    let made = c.in-Ok.made in
    sound_moments made.last c.in-Ok.ensures.configured.last_ordered c.in-Ok.ensures.configured.utf8.last_names c.in-Ok.ensures.configured.last_in_time

pub returns-in-Ok-boot-clause-booted : goal.returns-in-Ok-boot-clause-booted
returns-in-Ok-boot-clause-booted g c =
    let made = c.in-Ok.made in
    booted c.args.line.now made.text made.config made.stored made.start made.zone made.last (g.E.Core.entries c.in-Ok-boot.core) (g.E.Core.runs c.in-Ok-boot.core)
    c.in-Ok.ensures.configured c.in-Ok.ensures.line_is c.in-Ok-boot.ensures.entries c.journal.ensures.right
