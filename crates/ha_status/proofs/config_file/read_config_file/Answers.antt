use Rattle.std.proofs.Common.{Err, ap, refl, ◌∙◌}
use Rattle.ha_io.specs.declared.whole.Unread.{Unread}
use Rattle.ha_status.proofs.CauseLemmas.{unread_alone}
use Rattle.ha_status.proofs.FileLemmas.{is_there, long_file}
use Rattle.ha_status.proofs.config_file.read_config_file.Goals as goal

pub returns-in-Err-Failed-read_whole-clause-unread : goal.returns-in-Err-Failed-read_whole-clause-unread
returns-in-Err-Failed-read_whole-clause-unread g c = (
  refl,
  unread_alone g.P.Source.Source.faults g.P.Source.Source.name _ c.read_whole.new.source c.args.name.now c.in-Ok.ensures.no_faults
      (c.read_whole.ensures.failed (c.in-Err-Failed-read_whole.is ∙ ap (λ (x : Unread). Err x) c.in-Err-Failed-read_whole.field-0-is))
      c.read_whole.ensures.same_name c.in-Ok.ensures.named,
)

pub returns-in-Err-TooLong-clause-long : goal.returns-in-Err-TooLong-clause-long
returns-in-Err-TooLong-clause-long g c = (
  refl,
  refl,
  long_file (g.P.Place.holds c.args.place.now) c.args.name.now (g.P.Source.Source.left c.in-Ok.source) _ 1_048_576 c.in-Ok.ensures.left
      (c.read_whole.ensures.long (c.in-Err-TooLong.is ∙ ap (λ (x : Unread). Err x) c.in-Err-TooLong.field-0-is)),
)

pub returns-in-Err-Failed-read_whole-clause-there : goal.returns-in-Err-Failed-read_whole-clause-there
returns-in-Err-Failed-read_whole-clause-there g c =
    is_there (g.P.Place.holds c.args.place.now) c.args.name.now (g.P.Source.Source.left c.in-Ok.source) c.in-Ok.ensures.left
