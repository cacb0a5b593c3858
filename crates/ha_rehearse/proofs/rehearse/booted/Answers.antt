use Rattle.std.proofs.Common.{◌≡◌, ◌∙◌, ap, refl, codes, subst, sym}
use Rattle.std.specs.Prelude.{IsSome}
use Rattle.ha_clock.proofs.OnLiterals.{ha_clock_on_literals}
use Rattle.ha_clock.specs.Zone.{zone_of}
use Rattle.ha_config.specs.Sound.{AreSoundMoments}
use Rattle.ha_config.specs.Words.{Text}
use Rattle.rehearsal.specs.Generated.{config_text}
use Rattle.conf_auto.specs.Config.{config_of}
use Rattle.ha_rehearse.proofs.ConfigLemmas.{config_read}
use Rattle.ha_rehearse.proofs.ReadLemmas.{IsRead, read_as}
use Rattle.ha_rehearse.proofs.rehearse.booted.Goals as goal

utc : IsSome (zone_of (codes "UTC"))
unfolding ha_clock_on_literals
utc = refl

pub boot-requires-clause-zone : goal.boot-requires-clause-zone
boot-requires-clause-zone g c = subst (λ zone. IsSome (zone_of zone)) (sym c.in-Ok-from_str.ensures) utc

pub boot-requires-clause-last : goal.boot-requires-clause-last
boot-requires-clause-last g c = subst AreSoundMoments (sym c.make.ensures) (record { ordered = refl; utf8 = refl; in_time = refl })

read_of : (text : Text) → text ≡ config_text → IsRead (config_of text)
read_of text e = read_as (ap config_of e) config_read

pub read_text-requires : goal.read_text-requires
read_text-requires g c = record { read = read_of c.bytes.result.now (c.bytes.ensures.value ∙ c.in-Ok.ensures) }
