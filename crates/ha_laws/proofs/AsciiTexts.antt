-- The state texts of the worked journals are UTF-8, computed.
use Rattle.std.proofs.Common.{◌≡◌, true, refl}
use Rattle.std.specs.Prelude.{codes}
use Rattle.std.specs.Str.{is_utf8, chars}
use lib.Utf8.{encode}

pub on-utf8 : is_utf8 (codes "on") ≡ true
unfolding is_utf8 chars encode
on-utf8 = refl

pub off-utf8 : is_utf8 (codes "off") ≡ true
unfolding is_utf8 chars encode
off-utf8 = refl
