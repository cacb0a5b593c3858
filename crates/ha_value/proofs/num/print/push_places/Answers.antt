use Rattle.ha_value.proofs.CutLemmas.{places_utf8}
use Rattle.ha_value.proofs.num.print.push_places.Goals as goal

pub push_bytes-requires : goal.push_bytes-requires
push_bytes-requires c =
    rw c.without_zeros_behind.ensures
    (places_utf8 c.digit-2.result c.digit-3.result c.digit-4.result c.digit-5.result c.digit-6.result
    c.digit-2.ensures.size c.digit-3.ensures.size c.digit-4.ensures.size c.digit-5.ensures.size c.digit-6.ensures.size)
