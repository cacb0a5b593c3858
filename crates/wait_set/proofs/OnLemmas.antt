-- What holds where a call answers Ok.
use Rattle.std.proofs.Common.{Ok, Err}
use Rattle.std.specs.Prelude.{Result, OnOk}

pub on-any : {T E : Type 0} (P : Type 0) (r : Result T E) → P → OnOk r P
on-any P (Ok x) p = p
on-any P (Err e) p = tt

pub on-then : {T E : Type 0} (P Q : Type 0) (r : Result T E) → (P → Q) → OnOk r P → OnOk r Q
on-then P Q (Ok x) f p = f p
on-then P Q (Err e) f p = tt
