-- The code of a refusal.
use Rattle.std.specs.Prelude.{ℕ, Option, Some, None}
use Rattle.store_text.specs.declared.read.StoreFault.{StoreFault}

abbrev pub code_of : StoreFault → Option ℕ
code_of (StoreFault.Refused code) = Some code
code_of StoreFault.Memory = None
