-- What a text that was not written whole leaves in a sink.
use Rattle.std.specs.Prelude.{ℕ, ◌≤◌, List, length, take, Option}
use Rattle.ha_io.specs.Told.{Takes}

-- the sink took a front of the text
abbrev pub IsFrontTaken : Option (List ℕ) → List ℕ → Option (List ℕ) → Type 0
IsFrontTaken before text after = (n : ℕ) × ((n ≤ length text) × Takes before (take n text) after)
