use Rattle.std.proofs.Common.{◌≡◌, ℕ, List, length, string_bytes}
use Rattle.std.specs.Str.{encode_utf8_all}
use Rattle.reading.proofs.Rows.{Repeats}
use Rattle.flow_line.specs.Text.{characters, character, goes_on, over}
use Rattle.flow_line.proofs.value.FlowReader.any_text.Given as goal

abbrev pub invariant-characters : goal.invariant-characters
invariant-characters l = (found : List ℕ) × (string_bytes l.text ≡ encode_utf8_all found) × Repeats over (λ _. goes_on) (λ _. character) found l.self (characters l.fn.self)

abbrev pub decreases-characters : goal.decreases-characters
decreases-characters l = length l.self
