use Rattle.std.proofs.Common.{◌≡◌, ◌≤◌, length, take}
use Rattle.std.specs.Prelude.{reverse}
use Rattle.tpl_parse.specs.Token.{spaces}
use Rattle.tpl_parse.proofs.found.without_end.Given as goal

abbrev pub invariant-bytes : goal.invariant-bytes
invariant-bytes l = (l.to ≤ length l.text) × (spaces (reverse (take l.to l.text)) ≡ spaces (reverse l.text))

abbrev pub decreases-bytes : goal.decreases-bytes
decreases-bytes l = l.to
