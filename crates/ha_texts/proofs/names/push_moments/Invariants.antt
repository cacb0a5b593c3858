use Rattle.std.proofs.Common.{◌≡◌, ℕ, ◌++◌, map, take}
use Rattle.ha_clock.specs.Print.{moment_text}
use Rattle.ha_config.specs.Words.{Text}
use Rattle.ha_config.specs.ValueText.{comma_joined, pair_text, quoted}
use Rattle.ha_texts.proofs.names.push_moments.Given as goal

abbrev pub invariant-loop-i : goal.invariant-loop-i
invariant-loop-i l = l.text ≡ l.initial.text ++ comma_joined (map (λ (p : Text × ℕ). pair_text p.0 (quoted (moment_text p.1))) (take l.i l.moments))
