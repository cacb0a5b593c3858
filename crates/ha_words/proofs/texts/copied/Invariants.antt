use Rattle.std.proofs.Common.{◌≡◌, map, take}
use Rattle.ha_words.proofs.texts.copied.Given as goal

abbrev pub invariant-loop-text : goal.invariant-loop-text
invariant-loop-text l = l.found ≡ map (λ s. s.now) (take l.text-index l.texts)
