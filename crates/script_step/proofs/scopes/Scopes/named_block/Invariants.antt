use Rattle.std.proofs.Common.{◌≡◌, take}
use Rattle.script_step.specs.Cuts.{cut, named_block, total}
use Rattle.script_step.proofs.scopes.Scopes.named_block.Given as goal

abbrev pub invariant-loop-k : goal.invariant-loop-k
invariant-loop-k l = record {
  at : l.at ≡ total (take l.k l.sizes);
  found : l.found ≡ named_block l.name (cut (take l.k l.sizes) l.self-inside.pairs);
}
