use denote.Text.{Utf8}
use denote.Shadow.{shadow}
use Rattle.std.proofs.Common.{◌≡◌, ◌++◌, ◌≤◌, length}
use Rattle.ha_config.specs.Words.{replaced_all}
use Rattle.tpl_fns.proofs.texts.replaced_text.Given as goal

abbrev pub invariant-loop-before : goal.invariant-loop-before
invariant-loop-before l = record {
  text : shadow (Utf8 l.rest);
  fits : length l.made ≤ 65_536;
  same : replaced_all l.old l.new l.text ≡ l.made ++ replaced_all l.old l.new l.rest;
}

abbrev pub decreases-loop-before : goal.decreases-loop-before
decreases-loop-before l = length l.rest
