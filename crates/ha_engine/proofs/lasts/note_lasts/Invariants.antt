use Rattle.std.proofs.Common.{◌≡◌, ◌||◌, drop}
use Rattle.ha_engine.specs.Noted.{moved_by, noted}
use Rattle.ha_engine.proofs.lasts.note_lasts.Given as goal

abbrev pub invariant-runs : goal.invariant-runs
invariant-runs l = record {
  lasts : noted l.at l.runs.firsts (drop l.place l.runs.list) l.lasts.items ≡ noted l.at l.runs.firsts (drop l.before l.runs.list) l.initial.lasts.items;
  moved : (l.moved || moved_by l.at l.runs.firsts l.listed (drop l.place l.runs.list) l.lasts.items) ≡ moved_by l.at l.runs.firsts l.listed (drop l.before l.runs.list) l.initial.lasts.items;
}
