use Rattle.std.specs.Prelude.{Some}
use Rattle.entity_places.proofs.TableLemmas.{puts-name}
use Rattle.entity_places.proofs.places.put_new.Goals as goal

pub returns : goal.returns
returns c = puts-name c.args.table.now c.insert.new.self _ _ (Some c.args.place) c.in_ok-key.ensures c.in_ok-insert.ensures.updates
