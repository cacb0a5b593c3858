use Rattle.std.proofs.Common.{◌∙◌, ap, refl, Some, None, rules}
use Rattle.ha_past.specs.Looks.{or_else}
use Rattle.trig_set.proofs.OnLemmas.{on-then}
use Rattle.trig_set.proofs.TableLemmas.{changes-name, inserts-name, put-one, none-yet}
use Rattle.trig_set.proofs.numbers.put_in.Goals as goal

pub returns-in-Some : goal.returns-in-Some
returns-in-Some c =
    let m = c.args.entities.now in
    let changed = c.put_numbers.new.latest in
    let n = c.get_mut.follows.lender changed in
    on-then _ _ c.put_numbers.result
    (λ h q name. put-one m n c.args.id.now changed (changes-name m n _ _ _ refl ((c.get_mut.follows.holds changed).3 (search rules))) (Some c.in-Some.latest.now) c.in-Some.ensures.value name _ (h name) q)
    c.put_numbers.ensures

pub returns-in_ok-insert-in-None : goal.returns-in_ok-insert-in-None
returns-in_ok-insert-in-None c q name =
    let m = c.args.entities.now in
    put-one m c.insert.new.self c.args.id.now c.put_numbers-in-None.new.latest
    (inserts-name c.get_mut.follows.lender-at-none m c.insert.new.self c.get_mut.follows.holds-at-none _ _ _ c.in_ok-key-in-None.ensures.ok c.in_ok-insert-in-None.ensures.updates)
    None c.in-None.ensures.value name _
    (c.in_ok-put_numbers-in-None.ensures name ∙ ap (or_else _) (none-yet _ refl c.new-fresh.ensures.empty name)) q
