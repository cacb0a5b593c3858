use Rattle.std.proofs.Common.{◌≡◌, inl, inr, [], map, None, refl, rules}
use Rattle.ha_run.specs.Opened.{source_of}
use Rattle.ha_run.proofs.RoundLemmas.{lead_of, stopped_still}
use Rattle.ha_run.proofs.core_run.go_round.Goals as goal

pub returns-then-is_some : goal.returns-then-is_some
returns-then-is_some g c =
    let fault : c.args.bus.first ≡ None → ⊥ = search rules in
    ([], inr (stopped_still c.args.bus (map (source_of g.S.Source.faults g.S.Source.left g.S.Source.name) c.args.sources) fault), refl)

pub returns-in-Ok-make : goal.returns-in-Ok-make
returns-in-Ok-make g c =
    let free : c.args.bus.first ≡ None = search rules in
    let r = c.send_round.ensures c.args.bus (lead_of c.args.bus _ free c.in-Ok-make.ensures.view) in
    (r.0, inl r.1, r.2)
