use Rattle.std.proofs.Common.{◌<◌, ◌≤◌, false, subst, rules, arith}
use Rattle.ha_journal.specs.Journal.{Journal}
use Rattle.ha_whole.specs.Whole.{HasRoom, IsFull}
use Rattle.ha_engine.specs.Core.{Core}
use Rattle.ha_engine.proofs.WholeLemmas.{full-at, room-below}
use Rattle.ha_engine.proofs.engine.Machine.has_room.Goals as goal

pub returns-clause-room : goal.returns-clause-room
returns-clause-room c e =
    let j : Journal = c.self.inside.journal.items in
    let told = c.self.invariant.told in
    let lt : c.len.result < c.self.inside.bounds.limit = search (rules, e) in
    subst (λ (v : Core). HasRoom v.entries false) c.self.view_is (room-below j c.self.inside.bounds told.lies told.bounded (omega (arith, lt, c.len.ensures, c.self.inside.journal.ok.0)))

pub returns-clause-full : goal.returns-clause-full
returns-clause-full c e =
    let j : Journal = c.self.inside.journal.items in
    let told = c.self.invariant.told in
    let le : c.self.inside.bounds.limit ≤ c.len.result = search (rules, e) in
    subst (λ (v : Core). IsFull v.entries) c.self.view_is (full-at j c.self.inside.bounds told.lies told.bounded (omega (arith, le, c.len.ensures, c.self.inside.journal.ok.0)))
