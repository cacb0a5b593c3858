use Rattle.std.proofs.Common.{◌≡◌, ◌+◌, ◌≤◌, ◌⊎◌, length, true, false, sym, subst, arith}
use Rattle.ha_journal.specs.Journal.{Journal}
use Rattle.ha_whole.specs.Whole.{CannotRestart, HasRoom}
use Rattle.ha_engine.specs.Core.{Core}
use Rattle.ha_engine.proofs.WholeLemmas.{restart-none, restart-room}
use Rattle.ha_engine.proofs.engine.Machine.lets_restart.Goals as goal

pub lets_restart-requires : goal.lets_restart-requires
lets_restart-requires c =
    let room : HasRoom c.self.inside.journal.items false = subst (λ (v : Core). HasRoom v.entries false) (sym c.self.view_is) c.requires in
    omega (arith, room.room, c.len.ensures, c.self.inside.journal.ok.0)

pub returns-clause-room : goal.returns-clause-room
returns-clause-room c e =
    let j : Journal = c.self.inside.journal.items in
    let told = c.self.invariant.told in
    let room : HasRoom j false = subst (λ (v : Core). HasRoom v.entries false) (sym c.self.view_is) c.requires in
    let both = c.lets_restart.ensures.some e in
    subst (λ (v : Core). HasRoom v.entries true) c.self.view_is
    (restart-room j c.self.inside.bounds told.lies told.bounded room (omega (arith, both.0, c.len.ensures, c.self.inside.journal.ok.0)) both.1)

pub returns-clause-full : goal.returns-clause-full
returns-clause-full c e =
    let j : Journal = c.self.inside.journal.items in
    let told = c.self.invariant.told in
    let room : HasRoom j false = subst (λ (v : Core). HasRoom v.entries false) (sym c.self.view_is) c.requires in
    let size : c.len.result ≡ length j = omega (arith, c.len.ensures, c.self.inside.journal.ok.0) in
    let none = c.lets_restart.ensures.none e in
    subst (λ (v : Core). CannotRestart v.entries) c.self.view_is
    (restart-none j c.self.inside.bounds told.lies told.bounded room (subst (λ n. (4194304 ≤ n + 1) ⊎ (1024 ≤ c.self.inside.bounds.segments)) size none))
