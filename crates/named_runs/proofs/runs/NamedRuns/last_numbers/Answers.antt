use Rattle.std.proofs.Common.{◌≡◌, sym, subst, List, ℕ}
use Rattle.std.specs.Prelude.{IfOk}
use Rattle.named_runs.specs.Named.{IsCounted, NamedTable, last_of}
use Rattle.named_runs.proofs.runs.NamedRuns.last_numbers.Goals as goal

pub last_numbers-requires : goal.last_numbers-requires
last_numbers-requires c =
    subst (λ (fs : List ℕ). IsCounted fs c.as_slice-2.result.now c.self.inside.runs) (sym c.as_slice.ensures.value)
    (subst (λ (ns : List ℕ). IsCounted c.self.inside.firsts.items ns c.self.inside.runs) (sym c.as_slice-2.ensures.value) c.self.invariant)

pub returns : goal.returns
returns c =
    subst (λ (t : NamedTable). IfOk c.last_numbers.result (λ made. made.items ≡ last_of t.firsts t.closed t.list)) c.self.view_is
    (subst (λ (fs : List ℕ). IfOk c.last_numbers.result (λ made. made.items ≡ last_of fs c.self.inside.runs.closed c.self.inside.runs.list)) c.as_slice.ensures.value c.last_numbers.ensures)
