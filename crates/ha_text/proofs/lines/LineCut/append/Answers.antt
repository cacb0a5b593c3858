use Rattle.std.proofs.Common.{arith, ◌∙◌}
use Rattle.ha_text.proofs.Shorten.{append_open}
use Rattle.ha_text.proofs.lines.LineCut.append.Goals as goal

pub invariant_of-self-then-behind-gt0 : goal.invariant_of-self-then-behind-gt0
invariant_of-self-then-behind-gt0 c =
    let e = c.in_ok-extend_from_slice.ensures in (
      omega (arith, c.self.invariant.0, c.self.invariant.1, c.len-before.ensures),
      omega (arith, c.len-before.ensures, c.behind_last_break-behind.ensures.bound, e.len),
      append_open c.self.inside.held.items c.args.piece.now c.extend_from_slice.new.self.items c.len-before.result c.behind_last_break-behind.result e.items (c.len-before.ensures ∙ c.self.inside.held.ok.0) c.behind_last_break-behind.ensures.open,
    )
