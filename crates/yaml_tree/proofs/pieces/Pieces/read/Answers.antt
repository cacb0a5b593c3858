use Rattle.std.proofs.Common.{ℕ, sym, ap, ◌∙◌, suc, length, length-drop, arith}
use Rattle.yaml_tree.specs.Pieces.{pieces}
use Rattle.yaml_tree.proofs.Lines.{marked, faulty, found_fault, found_none, goes_on}
use Rattle.yaml_tree.proofs.pieces.Pieces.read.Goals as goal

pub returns-then-is_over : goal.returns-then-is_over
returns-then-is_over c =
    marked c.lines.self.found.items c.in-Some.line.now c.lines.self.lines (pieces (suc (length c.args.self.now.lines)) c.args.self.now.found.items c.args.self.now.lines) c.lines.invariant.so_far
    (sym c.in-Some.ensures) (sym c.is_over.ensures ∙ c.if-is_over.true)

pub returns-then-is_some : goal.returns-then-is_some
returns-then-is_some c =
    faulty c.lines.self.found.items c.in-Some.line.now c.lines.self.lines c.bump.new.self (pieces (suc (length c.args.self.now.lines)) c.args.self.now.found.items c.args.self.now.lines) c.line_heads.new.self.found.items c.in_ok-fault.fault c.lines.invariant.so_far
    (sym c.in-Some.ensures) (sym c.bump.ensures) (sym c.is_over.ensures ∙ c.if-is_over.false) (sym c.is_some.ensures ∙ c.if-is_some.true)
    (found_fault _ c.line_heads.new.self.found.items c.line_heads.new.self.lines c.in_ok-fault.fault ℕ (sym c.is_some.ensures ∙ c.if-is_some.true) c.in_ok-fault.ensures.exact)

pub lines-preserved : goal.lines-preserved
lines-preserved c = record {
  so_far = goes_on c.lines.self.found.items c.in-Some.line.now c.lines.self.lines c.bump.new.self (pieces (suc (length c.args.self.now.lines)) c.args.self.now.found.items c.args.self.now.lines) c.line_heads.new.self.found.items c.line_heads.new.self.lines c.lines.invariant.so_far
      (sym c.in-Some.ensures) (sym c.bump.ensures) (sym c.is_over.ensures ∙ c.if-is_over.false)
      (found_none _ c.line_heads.new.self.found.items c.line_heads.new.self.lines c.in_ok-fault.fault ℕ (sym c.is_some.ensures ∙ c.if-is_some.false) c.in_ok-fault.ensures.exact)
      c.in_ok-fault.ensures.shorter;
  fewer = omega (arith, c.in_ok-fault.ensures.shorter, ap length c.bump.ensures, length-drop 1 c.lines.self.lines);
}
