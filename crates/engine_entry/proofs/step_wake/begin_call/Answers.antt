use Rattle.std.proofs.Common.{◌≡◌, ◌+◌, suc, length, sym, ◌∙◌, arith}
use Rattle.std.specs.Prelude.{Some, ◌&&◌, nat_eq, if◌then◌else◌}
use Rattle.ha_model.proofs.LastEntry.{ok-then}
use Rattle.script_calls.specs.Waiting.{caller_of}
use Rattle.engine_entry.proofs.step_wake.begin_call.Goals as goal

pub returns-then-is_calling : goal.returns-then-is_calling
returns-then-is_calling c =
    let size : c.len.result + 1 ≡ suc (length c.args.frames.now.items) = omega (arith, c.len.ensures.len) in
    ok-then c.begin.result
    (λ ok f there script n.
    ok n
    ∙ (λ i. if nat_eq (size i) n then Some (c.args.serial, c.in_ok-caller.ensures i) else caller_of n c.args.calls.now)
    ∙ (λ i. if (sym c.if-is_calling.true ∙ c.is_calling.ensures f there script) i && nat_eq (suc (length c.args.frames.now.items)) n then Some (c.args.serial, c.args.branch.now) else caller_of n c.args.calls.now))
    c.begin.ensures.ok

pub returns : goal.returns
returns c f there script n =
    (λ i. if (sym c.if-is_calling.false ∙ c.is_calling.ensures f there script) i && nat_eq (suc (length c.args.frames.now.items)) n then Some (c.args.serial, c.args.branch.now) else caller_of n c.args.calls.now)
