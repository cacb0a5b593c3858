use Rattle.std.proofs.Common.{◌≡◌, ◌∙◌, ap, sym, rules, ℕ, ◌==◌, true, false, Some, None, Ok, Err, [], option_and_then, codes, if◌then◌else◌, Option}
use Rattle.std.specs.Prelude.{IfSome}
use Rattle.serde_json.specs.Data.{Members}
use Rattle.serde_json.specs.Events.{members_len}
use Rattle.serde_json.specs.View.{members_view}
use Rattle.serde_json.proofs.Views.{members_len-members_view}
use Rattle.store_text.specs.Fault.{code_of}
use Rattle.store_text.specs.Store.{Switches, both_of, flags_of, object_under, of_version_one}
use Rattle.store_text.proofs.read.of_version_one.Goals as goal

other : (ms : Members) → (members_len ms ≡ 2 → ⊥) → of_version_one ms ≡ Err 2
other ms n =
    let e : (members_len ms == 2) ≡ false = search (rules, n) in
    ap (λ b. if b then both_of (option_and_then flags_of (object_under (codes "switches") ms)) (Some []) else Err 2) e

two : (ms : Members) → members_len ms ≡ 2 → of_version_one ms ≡ both_of (option_and_then flags_of (object_under (codes "switches") ms)) (Some [])
two ms n =
    let e : (members_len ms == 2) ≡ true = search (rules, n) in
    ap (λ b. if b then both_of (option_and_then flags_of (object_under (codes "switches") ms)) (Some []) else Err 2) e

refused : (o : Option ℕ) (ms : Members) (f : Option Switches) → of_version_one ms ≡ both_of f (Some []) → IfSome o (λ code. (code ≡ 2) × (f ≡ None)) → IfSome o (λ code. of_version_one ms ≡ Err code)
refused None ms f e h = tt
refused (Some code) ms f e h = e ∙ ap (λ g. both_of g (Some [])) h.1 ∙ ap (λ (n : ℕ). Err n) (sym h.0)

pub returns-then-len-ne2-clause-refused : goal.returns-then-len-ne2-clause-refused
returns-then-len-ne2-clause-refused c =
    let es = c.args.members.now.entries in
    other (members_view es) (λ e. c.if-len-ne2.true (c.len.ensures.len ∙ sym (members_len-members_view es) ∙ e))

pub returns-in-Ok-clause-ok : goal.returns-in-Ok-clause-ok
returns-in-Ok-clause-ok c =
    let es = c.args.members.now.entries in
    let n : members_len (members_view es) ≡ 2 = members_len-members_view es ∙ sym c.len.ensures.len ∙ c.if-len-ne2.false in
    two (members_view es) n ∙ ap (λ f. both_of f (Some [])) c.in-Ok.ensures.ok
    ∙ ap (λ ms. Ok (record { switches = c.in-Ok.switches; last = ms })) (sym c.make.ensures)

pub returns-in-Err-clause-refused : goal.returns-in-Err-clause-refused
returns-in-Err-clause-refused c =
    let es = c.args.members.now.entries in
    let n : members_len (members_view es) ≡ 2 = members_len-members_view es ∙ sym c.len.ensures.len ∙ c.if-len-ne2.false in
    refused (code_of c.in-Err.fault) (members_view es) _ (two (members_view es) n) c.in-Err.ensures.refused
