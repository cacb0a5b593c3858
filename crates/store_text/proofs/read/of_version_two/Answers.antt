use Rattle.std.proofs.Common.{◌≡◌, ◌∙◌, ap, sym, rules, ℕ, ◌==◌, true, false, Some, None, Err, option_and_then, codes, if◌then◌else◌, Option}
use Rattle.std.specs.Prelude.{IfSome}
use Rattle.serde_json.specs.Data.{Members}
use Rattle.serde_json.specs.Events.{members_len}
use Rattle.serde_json.specs.View.{members_view}
use Rattle.serde_json.proofs.Views.{members_len-members_view}
use Rattle.store_text.specs.Fault.{code_of}
use Rattle.store_text.specs.Store.{Moments, Switches, both_of, flags_of, moments_of, object_under, of_version_two}
use Rattle.store_text.proofs.read.of_version_two.Goals as goal

other : (ms : Members) → (members_len ms ≡ 3 → ⊥) → of_version_two ms ≡ Err 2
other ms n =
    let e : (members_len ms == 3) ≡ false = search (rules, n) in
    ap (λ b. if b then both_of (option_and_then flags_of (object_under (codes "switches") ms)) (option_and_then moments_of (object_under (codes "last") ms)) else Err 2) e

three : (ms : Members) → members_len ms ≡ 3 → of_version_two ms ≡ both_of (option_and_then flags_of (object_under (codes "switches") ms)) (option_and_then moments_of (object_under (codes "last") ms))
three ms n =
    let e : (members_len ms == 3) ≡ true = search (rules, n) in
    ap (λ b. if b then both_of (option_and_then flags_of (object_under (codes "switches") ms)) (option_and_then moments_of (object_under (codes "last") ms)) else Err 2) e

no-flags : (o : Option ℕ) (ms : Members) (f : Option Switches) (m : Option Moments) → of_version_two ms ≡ both_of f m → IfSome o (λ code. (code ≡ 2) × (f ≡ None)) → IfSome o (λ code. of_version_two ms ≡ Err code)
no-flags None ms f m e h = tt
no-flags (Some code) ms f m e h = e ∙ ap (λ g. both_of g m) h.1 ∙ ap (λ (n : ℕ). Err n) (sym h.0)

no-moments : (o : Option ℕ) (ms : Members) (s : Switches) (m : Option Moments) → of_version_two ms ≡ both_of (Some s) m → IfSome o (λ code. (code ≡ 2) × (m ≡ None)) → IfSome o (λ code. of_version_two ms ≡ Err code)
no-moments None ms s m e h = tt
no-moments (Some code) ms s m e h = e ∙ ap (both_of (Some s)) h.1 ∙ ap (λ (n : ℕ). Err n) (sym h.0)

pub returns-then-len-ne3-clause-refused : goal.returns-then-len-ne3-clause-refused
returns-then-len-ne3-clause-refused c =
    let es = c.args.members.now.entries in
    other (members_view es) (λ e. c.if-len-ne3.true (c.len.ensures.len ∙ sym (members_len-members_view es) ∙ e))

pub returns-in-Err-clause-refused : goal.returns-in-Err-clause-refused
returns-in-Err-clause-refused c =
    let es = c.args.members.now.entries in
    let n : members_len (members_view es) ≡ 3 = members_len-members_view es ∙ sym c.len.ensures.len ∙ c.if-len-ne3.false in
    no-flags (code_of c.in-Err.fault) (members_view es) _ _ (three (members_view es) n) c.in-Err.ensures.refused

pub returns-in-Ok-moments_under-clause-ok : goal.returns-in-Ok-moments_under-clause-ok
returns-in-Ok-moments_under-clause-ok c =
    let es = c.args.members.now.entries in
    let n : members_len (members_view es) ≡ 3 = members_len-members_view es ∙ sym c.len.ensures.len ∙ c.if-len-ne3.false in
    three (members_view es) n
    ∙ ap (λ f. both_of f (option_and_then moments_of (object_under (codes "last") (members_view es)))) c.in-Ok.ensures.ok
    ∙ ap (both_of (Some c.in-Ok.switches)) c.in-Ok-moments_under.ensures.ok

pub returns-in-Err-moments_under-clause-refused : goal.returns-in-Err-moments_under-clause-refused
returns-in-Err-moments_under-clause-refused c =
    let es = c.args.members.now.entries in
    let n : members_len (members_view es) ≡ 3 = members_len-members_view es ∙ sym c.len.ensures.len ∙ c.if-len-ne3.false in
    no-moments (code_of c.in-Err-moments_under.fault) (members_view es) c.in-Ok.switches _
    (three (members_view es) n ∙ ap (λ f. both_of f (option_and_then moments_of (object_under (codes "last") (members_view es)))) c.in-Ok.ensures.ok)
    c.in-Err-moments_under.ensures.refused
