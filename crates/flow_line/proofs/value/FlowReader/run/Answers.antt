use Rattle.std.proofs.Common.{◌≡◌, ℕ, ◌+◌, List, Ok, ap, subst, sym, ◌∙◌, take, drop, IsUtf8}
use Rattle.flow_line.proofs.value.FlowReader.run.Goals as goal

pub from_bytes-requires : goal.from_bytes-requires
from_bytes-requires c = subst (λ (t : List ℕ). IsUtf8 (take c.args.at t)) (sym (c.rest-rest.ensures ∙ c.self.view_is)) c.requires.utf8

pub returns : goal.returns
returns c =
    let word : c.in_ok-from_bytes.field-0 ≡ take c.args.at c.args.self.now = c.in_ok-from_bytes.ensures ∙ ap (take c.args.at) (c.rest-rest.ensures ∙ c.self.view_is) in
    c.requires.reads ∙ ap (λ (w : List ℕ). Ok (w, drop (c.args.at + 1) c.args.self.now)) (sym word) ∙ ap (λ (t : List ℕ). Ok (c.in_ok-from_bytes.field-0, t)) (ap (drop (c.args.at + 1)) (sym c.self.view_is) ∙ sym c.skip.ensures)
