use Rattle.std.proofs.Common.{◌<◌, ◌≤◌, ◌∙◌, ◌+◌, suc, sym, ap, arith, length, take, get_or, insert, slice_set}
use Rattle.ha_value.specs.declared.value.Value.{Value}
use Rattle.ha_config.specs.Words.{Text}
use Rattle.script_step.specs.Cuts.{cut, total, add_at}
use Rattle.script_step.proofs.CutLemmas.{cut-add, length-cut, total-take, total-set, length-insert, get-total}
use Rattle.script_step.proofs.scopes.Scopes.add_at.Goals as goal

pub offset_bounds-as_slice-k : goal.offset_bounds-as_slice-k
offset_bounds-as_slice-k c =
    let k_in : c.args.k < length c.self.inside.sizes = omega (arith, c.requires, ap length c.self.view_is, length-cut c.self.inside.sizes c.self.inside.pairs) in
    omega (arith, k_in, c.as_slice.type_inv.1, ap length c.as_slice.ensures)

pub bounds-as_slice-k : goal.bounds-as_slice-k
bounds-as_slice-k c = omega (arith, c.requires, ap length c.self.view_is, length-cut c.self.inside.sizes c.self.inside.pairs, ap length c.as_slice.ensures)

pub end_of-end-requires-clause-within : goal.end_of-end-requires-clause-within
end_of-end-requires-clause-within c = omega (arith, c.requires, ap length c.self.view_is, length-cut c.self.inside.sizes c.self.inside.pairs, ap length c.as_slice-2.ensures)

pub insert-requires : goal.insert-requires
insert-requires c =
    omega (arith, c.end_of-end.ensures, ap (λ l. total (take (suc c.args.k) l)) c.as_slice-2.ensures, total-take (suc c.args.k) c.self.inside.sizes, c.self.invariant)

pub set-requires : goal.set-requires
set-requires c = omega (arith, c.requires, ap length c.self.view_is, length-cut c.self.inside.sizes c.self.inside.pairs)

pub invariant_of-self-2 : goal.invariant_of-self-2
invariant_of-self-2 c =
    let sizes = c.self.inside.sizes in
    let pairs = c.self.inside.pairs in
    let k_in : c.args.k < length sizes = omega (arith, c.requires, ap length c.self.view_is, length-cut sizes pairs) in
    let size = ap (λ l. get_or l c.args.k 0 + 1) c.as_slice.ensures in
    let end_in : c.end_of-end.result ≤ length pairs =
    omega (arith, c.end_of-end.ensures, ap (λ l. total (take (suc c.args.k) l)) c.as_slice-2.ensures, total-take (suc c.args.k) sizes, c.self.invariant) in
    ap total (c.set.ensures ∙ ap (slice_set sizes c.args.k) size) ∙ total-set sizes c.args.k 0 k_in
    ∙ ap (λ n. n + 1) c.self.invariant ∙ sym (length-insert pairs c.end_of-end.result (c.args.name, c.args.value) end_in) ∙ ap length (sym c.in_ok-insert.ensures.ok)

pub returns : goal.returns
returns c =
    let sizes = c.self.inside.sizes in
    let pairs = c.self.inside.pairs in
    let p : Text × Value = (c.args.name, c.args.value) in
    let k_in : c.args.k < length sizes = omega (arith, c.requires, ap length c.self.view_is, length-cut sizes pairs) in
    let size = ap (λ l. get_or l c.args.k 0 + 1) c.as_slice.ensures in
    let end_is = c.end_of-end.ensures ∙ ap (λ l. total (take (suc c.args.k) l)) c.as_slice-2.ensures in
    (λ i. cut ((c.set.ensures ∙ ap (slice_set sizes c.args.k) size) i) ((c.in_ok-insert.ensures.ok ∙ ap (λ n. insert pairs n p) end_is) i))
    ∙ cut-add sizes pairs c.args.k 0 p k_in c.self.invariant
    ∙ ap (add_at c.args.k p) c.self.view_is

pub prove-unreachable-requires : goal.prove-unreachable-requires
prove-unreachable-requires c =
    let sizes = c.self.inside.sizes in
    let pairs = c.self.inside.pairs in
    let k_in : c.args.k < length sizes = omega (arith, c.requires, ap length c.self.view_is, length-cut sizes pairs) in
    let end_in : c.end_of-end.result ≤ length pairs =
    omega (arith, c.end_of-end.ensures, ap (λ l. total (take (suc c.args.k) l)) c.as_slice-2.ensures, total-take (suc c.args.k) sizes, c.self.invariant) in
    omega (
      arith,
      c.len-2.ensures,
      ap length c.in_ok-insert.ensures.ok,
      length-insert pairs c.end_of-end.result (c.args.name, c.args.value) end_in,
      c.self.invariant,
      get-total sizes c.args.k k_in,
      ap (λ l. get_or l c.args.k 0) c.as_slice.ensures,
    )
