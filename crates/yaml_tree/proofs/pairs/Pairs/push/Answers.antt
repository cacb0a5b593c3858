use Rattle.std.proofs.Common.{◌≡◌, ℕ, Bool, true, cond, List, sym, ap, ◌∙◌}
use Rattle.std.specs.Ordering.{nat_cmp}
use Rattle.std.specs.Str.{bytes_eq}
use Rattle.std.specs.BTreeSet.{contains}
use Rattle.std.specs.Cmp.Lexicographic.{slice_cmp}
use Rattle.std.proofs.lemmas.Map.Text.{is_eq-slice_cmp}
use Rattle.yaml_tree.specs.Nodes.{Pair, has_key}
use Rattle.yaml_tree.proofs.Keys.{pushed}
use Rattle.yaml_tree.proofs.pairs.Pairs.push.Goals as goal

pub invariant_of-result : goal.invariant_of-result
invariant_of-result c = λ q.
    let key : c.in_ok-of.field-0 ≡ c.args.pair.0 = c.in_ok-of.ensures ∙ c.bytes.ensures in
    let test = is_eq-slice_cmp c.in_ok-of.field-0 q ∙ ap (λ (k : List ℕ). bytes_eq k q) key in
    pushed c.self.inside.list.items c.args.pair q (contains (slice_cmp nat_cmp) c.self.inside.seen q) (contains (slice_cmp nat_cmp) c.insert.new.self q) (c.self.invariant q)
    (c.in_ok-insert.ensures.updates.0 q ∙ ap (λ (b : Bool). cond b true (contains (slice_cmp nat_cmp) c.self.inside.seen q)) test)
    ∙ ap (λ (ps : List Pair). has_key ps q) (sym c.in_ok-push_back.ensures.items)
