use Rattle.std.proofs.Common.{◌≡◌, ℕ, true, List, [], ◌∷◌, ◌++◌, drop, sym, ap, subst, ◌∙◌, arith}
use Rattle.std.specs.Prelude.{nat_eq}
use Rattle.std.specs.BTreeSet.{contains}
use Rattle.std.specs.Ordering.{nat_cmp}
use Rattle.flow_line.specs.Marks.{mark_of}
use Rattle.flow_line.specs.Reading.{has_key}
use Rattle.flow_line.proofs.FoundKeys.{Pair, marked_early, marked_later}
use Rattle.flow_line.proofs.found_pairs.FoundPairs.push.Goals as goal
use Rattle.flow_line.proofs.found_pairs.FoundPairs.push.Goals.{then-len-ge-FEW+in_ok-note, else-len-ge-FEW}

pub invariant_of-result : goal.invariant_of-result
invariant_of-result c = λ q there.
    let list : List Pair = c.self.inside.list in
    let before = contains nat_cmp c.self.inside.marks in
    let here : has_key (drop 16 (list ++ c.args.pair ∷ [])) q ≡ true = ap (λ (ps : List Pair). has_key (drop 16 ps) q) (sym c.in_ok-push.ensures.ok) ∙ there in
    elim c.if-len-ge-FEW.branch [
      | then-len-ge-FEW+in_ok-note w ↦
          let after = contains nat_cmp w.note.new.marks in
          let mark : w.mark_of.result ≡ mark_of c.args.pair.0 = w.mark_of.ensures ∙ ap mark_of w.bytes.ensures.value in
          let own : after (mark_of c.args.pair.0) ≡ true = subst (λ (m : ℕ). after m ≡ true) mark w.in_ok-note.ensures.own in
          ap (λ s. contains nat_cmp s (mark_of q)) w.marks-is
          ∙ marked_later 16 list c.args.pair before after (omega (arith, c.len.ensures, w.if-len-ge-FEW)) c.self.invariant own
          (λ m apart. w.in_ok-note.ensures.others m (ap (λ (k : ℕ). nat_eq k m) mark ∙ apart)) q here
      | else-len-ge-FEW w ↦
          ap (λ s. contains nat_cmp s (mark_of q)) w.marks-is ∙ marked_early 16 list c.args.pair before (omega (arith, c.len.ensures, w.if-len-ge-FEW)) q here
    ]
