use Rattle.std.proofs.Common.{arith, ◌≡◌, ℕ, ◌+◌, ◌∷◌, ◌++◌, length, take, IsUtf8, subst, sym}
use Rattle.ha_value.proofs.EntityLemmas.{dotted, joined_utf8}
use Rattle.ha_value.proofs.id_text.joined_here.Goals as goal

pub returns-clause-text : goal.returns-clause-text
returns-clause-text c =
    let front = c.args.front.now in
    let back = c.args.back.now in
    let none : 0 + length front ≡ length front = omega arith in
    let first : take (length front) c.put.new.row ≡ front = subst (λ (n : ℕ). take n c.put.new.row ≡ front) none c.put.ensures in
    let is : take (length front + 1 + length back) c.put-3.new.row ≡ front ++ 46 ∷ back =
    dotted front back _ _ _ first c.put-2.ensures c.put-3.ensures in
    (omega (arith, c.requires.within), subst IsUtf8 (sym is) (joined_utf8 front back c.requires.front c.requires.back))
