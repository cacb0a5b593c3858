-- Lines that are UTF-8.
use Rattle.std.proofs.Common.{◌≡◌, ℕ, zero, suc, ◌<◌, Bool, true, false, cond, List, [], ◌∷◌, length, get_or, Option, Some, None, refl, ap, ◌∙◌, arith}
use Rattle.std.specs.Str.{is_utf8}
use Rattle.yaml_scan.specs.declared.line.RawLine.{RawLine}
use Rattle.yaml_scan.specs.declared.fault.Fault.{Fault}
use Rattle.yaml_scan.specs.declared.fault.Code.TheVariants.{NotUtf8}
use Rattle.yaml_scan.specs.Lines.{least, fault, one_fault, or_else, fault_from, tab_fault, mark_fault}

picked : (b : Bool) (f g : Fault) → cond b (Some f) (Some g) ≡ None → ⊥
picked true f g e = cc
picked false f g e = cc

least_some : (a : Option Fault) (f : Fault) → least a (Some f) ≡ None → ⊥
least_some None f e = cc
least_some (Some g) f e = picked _ f g e

inner : (a b : Option Fault) → least a b ≡ None → b ≡ None
inner None b e = e
inner (Some g) None e = refl
inner (Some g) (Some f) e = absurd (picked _ f g e)

utf8_or : (b : Bool) (f : Fault) → cond b None (Some f) ≡ None → b ≡ true
utf8_or true f e = refl
utf8_or false f e = absurd cc

quiet : (begun : Bool) (l : RawLine) → one_fault begun l ≡ None → is_utf8 l.content ≡ true
quiet begun l e = utf8_or (is_utf8 l.content) (fault l.line NotUtf8) (inner (mark_fault begun l) _ (inner (tab_fault l) _ e))

first_none : (a b : Option Fault) → or_else a b ≡ None → (a ≡ None) × (b ≡ None)
first_none None b e = (refl, e)
first_none (Some f) b e = absurd cc

pub each_utf8 : (ls : List RawLine) (begun : Bool) (k : ℕ) (x : RawLine) → fault_from begun ls ≡ None → k < length ls → x ≡ get_or ls k x → is_utf8 x.content ≡ true
unfolding fault_from
each_utf8 [] begun k x e lt is = absurd (omega arith)
each_utf8 (l ∷ ls) begun zero x e lt is = ap (λ (y : RawLine). is_utf8 y.content) is ∙ quiet begun l (first_none _ _ e).0
each_utf8 (l ∷ ls) begun (suc k) x e lt is = each_utf8 ls _ k x (first_none _ _ e).1 (omega arith) is
