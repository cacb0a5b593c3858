-- No template begins with what stands up to the place of a refusal and the byte there.
use Rattle.std.proofs.Common.{◌≡◌, ℕ, suc, ◌+◌, ◌≤◌, ◌<◌, inl, inr, List, [], ◌++◌, length, take, drop, Option, Ok, Err, sym, ap, subst, ◌∙◌, arith, append_assoc}
use Rattle.std.proofs.Math.ListN.{length-drop}
use Rattle.std.proofs.lemmas.Bool.{cases_lt}
use Rattle.ha_config.specs.declared.template.Template.{Template}
use Rattle.tpl_parse.specs.Grammar.{IsTemplate}
use Rattle.tpl_parse.specs.Pieces.{template}
use Rattle.tpl_parse.specs.Reading.{Inner, atom}
use Rattle.tpl_parse.specs.Refused.{IsFirstFault, IsLost, NoneGoesOn}
use Rattle.tpl_parse.proofs.Next.{Fault}
use Rattle.tpl_parse.proofs.Shorter.{Read, Within}
use Rattle.tpl_parse.proofs.Cut.{Nothing, Agree, same, fails, late, beyond, begun, Local}
use Rattle.tpl_parse.proofs.CutNumbers.{number_cut, take_and_drop, take_take}
use Rattle.tpl_parse.proofs.CutAtoms.{IsCut, Dotted, atom_cut}
use Rattle.tpl_parse.proofs.CutPieces.{template_cut}
use Rattle.tpl_parse.proofs.CutRange.{stays_out}
use Rattle.tpl_parse.proofs.OnlyPieces.{template_read}
use Rattle.tpl_parse.proofs.Parsed.{no_tree}

atoms : (inner : Option Inner) → IsCut inner → Local Dotted (atom inner)
atoms = atom_cut (number_cut stays_out)

-- a text that stops before the place where the other parts from it is not read there
not_read : (a b : List ℕ) (r s : Read Template) (f : Fault) (x : Template) → r ≡ Err f → length a < f.left → s ≡ Ok (x, []) → Agree Nothing a b r s → ⊥
not_read a b r s f x e lt o (same y d p q) = let k = sym e ∙ p in cc
not_read a b r s f x e lt o (fails g p) = let k = sym o ∙ p in cc
not_read a b r s f x e lt o (late (beyond w)) = let v : Within {A = Template} (length a) (Err f) = subst (λ (z : Read Template). Within (length a) z) e w in omega (arith, v, lt)
not_read a b r s f x e lt o (late (begun y rest d p at k)) = k

lost_at : (text : List ℕ) (at : ℕ) (f : Fault) → template text ≡ Err f → at + f.left ≡ length text → at < length text → IsLost (take (suc at) text)
lost_at text at f e is lt more tree here =
    let c : List ℕ = take (suc at) text in
    let a : List ℕ = drop (suc at) text in
    not_read a more (template (c ++ a)) (template (c ++ more)) f tree (ap template (take_and_drop (suc at) text) ∙ e) (omega (arith, is, lt, length-drop (suc at) text)) (template_read (c ++ more) tree here) (template_cut atoms c a more)

pub none_goes_on : (text : List ℕ) (at : ℕ) (f : Fault) → template text ≡ Err f → at + f.left ≡ length text → NoneGoesOn text at
none_goes_on text at f e is = record { within = omega (arith, is); lost = lost_at text at f e is; none = λ tree here. no_tree text f e tree here }

-- ---- a first fault is the first

pub least : (text : List ℕ) (p q : ℕ) → NoneGoesOn text p → IsFirstFault text q → q ≤ p
least text p q here first = elim (cases_lt p q) [
  | inr le ↦ le
  | inl lt ↦
      let more : List ℕ = first.goes_on.0 in
      let middle : List ℕ = drop (suc p) (take q text) in
      let front : take (suc p) text ++ middle ≡ take q text = ap (λ (t : List ℕ). t ++ middle) (sym (take_take (suc p) q text (omega (arith, lt)))) ∙ take_and_drop (suc p) (take q text) in
      let whole : take q text ++ more ≡ take (suc p) text ++ (middle ++ more) = ap (λ (t : List ℕ). t ++ more) (sym front) ∙ append_assoc (take (suc p) text) middle more in
      absurd (here.lost (omega (arith, lt, first.no_more.within)) (middle ++ more) first.goes_on.1 (subst (λ (t : List ℕ). IsTemplate t first.goes_on.1) whole first.goes_on.2))
]

pub one_place : (text : List ℕ) (p q : ℕ) → IsFirstFault text p → IsFirstFault text q → p ≡ q
one_place text p q a b = omega (arith, least text p q a.no_more b, least text q p b.no_more a)
