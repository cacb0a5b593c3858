-- Pieces that make a whole.
use Rattle.std.proofs.Common.{◌≡◌, ◌≤◌, ◌+◌, ◌-◌, ◌++◌, ℕ, List, Option, Some, None, length, take, drop, ap, sym, ◌∙◌, append_assoc, arith, length-append}
use Rattle.std.proofs.Math.Seq.{take-add}
use Rattle.std.proofs.lemmas.List.{take_rest, length-drop}
use Rattle.std.specs.Option.{option_map}
use Rattle.ha_io.specs.Told.{Gives, Takes}

-- a front, and then a front of the rest
take_further : (d c : ℕ) (text : List ℕ) → take d text ++ take c (take (length text - d) (drop d text)) ≡ take (d + c) text
take_further d c text = ap (λ z. take d text ++ take c z) (take_rest text d) ∙ sym (take-add d c text)

pub takes_more : (w0 w1 w2 : Option (List ℕ)) (text : List ℕ) (d c : ℕ)
    → Takes w0 (take d text) w1 → Takes w1 (take c (take (length text - d) (drop d text))) w2 → Takes w0 (take (d + c) text) w2
takes_more None w1 w2 text d c p q = q ∙ ap (option_map (λ (all : List ℕ). all ++ take c (take (length text - d) (drop d text)))) p
takes_more (Some a) w1 w2 text d c p q =
    q ∙ ap (option_map (λ (all : List ℕ). all ++ take c (take (length text - d) (drop d text)))) p
    ∙ ap (λ (all : List ℕ). Some all) (append_assoc a (take d text) _ ∙ ap (λ z. a ++ z) (take_further d c text))

-- what was read, and then what is read behind it
pub gives_more : (l0 l1 l2 : Option (List ℕ)) (a b all : List ℕ) → Gives l0 a l1 → Gives l1 b l2 → all ≡ a ++ b → Gives l0 all l2
gives_more l0 None None a b all p q e = p
gives_more l0 None (Some r) a b all p q e = absurd (let bad : ◌≡◌ {A = Option (List ℕ)} None (Some (b ++ r)) = q in cc)
gives_more l0 (Some l) None a b all p q e = absurd (let bad : ◌≡◌ {A = Option (List ℕ)} (Some l) None = q in cc)
gives_more l0 (Some l) (Some r) a b all p q e =
    let same : l ≡ b ++ r = (let whole : ◌≡◌ {A = Option (List ℕ)} (Some l) (Some (b ++ r)) = q in cc) in
    p ∙ ap (λ (z : List ℕ). Some z) (ap (λ z. a ++ z) same ∙ sym (append_assoc a b r) ∙ ap (λ z. z ++ r) (sym e))

pub within_more : (text : List ℕ) (d c : ℕ) → d ≤ length text → c ≤ length (take (length text - d) (drop d text)) → d + c ≤ length text
within_more text d c h k =
    let rest : length (take (length text - d) (drop d text)) ≡ length text - d = ap length (take_rest text d) ∙ length-drop d text in
    omega (arith, h, k, rest)

-- a piece of at most the room that is left
pub piece_within : (before after piece : List ℕ) (bound : ℕ) → after ≡ before ++ piece → length piece ≤ bound + 1 - length before → length before ≤ bound → length after ≤ bound + 1
piece_within before after piece bound e k h = omega (arith, ap length e, length-append before piece, k, h)
