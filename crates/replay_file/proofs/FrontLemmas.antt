-- What was read of a source, piece by piece.
use Rattle.std.proofs.Common.{◌≡◌, ◌≤◌, ◌<◌, ◌+◌, ℕ, List, [], ◌++◌, length, take, drop, ap, sym, subst, ◌∙◌, arith, length-append, append-nil}
use Rattle.std.specs.Prelude.{Option, None, Some}
use Rattle.std.proofs.lemmas.List.{length-drop, length-take-le, take-append-drop}
use Rattle.ha_io.specs.Told.{Gives}
use Rattle.ha_io.proofs.ToldLemmas.{Gives-Gives}
use Rattle.replay_file.specs.declared.front.FrontEnd.{FrontEnd}
use Rattle.replay_file.specs.Fronts.{IsRead, ReadsOn}

pub goes_on : (most : ℕ) (first before after : Option (List ℕ)) (text text' : List ℕ) → Gives first text before → ReadsOn most before text None after text' → Gives first text' after
goes_on most first before after text text' had r = subst (λ t. Gives first t after) (sym r.1) (Gives-Gives first before after text r.0 had r.4)

pub is_longer : (most : ℕ) (before after : Option (List ℕ)) (text text' : List ℕ) → ReadsOn most before text None after text' → length text < length text'
is_longer most before after text text' r = let whole = ap length r.1 in omega (arith, whole, length-append text r.0, r.2)

pub is_read : (bound most : ℕ) (first before after : Option (List ℕ)) (text text' : List ℕ) (end : FrontEnd) → Gives first text before → ReadsOn most before text (Some end) after text' → IsRead bound first text' end after
is_read bound most first before after text text' FrontEnd.Whole had r =
    (subst (λ t. Gives first t after) (append-nil text ∙ sym r.0) (Gives-Gives first before after text [] had r.1), r.2)
is_read bound most first before after text text' FrontEnd.Failed had r = subst (λ t. Gives first t after) (sym r.0) (subst (Gives first text) (sym r.1) had)
is_read bound most first before after text text' FrontEnd.TooLong had r = absurd r

-- nothing more came where reading ended
pub stays : (most : ℕ) (before after : Option (List ℕ)) (text text' : List ℕ) (end : FrontEnd) → ReadsOn most before text (Some end) after text' → text' ≡ text
stays most before after text text' FrontEnd.Whole r = r.0
stays most before after text text' FrontEnd.Failed r = r.0
stays most before after text text' FrontEnd.TooLong r = absurd r

-- the bytes within the bound, and one more
pub is_cut : (bound : ℕ) (first after : Option (List ℕ)) (text text' : List ℕ) → Gives first text after → bound < length text → length text ≤ bound + 1 → text' ≡ take bound text → IsRead bound first text' FrontEnd.TooLong after
is_cut bound first after text text' had over within e = (
  ap length e ∙ length-take-le bound text (omega (arith, over)),
  (
    drop bound text,
    length-drop bound text ∙ (omega (arith, over, within)),
    subst (λ t. Gives first t after) (sym ((λ k. e k ++ drop bound text) ∙ take-append-drop bound text)) had,
  ),
)
