-- Calls in any order give the lines of the whole stream.
use Rattle.std.proofs.Common.{◌≡◌, ℕ, List, [], ◌∷◌, ◌++◌, sym, ap, ◌∙◌, append_assoc}
use Rattle.std.specs.List.{concat}
use Rattle.std.proofs.lemmas.List.{append-nil}
use Rattle.ha_text.specs.Lines.{lines_of}
use Rattle.ha_text.specs.Calls.{Gives, push, take, none, finish}

pub given : {old : List ℕ} {pieces lines : List (List ℕ)} → Gives old pieces lines → lines ≡ lines_of (old ++ concat pieces)
given (push {old = old} {piece = piece} {pieces = pieces} same more) = given more ∙ same (concat pieces) ∙ ap lines_of (append_assoc old piece (concat pieces))
given (take {line = line} {pieces = pieces} t more) = ap (λ (l : List (List ℕ)). line ∷ l) (given more) ∙ sym (t.first (concat pieces))
given (none {pieces = pieces} n more) = given more ∙ n.same (concat pieces)
given (finish {old = old} w e) = sym e ∙ ap lines_of (sym (append-nil old))

-- LAW: from nothing held on
pub any_pieces : (pieces lines : List (List ℕ)) → Gives [] pieces lines → lines ≡ lines_of (concat pieces)
any_pieces pieces lines g = given g
