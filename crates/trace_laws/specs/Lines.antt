-- A text cut at its line feeds.
use Rattle.std.specs.Prelude.{ℕ, ◌≡◌, Bool, true, not, nat_eq, List, ◌∷◌, ◌++◌}
use Rattle.std.specs.List.{list_all}

-- no byte is an LF
abbrev pub is_one_line : List ℕ → Bool
is_one_line text = list_all (λ c. not (nat_eq c 10)) text

-- the text is a line with its LF, and then what stands behind
pub record Cuts (text line behind : List ℕ) : Type 0 where
  pub text_is : text ≡ line ++ (10 ∷ behind)
  pub one_line : is_one_line line ≡ true
