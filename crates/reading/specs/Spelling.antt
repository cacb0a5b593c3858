-- Grammars as relations: a text is a spelling of a value, and then the rest of the text follows.
use Rattle.std.specs.Prelude.{◌≡◌, ℕ, List, [], ◌∷◌, ◌++◌}
use Rattle.reading.specs.Bytes.{skip}

-- `P text x rest`: the text is a spelling of x, and then the rest
abbrev pub Spelling : Type 0 → Type 0 → Type 1
Spelling T A = List T → A → List T → Type 0

pub data Never {T A : Type 0} : List T → A → List T → Type 0 where

-- Items with commas between them and the end's byte behind them, at least one: with those found before, they are all.
pub data IsRow {A : Type 0} (end : ℕ) (Item : List A → List ℕ → A → List ℕ → Type 0) : List A → List ℕ → List A → List ℕ → Type 0 where
  last : {found : List A} {x : A} {text after rest : List ℕ}
      → Item found text x after → skip after ≡ end ∷ rest → IsRow end Item found text (found ++ x ∷ []) rest
  more : {found all : List A} {x : A} {text after behind rest : List ℕ}
      → Item found text x after → skip after ≡ 44 ∷ behind → IsRow end Item (found ++ x ∷ []) (skip behind) all rest
      → IsRow end Item found text all rest

-- items between brackets, behind the opening one
pub data IsClosed {A : Type 0} (end : ℕ) (Item : List A → List ℕ → A → List ℕ → Type 0) : List ℕ → List A → List ℕ → Type 0 where
  empty : {text rest : List ℕ} → skip text ≡ end ∷ rest → IsClosed end Item text [] rest
  items : {text rest : List ℕ} {all : List A} → IsRow end Item [] (skip text) all rest → IsClosed end Item text all rest
