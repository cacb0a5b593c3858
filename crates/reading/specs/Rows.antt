-- Items one after the other. A number bounds the turns: where each turn takes a token, one more than the count of the tokens
-- is never used up.
use Rattle.std.specs.Prelude.{ℕ, zero, suc, Bool, if◌then◌else◌, List, [], ◌∷◌, ◌++◌, length, drop, Ok, Err, codes}
use Rattle.reading.specs.declared.fault.Bad.{Bad}
use Rattle.reading.specs.Answer.{◌>>=◌, Rule, stop}
use Rattle.reading.specs.Bytes.{sees, skip, expect}

-- As long as `on` answers true, an item more behind those that were found. `over` is the fault where the turns are used up.
unfoldable pub repeat : {T F A : Type 0} → F → (List A → Rule T F Bool) → (List A → Rule T F A) → ℕ → List A → Rule T F (List A)
repeat over on item zero found rest = Err over
repeat over on item (suc n) found rest = do
  go ← on found rest
  if go.0 then (do
    x ← item found go.1
    repeat over on item n (found ++ x.0 ∷ []) x.1) else Ok (found, go.1)

-- what follows an item of a list in brackets: the end's byte, or a comma and more; blanks may stand between them
abbrev pub after_item : {C A : Type 0} → C → ℕ → A → Rule ℕ (Bad C) A → Rule ℕ (Bad C) A
after_item code end found more rest =
    if sees end (skip rest) then Ok (found, drop 1 (skip rest)) else (do
      comma ← expect code (codes ",") (skip rest)
      more (skip comma.1))

-- Items up to the end's byte, at least one, behind those that were found.
unfoldable pub row : {C A : Type 0} → C → ℕ → (List A → Rule ℕ (Bad C) A) → ℕ → List A → Rule ℕ (Bad C) (List A)
row code end item zero found rest = stop code rest
row code end item (suc n) found rest = do
  x ← item found rest
  after_item code end (found ++ x.0 ∷ []) (row code end item n (found ++ x.0 ∷ [])) x.1

-- items between brackets, behind the opening one
unfoldable pub closed_by : {C A : Type 0} → C → ℕ → (List A → Rule ℕ (Bad C) A) → Rule ℕ (Bad C) (List A)
closed_by code end item rest =
    if sees end (skip rest) then Ok ([], drop 1 (skip rest)) else row code end item (suc (length (skip rest))) [] (skip rest)
