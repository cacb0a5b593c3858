-- Keys that are read are in their grammar.
use Rattle.std.proofs.Common.{◌≡◌, ℕ, ◌+◌, ◌-◌, true, false, List, [], ◌∷◌, length, take, drop, Some, None, ap, subst, arith}
use Rattle.std.specs.Prelude.{◌==◌}
use Rattle.std.proofs.lemmas.Bool.{eqb-true}
use Rattle.yaml_scan.specs.Words.{is_empty, breaks, colon_at, trimmed}
use Rattle.yaml_scan.specs.Quoted.{State, opened, run}
use Rattle.yaml_tree.specs.declared.starts.Start.TheVariants as starts
use Rattle.yaml_tree.specs.Starts.{start, is_merge}
use Rattle.yaml_tree.specs.Leaves.{colon_behind}
use Rattle.yaml_tree.specs.Quotes.{IsInside}
use Rattle.yaml_tree.specs.Keys.{IsKey, plain, quoted}
use Rattle.yaml_tree.proofs.LinesFound.{and_true}
use Rattle.yaml_tree.proofs.BracketSteps.{quote_is}
use Rattle.yaml_tree.proofs.KeyTexts.{key_text_found}
use Rattle.yaml_tree.proofs.OneLine.{inside_found, inside_shorter}

pub plain_key_found : (column b : ℕ) (rest : List ℕ) (at : ℕ) → start b rest ≡ starts.Plain → colon_at false 0 (b ∷ rest) ≡ Some at → is_merge (trimmed (take at (b ∷ rest))) ≡ false → is_empty (trimmed (take at (b ∷ rest))) ≡ false
    → IsKey column (b ∷ rest) (trimmed (take at (b ∷ rest))) (column + at + 1) (drop (at + 1) (b ∷ rest))
plain_key_found column b rest at i c m some = plain i (key_text_found (b ∷ rest) at column c) m some

colon_is : (bytes : List ℕ) → colon_behind bytes ≡ true → (bytes ≡ 58 ∷ drop 1 bytes) × (breaks (drop 1 bytes) ≡ true)
colon_is [] e = absurd cc
colon_is (b ∷ bytes) e =
    let parts = and_true (b == 58) (breaks bytes) e in
    (ap (λ (x : ℕ). x ∷ bytes) (eqb-true b 58 parts.0), parts.1)

pub quoted_key_found : (n column b : ℕ) (rest : List ℕ) (s : State) (behind : List ℕ) → start b rest ≡ starts.InQuotes → run (opened b n) rest ≡ (s, Some behind) → s.bad ≡ None → colon_behind behind ≡ true → is_empty s.text ≡ false
    → IsKey column (b ∷ rest) s.text (column + (length (b ∷ rest) - length behind) + 1) (drop 1 behind)
quoted_key_found n column b rest s behind i r good c some =
    let is = colon_is behind c in
    let after : List ℕ = drop 1 behind in
    let two = quote_is b rest i in
    let inside = inside_found b two rest behind n s r good in
    let shorter = inside_shorter b two inside in
    let long : length behind ≡ length (58 ∷ after) = ap (λ (x : List ℕ). length x) is.0 in
    let same : column + (length (b ∷ rest) - length after) ≡ column + (length (b ∷ rest) - length behind) + 1 = omega (arith, shorter, long) in
    subst (λ (k : ℕ). IsKey column (b ∷ rest) s.text k after) same (quoted i (subst (λ (x : List ℕ). IsInside b 0 rest [] s.text x []) is.0 inside) is.1 some)
