-- Lines with one behind them that closes a quote, and what is found in orderly lines.
use Rattle.std.proofs.Common.{ℕ, suc, ◌+◌, ◌≤◌, false, List, [], ◌∷◌, ◌++◌, length, arith}
use Rattle.yaml_scan.specs.declared.line.RawLine.{RawLine}
use Rattle.yaml_scan.specs.Lines.{without_start}
use Rattle.yaml_tree.specs.declared.piece.Piece.{Piece}
use Rattle.yaml_laws.proofs.Closing.{IsClosing}
use Rattle.yaml_laws.proofs.Followed.{Alike, none, alike_itself}
use Rattle.yaml_laws.proofs.FollowedLines.{start_in}
use Rattle.yaml_laws.proofs.Walked.{AllIn}
use Rattle.yaml_laws.proofs.Whole.{read_lines}
use Rattle.yaml_rules.specs.LooseText.{AreOrderly}
use Rattle.yaml_rules.proofs.LooseLines.{start_orderly, Whole, pieces_whole}
use Rattle.yaml_rules.proofs.Spelled.{Ascends, ascends_start}
use Rattle.yaml_codes.proofs.FirstPieces.{alike_between}

pub alike_back : {ps qs : List Piece} → Alike ps qs → Alike qs ps
alike_back {ps = ps} a = alike_between a (alike_itself ps)

pub alike_then : {ps qs rs : List Piece} → Alike ps qs → Alike qs rs → Alike ps rs
alike_then a b = alike_between (alike_back a) b

pub whole_of : (k : ℕ) (ls : List RawLine) → AreOrderly false ls → Ascends 1 ls → AllIn (λ m. m ≤ k) ls → Whole k [] (without_start ls) (read_lines ls)
whole_of k ls o up on =
    let s = start_orderly ls false o in
    pieces_whole k (suc (length (without_start ls))) [] [] s.0 (without_start ls) 1 (omega arith) (λ h. absurd cc) s.1 none tt (start_in (Ascends 1) ascends_start ls up) (start_in (AllIn (λ m. m ≤ k)) (λ l rest i. i.1) ls on)

module _ (k : ℕ) (x : RawLine) (c : IsClosing k x) where
  pub early_closed : (ls : List RawLine) → AllIn (λ m. m ≤ k) ls → AllIn (λ m. m ≤ suc k) (ls ++ x ∷ [])
  early_closed [] h = (let q = c.0 in omega (arith, q), tt)
  early_closed (l ∷ ls) h = (let le = h.0 in omega (arith, le), early_closed ls h.1)

  pub ascends_closed : (ls : List RawLine) (m : ℕ) → m ≤ suc k → Ascends m ls → AllIn (λ j. j ≤ k) ls → Ascends m (ls ++ x ∷ [])
  ascends_closed [] m le h o = (let q = c.0 in omega (arith, q, le), tt)
  ascends_closed (l ∷ ls) m le h o = (h.0, ascends_closed ls (l.line + 1) (let j = o.0 in omega (arith, j)) h.1 o.1)
