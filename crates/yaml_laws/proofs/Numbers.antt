-- The lines of a text are numbered from 1 on.
use Rattle.std.proofs.Common.{◌≡◌, ℕ, suc, ◌+◌, ◌≤◌, Bool, true, false, cond, List, [], ◌∷◌, ◌++◌, length, refl, arith}
use Rattle.std.specs.Prelude.{◌==◌}
use Rattle.yaml_scan.specs.declared.line.RawLine.{RawLine}
use Rattle.yaml_scan.specs.Lines.{last_line, lines_from, lines, without_mark}
use Rattle.yaml_laws.proofs.Walked.{AllIn}
use Rattle.yaml_laws.proofs.FollowedScalars.{AllLate, From}
use Rattle.yaml_laws.proofs.FollowedLines.{Rises}

-- the lines are numbered from this number on
abbrev pub Numbered : ℕ → List RawLine → Type 0
Numbered n [] = Unit {0}
Numbered n (l ∷ ls) = (l.line ≡ n) × Numbered (n + 1) ls

last_numbered : (n : ℕ) (raw : List ℕ) → Numbered n (last_line n raw)
last_numbered n [] = tt
last_numbered n (b ∷ raw) = (refl, tt)

from_numbered : (n : ℕ) (raw text : List ℕ) → Numbered n (lines_from n raw text)
unfolding lines_from
from_numbered n raw [] = last_numbered n raw
from_numbered n raw (b ∷ rest) = either (b == 10) _ _ (refl, from_numbered (n + 1) [] rest) (from_numbered n (raw ++ b ∷ []) rest)
  where
    either : (c : Bool) (x y : List RawLine) → Numbered n x → Numbered n y → Numbered n (cond c x y)
    either true x y p q = p
    either false x y p q = q

pub lines_numbered : (text : List ℕ) → Numbered 1 (lines text)
lines_numbered text = from_numbered 1 [] (without_mark text)

pub numbered_from : (m n : ℕ) (ls : List RawLine) → m ≤ n → Numbered n ls → From m ls
numbered_from m n [] le h = tt
numbered_from m n (l ∷ ls) le h = let e = h.0 in (omega (arith, le, e), numbered_from m (n + 1) ls (omega (arith, le)) h.1)

pub numbered_rises : (n : ℕ) (ls : List RawLine) → Numbered n ls → Rises ls
numbered_rises n [] h = tt
numbered_rises n (l ∷ ls) h = let e = h.0 in (numbered_from l.line (n + 1) ls (omega (arith, e)) h.1, numbered_rises (n + 1) ls h.1)

pub numbered_front : (n : ℕ) (p a : List RawLine) → Numbered n (p ++ a) → Numbered n p
numbered_front n [] a h = tt
numbered_front n (l ∷ p) a h = (h.0, numbered_front (n + 1) p a h.1)

pub numbered_behind : (n k : ℕ) (p a : List RawLine) → suc k ≤ n + length p → Numbered n (p ++ a) → AllLate k a
numbered_behind n k [] a le h = late n a le h
  where
    late : (n : ℕ) (ls : List RawLine) → suc k ≤ n + 0 → Numbered n ls → AllLate k ls
    late n [] le h = tt
    late n (l ∷ ls) le h = let e = h.0 in (omega (arith, le, e), late (n + 1) ls (omega (arith, le)) h.1)
numbered_behind n k (l ∷ p) a le h = numbered_behind (n + 1) k p a (omega (arith, le)) h.1

pub numbered_below : (n k : ℕ) (p : List RawLine) → n + length p ≤ suc k → Numbered n p → AllIn (λ m. m ≤ k) p
numbered_below n k [] le h = tt
numbered_below n k (l ∷ p) le h = let e = h.0 in (omega (arith, le, e), numbered_below (n + 1) k p (omega (arith, le)) h.1)
