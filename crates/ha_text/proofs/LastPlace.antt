-- No LF stands behind the last one.
use Rattle.std.proofs.Common.{◌≡◌, ℕ, zero, suc, ◌+◌, ◌≤◌, ◌<◌, Bool, true, false, List, [], ◌∷◌, length, drop, get_or, refl, arith}
use Rattle.std.specs.Prelude.{◌==◌}
use Rattle.memchr.specs.Find.{is_byte, NoneAfter, Nowhere, Passes}
use Rattle.ha_text.specs.Lines.{is_open}

not_true : (b : Bool) → ¬ (b ≡ true) → b ≡ false
not_true true h = absurd (h refl)
not_true false h = refl

open_from : (hay : List ℕ) (at : ℕ) → ((k : ℕ) → at ≤ k → k < length hay → (get_or hay k 0 == 10) ≡ false) → is_open (drop at hay) ≡ true
open_from [] zero none = refl
open_from [] (suc at) none = refl
open_from (b ∷ hay) zero none =
    let here : (b == 10) ≡ false = none zero (omega arith) (omega arith) in
    rw here (open_from hay zero (λ k low high. none (suc k) (omega (arith, low)) (omega (arith, high))))
open_from (b ∷ hay) (suc at) none = open_from hay at (λ k low high. none (suc k) (omega (arith, low)) (omega (arith, high)))

pub none_open : (hay : List ℕ) → Nowhere (Passes (is_byte 10) hay) 0 (length hay) → is_open (drop 0 hay) ≡ true
none_open hay nowhere = open_from hay 0 (λ k low high. not_true (get_or hay k 0 == 10) (nowhere k low high))

pub behind_open : (hay : List ℕ) (k : ℕ) → NoneAfter (Passes (is_byte 10) hay) 0 (length hay) k → is_open (drop (k + 1) hay) ≡ true
behind_open hay k last = open_from hay (k + 1) (λ i low high. not_true (get_or hay i 0 == 10) (last.after i low high))
