-- A loop against a rule that counts its turns.
use Rattle.std.proofs.Common.{◌≡◌, ℕ, zero, suc, ◌<◌, List, length, sym, ◌∙◌, arith}

-- what was found, and the turns that are left, give the whole
pub record Continues {T S R : Type 0} (turns : ℕ → S → List T → R) (found : S) (rest : List T) (total : R) : Type 0 where
  pub count : ℕ
  pub enough : length rest < count
  pub reads : turns count found rest ≡ total

module _ {T S R : Type 0} (turns : ℕ → S → List T → R) (found : S) (rest : List T) (total : R) where
  pub begins : total ≡ turns (suc (length rest)) found rest → Continues turns found rest total
  begins e = record { count = suc (length rest); enough = omega arith; reads = sym e }

  module _ (so_far : Continues turns found rest total) where
    pub one_turn : (n : ℕ) × (length rest < suc n) × (turns (suc n) found rest ≡ total)
    one_turn =
        let go : (n : ℕ) → length rest < n → turns n found rest ≡ total → (n : ℕ) × (length rest < suc n) × (turns (suc n) found rest ≡ total) = λ n.
        elim n as (λ n. length rest < n → turns n found rest ≡ total → (n : ℕ) × (length rest < suc n) × (turns (suc n) found rest ≡ total)) [
          | zero ↦ λ lt _. absurd (omega arith)
          | suc n ↦ λ lt so. (n, lt, so)
        ] in
        go so_far.count so_far.enough so_far.reads

    -- this turn is the last
    pub ends : (answer : R) → ((n : ℕ) → turns (suc n) found rest ≡ answer) → total ≡ answer
    ends answer turn = sym one_turn.2 ∙ turn one_turn.0

    -- a turn more
    pub goes_on : (next : S) (after : List T) → ((n : ℕ) → turns (suc n) found rest ≡ turns n next after) → length after < length rest → Continues turns next after total
    goes_on next after turn less = record { count = one_turn.0; enough = omega (arith, one_turn.1); reads = sym (turn one_turn.0) ∙ one_turn.2 }
