-- Reading items one after the other, as a loop does.
use Rattle.std.proofs.Common.{◌≡◌, ℕ, zero, suc, ◌<◌, Bool, true, false, List, [], ◌∷◌, ◌++◌, length, Result, Ok, Err, Option, refl, sym, ◌∙◌, arith}
use Rattle.yaml_scan.specs.declared.fault.Fault.{Fault}
use Rattle.yaml_tree.specs.declared.piece.Piece.{Piece}
use Rattle.yaml_scan.specs.declared.fault.YamlFault.{YamlFault}
use Rattle.yaml_scan.specs.declared.fault.YamlFault.TheVariants as faults
use Rattle.yaml_tree.specs.Layout.{◌>>=◌, Answer, Rule, stop, Gives, IsTurn, front, row, rows}

-- what is left to read, behind what was found, makes up the whole
pub record Continues {A : Type 0} (on : Option Piece → Result Bool Fault) (item : List A → Rule A) (found : List A) (rest : List Piece) (total : Answer (List A)) : Type 0 where
  pub turns : ℕ
  pub enough : length rest < turns
  pub reads : row on item turns found rest ≡ total

module _ {A : Type 0} (on : Option Piece → Result Bool Fault) (item : List A → Rule A) where
  pub begins : (ps : List Piece) → Continues on item [] ps (rows on item ps)
  unfolding rows
  begins ps = record { turns = suc (length ps); enough = omega arith; reads = refl }

  module _ (found : List A) (rest : List Piece) (total : Answer (List A)) (so_far : Continues on item found rest total) where
    -- the block ends
    pub ends : on (front rest) ≡ Ok false → total ≡ Ok (found, rest)
    unfolding row
    ends stops_here =
        let go : (n : ℕ) → length rest < n → row on item n found rest ≡ total → total ≡ Ok (found, rest) = λ n.
        elim n as (λ n. length rest < n → row on item n found rest ≡ total → total ≡ Ok (found, rest)) [
          | zero ↦ λ lt _. absurd (omega arith)
          | suc n ↦ λ lt so. sym so ∙ rw stops_here refl
        ] in
        go so_far.turns so_far.enough so_far.reads

    -- a piece that fits nothing
    pub misplaced : (e : YamlFault) (new : List Piece) → IsTurn (on (front rest)) (Err e) → Gives {A = List A} total (Err e) new
    unfolding row
    misplaced faults.Memory new t = tt
    misplaced (faults.Bad line code) new t =
        let go : (n : ℕ) → length rest < n → row on item n found rest ≡ total → total ≡ stop line code = λ n.
        elim n as (λ n. length rest < n → row on item n found rest ≡ total → total ≡ stop line code) [
          | zero ↦ λ lt _. absurd (omega arith)
          | suc n ↦ λ lt so. sym so ∙ rw t refl
        ] in
        go so_far.turns so_far.enough so_far.reads

    module _ (turned : on (front rest) ≡ Ok true) where
      one : (turns : ℕ) × (length rest < suc turns) × ((item found rest >>= λ x. row on item turns (found ++ x.0 ∷ []) x.1) ≡ total)
      unfolding row
      one =
          let go : (n : ℕ) → length rest < n → row on item n found rest ≡ total → (turns : ℕ) × (length rest < suc turns) × ((item found rest >>= λ x. row on item turns (found ++ x.0 ∷ []) x.1) ≡ total) = λ n.
          elim n as (λ n. length rest < n → row on item n found rest ≡ total → (turns : ℕ) × (length rest < suc turns) × ((item found rest >>= λ x. row on item turns (found ++ x.0 ∷ []) x.1) ≡ total)) [
            | zero ↦ λ lt _. absurd (omega arith)
            | suc n ↦ λ lt so. (n, lt, sym (rw turned refl) ∙ so)
          ] in
          go so_far.turns so_far.enough so_far.reads

      -- an item has a fault
      pub item_fails : (e : YamlFault) (new : List Piece) → Gives (item found rest) (Err e) new → Gives {A = List A} total (Err e) new
      item_fails faults.Memory new g = tt
      item_fails (faults.Bad line code) new g = sym one.2 ∙ rw g refl

      -- one more item
      pub goes_on : (all : List A) (x : A) (after : List Piece) → item found rest ≡ Ok (x, after) → all ≡ found ++ x ∷ [] → length after < length rest → Continues on item all after total
      goes_on all x after g e shorter = rw e (record { turns = one.0; enough = omega (arith, one.1); reads = sym (rw g refl) ∙ one.2 })
