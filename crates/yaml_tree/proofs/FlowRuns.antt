-- Steps of flow, one after the other, as a loop takes them.
use Rattle.std.proofs.Common.{◌≡◌, ℕ, zero, suc, ◌<◌, List, [], ◌∷◌, length, Result, Ok, Err, refl, sym, ap, ◌∙◌, arith}
use Rattle.yaml_scan.specs.declared.fault.Code.{Code}
use Rattle.yaml_scan.specs.declared.fault.Code.TheVariants.{LeftOut}
use Rattle.yaml_tree.specs.Flow.{Machine, Ended, Step, on, ended, fails, step_by, step, ran, run}

-- what is left to read makes up the whole
pub record Continues (m : Machine) (total : Result Ended Code) : Type 0 where
  pub turns : ℕ
  pub enough : length m.rest < turns
  pub reads : run turns m ≡ total

pub begins : (m : Machine) → Continues m (run (suc (length m.rest)) m)
begins m = record { turns = suc (length m.rest); enough = omega arith; reads = refl }

taken : (n : ℕ) (m : Machine) (s : Step) (total : Result Ended Code) → length m.rest < n → step m ≡ s → run n m ≡ total → (k : ℕ) × (n ≡ suc k) × (ran s (run k) ≡ total)
unfolding run
taken zero m s total lt e so = absurd (omega arith)
taken (suc k) m s total lt e so = (k, refl, ap (λ (x : Step). ran x (run k)) (sym e) ∙ so)

pub goes_on : (m m' : Machine) (total : Result Ended Code) → Continues m total → step m ≡ on m' → length m'.rest < length m.rest → Continues m' total
goes_on m m' total c e shorter =
    let t = taken c.turns m (on m') total c.enough e c.reads in
    let same : c.turns ≡ suc t.0 = t.1 in
    record { turns = t.0; enough = omega (arith, c.enough, same); reads = t.2 }

pub stops : (m : Machine) (x : Ended) (total : Result Ended Code) → Continues m total → step m ≡ ended x → total ≡ Ok x
stops m x total c e = sym (taken c.turns m (ended x) total c.enough e c.reads).2

pub fails_so : (m : Machine) (code : Code) (total : Result Ended Code) → Continues m total → step m ≡ fails code → total ≡ Err code
fails_so m code total c e = sym (taken c.turns m (fails code) total c.enough e c.reads).2

none_left : (m : Machine) (bytes : List ℕ) → length bytes ≡ 0 → step_by m bytes ≡ fails LeftOut
none_left m [] e = refl
none_left m (b ∷ bytes) e = absurd (omega (arith, e))

pub nothing : (m : Machine) (total : Result Ended Code) → Continues m total → length m.rest ≡ 0 → total ≡ Err LeftOut
nothing m total c e = fails_so m LeftOut total c (none_left m m.rest e)
