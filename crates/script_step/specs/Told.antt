-- What a step tells of the gates behind it.
use Rattle.std.specs.Prelude.{◌≡◌, ◌≢◌, ℕ, ◌+◌, ◌⊎◌, true, [], ◌∷◌, None, Some, option_map}
use Rattle.ha_sight.specs.declared.waiting.WaitAsk.{WaitAsk}
use Rattle.ha_sight.specs.declared.steps.StepOut.{StepOut}
use Rattle.ha_sight.specs.Scripts.{Ask, Branch}
use Rattle.script_step.specs.Gates.{Fronts, Gate, gate_at}

-- a gate of a branch is free, or is that of the branch that stepped, or stood there before
abbrev pub Tells : Branch → Fronts → Branch → Gate → Type 0
Tells path old c g = (g ≡ Gate.Free) ⊎ ((c ≡ path) ⊎ (gate_at c old ≡ Some g))

-- a front is one of these
abbrev pub StandsIn : Branch × Gate → Fronts → Type 0
StandsIn x [] = ⊥
StandsIn x (y ∷ ys) = (y ≡ x) ⊎ StandsIn x ys

-- a front of another branch, which stood there before
abbrev pub Stays : Branch → Fronts → Branch × Gate → Type 0
Stays b old x = (x.0 ≢ b) × StandsIn x old

-- it asks for nothing that an entry could bring
pub record IsBare (ask : Ask) : Type 0 where
  pub test : ask.test ≡ None
  pub triggers : ask.triggers ≡ []
  pub timeout : ask.timeout ≡ None

-- a wait that begins where it is this moment asks this; where it is for a run that was called it asks nothing else
pub record IsAsk (now : ℕ) (ask : Ask) (w : WaitAsk) : Type 0 where
  pub test : w.test ≡ ask.test
  pub triggers : w.triggers ≡ ask.triggers
  pub env : w.env ≡ ask.env
  pub due : w.due ≡ option_map (λ d. now + d) ask.timeout
  pub bare : ask.called ≡ true → IsBare ask

-- a front whose gate is shut is an old one of another branch, or that of the branch that stepped, and the step told of it
abbrev pub IsTold : ℕ → ℕ → ℕ → Branch → Fronts → Fronts → StepOut → Branch × Gate → Type 0
IsTold serial place now b old new out (c, Gate.Free) = Unit {0}
IsTold serial place now b old new out (c, Gate.From due) =
    (Stays b old (c, Gate.From due)) ⊎ ((c ≡ b) × (gate_at b new ≡ Some (Gate.From due)))
IsTold serial place now b old new out (c, Gate.Behind ask p) =
    (Stays b old (c, Gate.Behind ask p))
    ⊎ ((c ≡ b) × (p ≡ place) × (w : WaitAsk) × (out.wait ≡ Some w) × (w.serial ≡ serial) × (w.branch ≡ b) × IsAsk now ask w)

abbrev pub EachTold : ℕ → ℕ → ℕ → Branch → Fronts → Fronts → StepOut → Fronts → Type 0
EachTold serial place now b old new out [] = Unit {0}
EachTold serial place now b old new out (x ∷ xs) = IsTold serial place now b old new out x × EachTold serial place now b old new out xs

-- all new fronts are told of
abbrev pub AreTold : ℕ → ℕ → ℕ → Branch → Fronts → Fronts → StepOut → Type 0
AreTold serial place now b old new out = EachTold serial place now b old new out new
