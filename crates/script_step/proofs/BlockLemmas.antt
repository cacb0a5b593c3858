-- What the open blocks go on with, at each kind of place.
use Rattle.std.proofs.Common.{◌≡◌, ℕ, zero, suc, List, [], ◌∷◌, ◌++◌, refl, ap, ◌∙◌, true, false}
use Rattle.std.specs.Prelude.{Option, Some, None, bytes_eq}
use Rattle.ha_config.specs.declared.config.Action.{Action}
use Rattle.ha_sight.specs.declared.item.Item.{Item}
use Rattle.ha_config.specs.Words.{Pairs}
use Rattle.ha_sight.specs.Scripts.{Branch, Spot, Scopes, Status, Loop, exec, ends, gives, outer, turns, run_action}
use Rattle.ha_config.proofs.EqualLemmas.{same-refl}
use Rattle.script_step.specs.Blocks.{Round, Block, goes_on}

pub outer-snoc : (scopes : Scopes) (block : Pairs) → outer (scopes ++ (block ∷ [])) ≡ scopes
outer-snoc [] block = refl
outer-snoc (x ∷ []) block = refl
outer-snoc (x ∷ y ∷ scopes) block = ap (λ l. x ∷ l) (outer-snoc (y ∷ scopes) block)

module _ (b : Branch) where
  -- a block of which nothing is left gives way to the next one
  pub leave-block : (xs : List Block) (scopes : Scopes) (ps : List Spot)
      → goes_on b (record { left = []; round = None } ∷ xs) scopes ps ≡ goes_on b xs (outer scopes) ps
  leave-block xs scopes ps = refl

  -- the next action, by what follows it in its list and what follows its list
  pub at-action : (a : Action) (left : List Action) (round : Option Round) (xs : List Block) (scopes : Scopes) (ps : List Spot)
      → goes_on b (record { left = a ∷ left; round = round } ∷ xs) scopes ps
      ≡ run_action a (goes_on b (record { left = left; round = round } ∷ xs)) (goes_on b (record { left = []; round = round } ∷ xs)) scopes b ps
  at-action a left round xs scopes ps = refl

  -- the turns of a loop are a block that is a turn
  pub turns-block : (loop : Loop) (body : List Action) (xs : List Block) (more i : ℕ) (scopes : Scopes) (ps : List Spot)
      → turns (exec body) loop b (goes_on b xs) more i scopes ps
      ≡ goes_on b (record { left = body; round = Some (record { loop = loop; body = body; index = i; more = more }) } ∷ xs) (scopes ++ (loop.variables i ∷ [])) ps
  unfolding turns
  turns-block loop body xs zero i scopes ps = refl
  turns-block loop body xs (suc more) i scopes ps = refl

  module _ (r : Round) (xs : List Block) (s : Spot) (scopes : Scopes) (rest : List Spot) (here : s.branch ≡ b) where
    -- the place behind a turn that enters the next one
    pub next-turn : (more : ℕ) → r.more ≡ suc more → r.loop.enters (suc r.index) (outer scopes) s.sight ≡ true
        → goes_on b (record { left = []; round = Some r } ∷ xs) scopes (s ∷ rest)
        ≡ gives Item.Nothing (goes_on b (record { left = r.body; round = Some (record { loop = r.loop; body = r.body; index = suc r.index; more = more }) } ∷ xs) (outer scopes ++ (r.loop.variables (suc r.index) ∷ [])) rest)
    next-turn more m h = (let own = ap (λ c. bytes_eq c b) here ∙ same-refl b in rw (own, h, m) (ap (gives Item.Nothing) (turns-block r.loop r.body xs more (suc r.index) (outer scopes) rest)))

    -- the place behind the last turn
    pub last-turn : r.loop.enters (suc r.index) (outer scopes) s.sight ≡ false
        → goes_on b (record { left = []; round = Some r } ∷ xs) scopes (s ∷ rest) ≡ gives Item.Nothing (goes_on b xs (outer scopes) rest)
    last-turn h = (let own = ap (λ c. bytes_eq c b) here ∙ same-refl b in rw (own, h))

    -- the place behind the last turn that a loop may take, which would go on
    pub too-many : r.more ≡ 0 → r.loop.enters (suc r.index) (outer scopes) s.sight ≡ true
        → goes_on b (record { left = []; round = Some r } ∷ xs) scopes (s ∷ rest) ≡ gives (Item.Failed 6) (ends Status.Faulted rest)
    too-many m h = (let own = ap (λ c. bytes_eq c b) here ∙ same-refl b in rw (own, h, m))
