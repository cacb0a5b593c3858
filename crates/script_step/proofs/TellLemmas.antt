-- What a step tells of all fronts behind it.
use Rattle.std.proofs.Common.{◌≡◌, ◌≢◌, ℕ, ◌⊎◌, inl, inr, Bool, true, false, List, [], ◌∷◌, refl, sym, ap, ◌∙◌}
use Rattle.std.specs.Prelude.{Option, Some, None, bytes_eq, option_map, option_and_then, if◌then◌else◌}
use Rattle.ha_config.specs.declared.config.Action.{Action}
use Rattle.ha_sight.specs.declared.steps.StepOut.{StepOut}
use Rattle.ha_sight.specs.Scripts.{Ask, Branch}
use Rattle.ha_config.proofs.EqualLemmas.{same-refl}
use Rattle.script_step.specs.declared.strand.Strand.{Strand}
use Rattle.script_step.specs.Continuation.{Began, asks, placed}
use Rattle.script_step.specs.Frames.{asked_by}
use Rattle.script_step.specs.Gates.{Fronts, Gate, fronts, gate_at, wait_of}
use Rattle.script_step.specs.Told.{AreTold, EachTold, IsTold, StandsIn, Tells}
use Rattle.script_step.proofs.BareLemmas.{asks-bare}
use Rattle.script_step.proofs.ToldLemmas.{wait-gate}
use Rattle.script_step.proofs.ListedLemmas.{StandsOf, found-front, front-found, fronts-ascend, same-true}

stands : (fs : Fronts) (c : Branch) (g : Gate) → StandsOf c g fs → StandsIn (c, g) fs
stands [] c g h = absurd h
stands (f ∷ fs) c g (inl e) = inl e
stands (f ∷ fs) c g (inr k) = inr (stands fs c g k)

decide : (b c : Branch) → (c ≡ b) ⊎ (c ≢ b)
decide b c = by (bytes_eq c b) refl
  where
    by : (t : Bool) → bytes_eq c b ≡ t → (c ≡ b) ⊎ (c ≢ b)
    by true e = inl (same-true c b e)
    by false e = inr (λ h. absurd (let z : bytes_eq c b ≡ true = ap (λ d. bytes_eq d b) h ∙ same-refl b in cc))

not-free-delay : (due : ℕ) → Gate.From due ≡ Gate.Free → ⊥
not-free-delay due e = cc

not-free-wait : (ask : Ask) (p : ℕ) → Gate.Behind ask p ≡ Gate.Free → ⊥
not-free-wait ask p e = cc

some-pair : (y z : Ask × ℕ) → Some y ≡ Some z → y ≡ z
some-pair y z e = cc

module _ (serial place now : ℕ) (b : Branch) (old : Fronts) (x : Strand) (list : List Action) (began : Began) (out : StepOut)
    (asked : out.wait ≡ option_map (asked_by serial b now) (asks x list b))
    (told : (c : Branch) (g : Gate) → gate_at c (fronts x list (placed b place began)) ≡ Some g → Tells b old c g) where
  abbrev new : Fronts
  new = fronts x list (placed b place began)

  abbrev here : ℕ
  here = placed b place began b

  here-is : here ≡ place
  here-is = (λ k. if same-refl b k then place else began b)

  -- the wait of the branch that stepped
  own-wait : (ask : Ask) (p : ℕ) → gate_at b new ≡ Some (Gate.Behind ask p) → (p ≡ place) × (out.wait ≡ Some (asked_by serial b now ask)) × (asks x list b ≡ Some ask)
  own-wait ask p e = by (asks x list b) refl (wait-gate b x list (placed b place began) ∙ ap (option_and_then wait_of) e)
    where
      by : (o : Option Ask) → asks x list b ≡ o → option_map {U = Ask × ℕ} (λ a. (a, here)) o ≡ Some (ask, p)
          → (p ≡ place) × (out.wait ≡ Some (asked_by serial b now ask)) × (asks x list b ≡ Some ask)
      by None q h = absurd (cc)
      by (Some a) q h =
          let pair : (Ask × ℕ) = (a, here) in
          let z : pair ≡ (ask, p) = some-pair pair (ask, p) h in (
            sym (ap (λ (y : Ask × ℕ). y.1) z) ∙ here-is,
            asked ∙ ap (option_map (asked_by serial b now)) q ∙ (λ k. Some (asked_by serial b now (z k).0)),
            q ∙ (λ k. Some (z k).0),
          )

  is-told : (c : Branch) (g : Gate) → gate_at c new ≡ Some g → IsTold serial place now b old new out (c, g)
  is-told c Gate.Free e = tt
  is-told c (Gate.From due) e = by (decide b c) (told c (Gate.From due) e)
    where
      by : (c ≡ b) ⊎ (c ≢ b) → Tells b old c (Gate.From due) → IsTold serial place now b old new out (c, Gate.From due)
      by (inl own) t = inr (own, (λ k. gate_at (sym own k) new) ∙ e)
      by (inr off) (inl free) = absurd (not-free-delay due free)
      by (inr off) (inr (inl own)) = absurd (off own)
      by (inr off) (inr (inr stood)) = inl (off, stands old c (Gate.From due) (found-front old c (Gate.From due) stood))
  is-told c (Gate.Behind ask p) e = by (decide b c) (told c (Gate.Behind ask p) e)
    where
      by : (c ≡ b) ⊎ (c ≢ b) → Tells b old c (Gate.Behind ask p) → IsTold serial place now b old new out (c, Gate.Behind ask p)
      by (inl own) t =
          let w = own-wait ask p ((λ k. gate_at (sym own k) new) ∙ e) in
          inr (own, w.0, asked_by serial b now ask, w.1, refl, refl, record { test = refl; triggers = refl; env = refl; due = refl; bare = asks-bare b x list ask w.2 })
      by (inr off) (inl free) = absurd (not-free-wait ask p free)
      by (inr off) (inr (inl own)) = absurd (off own)
      by (inr off) (inr (inr stood)) = inl (off, stands old c (Gate.Behind ask p) (found-front old c (Gate.Behind ask p) stood))

  each-told : (fs : Fronts) → ((c : Branch) (g : Gate) → StandsOf c g fs → gate_at c new ≡ Some g) → EachTold serial place now b old new out fs
  each-told [] known = tt
  each-told (f ∷ fs) known = (is-told f.0 f.1 (known f.0 f.1 (inl refl)), each-told fs (λ c g h. known c g (inr h)))

  pub are-told : AreTold serial place now b old new out
  are-told = each-told new (λ c g h. front-found new c g (fronts-ascend x list (placed b place began)) h)
