-- The flag of a source, as the list of all has it.
use Rattle.std.proofs.Common.{◌≡◌, ℕ, zero, suc, ◌<◌, ◌≤◌, List, [], ◌∷◌, length, Bool, true, false, sym, ap, ◌∙◌, arith}
use Rattle.std.specs.Prelude.{slice_get, unwrap_or, Option, Some, None}
use Rattle.ha_journal.specs.Journal.{Journal}
use Rattle.ha_model.specs.Lawful.{is_rested}
use Rattle.ha_model.specs.Records.{Records}
use Rattle.ha_ready.specs.RestedFlags.{RestedKept}

some-before : (fs : List Bool) (k : ℕ) (f : Bool) → slice_get fs k ≡ Some f → k < length fs
some-before [] k f e = absurd (let bad : ◌≡◌ {A = Option Bool} None (Some f) = e in cc)
some-before (x ∷ fs) zero f e = omega arith
some-before (x ∷ fs) (suc k) f e = omega (arith, some-before fs k f e)

none-behind : (fs : List Bool) (k : ℕ) → slice_get fs k ≡ None → length fs ≤ k
none-behind [] k e = omega arith
none-behind (x ∷ fs) zero e = absurd (let bad : ◌≡◌ {A = Option Bool} (Some x) None = e in cc)
none-behind (x ∷ fs) (suc k) e = omega (arith, none-behind fs k e)

module _ (j : Journal) (rs : Records) (fs : List Bool) (h : RestedKept j rs fs) (k : ℕ) where
  -- LAW: a flag says whether its source is rested
  pub flag-is : (f : Bool) → slice_get fs k ≡ Some f → f ≡ is_rested rs k j
  flag-is f e = ap (λ (o : Option Bool). unwrap_or o false) (sym e ∙ h.known k (omega (arith, some-before fs k f e, h.count)))

  -- LAW: a source that has none is rested
  pub no-flag : slice_get fs k ≡ None → true ≡ is_rested rs k j
  no-flag e = sym (h.others k (omega (arith, none-behind fs k e, h.count)))
