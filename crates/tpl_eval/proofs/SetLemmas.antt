-- How names are seen where one is set.
use Rattle.std.proofs.Common.{◌≡◌, ◌∙◌, ap, ℕ, zero, suc, Bool, true, false, refl, [], ◌∷◌, ◌++◌, get_or, sym, append_assoc}
use Rattle.std.specs.Prelude.{Option, Some, None, position}
use Rattle.std.specs.List.{remove}
use Rattle.std.proofs.lemmas.List.Quantifiers.{position-Some}
use Rattle.ha_value.specs.declared.value.Value.{Value}
use Rattle.ha_config.specs.Words.{Text, Pairs, same, last_pair}
use Rattle.ha_config.proofs.NameLemmas.{last-first, last-second}
use Rattle.ha_config.proofs.EqualLemmas.{same-sound}
use Rattle.tpl_eval.specs.Pieces.{Alike}

-- the same in front of alike environments, and behind them
front-alike : (zs xs ys : Pairs) → Alike xs ys → Alike (zs ++ xs) (zs ++ ys)
front-alike [] xs ys h n = h n
front-alike (z ∷ zs) xs ys h n = rw (front-alike zs xs ys h n) refl

back-alike : (xs ys zs : Pairs) → Alike xs ys → Alike (xs ++ zs) (ys ++ zs)
back-alike xs ys zs h n = by (last_pair n zs) refl
  where
    by : (o : Option Value) → last_pair n zs ≡ o → last_pair n (xs ++ zs) ≡ last_pair n (ys ++ zs)
    by None e = last-first n xs zs e ∙ h n ∙ sym (last-first n ys zs e)
    by (Some v) e = last-second n xs zs v e ∙ sym (last-second n ys zs v e)

-- a name is set behind the variables of the run
pub alike-set : (env old new whole : Pairs) (p : Text × Value) → Alike whole (env ++ old) → Alike new (old ++ (p ∷ [])) → Alike (whole ++ (p ∷ [])) (env ++ new)
alike-set env old new whole p alike set n =
    back-alike whole (env ++ old) (p ∷ []) alike n
    ∙ ap (last_pair n) (append_assoc env old (p ∷ []))
    ∙ front-alike env (old ++ (p ∷ [])) new (λ m. sym (set m)) n

module _ (n : Text) where
  -- a pair of another name is not seen
  passed : (p : Text × Value) (ps : Pairs) → same p.0 n ≡ false → last_pair n ps ≡ last_pair n (p ∷ ps)
  passed p ps h = by (last_pair n ps) refl
    where
      alone : last_pair n (p ∷ []) ≡ None
      alone = rw h refl

      by : (o : Option Value) → last_pair n ps ≡ o → last_pair n ps ≡ last_pair n (p ∷ ps)
      by None e = e ∙ sym (last-first n (p ∷ []) ps e ∙ alone)
      by (Some v) e = e ∙ sym (last-second n (p ∷ []) ps v e)

  without : (ps : Pairs) (at : ℕ) (d : Text × Value) → same (get_or ps at d).0 n ≡ false → last_pair n (remove ps at) ≡ last_pair n ps
  without [] zero d h = refl
  without [] (suc at) d h = refl
  without (p ∷ ps) zero d h = passed p ps h
  without (p ∷ ps) (suc at) d h = rw (without ps at d h) refl

-- the pair of a name that is set again goes
pub taken-out : (old new : Pairs) (at : ℕ) (name : Text) (v : Value) → position (λ (p : Text × Value). same p.0 name) old ≡ Some at → new ≡ remove old at
    → Alike (new ++ ((name, v) ∷ [])) (old ++ ((name, v) ∷ []))
taken-out old new at name v found is n = ap (λ (l : Pairs). last_pair n (l ++ ((name, v) ∷ []))) is ∙ by (same name n) refl
  where
    here : same (get_or old at (name, v)).0 name ≡ true
    here = (position-Some (λ (p : Text × Value). same p.0 name) old at (name, v) found).1

    by : (b : Bool) → same name n ≡ b → last_pair n (remove old at ++ ((name, v) ∷ [])) ≡ last_pair n (old ++ ((name, v) ∷ []))
    by true e =
        let last : last_pair n ((name, v) ∷ []) ≡ Some v = rw e refl in
        last-second n (remove old at) ((name, v) ∷ []) v last ∙ sym (last-second n old ((name, v) ∷ []) v last)
    by false e =
        let last : last_pair n ((name, v) ∷ []) ≡ None = rw e refl in
        let other : same (get_or old at (name, v)).0 n ≡ false = ap (λ (t : Text). same t n) (same-sound (get_or old at (name, v)).0 name here) ∙ e in
        last-first n (remove old at) ((name, v) ∷ []) last ∙ without n old at (name, v) other ∙ sym (last-first n old ((name, v) ∷ []) last)
