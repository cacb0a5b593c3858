-- The parts of a span, added one after the other.
use Rattle.std.proofs.Common.{◌≡◌, ◌∙◌, ap, ℕ, zero, suc, ◌+◌, ◌*◌, refl, List, [], ◌∷◌, drop, sym, arith}
use Rattle.std.specs.Prelude.{Some, None, Ok, Err, ok_or, slice_get}
use Rattle.ha_config.specs.declared.template.Template.{Template}
use Rattle.ha_sight.specs.Sight.{Sight}
use Rattle.ha_config.specs.Words.{Pairs}
use Rattle.ha_sight.specs.Calls.{Checked, checked_map, checked_then, natural_of, no_duration, parts_of, text_for}
use Rattle.script_step.specs.declared.fault.FieldFault.{FieldFault}
use Rattle.script_step.specs.Fields.{IsCause}
use Rattle.script_step.proofs.KindLemmas.{drop-get}
use Rattle.script_step.proofs.TargetLemmas.{cause-then, cause-map, cause-is}

none-left : {X : Type 0} (xs : List X) (n : ℕ) → slice_get xs n ≡ None → drop n xs ≡ []
none-left [] zero e = refl
none-left [] (suc n) e = refl
none-left (x ∷ xs) zero e = absurd (cc)
none-left (x ∷ xs) (suc n) e = none-left xs n e

module _ (sight : Sight) (env : Pairs) where
  abbrev pub part : Template → Checked ℕ
  part t = checked_then (λ s. ok_or (natural_of s) no_duration) (text_for sight env t)

  -- the total so far, and the other parts, are all
  abbrev pub Totals : List ℕ → List Template → List ℕ → List Template → ℕ → Type 0
  Totals lengths ts lengths' rest n = parts_of sight env lengths ts ≡ checked_map (λ r. n + r) (parts_of sight env lengths' rest)

  from-none : (c : Checked ℕ) → c ≡ checked_map (λ r. 0 + r) c
  from-none (Ok n) = (let z : n ≡ 0 + n = omega arith in ap Ok z)
  from-none (Err code) = refl

  pub totals-first : (lengths : List ℕ) (ts : List Template) → Totals lengths ts lengths ts 0
  totals-first lengths ts = from-none (parts_of sight env lengths ts)

  module _ (lengths : List ℕ) (ts : List Template) (i n : ℕ) (known : Totals lengths ts (drop i lengths) (drop i ts) n) (t : Template) (is : drop i ts ≡ t ∷ drop (i + 1) ts) where
    abbrev after : ℕ → Checked ℕ → Checked ℕ
    after m first = checked_map (λ r. n + r) (checked_then (λ k. checked_map (λ r. m * k + r) (parts_of sight env (drop (i + 1) lengths) (drop (i + 1) ts))) first)

    next : (m : ℕ) → slice_get lengths i ≡ Some m → parts_of sight env lengths ts ≡ after m (part t)
    next m e = known ∙ (λ k. checked_map (λ r. n + r) (parts_of sight env (drop-get lengths i m e k) (is k)))

    summed : (m k : ℕ) (c : Checked ℕ) → checked_map (λ r. n + r) (checked_map (λ r. m * k + r) c) ≡ checked_map (λ r. (n + m * k) + r) c
    summed m k (Ok r) = (let z : n + (m * k + r) ≡ (n + m * k) + r = omega arith in ap Ok z)
    summed m k (Err code) = refl

    pub totals-more : (m k new : ℕ) → slice_get lengths i ≡ Some m → part t ≡ Ok k → new ≡ n + m * k → Totals lengths ts (drop (i + 1) lengths) (drop (i + 1) ts) new
    totals-more m k new e f made =
        next m e ∙ ap (after m) f ∙ summed m k (parts_of sight env (drop (i + 1) lengths) (drop (i + 1) ts))
        ∙ (λ j. checked_map (λ r. sym made j + r) (parts_of sight env (drop (i + 1) lengths) (drop (i + 1) ts)))

    pub totals-fault : (m : ℕ) (fault : FieldFault) → slice_get lengths i ≡ Some m → IsCause fault (part t) → IsCause fault (parts_of sight env lengths ts)
    totals-fault m fault e cause =
        cause-is fault (parts_of sight env lengths ts) (after m (part t)) (next m e)
        (cause-map fault (checked_then (λ k. checked_map (λ r. m * k + r) (parts_of sight env (drop (i + 1) lengths) (drop (i + 1) ts))) (part t)) (λ r. n + r)
        (cause-then fault (part t) (λ k. checked_map (λ r. m * k + r) (parts_of sight env (drop (i + 1) lengths) (drop (i + 1) ts))) cause))

    pub totals-over : slice_get lengths i ≡ None → parts_of sight env lengths ts ≡ Err 4
    totals-over e = known ∙ (λ k. checked_map (λ r. n + r) (parts_of sight env (none-left lengths i e k) (is k)))

  pub totals-all : (lengths rest : List ℕ) (ts : List Template) (n : ℕ) → Totals lengths ts rest [] n → parts_of sight env lengths ts ≡ Ok n
  totals-all lengths rest ts n known = (let z : n + 0 ≡ n = omega arith in known ∙ ap Ok z)
