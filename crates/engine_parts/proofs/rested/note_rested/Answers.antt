use Rattle.std.proofs.Common.{◌≡◌, ℕ, suc, List, [], ◌∷◌, length, Bool, true, false, refl, sym, ap, ◌∙◌, replicate}
use Rattle.std.specs.Prelude.{Option, ◌||◌, nat_eq, if◌then◌else◌}
use Rattle.std.specs.Option.{option_map_or}
use Rattle.ha_ready.specs.RestedFlags.{flags_from}
use Rattle.engine_parts.proofs.rested.note_rested.Goals as goal

or-true : (b : Bool) → (b || true) ≡ true
or-true true = refl
or-true false = refl

-- behind a quiet journal all are rested
quiet-flags : (source : Option ℕ) (n : ℕ) (fs : List Bool) → flags_from source true n fs ≡ replicate (length fs) true
quiet-flags source n [] = refl
quiet-flags source n (f ∷ fs) = (λ i. or-true (if option_map_or (λ s. nat_eq s n) source false then false else f) i ∷ quiet-flags source (suc n) fs i)

pub returns-then-quiet : goal.returns-then-quiet
returns-then-quiet c = c.set_all.ensures ∙ sym (quiet-flags c.args.source 0 c.args.flags.now) ∙ ap (λ b. flags_from c.args.source b 0 c.args.flags.now) (sym c.if-quiet.true)
