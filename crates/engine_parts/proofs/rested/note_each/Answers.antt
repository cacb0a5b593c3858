use Rattle.std.proofs.Common.{◌≡◌, ℕ, zero, suc, ◌+◌, ◌<◌, List, [], ◌∷◌, ◌++◌, length, take, drop, Bool, false, sym, ◌∙◌, arith, slice_index_or, slice_set}
use Rattle.std.specs.Prelude.{Option}
use Rattle.ha_ready.specs.RestedFlags.{flag_after, flags_from}
use Rattle.engine_parts.proofs.rested.note_each.Goals as goal

-- one flag more is set
flag-set : (source : Option ℕ) (quiet : Bool) (n i : ℕ) (fs : List Bool) (v : Bool) → i < length fs
    → v ≡ flag_after source quiet (n + i) (slice_index_or (flags_from source quiet n (take i fs) ++ drop i fs) i false)
    → slice_set (flags_from source quiet n (take i fs) ++ drop i fs) i v ≡ flags_from source quiet n (take (suc i) fs) ++ drop (suc i) fs
flag-set source quiet n i [] v lt e = absurd (omega arith)
flag-set source quiet n zero (f ∷ fs) v lt e = (let at : n + 0 ≡ n = omega arith in λ q. (e ∙ (λ p. flag_after source quiet (at p) f)) q ∷ fs)
flag-set source quiet n (suc i) (f ∷ fs) v lt e =
    (let at : n + suc i ≡ suc n + i = omega arith in
    λ q. flag_after source quiet n f ∷ flag-set source quiet (suc n) i fs v (omega (arith, lt)) (e ∙ (λ p. flag_after source quiet (at p) (slice_index_or (flags_from source quiet (suc n) (take i fs) ++ drop i fs) i false))) q)

pub sources-preserved : goal.sources-preserved
sources-preserved c =
    let i : ℕ = c.sources.i in
    let old : List Bool = c.args.flags.now in
    let before : List Bool = flags_from c.args.source c.args.quiet 0 (take i old) ++ drop i old in
    let known : c.sources.flags ≡ before = c.sources.invariant in
    let next : i + 1 ≡ suc i = omega arith in
    let at : i ≡ 0 + i = omega arith in
    let value : c.flag_after.result ≡ flag_after c.args.source c.args.quiet (0 + i) (slice_index_or before i false)
    = c.flag_after.ensures ∙ (λ q. flag_after c.args.source c.args.quiet (at q) (slice_index_or (known q) i false)) in
    (λ q. slice_set (known q) i c.flag_after.result)
    ∙ flag-set c.args.source c.args.quiet 0 i old c.flag_after.result c.sources-test.true value
    ∙ (λ q. flags_from c.args.source c.args.quiet 0 (take (sym next q) old) ++ drop (sym next q) old)
