-- What the grammar says of words that are written out.
use Rattle.std.proofs.Common.{◌≡◌, refl, codes, [], ◌∷◌, Some, None}
use Rattle.clap.proofs.OnLiterals.{clap_on_literals}
use Rattle.ha_clock.proofs.OnLiterals.{ha_clock_on_literals}
use Rattle.ha_words.specs.declared.plan.Plan.TheVariants.{Run, Check, Replay, Rehearse}
use Rattle.ha_words.specs.Counts.{count_of}
use Rattle.ha_words.specs.Grammar.{one_word_app, run_app, takes_words}
use Rattle.ha_words.specs.Texts.{texts_of}
use Rattle.ha_words.specs.PlanOf.{one_word, plan_of}

reads : texts_of (codes "a" ∷ codes "--config" ∷ codes "f" ∷ codes "--start=m" ∷ [])
    ≡ Some (record { config = codes "f"; start = codes "m"; zone = None; trace = None; sources = codes "a" ∷ [] })
unfolding clap_on_literals run_app takes_words texts_of
reads = refl

-- an empty value is a value
empty : texts_of (codes "--config=" ∷ codes "--start" ∷ [] ∷ codes "--zone" ∷ codes "z" ∷ codes "--" ∷ codes "s" ∷ [])
    ≡ Some (record { config = []; start = []; zone = Some (codes "z"); trace = None; sources = codes "s" ∷ [] })
unfolding clap_on_literals run_app takes_words texts_of
empty = refl

no_words : texts_of [] ≡ None
unfolding clap_on_literals run_app takes_words texts_of
no_words = refl

two_sources : texts_of (codes "--config" ∷ codes "f" ∷ codes "--start" ∷ codes "m" ∷ codes "a" ∷ codes "--trace" ∷ codes "t" ∷ codes "b" ∷ [])
    ≡ Some (record { config = codes "f"; start = codes "m"; zone = None; trace = Some (codes "t"); sources = codes "a" ∷ codes "b" ∷ [] })
unfolding clap_on_literals run_app takes_words texts_of
two_sources = refl

no_source : texts_of (codes "--config" ∷ codes "f" ∷ codes "--start" ∷ codes "m" ∷ []) ≡ None
unfolding clap_on_literals run_app takes_words texts_of
no_source = refl

west : texts_of (codes "--config" ∷ codes "f" ∷ codes "--start" ∷ codes "m" ∷ codes "--zone=-05:00" ∷ codes "s" ∷ []) ≡ None
unfolding clap_on_literals run_app takes_words texts_of
west = refl

twice : texts_of (codes "--config" ∷ codes "f" ∷ codes "--config" ∷ codes "f" ∷ codes "--start" ∷ codes "m" ∷ codes "s" ∷ []) ≡ None
unfolding clap_on_literals run_app takes_words texts_of
twice = refl

help : texts_of (codes "--config" ∷ codes "f" ∷ codes "--start" ∷ codes "m" ∷ codes "--help" ∷ codes "s" ∷ []) ≡ None
unfolding clap_on_literals run_app takes_words texts_of
help = refl

trailing : texts_of (codes "--config" ∷ codes "f" ∷ codes "--start" ∷ codes "m" ∷ codes "--" ∷ codes "-s" ∷ []) ≡ None
unfolding clap_on_literals run_app takes_words texts_of
trailing = refl

-- whole lists of words
walk : plan_of (codes "walk" ∷ []) ≡ None
unfolding plan_of
walk = refl

yesterday : plan_of (codes "run" ∷ codes "--config" ∷ codes "f" ∷ codes "--start" ∷ codes "yesterday" ∷ codes "s" ∷ []) ≡ None
unfolding clap_on_literals run_app takes_words texts_of plan_of ha_clock_on_literals
yesterday = refl

checks : plan_of (codes "check" ∷ codes "f" ∷ []) ≡ Some (Check (codes "f"))
unfolding clap_on_literals one_word_app takes_words one_word plan_of
checks = refl

runs : plan_of (codes "run" ∷ codes "--config" ∷ codes "f" ∷ codes "--start=1970-01-01T00:00:00Z" ∷ codes "s" ∷ [])
    ≡ Some (Run (record { config = codes "f"; start = 0; zone = codes "UTC"; trace = None; sources = codes "s" ∷ [] }))
unfolding clap_on_literals run_app takes_words texts_of plan_of ha_clock_on_literals
runs = refl

replays : plan_of (codes "replay" ∷ codes "t" ∷ []) ≡ Some (Replay (codes "t"))
unfolding clap_on_literals one_word_app takes_words one_word plan_of
replays = refl

rehearses : plan_of (codes "rehearse" ∷ codes "100000" ∷ []) ≡ Some (Rehearse 100_000)
unfolding clap_on_literals one_word_app takes_words one_word plan_of count_of
rehearses = refl

too_many : plan_of (codes "rehearse" ∷ codes "100001" ∷ []) ≡ None
unfolding clap_on_literals one_word_app takes_words one_word plan_of count_of
too_many = refl

leading_zero : plan_of (codes "rehearse" ∷ codes "05" ∷ []) ≡ None
unfolding clap_on_literals one_word_app takes_words one_word plan_of count_of
leading_zero = refl

plus : plan_of (codes "rehearse" ∷ codes "+5" ∷ []) ≡ None
unfolding clap_on_literals one_word_app takes_words one_word plan_of count_of
plus = refl
