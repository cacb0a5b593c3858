-- In mode queued the runs of an automation end in their order.
use Rattle.std.specs.Prelude.{◌≡◌, ℕ, Bool, false, true, ◌&&◌, ◌||◌, nat_eq, is_none, List, [], ◌∷◌, None}
use Rattle.ha_config.specs.declared.config.Mode.{Mode}
use Rattle.ha_config.specs.declared.config.Automation.{Automation}
use Rattle.ha_model.specs.declared.record.Record.{Record}
use Rattle.ha_model.specs.Records.{Records, mode_of}

-- a live record of automation a
abbrev pub is_live : ℕ → Record → Bool
is_live a r = nat_eq r.automation a && is_none r.end

-- behind a live record of an automation of mode queued none of it has ended; `live` says of which units one is live so far
abbrev pub InOrderBehind : List Automation → (ℕ → Bool) → Records → Type 0
InOrderBehind all live [] = Unit {0}
InOrderBehind all live (r ∷ rs) =
    (mode_of all r.automation ≡ Mode.Queued → live r.automation ≡ true → r.end ≡ None) × InOrderBehind all (λ a. is_live a r || live a) rs

abbrev pub InOrder : List Automation → Records → Type 0
InOrder all rs = InOrderBehind all (λ a. false) rs
