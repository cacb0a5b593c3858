-- The texts that are written of entries: calls, errors, the trace.
use Rattle.std.specs.Prelude.{ℕ, Bool, List, [], ◌∷◌, ◌++◌, length, map, Option, Some, None, option_map, decimal, codes, if◌then◌else◌}
use Rattle.std.specs.Option.{option_map_or}
use Rattle.ha_clock.specs.Print.{moment_text}
use Rattle.ha_config.specs.declared.command.Cmd.{Cmd}
use Rattle.ha_journal.specs.declared.entry.Entry.{Entry}
use Rattle.ha_journal.specs.declared.entry.Entry.TheVariants.{Boot, Line, Step, Again}
use Rattle.ha_config.specs.Words.{Text}
use Rattle.ha_sight.specs.Items.{Called, failure_in}
use Rattle.ha_journal.specs.Journal.{Journal}
use Rattle.ha_config.specs.ValueText.{quoted, list_text, map_text}
use Rattle.ha_config.specs.CommandText.{one_key, cmd_text, line_code}
use Rattle.ha_sight.specs.ItemText.{call_pairs, item_text, failure_code}
use Rattle.ha_config.specs.StoreText.{moments_text, stored_text}
use Rattle.ha_config.specs.CheckText.{as_line}

-- what each entry gives, with those before it, in order
abbrev pub texts_after : (Journal → Entry → Text) → Journal → List Entry → Text
texts_after gives before [] = []
texts_after gives before (x ∷ xs) = gives before x ++ texts_after gives (before ++ (x ∷ [])) xs

-- ---- calls

-- the line of call c of a run: its unit's name, and its number among the runs of that unit
abbrev pub call_line : Text → ℕ → ℕ → Called → Text
call_line name number c call =
    as_line (map_text ((codes "run", quoted name) ∷ (codes "number", decimal number) ∷ (codes "call", decimal c)
    ∷ call_pairs call.service call.target call.fields))

-- ---- errors

-- why a line was refused, or what became of its source
abbrev pub refusal_text : Cmd → Option Text
refusal_text (Cmd.Report entity text attributes) = None
refusal_text (Cmd.Gone entity) = None
refusal_text (Cmd.Event kind pairs) = None
refusal_text (Cmd.Moment at) = None
refusal_text (Cmd.Switch name on stop) = None
refusal_text (Cmd.Trigger name skip) = None
refusal_text Cmd.Restart = None
refusal_text (Cmd.Reload text config) = None
refusal_text (Cmd.Refused code) = Some (line_code code)
refusal_text Cmd.Lost = Some (codes "lost")
refusal_text Cmd.TooLong = Some (codes "too long")

-- the error line of an entry, if it has one
abbrev pub error_line : Entry → Option Text
error_line (Boot text config stored start zone carry) = None
error_line (Again number start stored carry) = None
error_line (Line source number cmd) =
    option_map
    (λ why. as_line (codes "source " ++ decimal source ++ codes " line " ++ decimal number ++ codes ": " ++ why))
    (refusal_text cmd)
error_line (Step worker serial branch item) =
    option_map (λ code. as_line (codes "run " ++ decimal serial ++ codes " failed " ++ failure_code code)) (failure_in item)

abbrev pub error_text_of : Entry → Text
error_text_of x = option_map_or (λ t. t) (error_line x) []

-- the error lines of a journal
abbrev pub error_text : Journal → Text
error_text j = texts_after (λ before x. error_text_of x) [] j

-- ---- the trace

-- when automations last triggered, where one has
abbrev pub last_pairs : List (Text × ℕ) → List (Text × Text)
last_pairs [] = []
last_pairs (p ∷ ps) = (codes "last", moments_text (p ∷ ps)) ∷ []

abbrev pub boot_pairs : Text → Option (List (Text × Bool)) → List (Text × ℕ) → ℕ → Text → List (Text × Text)
boot_pairs text stored last start zone =
    (codes "config", quoted text) ∷ (codes "stored", stored_text stored)
    ∷ last_pairs last ++ (codes "start", quoted (moment_text start)) ∷ (codes "zone", quoted zone) ∷ []

-- the trace line of an entry, where units have these names by their numbers
abbrev pub trace_line : List Text → Entry → Text
trace_line all (Boot text config stored start zone carry) =
    as_line (one_key (codes "boot") (map_text (boot_pairs text stored carry.last start zone)))
trace_line all (Line source number cmd) =
    as_line (map_text ((codes "source", decimal source) ∷ (codes "number", decimal number) ∷ (codes "cmd", cmd_text cmd) ∷ []))
trace_line all (Step worker serial branch item) =
    as_line (map_text ((codes "worker", decimal worker) ∷ (codes "run", decimal serial)
    ∷ (codes "branch", list_text (map decimal branch)) ∷ (codes "item", item_text all item) ∷ []))
trace_line all (Again number start stored carry) = as_line (one_key (codes "again") (decimal number))

abbrev pub end_line : ℕ → Text
end_line n = as_line (one_key (codes "end") (decimal n))

-- the trace of a journal, with its end line where it has ended; by the entries before a line `names_at` gives the names in it
abbrev pub trace_by : (Journal → List Text) → Journal → Bool → Text
trace_by names_at j ended = texts_after (λ before x. trace_line (names_at before) x) [] j ++ (if ended then end_line (length j) else [])
