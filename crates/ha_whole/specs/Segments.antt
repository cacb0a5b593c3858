-- A journal cut into its segments. Each is read alone: what opens it is a Boot, and its runs count from 1.
use Rattle.std.specs.Prelude.{ℕ, ◌+◌, ◌-◌, List, [], ◌∷◌, ◌++◌, length, fold, Option, Some, None, unwrap_or}
use Rattle.std.specs.Option.{option_map_or}
use Rattle.ha_journal.specs.declared.entry.Entry.{Entry}
use Rattle.ha_journal.specs.declared.entry.Entry.TheVariants.{Boot, Line, Step, Again}
use Rattle.ha_config.specs.declared.config.Config.{Config}
use Rattle.ha_config.specs.Words.{Text}
use Rattle.ha_whole.specs.Named.{named}
use Rattle.ha_journal.specs.Entries.{Opening, Reopening, boot_of, again_in}
use Rattle.ha_journal.specs.Journal.{Journal, configured, more}

-- ---- what a segment took over

-- how many runs there were before it, and how many of the unit whose runs have a name
abbrev pub carried : Journal → ℕ
carried [] = 0
carried (e ∷ es) = option_map_or (λ b. b.carry.serials) (boot_of e) 0

abbrev pub carried_number : Journal → Text → ℕ
carried_number [] name = 0
carried_number (e ∷ es) name = option_map_or (λ b. unwrap_or (named name b.carry.numbers) 0) (boot_of e) 0

-- ---- a segment alone

-- an entry where n runs were before its segment: the run of a Step counts from the segment's first
abbrev pub counted_from : ℕ → Entry → Entry
counted_from n (Boot text config stored start zone carry) = Boot text config stored start zone carry
counted_from n (Line source number cmd) = Line source number cmd
counted_from n (Step worker serial branch item) = Step worker (serial - n) branch item
counted_from n (Again number start stored carry) = Again number start stored carry

abbrev pub alone : Journal → Entry → Entry
alone segment x = counted_from (carried segment) x

-- an Again is read as a Boot with the text and the zone of the segment before it, and the configuration in force at its end
abbrev pub boot_again : Reopening → Opening → Config → Entry
boot_again a b config = Boot b.text config (Some a.stored) a.start b.zone a.carry

abbrev pub reopened : Journal → Reopening → Journal
reopened [] a = []
reopened (e ∷ es) a = option_map_or (λ b. boot_again a b (configured (e ∷ es)) ∷ []) (boot_of e) []

-- ---- the segments of a journal

-- the segments that a Restart closed, and the last one
pub record Cut : Type 0 where
  pub closed : List Journal
  pub last : Journal

abbrev pub cut_by : Cut → Entry → Option Reopening → Cut
cut_by c x None = record { closed = c.closed; last = more c.last (alone c.last x) }
cut_by c x (Some a) = record { closed = c.closed ++ (c.last ∷ []); last = reopened c.last a }

abbrev pub cut_more : Cut → Entry → Cut
cut_more c x = cut_by c x (again_in x)

abbrev pub cut : Journal → Cut
cut j = fold cut_more (record { closed = []; last = [] }) j

abbrev pub segments : Journal → List Journal
segments j = (cut j).closed ++ ((cut j).last ∷ [])

-- the last segment, and how many entries stand before it
abbrev pub segment : Journal → Journal
segment j = (cut j).last

abbrev pub entries_in : List Journal → ℕ
entries_in [] = 0
entries_in (s ∷ ss) = length s + entries_in ss

abbrev pub front : Journal → ℕ
front j = entries_in (cut j).closed
