-- The moments of the last put are printed.
use Rattle.std.specs.Prelude.{IfSome, length, slice_get}
use Rattle.ha_journal.specs.Journal.{Journal}
use Rattle.ha_whole.specs.Whole.{before_put}
use Rattle.ha_texts.specs.Lines.{AreDated}

-- those of its entry are no later than the last moment; an Again behind it prints none
abbrev pub IsLastDated : Journal → Type 0
IsLastDated j = IfSome (slice_get j (length (before_put j))) AreDated
