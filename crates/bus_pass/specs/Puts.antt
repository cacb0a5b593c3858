-- What may be put into the channel.
use Rattle.std.specs.Prelude.{◌≡◌, ℕ}
use Rattle.crossbeam_channel.specs.Fifo.{Pushes}
use Rattle.bus_pass.specs.Journal.{IsRestless}
use Rattle.bus_pass.specs.Message.{Message, first_in, journal_in, origin_in, read_in}
use Rattle.bus_pass.specs.Rule.{Kept, gave}
use Rattle.bus_pass.specs.declared.hand.Hand.{Hand}

-- a pass with this view keeps the rule when it puts the message, whatever the other passes did before
abbrev pub MayPut : Hand → Message → Type 0
MayPut v m =
    (n port : ℕ) → Pushes (Kept IsRestless journal_in first_in origin_in) n port v m
    (λ w. w ≡ gave v (journal_in m) (read_in m) (first_in m) (origin_in m))
