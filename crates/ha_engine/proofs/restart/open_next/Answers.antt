use Rattle.std.proofs.Common.{◌≡◌, [], length, refl, ap, sym, subst, ◌∙◌, arith}
use Rattle.std.specs.Prelude.{Bool, IfSome, IsSome, None, Option, Some, option_map}
use Rattle.std.specs.Global.{Vec}
use Rattle.ha_config.specs.declared.config.Config.{Config}
use Rattle.ha_config.specs.Sound.{IsSoundConfig, is_sound_config}
use Rattle.ha_config.specs.Units.{units_of}
use Rattle.ha_config.specs.Words.{up_to}
use Rattle.ha_config.proofs.ListLemmas.{none-some, some-same}
use Rattle.ha_config.proofs.UnitLemmas.{units-few}
use Rattle.ha_journal.specs.Force.{force, in_place_of}
use Rattle.ha_journal.specs.Journal.{Journal, configured}
use Rattle.ha_whole.specs.Segments.{segment}
use Rattle.unit_book.specs.Book.{Holds, config_at}
use Rattle.engine_parts.proofs.ViewLemmas.{true-of}
use Rattle.engine_parts.specs.Records.{HasRoom}
use Rattle.ha_engine.specs.Begun.{IsBegun}
use Rattle.ha_engine.specs.Noted.{known_lasts}
use Rattle.ha_engine.specs.Restarts.{reopening}
use Rattle.ha_engine.proofs.BeginLemmas.{numbers-many}
use Rattle.ha_engine.proofs.CarriedLemmas.{lasts-found, numbers-found, numbers-named, opening-found}
use Rattle.ha_engine.proofs.OpeningLemmas.{begun-force, begun-numbers}
use Rattle.ha_engine.proofs.ReopenLemmas.{reopened-begun}
use Rattle.ha_engine.proofs.restart.open_next.Goals as goal

some-mapped : (f : Config → Config) (o : Option Config) (d : Config) → option_map f o ≡ Some d → IsSome o
some-mapped f None d e = absurd (none-some d e)
some-mapped f (Some c) d e = refl

pub config_in-config-requires : goal.config_in-config-requires
config_in-config-requires c = some-mapped (in_place_of (configured (segment c.args.journal.now))) (config_at c.args.journal.now c.args.latest) (configured (segment c.args.journal.now)) c.requires.config

pub unit_count-requires : goal.unit_count-requires
unit_count-requires c =
    let sound : IsSoundConfig c.config_in-config.result.now = subst (λ (o : Option Config). IfSome o IsSoundConfig) c.config_in-config.ensures c.requires.sound in
    units-few c.config_in-config.result.now (true-of (is_sound_config c.config_in-config.result.now) sound)

pub first_numbers-requires : goal.first_numbers-requires
first_numbers-requires c = omega (arith, c.unit_count.ensures.few)

pub open-requires : goal.open-requires
open-requires c = record {
  c = c.config_in-config.result.now;
  config_is = c.config_in-config.ensures;
  sound = subst (λ (o : Option Config). IfSome o IsSoundConfig) c.config_in-config.ensures c.requires.sound;
  numbered = ap length c.in_ok-numbers.ensures ∙ numbers-many 0 c.unit_count.result ∙ c.unit_count.ensures.count;
}

pub open_runs-requires-clause-carried : goal.open_runs-requires-clause-carried
open_runs-requires-clause-carried c = opening-found c.args.journal.now c.args.bounds c.requires.reopened.lies

pub open_runs-requires-clause-firsts : goal.open_runs-requires-clause-firsts
open_runs-requires-clause-firsts c = (c.in_ok-book.ensures (configured (segment c.args.journal.now)) c.requires.config).firsts_are

pub first_lasts-requires : goal.first_lasts-requires
first_lasts-requires c = opening-found c.args.journal.now c.args.bounds c.requires.reopened.lies

pub open_parts-requires-clause-holds : goal.open_parts-requires-clause-holds
open_parts-requires-clause-holds c =
    let n : Journal = c.args.journal.now in
    let h = c.requires.reopened in
    let begun : IsBegun (segment n) = subst IsBegun (sym h.segment_is) (reopened-begun (segment h.closed) (reopening h.closed) h.journal) in
    subst (λ f. Holds n f c.in_ok-book.book) (begun-force (segment n) begun) (c.in_ok-book.ensures (configured (segment n)) c.requires.config)

pub open_parts-requires-clause-numbers : goal.open_parts-requires-clause-numbers
open_parts-requires-clause-numbers c =
    let n : Journal = c.args.journal.now in
    let h = c.requires.reopened in
    let d : Config = configured (segment n) in
    let begun : IsBegun (segment n) = subst IsBegun (sym h.segment_is) (reopened-begun (segment h.closed) (reopening h.closed) h.journal) in
    let like : in_place_of d c.config_in-config.result.now ≡ d
    = some-same (in_place_of d c.config_in-config.result.now) d ((λ i. option_map (in_place_of d) (sym c.config_in-config.ensures i)) ∙ c.requires.config) in
    c.in_ok-numbers.ensures ∙ ap up_to (c.unit_count.ensures.count ∙ (λ i. length (units_of (like i)))) ∙ sym (begun-numbers (segment n) begun)

pub returns-clause-next : goal.returns-clause-next
returns-clause-next c =
    let n : Journal = c.args.journal.now in
    let s : Journal = segment n in
    let h = c.requires.reopened in
    let begun : IsBegun s = subst IsBegun (sym h.segment_is) (reopened-begun (segment h.closed) (reopening h.closed) h.journal) in
    let book = c.in_ok-book.book in
    let holds : Holds n (force s) book = subst (λ f. Holds n f book) (begun-force s begun) (c.in_ok-book.ensures (configured s) c.requires.config) in
    record {
      holds = holds;
      going = c.in_ok-make_room.ensures.going s [] c.in_ok-opened.ensures.going;
      rested = ap (λ (v : Vec Bool). v.items) c.in_ok-make_room.ensures.rested ∙ c.in_ok-opened.ensures.rested;
      prepared = c.in_ok-opened.ensures.prepared;
      room_runs = omega (arith, c.in_ok-make_room.ensures.spare, c.len.ensures);
      room = subst (λ m. HasRoom m c.make_room.new.parts) c.len.ensures c.in_ok-make_room.ensures.room;
      opens = c.in_ok-opening.ensures.opens;
      firsts_are = c.in_ok-opening.ensures.firsts;
      numbers_are = c.in_ok-opening.ensures.numbers ∙ numbers-named s _ book.names (numbers-found n c.args.bounds h.lies);
      lasts_are = c.in_ok-lasts.ensures ∙ (λ i. known_lasts [] book.names (lasts-found n c.args.bounds h.lies i));
    }
