use Rattle.std.proofs.Common.{◌≡◌, List, Bool, eqb, sym, ap, subst, ◌∙◌}
use Rattle.ha_journal.specs.Journal.{Journal}
use Rattle.ha_model.specs.Records.{CallEnds, Records, call_end}
use Rattle.ha_model.specs.RecordSteps.{records_after}
use Rattle.ha_model.specs.Lawful.{is_empty, is_quiet}
use Rattle.ha_ready.specs.RestedFlags.{RestedKept}
use Rattle.ha_ready.specs.RestedFlags.{flags_from, source_of}
use Rattle.engine_parts.proofs.KeptLemmas.{counted}
use Rattle.ha_ready.proofs.ReadyLemmas.{ready-pairs}
use Rattle.ha_ready.proofs.RestedFlags.{rested-kept}
use Rattle.ha_engine.proofs.conclude.note_source.Goals as goal
use Rattle.engine_parts.specs.Kept.{GoingWith, nobody}
use Rattle.ha_ready.specs.ReadyPairs.{ends_at}

pub returns : goal.returns
returns c j x rs is right known rested right' going =
    let k : Journal = c.args.journal.now in
    let rs' : Records = records_after j rs x in
    let p = c.args.parts.now in
    let so : call_end rs' ≡ ends_at k = ap call_end right'.records_are in
    let going' : GoingWith (ends_at k) nobody k rs' p = subst (λ (t : CallEnds). GoingWith t nobody k rs' p) so going in
    let behind-pairs = going'.runs_kept.pairs_are in
    let quiet : eqb c.len-quiet.result 0 ≡ is_quiet rs' k
    = counted p.ready.pairs.items c.len-quiet.result (c.len-quiet.ensures ∙ p.ready.pairs.ok.0) ∙ ap is_empty (behind-pairs ∙ sym (ready-pairs k rs' right')) in
    let flags : List Bool = p.rested.items in
    let behind : RestedKept k rs' (flags_from (source_of x) (is_quiet rs' k) 0 flags)
    = subst (λ (i : Journal). RestedKept i rs' (flags_from (source_of x) (is_quiet rs' i) 0 flags)) (sym is) (rested-kept j rs x flags right known rested) in
    let source : c.last_source-source.result ≡ source_of x = c.last_source-source.ensures j x is in
    record {
      going = record {
        sees = record { looks = going'.sees.looks; helpers_stand = going'.sees.helpers_stand; switches_stand = going'.sees.switches_stand; changed_is = going'.sees.changed_is; sound = going'.sees.sound; few = going'.sees.few; free_is = going'.sees.free_is; ascending_is = going'.sees.ascending_is };
        triggers_stand = going'.triggers_stand;
        waits_stand = going'.waits_stand;
        owned = going'.owned;
        keys_early = going'.keys_early;
        runs_kept = going'.runs_kept;
        calls_kept = going'.calls_kept;
      };
      rested_is = subst (λ (l : List Bool). RestedKept k rs' l) (sym (c.note_flags.ensures ∙ (λ i. flags_from (source i) (quiet i) 0 flags))) behind;
    }
