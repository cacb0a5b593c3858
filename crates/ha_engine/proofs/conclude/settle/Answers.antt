use Rattle.std.proofs.Common.{◌≡◌, ◌-◌, ◌<◌, length, sym, ap, subst, ◌∙◌, arith}
use Rattle.std.specs.Prelude.{Bool, vec_len}
use Rattle.std.specs.Global.{Vec}
use Rattle.ha_journal.specs.Journal.{Journal}
use Rattle.ha_model.specs.Records.{Records, call_end}
use Rattle.ha_journal.specs.Attempts.{passing}
use Rattle.ha_model.specs.RecordSteps.{records_after}
use Rattle.ha_model.specs.Lawful.{Right}
use Rattle.ha_journal.proofs.MoreLemmas.{length-more}
use Rattle.engine_parts.specs.Kept.{Kept, nobody, GoingWith}
use Rattle.ha_ready.specs.RestedFlags.{RestedKept}
use Rattle.ha_engine.proofs.AdmitLemmas.{known-stack}
use Rattle.ha_engine.proofs.conclude.settle.Goals as goal

pub note_source-requires : goal.note_source-requires
note_source-requires c =
    let h = c.requires.stopped in
    let same = ap (λ v. vec_len v) (c.drop_refused.ensures.rested ∙ c.admit_all.ensures.rested) in
    omega (arith, same, h.rested_is.count, c.args.parts.now.rested.ok.0)

pub admit_all-requires-clause-known : goal.admit_all-requires-clause-known
admit_all-requires-clause-known c = known-stack c.args.journal.now c.args.runs.now.firsts c.args.stack.items c.requires.named c.requires.prepared

pub returns-clause-kept : goal.returns-clause-kept
returns-clause-kept c =
    let h = c.requires.stopped in
    let k : Journal = c.args.journal.now in
    let rs' : Records = records_after h.j h.before h.x in
    let some : 0 < length k = omega (arith, ap length h.journal_is, length-more h.j h.x) in
    let told = c.admit_all.ensures.all k (passing k) c.requires.prepared c.requires.named c.place-place.ensures.place some h.table h.going in
    let list : c.admit_all.new.runs.list ≡ rs' = told.0 ∙ h.records in
    let rested : RestedKept h.j h.before c.drop_refused.new.parts.rested.items
    = subst (λ (v : Vec Bool). RestedKept h.j h.before v.items) (sym (c.drop_refused.ensures.rested ∙ c.admit_all.ensures.rested)) h.rested_is in
    let all : GoingWith (call_end c.admit_all.new.runs.list) nobody k c.admit_all.new.runs.list c.drop_refused.new.parts
    = c.drop_refused.ensures.going k c.admit_all.new.runs.list c.place-place.ensures.place told.1 told.2 in
    let kept : Kept k rs' c.note_source.new.parts
    = c.note_source.ensures h.j h.x h.before h.journal_is h.right h.known rested h.right_behind (subst (λ (l : Records). GoingWith (call_end l) nobody k l c.drop_refused.new.parts) list all) in
    (subst (λ (l : Records). Right k l) (sym list) h.right_behind, subst (λ (l : Records). Kept k l c.note_source.new.parts) (sym list) kept)
