use Rattle.std.proofs.Common.{◌∙◌, sym, suc, length}
use Rattle.std.specs.Option.{option_copied}
use Rattle.ha_config.specs.Equal.{same_flag}
use Rattle.ha_journal.specs.Journal.{more}
use Rattle.ha_journal.specs.Moves.{sight}
use Rattle.trig_set.specs.Kept.{is_true}
use Rattle.ha_journal.specs.Holds.{watches}
use Rattle.ha_past.proofs.PastLemmas.{sight-whole}
use Rattle.trig_set.proofs.moved.stays.Goals as goal

pub returns-in-Template-None : goal.returns-in-Template-None
returns-in-Template-None c j since shows lt true-now true-then may =
    let x = c.args.scene.now.entry.now in
    c.equal_flag.ensures
    ∙ (λ i. same_flag (true-then i) (true-now i))
    ∙ (λ i. same_flag (is_true (sight j (length j)) (c.in-Template-None.is-0 i)) (is_true (sym (sight-whole j x) i) (c.in-Template-None.is-0 i)))
    ∙ sym (λ i. watches (sight j (length j)) (sight (more j x) (suc (length j))) j (more j x) (c.in-Template-None.is-0 i) (option_copied (c.in-Template-None.is-1 i)))
