use Rattle.std.proofs.Common.{◌≡◌, ◌∙◌, ℕ, List, refl}
use Rattle.std.specs.Prelude.{Option, Some, None, option_map}
use Rattle.ha_model.specs.declared.record.Record.{Record}
use Rattle.ha_model.specs.Lawful.{record_of}
use Rattle.named_runs.specs.Named.{first_in}
use Rattle.named_runs.proofs.runs.NamedRuns.first.Goals as goal

told-first : (fs : List ℕ) (o : Option Record) → option_map (first_in fs) (option_map (λ (r : Record). r.automation) o) ≡ option_map (λ (r : Record). first_in fs r.automation) o
told-first fs None = refl
told-first fs (Some r) = refl

pub returns : goal.returns
returns c =
    c.first_told.ensures ∙ (λ i. option_map (first_in (c.as_slice.ensures.value i)) (c.automation.ensures i))
    ∙ told-first c.self.inside.firsts.items (record_of c.self.inside.runs.list c.args.serial)
    ∙ (λ i. option_map (λ (r : Record). first_in (c.self.view_is i).firsts r.automation) (record_of (c.self.view_is i).list c.args.serial))
