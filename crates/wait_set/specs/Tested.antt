-- Whose templates an entry tests.
use Rattle.std.specs.Prelude.{◌≡◌, ◌<◌, ℕ, Bool, true, false, List, Some, None}
use Rattle.std.specs.List.{list_any}
use Rattle.ha_value.specs.declared.value.EntityId.{EntityId}
use Rattle.ha_config.specs.declared.template.Template.{Template}
use Rattle.ha_config.specs.Words.{same_entity}
use Rattle.ha_sight.specs.Sight.{Sight}
use Rattle.ha_sight.specs.Templates.{rendered, says}
use Rattle.tpl_reads.specs.Reads.{entities_read}
use Rattle.wait_set.specs.declared.asked.Asked.{Asked}

-- the wait has an owner before this one, and its template reads entities that are all written in it, none of which changes
pub record IsSpared (from : ℕ) (changes : EntityId → Bool) (a : Asked) (t : Template) : Type 0 where
  pub before : a.owner < from
  pub read : List EntityId
  pub read_is : entities_read t ≡ Some read
  pub same : (e : EntityId) → list_any (λ f. same_entity f e) read ≡ true → changes e ≡ false

-- a pending wait whose owner is not among those that are tested is spared
abbrev pub TestedOrSpared : ℕ → (EntityId → Bool) → (ℕ → Bool) → Asked → Type 0
TestedOrSpared from changes tested a = (t : Template) → a.end ≡ None → a.ask.test ≡ Some t → tested a.owner ≡ false → IsSpared from changes a t

-- or else its template is not true in what is seen
abbrev pub TestedOrQuiet : Sight → (ℕ → Bool) → Asked → Type 0
TestedOrQuiet s tested a = (t : Template) → a.end ≡ None → a.ask.test ≡ Some t → tested a.owner ≡ false → says (rendered s t a.ask.env) ≡ false
