-- What one more entry makes of a helper.
use Rattle.std.specs.Prelude.{◌≡◌, ℕ, [], Option, Some, None, option_and_then, if◌then◌else◌}
use Rattle.ha_value.specs.declared.value.EntityId.{EntityId}
use Rattle.ha_sight.specs.declared.helped.HelperChange.{HelperChange}
use Rattle.ha_journal.specs.declared.entry.Entry.{Entry}
use Rattle.ha_sight.specs.declared.state.StateObject.{StateObject}
use Rattle.ha_config.specs.Words.{Text}
use Rattle.ha_journal.specs.Journal.{Journal, more, now}
use Rattle.ha_sight.specs.Known.{Changed, due_of}
use Rattle.ha_journal.specs.Helpers.{comes, due_in}

-- its last change, by that of the entry, if there is one
abbrev pub changed_with : Option HelperChange → ℕ → Option Changed → Option Changed
changed_with None at last = last
changed_with (Some c) at last = Some (record { change = c; at = at })

-- its text, by that change
abbrev pub text_with : Option HelperChange → Text → Text
text_with None text = text
text_with (Some c) text = c.text

-- the due of a timer
abbrev pub due_with : Journal → Entry → EntityId → Option HelperChange → Option ℕ
due_with j x e (Some c) = due_of (record { change = c; at = now (more j x) })
due_with j x e None = option_and_then (λ due. if comes due (now (more j x), x) then None else Some due) (due_in j e)

-- a state with this text and no attributes
pub record IsBare (o : Option StateObject) (text : Text) : Type 0 where
  pub object : StateObject
  pub is : o ≡ Some object
  pub text_is : object.text ≡ text
  pub attributes_are : object.attributes ≡ []
