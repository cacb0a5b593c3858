-- What is booted may stand first in a trace: its texts are UTF-8, and the stored names in byte order.
use Rattle.std.proofs.Common.{◌≡◌, refl, Bool, true, false, length, Option, Some, None}
use Rattle.std.specs.Prelude.{nat_lt, if◌then◌else◌, Ok, Err}
use Rattle.std.specs.List.{list_all}
use Rattle.std.specs.Str.{is_utf8}
use Rattle.std.proofs.lemmas.Bool.{and_parts}
use Rattle.std.proofs.lemmas.Str.{is_utf8-from_IsUtf8}
use Rattle.ha_config.specs.declared.config.Config.{Config}
use Rattle.ha_config.specs.Words.{Text}
use Rattle.ha_config.specs.Sound.{IsSoundStore, are_in_name_order}
use Rattle.yaml_scan.specs.declared.fault.Fault.{Fault}
use Rattle.yaml_scan.specs.declared.fault.Code.TheVariants as code
use Rattle.yaml_scan.specs.Lines.{least, line_fault, lines}
use Rattle.yaml_tree.specs.declared.node.Node.{Node}
use Rattle.yaml_tree.specs.Layout.{Answer}
use Rattle.yaml_tree.specs.Tree.{judged, tree}
use Rattle.conf_field.specs.Readings.{Read, bad}
use Rattle.conf_auto.specs.Config.{config_of, of_root}
use Rattle.ha_replay.specs.Boots.{Switches, are_stored, have_utf8_names}
use Rattle.top_laws.proofs.LinesUtf8.{lines-utf8}

-- ---- the text of a configuration

front_none : (a b : Option Fault) → least a b ≡ None → a ≡ None
front_none None b e = refl
front_none (Some f) None e = absurd cc
front_none (Some f) (Some g) e = absurd (picked _ f g e)
  where
    picked : (t : Bool) (f g : Fault) → (if t then Some g else Some f) ≡ None → ⊥
    picked true f g e = cc
    picked false f g e = cc

judged_none : (f : Option Fault) (answer : Answer Node) (root : Node) → judged f answer ≡ Ok root → f ≡ None
judged_none None answer root e = refl
judged_none (Some f) answer root e = absurd cc

rooted : (r : Read Node) (config : Config) → of_root r ≡ Ok config → (root : Node) × (r ≡ Ok root)
rooted (Ok root) config e = (root, refl)
rooted (Err f) config e = absurd cc

within : (t : Bool) (r : Read Config) (config : Config) → (if t then bad 1 code.Limit else r) ≡ Ok config → r ≡ Ok config
within true r config e = absurd cc
within false r config e = e

pub config-utf8 : (text : Text) (config : Config) → config_of text ≡ Ok config → is_utf8 text ≡ true
config-utf8 text config e =
    let made = within (nat_lt 1_048_576 (length text)) (of_root (tree text)) config e in
    let read = rooted (tree text) config made in
    is_utf8-from_IsUtf8 text (lines-utf8 text (front_none (line_fault (lines text)) _ (judged_none _ _ read.0 read.1)))

-- ---- the stored names

pub stored-ordered : (stored : Option Switches) → IsSoundStore stored → are_stored stored ≡ true
stored-ordered None sound = sound
stored-ordered (Some ps) sound = (and_parts (are_in_name_order ps) (list_all (λ p. is_utf8 p.0) ps) sound).0

pub stored-utf8 : (stored : Option Switches) → IsSoundStore stored → have_utf8_names stored ≡ true
stored-utf8 None sound = sound
stored-utf8 (Some ps) sound = (and_parts (are_in_name_order ps) (list_all (λ p. is_utf8 p.0) ps) sound).1
