-- The text of a rehearsal's configuration is one.
use Rattle.std.proofs.Common.{◌≡◌, ◌∙◌, ap, refl, Bool, false, List, Option, None}
use Rattle.std.specs.Prelude.{if◌then◌else◌, length, nat_lt, Ok}
use Rattle.std.specs.Str.{chars, is_utf8}
use lib.Utf8.{encode}
use Rattle.ha_value.specs.Lists.{without_cr}
use Rattle.yaml_scan.specs.declared.fault.Code.TheVariants as code
use Rattle.yaml_scan.specs.declared.fault.Fault.{Fault}
use Rattle.yaml_scan.specs.declared.line.RawLine.{RawLine}
use Rattle.yaml_scan.specs.Lines.{fault_from, line_fault, lines, lines_from, spaces, without_start}
use Rattle.yaml_scan.specs.Words.{nothing_left}
use Rattle.yaml_tree.specs.declared.node.Node.{Node}
use Rattle.yaml_tree.specs.Layout.{Answer}
use Rattle.yaml_tree.specs.Pieces.{all_pieces}
use Rattle.yaml_tree.specs.Tree.{faults, judged, of_pieces, tree}
use Rattle.conf_field.specs.Readings.{bad}
use Rattle.conf_auto.specs.Config.{config_of, of_root}
use Rattle.rehearsal.specs.Generated.{config_text}
use Rattle.ha_rehearse.proofs.ConfigRows.{from1}
use Rattle.ha_rehearse.proofs.ConfigLines.{all_found}
use Rattle.ha_rehearse.proofs.ConfigParts.{root_read}
use Rattle.ha_rehearse.proofs.ConfigTree.{root, node0}
use Rattle.ha_rehearse.proofs.ReadLemmas.{IsRead, read_as}

text_lines : lines config_text ≡ from1
unfolding config_text lines_from spaces without_cr
text_lines = refl

no_fault : line_fault from1 ≡ None
unfolding fault_from nothing_left is_utf8 chars encode
no_fault = refl

no_start : without_start from1 ≡ from1
unfolding without_start nothing_left
no_start = refl

short : nat_lt 1_048_576 (length config_text) ≡ false
unfolding config_text
short = refl

tree_is : tree config_text ≡ Ok node0
tree_is =
    ap (λ (ls : List RawLine). of_pieces (line_fault ls) (all_pieces (without_start ls))) text_lines
    ∙ ap (λ (f : Option Fault). of_pieces f (all_pieces (without_start from1))) no_fault ∙ ap (λ (ls : List RawLine). of_pieces None (all_pieces ls)) no_start
    ∙ ap (of_pieces None) all_found ∙ ap (λ (a : Answer Node). judged (faults None None a) a) root

pub config_read : IsRead (config_of config_text)
config_read =
    read_as (ap (λ (b : Bool). if b then bad 1 code.Limit else of_root (tree config_text)) short ∙ ap of_root tree_is) root_read
