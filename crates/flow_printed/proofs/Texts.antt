-- A text, and the command that it is the print of.
use Rattle.std.proofs.Common.{◌≡◌, Bool, cond, [], Some, None, Ok, Err, refl, sym, ap, subst, ◌∙◌, inl, inr, arith}
use Rattle.std.proofs.lemmas.Slice.Eq.{bytes_eq-Decides}
use Rattle.reading.proofs.Basics.{chosen}
use Rattle.ha_value.specs.declared.value.Value
use Rattle.ha_value.specs.declared.value.Value.{Value}
use Rattle.ha_value.specs.declared.value.Value.TheVariants.{outs-Pairs}
use Rattle.ha_config.specs.declared.command.Cmd.{Cmd}
use Rattle.ha_config.specs.Words.{Text, Pairs, same}
use Rattle.ha_config.specs.ValueText.{print_pairs}
use Rattle.flow_line.specs.Command.{IsInTime, IsLineMap}
use Rattle.flow_line.specs.Reading.{document}
use Rattle.flow_line.specs.Grammar.{IsDocument}
use Rattle.flow_line.proofs.Joined.{of_pairs}
use Rattle.flow_line.proofs.PrintedValue.{print_is_spelled}
use Rattle.flow_line.proofs.Sound.{line_map}
use Rattle.flow_line.proofs.Whole.{document_found, document_read}
use Rattle.flow_printed.specs.Map.{cmd_of_map, map_in, map_read, printed_cmd, printed_map, where_printed}
use Rattle.flow_printed.specs.Printed.{IsFairButForName, IsPrintOf}
use Rattle.flow_printed.proofs.Fronts.{binds, bound, map_is, same_text, some_is}
use Rattle.flow_printed.proofs.Maps.{map_deep, map_sound, map_utf8}
use Rattle.flow_printed.proofs.Shown.{pairs_of, shown_pairs}
use Rattle.flow_printed.proofs.Found.{found_of_map}
use Rattle.flow_printed.proofs.Read.{line_of_fair, read_of_map}

-- ---- maps

map_is_line : (text : Text) (ps : Pairs) → map_read (document text) ≡ Some ps → IsLineMap ps
map_is_line text ps e =
    (elim (document text) as (λ r. document text ≡ r → map_read r ≡ Some ps → IsLineMap ps) [
      | Ok read ↦ λ d m. line_map text ps (subst (λ (v : Value). IsDocument text v) (map_is read.0 ps m) (document_found text read.0 read.1 d))
      | Err fault ↦ λ d m. absurd cc
    ]) refl e

print_is_read : (ps : Pairs) → IsLineMap ps → map_read (document (print_pairs ps)) ≡ Some ps
print_is_read ps line =
    let spelled = print_is_spelled (Value.Pairs ps) (let deep = map_deep ps in let low = line.deep in omega (arith, deep, low)) (map_sound ps ∙ line.sound) (map_utf8 ps ∙ line.utf8) in
    let read : document (print_pairs ps) ≡ Ok (Value.Pairs ps, []) = ap document (sym (of_pairs ps)) ∙ document_read _ (Value.Pairs ps) spelled in
    ap map_read read ∙ ap map_in (outs-Pairs ps)

-- ---- commands

pub printed_found : (text : Text) (c : Cmd) → IsInTime c → printed_cmd text ≡ Some c → IsPrintOf text c
unfolding printed_cmd printed_map
printed_found text c time e =
    let whole = bound (printed_map text) cmd_of_map c e in
    let map = bound (map_read (document text)) (where_printed text) whole.0 whole.1 in
    elim (chosen (same (print_pairs map.0) text) (Some map.0) None (Some whole.0) map.2) [
      | inl h ↦
          let is = some_is map.0 whole.0 h.1 in
          let found = found_of_map whole.0 c (subst IsLineMap is (map_is_line text map.0 map.1)) time whole.2 in
          record { fair = found.fair; text_is = sym ((bytes_eq-Decides (print_pairs map.0) text).0 h.0) ∙ ap print_pairs (is ∙ found.pairs) ∙ sym (shown_pairs c) }
      | inr h ↦ absurd (let k = h.1 in cc)
    ]

shown_read : (c : Cmd) → IsFairButForName c → printed_cmd (print_pairs (pairs_of c)) ≡ Some c
unfolding printed_cmd printed_map
shown_read c fair =
    let ps = pairs_of c in
    binds (printed_map (print_pairs ps)) cmd_of_map ps (Some c)
    (binds (map_read (document (print_pairs ps))) (where_printed (print_pairs ps)) ps (Some ps) (print_is_read ps (line_of_fair c fair)) (ap (λ (b : Bool). cond b (Some ps) None) (same_text (print_pairs ps))))
    (read_of_map c fair)

pub printed_read : (text : Text) (c : Cmd) → IsPrintOf text c → printed_cmd text ≡ Some c
printed_read text c print = ap printed_cmd (print.text_is ∙ shown_pairs c) ∙ shown_read c print.fair

-- a text is the print of one command at most
pub one_print : (text : Text) (c d : Cmd) → IsPrintOf text c → IsPrintOf text d → c ≡ d
one_print text c d p q = some_is c d (sym (printed_read text c p) ∙ printed_read text d q)
