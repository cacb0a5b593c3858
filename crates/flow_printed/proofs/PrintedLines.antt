-- A text, and the line that it is the print of.
use Rattle.std.proofs.Common.{◌≡◌, ℕ, ◌<◌, ◌^◌, length, Some, None, refl, sym, ap, ◌∙◌, arith}
use Rattle.std.specs.Prelude.{decimal}
use Rattle.std.proofs.lemmas.Fmt.{decimal_injective}
use Rattle.ha_config.specs.declared.command.Cmd.{Cmd}
use Rattle.ha_config.specs.Words.{Text}
use Rattle.ha_config.specs.CommandText.{cmd_text}
use Rattle.flow_printed.specs.declared.line.PrintedLine.{PrintedLine}
use Rattle.flow_printed.specs.Line.{cut_line, shown_line}
use Rattle.flow_printed.specs.Printed.{IsPrintOf, IsPrintOfLine, IsSized}
use Rattle.flow_printed.proofs.Fronts.{some_is}
use Rattle.flow_printed.proofs.Lines.{cut_line_is, printed_line_is_cut, shown_short}
use Rattle.flow_printed.proofs.Texts.{one_print}

is_cut : (text : Text) (l : PrintedLine) → IsSized l → IsPrintOfLine text l → cut_line text ≡ Some (decimal l.source, decimal l.number, cmd_text l.cmd)
is_cut text l sized print =
    let small = sized.source in
    ap cut_line print.text_is ∙ printed_line_is_cut l.source l.number (cmd_text l.cmd) (omega arith) sized.number

pub no_parts : (text : Text) (l : PrintedLine) → IsSized l → IsPrintOfLine text l → cut_line text ≡ None → ⊥
no_parts text l sized print none = let whole = is_cut text l sized print in cc

-- the texts of a printed line's values
pub record AreParts (source number shown : Text) (l : PrintedLine) : Type 0 where
  pub source_is : source ≡ decimal l.source
  pub number_is : number ≡ decimal l.number
  pub cmd_is : IsPrintOf shown l.cmd

pub parts_of_print : (text source number shown : Text) (l : PrintedLine) → IsSized l → IsPrintOfLine text l → cut_line text ≡ Some (source, number, shown) → AreParts source number shown l
parts_of_print text source number shown l sized print e =
    let same = some_is (source, number, shown) (decimal l.source, decimal l.number, cmd_text l.cmd) (sym e ∙ is_cut text l sized print) in
    record {
      source_is = ap (λ (p : Text × Text × Text). p.0) same;
      number_is = ap (λ (p : Text × Text × Text). p.1) same;
      cmd_is = record { fair = print.fair; text_is = ap (λ (p : Text × Text × Text). p.2) same };
    }

pub print_of_parts : (text source number shown : Text) (l : PrintedLine) → cut_line text ≡ Some (source, number, shown) → AreParts source number shown l → IsPrintOfLine text l
print_of_parts text source number shown l e parts =
    record {
      fair = parts.cmd_is.fair;
      text_is = cut_line_is text (source, number, shown) e ∙ ap (λ (t : Text). shown_line t number shown) parts.source_is
          ∙ ap (λ (t : Text). shown_line (decimal l.source) t shown) parts.number_is ∙ ap (shown_line (decimal l.source) (decimal l.number)) parts.cmd_is.text_is;
    }

-- the command's text is not longer than the line
pub shown_fits : (text source number shown : Text) → cut_line text ≡ Some (source, number, shown) → length text < 2 ^ 32 → length shown < 2 ^ 32
shown_fits text source number shown e small =
    let whole = ap length (cut_line_is text (source, number, shown) e) in
    let within = shown_short source number shown in
    omega arith

pub same_line : (l : PrintedLine) (source number : ℕ) (cmd : Cmd) → source ≡ l.source → number ≡ l.number → cmd ≡ l.cmd → record { source = source; number = number; cmd = cmd } ≡ l
same_line l source number cmd e f g =
    ap (λ (k : ℕ). record { source = k; number = number; cmd = cmd }) e ∙ ap (λ (k : ℕ). record { source = l.source; number = k; cmd = cmd }) f
    ∙ ap (λ (k : Cmd). record { source = l.source; number = l.number; cmd = k }) g

-- a text is the print of one line at most
pub one_line : (text : Text) (l m : PrintedLine) → IsSized l → IsSized m → IsPrintOfLine text l → IsPrintOfLine text m → l ≡ m
one_line text l m small low p q =
    let same = some_is (decimal l.source, decimal l.number, cmd_text l.cmd) (decimal m.source, decimal m.number, cmd_text m.cmd) (sym (is_cut text l small p) ∙ is_cut text m low q) in
    let source = decimal_injective l.source m.source (let h = small.source in omega arith) (let h = low.source in omega arith) (ap (λ (t : Text × Text × Text). t.0) same) in
    let number = decimal_injective l.number m.number small.number low.number (ap (λ (t : Text × Text × Text). t.1) same) in
    let cmd = one_print (cmd_text l.cmd) l.cmd m.cmd (record { fair = p.fair; text_is = refl }) (record { fair = q.fair; text_is = ap (λ (t : Text × Text × Text). t.2) same }) in
    same_line m l.source l.number l.cmd source number cmd
