-- The commands that are read of the lines that a cut holds, and those that are put of them.
use Rattle.std.proofs.Common.{◌≡◌, ◌∙◌, ℕ, List, [], ◌∷◌, ◌++◌, ap, refl, sym, subst, map}
use Rattle.std.specs.Prelude.{Option}
use Rattle.std.proofs.lemmas.List.{append-nil, map-append}
use Rattle.ha_config.specs.declared.command.Cmd.{Cmd}
use Rattle.ha_config.specs.declared.config.Config.{Config}
use Rattle.ha_config.specs.Fair.{prepared}
use Rattle.ha_config.specs.Words.{Text}
use Rattle.ha_text.specs.Lines.{IsNone, whole_lines}
use Rattle.flow_line.specs.Command.{cmd_of}
use Rattle.bus_pass.specs.declared.hand.Hand.{Hand}
use Rattle.ha_worker.specs.Courses.{cmd_read}
use Rattle.ha_worker.specs.Puts.{PutAll, PutSome}
use Rattle.ha_worker.specs.Read.{AreOpen, AreRead, IsOpen}
use Rattle.ha_worker.specs.Taken.{Took, TookAll}
use Rattle.ha_worker.proofs.CourseLemmas.{took_none, took_then, took_whole}

-- ---- the commands are read from the first line on

-- one command more may be put
pub open_more : (cs : List Cmd) (c : Cmd) → AreOpen cs → IsOpen c → AreOpen (cs ++ (c ∷ []))
open_more [] c h o = (o, tt)
open_more (x ∷ cs) c h o = (h.0, open_more cs c h.1 o)

-- one command more was read
pub cmds_more : (lines : List Text) (line : Text) (cmds : List Cmd) → cmds ≡ map cmd_of lines → cmds ++ (cmd_of line ∷ []) ≡ map cmd_of (lines ++ (line ∷ []))
cmds_more lines line cmds is = ap (λ (z : List Cmd). z ++ (cmd_of line ∷ [])) is ∙ sym (map-append cmd_of lines (line ∷ []))

-- no further line was there
pub read_all : (old cut cut' : Text) (lines : List Text) (cmds : List Cmd) → Took old lines cut → cmds ≡ map cmd_of lines → IsNone cut cut' → AreRead old cmds cut'
read_all old cut cut' lines cmds p is none = record {
  lines = lines;
  took = (let P : List Text → Type 0 = λ z. Took old z cut' in subst P (append-nil lines) (took_then old cut cut' lines [] p (took_none cut cut' none)));
  none = none.still;
  cmds_are = is;
}

-- ---- the commands are put from the first one on

-- the commands of lines, with what the texts of Reloads are read as
pub all_prepared : (read : Text → Option Config) (lines : List Text) → map (prepared read) (map cmd_of lines) ≡ map (cmd_read read) lines
all_prepared read [] = refl
all_prepared read (line ∷ lines) = ap (λ (z : List Cmd). cmd_read read line ∷ z) (all_prepared read lines)

-- all commands that were read were put
pub all_read : (read : Text → Option Config) (k : ℕ) (old new : Text) (cmds : List Cmd) (u v : Hand) → AreRead old cmds new → PutAll k (map (prepared read) cmds) u v → TookAll read k old new u v
all_read read k old new cmds u v r all =
    record { lines = r.lines; took = r.took; none = r.none; put = subst (λ z. PutAll k z u v) (ap (map (prepared read)) r.cmds_are ∙ all_prepared read r.lines) all }

-- some of them were
pub some_read : (read : Text → Option Config) (k : ℕ) (old new : Text) (cmds : List Cmd) (u v : Hand) → AreRead old cmds new → PutSome k (map (prepared read) cmds) u v
    → PutSome k (map (cmd_read read) (whole_lines old)) u v
some_read read k old new cmds u v r some =
    subst (λ z. PutSome k z u v)
    (ap (map (prepared read)) r.cmds_are ∙ all_prepared read r.lines
    ∙ sym (ap (map (cmd_read read)) (took_whole old new r.lines r.took ∙ ap (λ (z : List Text). r.lines ++ z) r.none ∙ append-nil r.lines))) some
