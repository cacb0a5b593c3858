-- Where the reading of a source stands between two pieces, and how it ends.
use Rattle.std.proofs.Common.{◌≡◌, ◌∙◌, ◌+◌, ◌≤◌, ℕ, List, [], ◌∷◌, ◌++◌, length, map, ap, arith, refl, sym, subst, length-append}
use Rattle.std.proofs.Math.Nat.{le_refl}
use Rattle.std.proofs.lemmas.List.{append-nil, map-append}
use Rattle.std.specs.Io.KnownBytes.{IsAtEnd}
use Rattle.ha_io.specs.Counts.{Rose}
use Rattle.ha_io.specs.Told.{Gives}
use Rattle.ha_io.proofs.CountLemmas.{Rose-within}
use Rattle.ha_io.proofs.ToldLemmas.{Gives-Gives, Gives-nothing}
use Rattle.std.specs.Prelude.{Option}
use Rattle.ha_config.specs.declared.command.Cmd.{Cmd}
use Rattle.ha_config.specs.declared.config.Config.{Config}
use Rattle.ha_config.specs.Fair.{prepared}
use Rattle.ha_config.specs.Words.{Text}
use Rattle.ha_text.specs.Lines.{SameLines, lines_of, whole_lines}
use Rattle.flow_line.specs.Command.{cmd_of}
use Rattle.bus_pass.specs.declared.hand.Hand.{Hand}
use Rattle.ha_worker.specs.Courses.{Course, GaveBytes, HasGiven, SourceState, cmd_read, cmds_by, most_bytes}
use Rattle.ha_worker.specs.Puts.{PutAll, PutSome}
use Rattle.ha_worker.specs.Taken.{AtBound, Fed, FedSome, Took, TookAll, rest_by}
use Rattle.ha_worker.proofs.CourseLemmas.{same_whole, took_all, took_piece, took_pushed, took_then, took_whole, whole_empty}
use Rattle.ha_worker.proofs.LineLemmas.{all_then, put_nothing, some_held, some_then}
use Rattle.ha_worker.proofs.ReadLemmas.{all_prepared}

-- so many bytes were read, their whole lines were put, and so many may still come
pub record Reading (read : Text → Option Config) (k : ℕ) (a b : Hand) (first now : SourceState) (cut : Text) (room : ℕ) : Type 0 where
  pub bytes : Text
  pub lines : List Text
  pub gives : Gives first.left bytes now.left
  pub room_is : length bytes + room ≡ most_bytes
  pub faults_stay : first.faults ≤ now.faults
  pub same_name : now.name ≡ first.name
  pub took : Took bytes lines cut
  pub none : whole_lines cut ≡ []
  pub put : PutAll k (map (cmd_read read) lines) a b

pub start_reading : (read : Text → Option Config) (k : ℕ) (a : Hand) (s : SourceState) (cut : Text) (room : ℕ) → cut ≡ [] → room ≡ most_bytes → Reading read k a a s s cut room
start_reading read k a s cut room fresh all = record {
  bytes = [];
  lines = [];
  gives = Gives-nothing s.left;
  room_is = omega (arith, all);
  faults_stay = le_refl s.faults;
  same_name = refl;
  took = λ more. ap (λ (z : Text). lines_of (z ++ more)) (sym fresh);
  none = ap whole_lines fresh ∙ whole_empty;
  put = put_nothing k a;
}

-- a piece was read
module _ (read : Text → Option Config) (k : ℕ) (a b : Hand) (first now after : SourceState) (cut piece : Text) (room : ℕ) (r : Reading read k a b first now cut room) (fits : length piece ≤ room)
    (gives : Gives now.left piece after.left) (stay : now.faults ≤ after.faults) (name : after.name ≡ now.name) where
  goes_on : HasGiven Course.Goes (r.bytes ++ piece) first after
  goes_on = record {
    gave = Gives-Gives first.left now.left after.left r.bytes piece r.gives gives;
    within = omega (arith, r.room_is, fits, length-append r.bytes piece);
    faults_stay = omega (arith, r.faults_stay, stay);
    same_name = name ∙ r.same_name;
  }

  -- it was not handed to the cut
  pub read_lost : FedSome read k a b first after
  read_lost = record {
    bytes = r.bytes ++ piece;
    given = goes_on;
    some = some_held read k (r.bytes ++ piece) (cut ++ piece) r.lines a b (took_piece r.bytes cut piece r.lines r.took) r.put;
  }

  module _ (cut' : Text) (same : SameLines cut' (cut ++ piece)) where
    pushed : Took (r.bytes ++ piece) r.lines cut'
    pushed = took_pushed r.bytes cut cut' piece r.lines r.took same

    -- its whole lines were not all put
    pub read_some : (c : Hand) → PutSome k (map (cmd_read read) (whole_lines cut')) b c → FedSome read k a c first after
    read_some c some = record {
      bytes = r.bytes ++ piece;
      given = goes_on;
      some = subst (λ z. PutSome k z a c)
          (sym (ap (map (cmd_read read)) (took_whole (r.bytes ++ piece) cut' r.lines pushed) ∙ map-append (cmd_read read) r.lines (whole_lines cut')))
          (some_then k (map (cmd_read read) r.lines) (map (cmd_read read) (whole_lines cut')) a b c r.put some);
    }

    -- they were
    pub read_on : (c : Hand) (cut'' : Text) (room' : ℕ) → room' + length piece ≡ room → TookAll read k cut' cut'' b c → Reading read k a c first after cut'' room'
    read_on c cut'' room' left t = record {
      bytes = r.bytes ++ piece;
      lines = r.lines ++ t.lines;
      gives = goes_on.gave;
      room_is = omega (arith, r.room_is, left, length-append r.bytes piece);
      faults_stay = goes_on.faults_stay;
      same_name = goes_on.same_name;
      took = took_then (r.bytes ++ piece) cut' cut'' r.lines t.lines pushed t.took;
      none = t.none;
      put = subst (λ z. PutAll k z a c) (sym (map-append (cmd_read read) r.lines t.lines)) (all_then k (map (cmd_read read) r.lines) (map (cmd_read read) t.lines) a b c r.put t.put);
    }

    -- it was the end
    pub read_end : length piece ≡ 0 → IsAtEnd after.left → Fed read k Course.Ends a b cut' first after
    read_end empty end = record {
      bytes = r.bytes ++ piece;
      lines = r.lines;
      given = record { gave = (goes_on.gave, end); within = goes_on.within; faults_stay = goes_on.faults_stay; same_name = goes_on.same_name };
      took = pushed;
      none = same_whole cut' (cut ++ piece) same ∙ ap (λ (z : Text). whole_lines (cut ++ z)) (no_bytes piece empty) ∙ ap whole_lines (append-nil cut) ∙ r.none;
      put = r.put;
    }
      where
        no_bytes : (xs : Text) → length xs ≡ 0 → xs ≡ []
        no_bytes [] e = refl
        no_bytes (x ∷ xs) e = absurd (omega (arith, e))

-- the read failed
pub read_failed : (read : Text → Option Config) (k : ℕ) (a b : Hand) (first now after : SourceState) (cut cut' : Text) (room : ℕ) → Reading read k a b first now cut room → after.left ≡ now.left → Rose now.faults after.faults
    → now.faults ≤ after.faults → after.name ≡ now.name → cut' ≡ cut → Fed read k Course.Fails a b cut' first after
read_failed read k a b first now after cut cut' room r left rose stay name same = record {
  bytes = r.bytes;
  lines = r.lines;
  given = record {
    gave = (subst (λ z. Gives first.left r.bytes z) (sym left) r.gives, Rose-within first.faults now.faults after.faults after.faults r.faults_stay rose (le_refl after.faults));
    within = omega (arith, r.room_is);
    faults_stay = omega (arith, r.faults_stay, stay);
    same_name = name ∙ r.same_name;
  };
  took = subst (λ z. Took r.bytes r.lines z) (sym same) r.took;
  none = ap whole_lines same ∙ r.none;
  put = r.put;
}

-- all bytes that may come were read
pub read_past : (read : Text → Option Config) (k : ℕ) (a b : Hand) (first now after : SourceState) (cut : Text) (room : ℕ) (course : Course) → Reading read k a b first now cut room → room ≡ 0 → AtBound course now after
    → now.faults ≤ after.faults → after.name ≡ now.name → Fed read k course a b cut first after
read_past read k a b first now after cut room course r full at stay name = record {
  bytes = r.bytes;
  lines = r.lines;
  given = record {
    gave = by course at;
    within = omega (arith, r.room_is);
    faults_stay = omega (arith, r.faults_stay, stay);
    same_name = name ∙ r.same_name;
  };
  took = r.took;
  none = r.none;
  put = r.put;
}
  where
    by : (x : Course) → AtBound x now after → GaveBytes x r.bytes first after
    by Course.Goes h = absurd h
    by Course.Ends h = (subst (λ (z : Text). Gives first.left z after.left) (append-nil r.bytes) (Gives-Gives first.left now.left after.left r.bytes [] r.gives h.0), h.1)
    by Course.Fails h = (subst (λ z. Gives first.left r.bytes z) (sym h.0) r.gives, Rose-within first.faults now.faults after.faults after.faults r.faults_stay h.1 (le_refl after.faults))
    by Course.Exceeds h = (h.0, omega (arith, r.room_is, full), Gives-Gives first.left now.left after.left r.bytes (h.0 ∷ []) r.gives h.1)

-- ---- the commands of what was read

pub fed_cmds : (read : Text → Option Config) (k : ℕ) (course : Course) (a b : Hand) (cut : Text) (s s' : SourceState) → (f : Fed read k course a b cut s s')
    → map (prepared read) (cmds_by course f.bytes) ≡ map (cmd_read read) f.lines ++ rest_by read course cut
fed_cmds read k course a b cut s s' f = by course
  where
    lines : map cmd_of (whole_lines f.bytes) ≡ map cmd_of f.lines
    lines = ap (map cmd_of) (took_whole f.bytes cut f.lines f.took ∙ ap (λ (z : List Text). f.lines ++ z) f.none ∙ append-nil f.lines)

    whole : map (prepared read) (map cmd_of (whole_lines f.bytes)) ≡ map (cmd_read read) f.lines
    whole = ap (map (prepared read)) lines ∙ all_prepared read f.lines

    by : (x : Course) → map (prepared read) (cmds_by x f.bytes) ≡ map (cmd_read read) f.lines ++ rest_by read x cut
    by Course.Goes = whole ∙ sym (append-nil (map (cmd_read read) f.lines))
    by Course.Ends = all_prepared read (lines_of f.bytes) ∙ ap (map (cmd_read read)) (took_all f.bytes cut f.lines f.took) ∙ map-append (cmd_read read) f.lines (lines_of cut)
    by Course.Fails = map-append (prepared read) (map cmd_of (whole_lines f.bytes)) (Cmd.Lost ∷ []) ∙ ap (λ (z : List Cmd). z ++ (Cmd.Lost ∷ [])) whole
    by Course.Exceeds = map-append (prepared read) (map cmd_of (whole_lines f.bytes)) (Cmd.TooLong ∷ []) ∙ ap (λ (z : List Cmd). z ++ (Cmd.TooLong ∷ [])) whole
