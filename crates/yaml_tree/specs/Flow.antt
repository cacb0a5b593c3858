-- Flow on one line, token by token, with the brackets that are open.
use Rattle.std.specs.Prelude.{◌≡◌, ℕ, zero, suc, ◌+◌, max, min, Bool, true, false, not, ◌||◌, ◌&&◌, ◌==◌, nat_lt}
use Rattle.std.specs.Prelude.{if◌then◌else◌, List, [], ◌∷◌, ◌++◌, length, take, drop, Option, Some, None, Result, Ok, Err}
use Rattle.yaml_scan.specs.declared.fault.Code.{Code}
use Rattle.yaml_scan.specs.declared.fault.Code.TheVariants.{Structure, LeftOut}
use Rattle.yaml_scan.specs.Words.{is_blank, is_empty, is_some, has_colon, colon_at, trimmed}
use Rattle.yaml_scan.specs.Quoted.{State, opened, run as quoted_run}
use Rattle.yaml_tree.specs.declared.node.Node.{Node}
use Rattle.yaml_tree.specs.declared.flow.Frame.{Frame}
use Rattle.yaml_tree.specs.declared.flow.Turn.{Turn}
use Rattle.yaml_tree.specs.declared.flow.Turn.TheVariants as turns
use Rattle.yaml_tree.specs.Nodes.{null, scalar_node, listed, mapped, has_key}
use Rattle.yaml_tree.specs.Starts.{left_out, no_plain, is_merge}
use Rattle.yaml_tree.specs.Brackets.{is_word_end, ends_key}

-- What was read: the innermost open bracket and those around it, whether an item was read last, so that a comma or the end
-- comes next, how many nodes stand in one another, whether a key was repeated, whether a space was read last, and the bytes
-- behind.
pub record Machine : Type 0 where
  pub line : ℕ
  pub frame : Frame
  pub frames : List Frame
  pub after : Bool
  pub height : ℕ
  pub repeated : Bool
  pub spaced : Bool
  pub rest : List ℕ

-- the node, how many nodes stand in one another in it, whether a key is repeated, and what is behind the flow
pub record Ended : Type 0 where
  pub node : Node
  pub height : ℕ
  pub repeated : Bool
  pub rest : List ℕ

-- it goes on, or it has ended, or a code is the answer
pub data Step : Type 0 where
  on : Machine → Step
  ended : Ended → Step
  fails : Code → Step

-- ---- brackets

abbrev pub fresh : Bool → Frame
fresh is_map = record { is_map = is_map; items = []; pairs = []; key = None }

-- in a map a key may wait for its value
abbrev pub paired : Option (List ℕ) → Frame → ℕ → Node → Frame
paired (Some key) f line node = record { is_map = f.is_map; items = f.items; pairs = f.pairs ++ (key, line, node) ∷ []; key = None }
paired None f line node = f

abbrev pub held : Frame → ℕ → Node → Frame
held f line node =
    if f.is_map then paired f.key f line node else record { is_map = f.is_map; items = f.items ++ node ∷ []; pairs = f.pairs; key = f.key }

abbrev pub node_of : Frame → ℕ → Node
node_of f line = if f.is_map then mapped line f.pairs else listed line f.items

abbrev pub closing : Frame → ℕ
closing f = if f.is_map then 125 else 93

abbrev pub wants_key : Frame → Bool
wants_key f = f.is_map && not (is_some f.key)

-- With so many brackets around the innermost one, what stands in it is two deeper. Past the limit the number is no longer exact.
abbrev pub raised : ℕ → ℕ → ℕ
raised height around = max height (min around 63 + 2)

-- a node with so many brackets around it; past the limit it is not kept, since the answer is then a fault
abbrev pub kept : ℕ → ℕ → Node → Node
kept around line node = if nat_lt around 64 then node else null line

abbrev pub holding : Machine → Node → Machine
holding m node =
    record {
      line = m.line;
      frame = held m.frame m.line node;
      frames = m.frames;
      after = true;
      height = raised m.height (length m.frames);
      repeated = m.repeated;
      spaced = m.spaced;
      rest = m.rest;
    }

abbrev pub opens : Machine → Bool → Machine
opens m is_map =
    record {
      line = m.line;
      frame = fresh is_map;
      frames = m.frame ∷ m.frames;
      after = false;
      height = raised m.height (length m.frames);
      repeated = m.repeated;
      spaced = m.spaced;
      rest = m.rest;
    }

abbrev pub closed : Machine → Node → List Frame → Step
closed m node [] = ended (record { node = node; height = m.height; repeated = m.repeated; rest = m.rest })
closed m node (f ∷ fs) =
    on (record {
      line = m.line;
      frame = held f m.line node;
      frames = fs;
      after = true;
      height = m.height;
      repeated = m.repeated;
      spaced = m.spaced;
      rest = m.rest;
    })

abbrev pub closes : Machine → Step
closes m = closed m (kept (length m.frames) m.line (node_of m.frame m.line)) m.frames

-- ---- keys and scalars

-- behind a scalar: what is left, and whether a comment may begin there
abbrev pub behind : Machine → Bool → List ℕ → Machine
behind m spaced rest =
    record {
      line = m.line;
      frame = m.frame;
      frames = m.frames;
      after = m.after;
      height = m.height;
      repeated = m.repeated;
      spaced = spaced;
      rest = rest;
    }

-- a key that waits for its value; a repeated one is noted
abbrev pub awaiting : Machine → List ℕ → Machine
awaiting m key =
    record {
      line = m.line;
      frame = record { is_map = m.frame.is_map; items = m.frame.items; pairs = m.frame.pairs; key = Some key };
      frames = m.frames;
      after = false;
      height = m.height;
      repeated = m.repeated || has_key m.frame.pairs key;
      spaced = m.spaced;
      rest = m.rest;
    }

-- a key that is not empty, with a colon behind it
abbrev pub keyed : Machine → List ℕ → Step
keyed m key = if is_empty key then fails Structure else on (awaiting m key)

-- a key alone, whose value is null
abbrev pub alone : Machine → List ℕ → Step
alone m key = if is_empty key then fails Structure else on (holding (awaiting m key) (null m.line))

-- a colon, and behind it a blank, a comma, a bracket or a brace
abbrev pub colon_behind : List ℕ → Bool
colon_behind [] = false
colon_behind (b ∷ rest) = b == 58 && ends_key rest

abbrev pub quoted_here : Machine → List ℕ → Step
quoted_here m text =
    if not (wants_key m.frame) then on (holding m (scalar_node m.line text false)) else
    (if colon_behind m.rest then keyed (behind m false (drop 1 m.rest)) text else alone m text)

abbrev pub quoted_by : Machine → State → Option (List ℕ) → Step
quoted_by m s None = fails Structure
quoted_by m s (Some rest) = if is_some s.bad then fails Structure else quoted_here (behind m false rest) s.text

abbrev pub quoted : Machine → ℕ → Step
quoted m b = let r : State × Option (List ℕ) = quoted_run (opened b m.line) m.rest in quoted_by m r.0 r.1

-- where a plain scalar ends in these bytes
unfoldable pub word_end : Bool → ℕ → List ℕ → ℕ
word_end spaced at [] = at
word_end spaced at (b ∷ rest) = if is_word_end b spaced then at else word_end (b == 32) (at + 1) rest

-- a key of these bytes, whose first one was read before; so many more belong to it
abbrev pub plain_key : Machine → List ℕ → ℕ → Option ℕ → Step
plain_key m w count None = if is_merge (trimmed w) then fails LeftOut else alone (behind m true (drop count m.rest)) (trimmed w)
plain_key m w count (Some at) =
    if is_merge (trimmed (take at w)) then fails LeftOut else keyed (behind m false (drop at m.rest)) (trimmed (take at w))

abbrev pub plain_by : Machine → List ℕ → ℕ → Step
plain_by m w count =
    if wants_key m.frame then plain_key m w count (colon_at false 0 w) else
    (if has_colon w then fails Structure else on (holding (behind m true (drop count m.rest)) (scalar_node m.line (trimmed w) true)))

-- a plain scalar that begins with this byte
abbrev pub plain : Machine → ℕ → Step
plain m b = plain_by m (take (word_end false 0 m.rest + 1) (b ∷ m.rest)) (word_end false 0 m.rest)

abbrev pub scalar : Machine → ℕ → Step
scalar m b =
    if b == 34 || b == 39 then quoted m b else
    (if left_out b m.rest then fails LeftOut else (if no_plain b m.rest then fails Structure else plain m b))

-- ---- tokens

-- where a comma or the end may come
abbrev pub after_step : Machine → ℕ → Step
after_step m b =
    if b == 44 then on (record {
      line = m.line;
      frame = m.frame;
      frames = m.frames;
      after = false;
      height = m.height;
      repeated = m.repeated;
      spaced = m.spaced;
      rest = m.rest;
    }) else
    (if b == closing m.frame then closes m else fails Structure)

-- where an item, a key, a key's value or the end may come
abbrev pub item_step : Machine → ℕ → Step
item_step m b =
    if is_some m.frame.key && (b == 44 || b == 125) then after_step (holding m (null m.line)) b else
    (if b == closing m.frame then closes m else
    (if b == 91 || b == 123 then (if wants_key m.frame then fails Structure else on (opens m (b == 123))) else scalar m b))

-- the next byte, and whether a space stood before it
abbrev pub token : Machine → Bool → ℕ → Step
token m spaced b =
    if is_blank b then on m else
    (if b == 35 && spaced then fails LeftOut else (if m.after then after_step m b else item_step m b))

-- Flow that is not closed on its line is left out.
abbrev pub step_by : Machine → List ℕ → Step
step_by m [] = fails LeftOut
step_by m (b ∷ rest) = token (behind m (b == 32) rest) m.spaced b

abbrev pub step : Machine → Step
step m = step_by m m.rest

abbrev pub ran : Step → (Machine → Result Ended Code) → Result Ended Code
ran (on m) more = more m
ran (ended e) more = Ok e
ran (fails code) more = Err code

-- Each step takes a byte, so as many steps as there are bytes, and one more, are never used up.
unfoldable pub run : ℕ → Machine → Result Ended Code
run zero m = Err LeftOut
run (suc n) m = ran (step m) (run n)

abbrev pub start : ℕ → Bool → List ℕ → Machine
start line is_map bytes =
    record { line = line; frame = fresh is_map; frames = []; after = false; height = 1; repeated = false; spaced = false; rest = bytes }

-- behind an opening bracket
unfoldable pub flow : ℕ → Bool → List ℕ → Result Ended Code
flow line is_map bytes = run (suc (length bytes)) (start line is_map bytes)

-- What a step left and answered.
abbrev pub IsTurn : Step → Turn → Machine → Type 0
IsTurn s turns.On new = s ≡ on new
IsTurn s (turns.Ended node) new = s ≡ ended (record { node = node; height = new.height; repeated = new.repeated; rest = new.rest })
IsTurn s (turns.Fails code) new = s ≡ fails code

-- What a step left and answered, unless memory ran out.
abbrev pub IsStep : {E : Type 0} → Step → Result Turn E → Machine → Type 0
IsStep s (Err e) new = Unit {0}
IsStep s (Ok turn) new = IsTurn s turn new

-- What all steps left and answered, unless memory ran out.
abbrev pub IsRan : {E : Type 0} → Result Ended Code → Result (Result Node Code) E → Machine → Type 0
IsRan r (Err e) new = Unit {0}
IsRan r (Ok (Ok node)) new = r ≡ Ok (record { node = node; height = new.height; repeated = new.repeated; rest = new.rest })
IsRan r (Ok (Err code)) new = r ≡ Err code

-- what reading gives, by its parts
abbrev pub IsEnded : Result Ended Code → Result Node Code → List ℕ → Bool → ℕ → Type 0
IsEnded meant (Ok node) rest repeated height = meant ≡ Ok (record { node = node; height = height; repeated = repeated; rest = rest })
IsEnded meant (Err code) rest repeated height = meant ≡ Err code
