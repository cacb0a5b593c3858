-- Which entities a template reads, where they are all written in it.
use Rattle.std.specs.Prelude.{ℕ, Bool, ◌||◌, nat_eq, List, [], ◌∷◌, ◌++◌, map, Option, Some, None, option_map, option_and_then, option_to_list, if◌then◌else◌}
use Rattle.ha_value.specs.declared.value.EntityId.{EntityId}
use Rattle.ha_value.specs.declared.value.Value.{Value}
use Rattle.ha_value.specs.Ids.{read_entity}
use Rattle.ha_config.specs.declared.template.Expr.{Expr}
use Rattle.ha_config.specs.declared.template.Expr.TheOpen.{Expr-F}
use Rattle.ha_config.specs.declared.template.Expr.TheFolds.{fold-Expr}
use Rattle.ha_config.specs.declared.template.Template.{Template}
use Rattle.ha_config.specs.declared.template.Piece.{Piece}
use Rattle.ha_config.specs.declared.template.Piece.TheOpen.{Piece-F, Template-F}
use Rattle.ha_config.specs.declared.template.Piece.TheFolds.{fold-Piece, fold-Template}
use Rattle.ha_sight.specs.FilterNumbers as filter
use Rattle.ha_sight.specs.FunctionNumbers as function
use Rattle.ha_sight.specs.Rules.{each_once}
use Rattle.ha_sight.specs.Values.{text_of}

-- entities, where all of them are written
abbrev pub Written : Type 0
Written = Option (List EntityId)

abbrev pub both : Written → Written → Written
both xs ys = option_and_then (λ es. option_map (λ fs. es ++ fs) ys) xs

abbrev pub all_of : List Written → Written
all_of [] = Some []
all_of (w ∷ ws) = both w (all_of ws)

-- the functions that look at the state of the entity that their first argument names
abbrev pub looks_up : ℕ → Bool
looks_up name =
    nat_eq name function.states || nat_eq name function.state_attr || nat_eq name function.is_state || nat_eq name function.is_state_attr
    || nat_eq name function.has_value

-- the filters that give an item of a list
abbrev pub takes_item : ℕ → Bool
takes_item name = nat_eq name filter.first || nat_eq name filter.last

-- the entity whose id a value is; a text that is no id, and a value that is no text, name none
abbrev pub ids_in : Value → List EntityId
ids_in v = option_to_list (option_and_then read_entity (text_of v))

-- what is known of an expression: the entities that it reads, those whose ids its value may be, and, where it is a list in brackets, those
-- whose ids an item of it may be
pub record Known : Type 0 where
  pub reads : Written
  pub named : Written
  pub listed : Written

-- of a value that is computed
abbrev pub computed : Written → Known
computed reads = record { reads = reads; named = None; listed = None }

abbrev pub reads_of : List Known → Written
reads_of ks = all_of (map (λ k. k.reads) ks)

-- what a function looks up is named by its first argument
abbrev pub looked_up : ℕ → List Known → Written
looked_up name [] = Some []
looked_up name (k ∷ ks) = if looks_up name then k.named else Some []

-- without `else` a value is the empty text, which is no id
abbrev pub else_reads : Option Known → Written
else_reads None = Some []
else_reads (Some k) = k.reads

abbrev pub else_named : Option Known → Written
else_named None = Some []
else_named (Some k) = k.named

-- one level, with what is known of each inner expression in its place. What is only computed in some cases, as an arm or the right side of
-- `and`, counts in all of them
abbrev pub known_step : Expr-F Known → Known
known_step (Expr-F.Plain v) = record { reads = Some []; named = Some (ids_in v); listed = None }
known_step (Expr-F.Name name) = computed (Some [])
known_step (Expr-F.List items) = record { reads = reads_of items; named = Some []; listed = all_of (map (λ k. k.named) items) }
known_step (Expr-F.Field base name) = computed base.reads
known_step (Expr-F.At base index) = record { reads = both base.reads index.reads; named = base.listed; listed = None }
known_step (Expr-F.Filter name base args) =
    record { reads = both base.reads (reads_of args); named = if takes_item name then base.listed else None; listed = None }
known_step (Expr-F.Function name args) = computed (both (looked_up name args) (reads_of args))
known_step (Expr-F.Negate e) = computed e.reads
known_step (Expr-F.Not e) = computed e.reads
known_step (Expr-F.IsNone base holds) = computed base.reads
known_step (Expr-F.Pair op left right) = computed (both left.reads right.reads)
known_step (Expr-F.Pick test yes' no') =
    record {
      reads = both (both test.reads yes'.reads) (else_reads no');
      named = both yes'.named (else_named no');
      listed = None;
    }

abbrev pub known_of : Expr → Known
known_of = fold-Expr Known known_step

-- the entities that an expression reads, and those whose ids its value may be
abbrev pub expr_reads : Expr → Written
expr_reads e = (known_of e).reads

abbrev pub expr_named : Expr → Written
expr_named e = (known_of e).named

-- those of arms, each of them with its test
abbrev pub arms_read : List (Expr × Written) → Written
arms_read arms = all_of (map (λ a. both (expr_reads a.0) a.1) arms)

abbrev pub piece_step : Piece-F Written Written → Written
piece_step (Piece-F.Text t) = Some []
piece_step (Piece-F.Show e) = expr_reads e
piece_step (Piece-F.Assign name e) = expr_reads e
piece_step (Piece-F.Choice arms fallback) = both (arms_read arms) fallback

abbrev pub template_step : Template-F Written Written → Written
template_step t = all_of t.pieces

-- the piece's part of what a template reads
abbrev pub piece_reads : Piece → Written
piece_reads = fold-Piece Written Written piece_step template_step

-- all that a template reads, in the order of its text
abbrev pub all_reads : Template → Written
all_reads = fold-Template Written Written piece_step template_step

-- the entities whose states a template reads, each once, where all of them are written in it; None where it reads one whose id it computes,
-- be it a variable's value
abbrev pub entities_read : Template → Option (List EntityId)
entities_read t = option_map each_once (all_reads t)
