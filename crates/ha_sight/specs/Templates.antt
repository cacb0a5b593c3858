-- What a template stands for. A fault is None; what is not needed is not computed.
use Rattle.std.specs.Prelude.{Bool, false, not, List, [], ◌∷◌, ◌++◌, Option, Some, None, option_map, option_and_then, unwrap_or, codes, if◌then◌else◌}
use Rattle.ha_value.specs.declared.value.Value.{Value}
use Rattle.ha_value.specs.declared.value.Value.TheVariants.{Items, Pairs as Map}
use Rattle.ha_value.specs.Truth.{truth, says_yes_text}
use Rattle.ha_config.specs.declared.template.Op.{Op}
use Rattle.ha_config.specs.declared.template.Expr.{Expr}
use Rattle.ha_config.specs.declared.template.Expr.TheOpen.{Expr-F}
use Rattle.ha_config.specs.declared.template.Expr.TheFolds.{fold-Expr}
use Rattle.ha_config.specs.declared.template.Template.{Template}
use Rattle.ha_config.specs.declared.template.Piece.TheOpen.{Piece-F, Template-F}
use Rattle.ha_config.specs.declared.template.Piece.TheFolds.{fold-Template}
use Rattle.ha_config.specs.declared.config.Form.{Form}
use Rattle.ha_config.specs.declared.config.Form.TheOpen.{Form-F}
use Rattle.ha_config.specs.declared.config.Form.TheFolds.{fold-Form}
use Rattle.ha_config.specs.Words.{Text, Pairs, last_pair, same_without_case, without_breaks}
use Rattle.ha_sight.specs.Sight.{Sight}
use Rattle.ha_sight.specs.Filters.{filtered, applied}
use Rattle.ha_sight.specs.Values.{operate, negation, part_at, bounded, bounded_items, Result, printed, field_of, is_null, as_data}

module _ (sight : Sight) where
  -- what an expression stands for in an environment
  abbrev pub Meaning : Type 0
  Meaning = Pairs → Result

  abbrev pub all_of : List Meaning → Pairs → Option (List Value)
  all_of [] env = Some []
  all_of (m ∷ ms) env = option_and_then (λ v. option_map (λ vs. v ∷ vs) (all_of ms env)) (m env)

  -- an operator on two operands; `and` and `or` give the operand that decides, and the right one is computed only where it does
  abbrev pub pair_step : Op → Meaning → Meaning → Meaning
  pair_step Op.Or left right env = option_and_then (λ v. if truth v then Some v else right env) (left env)
  pair_step Op.And left right env = option_and_then (λ v. if truth v then right env else Some v) (left env)
  pair_step op left right env = option_and_then (λ a. option_and_then (operate op a) (right env)) (left env)

  -- without `else` the other value is the empty text
  abbrev pub else_value : Option Meaning → Meaning
  else_value None env = Some (Value.Text [])
  else_value (Some m) env = m env

  -- one level, with the meaning of each inner expression in its place
  abbrev pub expr_step : Expr-F Meaning → Meaning
  expr_step (Expr-F.Plain v) env = Some v
  expr_step (Expr-F.Name name) env = Some (unwrap_or (last_pair name env) Value.Null)
  expr_step (Expr-F.List items) env = option_and_then bounded_items (all_of items env)
  expr_step (Expr-F.Field base name) env = option_map (λ v. field_of v name) (base env)
  expr_step (Expr-F.At base index) env = option_and_then (λ v. option_map (part_at v) (index env)) (base env)
  expr_step (Expr-F.Filter name base args) env = option_and_then (λ v. option_and_then (filtered name v) (all_of args env)) (base env)
  expr_step (Expr-F.Function name args) env = option_and_then (applied sight name) (all_of args env)
  expr_step (Expr-F.Negate e) env = option_and_then negation (e env)
  expr_step (Expr-F.Not e) env = option_map (λ v. Value.Flag (not (truth v))) (e env)
  expr_step (Expr-F.IsNone base holds) env = option_map (λ v. Value.Flag (if is_null v then holds else not holds)) (base env)
  expr_step (Expr-F.Pair op left right) env = pair_step op left right env
  expr_step (Expr-F.Pick test yes' no') env = option_and_then (λ v. if truth v then yes' env else else_value no' env) (test env)

  abbrev pub value_of : Expr → Meaning
  value_of = fold-Expr Meaning expr_step

  -- a piece, and a template, gives its text and the environment that it leaves: what is set holds for the rest of the whole template
  abbrev pub PieceMeaning : Type 0
  PieceMeaning = Pairs → Option (Text × Pairs)

  abbrev pub TemplateMeaning : Type 0
  TemplateMeaning = Pairs → Option (Text × Pairs)

  abbrev pub choose_arm : List (Expr × TemplateMeaning) → TemplateMeaning → TemplateMeaning
  choose_arm [] fallback env = fallback env
  choose_arm (a ∷ arms) fallback env = option_and_then (λ v. if truth v then a.1 env else choose_arm arms fallback env) (value_of a.0 env)

  abbrev pub piece_step : Piece-F PieceMeaning TemplateMeaning → PieceMeaning
  piece_step (Piece-F.Text t) env = Some (t, env)
  piece_step (Piece-F.Show e) env = option_and_then (λ v. option_map (λ t. (t, env)) (printed v)) (value_of e env)
  piece_step (Piece-F.Assign name e) env = option_map (λ v. ([], env ++ ((name, v) ∷ []))) (value_of e env)
  piece_step (Piece-F.Choice arms fallback) env = choose_arm arms fallback env

  abbrev pub joined : List PieceMeaning → TemplateMeaning
  joined [] env = Some ([], env)
  joined (p ∷ ps) env = option_and_then (λ r. option_map (λ s. (r.0 ++ s.0, s.1)) (joined ps r.1)) (p env)

  abbrev pub template_step : Template-F PieceMeaning TemplateMeaning → TemplateMeaning
  template_step t = joined t.pieces

  -- the pieces of a template, joined
  abbrev pub pieces_of : Template → TemplateMeaning
  pieces_of = fold-Template PieceMeaning TemplateMeaning piece_step template_step

  -- the rendered text, or a fault: the joined pieces, within the bound, without the blanks and breaks at both ends
  abbrev pub rendered : Template → Pairs → Option Text
  rendered t env = option_map without_breaks (option_and_then (λ r. bounded r.0) (pieces_of t env))

  abbrev pub pairs_of : List (Text × Meaning) → Pairs → Option Pairs
  pairs_of [] env = Some []
  pairs_of (p ∷ ps) env = option_and_then (λ v. option_map (λ vs. (p.0, v) ∷ vs) (pairs_of ps env)) (p.1 env)

  abbrev pub form_step : Form-F Meaning → Meaning
  form_step (Form-F.Plain v) env = Some v
  form_step (Form-F.Text t) env = option_map as_data (rendered t env)
  form_step (Form-F.Items ms) env = option_map Items (all_of ms env)
  form_step (Form-F.Pairs ps) env = option_map Map (pairs_of ps env)

  -- the value of a form, or a fault
  abbrev pub data_of : Form → Meaning
  data_of = fold-Form Meaning form_step

-- the template of a trigger or of a wait holds: a number other than zero, or `true`, `yes`, `on` or `enable` without case; a fault does not
abbrev pub says : Option Text → Bool
says None = false
says (Some t) = says_yes_text t

-- the template of a condition holds: it is `true` without case
abbrev pub is_true_text : Option Text → Bool
is_true_text None = false
is_true_text (Some t) = same_without_case t (codes "true")
