-- The kinds of expressions, and of pieces, that have more than one part within them.
use Rattle.std.specs.Prelude.{Bool, true, false}
use Rattle.ha_config.specs.declared.template.Expr.{Expr}
use Rattle.ha_config.specs.declared.template.Expr.TheOpen.{Expr-F}
use Rattle.ha_config.specs.declared.template.Piece.{Piece}
use Rattle.ha_config.specs.declared.template.Template.{Template}
use Rattle.ha_config.specs.declared.template.Piece.TheOpen.{Piece-F}

-- a list, a function or a test, which make no long chains
abbrev pub makes_no_chain : Expr-F Expr → Bool
makes_no_chain (Expr-F.List items) = true
makes_no_chain (Expr-F.Function name args) = true
makes_no_chain (Expr-F.Negate e) = true
makes_no_chain (Expr-F.Not e) = true
makes_no_chain (Expr-F.IsNone base holds) = true
makes_no_chain _ = false

abbrev pub is_field : Expr-F Expr → Bool
is_field (Expr-F.Field base name) = true
is_field _ = false

abbrev pub is_at : Expr-F Expr → Bool
is_at (Expr-F.At base index) = true
is_at _ = false

-- one step of a path
abbrev pub is_step : Expr-F Expr → Bool
is_step (Expr-F.Field base name) = true
is_step (Expr-F.At base index) = true
is_step _ = false

abbrev pub is_filter : Expr-F Expr → Bool
is_filter (Expr-F.Filter name base args) = true
is_filter _ = false

abbrev pub is_pair : Expr-F Expr → Bool
is_pair (Expr-F.Pair op left right) = true
is_pair _ = false

abbrev pub is_pick : Expr-F Expr → Bool
is_pick (Expr-F.Pick test yes' no') = true
is_pick _ = false

abbrev pub is_choice : Piece-F Piece Template → Bool
is_choice (Piece-F.Choice arms fallback) = true
is_choice _ = false
