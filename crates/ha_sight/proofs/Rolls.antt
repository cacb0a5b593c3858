-- What each definition by a fold is at one level of its tree.
use Rattle.ha_sight.specs.declared.item.Item.{Item}
use Rattle.std.proofs.Common.{◌≡◌, ℕ, suc, List, [], ◌∷◌, ◌++◌, refl, ap}
use Rattle.ha_config.specs.declared.template.Expr.{Expr}
use Rattle.ha_config.specs.declared.template.Expr.TheOpen.{Expr-F}
use Rattle.ha_config.specs.declared.template.Expr.TheViews.{out-Expr, roll-Expr}
use Rattle.ha_config.specs.declared.template.Expr.TheFolds.{fold-roll-Expr, fold_out-Expr, map-Expr}
use Rattle.ha_config.specs.declared.template.Piece.{Piece}
use Rattle.ha_config.specs.declared.template.Template.{Template}
use Rattle.ha_config.specs.declared.template.Piece.TheOpen.{Piece-F, Template-F}
use Rattle.ha_config.specs.declared.template.Piece.TheViews.{out-Piece, out-Template, roll-Piece, roll-Template}
use Rattle.ha_config.specs.declared.template.Piece.TheFolds.{fold-Piece, fold-roll-Piece, fold-roll-Template, fold_out-Piece, fold_out-Template, map-Piece, map-Template}
use Rattle.ha_config.specs.declared.config.Form.{Form}
use Rattle.ha_config.specs.declared.config.Form.TheOpen.{Form-F}
use Rattle.ha_config.specs.declared.config.Form.TheViews.{out-Form, roll-Form}
use Rattle.ha_config.specs.declared.config.Form.TheFolds.{fold-roll-Form, fold_out-Form, map-Form}
use Rattle.ha_config.specs.declared.config.Condition.{Condition}
use Rattle.ha_config.specs.declared.config.Condition.TheOpen.{Condition-F}
use Rattle.ha_config.specs.declared.config.Condition.TheViews.{out-Condition, roll-Condition}
use Rattle.ha_config.specs.declared.config.Condition.TheFolds.{fold-roll-Condition, fold_out-Condition, map-Condition}
use Rattle.ha_config.specs.declared.config.Action.{Action}
use Rattle.ha_config.specs.declared.config.ActionKind.{ActionKind}
use Rattle.ha_config.specs.declared.config.ActionKind.TheOpen.{ActionKind-F, Action-F}
use Rattle.ha_config.specs.declared.config.ActionKind.TheViews.{roll-ActionKind, roll-Action, out-ActionKind, out-Action}
use Rattle.ha_config.specs.declared.config.ActionKind.TheFolds.{fold-ActionKind, fold-roll-ActionKind, fold-roll-Action, fold_out-ActionKind, fold_out-Action, map-ActionKind, map-Action}
use Rattle.ha_config.specs.Words.{Pairs}
use Rattle.ha_sight.specs.Sight.{Sight}
use Rattle.ha_sight.specs.Templates as t
use Rattle.ha_sight.specs.Conditions as c
use Rattle.ha_sight.specs.Scripts.{Scopes, Branch, Spot, Meaning, Loop, Next, Part, turns, after_turn, gives, kind_step, action_step, run_action}
use Rattle.ha_sight.specs.Branches.{action_branches, kind_branches}
use Rattle.ha_config.proofs.ValueRolls.{print_value-roll, equal_value-roll, depth_of-roll, is_sound_value-roll, same_value-roll}

pub value_of-roll : (s : Sight) (x : Expr-F Expr) (env : Pairs) → t.value_of s (roll-Expr x) env ≡ t.expr_step s (map-Expr Expr (t.Meaning s) (t.value_of s) x) env
value_of-roll s x env = ap (λ f. f env) (fold-roll-Expr (t.Meaning s) (t.expr_step s) x)

-- the piece's part of the fold that `pieces_of` is
abbrev pub piece_meaning : (s : Sight) → Piece → t.PieceMeaning s
piece_meaning s = fold-Piece (t.PieceMeaning s) (t.TemplateMeaning s) (t.piece_step s) (t.template_step s)

pub pieces_of-roll : (s : Sight) (x : Template-F Piece Template) (env : Pairs)
    → t.pieces_of s (roll-Template x) env ≡ t.template_step s (map-Template Piece Template (t.PieceMeaning s) (t.TemplateMeaning s) (piece_meaning s) (t.pieces_of s) x) env
pieces_of-roll s x env = ap (λ f. f env) (fold-roll-Template (t.PieceMeaning s) (t.TemplateMeaning s) (t.piece_step s) (t.template_step s) x)

pub piece-roll : (s : Sight) (x : Piece-F Piece Template) (env : Pairs)
    → piece_meaning s (roll-Piece x) env ≡ t.piece_step s (map-Piece Piece Template (t.PieceMeaning s) (t.TemplateMeaning s) (piece_meaning s) (t.pieces_of s) x) env
piece-roll s x env = ap (λ f. f env) (fold-roll-Piece (t.PieceMeaning s) (t.TemplateMeaning s) (t.piece_step s) (t.template_step s) x)

pub data_of-roll : (s : Sight) (x : Form-F Form) (env : Pairs) → t.data_of s (roll-Form x) env ≡ t.form_step s (map-Form Form (t.Meaning s) (t.data_of s) x) env
data_of-roll s x env = ap (λ f. f env) (fold-roll-Form (t.Meaning s) (t.form_step s) x)

pub holds-roll : (s : Sight) (x : Condition-F Condition) (env : Pairs) → c.holds s (roll-Condition x) env ≡ c.condition_step s (map-Condition Condition (c.Test s) (c.holds s) x) env
holds-roll s x env = ap (λ f. f env) (fold-roll-Condition (c.Test s) (c.condition_step s) x)

-- the kind's part of the fold that `run_action` is
abbrev pub run_kind : ActionKind → Spot → Meaning
run_kind = fold-ActionKind (Spot → Meaning) Meaning kind_step action_step

pub run_action-roll : (x : Action-F ActionKind Action) (next end : Next) (scopes : Scopes) (b : Branch) (ps : List Spot)
    → run_action (roll-Action x) next end scopes b ps ≡ action_step (map-Action ActionKind Action (Spot → Meaning) Meaning run_kind run_action x) next end scopes b ps
run_action-roll x next end scopes b ps = ap (λ f. f next end scopes b ps) (fold-roll-Action (Spot → Meaning) Meaning kind_step action_step x)

pub run_kind-roll : (x : ActionKind-F ActionKind Action) (p : Spot) (next end : Next) (scopes : Scopes) (b : Branch) (ps : List Spot)
    → run_kind (roll-ActionKind x) p next end scopes b ps ≡ kind_step (map-ActionKind ActionKind Action (Spot → Meaning) Meaning run_kind run_action x) p next end scopes b ps
run_kind-roll x p next end scopes b ps = ap (λ f. f p next end scopes b ps) (fold-roll-ActionKind (Spot → Meaning) Meaning kind_step action_step x)

abbrev pub below_kind : ActionKind → List Branch
below_kind = fold-ActionKind (List Branch) (List Branch) kind_branches (λ a. a.kind)

pub action_branches-roll : (x : Action-F ActionKind Action) → action_branches (roll-Action x) ≡ below_kind x.kind
action_branches-roll x = fold-roll-Action (List Branch) (List Branch) kind_branches (λ a. a.kind) x

pub below_kind-roll : (x : ActionKind-F ActionKind Action) → below_kind (roll-ActionKind x) ≡ kind_branches (map-ActionKind ActionKind Action (List Branch) (List Branch) below_kind action_branches x)
below_kind-roll x = fold-roll-ActionKind (List Branch) (List Branch) kind_branches (λ a. a.kind) x

pub ruleset rolls = (same_value-roll, equal_value-roll, print_value-roll, depth_of-roll, is_sound_value-roll, value_of-roll, pieces_of-roll, piece-roll, data_of-roll, holds-roll, run_action-roll, run_kind-roll, action_branches-roll, below_kind-roll)

pub turns-more : (body : Part) (loop : Loop) (b : Branch) (next : Next) (more i : ℕ) (scopes : Scopes) (ps : List Spot)
    → turns body loop b next (suc more) i scopes ps ≡ body (after_turn body loop b next i (λ s rest. gives Item.Nothing (turns body loop b next more (suc i) s rest))) (scopes ++ (loop.variables i ∷ [])) b ps
unfolding turns
turns-more body loop b next more i scopes ps = refl

-- the same at a value that is opened
pub run_action-out : (a : Action) (next end : Next) (scopes : Scopes) (b : Branch) (ps : List Spot)
    → run_action a next end scopes b ps ≡ action_step (map-Action ActionKind Action (Spot → Meaning) Meaning run_kind run_action (out-Action a)) next end scopes b ps
run_action-out a next end scopes b ps = ap (λ f. f next end scopes b ps) (fold_out-Action (Spot → Meaning) Meaning kind_step action_step a)

pub run_kind-out : (k : ActionKind) (p : Spot) (next end : Next) (scopes : Scopes) (b : Branch) (ps : List Spot)
    → run_kind k p next end scopes b ps ≡ kind_step (map-ActionKind ActionKind Action (Spot → Meaning) Meaning run_kind run_action (out-ActionKind k)) p next end scopes b ps
run_kind-out k p next end scopes b ps = ap (λ f. f p next end scopes b ps) (fold_out-ActionKind (Spot → Meaning) Meaning kind_step action_step k)

pub value_of-out : (s : Sight) (x : Expr) (env : Pairs) → t.value_of s x env ≡ t.expr_step s (map-Expr Expr (t.Meaning s) (t.value_of s) (out-Expr x)) env
value_of-out s x env = ap (λ f. f env) (fold_out-Expr (t.Meaning s) (t.expr_step s) x)

pub pieces_of-out : (s : Sight) (x : Template) (env : Pairs)
    → t.pieces_of s x env ≡ t.template_step s (map-Template Piece Template (t.PieceMeaning s) (t.TemplateMeaning s) (piece_meaning s) (t.pieces_of s) (out-Template x)) env
pieces_of-out s x env = ap (λ f. f env) (fold_out-Template (t.PieceMeaning s) (t.TemplateMeaning s) (t.piece_step s) (t.template_step s) x)

pub piece-out : (s : Sight) (x : Piece) (env : Pairs)
    → piece_meaning s x env ≡ t.piece_step s (map-Piece Piece Template (t.PieceMeaning s) (t.TemplateMeaning s) (piece_meaning s) (t.pieces_of s) (out-Piece x)) env
piece-out s x env = ap (λ f. f env) (fold_out-Piece (t.PieceMeaning s) (t.TemplateMeaning s) (t.piece_step s) (t.template_step s) x)

pub data_of-out : (s : Sight) (x : Form) (env : Pairs) → t.data_of s x env ≡ t.form_step s (map-Form Form (t.Meaning s) (t.data_of s) (out-Form x)) env
data_of-out s x env = ap (λ f. f env) (fold_out-Form (t.Meaning s) (t.form_step s) x)

pub holds-out : (s : Sight) (x : Condition) (env : Pairs) → c.holds s x env ≡ c.condition_step s (map-Condition Condition (c.Test s) (c.holds s) (out-Condition x)) env
holds-out s x env = ap (λ f. f env) (fold_out-Condition (c.Test s) (c.condition_step s) x)
