-- A condition by its kind, and what a render gives.
use Rattle.std.proofs.Common.{◌≡◌, ◌∙◌, ap, refl, sym, ℕ, false, List, [], ◌∷◌, map}
use Rattle.std.specs.Prelude.{not, ◌&&◌, ◌||◌, Option, Some, None, Result, Ok, Err, IfOk, IfErr, option_map}
use Rattle.std.specs.List.{list_all, list_any}
use Rattle.std.specs.Option.{option_map_or}
use Rattle.ha_value.specs.declared.value.EntityId.{EntityId}
use Rattle.ha_value.specs.declared.value.Num.{Num}
use Rattle.ha_value.specs.declared.value.Value.{Value}
use Rattle.ha_value.specs.declared.value.Value.TheVariants.{outs-Text}
use Rattle.ha_sight.specs.declared.faults.TplFault.{TplFault}
use Rattle.ha_config.specs.declared.config.Condition.{Condition}
use Rattle.ha_config.specs.declared.config.Condition.TheOpen.{Condition-F}
use Rattle.ha_config.specs.declared.config.Condition.TheViews.{out-Condition}
use Rattle.ha_config.specs.declared.config.Condition.TheFolds.{map-Condition}
use Rattle.ha_config.specs.declared.config.Condition.TheVariants.{And, Or, Not, State, Numeric, Trigger, outs-And, outs-Or, outs-Not, outs-State, outs-Numeric, outs-Trigger}
use Rattle.ha_sight.specs.Sight.{Sight}
use Rattle.ha_config.specs.Words.{Text, Pairs, one_of}
use Rattle.ha_sight.specs.Values.{text_in, text_of}
use Rattle.ha_sight.specs.Conditions as conditions
use Rattle.ha_sight.specs.Conditions.{Test, all_are_true, condition_step, holds, one_is_true}
use Rattle.ha_sight.proofs.Rolls.{holds-out}
use Rattle.tpl_fns.specs.Outcome.{Gives}
use Rattle.cond_eval.specs.Cases.{number_passes, text_passes}

module _ (sight : Sight) (env : Pairs) where
  at : (c : Condition) (y : Condition-F Condition) → out-Condition c ≡ y → holds sight c env ≡ condition_step sight (map-Condition Condition (Test sight) (holds sight) y) env
  at c y h = holds-out sight c env ∙ ap (λ z. condition_step sight (map-Condition Condition (Test sight) (holds sight) z) env) h

  each-all : (cs : List Condition) → all_are_true sight (map (holds sight) cs) env ≡ list_all (λ c. holds sight c env) cs
  each-all [] = refl
  each-all (c ∷ cs) = ap (λ b. holds sight c env && b) (each-all cs)

  each-one : (cs : List Condition) → one_is_true sight (map (holds sight) cs) env ≡ list_any (λ c. holds sight c env) cs
  each-one [] = refl
  each-one (c ∷ cs) = ap (λ b. holds sight c env || b) (each-one cs)

  pub holds-and : (c : Condition) (cs inside : List Condition) → c ≡ And cs → inside ≡ cs → holds sight c env ≡ list_all (λ d. holds sight d env) inside
  holds-and c cs inside h e = ap (λ d. holds sight d env) h ∙ at (And cs) (Condition-F.And cs) (simp outs-And) ∙ each-all cs ∙ (λ i. list_all (λ d. holds sight d env) (sym e i))

  pub holds-or : (c : Condition) (cs inside : List Condition) → c ≡ Or cs → inside ≡ cs → holds sight c env ≡ list_any (λ d. holds sight d env) inside
  holds-or c cs inside h e = ap (λ d. holds sight d env) h ∙ at (Or cs) (Condition-F.Or cs) (simp outs-Or) ∙ each-one cs ∙ (λ i. list_any (λ d. holds sight d env) (sym e i))

  pub holds-not : (c : Condition) (cs inside : List Condition) → c ≡ Not cs → inside ≡ cs → holds sight c env ≡ not (list_any (λ d. holds sight d env) inside)
  holds-not c cs inside h e = ap (λ d. holds sight d env) h ∙ at (Not cs) (Condition-F.Not cs) (simp outs-Not) ∙ ap not (each-one cs) ∙ (λ i. not (list_any (λ d. holds sight d env) (sym e i)))

  pub holds-state : (c : Condition) (entities es : List EntityId) (attribute a : Option Text) (texts ts : List Text) (hold : Option ℕ)
      → c ≡ State entities attribute texts hold → es ≡ entities → a ≡ attribute → ts ≡ texts
      → holds sight c env ≡ list_all (λ e. option_map_or (text_passes sight a ts hold) (sight.states e) false) es
  holds-state c entities es attribute a texts ts hold h e f g =
      ap (λ d. holds sight d env) h ∙ at (State entities attribute texts hold) (Condition-F.State entities attribute texts hold) (simp outs-State)
      ∙ (λ i. list_all (λ x. option_map_or (text_passes sight (sym f i) (sym g i) hold) (sight.states x) false) (sym e i))

  pub holds-numeric : (c : Condition) (entities es : List EntityId) (attribute a : Option Text) (above below : Option Num)
      → c ≡ Numeric entities attribute above below → es ≡ entities → a ≡ attribute
      → holds sight c env ≡ list_all (λ e. option_map_or (number_passes a above below) (sight.states e) false) es
  holds-numeric c entities es attribute a above below h e f =
      ap (λ d. holds sight d env) h ∙ at (Numeric entities attribute above below) (Condition-F.Numeric entities attribute above below) (simp outs-Numeric)
      ∙ (λ i. list_all (λ x. option_map_or (number_passes (sym f i) above below) (sight.states x) false) (sym e i))

  pub holds-trigger : (c : Condition) (ids is : List Text) (pairs : Pairs) → c ≡ Trigger ids → is ≡ ids → pairs ≡ env
      → holds sight c env ≡ option_map_or (λ t. one_of t is) (conditions.own_id sight pairs) false
  holds-trigger c ids is pairs h e f =
      ap (λ d. holds sight d env) h ∙ at (Trigger ids) (Condition-F.Trigger ids) (simp outs-Trigger)
      ∙ (λ i. option_map_or (λ t. one_of t (sym e i)) (conditions.own_id sight (sym f i)) false)

-- ---- what a render gives

pub given-text : (result : Result Value TplFault) (given : Option Text) → Gives result (option_map Value.Text given) → IfOk result (λ v. option_map Value.Text given ≡ Some v)
given-text (Ok v) given h = h
given-text (Err fault) given h = tt

pub no-text : (given : Option Text) → option_map Value.Text given ≡ None → given ≡ None
no-text None h = refl
no-text (Some t) h = absurd (cc)

pub given-fault : (result : Result Value TplFault) (given : Option Text) → Gives result (option_map Value.Text given) → IfErr result (λ e. e ≡ TplFault.Fault → given ≡ None)
given-fault (Ok v) given h = tt
given-fault (Err TplFault.Fault) given h = λ e. no-text given h
given-fault (Err TplFault.Memory) given h = λ e. absurd (cc)

pub same-text : (given : Option Text) (v : Value) → option_map Value.Text given ≡ Some v → text_of v ≡ given
same-text None v h = absurd (cc)
same-text (Some t) v h = let e : Value.Text t ≡ v = cc in ap text_of (sym e) ∙ ap text_in (outs-Text t)
