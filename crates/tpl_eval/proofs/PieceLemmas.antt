-- Pieces, one after the other.
use Rattle.std.proofs.Common.{◌≡◌, ◌∙◌, ap, ℕ, zero, suc, ◌+◌, ◌<◌, ◌≤◌, refl, List, [], ◌∷◌, ◌++◌, length, get_or, drop, map, sym, subst, arith, drop-cons, append_assoc, append-nil, length-append}
use Rattle.std.specs.Prelude.{Option, Some, None, Result, Ok, Err, option_map, option_and_then, unwrap_or}
use Rattle.ha_value.specs.declared.value.Value.{Value}
use Rattle.ha_sight.specs.declared.faults.TplFault.{TplFault}
use Rattle.ha_config.specs.declared.template.Expr.{Expr}
use Rattle.ha_config.specs.declared.template.Template.{Template}
use Rattle.ha_config.specs.declared.template.Piece.TheOpen.{Piece-F}
use Rattle.ha_config.specs.declared.template.Piece.TheVariants.{Choice, outs-Assign, outs-Choice, outs-Show}
use Rattle.ha_config.specs.declared.template.Piece.TheViews.{out-Piece, out-Template}
use Rattle.ha_config.specs.declared.template.Piece.TheFolds.{map-Piece}
use Rattle.ha_sight.proofs.Rolls.{pieces_of-out, piece-out}
use Rattle.ha_config.specs.declared.template.Piece.{Piece}
use Rattle.ha_sight.specs.Sight.{Sight}
use Rattle.ha_config.specs.Words.{Text, Pairs}
use Rattle.ha_sight.specs.Values.{printed}
use Rattle.ha_sight.specs.Templates.{choose_arm, joined, piece_step, pieces_of, value_of, PieceMeaning, TemplateMeaning}
use Rattle.tpl_fns.specs.Outcome.{Gives}
use Rattle.tpl_eval.specs.declared.page.Page.{Page}
use Rattle.tpl_eval.specs.Pieces.{arms_of, behind, piece_of, Alike, Chooses, Extends, Grows, Sets, TooLong}
use Rattle.tpl_eval.proofs.SetLemmas.{alike-set}
use Rattle.tpl_eval.proofs.ArmLemmas.{get_here, get_past}

abbrev Written : Type 0
Written = Option (Text × Pairs)

abbrev text_in : Written → Option Text
text_in = option_map (λ r. r.0)

-- what is written, and then what f writes in the environment that is left
abbrev then : Written → (Pairs → Written) → Written
then o f = option_and_then (λ r. option_map (λ s. (r.0 ++ s.0, s.1)) (f r.1)) o

inside : (p q : Text × Pairs) → Some p ≡ Some q → p ≡ q
inside p q h = cc

then-behind : (before after : Text) (left : Pairs) (o : Written) (f : Pairs → Written) → behind before o ≡ Some (after, left) → behind before (then o f) ≡ behind after (f left)
then-behind before after left None f h = absurd (cc)
then-behind before after left (Some r) f h = (λ k. behind before (option_map (λ s. (r.0 ++ s.0, s.1)) (f (is_left k)))) ∙ by (f left)
  where
    is_left : r.1 ≡ left
    is_left = ap (λ (p : Text × Pairs). p.1) (inside (before ++ r.0, r.1) (after, left) h)

    is_after : before ++ r.0 ≡ after
    is_after = ap (λ (p : Text × Pairs). p.0) (inside (before ++ r.0, r.1) (after, left) h)

    by : (o : Written) → behind before (option_map (λ s. (r.0 ++ s.0, s.1)) o) ≡ behind after o
    by None = refl
    by (Some s) = λ k. Some ((sym (append_assoc before r.0 s.0) ∙ ap (λ t. t ++ s.0) is_after) k, s.1)

then-long : (before : Text) (o : Written) (f : Pairs → Written) → TooLong (text_in (behind before o)) → TooLong (text_in (behind before (then o f)))
then-long before None f h = tt
then-long before (Some r) f h = by (f r.1)
  where
    by : (o : Written) → TooLong (text_in (behind before (option_map (λ s. (r.0 ++ s.0, s.1)) o)))
    by None = tt
    by (Some s) = omega (arith, h, length-append before r.0, length-append before (r.0 ++ s.0), length-append r.0 s.0)

drop_past : {X : Type 0} (n : ℕ) (xs : List X) → length xs ≤ n → drop n xs ≡ []
drop_past zero [] le = refl
drop_past zero (x ∷ xs) le = absurd (omega arith)
drop_past (suc n) [] le = refl
drop_past (suc n) (x ∷ xs) le = drop_past n xs (omega arith)

module _ (sight : Sight) where
  abbrev pub written : List Piece → Pairs → Written
  written ps env = joined sight (map (piece_of sight) ps) env

  -- the text so far and what the rest writes behind it is the whole
  abbrev pub Follows : Text → Written → Text → List Piece → ℕ → Pairs → Type 0
  Follows first whole text ps i env = behind first whole ≡ behind text (written (drop i ps) env)

  next : (ps : List Piece) (i : ℕ) (p : Piece) (env : Pairs) → i < length ps → p ≡ get_or ps i p → written (drop i ps) env ≡ then (piece_of sight p env) (written (drop (i + 1) ps))
  next ps i p env lt is =
      ap (λ l. written l env) (drop-cons ps i p lt)
      ∙ (λ k. then (piece_of sight (sym is k) env) (written (drop (suc i) ps)))
      ∙ (let e : suc i ≡ i + 1 = omega arith in λ k. then (piece_of sight p env) (written (drop (e k) ps)))

  module _ (first text : Text) (whole : Written) (ps : List Piece) (i : ℕ) (env : Pairs) (known : Follows first whole text ps i env) where
    pub follows-more : (p : Piece) (after : Text) (left : Pairs) → i < length ps → p ≡ get_or ps i p → behind text (piece_of sight p env) ≡ Some (after, left) → Follows first whole after ps (i + 1) left
    follows-more p after left lt is made = known ∙ ap (behind text) (next ps i p env lt is) ∙ then-behind text after left (piece_of sight p env) (written (drop (i + 1) ps)) made

    pub follows-long : (p : Piece) → i < length ps → p ≡ get_or ps i p → TooLong (text_in (behind text (piece_of sight p env))) → TooLong (text_in (behind first whole))
    follows-long p lt is long =
        subst (λ (o : Written). TooLong (text_in o)) (sym (known ∙ ap (behind text) (next ps i p env lt is))) (then-long text (piece_of sight p env) (written (drop (i + 1) ps)) long)

    pub follows-all : length ps ≤ i → behind first whole ≡ Some (text, env)
    follows-all le = known ∙ ap (λ l. behind text (written l env)) (drop_past i ps le) ∙ (λ k. Some (append-nil text k, env))

-- the answer for one piece, told of the whole
pub follows-fault : (sight : Sight) (first text : Text) (whole : Written) (ps : List Piece) (i : ℕ) (env : Pairs) → Follows sight first whole text ps i env → (p : Piece) → i < length ps → p ≡ get_or ps i p
    → (run : Pairs) (old old' new : Page) (fault : TplFault) → old.text ≡ first → old'.text ≡ text → Grows {Y = Unit {0}} run old' new (piece_of sight p env) (Err fault) → Grows {Y = Unit {0}} run old new whole (Err fault)
follows-fault sight first text whole ps i env known p lt is run old old' new TplFault.Fault e f h =
    subst (λ (t : Text). TooLong (text_in (behind t whole))) (sym e)
    (follows-long sight first text whole ps i env known p lt is (subst (λ (t : Text). TooLong (text_in (behind t (piece_of sight p env)))) f h))
follows-fault sight first text whole ps i env known p lt is run old old' new TplFault.Memory e f h = tt

module _ (sight : Sight) (env : Pairs) where
  -- what is opened of a piece gives its meaning
  abbrev at_out : (y : Piece-F Piece Template) → Written
  at_out y = piece_step sight (map-Piece Piece Template (PieceMeaning sight) (TemplateMeaning sight) (piece_of sight) (pieces_of sight) y) env

  pub show-is : (x : Piece) (e : Expr) → x ≡ Piece.Show e → piece_of sight x env ≡ option_and_then (λ v. option_map (λ t. (t, env)) (printed v)) (value_of sight e env)
  show-is x e h = ap (λ y. piece_of sight y env) h ∙ piece-out sight (Piece.Show e) env ∙ ap at_out (outs-Show e)

  pub assign-is : (x : Piece) (name : Text) (e : Expr) → x ≡ Piece.Assign name e → piece_of sight x env ≡ option_map (λ v. ([], env ++ ((name, v) ∷ []))) (value_of sight e env)
  assign-is x name e h = ap (λ y. piece_of sight y env) h ∙ piece-out sight (Piece.Assign name e) env ∙ ap at_out (outs-Assign name e)

  -- a template is its pieces, and a choice one of its arms
  pub template-is : (t : Template) (ps : List Piece) → ps ≡ (out-Template t).pieces → pieces_of sight t env ≡ written sight ps env
  template-is t ps h = pieces_of-out sight t env ∙ (λ k. written sight (sym h k) env)

  pub choice-is : (x : Piece) (arms : List (Expr × Template)) (fallback : Template) → x ≡ Choice arms fallback → piece_of sight x env ≡ choose_arm sight (arms_of sight arms) (pieces_of sight fallback) env
  choice-is x arms fallback h = ap (λ y. piece_of sight y env) h ∙ piece-out sight (Choice arms fallback) env ∙ ap at_out (outs arms fallback)
    where
      outs : (arms : List (Expr × Template)) (fallback : Template) → out-Piece (Choice arms fallback) ≡ Piece-F.Choice arms fallback
      outs arms fallback = simp outs-Choice

  choice-by : (x : Piece) (arms found : List (Expr × Template)) (fallback : Template) → x ≡ Choice arms fallback → found ≡ arms → piece_of sight x env ≡ choose_arm sight (arms_of sight found) (pieces_of sight fallback) env
  choice-by x arms found fallback h e = choice-is x arms fallback h ∙ (λ k. choose_arm sight (arms_of sight (sym e k)) (pieces_of sight fallback) env)

  module _ (x : Piece) (arms found : List (Expr × Template)) (fallback : Template) (h : x ≡ Choice arms fallback) (e : found ≡ arms) where
    pub choice-fault : (run : Pairs) (old new : Page) (fault : TplFault) → Chooses sight found env (Err fault) → Grows {Y = Unit {0}} run old new (piece_of sight x env) (Err fault)
    choice-fault run old new TplFault.Fault none = subst (λ (o : Written). TooLong (text_in (behind old.text o))) (sym (choice-by x arms found fallback h e ∙ none (pieces_of sight fallback))) tt
    choice-fault run old new TplFault.Memory none = tt

    pub choice-arm : (place : ℕ) (a : Expr × Template) → Chooses sight found env (Ok place) → place < length found → a ≡ get_or found place a → piece_of sight x env ≡ pieces_of sight a.1 env
    choice-arm place a known lt is =
        choice-by x arms found fallback h e ∙ known (pieces_of sight fallback)
        ∙ (λ k. unwrap_or (option_map (λ y. pieces_of sight y.1) (get_here found place a lt is k)) (pieces_of sight fallback) env)

    pub choice-none : (place : ℕ) → Chooses sight found env (Ok place) → length found ≤ place → piece_of sight x env ≡ pieces_of sight fallback env
    choice-none place known le =
        choice-by x arms found fallback h e ∙ known (pieces_of sight fallback)
        ∙ (λ k. unwrap_or (option_map (λ y. pieces_of sight y.1) (get_past found place le k)) (pieces_of sight fallback) env)

-- a name that is set writes nothing
pub set-writes : {Y : Type 0} (env whole : Pairs) (old new : Page) (name : Text) (v : Value) (given : Option Value) (result : Result Y TplFault) → given ≡ Some v → Alike whole (env ++ old.set)
    → Sets old new name v result → Grows env old new (option_map (λ w. ([], whole ++ ((name, w) ∷ []))) given) result
set-writes env whole old new name v given (Ok x) is alike set =
    let front : old.text ++ [] ≡ new.text = append-nil old.text ∙ sym set.1 in (
      whole ++ ((name, v) ∷ []),
      alike-set env old.set new.set whole (name, v) alike set.0,
      rw is (λ i. Some (front i, whole ++ ((name, v) ∷ []))),
      λ short. subst (λ (t : Text). length t ≤ 65_536) (sym set.1) short,
    )
set-writes env whole old new name v given (Err TplFault.Fault) is alike set = absurd set
set-writes env whole old new name v given (Err TplFault.Memory) is alike set = tt

-- where there is no value, none is set
pub set-fault : (env whole : Pairs) (old new : Page) (name : Text) (given : Option Value) (fault : TplFault) → Gives {X = Value} (Err fault) given
    → Grows {Y = Unit {0}} env old new (option_map (λ w. ([], whole ++ ((name, w) ∷ []))) given) (Err fault)
set-fault env whole old new name given TplFault.Fault none = rw none tt
set-fault env whole old new name given TplFault.Memory none = tt

-- what is shown leaves the environment as it is
abbrev with_all : Pairs → Option Text → Written
with_all whole = option_map (λ t. (t, whole))

shown-behind : (whole : Pairs) (before after : Text) (o : Option Text) → option_map (λ t. before ++ t) o ≡ Some after → behind before (with_all whole o) ≡ Some (after, whole)
shown-behind whole before after None h = absurd (cc)
shown-behind whole before after (Some t) h = let e : before ++ t ≡ after = cc in λ i. Some (e i, whole)

shown-long : (whole : Pairs) (before : Text) (o : Option Text) → TooLong (option_map (λ t. before ++ t) o) → TooLong (text_in (behind before (with_all whole o)))
shown-long whole before None h = tt
shown-long whole before (Some t) h = h

pub text-writes : {Y : Type 0} (env whole : Pairs) (old new : Page) (o : Option Text) (result : Result Y TplFault) → Alike whole (env ++ old.set) → new.set ≡ old.set
    → Extends old.text new.text o result → Grows env old new (with_all whole o) result
text-writes env whole old new o (Ok x) alike set grows =
    (whole, subst (λ (s : Pairs). Alike whole (env ++ s)) (sym set) alike, shown-behind whole old.text new.text o grows.0, λ short. grows.1)
text-writes env whole old new o (Err TplFault.Fault) alike set grows = shown-long whole old.text o grows
text-writes env whole old new o (Err TplFault.Memory) alike set grows = tt

shown : (whole : Pairs) (given : Option Value) → with_all whole (option_and_then printed given) ≡ option_and_then (λ v. with_all whole (printed v)) given
shown whole None = refl
shown whole (Some v) = refl

pub show-writes : {Y : Type 0} (env whole : Pairs) (old new : Page) (given here : Option Value) (result : Result Y TplFault) → given ≡ here → Alike whole (env ++ old.set) → new.set ≡ old.set
    → Extends old.text new.text (option_and_then printed here) result → Grows env old new (option_and_then (λ v. with_all whole (printed v)) given) result
show-writes env whole old new given here result is alike set grows =
    subst (λ (o : Written). Grows env old new o result)
    (shown whole here ∙ ap (option_and_then (λ v. with_all whole (printed v))) (sym is))
    (text-writes env whole old new (option_and_then printed here) result alike set grows)
