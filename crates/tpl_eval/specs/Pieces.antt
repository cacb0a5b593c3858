-- What pieces write, one after the other.
use Rattle.std.specs.Prelude.{◌≡◌, ℕ, ◌<◌, ◌≤◌, List, [], ◌∷◌, ◌++◌, length, map, slice_get}
use Rattle.std.specs.Prelude.{Option, Some, None, option_map, unwrap_or, Result, Ok, Err}
use Rattle.ha_value.specs.declared.value.Value.{Value}
use Rattle.ha_sight.specs.declared.faults.TplFault.{TplFault}
use Rattle.ha_config.specs.declared.template.Expr.{Expr}
use Rattle.ha_config.specs.declared.template.Template.{Template}
use Rattle.ha_config.specs.declared.template.Piece.{Piece}
use Rattle.ha_config.specs.declared.template.Piece.TheFolds.{fold-Piece}
use Rattle.ha_sight.specs.Sight.{Sight}
use Rattle.ha_config.specs.Words.{Text, Pairs, last_pair}
use Rattle.ha_sight.specs.Templates.{choose_arm, piece_step, pieces_of, template_step, PieceMeaning, TemplateMeaning}
use Rattle.tpl_eval.specs.declared.page.Page.{Page}

-- the part of `pieces_of` that a piece is
abbrev pub piece_of : (sight : Sight) → Piece → PieceMeaning sight
piece_of sight = fold-Piece (PieceMeaning sight) (TemplateMeaning sight) (piece_step sight) (template_step sight)

-- the text so far with what is written behind it, and the environment that is left
abbrev pub behind : Text → Option (Text × Pairs) → Option (Text × Pairs)
behind before = option_map (λ r. (before ++ r.0, r.1))

-- there is no text, or one that is too long
abbrev pub TooLong : Option Text → Type 0
TooLong None = Unit {0}
TooLong (Some t) = 65_536 < length t

-- the text grows by the one that is given; the fault is that there is none, or that it would be too long
abbrev pub Extends : {Y : Type 0} → Text → Text → Option Text → Result Y TplFault → Type 0
Extends old new given (Ok x) = (option_map (λ t. old ++ t) given ≡ Some new) × (length new ≤ 65_536)
Extends old new given (Err TplFault.Fault) = TooLong (option_map (λ t. old ++ t) given)
Extends old new given (Err TplFault.Memory) = Unit {0}

-- two environments in which each name is seen alike
abbrev pub Alike : Pairs → Pairs → Type 0
Alike xs ys = (name : Text) → last_pair name xs ≡ last_pair name ys

-- the page grows by the text that is given, and each name is seen as in what is left
abbrev pub Grows : {Y : Type 0} → Pairs → Page → Page → Option (Text × Pairs) → Result Y TplFault → Type 0
Grows env old new given (Ok x) =
    (left : Pairs) × Alike left (env ++ new.set) × (behind old.text given ≡ Some (new.text, left)) × (length old.text ≤ 65_536 → length new.text ≤ 65_536)
Grows env old new given (Err TplFault.Fault) = TooLong (option_map (λ r. r.0) (behind old.text given))
Grows env old new given (Err TplFault.Memory) = Unit {0}

-- the page grows by what is meant in any environment in which each name is seen as in the variables of the run and those that are set
abbrev pub Writes : {Y : Type 0} → Pairs → Page → Page → (Pairs → Option (Text × Pairs)) → Result Y TplFault → Type 0
Writes env old new meaning result = (whole : Pairs) → Alike whole (env ++ old.set) → Grows env old new (meaning whole) result

-- a name is set, and each other one is seen as before; or memory ran out
abbrev pub Sets : {Y : Type 0} → Page → Page → Text → Value → Result Y TplFault → Type 0
Sets old new name value (Ok x) = Alike new.set (old.set ++ ((name, value) ∷ [])) × (new.text ≡ old.text)
Sets old new name value (Err TplFault.Fault) = ⊥
Sets old new name value (Err TplFault.Memory) = Unit {0}

-- the arms of a choice, with the meaning of each template in its place
abbrev pub arms_of : (sight : Sight) → List (Expr × Template) → List (Expr × TemplateMeaning sight)
arms_of sight = map (λ a. (a.0, pieces_of sight a.1))

-- the choice is the arm at this place, or the fallback where there is none
abbrev pub Chooses : (sight : Sight) → List (Expr × Template) → Pairs → Result ℕ TplFault → Type 0
Chooses sight arms env (Ok place) =
    (fallback : TemplateMeaning sight)
    → choose_arm sight (arms_of sight arms) fallback env
    ≡ unwrap_or (option_map (λ a. pieces_of sight a.1) (slice_get arms place)) fallback env
Chooses sight arms env (Err TplFault.Fault) = (fallback : TemplateMeaning sight) → choose_arm sight (arms_of sight arms) fallback env ≡ None
Chooses sight arms env (Err TplFault.Memory) = Unit {0}
