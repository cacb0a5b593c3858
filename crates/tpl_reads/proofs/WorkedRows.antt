-- Worked templates, computed.
use Rattle.std.proofs.Common.{◌≡◌, ◌∙◌, ℕ, ap, Bool, true, false, [], ◌∷◌, refl, subst}
use Rattle.std.specs.Prelude.{Some, None, codes, ◌||◌, option_and_then, option_map, option_to_list}
use Rattle.ha_value.specs.declared.value.EntityId.{EntityId}
use Rattle.ha_value.specs.declared.value.Value.TheVariants.{outs-Flag, outs-Text}
use Rattle.ha_value.specs.declared.value.Value.{Value}
use Rattle.ha_value.specs.Ids.{read_entity}
use Rattle.ha_value.specs.Truth.{says_yes_text}
use Rattle.ha_value.specs.Numbers.{read_number}
use Rattle.ha_config.specs.declared.template.Op.{Op}
use Rattle.ha_config.specs.declared.template.Expr.{Expr}
use Rattle.ha_config.specs.declared.template.Expr.TheOpen.{Expr-F}
use Rattle.ha_config.specs.declared.template.Expr.TheViews.{roll-Expr}
use Rattle.ha_config.specs.declared.template.Piece.{Piece}
use Rattle.ha_config.specs.declared.template.Piece.TheOpen.{Piece-F}
use Rattle.ha_config.specs.declared.template.Piece.TheViews.{roll-Piece}
use Rattle.ha_config.specs.Words.{Text, same_entity}
use Rattle.ha_config.proofs.EqualLemmas.{entity-sound}
use Rattle.ha_sight.specs.FilterNumbers as filter
use Rattle.ha_sight.specs.FunctionNumbers as function
use Rattle.ha_sight.specs.Rules.{each_once}
use Rattle.ha_sight.specs.Templates.{rendered, says}
use Rattle.ha_sight.specs.Values.{text_of}
use Rattle.ha_sight.proofs.Rolls.{rolls}
use Rattle.tpl_reads.specs.Agree.{Agree}
use Rattle.tpl_reads.specs.Reads.{Known, Written, all_reads, both, computed, entities_read, known_of, known_step, piece_reads}
use Rattle.tpl_reads.specs.Worked.{a_test_of_both, a_variable, an_attribute, by_a_choice, by_a_variable, by_the_trigger, by_what_is_set, call, door, gate, is_on, of_two, one_of_two, out_of_lists, seen_with, show, state_of, template, text, the_same_again, two_are_on, variable, window}
use Rattle.tpl_reads.proofs.KnownRolls.{all_reads-roll, known_of-roll, piece_reads-roll}

-- ---- parts of them

-- of a text, by the ids that it is
abbrev id_known : Text → Known
id_known t = record { reads = Some []; named = Some (option_to_list (read_entity t)); listed = None }

text-known : (t : Text) → known_of (text t) ≡ id_known t
text-known t = known_of-roll (Expr-F.Plain (Value.Text t)) ∙ (λ i. record { reads = Some []; named = Some (option_to_list (option_and_then read_entity (is i))); listed = None })
  where
    is : text_of (Value.Text t) ≡ Some t
    is = simp outs-Text

variable-known : (name : Text) → known_of (variable name) ≡ computed (Some [])
variable-known name = known_of-roll (Expr-F.Name name)

one-known : (name : ℕ) (e : Expr) (k : Known) → known_of e ≡ k → known_of (call name (e ∷ [])) ≡ known_step (Expr-F.Function name (k ∷ []))
one-known name e k p = known_of-roll (Expr-F.Function name (e ∷ [])) ∙ (λ i. known_step (Expr-F.Function name (p i ∷ [])))

-- of a function of two texts, and of three
two-known : (name : ℕ) (t u : Text) → known_of (call name (text t ∷ text u ∷ [])) ≡ known_step (Expr-F.Function name (id_known t ∷ id_known u ∷ []))
two-known name t u = known_of-roll (Expr-F.Function name (text t ∷ text u ∷ [])) ∙ (λ i. known_step (Expr-F.Function name (text-known t i ∷ text-known u i ∷ [])))

three-known : (name : ℕ) (t u v : Text)
    → known_of (call name (text t ∷ text u ∷ text v ∷ [])) ≡ known_step (Expr-F.Function name (id_known t ∷ id_known u ∷ id_known v ∷ []))
three-known name t u v =
    known_of-roll (Expr-F.Function name (text t ∷ text u ∷ text v ∷ []))
    ∙ (λ i. known_step (Expr-F.Function name (text-known t i ∷ text-known u i ∷ text-known v i ∷ [])))

state-known : (t : Text) → known_of (state_of t) ≡ known_step (Expr-F.Function function.states (id_known t ∷ []))
state-known t = one-known function.states (text t) (id_known t) (text-known t)

pair-known : (op : Op) (l r : Expr) (k m : Known) → known_of l ≡ k → known_of r ≡ m → known_of (roll-Expr (Expr-F.Pair op l r)) ≡ known_step (Expr-F.Pair op k m)
pair-known op l r k m p q = known_of-roll (Expr-F.Pair op l r) ∙ (λ i. known_step (Expr-F.Pair op (p i) (q i)))

list-known : (t u : Text) → known_of (of_two t u) ≡ known_step (Expr-F.List (id_known t ∷ id_known u ∷ []))
list-known t u = known_of-roll (Expr-F.List (text t ∷ text u ∷ [])) ∙ (λ i. known_step (Expr-F.List (text-known t i ∷ text-known u i ∷ [])))

show-reads : (e : Expr) (k : Known) → known_of e ≡ k → piece_reads (show e) ≡ k.reads
show-reads e k p = piece_reads-roll (Piece-F.Show e) ∙ ap (λ k. k.reads) p

assign-reads : (name : Text) (e : Expr) (k : Known) → known_of e ≡ k → piece_reads (roll-Piece (Piece-F.Assign name e)) ≡ k.reads
assign-reads name e k p = piece_reads-roll (Piece-F.Assign name e) ∙ ap (λ k. k.reads) p

one-piece : (p : Piece) (w : Written) → piece_reads p ≡ w → all_reads (template (p ∷ [])) ≡ both w (Some [])
one-piece p w e = all_reads-roll (record { pieces = p ∷ [] }) ∙ (λ i. both (e i) (Some []))

two-pieces : (p q : Piece) (w z : Written) → piece_reads p ≡ w → piece_reads q ≡ z → all_reads (template (p ∷ q ∷ [])) ≡ both w (both z (Some []))
two-pieces p q w z e f = all_reads-roll (record { pieces = p ∷ q ∷ [] }) ∙ (λ i. both (e i) (both (f i) (Some [])))

abbrev once_each : Written → Written
once_each = option_map each_once

shown : (e : Expr) (k : Known) → known_of e ≡ k → entities_read (template (show e ∷ [])) ≡ once_each (both k.reads (Some []))
shown e k p = ap once_each (one-piece (show e) k.reads (show-reads e k p))

on-known : (t : Text) → known_of (is_on t) ≡ known_step (Expr-F.Function function.is_state (id_known t ∷ id_known (codes "on") ∷ []))
on-known t = two-known function.is_state t (codes "on")

-- ---- the rows

pub operands : entities_read two_are_on ≡ Some (door ∷ window ∷ [])
unfolding read_entity
operands =
    shown (roll-Expr (Expr-F.Pair Op.And (is_on (codes "binary_sensor.a")) (is_on (codes "binary_sensor.b")))) _
    (pair-known Op.And (is_on (codes "binary_sensor.a")) (is_on (codes "binary_sensor.b")) _ _ (on-known (codes "binary_sensor.a")) (on-known (codes "binary_sensor.b")))

shown-inside : (t : Text) → all_reads (template (show (state_of t) ∷ [])) ≡ both (known_step (Expr-F.Function function.states (id_known t ∷ []))).reads (Some [])
shown-inside t = one-piece (show (state_of t)) _ (show-reads (state_of t) _ (state-known t))

pub arms : entities_read one_of_two ≡ Some (door ∷ window ∷ gate ∷ [])
unfolding read_entity
arms =
    ap once_each
    (one-piece (roll-Piece (Piece-F.Choice ((is_on (codes "binary_sensor.a"), template (show (state_of (codes "binary_sensor.b")) ∷ [])) ∷ []) (template (show (state_of (codes "binary_sensor.c")) ∷ [])))) _
    (piece_reads-roll (Piece-F.Choice ((is_on (codes "binary_sensor.a"), template (show (state_of (codes "binary_sensor.b")) ∷ [])) ∷ []) (template (show (state_of (codes "binary_sensor.c")) ∷ [])))
    ∙ (λ i. both (both (both (on-known (codes "binary_sensor.a") i).reads (shown-inside (codes "binary_sensor.b") i)) (Some [])) (shown-inside (codes "binary_sensor.c") i))))

pub attribute : entities_read an_attribute ≡ Some (door ∷ [])
unfolding read_entity
attribute = shown (call function.state_attr (text (codes "binary_sensor.a") ∷ text (codes "level") ∷ [])) _ (two-known function.state_attr (codes "binary_sensor.a") (codes "level"))

pub tests : entities_read a_test_of_both ≡ Some (door ∷ window ∷ [])
unfolding read_entity
tests =
    shown (roll-Expr (Expr-F.Pair Op.Or low (call function.has_value (text (codes "binary_sensor.b") ∷ [])))) _
    (pair-known Op.Or low (call function.has_value (text (codes "binary_sensor.b") ∷ [])) _ _
    (three-known function.is_state_attr (codes "binary_sensor.a") (codes "level") (codes "low"))
    (one-known function.has_value (text (codes "binary_sensor.b")) (id_known (codes "binary_sensor.b")) (text-known (codes "binary_sensor.b"))))
  where
    low : Expr
    low = call function.is_state_attr (text (codes "binary_sensor.a") ∷ text (codes "level") ∷ text (codes "low") ∷ [])

by_x : known_of (call function.states (variable (codes "x") ∷ [])) ≡ known_step (Expr-F.Function function.states (computed (Some []) ∷ []))
by_x = one-known function.states (variable (codes "x")) (computed (Some [])) (variable-known (codes "x"))

pub variable_row : entities_read by_a_variable ≡ None
variable_row = shown (call function.states (variable (codes "x") ∷ [])) _ by_x

pub assigned : entities_read by_what_is_set ≡ None
unfolding read_entity
assigned =
    ap once_each
    (two-pieces (roll-Piece (Piece-F.Assign (codes "x") (text (codes "binary_sensor.a")))) (show (call function.states (variable (codes "x") ∷ []))) _ _
    (assign-reads (codes "x") (text (codes "binary_sensor.a")) _ (text-known (codes "binary_sensor.a")))
    (show-reads (call function.states (variable (codes "x") ∷ [])) _ by_x))

pub trigger : entities_read by_the_trigger ≡ None
trigger = shown (call function.states (field ∷ [])) _ (one-known function.states field (computed (Some [])) known)
  where
    field : Expr
    field = roll-Expr (Expr-F.Field (variable (codes "trigger")) (codes "entity_id"))

    known : known_of (roll-Expr (Expr-F.Field (variable (codes "trigger")) (codes "entity_id"))) ≡ computed (Some [])
    known = known_of-roll (Expr-F.Field (variable (codes "trigger")) (codes "entity_id")) ∙ (λ i. known_step (Expr-F.Field (variable-known (codes "trigger") i) (codes "entity_id")))

pub choice : entities_read by_a_choice ≡ Some (door ∷ gate ∷ window ∷ [])
unfolding read_entity
choice = shown (call function.states (roll-Expr (Expr-F.Pick test (text (codes "binary_sensor.a")) (Some (text (codes "binary_sensor.c")))) ∷ [])) _ (one-known function.states _ _ known)
  where
    test : Expr
    test = call function.has_value (text (codes "binary_sensor.b") ∷ [])

    known : known_of (roll-Expr (Expr-F.Pick (call function.has_value (text (codes "binary_sensor.b") ∷ [])) (text (codes "binary_sensor.a")) (Some (text (codes "binary_sensor.c")))))
        ≡ known_step (Expr-F.Pick (known_step (Expr-F.Function function.has_value (id_known (codes "binary_sensor.b") ∷ []))) (id_known (codes "binary_sensor.a")) (Some (id_known (codes "binary_sensor.c"))))
    known =
        known_of-roll (Expr-F.Pick (call function.has_value (text (codes "binary_sensor.b") ∷ [])) (text (codes "binary_sensor.a")) (Some (text (codes "binary_sensor.c"))))
        ∙ (λ i. known_step (Expr-F.Pick
        (one-known function.has_value (text (codes "binary_sensor.b")) (id_known (codes "binary_sensor.b")) (text-known (codes "binary_sensor.b")) i)
        (text-known (codes "binary_sensor.a") i) (Some (text-known (codes "binary_sensor.c") i))))

at-known : (t u name : Text) → known_of (roll-Expr (Expr-F.At (of_two t u) (variable name)))
    ≡ known_step (Expr-F.At (known_step (Expr-F.List (id_known t ∷ id_known u ∷ []))) (computed (Some [])))
at-known t u name = known_of-roll (Expr-F.At (of_two t u) (variable name)) ∙ (λ i. known_step (Expr-F.At (list-known t u i) (variable-known name i)))

first-known : (t u : Text) → known_of (roll-Expr (Expr-F.Filter filter.first (of_two t u) []))
    ≡ known_step (Expr-F.Filter filter.first (known_step (Expr-F.List (id_known t ∷ id_known u ∷ []))) [])
first-known t u = known_of-roll (Expr-F.Filter filter.first (of_two t u) []) ∙ (λ i. known_step (Expr-F.Filter filter.first (list-known t u i) []))

pub lists : entities_read out_of_lists ≡ Some (door ∷ window ∷ gate ∷ [])
unfolding read_entity
lists =
    shown
    (roll-Expr (Expr-F.Pair Op.Join
    (call function.states (roll-Expr (Expr-F.At (of_two (codes "binary_sensor.a") (codes "binary_sensor.b")) (variable (codes "i"))) ∷ []))
    (call function.states (roll-Expr (Expr-F.Filter filter.first (of_two (codes "binary_sensor.c") (codes "binary_sensor.a")) []) ∷ [])))) _
    (pair-known Op.Join
    (call function.states (roll-Expr (Expr-F.At (of_two (codes "binary_sensor.a") (codes "binary_sensor.b")) (variable (codes "i"))) ∷ []))
    (call function.states (roll-Expr (Expr-F.Filter filter.first (of_two (codes "binary_sensor.c") (codes "binary_sensor.a")) []) ∷ [])) _ _
    (one-known function.states _ _ (at-known (codes "binary_sensor.a") (codes "binary_sensor.b") (codes "i")))
    (one-known function.states _ _ (first-known (codes "binary_sensor.c") (codes "binary_sensor.a"))))

pub once : entities_read the_same_again ≡ Some (door ∷ [])
unfolding read_entity
once =
    ap once_each
    (two-pieces (roll-Piece (Piece-F.Assign (codes "x") (state_of (codes "binary_sensor.a"))))
    (show (roll-Expr (Expr-F.Pair Op.Join (state_of (codes "binary_sensor.a")) (state_of (codes "nonsense"))))) _ _
    (assign-reads (codes "x") (state_of (codes "binary_sensor.a")) _ (state-known (codes "binary_sensor.a")))
    (show-reads (roll-Expr (Expr-F.Pair Op.Join (state_of (codes "binary_sensor.a")) (state_of (codes "nonsense")))) _
    (pair-known Op.Join (state_of (codes "binary_sensor.a")) (state_of (codes "nonsense")) _ _ (state-known (codes "binary_sensor.a")) (state-known (codes "nonsense")))))

pub nothing : entities_read a_variable ≡ Some []
nothing = shown (variable (codes "x")) _ (variable-known (codes "x"))

-- ---- a template that asks for two

pub agree : Agree (seen_with (codes "on")) (seen_with (codes "off")) (door ∷ [])
agree e h = by (same_entity door e) refl h
  where
    by : (p : Bool) → same_entity door e ≡ p → (p || false) ≡ true → (seen_with (codes "on")).states e ≡ (seen_with (codes "off")).states e
    by true is k = let e' : door ≡ e = entity-sound door e is in subst (λ (x : EntityId). (seen_with (codes "on")).states x ≡ (seen_with (codes "off")).states x) e' refl
    by false is k = absurd (cc)

pub on : says (rendered (seen_with (codes "on")) two_are_on []) ≡ true
unfolding read_entity says_yes_text read_number
on = simp (rolls, outs-Text, outs-Flag)

pub off : says (rendered (seen_with (codes "off")) two_are_on []) ≡ false
unfolding read_entity says_yes_text read_number
off = simp (rolls, outs-Text, outs-Flag)
