-- Forms and fields that are read of a sound tree are sound.
use Rattle.std.proofs.Common.{◌≡◌, ◌∙◌, ◌<◌, ap, refl, sym, subst, ℕ, Bool, true, List, [], ◌∷◌, map, length, Some, Ok, arith}
use Rattle.std.specs.Prelude.{◌&&◌}
use Rattle.std.proofs.lemmas.List.{length-map}
use Rattle.ha_value.specs.declared.value.Value.{Value}
use Rattle.ha_config.specs.declared.config.Form.{Form}
use Rattle.ha_config.specs.declared.config.Form.TheVariants as forms
use Rattle.ha_config.specs.declared.config.Form.TheOpen.{Form-F}
use Rattle.ha_config.specs.declared.config.Form.TheFolds.{fold-roll-Form}
use Rattle.ha_config.specs.declared.template.Template.{Template}
use Rattle.ha_config.specs.ValueFacts.{all_distinct}
use Rattle.ha_config.specs.Sound.{all_short, are_sound_fields, is_plain_value, is_sound_form, is_sound_template, sound_form_step}
use Rattle.ha_config.specs.Words.{Text}
use Rattle.yaml_scan.specs.declared.fault.Code.TheVariants as code
use Rattle.yaml_tree.specs.declared.node.Node.{Node}
use Rattle.yaml_tree.specs.declared.node.NodeKind.TheOpen.{NodeKind-F}
use Rattle.yaml_tree.specs.Readers.{Shape, line_of, shape_of, is_null_word}
use Rattle.conf_field.specs.Holds.{Holds, Each}
use Rattle.conf_field.specs.Fields.{Pair}
use Rattle.conf_field.specs.Kinds.{holds_template, template_by}
use Rattle.conf_field.specs.Readings.{Read, bad, each, made}
use Rattle.conf_field.specs.Sizes.{IsSoundTree}
use Rattle.conf_field.specs.Trees.{Fields, data_by, fields_of}
use Rattle.conf_field.specs.Values.{bare_value}
use Rattle.conf_field.proofs.TreeLaws.{tree_by, tree-out}
use Rattle.conf_script.specs.Forms.{form, fields, scalar_form}
use Rattle.conf_laws.proofs.Data.{Keyed, Plain, bare_plain, fields_keyed}
use Rattle.conf_laws.proofs.Down.{AreSoundItems, AreSoundPairs, EachInside, IsSoundPair, IsSoundShape, down, most, sound_inside}
use Rattle.conf_laws.proofs.Joined.{all_passed, pair}
use Rattle.conf_laws.proofs.Parts.{AllOf, Passes, Reads, all_items, either_way, made_of, weaker}
use Rattle.action_laws.proofs.Readings.{map_twice, short_map, templates}

-- ---- forms by their kinds

items_form : (fs : List Form) → is_sound_form (forms.Items fs) ≡ all_short is_sound_form fs
items_form fs = ap is_sound_form (sym (forms.rolls-Items fs)) ∙ fold-roll-Form Bool sound_form_step (Form-F.Items fs) ∙ short_map (λ b. b) is_sound_form fs

text_form : (t : Template) → is_sound_form (forms.Text t) ≡ is_sound_template t
text_form t = ap is_sound_form (sym (forms.rolls-Text t)) ∙ fold-roll-Form Bool sound_form_step (Form-F.Text t)

plain_form : (v : Value) → is_sound_form (forms.Plain v) ≡ is_plain_value v
plain_form v = ap is_sound_form (sym (forms.rolls-Plain v)) ∙ fold-roll-Form Bool sound_form_step (Form-F.Plain v)

pairs_form : (ps : List (Text × Form)) → is_sound_form (forms.Pairs ps) ≡ are_sound_fields ps
pairs_form ps =
    ap is_sound_form (sym (forms.rolls-Pairs ps)) ∙ fold-roll-Form Bool sound_form_step (Form-F.Pairs ps)
    ∙ (λ i. all_distinct (map_twice (λ (q : Text × Bool). q.0) (λ (p : Text × Form). (p.0, is_sound_form p.1)) ps i)
    && short_map (λ (q : Text × Bool). q.1) (λ (p : Text × Form). (p.0, is_sound_form p.1)) ps i)

-- ---- fields

abbrev keys_in : List Pair → List Text
keys_in ps = map (λ (p : Pair). p.0) ps

-- the keys are the map's, which are distinct
fields_sound : (pairs : List Pair) (ps : Fields Form) → AreSoundPairs pairs → Keyed is_sound_form (keys_in pairs) ps → are_sound_fields ps ≡ true
fields_sound pairs ps s k =
    pair (all_distinct (map (λ p. p.0) ps)) (all_short (λ p. is_sound_form p.1) ps) (ap all_distinct k.1 ∙ s.distinct)
    (all_passed (λ p. is_sound_form p.1) ps k.0
    (omega (arith, s.few, ap length k.1, length-map ps (λ (p : Text × Form). p.0), length-map pairs (λ (p : Pair). p.0))))

-- ---- what is read

abbrev SoundForm : Form → Type 0
SoundForm = Passes is_sound_form

leaf_sound : (line : ℕ) (t : List ℕ) (plain : Bool) → Holds SoundForm (scalar_form line t plain)
leaf_sound line t plain =
    either_way SoundForm (holds_template t) (made forms.Text (template_by line (Some t))) (made forms.Plain (bare_value line t plain))
    (made_of (Passes is_sound_template) SoundForm forms.Text (template_by line (Some t)) (λ x h. text_form x ∙ h) (templates line (Some t)))
    (made_of Plain SoundForm forms.Plain (bare_value line t plain) (λ x h. plain_form x ∙ h) (bare_plain line t plain))

abbrev FormSound : Node → Type 0
FormSound n = IsSoundTree n → Holds SoundForm (form n)

items_given : (ns : List Node) → Each IsSoundTree ns → Each FormSound ns → Each (λ n. Holds SoundForm (form n)) ns
items_given [] s h = tt
items_given (n ∷ ns) s h = (h.0 s.0, items_given ns s.1 h.1)

pairs_given : (ps : List Pair) → Each IsSoundPair ps → Each (λ p. FormSound p.2) ps → Each (λ p. Holds SoundForm (form p.2)) ps
pairs_given [] s h = tt
pairs_given (p ∷ ps) s h = (h.0 s.0.0, pairs_given ps s.1 h.1)

items_sound : (ns : List Node) → Each (λ n. Holds SoundForm (form n)) ns → length ns < most → Holds (Passes (all_short is_sound_form)) (each form ns)
items_sound ns all few =
    weaker (AllOf is_sound_form (length ns)) (Passes (all_short is_sound_form)) (each form ns) (λ fs h. all_passed is_sound_form fs h.0 (omega (arith, h.1, few)))
    (all_items is_sound_form form ns all)

map_sound : (ps : List Pair) → AreSoundPairs ps → Each (λ p. Holds SoundForm (form p.2)) ps → Holds (Passes are_sound_fields) (fields_of form ps)
map_sound ps s all = weaker (Keyed is_sound_form (keys_in ps)) (Passes are_sound_fields) (fields_of form ps) (λ fs k. fields_sound ps fs s k) (fields_keyed is_sound_form form ps all)

-- ---- down the tree

abbrev by_shape : ℕ → Shape → Read Form
by_shape = tree_by scalar_form forms.Items forms.Pairs

shape_sound : (line : ℕ) (s : Shape) → IsSoundShape s → EachInside FormSound s → Holds SoundForm (by_shape line s)
shape_sound line (NodeKind-F.Scalar t plain) s h = leaf_sound line t plain
shape_sound line (NodeKind-F.List ns) s h =
    made_of (Passes (all_short is_sound_form)) SoundForm forms.Items (each form ns) (λ fs e. items_form fs ∙ e) (items_sound ns (items_given ns s.each h) s.few)
shape_sound line (NodeKind-F.Map ps) s h =
    made_of (Passes are_sound_fields) SoundForm forms.Pairs (fields_of form ps) (λ fs e. pairs_form fs ∙ e) (map_sound ps s (pairs_given ps s.each h))

pub form_sound : (n : Node) → IsSoundTree n → Holds SoundForm (form n)
form_sound = down FormSound
    (λ n h s. subst (Holds SoundForm) (sym (tree-out scalar_form forms.Items forms.Pairs n)) (shape_sound (line_of n) (shape_of n) (sound_inside n s) h))

all_forms : (ns : List Node) → Each IsSoundTree ns → Each (λ n. Holds SoundForm (form n)) ns
all_forms [] s = tt
all_forms (n ∷ ns) s = (form_sound n s.0, all_forms ns s.1)

pub list_sound : (ns : List Node) → AreSoundItems ns → Holds (Passes (all_short is_sound_form)) (each form ns)
list_sound ns s = items_sound ns (all_forms ns s.each) s.few

all_fields : (ps : List Pair) → Each IsSoundPair ps → Each (λ p. Holds SoundForm (form p.2)) ps
all_fields [] s = tt
all_fields (p ∷ ps) s = (form_sound p.2 s.0.0, all_fields ps s.1)

data_shape : (line : ℕ) (s : Shape) → IsSoundShape s → Holds (Passes are_sound_fields) (data_by form line s)
data_shape line (NodeKind-F.Scalar t plain) s = either_way (Passes are_sound_fields) (plain && is_null_word t) (Ok []) (bad line code.Kind) refl tt
data_shape line (NodeKind-F.List ns) s = tt
data_shape line (NodeKind-F.Map ps) s = map_sound ps s (all_fields ps s.each)

-- data, or null for none
pub fields_hold : Reads (Passes are_sound_fields) fields
fields_hold line n s = data_shape line (shape_of n) (sound_inside n s)
