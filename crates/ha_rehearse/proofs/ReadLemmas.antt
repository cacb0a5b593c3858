-- What is read of a node without a fault, part by part.
use Rattle.std.proofs.Common.{◌≡◌, ◌∙◌, ap, refl, ℕ, Bool, true, false, List, [], ◌∷◌, ◌++◌, Option, Some, None}
use Rattle.std.specs.Prelude.{◌&&◌, if◌then◌else◌, Ok, is_some, nat_lt, length, option_and_then}
use Rattle.ha_value.specs.declared.value.EntityId.{EntityId}
use Rattle.ha_value.specs.Ids.{read_entity}
use Rattle.ha_clock.specs.SpanText.{span_of}
use Rattle.ha_config.specs.declared.config.Form.{Form}
use Rattle.ha_config.specs.declared.config.Form.TheVariants as forms
use Rattle.ha_config.specs.declared.config.SpanForm.{SpanForm}
use Rattle.ha_config.specs.declared.template.Template.{Template}
use Rattle.yaml_scan.specs.declared.fault.Code.{Code}
use Rattle.yaml_scan.specs.declared.fault.Code.TheVariants as code
use Rattle.yaml_scan.specs.declared.fault.Fault.{Fault}
use Rattle.yaml_tree.specs.declared.node.Node.{Node}
use Rattle.yaml_tree.specs.declared.node.NodeKind.TheOpen.{NodeKind-F}
use Rattle.yaml_tree.specs.declared.node.NodeKind.TheVariants as kinds
use Rattle.yaml_tree.specs.declared.node.NodeKind.TheViews.{out-NodeKind}
use Rattle.yaml_tree.specs.Entities.{ids_by, split_by, split_from}
use Rattle.yaml_tree.specs.Nodes.{listed}
use Rattle.yaml_tree.specs.Readers.{Shape, is_null_word, null_by, shape_of, text_by}
use Rattle.conf_field.specs.declared.key.Key.TheVariants as key
use Rattle.conf_field.specs.declared.table.Row.{Row}
use Rattle.conf_field.specs.Readings.{Read, bad, behind, both, each_behind, and_maybe, keep, kept_behind, made, or_bad, unless}
use Rattle.conf_field.specs.Fields.{Meaning, Pair, field, get, keys, keys_fault, needed, optional, place, row}
use Rattle.conf_field.specs.Kinds.{entities, flag, text, holds_template, in_scalar, scalar, scalar_by, template_by, template_of, template_text}
use Rattle.conf_field.specs.Trees.{data_by}
use Rattle.conf_field.specs.Values.{bare_value}
use Rattle.conf_field.proofs.TreeLaws.{tree-out, tree_by}
use Rattle.conf_trigger.specs.declared.kind.TriggerKind.{TriggerKind}
use Rattle.conf_trigger.specs.Triggers as trig
use Rattle.conf_cond.specs.Conditions.{condition_map}
use Rattle.conf_script.specs.declared.name.ActionName.{ActionName}
use Rattle.conf_script.specs.Actions as a
use Rattle.conf_script.specs.Calls as calls
use Rattle.conf_script.specs.Forms as form
use Rattle.conf_script.proofs.Opened as opened
use Rattle.ha_rehearse.proofs.LineLemmas.{scalar_of}
use Rattle.ha_rehearse.proofs.TreeLemmas.{with_pairs}

abbrev pub Text : Type 0
Text = List ℕ

abbrev pub IsRead : {A : Type 0} → Read A → Type 0
IsRead {A} r = (x : A) × (r ≡ Ok x)

pub read_as : {A : Type 0} {r s : Read A} → r ≡ s → IsRead s → IsRead r
read_as e h = (h.0, e ∙ h.1)

pub read_made : {A B : Type 0} (f : A → B) (r : Read A) → IsRead r → IsRead (made f r)
read_made f r h = (f h.0, ap (made f) h.1)

pub read_both : {A B : Type 0} (r : Read A) (s : Read B) → IsRead r → IsRead s → IsRead (both r s)
read_both r s h k = ((h.0, k.0), λ i. both (h.1 i) (k.1 i))

pub read_unless : (o : Option Fault) → o ≡ None → IsRead (unless o)
read_unless o h = (tt, ap unless h)

pub read_keys : (rows : List Row) (pairs : List Pair) → keys_fault rows None [] pairs ≡ None → IsRead (keys rows pairs)
read_keys rows pairs h = (tt, ap unless h)

-- ---- fields

pub read_needed : {A : Type 0} (read : Meaning A) (line : ℕ) (o : Option Pair) (p : Pair) → o ≡ Some p → ((l : ℕ) → IsRead (read l p.2)) → IsRead (needed read line o)
read_needed read line o p e h = read_as (ap (needed read line) e) (h (place p))

pub read_given : {A : Type 0} (read : Meaning A) (o : Option Pair) (p : Pair) → o ≡ Some p → ((l : ℕ) → IsRead (read l p.2)) → IsRead (optional read o)
read_given read o p e h = read_as (ap (optional read) e) (read_made Some (read (place p) p.2) (h (place p)))

pub read_absent : {A : Type 0} (read : Meaning A) (o : Option Pair) → o ≡ None → IsRead (optional read o)
read_absent read o e = (None, ap (optional read) e)

-- ---- shapes

pub scalar_shape : (n : ℕ) (t : Text) (plain : Bool) → shape_of (scalar_of n t plain) ≡ NodeKind-F.Scalar t plain
scalar_shape n t plain = let e : out-NodeKind (kinds.Scalar t plain) ≡ NodeKind-F.Scalar t plain = simp kinds.outs-Scalar in e

pub list_shape : (n : ℕ) (items : List Node) → shape_of (listed n items) ≡ NodeKind-F.List items
list_shape n items = let e : out-NodeKind (kinds.List items) ≡ NodeKind-F.List items = simp kinds.outs-List in e

pub map_shape : (n : ℕ) (pairs : List Pair) → shape_of (with_pairs n pairs) ≡ NodeKind-F.Map pairs
map_shape n pairs = let e : out-NodeKind (kinds.Map pairs) ≡ NodeKind-F.Map pairs = simp kinds.outs-Map in e

-- ---- scalars that are not null

module _ (n : ℕ) (t : Text) (plain : Bool) (some : (plain && is_null_word t) ≡ false) where
  abbrev node : Node
  node = scalar_of n t plain

  scalar_is : scalar node ≡ Some t
  scalar_is = ap scalar_by (scalar_shape n t plain) ∙ ap (λ (b : Bool). if b then None else Some t) some

  pub scalar_read : {A : Type 0} (c : Code) (f : Text → Option A) (x : A) → f t ≡ Some x → (l : ℕ) → in_scalar c f l node ≡ Ok x
  scalar_read c f x e l = ap (λ o. or_bad l c (option_and_then f o)) scalar_is ∙ ap (or_bad l c) e

  pub read_scalar : {A : Type 0} (c : Code) (f : Text → Option A) (x : A) → f t ≡ Some x → (l : ℕ) → IsRead (in_scalar c f l node)
  read_scalar c f x e l = (x, scalar_read c f x e l)

  pub read_entities : (ids : List EntityId) → split_from n [] [] t ≡ Ok ids → (l : ℕ) → IsRead (entities l node)
  read_entities ids e l = (
    ids,
    ap (λ s. if null_by s then bad l code.EntityId else ids_by node s) (scalar_shape n t plain)
        ∙ ap (λ (b : Bool). if b then bad l code.EntityId else split_by n [] (text_by n (shape_of node))) some
        ∙ ap (λ s. split_by n [] (text_by n s)) (scalar_shape n t plain)
        ∙ ap (λ (b : Bool). split_by n [] (if b then bad n code.Kind else Ok t)) some ∙ e,
  )

  -- without a template
  module _ (bare : holds_template t ≡ false) where
    pub read_service : is_some (read_entity t) ≡ true → (l : ℕ) → IsRead (calls.service l node)
    read_service e l = (
      form.literal t,
      ap (calls.service_by l) scalar_is ∙ ap (λ (b : Bool). if b then template_by l (Some t) else calls.id_text l t) bare
          ∙ ap (λ (b : Bool). if b then Ok (form.literal t) else bad l code.EntityId) e,
    )

    pub read_targets : (ids : List Template) → ((l : ℕ) → calls.ids_from l (Ok []) [] t ≡ Ok ids) → (l : ℕ) → IsRead (calls.targets l node)
    read_targets ids e l = (
      ids,
      (λ i. calls.targets_by l (scalar_is i) (scalar_shape n t plain i))
          ∙ ap (λ (b : Bool). if b then behind (Ok []) (template_by l (Some t)) else calls.ids_from l (Ok []) [] t) bare ∙ e l,
    )

    pub read_digits : (x : Template) → ((l : ℕ) → form.template_or_digits l t ≡ Ok x) → (l : ℕ) → IsRead (form.digits l node)
    read_digits x e l = (x, ap (form.digits_by l) scalar_is ∙ e l)

    pub read_span : (x : ℕ) → span_of t ≡ Some x → (l : ℕ) → IsRead (form.span_form l node)
    read_span x e l = (
      SpanForm.Known x,
      ap (form.span_form_by l node) (scalar_shape n t plain) ∙ ap (form.span_text l) scalar_is
          ∙ ap (λ (b : Bool). if b then made SpanForm.Text (template_by l (Some t)) else form.known_text l t) bare ∙ ap (λ o. made SpanForm.Known (or_bad l code.Time o)) e,
    )

  -- with one
  pub read_form : holds_template t ≡ true → (x : Template) → template_of t ≡ Some x → nat_lt 16_384 (length t) ≡ false → IsRead (form.form node)
  read_form holds x e short = (
    forms.Text x,
    tree-out form.scalar_form forms.Items forms.Pairs node ∙ ap (tree_by form.scalar_form forms.Items forms.Pairs n) (scalar_shape n t plain)
        ∙ ap (λ (b : Bool). if b then made forms.Text (template_by n (Some t)) else made forms.Plain (bare_value n t plain)) holds
        ∙ ap (λ o. made forms.Text (template_text n t o)) e ∙ ap (λ (b : Bool). made forms.Text (if b then bad n code.Limit else Ok x)) short,
  )

-- ---- calls

pub read_target : (n : ℕ) (pairs : List Pair) → keys_fault (row key.EntityId ∷ []) None [] pairs ≡ None → IsRead (get key.EntityId pairs calls.targets) → (l : ℕ) → IsRead (calls.target l (with_pairs n pairs))
read_target n pairs h k l =
    read_as (ap (calls.target_by l) (map_shape n pairs))
    (read_made calls.made_target (both (keys (row key.EntityId ∷ []) pairs) (get key.EntityId pairs calls.targets)) (read_both (keys (row key.EntityId ∷ []) pairs) (get key.EntityId pairs calls.targets) (read_keys (row key.EntityId ∷ []) pairs h) k))

-- data of one field
pub read_fields : (n : ℕ) (p : Pair) → IsRead (form.form p.2) → (l : ℕ) → IsRead (form.fields l (with_pairs n (p ∷ [])))
unfolding each_behind
read_fields n p h l =
    read_as (ap (λ s. form-by l s) (map_shape n (p ∷ [])))
    (read_made (λ x. x.0 ++ x.1 ∷ []) (both (Ok []) (made (λ v. (p.0, v)) (form.form p.2))) (read_both (Ok []) (made (λ v. (p.0, v)) (form.form p.2)) ([], refl) (read_made (λ v. (p.0, v)) (form.form p.2) h)))
  where
    form-by : ℕ → Shape → Read (List (Text × Form))
    form-by l s = data_by form.form l s

-- ---- actions

pub read_action : (k : ActionName) (line : ℕ) (pairs : List Pair) → a.name_of pairs ≡ Some k → a.is_test k ≡ false → keys_fault (a.common_rows ++ a.kind_rows k) None [] pairs ≡ None
    → field (row key.ContinueOnError) pairs ≡ None → field (row key.Enabled) pairs ≡ None → IsRead (a.body k line pairs (a.inside pairs)) → IsRead (a.one_action (with_pairs line pairs))
read_action k line pairs name test known go enabled body =
    let rest = a.body k line pairs (a.inside pairs) in
    let two = both (get key.Enabled pairs flag) rest in
    let three = both (get key.ContinueOnError pairs flag) two in
    read_as
    (opened.one_map (with_pairs line pairs) pairs pairs refl refl ∙ ap (a.by_name line pairs (a.inside pairs)) name
    ∙ ap (λ (b : Bool). if b then made a.tested (condition_map true line pairs) else a.with_keys k pairs rest) test)
    (read_made a.made_action (both (keys (a.common_rows ++ a.kind_rows k) pairs) three)
    (read_both (keys (a.common_rows ++ a.kind_rows k) pairs) three (read_keys (a.common_rows ++ a.kind_rows k) pairs known)
    (read_both (get key.ContinueOnError pairs flag) two (read_absent flag (field (row key.ContinueOnError) pairs) go)
    (read_both (get key.Enabled pairs flag) rest (read_absent flag (field (row key.Enabled) pairs) enabled) body))))

abbrev AllRead : {X A : Type 0} → (X → Read A) → List X → Type 0
AllRead read [] = Unit {0}
AllRead read (x ∷ xs) = IsRead (read x) × AllRead read xs

read_kept : {X A : Type 0} (read : X → Read (Option A)) (before : Read (List A)) (xs : List X) → IsRead before → AllRead read xs → IsRead (kept_behind read before xs)
unfolding kept_behind
read_kept read before [] h all = h
read_kept read before (x ∷ xs) h all =
    read_kept read (keep before (read x)) xs (read_made (λ p. and_maybe p.0 p.1) (both before (read x)) (read_both before (read x) h all.0)) all.1

pub read_actions : (n : ℕ) (items : List Node) → AllRead a.one_action items → IsRead (a.actions (listed n items))
read_actions n items all = read_as (opened.all_list (listed n items) items items refl refl) (read_kept a.one_action (Ok []) items ([], refl) all)

-- ---- triggers

pub read_trigger : (k : TriggerKind) (idx line : ℕ) (pairs : List Pair) → trig.kind line pairs ≡ Ok k → keys_fault (trig.rows k) None [] pairs ≡ None
    → field (row key.Id) pairs ≡ None → field (row key.Enabled) pairs ≡ None → IsRead (trig.rule k line pairs) → IsRead (trig.trigger idx (with_pairs line pairs))
read_trigger k idx line pairs named known id enabled rule =
    let two = both (get key.Enabled pairs flag) (trig.rule k line pairs) in
    let three = both (get key.Id pairs text) two in
    read_as (ap (trig.trigger_by idx line) (map_shape line pairs) ∙ ap (trig.by_kind idx line pairs) named)
    (read_made (trig.made_trigger idx) (both (keys (trig.rows k) pairs) three)
    (read_both (keys (trig.rows k) pairs) three (read_keys (trig.rows k) pairs known)
    (read_both (get key.Id pairs text) two (read_absent text (field (row key.Id) pairs) id)
    (read_both (get key.Enabled pairs flag) (trig.rule k line pairs) (read_absent flag (field (row key.Enabled) pairs) enabled) rule))))

-- one alone
pub read_triggers : (n : ℕ) (item : Node) → IsRead (trig.trigger 0 item) → IsRead (trig.triggers (listed n (item ∷ [])))
unfolding trig.triggers_from
read_triggers n item h =
    let all = keep (Ok []) (trig.trigger 0 item) in
    read_as (ap (trig.triggers_by (listed n (item ∷ []))) (list_shape n (item ∷ [])))
    (read_made (λ x. x.1) (both (unless None) all) (read_both (unless None) all (tt, refl) (read_made (λ p. and_maybe p.0 p.1) (both (Ok []) (trig.trigger 0 item)) (read_both (Ok []) (trig.trigger 0 item) ([], refl) h))))
