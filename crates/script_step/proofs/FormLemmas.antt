-- The values of forms and of fields, member by member.
use Rattle.std.proofs.Common.{◌≡◌, ◌∙◌, ap, refl, List, [], ◌∷◌, map, sym}
use Rattle.std.specs.Prelude.{Option, Some, None, option_map, option_and_then}
use Rattle.ha_value.specs.declared.value.Value.{Value}
use Rattle.ha_value.specs.declared.value.Value.TheVariants.{Items as Listed, Pairs as Mapped}
use Rattle.ha_config.specs.declared.config.Form.{Form}
use Rattle.ha_config.specs.declared.config.Form.TheOpen.{Form-F}
use Rattle.ha_config.specs.declared.config.Form.TheViews.{out-Form}
use Rattle.ha_config.specs.declared.config.Form.TheFolds.{map-Form}
use Rattle.ha_config.specs.declared.config.Form.TheVariants.{Items, Pairs as Fields, outs-Items, outs-Pairs}
use Rattle.ha_sight.specs.Sight.{Sight}
use Rattle.ha_config.specs.Words.{Text, Pairs}
use Rattle.ha_sight.specs.Templates.{Meaning, all_of, pairs_of, form_step, data_of}
use Rattle.ha_sight.specs.Calls.{forms_of, fields_of}
use Rattle.ha_sight.proofs.Rolls.{data_of-out}
use Rattle.script_step.proofs.EachLemmas.{each}

module _ (sight : Sight) (env : Pairs) where
  -- ---- forms, fields and entity ids as lists that are valued one by one

  pub forms-each : (fs : List Form) → forms_of sight env fs ≡ each (λ f. data_of sight f env) fs
  forms-each [] = refl
  forms-each (f ∷ fs) = (λ k. option_and_then (λ v. option_map (λ vs. v ∷ vs) (forms-each fs k)) (data_of sight f env))

  abbrev pub field_value : Text × Form → Option (Text × Value)
  field_value p = option_map (λ (v : Value). (p.0, v)) (data_of sight p.1 env)

  named-first : (name : Text) (v : Option Value) (rest : Option Pairs)
      → option_and_then (λ w. option_map (λ ws. (name, w) ∷ ws) rest) v ≡ option_and_then (λ q. option_map (λ ws. q ∷ ws) rest) (option_map (λ (w : Value). (name, w)) v)
  named-first name None rest = refl
  named-first name (Some v) rest = refl

  pub fields-each : (ps : List (Text × Form)) → fields_of sight env ps ≡ each field_value ps
  fields-each [] = refl
  fields-each (p ∷ ps) =
      (λ k. option_and_then (λ v. option_map (λ vs. (p.0, v) ∷ vs) (fields-each ps k)) (data_of sight p.1 env)) ∙ named-first p.0 (data_of sight p.1 env) (each field_value ps)

  -- ---- a form by its kind

  at : (x : Form) (y : Form-F Form) → out-Form x ≡ y → data_of sight x env ≡ form_step sight (map-Form Form (Meaning sight) (data_of sight) y) env
  at x y h = data_of-out sight x env ∙ ap (λ z. form_step sight (map-Form Form (Meaning sight) (data_of sight) z) env) h

  forms-all : (fs : List Form) → all_of sight (map (data_of sight) fs) env ≡ forms_of sight env fs
  forms-all [] = refl
  forms-all (f ∷ fs) = (λ k. option_and_then (λ v. option_map (λ vs. v ∷ vs) (forms-all fs k)) (data_of sight f env))

  pub data-items : (x : Form) (fs gs : List Form) → x ≡ Items fs → gs ≡ fs → data_of sight x env ≡ option_map Listed (forms_of sight env gs)
  data-items x fs gs h e =
      ap (λ f. data_of sight f env) h ∙ at (Items fs) (Form-F.Items fs) (simp outs-Items) ∙ ap (option_map Listed) (forms-all fs) ∙ (λ k. option_map Listed (forms_of sight env (sym e k)))

  unfoldable pub pairs_in : Form-F (Meaning sight) → List (Text × Meaning sight)
  pairs_in (Form-F.Pairs ps) = ps
  pairs_in _ = []

  unfoldable pub mapped : List (Text × Form) → List (Text × Meaning sight)
  mapped ps = pairs_in (map-Form Form (Meaning sight) (data_of sight) (Form-F.Pairs ps))

  fields-mapped : (ps : List (Text × Form)) → pairs_of sight (mapped ps) env ≡ fields_of sight env ps
  unfolding mapped pairs_in
  fields-mapped [] = refl
  fields-mapped (p ∷ ps) = (λ k. option_and_then (λ v. option_map (λ vs. (p.0, v) ∷ vs) (fields-mapped ps k)) (data_of sight p.1 env))

  pub data-pairs : (x : Form) (ps qs : List (Text × Form)) → x ≡ Fields ps → qs ≡ ps → data_of sight x env ≡ option_map Mapped (fields_of sight env qs)
  unfolding mapped pairs_in
  data-pairs x ps qs h e =
      ap (λ f. data_of sight f env) h ∙ at (Fields ps) (Form-F.Pairs ps) (simp outs-Pairs) ∙ ap (option_map Mapped) (fields-mapped ps)
      ∙ (λ k. option_map Mapped (fields_of sight env (sym e k)))
