-- A report without attributes, whose texts are printed as they are.
use Rattle.std.proofs.Common.{◌≡◌, ℕ, true, [], ◌∷◌, ◌++◌, take, drop, Some, refl, sym, ap, subst, ◌∙◌, append_assoc, arith}
use Rattle.std.specs.Prelude.{codes, flat_map}
use Rattle.std.specs.List.{list_all}
use Rattle.std.specs.Str.{is_utf8}
use Rattle.std.proofs.lemmas.Bool.{and_parts}
use Rattle.std.proofs.lemmas.Bool.Decides.{nat_tests}
use Rattle.std.proofs.lemmas.List.{take-append-drop}
use Rattle.ha_value.specs.declared.value.EntityId.{EntityId}
use Rattle.ha_value.specs.Ids.{entity_text, read_entity}
use Rattle.ha_config.specs.declared.command.Cmd.{Cmd}
use Rattle.ha_config.specs.Words.{Text}
use Rattle.ha_config.specs.CommandText.{cmd_text}
use Rattle.ha_config.specs.ValueText.{escaped_byte}
use Rattle.flow_line.specs.Bytes.{stands_as_is}
use Rattle.flow_printed.specs.Line.{before, behind}
use Rattle.flow_printed.specs.Map.{◌>>=◌, reportable, short_state}
use Rattle.flow_printed.specs.Plain.{plain_report, plain_text}
use Rattle.flow_printed.specs.Printed.{IsPrintOf}
use Rattle.flow_printed.proofs.Fronts.{bound, some_is}
use Rattle.flow_printed.proofs.Found.{reported, short}
use Rattle.flow_printed.proofs.Lines.{before_is, behind_is}

-- ---- texts that are printed as they are

stays : (b : ℕ) → stands_as_is b ≡ true → escaped_byte b ≡ b ∷ []
stays b h = grind (arith, nat_tests)

all_stay : (text : Text) → list_all stands_as_is text ≡ true → flat_map escaped_byte text ≡ text
all_stay [] h = refl
all_stay (b ∷ text) h =
    let parts = and_parts (stands_as_is b) (list_all stands_as_is text) h in
    ap (λ (r : Text). r ++ flat_map escaped_byte text) (stays b parts.0) ∙ ap (λ (r : Text). b ∷ r) (all_stay text parts.1)

-- ---- the text of its parts

-- a string in quotes, whose characters are these
abbrev in_quotes : Text → Text
in_quotes text = 34 ∷ (text ++ 34 ∷ [])

abbrev shown : Text → Text → Text
shown id state =
    123 ∷ ((codes "\"report\":" ++ (in_quotes id ++ 44 ∷ (codes "\"state\":" ++ (in_quotes state ++ 44 ∷ codes "\"attributes\":{}")))) ++ 125 ∷ [])

seam : (a b c : Text) → ((a ++ 34 ∷ []) ++ b) ++ c ≡ a ++ 34 ∷ (b ++ c)
seam a b c = append_assoc (a ++ 34 ∷ []) b c ∙ append_assoc a (34 ∷ []) (b ++ c)

shown_is : (id state : Text) → shown id state ≡ plain_text id state
shown_is id state =
    ap (λ (r : Text). codes "{\"report\":\"" ++ r) (seam id (44 ∷ (codes "\"state\":" ++ (in_quotes state ++ 44 ∷ codes "\"attributes\":{}"))) (125 ∷ []))
    ∙ ap (λ (r : Text). codes "{\"report\":\"" ++ (id ++ (codes "\",\"state\":\"" ++ r))) (seam state (44 ∷ codes "\"attributes\":{}") (125 ∷ []))

cmd_shown : (e : EntityId) (state : Text) → flat_map escaped_byte (entity_text e) ≡ entity_text e → flat_map escaped_byte state ≡ state
    → cmd_text (Cmd.Report e state []) ≡ shown (entity_text e) state
cmd_shown e state k l =
    ap (λ (t : Text). shown t (flat_map escaped_byte state)) k ∙ ap (λ (t : Text). shown (entity_text e) t) l

-- ---- the report

pub plain_print : (text id state : Text) (c : Cmd) → text ≡ plain_text id state → list_all stands_as_is id ≡ true → list_all stands_as_is state ≡ true → is_utf8 state ≡ true
    → plain_report id state ≡ Some c → IsPrintOf text c
unfolding plain_report
plain_print text id state c is own other utf8 e =
    let entity = bound (reportable (read_entity id)) (λ x. short_state state >>= λ t. Some (Cmd.Report x t [])) c e in
    let told = bound (short_state state) (λ t. Some (Cmd.Report entity.0 t [])) c entity.2 in
    let id_is = reported id entity.0 entity.1 in
    let state_is = short state told.0 told.1 in
    let c_is : Cmd.Report entity.0 told.0 [] ≡ c = some_is (Cmd.Report entity.0 told.0 []) c told.2 in
    let own_stays = all_stay (entity_text entity.0) (ap (list_all stands_as_is) (sym id_is.0) ∙ own) in
    let other_stays = all_stay told.0 (ap (list_all stands_as_is) (sym state_is.0) ∙ other) in
    subst (IsPrintOf text) c_is
    (record {
      fair = (id_is.1, ap is_utf8 (sym state_is.0) ∙ utf8, state_is.1, (refl, refl, omega arith));
      text_is = is ∙ ap (λ (t : Text). plain_text t state) id_is.0 ∙ ap (plain_text (entity_text entity.0)) state_is.0 ∙ sym (shown_is (entity_text entity.0) told.0)
          ∙ sym (cmd_shown entity.0 told.0 own_stays other_stays);
    })

-- what was cut
pub plain_cut : (text rest texts tail state : Text) (at : ℕ) → behind (codes "{\"report\":\"") text ≡ Some rest → before (codes "\",\"attributes\":{}}") rest ≡ Some texts
    → tail ≡ drop at texts → behind (codes "\",\"state\":\"") tail ≡ Some state → text ≡ plain_text (take at texts) state
plain_cut text rest texts tail state at e f is g =
    let back : Text = codes "\",\"attributes\":{}}" in
    let inner : texts ≡ take at texts ++ (codes "\",\"state\":\"" ++ state) = sym (take-append-drop at texts) ∙ ap (λ (r : Text). take at texts ++ r) (sym is ∙ behind_is (codes "\",\"state\":\"") tail state g) in
    behind_is (codes "{\"report\":\"") text rest e
    ∙ ap (λ (r : Text). codes "{\"report\":\"" ++ r)
    (before_is back rest texts f ∙ ap (λ (r : Text). r ++ back) inner ∙ append_assoc (take at texts) (codes "\",\"state\":\"" ++ state) back)
