-- What is put for a command that was read is fair.
use Rattle.std.proofs.Common.{◌≡◌, ℕ, ◌≤◌, Bool, true, false, cond, [], ◌∷◌, map, Option, Some, None, Ok, Err, refl, sym, ap, subst, ◌∙◌, inl, inr, arith, IsTrue}
use Rattle.std.specs.Prelude.{codes, nat_le, not, ◌&&◌}
use Rattle.std.specs.List.{list_all}
use Rattle.std.specs.Str.{is_utf8}
use Rattle.std.proofs.lemmas.Bool.{and_parts, leb-true}
use Rattle.std.proofs.lemmas.Slice.Eq.{bytes_eq-Decides}
use Rattle.reading.proofs.Basics.{chosen}
use Rattle.ha_value.specs.declared.value.EntityId.{EntityId}
use Rattle.ha_value.specs.declared.value.Value.{Value}
use Rattle.ha_value.specs.declared.value.Value.TheOpen.{Value-F}
use Rattle.ha_value.specs.declared.value.Value.TheViews.{out-Value}
use Rattle.ha_value.specs.declared.value.Value.TheFolds.{map-Value}
use Rattle.ha_value.specs.Ids.{entity_from, is_entity, is_name, read_entity}
use Rattle.ha_value.specs.Lists.{before_first, after_first}
use Rattle.ha_clock.specs.MomentText.{moment_of}
use Rattle.ha_config.specs.declared.command.Cmd.{Cmd}
use Rattle.ha_config.specs.declared.config.Config.{Config}
use Rattle.ha_config.specs.declared.command.Cmd.TheVariants as cmd
use Rattle.ha_config.specs.Words.{Text, Pairs, same, first_pair, characters}
use Rattle.ha_config.specs.ValueText.{deepest, depth_of, depth_step, pairs_depth}
use Rattle.ha_config.specs.ValueFacts.{all_distinct, keys_of, is_sound_value, sound_step, are_sound_pairs, utf8_step, has_utf8_texts, have_utf8_texts, AreFairPairs}
use Rattle.ha_config.specs.Fair.{IsFairAmong, IsReportable, put_reload}
use Rattle.flow_line.specs.declared.keys.Command.{Command}
use Rattle.flow_line.specs.declared.keys.Command.TheVariants.{Report, Gone, Event, Moment, Switch, Trigger, Restart, Reload}
use Rattle.flow_line.specs.declared.refusal.Refusal.TheVariants.{Id, LongState, Keys}
use Rattle.flow_line.specs.Command.{Checked, ◌>>=◌, IsLineMap, IsInTime, IsFairOncePut, as_true, at_moment, automation, cmd_by, cmd_of_pairs, event_of, flag_in, flag_of, gone_of, has_keys, is_automation, key_of, map_in, map_of, moment_of_pairs, named, only, reload_of, report_of, reportable, restart_of, restarts, state_of, switch_of, text_in, text_of, trigger_of, turned, value_of, with_keys}
use Rattle.flow_line.proofs.Sound.{deep_layer, sound_layer, utf8_layer, utf8-out}
use Rattle.ha_config.proofs.ValueRolls.{depth_of-out, is_sound_value-out}

abbrev as_ok : Cmd → Checked Cmd
as_ok c = Ok c

bound : {X Y : Type 0} (r : Checked X) (f : X → Checked Y) (y : Y) → (r >>= f) ≡ Ok y → (x : X) × (r ≡ Ok x) × (f x ≡ Ok y)
bound (Ok x) f y e = (x, refl, e)
bound (Err refusal) f y e = absurd cc

-- ---- maps inside the line's map

at_key : (key : Text) (ps : Pairs) (v : Value) → list_all (λ (p : Text × Value). is_sound_value p.1) ps ≡ true → have_utf8_texts ps ≡ true → first_pair key ps ≡ Some v
    → (is_sound_value v ≡ true) × (depth_of v ≤ deepest (map (λ (p : Text × Value). depth_of p.1) ps)) × (has_utf8_texts v ≡ true)
at_key key [] v s u e = absurd cc
at_key key (p ∷ ps) v s u e =
    let d = and_parts (is_sound_value p.1) (list_all (λ (p : Text × Value). is_sound_value p.1) ps) s in
    let w = and_parts (is_utf8 p.0 && has_utf8_texts p.1) (have_utf8_texts ps) u in
    let own = and_parts (is_utf8 p.0) (has_utf8_texts p.1) w.0 in
    elim (chosen (same p.0 key) (Some p.1) (first_pair key ps) (Some v) e) [
      | inl h ↦ let is : p.1 ≡ v = some_same p.1 v h.1 in (ap is_sound_value (sym is) ∙ d.0, (let l = ap depth_of is in omega arith), ap has_utf8_texts (sym is) ∙ own.1)
      | inr h ↦ let r = at_key key ps v d.1 w.1 h.1 in (r.0, (let l = r.1 in omega arith), r.2)
    ]
  where
    some_same : (a b : Value) → Some a ≡ Some b → a ≡ b
    some_same a b e = cc

layer_is : (x : Value-F Value) (a : Pairs) → map_in x ≡ Ok a → x ≡ Value-F.Pairs a
layer_is (Value-F.Pairs ps) a e = cc
layer_is Value-F.Null a e = absurd cc
layer_is (Value-F.Flag b) a e = absurd cc
layer_is (Value-F.Number n) a e = absurd cc
layer_is (Value-F.Text t) a e = absurd cc
layer_is (Value-F.Items vs) a e = absurd cc

abbrev as_map : Pairs → Checked Pairs
as_map x = Ok x

no_pairs : AreFairPairs []
no_pairs = (refl, refl, omega arith)

inner_map : (key : Text) (ps a : Pairs) → IsLineMap ps → map_of (first_pair key ps) ≡ Ok a → AreFairPairs a
inner_map key ps a line e =
    (elim (first_pair key ps) as (λ o. first_pair key ps ≡ o → map_of o ≡ Ok a → AreFairPairs a) [
      | None ↦ λ h m. subst AreFairPairs (ok_same [] a m) no_pairs
      | Some v ↦ λ h m.
          let parts = and_parts (all_distinct (keys_of ps)) (list_all (λ (p : Text × Value). is_sound_value p.1) ps) line.sound in
          let here = at_key key ps v parts.1 line.utf8 h in
          let is = layer_is (out-Value v) a m in
          let sound : is_sound_value v ≡ are_sound_pairs a = is_sound_value-out v ∙ ap (λ (x : Value-F Value). sound_step (map-Value Value Bool is_sound_value x)) is ∙ sound_layer a in
          let deep : depth_of v ≡ pairs_depth a = depth_of-out v ∙ ap (λ (x : Value-F Value). depth_step (map-Value Value ℕ depth_of x)) is ∙ deep_layer a in
          let utf8 : has_utf8_texts v ≡ have_utf8_texts a = utf8-out v ∙ ap (λ (x : Value-F Value). utf8_step (map-Value Value Bool has_utf8_texts x)) is ∙ utf8_layer a in
          (sym sound ∙ here.0, sym utf8 ∙ here.2, (let l = line.deep in let k = here.1 in omega arith))
    ]) refl e
  where
    ok_same : (x y : Pairs) → as_map x ≡ Ok y → x ≡ y
    ok_same x y e = cc

-- ---- texts inside the line's map

text_layer : (x : Value-F Value) (t : Text) → text_in x ≡ Ok t → x ≡ Value-F.Text t
text_layer (Value-F.Text u) t e = cc
text_layer Value-F.Null t e = absurd cc
text_layer (Value-F.Flag b) t e = absurd cc
text_layer (Value-F.Number n) t e = absurd cc
text_layer (Value-F.Items vs) t e = absurd cc
text_layer (Value-F.Pairs ps) t e = absurd cc

inner_text : (key : Text) (ps : Pairs) (t : Text) → IsLineMap ps → text_of (first_pair key ps) ≡ Ok t → is_utf8 t ≡ true
inner_text key ps t line e =
    (elim (first_pair key ps) as (λ o. first_pair key ps ≡ o → text_of o ≡ Ok t → is_utf8 t ≡ true) [
      | None ↦ λ h m. absurd cc
      | Some v ↦ λ h m.
          let parts = and_parts (all_distinct (keys_of ps)) (list_all (λ (p : Text × Value). is_sound_value p.1) ps) line.sound in
          let here = at_key key ps v parts.1 line.utf8 h in
          let is = text_layer (out-Value v) t m in
          sym (utf8-out v ∙ ap (λ (x : Value-F Value). utf8_step (map-Value Value Bool has_utf8_texts x)) is) ∙ here.2
    ]) refl e

-- ---- ids and states

id_has_form : (text : Text) (e : EntityId) → read_entity text ≡ Some e → is_entity e ≡ true
unfolding read_entity
id_has_form text e h = from (before_first 46 text) (after_first 46 text) h
  where
    from : (d : Text) (o : Option Text) → entity_from d o ≡ Some e → is_entity e ≡ true
    from d None k = absurd cc
    from d (Some o) k = elim (chosen (is_name d && is_name o) (Some (record { domain = d; object = o })) None (Some e) k) [
      | inl c ↦ let same_id : record { domain = d; object = o } ≡ e = cc in ap is_entity (sym same_id) ∙ c.0
      | inr c ↦ absurd (let m = c.1 in cc)
    ]

reports : (text : Text) (e : EntityId) → reportable (read_entity text) ≡ Ok e → IsReportable e
reports text e h =
    (elim (read_entity text) as (λ o. read_entity text ≡ o → reportable o ≡ Ok e → IsReportable e) [
      | None ↦ λ r k. absurd cc
      | Some x ↦ λ r k. elim (chosen (is_automation x) (Err Id) (Ok x) (Ok e) k) [
        | inl c ↦ absurd (let m = c.1 in cc)
        | inr c ↦ let is : x ≡ e = (let m = c.1 in cc) in
            (id_has_form text e (r ∙ ap (λ (y : EntityId). Some y) is), λ d. elsewhere e (ap is_automation (sym is) ∙ c.0) d)
      ]
    ]) refl h
  where
    elsewhere : (e : EntityId) → is_automation e ≡ false → e.domain ≡ codes "automation" → ⊥
    elsewhere e other d = let same_domain = (bytes_eq-Decides e.domain (codes "automation")).1 d in cc

object_of : (text : Text) (name : Text) → automation (read_entity text) ≡ Ok name → is_name name ≡ true
object_of text name h =
    (elim (read_entity text) as (λ o. read_entity text ≡ o → automation o ≡ Ok name → is_name name ≡ true) [
      | None ↦ λ r k. absurd cc
      | Some x ↦ λ r k. elim (chosen (is_automation x) (Ok x.object) (Err Id) (Ok name) k) [
        | inl c ↦ let is : x.object ≡ name = (let m = c.1 in cc) in ap is_name (sym is) ∙ (and_parts (is_name x.domain) (is_name x.object) (id_has_form text x r)).1
        | inr c ↦ absurd (let m = c.1 in cc)
      ]
    ]) refl h

same_state : (text state : Text) → state_of text ≡ Ok state → text ≡ state
same_state text state e = elim (chosen (nat_le (characters text) 255) (Ok text) (Err LongState) (Ok state) e) [
  | inl c ↦ (let m = c.1 in cc)
  | inr c ↦ absurd (let m = c.1 in cc)
]

short : (text state : Text) → state_of text ≡ Ok state → characters state ≤ 255
short text state e = elim (chosen (nat_le (characters text) 255) (Ok text) (Err LongState) (Ok state) e) [
  | inl c ↦ let is : text ≡ state = (let m = c.1 in cc) in subst (λ (t : Text). characters t ≤ 255) is (leb-true (characters text) 255 c.0)
  | inr c ↦ absurd (let m = c.1 in cc)
]

-- ---- commands

module _ (has : Text → Bool) (helps : EntityId → Bool) (more : Bool) where
  put_named : (name : Text) (c : Cmd) → (IsTrue (has name) → IsFairAmong has helps more c) → IsFairAmong has helps more (cond (has name) c (cmd.Refused 9))
  put_named name c fair =
      (elim (has name) as (λ b. has name ≡ b → IsFairAmong has helps more (cond b c (cmd.Refused 9))) [
        | true ↦ λ e. fair e
        | false ↦ λ e. refl
      ]) refl

  put_reported : (e : EntityId) (c : Cmd) → (IsTrue (not (helps e)) → IsFairAmong has helps more c) → IsFairAmong has helps more (cond (helps e) (cmd.Refused 14) c)
  put_reported e c fair = by (helps e) fair
    where
      by : (b : Bool) → (IsTrue (not b) → IsFairAmong has helps more c) → IsFairAmong has helps more (cond b (cmd.Refused 14) c)
      by true fair = refl
      by false fair = fair refl

made : (x y : Cmd) → as_ok x ≡ Ok y → x ≡ y
made x y e = cc

report_fair : (ps : Pairs) (c : Cmd) → IsLineMap ps → report_of ps ≡ Ok c → IsFairOncePut c
unfolding report_of
report_fair ps c line e =
    let id = bound (text_of (value_of Report ps)) _ c e in
    let text = bound (text_of (first_pair (codes "state") ps)) _ c id.2 in
    let attributes = bound (map_of (first_pair (codes "attributes") ps)) _ c text.2 in
    let entity = bound (reportable (read_entity id.0)) _ c attributes.2 in
    let state = bound (state_of text.0) _ c entity.2 in
    subst IsFairOncePut (made (cmd.Report entity.0 state.0 attributes.0) c state.2)
    (λ read has helps more. put_reported has helps more entity.0 (cmd.Report entity.0 state.0 attributes.0)
    (λ free. ((reports id.0 entity.0 entity.1, ap is_utf8 (sym (same_state text.0 state.0 state.1)) ∙ inner_text (codes "state") ps text.0 line text.1, short text.0 state.0 state.1, inner_map (codes "attributes") ps attributes.0 line attributes.1), free)))

gone_fair : (ps : Pairs) (c : Cmd) → gone_of ps ≡ Ok c → IsFairOncePut c
unfolding gone_of
gone_fair ps c e =
    let id = bound (text_of (value_of Gone ps)) _ c e in
    let entity = bound (reportable (read_entity id.0)) _ c id.2 in
    subst IsFairOncePut (made (cmd.Gone entity.0) c entity.2)
    (λ read has helps more. put_reported has helps more entity.0 (cmd.Gone entity.0) (λ free. (reports id.0 entity.0 entity.1, free)))

event_fair : (ps : Pairs) (c : Cmd) → IsLineMap ps → event_of ps ≡ Ok c → IsFairOncePut c
unfolding event_of
event_fair ps c line e =
    let kind = bound (text_of (value_of Event ps)) _ c e in
    let fields = bound (map_of (first_pair (codes "data") ps)) _ c kind.2 in
    subst IsFairOncePut (made (cmd.Event kind.0 fields.0) c fields.2) (λ read has helps more. (inner_text (key_of Event) ps kind.0 line kind.1, inner_map (codes "data") ps fields.0 line fields.1))

at_fair : (o : Option ℕ) (c : Cmd) → IsInTime c → at_moment o ≡ Ok c → IsFairOncePut c
at_fair None c t e = absurd cc
at_fair (Some at) c t e = let is = made (cmd.Moment at) c e in subst IsFairOncePut is (λ read has helps more. subst IsInTime (sym is) t)

moment_fair : (ps : Pairs) (c : Cmd) → IsInTime c → moment_of_pairs ps ≡ Ok c → IsFairOncePut c
unfolding moment_of_pairs
moment_fair ps c t e = let text = bound (text_of (value_of Moment ps)) _ c e in at_fair (moment_of text.0) c t text.2

switch_fair : (ps : Pairs) (c : Cmd) → switch_of ps ≡ Ok c → IsFairOncePut c
unfolding switch_of
switch_fair ps c e =
    let id = bound (text_of (value_of Switch ps)) _ c e in
    let to = bound (text_of (first_pair (codes "to") ps)) _ c id.2 in
    let on = bound (turned to.0) _ c to.2 in
    let ends = bound (flag_of (first_pair (codes "stop_actions") ps)) _ c on.2 in
    let name = bound (automation (read_entity id.0)) _ c ends.2 in
    subst IsFairOncePut (made (cmd.Switch name.0 on.0 ends.0) c name.2) (λ read has helps more. put_named has helps more name.0 (cmd.Switch name.0 on.0 ends.0) (λ h. (object_of id.0 name.0 name.1, h)))

trigger_fair : (ps : Pairs) (c : Cmd) → trigger_of ps ≡ Ok c → IsFairOncePut c
unfolding trigger_of
trigger_fair ps c e =
    let id = bound (text_of (value_of Trigger ps)) _ c e in
    let skip = bound (flag_of (first_pair (codes "skip_condition") ps)) _ c id.2 in
    let name = bound (automation (read_entity id.0)) _ c skip.2 in
    subst IsFairOncePut (made (cmd.Trigger name.0 skip.0) c name.2) (λ read has helps more. put_named has helps more name.0 (cmd.Trigger name.0 skip.0) (λ h. (object_of id.0 name.0 name.1, h)))

restart_fair : (ps : Pairs) (c : Cmd) → restart_of ps ≡ Ok c → IsFairOncePut c
unfolding restart_of
restart_fair ps c e = of_value (value_of Restart ps) e
  where
    of_flag : (b : Bool) → as_true b ≡ Ok c → IsFairOncePut c
    of_flag true k = subst IsFairOncePut (made cmd.Restart c k) (λ read has helps more. tt)
    of_flag false k = absurd cc

    of_value : (o : Option Value) → restarts o ≡ Ok c → IsFairOncePut c
    of_value None k = absurd cc
    of_value (Some v) k = let flag = bound (flag_in (out-Value v)) as_true c k in of_flag flag.0 flag.2

-- a Reload whose text is read as this
reload_put : (has : Text → Bool) (helps : EntityId → Bool) (more : Bool) (text : Text) (o : Option Config) → is_utf8 text ≡ true → IsFairAmong has helps more (put_reload more text o)
reload_put has helps more text None u = refl
reload_put has helps true text (Some config) u = (u, refl, refl)
reload_put has helps false text (Some config) u = refl

reload_fair : (ps : Pairs) (c : Cmd) → IsLineMap ps → reload_of ps ≡ Ok c → IsFairOncePut c
unfolding reload_of
reload_fair ps c line e =
    let text = bound (text_of (value_of Reload ps)) _ c e in
    subst IsFairOncePut (made (cmd.Reload text.0 None) c text.2) (λ read has helps more. reload_put has helps more text.0 (read text.0) (inner_text (key_of Reload) ps text.0 line text.1))

by_command : (command : Command) (ps : Pairs) (c : Cmd) → IsLineMap ps → IsInTime c → cmd_by command ps ≡ Ok c → IsFairOncePut c
by_command Report ps c line t e = report_fair ps c line e
by_command Gone ps c line t e = gone_fair ps c e
by_command Event ps c line t e = event_fair ps c line e
by_command Moment ps c line t e = moment_fair ps c t e
by_command Switch ps c line t e = switch_fair ps c e
by_command Trigger ps c line t e = trigger_fair ps c e
by_command Restart ps c line t e = restart_fair ps c e
by_command Reload ps c line t e = reload_fair ps c line e

same_map : (command : Command) (ps own : Pairs) → with_keys command ps ≡ Ok own → ps ≡ own
same_map command ps own e = elim (chosen (has_keys command ps) (Ok ps) (Err Keys) (Ok own) e) [
  | inl h ↦ (let k = h.1 in cc)
  | inr h ↦ absurd (let k = h.1 in cc)
]

pub fair_of_pairs : (ps : Pairs) (c : Cmd) → IsLineMap ps → IsInTime c → cmd_of_pairs ps ≡ Ok c → IsFairOncePut c
unfolding cmd_of_pairs
fair_of_pairs ps c line t e =
    let command = bound (only (named ps)) _ c e in
    let own = bound (with_keys command.0 ps) _ c command.2 in
    by_command command.0 own.0 c (subst IsLineMap (same_map command.0 ps own.0 own.1) line) t own.2
