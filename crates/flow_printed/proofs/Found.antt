-- What is read of a map: the command whose pairs these are, fair but for its automation or helper.
use Rattle.std.proofs.Common.{◌≡◌, ℕ, ◌≤◌, Bool, true, false, cond, List, [], ◌∷◌, drop, Option, Some, None, refl, sym, ap, subst, ◌∙◌, inl, inr, arith}
use Rattle.std.specs.Prelude.{codes, nat_eq, nat_le, ◌++◌, ◌≢◌, ◌&&◌}
use Rattle.std.specs.Fmt.{digits}
use Rattle.std.proofs.lemmas.Bool.{and_parts, leb-true}
use Rattle.std.proofs.lemmas.Bool.Decides.{nat_tests}
use Rattle.std.proofs.lemmas.Slice.Eq.{bytes_eq-Decides}
use Rattle.reading.proofs.Basics.{chosen}
use Rattle.ha_value.specs.declared.value.EntityId.{EntityId}
use Rattle.ha_value.specs.declared.value.Value
use Rattle.ha_value.specs.declared.value.Value.{Value}
use Rattle.ha_value.specs.Ids.{entity_from, entity_text, is_entity, is_name, read_entity}
use Rattle.ha_value.specs.Lists.{after_first, before_first}
use Rattle.ha_clock.specs.MomentText.{moment_of}
use Rattle.ha_clock.specs.Print.{moment_text}
use Rattle.ha_config.specs.declared.command.Cmd.{Cmd}
use Rattle.ha_config.specs.Words.{Text, Pairs, same, characters}
use Rattle.ha_config.specs.Fair.{IsReportable, is_refusal}
use Rattle.ha_config.specs.CommandText.{line_code}
use Rattle.flow_line.specs.Command.{IsInTime, IsLineMap}
use Rattle.flow_printed.specs.declared.kind.Kind.{Kind}
use Rattle.flow_printed.specs.declared.kind.Kind.TheVariants.{Report, Gone, Event, Moment, Switch, Trigger, Restart, Reload, Refused, Lost, TooLong}
use Rattle.flow_printed.specs.Map.{alone, automation, cmd_by, cmd_of_map, code_in, ended, event_of, first_kind, flag_at, gone_of, is_automation, map_at, moment_of_map, printed_moment, refused_of, reload_of, report_of, reportable, short_state, switch_of, text_at, trigger_of, turned}
use Rattle.flow_printed.specs.Printed.{IsFairButForName}
use Rattle.flow_printed.proofs.Fronts.{bound, flag_front, map_front, none_left, some_is, text_front}
use Rattle.flow_printed.proofs.Maps.{first_map, first_text, pair_less}
use Rattle.flow_printed.proofs.Shown.{pairs_of, turned_word}

-- ---- ids

-- a list is what stands before its first c, that c and what follows it
pub joined_at : (c : ℕ) (xs rest : List ℕ) → after_first c xs ≡ Some rest → xs ≡ before_first c xs ++ c ∷ rest
joined_at c [] rest h = absurd cc
joined_at c (x ∷ xs) rest h =
    (elim (nat_eq x c) as (λ b. nat_eq x c ≡ b → cond b (Some xs) (after_first c xs) ≡ Some rest → x ∷ xs ≡ cond b [] (x ∷ before_first c xs) ++ c ∷ rest) [
      | true ↦ λ t e. let is : x ≡ c = grind (arith, nat_tests) in ap (λ (y : ℕ). y ∷ xs) is ∙ ap (λ (r : List ℕ). c ∷ r) (some_is xs rest e)
      | false ↦ λ t e. ap (λ (r : List ℕ). x ∷ r) (joined_at c xs rest e)
    ]) refl h

record IsId (text : Text) (e : EntityId) : Type 0 where
  text_is : text ≡ entity_text e
  form : is_entity e ≡ true

id_is : (text : Text) (e : EntityId) → read_entity text ≡ Some e → IsId text e
unfolding read_entity
id_is text e h = from (before_first 46 text) (after_first 46 text) (λ o k. joined_at 46 text o k) h
  where
    from : (d : Text) (o : Option Text) → ((r : Text) → o ≡ Some r → text ≡ d ++ 46 ∷ r) → entity_from d o ≡ Some e → IsId text e
    from d None whole k = absurd cc
    from d (Some o) whole k = elim (chosen (is_name d && is_name o) (Some (record { domain = d; object = o })) None (Some e) k) [
      | inl c ↦ let is : record { domain = d; object = o } ≡ e = some_is _ e c.1 in record { text_is = whole o refl ∙ ap entity_text is; form = ap is_entity (sym is) ∙ c.0 }
      | inr c ↦ absurd (let m = c.1 in cc)
    ]

pub reported : (text : Text) (e : EntityId) → reportable (read_entity text) ≡ Some e → (text ≡ entity_text e) × IsReportable e
reported text e h =
    (elim (read_entity text) as (λ o. read_entity text ≡ o → reportable o ≡ Some e → (text ≡ entity_text e) × IsReportable e) [
      | None ↦ λ r k. absurd cc
      | Some x ↦ λ r k. elim (chosen (is_automation x) None (Some x) (Some e) k) [
        | inl c ↦ absurd (let m = c.1 in cc)
        | inr c ↦ let is = some_is x e c.1 in let id = id_is text e (r ∙ ap (λ (y : EntityId). Some y) is) in
            (id.text_is, (id.form, λ d. elsewhere (ap is_automation (sym is) ∙ c.0) d))
      ]
    ]) refl h
  where
    elsewhere : is_automation e ≡ false → e.domain ≡ codes "automation" → ⊥
    elsewhere other d = let same_domain = (bytes_eq-Decides e.domain (codes "automation")).1 d in cc

named : (text name : Text) → automation (read_entity text) ≡ Some name → (text ≡ codes "automation." ++ name) × (is_name name ≡ true)
named text name h =
    (elim (read_entity text) as (λ o. read_entity text ≡ o → automation o ≡ Some name → (text ≡ codes "automation." ++ name) × (is_name name ≡ true)) [
      | None ↦ λ r k. absurd cc
      | Some x ↦ λ r k. elim (chosen (is_automation x) (Some x.object) None (Some name) k) [
        | inl c ↦
            let is = some_is x.object name c.1 in
            let id = id_is text x r in
            let domain = (bytes_eq-Decides x.domain (codes "automation")).0 c.0 in
            (id.text_is ∙ ap (λ (d : Text). d ++ 46 ∷ x.object) domain ∙ ap (λ (o : Text). codes "automation" ++ 46 ∷ o) is, ap is_name (sym is) ∙ (and_parts (is_name x.domain) (is_name x.object) id.form).1)
        | inr c ↦ absurd (let m = c.1 in cc)
      ]
    ]) refl h

-- ---- states, words, moments and codes

pub short : (text state : Text) → short_state text ≡ Some state → (text ≡ state) × (characters state ≤ 255)
short text state e = elim (chosen (nat_le (characters text) 255) (Some text) None (Some state) e) [
  | inl c ↦ let is = some_is text state c.1 in (is, subst (λ (t : Text). characters t ≤ 255) is (leb-true (characters text) 255 c.0))
  | inr c ↦ absurd (let m = c.1 in cc)
]

turned_is : (text : Text) (on : Bool) → turned text ≡ Some on → text ≡ turned_word on
turned_is text on e = elim (chosen (same text (codes "on")) (Some true) (cond (same text (codes "off")) (Some false) None) (Some on) e) [
  | inl c ↦ (bytes_eq-Decides text (codes "on")).0 c.0 ∙ ap turned_word (some_is true on c.1)
  | inr c ↦ elim (chosen (same text (codes "off")) (Some false) None (Some on) c.1) [
    | inl d ↦ (bytes_eq-Decides text (codes "off")).0 d.0 ∙ ap turned_word (some_is false on d.1)
    | inr d ↦ absurd (let m = d.1 in cc)
  ]
]

moment_is : (text : Text) (at : ℕ) → printed_moment text ≡ Some at → text ≡ moment_text at
moment_is text at e =
    let read = bound (moment_of text) (λ (m : ℕ). cond (same (moment_text m) text) (Some m) None) at e in
    elim (chosen (same (moment_text read.0) text) (Some read.0) None (Some at) read.2) [
      | inl c ↦ sym ((bytes_eq-Decides (moment_text read.0) text).0 c.0) ∙ ap moment_text (some_is read.0 at c.1)
      | inr c ↦ absurd (let m = c.1 in cc)
    ]

record IsCode (text : Text) (code : ℕ) : Type 0 where
  text_is : text ≡ line_code code
  told : is_refusal code ≡ true

one_code : (text word : Text) (n : ℕ) (others : Option ℕ) (code : ℕ) → word ≡ line_code n → is_refusal n ≡ true → (others ≡ Some code → IsCode text code)
    → cond (same text word) (Some n) others ≡ Some code → IsCode text code
one_code text word n others code is told else_is e = elim (chosen (same text word) (Some n) others (Some code) e) [
  | inl c ↦ subst (IsCode text) (some_is n code c.1) (record { text_is = (bytes_eq-Decides text word).0 c.0 ∙ is; told = told })
  | inr c ↦ else_is c.1
]

no_code : (text : Text) (code : ℕ) → None ≡ Some code → IsCode text code
no_code text code e = absurd cc

code_is : (text : Text) (code : ℕ) → code_in text ≡ Some code → IsCode text code
unfolding digits
code_is t code e =
    one_code t (codes "L1") 1 _ code refl refl
    (one_code t (codes "L2") 2 _ code refl refl
    (one_code t (codes "L3") 3 _ code refl refl
    (one_code t (codes "L4") 4 _ code refl refl
    (one_code t (codes "L5") 5 _ code refl refl
    (one_code t (codes "L6") 6 _ code refl refl
    (one_code t (codes "L7") 7 _ code refl refl
    (one_code t (codes "L8") 8 _ code refl refl
    (one_code t (codes "L9") 9 _ code refl refl
    (one_code t (codes "L10") 10 _ code refl refl
    (one_code t (codes "L12") 12 _ code refl refl
    (one_code t (codes "L13") 13 _ code refl refl
    (one_code t (codes "L14") 14 _ code refl refl (no_code t code))))))))))))) e

-- ---- commands

pub record Found (ps : Pairs) (c : Cmd) : Type 0 where
  pub pairs : ps ≡ pairs_of c
  pub fair : IsFairButForName c

found_as : (ps : Pairs) (c d : Cmd) → Some c ≡ Some d → Found ps c → Found ps d
found_as ps c d e found = subst (Found ps) (some_is c d e) found

-- a first pair of that value, and other pairs behind it
first_is : (key : Text) (v w : Value) (ps rest others : Pairs) → ps ≡ (key, v) ∷ rest → v ≡ w → rest ≡ others → ps ≡ (key, w) ∷ others
first_is key v w ps rest others e is h = e ∙ ap (λ (x : Value). (key, x) ∷ rest) is ∙ ap (λ (r : Pairs). (key, w) ∷ r) h

text_first : (key : Text) (ps : Pairs) (t u : Text) (others : Pairs) → text_at key ps ≡ Some t → t ≡ u → drop 1 ps ≡ others → ps ≡ (key, Value.Text u) ∷ others
text_first key ps t u others e is h = first_is key (Value.Text t) (Value.Text u) ps (drop 1 ps) others (text_front key ps t e) (ap Value.Text is) h

flag_first : (key : Text) (ps : Pairs) (b : Bool) (others : Pairs) → flag_at key ps ≡ Some b → drop 1 ps ≡ others → ps ≡ (key, Value.Flag b) ∷ others
flag_first key ps b others e h = first_is key (Value.Flag b) (Value.Flag b) ps (drop 1 ps) others (flag_front key ps b e) refl h

map_first : (key : Text) (ps a others : Pairs) → map_at key ps ≡ Some a → drop 1 ps ≡ others → ps ≡ (key, Value.Pairs a) ∷ others
map_first key ps a others e h = first_is key (Value.Pairs a) (Value.Pairs a) ps (drop 1 ps) others (map_front key ps a e) refl h

report_fair : (ps : Pairs) (e : EntityId) (state : Text) (a : Pairs) → ps ≡ pairs_of (Cmd.Report e state a) → IsLineMap ps → IsReportable e → characters state ≤ 255 → Found ps (Cmd.Report e state a)
report_fair ps e state a whole line own few =
    let tail = pair_less _ _ (subst IsLineMap whole line) in
    record { pairs = whole; fair = (own, first_text (codes "state") state _ tail, few, first_map (codes "attributes") a [] (pair_less _ _ tail)) }

report_found : (ps : Pairs) (c : Cmd) → IsLineMap ps → report_of ps ≡ Some c → Found ps c
unfolding report_of
report_found ps c line e =
    let id = bound (text_at (codes "report") ps) _ c e in
    let text = bound (text_at (codes "state") (drop 1 ps)) _ c id.2 in
    let map = bound (map_at (codes "attributes") (drop 1 (drop 1 ps))) _ c text.2 in
    let last = bound (ended (drop 1 (drop 1 (drop 1 ps)))) _ c map.2 in
    let entity = bound (reportable (read_entity id.0)) _ c last.2 in
    let state = bound (short_state text.0) _ c entity.2 in
    let own = reported id.0 entity.0 entity.1 in
    let word = short text.0 state.0 state.1 in
    let whole : ps ≡ pairs_of (Cmd.Report entity.0 state.0 map.0) =
    text_first (codes "report") ps id.0 _ _ id.1 own.0
    (text_first (codes "state") (drop 1 ps) text.0 _ _ text.1 word.0
    (map_first (codes "attributes") (drop 1 (drop 1 ps)) map.0 _ map.1 (none_left (drop 1 (drop 1 (drop 1 ps))) last.0 last.1))) in
    found_as ps (Cmd.Report entity.0 state.0 map.0) c state.2 (report_fair ps entity.0 state.0 map.0 whole line own.1 word.1)

gone_found : (ps : Pairs) (c : Cmd) → gone_of ps ≡ Some c → Found ps c
unfolding gone_of
gone_found ps c e =
    let id = bound (text_at (codes "gone") ps) _ c e in
    let last = bound (ended (drop 1 ps)) _ c id.2 in
    let entity = bound (reportable (read_entity id.0)) _ c last.2 in
    let own = reported id.0 entity.0 entity.1 in
    found_as ps (Cmd.Gone entity.0) c entity.2
    (record { pairs = text_first (codes "gone") ps id.0 _ _ id.1 own.0 (none_left (drop 1 ps) last.0 last.1); fair = own.1 })

event_found : (ps : Pairs) (c : Cmd) → IsLineMap ps → event_of ps ≡ Some c → Found ps c
unfolding event_of
event_found ps c line e =
    let kind = bound (text_at (codes "event") ps) _ c e in
    let map = bound (map_at (codes "data") (drop 1 ps)) _ c kind.2 in
    let last = bound (ended (drop 1 (drop 1 ps))) _ c map.2 in
    let whole : ps ≡ pairs_of (Cmd.Event kind.0 map.0) =
    text_first (codes "event") ps kind.0 kind.0 _ kind.1 refl (map_first (codes "data") (drop 1 ps) map.0 _ map.1 (none_left (drop 1 (drop 1 ps)) last.0 last.1)) in
    let own = subst IsLineMap whole line in
    found_as ps (Cmd.Event kind.0 map.0) c last.2
    (record { pairs = whole; fair = (first_text (codes "event") kind.0 _ own, first_map (codes "data") map.0 [] (pair_less _ _ own)) })

moment_found : (ps : Pairs) (c : Cmd) → IsInTime c → moment_of_map ps ≡ Some c → Found ps c
unfolding moment_of_map
moment_found ps c time e =
    let text = bound (text_at (codes "moment") ps) _ c e in
    let last = bound (ended (drop 1 ps)) _ c text.2 in
    let at = bound (printed_moment text.0) _ c last.2 in
    let is : Cmd.Moment at.0 ≡ c = some_is (Cmd.Moment at.0) c at.2 in
    found_as ps (Cmd.Moment at.0) c at.2
    (record { pairs = text_first (codes "moment") ps text.0 _ _ text.1 (moment_is text.0 at.0 at.1) (none_left (drop 1 ps) last.0 last.1); fair = subst IsInTime (sym is) time })

switch_found : (ps : Pairs) (c : Cmd) → switch_of ps ≡ Some c → Found ps c
unfolding switch_of
switch_found ps c e =
    let id = bound (text_at (codes "switch") ps) _ c e in
    let to = bound (text_at (codes "to") (drop 1 ps)) _ c id.2 in
    let ends = bound (flag_at (codes "stop_actions") (drop 1 (drop 1 ps))) _ c to.2 in
    let last = bound (ended (drop 1 (drop 1 (drop 1 ps)))) _ c ends.2 in
    let on = bound (turned to.0) _ c last.2 in
    let name = bound (automation (read_entity id.0)) _ c on.2 in
    let own = named id.0 name.0 name.1 in
    let whole : ps ≡ pairs_of (Cmd.Switch name.0 on.0 ends.0) =
    text_first (codes "switch") ps id.0 _ _ id.1 own.0
    (text_first (codes "to") (drop 1 ps) to.0 _ _ to.1 (turned_is to.0 on.0 on.1)
    (flag_first (codes "stop_actions") (drop 1 (drop 1 ps)) ends.0 _ ends.1 (none_left (drop 1 (drop 1 (drop 1 ps))) last.0 last.1))) in
    found_as ps (Cmd.Switch name.0 on.0 ends.0) c name.2 (record { pairs = whole; fair = own.1 })

trigger_found : (ps : Pairs) (c : Cmd) → trigger_of ps ≡ Some c → Found ps c
unfolding trigger_of
trigger_found ps c e =
    let id = bound (text_at (codes "trigger") ps) _ c e in
    let skip = bound (flag_at (codes "skip_condition") (drop 1 ps)) _ c id.2 in
    let last = bound (ended (drop 1 (drop 1 ps))) _ c skip.2 in
    let name = bound (automation (read_entity id.0)) _ c last.2 in
    let own = named id.0 name.0 name.1 in
    found_as ps (Cmd.Trigger name.0 skip.0) c name.2
    (record { pairs = text_first (codes "trigger") ps id.0 _ _ id.1 own.0 (flag_first (codes "skip_condition") (drop 1 ps) skip.0 _ skip.1 (none_left (drop 1 (drop 1 ps)) last.0 last.1)); fair = own.1 })

reload_found : (ps : Pairs) (c : Cmd) → IsLineMap ps → reload_of ps ≡ Some c → Found ps c
unfolding reload_of
reload_found ps c line e =
    let text = bound (text_at (codes "reload") ps) _ c e in
    let last = bound (ended (drop 1 ps)) _ c text.2 in
    let whole : ps ≡ pairs_of (Cmd.Reload text.0 None) = text_first (codes "reload") ps text.0 text.0 _ text.1 refl (none_left (drop 1 ps) last.0 last.1) in
    found_as ps (Cmd.Reload text.0 None) c last.2 (record { pairs = whole; fair = (first_text (codes "reload") text.0 [] (subst IsLineMap whole line), refl) })

refused_found : (ps : Pairs) (c : Cmd) → refused_of ps ≡ Some c → Found ps c
unfolding refused_of
refused_found ps c e =
    let text = bound (text_at (codes "refused") ps) _ c e in
    let last = bound (ended (drop 1 ps)) _ c text.2 in
    let code = bound (code_in text.0) _ c last.2 in
    let own = code_is text.0 code.0 code.1 in
    found_as ps (Cmd.Refused code.0) c code.2
    (record { pairs = text_first (codes "refused") ps text.0 _ _ text.1 own.text_is (none_left (drop 1 ps) last.0 last.1); fair = own.told })

alone_is : (key : Text) (ps : Pairs) (u : Unit {0}) → alone key ps ≡ Some u → ps ≡ (key, Value.Flag true) ∷ []
unfolding alone
alone_is key ps u e =
    let flag = bound (flag_at key ps) _ u e in
    let last = bound (ended (drop 1 ps)) _ u flag.2 in
    elim (chosen flag.0 (Some tt) None (Some u) last.2) [
      | inl c ↦ flag_first key ps true [] (flag.1 ∙ ap (λ (b : Bool). Some b) c.0) (none_left (drop 1 ps) last.0 last.1)
      | inr c ↦ absurd (let m = c.1 in cc)
    ]

by_kind : (kind : Kind) (ps : Pairs) (c : Cmd) → IsLineMap ps → IsInTime c → cmd_by kind ps ≡ Some c → Found ps c
by_kind Report ps c line time e = report_found ps c line e
by_kind Gone ps c line time e = gone_found ps c e
by_kind Event ps c line time e = event_found ps c line e
by_kind Moment ps c line time e = moment_found ps c time e
by_kind Switch ps c line time e = switch_found ps c e
by_kind Trigger ps c line time e = trigger_found ps c e
by_kind Restart ps c line time e = let it = bound (alone (codes "restart") ps) _ c e in found_as ps Cmd.Restart c it.2 (record { pairs = alone_is (codes "restart") ps it.0 it.1; fair = tt })
by_kind Reload ps c line time e = reload_found ps c line e
by_kind Refused ps c line time e = refused_found ps c e
by_kind Lost ps c line time e = let it = bound (alone (codes "lost") ps) _ c e in found_as ps Cmd.Lost c it.2 (record { pairs = alone_is (codes "lost") ps it.0 it.1; fair = tt })
by_kind TooLong ps c line time e = let it = bound (alone (codes "too_long") ps) _ c e in found_as ps Cmd.TooLong c it.2 (record { pairs = alone_is (codes "too_long") ps it.0 it.1; fair = tt })

pub found_of_map : (ps : Pairs) (c : Cmd) → IsLineMap ps → IsInTime c → cmd_of_map ps ≡ Some c → Found ps c
unfolding cmd_of_map
found_of_map ps c line time e = let kind = bound (first_kind ps) _ c e in by_kind kind.0 ps c line time kind.2
