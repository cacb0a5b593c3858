-- A script that is one call of literal texts.
use Rattle.std.proofs.Common.{◌≡◌, ℕ, List, [], ◌∷◌, ◌++◌, length, map, take, Bool, true, false, refl, sym, ap, subst, ◌∙◌, ◌&&◌, arith}
use Rattle.std.specs.Prelude.{Option, Some, None, Ok, Err, ok_or, nat_le, nat_eq, not, option_and_then, option_map, is_some, codes, drop, if◌then◌else◌}
use Rattle.std.specs.List.{list_all, slice_split, onto_first, starts_with}
use Rattle.std.specs.Option.{option_map_or}
use Rattle.std.proofs.Math.Seq.{take-length}
use Rattle.std.proofs.lemmas.Bool.{eqb-true}
use Rattle.std.proofs.lemmas.Bool.Decides.{nat_tests}
use Rattle.ha_value.specs.declared.value.EntityId.{EntityId}
use Rattle.ha_value.specs.Ids.{entity_text, is_entity, is_name, is_name_byte, read_entity}
use Rattle.ha_value.specs.Lists.{trimmed, before_end}
use Rattle.ha_value.specs.Truth.{is_blank, is_blank_or_break}
use Rattle.ha_value.proofs.PrintLemmas.{id_is_read}
use Rattle.ha_config.specs.declared.template.Piece.TheVariants.{outs-Text}
use Rattle.ha_config.specs.declared.config.Action.{Action}
use Rattle.ha_config.specs.declared.config.ActionKind.{ActionKind}
use Rattle.ha_config.specs.declared.config.ActionKind.TheViews.{out-ActionKind, out-Action}
use Rattle.ha_config.specs.declared.config.ActionKind.TheFolds.{fold_out-ActionKind, fold_out-Action, map-ActionKind}
use Rattle.ha_config.specs.declared.config.ActionKind.TheVariants.{outs-Call}
use Rattle.ha_sight.specs.declared.item.Item.{Item}
use Rattle.ha_sight.specs.declared.steps.Inner.{Inner}
use Rattle.ha_model.specs.declared.record.Record.{Record}
use Rattle.ha_config.specs.Words.{Text, Pairs, same, without_breaks, without_blanks, is_empty_text, parts_between_commas}
use Rattle.ha_sight.specs.Values.{bounded}
use Rattle.ha_sight.specs.Sight.{Automations, Sight}
use Rattle.ha_sight.specs.Templates.{pieces_of, rendered}
use Rattle.ha_journal.specs.Journal.{Journal, scripts_in, units}
use Rattle.ha_journal.specs.Moves.{sight}
use Rattle.ha_sight.specs.Scripts.{Branch, Outcome, Status, whole, called, behind_call, ends}
use Rattle.ha_sight.specs.Branches.{action_branches, branches_of, kind_branches}
use Rattle.ha_sight.specs.Calls.{all_read, call_item, checked_then, done_by, entities_in, item_of, item_or_failed, no_service, no_target, service_of, target_of, template_fault}
use Rattle.ha_sight.specs.Inner.{inner_of, inner_of_helpers, number_named, own_item, scripts_named, variables_in}
use Rattle.ha_sight.specs.Services.{is_of_helpers}
use Rattle.ha_model.specs.Records.{spots, actions_of, ran_on, next_spot}
use Rattle.ha_laws.specs.OneCall.{IsCallable, IsNoScript, call_made, literal_text, one_call}
use Rattle.ha_sight.proofs.HelperCalls.{left-if}
use Rattle.ha_sight.proofs.Rolls.{below_kind, run_action-out, run_kind-out, pieces_of-out, piece-out}
use Rattle.ha_config.proofs.ListLemmas.{append-nil, some-same, true-false}
use Rattle.ha_config.proofs.EqualLemmas.{and_left, and_right, same-refl, same-sound}

-- ---- the script at its place

-- what it gives there, where its call gives this item
abbrev one_place : Journal → Pairs → Item → Option Outcome
one_place j env item = called item (behind_call item (length j) (λ s p. ends Status.Done p) (env ∷ []) [] []) []

one-whole : (service target : Text) (env : Pairs) (j : Journal)
    → whole (one_call service target) env (next_spot j [] ∷ []) ≡ one_place j env (call_item (sight j (length j)) (env ++ []) (literal_text service) (literal_text target ∷ []) [])
one-whole service target env j = simp (run_action-out, run_kind-out, outs-Call)

action_branches-out : (a : Action) → action_branches a ≡ below_kind (out-Action a).kind
action_branches-out a = fold_out-Action (List Branch) (List Branch) kind_branches (λ x. x.kind) a

below_kind-out : (k : ActionKind) → below_kind k ≡ kind_branches (map-ActionKind ActionKind Action (List Branch) (List Branch) below_kind action_branches (out-ActionKind k))
below_kind-out k = fold_out-ActionKind (List Branch) (List Branch) kind_branches (λ x. x.kind) k

-- its one branch is the outer one
pub one-branch : (service target : Text) → branches_of (one_call service target) ≡ [] ∷ []
one-branch service target = simp (action_branches-out, below_kind-out, outs-Call)

-- ---- texts without blanks and commas

yes-no : (b : Bool) → not b ≡ true → b ≡ false
yes-no true h = absurd (let bad : ◌≡◌ {A = Bool} false true = h in cc)
yes-no false h = refl

none-at-end : (test : ℕ → Bool) (xs : List ℕ) → list_all (λ c. not (test c)) xs ≡ true → before_end test xs ≡ xs
none-at-end test [] h = refl
none-at-end test (x ∷ xs) h =
    let no : test x ≡ false = yes-no (test x) (and_left _ _ h) in
    (λ i. if no i && list_all test xs then [] else x ∷ before_end test xs) ∙ ap (λ l. x ∷ l) (none-at-end test xs (and_right (not (test x)) _ h))

none-trimmed : (test : ℕ → Bool) (xs : List ℕ) → list_all (λ c. not (test c)) xs ≡ true → trimmed test xs ≡ xs
none-trimmed test [] h = refl
none-trimmed test (x ∷ xs) h =
    let no : test x ≡ false = yes-no (test x) (and_left _ _ h) in
    rw no (none-at-end test (x ∷ xs) h)

one-part : (test : ℕ → Bool) (xs : List ℕ) → list_all (λ c. not (test c)) xs ≡ true → slice_split test xs ≡ xs ∷ []
one-part test [] h = refl
one-part test (x ∷ xs) h =
    let no : test x ≡ false = yes-no (test x) (and_left _ _ h) in
    rw no (ap (onto_first x) (one-part test xs (and_right (not (test x)) _ h)))

-- ---- the text of an id

all-append : (p : ℕ → Bool) (xs ys : List ℕ) → list_all p xs ≡ true → list_all p ys ≡ true → list_all p (xs ++ ys) ≡ true
all-append p [] ys h g = g
all-append p (x ∷ xs) ys h g = (λ i. and_left (p x) _ h i && all-append p xs ys (and_right (p x) _ h) g i)

all-wider : (p q : ℕ → Bool) → ((c : ℕ) → p c ≡ true → q c ≡ true) → (xs : List ℕ) → list_all p xs ≡ true → list_all q xs ≡ true
all-wider p q wider [] h = refl
all-wider p q wider (x ∷ xs) h = (λ i. wider x (and_left (p x) _ h) i && all-wider p q wider xs (and_right (p x) _ h) i)

name-bytes : (xs : List ℕ) → is_name xs ≡ true → list_all is_name_byte xs ≡ true
name-bytes [] h = refl
name-bytes (x ∷ xs) h = h

id-bytes : (p : ℕ → Bool) → ((c : ℕ) → is_name_byte c ≡ true → p c ≡ true) → p 46 ≡ true → (id : EntityId) → is_entity id ≡ true → list_all p (entity_text id) ≡ true
id-bytes p wider dot id h =
    all-append p id.domain (46 ∷ id.object)
    (all-wider is_name_byte p wider id.domain (name-bytes id.domain (and_left _ _ h)))
    (λ i. dot i && all-wider is_name_byte p wider id.object (name-bytes id.object (and_right (is_name id.domain) _ h)) i)

no-break : (c : ℕ) → is_name_byte c ≡ true → not (is_blank_or_break c) ≡ true
no-break c h = grind (arith, nat_tests)

no-blank : (c : ℕ) → is_name_byte c ≡ true → not (is_blank c) ≡ true
no-blank c h = grind (arith, nat_tests)

no-comma : (c : ℕ) → is_name_byte c ≡ true → not (nat_eq 44 c) ≡ true
no-comma c h = grind (arith, nat_tests)

no-dot : (c : ℕ) → is_name_byte c ≡ true → nat_eq 46 c ≡ false
no-dot c h = grind (arith, nat_tests)

no-dot-in : (c : ℕ) → is_name_byte c ≡ true → nat_eq c 46 ≡ false
no-dot-in c h = grind (arith, nat_tests)

not-empty : (id : EntityId) → is_empty_text (entity_text id) ≡ false
not-empty id = by id.domain
  where
    by : (xs : List ℕ) → is_empty_text (xs ++ 46 ∷ id.object) ≡ false
    by [] = refl
    by (x ∷ xs) = refl

one-entity : (id : EntityId) → is_entity id ≡ true → entities_in (entity_text id) ≡ Some (id ∷ [])
one-entity id h =
    (λ i. if not-empty id i then Some [] else all_read (parts_between_commas (entity_text id)))
    ∙ (λ i. all_read (map without_blanks (one-part (nat_eq 44) (entity_text id) (id-bytes (λ c. not (nat_eq 44 c)) no-comma refl id h) i)))
    ∙ (λ i. all_read (none-trimmed is_blank (entity_text id) (id-bytes (λ c. not (is_blank c)) no-blank refl id h) i ∷ []))
    ∙ (λ i. option_and_then (λ e. option_map (λ es. e ∷ es) (Some [])) (id_is_read id h i))

-- ---- what is rendered

literal-pieces : (s : Sight) (text : Text) (env : Pairs) → pieces_of s (literal_text text) env ≡ Some (text ++ [], env)
literal-pieces s text env = simp (pieces_of-out, piece-out, outs-Text)

-- a literal text that is not too long, and has no blank and no break, is given as it is
pub literal-rendered : (s : Sight) (text : Text) (env : Pairs) → nat_le (length text) 65_536 ≡ true → list_all (λ c. not (is_blank_or_break c)) text ≡ true → rendered s (literal_text text) env ≡ Some text
literal-rendered s text env short plain =
    (λ i. option_map without_breaks (option_and_then (λ r. bounded r.0) (literal-pieces s text env i)))
    ∙ (λ i. option_map without_breaks (bounded (append-nil text i)))
    ∙ (λ i. option_map without_breaks (if short i then Some text else None))
    ∙ (λ i. Some (none-trimmed is_blank_or_break text plain i))

id-rendered : (s : Sight) (id : EntityId) (env : Pairs) → IsCallable id → rendered s (literal_text (entity_text id)) env ≡ Some (entity_text id)
id-rendered s id env h = literal-rendered s (entity_text id) env h.short (id-bytes (λ c. not (is_blank_or_break c)) no-break refl id h.form)

service-is : (s : Sight) (id : EntityId) (env : Pairs) → IsCallable id → service_of s env (literal_text (entity_text id)) ≡ Ok (entity_text id)
service-is s id env h =
    (λ i. checked_then (λ t. if is_some (read_entity t) then Ok t else Err no_service) (ok_or (id-rendered s id env h i) template_fault))
    ∙ (λ i. if is_some (id_is_read id h.form i) then Ok (entity_text id) else Err no_service)

target-is : (s : Sight) (id : EntityId) (env : Pairs) → IsCallable id → target_of s env (literal_text (entity_text id)) ≡ Ok (id ∷ [])
target-is s id env h =
    (λ i. checked_then (λ t. ok_or (entities_in t) no_target) (ok_or (id-rendered s id env h i) template_fault))
    ∙ (λ i. ok_or (one-entity id h.form i) no_target)

-- ---- the item

-- an id of another domain is none of the services of automations
not-automation : (id : EntityId) → IsCallable id → (name : Text) (o : EntityId) → read_entity name ≡ Some o → o.domain ≡ codes "automation" → same (entity_text id) name ≡ false
not-automation id h name o r d = by (same (entity_text id) name) refl
  where
    by : (b : Bool) → same (entity_text id) name ≡ b → b ≡ false
    by false e = refl
    by true e =
        let read : Some id ≡ Some o = sym (id_is_read id h.form) ∙ ap read_entity (same-sound (entity_text id) name e) ∙ r in
        let domain : id.domain ≡ codes "automation" = ap (λ z. z.domain) (some-same id o read) ∙ d in
        let no : same id.domain (codes "automation") ≡ false = yes-no (same id.domain (codes "automation")) h.outside in
        let yes' : same id.domain (codes "automation") ≡ true = subst (λ t. same id.domain t ≡ true) domain (same-refl id.domain) in
        sym yes' ∙ no

named : Text → EntityId
named object = record { domain = codes "automation"; object = object }

reads-on : read_entity (codes "automation.turn_on") ≡ Some (named (codes "turn_on"))
unfolding read_entity named
reads-on = refl

reads-off : read_entity (codes "automation.turn_off") ≡ Some (named (codes "turn_off"))
unfolding read_entity named
reads-off = refl

reads-toggle : read_entity (codes "automation.toggle") ≡ Some (named (codes "toggle"))
unfolding read_entity named
reads-toggle = refl

reads-trigger : read_entity (codes "automation.trigger") ≡ Some (named (codes "trigger"))
unfolding read_entity named
reads-trigger = refl

called-outside : (all : Automations) (id : EntityId) → IsCallable id → (es : List EntityId) (ps : Pairs) → item_of all (entity_text id) es ps ≡ Item.Call (entity_text id) es ps
unfolding named
called-outside all id h es ps =
    let on : same (entity_text id) (codes "automation.turn_on") ≡ false = not-automation id h (codes "automation.turn_on") (named (codes "turn_on")) reads-on refl in
    let off : same (entity_text id) (codes "automation.turn_off") ≡ false = not-automation id h (codes "automation.turn_off") (named (codes "turn_off")) reads-off refl in
    let toggle : same (entity_text id) (codes "automation.toggle") ≡ false = not-automation id h (codes "automation.toggle") (named (codes "toggle")) reads-toggle refl in
    let trigger : same (entity_text id) (codes "automation.trigger") ≡ false = not-automation id h (codes "automation.trigger") (named (codes "trigger")) reads-trigger refl in
    rw (on, off, toggle, trigger) refl

-- a text whose first dot stands behind another word does not begin with this word and a dot
no-start : (name word rest : List ℕ) → list_all is_name_byte name ≡ true → list_all is_name_byte word ≡ true → (name ≡ word → ⊥) → starts_with nat_eq (name ++ 46 ∷ rest) (word ++ 46 ∷ []) ≡ false
no-start [] [] rest n w apart = absurd (apart refl)
no-start [] (c ∷ cs) rest n w apart = (λ i. no-dot-in c (and_left _ _ w) i && starts_with nat_eq rest (cs ++ 46 ∷ []))
no-start (x ∷ xs) [] rest n w apart = (λ i. no-dot x (and_left _ _ n) i && starts_with nat_eq (xs ++ 46 ∷ rest) [])
no-start (x ∷ xs) (c ∷ cs) rest n w apart = by (nat_eq c x) refl (no-start xs cs rest (and_right (is_name_byte x) _ n) (and_right (is_name_byte c) _ w))
  where
    by : (b : Bool) → nat_eq c x ≡ b → ((xs ≡ cs → ⊥) → starts_with nat_eq (xs ++ 46 ∷ rest) (cs ++ 46 ∷ []) ≡ false) → (b && starts_with nat_eq (xs ++ 46 ∷ rest) (cs ++ 46 ∷ [])) ≡ false
    by false e later = refl
    by true e later = later (λ same_rest. apart (λ i. sym (eqb-true c x e) i ∷ same_rest i))

-- nor is it a text that does
not-begun : (text name : Text) → starts_with nat_eq name (codes "script.") ≡ true → starts_with nat_eq text (codes "script.") ≡ false → same text name ≡ false
not-begun text name begun none = by (same text name) refl
  where
    by : (b : Bool) → same text name ≡ b → b ≡ false
    by false e = refl
    by true e = absurd (true-false (sym begun ∙ (λ i. starts_with nat_eq (sym (same-sound text name e) i) (codes "script.")) ∙ none))

-- where no script is in force, or the id is of another domain, the core does not do the call itself
not-own : (ss : List (Text × ℕ)) (id : EntityId) → is_entity id ≡ true → IsNoScript ss id → (es : List EntityId) (ps : Pairs) → own_item ss (entity_text id) es ps ≡ None
not-own [] id form h es ps = refl
not-own (s ∷ ss) id form h es ps =
    let all : List (Text × ℕ) = s ∷ ss in
    let other : id.domain ≡ codes "script" → ⊥
    = λ e. true-false (sym (same-refl id.domain) ∙ (λ i. same id.domain (e i)) ∙ yes-no (same id.domain (codes "script")) h) in
    let plain : starts_with nat_eq (entity_text id) (codes "script.") ≡ false = no-start id.domain (codes "script") id.object (name-bytes id.domain (and_left _ _ form)) refl other in
    let on = not-begun (entity_text id) (codes "script.turn_on") refl plain in
    let off = not-begun (entity_text id) (codes "script.turn_off") refl plain in
    let toggle = not-begun (entity_text id) (codes "script.toggle") refl plain in
    (λ i. if on i then Some (Item.Started (scripts_named all es) (variables_in ps) false)
    else if off i then Some (Item.Halted (scripts_named all es))
    else if toggle i then None
    else option_map (λ k. Item.Started (k ∷ []) ps true) (if plain i then number_named all (drop 7 (entity_text id)) else None))

call-is : (s : Sight) (env : Pairs) (service target : EntityId) → IsCallable service → IsCallable target → inner_of s (entity_text service) (target ∷ []) [] ≡ Inner.Outer
    → call_item s env (literal_text (entity_text service)) (literal_text (entity_text target) ∷ []) [] ≡ Item.Call (entity_text service) (target ∷ []) []
call-is s env service target h g outer =
    rw (service-is s service env h, target-is s target env g)
    ((λ i. item_or_failed s env (done_by (outer i) (item_of s.automations (entity_text service) (target ∷ []) [])))
    ∙ called-outside s.automations service h (target ∷ []) [])

-- LAW: such a script makes its call at its first place, and is done, where no helper is configured for which the service is
pub one-call-ran : (j : Journal) (r : Record) (service target : EntityId) → IsCallable service → IsCallable target → IsNoScript (scripts_in j) service
    → is_of_helpers (sight j (length j)) (entity_text service) ≡ false → actions_of (units j) r.automation ≡ one_call (entity_text service) (entity_text target) → spots j r.serial ≡ []
    → ran_on j r (spots j r.serial ++ (next_spot j [] ∷ [])) ≡ Some (call_made service target)
one-call-ran j r service target h g written unhelped script fresh =
    let outer : inner_of (sight j (length j)) (entity_text service) (target ∷ []) [] ≡ Inner.Outer
    = (let none = not-own (scripts_in (take (length j) j)) service h.form (subst (λ (k : Journal). IsNoScript (scripts_in k) service) (sym (take-length j)) written) (target ∷ []) [] in
    λ i. option_map_or Inner.Does (none i) (inner_of_helpers (sight j (length j)) (entity_text service) (target ∷ []) []))
    ∙ left-if (sight j (length j)) (entity_text service) (target ∷ []) [] unhelped in
    (λ i. whole (script i) r.env (fresh i ++ (next_spot j [] ∷ [])))
    ∙ one-whole (entity_text service) (entity_text target) r.env j
    ∙ (λ i. one_place j r.env (call-is (sight j (length j)) (r.env ++ []) service target h g outer i))
