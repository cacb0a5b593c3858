use Rattle.std.proofs.Common.{◌≡◌, ◌∙◌, ap, refl, sym, rules, List, [], ◌∷◌, ◌++◌, append_assoc, append-nil, subst, string_bytes, Some, ℕ}
use Rattle.serde_json.specs.View.{members_view}
use Rattle.serde_json.proofs.Views.{Entry}
use Rattle.store_text.specs.Store.{Switches, flags_of}
use Rattle.serde_json.specs.Find.{as_bool}
use Rattle.store_text.proofs.FlagLemmas.{values_more, values_stop, flags_sound}
use Rattle.std.specs.List.Sorted.{IsStrictlySortedBy}
use Rattle.std.specs.Map.{keys_of}
use Rattle.std.specs.String.{string_cmp}
use Rattle.store_text.proofs.read.flags.Goals as goal

pub loop-name-preserved : goal.loop-name-preserved
loop-name-preserved c =
    let done = c.loop-name.invariant.0 in
    let found = c.loop-name.found in
    let e : Entry = (c.in-Some.name.now, c.in-Some.value.now) in
    let left = c.next.new.self in
    let all : c.args.members.now.entries ≡ done ++ e ∷ left = c.loop-name.invariant.1 ∙ ap (λ es. done ++ es) c.in-Some.ensures.steps in
    let named : c.in-Ok.copy ≡ string_bytes e.0 = search rules in
    let more : c.push.new.self ≡ found ++ (string_bytes e.0, c.in-Some-as_bool.on) ∷ [] =
    c.in-Ok-push.ensures.ok ∙ ap (λ (k : List ℕ). found ++ (k, c.in-Some-as_bool.on) ∷ []) named in (
      done ++ e ∷ [],
      all ∙ sym (append_assoc done (e ∷ []) left),
      values_more as_bool done e found c.in-Some-as_bool.on c.loop-name.invariant.2 (sym c.in-Some-as_bool.ensures)
          ∙ ap (λ (s : Switches). Some s) (sym more),
    )

pub returns-in-None-as_bool-clause-refused : goal.returns-in-None-as_bool-clause-refused
returns-in-None-as_bool-clause-refused c =
    let done = c.loop-name.invariant.0 in
    let e : Entry = (c.in-Some.name.now, c.in-Some.value.now) in
    let left = c.next.new.self in
    let all : c.args.members.now.entries ≡ done ++ e ∷ left = c.loop-name.invariant.1 ∙ ap (λ es. done ++ es) c.in-Some.ensures.steps in
    (refl, ap (λ es. flags_of (members_view es)) all ∙ values_stop as_bool done e left (sym c.in-None-as_bool.ensures))

pub returns-clause-sound : goal.returns-clause-sound
returns-clause-sound c =
    let done = c.loop-name.invariant.0 in
    let all : c.args.members.now.entries ≡ done = c.loop-name.invariant.1 ∙ ap (λ es. done ++ es) c.in-None.ensures.steps.0 ∙ append-nil done in
    flags_sound done c.loop-name.found c.loop-name.invariant.2 (subst (λ (es : List Entry). IsStrictlySortedBy string_cmp (keys_of es)) all c.iter-name-items.ensures.ordered)
