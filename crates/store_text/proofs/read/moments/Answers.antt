use Rattle.std.proofs.Common.{◌≡◌, ◌∙◌, ap, refl, sym, rules, List, [], ◌∷◌, ◌++◌, append_assoc, append-nil, subst, string_bytes, Some, true, ℕ}
use Rattle.std.specs.Prelude.{nat_le}
use Rattle.std.specs.List.{list_all}
use Rattle.ha_clock.specs.Local.{last_moment}
use Rattle.serde_json.specs.View.{members_view}
use Rattle.serde_json.proofs.Views.{Entry}
use Rattle.store_text.specs.Store.{Moments, as_moment, moments_of}
use Rattle.store_text.proofs.FlagLemmas.{in-time-more, values_more, values_stop, moments_sound}
use Rattle.std.specs.List.Sorted.{IsStrictlySortedBy}
use Rattle.std.specs.Map.{keys_of}
use Rattle.std.specs.String.{string_cmp}
use Rattle.store_text.proofs.read.moments.Goals as goal

pub loop-name-preserved : goal.loop-name-preserved
loop-name-preserved c =
    let done = c.loop-name.invariant.0 in
    let found = c.loop-name.found in
    let e : Entry = (c.in-Some.name.now, c.in-Some.value.now) in
    let left = c.next.new.self in
    let all : c.args.members.now.entries ≡ done ++ e ∷ left = c.loop-name.invariant.1 ∙ ap (λ es. done ++ es) c.in-Some.ensures.steps in
    let named : c.in-Ok.copy ≡ string_bytes e.0 = search rules in
    let more : c.push.new.self ≡ found ++ (string_bytes e.0, c.in-Some-moment_in.at) ∷ [] =
    c.in-Ok-push.ensures.ok ∙ ap (λ (k : List ℕ). found ++ (k, c.in-Some-moment_in.at) ∷ []) named in (
      done ++ e ∷ [],
      all ∙ sym (append_assoc done (e ∷ []) left),
      values_more as_moment done e found c.in-Some-moment_in.at c.loop-name.invariant.2 (sym c.in-Some-moment_in.ensures.value)
          ∙ ap (λ (s : Moments). Some s) (sym more),
      subst (λ (s : Moments). list_all (λ p. nat_le p.1 last_moment) s ≡ true) (sym more)
          (in-time-more found (string_bytes e.0) c.in-Some-moment_in.at c.loop-name.invariant.3 c.in-Some-moment_in.ensures.bound),
    )

pub returns-in-None-moment_in-clause-refused : goal.returns-in-None-moment_in-clause-refused
returns-in-None-moment_in-clause-refused c =
    let done = c.loop-name.invariant.0 in
    let e : Entry = (c.in-Some.name.now, c.in-Some.value.now) in
    let left = c.next.new.self in
    let all : c.args.members.now.entries ≡ done ++ e ∷ left = c.loop-name.invariant.1 ∙ ap (λ es. done ++ es) c.in-Some.ensures.steps in
    (refl, ap (λ es. moments_of (members_view es)) all ∙ values_stop as_moment done e left (sym c.in-None-moment_in.ensures.value))

pub returns-clause-sound : goal.returns-clause-sound
returns-clause-sound c =
    let done = c.loop-name.invariant.0 in
    let all : c.args.members.now.entries ≡ done = c.loop-name.invariant.1 ∙ ap (λ es. done ++ es) c.in-None.ensures.steps.0 ∙ append-nil done in
    moments_sound done c.loop-name.found c.loop-name.invariant.2 (subst (λ (es : List Entry). IsStrictlySortedBy string_cmp (keys_of es)) all c.iter-name-items.ensures.ordered) c.loop-name.invariant.3
