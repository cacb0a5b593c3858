use Rattle.std.proofs.Common.{◌≡◌, ◌∙◌, ap, refl, codes}
use Rattle.serde_json.specs.Data.{Data, no_members, number, object, put, unsigned, member}
use Rattle.serde_json.specs.View.{members_view}
use Rattle.serde_json.proofs.OnLiterals.{serde_json_on_literals}
use Rattle.serde_json.proofs.Views.{view-Object}
use Rattle.store_text.specs.Store.{Switches, by_names, put_all, put_moments}
use Rattle.store_text.proofs.write.store_value.Goals as goal

laid : (l a b : Data)
    → put (codes "version") b (put (codes "switches") a (put (codes "last") l no_members)) ≡ member (codes "last") l (member (codes "switches") a (member (codes "version") b no_members))
unfolding serde_json_on_literals
laid l a b = refl

pub returns : goal.returns
returns c =
    let s : Switches = by_names c.args.switches.now in
    let ms = c.args.last.now in
    let moments = view-Object c.in_ok-moments.moments ∙ ap object c.in_ok-moments.ensures in
    let flags = view-Object c.in_ok-flags.flags ∙ ap object c.in_ok-flags.ensures in
    let one : members_view c.put.new.map.entries ≡ put (codes "last") (object (put_moments ms)) no_members =
    c.in_ok-put.ensures.ok ∙ ap (λ d. put (codes "last") d (members_view c.new-whole.result.entries)) moments
    ∙ ap (λ es. put (codes "last") (object (put_moments ms)) (members_view es)) c.new-whole.ensures.empty in
    let two : members_view c.put-2.new.map.entries ≡ put (codes "switches") (object (put_all s)) (put (codes "last") (object (put_moments ms)) no_members) =
    c.in_ok-put-2.ensures.ok ∙ ap (λ d. put (codes "switches") d (members_view c.put.new.map.entries)) flags
    ∙ ap (put (codes "switches") (object (put_all s))) one in
    let three : members_view c.put-3.new.map.entries ≡ put (codes "version") (number (unsigned 2)) (put (codes "switches") (object (put_all s)) (put (codes "last") (object (put_moments ms)) no_members)) =
    c.in_ok-put-3.ensures.ok ∙ ap (λ d. put (codes "version") d (members_view c.put-2.new.map.entries)) c.from.ensures
    ∙ ap (put (codes "version") (number (unsigned 2))) two in
    view-Object c.put-3.new.map ∙ ap object (three ∙ laid (object (put_moments ms)) (object (put_all s)) (number (unsigned 2)))
