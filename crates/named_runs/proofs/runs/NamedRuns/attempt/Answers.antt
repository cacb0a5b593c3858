use Rattle.std.proofs.Common.{◌≡◌, ◌≤◌, ◌<◌, ◌+◌, ◌∙◌, ◌++◌, ◌∷◌, [], ℕ, suc, sym, subst, arith, length, true}
use Rattle.std.specs.Prelude.{Some, IfOk, OnErr, OnOk, nat_lt, slice_get, slice_index, slice_index_or, if◌then◌else◌}
use Rattle.std.specs.List.{list_all}
use Rattle.run_modes.specs.Table.{admission, attempted}
use Rattle.named_runs.specs.Named.{NamedTable, first_in, runs_named}
use Rattle.named_runs.proofs.CountLemmas.{told-units, units_of}
use Rattle.named_runs.proofs.TableLemmas.{count-few, count-of, counted-told}
use Rattle.named_runs.proofs.runs.NamedRuns.attempt.Goals as goal

pub first_of-first-requires : goal.first_of-first-requires
first_of-first-requires c =
    subst (λ fs. c.args.automation < length fs) (sym c.as_slice.ensures.value) (subst (λ (t : NamedTable). c.args.automation < length t.firsts) (sym c.self.view_is) c.requires.known)

pub next_number-number-requires-clause-few : goal.next_number-number-requires-clause-few
next_number-number-requires-clause-few c =
    let there = subst (λ fs. slice_get fs c.args.automation ≡ Some c.first_of-first.result) c.as_slice.ensures.value c.first_of-first.ensures in
    let few = count-few c.self.inside.firsts.items c.self.inside.counts.items c.self.inside.runs c.args.automation c.first_of-first.result c.self.invariant there in
    subst (λ ns. slice_index_or ns c.first_of-first.result 0 ≤ c.count-all.result) (sym c.as_slice-2.ensures.value)
    (subst (λ n. slice_index_or c.self.inside.counts.items c.first_of-first.result 0 ≤ n) (sym c.count-all.ensures.value) few)

pub next_number-number-requires-clause-small : goal.next_number-number-requires-clause-small
next_number-number-requires-clause-small c = c.count-all.ensures.few

pub attempt-told-requires-clause-number : goal.attempt-told-requires-clause-number
attempt-told-requires-clause-number c =
    let there = subst (λ fs. slice_get fs c.args.automation ≡ Some c.first_of-first.result) c.as_slice.ensures.value c.first_of-first.ensures in
    let few = count-few c.self.inside.firsts.items c.self.inside.counts.items c.self.inside.runs c.args.automation c.first_of-first.result c.self.invariant there in
    let next = c.next_number-number.ensures ∙ (λ i. slice_index_or (c.as_slice-2.ensures.value i) c.first_of-first.result 0 + 1) in
    omega (arith, few, next, c.count-all.ensures.value, c.count-all.ensures.few, c.self.invariant.small c.args.automation)

pub count_told-requires : goal.count_told-requires
count_told-requires c =
    let there = subst (λ fs. slice_get fs c.args.automation ≡ Some c.first_of-first.result) c.as_slice.ensures.value c.first_of-first.ensures in
    let few : slice_index c.self.inside.counts.items c.first_of-first.result ≤ length c.self.inside.runs.list
    = count-few c.self.inside.firsts.items c.self.inside.counts.items c.self.inside.runs c.args.automation c.first_of-first.result c.self.invariant there in
    omega (arith, few, c.count-all.ensures.value, c.count-all.ensures.few)

pub invariant_of-self : goal.invariant_of-self
invariant_of-self c =
    let old = c.self.inside.counts in
    let new = c.count_told.new.counts in
    let there = subst (λ fs. slice_get fs c.args.automation ≡ Some c.first_of-first.result) c.as_slice.ensures.value c.first_of-first.ensures in
    let within = subst (λ (t : NamedTable). c.args.automation < length t.firsts) (sym c.self.view_is) c.requires.known in
    counted-told c.self.inside.firsts.items old.items new.items c.self.inside.runs c.attempt-told.new.self c.args.automation c.first_of-first.result c.is_admitted-is_more.result
    (subst (λ b. units_of c.attempt-told.new.self.list ≡ units_of c.self.inside.runs.list ++ (if b then c.args.automation ∷ [] else [])) (sym c.is_admitted-is_more.ensures)
    (told-units c.attempt-told.result c.args.automation c.args.mode c.args.max c.args.place c.args.order c.next_number-number.result c.args.env c.self.inside.runs.list c.attempt-told.new.self.list
    c.attempt-told.ensures.ok c.attempt-told.ensures.answer c.attempt-told.ensures.err))
    c.attempt-told.ensures.closed there within (sym new.ok.0 ∙ c.count_told.ensures.len ∙ old.ok.0)
    (λ n lt. c.count_told.ensures.counts n (omega (arith, lt, old.ok.0))) c.self.invariant

pub returns-clause-known : goal.returns-clause-known
returns-clause-known c = subst (λ (t : NamedTable). list_all (λ r. nat_lt r.automation (length t.firsts)) t.list ≡ true) c.self.view_is c.self.invariant.known

pub returns-clause-ok : goal.returns-clause-ok
returns-clause-ok c =
    let there = subst (λ fs. slice_get fs c.args.automation ≡ Some c.first_of-first.result) c.as_slice.ensures.value c.first_of-first.ensures in
    let count = count-of c.self.inside.firsts.items c.self.inside.counts.items c.self.inside.runs c.args.automation c.first_of-first.result c.self.invariant there in
    let next = c.next_number-number.ensures ∙ (λ i. slice_index_or (c.as_slice-2.ensures.value i) c.first_of-first.result 0 + 1) in
    let number : c.next_number-number.result ≡ suc (runs_named c.self.inside.firsts.items (first_in c.self.inside.firsts.items c.args.automation) c.self.inside.runs.list) = omega (arith, next, count) in
    subst (λ (t : NamedTable). OnOk c.attempt-told.result (c.attempt-told.new.self.list
    ≡ attempted c.args.automation c.args.mode c.args.max c.args.place c.args.order (suc (runs_named t.firsts (first_in t.firsts c.args.automation) t.list)) c.args.env t.list)) c.self.view_is
    (subst (λ (n : ℕ). OnOk c.attempt-told.result (c.attempt-told.new.self.list ≡ attempted c.args.automation c.args.mode c.args.max c.args.place c.args.order n c.args.env c.self.inside.runs.list)) number c.attempt-told.ensures.ok)

pub returns-clause-answer : goal.returns-clause-answer
returns-clause-answer c = subst (λ (t : NamedTable). IfOk c.attempt-told.result (λ told. told ≡ admission c.args.automation c.args.mode c.args.max t.list)) c.self.view_is c.attempt-told.ensures.answer

pub returns-clause-err : goal.returns-clause-err
returns-clause-err c = subst (λ (t : NamedTable). OnErr c.attempt-told.result (c.attempt-told.new.self.list ≡ t.list)) c.self.view_is c.attempt-told.ensures.err

pub returns-clause-succeeds : goal.returns-clause-succeeds
returns-clause-succeeds c = rw (← c.self.view_is) c.attempt-told.ensures.succeeds

pub returns-clause-spare : goal.returns-clause-spare
returns-clause-spare c = rw (← c.self.view_is) c.attempt-told.ensures.spare

pub returns-clause-closed : goal.returns-clause-closed
returns-clause-closed c = c.attempt-told.ensures.closed ∙ (λ i. (c.self.view_is i).closed)

pub returns-clause-firsts : goal.returns-clause-firsts
returns-clause-firsts c = λ i. (c.self.view_is i).firsts
