use Rattle.std.proofs.Common.{◌≡◌, ◌-◌, ◌∙◌, ◌++◌, ℕ, List, length, sym, ap, subst, arith}
use Rattle.std.specs.Prelude.{IfSome, option_map}
use Rattle.ha_config.specs.Sound.{IsSoundConfig}
use Rattle.ha_config.proofs.UnitLemmas.{units-few}
use Rattle.ha_journal.specs.Force.{force, in_place_of, reloaded}
use Rattle.unit_book.specs.Book.{AreAt, Origin, brought, config_at}
use Rattle.unit_book.specs.Opens.{IsMade}
use Rattle.unit_book.proofs.GrownLemmas.{numbers-many}
use Rattle.unit_book.proofs.StepLemmas.{reloads-at, reloads-config, reloads-last, reloads-made}
use Rattle.unit_book.proofs.book.UnitBook.reloaded.Goals as goal

pub overflow_sub-latest : goal.overflow_sub-latest
overflow_sub-latest c = omega (arith, reloads-last c.args.journal.now c.args.numbers.now c.args.self.now c.requires)

pub add_origins-requires : goal.add_origins-requires
add_origins-requires c =
    let h = c.requires in
    let many = ap length h.numbers_are ∙ numbers-many h.s h.c in
    let few = units-few h.c h.sound in
    omega (arith, many, few, ap length c.as_slice-2.ensures)

pub made-requires : goal.made-requires
made-requires c =
    let h = c.requires in
    let b = c.args.self.now in
    let latest : length c.args.journal.now - 1 ≡ length h.j = omega (arith, reloads-last c.args.journal.now c.args.numbers.now b h) in
    let count : c.len.result ≡ length b.origins.items = omega (arith, c.len.ensures, b.origins.ok.0) in
    let origins : c.add_origins.new.origins.items ≡ b.origins.items ++ brought (length h.j) (length b.origins.items) 0 c.args.numbers.now
    = c.in_ok-add_origins.ensures ∙ (λ i. (c.in_ok-origins.ensures ∙ c.as_slice.ensures.value) i ++ brought (latest i) (count i) 0 (c.as_slice-2.ensures i)) in
    subst (λ (ks : List ℕ). IsMade c.args.journal.now c.add_origins.new.origins.items ks) (sym c.as_slice-3.ensures.value)
    (subst (λ (os : List Origin). IsMade c.args.journal.now os b.firsts.items) (sym origins) (reloads-made c.args.journal.now c.args.numbers.now b h))

pub returns : goal.returns
returns c h =
    let b = c.args.self.now in
    let es = c.args.journal.now in
    let latest : length c.args.journal.now - 1 ≡ length h.j = omega (arith, reloads-last es c.args.numbers.now b h) in
    let count : c.len.result ≡ length b.origins.items = omega (arith, c.len.ensures, b.origins.ok.0) in
    let origins : c.add_origins.new.origins.items ≡ b.origins.items ++ brought (length h.j) (length b.origins.items) 0 c.args.numbers.now
    = c.in_ok-add_origins.ensures ∙ (λ i. (c.in_ok-origins.ensures ∙ c.as_slice.ensures.value) i ++ brought (latest i) (count i) 0 (c.as_slice-2.ensures i)) in
    c.in_ok-book.ensures (reloaded (force h.s) h.c)
    (ap (option_map (in_place_of (in_place_of (force h.s).config h.c))) (ap (config_at es) latest ∙ reloads-config es c.args.numbers.now b h))
    (subst (λ o. IfSome o IsSoundConfig) (sym (ap (config_at es) latest ∙ reloads-config es c.args.numbers.now b h)) h.sound)
    (subst (λ (os : List Origin). AreAt es os (reloaded (force h.s) h.c).units) (sym origins) (reloads-at es c.args.numbers.now b h))
