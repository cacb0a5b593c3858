use Rattle.std.proofs.Common.{◌≡◌, ◌∙◌, ◌+◌, [], sym, ap, arith, inl, inr, length}
use Rattle.std.specs.Prelude.{None, flat_map, slice_get, option_map, if◌then◌else◌}
use Rattle.std.proofs.lemmas.Bool.Decides.{leb_tells}
use Rattle.ha_config.specs.Words.{up_to}
use Rattle.timer_queue.specs.Timers.{due_of}
use Rattle.helper_set.specs.Passes.{entity_at, has, idled}
use Rattle.helper_set.proofs.PlaceSets.{apart, flat-skip, left-else, left-from, none-left}
use Rattle.helper_set.proofs.TakenLemmas.{found-beyond, found-more, gone-more, taken-more}
use Rattle.helper_set.proofs.TimerSteps.{timer-goes}
use Rattle.helper_set.proofs.timers.finish_all.Goals as goal

pub places-preserved : goal.places-preserved
places-preserved c =
    let first = c.args.places in
    let old = c.places.left in
    let rest = c.pop_first.new.self in
    let p = c.in-Some.place in
    let there = c.in-Some.ensures.member in
    let updates = c.in-Some.ensures.updates.0 in
    let least = c.in-Some.ensures.least in
    let inv = c.places.invariant in
    let from = inv.ahead p there in
    record {
      next = p + 1;
      ahead = λ n left. left-from old rest p updates least n left;
      behind = λ n le. left-else old rest p updates least n (apart p n le) ∙ inv.behind n (omega (arith, from, le));
      gone = gone-more first old rest p there updates least inv.gone;
      timed = taken-more first old rest p there updates least inv.gone (λ n. due_of n c.args.timers.now) (λ n. due_of n c.places.timers) (λ n. due_of n c.remove.new.self) (λ o. None) inv.timed
          (λ n. ap (due_of n) c.remove.ensures.rest ∙ timer-goes p c.places.timers n);
      kept = taken-more first old rest p there updates least inv.gone (λ n. slice_get c.args.kept.now.items n) (λ n. slice_get c.places.kept.items n) (λ n. slice_get c.finish_at.new.self.items n) (option_map idled) inv.kept
          c.in_ok-finish_at.ensures.kept;
      found = found-more first old rest p there updates least inv.gone c.args.kept.now.items c.places.kept.items c.places.found c.finish_at.new.found inv.next from inv.behind inv.found
          (inv.kept p ∙ (λ i. if there i then slice_get c.args.kept.now.items p else (if has first p then option_map idled (slice_get c.args.kept.now.items p) else slice_get c.args.kept.now.items p)))
          c.in_ok-finish_at.ensures.found;
    }

pub returns-clause-found : goal.returns-clause-found
returns-clause-found c =
    let first = c.args.places in
    let kept = c.args.kept.now.items in
    let inv = c.places.invariant in
    let none = none-left c.places.left c.in_default.ensures.variant in
    let whole : flat_map (λ n. if has first n then entity_at kept n else []) (up_to inv.next) ≡ flat_map (λ n. if has first n then entity_at kept n else []) (up_to (length kept)) =
    elim (leb_tells (length kept) inv.next) [
      | inl over ↦ flat-skip (λ n. if has first n then entity_at kept n else []) (length kept) inv.next over.1 (λ n le lt. found-beyond kept (has first n) n le)
      | inr under ↦ (let below = under.1 in
          sym (flat-skip (λ n. if has first n then entity_at kept n else []) inv.next (length kept) (omega (arith, below)) (λ n le lt. (λ i. if (sym (inv.behind n le) ∙ none n) i then entity_at kept n else []))))
    ] in
    inv.found ∙ whole
