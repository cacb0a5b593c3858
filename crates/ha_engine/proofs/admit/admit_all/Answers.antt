use Rattle.std.proofs.Common.{◌≡◌, ℕ, suc, ◌+◌, List, [], ◌∷◌, ◌++◌, length, sym, ap, subst, ◌∙◌, arith}
use Rattle.std.specs.Prelude.{Option, MatchOption, vec_len, option_to_list}
use Rattle.ha_journal.specs.Attempts.{Attempt}
use Rattle.ha_model.specs.Records.{Records}
use Rattle.run_modes.specs.Calls.{all_tried}
use Rattle.ha_engine.specs.declared.admit.Prepared.{Prepared}
use Rattle.ha_engine.specs.Admits.{ArePrepared, from_end}
use Rattle.ha_engine.specs.Named.{AreKnown}
use Rattle.engine_parts.specs.Records.{HasRoom}
use Rattle.ha_engine.proofs.AdmitLemmas.{from-end-snoc, known-snoc, next-prepared, none-prepared, no-items}
use Rattle.ha_engine.proofs.admit.admit_all.Goals as goal

pub admit_one-requires-clause-known : goal.admit_one-requires-clause-known
admit_one-requires-clause-known c =
    let popped : c.attempts.stack.items ≡ c.pop.new.self.items ++ (c.in-Some.prepared ∷ []) = c.pop.ensures.items ∙ ap (λ o. c.pop.new.self.items ++ option_to_list o) c.in-Some.is in
    (known-snoc (length c.attempts.runs.firsts) c.pop.new.self.items c.in-Some.prepared (subst (AreKnown (length c.attempts.runs.firsts)) popped c.attempts.invariant.known)).1

pub attempts-preserved : goal.attempts-preserved
attempts-preserved c =
    let popped : c.attempts.stack.items ≡ c.pop.new.self.items ++ (c.in-Some.prepared ∷ []) = c.pop.ensures.items ∙ ap (λ o. c.pop.new.self.items ++ option_to_list o) c.in-Some.is in
    let one : suc (vec_len c.pop.new.self) ≡ vec_len c.attempts.stack = omega (arith, c.pop.ensures.len, ap (λ o. length (option_to_list o)) c.in-Some.is) in
    let items = subst (AreKnown (length c.attempts.runs.firsts)) popped c.attempts.invariant.known in
    let known = known-snoc (length c.attempts.runs.firsts) c.pop.new.self.items c.in-Some.prepared items in
    record {
      known = subst (λ (l : List ℕ). AreKnown (length l) c.pop.new.self.items) (sym c.admit_one.ensures.firsts) known.0;
      firsts = c.admit_one.ensures.firsts ∙ c.attempts.invariant.firsts;
      spare = omega (arith, one, c.attempts.invariant.spare, c.admit_one.ensures.spare);
      room = c.admit_one.ensures.room (vec_len c.pop.new.self) (subst (λ n. HasRoom n c.attempts.parts) (sym one) c.attempts.invariant.room);
      closed = c.admit_one.ensures.closed ∙ c.attempts.invariant.closed;
      rested = c.admit_one.ensures.rested ∙ c.attempts.invariant.rested;
      kept = λ k xs prepared firsts at some table going.
          (let now = c.attempts.invariant.kept k xs prepared firsts at some table going in
          let next = next-prepared k now.0 c.in-Some.prepared (from_end c.pop.new.self.items)
          (subst (λ (l : List Prepared). ArePrepared k now.0 l) (ap from_end popped ∙ from-end-snoc c.pop.new.self.items c.in-Some.prepared) now.1) in
          let own = c.attempts.invariant.firsts ∙ firsts in
          let list = c.admit_one.ensures.list k next.0 next.3 own at in
          let all = c.admit_one.ensures.going k next.0 next.3 own at some now.3 now.4 in
          (next.1, next.4, ap (λ (l : Records). all_tried k l next.1) list ∙ ap (λ (ys : List (ℕ × Attempt)). all_tried k c.attempts.runs.list ys) (sym next.2) ∙ now.2, all.0, all.1));
    }

pub returns-clause-all : goal.returns-clause-all
returns-clause-all c k xs prepared firsts at some table going =
    let now = c.attempts.invariant.kept k xs prepared firsts at some table going in
    let size : vec_len c.attempts.stack ≡ 0 = (subst (λ (o : Option Prepared). MatchOption o ((vec_len c.attempts.stack ≡ 0) × (vec_len c.pop.new.self ≡ 0)) (λ _. vec_len c.pop.new.self + 1 ≡ vec_len c.attempts.stack)) c.in_default.is c.pop.ensures.cases).0 in
    let none : c.attempts.stack.items ≡ [] = no-items c.attempts.stack.items (sym c.attempts.stack.ok.0 ∙ size) in
    let ys : now.0 ≡ [] = none-prepared k now.0 (subst (λ (l : List Prepared). ArePrepared k now.0 (from_end l)) none now.1) in
    (ap (λ (zs : List (ℕ × Attempt)). all_tried k c.attempts.runs.list zs) (sym ys) ∙ now.2, now.3, now.4)

pub returns-clause-room : goal.returns-clause-room
returns-clause-room c =
    let size : vec_len c.attempts.stack ≡ 0 = (subst (λ (o : Option Prepared). MatchOption o ((vec_len c.attempts.stack ≡ 0) × (vec_len c.pop.new.self ≡ 0)) (λ _. vec_len c.pop.new.self + 1 ≡ vec_len c.attempts.stack)) c.in_default.is c.pop.ensures.cases).0 in
    subst (λ n. HasRoom n c.attempts.parts) size c.attempts.invariant.room
