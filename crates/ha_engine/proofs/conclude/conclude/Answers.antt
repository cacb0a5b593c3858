use Rattle.std.proofs.Common.{◌≡◌, ◌≤◌, ◌∷◌, [], ℕ, List, arith, length, refl, sym, ap, subst, ◌∙◌}
use Rattle.std.proofs.lemmas.Bool.{eqb-true}
use Rattle.std.specs.Prelude.{Bool, vec_len}
use Rattle.std.specs.Global.{Vec}
use Rattle.ha_journal.specs.declared.entry.Entry.{Entry}
use Rattle.ha_journal.specs.declared.entry.Entry.TheVariants.{Line}
use Rattle.ha_journal.specs.Attempts.{Attempt, passing}
use Rattle.ha_journal.specs.Journal.{Journal}
use Rattle.ha_model.specs.Records.{Records}
use Rattle.ha_model.specs.RecordSteps.{records_after}
use Rattle.ha_model.specs.Lawful.{Right}
use Rattle.run_modes.specs.Calls.{all_tried}
use Rattle.engine_parts.specs.Kept.{Going, nobody}
use Rattle.ha_ready.specs.RestedFlags.{RestedKept}
use Rattle.engine_parts.specs.Records.{HasRoom, IsTable}
use Rattle.ha_engine.specs.Admits.{ArePrepared, from_end}
use Rattle.ha_engine.specs.Named.{AreFirsts}
use Rattle.ha_engine.specs.declared.admit.Prepared.{Prepared}
use Rattle.ha_engine.proofs.ConcludeLemmas.{line-table, plain-records, plain-right}
use Rattle.ha_engine.proofs.conclude.conclude.Goals as goal

pub prepare-requires : goal.prepare-requires
prepare-requires c =
    let h = c.requires.told in
    let k : Journal = c.args.journal.now in
    let x : Entry = Line h.source h.number h.cmd in
    let right : Right k (records_after h.j c.args.runs.now.list x)
    = subst (λ (i : Journal). Right i (records_after h.j c.args.runs.now.list x)) (sym h.journal_is) (plain-right h.j c.args.runs.now.list h.source h.number h.cmd h.right h.fair) in
    let sees = h.going.sees in
    record {
      journal = right.journal;
      sees = record { looks = sees.looks; helpers_stand = sees.helpers_stand; switches_stand = sees.switches_stand; changed_is = sees.changed_is; sound = sees.sound; few = sees.few; free_is = sees.free_is; ascending_is = sees.ascending_is };
      fired = c.requires.fired;
    }

-- where nothing is prepared nothing passes
none-ready : (k : Journal) (xs : List (ℕ × Attempt)) (ps : List Prepared) → length ps ≡ 0 → ArePrepared k xs (from_end ps) → xs ≡ []
none-ready k [] [] e h = refl
none-ready k (x ∷ xs) [] e h = absurd h
none-ready k xs (p ∷ ps) e h = absurd (omega (arith, e))

pub conclude_left-requires : goal.conclude_left-requires
conclude_left-requires c = omega (arith, c.requires.told.rested_is.count, c.args.parts.now.rested.ok.0)

pub settle-requires : goal.settle-requires
settle-requires c =
    let h = c.requires.told in
    let k : Journal = c.args.journal.now in
    let x : Entry = Line h.source h.number h.cmd in
    let rs : Records = c.args.runs.now.list in
    let rs' : Records = records_after h.j rs x in
    let old : c.make_room.new.runs.list ≡ rs = c.make_room.ensures.list in
    record {
      stopped = record {
        j = h.j;
        x = x;
        before = rs;
        journal_is = h.journal_is;
        known = h.known;
        right = h.right;
        right_behind = subst (λ (i : Journal). Right i rs') (sym h.journal_is) (plain-right h.j rs h.source h.number h.cmd h.right h.fair);
        table = subst (λ (l : Records). IsTable k l) (sym old) (subst (λ (i : Journal). IsTable i rs) (sym h.journal_is) (line-table h.j rs h.source h.number h.cmd h.right));
        records = (λ i. all_tried k (old i) (passing k)) ∙ ap (λ (i : Journal). all_tried i rs (passing i)) h.journal_is ∙ plain-records h.j rs h.source h.number h.cmd h.right h.plain h.fair;
        going = subst (λ (l : Records). Going nobody k l c.make_room.new.parts) (sym old) (c.in_ok-make_room.ensures.going k rs h.going);
        rested_is = subst (λ (v : Vec Bool). RestedKept h.j rs v.items) (sym c.in_ok-make_room.ensures.rested) h.rested_is;
      };
      named = subst (AreFirsts k) (sym c.make_room.ensures.firsts) c.requires.named;
      prepared = c.in_ok-stack.ensures;
      spare = subst (λ n. n ≤ c.make_room.new.runs.spare) c.len.ensures c.in_ok-make_room.ensures.spare;
      room = subst (λ n. HasRoom n c.make_room.new.parts) c.len.ensures c.in_ok-make_room.ensures.room;
    }

pub returns-then-is_empty-clause-ok : goal.returns-then-is_empty-clause-ok
returns-then-is_empty-clause-ok c =
    let stack = c.in_ok-stack.stack in
    let empty : vec_len stack ≡ 0 = eqb-true (vec_len stack) 0 (sym c.is_empty.ensures ∙ c.if-is_empty.true) in
    let none : passing c.args.journal.now ≡ [] = none-ready c.args.journal.now (passing c.args.journal.now) stack.items (omega (arith, empty, stack.ok.0)) c.in_ok-stack.ensures in
    c.conclude_left.ensures c.args.runs.now.list c.requires.told none
