use Rattle.std.proofs.Common.{◌≡◌, ◌∙◌, List, [], ◌++◌, ap, append_assoc, inl, map, refl, sym}
use Rattle.std.specs.VecDeque.{deque_len}
use Rattle.std.proofs.lemmas.Bool.{false≢true}
use Rattle.std.proofs.lemmas.Map.Views.{exact_unsigned_eq}
use Rattle.ha_config.specs.declared.command.Cmd.{Cmd}
use Rattle.ha_config.specs.Fair.{prepared}
use Rattle.ha_worker.proofs.CameLemmas.{came_none, came_still, came_then, no_items, none_of, some_came}
use Rattle.ha_worker.proofs.puts.put_all.Goals as goal

pub cmds-init : goal.cmds-init
cmds-init g c = record {
  put = [];
  free = c.requires.open;
  parts = refl;
  came = came_none c.args.id c.args.next.now c.args.bus.now c.requires.at;
  unshut = c.requires.unshut;
  open_all = c.requires.open_all;
}

pub put_next-requires-clause-at : goal.put_next-requires-clause-at
put_next-requires-clause-at g c κs within = c.cmds.invariant.came.at

pub returns-then-not-put_next-clause-some : goal.returns-then-not-put_next-clause-some
returns-then-not-put_next-clause-some g c =
    let i = c.cmds.invariant in
    let p = c.put_next.ensures.some in
    rw i.parts (
      p.0,
      some_came c.args.id c.args.next.now c.cmds.next c.put_next.new.next i.put (map (prepared g.C.Prepare.Prepare.reads) c.cmds.cmds.items) p.0 c.args.bus.now c.cmds.bus c.put_next.new.bus i.came p.1,
      λ e. absurd (false≢true e),
    )

pub returns-then-not-put_next-clause-empty : goal.returns-then-not-put_next-clause-empty
returns-then-not-put_next-clause-empty g c = λ e. absurd (false≢true e)

pub cmds-smaller : goal.cmds-smaller
cmds-smaller g c = c.put_next.ensures.fewer c.if-not-put_next.false

pub cmds-preserved : goal.cmds-preserved
cmds-preserved g c =
    let i = c.cmds.invariant in
    let p = c.put_next.ensures.some in
    let left = p.2 c.if-not-put_next.false in
    record {
      put = i.put ++ p.1.put;
      free = none_of c.put_next.new.bus.first (sym c.put_next.ensures.fault ∙ c.if-not-put_next.false);
      parts = i.parts ∙ ap (λ (z : List Cmd). i.put ++ z) (p.1.parts ∙ ap (λ (z : List Cmd). p.1.put ++ z) left) ∙ sym (append_assoc i.put p.1.put (map (prepared g.C.Prepare.Prepare.reads) c.put_next.new.cmds.items));
      came = came_then c.args.id c.args.next.now c.cmds.next c.put_next.new.next i.put p.1.put c.args.bus.now c.cmds.bus c.put_next.new.bus i.came p.1.came;
      unshut = c.put_next.ensures.unshut;
      open_all = c.put_next.ensures.open_all;
    }

pub returns-clause-some : goal.returns-clause-some
returns-clause-some g c =
    let i = c.cmds.invariant in
    let none : c.cmds.cmds.items ≡ [] = no_items c.cmds.cmds.items (sym c.cmds.cmds.ok.0 ∙ exact_unsigned_eq (deque_len c.cmds.cmds) 0 (sym c.cmds-test.ensures)) in (
      [],
      record {
        put = i.put;
        parts = i.parts ∙ ap (λ (z : List Cmd). i.put ++ map (prepared g.C.Prepare.Prepare.reads) z) none;
        came = came_still c.args.id c.args.next.now c.cmds.next i.put c.args.bus.now c.cmds.bus c.put_steps.new.bus i.came (c.put_steps.ensures.came c.cmds.next i.came.at);
        full = λ e. inl (c.put_steps.ensures.full e);
      },
      λ e. refl,
    )

pub returns-clause-unshut : goal.returns-clause-unshut
returns-clause-unshut g c = c.put_steps.ensures.shut c.args.id ∙ c.cmds.invariant.unshut
