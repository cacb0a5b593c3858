use Rattle.std.proofs.Common.{◌≡◌, arith, refl, ap, ◌∙◌, Err}
use Rattle.ha_io.proofs.CountLemmas.{Rose-within}
use Rattle.ha_io.proofs.ToldLemmas.{Gives-nothing}
use Rattle.std.specs.Prelude.{IsErrOf}
use Rattle.ha_io.specs.declared.whole.Unread.{Unread}
use Rattle.ha_io.proofs.WholeLemmas.{gives_more, piece_within}
use Rattle.ha_io.proofs.whole.read_whole.Goals as goal

pub loop-bytes-init : goal.loop-bytes-init
loop-bytes-init g c = record {
  read = rw c.new-bytes.ensures.items (Gives-nothing _);
  within = rw c.new-bytes.ensures.items (omega arith);
  buffer = omega (arith, c.in-Ok.ensures.len);
  faults = omega arith;
  named = refl;
}

pub loop-bytes-preserved : goal.loop-bytes-preserved
loop-bytes-preserved g c = record {
  read = gives_more _ _ _ _ _ _ c.loop-bytes.invariant.read c.in-Ok-read_piece.ensures.more.4 c.in-Ok-read_piece.ensures.more.1;
  within = piece_within c.loop-bytes.bytes.items c.read_piece.new.bytes.items c.in-Ok-read_piece.ensures.more.0 c.args.bound c.in-Ok-read_piece.ensures.more.1 (omega (arith, c.in-Ok-read_piece.ensures.more.2, c.in-Ok-read_piece.ensures.more.3, c.len-in-loop-bytes.ensures, c.len.ensures)) (omega (arith, c.loop-bytes-test.true, c.len.ensures));
  buffer = c.loop-bytes.invariant.buffer;
  faults = omega (arith, c.loop-bytes.invariant.faults, c.read_piece.ensures.never_falls);
  named = c.read_piece.ensures.same_name ∙ c.loop-bytes.invariant.named;
}

-- the fault is this one, whatever the call gave otherwise
of_failed : {A B : Type 0} (x : Unread) → IsErrOf {T = A} (Err x) Unread.Failed → IsErrOf {T = B} (Err x) Unread.Failed
of_failed x e = let same : x ≡ Unread.Failed = cc in ap (λ (y : Unread). Err y) same

pub returns-in-Err-clause-failed : goal.returns-in-Err-clause-failed
returns-in-Err-clause-failed g c = λ e. Rose-within _ _ _ _ c.loop-bytes.invariant.faults (c.in-Err.ensures.failed (of_failed c.in-Err.fault e)) (omega arith)

pub returns-then-count-eq0-clause-whole : goal.returns-then-count-eq0-clause-whole
returns-then-count-eq0-clause-whole g c =
    (gives_more _ _ _ _ _ _ c.loop-bytes.invariant.read c.in-Ok-read_piece.ensures.more.4 c.in-Ok-read_piece.ensures.more.1, c.in-Ok-read_piece.ensures.end c.if-count-eq0.true)
