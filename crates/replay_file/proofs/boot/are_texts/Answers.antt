use Rattle.std.proofs.Common.{◌∙◌, ap, sym}
use Rattle.std.specs.Str.{is_utf8}
use Rattle.std.proofs.lemmas.Str.{is_utf8-from_IsUtf8}
use Rattle.replay_file.proofs.BootLemmas.{texts_more}
use Rattle.replay_file.proofs.boot.are_texts.Goals as goal

pub loop-pair-preserved : goal.loop-pair-preserved
loop-pair-preserved g c = texts_more c.args.pairs.now c.loop-pair.pair-index c.pair-item.result c.loop-pair-test.true c.pair-item.is c.loop-pair.invariant
    (ap is_utf8 (sym c.bytes.ensures.value) ∙ is_utf8-from_IsUtf8 _ c.bytes.ensures.utf8)
