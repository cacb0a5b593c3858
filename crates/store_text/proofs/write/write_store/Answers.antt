use Rattle.std.proofs.Common.{◌∙◌, ap}
use Rattle.std.proofs.lemmas.Str.{IsUtf8-string_bytes}
use Rattle.store_text.specs.Store.{by_names, stored_in}
use Rattle.store_text.proofs.OrderLemmas.{text_written, text_read}
use Rattle.store_text.proofs.write.write_store.Goals as goal

pub returns-clause-text : goal.returns-clause-text
returns-clause-text c = c.in_ok-word.ensures ∙ text_written (by_names c.args.switches.now) c.args.last.now _ _ c.requires.switches c.requires.last c.in_ok-value.ensures c.in_ok-text.ensures.text

pub returns-clause-reads_back : goal.returns-clause-reads_back
returns-clause-reads_back c =
    ap stored_in c.in_ok-word.ensures
    ∙ text_read (by_names c.args.switches.now) c.args.last.now _ _ c.requires.switches c.requires.last (IsUtf8-string_bytes c.in_ok-text.text) c.in_ok-value.ensures c.in_ok-text.ensures.reads_back
