use Rattle.std.proofs.Common.{◌∙◌, ap, rules, sym}
use Rattle.std.specs.List.{list_all}
use Rattle.std.specs.Str.{is_utf8}
use Rattle.std.proofs.lemmas.Str.{is_utf8-from_IsUtf8}
use Rattle.conf_auto.specs.Config.{config_of}
use Rattle.trace_laws.specs.Runs.{boot_line}
use Rattle.replay_file.proofs.BootLemmas.{are_utf8, refused_config, unconfigured, unknown}
use Rattle.replay_file.proofs.boot.with_config.Goals as goal

pub returns-in-Ok-clause-configured : goal.returns-in-Ok-clause-configured
returns-in-Ok-clause-configured c = record {
  config_is = ap config_of (sym c.bytes-2.ensures.value) ∙ c.in-Ok.ensures.exact;
  start = c.requires.start;
  zone = c.requires.zone;
  ordered = c.requires.ordered;
  last_ordered = c.requires.last_ordered;
  last_in_time = c.requires.last_in_time;
  known = search rules;
  utf8 = are_utf8 c.args.text c.args.stored c.args.start c.args.zone c.args.last (ap is_utf8 (sym c.bytes-2.ensures.value) ∙ is_utf8-from_IsUtf8 _ c.bytes-2.ensures.utf8) c.are_stored_texts.ensures
      (ap is_utf8 (sym c.bytes.ensures.value) ∙ is_utf8-from_IsUtf8 _ c.bytes.ensures.utf8) (ap (list_all (λ p. is_utf8 p.0)) (sym c.as_slice.ensures) ∙ c.are_texts.ensures);
}

pub returns-then-not-are_known-clause-refused : goal.returns-then-not-are_known-clause-refused
returns-then-not-are_known-clause-refused c = λ line is.
    unknown line (boot_line c.args.text c.args.stored c.args.start c.args.zone c.args.last) c.in-Ok.config is
    (are_utf8 c.args.text c.args.stored c.args.start c.args.zone c.args.last (ap is_utf8 (sym c.bytes-2.ensures.value) ∙ is_utf8-from_IsUtf8 _ c.bytes-2.ensures.utf8) c.are_stored_texts.ensures
    (ap is_utf8 (sym c.bytes.ensures.value) ∙ is_utf8-from_IsUtf8 _ c.bytes.ensures.utf8) (ap (list_all (λ p. is_utf8 p.0)) (sym c.as_slice.ensures) ∙ c.are_texts.ensures))
    (ap config_of (sym c.bytes-2.ensures.value) ∙ c.in-Ok.ensures.exact) (search rules)

pub returns-in-Err-Bad-clause-refused : goal.returns-in-Err-Bad-clause-refused
returns-in-Err-Bad-clause-refused c = λ line is.
    let bad = rw c.in-Err-Bad.field-0-is at c.in-Err-Bad.ensures.exact in
    unconfigured line (boot_line c.args.text c.args.stored c.args.start c.args.zone c.args.last) is
    (are_utf8 c.args.text c.args.stored c.args.start c.args.zone c.args.last (ap is_utf8 (sym c.bytes-2.ensures.value) ∙ is_utf8-from_IsUtf8 _ c.bytes-2.ensures.utf8) c.are_stored_texts.ensures
    (ap is_utf8 (sym c.bytes.ensures.value) ∙ is_utf8-from_IsUtf8 _ c.bytes.ensures.utf8) (ap (list_all (λ p. is_utf8 p.0)) (sym c.as_slice.ensures) ∙ c.are_texts.ensures))
    (λ config read. refused_config c.args.text c.bytes-2.result.now config _ c.bytes-2.ensures.value bad read)
