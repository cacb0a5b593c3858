use Rattle.std.proofs.Common.{◌≡◌, ◌∙◌, ap, true, false, List, map, string_bytes, None, if◌then◌else◌, sym}
use Rattle.std.proofs.lemmas.Result.{IfErr-weaker, IfOk-weaker}
use Rattle.clap.specs.Words.{Text, matches_of}
use Rattle.ha_words.specs.declared.texts.RunTexts.{RunTexts}
use Rattle.ha_words.specs.Grammar.{run_app, takes_words}
use Rattle.ha_words.specs.Texts.{checked, run_texts, texts_of}
use Rattle.ha_words.proofs.read.read_texts.Goals as goal

refused_texts : (words : List Text) → takes_words run_app words ≡ false → texts_of words ≡ None
unfolding texts_of
refused_texts words e = ap (λ b. if b then checked (run_texts (matches_of run_app words)) else None) e

taken_texts : (words : List Text) (t : RunTexts) → takes_words run_app words ≡ true → t ≡ run_texts (matches_of run_app words) → texts_of words ≡ checked t
unfolding texts_of
taken_texts words t e h = ap (λ b. if b then checked (run_texts (matches_of run_app words)) else None) e ∙ ap checked (sym h)

pub returns-in-Err-clause-usage : goal.returns-in-Err-clause-usage
returns-in-Err-clause-usage c = λ u. refused_texts (map string_bytes c.args.words.now) (c.in-Err.ensures.usage u)

pub returns : goal.returns
returns c =
    let same = taken_texts (map string_bytes c.args.words.now) c.in-Ok-run_texts.texts c.in-Ok.ensures.takes
    (c.in-Ok-run_texts.ensures ∙ ap run_texts c.in-Ok.ensures.rows) in
    record {
      texts = IfOk-weaker c.checked.result _ _ (λ w e. same ∙ e) c.checked.ensures.texts;
      usage = IfErr-weaker c.checked.result _ _ (λ x e u. same ∙ e) c.checked.ensures.usage;
      few = c.checked.ensures.few;
    }
