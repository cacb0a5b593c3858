use Rattle.std.proofs.Common.{ap, refl, sym, true, map, string_bytes, ◌≡◌, ◌∙◌}
use Rattle.std.proofs.lemmas.Result.{IfErr-weaker, IfOk-weaker}
use Rattle.clap.specs.Words.{App, app_of, is_simple, is_simple_and_free, matches_of}
use Rattle.clap.proofs.OnLiterals.{clap_on_literals}
use Rattle.ha_words.specs.Grammar.{run_app, takes_words}
use Rattle.ha_words.proofs.commands.run_matches.Goals as goal

is_plain : is_simple_and_free run_app ≡ true
unfolding clap_on_literals run_app
is_plain = refl

is_exact : is_simple run_app ≡ true
unfolding clap_on_literals run_app
is_exact = refl

pub matches_in-requires-clause-exact : goal.matches_in-requires-clause-exact
matches_in-requires-clause-exact c = ap is_simple c.in-Ok.ensures ∙ is_exact

pub matches_in-requires-clause-free : goal.matches_in-requires-clause-free
matches_in-requires-clause-free c = ap is_simple_and_free c.in-Ok.ensures ∙ is_plain

pub returns : goal.returns
returns c =
    let words = map string_bytes c.args.words.now in
    let same : app_of c.in-Ok.command ≡ run_app = c.in-Ok.ensures in
    record {
      takes = IfOk-weaker c.matches_in.result _ _ (λ m h. ap (λ (a : App). takes_words a words) (sym same) ∙ h) c.matches_in.ensures.takes;
      rows = IfOk-weaker c.matches_in.result _ _ (λ m h. h ∙ ap (λ (a : App). matches_of a words) same) c.matches_in.ensures.rows;
      usage = IfErr-weaker c.matches_in.result _ _ (λ e h u. ap (λ (a : App). takes_words a words) (sym same) ∙ h u) c.matches_in.ensures.usage;
    }
