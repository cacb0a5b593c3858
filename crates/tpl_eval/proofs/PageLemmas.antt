-- What a page that was empty tells of a template's text.
use Rattle.std.proofs.Common.{◌≡◌, ◌∙◌, ap, ◌<◌, ◌≤◌, ◌++◌, false, refl, [], length, sym, subst, arith, append-nil}
use Rattle.std.specs.Prelude.{Option, Some, None, Ok, Err, nat_le, option_map, option_and_then, if◌then◌else◌}
use Rattle.std.proofs.lemmas.Bool.Decides.{nat_tests}
use Rattle.ha_sight.specs.declared.faults.TplFault.{TplFault}
use Rattle.ha_config.specs.declared.template.Template.{Template}
use Rattle.ha_config.specs.Words.{Text, Pairs, last_pair, without_breaks}
use Rattle.ha_sight.specs.Sight.{Sight}
use Rattle.ha_sight.specs.Values.{bounded}
use Rattle.ha_sight.specs.Templates.{pieces_of, rendered}
use Rattle.tpl_fns.specs.Outcome.{Gives}
use Rattle.tpl_eval.specs.declared.page.Page.{Page}
use Rattle.tpl_eval.specs.Pieces.{behind, Alike, TooLong, Writes}
use Rattle.tpl_eval.proofs.PlainLemmas.{bounded-is}

long-is : (t : Text) → 65_536 < length t → bounded t ≡ None
long-is t h = (let f : nat_le (length t) 65_536 ≡ false = grind (arith, nat_tests, h) in λ i. if f i then Some t else None)

-- the text of what pieces give
abbrev text_of : Option (Text × Pairs) → Option Text
text_of given = option_map without_breaks (option_and_then (λ r. bounded r.0) given)

text-short : (given : Option (Text × Pairs)) (text : Text) (left : Pairs) → behind [] given ≡ Some (text, left) → length text ≤ 65_536 → text_of given ≡ Some (without_breaks text)
text-short None text left h short = absurd (cc)
text-short (Some r) text left h short = let e : r.0 ≡ text = cc in ap (λ (t : Text). option_map without_breaks (bounded t)) e ∙ ap (option_map without_breaks) (bounded-is text short)

text-long : (given : Option (Text × Pairs)) → TooLong (option_map (λ r. r.0) (behind [] given)) → text_of given ≡ None
text-long None h = refl
text-long (Some r) h = ap (option_map without_breaks) (long-is r.0 h)

module _ (sight : Sight) (env : Pairs) (t : Template) (old new : Page) (text : old.text ≡ []) (set : old.set ≡ []) where
  -- the variables of the run alone are seen
  at_first : Alike env (env ++ old.set)
  at_first n = ap (last_pair n) (sym (append-nil env) ∙ ap (λ (s : Pairs). env ++ s) (sym set))

  pub page-text : (x : Unit {0}) → Writes {Y = Unit {0}} env old new (pieces_of sight t) (Ok x) → rendered sight t env ≡ Some (without_breaks new.text)
  page-text x h =
      let known = h env at_first in
      text-short (pieces_of sight t env) new.text known.0 (subst (λ (b : Text). behind b (pieces_of sight t env) ≡ Some (new.text, known.0)) text known.2)
      (known.3 (subst (λ (b : Text). length b ≤ 65_536) (sym text) (omega arith)))

  pub page-fault : (fault : TplFault) → Writes {Y = Unit {0}} env old new (pieces_of sight t) (Err fault) → Gives {X = Text} (Err fault) (rendered sight t env)
  page-fault TplFault.Fault h = text-long (pieces_of sight t env) (subst (λ (b : Text). TooLong (option_map (λ r. r.0) (behind b (pieces_of sight t env)))) text (h env at_first))
  page-fault TplFault.Memory h = tt
