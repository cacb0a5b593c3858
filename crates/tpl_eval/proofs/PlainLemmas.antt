-- A template that is one text.
use Rattle.std.proofs.Common.{◌≡◌, ◌∙◌, ap, ◌≤◌, true, List, [], ◌∷◌, ◌++◌, length, map, get_or, sym, arith, append-nil}
use Rattle.std.specs.Prelude.{Option, Some, None, nat_le, option_map, option_and_then, if◌then◌else◌}
use Rattle.std.proofs.lemmas.Bool.Decides.{nat_tests}
use Rattle.ha_config.specs.declared.template.Template.{Template}
use Rattle.ha_config.specs.declared.template.Piece.{Piece}
use Rattle.ha_config.specs.declared.template.Piece.TheVariants.{outs-Text}
use Rattle.ha_config.specs.declared.template.Piece.TheViews.{out-Template}
use Rattle.ha_config.specs.declared.template.Piece.TheFolds.{map-Piece}
use Rattle.ha_sight.proofs.Rolls.{pieces_of-out, piece-out}
use Rattle.ha_sight.specs.Sight.{Sight}
use Rattle.ha_sight.specs.Values.{bounded}
use Rattle.ha_config.specs.Words.{Text, Pairs, without_breaks}
use Rattle.ha_sight.specs.Templates.{joined, piece_step, pieces_of, rendered, PieceMeaning, TemplateMeaning}
use Rattle.tpl_eval.specs.Pieces.{piece_of}

one : (ps : List Piece) (p : Piece) → length ps ≡ 1 → p ≡ get_or ps 0 p → ps ≡ p ∷ []
one [] p len get = absurd (omega (arith, len))
one (q ∷ []) p len get = ap (λ x. x ∷ []) (sym get)
one (q ∷ r ∷ rs) p len get = absurd (omega (arith, len))

pub bounded-is : (t : Text) → length t ≤ 65_536 → bounded t ≡ Some t
bounded-is t h = (let f : nat_le (length t) 65_536 ≡ true = grind (arith, nat_tests, h) in λ i. if f i then Some t else None)

module _ (sight : Sight) (env : Pairs) where
  pub text-is : (p : Piece) (w : Text) → p ≡ Piece.Text w → piece_of sight p env ≡ Some (w, env)
  text-is p w is =
      ap (λ y. piece_of sight y env) is ∙ piece-out sight (Piece.Text w) env
      ∙ ap (λ z. piece_step sight (map-Piece Piece Template (PieceMeaning sight) (TemplateMeaning sight) (piece_of sight) (pieces_of sight) z) env) (outs-Text w)

  pub plain-is : (t : Template) (ps : List Piece) (p : Piece) (w : Text) → ps ≡ (out-Template t).pieces → length ps ≡ 1 → p ≡ get_or ps 0 p → p ≡ Piece.Text w → length w ≤ 65_536
      → rendered sight t env ≡ Some (without_breaks w)
  plain-is t ps p w of len get is short =
      let alone : (out-Template t).pieces ≡ p ∷ [] = sym of ∙ one ps p len get in
      let written : pieces_of sight t env ≡ Some (w ++ [], env) =
      pieces_of-out sight t env ∙ ap (λ qs. joined sight (map (piece_of sight) qs) env) alone
      ∙ ap (λ (o : Option (Text × Pairs)). option_and_then (λ (r : Text × Pairs). option_map (λ (s : Text × Pairs). (r.0 ++ s.0, s.1)) (Some ([], r.1))) o) (text-is p w is) in
      let whole : pieces_of sight t env ≡ Some (w, env) = written ∙ (λ k. Some (append-nil w k, env)) in
      ap (λ (o : Option (Text × Pairs)). option_map without_breaks (option_and_then (λ (r : Text × Pairs). bounded r.0) o)) whole ∙ ap (option_map without_breaks) (bounded-is w short)
