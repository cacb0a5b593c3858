-- A template has the same text in two sights that agree on what it reads.
use Rattle.std.proofs.Common.{◌≡◌, ◌∙◌, ap, Bool, true, false, List, [], ◌∷◌, ◌++◌, map, refl, sym, subst}
use Rattle.std.specs.Prelude.{Some, None, ◌||◌, option_map, option_and_then, if◌then◌else◌}
use Rattle.std.specs.List.{list_any}
use Rattle.ha_value.specs.declared.value.EntityId.{EntityId}
use Rattle.ha_value.specs.Truth.{truth}
use Rattle.ha_config.specs.declared.template.Expr.{Expr}
use Rattle.ha_config.specs.declared.template.Piece.{Piece}
use Rattle.ha_config.specs.declared.template.Template.{Template}
use Rattle.ha_config.specs.declared.template.Piece.TheOpen.{Piece-F, Template-F}
use Rattle.ha_config.specs.declared.template.Piece.TheViews.{roll-Piece, roll-Template}
use Rattle.ha_config.specs.declared.template.Piece.TheFolds.{ind-Template, map-Piece, map-Template}
use Rattle.ha_config.specs.Words.{Pairs, same_entity, without_breaks}
use Rattle.ha_config.proofs.EqualLemmas.{entity-refl}
use Rattle.ha_sight.specs.Rules.{each_once}
use Rattle.ha_sight.specs.Sight.{Sight}
use Rattle.ha_sight.specs.Values.{bounded, printed}
use Rattle.ha_sight.specs.Templates as t
use Rattle.ha_sight.specs.Templates.{choose_arm, joined, pieces_of, rendered, PieceMeaning, TemplateMeaning}
use Rattle.ha_sight.proofs.Rolls.{piece_meaning, piece-roll, pieces_of-roll}
use Rattle.tpl_reads.specs.Reads.{Written, all_of, all_reads, arms_read, both, entities_read, expr_reads, piece_reads, piece_step}
use Rattle.tpl_reads.specs.Agree.{Agree}
use Rattle.tpl_reads.proofs.KnownRolls.{all_reads-roll, piece_reads-roll}
use Rattle.tpl_reads.proofs.SameLemmas.{AgreeAll, On, on-both}
use Rattle.tpl_reads.proofs.ExprLemmas.{value-same}
use Rattle.tpl_reads.proofs.OnceLemmas.{once-any}

module _ (a b : Sight) where
  abbrev SamePiece : Piece → Type 0
  SamePiece p = On a b (piece_reads p) → (env : Pairs) → piece_meaning a p env ≡ piece_meaning b p env

  abbrev SameTemplate : Template → Type 0
  SameTemplate x = On a b (all_reads x) → (env : Pairs) → pieces_of a x env ≡ pieces_of b x env

  abbrev ProvedPiece : Type 0
  ProvedPiece = (p : Piece) × SamePiece p

  abbrev ProvedTemplate : Type 0
  ProvedTemplate = (x : Template) × SameTemplate x

  abbrev plain_pieces : List ProvedPiece → List Piece
  plain_pieces ps = map {A = ProvedPiece} {B = Piece} (λ p. p.0) ps

  joined-same : (ps : List ProvedPiece) → On a b (all_of (map piece_reads (plain_pieces ps))) → (env : Pairs)
      → joined a (map (piece_meaning a) (plain_pieces ps)) env ≡ joined b (map (piece_meaning b) (plain_pieces ps)) env
  joined-same [] h env = refl
  joined-same (p ∷ ps) h env =
      let g = on-both a b (piece_reads p.0) (all_of (map piece_reads (plain_pieces ps))) h in
      λ i. option_and_then (λ r. option_map (λ s. (r.0 ++ s.0, s.1)) (joined-same ps g.1 r.1 i)) (p.1 g.0 env i)

  abbrev Arms : Type 0
  Arms = List (Expr × ProvedTemplate)

  abbrev plain_arms : Arms → List (Expr × Template)
  plain_arms arms = map {A = Expr × ProvedTemplate} {B = Expr × Template} (λ x. (x.0, x.1.0)) arms

  abbrev read_arms : Arms → List (Expr × Written)
  read_arms arms = map {A = Expr × Template} {B = Expr × Written} (λ x. (x.0, all_reads x.1)) (plain_arms arms)

  abbrev meant_arms : (s : Sight) → Arms → List (Expr × TemplateMeaning s)
  meant_arms s arms = map {A = Expr × Template} {B = Expr × TemplateMeaning s} (λ x. (x.0, pieces_of s x.1)) (plain_arms arms)

  choice-same : (arms : Arms) (fallback : ProvedTemplate) → On a b (arms_read (read_arms arms)) → On a b (all_reads fallback.0) → (env : Pairs)
      → choose_arm a (meant_arms a arms) (pieces_of a fallback.0) env ≡ choose_arm b (meant_arms b arms) (pieces_of b fallback.0) env
  choice-same [] fallback h k env = fallback.1 k env
  choice-same (x ∷ arms) fallback h k env =
      let g = on-both a b (both (expr_reads x.0) (all_reads x.1.0)) (arms_read (read_arms arms)) h in
      let m = on-both a b (expr_reads x.0) (all_reads x.1.0) g.0 in
      λ i. option_and_then (λ v. if truth v then x.1.1 m.1 env i else choice-same arms fallback g.1 k env i) (value-same a b x.0 m.0 env i)

  abbrev plain_piece : Piece-F ProvedPiece ProvedTemplate → Piece-F Piece Template
  plain_piece = map-Piece ProvedPiece ProvedTemplate Piece Template (λ p. p.0) (λ p. p.0)

  abbrev plain_template : Template-F ProvedPiece ProvedTemplate → Template-F Piece Template
  plain_template = map-Template ProvedPiece ProvedTemplate Piece Template (λ p. p.0) (λ p. p.0)

  piece-layer : (y : Piece-F ProvedPiece ProvedTemplate) → On a b (piece_step (map-Piece Piece Template Written Written piece_reads all_reads (plain_piece y))) → (env : Pairs)
      → t.piece_step a (map-Piece Piece Template (PieceMeaning a) (TemplateMeaning a) (piece_meaning a) (pieces_of a) (plain_piece y)) env
      ≡ t.piece_step b (map-Piece Piece Template (PieceMeaning b) (TemplateMeaning b) (piece_meaning b) (pieces_of b) (plain_piece y)) env
  piece-layer (Piece-F.Text x) h env = refl
  piece-layer (Piece-F.Show e) h env = λ i. option_and_then (λ v. option_map (λ x. (x, env)) (printed v)) (value-same a b e h env i)
  piece-layer (Piece-F.Assign name e) h env = λ i. option_map (λ v. ([], env ++ ((name, v) ∷ []))) (value-same a b e h env i)
  piece-layer (Piece-F.Choice arms fallback) h env =
      let g = on-both a b (arms_read (read_arms arms)) (all_reads fallback.0) h in
      choice-same arms fallback g.0 g.1 env

  rolled-piece : (y : Piece-F ProvedPiece ProvedTemplate) → SamePiece (roll-Piece (plain_piece y))
  rolled-piece y h env =
      piece-roll a (plain_piece y) env
      ∙ piece-layer y (subst (λ (w : Written). On a b w) (piece_reads-roll (plain_piece y)) h) env
      ∙ sym (piece-roll b (plain_piece y) env)

  rolled-template : (y : Template-F ProvedPiece ProvedTemplate) → SameTemplate (roll-Template (plain_template y))
  rolled-template y h env =
      pieces_of-roll a (plain_template y) env
      ∙ joined-same y.pieces (subst (λ (w : Written). On a b w) (all_reads-roll (plain_template y)) h) env
      ∙ sym (pieces_of-roll b (plain_template y) env)

  -- LAW: a template writes the same in both sights, and leaves the same environment
  pub pieces-same : (x : Template) → On a b (all_reads x) → (env : Pairs) → pieces_of a x env ≡ pieces_of b x env
  pieces-same = ind-Template SamePiece SameTemplate (λ x y is. subst (λ z. SamePiece (roll-Piece z)) is (rolled-piece y)) (λ x y is. subst (λ z. SameTemplate (roll-Template z)) is (rolled-template y))

  -- ---- from what agrees on each entity

  fewer : (e : EntityId) (es : List EntityId) → ((f : EntityId) → list_any (λ g. same_entity g f) (e ∷ es) ≡ true → a.states f ≡ b.states f)
      → (f : EntityId) → list_any (λ g. same_entity g f) es ≡ true → a.states f ≡ b.states f
  fewer e es h f k = h f (by (same_entity e f) (list_any (λ g. same_entity g f) es) k)
    where
      by : (p q : Bool) → q ≡ true → (p || q) ≡ true
      by true q k = refl
      by false q k = k

  each-agrees : (es : List EntityId) → Agree a b es → AgreeAll a b es
  each-agrees [] h = tt
  each-agrees (e ∷ es) h = (h e (λ i. entity-refl e i || list_any (λ g. same_entity g e) es), each-agrees es (fewer e es h))

  on-all : (w : Written) (es : List EntityId) → option_map each_once w ≡ Some es → Agree a b es → On a b w
  on-all None es is h = absurd (cc)
  on-all (Some all) es is h =
      let e : each_once all ≡ es = cc in
      each-agrees all (λ f k. h f (ap (list_any (λ g. same_entity g f)) (sym e) ∙ once-any f all ∙ k))

  -- LAW: what a template writes and sets is the same in both sights, and so is its rendered text
  pub written-same : (x : Template) (es : List EntityId) → entities_read x ≡ Some es → Agree a b es → (env : Pairs) → pieces_of a x env ≡ pieces_of b x env
  written-same x es is h = pieces-same x (on-all (all_reads x) es is h)

  pub rendered-same : (x : Template) (es : List EntityId) → entities_read x ≡ Some es → Agree a b es → (env : Pairs) → rendered a x env ≡ rendered b x env
  rendered-same x es is h env = λ i. option_map without_breaks (option_and_then (λ r. bounded r.0) (written-same x es is h env i))
