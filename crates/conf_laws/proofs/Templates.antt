-- Templates of the grammar are sound, and so is each template that is read.
use Rattle.std.proofs.Common.{◌≡◌, ◌∙◌, ap, sym, subst, refl, ℕ, ◌+◌, ◌≤◌, ◌<◌, Bool, true, false, cond, List, [], ◌∷◌, length, map, Option, Some, None, Ok, Err, arith, length-append}
use Rattle.std.specs.Prelude.{◌&&◌, nat_lt}
use Rattle.std.specs.List.{list_all}
use Rattle.std.proofs.lemmas.List.{length-map}
use Rattle.std.proofs.lemmas.List.Folds.{list_all-map}
use Rattle.std.proofs.lemmas.Bool.{ltb-false}
use Rattle.ha_config.specs.declared.template.Expr.{Expr}
use Rattle.ha_config.specs.declared.template.Piece.{Piece}
use Rattle.ha_config.specs.declared.template.Piece.TheVariants as pieces
use Rattle.ha_config.specs.declared.template.Piece.TheOpen.{Piece-F}
use Rattle.ha_config.specs.declared.template.Piece.TheViews.{roll-Piece}
use Rattle.ha_config.specs.declared.template.Piece.TheFolds.{fold-Piece, fold_out-Template, fold-roll-Piece, map-Piece}
use Rattle.ha_config.specs.declared.template.Template.{Template}
use Rattle.ha_config.specs.Sound.{all_short, all_true, is_sound_expr, is_sound_template, sound_piece_step}
use Rattle.reading.specs.declared.fault.Bad.{Bad}
use Rattle.reading.specs.Answer.{Answer}
use Rattle.yaml_scan.specs.declared.fault.Code.TheVariants as code
use Rattle.tpl_parse.specs.declared.token.Token.{Token}
use Rattle.tpl_parse.specs.Pieces.{template_of, text_piece, trimmed, template as parsed}
use Rattle.tpl_parse.specs.Grammar.{Takes, IsLast, last, Place, behind, inside_tag, after_arms, Stop, IsPieces, last_text, tag, comment, shown, stops, set, choice, elif, otherwise, endif, IsTemplate, template}
use Rattle.tpl_parse.proofs.Next.{spaces_within, taken}
use Rattle.tpl_parse.proofs.Starts.{name_within}
use Rattle.tpl_parse.proofs.OnlyTags.{comment_within, end_within, last_within, opens_read, text_within}
use Rattle.tpl_parse.proofs.FoundPieces.{template_found}
use Rattle.conf_field.specs.Holds.{Holds}
use Rattle.conf_field.specs.Readings.{bad}
use Rattle.conf_field.specs.Kinds.{scalar, template as template_kind, template_by, template_of as read_template, template_text, tree_of}
use Rattle.conf_laws.proofs.Joined.{all_mapped, all_passed, both_lists, one_more, pair}
use Rattle.conf_laws.proofs.Exprs.{Sound, expr_sound}
use Rattle.conf_laws.proofs.Parts.{Passes, Reads}

word_size : {token : Token} {t a : List ℕ} → Takes token t a → length a < length t
word_size {t = t} i = omega (arith, (taken {t = t} refl i).shorter, spaces_within t)

abbrev is_sound_piece : Piece → Bool
is_sound_piece = fold-Piece Bool Bool sound_piece_step (λ t. all_true t.pieces)

piece_at : (x : Piece-F Piece Template) → is_sound_piece (roll-Piece x) ≡ sound_piece_step (map-Piece Piece Template Bool Bool is_sound_piece is_sound_template x)
piece_at x = fold-roll-Piece Bool Bool sound_piece_step (λ t. all_true t.pieces) x

of_text : (t : List ℕ) → is_sound_piece (pieces.Text t) ≡ true
of_text t = ap is_sound_piece (sym (pieces.rolls-Text t)) ∙ piece_at (Piece-F.Text t)

of_show : (e : Expr) → Sound e → is_sound_piece (pieces.Show e) ≡ true
of_show e h = ap is_sound_piece (sym (pieces.rolls-Show e)) ∙ piece_at (Piece-F.Show e) ∙ h

of_assign : (name : List ℕ) (e : Expr) → Sound e → is_sound_piece (pieces.Assign name e) ≡ true
of_assign name e h = ap is_sound_piece (sym (pieces.rolls-Assign name e)) ∙ piece_at (Piece-F.Assign name e) ∙ h

abbrev Arm : Type 0
Arm = Expr × Template

abbrev is_sound_arm : Arm → Bool
is_sound_arm a = is_sound_expr a.0 && is_sound_template a.1

of_choice : (arms : List Arm) (fallback : Template) → list_all is_sound_arm arms ≡ true → length arms < 4_294_967_296 → is_sound_template fallback ≡ true
    → is_sound_piece (pieces.Choice arms fallback) ≡ true
of_choice arms fallback all few h =
    let judged : Arm → Expr × Bool = λ a. (a.0, is_sound_template a.1) in
    let mapped = map judged arms in
    ap is_sound_piece (sym (pieces.rolls-Choice arms fallback)) ∙ piece_at (Piece-F.Choice arms fallback)
    ∙ pair (all_short (λ (a : Expr × Bool). is_sound_expr a.0 && a.1) mapped) (is_sound_template fallback)
    (all_passed (λ (a : Expr × Bool). is_sound_expr a.0 && a.1) mapped
    (list_all-map (λ (a : Expr × Bool). is_sound_expr a.0 && a.1) judged arms ∙ all)
    (omega (arith, few, length-map arms judged))) h

of_pieces : (ps : List Piece) → list_all is_sound_piece ps ≡ true → length ps < 4_294_967_296 → is_sound_template (template_of ps) ≡ true
of_pieces ps all few = fold_out-Template Bool Bool sound_piece_step (λ t. all_true t.pieces) (template_of ps) ∙ all_mapped is_sound_piece ps all few

-- a text between tags is one piece, or none where it is empty
text_few : (t : List ℕ) → (list_all is_sound_piece (text_piece t) ≡ true) × (length (text_piece t) ≤ 1)
text_few [] = (refl, omega arith)
text_few (b ∷ t) = (pair (is_sound_piece (pieces.Text (b ∷ t))) true (of_text (b ∷ t)) refl, omega arith)

module _ (few : ℕ) (is_few : few + 1 < 4_294_967_296) where
  last_sound : {end' trimming' : Token} {e : Expr} {trims : Bool} {t rest : List ℕ} → IsLast end' trimming' e trims t rest → length t ≤ few → Sound e
  last_sound {t = t} (last h k) le = expr_sound few (omega (arith, is_few)) h (omega (arith, le, spaces_within t)) tt

  abbrev GivenAt : Place → List ℕ → Type 0
  GivenAt (behind trims) t = Unit {0}
  GivenAt (inside_tag kind) t = Unit {0}
  GivenAt (after_arms arms) t = (list_all is_sound_arm arms ≡ true) × (length arms + length t ≤ few)

  record Few (ps : List Piece) (t rest : List ℕ) : Type 0 where
    sound : list_all is_sound_piece ps ≡ true
    count : length ps ≤ length t + 1
    left : length rest ≤ length t

  body_sound : (ps : List Piece) (t rest : List ℕ) → Few ps t rest → length t ≤ few → is_sound_template (template_of ps) ≡ true
  body_sound ps t rest f le = of_pieces ps f.sound (omega (arith, f.count, le, is_few))

  arm_sound : (e : Expr) (ps : List Piece) → Sound e → is_sound_template (template_of ps) ≡ true → is_sound_arm (e, template_of ps) ≡ true
  arm_sound e ps h k = pair (is_sound_expr e) (is_sound_template (template_of ps)) h k

  pieces_sound : {p : Place} {s : Stop} {t rest : List ℕ} {ps : List Piece} → IsPieces p s t ps rest → length t ≤ few → GivenAt p t → Few ps t rest
  pieces_sound (last_text {trims = trims} {text = t} {t = s} h) le g =
      let f = text_few (trimmed trims false s) in
      record { sound = f.0; count = omega (arith, f.1); left = omega arith }
  pieces_sound (tag {trims = trims} {sign = sign} {t = s} {ps = ps} h o more) le g =
      let f = text_few (trimmed trims sign s) in
      let o' = opens_read o in
      let m = pieces_sound more (omega (arith, le, text_within h, o'.shorter)) tt in
      record {
        sound = both_lists is_sound_piece (text_piece (trimmed trims sign s)) ps f.0 m.sound;
        count = omega (arith, f.1, m.count, text_within h, o'.shorter, length-append (text_piece (trimmed trims sign s)) ps);
        left = omega (arith, m.left, text_within h, o'.shorter);
      }
  pieces_sound (comment h more) le g =
      let m = pieces_sound more (omega (arith, le, comment_within h)) tt in
      record { sound = m.sound; count = omega (arith, m.count, comment_within h); left = omega (arith, m.left, comment_within h) }
  pieces_sound (shown {e = e} {ps = ps} l more) le g =
      let m = pieces_sound more (omega (arith, le, last_within l)) tt in
      record {
        sound = pair (is_sound_piece (pieces.Show e)) (list_all is_sound_piece ps) (of_show e (last_sound l le)) m.sound;
        count = omega (arith, m.count, last_within l);
        left = omega (arith, m.left, last_within l);
      }
  pieces_sound stops le g = record { sound = refl; count = omega arith; left = omega arith }
  pieces_sound (set {text = t} {a = a} {b = b} {c = c} {d = d} {word = word} {e = e} {ps = ps} i n j l more) le g =
      let before : length c ≤ length t = omega (arith, word_size i, name_within n, spaces_within a, word_size j) in
      let m = pieces_sound more (omega (arith, le, before, last_within l)) tt in
      record {
        sound = pair (is_sound_piece (pieces.Assign word e)) (list_all is_sound_piece ps) (of_assign word e (last_sound l (omega (arith, le, before)))) m.sound;
        count = omega (arith, m.count, before, last_within l);
        left = omega (arith, m.left, before, last_within l);
      }
  pieces_sound (choice {b = b} {c = c} {test' = e} {body = body} i l inner more) le g =
      let n = pieces_sound inner (omega (arith, le, word_size i, last_within l)) tt in
      let arm = arm_sound e body (last_sound l (omega (arith, le, word_size i))) (body_sound body b c n (omega (arith, le, word_size i, last_within l))) in
      let m = pieces_sound more (omega (arith, le, word_size i, last_within l, n.left)) (pair (is_sound_arm (e, template_of body)) true arm refl, omega (arith, le, word_size i, last_within l, n.left)) in
      record { sound = m.sound; count = omega (arith, m.count, word_size i, last_within l, n.left); left = omega (arith, m.left, word_size i, last_within l, n.left) }
  pieces_sound (elif {arms = arms} {b = b} {c = c} {test' = e} {body = body} i l inner more) le g =
      let n = pieces_sound inner (omega (arith, le, word_size i, last_within l)) tt in
      let arm = arm_sound e body (last_sound l (omega (arith, le, word_size i))) (body_sound body b c n (omega (arith, le, word_size i, last_within l))) in
      let m = pieces_sound more (omega (arith, le, word_size i, last_within l, n.left))
      (one_more is_sound_arm arms (e, template_of body) g.0 arm, omega (arith, g.1, length-append arms ((e, template_of body) ∷ []), word_size i, last_within l, n.left)) in
      record { sound = m.sound; count = omega (arith, m.count, word_size i, last_within l, n.left); left = omega (arith, m.left, word_size i, last_within l, n.left) }
  pieces_sound (otherwise {arms = arms} {a = a} {b = b} {c = c} {d = d} {body = body} {ps = ps} i k inner j l more) le g =
      let n = pieces_sound inner (omega (arith, le, word_size i, end_within k, spaces_within a)) tt in
      let m = pieces_sound more (omega (arith, le, word_size i, end_within k, spaces_within a, n.left, word_size j, end_within l, spaces_within d)) tt in
      record {
        sound = pair (is_sound_piece (pieces.Choice arms (template_of body))) (list_all is_sound_piece ps)
            (of_choice arms (template_of body) g.0 (omega (arith, g.1, is_few)) (body_sound body b c n (omega (arith, le, word_size i, end_within k, spaces_within a)))) m.sound;
        count = omega (arith, m.count, word_size i, end_within k, spaces_within a, n.left, word_size j, end_within l, spaces_within d);
        left = omega (arith, m.left, word_size i, end_within k, spaces_within a, n.left, word_size j, end_within l, spaces_within d);
      }
  pieces_sound (endif {arms = arms} {a = a} {ps = ps} i k more) le g =
      let m = pieces_sound more (omega (arith, le, word_size i, end_within k, spaces_within a)) tt in
      record {
        sound = pair (is_sound_piece (pieces.Choice arms (template_of []))) (list_all is_sound_piece ps)
            (of_choice arms (template_of []) g.0 (omega (arith, g.1, is_few)) (of_pieces [] refl (omega arith))) m.sound;
        count = omega (arith, m.count, word_size i, end_within k, spaces_within a);
        left = omega (arith, m.left, word_size i, end_within k, spaces_within a);
      }

  pub template_sound : (t : List ℕ) (x : Template) → length t ≤ few → IsTemplate t x → is_sound_template x ≡ true
  template_sound t x le (template {ps = ps} h) = body_sound ps t [] (pieces_sound h le tt) le

-- ---- templates that are read

read_sound : (t : List ℕ) (x : Template) → length t ≤ 16_384 → read_template t ≡ Some x → is_sound_template x ≡ true
read_sound t x le h = by (parsed t) refl h
  where
    by : (r : Answer ℕ (Bad (Unit {0})) Template) → parsed t ≡ r → tree_of r ≡ Some x → is_sound_template x ≡ true
    by (Ok p) e k =
        let same : p.0 ≡ x = cc in
        subst (λ y. is_sound_template y ≡ true) same (template_sound 16_384 (omega arith) t p.0 le ((template_found t p.0 p.1 e).0))
    by (Err f) e k = cc

pub sound_template_text : (line : ℕ) (t : List ℕ) → Holds (Passes is_sound_template) (template_text line t (read_template t))
sound_template_text line t = by (read_template t) refl
  where
    at_length : (b : Bool) (x : Template) → nat_lt 16_384 (length t) ≡ b → read_template t ≡ Some x → Holds (Passes is_sound_template) (cond b (bad line code.Limit) (Ok x))
    at_length true x e h = tt
    at_length false x e h = read_sound t x (ltb-false 16_384 (length t) e) h

    by : (o : Option Template) → read_template t ≡ o → Holds (Passes is_sound_template) (template_text line t o)
    by (Some x) h = at_length (nat_lt 16_384 (length t)) x refl h
    by None h = tt

pub sound_template : Reads (Passes is_sound_template) template_kind
sound_template line n s = by (scalar n)
  where
    by : (o : Option (List ℕ)) → Holds (Passes is_sound_template) (template_by line o)
    by (Some t) = sound_template_text line t
    by None = tt
