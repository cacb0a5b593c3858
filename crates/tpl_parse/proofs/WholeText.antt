-- A template that is read leaves nothing, and its fault is within the text.
use Rattle.std.proofs.Common.{◌≡◌, ℕ, zero, suc, ◌≤◌, true, false, inl, inr, List, [], ◌∷◌, length, Option, Some, None, Ok, Err, refl, sym, ap, ◌∙◌, arith}
use Rattle.ha_config.specs.declared.template.Template.{Template}
use Rattle.reading.proofs.Basics.{bind_ok, ok_parts, chosen}
use Rattle.reading.proofs.Shorter.{fault_by}
use Rattle.tpl_parse.specs.declared.pieces.Tag.{Tag}
use Rattle.tpl_parse.specs.Token.{Reads}
use Rattle.tpl_parse.specs.Literal.{before, character}
use Rattle.tpl_parse.specs.Pieces.{Found, after_piece, after_text, behind_sign, ended, none_open, piece_turns, sign_of, tag_at, tag_by, template, template_of, text, text_turns, with_text}
use Rattle.tpl_parse.proofs.Utf8.{Fault}
use Rattle.tpl_parse.proofs.PiecesShorter.{template_keeps}

ended_nil : (t : List ℕ) → ended t ≡ true → t ≡ []
ended_nil [] e = refl
ended_nil (b ∷ t) e = absurd cc

abbrev none : Option Tag
none = None

after_text_at_end : (tag : Option Tag) (more : Reads (Option Tag)) → ((u mid : List ℕ) → more u ≡ Ok (none, mid) → mid ≡ []) → (t mid : List ℕ) → after_text tag more t ≡ Ok (none, mid) → mid ≡ []
after_text_at_end (Some tag) more h t mid e = absurd (let p = ok_parts {F = Fault} (Some tag, t) (none, mid) e in let k = p.0 in cc)
after_text_at_end None more h t mid e = elim (chosen (ended t) _ _ _ e) [
  | inl k ↦ (let p = ok_parts {F = Fault} (none, t) (none, mid) k.1 in sym p.1 ∙ ended_nil t k.0)
  | inr k ↦ (let m = bind_ok (character t) (λ c. more c.1) (none, mid) k.1 in h m.0.1 mid m.2)
]

text_at_end : (n : ℕ) (t mid : List ℕ) → text_turns n t ≡ Ok (none, mid) → mid ≡ []
unfolding text_turns
text_at_end zero t mid e = absurd cc
text_at_end (suc n) t mid e = after_text_at_end (tag_at t) (text_turns n) (λ u v k. text_at_end n u v k) t mid e

last_text_ends : (tag : Option Tag) (t mid : List ℕ) → text t ≡ Ok (tag, mid) → tag ≡ None → mid ≡ []
unfolding text
last_text_ends tag t mid e is = text_at_end (suc (length t)) t mid (e ∙ ap (λ (o : Option Tag). Ok (o, mid)) is)

after_piece_ends : (tag : Option Tag) (more : Found → Reads Template) → ((found : Found) (u : List ℕ) (x : Template) (rest : List ℕ) → more found u ≡ Ok (x, rest) → rest ≡ []) → (found : Found) (text t : List ℕ)
    → (tag ≡ None → t ≡ []) → (x : Template) (rest : List ℕ) → after_piece tag more found text t ≡ Ok (x, rest) → rest ≡ []
after_piece_ends None more h found text t last x rest e = elim (chosen (none_open found.open') _ _ _ e) [
  | inl k ↦ (let p = ok_parts {F = Fault} (template_of (with_text found false text).pieces, t) (x, rest) k.1 in sym p.1 ∙ last refl)
  | inr k ↦ absurd (let f = k.1 in cc)
]
after_piece_ends (Some tag) more h found text t last x rest e =
    let m = bind_ok (tag_by tag (with_text found (sign_of t) text) (behind_sign t)) (λ next. more next.0 next.1) (x, rest) e in
    h m.0.0 m.0.1 x rest m.2

piece_turns_end : (n : ℕ) (found : Found) (t : List ℕ) (x : Template) (rest : List ℕ) → piece_turns n found t ≡ Ok (x, rest) → rest ≡ []
unfolding piece_turns
piece_turns_end zero found t x rest e = absurd cc
piece_turns_end (suc n) found t x rest e =
    let m = bind_ok (text t) (λ tag. after_piece tag.0 (piece_turns n) found (before t tag.1) tag.1) (x, rest) e in
    after_piece_ends m.0.0 (piece_turns n) (λ f u y v k. piece_turns_end n f u y v k) found (before t m.0.1) m.0.1 (λ is. last_text_ends m.0.0 t m.0.1 m.1 is) x rest m.2

pub nothing_left : (t : List ℕ) (x : Template) (rest : List ℕ) → template t ≡ Ok (x, rest) → template t ≡ Ok (x, [])
unfolding template
nothing_left t x rest e = e ∙ ap (λ (r : List ℕ). Ok (x, r)) (piece_turns_end (suc (length t)) (record { open' = []; pieces = []; trims = false }) t x rest e)

pub left_within : (t : List ℕ) (f : Fault) → template t ≡ Err f → f.left ≤ length t
left_within t f e = fault_by f (template_keeps (length t) t (omega arith)) e
