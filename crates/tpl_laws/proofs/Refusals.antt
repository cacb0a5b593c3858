-- What stands before the place of a refusal goes on to a text of the grammar.
use Rattle.std.proofs.Common.{◌≡◌, ℕ, zero, suc, ◌+◌, ◌-◌, ◌<◌, Bool, false, ◌⊎◌, inl, inr, List, [], ◌∷◌, ◌++◌, length, take, Option, Some, None, Result, Ok, Err, refl, sym, ap, ◌∙◌, subst, arith, append_assoc, append-nil, length-append}
use Rattle.ha_config.specs.declared.template.Template.{Template}
use Rattle.reading.specs.Answer.{◌>>=◌}
use Rattle.tpl_parse.specs.declared.fault.ParseFault.{ParseFault}
use Rattle.tpl_parse.specs.declared.fault.ParseFault.TheVariants as faults
use Rattle.tpl_parse.specs.Literal.{before}
use Rattle.tpl_parse.specs.Pieces.{Choosing, Found, after_piece, behind_sign, finished, piece_turns, sign_of, tag_by, template, template_of, text, with_text}
use Rattle.tpl_parse.specs.Grammar.{IsText, Opens, behind as behind_tag, inside_tag, IsTemplate, template as template_is}
use Rattle.tpl_parse.specs.Refused.{GoesOn, IsFirstFault}
use Rattle.tpl_parse.specs.Tells.{Tells}
use Rattle.tpl_laws.specs.Refused.{IsRefusedAt, Refuses}
use Rattle.tpl_parse.proofs.OnlyTags.{text_parts}
use Rattle.tpl_parse.proofs.Next.{Fault}
use Rattle.tpl_parse.proofs.FoundTags.{opens_found}
use Rattle.tpl_parse.proofs.FoundPieces.{template_found}
use Rattle.tpl_parse.proofs.WholeText.{left_within}
use Rattle.tpl_parse.proofs.Refusals.{none_goes_on, one_place}
use Rattle.tpl_laws.proofs.TagKinds.{Kind, opens_kind}
use Rattle.tpl_laws.proofs.Likes.{Like, like_blank}
use Rattle.tpl_laws.proofs.Outcomes.{Gave, like_put}
use Rattle.tpl_laws.proofs.Shapes.{shape_of, Ends, ToTheEnd, text_again, text_before_end, tag_before, ending, shortest}
use Rattle.tpl_laws.proofs.Betweens.{Opened, opened_put, TextOut, text_read, text_stops, text_out, text_opens, opens_again, opens_shorter, same_front}
use Rattle.tpl_laws.proofs.Statements.{StepOut, tag_out}

abbrev PiecesOut : List Bool → Bool → List ℕ → Gave Template → Type 0
PiecesOut shape trims t (Ok x) = Unit {0}
PiecesOut shape trims t (Err f) = Opened shape (behind_tag trims) t f

-- a choice is open at the end of the text
end_opens : (shape : List Bool) (trims : Bool) (t s a : List ℕ) → IsText t s a → a ≡ [] → Opened shape (behind_tag trims) t (record { left = length a; code = tt })
end_opens shape trims t s a h none =
    let q : List ℕ = 32 ∷ ending shape in
    let parts : t ≡ t ++ [] = sym (append-nil t) in
    let same : s ≡ t = sym (text_parts h ∙ ap (λ (v : List ℕ). s ++ v) none ∙ append-nil s) in
    record {
      before = t;
      rest = [];
      more = q;
      parts = parts;
      left = ap length none;
      like = like_put t parts (like_blank [] (ending shape));
      ends = subst (λ (v : List ℕ). Ends shape (behind_tag trims) (v ++ q)) same (text_before_end shape trims h q (inr refl) (shortest shape trims));
    }

module _ (n : ℕ) (again : (found : Found) (u : List ℕ) → length u < n → PiecesOut (shape_of found.open') found.trims u (piece_turns n found u)) where
  finished_out : (stack : List Choosing) (found : Found) → found.open' ≡ stack → (t s a w : List ℕ) → IsText t s a → a ≡ [] → PiecesOut (shape_of stack) found.trims t (finished found w a)
  finished_out [] found is t s a w h none = rw is tt
  finished_out (c ∷ outer) found is t s a w h none = rw is (end_opens (shape_of (c ∷ outer)) found.trims t s a h none)

  -- behind a tag
  stepped : (shape : List Bool) (trims : Bool) (kind : Kind) (sign : Bool) (t s a v : List ℕ) → IsText t s a → Opens kind sign a v → length v < n → (r : Gave Found) → StepOut shape (inside_tag kind) v r
      → PiecesOut shape trims t (r >>= λ next. piece_turns n next.0 next.1)
  stepped shape trims kind sign t s a v h opens lt r step =
      let o = opens_again opens in
      let parts : t ≡ (s ++ o.0) ++ v = text_parts h ∙ ap (λ (w : List ℕ). s ++ w) o.1 ∙ sym (append_assoc s o.0 v) in
      by r step (λ f q. opened_put shape shape (behind_tag trims) (inside_tag kind) t (s ++ o.0) v parts
      (λ p l e.
      let back : IsText ((s ++ o.0) ++ p) s (o.0 ++ p) = text_back p l o in
      tag_before shape trims kind sign ((s ++ o.0) ++ p) s (o.0 ++ p) p back (o.2 p l) e)
      f q) where
        text_back : (p : List ℕ) → Like v p → (o : (w : List ℕ) × (a ≡ w ++ v) × ((o : List ℕ) → Like v o → Opens kind sign (w ++ o) o)) → IsText ((s ++ o.0) ++ p) s (o.0 ++ p)
        text_back p l o = subst (λ (w : List ℕ). IsText w s (o.0 ++ p)) (sym (append_assoc s o.0 p)) (text_again h (o.0 ++ p) (same_front opens (o.2 p l)))

        by : (r : Gave Found) → StepOut shape (inside_tag kind) v r → ((f : Fault) → Opened shape (inside_tag kind) v f → Opened shape (behind_tag trims) t f) → PiecesOut shape trims t (r >>= λ next. piece_turns n next.0 next.1)
        by (Err f) q put = put f q
        by (Ok x) q put = then_by (piece_turns n x.0 x.1) (again x.0 x.1 (omega (arith, lt, ap length q.parts, length-append q.before x.1))) where
          then_by : (r' : Gave Template) → PiecesOut (shape_of x.0.open') x.0.trims x.1 r' → PiecesOut shape trims t r'
          then_by (Ok y) m = tt
          then_by (Err f) m = put f (opened_put shape (shape_of x.0.open') (inside_tag kind) (behind_tag x.0.trims) v q.before x.1 q.parts q.put f m)

  turn_out : (found : Found) (t : List ℕ) → length t < suc n → (r : Gave (Option Kind)) → TextOut t r
      → PiecesOut (shape_of found.open') found.trims t (r >>= λ tag. after_piece tag.0 (piece_turns n) found (before t tag.1) tag.1)
  turn_out found t lt r (text_stops s a f h none e) = text_opens (shape_of found.open') found.trims f t s a h e
  turn_out found t lt r (text_read s a None h at last) = finished_out found.open' found refl t s a (before t a) h (last refl)
  turn_out found t lt r (text_read s a (Some kind) h at last) =
      let w : List ℕ = before t a in
      let opens = opens_found kind a at in
      let next : Found = with_text found (sign_of a) w in
      stepped (shape_of found.open') found.trims kind (sign_of a) t s a (behind_sign a) h opens (omega (arith, opens_shorter opens, ap length (text_parts h), length-append s a, lt))
      (tag_by kind next (behind_sign a)) (tag_out (opens_kind opens) found.open' next.pieces found.trims (behind_sign a))

turns_out : (n : ℕ) (found : Found) (t : List ℕ) → length t < n → PiecesOut (shape_of found.open') found.trims t (piece_turns n found t)
unfolding piece_turns
turns_out zero found t lt = absurd (omega arith)
turns_out (suc n) found t lt = turn_out n (turns_out n) found t lt (text t) (text_out t)

-- ---- the whole text

take_before : (b rest : List ℕ) → take (length b) (b ++ rest) ≡ b
take_before [] rest = refl
take_before (x ∷ b) rest = ap (λ (v : List ℕ). x ∷ v) (take_before b rest)

whole_by : (t : List ℕ) (f : Fault) (r : Gave Template) → r ≡ Err f → PiecesOut [] false t r → Opened [] (behind_tag false) t f
whole_by t f (Ok x) e m = absurd cc
whole_by t f (Err g) e m = let same : g ≡ f = cc in subst (λ (x : Fault). Opened [] (behind_tag false) t x) same m

template_opens : (t : List ℕ) (f : Fault) → template t ≡ Err f → Opened [] (behind_tag false) t f
unfolding template
template_opens t f e = whole_by t f (template t) e (turns_out (suc (length t)) (record { open' = []; pieces = []; trims = false }) t (omega arith))

-- what stands before the place goes on to a template
pub goes_on : (whole : List ℕ) (at : ℕ) (f : Fault) → template whole ≡ Err f → at + f.left ≡ length whole → GoesOn (take at whole)
goes_on whole at f e is =
    let h = template_opens whole f e in
    let n : at ≡ length h.before = omega (arith, is, h.left, ap length h.parts, length-append h.before h.rest) in
    let same : take at whole ≡ h.before = ap (λ (v : List ℕ). take at v) h.parts ∙ ap (λ (k : ℕ). take k (h.before ++ h.rest)) n ∙ take_before h.before h.rest in
    let end' : ToTheEnd (behind_tag false) (h.before ++ h.more) = h.ends in
    (h.more, template_of end'.ps, subst (λ (v : List ℕ). IsTemplate (v ++ h.more) (template_of end'.ps)) (sym same) (template_is end'.is))

-- ---- the first fault

pub first_fault : (whole : List ℕ) (at : ℕ) → IsRefusedAt whole at → IsFirstFault whole at
first_fault whole at h = record { goes_on = goes_on whole at h.0 h.1 h.2; no_more = none_goes_on whole at h.0 h.1 h.2 }

-- a text with a first fault is refused there
pub told : (whole : List ℕ) (at : ℕ) → IsFirstFault whole at → IsRefusedAt whole at
told whole at first = by (template whole) refl where
  by : (r : Gave Template) → template whole ≡ r → IsRefusedAt whole at
  by (Ok x) e = absurd (first.no_more.none x.0 (template_found whole x.0 x.1 e).0)
  by (Err f) e =
      let le = left_within whole f e in
      let here : IsRefusedAt whole (length whole - f.left) = (f, e, omega (arith, le)) in
      (f, e, omega (arith, le, one_place whole at (length whole - f.left) first (first_fault whole (length whole - f.left) here)))

pub either : (whole : List ℕ) → ((tree : Template) × IsTemplate whole tree) ⊎ ((at : ℕ) × IsFirstFault whole at)
either whole = by (template whole) refl where
  by : (r : Gave Template) → template whole ≡ r → ((tree : Template) × IsTemplate whole tree) ⊎ ((at : ℕ) × IsFirstFault whole at)
  by (Ok x) e = inl (x.0, (template_found whole x.0 x.1 e).0)
  by (Err f) e = let le = left_within whole f e in inr (length whole - f.left, first_fault whole (length whole - f.left) (f, e, omega (arith, le)))

pub refused : (whole : List ℕ) (result : Result Template ParseFault) → Tells whole (template whole) result → Refuses whole result
refused whole (Ok tree) told' = tt
refused whole (Err faults.Memory) told' = tt
refused whole (Err (faults.At at)) told' = first_fault whole at told'
