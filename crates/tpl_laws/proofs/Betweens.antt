-- Texts between tags: a fault in one leaves what goes on to the end of the whole.
use Rattle.std.proofs.Common.{◌≡◌, ℕ, zero, suc, ◌<◌, Bool, true, false, ◌⊎◌, inl, inr, List, [], ◌∷◌, ◌++◌, length, Option, Some, None, Ok, Err, refl, sym, ap, ◌∙◌, subst, arith, append_assoc}
use Rattle.std.specs.Prelude.{◌==◌, encode_utf8}
use Rattle.reading.specs.Answer.{◌>>=◌, front}
use Rattle.reading.specs.Bytes.{sees}
use Rattle.reading.proofs.Basics.{chosen_is}
use Rattle.reading.proofs.Solid.{Solid, IsSolid, Halted}
use Rattle.reading.proofs.Characters.{character_solid}
use Rattle.tpl_parse.specs.Literal.{character}
use Rattle.tpl_parse.specs.Pieces.{after_text, ended, tag_at, text, text_turns}
use Rattle.tpl_parse.specs.Grammar.{IsCharacter, IsText, no_character, one_character, Opens, plain, trimming, Place, behind as behind_tag}
use Rattle.tpl_parse.proofs.OnlyTags.{text_parts}
use Rattle.tpl_parse.proofs.Next.{Fault}
use Rattle.tpl_parse.proofs.Characters.{character_found, character_shorter}
use Rattle.tpl_laws.proofs.TagKinds.{Kind}
use Rattle.tpl_laws.proofs.Likes.{Like, like_blank, like_from}
use Rattle.tpl_laws.proofs.Outcomes.{Gave, Open, like_put}
use Rattle.tpl_laws.proofs.Lexical.{high_byte, high_not}
use Rattle.tpl_laws.proofs.Shapes.{Ends, text_before_end, ending, shortest}

-- what stands before the fault goes on to the end of the whole
pub record Opened (shape : List Bool) (place : Place) (t : List ℕ) (f : Fault) : Type 0 where
  pub before : List ℕ
  pub rest : List ℕ
  pub more : List ℕ
  pub parts : t ≡ before ++ rest
  pub left : f.left ≡ length rest
  pub like : Like t (before ++ more)
  pub ends : Ends shape place (before ++ more)

pub opened_put : (shape shape' : List Bool) (place place' : Place) (u b after : List ℕ) → u ≡ b ++ after → ((o : List ℕ) → Like after o → Ends shape' place' o → Ends shape place (b ++ o))
    → (f : Fault) → Opened shape' place' after f → Opened shape place u f
opened_put shape shape' place place' u b after parts put f h =
    let same : (v : List ℕ) → b ++ (h.before ++ v) ≡ (b ++ h.before) ++ v = λ v. sym (append_assoc b h.before v) in
    record {
      before = b ++ h.before;
      rest = h.rest;
      more = h.more;
      parts = parts ∙ ap (λ (v : List ℕ). b ++ v) h.parts ∙ same h.rest;
      left = h.left;
      like = subst (λ (v : List ℕ). Like u v) (same h.more) (like_put b parts h.like);
      ends = subst (λ (v : List ℕ). Ends shape place v) (same h.more) (put (h.before ++ h.more) h.like h.ends);
    }

pub opened_by : {A : Type 0} (P : List ℕ → A → List ℕ → Type 0) (shape : List Bool) (place : Place) (t e : List ℕ) → ((o : List ℕ) (x : A) → P o x (32 ∷ e) → Ends shape place o) → (f : Fault) → Open P t f → Opened shape place t f
opened_by P shape place t e put f h =
    let s = h.spelled e in
    record {
      before = h.before;
      rest = h.rest;
      more = h.more ++ 32 ∷ e;
      parts = h.parts;
      left = h.left;
      like = h.like e;
      ends = put (h.before ++ (h.more ++ 32 ∷ e)) s.0 s.1;
    }

-- ---- texts

pub data TextOut (t : List ℕ) : Gave (Option Kind) → Type 0 where
  text_read : (s a : List ℕ) (o : Option Kind) → IsText t s a → tag_at a ≡ o → (o ≡ None → a ≡ []) → TextOut t (Ok (o, a))
  text_stops : (s a : List ℕ) (f : Fault) → IsText t s a → tag_at a ≡ None → character a ≡ Err f → TextOut t (Err f)

is_ended : (t : List ℕ) → ended t ≡ true → t ≡ []
is_ended [] h = refl
is_ended (b ∷ t) h = absurd cc

text_more : (t c u : List ℕ) → tag_at t ≡ None → IsCharacter t c u → (r : Gave (Option Kind)) → TextOut u r → TextOut t r
text_more t c u none is r (text_read s a o h at last) = text_read (c ++ s) a o (one_character none is h) at last
text_more t c u none is r (text_stops s a f h at e) = text_stops (c ++ s) a f (one_character none is h) at e

module _ (n : ℕ) (t : List ℕ) (again : (u : List ℕ) → length u < length t → TextOut u (text_turns n u)) where
  char_out : tag_at t ≡ None → (r : Gave ℕ) → character t ≡ r → TextOut t (r >>= λ c. text_turns n c.1)
  char_out none (Ok x) e =
      let is : IsCharacter t (encode_utf8 x.0) x.1 = character_found t x.0 x.1 e in
      text_more t (encode_utf8 x.0) x.1 none is (text_turns n x.1) (again x.1 (character_shorter is))
  char_out none (Err f) e = text_stops [] t f no_character none e

  text_by : (o : Option Kind) → tag_at t ≡ o → TextOut t (after_text o (text_turns n) t)
  text_by (Some kind) e = text_read [] t (Some kind) no_character e (λ k. absurd cc)
  text_by None e = elim (chosen_is (ended t)) [
    | inl h ↦ rw h (text_read [] t None no_character e (λ k. is_ended t h))
    | inr h ↦ rw h (char_out e (character t) refl)
  ]

text_turns_out : (n : ℕ) (t : List ℕ) → length t < n → TextOut t (text_turns n t)
unfolding text_turns
text_turns_out zero t lt = absurd (omega arith)
text_turns_out (suc n) t lt = text_by n t (λ u less. text_turns_out n u (omega (arith, less, lt))) (tag_at t) refl

pub text_out : (t : List ℕ) → TextOut t (text t)
unfolding text
text_out t = text_turns_out (suc (length t)) t (omega arith)

high_no_tag : (b : ℕ) (w w' : List ℕ) (f : Fault) → character (b ∷ w) ≡ Err f → tag_at (b ∷ w') ≡ None
high_no_tag b w w' f e = rw (high_not b 123 (omega arith) (high_byte b w f e)) refl

-- a fault in a text: a byte with which no character goes on
module _ (shape : List Bool) (trims : Bool) (f : Fault) where
  char_opens : (a before : List ℕ) → character a ≡ Err f → (l : Halted tt character a f) → before ≡ l.before → Opened shape (behind_tag trims) a f
  char_opens a [] e l is = record {
    before = [];
    rest = a;
    more = 32 ∷ ending shape;
    parts = refl;
    left = l.left ∙ ap length (sym (l.parts ∙ ap (λ (v : List ℕ). v ++ l.rest) (sym is)));
    like = like_blank a (ending shape);
    ends = shortest shape trims;
  }
  char_opens a (b ∷ w) e l is =
      let q : List ℕ = 32 ∷ ending shape in
      let parts : a ≡ b ∷ (w ++ l.rest) = l.parts ∙ ap (λ (v : List ℕ). v ++ l.rest) (sym is) in
      let bad : character (b ∷ (w ++ l.rest)) ≡ Err f = ap character (sym parts) ∙ e in
      let same : (b ∷ w) ++ (l.more ++ q) ≡ l.before ++ (l.more ++ q) = ap (λ (v : List ℕ). v ++ (l.more ++ q)) is in
      let c : IsCharacter ((b ∷ w) ++ (l.more ++ q)) (encode_utf8 l.x) q = character_found ((b ∷ w) ++ (l.more ++ q)) l.x q (ap character same ∙ l.goes_on q) in
      let none : tag_at ((b ∷ w) ++ (l.more ++ q)) ≡ None = high_no_tag b (w ++ l.rest) (w ++ (l.more ++ q)) f bad in
      record {
        before = b ∷ w;
        rest = l.rest;
        more = l.more ++ q;
        parts = parts;
        left = l.left;
        like = subst (λ (v : List ℕ). Like v (b ∷ (w ++ (l.more ++ q)))) (sym parts) (like_from b (w ++ l.rest) (w ++ (l.more ++ q)) (high_not b 46 (omega arith) (high_byte b (w ++ l.rest) f bad)));
        ends = subst (λ (v : List ℕ). Ends shape (behind_tag trims) v) (sym (text_parts (one_character none c no_character))) (text_before_end shape trims (one_character none c no_character) q (inl refl) (shortest shape trims));
      }

  by_char : (a : List ℕ) (r : Gave ℕ) → character a ≡ r → r ≡ Err f → IsSolid tt character a r → Opened shape (behind_tag trims) a f
  by_char a (Ok x) e k l = absurd cc
  by_char a (Err g) e k l = by_fault g (let same : g ≡ f = cc in same) e l where
    by_fault : (g' : Fault) → g' ≡ f → character a ≡ Err g' → Halted tt character a g' → Opened shape (behind_tag trims) a f
    by_fault g' same e' l' = subst (λ (x : Fault). character a ≡ Err x → Halted tt character a x → Opened shape (behind_tag trims) a f) (sym same) (λ e2 l2. char_opens a l2.before e2 l2 refl) e' l'

  pub text_opens : (t s a : List ℕ) → IsText t s a → character a ≡ Err f → Opened shape (behind_tag trims) t f
  unfolding Solid
  text_opens t s a h e =
      opened_put shape shape (behind_tag trims) (behind_tag trims) t s a (text_parts h) (λ o l m. text_before_end shape trims h o l.first m) f (by_char a (character a) refl e (character_solid tt a))

-- ---- the opening bytes of a tag

same_sees : (o p : List ℕ) → front o ≡ front p → sees 45 p ≡ false → sees 45 o ≡ false
same_sees [] p e h = refl
same_sees (x ∷ o) [] e h = absurd cc
same_sees (x ∷ o) (y ∷ p) e h = let same : x ≡ y = cc in subst (λ (z : ℕ). (z == 45) ≡ false) (sym same) h

pub opens_again : {kind : Kind} {sign : Bool} {a b : List ℕ} → Opens kind sign a b → (w : List ℕ) × (a ≡ w ++ b) × ((o : List ℕ) → Like b o → Opens kind sign (w ++ o) o)
opens_again (plain {b = c} {rest = rest} is none) = (123 ∷ c ∷ [], refl, λ o l. plain is (no_sign o l.first)) where
  no_sign : (o : List ℕ) → (front o ≡ front rest) ⊎ (front o ≡ Some 32) → sees 45 o ≡ false
  no_sign o (inl e) = same_sees o rest e none
  no_sign o (inr e) = same_sees o (32 ∷ []) e refl
opens_again (trimming {b = c} is) = (123 ∷ c ∷ 45 ∷ [], refl, λ o l. trimming is)

pub opens_shorter : {kind : Kind} {sign : Bool} {a b : List ℕ} → Opens kind sign a b → length b < length a
opens_shorter (plain is none) = omega arith
opens_shorter (trimming is) = omega arith

opens_front : {kind : Kind} {sign : Bool} {a b : List ℕ} → Opens kind sign a b → front a ≡ Some 123
opens_front (plain is none) = refl
opens_front (trimming is) = refl

pub same_front : {kind kind' : Kind} {sign sign' : Bool} {a a' b b' : List ℕ} → Opens kind sign a b → Opens kind' sign' a' b' → (front a' ≡ front a) ⊎ (front a' ≡ Some 32)
same_front h k = inl (opens_front k ∙ sym (opens_front h))
