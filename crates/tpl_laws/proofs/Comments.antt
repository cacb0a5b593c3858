-- Comments: one that was ended stays so, and what stands before a fault in one can be ended.
use Rattle.std.proofs.Common.{◌≡◌, ℕ, zero, suc, ◌≤◌, ◌<◌, Bool, true, false, ◌&&◌, inl, inr, List, [], ◌∷◌, ◌++◌, length, drop, Ok, Err, refl, sym, ap, ◌∙◌, subst, arith, append_assoc, length-append}
use Rattle.std.specs.Prelude.{◌==◌, encode_utf8}
use Rattle.std.proofs.lemmas.Bool.{and_parts, eqb-true}
use Rattle.reading.specs.Answer.{◌>>=◌}
use Rattle.reading.specs.Bytes.{sees}
use Rattle.reading.proofs.Basics.{chosen_is}
use Rattle.reading.proofs.Solid.{Solid, IsSolid, Halted}
use Rattle.reading.proofs.Characters.{ascii_read, character_solid}
use Rattle.tpl_parse.specs.Literal.{character}
use Rattle.tpl_parse.specs.Pieces.{comment, comment_ends, comment_turns}
use Rattle.tpl_parse.specs.Grammar.{IsCharacter, IsComment, comment_end, trimming_end, comment_more}
use Rattle.tpl_parse.proofs.Next.{Fault}
use Rattle.tpl_parse.proofs.Characters.{character_found, character_some, character_shorter}
use Rattle.tpl_laws.proofs.Likes.{Like, like_blank, like_from}
use Rattle.tpl_laws.proofs.Outcomes.{Gave, like_put}
use Rattle.tpl_laws.proofs.Lexical.{char_again, char_parts, high_byte, high_not}
use Rattle.tpl_laws.proofs.Shuts.{Shut}

-- where no end of a comment stands in one text, none stands in the other
pub record Calm (t o : List ℕ) : Type 0 where
  pub brace : sees 125 t ≡ false → sees 125 o ≡ false
  pub end' : comment_ends t ≡ false → comment_ends o ≡ false

both_false : (x y z : Bool) → (y ≡ false → z ≡ false) → (x && y) ≡ false → (x && z) ≡ false
both_false true y z f h = f h
both_false false y z f h = refl

calm_one : (x : ℕ) {t o : List ℕ} → Calm t o → Calm (x ∷ t) (x ∷ o)
calm_one x {t} {o} c = record { brace = λ h. h; end' = both_false (x == 35) (sees 125 t) (sees 125 o) c.brace }

calm_behind : (w : List ℕ) {t o : List ℕ} → Calm t o → Calm (w ++ t) (w ++ o)
calm_behind [] c = c
calm_behind (x ∷ w) c = calm_one x (calm_behind w c)

calm_blank : (t o : List ℕ) → Calm t (32 ∷ o)
calm_blank t o = record { brace = λ h. refl; end' = λ h. refl }

calm_long : (w t o : List ℕ) → 2 ≤ length w → Calm (w ++ t) (w ++ o)
calm_long [] t o le = absurd (omega arith)
calm_long (x ∷ []) t o le = absurd (omega arith)
calm_long (x ∷ y ∷ w) t o le = record { brace = λ h. h; end' = λ h. h }

-- a character of a comment stays one
calm_tests : (c t o : List ℕ) → 0 < length c → Calm t o → comment_ends (c ++ t) ≡ false → (sees 45 (c ++ t) && comment_ends (drop 1 (c ++ t))) ≡ false
    → (comment_ends (c ++ o) ≡ false) × ((sees 45 (c ++ o) && comment_ends (drop 1 (c ++ o))) ≡ false)
calm_tests [] t o some l h k = absurd (omega arith)
calm_tests (x ∷ c) t o some l h k =
    let m = calm_behind c l in
    (both_false (x == 35) (sees 125 (c ++ t)) (sees 125 (c ++ o)) m.brace h, both_false (x == 45) (comment_ends (c ++ t)) (comment_ends (c ++ o)) m.end' k)

abbrev pub Comments : List ℕ → Bool → List ℕ → Type 0
Comments t trims rest = IsComment trims t rest

-- what was read of a comment, up to its end
pub record Ended (trims : Bool) (t rest : List ℕ) : Type 0 where
  pub before : List ℕ
  pub long : 2 ≤ length before
  pub parts : t ≡ before ++ rest
  pub again : (o : List ℕ) → IsComment trims (before ++ o) o

more_ended : (trims : Bool) (t c u rest : List ℕ) → comment_ends t ≡ false → (sees 45 t && comment_ends (drop 1 t)) ≡ false → IsCharacter t c u → Ended trims u rest → Ended trims t rest
more_ended trims t c u rest no_end no_sign is g =
    let whole : t ≡ c ++ (g.before ++ rest) = char_parts is ∙ ap (λ (v : List ℕ). c ++ v) g.parts in
    record {
      before = c ++ g.before;
      long = omega (arith, g.long, length-append c g.before);
      parts = whole ∙ sym (append_assoc c g.before rest);
      again = λ o.
          let k = calm_tests c (g.before ++ rest) (g.before ++ o) (character_some is) (calm_long g.before rest o g.long) (ap comment_ends (sym whole) ∙ no_end) (ap (λ (v : List ℕ). sees 45 v && comment_ends (drop 1 v)) (sym whole) ∙ no_sign) in
          subst (λ (v : List ℕ). IsComment trims v o) (sym (append_assoc c g.before o)) (comment_more k.0 k.1 (char_again is (g.before ++ o)) (g.again o));
    }

-- what stands before a fault in a comment can be ended
pub record Begun (t : List ℕ) (f : Fault) : Type 0 where
  pub before : List ℕ
  pub rest : List ℕ
  pub more : List ℕ
  pub parts : t ≡ before ++ rest
  pub left : f.left ≡ length rest
  pub like : (q : List ℕ) → Like t (before ++ (more ++ 32 ∷ q))
  pub calm : (q : List ℕ) → Calm t (before ++ (more ++ 32 ∷ q))
  pub is : (q : List ℕ) → IsComment false (before ++ (more ++ 32 ∷ q)) (32 ∷ q)

abbrev pub CommentOut : List ℕ → Gave Bool → Type 0
CommentOut t (Ok x) = Ended x.0 t x.1
CommentOut t (Err f) = Begun t f

more_begun : (t c u : List ℕ) (f : Fault) → comment_ends t ≡ false → (sees 45 t && comment_ends (drop 1 t)) ≡ false → IsCharacter t c u → Begun u f → Begun t f
more_begun t c u f no_end no_sign is g =
    let whole : t ≡ c ++ u = char_parts is in
    let same : (q : List ℕ) → c ++ (g.before ++ (g.more ++ 32 ∷ q)) ≡ (c ++ g.before) ++ (g.more ++ 32 ∷ q) = λ q. sym (append_assoc c g.before (g.more ++ 32 ∷ q)) in
    record {
      before = c ++ g.before;
      rest = g.rest;
      more = g.more;
      parts = whole ∙ ap (λ (v : List ℕ). c ++ v) g.parts ∙ sym (append_assoc c g.before g.rest);
      left = g.left;
      like = λ q. subst (λ (v : List ℕ). Like t v) (same q) (like_put c whole (g.like q));
      calm = λ q. subst (λ (v : List ℕ). Calm v ((c ++ g.before) ++ (g.more ++ 32 ∷ q))) (sym whole) (subst (λ (v : List ℕ). Calm (c ++ u) v) (same q) (calm_behind c (g.calm q)));
      is = λ q.
          let o : List ℕ = g.before ++ (g.more ++ 32 ∷ q) in
          let k = calm_tests c u o (character_some is) (g.calm q) (ap comment_ends (sym whole) ∙ no_end) (ap (λ (v : List ℕ). sees 45 v && comment_ends (drop 1 v)) (sym whole) ∙ no_sign) in
          subst (λ (v : List ℕ). IsComment false v (32 ∷ q)) (same q) (comment_more k.0 k.1 (char_again is o) (g.is q));
    }

more_out : (t c u : List ℕ) → comment_ends t ≡ false → (sees 45 t && comment_ends (drop 1 t)) ≡ false → IsCharacter t c u → (r : Gave Bool) → CommentOut u r → CommentOut t r
more_out t c u no_end no_sign is (Ok x) g = more_ended x.0 t c u x.1 no_end no_sign is g
more_out t c u no_end no_sign is (Err f) g = more_begun t c u f no_end no_sign is g

blank_end : (q : List ℕ) → IsComment false (32 ∷ 35 ∷ 125 ∷ 32 ∷ q) (32 ∷ q)
blank_end q = comment_more refl refl (character_found (32 ∷ 35 ∷ 125 ∷ 32 ∷ q) 32 (35 ∷ 125 ∷ 32 ∷ q) (ascii_read tt 32 (35 ∷ 125 ∷ 32 ∷ q) (omega arith))) comment_end

-- a byte with which no character goes on
char_begun : (t before : List ℕ) (f : Fault) → character t ≡ Err f → (l : Halted tt character t f) → before ≡ l.before → Begun t f
char_begun t [] f e l is = record {
  before = [];
  rest = t;
  more = 32 ∷ 35 ∷ 125 ∷ [];
  parts = refl;
  left = l.left ∙ ap length (sym (l.parts ∙ ap (λ (v : List ℕ). v ++ l.rest) (sym is)));
  like = λ q. like_blank t (35 ∷ 125 ∷ 32 ∷ q);
  calm = λ q. calm_blank t (35 ∷ 125 ∷ 32 ∷ q);
  is = λ q. blank_end q;
}
char_begun t (b ∷ w) f e l is =
    let parts : t ≡ b ∷ (w ++ l.rest) = l.parts ∙ ap (λ (v : List ℕ). v ++ l.rest) (sym is) in
    let high = high_byte b (w ++ l.rest) f (ap character (sym parts) ∙ e) in
    let m : List ℕ = l.more ++ 32 ∷ 35 ∷ 125 ∷ [] in
    record {
      before = b ∷ w;
      rest = l.rest;
      more = m;
      parts = parts;
      left = l.left;
      like = λ q. subst (λ (v : List ℕ). Like v (b ∷ (w ++ (m ++ 32 ∷ q)))) (sym parts) (like_from b (w ++ l.rest) (w ++ (m ++ 32 ∷ q)) (high_not b 46 (omega arith) high));
      calm = λ q. subst (λ (v : List ℕ). Calm v (b ∷ (w ++ (m ++ 32 ∷ q)))) (sym parts) (record { brace = λ h. h; end' = λ h. rw (high_not b 35 (omega arith) high) refl });
      is = λ q.
          let o : List ℕ = 32 ∷ 35 ∷ 125 ∷ 32 ∷ q in
          let same : (b ∷ w) ++ (m ++ 32 ∷ q) ≡ l.before ++ (l.more ++ o) = ap (λ (v : List ℕ). (b ∷ w) ++ v) (append_assoc l.more (32 ∷ 35 ∷ 125 ∷ []) (32 ∷ q)) ∙ ap (λ (v : List ℕ). v ++ (l.more ++ o)) is in
          let c : IsCharacter ((b ∷ w) ++ (m ++ 32 ∷ q)) (encode_utf8 l.x) o = character_found ((b ∷ w) ++ (m ++ 32 ∷ q)) l.x o (ap character same ∙ l.goes_on o) in
          comment_more (rw (high_not b 35 (omega arith) high) refl) (rw (high_not b 45 (omega arith) high) refl) c (blank_end q);
    }

module _ (n : ℕ) (t : List ℕ) (no_end : comment_ends t ≡ false) (no_sign : (sees 45 t && comment_ends (drop 1 t)) ≡ false) (again : (u : List ℕ) → length u < length t → CommentOut u (comment_turns n u)) where
  comment_char : (r : Gave ℕ) → character t ≡ r → IsSolid tt character t r → CommentOut t (r >>= λ c. comment_turns n c.1)
  comment_char (Ok x) e l =
      let is : IsCharacter t (encode_utf8 x.0) x.1 = character_found t x.0 x.1 e in
      more_out t (encode_utf8 x.0) x.1 no_end no_sign is (comment_turns n x.1) (again x.1 (character_shorter is))
  comment_char (Err f) e l = char_begun t l.before f e l refl

ends_front : (t : List ℕ) → comment_ends t ≡ true → t ≡ 35 ∷ 125 ∷ drop 2 t
ends_front [] h = absurd cc
ends_front (b ∷ []) h = absurd (let p = and_parts (b == 35) false h in let q = p.1 in cc)
ends_front (b ∷ c ∷ t) h = let p = and_parts (b == 35) (c == 125) h in (λ i. eqb-true b 35 p.0 i ∷ eqb-true c 125 p.1 i ∷ t)

signed_front : (t : List ℕ) → (sees 45 t && comment_ends (drop 1 t)) ≡ true → t ≡ 45 ∷ 35 ∷ 125 ∷ drop 3 t
signed_front [] h = absurd cc
signed_front (b ∷ t) h = let p = and_parts (b == 45) (comment_ends t) h in (λ i. eqb-true b 45 p.0 i ∷ ends_front t p.1 i)

comment_turns_out : (n : ℕ) (t : List ℕ) → length t < n → CommentOut t (comment_turns n t)
unfolding comment_turns Solid
comment_turns_out zero t lt = absurd (omega arith)
comment_turns_out (suc n) t lt = elim (chosen_is (comment_ends t)) [
  | inl h ↦ rw h (record { before = 35 ∷ 125 ∷ []; long = omega arith; parts = ends_front t h; again = λ o. comment_end })
  | inr h ↦ rw h (elim (chosen_is (sees 45 t && comment_ends (drop 1 t))) [
    | inl k ↦ rw k (record { before = 45 ∷ 35 ∷ 125 ∷ []; long = omega arith; parts = signed_front t k; again = λ o. trimming_end })
    | inr k ↦ rw k (comment_char n t h k (λ u less. comment_turns_out n u (omega (arith, less, lt))) (character t) refl (character_solid tt t))
  ])
]

pub comment_out : (t : List ℕ) → CommentOut t (comment t)
unfolding comment
comment_out t = comment_turns_out (suc (length t)) t (omega arith)

-- the same in the form of other rules
pub comment_shut : (t : List ℕ) (r : Gave Bool) → CommentOut t r → Shut Comments t r
comment_shut t (Ok x) g = record { before = g.before; parts = g.parts; again = λ o l. g.again o }
comment_shut t (Err f) g = record { before = g.before; rest = g.rest; parts = g.parts; left = g.left; more = g.more; like = g.like; spelled = λ q. (false, g.is q) }
