-- What a rule did with a text: what it read holds of other texts that go on alike, and what stands before a fault can be completed.
use Rattle.std.proofs.Common.{◌≡◌, ℕ, List, [], ◌∷◌, ◌++◌, length, Ok, Err, refl, sym, ap, ◌∙◌, subst, append_assoc}
use Rattle.std.specs.Prelude.{codes}
use Rattle.reading.specs.Answer.{◌>>=◌, Answer, made}
use Rattle.tpl_parse.specs.declared.token.Token.{Token}
use Rattle.tpl_parse.specs.Token.{spaces, text_of}
use Rattle.tpl_parse.proofs.Next.{Fault, Alike}
use Rattle.tpl_laws.proofs.Likes.{Like, like_behind}

abbrev pub Gave : Type 0 → Type 0
Gave A = Answer ℕ Fault A

-- nothing may go on
abbrev pub Still : {A : Type 0} → A → Token → Type 0
Still x token = ⊥

-- what stands behind a token of an expression and a blank, so that the expression is whole
abbrev pub tail_of : Token → List ℕ
tail_of Token.Is = codes "none"
tail_of Token.Not = 105 ∷ 110 ∷ 32 ∷ 39 ∷ 39 ∷ []
tail_of _ = 39 ∷ 39 ∷ []

-- What was read, and what may stand behind it: the same value where the text goes on alike, another one where a token follows that
-- makes it longer.
pub record Grown {A : Type 0} (E : A → Token → Type 0) (P : List ℕ → A → List ℕ → Type 0) (u : List ℕ) (x : A) (left : List ℕ) : Type 0 where
  pub before : List ℕ
  pub rest : List ℕ
  pub parts : u ≡ before ++ rest
  pub alike : Alike rest left
  pub again : (o : List ℕ) → Like rest o → P (before ++ o) x o
  pub goes : (token : Token) → E x token → (o q : List ℕ) → Like rest o → spaces o ≡ text_of token ++ 32 ∷ (tail_of token ++ 32 ∷ q)
      → (y : A) × P (before ++ o) y (32 ∷ q)

-- what stands before the fault can be completed
pub record Open {A : Type 0} (P : List ℕ → A → List ℕ → Type 0) (u : List ℕ) (f : Fault) : Type 0 where
  pub before : List ℕ
  pub rest : List ℕ
  pub parts : u ≡ before ++ rest
  pub left : f.left ≡ length rest
  pub more : List ℕ
  pub like : (q : List ℕ) → Like u (before ++ (more ++ 32 ∷ q))
  pub spelled : (q : List ℕ) → (x : A) × P (before ++ (more ++ 32 ∷ q)) x (32 ∷ q)

abbrev pub Out : {A : Type 0} → (A → Token → Type 0) → (List ℕ → A → List ℕ → Type 0) → List ℕ → Gave A → Type 0
Out E P u (Ok x) = Grown E P u x.0 x.1
Out E P u (Err f) = Open P u f

pub like_put : (b : List ℕ) {u rest o : List ℕ} → u ≡ b ++ rest → Like rest o → Like u (b ++ o)
like_put b {o = o} e l = subst (λ (v : List ℕ). Like v (b ++ o)) (sym e) (like_behind b l)

module _ {A B : Type 0} (E : A → Token → Type 0) (P : List ℕ → A → List ℕ → Type 0) (F : B → Token → Type 0) (Q : List ℕ → B → List ℕ → Type 0) (u : List ℕ) where
  pub out_bind : (q : A × List ℕ → Gave B) (r : Gave A) → ((x : A) (left : List ℕ) → r ≡ Ok (x, left) → Grown E P u x left → Out F Q u (q (x, left)))
      → ((f : Fault) → Open P u f → Open Q u f) → Out E P u r → Out F Q u (r >>= q)
  out_bind q (Ok x) on fails o = on x.0 x.1 refl o
  out_bind q (Err f) on fails o = fails f o

  -- where the second part stands behind another text
  pub out_after : (v : List ℕ) (q : A × List ℕ → Gave B) (r : Gave A) → ((x : A) (left : List ℕ) → r ≡ Ok (x, left) → Grown E P v x left → Out F Q u (q (x, left)))
      → ((f : Fault) → Open P v f → Open Q u f) → Out E P v r → Out F Q u (r >>= q)
  out_after v q (Ok x) on fails o = on x.0 x.1 refl o
  out_after v q (Err f) on fails o = fails f o

  -- with more text behind it
  pub open_then : (e : List ℕ) → ((o q : List ℕ) (x : A) → P o x (32 ∷ (e ++ 32 ∷ q)) → (y : B) × Q o y (32 ∷ q)) → (f : Fault) → Open P u f → Open Q u f
  open_then e put f h =
      let same : (q : List ℕ) → h.before ++ (h.more ++ 32 ∷ (e ++ 32 ∷ q)) ≡ h.before ++ ((h.more ++ 32 ∷ e) ++ 32 ∷ q) = λ q. ap (λ (v : List ℕ). h.before ++ v) (sym (append_assoc h.more (32 ∷ e) (32 ∷ q))) in
      record {
        before = h.before;
        rest = h.rest;
        parts = h.parts;
        left = h.left;
        more = h.more ++ 32 ∷ e;
        like = λ q. subst (λ (v : List ℕ). Like u v) (same q) (h.like (e ++ 32 ∷ q));
        spelled = λ q.
            let s = h.spelled (e ++ 32 ∷ q) in
            subst (λ (v : List ℕ). (y : B) × Q v y (32 ∷ q)) (same q) (put (h.before ++ (h.more ++ 32 ∷ (e ++ 32 ∷ q))) q s.0 s.1);
      }

  pub open_as : ((o q : List ℕ) (x : A) → P o x (32 ∷ q) → (y : B) × Q o y (32 ∷ q)) → (f : Fault) → Open P u f → Open Q u f
  open_as put f h = record {
    before = h.before;
    rest = h.rest;
    parts = h.parts;
    left = h.left;
    more = h.more;
    like = h.like;
    spelled = λ q. let s = h.spelled q in put (h.before ++ (h.more ++ 32 ∷ q)) q s.0 s.1;
  }

  -- behind what stands before
  module _ (b rest : List ℕ) (parts : u ≡ b ++ rest) where
    pub open_put : ((o q : List ℕ) (x : A) → Like rest o → P o x (32 ∷ q) → (y : B) × Q (b ++ o) y (32 ∷ q)) → (f : Fault) → Open P rest f → Open Q u f
    open_put put f h =
        let same : (v : List ℕ) → b ++ (h.before ++ v) ≡ (b ++ h.before) ++ v = λ v. sym (append_assoc b h.before v) in
        record {
          before = b ++ h.before;
          rest = h.rest;
          parts = parts ∙ ap (λ (v : List ℕ). b ++ v) h.parts ∙ same h.rest;
          left = h.left;
          more = h.more;
          like = λ q. subst (λ (v : List ℕ). Like u v) (same (h.more ++ 32 ∷ q)) (like_put b parts (h.like q));
          spelled = λ q.
              let s = h.spelled q in
              subst (λ (v : List ℕ). (y : B) × Q v y (32 ∷ q)) (same (h.more ++ 32 ∷ q)) (put (h.before ++ (h.more ++ 32 ∷ q)) q s.0 (h.like q) s.1);
        }

    module _ (m : A → B) (put : (o r : List ℕ) (x : A) → Like rest o → P o x r → Q (b ++ o) (m x) r) (sets : (x : A) (token : Token) → F (m x) token → E x token) where
      pub grown_put : (x : A) (left : List ℕ) → Grown E P rest x left → Grown F Q u (m x) left
      grown_put x left g =
          let same : (v : List ℕ) → b ++ (g.before ++ v) ≡ (b ++ g.before) ++ v = λ v. sym (append_assoc b g.before v) in
          record {
            before = b ++ g.before;
            rest = g.rest;
            parts = parts ∙ ap (λ (v : List ℕ). b ++ v) g.parts ∙ same g.rest;
            alike = g.alike;
            again = λ o l. subst (λ (v : List ℕ). Q v (m x) o) (same o) (put (g.before ++ o) o x (like_put g.before g.parts l) (g.again o l));
            goes = λ token k o q l at.
                let s = g.goes token (sets x token k) o q l at in
                (m s.0, subst (λ (v : List ℕ). Q v (m s.0) (32 ∷ q)) (same o) (put (g.before ++ o) (32 ∷ q) s.0 (like_put g.before g.parts l) s.1));
          }

      pub out_made : (r : Gave A) → Out E P rest r → Out F Q u (made m r)
      out_made (Ok x) g = grown_put x.0 x.1 g
      out_made (Err f) h = open_put (λ o q x l is. (m x, put o (32 ∷ q) x l is)) f h

-- the same value behind what stands before
module _ {A : Type 0} (E : A → Token → Type 0) (P : List ℕ → A → List ℕ → Type 0) (F : A → Token → Type 0) (Q : List ℕ → A → List ℕ → Type 0) (u : List ℕ) (b rest : List ℕ) (parts : u ≡ b ++ rest) where
  pub out_put : ((o r : List ℕ) (x : A) → Like rest o → P o x r → Q (b ++ o) x r) → ((x : A) (token : Token) → F x token → E x token) → (r : Gave A) → Out E P rest r → Out F Q u r
  out_put put sets (Ok x) g = grown_put E P F Q u b rest parts (λ x. x) put sets x.0 x.1 g
  out_put put sets (Err f) h = open_put E P F Q u b rest parts (λ o q x l is. (x, put o (32 ∷ q) x l is)) f h
