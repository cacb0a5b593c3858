-- What a rule that ends with a sign of its own did: what it left is left exactly.
use Rattle.std.proofs.Common.{◌≡◌, ℕ, List, ◌∷◌, ◌++◌, Ok, Err, refl, sym, ap, ◌∙◌, subst, append_assoc}
use Rattle.reading.specs.Answer.{◌>>=◌, made}
use Rattle.tpl_parse.specs.declared.token.Token.{Token}
use Rattle.tpl_parse.proofs.Next.{Fault}
use Rattle.tpl_laws.proofs.Likes.{Like}
use Rattle.tpl_laws.proofs.Outcomes.{Gave, Still, Grown, Open, Out, like_put, open_put}

pub record Closed {A : Type 0} (P : List ℕ → A → List ℕ → Type 0) (u : List ℕ) (x : A) (left : List ℕ) : Type 0 where
  pub before : List ℕ
  pub parts : u ≡ before ++ left
  pub again : (o : List ℕ) → Like left o → P (before ++ o) x o

abbrev pub Shut : {A : Type 0} → (List ℕ → A → List ℕ → Type 0) → List ℕ → Gave A → Type 0
Shut P u (Ok x) = Closed P u x.0 x.1
Shut P u (Err f) = Open P u f

module _ {A B : Type 0} (E : A → Token → Type 0) (P : List ℕ → A → List ℕ → Type 0) (Q : List ℕ → B → List ℕ → Type 0) (u : List ℕ) where
  pub shut_bind : (q : A × List ℕ → Gave B) (r : Gave A) → ((x : A) (left : List ℕ) → r ≡ Ok (x, left) → Grown E P u x left → Shut Q u (q (x, left)))
      → ((f : Fault) → Open P u f → Open Q u f) → Out E P u r → Shut Q u (r >>= q)
  shut_bind q (Ok x) on fails o = on x.0 x.1 refl o
  shut_bind q (Err f) on fails o = fails f o

module _ {A B : Type 0} (P : List ℕ → A → List ℕ → Type 0) (Q : List ℕ → B → List ℕ → Type 0) (u b rest : List ℕ) (parts : u ≡ b ++ rest) where
  module _ (m : A → B) (put : (o r : List ℕ) (x : A) → Like rest o → P o x r → Q (b ++ o) (m x) r) where
    pub closed_put : (x : A) (left : List ℕ) → Closed P rest x left → Closed Q u (m x) left
    closed_put x left g = record {
      before = b ++ g.before;
      parts = parts ∙ ap (λ (v : List ℕ). b ++ v) g.parts ∙ sym (append_assoc b g.before left);
      again = λ o l. subst (λ (v : List ℕ). Q v (m x) o) (sym (append_assoc b g.before o)) (put (g.before ++ o) o x (like_put g.before g.parts l) (g.again o l));
    }

    pub shut_made : (r : Gave A) → Shut P rest r → Shut Q u (made m r)
    shut_made (Ok x) g = closed_put x.0 x.1 g
    shut_made (Err f) h = open_put Still P Still Q u b rest parts (λ o q x l is. (m x, put o (32 ∷ q) x l is)) f h

module _ {A : Type 0} (P : List ℕ → A → List ℕ → Type 0) (Q : List ℕ → A → List ℕ → Type 0) (u b rest : List ℕ) (parts : u ≡ b ++ rest) where
  pub shut_put : ((o r : List ℕ) (x : A) → Like rest o → P o x r → Q (b ++ o) x r) → (r : Gave A) → Shut P rest r → Shut Q u r
  shut_put put (Ok x) g = closed_put P Q u b rest parts (λ x. x) put x.0 x.1 g
  shut_put put (Err f) h = open_put Still P Still Q u b rest parts (λ o q x l is. (x, put o (32 ∷ q) x l is)) f h
