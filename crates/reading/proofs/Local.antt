-- What is read and each fault depend on nothing after them.
use Rattle.std.proofs.Common.{◌≡◌, ℕ, zero, suc, Bool, true, false, cond, List, [], ◌∷◌, ◌++◌, length, drop, Option, Some, None, Ok, Err, refl, sym, ap, subst, ◌∙◌, append_assoc, length-append, inl, inr, ◌+◌, ◌<◌, ◌≤◌, arith}
use Rattle.std.specs.Prelude.{codes, ◌==◌}
use Rattle.reading.specs.declared.fault.Bad.{Bad}
use Rattle.reading.specs.Answer.{◌>>=◌, Answer, Rule, made, stop, front}
use Rattle.reading.specs.Bytes.{is_blank, sees, skip, expect}
use Rattle.reading.specs.Rows.{after_item, row, closed_by}
use Rattle.reading.specs.Faults.{ReadsAlike, FailsAlike, IsAlike}
use Rattle.reading.proofs.Basics.{chosen_is, done, IsShorter}
use Rattle.reading.proofs.Bytes.{nothing_at, token_at, length-skip, expect_longer}

pub same_front : {T : Type 0} (before a b : List T) → front b ≡ front a → front (before ++ b) ≡ front (before ++ a)
same_front [] a b e = e
same_front (x ∷ before) a b e = refl

pub split_same : {T : Type 0} (a b x y : List T) → a ++ x ≡ b ++ y → length x ≡ length y → (a ≡ b) × (x ≡ y)
split_same [] [] x y e h = (refl, e)
split_same [] (c ∷ b) x y e h = absurd (omega (arith, ap length e, length-append b y))
split_same (c ∷ a) [] x y e h = absurd (omega (arith, ap length e, length-append a x))
split_same (c ∷ a) (d ∷ b) x y e h =
    let heads : c ≡ d = cc in
    let tails : a ++ x ≡ b ++ y = cc in
    let k = split_same a b x y tails h in
    (cc, k.1)

-- `Like` says what a fault depends on; whatever it is, it includes the next token.
module _ {T C : Type 0} (Like : C → List T → List T → Type 0) (like_front : (c : C) (a b : List T) → Like c a b → front b ≡ front a) where
  unfoldable pub Local : {A : Type 0} → Rule T (Bad C) A → Type 0
  Local {A} rule = (text : List T) → IsAlike Like rule text (rule text)

  module _ {A B : Type 0} (p : Rule T (Bad C) A) (q : A → Rule T (Bad C) B) where
    abbrev both : Rule T (Bad C) B
    both t = p t >>= λ x. q x.0 x.1

    second : (t : List T) (x : A) (rest : List T) → ReadsAlike p t x rest → (b : Answer T (Bad C) B) → IsAlike Like (q x) rest b → IsAlike Like both t b
    second t x rest l (Ok y) m = record {
      before = l.before ++ m.before;
      parts = l.parts ∙ ap (λ (r : List T). l.before ++ r) m.parts ∙ sym (append_assoc l.before m.before y.1);
      again = λ other h.
          let f : front (m.before ++ other) ≡ front rest = same_front m.before y.1 other h ∙ sym (ap front m.parts) in
          ap both (append_assoc l.before m.before other) ∙ rw (l.again (m.before ++ other) f) (m.again other h);
    }
    second t x rest l (Err e) m = record {
      before = l.before ++ m.before;
      rest = m.rest;
      parts = l.parts ∙ ap (λ (r : List T). l.before ++ r) m.parts ∙ sym (append_assoc l.before m.before m.rest);
      left = m.left;
      again = λ other h.
          let f : front (m.before ++ other) ≡ front rest = same_front m.before m.rest other (like_front e.code m.rest other h) ∙ sym (ap front m.parts) in
          ap both (append_assoc l.before m.before other) ∙ rw (l.again (m.before ++ other) f) (m.again other h);
    }

    first : (t : List T) → ((x : A) → Local (q x)) → (a : Answer T (Bad C) A) → IsAlike Like p t a → IsAlike Like both t (a >>= λ x. q x.0 x.1)
    unfolding Local
    first t lq (Ok x) l = second t x.0 x.1 l (q x.0 x.1) (lq x.0 x.1)
    first t lq (Err e) l = record { before = l.before; rest = l.rest; parts = l.parts; left = l.left; again = λ other h. rw (l.again other h) refl }

    pub bind_local : Local p → ((x : A) → Local (q x)) → Local both
    unfolding Local
    bind_local lp lq t = first t lq (p t) (lp t)

  pub ok_local : {A : Type 0} (x : A) → Local (λ t. Ok (x, t))
  unfolding Local
  ok_local x t = record { before = []; parts = refl; again = λ other h. refl }

  -- a fault that depends on the next token alone
  pub stop_local : (A : Type 0) (code : C) → Local {A = A} (stop code)
  unfolding Local
  stop_local A code t = record { before = []; rest = t; parts = refl; left = refl; again = λ other h. refl }

  drop_nil : (other : List T) → front other ≡ None → drop 1 other ≡ other
  drop_nil [] h = refl
  drop_nil (b ∷ other) h = absurd cc

  -- a token fewer
  pub drop_local : {A : Type 0} (x : A) → Local (λ t. Ok (x, drop 1 t))
  unfolding Local
  drop_local x [] = record { before = []; parts = refl; again = λ other h. ap (λ (r : List T). done (x, r)) (drop_nil other h) }
  drop_local x (b ∷ t) = record { before = b ∷ []; parts = refl; again = λ other h. refl }

  -- a rule behind the first token
  pub tail_local : {A : Type 0} (p : Rule T (Bad C) A) → Local p → Local (λ t. p (drop 1 t))
  tail_local p l = bind_local {A = ℕ} (λ t. Ok (0, drop 1 t)) (λ _. p) (drop_local 0) (λ _. l)

  pub made_local : {A B : Type 0} (f : A → B) (p : Rule T (Bad C) A) → Local p → Local (λ t. made f (p t))
  made_local f p l = bind_local p (λ x t. Ok (f x, t)) l (λ x. ok_local (f x))

  pub chosen_local : {A : Type 0} (p q : Rule T (Bad C) A) → Local p → Local q → (c : Bool) → Local (λ t. cond c (p t) (q t))
  chosen_local p q lp lq true = lp
  chosen_local p q lp lq false = lq

  -- a rule that looks at the next token first
  module _ {A : Type 0} (g : Option T → Rule T (Bad C) A) where
    looked : (t : List T) (o : Option T) → front t ≡ o → (a : Answer T (Bad C) A) → IsAlike Like (g o) t a → IsAlike Like (λ t. g (front t) t) t a
    looked t o e (Ok x) l = record {
      before = l.before;
      parts = l.parts;
      again = λ other h. rw (same_front l.before x.1 other h ∙ sym (ap front l.parts) ∙ e) (l.again other h);
    }
    looked t o e (Err f) l = record {
      before = l.before;
      rest = l.rest;
      parts = l.parts;
      left = l.left;
      again = λ other h. rw (same_front l.before l.rest other (like_front f.code l.rest other h) ∙ sym (ap front l.parts) ∙ e) (l.again other h);
    }

    pub look_local : ((o : Option T) → Local (g o)) → Local (λ t. g (front t) t)
    unfolding Local
    look_local lg t = looked t (front t) refl (g (front t) t) (lg (front t) t)

  -- ---- token by token: a recursive rule q at the token b and the rest t

  -- it takes the token, and then goes on as another rule does
  pub further : {A : Type 0} (p q : Rule T (Bad C) A) (b : T) (t : List T) → ((u : List T) → q (b ∷ u) ≡ p u) → (a : Answer T (Bad C) A) → IsAlike Like p t a → IsAlike Like q (b ∷ t) a
  further p q b t same (Ok x) l = record { before = b ∷ l.before; parts = ap (λ (r : List T). b ∷ r) l.parts; again = λ other k. same (l.before ++ other) ∙ l.again other k }
  further p q b t same (Err f) l = record { before = b ∷ l.before; rest = l.rest; parts = ap (λ (r : List T). b ∷ r) l.parts; left = l.left; again = λ other k. same (l.before ++ other) ∙ l.again other k }

  -- it takes the token, and is done
  pub taken : {A : Type 0} (q : Rule T (Bad C) A) (b : T) (t : List T) (x : A) → ((u : List T) → q (b ∷ u) ≡ Ok (x, u)) → IsAlike Like q (b ∷ t) (Ok (x, t))
  taken q b t x same = record { before = b ∷ []; parts = refl; again = λ other k. same other }

  -- it leaves the token, and is done
  pub left_there : {A : Type 0} (q : Rule T (Bad C) A) (b : T) (t : List T) (x : A) → ((u : List T) → q (b ∷ u) ≡ Ok (x, b ∷ u)) → IsAlike Like q (b ∷ t) (Ok (x, b ∷ t))
  left_there q b t x same = record { before = []; parts = refl; again = λ other k. subst (λ (r : List T). q r ≡ Ok (x, r)) (sym (token_at b other k)) (same (drop 1 other)) }

  -- it stops at the token
  pub stopped : {A : Type 0} (q : Rule T (Bad C) A) (b : T) (t : List T) (code : C) → ((u : List T) → q (b ∷ u) ≡ stop code (b ∷ u)) → IsAlike Like q (b ∷ t) (stop code (b ∷ t))
  stopped q b t code same =
      record { before = []; rest = b ∷ t; parts = refl; left = refl; again = λ other k. subst (λ (r : List T). q r ≡ Err (record { left = length r; code = code })) (sym (token_at b other (like_front code (b ∷ t) other k))) (same (drop 1 other)) }

  -- it stops at the end, or is done there
  pub stopped_at_end : {A : Type 0} (q : Rule T (Bad C) A) (code : C) → q [] ≡ stop code [] → IsAlike Like q [] (stop code [])
  stopped_at_end q code same =
      record { before = []; rest = []; parts = refl; left = refl; again = λ other k. subst (λ (r : List T). q r ≡ Err (record { left = length r; code = code })) (sym (nothing_at other (like_front code [] other k))) same }

  pub done_at_end : {A : Type 0} (q : Rule T (Bad C) A) (x : A) → q [] ≡ Ok (x, []) → IsAlike Like q [] (Ok (x, []))
  done_at_end q x same = record { before = []; parts = refl; again = λ other k. subst (λ (r : List T). q r ≡ Ok (x, r)) (sym (nothing_at other k)) same }

-- ---- bytes

module _ {C : Type 0} (Like : C → List ℕ → List ℕ → Type 0) (like_front : (c : C) (a b : List ℕ) → Like c a b → front b ≡ front a) where
  abbrev Here : {A : Type 0} → Rule ℕ (Bad C) A → Type 0
  Here = Local Like like_front

  seen : ℕ → Option ℕ → Bool
  seen b None = false
  seen b (Some first) = first == b

  seen-sees : (b : ℕ) (t : List ℕ) → seen b (front t) ≡ sees b t
  unfolding seen
  seen-sees b [] = refl
  seen-sees b (first ∷ t) = refl

  -- a test of the next byte
  pub sees_local : {A : Type 0} (b : ℕ) (p q : Rule ℕ (Bad C) A) → Here p → Here q → Here (λ t. cond (sees b t) (p t) (q t))
  unfolding Local
  sees_local {A} b p q lp lq t =
      let by_front : Here (λ t. cond (seen b (front t)) (p t) (q t)) = look_local Like like_front (λ o t. cond (seen b o) (p t) (q t)) (λ o. chosen_local Like like_front p q lp lq (seen b o)) in
      let same : (λ (t : List ℕ). cond (seen b (front t)) (p t) (q t)) ≡ (λ (t : List ℕ). cond (sees b t) (p t) (q t)) = λ i t. cond (seen-sees b t i) (p t) (q t) in
      subst (λ (r : Rule ℕ (Bad C) A). Here r) same by_front t

  blanks : Rule ℕ (Bad C) (Unit {0})
  blanks t = Ok (tt, skip t)

  blanks_local : Here blanks
  unfolding Local blanks skip
  blanks_local [] = record { before = []; parts = refl; again = λ other h. rw (nothing_at other h) refl }
  blanks_local (b ∷ t) =
      elim (chosen_is (is_blank b)) [
        | inl h ↦
            let l = blanks_local t in
            rw h (record { before = b ∷ l.before; parts = ap (λ (r : List ℕ). b ∷ r) l.parts; again = λ other k. rw h (l.again other k) })
        | inr h ↦ rw h (record { before = []; parts = refl; again = λ other k. subst (λ (r : List ℕ). blanks r ≡ Ok (tt, r)) (sym (token_at b other k)) (rw h refl) })
      ]

  pub skip_local : {A : Type 0} (p : Rule ℕ (Bad C) A) → Here p → Here (λ t. p (skip t))
  unfolding blanks
  skip_local p l = bind_local Like like_front blanks (λ _. p) blanks_local (λ _. l)

  pub expect_local : (code : C) (ws : List ℕ) → Here (expect code ws)
  unfolding Local expect
  expect_local code [] t = ok_local Like like_front tt t
  expect_local code (w ∷ ws) [] = stopped_at_end Like like_front (expect code (w ∷ ws)) code refl
  expect_local code (w ∷ ws) (b ∷ t) =
      elim (chosen_is (b == w)) [
        | inl h ↦ rw h (further Like like_front (expect code ws) (expect code (w ∷ ws)) b t (λ u. rw h refl) (expect code ws t) (expect_local code ws t))
        | inr h ↦ rw h (stopped Like like_front (expect code (w ∷ ws)) b t code (λ u. rw h refl))
      ]

  -- ---- lists in brackets

  module _ {A : Type 0} (code : C) (end : ℕ) (item : List A → Rule ℕ (Bad C) A) (items_local : (found : List A) → Here (item found)) (shorter : (found : List A) → IsShorter (item found)) where
    row_local : (n : ℕ) (found : List A) → Here (row code end item n found)
    unfolding row
    row_local zero found = stop_local Like like_front (List A) code
    row_local (suc n) found = bind_local Like like_front (item found) (λ x. after_item code end (found ++ x ∷ []) (row code end item n (found ++ x ∷ []))) (items_local found)
        (λ x.
        let all : List A = found ++ x ∷ [] in
        skip_local (λ u. cond (sees end u) (Ok (all, drop 1 u)) (expect code (codes ",") u >>= λ comma. row code end item n all (skip comma.1)))
        (sees_local end (λ u. Ok (all, drop 1 u)) (λ u. expect code (codes ",") u >>= λ comma. row code end item n all (skip comma.1)) (drop_local Like like_front all)
        (bind_local Like like_front (expect code (codes ",")) (λ _ u. row code end item n all (skip u)) (expect_local code (codes ",")) (λ _. skip_local (row code end item n all) (row_local n all)))))

    after_turns : (n m : ℕ) (all : List A) (u : List ℕ) → ((w : List ℕ) → length w ≤ length u → row code end item n all w ≡ row code end item m all w)
        → after_item code end all (row code end item n all) u ≡ after_item code end all (row code end item m all) u
    after_turns n m all u same =
        ap (cond (sees end (skip u)) (Ok (all, drop 1 (skip u)))) (go (expect code (codes ",") (skip u)) (λ w e. same (skip w.1) (omega (arith, length-skip w.1, expect_longer code (codes ",") (skip u) w e, length-skip u)))) where
          go : (a : Answer ℕ (Bad C) (Unit {0})) → ((w : Unit {0} × List ℕ) → a ≡ Ok w → row code end item n all (skip w.1) ≡ row code end item m all (skip w.1))
              → (a >>= λ comma. row code end item n all (skip comma.1)) ≡ (a >>= λ comma. row code end item m all (skip comma.1))
          go (Ok w) h = h w refl
          go (Err f) h = refl

    one_turn : (n m : ℕ) (found : List A) (t : List ℕ) (a : Answer ℕ (Bad C) A) → item found t ≡ a
        → ((x : A) (rest : List ℕ) → item found t ≡ Ok (x, rest) → (w : List ℕ) → length w ≤ length rest → row code end item n (found ++ x ∷ []) w ≡ row code end item m (found ++ x ∷ []) w)
        → (a >>= λ x. after_item code end (found ++ x.0 ∷ []) (row code end item n (found ++ x.0 ∷ [])) x.1) ≡ (a >>= λ x. after_item code end (found ++ x.0 ∷ []) (row code end item m (found ++ x.0 ∷ [])) x.1)
    one_turn n m found t (Err f) e same = refl
    one_turn n m found t (Ok x) e same = after_turns n m (found ++ x.0 ∷ []) x.1 (same x.0 x.1 e)

    -- turns that are enough are as good as others
    pub row_turns : (n m : ℕ) (found : List A) (t : List ℕ) → length t < n → length t < m → row code end item n found t ≡ row code end item m found t
    unfolding row
    row_turns zero m found t h k = absurd (omega arith)
    row_turns (suc n) zero found t h k = absurd (omega arith)
    row_turns (suc n) (suc m) found t h k =
        one_turn n m found t (item found t) refl (λ x rest e w le. row_turns n m (found ++ x ∷ []) w (let less = shorter found t x rest e in omega arith) (let less = shorter found t x rest e in omega arith))

    rows : Rule ℕ (Bad C) (List A)
    rows u = row code end item (suc (length u)) [] u

    joined : (a b c d : Answer ℕ (Bad C) (List A)) → a ≡ b → b ≡ c → c ≡ d → a ≡ d
    joined a b c d e f g = e ∙ f ∙ g

    rows_alike : (u : List ℕ) (a : Answer ℕ (Bad C) (List A)) → rows u ≡ a → IsAlike Like rows u a
    unfolding rows Local
    rows_alike u (Ok x) e =
        let at : (n : ℕ) → length u < n → ReadsAlike (row code end item n []) u x.0 x.1 = λ n h.
        subst (λ (a : Answer ℕ (Bad C) (List A)). IsAlike Like (row code end item n []) u a) (row_turns n (suc (length u)) [] u h (omega arith) ∙ e) (row_local n [] u) in
        let l = at (suc (length u)) (omega arith) in
        record {
          before = l.before;
          parts = l.parts;
          again = λ other h.
              let w : List ℕ = l.before ++ other in
              let n : ℕ = suc (length w + length u) in
              let r = at n (omega arith) in
              let same = split_same r.before l.before x.1 x.1 (sym r.parts ∙ l.parts) refl in
              joined (rows w) (row code end item n [] w) (row code end item n [] (r.before ++ other)) (Ok (x.0, other)) (row_turns (suc (length w)) n [] w (omega arith) (omega arith)) (ap (λ (b : List ℕ). row code end item n [] (b ++ other)) (sym same.0)) (r.again other h);
        }
    rows_alike u (Err f) e =
        let at : (n : ℕ) → length u < n → FailsAlike Like (row code end item n []) u f = λ n h.
        subst (λ (a : Answer ℕ (Bad C) (List A)). IsAlike Like (row code end item n []) u a) (row_turns n (suc (length u)) [] u h (omega arith) ∙ e) (row_local n [] u) in
        let l = at (suc (length u)) (omega arith) in
        record {
          before = l.before;
          rest = l.rest;
          parts = l.parts;
          left = l.left;
          again = λ other h.
              let w : List ℕ = l.before ++ other in
              let n : ℕ = suc (length w + length u) in
              let r = at n (omega arith) in
              let same = split_same r.before l.before r.rest l.rest (sym r.parts ∙ l.parts) (sym r.left ∙ l.left) in
              joined (rows w) (row code end item n [] w) (row code end item n [] (r.before ++ other)) (Err (record { left = length other; code = f.code })) (row_turns (suc (length w)) n [] w (omega arith) (omega arith))
              (ap (λ (b : List ℕ). row code end item n [] (b ++ other)) (sym same.0)) (r.again other (subst (λ (r : List ℕ). Like f.code r other) (sym same.1) h));
        }

    rows_local : Here rows
    unfolding Local
    rows_local u = rows_alike u (rows u) refl

    pub closed_local : Here (closed_by code end item)
    unfolding closed_by rows
    closed_local = skip_local (λ u. cond (sees end u) (Ok ([], drop 1 u)) (rows u)) (sees_local end (λ u. Ok ([], drop 1 u)) rows (drop_local Like like_front []) rows_local)
