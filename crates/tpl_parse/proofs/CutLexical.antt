-- Characters, strings, words and numbers on two texts that begin alike.
use Rattle.std.proofs.Common.{◌≡◌, ℕ, zero, suc, ◌+◌, ◌-◌, ◌≤◌, ◌<◌, Bool, true, false, ◌⊎◌, inl, inr, List, [], ◌∷◌, ◌++◌, length, drop, Option, Some, None, Ok, Err, refl, sym, ap, ◌∙◌, subst, arith, length-append, append_assoc}
use Rattle.std.specs.Prelude.{◌==◌, encode_utf8, max}
use Rattle.std.specs.List.{find, fold}
use Rattle.std.specs.Str.{bytes_eq}
use Rattle.std.proofs.Math.ListN.{length-drop}
use Rattle.std.proofs.lemmas.Bool.{eqb-true, eq-eqb}
use Rattle.std.proofs.lemmas.Slice.Eq.{bytes_eq-Decides}
use Rattle.reading.specs.Answer.{front}
use Rattle.reading.proofs.Basics.{chosen_is}
use Rattle.reading.proofs.Solid.{Solid, IsSolid}
use Rattle.reading.proofs.Characters.{character_solid, ascii_read}
use Rattle.tpl_parse.specs.declared.token.Token.{Token}
use Rattle.tpl_parse.specs.declared.table.Filter.{Filter}
use Rattle.tpl_parse.specs.Token.{begins_name, in_name, is_reserved, common, next_is, want}
use Rattle.tpl_parse.specs.Names.{filter_row, filter_named, filters_reach, farther, may_stand, all_filters}
use Rattle.tpl_parse.specs.Literal.{before, character, plain_or, escape_at, string_character, string_turns, string, skip_word, word, name, name_at, unreserved, filter_name, filter_or, standing}
use Rattle.tpl_parse.proofs.Tokens.{spaces_twice}
use Rattle.tpl_parse.proofs.Next.{before_is}
use Rattle.tpl_parse.proofs.Shorter.{Read, Within, length-skip_word, string_turns_keeps, name_keeps, filter_name_keeps, want_keeps, later}
use Rattle.tpl_parse.proofs.Strings.{string_character_shorter}
use Rattle.tpl_parse.proofs.Ahead.{all_clear}
use Rattle.tpl_parse.proofs.Cut.{Nothing, beyond, Agree, same, fails, late, Local, Skips, agree_is, agree_bind, agree_plain, blank, shown, split, all_blank, nothing, partly, there, other, looks, past_late, reach_late}

-- ---- characters

-- two partings of one text
data Seam (xs ys c a : List ℕ) : Type 0 where
  inside : (d : List ℕ) → c ≡ xs ++ d → ys ≡ d ++ a → Seam xs ys c a
  outside : length ys ≤ length a → Seam xs ys c a

seam : (xs ys c a : List ℕ) → xs ++ ys ≡ c ++ a → Seam xs ys c a
seam [] ys c a e = inside c refl e
seam (x ∷ xs) ys [] a e = outside (omega (arith, ap length e, length-append xs ys))
seam (x ∷ xs) ys (y ∷ c) a e =
    let heads : x ≡ y = cc in
    let tails : xs ++ ys ≡ c ++ a = cc in
    elim (seam xs ys c a tails) [
      | inside d p q ↦ inside d (ap (λ (z : ℕ). z ∷ c) (sym heads) ∙ ap (λ (z : List ℕ). x ∷ z) p) q
      | outside l ↦ outside l
    ]

character_by : (c a b : List ℕ) (r : Read ℕ) → character (c ++ a) ≡ r → IsSolid tt character (c ++ a) r → Agree Nothing a b (character (c ++ a)) (character (c ++ b))
character_by c a b (Ok x) e l = elim (seam l.taken x.1 c a (sym l.parts)) [
  | inside d p q ↦ same x.0 d (e ∙ ap (λ (z : List ℕ). Ok (x.0, z)) q) (ap character (ap (λ (z : List ℕ). z ++ b) p ∙ append_assoc l.taken d b) ∙ l.again (d ++ b))
  | outside w ↦ late (beyond (rw e w))
]
character_by c a b (Err f) e l = elim (seam l.before l.rest c a (sym l.parts)) [
  | inside d p q ↦ by_rest d p q
  | outside w ↦ late (beyond (rw e (omega (arith, l.left))))
] where
  by_rest : (d : List ℕ) → c ≡ l.before ++ d → l.rest ≡ d ++ a → Agree Nothing a b (character (c ++ a)) (character (c ++ b))
  by_rest [] p q = late (beyond (rw e (omega (arith, l.left, ap length q))))
  by_rest (y ∷ d) p q = fails _ (ap character (ap (λ (z : List ℕ). z ++ b) p ∙ append_assoc l.before (y ∷ d) b) ∙ l.again ((y ∷ d) ++ b) (ap front (sym q)))

pub character_cut : Local Nothing character
unfolding Solid
character_cut c a b = character_by c a b (character (c ++ a)) refl (character_solid tt (c ++ a))

-- ---- strings

plain_cut : (o : Option ℕ) (c a b : List ℕ) → ((x : List ℕ) → length (drop 2 (c ++ x)) ≤ length x ⊎ ((d : List ℕ) × ((z : List ℕ) → drop 2 (c ++ z) ≡ d ++ z))) → Agree Nothing a b (plain_or o (c ++ a)) (plain_or o (c ++ b))
plain_cut (Some meant) c a b two = elim (two a) [
  | inl w ↦ late (beyond w)
  | inr w ↦ same (meant ∷ []) w.0 (ap (λ (z : List ℕ). Ok (meant ∷ [], z)) (w.1 a)) (ap (λ (z : List ℕ). Ok (meant ∷ [], z)) (w.1 b))
]
plain_cut None c a b two = agree_plain Nothing a b (λ x. encode_utf8 x) (character (c ++ a)) (character (c ++ b)) (character_cut c a b)

one_late : (o : Option ℕ) (e : ℕ) (a : List ℕ) → e ≡ 92 → Within (length a) (plain_or o (e ∷ a))
one_late (Some meant) e a h = omega (arith, length-drop {A = ℕ} 1 a)
one_late None e a h = let r : character (92 ∷ a) ≡ Ok (92, a) = ascii_read tt 92 a (omega arith) in rw h (rw r (omega arith))

escape_none : (e : ℕ) (x : List ℕ) → (e == 92) ≡ false → escape_at (e ∷ x) ≡ None
escape_none e x h = rw h refl

pub string_character_cut : (e : ℕ) (c a b : List ℕ) → Agree Nothing a b (string_character (e ∷ c ++ a)) (string_character (e ∷ c ++ b))
unfolding string_character
string_character_cut e [] a b = elim (chosen_is (e == 92)) [
  | inl h ↦ late (beyond (one_late (escape_at (e ∷ a)) e a (eqb-true e 92 h)))
  | inr h ↦ agree_is (ap (λ (o : Option ℕ). plain_or o (e ∷ a)) (escape_none e a h)) (ap (λ (o : Option ℕ). plain_or o (e ∷ b)) (escape_none e b h)) (agree_plain Nothing a b (λ x. encode_utf8 x) (character (e ∷ a)) (character (e ∷ b)) (character_cut (e ∷ []) a b))
]
string_character_cut e (f ∷ c) a b = plain_cut (escape_at (e ∷ f ∷ [])) (e ∷ f ∷ c) a b (λ x. inr (c, λ z. refl))

pub string_turns_cut : (n m quote : ℕ) (found c a b : List ℕ) → length (c ++ a) < n → Agree Nothing a b (string_turns n quote found (c ++ a)) (string_turns m quote found (c ++ b))
unfolding string_turns
string_turns_cut zero m quote found c a b lt = absurd (omega arith)
string_turns_cut (suc n) zero quote found c a b lt = fails _ refl
string_turns_cut (suc n) (suc m) quote found [] a b lt = late (beyond (later (string_turns (suc n) quote found) (string_turns_keeps (suc n) quote found) a (length a) (omega arith)))
string_turns_cut (suc n) (suc m) quote found (e ∷ c) a b lt = elim (chosen_is (e == quote)) [
  | inl h ↦ rw h (same found c refl refl)
  | inr h ↦ rw h (agree_bind Nothing Nothing a b (λ s. string_turns n quote (found ++ s.0) s.1) (λ s. string_turns m quote (found ++ s.0) s.1) (string_character (e ∷ c ++ a)) (string_character (e ∷ c ++ b))
      (λ x. string_turns_keeps n quote (found ++ x)) (λ x rest d at k. absurd k) (λ x d is. string_turns_cut n m quote (found ++ x) d a b (omega (arith, string_character_shorter (e ∷ c ++ a) x (d ++ a) is, lt))) (string_character_cut e c a b))
]

pub string_cut : (quote : ℕ) → Local Nothing (string quote)
unfolding string
string_cut quote c a b = string_turns_cut (suc (length (c ++ a))) (suc (length (c ++ b))) quote [] c a b (omega arith)

-- ---- words

pub data Runs (c : List ℕ) : Type 0 where
  ended : (w v : List ℕ) → c ≡ w ++ v → ((x : List ℕ) → skip_word (c ++ x) ≡ v ++ x) → Runs c
  runs : ((x : List ℕ) → skip_word (c ++ x) ≡ skip_word x) → Runs c

runs_more : (b : ℕ) (c : List ℕ) → in_name b ≡ true → Runs c → Runs (b ∷ c)
unfolding skip_word
runs_more b c h (ended w v p s) = ended (b ∷ w) v (ap (λ (z : List ℕ). b ∷ z) p) (λ x. rw h (s x))
runs_more b c h (runs s) = runs (λ x. rw h (s x))

pub runs_of : (c : List ℕ) → Runs c
unfolding skip_word
runs_of [] = runs (λ x. refl)
runs_of (b ∷ c) = elim (chosen_is (in_name b)) [ inl h ↦ runs_more b c h (runs_of c) | inr h ↦ ended [] (b ∷ c) refl (λ x. rw h refl) ]

pub word_is : (c w v x : List ℕ) → c ≡ w ++ v → skip_word (c ++ x) ≡ v ++ x → word (c ++ x) ≡ w
word_is c w v x p s = ap (λ (r : List ℕ). before (c ++ x) r) s ∙ before_is w (v ++ x) (ap (λ (z : List ℕ). z ++ x) p ∙ append_assoc w v x)

pub run_late : (c a : List ℕ) → skip_word (c ++ a) ≡ skip_word a → length (skip_word (c ++ a)) ≤ length a
run_late c a s = omega (arith, ap length s, length-skip_word a)

unreserved_cut : Local Nothing unreserved
unfolding unreserved
unreserved_cut c a b = elim (runs_of c) [
  | ended w v p s ↦
      let here = word_is c w v a p (s a) in
      let there' = word_is c w v b p (s b) in
      elim (chosen_is (is_reserved w)) [
        | inl h ↦ rw (here, there', h) (fails _ refl)
        | inr h ↦ rw (here, there', h) (same w v (ap (λ (z : List ℕ). Ok (w, z)) (s a)) (ap (λ (z : List ℕ). Ok (w, z)) (s b)))
      ]
  | runs s ↦ elim (chosen_is (is_reserved (word (c ++ a)))) [ inl h ↦ late (beyond (rw h (run_late c a (s a)))) | inr h ↦ late (beyond (rw h (run_late c a (s a)))) ]
]

pub name_skips : Skips name
unfolding name
name_skips t = rw (spaces_twice t) refl

pub name_cut : Local Nothing name
unfolding name
name_cut c a b = elim (split c) [
  | blank s ↦ late (beyond (all_blank name name_skips name_keeps c a (s a)))
  | shown e d s ↦ agree_is (ap name_at (s a)) (ap name_at (s b)) (elim (chosen_is (begins_name e)) [
    | inl h ↦ rw h (unreserved_cut (e ∷ d) a b)
    | inr h ↦ rw h (fails _ refl)
  ])
]

-- ---- names of filters

skipped : (t : List ℕ) → (w : List ℕ) × (t ≡ w ++ skip_word t)
unfolding skip_word
skipped [] = ([], refl)
skipped (b ∷ t) = elim (chosen_is (in_name b)) [
  | inl h ↦ (let p = skipped t in (b ∷ p.0, rw h (ap (λ (z : List ℕ). b ∷ z) p.1)))
  | inr h ↦ ([], rw h refl)
]

-- a word that was begun goes on
word_more : (c x : List ℕ) → skip_word (c ++ x) ≡ skip_word x → (w : List ℕ) × (word (c ++ x) ≡ c ++ w)
word_more c x s =
    let p = skipped x in
    (p.0, ap (λ (r : List ℕ). before (c ++ x) r) s ∙ before_is (c ++ p.0) (skip_word x) (ap (λ (z : List ℕ). c ++ z) p.1 ∙ sym (append_assoc c p.0 (skip_word x))))

common_front : (d w a : List ℕ) → length d ≤ common (d ++ w) (d ++ a)
unfolding common
common_front [] w a = omega arith
common_front (x ∷ d) w a = rw (eq-eqb x x refl) (omega (arith, common_front d w a))

farther_grows : (opens : Bool) (t : List ℕ) (n : ℕ) (f : Filter) → n ≤ farther opens t n f
farther_grows opens t n f = elim (chosen_is (may_stand opens f)) [ inl h ↦ rw h (omega arith) | inr h ↦ rw h (omega arith) ]

fold_farther : (opens : Bool) (t : List ℕ) (fs : List Filter) (n : ℕ) → n ≤ fold (farther opens t) n fs
fold_farther opens t [] n = omega arith
fold_farther opens t (f ∷ fs) n = omega (arith, farther_grows opens t n f, fold_farther opens t fs (farther opens t n f))

abbrev named : List ℕ → Filter → Bool
named w f = bytes_eq (filter_row f).name w

finds : (opens : Bool) (t w : List ℕ) (fs : List Filter) (f : Filter) (n : ℕ) → find (named w) fs ≡ Some f → may_stand opens f ≡ true → common w t ≤ fold (farther opens t) n fs
finds opens t w [] f n e m = absurd cc
finds opens t w (g ∷ fs) f n e m = elim (chosen_is (named w g)) [
  | inl h ↦
      let is : g ≡ f = (let k = rw h at e in cc) in
      let name_is : (filter_row g).name ≡ w = (bytes_eq-Decides (filter_row g).name w).0 h in
      let stands' : may_stand opens g ≡ true = ap (may_stand opens) is ∙ m in
      let far : common w t ≤ farther opens t n g = rw stands' (subst (λ (v : List ℕ). common v t ≤ max n (common (filter_row g).name t)) name_is (omega arith)) in
      omega (arith, far, fold_farther opens t fs (farther opens t n g))
  | inr h ↦ finds opens t w fs f (farther opens t n g) (rw h at e) m
]

filter_by : (opens : Bool) (c a b : List ℕ) → ((x : List ℕ) → skip_word (c ++ x) ≡ skip_word x) → (o : Option Filter) → filter_named (word (c ++ b)) ≡ o
    → Agree Nothing a b (filter_or opens (standing opens (filter_named (word (c ++ a)))) (c ++ a)) (filter_or opens (standing opens o) (c ++ b))
filter_by opens c a b s None e = fails _ refl
filter_by opens c a b s (Some f) e = elim (chosen_is (may_stand opens f)) [
  | inr h ↦ rw h (fails _ refl)
  | inl h ↦ late (beyond (by_first (standing opens (filter_named (word (c ++ a)))) h))
] where
  reached : may_stand opens f ≡ true → length c ≤ filters_reach opens (c ++ a)
  reached h =
      let w = word_more c b (s b) in
      let far : common (word (c ++ b)) (c ++ a) ≤ filters_reach opens (c ++ a) = finds opens (c ++ a) (word (c ++ b)) all_filters f 0 e h in
      let some : length c ≤ common (word (c ++ b)) (c ++ a) = rw w.1 (common_front c w.0 a) in
      omega (arith, far, some)

  by_first : (o : Option Filter) → may_stand opens f ≡ true → Within (length a) (filter_or opens o (c ++ a))
  by_first (Some g) h = run_late c a (s a)
  by_first None h = omega (arith, length-drop (filters_reach opens (c ++ a)) (c ++ a), length-append c a, reached h)

filter_ended : (opens : Bool) (w v t u a b : List ℕ) (o : Option Filter) → skip_word t ≡ v ++ a → skip_word u ≡ v ++ b → Agree Nothing a b (filter_or opens o t) (filter_or opens o u)
filter_ended opens w v t u a b (Some f) h k = same f v (ap (λ (z : List ℕ). Ok (f, z)) h) (ap (λ (z : List ℕ). Ok (f, z)) k)
filter_ended opens w v t u a b None h k = fails _ refl

filter_here : (opens : Bool) → Local Nothing (λ t. filter_or opens (standing opens (filter_named (word t))) t)
filter_here opens c a b = elim (runs_of c) [
  | ended w v p s ↦ rw (word_is c w v a p (s a), word_is c w v b p (s b)) (filter_ended opens w v (c ++ a) (c ++ b) a b (standing opens (filter_named w)) (s a) (s b))
  | runs s ↦ filter_by opens c a b s (filter_named (word (c ++ b))) refl
]

pub filter_name_skips : (opens : Bool) → Skips (filter_name opens)
unfolding filter_name
filter_name_skips opens t = rw (spaces_twice t) refl

pub filter_name_cut : (opens : Bool) → Local Nothing (filter_name opens)
unfolding filter_name
filter_name_cut opens c a b = elim (split c) [
  | blank s ↦ late (beyond (all_blank (filter_name opens) (filter_name_skips opens) (filter_name_keeps opens) c a (s a)))
  | shown e d s ↦ rw (s a, s b) (filter_here opens (e ∷ d) a b)
]

-- ---- a token that is wanted

want_skips : (token : Token) → Skips (want token)
unfolding want
want_skips token t = rw (spaces_twice t) refl

pub want_cut : (token : Token) → all_clear (token ∷ []) token ≡ true → Local Nothing (want token)
unfolding want
want_cut token clear c a b = elim (looks token c) [
  | nothing s ↦ late (beyond (all_blank (want token) (want_skips token) (want_keeps token) c a (s a)))
  | partly e d s h ↦ late (beyond (elim (chosen_is (next_is token (c ++ a))) [
    | inl k ↦ rw k (past_late (token ∷ []) token (c ++ a) (e ∷ d) a (s a) (rw h refl) clear k)
    | inr k ↦ rw k (reach_late (token ∷ []) (c ++ a) (e ∷ d) a (s a) (rw h refl))
  ]))
  | there u n p ↦ rw (n a, n b) (same tt u (ap (λ (z : List ℕ). Ok (tt, z)) (p a)) (ap (λ (z : List ℕ). Ok (tt, z)) (p b)))
  | other e d s n ↦ rw (n b) (fails _ refl)
]
