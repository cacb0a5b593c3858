-- A string may be followed by anything, one that was begun ends with any letters, and its first fault depends on nothing behind it.
use Rattle.std.proofs.Common.{◌≡◌, ℕ, zero, suc, ◌+◌, ◌<◌, false, List, [], ◌∷◌, ◌++◌, length, replicate, Ok, Err, refl, sym, ap, subst, ◌∙◌, append_assoc, length-append, arith, inl, inr}
use Rattle.std.specs.Prelude.{◌==◌, codes}
use Rattle.std.specs.Str.{encode_utf8_all, bytes_eq}
use Rattle.std.proofs.lemmas.List.{length-replicate}
use Rattle.std.proofs.lemmas.Slice.Eq.{bytes_eq-Decides}
use Rattle.std.proofs.lemmas.Str.{encodes-append, encode_ascii}
use Rattle.ha_value.specs.declared.value.Value.{Value}
use Rattle.reading.specs.Answer.{Answer, front}
use Rattle.reading.specs.Bytes.{sees, expect}
use Rattle.reading.specs.Rows.{repeat}
use Rattle.reading.specs.Faults.{IsAlike}
use Rattle.reading.proofs.Basics.{chosen_is, bind_err}
use Rattle.reading.proofs.Local.{Local, same_front, bind_local, expect_local}
use Rattle.reading.proofs.Solid.{expect_solid, only_of}
use Rattle.flow_line.specs.declared.fault.Code.{Code}
use Rattle.flow_line.specs.declared.fault.Code.TheVariants.{Syntax, RepeatedKey, Depth, Range}
use Rattle.flow_line.specs.Text.{Reads, character, characters, text, string}
use Rattle.flow_line.specs.Reading.{has_key}
use Rattle.flow_line.specs.Grammar.{IsCharacters, close, more, IsString, string as string_of}
use Rattle.flow_line.specs.Refused.{Like}
use Rattle.flow_line.proofs.ByteRanges.{Fault}
use Rattle.flow_line.proofs.Characters.{character_found}
use Rattle.flow_line.proofs.CharactersSolid.{letter, character_framed, character_halted}
use Rattle.flow_line.proofs.Found.{text_found}
use Rattle.flow_line.proofs.StringsRead.{AreCharacters, no_more, one_more, before_quote, with_quote, text_read, text_fails, text_failing}

pub like_front : (c : Code) (a b : List ℕ) → Like c a b → front b ≡ front a
like_front Syntax a b l = l
like_front RepeatedKey a b l = ap front l.b_is ∙ sym (ap front l.a_is)
like_front Depth a b l = l.0
like_front Range a b l = l.first

-- what is read and each fault depend on nothing behind them
abbrev pub IsLocal : {A : Type 0} → Reads A → Type 0
IsLocal = Local Like like_front

-- ---- what follows is free

pub record FramedCharacters (t cs rest : List ℕ) : Type 0 where
  pub taken : List ℕ
  pub parts : t ≡ taken ++ rest
  pub again : (other : List ℕ) → AreCharacters (taken ++ other) cs other

pub characters_framed : {t cs rest : List ℕ} → AreCharacters t cs rest → FramedCharacters t cs rest
characters_framed no_more = record { taken = []; parts = refl; again = λ other. no_more }
characters_framed (one_more {rest = rest} {cs = cs} {c = c} here others) =
    let l = character_framed here in
    let m = characters_framed others in
    record {
      taken = l.taken ++ m.taken;
      parts = l.parts ∙ ap (λ (u : List ℕ). l.taken ++ u) m.parts ∙ sym (append_assoc l.taken m.taken rest);
      again = λ other. subst (λ (u : List ℕ). AreCharacters u (c ∷ cs) other) (sym (append_assoc l.taken m.taken other)) (one_more (l.again (m.taken ++ other)) (m.again other));
    }

pub record FramedString (t s rest : List ℕ) : Type 0 where
  pub spelling : List ℕ
  pub parts : t ≡ spelling ++ rest
  pub again : (other : List ℕ) → IsString (spelling ++ other) s other

pub string_framed : {t s rest : List ℕ} → IsString t s rest → FramedString t s rest
string_framed (string_of {cs = cs} {rest = rest} here) =
    let l = characters_framed (before_quote here) in
    record {
      spelling = l.taken ++ 34 ∷ [];
      parts = l.parts ∙ sym (append_assoc l.taken (34 ∷ []) rest);
      again = λ other. subst (λ (u : List ℕ). IsString u (encode_utf8_all cs) other) (sym (append_assoc l.taken (34 ∷ []) other)) (string_of (with_quote other (l.again (34 ∷ other)) refl));
    }

-- ---- a string that was begun

letters_close : (n : ℕ) (other : List ℕ) → IsCharacters (replicate n 97 ++ 34 ∷ other) (replicate n 97) other
letters_close zero other = close
letters_close (suc n) other = more (character_found (97 ∷ (replicate n 97 ++ 34 ∷ other)) 97 (replicate n 97 ++ 34 ∷ other) (letter (replicate n 97 ++ 34 ∷ other))) (letters_close n other)

letters_bytes : (n : ℕ) → encode_utf8_all (replicate n 97) ≡ replicate n 97
letters_bytes zero = refl
letters_bytes (suc n) = ap (λ (u : List ℕ). u ++ encode_utf8_all (replicate n 97)) (encode_ascii 97 (omega arith)) ∙ ap (λ (u : List ℕ). 97 ∷ u) (letters_bytes n)

joined : {t cs u : List ℕ} (ds rest : List ℕ) → AreCharacters t cs u → IsCharacters u ds rest → IsCharacters t (cs ++ ds) rest
joined ds rest no_more others = others
joined ds rest (one_more here so_far) others = more here (joined ds rest so_far others)

pub record OpenString (t : List ℕ) (f : Fault) : Type 0 where
  pub before : List ℕ
  pub rest : List ℕ
  pub parts : t ≡ before ++ rest
  pub left : f.left ≡ length rest
  pub so_far : List ℕ
  -- what ends a character that was begun
  pub more : List ℕ
  pub spelled : (n : ℕ) (other : List ℕ) → IsString (before ++ (more ++ (replicate n 97 ++ 34 ∷ other))) (so_far ++ replicate n 97) other

pub text_open : (t : List ℕ) (f : Fault) → text t ≡ Err f → OpenString t f
text_open t f e =
    let at = text_fails t f e in
    let l = characters_framed at.so_far in
    let h = character_halted at.at f at.fails in
    record {
      before = l.taken ++ h.before;
      rest = h.rest;
      parts = l.parts ∙ ap (λ (u : List ℕ). l.taken ++ u) h.parts ∙ sym (append_assoc l.taken h.before h.rest);
      left = h.left;
      so_far = encode_utf8_all (at.cs ++ h.x ∷ []);
      more = h.more;
      spelled = λ n other.
          let tail : List ℕ = replicate n 97 ++ 34 ∷ other in
          let u : List ℕ = h.before ++ (h.more ++ tail) in
          let last : IsCharacters u (h.x ∷ replicate n 97) other = more (character_found u h.x tail (h.goes_on tail)) (letters_close n other) in
          let all : IsString (l.taken ++ u) (encode_utf8_all (at.cs ++ h.x ∷ replicate n 97)) other = string_of (joined (h.x ∷ replicate n 97) other (l.again u) last) in
          let bytes : encode_utf8_all (at.cs ++ h.x ∷ replicate n 97) ≡ encode_utf8_all (at.cs ++ h.x ∷ []) ++ replicate n 97 =
          ap encode_utf8_all (sym (append_assoc at.cs (h.x ∷ []) (replicate n 97))) ∙ encodes-append (at.cs ++ h.x ∷ []) (replicate n 97) ∙ ap (λ (b : List ℕ). encode_utf8_all (at.cs ++ h.x ∷ []) ++ b) (letters_bytes n) in
          subst (λ (v : List ℕ). IsString v (encode_utf8_all (at.cs ++ h.x ∷ []) ++ replicate n 97) other) (sym (append_assoc l.taken h.before (h.more ++ tail))) (subst (λ (b : List ℕ). IsString (l.taken ++ u) b other) bytes all);
    }

-- an empty text is a string that was begun
pub no_text : text [] ≡ Err (record { left = 0; code = Syntax })
unfolding characters repeat character
no_text = refl

-- ---- a fault depends on nothing behind it

sees_by_front : (k : ℕ) (u v : List ℕ) → front u ≡ front v → sees k u ≡ sees k v
sees_by_front k [] [] e = refl
sees_by_front k [] (b ∷ v) e = absurd cc
sees_by_front k (a ∷ u) [] e = absurd cc
sees_by_front k (a ∷ u) (b ∷ v) e = let same : a ≡ b = cc in ap (λ (x : ℕ). x == k) same

text_alike : (t : List ℕ) (a : Answer ℕ Fault (List ℕ)) → text t ≡ a → IsAlike Like text t a
text_alike t (Ok x) e = let l = string_framed (text_found t x.0 x.1 e) in record { before = l.spelling; parts = l.parts; again = λ other k. text_read (l.again other) }
text_alike t (Err f) e =
    let at = text_fails t f e in
    let l = characters_framed at.so_far in
    let h = character_halted at.at f at.fails in
    record {
      before = l.taken ++ h.before;
      rest = h.rest;
      parts = l.parts ∙ ap (λ (u : List ℕ). l.taken ++ u) h.parts ∙ sym (append_assoc l.taken h.before h.rest);
      left = h.left;
      again = λ other k.
          let same : front other ≡ front h.rest = like_front f.code h.rest other k in
          let no_end : sees 34 (h.before ++ other) ≡ false = sees_by_front 34 (h.before ++ other) at.at (same_front h.before h.rest other same ∙ ap front (sym h.parts)) ∙ at.no_end in
          ap text (append_assoc l.taken h.before other) ∙ text_failing (record { left = length other; code = f.code }) (l.again (h.before ++ other)) no_end (h.again other same);
    }

pub text_local : IsLocal text
unfolding Local
text_local t = text_alike t (text t) refl

pub string_local : IsLocal string
unfolding string
string_local = bind_local Like like_front (expect Syntax (codes "\"")) (λ _. text) (expect_local Like like_front Syntax (codes "\"")) (λ _. text_local)

-- the faults of a string are of the syntax
pub text_syntax : (t : List ℕ) (f : Fault) → text t ≡ Err f → f.code ≡ Syntax
text_syntax t f e = let at = text_fails t f e in let h = character_halted at.at f at.fails in h.coded

pub expect_syntax : (ws t : List ℕ) (f : Fault) → expect Syntax ws t ≡ Err f → f.code ≡ Syntax
expect_syntax ws = only_of Syntax (expect Syntax ws) (expect_solid Syntax ws)

pub string_syntax : (t : List ℕ) (f : Fault) → string t ≡ Err f → f.code ≡ Syntax
unfolding string
string_syntax t f e = elim (bind_err (expect Syntax (codes "\"") t) (λ q. text q.1) f e) [ inl h ↦ expect_syntax (codes "\"") t f h | inr h ↦ text_syntax h.0.1 f h.2 ]

-- ---- a key that is not among those that were found: one that is longer than each

total : List (List ℕ × Value) → ℕ
total [] = 0
total (p ∷ ps) = length p.0 + total ps

longer_is_new : (found : List (List ℕ × Value)) (k : List ℕ) → total found < length k → has_key found k ≡ false
unfolding total
longer_is_new [] k h = refl
longer_is_new (p ∷ ps) k h =
    elim (chosen_is (bytes_eq p.0 k)) [
      | inl e ↦ absurd (let same : p.0 ≡ k = (bytes_eq-Decides p.0 k).0 e in omega (arith, ap length same))
      | inr e ↦ rw e (longer_is_new ps k (omega arith))
    ]

-- so many letters end a key so that it is a new one
pub fresh : (found : List (List ℕ × Value)) (so_far : List ℕ) → (n : ℕ) × (has_key found (so_far ++ replicate n 97) ≡ false)
fresh found so_far =
    let n : ℕ = suc (total found) in
    (n, longer_is_new found (so_far ++ replicate n 97) (omega (arith, length-append so_far (replicate n 97), length-replicate {A = ℕ} n 97)))
