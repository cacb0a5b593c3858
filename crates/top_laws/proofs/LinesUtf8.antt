-- A text whose lines have no fault is UTF-8.
use Rattle.std.proofs.Common.{◌≡◌, sym, subst, refl, ℕ, suc, ◌+◌, ◌<◌, Bool, true, false, List, [], ◌∷◌, ◌++◌, length, drop, Option, Some, None, IsUtf8, arith, append_assoc}
use Rattle.std.specs.Prelude.{◌==◌, ◌&&◌, nat_le, nat_eq, not, ◌||◌, if◌then◌else◌}
use Rattle.std.proofs.lemmas.Bool.{and_parts, eqb-true}
use Rattle.std.proofs.lemmas.List.{append-nil}
use Rattle.std.proofs.lemmas.Str.{IsUtf8-nil, IsUtf8-append, IsUtf8-from_ascii, IsUtf8-from_is_utf8}
use Rattle.std.proofs.lemmas.Str.Ascii.{IsAscii-nil, IsAscii-cons}
use Rattle.std.specs.Str.{is_utf8, chars}
use lib.Utf8.{encode}
use Rattle.ha_value.specs.Lists.{without_cr}
use Rattle.yaml_scan.specs.declared.line.RawLine.{RawLine}
use Rattle.yaml_scan.specs.declared.fault.Fault.{Fault}
use Rattle.yaml_scan.specs.Lines.{spaces, line_of, last_line, lines_from, without_mark, lines, or_else, one_fault, fault_from, line_fault, is_blank_line}
use Rattle.yaml_scan.proofs.Utf8.{each_utf8}

one_byte : (x : ℕ) → x < 128 → IsUtf8 (x ∷ [])
one_byte x small = IsUtf8-from_ascii (x ∷ []) (IsAscii-cons x [] small IsAscii-nil)

byte_more : (x : ℕ) (text : List ℕ) → x < 128 → IsUtf8 text → IsUtf8 (x ∷ text)
byte_more x text small u = IsUtf8-append (x ∷ []) text (one_byte x small) u

over : (a b : List ℕ) (x : ℕ) → IsUtf8 (a ++ x ∷ b) → IsUtf8 ((a ++ x ∷ []) ++ b)
over a b x u = subst IsUtf8 (sym (append_assoc a (x ∷ []) b)) u

back : (a b : List ℕ) (x : ℕ) → IsUtf8 ((a ++ x ∷ []) ++ b) → IsUtf8 (a ++ x ∷ b)
back a b x u = subst IsUtf8 (append_assoc a (x ∷ []) b) u

-- ---- a line

space_more : (t : Bool) (b n : ℕ) (rest : List ℕ) → (b == 32) ≡ t → (IsUtf8 (drop n rest) → IsUtf8 rest) → IsUtf8 (drop (if t then n + 1 else 0) (b ∷ rest)) → IsUtf8 (b ∷ rest)
space_more true b n rest e more u =
    let is : b ≡ 32 = eqb-true b 32 e in
    let next : n + 1 ≡ suc n = omega arith in
    byte_more b rest (omega (arith, is)) (more (subst (λ k. IsUtf8 (drop k (b ∷ rest))) next u))
space_more false b n rest e more u = u

-- it is UTF-8 where it is behind its leading spaces
unspaced : (raw : List ℕ) → IsUtf8 (drop (spaces raw) raw) → IsUtf8 raw
unfolding spaces
unspaced [] u = u
unspaced (b ∷ rest) u = space_more (b == 32) b (spaces rest) rest refl (unspaced rest) u

cr_more : (t : Bool) (b : ℕ) (before : List ℕ) → nat_eq b 13 ≡ t → IsUtf8 (before ++ (if t then [] else b ∷ [])) → IsUtf8 (before ++ b ∷ [])
cr_more true b before e u = (let is : b ≡ 13 = eqb-true b 13 e in IsUtf8-append before (b ∷ []) (subst IsUtf8 (append-nil before) u) (one_byte b (omega (arith, is))))
cr_more false b before e u = u

-- and where it is but for its CR
uncut : (raw before : List ℕ) → IsUtf8 (before ++ without_cr raw) → IsUtf8 (before ++ raw)
unfolding without_cr
uncut [] before u = u
uncut (b ∷ []) before u = cr_more (nat_eq b 13) b before refl u
uncut (b ∷ c ∷ line) before u = back before (c ∷ line) b (uncut (c ∷ line) (before ++ b ∷ []) (over before (without_cr (c ∷ line)) b u))

-- ---- the lines

none_later : (a b : Option Fault) → or_else a b ≡ None → b ≡ None
none_later None b e = e
none_later (Some f) b e = absurd cc

module _ (begun : Bool) where
  first_utf8 : (n : ℕ) (raw : List ℕ) (ls : List RawLine) → fault_from begun (line_of n raw ∷ ls) ≡ None → IsUtf8 raw
  first_utf8 n raw ls e = unspaced raw (IsUtf8-from_is_utf8 (drop (spaces raw) raw) (each_utf8 (line_of n raw ∷ ls) begun 0 (line_of n raw) e (omega arith) refl))

  last_utf8 : (n : ℕ) (raw : List ℕ) → fault_from begun (last_line n raw) ≡ None → IsUtf8 raw
  last_utf8 n [] e = IsUtf8-nil
  last_utf8 n (b ∷ raw) e = first_utf8 n (b ∷ raw) [] e

line_more : (begun t : Bool) (n b : ℕ) (raw rest : List ℕ) → (b == 10) ≡ t → ((later : Bool) → fault_from later (lines_from (n + 1) [] rest) ≡ None → IsUtf8 rest)
    → (fault_from begun (lines_from n (raw ++ b ∷ []) rest) ≡ None → IsUtf8 ((raw ++ b ∷ []) ++ rest))
    → fault_from begun (if t then line_of n (without_cr raw) ∷ lines_from (n + 1) [] rest else lines_from n (raw ++ b ∷ []) rest) ≡ None → IsUtf8 (raw ++ b ∷ rest)
unfolding fault_from
line_more begun true n b raw rest e new on h =
    let is : b ≡ 10 = eqb-true b 10 e in
    let l = line_of n (without_cr raw) in
    let front = uncut raw [] (first_utf8 begun n (without_cr raw) (lines_from (n + 1) [] rest) h) in
    let behind = new (begun || not (is_blank_line l)) (none_later (one_fault begun l) (fault_from (begun || not (is_blank_line l)) (lines_from (n + 1) [] rest)) h) in
    IsUtf8-append raw (b ∷ rest) front (byte_more b rest (omega (arith, is)) behind)
line_more begun false n b raw rest e new on h = back raw rest b (on h)

from_utf8 : (rest : List ℕ) (begun : Bool) (n : ℕ) (raw : List ℕ) → fault_from begun (lines_from n raw rest) ≡ None → IsUtf8 (raw ++ rest)
unfolding lines_from
from_utf8 [] begun n raw e = subst IsUtf8 (sym (append-nil raw)) (last_utf8 begun n raw e)
from_utf8 (b ∷ rest) begun n raw e =
    line_more begun (b == 10) n b raw rest refl (λ later h. from_utf8 rest later (n + 1) [] h) (λ h. from_utf8 rest begun n (raw ++ b ∷ []) h) e

-- ---- the byte order mark

mark_utf8 : IsUtf8 (239 ∷ 187 ∷ 191 ∷ [])
unfolding is_utf8 chars encode
mark_utf8 = IsUtf8-from_is_utf8 (239 ∷ 187 ∷ 191 ∷ []) refl

mark_more : (long t : Bool) (a b c : ℕ) (rest : List ℕ) → (long && (a == 239) && (b == 187) && (c == 191)) ≡ t → IsUtf8 (if t then rest else a ∷ b ∷ c ∷ rest) → IsUtf8 (a ∷ b ∷ c ∷ rest)
mark_more long true a b c rest e u =
    let last = and_parts _ (c == 191) e in
    let second = and_parts _ (b == 187) last.0 in
    let first = and_parts long (a == 239) second.0 in
    let P : ℕ → ℕ → ℕ → Type 0 = λ x y z. IsUtf8 (x ∷ y ∷ z ∷ rest) in
    let i = eqb-true a 239 first.1 in
    let k = eqb-true b 187 second.1 in
    let m = eqb-true c 191 last.1 in
    subst (λ x. P x b c) (sym i) (subst (λ y. P 239 y c) (sym k) (subst (λ z. P 239 187 z) (sym m) (IsUtf8-append (239 ∷ 187 ∷ 191 ∷ []) rest mark_utf8 u)))
mark_more long false a b c rest e u = u

unmarked : (text : List ℕ) → IsUtf8 (without_mark text) → IsUtf8 text
unmarked [] u = u
unmarked (a ∷ []) u = u
unmarked (a ∷ b ∷ []) u = u
unmarked (a ∷ b ∷ c ∷ rest) u = (let long = nat_le 3 (length (a ∷ b ∷ c ∷ rest)) in mark_more long (long && (a == 239) && (b == 187) && (c == 191)) a b c rest refl u)

pub lines-utf8 : (text : List ℕ) → line_fault (lines text) ≡ None → IsUtf8 text
lines-utf8 text e = unmarked text (from_utf8 (without_mark text) false 1 [] e)
