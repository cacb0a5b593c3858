-- In lines that are UTF-8 each key is, so its text is its bytes.
use Rattle.std.proofs.Common.{◌≡◌, ℕ, suc, ◌+◌, ◌<◌, Bool, true, false, inl, inr, List, [], ◌∷◌, ◌++◌, length, Some, sym, subst, append_assoc, length-append, get_or, arith, IsUtf8}
use Rattle.std.specs.Prelude.{◌==◌, encode_utf8}
use Rattle.std.specs.Char.{IsScalar}
use Rattle.std.proofs.lemmas.Bool.Decides.{nat_tests}
use Rattle.std.proofs.lemmas.List.{append-nil}
use Rattle.std.proofs.lemmas.Str.{IsUtf8-nil, IsUtf8-append, IsUtf8-encode, IsUtf8-take, IsUtf8-drop, IsUtf8-from_ascii, IsUtf8-from_is_utf8, IsCharBoundary-before_ascii, IsCharBoundary-after_ascii, utf8_lossy-IsUtf8}
use Rattle.std.proofs.lemmas.Str.Ascii.{IsAscii-nil, IsAscii-cons}
use Rattle.std.proofs.Math.Seq.{take-append_seam, drop-append-add, get_or-append_seam}
use Rattle.yaml_scan.specs.declared.line.RawLine.{RawLine}
use Rattle.yaml_scan.specs.Lines.{is_blank_line, is_start, without_start}
use Rattle.yaml_scan.specs.Words.{is_blank, breaks, only_blanks, trimmed}
use Rattle.yaml_scan.specs.Quoted.{escape, digits_behind, hex, is_character}
use Rattle.yaml_tree.specs.declared.node.Node.{Node}
use Rattle.yaml_tree.specs.declared.starts.Start.TheVariants as starts
use Rattle.yaml_tree.specs.Nodes.{Pair, word}
use Rattle.yaml_tree.specs.Starts.{start}
use Rattle.yaml_tree.specs.Quotes.{IsNext, IsDigits, none as no_digit, digit, IsInside, close, doubled, byte as a_byte, escaped, numbered, broken, joined}
use Rattle.yaml_tree.specs.Brackets as flow
use Rattle.yaml_tree.specs.Keys.{IsColon, here as colon_here, blank as colon_blank, IsKeyText, ends as key_ends, byte as key_byte, IsKey, plain as plain_key, quoted as quoted_key}
use Rattle.yaml_tree.specs.Spelling.{IsAt, here as at_here, blank as at_blank, is_dash, AreClean, none as no_clean, line as clean_line}
use Rattle.yaml_tree.proofs.LinesFound.{tested, and_true}
use Rattle.yaml_tree.proofs.QuotesRead.{escape_is}
use Rattle.yaml_tree.proofs.Shorter.{IsEnd, all, later}
use Rattle.yaml_tree.proofs.Trims.{trim, trimmed_is}

-- ---- a text may be cut before and behind an ASCII byte

pub record Cut (a b : List ℕ) (x : ℕ) : Type 0 where
  pub front : IsUtf8 a
  pub from : IsUtf8 (x ∷ b)
  pub rest : IsUtf8 b

one_byte : (x : ℕ) → x < 128 → IsUtf8 (x ∷ [])
one_byte x small = IsUtf8-from_ascii (x ∷ []) (IsAscii-cons x [] small IsAscii-nil)

pub cut : (a b : List ℕ) (x : ℕ) → x < 128 → IsUtf8 (a ++ x ∷ b) → Cut a b x
cut a b x small u =
    let within : length a < length (a ++ x ∷ b) = omega (arith, length-append a (x ∷ b)) in
    let at : get_or (a ++ x ∷ b) (length a) 0 < 128 = omega (arith, get_or-append_seam a x b 0) in
    let behind : IsUtf8 b = subst IsUtf8 (drop-append-add a (x ∷ b) 1) (IsUtf8-drop (a ++ x ∷ b) (length a + 1) u (IsCharBoundary-after_ascii (a ++ x ∷ b) (length a) u within at)) in
    record {
      front = subst IsUtf8 (take-append_seam a (x ∷ b)) (IsUtf8-take (a ++ x ∷ b) (length a) u (IsCharBoundary-before_ascii (a ++ x ∷ b) (length a) within at));
      from = IsUtf8-append (x ∷ []) b (one_byte x small) behind;
      rest = behind;
    }

pub front_cut : (b : List ℕ) (x : ℕ) → x < 128 → IsUtf8 (x ∷ b) → IsUtf8 b
front_cut b x small u = (cut [] b x small u).rest

-- a byte goes from one side to the other
over : (a b : List ℕ) (x : ℕ) → IsUtf8 (a ++ x ∷ b) → IsUtf8 ((a ++ x ∷ []) ++ b)
over a b x u = subst IsUtf8 (sym (append_assoc a (x ∷ []) b)) u

back : (a b : List ℕ) (x : ℕ) → IsUtf8 ((a ++ x ∷ []) ++ b) → IsUtf8 (a ++ x ∷ b)
back a b x u = subst IsUtf8 (append_assoc a (x ∷ []) b) u

ended : (a : List ℕ) → IsUtf8 a → IsUtf8 (a ++ [])
ended a u = subst IsUtf8 (sym (append-nil a)) u

-- ---- small bytes

blank_small : (b : ℕ) → is_blank b ≡ true → b < 128
blank_small b h = grind (arith, nat_tests)

stop_small : (b : ℕ) (spaced : Bool) → flow.is_word_end b spaced ≡ true → b < 128
stop_small b true h = grind (arith, nat_tests)
stop_small b false h = grind (arith, nat_tests)

colon_small : (b : ℕ) (rest : List ℕ) → flow.is_colon b rest ≡ true → b < 128
colon_small b rest h = let e = (and_true (b == 58) _ h).0 in grind (arith, nat_tests)

hex_small : (b d : ℕ) → hex b ≡ Some d → b < 128
hex_small b d h = grind (arith, nat_tests)

escape_small : (b c : ℕ) → escape b ≡ Some c → b < 128
escape_small b c h = grind (arith, nat_tests)

digits_small : (b n : ℕ) → digits_behind b ≡ suc n → b < 128
digits_small b n h = grind (arith, nat_tests)

quote_small : (b : ℕ) (rest : List ℕ) → start b rest ≡ starts.InQuotes → b < 128
quote_small b rest h = grind (arith, nat_tests)

scalar : (c : ℕ) → is_character c ≡ true → IsScalar c
scalar c h = grind (arith, nat_tests)

-- ---- what stands in quotes on one line

no_lines : {A : Type 0} {floor k : ℕ} {next : List ℕ} {ls : List RawLine} → IsNext floor [] k next ls → A
no_lines n = absurd (elim n [ ])

digits_rest : {wanted value all : ℕ} {bytes rest : List ℕ} → IsDigits wanted value bytes all rest → IsUtf8 bytes → IsUtf8 rest
digits_rest no_digit u = u
digits_rest (digit {b = b} {d = d} {bytes = bytes} h i) u = digits_rest i (front_cut bytes b (hex_small b d h) u)

with_character : (before s : List ℕ) (c : ℕ) → is_character c ≡ true → IsUtf8 before → IsUtf8 s → IsUtf8 (before ++ (encode_utf8 c ++ s))
with_character before s c ok f u = IsUtf8-append before (encode_utf8 c ++ s) f (IsUtf8-append (encode_utf8 c) s (IsUtf8-encode c (scalar c ok)) u)

pub inside_utf8 : {quote floor : ℕ} (before : List ℕ) {bytes s rest : List ℕ} {ls' : List RawLine} → quote < 128 → IsInside quote floor bytes [] s rest ls' → IsUtf8 (before ++ bytes) → IsUtf8 (before ++ s) × IsUtf8 rest
inside_utf8 {quote = quote} before small (close {rest = rest} e) u = let c = cut before rest quote small u in (ended before c.front, c.rest)
inside_utf8 before small (doubled {bytes = bytes} {s = s} e i) u =
    let c = cut before (39 ∷ bytes) 39 (omega arith) u in
    let r = inside_utf8 (before ++ 39 ∷ []) small i (IsUtf8-append (before ++ 39 ∷ []) bytes (IsUtf8-append before (39 ∷ []) c.front (one_byte 39 (omega arith))) (front_cut bytes 39 (omega arith) c.rest)) in
    (back before s 39 r.0, r.1)
inside_utf8 before small (a_byte {b = b} {bytes = bytes} {s = s} e f g i) u =
    let r = inside_utf8 (before ++ b ∷ []) small i (over before bytes b u) in
    (back before s b r.0, r.1)
inside_utf8 before small (escaped {b = b} {c = c} {bytes = bytes} {s = s} e h i) u =
    let k = cut before (b ∷ bytes) 92 (omega arith) u in
    let r = inside_utf8 [] small i (front_cut bytes b (escape_small b c h) k.rest) in
    (with_character before s c (escape_is b c h).0 k.front r.0, r.1)
inside_utf8 before small (numbered {b = b} {n = n} {value = value} {bytes = bytes} {s = s} e h d ok i) u =
    let k = cut before (b ∷ bytes) 92 (omega arith) u in
    let r = inside_utf8 [] small i (digits_rest d (front_cut bytes b (digits_small b n h) k.rest)) in
    (with_character before s value ok k.front r.0, r.1)
inside_utf8 before small (broken o n i) u = no_lines n
inside_utf8 before small (joined e n i) u = no_lines n

-- ---- plain words

trim_utf8 : (before bytes : List ℕ) → IsUtf8 (before ++ bytes) → IsUtf8 (before ++ trim bytes)
unfolding trim only_blanks
trim_utf8 before [] u = u
trim_utf8 before (b ∷ bytes) u =
    elim (tested (only_blanks (b ∷ bytes))) [
      | inl o ↦ rw o (ended before (cut before bytes b (blank_small b (and_true (is_blank b) (only_blanks bytes) o).0) u).front)
      | inr o ↦ rw o (back before (trim bytes) b (trim_utf8 (before ++ b ∷ []) bytes (over before bytes b u)))
    ]

pub trimmed_utf8 : (bytes : List ℕ) → IsUtf8 bytes → IsUtf8 (trimmed bytes)
trimmed_utf8 bytes u = subst IsUtf8 (sym (trimmed_is bytes)) (trim_utf8 [] bytes u)

pub word_utf8 : (before : List ℕ) {spaced : Bool} {bytes w rest : List ℕ} → flow.IsWord spaced bytes w rest → IsUtf8 (before ++ bytes) → IsUtf8 (before ++ w) × IsUtf8 rest
word_utf8 before flow.none u = (u, IsUtf8-nil)
word_utf8 before (flow.ends {spaced = spaced} {b = b} {rest = rest} e) u = let c = cut before rest b (stop_small b spaced e) u in (ended before c.front, c.from)
word_utf8 before (flow.colon {b = b} {rest = rest} e) u = let c = cut before rest b (colon_small b rest e) u in (ended before c.front, c.from)
word_utf8 before (flow.byte {b = b} {bytes = bytes} {w = w} e f i) u =
    let r = word_utf8 (before ++ b ∷ []) i (over before bytes b u) in
    (back before w b r.0, r.1)

-- ---- keys

same_word : (k : List ℕ) → IsUtf8 k → word k ≡ k
same_word k u = utf8_lossy-IsUtf8 k u

pub flow_key : {bytes k rest : List ℕ} → flow.IsKey bytes k rest → IsUtf8 bytes → (word k ≡ k) × IsUtf8 rest
flow_key (flow.plain_key {w = w} s i m some) u = let r = word_utf8 [] i u in (same_word (trimmed w) (trimmed_utf8 w r.0), r.1)
flow_key (flow.quoted_key {b = b} {bytes = bytes} {s = s} q i some) u =
    let r = inside_utf8 [] (quote_small b bytes q) i (front_cut bytes b (quote_small b bytes q) u) in
    (same_word s r.0, r.1)

colon_rest : (before : List ℕ) {column behind : ℕ} {bytes rest : List ℕ} → IsColon column bytes behind rest → IsUtf8 (before ++ bytes) → IsUtf8 before × IsUtf8 rest
colon_rest before (colon_here {bytes = bytes} e) u = let c = cut before bytes 58 (omega arith) u in (c.front, c.rest)
colon_rest before (colon_blank {b = b} {bytes = bytes} h i) u = let c = cut before bytes b (blank_small b h) u in (c.front, (colon_rest [] i c.rest).1)

key_text_utf8 : (before : List ℕ) {column behind : ℕ} {bytes s rest : List ℕ} → IsKeyText column bytes s behind rest → IsUtf8 (before ++ bytes) → IsUtf8 (before ++ s) × IsUtf8 rest
key_text_utf8 before (key_ends i) u = let r = colon_rest before i u in (ended before r.0, r.1)
key_text_utf8 before (key_byte {b = b} {bytes = bytes} {s = s} e f i) u =
    let r = key_text_utf8 (before ++ b ∷ []) i (over before bytes b u) in
    (back before s b r.0, r.1)

pub block_key : {column behind : ℕ} {bytes k rest : List ℕ} → IsKey column bytes k behind rest → IsUtf8 bytes → (word k ≡ k) × IsUtf8 rest
block_key (plain_key {s = s} e i m some) u = let r = key_text_utf8 [] i u in (same_word s r.0, r.1)
block_key (quoted_key {b = b} {bytes = bytes} {s = s} {rest = rest} q i e some) u =
    let r = inside_utf8 [] (quote_small b bytes q) i (front_cut bytes b (quote_small b bytes q) u) in
    (same_word s r.0, front_cut rest 58 (omega arith) r.1)

-- ---- what is behind blanks, and behind flow

pub after_utf8 : {bytes rest : List ℕ} → flow.IsAfter bytes rest → IsUtf8 bytes → IsUtf8 rest
after_utf8 (flow.here e) u = u
after_utf8 (flow.blank {b = b} {bytes = bytes} h a) u = after_utf8 a (front_cut bytes b (blank_small b h) u)

pub at_utf8 : {column at : ℕ} {bytes rest : List ℕ} → IsAt column bytes at rest → IsUtf8 bytes → IsUtf8 rest
at_utf8 (at_here e) u = u
at_utf8 (at_blank {b = b} {bytes = bytes} h a) u = at_utf8 a (front_cut bytes b (blank_small b h) u)

pub dash_utf8 : (b : ℕ) (rest : List ℕ) → is_dash (b ∷ rest) ≡ true → IsUtf8 (b ∷ rest) → IsUtf8 rest
dash_utf8 b rest d u = let e = (and_true (b == 45) (breaks rest) d).0 in front_cut rest b (grind (arith, nat_tests)) u

mutual
  pub flow_utf8 : {n height : ℕ} {bytes rest : List ℕ} {x : Node} → flow.IsFlow n bytes x height rest → IsUtf8 bytes → IsUtf8 rest
  flow_utf8 (flow.plain s i) u = (word_utf8 [] i u).1
  flow_utf8 (flow.quoted {b = b} {bytes = bytes} q i) u = (inside_utf8 [] (quote_small b bytes q) i (front_cut bytes b (quote_small b bytes q) u)).1
  flow_utf8 (flow.list {bytes = bytes} i) u = items_utf8 i (front_cut bytes 91 (omega arith) u)
  flow_utf8 (flow.map {bytes = bytes} i) u = pairs_utf8 i (front_cut bytes 123 (omega arith) u)

  pub items_utf8 : {n height : ℕ} {bytes rest : List ℕ} {xs : List Node} → flow.IsItems n bytes xs height rest → IsUtf8 bytes → IsUtf8 rest
  items_utf8 (flow.no_item {rest = rest} a) u = front_cut rest 93 (omega arith) (after_utf8 a u)
  items_utf8 (flow.last_item {rest = rest} a i b) u = front_cut rest 93 (omega arith) (after_utf8 b (flow_utf8 i (after_utf8 a u)))
  items_utf8 (flow.more_items {more = more} a i b is) u = items_utf8 is (front_cut more 44 (omega arith) (after_utf8 b (flow_utf8 i (after_utf8 a u))))

  pub pair_utf8 : {n height : ℕ} {bytes rest : List ℕ} {p : Pair} → flow.IsPair n bytes p height rest → IsUtf8 bytes → (word p.0 ≡ p.0) × IsUtf8 rest
  pair_utf8 (flow.key_alone k) u = flow_key k u
  pair_utf8 (flow.no_value {rest = rest} k e) u = let r = flow_key k u in (r.0, front_cut rest 58 (omega arith) r.1)
  pair_utf8 (flow.key_value {behind = behind} k e a i) u = let r = flow_key k u in (r.0, flow_utf8 i (after_utf8 a (front_cut behind 58 (omega arith) r.1)))

  pub pairs_utf8 : {n height : ℕ} {bytes rest : List ℕ} {ps : List Pair} → flow.IsPairs n bytes ps height rest → IsUtf8 bytes → IsUtf8 rest
  pairs_utf8 (flow.no_pair {rest = rest} a) u = front_cut rest 125 (omega arith) (after_utf8 a u)
  pairs_utf8 (flow.last_pair {rest = rest} a i b) u = front_cut rest 125 (omega arith) (after_utf8 b (pair_utf8 i (after_utf8 a u)).1)
  pairs_utf8 (flow.more_pairs {more = more} a i b is new) u = pairs_utf8 is (front_cut more 44 (omega arith) (after_utf8 b (pair_utf8 i (after_utf8 a u)).1))

-- ---- lines

abbrev pub AreUtf8 : List RawLine → Type 0
AreUtf8 [] = Unit {0}
AreUtf8 (l ∷ ls) = IsUtf8 l.content × AreUtf8 ls

pub clean_utf8 : {begun : Bool} {ls : List RawLine} → AreClean begun ls → AreUtf8 ls
clean_utf8 no_clean = tt
clean_utf8 (clean_line {l = l} t d m u c) = (IsUtf8-from_is_utf8 l.content u, clean_utf8 c)

pub end_utf8 : {ls ls' : List RawLine} → IsEnd ls' ls → AreUtf8 ls → AreUtf8 ls'
end_utf8 all u = u
end_utf8 (later i) u = end_utf8 i u.1

pub start_utf8 : (ls : List RawLine) → AreUtf8 ls → AreUtf8 (without_start ls)
unfolding without_start
start_utf8 [] u = tt
start_utf8 (l ∷ ls) u =
    elim (tested (is_blank_line l)) [
      | inl h ↦ rw h (start_utf8 ls u.1)
      | inr h ↦ elim (tested (is_start l)) [ inl k ↦ rw (h, k) u.1 | inr k ↦ rw (h, k) u ]
    ]
