-- The steps of flow, as the tokens of its grammar lead to them.
use Rattle.std.proofs.Common.{◌≡◌, ℕ, zero, suc, ◌+◌, ◌<◌, ◌≤◌, Bool, true, false, cond, ◌||◌, ◌&&◌, ◌⊎◌, inl, inr, List, [], ◌∷◌, ◌++◌, length, take, Option, Some, None, Ok, refl, sym, ap, subst, ◌∙◌, arith}
use Rattle.std.specs.Prelude.{◌==◌, max}
use Rattle.std.proofs.lemmas.Bool.{eqb-true, lt-ltb}
use Rattle.yaml_scan.specs.declared.fault.Code.{Code}
use Rattle.yaml_scan.specs.declared.fault.Code.TheVariants.{Structure, LeftOut as left_out_code}
use Rattle.yaml_scan.specs.Words.{sees, is_blank, is_some}
use Rattle.yaml_tree.specs.declared.node.Node.{Node}
use Rattle.yaml_tree.specs.declared.flow.Frame.{Frame}
use Rattle.yaml_tree.specs.declared.starts.Start.TheVariants as starts
use Rattle.yaml_tree.specs.Nodes.{Pair, null, listed, mapped}
use Rattle.yaml_tree.specs.Starts.{start, left_out, no_plain}
use Rattle.yaml_tree.specs.Brackets.{IsAfter, here, blank, is_word_end}
use Rattle.yaml_tree.specs.Flow.{Machine, Ended, Step, on, ended, fails, held, closing, wants_key, raised, kept, closed, word_end, plain, plain_by, quoted, scalar, step, ran, run}
use Rattle.yaml_tree.proofs.LinesFound.{tested, or_false}
use Rattle.yaml_tree.proofs.BracketWords.{cut, word_end_is, take_cut}

-- ---- machines

-- on this line, with no repeated key
abbrev pub at : ℕ → Frame → List Frame → Bool → ℕ → Bool → List ℕ → Machine
at n f fs after height spaced bytes = record { line = n; frame = f; frames = fs; after = after; height = height; repeated = false; spaced = spaced; rest = bytes }

abbrev pub list_frame : List Node → Frame
list_frame xs = record { is_map = false; items = xs; pairs = []; key = None }

abbrev pub map_frame : List Pair → Option (List ℕ) → Frame
map_frame ps key = record { is_map = true; items = []; pairs = ps; key = key }

-- step by step
pub data Goes : Machine → Machine → Type 0 where
  there : {m : Machine} → Goes m m
  by : {m m' m'' : Machine} → step m ≡ on m' → length m'.rest < length m.rest → Goes m' m'' → Goes m m''

pub goes_on : {m m' m'' : Machine} → Goes m m' → Goes m' m'' → Goes m m''
goes_on there h = h
goes_on (by e lt g) h = by e lt (goes_on g h)

pub run_goes : {m m' : Machine} → Goes m m' → (x : Ended) → step m' ≡ ended x → (k : ℕ) → length m.rest < k → run k m ≡ Ok x
unfolding run
run_goes there x e zero lt = absurd (omega arith)
run_goes there x e (suc k) lt = ap (λ (s : Step). ran s (run k)) e
run_goes (by h shorter g) x e zero lt = absurd (omega arith)
run_goes (by h shorter g) x e (suc k) lt = ap (λ (s : Step). ran s (run k)) h ∙ run_goes g x e k (omega arith)

-- the innermost bracket is closed
abbrev pub shuts : ℕ → ℕ → List ℕ → Node → List Frame → Step
shuts n height rest node [] = ended (record { node = node; height = height; repeated = false; rest = rest })
shuts n height rest node (f ∷ fs) = on (at n (held f n node) fs true height false rest)

pub shut_is : (n : ℕ) (f : Frame) (gs : List Frame) (after : Bool) (height : ℕ) (rest : List ℕ) (node : Node) (fs : List Frame) → closed (at n f gs after height false rest) node fs ≡ shuts n height rest node fs
shut_is n f gs after height rest node [] = refl
shut_is n f gs after height rest node (g ∷ fs) = refl

-- ---- heights

pub raised_is : (height around : ℕ) → around + 1 + 1 ≤ 64 → raised height around ≡ max height (around + 1 + 1)
raised_is height around lt = omega arith

pub max_more : (height around a b : ℕ) → max (max height (around + 1 + a)) (around + 1 + b) ≡ max height (around + 1 + max a b)
max_more height around a b = omega arith

pub kept_is : (around n : ℕ) (x : Node) → around < 64 → kept around n x ≡ x
kept_is around n x lt = rw (lt-ltb around 64 lt) refl

-- ---- blanks

-- whether blanks begin here
abbrev pub is_spaced : List ℕ → Bool
is_spaced [] = false
is_spaced (b ∷ rest) = is_blank b

pub after_no_blank : {bytes rest : List ℕ} → IsAfter bytes rest → is_spaced rest ≡ false
after_no_blank (here h) = h
after_no_blank (blank h a) = after_no_blank a

pub after_no_colon : {bytes rest : List ℕ} → IsAfter bytes rest → sees 58 rest ≡ false → sees 58 bytes ≡ false
after_no_colon (here h) e = e
after_no_colon (blank {b = b} h a) e = elim (tested (b == 58)) [
  | inr k ↦ k
  | inl k ↦ absurd (let q : true ≡ false = sym h ∙ ap is_blank (eqb-true b 58 k) in cc)
]

pub blanks_go : {bytes rest : List ℕ} → IsAfter bytes rest → (n : ℕ) (f : Frame) (fs : List Frame) (after : Bool) (height : ℕ) (spaced : Bool) → (spaced' : Bool) × Goes (at n f fs after height spaced bytes) (at n f fs after height spaced' rest)
blanks_go (here h) n f fs after height spaced = (spaced, there)
blanks_go (blank {b = b} h a) n f fs after height spaced =
    let g = blanks_go a n f fs after height (b == 32) in
    (g.0, by (rw h refl) (omega arith) g.1)

-- ---- how a token begins

-- what begins in quotes
pub quote_is : (b : ℕ) (rest : List ℕ) → start b rest ≡ starts.InQuotes → (b ≡ 39) ⊎ (b ≡ 34)
quote_is b rest e =
    elim (tested (b == 34 || b == 39)) [
      | inl h ↦ which h
      | inr h ↦ elim (tested (b == 91 || b == 123)) [
        | inl i ↦ absurd (let q : starts.InBrackets ≡ starts.InQuotes = rw (h, i) at e in cc)
        | inr i ↦ elim (tested (b == 124 || b == 62)) [
          | inl j ↦ absurd (let q : starts.InLines ≡ starts.InQuotes = rw (h, i, j) at e in cc)
          | inr j ↦ absurd (last_two (left_out b rest) (no_plain b rest) (rw (h, i, j) at e))
        ]
      ]
    ]
  where
    which : (b == 34 || b == 39) ≡ true → (b ≡ 39) ⊎ (b ≡ 34)
    which h = elim (tested (b == 34)) [
      | inl p ↦ inr (eqb-true b 34 p)
      | inr p ↦ inl (eqb-true b 39 (rw p at h))
    ]

    last_two : (x y : Bool) → cond x starts.LeftOut (cond y starts.Refused starts.Plain) ≡ starts.InQuotes → ⊥
    last_two true y q = cc
    last_two false true q = cc
    last_two false false q = cc

record Begins (b : ℕ) (bytes : List ℕ) : Type 0 where
  quote : (b == 34 || b == 39) ≡ false
  bracket : (b == 91 || b == 123) ≡ false
  kept_in : left_out b bytes ≡ false
  may_be : no_plain b bytes ≡ false

plain_begins : (b : ℕ) (bytes : List ℕ) → start b bytes ≡ starts.Plain → Begins b bytes
plain_begins b bytes e =
    elim (tested (b == 34 || b == 39)) [
      | inl h ↦ absurd (let q : starts.InQuotes ≡ starts.Plain = rw h at e in cc)
      | inr h ↦ elim (tested (b == 91 || b == 123)) [
        | inl i ↦ absurd (let q : starts.InBrackets ≡ starts.Plain = rw (h, i) at e in cc)
        | inr i ↦ elim (tested (b == 124 || b == 62)) [
          | inl j ↦ absurd (let q : starts.InLines ≡ starts.Plain = rw (h, i, j) at e in cc)
          | inr j ↦ elim (tested (left_out b bytes)) [
            | inl k ↦ absurd (let q : starts.LeftOut ≡ starts.Plain = rw (h, i, j, k) at e in cc)
            | inr k ↦ elim (tested (no_plain b bytes)) [
              | inl l ↦ absurd (let q : starts.Refused ≡ starts.Plain = rw (h, i, j, k, l) at e in cc)
              | inr l ↦ record { quote = h; bracket = i; kept_in = k; may_be = l }
            ]
          ]
        ]
      ]
    ]

-- the bytes that no plain scalar begins with
record NoSign (b : ℕ) : Type 0 where
  comma : (b == 44) ≡ false
  bracket : (b == 93) ≡ false
  brace : (b == 125) ≡ false
  comment : (b == 35) ≡ false
  word : is_word_end b false ≡ false

no_sign : (b : ℕ) (bytes : List ℕ) → no_plain b bytes ≡ false → NoSign b
no_sign b bytes e =
    let h1 = (or_false _ ((b == 45 || b == 58) && sees 32 bytes) e).0 in
    let h2 = (or_false _ (b == 34) h1).0 in
    let h3 = (or_false _ (b == 39) h2).0 in
    let h4 = (or_false _ (b == 62) h3).0 in
    let h5 = or_false _ (b == 124) h4 in
    let h6 = or_false (b == 44 || b == 91 || b == 93 || b == 123 || b == 125) (b == 35) h5.0 in
    let h7 = or_false (b == 44 || b == 91 || b == 93 || b == 123) (b == 125) h6.0 in
    let h8 = or_false (b == 44 || b == 91 || b == 93) (b == 123) h7.0 in
    let h9 = or_false (b == 44 || b == 91) (b == 93) h8.0 in
    let h10 = or_false (b == 44) (b == 91) h9.0 in
    record { comma = h10.0; bracket = h9.1; brace = h7.1; comment = h6.1; word = rw (h6.0, h6.1) refl }

no_closing : (f : Frame) (b : ℕ) → (b == 93) ≡ false → (b == 125) ≡ false → (b == closing f) ≡ false
no_closing f b h i = elim (tested f.is_map) [ inl k ↦ rw (k, i) refl | inr k ↦ rw (k, h) refl ]

and_none : (a : Bool) → (a && false) ≡ false
and_none true = refl
and_none false = refl

-- a token that is no blank and no sign
pub scalar_step : (n : ℕ) (f : Frame) (fs : List Frame) (height b : ℕ) (spaced : Bool) (bytes : List ℕ) → is_blank b ≡ false → (b == 35) ≡ false → (b == 44) ≡ false → (b == 125) ≡ false → (b == 93) ≡ false → (b == 91 || b == 123) ≡ false
    → step (at n f fs false height spaced (b ∷ bytes)) ≡ scalar (at n f fs false height (b == 32) bytes) b
scalar_step n f fs height b spaced bytes no_blank no_comment no_comma no_brace no_bracket no_open =
    let no_close : (b == closing f) ≡ false = no_closing f b no_bracket no_brace in
    let none_waits : (is_some f.key && (b == 44 || b == 125)) ≡ false = rw (no_comma, no_brace) (and_none (is_some f.key)) in
    rw (no_blank, no_comment, none_waits, no_close, no_open) refl

-- A comment cannot stand in flow.
pub comment_fails : (n : ℕ) (f : Frame) (fs : List Frame) (after : Bool) (height : ℕ) (spaced : Bool) (bytes : List ℕ) → (code : Code) × (step (at n f fs after height spaced (35 ∷ bytes)) ≡ fails code)
comment_fails n f fs after height true bytes = (left_out_code, refl)
comment_fails n f fs true height false bytes = (Structure, let no_close : (35 == closing f) ≡ false = no_closing f 35 refl refl in rw no_close refl)
comment_fails n f fs false height false bytes =
    let none_waits : (is_some f.key && false) ≡ false = and_none (is_some f.key) in
    let no_close : (35 == closing f) ≡ false = no_closing f 35 refl refl in
    (Structure, rw (none_waits, no_close) refl)

-- what begins no quotes, nothing that is left out, and no other sign
pub begins_plain : (b : ℕ) (bytes : List ℕ) → (b == 34 || b == 39) ≡ false → left_out b bytes ≡ false → no_plain b bytes ≡ false → start b bytes ≡ starts.Plain
begins_plain b bytes h k e =
    let h1 = (or_false _ ((b == 45 || b == 58) && sees 32 bytes) e).0 in
    let h2 = (or_false _ (b == 34) h1).0 in
    let h3 = (or_false _ (b == 39) h2).0 in
    let h4 = or_false _ (b == 62) h3 in
    let h5 = or_false _ (b == 124) h4.0 in
    let h6 = or_false (b == 44 || b == 91 || b == 93 || b == 123 || b == 125) (b == 35) h5.0 in
    let h7 = or_false (b == 44 || b == 91 || b == 93 || b == 123) (b == 125) h6.0 in
    let h8 = or_false (b == 44 || b == 91 || b == 93) (b == 123) h7.0 in
    let h9 = or_false (b == 44 || b == 91) (b == 93) h8.0 in
    let h10 = or_false (b == 44) (b == 91) h9.0 in
    let opening : (b == 91 || b == 123) ≡ false = rw (h10.1, h8.1) refl in
    let lines : (b == 124 || b == 62) ≡ false = rw (h5.1, h4.1) refl in
    rw (h, opening, lines, k, e) refl

pub plain_step : (n : ℕ) (f : Frame) (fs : List Frame) (height b : ℕ) (spaced : Bool) (bytes : List ℕ) → is_blank b ≡ false → start b bytes ≡ starts.Plain
    → step (at n f fs false height spaced (b ∷ bytes)) ≡ plain (at n f fs false height (b == 32) bytes) b
plain_step n f fs height b spaced bytes no_blank e =
    let s = plain_begins b bytes e in
    let t = no_sign b bytes s.may_be in
    scalar_step n f fs height b spaced bytes no_blank t.comment t.comma t.brace t.bracket s.bracket ∙ rw (s.quote, s.kept_in, s.may_be) refl

pub quoted_step : (n : ℕ) (f : Frame) (fs : List Frame) (height b : ℕ) (spaced : Bool) (bytes : List ℕ) → (b ≡ 39) ⊎ (b ≡ 34) → step (at n f fs false height spaced (b ∷ bytes)) ≡ quoted (at n f fs false height (b == 32) bytes) b
quoted_step n f fs height b spaced bytes two = elim two [
  | inl e ↦ subst (λ (c : ℕ). step (at n f fs false height spaced (c ∷ bytes)) ≡ quoted (at n f fs false height (c == 32) bytes) c) (sym e) (scalar_step n f fs height 39 spaced bytes refl refl refl refl refl refl)
  | inr e ↦ subst (λ (c : ℕ). step (at n f fs false height spaced (c ∷ bytes)) ≡ quoted (at n f fs false height (c == 32) bytes) c) (sym e) (scalar_step n f fs height 34 spaced bytes refl refl refl refl refl refl)
]

-- ---- brackets and commas

pub list_opens : (n : ℕ) (f : Frame) (fs : List Frame) (height : ℕ) (spaced : Bool) (bytes : List ℕ) → wants_key f ≡ false → step (at n f fs false height spaced (91 ∷ bytes)) ≡ on (at n (list_frame []) (f ∷ fs) false (raised height (length fs)) false bytes)
list_opens n f fs height spaced bytes wants =
    let none_waits : (is_some f.key && false) ≡ false = and_none (is_some f.key) in
    let no_close : (91 == closing f) ≡ false = no_closing f 91 refl refl in
    rw (none_waits, no_close, wants) refl

pub map_opens : (n : ℕ) (f : Frame) (fs : List Frame) (height : ℕ) (spaced : Bool) (bytes : List ℕ) → wants_key f ≡ false → step (at n f fs false height spaced (123 ∷ bytes)) ≡ on (at n (map_frame [] None) (f ∷ fs) false (raised height (length fs)) false bytes)
map_opens n f fs height spaced bytes wants =
    let none_waits : (is_some f.key && false) ≡ false = and_none (is_some f.key) in
    let no_close : (123 == closing f) ≡ false = no_closing f 123 refl refl in
    rw (none_waits, no_close, wants) refl

pub list_closes : (n : ℕ) (xs : List Node) (fs : List Frame) (after : Bool) (height : ℕ) (spaced : Bool) (rest : List ℕ) → step (at n (list_frame xs) fs after height spaced (93 ∷ rest)) ≡ shuts n height rest (kept (length fs) n (listed n xs)) fs
list_closes n xs fs true height spaced rest = shut_is n (list_frame xs) fs true height rest (kept (length fs) n (listed n xs)) fs
list_closes n xs fs false height spaced rest = shut_is n (list_frame xs) fs false height rest (kept (length fs) n (listed n xs)) fs

pub map_closes : (n : ℕ) (ps : List Pair) (fs : List Frame) (after : Bool) (height : ℕ) (spaced : Bool) (rest : List ℕ) → step (at n (map_frame ps None) fs after height spaced (125 ∷ rest)) ≡ shuts n height rest (kept (length fs) n (mapped n ps)) fs
map_closes n ps fs true height spaced rest = shut_is n (map_frame ps None) fs true height rest (kept (length fs) n (mapped n ps)) fs
map_closes n ps fs false height spaced rest = shut_is n (map_frame ps None) fs false height rest (kept (length fs) n (mapped n ps)) fs

-- a key without a value
pub key_closes : (n : ℕ) (ps : List Pair) (k : List ℕ) (fs : List Frame) (height : ℕ) (spaced : Bool) (rest : List ℕ)
    → step (at n (map_frame ps (Some k)) fs false height spaced (125 ∷ rest)) ≡ shuts n (raised height (length fs)) rest (kept (length fs) n (mapped n (ps ++ (k, n, null n) ∷ []))) fs
key_closes n ps k fs height spaced rest = shut_is n (map_frame (ps ++ (k, n, null n) ∷ []) None) fs true (raised height (length fs)) rest (kept (length fs) n (mapped n (ps ++ (k, n, null n) ∷ []))) fs

pub key_goes_on : (n : ℕ) (ps : List Pair) (k : List ℕ) (fs : List Frame) (height : ℕ) (spaced : Bool) (rest : List ℕ)
    → step (at n (map_frame ps (Some k)) fs false height spaced (44 ∷ rest)) ≡ on (at n (map_frame (ps ++ (k, n, null n) ∷ []) None) fs false (raised height (length fs)) false rest)
key_goes_on n ps k fs height spaced rest = refl

-- ---- plain scalars

-- the bytes up to the end of a scalar that begins with this one
pub cut_is : (b : ℕ) (bytes : List ℕ) → is_blank b ≡ false → start b bytes ≡ starts.Plain → cut false (b ∷ bytes) ≡ b ∷ cut false bytes
unfolding cut
cut_is b bytes no_blank e =
    let t = no_sign b bytes (plain_begins b bytes e).may_be in
    let no_space = (or_false (b == 32) (b == 9) no_blank).0 in
    rw (t.word, no_space) refl

pub plain_is : (m : Machine) (b : ℕ) → plain m b ≡ plain_by m (b ∷ cut false m.rest) (length (cut false m.rest))
plain_is m b =
    let e : word_end false 0 m.rest ≡ length (cut false m.rest) = omega (arith, word_end_is m.rest false 0) in
    let f : word_end false 0 m.rest + 1 ≡ suc (length (cut false m.rest)) = omega (arith, e) in
    ap (λ (x : ℕ). plain_by m (take x (b ∷ m.rest)) (word_end false 0 m.rest)) f ∙ ap (λ (x : List ℕ). plain_by m (b ∷ x) (word_end false 0 m.rest)) (take_cut m.rest false) ∙ ap (plain_by m (b ∷ cut false m.rest)) e
