-- Pieces that the lines of a text give: those of one line stand in one another, and flow is as high as it says.
use Rattle.std.proofs.Common.{◌≡◌, ℕ, zero, suc, ◌+◌, ◌≤◌, ◌<◌, Bool, inl, inr, List, [], ◌∷◌, ◌++◌, refl, sym, ap, subst, arith}
use Rattle.std.specs.Prelude.{nat_lt}
use Rattle.std.proofs.lemmas.Bool.{ltb-true, ltb-false}
use Rattle.std.proofs.lemmas.List.{append-nil}
use Rattle.yaml_scan.specs.declared.line.RawLine.{RawLine}
use Rattle.yaml_tree.specs.declared.node.Node.{Node}
use Rattle.yaml_tree.specs.declared.piece.Piece.{Piece}
use Rattle.yaml_tree.specs.declared.piece.What.{What}
use Rattle.yaml_tree.specs.declared.piece.What.TheVariants.{Dash, Key, Leaf}
use Rattle.yaml_tree.specs.Nodes.{Pair, listed, mapped}
use Rattle.yaml_tree.specs.Keys.{IsColon, here as colon_here, blank as colon_blank, IsKeyText, ends as key_ends, byte as key_byte, IsKey, plain as plain_key, quoted as quoted_key}
use Rattle.yaml_tree.specs.Spelling.{IsAt, here, blank, leaf as strict_leaf, key_value as strict_value}
use Rattle.yaml_tree.proofs.BracketSteps.{quote_is}
use Rattle.yaml_tree.proofs.OneLine.{inside_shorter}
use Rattle.yaml_tree.proofs.Shorter.{IsEnd, all, later}
use Rattle.yaml_tree.proofs.PiecesFound.{heads_end}
use Rattle.yaml_laws.proofs.Laid.{AllOn}
use Rattle.yaml_laws.proofs.Numbers.{Numbered}
use Rattle.yaml_laws.proofs.Orders.{tested}
use Rattle.yaml_rules.specs.LooseFlow.{IsFlow, plain as plain_is, quoted as quoted_is, list as list_is, map as map_is, IsItems, no_item, last_item, more_items, IsPair, key_alone, no_value, key_value as valued, IsPairs, no_pair, last_pair, more_pairs}
use Rattle.yaml_rules.specs.LooseText.{of_grammar, in_brackets, IsLooseHeads, nothing, dash as dash_is, leaf as leaf_is, key as key_is, key_value, IsLoosePieces, none as no_line, line as a_line}
use Rattle.yaml_rules.specs.Notation as n
use Rattle.yaml_rules.proofs.Chains.{IsOpener, Chained, Linked, AllSized, IsFrom}
use Rattle.yaml_rules.proofs.Layouts.{Fit}

-- ---- flow

pub flow_here : {at height : ℕ} {bytes rest : List ℕ} {x : Node} → IsFlow at bytes x height rest → n.IsWithin at 0 x
flow_here (plain_is s w) = n.here
flow_here (quoted_is s w) = n.here
flow_here (list_is i) = n.here
flow_here (map_is i) = n.here

mutual
  pub flow_within : {at height : ℕ} {bytes rest : List ℕ} {x : Node} → IsFlow at bytes x height rest → (depth : ℕ) → depth < height → n.IsWithin at depth x
  flow_within {at = at} (plain_is {w = w} s i) zero lt = n.here
  flow_within {at = at} (plain_is s i) (suc depth) lt = absurd (omega arith)
  flow_within {at = at} (quoted_is s i) zero lt = n.here
  flow_within {at = at} (quoted_is s i) (suc depth) lt = absurd (omega arith)
  flow_within {at = at} (list_is i) zero lt = n.here
  flow_within {at = at} (list_is {xs = xs} i) (suc depth) lt =
      let r = items_within i depth (omega arith) in
      subst (λ (ys : List Node). n.IsWithin at (suc depth) (listed at ys)) (sym r.3) (n.in_list r.0 r.1 r.4)
  flow_within {at = at} (map_is i) zero lt = n.here
  flow_within {at = at} (map_is {ps = ps} i) (suc depth) lt =
      let r = pairs_within i depth (omega arith) in
      subst (λ (qs : List Pair). n.IsWithin at (suc depth) (mapped at qs)) (sym r.3) (n.in_map r.0 r.1 r.2.0 r.2.1 r.4)

  items_within : {at height : ℕ} {bytes rest : List ℕ} {xs : List Node} → IsItems at bytes xs height rest → (depth : ℕ) → depth < height
      → (ys zs : List Node) × (x : Node) × (xs ≡ ys ++ x ∷ zs) × n.IsWithin at depth x
  items_within (no_item a) depth lt = absurd (omega arith)
  items_within (last_item {x = x} a v c) depth lt = ([], [], x, refl, flow_within v depth lt)
  items_within (more_items {height = height} {others = others} {x = x} {xs = xs} a v c i) depth lt =
      elim (tested (nat_lt depth height)) [
        | inl h ↦ ([], xs, x, refl, flow_within v depth (ltb-true depth height h))
        | inr h ↦
            let le = ltb-false depth height h in
            let r = items_within i depth (omega (arith, le, lt)) in
            (x ∷ r.0, r.1, r.2, ap (λ (ys : List Node). x ∷ ys) r.3, r.4)
      ]

  pair_within : {at height : ℕ} {bytes rest : List ℕ} {p : Pair} → IsPair at bytes p height rest → (depth : ℕ) → depth < height → n.IsWithin at depth p.2
  pair_within (key_alone i) zero lt = n.here
  pair_within (key_alone i) (suc depth) lt = absurd (omega arith)
  pair_within (no_value i ends) zero lt = n.here
  pair_within (no_value i ends) (suc depth) lt = absurd (omega arith)
  pair_within (valued i ends a v) depth lt = flow_within v depth lt

  pairs_within : {at height : ℕ} {bytes rest : List ℕ} {ps : List Pair} → IsPairs at bytes ps height rest → (depth : ℕ) → depth < height
      → (qs rs : List Pair) × (p : Pair) × (ps ≡ qs ++ p ∷ rs) × n.IsWithin at depth p.2
  pairs_within (no_pair a) depth lt = absurd (omega arith)
  pairs_within (last_pair {p = p} a v c) depth lt = ([], [], p, refl, pair_within v depth lt)
  pairs_within (more_pairs {height = height} {others = others} {p = p} {ps = ps} a v c i) depth lt =
      elim (tested (nat_lt depth height)) [
        | inl h ↦ ([], ps, p, refl, pair_within v depth (ltb-true depth height h))
        | inr h ↦
            let le = ltb-false depth height h in
            let r = pairs_within i depth (omega (arith, le, lt)) in
            (p ∷ r.0, r.1, r.2, ap (λ (qs : List Pair). p ∷ qs) r.3, r.4)
      ]

pub only_here : {at : ℕ} {x : Node} → n.IsWithin at 0 x → (depth : ℕ) → depth < 1 → n.IsWithin at depth x
only_here h zero lt = h
only_here h (suc depth) lt = absurd (omega arith)

-- ---- the pieces of a line

at_right : {column at : ℕ} {bytes rest : List ℕ} → IsAt column bytes at rest → column ≤ at
at_right (here h) = omega arith
at_right (blank h a) = let le = at_right a in omega (arith, le)

colon_right : {column behind : ℕ} {bytes rest : List ℕ} → IsColon column bytes behind rest → column < behind
colon_right (colon_here e) = omega arith
colon_right (colon_blank h c) = let lt = colon_right c in omega (arith, lt)

text_right : {column behind : ℕ} {bytes s rest : List ℕ} → IsKeyText column bytes s behind rest → column < behind
text_right (key_ends c) = colon_right c
text_right (key_byte e e' t) = let lt = text_right t in omega (arith, lt)

key_before : {column behind : ℕ} {bytes k rest : List ℕ} → IsKey column bytes k behind rest → column < behind
key_before (plain_key s t m e) = text_right t
key_before (quoted_key {b = b} {bytes = bytes} {rest = rest} s i h e) = let lt = inside_shorter b (quote_is b bytes s) i in omega (arith, lt)

module _ (at : ℕ) where
  pub record Line (line column : ℕ) (ps : List Piece) : Type 0 where
    pub fit : Fit at ps
    pub linked : Linked ps
    pub from : IsFrom column ps
    pub on_line : AllOn (λ m. m ≡ line) ps

  chained : (p : Piece) (ps : List Piece) (column : ℕ) → p.column < column → p.what ≡ Dash → IsFrom column ps → Linked ps → Chained p ps
  chained p [] column lt is from linked = tt
  chained p (q ∷ qs) column lt is from linked = ((opener p.what is, omega (arith, from, lt)), linked)
    where
      opener : (w : What) → w ≡ Dash → IsOpener w
      opener Dash e = tt
      opener (Key k) e = absurd cc
      opener (Leaf x height out) e = absurd cc

  pub line_fits : {line right column : ℕ} {spaced : Bool} {bytes : List ℕ} {ls ls' : List RawLine} {ps : List Piece} → IsLooseHeads line right spaced column bytes ls ps ls' → AllSized ps → Line line column ps
  line_fits (nothing e) sized = record { fit = tt; linked = tt; from = tt; on_line = tt }
  line_fits {line = line} {column = column} (dash_is {at = c} {ps = ps} a d r) sized =
      let more = line_fits r sized.1 in
      let le = at_right a in
      let p : Piece = record { line = line; column = c; what = Dash } in
      let chain : Chained p ps = chained p ps (c + 1) (omega arith) refl more.from more.linked in
      record { fit = ((λ same. chain), tt, more.fit); linked = chain; from = omega (arith, le); on_line = (refl, more.on_line) }
  line_fits (leaf_is a d l) sized =
      let le = at_right a in
      record { fit = ((λ same. tt), sized.0, tt); linked = tt; from = omega (arith, le); on_line = (refl, tt) }
  line_fits (key_is a d k e) sized =
      let le = at_right a in
      record { fit = ((λ same. tt), tt, tt); linked = tt; from = omega (arith, le); on_line = (refl, tt) }
  line_fits (key_value {at = c} {behind = behind} {value = v} a d k w l) sized =
      let le = at_right a in
      let le' = at_right w in
      let before = key_before k in
      let lt : c < v = omega (arith, before, le') in
      record { fit = ((λ same. ((tt, lt), tt)), tt, ((λ same. tt), sized.1.0, tt)); linked = ((tt, lt), tt); from = omega (arith, le); on_line = (refl, (refl, tt)) }

pub loose_end : {n right column : ℕ} {spaced : Bool} {bytes : List ℕ} {ls ls' : List RawLine} {ps : List Piece} → IsLooseHeads n right spaced column bytes ls ps ls' → IsEnd ls' ls
loose_end (nothing e) = all
loose_end (dash_is a d r) = loose_end r
loose_end (leaf_is {spaced = spaced} a d (of_grammar l)) = heads_end (strict_leaf {spaced = spaced} a d l)
loose_end (leaf_is a d (in_brackets s f e)) = all
loose_end (key_is a d k e) = all
loose_end (key_value {right = right} {spaced = spaced} a d k w (of_grammar l)) = heads_end (strict_value {right = right} {spaced = spaced} a d k w l)
loose_end (key_value a d k w (in_brackets s f e)) = all

-- ---- all lines

-- each line has a greater number than the one before it
abbrev pub Ascends : ℕ → List RawLine → Type 0
Ascends m [] = Unit {0}
Ascends m (l ∷ ls) = (m ≤ l.line) × Ascends (l.line + 1) ls

ascends_later : (m k : ℕ) (ls : List RawLine) → m ≤ k → Ascends k ls → Ascends m ls
ascends_later m k [] le h = tt
ascends_later m k (l ∷ ls) le h = let from = h.0 in (omega (arith, le, from), h.1)

pub ascends_end : (m : ℕ) {ls ls' : List RawLine} → IsEnd ls' ls → Ascends m ls → Ascends m ls'
ascends_end m all h = h
ascends_end m (later {l = l} {ls = ls} i) h = let from = h.0 in ascends_end m i (ascends_later m (l.line + 1) ls (omega (arith, from)) h.1)

pub ascends_start : (l : RawLine) (ls : List RawLine) → Ascends 1 (l ∷ ls) → Ascends 1 ls
ascends_start l ls h = ascends_later 1 (l.line + 1) ls (omega arith) h.1

pub numbered_ascends : (m : ℕ) (ls : List RawLine) → Numbered m ls → Ascends m ls
numbered_ascends m [] h = tt
numbered_ascends m (l ∷ ls) h = let e = h.0 in (omega (arith, e), subst (λ (k : ℕ). Ascends (k + 1) ls) (sym e) (numbered_ascends (m + 1) ls h.1))

on_more : (P : ℕ → Type 0) (ps qs : List Piece) → AllOn P ps → AllOn P qs → AllOn P (ps ++ qs)
on_more P [] qs a b = b
on_more P (p ∷ ps) qs a b = (a.0, on_more P ps qs a.1 b)

on_parts : (P : ℕ → Type 0) (ps qs : List Piece) → AllOn P (ps ++ qs) → AllOn P ps × AllOn P qs
on_parts P [] qs h = (tt, h)
on_parts P (p ∷ ps) qs h = let r = on_parts P ps qs h.1 in ((h.0, r.0), r.1)

on_as : (P Q : ℕ → Type 0) → ((m : ℕ) → P m → Q m) → (ps : List Piece) → AllOn P ps → AllOn Q ps
on_as P Q to [] h = tt
on_as P Q to (p ∷ ps) h = (to p.line h.0, on_as P Q to ps h.1)

module _ (at : ℕ) where
  -- pieces before the line, and those that follow
  fit_more : (ps qs : List Piece) → AllOn (λ m. m < at) ps → Fit at ps → Fit at qs → Fit at (ps ++ qs)
  fit_more [] qs b f g = g
  fit_more (p ∷ ps) qs b f g = let lt = b.0 in ((λ same. absurd (omega (arith, lt, same))), f.1, fit_more ps qs b.1 f.2 g)

  fit_line : (found ps : List Piece) (line : ℕ) → AllOn (λ m. m < line) found → AllOn (λ m. m ≤ at) (found ++ ps) → Fit at found → Fit at ps → AllOn (λ m. m ≡ line) ps → Fit at (found ++ ps)
  fit_line found [] line before le f g on = subst (Fit at) (sym (append-nil found)) f
  fit_line found (p ∷ ps) line before le f g on =
      let is = on.0 in
      let here_at = (on_parts (λ m. m ≤ at) found (p ∷ ps) le).1.0 in
      fit_more found (p ∷ ps) (on_as (λ m. m < line) (λ m. m < at) (λ m lt. omega (arith, lt, is, here_at)) found before) f g

  all_on : (P : ℕ → Type 0) {found whole : List Piece} {ls : List RawLine} → IsLoosePieces found ls whole → AllOn P whole → AllOn P found
  all_on P no_line h = h
  all_on P (a_line {found = found} {ps = ps} i r) h = (on_parts P found ps (all_on P r h)).0

  sized_parts : (ps qs : List Piece) → AllSized (ps ++ qs) → AllSized ps × AllSized qs
  sized_parts [] qs h = (tt, h)
  sized_parts (p ∷ ps) qs h = let r = sized_parts ps qs h.1 in ((h.0, r.0), r.1)

  sized_all : {found whole : List Piece} {ls : List RawLine} → IsLoosePieces found ls whole → AllSized whole → AllSized found
  sized_all no_line h = h
  sized_all (a_line {found = found} {ps = ps} i r) h = (sized_parts found ps (sized_all r h)).0

  pub pieces_fit : {found whole : List Piece} {ls : List RawLine} → IsLoosePieces found ls whole → (m : ℕ) → Ascends m ls → AllOn (λ k. k < m) found → AllSized whole → AllOn (λ k. k ≤ at) whole → Fit at found → Fit at whole
  pieces_fit no_line m up before sized on fit = fit
  pieces_fit (a_line {found = found} {ps = ps} {l = l} {ls = ls} {ls' = ls'} i r) m up before sized on fit =
      let line = line_fits at i (sized_parts found ps (sized_all r sized)).1 in
      let from = up.0 in
      let before_line : AllOn (λ k. k < l.line) found = on_as (λ k. k < m) (λ k. k < l.line) (λ k lt. omega (arith, lt, from)) found before in
      let next : AllOn (λ k. k < l.line + 1) (found ++ ps) =
      on_more (λ k. k < l.line + 1) found ps (on_as (λ k. k < l.line) (λ k. k < l.line + 1) (λ k lt. omega (arith, lt)) found before_line) (on_as (λ k. k ≡ l.line) (λ k. k < l.line + 1) (λ k e. omega (arith, e)) ps line.on_line) in
      pieces_fit r (l.line + 1) (ascends_end (l.line + 1) (loose_end i) up.1) next sized on (fit_line found ps l.line before_line (all_on (λ k. k ≤ at) r on) fit line.fit line.on_line)
