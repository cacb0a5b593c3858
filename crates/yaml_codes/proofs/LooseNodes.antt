-- Nodes of the notation of pieces that are a front of others, or the same as they.
use Rattle.std.proofs.Common.{◌≡◌, ◌≢◌, ℕ, true, false, List, [], ◌∷◌, ◌++◌, refl, subst}
use Rattle.yaml_tree.specs.declared.node.Node.{Node}
use Rattle.yaml_tree.specs.declared.piece.Piece.{Piece}
use Rattle.yaml_tree.specs.declared.piece.What.{What}
use Rattle.yaml_tree.specs.declared.piece.What.TheVariants.{Dash}
use Rattle.yaml_tree.specs.Nodes.{Pair, null, listed, mapped}
use Rattle.yaml_tree.specs.Pieces.{leaf}
use Rattle.yaml_tree.proofs.Low.{Low}
use Rattle.yaml_laws.specs.Indents as i
use Rattle.yaml_rules.specs.Notation as n
use Rattle.yaml_codes.proofs.LoosePieces.{SameWhat, same_dash, same_key, same_leaf, Same, no_more, one_more}

-- ---- a front

-- the first pieces are the front of the second ones but for their flow
pub data IsFront : List Piece → List Piece → Type 0 where
  ends : {qs : List Piece} → IsFront [] qs
  goes : {line column : ℕ} {w v : What} {ps qs : List Piece} → SameWhat false w v → IsFront ps qs
      → IsFront (record { line = line; column = column; what = w } ∷ ps) (record { line = line; column = column; what = v } ∷ qs)

pub front_is : {ps front : List Piece} (tail : List Piece) → Same false ps front → IsFront ps (front ++ tail)
front_is tail no_more = ends
front_is tail (one_more w s) = goes w (front_is tail s)

not_dash : {w v : What} → SameWhat false w v → v ≢ Dash → w ≢ Dash
not_dash same_dash h e = h refl
not_dash same_key h e = cc
not_dash (same_leaf s) h e = cc

left_front : {floor : ℕ} {ps qs : List Piece} → IsFront ps qs → i.IsLeft floor qs → i.IsLeft floor ps
left_front ends h = i.no_piece
left_front (goes w f) (i.lower lt) = i.lower lt

over_front : {column : ℕ} {ps qs : List Piece} → IsFront ps qs → i.IsOver column qs → i.IsOver column ps
over_front ends h = i.nothing
over_front (goes w f) (i.lower lt) = i.lower lt
over_front (goes w f) (i.other e d) = i.other e (not_dash w d)

no_dash_front : {column : ℕ} {ps qs : List Piece} → IsFront ps qs → i.IsNoDash column qs → i.IsNoDash column ps
no_dash_front ends h = i.nothing
no_dash_front (goes w f) (i.elsewhere h) = i.elsewhere h
no_dash_front (goes w f) (i.other d) = i.other (not_dash w d)

mutual
  node_front : {line floor : ℕ} {qs rest : List Piece} {x : Node} → n.IsNode line floor qs x rest → {ps : List Piece} → IsFront ps qs → (y : Node) × (left : List Piece) × n.IsNode line floor ps y left × IsFront left rest
  node_front {line = line} h ends = (null line, [], n.absent i.no_piece, ends)
  node_front {line = line} (n.absent a) {ps = ps} (goes w f) = (null line, ps, n.absent (left_front (goes w f) a), goes w f)
  node_front (n.one_leaf le) (goes (same_leaf {y = y} s) f) = (y, _, n.one_leaf le, f)
  node_front (n.list {n = m} le i) (goes same_dash f) =
      let r = items_front i (goes same_dash f) in
      (listed m r.0, r.1, n.list le r.2, r.3)
  node_front (n.map {n = m} le i) (goes same_key f) =
      let r = pairs_front i (goes same_key f) in
      (mapped m r.0, r.1, n.map le r.2, r.3)

  items_front : {indent : ℕ} {qs rest : List Piece} {xs : List Node} → n.IsItems indent qs xs rest → {ps : List Piece} → IsFront ps qs → (ys : List Node) × (left : List Piece) × n.IsItems indent ps ys left × IsFront left rest
  items_front h ends = ([], [], n.no_item i.nothing, ends)
  items_front (n.no_item o) {ps = ps} (goes w f) = ([], ps, n.no_item (over_front (goes w f) o), goes w f)
  items_front (n.item x i) (goes same_dash f) =
      let a = node_front x f in
      let b = items_front i a.3 in
      (a.0 ∷ b.0, b.1, n.item a.2 b.2, b.3)

  value_front : {indent line : ℕ} {qs rest : List Piece} {x : Node} → n.IsValue indent line qs x rest → {ps : List Piece} → IsFront ps qs → (y : Node) × (left : List Piece) × n.IsValue indent line ps y left × IsFront left rest
  value_front {line = line} h ends = (null line, [], n.deeper i.nothing (n.absent i.no_piece), ends)
  value_front (n.own_list x) (goes same_dash f) =
      let a = node_front x (goes same_dash f) in
      (a.0, a.1, n.own_list a.2, a.3)
  value_front (n.deeper d x) (goes w f) =
      let a = node_front x (goes w f) in
      (a.0, a.1, n.deeper (no_dash_front (goes w f) d) a.2, a.3)

  pairs_front : {indent : ℕ} {qs rest : List Piece} {xs : List Pair} → n.IsPairs indent qs xs rest → {ps : List Piece} → IsFront ps qs → (ys : List Pair) × (left : List Piece) × n.IsPairs indent ps ys left × IsFront left rest
  pairs_front h ends = ([], [], n.no_pair i.no_piece, ends)
  pairs_front (n.no_pair o) {ps = ps} (goes w f) = ([], ps, n.no_pair (left_front (goes w f) o), goes w f)
  pairs_front (n.pair {n = m} {k = k} x i) (goes same_key f) =
      let a = value_front x f in
      let b = pairs_front i a.3 in
      ((k, m, a.0) ∷ b.0, b.1, n.pair a.2 b.2, b.3)

only_end : {left : List Piece} → IsFront left [] → left ≡ []
only_end ends = refl

pub notation_front : (ps qs : List Piece) (root : Node) → n.IsNotation qs root → IsFront ps qs → (y : Node) × n.IsNotation ps y
notation_front ps qs root h f =
    let r = node_front h f in
    (r.0, subst (λ (left : List Piece). n.IsNode 1 0 ps r.0 left) (only_end r.3) r.2)

-- ---- the same, where no flow is too high

same_not_dash : {w v : What} → SameWhat true w v → v ≢ Dash → w ≢ Dash
same_not_dash same_dash h e = h refl
same_not_dash same_key h e = cc
same_not_dash (same_leaf s) h e = cc

left_same : {floor : ℕ} {ps qs : List Piece} → Same true ps qs → i.IsLeft floor qs → i.IsLeft floor ps
left_same no_more h = i.no_piece
left_same (one_more w f) (i.lower lt) = i.lower lt

over_same : {column : ℕ} {ps qs : List Piece} → Same true ps qs → i.IsOver column qs → i.IsOver column ps
over_same no_more h = i.nothing
over_same (one_more w f) (i.lower lt) = i.lower lt
over_same (one_more w f) (i.other e d) = i.other e (same_not_dash w d)

no_dash_same : {column : ℕ} {ps qs : List Piece} → Same true ps qs → i.IsNoDash column qs → i.IsNoDash column ps
no_dash_same no_more h = i.nothing
no_dash_same (one_more w f) (i.elsewhere h) = i.elsewhere h
no_dash_same (one_more w f) (i.other d) = i.other (same_not_dash w d)

mutual
  node_same : {line floor : ℕ} {qs rest : List Piece} {x : Node} → n.IsNode line floor qs x rest → {ps : List Piece} → Same true ps qs → Low ps → (left : List Piece) × n.IsNode line floor ps x left × Same true left rest × Low left
  node_same (n.absent a) {ps = ps} f low = (ps, n.absent (left_same f a), f, low)
  node_same {line = line} {floor = floor} (n.one_leaf {n = m} {indent = c} {x = x} le) (one_more {ps = ps} (same_leaf {y = y} {height = height} {out = out} s) f) low =
      (ps, subst (λ (z : Node). n.IsNode line floor (leaf m c y height out ∷ ps) z ps) (s refl low.0) (n.one_leaf le), f, low.1)
  node_same (n.list le i) (one_more same_dash f) low =
      let r = items_same i (one_more same_dash f) low in
      (r.0, n.list le r.1, r.2, r.3)
  node_same (n.map le i) (one_more same_key f) low =
      let r = pairs_same i (one_more same_key f) low in
      (r.0, n.map le r.1, r.2, r.3)

  items_same : {indent : ℕ} {qs rest : List Piece} {xs : List Node} → n.IsItems indent qs xs rest → {ps : List Piece} → Same true ps qs → Low ps → (left : List Piece) × n.IsItems indent ps xs left × Same true left rest × Low left
  items_same (n.no_item o) {ps = ps} f low = (ps, n.no_item (over_same f o), f, low)
  items_same (n.item x i) (one_more same_dash f) low =
      let a = node_same x f low.1 in
      let b = items_same i a.2 a.3 in
      (b.0, n.item a.1 b.1, b.2, b.3)

  value_same : {indent line : ℕ} {qs rest : List Piece} {x : Node} → n.IsValue indent line qs x rest → {ps : List Piece} → Same true ps qs → Low ps → (left : List Piece) × n.IsValue indent line ps x left × Same true left rest × Low left
  value_same (n.own_list x) (one_more same_dash f) low =
      let a = node_same x (one_more same_dash f) low in
      (a.0, n.own_list a.1, a.2, a.3)
  value_same (n.deeper d x) f low =
      let a = node_same x f low in
      (a.0, n.deeper (no_dash_same f d) a.1, a.2, a.3)

  pairs_same : {indent : ℕ} {qs rest : List Piece} {xs : List Pair} → n.IsPairs indent qs xs rest → {ps : List Piece} → Same true ps qs → Low ps → (left : List Piece) × n.IsPairs indent ps xs left × Same true left rest × Low left
  pairs_same (n.no_pair o) {ps = ps} f low = (ps, n.no_pair (left_same f o), f, low)
  pairs_same (n.pair x i) (one_more same_key f) low =
      let a = value_same x f low.1 in
      let b = pairs_same i a.2 a.3 in
      (b.0, n.pair a.1 b.1, b.2, b.3)

same_end : {left : List Piece} → Same true left [] → left ≡ []
same_end no_more = refl

pub notation_same : (ps qs : List Piece) (root : Node) → n.IsNotation qs root → Same true ps qs → Low ps → n.IsNotation ps root
notation_same ps qs root h s low =
    let r = node_same h s low in
    subst (λ (left : List Piece). n.IsNode 1 0 ps root left) (same_end r.2) r.1
