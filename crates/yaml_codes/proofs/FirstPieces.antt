-- Where pieces are in the notation, so are the first of them, whatever their leaves hold.
use Rattle.std.proofs.Common.{◌≡◌, ◌≢◌, ℕ, ◌+◌, ◌<◌, ◌⊎◌, inl, inr, List, [], ◌∷◌, ◌++◌, Bool, refl, sym, ap, subst, ◌∙◌}
use Rattle.yaml_tree.specs.declared.node.Node.{Node}
use Rattle.yaml_tree.specs.declared.piece.Piece.{Piece}
use Rattle.yaml_tree.specs.declared.piece.What.{What}
use Rattle.yaml_tree.specs.declared.piece.What.TheVariants.{Dash, Key, Leaf}
use Rattle.yaml_tree.specs.Nodes.{Pair, null, listed, mapped}
use Rattle.yaml_tree.specs.Pieces.{dash as dash_piece, key as key_piece, leaf as leaf_piece}
use Rattle.yaml_laws.specs.Indents as i
use Rattle.yaml_laws.proofs.Followed.{LikeWhat, dash, key, leaf, Alike, none, more}
use Rattle.yaml_rules.specs.Notation as n

-- ---- alike pieces

like_between : {u v w : What} → LikeWhat u v → LikeWhat u w → LikeWhat v w
like_between dash dash = dash
like_between key key = key
like_between leaf leaf = leaf

pub alike_between : {ps qs rs : List Piece} → Alike ps qs → Alike ps rs → Alike qs rs
alike_between none none = none
alike_between (more l a) (more m b) = more (like_between l m) (alike_between a b)

like_dash : {w v : What} → LikeWhat w v → w ≡ Dash → v ≡ Dash
like_dash dash e = refl
like_dash key e = absurd cc
like_dash leaf e = absurd cc

no_dash : {w v : What} → LikeWhat w v → w ≢ Dash → v ≢ Dash
no_dash dash h e = h refl
no_dash key h e = cc
no_dash leaf h e = cc

like_key : {w v : What} {k : List ℕ} → LikeWhat w v → w ≡ Key k → v ≡ Key k
like_key dash e = absurd cc
like_key key e = e
like_key leaf e = absurd cc

like_leaf : {w v : What} {x : Node} {height : ℕ} {out : Bool} → LikeWhat w v → w ≡ Leaf x height out → (y : Node) × (v ≡ Leaf y height out)
like_leaf dash e = absurd cc
like_leaf key e = absurd cc
like_leaf {height = height} {out = out} (leaf {y = y} {height = h} {out = o}) e =
    let high : h ≡ height = cc in
    let outer : o ≡ out = cc in
    (y, ap (λ (m : ℕ). Leaf y m o) high ∙ ap (λ (b : Bool). Leaf y height b) outer)

-- ---- the first of the pieces

module _ (tail : List Piece) where
  -- Of what is left, these are alike to what stands before the tail; or none is left.
  pub data Left (rest ys : List Piece) : Type 0 where
    within : (front : List Piece) → rest ≡ front ++ tail → Alike front ys → Left rest ys
    used : ys ≡ [] → Left rest ys

  -- these pieces are a spelling too
  pub record Cut {A : Type 0} (P : List Piece → A → List Piece → Type 0) (rest qs : List Piece) : Type 0 where
    pub x : A
    pub ys : List Piece
    pub is : P qs x ys
    pub left : Left rest ys

  none_left : {A : Type 0} (P : List Piece → A → List Piece → Type 0) (x : A) (rest qs : List Piece) → P [] x [] → qs ≡ [] → Cut P rest qs
  none_left P x rest qs h e = record { x = x; ys = []; is = subst (λ (zs : List Piece). P zs x []) (sym e) h; left = used refl }

  -- the first of the pieces, and the one that is alike
  data First (p : Piece) (ps qs : List Piece) : Type 0 where
    no_first : qs ≡ [] → First p ps qs
    is_first : (q : Piece) (front left : List Piece) → qs ≡ q ∷ left → ps ≡ front ++ tail → Alike front left → q.line ≡ p.line → q.column ≡ p.column → LikeWhat p.what q.what → First p ps qs

  first : (p : Piece) (ps front qs : List Piece) → p ∷ ps ≡ front ++ tail → Alike front qs → First p ps qs
  first p ps [] qs e none = no_first refl
  first p ps (x ∷ front) qs e (more {line = line} {column = column} {w = w} {v = v} {qs = left} l a) =
      let same : p ≡ record { line = line; column = column; what = w } = cc in
      let rest : ps ≡ front ++ tail = cc in
      is_first (record { line = line; column = column; what = v }) front left refl rest a (sym (ap (λ (q : Piece). q.line) same)) (sym (ap (λ (q : Piece). q.column) same))
      (subst (λ (u : What). LikeWhat u v) (sym (ap (λ (q : Piece). q.what) same)) l)

  piece_is : (q : Piece) (line column : ℕ) (w : What) → q.line ≡ line → q.column ≡ column → q.what ≡ w → q ≡ record { line = line; column = column; what = w }
  piece_is q line column w e e' e'' = rw (sym e, sym e', sym e'') refl

  -- a piece of a kind (q) stands first in both
  record Same (q : Piece) (ps qs : List Piece) : Type 0 where
    front : List Piece
    left : List Piece
    begins : qs ≡ q ∷ left
    are : ps ≡ front ++ tail
    alike : Alike front left

  same_dash : (m column : ℕ) (ps qs : List Piece) → First (dash_piece m column) ps qs → (qs ≡ []) ⊎ Same (dash_piece m column) ps qs
  same_dash m column ps qs (no_first e) = inl e
  same_dash m column ps qs (is_first q front left e are al l c w) =
      inr (record { front = front; left = left; begins = e ∙ ap (λ (p : Piece). p ∷ left) (piece_is q m column Dash l c (like_dash w refl)); are = are; alike = al })

  same_key : (m column : ℕ) (k : List ℕ) (ps qs : List Piece) → First (key_piece m column k) ps qs → (qs ≡ []) ⊎ Same (key_piece m column k) ps qs
  same_key m column k ps qs (no_first e) = inl e
  same_key m column k ps qs (is_first q front left e are al l c w) =
      inr (record { front = front; left = left; begins = e ∙ ap (λ (p : Piece). p ∷ left) (piece_is q m column (Key k) l c (like_key w refl)); are = are; alike = al })

  same_leaf : (m column height : ℕ) (x : Node) (out : Bool) (ps qs : List Piece) → First (leaf_piece m column x height out) ps qs → (qs ≡ []) ⊎ ((y : Node) × Same (leaf_piece m column y height out) ps qs)
  same_leaf m column height x out ps qs (no_first e) = inl e
  same_leaf m column height x out ps qs (is_first q front left e are al l c w) =
      let y = like_leaf w refl in
      inr (y.0, record { front = front; left = left; begins = e ∙ ap (λ (p : Piece). p ∷ left) (piece_is q m column (Leaf y.0 height out) l c y.1); are = are; alike = al })

  -- ---- what follows

  left_first : {indent : ℕ} (all front qs : List Piece) → i.IsLeft indent all → all ≡ front ++ tail → Alike front qs → i.IsLeft indent qs
  left_first all [] qs h e none = i.no_piece
  left_first all (x ∷ front) qs i.no_piece e (more l a) = absurd cc
  left_first {indent} all (x ∷ front) qs (i.lower {p = p} lt) e (more {line = line} {column = column} {w = w} l a) =
      let same : p ≡ record { line = line; column = column; what = w } = cc in
      i.lower (subst (λ (m : ℕ). m < indent) (ap (λ (q : Piece). q.column) same) lt)

  over_first : {indent : ℕ} (all front qs : List Piece) → i.IsOver indent all → all ≡ front ++ tail → Alike front qs → i.IsOver indent qs
  over_first all [] qs h e none = i.nothing
  over_first all (x ∷ front) qs i.nothing e (more l a) = absurd cc
  over_first {indent} all (x ∷ front) qs (i.lower {p = p} lt) e (more {line = line} {column = column} {w = w} l a) =
      let same : p ≡ record { line = line; column = column; what = w } = cc in
      i.lower (subst (λ (m : ℕ). m < indent) (ap (λ (q : Piece). q.column) same) lt)
  over_first {indent} all (x ∷ front) qs (i.other {p = p} at h) e (more {line = line} {column = column} {w = w} l a) =
      let same : p ≡ record { line = line; column = column; what = w } = cc in
      i.other (sym (ap (λ (q : Piece). q.column) same) ∙ at) (no_dash l (λ d. h (ap (λ (q : Piece). q.what) same ∙ d)))

  no_dash_first : {indent : ℕ} (all front qs : List Piece) → i.IsNoDash indent all → all ≡ front ++ tail → Alike front qs → i.IsNoDash indent qs
  no_dash_first all [] qs h e none = i.nothing
  no_dash_first all (x ∷ front) qs i.nothing e (more l a) = absurd cc
  no_dash_first all (x ∷ front) qs (i.elsewhere {p = p} h) e (more {line = line} {column = column} {w = w} l a) =
      let same : p ≡ record { line = line; column = column; what = w } = cc in
      i.elsewhere (λ at. h (ap (λ (q : Piece). q.column) same ∙ at))
  no_dash_first all (x ∷ front) qs (i.other {p = p} h) e (more {line = line} {column = column} {w = w} l a) =
      let same : p ≡ record { line = line; column = column; what = w } = cc in
      i.other (no_dash l (λ d. h (ap (λ (q : Piece). q.what) same ∙ d)))

  -- ---- one rule behind another

  record Both {A B : Type 0} (P : List Piece → A → List Piece → Type 0) (Q : List Piece → B → List Piece → Type 0) (rest qs : List Piece) : Type 0 where
    x : A
    y : B
    middle : List Piece
    ys : List Piece
    former : P qs x middle
    latter : Q middle y ys
    left : Left rest ys

  both : {A B : Type 0} (P : List Piece → A → List Piece → Type 0) (Q : List Piece → B → List Piece → Type 0) (behind rest qs : List Piece) (y : B) → Q [] y [] → Cut P behind qs
      → ((front ys : List Piece) → behind ≡ front ++ tail → Alike front ys → Cut Q rest ys) → Both P Q rest qs
  both P Q behind rest qs y nothing c go = by c.x c.ys c.is c.left
    where
      by : (x : _) (ys : List Piece) → P qs x ys → Left behind ys → Both P Q rest qs
      by x ys h (within front e a) = let r = go front ys e a in record { x = x; y = r.x; middle = ys; ys = r.ys; former = h; latter = r.is; left = r.left }
      by x ys h (used e) = record { x = x; y = y; middle = []; ys = []; former = subst (λ (zs : List Piece). P qs x zs) e h; latter = nothing; left = used refl }

  mutual
    first_node : {line floor : ℕ} {all rest : List Piece} {x : Node} → n.IsNode line floor all x rest → (front qs : List Piece) → all ≡ front ++ tail → Alike front qs → Cut (n.IsNode line floor) rest qs
    first_node {line} {floor} {all} {rest} (n.absent l) front qs e a = record { x = null line; ys = qs; is = n.absent (left_first all front qs l e a); left = within front e a }
    first_node {line} {floor} {all} {rest} (n.one_leaf {n = m} {indent = column} {height = height} {out = out} {ps = ps} {x = x} le) front qs e a =
        elim (same_leaf m column height x out ps qs (first _ ps front qs e a)) [
          | inl z ↦ none_left (n.IsNode line floor) (null line) rest qs (n.absent i.no_piece) z
          | inr s ↦ record { x = s.0; ys = s.1.left; is = subst (λ (zs : List Piece). n.IsNode line floor zs s.0 s.1.left) (sym s.1.begins) (n.one_leaf le); left = within s.1.front s.1.are s.1.alike }
        ]
    first_node {line} {floor} {all} {rest} (n.list {n = m} {indent = column} {ps = ps} le h) front qs e a =
        let c = first_items h front qs e a in
        elim (same_dash m column ps qs (first _ ps front qs e a)) [
          | inl z ↦ none_left (n.IsNode line floor) (null line) rest qs (n.absent i.no_piece) z
          | inr s ↦
              let items : n.IsItems column (dash_piece m column ∷ s.left) c.x c.ys = subst (λ (zs : List Piece). n.IsItems column zs c.x c.ys) s.begins c.is in
              record { x = listed m c.x; ys = c.ys; is = subst (λ (zs : List Piece). n.IsNode line floor zs (listed m c.x) c.ys) (sym s.begins) (n.list le items); left = c.left }
        ]
    first_node {line} {floor} {all} {rest} (n.map {n = m} {indent = column} {k = k} {ps = ps} le h) front qs e a =
        let c = first_pairs h front qs e a in
        elim (same_key m column k ps qs (first _ ps front qs e a)) [
          | inl z ↦ none_left (n.IsNode line floor) (null line) rest qs (n.absent i.no_piece) z
          | inr s ↦
              let pairs : n.IsPairs column (key_piece m column k ∷ s.left) c.x c.ys = subst (λ (zs : List Piece). n.IsPairs column zs c.x c.ys) s.begins c.is in
              record { x = mapped m c.x; ys = c.ys; is = subst (λ (zs : List Piece). n.IsNode line floor zs (mapped m c.x) c.ys) (sym s.begins) (n.map le pairs); left = c.left }
        ]

    first_items : {indent : ℕ} {all rest : List Piece} {xs : List Node} → n.IsItems indent all xs rest → (front qs : List Piece) → all ≡ front ++ tail → Alike front qs → Cut (n.IsItems indent) rest qs
    first_items {indent} {all} {rest} (n.no_item o) front qs e a = record { x = []; ys = qs; is = n.no_item (over_first all front qs o e a); left = within front e a }
    first_items {indent} {all} {rest} (n.item {n = m} {ps = ps} {behind = behind} d h) front qs e a =
        elim (same_dash m indent ps qs (first _ ps front qs e a)) [
          | inl z ↦ none_left (n.IsItems indent) [] rest qs (n.no_item i.nothing) z
          | inr s ↦
              let r = both (n.IsNode m (indent + 1)) (n.IsItems indent) behind rest s.left [] (n.no_item i.nothing) (first_node d s.front s.left s.are s.alike) (λ front ys e a. first_items h front ys e a) in
              record { x = r.x ∷ r.y; ys = r.ys; is = subst (λ (zs : List Piece). n.IsItems indent zs (r.x ∷ r.y) r.ys) (sym s.begins) (n.item r.former r.latter); left = r.left }
        ]

    first_value : {indent m : ℕ} {all rest : List Piece} {x : Node} → n.IsValue indent m all x rest → (front qs : List Piece) → all ≡ front ++ tail → Alike front qs → Cut (n.IsValue indent m) rest qs
    first_value {indent} {m} {all} {rest} (n.own_list {m = o} {ps = ps} d) front qs e a =
        let c = first_node d front qs e a in
        elim (same_dash o indent ps qs (first _ ps front qs e a)) [
          | inl z ↦ none_left (n.IsValue indent m) (null m) rest qs (n.deeper i.nothing (n.absent i.no_piece)) z
          | inr s ↦
              let inner : n.IsNode m indent (dash_piece o indent ∷ s.left) c.x c.ys = subst (λ (zs : List Piece). n.IsNode m indent zs c.x c.ys) s.begins c.is in
              record { x = c.x; ys = c.ys; is = subst (λ (zs : List Piece). n.IsValue indent m zs c.x c.ys) (sym s.begins) (n.own_list inner); left = c.left }
        ]
    first_value {indent} {m} {all} {rest} (n.deeper o d) front qs e a =
        let c = first_node d front qs e a in
        record { x = c.x; ys = c.ys; is = n.deeper (no_dash_first all front qs o e a) c.is; left = c.left }

    first_pairs : {indent : ℕ} {all rest : List Piece} {xs : List Pair} → n.IsPairs indent all xs rest → (front qs : List Piece) → all ≡ front ++ tail → Alike front qs → Cut (n.IsPairs indent) rest qs
    first_pairs {indent} {all} {rest} (n.no_pair l) front qs e a = record { x = []; ys = qs; is = n.no_pair (left_first all front qs l e a); left = within front e a }
    first_pairs {indent} {all} {rest} (n.pair {n = m} {k = k} {ps = ps} {behind = behind} v h) front qs e a =
        elim (same_key m indent k ps qs (first _ ps front qs e a)) [
          | inl z ↦ none_left (n.IsPairs indent) [] rest qs (n.no_pair i.no_piece) z
          | inr s ↦
              let r = both (n.IsValue indent m) (n.IsPairs indent) behind rest s.left [] (n.no_pair i.no_piece) (first_value v s.front s.left s.are s.alike) (λ front ys e a. first_pairs h front ys e a) in
              let xs : List Pair = (k, m, r.x) ∷ r.y in
              record { x = xs; ys = r.ys; is = subst (λ (zs : List Piece). n.IsPairs indent zs xs r.ys) (sym s.begins) (n.pair r.former r.latter); left = r.left }
        ]

  pub first_notation : (front qs : List Piece) (root : Node) → n.IsNotation (front ++ tail) root → Alike front qs → (x : Node) × n.IsNotation qs x
  first_notation front qs root t a = let c = first_node t front qs refl a in (c.x, by c.x c.ys c.is c.left)
    where
      by : (x : Node) (ys : List Piece) → n.IsNode 1 0 qs x ys → Left [] ys → n.IsNotation qs x
      by x ys h (used e) = subst (λ (zs : List Piece). n.IsNode 1 0 qs x zs) e h
      by x ys h (within [] e none) = h
      by x ys h (within (p ∷ front) e b) = absurd cc
