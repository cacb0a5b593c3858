-- The tree of pieces, and of pieces that are alike with further ones behind them.
use Rattle.std.proofs.Common.{◌≡◌, ℕ, zero, suc, ◌+◌, ◌≤◌, ◌<◌, Bool, true, false, cond, List, [], ◌∷◌, ◌++◌, length, Option, Some, None, Result, Ok, Err, refl, sym, ap, subst, arith, length-append}
use Rattle.std.specs.Prelude.{nat_lt}
use Rattle.yaml_scan.specs.declared.fault.Fault.{Fault}
use Rattle.yaml_scan.specs.declared.fault.Code.TheVariants.{Limit}
use Rattle.yaml_tree.specs.declared.layout.Begins.TheVariants as begins
use Rattle.yaml_tree.specs.declared.node.Node.{Node}
use Rattle.yaml_tree.specs.declared.piece.Piece.{Piece}
use Rattle.yaml_tree.specs.declared.piece.What.{What}
use Rattle.yaml_tree.specs.declared.piece.What.TheVariants.{Dash, Key, Leaf}
use Rattle.yaml_tree.specs.declared.layout.Head.{Head}
use Rattle.yaml_tree.specs.Nodes.{Pair, listed, mapped, has_key}
use Rattle.yaml_tree.specs.Layout.{◌>>=◌, Answer, Rule, Nodes, front, is_dash, value_floor, dash_on, key_on, list_on, map_on, row_by, row, rows, item, pair, list, map, made, begins_with, head, node_by, node_at, node, ended, document}
use Rattle.yaml_laws.proofs.Laid.{AllOn, Lies, leaves, lies_more, lies_bind, lies_made, OnLine, row_lies, Holds, always_holds, Lie, item_lies, pair_lies, list_on_lies, map_on_lies, node_lies, node_lies_at, ended_lies}

-- the same but for what a leaf holds
pub data LikeWhat : What → What → Type 0 where
  dash : LikeWhat Dash Dash
  key : {k : List ℕ} → LikeWhat (Key k) (Key k)
  leaf : {x y : Node} {height : ℕ} {out : Bool} → LikeWhat (Leaf x height out) (Leaf y height out)

pub data Alike : List Piece → List Piece → Type 0 where
  none : Alike [] []
  more : {line column : ℕ} {w v : What} {ps qs : List Piece} → LikeWhat w v → Alike ps qs
      → Alike (record { line = line; column = column; what = w } ∷ ps) (record { line = line; column = column; what = v } ∷ qs)

pub like_itself : (w : What) → LikeWhat w w
like_itself Dash = dash
like_itself (Key k) = key
like_itself (Leaf x height out) = leaf

pub alike_itself : (ps : List Piece) → Alike ps ps
alike_itself [] = none
alike_itself (p ∷ ps) = more (like_itself p.what) (alike_itself ps)

-- What pieces give (r), and what alike ones give behind which `tail` stands (s): the same, with the same left; or the first are used
-- up, and what the second give stands in the tail; or the same fault. Where the pieces end with a null that is one node too deep, what
-- stands there in their place may be the node that is too deep.
pub data Agree {A : Type 0} (L Q : ℕ → Type 0) (V : A → A → Type 0) (n : ℕ) (tail : List Piece) : Answer A → Answer A → Type 0 where
  same : {x y : A × List Piece} {ys : List Piece} → V x.0 y.0 → y.1 ≡ ys ++ tail → Alike x.1 ys → AllOn L x.1 → length x.1 ≤ n → Agree L Q V n tail (Ok x) (Ok y)
  passed : {x : A × List Piece} {s : Answer A} → x.1 ≡ [] → Lies Q (length tail) s → Agree L Q V n tail (Ok x) s
  fails : {f : Fault} → Agree L Q V n tail (Err f) (Err f)
  deeper : {f g : Fault} → f.code ≡ Limit → L f.line → Q g.line → Agree L Q V n tail (Err f) (Err g)

abbrev pub Any : {A : Type 0} → A → A → Type 0
Any x y = Unit {0}

pub agree_more : {A : Type 0} {L Q : ℕ → Type 0} {V : A → A → Type 0} {m n : ℕ} {tail : List Piece} {r s : Answer A} → m ≤ n → Agree L Q V m tail r s → Agree L Q V n tail r s
agree_more le (same v e a l h) = same v e a l (omega arith)
agree_more le (passed e h) = passed e h
agree_more le fails = fails
agree_more le (deeper c l q) = deeper c l q

pub agree_bind : {A B : Type 0} {L Q : ℕ → Type 0} {V : A → A → Type 0} {W : B → B → Type 0} {m n : ℕ} {tail : List Piece} (r s : Answer A) (f g : A × List Piece → Answer B)
    → ((x y : A) (xs ys : List Piece) → V x y → Alike xs ys → AllOn L xs → length xs ≤ m → Agree L Q W n tail (f (x, xs)) (g (y, ys ++ tail)))
    → ((x : A) (s : Answer A) → Lies Q (length tail) s → Agree L Q W n tail (f (x, [])) (s >>= g))
    → Agree L Q V m tail r s → Agree L Q W n tail (r >>= f) (s >>= g)
agree_bind {A} {B} {L} {Q} {V} {W} {m} {n} {tail} (Ok x) (Ok y) f g both over (same {ys = ys} v e a l h) =
    subst (λ (rest : List Piece). Agree L Q W n tail (f x) (g (y.0, rest))) (sym e) (both x.0 y.0 x.1 ys v a l h)
agree_bind {A} {B} {L} {Q} {V} {W} {m} {n} {tail} (Ok x) s f g both over (passed e h) =
    subst (λ (rest : List Piece). Agree L Q W n tail (f (x.0, rest)) (s >>= g)) (sym e) (over x.0 s h)
agree_bind (Err d) (Err d') f g both over fails = fails
agree_bind (Err d) (Err d') f g both over (deeper c l q) = deeper c l q
agree_bind (Err d) (Ok y) f g both over h = elim h [ ]

pub agree_made : {A B : Type 0} {L Q : ℕ → Type 0} {V : A → A → Type 0} {n : ℕ} {tail : List Piece} (m m' : A → B) (r s : Answer A) → Agree L Q V n tail r s → Agree L Q Any n tail (made m r) (made m' s)
agree_made m m' (Ok x) (Ok y) (same v e a l h) = same tt e a l h
agree_made m m' (Ok x) s (passed e h) = passed e (lies_made m' s h)
agree_made m m' (Err d) (Err d') fails = fails
agree_made m m' (Err d) (Err d') (deeper c l q) = deeper c l q
agree_made m m' (Err d) (Ok y) h = elim h [ ]

pub agree_either : {A : Type 0} {L Q : ℕ → Type 0} {V : A → A → Type 0} {n : ℕ} {tail : List Piece} (b : Bool) (r r' s s' : Answer A)
    → Agree L Q V n tail r s → Agree L Q V n tail r' s' → Agree L Q V n tail (cond b r r') (cond b s s')
agree_either true r r' s s' p q = p
agree_either false r r' s s' p q = q

pub all_behind : (Q : ℕ → Type 0) (ps qs : List Piece) → AllOn Q ps → AllOn Q qs → AllOn Q (ps ++ qs)
all_behind Q [] qs a b = b
all_behind Q (p ∷ ps) qs a b = (a.0, all_behind Q ps qs a.1 b)

pub alike_length : {ps qs : List Piece} → Alike ps qs → length ps ≡ length qs
alike_length none = refl
alike_length (more w a) = ap suc (alike_length a)

-- ---- items

module _ {A : Type 0} (L Q : ℕ → Type 0) (V : A → A → Type 0) (tail : List Piece) (late : AllOn Q tail)
    (on : Option Piece → Result Bool Fault) (item : List A → Rule A) (VS : List A → List A → Type 0)
    (none_ends : on None ≡ Ok false)
    (on_lies : (p : Piece) → Q p.line → OnLine Q (on (Some p)))
    (item_late : (found : List A) (p : Piece) (ps : List Piece) → Q p.line → AllOn Q ps → Lies Q (length ps) (item found (p ∷ ps)))
    (on_same : (line column : ℕ) (w v : What) → LikeWhat w v → on (Some (record { line = line; column = column; what = w })) ≡ on (Some (record { line = line; column = column; what = v })))
    (vs_more : (found found' : List A) (x y : A) → VS found found' → V x y → VS (found ++ x ∷ []) (found' ++ y ∷ []))
    (item_agrees : (found found' : List A) (line column : ℕ) (w v : What) (ps qs : List Piece) → VS found found' → LikeWhat w v → Alike ps qs → L line → AllOn L ps
    → Agree L Q V (length ps) tail (item found (record { line = line; column = column; what = w } ∷ ps)) (item found' (record { line = line; column = column; what = v } ∷ (qs ++ tail)))) where
  late_row : (n : ℕ) (found : List A) (ps : List Piece) → length ps < n → AllOn Q ps → Lies Q (length ps) (row on item n found ps)
  late_row = row_lies Q on item none_ends on_lies item_late

  over : (n n' : ℕ) (found found' : List A) (s : Answer A) → 0 < n → length tail < n' → Lies Q (length tail) s
      → Agree L Q Any 0 tail (row on item n found []) (s >>= λ y. row on item n' (found' ++ y.0 ∷ []) y.1)
  unfolding row
  over zero n' found found' s lt lt' h = absurd (omega arith)
  over (suc n) n' found found' s lt lt' h =
      rw none_ends (passed refl (lies_bind Q (length tail) (length tail) s (λ y. row on item n' (found' ++ y.0 ∷ []) y.1) h
      (λ y rest on_rest le. lies_more le (late_row n' (found' ++ y ∷ []) rest (omega (arith, le, lt')) on_rest))))

  -- a turn at two pieces that are alike
  turned : (n n' : ℕ) (found found' : List A) (p q : Piece) (ps qs : List Piece) → length (p ∷ ps) < suc n → length ((q ∷ qs) ++ tail) < suc n' → VS found found' → Alike (p ∷ ps) (q ∷ qs) → AllOn L (p ∷ ps)
      → Agree L Q V (length ps) tail (item found (p ∷ ps)) (item found' (q ∷ (qs ++ tail)))
      → ((x y : A) (xs ys : List Piece) → length xs ≤ length ps → length ys ≡ length xs → V x y → Alike xs ys → AllOn L xs
      → Agree L Q Any (length xs) tail (row on item n (found ++ x ∷ []) xs) (row on item n' (found' ++ y ∷ []) (ys ++ tail)))
      → (t : Result Bool Fault)
      → Agree L Q Any (suc (length ps)) tail (row_by t found (p ∷ ps) (item found (p ∷ ps) >>= λ x. row on item n (found ++ x.0 ∷ []) x.1))
      (row_by t found' (q ∷ (qs ++ tail)) (item found' (q ∷ (qs ++ tail)) >>= λ y. row on item n' (found' ++ y.0 ∷ []) y.1))
  turned n n' found found' p q ps qs lt lt' vs a l i go (Ok true) =
      agree_bind (item found (p ∷ ps)) (item found' (q ∷ (qs ++ tail))) (λ x. row on item n (found ++ x.0 ∷ []) x.1) (λ y. row on item n' (found' ++ y.0 ∷ []) y.1)
      (λ x y xs ys v al on_xs le. agree_more (omega (arith, le)) (go x y xs ys le (sym (alike_length al)) v al on_xs))
      (λ x s h. agree_more (omega arith) (over n n' (found ++ x ∷ []) found' s (omega (arith, lt)) (omega (arith, lt', length-append (q ∷ qs) tail)) h)) i
  turned n n' found found' p q ps qs lt lt' vs a l i go (Ok false) = same {ys = q ∷ qs} tt refl a l (omega arith)
  turned n n' found found' p q ps qs lt lt' vs a l i go (Err f) = fails

  pub row_agrees : (n n' : ℕ) (found found' : List A) (xs ys : List Piece) → length xs < n → length (ys ++ tail) < n' → VS found found' → Alike xs ys → AllOn L xs
      → Agree L Q Any (length xs) tail (row on item n found xs) (row on item n' found' (ys ++ tail))
  unfolding row
  row_agrees zero n' found found' xs ys lt lt' vs a l = absurd (omega arith)
  row_agrees (suc n) zero found found' xs ys lt lt' vs a l = absurd (omega arith)
  row_agrees (suc n) (suc n') found found' xs ys lt lt' vs none l = rw none_ends (passed refl (late_row (suc n') found' tail lt' late))
  row_agrees (suc n) (suc n') found found' xs ys lt lt' vs (more {line = line} {column = column} {w = w} {v = v} {ps = ps} {qs = qs} lw a) l =
      let p : Piece = record { line = line; column = column; what = w } in
      let q : Piece = record { line = line; column = column; what = v } in
      rw (sym (on_same line column w v lw)) (turned n n' found found' p q ps qs lt lt' vs (more lw a) l (item_agrees found found' line column w v ps qs vs lw a l.0 l.1)
      (λ x y xs ys le e vv al on_xs. row_agrees n n' (found ++ x ∷ []) (found' ++ y ∷ []) xs ys (omega (arith, le, lt)) (omega (arith, lt', le, e, length-append ys tail, length-append (q ∷ qs) tail, alike_length a)) (vs_more found found' x y vs vv) al on_xs)
      (on (Some p)))

-- ---- nodes

dash_same : (w v : What) → LikeWhat w v → dash_on w ≡ dash_on v
dash_same w v dash = refl
dash_same w v key = refl
dash_same w v leaf = refl

key_same : (line : ℕ) (w v : What) → LikeWhat w v → key_on line w ≡ key_on line v
key_same line w v dash = refl
key_same line w v key = refl
key_same line w v leaf = refl

is_dash_same : (w v : What) → LikeWhat w v → is_dash w ≡ is_dash v
is_dash_same w v dash = refl
is_dash_same w v key = refl
is_dash_same w v leaf = refl

list_on_same : (at line column : ℕ) (w v : What) → LikeWhat w v → list_on at (Some (record { line = line; column = column; what = w })) ≡ list_on at (Some (record { line = line; column = column; what = v }))
list_on_same at line column w v lw = rw (dash_same w v lw) refl

map_on_same : (at line column : ℕ) (w v : What) → LikeWhat w v → map_on at (Some (record { line = line; column = column; what = w })) ≡ map_on at (Some (record { line = line; column = column; what = v }))
map_on_same at line column w v lw = rw (key_same line w v lw) refl

-- pairs with the same keys
abbrev SameKeys : List Pair → List Pair → Type 0
SameKeys [] [] = Unit {0}
SameKeys [] (q ∷ qs) = ⊥
SameKeys (p ∷ ps) [] = ⊥
SameKeys (p ∷ ps) (q ∷ qs) = (p.0 ≡ q.0) × SameKeys ps qs

keys_more : (ps qs : List Pair) (x y : Pair) → SameKeys ps qs → x.0 ≡ y.0 → SameKeys (ps ++ x ∷ []) (qs ++ y ∷ [])
keys_more [] [] x y s e = (e, tt)
keys_more [] (q ∷ qs) x y s e = absurd s
keys_more (p ∷ ps) [] x y s e = absurd s
keys_more (p ∷ ps) (q ∷ qs) x y s e = (s.0, keys_more ps qs x y s.1 e)

keys_have : (k : List ℕ) (ps qs : List Pair) → SameKeys ps qs → has_key ps k ≡ has_key qs k
keys_have k [] [] s = refl
keys_have k [] (q ∷ qs) s = absurd s
keys_have k (p ∷ ps) [] s = absurd s
keys_have k (p ∷ ps) (q ∷ qs) s = rw (s.0, keys_have k ps qs s.1) refl

module _ (L Q : ℕ → Type 0) (tail : List Piece) (late : AllOn Q tail) where
  -- what nodes give whose holder stands on the line, before the tail or in it
  unfoldable pub Agreed : ℕ → Nodes → Type 0
  Agreed depth node = (line floor : ℕ) (xs ys : List Piece) → Holds L depth line → Alike xs ys → AllOn L xs → Agree L Q Any (length xs) tail (node line floor xs) (node line floor (ys ++ tail))

  -- behind the last piece
  unfoldable pub AgreedLast : ℕ → Nodes → Type 0
  AgreedLast depth node = (line floor floor' : ℕ) → Holds L depth line → Agree L Q Any 0 tail (node line floor []) (node line floor' tail)

  module _ (depth : ℕ) (node : Nodes) (agreed : Agreed depth node) (last : AgreedLast depth node) (lie : Lie Q depth node) where
    item_agrees : (found found' : List Node) (line column : ℕ) (w v : What) (ps qs : List Piece) → Unit {0} → LikeWhat w v → Alike ps qs → L line → AllOn L ps
        → Agree L Q Any (length ps) tail (item node (record { line = line; column = column; what = w } ∷ ps)) (item node (record { line = line; column = column; what = v } ∷ (qs ++ tail)))
    unfolding item Agreed
    item_agrees found found' line column w v ps qs vs lw a l on_ps = agreed line (column + 1) ps qs (always_holds L depth line l) a on_ps

    abbrev SameKey : Pair → Pair → Type 0
    SameKey x y = x.0 ≡ y.0

    value_agrees : (k : List ℕ) (line column : ℕ) (ps qs : List Piece) → Alike ps qs → L line → AllOn L ps
        → Agree L Q Any (length ps) tail (node line (value_floor column (front ps)) ps) (node line (value_floor column (front (qs ++ tail))) (qs ++ tail))
    unfolding Agreed AgreedLast
    value_agrees k line column ps qs none l on_ps = last line (value_floor column None) (value_floor column (front tail)) (always_holds L depth line l)
    value_agrees k line column ps qs (more {line = n} {column = at} {w = w} {v = v} {ps = xs} {qs = ys} lw a) l on_ps =
        rw (is_dash_same w v lw) (agreed line (value_floor column (Some (record { line = n; column = at; what = v }))) (record { line = n; column = at; what = w } ∷ xs) (record { line = n; column = at; what = v } ∷ ys) (always_holds L depth line l) (more lw a) on_ps)

    pair_agrees : (found found' : List Pair) (line column : ℕ) (w v : What) (ps qs : List Piece) → SameKeys found found' → LikeWhat w v → Alike ps qs → L line → AllOn L ps
        → Agree L Q SameKey (length ps) tail (pair node found (record { line = line; column = column; what = w } ∷ ps)) (pair node found' (record { line = line; column = column; what = v } ∷ (qs ++ tail)))
    unfolding pair
    pair_agrees found found' line column w v ps qs vs dash a l on_ps = fails
    pair_agrees found found' line column w v ps qs vs leaf a l on_ps = fails
    pair_agrees found found' line column w v ps qs vs (key {k = k}) a l on_ps =
        rw (sym (keys_have k found found' vs)) (agree_either (has_key found k) _ _ _ _ fails
        (agree_bind (node line (value_floor column (front ps)) ps) (node line (value_floor column (front (qs ++ tail))) (qs ++ tail)) (λ x. Ok ((k, line, x.0), x.1)) (λ x. Ok ((k, line, x.0), x.1))
        (λ x y xs ys vv al on_xs le. same refl refl al on_xs le)
        (λ x s h. passed refl (lies_bind Q (length tail) (length tail) s (λ x. Ok ((k, line, x.0), x.1)) h (λ y rest on_rest le. leaves on_rest le)))
        (value_agrees k line column ps qs a l on_ps)))

    list_agrees : (column : ℕ) (xs ys : List Piece) → Alike xs ys → AllOn L xs → Agree L Q Any (length xs) tail (list node column xs) (list node column (ys ++ tail))
    unfolding list rows
    list_agrees column xs ys a l =
        row_agrees L Q Any tail late (list_on column) (λ _. item node) Any refl (list_on_lies Q column) (item_lies Q depth node lie) (list_on_same column) (λ found found' x y _ _. tt) item_agrees
        (suc (length xs)) (suc (length (ys ++ tail))) [] [] xs ys (omega arith) (omega arith) tt a l

    map_agrees : (column : ℕ) (xs ys : List Piece) → Alike xs ys → AllOn L xs → Agree L Q Any (length xs) tail (map node column xs) (map node column (ys ++ tail))
    unfolding map rows
    map_agrees column xs ys a l =
        row_agrees L Q SameKey tail late (map_on column) (pair node) SameKeys refl (map_on_lies Q column) (pair_lies Q depth node lie) (map_on_same column) keys_more pair_agrees
        (suc (length xs)) (suc (length (ys ++ tail))) [] [] xs ys (omega arith) (omega arith) tt a l

    here_agrees : (n line column : ℕ) (w v : What) (ps qs : List Piece) → LikeWhat w v → Alike ps qs → L line → AllOn L ps
        → Agree L Q Any (suc (length ps)) tail (node_by n node line (begins_with column w) (record { line = line; column = column; what = w } ∷ ps))
        (node_by n node line (begins_with column v) (record { line = line; column = column; what = v } ∷ (qs ++ tail)))
    here_agrees n line column w v ps qs dash a l on_ps =
        let xs : List Piece = record { line = line; column = column; what = Dash } ∷ ps in
        let ys : List Piece = record { line = line; column = column; what = Dash } ∷ qs in
        agree_made (listed line) (listed line) (list node column xs) (list node column (ys ++ tail)) (list_agrees column xs ys (more dash a) (l, on_ps))
    here_agrees n line column w v ps qs (key {k = k}) a l on_ps =
        let xs : List Piece = record { line = line; column = column; what = Key k } ∷ ps in
        let ys : List Piece = record { line = line; column = column; what = Key k } ∷ qs in
        agree_made (mapped line) (mapped line) (map node column xs) (map node column (ys ++ tail)) (map_agrees column xs ys (more key a) (l, on_ps))
    here_agrees n line column w v ps qs (leaf {height = height}) a l on_ps = agree_either (nat_lt n height) _ _ _ _ fails (same {ys = qs} tt refl a on_ps (omega arith))

    head_agrees : (n : ℕ) (b : Bool) (above line column : ℕ) (w v : What) (ps qs : List Piece) → LikeWhat w v → Alike ps qs → L line → AllOn L ps
        → Agree L Q Any (suc (length ps)) tail
        (node_at n node (cond b (record { line = above; begins = begins.Null }) (record { line = line; begins = begins_with column w })) (record { line = line; column = column; what = w } ∷ ps))
        (node_at n node (cond b (record { line = above; begins = begins.Null }) (record { line = line; begins = begins_with column v })) (record { line = line; column = column; what = v } ∷ (qs ++ tail)))
    head_agrees n true above line column w v ps qs lw a l on_ps = same {ys = record { line = line; column = column; what = v } ∷ qs} tt refl (more lw a) (l, on_ps) (omega arith)
    head_agrees n false above line column w v ps qs lw a l on_ps = here_agrees n line column w v ps qs lw a l on_ps

    node_at_agrees : (n line floor : ℕ) (xs ys : List Piece) → Alike xs ys → AllOn L xs → (xs ≡ [] → Lies Q (length tail) (node_at n node (head line floor (front tail)) tail))
        → Agree L Q Any (length xs) tail (node_at n node (head line floor (front xs)) xs) (node_at n node (head line floor (front (ys ++ tail))) (ys ++ tail))
    node_at_agrees n line floor xs ys none l h = passed refl (h refl)
    node_at_agrees n line floor xs ys (more {line = at} {column = column} {w = w} {v = v} {ps = ps} {qs = qs} lw a) l h =
        head_agrees n (nat_lt column floor) line at column w v ps qs lw a l.0 l.1

  -- where no node may stand any more
  zero_last : (line floor : ℕ) → L line → Agree {A = Node} L Q Any 0 tail (Err (record { line = line; code = Limit })) (Err (record { line = (head line floor (front tail)).line; code = Limit }))
  zero_last line floor l = by tail late
    where
      by : (ps : List Piece) → AllOn Q ps → Agree {A = Node} L Q Any 0 tail (Err (record { line = line; code = Limit })) (Err (record { line = (head line floor (front ps)).line; code = Limit }))
      by [] a = fails
      by (p ∷ ps) a = choose (nat_lt p.column floor) p a.0
        where
          choose : (b : Bool) (p : Piece) → Q p.line → Agree {A = Node} L Q Any 0 tail (Err (record { line = line; code = Limit }))
              (Err (record { line = (cond {A = Head} b (record { line = line; begins = begins.Null }) (record { line = p.line; begins = begins_with p.column p.what })).line; code = Limit }))
          choose true p q = fails
          choose false p q = deeper refl l q

  zero_both : (line floor : ℕ) (xs ys : List Piece) → L line → Alike xs ys → AllOn L xs
      → Agree {A = Node} L Q Any (length xs) tail (Err (record { line = (head line floor (front xs)).line; code = Limit })) (Err (record { line = (head line floor (front (ys ++ tail))).line; code = Limit }))
  zero_both line floor xs ys l none a = zero_last line floor l
  zero_both line floor xs ys l (more {line = at} {column = column} {w = w} {v = v} {ps = ps} lw al) a = choose (nat_lt column floor)
    where
      choose : (b : Bool) → Agree {A = Node} L Q Any (suc (length ps)) tail (Err (record { line = (cond {A = Head} b (record { line = line; begins = begins.Null }) (record { line = at; begins = begins_with column w })).line; code = Limit }))
          (Err (record { line = (cond {A = Head} b (record { line = line; begins = begins.Null }) (record { line = at; begins = begins_with column v })).line; code = Limit }))
      choose true = fails
      choose false = fails

  node_last : (depth : ℕ) → AgreedLast depth (node depth)
  unfolding node AgreedLast
  node_last zero line floor floor' h = zero_last line floor' h
  node_last (suc depth) line floor floor' h = passed refl (node_lies_at Q (suc depth) line floor' tail tt late)

  node_agrees : (depth : ℕ) → Agreed depth (node depth)
  unfolding node Agreed
  node_agrees zero line floor xs ys h a l = zero_both line floor xs ys h a l
  node_agrees (suc depth) line floor xs ys h a l =
      node_at_agrees depth (node depth) (node_agrees depth) (node_last depth) (node_lies Q depth) (suc depth) line floor xs ys a l (λ _. node_lies_at Q (suc depth) line floor tail tt late)

  node_agrees_at : (depth line floor : ℕ) (xs ys : List Piece) → Holds L depth line → Alike xs ys → AllOn L xs → Agree L Q Any (length xs) tail (node depth line floor xs) (node depth line floor (ys ++ tail))
  unfolding Agreed
  node_agrees_at depth = node_agrees depth

  ended_agrees : (x y : Node) (xs ys : List Piece) → Alike xs ys → AllOn L xs → Agree L Q Any (length xs) tail (ended x (front xs) xs) (ended y (front (ys ++ tail)) (ys ++ tail))
  ended_agrees x y xs ys none l = passed refl (ended_lies Q y tail late)
  ended_agrees x y xs ys (more lw a) l = fails

  -- The trees of pieces, and of alike ones with further ones behind them.
  pub document_agrees : (xs ys : List Piece) → Alike xs ys → AllOn L xs → Agree L Q Any (length xs) tail (document xs) (document (ys ++ tail))
  unfolding document
  document_agrees xs ys a l =
      agree_bind (node 64 1 0 xs) (node 64 1 0 (ys ++ tail)) (λ root. ended root.0 (front root.1) root.1) (λ root. ended root.0 (front root.1) root.1)
      (λ x y xs' ys' v al on_xs le. agree_more le (ended_agrees x y xs' ys' al on_xs))
      (λ x s h. passed refl (lies_bind Q (length tail) (length tail) s (λ root. ended root.0 (front root.1) root.1) h (λ y rest on_rest le. lies_more le (ended_lies Q y rest on_rest))))
      (node_agrees_at 64 1 0 xs ys tt a l)
