-- What stands in a bracket from a place on, as the machine of flow comes to it.
use Rattle.std.proofs.Common.{◌≡◌, ℕ, Bool, true, false, List, [], ◌∷◌, ◌++◌, Some, None, subst, arith}
use Rattle.std.specs.Prelude.{max}
use Rattle.yaml_scan.specs.Words.{is_blank}
use Rattle.yaml_tree.specs.declared.node.Node.{Node}
use Rattle.yaml_tree.specs.declared.flow.Frame.{Frame}
use Rattle.yaml_tree.specs.Nodes.{Pair, null, listed, mapped, has_key}
use Rattle.yaml_tree.specs.Brackets.{IsAfter, blank, ends_key, IsKey, IsFlow, IsItems, no_item, last_item, more_items, IsPair, no_value, key_value, IsPairs, no_pair, last_pair, more_pairs}
use Rattle.yaml_tree.specs.Flow.{behind}
use Rattle.yaml_tree.proofs.BracketKeys.{Apart}
use Rattle.yaml_tree.proofs.BracketSteps.{list_frame, map_frame}

-- ---- what is left of a bracket

-- behind an item: the end, or a comma and more
pub data ItemsEnd (n : ℕ) : List ℕ → List Node → ℕ → List ℕ → Type 0 where
  items_stop : {bytes rest : List ℕ} → IsAfter bytes (93 ∷ rest) → ItemsEnd n bytes [] 0 rest
  items_go_on : {height : ℕ} {bytes more rest : List ℕ} {xs : List Node} → IsAfter bytes (44 ∷ more) → IsItems n more xs height rest → ItemsEnd n bytes xs height rest

pub data PairsEnd (n : ℕ) : List ℕ → List Pair → ℕ → List ℕ → Type 0 where
  pairs_stop : {bytes rest : List ℕ} → IsAfter bytes (125 ∷ rest) → PairsEnd n bytes [] 0 rest
  pairs_go_on : {height : ℕ} {bytes more rest : List ℕ} {ps : List Pair} → IsAfter bytes (44 ∷ more) → IsPairs n more ps height rest → PairsEnd n bytes ps height rest

-- behind a key's colon: nothing, or a value
pub data KeyEnd (n : ℕ) : List ℕ → Node → ℕ → List ℕ → Type 0 where
  no_more : {bytes : List ℕ} → KeyEnd n bytes (null n) 1 bytes
  a_value : {height : ℕ} {bytes item rest : List ℕ} {x : Node} → IsAfter bytes item → IsFlow n item x height rest → KeyEnd n bytes x height rest

pub item_more : {n height others : ℕ} {bytes item behind rest : List ℕ} {x : Node} {xs : List Node} → IsAfter bytes item → IsFlow n item x height behind → ItemsEnd n behind xs others rest → IsItems n bytes (x ∷ xs) (max height others) rest
item_more {n = n} {height = height} {bytes = bytes} {rest = rest} {x = x} a v (items_stop c) =
    let same : height ≡ max height 0 = omega arith in
    subst (λ (h : ℕ). IsItems n bytes (x ∷ []) h rest) same (last_item a v c)
item_more a v (items_go_on c i) = more_items a v c i

pub pair_more : {n height others : ℕ} {bytes pair behind rest : List ℕ} {p : Pair} {ps : List Pair} → IsAfter bytes pair → IsPair n pair p height behind → PairsEnd n behind ps others rest → has_key ps p.0 ≡ false → IsPairs n bytes (p ∷ ps) (max height others) rest
pair_more {n = n} {height = height} {bytes = bytes} {rest = rest} {p = p} a v (pairs_stop c) new =
    let same : height ≡ max height 0 = omega arith in
    subst (λ (h : ℕ). IsPairs n bytes (p ∷ []) h rest) same (last_pair a v c)
pair_more a v (pairs_go_on c i) new = more_pairs a v c i new

pub key_more : {n height : ℕ} {bytes k r rest : List ℕ} {x : Node} → IsKey bytes k (58 ∷ r) → ends_key r ≡ true → KeyEnd n r x height rest → IsPair n bytes (k, n, x) height rest
key_more i ends no_more = no_value i ends
key_more i ends (a_value a v) = key_value i ends a v

-- where the machine stands in its innermost bracket
pub data Spot : Type 0 where
  items : List Node → Spot
  item_end : List Node → Spot
  pairs : List Pair → Spot
  pair_end : List Pair → Spot
  value : List Pair → List ℕ → Spot

abbrev pub frame_of : Spot → Frame
frame_of (items xs) = list_frame xs
frame_of (item_end xs) = list_frame xs
frame_of (pairs ps) = map_frame ps None
frame_of (pair_end ps) = map_frame ps None
frame_of (value ps k) = map_frame ps (Some k)

abbrev pub is_after : Spot → Bool
is_after (items xs) = false
is_after (item_end xs) = true
is_after (pairs ps) = false
is_after (pair_end ps) = true
is_after (value ps k) = false

-- what these bytes add to what was found, up to the end of the bracket: its node, and the height of what was added
abbrev pub Content : ℕ → Spot → List ℕ → Node → ℕ → List ℕ → Type 0
Content n (items found) bytes node height rest = (xs : List Node) × IsItems n bytes xs height rest × (node ≡ listed n (found ++ xs))
Content n (item_end found) bytes node height rest = (xs : List Node) × ItemsEnd n bytes xs height rest × (node ≡ listed n (found ++ xs))
Content n (pairs found) bytes node height rest = (ps : List Pair) × IsPairs n bytes ps height rest × Apart found ps × (node ≡ mapped n (found ++ ps))
Content n (pair_end found) bytes node height rest = (ps : List Pair) × PairsEnd n bytes ps height rest × Apart found ps × (node ≡ mapped n (found ++ ps))
Content n (value found k) bytes node height rest = (x : Node) × (ps : List Pair) × (own : ℕ) × (others : ℕ) × (behind : List ℕ) × KeyEnd n bytes x own behind × PairsEnd n behind ps others rest × Apart (found ++ (k, n, x) ∷ []) ps
    × (height ≡ max own others) × (node ≡ mapped n ((found ++ (k, n, x) ∷ []) ++ ps))

-- ---- a blank before

blank_items : {n b height : ℕ} {bytes rest : List ℕ} {xs : List Node} → is_blank b ≡ true → IsItems n bytes xs height rest → IsItems n (b ∷ bytes) xs height rest
blank_items h (no_item a) = no_item (blank h a)
blank_items h (last_item a v c) = last_item (blank h a) v c
blank_items h (more_items a v c i) = more_items (blank h a) v c i

blank_pairs : {n b height : ℕ} {bytes rest : List ℕ} {ps : List Pair} → is_blank b ≡ true → IsPairs n bytes ps height rest → IsPairs n (b ∷ bytes) ps height rest
blank_pairs h (no_pair a) = no_pair (blank h a)
blank_pairs h (last_pair a v c) = last_pair (blank h a) v c
blank_pairs h (more_pairs a v c i new) = more_pairs (blank h a) v c i new

blank_item_end : {n b height : ℕ} {bytes rest : List ℕ} {xs : List Node} → is_blank b ≡ true → ItemsEnd n bytes xs height rest → ItemsEnd n (b ∷ bytes) xs height rest
blank_item_end h (items_stop a) = items_stop (blank h a)
blank_item_end h (items_go_on a i) = items_go_on (blank h a) i

blank_pair_end : {n b height : ℕ} {bytes rest : List ℕ} {ps : List Pair} → is_blank b ≡ true → PairsEnd n bytes ps height rest → PairsEnd n (b ∷ bytes) ps height rest
blank_pair_end h (pairs_stop a) = pairs_stop (blank h a)
blank_pair_end h (pairs_go_on a i) = pairs_go_on (blank h a) i

-- where no value stands the blank stands behind it
pub data Later (n b : ℕ) (bytes : List ℕ) (x : Node) (own : ℕ) (ps : List Pair) (others : ℕ) (rest : List ℕ) : Type 0 where
  later : {behind : List ℕ} → KeyEnd n (b ∷ bytes) x own behind → PairsEnd n behind ps others rest → Later n b bytes x own ps others rest

blank_value : {n b own others : ℕ} {bytes behind rest : List ℕ} {x : Node} {ps : List Pair} → is_blank b ≡ true → KeyEnd n bytes x own behind → PairsEnd n behind ps others rest → Later n b bytes x own ps others rest
blank_value h no_more e = later no_more (blank_pair_end h e)
blank_value h (a_value a v) e = later (a_value (blank h a) v) e

pub blank_content : (n b : ℕ) (s : Spot) (bytes : List ℕ) (node : Node) (height : ℕ) (rest : List ℕ) → is_blank b ≡ true → Content n s bytes node height rest → Content n s (b ∷ bytes) node height rest
blank_content n b (items found) bytes node height rest h c = (c.0, blank_items h c.1, c.2)
blank_content n b (item_end found) bytes node height rest h c = (c.0, blank_item_end h c.1, c.2)
blank_content n b (pairs found) bytes node height rest h c = (c.0, blank_pairs h c.1, c.2, c.3)
blank_content n b (pair_end found) bytes node height rest h c = (c.0, blank_pair_end h c.1, c.2, c.3)
blank_content n b (value found k) bytes node height rest h c = put (blank_value h c.5 c.6)
  where
    put : Later n b bytes c.0 c.2 c.1 c.3 rest → Content n (value found k) (b ∷ bytes) node height rest
    put (later {behind = behind} i e) = (c.0, c.1, c.2, c.3, behind, i, e, c.7, c.8, c.9)
