-- The pieces of a line that are read are those of the notation but for what their flow holds; or the last of them is flow in which a
-- key is repeated, or they are refused for another code.
use Rattle.std.proofs.Common.{◌≡◌, ℕ, ◌+◌, ◌-◌, ◌≤◌, ◌<◌, Bool, true, false, cond, ◌&&◌, ◌⊎◌, inl, inr, List, [], ◌∷◌, ◌++◌, length, take, drop, Option, Some, None, Result, Ok, Err, refl, sym, ap, subst, ◌∙◌, append_assoc, arith}
use Rattle.std.specs.Prelude.{◌==◌, not}
use Rattle.std.proofs.lemmas.List.{append-nil}
use Rattle.yaml_scan.specs.declared.line.RawLine.{RawLine}
use Rattle.yaml_scan.specs.declared.fault.Fault.{Fault}
use Rattle.yaml_scan.specs.declared.fault.Code.{Code}
use Rattle.yaml_scan.specs.declared.fault.Code.TheVariants.{Structure, LeftOut, RepeatedKey}
use Rattle.yaml_scan.specs.Answers.{Reading}
use Rattle.yaml_scan.specs.Words.{is_blank, is_empty, is_some, breaks, nothing_left, colon_at, trimmed, without_blanks}
use Rattle.yaml_scan.specs.Plain.{plain}
use Rattle.yaml_scan.specs.Quoted.{State, opened, run, quoted}
use Rattle.yaml_scan.specs.Block.{block}
use Rattle.yaml_tree.specs.declared.node.Node.{Node}
use Rattle.yaml_tree.specs.declared.leaf.Wrong.{Wrong}
use Rattle.yaml_tree.specs.declared.piece.Piece.{Piece}
use Rattle.yaml_tree.specs.declared.piece.What.{What}
use Rattle.yaml_tree.specs.declared.piece.What.TheVariants.{Dash, Key, Leaf}
use Rattle.yaml_tree.specs.declared.starts.Start.{Start}
use Rattle.yaml_tree.specs.declared.starts.Start.TheVariants as starts
use Rattle.yaml_tree.specs.Nodes.{null, scalar_node}
use Rattle.yaml_tree.specs.Starts.{start, is_merge}
use Rattle.yaml_tree.specs.Flow.{Ended, flow}
use Rattle.yaml_tree.specs.Keys.{IsKey}
use Rattle.yaml_tree.specs.Leaves.{Leafs, scalar, flow_by, leaf_by, leaf_of, colon_behind}
use Rattle.yaml_tree.specs.Pieces.{Found, found, floor, dash, key, leaf, leaf_found, leaf_at, value_at, keyed, plain_key, quoted_key, node_by, heads}
use Rattle.yaml_tree.specs.Spelling.{IsAt, here, blank, is_dash}
use Rattle.yaml_tree.proofs.KeysFound.{plain_key_found, quoted_key_found}
use Rattle.yaml_tree.proofs.LeafFound.{leaf_found_is}
use Rattle.yaml_tree.proofs.PiecesFound.{floor_more, at_found, all_blank}
use Rattle.yaml_laws.proofs.Followed.{Alike, none as no_piece, more as more_alike, like_itself, leaf as like_leaf}
use Rattle.yaml_laws.proofs.Orders.{tested}
use Rattle.yaml_rules.specs.LooseText.{IsLooseLeaf, of_grammar, in_brackets, IsLooseHeads, nothing, dash as dash_is, leaf as leaf_is, key as key_is, key_value}
use Rattle.yaml_rules.specs.Notation.{Has, Repeats, IsWithin, here as is_here}
use Rattle.yaml_rules.proofs.Chains.{IsSized, AllSized}
use Rattle.yaml_signs.proofs.LeafSigns.{IsRule}
use Rattle.yaml_rules.proofs.Spelled.{flow_here, flow_within, only_here}
use Rattle.yaml_signs.proofs.FlowSigns.{flow_codes}
use Rattle.yaml_signs.proofs.LeafSigns.{Fails, IsStructure, IsWrongHead, plain_fails, quoted_fails, block_fails, structure_no_rule, left_out_no_rule, no_rule}
use Rattle.yaml_rules.proofs.LooseRead.{IsLoose, flow_loose}

module _ (n : ℕ) where
  -- as many nodes stand in one another in it as are counted
  abbrev Sized : Node → ℕ → Type 0
  Sized x height = IsWithin n 0 x × ((depth : ℕ) → depth < height → IsWithin n depth x)

  abbrev pub the_repeated : Wrong
  the_repeated = record { fault = record { line = n; code = RepeatedKey }; left_out = false }

  -- ---- scalars and flow

  data LeafEnds (right : ℕ) (bytes : List ℕ) (ls : List RawLine) : Leafs → Type 0 where
    reads : {y : Node} {height : ℕ} {ls' : List RawLine} (x : Node) → IsLooseLeaf right n bytes ls x ls' → Sized x height → LeafEnds right bytes ls (Ok ((y, height), ls'))
    again : (x : Node) → IsLooseLeaf right n bytes ls x ls → Sized x 1 → Has (Repeats n) x → LeafEnds right bytes ls (Err the_repeated)
    other : {w : Wrong} → (IsRule w.fault.code → ⊥) → LeafEnds right bytes ls (Err w)

  either : {right : ℕ} {bytes : List ℕ} {ls : List RawLine} (b : Bool) (r s : Leafs) → (b ≡ true → LeafEnds right bytes ls r) → (b ≡ false → LeafEnds right bytes ls s) → LeafEnds right bytes ls (cond b r s)
  either true r s p q = p refl
  either false r s p q = q refl

  -- a scalar that is read is one of the grammar
  scalar_ends : (right b : ℕ) (rest : List ℕ) (ls : List RawLine) (is_plain : Bool) (r : Reading (List ℕ)) → Fails (λ (f : Fault). IsRule f.code → ⊥) r
      → ((x : List ℕ × List RawLine) → r ≡ Ok x → leaf_of right false n (b ∷ rest) ls ≡ Ok ((scalar_node n x.0 is_plain, 1), x.1)) → LeafEnds right (b ∷ rest) ls (scalar n is_plain r)
  scalar_ends right b rest ls is_plain (Ok x) h is =
      reads (scalar_node n x.0 is_plain) (of_grammar (leaf_found_is right false n b rest ls (scalar_node n x.0 is_plain) 1 x.1 (omega arith) (is x refl))) (is_here, only_here is_here)
  scalar_ends right b rest ls is_plain (Err f) h is = other h

  structured : (r : Reading (List ℕ)) → Fails IsStructure r → Fails (λ (f : Fault). IsRule f.code → ⊥) r
  structured (Ok x) h = tt
  structured (Err f) h = λ c. structure_no_rule (subst IsRule h c)

  headed : (bytes : List ℕ) (r : Reading (List ℕ)) → Fails (IsWrongHead n bytes) r → Fails (λ (f : Fault). IsRule f.code → ⊥) r
  headed bytes (Ok x) h = tt
  headed bytes (Err f) h = λ c. left_out_no_rule (subst IsRule h.1 c)

  loose_sized : (bytes : List ℕ) (e : Ended) (l : IsLoose n bytes e) (height : ℕ) → height ≤ e.height → Sized l.node height
  loose_sized bytes e l height le = (flow_here l.is_flow, λ depth lt. flow_within l.is_flow depth (let high = l.high in omega (arith, le, lt, high)))

  bracket_ends : (right : ℕ) (fresh : Bool) (b : ℕ) (rest : List ℕ) (ls : List RawLine) (r : Result Ended Code) → start b rest ≡ starts.InBrackets → flow n (b == 123) rest ≡ r → LeafEnds right (b ∷ rest) ls (flow_by fresh n r ls)
  bracket_ends right fresh b rest ls (Err code) s is = other (no_rule code (flow_codes n (b == 123) rest code is))
  bracket_ends right fresh b rest ls (Ok e) s is =
      either (fresh && colon_behind (without_blanks e.rest)) _ _ (λ h. other left_out_no_rule)
      (λ h. either (not (nothing_left false e.rest)) _ _ (λ i. other structure_no_rule)
      (λ i. (let l = flow_loose n b rest e s is in
      let leaf_is_loose : IsLooseLeaf right n (b ∷ rest) ls l.node ls = in_brackets s l.is_flow (left i) in
      either e.repeated _ _ (λ k. again l.node leaf_is_loose (flow_here l.is_flow, only_here (flow_here l.is_flow)) (l.repeats k)) (λ k. reads l.node leaf_is_loose (loose_sized (b ∷ rest) e l e.height (omega arith))))))
    where
      left : not (nothing_left false e.rest) ≡ false → nothing_left false e.rest ≡ true
      left q = elim (tested (nothing_left false e.rest)) [
        | inl h ↦ h
        | inr h ↦ absurd (let z : true ≡ false = rw h at q in cc)
      ]

  leaf_ends : (t : Start) (right : ℕ) (fresh : Bool) (b : ℕ) (rest : List ℕ) (ls : List RawLine) → start b rest ≡ t → LeafEnds right (b ∷ rest) ls (leaf_by t right fresh n b rest ls)
  leaf_ends starts.InQuotes right fresh b rest ls s =
      scalar_ends right b rest ls false (quoted right n b rest ls) (structured (quoted right n b rest ls) (quoted_fails right n b rest ls))
      (λ x e. ap (λ (t : Start). leaf_by t right false n b rest ls) s ∙ ap (scalar n false) e)
  leaf_ends starts.InLines right fresh b rest ls s =
      scalar_ends right b rest ls false (block right n (b == 62) rest ls) (headed rest (block right n (b == 62) rest ls) (block_fails n rest right (b == 62) ls))
      (λ x e. ap (λ (t : Start). leaf_by t right false n b rest ls) s ∙ ap (scalar n false) e)
  leaf_ends starts.Plain right fresh b rest ls s =
      scalar_ends right b rest ls true (plain right n (b ∷ rest) ls) (structured (plain right n (b ∷ rest) ls) (plain_fails right n (b ∷ rest) ls))
      (λ x e. ap (λ (t : Start). leaf_by t right false n b rest ls) s ∙ ap (scalar n true) e)
  leaf_ends starts.InBrackets right fresh b rest ls s = bracket_ends right fresh b rest ls (flow n (b == 123) rest) s refl
  leaf_ends starts.LeftOut right fresh b rest ls s = other left_out_no_rule
  leaf_ends starts.Refused right fresh b rest ls s = other structure_no_rule

  -- ---- what is found of a line

  -- one of these pieces holds a node in which a key on the line stands again
  abbrev pub IfRepeats : What → Type 0
  IfRepeats Dash = ⊥
  IfRepeats (Key k) = ⊥
  IfRepeats (Leaf x height out) = Has (Repeats n) x

  abbrev pub AnyRepeats : List Piece → Type 0
  AnyRepeats [] = ⊥
  AnyRepeats (p ∷ ps) = IfRepeats p.what ⊎ AnyRepeats ps

  pub data Ends (Holds : List Piece → List RawLine → Type 0) (ps : List Piece) (f : Found) : Type 0 where
    reads : (qs whole : List Piece) (ls : List RawLine) → f ≡ found (ps ++ qs) ls → Alike qs whole → AllSized whole → Holds whole ls → Ends Holds ps f
    again : (qs whole : List Piece) → f.pieces ≡ ps ++ qs → f.fault ≡ Some the_repeated.fault → Alike qs whole → AllSized whole → AnyRepeats whole → Holds whole f.rest → Ends Holds ps f
    other : (g : Fault) → f.fault ≡ Some g → (IsRule g.code → ⊥) → Ends Holds ps f

  -- a leaf alone
  leaf_alone : (Holds : List Piece → List RawLine → Type 0) (ps : List Piece) (column : ℕ) (bytes : List ℕ) (ls : List RawLine) (r : Leafs) → ((x : Node) (height : ℕ) (ls' : List RawLine) → IsLooseLeaf (floor ps) n bytes ls x ls' → Holds (leaf n column x height false ∷ []) ls')
      → LeafEnds (floor ps) bytes ls r → Ends Holds ps (leaf_found ps n column r ls)
  leaf_alone Holds ps column bytes ls (Ok x) wraps (reads {y = y} {height = height} {ls' = ls'} z l s) = reads (leaf n column y height false ∷ []) (leaf n column z height false ∷ []) ls' refl (more_alike like_leaf no_piece) (s, tt) (wraps z height ls' l)
  leaf_alone Holds ps column bytes ls (Err w) wraps (again z l s h) = again (leaf n column (null n) 1 false ∷ []) (leaf n column z 1 false ∷ []) refl refl (more_alike like_leaf no_piece) (s, tt) (inl h) (wraps z 1 ls l)
  leaf_alone Holds ps column bytes ls (Err w) wraps (other h) = other w.fault refl h

  -- a dash or a key before
  ends_more : {Holds Inner : List Piece → List RawLine → Type 0} (ps : List Piece) (p : Piece) (f : Found) → IsSized p.line p.what → ((qs : List Piece) (ls : List RawLine) → Inner qs ls → Holds (p ∷ qs) ls) → Ends Inner (ps ++ p ∷ []) f → Ends Holds ps f
  ends_more ps p f sized wraps (reads qs whole ls e a s h) = reads (p ∷ qs) (p ∷ whole) ls (e ∙ ap (λ (xs : List Piece). found xs ls) (append_assoc ps (p ∷ []) qs)) (more_alike (like_itself p.what) a) (sized, s) (wraps whole ls h)
  ends_more ps p f sized wraps (again qs whole e e' a s r h) = again (p ∷ qs) (p ∷ whole) (e ∙ append_assoc ps (p ∷ []) qs) e' (more_alike (like_itself p.what) a) (sized, s) (inr r) (wraps whole f.rest h)
  ends_more ps p f sized wraps (other g e h) = other g e h

  nothing_more : (Holds : List Piece → List RawLine → Type 0) (ps : List Piece) (ls : List RawLine) → Holds [] ls → Ends Holds ps (found ps ls)
  nothing_more Holds ps ls h = reads [] [] ls (ap (λ (xs : List Piece). found xs ls) (sym (append-nil ps))) no_piece tt h

  ends_either : {Holds : List Piece → List RawLine → Type 0} {ps : List Piece} (b : Bool) (f g : Found) → (b ≡ true → Ends Holds ps f) → (b ≡ false → Ends Holds ps g) → Ends Holds ps (cond b f g)
  ends_either true f g p q = p refl
  ends_either false f g p q = q refl

  -- ---- keys

  -- what stands behind a key: nothing, or a leaf
  data IsBehind (right column : ℕ) (bytes : List ℕ) (ls : List RawLine) : List Piece → List RawLine → Type 0 where
    empty : nothing_left false bytes ≡ true → IsBehind right column bytes ls [] ls
    value : {at height : ℕ} {rest : List ℕ} {x : Node} {ls' : List RawLine} → IsAt column bytes at rest → IsLooseLeaf right n rest ls x ls' → IsBehind right column bytes ls (leaf n at x height false ∷ []) ls'

  value_here : (ps : List Piece) (column : ℕ) (bytes : List ℕ) (ls : List RawLine) (w : List ℕ) → without_blanks bytes ≡ w → nothing_left false bytes ≡ false
      → Ends (IsBehind (floor ps) column bytes ls) ps (leaf_at ps n false (column + (length bytes - length w)) w ls)
  value_here ps column bytes ls [] is some = absurd (let q : true ≡ false = sym (all_blank bytes false is) ∙ some in cc)
  value_here ps column bytes ls (b ∷ rest) is some =
      leaf_alone (IsBehind (floor ps) column bytes ls) ps (column + (length bytes - length (b ∷ rest))) (b ∷ rest) ls (leaf_by (start b rest) (floor ps) false n b rest ls)
      (λ x height ls' l. value (at_found bytes column b rest is) l) (leaf_ends (start b rest) (floor ps) false b rest ls refl)

  value_ends : (ps : List Piece) (column : ℕ) (bytes : List ℕ) (ls : List RawLine) → Ends (IsBehind (floor ps) column bytes ls) ps (value_at ps n column bytes ls)
  value_ends ps column bytes ls = ends_either (nothing_left false bytes) _ _ (λ h. nothing_more (IsBehind (floor ps) column bytes ls) ps ls (empty h)) (λ h. value_here ps column bytes ls (without_blanks bytes) refl h)

  module _ (right b : ℕ) (spaced : Bool) (rest : List ℕ) (ls : List RawLine) (column : ℕ) (no_blank : is_blank b ≡ false) (no_dash : is_dash (b ∷ rest) ≡ false) where
    abbrev Held : List Piece → List RawLine → Type 0
    Held qs ls' = IsLooseHeads n right spaced column (b ∷ rest) ls qs ls'

    behind_key : (k : List ℕ) (behind : ℕ) (after : List ℕ) (right' : ℕ) → column + 1 ≡ right' → IsKey column (b ∷ rest) k behind after → (qs : List Piece) (ls' : List RawLine) → IsBehind right' behind after ls qs ls' → Held (key n column k ∷ qs) ls'
    behind_key k behind after right' same is qs ls' (empty h) = key_is (here no_blank) no_dash is h
    behind_key k behind after right' same is qs ls' (value {at = at} {height = height} {rest = w} {x = x} a l) = key_value (here no_blank) no_dash is a (subst (λ (r : ℕ). IsLooseLeaf r n w ls x ls') (sym same) l)

    key_ends : (ps : List Piece) (k : List ℕ) (behind : ℕ) (after : List ℕ) → (is_empty k ≡ false → IsKey column (b ∷ rest) k behind after) → Ends Held ps (keyed ps n column k behind after ls)
    key_ends ps k behind after is =
        ends_either (is_empty k) _ _ (λ h. other (record { line = n; code = Structure }) refl structure_no_rule)
        (λ h. ends_more {Inner = IsBehind (floor (ps ++ key n column k ∷ [])) behind after ls} ps (key n column k) (value_at (ps ++ key n column k ∷ []) n behind after ls) tt
        (behind_key k behind after (floor (ps ++ key n column k ∷ [])) (sym (floor_more ps (key n column k))) (is h)) (value_ends (ps ++ key n column k ∷ []) behind after ls))

    fresh_ends : (ps : List Piece) → right ≡ floor ps → Ends Held ps (leaf_at ps n true column (b ∷ rest) ls)
    fresh_ends ps same =
        leaf_alone Held ps column (b ∷ rest) ls (leaf_by (start b rest) (floor ps) true n b rest ls) (λ x height ls' l. leaf_is (here no_blank) no_dash (subst (λ (r : ℕ). IsLooseLeaf r n (b ∷ rest) ls x ls') (sym same) l))
        (leaf_ends (start b rest) (floor ps) true b rest ls refl)

    plain_ends : (ps : List Piece) → right ≡ floor ps → (c : Option ℕ) → start b rest ≡ starts.Plain → colon_at false 0 (b ∷ rest) ≡ c → Ends Held ps (plain_key ps n column (b ∷ rest) c ls)
    plain_ends ps same None s c = fresh_ends ps same
    plain_ends ps same (Some at) s c =
        ends_either (is_merge (trimmed (take at (b ∷ rest)))) _ _ (λ h. other (record { line = n; code = LeftOut }) refl left_out_no_rule)
        (λ h. key_ends ps (trimmed (take at (b ∷ rest))) (column + at + 1) (drop (at + 1) (b ∷ rest)) (λ some. plain_key_found column b rest at s c h some))

    quoted_ends : (ps : List Piece) → right ≡ floor ps → (s : State) (end : Option (List ℕ)) → start b rest ≡ starts.InQuotes → run (opened b n) rest ≡ (s, end) → Ends Held ps (quoted_key ps n column (b ∷ rest) s end ls)
    quoted_ends ps same s None i r = fresh_ends ps same
    quoted_ends ps same s (Some behind) i r =
        ends_either (not (colon_behind behind)) _ _ (λ h. fresh_ends ps same)
        (λ h. ends_either (is_some s.bad) _ _ (λ k. other (record { line = n; code = Structure }) refl structure_no_rule)
        (λ k. key_ends ps s.text (column + (length (b ∷ rest) - length behind) + 1) (drop 1 behind) (λ some. quoted_key_found n column b rest s behind i r (no_bad s.bad k) (colon_or_not (colon_behind behind) h) some)))
      where
        no_bad : (bad : Option ℕ) → is_some bad ≡ false → bad ≡ None
        no_bad None e = refl
        no_bad (Some x) e = absurd cc

        colon_or_not : (c : Bool) → not c ≡ false → c ≡ true
        colon_or_not true e = refl
        colon_or_not false e = absurd cc

    node_ends : (ps : List Piece) → right ≡ floor ps → (t : Start) → start b rest ≡ t → Ends Held ps (node_by t ps n column b rest ls)
    node_ends ps same starts.InQuotes s = quoted_ends ps same (run (opened b n) rest).0 (run (opened b n) rest).1 s refl
    node_ends ps same starts.Plain s = plain_ends ps same (colon_at false 0 (b ∷ rest)) s refl
    node_ends ps same starts.InBrackets s = fresh_ends ps same
    node_ends ps same starts.InLines s = fresh_ends ps same
    node_ends ps same starts.LeftOut s = fresh_ends ps same
    node_ends ps same starts.Refused s = fresh_ends ps same

  -- ---- the line

  heads_blank : (right column b : ℕ) (spaced : Bool) (bytes : List ℕ) (ls ls' : List RawLine) (qs : List Piece) → is_blank b ≡ true → IsLooseHeads n right (b == 32) (column + 1) bytes ls qs ls' → IsLooseHeads n right spaced column (b ∷ bytes) ls qs ls'
  unfolding nothing_left
  heads_blank right column b spaced bytes ls ls' qs h (nothing e) = nothing (rw h e)
  heads_blank right column b spaced bytes ls ls' qs h (dash_is a d r) = dash_is (blank h a) d r
  heads_blank right column b spaced bytes ls ls' qs h (leaf_is a d l) = leaf_is (blank h a) d l
  heads_blank right column b spaced bytes ls ls' qs h (key_is a d k e) = key_is (blank h a) d k e
  heads_blank right column b spaced bytes ls ls' qs h (key_value a d k v l) = key_value (blank h a) d k v l

  held_as : {Holds Inner : List Piece → List RawLine → Type 0} (ps : List Piece) (f : Found) → ((qs : List Piece) (ls : List RawLine) → Inner qs ls → Holds qs ls) → Ends Inner ps f → Ends Holds ps f
  held_as ps f to (reads qs whole ls e a s h) = reads qs whole ls e a s (to whole ls h)
  held_as ps f to (again qs whole e e' a s r h) = again qs whole e e' a s r (to whole f.rest h)
  held_as ps f to (other g e h) = other g e h

  pub heads_end : (bytes : List ℕ) (ps : List Piece) (spaced : Bool) (column : ℕ) (ls : List RawLine) → Ends (IsLooseHeads n (floor ps) spaced column bytes ls) ps (heads ps n spaced column bytes ls)
  unfolding heads nothing_left
  heads_end [] ps spaced column ls = nothing_more (IsLooseHeads n (floor ps) spaced column [] ls) ps ls (nothing refl)
  heads_end (b ∷ rest) ps spaced column ls =
      ends_either (is_blank b) _ _
      (λ h. held_as ps (heads ps n (b == 32) (column + 1) rest ls) (λ qs ls' i. heads_blank (floor ps) column b spaced rest ls ls' qs h i) (heads_end rest ps (b == 32) (column + 1) ls))
      (λ h. ends_either (b == 35 && spaced) _ _ (λ k. nothing_more (IsLooseHeads n (floor ps) spaced column (b ∷ rest) ls) ps ls (nothing (rw (h, k) refl)))
      (λ k. ends_either (b == 45 && breaks rest) _ _
      (λ d. ends_more {Inner = IsLooseHeads n (floor (ps ++ dash n column ∷ [])) false (column + 1) rest ls} ps (dash n column) (heads (ps ++ dash n column ∷ []) n false (column + 1) rest ls) tt
      (λ qs ls' i. dash_is (here h) d (subst (λ (r : ℕ). IsLooseHeads n r false (column + 1) rest ls qs ls') (floor_more ps (dash n column)) i)) (heads_end rest (ps ++ dash n column ∷ []) false (column + 1) ls))
      (λ d. node_ends (floor ps) b spaced rest ls column h d ps refl (start b rest) refl)))
