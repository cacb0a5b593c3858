-- The steps of flow, whether or not a key was repeated before.
use Rattle.std.proofs.Common.{◌≡◌, ℕ, Bool, true, false, ◌||◌, ◌&&◌, inl, inr, List, [], ◌∷◌, ◌++◌, length, Some, None, refl}
use Rattle.std.specs.Prelude.{◌==◌}
use Rattle.yaml_scan.specs.declared.fault.Code.{Code}
use Rattle.yaml_scan.specs.declared.fault.Code.TheVariants.{Structure, LeftOut}
use Rattle.yaml_scan.specs.Words.{is_blank, is_some}
use Rattle.yaml_tree.specs.declared.node.Node.{Node}
use Rattle.yaml_tree.specs.declared.flow.Frame.{Frame}
use Rattle.yaml_tree.specs.Nodes.{Pair, null, listed, mapped}
use Rattle.yaml_tree.specs.Flow.{Machine, Step, on, ended, fails, held, closing, wants_key, raised, kept, closed, scalar, step}
use Rattle.yaml_tree.proofs.LinesFound.{tested}
use Rattle.yaml_tree.proofs.BracketSteps.{list_frame, map_frame}

-- on this line
abbrev pub at : ℕ → Frame → List Frame → Bool → ℕ → Bool → Bool → List ℕ → Machine
at n f fs after height repeated spaced bytes = record { line = n; frame = f; frames = fs; after = after; height = height; repeated = repeated; spaced = spaced; rest = bytes }

-- the innermost bracket is closed
abbrev pub shuts : ℕ → ℕ → Bool → List ℕ → Node → List Frame → Step
shuts n height repeated rest node [] = ended (record { node = node; height = height; repeated = repeated; rest = rest })
shuts n height repeated rest node (f ∷ fs) = on (at n (held f n node) fs true height repeated false rest)

shut_is : (n : ℕ) (f : Frame) (gs : List Frame) (after : Bool) (height : ℕ) (repeated : Bool) (rest : List ℕ) (node : Node) (fs : List Frame) → closed (at n f gs after height repeated false rest) node fs ≡ shuts n height repeated rest node fs
shut_is n f gs after height repeated rest node [] = refl
shut_is n f gs after height repeated rest node (g ∷ fs) = refl

no_closing : (f : Frame) (b : ℕ) → (b == 93) ≡ false → (b == 125) ≡ false → (b == closing f) ≡ false
no_closing f b h i = elim (tested f.is_map) [ inl k ↦ rw (k, i) refl | inr k ↦ rw (k, h) refl ]

and_none : (a : Bool) → (a && false) ≡ false
and_none true = refl
and_none false = refl

-- a token that is no blank and no sign
pub scalar_step : (n : ℕ) (f : Frame) (fs : List Frame) (height : ℕ) (repeated : Bool) (b : ℕ) (spaced : Bool) (bytes : List ℕ) → is_blank b ≡ false → (b == 35) ≡ false → (b == 44) ≡ false → (b == 125) ≡ false → (b == 93) ≡ false → (b == 91 || b == 123) ≡ false
    → step (at n f fs false height repeated spaced (b ∷ bytes)) ≡ scalar (at n f fs false height repeated (b == 32) bytes) b
scalar_step n f fs height repeated b spaced bytes no_blank no_comment no_comma no_brace no_bracket no_open =
    let no_close : (b == closing f) ≡ false = no_closing f b no_bracket no_brace in
    let none_waits : (is_some f.key && (b == 44 || b == 125)) ≡ false = rw (no_comma, no_brace) (and_none (is_some f.key)) in
    rw (no_blank, no_comment, none_waits, no_close, no_open) refl

-- A comment cannot stand in flow.
pub comment_fails : (n : ℕ) (f : Frame) (fs : List Frame) (after : Bool) (height : ℕ) (repeated spaced : Bool) (bytes : List ℕ) → (code : Code) × (step (at n f fs after height repeated spaced (35 ∷ bytes)) ≡ fails code)
comment_fails n f fs after height repeated true bytes = (LeftOut, refl)
comment_fails n f fs true height repeated false bytes = (Structure, let no_close : (35 == closing f) ≡ false = no_closing f 35 refl refl in rw no_close refl)
comment_fails n f fs false height repeated false bytes =
    let none_waits : (is_some f.key && false) ≡ false = and_none (is_some f.key) in
    let no_close : (35 == closing f) ≡ false = no_closing f 35 refl refl in
    (Structure, rw (none_waits, no_close) refl)

pub list_opens : (n : ℕ) (f : Frame) (fs : List Frame) (height : ℕ) (repeated spaced : Bool) (bytes : List ℕ) → wants_key f ≡ false
    → step (at n f fs false height repeated spaced (91 ∷ bytes)) ≡ on (at n (list_frame []) (f ∷ fs) false (raised height (length fs)) repeated false bytes)
list_opens n f fs height repeated spaced bytes wants =
    let none_waits : (is_some f.key && false) ≡ false = and_none (is_some f.key) in
    let no_close : (91 == closing f) ≡ false = no_closing f 91 refl refl in
    rw (none_waits, no_close, wants) refl

pub map_opens : (n : ℕ) (f : Frame) (fs : List Frame) (height : ℕ) (repeated spaced : Bool) (bytes : List ℕ) → wants_key f ≡ false
    → step (at n f fs false height repeated spaced (123 ∷ bytes)) ≡ on (at n (map_frame [] None) (f ∷ fs) false (raised height (length fs)) repeated false bytes)
map_opens n f fs height repeated spaced bytes wants =
    let none_waits : (is_some f.key && false) ≡ false = and_none (is_some f.key) in
    let no_close : (123 == closing f) ≡ false = no_closing f 123 refl refl in
    rw (none_waits, no_close, wants) refl

pub list_closes : (n : ℕ) (xs : List Node) (fs : List Frame) (after : Bool) (height : ℕ) (repeated spaced : Bool) (rest : List ℕ)
    → step (at n (list_frame xs) fs after height repeated spaced (93 ∷ rest)) ≡ shuts n height repeated rest (kept (length fs) n (listed n xs)) fs
list_closes n xs fs true height repeated spaced rest = shut_is n (list_frame xs) fs true height repeated rest (kept (length fs) n (listed n xs)) fs
list_closes n xs fs false height repeated spaced rest = shut_is n (list_frame xs) fs false height repeated rest (kept (length fs) n (listed n xs)) fs

pub map_closes : (n : ℕ) (ps : List Pair) (fs : List Frame) (after : Bool) (height : ℕ) (repeated spaced : Bool) (rest : List ℕ)
    → step (at n (map_frame ps None) fs after height repeated spaced (125 ∷ rest)) ≡ shuts n height repeated rest (kept (length fs) n (mapped n ps)) fs
map_closes n ps fs true height repeated spaced rest = shut_is n (map_frame ps None) fs true height repeated rest (kept (length fs) n (mapped n ps)) fs
map_closes n ps fs false height repeated spaced rest = shut_is n (map_frame ps None) fs false height repeated rest (kept (length fs) n (mapped n ps)) fs

-- a key without a value
pub key_closes : (n : ℕ) (ps : List Pair) (k : List ℕ) (fs : List Frame) (height : ℕ) (repeated spaced : Bool) (rest : List ℕ)
    → step (at n (map_frame ps (Some k)) fs false height repeated spaced (125 ∷ rest)) ≡ shuts n (raised height (length fs)) repeated rest (kept (length fs) n (mapped n (ps ++ (k, n, null n) ∷ []))) fs
key_closes n ps k fs height repeated spaced rest = shut_is n (map_frame (ps ++ (k, n, null n) ∷ []) None) fs true (raised height (length fs)) repeated rest (kept (length fs) n (mapped n (ps ++ (k, n, null n) ∷ []))) fs

pub key_goes_on : (n : ℕ) (ps : List Pair) (k : List ℕ) (fs : List Frame) (height : ℕ) (repeated spaced : Bool) (rest : List ℕ)
    → step (at n (map_frame ps (Some k)) fs false height repeated spaced (44 ∷ rest)) ≡ on (at n (map_frame (ps ++ (k, n, null n) ∷ []) None) fs false (raised height (length fs)) repeated false rest)
key_goes_on n ps k fs height repeated spaced rest = refl
