-- Along flow that is read its height only grows, and a repeated key is never forgotten.
use Rattle.std.proofs.Common.{◌≡◌, ℕ, zero, suc, ◌+◌, ◌≤◌, Bool, true, false, cond, ◌||◌, ◌&&◌, List, [], ◌∷◌, drop, take, Option, Some, None, Ok, refl, subst, arith}
use Rattle.std.specs.Prelude.{◌==◌, not}
use Rattle.yaml_scan.specs.declared.fault.Code.{Code}
use Rattle.yaml_scan.specs.Words.{is_blank, is_empty, is_some, has_colon, colon_at, trimmed}
use Rattle.yaml_scan.specs.Quoted.{State, opened, run as quoted_run}
use Rattle.yaml_tree.specs.declared.node.Node.{Node}
use Rattle.yaml_tree.specs.declared.flow.Frame.{Frame}
use Rattle.yaml_tree.specs.Nodes.{null, scalar_node}
use Rattle.yaml_tree.specs.Starts.{left_out, no_plain, is_merge}
use Rattle.yaml_tree.specs.Flow.{Machine, Ended, Step, on, ended, fails, closing, wants_key, holding, closed, closes, behind, keyed, alone, colon_behind, quoted_by, word_end, plain_key, plain_by, scalar, after_step, item_step, step_by, ran, run}

-- It goes on or ends no lower, and with the repeated key, or it fails.
pub data Grows (height : ℕ) (repeated : Bool) : Step → Type 0 where
  goes : {m : Machine} → height ≤ m.height → (repeated ≡ true → m.repeated ≡ true) → Grows height repeated (on m)
  stops : {x : Ended} → height ≤ x.height → (repeated ≡ true → x.repeated ≡ true) → Grows height repeated (ended x)
  refused : {code : Code} → Grows height repeated (fails code)

either : {h : ℕ} {r : Bool} (b : Bool) (s t : Step) → Grows h r s → Grows h r t → Grows h r (cond b s t)
either true s t p q = p
either false s t p q = q

higher : {h low : ℕ} {r : Bool} {s : Step} → low ≤ h → Grows h r s → Grows low r s
higher le (goes g p) = goes (omega arith) p
higher le (stops g p) = stops (omega arith) p
higher le refused = refused

or_left : (a b : Bool) → a ≡ true → (a || b) ≡ true
or_left true b e = refl
or_left false b e = absurd cc

closed_grows : (m : Machine) (node : Node) (fs : List Frame) → Grows m.height m.repeated (closed m node fs)
closed_grows m node [] = stops (omega arith) (λ e. e)
closed_grows m node (f ∷ fs) = goes (omega arith) (λ e. e)

holds : (m : Machine) (node : Node) → Grows m.height m.repeated (on (holding m node))
holds m node = goes (omega arith) (λ e. e)

keyed_grows : (m : Machine) (key : List ℕ) → Grows m.height m.repeated (keyed m key)
keyed_grows m key = either (is_empty key) _ _ refused (goes (omega arith) (λ e. or_left m.repeated _ e))

alone_grows : (m : Machine) (key : List ℕ) → Grows m.height m.repeated (alone m key)
alone_grows m key = either (is_empty key) _ _ refused (goes (omega arith) (λ e. or_left m.repeated _ e))

quoted_grows : (m : Machine) (s : State) (end : Option (List ℕ)) → Grows m.height m.repeated (quoted_by m s end)
quoted_grows m s None = refused
quoted_grows m s (Some rest) =
    either (is_some s.bad) _ _ refused
    (either (not (wants_key m.frame)) _ _ (holds (behind m false rest) (scalar_node m.line s.text false)) (either (colon_behind rest) _ _ (keyed_grows (behind m false (drop 1 rest)) s.text) (alone_grows (behind m false rest) s.text)))

key_grows : (m : Machine) (w : List ℕ) (count : ℕ) (c : Option ℕ) → Grows m.height m.repeated (plain_key m w count c)
key_grows m w count None = either (is_merge (trimmed w)) _ _ refused (alone_grows (behind m true (drop count m.rest)) (trimmed w))
key_grows m w count (Some at) = either (is_merge (trimmed (take at w))) _ _ refused (keyed_grows (behind m false (drop at m.rest)) (trimmed (take at w)))

plain_grows : (m : Machine) (w : List ℕ) (count : ℕ) → Grows m.height m.repeated (plain_by m w count)
plain_grows m w count = either (wants_key m.frame) _ _ (key_grows m w count (colon_at false 0 w)) (either (has_colon w) _ _ refused (holds (behind m true (drop count m.rest)) (scalar_node m.line (trimmed w) true)))

scalar_grows : (m : Machine) (b : ℕ) → Grows m.height m.repeated (scalar m b)
scalar_grows m b =
    either (b == 34 || b == 39) _ _ (quoted_grows m (quoted_run (opened b m.line) m.rest).0 (quoted_run (opened b m.line) m.rest).1)
    (either (left_out b m.rest) _ _ refused (either (no_plain b m.rest) _ _ refused (plain_grows m (take (word_end false 0 m.rest + 1) (b ∷ m.rest)) (word_end false 0 m.rest))))

closes_grows : (m : Machine) → Grows m.height m.repeated (closes m)
closes_grows m = closed_grows m _ m.frames

after_grows : (m : Machine) (b : ℕ) → Grows m.height m.repeated (after_step m b)
after_grows m b = either (b == 44) _ _ (goes (omega arith) (λ e. e)) (either (b == closing m.frame) _ _ (closes_grows m) refused)

item_grows : (m : Machine) (b : ℕ) → Grows m.height m.repeated (item_step m b)
item_grows m b =
    either (is_some m.frame.key && (b == 44 || b == 125)) _ _ (higher (omega arith) (after_grows (holding m (null m.line)) b))
    (either (b == closing m.frame) _ _ (closes_grows m) (either (b == 91 || b == 123) _ _ (either (wants_key m.frame) _ _ refused (goes (omega arith) (λ e. e))) (scalar_grows m b)))

step_grows : (m : Machine) (bytes : List ℕ) → Grows m.height m.repeated (step_by m bytes)
step_grows m [] = refused
step_grows m (b ∷ rest) =
    either (is_blank b) _ _ (goes (omega arith) (λ e. e))
    (either (b == 35 && m.spaced) _ _ refused (either m.after _ _ (after_grows (behind m (b == 32) rest) b) (item_grows (behind m (b == 32) rest) b)))

abbrev Higher : ℕ → Bool → Ended → Type 0
Higher height repeated x = (height ≤ x.height) × (repeated ≡ true → x.repeated ≡ true)

ran_grows : {h : ℕ} {r : Bool} {s : Step} → Grows h r s → (k : ℕ) (x : Ended) → ((m : Machine) → run k m ≡ Ok x → Higher m.height m.repeated x) → ran s (run k) ≡ Ok x → Higher h r x
ran_grows (goes {m = m} le p) k x more e = let g = more m e in (omega (arith, g.0), λ q. g.1 (p q))
ran_grows {h = h} {r = r} (stops {x = y} le p) k x more e =
    let same : y ≡ x = cc in
    subst (λ (z : Ended). Higher h r z) same (le, p)
ran_grows refused k x more e = absurd cc

pub run_grows : (k : ℕ) (m : Machine) (x : Ended) → run k m ≡ Ok x → (m.height ≤ x.height) × (m.repeated ≡ true → x.repeated ≡ true)
unfolding run
run_grows zero m x e = absurd cc
run_grows (suc k) m x e = ran_grows (step_grows m m.rest) k x (λ m' e'. run_grows k m' x e') e
