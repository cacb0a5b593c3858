-- Flow that is refused with C3 has a sign of what is left out.
use Rattle.std.proofs.Common.{◌≡◌, ℕ, zero, suc, ◌≤◌, ◌<◌, Bool, true, false, cond, ◌||◌, ◌&&◌, ◌⊎◌, inl, inr, List, [], ◌∷◌, drop, take, length, Option, Some, None, Err, refl, sym, ap, subst, ◌∙◌, arith}
use Rattle.std.specs.Prelude.{◌==◌, not}
use Rattle.std.proofs.lemmas.Bool.{eqb-true}
use Rattle.yaml_scan.specs.declared.fault.Code.{Code}
use Rattle.yaml_scan.specs.declared.fault.Code.TheVariants.{Structure, LeftOut}
use Rattle.yaml_scan.specs.Words.{is_blank, is_empty, is_some, has_colon, colon_at, trimmed}
use Rattle.yaml_scan.specs.Quoted.{State, opened, is_closed, step as quoted_step, run as quoted_run}
use Rattle.yaml_tree.specs.declared.node.Node.{Node}
use Rattle.yaml_tree.specs.declared.flow.Frame.{Frame}
use Rattle.yaml_tree.specs.Nodes.{null}
use Rattle.yaml_tree.specs.Starts.{left_out, no_plain, is_merge}
use Rattle.yaml_tree.specs.Brackets.{IsWord}
use Rattle.yaml_tree.specs.Flow.{Machine, Ended, Step, on, ended, fails, closing, wants_key, holding, closed, behind, keyed, alone, colon_behind, quoted_by, plain_key, plain_by, scalar, after_step, item_step, step_by, step, ran, run, flow, start as flow_start}
use Rattle.yaml_tree.proofs.BracketWords.{cut, Cut, whole, keyed as keyed_cut, word_found}
use Rattle.yaml_tree.proofs.BracketSteps.{begins_plain, cut_is, plain_is}
use Rattle.yaml_tree.proofs.LinesFound.{and_true}
use Rattle.yaml_laws.proofs.Orders.{tested}
use Rattle.yaml_signs.specs.Signs.{Reaches, itself, token, IsSignInFlow, not_closed, comment, sign, merge}

-- It goes on with no more than so many bytes, or ends, or fails: with C2, or with C3 for this reason.
data Moves (Reason : Type 0) (most : ℕ) : Step → Type 0 where
  goes : {m : Machine} → length m.rest ≤ most → Moves Reason most (on m)
  stops : {x : Ended} → Moves Reason most (ended x)
  refused : Moves Reason most (fails Structure)
  left : Reason → Moves Reason most (fails LeftOut)

drop_less : (count : ℕ) (bytes : List ℕ) → length (drop count bytes) ≤ length bytes
drop_less zero bytes = omega arith
drop_less (suc count) [] = omega arith
drop_less (suc count) (b ∷ bytes) = let le = drop_less count bytes in omega (arith, le)

quoted_less : (bytes : List ℕ) (s : State) (rest : List ℕ) → (quoted_run s bytes).1 ≡ Some rest → length rest ≤ length bytes
unfolding quoted_run
quoted_less [] s rest e = at_end _ e
  where
    at_end : (b : Bool) → cond b (Some []) None ≡ Some rest → length rest ≤ 0
    at_end true q = let same : [] ≡ rest = cc in subst (λ (x : List ℕ). length x ≤ 0) same (omega arith)
    at_end false q = absurd cc
quoted_less (b ∷ bytes) s rest e = elim (tested (is_closed s b)) [
  | inl h ↦
      let q : Some (b ∷ bytes) ≡ Some rest = rw h at e in
      let same : b ∷ bytes ≡ rest = cc in
      subst (λ (x : List ℕ). length x ≤ length (b ∷ bytes)) same (omega arith)
  | inr h ↦
      let q : (quoted_run (quoted_step s b) bytes).1 ≡ Some rest = rw h at e in
      let le = quoted_less bytes (quoted_step s b) rest q in
      omega (arith, le)
]

drop_fits : {most : ℕ} (count : ℕ) (bytes : List ℕ) → length bytes ≤ most → length (drop count bytes) ≤ most
drop_fits count bytes le = let less = drop_less count bytes in omega (arith, le, less)

module _ {Reason : Type 0} {most : ℕ} where
  either : (b : Bool) (s t : Step) → (b ≡ true → Moves Reason most s) → (b ≡ false → Moves Reason most t) → Moves Reason most (cond b s t)
  either true s t p q = p refl
  either false s t p q = q refl

  closed_moves : (m : Machine) (node : Node) (fs : List Frame) → length m.rest ≤ most → Moves Reason most (closed m node fs)
  closed_moves m node [] le = stops
  closed_moves m node (f ∷ fs) le = goes le

  keyed_moves : (m : Machine) (key : List ℕ) → length m.rest ≤ most → Moves Reason most (keyed m key)
  keyed_moves m key le = either (is_empty key) _ _ (λ e. refused) (λ e. goes le)

  alone_moves : (m : Machine) (key : List ℕ) → length m.rest ≤ most → Moves Reason most (alone m key)
  alone_moves m key le = either (is_empty key) _ _ (λ e. refused) (λ e. goes le)

  quoted_moves : (m : Machine) (s : State) (end : Option (List ℕ)) → ((rest : List ℕ) → end ≡ Some rest → length rest ≤ most) → Moves Reason most (quoted_by m s end)
  quoted_moves m s None le = refused
  quoted_moves m s (Some rest) le =
      let own = le rest refl in
      let less = drop_less 1 rest in
      either (is_some s.bad) _ _ (λ e. refused)
      (λ e. either (not (wants_key m.frame)) _ _ (λ e. goes own)
      (λ e. either (colon_behind rest) _ _ (λ e. keyed_moves (behind m false (drop 1 rest)) s.text (omega (arith, own, less))) (λ e. alone_moves (behind m false rest) s.text own)))

  key_moves : (m : Machine) (bytes w : List ℕ) (count : ℕ) (c : Option ℕ) → Cut false 0 bytes w c → length m.rest ≤ most
      → ((word rest : List ℕ) → IsWord false bytes word rest → is_merge (trimmed word) ≡ true → Reason) → Moves Reason most (plain_key m w count c)
  key_moves m bytes w count None (whole i) le reason =
      either (is_merge (trimmed w)) _ _ (λ e. left (reason w (drop (length w) bytes) i e)) (λ e. alone_moves (behind m true (drop count m.rest)) (trimmed w) (drop_fits count m.rest le))
  key_moves m bytes w count (Some p) (keyed_cut {r = r} k i d ends is) le reason =
      let same : k ≡ p = omega (arith, is) in
      let i' : IsWord false bytes (take p w) (58 ∷ r) = subst (λ (x : ℕ). IsWord false bytes (take x w) (58 ∷ r)) same i in
      either (is_merge (trimmed (take p w))) _ _ (λ e. left (reason (take p w) (58 ∷ r) i' e)) (λ e. keyed_moves (behind m false (drop p m.rest)) (trimmed (take p w)) (drop_fits p m.rest le))

  plain_moves : (m : Machine) (bytes w : List ℕ) (count : ℕ) → Cut false 0 bytes w (colon_at false 0 w) → length m.rest ≤ most
      → ((word rest : List ℕ) → wants_key m.frame ≡ true → IsWord false bytes word rest → is_merge (trimmed word) ≡ true → Reason) → Moves Reason most (plain_by m w count)
  plain_moves m bytes w count c le reason =
      either (wants_key m.frame) _ _ (λ e. key_moves m bytes w count (colon_at false 0 w) c le (λ word rest. reason word rest e))
      (λ e. either (has_colon w) _ _ (λ e. refused) (λ e. goes (drop_fits count m.rest le)))

  scalar_moves : (m : Machine) (b : ℕ) → is_blank b ≡ false → length m.rest ≤ most → (left_out b m.rest ≡ true → Reason)
      → ((word rest : List ℕ) → wants_key m.frame ≡ true → IsWord false (b ∷ m.rest) word rest → is_merge (trimmed word) ≡ true → Reason) → Moves Reason most (scalar m b)
  scalar_moves m b no_blank le out merges =
      either (b == 34 || b == 39) _ _
      (λ e. quoted_moves m (quoted_run (opened b m.line) m.rest).0 (quoted_run (opened b m.line) m.rest).1 (λ rest q. let less = quoted_less m.rest (opened b m.line) rest q in omega (arith, le, less)))
      (λ no_quote. either (left_out b m.rest) _ _ (λ e. left (out e))
      (λ no_sign. either (no_plain b m.rest) _ _ (λ e. refused)
      (λ fits.
      (let s = begins_plain b m.rest no_quote no_sign fits in
      let cuts = cut_is b m.rest no_blank s in
      let c : Cut false 0 (b ∷ m.rest) (b ∷ cut false m.rest) (colon_at false 0 (b ∷ cut false m.rest)) =
      subst (λ (w : List ℕ). Cut false 0 (b ∷ m.rest) w (colon_at false 0 w)) cuts (word_found (b ∷ m.rest) false 0 (colon_at false 0 (cut false (b ∷ m.rest))) refl) in
      subst (Moves Reason most) (sym (plain_is m b)) (plain_moves m (b ∷ m.rest) (b ∷ cut false m.rest) (length (cut false m.rest)) c le merges)))))

  after_moves : (m : Machine) (b : ℕ) → length m.rest ≤ most → Moves Reason most (after_step m b)
  after_moves m b le = either (b == 44) _ _ (λ e. goes le) (λ e. either (b == closing m.frame) _ _ (λ e. closed_moves m _ m.frames le) (λ e. refused))

  item_moves : (m : Machine) (b : ℕ) → is_blank b ≡ false → length m.rest ≤ most → (left_out b m.rest ≡ true → Reason)
      → ((word rest : List ℕ) → wants_key m.frame ≡ true → IsWord false (b ∷ m.rest) word rest → is_merge (trimmed word) ≡ true → Reason) → Moves Reason most (item_step m b)
  item_moves m b no_blank le out merges =
      either (is_some m.frame.key && (b == 44 || b == 125)) _ _ (λ e. after_moves (holding m (null m.line)) b le)
      (λ e. either (b == closing m.frame) _ _ (λ e. closed_moves m _ m.frames le)
      (λ e. either (b == 91 || b == 123) _ _ (λ e. either (wants_key m.frame) _ _ (λ e. refused) (λ e. goes le)) (λ e. scalar_moves m b no_blank le out merges)))

step_moves : (m : Machine) (b : ℕ) (rest : List ℕ) → m.rest ≡ b ∷ rest → Moves (IsSignInFlow m) (length rest) (step_by m (b ∷ rest))
step_moves m b rest e =
    either (is_blank b) _ _ (λ q. goes (omega arith))
    (λ no_blank. either (b == 35 && m.spaced) _ _ (λ q. let both = and_true (b == 35) m.spaced q in left (comment (e ∙ ap (λ (x : ℕ). x ∷ rest) (eqb-true b 35 both.0)) both.1))
    (λ q. either m.after _ _ (λ q. after_moves (behind m (b == 32) rest) b (omega arith))
    (λ before. item_moves (behind m (b == 32) rest) b no_blank (omega arith) (λ out. sign e before out)
    (λ word more wants i is. merge before wants (subst (λ (x : List ℕ). IsWord false x word more) (sym e) i) is))))

abbrev pub Signed : Machine → Type 0
Signed m = (last : Machine) × Reaches m last × IsSignInFlow last

moved : (k : ℕ) (m : Machine) (most : ℕ) (s : Step) → ((next : Machine) → length next.rest ≤ most → run k next ≡ Err LeftOut → Signed next) → step m ≡ s → Moves (IsSignInFlow m) most s → ran s (run k) ≡ Err LeftOut → Signed m
moved k m most s more is (goes {m = next} le) q = let r = more next le q in (r.0, token is r.1, r.2)
moved k m most s more is stops q = absurd cc
moved k m most s more is refused q = absurd cc
moved k m most s more is (left reason) q = (m, itself, reason)

run_left : (k : ℕ) (m : Machine) → length m.rest < k → run k m ≡ Err LeftOut → Signed m
unfolding run
run_left zero m lt q = absurd (omega (arith, lt))
run_left (suc k) m lt q = by (λ next le. run_left k next le) m.rest refl
  where
    by : ((next : Machine) → length next.rest < k → run k next ≡ Err LeftOut → Signed next) → (bytes : List ℕ) → m.rest ≡ bytes → Signed m
    by more [] e = (m, itself, not_closed e)
    by more (b ∷ rest) e =
        let long : length m.rest ≡ suc (length rest) = ap (λ (x : List ℕ). length x) e in
        let is : step m ≡ step_by m (b ∷ rest) = ap (step_by m) e in
        moved k m (length rest) (step_by m (b ∷ rest)) (λ next le. more next (omega (arith, le, long, lt))) is (step_moves m b rest e) (ap (λ (s : Step). ran s (run k)) (sym is) ∙ q)

pub flow_left : (n : ℕ) (is_map : Bool) (bytes : List ℕ) → flow n is_map bytes ≡ Err LeftOut → Signed (flow_start n is_map bytes)
unfolding flow
flow_left n is_map bytes q = run_left (suc (length bytes)) (flow_start n is_map bytes) (omega arith) q

-- ---- its codes

coded : {Reason : Type 0} {most : ℕ} (k : ℕ) (c : Code) {s : Step} → Moves Reason most s → ((next : Machine) → run k next ≡ Err c → (c ≡ Structure) ⊎ (c ≡ LeftOut)) → ran s (run k) ≡ Err c → (c ≡ Structure) ⊎ (c ≡ LeftOut)
coded k c (goes {m = next} le) more q = more next q
coded k c stops more q = absurd cc
coded k c refused more q = let z : Structure ≡ c = cc in inl (sym z)
coded k c (left reason) more q = let z : LeftOut ≡ c = cc in inr (sym z)

run_codes : (k : ℕ) (m : Machine) (c : Code) → run k m ≡ Err c → (c ≡ Structure) ⊎ (c ≡ LeftOut)
unfolding run
run_codes zero m c q = let z : LeftOut ≡ c = cc in inr (sym z)
run_codes (suc k) m c q = by (λ next. run_codes k next c) m.rest refl
  where
    by : ((next : Machine) → run k next ≡ Err c → (c ≡ Structure) ⊎ (c ≡ LeftOut)) → (bytes : List ℕ) → m.rest ≡ bytes → (c ≡ Structure) ⊎ (c ≡ LeftOut)
    by more [] e = let z : Err LeftOut ≡ Err c = ap (λ (x : List ℕ). ran (step_by m x) (run k)) (sym e) ∙ q in let z' : LeftOut ≡ c = cc in inr (sym z')
    by more (b ∷ rest) e = coded k c (step_moves m b rest e) more (ap (λ (x : List ℕ). ran (step_by m x) (run k)) (sym e) ∙ q)

pub flow_codes : (n : ℕ) (is_map : Bool) (bytes : List ℕ) (c : Code) → flow n is_map bytes ≡ Err c → (c ≡ Structure) ⊎ (c ≡ LeftOut)
unfolding flow
flow_codes n is_map bytes c q = run_codes (suc (length bytes)) (flow_start n is_map bytes) c q
