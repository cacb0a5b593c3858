-- Scalars and flow that are refused with C3 begin with a sign of what is left out.
use Rattle.std.proofs.Common.{◌≡◌, ◌≤◌, ℕ, ◌⊎◌, inl, inr, ◌+◌, ◌-◌, Bool, true, false, cond, ◌||◌, ◌&&◌, List, [], ◌∷◌, ◌++◌, drop, Option, Some, None, Result, Ok, Err, refl, sym, ap, subst, ◌∙◌, arith}
use Rattle.std.specs.Prelude.{◌==◌, not, nat_lt}
use Rattle.std.proofs.lemmas.Bool.{eqb-true}
use Rattle.yaml_scan.specs.declared.line.RawLine.{RawLine}
use Rattle.yaml_scan.specs.declared.fault.Fault.{Fault}
use Rattle.yaml_scan.specs.declared.fault.Code.{Code}
use Rattle.yaml_scan.specs.declared.fault.Code.TheVariants.{Structure, LeftOut, RepeatedKey}
use Rattle.yaml_scan.specs.Codes.{number_of}
use Rattle.yaml_scan.specs.Answers.{Reading}
use Rattle.yaml_scan.specs.Words.{sees, is_empty, nothing_left, times, folded, has_colon, has_comment, only_blanks, without_blanks}
use Rattle.yaml_scan.specs.Plain.{text_of, further, plain}
use Rattle.yaml_scan.specs.Quoted.{State, opened, run, led, finished_by, next_line, further as quoted_further, quoted}
use Rattle.yaml_scan.specs.Block.{State as Block, added, begun, body, opening, block}
use Rattle.yaml_tree.specs.declared.leaf.Wrong.{Wrong}
use Rattle.yaml_tree.specs.declared.starts.Start.{Start}
use Rattle.yaml_tree.specs.declared.starts.Start.TheVariants as starts
use Rattle.yaml_tree.specs.Blocks.{IsHead, clipped, stripped}
use Rattle.yaml_tree.specs.Flow.{Ended, flow}
use Rattle.yaml_tree.specs.Leaves.{scalar, flow_by, leaf_by, colon_behind}
use Rattle.yaml_tree.specs.Starts.{start, left_out, no_plain}
use Rattle.yaml_tree.proofs.LinesFound.{and_true}
use Rattle.yaml_signs.specs.Signs.{IsSign, sign, head, flow_key, in_flow}
use Rattle.yaml_signs.proofs.FlowSigns.{flow_left}

-- a fault has this
abbrev pub Fails : {A F : Type 0} → (F → Type 0) → Result A F → Type 0
Fails P (Ok x) = Unit {0}
Fails P (Err f) = P f

either : {A F : Type 0} (P : F → Type 0) (b : Bool) (r s : Result A F) → (b ≡ true → Fails P r) → (b ≡ false → Fails P s) → Fails P (cond b r s)
either P true r s p q = p refl
either P false r s p q = q refl

-- ---- scalars

abbrev pub IsStructure : Fault → Type 0
IsStructure f = f.code ≡ Structure

further_fails : (floor : ℕ) (ls : List RawLine) (text : List ℕ) (blanks : ℕ) → Fails IsStructure (further floor text blanks ls)
unfolding further
further_fails floor [] text blanks = tt
further_fails floor (l ∷ ls) text blanks =
    either IsStructure (is_empty l.content) _ _ (λ e. further_fails floor ls text (blanks + 1))
    (λ e. either IsStructure (sees 35 l.content || nat_lt l.indent floor) _ _ (λ e. tt)
    (λ e. either IsStructure (has_colon l.content) _ _ (λ e. refl)
    (λ e. either IsStructure (has_comment l.content) _ _ (λ e. tt) (λ e. further_fails floor ls (text ++ folded blanks ++ text_of l.content) 0))))

pub plain_fails : (floor n : ℕ) (bytes : List ℕ) (ls : List RawLine) → Fails IsStructure (plain floor n bytes ls)
unfolding plain
plain_fails floor n bytes ls =
    either IsStructure (has_colon bytes) _ _ (λ e. refl) (λ e. either IsStructure (has_comment bytes) _ _ (λ e. tt) (λ e. further_fails floor ls (text_of bytes) 0))

finished_fails : (bad : Option ℕ) (s : State) (rest : List ℕ) (ls : List RawLine) → Fails IsStructure (finished_by bad s rest ls)
finished_fails (Some n) s rest ls = refl
finished_fails None s rest ls = either IsStructure (nothing_left false rest) _ _ (λ e. tt) (λ e. refl)

led_fails : (s : State) (end : Option (List ℕ)) (ls : List RawLine) (more : Reading (List ℕ)) → Fails IsStructure more → Fails IsStructure (led s end ls more)
led_fails s (Some rest) ls more h = finished_fails s.bad s rest ls
led_fails s None ls more h = h

quoted_further_fails : (floor first : ℕ) (ls : List RawLine) (blanks : ℕ) (s : State) → Fails IsStructure (quoted_further floor first blanks s ls)
unfolding quoted_further
quoted_further_fails floor first [] blanks s = refl
quoted_further_fails floor first (l ∷ ls) blanks s =
    let r : State × Option (List ℕ) = run (next_line s blanks l.line) (without_blanks l.content) in
    either IsStructure (only_blanks l.content) _ _ (λ e. quoted_further_fails floor first ls (blanks + 1) s)
    (λ e. either IsStructure (nat_lt l.indent floor) _ _ (λ e. refl) (λ e. led_fails r.0 r.1 ls (quoted_further floor first 0 r.0 ls) (quoted_further_fails floor first ls 0 r.0)))

pub quoted_fails : (floor n quote : ℕ) (bytes : List ℕ) (ls : List RawLine) → Fails IsStructure (quoted floor n quote bytes ls)
unfolding quoted
quoted_fails floor n quote bytes ls =
    let r : State × Option (List ℕ) = run (opened quote n) bytes in
    led_fails r.0 r.1 ls (quoted_further floor n 0 r.0 ls) (quoted_further_fails floor n ls 0 r.0)

-- the line n has more behind `|` or `>` than may stand there
abbrev pub IsWrongHead : ℕ → List ℕ → Fault → Type 0
IsWrongHead n bytes f = (f.line ≡ n) × (f.code ≡ LeftOut) × ((strip : Bool) → IsHead bytes strip → ⊥)

-- a dash is no blank and no comment
dash_left : (bytes : List ℕ) → sees 45 bytes ≡ true → nothing_left false bytes ≡ true → ⊥
unfolding nothing_left
dash_left [] d q = absurd cc
dash_left (b ∷ bytes) d q =
    let is : b ≡ 45 = eqb-true b 45 d in
    let z : nothing_left false (45 ∷ bytes) ≡ true = subst (λ (x : ℕ). nothing_left false (x ∷ bytes) ≡ true) is q in
    absurd cc

no_dash_head : (bytes : List ℕ) → nothing_left false bytes ≡ false → sees 45 bytes ≡ false → (strip : Bool) → IsHead bytes strip → ⊥
no_dash_head bytes more other strip (clipped e) = let q : true ≡ false = sym e ∙ more in cc
no_dash_head bytes more other strip (stripped e) = absurd cc

dash_head : (bytes : List ℕ) → nothing_left false (drop 1 bytes) ≡ false → sees 45 bytes ≡ true → (strip : Bool) → IsHead bytes strip → ⊥
dash_head bytes more dashed strip (clipped e) = dash_left bytes dashed e
dash_head bytes more dashed strip (stripped e) = let q : true ≡ false = sym e ∙ more in cc

module _ (n : ℕ) (bytes : List ℕ) where
  body_fails : (strip : Bool) (indent : ℕ) (ls : List RawLine) (s : Block) → Fails (IsWrongHead n bytes) (body strip indent s ls)
  unfolding body
  body_fails strip indent [] s = tt
  body_fails strip indent (l ∷ ls) s =
      either (IsWrongHead n bytes) (not (is_empty l.content) && nat_lt l.indent indent) _ _ (λ e. tt) (λ e. body_fails strip indent ls (added s (times (l.indent - indent) 32 ++ l.content)))

  opening_fails : (fold strip : Bool) (floor : ℕ) (ls : List RawLine) (k : ℕ) → Fails (IsWrongHead n bytes) (opening fold strip floor k ls)
  unfolding opening
  opening_fails fold strip floor [] k = tt
  opening_fails fold strip floor (l ∷ ls) k =
      either (IsWrongHead n bytes) (is_empty l.content) _ _ (λ e. opening_fails fold strip floor ls (k + 1))
      (λ e. either (IsWrongHead n bytes) (nat_lt l.indent floor) _ _ (λ e. tt) (λ e. body_fails strip l.indent (l ∷ ls) (begun fold k)))

  pub block_fails : (floor : ℕ) (fold : Bool) (ls : List RawLine) → Fails (IsWrongHead n bytes) (block floor n fold bytes ls)
  unfolding block
  block_fails floor fold ls =
      either (IsWrongHead n bytes) (sees 45 bytes) _ _
      (λ dashed. either (IsWrongHead n bytes) (nothing_left false (drop 1 bytes)) _ _ (λ e. opening_fails fold true floor ls 0) (λ more. (refl, refl, dash_head bytes more dashed)))
      (λ other. either (IsWrongHead n bytes) (nothing_left false bytes) _ _ (λ e. opening_fails fold false floor ls 0) (λ more. (refl, refl, no_dash_head bytes more other)))

-- ---- leaves

-- With such a code it is told on the line n, for a reason; and with C3 where a thing is marked that is left out.
abbrev pub IsTold : ℕ → (Code → Type 0) → Type 0 → Wrong → Type 0
IsTold n W Reason w = (W w.fault.code → (w.fault.line ≡ n) × Reason) × (w.left_out ≡ true → w.fault ≡ record { line = n; code = LeftOut })

scalar_fails : (n : ℕ) (W : Code → Type 0) (Reason : Type 0) (is_plain : Bool) (r : Reading (List ℕ)) → Fails (λ (f : Fault). W f.code → (f.line ≡ n) × Reason) r → Fails (IsTold n W Reason) (scalar n is_plain r)
scalar_fails n W Reason is_plain (Ok x) h = tt
scalar_fails n W Reason is_plain (Err f) h = (h, λ e. absurd cc)

with_other : (n : ℕ) (W : Code → Type 0) (Reason : Type 0) → (W Structure → ⊥) → (r : Reading (List ℕ)) → Fails IsStructure r → Fails (λ (f : Fault). W f.code → (f.line ≡ n) × Reason) r
with_other n W Reason other (Ok x) h = tt
with_other n W Reason other (Err f) h = λ e. absurd (other (subst W h e))

-- ---- C3

abbrev pub IsOut : Code → Type 0
IsOut c = c ≡ LeftOut

pub structure_in : IsOut Structure → ⊥
structure_in e = cc

with_head : (n : ℕ) (key : Bool) (b : ℕ) (bytes : List ℕ) (r : Reading (List ℕ)) → start b bytes ≡ starts.InLines → Fails (IsWrongHead n bytes) r
    → Fails (λ (f : Fault). IsOut f.code → (f.line ≡ n) × IsSign n key (b ∷ bytes)) r
with_head n key b bytes (Ok x) s h = tt
with_head n key b bytes (Err f) s h = λ e. (h.0, head s h.2)

left_is : (b : ℕ) (bytes : List ℕ) → start b bytes ≡ starts.LeftOut → left_out b bytes ≡ true
left_is b bytes e = by (b == 34 || b == 39) (b == 91 || b == 123) (b == 124 || b == 62) (left_out b bytes) (no_plain b bytes) e
  where
    by : (p q r s t : Bool) → cond p starts.InQuotes (cond q starts.InBrackets (cond r starts.InLines (cond s starts.LeftOut (cond t starts.Refused starts.Plain)))) ≡ starts.LeftOut → s ≡ true
    by true q r s t e = absurd cc
    by false true r s t e = absurd cc
    by false false true s t e = absurd cc
    by false false false true t e = refl
    by false false false false true e = absurd cc
    by false false false false false e = absurd cc

flow_fails : (n : ℕ) (key : Bool) (b : ℕ) (bytes : List ℕ) (r : Result Ended Code) (ls : List RawLine) → start b bytes ≡ starts.InBrackets → flow n (b == 123) bytes ≡ r
    → Fails (IsTold n IsOut (IsSign n key (b ∷ bytes))) (flow_by key n r ls)
flow_fails n key b bytes (Err code) ls s is =
    ((λ e. (refl, let r = flow_left n (b == 123) bytes (is ∙ ap (λ (c : Code). Err c) e) in in_flow s r.1 r.2)), λ e. absurd cc)
flow_fails n key b bytes (Ok f) ls s is =
    either (IsTold n IsOut (IsSign n key (b ∷ bytes))) (key && colon_behind (without_blanks f.rest)) _ _
    (λ e. let both = and_true key (colon_behind (without_blanks f.rest)) e in ((λ c. (refl, subst (λ (k : Bool). IsSign n k (b ∷ bytes)) (sym both.0) (flow_key s is both.1))), λ o. refl))
    (λ e. either (IsTold n IsOut (IsSign n key (b ∷ bytes))) (not (nothing_left false f.rest)) _ _ (λ e. ((λ c. absurd (structure_in c)), λ o. absurd cc))
    (λ e. either (IsTold n IsOut (IsSign n key (b ∷ bytes))) f.repeated _ _ (λ e. ((λ c. absurd (let q : RepeatedKey ≡ LeftOut = c in cc)), λ o. absurd cc)) (λ e. tt)))

pub leaf_fails : (t : Start) (floor : ℕ) (key : Bool) (n b : ℕ) (bytes : List ℕ) (ls : List RawLine) → start b bytes ≡ t → Fails (IsTold n IsOut (IsSign n key (b ∷ bytes))) (leaf_by t floor key n b bytes ls)
leaf_fails starts.InQuotes floor key n b bytes ls s =
    scalar_fails n IsOut (IsSign n key (b ∷ bytes)) false (quoted floor n b bytes ls) (with_other n IsOut (IsSign n key (b ∷ bytes)) structure_in (quoted floor n b bytes ls) (quoted_fails floor n b bytes ls))
leaf_fails starts.InBrackets floor key n b bytes ls s = flow_fails n key b bytes (flow n (b == 123) bytes) ls s refl
leaf_fails starts.InLines floor key n b bytes ls s =
    scalar_fails n IsOut (IsSign n key (b ∷ bytes)) false (block floor n (b == 62) bytes ls) (with_head n key b bytes (block floor n (b == 62) bytes ls) s (block_fails n bytes floor (b == 62) ls))
leaf_fails starts.LeftOut floor key n b bytes ls s = ((λ c. (refl, sign (left_is b bytes s))), λ o. refl)
leaf_fails starts.Refused floor key n b bytes ls s = ((λ c. absurd (structure_in c)), λ o. absurd cc)
leaf_fails starts.Plain floor key n b bytes ls s =
    scalar_fails n IsOut (IsSign n key (b ∷ bytes)) true (plain floor n (b ∷ bytes) ls) (with_other n IsOut (IsSign n key (b ∷ bytes)) structure_in (plain floor n (b ∷ bytes) ls) (plain_fails floor n (b ∷ bytes) ls))

-- ---- codes of rules

-- C4 or a greater one
abbrev pub IsRule : Code → Type 0
IsRule c = 4 ≤ number_of c

pub structure_no_rule : IsRule Structure → ⊥
structure_no_rule le = omega (arith, le)

pub left_out_no_rule : IsRule LeftOut → ⊥
left_out_no_rule le = omega (arith, le)

pub no_rule : (c : Code) → (c ≡ Structure) ⊎ (c ≡ LeftOut) → IsRule c → ⊥
no_rule c (inl e) h = structure_no_rule (subst IsRule e h)
no_rule c (inr e) h = left_out_no_rule (subst IsRule e h)
