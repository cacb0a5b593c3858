-- Scalars over lines of a kind: what is left are such lines, and a fault stands on such a line.
use Rattle.std.proofs.Common.{◌≡◌, ℕ, ◌+◌, ◌-◌, Bool, true, false, cond, ◌||◌, ◌&&◌, List, [], ◌∷◌, ◌++◌, drop, Option, Some, None, Result, Ok, Err}
use Rattle.std.specs.Prelude.{◌==◌, not, nat_lt, nat_le}
use Rattle.yaml_scan.specs.declared.line.RawLine.{RawLine}
use Rattle.yaml_scan.specs.declared.fault.Fault.{Fault}
use Rattle.yaml_scan.specs.declared.fault.Code.TheVariants.{Structure}
use Rattle.yaml_scan.specs.declared.quoted.Last.{Last}
use Rattle.yaml_scan.specs.declared.quoted.Last.TheVariants.{Usual, Quote, Backslash, Digits}
use Rattle.yaml_scan.specs.Answers.{Reading}
use Rattle.yaml_scan.specs.Words.{sees, is_blank, is_empty, nothing_left, times, folded, has_colon, has_comment, only_blanks, without_blanks}
use Rattle.yaml_scan.specs.Plain.{text_of, further, plain}
use Rattle.yaml_scan.specs.Quoted.{State, opened, escape, digits_behind, hex, shifted, is_character, noted, spoiled, usual_step, character, escaped, digit_step, step_by, step, is_closed, is_digits, run, led, finished_by, next_line, further as quoted_further, quoted}
use Rattle.yaml_scan.specs.Block.{State as Block, added, begun, body, opening, headed, block}

abbrev pub AllIn : (ℕ → Type 0) → List RawLine → Type 0
AllIn P [] = Unit {0}
AllIn P (l ∷ ls) = P l.line × AllIn P ls

-- lines of a kind are left, or the fault stands on a line of a kind
pub data Ends {A F : Type 0} (at : F → Fault) (P : ℕ → Type 0) (S : List RawLine → Type 0) : Result (A × List RawLine) F → Type 0 where
  leaves : {x : A × List RawLine} → S x.1 → Ends at P S (Ok x)
  stops : {f : F} → P (at f).line → Ends at P S (Err f)

-- the same, where each fault is one of the structure
pub data Closes {A : Type 0} (P : ℕ → Type 0) (S : List RawLine → Type 0) : Reading A → Type 0 where
  leaves : {x : A × List RawLine} → S x.1 → Closes P S (Ok x)
  stops : {n : ℕ} → P n → Closes P S (Err (record { line = n; code = Structure }))

abbrev pub it : Fault → Fault
it f = f

pub ends_either : {A F : Type 0} {at : F → Fault} {P : ℕ → Type 0} {S : List RawLine → Type 0} (b : Bool) (r s : Result (A × List RawLine) F) → Ends at P S r → Ends at P S s → Ends at P S (cond b r s)
ends_either true r s p q = p
ends_either false r s p q = q

closes_either : {A : Type 0} {P : ℕ → Type 0} {S : List RawLine → Type 0} (b : Bool) (r s : Reading A) → Closes P S r → Closes P S s → Closes P S (cond b r s)
closes_either true r s p q = p
closes_either false r s p q = q

pub closes_ends : {A : Type 0} {P : ℕ → Type 0} {S : List RawLine → Type 0} (r : Reading A) → Closes P S r → Ends it P S r
closes_ends (Ok x) (leaves s) = leaves s
closes_ends (Err f) (stops p) = stops p

module _ (P : ℕ → Type 0) (S : List RawLine → Type 0) (parts : (l : RawLine) (ls : List RawLine) → S (l ∷ ls) → P l.line × S ls) where
  -- ---- plain scalars

  pub further_ends : (floor : ℕ) (ls : List RawLine) (text : List ℕ) (blanks : ℕ) → S ls → Ends it P S (further floor text blanks ls)
  unfolding further
  further_ends floor [] text blanks s = leaves s
  further_ends floor (l ∷ ls) text blanks s =
      let h = parts l ls s in
      ends_either (is_empty l.content) _ _ (further_ends floor ls text (blanks + 1) h.1)
      (ends_either (sees 35 l.content || nat_lt l.indent floor) _ _ (leaves s)
      (ends_either (has_colon l.content) _ _ (stops h.0)
      (ends_either (has_comment l.content) _ _ (leaves h.1)
      (further_ends floor ls (text ++ folded blanks ++ text_of l.content) 0 h.1))))

  pub plain_ends : (floor n : ℕ) (bytes : List ℕ) (ls : List RawLine) → P n → S ls → Ends it P S (plain floor n bytes ls)
  unfolding plain
  plain_ends floor n bytes ls p s = ends_either (has_colon bytes) _ _ (stops p) (ends_either (has_comment bytes) _ _ (leaves s) (further_ends floor ls (text_of bytes) 0 s))

  -- ---- quoted scalars

  abbrev pub BadIn : Option ℕ → Type 0
  BadIn None = Unit {0}
  BadIn (Some n) = P n

  -- its line, and that of the first bad escape
  abbrev pub Fair : State → Type 0
  Fair s = P s.line × BadIn s.bad

  noted_in : (bad : Option ℕ) (n : ℕ) → BadIn bad → P n → BadIn (noted bad n)
  noted_in (Some m) n b p = b
  noted_in None n b p = p

  fair_either : (b : Bool) (s t : State) → Fair s → Fair t → Fair (cond b s t)
  fair_either true s t f g = f
  fair_either false s t f g = g

  spoiled_fair : (s : State) → Fair s → Fair (spoiled s)
  spoiled_fair s f = (f.0, noted_in s.bad s.line f.1 f.0)

  usual_fair : (s : State) (b : ℕ) → Fair s → Fair (usual_step s b)
  usual_fair s b f =
      fair_either (b == s.quote) _ _ f (fair_either (b == 92 && s.quote == 34) _ _ f (fair_either (is_blank b) _ _ f f))

  character_fair : (s : State) (n : ℕ) → Fair s → Fair (character s n)
  character_fair s n f = fair_either (is_character n) _ _ f (spoiled_fair s f)

  escaped_fair : (s : State) (o : Option ℕ) → Fair s → Fair (escaped s o)
  escaped_fair s (Some n) f = character_fair s n f
  escaped_fair s None f = spoiled_fair s f

  digit_fair : (s : State) (wanted value b : ℕ) (o : Option ℕ) → Fair s → Fair (digit_step s wanted value b o)
  digit_fair s wanted value b (Some d) f = fair_either (nat_le wanted 1) _ _ (character_fair s (shifted value d) f) f
  digit_fair s wanted value b None f = usual_fair (spoiled s) b (spoiled_fair s f)

  step_fair : (last : Last) (s : State) (b : ℕ) → Fair s → Fair (step_by last s b)
  step_fair Usual s b f = usual_fair s b f
  step_fair Quote s b f = f
  step_fair Backslash s b f = fair_either (digits_behind b == 0) _ _ (escaped_fair s (escape b) f) f
  step_fair (Digits wanted value) s b f = digit_fair s wanted value b (hex b) f

  run_either : (b : Bool) (r t : State × Option (List ℕ)) → Fair r.0 → Fair t.0 → Fair (cond b r t).0
  run_either true r t f g = f
  run_either false r t f g = g

  pub run_fair : (bytes : List ℕ) (s : State) → Fair s → Fair (run s bytes).0
  unfolding run
  run_fair [] s f = f
  run_fair (b ∷ rest) s f = run_either (is_closed s b) (s, Some (b ∷ rest)) (run (step s b) rest) f (run_fair rest (step s b) (step_fair s.last s b f))

  bad_either : (b : Bool) (x y : Option ℕ) → BadIn x → BadIn y → BadIn (cond b x y)
  bad_either true x y f g = f
  bad_either false x y f g = g

  pub next_fair : (s : State) (blanks n : ℕ) → Fair s → P n → Fair (next_line s blanks n)
  next_fair s blanks n f p = (p, bad_either (is_digits s.last) _ _ (noted_in s.bad s.line f.1 f.0) f.1)

  finished_closes : (bad : Option ℕ) (s : State) (rest : List ℕ) (ls : List RawLine) → BadIn bad → P s.line → S ls → Closes P S (finished_by bad s rest ls)
  finished_closes (Some n) s rest ls b p h = stops b
  finished_closes None s rest ls b p h = closes_either (nothing_left false rest) _ _ (leaves h) (stops p)

  led_closes : (s : State) (end : Option (List ℕ)) (ls : List RawLine) (more : Reading (List ℕ)) → Fair s → S ls → Closes P S more → Closes P S (led s end ls more)
  led_closes s (Some rest) ls more f h m = finished_closes s.bad s rest ls f.1 f.0 h
  led_closes s None ls more f h m = m

  pub further_closes : (floor first : ℕ) (ls : List RawLine) (blanks : ℕ) (s : State) → P first → Fair s → S ls → Closes P S (quoted_further floor first blanks s ls)
  unfolding quoted_further
  further_closes floor first [] blanks s p f h = stops p
  further_closes floor first (l ∷ ls) blanks s p f h =
      let q = parts l ls h in
      let r : State × Option (List ℕ) = run (next_line s blanks l.line) (without_blanks l.content) in
      let fair : Fair r.0 = run_fair (without_blanks l.content) (next_line s blanks l.line) (next_fair s blanks l.line f q.0) in
      closes_either (only_blanks l.content) _ _ (further_closes floor first ls (blanks + 1) s p f q.1)
      (closes_either (nat_lt l.indent floor) _ _ (stops p) (led_closes r.0 r.1 ls (quoted_further floor first 0 r.0 ls) fair q.1 (further_closes floor first ls 0 r.0 p fair q.1)))

  -- the same where the quote is open behind lines of another kind, with no bad escape in them
  pub open_closes : (floor first : ℕ) (ls : List RawLine) (blanks : ℕ) (s : State) → P first → s.bad ≡ None → is_digits s.last ≡ false → S ls → Closes P S (quoted_further floor first blanks s ls)
  unfolding quoted_further
  open_closes floor first [] blanks s p none usual h = stops p
  open_closes floor first (l ∷ ls) blanks s p none usual h =
      let q = parts l ls h in
      let r : State × Option (List ℕ) = run (next_line s blanks l.line) (without_blanks l.content) in
      let fair : Fair r.0 = run_fair (without_blanks l.content) (next_line s blanks l.line) (q.0, rw (usual, none) tt) in
      closes_either (only_blanks l.content) _ _ (open_closes floor first ls (blanks + 1) s p none usual q.1)
      (closes_either (nat_lt l.indent floor) _ _ (stops p) (led_closes r.0 r.1 ls (quoted_further floor first 0 r.0 ls) fair q.1 (further_closes floor first ls 0 r.0 p fair q.1)))

  pub opened_fair : (quote n : ℕ) (bytes : List ℕ) → P n → Fair (run (opened quote n) bytes).0
  opened_fair quote n bytes p = run_fair bytes (opened quote n) (p, tt)

  pub quoted_closes : (floor n quote : ℕ) (bytes : List ℕ) (ls : List RawLine) → P n → S ls → Closes P S (quoted floor n quote bytes ls)
  unfolding quoted
  quoted_closes floor n quote bytes ls p s =
      let r : State × Option (List ℕ) = run (opened quote n) bytes in
      let fair : Fair r.0 = opened_fair quote n bytes p in
      led_closes r.0 r.1 ls (quoted_further floor n 0 r.0 ls) fair s (further_closes floor n ls 0 r.0 p fair s)

  -- ---- block scalars

  pub body_ends : (strip : Bool) (indent : ℕ) (ls : List RawLine) (b : Block) → S ls → Ends it P S (body strip indent b ls)
  unfolding body
  body_ends strip indent [] b s = leaves s
  body_ends strip indent (l ∷ ls) b s =
      let h = parts l ls s in
      ends_either (not (is_empty l.content) && nat_lt l.indent indent) _ _ (leaves s) (body_ends strip indent ls (added b (times (l.indent - indent) 32 ++ l.content)) h.1)

  pub opening_ends : (fold strip : Bool) (floor : ℕ) (ls : List RawLine) (n : ℕ) → S ls → Ends it P S (opening fold strip floor n ls)
  unfolding opening
  opening_ends fold strip floor [] n s = leaves s
  opening_ends fold strip floor (l ∷ ls) n s =
      let h = parts l ls s in
      ends_either (is_empty l.content) _ _ (opening_ends fold strip floor ls (n + 1) h.1)
      (ends_either (nat_lt l.indent floor) _ _ (leaves s) (body_ends strip l.indent (l ∷ ls) (begun fold n) s))

  headed_ends : (fold strip : Bool) (floor n : ℕ) (head : List ℕ) (ls : List RawLine) → P n → S ls → Ends it P S (headed fold strip floor n head ls)
  headed_ends fold strip floor n head ls p s = ends_either (nothing_left false head) _ _ (opening_ends fold strip floor ls 0 s) (stops p)

  pub block_ends : (floor n : ℕ) (fold : Bool) (head : List ℕ) (ls : List RawLine) → P n → S ls → Ends it P S (block floor n fold head ls)
  unfolding block
  block_ends floor n fold head ls p s = ends_either (sees 45 head) _ _ (headed_ends fold true floor n (drop 1 head) ls p s) (headed_ends fold false floor n head ls p s)
