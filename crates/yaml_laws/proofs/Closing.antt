-- A scalar whose lines end within it: it is read, or a line with the closing quote ends it, or whatever follows it has a fault. Where the
-- quote can be closed, a fault that lines behind it give stands on the quote's own line or behind all these.
use Rattle.std.proofs.Common.{◌≡◌, ℕ, suc, ◌+◌, ◌-◌, ◌≤◌, ◌<◌, Bool, true, false, cond, ◌||◌, ◌&&◌, ◌⊎◌, inl, inr, List, [], ◌∷◌, ◌++◌, drop, Option, Some, None, Result, Ok, Err, refl, ap, ◌∙◌, arith}
use Rattle.std.specs.Prelude.{◌==◌, not, nat_lt, nat_le}
use Rattle.std.proofs.lemmas.Bool.{ltb-true}
use Rattle.yaml_scan.specs.declared.line.RawLine.{RawLine}
use Rattle.yaml_scan.specs.declared.fault.Fault.{Fault}
use Rattle.yaml_scan.specs.declared.fault.Code.TheVariants.{Structure, LeftOut as left_out_code}
use Rattle.yaml_scan.specs.declared.quoted.Last.{Last}
use Rattle.yaml_scan.specs.declared.quoted.Last.TheVariants.{Usual, Quote, Backslash, Digits}
use Rattle.yaml_scan.specs.Answers.{Reading}
use Rattle.yaml_scan.specs.Words.{sees, is_blank, is_empty, nothing_left, times, folded, has_colon, has_comment, only_blanks, without_blanks}
use Rattle.yaml_scan.specs.Plain.{text_of, further, plain}
use Rattle.yaml_scan.specs.Quoted.{State, opened, escape, digits_behind, hex, shifted, is_character, noted, awaits, spoiled, usual_step, character, escaped, digit_step, step_by, step, is_closed, is_digits, run, led, finished_by, next_line, further as quoted_further, quoted}
use Rattle.yaml_scan.specs.Block.{State as Block, added, begun, body, opening, headed, block}
use Rattle.yaml_laws.proofs.Orders.{tested}
use Rattle.yaml_laws.proofs.Walked.{AllIn, Ends, it, closes_ends, BadIn, Fair, open_closes, opened_fair, next_fair, run_fair}
use Rattle.yaml_laws.proofs.FollowedScalars.{AllLate}

-- a line behind the first k that holds the closing quote alone
abbrev pub IsClosing : ℕ → RawLine → Type 0
IsClosing k x = (x.line ≡ suc k) × ((x.content ≡ 34 ∷ []) ⊎ (x.content ≡ 39 ∷ []))

abbrev pub Rest : Type 0 → Type 0 → Type 0
Rest A F = List RawLine → Result (A × List RawLine) F

-- the line n, or one behind the first k
abbrev pub OwnLine : ℕ → ℕ → ℕ → Type 0
OwnLine k n m = (m ≡ n) ⊎ (k < m)

-- The fault of an open quote, where nothing follows. Where lines follow, one stands on its line or behind the first k.
pub record Stays {A F : Type 0} (k : ℕ) (own : F) (at : F → Fault) (R : Rest A F) : Type 0 where
  pub first : R [] ≡ Err own
  pub others : (a : List RawLine) → AllLate k a → Ends at (OwnLine k (at own).line) (AllLate k) (R a)

-- What is read where these lines follow the first k. Where a line closes a quote, `own` is the fault without that line, and W says how the
-- quote began.
pub data Closable {A F : Type 0} (k : ℕ) (own : F) (at : F → Fault) (W : Type 0) (R : Rest A F) : Type 0 where
  reads : {x : A × List RawLine} → R [] ≡ Ok x → Closable k own at W R
  never : ((a : List RawLine) → AllLate k a → (f : F) × (R a ≡ Err f) × ((at f).line ≤ k)) → Closable k own at W R
  closing : (x : RawLine) → IsClosing k x → (t : A) → R (x ∷ []) ≡ Ok (t, []) → Stays k own at R → W → Closable k own at W R

pub either : {A F : Type 0} {k : ℕ} {own : F} {at : F → Fault} {W : Type 0} (b : Bool) (R S : Rest A F) → Closable k own at W R → Closable k own at W S → Closable k own at W (λ a. cond b (R a) (S a))
either true R S p q = p
either false R S p q = q

pub stopped : {A F : Type 0} {k : ℕ} {own : F} {at : F → Fault} {W : Type 0} (f : F) → (at f).line ≤ k → Closable {A = A} k own at W (λ a. Err f)
stopped f le = never (λ a late. (f, refl, le))

-- the fault of a quote that is open on the line n
abbrev pub own_fault : ℕ → Fault
own_fault n = record { line = n; code = Structure }

pub own_parts : (k n : ℕ) (l : RawLine) (ls : List RawLine) → AllLate k (l ∷ ls) → OwnLine k n l.line × AllLate k ls
own_parts k n l ls h = (inr h.0, h.1)

-- ---- what reading a line keeps: the quote, and the first bad escape

record Keeps (s t : State) : Type 0 where
  quote : t.quote ≡ s.quote
  bad : (j : ℕ) → s.bad ≡ Some j → t.bad ≡ Some j

keeps_itself : (s : State) → Keeps s s
keeps_itself s = record { quote = refl; bad = λ j e. e }

keeps_either : (s : State) (b : Bool) (t u : State) → Keeps s t → Keeps s u → Keeps s (cond b t u)
keeps_either s true t u p q = p
keeps_either s false t u p q = q

keeps_more : (s t u : State) → Keeps s t → Keeps t u → Keeps s u
keeps_more s t u p q = record { quote = q.quote ∙ p.quote; bad = λ j e. q.bad j (p.bad j e) }

same_parts : (s t : State) → t.quote ≡ s.quote → t.bad ≡ s.bad → Keeps s t
same_parts s t e e' = record { quote = e; bad = λ j i. e' ∙ i }

noted_some : (o : Option ℕ) (n j : ℕ) → o ≡ Some j → noted o n ≡ Some j
noted_some (Some m) n j e = e
noted_some None n j e = absurd cc

spoiled_keeps : (s : State) → Keeps s (spoiled s)
spoiled_keeps s = record { quote = refl; bad = λ j e. noted_some s.bad s.line j e }

usual_keeps : (s : State) (b : ℕ) → Keeps s (usual_step s b)
usual_keeps s b =
    keeps_either s (b == s.quote) _ _ (same_parts s _ refl refl) (keeps_either s (b == 92 && s.quote == 34) _ _ (same_parts s _ refl refl) (keeps_either s (is_blank b) _ _ (same_parts s _ refl refl) (same_parts s _ refl refl)))

character_keeps : (s : State) (n : ℕ) → Keeps s (character s n)
character_keeps s n = keeps_either s (is_character n) _ _ (same_parts s _ refl refl) (spoiled_keeps s)

escaped_keeps : (s : State) (o : Option ℕ) → Keeps s (escaped s o)
escaped_keeps s (Some n) = character_keeps s n
escaped_keeps s None = spoiled_keeps s

digit_keeps : (s : State) (wanted value b : ℕ) (o : Option ℕ) → Keeps s (digit_step s wanted value b o)
digit_keeps s wanted value b (Some d) = keeps_either s (nat_le wanted 1) _ _ (character_keeps s (shifted value d)) (same_parts s _ refl refl)
digit_keeps s wanted value b None = keeps_more s (spoiled s) _ (spoiled_keeps s) (usual_keeps (spoiled s) b)

step_keeps : (last : Last) (s : State) (b : ℕ) → Keeps s (step_by last s b)
step_keeps Usual s b = usual_keeps s b
step_keeps Quote s b = same_parts s _ refl refl
step_keeps Backslash s b = keeps_either s (digits_behind b == 0) _ _ (escaped_keeps s (escape b)) (same_parts s _ refl refl)
step_keeps (Digits wanted value) s b = digit_keeps s wanted value b (hex b)

run_cond : (s : State) (b : Bool) (r t : State × Option (List ℕ)) → Keeps s r.0 → Keeps s t.0 → Keeps s (cond b r t).0
run_cond s true r t p q = p
run_cond s false r t p q = q

run_keeps : (bytes : List ℕ) (s : State) → Keeps s (run s bytes).0
unfolding run
run_keeps [] s = keeps_itself s
run_keeps (b ∷ rest) s =
    run_cond s (is_closed s b) (s, Some (b ∷ rest)) (run (step s b) rest) (keeps_itself s) (keeps_more s (step s b) _ (step_keeps s.last s b) (run_keeps rest (step s b)))

next_bad : (b : Bool) (o : Option ℕ) (n j : ℕ) → o ≡ Some j → cond b (noted o n) o ≡ Some j
next_bad true o n j e = noted_some o n j e
next_bad false o n j e = e

-- ---- a quoted scalar that is spoilt already

-- a bad escape stands on one of the first lines, or is there when the line ends
abbrev Spoilt : ℕ → State → Type 0
Spoilt k s = (j : ℕ) × (j ≤ k) × ((blanks n : ℕ) → (next_line s blanks n).bad ≡ Some j)

spoilt_by : (k : ℕ) (s : State) (j : ℕ) → j ≤ k → s.bad ≡ Some j → Spoilt k s
spoilt_by k s j le e = (j, le, λ blanks n. next_bad (is_digits s.last) s.bad s.line j e)

abbrev Early : {A : Type 0} → ℕ → Reading A → Type 0
Early k r = (f : Fault) × (r ≡ Err f) × (f.line ≤ k)

early_either : {A : Type 0} (k : ℕ) (b : Bool) (r t : Reading A) → Early k r → Early k t → Early k (cond b r t)
early_either k true r t p q = p
early_either k false r t p q = q

early_led : (k : ℕ) (s : State) (end : Option (List ℕ)) (ls : List RawLine) (more : Reading (List ℕ)) (j : ℕ) → j ≤ k → s.bad ≡ Some j → Early k more → Early k (led s end ls more)
early_led k s (Some rest) ls more j le e h = (record { line = j; code = Structure }, ap (λ (o : Option ℕ). finished_by o s rest ls) e, le)
early_led k s None ls more j le e h = h

spoilt_fails : (k floor first : ℕ) (a : List RawLine) (blanks : ℕ) (s : State) → first ≤ k → Spoilt k s → Early k (quoted_further floor first blanks s a)
unfolding quoted_further
spoilt_fails k floor first [] blanks s le bad = (record { line = first; code = Structure }, refl, le)
spoilt_fails k floor first (l ∷ ls) blanks s le bad =
    let r : State × Option (List ℕ) = run (next_line s blanks l.line) (without_blanks l.content) in
    let is : r.0.bad ≡ Some bad.0 = (run_keeps (without_blanks l.content) (next_line s blanks l.line)).bad bad.0 (bad.2 blanks l.line) in
    early_either k (only_blanks l.content) _ _ (spoilt_fails k floor first ls (blanks + 1) s le bad)
    (early_either k (nat_lt l.indent floor) _ _ (record { line = first; code = Structure }, refl, le)
    (early_led k r.0 r.1 ls (quoted_further floor first 0 r.0 ls) bad.0 bad.1 is (spoilt_fails k floor first ls 0 r.0 le (spoilt_by k r.0 bad.0 bad.1 is))))

-- ---- a quoted scalar that the quote closes

not_less : (n : ℕ) → nat_lt n n ≡ false
not_less n = elim (tested (nat_lt n n)) [ inl h ↦ absurd (let lt = ltb-true n n h in omega (arith, lt)) | inr h ↦ h ]

closes_now : (floor first blanks n q : ℕ) (s : State) → (q ≡ 34) ⊎ (q ≡ 39) → s.quote ≡ q → s.bad ≡ None → is_digits s.last ≡ false
    → (t : List ℕ) × (quoted_further floor first blanks s (record { line = n; indent = floor; content = q ∷ [] } ∷ []) ≡ Ok (t, []))
unfolding quoted_further run only_blanks without_blanks nothing_left
closes_now floor first blanks n q s (inl e) is none usual = ((awaits (next_line s blanks n) Quote).text, rw (e, is ∙ e, none, usual, not_less floor) refl)
closes_now floor first blanks n q s (inr e) is none usual = ((awaits (next_line s blanks n) Quote).text, rw (e, is ∙ e, none, usual, not_less floor) refl)

-- ---- scalars

module _ (k : ℕ) where
  abbrev Firsts : List RawLine → Type 0
  Firsts ls = AllIn (λ m. m ≤ k) ls

  abbrev Early_state : State → Type 0
  Early_state s = Fair (λ m. m ≤ k) Firsts (λ l ls h. h) s

  further_closable : {own : Fault} {W : Type 0} (floor : ℕ) (ls : List RawLine) (text : List ℕ) (blanks : ℕ) → Firsts ls → Closable k own it W (λ a. further floor text blanks (ls ++ a))
  unfolding further
  further_closable floor [] text blanks f = reads refl
  further_closable floor (l ∷ ls) text blanks f =
      either (is_empty l.content) _ _ (further_closable floor ls text (blanks + 1) f.1)
      (either (sees 35 l.content || nat_lt l.indent floor) _ _ (reads refl)
      (either (has_colon l.content) _ _ (stopped (record { line = l.line; code = Structure }) f.0)
      (either (has_comment l.content) _ _ (reads refl)
      (further_closable floor ls (text ++ folded blanks ++ text_of l.content) 0 f.1))))

  pub plain_closable : {own : Fault} {W : Type 0} (floor n : ℕ) (bytes : List ℕ) (ls : List RawLine) → n ≤ k → Firsts ls → Closable k own it W (λ a. plain floor n bytes (ls ++ a))
  unfolding plain
  plain_closable floor n bytes ls le f =
      either (has_colon bytes) _ _ (stopped (record { line = n; code = Structure }) le) (either (has_comment bytes) _ _ (reads refl) (further_closable floor ls (text_of bytes) 0 f))

  bad_early : (o : Option ℕ) (s : State) → s.bad ≡ o → BadIn (λ m. m ≤ k) Firsts (λ l ls h. h) o → (Spoilt k s) ⊎ (s.bad ≡ None)
  bad_early None s e f = inr e
  bad_early (Some j) s e f = inl (spoilt_by k s j f e)

  digits_spoil : (s : State) → s.line ≤ k → s.bad ≡ None → is_digits s.last ≡ true → Spoilt k s
  digits_spoil s le none digits = (s.line, le, λ blanks n. rw (digits, none) refl)

  -- the lines end within the scalar
  open_closable : {W : Type 0} (floor first blanks : ℕ) (s : State) → (s.quote ≡ 34) ⊎ (s.quote ≡ 39) → first ≤ k → Early_state s → W → Closable k (own_fault first) it W (λ a. quoted_further floor first blanks s a)
  unfolding quoted_further
  open_closable floor first blanks s q le f w =
      elim (bad_early s.bad s refl f.1) [
        | inl spoilt ↦ never (λ a late. spoilt_fails k floor first a blanks s le spoilt)
        | inr none ↦ elim (tested (is_digits s.last)) [
          | inl digits ↦ never (λ a late. spoilt_fails k floor first a blanks s le (digits_spoil s f.0 none digits))
          | inr usual ↦
              let c = closes_now floor first blanks (suc k) s.quote s q refl none usual in
              closing (record { line = suc k; indent = floor; content = s.quote ∷ [] }) (refl, elim q [ inl e ↦ inl (ap (λ (b : ℕ). b ∷ []) e) | inr e ↦ inr (ap (λ (b : ℕ). b ∷ []) e) ]) c.0 c.1
              (record { first = refl; others = λ a late. closes_ends (quoted_further floor first blanks s a) (open_closes (OwnLine k first) (AllLate k) (own_parts k first) floor first a blanks s (inl refl) none usual late) }) w
        ]
      ]

  finished_closable : {own : Fault} {W : Type 0} (bad : Option ℕ) (s : State) (rest : List ℕ) (ls : List RawLine) → BadIn (λ m. m ≤ k) Firsts (λ l ls h. h) bad → s.line ≤ k → Closable k own it W (λ a. finished_by bad s rest (ls ++ a))
  finished_closable (Some n) s rest ls b le = stopped (record { line = n; code = Structure }) b
  finished_closable None s rest ls b le = either (nothing_left false rest) _ _ (reads refl) (stopped (record { line = s.line; code = Structure }) le)

  led_closable : {own : Fault} {W : Type 0} (s : State) (end : Option (List ℕ)) (ls : List RawLine) (more : Rest (List ℕ) Fault) → Early_state s → (end ≡ None → Closable k own it W more) → Closable k own it W (λ a. led s end (ls ++ a) (more a))
  led_closable s (Some rest) ls more f c = finished_closable s.bad s rest ls f.1 f.0
  led_closable s None ls more f c = c refl

  same_quote : (s t : State) → t.quote ≡ s.quote → (s.quote ≡ 34) ⊎ (s.quote ≡ 39) → (t.quote ≡ 34) ⊎ (t.quote ≡ 39)
  same_quote s t e (inl q) = inl (e ∙ q)
  same_quote s t e (inr q) = inr (e ∙ q)

  quoted_further_closable : {W : Type 0} (floor first : ℕ) (ls : List RawLine) (blanks : ℕ) (s : State) → (s.quote ≡ 34) ⊎ (s.quote ≡ 39) → first ≤ k → Early_state s → Firsts ls → W
      → Closable k (own_fault first) it W (λ a. quoted_further floor first blanks s (ls ++ a))
  unfolding quoted_further
  quoted_further_closable floor first [] blanks s q le fair f w = open_closable floor first blanks s q le fair w
  quoted_further_closable floor first (l ∷ ls) blanks s q le fair f w =
      let r : State × Option (List ℕ) = run (next_line s blanks l.line) (without_blanks l.content) in
      let fair' : Early_state r.0 = run_fair (λ m. m ≤ k) Firsts (λ l ls h. h) (without_blanks l.content) (next_line s blanks l.line) (next_fair (λ m. m ≤ k) Firsts (λ l ls h. h) s blanks l.line fair f.0) in
      let q' : (r.0.quote ≡ 34) ⊎ (r.0.quote ≡ 39) = same_quote s r.0 (run_keeps (without_blanks l.content) (next_line s blanks l.line)).quote q in
      either (only_blanks l.content) _ _ (quoted_further_closable floor first ls (blanks + 1) s q le fair f.1 w)
      (either (nat_lt l.indent floor) _ _ (stopped (record { line = first; code = Structure }) le)
      (led_closable r.0 r.1 ls (λ a. quoted_further floor first 0 r.0 (ls ++ a)) fair' (λ e. quoted_further_closable floor first ls 0 r.0 q' le fair' f.1 w)))

  pub quoted_closable : (floor n quote : ℕ) (bytes : List ℕ) (ls : List RawLine) → (quote ≡ 34) ⊎ (quote ≡ 39) → n ≤ k → Firsts ls
      → Closable k (own_fault n) it ((run (opened quote n) bytes).1 ≡ None) (λ a. quoted floor n quote bytes (ls ++ a))
  unfolding quoted
  quoted_closable floor n quote bytes ls q le f =
      let r : State × Option (List ℕ) = run (opened quote n) bytes in
      let fair : Early_state r.0 = opened_fair (λ m. m ≤ k) Firsts (λ l ls h. h) quote n bytes le in
      let q' : (r.0.quote ≡ 34) ⊎ (r.0.quote ≡ 39) = same_quote (opened quote n) r.0 (run_keeps bytes (opened quote n)).quote q in
      led_closable r.0 r.1 ls (λ a. quoted_further floor n 0 r.0 (ls ++ a)) fair (λ e. quoted_further_closable floor n ls 0 r.0 q' le fair f e)

  body_closable : {own : Fault} {W : Type 0} (strip : Bool) (indent : ℕ) (ls : List RawLine) (b : Block) → Closable k own it W (λ a. body strip indent b (ls ++ a))
  unfolding body
  body_closable strip indent [] b = reads refl
  body_closable strip indent (l ∷ ls) b =
      either (not (is_empty l.content) && nat_lt l.indent indent) _ _ (reads refl) (body_closable strip indent ls (added b (times (l.indent - indent) 32 ++ l.content)))

  opening_closable : {own : Fault} {W : Type 0} (fold strip : Bool) (floor : ℕ) (ls : List RawLine) (n : ℕ) → Closable k own it W (λ a. opening fold strip floor n (ls ++ a))
  unfolding opening
  opening_closable fold strip floor [] n = reads refl
  opening_closable fold strip floor (l ∷ ls) n =
      either (is_empty l.content) _ _ (opening_closable fold strip floor ls (n + 1)) (either (nat_lt l.indent floor) _ _ (reads refl) (body_closable strip l.indent (l ∷ ls) (begun fold n)))

  headed_closable : {own : Fault} {W : Type 0} (fold strip : Bool) (floor n : ℕ) (head : List ℕ) (ls : List RawLine) → n ≤ k → Closable k own it W (λ a. headed fold strip floor n head (ls ++ a))
  headed_closable fold strip floor n head ls le = either (nothing_left false head) _ _ (opening_closable fold strip floor ls 0) (stopped (record { line = n; code = left_out_code }) le)

  pub block_closable : {own : Fault} {W : Type 0} (floor n : ℕ) (fold : Bool) (head : List ℕ) (ls : List RawLine) → n ≤ k → Closable k own it W (λ a. block floor n fold head (ls ++ a))
  unfolding block
  block_closable floor n fold head ls le = either (sees 45 head) _ _ (headed_closable fold true floor n (drop 1 head) ls le) (headed_closable fold false floor n head ls le)
