-- The methods that read expressions, against their rules: what a token that was taken says, and each loop against the turns of its rule.
use Rattle.std.proofs.Common.{◌≡◌, ℕ, zero, suc, ◌≤◌, ◌<◌, Bool, true, false, cond, inl, inr, List, [], ◌∷◌, ◌++◌, length, drop, Option, Some, None, Ok, Err, refl, sym, ap, ◌∙◌, arith}
use Rattle.std.specs.Prelude.{◌-◌, max, ◌&&◌, ◌||◌, ◌==◌, nat_eq, nat_le, nat_lt, is_some}
use Rattle.std.proofs.Math.ListN.{length-drop}
use Rattle.std.proofs.lemmas.Bool.{eqb-true}
use Rattle.std.proofs.lemmas.Bool.Decides.{nat_tests}
use Rattle.ha_config.specs.declared.template.Op.{Op}
use Rattle.ha_config.specs.declared.template.Expr.{Expr}
use Rattle.ha_config.specs.declared.template.Expr
use Rattle.reading.specs.declared.fault.Bad.{Bad}
use Rattle.reading.specs.declared.fault.Stop.{Stop}
use Rattle.reading.specs.declared.fault.Stop.TheVariants as stops
use Rattle.reading.specs.Answer.{Answer, Gives, front}
use Rattle.reading.proofs.Basics.{chosen_is}
use Rattle.reading.proofs.Turns.{Continues, begins, ends, goes_on}
use Rattle.tpl_parse.specs.declared.token.Token.{Token}
use Rattle.tpl_parse.specs.declared.expression.Level.{Level}
use Rattle.tpl_parse.specs.declared.expression.Part.{Part}
use Rattle.tpl_parse.specs.Token.{Reads, behind, common, ends_before, next_is, past, reach, spaces, stands, text_of}
use Rattle.tpl_parse.specs.declared.table.Counts.{Counts}
use Rattle.tpl_parse.specs.declared.table.Filter.{Filter}
use Rattle.tpl_parse.specs.declared.table.Function.{Function}
use Rattle.tpl_parse.specs.declared.expression.Last.{Last}
use Rattle.tpl_parse.specs.Names.{filter_row, takes_behind}
use Rattle.tpl_parse.specs.Literal.{filter_name, name}
use Rattle.tpl_parse.specs.Reading.{Inner, arguments, at_place, atom, behind_operator, call_or_name, chain, comparison, enclosed, ending, expression, filter_arguments, filter_turns, inside, item_turns, negation, not_called, open_reach, opened, operand, operand_turns, operator, operator_of, operators, pair, part_turns}
use Rattle.tpl_parse.proofs.Shorter.{IsOpen, Keeps, enclosed_keeps, filter_arguments_keeps, filter_name_keeps, inside_opens, length-spaces, name_keeps, opened_opens, operand_keeps, no_longer_than}
use Rattle.tpl_parse.proofs.Tokens.{common_within, spaces_twice}

-- ---- each turn takes a byte

both_first : (a b : Bool) → (a && b) ≡ true → a ≡ true
both_first true b h = refl
both_first false b h = absurd cc

both_second : (a b : Bool) → (a && b) ≡ true → b ≡ true
both_second true b h = h
both_second false b h = absurd cc

stands_within : (token : Token) (t : List ℕ) → stands token t ≡ true → length (text_of token) ≤ length t
unfolding stands
stands_within token t h =
    let same : common (text_of token) t ≡ length (text_of token) = eqb-true (common (text_of token) t) (length (text_of token)) (both_first (nat_eq (common (text_of token) t) (length (text_of token))) (ends_before token (front (drop (length (text_of token)) t))) h) in
    omega (arith, same, common_within (text_of token) t)

past_shorter : (token : Token) (t : List ℕ) → 0 < length (text_of token) → next_is token t ≡ true → length (past token t) < length t
past_shorter token t some h = omega (arith, stands_within token (spaces t) h, length-drop (length (text_of token)) (spaces t), length-spaces t)

-- a token that was taken
pub taken_shorter : (token : Token) (t new : List ℕ) (r : Bool) → 0 < length (text_of token) → r ≡ next_is token t → new ≡ behind token t → r ≡ true → length new < length t
taken_shorter token t new r some found moved h =
    let here : next_is token t ≡ true = sym found ∙ h in
    let at : new ≡ past token t = moved ∙ rw here refl in
    rw at (past_shorter token t some here)

abbrev HaveText : List (Token × Op) → Type 0
HaveText [] = Unit {0}
HaveText (row ∷ rows) = (0 < length (text_of row.0)) × HaveText rows

operators_have_text : (level : Level) → HaveText (operators level)
operators_have_text Level.Or = (omega arith, tt)
operators_have_text Level.And = (omega arith, tt)
operators_have_text Level.Sum = (omega arith, (omega arith, tt))
operators_have_text Level.Join = (omega arith, tt)
operators_have_text Level.Product = (omega arith, (omega arith, (omega arith, (omega arith, tt))))

operator_past : (rows : List (Token × Op)) (t : List ℕ) (row : Token × Op) → HaveText rows → operator rows t ≡ Some row → length (past row.0 t) < length t
operator_past [] t row h e = absurd cc
operator_past (first ∷ rows) t row h e =
    elim (chosen_is (next_is first.0 t)) [
      | inl b ↦
          let same : first ≡ row = let k : Some first ≡ Some row = rw b at e in cc in
          rw (← same) (past_shorter first.0 t h.0 b)
      | inr b ↦ operator_past rows t row h.1 (rw b at e)
    ]

-- ---- operands with operators between them

module _ (rows : List (Token × Op)) (operand : Reads Part) where
  abbrev pub further : ℕ → Part → Reads Part
  further n left = operand_turns n rows operand left

  pub first_operand : (t : List ℕ) (first : Part) (rest : List ℕ) → operand t ≡ Ok (first, rest) → Continues further first rest (chain rows operand t)
  unfolding chain
  first_operand t first rest e = begins further first rest (chain rows operand t) (rw e refl)

  module _ (left : Part) (rest : List ℕ) (total : Answer ℕ (Bad (Unit {0})) Part) (so_far : Continues further left rest total) where
    abbrev Here : Option (Token × Op) → Option Op → List ℕ → Type 0
    Here found r moved = (operator rows rest ≡ found) × (r ≡ operator_of found) × (moved ≡ behind_operator found rest)

    no_operator_found : (found : Option (Token × Op)) (r : Option Op) (moved : List ℕ) → Here found r moved → r ≡ None → total ≡ Ok (left, moved)
    unfolding operand_turns
    no_operator_found None r moved h e = ends further left rest total so_far (Ok (left, moved)) (λ n. rw (h.0, h.2) refl)
    no_operator_found (Some row) r moved h e = absurd (let k : Some row.1 ≡ None = sym h.1 ∙ e in cc)

    no_operand_found : (found : Option (Token × Op)) (r : Option Op) (moved : List ℕ) → Here found r moved → (op : Op) → r ≡ Some op
        → (e : Stop (Bad (Unit {0}))) (new : List ℕ) → Gives (operand moved) (Err e) new → Gives {A = Part} total (Err e) new
    unfolding operand_turns
    no_operand_found None r moved h op is e new given = absurd (let k : None ≡ Some op = sym h.1 ∙ is in cc)
    no_operand_found (Some row) r moved h op is stops.Memory new given = tt
    no_operand_found (Some row) r moved h op is (stops.Fault f) new given =
        let fault : operand (past row.0 rest) ≡ Err f = ap operand (sym h.2) ∙ given in
        ends further left rest total so_far (Err f) (λ n. rw (h.0, fault) refl)

    operand_found : (found : Option (Token × Op)) (r : Option Op) (moved : List ℕ) → Here found r moved → (op : Op) → r ≡ Some op
        → (right : Part) (after : List ℕ) → operand moved ≡ Ok (right, after) → length after < length rest → Continues further (pair op left right) after total
    unfolding operand_turns
    operand_found None r moved h op is right after given less = absurd (let k : None ≡ Some op = sym h.1 ∙ is in cc)
    operand_found (Some row) r moved h op is right after given less =
        let read : operand (past row.0 rest) ≡ Ok (right, after) = ap operand (sym h.2) ∙ given in
        let same : row.1 ≡ op = let k : Some row.1 ≡ Some op = sym h.1 ∙ is in cc in
        rw (← same) (goes_on further left rest total so_far (pair row.1 left right) after (λ n. rw (h.0, read) refl) less)

    module _ (r : Option Op) (moved : List ℕ) (found : r ≡ operator_of (operator rows rest)) (behind : moved ≡ behind_operator (operator rows rest) rest) where
      pub last_operand : r ≡ None → total ≡ Ok (left, moved)
      last_operand = no_operator_found (operator rows rest) r moved (refl, found, behind)

      pub no_operand : (op : Op) → r ≡ Some op → (e : Stop (Bad (Unit {0}))) (new : List ℕ) → Gives (operand moved) (Err e) new → Gives {A = Part} total (Err e) new
      no_operand = no_operand_found (operator rows rest) r moved (refl, found, behind)

      pub next_operand : (op : Op) → r ≡ Some op → (right : Part) (after : List ℕ) → operand moved ≡ Ok (right, after) → length after < length rest
          → (both : Expr) → both ≡ Expr.Pair op left.expr right.expr → (next : Part) → next ≡ ending both right.last → Continues further next after total
      next_operand op is right after given less both makes next ends_so = rw (ends_so, makes) (operand_found (operator rows rest) r moved (refl, found, behind) op is right after given less)

operator_found_shorter : (rows : List (Token × Op)) (t : List ℕ) (found : Option (Token × Op)) (r : Option Op) (moved : List ℕ) → HaveText rows → operator rows t ≡ found → r ≡ operator_of found → moved ≡ behind_operator found t → (op : Op) → r ≡ Some op → length moved < length t
operator_found_shorter rows t None r moved some at found behind op is = absurd (let k : None ≡ Some op = sym found ∙ is in cc)
operator_found_shorter rows t (Some row) r moved some at found behind op is = rw behind (operator_past rows t row some at)

pub operator_shorter : (level : Level) (t : List ℕ) (r : Option Op) (moved : List ℕ) → r ≡ operator_of (operator (operators level) t) → moved ≡ behind_operator (operator (operators level) t) t → (op : Op) → r ≡ Some op → length moved < length t
operator_shorter level t r moved found behind = operator_found_shorter (operators level) t (operator (operators level) t) r moved (operators_have_text level) refl found behind

pub operand_shorter : (level : Level) (depth : ℕ) (t moved : List ℕ) (r : Option Op) → r ≡ operator_of (operator (operators level) t) → moved ≡ behind_operator (operator (operators level) t) t → (op : Op) → r ≡ Some op
    → (right : Part) (after : List ℕ) → operand level (opened depth) moved ≡ Ok (right, after) → length after < length t
operand_shorter level depth t moved r found behind op is right after given =
    let first : length moved < length t = operator_shorter level t r moved found behind op is in
    let then : length after ≤ length moved = no_longer_than (operand level (opened depth)) (operand_keeps level (opened depth) (opened_opens depth)) moved right after given in
    omega arith

-- ---- what is open

opened_none : (depth : ℕ) → depth ≡ 0 → opened depth ≡ None
unfolding opened
opened_none depth e = rw e refl

opened_some : (depth : ℕ) → 0 < depth → opened depth ≡ Some (inside (opened (depth - 1)))
unfolding opened
opened_some zero h = absurd (omega arith)
opened_some (suc depth) h = let e : depth ≡ suc depth - 1 = omega arith in ap (λ (n : ℕ). Some (inside (opened n))) e

not_zero : (n : ℕ) → (n ≡ 0 → ⊥) → 0 < n
not_zero zero h = absurd (h refl)
not_zero (suc n) h = omega arith

depth_open : (depth : ℕ) (b : Bool) → (nat_lt 0 depth && b) ≡ true → 0 < depth
depth_open zero b h = absurd cc
depth_open (suc depth) b h = omega arith

-- ---- a token that may be allowed

module _ (token : Token) (allowed : Bool) (t new : List ℕ) (taken : Bool) (found : taken ≡ (allowed && next_is token t)) (moved : new ≡ cond (allowed && next_is token t) (past token t) (spaces t)) where
  pub allowed_next : taken ≡ true → (allowed ≡ true) × (next_is token t ≡ true) × (new ≡ past token t)
  allowed_next h =
      let both : (allowed && next_is token t) ≡ true = sym found ∙ h in
      (both_first allowed (next_is token t) both, both_second allowed (next_is token t) both, moved ∙ ap (λ (b : Bool). cond b (past token t) (spaces t)) both)

  pub not_allowed : taken ≡ false → ((allowed && next_is token t) ≡ false) × (new ≡ spaces t)
  not_allowed h = let none : (allowed && next_is token t) ≡ false = sym found ∙ h in (none, moved ∙ ap (λ (b : Bool). cond b (past token t) (spaces t)) none)

module _ (token : Token) (t new : List ℕ) (taken : Bool) (found : taken ≡ next_is token t) (moved : new ≡ behind token t) where
  pub token_next : taken ≡ true → (next_is token t ≡ true) × (new ≡ past token t)
  token_next h = let here : next_is token t ≡ true = sym found ∙ h in (here, moved ∙ ap (λ (b : Bool). cond b (past token t) (spaces t)) here)

  pub other_next : taken ≡ false → (next_is token t ≡ false) × (new ≡ spaces t)
  other_next h = let none : next_is token t ≡ false = sym found ∙ h in (none, moved ∙ ap (λ (b : Bool). cond b (past token t) (spaces t)) none)

-- ---- rules with no loop

pub negation_closed : (depth : ℕ) (t new : List ℕ) → depth ≡ 0 → new ≡ t → negation (opened depth) t ≡ comparison (opened depth) new
unfolding negation
negation_closed depth t new e same = rw (opened_none depth e, same) refl

pub negation_without : (depth : ℕ) (t moved new : List ℕ) (taken : Bool) → (depth ≡ 0 → ⊥) → taken ≡ next_is Token.Not t → moved ≡ behind Token.Not t → taken ≡ false → new ≡ moved → negation (opened depth) t ≡ comparison (opened depth) new
unfolding negation
negation_without depth t moved new taken open_here found behind_at h same =
    let k = other_next Token.Not t moved taken found behind_at h in
    rw (opened_some depth (not_zero depth open_here), same, k.1, k.0) refl

pub closed_call : (function : Function) (depth : ℕ) (name t new : List ℕ) → depth ≡ 0 → new ≡ t → call_or_name (Some function) (opened depth) name t ≡ not_called function name new
closed_call function depth name t new e same = rw (opened_none depth e, same) refl

pub not_a_call : (function : Function) (depth : ℕ) (name t moved new : List ℕ) (taken : Bool) → (depth ≡ 0 → ⊥) → taken ≡ next_is Token.OpenGroup t → moved ≡ behind Token.OpenGroup t → taken ≡ false → new ≡ moved
    → call_or_name (Some function) (opened depth) name t ≡ not_called function name new
not_a_call function depth name t moved new taken open_here found behind_at h same =
    let k = other_next Token.OpenGroup t moved taken found behind_at h in
    rw (opened_some depth (not_zero depth open_here), same, k.1, k.0) refl

pub with_arguments : (inner : Option Inner) (counts : Counts) (may : Bool) (t new : List ℕ) (taken : Bool) → may ≡ (counts.least == 0 || is_some inner) → taken ≡ (may && next_is Token.OpenGroup t)
    → new ≡ cond (may && next_is Token.OpenGroup t) (past Token.OpenGroup t) (spaces t) → taken ≡ true → filter_arguments inner counts t ≡ arguments inner Token.CloseGroup counts new
unfolding filter_arguments
with_arguments inner counts may t new taken is found moved h =
    let k = allowed_next Token.OpenGroup may t new taken found moved h in
    rw (k.2, ← is, k.0, k.1) refl

pub in_brackets : (depth : ℕ) (quote : ℕ) (t s new : List ℕ) → s ≡ spaces t → front s ≡ Some quote → quote ≡ 40 → new ≡ drop 1 s → 0 < depth → atom (opened depth) t ≡ enclosed (inside (opened (depth - 1))) Token.CloseGroup new
unfolding atom
in_brackets depth quote t s new skipped first is moved open_here = rw (← skipped, first, is, moved, opened_some depth open_here) refl

-- ---- items

abbrev pub further_items : Reads Part → Token → Counts → ℕ → List Expr → Reads (List Expr)
further_items expression close counts n found = item_turns n expression close counts found

abbrev fault_at : Last → Option Token → List ℕ → Bad (Unit {0})
fault_at last choice t = record { left = length (drop (max (open_reach last choice t) (reach [] t)) t); code = tt }

module _ (close : Token) (counts : Counts) (t new : List ℕ) (taken : Bool) (found : taken ≡ (counts.least == 0 && next_is close t)) (moved : new ≡ cond (counts.least == 0 && next_is close t) (past close t) (spaces t)) (items : List Expr) (none : items ≡ []) where
  pub no_arguments : (inner : Option Inner) → taken ≡ true → arguments inner close counts t ≡ Ok (items, new)
  unfolding arguments
  no_arguments inner h =
      let k = allowed_next close (counts.least == 0) t new taken found moved h in
      rw (none, k.2, k.0, k.1) refl

  pub items_begin : (depth : ℕ) → taken ≡ false → (depth ≡ 0 → ⊥) → (some : Bool) → some ≡ takes_behind counts.most 0 → some ≡ true
      → (0 < depth) × Continues (further_items (expression (opened (depth - 1))) close counts) items new (arguments (opened depth) close counts t)
  unfolding arguments
  items_begin depth h open_here some takes is =
      let less : 0 < depth = not_zero depth open_here in
      let k = not_allowed close (counts.least == 0) t new taken found moved h in
      let more : takes_behind counts.most 0 ≡ true = sym takes ∙ is in
      (less, rw (none, k.1) (begins (further_items (expression (opened (depth - 1))) close counts) [] (spaces t) (arguments (opened depth) close counts t) (rw (opened_some depth less, k.0, more) refl)))

module _ (expression : Reads Part) (close : Token) (counts : Counts) (found : List Expr) (rest : List ℕ) (total : Answer ℕ (Bad (Unit {0})) (List Expr)) (so_far : Continues (further_items expression close counts) found rest total) where
  pub no_item : (e : Stop (Bad (Unit {0}))) (new : List ℕ) → Gives (expression rest) (Err e) new → Gives {A = List Expr} total (Err e) new
  unfolding item_turns
  no_item stops.Memory new given = tt
  no_item (stops.Fault f) new given = ends (further_items expression close counts) found rest total so_far (Err f) (λ n. rw given refl)

  module _ (part : Part) (after : List ℕ) (given : expression rest ≡ Ok (part, after)) (item : Expr) (is : item ≡ part.expr) (all : List Expr) (pushed : all ≡ found ++ item ∷ [])
      (allowed : Bool) (allows : allowed ≡ nat_le counts.least (length all)) (closed : Bool) (moved : List ℕ) (closes : closed ≡ (allowed && next_is close after)) (moves : moved ≡ cond (allowed && next_is close after) (past close after) (spaces after)) where
    grown : found ++ part.expr ∷ [] ≡ all
    grown = ap (λ (e : Expr). found ++ e ∷ []) (sym is) ∙ sym pushed

    pub last_item : closed ≡ true → total ≡ Ok (all, moved)
    unfolding item_turns
    last_item h =
        let k = allowed_next close allowed after moved closed closes moves h in
        let both : nat_le counts.least (length all) ≡ true = sym allows ∙ k.0 in
        ends (further_items expression close counts) found rest total so_far (Ok (all, moved)) (λ n. rw (given, grown, both, k.1, k.2) refl)

    module _ (open_here : closed ≡ false) (may : Bool) (mays : may ≡ takes_behind counts.most (length all)) (comma : Bool) (new : List ℕ) (commas : comma ≡ (may && next_is Token.Comma moved)) (steps : new ≡ cond (may && next_is Token.Comma moved) (past Token.Comma moved) (spaces moved)) where
      not_closed : (nat_le counts.least (length all) && next_is close after) ≡ false
      not_closed = rw (← allows) (not_allowed close allowed after moved closed closes moves open_here).0

      same : spaces moved ≡ spaces after
      same = ap spaces (not_allowed close allowed after moved closed closes moves open_here).1 ∙ spaces_twice after

      pub no_comma : comma ≡ false → (last : Last) (choice : Option Token) → last ≡ part.last → choice ≡ part.choice → (e : Stop (Bad (Unit {0}))) → e ≡ stops.Fault (fault_at last choice new) → Gives {A = List Expr} total (Err e) new
      unfolding item_turns
      no_comma h last choice ends_so chooses e is_fault =
          let k = not_allowed Token.Comma may moved new comma commas steps h in
          let none : (takes_behind counts.most (length all) && next_is Token.Comma after) ≡ false = rw (← mays, ← same) k.0 in
          let place : new ≡ spaces after = k.1 ∙ same in
          let turn : total ≡ Err (fault_at part.last part.choice (spaces after)) = ends (further_items expression close counts) found rest total so_far (Err (fault_at part.last part.choice (spaces after))) (λ n. rw (given, grown, not_closed, none) refl) in
          let fault : fault_at last choice new ≡ fault_at part.last part.choice (spaces after) = rw (ends_so, chooses, place) refl in
          rw (is_fault, fault) turn

      past_comma : comma ≡ true → (may ≡ true) × (next_is Token.Comma after ≡ true) × (new ≡ past Token.Comma after)
      past_comma h =
          let k = allowed_next Token.Comma may moved new comma commas steps h in
          (k.0, rw (← same) k.1, k.2 ∙ ap (λ (s : List ℕ). drop (length (text_of Token.Comma)) s) same)

      pub item_shorter : Keeps expression → comma ≡ true → length new < length rest
      item_shorter keeps h =
          let k = past_comma h in
          let less : length after ≤ length rest = no_longer_than expression keeps rest part after given in
          rw k.2 (omega (arith, past_shorter Token.Comma after (omega arith) k.1, less))

      pub next_item : Keeps expression → comma ≡ true → Continues (further_items expression close counts) all new total
      unfolding item_turns
      next_item keeps h =
          let k = past_comma h in
          let takes : takes_behind counts.most (length all) ≡ true = sym mays ∙ k.0 in
          goes_on (further_items expression close counts) found rest total so_far all new (λ n. rw (given, grown, not_closed, takes, k.1, k.2) refl) (item_shorter keeps h)

-- ---- filters

module _ (inner : Option Inner) where
  abbrev pub further_filters : ℕ → Expr → Reads Expr
  further_filters n base = filter_turns n inner base

  module _ (base : Expr) (rest : List ℕ) (total : Answer ℕ (Bad (Unit {0})) Expr) (so_far : Continues further_filters base rest total) (bar : Bool) (moved : List ℕ) (bars : bar ≡ next_is Token.Bar rest) (moves : moved ≡ behind Token.Bar rest) where
    pub last_filter : bar ≡ false → total ≡ Ok (base, moved)
    unfolding filter_turns
    last_filter h =
        let k = other_next Token.Bar rest moved bar bars moves h in
        ends further_filters base rest total so_far (Ok (base, moved)) (λ n. rw (k.0, k.1) refl)

    module _ (h : bar ≡ true) (opens : Bool) (opening : opens ≡ is_some inner) where
      pub no_filter : (e : Stop (Bad (Unit {0}))) (new : List ℕ) → Gives (filter_name opens moved) (Err e) new → Gives {A = Expr} total (Err e) new
      unfolding filter_turns
      no_filter stops.Memory new given = tt
      no_filter (stops.Fault f) new given =
          let k = token_next Token.Bar rest moved bar bars moves h in
          let fault : filter_name (is_some inner) (past Token.Bar rest) ≡ Err f = ap (λ (b : Bool). filter_name b (past Token.Bar rest)) (sym opening) ∙ ap (filter_name opens) (sym k.1) ∙ given in
          ends further_filters base rest total so_far (Err f) (λ n. rw (k.0, fault) refl)

      module _ (filter : Filter) (after : List ℕ) (named : filter_name opens moved ≡ Ok (filter, after)) (counts : Counts) (counted : counts ≡ (filter_row filter).counts) where
        pub no_filter_arguments : (e : Stop (Bad (Unit {0}))) (new : List ℕ) → Gives (filter_arguments inner counts after) (Err e) new → Gives {A = Expr} total (Err e) new
        unfolding filter_turns
        no_filter_arguments stops.Memory new given = tt
        no_filter_arguments (stops.Fault f) new given =
            let k = token_next Token.Bar rest moved bar bars moves h in
            let name_at : filter_name (is_some inner) (past Token.Bar rest) ≡ Ok (filter, after) = ap (λ (b : Bool). filter_name b (past Token.Bar rest)) (sym opening) ∙ ap (filter_name opens) (sym k.1) ∙ named in
            let fault : filter_arguments inner (filter_row filter).counts after ≡ Err f = ap (λ (n : Counts). filter_arguments inner n after) (sym counted) ∙ given in
            ends further_filters base rest total so_far (Err f) (λ n. rw (k.0, name_at, fault) refl)

        module _ (args : List Expr) (new : List ℕ) (given : filter_arguments inner counts after ≡ Ok (args, new)) (open_keeps : IsOpen inner) where
          pub filter_shorter : length new < length rest
          filter_shorter =
              let behind_bar : length moved < length rest = taken_shorter Token.Bar rest moved bar (omega arith) bars moves h in
              let behind_name : length after ≤ length moved = no_longer_than (filter_name opens) (filter_name_keeps opens) moved filter after named in
              let behind_arguments : length new ≤ length after = no_longer_than (filter_arguments inner counts) (filter_arguments_keeps inner open_keeps counts) after args new given in
              omega arith

          pub next_filter : (next : Expr) (number : ℕ) → number ≡ (filter_row filter).number → next ≡ Expr.Filter number base args → Continues further_filters next new total
          unfolding filter_turns
          next_filter next number numbered is =
              let k = token_next Token.Bar rest moved bar bars moves h in
              let name_at : filter_name (is_some inner) (past Token.Bar rest) ≡ Ok (filter, after) = ap (λ (b : Bool). filter_name b (past Token.Bar rest)) (sym opening) ∙ ap (filter_name opens) (sym k.1) ∙ named in
              let read : filter_arguments inner (filter_row filter).counts after ≡ Ok (args, new) = ap (λ (n : Counts). filter_arguments inner n after) (sym counted) ∙ given in
              let made_so : Expr.Filter (filter_row filter).number base args ≡ next = ap (λ (n : ℕ). Expr.Filter n base args) (sym numbered) ∙ sym is in
              goes_on further_filters base rest total so_far next new (λ n. rw (k.0, name_at, read, made_so) refl) filter_shorter

-- ---- keys and places

closed_place : (depth : ℕ) (more : Expr → Reads Expr) (base : Expr) (t : List ℕ) → (nat_lt 0 depth && next_is Token.OpenList t) ≡ false → at_place (opened depth) more base t ≡ Ok (base, spaces t)
unfolding opened
closed_place zero more base t h = refl
closed_place (suc depth) more base t h =
    let less : nat_lt 0 (suc depth) ≡ true = grind (arith, nat_tests) in
    let none : next_is Token.OpenList t ≡ false = rw less at h in
    rw none refl

abbrev pub further_parts : Option Inner → ℕ → Expr → Reads Expr
further_parts inner n base = part_turns n inner base

module _ (depth : ℕ) (base : Expr) (rest : List ℕ) (total : Answer ℕ (Bad (Unit {0})) Expr) (so_far : Continues (further_parts (opened depth)) base rest total) (dot : Bool) (moved : List ℕ) (dots : dot ≡ next_is Token.Dot rest) (moves : moved ≡ behind Token.Dot rest) where
  module _ (h : dot ≡ true) where
    pub no_key : (e : Stop (Bad (Unit {0}))) (new : List ℕ) → Gives (name moved) (Err e) new → Gives {A = Expr} total (Err e) new
    unfolding part_turns
    no_key stops.Memory new given = tt
    no_key (stops.Fault f) new given =
        let k = token_next Token.Dot rest moved dot dots moves h in
        let fault : name (past Token.Dot rest) ≡ Err f = ap name (sym k.1) ∙ given in
        ends (further_parts (opened depth)) base rest total so_far (Err f) (λ n. rw (k.0, fault) refl)

    module _ (key new : List ℕ) (given : name moved ≡ Ok (key, new)) where
      pub key_shorter : length new < length rest
      key_shorter =
          let behind_dot : length moved < length rest = taken_shorter Token.Dot rest moved dot (omega arith) dots moves h in
          let behind_key : length new ≤ length moved = no_longer_than name name_keeps moved key new given in
          omega arith

      pub next_key : (next : Expr) → next ≡ Expr.Field base key → Continues (further_parts (opened depth)) next new total
      unfolding part_turns
      next_key next is =
          let k = token_next Token.Dot rest moved dot dots moves h in
          let key_at : name (past Token.Dot rest) ≡ Ok (key, new) = ap name (sym k.1) ∙ given in
          goes_on (further_parts (opened depth)) base rest total so_far next new (λ n. rw (is, k.0, key_at) refl) key_shorter

  module _ (h : dot ≡ false) (place : Bool) (inside_at : List ℕ) (places : place ≡ (nat_lt 0 depth && next_is Token.OpenList moved)) (steps : inside_at ≡ cond (nat_lt 0 depth && next_is Token.OpenList moved) (past Token.OpenList moved) (spaces moved)) where
    no_dot : (next_is Token.Dot rest ≡ false) × (moved ≡ spaces rest)
    no_dot = other_next Token.Dot rest moved dot dots moves h

    pub last_part : place ≡ false → total ≡ Ok (base, inside_at)
    unfolding part_turns
    last_part p =
        let k = not_allowed Token.OpenList (nat_lt 0 depth) moved inside_at place places steps p in
        ends (further_parts (opened depth)) base rest total so_far (Ok (base, inside_at)) (λ n. rw (no_dot.0, ← no_dot.1, k.1) (closed_place depth (part_turns n (opened depth)) base moved k.0))

    module _ (p : place ≡ true) where
      place_at : (0 < depth) × (next_is Token.OpenList moved ≡ true) × (inside_at ≡ past Token.OpenList moved)
      place_at =
          let k = allowed_next Token.OpenList (nat_lt 0 depth) moved inside_at place places steps p in
          let less : (nat_lt 0 depth && true) ≡ true = rw k.0 refl in
          (depth_open depth true less, k.1, k.2)

      pub no_index : (e : Stop (Bad (Unit {0}))) (new : List ℕ) → Gives (enclosed (inside (opened (depth - 1))) Token.CloseList inside_at) (Err e) new → Gives {A = Expr} total (Err e) new
      unfolding part_turns
      no_index stops.Memory new given = tt
      no_index (stops.Fault f) new given =
          let k = place_at in
          let fault : enclosed (inside (opened (depth - 1))) Token.CloseList (past Token.OpenList moved) ≡ Err f = ap (enclosed (inside (opened (depth - 1))) Token.CloseList) (sym k.2) ∙ given in
          ends (further_parts (opened depth)) base rest total so_far (Err f) (λ n. rw (no_dot.0, ← no_dot.1, opened_some depth k.0, k.1, fault) refl)

      module _ (index : Expr) (new : List ℕ) (given : enclosed (inside (opened (depth - 1))) Token.CloseList inside_at ≡ Ok (index, new)) where
        pub index_shorter : length new < length rest
        index_shorter =
            let k = place_at in
            let keeps = enclosed_keeps (inside (opened (depth - 1))) (inside_opens (opened (depth - 1)) (opened_opens (depth - 1))) Token.CloseList in
            let behind_index : length new ≤ length inside_at = no_longer_than (enclosed (inside (opened (depth - 1))) Token.CloseList) keeps inside_at index new given in
            let behind_bracket : length (past Token.OpenList moved) < length moved = past_shorter Token.OpenList moved (omega arith) k.1 in
            let blanks : length moved ≤ length rest = rw no_dot.1 (length-spaces rest) in
            let at : length inside_at < length moved = rw k.2 behind_bracket in
            omega arith

        pub next_index : (next : Expr) → next ≡ Expr.At base index → Continues (further_parts (opened depth)) next new total
        unfolding part_turns
        next_index next is =
            let k = place_at in
            let read : enclosed (inside (opened (depth - 1))) Token.CloseList (past Token.OpenList moved) ≡ Ok (index, new) = ap (enclosed (inside (opened (depth - 1))) Token.CloseList) (sym k.2) ∙ given in
            let turn : (n : ℕ) → part_turns (suc n) (opened depth) base rest ≡ part_turns n (opened depth) next new = λ n.
            rw (is, no_dot.0, ← no_dot.1, opened_some depth k.0, k.1, read) refl in
            goes_on (further_parts (opened depth)) base rest total so_far next new turn index_shorter
