-- A quoted scalar, perhaps over several lines.
use Rattle.std.specs.Prelude.{◌≡◌, ℕ, zero, suc, ◌+◌, ◌-◌, ◌*◌, Bool, true, false, not, ◌||◌, ◌&&◌, ◌==◌, nat_lt, nat_le}
use Rattle.std.specs.Prelude.{if◌then◌else◌, List, [], ◌∷◌, ◌++◌, drop, Option, Some, None, Result, Ok, Err, encode_utf8}
pub use Rattle.reading.specs.Bytes.{hex}
use Rattle.yaml_scan.specs.declared.line.RawLine.{RawLine}
use Rattle.yaml_scan.specs.declared.fault.Code.TheVariants.{Structure}
use Rattle.yaml_scan.specs.declared.quoted.Last.{Last}
use Rattle.yaml_scan.specs.declared.quoted.Last.TheVariants.{Usual, Quote, Backslash, Digits}
use Rattle.yaml_scan.specs.Answers.{Reading, stop}
use Rattle.yaml_scan.specs.Words.{is_blank, nothing_left, times, without_blanks, only_blanks}

-- What was read of a scalar in these quotes (39 or 34), up to somewhere on a line: the text, the blanks that wait for what
-- follows them on the line, what was read last, and the line of the first bad escape.
pub record State : Type 0 where
  pub quote : ℕ
  pub line : ℕ
  pub last : Last
  pub text : List ℕ
  pub blanks : List ℕ
  pub bad : Option ℕ

-- behind the opening quote
abbrev pub opened : ℕ → ℕ → State
opened quote n = record { quote = quote; line = n; last = Usual; text = []; blanks = []; bad = None }

-- ---- escapes

-- the character that a byte behind a backslash stands for
abbrev pub escape : ℕ → Option ℕ
escape b =
    if b == 92 || b == 34 || b == 47 || b == 32 then Some b else
    (if b == 110 then Some 10 else
    (if b == 114 then Some 13
    else (if b == 116 then Some 9
    else (if b == 48 then Some 0 else (if b == 101 then Some 27 else (if b == 95 then Some 160 else None))))))

-- how many digits of a character's number follow a byte behind a backslash: `x`, `u`, `U`, else none
abbrev pub digits_behind : ℕ → ℕ
digits_behind b = if b == 120 then 2 else (if b == 117 then 4 else (if b == 85 then 8 else 0))

-- one more digit; a number past the last character stays as it is
abbrev pub shifted : ℕ → ℕ → ℕ
shifted value d = if nat_lt 1114111 value then value else 16 * value + d

abbrev pub is_character : ℕ → Bool
is_character n = nat_lt n 55296 || (nat_lt 57343 n && nat_lt n 1114112)

-- ---- what the next byte does

abbrev pub noted : Option ℕ → ℕ → Option ℕ
noted (Some line) n = Some line
noted None n = Some n

abbrev pub added : State → List ℕ → State
added s c = record { quote = s.quote; line = s.line; last = Usual; text = (s.text ++ s.blanks) ++ c; blanks = []; bad = s.bad }

abbrev pub awaits : State → Last → State
awaits s last = record { quote = s.quote; line = s.line; last = last; text = s.text ++ s.blanks; blanks = []; bad = s.bad }

abbrev pub spoiled : State → State
spoiled s = record { quote = s.quote; line = s.line; last = Usual; text = s.text ++ s.blanks; blanks = []; bad = noted s.bad s.line }

abbrev pub waits : State → ℕ → State
waits s b = record { quote = s.quote; line = s.line; last = Usual; text = s.text; blanks = s.blanks ++ b ∷ []; bad = s.bad }

abbrev pub usual_step : State → ℕ → State
usual_step s b =
    if b == s.quote then awaits s Quote else
    (if b == 92 && s.quote == 34 then awaits s Backslash else
    (if is_blank b then waits s b else added s (b ∷ [])))

abbrev pub character : State → ℕ → State
character s n = if is_character n then added s (encode_utf8 n) else spoiled s

abbrev pub escaped : State → Option ℕ → State
escaped s (Some n) = character s n
escaped s None = spoiled s

abbrev pub escape_step : State → ℕ → State
escape_step s b = if digits_behind b == 0 then escaped s (escape b) else awaits s (Digits (digits_behind b) 0)

abbrev pub digit_step : State → ℕ → ℕ → ℕ → Option ℕ → State
digit_step s wanted value b (Some d) =
    if nat_le wanted 1 then character s (shifted value d) else awaits s (Digits (wanted - 1) (shifted value d))
digit_step s wanted value b None = usual_step (spoiled s) b

-- Behind a quote comes a second one, which makes one quote of the two.
abbrev pub step_by : Last → State → ℕ → State
step_by Usual s b = usual_step s b
step_by Quote s b = added s (b ∷ [])
step_by Backslash s b = escape_step s b
step_by (Digits wanted value) s b = digit_step s wanted value b (hex b)

abbrev pub step : State → ℕ → State
step s b = step_by s.last s b

abbrev pub is_quote : Last → Bool
is_quote Quote = true
is_quote Usual = false
is_quote Backslash = false
is_quote (Digits wanted value) = false

abbrev pub is_backslash : Last → Bool
is_backslash Backslash = true
is_backslash Usual = false
is_backslash Quote = false
is_backslash (Digits wanted value) = false

abbrev pub is_digits : Last → Bool
is_digits (Digits wanted value) = true
is_digits Usual = false
is_digits Quote = false
is_digits Backslash = false

-- A quote that was read last has closed the scalar, unless it is a single one and another follows.
abbrev pub is_closed : State → ℕ → Bool
is_closed s b = is_quote s.last && not (s.quote == 39 && b == 39)

abbrev pub at_end : State → Option (List ℕ)
at_end s = if is_quote s.last then Some [] else None

-- what is left of a line: what was read then, and what is behind the closing quote if it stands there
unfoldable pub run : State → List ℕ → State × Option (List ℕ)
run s [] = (s, at_end s)
run s (b ∷ rest) = if is_closed s b then (s, Some (b ∷ rest)) else run (step s b) rest

-- ---- lines

-- a break with so many blank lines in it, which a backslash may remove
abbrev pub break : Bool → ℕ → List ℕ
break joined (suc n) = times (suc n) 10
break true zero = []
break false zero = 32 ∷ []

-- The line ends, and so many blank lines stand before the line n. The blanks before the break are dropped.
abbrev pub next_line : State → ℕ → ℕ → State
next_line s blanks n =
    record {
      quote = s.quote;
      line = n;
      last = Usual;
      text = s.text
          ++ break (is_backslash s.last) blanks;
      blanks = [];
      bad = if is_digits s.last then noted s.bad s.line else s.bad;
    }

-- The quote is closed; the line of the first bad escape comes before what is behind the quote.
abbrev pub finished_by : Option ℕ → State → List ℕ → List RawLine → Reading (List ℕ)
finished_by (Some line) s rest ls = stop line Structure
finished_by None s rest ls = if nothing_left false rest then Ok (s.text, ls) else stop s.line Structure

abbrev pub finished : State → List ℕ → List RawLine → Reading (List ℕ)
finished s rest ls = finished_by s.bad s rest ls

-- what the rest of a line leads to: the end, or more lines
abbrev pub led : State → Option (List ℕ) → List RawLine → Reading (List ℕ) → Reading (List ℕ)
led s (Some rest) ls more = finished s rest ls
led s None ls more = more

-- The quote of the line first is open; further lines stand at this column or right of it.
unfoldable pub further : ℕ → ℕ → ℕ → State → List RawLine → Reading (List ℕ)
further floor first blanks s [] = stop first Structure
further floor first blanks s (l ∷ ls) =
    if only_blanks l.content then further floor first (blanks + 1) s ls else
    (if nat_lt l.indent floor then stop first Structure else
    (let r : State × Option (List ℕ) = run (next_line s blanks l.line) (without_blanks l.content) in
    led r.0 r.1 ls (further floor first 0 r.0 ls)))

-- behind an opening quote on the line n
unfoldable pub quoted : ℕ → ℕ → ℕ → List ℕ → List RawLine → Reading (List ℕ)
quoted floor n quote bytes ls =
    let r : State × Option (List ℕ) = run (opened quote n) bytes in
    led r.0 r.1 ls (further floor n 0 r.0 ls)

-- what reading on a line gave: where the closing quote ends, if it stands there, and the state
abbrev pub IsRun : {E : Type 0} → State × Option (List ℕ) → List ℕ → Result (Option ℕ) E → State → Type 0
IsRun r bytes (Err e) new = Unit {0}
IsRun r bytes (Ok None) new = r ≡ (new, None)
IsRun r bytes (Ok (Some at)) new = r ≡ (new, Some (drop at bytes))
