-- A line is cut where it is the print of its parts, and only there.
use Rattle.std.proofs.Common.{◌≡◌, ℕ, ◌-◌, ◌<◌, ◌≤◌, ◌^◌, Bool, true, false, cond, [], ◌∷◌, ◌++◌, length, take, drop, Option, Some, None, refl, sym, ap, ◌∙◌, inl, inr, arith, append_assoc, length-append}
use Rattle.std.specs.Prelude.{codes, decimal, nat_eq}
use Rattle.std.specs.Char.{is_ascii_digit}
use Rattle.std.specs.Str.{all_ascii_digits}
use Rattle.std.proofs.lemmas.Bool.{and_parts}
use Rattle.std.proofs.lemmas.Bool.Decides.{nat_tests}
use Rattle.std.proofs.lemmas.Fmt.{digits_decimal}
use Rattle.std.proofs.lemmas.List.{take-append-drop}
use Rattle.std.proofs.lemmas.Slice.Eq.{bytes_eq-Decides}
use Rattle.std.proofs.lemmas.Str.Parse.{numerals_by_value, tells_all_ascii_digits}
use Rattle.std.proofs.Math.Seq.{drop-append_seam, take-append_seam}
use Rattle.reading.proofs.Basics.{chosen}
use Rattle.ha_value.specs.Lists.{after_first, before_first}
use Rattle.ha_config.specs.Words.{Text, same}
use Rattle.flow_printed.specs.Map.{◌>>=◌}
use Rattle.flow_printed.specs.Line.{before, behind, cut_at_comma, cut_line, shown_line}
use Rattle.flow_printed.proofs.Fronts.{binds, bound, some_is}
use Rattle.flow_printed.proofs.Found.{joined_at}

-- ---- one step

pub behind_is : (front text rest : Text) → behind front text ≡ Some rest → text ≡ front ++ rest
behind_is front text rest e = elim (chosen (same (take (length front) text) front) (Some (drop (length front) text)) None (Some rest) e) [
  | inl h ↦
      sym (take-append-drop (length front) text) ∙ ap (λ (t : Text). t ++ drop (length front) text) ((bytes_eq-Decides (take (length front) text) front).0 h.0)
      ∙ ap (λ (t : Text). front ++ t) (some_is (drop (length front) text) rest h.1)
  | inr h ↦ absurd (let k = h.1 in cc)
]

pub before_is : (last text front : Text) → before last text ≡ Some front → text ≡ front ++ last
before_is last text front e = elim (chosen (same (drop (length text - length last) text) last) (Some (take (length text - length last) text)) None (Some front) e) [
  | inl h ↦
      sym (take-append-drop (length text - length last) text) ∙ ap (λ (t : Text). take (length text - length last) text ++ t) ((bytes_eq-Decides (drop (length text - length last) text) last).0 h.0)
      ∙ ap (λ (t : Text). t ++ last) (some_is (take (length text - length last) text) front h.1)
  | inr h ↦ absurd (let k = h.1 in cc)
]

cut_is : (text : Text) (p : Text × Text) → cut_at_comma text ≡ Some p → text ≡ p.0 ++ 44 ∷ p.1
cut_is text p e =
    let rest = bound (after_first 44 text) (λ (r : Text). Some (before_first 44 text, r)) p e in
    joined_at 44 text rest.0 rest.1 ∙ ap (λ (q : Text × Text). q.0 ++ 44 ∷ q.1) (some_is (before_first 44 text, rest.0) p rest.2)

behind_found : (front rest : Text) → behind front (front ++ rest) ≡ Some rest
behind_found front rest =
    ap (λ (b : Bool). cond b (Some (drop (length front) (front ++ rest))) None) ((bytes_eq-Decides (take (length front) (front ++ rest)) front).1 (take-append_seam front rest))
    ∙ ap (λ (t : Text). Some t) (drop-append_seam front rest)

before_found : (last front : Text) → before last (front ++ last) ≡ Some front
before_found last front =
    let long : length (front ++ last) - length last ≡ length front = (let sum = length-append front last in omega (arith, sum)) in
    let end : drop (length (front ++ last) - length last) (front ++ last) ≡ last = ap (λ (n : ℕ). drop n (front ++ last)) long ∙ drop-append_seam front last in
    let start : take (length (front ++ last) - length last) (front ++ last) ≡ front = ap (λ (n : ℕ). take n (front ++ last)) long ∙ take-append_seam front last in
    ap (λ (b : Bool). cond b (Some (take (length (front ++ last) - length last) (front ++ last))) None) ((bytes_eq-Decides (drop (length (front ++ last) - length last) (front ++ last)) last).1 end)
    ∙ ap (λ (t : Text). Some t) start

no_comma : (c : ℕ) → is_ascii_digit c ≡ true → nat_eq c 44 ≡ false
no_comma c h = grind (arith, nat_tests)

after_digits : (ds rest : Text) → all_ascii_digits ds ≡ true → after_first 44 (ds ++ 44 ∷ rest) ≡ Some rest
after_digits [] rest h = refl
after_digits (d ∷ ds) rest h =
    let parts = and_parts (is_ascii_digit d) (all_ascii_digits ds) h in
    ap (λ (b : Bool). cond b (Some (ds ++ 44 ∷ rest)) (after_first 44 (ds ++ 44 ∷ rest))) (no_comma d parts.0) ∙ after_digits ds rest parts.1

before_digits : (ds rest : Text) → all_ascii_digits ds ≡ true → before_first 44 (ds ++ 44 ∷ rest) ≡ ds
before_digits [] rest h = refl
before_digits (d ∷ ds) rest h =
    let parts = and_parts (is_ascii_digit d) (all_ascii_digits ds) h in
    ap (λ (b : Bool). cond b [] (d ∷ before_first 44 (ds ++ 44 ∷ rest))) (no_comma d parts.0) ∙ ap (λ (r : Text). d ∷ r) (before_digits ds rest parts.1)

cut_found : (ds rest : Text) → all_ascii_digits ds ≡ true → cut_at_comma (ds ++ 44 ∷ rest) ≡ Some (ds, rest)
cut_found ds rest h =
    binds (after_first 44 (ds ++ 44 ∷ rest)) (λ (r : Text). Some (before_first 44 (ds ++ 44 ∷ rest), r)) rest (Some (ds, rest)) (after_digits ds rest h)
    (ap (λ (t : Text). Some (t, rest)) (before_digits ds rest h))

-- ---- the whole line, step by step

abbrev in_steps : Text → Text → Text → Text
in_steps source number shown = codes "{\"source\":" ++ (source ++ 44 ∷ (codes "\"number\":" ++ (number ++ 44 ∷ (codes "\"cmd\":" ++ (shown ++ codes "}")))))

steps : (source number shown : Text) → shown_line source number shown ≡ in_steps source number shown
steps source number shown =
    let third : Text = codes "\"cmd\":" ++ shown in
    ap (λ (t : Text). codes "{\"source\":" ++ t) (append_assoc source (44 ∷ (codes "\"number\":" ++ (number ++ 44 ∷ third))) (codes "}"))
    ∙ ap (λ (t : Text). codes "{\"source\":" ++ (source ++ 44 ∷ (codes "\"number\":" ++ t))) (append_assoc number (44 ∷ third) (codes "}"))

pub cut_line_is : (text : Text) (p : Text × Text × Text) → cut_line text ≡ Some p → text ≡ shown_line p.0 p.1 p.2
unfolding cut_line
cut_line_is text p e =
    let first = bound (behind (codes "{\"source\":") text) _ p e in
    let source = bound (cut_at_comma first.0) _ p first.2 in
    let second = bound (behind (codes "\"number\":") source.0.1) _ p source.2 in
    let number = bound (cut_at_comma second.0) _ p second.2 in
    let third = bound (behind (codes "\"cmd\":") number.0.1) _ p number.2 in
    let shown = bound (before (codes "}") third.0) _ p third.2 in
    let inner : third.0 ≡ shown.0 ++ codes "}" = before_is (codes "}") third.0 shown.0 shown.1 in
    let cmd : number.0.1 ≡ codes "\"cmd\":" ++ (shown.0 ++ codes "}") = behind_is (codes "\"cmd\":") number.0.1 third.0 third.1 ∙ ap (λ (t : Text). codes "\"cmd\":" ++ t) inner in
    let counted : second.0 ≡ number.0.0 ++ 44 ∷ (codes "\"cmd\":" ++ (shown.0 ++ codes "}")) = cut_is second.0 number.0 number.1 ∙ ap (λ (t : Text). number.0.0 ++ 44 ∷ t) cmd in
    let later : source.0.1 ≡ codes "\"number\":" ++ (number.0.0 ++ 44 ∷ (codes "\"cmd\":" ++ (shown.0 ++ codes "}"))) =
    behind_is (codes "\"number\":") source.0.1 second.0 second.1 ∙ ap (λ (t : Text). codes "\"number\":" ++ t) counted in
    let all : text ≡ in_steps source.0.0 number.0.0 shown.0 =
    behind_is (codes "{\"source\":") text first.0 first.1 ∙ ap (λ (t : Text). codes "{\"source\":" ++ t) (cut_is first.0 source.0 source.1 ∙ ap (λ (t : Text). source.0.0 ++ 44 ∷ t) later) in
    all ∙ sym (steps source.0.0 number.0.0 shown.0) ∙ ap (λ (q : Text × Text × Text). shown_line q.0 q.1 q.2) (some_is (source.0.0, number.0.0, shown.0) p shown.2)

-- what is left to do behind each step
abbrev Parts : Type 0
Parts = Text × Text × Text

abbrev end_at : Text → Text → Text → Option Parts
end_at source number third = before (codes "}") third >>= λ shown. Some (source, number, shown)

abbrev cmd_from : Text → Text × Text → Option Parts
cmd_from source number = behind (codes "\"cmd\":") number.1 >>= end_at source number.0

abbrev number_from : Text → Text → Option Parts
number_from source second = cut_at_comma second >>= cmd_from source

abbrev second_from : Text × Text → Option Parts
second_from source = behind (codes "\"number\":") source.1 >>= number_from source.0

abbrev source_from : Text → Option Parts
source_from first = cut_at_comma first >>= second_from

line_is_cut : (source number shown : Text) → all_ascii_digits source ≡ true → all_ascii_digits number ≡ true → cut_line (in_steps source number shown) ≡ Some (source, number, shown)
unfolding cut_line
line_is_cut source number shown s n =
    let fifth : Text = shown ++ codes "}" in
    let fourth : Text = codes "\"cmd\":" ++ fifth in
    let third : Text = number ++ 44 ∷ fourth in
    let second : Text = codes "\"number\":" ++ third in
    let first : Text = source ++ 44 ∷ second in
    let parts : Option Parts = Some (source, number, shown) in
    binds (behind (codes "{\"source\":") (in_steps source number shown)) source_from first parts (behind_found (codes "{\"source\":") first)
    (binds (cut_at_comma first) second_from (source, second) parts (cut_found source second s)
    (binds (behind (codes "\"number\":") second) (number_from source) third parts (behind_found (codes "\"number\":") third)
    (binds (cut_at_comma third) (cmd_from source) (number, fourth) parts (cut_found number fourth n)
    (binds (behind (codes "\"cmd\":") fourth) (end_at source number) fifth parts (behind_found (codes "\"cmd\":") fifth)
    (binds (before (codes "}") fifth) (λ (t : Text). Some (source, number, t)) shown parts (before_found (codes "}") shown) refl)))))

decimal_digits : (n : ℕ) → n < 2 ^ 64 → all_ascii_digits (decimal n) ≡ true
decimal_digits n h = digits_decimal (numerals_by_value (λ ds. all_ascii_digits ds ≡ true) tells_all_ascii_digits) n h

pub printed_line_is_cut : (source number : ℕ) (shown : Text) → source < 2 ^ 64 → number < 2 ^ 64 → cut_line (shown_line (decimal source) (decimal number) shown) ≡ Some (decimal source, decimal number, shown)
printed_line_is_cut source number shown s n =
    ap cut_line (steps (decimal source) (decimal number) shown) ∙ line_is_cut (decimal source) (decimal number) shown (decimal_digits source s) (decimal_digits number n)

-- the command's text is not longer than the line
pub shown_short : (source number shown : Text) → length shown ≤ length (shown_line source number shown)
shown_short source number shown =
    let whole = ap length (steps source number shown) in
    let a = length-append (codes "{\"source\":") (source ++ 44 ∷ (codes "\"number\":" ++ (number ++ 44 ∷ (codes "\"cmd\":" ++ (shown ++ codes "}"))))) in
    let b = length-append source (44 ∷ (codes "\"number\":" ++ (number ++ 44 ∷ (codes "\"cmd\":" ++ (shown ++ codes "}"))))) in
    let c = length-append number (44 ∷ (codes "\"cmd\":" ++ (shown ++ codes "}"))) in
    let d = length-append shown (codes "}") in
    omega (arith, whole, a, b, c, d)
