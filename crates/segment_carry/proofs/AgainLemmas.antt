-- What is made of the parts that stand for a journal is its Again.
use Rattle.std.proofs.Common.{◌≡◌, ◌∙◌, ap, refl, sym, ℕ, suc, ◌+◌, ◌<◌, ◌≤◌, Bool, Option, List, [], ◌∷◌, ◌++◌, length, drop, subst, ◌||◌, arith, length-append}
use Rattle.std.specs.Prelude.{Result, Ok, Err, IfOk, Some, None, count_by, filter, filter_map, map, nat_eq, option_map, slice_get, slice_index, unwrap_or, ◌^◌}
use Rattle.std.specs.List.{enumerate_from, list_any}
use Rattle.std.proofs.lemmas.List.{length-map}
use Rattle.std.proofs.lemmas.List.Sums.{count_by-le-length}
use Rattle.std.proofs.lemmas.Option.{slice_get-map}
use Rattle.ha_config.specs.declared.config.Automation.{Automation}
use Rattle.ha_config.specs.declared.config.Config.{Config}
use Rattle.ha_config.specs.Names.{names_of}
use Rattle.ha_config.specs.Sound.{are_in_name_order}
use Rattle.ha_config.specs.Words.{Text, up_to}
use Rattle.ha_config.proofs.ListLemmas.{some-same}
use Rattle.ha_journal.specs.declared.carry.Carry.{Carry}
use Rattle.ha_journal.specs.declared.entry.Entry.{Entry}
use Rattle.ha_journal.specs.declared.entry.Entry.TheVariants.{Again}
use Rattle.ha_journal.specs.Entries.{BeginsSegment, is_again}
use Rattle.ha_journal.specs.Journal.{Journal, automations, in_force}
use Rattle.ha_journal.specs.States.{switches_of}
use Rattle.ha_journal.specs.Switches.{is_on}
use Rattle.ha_journal.proofs.ForceLaws.{in-force-are}
use Rattle.ha_model.specs.Lawful.{is_line_of, shuts}
use Rattle.ha_sight.specs.Sight.{Automations}
use Rattle.ha_whole.specs.Lasts.{lasts}
use Rattle.ha_whole.specs.Named.{in_name_order}
use Rattle.ha_whole.specs.Segments.{cut, segment}
use Rattle.ha_whole.specs.Whole.{again_of, numbers_of}
use Rattle.segment_runs.specs.Segment.{SegmentTable, all_of}
use Rattle.switch_book.specs.Book.{Switch}
use Rattle.segment_carry.specs.ByName.{by_name, listed, numbers_with}
use Rattle.segment_carry.specs.Closing.{Closes, again_made, carry_made, flag_in, number_in}
use Rattle.segment_carry.specs.Hands.{Hands}
use Rattle.segment_carry.specs.Sources.{carry_in, lines_with, shut_with}
use Rattle.segment_carry.proofs.ByNameLemmas.{all-given, given, given-each, listed-by-name}
use Rattle.segment_carry.proofs.HandsLemmas.{hands-of}
use Rattle.segment_carry.proofs.LastLemmas.{numbers-made}
use Rattle.segment_carry.proofs.MomentLemmas.{moments-listed}
use Rattle.segment_carry.proofs.SourceLemmas.{filter-same, map-same}

-- ---- what is made

module _ (k : Journal) (front count at : ℕ) (config : Config) (runs : SegmentTable) (names : List Text) (last : List ℕ) (switches : Automations) (moments : List (Option ℕ))
    (c : Closes k front count at config runs names last switches moments) where
  abbrev s : Journal
  s = segment k

  abbrev rules : List Automation
  rules = automations s

  hands : Hands k
  hands = hands-of k c.entries

  numbers-are : numbers_with (number_in last) 0 names (carry_in hands.opening).numbers ≡ in_name_order (numbers_of k)
  numbers-are =
      (λ i. numbers_with (number_in last) 0 names (sym hands.carried i))
      ∙ numbers-made s names last c.names_are c.last_are ((λ i. are_in_name_order (hands.carried i)) ∙ hands.ordered)

  moments-made : listed (names_of rules) (λ a. unwrap_or (slice_get moments a) None) (by_name (names_of rules)) ≡ in_name_order (lasts s)
  moments-made = moments-listed s moments c.lasts_are

  switch-at : (i : ℕ) (p : ℕ × Automation) → slice_get (in_force s) i ≡ Some p → flag_in switches i ≡ Some (is_on s p.0)
  switch-at i p is =
      (λ n. option_map (λ (q : Switch). q.2) (slice_get (c.switches_are n) i))
      ∙ ap (option_map (λ (q : Switch). q.2)) (slice_get-map {A = ℕ × Automation} {B = Switch} (λ p. (p.0, p.1.name, is_on s p.0)) (in_force s) i)
      ∙ (λ n. option_map (λ (q : Switch). q.2) (option_map {T = ℕ × Automation} {U = Switch} (λ p. (p.0, p.1.name, is_on s p.0)) (is n)))

  switches-made : listed (names_of rules) (flag_in switches) (by_name (names_of rules)) ≡ in_name_order (switches_of s)
  switches-made =
      listed-by-name rules (flag_in switches)
      ∙ (λ i. in_name_order (filter_map (given (flag_in switches)) (enumerate_from 0 (sym (in-force-are s) i))))
      ∙ ap in_name_order (given-each {Y = ℕ × Automation} {X = Bool} (λ p. p.1) (λ p. Some (is_on s p.0)) (flag_in switches) 0 (in_force s)
      (λ i p is. (let e : 0 + i ≡ i = omega arith in ap (flag_in switches) e ∙ switch-at i p is)))
      ∙ ap in_name_order (all-given {Y = ℕ × Automation} {X = Bool} (λ p. p.1) (λ p. is_on s p.0) (in_force s))

  lines-made : lines_with (carry_in hands.opening).lines hands.behind ≡ map (λ q. count_by (is_line_of q) k) (up_to 16)
  lines-made = map-same (λ q. slice_index (carry_in hands.opening).lines q + count_by (is_line_of q) hands.behind) (λ q. count_by (is_line_of q) k) 0 16 (λ i lt. sym (hands.lines (0 + i) (omega (arith, lt))))

  shut-made : shut_with (carry_in hands.opening).shut hands.behind ≡ filter (λ q. list_any (shuts q) k) (up_to 16)
  shut-made = filter-same (λ q. list_any (nat_eq q) (carry_in hands.opening).shut || list_any (shuts q) hands.behind) (λ q. list_any (shuts q) k) 0 16 (λ i lt. sym (hands.shut (0 + i) (omega (arith, lt))))

  count-made : count ≡ suc (count_by is_again k)
  count-made = omega (arith, c.count_is, length-append (cut k).closed (segment k ∷ []), hands.agains)

  -- what is made of these parts is the Again of the journal
  made-is : again_made names (names_of rules) (carry_in hands.opening) hands.behind count at (length (all_of runs.closed runs.list)) last switches moments ≡ again_of k
  made-is = λ i. Again (count-made i) (c.at_is i) (switches-made i) (record {
    serials = c.runs_are i;
    numbers = numbers-are i;
    lines = lines-made i;
    shut = shut-made i;
    last = moments-made i;
  })

  -- ---- where the parts lie

  length-is : length k ≡ front + suc (length hands.behind)
  length-is = omega (arith, ap length hands.is, length-append hands.before (hands.opening ∷ hands.behind), hands.front_is, c.front_is)

  pub front-within : front < length k
  front-within = omega (arith, length-is)

  at-seam : (xs : List Entry) (x : Entry) (ys : List Entry) → slice_get (xs ++ (x ∷ ys)) (length xs) ≡ Some x
  at-seam [] x ys = refl
  at-seam (y ∷ xs) x ys = at-seam xs x ys

  behind-seam : (xs : List Entry) (x : Entry) (ys : List Entry) → drop (suc (length xs)) (xs ++ (x ∷ ys)) ≡ ys
  behind-seam [] x ys = refl
  behind-seam (y ∷ xs) x ys = behind-seam xs x ys

  opening-at : slice_get k front ≡ Some hands.opening
  opening-at = (λ i. slice_get (hands.is i) ((c.front_is ∙ sym hands.front_is) i)) ∙ at-seam hands.before hands.opening hands.behind

  -- the entry behind the front opened the last segment
  opening-is : (x : Entry) → slice_get k front ≡ Some x → x ≡ hands.opening
  opening-is x is = some-same x hands.opening (sym is ∙ opening-at)

  pub begins-segment : (x : Entry) → slice_get k front ≡ Some x → BeginsSegment x
  begins-segment x is = subst BeginsSegment (sym (opening-is x is)) hands.opens

  behind-is : drop (front + 1) k ≡ hands.behind
  behind-is =
      let e : front + 1 ≡ suc (length hands.before) = omega (arith, c.front_is, hands.front_is) in
      (λ i. drop (e i) (hands.is i)) ∙ behind-seam hands.before hands.opening hands.behind

  -- what the functions are given
  module _ (x : Entry) (found : slice_get k front ≡ Some x) (took : Carry) (took_is : took ≡ carry_in x) (es : List Entry) (es_are : es ≡ drop (front + 1) k) where
    took-over : took ≡ carry_in hands.opening
    took-over = took_is ∙ ap carry_in (opening-is x found)

    own : es ≡ hands.behind
    own = es_are ∙ behind-is

    pub lines-fit : (q : ℕ) → q < 16 → slice_index took.lines q + length es < 2 ^ 64
    lines-fit q lt =
        let all = hands.lines q lt in
        let most = count_by-le-length (is_line_of q) k in
        let old : slice_index took.lines q ≡ slice_index (carry_in hands.opening).lines q = (λ i. slice_index (took-over i).lines q) in
        let count : length es ≡ length hands.behind = ap length own in
        omega (arith, all, most, old, count, length-is, c.small)

    pub made-here : (first : List Text) → first ≡ names_of config.automations → again_made names first took es count at (length (all_of runs.closed runs.list)) last switches moments ≡ again_of k
    made-here first first_are =
        (let names_are : first ≡ names_of rules = first_are ∙ (λ i. names_of (c.config_is i).automations) in
        (λ i. again_made names (names_are i) (took-over i) (own i) count at (length (all_of runs.closed runs.list)) last switches moments) ∙ made-is)

  -- the names of the automations are not too many
  pub few-names : (first : List Text) → first ≡ names_of config.automations → length first ≤ 2_048
  few-names first first_are =
      (let length_is = ap length first_are in let same = length-map config.automations (λ (a : Automation). a.name) in omega (arith, length_is, same, c.few))

-- what is made, or memory was wanting
pub made-same : {A E : Type 0} (r : Result A E) (x y : A) → x ≡ y → IfOk r (λ a. a ≡ x) → IfOk r (λ a. a ≡ y)
made-same (Ok a) x y e h = h ∙ e
made-same (Err f) x y e h = tt

pub carry-is : (names first : List Text) (by_first : List ℕ) (before : Carry) (entries : List Entry) (serials : ℕ) (last : List ℕ) (moments : List (Option ℕ)) (made : Carry)
    → made.serials ≡ serials → made.numbers ≡ numbers_with (number_in last) 0 names before.numbers → made.lines ≡ lines_with before.lines entries
    → made.shut ≡ shut_with before.shut entries → made.last ≡ listed first (λ a. unwrap_or (slice_get moments a) None) by_first
    → made ≡ carry_made names first by_first before entries serials last moments
carry-is names first by_first before entries serials last moments made serials_are numbers lines shut last_are =
    λ i. record { serials = serials_are i; numbers = numbers i; lines = lines i; shut = shut i; last = last_are i }
