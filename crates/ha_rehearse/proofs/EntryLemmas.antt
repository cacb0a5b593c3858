-- One put more: a boot alone, a step, a line.
use Rattle.std.proofs.Common.{◌≡◌, ◌+◌, ◌<◌, ◌∙◌, ℕ, Bool, true, false, cond, List, [], ◌∷◌, ◌++◌, length, Option, Some, None, count_by, ap, arith, refl, sym, subst, rules}
use Rattle.std.specs.Prelude.{◌||◌, ◌&&◌, if◌then◌else◌}
use Rattle.std.specs.List.{AllZip, list_any}
use Rattle.std.proofs.lemmas.List.{append-nil}
use Rattle.std.proofs.lemmas.List.Folds.{list_any-append}
use Rattle.std.proofs.lemmas.List.Sums.{sum_by-append}
use Rattle.ha_config.specs.declared.command.Cmd.{Cmd}
use Rattle.ha_journal.specs.declared.entry.Entry.{Entry}
use Rattle.ha_journal.specs.declared.entry.Entry.TheVariants.{Boot, Line, Step, Again}
use Rattle.ha_sight.specs.declared.item.Item.{Item}
use Rattle.ha_journal.specs.Commands.{ArePutFrom, Placed, has_automation, lets_reload, lines_of, put_as}
use Rattle.ha_config.specs.Fair.{of_helper, shuts_source}
use Rattle.ha_config.specs.Helpers.{is_helper}
use Rattle.ha_journal.specs.Journal.{Journal, helpers, more}
use Rattle.ha_model.specs.Lawful.{is_line_of, pick, shuts}
use Rattle.ha_whole.specs.Whole.{Right, Running, again_of, is_rested, put}
use Rattle.ha_model.specs.Records.{Records}
use Rattle.ha_sight.specs.Scripts.{Branch}
use Rattle.ha_laws.specs.Makers.{IsOfOne, OfOne}
use Rattle.ha_laws.proofs.TextLemmas.{lines-more}
use Rattle.whole_laws.proofs.PutLemmas.{any-put, by-way, count-put}
use Rattle.whole_laws.proofs.TextLemmas.{lines-put}

-- ---- a boot alone

pub boot_runs : (rs : Records) (x : Entry) → Right (x ∷ []) rs → Running (x ∷ []) rs
boot_runs rs (Boot text config stored start zone carry) right = record { lawful = record { right = right; turns = (tt, tt); closed = (tt, tt) }; is_open = (tt, tt) }
boot_runs rs (Again number start stored carry) right = absurd right.journal.entries.0
boot_runs rs (Line source number cmd) right = absurd right.journal.entries.0
boot_runs rs (Step worker serial branch item) right = absurd right.journal.entries.0

pub boot_alone : (rs : Records) (x : Entry) → Right (x ∷ []) rs → OfOne (x ∷ [])
boot_alone rs (Boot text config stored start zone carry) right = (tt, tt)
boot_alone rs (Again number start stored carry) right = absurd right.journal.entries.0
boot_alone rs (Line source number cmd) right = absurd right.journal.entries.0
boot_alone rs (Step worker serial branch item) right = absurd right.journal.entries.0

pub boot_puts : (rs : Records) (x : Entry) → Right (x ∷ []) rs → ArePutFrom 0 (x ∷ []) []
boot_puts rs (Boot text config stored start zone carry) right = tt
boot_puts rs (Again number start stored carry) right = absurd right.journal.entries.0
boot_puts rs (Line source number cmd) right = absurd right.journal.entries.0
boot_puts rs (Step worker serial branch item) right = absurd right.journal.entries.0

pub boot_number : (rs : Records) (x : Entry) → Right (x ∷ []) rs → count_by (is_line_of 0) (x ∷ []) ≡ 0
boot_number rs (Boot text config stored start zone carry) right = refl
boot_number rs (Again number start stored carry) right = absurd right.journal.entries.0
boot_number rs (Line source number cmd) right = absurd right.journal.entries.0
boot_number rs (Step worker serial branch item) right = absurd right.journal.entries.0

pub boot_open : (rs : Records) (x : Entry) → Right (x ∷ []) rs → list_any (shuts 0) (x ∷ []) ≡ false
boot_open rs (Boot text config stored start zone carry) right = refl
boot_open rs (Again number start stored carry) right = absurd right.journal.entries.0
boot_open rs (Line source number cmd) right = absurd right.journal.entries.0
boot_open rs (Step worker serial branch item) right = absurd right.journal.entries.0

pub boot_rested : (rs : Records) (x : Entry) → Right (x ∷ []) rs → is_rested rs 0 (x ∷ []) ≡ true
boot_rested rs (Boot text config stored start zone carry) right = refl
boot_rested rs (Again number start stored carry) right = absurd right.journal.entries.0
boot_rested rs (Line source number cmd) right = absurd right.journal.entries.0
boot_rested rs (Step worker serial branch item) right = absurd right.journal.entries.0

-- ---- one entry more

pub one_more : (j : Journal) (x : Entry) → OfOne j → IsOfOne x → OfOne (more j x)
one_more [] x alone own = (own, tt)
one_more (y ∷ j) x alone own = (alone.0, one_more j x alone.1 own)

pub one_put : (j : Journal) (x : Entry) → OfOne j → IsOfOne x → OfOne (put j x)
one_put j x alone own =
    by-way OfOne j x (λ e. one_more j x alone own) (λ e. one_more (more j x) (again_of (more j x)) (one_more j x alone own) tt)

zip-append : {A B : Type 0} (R : A → B → Type 0) (xs ys : List A) (cs ds : List B) → AllZip R xs cs → AllZip R ys ds → AllZip R (xs ++ ys) (cs ++ ds)
zip-append R [] ys [] ds p q = q
zip-append R [] ys (c ∷ cs) ds p q = absurd p
zip-append R (x ∷ xs) ys [] ds p q = absurd p
zip-append R (x ∷ xs) ys (c ∷ cs) ds p q = (p.0, zip-append R xs ys cs ds p.1 q)

pub step_puts : (j : Journal) (worker serial : ℕ) (branch : Branch) (item : Item) (cmds : List Cmd) → ArePutFrom 0 j cmds → ArePutFrom 0 (more j (Step worker serial branch item)) cmds
step_puts j worker serial branch item cmds p =
    let P : List Placed → Type 0 = λ z. AllZip (λ (l : Placed) (c : Cmd). l.cmd ≡ put_as l.before c) z cmds in
    subst P (sym (lines-more 0 j (Step worker serial branch item) ∙ append-nil (lines_of 0 j))) p

pub line_puts : (j : Journal) (number : ℕ) (c : Cmd) (cmds : List Cmd) → ArePutFrom 0 j cmds → ArePutFrom 0 (put j (Line 0 number (put_as j c))) (cmds ++ (c ∷ []))
line_puts j number c cmds p =
    let P : List Placed → Type 0 = λ z. AllZip (λ (l : Placed) (c' : Cmd). l.cmd ≡ put_as l.before c') z (cmds ++ (c ∷ [])) in
    subst P (sym (lines-put 0 j (Line 0 number (put_as j c))))
    (zip-append (λ (l : Placed) (c' : Cmd). l.cmd ≡ put_as l.before c') (lines_of 0 j) (record { before = j; cmd = put_as j c } ∷ []) cmds (c ∷ []) p (refl, tt))

pub line_number : (j : Journal) (number : ℕ) (c : Cmd) → count_by (is_line_of 0) (put j (Line 0 number c)) ≡ count_by (is_line_of 0) j + 1
line_number j number c = count-put (is_line_of 0) (λ d. refl) j (Line 0 number c)

pub step_number : (j : Journal) (worker serial : ℕ) (branch : Branch) (item : Item) → count_by (is_line_of 0) (more j (Step worker serial branch item)) ≡ count_by (is_line_of 0) j
step_number j worker serial branch item =
    let sum = sum_by-append (λ x. cond (is_line_of 0 x) 1 0) j (Step worker serial branch item ∷ []) in omega (arith, sum)

or-false : (a : Bool) → (a || false) ≡ a
or-false true = refl
or-false false = refl

and-true : (a : Bool) → (a && true) ≡ a
and-true true = refl
and-true false = refl

pub step_shuts : (j : Journal) (worker serial : ℕ) (branch : Branch) (item : Item) → list_any (shuts 0) (more j (Step worker serial branch item)) ≡ list_any (shuts 0) j
step_shuts j worker serial branch item = list_any-append (shuts 0) j (Step worker serial branch item ∷ []) ∙ or-false (list_any (shuts 0) j)

-- what is put for a command shuts its source where the command does
put_shuts : (j : Journal) (c : Cmd) → shuts_source (put_as j c) ≡ shuts_source c
put_shuts j (Cmd.Report entity text attributes) = by (is_helper (helpers j) entity)
  where
    by : (b : Bool) → shuts_source (if b then Cmd.Refused of_helper else Cmd.Report entity text attributes) ≡ false
    by true = refl
    by false = refl
put_shuts j (Cmd.Gone entity) = by (is_helper (helpers j) entity)
  where
    by : (b : Bool) → shuts_source (if b then Cmd.Refused of_helper else Cmd.Gone entity) ≡ false
    by true = refl
    by false = refl
put_shuts j (Cmd.Event kind pairs) = refl
put_shuts j (Cmd.Moment at) = refl
put_shuts j (Cmd.Switch name on stop) = by (has_automation j name)
  where
    by : (b : Bool) → shuts_source (if b then Cmd.Switch name on stop else Cmd.Refused 9) ≡ false
    by true = refl
    by false = refl
put_shuts j (Cmd.Trigger name skip) = by (has_automation j name)
  where
    by : (b : Bool) → shuts_source (if b then Cmd.Trigger name skip else Cmd.Refused 9) ≡ false
    by true = refl
    by false = refl
put_shuts j Cmd.Restart = refl
put_shuts j (Cmd.Reload text None) = refl
put_shuts j (Cmd.Reload text (Some config)) = by (lets_reload j)
  where
    by : (b : Bool) → shuts_source (if b then Cmd.Reload text (Some config) else Cmd.Refused 13) ≡ false
    by true = refl
    by false = refl
put_shuts j (Cmd.Refused code) = refl
put_shuts j Cmd.Lost = refl
put_shuts j Cmd.TooLong = refl

pub line_shuts : (j : Journal) (number : ℕ) (c : Cmd) → list_any (shuts 0) (put j (Line 0 number (put_as j c))) ≡ (list_any (shuts 0) j || shuts_source c)
line_shuts j number c =
    any-put (shuts 0) (λ d. refl) j (Line 0 number (put_as j c))
    ∙ ap (λ z. list_any (shuts 0) j || z) (and-true (shuts_source (put_as j c)) ∙ put_shuts j c)

-- what is picked stands among the pairs
pub picked_some : (k : ℕ) (pairs : List (ℕ × Branch)) (x : ℕ × Branch) → pick k pairs ≡ Some x → 0 < length pairs
picked_some k [] x h = absurd (let bad : ◌≡◌ {A = Option (ℕ × Branch)} None (Some x) = h in cc)
picked_some k (p ∷ ps) x h = search rules
