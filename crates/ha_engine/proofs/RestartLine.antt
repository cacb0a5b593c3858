-- A restart line.
use Rattle.std.proofs.Common.{◌≡◌, ℕ, zero, suc, ◌+◌, ◌≤◌, List, [], ◌∷◌, ◌++◌, length, map, take, Bool, true, false, refl, sym, ap, subst, ◌∙◌, rules, arith}
use Rattle.std.specs.Prelude.{Some, None, IsSome, nat_eq, ◌||◌, slice_get, zip}
use Rattle.std.specs.List.{list_any}
use Rattle.ha_clock.specs.Zone as clock
use Rattle.ha_config.specs.declared.config.Automation.{Automation}
use Rattle.ha_config.specs.declared.config.Script.{Script}
use Rattle.ha_config.specs.declared.command.Cmd.{Cmd}
use Rattle.ha_config.specs.Numbered.{has_number}
use Rattle.ha_config.proofs.ListLemmas.{none-some, some-same}
use Rattle.ha_model.specs.declared.record.EndCause.{EndCause}
use Rattle.ha_journal.specs.declared.entry.Entry.{Entry}
use Rattle.ha_journal.specs.declared.entry.Entry.TheVariants.{Line}
use Rattle.ha_journal.specs.Attempts.{passing}
use Rattle.ha_journal.specs.Force.{force}
use Rattle.ha_journal.specs.Journal.{Journal, HasEntry, automations, in_force, now, zone_of, more}
use Rattle.ha_journal.proofs.ForceLaws.{in-force-are}
use Rattle.ha_journal.proofs.MoreLemmas.{has-entry}
use Rattle.ha_model.specs.Lawful.{Right}
use Rattle.ha_model.specs.RecordSteps.{records_after}
use Rattle.ha_model.specs.Records.{Records}
use Rattle.ha_model.proofs.LawfulLaws.{right-more}
use Rattle.ha_model.proofs.FoldLaws.{records-more}
use Rattle.run_laws.proofs.EntryLaws.{by-calls}
use Rattle.run_modes.specs.Calls.{all_tried}
use Rattle.run_modes.specs.Table.{stopped}
use Rattle.engine_parts.specs.declared.parts.Parts.{Parts}
use Rattle.engine_parts.specs.Kept.{AreSound, Kept}
use Rattle.engine_parts.specs.Numbers.{numbers_in}
use Rattle.engine_entry.proofs.EnterLemmas.{now-left, sound-more, zone-more}

-- ---- its switches

-- LAW: whether one of the first of these passes, with the one at the place behind them
any-next : {X : Type 0} (test : X → Bool) (xs : List X) (n : ℕ) (x : X) → slice_get xs n ≡ Some x → list_any test (take (suc n) xs) ≡ (list_any test (take n xs) || test x)
any-next test [] n x e = absurd (none-some x e)
any-next test (y ∷ ys) zero x e = (λ i. test (some-same y x e i) || false) ∙ by (test x)
  where
    by : (b : Bool) → (b || false) ≡ (false || b)
    by true = refl
    by false = refl
any-next test (y ∷ ys) (suc n) x e = (λ i. test y || any-next test ys n x e i) ∙ by (test y) (list_any test (take n ys)) (test x)
  where
    by : (a b c : Bool) → (a || (b || c)) ≡ ((a || b) || c)
    by true b c = refl
    by false b c = refl

pub any-more : {X : Type 0} (test : X → Bool) (xs : List X) (n : ℕ) (x : X) → slice_get xs n ≡ Some x → list_any test (take (n + 1) xs) ≡ (list_any test (take n xs) || test x)
any-more test xs n x e = (let one : n + 1 ≡ suc n = omega arith in λ i. list_any test (take (one i) xs)) ∙ any-next test xs n x e

pub any-all : {X : Type 0} (test : X → Bool) (xs : List X) (n : ℕ) → length xs ≤ n → list_any test (take n xs) ≡ list_any test xs
any-all test [] zero le = refl
any-all test [] (suc n) le = refl
any-all test (x ∷ xs) zero le = absurd (omega (arith, le))
any-all test (x ∷ xs) (suc n) le = (λ i. test x || any-all test xs n (omega (arith, le)) i)

-- automations beside their numbers
pub zip-at : (ns : List ℕ) (xs : List Automation) (i n : ℕ) (x : Automation) → slice_get ns i ≡ Some n → slice_get xs i ≡ Some x → slice_get (zip ns xs) i ≡ Some (n, x)
zip-at [] xs i n x e f = absurd (none-some n e)
zip-at (m ∷ ns) [] i n x e f = absurd (none-some x f)
zip-at (m ∷ ns) (y ∷ ys) zero n x e f = (λ i. Some (some-same m n e i, some-same y x f i))
zip-at (m ∷ ns) (y ∷ ys) (suc i) n x e f = zip-at ns ys i n x e f

pub zip-many : (ns : List ℕ) (xs : List Automation) → length xs ≤ length ns → length (zip ns xs) ≡ length xs
zip-many [] [] le = refl
zip-many (n ∷ ns) [] le = refl
zip-many [] (x ∷ xs) le = absurd (omega (arith, le))
zip-many (n ∷ ns) (x ∷ xs) le = ap suc (zip-many ns xs (omega (arith, le)))

-- LAW: one that is in force has its number
pub zip-number : (ps : List (ℕ × Automation)) (i n : ℕ) (x : Automation) → slice_get ps i ≡ Some (n, x) → has_number ps n ≡ true
zip-number [] i n x e = absurd (none-some (n, x) e)
zip-number (p ∷ ps) zero n x e = (λ k. nat_eq (some-same p (n, x) e k).0 n || list_any (λ (q : ℕ × Automation). nat_eq q.0 n) ps) ∙ (λ k. equal-self n k || list_any (λ (q : ℕ × Automation). nat_eq q.0 n) ps)
  where
    equal-self : (a : ℕ) → nat_eq a a ≡ true
    equal-self a = search rules
zip-number (p ∷ ps) (suc i) n x e = by (nat_eq p.0 n) (zip-number ps i n x e)
  where
    by : (b : Bool) → has_number ps n ≡ true → (b || has_number ps n) ≡ true
    by true h = refl
    by false h = h

-- LAW: the numbers of all units in force, beside the automations, are those in force
pub zip-force : (s : Journal) (ns : List ℕ) → ns ≡ numbers_in s → zip ns (automations s) ≡ in_force s
zip-force s ns is = (λ i. zip (is i) (sym (in-force-are s) i)) ∙ by (in_force s) (map {A = ℕ × Script} {B = ℕ} (λ p. p.0) (force s).scripts)
  where
    by : (ps : List (ℕ × Automation)) (behind : List ℕ) → zip (map {A = ℕ × Automation} {B = ℕ} (λ p. p.0) ps ++ behind) (map {A = ℕ × Automation} {B = Automation} (λ p. p.1) ps) ≡ ps
    by [] [] = refl
    by [] (n ∷ ns) = refl
    by (p ∷ ps) behind = ap (λ l. p ∷ l) (by ps behind)

pub numbers-many : (s : Journal) (ns : List ℕ) → ns ≡ numbers_in s → length (automations s) ≤ length ns
numbers-many s ns is = subst (λ l. length (automations s) ≤ length l) (sym is) (subst (λ xs. length xs ≤ length (numbers_in s)) (in-force-are s) (by (in_force s) (map {A = ℕ × Script} {B = ℕ} (λ p. p.0) (force s).scripts)))
  where
    by : (ps : List (ℕ × Automation)) (behind : List ℕ) → length (map {A = ℕ × Automation} {B = Automation} (λ p. p.1) ps) ≤ length (map {A = ℕ × Automation} {B = ℕ} (λ p. p.0) ps ++ behind)
    by [] behind = omega arith
    by (p ∷ ps) behind = omega (arith, by ps behind)

-- ---- a restart that was pushed

module _ (s : Journal) (rs : Records) (p : Parts) (source number : ℕ) (right : Right s rs) (kept : Kept s rs p) (nothing : passing (more s (Line source number Cmd.Restart)) ≡ []) where
  abbrev again : Entry
  again = Line source number Cmd.Restart

  abbrev k : Journal
  k = more s again

  pub again-some : HasEntry s
  again-some = has-entry s right.journal

  again-records : stopped None (length s) EndCause.Restarted rs ≡ records_after s rs again
  again-records =
      (λ i. all_tried k (stopped None (length s) EndCause.Restarted rs) (sym nothing i))
      ∙ by-calls s rs again [] right (λ boot. boot) tt (λ a lt. refl) ∙ records-more s again ∙ ap (λ l. records_after s l again) (sym right.records_are)

  -- LAW: all runs end there, and nothing is attempted
  pub again-right : Right k (stopped None (length s) EndCause.Restarted rs)
  again-right = subst (Right k) (sym again-records) (right-more s rs again right (λ boot. boot) tt)

  pub again-sound : AreSound k
  again-sound = sound-more s again again-some refl kept.going.sees.sound

  pub again-now : p.at ≡ now k
  again-now = kept.going.sees.looks.now_is ∙ sym (now-left s again refl)

  pub again-zone : p.zone ≡ zone_of k
  again-zone = kept.going.sees.looks.zone_is ∙ sym (zone-more s again again-some)

  pub again-read : IsSome (clock.zone_of p.zone)
  again-read = subst (λ z. IsSome (clock.zone_of z)) (sym kept.going.sees.looks.zone_is) kept.going.sees.looks.zone_read
