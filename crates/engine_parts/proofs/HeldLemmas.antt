-- Pending waits of runs that have frames.
use Rattle.std.proofs.Common.{◌≡◌, ℕ, zero, suc, ◌-◌, ◌<◌, List, [], ◌∷◌, ◌++◌, set, Bool, true, false, refl, sym, ap, subst, ◌∙◌, rules, arith}
use Rattle.std.specs.Prelude.{Option, Some, None, nat_eq, slice_get, ◌||◌, not, if◌then◌else◌}
use Rattle.std.specs.List.{list_any}
use Rattle.ha_journal.specs.declared.entry.Entry.TheVariants.{Line}
use Rattle.ha_config.specs.declared.command.Cmd.{Cmd}
use Rattle.ha_sight.specs.declared.waiting.WaitEnd.{WaitEnd}
use Rattle.ha_journal.specs.declared.firing.Firing.{Firing}
use Rattle.ha_journal.specs.Journal.{Journal, more}
use Rattle.ha_sight.specs.Sight.{Sight}
use Rattle.ha_config.specs.Words.{or_else}
use Rattle.ha_model.specs.Records.{spots}
use Rattle.ha_sight.specs.Scripts.{Branch, Spot}
use Rattle.ha_config.proofs.ListLemmas.{append-nil}
use Rattle.ha_model.proofs.FoldLaws.{spots-more}
use Rattle.script_step.specs.Gates.{gate_at}
use Rattle.script_step.specs.declared.frames.Frames.{Frames}
use Rattle.wait_set.specs.declared.asked.Asked.{Asked}
use Rattle.wait_set.specs.Asked.{end_now, fired_values, is_of, noted, without_run}
use Rattle.engine_parts.specs.Fronts.{fronts}
use Rattle.engine_parts.specs.Runs.{AreHeld, IsHeld, IsWait}

-- ---- at another journal

module _ (j k : Journal) (os : List (Option Frames)) (same : (s : ℕ) → spots j s ≡ spots k s) where
  held-one : (a : Asked) → IsHeld j os a → IsHeld k os a
  held-one a h pending =
      let one = h pending in
      (one.0, one.1, one.2, subst (λ (ss : List Spot). IsWait (gate_at a.ask.branch (fronts one.1 ss))) (same a.ask.serial) one.3)

  -- LAW: where all runs have the places that they had
  pub held-as : (asks : List Asked) → AreHeld j os asks → AreHeld k os asks
  held-as [] h = tt
  held-as (a ∷ asks) h = (held-one a h.0, h.1, held-as asks h.2)

-- LAW: a line is a place of no run
pub line-held : (j : Journal) (source number : ℕ) (cmd : Cmd) (os : List (Option Frames)) (asks : List Asked) → AreHeld j os asks → AreHeld (more j (Line source number cmd)) os asks
line-held j source number cmd os asks h =
    held-as j (more j (Line source number cmd)) os (λ s. sym (append-nil (spots j s)) ∙ sym (spots-more j (Line source number cmd) s)) asks h

-- ---- noted

none-kept : (e z : Option WaitEnd) → or_else e z ≡ None → e ≡ None
none-kept None z h = refl
none-kept (Some w) z h = h

same-asks : (q : ℕ) (s : Sight) (fired : List Firing) (serial : ℕ) (b : Branch) (asks : List Asked) → list_any (is_of serial b) (noted q s fired asks) ≡ list_any (is_of serial b) asks
same-asks q s fired serial b [] = refl
same-asks q s fired serial b (a ∷ asks) = ap (λ c. is_of serial b a || c) (same-asks q s fired serial b asks)

-- LAW: waits that were noted are held as before
pub held-noted : (q : ℕ) (s : Sight) (fired : List Firing) (j : Journal) (os : List (Option Frames)) (asks : List Asked) → AreHeld j os asks → AreHeld j os (noted q s fired asks)
held-noted q s fired j os [] h = tt
held-noted q s fired j os (a ∷ asks) h =
    (λ e. h.0 (none-kept a.end (end_now q s (fired_values a.owner fired) a.ask) e), same-asks q s fired a.ask.serial a.ask.branch asks ∙ h.1, held-noted q s fired j os asks h.2)

-- ---- a run that goes

or-left : (a b : Bool) → (a || b) ≡ false → a ≡ false
or-left true b h = absurd (let bad : ◌≡◌ {A = Bool} true false = h in cc)
or-left false b h = refl

or-right : (a b : Bool) → (a || b) ≡ false → b ≡ false
or-right true b h = absurd (let bad : ◌≡◌ {A = Bool} true false = h in cc)
or-right false b h = h

none-without : (s serial : ℕ) (b : Branch) (asks : List Asked) → list_any (is_of serial b) asks ≡ false → list_any (is_of serial b) (without_run s asks) ≡ false
none-without s serial b [] h = refl
none-without s serial b (a ∷ asks) h = by (nat_eq a.ask.serial s) (none-without s serial b asks (or-right (is_of serial b a) (list_any (is_of serial b) asks) h))
  where
    by : (c : Bool) → list_any (is_of serial b) (without_run s asks) ≡ false → list_any (is_of serial b) (if not c then a ∷ without_run s asks else without_run s asks) ≡ false
    by true e = e
    by false e = (λ i. or-left (is_of serial b a) (list_any (is_of serial b) asks) h i || e i)

pub get-set-other : {X : Type 0} (xs : List X) (n i : ℕ) (v : X) → (i ≡ n → ⊥) → slice_get (set xs n v) i ≡ slice_get xs i
get-set-other [] n i v apart = refl
get-set-other (x ∷ xs) zero zero v apart = absurd (apart refl)
get-set-other (x ∷ xs) zero (suc i) v apart = refl
get-set-other (x ∷ xs) (suc n) zero v apart = refl
get-set-other (x ∷ xs) (suc n) (suc i) v apart = get-set-other xs n i v (λ e. apart (ap suc e))

module _ (j : Journal) (os : List (Option Frames)) (s : ℕ) (o : Option Frames) (low : 0 < s) where
  -- LAW: a wait of another run is held where the run's slot is set anew
  pub held-other : (a : Asked) → nat_eq a.ask.serial s ≡ false → IsHeld j os a → IsHeld j (set os (s - 1) o) a
  held-other a other h pending =
      let one = h pending in
      let apart : a.ask.serial - 1 ≡ s - 1 → ⊥ = (λ e. differ a.ask.serial s other (omega (arith, e, one.0, low))) in
      (one.0, one.1, get-set-other os (s - 1) (a.ask.serial - 1) o apart ∙ one.2, one.3)
    where
      differ : (a b : ℕ) → nat_eq a b ≡ false → a ≡ b → ⊥
      differ a b h e = search (rules, h, e)

  -- LAW: so are those that the run leaves
  pub held-without : (asks : List Asked) → AreHeld j os asks → AreHeld j (set os (s - 1) o) (without_run s asks)
  held-without [] h = tt
  held-without (a ∷ asks) h = by (nat_eq a.ask.serial s) refl (held-without asks h.2)
    where
      by : (c : Bool) → nat_eq a.ask.serial s ≡ c → AreHeld j (set os (s - 1) o) (without_run s asks) → AreHeld j (set os (s - 1) o) (if not c then a ∷ without_run s asks else without_run s asks)
      by true e rest = rest
      by false e rest = (held-other a e h.0, none-without s a.ask.serial a.ask.branch asks h.1, rest)

-- ---- one run more

get-front : {X : Type 0} (xs ys : List X) (i : ℕ) (x : X) → slice_get xs i ≡ Some x → slice_get (xs ++ ys) i ≡ Some x
get-front {X} [] ys i x e = absurd (let bad : ◌≡◌ {A = Option X} None (Some x) = e in cc)
get-front (y ∷ xs) ys zero x e = e
get-front (y ∷ xs) ys (suc i) x e = get-front xs ys i x e

-- LAW: with a slot more
pub held-snoc : (j : Journal) (os : List (Option Frames)) (o : Option Frames) (asks : List Asked) → AreHeld j os asks → AreHeld j (os ++ (o ∷ [])) asks
held-snoc j os o [] h = tt
held-snoc j os o (a ∷ asks) h = ((λ e. (let one = h.0 e in (one.0, one.1, get-front os (o ∷ []) (a.ask.serial - 1) (Some one.1) one.2, one.3))), h.1, held-snoc j os o asks h.2)
