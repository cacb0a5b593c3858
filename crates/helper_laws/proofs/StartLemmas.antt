-- A timer that is not active is so until an entry starts it.
use Rattle.std.proofs.Common.{◌≡◌, ℕ, ◌+◌, Bool, true, false, List, [], ◌∷◌, ◌++◌, refl, sym, ap, subst, ◌∙◌, append_assoc, append-nil}
use Rattle.std.specs.Prelude.{Option, Some, None, ◌&&◌, ◌||◌, is_some, nat_le, option_map, option_and_then, codes, if◌then◌else◌}
use Rattle.std.specs.List.{list_any}
use Rattle.std.specs.Option.{option_map_or}
use Rattle.ha_value.specs.declared.value.EntityId.{EntityId}
use Rattle.ha_config.specs.declared.helper.Helper.{Helper}
use Rattle.ha_config.specs.Words.{same}
use Rattle.ha_config.proofs.ListLemmas.{true-false}
use Rattle.ha_sight.specs.declared.helped.HelperChange.{HelperChange}
use Rattle.ha_sight.specs.Known.{due_of}
use Rattle.ha_journal.specs.declared.entry.Entry.{Entry}
use Rattle.ha_journal.specs.declared.entry.Entry.TheVariants.{Boot, Line, Step, Again}
use Rattle.ha_journal.specs.Entries.{change_of, is_moment}
use Rattle.ha_journal.specs.Helpers.{comes, due_in, finishes}
use Rattle.ha_journal.specs.HelperSteps.{due_with}
use Rattle.ha_journal.specs.Journal.{Journal, more, now}
use Rattle.ha_journal.proofs.HelperLaws.{due-more}
use Rattle.helper_laws.specs.Starts.{is_start, starts}

-- ---- dues

-- a change that starts nothing gives no due
pub no-start : (c : HelperChange) (at : ℕ) → is_start c ≡ false → due_of (record { change = c; at = at }) ≡ None
no-start c at h = by (same c.text (codes "active")) c.span h
  where
    by : (b : Bool) (o : Option ℕ) → (b && is_some o) ≡ false → (if b then option_map (λ d. at + d) o else None) ≡ None
    by false o h = refl
    by true None h = refl
    by true (Some d) h = absurd (true-false h)

-- where there is no due, an entry that starts nothing leaves it so
pub still-none : (j : Journal) (x : Entry) (e : EntityId) → due_in j e ≡ None → starts e x ≡ false → due_in (more j x) e ≡ None
still-none j x e none h = due-more j x e ∙ by (change_of e x) h
  where
    by : (o : Option HelperChange) → option_map_or is_start o false ≡ false → due_with j x e o ≡ None
    by None h = ap (option_and_then (λ due. if comes due (now (more j x), x) then None else Some due)) none
    by (Some c) h = no-start c (now (more j x)) h

any-parts : (a b : Bool) → (a || b) ≡ false → (a ≡ false) × (b ≡ false)
any-parts true b h = absurd (true-false h)
any-parts false b h = (refl, h)

-- and so do several
pub none-behind : (e : EntityId) (j : Journal) (xs : List Entry) → due_in j e ≡ None → list_any (starts e) xs ≡ false → due_in (j ++ xs) e ≡ None
none-behind e j [] none h = subst (λ (k : Journal). due_in k e ≡ None) (sym (append-nil j)) none
none-behind e j (x ∷ xs) none h =
    let two = any-parts (starts e x) (list_any (starts e) xs) h in
    subst (λ (k : Journal). due_in k e ≡ None) (append_assoc j (x ∷ []) xs)
    (none-behind e (more j x) xs (still-none j x e none two.0) two.1)

-- without a due a timer doesn't finish
pub not-finishes : (j : Journal) (y : Entry) (h : Helper) → due_in j h.entity ≡ None → finishes j y h ≡ false
not-finishes j y h none = ap (λ o. option_map_or (λ due. comes due (now (more j y), y)) o false) none

-- ---- a moment changes nothing

moment-changes : (x : Entry) (e : EntityId) → is_moment x ≡ true → change_of e x ≡ None
moment-changes (Boot text config stored start zone carry) e h = refl
moment-changes (Again number start stored carry) e h = refl
moment-changes (Line source number cmd) e h = refl
moment-changes (Step worker serial branch item) e h = absurd (true-false (sym h))

-- where a timer finishes, it has no due behind
pub finished-none : (j : Journal) (x : Entry) (h : Helper) → finishes j x h ≡ true → due_in (more j x) h.entity ≡ None
finished-none j x h done = by (due_in j h.entity) refl done
  where
    e : EntityId
    e = h.entity

    by : (o : Option ℕ) → due_in j e ≡ o → option_map_or (λ due. comes due (now (more j x), x)) o false ≡ true → due_in (more j x) e ≡ None
    by None is comes_not = absurd (true-false (sym comes_not))
    by (Some due) is done =
        due-more j x e ∙ ap (due_with j x e) (moment-changes x e (moment (is_moment x) (nat_le due (now (more j x))) done))
        ∙ ap (option_and_then (λ d. if comes d (now (more j x), x) then None else Some d)) is
        ∙ (λ i. if done i then None else Some due)
      where
        moment : (a b : Bool) → (a && b) ≡ true → a ≡ true
        moment true b h = refl
        moment false b h = absurd (true-false (sym h))

-- behind a change that starts nothing there is no due
pub changed-none : (j : Journal) (x : Entry) (e : EntityId) → is_some (change_of e x) ≡ true → starts e x ≡ false → due_in (more j x) e ≡ None
changed-none j x e some h = due-more j x e ∙ by (change_of e x) some h
  where
    by : (o : Option HelperChange) → is_some o ≡ true → option_map_or is_start o false ≡ false → due_with j x e o ≡ None
    by None some h = absurd (true-false (sym some))
    by (Some c) some h = no-start c (now (more j x)) h

-- ---- the laws

-- LAW: behind the entry at which a timer finishes, it finishes at no entry before the next start
pub finishes-once : (j : Journal) (x : Entry) (xs : List Entry) (y : Entry) (h : Helper) → finishes j x h ≡ true → list_any (starts h.entity) xs ≡ false → finishes (more j x ++ xs) y h ≡ false
finishes-once j x xs y h done none = not-finishes (more j x ++ xs) y h (none-behind h.entity (more j x) xs (finished-none j x h done) none)

-- LAW: nor behind a change that starts it not
pub stopped-stays : (j : Journal) (x : Entry) (xs : List Entry) (y : Entry) (h : Helper) → is_some (change_of h.entity x) ≡ true → list_any (starts h.entity) (x ∷ xs) ≡ false → finishes (more j x ++ xs) y h ≡ false
stopped-stays j x xs y h some none =
    let two = any-parts (starts h.entity x) (list_any (starts h.entity) xs) none in
    not-finishes (more j x ++ xs) y h (none-behind h.entity (more j x) xs (changed-none j x h.entity some two.0) two.1)

-- LAW: nor where it was never started
pub never-finishes : (j : Journal) (y : Entry) (h : Helper) → list_any (starts h.entity) j ≡ false → finishes j y h ≡ false
never-finishes j y h none = not-finishes j y h (none-behind h.entity [] j refl none)
