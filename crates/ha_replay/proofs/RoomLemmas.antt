-- How many entries the last segment of a journal has: those from the last Again on, or all.
use Rattle.std.proofs.Common.{◌≡◌, ◌∙◌, ap, sym, subst, refl, ℕ, suc, ◌+◌, ◌-◌, ◌<◌, [], ◌∷◌, ◌++◌, length, get_or, drop, take, drop-cons, true, false, arith, append_assoc}
use Rattle.std.proofs.lemmas.List.{length-drop}
use Rattle.std.specs.Prelude.{◌||◌, Option, None, Some, is_some}
use Rattle.std.specs.List.{list_any}
use Rattle.ha_journal.specs.declared.entry.Entry.{Entry}
use Rattle.ha_journal.specs.Entries.{Reopening, again_in, is_again}
use Rattle.ha_journal.specs.Journal.{Journal, more}
use Rattle.ha_config.proofs.ListLemmas.{append-nil, true-false}
use Rattle.ha_journal.proofs.MoreLemmas.{length-more}
use Rattle.ha_whole.specs.Segments.{alone, segment}
use Rattle.ha_whole.specs.Whole.{AreEntries, IsBehind}
use Rattle.whole_laws.proofs.CutLemmas.{is-cut, reopens, segment-again, segment-on}
use Rattle.ha_replay.proofs.LastLemmas.{parts-at}
use Rattle.ha_replay.proofs.NextLemmas.{or-first, or-second}
use Rattle.ha_replay.proofs.SeamLemmas.{each-front, first-plain}

-- no Again stands from this place on
abbrev pub NoAgainFrom : ℕ → Journal → Type 0
NoAgainFrom a j = list_any is_again (drop a j) ≡ false

none-of : {X : Type 0} (o : Option X) → is_some o ≡ false → o ≡ None
none-of None e = refl
none-of (Some x) e = absurd (true-false e)

length-on : (d : Journal) (x : Entry) → is_again x ≡ false → length (segment (more d x)) ≡ suc (length (segment d))
length-on d x e = ap length (segment-on d x (none-of (again_in x) e)) ∙ length-more (segment d) (alone (segment d) x)

length-along : (d xs : Journal) → list_any is_again xs ≡ false → length (segment (d ++ xs)) ≡ length (segment d) + length xs
length-along d [] e = (λ i. length (segment (append-nil d i))) ∙ omega arith
length-along d (x ∷ xs) e =
    let on = length-on d x (or-first (is_again x) (list_any is_again xs) e) in
    let rest = length-along (more d x) xs (or-second (is_again x) (list_any is_again xs) e) in
    (λ i. length (segment (sym (append_assoc d (x ∷ []) xs) i))) ∙ omega (arith, on, rest)

-- all of them, where no Again stands
pub all-in-segment : (j : Journal) → list_any is_again j ≡ false → length j ≡ length (segment j)
all-in-segment j e = (let n = length-along [] j e in omega (arith, n))

length-again : (b : Journal) (y : Entry) → AreEntries b → is_again y ≡ true → length (segment (more b y)) ≡ 1
length-again b y h holds = by (again_in y) refl holds
  where
    by : (o : Option Reopening) → again_in y ≡ o → is_some o ≡ true → length (segment (more b y)) ≡ 1
    by None e none = absurd (true-false (sym none))
    by (Some a) e some = (let o = reopens (segment b) a (is-cut b h).alone in ap length (segment-again b y a e ∙ o.is))

from-again : (b : Journal) (y : Entry) (ys : Journal) → AreEntries (b ++ (y ∷ ys)) → is_again y ≡ true → list_any is_again ys ≡ false → length (segment (b ++ (y ∷ ys))) ≡ suc (length ys)
from-again [] y ys h holds none = absurd (true-false (sym holds ∙ first-plain y h.0))
from-again (e ∷ es) y ys h holds none =
    let b : Journal = e ∷ es in
    let one = length-again b y (h.0, each-front IsBehind (e ∷ []) es (y ∷ ys) h.1) holds in
    let rest = length-along (more b y) ys none in
    (λ i. length (segment (sym (append_assoc b (y ∷ []) ys) i))) ∙ omega (arith, one, rest)

-- LAW: those from the last Again on
pub in-last-segment : (j : Journal) (a i : ℕ) (d : Entry) → AreEntries j → i < length j → a ≡ length j - 1 - i → is_again (get_or j a d) ≡ true → NoAgainFrom (length j - i) j
    → i + 1 ≡ length (segment j)
in-last-segment j a i d h lt place holds none =
    let within : a < length j = omega (arith, lt, place) in
    let parts = parts-at j a d within in
    let next : length j - i ≡ suc a = omega (arith, lt, place) in
    let later : list_any is_again (drop (suc a) j) ≡ false = (λ k. list_any is_again (drop (sym next k) j)) ∙ none in
    let whole = from-again (take a j) (get_or j a d) (drop (suc a) j) (subst AreEntries (sym parts) h) holds later in
    let same : length (segment (take a j ++ (get_or j a d ∷ drop (suc a) j))) ≡ length (segment j) = (λ k. length (segment (parts k))) in
    let left : length (drop (suc a) j) ≡ i = (let n = length-drop (suc a) j in omega (arith, n, lt, place)) in
    omega (arith, whole, same, left)

pub none-at-end : (j : Journal) → NoAgainFrom (length j) j
none-at-end [] = refl
none-at-end (x ∷ j) = none-at-end j

pub none-before : (j : Journal) (a b : ℕ) (d : Entry) → a < length j → b ≡ suc a → is_again (get_or j a d) ≡ false → NoAgainFrom b j → NoAgainFrom a j
none-before j a b d lt e fails rest =
    ap (list_any is_again) (drop-cons j a d lt) ∙ (λ i. fails i || list_any is_again (drop (sym e i) j)) ∙ rest

-- none at all, where none stands from the first place on
pub none-from-first : (j : Journal) (a : ℕ) → a ≡ 0 → NoAgainFrom a j → list_any is_again j ≡ false
none-from-first j a e h = (λ i. list_any is_again (drop (sym e i) j)) ∙ h
