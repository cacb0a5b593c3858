-- A call that waits: what naming its end changes.
use Rattle.std.proofs.Common.{◌≡◌, ℕ, zero, suc, ◌<◌, ◌≤◌, List, [], ◌∷◌, ◌++◌, length, take, drop, get_or, set, Bool, true, false, refl, sym, ap, subst, ◌∙◌, arith, Option}
use Rattle.std.specs.Prelude.{Some, None, option_map, ◌&&◌, if◌then◌else◌}
use Rattle.ha_journal.specs.Journal.{Journal}
use Rattle.ha_sight.specs.declared.waiting.WaitEnd.{WaitEnd}
use Rattle.ha_config.specs.Words.{same}
use Rattle.ha_sight.specs.Scripts.{Branch}
use Rattle.wait_set.specs.declared.asked.Asked.{Asked}
use Rattle.wait_set.specs.Asked.{finished, is_bare, is_of, named_end, wait_of, with_end}
use Rattle.wait_set.specs.Runs.{HasNone}
use Rattle.wait_set.specs.Stands.{StandsFor}

none-some : (x : Asked) → None ≡ Some x → ⊥
none-some x e = (let bad : ◌≡◌ {A = Option Asked} None (Some x) = e in cc)

same-wait : (x y : Asked) → Some x ≡ Some y → x ≡ y
same-wait x y e = ap of e
  where
    of : Option Asked → Asked
    of None = x
    of (Some z) = z

-- LEMMA: a bare wait whose end is named stands as before
pub finished-stands : (j : Journal) (s : ℕ) (b : Branch) (p : ℕ) (asks : List Asked) (a : Asked) → wait_of s b asks ≡ Some a → is_bare a.ask ≡ true → a.place < length j → StandsFor asks j → StandsFor (finished s b p asks) j
finished-stands j s b p [] a found bare lt stands = absurd (none-some a found)
finished-stands j s b p (z ∷ zs) a found bare lt stands = by (is_of s b z) found (finished-stands j s b p zs a)
  where
    by : (t : Bool) → (if t then Some z else wait_of s b zs) ≡ Some a
        → (wait_of s b zs ≡ Some a → is_bare a.ask ≡ true → a.place < length j → StandsFor zs j → StandsFor (finished s b p zs) j)
        → StandsFor (if t then with_end p z ∷ zs else z ∷ finished s b p zs) j
    by true e rest =
        let same : z ≡ a = same-wait z a e in (
          record {
            begun = stands.0.begun;
            fresh = λ at. absurd (let early : z.place < length j = subst (λ (w : Asked). w.place < length j) (sym same) lt in omega (arith, early, at));
            end = λ full. absurd (let never : ◌≡◌ {A = Bool} true false = sym (ap (λ (w : Asked). is_bare w.ask) same ∙ bare) ∙ full in cc);
            unmet = λ begun none. absurd (let bad : ◌≡◌ {A = Option WaitEnd} (Some (named_end p)) None = none in cc);
          },
          stands.1,
        )
    by false e rest = (stands.0, rest e bare lt stands.1)

-- LAW: the wait of that run and branch is as it was, but for its end
pub finished-wait : (s : ℕ) (b : Branch) (p : ℕ) (asks : List Asked) → wait_of s b (finished s b p asks) ≡ option_map (with_end p) (wait_of s b asks)
finished-wait s b p [] = refl
finished-wait s b p (z ∷ zs) = by (is_of s b z) refl (finished-wait s b p zs)
  where
    by : (t : Bool) → is_of s b z ≡ t → wait_of s b (finished s b p zs) ≡ option_map (with_end p) (wait_of s b zs)
        → wait_of s b (if t then with_end p z ∷ zs else z ∷ finished s b p zs) ≡ option_map (with_end p) (if t then Some z else wait_of s b zs)
    by true e rest = (λ k. if e k then Some (with_end p z) else wait_of s b zs)
    by false e rest = (λ k. if e k then Some z else wait_of s b (finished s b p zs)) ∙ rest

-- ---- found by its place

-- LEMMA: those of other runs are passed
pub finished-skip : (s : ℕ) (b : Branch) (p : ℕ) (asks : List Asked) (from to : ℕ) → from ≤ to → HasNone asks s from to
    → take from asks ++ finished s b p (drop from asks) ≡ take to asks ++ finished s b p (drop to asks)
finished-skip s b p [] zero zero le none = refl
finished-skip s b p [] zero (suc to) le none = refl
finished-skip s b p [] (suc from) zero le none = refl
finished-skip s b p [] (suc from) (suc to) le none = refl
finished-skip s b p (z ∷ zs) zero zero le none = refl
finished-skip s b p (z ∷ zs) zero (suc to) le none =
    (λ k. if none zero z (omega arith) (omega arith) (omega arith) k && same z.ask.branch b then with_end p z ∷ zs else z ∷ finished s b p zs)
    ∙ ap (λ l. z ∷ l) (finished-skip s b p zs zero to (omega arith) (λ n d low high lt. none (suc n) d (omega arith) (omega (arith, high)) (omega (arith, lt))))
finished-skip s b p (z ∷ zs) (suc from) zero le none = absurd (omega (arith, le))
finished-skip s b p (z ∷ zs) (suc from) (suc to) le none =
    ap (λ l. z ∷ l) (finished-skip s b p zs from to (omega (arith, le)) (λ n d low high lt. none (suc n) d (omega (arith, low)) (omega (arith, high)) (omega (arith, lt))))

-- LEMMA: it is changed where it stands
pub finished-here : (s : ℕ) (b : Branch) (p : ℕ) (asks : List Asked) (at : ℕ) (x : Asked) → at < length asks → x ≡ get_or asks at x → is_of s b x ≡ true
    → take at asks ++ finished s b p (drop at asks) ≡ set asks at (with_end p x)
finished-here s b p [] at x lt is found = absurd (omega (arith, lt))
finished-here s b p (z ∷ zs) zero x lt is found =
    (λ k. if (sym (λ m. is_of s b (is m)) ∙ found) k then with_end p z ∷ zs else z ∷ finished s b p zs) ∙ (λ k. with_end p (sym is k) ∷ zs)
finished-here s b p (z ∷ zs) (suc at) x lt is found = ap (λ l. z ∷ l) (finished-here s b p zs at x (omega (arith, lt)) is found)

-- LEMMA: another one of the run is passed
pub finished-other : (s : ℕ) (b : Branch) (p : ℕ) (asks : List Asked) (at : ℕ) (x : Asked) → at < length asks → x ≡ get_or asks at x → is_of s b x ≡ false
    → take at asks ++ finished s b p (drop at asks) ≡ take (suc at) asks ++ finished s b p (drop (suc at) asks)
finished-other s b p [] at x lt is other = absurd (omega (arith, lt))
finished-other s b p (z ∷ zs) zero x lt is other = (λ k. if (sym (λ m. is_of s b (is m)) ∙ other) k then with_end p z ∷ zs else z ∷ finished s b p zs)
finished-other s b p (z ∷ zs) (suc at) x lt is other = ap (λ l. z ∷ l) (finished-other s b p zs at x (omega (arith, lt)) is other)

-- LEMMA: none is changed where all are passed
pub finished-end : (s : ℕ) (b : Branch) (p : ℕ) (asks : List Asked) (at : ℕ) → length asks ≤ at → take at asks ++ finished s b p (drop at asks) ≡ asks
finished-end s b p [] zero le = refl
finished-end s b p [] (suc at) le = refl
finished-end s b p (z ∷ zs) zero le = absurd (omega (arith, le))
finished-end s b p (z ∷ zs) (suc at) le = ap (λ l. z ∷ l) (finished-end s b p zs at (omega (arith, le)))

-- LEMMA: the one at a place is one
pub same-at : (asks : List Asked) (at : ℕ) (x y : Asked) → at < length asks → x ≡ get_or asks at x → y ≡ get_or asks at y → x ≡ y
same-at [] at x y lt hx hy = absurd (omega (arith, lt))
same-at (z ∷ zs) zero x y lt hx hy = hx ∙ sym hy
same-at (z ∷ zs) (suc at) x y lt hx hy = same-at zs at x y (omega (arith, lt)) hx hy
