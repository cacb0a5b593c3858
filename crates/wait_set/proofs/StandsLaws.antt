-- The waits, entry by entry, stand for the journal.
use Rattle.std.proofs.Common.{◌≡◌, ℕ, suc, ◌+◌, ◌-◌, ◌*◌, ◌≤◌, List, [], ◌∷◌, ◌++◌, length, map, filter, Bool, true, false, cond, refl, sym, ◌∙◌, arith, Option}
use Rattle.std.specs.Prelude.{Some, None, not, nat_eq, nat_le, is_some, find, option_map, pos, ◌||◌, if◌then◌else◌}
use Rattle.std.specs.Option.{option_map_or}
use Rattle.ha_value.specs.declared.value.Num.{Num}
use Rattle.ha_value.specs.declared.value.Value.{Value}
use Rattle.ha_journal.specs.declared.entry.Entry.{Entry}
use Rattle.ha_sight.specs.declared.waiting.WaitAsk.{WaitAsk}
use Rattle.ha_sight.specs.declared.waiting.WaitEnd.{WaitEnd}
use Rattle.ha_journal.specs.declared.firing.Firing.{Firing}
use Rattle.ha_config.specs.Words.{first_of_list, numbers_from, or_else}
use Rattle.ha_journal.specs.Journal.{Journal, HasEntry, more}
use Rattle.ha_sight.specs.Sight.{Sight}
use Rattle.ha_sight.specs.Templates.{rendered, says}
use Rattle.ha_journal.specs.Moves.{sight}
use Rattle.ha_sight.specs.Scripts.{Ask}
use Rattle.ha_journal.specs.Waits.{all_fired, completes, is_over, end_at, wait_end}
use Rattle.ha_journal.proofs.MoreLemmas.{length-more}
use Rattle.wait_set.specs.declared.asked.Asked.{Asked}
use Rattle.wait_set.specs.Asked.{is_of, added, without_run, fired_values, is_done, is_late, end_with, end_now, noted_one, noted, is_bare}
use Rattle.wait_set.specs.Stands.{IsAsk, StandsOne, StandsFor, AreFired, IsNext}
use Rattle.ha_past.proofs.PastLemmas.{sight-more}
use Rattle.wait_set.proofs.WaitLaws.{wait-more, has-length}

-- ---- one wait

fused-test : (f : ℕ → Bool) (n : ℕ) (t : Option ℕ) → option_map_or f (option_map (λ d. n + d) t) false ≡ option_map_or (λ d. f (n + d)) t false
fused-test f n None = refl
fused-test f n (Some d) = refl

fused : (f : ℕ → Num) (n : ℕ) (t : Option ℕ) → option_map f (option_map (λ d. n + d) t) ≡ option_map (λ d. f (n + d)) t
fused f n None = refl
fused f n (Some d) = refl

module _ (k : Journal) (n p : ℕ) (ask : Ask) (given : WaitAsk) (is : IsAsk k p given ask) (values : List Value) (fired : values ≡ all_fired k ask p n) where
  late : is_late (sight k (suc n)) given ≡ is_over k ask p n
  late = (λ i. option_map_or (λ due. nat_le due (sight k (suc n)).now) (is.due i) false) ∙ fused-test (λ due. nat_le due (sight k (suc n)).now) (sight k (suc p)).now ask.timeout

  done : is_done (sight k (suc n)) values given ≡ completes k ask p n
  done = (λ i. option_map_or (λ t. says (rendered (sight k (suc n)) t (is.env i))) (is.test i) false || is_some (first_of_list (fired i)))

  remaining : option_map (λ due. Num.Fixed (pos (1000 * (due - (sight k (suc n)).now)))) given.due ≡ option_map (λ d. Num.Fixed (pos (1000 * ((sight k (suc p)).now + d - (sight k (suc n)).now)))) ask.timeout
  remaining = (λ i. option_map (λ due. Num.Fixed (pos (1000 * (due - (sight k (suc n)).now)))) (is.due i)) ∙ fused (λ due. Num.Fixed (pos (1000 * (due - (sight k (suc n)).now)))) (sight k (suc p)).now ask.timeout

  end-is : end_with n (sight k (suc n)) values given ≡ end_at k ask p n
  end-is = (λ i. record { place = n; done = done i; remaining = remaining i; trigger = first_of_list (fired i) })

  end-here : end_now n (sight k (suc n)) values given ≡ (if completes k ask p n || is_over k ask p n then Some (end_at k ask p n) else None)
  end-here = (λ i. if done i || late i then Some (end-is i) else None)

not-begun : (j : Journal) → HasEntry j → (ask : Ask) → wait_end j ask (length j) ≡ None
not-begun j h ask =
    let none : suc (length j - 1) - length j ≡ 0 = omega (arith, has-length j h) in
    (λ i. option_map (end_at j ask (length j)) (find (λ q. completes j ask (length j) q || is_over j ask (length j) q) (map (λ k. length j + k) (numbers_from 0 (none i)))))

or-same : (e a b : Option WaitEnd) → (e ≡ None → a ≡ b) → or_else e a ≡ or_else e b
or-same None a b h = h refl
or-same (Some x) a b h = refl

-- a wait that is pending behind an entry has a template that is not true there
unmet-noted : (place : ℕ) (seen : Sight) (values : List Value) (given : WaitAsk) (e : Option WaitEnd) → or_else e (end_now place seen values given) ≡ None
    → option_map_or (λ t. says (rendered seen t given.env)) given.test false ≡ false
unmet-noted place seen values given (Some w) none = absurd (let bad : ◌≡◌ {A = Option WaitEnd} (Some w) None = none in cc)
unmet-noted place seen values given None none =
    by (option_map_or (λ t. says (rendered seen t given.env)) given.test false) (is_some (first_of_list values)) (is_late seen given) none
  where
    by : (met told late : Bool) → (if (met || told) || late then Some (end_with place seen values given) else None) ≡ None → met ≡ false
    by true told late h = absurd (let bad : ◌≡◌ {A = Option WaitEnd} (Some (end_with place seen values given)) None = h in cc)
    by false told late h = refl

noted-stands-one : (j : Journal) (x : Entry) → HasEntry j → (place : ℕ) → place ≡ length j → (seen : Sight) → seen ≡ sight (more j x) (suc place) → (fired : List Firing) (a : Asked)
    → (a.end ≡ None → (ask : Ask) → a.ask.triggers ≡ ask.triggers → fired_values a.owner fired ≡ all_fired (more j x) ask a.place place) → StandsOne j a → StandsOne (more j x) (noted_one place seen fired a)
noted-stands-one j x h place at seen sees fired a fires stands = record {
  begun = omega (arith, length-more j x, stands.begun);
  fresh = λ e. absurd (omega (arith, e, length-more j x, stands.begun));
  end = λ full ask is. ends full ask is;
  unmet = λ begun none. (λ i. option_map_or (λ t. says (rendered (seen-is i) t a.ask.env)) a.ask.test false) ∙ unmet-noted place seen (fired_values a.owner fired) a.ask a.end none;
}
  where
    seen-is : sight (more j x) (length (more j x)) ≡ seen
    seen-is = (let long : length (more j x) ≡ suc place = omega (arith, at, length-more j x) in λ i. sight (more j x) (long i)) ∙ sym sees

    before : is_bare a.ask ≡ false → (ask : Ask) → IsAsk (more j x) a.place a.ask ask → a.end ≡ wait_end j ask a.place
    before full ask is = by (nat_le (suc a.place) (length j)) refl
      where
        by : (b : Bool) → nat_le (suc a.place) (length j) ≡ b → a.end ≡ wait_end j ask a.place
        by true e =
            let lt : suc a.place ≤ length j = grind (arith, e) in
            stands.end full ask (record { test = is.test; triggers = is.triggers; env = is.env; due = is.due ∙ (λ i. option_map (λ d. (sight-more j x h (suc a.place) lt i).now + d) ask.timeout) })
        by false e =
            let same : a.place ≡ length j = grind (arith, e, stands.begun) in
            stands.fresh same ∙ sym (not-begun j h ask) ∙ (λ i. wait_end j ask (sym same i))

    ends : is_bare a.ask ≡ false → (ask : Ask) → IsAsk (more j x) a.place a.ask ask → or_else a.end (end_now place seen (fired_values a.owner fired) a.ask) ≡ wait_end (more j x) ask a.place
    ends full ask is =
        or-same a.end (end_now place seen (fired_values a.owner fired) a.ask)
        (if completes (more j x) ask a.place (length j) || is_over (more j x) ask a.place (length j) then Some (end_at (more j x) ask a.place (length j)) else None)
        (λ none. (λ i. end_now place (sees i) (fired_values a.owner fired) a.ask) ∙ end-here (more j x) place a.place ask a.ask is (fired_values a.owner fired) (fires none ask is.triggers)
        ∙ (λ i. if completes (more j x) ask a.place (at i) || is_over (more j x) ask a.place (at i) then Some (end_at (more j x) ask a.place (at i)) else None))
        ∙ (λ i. or_else (before full ask is i) (if completes (more j x) ask a.place (length j) || is_over (more j x) ask a.place (length j) then Some (end_at (more j x) ask a.place (length j)) else None))
        ∙ sym (wait-more j x h ask a.place stands.begun)

-- ---- all of them

-- LAW: what is noted stands for the journal with the entry
pub noted-stands : (j : Journal) (x : Entry) (place : ℕ) (seen : Sight) (fired : List Firing) (asks : List Asked) → StandsFor asks j → IsNext j place x seen fired asks → StandsFor (noted place seen fired asks) (more j x)
noted-stands j x place seen fired asks stands next = go asks stands next.fires
  where
    go : (asks : List Asked) → StandsFor asks j → AreFired (more j x) place fired asks → StandsFor (noted place seen fired asks) (more j x)
    go [] s f = tt
    go (a ∷ asks) s f = (noted-stands-one j x next.some place next.at seen next.sees fired a f.0 s.0, go asks s.1 f.1)

kept-stands : (test : Asked → Bool) (j : Journal) (asks : List Asked) → StandsFor asks j → StandsFor (filter test asks) j
kept-stands test j [] s = tt
kept-stands test j (a ∷ asks) s = by (test a) (kept-stands test j asks s.1)
  where
    by : (b : Bool) → StandsFor (filter test asks) j → StandsFor (cond b (a ∷ filter test asks) (filter test asks)) j
    by true r = (s.0, r)
    by false r = r

snoc-stands : (j : Journal) (asks : List Asked) (a : Asked) → StandsFor asks j → StandsOne j a → StandsFor (asks ++ (a ∷ [])) j
snoc-stands j [] a s one = (one, tt)
snoc-stands j (b ∷ asks) a s one = (s.0, snoc-stands j asks a s.1 one)

-- LAW: a wait that begins at the next place stands for the journal
pub added-stands : (j : Journal) (asks : List Asked) (a : Asked) → HasEntry j → a.place ≡ length j → a.end ≡ None → StandsFor asks j → StandsFor (added a asks) j
added-stands j asks a h at none s =
    snoc-stands j (filter (λ b. not (is_of a.ask.serial a.ask.branch b)) asks) a (kept-stands (λ b. not (is_of a.ask.serial a.ask.branch b)) j asks s)
    (record {
      begun = omega (arith, at);
      fresh = λ e. none;
      end = λ full ask is. none ∙ sym (not-begun j h ask) ∙ (λ i. wait_end j ask (sym at i));
      unmet = λ before pending. absurd (omega (arith, at, before));
    })

-- LAW: without the waits of a run the others stand
pub dropped-stands : (j : Journal) (serial : ℕ) (asks : List Asked) → StandsFor asks j → StandsFor (without_run serial asks) j
dropped-stands j serial asks s = kept-stands (λ a. not (nat_eq a.ask.serial serial)) j asks s
