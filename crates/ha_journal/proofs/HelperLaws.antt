-- Helpers with one more entry: their last changes, texts and states, and the timers that finish.
use Rattle.std.proofs.Common.{◌≡◌, ℕ, zero, suc, ◌+◌, ◌<◌, List, [], ◌∷◌, ◌++◌, length, take, Bool, true, false, refl, sym, ap, subst, ◌∙◌, arith, append-nil}
use Rattle.std.specs.Prelude.{Option, Some, None, is_none, filter_map, find, map, nat_le, option_map, option_and_then, codes, ◌&&◌, ◌||◌, if◌then◌else◌}
use Rattle.std.specs.List.{list_any, cons_option}
use Rattle.std.specs.Option.{option_map_or}
use Rattle.std.proofs.lemmas.List.Elements.{filter_map-append}
use Rattle.ha_value.specs.declared.value.EntityId.{EntityId}
use Rattle.ha_config.specs.declared.helper.Helper.{Helper}
use Rattle.ha_sight.specs.declared.helped.HelperChange.{HelperChange}
use Rattle.ha_journal.specs.declared.entry.Entry.{Entry}
use Rattle.ha_sight.specs.declared.state.StateObject.{StateObject}
use Rattle.ha_config.specs.Words.{Text, same, same_entity, longest_end, last_of, numbers_from, up_to}
use Rattle.ha_journal.specs.Entries.{change_of, changes_in, is_moment}
use Rattle.ha_journal.specs.Journal.{Journal, HasEntry, now, stamped, more}
use Rattle.ha_sight.specs.Known.{Changed, due_of}
use Rattle.ha_journal.specs.Helpers.{changed_at, last_change, comes, came, unless_came, due_in, text_by, text_of, finishes, known}
use Rattle.ha_config.specs.Helpers.{first_text}
pub use Rattle.ha_journal.specs.HelperSteps.{changed_with, text_with, due_with, IsBare}
use Rattle.ha_journal.specs.States.{Seen, object_of, texts_of, of_helper}
use Rattle.ha_sight.specs.StateStep.{next_object}
use Rattle.ha_config.specs.Equal.{same_pairs}
use Rattle.ha_config.proofs.EqualLemmas.{same-refl, same_pairs-refl}
use Rattle.ha_journal.proofs.MoreLemmas.{helpers-more, length-more, through-last}
use Rattle.ha_journal.proofs.SinceLaws.{take-more}
use Rattle.ha_journal.proofs.StateLemmas.{stamped-snoc, longest_end-keeps, longest_end-ends, object_of-snoc}

-- ---- lists

any-snoc : {X : Type 0} (p : X → Bool) (xs : List X) (x : X) → list_any p (xs ++ (x ∷ [])) ≡ (list_any p xs || p x)
any-snoc p [] x = by (p x)
  where
    by : (b : Bool) → (b || false) ≡ b
    by true = refl
    by false = refl
any-snoc p (y ∷ ys) x = (λ i. p y || any-snoc p ys x i) ∙ by (p y) (list_any p ys) (p x)
  where
    by : (a b c : Bool) → (a || (b || c)) ≡ ((a || b) || c)
    by true b c = refl
    by false b c = refl

last-some : {X : Type 0} (xs : List X) (x : X) → last_of (xs ++ (x ∷ [])) ≡ Some x
last-some [] x = refl
last-some (y ∷ []) x = refl
last-some (y ∷ z ∷ xs) x = last-some (z ∷ xs) x

map-alike : {X : Type 0} (f g : ℕ → X) (low n : ℕ) → ((i : ℕ) → i < low + n → f i ≡ g i) → map f (numbers_from low n) ≡ map g (numbers_from low n)
map-alike f g low zero h = refl
map-alike f g low (suc n) h =
    (λ i. h low (omega arith) i ∷ map f (numbers_from (low + 1) n))
    ∙ (λ i. g low ∷ map-alike f g (low + 1) n (λ k lt. h k (omega (arith, lt))) i)

numbers-snoc : {X : Type 0} (f : ℕ → X) (low n : ℕ) → map f (numbers_from low (suc n)) ≡ map f (numbers_from low n) ++ (f (low + n) ∷ [])
numbers-snoc f low zero = (let e : low ≡ low + 0 = omega arith in λ i. f (e i) ∷ [])
numbers-snoc f low (suc n) =
    let e : low + 1 + n ≡ low + suc n = omega arith in
    (λ i. f low ∷ numbers-snoc f (low + 1) n i) ∙ (λ i. f low ∷ (map f (numbers_from (low + 1) n) ++ (f (e i) ∷ [])))

-- ---- changes

abbrev stamp : Journal → Entry → ℕ × Entry
stamp j x = (now (more j x), x)

-- LAW: the last change of e with one more entry
pub last-change-more : (j : Journal) (x : Entry) (e : EntityId) → last_change (more j x) e ≡ changed_with (change_of e x) (now (more j x)) (last_change j e)
last-change-more j x e =
    ap (λ l. last_of (filter_map (changed_at e) l)) (stamped-snoc j x)
    ∙ ap last_of (filter_map-append (changed_at e) (stamped j) (stamp j x ∷ []))
    ∙ by (change_of e x)
  where
    before : List Changed
    before = filter_map (changed_at e) (stamped j)

    by : (o : Option HelperChange) → last_of (before ++ cons_option (option_map (λ c. record { change = c; at = now (more j x) }) o) []) ≡ changed_with o (now (more j x)) (last_of before)
    by None = ap last_of (append-nil before)
    by (Some c) = last-some before (record { change = c; at = now (more j x) })

abbrev unchanged : EntityId → ℕ × Entry → Bool
unchanged e s = is_none (change_of e s.1)

came-kept : (j : Journal) (x : Entry) (e : EntityId) (due : ℕ) → change_of e x ≡ None → came (more j x) e due ≡ (came j e due || comes due (stamp j x))
came-kept j x e due none =
    ap (λ l. list_any (comes due) (longest_end (unchanged e) l)) (stamped-snoc j x)
    ∙ ap (list_any (comes due)) (longest_end-keeps (unchanged e) (stamped j) (stamp j x) (ap is_none none))
    ∙ any-snoc (comes due) (longest_end (unchanged e) (stamped j)) (stamp j x)

came-anew : (j : Journal) (x : Entry) (e : EntityId) (due : ℕ) (c : HelperChange) → change_of e x ≡ Some c → came (more j x) e due ≡ false
came-anew j x e due c some =
    ap (λ l. list_any (comes due) (longest_end (unchanged e) l)) (stamped-snoc j x)
    ∙ ap (list_any (comes due)) (longest_end-ends (unchanged e) (stamped j) (stamp j x) (ap is_none some))

-- ---- texts

idle_if : Bool → Text → Text
idle_if b text = if b then codes "idle" else text

abbrev due_comes : ℕ × Entry → Option ℕ → Bool
due_comes s o = option_map_or (λ due. comes due s) o false

module _ (j : Journal) (x : Entry) (h : Helper) where
  abbrev e : EntityId
  e = h.entity

  anew : (c : HelperChange) → change_of e x ≡ Some c → text_of (more j x) h ≡ c.text
  anew c some =
      ap (λ o. option_map_or (text_by (more j x) e) o (first_text h.kind))
      (last-change-more j x e ∙ ap (λ o. changed_with o (now (more j x)) (last_change j e)) some)
      ∙ by (due_of (record { change = c; at = now (more j x) }))
    where
      by : (o : Option ℕ) → (if option_map_or (came (more j x) e) o false then codes "idle" else c.text) ≡ c.text
      by None = refl
      by (Some due) = (λ i. if came-anew j x e due c some i then codes "idle" else c.text)

  kept : change_of e x ≡ None → text_of (more j x) h ≡ (if finishes j x h then codes "idle" else text_of j h)
  kept none =
      ap (λ o. option_map_or (text_by (more j x) e) o (first_text h.kind))
      (last-change-more j x e ∙ ap (λ o. changed_with o (now (more j x)) (last_change j e)) none)
      ∙ by (last_change j e)
    where
      by_came : (text : Text) (due : ℕ) (b : Bool)
          → (if b || comes due (stamp j x) then codes "idle" else text)
          ≡ (if due_comes (stamp j x) (if b then None else Some due) then codes "idle" else (if b then codes "idle" else text))
      by_came text due true = refl
      by_came text due false = refl

      by_due : (text : Text) (o : Option ℕ)
          → (if option_map_or (came (more j x) e) o false then codes "idle" else text)
          ≡ (if due_comes (stamp j x) (option_and_then (unless_came j e) o) then codes "idle" else (if option_map_or (came j e) o false then codes "idle" else text))
      by_due text None = refl
      by_due text (Some due) = (λ i. if came-kept j x e due none i then codes "idle" else text) ∙ by_came text due (came j e due)

      by : (o : Option Changed)
          → option_map_or (text_by (more j x) e) o (first_text h.kind)
          ≡ (if due_comes (stamp j x) (option_and_then (unless_came j e) (option_and_then due_of o)) then codes "idle" else option_map_or (text_by j e) o (first_text h.kind))
      by None = refl
      by (Some c) = by_due c.change.text (due_of c)

  -- LAW: the text of a helper with one more entry: that of its change; of a timer that finishes, idle; else the text before
  pub text-more : text_of (more j x) h ≡ text_with (change_of h.entity x) (if finishes j x h then codes "idle" else text_of j h)
  text-more = by (change_of e x) refl
    where
      by : (o : Option HelperChange) → change_of e x ≡ o → text_of (more j x) h ≡ text_with o (if finishes j x h then codes "idle" else text_of j h)
      by None none = kept none
      by (Some c) some = anew c some

  -- ---- states

  abbrev seen_at : Journal → ℕ → Seen
  seen_at k n = record { text = text_of (take (suc n) k) h; attributes = []; at = now (take (suc n) k) }

  texts-more : texts_of (more j x) h ≡ texts_of j h ++ (record { text = text_of (more j x) h; attributes = []; at = now (more j x) } ∷ [])
  texts-more =
      (λ i. map (seen_at (more j x)) (up_to (length-more j x i)))
      ∙ numbers-snoc (seen_at (more j x)) 0 (length j)
      ∙ (λ i. map-alike (seen_at (more j x)) (seen_at j) 0 (length j) early i ++ (last_seen i ∷ []))
    where
      early : (n : ℕ) → n < 0 + length j → seen_at (more j x) n ≡ seen_at j n
      early n lt = (let t = take-more j x (suc n) (omega (arith, lt)) in λ i. record { text = text_of (t i) h; attributes = []; at = now (t i) })

      last_seen : seen_at (more j x) (0 + length j) ≡ record { text = text_of (more j x) h; attributes = []; at = now (more j x) }
      last_seen =
          (let z : 0 + length j ≡ length j = omega arith in λ i. seen_at (more j x) (z i))
          ∙ (let t = through-last j x in λ i. record { text = text_of (t i) h; attributes = []; at = now (t i) })

  -- LAW: the state of a helper with one more entry is what a report of its text would make of it
  pub helper-more : of_helper (more j x) h ≡ Some (next_object (of_helper j h) (text_of (more j x) h) [] (now (more j x)))
  helper-more = ap object_of texts-more ∙ object_of-snoc (texts_of j h) (record { text = text_of (more j x) h; attributes = []; at = now (more j x) })

-- ---- dues

-- LAW: the due of an active timer with one more entry
pub due-more : (j : Journal) (x : Entry) (e : EntityId) → due_in (more j x) e ≡ due_with j x e (change_of e x)
due-more j x e = by (change_of e x) refl
  where
    anew_due : (c : HelperChange) → change_of e x ≡ Some c → (o : Option ℕ) → option_and_then (unless_came (more j x) e) o ≡ o
    anew_due c some None = refl
    anew_due c some (Some due) = (λ i. if came-anew j x e due c some i then None else Some due)

    by_came : (due : ℕ) (b : Bool) → (if b || comes due (stamp j x) then None else Some due) ≡ option_and_then (λ d. if comes d (stamp j x) then None else Some d) (if b then None else Some due)
    by_came due true = refl
    by_came due false = refl

    kept_due : change_of e x ≡ None → (o : Option ℕ) → option_and_then (unless_came (more j x) e) o ≡ option_and_then (λ d. if comes d (stamp j x) then None else Some d) (option_and_then (unless_came j e) o)
    kept_due none None = refl
    kept_due none (Some due) = (λ i. if came-kept j x e due none i then None else Some due) ∙ by_came due (came j e due)

    by : (o : Option HelperChange) → change_of e x ≡ o → due_in (more j x) e ≡ due_with j x e o
    by None none =
        ap (λ l. option_and_then (unless_came (more j x) e) (option_and_then due_of l)) (last-change-more j x e ∙ ap (λ o. changed_with o (now (more j x)) (last_change j e)) none)
        ∙ kept_due none (option_and_then due_of (last_change j e))
    by (Some c) some =
        ap (λ l. option_and_then (unless_came (more j x) e) (option_and_then due_of l)) (last-change-more j x e ∙ ap (λ o. changed_with o (now (more j x)) (last_change j e)) some)
        ∙ anew_due c some (due_of (record { change = c; at = now (more j x) }))

-- ---- what stays

split : {X : Type 0} (x : X) (xs : List X) → (init : List X) × (end : X) × (x ∷ xs ≡ init ++ (end ∷ []))
split x [] = ([], x, refl)
split x (y ∷ ys) = (let r = split y ys in (x ∷ r.0, r.1, ap (λ l. x ∷ l) r.2))

next-bare : (o : Option StateObject) (text : Text) (at : ℕ) → IsBare (Some (next_object o text [] at)) text
next-bare None text at = record { object = next_object None text [] at; is = refl; text_is = refl; attributes_are = refl }
next-bare (Some s) text at = record { object = next_object (Some s) text [] at; is = refl; text_is = refl; attributes_are = refl }

-- LAW: a helper has a state, with its text and no attributes
pub helper-seen : (j : Journal) (h : Helper) → HasEntry j → IsBare (of_helper j h) (text_of j h)
helper-seen [] h none = absurd none
helper-seen (y ∷ ys) h there =
    let r = split y ys in
    subst (λ (k : Journal). IsBare (of_helper k h) (text_of k h)) (sym r.2)
    (let e = helper-more r.0 r.1 h in subst (λ o. IsBare o (text_of (more r.0 r.1) h)) (sym e) (next-bare (of_helper r.0 h) (text_of (more r.0 r.1) h) (now (more r.0 r.1))))

both : (a b : Bool) → a ≡ true → b ≡ true → (a && b) ≡ true
both true b p q = q
both false b p q = p

-- what is given again stays
same-next : (o : Option StateObject) (text : Text) (at : ℕ) → IsBare o text → Some (next_object o text [] at) ≡ o
same-next o text at bare =
    ap (λ q. Some (next_object q text [] at)) bare.is ∙ same_object bare.object text at bare.text_is bare.attributes_are ∙ sym bare.is
  where
    same_object : (s : StateObject) (t : Text) (n : ℕ) → s.text ≡ t → s.attributes ≡ [] → Some (next_object (Some s) t [] n) ≡ Some s
    same_object s t n text_is none =
        let one : same s.text t ≡ true = ap (same s.text) (sym text_is) ∙ same-refl s.text in
        let two : same_pairs s.attributes [] ≡ true = ap (same_pairs s.attributes) (sym none) ∙ same_pairs-refl s.attributes in
        (λ i. Some (record {
          text = sym text_is i;
          attributes = sym none i;
          changed = if one i then s.changed else n;
          updated = if both (same s.text t) (same_pairs s.attributes []) one two i then s.updated else n;
        }))

-- LAW: a helper that is given no new text has the state from before
pub helper-left : (j : Journal) (x : Entry) (h : Helper) → HasEntry j → text_of (more j x) h ≡ text_of j h → of_helper (more j x) h ≡ of_helper j h
helper-left j x h there still =
    helper-more j x h ∙ (λ i. Some (next_object (of_helper j h) (still i) [] (now (more j x)))) ∙ same-next (of_helper j h) (text_of j h) (now (more j x)) (helper-seen j h there)

-- ---- entries that concern no helper

-- no moment, and no change of helpers
pub record LeavesHelpers (x : Entry) : Type 0 where
  pub changes : changes_in x ≡ []
  pub moment : is_moment x ≡ false

pub no-change : (x : Entry) (e : EntityId) → changes_in x ≡ [] → change_of e x ≡ None
no-change x e none = ap (find (λ c. same_entity c.entity e)) none

not-comes : (x : Entry) (at due : ℕ) → is_moment x ≡ false → comes due (at, x) ≡ false
not-comes x at due other = (λ i. other i && nat_le due at)

pub finishes-not : (j : Journal) (x : Entry) (h : Helper) → is_moment x ≡ false → finishes j x h ≡ false
finishes-not j x h other = by (due_in j h.entity)
  where
    by : (o : Option ℕ) → option_map_or (λ due. comes due (now (more j x), x)) o false ≡ false
    by None = refl
    by (Some due) = not-comes x (now (more j x)) due other

-- LAW: what a place sees of helpers stays where an entry changes none
pub known-left : (j : Journal) (x : Entry) → HasEntry j → changes_in x ≡ [] → known (more j x) ≡ known j
known-left j x some none = (λ i. map (λ (h : Helper). record { helper = h; last = last-same h.entity i }) (sym (helpers-more j x some) i))
  where
    last-same : (e : EntityId) → last_change (more j x) e ≡ last_change j e
    last-same e = last-change-more j x e ∙ (λ i. changed_with (no-change x e none i) (now (more j x)) (last_change j e))

module _ (j : Journal) (x : Entry) (l : LeavesHelpers x) where
  -- LAW: the texts, last changes and dues of helpers stay
  pub text-left : (h : Helper) → text_of (more j x) h ≡ text_of j h
  text-left h =
      text-more j x h ∙ (λ i. text_with (no-change x h.entity l.changes i) (if finishes-not j x h l.moment i then codes "idle" else text_of j h))

  pub last-left : (e : EntityId) → last_change (more j x) e ≡ last_change j e
  last-left e = last-change-more j x e ∙ (λ i. changed_with (no-change x e l.changes i) (now (more j x)) (last_change j e))

  pub due-left : (e : EntityId) → due_in (more j x) e ≡ due_in j e
  due-left e = due-more j x e ∙ (λ i. due_with j x e (no-change x e l.changes i)) ∙ by (due_in j e)
    where
      by : (o : Option ℕ) → option_and_then (λ due. if comes due (now (more j x), x) then None else Some due) o ≡ o
      by None = refl
      by (Some due) = (λ i. if not-comes x (now (more j x)) due l.moment i then None else Some due)
