-- How the states of reported entities change with one more entry.
use Rattle.std.proofs.Common.{◌≡◌, ℕ, List, [], ◌∷◌, ◌++◌, ◌&&◌, cond, max, Bool, true, false, refl, sym, ap, subst, ◌∙◌, arith}
use Rattle.std.specs.Prelude.{Some, None, not, filter_map, option_and_then, if◌then◌else◌}
use Rattle.std.specs.List.{list_all, cons_option}
use Rattle.std.specs.Option.{option_map_or}
use Rattle.std.proofs.lemmas.List.Elements.{filter_map-append}
use Rattle.ha_value.specs.declared.value.EntityId.{EntityId}
use Rattle.ha_config.specs.declared.command.Cmd.{Cmd}
use Rattle.ha_journal.specs.declared.entry.Entry.{Entry}
use Rattle.ha_journal.specs.declared.entry.Entry.TheVariants.{Line}
use Rattle.ha_config.specs.Words.{Text, Pairs, same, same_entity, longest_end, last_of, first_of_list}
use Rattle.ha_config.specs.Equal.{same_pairs}
use Rattle.ha_journal.specs.Entries.{report_in, gone_in, is_restart}
use Rattle.ha_journal.specs.Journal.{Journal, now, stamped, stamped_from, brings}
use Rattle.ha_journal.specs.States.{Seen, reports, reported, object_of, row_began, report_of, keeps}
use Rattle.ha_sight.specs.StateStep.{next_object}
use Rattle.ha_config.proofs.EqualLemmas.{same-sound, same-refl, same_pairs-sound, same_pairs-refl, and_left, and_right}

pub now-snoc : (j : Journal) (x : Entry) → now (j ++ (x ∷ [])) ≡ max (now j) (brings x)
now-snoc [] x = omega arith
now-snoc (e ∷ j) x = omega (arith, now-snoc j x)

stamped_from-snoc : (m : ℕ) (j : Journal) (x : Entry) → stamped_from m (j ++ (x ∷ [])) ≡ stamped_from m j ++ ((max (max m (now j)) (brings x), x) ∷ [])
stamped_from-snoc m [] x = let e : max m (brings x) ≡ max (max m 0) (brings x) = omega arith in λ i. (e i, x) ∷ []
stamped_from-snoc m (e ∷ j) x =
    let same_now : max (max (max m (brings e)) (now j)) (brings x) ≡ max (max m (max (brings e) (now j))) (brings x) = omega arith in
    ap (λ l. (max m (brings e), e) ∷ l) (stamped_from-snoc (max m (brings e)) j x ∙ (λ i. stamped_from (max m (brings e)) j ++ ((same_now i, x) ∷ [])))

pub stamped-snoc : (j : Journal) (x : Entry) → stamped (j ++ (x ∷ [])) ≡ stamped j ++ ((now (j ++ (x ∷ [])), x) ∷ [])
stamped-snoc j x =
    let e : max (max 0 (now j)) (brings x) ≡ now (j ++ (x ∷ [])) = omega (arith, now-snoc j x) in
    stamped_from-snoc 0 j x ∙ (λ i. stamped j ++ ((e i, x) ∷ []))

along : {X : Type 0} (b : Bool) (u v t : List X) → cond b (u ++ t) (v ++ t) ≡ cond b u v ++ t
along true u v t = refl
along false u v t = refl

pub all-snoc : {X : Type 0} (p : X → Bool) (xs : List X) (x : X) (b : Bool) → p x ≡ b → list_all p (xs ++ (x ∷ [])) ≡ (list_all p xs && b)
all-snoc p [] x true h = rw h
all-snoc p [] x false h = rw h
all-snoc p (y ∷ ys) x b h = by (p y) (list_all p ys) (all-snoc p ys x b h)
  where
    by : (c d : Bool) → list_all p (ys ++ (x ∷ [])) ≡ (d && b) → (c && list_all p (ys ++ (x ∷ []))) ≡ ((c && d) && b)
    by true d e = e
    by false d e = refl

and-true : (b : Bool) → (b && true) ≡ b
and-true true = refl
and-true false = refl

and-false : (b : Bool) → (b && false) ≡ false
and-false true = refl
and-false false = refl

pub longest_end-keeps : {X : Type 0} (p : X → Bool) (xs : List X) (x : X) → p x ≡ true → longest_end p (xs ++ (x ∷ [])) ≡ longest_end p xs ++ (x ∷ [])
longest_end-keeps p [] x h = rw h
longest_end-keeps p (y ∷ ys) x h =
    let e = all-snoc p (y ∷ ys) x true h ∙ and-true (list_all p (y ∷ ys)) in
    (λ i. cond (e i) ((y ∷ ys) ++ (x ∷ [])) (longest_end-keeps p ys x h i)) ∙ along (list_all p (y ∷ ys)) (y ∷ ys) (longest_end p ys) (x ∷ [])

pub longest_end-ends : {X : Type 0} (p : X → Bool) (xs : List X) (x : X) → p x ≡ false → longest_end p (xs ++ (x ∷ [])) ≡ []
longest_end-ends p [] x h = rw h
longest_end-ends p (y ∷ ys) x h =
    let e = all-snoc p (y ∷ ys) x false h ∙ and-false (list_all p (y ∷ ys)) in
    (λ i. cond (e i) ((y ∷ ys) ++ (x ∷ [])) (longest_end p (ys ++ (x ∷ [])))) ∙ longest_end-ends p ys x h

pub last_of-snoc : {X : Type 0} (xs : List X) (x : X) → last_of (xs ++ (x ∷ [])) ≡ Some x
last_of-snoc [] x = refl
last_of-snoc (y ∷ []) x = refl
last_of-snoc (y ∷ z ∷ xs) x = last_of-snoc (z ∷ xs) x

first-snoc : {X : Type 0} (xs : List X) (x y : X) → first_of_list ((xs ++ (x ∷ [])) ++ (y ∷ [])) ≡ first_of_list (xs ++ (x ∷ []))
first-snoc [] x y = refl
first-snoc (z ∷ xs) x y = refl

module _ (agrees : Seen → Seen → Bool) (itself : (s : Seen) → agrees s s ≡ true) (alike : (a b : Seen) → agrees a b ≡ true → (c : Seen) → agrees c a ≡ agrees c b) where
  -- where the row that ends with `last` goes on with s, it began where it did; else it begins with s
  row-snoc : (init : List Seen) (last s : Seen) → row_began (λ x. agrees x s) ((init ++ (last ∷ [])) ++ (s ∷ [])) ≡ (if agrees last s then row_began (λ x. agrees x last) (init ++ (last ∷ [])) else s.at)
  row-snoc init last s = by (agrees last s) refl
    where
      by : (b : Bool) → agrees last s ≡ b → row_began (λ x. agrees x s) ((init ++ (last ∷ [])) ++ (s ∷ [])) ≡ (if b then row_began (λ x. agrees x last) (init ++ (last ∷ [])) else s.at)
      by true e =
          let q : Seen → Bool = λ x. agrees x s in
          let one = longest_end-keeps q (init ++ (last ∷ [])) s (itself s) in
          let two = longest_end-keeps q init last e in
          let firsts = ap first_of_list (one ∙ ap (λ l. l ++ (s ∷ [])) two) ∙ first-snoc (longest_end q init) last s ∙ sym (ap first_of_list two) in
          ap (λ o. option_map_or (λ (x : Seen). x.at) o 0) firsts ∙ sym (λ i. row_began (λ x. alike last s e x i) (init ++ (last ∷ [])))
      by false e =
          let q : Seen → Bool = λ x. agrees x s in
          let one = longest_end-keeps q (init ++ (last ∷ [])) s (itself s) in
          let two = longest_end-ends q init last e in
          ap (λ l. option_map_or (λ (x : Seen). x.at) (first_of_list l) 0) (one ∙ ap (λ l. l ++ (s ∷ [])) two)

  row-one : (s : Seen) → row_began (λ x. agrees x s) (s ∷ []) ≡ s.at
  row-one s = ap (λ l. option_map_or (λ (x : Seen). x.at) (first_of_list l) 0) (longest_end-keeps (λ x. agrees x s) [] s (itself s))

abbrev same_state : Seen → Seen → Bool
same_state a b = same a.text b.text && same_pairs a.attributes b.attributes

abbrev same_text : Seen → Seen → Bool
same_text a b = same a.text b.text

text-alike : (a b : Seen) → same_text a b ≡ true → (c : Seen) → same_text c a ≡ same_text c b
text-alike a b h c = ap (same c.text) (same-sound a.text b.text h)

state-alike : (a b : Seen) → same_state a b ≡ true → (c : Seen) → same_state c a ≡ same_state c b
state-alike a b h c =
    let t = same-sound a.text b.text (and_left _ _ h) in
    let p = same_pairs-sound a.attributes b.attributes (and_right (same a.text b.text) _ h) in
    (λ i. same c.text (t i) && same_pairs c.attributes (p i))

both_true : (a b : Bool) → a ≡ true → b ≡ true → (a && b) ≡ true
both_true true b p q = q
both_true false b p q = p

state-itself : (s : Seen) → same_state s s ≡ true
state-itself s = both_true _ _ (same-refl s.text) (same_pairs-refl s.attributes)

object-at : (seen : List Seen) (s : Seen) → last_of seen ≡ Some s
    → object_of seen ≡ Some (record { text = s.text; attributes = s.attributes; changed = row_began (λ x. same_text x s) seen; updated = row_began (λ x. same_state x s) seen })
object-at seen s h = rw h

split_last : {X : Type 0} (x : X) (xs : List X) → (init : List X) × (last : X) × (x ∷ xs ≡ init ++ (last ∷ []))
split_last x [] = ([], x, refl)
split_last x (y ∷ ys) = (let r = split_last y ys in (x ∷ r.0, r.1, ap (λ l. x ∷ l) r.2))

grown : (init : List Seen) (last s : Seen)
    → object_of ((init ++ (last ∷ [])) ++ (s ∷ [])) ≡ Some (next_object (object_of (init ++ (last ∷ []))) s.text s.attributes s.at)
grown init last s =
    let before = object-at (init ++ (last ∷ [])) last (last_of-snoc init last) in
    let after = object-at ((init ++ (last ∷ [])) ++ (s ∷ [])) s (last_of-snoc (init ++ (last ∷ [])) s) in
    let changed = row-snoc same_text (λ x. same-refl x.text) text-alike init last s in
    let updated = row-snoc same_state state-itself state-alike init last s in
    after ∙ (λ i. Some (record { text = s.text; attributes = s.attributes; changed = changed i; updated = updated i })) ∙ sym (ap (λ o. Some (next_object o s.text s.attributes s.at)) before)

pub object_of-snoc : (seen : List Seen) (s : Seen) → object_of (seen ++ (s ∷ [])) ≡ Some (next_object (object_of seen) s.text s.attributes s.at)
object_of-snoc [] s =
    object-at (s ∷ []) s refl ∙ (λ i. Some (record { text = s.text; attributes = s.attributes; changed = row-one same_text (λ x. same-refl x.text) text-alike s i; updated = row-one same_state state-itself state-alike s i }))
object_of-snoc (x ∷ xs) s =
    let r = split_last x xs in
    subst (λ l. object_of (l ++ (s ∷ [])) ≡ Some (next_object (object_of l) s.text s.attributes s.at)) (sym r.2) (grown r.0 r.1 s)

module _ (j : Journal) (e : EntityId) (x : Entry) where
  -- the Reports of e after one more entry
  abbrev stamp : ℕ × Entry
  stamp = (now (j ++ (x ∷ [])), x)

  reports-keeps : keeps e stamp ≡ true → reports (j ++ (x ∷ [])) e ≡ reports j e ++ filter_map (report_of e) (stamp ∷ [])
  reports-keeps h =
      ap (λ l. filter_map (report_of e) (longest_end (keeps e) l)) (stamped-snoc j x)
      ∙ ap (filter_map (report_of e)) (longest_end-keeps (keeps e) (stamped j) stamp h)
      ∙ filter_map-append (report_of e) (longest_end (keeps e) (stamped j)) (stamp ∷ [])

  reports-ends : keeps e stamp ≡ false → reports (j ++ (x ∷ [])) e ≡ []
  reports-ends h =
      ap (λ l. filter_map (report_of e) (longest_end (keeps e) l)) (stamped-snoc j x)
      ∙ ap (filter_map (report_of e)) (longest_end-ends (keeps e) (stamped j) stamp h)

append-nil : {X : Type 0} (xs : List X) → xs ++ [] ≡ xs
append-nil [] = refl
append-nil (x ∷ xs) = ap (λ l. x ∷ l) (append-nil xs)

-- S after a Report
pub reported-report : (j : Journal) (e : EntityId) (k n : ℕ) (entity : EntityId) (text : Text) (attributes : Pairs)
    → reported (j ++ (Line k n (Cmd.Report entity text attributes) ∷ [])) e
    ≡ (if same_entity entity e then Some (next_object (reported j e) text attributes (now (j ++ (Line k n (Cmd.Report entity text attributes) ∷ [])))) else reported j e)
reported-report j e k n entity text attributes = ap object_of (reports-keeps j e x refl) ∙ by (same_entity entity e)
  where
    x : Entry
    x = Line k n (Cmd.Report entity text attributes)

    by : (b : Bool) → object_of (reports j e ++ cons_option (if b then Some (record { text = text; attributes = attributes; at = now (j ++ (x ∷ [])) }) else None) [])
        ≡ (if b then Some (next_object (reported j e) text attributes (now (j ++ (x ∷ [])))) else reported j e)
    by true = object_of-snoc (reports j e) (record { text = text; attributes = attributes; at = now (j ++ (x ∷ [])) })
    by false = ap object_of (append-nil (reports j e))

-- S after a Gone
pub reported-gone : (j : Journal) (e : EntityId) (k n : ℕ) (entity : EntityId)
    → reported (j ++ (Line k n (Cmd.Gone entity) ∷ [])) e ≡ (if same_entity entity e then None else reported j e)
reported-gone j e k n entity = by (same_entity entity e) refl
  where
    x : Entry
    x = Line k n (Cmd.Gone entity)

    by : (b : Bool) → same_entity entity e ≡ b → reported (j ++ (x ∷ [])) e ≡ (if b then None else reported j e)
    by true h = ap object_of (reports-ends j e x (rw h))
    by false h = ap object_of (reports-keeps j e x (rw h) ∙ append-nil (reports j e))

-- S after a Restart
pub reported-restart : (j : Journal) (e : EntityId) (k n : ℕ) → reported (j ++ (Line k n Cmd.Restart ∷ [])) e ≡ None
reported-restart j e k n = ap object_of (reports-ends j e (Line k n Cmd.Restart) refl)

-- S after any other entry
pub reported-other : (j : Journal) (e : EntityId) (x : Entry) → report_in x ≡ None → gone_in x ≡ None → is_restart x ≡ false → reported (j ++ (x ∷ [])) e ≡ reported j e
reported-other j e x report gone restart =
    let keep : keeps e (now (j ++ (x ∷ [])), x) ≡ true
    = λ i. not (restart i) && option_map_or (λ g. not (same_entity g e)) (gone i) true in
    let none : report_of e (now (j ++ (x ∷ [])), x) ≡ None
    = λ i. option_and_then (λ r. if same_entity r.entity e then Some (record { text = r.text; attributes = r.attributes; at = now (j ++ (x ∷ [])) }) else None) (report i) in
    ap object_of (reports-keeps j e x keep ∙ (λ i. reports j e ++ cons_option (none i) []) ∙ append-nil (reports j e))
