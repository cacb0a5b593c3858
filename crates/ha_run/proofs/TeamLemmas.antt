-- What the workers leave, all together.
use Rattle.std.proofs.Common.{◌≡◌, ◌⊎◌, inl, inr, ◌∙◌, ◌<◌, ◌≤◌, ◌+◌, ◌==◌, ℕ, zero, suc, Bool, true, false, cond, List, [], ◌∷◌, ◌++◌, length, map, Option, Some, None, ap, arith, refl, sym, subst}
use Rattle.std.proofs.lemmas.Bool.{eq-eqb}
use Rattle.std.proofs.lemmas.List.{length-map}
use Rattle.std.proofs.lemmas.List.Elements.{Contains-append_cases}
use Rattle.std.specs.Prelude.{Contains, IsSome, IsSomeAnd, is_some, slice_get}
use Rattle.ha_config.specs.declared.command.Cmd.{Cmd}
use Rattle.ha_config.specs.declared.config.Config.{Config}
use Rattle.ha_config.specs.Fair.{prepared}
use Rattle.ha_config.specs.Words.{Text}
use Rattle.ha_journal.specs.declared.entry.Entry.{Entry}
use Rattle.ha_journal.specs.declared.entry.Entry.TheVariants.{Boot, Line, Step, Again}
use Rattle.ha_journal.specs.Entries.{restarts}
use Rattle.ha_journal.specs.Journal.{Journal}
use Rattle.ha_journal.proofs.ReloadLemmas.{read-restarts}
use Rattle.ha_whole.specs.Whole.{IsFull, Running, is_quiet}
use Rattle.ha_model.specs.Records.{Records}
use Rattle.bus_turn.specs.declared.fault.BusFault.{BusFault}
use Rattle.bus_turn.specs.Shown.{BusView}
use Rattle.bus_pass.specs.declared.hand.Given.{Given}
use Rattle.bus_pass.specs.declared.hand.Hand.{Hand}
use Rattle.bus_pass.specs.declared.hand.Origin.{Origin}
use Rattle.bus_pass.specs.declared.hand.Stood.{Stood}
use Rattle.bus_pass.specs.Journal.{IsRestless, is_of, placed}
use Rattle.bus_pass.specs.Origins.{IsStored, origin_of}
use Rattle.bus_pass.specs.Rule.{IsList, MayLackRoom, Stands, StandsForAll, Tells, both, heard_by}
use Rattle.ha_worker.specs.declared.end.WorkerEnd.{WorkerEnd}
use Rattle.ha_worker.specs.Courses.{Course, SourceState}
use Rattle.ha_worker.specs.Views.{StandsFor, list_of}
use Rattle.ha_worker.specs.Worked.{EndsAs}
use Rattle.ha_worker.proofs.ListLemmas.{list_puts}
use Rattle.ha_run.specs.Served.{Each, Feed, IsOf, OneOf, OwesLine, OwesRestart}
use Rattle.ha_run.specs.Team.{AreDone, AreWorked, IsLead, IsOver, Seat, WentRound, joined}

-- ---- what stays of the first pass

joined_first : (seats : List Seat) (v : Hand) → (joined v seats).first ≡ v.first
joined_first [] v = refl
joined_first (s ∷ seats) v = joined_first seats (both v s.hand)

joined_made : (seats : List Seat) (v : Hand) → (joined v seats).made ≡ v.made
joined_made [] v = refl
joined_made (s ∷ seats) v = joined_made seats (both v s.hand)

pub joined_taken : (seats : List Seat) (v : Hand) → (joined v seats).taken ≡ v.taken
joined_taken [] v = refl
joined_taken (s ∷ seats) v = joined_taken seats (both v s.hand)

joined_origin : (seats : List Seat) (v : Hand) → (joined v seats).origin ≡ v.origin
joined_origin [] v = refl
joined_origin (s ∷ seats) v = joined_origin seats (both v s.hand)

-- ---- the workers that it stands for

stands_left : (xs ys : List Stood) (k : ℕ) (l : List Given) → Stands xs k l → Stands (xs ++ ys) k l
stands_left [] ys k l h = absurd h
stands_left (x ∷ xs) ys k l (inl h) = inl h
stands_left (x ∷ xs) ys k l (inr h) = inr (stands_left xs ys k l h)

stands_right : (xs ys : List Stood) (k : ℕ) (l : List Given) → Stands ys k l → Stands (xs ++ ys) k l
stands_right [] ys k l h = h
stands_right (x ∷ xs) ys k l h = inr (stands_right xs ys k l h)

joined_stands : (seats : List Seat) (v : Hand) (k : ℕ) (l : List Given) → Stands v.stands k l → Stands (joined v seats).stands k l
joined_stands [] v k l h = h
joined_stands (s ∷ seats) v k l h = joined_stands seats (both v s.hand) k l (stands_left v.stands s.hand.stands k l h)

own_stands : (v : Hand) (k : ℕ) → StandsFor k v → Stands v.stands k (list_of v)
own_stands v k h = let P : List Stood → Type 0 = λ z. Stands z k (list_of v) in subst P (sym h.stands) (inl (refl, refl))

-- worker k, when its pass and those behind it are taken in
taken_in : (seats : List Seat) (v : Hand) (s : Seat) (k : ℕ) → StandsFor k s.hand → Stands (joined v (s ∷ seats)).stands k (list_of s.hand)
taken_in seats v s k h = joined_stands seats (both v s.hand) k (list_of s.hand) (stands_right v.stands s.hand.stands k (list_of s.hand) (own_stands s.hand k h))

module _ (reading : Text → Option Config) where
  all_stood : (before : List SourceState) (seats : List Seat) (v : Hand) (k : ℕ) → AreDone reading k before seats → (m : ℕ) → m < length before → (l : List Given) × Stands (joined v seats).stands (k + m) l
  all_stood [] seats v k d m h = absurd (omega (arith, h))
  all_stood (s ∷ before) [] v k d m h = absurd d
  all_stood (s ∷ before) (t ∷ seats) v k d zero h =
      (list_of t.hand, (let e : k ≡ k + 0 = omega arith in let P : ℕ → Type 0 = λ z. Stands (joined v (t ∷ seats)).stands z (list_of t.hand) in subst P e (taken_in seats v t k d.0.worked.one.one)))
  all_stood (s ∷ before) (t ∷ seats) v k d (suc m) h =
      let r = all_stood before seats (both v t.hand) (suc k) d.1 m (omega (arith, h)) in
      (r.0, (let e : suc k + m ≡ k + suc m = omega arith in let P : ℕ → Type 0 = λ z. Stands (joined v (t ∷ seats)).stands z r.0 in subst P e r.1))

  pub stands_for_all : (before : List SourceState) (seats : List Seat) (v : Hand) (o : Origin) → IsLead (length before) o v → AreDone reading 0 before seats → StandsForAll (joined v seats)
  stands_for_all before seats v o lead d = record {
    first = joined_first seats v ∙ lead.first;
    each = λ k below.
        let within : k < length before = subst (λ z. k < z) (joined_made seats v ∙ lead.made) below in
        let r = all_stood before seats v 0 d k within in
        (r.0, (let e : 0 + k ≡ k = omega arith in let P : ℕ → Type 0 = λ z. Stands (joined v seats).stands z r.0 in subst P e r.1));
  }

-- ---- the faults that they noted

false_true : false ≡ true → ⊥
false_true e = let bad : ◌≡◌ {A = Bool} false true = e in cc

heard_left : (a b : Option BusFault) → IsSome a → IsSome (heard_by a b)
heard_left None b h = absurd (false_true h)
heard_left (Some f) b h = refl

heard_right : (a b : Option BusFault) → IsSome b → IsSome (heard_by a b)
heard_right None b h = h
heard_right (Some f) b h = refl

noted_stays : (seats : List Seat) (v : Hand) → IsSome v.noted → IsSome (joined v seats).noted
noted_stays [] v h = h
noted_stays (s ∷ seats) v h = noted_stays seats (both v s.hand) (heard_left v.noted s.hand.noted h)

not_some : (o : Option BusFault) → o ≡ None → IsSome o → ⊥
not_some o e h = false_true (sym (ap is_some e) ∙ h)

-- a fault that was noted is kept
none_noted : (o : Option BusFault) (first : Option BusFault) → ((f : BusFault) → o ≡ Some f → first ≡ Some f) → first ≡ None → o ≡ None
none_noted None first h none = refl
none_noted (Some f) first h none = absurd (let bad : ◌≡◌ {A = Option BusFault} None (Some f) = sym none ∙ h f refl in cc)

over_of : (end : WorkerEnd) (course : Course) (unput : List Cmd) (v : Hand) → EndsAs end course unput v → (IsSome v.noted → ⊥) → IsOver end (record { course = course; unput = unput })
over_of WorkerEnd.Ended course unput v h none = h
over_of WorkerEnd.Lost course unput v h none = h
over_of WorkerEnd.TooLong course unput v h none = h
over_of WorkerEnd.Stopped course unput v h none = absurd (none h)
over_of WorkerEnd.Memory course unput v h none = absurd (none (ap is_some h))

-- ---- what became of each

module _ (reading : Text → Option Config) where
  abbrev pub feeds_of : (k : ℕ) (before : List SourceState) (seats : List Seat) → AreDone reading k before seats → List Feed
  feeds_of k [] [] d = []
  feeds_of k [] (t ∷ seats) d = absurd d
  feeds_of k (s ∷ before) [] d = absurd d
  feeds_of k (s ∷ before) (t ∷ seats) d = record { course = d.0.worked.course; unput = d.0.worked.unput } ∷ feeds_of (suc k) before seats d.1

  module _ (j : Journal) (first : Option BusFault) where
    all_worked : (before : List SourceState) (seats : List Seat) (v : Hand) (k : ℕ) → (d : AreDone reading k before seats) → ((i : ℕ) (l : List Given) → Stands (joined v seats).stands i l → IsList j i l)
        → (first ≡ None → (joined v seats).noted ≡ None) → AreWorked reading j first k before (map (λ (s : Seat). s.source) seats) (map (λ (s : Seat). s.end) seats) (feeds_of k before seats d)
    all_worked [] [] v k d lists none = tt
    all_worked [] (t ∷ seats) v k d lists none = absurd d
    all_worked (s ∷ before) [] v k d lists none = absurd d
    all_worked (s ∷ before) (t ∷ seats) v k d lists none = (
      record {
        bytes = d.0.worked.bytes;
        put = d.0.worked.put;
        given = d.0.worked.given;
        cmds_are = d.0.worked.cmds_are;
        puts = list_puts j k (list_of t.hand) (map (prepared reading) d.0.worked.put) (lists k (list_of t.hand) (taken_in seats v t k d.0.worked.one.one)) d.0.worked.lines;
        over = λ free. (
          d.0.end,
          d.0.end_is,
          over_of d.0.end d.0.worked.course d.0.worked.unput t.hand d.0.worked.ends
              (λ some. not_some (joined v (t ∷ seats)).noted (none free) (noted_stays seats (both v t.hand) (heard_right v.noted t.hand.noted some))),
        );
      },
      all_worked before seats (both v t.hand) (suc k) d.1 lists none,
    )

-- ---- what is due

joined_due : (seats : List Seat) (v : Hand) (d : ℕ × Cmd) → Contains (joined v seats).dues d → Contains v.dues d ⊎ OneOf (λ (s : Seat). Contains s.hand.dues d) seats
joined_due [] v d h = inl h
joined_due (s ∷ seats) v d h = by (joined_due seats (both v s.hand) d h)
  where
    here : Contains v.dues d ⊎ Contains s.hand.dues d → Contains v.dues d ⊎ OneOf (λ (t : Seat). Contains t.hand.dues d) (s ∷ seats)
    here (inl c) = inl c
    here (inr c) = inr (inl c)

    by : Contains (v.dues ++ s.hand.dues) d ⊎ OneOf (λ (t : Seat). Contains t.hand.dues d) seats → Contains v.dues d ⊎ OneOf (λ (t : Seat). Contains t.hand.dues d) (s ∷ seats)
    by (inl c) = here (Contains-append_cases v.dues s.hand.dues d c)
    by (inr c) = inr (inr c)

-- the command that a pass noted is the first of a source that is not put
module _ (reading : Text → Option Config) (d : ℕ × Cmd) (P : Feed → Type 0)
    (first : (course : Course) (unput rest : List Cmd) → map (prepared reading) unput ≡ d.1 ∷ rest → P (record { course = course; unput = unput })) where
  owes : (before : List SourceState) (seats : List Seat) (k : ℕ) → (h : AreDone reading k before seats) → OneOf (λ (s : Seat). Contains s.hand.dues d) seats → OneOf P (feeds_of reading k before seats h)
  owes [] [] k h c = c
  owes [] (t ∷ seats) k h c = absurd h
  owes (s ∷ before) [] k h c = absurd h
  owes (s ∷ before) (t ∷ seats) k h (inl c) =
      let u = (h.0.worked.due d c).1 in inl (first h.0.worked.course h.0.worked.unput u.0 u.1)
  owes (s ∷ before) (t ∷ seats) k h (inr c) = inr (owes before seats (suc k) h.1 c)

module _ (reading : Text → Option Config) (d : ℕ × Cmd) where
  some_unput : (unput rest : List Cmd) → map (prepared reading) unput ≡ d.1 ∷ rest → 0 < length unput
  some_unput unput rest e = omega (arith, ap length e, length-map unput (prepared reading))

  -- what a text is read as makes no command a Restart
  first_restarts : (unput rest : List Cmd) → map (prepared reading) unput ≡ d.1 ∷ rest → restarts d.1 ≡ true → IsSomeAnd (slice_get unput 0) (λ c. restarts c ≡ true)
  first_restarts [] rest e restart = absurd (cc)
  first_restarts (c ∷ cs) rest e restart =
      let same : prepared reading c ≡ d.1 = heads (prepared reading c) d.1 (map (prepared reading) cs) rest e in
      sym (read-restarts reading c) ∙ ap restarts same ∙ restart
    where
      heads : (x y : Cmd) (xs ys : List Cmd) → x ∷ xs ≡ y ∷ ys → x ≡ y
      heads x y xs ys h = cc

  owes_line : (before : List SourceState) (seats : List Seat) (h : AreDone reading 0 before seats) → OneOf (λ (s : Seat). Contains s.hand.dues d) seats → OwesLine (feeds_of reading 0 before seats h)
  owes_line before seats h c = owes reading d (λ (feed : Feed). 0 < length feed.unput) (λ course unput rest e. some_unput unput rest e) before seats 0 h c

  owes_restart : (before : List SourceState) (seats : List Seat) (h : AreDone reading 0 before seats) → restarts d.1 ≡ true → OneOf (λ (s : Seat). Contains s.hand.dues d) seats
      → OwesRestart (feeds_of reading 0 before seats h)
  owes_restart before seats h restart c =
      owes reading d (λ (feed : Feed). IsSomeAnd (slice_get feed.unput 0) (λ c. restarts c ≡ true)) (λ course unput rest e. first_restarts unput rest e restart) before seats 0 h c

none_due : (v : Hand) (d : ℕ × Cmd) → v.dues ≡ [] → Contains v.dues d → ⊥
none_due v d e c = omega (arith, ap length e, c.1)

-- ---- whose entries there are

below_or : (a n : ℕ) → (a < n) ⊎ (n ≤ a)
below_or a zero = inr (omega arith)
below_or zero (suc n) = inl (omega arith)
below_or (suc a) (suc n) = by (below_or a n)
  where
    by : (a < n) ⊎ (n ≤ a) → (suc a < suc n) ⊎ (suc n ≤ suc a)
    by (inl h) = inl (omega (arith, h))
    by (inr h) = inr (omega (arith, h))

not_placed : (b : Bool) (p : ℕ × Entry) (ps : List (ℕ × Entry)) → cond b (p ∷ ps) ps ≡ [] → (b ≡ false) × (ps ≡ [])
not_placed true p ps e = absurd (omega (arith, ap length e))
not_placed false p ps e = (refl, e)

within : (a n : ℕ) → (n ≤ a → (a == a) ≡ false) → a < n
within a n h = by (below_or a n)
  where
    by : (a < n) ⊎ (n ≤ a) → a < n
    by (inl low) = low
    by (inr high) = absurd (false_true (sym (h high) ∙ eq-eqb a a refl))

of_entry : (n : ℕ) (x : Entry) → ((k : ℕ) → n ≤ k → is_of k x ≡ false) → IsOf n x
of_entry n (Boot text config stored start zone carry) h = tt
of_entry n (Again number start stored carry) h = tt
of_entry n (Line source number cmd) h = within source n (h source)
of_entry n (Step worker serial branch item) h = within worker n (h worker)

named_of : (n : ℕ) (j : Journal) (at : ℕ) → ((k : ℕ) → n ≤ k → placed k at j ≡ []) → Each (IsOf n) j
named_of n [] at h = tt
named_of n (x ∷ xs) at h = (
  of_entry n x (λ k high. (not_placed (is_of k x) (at, x) (placed k (at + 1) xs) (h k high)).0),
  named_of n xs (at + 1) (λ k high. (not_placed (is_of k x) (at, x) (placed k (at + 1) xs) (h k high)).1),
)

-- ---- all of it

module _ (reading : Text → Option Config) (base b : BusView) (before : List SourceState) (seats : List Seat) (v : Hand) (lead : IsLead (length before) (origin_of base) v) (d : AreDone reading 0 before seats)
    (tells : Tells IsRestless (joined v seats) b.journal b.first (origin_of b)) (running : Running b.journal b.records) (stored : IsStored b) where
  abbrev Owes : Type 0
  Owes = (IsFull b.journal × ((is_quiet b.records b.journal ≡ false) ⊎ OwesLine (feeds_of reading 0 before seats d))) ⊎ OwesRestart (feeds_of reading 0 before seats d)

  due_then : (IsFull b.journal × IsRestless b.journal) ⊎ ((c : ℕ × Cmd) × (c.0 < (joined v seats).made) × Contains (joined v seats).dues c × MayLackRoom b.journal c.1) → Owes
  due_then (inl h) = inl (h.0, inl (let P : Records → Type 0 = λ z. is_quiet z b.journal ≡ false in subst P (sym running.lawful.right.records_are) h.1))
  due_then (inr h) = by (joined_due seats v h.0 h.2)
    where
      lacks : OneOf (λ (s : Seat). Contains s.hand.dues h.0) seats → MayLackRoom b.journal h.0.1 → Owes
      lacks c (inl full) = inl (full, inr (owes_line reading h.0 before seats d c))
      lacks c (inr restart) = inr (owes_restart reading h.0 before seats d restart c)

      by : Contains v.dues h.0 ⊎ OneOf (λ (s : Seat). Contains s.hand.dues h.0) seats → Owes
      by (inl c) = absurd (none_due v h.0 lead.undue c)
      by (inr c) = lacks c h.3

  pub went_round : WentRound reading base b before (map (λ (s : Seat). s.source) seats) (map (λ (s : Seat). s.end) seats)
  went_round = record {
    feeds = feeds_of reading 0 before seats d;
    worked = all_worked reading b.journal b.first before seats v 0 d tells.lists (none_noted (joined v seats).noted b.first tells.fault);
    named = named_of (length before) b.journal 0
        (λ k high. tells.fresh (joined_first seats v ∙ lead.first) k (subst (λ z. z ≤ k) (sym (joined_made seats v ∙ lead.made)) high));
    running = running;
    same = tells.same_origin (origin_of base) (joined_origin seats v ∙ lead.origin_is);
    stored = stored;
    due = λ full. due_then (tells.full full (stands_for_all reading before seats v (origin_of base) lead d));
  }
