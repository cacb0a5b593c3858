-- What puts that stand one behind the other make of a bus.
use Rattle.std.proofs.Common.{◌≤◌, Option, None, ◌≡◌, ◌∙◌, ◌+◌, ◌<◌, inl, inr, ⊎_elim, ℕ, Bool, true, false, cond, List, [], ◌∷◌, ◌++◌, length, Some, count_by, slice_get, ap, arith, refl, sym, subst, append-nil, append_assoc, length-append}
use Rattle.std.specs.Prelude.{IfSome, IsSome, IsSomeAnd, if◌then◌else◌, is_none}
use Rattle.std.specs.List.{list_any}
use Rattle.std.proofs.lemmas.List.Sums.{count_by-le-length}
use Rattle.ha_config.specs.declared.command.Cmd.{Cmd}
use Rattle.ha_journal.specs.declared.entry.Entry.{Entry}
use Rattle.ha_journal.specs.declared.entry.Entry.TheVariants.{Boot, Line, Step, Again}
use Rattle.ha_journal.specs.Commands.{put_as}
use Rattle.ha_config.specs.Fair.{shuts_source}
use Rattle.ha_journal.specs.Entries.{is_restart, restarts}
use Rattle.ha_journal.specs.Journal.{Journal, more}
use Rattle.ha_journal.proofs.ReloadLemmas.{put-lets}
use Rattle.ha_model.specs.Lawful.{is_line_of, shuts}
use Rattle.ha_whole.specs.Whole.{IsFull, IsWithin, LacksRoom, Right, Running, again_of, appended, is_rested, put, ready}
use Rattle.whole_laws.proofs.ClosingLemmas.{put-step}
use Rattle.whole_laws.proofs.LiftLemmas.{right-runs}
use Rattle.whole_laws.proofs.PutLemmas.{count-put, line-put, longer-put, put-appends, step-is-put}
use Rattle.bus_turn.specs.declared.fault.BusFault.{BusFault}
use Rattle.bus_turn.specs.Buses.{Adds, IsRefusal, IsStep, Puts, Refuses}
use Rattle.bus_turn.specs.Shown.{BusView}
use Rattle.bus_pass.specs.Journal.{IsRestless}
use Rattle.bus_pass.specs.Rule.{MayLackRoom}
use Rattle.ha_worker.specs.Came.{ArePut, Came, CameSome, IsAt}
use Rattle.ha_worker.proofs.TurnLemmas.{IsLineOf, added_full, line_leaves, picked_some, put_origin, put_stored, same_running}
use Rattle.ha_worker.proofs.GiveLemmas.{eqb_self}

-- ---- puts one behind the other

put_then : (k n : ℕ) (xs ys : List Cmd) (before es fs : Journal) → ArePut k n xs before es → ArePut k (n + length xs) ys (before ++ es) fs → ArePut k n (xs ++ ys) before (es ++ fs)
put_then k n xs ys before [] fs p q =
    subst (λ (z : List Cmd). ArePut k n (z ++ ys) before fs) (sym p)
    (subst (λ (z : Journal). ArePut k n ys z fs) (append-nil before) (subst (λ (m : ℕ). ArePut k m ys (before ++ []) fs) (omega (arith, ap length p)) q))
put_then k n xs ys before (Boot text config stored start zone carry ∷ es) fs p q = absurd p
put_then k n xs ys before (Again number start stored carry ∷ es) fs p q =
    let e : Entry = Again number start stored carry in
    put_then k n xs ys (more before e) es fs p (subst (λ (z : Journal). ArePut k (n + length xs) ys z fs) (sym (append_assoc before (e ∷ []) es)) q)
put_then k n xs ys before (Line source number cmd ∷ es) fs p q =
    let t = p.2 in
    let e : Entry = Line source number cmd in
    let q' : ArePut k (n + 1 + length t.1) ys (more before e ++ es) fs =
    subst (λ (z : Journal). ArePut k (n + 1 + length t.1) ys z fs) (sym (append_assoc before (e ∷ []) es)) (subst (λ (m : ℕ). ArePut k m ys (before ++ e ∷ es) fs) (omega (arith, ap length t.2)) q) in
    (p.0, p.1, (t.0, t.1 ++ ys, ap (λ (z : List Cmd). z ++ ys) t.2, t.3, put_then k (n + 1) t.1 ys (more before e) es fs t.4 q'))
put_then k n xs ys before (Step worker serial branch item ∷ es) fs p q =
    let e : Entry = Step worker serial branch item in
    (p.0, put_then k n xs ys (more before e) es fs p.1 (subst (λ (z : Journal). ArePut k (n + length xs) ys z fs) (sym (append_assoc before (e ∷ []) es)) q))

pub came_none : (k n : ℕ) (a : BusView) → IsAt n k a → Came k n n [] a a
came_none k n a at = record { entries = []; behind = sym (append-nil a.journal); put = refl; number = omega arith; origin = refl; at = at }

pub came_then : (k n m l : ℕ) (xs ys : List Cmd) (a b c : BusView) → Came k n m xs a b → Came k m l ys b c → Came k n l (xs ++ ys) a c
came_then k n m l xs ys a b c p q = record {
  entries = p.entries ++ q.entries;
  behind = q.behind ∙ ap (λ (z : Journal). z ++ q.entries) p.behind ∙ append_assoc a.journal p.entries q.entries;
  put = put_then k n xs ys a.journal p.entries q.entries p.put (subst (λ (z : Journal). ArePut k (n + length xs) ys z q.entries) p.behind (subst (λ (z : ℕ). ArePut k z ys b.journal q.entries) p.number q.put));
  number = omega (arith, p.number, q.number, length-append xs ys);
  origin = q.origin ∙ p.origin;
  at = q.at;
}

-- all of a front were put, and then some of the others
pub some_came : (k n m l : ℕ) (xs ys left : List Cmd) (a b c : BusView) → Came k n m xs a b → CameSome k m l ys left b c → CameSome k n l (xs ++ ys) left a c
some_came k n m l xs ys left a b c p q = record {
  put = xs ++ q.put;
  parts = ap (λ (z : List Cmd). xs ++ z) q.parts ∙ sym (append_assoc xs q.put left);
  came = came_then k n m l xs q.put a b c p q.came;
  full = q.full;
}

-- none of these was put, where a run is ready to step at a full journal
pub none_came : (k n : ℕ) (cmds : List Cmd) (a b : BusView) → Came k n n [] a b → (b.first ≡ Some BusFault.Full → IsFull b.journal × IsRestless b.journal) → CameSome k n n cmds cmds a b
none_came k n cmds a b p full = record { put = []; parts = refl; came = p; full = λ e. inl (full e) }

-- some of the first were put, so others were not
pub some_of_more : (k n m : ℕ) (xs ys left : List Cmd) (a b : BusView) → CameSome k n m xs left a b → CameSome k n m (xs ++ ys) (left ++ ys) a b
some_of_more k n m xs ys left a b p = record {
  put = p.put;
  parts = ap (λ (z : List Cmd). z ++ ys) p.parts ∙ append_assoc p.put left ys;
  came = p.came;
  full = λ e. ⊎_elim (λ r. inl r) (λ s. inr (front left s)) (p.full e);
}
  where
    front : (zs : List Cmd) → IsSomeAnd (slice_get zs 0) (MayLackRoom b.journal) → IsSomeAnd (slice_get (zs ++ ys) 0) (MayLackRoom b.journal)
    front [] h = absurd h
    front (z ∷ zs) h = h

-- steps came behind
pub came_still : (k n m : ℕ) (xs : List Cmd) (a b c : BusView) → Came k n m xs a b → Came k m m [] b c → Came k n m xs a c
came_still k n m xs a b c p q = subst (λ (z : List Cmd). Came k n m z a c) (append-nil xs) (came_then k n m m xs [] a b c p q)

pub no_items : (xs : List Cmd) → length xs ≡ 0 → xs ≡ []
no_items [] e = refl
no_items (x ∷ xs) e = absurd (omega (arith, e))

pub none_of : (o : Option BusFault) → is_none o ≡ true → o ≡ None
none_of None e = refl
none_of (Some f) e = absurd (let bad : ◌≡◌ {A = Bool} false true = e in cc)

pub some_of_none : (o : Option BusFault) → is_none o ≡ false → IsSome o
some_of_none None e = absurd (let bad : ◌≡◌ {A = Bool} true false = e in cc)
some_of_none (Some f) e = refl

-- of the command that is held
pub held_still : (o : Option Cmd) (x : Bool) → x ≡ false → IfSome o (λ cmd. shuts_source cmd ≡ false → x ≡ false)
held_still None x is = tt
held_still (Some c) x is = λ e. is

pub held_takes : (T : Type 0) (o : Option Cmd) (x : Bool) → IfSome o (λ cmd. shuts_source cmd ≡ false → x ≡ false) → (x ≡ false → T) → IfSome o (λ cmd. shuts_source cmd ≡ false → T)
held_takes T None x is t = tt
held_takes T (Some c) x is t = λ e. t (is e)

-- ---- one put

module _ (k n : ℕ) (a b : BusView) (at : IsAt n k a) (right : Right b.journal b.records) where
  counted : (x : Entry) (e : b.journal ≡ put a.journal x) → count_by (is_line_of k) b.journal ≡ n + cond (is_line_of k x) 1 0
  counted x e = ap (count_by (is_line_of k)) e ∙ count-put (is_line_of k) (λ d. refl) a.journal x ∙ ap (λ (z : ℕ). z + cond (is_line_of k x) 1 0) (sym at.next)

  still : (r : Bool) (Is : Entry → Type 0) → Refuses r a b → Came k n n [] a b
  still r Is p = record {
    entries = [];
    behind = p.journal ∙ sym (append-nil a.journal);
    put = refl;
    number = omega arith;
    origin = put_origin r Is a b at.running.lawful.right (inr p);
    at = record {
      running = same_running a.journal b.journal a.records b.records p.journal p.records at.running;
      stored = put_stored r Is a b at.running.lawful.right at.stored (inr p);
      next = at.next ∙ sym (ap (count_by (is_line_of k)) p.journal);
    };
  }

  -- a step
  pub came_step : is_rested a.records k a.journal ≡ false → Puts false (IsStep k a) a b → Came k n n [] a b
  came_step busy (inr p) = still false (IsStep k a) p
  came_step busy (inl p) =
      let s = p.is_it in
      let y : Entry = Step k s.serial s.branch s.item in
      let e : b.journal ≡ put a.journal y = p.journal ∙ ap (put a.journal) s.is in
      record {
        entries = y ∷ [];
        behind = e ∙ put-step a.journal k s.serial s.branch s.item;
        put = (refl, refl);
        number = omega arith;
        origin = put_origin false (IsStep k a) a b at.running.lawful.right (inl p);
        at = record {
          running = subst (λ z. Running z b.records) (sym e)
              (right-runs a.journal a.records b.records y at.running (step-is-put k s.serial s.branch s.item) (subst (λ z. Right z b.records) e right) (picked_some k (ready a.records a.journal) (s.serial, s.branch) s.picked, s.picked) busy);
          stored = put_stored false (IsStep k a) a b at.running.lawful.right at.stored (inl p);
          next = sym (counted y e ∙ omega arith);
        };
      }

  -- the line of a command, with the Again behind it where it restarts
  line_put : (c : Cmd) (again : Entry → Entry) → ((x : Entry) → ArePut k (n + 1) [] (more a.journal x) (again x ∷ [])) → (restarts : Bool)
      → ArePut k n (c ∷ []) a.journal (if restarts then Line k n (put_as a.journal c) ∷ again (Line k n (put_as a.journal c)) ∷ [] else Line k n (put_as a.journal c) ∷ [])
  line_put c again skips true = (refl, refl, (c, [], refl, refl, skips (Line k n (put_as a.journal c))))
  line_put c again skips false = (refl, refl, (c, [], refl, refl, refl))

  -- a line
  pub came_line : (c : Cmd) → k < 16 → is_rested a.records k a.journal ≡ true → list_any (shuts k) a.journal ≡ false → Adds (restarts c) (IsLineOf n k c a) a b → Came k n (n + 1) (c ∷ []) a b
  came_line c low rested unshut p =
      let y : Entry = Line k n (put_as a.journal c) in
      let e : b.journal ≡ put a.journal y = p.journal ∙ ap (put a.journal) p.is_it in
      record {
        entries = appended a.journal y;
        behind = e ∙ put-appends a.journal y;
        put = line_put c (λ x. again_of (more a.journal x)) (λ x. refl) (is_restart y);
        number = refl;
        origin = put_origin (restarts c) (IsLineOf n k c a) a b at.running.lawful.right (inl p);
        at = record {
          running = subst (λ z. Running z b.records) (sym e)
              (right-runs a.journal a.records b.records y at.running (line-put k n (put_as a.journal c)) (subst (λ z. Right z b.records) e right) (low, rested, at.next, unshut, put-lets a.journal c) tt);
          stored = put_stored (restarts c) (IsLineOf n k c a) a b at.running.lawful.right at.stored (inl p);
          next = sym (counted y e ∙ ap (λ (z : Bool). n + cond z 1 0) (eqb_self k));
        };
      }

  pub refused_line : (c : Cmd) → Refuses (restarts c) a b → Came k n n [] a b
  refused_line c p = still (restarts c) (IsLineOf n k c a) p

-- ---- steps until the source is rested

pub step_more : (k : ℕ) (a b c : BusView) → ((n : ℕ) → IsAt n k a → Came k n n [] a b) → Right c.journal c.records → is_rested b.records k b.journal ≡ false → Puts false (IsStep k b) b c
    → (n : ℕ) → IsAt n k a → Came k n n [] a c
step_more k a b c came right busy put n at =
    let p = came n at in came_then k n n n [] [] a b c p (came_step k n b c p.at right busy put)

-- ---- a line

pub few_lines : (k n : ℕ) (a : BusView) → IsAt n k a → IsWithin a.journal → n ≤ 4_194_304
few_lines k n a at within = omega (arith, at.next, within.room, count_by-le-length (is_line_of k) a.journal)

-- a command that lacks room may have lacked it
may_lack : (j : Journal) (c : Cmd) → LacksRoom j (restarts c) → MayLackRoom j c
may_lack j c (inl full) = inl full
may_lack j c (inr lacks) = inr lacks.0

module _ (k n : ℕ) (a b : BusView) (c : Cmd) (at : IsAt n k a) (low : k < 16) (rested : is_rested a.records k a.journal ≡ true) (unshut : list_any (shuts k) a.journal ≡ false)
    (right : Right b.journal b.records) (put : Puts (restarts c) (IsLineOf n k c a) a b) where
  -- whether it was put is seen by the length of the journal
  pub line_came : ((length b.journal ≡ length a.journal) → ⊥) → Came k n (n + 1) (c ∷ []) a b
  line_came longer = by put
    where
      by : Puts (restarts c) (IsLineOf n k c a) a b → Came k n (n + 1) (c ∷ []) a b
      by (inl p) = came_line k n a b at right c low rested unshut p
      by (inr p) = absurd (longer (ap length p.journal))

  pub line_some : ((length b.journal ≡ length a.journal) → ⊥) → CameSome k n (n + 1) (c ∷ []) [] a b
  line_some longer = record { put = c ∷ []; parts = refl; came = line_came longer; full = λ e. absurd (by put e) }
    where
      by : Puts (restarts c) (IsLineOf n k c a) a b → b.first ≡ Some BusFault.Full → ⊥
      by (inl p) e = added_full (restarts c) (IsLineOf n k c a) a b p e
      by (inr p) e = longer (ap length p.journal)

  pub line_refused : length b.journal ≡ length a.journal → CameSome k n n (c ∷ []) (c ∷ []) a b × (is_none b.first ≡ false) × (list_any (shuts k) b.journal ≡ false)
  line_refused same = by put
    where
      none : (o : Option BusFault) → IsRefusal o → is_none o ≡ false
      none None h = absurd h
      none (Some f) h = refl

      by : Puts (restarts c) (IsLineOf n k c a) a b → CameSome k n n (c ∷ []) (c ∷ []) a b × (is_none b.first ≡ false) × (list_any (shuts k) b.journal ≡ false)
      by (inl p) = absurd (omega (arith, same, ap length p.journal, longer-put a.journal p.entry))
      by (inr p) = (
        record { put = []; parts = refl; came = refused_line k n a b at right c p; full = λ e. inr (subst (λ (j : Journal). MayLackRoom j c) (sym p.journal) (may_lack a.journal c (p.full e))) },
        none b.first p.refusal,
        ap (list_any (shuts k)) p.journal ∙ unshut,
      )

  pub line_unshut : shuts_source c ≡ false → list_any (shuts k) b.journal ≡ false
  line_unshut leaves = by put
    where
      by : Puts (restarts c) (IsLineOf n k c a) a b → list_any (shuts k) b.journal ≡ false
      by (inl p) = line_leaves n k c a b p unshut leaves
      by (inr p) = ap (list_any (shuts k)) p.journal ∙ unshut
