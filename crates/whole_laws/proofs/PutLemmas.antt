-- What one put appends: its entry, and behind a Restart the Again.
use Rattle.std.proofs.Common.{◌≡◌, ℕ, ◌+◌, ◌-◌, ◌<◌, ◌≤◌, List, [], ◌∷◌, ◌++◌, length, take, Bool, true, false, cond, refl, sym, ap, subst, ◌∙◌, arith, append_assoc, length-append}
use Rattle.std.specs.Prelude.{None, Some, count_by, fold, ◌||◌, if◌then◌else◌}
use Rattle.std.specs.List.{list_any}
use Rattle.std.proofs.Math.Seq.{take-append_seam}
use Rattle.ha_journal.specs.declared.entry.Entry.{Entry}
use Rattle.ha_journal.specs.declared.entry.Entry.TheVariants.{Boot, Line, Step, Again}
use Rattle.ha_config.specs.declared.command.Cmd.{Cmd}
use Rattle.ha_config.specs.Fair.{no_automation, of_helper, too_many_reloads}
use Rattle.ha_config.specs.Helpers.{is_helper}
use Rattle.ha_sight.specs.declared.item.Item.{Item}
use Rattle.ha_journal.specs.Commands.{has_automation, lets_reload, put_as}
use Rattle.ha_journal.specs.Entries.{Reopening, again_in, is_again, is_restart, restarts}
use Rattle.ha_journal.specs.Journal.{Journal, HasEntry, helpers, more}
use Rattle.ha_model.specs.Records.{last_is}
use Rattle.ha_whole.specs.Segments.{cut, reopened, segment}
use Rattle.ha_whole.specs.Whole.{AreEntries, AreShort, HasRoom, IsBehind, IsFirst, IsJournal, IsWithin, again_of, appended, before_put, carry_of, ends_segment, most_in_segment, put}
use Rattle.ha_journal.proofs.MoreLemmas.{length-more}
use Rattle.ha_model.proofs.LastEntry as last
use Rattle.ha_config.proofs.ListLemmas.{true-false}
use Rattle.ha_laws.proofs.RightMore.{each-last}
use Rattle.whole_laws.specs.Puts.{IsPut}
use Rattle.whole_laws.proofs.CutLemmas.{closed-again, closed-on, segment-again, segment-on}
use Rattle.whole_laws.proofs.LiftLemmas.{ends-more, entries-have}

-- LAW: a put appends its entry, and behind a Restart the Again
pub put-appends : (j : Journal) (x : Entry) → put j x ≡ j ++ appended j x
put-appends j x = (λ i. if ends-more j x i then more (more j x) (again_of (more j x)) else more j x) ∙ by (is_restart x)
  where
    by : (b : Bool) → (if b then more (more j x) (again_of (more j x)) else more j x) ≡ j ++ (if b then x ∷ again_of (more j x) ∷ [] else x ∷ [])
    by true = append_assoc j (x ∷ []) (again_of (more j x) ∷ [])
    by false = refl

pub put-on : (j : Journal) (x : Entry) → is_restart x ≡ false → put j x ≡ more j x
put-on j x e = (λ i. if (ends-more j x ∙ e) i then more (more j x) (again_of (more j x)) else more j x)

pub put-restart : (j : Journal) (x : Entry) → is_restart x ≡ true → put j x ≡ more (more j x) (again_of (more j x))
put-restart j x e = (λ i. if (ends-more j x ∙ e) i then more (more j x) (again_of (more j x)) else more j x)

-- the two ways of a put
pub data Way (j : Journal) (x : Entry) : Type 0 where
  Once : is_restart x ≡ false → put j x ≡ more j x → Way j x
  Twice : is_restart x ≡ true → put j x ≡ more (more j x) (again_of (more j x)) → Way j x

pub way-of : (j : Journal) (x : Entry) → Way j x
way-of j x = by (is_restart x) refl
  where
    by : (b : Bool) → is_restart x ≡ b → Way j x
    by true e = Twice e (put-restart j x e)
    by false e = Once e (put-on j x e)

-- what holds with one entry more, and with a second one where the first is a Restart, holds with one put more
pub by-way : (P : Journal → Type 0) (j : Journal) (x : Entry) → (is_restart x ≡ false → P (more j x)) → (is_restart x ≡ true → P (more (more j x) (again_of (more j x)))) → P (put j x)
by-way P j x f g = by (way-of j x)
  where
    by : Way j x → P (put j x)
    by (Once e is) = subst P (sym is) (f e)
    by (Twice e is) = subst P (sym is) (g e)

-- ---- what is put

pub line-put : (source number : ℕ) (cmd : Cmd) → IsPut (Line source number cmd)
line-put source number cmd = record { none = refl; not_boot = λ h. h }

pub step-is-put : (worker serial : ℕ) (branch : List ℕ) (item : Item) → IsPut (Step worker serial branch item)
step-is-put worker serial branch item = record { none = refl; not_boot = λ h. h }

-- what stands for a command restarts where the command does
pub put-restarts : (j : Journal) (source number : ℕ) (cmd : Cmd) → is_restart (Line source number (put_as j cmd)) ≡ restarts cmd
put-restarts j source number (Cmd.Report entity text attributes) = of-helper (is_helper (helpers j) entity)
  where
    of-helper : (b : Bool) → is_restart (Line source number (if b then Cmd.Refused of_helper else Cmd.Report entity text attributes)) ≡ false
    of-helper true = refl
    of-helper false = refl
put-restarts j source number (Cmd.Gone entity) = of-helper (is_helper (helpers j) entity)
  where
    of-helper : (b : Bool) → is_restart (Line source number (if b then Cmd.Refused of_helper else Cmd.Gone entity)) ≡ false
    of-helper true = refl
    of-helper false = refl
put-restarts j source number (Cmd.Event kind pairs) = refl
put-restarts j source number (Cmd.Moment at) = refl
put-restarts j source number (Cmd.Switch name on stop) = named (has_automation j name)
  where
    named : (b : Bool) → is_restart (Line source number (if b then Cmd.Switch name on stop else Cmd.Refused no_automation)) ≡ false
    named true = refl
    named false = refl
put-restarts j source number (Cmd.Trigger name skip) = named (has_automation j name)
  where
    named : (b : Bool) → is_restart (Line source number (if b then Cmd.Trigger name skip else Cmd.Refused no_automation)) ≡ false
    named true = refl
    named false = refl
put-restarts j source number Cmd.Restart = refl
put-restarts j source number (Cmd.Reload text None) = refl
put-restarts j source number (Cmd.Reload text (Some config)) = by (lets_reload j)
  where
    by : (b : Bool) → is_restart (Line source number (if b then Cmd.Reload text (Some config) else Cmd.Refused too_many_reloads)) ≡ false
    by true = refl
    by false = refl
put-restarts j source number (Cmd.Refused code) = refl
put-restarts j source number Cmd.Lost = refl
put-restarts j source number Cmd.TooLong = refl

-- what tells the same with one entry more that is no Again's tells the same with one put more
pub same-by-put : {X : Type 0} (f : Journal → X) (j : Journal) (x : Entry) → ((k : Journal) → f (more k (again_of k)) ≡ f k) → f (put j x) ≡ f (more j x)
same-by-put f j x again = by-way (λ k. f k ≡ f (more j x)) j x (λ e. refl) (λ e. again (more j x))

pub longer-put : (j : Journal) (x : Entry) → length j < length (put j x)
longer-put j x =
    by-way (λ k. length j < length k) j x (λ e. omega (arith, length-more j x))
    (λ e. omega (arith, length-more (more j x) (again_of (more j x)), length-more j x))

count-snoc : {X : Type 0} (p : X → Bool) (n : ℕ) (xs : List X) (x : X) → fold (λ m y. m + cond (p y) 1 0) n (xs ++ (x ∷ [])) ≡ fold (λ m y. m + cond (p y) 1 0) n xs + cond (p x) 1 0
count-snoc p n [] x = refl
count-snoc p n (y ∷ ys) x = count-snoc p (n + cond (p y) 1 0) ys x

-- what is counted of entries that are no Again
pub count-put : (p : Entry → Bool) → ((k : Journal) → p (again_of k) ≡ false) → (j : Journal) (x : Entry) → count_by p (put j x) ≡ count_by p j + cond (p x) 1 0
count-put p none j x =
    same-by-put (count_by p) j x (λ k. count-snoc p 0 k (again_of k) ∙ (λ i. count_by p k + cond (none k i) 1 0) ∙ omega arith)
    ∙ count-snoc p 0 j x

any-snoc : (p : Entry → Bool) (xs : Journal) (x : Entry) → list_any p (xs ++ (x ∷ [])) ≡ (list_any p xs || p x)
any-snoc p [] x = or-false (p x)
  where
    or-false : (b : Bool) → (b || false) ≡ b
    or-false true = refl
    or-false false = refl
any-snoc p (y ∷ ys) x = (λ i. p y || any-snoc p ys x i) ∙ or-assoc (p y) (list_any p ys) (p x)
  where
    or-assoc : (a b c : Bool) → (a || (b || c)) ≡ ((a || b) || c)
    or-assoc true b c = refl
    or-assoc false b c = refl

or-none : (b : Bool) → (b || false) ≡ b
or-none true = refl
or-none false = refl

-- whether an entry that is no Again is there
pub any-put : (p : Entry → Bool) → ((k : Journal) → p (again_of k) ≡ false) → (j : Journal) (x : Entry) → list_any p (put j x) ≡ (list_any p j || p x)
any-put p none j x =
    same-by-put (list_any p) j x (λ k. any-snoc p k (again_of k) ∙ (λ i. list_any p k || none k i) ∙ or-none (list_any p k))
    ∙ any-snoc p j x

-- ---- back to the journal before it

last-again : (j : Journal) (x : Entry) → last_is is_again (more j x) ≡ is_again x
last-again j x = last.last-is is_again j x

without : ℕ → Bool → ℕ
without n b = n - (if b then 2 else 1)

front-part : (j xs : Journal) (n : ℕ) → n ≡ length j → take n (j ++ xs) ≡ j
front-part j xs n e = (λ i. take (e i) (j ++ xs)) ∙ take-append_seam j xs

pub before-one : (j : Journal) (x : Entry) → is_again x ≡ false → before_put (more j x) ≡ j
unfolding without
before-one j x other =
    let n : length (more j x) - 1 ≡ length j = omega (arith, length-more j x) in
    (λ i. take (without (length (more j x)) ((last-again j x ∙ other) i)) (more j x)) ∙ front-part j (x ∷ []) (length (more j x) - 1) n

pub before-two : (j : Journal) (x y : Entry) → is_again y ≡ true → before_put (more (more j x) y) ≡ j
unfolding without
before-two j x y same =
    let k : Journal = more (more j x) y in
    let n : length k - 2 ≡ length j = omega (arith, length-more (more j x) y, length-more j x) in
    (λ i. take (without (length k) ((last-again (more j x) y ∙ same) i)) k)
    ∙ (λ i. take (length k - 2) (append_assoc j (x ∷ []) (y ∷ []) i))
    ∙ front-part j (x ∷ y ∷ []) (length k - 2) n

pub before-put : (j : Journal) (x : Entry) → is_again x ≡ false → before_put (put j x) ≡ j
before-put j x other = by-way (λ k. before_put k ≡ j) j x (λ e. before-one j x other) (λ e. before-two j x (again_of (more j x)) refl)

-- ---- the last put of a journal

pub record LastPut (j : Journal) : Type 0 where
  pub before : Journal
  pub entry : Entry
  pub is : j ≡ put before entry
  pub plain : is_again entry ≡ false

has-last : (j : Journal) → HasEntry j → (b : Journal) × (y : Entry) × (j ≡ more b y)
has-last [] h = absurd h
has-last (e ∷ []) h = ([], e, refl)
has-last (e ∷ f ∷ es) h = let rest = has-last (f ∷ es) tt in (e ∷ rest.0, rest.1, ap (λ (l : Journal). e ∷ l) rest.2)

plain-restart : (x : Entry) → is_restart x ≡ true → is_again x ≡ false
plain-restart (Boot text config stored start zone carry) h = refl
plain-restart (Line source number cmd) h = refl
plain-restart (Step worker serial branch item) h = refl
plain-restart (Again number start stored carry) h = absurd (true-false (sym h))

first-plain : (e : Entry) → IsFirst e → is_again e ≡ false
first-plain (Boot text config stored start zone carry) h = refl
first-plain (Line source number cmd) h = absurd h
first-plain (Step worker serial branch item) h = absurd h
first-plain (Again number start stored carry) h = absurd h

-- behind which entries an Again stands
again-last : (b : Journal) (y : Entry) → AreEntries (more b y) → is_again y ≡ true → HasEntry b × (ends_segment b ≡ true) × (y ≡ again_of b)
again-last [] y h same = absurd (true-false (sym same ∙ first-plain y h.0))
again-last (e ∷ es) y h same = let b = behind (e ∷ es) y (each-last IsBehind (e ∷ []) es y h.1) same in (tt, b.0, b.1)
  where
    behind : (b : Journal) (y : Entry) → IsBehind b y → is_again y ≡ true → (ends_segment b ≡ true) × (y ≡ again_of b)
    behind b (Boot text config stored start zone carry) h same = absurd h
    behind b (Line source number cmd) h same = absurd (true-false (sym same))
    behind b (Step worker serial branch item) h same = absurd (true-false (sym same))
    behind b (Again number start stored carry) h same = h

-- LAW: each journal has a last put
pub last-put : (j : Journal) → IsJournal j → LastPut j
last-put j h = by (has-last j (entries-have j h.entries))
  where
    by : (b : Journal) × (y : Entry) × (j ≡ more b y) → LastPut j
    by (b, y, is) = cases (is_again y) refl
      where
        cases : (c : Bool) → is_again y ≡ c → LastPut j
        cases false other =
            let open_end : is_restart y ≡ false = sym (ends-more b y) ∙ (λ i. ends_segment (sym is i)) ∙ h.opened in
            record { before = b; entry = y; is = is ∙ sym (put-on b y open_end); plain = other }
        cases true same =
            let stood = again-last b y (subst AreEntries is h.entries) same in
            let last = has-last b stood.0 in
            let restarts : is_restart last.1 ≡ true = sym (ends-more last.0 last.1) ∙ (λ i. ends_segment (sym last.2 i)) ∙ stood.1 in
            let again : y ≡ again_of (more last.0 last.1) = stood.2 ∙ (λ i. again_of (last.2 i)) in
            record {
              before = last.0;
              entry = last.1;
              is = is ∙ (λ i. more (last.2 i) (again i)) ∙ sym (put-restart last.0 last.1 restarts);
              plain = plain-restart last.1 restarts;
            }

-- one put alone is one entry
pub first-put : (j : Journal) (x : Entry) → j ≡ put [] x → AreEntries j → length j ≡ 1
first-put j x is h = by (way-of [] x)
  where
    first-open : (e : Entry) → IsFirst e → is_restart e ≡ false
    first-open (Boot text config stored start zone carry) h = refl
    first-open (Line source number cmd) h = absurd h
    first-open (Step worker serial branch item) h = absurd h
    first-open (Again number start stored carry) h = absurd h

    by : Way [] x → length j ≡ 1
    by (Once e on) = ap length (is ∙ on)
    by (Twice e on) =
        let whole : AreEntries (x ∷ again_of (x ∷ []) ∷ []) = subst AreEntries (is ∙ on) h in
        absurd (true-false (sym e ∙ first-open x whole.0))

-- ---- room

reopened-short : (s : Journal) (a : Reopening) → length (reopened s a) ≤ 1
reopened-short [] a = omega arith
reopened-short (Boot text config stored start zone carry ∷ es) a = omega arith
reopened-short (Line source number cmd ∷ es) a = omega arith
reopened-short (Step worker serial branch item ∷ es) a = omega arith
reopened-short (Again number start stored carry ∷ es) a = omega arith

-- segments that are short, and one more
short-snoc : (ss : List Journal) (s : Journal) → AreShort ss → length s ≤ most_in_segment → AreShort (ss ++ (s ∷ []))
short-snoc [] s h le = (le, tt)
short-snoc (t ∷ ss) s h le = (h.0, short-snoc ss s h.1 le)

short-front : (ss : List Journal) (s : Journal) → AreShort (ss ++ (s ∷ [])) → AreShort ss
short-front [] s h = tt
short-front (t ∷ ss) s h = (h.0, short-front ss s h.1)

-- LAW: with one put more, for which there was room, no bound is passed
pub within-put : (j : Journal) (x : Entry) → again_in x ≡ None → IsWithin j → HasRoom j (is_restart x) → IsWithin (put j x)
within-put j x none h room = by-way IsWithin j x one two
  where
    closed_short : AreShort (cut (more j x)).closed
    closed_short = subst AreShort (sym (closed-on j x none)) (short-front (cut j).closed (segment j) h.segment_room)

    last_short : length (segment (more j x)) ≤ most_in_segment
    last_short = (let n = ap length (segment-on j x none) ∙ length-more (segment j) _ in omega (arith, n, room.segment_room))

    one : is_restart x ≡ false → IsWithin (more j x)
    one e = record {
      segment_room = short-snoc (cut (more j x)).closed (segment (more j x)) closed_short last_short;
      room = omega (arith, length-more j x, room.room);
      segments_room =
          (let n = ap length (closed-on j x none) in
          let a = length-append (cut (more j x)).closed (segment (more j x) ∷ []) in
          let b = length-append (cut j).closed (segment j ∷ []) in omega (arith, n, a, b, h.segments_room));
    }

    two : is_restart x ≡ true → IsWithin (more (more j x) (again_of (more j x)))
    two e =
        let y : Entry = again_of (more j x) in
        let k : Journal = more j x in
        let a : Reopening = record { number = _; start = _; stored = _; carry = carry_of k } in
        let r = room.restart e in
        record {
          segment_room =
              (let n = ap length (segment-again k y a refl) in
              let m = reopened-short (segment k) a in
              short-snoc (cut (more k y)).closed (segment (more k y)) (subst AreShort (sym (closed-again k y a refl)) (short-snoc (cut k).closed (segment k) closed_short last_short)) (omega (arith, n, m)));
          room = omega (arith, length-more k y, length-more j x, r.0);
          segments_room =
              (let n = ap length (closed-again k y a refl) in
              let a = length-append (cut (more k y)).closed (segment (more k y) ∷ []) in
              let b = length-append (cut k).closed (segment k ∷ []) in
              let m = ap length (closed-on j x none) in
              let c = length-append (cut j).closed (segment j ∷ []) in omega (arith, n, a, b, m, c, r.1));
        }
