-- What a pass knows when it gave a bus back with what its worker put.
use Rattle.std.proofs.Common.{◌≡◌, ◌∙◌, ◌+◌, inl, inr, ⊎_elim, ℕ, Bool, true, false, cond, List, [], ◌∷◌, ◌++◌, length, Option, Some, None, slice_get, ap, arith, refl, sym, subst, append-nil, append_assoc, length-append}
use Rattle.std.proofs.lemmas.Bool.{le-leb}
use Rattle.std.specs.Prelude.{◌-◌, if◌then◌else◌, IsSomeAnd}
use Rattle.std.specs.List.{list_any}
use Rattle.ha_config.specs.declared.command.Cmd.{Cmd}
use Rattle.ha_journal.specs.declared.entry.Entry.{Entry}
use Rattle.ha_journal.specs.declared.entry.Entry.TheVariants.{Boot, Line, Step, Again}
use Rattle.ha_journal.specs.Journal.{Journal}
use Rattle.ha_config.proofs.ListLemmas.{true-false}
use Rattle.ha_model.specs.Lawful.{shuts}
use Rattle.bus_turn.specs.declared.fault.BusFault.{BusFault}
use Rattle.bus_turn.specs.Shown.{BusView}
use Rattle.bus_pass.specs.Journal.{IsRestless, is_of}
use Rattle.bus_pass.specs.Origins.{origin_of}
use Rattle.bus_pass.specs.Reads.{Reading, cmd_at, due_in, read_for, reading, reads}
use Rattle.bus_pass.specs.Rule.{AreAsRead, MayGive, MayLackRoom, dues_after, gave, given, notes}
use Rattle.bus_pass.specs.declared.hand.Given.{Given}
use Rattle.bus_pass.specs.declared.hand.Hand.{Hand}
use Rattle.bus_pass.proofs.Lists.{grown_list, read_told}
use Rattle.ha_worker.specs.Came.{ArePut, CameSome, IsAt}
use Rattle.ha_worker.specs.Puts.{IsDue, NoLine, PutAll, PutSome}
use Rattle.ha_worker.specs.Views.{HasPut, Holds, IsOne, Sits, Takes, list_of, numbered, read_lines}
use Rattle.ha_worker.proofs.GiveLemmas.{dues_open, dues_read, dues_then, dues_unread, eqb_self, list_after, may_more, noted_then, one_after}
use Rattle.ha_worker.proofs.ListLemmas.{length-numbered, lines-append, list_count, list_shut, numbered-append}
use Rattle.ha_worker.proofs.LineLemmas.{all_behind, some_behind}

-- ---- the commands by their numbers

at_place : (xs ys : List Cmd) → slice_get (xs ++ ys) (length xs) ≡ slice_get ys 0
at_place [] ys = refl
at_place (x ∷ xs) ys = at_place xs ys

-- behind so many commands stands the first of the others
pub behind_some : (from : ℕ) (xs ys : List Cmd) (m : ℕ) → m ≡ from + length xs → cmd_at from (xs ++ ys) m ≡ slice_get ys 0
behind_some from xs ys m is =
    ap (λ (b : Bool). if b then slice_get (xs ++ ys) (m - from) else None) (le-leb from m (omega (arith, is)))
    ∙ ap (λ (i : ℕ). slice_get (xs ++ ys) i) (omega (arith, is)) ∙ at_place xs ys

-- ---- what was put is as it was read

abbrev AreRead : ℕ → ℕ → List Cmd → ℕ → ℕ → List Cmd → Journal → List Entry → Type 0
AreRead k from all n place cmds before es = AreAsRead k (read_for from all) before es × (read_lines (notes k place (read_for from all) es) ≡ numbered n cmds)

step_read : (b : Bool) (worker serial : ℕ) (branch : List ℕ) (item : _) (place : ℕ) (gs : List Given) (read : List (ℕ × Option Cmd)) → read_lines gs ≡ read → b ≡ true → read_lines (cond b (given place (Step worker serial branch item) None ∷ gs) gs) ≡ read
step_read true worker serial branch item place gs read h is = h
step_read false worker serial branch item place gs read h is = h

line_read : (b : Bool) (source number : ℕ) (cmd c : Cmd) (r : Option Cmd) (n place : ℕ) (gs : List Given) (read : List (ℕ × Option Cmd)) → read_lines gs ≡ read → b ≡ true → number ≡ n → r ≡ Some c
    → read_lines (cond b (given place (Line source number cmd) r ∷ gs) gs) ≡ (n, Some c) ∷ read
line_read true source number cmd c r n place gs read h is same e = λ i. (same i, e i) ∷ h i
line_read false source number cmd c r n place gs read h is same e = absurd (let bad : ◌≡◌ {A = Bool} false true = is in cc)

are_read : (k from : ℕ) (all pre post : List Cmd) (n place : ℕ) (cmds : List Cmd) (before es : Journal) → all ≡ pre ++ (cmds ++ post) → n ≡ from + length pre → ArePut k n cmds before es → AreRead k from all n place cmds before es
are_read k from all pre post n place cmds before [] parts at p = (tt, ap (numbered n) (sym p))
are_read k from all pre post n place cmds before (Boot text config stored start zone carry ∷ es) parts at p = absurd p
are_read k from all pre post n place cmds before (Again number start stored carry ∷ es) parts at p =
    let rest = are_read k from all pre post n (place + 1) cmds (before ++ Again number start stored carry ∷ []) es parts at p in
    ((λ e. absurd (true-false e), tt, rest.0), rest.1)
are_read k from all pre post n place cmds before (Line source number cmd ∷ es) parts at p =
    let t = p.2 in
    let c : Cmd = t.0 in
    let mine : is_of k (Line source number cmd) ≡ true = ap (λ (z : ℕ). is_of k (Line z number cmd)) p.0 ∙ eqb_self k in
    let whole : all ≡ pre ++ (c ∷ (t.1 ++ post)) = parts ∙ ap (λ (z : List Cmd). pre ++ (z ++ post)) t.2 in
    let read : cmd_at from all number ≡ Some c = ap (λ (z : List Cmd). cmd_at from z number) whole ∙ behind_some from pre (c ∷ (t.1 ++ post)) number (p.1 ∙ at) in
    let rest = are_read k from all (pre ++ (c ∷ [])) post (n + 1) (place + 1) t.1 (before ++ Line source number cmd ∷ []) es (whole ∙ sym (append_assoc pre (c ∷ []) (t.1 ++ post))) (omega (arith, at, length-append pre (c ∷ []))) t.4 in (
      (λ _. mine, (c, read, t.3), rest.0),
      line_read (is_of k (Line source number cmd)) source number cmd c (cmd_at from all number) n place (notes k (place + 1) (read_for from all) es) (numbered (n + 1) t.1) rest.1 mine p.1 read ∙ ap (numbered n) (sym t.2),
    )
are_read k from all pre post n place cmds before (Step worker serial branch item ∷ es) parts at p =
    let mine : is_of k (Step worker serial branch item) ≡ true = ap (λ (z : ℕ). is_of k (Step z serial branch item)) p.0 ∙ eqb_self k in
    let rest = are_read k from all pre post n (place + 1) cmds (before ++ Step worker serial branch item ∷ []) es parts at p.1 in (
      (λ _. mine, tt, rest.0),
      step_read (is_of k (Step worker serial branch item)) worker serial branch item place (notes k (place + 1) (read_for from all) es) (numbered n cmds) rest.1 mine,
    )

-- ---- a bus that is taken where its source takes a line

pub holds_at : (n k : ℕ) (u v : Hand) (a : BusView) → Takes n k u → NoLine u v → Holds k a v → IsAt n k a
holds_at n k u v a takes before h = record {
  running = h.running;
  stored = h.stored;
  next = takes.sits.next ∙ ap length (sym before.lines) ∙ sym (list_count a.journal k (list_of v) h.list);
}

pub holds_unshut : (n k : ℕ) (u v : Hand) (a : BusView) → Takes n k u → NoLine u v → Holds k a v → list_any (shuts k) a.journal ≡ false
holds_unshut n k u v a takes before h = list_shut a.journal k (list_of v) h.list ∙ before.shut k ∙ takes.unshut

-- ---- it goes back with what was put

module _ (k n m : ℕ) (all left : List Cmd) (u v : Hand) (a b : BusView) (takes : Takes n k u) (before : NoLine u v) (holds : Holds k a v) (free : a.first ≡ None) (some : CameSome k n m all left a b) where
  abbrev pub r : Reading
  r = reading n m all

  abbrev pub more : Journal
  more = some.came.entries

  next_is : n ≡ length (read_lines (list_of v))
  next_is = takes.sits.next ∙ ap length (sym before.lines)

  read_all : AreRead k n all n (length a.journal) some.put a.journal more
  read_all = are_read k n all [] left n (length a.journal) some.put a.journal more some.parts (omega arith) some.came.put

  due_is : due_in r ≡ slice_get left 0
  due_is = ap (λ (z : List Cmd). cmd_at n z m) some.parts ∙ behind_some n some.put left m some.came.number

  pub given_may : MayGive IsRestless v b.journal r b.first (origin_of b)
  given_may = may_more k v a b r holds some.came.origin free (record { entries = more; longer = some.came.behind; as_read = read_all.0 })
      (λ full. ⊎_elim (λ x. inl x) (λ x. inr (subst (λ o. IsSomeAnd o (MayLackRoom b.journal)) (sym due_is) x)) (some.full full))

  module _ (w : Hand) (is : w ≡ gave v b.journal r b.first (origin_of b)) where
    abbrev pub added : List Given
    added = notes k (length a.journal) (reads r) more

    list : list_of w ≡ list_of v ++ added
    list = list_after k v w a r b holds more some.came.behind is

    lines : read_lines (list_of w) ≡ read_lines (list_of v) ++ numbered n some.put
    lines = ap read_lines list ∙ lines-append (list_of v) added ∙ ap (λ (z : List (ℕ × Option Cmd)). read_lines (list_of v) ++ z) read_all.1

    one : IsOne k w
    one = one_after k v w a r b holds more some.came.behind is

    puts : (done : List Cmd) → HasPut (list_of v) done → HasPut (list_of w) (done ++ some.put)
    puts done has =
        let count : n ≡ 0 + length done = omega (arith, next_is ∙ ap length has ∙ length-numbered 0 done) in
        lines ∙ ap (λ (z : List (ℕ × Option Cmd)). z ++ numbered n some.put) has ∙ ap (λ (z : ℕ). numbered 0 done ++ numbered z some.put) count ∙ sym (numbered-append 0 done some.put)

    dues_are : w.dues ≡ dues_after v r b.first
    dues_are = dues_then k v w a r b holds more some.came.behind is

    due_by : (ls : List Cmd) → due_in r ≡ slice_get ls 0 → IsDue k ls v w
    due_by [] e = inl (dues_are ∙ dues_unread k v r b.first holds.one e)
    due_by (c ∷ cs) e = ⊎_elim (λ x. inl (dues_are ∙ x)) (λ x. inr (c, cs, refl, dues_are ∙ x)) (dues_read k v r c b.first holds.one e)

    some_here : PutSome k all v w
    some_here = record { put = some.put; unput = left; parts = some.parts; puts = puts; due = due_by left due_is }

    pub given_some : PutSome k all u w
    given_some = some_behind k all u v w before some_here

    pub given_noted : w.noted ≡ b.first
    given_noted = noted_then k v w a r b holds more some.came.behind is

    pub given_all : left ≡ [] → b.first ≡ None → PutAll k all u w
    given_all none ends =
        let same : all ≡ some.put = some.parts ∙ ap (λ (z : List Cmd). some.put ++ z) none ∙ append-nil some.put in
        let p : PutAll k all v w = record {
          puts = λ done has. subst (λ (z : List Cmd). HasPut (list_of w) (done ++ z)) (sym same) (puts done has);
          dues = dues_are ∙ dues_open v r b.first (λ e. absurd (let bad : ◌≡◌ {A = Option BusFault} None (Some BusFault.Full) = sym ends ∙ e in cc));
        } in
        all_behind k all u v w before p

    pub given_sits : Sits m k w
    given_sits = record {
      one = one;
      next = some.came.number ∙ sym (ap length lines ∙ length-append (read_lines (list_of v)) (numbered n some.put) ∙ omega (arith, next_is, length-numbered n some.put));
    }

    pub given_takes : list_any (shuts k) b.journal ≡ false → Takes m k w
    given_takes unshut = record {
      sits = given_sits;
      unshut =
          let told = read_told k k (reads r) a.journal more read_all.0 in
          let grows = grown_list a.journal more k (reads r) (list_of v) told holds.list in
          sym (list_shut (a.journal ++ more) k (list_of v ++ added) grows ∙ ap (list_any (λ (g : Given). shuts k g.entry)) (sym list)) ∙ ap (list_any (shuts k)) (sym some.came.behind) ∙ unshut;
    }
