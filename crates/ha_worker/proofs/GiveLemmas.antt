-- What a pass knows after a take and after a give, and what it may give.
use Rattle.std.proofs.Common.{◌≡◌, ◌∙◌, ◌==◌, ◌⊎◌, inl, inr, ⊎_elim, ℕ, Bool, true, false, cond, List, [], ◌∷◌, ◌++◌, length, drop, Option, Some, None, ap, refl, sym, subst, append-nil}
use Rattle.std.specs.Prelude.{IsSomeAnd}
use Rattle.std.specs.List.{list_any}
use Rattle.std.proofs.lemmas.Bool.Decides.{eqb_tells}
use Rattle.std.proofs.Math.Seq.{drop-append_seam}
use Rattle.ha_config.specs.declared.command.Cmd.{Cmd}
use Rattle.ha_journal.specs.declared.entry.Entry.{Entry}
use Rattle.ha_journal.specs.Journal.{Journal}
use Rattle.ha_model.specs.Lawful.{shuts}
use Rattle.ha_whole.specs.Whole.{IsFull, Running}
use Rattle.bus_turn.specs.declared.fault.BusFault.{BusFault}
use Rattle.bus_turn.specs.Shown.{BusView}
use Rattle.bus_pass.specs.Journal.{IsRestless}
use Rattle.bus_pass.specs.Origins.{IsStored, origin_of}
use Rattle.bus_pass.specs.Reads.{Reading, due_in, reading, reads}
use Rattle.bus_pass.specs.Rule.{MayGive, MayLackRoom, More, Stands, Tells, dues_after, due_of, gave, grown, is_full, notes, size_of, stood, took}
use Rattle.bus_pass.specs.declared.hand.Given.{Given}
use Rattle.bus_pass.specs.declared.hand.Hand.{Hand}
use Rattle.bus_pass.specs.declared.hand.Stood.{Stood}
use Rattle.ha_worker.specs.Puts.{NoLine}
use Rattle.ha_worker.specs.Views.{Holds, IsOne, Sits, StandsFor, first_list, list_of, read_lines}

pub eqb_self : (k : ℕ) → (k == k) ≡ true
eqb_self k = ⊎_elim (λ t. t.0) (λ t. absurd (t.1 refl)) (eqb_tells k k)

-- ---- after a take

pub took_holds : (k : ℕ) (v w : Hand) (b : BusView) → IsOne k v → w ≡ took v b.journal b.first (origin_of b) → Tells IsRestless v b.journal b.first (origin_of b) → Running b.journal b.records → IsStored b → Holds k b w
took_holds k v w b one is tells running stored = subst (Holds k b) (sym is) (record {
  one = record { later = one.one.later; stands = one.one.stands };
  taken = refl;
  noted = refl;
  origin = refl;
  list = tells.lists k (list_of v) (subst (λ (ss : List Stood). Stands ss k (list_of v)) (sym one.one.stands) (inl (refl, refl)));
  running = running;
  stored = stored;
})

pub took_lines : (v w : Hand) (b : BusView) → w ≡ took v b.journal b.first (origin_of b) → NoLine v w
took_lines v w b is = subst (NoLine v) (sym is) (record { lines = refl; shut = λ k. refl; dues = refl })

pub no_line_then : (u v w : Hand) → NoLine u v → NoLine v w → NoLine u w
no_line_then u v w p q = record { lines = q.lines ∙ p.lines; shut = λ k. q.shut k ∙ p.shut k; dues = q.dues ∙ p.dues }

-- the number of the next line stays
pub sits_still : (n k : ℕ) (u v : Hand) → Sits n k u → NoLine u v → IsOne k v → Sits n k v
sits_still n k u v s p one = record { one = one; next = s.next ∙ ap length (sym p.lines) }

-- ---- what may be given

-- what is told of a give for which nothing was read
abbrev pub nothing : Reading
nothing = reading 0 0 []

module _ (k : ℕ) (v : Hand) (a b : BusView) (r : Reading) (holds : Holds k a v) (origin : origin_of b ≡ origin_of a) where
  still : v.origin ≡ Some (origin_of b)
  still = holds.origin ∙ ap Some (sym origin)

  -- no entry more
  pub may_same : b.journal ≡ a.journal → ((f : BusFault) → a.first ≡ Some f → b.first ≡ Some f) → (b.first ≡ Some BusFault.Full → (a.first ≡ Some BusFault.Full) ⊎ ((IsFull b.journal × IsRestless b.journal) ⊎ IsSomeAnd (due_in r) (MayLackRoom b.journal)))
      → MayGive IsRestless v b.journal r b.first (origin_of b)
  may_same same fault full = record {
    worker = k;
    list = list_of v;
    old = a.journal;
    holds = holds.taken;
    stands = holds.one.stands;
    put = inl same;
    fault = λ f e. fault f (sym holds.noted ∙ e);
    full = λ e. ⊎_elim (λ was. inl (holds.noted ∙ was)) (λ why. inr why) (full e);
    same_origin = still;
  }

  -- entries of the worker more
  pub may_more : a.first ≡ None → More k (reads r) a.journal b.journal → (b.first ≡ Some BusFault.Full → (IsFull b.journal × IsRestless b.journal) ⊎ IsSomeAnd (due_in r) (MayLackRoom b.journal)) → MayGive IsRestless v b.journal r b.first (origin_of b)
  may_more free more full = record {
    worker = k;
    list = list_of v;
    old = a.journal;
    holds = holds.taken;
    stands = holds.one.stands;
    put = inr (holds.noted ∙ free, more);
    fault = λ f e. absurd (let bad : ◌≡◌ {A = Option BusFault} None (Some f) = sym free ∙ sym holds.noted ∙ e in cc);
    full = λ e. inr (full e);
    same_origin = still;
  }

-- the bus as it was taken
pub may_back : (k : ℕ) (v : Hand) (a : BusView) (r : Reading) → Holds k a v → MayGive IsRestless v a.journal r a.first (origin_of a)
may_back k v a r holds = may_same k v a a r holds refl refl (λ f e. e) (λ e. inl e)

-- ---- after a give

module _ (k : ℕ) (v w : Hand) (a : BusView) (r : Reading) (b : BusView) (holds : Holds k a v) (more : List Entry) (longer : b.journal ≡ a.journal ++ more)
    (is : w ≡ gave v b.journal r b.first (origin_of b)) where
  stands_after : w.stands ≡ stood k (list_of v ++ notes k (length a.journal) (reads r) more) ∷ []
  stands_after = ap (λ (u : Hand). u.stands) is
      ∙ ap (λ (t : Option Journal). grown (size_of t) (reads r) (drop (size_of t) b.journal) v.stands) holds.taken
      ∙ ap (λ (t : Journal). grown (length a.journal) (reads r) (drop (length a.journal) t) v.stands) longer
      ∙ ap (λ (t : List Entry). grown (length a.journal) (reads r) t v.stands) (drop-append_seam a.journal more)
      ∙ ap (λ (t : List Stood). grown (length a.journal) (reads r) more t) holds.one.stands

  pub list_after : list_of w ≡ list_of v ++ notes k (length a.journal) (reads r) more
  list_after = ap first_list stands_after

  pub one_after : IsOne k w
  one_after = record {
    one = record {
      later = ap (λ (u : Hand). u.first) is ∙ holds.one.later;
      stands = stands_after ∙ ap (λ (t : List Given). stood k t ∷ []) (sym list_after);
    };
    idle = ap (λ (u : Hand). u.taken) is;
  }

  pub dues_then : w.dues ≡ dues_after v r b.first
  dues_then = ap (λ (u : Hand). u.dues) is

  pub noted_then : w.noted ≡ b.first
  noted_then = ap (λ (u : Hand). u.noted) is

-- no command is due where none is left
pub dues_unread : (k : ℕ) (v : Hand) (r : Reading) (f : Option BusFault) → StandsFor k v → due_in r ≡ None → dues_after v r f ≡ v.dues
dues_unread k v r f one none =
    ap (λ (ss : List Stood). cond (is_full f) (cond (is_full v.noted) v.dues (due_of ss (due_in r) ++ v.dues)) v.dues) one.stands
    ∙ ap (λ (o : Option Cmd). cond (is_full f) (cond (is_full v.noted) v.dues (due_of (stood k (list_of v) ∷ []) o ++ v.dues)) v.dues) none ∙ by (is_full f) (is_full v.noted)
  where
    by : (x y : Bool) → cond x (cond y v.dues v.dues) v.dues ≡ v.dues
    by true true = refl
    by true false = refl
    by false y = refl

-- nor where the journal is not full
pub dues_open : (v : Hand) (r : Reading) (f : Option BusFault) → (f ≡ Some BusFault.Full → ⊥) → dues_after v r f ≡ v.dues
dues_open v r None never = refl
dues_open v r (Some (BusFault.Write zero)) never = refl
dues_open v r (Some BusFault.Keep) never = refl
dues_open v r (Some BusFault.Full) never = absurd (never refl)
dues_open v r (Some BusFault.Memory) never = refl

-- else the first that is left may be
pub dues_read : (k : ℕ) (v : Hand) (r : Reading) (c : Cmd) (f : Option BusFault) → StandsFor k v → due_in r ≡ Some c → (dues_after v r f ≡ v.dues) ⊎ (dues_after v r f ≡ (k, c) ∷ v.dues)
dues_read k v r c f one is =
    ⊎_elim (λ e. inl (same ∙ e)) (λ e. inr (same ∙ e)) (by (is_full f) (is_full v.noted))
  where
    same : dues_after v r f ≡ cond (is_full f) (cond (is_full v.noted) v.dues ((k, c) ∷ v.dues)) v.dues
    same = ap (λ (ss : List Stood). cond (is_full f) (cond (is_full v.noted) v.dues (due_of ss (due_in r) ++ v.dues)) v.dues) one.stands
        ∙ ap (λ (o : Option Cmd). cond (is_full f) (cond (is_full v.noted) v.dues (due_of (stood k (list_of v) ∷ []) o ++ v.dues)) v.dues) is

    by : (x y : Bool) → (cond x (cond y v.dues ((k, c) ∷ v.dues)) v.dues ≡ v.dues) ⊎ (cond x (cond y v.dues ((k, c) ∷ v.dues)) v.dues ≡ (k, c) ∷ v.dues)
    by true true = inl refl
    by true false = inr refl
    by false y = inl refl

-- no entry more: the lines are the same
pub gave_same : (k : ℕ) (v w : Hand) (a b : BusView) → Holds k a v → b.journal ≡ a.journal → w ≡ gave v b.journal nothing b.first (origin_of b) → IsOne k w × NoLine v w × (w.noted ≡ b.first)
gave_same k v w a b holds same is =
    let longer : b.journal ≡ a.journal ++ [] = same ∙ sym (append-nil a.journal) in
    let list : list_of w ≡ list_of v = list_after k v w a nothing b holds [] longer is ∙ append-nil (list_of v) in (
      one_after k v w a nothing b holds [] longer is,
      record {
        lines = ap read_lines list;
        shut = λ n. ap (list_any (λ (g : Given). shuts n g.entry)) list;
        dues = dues_then k v w a nothing b holds [] longer is ∙ dues_unread k v nothing b.first holds.one refl;
      },
      noted_then k v w a nothing b holds [] longer is,
    )
