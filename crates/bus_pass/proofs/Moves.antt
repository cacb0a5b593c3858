-- Each of the seven steps keeps the rule.
use Rattle.std.proofs.Common.{◌≡◌, ◌≢◌, ℕ, ◌+◌, ◌==◌, ◌<◌, ◌≤◌, ◌⊎◌, Bool, true, false, true≢false, cond, List, [], ◌∷◌, ◌++◌, length, drop, set, Option, Some, None, sym, refl, ap, ◌∙◌, subst, inl, inr, ⊎_elim, arith, length-append, append-nil}
use Rattle.std.specs.Prelude.{Contains, IsSomeAnd}
use Rattle.std.proofs.lemmas.List.{length-set}
use Rattle.std.proofs.lemmas.List.Elements.{Contains-append_left, Contains-append_right}
use Rattle.std.proofs.Math.Seq.{drop-append_seam}
use mathlib.Core.Option.{some, none, some-injective, some-ne-none}
use mathlib.Core.Option as maybe
use lib.ListN.{get_elem?}
use Rattle.crossbeam_channel.specs.Fifo.{Pushes, Pops, Forks, Merges, Learns}
use Rattle.atomic_table.proofs.Lists.{at_set}
use Rattle.ha_config.specs.declared.command.Cmd.{Cmd}
use Rattle.ha_journal.specs.declared.entry.Entry.{Entry}
use Rattle.ha_journal.specs.Journal.{Journal}
use Rattle.ha_whole.specs.Whole.{IsFull}
use Rattle.bus_turn.specs.declared.fault.BusFault.{BusFault}
use Rattle.bus_pass.specs.Journal.{placed}
use Rattle.bus_pass.specs.Reads.{Reading, due_in, reads}
use Rattle.bus_pass.specs.Rule.{hand, notes, Stands, grown, AllTold, IsList, Fits, Lies, Kept, opening, took, gave, parent, child, both, spent, stood, Tells, size_of, MayGive, Dues, dues_after, due_of, is_full, MayLackRoom}
use Rattle.bus_pass.proofs.HandLemmas.{every_set, at_end, below, some_none, some_same, cons_nil, rests, moves, moved, stayed, at_snoc_place, some_and, never, heard_either}
use Rattle.bus_pass.proofs.Lists.{placed_more, stands_left, stands_right, stands_either, stands_grown, grown_stands, kept_list, grown_list, no_more, none_told, read_told}
use Rattle.bus_pass.specs.declared.hand.Given.{Given}
use Rattle.bus_pass.specs.declared.hand.Stood.{Stood}
use Rattle.bus_pass.specs.declared.hand.Origin.{Origin}
use Rattle.bus_pass.specs.declared.hand.Hand.{Hand}

-- why a journal takes no more
abbrev Stuck : (Journal → Type 0) → Journal → Option (ℕ × Cmd) → Type 0
Stuck R j owed = (IsFull j × R j) ⊎ IsSomeAnd owed (λ d. MayLackRoom j d.1)

module _ {T : Type 0} (R : Journal → Type 0) (journal : T → Journal) (first : T → Option BusFault) (origin : T → Origin) where
  pub begins : Kept R journal first origin [] (opening ∷ [])
  begins = record {
    lead = 0;
    made = 0;
    seat = λ k. 0;
    now = [];
    holder = some 0;
    alarm = None;
    owed = None;
    base = None;
    full = λ e. never BusFault.Full e;
    owing = λ d e. never d e;
    lies = (refl, omega arith);
    fresh = λ k h. refl;
    seated = λ k h. absurd (omega (arith, h));
    each = every_set (Fits 0 0 (λ k. 0) [] (some 0) None None None) (opening ∷ []) 0 opening record {
      idle = inr refl;
      holds = λ h. (refl, refl, refl);
      begun = λ o e. never o e;
      owes = λ d e _. never d e;
      heard = λ f h. h;
      leads = λ h. (refl, refl);
      stands = λ k l h. absurd h;
      sits = λ k h e. absurd (omega (arith, h));
    } (λ j u apart e. absurd (apart (at_end [] opening u j (λ x. some-ne-none u (sym x)) e)));
  }

  module _ (items : List T) (views : List Hand) (h : Kept R journal first origin items views) where
    -- the holder is one of the passes
    held_from : (o : maybe.Option ℕ) → Lies R journal first origin items views h.now o h.alarm h.base → (p : ℕ) → o ≡ some p → p < length views
    held_from none lies p e = absurd (some-ne-none p (sym e))
    held_from (some q) lies p e = subst (λ (n : ℕ). n < length views) (some-injective q p e) lies.1

    held : (p : ℕ) → h.holder ≡ some p → p < length views
    held = held_from h.holder h.lies

    -- where a pass holds the bus, the channel is empty
    empty_from : (o : maybe.Option ℕ) → Lies R journal first origin items views h.now o h.alarm h.base → (p : ℕ) → o ≡ some p → items ≡ []
    empty_from none lies p e = absurd (some-ne-none p (sym e))
    empty_from (some q) lies p e = lies.0

    empty : (p : ℕ) → h.holder ≡ some p → items ≡ []
    empty = empty_from h.holder h.lies

    -- what is so of the channel stays so with more passes
    lies_on : (views' : List Hand) → length views ≤ length views' → (o : maybe.Option ℕ) → Lies R journal first origin items views h.now o h.alarm h.base → Lies R journal first origin items views' h.now o h.alarm h.base
    lies_on views' le none lies = lies
    lies_on views' le (some q) lies = (lies.0, omega (arith, lies.1, le))

  takes_from : (port : ℕ) (v : Hand) (x : T) (items : List T) (views : List Hand) (h : Kept R journal first origin (x ∷ items) views) → get_elem? views port ≡ some v
      → (o : maybe.Option ℕ) → h.holder ≡ o → Lies R journal first origin (x ∷ items) views h.now o h.alarm h.base
      → (w : Hand) × Kept R journal first origin items (set views port w) × ((w ≡ took v (journal x) (first x) (origin x)) × Tells R v (journal x) (first x) (origin x))
  takes_from port v x items views h at none is lies =
      let w = took v (journal x) (first x) (origin x) in
      let f = h.each port v at in
      let same : x ≡ lies.0 = cc in
      let j : journal x ≡ h.now = ap journal same ∙ lies.2 in
      let a : first x ≡ h.alarm = ap first same ∙ lies.3 in
      let b : h.base ≡ Some (origin x) = lies.4 ∙ ap (λ (m : T). Some (origin m)) (sym same) in (
        w,
        record {
          lead = h.lead;
          made = h.made;
          seat = h.seat;
          now = h.now;
          holder = some port;
          alarm = h.alarm;
          owed = h.owed;
          base = h.base;
          full = h.full;
          owing = h.owing;
          lies = (cc, omega (arith, below views v port at, length-set views port w));
          fresh = h.fresh;
          seated = λ k lt. omega (arith, h.seated k lt, length-set views port w);
          each = every_set (Fits h.lead h.made h.seat h.now (some port) h.alarm h.owed h.base) views port w record {
            idle = inr refl;
            holds = λ _. (ap (λ (l : Journal). Some l) j, a, sym b);
            begun = λ o e. b ∙ e;
            owes = f.owes;
            heard = λ q e. sym a ∙ e;
            leads = f.leads;
            stands = f.stands;
            sits = f.sits;
          } (λ k u apart e. let g = h.each k u e in record {
            idle = ⊎_elim (λ t. inl t) (λ t. absurd (some-ne-none k (sym t ∙ is))) g.idle;
            owes = g.owes;
            holds = λ p. absurd (apart (sym (some-injective port k p)));
            begun = g.begun;
            heard = g.heard;
            leads = g.leads;
            stands = g.stands;
            sits = g.sits;
          });
        },
        (
          refl,
          record {
            lists = λ k l s. subst (λ (n : Journal). IsList n k l) (sym j) (f.stands k l s).2;
            fresh = λ lead k le. ap (λ (n : Journal). placed k 0 n) j ∙ h.fresh k (omega (arith, le, (f.leads lead).1));
            fault = λ q e. a ∙ f.heard q e;
            same_origin = λ o e. some_same (sym b ∙ f.begun o e);
            full = λ e all. ⊎_elim (λ r. inl (subst (λ (q : Journal). IsFull q × R q) (sym j) r)) (λ t.
                let d = some_and (λ (y : ℕ × Cmd). MayLackRoom h.now y.1) h.owed t in
                let lt : d.0.0 < v.made = omega (arith, h.owing d.0 d.1, (f.leads all.first).1) in
                let s = all.each d.0.0 lt in
                inr (d.0, lt, f.owes d.0 d.1 (f.stands d.0.0 s.0 s.1).1, subst (λ (q : Journal). MayLackRoom q d.0.1) (sym j) d.2)) (h.full (sym a ∙ e));
          },
        ),
      )
  takes_from port v x items views h at (some p) is lies = absurd (cons_nil lies.0)

  pub takes : (port : ℕ) (v : Hand) → Pops (Kept R journal first origin) port v (λ x w. (w ≡ took v (journal x) (first x) (origin x)) × Tells R v (journal x) (first x) (origin x))
  takes port v x items views h at = takes_from port v x items views h at h.holder refl h.lies

  -- what is owed after a give
  pub record Debt (v : Hand) (dues : Dues) (x : T) (owed : Option (ℕ × Cmd)) : Type 0 where
    pub owed' : Option (ℕ × Cmd)
    pub full : first x ≡ Some BusFault.Full → Stuck R (journal x) owed'
    pub owing : (d : ℕ × Cmd) → owed' ≡ Some d → (owed ≡ Some d) ⊎ (((l : List Given) × Stands v.stands d.0 l) × Contains dues d)

  module _ (read : T → Reading) where
    -- a pass that holds the bus gives it back with `more` after the journal that it took
    pub gives : (n port : ℕ) (v : Hand) (x : T) (old more : Journal) → v.taken ≡ Some old → journal x ≡ old ++ more
        → ((k : ℕ) → AllTold (old ++ more) (notes k (length old) (reads (read x)) more))
        → ((k : ℕ) → ((l : List Given) → ¬ (Stands v.stands k l)) → placed k (length old) more ≡ [])
        → ((f : BusFault) → v.noted ≡ Some f → first x ≡ Some f)
        → ((o : Origin) → v.origin ≡ Some o → origin x ≡ o)
        → (dues : Dues) → ((d : ℕ × Cmd) → Contains v.dues d → Contains dues d)
        → ((owed : Option (ℕ × Cmd)) → (v.noted ≡ Some BusFault.Full → Stuck R old owed) → Debt v dues x owed)
        → Pushes (Kept R journal first origin) n port v x (λ w. w ≡ hand v.first v.made (grown (length old) (reads (read x)) more v.stands) None (first x) dues (Some (origin x)))
    gives n port v x old more is j fair only fault same dues keep debt items views room h at =
        let w = hand v.first v.made (grown (length old) (reads (read x)) more v.stands) None (first x) dues (Some (origin x)) in
        let f = h.each port v at in
        let mine : h.holder ≡ some port = rests v old is f.idle in
        let now : h.now ≡ old = some_same (sym (f.holds mine).0 ∙ is) in
        let d = debt h.owed (λ e. subst (λ (q : Journal). Stuck R q h.owed) now (h.full (sym (f.holds mine).1 ∙ e))) in
        let none_there : items ≡ [] = empty items views h port mine in (
          w,
          record {
            lead = h.lead;
            made = h.made;
            seat = h.seat;
            now = old ++ more;
            holder = none;
            alarm = first x;
            base = Some (origin x);
            lies = (x, ap (λ (l : List T). l ++ x ∷ []) none_there, j, refl, refl);
            owed = d.owed';
            full = λ e. subst (λ (q : Journal). Stuck R q d.owed') j (d.full e);
            owing = λ k e. ⊎_elim (λ t. h.owing k t) (λ t. (f.stands k.0 t.0.0 t.0.1).0) (d.owing k e);
            fresh = λ k le. placed_more old more k
                ∙ ap (λ (l : List (ℕ × Entry)). l ++ placed k (length old) more) (ap (λ (l : Journal). placed k 0 l) (sym now) ∙ h.fresh k le)
                ∙ only k (λ l s. absurd (omega (arith, le, (f.stands k l s).0)));
            seated = λ k lt. omega (arith, h.seated k lt, length-set views port w);
            each = every_set (Fits h.lead h.made h.seat (old ++ more) none (first x) d.owed' (Some (origin x))) views port w record {
              idle = inl refl;
              holds = λ p. absurd (some-ne-none port (sym p));
              heard = λ q t. t;
              begun = λ o t. t;
              owes = λ k e s. ⊎_elim (λ t. keep k (f.owes k t s)) (λ t. t.1) (d.owing k e);
              leads = f.leads;
              stands = λ k l s. let t = stands_grown (length old) (reads (read x)) more v.stands k l s in let b = f.stands k t.0 t.1 in (
                b.0,
                b.1,
                subst (λ (q : List Given). IsList (old ++ more) k q) (sym t.2) (grown_list old more k (reads (read x)) t.0 (fair k) (subst (λ (q : Journal). IsList q k t.0) now b.2)),
              );
              sits = λ k lt e. let t = f.sits k lt e in (t.0 ++ notes k (length old) (reads (read x)) more, grown_stands (length old) (reads (read x)) more v.stands k t.0 t.1);
            } (λ i u apart e. let g = h.each i u e in record {
              idle = ⊎_elim (λ t. inl t) (λ t. absurd (apart (some-injective i port (sym t ∙ mine)))) g.idle;
              holds = λ p. absurd (some-ne-none i (sym p));
              owes = λ k e s. ⊎_elim (λ t. g.owes k t s) (λ t. absurd (apart (sym s ∙ (f.stands k.0 t.0.0 t.0.1).1))) (d.owing k e);
              heard = λ q t. fault q ((f.holds mine).1 ∙ g.heard q t);
              begun = λ o t. ap (λ (y : Origin). Some y) (same o ((f.holds mine).2 ∙ g.begun o t));
              leads = g.leads;
              stands = λ k l s. let b = g.stands k l s in (
                b.0,
                b.1,
                kept_list old more k l (only k (λ l' s'. apart (sym b.1 ∙ (f.stands k l' s').1))) (subst (λ (q : Journal). IsList q k l) now b.2),
              );
              sits = g.sits;
            });
          },
          refl,
        )

  pub forks : (port : ℕ) (v : Hand) → v.first ≡ true → Forks (Kept R journal first origin) port v (parent v) (child v)
  forks port v leads items views h at =
      let f = h.each port v at in
      let vs : List Hand = set views port (parent v) in
      let n : ℕ = length vs in
      let long : n ≡ length views = length-set views port (parent v) in
      let made : v.made ≡ h.made = (f.leads leads).1 in
      let seat : ℕ → ℕ = λ k. cond (k == h.made) n (h.seat k) in
      let more : length views ≤ length (vs ++ child v ∷ []) = omega (arith, long, length-append vs (child v ∷ [])) in
      let F : ℕ → Hand → Type 0 = Fits h.lead (h.made + 1) seat h.now h.holder h.alarm h.owed h.base in
      let old_seat : (k : ℕ) → k < h.made → seat k ≡ h.seat k = λ k lt. stayed k h.made n (h.seat k) (λ e. absurd (omega (arith, lt, e))) in
      let old_sits : (k p : ℕ) → p < length views → k < h.made + 1 → seat k ≡ p → (k < h.made) × (h.seat k ≡ p) = λ k p lt le e.
      ⊎_elim (λ t. absurd (omega (arith, t.1, e, lt, long))) (λ t. let apart = t.0 in (grind arith, sym t.1 ∙ e)) (moves k h.made n (h.seat k)) in
      let old : (j : ℕ) (u : Hand) → get_elem? vs j ≡ some u → F j u = every_set F views port (parent v) record {
        idle = f.idle;
        holds = f.holds;
        heard = f.heard;
        begun = f.begun;
        owes = λ d e p. f.owes d e (sym (old_seat d.0 (h.owing d e)) ∙ p);
        leads = λ _. ((f.leads leads).0, ap (λ (m : ℕ). m + 1) made);
        stands = λ k l s. let b = f.stands k l s in (omega (arith, b.0), old_seat k b.0 ∙ b.1, b.2);
        sits = λ k lt e. let t = old_sits k port (below views v port at) lt e in f.sits k t.0 t.1;
      } (λ j u apart e. let g = h.each j u e in record {
        idle = g.idle;
        holds = g.holds;
        heard = g.heard;
        begun = g.begun;
        owes = λ d e' p. g.owes d e' (sym (old_seat d.0 (h.owing d e')) ∙ p);
        leads = λ t. absurd (apart ((g.leads t).0 ∙ sym (f.leads leads).0));
        stands = λ k l s. let b = g.stands k l s in (omega (arith, b.0), old_seat k b.0 ∙ b.1, b.2);
        sits = λ k lt e'. let t = old_sits k j (below views u j e) lt e' in g.sits k t.0 t.1;
      }) in
      let born : F n (child v) = record {
        idle = inl refl;
        holds = λ p. absurd (omega (arith, held items views h n p, long));
        owes = λ d e p. absurd (omega (arith, h.seated d.0 (h.owing d e), sym (old_seat d.0 (h.owing d e)) ∙ p, long));
        heard = λ q t. never q t;
        begun = f.begun;
        leads = λ t. absurd (true≢false (sym t));
        stands = λ k l s. ⊎_elim (λ t. let is : k ≡ h.made = sym t.0 ∙ made in (
          omega (arith, is),
          moved k h.made n (h.seat k) is,
          subst (λ (q : List Given). IsList h.now k q) t.1 record { entries = sym (h.fresh k (omega (arith, is))); told = tt },
        )) (λ t. absurd t) s;
        sits = λ k lt e. ⊎_elim (λ t. ([], inl (made ∙ sym t.0, refl))) (λ t. let apart = t.0 in let under : k < h.made = grind arith in absurd (omega (arith, t.1, e, h.seated k under, long))) (moves k h.made n (h.seat k));
      } in
      record {
        lead = h.lead;
        made = h.made + 1;
        seat = seat;
        now = h.now;
        holder = h.holder;
        alarm = h.alarm;
        owed = h.owed;
        base = h.base;
        full = h.full;
        owing = λ d e. omega (arith, h.owing d e);
        lies = lies_on items views h (vs ++ child v ∷ []) more h.holder h.lies;
        fresh = λ k le. h.fresh k (omega (arith, le));
        seated = λ k lt. ⊎_elim (λ t. omega (arith, t.1, length-append vs (child v ∷ []))) (λ t. let apart = t.0 in let under : k < h.made = grind arith in omega (arith, t.1, h.seated k under, more)) (moves k h.made n (h.seat k));
        each = λ j u e. ⊎_elim (λ t. old j u t) (λ t. subst (λ (y : ℕ × Hand). F y.0 y.1) (λ i. (sym t.0 i, t.1 i)) born) (at_snoc_place vs (child v) u j e);
      }

  pub merges : (port : ℕ) (v : Hand) (other : ℕ) (w : Hand) → v.taken ≡ None → w.taken ≡ None → w.first ≡ false → Merges (Kept R journal first origin) port v other w (both v w) spent
  merges port v other w idle idle' second items views h at two at' =
      let b : Hand = both v w in
      let vs : List Hand = set views port b in
      let was : get_elem? views other ≡ some w = ⊎_elim (λ t. absurd (two t.0)) (λ t. t.1) (at_set views port other b w at') in
      let f = h.each port v at in
      let g = h.each other w was in
      let seat : ℕ → ℕ = λ k. cond (h.seat k == other) port (h.seat k) in
      let long : length (set vs other spent) ≡ length views = length-set vs other spent ∙ length-set views port b in
      let F : ℕ → Hand → Type 0 = Fits h.lead h.made seat h.now h.holder h.alarm h.owed h.base in
      let stay : (k p : ℕ) → ¬ (p ≡ other) → h.seat k ≡ p → seat k ≡ p = λ k p apart e. stayed (h.seat k) other port (h.seat k) (λ t. apart (sym e ∙ t)) ∙ e in
      let now : (j : ℕ) (u : Hand) → j ≢ other → get_elem? vs j ≡ some u → F j u = λ j u apart e. ⊎_elim
      (λ t. subst (λ (y : ℕ × Hand). F y.0 y.1) (λ i. (sym t.0 i, t.1 i)) record {
        idle = inl idle;
        holds = λ p. some_none h.now (sym (f.holds p).0 ∙ idle);
        begun = f.begun;
        heard = λ q p. ⊎_elim (λ t. f.heard q t) (λ t. g.heard q t) (heard_either v.noted w.noted q p);
        owes = λ d e p. ⊎_elim (λ x. Contains-append_right v.dues w.dues d (g.owes d e x.0)) (λ x. Contains-append_left v.dues w.dues d (f.owes d e (sym x.1 ∙ p))) (moves (h.seat d.0) other port (h.seat d.0));
        leads = f.leads;
        stands = λ k l s. ⊎_elim (λ x. let c = f.stands k l x in (c.0, stay k port (λ q. two (sym q)) c.1, c.2)) (λ x. let c = g.stands k l x in (c.0, moved (h.seat k) other port (h.seat k) c.1, c.2)) (stands_either v.stands w.stands k l s);
        sits = λ k lt p. ⊎_elim (λ x. let c = g.sits k lt x.0 in (c.0, stands_right v.stands w.stands k c.0 c.1)) (λ x. let c = f.sits k lt (sym x.1 ∙ p) in (c.0, stands_left v.stands w.stands k c.0 c.1)) (moves (h.seat k) other port (h.seat k));
      })
      (λ t. let c = h.each j u t.1 in record {
        idle = c.idle;
        holds = c.holds;
        heard = c.heard;
        begun = c.begun;
        owes = λ d e p. ⊎_elim (λ x. absurd (t.0 (sym p ∙ x.1))) (λ x. c.owes d e (sym x.1 ∙ p)) (moves (h.seat d.0) other port (h.seat d.0));
        leads = c.leads;
        stands = λ k l s. let d = c.stands k l s in (d.0, stay k j apart d.1, d.2);
        sits = λ k lt p. ⊎_elim (λ x. absurd (t.0 (sym p ∙ x.1))) (λ x. c.sits k lt (sym x.1 ∙ p)) (moves (h.seat k) other port (h.seat k));
      }) (at_set views port j b u e) in
      record {
        lead = h.lead;
        made = h.made;
        seat = seat;
        now = h.now;
        holder = h.holder;
        alarm = h.alarm;
        owed = h.owed;
        base = h.base;
        full = h.full;
        owing = h.owing;
        lies = lies_on items views h (set vs other spent) (omega (arith, long)) h.holder h.lies;
        fresh = h.fresh;
        seated = λ k lt. ⊎_elim (λ t. omega (arith, t.1, long, below views v port at)) (λ t. omega (arith, t.1, long, h.seated k lt)) (moves (h.seat k) other port (h.seat k));
        each = every_set F vs other spent record {
          idle = inl refl;
          holds = λ p. some_none h.now (sym (g.holds p).0 ∙ idle');
          owes = λ d e p. ⊎_elim (λ x. absurd (two (sym p ∙ x.1))) (λ x. absurd (x.0 (sym x.1 ∙ p))) (moves (h.seat d.0) other port (h.seat d.0));
          heard = λ q t. never q t;
          begun = λ o t. never o t;
          leads = λ t. absurd (true≢false (sym t));
          stands = λ k l s. absurd s;
          sits = λ k lt p. ⊎_elim (λ x. absurd (two (sym p ∙ x.1))) (λ x. absurd (x.0 (sym x.1 ∙ p))) (moves (h.seat k) other port (h.seat k));
        } now;
      }

  -- a call that fails tells nothing
  pub learns : (port : ℕ) (v : Hand) → Learns (Kept R journal first origin) port v (λ items. Unit {0})
  learns port v items views h at = tt

-- ---- what may be given

-- a fault is that of a full journal, or not
full_or : (o : Option BusFault) → ((o ≡ Some BusFault.Full) × (is_full o ≡ true)) ⊎ ((o ≡ Some BusFault.Full → ⊥) × (is_full o ≡ false))
full_or None = inr (λ e. never BusFault.Full e, refl)
full_or (Some (BusFault.Write took_none)) = inr (λ e. absurd (cc), refl)
full_or (Some BusFault.Keep) = inr (λ e. absurd (cc), refl)
full_or (Some BusFault.Full) = inl (refl, refl)
full_or (Some BusFault.Memory) = inr (λ e. absurd (cc), refl)

keep_case : (b c : Bool) (xs ys : Dues) (d : ℕ × Cmd) → Contains ys d → Contains (cond b (cond c ys (xs ++ ys)) ys) d
keep_case true true xs ys d h = h
keep_case true false xs ys d h = Contains-append_right xs ys d h
keep_case false c xs ys d h = h

module _ {T : Type 0} (R : Journal → Type 0) (journal : T → Journal) (first : T → Option BusFault) (origin : T → Origin) (read : T → Reading) where
  -- the dues of a pass that finds the journal full hold the command that was due
  due_noted : (v : Hand) (x : T) (worker : ℕ) (list : List Given) (c : Cmd) → v.stands ≡ stood worker list ∷ [] → due_in (read x) ≡ Some c
      → is_full (first x) ≡ true → is_full v.noted ≡ false → Contains (dues_after v (read x) (first x)) (worker, c)
  due_noted v x worker list c stands is now before =
      let e : dues_after v (read x) (first x) ≡ (worker, c) ∷ v.dues =
      ap (λ (b : Bool). cond b (cond (is_full v.noted) v.dues (due_of v.stands (due_in (read x)) ++ v.dues)) v.dues) now
      ∙ ap (λ (b : Bool). cond b v.dues (due_of v.stands (due_in (read x)) ++ v.dues)) before
      ∙ ap (λ (ss : List Stood). due_of ss (due_in (read x)) ++ v.dues) stands
      ∙ ap (λ (r : Option Cmd). due_of (stood worker list ∷ []) r ++ v.dues) is in
      subst (λ (l : Dues). Contains l (worker, c)) (sym e) (Contains-append_left ((worker, c) ∷ []) v.dues (worker, c) (0, omega arith, refl))

  -- what is owed after a give that may be made
  owed_then : (v : Hand) (x : T) (m : MayGive R v (journal x) (read x) (first x) (origin x)) (owed : Option (ℕ × Cmd)) → (v.noted ≡ Some BusFault.Full → Stuck R m.old owed)
      → Debt R journal first origin v (dues_after v (read x) (first x)) x owed
  owed_then v x m owed had = now (full_or (first x))
    where
      still : Stuck R (journal x) owed → Debt R journal first origin v (dues_after v (read x) (first x)) x owed
      still why = record { owed' = owed; full = λ _. why; owing = λ d e. inl e }

      -- where the bus was full before, nothing was put
      same : v.noted ≡ Some BusFault.Full → m.old ≡ journal x
      same was = ⊎_elim (λ t. sym t) (λ t. never BusFault.Full (sym t.0 ∙ was)) m.put

      before : is_full (first x) ≡ true → first x ≡ Some BusFault.Full → ((v.noted ≡ Some BusFault.Full) × (is_full v.noted ≡ true)) ⊎ ((v.noted ≡ Some BusFault.Full → ⊥) × (is_full v.noted ≡ false))
          → Debt R journal first origin v (dues_after v (read x) (first x)) x owed
      before b sure (inl was) = still (subst (λ (q : Journal). Stuck R q owed) (same was.0) (had was.0))
      before b sure (inr free) = ⊎_elim (λ was. absurd (free.0 was)) (λ why. ⊎_elim (λ r. still (inl r)) (λ s.
          let c = some_and (MayLackRoom (journal x)) (due_in (read x)) s in
          record {
            owed' = Some (m.worker, c.0);
            full = λ _. inr c.2;
            owing = λ d e. inr (subst (λ (y : ℕ × Cmd). ((l : List Given) × Stands v.stands y.0 l) × Contains (dues_after v (read x) (first x)) y) (some_same e) (
              (m.list, subst (λ (ss : List Stood). Stands ss m.worker m.list) (sym m.stands) (inl (refl, refl))),
              due_noted v x m.worker m.list c.0 m.stands c.1 b free.1,
            ));
          }) why) (m.full sure)

      now : ((first x ≡ Some BusFault.Full) × (is_full (first x) ≡ true)) ⊎ ((first x ≡ Some BusFault.Full → ⊥) × (is_full (first x) ≡ false)) → Debt R journal first origin v (dues_after v (read x) (first x)) x owed
      now (inl sure) = before sure.1 sure.0 (full_or v.noted)
      now (inr free) = record { owed' = owed; full = λ e. absurd (free.0 e); owing = λ d e. inl e }

  gave_is : (v : Hand) (x : T) (old more : Journal) → v.taken ≡ Some old → journal x ≡ old ++ more
      → hand v.first v.made (grown (length old) (reads (read x)) more v.stands) None (first x) (dues_after v (read x) (first x)) (Some (origin x)) ≡ gave v (journal x) (read x) (first x) (origin x)
  gave_is v x old more is j = sym (
      ap (λ (t : Option Journal). hand v.first v.made (grown (size_of t) (reads (read x)) (drop (size_of t) (journal x)) v.stands) None (first x) (dues_after v (read x) (first x)) (Some (origin x))) is
      ∙ ap (λ (t : Journal). hand v.first v.made (grown (length old) (reads (read x)) (drop (length old) t) v.stands) None (first x) (dues_after v (read x) (first x)) (Some (origin x))) j
      ∙ ap (λ (t : Journal). hand v.first v.made (grown (length old) (reads (read x)) t v.stands) None (first x) (dues_after v (read x) (first x)) (Some (origin x))) (drop-append_seam old more)
      )

  by_gave : (n port : ℕ) (v : Hand) (x : T) (old more : Journal) → v.taken ≡ Some old → journal x ≡ old ++ more
      → Pushes (Kept R journal first origin) n port v x (λ w. w ≡ hand v.first v.made (grown (length old) (reads (read x)) more v.stands) None (first x) (dues_after v (read x) (first x)) (Some (origin x)))
      → Pushes (Kept R journal first origin) n port v x (λ w. w ≡ gave v (journal x) (read x) (first x) (origin x))
  by_gave n port v x old more is j push items views room h at =
      let t = push items views room h at in (t.0, t.1, t.2 ∙ gave_is v x old more is j)

  keep_dues : (v : Hand) (x : T) (d : ℕ × Cmd) → Contains v.dues d → Contains (dues_after v (read x) (first x)) d
  keep_dues v x d h = keep_case (is_full (first x)) (is_full v.noted) (due_of v.stands (due_in (read x))) v.dues d h

  pub may_give : (n port : ℕ) (v : Hand) (x : T) → MayGive R v (journal x) (read x) (first x) (origin x) → Pushes (Kept R journal first origin) n port v x (λ w. w ≡ gave v (journal x) (read x) (first x) (origin x))
  may_give n port v x m = ⊎_elim
      (λ same. by_gave n port v x m.old [] m.holds (same ∙ sym (append-nil m.old)) (gives R journal first origin read n port v x m.old [] m.holds (same ∙ sym (append-nil m.old)) (λ k. tt) (λ k away. refl) m.fault (λ o e. some_same (sym m.same_origin ∙ e))
      (dues_after v (read x) (first x)) (keep_dues v x) (owed_then v x m)))
      (λ t. let more = t.1 in by_gave n port v x m.old more.entries m.holds more.longer (gives R journal first origin read n port v x m.old more.entries m.holds more.longer
      (λ k. read_told k m.worker (reads (read x)) m.old more.entries more.as_read)
      (λ k away. no_more k m.worker (length m.old) (reads (read x)) m.old more.entries more.as_read
      (λ e. away m.list (subst (λ (ss : List Stood). Stands ss k m.list) (sym m.stands) (inl (sym e, refl)))))
      m.fault (λ o e. some_same (sym m.same_origin ∙ e)) (dues_after v (read x) (first x)) (keep_dues v x) (owed_then v x m)))
      m.put

  -- the first give, of a bus that is not full
  pub first_give : (n port : ℕ) (v : Hand) (x : T) → v ≡ opening → ((k : ℕ) → placed k 0 (journal x) ≡ []) → (first x ≡ Some BusFault.Full → ⊥)
      → Pushes (Kept R journal first origin) n port v x (λ w. w ≡ gave v (journal x) (read x) (first x) (origin x))
  first_give n port v x is away room =
      let taken : v.taken ≡ Some [] = ap (λ (u : Hand). u.taken) is in
      by_gave n port v x [] (journal x) taken refl (gives R journal first origin read n port v x [] (journal x) taken refl
      (λ k. none_told (journal x) (journal x) k 0 (reads (read x)) (away k)) (λ k _. away k) (λ f e. never f (sym (ap (λ (u : Hand). u.noted) is) ∙ e)) (λ o e. never o (sym (ap (λ (u : Hand). u.origin) is) ∙ e))
      (dues_after v (read x) (first x)) (keep_dues v x) (λ owed had. record { owed' = owed; full = λ e. absurd (room e); owing = λ d e. inl e }))
