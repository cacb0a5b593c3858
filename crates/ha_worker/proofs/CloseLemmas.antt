-- What the closing steps make of a bus, and that they add no line.
use Rattle.std.proofs.Common.{◌≡◌, ◌∙◌, ◌-◌, ◌<◌, inl, inr, ℕ, Bool, true, false, List, [], ◌∷◌, ◌++◌, length, Some, None, ap, arith, refl, sym, subst, append_assoc, append-nil, length-append}
use Rattle.std.specs.Prelude.{◌&&◌, ◌==◌}
use Rattle.std.specs.List.{AllZip, list_all}
use Rattle.std.proofs.lemmas.List.Folds.{list_all-append}
use Rattle.ha_config.specs.declared.command.Cmd.{Cmd}
use Rattle.ha_journal.specs.declared.entry.Entry.{Entry}
use Rattle.ha_journal.specs.declared.entry.Entry.TheVariants.{Boot, Line, Step, Again}
use Rattle.ha_journal.specs.Commands.{ArePutFrom, Placed, placed_from, placed_line, put_as}
use Rattle.ha_journal.specs.Journal.{Journal, more}
use Rattle.ha_model.specs.Lawful.{is_by_worker_0}
use Rattle.ha_whole.specs.Whole.{IsFull, Lawful, Right, is_quiet, put, ready}
use Rattle.ha_model.specs.Records.{Records}
use Rattle.whole_laws.proofs.ClosingLemmas.{put-step, right-closes}
use Rattle.bus_turn.specs.declared.fault.BusFault.{BusFault}
use Rattle.bus_turn.specs.Buses.{IsRefusal, IsStep, Puts}
use Rattle.bus_turn.specs.Shown.{BusView}
use Rattle.bus_turn.proofs.GrowthLemmas.{grows-then, out-grows}
use Rattle.bus_turn.proofs.PutLemmas.{puts-full, puts-grow}
use Rattle.ha_worker.specs.Closing.{Closed}
use Rattle.whole_laws.proofs.PutLemmas.{longer-put}
use Rattle.ha_worker.proofs.TurnLemmas.{picked_some, step_full}

pub no_closing : (a : BusView) → Lawful a.journal a.records → Closed a a
no_closing a lawful = record { later = []; behind = sym (append-nil a.journal); steps = refl; lawful = lawful; grows = out-grows a.out; untouched = λ e. refl }

and-both : (x y : Bool) → x ≡ true → y ≡ true → (x && y) ≡ true
and-both true true p q = refl
and-both true false p q = q
and-both false y p q = p

no_end : {Y : Type 0} (xs : List Entry) (x : Entry) → xs ++ (x ∷ []) ≡ [] → Y
no_end xs x e = absurd (omega (arith, ap length e, length-append xs (x ∷ [])))

-- one step more
pub closed_more : (a b c : BusView) → Closed a b → Right c.journal c.records → Puts false (IsStep 0 b) b c → Closed a c
closed_more a b c p right (inl q) =
    let s = q.is_it in
    let y : Entry = Step 0 s.serial s.branch s.item in
    let e : c.journal ≡ more b.journal y = q.journal ∙ ap (put b.journal) s.is ∙ put-step b.journal 0 s.serial s.branch s.item in
    record {
      later = p.later ++ (y ∷ []);
      behind = e ∙ ap (λ (z : Journal). more z y) p.behind ∙ append_assoc a.journal p.later (y ∷ []);
      steps = list_all-append is_by_worker_0 p.later (y ∷ []) ∙ and-both (list_all is_by_worker_0 p.later) true p.steps refl;
      lawful = subst (λ z. Lawful z c.records) (sym e)
          (right-closes b.journal b.records c.records s.serial s.branch s.item p.lawful (subst (λ z. Right z c.records) e right) (picked_some 0 (ready b.records b.journal) (s.serial, s.branch) s.picked, s.picked));
      grows = grows-then a.out b.out c.out p.grows (puts-grow false (IsStep 0 b) b c (inl q));
      untouched = λ none. no_end p.later y none;
    }
closed_more a b c p right (inr q) = record {
  later = p.later;
  behind = q.journal ∙ p.behind;
  steps = p.steps;
  lawful = subst (λ z. Lawful z c.records) (sym q.journal) (subst (λ z. Lawful b.journal z) (sym q.records) p.lawful);
  grows = grows-then a.out b.out c.out p.grows (puts-grow false (IsStep 0 b) b c (inr q));
  untouched = λ none. q.out ∙ p.untouched none;
}

-- where a step was refused for a full journal, it is still due
pub still_due : (a b : BusView) → is_quiet a.records a.journal ≡ false → Puts false (IsStep 0 a) a b → b.first ≡ Some BusFault.Full → IsFull b.journal × (is_quiet b.records b.journal ≡ false)
still_due a b busy puts full =
    let r = puts-full false (IsStep 0 a) a b puts full in
    (subst IsFull (sym r.journal) (step_full a.journal (r.full full)), ap (is_quiet b.records) r.journal ∙ ap (λ (z : Records). is_quiet z a.journal) r.records ∙ busy)

-- behind a step a bus that has not stopped has less room
pub less_room : (k : ℕ) (a b : BusView) → Puts false (IsStep k a) a b → b.first ≡ None → 4_194_304 - length b.journal < 4_194_304 - length a.journal
less_room k a b (inl p) free = omega (arith, p.room.room, ap length p.journal, longer-put a.journal p.entry)
less_room k a b (inr p) free = absurd (subst IsRefusal free p.refusal)

-- ---- no line comes behind

no_lines : (k : ℕ) (before xs : Journal) → list_all is_by_worker_0 xs ≡ true → placed_from k before xs ≡ []
no_lines k before [] h = refl
no_lines k before (Boot text config stored start zone carry ∷ xs) h = absurd (let bad : ◌≡◌ {A = Bool} false true = h in cc)
no_lines k before (Again number start stored carry ∷ xs) h = absurd (let bad : ◌≡◌ {A = Bool} false true = h in cc)
no_lines k before (Line source number cmd ∷ xs) h = absurd (let bad : ◌≡◌ {A = Bool} false true = h in cc)
no_lines k before (Step worker serial branch item ∷ xs) h = no_lines k (before ++ (Step worker serial branch item ∷ [])) xs (snd (worker == 0) (list_all is_by_worker_0 xs) h)
  where
    snd : (x y : Bool) → (x && y) ≡ true → y ≡ true
    snd true y e = e
    snd false y e = absurd (let bad : ◌≡◌ {A = Bool} false true = e in cc)

same_lines : (k : ℕ) (before xs ys : Journal) → list_all is_by_worker_0 ys ≡ true → placed_from k before (xs ++ ys) ≡ placed_from k before xs
same_lines k before [] ys h = no_lines k before ys h
same_lines k before (x ∷ xs) ys h = ap (λ (z : List Placed). placed_line k before x ++ z) (same_lines k (before ++ (x ∷ [])) xs ys h)

-- LAW: the lines of a source are those before the closing steps
pub closed_puts : (a b : BusView) (k : ℕ) (cmds : List Cmd) → Closed a b → ArePutFrom k a.journal cmds → ArePutFrom k b.journal cmds
closed_puts a b k cmds c p =
    let P : List Placed → Type 0 = λ z. AllZip (λ (l : Placed) (x : Cmd). l.cmd ≡ put_as l.before x) z cmds in
    subst P (sym (ap (placed_from k []) c.behind ∙ same_lines k [] a.journal c.later c.steps)) p
