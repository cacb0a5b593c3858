-- What a put makes of a bus.
use Rattle.std.proofs.Common.{◌≡◌, ◌∙◌, ◌<◌, inl, inr, ℕ, Bool, true, false, List, [], ◌∷◌, ◌++◌, length, Option, Some, None, ap, arith, refl, sym, subst, rules}
use Rattle.std.specs.Prelude.{◌||◌, ◌&&◌, IsSome, if◌then◌else◌, slice_get}
use Rattle.std.specs.List.{list_any}
use Rattle.std.proofs.lemmas.Bool.{false≢true}
use Rattle.ha_config.specs.declared.command.Cmd.{Cmd}
use Rattle.ha_journal.specs.declared.entry.Entry.{Entry}
use Rattle.ha_journal.specs.declared.entry.Entry.TheVariants.{Line, Step}
use Rattle.ha_journal.specs.Commands.{has_automation, lets_reload, put_as}
use Rattle.ha_config.specs.declared.config.Config.{Config}
use Rattle.ha_config.specs.Fair.{of_helper, prepared, shuts_source}
use Rattle.ha_config.specs.Helpers.{is_helper}
use Rattle.ha_config.specs.Words.{Text}
use Rattle.ha_journal.specs.Entries.{restarts}
use Rattle.ha_journal.specs.Journal.{HasEntry, Journal, helpers}
use Rattle.ha_model.specs.Lawful.{pick, shuts}
use Rattle.ha_whole.specs.Whole.{IsFull, LacksRoom, Right, Running, appended, is_quiet, is_rested, put}
use Rattle.ha_model.specs.Records.{Records}
use Rattle.ha_sight.specs.Scripts.{Branch}
use Rattle.whole_laws.proofs.LiftLemmas.{entries-have}
use Rattle.whole_laws.proofs.PutLemmas.{any-put, longer-put, put-appends}
use Rattle.whole_laws.proofs.RestLemmas.{quiet-rested}
use Rattle.bus_turn.specs.declared.fault.BusFault.{BusFault}
use Rattle.bus_turn.specs.Buses.{Adds, HoldsStore, IsRefusal, IsStep, Puts}
use Rattle.bus_turn.specs.States.{KeeperState}
use Rattle.bus_turn.specs.Shown.{BusView}
use Rattle.bus_turn.proofs.PutLemmas.{puts-full, puts-grow}
use Rattle.bus_pass.specs.Journal.{IsRestless}
use Rattle.bus_pass.specs.Origins.{IsStored, origin_of}
use Rattle.bus_pass.specs.Rule.{MayGive}
use Rattle.bus_pass.specs.declared.hand.Hand.{Hand}
use Rattle.bus_pass.proofs.OriginLemmas.{origin_stays}
use Rattle.ha_worker.specs.Views.{Holds}
use Rattle.ha_worker.proofs.GiveLemmas.{eqb_self, may_same, nothing}

-- ---- what stays of a bus

-- a source that is not rested has runs that can go on
pub unrested_busy : (k : ℕ) (rs : Records) (j : Journal) → Right j rs → is_rested rs k j ≡ false → is_quiet rs j ≡ false
unrested_busy k rs j right busy = by (is_quiet rs j) (quiet-rested j rs k right.journal.entries)
  where
    by : (b : Bool) → (b ≡ true → is_rested rs k j ≡ true) → b ≡ false
    by true h = absurd (false≢true (sym busy ∙ h refl))
    by false h = refl

front_same : (j : Journal) (x : Entry) → HasEntry j → slice_get (put j x) 0 ≡ slice_get j 0
front_same j x h = (λ i. slice_get (put-appends j x i) 0) ∙ front j (appended j x) h
  where
    front : (d : Journal) (ys : List Entry) → HasEntry d → slice_get (d ++ ys) 0 ≡ slice_get d 0
    front [] ys h = absurd h
    front (e ∷ es) ys h = refl

filled : (j : Journal) → HasEntry j → 0 < length j
filled [] h = absurd h
filled (e ∷ es) h = omega arith

pub no_fault : {Y : Type 0} {f : BusFault} → None ≡ Some f → Y
no_fault e = absurd (cc)

pub refused : (o : Option BusFault) → IsRefusal o → IsSome o
refused None h = absurd h
refused (Some f) h = refl

-- where Full is kept nothing was put, so an entry was not added
pub added_full : (r : Bool) (Is : Entry → Type 0) (a b : BusView) → Adds r Is a b → b.first ≡ Some BusFault.Full → ⊥
added_full r Is a b p full =
    let same = puts-full r Is a b (inl p) full in
    omega (arith, ap length (sym same.journal ∙ p.journal), longer-put a.journal p.entry)

module _ (r : Bool) (Is : Entry → Type 0) (a b : BusView) (right : Right a.journal a.records) where
  has : HasEntry a.journal
  has = entries-have a.journal right.journal.entries

  pub put_origin : Puts r Is a b → origin_of b ≡ origin_of a
  put_origin (inl p) = origin_stays a b (ap (λ (j : Journal). slice_get j 0) p.journal ∙ front_same a.journal p.entry has) (puts-grow r Is a b (inl p))
  put_origin (inr p) = origin_stays a b (ap (λ (j : Journal). slice_get j 0) p.journal) (puts-grow r Is a b (inr p))

  pub put_stored : IsStored a → Puts r Is a b → IsStored b
  put_stored stored (inl p) =
      λ one. absurd (omega (arith, one, filled a.journal has, ap length p.journal, longer-put a.journal p.entry))
  put_stored stored (inr p) =
      λ one. subst (λ (j : Journal). HoldsStore j b.out.keep) (sym p.journal)
      (subst (λ (o : KeeperState). HoldsStore a.journal o) (sym (ap (λ o. o.keep) p.out)) (stored (sym (ap length p.journal) ∙ one)))

pub same_running : (j j' : Journal) (rs rs' : Records) → j' ≡ j → rs' ≡ rs → Running j rs → Running j' rs'
same_running j j' rs rs' e f r = subst (λ z. Running z rs') (sym e) (subst (λ z. Running j z) (sym f) r)

-- what is picked stands among the pairs
pub picked_some : (k : ℕ) (pairs : List (ℕ × Branch)) (x : ℕ × Branch) → pick k pairs ≡ Some x → 0 < length pairs
picked_some k [] x h = absurd (let bad : ◌≡◌ {A = Option (ℕ × Branch)} None (Some x) = h in cc)
picked_some k (p ∷ ps) x h = search rules

-- ---- a line

or-and-true : (x y : Bool) → (x || (y && true)) ≡ (x || y)
or-and-true true y = refl
or-and-true false true = refl
or-and-true false false = refl

-- what is put for a command shuts its source where the command does
pub put_shuts : (j : Journal) (c : Cmd) → shuts_source (put_as j c) ≡ shuts_source c
put_shuts j (Cmd.Report entity text attributes) = by (is_helper (helpers j) entity)
  where
    by : (b : Bool) → shuts_source (if b then Cmd.Refused of_helper else Cmd.Report entity text attributes) ≡ false
    by true = refl
    by false = refl
put_shuts j (Cmd.Gone entity) = by (is_helper (helpers j) entity)
  where
    by : (b : Bool) → shuts_source (if b then Cmd.Refused of_helper else Cmd.Gone entity) ≡ false
    by true = refl
    by false = refl
put_shuts j (Cmd.Event kind pairs) = refl
put_shuts j (Cmd.Moment at) = refl
put_shuts j (Cmd.Switch name on stop) = by (has_automation j name)
  where
    by : (b : Bool) → shuts_source (if b then Cmd.Switch name on stop else Cmd.Refused 9) ≡ false
    by true = refl
    by false = refl
put_shuts j (Cmd.Trigger name skip) = by (has_automation j name)
  where
    by : (b : Bool) → shuts_source (if b then Cmd.Trigger name skip else Cmd.Refused 9) ≡ false
    by true = refl
    by false = refl
put_shuts j Cmd.Restart = refl
put_shuts j (Cmd.Reload text None) = refl
put_shuts j (Cmd.Reload text (Some config)) = by (lets_reload j)
  where
    by : (b : Bool) → shuts_source (if b then Cmd.Reload text (Some config) else Cmd.Refused 13) ≡ false
    by true = refl
    by false = refl
put_shuts j (Cmd.Refused code) = refl
put_shuts j Cmd.Lost = refl
put_shuts j Cmd.TooLong = refl

-- what the text of a Reload is read as shuts no source
pub read_shuts : (read : Text → Option Config) (c : Cmd) → shuts_source (prepared read c) ≡ shuts_source c
read_shuts read (Cmd.Report entity text attributes) = refl
read_shuts read (Cmd.Gone entity) = refl
read_shuts read (Cmd.Event kind pairs) = refl
read_shuts read (Cmd.Moment at) = refl
read_shuts read (Cmd.Switch name on stop) = refl
read_shuts read (Cmd.Trigger name skip) = refl
read_shuts read Cmd.Restart = refl
read_shuts read (Cmd.Reload text config) = refl
read_shuts read (Cmd.Refused code) = refl
read_shuts read Cmd.Lost = refl
read_shuts read Cmd.TooLong = refl

abbrev pub IsLineOf : ℕ → ℕ → Cmd → BusView → Entry → Type 0
IsLineOf n k c a x = x ≡ Line k n (put_as a.journal c)

-- its source is shut behind it only where the command does so
pub line_leaves : (n k : ℕ) (c : Cmd) (a b : BusView) → Adds (restarts c) (IsLineOf n k c a) a b → list_any (shuts k) a.journal ≡ false → shuts_source c ≡ false → list_any (shuts k) b.journal ≡ false
line_leaves n k c a b p unshut leaves =
    ap (list_any (shuts k)) (p.journal ∙ ap (put a.journal) p.is_it) ∙ any-put (shuts k) (λ d. refl) a.journal (Line k n (put_as a.journal c))
    ∙ ap (λ (z : Bool). list_any (shuts k) a.journal || (shuts_source (put_as a.journal c) && z)) (eqb_self k)
    ∙ or-and-true (list_any (shuts k) a.journal) (shuts_source (put_as a.journal c))
    ∙ ap (λ (z : Bool). z || shuts_source (put_as a.journal c)) unshut ∙ put_shuts a.journal c ∙ leaves

-- no step shuts a source
pub step_leaves : (k w : ℕ) (a b : BusView) → Puts false (IsStep w a) a b → list_any (shuts k) b.journal ≡ list_any (shuts k) a.journal
step_leaves k w a b (inl p) =
    ap (list_any (shuts k)) (p.journal ∙ ap (put a.journal) p.is_it.is) ∙ any-put (shuts k) (λ d. refl) a.journal (Step w p.is_it.serial p.is_it.branch p.is_it.item) ∙ or-false (list_any (shuts k) a.journal)
  where
    or-false : (x : Bool) → (x || false) ≡ x
    or-false true = refl
    or-false false = refl
step_leaves k w a b (inr p) = ap (list_any (shuts k)) p.journal

-- a step lacks room in a full journal alone
pub step_full : (j : Journal) → LacksRoom j false → IsFull j
step_full j (inl full) = full
step_full j (inr (never, lacks)) = absurd (false≢true never)

-- at a full journal the step is still due
pub step_due : (k : ℕ) (a b : BusView) → Right a.journal a.records → Right b.journal b.records → is_rested a.records k a.journal ≡ false → Puts false (IsStep k a) a b → b.first ≡ Some BusFault.Full → IsFull b.journal × IsRestless b.journal
step_due k a b old right busy puts full =
    let r = puts-full false (IsStep k a) a b puts full in (
      subst IsFull (sym r.journal) (step_full a.journal (r.full full)),
      subst (λ (z : Records). is_quiet z b.journal ≡ false) right.records_are
          (ap (is_quiet b.records) r.journal ∙ ap (λ (z : Records). is_quiet z a.journal) r.records ∙ unrested_busy k a.records a.journal old busy),
    )

-- ---- want of memory

-- a bus that keeps it in place of none
pub run_out_may : (k : ℕ) (v : Hand) (a b : BusView) → Holds k a v → a.first ≡ None → b ≡ record a { first = Some BusFault.Memory } → MayGive IsRestless v b.journal nothing b.first (origin_of b)
run_out_may k v a b holds free is = subst (λ (z : BusView). MayGive IsRestless v z.journal nothing z.first (origin_of z)) (sym is)
    (may_same k v a (record a { first = Some BusFault.Memory }) nothing holds refl refl (λ f e. no_fault (sym free ∙ e)) (λ full. absurd (let bad : Some BusFault.Memory ≡ Some BusFault.Full = full in cc)))
