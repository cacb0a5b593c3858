-- A journal opened where it ends with a Restart; the workers of a lawful one, who are of the 16; and what its Reloads are read as.
use Rattle.std.proofs.Common.{◌≡◌, ◌∙◌, sym, subst, refl, ◌<◌, inl, inr, [], ◌∷◌, ◌++◌, Bool, true, false, arith, append-nil, append_assoc}
use Rattle.std.specs.List.{list_all}
use Rattle.std.specs.Prelude.{◌⊎◌, if◌then◌else◌}
use Rattle.ha_journal.specs.declared.entry.Entry.{Entry}
use Rattle.ha_journal.specs.declared.entry.Entry.TheVariants.{Boot, Line, Step, Again}
use Rattle.ha_config.specs.Words.{EachAfter, EachWith}
use Rattle.ha_config.specs.Fair.{prepared}
use Rattle.ha_journal.specs.Commands.{AreRead, IsReadEntry}
use Rattle.ha_journal.specs.Journal.{HasEntry, Journal, more}
use Rattle.ha_model.specs.Records.{Records}
use Rattle.ha_model.specs.Lawful.{is_by_worker_0}
use Rattle.ha_model.proofs.AppendLemmas.{each-snoc}
use Rattle.ha_whole.specs.Whole.{AreEntries, IsBehind, IsDue, IsTurn, Lawful, again_of, ends_segment, is_rested, opened, put}
use Rattle.ha_replay.proofs.NextLemmas.{not-rested-known}
use Rattle.ha_replay.proofs.SeamLemmas.{again-behind, each-behind}
use Rattle.conf_auto.specs.Config.{config_in}
use Rattle.whole_laws.proofs.LiftLemmas.{ends-more}
use Rattle.whole_laws.proofs.PutLemmas.{put-restart}

-- ---- a front, opened

-- what is put behind it where it ends with a Restart
abbrev pub added : Journal → Journal
added j = if ends_segment j then again_of j ∷ [] else []

pub opened_is : (j : Journal) → opened j ≡ j ++ added j
opened_is j = by (ends_segment j)
  where
    by : (b : Bool) → (if b then more j (again_of j) else j) ≡ j ++ (if b then again_of j ∷ [] else [])
    by true = refl
    by false = sym (append-nil j)

pub opened_on : (j : Journal) → ends_segment j ≡ false → opened j ≡ j
opened_on j e = (λ i. if e i then more j (again_of j) else j)

-- what a longer one is behind a front
pub opened_behind : (j xs : Journal) → opened (j ++ xs) ≡ j ++ (xs ++ added (j ++ xs))
opened_behind j xs = opened_is (j ++ xs) ∙ append_assoc j xs (added (j ++ xs))

put_from : (e : Entry) (es : Journal) (x : Entry) (b : Bool) → ends_segment (more (e ∷ es) x) ≡ b → (xs : Journal) → AreEntries (opened (more (e ∷ es) x ++ xs))
    → (rest : Journal) × (opened (more (e ∷ es) x ++ xs) ≡ put (e ∷ es) x ++ rest)
put_from e es x false is xs all =
    let k : Journal = more (e ∷ es) x in
    let rest : Journal = xs ++ added (k ++ xs) in
    (rest, opened_behind k xs ∙ (λ i. sym (opened_on k is) i ++ rest))
put_from e es x true is [] all = (let k : Journal = more (e ∷ es) x in ([], (λ i. opened (append-nil k i)) ∙ sym (append-nil (put (e ∷ es) x))))
put_from e es x true is (y ∷ ys) all =
    let j : Journal = e ∷ es in
    let k : Journal = more j x in
    let rest : Journal = ys ++ added (k ++ (y ∷ ys)) in
    let stands = each-behind IsBehind (e ∷ []) (es ++ (x ∷ [])) (y ∷ rest) (subst AreEntries (opened_behind k (y ∷ ys)) all).1 in
    let again : y ≡ again_of k = again-behind k y is stands.0 in
    let whole : put j x ≡ more k (again_of k) = put-restart j x (sym (ends-more j x) ∙ is) in
    (rest, opened_behind k (y ∷ ys) ∙ sym (append_assoc k (y ∷ []) rest) ∙ (λ i. more k (again i) ++ rest) ∙ (λ i. sym whole i ++ rest))

-- what stands next stands there with its put
pub put_front : (j : Journal) (x : Entry) (xs : Journal) → HasEntry j → AreEntries (opened (more j x ++ xs)) → (rest : Journal) × (opened (more j x ++ xs) ≡ put j x ++ rest)
put_front [] x xs has all = absurd has
put_front (e ∷ es) x xs has all = put_from e es x (ends_segment (more (e ∷ es) x)) refl xs all

-- ---- workers, and Reloads

-- an Again reads no text
pub read_added : (j : Journal) → AreRead config_in j → AreRead config_in (j ++ added j)
read_added j read = by (ends_segment j)
  where
    by : (b : Bool) → AreRead config_in (j ++ (if b then again_of j ∷ [] else []))
    by true = each-snoc (λ before y. IsReadEntry config_in y) [] j (again_of j) read tt
    by false = subst (AreRead config_in) (sym (append-nil j)) read

abbrev pub AllKnown : Journal → Type 0
AllKnown [] = Unit {0}
AllKnown (Boot text config stored start zone carry ∷ xs) = AllKnown xs
AllKnown (Again number start stored carry ∷ xs) = AllKnown xs
AllKnown (Line source number cmd ∷ xs) = (prepared config_in cmd ≡ cmd) × AllKnown xs
AllKnown (Step worker serial branch item ∷ xs) = (worker < 16) × AllKnown xs

known-from : (rs : Records) (before xs : Journal) → EachAfter (IsTurn rs) [] before → EachAfter (IsTurn rs) before xs → EachWith (IsDue rs) before xs → EachAfter (λ before x. IsReadEntry config_in x) before xs → AllKnown xs
known-from rs before [] old new due read = tt
known-from rs before (Boot text config stored start zone carry ∷ xs) old new due read =
    let x : Entry = Boot text config stored start zone carry in known-from rs (before ++ (x ∷ [])) xs (each-snoc (IsTurn rs) [] before x old new.0) new.1 due.1 read.1
known-from rs before (Again number start stored carry ∷ xs) old new due read =
    let x : Entry = Again number start stored carry in known-from rs (before ++ (x ∷ [])) xs (each-snoc (IsTurn rs) [] before x old new.0) new.1 due.1 read.1
known-from rs before (Line source number cmd ∷ xs) old new due read =
    let x : Entry = Line source number cmd in (read.0, known-from rs (before ++ (x ∷ [])) xs (each-snoc (IsTurn rs) [] before x old new.0) new.1 due.1 read.1)
known-from rs before (Step worker serial branch item ∷ xs) old new due read =
    let x : Entry = Step worker serial branch item in (by due.0, known-from rs (before ++ (x ∷ [])) xs (each-snoc (IsTurn rs) [] before x old new.0) new.1 due.1 read.1)
  where
    by : (is_rested rs worker before ≡ false) ⊎ ((worker ≡ 0) × (list_all is_by_worker_0 xs ≡ true)) → worker < 16
    by (inl busy) = not-rested-known rs worker before old busy
    by (inr closes) = omega (arith, closes.0)

-- LAW: each step of a lawful journal is of one of the 16 workers, and of one that is read each Reload is what its text is read as
pub all_known : (j : Journal) (rs : Records) → Lawful j rs → AreRead config_in j → AllKnown j
all_known j rs lawful read = known-from rs [] j tt lawful.turns lawful.closed read
