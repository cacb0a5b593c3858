-- A pair that is picked of the ready ones may step.
use Rattle.std.proofs.Common.{◌≡◌, ℕ, zero, suc, ◌+◌, ◌%◌, List, [], ◌∷◌, ◌++◌, length, filter, Bool, true, false, refl, sym, subst}
use Rattle.std.specs.Prelude.{Option, Some, None, slice_get, if◌then◌else◌}
use Rattle.std.specs.Option.{option_map_or}
use Rattle.ha_model.specs.declared.record.Record.{Record}
use Rattle.ha_journal.specs.Journal.{Journal, units}
use Rattle.ha_sight.specs.Scripts.{Branch}
use Rattle.ha_sight.specs.Branches.{branches_of}
use Rattle.ha_model.specs.Records.{Records, actions_of}
use Rattle.ha_model.specs.Lawful.{Right, is_running, may_step, pick, ready, record_of}
use Rattle.ha_ready.specs.ReadyPairs.{ready_branches, branches_at, pairs_of, pairs_from}
use Rattle.ha_ready.specs.Picked.{IsPicked}
use Rattle.ha_ready.proofs.ReadyLemmas.{ready-pairs}

-- what holds of each member of a list of branches
abbrev EachBranch : (Branch → Type 0) → List Branch → Type 0
EachBranch P [] = Unit {0}
EachBranch P (b ∷ bs) = P b × EachBranch P bs

-- what holds of each pair
abbrev EachPair : (ℕ → Branch → Type 0) → List (ℕ × Branch) → Type 0
EachPair P [] = Unit {0}
EachPair P (x ∷ xs) = P x.0 x.1 × EachPair P xs

each-append : (P : ℕ → Branch → Type 0) (xs ys : List (ℕ × Branch)) → EachPair P xs → EachPair P ys → EachPair P (xs ++ ys)
each-append P [] ys h g = g
each-append P (x ∷ xs) ys h g = (h.0, each-append P xs ys h.1 g)

each-run : (P : ℕ → Branch → Type 0) (s : ℕ) (bs : List Branch) → EachBranch (P s) bs → EachPair P (pairs_of s bs)
each-run P s [] h = tt
each-run P s (b ∷ bs) h = (h.0, each-run P s bs h.1)

each-from : (P : ℕ → Branch → Type 0) (n m : ℕ) (L : ℕ → List Branch) → ((s : ℕ) → EachBranch (P s) (L s)) → EachPair P (pairs_from n m L)
each-from P n zero L h = tt
each-from P n (suc m) L h = each-append P (pairs_of (suc n) (L (suc n))) (pairs_from (suc n) m L) (each-run P (suc n) (L (suc n)) (h (suc n))) (each-from P (suc n) m L h)

each-get : (P : ℕ → Branch → Type 0) (xs : List (ℕ × Branch)) (i : ℕ) (x : ℕ × Branch) → EachPair P xs → slice_get xs i ≡ Some x → P x.0 x.1
each-get P [] i x h e = absurd (let bad : ◌≡◌ {A = Option (ℕ × Branch)} None (Some x) = e in cc)
each-get P (y ∷ ys) zero x h e = (let same : y ≡ x = cc in subst (λ (z : ℕ × Branch). P z.0 z.1) same h.0)
each-get P (y ∷ ys) (suc i) x h e = each-get P ys i x h.1 e

each-filter : (P : Branch → Type 0) (test : Branch → Bool) → ((b : Branch) → test b ≡ true → P b) → (bs : List Branch) → EachBranch P (filter test bs)
each-filter P test h [] = tt
each-filter P test h (b ∷ bs) = by (test b) refl (each-filter P test h bs)
  where
    by : (c : Bool) → test b ≡ c → EachBranch P (filter test bs) → EachBranch P (if c then b ∷ filter test bs else filter test bs)
    by true e g = (h b e, g)
    by false e g = g

-- LAW: a picked pair may step
pub picked : (j : Journal) (rs : Records) (k s : ℕ) (b : Branch) → Right j rs → pick k (ready rs j) ≡ Some (s, b) → IsPicked rs j s b
picked j rs k s b right is =
    each-get (IsPicked rs j) (ready rs j) (k % length (ready rs j)) (s, b)
    (subst (EachPair (IsPicked rs j)) (sym (ready-pairs j rs right)) (each-from (IsPicked rs j) 0 (length rs) (branches_at rs j) (λ q. of-run q (record_of rs q) refl)))
    is
  where
    of-run : (q : ℕ) (o : Option Record) → record_of rs q ≡ o → EachBranch (IsPicked rs j q) (option_map_or (ready_branches rs j) o [])
    of-run q None e = tt
    of-run q (Some r) e = by (is_running (length j) r) refl
      where
        by : (c : Bool) → is_running (length j) r ≡ c → EachBranch (IsPicked rs j q) (if c then filter (may_step rs j r) (branches_of (actions_of (units j) r.automation)) else [])
        by true on = each-filter (IsPicked rs j q) (may_step rs j r) (λ b yes'. record { run = r; found = e; running = on; allowed = yes' }) (branches_of (actions_of (units j) r.automation))
        by false off = tt
