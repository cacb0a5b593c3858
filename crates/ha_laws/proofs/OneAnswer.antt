-- The makers of the entries, the Boot and the lines of each source leave one lawful journal.
use Rattle.std.proofs.Common.{◌≡◌, ℕ, zero, suc, ◌-◌, ◌<◌, inl, inr, List, [], ◌∷◌, ◌++◌, length, Bool, true, false, refl, sym, ap, subst, ◌∙◌, rules, arith, Option, append_assoc, length-append}
use Rattle.std.specs.List.{list_all}
use Rattle.ha_config.proofs.EqualLemmas.{and_right}
use Rattle.std.specs.Prelude.{Some, slice_get, count_by, option_and_then, nat_eq, if◌then◌else◌}
use Rattle.ha_config.specs.declared.command.Cmd.{Cmd}
use Rattle.ha_sight.specs.declared.item.Item.{Item}
use Rattle.ha_journal.specs.declared.entry.Entry.{Entry}
use Rattle.ha_journal.specs.declared.entry.Entry.TheVariants.{Boot, Line, Step, Again}
use Rattle.ha_model.specs.declared.record.Record.{Record}
use Rattle.ha_config.specs.Words.{Pairs, last_of, EachAfter, EachFrom, EachWith}
use Rattle.ha_journal.specs.Journal.{Journal, more, HasEntry, units}
use Rattle.ha_journal.specs.Entries.{BeginsSegment}
use Rattle.ha_sight.specs.Scripts.{Branch, whole}
use Rattle.ha_model.specs.Records.{Records, records_of, actions_of, spots, next_spot}
use Rattle.ha_laws.specs.Makers.{Maker, Source, Worker, maker, makers, cmds_of, IsOfOne, OfOne}
use Rattle.ha_model.specs.NextPlace.{next_item}
use Rattle.ha_model.specs.Lawful.{is_running, IsRightEntry, ready, pick, is_line_of, is_empty, is_quiet, is_rested, is_by_worker_0, IsTurn, IsDue, Lawful}
use Rattle.ha_config.proofs.ListLemmas.{append-nil, true-false, none-some, some-same}
use Rattle.ha_model.proofs.AppendLemmas.{SameRun, SameUpTo, ready-same}
use Rattle.ha_model.proofs.LawfulLaws.{rested-same}
use Rattle.ha_model.proofs.StepLaws.{ran-step}
use Rattle.ha_laws.proofs.PrefixLaws.{records-prefix, has-more}

abbrev pub tail_of : {X : Type 0} → List X → List X
tail_of [] = []
tail_of (x ∷ xs) = xs

abbrev pub head_or : {X : Type 0} → X → List X → X
head_or d [] = d
head_or d (x ∷ xs) = x

-- a record that runs at the end of the common prefix is one of the prefix's
pub back-same : (n : ℕ) (rs rs' : Records) (i : ℕ) (r' : Record) → SameUpTo n rs rs' → slice_get rs' i ≡ Some r' → is_running n r' ≡ true → (r : Record) × (slice_get rs i ≡ Some r) × SameRun n r r'
back-same n [] [] i r' s e run = absurd (none-some r' e)
back-same n [] (y' ∷ rs') zero r' s e run = absurd (true-false (sym run ∙ (λ k. is_running n (sym (some-same y' r' e) k)) ∙ s.0 n (omega arith)))
back-same n [] (y' ∷ rs') (suc i) r' s e run = back-same n [] rs' i r' s.1 e run
back-same n (y ∷ rs) [] i r' s e run = absurd s
back-same n (y ∷ rs) (y' ∷ rs') zero r' s e run = (y, refl, subst (λ z. SameRun n y z) (some-same y' r' e) s.0)
back-same n (y ∷ rs) (y' ∷ rs') (suc i) r' s e run = back-same n rs rs' i r' s.1 e run

abbrev item_by : Journal → ℕ → Pairs → ℕ → Branch → Option Item
item_by j a env serial branch = option_and_then (λ o. last_of o.items) (whole (actions_of (units j) a) env (spots j serial ++ (next_spot j branch ∷ [])))

-- what a Step of this pair gives, if it is right
pub record GivesItem (d : Journal) (serial : ℕ) (branch : Branch) (item : Item) : Type 0 where
  pub run : Record
  pub found : slice_get (records_of d) (serial - 1) ≡ Some run
  pub item_is : next_item d run branch ≡ Some item

pub gives-item : (d : Journal) (rs : Records) → HasEntry d → SameUpTo (length d) (records_of d) rs → (k serial : ℕ) (branch : Branch) (item : Item) → IsRightEntry rs d (Step k serial branch item) → GivesItem d serial branch item
gives-item d rs h s k serial branch item right =
    let x : Entry = Step k serial branch item in
    let place : length (d ++ (x ∷ [])) - 1 ≡ length d = omega (arith, length-append d (x ∷ [])) in
    let back = back-same (length d) (records_of d) rs (serial - 1) right.0 s right.1 ((λ i. is_running (sym place i) right.0) ∙ right.3.runs) in
    record {
      run = back.0;
      found = back.1;
      item_is = (λ i. item_by d (back.2.automation i) (back.2.env i) (back.2.serial i) branch)
          ∙ sym (λ i. option_and_then (λ o. last_of o.items) (ran-step d k serial branch item right.0 h right.2 i)) ∙ right.3.item_is;
    }

pub one-item : (d : Journal) (serial : ℕ) (branch : Branch) (item item' : Item) → GivesItem d serial branch item → GivesItem d serial branch item' → item ≡ item'
one-item d serial branch item item' g g' =
    let same : g.run ≡ g'.run = some-same g.run g'.run (sym g.found ∙ g'.found) in
    some-same item item' (sym g.item_is ∙ (λ i. next_item d (same i) branch) ∙ g'.item_is)

abbrev pub source_or : ℕ → Maker → ℕ
source_or n (Source k) = k
source_or n _ = n

abbrev pub worker_or : ℕ → Maker → ℕ
worker_or n (Worker k) = k
worker_or n _ = n

abbrev IsSource : Maker → Type 0
IsSource (Source k) = Unit {0}
IsSource _ = ⊥

pub equal-self : (a b : ℕ) → a ≡ b → nat_eq a b ≡ true
equal-self a b e = search (rules, e)

-- two entries after the same prefix
same-line : (d : Journal) (rs rs' : Records) (k n k' n' : ℕ) (cmd cmd' : Cmd) (xs ys : Journal) → Source k ≡ Source k' → IsTurn rs d (Line k n cmd) → IsTurn rs' d (Line k' n' cmd')
    → ((q : ℕ) → cmds_of q (Line k n cmd ∷ xs) ≡ cmds_of q (Line k' n' cmd' ∷ ys)) → Line k n cmd ≡ Line k' n' cmd'
same-line d rs rs' k n k' n' cmd cmd' xs ys makers t t' cmds =
    let ks : k ≡ k' = ap (source_or 0) makers in
    let ns : n ≡ n' = t.2 ∙ (λ i. count_by (is_line_of (ks i)) d) ∙ sym t'.2 in
    let cs : cmd ∷ cmds_of k xs ≡ cmd' ∷ cmds_of k ys
    = (λ i. if sym (equal-self k k refl) i then cmd ∷ cmds_of k xs else cmds_of k xs) ∙ cmds k ∙ (λ i. if equal-self k' k (sym ks) i then cmd' ∷ cmds_of k ys else cmds_of k ys) in
    (λ i. Line (ks i) (ns i) (ap (head_or cmd) cs i))

pub same-step : (d : Journal) (rs rs' : Records) → HasEntry d → SameUpTo (length d) (records_of d) rs → SameUpTo (length d) (records_of d) rs' → (k s : ℕ) (b : Branch) (item : Item) (k' s' : ℕ) (b' : Branch) (item' : Item)
    → Worker k ≡ Worker k' → IsTurn rs d (Step k s b item) → IsTurn rs' d (Step k' s' b' item') → IsRightEntry rs d (Step k s b item) → IsRightEntry rs' d (Step k' s' b' item') → Step k s b item ≡ Step k' s' b' item'
same-step d rs rs' h same same' k s b item k' s' b' item' makers t t' right right' =
    let ks : k ≡ k' = ap (worker_or 0) makers in
    let readies : ready rs d ≡ ready rs' d = sym (ready-same (length d) (records_of d) rs same d (omega arith)) ∙ ready-same (length d) (records_of d) rs' same' d (omega arith) in
    let pairs : (s, b) ≡ (s', b') = some-same (s, b) (s', b') (sym t.1 ∙ (λ i. pick (ks i) (readies i)) ∙ t'.1) in
    let g' = gives-item d rs' h same' k' s' b' item' right' in
    let g = gives-item d rs h same k s b item right in
    let items : item ≡ item' = one-item d s' b' item item' (subst (λ p. GivesItem d p.0 p.1 item) pairs g) g' in
    (λ i. Step (ks i) (pairs i).0 (pairs i).1 (items i))

abbrev pub NoBoots : ℕ → Journal → Type 0
NoBoots n xs = EachFrom (λ n x. ¬ BeginsSegment x) n xs

abbrev pub IsEmptyList : {X : Type 0} → List X → Type 0
IsEmptyList [] = Unit {0}
IsEmptyList (x ∷ xs) = ⊥

pub empty-not : {X : Type 0} (x : X) (xs : List X) → [] ≡ x ∷ xs → ⊥
empty-not x xs e = subst IsEmptyList e tt

pub cmds-tail : (q : ℕ) (x y : Entry) (xs ys : Journal) → x ≡ y → cmds_of q (x ∷ xs) ≡ cmds_of q (y ∷ ys) → cmds_of q xs ≡ cmds_of q ys
cmds-tail q x y xs ys e same = go x (same ∙ (λ i. cmds_of q (sym e i ∷ ys)))
  where
    go : (x : Entry) → cmds_of q (x ∷ xs) ≡ cmds_of q (x ∷ ys) → cmds_of q xs ≡ cmds_of q ys
    go (Boot text config stored start zone carry) h = h
    go (Again number start stored carry) h = h
    go (Step worker serial branch item) h = h
    go (Line source number cmd) h = by (nat_eq source q) h
      where
        by : (b : Bool) → (if b then cmd ∷ cmds_of q xs else cmds_of q xs) ≡ (if b then cmd ∷ cmds_of q ys else cmds_of q ys) → cmds_of q xs ≡ cmds_of q ys
        by true h = ap tail_of h
        by false h = h

-- all that is known of what stands after a prefix
pub record Rest (d : Journal) (xs : Journal) (rs : Records) : Type 0 where
  pub records_are : rs ≡ records_of (d ++ xs)
  pub turns : EachAfter (IsTurn rs) d xs
  pub entries : EachAfter (IsRightEntry rs) d xs
  pub place : ℕ
  pub no_boots : NoBoots place xs

pub rest-tail : (d : Journal) (x : Entry) (xs : Journal) (rs : Records) → Rest d (x ∷ xs) rs → Rest (more d x) xs rs
rest-tail d x xs rs r = record {
  records_are = r.records_are ∙ (λ i. records_of (sym (append_assoc d (x ∷ []) xs) i));
  turns = r.turns.1;
  entries = r.entries.1;
  place = suc r.place;
  no_boots = r.no_boots.1;
}

pub rest-same : (d : Journal) (xs : Journal) (rs : Records) → HasEntry d → Rest d xs rs → SameUpTo (length d) (records_of d) rs
rest-same d xs rs h r = subst (SameUpTo (length d) (records_of d)) (sym r.records_are) (records-prefix d xs h)

same-entry : (d : Journal) (rs rs' : Records) → HasEntry d → (x y : Entry) (xs ys : Journal) → Rest d (x ∷ xs) rs → Rest d (y ∷ ys) rs' → maker x ≡ maker y → ((q : ℕ) → cmds_of q (x ∷ xs) ≡ cmds_of q (y ∷ ys)) → x ≡ y
same-entry d rs rs' h (Boot text config stored start zone carry) y xs ys r r' makers cmds = absurd (r.no_boots.0 tt)
same-entry d rs rs' h (Again number start stored carry) y xs ys r r' makers cmds = absurd (r.no_boots.0 tt)
same-entry d rs rs' h (Line k n cmd) (Boot text config stored start zone carry) xs ys r r' makers cmds = absurd (r'.no_boots.0 tt)
same-entry d rs rs' h (Line k n cmd) (Again number start stored carry) xs ys r r' makers cmds = absurd (r'.no_boots.0 tt)
same-entry d rs rs' h (Line k n cmd) (Line k' n' cmd') xs ys r r' makers cmds = same-line d rs rs' k n k' n' cmd cmd' xs ys makers r.turns.0 r'.turns.0 cmds
same-entry d rs rs' h (Line k n cmd) (Step k' s' b' item') xs ys r r' makers cmds = absurd (subst IsSource makers tt)
same-entry d rs rs' h (Step k s b item) (Boot text config stored start zone carry) xs ys r r' makers cmds = absurd (r'.no_boots.0 tt)
same-entry d rs rs' h (Step k s b item) (Again number start stored carry) xs ys r r' makers cmds = absurd (r'.no_boots.0 tt)
same-entry d rs rs' h (Step k s b item) (Line k' n' cmd') xs ys r r' makers cmds = absurd (subst IsSource (sym makers) tt)
same-entry d rs rs' h (Step k s b item) (Step k' s' b' item') xs ys r r' makers cmds =
    same-step d rs rs' h (rest-same d (Step k s b item ∷ xs) rs h r) (rest-same d (Step k' s' b' item' ∷ ys) rs' h r') k s b item k' s' b' item' makers r.turns.0 r'.turns.0 r.entries.0 r'.entries.0

one-rest : (xs : Journal) (d : Journal) (rs rs' : Records) → HasEntry d → (ys : Journal) → Rest d xs rs → Rest d ys rs' → makers xs ≡ makers ys → ((q : ℕ) → cmds_of q xs ≡ cmds_of q ys) → xs ≡ ys
one-rest [] d rs rs' h [] r r' all cmds = refl
one-rest [] d rs rs' h (y ∷ ys) r r' all cmds = absurd (empty-not (maker y) (makers ys) all)
one-rest (x ∷ xs) d rs rs' h [] r r' all cmds = absurd (empty-not (maker x) (makers xs) (sym all))
one-rest (x ∷ xs) d rs rs' h (y ∷ ys) r r' all cmds =
    let e = same-entry d rs rs' h x y xs ys r r' (ap (head_or (maker x)) all) cmds in
    let rest = one-rest xs (more d x) rs rs' (has-more d x h) ys (rest-tail d x xs rs r) (rest-tail d x ys rs' (subst (λ z. Rest d (z ∷ ys) rs') (sym e) r')) (ap tail_of all) (λ q. cmds-tail q x y xs ys e (cmds q)) in
    (λ i. e i ∷ rest i)

boot-entry : (boot : Entry) → HasEntry (boot ∷ [])
boot-entry boot = tt

pub whole-rest : (boot : Entry) (xs : Journal) (rs : Records) → Lawful (boot ∷ xs) rs → Rest (boot ∷ []) xs rs
whole-rest boot xs rs lawful = record {
  records_are = lawful.right.records_are;
  turns = lawful.turns.1;
  entries = lawful.right.entries.1;
  place = 1;
  no_boots = lawful.right.journal.1;
}

-- THE LAW: for a Boot, the commands of each source, and the makers of the entries, at most one journal with its records is lawful
pub one_answer : (boot : Entry) (xs ys : Journal) (rs rs' : Records) → Lawful (boot ∷ xs) rs → Lawful (boot ∷ ys) rs' → makers xs ≡ makers ys → ((q : ℕ) → cmds_of q xs ≡ cmds_of q ys) → (xs ≡ ys) × (rs ≡ rs')
one_answer boot xs ys rs rs' lawful lawful' all cmds =
    let same = one-rest xs (boot ∷ []) rs rs' (boot-entry boot) ys (whole-rest boot xs rs lawful) (whole-rest boot ys rs' lawful') all cmds in
    (same, lawful.right.records_are ∙ (λ i. records_of (boot ∷ same i)) ∙ sym lawful'.right.records_are)

-- all entries are of source 0 and worker 0

closing-cmds : (q : ℕ) (xs : Journal) → list_all is_by_worker_0 xs ≡ true → cmds_of q xs ≡ []
closing-cmds q [] h = refl
closing-cmds q (Boot text config stored start zone carry ∷ xs) h = closing-cmds q xs (and_right false (list_all is_by_worker_0 xs) h)
closing-cmds q (Again number start stored carry ∷ xs) h = closing-cmds q xs (and_right false (list_all is_by_worker_0 xs) h)
closing-cmds q (Line source number cmd ∷ xs) h = absurd (true-false (sym h))
closing-cmds q (Step worker serial branch item ∷ xs) h = closing-cmds q xs (and_right (nat_eq worker 0) (list_all is_by_worker_0 xs) h)

-- a line and a step cannot both stand after the same prefix
line-or-step : (d : Journal) (rs rs' : Records) → SameUpTo (length d) (records_of d) rs → SameUpTo (length d) (records_of d) rs' → (k n : ℕ) (cmd : Cmd) (k' s : ℕ) (b : Branch) (item : Item) (xs ys : Journal)
    → IsOfOne (Line k n cmd) → IsOfOne (Step k' s b item) → IsTurn rs d (Line k n cmd) → IsDue rs' d (Step k' s b item ∷ ys) → ((q : ℕ) → cmds_of q (Line k n cmd ∷ xs) ≡ cmds_of q ys) → ⊥
line-or-step d rs rs' s s' k n cmd k' t b item xs ys zero_k zero_k' turn (inl busy) cmds =
    true-false (sym turn.1 ∙ sym (rested-same (length d) (records_of d) rs s k d (omega arith)) ∙ rested-same (length d) (records_of d) rs' s' k d (omega arith) ∙ (λ i. is_rested rs' ((zero_k ∙ sym zero_k') i) d) ∙ busy)
line-or-step d rs rs' s s' k n cmd k' t b item xs ys zero_k zero_k' turn (inr (z, closing)) cmds =
    empty-not cmd (cmds_of k xs) (sym (closing-cmds k ys closing) ∙ sym (cmds k) ∙ (λ i. if equal-self k k refl i then cmd ∷ cmds_of k xs else cmds_of k xs))

-- a quiet prefix is the whole
quiet-end : (d : Journal) (rs rs' : Records) → HasEntry d → SameUpTo (length d) (records_of d) rs → SameUpTo (length d) (records_of d) rs' → is_quiet rs d ≡ true → (y : Entry) (ys : Journal) → NoBoots 0 (y ∷ []) → IsTurn rs' d y → ((q : ℕ) → [] ≡ cmds_of q (y ∷ ys)) → ⊥
quiet-end d rs rs' h s s' quiet (Boot text config stored start zone carry) ys boots turn cmds = boots.0 tt
quiet-end d rs rs' h s s' quiet (Again number start stored carry) ys boots turn cmds = boots.0 tt
quiet-end d rs rs' h s s' quiet (Line k n cmd) ys boots turn cmds = empty-not cmd (cmds_of k ys) (cmds k ∙ (λ i. if equal-self k k refl i then cmd ∷ cmds_of k ys else cmds_of k ys))
quiet-end d rs rs' h s s' quiet (Step k t b item) ys boots turn cmds =
    let same : ready rs d ≡ ready rs' d = sym (ready-same (length d) (records_of d) rs s d (omega arith)) ∙ ready-same (length d) (records_of d) rs' s' d (omega arith) in
    by (ready rs d) quiet (subst (λ l. 0 < length l) (sym same) turn.0)
  where
    by : (l : List (ℕ × Branch)) → is_empty l ≡ true → 0 < length l → ⊥
    by [] e lt = omega arith
    by (x ∷ xs) e lt = true-false (sym e)

source-rest : (xs : Journal) (d : Journal) (rs rs' : Records) → HasEntry d → (ys : Journal) → Rest d xs rs → Rest d ys rs' → EachWith (IsDue rs) d xs → EachWith (IsDue rs') d ys → OfOne xs → OfOne ys
    → is_quiet rs (d ++ xs) ≡ true → is_quiet rs' (d ++ ys) ≡ true → ((q : ℕ) → cmds_of q xs ≡ cmds_of q ys) → xs ≡ ys
source-rest [] d rs rs' h [] r r' due due' one one' quiet quiet' cmds = refl
source-rest [] d rs rs' h (y ∷ ys) r r' due due' one one' quiet quiet' cmds =
    absurd (quiet-end d rs rs' h (rest-same d [] rs h r) (rest-same d (y ∷ ys) rs' h r') ((λ i. is_quiet rs (sym (append-nil d) i)) ∙ quiet) y ys (r'.no_boots.0, tt) r'.turns.0 cmds)
source-rest (x ∷ xs) d rs rs' h [] r r' due due' one one' quiet quiet' cmds =
    absurd (quiet-end d rs' rs h (rest-same d [] rs' h r') (rest-same d (x ∷ xs) rs h r) ((λ i. is_quiet rs' (sym (append-nil d) i)) ∙ quiet') x xs (r.no_boots.0, tt) r.turns.0 (λ q. sym (cmds q)))
source-rest (x ∷ xs) d rs rs' h (y ∷ ys) r r' due due' one one' quiet quiet' cmds =
    let e = both x y r r' due.0 due'.0 one.0 one'.0 cmds in
    let moved : Rest d (x ∷ ys) rs' = subst (λ z. Rest d (z ∷ ys) rs') (sym e) r' in
    let due_moved : EachWith (IsDue rs') d (x ∷ ys) = subst (λ z. EachWith (IsDue rs') d (z ∷ ys)) (sym e) due' in
    let rest = source-rest xs (more d x) rs rs' (has-more d x h) ys (rest-tail d x xs rs r) (rest-tail d x ys rs' moved) due.1 due_moved.1 one.1 one'.1
    ((λ i. is_quiet rs (append_assoc d (x ∷ []) xs i)) ∙ quiet) ((λ i. is_quiet rs' (append_assoc d (x ∷ []) ys i)) ∙ (λ i. is_quiet rs' (d ++ (e i ∷ ys))) ∙ quiet') (λ q. cmds-tail q x y xs ys e (cmds q)) in
    (λ i. e i ∷ rest i)
  where
    both : (x y : Entry) → Rest d (x ∷ xs) rs → Rest d (y ∷ ys) rs' → IsDue rs d (x ∷ xs) → IsDue rs' d (y ∷ ys) → IsOfOne x → IsOfOne y → ((q : ℕ) → cmds_of q (x ∷ xs) ≡ cmds_of q (y ∷ ys)) → x ≡ y
    both (Boot text config stored start zone carry) y r r' g g' o o' cmds = absurd (r.no_boots.0 tt)
    both (Again number start stored carry) y r r' g g' o o' cmds = absurd (r.no_boots.0 tt)
    both (Line k n cmd) (Boot text config stored start zone carry) r r' g g' o o' cmds = absurd (r'.no_boots.0 tt)
    both (Line k n cmd) (Again number start stored carry) r r' g g' o o' cmds = absurd (r'.no_boots.0 tt)
    both (Step k s b item) (Boot text config stored start zone carry) r r' g g' o o' cmds = absurd (r'.no_boots.0 tt)
    both (Step k s b item) (Again number start stored carry) r r' g g' o o' cmds = absurd (r'.no_boots.0 tt)
    both (Line k n cmd) (Line k' n' cmd') r r' g g' o o' cmds = same-entry d rs rs' h (Line k n cmd) (Line k' n' cmd') xs ys r r' (ap Source (o ∙ sym o')) cmds
    both (Step k s b item) (Step k' s' b' item') r r' g g' o o' cmds = same-entry d rs rs' h (Step k s b item) (Step k' s' b' item') xs ys r r' (ap Worker (o ∙ sym o')) cmds
    both (Line k n cmd) (Step k' s' b' item') r r' g g' o o' cmds =
        absurd (line-or-step d rs rs' (rest-same d (Line k n cmd ∷ xs) rs h r) (rest-same d (Step k' s' b' item' ∷ ys) rs' h r') k n cmd k' s' b' item' xs ys o o' r.turns.0 g' cmds)
    both (Step k s b item) (Line k' n' cmd') r r' g g' o o' cmds =
        absurd (line-or-step d rs' rs (rest-same d (Line k' n' cmd' ∷ ys) rs' h r') (rest-same d (Step k s b item ∷ xs) rs h r) k' n' cmd' k s b item ys xs o' o r'.turns.0 g (λ q. sym (cmds q)))

-- THE LAW: with one source, at most one journal with that Boot and those lines is lawful and quiet
pub one_source : (boot : Entry) (xs ys : Journal) (rs rs' : Records) → Lawful (boot ∷ xs) rs → Lawful (boot ∷ ys) rs' → OfOne xs → OfOne ys → is_quiet rs (boot ∷ xs) ≡ true → is_quiet rs' (boot ∷ ys) ≡ true
    → ((q : ℕ) → cmds_of q xs ≡ cmds_of q ys) → (xs ≡ ys) × (rs ≡ rs')
one_source boot xs ys rs rs' lawful lawful' one one' quiet quiet' cmds =
    let same = source-rest xs (boot ∷ []) rs rs' (boot-entry boot) ys (whole-rest boot xs rs lawful) (whole-rest boot ys rs' lawful') lawful.closed.1 lawful'.closed.1 one one' quiet quiet' cmds in
    (same, lawful.right.records_are ∙ (λ i. records_of (boot ∷ same i)) ∙ sym lawful'.right.records_are)
