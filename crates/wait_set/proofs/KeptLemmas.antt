-- What a set keeps beside its waits, when one of them changes, goes or comes.
use Rattle.std.proofs.Common.{◌≡◌, ℕ, zero, suc, ◌-◌, ◌<◌, List, [], ◌∷◌, length, set, get_or, filter, length-set, All, Bool, true, false, not, refl, sym, ap, subst, ◌∙◌, arith, Option, inl, inr}
use Rattle.std.specs.Prelude.{Some, None, MatchOption, nat_eq, is_some, is_none, option_map, slice_get, ◌&&◌}
use Rattle.std.specs.BTreeSet.{BTreeSet}
use Rattle.std.specs.List.{list_any}
use Rattle.std.proofs.lemmas.Bool.{cases_lt}
use Rattle.std.proofs.lemmas.List.Elements.{All-cons, All-filter, All-head, All-nil, All-push, All-set, All-tail, All-weaker}
use Rattle.std.proofs.lemmas.List.Kept.{AllPairs-filter}
use Rattle.std.proofs.lemmas.List.Quantifiers.{all_pairs_push}
use Rattle.std.proofs.lemmas.Option.{slice_get-get_or}
use Rattle.ha_config.specs.declared.template.Template.{Template}
use Rattle.ha_sight.specs.declared.waiting.WaitEnd.{WaitEnd}
use Rattle.tpl_reads.specs.Reads.{Written, entities_read}
use Rattle.timer_queue.specs.Timers.{Timer, removed}
use Rattle.wait_set.specs.declared.asked.Asked.{Asked}
use Rattle.wait_set.specs.Asked.{added, is_of}
use Rattle.wait_set.specs.Concern.{Ascend}
use Rattle.wait_set.specs.Readers.{Reads, read_by}
use Rattle.wait_set.specs.Runs.{IsPaired, Pair, has_pair}
use Rattle.wait_set.specs.Timers.{AreApart, AreFound, AreKept, AreTimed, IsListed, due_in, is_asking}
use Rattle.wait_set.proofs.CutLemmas.{or-left, or-right, without}
use Rattle.wait_set.proofs.TimedLemmas.{due-lost, flip, other-owner, timed-ended, timed-noted}

-- ---- the owners stay

owner-set : (i : ℕ) (asks : List Asked) (x y : Asked) → i < length asks → x ≡ get_or asks i x → y.owner ≡ x.owner → (n : ℕ) (d : Asked) → (get_or (set asks i y) n d).owner ≡ (get_or asks n d).owner
owner-set i [] x y lt is same n d = absurd (omega arith)
owner-set zero (z ∷ zs) x y lt is same zero d = same ∙ ap (λ (a : Asked). a.owner) is
owner-set zero (z ∷ zs) x y lt is same (suc n) d = refl
owner-set (suc i) (z ∷ zs) x y lt is same zero d = refl
owner-set (suc i) (z ∷ zs) x y lt is same (suc n) d = owner-set i zs x y (omega arith) is same n d

ascend-set : (i : ℕ) (asks : List Asked) (x y : Asked) → i < length asks → x ≡ get_or asks i x → y.owner ≡ x.owner → Ascend asks → Ascend (set asks i y)
ascend-set i asks x y lt is same asc m n d before within =
    let len : length (set asks i y) ≡ length asks = length-set asks i y in
    let up = asc m n d before (omega (arith, within, len)) in
    let left = owner-set i asks x y lt is same m d in
    let right = owner-set i asks x y lt is same n d in
    omega (arith, up, left, right)

paired-set : (i : ℕ) (asks : List Asked) (x y : Asked) (runs : BTreeSet Pair) → i < length asks → x ≡ get_or asks i x → y.owner ≡ x.owner → y.ask ≡ x.ask → All (IsPaired runs) asks → All (IsPaired runs) (set asks i y)
paired-set i asks x y runs lt is same ask paired = All-set (IsPaired runs) asks i y ((λ k. has_pair runs (ask k).serial (same k)) ∙ subst (IsPaired runs) (sym is) (paired i x lt)) paired

-- ---- one goes on waiting

pub set-read : (i : ℕ) (asks : List Asked) (x y : Asked) → i < length asks → x ≡ get_or asks i x → y ≡ x → set asks i y ≡ asks
set-read i [] x y lt is same = absurd (omega arith)
set-read zero (z ∷ zs) x y lt is same = (λ k. (same ∙ is) k ∷ zs)
set-read (suc i) (z ∷ zs) x y lt is same = ap (λ t. z ∷ t) (set-read i zs x y (omega arith) is same)

-- one that asks a template after it was noted asked it before
pub asking-kept : (x y : Asked) → y.ask ≡ x.ask → (is_some x.end ≡ true → is_some y.end ≡ true) → is_asking y ≡ true → is_asking x ≡ true
asking-kept x y ask some asks = by x.end refl
  where
    by : (e : Option WaitEnd) → x.end ≡ e → (is_none x.end && is_some x.ask.test) ≡ true
    by None is = (λ k. is_none (is k) && is_some (sym ask k).test) ∙ right (is_none y.end) (is_some y.ask.test) asks
      where
        right : (p q : Bool) → (p && q) ≡ true → q ≡ true
        right true q h = h
        right false q h = cc
    by (Some w) is = absurd (never y.end (some (λ k. is_some (is k))) asks)
      where
        never : (e : Option WaitEnd) → is_some e ≡ true → (is_none e && is_some y.ask.test) ≡ true → ⊥
        never None h g = cc
        never (Some v) h g = cc

-- LEMMA: all is kept where a wait stays as it was, but for what is not told of it
pub kept-noted : (i : ℕ) (asks : List Asked) (x y : Asked) (ts : List Timer) (reads : Reads) (runs : BTreeSet Pair) (ordered : Bool) → AreKept asks ts reads runs ordered → i < length asks → x ≡ get_or asks i x → y.owner ≡ x.owner
    → y.ask ≡ x.ask → due_in y ≡ due_in x → (is_asking y ≡ true → is_asking x ≡ true) → AreKept (set asks i y) ts reads runs ordered
kept-noted i asks x y ts reads runs ordered kept lt is same ask due asking = record {
  timed = timed-noted i asks x y ts kept.timed lt is same due;
  listed = All-set (IsListed reads) asks i y
      (λ h. (λ k. read_by (same k) reads) ∙ subst (IsListed reads) (sym is) (kept.listed i x lt) (asking h) ∙ (λ k. option_map entities_read (sym ask k).test)) kept.listed;
  paired = paired-set i asks x y runs lt is same ask kept.paired;
  order = λ up. ascend-set i asks x y lt is same (kept.order up);
}

-- ---- one ends

gone : (P : Asked → Type 0) (y : Asked) → is_some y.end ≡ true → is_asking y ≡ true → P y
gone P y ended asks = absurd (by y.end ended asks)
  where
    by : (e : Option WaitEnd) → is_some e ≡ true → (is_none e && is_some y.ask.test) ≡ true → ⊥
    by None h g = cc
    by (Some w) h g = cc

module _ (old new : Reads) (o : ℕ) (rest : (n : ℕ) → nat_eq o n ≡ false → read_by n new ≡ read_by n old) where
  listed-others : (zs : List Asked) → list_any (λ b. nat_eq b.owner o) zs ≡ false → All (IsListed old) zs → All (IsListed new) zs
  listed-others [] none all = All-nil (IsListed new)
  listed-others (z ∷ zs) none all =
      All-cons (IsListed new) z zs
      (λ h. rest z.owner (flip z.owner o false (or-left (nat_eq z.owner o) (list_any (λ b. nat_eq b.owner o) zs) none)) ∙ All-head (IsListed old) z zs all h)
      (listed-others zs (or-right (nat_eq z.owner o) (list_any (λ b. nat_eq b.owner o) zs) none) (All-tail (IsListed old) z zs all))

  listed-ended : (i : ℕ) (asks : List Asked) (x y : Asked) → AreApart asks → All (IsListed old) asks → i < length asks → x ≡ get_or asks i x → x.owner ≡ o → is_some y.end ≡ true → All (IsListed new) (set asks i y)
  listed-ended i [] x y apart all lt is own ended = absurd (omega arith)
  listed-ended zero (z ∷ zs) x y apart all lt is own ended =
      All-cons (IsListed new) y zs (gone (λ a. read_by a.owner new ≡ option_map entities_read a.ask.test) y ended)
      (listed-others zs ((λ k. list_any (λ b. nat_eq b.owner ((sym own ∙ ap (λ (a : Asked). a.owner) is) k)) zs) ∙ apart.0) (All-tail (IsListed old) z zs all))
  listed-ended (suc i) (z ∷ zs) x y apart all lt is own ended =
      All-cons (IsListed new) z (set zs i y)
      (λ h. rest z.owner ((λ k. nat_eq (sym own k) z.owner) ∙ other-owner i zs x z.owner (omega arith) is apart.0) ∙ All-head (IsListed old) z zs all h)
      (listed-ended i zs x y apart.1 (All-tail (IsListed old) z zs all) (omega arith) is own ended)

  -- LEMMA: those that ask a template are listed where one is taken out
  pub listed-cut : (i : ℕ) (asks : List Asked) (x : Asked) → AreApart asks → All (IsListed old) asks → i < length asks → x ≡ get_or asks i x → x.owner ≡ o → All (IsListed new) (without i asks)
  listed-cut i [] x apart all lt is own = absurd (omega arith)
  listed-cut zero (z ∷ zs) x apart all lt is own =
      listed-others zs ((λ k. list_any (λ b. nat_eq b.owner ((sym own ∙ ap (λ (a : Asked). a.owner) is) k)) zs) ∙ apart.0) (All-tail (IsListed old) z zs all)
  listed-cut (suc i) (z ∷ zs) x apart all lt is own =
      All-cons (IsListed new) z (without i zs)
      (λ h. rest z.owner ((λ k. nat_eq (sym own k) z.owner) ∙ other-owner i zs x z.owner (omega arith) is apart.0) ∙ All-head (IsListed old) z zs all h)
      (listed-cut i zs x apart.1 (All-tail (IsListed old) z zs all) (omega arith) is own)

-- LEMMA: all is kept where a wait ends, and its timer goes
pub kept-ended : (i : ℕ) (asks : List Asked) (x y : Asked) (ts ts' : List Timer) (old new : Reads) (runs runs' : BTreeSet Pair) (ordered : Bool) → AreKept asks ts old runs ordered → i < length asks → x ≡ get_or asks i x → y.owner ≡ x.owner → y.ask ≡ x.ask
    → is_some y.end ≡ true → ts' ≡ removed x.owner ts → ((n : ℕ) → nat_eq x.owner n ≡ false → read_by n new ≡ read_by n old) → runs' ≡ runs → AreKept (set asks i y) ts' new runs' ordered
kept-ended i asks x y ts ts' old new runs runs' ordered kept lt is same ask ended timers rest alike = record {
  timed = subst (AreTimed (set asks i y)) (sym timers) (timed-ended i asks x y ts kept.timed lt is same (due-lost y ended));
  listed = listed-ended old new x.owner rest i asks x y kept.timed.apart kept.listed lt is refl ended;
  paired = subst (λ rs. All (IsPaired rs) (set asks i y)) (sym alike) (paired-set i asks x y runs lt is same ask kept.paired);
  order = λ up. ascend-set i asks x y lt is same (kept.order up);
}

-- ---- one comes

-- what is kept of a wait that asks a template, by cases
kept-of : (o : Option Template) (kept : Option Written) → MatchOption o (Unit {0}) (λ t. kept ≡ Some (entities_read t)) → is_some o ≡ true → kept ≡ option_map entities_read o
kept-of None kept h some = absurd (let bad : ◌≡◌ {A = Bool} false true = some in cc)
kept-of (Some t) kept h some = h

-- LEMMA: all is kept where a wait comes, of whose owner no other has one
pub kept-added : (a : Asked) (asks : List Asked) (ts ts' : List Timer) (old new : Reads) (runs runs' : BTreeSet Pair) (ordered stays : Bool) → AreKept asks ts old runs ordered → AreTimed (added a asks) ts'
    → list_any (λ b. nat_eq b.owner a.owner) asks ≡ false → MatchOption a.ask.test (Unit {0}) (λ t. read_by a.owner new ≡ Some (entities_read t))
    → ((n : ℕ) → nat_eq a.owner n ≡ false → read_by n new ≡ read_by n old)
    → All (IsPaired runs') (added a asks)
    → (stays ≡ true → (ordered ≡ true) × (Ascend asks → All (λ (b : Asked). b.owner < a.owner) asks)) → AreKept (added a asks) ts' new runs' stays
kept-added a asks ts ts' old new runs runs' ordered stays kept timed none here others paired above = record {
  timed = timed;
  paired = paired;
  listed = All-push (IsListed new) left a (All-filter keep (IsListed new) asks (listed-others old new a.owner others asks none kept.listed))
      (λ asking. kept-of a.ask.test (read_by a.owner new) here (right (is_none a.end) (is_some a.ask.test) asking));
  order = λ up. all_pairs_push (λ (b c : Asked). b.owner < c.owner) left a (AllPairs-filter (λ (b c : Asked). b.owner < c.owner) keep asks (kept.order (above up).0))
      (All-filter keep (λ (b : Asked). b.owner < a.owner) asks ((above up).1 (kept.order (above up).0)));
}
  where
    keep : Asked → Bool
    keep b = not (is_of a.ask.serial a.ask.branch b)

    left : List Asked
    left = filter keep asks

    right : (p q : Bool) → (p && q) ≡ true → q ≡ true
    right true q h = h
    right false q h = cc

-- LEMMA: more may be listed, and of an owner whom no wait has anything be kept
pub kept-listed : (o : ℕ) (asks : List Asked) (ts ts' : List Timer) (old new : Reads) (runs runs' : BTreeSet Pair) (ordered : Bool) → AreKept asks ts old runs ordered → AreTimed asks ts'
    → list_any (λ b. nat_eq b.owner o) asks ≡ false → ((n : ℕ) → nat_eq o n ≡ false → read_by n new ≡ read_by n old)
    → ((s o : ℕ) → has_pair runs s o ≡ true → has_pair runs' s o ≡ true) → AreKept asks ts' new runs' ordered
kept-listed o asks ts ts' old new runs runs' ordered kept timed none others rest = record {
  timed = timed;
  paired = All-weaker (IsPaired runs) (IsPaired runs') (λ b was. rest b.ask.serial b.owner was) asks kept.paired;
  listed = listed-others old new o others asks none kept.listed;
  order = kept.order;
}

-- LEMMA: and each is found
pub found-of : (asks : List Asked) (ts : List Timer) (reads : Reads) (runs runs' : BTreeSet Pair) (ordered : Bool) → AreKept asks ts reads runs ordered → ((s o : ℕ) → has_pair runs s o ≡ true → has_pair runs' s o ≡ true)
    → AreFound asks runs' ordered
found-of asks ts reads runs runs' ordered kept rest = record {
  apart = kept.timed.apart;
  paired = All-weaker (IsPaired runs) (IsPaired runs') (λ b was. rest b.ask.serial b.owner was) asks kept.paired;
  order = kept.order;
}

-- LEMMA: where the owner of the last wait is less, all are
pub last-above : (asks : List Asked) (o : ℕ) (l : Asked) → slice_get asks (length asks - 1) ≡ Some l → l.owner < o → Ascend asks → All (λ (a : Asked). a.owner < o) asks
last-above asks o l last less asc k d lt = elim (cases_lt k (length asks - 1)) [
  | inl before ↦ (let up = asc k (length asks - 1) d before (omega (arith, lt)) in let e = owner in omega (arith, up, e, less))
  | inr at ↦ (let same : length asks - 1 ≡ k = omega (arith, at, lt) in
      let e = subst (λ (n : ℕ). (get_or asks n d).owner ≡ l.owner) same owner in omega (arith, e, less))
]
  where
    owner : (get_or asks (length asks - 1) d).owner ≡ l.owner
    owner =
        (let e : Some (get_or asks (length asks - 1) d) ≡ Some l = sym (slice_get-get_or asks (length asks - 1) d (omega (arith, lt))) ∙ last in
        let q : get_or asks (length asks - 1) d ≡ l = cc in ap (λ (a : Asked). a.owner) q)

pub none-above : (asks : List Asked) (o : ℕ) → slice_get asks (length asks - 1) ≡ None → All (λ (a : Asked). a.owner < o) asks
none-above asks o none k d lt = absurd (let bad : ◌≡◌ {A = Option Asked} None (Some (get_or asks (length asks - 1) d)) = sym none ∙ slice_get-get_or asks (length asks - 1) d (omega (arith, lt)) in cc)
