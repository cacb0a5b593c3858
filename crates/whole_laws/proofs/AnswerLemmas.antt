-- The makers of the entries, the Boot and the lines of each source leave one lawful journal, over all its segments.
use Rattle.std.proofs.Common.{◌≡◌, ℕ, ◌+◌, ◌-◌, [], ◌∷◌, ◌++◌, length, refl, sym, ap, subst, ◌∙◌, arith, append_assoc}
use Rattle.std.specs.Prelude.{count_by, if◌then◌else◌}
use Rattle.ha_config.specs.declared.command.Cmd.{Cmd}
use Rattle.ha_sight.specs.declared.item.Item.{Item}
use Rattle.ha_journal.specs.declared.entry.Entry.{Entry}
use Rattle.ha_journal.specs.declared.entry.Entry.TheVariants.{Boot, Line, Step, Again}
use Rattle.ha_config.specs.Words.{EachAfter}
use Rattle.ha_journal.specs.Journal.{Journal, HasEntry, more}
use Rattle.ha_sight.specs.Scripts.{Branch}
use Rattle.ha_model.specs.Records as all
use Rattle.ha_model.specs.Records.{Records}
use Rattle.ha_model.specs.Lawful as one
use Rattle.ha_model.specs.Lawful.{is_line_of, pick}
use Rattle.ha_whole.specs.Segments.{carried, segment}
use Rattle.ha_whole.specs.Whole.{IsBehind, Lawful, own, records_of, ready, IsRightEntry, IsTurn}
use Rattle.ha_model.proofs.AppendLemmas.{SameUpTo}
use Rattle.ha_config.proofs.ListLemmas.{some-same}
use Rattle.ha_laws.specs.Makers.{Maker, Start, Source, Worker, maker, makers, cmds_of}
use Rattle.ha_journal.proofs.MoreLemmas.{has-entry}
use Rattle.ha_laws.proofs.OneAnswer.{cmds-tail, empty-not, equal-self, gives-item, head_or, one-item, source_or, tail_of, worker_or}
use Rattle.whole_laws.proofs.CutLemmas.{IsCut, cut-behind, cut-first}
use Rattle.whole_laws.proofs.GrowthLemmas.{own-is, own-same}
use Rattle.ha_laws.proofs.PrefixLaws.{has-more}
use Rattle.whole_laws.proofs.PrefixLemmas.{ready-told, records-prefix}

-- the records after a prefix tell the same of its last segment as the prefix's own
seen-alone : (d : Journal) (rs : Records) → IsCut d → SameUpTo (length d) (records_of d) rs → SameUpTo (length (segment d)) (all.records_of (segment d)) (own d rs)
seen-alone d rs c s = subst (λ l. SameUpTo (length (segment d)) l (own d rs)) (own-is d c) (own-same d (records_of d) rs c s)

pub one-step : (d : Journal) (rs rs' : Records) → IsCut d → SameUpTo (length d) (records_of d) rs → SameUpTo (length d) (records_of d) rs'
    → (k s : ℕ) (b : Branch) (item item' : Item) → IsRightEntry rs d (Step k s b item) → IsRightEntry rs' d (Step k s b item') → item ≡ item'
one-step d rs rs' c same same' k s b item item' right right' =
    let seg = segment d in
    let t = s - carried seg in
    let h = has-entry seg c.alone in
    one-item seg t b item item' (gives-item seg (own d rs) h (seen-alone d rs c same) k t b item right)
    (gives-item seg (own d rs') h (seen-alone d rs' c same') k t b item' right')

pub same-step : (d : Journal) (rs rs' : Records) → IsCut d → SameUpTo (length d) (records_of d) rs → SameUpTo (length d) (records_of d) rs'
    → (k s : ℕ) (b : Branch) (item : Item) (k' s' : ℕ) (b' : Branch) (item' : Item) → k ≡ k'
    → IsTurn rs d (Step k s b item) → IsTurn rs' d (Step k' s' b' item') → IsRightEntry rs d (Step k s b item) → IsRightEntry rs' d (Step k' s' b' item') → Step k s b item ≡ Step k' s' b' item'
same-step d rs rs' c same same' k s b item k' s' b' item' ks t t' right right' =
    let readies : ready rs d ≡ ready rs' d = sym (ready-told d (records_of d) rs c same) ∙ ready-told d (records_of d) rs' c same' in
    let pairs : (s, b) ≡ (s', b') = some-same (s, b) (s', b') (sym t.1 ∙ (λ i. pick (ks i) (readies i)) ∙ t'.1) in
    let moved : IsRightEntry rs d (Step k' s' b' item) = subst (λ p. IsRightEntry rs d (Step k' p.0 p.1 item)) pairs (subst (λ q. IsRightEntry rs d (Step q s b item)) ks right) in
    let items : item ≡ item' = one-step d rs rs' c same same' k' s' b' item item' moved right' in
    (λ i. Step (ks i) (pairs i).0 (pairs i).1 (items i))

abbrev kind_of : Maker → ℕ
kind_of Start = 0
kind_of (Source k) = 1
kind_of (Worker k) = 2

same-line : (d : Journal) (rs rs' : Records) (k n k' n' : ℕ) (cmd cmd' : Cmd) (xs ys : Journal) → Source k ≡ Source k' → IsTurn rs d (Line k n cmd) → IsTurn rs' d (Line k' n' cmd')
    → ((q : ℕ) → cmds_of q (Line k n cmd ∷ xs) ≡ cmds_of q (Line k' n' cmd' ∷ ys)) → Line k n cmd ≡ Line k' n' cmd'
same-line d rs rs' k n k' n' cmd cmd' xs ys makers t t' cmds =
    let ks : k ≡ k' = ap (source_or 0) makers in
    let ns : n ≡ n' = t.2 ∙ (λ i. count_by (is_line_of (ks i)) d) ∙ sym t'.2 in
    let cs : cmd ∷ cmds_of k xs ≡ cmd' ∷ cmds_of k ys
    = (λ i. if sym (equal-self k k refl) i then cmd ∷ cmds_of k xs else cmds_of k xs) ∙ cmds k ∙ (λ i. if equal-self k' k (sym ks) i then cmd' ∷ cmds_of k ys else cmds_of k ys) in
    (λ i. Line (ks i) (ns i) (ap (head_or cmd) cs i))

-- all that is known of what stands after a prefix
pub record Rest (d : Journal) (xs : Journal) (rs : Records) : Type 0 where
  pub records_are : rs ≡ records_of (d ++ xs)
  pub behind : EachAfter IsBehind d xs
  pub turns : EachAfter (IsTurn rs) d xs
  pub entries : EachAfter (IsRightEntry rs) d xs

pub rest-tail : (d : Journal) (x : Entry) (xs : Journal) (rs : Records) → Rest d (x ∷ xs) rs → Rest (more d x) xs rs
rest-tail d x xs rs r = record {
  records_are = r.records_are ∙ (λ i. records_of (sym (append_assoc d (x ∷ []) xs) i));
  behind = r.behind.1;
  turns = r.turns.1;
  entries = r.entries.1;
}

pub rest-same : (d : Journal) (xs : Journal) (rs : Records) → IsCut d → HasEntry d → Rest d xs rs → SameUpTo (length d) (records_of d) rs
rest-same d xs rs c h r = subst (SameUpTo (length d) (records_of d)) (sym r.records_are) (records-prefix d xs c h r.behind)

apart : (m n : Maker) → m ≡ n → kind_of m ≡ kind_of n
apart m n e = ap kind_of e

pub same-entry : (d : Journal) (rs rs' : Records) → IsCut d → HasEntry d → (x y : Entry) (xs ys : Journal) → Rest d (x ∷ xs) rs → Rest d (y ∷ ys) rs' → maker x ≡ maker y
    → ((q : ℕ) → cmds_of q (x ∷ xs) ≡ cmds_of q (y ∷ ys)) → x ≡ y
same-entry d rs rs' c h (Boot text config stored start zone carry) y xs ys r r' makers cmds = absurd r.behind.0
same-entry d rs rs' c h (Line k n cmd) (Boot text config stored start zone carry) xs ys r r' makers cmds = absurd r'.behind.0
same-entry d rs rs' c h (Line k n cmd) (Line k' n' cmd') xs ys r r' makers cmds = same-line d rs rs' k n k' n' cmd cmd' xs ys makers r.turns.0 r'.turns.0 cmds
same-entry d rs rs' c h (Line k n cmd) (Step k' s' b' item') xs ys r r' makers cmds = absurd (omega (arith, apart (Source k) (Worker k') makers))
same-entry d rs rs' c h (Line k n cmd) (Again number start stored carry) xs ys r r' makers cmds = absurd (omega (arith, apart (Source k) Start makers))
same-entry d rs rs' c h (Step k s b item) (Boot text config stored start zone carry) xs ys r r' makers cmds = absurd r'.behind.0
same-entry d rs rs' c h (Step k s b item) (Line k' n' cmd') xs ys r r' makers cmds = absurd (omega (arith, apart (Worker k) (Source k') makers))
same-entry d rs rs' c h (Step k s b item) (Again number start stored carry) xs ys r r' makers cmds = absurd (omega (arith, apart (Worker k) Start makers))
same-entry d rs rs' c h (Step k s b item) (Step k' s' b' item') xs ys r r' makers cmds =
    same-step d rs rs' c (rest-same d (Step k s b item ∷ xs) rs c h r) (rest-same d (Step k' s' b' item' ∷ ys) rs' c h r') k s b item k' s' b' item' (ap (worker_or 0) makers) r.turns.0 r'.turns.0 r.entries.0 r'.entries.0
same-entry d rs rs' c h (Again number start stored carry) (Boot text config stored' start' zone carry') xs ys r r' makers cmds = absurd r'.behind.0
same-entry d rs rs' c h (Again number start stored carry) (Line k' n' cmd') xs ys r r' makers cmds = absurd (omega (arith, apart Start (Source k') makers))
same-entry d rs rs' c h (Again number start stored carry) (Step k' s' b' item') xs ys r r' makers cmds = absurd (omega (arith, apart Start (Worker k') makers))
same-entry d rs rs' c h (Again number start stored carry) (Again number' start' stored' carry') xs ys r r' makers cmds = r.behind.0.1 ∙ sym r'.behind.0.1

one-rest : (xs : Journal) (d : Journal) (rs rs' : Records) → IsCut d → HasEntry d → (ys : Journal) → Rest d xs rs → Rest d ys rs' → makers xs ≡ makers ys
    → ((q : ℕ) → cmds_of q xs ≡ cmds_of q ys) → xs ≡ ys
one-rest [] d rs rs' c h [] r r' all cmds = refl
one-rest [] d rs rs' c h (y ∷ ys) r r' all cmds = absurd (empty-not (maker y) (makers ys) all)
one-rest (x ∷ xs) d rs rs' c h [] r r' all cmds = absurd (empty-not (maker x) (makers xs) (sym all))
one-rest (x ∷ xs) d rs rs' c h (y ∷ ys) r r' all cmds =
    let e = same-entry d rs rs' c h x y xs ys r r' (ap (head_or (maker x)) all) cmds in
    let rest = one-rest xs (more d x) rs rs' (cut-behind d x c h r.behind.0) (has-more d x h) ys (rest-tail d x xs rs r)
    (rest-tail d x ys rs' (subst (λ z. Rest d (z ∷ ys) rs') (sym e) r')) (ap tail_of all) (λ q. cmds-tail q x y xs ys e (cmds q)) in
    (λ i. e i ∷ rest i)

pub whole-rest : (boot : Entry) (xs : Journal) (rs : Records) → Lawful (boot ∷ xs) rs → Rest (boot ∷ []) xs rs
whole-rest boot xs rs lawful = record {
  records_are = lawful.right.records_are;
  behind = lawful.right.journal.entries.1;
  turns = lawful.turns.1;
  entries = lawful.right.entries.1;
}

-- THE LAW: for a Boot, the commands of each source, and the makers of the entries, at most one journal with its records is lawful
pub one_answer : (boot : Entry) (xs ys : Journal) (rs rs' : Records) → Lawful (boot ∷ xs) rs → Lawful (boot ∷ ys) rs' → makers xs ≡ makers ys
    → ((q : ℕ) → cmds_of q xs ≡ cmds_of q ys) → (xs ≡ ys) × (rs ≡ rs')
one_answer boot xs ys rs rs' lawful lawful' all cmds =
    let c = cut-first boot lawful.right.journal.entries.0 in
    let same = one-rest xs (boot ∷ []) rs rs' c tt ys (whole-rest boot xs rs lawful) (whole-rest boot ys rs' lawful') all cmds in
    (same, lawful.right.records_are ∙ (λ i. records_of (boot ∷ same i)) ∙ sym lawful'.right.records_are)
