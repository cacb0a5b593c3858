-- With one source the Boot and its lines leave one lawful and quiet journal, over all its segments.
use Rattle.std.proofs.Common.{◌≡◌, ℕ, ◌+◌, ◌<◌, inl, inr, List, [], ◌∷◌, ◌++◌, length, map, true, false, refl, sym, ap, subst, ◌∙◌, arith, append_assoc}
use Rattle.std.specs.Prelude.{nat_eq, if◌then◌else◌}
use Rattle.std.specs.List.{list_all}
use Rattle.ha_config.specs.declared.command.Cmd.{Cmd}
use Rattle.ha_sight.specs.declared.item.Item.{Item}
use Rattle.ha_journal.specs.declared.entry.Entry.{Entry}
use Rattle.ha_journal.specs.declared.entry.Entry.TheVariants.{Boot, Line, Step, Again}
use Rattle.ha_config.specs.Words.{EachWith}
use Rattle.ha_journal.specs.Journal.{Journal, HasEntry, more}
use Rattle.ha_sight.specs.Scripts.{Branch}
use Rattle.ha_model.specs.Records.{Records}
use Rattle.ha_model.specs.Lawful as one
use Rattle.ha_model.specs.Lawful.{is_by_worker_0}
use Rattle.ha_whole.specs.Segments.{carried, segment}
use Rattle.ha_whole.specs.Whole.{IsBehind, IsDue, IsTurn, Lawful, ends_segment, is_quiet, is_rested, own, ready, records_of}
use Rattle.ha_config.proofs.ListLemmas.{append-nil, true-false}
use Rattle.ha_model.proofs.AppendLemmas.{SameUpTo}
use Rattle.ha_config.proofs.EqualLemmas.{and_right}
use Rattle.ha_laws.specs.Makers.{Source, Worker, cmds_of, IsOfOne, OfOne}
use Rattle.whole_laws.proofs.CutLemmas.{IsCut, cut-behind, cut-first}
use Rattle.ha_laws.proofs.PrefixLaws.{has-more}
use Rattle.whole_laws.proofs.PrefixLemmas.{quiet-told, rested-told}
use Rattle.ha_laws.proofs.OneAnswer.{cmds-tail, empty-not, equal-self}
use Rattle.whole_laws.proofs.AnswerLemmas.{Rest, rest-same, rest-tail, same-entry, whole-rest}

closing-cmds : (q : ℕ) (xs : Journal) → list_all is_by_worker_0 xs ≡ true → cmds_of q xs ≡ []
closing-cmds q [] h = refl
closing-cmds q (Boot text config stored start zone carry ∷ xs) h = absurd (true-false (sym h))
closing-cmds q (Line source number cmd ∷ xs) h = absurd (true-false (sym h))
closing-cmds q (Again number start stored carry ∷ xs) h = absurd (true-false (sym h))
closing-cmds q (Step worker serial branch item ∷ xs) h = closing-cmds q xs (and_right (nat_eq worker 0) (list_all is_by_worker_0 xs) h)

-- a line and a step cannot both stand after the same prefix
line-or-step : (d : Journal) (rs rs' : Records) → IsCut d → SameUpTo (length d) (records_of d) rs → SameUpTo (length d) (records_of d) rs' → (k n : ℕ) (cmd : Cmd) (k' s : ℕ) (b : Branch) (item : Item) (xs ys : Journal)
    → IsOfOne (Line k n cmd) → IsOfOne (Step k' s b item) → IsTurn rs d (Line k n cmd) → IsDue rs' d (Step k' s b item ∷ ys) → ((q : ℕ) → cmds_of q (Line k n cmd ∷ xs) ≡ cmds_of q ys) → ⊥
line-or-step d rs rs' c s s' k n cmd k' t b item xs ys zero_k zero_k' turn (inl busy) cmds =
    true-false (sym turn.1 ∙ sym (rested-told d (records_of d) rs c s k) ∙ rested-told d (records_of d) rs' c s' k ∙ (λ i. is_rested rs' ((zero_k ∙ sym zero_k') i) d) ∙ busy)
line-or-step d rs rs' c s s' k n cmd k' t b item xs ys zero_k zero_k' turn (inr (z, closing)) cmds =
    empty-not cmd (cmds_of k xs) (sym (closing-cmds k ys closing) ∙ sym (cmds k) ∙ (λ i. if equal-self k k refl i then cmd ∷ cmds_of k xs else cmds_of k xs))

-- where the journal is quiet nobody may step
none-ready : (d : Journal) (rs : Records) → is_quiet rs d ≡ true → 0 < length (ready rs d) → ⊥
none-ready d rs quiet lt = by (one.ready (own d rs) (segment d)) quiet lt
  where
    by : (l : List (ℕ × Branch)) → one.is_empty l ≡ true → 0 < length (map {A = ℕ × Branch} {B = ℕ × Branch} (λ p. (carried (segment d) + p.0, p.1)) l) → ⊥
    by [] e lt = omega arith
    by (x ∷ xs) e lt = true-false (sym e)

-- a quiet prefix that is a journal is the whole
quiet-end : (d : Journal) (rs rs' : Records) → IsCut d → SameUpTo (length d) (records_of d) rs → SameUpTo (length d) (records_of d) rs' → ends_segment d ≡ false → is_quiet rs d ≡ true
    → (y : Entry) (ys : Journal) → IsBehind d y → IsTurn rs' d y → ((q : ℕ) → [] ≡ cmds_of q (y ∷ ys)) → ⊥
quiet-end d rs rs' c s s' ends quiet (Boot text config stored start zone carry) ys b turn cmds = b
quiet-end d rs rs' c s s' ends quiet (Line k n cmd) ys b turn cmds = empty-not cmd (cmds_of k ys) (cmds k ∙ (λ i. if equal-self k k refl i then cmd ∷ cmds_of k ys else cmds_of k ys))
quiet-end d rs rs' c s s' ends quiet (Again number start stored carry) ys b turn cmds = true-false (sym b.0 ∙ ends)
quiet-end d rs rs' c s s' ends quiet (Step k t b item) ys behind turn cmds =
    none-ready d rs' (sym (quiet-told d (records_of d) rs' c s') ∙ quiet-told d (records_of d) rs c s ∙ quiet) turn.0

source-rest : (xs : Journal) (d : Journal) (rs rs' : Records) → IsCut d → HasEntry d → (ys : Journal) → Rest d xs rs → Rest d ys rs' → EachWith (IsDue rs) d xs → EachWith (IsDue rs') d ys → OfOne xs → OfOne ys
    → ends_segment (d ++ xs) ≡ false → ends_segment (d ++ ys) ≡ false → is_quiet rs (d ++ xs) ≡ true → is_quiet rs' (d ++ ys) ≡ true → ((q : ℕ) → cmds_of q xs ≡ cmds_of q ys) → xs ≡ ys
source-rest [] d rs rs' c h [] r r' due due' one one' ends ends' quiet quiet' cmds = refl
source-rest [] d rs rs' c h (y ∷ ys) r r' due due' one one' ends ends' quiet quiet' cmds =
    absurd (quiet-end d rs rs' c (rest-same d [] rs c h r) (rest-same d (y ∷ ys) rs' c h r') ((λ i. ends_segment (sym (append-nil d) i)) ∙ ends) ((λ i. is_quiet rs (sym (append-nil d) i)) ∙ quiet) y ys r'.behind.0 r'.turns.0 cmds)
source-rest (x ∷ xs) d rs rs' c h [] r r' due due' one one' ends ends' quiet quiet' cmds =
    absurd (quiet-end d rs' rs c (rest-same d [] rs' c h r') (rest-same d (x ∷ xs) rs c h r) ((λ i. ends_segment (sym (append-nil d) i)) ∙ ends') ((λ i. is_quiet rs' (sym (append-nil d) i)) ∙ quiet') x xs r.behind.0 r.turns.0 (λ q. sym (cmds q)))
source-rest (x ∷ xs) d rs rs' c h (y ∷ ys) r r' due due' one one' ends ends' quiet quiet' cmds =
    let e = both x y r r' due.0 due'.0 one.0 one'.0 cmds in
    let moved : Rest d (x ∷ ys) rs' = subst (λ z. Rest d (z ∷ ys) rs') (sym e) r' in
    let due_moved : EachWith (IsDue rs') d (x ∷ ys) = subst (λ z. EachWith (IsDue rs') d (z ∷ ys)) (sym e) due' in
    let rest = source-rest xs (more d x) rs rs' (cut-behind d x c h r.behind.0) (has-more d x h) ys (rest-tail d x xs rs r) (rest-tail d x ys rs' moved) due.1 due_moved.1 one.1 one'.1
    ((λ i. ends_segment (append_assoc d (x ∷ []) xs i)) ∙ ends) ((λ i. ends_segment (append_assoc d (x ∷ []) ys i)) ∙ (λ i. ends_segment (d ++ (e i ∷ ys))) ∙ ends')
    ((λ i. is_quiet rs (append_assoc d (x ∷ []) xs i)) ∙ quiet) ((λ i. is_quiet rs' (append_assoc d (x ∷ []) ys i)) ∙ (λ i. is_quiet rs' (d ++ (e i ∷ ys))) ∙ quiet') (λ q. cmds-tail q x y xs ys e (cmds q)) in
    (λ i. e i ∷ rest i)
  where
    both : (x y : Entry) → Rest d (x ∷ xs) rs → Rest d (y ∷ ys) rs' → IsDue rs d (x ∷ xs) → IsDue rs' d (y ∷ ys) → IsOfOne x → IsOfOne y → ((q : ℕ) → cmds_of q (x ∷ xs) ≡ cmds_of q (y ∷ ys)) → x ≡ y
    both (Boot text config stored start zone carry) y r r' g g' o o' cmds = absurd r.behind.0
    both (Line k n cmd) (Boot text config stored start zone carry) r r' g g' o o' cmds = absurd r'.behind.0
    both (Step k s b item) (Boot text config stored start zone carry) r r' g g' o o' cmds = absurd r'.behind.0
    both (Again number start stored carry) (Boot text config stored' start' zone carry') r r' g g' o o' cmds = absurd r'.behind.0
    both (Line k n cmd) (Line k' n' cmd') r r' g g' o o' cmds = same-entry d rs rs' c h (Line k n cmd) (Line k' n' cmd') xs ys r r' (ap Source (o ∙ sym o')) cmds
    both (Step k s b item) (Step k' s' b' item') r r' g g' o o' cmds = same-entry d rs rs' c h (Step k s b item) (Step k' s' b' item') xs ys r r' (ap Worker (o ∙ sym o')) cmds
    both (Again number start stored carry) (Again number' start' stored' carry') r r' g g' o o' cmds = same-entry d rs rs' c h (Again number start stored carry) (Again number' start' stored' carry') xs ys r r' refl cmds
    both (Line k n cmd) (Again number start stored carry) r r' g g' o o' cmds = absurd (true-false (sym r'.behind.0.0 ∙ r.behind.0))
    both (Step k s b item) (Again number start stored carry) r r' g g' o o' cmds = absurd (true-false (sym r'.behind.0.0 ∙ r.behind.0))
    both (Again number start stored carry) (Line k n cmd) r r' g g' o o' cmds = absurd (true-false (sym r.behind.0.0 ∙ r'.behind.0))
    both (Again number start stored carry) (Step k s b item) r r' g g' o o' cmds = absurd (true-false (sym r.behind.0.0 ∙ r'.behind.0))
    both (Line k n cmd) (Step k' s' b' item') r r' g g' o o' cmds =
        absurd (line-or-step d rs rs' c (rest-same d (Line k n cmd ∷ xs) rs c h r) (rest-same d (Step k' s' b' item' ∷ ys) rs' c h r') k n cmd k' s' b' item' xs ys o o' r.turns.0 g' cmds)
    both (Step k s b item) (Line k' n' cmd') r r' g g' o o' cmds =
        absurd (line-or-step d rs' rs c (rest-same d (Line k' n' cmd' ∷ ys) rs' c h r') (rest-same d (Step k s b item ∷ xs) rs c h r) k' n' cmd' k s b item ys xs o' o r'.turns.0 g (λ q. sym (cmds q)))

-- THE LAW: with one source, at most one journal with that Boot and those lines is lawful and quiet
pub one_source : (boot : Entry) (xs ys : Journal) (rs rs' : Records) → Lawful (boot ∷ xs) rs → Lawful (boot ∷ ys) rs' → OfOne xs → OfOne ys → is_quiet rs (boot ∷ xs) ≡ true → is_quiet rs' (boot ∷ ys) ≡ true
    → ((q : ℕ) → cmds_of q xs ≡ cmds_of q ys) → (xs ≡ ys) × (rs ≡ rs')
one_source boot xs ys rs rs' lawful lawful' one one' quiet quiet' cmds =
    let c = cut-first boot lawful.right.journal.entries.0 in
    let same = source-rest xs (boot ∷ []) rs rs' c tt ys (whole-rest boot xs rs lawful) (whole-rest boot ys rs' lawful') lawful.closed.1 lawful'.closed.1 one one'
    lawful.right.journal.opened lawful'.right.journal.opened quiet quiet' cmds in
    (same, lawful.right.records_are ∙ (λ i. records_of (boot ∷ same i)) ∙ sym lawful'.right.records_are)
