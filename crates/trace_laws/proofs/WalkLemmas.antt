-- Two lawful runs, whose traces go on with the same bytes behind the same entries: one goes on as the other begins.
use Rattle.std.proofs.Common.{◌≡◌, ◌∙◌, ap, sym, subst, refl, ◌+◌, ◌<◌, ◌^◌, inl, inr, List, [], ◌∷◌, ◌++◌, length, Bool, true, false, arith, append_assoc, length-append}
use Rattle.std.specs.Prelude.{◌⊎◌, if◌then◌else◌}
use Rattle.ha_journal.specs.declared.entry.Entry.{Entry}
use Rattle.ha_config.specs.Words.{Text}
use Rattle.ha_journal.specs.Journal.{HasEntry, Journal, more}
use Rattle.ha_model.specs.Records.{Records}
use Rattle.ha_journal.specs.EntryText.{end_line, texts_after, trace_line}
use Rattle.ha_config.proofs.ListLemmas.{append-nil}
use Rattle.ha_laws.proofs.PrefixLaws.{has-more}
use Rattle.ha_whole.specs.Trace.{names}
use Rattle.whole_laws.proofs.AnswerLemmas.{Rest, rest-tail}
use Rattle.whole_laws.proofs.CutLemmas.{IsCut, cut-behind}
use Rattle.trace_laws.proofs.CutLemmas.{one_front}
use Rattle.trace_laws.proofs.EntryLemmas.{known_tail, no_end, same_entry}
use Rattle.trace_laws.proofs.FeedLemmas.{end_feed, entry_feed}
use Rattle.trace_laws.proofs.FrontLemmas.{AllKnown}

-- ---- the text behind these entries: the lines of more of them, perhaps the end line, and what is left

abbrev end_of : Journal → Bool → Text
end_of d ended = if ended then end_line (length d) else []

abbrev pub told : Journal → Journal → Bool → Text → Text
told d [] ended left = end_of d ended ++ left
told d (x ∷ xs) ended left = trace_line (names d) x ++ told (d ++ (x ∷ [])) xs ended left

abbrev lines_of : Journal → Journal → Text
lines_of d xs = texts_after (λ before x. trace_line (names before) x) d xs

pub told_is : (d xs : Journal) (ended : Bool) (left : Text)
    → (texts_after (λ before x. trace_line (names before) x) d xs ++ (if ended then end_line (length (d ++ xs)) else [])) ++ left ≡ told d xs ended left
told_is d [] ended left = (λ i. end_of (append-nil d i) ended ++ left)
told_is d (x ∷ xs) ended left =
    let shown : Text = trace_line (names d) x in
    let lines : Text = lines_of (d ++ (x ∷ [])) xs in
    let end : Text = end_of (d ++ (x ∷ xs)) ended in
    ap (λ z. z ++ left) (append_assoc shown lines end) ∙ append_assoc shown (lines ++ end) left
    ∙ ap (λ z. shown ++ z) ((λ i. (lines ++ end_of (sym (append_assoc d (x ∷ []) xs) i) ended) ++ left) ∙ told_is (d ++ (x ∷ [])) xs ended left)

-- ---- one goes on as the other begins

-- behind these entries the first ones, with their end or without, and what is left, are what the second begin with
abbrev pub IsFront : Journal → Journal → Bool → Text → Journal → Bool → Text → Type 0
IsFront d xs ended left ys ended' left' =
    ((ended ≡ true) × (ended' ≡ true) × (ys ≡ xs) × (left ≡ left'))
    ⊎ ((ended ≡ false) × ((behind : Journal) × (ys ≡ xs ++ behind) × (left ≡ told (d ++ xs) behind ended' left')))

pub head_on : (d : Journal) (x y : Entry) (xs ys : Journal) (ended ended' : Bool) (left left' : Text) → x ≡ y → IsFront (d ++ (x ∷ [])) xs ended left ys ended' left'
    → IsFront d (x ∷ xs) ended left (y ∷ ys) ended' left'
head_on d x y xs ys ended ended' left left' same (inl f) = inl (f.0, f.1, (λ i. sym same i ∷ f.2 i), f.3)
head_on d x y xs ys ended ended' left left' same (inr f) =
    inr (f.0, (f.1.0, (λ i. sym same i ∷ f.1.1 i), f.1.2 ∙ (λ i. told (append_assoc d (x ∷ []) xs i) f.1.0 ended' left')))

pub either_way : (d : Journal) (x y : Entry) (xs ys : Journal) (ended ended' : Bool) (left left' : Text) → x ≡ y
    → IsFront (d ++ (x ∷ [])) xs ended left ys ended' left' ⊎ IsFront (d ++ (x ∷ [])) ys ended' left' xs ended left
    → IsFront d (x ∷ xs) ended left (y ∷ ys) ended' left' ⊎ IsFront d (y ∷ ys) ended' left' (x ∷ xs) ended left
either_way d x y xs ys ended ended' left left' same (inl f) = inl (head_on d x y xs ys ended ended' left left' same f)
either_way d x y xs ys ended ended' left left' same (inr f) =
    inr (head_on d y x ys xs ended' ended left' left (sym same) (subst (λ (z : Entry). IsFront (d ++ (z ∷ [])) ys ended' left' xs ended left) same f))

-- where the first entries are none, and not ended, the rest is what is left
begins_so : (d ys : Journal) (ended' : Bool) (left left' : Text) → left ≡ told d ys ended' left' → IsFront d [] false left ys ended' left'
begins_so d ys ended' left left' e = inr (refl, (ys, refl, e ∙ (λ i. told (sym (append-nil d) i) ys ended' left')))

-- LAW: entries that go on behind the same ones with the same bytes are the same, as far as both go. Behind each an Again may stand whose
-- line is not there.
pub walk : (xs : Journal) (ended : Bool) (ys : Journal) (ended' : Bool) (d : Journal) (rs rs' : Records) (left left' : Text) (ts us : Journal) → HasEntry d → IsCut d → length d + length xs < 2 ^ 64
    → Rest d (xs ++ ts) rs → Rest d (ys ++ us) rs' → AllKnown (xs ++ ts) → AllKnown (ys ++ us) → told d xs ended left ≡ told d ys ended' left'
    → IsFront d xs ended left ys ended' left' ⊎ IsFront d ys ended' left' xs ended left
walk [] false ys ended' d rs rs' left left' ts us has c short r r' known known' e = inl (begins_so d ys ended' left left' e)
walk [] true [] false d rs rs' left left' ts us has c short r r' known known' e = inr (begins_so d [] true left' left (sym e))
walk [] true [] true d rs rs' left left' ts us has c short r r' known known' e =
    let n = length d in
    inl (inl (refl, refl, refl, (one_front (end_line n) left (end_line n) left' (end_feed n) (end_feed n) e).1))
walk [] true (y ∷ ys) ended' d rs rs' left left' ts us has c short r r' known known' e =
    let n = length d in
    absurd (no_end (names d) y n (sym (one_front (end_line n) left (trace_line (names d) y) (told (more d y) ys ended' left') (end_feed n) (entry_feed (names d) y) e).0))
walk (x ∷ xs) ended [] false d rs rs' left left' ts us has c short r r' known known' e = inr (begins_so d (x ∷ xs) ended left' left (sym e))
walk (x ∷ xs) ended [] true d rs rs' left left' ts us has c short r r' known known' e =
    let n = length d in
    absurd (no_end (names d) x n (one_front (trace_line (names d) x) (told (more d x) xs ended left) (end_line n) left' (entry_feed (names d) x) (end_feed n) e).0)
walk (x ∷ xs) ended (y ∷ ys) ended' d rs rs' left left' ts us has c short r r' known known' e =
    let all : List Text = names d in
    let cut = one_front (trace_line all x) (told (more d x) xs ended left) (trace_line all y) (told (more d y) ys ended' left') (entry_feed all x) (entry_feed all y) e in
    let same = same_entry d all rs rs' has c (omega (arith, short)) x y (xs ++ ts) (ys ++ us) r r' known known' cut.0 in
    let moved : Rest d (x ∷ (ys ++ us)) rs' = subst (λ z. Rest d (z ∷ (ys ++ us)) rs') (sym same) r' in
    either_way d x y xs ys ended ended' left left' same
    (walk xs ended ys ended' (more d x) rs rs' left left' ts us (has-more d x has) (cut-behind d x c has r.behind.0) (omega (arith, short, length-append d (x ∷ [])))
    (rest-tail d x (xs ++ ts) rs r) (rest-tail d x (ys ++ us) rs' moved) (known_tail x (xs ++ ts) known) (known_tail y (ys ++ us) known')
    (cut.1 ∙ (λ i. told (more d (sym same i)) ys ended' left')))
