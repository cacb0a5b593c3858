-- The number of each record is one more than how many of its unit's name stand before it.
use Rattle.std.proofs.Common.{◌≡◌, ◌∙◌, refl, sym, subst, ℕ, suc, ◌+◌, Bool, true, false, cond, List, [], ◌∷◌, ◌++◌, length, map, append_assoc}
use Rattle.std.specs.Prelude.{count_by, if◌then◌else◌}
use Rattle.std.specs.Option.{option_map_or}
use Rattle.std.proofs.lemmas.List.{append-nil, map-append}
use Rattle.std.proofs.lemmas.List.Sums.{sum_by-cons}
use Rattle.ha_config.specs.declared.config.Automation.{Automation}
use Rattle.ha_config.specs.Names.{name_of}
use Rattle.ha_config.specs.Words.{Text, same}
use Rattle.ha_journal.specs.declared.entry.Entry.{Entry}
use Rattle.ha_journal.specs.Attempts.{Attempt, passing}
use Rattle.ha_journal.specs.Journal.{Journal, last_place, more, units}
use Rattle.ha_journal.proofs.ForceLaws.{unit-more}
use Rattle.ha_model.specs.declared.record.Record.{Record}
use Rattle.ha_sight.specs.Scripts.{Spot}
use Rattle.ha_model.specs.Records.{Records, has_name, is_restart_mode, lets_in_after, mode_of, new_record, own_ends_on, records_of, spots}
use Rattle.ha_model.specs.RunSteps.{attempt_all, joined, own_ends, replace_all, settled}
use Rattle.ha_model.proofs.FoldLaws.{records-more}
use Rattle.ha_model.proofs.KnownLaws.{AllKnown, all-known}
use Rattle.segment_carry.specs.Hands.{Counted}

-- of each record its unit and its number
abbrev Pairs : Type 0
Pairs = List (ℕ × ℕ)

abbrev pairs_of : Records → Pairs
pairs_of rs = map {A = Record} {B = ℕ × ℕ} (λ r. (r.automation, r.number)) rs

-- how many of these have a name
abbrev count_in : (ℕ → Text) → Text → Pairs → ℕ
count_in names name ps = count_by (λ (q : ℕ × ℕ). same (names q.0) name) ps

abbrev AreCounted : (ℕ → Text) → Pairs → Pairs → Type 0
AreCounted names before [] = Unit {0}
AreCounted names before (p ∷ ps) = (p.1 ≡ suc (count_in names (names p.0) before)) × AreCounted names (before ++ (p ∷ [])) ps

count-cons : (names : ℕ → Text) (name : Text) (p : ℕ × ℕ) (ps : Pairs) → count_in names name (p ∷ ps) ≡ cond (same (names p.0) name) 1 0 + count_in names name ps
count-cons names name p ps = sum_by-cons (λ (q : ℕ × ℕ). cond (same (names q.0) name) 1 0) p ps

-- ---- what leaves units and numbers

pairs-ends : (places : ℕ → List Spot) (k : Journal) (rs : Records) → pairs_of (own_ends_on places k rs) ≡ pairs_of rs
pairs-ends places k [] = refl
pairs-ends places k (r ∷ rs) = λ i. (r.automation, r.number) ∷ pairs-ends places k rs i

pairs-replaced : (a p : ℕ) (rs : Records) → pairs_of (replace_all a p rs) ≡ pairs_of rs
pairs-replaced a p [] = refl
pairs-replaced a p (r ∷ rs) = λ i. (r.automation, r.number) ∷ pairs-replaced a p rs i

pairs-settled : (k : Journal) (before rs : Records) → pairs_of (settled k before rs) ≡ pairs_of rs
pairs-settled k before [] = refl
pairs-settled k before (r ∷ rs) = λ i. (r.automation, r.number) ∷ pairs-settled k (r ∷ before) rs i

-- ---- one more

counted-snoc : (names : ℕ → Text) (before ps : Pairs) (p : ℕ × ℕ) → AreCounted names before ps → p.1 ≡ suc (count_in names (names p.0) (before ++ ps)) → AreCounted names before (ps ++ (p ∷ []))
counted-snoc names before [] p h is = (is ∙ (λ i. suc (count_in names (names p.0) (append-nil before i))), tt)
counted-snoc names before (q ∷ ps) p h is =
    (h.0, counted-snoc names (before ++ (q ∷ [])) ps p h.1 (is ∙ (λ i. suc (count_in names (names p.0) (sym (append_assoc before (q ∷ []) ps) i)))))

count-records : (names : ℕ → Text) (name : Text) (rs : Records) → count_by (λ (r : Record). same (names r.automation) name) rs ≡ count_in names name (pairs_of rs)
count-records names name [] = refl
count-records names name (r ∷ rs) =
    sum_by-cons (λ (x : Record). cond (same (names x.automation) name) 1 0) r rs
    ∙ (λ i. cond (same (names r.automation) name) 1 0 + count-records names name rs i)
    ∙ sym (count-cons names name (r.automation, r.number) (pairs_of rs))

module _ (k : Journal) where
  abbrev names_then : ℕ → Text
  names_then = name_of (units k)

  counted-joined : (rs with_ends : Records) (x : ℕ × Attempt) → pairs_of with_ends ≡ pairs_of rs → AreCounted names_then [] (pairs_of rs)
      → AreCounted names_then [] (pairs_of (with_ends ++ (new_record k rs x ∷ [])))
  counted-joined rs with_ends x same h =
      (let new : ℕ × ℕ = (x.1.automation, suc (count_by (has_name k (names_then x.1.automation)) rs)) in
      subst (AreCounted names_then []) (sym (map-append {A = Record} {B = ℕ × ℕ} (λ r. (r.automation, r.number)) with_ends (new_record k rs x ∷ [])))
      (subst (λ ps. AreCounted names_then [] (ps ++ (new ∷ []))) (sym same)
      (counted-snoc names_then [] (pairs_of rs) new h (λ i. suc (count-records names_then (names_then x.1.automation) rs i)))))

  counted-attempts : (rs : Records) (xs : List (ℕ × Attempt)) → AreCounted names_then [] (pairs_of rs) → AreCounted names_then [] (pairs_of (attempt_all k rs xs))
  counted-attempts rs [] h = h
  counted-attempts rs (x ∷ xs) h =
      counted-attempts (if lets_in_after (units k) rs x.1.automation then joined (mode_of (units k) x.1.automation) x.1.automation (last_place k) rs (new_record k rs x) else rs) xs
      (by (lets_in_after (units k) rs x.1.automation))
    where
      one : (b : Bool) → AreCounted names_then [] (pairs_of ((if b then replace_all x.1.automation (last_place k) rs else rs) ++ (new_record k rs x ∷ [])))
      one true = counted-joined rs (replace_all x.1.automation (last_place k) rs) x (pairs-replaced x.1.automation (last_place k) rs) h
      one false = counted-joined rs rs x refl h

      by : (b : Bool) → AreCounted names_then [] (pairs_of (if b then joined (mode_of (units k) x.1.automation) x.1.automation (last_place k) rs (new_record k rs x) else rs))
      by true = one (is_restart_mode (mode_of (units k) x.1.automation))
      by false = h

-- ---- names that are the same

abbrev Agree : (ℕ → Text) → (ℕ → Text) → Pairs → Type 0
Agree f g [] = Unit {0}
Agree f g (p ∷ ps) = (f p.0 ≡ g p.0) × Agree f g ps

agree-snoc : (f g : ℕ → Text) (ps : Pairs) (p : ℕ × ℕ) → Agree f g ps → f p.0 ≡ g p.0 → Agree f g (ps ++ (p ∷ []))
agree-snoc f g [] p h e = (e, tt)
agree-snoc f g (q ∷ ps) p h e = (h.0, agree-snoc f g ps p h.1 e)

count-agree : (f g : ℕ → Text) (name : Text) (ps : Pairs) → Agree f g ps → count_in f name ps ≡ count_in g name ps
count-agree f g name [] h = refl
count-agree f g name (p ∷ ps) h =
    count-cons f name p ps ∙ (λ i. cond (same (h.0 i) name) 1 0 + count-agree f g name ps h.1 i) ∙ sym (count-cons g name p ps)

counted-agree : (f g : ℕ → Text) (before ps : Pairs) → Agree f g before → Agree f g ps → AreCounted f before ps → AreCounted g before ps
counted-agree f g before [] hb h c = tt
counted-agree f g before (p ∷ ps) hb h c = (
  c.0 ∙ (λ i. suc (count_in f (h.0 i) before)) ∙ (λ i. suc (count-agree f g (g p.0) before hb i)),
  counted-agree f g (before ++ (p ∷ [])) ps (agree-snoc f g before p hb h.0) h.1 c.1,
)

agree-known : (s : Journal) (x : Entry) (rs : Records) → AllKnown (length (units s)) rs → Agree (name_of (units s)) (name_of (units (more s x))) (pairs_of rs)
agree-known s x [] h = tt
agree-known s x (r ∷ rs) h =
    ((let e = sym (unit-more s x r.automation h.0) in λ i. option_map_or (λ (y : Automation). y.name) (e i) []), agree-known s x rs h.1)

-- ---- along a journal

counted-step : (before : Journal) (x : Entry) → AreCounted (name_of (units before)) [] (pairs_of (records_of before)) → AreCounted (name_of (units (more before x))) [] (pairs_of (records_of (more before x)))
counted-step before x h =
    (let k = more before x in
    let rs = records_of before in
    let now : AreCounted (name_of (units k)) [] (pairs_of rs)
    = counted-agree (name_of (units before)) (name_of (units k)) [] (pairs_of rs) tt (agree-known before x rs (all-known before)) h in
    let ends : AreCounted (name_of (units k)) [] (pairs_of (own_ends k rs)) = subst (AreCounted (name_of (units k)) []) (sym (pairs-ends (spots k) k rs)) now in
    subst (λ l. AreCounted (name_of (units k)) [] (pairs_of l)) (sym (records-more before x))
    (subst (AreCounted (name_of (units k)) []) (sym (pairs-settled k [] (attempt_all k (own_ends k rs) (passing k))))
    (counted-attempts k (own_ends k rs) (passing k) ends)))

counted-along : (before xs : Journal) → AreCounted (name_of (units before)) [] (pairs_of (records_of before)) → AreCounted (name_of (units (before ++ xs))) [] (pairs_of (records_of (before ++ xs)))
counted-along before [] h = subst (λ l. AreCounted (name_of (units l)) [] (pairs_of (records_of l))) (sym (append-nil before)) h
counted-along before (x ∷ xs) h =
    subst (λ l. AreCounted (name_of (units l)) [] (pairs_of (records_of l))) (append_assoc before (x ∷ []) xs) (counted-along (more before x) xs (counted-step before x h))

counted-all : (s : Journal) → AreCounted (name_of (units s)) [] (pairs_of (records_of s))
unfolding records_of
counted-all s = counted-along [] s tt

counted-records : (s : Journal) (before rs : Records) → AreCounted (name_of (units s)) (pairs_of before) (pairs_of rs) → Counted s before rs
counted-records s before [] h = tt
counted-records s before (r ∷ rs) h = (
  h.0 ∙ (λ i. suc (sym (count-records (name_of (units s)) (name_of (units s) r.automation) before) i)),
  counted-records s (before ++ (r ∷ [])) rs
      (subst (λ ps. AreCounted (name_of (units s)) ps (pairs_of rs)) (sym (map-append {A = Record} {B = ℕ × ℕ} (λ r. (r.automation, r.number)) before (r ∷ []))) h.1),
)

-- LAW: the runs of a segment are numbered by the names of their units
pub counted-own : (s : Journal) → Counted s [] (records_of s)
counted-own s = counted-records s [] (records_of s) (counted-all s)
