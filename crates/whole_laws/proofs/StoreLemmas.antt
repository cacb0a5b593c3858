-- The store's text stays where the last put changed nothing that it keeps.
use Rattle.std.proofs.Common.{◌≡◌, ◌∙◌, ap, refl, sym, ℕ, ◌-◌, List, [], ◌∷◌, length, Bool, true, false, ◌&&◌, arith}
use Rattle.std.specs.Prelude.{codes, not, nat_eq}
use Rattle.std.proofs.lemmas.Bool.{or_parts}
use Rattle.std.proofs.lemmas.Bool.Decides.{nat_tests}
use Rattle.ha_journal.specs.declared.entry.Entry.{Entry}
use Rattle.ha_journal.specs.declared.entry.Entry.TheVariants.{Boot, Line, Step, Again}
use Rattle.ha_config.specs.Equal.{same_flag}
use Rattle.ha_config.specs.Words.{Text, same}
use Rattle.ha_config.specs.StoreText.{in_name_order, moments_text, store_of, switches_text}
use Rattle.ha_config.specs.ValueText.{map_text}
use Rattle.ha_config.proofs.EqualLemmas.{and_left, and_right, same-sound}
use Rattle.ha_config.proofs.ListLemmas.{none-some}
use Rattle.ha_journal.specs.Entries.{is_again}
use Rattle.ha_journal.specs.Journal.{Journal}
use Rattle.ha_journal.specs.States.{switches_of}
use Rattle.ha_whole.specs.Lasts.{lasts}
use Rattle.ha_whole.specs.Segments.{segment}
use Rattle.ha_whole.specs.Whole.{before_put, changes_store, is_kept_same, put, same_pairs_by, store_text}
use Rattle.whole_laws.specs.Puts.{IsPut}
use Rattle.whole_laws.proofs.PutLemmas.{before-put}

-- ---- lists of pairs

pub same-of : (a b : Bool) → same_flag a b ≡ true → a ≡ b
same-of true true h = refl
same-of true false h = absurd (cc)
same-of false true h = absurd (cc)
same-of false false h = refl

pub same-number : (m n : ℕ) → nat_eq m n ≡ true → m ≡ n
same-number m n h = grind (arith, nat_tests)

-- LAW: lists with the same names and alike values are equal, where alike values are
pub pairs-same : {X : Type 0} (alike : X → X → Bool) → ((a b : X) → alike a b ≡ true → a ≡ b) → (ps qs : List (Text × X)) → same_pairs_by alike ps qs ≡ true → ps ≡ qs
pairs-same alike sound [] [] h = refl
pairs-same alike sound [] (q ∷ qs) h = cc
pairs-same alike sound (p ∷ ps) [] h = cc
pairs-same alike sound (p ∷ ps) (q ∷ qs) h =
    let here : Bool = same p.0 q.0 && alike p.1 q.1 in
    let one : here ≡ true = and_left here (same_pairs_by alike ps qs) h in
    let name : p.0 ≡ q.0 = same-sound p.0 q.0 (and_left (same p.0 q.0) (alike p.1 q.1) one) in
    let value : p.1 ≡ q.1 = sound p.1 q.1 (and_right (same p.0 q.0) (alike p.1 q.1) one) in
    let later : ps ≡ qs = pairs-same alike sound ps qs (and_right here (same_pairs_by alike ps qs) h) in
    (λ i. (name i, value i) ∷ later i)

-- ---- the store

no-again : (x : Entry) → IsPut x → is_again x ≡ false
no-again (Boot text config stored start zone carry) p = refl
no-again (Line source number cmd) p = refl
no-again (Step worker serial branch item) p = refl
no-again (Again number start stored carry) p = absurd (none-some _ (sym p.none))

not-false : (b : Bool) → not b ≡ false → b ≡ true
not-false true h = refl
not-false false h = cc

-- what the store's text is made of
abbrev text_of : List (Text × Bool) → List (Text × ℕ) → Text
text_of switches last = map_text ((codes "last", moments_text last) ∷ (codes "switches", switches_text switches) ∷ (codes "version", codes "2") ∷ [])

-- where what is kept is the same, so is the text
kept-text : (s t : Journal) → is_kept_same s t ≡ true → store_of (switches_of t) (in_name_order (lasts t)) ≡ store_of (switches_of s) (in_name_order (lasts s))
kept-text s t h =
    let switches = same_pairs_by same_flag (in_name_order (switches_of s)) (in_name_order (switches_of t)) in
    let moments = same_pairs_by nat_eq (in_name_order (lasts s)) (in_name_order (lasts t)) in
    let e = pairs-same same_flag same-of (in_name_order (switches_of s)) (in_name_order (switches_of t)) (and_left switches moments h) in
    let f = pairs-same nat_eq same-number (in_name_order (lasts s)) (in_name_order (lasts t)) (and_right switches moments h) in
    (λ i. text_of (sym e i) (sym f i))

-- LAW: where the last put changed nothing that the store keeps, the store's text stays
pub store-stays : (j : Journal) (x : Entry) → IsPut x → changes_store (put j x) ≡ false → store_text (put j x) ≡ store_text j
store-stays j x p stays =
    let k : Journal = put j x in
    let kept = is_kept_same (segment (before_put k)) (segment k) in
    let parts = or_parts (nat_eq (length k) 1) (not kept) stays in
    kept-text (segment (before_put k)) (segment k) (not-false kept parts.1)
    ∙ (λ i. store_text (before-put j x (no-again x p) i))
