-- The entries of a journal's last put.
use Rattle.std.proofs.Common.{◌≡◌, ◌∙◌, ◌⊎◌, inl, inr, ap, refl, sym, subst, ℕ, ◌-◌, ◌<◌, List, [], ◌∷◌, ◌++◌, length, Bool, true, false, arith, length-append, append_assoc}
use Rattle.std.proofs.lemmas.List.{append-nil}
use Rattle.std.specs.Prelude.{Option, Some, None, Result, Ok, Err, IfSome, OnOk, flat_map, option_map, slice_get, if◌then◌else◌}
use Rattle.ha_config.specs.declared.command.Cmd.{Cmd}
use Rattle.ha_config.specs.Words.{Text}
use Rattle.ha_journal.specs.declared.entry.Entry.{Entry}
use Rattle.ha_journal.specs.declared.entry.Entry.TheVariants.{Boot, Line, Step, Again}
use Rattle.ha_sight.specs.declared.item.Item.{Item}
use Rattle.ha_journal.specs.Commands.{IsFair}
use Rattle.ha_journal.specs.Entries.{is_again, is_restart}
use Rattle.ha_journal.specs.EntryText.{error_text_of, trace_line}
use Rattle.ha_journal.specs.Journal.{Journal, more}
use Rattle.ha_model.specs.Records.{Records}
use Rattle.ha_config.specs.Words.{Text}
use Rattle.ha_whole.specs.Trace.{call_text_of, names}
use Rattle.ha_whole.specs.Whole as whole
use Rattle.ha_whole.specs.Whole.{IsWithin, Right, again_of, appended, before_put, put}
use Rattle.ha_texts.specs.Lines.{AreDated, IsDated}
use Rattle.ha_config.proofs.ListLemmas.{get-more, none-some, some-same, true-false}
use Rattle.whole_laws.proofs.ClosingLemmas.{put-step}
use Rattle.whole_laws.proofs.PutLemmas.{Way, Once, Twice, before-one, before-put, before-two, put-appends, way-of}
use Rattle.bus_turn.specs.Dated.{IsLastDated}
use Rattle.bus_turn.specs.declared.fault.BusFault.{BusFault}
use Rattle.bus_turn.specs.States.{Outside}
use Rattle.bus_turn.specs.Writes.{Shows, entry_texts}
use Rattle.bus_turn.specs.Shown.{saved_text, texts_of}

at-end : (j : Journal) (x : Entry) → slice_get (more j x) (length j) ≡ Some x
at-end [] x = refl
at-end (y ∷ j) x = at-end j x

pub last-is : (j : Journal) (x : Entry) → slice_get (more j x) (length (more j x) - 1) ≡ Some x
last-is j x = (let e : length (more j x) - 1 ≡ length j = omega (arith, length-append j (x ∷ [])) in λ i. slice_get (more j x) (e i)) ∙ at-end j x

at-seam : (j xs : Journal) (x : Entry) → slice_get (j ++ (x ∷ xs)) (length j) ≡ Some x
at-seam [] xs x = refl
at-seam (y ∷ j) xs x = at-seam j xs x

at-put : (j : Journal) (x : Entry) → slice_get (j ++ appended j x) (length j) ≡ Some x
at-put j x = by (is_restart x)
  where
    by : (b : Bool) → slice_get (j ++ (if b then x ∷ again_of (more j x) ∷ [] else x ∷ [])) (length j) ≡ Some x
    by true = at-seam j (again_of (more j x) ∷ []) x
    by false = at-seam j [] x

-- where the entry of the last put stands
pub put-entry : (j : Journal) (x : Entry) → is_again x ≡ false → slice_get (put j x) (length (before_put (put j x))) ≡ Some x
put-entry j x single = (λ i. slice_get (put-appends j x i) (length (before-put j x single i))) ∙ at-put j x

-- a journal whose last entry this is
pub last-of : (k : Journal) (x : Entry) → Some x ≡ slice_get k (length k - 1) → (before : Journal) × (k ≡ more before x)
last-of [] x e = absurd (cc)
last-of (y ∷ []) x e = ([], ap (λ (z : Entry). z ∷ []) (some-same y x (sym e)))
last-of (y ∷ z ∷ zs) x e =
    let same : length (y ∷ z ∷ zs) - 1 ≡ length (z ∷ zs) = omega arith in
    let back : length (z ∷ zs) - 1 ≡ length zs = omega arith in
    let rest = last-of (z ∷ zs) x (e ∙ (λ i. slice_get (y ∷ z ∷ zs) (same i)) ∙ (λ i. slice_get (z ∷ zs) (sym back i))) in
    (y ∷ rest.0, ap (λ (l : Journal). y ∷ l) rest.1)

-- ---- the moments that are printed

pub dated-one : (k : Journal) (entry : Entry) → Some entry ≡ slice_get k (length k - 1) → is_again entry ≡ false → IsLastDated k → AreDated entry
dated-one k entry e single h =
    let last = last-of k entry e in
    let there : slice_get k (length (before_put k)) ≡ Some entry = (λ i. slice_get (last.1 i) (length (before_put (last.1 i)))) ∙ (λ i. slice_get (more last.0 entry) (length (before-one last.0 entry single i))) ∙ at-end last.0 entry in
    subst (λ o. IfSome o AreDated) there h

pub again-dated : (x : Entry) → is_again x ≡ true → AreDated x
again-dated (Boot text config stored start zone carry) h = absurd (true-false (sym h))
again-dated (Line source number cmd) h = absurd (true-false (sym h))
again-dated (Step worker serial branch item) h = absurd (true-false (sym h))
again-dated (Again number start stored carry) h = tt

-- the entry before the last one, if there are two
two-of : (b : Journal) (y r : Entry) → Some r ≡ slice_get (more b y) (length (more b y) - 2) → (r ≡ y) ⊎ ((c : Journal) × (b ≡ more c r))
two-of [] y r e = inl (some-same r y e)
two-of (z ∷ b) y r e =
    let at : length (more (z ∷ b) y) - 2 ≡ length (z ∷ b) - 1 = omega (arith, length-append (z ∷ b) (y ∷ [])) in
    let within : length (z ∷ b) - 1 < length (z ∷ b) = omega arith in
    inr (last-of (z ∷ b) r (e ∙ (λ i. slice_get (more (z ∷ b) y) (at i)) ∙ get-more (z ∷ b) y (length (z ∷ b) - 1) within))

pub dated-two : (k : Journal) (y r : Entry) → Some y ≡ slice_get k (length k - 1) → is_again y ≡ true → Some r ≡ slice_get k (length k - 2) → IsLastDated k → AreDated r
dated-two k y r e opens f h = by (last-of k y e)
  where
    by : (before : Journal) × (k ≡ more before y) → AreDated r
    by (b, is) = cases (two-of b y r (f ∙ (λ i. slice_get (is i) (length (is i) - 2))))
      where
        cases : (r ≡ y) ⊎ ((c : Journal) × (b ≡ more c r)) → AreDated r
        cases (inl same) = subst AreDated (sym same) (again-dated y opens)
        cases (inr (c, there)) =
            let whole : k ≡ more (more c r) y = is ∙ ap (λ (l : Journal). more l y) there in
            let seam : slice_get (more (more c r) y) (length c) ≡ Some r = (λ i. slice_get (append_assoc c (r ∷ []) (y ∷ []) i) (length c)) ∙ at-seam c (y ∷ []) r in
            let found : slice_get k (length (before_put k)) ≡ Some r = (λ i. slice_get (whole i) (length (before_put (whole i)))) ∙ (λ i. slice_get (more (more c r) y) (length (before-two c r y opens i))) ∙ seam in
            subst (λ o. IfSome o AreDated) found h

dated-at : (k j : Journal) (x : Entry) → k ≡ put j x → is_again x ≡ false → AreDated x → IsLastDated k
dated-at k j x is single h = subst IsLastDated (sym is) (subst (λ o. IfSome o AreDated) (sym (put-entry j x single)) h)

fair-dated : (j : Journal) (cmd : Cmd) → IsFair j cmd → IsDated cmd
fair-dated j (Cmd.Report entity text attributes) h = tt
fair-dated j (Cmd.Gone entity) h = tt
fair-dated j (Cmd.Event kind pairs) h = tt
fair-dated j (Cmd.Moment at) h = h
fair-dated j (Cmd.Switch name on stop) h = tt
fair-dated j (Cmd.Trigger name skip) h = tt
fair-dated j Cmd.Restart h = tt
fair-dated j (Cmd.Reload text config) h = tt
fair-dated j (Cmd.Refused code) h = tt
fair-dated j Cmd.Lost h = tt
fair-dated j Cmd.TooLong h = tt

-- the moment of a fair line, and a step, which has none, are printed
pub line-dated : {T E : Type 0} (put : Result T E) (k j : Journal) (source number : ℕ) (cmd : Cmd) → OnOk put (k ≡ whole.put j (Line source number cmd)) → IsFair j cmd → OnOk put (IsLastDated k)
line-dated (Ok v) k j source number cmd is fair = dated-at k j (Line source number cmd) is refl (fair-dated j cmd fair)
line-dated (Err e) k j source number cmd is fair = tt

pub step-dated : {T E : Type 0} (put : Result T E) (k j : Journal) (P : ℕ → List ℕ → Item → Type 0) (worker : ℕ)
    → OnOk put ((serial : ℕ) × (branch : List ℕ) × (item : Item) × P serial branch item × (k ≡ more j (Step worker serial branch item))) → OnOk put (IsLastDated k)
step-dated (Ok v) k j P worker is = dated-at k j (Step worker is.0 is.1 is.2) (is.4 ∙ sym (put-step j worker is.0 is.1 is.2)) refl tt
step-dated (Err e) k j P worker is = tt

-- ---- the first entry

pub boot-put : (boot : Entry) (rs : Records) → Right (boot ∷ []) rs → (put [] boot ≡ boot ∷ []) × (is_again boot ≡ false)
boot-put (Boot text config stored start zone carry) rs right = (refl, refl)
boot-put (Line source number cmd) rs right = absurd right.journal.entries.0
boot-put (Step worker serial branch item) rs right = absurd right.journal.entries.0
boot-put (Again number start stored carry) rs right = absurd right.journal.entries.0

pub boot-there : (k : Journal) (rs : Records) (boot : Entry) → Right k rs → k ≡ boot ∷ [] → (is_again boot ≡ false) × (k ≡ put [] boot)
boot-there k rs boot right is = let p = boot-put boot rs (subst (λ (j : Journal). Right j rs) is right) in (p.1, is ∙ sym p.0)

-- the boot alone passes no bound
pub boot-within : (boot : Entry) (rs : Records) → Right (boot ∷ []) rs → IsWithin (boot ∷ [])
boot-within (Boot text config stored start zone carry) rs right = record { segment_room = (omega arith, tt); room = omega arith; segments_room = omega arith }
boot-within (Line source number cmd) rs right = absurd right.journal.entries.0
boot-within (Step worker serial branch item) rs right = absurd right.journal.entries.0
boot-within (Again number start stored carry) rs right = absurd right.journal.entries.0

pub boot-dated : (k : Journal) (rs : Records) (boot : Entry) → Right k rs → k ≡ boot ∷ [] → AreDated boot → IsLastDated k
boot-dated k rs boot right is h = let t = boot-there k rs boot right is in dated-at k [] boot t.1 t.0 h

pub mapped : {T U : Type 0} (f : T → U) (P : U → Type 0) (o : Option T) → IfSome o (λ t. P (f t)) → IfSome (option_map f o) P
mapped f P None h = tt
mapped f P (Some t) h = h

pub on-any : {T E : Type 0} (r : Result T E) (P : Type 0) → P → OnOk r P
on-any (Ok v) P p = p
on-any (Err e) P p = tt

-- ---- what was written of the last entries is what was to be written of the put

-- for the same fault
pub all-shown : (k : Journal) (rs : Records) (out out' : Outside) (f f' : Option BusFault) → f ≡ f'
    → ((before : Journal) (x : Entry) → is_again x ≡ false → k ≡ put before x → Shows (texts_of rs before x) out f out') → (before : Journal) (x : Entry) → is_again x ≡ false → k ≡ put before x
    → Shows (texts_of rs before x) out f' out'
all-shown k rs out out' f f' e h before x single is = subst (λ z. Shows (texts_of rs before x) out z out') e (h before x single is)

-- a line that restarts has neither a call line nor an error line
restart-quiet : (rs : Records) (before : Journal) (x : Entry) → is_restart x ≡ true → (call_text_of rs before x ≡ []) × (error_text_of x ≡ [])
restart-quiet rs before (Boot text config stored start zone carry) e = absurd (true-false (sym e))
restart-quiet rs before (Again number start stored carry) e = absurd (true-false (sym e))
restart-quiet rs before (Step worker serial branch item) e = absurd (true-false (sym e))
restart-quiet rs before (Line source number Cmd.Restart) e = (refl, refl)
restart-quiet rs before (Line source number (Cmd.Reload text config)) e = absurd (true-false (sym e))
restart-quiet rs before (Line source number (Cmd.Report entity text attributes)) e = absurd (true-false (sym e))
restart-quiet rs before (Line source number (Cmd.Gone entity)) e = absurd (true-false (sym e))
restart-quiet rs before (Line source number (Cmd.Event kind pairs)) e = absurd (true-false (sym e))
restart-quiet rs before (Line source number (Cmd.Moment at)) e = absurd (true-false (sym e))
restart-quiet rs before (Line source number (Cmd.Switch name on stop)) e = absurd (true-false (sym e))
restart-quiet rs before (Line source number (Cmd.Trigger name skip)) e = absurd (true-false (sym e))
restart-quiet rs before (Line source number (Cmd.Refused code)) e = absurd (true-false (sym e))
restart-quiet rs before (Line source number Cmd.Lost) e = absurd (true-false (sym e))
restart-quiet rs before (Line source number Cmd.TooLong) e = absurd (true-false (sym e))

module _ (k seen before : Journal) (x : Entry) (is : k ≡ put before x) (single : is_again x ≡ false) (same : seen ≡ k) where
  -- there is an entry
  pub has-one : None ≡ slice_get seen (length seen - 1) → ⊥
  has-one none = by (way-of before x)
    where
      at : None ≡ slice_get k (length k - 1)
      at = none ∙ (λ i. slice_get (same i) (length (same i) - 1))

      by : Way before x → ⊥
      by (Once e on) = let whole : k ≡ more before x = is ∙ on in none-some x (at ∙ (λ i. slice_get (whole i) (length (whole i) - 1)) ∙ last-is before x)
      by (Twice e on) =
          let here : Entry = again_of (more before x) in
          let whole : k ≡ more (more before x) here = is ∙ on in
          none-some here (at ∙ (λ i. slice_get (whole i) (length (whole i) - 1)) ∙ last-is (more before x) here)

  -- before an Again there is one
  pub has-two : (again : Entry) → Some again ≡ slice_get seen (length seen - 1) → is_again again ≡ true → None ≡ slice_get seen (length seen - 2) → ⊥
  has-two again last opens none = by (way-of before x)
    where
      by : Way before x → ⊥
      by (Once e on) =
          let whole : k ≡ more before x = is ∙ on in
          let again_is : again ≡ x = some-same again x (last ∙ (λ i. slice_get ((same ∙ whole) i) (length ((same ∙ whole) i) - 1)) ∙ last-is before x) in
          true-false (sym opens ∙ ap is_again again_is ∙ single)
      by (Twice e on) =
          let here : Entry = again_of (more before x) in
          let whole : k ≡ more (more before x) here = is ∙ on in
          let n : length (more (more before x) here) - 2 ≡ length before = omega (arith, length-append (more before x) (here ∷ []), length-append before (x ∷ [])) in
          let there : slice_get (more (more before x) here) (length before) ≡ Some x = (λ i. slice_get (append_assoc before (x ∷ []) (here ∷ []) i) (length before)) ∙ at-seam before (here ∷ []) x in
          none-some x (none ∙ (λ i. slice_get ((same ∙ whole) i) (length ((same ∙ whole) i) - 2)) ∙ (λ i. slice_get (more (more before x) here) (n i)) ∙ there)

  module _ (rs : Records) (out out' : Outside) (fault : Option BusFault) where
    abbrev all : List Text
    all = names k

    -- the texts of a put of one entry
    one-texts : is_restart x ≡ false → k ≡ more before x → entry_texts (call_text_of rs before x) (error_text_of x) (trace_line all x) (saved_text k) ≡ texts_of rs before x
    one-texts e on =
        let line : trace_line all x ≡ flat_map (trace_line (names (put before x))) (appended before x) =
        sym (append-nil (trace_line all x)) ∙ (λ i. flat_map (trace_line (names (is i))) (if sym e i then x ∷ again_of (more before x) ∷ [] else x ∷ [])) in
        λ i. entry_texts (call_text_of rs before x) (error_text_of x) (line i) (saved_text (is i))

    pub shown-one : (entry : Entry) → Some entry ≡ slice_get seen (length seen - 1) → is_again entry ≡ false
        → ((b : Journal) → k ≡ more b entry → Shows (entry_texts (call_text_of rs b entry) (error_text_of entry) (trace_line all entry) (saved_text k)) out fault out') → Shows (texts_of rs before x) out fault out'
    shown-one entry last plain shows = by (way-of before x)
      where
        at : Some entry ≡ slice_get k (length k - 1)
        at = last ∙ (λ i. slice_get (same i) (length (same i) - 1))

        by : Way before x → Shows (texts_of rs before x) out fault out'
        by (Once e on) =
            let whole : k ≡ more before x = is ∙ on in
            let entry_is : entry ≡ x = some-same entry x (at ∙ (λ i. slice_get (whole i) (length (whole i) - 1)) ∙ last-is before x) in
            subst (λ t. Shows t out fault out') (one-texts e whole)
            (subst (λ (y : Entry). Shows (entry_texts (call_text_of rs before y) (error_text_of y) (trace_line all y) (saved_text k)) out fault out') entry_is (shows before (whole ∙ ap (more before) (sym entry_is))))
        by (Twice e on) =
            let again : Entry = again_of (more before x) in
            let whole : k ≡ more (more before x) again = is ∙ on in
            let entry_is : entry ≡ again = some-same entry again (at ∙ (λ i. slice_get (whole i) (length (whole i) - 1)) ∙ last-is (more before x) again) in
            absurd (true-false (sym (ap is_again entry_is) ∙ plain))

    two-texts : is_restart x ≡ true → entry_texts [] [] (trace_line all x ++ trace_line all (again_of (more before x))) (saved_text k) ≡ texts_of rs before x
    two-texts e =
        let quiet = restart-quiet rs before x e in
        let again : Entry = again_of (more before x) in
        let line : trace_line all x ++ trace_line all again ≡ flat_map (trace_line (names (put before x))) (appended before x) =
        (λ i. trace_line all x ++ sym (append-nil (trace_line all again)) i) ∙ (λ i. flat_map (trace_line (names (is i))) (if sym e i then x ∷ again ∷ [] else x ∷ [])) in
        λ i. entry_texts (sym quiet.0 i) (sym quiet.1 i) (line i) (saved_text (is i))

    pub shown-two : (again restart : Entry) → Some again ≡ slice_get seen (length seen - 1) → is_again again ≡ true → Some restart ≡ slice_get seen (length seen - 2)
        → Shows (entry_texts [] [] (trace_line all restart ++ trace_line all again) (saved_text k)) out fault out' → Shows (texts_of rs before x) out fault out'
    shown-two again restart last opens before_it shows = by (way-of before x)
      where
        at : Some again ≡ slice_get k (length k - 1)
        at = last ∙ (λ i. slice_get (same i) (length (same i) - 1))

        by : Way before x → Shows (texts_of rs before x) out fault out'
        by (Once e on) =
            let whole : k ≡ more before x = is ∙ on in
            let again_is : again ≡ x = some-same again x (at ∙ (λ i. slice_get (whole i) (length (whole i) - 1)) ∙ last-is before x) in
            absurd (true-false (sym opens ∙ ap is_again again_is ∙ single))
        by (Twice e on) =
            let here : Entry = again_of (more before x) in
            let whole : k ≡ more (more before x) here = is ∙ on in
            let again_is : again ≡ here = some-same again here (at ∙ (λ i. slice_get (whole i) (length (whole i) - 1)) ∙ last-is (more before x) here) in
            let n : length (more (more before x) here) - 2 ≡ length before = omega (arith, length-append (more before x) (here ∷ []), length-append before (x ∷ [])) in
            let there : slice_get (more (more before x) here) (length before) ≡ Some x = (λ i. slice_get (append_assoc before (x ∷ []) (here ∷ []) i) (length before)) ∙ at-seam before (here ∷ []) x in
            let restart_is : restart ≡ x = some-same restart x (before_it ∙ (λ i. slice_get ((same ∙ whole) i) (length ((same ∙ whole) i) - 2)) ∙ (λ i. slice_get (more (more before x) here) (n i)) ∙ there) in
            subst (λ t. Shows t out fault out') (two-texts e)
            (subst (λ (y : Entry). Shows (entry_texts [] [] (trace_line all x ++ trace_line all y) (saved_text k)) out fault out') again_is
            (subst (λ (y : Entry). Shows (entry_texts [] [] (trace_line all y ++ trace_line all again) (saved_text k)) out fault out') restart_is shows))
