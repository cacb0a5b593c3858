-- The entries of one worker, and the lists of a pass.
use Rattle.std.proofs.Common.{◌≡◌, ℕ, ◌≢◌, ◌+◌, ◌⊎◌, Bool, true, false, cond, List, [], ◌∷◌, ◌++◌, length, sym, refl, ap, ◌∙◌, subst, inl, inr, ⊎_elim, arith, length-append, append-nil, append_assoc, zero-add}
use Rattle.std.proofs.lemmas.List.{map-append, take-append-le}
use Rattle.std.proofs.lemmas.Bool.{ne_eqb}
use Rattle.std.proofs.lemmas.Map.Views.{exact_unsigned_eq}
use Rattle.std.proofs.Math.Seq.{take-append_seam}
use Rattle.ha_journal.specs.declared.entry.Entry.{Entry}
use Rattle.ha_journal.specs.declared.entry.Entry.TheVariants.{Boot, Line, Step, Again}
use Rattle.ha_journal.specs.Entries.{is_again}
use Rattle.bus_pass.specs.Journal.{is_of, placed}
use Rattle.bus_pass.specs.Reads.{Reads}
use Rattle.bus_pass.specs.Rule.{given, notes, bare, Stands, grown, IsPutAs, Told, AllTold, IsList, AreAsRead}
use Rattle.bus_pass.specs.declared.hand.Given.{Given}
use Rattle.bus_pass.specs.declared.hand.Stood.{Stood}

same_place : (n : ℕ) (e : Entry) (es : List Entry) → n + 1 + length es ≡ n + length (e ∷ es)
same_place n e es = omega arith

placed_case : (b : Bool) (k n : ℕ) (e : Entry) (xs ys : List Entry) → is_of k e ≡ b → placed k (n + 1) (xs ++ ys) ≡ placed k (n + 1) xs ++ placed k (n + 1 + length xs) ys
    → cond b ((n, e) ∷ placed k (n + 1) (xs ++ ys)) (placed k (n + 1) (xs ++ ys)) ≡ cond b ((n, e) ∷ placed k (n + 1) xs) (placed k (n + 1) xs) ++ placed k (n + length (e ∷ xs)) ys
placed_case true k n e xs ys is h = ap (λ (l : List (ℕ × Entry)). (n, e) ∷ l) (h ∙ ap (λ (m : ℕ). placed k (n + 1) xs ++ placed k m ys) (same_place n e xs))
placed_case false k n e xs ys is h = h ∙ ap (λ (m : ℕ). placed k (n + 1) xs ++ placed k m ys) (same_place n e xs)

pub placed-append : (k n : ℕ) (xs ys : List Entry) → placed k n (xs ++ ys) ≡ placed k n xs ++ placed k (n + length xs) ys
placed-append k n [] ys = ap (λ (m : ℕ). placed k m ys) (omega arith)
placed-append k n (e ∷ xs) ys = placed_case (is_of k e) k n e xs ys refl (placed-append k (n + 1) xs ys)

bare_case : (b : Bool) (k n : ℕ) (r : Reads) (e : Entry) (es : List Entry) → bare (notes k (n + 1) r es) ≡ placed k (n + 1) es
    → bare (cond b (given n e (r e) ∷ notes k (n + 1) r es) (notes k (n + 1) r es)) ≡ cond b ((n, e) ∷ placed k (n + 1) es) (placed k (n + 1) es)
bare_case true k n r e es h = ap (λ (l : List (ℕ × Entry)). (n, e) ∷ l) h
bare_case false k n r e es h = h

pub bare_notes : (k n : ℕ) (r : Reads) (es : List Entry) → bare (notes k n r es) ≡ placed k n es
bare_notes k n r [] = refl
bare_notes k n r (e ∷ es) = bare_case (is_of k e) k n r e es (bare_notes k (n + 1) r es)

pub bare-append : (xs ys : List Given) → bare (xs ++ ys) ≡ bare xs ++ bare ys
bare-append xs ys = map-append (λ (g : Given). (g.place, g.entry)) xs ys

-- lists of a pass
pub stands_left : (xs ys : List Stood) (k : ℕ) (l : List Given) → Stands xs k l → Stands (xs ++ ys) k l
stands_left [] ys k l h = absurd h
stands_left (x ∷ xs) ys k l h = ⊎_elim (λ a. inl a) (λ b. inr (stands_left xs ys k l b)) h

pub stands_right : (xs ys : List Stood) (k : ℕ) (l : List Given) → Stands ys k l → Stands (xs ++ ys) k l
stands_right [] ys k l h = h
stands_right (x ∷ xs) ys k l h = inr (stands_right xs ys k l h)

pub stands_either : (xs ys : List Stood) (k : ℕ) (l : List Given) → Stands (xs ++ ys) k l → Stands xs k l ⊎ Stands ys k l
stands_either [] ys k l h = inr h
stands_either (x ∷ xs) ys k l h = ⊎_elim (λ a. inl (inl a)) (λ b. ⊎_elim (λ c. inl (inr c)) (λ d. inr d) (stands_either xs ys k l b)) h

pub stands_grown : (n : ℕ) (r : Reads) (more : List Entry) (ss : List Stood) (k : ℕ) (l : List Given) → Stands (grown n r more ss) k l → (l0 : List Given) × Stands ss k l0 × (l ≡ l0 ++ notes k n r more)
stands_grown n r more [] k l h = absurd h
stands_grown n r more (s ∷ ss) k l h = ⊎_elim (λ a. (s.given, inl (a.0, refl), sym a.1 ∙ ap (λ (w : ℕ). s.given ++ notes w n r more) a.0)) (λ b. let t = stands_grown n r more ss k l b in (t.0, inr t.1, t.2)) h

pub grown_stands : (n : ℕ) (r : Reads) (more : List Entry) (ss : List Stood) (k : ℕ) (l : List Given) → Stands ss k l → Stands (grown n r more ss) k (l ++ notes k n r more)
grown_stands n r more [] k l h = absurd h
grown_stands n r more (s ∷ ss) k l h = ⊎_elim (λ a. inl (a.0, ap (λ (w : ℕ). s.given ++ notes w n r more) a.0 ∙ ap (λ (g : List Given). g ++ notes k n r more) a.1)) (λ b. inr (grown_stands n r more ss k l b)) h

-- what was told of a journal stays so where it grows
pub told_longer : (j more : List Entry) (g : Given) → Told j g → Told (j ++ more) g
told_longer j more g t = record {
  within = omega (arith, t.within, length-append j more);
  line = subst (λ (p : List Entry). IsPutAs p g.entry g.read) (sym (take-append-le g.place j more (omega (arith, t.within)))) t.line;
}

pub all_longer : (j more : List Entry) (l : List Given) → AllTold j l → AllTold (j ++ more) l
all_longer j more [] t = tt
all_longer j more (g ∷ gs) t = (told_longer j more g t.0, all_longer j more gs t.1)

pub all_append : (j : List Entry) (xs ys : List Given) → AllTold j xs → AllTold j ys → AllTold j (xs ++ ys)
all_append j [] ys a b = b
all_append j (x ∷ xs) ys a b = (a.0, all_append j xs ys a.1 b)

pub placed_more : (j more : List Entry) (k : ℕ) → placed k 0 (j ++ more) ≡ placed k 0 j ++ placed k (length j) more
placed_more j more k = placed-append k 0 j more ∙ ap (λ (m : ℕ). placed k 0 j ++ placed k m more) (zero-add (length j))

-- the list of a worker who had none of what was added
pub kept_list : (j more : List Entry) (k : ℕ) (l : List Given) → placed k (length j) more ≡ [] → IsList j k l → IsList (j ++ more) k l
kept_list j more k l none h = record {
  entries = h.entries ∙ sym (append-nil (placed k 0 j)) ∙ ap (λ (t : List (ℕ × Entry)). placed k 0 j ++ t) (sym none) ∙ sym (placed_more j more k);
  told = all_longer j more l h.told;
}

-- the list of a worker, with what was added
pub grown_list : (j more : List Entry) (k : ℕ) (r : Reads) (l : List Given) → AllTold (j ++ more) (notes k (length j) r more) → IsList j k l → IsList (j ++ more) k (l ++ notes k (length j) r more)
grown_list j more k r l fair h = record {
  entries = bare-append l (notes k (length j) r more) ∙ ap (λ (t : List (ℕ × Entry)). t ++ bare (notes k (length j) r more)) h.entries ∙ ap (λ (t : List (ℕ × Entry)). placed k 0 j ++ t) (bare_notes k (length j) r more) ∙ sym (placed_more j more k);
  told = all_append (j ++ more) l (notes k (length j) r more) (all_longer j more l h.told) fair;
}

-- where a worker has no entry, nothing was told of it
none_case : (b : Bool) (j : List Entry) (k n : ℕ) (r : Reads) (e : Entry) (es : List Entry) → (placed k (n + 1) es ≡ [] → AllTold j (notes k (n + 1) r es))
    → cond b ((n, e) ∷ placed k (n + 1) es) (placed k (n + 1) es) ≡ [] → AllTold j (cond b (given n e (r e) ∷ notes k (n + 1) r es) (notes k (n + 1) r es))
none_case true j k n r e es h none = absurd (cc)
none_case false j k n r e es h none = h none

pub none_told : (j es : List Entry) (k n : ℕ) (r : Reads) → placed k n es ≡ [] → AllTold j (notes k n r es)
none_told j [] k n r none = tt
none_told j (e ∷ es) k n r none = none_case (is_of k e) j k n r e es (none_told j es k (n + 1) r) none

-- ---- entries that one worker put

is_one : (k w : ℕ) (e : Entry) → (is_again e ≡ false → is_of w e ≡ true) → k ≢ w → is_of k e ≡ false
is_one k w (Boot text config stored start zone carry) is n = refl
is_one k w (Again number start stored carry) is n = refl
is_one k w (Line source number cmd) is n = ne_eqb source k (λ e. n (sym e ∙ exact_unsigned_eq source w (is refl)))
is_one k w (Step worker serial branch item) is n = ne_eqb worker k (λ e. n (sym e ∙ exact_unsigned_eq worker w (is refl)))

-- another worker has none of them
pub no_more : (k w n : ℕ) (r : Reads) (old es : List Entry) → AreAsRead w r old es → k ≢ w → placed k n es ≡ []
no_more k w n r old [] h apart = refl
no_more k w n r old (e ∷ es) h apart =
    ap (λ (b : Bool). cond b ((n, e) ∷ placed k (n + 1) es) (placed k (n + 1) es)) (is_one k w e h.0 apart) ∙ no_more k w (n + 1) r (old ++ e ∷ []) es h.2 apart

told_case : (b : Bool) (k : ℕ) (r : Reads) (old : List Entry) (e : Entry) (es : List Entry) → IsPutAs old e (r e) → AllTold (old ++ e ∷ es) (notes k (length old + 1) r es)
    → AllTold (old ++ e ∷ es) (cond b (given (length old) e (r e) ∷ notes k (length old + 1) r es) (notes k (length old + 1) r es))
told_case true k r old e es fair rest = (
  record {
    within = omega (arith, length-append old (e ∷ es));
    line = subst (λ (p : List Entry). IsPutAs p e (r e)) (sym (take-append_seam old (e ∷ es))) fair;
  },
  rest,
)
told_case false k r old e es fair rest = rest

-- what was read for them is told of each
pub read_told : (k w : ℕ) (r : Reads) (old es : List Entry) → AreAsRead w r old es → AllTold (old ++ es) (notes k (length old) r es)
read_told k w r old [] h = tt
read_told k w r old (e ∷ es) h =
    let rest : AllTold ((old ++ e ∷ []) ++ es) (notes k (length (old ++ e ∷ [])) r es) = read_told k w r (old ++ e ∷ []) es h.2 in
    let there : AllTold (old ++ e ∷ es) (notes k (length (old ++ e ∷ [])) r es) = subst (λ (j : List Entry). AllTold j (notes k (length (old ++ e ∷ [])) r es)) (append_assoc old (e ∷ []) es) rest in
    told_case (is_of k e) k r old e es h.1 (subst (λ (n : ℕ). AllTold (old ++ e ∷ es) (notes k n r es)) (length-append old (e ∷ [])) there)
