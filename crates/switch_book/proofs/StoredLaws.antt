-- Pairs in the order of their names: switches are the same for each name, and the names are in order.
use Rattle.std.proofs.Common.{◌≡◌, Bool, true, false, ◌&&◌, ◌||◌, List, [], ◌∷◌, refl, sym, ap, ap₂, ◌∙◌, Option, true≢false, Ordering, Less, Equal, Greater}
use Rattle.std.specs.Prelude.{Some, if◌then◌else◌}
use Rattle.std.specs.List.{list_any}
use Rattle.std.specs.Ordering.{nat_cmp, is_lt, is_eq, ordering_reverse}
use Rattle.std.specs.Cmp.Lexicographic.{slice_cmp}
use Rattle.std.proofs.lemmas.Cmp.{nat_list_cmp_total}
use Rattle.std.proofs.lemmas.Map.Text.{is_eq-slice_cmp}
use Rattle.std.proofs.lemmas.Slice.Eq.{bytes_eq-Decides}
use Rattle.ha_config.specs.Words.{Text, same, comes_before}
use Rattle.ha_config.specs.ValueFacts.{all_distinct, keys_of}
use Rattle.ha_config.specs.Names.{stored_switch}
use Rattle.ha_config.specs.StoreText.{in_name_order, placed_by_name}
use Rattle.ha_config.specs.Sound.{are_in_name_order}
use Rattle.store_text.specs.Store.{Switches}
use Rattle.store_text.proofs.FlagLemmas.{is_lt-comes_before}
use Rattle.store_text.proofs.OrderLemmas.{any-in_name_order, distinct-parts}

-- ---- found by name

placed-found : (name : Text) (p : Text × Bool) (ps : Switches) → list_any (same p.0) (keys_of ps) ≡ false → stored_switch name (placed_by_name p ps) ≡ (if same p.0 name then Some p.1 else stored_switch name ps)
placed-found name p [] h = refl
placed-found name p (q ∷ qs) h = by (comes_before p.0 q.0) (same p.0 q.0) refl h (placed-found name p qs)
  where
    clash : (a b : Bool) → same p.0 name ≡ a → same q.0 name ≡ b → same p.0 q.0 ≡ false → (o : Option Bool)
        → (if b then Some q.1 else (if a then Some p.1 else o)) ≡ (if a then Some p.1 else (if b then Some q.1 else o))
    clash true true e f apart o = absurd (true≢false (sym ((bytes_eq-Decides p.0 q.0).1 ((bytes_eq-Decides p.0 name).0 e ∙ sym ((bytes_eq-Decides q.0 name).0 f))) ∙ apart))
    clash true false e f apart o = refl
    clash false b e f apart o = refl

    by : (b c : Bool) → same p.0 q.0 ≡ c → (c || list_any (same p.0) (keys_of qs)) ≡ false
        → (list_any (same p.0) (keys_of qs) ≡ false → stored_switch name (placed_by_name p qs) ≡ (if same p.0 name then Some p.1 else stored_switch name qs))
        → stored_switch name (if b then p ∷ q ∷ qs else q ∷ placed_by_name p qs) ≡ (if same p.0 name then Some p.1 else (if same q.0 name then Some q.1 else stored_switch name qs))
    by b true e h later = absurd (true≢false h)
    by true false e h later = refl
    by false false e h later = ap (λ o. if same q.0 name then Some q.1 else o) (later h) ∙ clash (same p.0 name) (same q.0 name) refl refl e (stored_switch name qs)

-- LAW: each name has the switch that it had
pub found-in_name_order : (name : Text) (s : Switches) → all_distinct (keys_of s) ≡ true → stored_switch name (in_name_order s) ≡ stored_switch name s
found-in_name_order name [] h = refl
found-in_name_order name (p ∷ ps) h =
    let parts = distinct-parts p ps h in
    placed-found name p (in_name_order ps) (any-in_name_order (same p.0) ps ∙ parts.0) ∙ ap (λ o. if same p.0 name then Some p.1 else o) (found-in_name_order name ps parts.1)

-- ---- in order

before-or-behind : (s t : Text) → same s t ≡ false → comes_before s t ≡ false → comes_before t s ≡ true
before-or-behind s t apart h = by (slice_cmp nat_cmp s t) refl
  where
    by : (o : Ordering) → slice_cmp nat_cmp s t ≡ o → comes_before t s ≡ true
    by Less e = absurd (true≢false (sym (ap is_lt e) ∙ is_lt-comes_before s t _ refl ∙ h))
    by Equal e = absurd (true≢false (sym (ap is_eq e) ∙ is_eq-slice_cmp s t ∙ apart))
    by Greater e = sym (is_lt-comes_before t s _ refl) ∙ ap is_lt (nat_list_cmp_total.antisymm t s ∙ ap ordering_reverse e)

both : (a b : Bool) → (a && b) ≡ true → (a ≡ true) × (b ≡ true)
both true b h = (refl, h)
both false b h = absurd (true≢false (sym h))

either : (a b : Bool) → (a || b) ≡ false → (a ≡ false) × (b ≡ false)
either true b h = absurd (true≢false h)
either false b h = (refl, h)

-- before q stands what follows it, and what is placed there
placed-behind : {X : Type 0} (q p : Text × X) (qs : List (Text × X)) → comes_before q.0 p.0 ≡ true → are_in_name_order (q ∷ qs) ≡ true → are_in_name_order (placed_by_name p qs) ≡ true → are_in_name_order (q ∷ placed_by_name p qs) ≡ true
placed-behind q p [] h o later = ap (λ b. b && true) h
placed-behind q p (r ∷ rs) h o later = by (comes_before p.0 r.0) later
  where
    by : (b : Bool) → are_in_name_order (if b then p ∷ r ∷ rs else r ∷ placed_by_name p rs) ≡ true → are_in_name_order (q ∷ (if b then p ∷ r ∷ rs else r ∷ placed_by_name p rs)) ≡ true
    by true later = ap₂ ◌&&◌ h later
    by false later = ap₂ ◌&&◌ (both (comes_before q.0 r.0) (are_in_name_order (r ∷ rs)) o).0 later

rest-ordered : {X : Type 0} (q : Text × X) (qs : List (Text × X)) → are_in_name_order (q ∷ qs) ≡ true → are_in_name_order qs ≡ true
rest-ordered q [] o = refl
rest-ordered q (r ∷ rs) o = (both (comes_before q.0 r.0) (are_in_name_order (r ∷ rs)) o).1

placed-ordered : {X : Type 0} (p : Text × X) (ps : List (Text × X)) → list_any (same p.0) (keys_of ps) ≡ false → are_in_name_order ps ≡ true → are_in_name_order (placed_by_name p ps) ≡ true
placed-ordered p [] h o = refl
placed-ordered p (q ∷ qs) h o =
    let apart = either (same p.0 q.0) (list_any (same p.0) (keys_of qs)) h in
    by (comes_before p.0 q.0) refl apart.0 (placed-ordered p qs apart.1 (rest-ordered q qs o))
  where
    by : (b : Bool) → comes_before p.0 q.0 ≡ b → same p.0 q.0 ≡ false → are_in_name_order (placed_by_name p qs) ≡ true → are_in_name_order (if b then p ∷ q ∷ qs else q ∷ placed_by_name p qs) ≡ true
    by true e apart later = ap₂ ◌&&◌ e o
    by false e apart later = placed-behind q p qs (before-or-behind p.0 q.0 apart e) o later

-- LAW: the names are in order
pub ordered-in_name_order : {X : Type 0} (s : List (Text × X)) → all_distinct (keys_of s) ≡ true → are_in_name_order (in_name_order s) ≡ true
ordered-in_name_order [] h = refl
ordered-in_name_order (p ∷ ps) h =
    let parts = distinct-parts p ps h in
    placed-ordered p (in_name_order ps) (any-in_name_order (same p.0) ps ∙ parts.0) (ordered-in_name_order ps parts.1)
