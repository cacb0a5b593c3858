-- The block that has a name, and a variable that is set.
use Rattle.std.proofs.Common.{◌≡◌, ◌∙◌, ap, ℕ, zero, suc, ◌+◌, ◌-◌, ◌<◌, ◌≤◌, Bool, true, false, refl, List, [], ◌∷◌, ◌++◌, length, get_or, take, drop, sym, arith}
use Rattle.std.specs.Prelude.{Option, Some, None, not, ◌&&◌, ◌||◌, is_some, option_map, option_and_then, slice_get, IfSome, if◌then◌else◌}
use Rattle.std.specs.List.{list_any}
use Rattle.std.specs.Option.{option_map_or}
use Rattle.std.proofs.lemmas.Option.{get_or_from_slice_get, slice_get-get_or}
use Rattle.ha_value.specs.declared.value.Value.{Value}
use Rattle.ha_config.specs.declared.config.Form.{Form}
use Rattle.ha_sight.specs.Sight.{Sight}
use Rattle.ha_config.specs.Words.{Text, Pairs, has_name, same}
use Rattle.ha_sight.specs.Templates.{data_of}
use Rattle.ha_sight.specs.Scripts.{Scopes, flat, add_inside, add_where_named, set_name, set_all}
use Rattle.script_step.specs.Cuts.{add_at, cut, is_own, named_block, total}
use Rattle.script_step.proofs.CutLemmas.{drop-plus}
use Rattle.script_step.proofs.EachLemmas.{drop-at}

-- ---- the innermost block that has a name

pub named-more : (name : Text) (bs : Scopes) (b : Pairs) → named_block name (bs ++ (b ∷ [])) ≡ (if has_name name b then Some (length bs) else named_block name bs)
named-more name [] b = refl
named-more name (c ∷ cs) b = by (has_name name b) refl (named-more name cs b)
  where
    by : (t : Bool) → has_name name b ≡ t → named_block name (cs ++ (b ∷ [])) ≡ (if has_name name b then Some (length cs) else named_block name cs)
        → named_block name (c ∷ (cs ++ (b ∷ []))) ≡ (if t then Some (length (c ∷ cs)) else named_block name (c ∷ cs))
    by true e h = (let z : named_block name (cs ++ (b ∷ [])) ≡ Some (length cs) = h ∙ (λ k. if e k then Some (length cs) else named_block name cs) in rw z refl)
    by false e h = (let z : named_block name (cs ++ (b ∷ [])) ≡ named_block name cs = h ∙ (λ k. if e k then Some (length cs) else named_block name cs) in rw z refl)

pub cut-next : (ns : List ℕ) (ps : Pairs) (i : ℕ) → i < length ns → cut (take (i + 1) ns) ps ≡ cut (take i ns) ps ++ (take (get_or ns i 0) (drop (total (take i ns)) ps) ∷ [])
cut-next [] ps i lt = absurd (omega (arith, lt))
cut-next (n ∷ ns) ps zero lt = refl
cut-next (n ∷ ns) ps (suc i) lt =
    let z : suc i + 1 ≡ suc (i + 1) = omega arith in
    (λ k. cut (take (z k) (n ∷ ns)) ps) ∙ ap (λ l. take n ps ∷ l) (cut-next ns (drop n ps) i (omega (arith, lt)))
    ∙ (λ k. take n ps ∷ (cut (take i ns) (drop n ps) ++ (take (get_or ns i 0) (sym (drop-plus n (total (take i ns)) ps) k) ∷ [])))

-- whether a later block has the name, by where it is
abbrev front_block : Option ℕ → Bool → Option ℕ
front_block (Some k) t = Some (suc k)
front_block None t = if t then Some 0 else None

front-is : (name : Text) (b : Pairs) (bs : Scopes) → named_block name (b ∷ bs) ≡ front_block (named_block name bs) (has_name name b)
front-is name b bs = by (named_block name bs) refl
  where
    by : (o : Option ℕ) → named_block name bs ≡ o → named_block name (b ∷ bs) ≡ front_block o (has_name name b)
    by None e = rw e refl
    by (Some k) e = rw e refl

named-within : (name : Text) (bs : Scopes) (k : ℕ) → named_block name bs ≡ Some k → k < length bs
named-within name [] k e = absurd (cc)
named-within name (b ∷ bs) k e = by (named_block name bs) (has_name name b) refl (sym (front-is name b bs) ∙ e) (named-within name bs)
  where
    by : (o : Option ℕ) (t : Bool) → named_block name bs ≡ o → front_block o t ≡ Some k → ((j : ℕ) → named_block name bs ≡ Some j → j < length bs) → k < length (b ∷ bs)
    by (Some j) t f g more = (let z : suc j ≡ k = cc in omega (arith, z, more j f))
    by None true f g more = (let z : 0 ≡ k = cc in omega (arith, z))
    by None false f g more = absurd (cc)

-- one more block of the list of pairs
pub named-next : (name : Text) (ns : List ℕ) (ps : Pairs) (i : ℕ) → i < length ns
    → named_block name (cut (take (i + 1) ns) ps) ≡ (if has_name name (take (get_or ns i 0) (drop (total (take i ns)) ps)) then Some (length (cut (take i ns) ps)) else named_block name (cut (take i ns) ps))
named-next name ns ps i lt = ap (named_block name) (cut-next ns ps i lt) ∙ named-more name (cut (take i ns) ps) (take (get_or ns i 0) (drop (total (take i ns)) ps))

pub found-under : (name : Text) (bs : Scopes) (o : Option ℕ) (n : ℕ) → o ≡ named_block name bs → length bs ≤ n → IfSome o (λ k. k < n)
found-under name bs None n e le = tt
found-under name bs (Some k) n e le = omega (arith, le, named-within name bs k (sym e))

-- one pair more is looked at
pub name-next : (name : Text) (ps : Pairs) (i to : ℕ) (p : Text × Value) → i < to → i < length ps → p ≡ get_or ps i p
    → has_name name (take (to - i) (drop i ps)) ≡ (same p.0 name || has_name name (take (to - (i + 1)) (drop (i + 1) ps)))
name-next name ps i to p lt within is =
    let z : to - i ≡ suc (to - (i + 1)) = omega (arith, lt) in
    (λ k. has_name name (take (z k) (drop-at ps i p within is k)))

pub name-at : (name : Text) (ps : Pairs) (i to : ℕ) → i < to → i < length ps
    → has_name name (take (to - i) (drop i ps)) ≡ (option_map_or (λ (p : Text × Value). same p.0 name) (slice_get ps i) false || has_name name (take (to - (i + 1)) (drop (i + 1) ps)))
name-at name ps i to lt within =
    let none : Text × Value = ([], Value.Null) in
    let p = get_or ps i none in
    let there = slice_get-get_or ps i none within in
    name-next name ps i to p lt within (sym (get_or_from_slice_get ps i p p there))
    ∙ (λ k. option_map_or (λ (q : Text × Value). same q.0 name) (sym there k) false || has_name name (take (to - (i + 1)) (drop (i + 1) ps)))

pub name-none : (name : Text) (ps : Pairs) (i to : ℕ) → to ≤ i → has_name name (take (to - i) (drop i ps)) ≡ false
name-none name ps i to le = (let z : to - i ≡ 0 = omega (arith, le) in (λ k. has_name name (take (z k) (drop i ps))))

-- ---- a variable is set

any-named : (name : Text) (bs : Scopes) → list_any (has_name name) bs ≡ is_some (named_block name bs)
any-named name [] = refl
any-named name (b ∷ bs) = ap (λ t. has_name name b || t) (any-named name bs) ∙ by (has_name name b) (named_block name bs) ∙ ap is_some (sym (front-is name b bs))
  where
    by : (t : Bool) (o : Option ℕ) → (t || is_some o) ≡ is_some (front_block o t)
    by true None = refl
    by true (Some k) = refl
    by false None = refl
    by false (Some k) = refl

abbrev set_front : Text × Value → Pairs → Scopes → Bool → Bool → Scopes → Scopes
set_front p b bs here later more = if here && not later then (b ++ (p ∷ [])) ∷ bs else if later then b ∷ more else add_inside p (b ∷ bs)

set-front : (p : Text × Value) (b : Pairs) (bs : Scopes) → add_where_named p (b ∷ bs) ≡ set_front p b bs (has_name p.0 b) (is_some (named_block p.0 bs)) (add_where_named p bs)
set-front p b bs = (λ k. set_front p b bs (has_name p.0 b) (any-named p.0 bs k) (add_where_named p bs))

pub set-found : (p : Text × Value) (bs : Scopes) (k : ℕ) → named_block p.0 bs ≡ Some k → add_where_named p bs ≡ add_at k p bs
set-found p [] k e = absurd (cc)
set-found p (b ∷ bs) k e =
    set-front p b bs ∙ by (named_block p.0 bs) (has_name p.0 b) refl (sym (front-is p.0 b bs) ∙ e) (set-found p bs)
  where
    by : (o : Option ℕ) (t : Bool) → named_block p.0 bs ≡ o → front_block o t ≡ Some k → ((j : ℕ) → named_block p.0 bs ≡ Some j → add_where_named p bs ≡ add_at j p bs)
        → set_front p b bs t (is_some o) (add_where_named p bs) ≡ add_at k p (b ∷ bs)
    by (Some j) true f g more = (let z : suc j ≡ k = cc in ap (λ l. b ∷ l) (more j f) ∙ (λ i. add_at (z i) p (b ∷ bs)))
    by (Some j) false f g more = (let z : suc j ≡ k = cc in ap (λ l. b ∷ l) (more j f) ∙ (λ i. add_at (z i) p (b ∷ bs)))
    by None true f g more = (let z : 0 ≡ k = cc in λ i. add_at (z i) p (b ∷ bs))
    by None false f g more = absurd (cc)

pub set-new : (p : Text × Value) (bs : Scopes) → named_block p.0 bs ≡ None → add_where_named p bs ≡ add_inside p bs
set-new p [] e = refl
set-new p (b ∷ bs) e = set-front p b bs ∙ by (named_block p.0 bs) (has_name p.0 b) (sym (front-is p.0 b bs) ∙ e)
  where
    by : (o : Option ℕ) (t : Bool) → front_block o t ≡ None → set_front p b bs t (is_some o) (add_where_named p bs) ≡ add_inside p (b ∷ bs)
    by (Some j) t g = absurd (cc)
    by None true g = absurd (cc)
    by None false g = refl

not-own : (p : Text × Value) (bs : Scopes) (own : Bool) → own ≡ is_own p.0 → own ≡ false → set_name p bs ≡ add_where_named p bs
not-own p bs own e h = (λ k. if (sym e ∙ h) k then add_inside p bs else add_where_named p bs)

pub set-named : (p : Text × Value) (bs : Scopes) (own : Bool) (k : ℕ) → own ≡ is_own p.0 → own ≡ false → Some k ≡ named_block p.0 bs → set_name p bs ≡ add_at k p bs
set-named p bs own k e h f = not-own p bs own e h ∙ set-found p bs k (sym f)

pub set-unnamed : (p : Text × Value) (bs : Scopes) (own : Bool) → own ≡ is_own p.0 → own ≡ false → None ≡ named_block p.0 bs → set_name p bs ≡ add_inside p bs
set-unnamed p bs own e h f = not-own p bs own e h ∙ set-new p bs (sym f)

-- ---- variables are set in order

pub set-more : (sight : Sight) (ps : List (Text × Form)) (p : Text × Form) (old new : Scopes) → option_map (λ v. set_name (p.0, v) old) (data_of sight p.1 (flat old)) ≡ Some new
    → set_all (p ∷ ps) sight old ≡ set_all ps sight new
set-more sight ps p old new h = by (data_of sight p.1 (flat old)) h
  where
    by : (o : Option Value) → option_map (λ v. set_name (p.0, v) old) o ≡ Some new → option_and_then (λ v. set_all ps sight (set_name (p.0, v) old)) o ≡ set_all ps sight new
    by None e = absurd (cc)
    by (Some v) e = (let z : set_name (p.0, v) old ≡ new = cc in ap (set_all ps sight) z)

pub set-fault : (sight : Sight) (ps : List (Text × Form)) (p : Text × Form) (old : Scopes) → data_of sight p.1 (flat old) ≡ None → set_all (p ∷ ps) sight old ≡ None
set-fault sight ps p old h = ap (option_and_then (λ v. set_all ps sight (set_name (p.0, v) old))) h
