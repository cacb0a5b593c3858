-- Automations found by their names and by their numbers.
use Rattle.std.proofs.Common.{◌≡◌, ◌∙◌, refl, sym, ℕ, zero, suc, ◌+◌, ◌<◌, ◌≤◌, Bool, true, false, List, [], ◌∷◌, length, map, drop, get_or, arith}
use Rattle.std.specs.Prelude.{not, Option, Some, None, find, nat_eq, option_map, slice_index_or, zip, codes, if◌then◌else◌}
use Rattle.std.specs.List.{list_any}
use Rattle.std.proofs.lemmas.List.{drop_all}
use Rattle.std.proofs.lemmas.Bool.{and_parts, or_parts}
use Rattle.ha_value.specs.declared.value.EntityId.{EntityId}
use Rattle.ha_config.specs.declared.config.Automation.{Automation}
use Rattle.ha_config.specs.Words.{Text, same}
use Rattle.ha_config.specs.ValueFacts.{all_distinct}
use Rattle.ha_config.specs.Names.{named_among}
use Rattle.ha_config.proofs.EqualLemmas.{same-refl}
use Rattle.ha_sight.specs.Calls.{automation_at}
use Rattle.ha_sight.specs.Sight.{Automations, switch_at}
use Rattle.state_table.specs.declared.table.StateTable.{StateTable}
use Rattle.cond_eval.specs.Seen.{is_shown_on, shown_of}

abbrev pub Rules : Type 0
Rules = List (ℕ × Automation)

abbrev pub names_in : Rules → List Text
names_in ps = map {A = ℕ × Automation} {B = Text} (λ p. p.1.name) ps

-- ---- where the names differ

-- the fact holds of each with its number
abbrev pub EachIn : (ℕ → Automation → Type 0) → Rules → Type 0
EachIn P [] = Unit {0}
EachIn P (p ∷ ps) = P p.0 p.1 × EachIn P ps

pub each-weaker : (P Q : ℕ → Automation → Type 0) → ((n : ℕ) (x : Automation) → P n x → Q n x) → (ps : Rules) → EachIn P ps → EachIn Q ps
each-weaker P Q f [] h = tt
each-weaker P Q f (p ∷ ps) h = (f p.0 p.1 h.0, each-weaker P Q f ps h.1)

named-first : (p : ℕ × Automation) (ps : Rules) (name : Text) → named_among (p ∷ ps) name ≡ (if same p.1.name name then Some p.0 else named_among ps name)
named-first p ps name = by (same p.1.name name)
  where
    by : (b : Bool) → option_map (λ (q : ℕ × Automation). q.0) (if b then Some p else find (λ (q : ℕ × Automation). same q.1.name name) ps) ≡ (if b then Some p.0 else named_among ps name)
    by true = refl
    by false = refl

-- those behind one of another name are found where they were
passed : (p : ℕ × Automation) (whole ps : Rules) → list_any (same p.1.name) (names_in ps) ≡ false
    → EachIn (λ k y. named_among whole y.name ≡ Some k) ps → EachIn (λ k y. named_among (p ∷ whole) y.name ≡ Some k) ps
passed p whole [] none h = tt
passed p whole (q ∷ qs) none h =
    let parts = or_parts (same p.1.name q.1.name) (list_any (same p.1.name) (names_in qs)) none in
    (named-first p whole q.1.name ∙ (λ i. if parts.0 i then Some p.0 else named_among whole q.1.name) ∙ h.0, passed p whole qs parts.1 h.1)

not-true : (b : Bool) → not b ≡ true → b ≡ false
not-true true h = absurd (cc)
not-true false h = refl

-- LAW: then each is found under its own name
pub each-named : (ps : Rules) → all_distinct (names_in ps) ≡ true → EachIn (λ k y. named_among ps y.name ≡ Some k) ps
each-named [] d = tt
each-named (p ∷ ps) d =
    let parts = and_parts (not (list_any (same p.1.name) (names_in ps))) (all_distinct (names_in ps)) d in (
      named-first p ps p.1.name ∙ (λ i. if same-refl p.1.name i then Some p.0 else named_among ps p.1.name),
      passed p ps ps (not-true (list_any (same p.1.name) (names_in ps)) parts.0) (each-named ps parts.1),
    )

-- names with switches, by the names and by the numbers
pub each-switch : (shown : Text → Bool) (on : ℕ → Bool) (ps : Rules) → EachIn (λ k y. shown y.name ≡ on k) ps
    → map {A = ℕ × Automation} {B = ℕ × Text × Bool} (λ p. (p.0, p.1.name, shown p.1.name)) ps ≡ map {A = ℕ × Automation} {B = ℕ × Text × Bool} (λ p. (p.0, p.1.name, on p.0)) ps
each-switch shown on [] h = refl
each-switch shown on (p ∷ ps) h = λ i. (p.0, p.1.name, h.0 i) ∷ each-switch shown on ps h.1 i

-- ---- what is found among those that are shown

found-at : (t : StateTable) (ps : Rules) (name : Text) → option_map (λ (p : ℕ × Text × Bool). p.0) (find (λ (p : ℕ × Text × Bool). same p.1 name) (shown_of t ps)) ≡ named_among ps name
found-at t [] name = refl
found-at t (p ∷ ps) name = by (same p.1.name name) (found-at t ps name)
  where
    by : (b : Bool) → option_map (λ (p : ℕ × Text × Bool). p.0) (find (λ (p : ℕ × Text × Bool). same p.1 name) (shown_of t ps)) ≡ named_among ps name
        → option_map (λ (p : ℕ × Text × Bool). p.0) (if b then Some (p.0, p.1.name, is_shown_on t p.1.name) else find (λ (p : ℕ × Text × Bool). same p.1 name) (shown_of t ps))
        ≡ option_map (λ (q : ℕ × Automation). q.0) (if b then Some p else find (λ (q : ℕ × Automation). same q.1.name name) ps)
    by true h = refl
    by false h = h

-- an automation's id, whose domain was compared
module _ (t : StateTable) (ps : Rules) (e : EntityId) (domain : Text) (h : domain ≡ e.domain) where
  by_domain : (b : Bool) → b ≡ same domain (codes "automation") → (if b then named_among ps e.object else None) ≡ automation_at (shown_of t ps) e
  by_domain b is =
      (λ i. if (is ∙ (λ k. same (h k) (codes "automation"))) i then named_among ps e.object else None)
      ∙ (λ i. if same e.domain (codes "automation") then sym (found-at t ps e.object) i else None)

  pub is-there : true ≡ same domain (codes "automation") → named_among ps e.object ≡ automation_at (shown_of t ps) e
  is-there is = by_domain true is

  pub not-there : false ≡ same domain (codes "automation") → None ≡ automation_at (shown_of t ps) e
  not-there is = by_domain false is

-- ---- one place further

named-next : (ns : List ℕ) (us : List Automation) (i : ℕ) (x : Automation) (name : Text) → i < length us → length us ≤ length ns → x ≡ get_or us i x → same x.name name ≡ false
    → named_among (zip (drop i ns) (drop i us)) name ≡ named_among (zip (drop (suc i) ns) (drop (suc i) us)) name
named-next ns [] i x name lt len is e = absurd (omega (arith, lt))
named-next [] (u ∷ us) i x name lt len is e = absurd (omega (arith, len))
named-next (n ∷ ns) (u ∷ us) zero x name lt len is e =
    named-first (n, u) (zip ns us) name ∙ (λ i. if ((λ k. same (sym is k).name name) ∙ e) i then Some n else named_among (zip ns us) name)
named-next (n ∷ ns) (u ∷ us) (suc i) x name lt len is e = named-next ns us i x name (omega (arith, lt)) (omega (arith, len)) is e

-- an automation that is not at this place is behind it
pub named-on : (ns : List ℕ) (us : List Automation) (i : ℕ) (x : Automation) (name : Text) → i < length us → length us ≤ length ns → x ≡ get_or us i x → same x.name name ≡ false
    → named_among (zip (drop i ns) (drop i us)) name ≡ named_among (zip (drop (i + 1) ns) (drop (i + 1) us)) name
named-on ns us i x name lt len is e = named-next ns us i x name lt len is e ∙ (let up : suc i ≡ i + 1 = omega arith in λ k. named_among (zip (drop (up k) ns) (drop (up k) us)) name)

-- behind the last there is none
pub none-named : (ns : List ℕ) (us : List Automation) (i : ℕ) (name : Text) → length us ≤ i → None ≡ named_among (zip (drop i ns) (drop i us)) name
none-named ns us i name le = sym ((λ k. named_among (zip (drop i ns) (drop_all i us le k)) name) ∙ none (drop i ns))
  where
    none : (ms : List ℕ) → named_among (zip ms []) name ≡ None
    none [] = refl
    none (m ∷ ms) = refl

pub none-shown : (t : StateTable) (ns : List ℕ) (us : List Automation) (i a : ℕ) → length us ≤ i → None ≡ switch_at (shown_of t (zip (drop i ns) (drop i us))) a
none-shown t ns us i a le = sym ((λ k. switch_at (shown_of t (zip (drop i ns) (drop_all i us le k))) a) ∙ none (drop i ns))
  where
    none : (ms : List ℕ) → switch_at (shown_of t (zip ms [])) a ≡ None
    none [] = refl
    none (m ∷ ms) = refl

switch-next : (t : StateTable) (ns : List ℕ) (us : List Automation) (i d a : ℕ) → i < length us → length us ≤ length ns → nat_eq (slice_index_or ns i d) a ≡ false
    → switch_at (shown_of t (zip (drop i ns) (drop i us))) a ≡ switch_at (shown_of t (zip (drop (suc i) ns) (drop (suc i) us))) a
switch-next t ns [] i d a lt len e = absurd (omega (arith, lt))
switch-next t [] (u ∷ us) i d a lt len e = absurd (omega (arith, len))
switch-next t (m ∷ ns) (u ∷ us) zero d a lt len e =
    (λ i. option_map {T = ℕ × Text × Bool} (λ p. p.2) (if e i then Some (m, u.name, is_shown_on t u.name) else find (λ p. nat_eq p.0 a) (shown_of t (zip ns us))))
switch-next t (m ∷ ns) (u ∷ us) (suc i) d a lt len e = switch-next t ns us i d a (omega (arith, lt)) (omega (arith, len)) e

pub switch-on : (t : StateTable) (ns : List ℕ) (us : List Automation) (i d a : ℕ) → i < length us → length us ≤ length ns → nat_eq (slice_index_or ns i d) a ≡ false
    → switch_at (shown_of t (zip (drop i ns) (drop i us))) a ≡ switch_at (shown_of t (zip (drop (i + 1) ns) (drop (i + 1) us))) a
switch-on t ns us i d a lt len e =
    switch-next t ns us i d a lt len e ∙ (let up : suc i ≡ i + 1 = omega arith in λ k. switch_at (shown_of t (zip (drop (up k) ns) (drop (up k) us))) a)
