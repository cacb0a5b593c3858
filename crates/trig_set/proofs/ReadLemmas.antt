-- What the templates of triggers read, as a list has it.
use Rattle.std.proofs.lemmas.List.{take_all, take_more}
use Rattle.std.proofs.Common.{◌≡◌, ◌∙◌, ℕ, zero, suc, ◌+◌, ◌<◌, ◌≤◌, List, [], ◌∷◌, ◌++◌, get_or, take, length, map, Bool, true, false, ap, subst, sym, refl}
use Rattle.std.specs.Prelude.{Option, Some, None, MatchOption, option_and_then, slice_get, ◌||◌}
use Rattle.std.specs.List.{list_any}
use Rattle.ha_value.specs.declared.value.EntityId.{EntityId}
use Rattle.ha_config.specs.declared.config.Trigger.{Trigger}
use Rattle.ha_config.specs.declared.config.TriggerRule.{TriggerRule}
use Rattle.ha_sight.specs.Rules.{is_template}
use Rattle.event_bus.specs.Subjects.{Subject, by_read, read_of}
use Rattle.trig_set.specs.Known.{heeds}
use Rattle.trig_set.specs.Reads.{AreRead, read_at}
use Rattle.trig_set.proofs.SpotLemmas.{get-at}

map-append : {X Y : Type 0} (f : X → Y) (xs ys : List X) → map f (xs ++ ys) ≡ map f xs ++ map f ys
map-append f [] ys = refl
map-append f (x ∷ xs) ys = (λ i. f x ∷ map-append f xs ys i)

-- LAW: the list has what the template at a place reads
pub read-there : (triggers : List Trigger) (reads : List (Option (List EntityId))) (n : ℕ) (d : Trigger) → AreRead triggers reads → n < length triggers → read_at reads n ≡ read_of ((get_or triggers n d).rule)
read-there triggers reads n d are lt = subst (λ o. MatchOption o (Unit {0}) (λ t. read_at reads n ≡ read_of t.rule)) (get-at triggers n d lt) (are n)

mapped-read : (triggers : List Trigger) → AreRead triggers (map (λ t. read_of t.rule) triggers)
mapped-read [] n = tt
mapped-read (t ∷ ts) zero = refl
mapped-read (t ∷ ts) (suc n) = mapped-read ts n

-- LAW: a list of what each template reads has it
pub are-read : (triggers : List Trigger) (reads : List (Option (List EntityId))) → reads ≡ map (λ t. read_of t.rule) triggers → AreRead triggers reads
are-read triggers reads is = subst (AreRead triggers) (sym is) (mapped-read triggers)

plain-read : (rule : TriggerRule) → is_template rule ≡ false → None ≡ read_of rule
plain-read (TriggerRule.State entities attribute from to) h = refl
plain-read (TriggerRule.Numeric entities attribute above below) h = refl
plain-read (TriggerRule.Event kinds pairs) h = refl
plain-read (TriggerRule.Time seconds) h = refl
plain-read (TriggerRule.Pattern hours minutes seconds) h = refl
plain-read (TriggerRule.Template t) h = absurd (let bad : ◌≡◌ {A = Bool} true false = h in cc)
plain-read TriggerRule.Start h = refl

or-first : (a b : Bool) → (a || b) ≡ false → a ≡ false
or-first true b h = h
or-first false b h = refl

or-rest : (a b : Bool) → (a || b) ≡ false → b ≡ false
or-rest true b h = absurd (let bad : ◌≡◌ {A = Bool} true false = h in cc)
or-rest false b h = h

-- LAW: nothing has to be kept where no trigger has a template
pub none-read : (triggers : List Trigger) → list_any (λ t. is_template t.rule) triggers ≡ false → AreRead triggers []
none-read [] h n = tt
none-read (t ∷ ts) h zero = plain-read t.rule (or-first (is_template t.rule) (list_any (λ t. is_template t.rule) ts) h)
none-read (t ∷ ts) h (suc n) = none-read ts (or-rest (is_template t.rule) (list_any (λ t. is_template t.rule) ts) h) n

-- LAW: with one more
pub read-more : (triggers : List Trigger) (n : ℕ) (d : Trigger) (reads : List (Option (List EntityId))) (read : Option (List EntityId)) → n < length triggers
    → reads ≡ map (λ t. read_of t.rule) (take n triggers) → read ≡ read_of ((get_or triggers n d).rule) → reads ++ (read ∷ []) ≡ map (λ t. read_of t.rule) (take (n + 1) triggers)
read-more triggers n d reads read lt is e =
    (λ i. is i ++ (e i ∷ [])) ∙ sym (map-append (λ t. read_of t.rule) (take n triggers) (get_or triggers n d ∷ [])) ∙ ap (map (λ t. read_of t.rule)) (sym (take_more triggers n d lt))

-- LAW: until all are there
pub read-all : (triggers : List Trigger) (n : ℕ) → length triggers ≤ n → map (λ t. read_of t.rule) (take n triggers) ≡ map (λ t. read_of t.rule) triggers
read-all triggers n le = ap (map (λ t. read_of t.rule)) (take_all n triggers le)

-- LAW: an item of the list is what it has at a place
pub read-got : (reads : List (Option (List EntityId))) (n : ℕ) (read : Option (List EntityId)) → Some read ≡ slice_get reads n → read ≡ read_at reads n
read-got reads n read is = ap (option_and_then (λ (r : Option (List EntityId)). r)) is

-- LAW: and nothing is behind its end
pub read-none : (reads : List (Option (List EntityId))) (n : ℕ) → None ≡ slice_get reads n → None ≡ read_at reads n
read-none reads n is = ap (option_and_then (λ (r : Option (List EntityId)). r)) is

-- LAW: a template is concerned by what it reads
pub heeds-read : (rule : TriggerRule) (read : Option (List EntityId)) → is_template rule ≡ true → read ≡ read_of rule → (s : Subject) → by_read read s ≡ heeds rule s
heeds-read (TriggerRule.State entities attribute from to) read h is s = absurd (let bad : ◌≡◌ {A = Bool} false true = h in cc)
heeds-read (TriggerRule.Numeric entities attribute above below) read h is s = absurd (let bad : ◌≡◌ {A = Bool} false true = h in cc)
heeds-read (TriggerRule.Event kinds pairs) read h is s = absurd (let bad : ◌≡◌ {A = Bool} false true = h in cc)
heeds-read (TriggerRule.Time seconds) read h is s = absurd (let bad : ◌≡◌ {A = Bool} false true = h in cc)
heeds-read (TriggerRule.Pattern hours minutes seconds) read h is s = absurd (let bad : ◌≡◌ {A = Bool} false true = h in cc)
heeds-read (TriggerRule.Template t) read h is s = ap (λ r. by_read r s) is
heeds-read TriggerRule.Start read h is s = absurd (let bad : ◌≡◌ {A = Bool} false true = h in cc)
