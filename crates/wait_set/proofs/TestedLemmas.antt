-- Which waits are tested, and why the others are spared.
use Rattle.std.proofs.Common.{◌≡◌, ◌∙◌, ℕ, ◌+◌, ◌<◌, List, length, get_or, All, Bool, true, false, refl, sym, ap, arith, inl, inr, rules}
use Rattle.std.specs.Prelude.{Some, None, is_none, is_some, nat_eq, option_map, ◌&&◌, ◌||◌}
use Rattle.std.specs.List.{list_any}
use Rattle.std.proofs.lemmas.Bool.{cases_lt, eqb-true}
use Rattle.ha_value.specs.declared.value.EntityId.{EntityId}
use Rattle.ha_config.specs.declared.template.Template.{Template}
use Rattle.ha_config.specs.Words.{same_entity}
use Rattle.ha_config.proofs.EqualLemmas.{entity-sound}
use Rattle.event_bus.specs.Subjects.{Subject}
use Rattle.tpl_reads.specs.Reads.{Written, entities_read}
use Rattle.wait_set.specs.declared.asked.Asked.{Asked}
use Rattle.wait_set.specs.Readers.{Reads, hears, read_by}
use Rattle.wait_set.specs.Tested.{IsSpared}
use Rattle.wait_set.specs.Timers.{IsListed}

equal-self : (n : ℕ) → nat_eq n n ≡ true
equal-self n = search rules

-- LEMMA: what holds of each holds of none
pub none-there : (P : Asked → Type 0) (asks : List Asked) → nat_eq (length asks) 0 ≡ true → All P asks
none-there P asks none n d lt = absurd (let empty : length asks ≡ 0 = eqb-true (length asks) 0 none in omega (arith, lt, empty))

-- LEMMA: a wait that is not put in stands before the place from which they are
pub before-put : (asks : List Asked) (at o n place : ℕ) (d : Asked) → o ≡ (get_or asks at d).owner → n < at + 1 → (n < at → n < place) → nat_eq o (get_or asks n d).owner ≡ false → n < place
before-put asks at o n place d own under low apart = elim (cases_lt n at) [
  | inl before ↦ low before
  | inr behind ↦
      (let same : at ≡ n = omega (arith, under, behind) in
      let is : o ≡ (get_or asks n d).owner = own ∙ (λ i. (get_or asks (same i) d).owner) in
      absurd (let bad : ◌≡◌ {A = Bool} true false = sym (equal-self (get_or asks n d).owner) ∙ (λ i. nat_eq (sym is i) (get_or asks n d).owner) ∙ apart in cc))
]

-- ---- one that is not tested

-- what is kept of one that asks a template
kept-read : (reads : Reads) (a : Asked) (t : Template) → IsListed reads a → a.end ≡ None → a.ask.test ≡ Some t → read_by a.owner reads ≡ Some (entities_read t)
kept-read reads a t listed none test = listed ((λ i. is_none (none i) && is_some (test i))) ∙ ap (option_map {T = Template} {U = Written} entities_read) test

known : (w : Written) → hears Subject.Entries (Some w) ≡ false → (es : List EntityId) × (w ≡ Some es)
known None h = absurd (let bad : ◌≡◌ {A = Bool} true false = h in cc)
known (Some es) h = (es, refl)

-- LEMMA: where nothing changes, one whose template's entities are known is spared
pub spared-first : (reads : Reads) (a : Asked) (t : Template) (from : ℕ) → IsListed reads a → a.end ≡ None → a.ask.test ≡ Some t → a.owner < from → hears Subject.Entries (read_by a.owner reads) ≡ false
    → IsSpared from (λ e. false) a t
spared-first reads a t from listed none test before unheard =
    (let es = known (entities_read t) (ap (hears Subject.Entries) (sym (kept-read reads a t listed none test)) ∙ unheard) in
    record { before = before; read = es.0; read_is = es.1; same = λ e there. refl })

-- LEMMA: where one entity more changes, one whose template does not read it
pub spared-more : (reads : Reads) (a : Asked) (t : Template) (from : ℕ) (changes : EntityId → Bool) (y : EntityId) → IsListed reads a → a.end ≡ None → a.ask.test ≡ Some t
    → hears (Subject.Entity y) (read_by a.owner reads) ≡ false → IsSpared from changes a t → IsSpared from (λ e. same_entity y e || changes e) a t
spared-more reads a t from changes y listed none test unheard spared = record {
  before = spared.before;
  read = spared.read;
  read_is = spared.read_is;
  same = λ e there. by e there (same_entity y e) refl;
}
  where
    unread : list_any (λ f. same_entity f y) spared.read ≡ false
    unread = ap (hears (Subject.Entity y)) (sym (kept-read reads a t listed none test ∙ ap Some spared.read_is)) ∙ unheard

    by : (e : EntityId) → list_any (λ f. same_entity f e) spared.read ≡ true → (b : Bool) → same_entity y e ≡ b → (same_entity y e || changes e) ≡ false
    by e there true is =
        absurd (let same : y ≡ e = entity-sound y e is in
        let bad : ◌≡◌ {A = Bool} true false = sym there ∙ (λ i. list_any (λ f. same_entity f (sym same i)) spared.read) ∙ unread in cc)
    by e there false is = (λ i. is i || changes e) ∙ spared.same e there
