-- The states of automations that an entry turns, one after the other.
use Rattle.std.proofs.Common.{◌≡◌, ℕ, ◌+◌, [], ◌∷◌, ◌++◌, Bool, true, false, refl, sym, ap, subst, ◌∙◌}
use Rattle.std.specs.Prelude.{Option, Some, None, not, nat_eq, codes, ◌&&◌, ◌||◌, find, is_some, option_map, MatchOption, if◌then◌else◌}
use Rattle.std.specs.Option.{option_map_or}
use Rattle.ha_value.specs.declared.value.EntityId.{EntityId}
use Rattle.ha_config.specs.declared.config.Automation.{Automation}
use Rattle.ha_journal.specs.declared.entry.Entry.{Entry}
use Rattle.ha_sight.specs.declared.state.StateObject.{StateObject}
use Rattle.ha_journal.specs.Entries.{changes_in, gone_in, is_boot, is_moment, is_restart, opens_segment, reload_in, report_in}
use Rattle.ha_config.specs.Equal.{same_flag}
use Rattle.ha_journal.specs.Journal.{Journal, HasEntry, in_force, now, more, units}
use Rattle.ha_config.specs.Names.{named_among, unit_of}
use Rattle.ha_config.specs.Numbered.{has_number}
use Rattle.ha_config.proofs.NumberedLemmas.{named-there}
use Rattle.ha_journal.specs.States.{states}
use Rattle.ha_journal.specs.Switches.{is_on, same_switch, switch_named}
use Rattle.ha_config.specs.Words.{Text, same, same_entity}
use Rattle.ha_config.proofs.EqualLemmas.{entity-sound, same-sound}
use Rattle.ha_journal.proofs.ForceLaws.{in-force-more}
use Rattle.state_table.specs.Anew.{is_automation, switch_object}
use Rattle.state_laws.specs.Stands.{is_named, sets_anew, turns}
use Rattle.state_laws.proofs.StateLaws.{states-anew, states-other}
use Rattle.ha_journal.proofs.HelperLaws.{no-change}
use Rattle.engine_parts.proofs.TextLemmas.{texts-left}
use Rattle.trig_set.specs.Next.{AreListed, Listed, reports, state_listed}
use Rattle.engine_entry.specs.Turned.{entity_named, is_left, is_target, less}
use Rattle.engine_parts.specs.Kept.{AreSound}
use Rattle.engine_entry.proofs.ForceNames.{found-name, own-name}
use Rattle.engine_entry.proofs.NamedLemmas.{or-left, same-self}
use Rattle.engine_entry.proofs.PlaceLemmas.{eq-of, eq-self}

-- what is seen of the entities
abbrev pub Seen : Type 0
Seen = EntityId → Option StateObject

-- the id of an automation
abbrev pub id_of : Automation → EntityId
id_of y = entity_named y.name

flag-self : (b : Bool) → not (same_flag b b) ≡ false
flag-self true = refl
flag-self false = refl

-- LAW: the id of an automation is no other's
pub id-apart : (j : Journal) (a b : ℕ) (y : Automation) (e : EntityId) → unit_of (units j) a ≡ Some y → is_automation e ≡ true → named_among (in_force j) e.object ≡ Some b → same_entity (id_of y) e ≡ false → nat_eq b a ≡ false
id-apart j a b y e here auto named other = by (nat_eq b a) refl
  where
    by : (c : Bool) → nat_eq b a ≡ c → c ≡ false
    by true at =
        (let found = found-name j e.object b named in
        let own : Some found.automation ≡ Some y = sym found.here ∙ ap (unit_of (units j)) (eq-of b a at) ∙ here in
        let self : found.automation ≡ y = cc in
        let object : y.name ≡ e.object = ap (λ (z : Automation). z.name) (sym self) ∙ found.name_is in
        let domain : codes "automation" ≡ e.domain = sym (same-sound e.domain (codes "automation") auto) in
        let is : same_entity (id_of y) e ≡ true = (λ i. same (codes "automation") (sym domain i) && same y.name (sym object i)) ∙ (λ i. same-self (codes "automation") i && same-self y.name i) in
        let bad : ◌≡◌ {A = Bool} true false = sym is ∙ other in cc)
    by false at = refl

-- what is found in a list with one more
pub found-more : (before : Listed) (p : EntityId × Option StateObject) (e : EntityId) (o : Option StateObject) → state_listed before e ≡ Some o → state_listed (before ++ (p ∷ [])) e ≡ Some o
found-more [] p e o h = absurd (let bad : ◌≡◌ {A = Option (Option StateObject)} None (Some o) = h in cc)
found-more (q ∷ qs) p e o h = by (same_entity q.0 e) h (found-more qs p e o)
  where
    by : (b : Bool) → option_map {T = EntityId × Option StateObject} {U = Option StateObject} (λ r. r.1) (if b then Some q else find (λ r. same_entity r.0 e) qs) ≡ Some o
        → (state_listed qs e ≡ Some o → state_listed (qs ++ (p ∷ [])) e ≡ Some o)
        → option_map {T = EntityId × Option StateObject} {U = Option StateObject} (λ r. r.1) (if b then Some q else find (λ r. same_entity r.0 e) (qs ++ (p ∷ []))) ≡ Some o
    by true h rec = h
    by false h rec = rec h

pub none-more : (before : Listed) (p : EntityId × Option StateObject) (e : EntityId) → state_listed before e ≡ None
    → state_listed (before ++ (p ∷ [])) e ≡ option_map {T = EntityId × Option StateObject} {U = Option StateObject} (λ r. r.1) (if same_entity p.0 e then Some p else None)
none-more [] p e h = refl
none-more (q ∷ qs) p e h = by (same_entity q.0 e) h (none-more qs p e)
  where
    by : (b : Bool) → option_map {T = EntityId × Option StateObject} {U = Option StateObject} (λ r. r.1) (if b then Some q else find (λ r. same_entity r.0 e) qs) ≡ None
        → (state_listed qs e ≡ None → state_listed (qs ++ (p ∷ [])) e ≡ option_map {T = EntityId × Option StateObject} {U = Option StateObject} (λ r. r.1) (if same_entity p.0 e then Some p else None))
        → option_map {T = EntityId × Option StateObject} {U = Option StateObject} (λ r. r.1) (if b then Some q else find (λ r. same_entity r.0 e) (qs ++ (p ∷ []))) ≡ option_map {T = EntityId × Option StateObject} {U = Option StateObject} (λ r. r.1) (if same_entity p.0 e then Some p else None)
    by true h rec = absurd (let bad : ◌≡◌ {A = Option (Option StateObject)} (Some q.1) None = h in cc)
    by false h rec = rec h

-- the state of an entity where the automations that are left stand before the entry
abbrev pub seen_at : Journal → Entry → (ℕ → Bool) → EntityId → Option StateObject
seen_at j x left e = states (if is_left (in_force j) left e then j else more j x) e

module _ (j : Journal) (x : Entry) (some : HasEntry j) (report : report_in x ≡ None) (gone : gone_in x ≡ None) (restart : is_restart x ≡ false) (opens : opens_segment x ≡ false) (reloads : reload_in x ≡ None) (still : is_moment x ≡ false) (changes : changes_in x ≡ []) where
  same-force : in_force (more j x) ≡ in_force j
  same-force = sym (in-force-more j x some reloads)

  -- the switch of a name behind the entry
  named-more : (name : Text) → switch_named (more j x) name ≡ option_map (is_on (more j x)) (named_among (in_force j) name)
  named-more name = (λ i. option_map (is_on (more j x)) (named_among (same-force i) name))

  -- what an automation that is named has to keep
  stays-as : (e : EntityId) → ((a : ℕ) → is_automation e ≡ true → named_among (in_force j) e.object ≡ Some a → is_on (more j x) a ≡ is_on j a) → states (more j x) e ≡ states j e
  stays-as e same = states-other j e x report gone restart (by (is_automation e) refl (named_among (in_force j) e.object) refl) (texts-left j x e (or-left (is_boot x) (is_restart x) opens) changes still)
    where
      switches-same : (o : Option ℕ) → ((a : ℕ) → o ≡ Some a → is_on (more j x) a ≡ is_on j a) → same_switch (option_map (is_on j) o) (option_map (is_on (more j x)) o) ≡ true
      switches-same None h = refl
      switches-same (Some a) h = (λ i. same_switch (Some (is_on j a)) (Some (h a refl i))) ∙ same-itself (is_on j a)
        where
          same-itself : (b : Bool) → (if b then b else not b) ≡ true
          same-itself true = refl
          same-itself false = refl

      and-false : (b : Bool) → (b && false) ≡ false
      and-false true = refl
      and-false false = refl

      by : (b : Bool) → is_automation e ≡ b → (o : Option ℕ) → named_among (in_force j) e.object ≡ o → sets_anew j x e ≡ false
      by false p o q = (λ i. (p i && is_named j x e.object) && turns j x e.object)
      by true p o q =
          (let still : turns j x e.object ≡ false
          = (λ i. opens i || not (same_switch (switch_named j e.object) (named-more e.object i)))
          ∙ (λ i. not (switches-same (named_among (in_force j) e.object) (λ a f. same a p f) i)) in
          (λ i. (is_automation e && is_named j x e.object) && still i) ∙ and-false (is_automation e && is_named j x e.object))

  -- LAW: those that are not left are as they were
  pub states-begin : (left : ℕ → Bool) → ((a : ℕ) → has_number (in_force j) a ≡ true → left a ≡ false → is_on (more j x) a ≡ is_on j a) → (e : EntityId) → states j e ≡ seen_at j x left e
  states-begin left others e = by (is_left (in_force j) left e) refl
    where
      within : (a : ℕ) → named_among (in_force j) e.object ≡ Some a → has_number (in_force j) a ≡ true
      within a q = named-there (in_force j) e.object a q

      off : (a : ℕ) → is_left (in_force j) left e ≡ false → is_automation e ≡ true → named_among (in_force j) e.object ≡ Some a → left a ≡ false
      off a h p q = (λ i. sym p i && option_map_or left (sym q i) false) ∙ h

      by : (b : Bool) → is_left (in_force j) left e ≡ b → states j e ≡ states (if b then j else more j x) e
      by true h = refl
      by false h = sym (stays-as e (λ a p q. others a (within a q) (off a h p q)))

  -- LAW: one whose switch stays is done
  pub states-stay : (left : ℕ → Bool) (a : ℕ) → is_on (more j x) a ≡ is_on j a → (e : EntityId) → seen_at j x left e ≡ seen_at j x (less left a) e
  states-stay left a same e = by (is_automation e) refl (named_among (in_force j) e.object) refl
    where
      one : (b : ℕ) → is_automation e ≡ true → named_among (in_force j) e.object ≡ Some b → (u v : Bool) → nat_eq b a ≡ v → states (if u then j else more j x) e ≡ states (if u && not v then j else more j x) e
      one b p q true true at =
          sym (stays-as e (λ c p' q'. (let is : Some c ≡ Some b = sym q' ∙ q in let own : c ≡ b = cc in let here : c ≡ a = own ∙ eq-of b a at in ap (is_on (more j x)) here ∙ same ∙ sym (ap (is_on j) here))))
      one b p q true false at = refl
      one b p q false v at = refl

      by : (c : Bool) → is_automation e ≡ c → (o : Option ℕ) → named_among (in_force j) e.object ≡ o → seen_at j x left e ≡ seen_at j x (less left a) e
      by false p o q =
          (λ i. states (if p i && option_map_or left (named_among (in_force j) e.object) false then j else more j x) e)
          ∙ sym (λ i. states (if p i && option_map_or (less left a) (named_among (in_force j) e.object) false then j else more j x) e)
      by true p None q =
          (λ i. states (if p i && option_map_or left (q i) false then j else more j x) e) ∙ sym (λ i. states (if p i && option_map_or (less left a) (q i) false then j else more j x) e)
      by true p (Some b) q =
          (λ i. states (if p i && option_map_or left (q i) false then j else more j x) e) ∙ one b p q (left b) (nat_eq b a) refl
          ∙ sym (λ i. states (if p i && option_map_or (less left a) (q i) false then j else more j x) e)

  module _ (sound : AreSound j) (left : ℕ → Bool) (a : ℕ) (y : Automation) (known : has_number (in_force j) a ≡ true) (here : unit_of (units j) a ≡ Some y) (is_left' : left a ≡ true) where
    own-auto : is_automation (id_of y) ≡ true
    own-auto = same-self (codes "automation")

    own-named : named_among (in_force j) y.name ≡ Some a
    own-named = own-name j sound a y known here

    own-left : is_left (in_force j) left (id_of y) ≡ true
    own-left = (λ i. own-auto i && option_map_or left (own-named i) false) ∙ is_left'

    own-less : is_left (in_force j) (less left a) (id_of y) ≡ false
    own-less = (λ i. own-auto i && option_map_or (less left a) (own-named i) false) ∙ (λ i. is_left' i && not (eq-self a i))

    -- the others are left as before
    other-left : (e : EntityId) → same_entity (id_of y) e ≡ false → is_left (in_force j) left e ≡ is_left (in_force j) (less left a) e
    other-left e other = by (is_automation e) refl (named_among (in_force j) e.object) refl
      where
        keep : (u : Bool) → u ≡ (u && true)
        keep true = refl
        keep false = refl

        by : (c : Bool) → is_automation e ≡ c → (o : Option ℕ) → named_among (in_force j) e.object ≡ o → is_left (in_force j) left e ≡ is_left (in_force j) (less left a) e
        by false p o q = (λ i. p i && option_map_or left (named_among (in_force j) e.object) false) ∙ sym (λ i. p i && option_map_or (less left a) (named_among (in_force j) e.object) false)
        by true p None q = (λ i. p i && option_map_or left (q i) false) ∙ sym (λ i. p i && option_map_or (less left a) (q i) false)
        by true p (Some b) q =
            (λ i. p i && option_map_or left (q i) false) ∙ keep (left b)
            ∙ (λ i. left b && not (sym (id-apart j a b y e here p q other) i)) ∙ sym (λ i. p i && option_map_or (less left a) (q i) false)

    -- LAW: the state of one that is turned
    pub own-state : same_flag (is_on j a) (is_on (more j x) a) ≡ false → states (more j x) (id_of y) ≡ Some (switch_object (is_on (more j x) a) (now (more j x)))
    own-state moved =
        states-anew j (id_of y) x anew
        ∙ (λ i. option_map (λ on. switch_object on (now (more j x))) ((named-more y.name ∙ (λ n. option_map (is_on (more j x)) (own-named n))) i))
      where
        before : switch_named j y.name ≡ Some (is_on j a)
        before = (λ n. option_map (is_on j) (own-named n))

        after : switch_named (more j x) y.name ≡ Some (is_on (more j x) a)
        after = named-more y.name ∙ (λ n. option_map (is_on (more j x)) (own-named n))

        flag-switch : (u v : Bool) → same_switch (Some u) (Some v) ≡ same_flag u v
        flag-switch true true = refl
        flag-switch true false = refl
        flag-switch false true = refl
        flag-switch false false = refl

        turned : turns j x y.name ≡ true
        turned = (λ i. opens i || not (same_switch (before i) (after i))) ∙ (λ i. not (flag-switch (is_on j a) (is_on (more j x) a) i)) ∙ (λ i. not (moved i))

        there : is_named j x y.name ≡ true
        there = (λ i. is_some (before i) || is_some (switch_named (more j x) y.name))

        anew : sets_anew j x (id_of y) ≡ true
        anew = (λ i. (own-auto i && there i) && turned i)

    -- LAW: one that is turned is done
    pub states-turned : (on : Bool) (at : ℕ) → same_flag (is_on j a) (is_on (more j x) a) ≡ false → is_on (more j x) a ≡ on → at ≡ now (more j x) → (old new : Seen) → ((e : EntityId) → new e ≡ (if same_entity (id_of y) e then Some (switch_object on at) else old e))
        → ((e : EntityId) → old e ≡ seen_at j x left e) → (e : EntityId) → new e ≡ seen_at j x (less left a) e
    states-turned on at turned is now_is old new sets stand e = sets e ∙ by (same_entity (id_of y) e) refl
      where
        by : (b : Bool) → same_entity (id_of y) e ≡ b → (if b then Some (switch_object on at) else old e) ≡ seen_at j x (less left a) e
        by true own =
            (λ i. Some (switch_object (sym is i) (now_is i))) ∙ sym (own-state turned) ∙ (λ i. states (if sym own-less i then j else more j x) (id_of y)) ∙ ap (seen_at j x (less left a)) (entity-sound (id_of y) e own)
        by false other = stand e ∙ (λ i. states (if other-left e other i then j else more j x) e)

    abbrev Fine : EntityId → Option (Option StateObject) → Type 0
    Fine e o = MatchOption o (seen_at j x (less left a) e ≡ states j e) (λ o. o ≡ states j e)

    -- LAW: and its old state is listed
    pub listed-turned : (old : Seen) (before : Listed) → ((e : EntityId) → old e ≡ seen_at j x left e)
        → ((e : EntityId) → MatchOption (state_listed before e) (seen_at j x left e ≡ states j e) (λ o. o ≡ states j e))
        → (e : EntityId) → MatchOption (state_listed (before ++ ((id_of y, old (id_of y)) ∷ [])) e) (seen_at j x (less left a) e ≡ states j e) (λ o. o ≡ states j e)
    listed-turned old before stand listed e = by (state_listed before e) refl (listed e)
      where
        own-old : old (id_of y) ≡ states j (id_of y)
        own-old = stand (id_of y) ∙ (λ i. states (if own-left i then j else more j x) (id_of y))

        one : (b : Bool) → same_entity (id_of y) e ≡ b → seen_at j x left e ≡ states j e → Fine e (option_map {T = EntityId × Option StateObject} {U = Option StateObject} (λ r. r.1) (if b then Some (id_of y, old (id_of y)) else None))
        one true own h = own-old ∙ ap (states j) (entity-sound (id_of y) e own)
        one false other h = sym (λ i. states (if other-left e other i then j else more j x) e) ∙ h

        by : (o : Option (Option StateObject)) → state_listed before e ≡ o → MatchOption o (seen_at j x left e ≡ states j e) (λ o. o ≡ states j e) → Fine e (state_listed (before ++ ((id_of y, old (id_of y)) ∷ [])) e)
        by (Some o) f h = subst (Fine e) (sym (found-more before (id_of y, old (id_of y)) e o f)) h
        by None f h = subst (Fine e) (sym (none-more before (id_of y, old (id_of y)) e f)) (one (same_entity (id_of y) e) refl h)

  nobody-left : (e : EntityId) → is_left (in_force j) (is_target []) e ≡ false
  nobody-left e = by (is_automation e) (named_among (in_force j) e.object)
    where
      by : (b : Bool) (o : Option ℕ) → (b && option_map_or (is_target []) o false) ≡ false
      by false o = refl
      by true None = refl
      by true (Some a) = refl

  -- LAW: when none is left they are those behind the entry, and what changed was listed
  pub states-end : (old : Seen) → ((e : EntityId) → old e ≡ seen_at j x (is_target []) e) → (e : EntityId) → old e ≡ states (more j x) e
  states-end old stand e = stand e ∙ (λ i. states (if nobody-left e i then j else more j x) e)

  pub listed-end : (before : Listed) → ((e : EntityId) → MatchOption (state_listed before e) (seen_at j x (is_target []) e ≡ states j e) (λ o. o ≡ states j e)) → AreListed j x before
  listed-end before listed e = by (state_listed before e) (listed e)
    where
      by : (o : Option (Option StateObject)) → MatchOption o (seen_at j x (is_target []) e ≡ states j e) (λ o. o ≡ states j e)
          → MatchOption o ((states (more j x) e ≡ states j e) × (reports e x ≡ false)) (λ o. o ≡ states j e)
      by (Some o) h = h
      by None h = (sym (λ i. states (if nobody-left e i then j else more j x) e) ∙ h, (λ i. is_some (no-change x e changes i) || option_map_or (λ q. same_entity q.entity e) (report i) false))
