-- What taking in a step's wait leaves of the other waits.
use Rattle.std.proofs.Common.{◌≡◌, ℕ, zero, suc, ◌+◌, ◌-◌, ◌<◌, List, [], ◌∷◌, ◌++◌, filter, set, Bool, true, false, refl, sym, ap, subst, ◌∙◌, rules}
use Rattle.std.specs.Prelude.{Option, Some, None, ◌≢◌, ◌&&◌, ◌||◌, not, nat_eq, is_none, slice_get, option_map, option_and_then, if◌then◌else◌}
use Rattle.std.specs.List.{list_any}
use Rattle.ha_journal.specs.declared.entry.Entry.TheVariants.{Step}
use Rattle.ha_sight.specs.declared.item.Item.{Item}
use Rattle.ha_sight.specs.declared.waiting.WaitAsk.{WaitAsk}
use Rattle.ha_sight.specs.declared.waiting.WaitEnd.{WaitEnd}
use Rattle.ha_journal.specs.Journal.{Journal, more}
use Rattle.ha_model.specs.Records.{spots, next_spot}
use Rattle.ha_sight.specs.Scripts.{Branch, Spot}
use Rattle.ha_config.specs.Words.{same}
use Rattle.ha_config.proofs.ListLemmas.{append-nil}
use Rattle.ha_config.proofs.EqualLemmas.{same-refl, same-sound}
use Rattle.ha_model.proofs.FoldLaws.{spots-more}
use Rattle.script_step.specs.Gates.{gate_at}
use Rattle.script_step.specs.declared.frames.Frames.{Frames}
use Rattle.wait_set.specs.declared.asked.Asked as wait
use Rattle.wait_set.specs.Asked.{WaitTable, is_bare, is_of, wait_of}
use Rattle.wait_set.proofs.FindLemmas.{wait-added}
use Rattle.engine_parts.specs.Fronts.{fronts}
use Rattle.engine_parts.specs.Runs.{AreHeld, IsHeld, IsWait, first_wait}
use Rattle.engine_entry.specs.Stepping.{asks_with}
use Rattle.engine_parts.specs.Waiting.{Asked, asked, asked_at, ends, AsksKept}
use Rattle.engine_parts.proofs.HeldLemmas.{held-other}

eq-of : (x y : ℕ) → nat_eq x y ≡ true → x ≡ y
eq-of x y e = search (rules, e)

is-so : (x y : ℕ) → x ≡ y → nat_eq x y ≡ true
is-so x y e = search (rules, e)

both : (p q : Bool) → (p && q) ≡ true → (p ≡ true) × (q ≡ true)
both true q e = (refl, e)
both false q e = absurd (let bad : ◌≡◌ {A = Bool} false true = e in cc)

false-of : (c : Bool) → (c ≡ true → ⊥) → c ≡ false
false-of true h = absurd (h refl)
false-of false h = refl

or-left : (a b : Bool) → (a || b) ≡ false → a ≡ false
or-left true b h = absurd (let bad : ◌≡◌ {A = Bool} true false = h in cc)
or-left false b h = refl

or-right : (a b : Bool) → (a || b) ≡ false → b ≡ false
or-right true b h = absurd (let bad : ◌≡◌ {A = Bool} true false = h in cc)
or-right false b h = h

-- whose wait it is
named-by : (s : ℕ) (b : Branch) (a : wait.Asked) → is_of s b a ≡ true → (a.ask.serial ≡ s) × (a.ask.branch ≡ b)
named-by s b a h = (let parts = both (nat_eq a.ask.serial s) (same a.ask.branch b) h in (eq-of a.ask.serial s parts.0, same-sound a.ask.branch b parts.1))

names : (s : ℕ) (b : Branch) (a : wait.Asked) → a.ask.serial ≡ s → a.ask.branch ≡ b → is_of s b a ≡ true
names s b a serial branch = (λ i. is-so a.ask.serial s serial i && (ap (same a.ask.branch) (sym branch) ∙ same-refl a.ask.branch) i)

-- ---- the asks

module _ (place s : ℕ) (b : Branch) (wait' : Option WaitAsk) (w w' : WaitTable) (whose : (ask : WaitAsk) → wait' ≡ Some ask → (ask.serial ≡ s) × (ask.branch ≡ b)) (is : w'.asks ≡ asks_with place wait' w.asks) where
  -- the wait of another branch, or run
  other-wait : (q : ℕ) (c : Branch) → ((q ≡ s) → (c ≡ b) → ⊥) → wait_of q c w'.asks ≡ wait_of q c w.asks
  other-wait q c apart = ap (wait_of q c) is ∙ by wait' whose
    where
      by : (o : Option WaitAsk) → ((ask : WaitAsk) → o ≡ Some ask → (ask.serial ≡ s) × (ask.branch ≡ b)) → wait_of q c (asks_with place o w.asks) ≡ wait_of q c w.asks
      by None whose = refl
      by (Some ask) whose =
          (let a : wait.Asked = record { owner = first_wait + place; place = place; ask = ask; end = None } in
          let own = whose ask refl in
          let none : is_of q c a ≡ false = false-of (is_of q c a) (λ h. (let named = named-by q c a h in apart (sym named.0 ∙ own.0) (sym named.1 ∙ own.1))) in
          wait-added q c a w.asks ∙ (λ i. if none i then Some a else wait_of q c w.asks))

  -- LAW: the asks of other runs are the same
  pub taken-others : (q : ℕ) → nat_eq q s ≡ false → AsksKept w w' q
  taken-others q other c = ap (option_map {T = wait.Asked} {U = Asked} asked) (other-wait q c (λ e f. differ q s other e))
    where
      differ : (x y : ℕ) → nat_eq x y ≡ false → x ≡ y → ⊥
      differ x y h e = search (rules, h, e)

  pub taken-ends : (q : ℕ) → nat_eq q s ≡ false → (c : Branch) → ends w' q c ≡ ends w q c
  taken-ends q other c = ap (option_and_then {T = wait.Asked} {U = WaitEnd} (λ z. z.end)) (other-wait q c (λ e f. differ q s other e))
    where
      differ : (x y : ℕ) → nat_eq x y ≡ false → x ≡ y → ⊥
      differ x y h e = search (rules, h, e)

  -- LAW: so are those of the other branches of its run
  pub taken-branches : (c : Branch) → c ≢ b → asked_at w' s c ≡ asked_at w s c
  taken-branches c apart = ap (option_map {T = wait.Asked} {U = Asked} asked) (other-wait s c (λ e f. apart f))

  -- LAW: and its own is there
  pub taken-own : (ask : WaitAsk) → wait' ≡ Some ask → asked_at w' s b ≡ Some (record { owner = first_wait + place; place = place; ask = ask; named = None })
  taken-own ask e =
      (let a : wait.Asked = record { owner = first_wait + place; place = place; ask = ask; end = None } in
      let own = whose ask e in
      let there : is_of s b a ≡ true = names s b a own.0 own.1 in
      ap (λ l. option_map {T = wait.Asked} {U = Asked} asked (wait_of s b l)) (is ∙ ap (λ o. asks_with place o w.asks) e)
      ∙ ap (option_map {T = wait.Asked} {U = Asked} asked) (wait-added s b a w.asks ∙ (λ i. if there i then Some a else wait_of s b w.asks))
      ∙ (λ i. Some (record { owner = first_wait + place; place = place; ask = ask; named = none-yet (is_bare ask) None refl i })))
    where
      none-yet : (c : Bool) (e : Option WaitEnd) → e ≡ None → (if c then e else None) ≡ None
      none-yet true e is = is
      none-yet false e is = refl

-- ---- pending waits of runs that have frames

module _ (j : Journal) (worker s : ℕ) (b : Branch) (item : Item) (os : List (Option Frames)) (old new : Frames) (low : 0 < s) (there : slice_get os (s - 1) ≡ Some (Some old)) where
  abbrev k : Journal
  k = more j (Step worker s b item)

  abbrev os' : List (Option Frames)
  os' = set os (s - 1) (Some new)

  own-places : spots k s ≡ spots j s ++ (next_spot j b ∷ [])
  own-places = spots-more j (Step worker s b item) s ∙ (λ i. spots j s ++ (if is-so s s refl i then next_spot j b ∷ [] else []))

  other-places : (q : ℕ) → nat_eq q s ≡ false → spots k q ≡ spots j q
  other-places q other =
      spots-more j (Step worker s b item) q ∙ (λ i. spots j q ++ (if turned q s other i then next_spot j b ∷ [] else [])) ∙ append-nil (spots j q)
    where
      turned : (x y : ℕ) → nat_eq x y ≡ false → nat_eq y x ≡ false
      turned x y e = search (rules, e)

  get-set : {X : Type 0} (xs : List X) (i : ℕ) (x y : X) → slice_get xs i ≡ Some x → slice_get (set xs i y) i ≡ Some y
  get-set {X} [] i x y e = absurd (let bad : ◌≡◌ {A = Option X} None (Some x) = e in cc)
  get-set (z ∷ xs) zero x y e = refl
  get-set (z ∷ xs) (suc i) x y e = get-set xs i x y e

  slot-new : slice_get os' (s - 1) ≡ Some (Some new)
  slot-new = get-set os (s - 1) (Some old) (Some new) there

  module _ (others : (c : Branch) → c ≢ b → IsWait (gate_at c (fronts old (spots j s))) → IsWait (gate_at c (fronts new (spots j s ++ (next_spot j b ∷ []))))) where
    held-one : (a : wait.Asked) → (is_of s b a && is_none a.end) ≡ false → IsHeld j os a → IsHeld k os' a
    held-one a free h pending = by (nat_eq a.ask.serial s) refl
      where
        by : (c : Bool) → nat_eq a.ask.serial s ≡ c → (0 < a.ask.serial) × (f : Frames) × (slice_get os' (a.ask.serial - 1) ≡ Some (Some f)) × IsWait (gate_at a.ask.branch (fronts f (spots k a.ask.serial)))
        by false other =
            (let one = held-other j os s (Some new) low a other h pending in
            (one.0, one.1, one.2, subst (λ (ss : List Spot). IsWait (gate_at a.ask.branch (fronts one.1 ss))) (sym (other-places a.ask.serial other)) one.3))
        by true same' =
            (let one = h pending in
            let serial : a.ask.serial ≡ s = eq-of a.ask.serial s same' in
            let apart : a.ask.branch ≢ b = (λ e. (let bad : ◌≡◌ {A = Bool} true false = sym (λ i. names s b a serial e i && (ap is_none pending) i) ∙ free in cc)) in
            let found : Some (Some one.1) ≡ Some (Some old) = sym one.2 ∙ ap (λ q. slice_get os (q - 1)) serial ∙ there in
            let self : one.1 ≡ old = cc in
            let at : IsWait (gate_at a.ask.branch (fronts old (spots j s)))
            = subst (λ q. IsWait (gate_at a.ask.branch (fronts old (spots j q)))) serial (subst (λ (f : Frames). IsWait (gate_at a.ask.branch (fronts f (spots j a.ask.serial)))) self one.3) in (
              one.0,
              new,
              ap (λ q. slice_get os' (q - 1)) serial ∙ slot-new,
              subst (λ q. IsWait (gate_at a.ask.branch (fronts new (spots k q)))) (sym serial) (subst (λ (ss : List Spot). IsWait (gate_at a.ask.branch (fronts new ss))) (sym own-places) (others a.ask.branch apart at)),
            ))

    -- LAW: where none of its branch is pending
    pub held-step : (asks : List wait.Asked) → list_any (λ a. is_of s b a && is_none a.end) asks ≡ false → AreHeld j os asks → AreHeld k os' asks
    held-step [] free h = tt
    held-step (a ∷ asks) free h = (
      held-one a (or-left (is_of s b a && is_none a.end) (list_any (λ x. is_of s b x && is_none x.end) asks) free) h.0,
      h.1,
      held-step asks (or-right (is_of s b a && is_none a.end) (list_any (λ x. is_of s b x && is_none x.end) asks) free) h.2,
    )

    -- one wait more, of which there is none in its branch
    kept-out : (q : ℕ) (c : Branch) (asks : List wait.Asked) → list_any (is_of q c) asks ≡ false → list_any (is_of q c) (filter (λ a. not (is_of s b a)) asks) ≡ false
    kept-out q c [] h = refl
    kept-out q c (a ∷ asks) h = by (is_of s b a) (kept-out q c asks (or-right (is_of q c a) (list_any (is_of q c) asks) h))
      where
        by : (t : Bool) → list_any (is_of q c) (filter (λ x. not (is_of s b x)) asks) ≡ false → list_any (is_of q c) (if not t then a ∷ filter (λ x. not (is_of s b x)) asks else filter (λ x. not (is_of s b x)) asks) ≡ false
        by true e = e
        by false e = (λ i. or-left (is_of q c a) (list_any (is_of q c) asks) h i || e i)

    any-snoc : (q : ℕ) (c : Branch) (l : List wait.Asked) (z : wait.Asked) → list_any (is_of q c) l ≡ false → is_of q c z ≡ false → list_any (is_of q c) (l ++ (z ∷ [])) ≡ false
    any-snoc q c [] z h e = (λ i. e i || false)
    any-snoc q c (a ∷ l) z h e = (λ i. or-left (is_of q c a) (list_any (is_of q c) l) h i || any-snoc q c l z (or-right (is_of q c a) (list_any (is_of q c) l) h) e i)

    module _ (z : wait.Asked) (serial : z.ask.serial ≡ s) (branch : z.ask.branch ≡ b) (at : IsWait (gate_at b (fronts new (spots j s ++ (next_spot j b ∷ []))))) where
      new-held : IsHeld k os' z
      new-held pending = (
        subst (λ q. 0 < q) (sym serial) low,
        new,
        ap (λ q. slice_get os' (q - 1)) serial ∙ slot-new,
        subst (λ q. IsWait (gate_at z.ask.branch (fronts new (spots k q)))) (sym serial)
            (subst (λ (c : Branch). IsWait (gate_at c (fronts new (spots k s)))) (sym branch) (subst (λ (ss : List Spot). IsWait (gate_at b (fronts new ss))) (sym own-places) at)),
      )

      snoc : (asks : List wait.Asked) → AreHeld k os' asks → AreHeld k os' (filter (λ a. not (is_of s b a)) asks ++ (z ∷ []))
      snoc [] h = (new-held, refl, tt)
      snoc (a ∷ asks) h = by (is_of s b a) refl (snoc asks h.2)
        where
          rest : List wait.Asked
          rest = filter (λ x. not (is_of s b x)) asks

          by : (t : Bool) → is_of s b a ≡ t → AreHeld k os' (rest ++ (z ∷ [])) → AreHeld k os' ((if not t then a ∷ rest else rest) ++ (z ∷ []))
          by true e more' = more'
          by false e more' =
              (let none : is_of a.ask.serial a.ask.branch z ≡ false
              = false-of (is_of a.ask.serial a.ask.branch z) (λ yes'. (let named = named-by a.ask.serial a.ask.branch z yes' in
              let bad : ◌≡◌ {A = Bool} true false = sym (names s b a (sym named.0 ∙ serial) (sym named.1 ∙ branch)) ∙ e in cc)) in
              (h.0, any-snoc a.ask.serial a.ask.branch rest z (kept-out a.ask.serial a.ask.branch asks h.1) none, more'))

    -- LAW: with the wait that began
    pub held-taken : (place : ℕ) (wait' : Option WaitAsk) → ((ask : WaitAsk) → wait' ≡ Some ask → (ask.serial ≡ s) × (ask.branch ≡ b) × IsWait (gate_at b (fronts new (spots j s ++ (next_spot j b ∷ [])))))
        → (asks : List wait.Asked) → list_any (λ a. is_of s b a && is_none a.end) asks ≡ false → AreHeld j os asks → AreHeld k os' (asks_with place wait' asks)
    held-taken place None whose asks free h = held-step asks free h
    held-taken place (Some ask) whose asks free h =
        (let own = whose ask refl in
        let z : wait.Asked = record { owner = first_wait + place; place = place; ask = ask; end = None } in
        subst (λ q. AreHeld k os' (filter (λ a. not (is_of q ask.branch a)) asks ++ (z ∷ []))) (sym own.0)
        (subst (λ (c : Branch). AreHeld k os' (filter (λ a. not (is_of s c a)) asks ++ (z ∷ []))) (sym own.1) (snoc z own.0 own.1 own.2 asks (held-step asks free h))))
