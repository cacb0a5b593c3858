-- What a place sees of the helpers is what is kept of them.
use Rattle.std.proofs.Common.{◌≡◌, ℕ, suc, List, [], ◌∷◌, length, take, map, Bool, true, false, cond, refl, sym, ap, subst, ◌∙◌, arith}
use Rattle.std.specs.Prelude.{Option, Some, None, MatchOption, nat_lt, slice_get, option_map, codes, if◌then◌else◌}
use Rattle.std.specs.List.{position_or_len}
use Rattle.std.specs.Option.{option_map_or}
use Rattle.std.proofs.lemmas.List.{take_all}
use Rattle.ha_config.specs.declared.helper.Helper.{Helper}
use Rattle.ha_journal.specs.declared.entry.Entry.{Entry}
use Rattle.ha_config.specs.Words.{same, same_entity}
use Rattle.ha_journal.specs.Entries.{changes_in, is_moment}
use Rattle.ha_config.specs.Helpers.{helper_named}
use Rattle.ha_journal.specs.Helpers.{known, last_change}
use Rattle.ha_journal.specs.Journal.{Journal, HasEntry, helpers, in_force, now, more}
use Rattle.ha_config.specs.Names.{named_among}
use Rattle.ha_journal.specs.States.{of_automation, of_helper, reported, states}
use Rattle.ha_journal.specs.Moves.{sight}
use Rattle.ha_journal.proofs.HelperLaws.{helper-seen}
use Rattle.timer_queue.specs.Timers.{Timer}
use Rattle.helper_set.specs.declared.kept.Kept.{Kept}
use Rattle.helper_set.specs.Kept.{AreOutside, AreSeen, At, IsTimely, KeepsIt, Stands, place_in, shown}
use Rattle.helper_set.proofs.BootLemmas.{named-at}
use Rattle.helper_set.proofs.StandLemmas.{changes-stand, changes-none}

known-kept : (j : Journal) (hs : List Helper) (kept : List Kept) → ((n : ℕ) → At hs kept n (KeepsIt j)) → map (λ h. record { helper = h; last = last_change j h.entity }) hs ≡ map shown kept
known-kept j [] [] h = refl
known-kept j [] (k ∷ ks) h = absurd (let bad : ◌≡◌ {A = Option Kept} (Some k) None = h 0 in cc)
known-kept j (a ∷ hs) [] h = absurd (h 0)
known-kept j (a ∷ hs) (k ∷ ks) h = (let t = h 0 in λ i. record { helper = sym t.helper i; last = sym t.last i } ∷ known-kept j hs ks (λ n. h (suc n)) i)

module _ (j : Journal) (some : HasEntry j) (kept : List Kept) (timers : List Timer) (stands : Stands kept timers j) where
  whole : take (length j) j ≡ j
  whole = take_all (length j) j (omega arith)

  here : (b : Bool) (a n : ℕ) → cond b (Some a) None ≡ Some n → a ≡ n
  here true a n e = cc
  here false a n e = absurd (let bad : ◌≡◌ {A = Option ℕ} None (Some n) = e in cc)

  -- the helper at a place is the one that its id names
  named-so : (n : ℕ) (h : Helper) (k : Kept) → slice_get (helpers j) n ≡ Some h → slice_get kept n ≡ Some k → helper_named (helpers j) k.helper.entity ≡ Some h
  named-so n h k a b =
      let own : place_in kept k.helper.entity ≡ Some n = subst (λ o. MatchOption o (Unit {0}) (λ k. place_in kept k.helper.entity ≡ Some n)) b (stands.apart n) in
      let len = nat_lt (position_or_len (λ m. same_entity m.helper.entity k.helper.entity) kept) (length kept) in
      let at = here len (position_or_len (λ m. same_entity m.helper.entity k.helper.entity) kept) n own in
      named-at j (KeepsIt j) (λ h k t. t.helper) k.helper.entity (helpers j) kept stands.each ∙ ap (slice_get (helpers j)) at ∙ a

  text-seen : (h : Helper) (k : Kept) → same h.entity.domain (codes "automation") ≡ false → KeepsIt j h k → helper_named (helpers j) k.helper.entity ≡ Some h
      → option_map_or (λ o. o.text) (states j k.helper.entity) [] ≡ k.text
  text-seen h k outside t named =
      let out : same k.helper.entity.domain (codes "automation") ≡ false = ap (λ (x : Helper). same x.entity.domain (codes "automation")) t.helper ∙ outside in
      let bare = helper-seen j h some in
      ap (λ o. option_map_or (λ o. o.text) o [])
      ((λ i. if out i then option_map (of_automation j) (named_among (in_force j) k.helper.entity.object) else option_map_or (of_helper j) (named i) (reported j k.helper.entity)) ∙ bare.is)
      ∙ bare.text_is ∙ sym t.text

  -- LAW: what is kept of helpers that stand for a journal is what its next place sees of them
  pub seen-stands : AreOutside (helpers j) → AreSeen kept (sight j (length j)) (now j)
  seen-stands outside = record {
    helpers = (λ i. known (whole i)) ∙ known-kept j (helpers j) kept stands.each;
    now = ap now whole;
    texts = λ n. by n (slice_get (helpers j) n) (slice_get kept n) refl refl (outside n) (stands.each n);
  }
    where
      by : (n : ℕ) (o : Option Helper) (p : Option Kept) → slice_get (helpers j) n ≡ o → slice_get kept n ≡ p → MatchOption o (Unit {0}) (λ h. same h.entity.domain (codes "automation") ≡ false)
          → MatchOption o (slice_get kept n ≡ None) (λ h. MatchOption (slice_get kept n) ⊥ (KeepsIt j h))
          → MatchOption p (Unit {0}) (λ k. (option_map_or (λ o. o.text) (states (take (length j) j) k.helper.entity) [] ≡ k.text) × IsTimely (now j) k)
      by n o None a b out e = tt
      by n None (Some k) a b out e = absurd (let bad : ◌≡◌ {A = Option Kept} (Some k) None = sym b ∙ e in cc)
      by n (Some h) (Some k) a b out e =
          let t = subst (λ q. MatchOption q ⊥ (KeepsIt j h)) b e in
          ((λ i. option_map_or (λ o. o.text) (states (whole i) k.helper.entity) []) ∙ text-seen h k out t (named-so n h k a b), t.timely)

  -- LAW: an entry that is no moment and changes no helper leaves what is kept
  pub left-stands : (x : Entry) → changes_in x ≡ [] → is_moment x ≡ false → Stands kept timers (more j x)
  left-stands x changes still = changes-stand j x some kept kept timers timers stands [] (now (more j x)) changes still refl (changes-none (now (more j x)) timers kept)
