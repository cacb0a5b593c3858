-- What follows a part, at each way in which parts are put together.
use Rattle.std.proofs.Common.{◌≡◌, Bool, true, false, List, [], ◌∷◌, ◌++◌, refl, sym, ap, ◌∙◌, append_assoc}
use Rattle.std.specs.Prelude.{Option, Some, None, Ok, Err, ok_or, if◌then◌else◌, bytes_eq}
use Rattle.std.specs.Option.{option_map_or}
use Rattle.ha_sight.specs.declared.item.Item.{Item}
use Rattle.ha_sight.specs.Calls.{Checked}
use Rattle.ha_sight.specs.Scripts.{Branch, Scopes, Spot, Status, Outcome, Next, gives, prefixed, ends, with_place, outer, failed, on_checked, called}
use Rattle.script_laws.specs.Direct.{Standing, Left, at_place, items_then, by_standing, and_then, does, on_field, drop_block}
use Rattle.script_laws.specs.Followed.{follows, followed}

pub one-item : (item : Item) (o : Option Outcome) → gives item o ≡ prefixed (item ∷ []) o
one-item item None = refl
one-item item (Some o) = refl

pub items-append : (xs ys : List Item) (o : Option Outcome) → prefixed (xs ++ ys) o ≡ prefixed xs (prefixed ys o)
items-append xs ys None = refl
items-append xs ys (Some o) = (λ i. Some (record o { items = append_assoc xs ys o.items i }))

-- ---- what holds whatever follows

module _ (next end : Next) where
  pub items-follow : (items : List Item) (o : Option Left) → followed next end (items_then items o) ≡ prefixed items (followed next end o)
  items-follow items None = refl
  items-follow items (Some l) = items-append items l.items (follows l.standing next end l.scopes l.places)

  pub item-follows : (item : Item) (o : Option Left) → gives item (followed next end o) ≡ followed next end (items_then (item ∷ []) o)
  item-follows item o = one-item item (followed next end o) ∙ sym (items-follow (item ∷ []) o)

  pub place-follows : (b : Branch) (scopes : Scopes) (k : Spot → List Spot → Option Outcome) (step : Spot → List Spot → Option Left)
      → ((p : Spot) (rest : List Spot) → k p rest ≡ followed next end (step p rest)) → (ps : List Spot)
      → with_place b ps k ≡ followed next end (at_place b scopes ps step)
  place-follows b scopes k step same [] = refl
  place-follows b scopes k step same (p ∷ rest) = by (bytes_eq p.branch b)
    where
      by : (c : Bool) → (if c then k p rest else None) ≡ followed next end (if c then step p rest else None)
      by true = same p rest
      by false = refl

  pub done-follows : (item : Item) (scopes : Scopes) (rest : List Spot) → called item (next scopes rest) rest ≡ followed next end (does item scopes rest)
  done-follows (Item.Failed code) scopes rest = one-item (Item.Failed code) (ends Status.Faulted rest)
  done-follows Item.Nothing scopes rest = one-item Item.Nothing (next scopes rest)
  done-follows (Item.Call service target fields) scopes rest = one-item (Item.Call service target fields) (next scopes rest)
  done-follows (Item.Fired kind pairs) scopes rest = one-item (Item.Fired kind pairs) (next scopes rest)
  done-follows (Item.Switched targets) scopes rest = one-item (Item.Switched targets) (next scopes rest)
  done-follows (Item.Triggered automations skip) scopes rest = one-item (Item.Triggered automations skip) (next scopes rest)
  done-follows (Item.Started scripts fields waits) scopes rest = one-item (Item.Started scripts fields waits) (next scopes rest)
  done-follows (Item.Halted scripts) scopes rest = one-item (Item.Halted scripts) (next scopes rest)
  done-follows (Item.Helped changes) scopes rest = one-item (Item.Helped changes) (next scopes rest)

  pub field-follows : {A : Type 0} (go : A → Option Outcome) (step : A → Option Left) → ((x : A) → go x ≡ followed next end (step x)) → (c : Checked A) (scopes : Scopes) (rest : List Spot)
      → on_checked go c rest ≡ followed next end (on_field c scopes rest step)
  field-follows go step same (Ok x) scopes rest = same x
  field-follows go step same (Err code) scopes rest = one-item (Item.Failed code) (ends Status.Faulted rest)

  pub option-follows : {A : Type 0} (go : A → Option Outcome) (step : A → Option Left) → ((x : A) → go x ≡ followed next end (step x)) → (o : Option A) (scopes : Scopes) (rest : List Spot)
      → option_map_or go o (failed 1 rest) ≡ followed next end (on_field (ok_or o 1) scopes rest step)
  option-follows go step same (Some x) scopes rest = same x
  option-follows go step same None scopes rest = one-item (Item.Failed 1) (ends Status.Faulted rest)

-- ---- lists

-- an action, and then the rest of its list
pub then-follows : (next : Next) (rest : Scopes → List Spot → Option Left) (o : Option Left) → followed (λ s p. followed next next (rest s p)) next o ≡ followed next next (and_then o rest)
then-follows next rest None = refl
then-follows next rest (Some l) = by l.standing
  where
    by : (s : Standing) → prefixed l.items (follows s (λ q p. followed next next (rest q p)) next l.scopes l.places) ≡ followed next next (by_standing s (record l { standing = s }) rest)
    by Standing.Done = sym (items-follow next next l.items (rest l.scopes l.places))
    by Standing.ListDone = refl
    by Standing.Open = refl
    by Standing.Stopped = refl
    by Standing.Faulted = refl

-- a list is never left by a false condition alone: it is done then
abbrev pub IsLists : Standing → Type 0
IsLists Standing.Done = Unit {0}
IsLists Standing.ListDone = ⊥
IsLists Standing.Open = Unit {0}
IsLists Standing.Stopped = Unit {0}
IsLists Standing.Faulted = Unit {0}

abbrev pub OfList : Option Left → Type 0
OfList None = Unit {0}
OfList (Some l) = IsLists l.standing

pub of-items : (items : List Item) (o : Option Left) → OfList o → OfList (items_then items o)
of-items items None h = tt
of-items items (Some l) h = h

pub of-then : (rest : Scopes → List Spot → Option Left) → ((s : Scopes) (p : List Spot) → OfList (rest s p)) → (o : Option Left) → OfList (and_then o rest)
of-then rest h None = tt
of-then rest h (Some l) = by l.standing
  where
    by : (s : Standing) → OfList (by_standing s (record l { standing = s }) rest)
    by Standing.Done = of-items l.items (rest l.scopes l.places) (h l.scopes l.places)
    by Standing.ListDone = tt
    by Standing.Open = tt
    by Standing.Stopped = tt
    by Standing.Faulted = tt

-- a list in a block of its own
pub block-follows : (next end : Next) (o : Option Left) → OfList o → followed (λ s p. next (outer s) p) (λ s p. next (outer s) p) o ≡ followed next end (drop_block o)
block-follows next end None h = refl
block-follows next end (Some l) h = by l.standing h
  where
    by : (s : Standing) → IsLists s
        → prefixed l.items (follows s (λ q p. next (outer q) p) (λ q p. next (outer q) p) l.scopes l.places) ≡ prefixed l.items (follows s next end (outer l.scopes) l.places)
    by Standing.Done h = refl
    by Standing.ListDone h = absurd h
    by Standing.Open h = refl
    by Standing.Stopped h = refl
    by Standing.Faulted h = refl

-- a list in a block of its own, and what follows the block
pub block-then : (next end behind : Next) (rest : Scopes → List Spot → Option Left) → ((s : Scopes) (p : List Spot) → behind s p ≡ followed next end (rest (outer s) p))
    → (o : Option Left) → OfList o → followed behind behind o ≡ followed next end (and_then (drop_block o) rest)
block-then next end behind rest same None h = refl
block-then next end behind rest same (Some l) h = by l.standing h
  where
    by : (s : Standing) → IsLists s
        → prefixed l.items (follows s behind behind l.scopes l.places) ≡ followed next end (by_standing s (record l { standing = s; scopes = outer l.scopes }) rest)
    by Standing.Done h = ap (prefixed l.items) (same l.scopes l.places) ∙ sym (items-follow next end l.items (rest (outer l.scopes) l.places))
    by Standing.ListDone h = absurd h
    by Standing.Open h = refl
    by Standing.Stopped h = refl
    by Standing.Faulted h = refl
