-- What a sink has taken after a write, by what it had taken before.
use Rattle.std.proofs.Common.{◌≡◌, ◌∙◌, ap, sym, subst, ℕ, [], ◌++◌, take, drop, append_assoc}
use Rattle.std.proofs.lemmas.List.{take-append-drop}
use Rattle.std.specs.Prelude.{Option, Some, None, IfSome}
use Rattle.ha_io.specs.Told.{Takes}
use Rattle.ha_io.specs.Whole.{IsFrontTaken}
use Rattle.ha_config.specs.Words.{Text}
use Rattle.ha_config.proofs.ListLemmas.{append-nil}
use Rattle.bus_turn.specs.declared.fault.BusFault.{BusFault}
use Rattle.bus_turn.specs.States.{SinkState}
use Rattle.bus_turn.specs.Writes.{Took, TookIn, Writes, WritesIn}
use Rattle.bus_turn.specs.Buses.{HasTaken, HasTakenFront, IsBetween}

module _ (t u : Text) where
  abbrev Whole : Option Text → Type 0
  Whole o = IfSome o (λ w. w ≡ t ++ u)

  abbrev Front : Option Text → Type 0
  Front o = IfSome o (λ w. IsBetween t w (t ++ u))

  told-more : (before after : Option Text) → IfSome before (λ w. w ≡ t) → Takes before u after → Whole after
  told-more None after h took = subst Whole (sym took) tt
  told-more (Some w) after h took = subst Whole (sym took) (ap (λ z. z ++ u) h)

  between-front : (w : Text) (n : ℕ) → w ≡ t → IsBetween t (w ++ take n u) (t ++ u)
  between-front w n e = record {
    more_done = take n u;
    missing = drop n u;
    begins = ap (λ z. z ++ take n u) e;
    ends = ap (λ z. t ++ z) (sym (take-append-drop n u)) ∙ sym (append_assoc t (take n u) (drop n u)) ∙ ap (λ z. (z ++ take n u) ++ drop n u) (sym e);
  }

  told-front : (before after : Option Text) → IfSome before (λ w. w ≡ t) → IsFrontTaken before u after → Front after
  told-front None after h front = subst Front (sym front.1.1) tt
  told-front (Some w) after h front = subst Front (sym front.1.1) (between-front w front.0 h)

  whole-front : (o : Option Text) → Whole o → Front o
  whole-front None h = tt
  whole-front (Some w) h = record { more_done = u; missing = []; begins = h; ends = sym h ∙ sym (append-nil w) }

  none-front : (o : Option Text) → IfSome o (λ w. w ≡ t) → Front o
  none-front None h = tt
  none-front (Some w) h = record { more_done = []; missing = u; begins = h ∙ sym (append-nil t); ends = ap (λ z. z ++ u) (sym h) }

  pub took-more : (s s' : SinkState) → HasTaken t s → Took u s s' → HasTaken (t ++ u) s'
  took-more s s' h took = told-more s.took s'.took h took.took

  pub writes-front : (s : SinkState) (fault : Option BusFault) (s' : SinkState) → HasTaken t s → Writes u s fault s' → HasTakenFront t (t ++ u) s'
  writes-front s None s' h w = whole-front s'.took (took-more s s' h w)
  writes-front s (Some fault) s' h w = told-front s.took s'.took h w.0.front

  pub stays-front : (s s' : SinkState) → HasTaken t s → s' ≡ s → HasTakenFront t (t ++ u) s'
  stays-front s s' h same = subst (HasTakenFront t (t ++ u)) (sym same) (none-front s.took h)

  pub took-in-more : (o o' : Option SinkState) → IfSome o (HasTaken t) → TookIn u o o' → IfSome o' (HasTaken (t ++ u))
  took-in-more None None h w = tt
  took-in-more None (Some s') h w = absurd w
  took-in-more (Some s) None h w = absurd w
  took-in-more (Some s) (Some s') h w = took-more s s' h w

  pub writes-in-front : (o : Option SinkState) (fault : Option BusFault) (o' : Option SinkState) → IfSome o (HasTaken t) → WritesIn u o fault o' → IfSome o' (HasTakenFront t (t ++ u))
  writes-in-front None None None h w = tt
  writes-in-front None None (Some s') h w = absurd w
  writes-in-front None (Some fault) None h w = absurd w
  writes-in-front None (Some fault) (Some s') h w = absurd w
  writes-in-front (Some s) None None h w = absurd w
  writes-in-front (Some s) (Some fault) None h w = absurd w
  writes-in-front (Some s) None (Some s') h w = writes-front s None s' h w
  writes-in-front (Some s) (Some fault) (Some s') h w = writes-front s (Some fault) s' h w

  pub stays-in-front : (o o' : Option SinkState) → IfSome o (HasTaken t) → o' ≡ o → IfSome o' (HasTakenFront t (t ++ u))
  stays-in-front o o' h same = subst (λ z. IfSome z (HasTakenFront t (t ++ u))) (sym same) (by o h)
    where
      by : (o : Option SinkState) → IfSome o (HasTaken t) → IfSome o (HasTakenFront t (t ++ u))
      by None h = tt
      by (Some s) h = none-front s.took h

  pub taken-front : (s : SinkState) → HasTaken (t ++ u) s → HasTakenFront t (t ++ u) s
  taken-front s h = whole-front s.took h

  pub taken-in-front : (o : Option SinkState) → IfSome o (HasTaken (t ++ u)) → IfSome o (HasTakenFront t (t ++ u))
  taken-in-front None h = tt
  taken-in-front (Some s) h = whole-front s.took h
