-- Two texts that are written one after the other are one text; a put that gives lines of the trace and the store's text alone.
use Rattle.std.proofs.Common.{◌∙◌, inl, inr, refl, sym, subst, ◌+◌, [], ◌++◌, length, take, arith, length-append}
use Rattle.std.proofs.Math.Nat.{le_refl}
use Rattle.std.proofs.Math.Seq.{take-append-add}
use Rattle.std.proofs.lemmas.List.{take-append-le}
use Rattle.std.specs.Prelude.{true, false, Option, Some, None}
use Rattle.ha_io.specs.Told.{Takes}
use Rattle.ha_io.proofs.CountLemmas.{Rose-within}
use Rattle.ha_io.proofs.ToldLemmas.{Takes-Takes, Takes-nothing}
use Rattle.ha_config.specs.Words.{Text}
use Rattle.bus_turn.specs.declared.fault.BusFault.{BusFault}
use Rattle.bus_turn.specs.States.{KeeperState, SinkState, outside}
use Rattle.bus_turn.specs.Writes.{Saves, Shows, SinkCause, Took, TookFront, Writes, WritesIn, entry_texts}

module _ (a b : Text) where
  took-both : (s t u : SinkState) → Took a s t → Took b t u → Took (a ++ b) s u
  took-both s t u g h = record {
    took = Takes-Takes s.took t.took u.took a b g.took h.took;
    faults_stay = omega (arith, g.faults_stay, h.faults_stay);
    zeros_stay = omega (arith, g.zeros_stay, h.zeros_stay);
    same_name = h.same_name ∙ g.same_name;
  }

  -- a front of the first is one of both
  front-first : (s t : SinkState) → TookFront a s t → TookFront (a ++ b) s t
  front-first s t g = record {
    front = (g.front.0, (omega (arith, length-append a b, g.front.1.0), subst (λ (w : Text). Takes s.took w t.took) (sym (take-append-le g.front.0 a b g.front.1.0)) g.front.1.1));
    faults_stay = g.faults_stay;
    zeros_stay = g.zeros_stay;
    same_name = g.same_name;
  }

  -- the first, and a front of the second
  front-second : (s t u : SinkState) → Took a s t → TookFront b t u → TookFront (a ++ b) s u
  front-second s t u g h = record {
    front = (
      length a + h.front.0,
      (
        omega (arith, length-append a b, h.front.1.0),
        subst (λ (w : Text). Takes s.took w u.took) (sym (take-append-add a b h.front.0)) (Takes-Takes s.took t.took u.took a (take h.front.0 b) g.took h.front.1.1),
      ),
    );
    faults_stay = omega (arith, g.faults_stay, h.faults_stay);
    zeros_stay = omega (arith, g.zeros_stay, h.zeros_stay);
    same_name = h.same_name ∙ g.same_name;
  }

  cause-later : (fault : BusFault) (s t u : SinkState) → Took a s t → SinkCause fault t u → SinkCause fault s u
  cause-later (BusFault.Write false) s t u g h = Rose-within s.faults t.faults u.faults u.faults g.faults_stay h (le_refl u.faults)
  cause-later (BusFault.Write true) s t u g h = Rose-within s.zeros t.zeros u.zeros u.zeros g.zeros_stay h (le_refl u.zeros)
  cause-later BusFault.Keep s t u g h = absurd h
  cause-later BusFault.Full s t u g h = absurd h
  cause-later BusFault.Memory s t u g h = tt

  -- the first was not written whole
  pub first-cut : (o o' : Option SinkState) (fault : BusFault) → WritesIn a o (Some fault) o' → WritesIn (a ++ b) o (Some fault) o'
  first-cut None None fault h = absurd h
  first-cut None (Some t) fault h = absurd h
  first-cut (Some s) None fault h = absurd h
  first-cut (Some s) (Some t) fault h = (front-first s t h.0, h.1)

  -- it was, and then the second as far as no fault came
  pub then-second : (o o' o'' : Option SinkState) (first : Option BusFault) → WritesIn a o None o' → WritesIn b o' first o'' → WritesIn (a ++ b) o first o''
  then-second None None None None g h = tt
  then-second None None None (Some fault) g h = absurd h
  then-second None None (Some u) None g h = absurd h
  then-second None None (Some u) (Some fault) g h = absurd h
  then-second None (Some t) o'' first g h = absurd g
  then-second (Some s) None o'' first g h = absurd g
  then-second (Some s) (Some t) None None g h = absurd h
  then-second (Some s) (Some t) None (Some fault) g h = absurd h
  then-second (Some s) (Some t) (Some u) None g h = took-both s t u g h
  then-second (Some s) (Some t) (Some u) (Some fault) g h = (front-second s t u g h.0, cause-later fault s t u g h.1)

-- ---- a put that gives no call and no error

none-taken : (s : SinkState) → Writes [] s None s
none-taken s = record { took = Takes-nothing s.took; faults_stay = omega arith; zeros_stay = omega arith; same_name = refl }

module _ (lines : Text) (store : Option Text) (calls errors : SinkState) (o o' : Option SinkState) (k k' : KeeperState) where
  -- its lines were not written whole
  pub lines-cut : (fault : BusFault) → WritesIn lines o (Some fault) o' → Shows (entry_texts [] [] lines store) (outside calls errors o k) (Some fault) (outside calls errors o' k)
  lines-cut fault w = inr (inr (inl (none-taken calls, none-taken errors, w, refl)))

  -- they were, and then the store's text is saved as far as no fault comes
  pub lines-then : (first : Option BusFault) → WritesIn lines o None o' → Saves store k first k' → Shows (entry_texts [] [] lines store) (outside calls errors o k) first (outside calls errors o' k')
  lines-then None w h = (none-taken calls, none-taken errors, w, h)
  lines-then (Some fault) w h = inr (inr (inr (none-taken calls, none-taken errors, w, h)))
