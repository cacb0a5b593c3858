-- What became of the sources.
use Rattle.std.proofs.Common.{map, ◌≡◌, ◌⊎◌, inl, inr, ◌∙◌, ◌<◌, ◌+◌, ℕ, suc, List, [], ◌∷◌, ◌++◌, length, Option, Some, None, ap, append_assoc, arith, refl, sym, subst}
use Rattle.std.proofs.lemmas.List.{append-nil}
use Rattle.std.specs.Prelude.{IfSome, IsSomeAnd}
use Rattle.std.specs.Io.KnownBytes.{IsAtEnd}
use Rattle.ha_io.specs.Counts.{Rose}
use Rattle.ha_io.specs.Told.{HasFile}
use Rattle.ha_io.proofs.CountLemmas.{Rose-from_zero}
use Rattle.ha_io.proofs.ToldLemmas.{Gives-told}
use Rattle.ha_config.specs.declared.command.Cmd.{Cmd}
use Rattle.ha_config.specs.declared.config.Config.{Config}
use Rattle.ha_config.specs.Fair.{prepared}
use Rattle.ha_journal.specs.Commands.{ArePutFrom}
use Rattle.ha_journal.specs.Journal.{Journal}
use Rattle.ha_config.specs.Words.{Text}
use Rattle.ha_status.specs.declared.status.Status.{Status}
use Rattle.ha_status.specs.Files.{Files}
use Rattle.bus_turn.specs.declared.fault.BusFault.{BusFault}
use Rattle.ha_worker.specs.declared.end.WorkerEnd.{WorkerEnd}
use Rattle.ha_worker.specs.Courses.{Course, GaveBytes, SourceState}
use Rattle.ha_run.specs.Opened.{AreNew, IsOpened}
use Rattle.ha_run.specs.Served.{AreServed, Each, Feed, IsEnded, IsFirst, IsReadOf, IsServed, IsThrough}
use Rattle.ha_run.specs.Team.{AreWorked, IsOver, IsWorked, told_by}

-- ---- one source

-- what was read of the file
read_of : (course : Course) (bytes file : Text) (s s' : SourceState) → GaveBytes course bytes s s' → s.left ≡ Some file → IsReadOf course bytes s'.left file
read_of Course.Goes bytes file s s' g e = let t = Gives-told s.left s'.left bytes file g e in (t.0, t.1, t.2)
read_of Course.Ends bytes file s s' g e =
    let t = Gives-told s.left s'.left bytes file g.0 e in
    let end : t.0 ≡ [] = subst IsAtEnd t.1 g.1 in
    (t.1 ∙ ap (λ (z : Text). Some z) end, t.2 ∙ ap (λ (z : Text). bytes ++ z) end ∙ append-nil bytes)
read_of Course.Fails bytes file s s' g e = let t = Gives-told s.left s'.left bytes file g.0 e in (t.0, t.1, t.2)
read_of Course.Exceeds bytes file s s' g e =
    let t = Gives-told s.left s'.left (bytes ++ (g.0 ∷ [])) file g.2 e in
    (g.1, (g.0, t.0, t.1, t.2 ∙ append_assoc bytes (g.0 ∷ []) t.0))

failed_of : (course : Course) (bytes : Text) (s s' : SourceState) → GaveBytes course bytes s s' → s.faults ≡ 0 → course ≡ Course.Fails → 0 < s'.faults
failed_of course bytes s s' g new is =
    let h : GaveBytes Course.Fails bytes s s' = subst (λ z. GaveBytes z bytes s s') is g in
    Rose-from_zero s'.faults (subst (λ z. Rose z s'.faults) new h.1)

left_of : (o : Option Text) → IsAtEnd o → IfSome o (λ left. left ≡ [])
left_of None h = tt
left_of (Some left) h = h

ended_of : (course : Course) (bytes : Text) (s s' : SourceState) → GaveBytes course bytes s s' → course ≡ Course.Ends → IfSome s'.left (λ left. left ≡ [])
ended_of course bytes s s' g is =
    let h : GaveBytes Course.Ends bytes s s' = subst (λ z. GaveBytes z bytes s s') is g in left_of s'.left h.1

-- where files are told, what was read of the file of this name
told_of : (files : Option Files) (name : Text) (course : Course) (bytes : Text) (s s' : SourceState) → HasFile files name s.left → GaveBytes course bytes s s'
    → IfSome files (λ f. IsSomeAnd (f name) (IsReadOf course bytes s'.left))
told_of None name course bytes s s' h g = tt
told_of (Some f) name course bytes s s' h g = by (f name) h
  where
    by : (o : Option Text) → IsSomeAnd o (λ file. s.left ≡ Some file) → IsSomeAnd o (IsReadOf course bytes s'.left)
    by None e = e
    by (Some file) e = read_of course bytes file s s' g e

pub new_length : (files : Option Files) (names : List Text) (before : List SourceState) → AreNew files names before → length names ≡ length before
new_length files [] [] n = refl
new_length files [] (s ∷ before) n = absurd n
new_length files (name ∷ names) [] n = absurd n
new_length files (name ∷ names) (s ∷ before) n = let e = new_length files names before n.1 in omega (arith, e)

module _ (reading : Text → Option Config) where
  one_served : (files : Option Files) (j : Journal) (first : Option BusFault) (k : ℕ) (name : Text) (s s' : SourceState) (end : Option WorkerEnd) (feed : Feed) → IsOpened files name s
      → IsWorked reading j first k s s' end feed → IsServed reading files j k name s' feed
  one_served files j first k name s s' end feed o w = record {
    bytes = w.bytes;
    put = w.put;
    named = subst (λ z. IfSome z (λ told. told ≡ name)) (sym w.given.same_name) o.named;
    read = told_of files name feed.course w.bytes s s' o.holds w.given.gave;
    within = w.given.within;
    cmds_are = w.cmds_are;
    puts = w.puts;
    failed = failed_of feed.course w.bytes s s' w.given.gave o.new;
    left = ended_of feed.course w.bytes s s' w.given.gave;
  }

  -- ---- all sources

  pub all_served : (files : Option Files) (j : Journal) (first : Option BusFault) (k : ℕ) (names : List Text) (before after : List SourceState) (ends : List (Option WorkerEnd)) (feeds : List Feed)
      → AreNew files names before → AreWorked reading j first k before after ends feeds → AreServed reading files j k names after feeds
  all_served files j first k [] [] [] [] [] n w = tt
  all_served files j first k [] [] [] [] (f ∷ feeds) n w = absurd w
  all_served files j first k [] [] [] (e ∷ ends) feeds n w = absurd w
  all_served files j first k [] [] (t ∷ after) ends feeds n w = absurd w
  all_served files j first k [] (s ∷ before) after ends feeds n w = absurd n
  all_served files j first k (name ∷ names) [] after ends feeds n w = absurd n
  all_served files j first k (name ∷ names) (s ∷ before) [] ends feeds n w = absurd w
  all_served files j first k (name ∷ names) (s ∷ before) (t ∷ after) [] feeds n w = absurd w
  all_served files j first k (name ∷ names) (s ∷ before) (t ∷ after) (e ∷ ends) [] n w = absurd w
  all_served files j first k (name ∷ names) (s ∷ before) (t ∷ after) (e ∷ ends) (f ∷ feeds) n w =
      (one_served files j first k name s t e f n.0 w.0, all_served files j first (suc k) names before after ends feeds n.1 w.1)

  -- their lines stand in a journal that goes on without lines
  pub worked_later : (j j' : Journal) (first : Option BusFault) → ((k : ℕ) (cmds : List Cmd) → ArePutFrom k j cmds → ArePutFrom k j' cmds) → (k : ℕ) (before after : List SourceState)
      (ends : List (Option WorkerEnd)) (feeds : List Feed) → AreWorked reading j first k before after ends feeds → AreWorked reading j' first k before after ends feeds
  worked_later j j' first puts k [] [] [] [] w = tt
  worked_later j j' first puts k [] [] [] (f ∷ feeds) w = absurd w
  worked_later j j' first puts k [] [] (e ∷ ends) feeds w = absurd w
  worked_later j j' first puts k [] (t ∷ after) ends feeds w = absurd w
  worked_later j j' first puts k (s ∷ before) [] ends feeds w = absurd w
  worked_later j j' first puts k (s ∷ before) (t ∷ after) [] feeds w = absurd w
  worked_later j j' first puts k (s ∷ before) (t ∷ after) (e ∷ ends) [] w = absurd w
  worked_later j j' first puts k (s ∷ before) (t ∷ after) (e ∷ ends) (f ∷ feeds) w = (
    record { bytes = w.0.bytes; put = w.0.put; given = w.0.given; cmds_are = w.0.cmds_are; puts = puts k (map (prepared reading) w.0.put) w.0.puts; over = w.0.over },
    worked_later j j' first puts (suc k) before after ends feeds w.1,
  )

-- ---- how they ended

goes_not : (course : Course) → course ≡ Course.Goes → (course ≡ Course.Ends) ⊎ ((course ≡ Course.Fails) ⊎ (course ≡ Course.Exceeds)) → ⊥
goes_not course e (inl h) = let bad : ◌≡◌ {A = Course} Course.Ends Course.Goes = sym h ∙ e in cc
goes_not course e (inr (inl h)) = let bad : ◌≡◌ {A = Course} Course.Fails Course.Goes = sym h ∙ e in cc
goes_not course e (inr (inr h)) = let bad : ◌≡◌ {A = Course} Course.Exceeds Course.Goes = sym h ∙ e in cc

through_of : (end : WorkerEnd) (feed : Feed) → IsOver end feed → IsThrough feed
through_of WorkerEnd.Ended feed h = record { all = h.1; over = λ e. goes_not feed.course e (inl h.0) }
through_of WorkerEnd.Lost feed h = record { all = h.1; over = λ e. goes_not feed.course e (inr (inl h.0)) }
through_of WorkerEnd.TooLong feed h = record { all = h.1; over = λ e. goes_not feed.course e (inr (inr h.0)) }
through_of WorkerEnd.Stopped feed h = absurd h
through_of WorkerEnd.Memory feed h = absurd h

module _ (reading : Text → Option Config) (j : Journal) (first : Option BusFault) (free : first ≡ None) where
  pub all_through : (k : ℕ) (before after : List SourceState) (ends : List (Option WorkerEnd)) (feeds : List Feed) → AreWorked reading j first k before after ends feeds → Each IsThrough feeds
  all_through k [] [] [] [] w = tt
  all_through k [] [] [] (f ∷ feeds) w = absurd w
  all_through k [] [] (e ∷ ends) feeds w = absurd w
  all_through k [] (t ∷ after) ends feeds w = absurd w
  all_through k (s ∷ before) [] ends feeds w = absurd w
  all_through k (s ∷ before) (t ∷ after) [] feeds w = absurd w
  all_through k (s ∷ before) (t ∷ after) (e ∷ ends) [] w = absurd w
  all_through k (s ∷ before) (t ∷ after) (e ∷ ends) (f ∷ feeds) w =
      let o = w.0.over free in (through_of o.0 f o.2, all_through (suc k) before after ends feeds w.1)

  -- the status by the ends of the workers: all came to their ends, or this is the first that did not
  pub told_cases : (P : Status → Type 0) (k : ℕ) (before after : List SourceState) (ends : List (Option WorkerEnd)) (feeds : List Feed) → AreWorked reading j first k before after ends feeds
      → (Each IsEnded feeds → P Status.Ok) → ((i : ℕ) → IsFirst Course.Fails i feeds → P (Status.ReadFault (Some (k + i))))
      → ((i : ℕ) → IsFirst Course.Exceeds i feeds → P (Status.SourceTooLong (k + i))) → P (told_by k ends)
  told_cases P k [] [] [] [] w ok lost long = ok tt
  told_cases P k [] [] [] (f ∷ feeds) w ok lost long = absurd w
  told_cases P k [] [] (e ∷ ends) feeds w ok lost long = absurd w
  told_cases P k [] (t ∷ after) ends feeds w ok lost long = absurd w
  told_cases P k (s ∷ before) [] ends feeds w ok lost long = absurd w
  told_cases P k (s ∷ before) (t ∷ after) [] feeds w ok lost long = absurd w
  told_cases P k (s ∷ before) (t ∷ after) (e ∷ ends) [] w ok lost long = absurd w
  told_cases P k (s ∷ before) (t ∷ after) (e ∷ ends) (f ∷ feeds) w ok lost long =
      let o = w.0.over free in
      let Q : Option WorkerEnd → Type 0 = λ z. P (told_by k (z ∷ ends)) in
      subst Q (sym o.1)
      (by o.0 o.2
      (λ ended. told_cases P (suc k) before after ends feeds w.1 (λ each. ok (ended, each))
      (λ i h. let e : k + suc i ≡ suc k + i = omega arith in let R : ℕ → Type 0 = λ z. P (Status.ReadFault (Some z)) in subst R e (lost (suc i) (ended, h)))
      (λ i h. let e : k + suc i ≡ suc k + i = omega arith in let R : ℕ → Type 0 = λ z. P (Status.SourceTooLong z) in subst R e (long (suc i) (ended, h)))))
    where
      by : (x : WorkerEnd) → IsOver x f → (IsEnded f → P (told_by (suc k) ends)) → P (told_by k (Some x ∷ ends))
      by WorkerEnd.Ended h next = next h.0
      by WorkerEnd.Lost h next = let e : k + 0 ≡ k = omega arith in let R : ℕ → Type 0 = λ z. P (Status.ReadFault (Some z)) in subst R e (lost 0 h.0)
      by WorkerEnd.TooLong h next = let e : k + 0 ≡ k = omega arith in let R : ℕ → Type 0 = λ z. P (Status.SourceTooLong z) in subst R e (long 0 h.0)
      by WorkerEnd.Stopped h next = absurd h
      by WorkerEnd.Memory h next = absurd h
