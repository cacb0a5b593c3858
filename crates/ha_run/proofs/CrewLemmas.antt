-- Lists of workers: how they are hired, what their work makes of them, and how their passes are taken in.
use Rattle.std.proofs.Common.{◌≡◌, ◌∙◌, ◌<◌, ◌≤◌, ◌+◌, ℕ, zero, suc, true, List, [], ◌∷◌, ◌++◌, length, map, None, ap, append_assoc, arith, length-append, refl, sym, subst, slice_index_or}
use Rattle.std.proofs.lemmas.List.{append-nil, length-map}
use Rattle.std.proofs.lemmas.List.Elements.{All-push}
use Rattle.std.specs.Prelude.{All, Option}
use Rattle.ha_config.specs.declared.config.Config.{Config}
use Rattle.ha_config.specs.Words.{Text}
use Rattle.bus_pass.specs.declared.hand.Hand.{Hand}
use Rattle.bus_pass.specs.declared.hand.Origin.{Origin}
use Rattle.bus_pass.specs.Rule.{both, parent}
use Rattle.ha_worker.specs.Courses.{SourceState}
use Rattle.ha_worker.specs.Views.{IsFresh}
use Rattle.ha_worker.specs.Worked.{Worked}
use Rattle.ha_run.specs.Team.{AreDone, AreReady, IsAble, IsLater, IsLead, IsReady, Seat, Works, joined}

map_more : {X Y : Type 0} (f : X → Y) (xs : List X) (x : X) → map f (xs ++ (x ∷ [])) ≡ map f xs ++ (f x ∷ [])
map_more f [] x = refl
map_more f (y ∷ xs) x = ap (λ (z : List _). f y ∷ z) (map_more f xs x)

pub map_twice : {X Y Z : Type 0} (g : Y → Z) (f : X → Y) (xs : List X) → map g (map f xs) ≡ map (λ x. g (f x)) xs
map_twice g f [] = refl
map_twice g f (x ∷ xs) = ap (λ (z : List _). g (f x) ∷ z) (map_twice g f xs)

all_cons : {W : Type 0} (P : W → Type 0) (w : W) (ws : List W) → P w → All P ws → All P (w ∷ ws)
all_cons P w ws here behind zero d below = here
all_cons P w ws here behind (suc i) d below = behind i d (omega (arith, below))

ready_more : (k : ℕ) (taken : List SourceState) (seats : List Seat) (s : SourceState) (x : Seat) → AreReady k taken seats → IsReady (k + length seats) s x → AreReady k (taken ++ (s ∷ [])) (seats ++ (x ∷ []))
ready_more k [] [] s x h r = (let e : k + 0 ≡ k = omega arith in let P : ℕ → Type 0 = λ z. IsReady z s x in subst P e r, tt)
ready_more k [] (y ∷ seats) s x h r = absurd h
ready_more k (t ∷ taken) [] s x h r = absurd h
ready_more k (t ∷ taken) (y ∷ seats) s x h r =
    (h.0, ready_more (suc k) taken seats s x h.1 (let e : k + length (y ∷ seats) ≡ suc k + length seats = omega arith in let P : ℕ → Type 0 = λ z. IsReady z s x in subst P e r))

ready_length : (k : ℕ) (taken : List SourceState) (seats : List Seat) → AreReady k taken seats → length seats ≡ length taken
ready_length k [] [] h = refl
ready_length k [] (y ∷ seats) h = absurd h
ready_length k (t ∷ taken) [] h = absurd h
ready_length k (t ∷ taken) (y ∷ seats) h = let e = ready_length (suc k) taken seats h.1 in omega (arith, e)

done_length : (reading : Text → Option Config) (k : ℕ) (before : List SourceState) (seats : List Seat) → AreDone reading k before seats → length seats ≡ length before
done_length reading k [] [] h = refl
done_length reading k [] (y ∷ seats) h = absurd h
done_length reading k (t ∷ before) [] h = absurd h
done_length reading k (t ∷ before) (y ∷ seats) h = let e = done_length reading (suc k) before seats h.1 in omega (arith, e)

-- ---- hiring

module _ {W : Type 0} (seat : W → Seat) (OnTurn : W → Type 0) where
  -- workers were hired for the first sources, and these are left
  pub record Hiring (all : List SourceState) (start v : Hand) (rest : List SourceState) (workers : List W) : Type 0 where
    pub taken : List SourceState
    pub all_are : all ≡ taken ++ rest
    pub ready : AreReady 0 taken (map seat workers)
    pub passes : All OnTurn workers
    pub lead : (o : Origin) → IsLead 0 o start → IsLead (length workers) o v
    pub first : v.first ≡ true
    pub made : v.made ≡ length workers

  pub hired_none : (all : List SourceState) (v : Hand) (workers : List W) → workers ≡ [] → v.first ≡ true → v.made ≡ 0 → Hiring all v v all workers
  hired_none all v workers none first made =
      let P : List W → Type 0 = λ z. Hiring all v v all z in
      subst P (sym none) (record {
        taken = [];
        all_are = refl;
        ready = tt;
        passes = λ k d h. absurd (omega (arith, h));
        lead = λ o h. h;
        first = first;
        made = made;
      })

  pub hired_one : (all : List SourceState) (start v v' : Hand) (rest rest' : List SourceState) (s : SourceState) (workers workers' : List W) (w : W) → Hiring all start v rest workers → rest ≡ s ∷ rest'
      → OnTurn w → IsReady (length workers) s (seat w) → v' ≡ parent v → workers' ≡ workers ++ (w ∷ []) → Hiring all start v' rest' workers'
  hired_one all start v v' rest rest' s workers workers' w h e on ready is more =
      let P : List W → Type 0 = λ z. Hiring all start v' rest' z in
      let Q : Hand → Type 0 = λ z. Hiring all start z rest' (workers ++ (w ∷ [])) in
      let n : length workers + 1 ≡ length (workers ++ (w ∷ [])) = sym (length-append workers (w ∷ [])) in
      subst P (sym more) (subst Q (sym is) (record {
        taken = h.taken ++ (s ∷ []);
        all_are = h.all_are ∙ ap (λ (z : List SourceState). h.taken ++ z) e ∙ sym (append_assoc h.taken (s ∷ []) rest');
        ready = (let R : List Seat → Type 0 = λ z. AreReady 0 (h.taken ++ (s ∷ [])) z in
            subst R (sym (map_more seat workers w))
            (ready_more 0 h.taken (map seat workers) s (seat w) h.ready
            (let f : length workers ≡ 0 + length (map seat workers) = omega (arith, length-map workers seat) in let S : ℕ → Type 0 = λ z. IsReady z s (seat w) in subst S f ready)));
        passes = All-push OnTurn workers w h.passes on;
        lead = λ o l.
            let old = h.lead o l in
            record { first = old.first; made = ap (λ (z : ℕ). z + 1) h.made ∙ n; alone = old.alone; idle = old.idle; unnoted = old.unnoted; undue = old.undue; origin_is = old.origin_is };
        first = h.first;
        made = ap (λ (z : ℕ). z + 1) h.made ∙ n;
      }))

  pub hired_all : (all : List SourceState) (start v : Hand) (rest : List SourceState) (workers : List W) → Hiring all start v rest workers → rest ≡ []
      → AreReady 0 all (map seat workers) × ((o : Origin) → IsLead 0 o start → IsLead (length all) o v)
  hired_all all start v rest workers h none =
      let e : all ≡ h.taken = h.all_are ∙ ap (λ (z : List SourceState). h.taken ++ z) none ∙ append-nil h.taken in
      let n : length workers ≡ length all = sym (length-map workers seat) ∙ ready_length 0 h.taken (map seat workers) h.ready ∙ ap length (sym e) in (
        (let P : List SourceState → Type 0 = λ z. AreReady 0 z (map seat workers) in subst P (sym e) h.ready),
        (λ o l. let Q : ℕ → Type 0 = λ z. IsLead z o v in subst Q n (h.lead o l)),
      )

  -- ---- work

  pub able_of : (k : ℕ) (before : List SourceState) (workers : List W) → AreReady k before (map seat workers) → k + length workers ≤ 16 → All (λ w. IsAble (seat w)) workers
  able_of k before [] h few = λ i d below. absurd (omega (arith, below))
  able_of k [] (w ∷ workers) h few = absurd h
  able_of k (s ∷ before) (w ∷ workers) h few =
      all_cons (λ x. IsAble (seat x)) w workers
      (record {
        known = omega (arith, h.0.id, few);
        fresh = subst (λ z. IsFresh z (seat w).hand) (sym h.0.id) h.0.fresh;
        next = h.0.next;
        end = h.0.end;
      })
      (able_of (suc k) before workers h.1 (omega (arith, few)))

  pub ready_count : (before : List SourceState) (workers : List W) → AreReady 0 before (map seat workers) → length workers ≡ length before
  ready_count before workers h = sym (length-map workers seat) ∙ ready_length 0 before (map seat workers) h

module _ {W : Type 0} (reading : Text → Option Config) (seat : W → Seat) where
  pub done_of : (k : ℕ) (before : List SourceState) (old new : List W) → length new ≡ length old → AreReady k before (map seat old)
      → ((i : ℕ) (d : W) → i < length old → Works reading (seat (slice_index_or old i d)) (seat (slice_index_or new i d))) → AreDone reading k before (map seat new)
  done_of k [] [] [] n h each = tt
  done_of k [] [] (y ∷ new) n h each = absurd (omega (arith, n))
  done_of k [] (x ∷ old) new n h each = absurd h
  done_of k (s ∷ before) [] new n h each = absurd h
  done_of k (s ∷ before) (x ∷ old) [] n h each = absurd (omega (arith, n))
  done_of k (s ∷ before) (x ∷ old) (y ∷ new) n h each =
      let w : Works reading (seat x) (seat y) = each 0 x (omega arith) in (
        record {
          end = w.end;
          end_is = w.end_is;
          worked = subst (λ z. Worked reading k w.end (seat y).hand z (seat y).source) h.0.source_is (subst (λ z. Worked reading z w.end (seat y).hand (seat x).source (seat y).source) h.0.id w.worked);
        },
        done_of (suc k) before old new (omega (arith, n)) h.1 (λ i d below. each (suc i) d (omega (arith, below))),
      )

  pub later_of : (k : ℕ) (before : List SourceState) (workers : List W) → AreDone reading k before (map seat workers) → All (λ w. IsLater (seat w).hand) workers
  later_of k before [] h = λ i d below. absurd (omega (arith, below))
  later_of k [] (w ∷ workers) h = absurd h
  later_of k (s ∷ before) (w ∷ workers) h =
      all_cons (λ x. IsLater (seat x).hand) w workers (record { later = h.0.worked.one.one.later; idle = h.0.worked.one.idle }) (later_of (suc k) before workers h.1)

  pub done_count : (before : List SourceState) (workers : List W) → AreDone reading 0 before (map seat workers) → length workers ≡ length before
  done_count before workers h = sym (length-map workers seat) ∙ done_length reading 0 before (map seat workers) h

-- ---- taking in

all_first : {W : Type 0} (P : W → Type 0) (w : W) (ws : List W) → All P (w ∷ ws) → P w
all_first P w ws h = h 0 w (omega arith)

all_behind : {W : Type 0} (P : W → Type 0) (w : W) (ws : List W) → All P (w ∷ ws) → All P ws
all_behind P w ws h = λ i d below. h (suc i) d (omega (arith, below))

module _ {W S : Type 0} (seat : W → Seat) (source : W → S) (OnTurn : W → Type 0) where
  -- some workers' passes were taken in, and these are left
  pub record Gathering (all : List W) (start v : Hand) (rest : List W) (sources : List S) : Type 0 where
    pub joined_is : joined v (map seat rest) ≡ joined start (map seat all)
    pub sources_are : sources ++ map source rest ≡ map source all
    pub passes : All OnTurn rest
    pub later : All (λ w. IsLater (seat w).hand) rest
    pub idle : v.taken ≡ None

  pub gathered_none : (all : List W) (v : Hand) (sources : List S) → sources ≡ [] → All OnTurn all → All (λ w. IsLater (seat w).hand) all → v.taken ≡ None → Gathering all v v all sources
  gathered_none all v sources none passes later idle = record {
    joined_is = refl;
    sources_are = ap (λ (z : List S). z ++ map source all) none;
    passes = passes;
    later = later;
    idle = idle;
  }

  pub next_on : (all : List W) (start v : Hand) (rest rest' : List W) (w : W) (sources : List S) → Gathering all start v rest sources → rest ≡ w ∷ rest' → OnTurn w × IsLater (seat w).hand
  next_on all start v rest rest' w sources g e = (
    all_first OnTurn w rest' (let P : List W → Type 0 = λ z. All OnTurn z in subst P e g.passes),
    all_first (λ x. IsLater (seat x).hand) w rest' (let P : List W → Type 0 = λ z. All (λ x. IsLater (seat x).hand) z in subst P e g.later),
  )

  pub gathered_one : (all : List W) (start v v' : Hand) (rest rest' : List W) (w : W) (sources sources' : List S) → Gathering all start v rest sources → rest ≡ w ∷ rest' → v' ≡ both v (seat w).hand
      → sources' ≡ sources ++ (source w ∷ []) → Gathering all start v' rest' sources'
  gathered_one all start v v' rest rest' w sources sources' g e is more = record {
    joined_is = ap (λ z. joined z (map seat rest')) is ∙ sym (ap (λ (z : List W). joined v (map seat z)) e) ∙ g.joined_is;
    sources_are = ap (λ (z : List S). z ++ map source rest') more ∙ append_assoc sources (source w ∷ []) (map source rest') ∙ sym (ap (λ (z : List W). sources ++ map source z) e) ∙ g.sources_are;
    passes = all_behind OnTurn w rest' (let P : List W → Type 0 = λ z. All OnTurn z in subst P e g.passes);
    later = all_behind (λ x. IsLater (seat x).hand) w rest' (let P : List W → Type 0 = λ z. All (λ x. IsLater (seat x).hand) z in subst P e g.later);
    idle = ap (λ (z : Hand). z.taken) is ∙ g.idle;
  }

  pub gathered_all : (all : List W) (start v : Hand) (rest : List W) (sources : List S) → Gathering all start v rest sources → rest ≡ [] → (v ≡ joined start (map seat all)) × (sources ≡ map source all)
  gathered_all all start v rest sources g none = (
    sym (ap (λ (z : List W). joined v (map seat z)) none) ∙ g.joined_is,
    sym (append-nil sources) ∙ sym (ap (λ (z : List W). sources ++ map source z) none) ∙ g.sources_are,
  )

-- ---- a call on one of them

pub moved : {W : Type 0} (R : W → W → Type 0) (a b x y : W) → a ≡ x → b ≡ y → R a b → R x y
moved R a b x y e f r = subst (λ z. R z y) e (subst (λ z. R a z) f r)

pub renumbered : (k n : ℕ) (s : SourceState) (x : Seat) → IsReady k s x → k ≡ n → IsReady n s x
renumbered k n s x r e = let P : ℕ → Type 0 = λ z. IsReady z s x in subst P e r

pub led : {m n : ℕ} {o : Origin} {v : Hand} → m ≡ n → IsLead m o v → IsLead n o v
led {m} {n} {o} {v} e h = let P : ℕ → Type 0 = λ z. IsLead z o v in subst P e h
