-- Whether runs that were admitted change when an automation in force last triggered.
use Rattle.std.proofs.Common.{◌≡◌, ℕ, zero, suc, ◌+◌, ◌-◌, ◌<◌, ◌≤◌, List, [], ◌∷◌, length, map, drop, Bool, true, false, refl, sym, ap, subst, ◌∙◌, rules, arith, Option}
use Rattle.std.specs.Prelude.{nat_eq, nat_le, not, slice_get, slice_set, slice_index_or, Some, None, is_some, option_map, filter_map, ◌&&◌, ◌||◌, if◌then◌else◌}
use Rattle.std.specs.List.{cons_option, list_any}
use Rattle.std.specs.Option.{option_map_or}
use Rattle.ha_clock.specs.Local.{last_moment}
use Rattle.ha_config.specs.declared.config.Automation.{Automation}
use Rattle.ha_config.specs.Names.{automation_named, name_of, names_of}
use Rattle.ha_config.specs.ValueFacts.{all_distinct}
use Rattle.ha_config.specs.Words.{Text, or_else, same}
use Rattle.ha_config.proofs.AutomationLemmas.{any-named}
use Rattle.ha_config.proofs.EqualLemmas.{and_left, and_right, same-refl, same-sound}
use Rattle.ha_config.proofs.ListLemmas.{none-some, some-same, true-false}
use Rattle.ha_journal.specs.Journal.{Journal, automations, in_force}
use Rattle.ha_journal.proofs.ForceLaws.{in-force-are}
use Rattle.ha_model.specs.declared.record.Record.{Record}
use Rattle.ha_model.specs.Records.{Records}
use Rattle.ha_model.proofs.KnownLaws.{AllKnown}
use Rattle.ha_whole.specs.Lasts.{last_triggered, lasts}
use Rattle.ha_whole.specs.Named.{in_name_order, named}
use Rattle.ha_whole.specs.Whole.{same_pairs_by}
use Rattle.whole_laws.proofs.StoreLemmas.{pairs-same, same-number}
use Rattle.segment_carry.proofs.MomentLemmas.{found-moments}
use Rattle.named_runs.specs.Named.{first_in}
use Rattle.unit_book.specs.Book.{firsts_of}
use Rattle.unit_book.proofs.FirstLemmas.{first-named, first-within, text_at}
use Rattle.ha_engine.specs.Noted.{are_in_time, moved_by, moved_if, moves_at, noted, noted_if, same_moment}
use Rattle.ha_engine.proofs.LastsLemmas.{AreBy, last_by, named_so, put_at, set-by, with-one, with_runs}

equal-self : (a : ℕ) → nat_eq a a ≡ true
equal-self a = search rules

pub moment-self : (o : Option ℕ) → same_moment o o ≡ true
moment-self None = refl
moment-self (Some n) = equal-self n

pub moment-same : (o p : Option ℕ) → same_moment o p ≡ true → o ≡ p
moment-same None None e = refl
moment-same None (Some y) e = absurd (true-false (sym e))
moment-same (Some x) None e = absurd (true-false (sym e))
moment-same (Some x) (Some y) e = ap Some (same-number x y e)

-- ---- runs that were admitted

-- whoever has a run among them has that moment
with-own : (at : ℕ) (names : List Text) (r : Record) (rs : Records) (v : Text → Option ℕ) → with_runs at names (r ∷ rs) v (text_at names r.automation) ≡ Some at
with-own at names r rs v =
    let name : Text = text_at names r.automation in
    sym (with-one at names r rs v name)
    ∙ (λ i. or_else (option_map (λ (s : Record). at) (last_by (named_so names name) rs)) (if same-refl name i then Some at else v name))
    ∙ by (last_by (named_so names name) rs)
  where
    by : (o : Option Record) → or_else (option_map (λ (s : Record). at) o) (Some at) ≡ Some at
    by None = refl
    by (Some s) = refl

listed-at : (L : Text → Bool) (names : List Text) (a : ℕ) → a < length names → slice_index_or (map L names) a false ≡ L (text_at names a)
listed-at L [] a lt = absurd (omega (arith, lt))
listed-at L (x ∷ xs) zero lt = refl
listed-at L (x ∷ xs) (suc a) lt = listed-at L xs a (omega (arith, lt))

module _ (at : ℕ) (names : List Text) (L : Text → Bool) where
  abbrev fs : List ℕ
  fs = firsts_of names

  abbrev listed : List Bool
  listed = map L names

  -- whether the run's name is listed, and last triggered at another moment
  here-is : (q : ℕ) (ls : List (Option ℕ)) (v : Text → Option ℕ) → q < length names → AreBy names ls v
      → moves_at at listed (first_in fs q) ls ≡ (L (text_at names q) && not (same_moment (v (text_at names q)) (Some at)))
  here-is q ls v lq h =
      (λ i. listed-at L names (first_in fs q) (first-within names q lq) i && option_map_or (λ last. not (same_moment last (Some at))) (h.each q lq i) false)
      ∙ (λ i. L (first-named names q lq i) && not (same_moment (v (text_at names q)) (Some at)))

  -- where it is not, what is listed stays
  put-same : (q : ℕ) (v : Text → Option ℕ) → (L (text_at names q) && not (same_moment (v (text_at names q)) (Some at))) ≡ false → (name : Text) → L name ≡ true → put_at (text_at names q) (Some at) v name ≡ v name
  put-same q v is_none name is_so = by (same (text_at names q) name) refl
    where
      by : (b : Bool) → same (text_at names q) name ≡ b → (if b then Some at else v name) ≡ v name
      by false e = refl
      by true e =
          let is : text_at names q ≡ name = same-sound (text_at names q) name e in
          let apart : not (same_moment (v name) (Some at)) ≡ false = (λ i. sym is_so i && not (same_moment (v name) (Some at))) ∙ (λ i. L (sym is i) && not (same_moment (v (sym is i)) (Some at))) ∙ is_none in
          sym (moment-same (v name) (Some at) (un (same_moment (v name) (Some at)) apart))
        where
          un : (b : Bool) → not b ≡ false → b ≡ true
          un true e = refl
          un false e = absurd (true-false e)

  -- LAW: where they change none, all that is listed stays
  pub stays-none : (rs : Records) (ls : List (Option ℕ)) (v : Text → Option ℕ) → AllKnown (length names) rs → AreBy names ls v → moved_by at fs listed rs ls ≡ false → (name : Text) → L name ≡ true → with_runs at names rs v name ≡ v name
  stays-none [] ls v known h is_none name is_so = refl
  stays-none (r ∷ rs) ls v known h is_none name is_so =
      let q : ℕ = r.automation in
      let one : moves_at at listed (first_in fs q) ls ≡ false = or-left (moves_at at listed (first_in fs q) ls) (moved_by at fs listed rs (slice_set ls (first_in fs q) (Some at))) is_none in
      let rest : moved_by at fs listed rs (slice_set ls (first_in fs q) (Some at)) ≡ false = or-right (moves_at at listed (first_in fs q) ls) (moved_by at fs listed rs (slice_set ls (first_in fs q) (Some at))) is_none in
      sym (with-one at names r rs v name)
      ∙ stays-none rs (slice_set ls (first_in fs q) (Some at)) (put_at (text_at names q) (Some at) v) known.1 (set-by names ls v q (Some at) known.0 h) rest name is_so
      ∙ put-same q v (sym (here-is q ls v known.0 h) ∙ one) name is_so
    where
      or-left : (a b : Bool) → (a || b) ≡ false → a ≡ false
      or-left true b e = e
      or-left false b e = refl

      or-right : (a b : Bool) → (a || b) ≡ false → b ≡ false
      or-right true b e = absurd (true-false e)
      or-right false b e = e

  -- LAW: where they change one, some name that is listed has another moment with them
  pub moves-one : (rs : Records) (ls : List (Option ℕ)) (v : Text → Option ℕ) → AllKnown (length names) rs → AreBy names ls v → moved_by at fs listed rs ls ≡ true
      → (name : Text) × (L name ≡ true) × (with_runs at names rs v name ≡ v name → ⊥)
  moves-one [] ls v known h is_so = absurd (true-false (sym is_so))
  moves-one (r ∷ rs) ls v known h is_so =
      by (moves_at at listed (first_in fs r.automation) ls) refl is_so
      (λ more. moves-one rs (slice_set ls (first_in fs r.automation) (Some at)) (put_at (text_at names r.automation) (Some at) v) known.1 (set-by names ls v r.automation (Some at) known.0 h) more)
    where
      q : ℕ
      q = r.automation

      by : (b : Bool) → moves_at at listed (first_in fs q) ls ≡ b → (b || moved_by at fs listed rs (slice_set ls (first_in fs q) (Some at))) ≡ true
          → (moved_by at fs listed rs (slice_set ls (first_in fs q) (Some at)) ≡ true
          → (name : Text) × (L name ≡ true) × (with_runs at names rs (put_at (text_at names q) (Some at) v) name ≡ put_at (text_at names q) (Some at) v name → ⊥))
          → (name : Text) × (L name ≡ true) × (with_runs at names (r ∷ rs) v name ≡ v name → ⊥)
      by true e is_so later =
          let both : (L (text_at names q) && not (same_moment (v (text_at names q)) (Some at))) ≡ true = sym (here-is q ls v known.0 h) ∙ e in (
            text_at names q,
            and_left (L (text_at names q)) (not (same_moment (v (text_at names q)) (Some at))) both,
            λ same-there. true-false (sym (and_right (L (text_at names q)) (not (same_moment (v (text_at names q)) (Some at))) both)
                ∙ (λ i. not (same_moment ((sym same-there ∙ with-own at names r rs v) i) (Some at))) ∙ ap not (moment-self (Some at))),
          )
      by false e is_so later =
          let got = later is_so in
          (got.0, got.1, λ same-there. got.2 (with-one at names r rs v got.0 ∙ same-there ∙ sym (put-same q v (sym (here-is q ls v known.0 h) ∙ e) got.0 got.1)))

-- ---- what the store keeps of them

filter-alike : {X Y : Type 0} (g h : X → Option Y) (ps : List X) → ((i : ℕ) (x : X) → slice_get ps i ≡ Some x → g x ≡ h x) → filter_map g ps ≡ filter_map h ps
filter-alike g h [] alike = refl
filter-alike g h (p ∷ ps) alike = (λ i. cons_option (alike 0 p refl i) (filter-alike g h ps (λ k x e. alike (suc k) x e) i))

any-at : (all : List Automation) (i : ℕ) (x : Automation) → slice_get all i ≡ Some x → list_any (λ a. same a.name x.name) all ≡ true
any-at [] i x e = absurd (none-some x e)
any-at (y ∷ ys) zero x e = (λ i. same (some-same y x e i).name x.name || list_any (λ a. same a.name x.name) ys) ∙ (λ i. same-refl x.name i || list_any (λ a. same a.name x.name) ys)
any-at (y ∷ ys) (suc i) x e = by (same y.name x.name) (any-at ys i x e)
  where
    by : (b : Bool) → list_any (λ a. same a.name x.name) ys ≡ true → (b || list_any (λ a. same a.name x.name) ys) ≡ true
    by true h = refl
    by false h = h

pub any-there : (all : List Automation) (name : Text) → list_any (λ a. same a.name name) all ≡ true → (i : ℕ) × (i < length all) × (name_of all i ≡ name)
any-there [] name e = absurd (true-false (sym e))
any-there (y ∷ ys) name e = by (same y.name name) refl e (λ h. any-there ys name h)
  where
    by : (b : Bool) → same y.name name ≡ b → (b || list_any (λ a. same a.name name) ys) ≡ true → (list_any (λ a. same a.name name) ys ≡ true → (i : ℕ) × (i < length ys) × (name_of ys i ≡ name))
        → (i : ℕ) × (i < suc (length ys)) × (name_of (y ∷ ys) i ≡ name)
    by true e h later = (0, omega arith, same-sound y.name name e)
    by false e h later = let got = later h in (suc got.0, omega (arith, got.1), got.2)

pub got-mapped : {X Y : Type 0} (f : X → Y) (xs : List X) (i : ℕ) (x : X) → slice_get xs i ≡ Some x → slice_get (map f xs) i ≡ Some (f x)
got-mapped f [] i x e = absurd (none-some x e)
got-mapped f (y ∷ ys) zero x e = ap Some (ap f (some-same y x e))
got-mapped f (y ∷ ys) (suc i) x e = got-mapped f ys i x e

pairs-self : {X : Type 0} (alike : X → X → Bool) → ((a : X) → alike a a ≡ true) → (ps : List (Text × X)) → same_pairs_by alike ps ps ≡ true
pairs-self alike own [] = refl
pairs-self alike own (p ∷ ps) = (λ i. same-refl p.0 i && own p.1 i && pairs-self alike own ps i)

filter-mapped : {X Y Z : Type 0} (f : X → Y) (g : Y → Option Z) (ps : List X) → filter_map (λ p. g (f p)) ps ≡ filter_map g (map f ps)
filter-mapped f g [] = refl
filter-mapped f g (p ∷ ps) = (λ i. cons_option (g (f p)) (filter-mapped f g ps i))

-- the moments of automations by their names
abbrev pub lasts_by_name : (Text → Option ℕ) → List Automation → List (Text × ℕ)
lasts_by_name v all = filter_map {X = Automation} {Y = Text × ℕ} (λ x. option_map {T = ℕ} {U = Text × ℕ} (λ m. (x.name, m)) (v x.name)) all

pub lasts-named : (s : Journal) → lasts s ≡ lasts_by_name (last_triggered s) (automations s)
lasts-named s =
    filter-mapped {X = ℕ × Automation} {Y = Automation} {Z = Text × ℕ} (λ p. p.1) (λ x. option_map (λ m. (x.name, m)) (last_triggered s x.name)) (in_force s)
    ∙ (λ i. lasts_by_name (last_triggered s) (in-force-are s i))

-- whether an automation has this name
abbrev pub is_listed : List Automation → Text → Bool
is_listed all name = is_some (automation_named all name)

module _ (at : ℕ) (s k : Journal) (names : List Text) (rs : Records) (ls : List (Option ℕ)) (v : Text → Option ℕ) (automations-same : automations s ≡ automations k) (distinct : all_distinct (names_of (automations s)) ≡ true)
    (known : AllKnown (length names) rs) (by-names : AreBy names ls v) (before : (name : Text) → is_listed (automations s) name ≡ true → v name ≡ last_triggered s name)
    (later : (name : Text) → last_triggered k name ≡ with_runs at names rs v name) where
  abbrev all : List Automation
  all = automations s

  abbrev alike : Bool
  alike = same_pairs_by nat_eq (in_name_order (lasts s)) (in_name_order (lasts k))

  lasts-same : ((name : Text) → is_listed all name ≡ true → with_runs at names rs v name ≡ v name) → lasts s ≡ lasts k
  lasts-same stays =
      lasts-named s
      ∙ filter-alike {X = Automation} {Y = Text × ℕ} (λ x. option_map {T = ℕ} {U = Text × ℕ} (λ m. (x.name, m)) (last_triggered s x.name)) (λ x. option_map {T = ℕ} {U = Text × ℕ} (λ m. (x.name, m)) (last_triggered k x.name)) all
      (λ i x e. ap (option_map {T = ℕ} {U = Text × ℕ} (λ m. (x.name, m))) (one i x e))
      ∙ (λ i. lasts_by_name (last_triggered k) (automations-same i))
      ∙ sym (lasts-named k)
    where
      one : (i : ℕ) (x : Automation) → slice_get all i ≡ Some x → last_triggered s x.name ≡ last_triggered k x.name
      one i x e =
          (let listed : is_listed all x.name ≡ true = sym (any-named all x.name) ∙ any-at all i x e in
          sym (before x.name listed) ∙ sym (stays x.name listed) ∙ sym (later x.name))

  same-there : alike ≡ true → (name : Text) → is_listed all name ≡ true → with_runs at names rs v name ≡ v name
  same-there e name is_so =
      let got = any-there all name (any-named all name ∙ is_so) in
      let lists : in_name_order (lasts s) ≡ in_name_order (lasts k) = pairs-same nat_eq same-number (in_name_order (lasts s)) (in_name_order (lasts k)) e in
      let one : named name (in_name_order (lasts s)) ≡ last_triggered s name = (λ i. named (sym got.2 i) (in_name_order (lasts s))) ∙ found-moments s distinct got.0 got.1 ∙ (λ i. last_triggered s (got.2 i)) in
      let there : name_of (automations k) got.0 ≡ name = (λ i. name_of (sym automations-same i) got.0) ∙ got.2 in
      let two : named name (in_name_order (lasts k)) ≡ last_triggered k name
      = (λ i. named (sym there i) (in_name_order (lasts k))) ∙ found-moments k apart got.0 (subst (λ us. got.0 < length us) automations-same got.1) ∙ (λ i. last_triggered k (there i)) in
      sym (later name) ∙ sym two ∙ (λ i. named name (sym lists i)) ∙ one ∙ sym (before name is_so)
    where
      apart : all_distinct (names_of (automations k)) ≡ true
      apart = (λ i. all_distinct (names_of (sym automations-same i))) ∙ distinct

  -- LAW: they change the moment of an automation in force exactly where it is told
  pub moved-told : not alike ≡ moved_by at (firsts_of names) (map (is_listed all) names) rs ls
  moved-told = by alike (moved_by at (firsts_of names) (map (is_listed all) names) rs ls) refl refl
    where
      by : (a b : Bool) → alike ≡ a → moved_by at (firsts_of names) (map (is_listed all) names) rs ls ≡ b → not a ≡ b
      by true false e h = refl
      by false true e h = refl
      by true true e h = let got = moves-one at names (is_listed all) rs ls v known by-names h in absurd (got.2 (same-there e got.0 got.1))
      by false false e h =
          let is : lasts s ≡ lasts k = lasts-same (stays-none at names (is_listed all) rs ls v known by-names h) in
          absurd (true-false (sym (pairs-self nat_eq equal-self (in_name_order (lasts s))) ∙ (λ i. same_pairs_by nat_eq (in_name_order (lasts s)) (in_name_order (is i))) ∙ e))

-- ---- one run more

abbrev whose : List ℕ → Record → ℕ
whose firsts r = first_in firsts r.automation

here : (at p : ℕ) (firsts : List ℕ) (listed : List Bool) (rs : Records) (ls : List (Option ℕ)) → p < length rs
    → moved_by at firsts listed (drop p rs) ls
    ≡ (moved_if at listed (option_map (whose firsts) (slice_get rs p)) ls || moved_by at firsts listed (drop (suc p) rs) (noted_if at (option_map (whose firsts) (slice_get rs p)) ls))
here at p firsts listed [] ls lt = absurd (omega (arith, lt))
here at zero firsts listed (r ∷ rs) ls lt = refl
here at (suc p) firsts listed (r ∷ rs) ls lt = here at p firsts listed rs ls (omega (arith, lt))

or-joins : (a b c : Bool) → ((a || b) || c) ≡ (a || (b || c))
or-joins true b c = refl
or-joins false b c = refl

-- LAW: what was told so far and what the runs behind the place tell, where the one at the place is told first
pub moved-step : (at p : ℕ) (firsts : List ℕ) (listed : List Bool) (rs : Records) (ls ls' : List (Option ℕ)) (a : Option ℕ) (before now' all : Bool) → p < length rs
    → a ≡ option_map (λ (r : Record). first_in firsts r.automation) (slice_get rs (p + 1 - 1)) → ls' ≡ noted_if at a ls
    → now' ≡ moved_if at listed a ls → (before || moved_by at firsts listed (drop p rs) ls) ≡ all → ((before || now') || moved_by at firsts listed (drop (p + 1) rs) ls') ≡ all
moved-step at p firsts listed rs ls ls' a before now' all lt a_is is now_is h =
    let more : p + 1 ≡ suc p = omega arith in
    let less : p + 1 - 1 ≡ p = omega arith in
    let whose_is : a ≡ option_map (whose firsts) (slice_get rs p) = a_is ∙ ap (λ q. option_map (whose firsts) (slice_get rs q)) less in
    (λ i. (before || now_is i) || moved_by at firsts listed (drop (more i) rs) (is i))
    ∙ or-joins before (moved_if at listed a ls) (moved_by at firsts listed (drop (suc p) rs) (noted_if at a ls))
    ∙ (λ i. before || (moved_if at listed (whose_is i) ls || moved_by at firsts listed (drop (suc p) rs) (noted_if at (whose_is i) ls)))
    ∙ (λ i. before || sym (here at p firsts listed rs ls lt) i)
    ∙ h

pub moved-none : (at : ℕ) (firsts : List ℕ) (listed : List Bool) (rs : Records) (p : ℕ) (ls : List (Option ℕ)) (b : Bool) → length rs ≤ p → (b || moved_by at firsts listed (drop p rs) ls) ≡ b
moved-none at firsts listed [] p ls b le = by b p
  where
    by : (b : Bool) (p : ℕ) → (b || moved_by at firsts listed (drop p []) ls) ≡ b
    by true p = refl
    by false zero = refl
    by false (suc p) = refl
moved-none at firsts listed (r ∷ rs) zero ls b le = absurd (omega (arith, le))
moved-none at firsts listed (r ∷ rs) (suc p) ls b le = moved-none at firsts listed rs p ls b (omega (arith, le))

-- ---- no moment is past the last one

set-in-time : (at : ℕ) (ls : List (Option ℕ)) (a : ℕ) → nat_le at last_moment ≡ true → are_in_time ls ≡ true → are_in_time (slice_set ls a (Some at)) ≡ true
set-in-time at [] zero le h = h
set-in-time at [] (suc a) le h = h
set-in-time at (l ∷ ls) zero le h = (λ i. le i && and_right (option_map_or (λ n. nat_le n last_moment) l true) (are_in_time ls) h i)
set-in-time at (l ∷ ls) (suc a) le h =
    (λ i. and_left (option_map_or (λ n. nat_le n last_moment) l true) (are_in_time ls) h i && set-in-time at ls a le (and_right (option_map_or (λ n. nat_le n last_moment) l true) (are_in_time ls) h) i)

-- LAW: so it stays with runs that were admitted at one of these
pub noted-in-time : (at : ℕ) (firsts : List ℕ) (rs : Records) (ls : List (Option ℕ)) → at ≤ last_moment → are_in_time ls ≡ true → are_in_time (noted at firsts rs ls) ≡ true
noted-in-time at firsts [] ls le h = h
noted-in-time at firsts (r ∷ rs) ls le h =
    noted-in-time at firsts rs (slice_set ls (first_in firsts r.automation) (Some at)) le (set-in-time at ls (first_in firsts r.automation) (is-le at last_moment le) h)
  where
    is-le : (m n : ℕ) → m ≤ n → nat_le m n ≡ true
    is-le m n h = search (rules, h)

-- each of them is
pub each-in-time : (ls : List (Option ℕ)) (i : ℕ) (o : Option ℕ) → slice_get ls i ≡ Some o → are_in_time ls ≡ true → option_map_or (λ at. nat_le at last_moment) o true ≡ true
each-in-time [] i o e h = absurd (none-some o e)
each-in-time (l ∷ ls) zero o e h =
    (λ k. option_map_or (λ at. nat_le at last_moment) (sym (some-same l o e) k) true) ∙ and_left (option_map_or (λ n. nat_le n last_moment) l true) (are_in_time ls) h
each-in-time (l ∷ ls) (suc i) o e h = each-in-time ls i o e (and_right (option_map_or (λ n. nat_le n last_moment) l true) (are_in_time ls) h)
