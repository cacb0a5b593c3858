-- Sources that are opened one after the other.
use Rattle.std.proofs.Common.{◌≡◌, ◌∙◌, ◌≤◌, ◌-◌, ℕ, suc, Bool, true, false, true≢false, List, [], ◌∷◌, ◌++◌, length, take, drop, get_or, map, Option, Some, None, ap, refl, sym, subst, append_assoc, take_all, arith}
use Rattle.std.proofs.lemmas.List.{append-nil}
use Rattle.std.specs.Prelude.{IfSome, if◌then◌else◌}
use Rattle.ha_io.specs.declared.place.Opening.{Opening}
use Rattle.ha_io.specs.Told.{Call, and_asked}
use Rattle.ha_io.proofs.AskedLemmas.{asked_then}
use Rattle.ha_config.specs.Words.{Text}
use Rattle.ha_status.specs.declared.status.Status.{Status}
use Rattle.ha_status.specs.Causes.{OpenCause}
use Rattle.ha_status.specs.Files.{Files}
use Rattle.ha_status.proofs.CauseLemmas.{unopened_within}
use Rattle.ha_worker.specs.Courses.{SourceState}
use Rattle.ha_run.specs.Opened.{AreNew, IsOpened}
use Rattle.ha_run.specs.Served.{AreOpened}
use Rattle.ha_top.specs.Opening.{IsOpenFault, OpensAs, StoppedAmong, StoppedAt}
use Rattle.ha_top.proofs.EarlyLemmas.{contains_behind, open_cases}

-- one more was opened
pub new_more : (files : Option Files) (names : List Text) (sources : List SourceState) (name : Text) (s : SourceState) → AreNew files names sources → IsOpened files name s
    → AreNew files (names ++ name ∷ []) (sources ++ s ∷ [])
new_more files [] [] name s h o = (o, tt)
new_more files [] (t ∷ sources) name s h o = absurd h
new_more files (n ∷ names) [] name s h o = absurd h
new_more files (n ∷ names) (t ∷ sources) name s h o = (h.0, new_more files names sources name s h.1 o)

-- those that were opened are the first ones
pub opened_front : (files : Option Files) (names more : List Text) (sources : List SourceState) → AreNew files names sources → AreOpened (names ++ more) sources
opened_front files [] more [] h = tt
opened_front files [] more (s ∷ sources) h = absurd h
opened_front files (n ∷ names) more [] h = absurd h
opened_front files (n ∷ names) more (s ∷ sources) h = (h.0.named, opened_front files names more sources h.1)

pub opened_all : (files : Option Files) (names : List Text) (sources : List SourceState) → AreNew files names sources → AreOpened names sources
opened_all files names sources h = subst (λ z. AreOpened z sources) (append-nil names) (opened_front files names [] sources h)

-- so in each case
pub opens_front : (files : Option Files) (names : List Text) (sources : List SourceState) (fault : Option Status) → OpensAs files names sources fault → AreOpened names sources
opens_front files names sources None h = opened_all files names sources h
opens_front files names sources (Some status) h = h

pub opens_all : (files : Option Files) (names : List Text) (sources : List SourceState) (fault : Option Status) → fault ≡ None → OpensAs files names sources fault → AreNew files names sources
opens_all files names sources fault none h = subst (OpensAs files names sources) none h

-- there are as many as names
pub new_count : {S : Type 0} (f : S → SourceState) (files : Option Files) (names : List Text) (xs : List S) → AreNew files names (map f xs) → length xs ≡ length names
new_count f files [] [] h = refl
new_count f files [] (x ∷ xs) h = absurd h
new_count f files (n ∷ names) [] h = absurd h
new_count f files (n ∷ names) (x ∷ xs) h = ap suc (new_count f files names xs h.1)

-- ---- lists

-- a list that is not empty, by its first item and the others
pub first_and_later : (names : List Text) (name : Text) → 1 ≤ length names → name ≡ get_or names 0 name → name ∷ take (length names - 1) (drop 1 names) ≡ names
first_and_later [] name some is = absurd (omega (arith, some))
first_and_later (n ∷ names) name some is =
    ap (λ (z : Text). z ∷ take (length (n ∷ names) - 1) names) is ∙ ap (λ (z : List Text). n ∷ z) (take_all (length (n ∷ names) - 1) names (omega arith))

map_last : {S : Type 0} (f : S → SourceState) (xs : List S) (x : S) → map f (xs ++ x ∷ []) ≡ map f xs ++ f x ∷ []
map_last f [] x = refl
map_last f (y ∷ xs) x = ap (λ (z : List SourceState). f y ∷ z) (map_last f xs x)

-- a push that did not fail
pub pushed : {S : Type 0} (f : S → SourceState) (xs items : List S) (x : S) (ok : Bool) → items ≡ (if ok then xs ++ x ∷ [] else xs) → ok ≡ true → map f items ≡ map f xs ++ f x ∷ []
pushed f xs items x true is kept = ap (λ (z : List _). map f z) is ∙ map_last f xs x
pushed f xs items x false is kept = absurd (true≢false (sym kept))

-- and one that may have failed
pub pushed_front : {S : Type 0} (f : S → SourceState) (files : Option Files) (names later : List Text) (name : Text) (xs items : List S) (x : S) (ok : Bool)
    → items ≡ (if ok then xs ++ x ∷ [] else xs) → AreNew files names (map f xs) → IsOpened files name (f x) → AreOpened (names ++ name ∷ later) (map f items)
pushed_front f files names later name xs items x true is h o =
    subst (λ (z : List _). AreOpened (names ++ name ∷ later) (map f z)) (sym is)
    (subst (λ z. AreOpened (names ++ name ∷ later) z) (sym (map_last f xs x))
    (subst (λ z. AreOpened z (map f xs ++ f x ∷ [])) (append_assoc names (name ∷ []) later)
    (opened_front files (names ++ name ∷ []) later (map f xs ++ f x ∷ []) (new_more files names (map f xs) name (f x) h o))))
pushed_front f files names later name xs items x false is h o =
    subst (λ (z : List _). AreOpened (names ++ name ∷ later) (map f z)) (sym is) (opened_front files names (name ∷ later) (map f xs) h)

-- the later ones behind one more
pub opens_more : (files files' : Option Files) (names later : List Text) (name : Text) (sources sources' all : List SourceState) (s : SourceState) (fault : Option Status) → files' ≡ files
    → sources' ≡ sources ++ s ∷ [] → AreNew files names sources → IsOpened files name s
    → ((before : List Text) → AreNew files' before sources' → OpensAs files' (before ++ later) all fault) → OpensAs files (names ++ name ∷ later) all fault
opens_more files files' names later name sources sources' all s fault same is h o go =
    subst (λ z. OpensAs files z all fault) (append_assoc names (name ∷ []) later)
    (subst (λ f. OpensAs f ((names ++ name ∷ []) ++ later) all fault) same
    (go (names ++ name ∷ []) (subst (λ z. AreNew files' (names ++ name ∷ []) z) (sym is) (subst (λ f. AreNew f (names ++ name ∷ []) (sources ++ s ∷ [])) (sym same) (new_more files names sources name s h o)))))

-- ---- where opening stopped

-- the first of the names was not opened
pub stopped_first : (files : Option Files) (had later : List Text) (name : Text) (sources : List SourceState) (before after : Option (List Call)) (s : Status) → IsOpenFault s → AreNew files had sources
    → StoppedAt (name, Opening.Reading) before after s → StoppedAmong files had (name ∷ later) sources before after s
stopped_first files had later name sources before after s fault new =
    open_cases (λ z. StoppedAt (name, Opening.Reading) before after z → StoppedAmong files had (name ∷ later) sources before after z) s fault
    (λ n u. (
      [],
      later,
      ap (λ (z : Text). z ∷ later) (sym u.0),
      subst (λ z. AreNew files z sources) (sym (append-nil had)) new,
      subst (λ (z : Text). after ≡ and_asked before ((z, Opening.Reading) ∷ [])) (sym u.0) u.1,
    ))
    (λ u. tt)

-- one was, and opening stopped at a later one
pub stopped_later : (files files' : Option Files) (had later : List Text) (name : Text) (sources sources' all : List SourceState) (s : SourceState) (before between after : Option (List Call))
    (fault : Option Status) → files' ≡ files → sources' ≡ sources ++ s ∷ [] → AreNew files had sources → IsOpened files name s → between ≡ and_asked before ((name, Opening.Reading) ∷ [])
    → IfSome fault IsOpenFault → ((front : List Text) → AreNew files' front sources' → IfSome fault (StoppedAmong files' front later all between after))
    → IfSome fault (StoppedAmong files had (name ∷ later) all before after)
stopped_later files files' had later name sources sources' all s before between after None same is new opened first fault go = tt
stopped_later files files' had later name sources sources' all s before between after (Some x) same is new opened first fault go =
    open_cases (λ z. StoppedAmong files' (had ++ name ∷ []) later all between after z → StoppedAmong files had (name ∷ later) all before after z) x fault
    (λ n u. (
      name ∷ u.0,
      u.1,
      ap (λ (z : List Text). name ∷ z) u.2,
      subst (λ f. AreNew f (had ++ name ∷ u.0) all) same (subst (λ z. AreNew files' z all) (append_assoc had (name ∷ []) u.0) u.3),
      asked_then true before between after ((name, Opening.Reading) ∷ []) (map (λ (m : Text). (m, Opening.Reading)) u.0 ++ (n, Opening.Reading) ∷ []) first u.4,
    ))
    (λ u. tt)
    (go (had ++ name ∷ []) (subst (λ z. AreNew files' (had ++ name ∷ []) z) (sym is)
    (subst (λ f. AreNew f (had ++ name ∷ []) (sources ++ s ∷ [])) (sym same) (new_more files had sources name s new opened))))

-- ---- why one was not opened

pub cause_later : (name : Text) (later : List Text) (first before after : ℕ) (last : Option (Option (Text × Opening))) (fault : Option Status) → first ≤ before → IfSome fault IsOpenFault
    → IfSome fault (OpenCause later before after last) → IfSome fault (OpenCause (name ∷ later) first after last)
cause_later name later first before after last None low is h = tt
cause_later name later first before after last (Some s) low is h =
    open_cases (λ z. OpenCause later before after last z → OpenCause (name ∷ later) first after last z) s is
    (λ n u. (contains_behind name later n u.0, unopened_within n Opening.Reading first before after last low u.1)) (λ u. tt) h
