-- What the work of a worker leaves.
use Rattle.std.proofs.Common.{◌≡◌, ◌∙◌, inl, inr, ⊎_elim, ℕ, List, [], ◌∷◌, ◌++◌, length, map, ap, arith, refl, sym, subst}
use Rattle.std.specs.Prelude.{Contains, Option}
use Rattle.std.specs.List.{list_any}
use Rattle.std.proofs.lemmas.List.{append-nil}
use Rattle.std.proofs.lemmas.List.Elements.{Contains-push_cases}
use Rattle.std.proofs.Math.Nat.{le_refl}
use Rattle.ha_io.proofs.ToldLemmas.{Gives-nothing}
use Rattle.ha_config.specs.declared.command.Cmd.{Cmd}
use Rattle.ha_config.specs.declared.config.Config.{Config}
use Rattle.ha_config.specs.Fair.{prepared}
use Rattle.ha_model.specs.Lawful.{shuts}
use Rattle.ha_config.specs.Words.{Text}
use Rattle.ha_text.specs.Lines.{whole_lines}
use Rattle.bus_pass.specs.Rule.{Dues, child, stood}
use Rattle.bus_pass.specs.declared.hand.Given.{Given}
use Rattle.bus_pass.specs.declared.hand.Hand.{Hand}
use Rattle.ha_worker.specs.declared.end.WorkerEnd.{WorkerEnd}
use Rattle.ha_worker.specs.declared.ending.Ending.{Ending}
use Rattle.ha_worker.specs.Courses.{Course, HasGiven, SourceState, cmd_read, cmds_by}
use Rattle.ha_worker.specs.Ends.{Notes, ended_by}
use Rattle.ha_worker.specs.Puts.{IsDue, NoLine, PutAll, PutSome}
use Rattle.ha_worker.specs.Taken.{Fed, FedSome, course_of, rest_by}
use Rattle.ha_worker.specs.Views.{HasPut, IsFresh, IsOne, Takes, list_of, read_lines}
use Rattle.ha_worker.specs.Worked.{EndsAs, Worked}
use Rattle.ha_worker.proofs.FeedLemmas.{fed_cmds}
use Rattle.ha_worker.proofs.ReadLemmas.{all_prepared}
use Rattle.ha_worker.proofs.LineLemmas.{all_then, none_put, some_still, some_then}

-- ---- a fresh pass

-- it takes the first line
pub fresh_takes : (k n : ℕ) (v : Hand) → n ≡ 0 → IsFresh k v → Takes n k v
fresh_takes k n v begins f = record {
  sits = record { one = f.one; next = begins ∙ sym (ap (λ l. length (read_lines l)) f.empty) };
  unshut = ap (list_any (λ (g : Given). shuts k g.entry)) f.empty;
}

fresh_put : (k : ℕ) (v : Hand) → IsFresh k v → HasPut (list_of v) []
fresh_put k v f = ap read_lines f.empty

-- LAW: the pass that was split off for worker k is fresh
pub child_fresh : (k : ℕ) (v w : Hand) → w ≡ child v → v.made ≡ k → IsFresh k w
child_fresh k v w is made = subst (IsFresh k) (sym is) (record {
  one = record { one = record { later = refl; stands = ap (λ (n : ℕ). stood n [] ∷ []) made }; idle = refl };
  empty = refl;
  unnoted = refl;
  undue = refl;
})

-- ---- how it ends

none_in : (d : ℕ × Cmd) (ds : Dues) → ds ≡ [] → Contains ds d → ⊥
none_in d ds is h = let bad = subst (λ (z : Dues). Contains z d) is h in omega (arith, bad.1)

same_due : (x y : ℕ × Cmd) → Contains (x ∷ []) y → x ≡ y
same_due x y h = ⊎_elim (λ (e : Contains [] y). absurd (none_in y [] refl e)) (λ (e : x ≡ y). e) (Contains-push_cases [] x y h)

-- what is due is the first command that was not put
due_first : (k : ℕ) (unput : List Cmd) (v w : Hand) → v.dues ≡ [] → IsDue k unput v w → (d : ℕ × Cmd) → Contains w.dues d → (d.0 ≡ k) × ((rest : List Cmd) × (unput ≡ d.1 ∷ rest))
due_first k unput v w undue (inl e) d has = absurd (none_in d w.dues (e ∙ undue) has)
due_first k unput v w undue (inr (c, rest, e, f)) d has =
    let is : (k, c) ≡ d = same_due (k, c) d (subst (λ (z : Dues). Contains z d) (f ∙ ap (λ (z : Dues). (k, c) ∷ z) undue) has) in
    (sym (ap (λ (x : ℕ × Cmd). x.0) is), (rest, e ∙ ap (λ (x : ℕ × Cmd). x.1 ∷ rest) is))

-- what is made item by item of a list, in two parts, is made of two parts of it
pub record Parted {X Y : Type 0} (f : X → Y) (xs : List X) (ys zs : List Y) : Type 0 where
  pub front : List X
  pub back : List X
  pub parts : xs ≡ front ++ back
  pub front_is : map f front ≡ ys
  pub back_is : map f back ≡ zs

parted : {X Y : Type 0} (f : X → Y) (xs : List X) (ys zs : List Y) → map f xs ≡ ys ++ zs → Parted f xs ys zs
parted f xs [] zs e = record { front = []; back = xs; parts = refl; front_is = refl; back_is = e }
parted f [] (y ∷ ys) zs e = absurd (cc)
parted {X} {Y} f (x ∷ xs) (y ∷ ys) zs e =
    let r = parted f xs ys zs (tails (f x) y (map f xs) (ys ++ zs) e) in
    record {
      front = x ∷ r.front;
      back = r.back;
      parts = ap (λ (z : List X). x ∷ z) r.parts;
      front_is = (λ i. heads (f x) y (map f xs) (ys ++ zs) e i ∷ r.front_is i);
      back_is = r.back_is;
    }
  where
    heads : (a b : Y) (ms ns : List Y) → a ∷ ms ≡ b ∷ ns → a ≡ b
    heads a b ms ns h = cc

    tails : (a b : Y) (ms ns : List Y) → a ∷ ms ≡ b ∷ ns → ms ≡ ns
    tails a b ms ns h = cc

none_made : {X Y : Type 0} (f : X → Y) (xs : List X) → map f xs ≡ [] → xs ≡ []
none_made f [] e = refl
none_made f (x ∷ xs) e = absurd (cc)

module _ (read : Text → Option Config) (k : ℕ) (v w : Hand) (fresh : IsFresh k v) (one : IsOne k w) (s s' : SourceState) where
  -- a front of these commands was put, and nothing further
  worked : (course : Course) (bytes : Text) (cmds : List Cmd) (end : WorkerEnd) → HasGiven course bytes s s' → map (prepared read) (cmds_by course bytes) ≡ cmds → (some : PutSome k cmds v w)
      → ((unput : List Cmd) → map (prepared read) unput ≡ some.unput → EndsAs end course unput w) → Worked read k end w s s'
  worked course bytes cmds end given is some ends =
      let r = parted (prepared read) (cmds_by course bytes) some.put some.unput (is ∙ some.parts) in
      record {
        course = course;
        bytes = bytes;
        put = r.front;
        unput = r.back;
        given = given;
        cmds_are = r.parts;
        one = one;
        lines = subst (HasPut (list_of w)) (sym r.front_is) (some.puts [] (fresh_put k v fresh));
        due = λ d has. let h = due_first k some.unput v w fresh.undue some.due d has in (h.0, (h.1.0, r.back_is ∙ h.1.1));
        ends = ends r.back r.back_is;
      }

  noting : (course : Course) (unput : List Cmd) (end : WorkerEnd) → Notes end w.noted → EndsAs end course unput w
  noting course unput WorkerEnd.Ended h = absurd h
  noting course unput WorkerEnd.Lost h = absurd h
  noting course unput WorkerEnd.TooLong h = absurd h
  noting course unput WorkerEnd.Stopped h = h
  noting course unput WorkerEnd.Memory h = h

  -- it halted while it read
  pub worked_halted : (u : Hand) (end : WorkerEnd) → FedSome read k v u s s' → NoLine u w → Notes end w.noted → Worked read k end w s s'
  worked_halted u end f still notes =
      let some = some_still k (map (cmd_read read) (whole_lines f.bytes)) v u w f.some still in
      worked Course.Goes f.bytes (map (cmd_read read) (whole_lines f.bytes)) end f.given (all_prepared read (whole_lines f.bytes)) some (λ unput e. noting Course.Goes unput end notes)

  -- it halted behind the whole lines
  pub worked_cut : (course : Course) (u x : Hand) (cut : Text) (end : WorkerEnd) → Fed read k course v u cut s s' → PutSome k (rest_by read course cut) u x → NoLine x w → Notes end w.noted → Worked read k end w s s'
  worked_cut course u x cut end f p still notes =
      let cmds = map (cmd_read read) f.lines ++ rest_by read course cut in
      let some = some_still k cmds v x w (some_then k (map (cmd_read read) f.lines) (rest_by read course cut) v u x f.put p) still in
      worked course f.bytes cmds end f.given (fed_cmds read k course v u cut s s' f) some (λ unput e. noting course unput end notes)

  -- all is put
  pub worked_through : (ending : Ending) (u : Hand) (cut : Text) → Fed read k (course_of ending) v u cut s s' → PutAll k (rest_by read (course_of ending) cut) u w → Worked read k (ended_by ending) w s s'
  worked_through ending u cut f p =
      let cmds = map (cmd_read read) f.lines ++ rest_by read (course_of ending) cut in
      let all = all_then k (map (cmd_read read) f.lines) (rest_by read (course_of ending) cut) v u w f.put p in
      worked (course_of ending) f.bytes cmds (ended_by ending) f.given (fed_cmds read k (course_of ending) v u cut s s' f)
      (record { put = cmds; unput = []; parts = sym (append-nil cmds); puts = all.puts; due = inl all.dues }) (λ unput e. by ending unput (none_made (prepared read) unput e))
    where
      by : (x : Ending) (unput : List Cmd) → unput ≡ [] → EndsAs (ended_by x) (course_of x) unput w
      by Ending.Ends unput e = (refl, e)
      by Ending.Fails unput e = (refl, e)
      by Ending.Exceeds unput e = (refl, e)

-- memory ran out before the first read
pub worked_none : (read : Text → Option Config) (k : ℕ) (v w : Hand) (end : WorkerEnd) (s : SourceState) → IsFresh k v → IsOne k w → NoLine v w → Notes end w.noted → Worked read k end w s s
worked_none read k v w end s fresh one still notes = worked_halted read k v w fresh one s s v end (record {
  bytes = [];
  given = record { gave = Gives-nothing s.left; within = omega arith; faults_stay = le_refl s.faults; same_name = refl };
  some = none_put k (map (cmd_read read) (whole_lines [])) v;
}) still notes
