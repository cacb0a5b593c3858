-- A line or a step that changes nothing of what is in force.
use Rattle.std.proofs.Common.{◌≡◌, ◌∙◌, ℕ, ◌+◌, ◌<◌, List, [], ◌∷◌, ◌++◌, length, map, drop, cond, Bool, true, false, refl, sym, ap, subst, arith}
use Rattle.std.specs.Prelude.{None, Option, Some, count_by, fold, is_some, nat_le, nat_lt, ◌&&◌, if◌then◌else◌}
use Rattle.std.specs.List.{list_all, list_any}
use Rattle.ha_clock.specs.Local.{last_moment}
use Rattle.ha_config.specs.declared.command.Cmd.{Cmd}
use Rattle.ha_config.specs.declared.config.Automation.{Automation}
use Rattle.ha_config.specs.declared.config.Config.{Config}
use Rattle.ha_config.specs.Fair.{IsFairAmong, most_reloads, put_reload}
use Rattle.ha_config.specs.Helpers.{is_helper}
use Rattle.ha_config.specs.Names.{automation_named, named_among}
use Rattle.ha_config.specs.Words.{Text, same}
use Rattle.ha_config.proofs.AutomationLemmas.{any-named}
use Rattle.ha_config.proofs.ListLemmas.{true-false}
use Rattle.ha_journal.specs.declared.entry.Entry.{Entry}
use Rattle.ha_journal.specs.declared.entry.Entry.TheVariants.{Line}
use Rattle.ha_journal.specs.Commands.{IsFair, has_automation, lets_reload, put_as}
use Rattle.ha_journal.specs.Entries.{is_reload, is_restart, reload_in, reloads_to}
use Rattle.ha_journal.specs.Force.{IsAlike, force}
use Rattle.ha_journal.specs.Journal.{Journal, automations, helpers, in_force, more}
use Rattle.ha_journal.proofs.AlikeLaws.{alike-rules}
use Rattle.ha_journal.proofs.ForceLaws.{automations-more, helpers-are, in-force-are}
use Rattle.ha_journal.proofs.ReloadLemmas.{fair-unreloaded}
use Rattle.ha_model.specs.Lawful as one
use Rattle.ha_model.proofs.LastEntry.{last-is}
use Rattle.ha_whole.specs.Lasts.{lasts_carried}
use Rattle.ha_whole.specs.Segments.{alone, segment}
use Rattle.ha_whole.specs.Whole.{HasRoom}
use Rattle.whole_laws.specs.Puts.{IsPut}
use Rattle.whole_laws.proofs.CutLemmas.{IsCut, is-cut}
use Rattle.whole_laws.proofs.LiftLemmas.{entries-have}
use Rattle.named_runs.specs.Named.{NamedTable}
use Rattle.unit_book.specs.declared.book.UnitBook.{UnitBook}
use Rattle.unit_book.specs.Book.{Holds}
use Rattle.engine_parts.specs.declared.parts.Parts.{Parts}
use Rattle.engine_parts.specs.Kept.{Kept}
use Rattle.ha_engine.specs.declared.bounds.Bounds.{Bounds}
use Rattle.ha_engine.specs.GoesOn.{GoesOn}
use Rattle.ha_engine.specs.Noted.{are_in_time, moved_by, noted}
use Rattle.ha_engine.specs.Put.{Adds}
use Rattle.ha_engine.specs.Settled.{IsSettled, SettlesLast}
use Rattle.ha_engine.specs.Told.{IsFollowed, IsTold}
use Rattle.ha_engine.proofs.FollowedLemmas.{firsts-told, plain-followed, plain-told}
use Rattle.ha_engine.proofs.StoredLemmas.{plain-noted}
use Rattle.ha_engine.proofs.WholeLemmas.{holds-quiet}

-- ---- names in force

named-in : (ps : List (ℕ × Automation)) (name : Text) → is_some (named_among ps name) ≡ list_any (λ (a : Automation). same a.name name) (map {A = ℕ × Automation} {B = Automation} (λ p. p.1) ps)
named-in [] name = refl
named-in (p ∷ ps) name = by (same p.1.name name) refl (named-in ps name)
  where
    by : (b : Bool) → same p.1.name name ≡ b → is_some (named_among ps name) ≡ list_any (λ (a : Automation). same a.name name) (map {A = ℕ × Automation} {B = Automation} (λ q. q.1) ps)
        → is_some (named_among (p ∷ ps) name) ≡ list_any (λ (a : Automation). same a.name name) (map {A = ℕ × Automation} {B = Automation} (λ q. q.1) (p ∷ ps))
    by true e rest = rw e refl
    by false e rest = rw e rest

-- LAW: an automation in force has a name where one of its configuration has it
pub has-named : (j : Journal) (name : Text) → is_some (automation_named (automations j) name) ≡ has_automation j name
has-named j name = sym (named-in (in_force j) name ∙ (λ i. list_any (λ (a : Automation). same a.name name) (in-force-are j i)) ∙ any-named (automations j) name)

has-same : (s j : Journal) → automations s ≡ automations j → has_automation s ≡ has_automation j
has-same s j is = (λ i name. (sym (has-named s name) ∙ (λ k. is_some (automation_named (is k) name)) ∙ has-named j name) i)

-- LAW: so it is by the configuration that a book holds
pub has-settled : (j : Journal) (u : UnitBook) (h : IsSettled j u) (c : Config) (name : Text) → IsAlike c h.f.config → is_some (automation_named c.automations name) ≡ has_automation j name
has-settled j u h c name alike = (λ i. is_some (automation_named ((alike-rules c h.f.config alike ∙ ap (λ (d : Config). d.automations) h.config_is) i) name)) ∙ has-named j name

-- ---- a command that is put

-- LAW: where none may stand, none is put
pub quiet-put : (j : Journal) (c : Cmd) → (is_some (reloads_to c) && lets_reload j) ≡ false → reloads_to (put_as j c) ≡ None
quiet-put j (Cmd.Report entity text attributes) e = by (is_helper (helpers j) entity)
  where
    by : (b : Bool) → reloads_to (if b then Cmd.Refused 14 else Cmd.Report entity text attributes) ≡ None
    by true = refl
    by false = refl
quiet-put j (Cmd.Gone entity) e = by (is_helper (helpers j) entity)
  where
    by : (b : Bool) → reloads_to (if b then Cmd.Refused 14 else Cmd.Gone entity) ≡ None
    by true = refl
    by false = refl
quiet-put j (Cmd.Event kind pairs) e = refl
quiet-put j (Cmd.Moment at) e = refl
quiet-put j (Cmd.Switch name on stop) e = by (has_automation j name)
  where
    by : (b : Bool) → reloads_to (if b then Cmd.Switch name on stop else Cmd.Refused 9) ≡ None
    by true = refl
    by false = refl
quiet-put j (Cmd.Trigger name skip) e = by (has_automation j name)
  where
    by : (b : Bool) → reloads_to (if b then Cmd.Trigger name skip else Cmd.Refused 9) ≡ None
    by true = refl
    by false = refl
quiet-put j Cmd.Restart e = refl
quiet-put j (Cmd.Reload text None) e = refl
quiet-put j (Cmd.Reload text (Some config)) e = by (lets_reload j) e
  where
    by : (b : Bool) → b ≡ false → reloads_to (put_reload b text (Some config)) ≡ None
    by true h = absurd (true-false h)
    by false h = refl
quiet-put j (Cmd.Refused code) e = refl
quiet-put j Cmd.Lost e = refl
quiet-put j Cmd.TooLong e = refl

-- LAW: where one may stand a reload with a configuration is put as it is
pub put-same : (j : Journal) (c : Cmd) → is_some (reloads_to c) ≡ true → lets_reload j ≡ true → put_as j c ≡ c
put-same j (Cmd.Report entity text attributes) e lets = absurd (true-false (sym e))
put-same j (Cmd.Gone entity) e lets = absurd (true-false (sym e))
put-same j (Cmd.Event kind pairs) e lets = absurd (true-false (sym e))
put-same j (Cmd.Moment at) e lets = absurd (true-false (sym e))
put-same j (Cmd.Switch name on stop) e lets = absurd (true-false (sym e))
put-same j (Cmd.Trigger name skip) e lets = absurd (true-false (sym e))
put-same j Cmd.Restart e lets = absurd (true-false (sym e))
put-same j (Cmd.Reload text None) e lets = absurd (true-false (sym e))
put-same j (Cmd.Reload text (Some config)) e lets = (λ i. put_reload (lets i) text (Some config))
put-same j (Cmd.Refused code) e lets = absurd (true-false (sym e))
put-same j Cmd.Lost e lets = absurd (true-false (sym e))
put-same j Cmd.TooLong e lets = absurd (true-false (sym e))

-- LAW: and it is fair in the last segment
pub fair-alone : (j : Journal) (c : Cmd) → IsCut j → reloads_to c ≡ None → IsFair j c → IsFair (segment j) c
fair-alone j c cut none fair =
    let s : Journal = segment j in
    let helps : helpers j ≡ helpers s = sym (helpers-are j) ∙ ap (λ (d : Config). d.helpers) (sym cut.configured_are) ∙ helpers-are s in
    subst (λ (has : Text → Bool). IsFairAmong has (is_helper (helpers s)) (lets_reload s) c) (sym (has-same s j cut.automations_are))
    (subst (λ hs. IsFairAmong (has_automation j) (is_helper hs) (lets_reload s) c) helps
    (fair-unreloaded (has_automation j) (is_helper (helpers j)) (lets_reload j) (lets_reload s) c none fair))

-- LAW: what is put restarts nothing where the command does not is of its line; one more Reload may stand as is counted
pub lets-told : (j : Journal) (reloads : ℕ) → reloads ≡ count_by is_reload j → nat_lt reloads most_reloads ≡ lets_reload j
lets-told j reloads is = (λ i. nat_lt (is i) most_reloads)

count-snoc : {X : Type 0} (p : X → Bool) (n : ℕ) (xs : List X) (x : X) → fold (λ m y. m + cond (p y) 1 0) n (xs ++ (x ∷ [])) ≡ fold (λ m y. m + cond (p y) 1 0) n xs + cond (p x) 1 0
count-snoc p n [] x = refl
count-snoc p n (y ∷ ys) x = count-snoc p (n + cond (p y) 1 0) ys x

-- LAW: how many Reloads there are with an entry more
pub reloads-more : (j : Journal) (x : Entry) (b : Bool) → is_reload x ≡ b → count_by is_reload (more j x) ≡ count_by is_reload j + cond b 1 0
reloads-more j x b is = count-snoc is_reload 0 j x ∙ (λ i. count_by is_reload j + cond (is i) 1 0)

-- ---- what is known of a line that was pushed

module _ (j : Journal) (b : Bounds) (u : UnitBook) (t : NamedTable) (p : Parts) (ls : List (Option ℕ)) (reset : Bool) (told : IsTold j b u t) (followed : IsFollowed j u t p ls reset) where
  -- LAW: what settles its command
  pub settles : (k : Journal) (x : Entry) (lets : Bool) → k ≡ more j x → lets ≡ lets_reload j → SettlesLast k p.helpers u lets
  settles k x lets is lets_is = record {
    j = j;
    x = x;
    journal_is = is;
    knows = record { stand = followed.kept.going.sees.helpers_stand; same = sym (helpers-are (segment j)) ∙ ap (λ (d : Config). d.helpers) (is-cut j told.lies.entries).configured_are ∙ helpers-are j };
    settled = record { f = force (segment j); holds = told.holds; config_is = (is-cut j told.lies.entries).configured_are };
    lets_is = lets_is;
  }

  -- LAW: what follows from it, where it is fair
  pub adds : (k : Journal) (source number : ℕ) (cmd : Cmd) → k ≡ more j (Line source number cmd) → source < 16 → is_restart (Line source number cmd) ≡ false → reloads_to cmd ≡ None → IsFair j cmd
      → Adds k b u t.firsts t.list p
  adds k source number cmd is known stays none fair =
      let s : Journal = segment j in
      let x : Entry = Line source number cmd in
      let here : Holds-here = holds-quiet j x u t t told.lies.entries none told.runs refl told.holds in
      record {
        j = j;
        x = x;
        journal_is = is;
        stays = stays;
        lies = told.lies;
        holds = subst (λ (i : Journal). Holds i (force (more s x)) u) (sym is) here;
        named = followed.firsts_are ∙ firsts-told (more j x) (more s x) u here;
        pushed = record {
          j = s;
          source = source;
          number = number;
          cmd = cmd;
          journal_is = refl;
          known = known;
          fair = fair-alone j cmd (is-cut j told.lies.entries) none fair;
          unreloaded = none;
          right = told.own_right;
          kept = followed.kept;
        };
      }
    where
      Holds-here : Type 0
      Holds-here = Holds (more j (Line source number cmd)) (force (more (segment j) (Line source number cmd))) u

-- ---- what goes on

module _ (j : Journal) (x : Entry) (b : Bounds) (u : UnitBook) (t t' : NamedTable) (p p' : Parts) (ls : List (Option ℕ)) (reset : Bool) (is_put : IsPut x) (stays : is_restart x ≡ false) (quiet : reload_in x ≡ None)
    (told : IsTold j b u t) (followed : IsFollowed j u t p ls reset) (own : one.Right (more (segment j) (alone (segment j) x)) t'.list) (kept : Kept (more (segment j) (alone (segment j) x)) t'.list p')
    (closed : t'.closed ≡ t.closed) (firsts : t'.firsts ≡ t.firsts) (room : HasRoom j false) (in_time : are_in_time ls ≡ true)
    (carried : list_all (λ p. nat_le p.1 last_moment) (lasts_carried (segment j)) ≡ true) where
  -- LAW: all that is kept stands for the journal with it
  pub goes-on : (ls' : List (Option ℕ)) (moved : Bool) → ls' ≡ noted p'.at t'.firsts (drop (length t.list) t'.list) ls → moved ≡ moved_by p'.at t'.firsts u.listed.items (drop (length t.list) t'.list) ls
      → GoesOn j (more j x) b u t' p' ls' reset moved
  goes-on ls' moved lasts_is moved_is = record {
    told = plain-told j x b u t t' p p' ls reset is_put stays quiet told followed own kept closed firsts room;
    followed = subst (λ l. IsFollowed (more j x) u t' p' l reset) (sym lasts_is) (plain-followed j x b u t t' p p' ls reset is_put stays quiet told followed own kept closed firsts room);
    noted = plain-noted j x b u t t' p p' ls reset is_put stays quiet told followed own kept firsts in_time carried ls' moved lasts_is moved_is;
    plain = last-is is_reload j x ∙ ap is_some quiet;
    reloads = (let one : count_by is_reload (more j x) ≡ count_by is_reload j + 0 = reloads-more j x false (ap is_some quiet) in omega (arith, one));
    same = automations-more j x (entries-have j told.lies.entries) quiet;
  }
