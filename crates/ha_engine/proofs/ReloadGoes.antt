-- What stands for a whole journal behind a reload.
use Rattle.std.proofs.Common.{◌≡◌, ◌∙◌, ℕ, ◌+◌, ◌-◌, ◌<◌, List, [], ◌∷◌, ◌++◌, length, map, take, drop, Bool, true, false, refl, sym, ap, subst, rules, arith, Option}
use Rattle.std.specs.Prelude.{Some, None, count_by, is_some, nat_le, nat_lt, ◌&&◌, if◌then◌else◌}
use Rattle.std.specs.List.{list_all}
use Rattle.std.specs.Option.{option_map_or}
use Rattle.ha_clock.specs.Local.{last_moment}
use Rattle.ha_config.specs.declared.command.Cmd.{Cmd}
use Rattle.ha_config.specs.declared.config.Config.{Config}
use Rattle.ha_config.specs.Fair.{most_reloads}
use Rattle.ha_config.specs.Names.{name_of, names_of}
use Rattle.ha_config.specs.Words.{Text}
use Rattle.ha_config.proofs.ListLemmas.{true-false}
use Rattle.ha_journal.specs.declared.entry.Entry.{Entry}
use Rattle.ha_journal.specs.declared.entry.Entry.TheVariants.{Line}
use Rattle.ha_journal.specs.Commands.{lets_reload}
use Rattle.ha_journal.specs.Entries.{is_again, is_reload, is_restart, reloads_to}
use Rattle.ha_journal.specs.Force.{Force, force}
use Rattle.ha_journal.specs.Journal.{HasEntry, Journal, automations, more, names, now, units}
use Rattle.ha_journal.proofs.ForceLaws.{entered, force-reloaded, units-grow}
use Rattle.ha_journal.proofs.MoreLemmas.{has-entry}
use Rattle.ha_model.specs.Lawful as one
use Rattle.ha_model.specs.Records as all
use Rattle.ha_model.specs.Records.{last_is}
use Rattle.ha_model.proofs.LastEntry.{last-is}
use Rattle.ha_whole.specs.Lasts.{lasts_carried}
use Rattle.ha_whole.specs.Segments.{carried_number, segment}
use Rattle.ha_whole.specs.Whole.{HasRoom, Right, before_put}
use Rattle.whole_laws.specs.Puts.{IsPut}
use Rattle.whole_laws.proofs.CutLemmas.{is-cut}
use Rattle.whole_laws.proofs.PutLemmas.{line-put}
use Rattle.segment_runs.specs.Segment.{all_of, number_at}
use Rattle.named_runs.specs.Named.{NamedTable}
use Rattle.unit_book.specs.declared.book.UnitBook.{UnitBook}
use Rattle.unit_book.specs.Book.{Holds, firsts_of}
use Rattle.unit_book.proofs.FirstLemmas.{firsts-many, names-many, text-name}
use Rattle.unit_book.proofs.GrownLemmas.{names-append}
use Rattle.engine_parts.specs.declared.parts.Parts.{Parts}
use Rattle.engine_parts.specs.Kept.{Kept}
use Rattle.ha_engine.specs.declared.bounds.Bounds.{Bounds}
use Rattle.ha_engine.specs.declared.reload.Reloaded.{Reloaded}
use Rattle.ha_engine.specs.Noted.{AreNoted, are_in_time, known_lasts, noted}
use Rattle.ha_engine.specs.Reloads.{AddsReload, IsReloaded}
use Rattle.ha_engine.specs.Told.{AreLasts, IsFollowed, IsTold}
use Rattle.ha_engine.proofs.ChangeLemmas.{take-less}
use Rattle.ha_engine.proofs.FollowedLemmas.{firsts-told}
use Rattle.ha_engine.proofs.LastsLemmas.{carried-same}
use Rattle.ha_engine.proofs.LastsReloaded.{lasts-reloaded}
use Rattle.ha_engine.proofs.MovedLemmas.{noted-in-time}
use Rattle.ha_engine.proofs.PlainLemmas.{reloads-more}
use Rattle.ha_engine.proofs.ReloadTable.{mapped-at}
use Rattle.ha_engine.proofs.StoredLemmas.{carried-in-time, named-in-time}
use Rattle.ha_engine.proofs.WholeLemmas.{below-limit, not-opening, number-on, on, told-on}

known-in-time : (ls : List (Option ℕ)) (ns : List Text) (carried : List (Text × ℕ)) → are_in_time ls ≡ true → list_all (λ p. nat_le p.1 last_moment) carried ≡ true → are_in_time (known_lasts ls ns carried) ≡ true
known-in-time [] [] carried h c = refl
known-in-time [] (n ∷ ns) carried h c = (λ i. named-in-time n carried c i && carried-in-time ns carried c i)
known-in-time (l ∷ ls) [] carried h c = refl
known-in-time (l ∷ ls) (n ∷ ns) carried h c = by (option_map_or (λ at. nat_le at last_moment) l true) h (λ later. known-in-time ls ns carried later c)
  where
    by : (b : Bool) → (b && are_in_time ls) ≡ true → (are_in_time ls ≡ true → are_in_time (known_lasts ls ns carried) ≡ true) → (b && are_in_time (known_lasts ls ns carried)) ≡ true
    by true e later = later e
    by false e later = e

module _ (k : Journal) (b : Bounds) (u : UnitBook) (t : NamedTable) (p : Parts) (ls : List (Option ℕ)) (h : AddsReload k b u t p ls) (n : Reloaded) (t' : NamedTable) (p' : Parts) (is : IsReloaded h n t' p')
    (records : t'.closed.records ≡ t.closed.records) (entries : t'.closed.entries ≡ t.closed.entries) (room : HasRoom h.j false) where
  abbrev s : Journal
  s = segment h.j

  abbrev x : Entry
  x = Line h.source h.number (Cmd.Reload h.text (Some h.config))

  abbrev j' : Journal
  j' = more h.j x

  put : IsPut x
  put = line-put h.source h.number (Cmd.Reload h.text (Some h.config))

  has : HasEntry s
  has = has-entry s h.told.own_right.journal

  names-k : n.book.names ≡ names (more s x)
  names-k = is.holds.names_are

  numbers-k : (a : ℕ) → a < length (units (more s x)) → number_at t'.closed.numbers a ≡ carried_number (more s x) (name_of (units (more s x)) a)
  numbers-k a lt =
      (let many = names-many (more s x) in
      (λ i. number_at ((is.numbers ∙ ap (map (carried_number s)) names-k) i) a)
      ∙ mapped-at (carried_number s) (names (more s x)) a (omega (arith, lt, many))
      ∙ ap (carried_number s) (text-name (units (more s x)) a)
      ∙ number-on s x has (name_of (units (more s x)) a))

  holds-j : Holds j' (force (more s x)) n.book
  holds-j = subst (λ (i : Journal). Holds i (force (more s x)) n.book) h.journal_is is.holds

  below : length h.j < b.limit
  below = below-limit h.j b h.told.lies h.told.bounded false room

  told-j : IsTold j' b n.book t'
  told-j = told-on h.j x b u n.book t t' put refl h.told is.right records entries numbers-k holds-j below

  same-segment : segment j' ≡ more s x
  same-segment = on h.j x b u n.book t t' put refl h.told is.right records entries numbers-k holds-j below

  -- LAW: all of it stands for the journal with the reload
  pub reload-told : IsTold k b n.book t'
  reload-told = subst (λ (i : Journal). IsTold i b n.book t') (sym h.journal_is) told-j

  own : one.Right s (all.records_of s)
  own = subst (one.Right s) h.told.runs.own h.told.own_right

  grown : names (more s x) ≡ names s ++ names_of (entered (force s) (Some h.config))
  grown = ap names_of (units-grow s x has) ∙ names-append (units s) (entered (force s) (Some h.config))

  firsts-k : n.book.firsts.items ≡ firsts_of (names (more s x))
  firsts-k = firsts-told k (more s x) n.book is.holds

  lasts-k : AreLasts (more s x) n.book (noted (now (more s x)) n.book.firsts.items (drop (length (all.records_of s)) (all.records_of (more s x))) (known_lasts ls (names (more s x)) (lasts_carried s)))
  lasts-k = lasts-reloaded s x own (names_of (entered (force s) (Some h.config))) grown u n.book ls (firsts-told h.j s u h.told.holds) firsts-k h.lasts_are

  noted-is : (ls' : List (Option ℕ)) → ls' ≡ noted p'.at t'.firsts (drop (length t.list) t'.list) n.lasts.items
      → ls' ≡ noted (now (more s x)) n.book.firsts.items (drop (length (all.records_of s)) (all.records_of (more s x))) (known_lasts ls (names (more s x)) (lasts_carried s))
  noted-is ls' e =
      e ∙ (λ i. noted (is.kept.going.sees.looks.now_is i) (is.firsts_are i) (drop (length (h.told.runs.own i)) (is.right.records_are i)) ((is.lasts_are ∙ (λ m. known_lasts ls (names-k m) (lasts_carried s))) i))

  -- LAW: and so do the parts and the moments
  pub reload-followed : (ls' : List (Option ℕ)) (reset : Bool) → ls' ≡ noted p'.at t'.firsts (drop (length t.list) t'.list) n.lasts.items → IsFollowed k n.book t' p' ls' reset
  reload-followed ls' reset e =
      subst (λ (i : Journal). IsFollowed i n.book t' p' ls' reset) (sym h.journal_is)
      (record {
        kept = subst (λ (i : Journal). Kept i t'.list p') (sym same-segment) is.kept;
        firsts_are = is.firsts_are;
        lasts_are = subst (λ (i : Journal). AreLasts i n.book ls') (sym same-segment) (subst (AreLasts (more s x) n.book) (sym (noted-is ls' e)) lasts-k);
        reset_is = λ f. absurd (not-opening h.j x b u n.book t t' put refl h.told is.right records entries numbers-k holds-j below f);
      })

  pub reload-last : last_is is_reload k ≡ true
  reload-last = ap (last_is is_reload) h.journal_is ∙ last-is is_reload h.j x

  -- LAW: what is known beside that
  pub reload-noted : (ls' : List (Option ℕ)) (moved : Bool) → are_in_time ls ≡ true → list_all (λ p. nat_le p.1 last_moment) (lasts_carried s) ≡ true
      → ls' ≡ noted p'.at t'.firsts (drop (length t.list) t'.list) n.lasts.items → AreNoted k ls' moved
  reload-noted ls' moved in_time carried e = record {
    in_time = subst (λ l. are_in_time l ≡ true) (sym e)
        (noted-in-time p'.at t'.firsts (drop (length t.list) t'.list) n.lasts.items is.kept.going.sees.looks.in_time
        (subst (λ l. are_in_time l ≡ true) (sym is.lasts_are) (known-in-time ls n.book.names (lasts_carried s) in_time carried)));
    carried = (λ i. list_all (λ p. nat_le p.1 last_moment) ((ap (λ (i : Journal). lasts_carried (segment i)) h.journal_is ∙ ap lasts_carried same-segment ∙ carried-same s x has) i)) ∙ carried;
    moved_is = λ many plain. absurd (true-false (sym reload-last ∙ plain));
  }

  pub reload-count : count_by is_reload k ≡ count_by is_reload h.j + 1
  reload-count = ap (count_by is_reload) h.journal_is ∙ reloads-more h.j x true refl

  -- LAW: what stands before it
  pub reload-before : before_put k ≡ h.j
  reload-before =
      (let never : last_is is_again j' ≡ false = last-is is_again h.j x in
      ap before_put h.journal_is ∙ (λ i. take (length j' - (if never i then 2 else 1)) j') ∙ take-less h.j x)

  -- LAW: and its automations are in force
  pub reload-rules : automations k ≡ h.config.automations
  reload-rules =
      sym (is-cut k reload-told.lies.entries).automations_are
      ∙ ap (λ (i : Journal). automations (segment i)) h.journal_is ∙ ap automations same-segment
      ∙ ap (λ (f : Force). f.config.automations) (force-reloaded s x h.config has refl)

-- ---- a command that brings a configuration

-- LAW: it is a reload with one
pub reload-is : (cmd : Cmd) → is_some (reloads_to cmd) ≡ true → (text : Text) × (config : Config) × (cmd ≡ Cmd.Reload text (Some config))
reload-is (Cmd.Report entity text attributes) e = absurd (true-false (sym e))
reload-is (Cmd.Gone entity) e = absurd (true-false (sym e))
reload-is (Cmd.Event kind pairs) e = absurd (true-false (sym e))
reload-is (Cmd.Moment at) e = absurd (true-false (sym e))
reload-is (Cmd.Switch name on stop) e = absurd (true-false (sym e))
reload-is (Cmd.Trigger name skip) e = absurd (true-false (sym e))
reload-is Cmd.Restart e = absurd (true-false (sym e))
reload-is (Cmd.Reload text None) e = absurd (true-false (sym e))
reload-is (Cmd.Reload text (Some config)) e = (text, config, refl)
reload-is (Cmd.Refused code) e = absurd (true-false (sym e))
reload-is Cmd.Lost e = absurd (true-false (sym e))
reload-is Cmd.TooLong e = absurd (true-false (sym e))

-- LAW: its line restarts nothing
pub stays-reload : (source number : ℕ) (cmd : Cmd) (text : Text) (config : Config) → cmd ≡ Cmd.Reload text (Some config) → is_restart (Line source number cmd) ≡ false
stays-reload source number cmd text config is = (λ i. is_restart (Line source number (is i)))

-- LAW: so few Reloads there are where one more may stand
pub few-before : (j : Journal) (reloads : ℕ) → reloads ≡ count_by is_reload j → lets_reload j ≡ true → reloads < most_reloads
few-before j reloads is lets = (let lt = below-of (count_by is_reload j) most_reloads lets in omega (arith, is, lt))
  where
    below-of : (a b : ℕ) → nat_lt a b ≡ true → a < b
    below-of a b e = search (rules, e)

-- LAW: a table that has the same but for numbers of more units stands for the same
pub told-parted : (j j' : Journal) (b : Bounds) (u : UnitBook) (t t' : NamedTable) → IsTold j b u t → t.firsts ≡ u.firsts.items → j' ≡ j → t'.list ≡ t.list → t'.closed.records ≡ t.closed.records → t'.closed.entries ≡ t.closed.entries
    → all_of t'.closed t'.list ≡ all_of t.closed t.list → ((a : ℕ) → a < length t.firsts → number_at t'.closed.numbers a ≡ number_at t.closed.numbers a) → IsTold j' b u t'
told-parted j j' b u t t' h firsts is list records entries all numbers =
    (let many : length t.firsts ≡ length (units (segment j)) = ap length (firsts ∙ firsts-told j (segment j) u h.holds) ∙ firsts-many (names (segment j)) ∙ names-many (segment j) in
    subst (λ (i : Journal). IsTold i b u t') (sym is)
    (record {
      right = subst (Right j) (sym all) h.right;
      own_right = subst (one.Right (segment j)) (sym list) h.own_right;
      runs = record {
        own = list ∙ h.runs.own;
        records = records ∙ h.runs.records;
        entries = entries ∙ h.runs.entries;
        numbers = λ a lt. numbers a (omega (arith, lt, many)) ∙ h.runs.numbers a lt;
      };
      lies = h.lies;
      bounded = h.bounded;
      holds = h.holds;
    }))
