-- Behind the same entries, a line is that of one entry at most, and never that of an entry and the end.
use Rattle.std.proofs.Common.{◌≡◌, ◌∙◌, ap, sym, refl, ℕ, ◌<◌, ◌^◌, List, ◌∷◌, Bool, true, drop, get_or, length, arith}
use Rattle.std.proofs.lemmas.List.Sums.{count_by-le-length}
use Rattle.std.specs.Prelude.{count_by}
use Rattle.ha_config.specs.declared.command.Cmd.{Cmd}
use Rattle.ha_sight.specs.declared.item.Item.{Item}
use Rattle.ha_journal.specs.declared.carry.Carry.{Carry}
use Rattle.ha_journal.specs.declared.entry.Entry.{Entry}
use Rattle.ha_journal.specs.declared.entry.Entry.TheVariants.{Boot, Line, Step, Again}
use Rattle.ha_config.specs.CheckText.{as_line}
use Rattle.ha_config.specs.Fair.{as_read, prepared}
use Rattle.ha_config.specs.Words.{Text}
use Rattle.ha_journal.specs.Entries.{is_restart}
use Rattle.ha_journal.specs.Journal.{HasEntry, Journal}
use Rattle.ha_journal.specs.Commands.{IsFair, IsReadEntry}
use Rattle.conf_auto.specs.Config.{config_in}
use Rattle.ha_config.specs.CommandText.{cmd_text}
use Rattle.ha_model.specs.Lawful.{is_line_of}
use Rattle.ha_model.specs.Records.{Records}
use Rattle.ha_sight.specs.Scripts.{Branch}
use Rattle.ha_journal.specs.EntryText.{end_line, trace_line}
use Rattle.ha_config.proofs.ListLemmas.{some-same, true-false}
use Rattle.ha_whole.specs.Trace.{names}
use Rattle.ha_whole.specs.Segments.{segment}
use Rattle.ha_whole.specs.Whole.{IsRightEntry, IsTurn, Lawful, put}
use Rattle.whole_laws.proofs.AnswerLemmas.{Rest, rest-same, same-step}
use Rattle.whole_laws.proofs.CutLemmas.{IsCut}
use Rattle.flow_printed.specs.declared.line.PrintedLine.{PrintedLine}
use Rattle.flow_printed.specs.Printed.{line_text}
use Rattle.flow_printed.proofs.PrintedLines.{one_line}
use Rattle.ha_replay.specs.Digits.{number_before_comma}
use Rattle.ha_replay.proofs.AnswerLemmas.{number-found}
use Rattle.ha_replay.proofs.CmdLemmas.{fair-but, read-text}
use Rattle.ha_replay.proofs.SeamLemmas.{behind-of, put-first}
use Rattle.ha_replay.proofs.TextLemmas.{same-line, step-is-of}
use Rattle.trace_laws.proofs.FeedLemmas.{entry_feed}
use Rattle.trace_laws.proofs.FrontLemmas.{AllKnown}

-- ---- by the third byte

abbrev third : Text → ℕ
third t = get_or t 2 0

-- the end line is that of no entry
pub no_end : (all : List Text) (x : Entry) (n : ℕ) → trace_line all x ≡ end_line n → ⊥
no_end all (Boot text config stored start zone carry) n e = (let same : 98 ≡ 101 = ap third e in omega (arith, same))
no_end all (Again number start stored carry) n e = (let same : 97 ≡ 101 = ap third e in omega (arith, same))
no_end all (Line source number cmd) n e = (let same : 115 ≡ 101 = ap third e in omega (arith, same))
no_end all (Step worker serial branch item) n e = (let same : 119 ≡ 101 = ap third e in omega (arith, same))

no_mix : (all : List Text) (worker serial : ℕ) (branch : Branch) (item : Item) (source number : ℕ) (cmd : Cmd) → trace_line all (Step worker serial branch item) ≡ trace_line all (Line source number cmd) → ⊥
no_mix all worker serial branch item source number cmd e = (let same : 119 ≡ 115 = ap third e in omega (arith, same))

-- ---- lines of sources

-- what a command is read as goes by its text
read_again : (c : Cmd) → prepared config_in (as_read c) ≡ prepared config_in c
read_again (Cmd.Report entity text attributes) = refl
read_again (Cmd.Gone entity) = refl
read_again (Cmd.Event kind pairs) = refl
read_again (Cmd.Moment at) = refl
read_again (Cmd.Switch name on stop) = refl
read_again (Cmd.Trigger name skip) = refl
read_again Cmd.Restart = refl
read_again (Cmd.Reload text config) = refl
read_again (Cmd.Refused code) = refl
read_again Cmd.Lost = refl
read_again Cmd.TooLong = refl

module _ (d : Journal) (all : List Text) (short : length d < 2 ^ 64) where
  counted : (k n : ℕ) → n ≡ count_by (is_line_of k) d → n < 2 ^ 64
  counted k n e = (let most = count_by-le-length (is_line_of k) d in omega (arith, e, most, short))

  pub same_source : (k n k' n' : ℕ) (cmd cmd' : Cmd) → k < 16 → k' < 16 → n ≡ count_by (is_line_of k) d → n' ≡ count_by (is_line_of k') d → IsFair (segment d) cmd → IsFair (segment d) cmd'
      → prepared config_in cmd ≡ cmd → prepared config_in cmd' ≡ cmd' → trace_line all (Line k n cmd) ≡ trace_line all (Line k' n' cmd') → Line k n cmd ≡ Line k' n' cmd'
  same_source k n k' n' cmd cmd' known known' next next' fair fair' read read' e =
      let l : PrintedLine = record { source = k; number = n; cmd = as_read cmd } in
      let m : PrintedLine = record { source = k'; number = n'; cmd = as_read cmd' } in
      let text : Text = line_text k n (cmd_text cmd) in
      let same : l ≡ m = one_line text l m (record { source = omega (arith, known); number = counted k n next }) (record { source = omega (arith, known'); number = counted k' n' next' })
      (record { fair = fair-but (segment d) cmd fair; text_is = ap (line_text k n) (sym (read-text cmd)) })
      (record { fair = fair-but (segment d) cmd' fair'; text_is = same-line text (line_text k' n' (cmd_text cmd')) e ∙ ap (line_text k' n') (sym (read-text cmd')) }) in
      let cmds : cmd ≡ cmd' = sym read ∙ sym (read_again cmd) ∙ (λ i. prepared config_in ((same i).cmd)) ∙ read_again cmd' ∙ read' in
      (λ i. Line (same i).source (same i).number (cmds i))

-- ---- steps

same_worker : (all : List Text) (k s : ℕ) (b : Branch) (item : Item) (k' s' : ℕ) (b' : Branch) (item' : Item) → k < 16 → k' < 16
    → trace_line all (Step k s b item) ≡ trace_line all (Step k' s' b' item') → k ≡ k'
same_worker all k s b item k' s' b' item' known known' e =
    let feed = entry_feed all (Step k s b item) in
    let of = step-is-of all feed.line k s b item feed.shown_is in
    let of' = step-is-of all feed.line k' s' b' item' (feed.shown_is ∙ e) in
    some-same k k' (sym (number-found k of.0 known) ∙ ap (λ t. number_before_comma (drop 10 t)) (sym of.1 ∙ of'.1) ∙ number-found k' of'.0 known')

-- ---- entries

pub known_tail : (x : Entry) (xs : Journal) → AllKnown (x ∷ xs) → AllKnown xs
known_tail (Boot text config stored start zone carry) xs h = h
known_tail (Again number start stored carry) xs h = h
known_tail (Line source number cmd) xs h = h.1
known_tail (Step worker serial branch item) xs h = h.1

no_again : (all : List Text) (number start : ℕ) (stored : List (Text × Bool)) (carry : Carry) (source n : ℕ) (cmd : Cmd) → trace_line all (Again number start stored carry) ≡ trace_line all (Line source n cmd) → ⊥
no_again all number start stored carry source n cmd e = (let same : 97 ≡ 115 = ap third e in omega (arith, same))

no_again_step : (all : List Text) (number start : ℕ) (stored : List (Text × Bool)) (carry : Carry) (worker serial : ℕ) (branch : Branch) (item : Item)
    → trace_line all (Again number start stored carry) ≡ trace_line all (Step worker serial branch item) → ⊥
no_again_step all number start stored carry worker serial branch item e = (let same : 97 ≡ 119 = ap third e in omega (arith, same))

module _ (d : Journal) (all : List Text) (rs rs' : Records) (has : HasEntry d) (c : IsCut d) (short : length d < 2 ^ 64) where
  -- LAW: entries behind the same ones that have the same line are the same: an Again is told by these alone
  pub same_entry : (x y : Entry) (xs ys : Journal) → Rest d (x ∷ xs) rs → Rest d (y ∷ ys) rs' → AllKnown (x ∷ xs) → AllKnown (y ∷ ys) → trace_line all x ≡ trace_line all y → x ≡ y
  same_entry (Boot text config stored start zone carry) y xs ys r r' known known' e = absurd r.behind.0
  same_entry (Line k n cmd) (Boot text config stored start zone carry) xs ys r r' known known' e = absurd r'.behind.0
  same_entry (Step k s b item) (Boot text config stored start zone carry) xs ys r r' known known' e = absurd r'.behind.0
  same_entry (Again number start stored carry) (Boot text config stored' start' zone carry') xs ys r r' known known' e = absurd r'.behind.0
  same_entry (Again number start stored carry) (Again number' start' stored' carry') xs ys r r' known known' e = r.behind.0.1 ∙ sym r'.behind.0.1
  same_entry (Again number start stored carry) (Line k n cmd) xs ys r r' known known' e = absurd (no_again all number start stored carry k n cmd e)
  same_entry (Again number start stored carry) (Step k s b item) xs ys r r' known known' e = absurd (no_again_step all number start stored carry k s b item e)
  same_entry (Line k n cmd) (Again number start stored carry) xs ys r r' known known' e = absurd (no_again all number start stored carry k n cmd (sym e))
  same_entry (Step k s b item) (Again number start stored carry) xs ys r r' known known' e = absurd (no_again_step all number start stored carry k s b item (sym e))
  same_entry (Line k n cmd) (Step k' s' b' item') xs ys r r' known known' e = absurd (no_mix all k' s' b' item' k n cmd (sym e))
  same_entry (Step k s b item) (Line k' n' cmd') xs ys r r' known known' e = absurd (no_mix all k s b item k' n' cmd' e)
  same_entry (Line k n cmd) (Line k' n' cmd') xs ys r r' known known' e =
      same_source d all short k n k' n' cmd cmd' r.turns.0.0 r'.turns.0.0 r.turns.0.2 r'.turns.0.2 r.entries.0 r'.entries.0 known.0 known'.0 e
  same_entry (Step k s b item) (Step k' s' b' item') xs ys r r' known known' e =
      let one = same_worker all k s b item k' s' b' item' known.0 known'.0 e in
      same-step d rs rs' c (rest-same d (Step k s b item ∷ xs) rs c has r) (rest-same d (Step k' s' b' item' ∷ ys) rs' c has r') k s b item k' s' b' item' one
      r.turns.0 r'.turns.0 r.entries.0 r'.entries.0

-- ---- the next Restart

-- LAW: where the line that stands next is that of a Restart, its entry is one
pub same_restart : (d : Journal) (line : Text) (x y : Entry) (rs rs' : Records) → HasEntry d → length d < 2 ^ 64 → Lawful (put d x) rs → Lawful (put d y) rs'
    → IsReadEntry config_in x → IsReadEntry config_in y → as_line line ≡ trace_line (names d) x → as_line line ≡ trace_line (names d) y → is_restart x ≡ true → is_restart y ≡ true
same_restart d line (Boot text config stored start zone carry) y rs rs' has short h h' read read' e e' holds = absurd (true-false (sym holds))
same_restart d line (Step k s b item) y rs rs' has short h h' read read' e e' holds = absurd (true-false (sym holds))
same_restart d line (Again number start stored carry) y rs rs' has short h h' read read' e e' holds = absurd (true-false (sym holds))
same_restart d line (Line k n cmd) (Boot text config stored start zone carry) rs rs' has short h h' read read' e e' holds =
    absurd (behind-of d (Boot text config stored start zone carry) has h'.right.journal.entries)
same_restart d line (Line k n cmd) (Step k' s' b' item') rs rs' has short h h' read read' e e' holds = absurd (no_mix (names d) k' s' b' item' k n cmd (sym e' ∙ e))
same_restart d line (Line k n cmd) (Again number start stored carry) rs rs' has short h h' read read' e e' holds = absurd (no_again (names d) number start stored carry k n cmd (sym e' ∙ e))
same_restart d line (Line k n cmd) (Line k' n' cmd') rs rs' has short h h' read read' e e' holds =
    let turn = put-first (IsTurn rs) d (Line k n cmd) h.turns in
    let turn' = put-first (IsTurn rs') d (Line k' n' cmd') h'.turns in
    let fair = put-first (IsRightEntry rs) d (Line k n cmd) h.right.entries in
    let fair' = put-first (IsRightEntry rs') d (Line k' n' cmd') h'.right.entries in
    let same = same_source d (names d) short k n k' n' cmd cmd' turn.0 turn'.0 turn.2 turn'.2 fair fair' read read' (sym e ∙ e') in
    ap is_restart (sym same) ∙ holds
