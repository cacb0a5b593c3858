use Rattle.std.proofs.Common.{◌≡◌, ◌∙◌, [], ◌++◌, ap, count_by, length, codes}
use Rattle.ha_config.specs.CheckText.{count_line}
use Rattle.ha_config.specs.Words.{Text}
use Rattle.ha_rehearse.specs.Counts.{calls, is_line}
use Rattle.ha_rehearse.proofs.text.rehearse_text.Goals as goal

appended : (a b c d t0 t1 t2 t3 t4 : Text) → t0 ≡ [] → t1 ≡ t0 ++ a → t2 ≡ t1 ++ b → t3 ≡ t2 ++ c → t4 ≡ t3 ++ d → t4 ≡ ((a ++ b) ++ c) ++ d
appended a b c d t0 t1 t2 t3 t4 e0 e1 e2 e3 e4 =
    e4 ∙ ap (λ (t : Text). t ++ d) (e3 ∙ ap (λ (t : Text). t ++ c) (e2 ∙ ap (λ (t : Text). t ++ b) (e1 ∙ ap (λ (t : Text). t ++ a) e0)))

pub returns : goal.returns
unfolding calls is_line
returns c =
    let journal = c.args.journal.now in
    appended (count_line (codes "lines") (count_by is_line journal)) (count_line (codes "entries") (length journal)) (count_line (codes "runs") (length c.args.records.now))
    (count_line (codes "calls") (count_by calls journal)) c.new-text.result.items c.push_count.new.text.items c.push_count-2.new.text.items c.push_count-3.new.text.items c.push_count-4.new.text.items
    c.new-text.ensures.items (c.in_ok-push_count.ensures ∙ ap (λ n. c.new-text.result.items ++ count_line (codes "lines") n) c.lines_in.ensures) c.in_ok-push_count-2.ensures c.in_ok-push_count-3.ensures
    (c.in_ok-push_count-4.ensures ∙ ap (λ n. c.push_count-3.new.text.items ++ count_line (codes "calls") n) c.calls_in.ensures)
