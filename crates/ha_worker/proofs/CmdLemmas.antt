-- No line is read as that its source was lost or is too long.
use Rattle.std.proofs.Common.{◌≡◌, Bool, true, false, Option, Some, None, refl, ℕ}
use Rattle.std.specs.Prelude.{Ok, Err, codes}
use Rattle.ha_value.specs.Ids.{read_entity}
use Rattle.ha_value.specs.declared.value.Value.TheViews.{out-Value}
use Rattle.ha_clock.specs.MomentText.{moment_of}
use Rattle.ha_value.specs.declared.value.Value.{Value}
use Rattle.ha_config.specs.declared.command.Cmd.{Cmd}
use Rattle.ha_config.specs.declared.command.Cmd.TheVariants as cmd
use Rattle.ha_config.specs.Fair.{shuts_source}
use Rattle.ha_config.specs.Words.{Text, Pairs, first_pair}
use Rattle.flow_line.specs.declared.keys.Command.{Command}
use Rattle.flow_line.specs.declared.keys.Command.TheVariants.{Report, Gone, Event, Moment, Switch, Trigger, Restart, Reload}
use Rattle.flow_line.specs.Command.{Checked, ◌>>=◌, as_cmd, as_true, at_moment, automation, flag_in, flag_of, map_of, named, only, reportable, state_of, text_of, turned, value_of, with_keys, cmd_by, cmd_of, cmd_of_pairs, command_of, event_of, gone_of, moment_of_pairs, pairs_of, reload_of, report_of, restart_of, restarts, switch_of, trigger_of}

abbrev pub StaysOpen : Checked Cmd → Type 0
StaysOpen (Ok c) = shuts_source c ≡ false
StaysOpen (Err refusal) = Unit {0}

bound : {X : Type 0} (x : Checked X) (f : X → Checked Cmd) → ((v : X) → StaysOpen (f v)) → StaysOpen (x >>= f)
bound (Ok v) f h = h v
bound (Err refusal) f h = tt

made : (x : Checked Cmd) → StaysOpen x → shuts_source (as_cmd x) ≡ false
made (Ok c) h = h
made (Err refusal) h = refl

bound1 : {A : Type 0} (a : Checked A) (f : A → Cmd) → ((x : A) → shuts_source (f x) ≡ false) → StaysOpen (a >>= (λ x. Ok (f x)))
bound1 a f h = bound a (λ x. Ok (f x)) h

bound2 : {A B : Type 0} (a : Checked A) (b : A → Checked B) (f : A → B → Cmd) → ((x : A) (y : B) → shuts_source (f x y) ≡ false) → StaysOpen (a >>= (λ x. b x >>= (λ y. Ok (f x y))))
bound2 a b f h = bound a (λ x. b x >>= (λ y. Ok (f x y))) (λ x. bound1 (b x) (f x) (h x))

bound3 : {A B C : Type 0} (a : Checked A) (b : A → Checked B) (c : A → B → Checked C) (f : A → B → C → Cmd) → ((x : A) (y : B) (z : C) → shuts_source (f x y z) ≡ false)
    → StaysOpen (a >>= (λ x. b x >>= (λ y. c x y >>= (λ z. Ok (f x y z)))))
bound3 a b c f h = bound a (λ x. b x >>= (λ y. c x y >>= (λ z. Ok (f x y z)))) (λ x. bound2 (b x) (c x) (f x) (h x))

bound4 : {A B C D : Type 0} (a : Checked A) (b : A → Checked B) (c : A → B → Checked C) (d : A → B → C → Checked D) (f : A → B → C → D → Cmd)
    → ((x : A) (y : B) (z : C) (w : D) → shuts_source (f x y z w) ≡ false) → StaysOpen (a >>= (λ x. b x >>= (λ y. c x y >>= (λ z. d x y z >>= (λ w. Ok (f x y z w))))))
bound4 a b c d f h = bound a (λ x. b x >>= (λ y. c x y >>= (λ z. d x y z >>= (λ w. Ok (f x y z w))))) (λ x. bound3 (b x) (c x) (d x) (f x) (h x))

bound5 : {A B C D E : Type 0} (a : Checked A) (b : A → Checked B) (c : A → B → Checked C) (d : A → B → C → Checked D) (e : A → B → C → D → Checked E) (f : A → B → C → D → E → Cmd)
    → ((x : A) (y : B) (z : C) (w : D) (v : E) → shuts_source (f x y z w v) ≡ false)
    → StaysOpen (a >>= (λ x. b x >>= (λ y. c x y >>= (λ z. d x y z >>= (λ w. e x y z w >>= (λ v. Ok (f x y z w v)))))))
bound5 a b c d e f h = bound a (λ x. b x >>= (λ y. c x y >>= (λ z. d x y z >>= (λ w. e x y z w >>= (λ v. Ok (f x y z w v)))))) (λ x. bound4 (b x) (c x) (d x) (e x) (f x) (h x))

report : (pairs : Pairs) → StaysOpen (report_of pairs)
unfolding report_of
report pairs = bound5 (text_of (value_of Report pairs)) (λ id. text_of (first_pair (codes "state") pairs)) (λ id text. map_of (first_pair (codes "attributes") pairs))
    (λ id text attributes. reportable (read_entity id)) (λ id text attributes entity. state_of text) (λ id text attributes entity state. cmd.Report entity state attributes) (λ id text attributes entity state. refl)

gone : (pairs : Pairs) → StaysOpen (gone_of pairs)
unfolding gone_of
gone pairs = bound2 (text_of (value_of Gone pairs)) (λ id. reportable (read_entity id)) (λ id entity. cmd.Gone entity) (λ id entity. refl)

event : (pairs : Pairs) → StaysOpen (event_of pairs)
unfolding event_of
event pairs = bound2 (text_of (value_of Event pairs)) (λ kind. map_of (first_pair (codes "data") pairs)) (λ kind fields. cmd.Event kind fields) (λ kind fields. refl)

moment_at : (at : Option ℕ) → StaysOpen (at_moment at)
moment_at None = tt
moment_at (Some at) = refl

moment : (pairs : Pairs) → StaysOpen (moment_of_pairs pairs)
unfolding moment_of_pairs
moment pairs = bound (text_of (value_of Moment pairs)) (λ text. at_moment (moment_of text)) (λ text. moment_at (moment_of text))

switch : (pairs : Pairs) → StaysOpen (switch_of pairs)
unfolding switch_of
switch pairs = bound5 (text_of (value_of Switch pairs)) (λ id. text_of (first_pair (codes "to") pairs)) (λ id to. turned to) (λ id to on. flag_of (first_pair (codes "stop_actions") pairs))
    (λ id to on stop. automation (read_entity id)) (λ id to on stop name. cmd.Switch name on stop) (λ id to on stop name. refl)

trigger : (pairs : Pairs) → StaysOpen (trigger_of pairs)
unfolding trigger_of
trigger pairs = bound3 (text_of (value_of Trigger pairs)) (λ id. flag_of (first_pair (codes "skip_condition") pairs)) (λ id skip. automation (read_entity id))
    (λ id skip name. cmd.Trigger name skip) (λ id skip name. refl)

truth : (b : Bool) → StaysOpen (as_true b)
truth true = refl
truth false = tt

restarting : (v : Option Value) → StaysOpen (restarts v)
restarting None = tt
restarting (Some v) = bound (flag_in (out-Value v)) as_true truth

restart : (pairs : Pairs) → StaysOpen (restart_of pairs)
unfolding restart_of
restart pairs = restarting (value_of Restart pairs)

reload : (pairs : Pairs) → StaysOpen (reload_of pairs)
unfolding reload_of
reload pairs = bound1 (text_of (value_of Reload pairs)) (λ text. cmd.Reload text None) (λ text. refl)

by_command : (command : Command) (pairs : Pairs) → StaysOpen (cmd_by command pairs)
by_command Report pairs = report pairs
by_command Gone pairs = gone pairs
by_command Event pairs = event pairs
by_command Moment pairs = moment pairs
by_command Switch pairs = switch pairs
by_command Trigger pairs = trigger pairs
by_command Restart pairs = restart pairs
by_command Reload pairs = reload pairs

by_pairs : (pairs : Pairs) → StaysOpen (cmd_of_pairs pairs)
unfolding cmd_of_pairs
by_pairs pairs = bound (only (named pairs)) (λ command. with_keys command pairs >>= (λ own. cmd_by command own)) (λ command. bound (with_keys command pairs) (λ own. cmd_by command own) (λ own. by_command command own))

pub read_open : (line : Text) → shuts_source (cmd_of line) ≡ false
unfolding cmd_of
read_open line = made (command_of line) (bound (pairs_of line) cmd_of_pairs by_pairs)
