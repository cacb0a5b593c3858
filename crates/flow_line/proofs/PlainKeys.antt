-- A map whose first key names a command, and whose keys are all that command's, is of that command alone.
use Rattle.std.proofs.Common.{◌≡◌, ◌<◌, Bool, true, false, cond, List, [], ◌∷◌, length, get_or, map, refl, sym, ap, ◌∙◌, arith}
use Rattle.std.specs.Prelude.{filter, ◌&&◌, ◌||◌}
use Rattle.std.specs.List.{list_all}
use Rattle.std.proofs.lemmas.Slice.Eq.{bytes_eq-Decides}
use Rattle.ha_value.specs.declared.value.Value.{Value}
use Rattle.ha_config.specs.Words.{Text, Pairs, has_name, same}
use Rattle.flow_line.specs.declared.keys.Command.{Command}
use Rattle.flow_line.specs.declared.keys.Command.TheVariants.{Report, Gone, Event, Moment, Switch, Trigger, Restart, Reload}
use Rattle.flow_line.specs.Command.{all_commands, has_keys, has_needed, key_of, named, takes}

unless_true : (b : Bool) → (b ≡ true → ⊥) → b ≡ false
unless_true true h = absurd (h refl)
unless_true false h = refl

both : (a b : Bool) → (a && b) ≡ true → (a ≡ true) × (b ≡ true)
both true b h = (refl, h)
both false b h = absurd cc

neither : (a b : Bool) → a ≡ false → b ≡ false → (a || b) ≡ false
neither a b x y = cc

turned : (a b : Text) → same a b ≡ true → same b a ≡ true
turned a b h = let is : a ≡ b = (bytes_eq-Decides a b).0 h in (bytes_eq-Decides b a).1 (sym is)

-- a key that the command doesn't take is none of those that it takes
apart : (c : Command) (key first : Text) → takes c key ≡ false → takes c first ≡ true → same first key ≡ false
apart c key first other own =
    unless_true (same first key) (λ h. let is : takes c first ≡ takes c key = ap (takes c) ((bytes_eq-Decides first key).0 h) in cc)

never : (c : Command) (ps : Pairs) → list_all (λ p. takes c p.0) ps ≡ true → (key : Text) → takes c key ≡ false
    → has_name key ps ≡ false
never c [] all key other = refl
never c (p ∷ ps) all key other =
    let h = both (takes c p.0) (list_all (λ q. takes c q.0) ps) all in
    neither (same p.0 key) (has_name key ps) (apart c key p.0 other h.0) (never c ps h.1 key other)

not_there : (c : Command) (ps : Pairs) → list_all (λ p. takes c p.0) ps ≡ true → (d : Command) → takes c (key_of d) ≡ false
    → has_name (key_of d) ps ≡ false
not_there c ps all d other = never c ps all (key_of d) other

there : (c : Command) (p : Text × Value) (ps : Pairs) → same p.0 (key_of c) ≡ true → has_name (key_of c) (p ∷ ps) ≡ true
there c p ps h = cc

-- the commands whose tests are true
abbrev those : List Bool → List Command → List Command
those [] commands = []
those (b ∷ bs) [] = []
those (b ∷ bs) (command ∷ commands) = cond b (command ∷ those bs commands) (those bs commands)

kept : (test : Command → Bool) (commands : List Command) → filter test commands ≡ those (map test commands) commands
kept test [] = refl
kept test (command ∷ commands) = ap (λ (rest : List Command). cond (test command) (command ∷ rest) rest) (kept test commands)

eight : {a b c d e f g h s t u v w x y z : Bool} → a ≡ s → b ≡ t → c ≡ u → d ≡ v → e ≡ w → f ≡ x → g ≡ y → h ≡ z
    → a ∷ b ∷ c ∷ d ∷ e ∷ f ∷ g ∷ h ∷ [] ≡ s ∷ t ∷ u ∷ v ∷ w ∷ x ∷ y ∷ z ∷ []
eight p q r s t u v w = cc

abbrev stand : Pairs → Command → Bool
stand ps command = has_name (key_of command) ps

-- the key of each command stands where this one takes it, which is where it is this one
tests : (c : Command) (p : Text × Value) (ps : Pairs) → same p.0 (key_of c) ≡ true → list_all (λ q. takes c q.0) (p ∷ ps) ≡ true
    → map (stand (p ∷ ps)) all_commands ≡ map (λ d. takes c (key_of d)) all_commands
tests Report p ps h all =
    let own = there Report p ps h in let none = not_there Report (p ∷ ps) all in
    eight own (none Gone refl) (none Event refl) (none Moment refl) (none Switch refl) (none Trigger refl) (none Restart refl) (none Reload refl)
tests Gone p ps h all =
    let own = there Gone p ps h in let none = not_there Gone (p ∷ ps) all in
    eight (none Report refl) own (none Event refl) (none Moment refl) (none Switch refl) (none Trigger refl) (none Restart refl) (none Reload refl)
tests Event p ps h all =
    let own = there Event p ps h in let none = not_there Event (p ∷ ps) all in
    eight (none Report refl) (none Gone refl) own (none Moment refl) (none Switch refl) (none Trigger refl) (none Restart refl) (none Reload refl)
tests Moment p ps h all =
    let own = there Moment p ps h in let none = not_there Moment (p ∷ ps) all in
    eight (none Report refl) (none Gone refl) (none Event refl) own (none Switch refl) (none Trigger refl) (none Restart refl) (none Reload refl)
tests Switch p ps h all =
    let own = there Switch p ps h in let none = not_there Switch (p ∷ ps) all in
    eight (none Report refl) (none Gone refl) (none Event refl) (none Moment refl) own (none Trigger refl) (none Restart refl) (none Reload refl)
tests Trigger p ps h all =
    let own = there Trigger p ps h in let none = not_there Trigger (p ∷ ps) all in
    eight (none Report refl) (none Gone refl) (none Event refl) (none Moment refl) (none Switch refl) own (none Restart refl) (none Reload refl)
tests Restart p ps h all =
    let own = there Restart p ps h in let none = not_there Restart (p ∷ ps) all in
    eight (none Report refl) (none Gone refl) (none Event refl) (none Moment refl) (none Switch refl) (none Trigger refl) own (none Reload refl)
tests Reload p ps h all =
    let own = there Reload p ps h in let none = not_there Reload (p ∷ ps) all in
    eight (none Report refl) (none Gone refl) (none Event refl) (none Moment refl) (none Switch refl) (none Trigger refl) (none Restart refl) own

alone : (c : Command) → those (map (λ d. takes c (key_of d)) all_commands) all_commands ≡ c ∷ []
alone Report = refl
alone Gone = refl
alone Event = refl
alone Moment = refl
alone Switch = refl
alone Trigger = refl
alone Restart = refl
alone Reload = refl

one_named : (c : Command) (p : Text × Value) (ps : Pairs) → same p.0 (key_of c) ≡ true → list_all (λ q. takes c q.0) (p ∷ ps) ≡ true
    → named (p ∷ ps) ≡ c ∷ []
one_named c p ps h all =
    kept (stand (p ∷ ps)) all_commands ∙ ap (λ (bs : List Bool). those bs all_commands) (tests c p ps h all) ∙ alone c

-- the same, of a map that is known by its first pair
pub of_first : (c : Command) (p : Text × Value) (ps : Pairs) → 0 < length ps → p ≡ get_or ps 0 p → same (key_of c) p.0 ≡ true
    → has_keys c ps ≡ true → named ps ≡ c ∷ []
of_first c p [] some is h keys = absurd (omega (arith, some))
of_first c p (q ∷ ps) some is h keys =
    one_named c q ps (ap (λ (key : Text). same key (key_of c)) (ap (λ (x : Text × Value). x.0) (sym is)) ∙ turned (key_of c) p.0 h)
    (both (has_needed c (q ∷ ps)) (list_all (λ r. takes c r.0) (q ∷ ps)) keys).1
