-- How many units there are behind a Boot and behind a Reload.
use Rattle.std.proofs.Common.{◌≡◌, ℕ, suc, ◌+◌, ◌<◌, ◌≤◌, List, [], ◌∷◌, ◌++◌, length, map, filter, cond, Bool, true, false, refl, ap, ◌∙◌, rules, arith, length-append}
use Rattle.std.specs.Prelude.{Some, None, count_by, fold, is_none, is_some, nat_lt, if◌then◌else◌}
use Rattle.std.specs.Option.{option_map_or}
use Rattle.std.proofs.lemmas.List.{length-map}
use Rattle.ha_config.specs.declared.config.Config.{Config}
use Rattle.ha_config.specs.Equality.{same_automation, same_script}
use Rattle.ha_config.specs.Numbered.{kept_number}
use Rattle.ha_config.specs.Sound.{IsSoundConfig, is_sound_config}
use Rattle.ha_config.specs.Units.{as_unit, units_of}
use Rattle.ha_config.proofs.UnitLemmas.{units-few}
use Rattle.ha_journal.specs.declared.entry.Entry.{Entry}
use Rattle.ha_journal.specs.Commands.{lets_reload}
use Rattle.ha_journal.specs.Entries.{Opening, boot_of, is_reload, reload_in}
use Rattle.ha_journal.specs.Force.{Force, force, new_rules, new_scripts, nothing, opened}
use Rattle.ha_journal.specs.Journal.{HasEntry, Journal, more, units}
use Rattle.ha_journal.proofs.ForceLaws.{entered, units-grow}
use Rattle.engine_parts.specs.Numbers.{AreFew}
use Rattle.engine_parts.proofs.ViewLemmas.{true-of}

count-snoc : {X : Type 0} (p : X → Bool) (n : ℕ) (xs : List X) (x : X) → fold (λ m y. m + cond (p y) 1 0) n (xs ++ (x ∷ [])) ≡ fold (λ m y. m + cond (p y) 1 0) n xs + cond (p x) 1 0
count-snoc p n [] x = refl
count-snoc p n (y ∷ ys) x = count-snoc p (n + cond (p y) 1 0) ys x

filter-short : {X : Type 0} (p : X → Bool) (xs : List X) → length (filter p xs) ≤ length xs
filter-short p [] = omega arith
filter-short p (x ∷ xs) = by (p x) (filter-short p xs)
  where
    by : (b : Bool) → length (filter p xs) ≤ length xs → length (if b then x ∷ filter p xs else filter p xs) ≤ suc (length xs)
    by true h = omega (arith, h)
    by false h = omega (arith, h)

less-of : (a b : ℕ) → nat_lt a b ≡ true → a < b
less-of a b e = search (rules, e)

-- a configuration brings no more units than it has
brings-few : (f : Force) (c : Config) → length (entered f (Some c)) ≤ length (units_of c)
brings-few f c =
    let rules_few = filter-short (λ y. is_none (kept_number same_automation f.rules y)) c.automations in
    let scripts_few = filter-short (λ y. is_none (kept_number same_script f.scripts y)) c.scripts in
    let sum = length-append (new_rules f c) (map as_unit (new_scripts f c)) in
    let made = length-map (new_scripts f c) as_unit in
    let whole = length-append c.automations (map as_unit c.scripts) in
    let all = length-map c.scripts as_unit in
    omega (arith, rules_few, scripts_few, sum, made, whole, all)

-- LAW: behind a Reload of a sound configuration, where one more may stand, there are few units
pub few-reloaded : (j : Journal) (x : Entry) (c : Config) → HasEntry j → reload_in x ≡ Some c → IsSoundConfig c → lets_reload j ≡ true → AreFew j → AreFew (more j x)
few-reloaded j x c some reloads sound lets few =
    let count : count_by is_reload (more j x) ≡ count_by is_reload j + 1 = count-snoc is_reload 0 j x ∙ (λ i. count_by is_reload j + cond (is_some (reloads i)) 1 0) in
    let low = less-of (count_by is_reload j) 64 lets in
    let grown : length (units (more j x)) ≡ length (units j) + length (entered (force j) (Some c))
    = ap length (units-grow j x some) ∙ length-append (units j) (entered (force j) (reload_in x)) ∙ (λ i. length (units j) + length (entered (force j) (reloads i))) in
    let brought = brings-few (force j) c in
    let most = units-few c (true-of (is_sound_config c) sound) in
    record {
      reloads = omega (arith, count, low);
      units = omega (arith, count, grown, brought, most, few.units);
    }

-- LAW: behind a Boot there are those of its configuration
pub few-opened : (x : Entry) (b : Opening) → boot_of x ≡ Some b → reload_in x ≡ None → IsSoundConfig b.config → AreFew (x ∷ [])
few-opened x b boots reloads sound =
    let count : count_by is_reload (x ∷ []) ≡ 0 = (λ i. 0 + cond (is_some (reloads i)) 1 0) in
    let first : length (units (x ∷ [])) ≡ length (units_of b.config) = (λ i. length (option_map_or (λ (o : Opening). opened o.config) (boots i) nothing).units) in
    let most = units-few b.config (true-of (is_sound_config b.config) sound) in
    record {
      reloads = omega (arith, count);
      units = omega (arith, count, first, most);
    }
