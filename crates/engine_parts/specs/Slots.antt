-- A list of slots.
use Rattle.std.specs.Prelude.{ℕ, List, map, Option, option_map, refl}
use Rattle.std.specs.Coded.{Coded, code_by, coded×, coded_ℕ, coded_list, coded_option}
use Rattle.std.specs.Global.{Box}

-- what each slot holds, and how many more there is room for
pub record SlotTable (T : Type 0) : Type 0 where
  pub items : List (Option T)
  pub spare : ℕ

abbrev pub table_code : {T : Type 0} → Coded T → Coded (SlotTable T)
table_code {T} code =
    code_by (List (Option T) × ℕ) (coded× (coded_list (coded_option code)) coded_ℕ)
    (λ t. (t.items, t.spare)) (λ p. record { items = p.0; spare = p.1 }) (λ _. refl)

abbrev pub value_in : {T : Type 0} → Option (Box T) → Option T
value_in = option_map (λ b. b.value)

abbrev pub values_in : {T : Type 0} → List (Option (Box T)) → List (Option T)
values_in = map value_in
