-- One target, or one byte of a text of targets, further.
use Rattle.std.proofs.Common.{◌≡◌, ◌∙◌, ◌<◌, ◌≤◌, ◌+◌, ap, sym, ℕ, true, false, if◌then◌else◌, List, [], ◌∷◌, ◌++◌, length, drop, get_or}
use Rattle.std.proofs.lemmas.List.{drop_all, drop_more}
use Rattle.ha_config.specs.declared.template.Template.{Template}
use Rattle.yaml_tree.specs.declared.node.Node.{Node}
use Rattle.yaml_tree.specs.Readers.{line_of}
use Rattle.conf_field.specs.Readings.{Read, behind}
use Rattle.conf_field.specs.Kinds.{scalar}
use Rattle.conf_script.specs.Calls.{ids_from, is_comma, part_id, targets_behind, targets_text}

pub target_more : (before : Read (List Template)) (xs : List Node) (i : ℕ) (x : Node) → i < length xs → get_or xs i x ≡ x
    → targets_behind before (drop i xs) ≡ targets_behind (targets_text before (line_of x) (scalar x)) (drop (i + 1) xs)
unfolding targets_behind
target_more before xs i x within here = ap (targets_behind before) (drop_more xs i x within ∙ ap (λ v. v ∷ drop (i + 1) xs) here)

module _ (line : ℕ) (now : Read (List Template)) (part text : List ℕ) (i : ℕ) (within : i < length text) where
  abbrev byte : ℕ
  byte = get_or text i 0

  abbrev rest : List ℕ
  rest = drop (i + 1) text

  abbrev ended : Read (List Template)
  ended = ids_from line (behind now (part_id line part)) [] rest

  abbrev longer : Read (List Template)
  longer = ids_from line now (part ++ byte ∷ []) rest

  one_byte : ids_from line now part (drop i text) ≡ (if is_comma byte then ended else longer)
  unfolding ids_from
  one_byte = ap (ids_from line now part) (drop_more text i 0 within)

  -- a comma ends an id
  pub id_ends : is_comma byte ≡ true → ids_from line now part (drop i text) ≡ ended
  id_ends h = one_byte ∙ ap (λ t. if t then ended else longer) h

  pub id_goes_on : is_comma byte ≡ false → ids_from line now part (drop i text) ≡ longer
  id_goes_on h = one_byte ∙ ap (λ t. if t then ended else longer) h

-- the end of the text ends the last id
pub last_id : (line : ℕ) (now : Read (List Template)) (part text : List ℕ) (i : ℕ) → length text ≤ i
    → behind now (part_id line part) ≡ ids_from line now part (drop i text)
unfolding ids_from
last_id line now part text i end = sym (ap (ids_from line now part) (drop_all i text end))
