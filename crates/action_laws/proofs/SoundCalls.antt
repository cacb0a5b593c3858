-- Spans, services and targets that are read of a sound tree are sound.
use Rattle.std.proofs.Common.{◌≡◌, ◌∙◌, ◌<◌, ◌≤◌, ◌+◌, ap, refl, sym, subst, ℕ, Bool, true, false, List, [], ◌∷◌, ◌++◌, length, Option, Some, None, Ok, Err, arith, length-append}
use Rattle.std.specs.Prelude.{◌&&◌, if◌then◌else◌, nat_eq, codes, is_some}
use Rattle.std.specs.List.{list_all}
use Rattle.ha_value.specs.Ids.{read_entity}
use Rattle.ha_config.specs.declared.config.SpanForm.{SpanForm}
use Rattle.ha_config.specs.declared.template.Template.{Template}
use Rattle.ha_config.specs.declared.template.Piece.{Piece}
use Rattle.ha_config.specs.declared.template.Piece.TheVariants as pieces
use Rattle.ha_config.specs.declared.template.Piece.TheOpen.{Piece-F}
use Rattle.ha_config.specs.declared.template.Piece.TheFolds.{fold-Piece, fold-roll-Piece, fold-roll-Template}
use Rattle.ha_config.specs.Sound.{all_true, is_sound_span, is_sound_template, sound_piece_step}
use Rattle.yaml_scan.specs.declared.fault.Code.TheVariants as code
use Rattle.yaml_scan.specs.Words.{trimmed, without_blanks}
use Rattle.yaml_tree.specs.declared.node.Node.{Node}
use Rattle.yaml_tree.specs.declared.node.NodeKind.TheOpen.{NodeKind-F}
use Rattle.yaml_tree.specs.Readers.{Shape, line_of, shape_of, is_null_word}
use Rattle.conf_field.specs.declared.key.Key.TheVariants as key
use Rattle.conf_field.specs.declared.table.Row.{Row}
use Rattle.conf_field.specs.Holds.{Holds, Each, IfThere}
use Rattle.conf_field.specs.Fields.{Pair, field, get, keys, optional, row}
use Rattle.conf_field.specs.Kinds.{holds_template, scalar, scalar_by, template_by}
use Rattle.conf_field.specs.Readings.{Read, bad, behind, both, each, made}
use Rattle.conf_field.specs.Sizes.{size, total}
use Rattle.conf_field.specs.Spans.{span_map, span_rows, span_text as literal_span}
use Rattle.conf_field.specs.Values.{are_digits}
use Rattle.conf_script.specs.Forms.{digits, digits_by, has_template, known_text, literal, made_parts, map_span, part_at, part_or, parts_map, span_form, span_form_by, span_text, template_or_digits}
use Rattle.conf_script.specs.Calls.{id_text, ids_from, is_comma, made_target, map_target, or_none, part_id, service, service_by, target, target_by, targets, targets_behind, targets_by, targets_text}
use Rattle.conf_laws.proofs.Down.{AreSoundPairs, IsSoundShape, most, size-out, size_by, sound_inside}
use Rattle.conf_laws.proofs.Joined.{one_more, pair}
use Rattle.conf_laws.proofs.Parts.{AllOf, Anything, Passes, Reads, Two, all_items, anything, either_way, field_sound, grown, joined, made_of, of_get, of_optional}
use Rattle.action_laws.proofs.Readings.{HasLength, and_too, each_many, templates}

abbrev SoundTemplate : Template → Type 0
SoundTemplate = Passes is_sound_template

abbrev SoundSpan : SpanForm → Type 0
SoundSpan = Passes is_sound_span

-- ---- literal templates

abbrev piece_sound : Piece → Bool
piece_sound = fold-Piece Bool Bool sound_piece_step (λ t. all_true t.pieces)

text_piece : (t : List ℕ) → piece_sound (pieces.Text t) ≡ true
text_piece t = ap piece_sound (sym (pieces.rolls-Text t)) ∙ fold-roll-Piece Bool Bool sound_piece_step (λ x. all_true x.pieces) (Piece-F.Text t)

literal_sound : (t : List ℕ) → is_sound_template (literal t) ≡ true
literal_sound t =
    fold-roll-Template Bool Bool sound_piece_step (λ x. all_true x.pieces) (record { pieces = pieces.Text t ∷ [] })
    ∙ ap (λ b. all_true (b ∷ [])) (text_piece t)

-- ---- lists of targets

abbrev Targets : ℕ → List Template → Type 0
Targets m = AllOf is_sound_template m

one_target : (m : ℕ) (before : Read (List Template)) (r : Read Template) → Holds (Targets m) before → Holds SoundTemplate r → Holds (Targets (m + 1)) (behind before r)
one_target m (Ok xs) (Ok x) h k = (one_more is_sound_template xs x h.0 k, omega (arith, h.1, length-append xs (x ∷ [])))
one_target m (Ok xs) (Err f) h k = tt
one_target m (Err f) (Ok x) h k = tt
one_target m (Err f) (Err g) h k = tt

at_fault : (m : ℕ) (before : Read (List Template)) (line : ℕ) → Holds (Targets m) (behind before (bad line code.Kind))
at_fault m (Ok xs) line = tt
at_fault m (Err f) line = tt

more : (m n : ℕ) (r : Read (List Template)) → m ≤ n → Holds (Targets m) r → Holds (Targets n) r
more m n r le h = grown is_sound_template m n r le h

id_sound : (line : ℕ) (t : List ℕ) → Holds SoundTemplate (id_text line t)
id_sound line t = either_way SoundTemplate (is_some (read_entity t)) (Ok (literal t)) (bad line code.EntityId) (literal_sound t) tt

part_sound : (line : ℕ) (part : List ℕ) → Holds SoundTemplate (part_id line part)
part_sound line part = id_sound line (trimmed (without_blanks part))

ids_hold : (line m : ℕ) (before : Read (List Template)) (part t : List ℕ) → Holds (Targets m) before → Holds (Targets (m + 1 + length t)) (ids_from line before part t)
unfolding ids_from
ids_hold line m before part [] h =
    more (m + 1) (m + 1 + 0) (behind before (part_id line part)) (omega arith) (one_target m before (part_id line part) h (part_sound line part))
ids_hold line m before part (b ∷ rest) h =
    either_way (Targets (m + 1 + length (b ∷ rest))) (is_comma b) (ids_from line (behind before (part_id line part)) [] rest) (ids_from line before (part ++ b ∷ []) rest)
    (more (m + 1 + 1 + length rest) (m + 1 + length (b ∷ rest)) (ids_from line (behind before (part_id line part)) [] rest) (omega arith)
    (ids_hold line (m + 1) (behind before (part_id line part)) [] rest (one_target m before (part_id line part) h (part_sound line part))))
    (more (m + 1 + length rest) (m + 1 + length (b ∷ rest)) (ids_from line before (part ++ b ∷ []) rest) (omega arith) (ids_hold line m before (part ++ b ∷ []) rest h))

-- the text of a scalar is no longer than its node
fits_or_null : (t : List ℕ) (b : Bool) → IfThere (λ (x : List ℕ). 1 + length x ≤ 1 + length t) (if b then None else Some t)
fits_or_null t true = tt
fits_or_null t false = omega arith

shape_fits : (s : Shape) → IfThere (λ (t : List ℕ). 1 + length t ≤ size_by s) (scalar_by s)
shape_fits (NodeKind-F.Scalar t plain) = fits_or_null t (plain && is_null_word t)
shape_fits (NodeKind-F.List ns) = tt
shape_fits (NodeKind-F.Map ps) = tt

scalar_fits : (n : Node) → IfThere (λ (t : List ℕ). 1 + length t ≤ size n) (scalar n)
scalar_fits n = subst (λ (k : ℕ). IfThere (λ (t : List ℕ). 1 + length t ≤ k) (scalar n)) (sym (size-out n)) (shape_fits (shape_of n))

-- sound targets, so few that two lists of them together are still short
abbrev pub FewTargets : List Template → Type 0
FewTargets = AllOf is_sound_template 2_147_483_647

pub few_or_none : (o : Option (List Template)) → IfThere FewTargets o → FewTargets (or_none o)
few_or_none (Some ts) h = h
few_or_none None h = (refl, omega arith)

-- ---- services

service_sound : (line : ℕ) (o : Option (List ℕ)) → Holds SoundTemplate (service_by line o)
service_sound line None = tt
service_sound line (Some t) = either_way SoundTemplate (holds_template t) (template_by line (Some t)) (id_text line t) (templates line (Some t)) (id_sound line t)

pub service_holds : Reads SoundTemplate service
service_holds line n t = service_sound line (scalar n)

-- ---- targets

text_targets : (m k : ℕ) (before : Read (List Template)) (line : ℕ) (o : Option (List ℕ)) → IfThere (λ (t : List ℕ). 1 + length t ≤ k) o
    → Holds (Targets m) before → Holds (Targets (m + k)) (targets_text before line o)
text_targets m k before line None fits h = at_fault (m + k) before line
text_targets m k before line (Some t) fits h =
    either_way (Targets (m + k)) (holds_template t) (behind before (template_by line (Some t))) (ids_from line before [] t)
    (more (m + 1) (m + k) (behind before (template_by line (Some t))) (omega (arith, fits)) (one_target m before (template_by line (Some t)) h (templates line (Some t))))
    (more (m + 1 + length t) (m + k) (ids_from line before [] t) (omega (arith, fits)) (ids_hold line m before [] t h))

each_target : (m : ℕ) (before : Read (List Template)) (ns : List Node) → Holds (Targets m) before → Holds (Targets (m + total size ns)) (targets_behind before ns)
unfolding targets_behind
each_target m before [] h = more m (m + 0) before (omega arith) h
each_target m before (n ∷ ns) h =
    more (m + size n + total size ns) (m + total size (n ∷ ns)) (targets_behind (targets_text before (line_of n) (scalar n)) ns) (omega arith)
    (each_target (m + size n) (targets_text before (line_of n) (scalar n)) ns (text_targets m (size n) before (line_of n) (scalar n) (scalar_fits n) h))

by_shape : (line k : ℕ) (o : Option (List ℕ)) (s : Shape) → IfThere (λ (t : List ℕ). 1 + length t ≤ k) o → size_by s ≤ k → k < most → Holds FewTargets (targets_by line o s)
by_shape line k o (NodeKind-F.Scalar t plain) fits le small =
    more (0 + k) 2_147_483_647 (targets_text (Ok []) line o) (omega (arith, small)) (text_targets 0 k (Ok []) line o fits (refl, omega arith))
by_shape line k o (NodeKind-F.List ns) fits le small =
    more (0 + total size ns) 2_147_483_647 (targets_behind (Ok []) ns) (omega (arith, le, small)) (each_target 0 (Ok []) ns (refl, omega arith))
by_shape line k o (NodeKind-F.Map ps) fits le small = tt

pub targets_hold : Reads FewTargets targets
targets_hold line n t = by_shape line (size n) (scalar n) (shape_of n) (scalar_fits n) (omega (arith, size-out n)) t.small

map_holds : (ps : List Pair) → AreSoundPairs ps → Holds FewTargets (map_target ps)
map_holds ps t =
    let known = keys (row key.EntityId ∷ []) ps in
    let given = get key.EntityId ps targets in
    made_of (Two Anything (IfThere FewTargets)) FewTargets made_target (both known given) (λ x h. few_or_none x.1 h.1)
    (joined Anything (IfThere FewTargets) known given (anything known) (of_get FewTargets targets targets_hold key.EntityId ps t))

in_target : (line : ℕ) (s : Shape) → IsSoundShape s → Holds FewTargets (target_by line s)
in_target line (NodeKind-F.Scalar t plain) h = tt
in_target line (NodeKind-F.List ns) h = tt
in_target line (NodeKind-F.Map ps) h = map_holds ps h

pub target_holds : Reads FewTargets target
target_holds line n t = in_target line (shape_of n) (sound_inside n t)

-- ---- spans

digits_text : (line : ℕ) (t : List ℕ) → Holds SoundTemplate (template_or_digits line t)
digits_text line t =
    either_way SoundTemplate (holds_template t) (template_by line (Some t)) (if are_digits t then Ok (literal t) else bad line code.Number) (templates line (Some t))
    (either_way SoundTemplate (are_digits t) (Ok (literal t)) (bad line code.Number) (literal_sound t) tt)

digits_sound : (line : ℕ) (o : Option (List ℕ)) → Holds SoundTemplate (digits_by line o)
digits_sound line (Some t) = digits_text line t
digits_sound line None = tt

pub digits_hold : Reads SoundTemplate digits
digits_hold line n t = digits_sound line (scalar n)

or_zero : (o : Option Template) → IfThere SoundTemplate o → SoundTemplate (part_or o)
or_zero (Some t) h = h
or_zero None h = literal_sound (codes "0")

module _ (ps : List Pair) (sound : AreSoundPairs ps) where
  part_holds : (r : Row) → Holds SoundTemplate (part_at ps r)
  part_holds r =
      made_of (IfThere SoundTemplate) SoundTemplate part_or (optional digits (field r ps)) or_zero
      (of_optional SoundTemplate digits digits_hold (field r ps) (field_sound r ps sound))

  parts_hold : (rows : List Row) → Each (λ r. Holds SoundTemplate (part_at ps r)) rows
  parts_hold [] = tt
  parts_hold (r ∷ rs) = (part_holds r, parts_hold rs)

  five_parts : (ts : List Template) → list_all is_sound_template ts ≡ true → length ts ≡ 5 → is_sound_span (SpanForm.Parts ts) ≡ true
  five_parts ts h e = pair (nat_eq (length ts) 5) (list_all is_sound_template ts) (ap (λ n. nat_eq n 5) e) h

  parts_span : Holds SoundSpan (parts_map ps)
  parts_span =
      let known = keys span_rows ps in
      let all = each (part_at ps) span_rows in
      let Parts : List Template → Type 0 = λ ts. AllOf is_sound_template 5 ts × HasLength 5 ts in
      made_of (Two Anything Parts) SoundSpan made_parts (both known all) (λ x h. five_parts x.1 h.1.0.0 h.1.1)
      (joined Anything Parts known all (anything known)
      (and_too (AllOf is_sound_template 5) (HasLength 5) all (all_items is_sound_template (part_at ps) span_rows (parts_hold span_rows)) (each_many (part_at ps) span_rows)))

  map_span_holds : (line : ℕ) → Holds SoundSpan (map_span line ps)
  map_span_holds line =
      either_way SoundSpan (has_template ps) (parts_map ps) (made SpanForm.Known (span_map line ps)) parts_span
      (made_of Anything SoundSpan SpanForm.Known (span_map line ps) (λ x h. refl) (anything (span_map line ps)))

text_span : (line : ℕ) (o : Option (List ℕ)) → Holds SoundSpan (span_text line o)
text_span line None = tt
text_span line (Some t) =
    either_way SoundSpan (holds_template t) (made SpanForm.Text (template_by line (Some t))) (known_text line t)
    (made_of SoundTemplate SoundSpan SpanForm.Text (template_by line (Some t)) (λ x h. h) (templates line (Some t)))
    (made_of Anything SoundSpan SpanForm.Known (literal_span line t) (λ x h. refl) (anything (literal_span line t)))

span_shape : (line : ℕ) (n : Node) (s : Shape) → IsSoundShape s → Holds SoundSpan (span_form_by line n s)
span_shape line n (NodeKind-F.Scalar t plain) h = text_span line (scalar n)
span_shape line n (NodeKind-F.List ns) h = tt
span_shape line n (NodeKind-F.Map ps) h = map_span_holds ps h line

pub span_holds : Reads SoundSpan span_form
span_holds line n t = span_shape line n (shape_of n) (sound_inside n t)
