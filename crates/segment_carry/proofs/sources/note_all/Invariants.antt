use Rattle.std.proofs.Common.{◌≡◌, ℕ, ◌+◌, ◌<◌, ◌||◌, take}
use Rattle.std.specs.Prelude.{count_by, slice_index, vec_len}
use Rattle.std.specs.List.{list_any}
use Rattle.ha_model.specs.Lawful.{is_line_of, shuts}
use Rattle.segment_carry.specs.Sources.{is_true_at}
use Rattle.segment_carry.proofs.sources.note_all.Given as goal

abbrev pub invariant-entries : goal.invariant-entries
invariant-entries l = record {
  lines : (k : ℕ) → k < vec_len l.initial.lines → slice_index l.lines.items k ≡ slice_index l.initial.lines.items k + count_by (is_line_of k) (take l.entry-index l.entries);
  shut : (k : ℕ) → k < vec_len l.initial.shut → is_true_at l.shut.items k ≡ (is_true_at l.initial.shut.items k || list_any (shuts k) (take l.entry-index l.entries));
  lines_len : vec_len l.lines ≡ vec_len l.initial.lines;
  shut_len : vec_len l.shut ≡ vec_len l.initial.shut;
}
