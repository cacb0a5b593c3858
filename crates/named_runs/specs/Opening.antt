-- What the next segment begins with.
use Rattle.std.specs.Prelude.{◌≡◌, ◌<◌, ◌^◌, ℕ, List, length, nat_lt, slice_index_or, true}
use Rattle.std.specs.List.{list_all}
use Rattle.segment_runs.specs.Segment.{number_at}
use Rattle.named_runs.specs.declared.runs.Opening.{Opening}

-- it has these units, of which closed segments have so many runs, and the segment none
pub record IsOpening (firsts numbers : List ℕ) (o : Opening) : Type 0 where
  pub firsts_are : o.firsts.items ≡ firsts
  pub numbers_are : o.numbers ≡ numbers
  pub within : list_all (λ n. nat_lt n (length firsts)) firsts ≡ true
  pub whole : length o.counts.items ≡ length firsts
  pub none : (n : ℕ) → n < length firsts → slice_index_or o.counts.items n 0 ≡ 0
  pub small : (a : ℕ) → number_at numbers a < 2 ^ 62
