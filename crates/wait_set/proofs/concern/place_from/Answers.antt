use Rattle.std.proofs.Common.{ltb, rules}
use Rattle.std.proofs.lemmas.List.Sorted.{IsPartitionPoint-from_clause, IsPartitionedBy-ltb}
use Rattle.wait_set.specs.declared.asked.Asked.{Asked}
use Rattle.wait_set.proofs.ConcernLemmas.{found-place, lesser-before, rising}
use Rattle.wait_set.proofs.concern.place_from.Goals as goal

pub returns-clause-here : goal.returns-clause-here
returns-clause-here c n d lt is =
    let parted = IsPartitionedBy-ltb (λ (a : Asked). a.owner) c.args.asks.now c.args.owner (rising c.args.asks.now c.requires) in
    let point = IsPartitionPoint-from_clause (λ (a : Asked). ltb a.owner c.args.owner) _ _ c.partition_point.ensures.partitioned parted (λ a r q k. search rules) in
    found-place c.args.asks.now c.args.owner c.partition_point.result n d c.requires point lt is

pub returns-clause-before : goal.returns-clause-before
returns-clause-before c n d before lt =
    let parted = IsPartitionedBy-ltb (λ (a : Asked). a.owner) c.args.asks.now c.args.owner (rising c.args.asks.now c.requires) in
    let point = IsPartitionPoint-from_clause (λ (a : Asked). ltb a.owner c.args.owner) _ _ c.partition_point.ensures.partitioned parted (λ a r q k. search rules) in
    lesser-before c.args.asks.now c.args.owner c.partition_point.result n d point before
