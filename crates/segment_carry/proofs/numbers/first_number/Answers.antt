use Rattle.std.proofs.Common.{◌∙◌, refl}
use Rattle.std.proofs.lemmas.Option.{slice_get_past, slice_get_read}
use Rattle.segment_carry.specs.ByName.{put_all}
use Rattle.segment_carry.proofs.JoinLemmas.{none-ascends, none-put, told-put}
use Rattle.segment_carry.proofs.numbers.first_number.Goals as goal

pub returns-in-Some-clause-put : goal.returns-in-Some-clause-put
returns-in-Some-clause-put c =
    let x = c.in-Some.name.now in
    let there = slice_get_read _ _ _ x refl c.in-Some.ensures.lookup.3.0 c.in-Some.ensures.lookup.1 in
    told-put c.args.last.now c.args.names.now x c.number_at.result c.one_number.result c.requires there c.number_at.ensures c.one_number.ensures.put

pub returns-in-None-clause-ascends : goal.returns-in-None-clause-ascends
returns-in-None-clause-ascends c = none-ascends _ c.make.ensures

pub returns-in-None-clause-put : goal.returns-in-None-clause-put
returns-in-None-clause-put c ps = (λ i. put_all (c.make.ensures i) ps) ∙ none-put c.args.last.now c.args.names.now ps (slice_get_past _ _ c.in-None.ensures.lookup.3)
