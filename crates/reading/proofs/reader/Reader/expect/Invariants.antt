use Rattle.std.proofs.Common.{◌≡◌, drop}
use Rattle.reading.specs.Bytes.{expect}
use Rattle.reading.proofs.reader.Reader.expect.Given as goal

abbrev pub invariant-word : goal.invariant-word
invariant-word g l = expect l.code (drop l.w-index l.word) l.self ≡ expect l.code l.word l.initial.self
