use Rattle.std.proofs.Common.{◌≡◌, ◌++◌, drop, not, false, string_bytes}
use Rattle.std.specs.Prelude.{nat_eq, string_len}
use Rattle.ha_text.proofs.SlugLemmas.{behind}
use Rattle.ha_text.proofs.slugs.slug.Given as goal

abbrev pub invariant-bytes : goal.invariant-bytes
invariant-bytes l = string_bytes l.slug ++ behind (not (nat_eq (string_len l.slug) 0)) l.apart (drop l.b-index l.text) ≡ behind false false l.text
