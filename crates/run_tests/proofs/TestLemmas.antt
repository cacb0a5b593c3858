-- A run that was found, and that is begun and live, meets what an end asks for.
use Rattle.std.proofs.Common.{◌≡◌, ℕ, Bool, true, false, ◌&&◌, refl, sym, true≢false, rules, Option}
use Rattle.std.specs.Prelude.{Some, None, is_none, is_some, nat_eq}
use Rattle.ha_model.specs.declared.record.EndCause.{EndCause}
use Rattle.ha_model.specs.declared.record.Record.{Record}
use Rattle.ha_model.specs.Lawful.{record_of}
use Rattle.ha_model.specs.Records.{Records}
use Rattle.run_modes.specs.Table.{HasBegun}

both : (a b : Bool) → (a && b) ≡ true → (a ≡ true) × (b ≡ true)
both true b h = (refl, h)
both false b h = absurd (true≢false (sym h))

begun : (o : Option ℕ) → is_some o ≡ true → HasBegun o
begun None h = absurd (true≢false (sym h))
begun (Some b) h = tt

live : (o : Option (ℕ × EndCause)) → is_none o ≡ true → o ≡ None
live None h = refl
live (Some e) h = absurd (true≢false (sym h))

same_serial : (m n : ℕ) → nat_eq m n ≡ true → m ≡ n
same_serial m n h = search rules

pub runs-here : (records : Records) (serial : ℕ) (r : Record) → record_of records serial ≡ Some r → (nat_eq r.serial serial && is_some r.begin && is_none r.end) ≡ true
    → (x : Record) × (record_of records serial ≡ Some x) × (x.serial ≡ serial) × HasBegun x.begin × (x.end ≡ None)
runs-here records serial r found h =
    let last = both (nat_eq r.serial serial && is_some r.begin) (is_none r.end) h in
    let first = both (nat_eq r.serial serial) (is_some r.begin) last.0 in
    (r, found, same_serial r.serial serial first.0, begun r.begin first.1, live r.end last.1)
