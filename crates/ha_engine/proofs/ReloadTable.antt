-- The table of runs where more units come into force.
use Rattle.std.proofs.Common.{◌≡◌, ℕ, zero, suc, ◌<◌, List, [], ◌∷◌, length, map, refl, sym, ap, ◌∙◌, arith}
use Rattle.std.specs.Prelude.{Err, Ok, OnOk, Result, nat_lt, slice_index_or}
use Rattle.std.specs.List.{list_all}
use Rattle.ha_config.specs.Words.{Text}
use Rattle.ha_journal.specs.Journal.{Journal, more, names, units}
use Rattle.ha_whole.specs.Segments.{carried_number}
use Rattle.segment_runs.specs.Segment.{number_at}
use Rattle.named_runs.specs.Named.{GoesOn, NamedTable}
use Rattle.unit_book.specs.declared.book.UnitBook.{UnitBook}
use Rattle.unit_book.specs.Book.{firsts_of}
use Rattle.unit_book.proofs.FirstLemmas.{firsts-within, names-many, text-name, text_at}
use Rattle.ha_journal.proofs.ForceLaws.{more-units}
use Rattle.ha_engine.specs.declared.bounds.Bounds.{Bounds}
use Rattle.ha_engine.specs.Reloads.{EntersUnits}
use Rattle.ha_engine.proofs.FollowedLemmas.{firsts-told}

pub on-both : {T E : Type 0} (P Q : Type 0) (r : Result T E) → OnOk r P → OnOk r Q → OnOk r (P × Q)
on-both P Q (Ok x) p q = (p, q)
on-both P Q (Err e) p q = tt

pub mapped-at : (f : Text → ℕ) (ns : List Text) (a : ℕ) → a < length ns → slice_index_or (map f ns) a 0 ≡ f (text_at ns a)
mapped-at f [] a lt = absurd (omega (arith, lt))
mapped-at f (n ∷ ns) zero lt = refl
mapped-at f (n ∷ ns) (suc a) lt = mapped-at f ns a (omega (arith, lt))

module _ (k : Journal) (b : Bounds) (u : UnitBook) (t : NamedTable) (h : EntersUnits k b u t) where
  abbrev behind : Journal
  behind = more h.s h.x

  book-firsts : u.firsts.items ≡ firsts_of (names behind)
  book-firsts = firsts-told k behind u h.holds

  -- LAW: the firsts of its units go on
  pub enters-firsts : GoesOn t.firsts u.firsts.items
  enters-firsts = record {
    within = ap (λ (l : List ℕ). list_all (λ n. nat_lt n (length l)) l) book-firsts ∙ firsts-within (names behind);
    longer = h.longer;
    alike = h.firsts_are;
  }

  -- LAW: each unit that was there has the number that is carried for its name
  pub enters-numbers : (a : ℕ) → a < length t.firsts → number_at t.closed.numbers a ≡ number_at (map (carried_number h.s) u.names) a
  enters-numbers a lt =
      let known : a < length (units h.s) = omega (arith, lt, h.count_is) in
      let most = more-units h.s h.x in
      let many = names-many behind in
      h.numbers a known
      ∙ ap (carried_number h.s) (sym (h.names_grow a known) ∙ sym (text-name (units behind) a))
      ∙ sym (mapped-at (carried_number h.s) (names behind) a (omega (arith, known, most, many)))
      ∙ (λ i. slice_index_or (map (carried_number h.s) (sym h.holds.names_are i)) a 0)
