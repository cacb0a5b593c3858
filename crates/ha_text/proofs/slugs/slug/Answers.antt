use Rattle.std.proofs.Common.{◌≡◌, ◌<◌, ◌+◌, ◌++◌, ◌∷◌, [], ℕ, List, false, drop, length, get_or, not, sym, ap, ◌∙◌, drop-cons, drop_of_length-le, append-nil, string_bytes, add-one}
use Rattle.std.specs.Prelude.{nat_eq, string_len}
use Rattle.ha_text.specs.Slug.{runs, joined, named}
use Rattle.ha_text.proofs.SlugLemmas.{behind, written, passed, no_more, from_start}
use Rattle.ha_text.proofs.slugs.slug.Goals as goal
use Rattle.ha_text.proofs.slugs.slug.Goals.{then-stays+in_ok-put, else-stays}

next_byte : (text : List ℕ) (i : ℕ) → i < length text → drop i text ≡ get_or text i 0 ∷ drop (i + 1) text
next_byte text i h = rw add-one (drop-cons text i 0 h)

pub bytes-preserved : goal.bytes-preserved
bytes-preserved c =
    let text = c.args.text.now in
    let i = c.bytes.b-index in
    elim c.if-stays.branch [
      | then-stays+in_ok-put w ↦
          rw (w.slug-is, w.apart-is) (written (string_bytes c.bytes.slug) (string_bytes w.put.new.slug) text (behind false false text) (string_len c.bytes.slug) (string_len w.put.new.slug) i (get_or text i 0) c.bytes.apart c.bytes.invariant (next_byte text i c.bytes-test.true)
          (sym c.stays.ensures ∙ w.if-stays.true) w.in_ok-put.ensures.bytes w.in_ok-put.ensures.some)
      | else-stays w ↦
          rw (w.slug-is, w.apart-is) (passed (string_bytes c.bytes.slug) text (behind false false text) (string_len c.bytes.slug) i (get_or text i 0) c.bytes.apart c.bytes.invariant (next_byte text i c.bytes-test.true) (sym c.stays.ensures ∙ w.if-stays.false))
    ]

pub returns : goal.returns
returns c =
    let text = c.args.text.now in
    let done : drop c.bytes.b-index text ≡ [] = drop_of_length-le text c.bytes-test.false in
    let whole : string_bytes c.bytes.slug ≡ joined (runs [] text) =
    sym (append-nil (string_bytes c.bytes.slug)) ∙ ap (λ (t : List ℕ). string_bytes c.bytes.slug ++ t) (sym (no_more (not (nat_eq (string_len c.bytes.slug) 0)) c.bytes.apart))
    ∙ ap (λ (t : List ℕ). string_bytes c.bytes.slug ++ behind (not (nat_eq (string_len c.bytes.slug) 0)) c.bytes.apart t) (sym done) ∙ c.bytes.invariant ∙ from_start false text in
    c.in_ok-word.ensures ∙ c.in_ok-named.ensures ∙ ap named whole
