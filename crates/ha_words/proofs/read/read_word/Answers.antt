use Rattle.std.proofs.Common.{ap, sym, rules, true, false, map, string_bytes, codes, ◌≡◌, ◌∙◌, List, Option, Some, None, if◌then◌else◌}
use Rattle.clap.specs.Words.{Text, first_of, matches_of}
use Rattle.ha_words.specs.Grammar.{one_word_app, takes_words}
use Rattle.ha_words.specs.Texts.{is_value}
use Rattle.ha_words.specs.PlanOf.{one_word, value_or_none}
use Rattle.ha_words.proofs.read.read_word.Goals as goal

refused : (name : Text) (words : List Text) → takes_words (one_word_app name) words ≡ false → one_word name words ≡ None
unfolding one_word
refused name words e = ap (λ b. if b then value_or_none (first_of (codes "word") (matches_of (one_word_app name) words)) else None) e

taken : (name : Text) (words : List Text) (o : Option Text) → takes_words (one_word_app name) words ≡ true → first_of (codes "word") (matches_of (one_word_app name) words) ≡ o → one_word name words ≡ value_or_none o
unfolding one_word
taken name words o e h = ap (λ b. if b then value_or_none (first_of (codes "word") (matches_of (one_word_app name) words)) else None) e ∙ ap value_or_none h

valued : (w : Text) → is_value w ≡ true → value_or_none (Some w) ≡ Some w
valued w e = ap (λ b. if b then Some w else None) e

hyphened : (w : Text) → is_value w ≡ false → value_or_none (Some w) ≡ None
hyphened w e = ap (λ b. if b then Some w else None) e

pub returns-in-Err-clause-usage : goal.returns-in-Err-clause-usage
returns-in-Err-clause-usage c = λ u. refused c.args.name.now (map string_bytes c.args.words.now) (c.in-Err.ensures.usage u)

pub returns-in-None-clause-usage : goal.returns-in-None-clause-usage
returns-in-None-clause-usage c = λ u.
    taken c.args.name.now (map string_bytes c.args.words.now) None c.in-Ok.ensures.takes
    (ap (first_of (codes "word")) (sym c.in-Ok.ensures.rows) ∙ sym c.in-None.ensures)

pub returns-then-not-is_value-clause-usage : goal.returns-then-not-is_value-clause-usage
returns-then-not-is_value-clause-usage c = λ u.
    let value : is_value c.in-Some.word.now ≡ false = search rules in
    taken c.args.name.now (map string_bytes c.args.words.now) (Some c.in-Some.word.now) c.in-Ok.ensures.takes
    (ap (first_of (codes "word")) (sym c.in-Ok.ensures.rows) ∙ sym c.in-Some.ensures) ∙ hyphened c.in-Some.word.now value

pub returns-in-Ok-from_str-clause-word : goal.returns-in-Ok-from_str-clause-word
returns-in-Ok-from_str-clause-word c =
    let value : is_value c.in-Some.word.now ≡ true = search rules in
    let copied : c.in-Ok-from_str.word ≡ c.in-Some.word.now = search rules in
    taken c.args.name.now (map string_bytes c.args.words.now) (Some c.in-Some.word.now) c.in-Ok.ensures.takes
    (ap (first_of (codes "word")) (sym c.in-Ok.ensures.rows) ∙ sym c.in-Some.ensures) ∙ valued c.in-Some.word.now value
    ∙ ap (λ (w : Text). Some w) (sym copied)
