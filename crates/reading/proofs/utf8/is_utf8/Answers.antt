use Rattle.std.proofs.Common.{◌≡◌, Bool, true, false, List, ℕ, Result, Ok, Err, MatchResult, is_ok, IsUtf8, refl, sym, ◌∙◌}
use Rattle.std.specs.Str.{is_utf8}
use Rattle.std.proofs.lemmas.Str.{IsUtf8-from_is_utf8, is_utf8-from_IsUtf8}
use Rattle.reading.proofs.utf8.is_utf8.Goals as goal

unless_true : (b : Bool) → (b ≡ true → ⊥) → b ≡ false
unless_true true h = absurd (h refl)
unless_true false h = refl

as_tested : {A E : Type 0} (r : Result A E) (bytes : List ℕ) (X : A → Type 0) (Y : E → Type 0) → MatchResult r (λ s. X s × IsUtf8 bytes) (λ e. ¬ (IsUtf8 bytes) × Y e) → is_ok r ≡ is_utf8 bytes
as_tested (Ok x) bytes X Y h = sym (is_utf8-from_IsUtf8 bytes h.1)
as_tested (Err e) bytes X Y h = sym (unless_true (is_utf8 bytes) (λ t. h.0 (IsUtf8-from_is_utf8 bytes t)))

pub returns : goal.returns
returns c = c.is_ok.ensures.value ∙ as_tested _ c.args.bytes.now _ _ c.from_utf8.ensures.cases
