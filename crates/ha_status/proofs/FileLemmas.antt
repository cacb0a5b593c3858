-- What a file holds of which a source gave more bytes than it may have.
use Rattle.std.proofs.Common.{◌≡◌, ◌<◌, ◌+◌, ◌++◌, ℕ, Option, Some, None, ap, refl, sym, ◌∙◌, arith, length, length-append}
use Rattle.std.specs.Prelude.{IfSome, IsSome, IsSomeAnd}
use Rattle.ha_io.specs.Told.{Gives, HasFile}
use Rattle.ha_status.specs.StatusLine.{Text}
use Rattle.ha_status.specs.Files.{Files, HoldsText}

-- what a source holds is longer than what it gave
given_long : (text bytes : Text) (n : ℕ) (after : Option Text) → length bytes ≡ n + 1 → Gives (Some text) bytes after → n < length text
given_long text bytes n None e g = absurd (let bad : ◌≡◌ {A = Option Text} (Some text) None = g in cc)
given_long text bytes n (Some rest) e g =
    let same : text ≡ bytes ++ rest = (let whole : ◌≡◌ {A = Option Text} (Some text) (Some (bytes ++ rest)) = g in cc) in
    omega (arith, ap length same, length-append bytes rest, e)

pub long_file : (files : Option Files) (name : Text) (left after : Option Text) (n : ℕ) → HasFile files name left
    → (bytes : Text) × (length bytes ≡ n + 1) × Gives left bytes after → (text : Text) × HoldsText files name text × (n < length text)
long_file None name left after n h g = (g.0, tt, omega (arith, g.1))
long_file (Some f) name left after n h g = by (f name) refl h
  where
    by : (file : Option Text) → f name ≡ file → IsSomeAnd file (λ bytes. left ≡ Some bytes) → (text : Text) × (f name ≡ Some text) × (n < length text)
    by None e h' = absurd h'
    by (Some held) e h' = (held, e, given_long held g.0 n after g.1 (sym h' ∙ g.2))

pub is_there : (files : Option Files) (name : Text) (left : Option Text) → HasFile files name left → IfSome files (λ f. IsSome (f name))
is_there None name left h = tt
is_there (Some f) name left h = by (f name) h
  where
    by : (file : Option Text) → IsSomeAnd file (λ bytes. left ≡ Some bytes) → IsSome file
    by None h' = absurd h'
    by (Some held) h' = refl
