-- A count that rose in one call rose over the calls around it, too.
use Rattle.std.proofs.Common.{◌≡◌, ◌⊎◌, ℕ, ◌-◌, ◌^◌, ◌<◌, ◌≤◌, arith, inl, inr}
use Rattle.std.proofs.Math.Nat.{eq-or-lt_of_le}
use Rattle.ha_io.specs.Counts.{Rose}

pub Rose-from_zero : (after : ℕ) → Rose 0 after → 0 < after
Rose-from_zero after (inl rose) = rose
Rose-from_zero after (inr stands) = omega (arith, stands.0, stands.1)

-- where the count at first stands at its greatest value, it still does or rose
stood : (first before after last : ℕ) → first ≤ before → before ≡ 2 ^ 64 - 1 → after ≡ 2 ^ 64 - 1 → after ≤ last → (first ≡ last) ⊎ (first < last) → Rose first last
stood first before after last low at_before at_after high (inl same) = inr (omega (arith, low, at_before, at_after, high, same), omega (arith, low, at_before, at_after, high, same))
stood first before after last low at_before at_after high (inr rose) = inl rose

pub Rose-within : (first before after last : ℕ) → first ≤ before → Rose before after → after ≤ last → Rose first last
Rose-within first before after last low (inl rose) high = inl (omega (arith, low, rose, high))
Rose-within first before after last low (inr stands) high =
    stood first before after last low stands.0 stands.1 high (eq-or-lt_of_le (omega (arith, low, stands.0, stands.1, high)))
