-- A slug as a loop over the bytes writes it.
use Rattle.std.proofs.Common.{◌≡◌, ℕ, Bool, true, false, cond, not, ◌&&◌, ◌⊎◌, ◌<◌, ◌+◌, arith, List, [], ◌∷◌, ◌++◌, length, drop, refl, sym, ap, ◌∙◌, append_assoc, inl, inr}
use Rattle.std.specs.Prelude.{◌==◌, codes}
use Rattle.std.proofs.lemmas.Bool.{eqb-true}
use Rattle.std.proofs.lemmas.List.{append-nil}
use Rattle.ha_text.specs.Slug.{stays, lower, runs, joined, named}

chosen_is : (b : Bool) → (b ≡ true) ⊎ (b ≡ false)
chosen_is true = inl refl
chosen_is false = inr refl

-- what is written behind what stands already: whether anything does, and whether other bytes were passed last
unfoldable pub behind : Bool → Bool → List ℕ → List ℕ
behind some apart [] = []
behind some apart (b ∷ text) = cond (stays b) (cond (apart && some) (95 ∷ lower b ∷ behind true false text) (lower b ∷ behind true false text)) (behind some true text)

lead : List (List ℕ) → List ℕ
lead [] = []
lead (run ∷ more) = 95 ∷ joined (run ∷ more)

lead_some : (x : ℕ) (run text : List ℕ) → lead (runs (x ∷ run) text) ≡ 95 ∷ joined (runs (x ∷ run) text)
unfolding lead runs
lead_some x run [] = refl
lead_some x run (b ∷ text) = elim (chosen_is (stays b)) [
  | inl h ↦ rw h (lead_some x (run ++ lower b ∷ []) text)
  | inr h ↦ rw h refl
]

joined_run : (x : ℕ) (run : List ℕ) (more : List (List ℕ)) → joined ((x ∷ run) ∷ more) ≡ (x ∷ run) ++ lead more
unfolding lead joined
joined_run x run [] = sym (append-nil (x ∷ run))
joined_run x run (next ∷ more) = refl

in_run : (text : List ℕ) (x : ℕ) (run : List ℕ) → (joined (runs (x ∷ run) text) ≡ (x ∷ run) ++ behind true false text) × (lead (runs [] text) ≡ behind true true text)
unfolding runs behind joined lead
in_run [] x run = (sym (append-nil (x ∷ run)), refl)
in_run (b ∷ text) x run = elim (chosen_is (stays b)) [
  | inl h ↦ (
    rw h ((in_run text x (run ++ lower b ∷ [])).0 ∙ ap (λ (r : List ℕ). x ∷ r) (append_assoc run (lower b ∷ []) (behind true false text))),
    rw h (lead_some (lower b) [] text ∙ ap (λ (r : List ℕ). 95 ∷ r) (in_run text (lower b) []).0),
  )
  | inr h ↦ (
    rw h (joined_run x run (runs [] text) ∙ ap (λ (r : List ℕ). (x ∷ run) ++ r) (in_run text x run).1),
    rw h (in_run text x run).1,
  )
]

-- the whole slug but for its name where it is empty
pub from_start : (apart : Bool) (text : List ℕ) → behind false apart text ≡ joined (runs [] text)
unfolding runs behind joined
from_start apart [] = refl
from_start apart (b ∷ text) = elim (chosen_is (stays b)) [
  | inl h ↦ rw h (by_apart apart ∙ sym (in_run text (lower b) []).0)
  | inr h ↦ rw h (from_start true text)
] where
  by_apart : (apart : Bool) → cond (apart && false) (95 ∷ lower b ∷ behind true false text) (lower b ∷ behind true false text) ≡ lower b ∷ behind true false text
  by_apart true = refl
  by_apart false = refl

-- ---- steps of the loop

no_zero : (n : ℕ) → 0 < n → (n == 0) ≡ false
no_zero n h = elim (chosen_is (n == 0)) [ inl e ↦ absurd (let k : n ≡ 0 = eqb-true n 0 e in omega arith) | inr e ↦ e ]

-- a letter or digit was written
pub written : (old new text whole : List ℕ) (m n i b : ℕ) (apart : Bool) → old ++ behind (not (m == 0)) apart (drop i text) ≡ whole → drop i text ≡ b ∷ drop (i + 1) text → stays b ≡ true
    → new ≡ old ++ cond (apart && not (m == 0)) (95 ∷ lower b ∷ []) (lower b ∷ []) → 0 < n → new ++ behind (not (n == 0)) false (drop (i + 1) text) ≡ whole
unfolding behind
written old new text whole m n i b apart so at kept put some =
    let before : old ++ cond (apart && not (m == 0)) (95 ∷ lower b ∷ behind true false (drop (i + 1) text)) (lower b ∷ behind true false (drop (i + 1) text)) ≡ whole =
    sym (ap (λ (t : List ℕ). old ++ behind (not (m == 0)) apart t) at ∙ rw kept refl) ∙ so in
    rw (put, no_zero n some) (append_assoc old (cond (apart && not (m == 0)) (95 ∷ lower b ∷ []) (lower b ∷ [])) (behind true false (drop (i + 1) text)) ∙ spread (apart && not (m == 0)) ∙ before) where
      spread : (c : Bool) → old ++ (cond c (95 ∷ lower b ∷ []) (lower b ∷ []) ++ behind true false (drop (i + 1) text)) ≡ old ++ cond c (95 ∷ lower b ∷ behind true false (drop (i + 1) text)) (lower b ∷ behind true false (drop (i + 1) text))
      spread true = refl
      spread false = refl

-- another byte was passed
pub passed : (old text whole : List ℕ) (m i b : ℕ) (apart : Bool) → old ++ behind (not (m == 0)) apart (drop i text) ≡ whole → drop i text ≡ b ∷ drop (i + 1) text → stays b ≡ false
    → old ++ behind (not (m == 0)) true (drop (i + 1) text) ≡ whole
unfolding behind
passed old text whole m i b apart so at other = sym (ap (λ (t : List ℕ). old ++ behind (not (m == 0)) apart t) at ∙ rw other refl) ∙ so

pub no_more : (some apart : Bool) → behind some apart [] ≡ []
unfolding behind
no_more some apart = refl

pub named_empty : (bytes : List ℕ) → length bytes ≡ 0 → named bytes ≡ codes "unnamed"
named_empty [] e = refl
named_empty (b ∷ bytes) e = absurd (omega arith)

pub named_some : (bytes : List ℕ) → 0 < length bytes → bytes ≡ named bytes
named_some [] e = absurd (omega arith)
named_some (b ∷ bytes) e = refl
