-- A text in which each occurrence of a text gives way to another, by what a search for the first occurrence found.
use Rattle.std.proofs.Common.{Bor, ◌≡◌, ◌∙◌, ap, ℕ, zero, suc, ◌-◌, ◌<◌, ◌≤◌, Bool, true, false, refl, List, [], ◌∷◌, ◌++◌, length, take, drop, sym, arith, append_assoc, length-append}
use Rattle.std.specs.Prelude.{nat_le, Option, Some, None, Err, MatchOption, if◌then◌else◌}
use Rattle.std.proofs.lemmas.Bool.Decides.{nat_tests}
use Rattle.std.specs.Cmp.Lexicographic.{bytes_decides}
use Rattle.std.specs.Str.Pattern.{LacksTextAt, FindsText, SplitsAroundMatch}
use Rattle.ha_sight.specs.declared.faults.TplFault.{TplFault}
use Rattle.ha_sight.specs.Values.{bounded}
use Rattle.ha_config.specs.Words.{Text, begins_with, replaced_all, replaced_behind}
use Rattle.tpl_fns.specs.Outcome.{Adds, Gives}

unless : (b : Bool) → (b ≡ true → ⊥) → b ≡ false
unless true f = absurd (f refl)
unless false f = refl

front_self : (old rest : Text) → take (length old) (old ++ rest) ≡ old
front_self [] rest = refl
front_self (x ∷ xs) rest = ap (λ l. x ∷ l) (front_self xs rest)

pub whole : (n : ℕ) (t : Text) → take n t ++ drop n t ≡ t
whole zero t = refl
whole (suc n) [] = refl
whole (suc n) (x ∷ xs) = ap (λ l. x ∷ l) (whole n xs)

-- a text begins with another where that is its front
pub begins : (old rest : Text) → begins_with old (old ++ rest) ≡ true
begins old rest = (bytes_decides old (take (length old) (old ++ rest))).1 (sym (front_self old rest))

-- and does not where no rest follows it
lacks : (old t : Text) → LacksTextAt old t 0 → begins_with old t ≡ false
lacks old t absent = unless (begins_with old t) (λ h.
    let e = (bytes_decides old (take (length old) t)).0 h in
    absent (drop (length old) t) (sym (whole (length old) t) ∙ ap (λ l. l ++ drop (length old) t) (sym e)))

-- bytes that belong to an occurrence are passed over
passed : (old new xs rest : Text) → replaced_behind old new (length xs) (xs ++ rest) ≡ replaced_behind old new 0 rest
passed old new [] rest = refl
passed old new (x ∷ xs) rest = passed old new xs rest

-- no occurrence
pub replaced-none : (old new t : Text) → ((i : ℕ) → i ≤ length t → LacksTextAt old t i) → replaced_all old new t ≡ t
replaced-none old new [] absent = refl
replaced-none old new (c ∷ cs) absent =
    (λ i. if lacks old (c ∷ cs) (absent 0 (omega arith)) i then new ++ replaced_behind old new (length old - 1) cs else c ∷ replaced_behind old new 0 cs)
    ∙ ap (λ l. c ∷ l) (replaced-none old new cs (λ i le. absent (suc i) (omega arith)))

-- the first occurrence
pub replaced-first : (old new t rest : Text) (i : ℕ) → 0 < length old → ((k : ℕ) → k < i → LacksTextAt old t k) → drop i t ≡ old ++ rest
    → replaced_all old new t ≡ take i t ++ (new ++ replaced_all old new rest)
replaced-first [] new t rest i some absent here = absurd (omega arith)
replaced-first (x ∷ xs) new t rest zero some absent here =
    ap (replaced_all (x ∷ xs) new) here
    ∙ (λ i. if begins (x ∷ xs) rest i then new ++ replaced_behind (x ∷ xs) new (length (x ∷ xs) - 1) (xs ++ rest) else x ∷ replaced_behind (x ∷ xs) new 0 (xs ++ rest))
    ∙ (let e : length (x ∷ xs) - 1 ≡ length xs = omega arith in λ i. new ++ replaced_behind (x ∷ xs) new (e i) (xs ++ rest))
    ∙ ap (λ l. new ++ l) (passed (x ∷ xs) new xs rest)
replaced-first (x ∷ xs) new [] rest (suc i) some absent here = absurd (cc)
replaced-first (x ∷ xs) new (c ∷ cs) rest (suc i) some absent here =
    (λ k. if lacks (x ∷ xs) (c ∷ cs) (absent 0 (omega arith)) k then new ++ replaced_behind (x ∷ xs) new (length (x ∷ xs) - 1) cs else c ∷ replaced_behind (x ∷ xs) new 0 cs)
    ∙ ap (λ l. c ∷ l) (replaced-first (x ∷ xs) new cs rest i some (λ k lt. absent (suc k) (omega arith)) here)

-- where the text was not split, it has no occurrence
pub split-none : (old s : Text) (r : Option (Bor (List ℕ) × Bor (List ℕ))) → MatchOption r (FindsText old s None) (λ x. SplitsAroundMatch (FindsText old) s x.0.now x.1.now)
    → ((x : Bor (List ℕ) × Bor (List ℕ)) → r ≡ Some x → ⊥) → FindsText old s None
split-none old s None h other = h
split-none old s (Some x) h other = absurd (other x refl)

pub no-more : (xs : Text) → xs ≡ xs ++ []
no-more [] = refl
no-more (x ∷ xs) = ap (λ l. x ∷ l) (no-more xs)

-- a text that is split at its first occurrence
module _ (old new s front back : Text) (some : 0 < length old) (split : SplitsAroundMatch (FindsText old) s front back) where
  pub replaced-split : replaced_all old new s ≡ front ++ (new ++ replaced_all old new back)
  replaced-split =
      replaced-first old new s back split.0 some split.2.0 (split.2.1.split ∙ ap (λ l. old ++ l) (sym split.4))
      ∙ ap (λ l. l ++ (new ++ replaced_all old new back)) (sym split.3)

  pub shorter : length back < length s
  shorter = omega (arith, split.2.1.ends, split.7)

  -- what is made grows by what stands before the occurrence and by what takes its place
  pub replaced-more : (total made more : Text) → total ≡ made ++ replaced_all old new s → more ≡ made ++ (front ++ new) → total ≡ more ++ replaced_all old new back
  replaced-more total made more is grown =
      is ∙ ap (λ l. made ++ l) (replaced-split ∙ sym (append_assoc front new (replaced_all old new back)))
      ∙ sym (append_assoc made (front ++ new) (replaced_all old new back)) ∙ ap (λ l. l ++ replaced_all old new back) (sym grown)

too_long : (t : Text) → 65_536 < length t → bounded t ≡ None
too_long t h = (let f : nat_le (length t) 65_536 ≡ false = grind (arith, nat_tests, h) in λ i. if f i then Some t else None)

pub fits : (t : Text) → length t ≤ 65_536 → bounded t ≡ Some t
fits t h = (let f : nat_le (length t) 65_536 ≡ true = grind (arith, nat_tests, h) in λ i. if f i then Some t else None)

-- a part that is too long makes the whole too long
pub part-faults : (Y : Type 0) (fault : TplFault) (old new piece total rest : Text) → Adds {X = Y} old new piece (Err fault) → total ≡ (old ++ piece) ++ rest
    → Gives {X = Text} (Err fault) (bounded total)
part-faults Y TplFault.Fault old new piece total rest h is = too_long total (omega (arith, h, ap length is, length-append (old ++ piece) rest))
part-faults Y TplFault.Memory old new piece total rest h is = tt
