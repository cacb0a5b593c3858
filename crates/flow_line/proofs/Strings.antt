-- Reading a string's characters one after the other, as a loop does.
use Rattle.std.proofs.Common.{◌≡◌, ℕ, ◌<◌, Bool, true, false, cond, List, [], ◌∷◌, ◌++◌, length, drop, Ok, Err, refl, sym, ap, ◌∙◌, arith}
use Rattle.std.specs.Prelude.{encode_utf8}
use Rattle.std.specs.Str.{encode_utf8_all}
use Rattle.std.proofs.lemmas.List.{append-nil}
use Rattle.std.proofs.lemmas.Str.{encodes-append}
use Rattle.reading.specs.declared.fault.Stop.{Stop}
use Rattle.reading.specs.declared.fault.Stop.TheVariants as stops
use Rattle.reading.specs.Answer.{Answer, Gives, made}
use Rattle.reading.specs.Bytes.{sees}
use Rattle.reading.proofs.Rows.{Repeats, no_more, repeat_fails, one_more}
use Rattle.flow_line.specs.Text.{character, characters, goes_on, over, text}
use Rattle.flow_line.proofs.Found.{character_longer}
use Rattle.flow_line.proofs.Characters.{character_found}
use Rattle.flow_line.proofs.ByteRanges.{Fault}

abbrev So : List ℕ → List ℕ → Answer ℕ Fault (List ℕ) → Type 0
So found rest total = Repeats over (λ _. goes_on) (λ _. character) found rest total

more_comes : (t u : List ℕ) (r : Bool) → r ≡ sees 34 t → r ≡ false → u ≡ cond (sees 34 t) (drop 1 t) t → goes_on t ≡ Ok (true, u)
more_comes t u r seen unseen moved =
    let h : sees 34 t ≡ false = sym seen ∙ unseen in
    let same : u ≡ t = moved ∙ ap (λ (b : Bool). cond b (drop 1 t) t) h in
    rw h (ap (λ (w : List ℕ). Ok (true, w)) (sym same))

end_comes : (t u : List ℕ) (r : Bool) → r ≡ sees 34 t → r ≡ true → u ≡ cond (sees 34 t) (drop 1 t) t → goes_on t ≡ Ok (false, u)
end_comes t u r seen there moved =
    let h : sees 34 t ≡ true = sym seen ∙ there in
    let same : u ≡ drop 1 t = moved ∙ ap (λ (b : Bool). cond b (drop 1 t) t) h in
    rw h (ap (λ (w : List ℕ). Ok (false, w)) (sym same))

no_longer : (t u : List ℕ) (r : Bool) → r ≡ sees 34 t → r ≡ false → u ≡ cond (sees 34 t) (drop 1 t) t → u ≡ t
no_longer t u r seen unseen moved = moved ∙ ap (λ (b : Bool). cond b (drop 1 t) t) (sym seen ∙ unseen)

made_gives : (a : Answer ℕ Fault (List ℕ)) (e : Stop Fault) (new : List ℕ) → Gives {A = List ℕ} a (Err e) new → Gives {A = List ℕ} (made encode_utf8_all a) (Err e) new
made_gives a stops.Memory new g = tt
made_gives a (stops.Fault f) new g = rw g refl

module _ (start t u : List ℕ) (found : List ℕ) (r : Bool) (so_far : So found t (characters start)) (seen : r ≡ sees 34 t) (moved : u ≡ cond (sees 34 t) (drop 1 t) t) where
  pub character_fails : r ≡ false → (e : Stop Fault) (new : List ℕ) → Gives (character u) (Err e) new → Gives {A = List ℕ} (text start) (Err e) new
  character_fails unseen e new g = made_gives (characters start) e new (repeat_fails over (λ _. goes_on) (λ _. character) found t (characters start) so_far u e new (more_comes t u r seen unseen moved) g)

  pub shorter_now : r ≡ false → (c : ℕ) (next : List ℕ) → character u ≡ Ok (c, next) → length next < length t
  shorter_now unseen c next g = let l = character_longer (character_found u c next g) in omega (arith, l, ap length (no_longer t u r seen unseen moved))

  pub one_further : r ≡ false → (c : ℕ) (next old bytes : List ℕ) → character u ≡ Ok (c, next) → old ≡ encode_utf8_all found → bytes ≡ old ++ encode_utf8 c
      → (all : List ℕ) × (bytes ≡ encode_utf8_all all) × So all next (characters start)
  one_further unseen c next old bytes g so e = (
    found ++ c ∷ [],
    e ∙ ap (λ (b : List ℕ). b ++ encode_utf8 c) so ∙ ap (λ (b : List ℕ). encode_utf8_all found ++ b) (sym (append-nil (encode_utf8 c))) ∙ sym (encodes-append found (c ∷ [])),
    one_more over (λ _. goes_on) (λ _. character) found t (characters start) so_far u c next (more_comes t u r seen unseen moved) g (shorter_now unseen c next g) (found ++ c ∷ []) refl,
  )

  pub whole_text : r ≡ true → (word bytes : List ℕ) → bytes ≡ encode_utf8_all found → word ≡ bytes → text start ≡ Ok (word, u)
  whole_text there word bytes so e =
      let total : characters start ≡ Ok (found, u) = no_more over (λ _. goes_on) (λ _. character) found t (characters start) so_far u (end_comes t u r seen there moved) in
      rw total (ap (λ (w : List ℕ). Ok (w, u)) (sym (e ∙ so)))
