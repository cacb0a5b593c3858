-- The one source of a file that was read, and what is seen of it.
use Rattle.std.proofs.Common.{◌≡◌, ℕ, List, [], ◌∷◌, map, Option, Some, None, refl, subst, sym}
use Rattle.std.specs.Prelude.{option_to_list}
use Rattle.ha_config.specs.Words.{Text}
use Rattle.ha_status.specs.declared.status.Status.{Status}
use Rattle.ha_status.specs.Causes.{ReadCause}
use Rattle.ha_status.specs.Files.{Files, IsHandedBack}
use Rattle.replay_file.specs.Replays.{IsReplay}
use Rattle.ha_worker.specs.Courses.{SourceState, source_of}

module _ {S : Type 0} (faults : S → ℕ) (left : S → Option (List ℕ)) (name : S → Option (List ℕ)) where
  abbrev seen : List S → List SourceState
  seen l = map (source_of faults left name) l

  names_of : (o : Option S) → map (λ (s : SourceState). s.name) (seen (option_to_list o)) ≡ map name (option_to_list o)
  names_of None = refl
  names_of (Some source) = refl

  lefts_of : (o : Option S) → map (λ (s : SourceState). s.left) (seen (option_to_list o)) ≡ map left (option_to_list o)
  lefts_of None = refl
  lefts_of (Some source) = refl

  faults_of : (o : Option S) → map (λ (s : SourceState). s.faults) (seen (option_to_list o)) ≡ map faults (option_to_list o)
  faults_of None = refl
  faults_of (Some source) = refl

  module _ (o : Option S) (l : List S) (is : l ≡ option_to_list o) where
    pub names_are : map (λ (s : SourceState). s.name) (seen l) ≡ map name (option_to_list o)
    names_are = subst (λ z. map (λ (s : SourceState). s.name) (seen z) ≡ map name (option_to_list o)) (sym is) (names_of o)

    pub lefts_are : map (λ (s : SourceState). s.left) (seen l) ≡ map left (option_to_list o)
    lefts_are = subst (λ z. map (λ (s : SourceState). s.left) (seen z) ≡ map left (option_to_list o)) (sym is) (lefts_of o)

    pub faults_are : map (λ (s : SourceState). s.faults) (seen l) ≡ map faults (option_to_list o)
    faults_are = subst (λ z. map (λ (s : SourceState). s.faults) (seen z) ≡ map faults (option_to_list o)) (sym is) (faults_of o)

-- the same by other names
pub replay_as : (files : Option Files) (name name' : Text) (ls ms : List (Option Text)) (s : Status) (C E : Text → Type 0) → name' ≡ name → ls ≡ ms → IsReplay files name' ms s C E → IsReplay files name ls s C E
replay_as files name name' ls ms s C E same e h = subst (λ n. IsReplay files n ls s C E) same (subst (λ z. IsReplay files name' z s C E) (sym e) h)

pub handed_back_as : (name name' : Text) (s : Status) (xs ys : List (Option Text)) → name' ≡ name → xs ≡ ys → IsHandedBack name' ys s → IsHandedBack name xs s
handed_back_as name name' s xs ys same e h = subst (λ n. IsHandedBack n xs s) same (subst (λ z. IsHandedBack name' z s) (sym e) h)

pub unread_as : (name name' : Text) (s : Status) (fs gs : List ℕ) (xs ys : List (Option Text)) → name' ≡ name → fs ≡ gs → xs ≡ ys → ReadCause name' (name' ∷ []) gs ys s → ReadCause name (name ∷ []) fs xs s
unread_as name name' s fs gs xs ys same f e h =
    subst (λ (n : Text). ReadCause n (n ∷ []) fs xs s) same (subst (λ z. ReadCause name' (name' ∷ []) fs z s) (sym e) (subst (λ z. ReadCause name' (name' ∷ []) z ys s) (sym f) h))
