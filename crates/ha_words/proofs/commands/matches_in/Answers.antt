use Rattle.std.proofs.Common.{ap, refl, sym, true, false, ◌≡◌, ◌∙◌, List, [], ◌∷◌, inl, inr}
use Rattle.clap.specs.Words.{App, HasKind, Kinds, Text, fault_of, kind_of}
use Rattle.clap.specs.declared.error.Error.{Error}
use Rattle.clap.specs.declared.error.kind.ErrorKind.TheVariants.{OutOfMemory}
use Rattle.ha_words.specs.Grammar.{has_no_kind, takes_words}
use Rattle.ha_words.proofs.commands.matches_in.Goals as goal

-- an error that is not of memory shows a fault
has_fault : (kinds : Kinds) (e : Error) → HasKind kinds e → (kind_of e ≡ OutOfMemory → ⊥) → has_no_kind kinds ≡ false
has_fault [] e (inl h) n = absurd (n h)
has_fault [] e (inr h) n = absurd h
has_fault (k ∷ ks) e h n = refl

none_taken : (a b : App) (words : List Text) → a ≡ b → fault_of a words ≡ [] → takes_words b words ≡ true
unfolding takes_words
none_taken a b words e h = ap has_no_kind (ap (λ (x : App). fault_of x words) (sym e) ∙ h)

some_refused : (a b : App) (words : List Text) (e : Error) → a ≡ b → HasKind (fault_of a words) e → (kind_of e ≡ OutOfMemory → ⊥) → takes_words b words ≡ false
unfolding takes_words
some_refused a b words x e h n = ap has_no_kind (ap (λ (x : App). fault_of x words) (sym e)) ∙ has_fault _ x h n

pub returns-in-Ok-clause-takes : goal.returns-in-Ok-clause-takes
returns-in-Ok-clause-takes c = none_taken _ _ _ refl (c.in-Ok.ensures.kinds c.requires.free)

pub returns-in-Ok-clause-rows : goal.returns-in-Ok-clause-rows
returns-in-Ok-clause-rows c = (c.in-Ok.ensures.matches c.requires.exact).0

pub returns-in-Err-clause-usage : goal.returns-in-Err-clause-usage
returns-in-Err-clause-usage c =
    λ u. some_refused _ _ _ c.in-Err.error refl (c.in-Err.ensures.kinds c.requires.free) (λ e. c.fault_by.ensures u (c.kind.ensures ∙ e))
