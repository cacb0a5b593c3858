-- What several calls ask of a place.
use Rattle.std.proofs.Common.{◌≡◌, ◌∙◌, Bool, true, false, List, [], ◌∷◌, ◌++◌, Option, None, Some, ap, refl, sym, subst, append-nil, append_assoc}
use Rattle.std.specs.Prelude.{Result, Ok, Err}
use Rattle.ha_io.specs.declared.fault.IoFault.{IoFault}
use Rattle.ha_io.specs.Told.{AreAsked, Call, IsAsked, IsAskedSome, and_asked}

and_none : (told : Option (List Call)) → told ≡ and_asked told []
and_none None = refl
and_none (Some all) = ap Some (sym (append-nil all))

and_more : (told : Option (List Call)) (xs ys : List Call) → and_asked (and_asked told xs) ys ≡ and_asked told (xs ++ ys)
and_more None xs ys = refl
and_more (Some all) xs ys = ap Some (append_assoc all xs ys)

pub asked_none : (told : Option (List Call)) (calls : List Call) → IsAskedSome told calls told
asked_none told calls = record { made = []; later = calls; calls_are = refl; asked = and_none told }

pub asked_whole : (before after : Option (List Call)) (calls : List Call) → after ≡ and_asked before calls → IsAskedSome before calls after
asked_whole before after calls is = record { made = calls; later = []; calls_are = sym (append-nil calls); asked = is }

pub asked_some : (ok : Bool) (before after : Option (List Call)) (calls : List Call) → AreAsked ok before calls after → IsAskedSome before calls after
asked_some true before after calls h = asked_whole before after calls h
asked_some false before after calls h = h

-- one call
pub asked_once : {S : Type 0} (r : Result S IoFault) (before after : Option (List Call)) (call : Call) → IsAsked r before call after → IsAskedSome before (call ∷ []) after
asked_once (Ok s) before after call h = asked_whole before after (call ∷ []) h
asked_once (Err IoFault.Failed) before after call h = asked_whole before after (call ∷ []) h
asked_once (Err IoFault.Memory) before after call h = subst (IsAskedSome before (call ∷ [])) (sym h) (asked_none before (call ∷ []))

-- the first of more
pub asked_front : (before after : Option (List Call)) (calls more : List Call) → IsAskedSome before calls after → IsAskedSome before (calls ++ more) after
asked_front before after calls more h = record {
  made = h.made;
  later = h.later ++ more;
  calls_are = ap (λ (z : List Call). z ++ more) h.calls_are ∙ append_assoc h.made h.later more;
  asked = h.asked;
}

-- all of them, and then others
pub asked_then : (ok : Bool) (before between after : Option (List Call)) (calls later : List Call) → between ≡ and_asked before calls → AreAsked ok between later after
    → AreAsked ok before (calls ++ later) after
asked_then true before between after calls later is h = h ∙ ap (λ (z : Option (List Call)). and_asked z later) is ∙ and_more before calls later
asked_then false before between after calls later is h = record {
  made = calls ++ h.made;
  later = h.later;
  calls_are = ap (λ (z : List Call). calls ++ z) h.calls_are ∙ sym (append_assoc calls h.made h.later);
  asked = h.asked ∙ ap (λ (z : Option (List Call)). and_asked z h.made) is ∙ and_more before calls h.made;
}
