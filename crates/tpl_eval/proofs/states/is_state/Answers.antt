use Rattle.tpl_eval.proofs.states.is_state.Goals as goal

pub returns : goal.returns
returns c = λ sight h. rw (← c.named.ensures sight h) (c.is_wanted.ensures sight)
