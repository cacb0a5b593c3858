-- Lists of lines one behind the other, and the lines that a cut holds.
use Rattle.std.proofs.Common.{◌≡◌, ◌∙◌, inl, inr, ⊎_elim, ℕ, List, [], ◌∷◌, ◌++◌, ap, refl, sym, subst, append_assoc, map}
use Rattle.std.proofs.lemmas.List.{append-nil, map-append}
use Rattle.ha_config.specs.declared.command.Cmd.{Cmd}
use Rattle.ha_config.specs.declared.config.Config.{Config}
use Rattle.std.specs.Prelude.{Option}
use Rattle.ha_config.specs.Words.{Text}
use Rattle.ha_text.specs.Lines.{IsTaken, whole_lines}
use Rattle.bus_pass.specs.Rule.{Dues}
use Rattle.bus_pass.specs.declared.hand.Hand.{Hand}
use Rattle.ha_worker.specs.Courses.{cmd_read}
use Rattle.ha_worker.specs.Puts.{NoLine, PutAll, PutSome}
use Rattle.ha_worker.specs.Taken.{Took}
use Rattle.ha_worker.specs.Views.{HasPut, list_of}
use Rattle.ha_worker.proofs.CourseLemmas.{took_one, took_then, took_whole}

-- ---- puts one behind the other

pub put_nothing : (k : ℕ) (v : Hand) → PutAll k [] v v
put_nothing k v = record { puts = λ done h. subst (λ (z : List Cmd). HasPut (list_of v) z) (sym (append-nil done)) h; dues = refl }

pub none_put : (k : ℕ) (cs : List Cmd) (v : Hand) → PutSome k cs v v
none_put k cs v = record { put = []; unput = cs; parts = refl; puts = (put_nothing k v).puts; due = inl refl }

pub all_then : (k : ℕ) (xs ys : List Cmd) (u v w : Hand) → PutAll k xs u v → PutAll k ys v w → PutAll k (xs ++ ys) u w
all_then k xs ys u v w p q = record {
  puts = λ done h. subst (λ (z : List Cmd). HasPut (list_of w) z) (append_assoc done xs ys) (q.puts (done ++ xs) (p.puts done h));
  dues = q.dues ∙ p.dues;
}

pub some_then : (k : ℕ) (xs ys : List Cmd) (u v w : Hand) → PutAll k xs u v → PutSome k ys v w → PutSome k (xs ++ ys) u w
some_then k xs ys u v w p q = record {
  put = xs ++ q.put;
  unput = q.unput;
  parts = ap (λ (z : List Cmd). xs ++ z) q.parts ∙ sym (append_assoc xs q.put q.unput);
  puts = λ done h. subst (λ (z : List Cmd). HasPut (list_of w) z) (append_assoc done xs q.put) (q.puts (done ++ xs) (p.puts done h));
  due = ⊎_elim (λ e. inl (e ∙ p.dues)) (λ e. inr (e.0, e.1, e.2, e.3 ∙ ap (λ (z : Dues). (k, e.0) ∷ z) p.dues)) q.due;
}

-- no line comes behind
pub all_still : (k : ℕ) (xs : List Cmd) (u v w : Hand) → PutAll k xs u v → NoLine v w → PutAll k xs u w
all_still k xs u v w p q = record { puts = λ done h. q.lines ∙ p.puts done h; dues = q.dues ∙ p.dues }

pub some_still : (k : ℕ) (xs : List Cmd) (u v w : Hand) → PutSome k xs u v → NoLine v w → PutSome k xs u w
some_still k xs u v w p q = record {
  put = p.put;
  unput = p.unput;
  parts = p.parts;
  puts = λ done h. q.lines ∙ p.puts done h;
  due = ⊎_elim (λ e. inl (q.dues ∙ e)) (λ e. inr (e.0, e.1, e.2, q.dues ∙ e.3)) p.due;
}

-- no line came before
pub none_yet : (k : ℕ) (cs : List Cmd) (u v : Hand) → NoLine u v → PutSome k cs u v
none_yet k cs u v q = some_still k cs u u v (none_put k cs u) q

pub all_behind : (k : ℕ) (cs : List Cmd) (u v w : Hand) → NoLine u v → PutAll k cs v w → PutAll k cs u w
all_behind k cs u v w q p = all_then k [] cs u v w (all_still k [] u u v (put_nothing k u) q) p

pub some_behind : (k : ℕ) (cs : List Cmd) (u v w : Hand) → NoLine u v → PutSome k cs v w → PutSome k cs u w
some_behind k cs u v w q p = some_then k [] cs u v w (all_still k [] u u v (put_nothing k u) q) p

-- ---- the lines that a cut holds

-- one line more was taken
pub took_more : (old cut cut' line sliced : Text) (lines : List Text) → Took old lines cut → IsTaken cut line cut' → sliced ≡ line → Took old (lines ++ (sliced ∷ [])) cut'
took_more old cut cut' line sliced lines p t e =
    let P : Text → Type 0 = λ z. Took old (lines ++ (z ∷ [])) cut' in subst P (sym e) (took_then old cut cut' lines (line ∷ []) p (took_one cut line cut' t))

whole_cmds : (f : Text → Cmd) (old cut : Text) (lines : List Text) → Took old lines cut → map f (whole_lines old) ≡ map f lines ++ map f (whole_lines cut)
whole_cmds f old cut lines p = ap (map f) (took_whole old cut lines p) ∙ map-append f lines (whole_lines cut)

-- no further line was taken
pub some_held : (read : Text → Option Config) (k : ℕ) (old cut : Text) (lines : List Text) (u v : Hand) → Took old lines cut → PutAll k (map (cmd_read read) lines) u v
    → PutSome k (map (cmd_read read) (whole_lines old)) u v
some_held read k old cut lines u v p all =
    subst (λ z. PutSome k z u v) (sym (whole_cmds (cmd_read read) old cut lines p))
    (some_then k (map (cmd_read read) lines) (map (cmd_read read) (whole_lines cut)) u v v all (none_put k (map (cmd_read read) (whole_lines cut)) v))
