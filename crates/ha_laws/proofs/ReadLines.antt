-- One answer by the commands that were read: what is put for a command is told by the configuration in force and by how many Reloads stand.
use Rattle.std.proofs.Common.{◌≡◌, ℕ, zero, suc, ◌+◌, List, [], ◌∷◌, ◌++◌, Bool, true, false, cond, refl, sym, ap, subst, ◌∙◌, rules, arith, Option}
use Rattle.std.specs.Prelude.{None, count_by, fold, is_some, nat_eq, nat_lt, if◌then◌else◌}
use Rattle.std.specs.List.{AllZip}
use Rattle.std.specs.Option.{option_map_or}
use Rattle.ha_config.specs.Helpers.{is_helper}
use Rattle.ha_config.specs.declared.command.Cmd.{Cmd}
use Rattle.ha_config.specs.Fair.{most_reloads, put_among}
use Rattle.ha_config.specs.Names.{named_among}
use Rattle.ha_config.proofs.ListLemmas.{true-false}
use Rattle.ha_journal.specs.declared.entry.Entry.{Entry}
use Rattle.ha_journal.specs.declared.entry.Entry.TheVariants.{Boot, Line, Step, Again}
use Rattle.ha_journal.specs.Force.{Force, force, force_after, reloaded}
use Rattle.ha_journal.specs.Journal.{HasEntry, Journal, more, helpers}
use Rattle.ha_journal.specs.Entries.{IsBoot, is_reload, reload_in, reloads_to}
use Rattle.ha_journal.proofs.ForceLaws.{force-more, helpers-are}
use Rattle.ha_model.specs.Records.{Records}
use Rattle.ha_model.specs.Lawful.{Lawful, is_quiet}
use Rattle.ha_journal.specs.Commands.{Placed, put_as, placed_from, ArePutFrom}
use Rattle.ha_laws.specs.Makers.{Maker, Source, Start, maker, makers, cmds_of, OfOne}
use Rattle.ha_laws.proofs.OneAnswer.{empty-not, equal-self, head_or, one_answer, one_source, source_or, tail_of}
use Rattle.ha_laws.proofs.PrefixLaws.{has-more}

-- ---- what is put for a command

abbrev pub reloads : Journal → ℕ
reloads d = count_by is_reload d

count-snoc : {X : Type 0} (p : X → Bool) (n : ℕ) (xs : List X) (x : X) → fold (λ m y. m + cond (p y) 1 0) n (xs ++ (x ∷ [])) ≡ fold (λ m y. m + cond (p y) 1 0) n xs + cond (p x) 1 0
count-snoc p n [] x = refl
count-snoc p n (y ∷ ys) x = count-snoc p (n + cond (p y) 1 0) ys x

-- the same stands for each command behind both
pub record Alike (d e : Journal) : Type 0 where
  pub some : HasEntry d
  pub some' : HasEntry e
  pub force_is : force d ≡ force e
  pub count_is : reloads d ≡ reloads e

put-alike : (d e : Journal) → Alike d e → (c : Cmd) → put_as d c ≡ put_as e c
put-alike d e a c =
    let same : helpers d ≡ helpers e = sym (helpers-are d) ∙ ap (λ (f : Force). f.config.helpers) a.force_is ∙ helpers-are e in
    (λ i. put_among (λ name. is_some (named_among (a.force_is i).rules name)) (is_helper (same i)) (nat_lt (a.count_is i) most_reloads) c)

alike-more : (d e : Journal) (x y : Entry) → Alike d e → reload_in x ≡ reload_in y → Alike (more d x) (more e y)
alike-more d e x y a same = record {
  some = has-more d x a.some;
  some' = has-more e y a.some';
  force_is = force-more d x a.some ∙ (λ i. option_map_or (reloaded (a.force_is i)) (same i) (a.force_is i)) ∙ sym (force-more e y a.some');
  count_is = count-snoc is_reload 0 d x ∙ (λ i. a.count_is i + cond (is_some (same i)) 1 0) ∙ sym (count-snoc is_reload 0 e y);
}

alike-itself : (d : Journal) → HasEntry d → Alike d d
alike-itself d h = record { some = h; some' = h; force_is = refl; count_is = refl }

abbrev pub StandFor : List Placed → List Cmd → Type 0
StandFor ls cs = AllZip (λ l c. l.cmd ≡ put_as l.before c) ls cs

-- ---- the next line of a source, and those behind it

module _ (k n : ℕ) (cmd : Cmd) (d xs : Journal) where
  abbrev behind : ℕ → List Placed
  behind q = placed_from q (more d (Line k n cmd)) xs

  put-first : (cs : List Cmd) → StandFor (placed_from k d (Line k n cmd ∷ xs)) cs → cmd ≡ put_as d (head_or Cmd.Lost cs)
  put-first cs h = by (nat_eq k k) (equal-self k k refl) cs h
    where
      by : (b : Bool) → b ≡ true → (cs : List Cmd) → StandFor ((if b then record { before = d; cmd = cmd } ∷ [] else []) ++ behind k) cs → cmd ≡ put_as d (head_or Cmd.Lost cs)
      by true e [] h = absurd h
      by true e (c ∷ cs) h = h.0
      by false e cs h = absurd (true-false (sym e))

  put-rest : (q : ℕ) (cs : List Cmd) → StandFor (placed_from q d (Line k n cmd ∷ xs)) cs → StandFor (behind q) (if nat_eq k q then tail_of cs else cs)
  put-rest q cs h = by (nat_eq k q) cs h
    where
      by : (b : Bool) (cs : List Cmd) → StandFor ((if b then record { before = d; cmd = cmd } ∷ [] else []) ++ behind q) cs → StandFor (behind q) (if b then tail_of cs else cs)
      by true [] h = absurd h
      by true (c ∷ cs) h = h.1
      by false cs h = h

-- ---- two journals with the same makers

abbrev IsSource : Maker → Type 0
IsSource (Source k) = Unit {0}
IsSource _ = ⊥

source-first : (m : Maker) (k : ℕ) (ms ns : List Maker) → Source k ∷ ms ≡ m ∷ ns → IsSource m
source-first m k ms ns e = subst IsSource (ap (head_or Start) e) tt

abbrev ArePut : Journal → Journal → (ℕ → List Cmd) → Type 0
ArePut d xs read = (q : ℕ) → StandFor (placed_from q d xs) (read q)

-- the lines of each source have the same commands
pub same-put : (d e xs ys : Journal) → Alike d e → makers xs ≡ makers ys → (read : ℕ → List Cmd) → ArePut d xs read → ArePut e ys read → (q : ℕ) → cmds_of q xs ≡ cmds_of q ys
same-put d e [] [] a m read h h' q = refl
same-put d e [] (y ∷ ys) a m read h h' q = absurd (empty-not (maker y) (makers ys) m)
same-put d e (x ∷ xs) [] a m read h h' q = absurd (empty-not (maker x) (makers xs) (sym m))
same-put d e (Boot text config stored start zone carry ∷ xs) (Boot text' config' stored' start' zone' carry' ∷ ys) a m read h h' q =
    same-put (more d (Boot text config stored start zone carry)) (more e (Boot text' config' stored' start' zone' carry')) xs ys (alike-more d e (Boot text config stored start zone carry) (Boot text' config' stored' start' zone' carry') a refl) (ap tail_of m) read h h' q
same-put d e (Boot text config stored start zone carry ∷ xs) (Again number' start' stored' carry' ∷ ys) a m read h h' q =
    same-put (more d (Boot text config stored start zone carry)) (more e (Again number' start' stored' carry')) xs ys (alike-more d e (Boot text config stored start zone carry) (Again number' start' stored' carry') a refl) (ap tail_of m) read h h' q
same-put d e (Boot text config stored start zone carry ∷ xs) (Step worker' serial' branch' item' ∷ ys) a m read h h' q =
    same-put (more d (Boot text config stored start zone carry)) (more e (Step worker' serial' branch' item')) xs ys (alike-more d e (Boot text config stored start zone carry) (Step worker' serial' branch' item') a refl) (ap tail_of m) read h h' q
same-put d e (Again number start stored carry ∷ xs) (Boot text' config' stored' start' zone' carry' ∷ ys) a m read h h' q =
    same-put (more d (Again number start stored carry)) (more e (Boot text' config' stored' start' zone' carry')) xs ys (alike-more d e (Again number start stored carry) (Boot text' config' stored' start' zone' carry') a refl) (ap tail_of m) read h h' q
same-put d e (Again number start stored carry ∷ xs) (Again number' start' stored' carry' ∷ ys) a m read h h' q =
    same-put (more d (Again number start stored carry)) (more e (Again number' start' stored' carry')) xs ys (alike-more d e (Again number start stored carry) (Again number' start' stored' carry') a refl) (ap tail_of m) read h h' q
same-put d e (Again number start stored carry ∷ xs) (Step worker' serial' branch' item' ∷ ys) a m read h h' q =
    same-put (more d (Again number start stored carry)) (more e (Step worker' serial' branch' item')) xs ys (alike-more d e (Again number start stored carry) (Step worker' serial' branch' item') a refl) (ap tail_of m) read h h' q
same-put d e (Step worker serial branch item ∷ xs) (Boot text' config' stored' start' zone' carry' ∷ ys) a m read h h' q =
    same-put (more d (Step worker serial branch item)) (more e (Boot text' config' stored' start' zone' carry')) xs ys (alike-more d e (Step worker serial branch item) (Boot text' config' stored' start' zone' carry') a refl) (ap tail_of m) read h h' q
same-put d e (Step worker serial branch item ∷ xs) (Again number' start' stored' carry' ∷ ys) a m read h h' q =
    same-put (more d (Step worker serial branch item)) (more e (Again number' start' stored' carry')) xs ys (alike-more d e (Step worker serial branch item) (Again number' start' stored' carry') a refl) (ap tail_of m) read h h' q
same-put d e (Step worker serial branch item ∷ xs) (Step worker' serial' branch' item' ∷ ys) a m read h h' q =
    same-put (more d (Step worker serial branch item)) (more e (Step worker' serial' branch' item')) xs ys (alike-more d e (Step worker serial branch item) (Step worker' serial' branch' item') a refl) (ap tail_of m) read h h' q
same-put d e (Line k n cmd ∷ xs) (Boot text config stored start zone carry ∷ ys) a m read h h' q = absurd (source-first (maker (Boot text config stored start zone carry)) k (makers xs) (makers ys) m)
same-put d e (Line k n cmd ∷ xs) (Again number start stored carry ∷ ys) a m read h h' q = absurd (source-first (maker (Again number start stored carry)) k (makers xs) (makers ys) m)
same-put d e (Line k n cmd ∷ xs) (Step worker serial branch item ∷ ys) a m read h h' q = absurd (source-first (maker (Step worker serial branch item)) k (makers xs) (makers ys) m)
same-put d e (Boot text config stored start zone carry ∷ xs) (Line k n cmd ∷ ys) a m read h h' q = absurd (source-first (maker (Boot text config stored start zone carry)) k (makers ys) (makers xs) (sym m))
same-put d e (Again number start stored carry ∷ xs) (Line k n cmd ∷ ys) a m read h h' q = absurd (source-first (maker (Again number start stored carry)) k (makers ys) (makers xs) (sym m))
same-put d e (Step worker serial branch item ∷ xs) (Line k n cmd ∷ ys) a m read h h' q = absurd (source-first (maker (Step worker serial branch item)) k (makers ys) (makers xs) (sym m))
same-put d e (Line k n cmd ∷ xs) (Line k' n' cmd' ∷ ys) a m read h h' q =
    let ks : k ≡ k' = ap (λ (l : List Maker). source_or 0 (head_or Start l)) m in
    let put' : ArePut e (Line k n' cmd' ∷ ys) read = subst (λ (z : ℕ). ArePut e (Line z n' cmd' ∷ ys) read) (sym ks) h' in
    let one : cmd ≡ cmd' = put-first k n cmd d xs (read k) (h k) ∙ put-alike d e a (head_or Cmd.Lost (read k)) ∙ sym (put-first k n' cmd' e ys (read k) (put' k)) in
    let rest : cmds_of q xs ≡ cmds_of q ys
    = same-put (more d (Line k n cmd)) (more e (Line k n' cmd')) xs ys (alike-more d e (Line k n cmd) (Line k n' cmd') a (λ i. reloads_to (one i))) (ap tail_of m)
    (λ s. if nat_eq k s then tail_of (read s) else read s) (λ s. put-rest k n cmd d xs s (read s) (h s)) (λ s. put-rest k n' cmd' e ys s (read s) (put' s)) q in
    (λ i. if nat_eq (ks i) q then one i ∷ rest i else rest i)

-- ---- one source

-- what is put for these commands in turn, where this is in force and so many Reloads stand
abbrev put_here : Force → ℕ → Cmd → Cmd
put_here f n c = put_among (λ name. is_some (named_among f.rules name)) (is_helper f.config.helpers) (nat_lt n most_reloads) c

-- that is what is put behind a journal
put-here : (d : Journal) (c : Cmd) → put_as d c ≡ put_here (force d) (reloads d) c
put-here d c = (λ i. put_among (λ name. is_some (named_among (force d).rules name)) (is_helper (sym (helpers-are d) i)) (nat_lt (reloads d) most_reloads) c)

abbrev pub puts : Force → ℕ → List Cmd → List Cmd
puts f n [] = []
puts f n (c ∷ cs) =
    put_here f n c
    ∷ puts (option_map_or (reloaded f) (reloads_to (put_here f n c)) f) (n + cond (is_some (reloads_to (put_here f n c))) 1 0) cs

no-reload : (d : Journal) (x : Entry) → reload_in x ≡ None → reloads (more d x) ≡ reloads d
no-reload d x none = count-snoc is_reload 0 d x ∙ (λ i. reloads d + cond (is_some (none i)) 1 0) ∙ omega arith

puts-are : (d xs : Journal) → HasEntry d → OfOne xs → (cs : List Cmd) → StandFor (placed_from 0 d xs) cs → cmds_of 0 xs ≡ puts (force d) (reloads d) cs
puts-are d [] some one [] h = refl
puts-are d [] some one (c ∷ cs) h = absurd h
puts-are d (Boot text config stored start zone carry ∷ xs) some one cs h =
    puts-are (more d (Boot text config stored start zone carry)) xs (has-more d (Boot text config stored start zone carry) some) one.1 cs h
    ∙ (let f = force-more d (Boot text config stored start zone carry) some in let n = no-reload d (Boot text config stored start zone carry) refl in λ i. puts (f i) (n i) cs)
puts-are d (Again number start stored carry ∷ xs) some one cs h =
    puts-are (more d (Again number start stored carry)) xs (has-more d (Again number start stored carry) some) one.1 cs h
    ∙ (let f = force-more d (Again number start stored carry) some in let n = no-reload d (Again number start stored carry) refl in λ i. puts (f i) (n i) cs)
puts-are d (Step worker serial branch item ∷ xs) some one cs h =
    puts-are (more d (Step worker serial branch item)) xs (has-more d (Step worker serial branch item) some) one.1 cs h
    ∙ (let f = force-more d (Step worker serial branch item) some in let n = no-reload d (Step worker serial branch item) refl in λ i. puts (f i) (n i) cs)
puts-are d (Line (suc k) n cmd ∷ xs) some one cs h = absurd (omega (arith, one.0))
puts-are d (Line zero n cmd ∷ xs) some one [] h = absurd h
puts-are d (Line zero n cmd ∷ xs) some one (c ∷ cs) h =
    let x : Entry = Line zero n cmd in
    let force_is : force (more d x) ≡ option_map_or (reloaded (force d)) (reloads_to (put_as d c)) (force d)
    = force-more d x some ∙ (λ i. option_map_or (reloaded (force d)) (reloads_to (h.0 i)) (force d)) in
    let count_is : reloads (more d x) ≡ reloads d + cond (is_some (reloads_to (put_as d c))) 1 0
    = count-snoc is_reload 0 d x ∙ (λ i. reloads d + cond (is_some (reloads_to (h.0 i))) 1 0) in
    (λ i. h.0 i ∷ puts-are (more d x) xs (has-more d x some) one.1 cs h.1 i)
    ∙ (λ i. put_as d c ∷ puts (force_is i) (count_is i) cs)
    ∙ (let put = put-here d c in λ i. put i ∷ puts (option_map_or (reloaded (force d)) (reloads_to (put i)) (force d)) (reloads d + cond (is_some (reloads_to (put i))) 1 0) cs)

other : (q : ℕ) → nat_eq 0 (suc q) ≡ false
other q = search rules

none-of : (q : ℕ) (xs : Journal) → OfOne xs → cmds_of (suc q) xs ≡ []
none-of q [] one = refl
none-of q (Boot text config stored start zone carry ∷ xs) one = none-of q xs one.1
none-of q (Again number start stored carry ∷ xs) one = none-of q xs one.1
none-of q (Step worker serial branch item ∷ xs) one = none-of q xs one.1
none-of q (Line zero n cmd ∷ xs) one = (λ i. if other q i then cmd ∷ cmds_of (suc q) xs else cmds_of (suc q) xs) ∙ none-of q xs one.1
none-of q (Line (suc k) n cmd ∷ xs) one = absurd (omega (arith, one.0))

-- where all entries are of source 0 or worker 0, they have the same commands, wherever the lines stand
pub one-put : (d xs ys : Journal) → HasEntry d → OfOne xs → OfOne ys → (read : ℕ → List Cmd) → ArePut d xs read → ArePut d ys read → (q : ℕ) → cmds_of q xs ≡ cmds_of q ys
one-put d xs ys some one one' read h h' zero = puts-are d xs some one (read 0) (h 0) ∙ sym (puts-are d ys some one' (read 0) (h' 0))
one-put d xs ys some one one' read h h' (suc q) = none-of q xs one ∙ sym (none-of q ys one')

-- ---- behind a Boot

-- the lines behind a Boot are those of the journal
pub put-behind : (boot : Entry) → IsBoot boot → (q : ℕ) (xs : Journal) (cs : List Cmd) → ArePutFrom q (boot ∷ xs) cs → StandFor (placed_from q (boot ∷ []) xs) cs
put-behind (Boot text config stored start zone carry) h q xs cs put = put
put-behind (Again number start stored carry) h q xs cs put = absurd h
put-behind (Line source number cmd) h q xs cs put = absurd h
put-behind (Step worker serial branch item) h q xs cs put = absurd h

-- LAW: two journals with the same makers whose lines are put from the same commands have the same commands
pub commands-same : (boot : Entry) → IsBoot boot → (xs ys : Journal) → makers xs ≡ makers ys → (read : ℕ → List Cmd)
    → ((q : ℕ) → ArePutFrom q (boot ∷ xs) (read q)) → ((q : ℕ) → ArePutFrom q (boot ∷ ys) (read q)) → (q : ℕ) → cmds_of q xs ≡ cmds_of q ys
commands-same boot is xs ys all read put put' q =
    same-put (boot ∷ []) (boot ∷ []) xs ys (alike-itself (boot ∷ []) tt) all read (λ s. put-behind boot is s xs (read s) (put s)) (λ s. put-behind boot is s ys (read s) (put' s)) q

-- LAW: and so do two with one source
pub commands-of-one : (boot : Entry) → IsBoot boot → (xs ys : Journal) → OfOne xs → OfOne ys → (read : ℕ → List Cmd)
    → ((q : ℕ) → ArePutFrom q (boot ∷ xs) (read q)) → ((q : ℕ) → ArePutFrom q (boot ∷ ys) (read q)) → (q : ℕ) → cmds_of q xs ≡ cmds_of q ys
commands-of-one boot is xs ys one one' read put put' q =
    one-put (boot ∷ []) xs ys tt one one' read (λ s. put-behind boot is s xs (read s) (put s)) (λ s. put-behind boot is s ys (read s) (put' s)) q

-- LAW: for a Boot, the commands that were read of each source, and the makers of the entries, at most one journal with its records is lawful
pub one-answer-read : (boot : Entry) (xs ys : Journal) (rs rs' : Records) → Lawful (boot ∷ xs) rs → Lawful (boot ∷ ys) rs' → makers xs ≡ makers ys → (read : ℕ → List Cmd)
    → ((q : ℕ) → ArePutFrom q (boot ∷ xs) (read q)) → ((q : ℕ) → ArePutFrom q (boot ∷ ys) (read q)) → (xs ≡ ys) × (rs ≡ rs')
one-answer-read boot xs ys rs rs' lawful lawful' all read put put' =
    one_answer boot xs ys rs rs' lawful lawful' all (commands-same boot lawful.right.journal.0 xs ys all read put put')

-- LAW: with one source, at most one journal whose lines are put from these commands is lawful and quiet
pub one-source-read : (boot : Entry) (xs ys : Journal) (rs rs' : Records) → Lawful (boot ∷ xs) rs → Lawful (boot ∷ ys) rs' → OfOne xs → OfOne ys
    → is_quiet rs (boot ∷ xs) ≡ true → is_quiet rs' (boot ∷ ys) ≡ true → (read : ℕ → List Cmd)
    → ((q : ℕ) → ArePutFrom q (boot ∷ xs) (read q)) → ((q : ℕ) → ArePutFrom q (boot ∷ ys) (read q)) → (xs ≡ ys) × (rs ≡ rs')
one-source-read boot xs ys rs rs' lawful lawful' one one' quiet quiet' read put put' =
    one_source boot xs ys rs rs' lawful lawful' one one' quiet quiet' (commands-of-one boot lawful.right.journal.0 xs ys one one' read put put')
