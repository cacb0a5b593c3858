-- What the list of a worker tells of the journal: its lines, their numbers, and whether one of them shuts the source.
use Rattle.std.proofs.Common.{◌≡◌, ◌∙◌, ◌+◌, ◌==◌, ℕ, suc, Bool, true, false, cond, List, [], ◌∷◌, ◌++◌, length, take, Option, Some, None, count_by, ap, arith, refl, sym, subst, append_assoc, length-append}
use Rattle.std.specs.Prelude.{◌||◌, ◌&&◌, is_some, if◌then◌else◌}
use Rattle.std.specs.List.{AllZip, list_any}
use Rattle.std.specs.Option.{option_map_or}
use Rattle.std.proofs.Math.Seq.{take-append_seam}
use Rattle.std.proofs.lemmas.List.Sums.{sum_by-cons}
use Rattle.ha_config.specs.declared.command.Cmd.{Cmd}
use Rattle.ha_journal.specs.declared.entry.Entry.{Entry}
use Rattle.ha_journal.specs.declared.entry.Entry.TheVariants.{Boot, Line, Step, Again}
use Rattle.ha_journal.specs.Commands.{ArePutFrom, Placed, placed_from, put_as}
use Rattle.ha_journal.specs.Entries.{Spoken, line_of}
use Rattle.ha_config.specs.Fair.{shuts_source}
use Rattle.ha_journal.specs.Journal.{Journal}
use Rattle.ha_model.specs.Lawful.{is_line_of, shuts}
use Rattle.bus_pass.specs.Journal.{placed}
use Rattle.bus_pass.specs.Rule.{AllTold, IsList, IsPutAs, bare}
use Rattle.bus_pass.specs.declared.hand.Given.{Given}
use Rattle.ha_worker.specs.Views.{HasPut, numbered, read_lines}

-- ---- lists one behind the other

pub lines-append : (xs ys : List Given) → read_lines (xs ++ ys) ≡ read_lines xs ++ read_lines ys
lines-append [] ys = refl
lines-append (x ∷ xs) ys = by (line_of x.entry) (lines-append xs ys)
  where
    by : (o : Option Spoken) → read_lines (xs ++ ys) ≡ read_lines xs ++ read_lines ys
        → option_map_or (λ l. (l.number, x.read) ∷ read_lines (xs ++ ys)) o (read_lines (xs ++ ys)) ≡ option_map_or (λ l. (l.number, x.read) ∷ read_lines xs) o (read_lines xs) ++ read_lines ys
    by None h = h
    by (Some l) h = ap (λ (z : List (ℕ × Option Cmd)). (l.number, x.read) ∷ z) h

pub numbered-append : (n : ℕ) (xs ys : List Cmd) → numbered n (xs ++ ys) ≡ numbered n xs ++ numbered (n + length xs) ys
numbered-append n [] ys = ap (λ (m : ℕ). numbered m ys) (omega arith)
numbered-append n (x ∷ xs) ys =
    ap (λ (z : List (ℕ × Option Cmd)). (n, Some x) ∷ z) (numbered-append (n + 1) xs ys ∙ ap (λ (m : ℕ). numbered (n + 1) xs ++ numbered m ys) (omega arith))

pub length-numbered : (n : ℕ) (xs : List Cmd) → length (numbered n xs) ≡ length xs
length-numbered n [] = refl
length-numbered n (x ∷ xs) = ap suc (length-numbered (n + 1) xs)

-- one line more, as it was read
pub has_more : (gs more : List Given) (n : ℕ) (c : Cmd) (done : List Cmd) → n ≡ length (read_lines gs) → read_lines more ≡ (n, Some c) ∷ [] → HasPut gs done → HasPut (gs ++ more) (done ++ (c ∷ []))
has_more gs more n c done at is h =
    let all : n ≡ 0 + length done = omega (arith, at ∙ ap length h ∙ length-numbered 0 done) in
    lines-append gs more
    ∙ ap (λ (z : List (ℕ × Option Cmd)). z ++ read_lines more) h
    ∙ ap (λ (z : List (ℕ × Option Cmd)). numbered 0 done ++ z) (is ∙ ap (λ (m : ℕ). (m, Some c) ∷ []) all)
    ∙ sym (numbered-append 0 done (c ∷ []))

-- ---- how many lines a source has, and whether it is shut

abbrev is_line : ℕ × Entry → Bool
is_line p = is_some (line_of p.1)

count-cons : {X : Type 0} (f : X → Bool) (x : X) (xs : List X) → count_by f (x ∷ xs) ≡ cond (f x) 1 0 + count_by f xs
count-cons f x xs = sum_by-cons (λ y. cond (f y) 1 0) x xs

lines_counted : (l : List Given) → length (read_lines l) ≡ count_by is_line (bare l)
lines_counted [] = refl
lines_counted (g ∷ gs) = by (line_of g.entry) (lines_counted gs) ∙ sym (count-cons is_line (g.place, g.entry) (bare gs))
  where
    by : (o : Option Spoken) → length (read_lines gs) ≡ count_by is_line (bare gs)
        → length (option_map_or (λ l. (l.number, g.read) ∷ read_lines gs) o (read_lines gs)) ≡ cond (is_some o) 1 0 + count_by is_line (bare gs)
    by None h = omega (arith, h)
    by (Some l) h = omega (arith, h)

placed_counted : (k n : ℕ) (es : List Entry) → count_by is_line (placed k n es) ≡ count_by (is_line_of k) es
placed_counted k n [] = refl
placed_counted k n (Boot text config stored start zone carry ∷ es) = placed_counted k (n + 1) es ∙ omega (arith, count-cons (is_line_of k) (Boot text config stored start zone carry) es)
placed_counted k n (Again number start stored carry ∷ es) = placed_counted k (n + 1) es ∙ omega (arith, count-cons (is_line_of k) (Again number start stored carry) es)
placed_counted k n (Line source number cmd ∷ es) = by (source == k) (placed_counted k (n + 1) es) ∙ sym (count-cons (is_line_of k) (Line source number cmd) es)
  where
    by : (b : Bool) → count_by is_line (placed k (n + 1) es) ≡ count_by (is_line_of k) es
        → count_by is_line (cond b ((n, Line source number cmd) ∷ placed k (n + 1) es) (placed k (n + 1) es)) ≡ cond b 1 0 + count_by (is_line_of k) es
    by true h = count-cons is_line (n, Line source number cmd) (placed k (n + 1) es) ∙ ap (λ (m : ℕ). 1 + m) h
    by false h = omega (arith, h)
placed_counted k n (Step worker serial branch item ∷ es) = by (worker == k) (placed_counted k (n + 1) es) ∙ sym (count-cons (is_line_of k) (Step worker serial branch item) es)
  where
    by : (b : Bool) → count_by is_line (placed k (n + 1) es) ≡ count_by (is_line_of k) es
        → count_by is_line (cond b ((n, Step worker serial branch item) ∷ placed k (n + 1) es) (placed k (n + 1) es)) ≡ 0 + count_by (is_line_of k) es
    by true h = count-cons is_line (n, Step worker serial branch item) (placed k (n + 1) es) ∙ ap (λ (m : ℕ). 0 + m) h
    by false h = omega (arith, h)

pub list_count : (j : Journal) (k : ℕ) (l : List Given) → IsList j k l → count_by (is_line_of k) j ≡ length (read_lines l)
list_count j k l h =
    sym (lines_counted l ∙ ap (count_by is_line) h.entries ∙ placed_counted k 0 j)

bare_shut : (k : ℕ) (l : List Given) → list_any (λ (g : Given). shuts k g.entry) l ≡ list_any (λ (p : ℕ × Entry). shuts k p.1) (bare l)
bare_shut k [] = refl
bare_shut k (g ∷ gs) = ap (λ (b : Bool). shuts k g.entry || b) (bare_shut k gs)

and-false : (a : Bool) → (a && false) ≡ false
and-false true = refl
and-false false = refl

placed_shut : (k n : ℕ) (es : List Entry) → list_any (λ (p : ℕ × Entry). shuts k p.1) (placed k n es) ≡ list_any (shuts k) es
placed_shut k n [] = refl
placed_shut k n (Boot text config stored start zone carry ∷ es) = placed_shut k (n + 1) es
placed_shut k n (Again number start stored carry ∷ es) = placed_shut k (n + 1) es
placed_shut k n (Line source number cmd ∷ es) = by (source == k) refl (placed_shut k (n + 1) es)
  where
    by : (b : Bool) → (source == k) ≡ b → list_any (λ (p : ℕ × Entry). shuts k p.1) (placed k (n + 1) es) ≡ list_any (shuts k) es
        → list_any (λ (p : ℕ × Entry). shuts k p.1) (cond b ((n, Line source number cmd) ∷ placed k (n + 1) es) (placed k (n + 1) es)) ≡ ((shuts_source cmd && (source == k)) || list_any (shuts k) es)
    by true is h = ap (λ (b : Bool). (shuts_source cmd && (source == k)) || b) h
    by false is h = h ∙ sym (ap (λ (b : Bool). (shuts_source cmd && b) || list_any (shuts k) es) is ∙ ap (λ (b : Bool). b || list_any (shuts k) es) (and-false (shuts_source cmd)))
placed_shut k n (Step worker serial branch item ∷ es) = by (worker == k) (placed_shut k (n + 1) es)
  where
    by : (b : Bool) → list_any (λ (p : ℕ × Entry). shuts k p.1) (placed k (n + 1) es) ≡ list_any (shuts k) es
        → list_any (λ (p : ℕ × Entry). shuts k p.1) (cond b ((n, Step worker serial branch item) ∷ placed k (n + 1) es) (placed k (n + 1) es)) ≡ list_any (shuts k) es
    by true h = h
    by false h = h

pub list_shut : (j : Journal) (k : ℕ) (l : List Given) → IsList j k l → list_any (shuts k) j ≡ list_any (λ (g : Given). shuts k g.entry) l
list_shut j k l h = sym (bare_shut k l ∙ ap (λ (z : List (ℕ × Entry)). list_any (λ (p : ℕ × Entry). shuts k p.1) z) h.entries ∙ placed_shut k 0 j)

-- ---- the lines of a source are put from the commands that were read

abbrev AreZipped : ℕ → Journal → List Entry → List Cmd → Type 0
AreZipped k before xs cmds = AllZip (λ (p : Placed) (c : Cmd). p.cmd ≡ put_as p.before c) (placed_from k before xs) cmds

-- what is told of the entries xs, which stand behind those before
abbrev AreTold : ℕ → Journal → List Entry → List Given → List (ℕ × Option Cmd) → Type 0
AreTold k before xs l read = (bare l ≡ placed k (length before) xs) × AllTold (before ++ xs) l × (read_lines l ≡ read)

heads : {X : Type 0} (x y : X) (xs ys : List X) → x ∷ xs ≡ y ∷ ys → x ≡ y
heads x y xs ys e = cc

tails : {X : Type 0} (x y : X) (xs ys : List X) → x ∷ xs ≡ y ∷ ys → xs ≡ ys
tails x y xs ys e = cc

some_same : {A : Type 0} {a b : A} → Some a ≡ Some b → a ≡ b
some_same e = cc

-- the entry is not in the list
passed : (k : ℕ) (before : Journal) (e : Entry) (xs : List Entry) (l : List Given) (read : List (ℕ × Option Cmd)) → bare l ≡ placed k (length before + 1) xs → AllTold (before ++ e ∷ xs) l → read_lines l ≡ read
    → AreTold k (before ++ (e ∷ [])) xs l read
passed k before e xs l read is told lines = (
  is ∙ ap (λ (m : ℕ). placed k m xs) (sym (length-append before (e ∷ []))),
  subst (λ (z : Journal). AllTold z l) (sym (append_assoc before (e ∷ []) xs)) told,
  lines,
)

-- a line is the first of the list
line_first : (k : ℕ) (before : Journal) (source number : ℕ) (cmd : Cmd) (xs : List Entry) (l : List Given) (n : ℕ) (cmds : List Cmd)
    → bare l ≡ (length before, Line source number cmd) ∷ placed k (length before + 1) xs → AllTold (before ++ Line source number cmd ∷ xs) l → read_lines l ≡ numbered n cmds
    → ((gs : List Given) (cs : List Cmd) → AreTold k (before ++ (Line source number cmd ∷ [])) xs gs (numbered (n + 1) cs) → AreZipped k (before ++ (Line source number cmd ∷ [])) xs cs)
    → AllZip (λ (p : Placed) (c : Cmd). p.cmd ≡ put_as p.before c) (record { before = before; cmd = cmd } ∷ placed_from k (before ++ (Line source number cmd ∷ [])) xs) cmds
line_first k before source number cmd xs [] n cmds is told lines rest = absurd (cc)
line_first k before source number cmd xs (g ∷ gs) n cmds is told lines rest = by cmds (ap (λ (o : Option Spoken). option_map_or (λ l. (l.number, g.read) ∷ read_lines gs) o (read_lines gs)) (ap line_of (sym entry)) ∙ lines)
  where
    pair : ◌≡◌ {A = ℕ × Entry} (g.place, g.entry) (length before, Line source number cmd)
    pair = heads (g.place, g.entry) (length before, Line source number cmd) (bare gs) (placed k (length before + 1) xs) is

    place : g.place ≡ length before
    place = ap (λ (p : ℕ × Entry). p.0) pair

    entry : g.entry ≡ Line source number cmd
    entry = ap (λ (p : ℕ × Entry). p.1) pair

    behind : bare gs ≡ placed k (length before + 1) xs
    behind = tails (g.place, g.entry) (length before, Line source number cmd) (bare gs) (placed k (length before + 1) xs) is

    put : IsPutAs before (Line source number cmd) g.read
    put = subst (λ (e : Entry). IsPutAs before e g.read) entry
        (subst (λ (z : Journal). IsPutAs z g.entry g.read) (take-append_seam before (Line source number cmd ∷ xs)) (subst (λ (m : ℕ). IsPutAs (take m (before ++ Line source number cmd ∷ xs)) g.entry g.read) place told.0.line))

    by : (cs : List Cmd) → (number, g.read) ∷ read_lines gs ≡ numbered n cs → AllZip (λ (p : Placed) (c : Cmd). p.cmd ≡ put_as p.before c) (record { before = before; cmd = cmd } ∷ placed_from k (before ++ (Line source number cmd ∷ [])) xs) cs
    by [] e = absurd (cc)
    by (c ∷ cs) e =
        let read : g.read ≡ Some c = ap (λ (p : ℕ × Option Cmd). p.1) (heads (number, g.read) (n, Some c) (read_lines gs) (numbered (n + 1) cs) e) in
        let left : read_lines gs ≡ numbered (n + 1) cs = tails (number, g.read) (n, Some c) (read_lines gs) (numbered (n + 1) cs) e in (
          put.2 ∙ ap (put_as before) (some_same (sym put.1 ∙ read)),
          rest gs cs (passed k before (Line source number cmd) xs gs (numbered (n + 1) cs) behind told.1 left),
        )

-- a step is the first of the list
step_first : (k : ℕ) (before : Journal) (worker serial : ℕ) (branch : List ℕ) (item : _) (xs : List Entry) (l : List Given) (read : List (ℕ × Option Cmd))
    → bare l ≡ (length before, Step worker serial branch item) ∷ placed k (length before + 1) xs → AllTold (before ++ Step worker serial branch item ∷ xs) l → read_lines l ≡ read
    → (gs : List Given) × AreTold k (before ++ (Step worker serial branch item ∷ [])) xs gs read
step_first k before worker serial branch item xs [] read is told lines = absurd (cc)
step_first k before worker serial branch item xs (g ∷ gs) read is told lines =
    let pair : ◌≡◌ {A = ℕ × Entry} (g.place, g.entry) (length before, Step worker serial branch item) = heads (g.place, g.entry) (length before, Step worker serial branch item) (bare gs) (placed k (length before + 1) xs) is in
    let entry : g.entry ≡ Step worker serial branch item = ap (λ (p : ℕ × Entry). p.1) pair in
    let behind : bare gs ≡ placed k (length before + 1) xs = tails (g.place, g.entry) (length before, Step worker serial branch item) (bare gs) (placed k (length before + 1) xs) is in
    (gs, passed k before (Step worker serial branch item) xs gs read behind told.1 (ap (λ (o : Option Spoken). option_map_or (λ l. (l.number, g.read) ∷ read_lines gs) o (read_lines gs)) (ap line_of (sym entry)) ∙ lines))

none_left : (l : List Given) (n : ℕ) (cmds : List Cmd) → bare l ≡ [] → read_lines l ≡ numbered n cmds → cmds ≡ []
none_left [] n [] is lines = refl
none_left [] n (c ∷ cs) is lines = absurd (cc)
none_left (g ∷ gs) n cmds is lines = absurd (cc)

puts_from : (k : ℕ) (before xs : Journal) (l : List Given) (n : ℕ) (cmds : List Cmd) → AreTold k before xs l (numbered n cmds) → AreZipped k before xs cmds
puts_from k before [] l n cmds h = subst (λ (z : List Cmd). AreZipped k before [] z) (sym (none_left l n cmds h.0 h.2)) tt
puts_from k before (Boot text config stored start zone carry ∷ xs) l n cmds h =
    puts_from k (before ++ (Boot text config stored start zone carry ∷ [])) xs l n cmds (passed k before (Boot text config stored start zone carry) xs l (numbered n cmds) h.0 h.1 h.2)
puts_from k before (Again number start stored carry ∷ xs) l n cmds h =
    puts_from k (before ++ (Again number start stored carry ∷ [])) xs l n cmds (passed k before (Again number start stored carry) xs l (numbered n cmds) h.0 h.1 h.2)
puts_from k before (Line source number cmd ∷ xs) l n cmds h =
    by (source == k) h.0 (λ gs m cs told. puts_from k (before ++ (Line source number cmd ∷ [])) xs gs m cs told)
  where
    by : (b : Bool) → bare l ≡ cond b ((length before, Line source number cmd) ∷ placed k (length before + 1) xs) (placed k (length before + 1) xs)
        → ((gs : List Given) (m : ℕ) (cs : List Cmd) → AreTold k (before ++ (Line source number cmd ∷ [])) xs gs (numbered m cs) → AreZipped k (before ++ (Line source number cmd ∷ [])) xs cs)
        → AllZip (λ (p : Placed) (c : Cmd). p.cmd ≡ put_as p.before c) ((if b then record { before = before; cmd = cmd } ∷ [] else []) ++ placed_from k (before ++ (Line source number cmd ∷ [])) xs) cmds
    by true is rest = line_first k before source number cmd xs l n cmds is h.1 h.2 (λ gs cs told. rest gs (n + 1) cs told)
    by false is rest = rest l n cmds (passed k before (Line source number cmd) xs l (numbered n cmds) is h.1 h.2)
puts_from k before (Step worker serial branch item ∷ xs) l n cmds h =
    by (worker == k) h.0 (λ gs told. puts_from k (before ++ (Step worker serial branch item ∷ [])) xs gs n cmds told)
  where
    by : (b : Bool) → bare l ≡ cond b ((length before, Step worker serial branch item) ∷ placed k (length before + 1) xs) (placed k (length before + 1) xs)
        → ((gs : List Given) → AreTold k (before ++ (Step worker serial branch item ∷ [])) xs gs (numbered n cmds) → AreZipped k (before ++ (Step worker serial branch item ∷ [])) xs cmds)
        → AreZipped k (before ++ (Step worker serial branch item ∷ [])) xs cmds
    by true is rest = let s = step_first k before worker serial branch item xs l (numbered n cmds) is h.1 h.2 in rest s.0 s.1
    by false is rest = rest l (passed k before (Step worker serial branch item) xs l (numbered n cmds) is h.1 h.2)

-- LAW: the lines of source k are put from the commands that were read for the lines of worker k's list
pub list_puts : (j : Journal) (k : ℕ) (l : List Given) (cmds : List Cmd) → IsList j k l → HasPut l cmds → ArePutFrom k j cmds
list_puts j k l cmds h lines = puts_from k [] j l 0 cmds (h.entries, h.told, lines)
