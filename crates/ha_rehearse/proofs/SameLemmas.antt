-- What is rehearsed is fixed by the number of lines.
use Rattle.std.proofs.Common.{◌≡◌, ◌∙◌, ℕ, zero, suc, List, [], ◌∷◌, ◌++◌, true, false, ap, refl, subst, sym}
use Rattle.std.specs.Prelude.{if◌then◌else◌, nat_eq, Result, Ok}
use Rattle.std.proofs.Math.Dec.{eqb-zero-suc}
use Rattle.std.specs.List.{AllZip}
use Rattle.ha_config.specs.declared.config.Config.{Config}
use Rattle.ha_config.specs.declared.command.Cmd.{Cmd}
use Rattle.ha_journal.specs.declared.entry.Entry.{Entry}
use Rattle.ha_journal.specs.declared.entry.Entry.TheVariants.{Boot, Line, Step, Again}
use Rattle.ha_journal.specs.Commands.{ArePutFrom, Placed, placed_from, put_as}
use Rattle.ha_journal.specs.Journal.{Journal}
use Rattle.ha_whole.specs.Whole.{Lawful, is_quiet}
use Rattle.ha_model.specs.Records.{Records}
use Rattle.ha_laws.specs.Makers.{OfOne}
use Rattle.whole_laws.proofs.ReadLemmas.{one-source-read}
use Rattle.conf_auto.specs.Config.{config_of}
use Rattle.rehearsal.specs.Generated.{config_text}
use Rattle.ha_rehearse.specs.Puts.{Closing, cmds}
use Rattle.ha_rehearse.specs.Rehearsed.{Rehearsed, boot_of}

-- no other source has a line
no_others : (k : ℕ) (before j : Journal) → OfOne j → placed_from (suc k) before j ≡ []
no_others k before [] h = refl
no_others k before (Boot text config stored start zone carry ∷ xs) h = no_others k (before ++ (Boot text config stored start zone carry ∷ [])) xs h.1
no_others k before (Again number start stored carry ∷ xs) h = no_others k (before ++ (Again number start stored carry ∷ [])) xs h.1
no_others k before (Step worker serial branch item ∷ xs) h = no_others k (before ++ (Step worker serial branch item ∷ [])) xs h.1
no_others k before (Line source number cmd ∷ xs) h =
    let other : nat_eq source (suc k) ≡ false = ap (λ s. nat_eq s (suc k)) h.0 ∙ eqb-zero-suc k in
    ap (λ b. (if b then record { before = before; cmd = cmd } ∷ [] else []) ++ placed_from (suc k) (before ++ (Line source number cmd ∷ [])) xs) other
    ∙ no_others k (before ++ (Line source number cmd ∷ [])) xs h.1

-- the commands of each source
abbrev reads : ℕ → ℕ → List Cmd
reads n zero = cmds n
reads n (suc q) = []

all_put : (n : ℕ) (j : Journal) → OfOne j → ArePutFrom 0 j (cmds n) → (q : ℕ) → ArePutFrom q j (reads n q)
all_put n j one puts zero = puts
all_put n j one puts (suc q) = subst (λ (ls : List Placed). AllZip (λ (l : Placed) (c : Cmd). l.cmd ≡ put_as l.before c) ls []) (sym (no_others q [] j one)) tt

one_journal : (n : ℕ) (boot : Entry) (j j' : Journal) (rs rs' : Records) → Closing boot n j rs → Closing boot n j' rs' → is_quiet rs j ≡ true → is_quiet rs' j' ≡ true
    → (j ≡ j') × (rs ≡ rs')
one_journal n boot j j' rs rs' c c' quiet quiet' =
    let e = c.put.begins in
    let e' = c'.put.begins in
    let xs = c.put.later in
    let ys = c'.put.later in
    let one : OfOne (boot ∷ xs) = subst OfOne e c.put.alone in
    let one' : OfOne (boot ∷ ys) = subst OfOne e' c'.put.alone in
    let both = one-source-read boot xs ys rs rs' (subst (λ (k : Journal). Lawful k rs) e c.lawful) (subst (λ (k : Journal). Lawful k rs') e' c'.lawful) one.1 one'.1
    (subst (λ (k : Journal). is_quiet rs k ≡ true) e quiet) (subst (λ (k : Journal). is_quiet rs' k ≡ true) e' quiet') (reads n)
    (all_put n (boot ∷ xs) one (subst (λ (k : Journal). ArePutFrom 0 k (cmds n)) e c.put.puts))
    (all_put n (boot ∷ ys) one' (subst (λ (k : Journal). ArePutFrom 0 k (cmds n)) e' c'.put.puts)) in
    (e ∙ ap (λ (k : Journal). boot ∷ k) both.0 ∙ sym e', both.1)

one_value : {A B : Type 0} (r : Result A B) (x y : A) → r ≡ Ok x → r ≡ Ok y → x ≡ y
one_value {A} {B} r x y h k = let e : ◌≡◌ {A = Result A B} (Ok x) (Ok y) = sym h ∙ k in cc

pub same_rehearsals : (n : ℕ) (j j' : Journal) (rs rs' : Records) → Rehearsed n j rs → Rehearsed n j' rs' → (j ≡ j') × (rs ≡ rs')
same_rehearsals n j j' rs rs' r r' =
    let e = one_value (config_of config_text) r.rehearses.config r'.rehearses.config r.rehearses.reads r'.rehearses.reads in
    one_journal n (boot_of r'.rehearses.config) j j' rs rs' (subst (λ (c : Config). Closing (boot_of c) n j rs) e r.rehearses.closing) r'.rehearses.closing r.quiet r'.quiet
