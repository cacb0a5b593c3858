use Rattle.std.proofs.Common.{◌≡◌, ◌∙◌, ◌≤◌, ◌<◌, ap, refl, sym, arith, List, [], ◌∷◌, length, drop, take, ◌-◌, get_or, map, String, string_bytes, None}
use Rattle.std.specs.declared.alloc.Global.{Global}
use Rattle.std.proofs.lemmas.Result.{IfErr-weaker, IfOk-weaker}
use Rattle.std.proofs.Math.Seq.{take-length}
use Rattle.clap.specs.Words.{Text}
use Rattle.ha_words.specs.PlanOf.{plan_by, plan_of}
use Rattle.ha_words.proofs.read.read_words.Goals as goal

whole : (xs : List (String Global)) (d : String Global) (name : Text) → 1 ≤ length xs → name ≡ string_bytes d → d ≡ get_or xs 0 d
    → plan_of (map string_bytes xs) ≡ plan_by name (map string_bytes (take (length xs - 1) (drop 1 xs)))
unfolding plan_of
whole [] d name h e k = absurd (omega arith)
whole (x ∷ xs) d name h e k =
    let n : length (x ∷ xs) - 1 ≡ length xs = omega arith in
    let all : take (length (x ∷ xs) - 1) xs ≡ xs = ap (λ i. take i xs) n ∙ take-length xs in
    ap (λ n. plan_by n (map string_bytes xs)) (sym (e ∙ ap string_bytes k))
    ∙ ap (λ l. plan_by name (map string_bytes l)) (sym all)

nothing : (xs : List (String Global)) → length xs < 1 → plan_of (map string_bytes xs) ≡ None
unfolding plan_of
nothing [] h = refl
nothing (x ∷ xs) h = absurd (omega arith)

pub returns-in-empty-clause-usage : goal.returns-in-empty-clause-usage
returns-in-empty-clause-usage c = λ u. nothing c.args.words.now c.in-empty.len_below

pub returns-in-len1-up : goal.returns-in-len1-up
returns-in-len1-up c =
    let same = whole c.args.words.now c.name-item.result c.as_str.result.now c.in-len1-up.len_at_least c.as_str.ensures.value c.name-item.is in
    record {
      plan = IfOk-weaker c.plan_by.result _ _ (λ p h. same ∙ h) c.plan_by.ensures.plan;
      usage = IfErr-weaker c.plan_by.result _ _ (λ e h u. same ∙ h u) c.plan_by.ensures.usage;
      sound = c.plan_by.ensures.sound;
    }
