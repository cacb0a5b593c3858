-- Filters.
use Rattle.std.proofs.Common.{◌≡◌, ℕ, zero, suc, ◌<◌, Bool, true, false, inl, inr, List, [], ◌∷◌, ◌++◌, length, drop, Option, Some, None, Ok, Err, refl, sym, ap, ◌∙◌, subst, arith, append_assoc, length-append}
use Rattle.std.specs.Prelude.{◌==◌, ◌||◌, ◌&&◌, is_some, max}
use Rattle.std.specs.List.{find, fold, list_all}
use Rattle.std.specs.Str.{bytes_eq}
use Rattle.std.proofs.lemmas.Bool.{and_parts}
use Rattle.std.proofs.lemmas.Slice.Eq.{bytes_eq-Decides}
use Rattle.ha_config.specs.declared.template.Expr.{Expr}
use Rattle.ha_config.specs.declared.template.Expr
use Rattle.reading.specs.Answer.{◌>>=◌}
use Rattle.reading.proofs.Basics.{chosen as chosen_of, chosen_is}
use Rattle.tpl_parse.specs.declared.token.Token.{Token}
use Rattle.tpl_parse.specs.declared.table.Counts.{Counts}
use Rattle.tpl_parse.specs.declared.table.Filter.{Filter}
use Rattle.tpl_parse.specs.Token.{common, in_name, spaces, next_is, past}
use Rattle.tpl_parse.specs.Names.{all_filters, farther, filter_row, filter_named, filters_reach, may_stand, takes_behind}
use Rattle.tpl_parse.specs.Literal.{filter_name, filter_or, skip_word, standing, word}
use Rattle.tpl_parse.specs.Reading.{Inner, arguments, filter_arguments, filter_turns, filtered, signed}
use Rattle.tpl_parse.specs.Grammar.{Takes, other, more as one_more, IsWord, of_filter, with_filters, with_sign, more_filters, Is, filtered as filtered_is, no_filter, bare_filter, one_filter}
use Rattle.tpl_parse.proofs.Tokens.{spaces_twice}
use Rattle.tpl_parse.proofs.Next.{Alike, past_shorter, spaces_within}
use Rattle.tpl_parse.proofs.Runs.{word_found}
use Rattle.tpl_laws.proofs.Likes.{Like}
use Rattle.tpl_laws.proofs.Outcomes.{Gave, Still, Open, Out, like_put, out_bind, out_after, open_as, open_put, out_put}
use Rattle.tpl_laws.proofs.Tokens.{blanks_of, is_begun, begun_solid, solid_at, takes_at, Took, took_token, Spaced, bare, spaced, Nearest, nearest, greater, blank_gone, word_open, place_open}
use Rattle.tpl_laws.proofs.Lexical.{run_parts, word_again}
use Rattle.tpl_laws.proofs.Depths.{Deep, deepest, deeper, ExprOut, Listed, none_allowed, brackets_whole, left_shorter}
use Rattle.tpl_laws.proofs.Items.{Fits, arguments_out}
use Rattle.tpl_laws.proofs.Chains.{ended, behind_parts, signed_out}

-- ---- names of filters

abbrev name_of : Filter → List ℕ
name_of f = (filter_row f).name

name_begun : (f : Filter) → is_begun (name_of f) ≡ true
name_begun Filter.Int = refl
name_begun _ = refl

name_names : (f : Filter) → filter_named (name_of f) ≡ Some f
name_names Filter.Int = refl
name_names _ = refl

name_all : (f : Filter) → list_all in_name (name_of f) ≡ true
name_all Filter.Int = refl
name_all _ = refl

run_by : (w r : List ℕ) → list_all in_name w ≡ true → IsWord (w ++ 32 ∷ r) w (32 ∷ r)
run_by [] r h = other refl
run_by (b ∷ w) r h = let p = and_parts (in_name b) (list_all in_name w) h in one_more p.0 (run_by w r p.1)

-- the name at a place, and a blank behind it
name_here : (f : Filter) (o r : List ℕ) → spaces o ≡ name_of f ++ 32 ∷ r → IsWord (spaces o) (name_of f) (32 ∷ r)
name_here f o r at = subst (λ (v : List ℕ). IsWord v (name_of f) (32 ∷ r)) (sym at) (run_by (name_of f) r (name_all f))

filter_by : (w : List ℕ) (f : Filter) (fs : List Filter) → find (λ filter. bytes_eq (filter_row filter).name w) fs ≡ Some f → (filter_row f).name ≡ w
filter_by w f [] e = absurd cc
filter_by w f (g ∷ fs) e = elim (chosen_of (bytes_eq (filter_row g).name w) (Some g) (find (λ filter. bytes_eq (filter_row filter).name w) fs) (Some f) e) [
  | inl h ↦ (let same : g ≡ f = (let k = h.1 in cc) in ap (λ (x : Filter). (filter_row x).name) (sym same) ∙ (bytes_eq-Decides (filter_row g).name w).0 h.0)
  | inr h ↦ filter_by w f fs h.1
]

record Word (v : List ℕ) : Type 0 where
  before : List ℕ
  parts : v ≡ before ++ skip_word (spaces v)
  again : (o : List ℕ) → Like (skip_word (spaces v)) o → IsWord (spaces (before ++ o)) (word (spaces v)) o

filter_word : (v : List ℕ) (f : Filter) → filter_named (word (spaces v)) ≡ Some f → Word v
filter_word v f is =
    let b = blanks_of v in
    let w : List ℕ = word (spaces v) in
    let run : IsWord (spaces v) w (skip_word (spaces v)) = word_found (spaces v) in
    let same : name_of f ≡ w = filter_by w f all_filters is in
    let shown : (o : List ℕ) → spaces (w ++ o) ≡ w ++ o = λ o. subst (λ (x : List ℕ). spaces (x ++ o) ≡ x ++ o) same (solid_at (name_of f) o (begun_solid (name_of f) (name_begun f))) in
    record {
      before = b.blanks ++ w;
      parts = b.parts ∙ ap (λ (x : List ℕ). b.blanks ++ x) (run_parts run) ∙ sym (append_assoc b.blanks w (skip_word (spaces v)));
      again = λ o l.
          subst (λ (x : List ℕ). IsWord x w o) (sym (ap spaces (append_assoc b.blanks w o) ∙ b.gone (w ++ o) ∙ shown o)) (word_again run o l);
    }

-- what the name of a filter is, or how far the text goes as one
data Named (opens : Bool) (t : List ℕ) : Gave Filter → Type 0 where
  is_named : (f : Filter) → filter_named (word (spaces t)) ≡ Some f → may_stand opens f ≡ true → Named opens t (Ok (f, skip_word (spaces t)))
  not_named : Named opens t (Err (record { left = length (drop (filters_reach opens (spaces t)) (spaces t)); code = tt }))

named_of : (opens : Bool) (t : List ℕ) → Named opens t (filter_name opens t)
unfolding filter_name
named_of opens t = by (filter_named (word (spaces t))) refl where
  by : (o : Option Filter) → filter_named (word (spaces t)) ≡ o → Named opens t (filter_or opens (standing opens o) (spaces t))
  by None e = not_named
  by (Some f) e = elim (chosen_is (may_stand opens f)) [
    | inl h ↦ rw h (is_named f e h)
    | inr h ↦ rw h not_named
  ]

abbrev Stands : Bool → Filter → Type 0
Stands opens f = may_stand opens f ≡ true

farther_nearest : (opens : Bool) (s : List ℕ) (n : ℕ) (f : Filter) → Nearest name_of (Stands opens) s n → Nearest name_of (Stands opens) s (farther opens s n f)
farther_nearest opens s n f h = elim (chosen_is (may_stand opens f)) [
  | inl k ↦ rw k (greater name_of (Stands opens) s n (common (name_of f) s) h (nearest f k refl))
  | inr k ↦ rw k h
]

fold_nearest : (opens : Bool) (s : List ℕ) (fs : List Filter) (n : ℕ) → Nearest name_of (Stands opens) s n → Nearest name_of (Stands opens) s (fold (farther opens s) n fs)
fold_nearest opens s [] n h = h
fold_nearest opens s (f ∷ fs) n h = fold_nearest opens s fs (farther opens s n f) (farther_nearest opens s n f h)

filters_nearest : (opens : Bool) (s : List ℕ) → Nearest name_of (Stands opens) s (filters_reach opens s)
filters_nearest opens s = fold_nearest opens s (drop 1 all_filters) (max 0 (common (name_of Filter.Int) s)) (nearest Filter.Int refl (omega arith))

-- ---- what a filter needs

-- one with arguments has room for them
room : (f : Filter) → (((filter_row f).counts.least == 0) || takes_behind (filter_row f).counts.most 0) ≡ true
room Filter.Int = refl
room _ = refl

room_of : (f : Filter) → ((filter_row f).counts.least == 0) ≡ false → takes_behind (filter_row f).counts.most 0 ≡ true
room_of f h = rw h at (room f)

needs_open : {d : ℕ} {o : Option Inner} → Deep d o → (f : Filter) → ((filter_row f).counts.least == 0) ≡ false → may_stand (is_some o) f ≡ true → (e : ℕ) × (d ≡ suc e)
needs_open deepest f h k = absurd (no_room ((filter_row f).counts.least == 0) h k) where
  no_room : (x : Bool) → x ≡ false → (x || false) ≡ true → ⊥
  no_room true p q = cc
  no_room false p q = cc
needs_open (deeper {d = e} sound) f h k = (e, refl)

fits_of : {d : ℕ} {o : Option Inner} → Deep d o → (counts : Counts) → (counts.least == 0 || is_some o) ≡ true → Fits o counts
fits_of deepest counts h = none_some (counts.least == 0) h where
  none_some : (x : Bool) → (x || false) ≡ true → x ≡ true
  none_some true p = refl
  none_some false p = absurd cc
fits_of (deeper sound) counts h = tt

group_next : (z : List ℕ) → spaces (32 ∷ 40 ∷ 32 ∷ z) ≡ 40 ∷ 32 ∷ z
group_next z = blank_gone (40 ∷ 32 ∷ z) ∙ solid_at (40 ∷ []) (32 ∷ z) refl

-- a filter, where its brackets are still to come
module _ (d e : ℕ) (deep : d ≡ suc e) (base : Expr) (f : Filter) (bare' : ((filter_row f).counts.least == 0) ≡ false) where
  brackets : (m : List ℕ) × ((q : List ℕ) → (items : List Expr) × Listed (of_filter f base) d (32 ∷ (m ++ 32 ∷ q)) items (32 ∷ q))
  brackets =
      let p = brackets_whole (of_filter f base) e (room_of f bare') in
      (p.0, subst (λ (k : ℕ). (q : List ℕ) → (items : List Expr) × Listed (of_filter f base) k (32 ∷ (p.0 ++ 32 ∷ q)) items (32 ∷ q)) (sym deep) p.1)

module _ {d : ℕ} {o : Option Inner} (deep : Deep d o) where
  abbrev AllFilters : ℕ → Type 0
  AllFilters n = (base : Expr) (t u : List ℕ) → Alike u t → length (spaces t) < n → Out Still (Is (more_filters base) d) u (filter_turns n o base t)

  module _ (base : Expr) (t u : List ℕ) (alike : Alike u t) (h : next_is Token.Bar t ≡ true) where
    abbrev v : List ℕ
    v = past Token.Bar t

    abbrev bar : Took Token.Bar u (past Token.Bar t)
    bar = took_token Token.Bar t u alike h

    name_opens : Open (Is (more_filters base) d) u (record { left = length (drop (filters_reach (is_some o) (spaces v)) (spaces v)); code = tt })
    name_opens = word_open (Is (more_filters base) d) u bar.before v bar.parts name_of (Stands (is_some o)) (spaces v) (filters_reach (is_some o) (spaces v)) refl name_begun each (filters_nearest (is_some o) (spaces v)) where
      each : (f : Filter) → Stands (is_some o) f → (e : List ℕ) × Spaced e × ((p q : List ℕ) → Like v p → spaces p ≡ name_of f ++ (e ++ 32 ∷ q) → (y : Expr) × Is (more_filters base) d (bar.before ++ p) y (32 ∷ q))
      each f k = elim (chosen_is ((filter_row f).counts.least == 0)) [
        | inl none ↦ ([], bare, λ p q l at. (Expr.Filter (filter_row f).number base [], bare_filter (bar.again p l) (name_here f p q at) (name_names f) (none_allowed (of_filter f base) none) no_filter))
        | inr some ↦
            let n = needs_open deep f some k in
            let m = brackets d n.0 n.1 base f some in (
              32 ∷ 40 ∷ 32 ∷ m.0,
              spaced (40 ∷ 32 ∷ m.0),
              λ p q l at.
                  let items = m.1 q in
                  let z : List ℕ = m.0 ++ 32 ∷ q in
                  (Expr.Filter (filter_row f).number base items.0, one_filter (bar.again p l) (name_here f p (40 ∷ 32 ∷ z) at) (name_names f) (takes_at Token.OpenGroup (32 ∷ 40 ∷ 32 ∷ z) z (group_next z)) items.1 no_filter),
            )
      ]

    module _ (n : ℕ) (lt : length (spaces t) < suc n) (again : AllFilters n) (f : Filter) (is : filter_named (word (spaces (past Token.Bar t))) ≡ Some f) where
      abbrev left : List ℕ
      left = skip_word (spaces (past Token.Bar t))

      abbrev wd : Word (past Token.Bar t)
      wd = filter_word (past Token.Bar t) f is

      abbrev number : ℕ
      number = (filter_row f).number

      abbrev front : List ℕ
      front = bar.before ++ wd.before

      front_parts : u ≡ front ++ left
      front_parts = behind_parts bar.before wd.before left bar.parts wd.parts

      left_less : length left < length (spaces t)
      left_less = omega (arith, ap length (run_parts (word_found (spaces v))), length-append (word (spaces v)) left, spaces_within v, past_shorter Token.Bar t h)

      barred : (p : List ℕ) → Like left p → Takes Token.Bar (bar.before ++ (wd.before ++ p)) (wd.before ++ p)
      barred p l = bar.again (wd.before ++ p) (like_put wd.before wd.parts l)

      bare_out : ((filter_row f).counts.least == 0) ≡ true → Out Still (Is (more_filters base) d) u (filter_turns n o (Expr.Filter number base []) (spaces left))
      bare_out none =
          out_put Still (Is (more_filters (Expr.Filter number base [])) d) Still (Is (more_filters base) d) u front left front_parts
          (λ p r e l is'.
          subst (λ (w : List ℕ). Is (more_filters base) d w e r) (sym (append_assoc bar.before wd.before p)) (bare_filter (barred p l) (wd.again p l) is (none_allowed (of_filter f base) none) is'))
          (λ y token m. m) (filter_turns n o (Expr.Filter number base []) (spaces left))
          (again (Expr.Filter number base []) (spaces left) left (sym (spaces_twice left)) (omega (arith, ap length (spaces_twice left), spaces_within left, left_less, lt)))

      open_out : ((filter_row f).counts.least == 0) ≡ false → may_stand (is_some o) f ≡ true → Open (Is (more_filters base) d) u (record { left = length (spaces left); code = tt })
      open_out some stands' =
          let k = needs_open deep f some stands' in
          let m = brackets d k.0 k.1 base f some in
          place_open (Is (more_filters base) d) u front left front_parts (spaces left) refl (40 ∷ 32 ∷ m.0)
          (λ p q l at.
          let items = m.1 q in
          let z : List ℕ = m.0 ++ 32 ∷ q in
          let e : Expr = Expr.Filter number base items.0 in (
            e,
            subst (λ (w : List ℕ). Is (more_filters base) d w e (32 ∷ q)) (sym (append_assoc bar.before wd.before p))
                (one_filter (barred p l) (wd.again p l) is (takes_at Token.OpenGroup p z (at ∙ solid_at (40 ∷ []) (32 ∷ z) refl)) items.1 no_filter),
          ))

      module _ (opened : next_is Token.OpenGroup (skip_word (spaces (past Token.Bar t))) ≡ true) where
        abbrev group : Took Token.OpenGroup left (past Token.OpenGroup left)
        group = took_token Token.OpenGroup left left refl opened

        abbrev inner : List ℕ
        inner = past Token.OpenGroup left

        inner_parts : u ≡ (front ++ group.before) ++ inner
        inner_parts = behind_parts front group.before inner front_parts group.parts

        put : (a p r : List ℕ) (items : List Expr) (e : Expr) → Like inner a → Listed (of_filter f base) d a items p → Is (more_filters (Expr.Filter number base items)) d p e r → Is (more_filters base) d ((front ++ group.before) ++ a) e r
        put a p r items e l is' more =
            let l2 : Like left (group.before ++ a) = like_put group.before group.parts l in
            subst (λ (w : List ℕ). Is (more_filters base) d w e r) (sym (append_assoc front group.before a ∙ append_assoc bar.before wd.before (group.before ++ a)))
            (one_filter (barred (group.before ++ a) l2) (wd.again (group.before ++ a) l2) is (group.again a l) is' more)

        called_out : Fits o (filter_row f).counts → Out Still (Is (more_filters base) d) u (arguments o Token.CloseGroup (filter_row f).counts inner >>= λ args. filter_turns n o (Expr.Filter number base args.0) args.1)
        called_out fits =
            out_after Still (Listed (of_filter f base) d) Still (Is (more_filters base) d) u inner (λ args. filter_turns n o (Expr.Filter number base args.0) args.1) (arguments o Token.CloseGroup (filter_row f).counts inner)
            (λ x left2 is' g.
            out_put Still (Is (more_filters (Expr.Filter number base x)) d) Still (Is (more_filters base) d) u ((front ++ group.before) ++ g.before) g.rest (behind_parts (front ++ group.before) g.before g.rest inner_parts g.parts)
            (λ p r e l is2.
            subst (λ (w : List ℕ). Is (more_filters base) d w e r) (sym (append_assoc (front ++ group.before) g.before p)) (put (g.before ++ p) p r x e (like_put g.before g.parts l) (g.again p l) is2))
            (λ y token m. m) (filter_turns n o (Expr.Filter number base x) left2)
            (again (Expr.Filter number base x) left2 g.rest g.alike (omega (arith, left_shorter g, spaces_within inner, past_shorter Token.OpenGroup left opened, spaces_within left, left_less, lt))))
            (λ fault m. open_put Still (Listed (of_filter f base) d) Still (Is (more_filters base) d) u (front ++ group.before) inner inner_parts (λ p q x l is'. (Expr.Filter number base x, put p (32 ∷ q) (32 ∷ q) x (Expr.Filter number base x) l is' no_filter)) fault m)
            (arguments_out (of_filter f base) deep fits inner inner refl)

      applied_out : may_stand (is_some o) f ≡ true → Out Still (Is (more_filters base) d) u (filter_arguments o (filter_row f).counts left >>= λ args. filter_turns n o (Expr.Filter number base args.0) args.1)
      unfolding filter_arguments
      applied_out stands' = elim (chosen_is (((filter_row f).counts.least == 0 || is_some o) && next_is Token.OpenGroup left)) [
        | inl k ↦ (let p = and_parts ((filter_row f).counts.least == 0 || is_some o) (next_is Token.OpenGroup left) k in rw (p.0, p.1) (called_out p.1 (fits_of deep (filter_row f).counts p.0)))
        | inr k ↦ rw k (elim (chosen_is ((filter_row f).counts.least == 0)) [
          | inl m ↦ rw m (bare_out m)
          | inr m ↦ rw m (open_out m stands')
        ])
      ]

    filter_out : (n : ℕ) → length (spaces t) < suc n → AllFilters n → (r : Gave Filter) → Named (is_some o) v r
        → Out Still (Is (more_filters base) d) u (r >>= λ filter. filter_arguments o (filter_row filter.0).counts filter.1 >>= λ args. filter_turns n o (Expr.Filter (filter_row filter.0).number base args.0) args.1)
    filter_out n lt again r (is_named f is stands') = applied_out n lt again f is stands'
    filter_out n lt again r not_named = name_opens

  filters_out : (n : ℕ) → AllFilters n
  unfolding filter_turns
  filters_out zero base t u alike lt = absurd (omega arith)
  filters_out (suc n) base t u alike lt = elim (chosen_is (next_is Token.Bar t)) [
    | inl h ↦ rw h (filter_out base t u alike h n lt (filters_out n) (filter_name (is_some o) (past Token.Bar t)) (named_of (is_some o) (past Token.Bar t)))
    | inr h ↦ rw h (ended base (alike ∙ sym (spaces_twice t)) (λ p. no_filter))
  ]

  pub filtered_out : ExprOut with_filters d (filtered o)
  unfolding filtered
  filtered_out t u alike =
      out_bind Still (Is with_sign d) Still (Is with_filters d) u (λ base. filter_turns (suc (length base.1)) o base.0 base.1) (signed o t)
      (λ x left is g.
      out_put Still (Is (more_filters x) d) Still (Is with_filters d) u g.before g.rest g.parts (λ p r e l is. filtered_is (g.again p l) is) (λ y token m. m)
      (filter_turns (suc (length left)) o x left) (filters_out (suc (length left)) x left g.rest g.alike (omega (arith, spaces_within left))))
      (λ f h. open_as Still (Is with_sign d) Still (Is with_filters d) u (λ p q x is. (x, filtered_is is no_filter)) f h)
      (signed_out deep t u alike)
