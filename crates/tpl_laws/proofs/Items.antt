-- What brackets hold, item by item.
use Rattle.std.proofs.Common.{◌≡◌, ℕ, zero, suc, ◌<◌, true, inl, inr, List, [], ◌∷◌, ◌++◌, length, drop, Option, Some, None, refl, sym, ap, ◌∙◌, subst, arith, append_assoc}
use Rattle.std.specs.Prelude.{◌==◌, ◌&&◌, max, nat_le}
use Rattle.std.proofs.lemmas.Bool.{and_parts}
use Rattle.ha_config.specs.declared.template.Expr.{Expr}
use Rattle.reading.proofs.Basics.{chosen_is}
use Rattle.tpl_parse.specs.declared.token.Token.{Token}
use Rattle.tpl_parse.specs.declared.table.Counts.{Counts}
use Rattle.tpl_parse.specs.declared.expression.Part.{Part}
use Rattle.tpl_parse.specs.Token.{spaces, next_is, past, text_of}
use Rattle.tpl_parse.specs.Names.{takes_behind}
use Rattle.tpl_parse.specs.Reading.{Inner, after_item, arguments, item_turns, items_in, open_reach}
use Rattle.tpl_parse.specs.Grammar.{Holder, closing, counts_of, is_within, allows, an_expression, no_items, some_items, last_item, one_item}
use Rattle.tpl_parse.proofs.Tokens.{spaces_twice}
use Rattle.tpl_parse.proofs.Next.{Alike, past_shorter, spaces_within}
use Rattle.tpl_laws.proofs.Outcomes.{Gave, Still, tail_of, Grown, Open, Out, like_put, out_bind, open_then, out_put}
use Rattle.tpl_laws.proofs.Tokens.{token_begun, begun_solid, solid_at, takes_at, took_token, spaced, word_open, place_open}
use Rattle.tpl_laws.proofs.Depths.{AtEnd, end_nearest, none_farther, Parted, InnerOut, Deep, deepest, deeper, left_shorter, both, no_room, none_allowed, enough, closes, MoreListed, Listed, item_closes, more_within, one_longer}

-- what is known of the holder where nothing may be opened
abbrev pub Fits : Option Inner → Counts → Type 0
Fits None counts = (counts.least == 0) ≡ true
Fits (Some inner) counts = Unit {0}

module _ (holder : Holder) {d : ℕ} {inner : Inner} (sound : InnerOut d inner) where
  abbrev counts : Counts
  counts = counts_of holder

  abbrev turns : ℕ → List Expr → List ℕ → Gave (List Expr)
  turns n found t = item_turns n inner.expression (closing holder) (counts_of holder) found t

  abbrev AllTurns : ℕ → Type 0
  AllTurns n = (found : List Expr) (t u : List ℕ) → Alike u t → length (spaces t) < n → takes_behind (counts_of holder).most (length found) ≡ true → Out Still (MoreListed holder found d) u (turns n found t)

  module _ (n : ℕ) (found : List Expr) (room : takes_behind (counts_of holder).most (length found) ≡ true) (again : AllTurns n) where
    module _ (u : List ℕ) (x : Part) (left : List ℕ) (g : Grown AtEnd (Parted an_expression d) u x left) where
      abbrev all : List Expr
      all = found ++ x.expr ∷ []

      fits : is_within (counts_of holder).most (length all) ≡ true
      fits = ap (is_within (counts_of holder).most) (one_longer found x.expr) ∙ more_within (counts_of holder).most (length found) room

      item_ends : nat_le (counts_of holder).least (length all) ≡ true → next_is (closing holder) left ≡ true → Grown Still (MoreListed holder found d) u all (past (closing holder) left)
      item_ends most h =
          let k = took_token (closing holder) left g.rest g.alike h in
          record {
            before = g.before ++ k.before;
            rest = past (closing holder) left;
            parts = g.parts ∙ ap (λ (v : List ℕ). g.before ++ v) k.parts ∙ sym (append_assoc g.before k.before (past (closing holder) left));
            alike = refl;
            again = λ o l.
                subst (λ (v : List ℕ). MoreListed holder found d v all o) (sym (append_assoc g.before k.before o))
                (last_item (g.again (k.before ++ o) (like_put k.before k.parts l)) (both (nat_le (counts_of holder).least (length all)) (is_within (counts_of holder).most (length all)) most fits) (k.again o l));
            goes = λ token m. absurd m;
          }

      one_more : next_is Token.Comma left ≡ true → length (spaces left) < suc n → takes_behind (counts_of holder).most (length all) ≡ true → Out Still (MoreListed holder found d) u (turns n all (past Token.Comma left))
      one_more h lt more =
          let k = took_token Token.Comma left g.rest g.alike h in
          let b : List ℕ = g.before ++ k.before in
          out_put Still (MoreListed holder all d) Still (MoreListed holder found d) u b (past Token.Comma left)
          (g.parts ∙ ap (λ (v : List ℕ). g.before ++ v) k.parts ∙ sym (append_assoc g.before k.before (past Token.Comma left)))
          (λ o r items l is.
          subst (λ (v : List ℕ). MoreListed holder found d v items r) (sym (append_assoc g.before k.before o))
          (one_item (g.again (k.before ++ o) (like_put k.before k.parts l)) (k.again o l) is))
          (λ y token m. m) (turns n all (past Token.Comma left))
          (again all (past Token.Comma left) (past Token.Comma left) refl (omega (arith, past_shorter Token.Comma left h, spaces_within (past Token.Comma left), lt)) more)

      no_more : Open (MoreListed holder found d) u (record { left = length (drop (max (open_reach x.last x.choice (spaces left)) 0) (spaces left)); code = tt })
      no_more =
          let m = enough holder (suc (length found)) (more_within (counts_of holder).most (length found) room) in
          word_open (MoreListed holder found d) u g.before g.rest g.parts text_of (AtEnd x) (spaces left) (max (open_reach x.last x.choice (spaces left)) 0) g.alike token_begun
          (λ token k. (
            32 ∷ (tail_of token ++ 32 ∷ closes holder m.0),
            spaced (tail_of token ++ 32 ∷ closes holder m.0),
            λ o q l at.
                let s = g.goes token k o (closes holder m.0 ++ 32 ∷ q) l (at ∙ ap (λ (v : List ℕ). text_of token ++ 32 ∷ v) (append_assoc (tail_of token) (32 ∷ closes holder m.0) (32 ∷ q))) in
                item_closes holder d m.0 found (g.before ++ o) s.0.expr q m.1 s.1,
          ))
          (none_farther (AtEnd x) (spaces left) (open_reach x.last x.choice (spaces left)) (end_nearest x (spaces left)))

      after_out : length (spaces left) < suc n → Out Still (MoreListed holder found d) u (after_item (closing holder) (counts_of holder) (turns n) all x left)
      after_out lt = elim (chosen_is (nat_le (counts_of holder).least (length all) && next_is (closing holder) left)) [
        | inl h ↦ (let p = and_parts (nat_le (counts_of holder).least (length all)) (next_is (closing holder) left) h in rw (p.0, p.1) (item_ends p.0 p.1))
        | inr h ↦ rw h (elim (chosen_is (takes_behind (counts_of holder).most (length all) && next_is Token.Comma left)) [
          | inl k ↦ (let p = and_parts (takes_behind (counts_of holder).most (length all)) (next_is Token.Comma left) k in rw (p.0, p.1) (one_more p.1 lt p.0))
          | inr k ↦ rw k no_more
        ])
      ]

  turns_out : (n : ℕ) → AllTurns n
  unfolding item_turns
  turns_out zero found t u alike lt room = absurd (omega arith)
  turns_out (suc n) found t u alike lt room =
      let m = enough holder (suc (length found)) (more_within (counts_of holder).most (length found) room) in
      out_bind AtEnd (Parted an_expression d) Still (MoreListed holder found d) u (λ part. after_item (closing holder) (counts_of holder) (turns n) (found ++ part.0.expr ∷ []) part.0 part.1) (inner.expression t)
      (λ x left is g. after_out n found room (turns_out n) u x left g (omega (arith, left_shorter g, ap length alike, lt)))
      (λ f h. open_then AtEnd (Parted an_expression d) Still (MoreListed holder found d) u (closes holder m.0) (λ o q x is. item_closes holder d m.0 found o x.expr q m.1 is) f h)
      (sound.expression t u alike)

-- ---- the closing bracket, or items

module _ (holder : Holder) {d : ℕ} (t u : List ℕ) (alike : Alike u t) where
  closes_here : allows (counts_of holder) 0 ≡ true → Open (Listed holder d) u (record { left = length (spaces t); code = tt })
  closes_here none =
      place_open (Listed holder d) u [] u refl (spaces t) alike (text_of (closing holder))
      (λ o q l at. ([], no_items none (takes_at (closing holder) o q (at ∙ solid_at (text_of (closing holder)) (32 ∷ q) (begun_solid (text_of (closing holder)) (token_begun (closing holder)))))))

  no_item : allows (counts_of holder) 0 ≡ true → next_is (closing holder) t ≡ true → Grown Still (Listed holder d) u [] (past (closing holder) t)
  no_item none h =
      let k = took_token (closing holder) t u alike h in
      record { before = k.before; rest = past (closing holder) t; parts = k.parts; alike = refl; again = λ o l. no_items none (k.again o l); goes = λ token m. absurd m }

items_out : (holder : Holder) {d : ℕ} {o : Option Inner} → Deep d o → Fits o (counts_of holder) → (t u : List ℕ) → Alike u t → Out Still (Listed holder d) u (items_in o (closing holder) (counts_of holder) (spaces t))
items_out holder deepest fits t u alike = closes_here holder t u alike (none_allowed holder fits)
items_out holder (deeper {d = d} {inner = inner} sound) fits t u alike = elim (chosen_is (takes_behind (counts_of holder).most 0)) [
  | inl h ↦ rw h (out_put Still (MoreListed holder [] d) Still (Listed holder (suc d)) u [] u refl (λ o r items l is. some_items is) (λ y token m. m)
      (item_turns (suc (length (spaces t))) inner.expression (closing holder) (counts_of holder) [] (spaces t))
      (turns_out holder sound (suc (length (spaces t))) [] (spaces t) u (alike ∙ sym (spaces_twice t)) (omega (arith, ap length (spaces_twice t))) h))
  | inr h ↦ rw h (closes_here holder t u alike (no_room holder h))
]

pub arguments_out : (holder : Holder) {d : ℕ} {o : Option Inner} → Deep d o → Fits o (counts_of holder) → (t u : List ℕ) → Alike u t → Out Still (Listed holder d) u (arguments o (closing holder) (counts_of holder) t)
unfolding arguments
arguments_out holder {d} {o} deep fits t u alike = elim (chosen_is ((counts_of holder).least == 0 && next_is (closing holder) t)) [
  | inl h ↦ (let p = and_parts ((counts_of holder).least == 0) (next_is (closing holder) t) h in rw (p.0, p.1) (no_item holder t u alike (none_allowed holder p.0) p.1))
  | inr h ↦ rw h (items_out holder deep fits t u alike)
]
