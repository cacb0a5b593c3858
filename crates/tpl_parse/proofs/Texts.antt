-- Texts, comments and pieces, as their loops read them.
use Rattle.std.proofs.Common.{◌≡◌, ℕ, suc, ◌≤◌, ◌<◌, Bool, true, false, ◌&&◌, List, [], ◌∷◌, length, drop, Option, Some, None, Result, Ok, Err, refl, arith, inl, inr}
use Rattle.reading.specs.declared.fault.Stop.{Stop}
use Rattle.reading.specs.declared.fault.Stop.TheVariants as stops
use Rattle.reading.specs.Answer.{Answer, Gives, front}
use Rattle.reading.specs.Bytes.{sees}
use Rattle.ha_config.specs.declared.template.Template.{Template}
use Rattle.tpl_parse.specs.declared.pieces.Tag.{Tag}
use Rattle.tpl_parse.specs.declared.token.Token.{Token}
use Rattle.std.specs.List.{find}
use Rattle.reading.proofs.Basics.{chosen}
use Rattle.tpl_parse.proofs.Shorter.{no_longer_than}
use Rattle.tpl_parse.specs.Token.{Reads, none_of, past, spaces, stands}
use Rattle.tpl_parse.specs.Literal.{before, character}
use Rattle.tpl_parse.specs.Pieces.{Found, behind_sign, finished, one_of, sign_of, tag_by, with_text, tag_at, ended, text_turns, text, comment_ends, comment_turns, comment, piece_turns, template}
use Rattle.reading.proofs.Turns.{Continues, begins, ends, goes_on}
use Rattle.tpl_parse.specs.Leaves.{Leaves}
use Rattle.std.proofs.Math.ListN.{length-drop}
use Rattle.tpl_parse.proofs.PiecesShorter.{length-behind_sign, tag_by_keeps, text_keeps}
use Rattle.tpl_parse.proofs.Utf8.{Fault, character_found}

-- a turn that begins with a step that fails
step_fails : {S A B : Type 0} (rule : ℕ → S → Reads A) (found : S) (rest : List ℕ) (total : Answer ℕ Fault A) (so_far : Continues rule found rest total) (step : Answer ℕ Fault B) (e : Stop Fault) (new : List ℕ)
    → ((n : ℕ) (f : Fault) → step ≡ Err f → rule (suc n) found rest ≡ Err f) → Gives {A = B} step (Err e) new → Gives {A = A} total (Err e) new
step_fails rule found rest total so_far step stops.Memory new same given = tt
step_fails rule found rest total so_far step (stops.Fault f) new same given = ends rule found rest total so_far (Err f) (λ n. same n f given)

-- ---- texts

abbrev pub text_turn : ℕ → Unit {0} → Reads (Option Tag)
text_turn n u = text_turns n

pub text_begins : (rest : List ℕ) → Continues text_turn tt rest (text rest)
unfolding text
text_begins rest = begins text_turn tt rest (text rest) refl

module _ (old rest : List ℕ) (so_far : Continues text_turn tt rest (text old)) where
  pub text_tag : (tag : Tag) → tag_at rest ≡ Some tag → text old ≡ Ok (Some tag, rest)
  unfolding text_turns
  text_tag tag e = ends text_turn tt rest (text old) so_far (Ok (Some tag, rest)) (λ n. rw e refl)

  pub text_ends : tag_at rest ≡ None → ended rest ≡ true → text old ≡ Ok (None, rest)
  unfolding text_turns
  text_ends e h = ends text_turn tt rest (text old) so_far (Ok (None, rest)) (λ n. rw (e, h) refl)

  pub text_goes_on : (u : ℕ) (after : List ℕ) → tag_at rest ≡ None → ended rest ≡ false → character rest ≡ Ok (u, after) → Continues text_turn tt after (text old)
  unfolding text_turns
  text_goes_on u after e h g = goes_on text_turn tt rest (text old) so_far tt after (λ n. rw (e, h, g) refl) (character_found rest u after g).shorter

  pub text_fails : (e : Stop Fault) (new : List ℕ) → tag_at rest ≡ None → ended rest ≡ false → Gives {A = ℕ} (character rest) (Err e) new → Gives {A = Option Tag} (text old) (Err e) new
  unfolding text_turns
  text_fails e new none more g = step_fails text_turn tt rest (text old) so_far (character rest) e new (λ n f k. rw (none, more, k) refl) g

pub front_none : (rest : List ℕ) → front rest ≡ None → ended rest ≡ true
front_none [] e = refl
front_none (b ∷ rest) e = absurd cc

pub front_some : (rest : List ℕ) (b : ℕ) → front rest ≡ Some b → ended rest ≡ false
front_some [] b e = absurd cc
front_some (c ∷ rest) b e = refl

-- ---- comments

abbrev pub comment_turn : ℕ → Unit {0} → Reads Bool
comment_turn n u = comment_turns n

pub comment_begins : (rest : List ℕ) → Continues comment_turn tt rest (comment rest)
unfolding comment
comment_begins rest = begins comment_turn tt rest (comment rest) refl

module _ (old rest : List ℕ) (so_far : Continues comment_turn tt rest (comment old)) where
  pub comment_closed : comment_ends rest ≡ true → comment old ≡ Ok (false, drop 2 rest)
  unfolding comment_turns
  comment_closed e = ends comment_turn tt rest (comment old) so_far (Ok (false, drop 2 rest)) (λ n. rw e refl)

  pub comment_trims : comment_ends rest ≡ false → (sees 45 rest && comment_ends (drop 1 rest)) ≡ true → comment old ≡ Ok (true, drop 3 rest)
  unfolding comment_turns
  comment_trims e h = ends comment_turn tt rest (comment old) so_far (Ok (true, drop 3 rest)) (λ n. rw (e, h) refl)

  pub comment_goes_on : (u : ℕ) (after : List ℕ) → comment_ends rest ≡ false → (sees 45 rest && comment_ends (drop 1 rest)) ≡ false → character rest ≡ Ok (u, after) → Continues comment_turn tt after (comment old)
  unfolding comment_turns
  comment_goes_on u after e h g = goes_on comment_turn tt rest (comment old) so_far tt after (λ n. rw (e, h, g) refl) (character_found rest u after g).shorter

  pub comment_fails : (e : Stop Fault) (new : List ℕ) → comment_ends rest ≡ false → (sees 45 rest && comment_ends (drop 1 rest)) ≡ false → Gives {A = ℕ} (character rest) (Err e) new → Gives {A = Bool} (comment old) (Err e) new
  unfolding comment_turns
  comment_fails e new none more g = step_fails comment_turn tt rest (comment old) so_far (character rest) e new (λ n f k. rw (none, more, k) refl) g

-- ---- pieces

abbrev pub piece_turn : ℕ → Found → Reads Template
piece_turn n found = piece_turns n found

abbrev pub nothing : Found
nothing = record { open' = []; pieces = []; trims = false }

pub template_begins : (rest : List ℕ) → Continues piece_turn nothing rest (template rest)
unfolding template
template_begins rest = begins piece_turn nothing rest (template rest) refl

module _ (old : List ℕ) (found : Found) (rest : List ℕ) (so_far : Continues piece_turn found rest (template old)) where
  -- no text is read
  pub no_text : (e : Stop Fault) (new : List ℕ) → Gives {A = Option Tag} (text rest) (Err e) new → Gives {A = Template} (template old) (Err e) new
  unfolding piece_turns
  no_text e new g = step_fails piece_turn found rest (template old) so_far (text rest) e new (λ n f k. rw k refl) g

  -- the text is the last
  pub last_text : (mid : List ℕ) → text rest ≡ Ok (None, mid) → template old ≡ finished found (before rest mid) mid
  unfolding piece_turns
  last_text mid e = ends piece_turn found rest (template old) so_far (finished found (before rest mid) mid) (λ n. rw e refl)

  pub last_gives : (mid t : List ℕ) (r : Result Template (Stop Fault)) → text rest ≡ Ok (None, mid) → t ≡ before rest mid → Gives (finished found t mid) r mid → Gives (template old) r mid
  last_gives mid t r e same given = rw (last_text mid e, ← same) given

  module _ (tag : Tag) (mid : List ℕ) (given : text rest ≡ Ok (Some tag, mid)) where
    abbrev piece : Answer ℕ Fault Found
    piece = tag_by tag (with_text found (sign_of mid) (before rest mid)) (behind_sign mid)

    pub no_piece : (t : List ℕ) → t ≡ before rest mid → (e : Stop Fault) (left : Found) (new : List ℕ) → Leaves (tag_by tag (with_text found (sign_of mid) t) (behind_sign mid)) (Err e) left new → Gives {A = Template} (template old) (Err e) new
    unfolding piece_turns
    no_piece t same stops.Memory left new g = tt
    no_piece t same (stops.Fault f) left new g =
        let h : piece ≡ Err f = rw same at g in
        ends piece_turn found rest (template old) so_far (Err f) (λ n. rw (given, h) refl)

    pub piece_smaller : (left : Found) (after : List ℕ) → 2 ≤ length mid → piece ≡ Ok (left, after) → length after < length rest
    piece_smaller left after two g =
        let shorter : length after ≤ length (behind_sign mid) = no_longer_than (tag_by tag (with_text found (sign_of mid) (before rest mid))) (tag_by_keeps tag (with_text found (sign_of mid) (before rest mid))) (behind_sign mid) left after g in
        let not_longer : length mid ≤ length rest = no_longer_than text text_keeps rest (Some tag) mid given in
        omega (arith, length-behind_sign mid, length-drop 2 mid)

    pub piece_goes_on : (left : Found) (after : List ℕ) → 2 ≤ length mid → piece ≡ Ok (left, after) → Continues piece_turn left after (template old)
    unfolding piece_turns
    piece_goes_on left after two g = goes_on piece_turn found rest (template old) so_far left after (λ n. rw (given, g) refl) (piece_smaller left after two g)

-- ---- the words of statements

pub first_of : (all tokens : List Token) (rest : List ℕ) (token : Token) → find (λ t. stands t (spaces rest)) tokens ≡ Some token → one_of all tokens rest ≡ Ok (token, past token rest)
unfolding one_of
first_of all [] rest token e = absurd cc
first_of all (x ∷ tokens) rest token e = elim (chosen (stands x (spaces rest)) (Some x) (find (λ t. stands t (spaces rest)) tokens) (Some token) e) [
  | inl h ↦ (let same : x ≡ token = (let k = h.1 in cc) in rw (h.0, ← same) refl)
  | inr h ↦ rw h.0 (first_of all tokens rest token h.1)
]

pub none_stands : (all tokens : List Token) (rest : List ℕ) → find (λ t. stands t (spaces rest)) tokens ≡ None → one_of all tokens rest ≡ none_of all (spaces rest)
unfolding one_of
none_stands all [] rest e = refl
none_stands all (x ∷ tokens) rest e = elim (chosen (stands x (spaces rest)) (Some x) (find (λ t. stands t (spaces rest)) tokens) None e) [
  | inl h ↦ absurd (let k = h.1 in cc)
  | inr h ↦ rw h.0 (none_stands all tokens rest h.1)
]
