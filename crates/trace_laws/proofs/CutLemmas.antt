-- A text that begins with a line begins with no other.
use Rattle.std.proofs.Common.{◌≡◌, ◌∙◌, ap, sym, refl, ℕ, [], ◌∷◌, ◌++◌, Bool, true, append_assoc}
use Rattle.std.specs.Prelude.{◌&&◌, not, nat_eq}
use Rattle.ha_config.specs.Words.{Text}
use Rattle.ha_config.specs.CheckText.{as_line}
use Rattle.ha_config.proofs.EqualLemmas.{and_right}
use Rattle.ha_config.proofs.ListLemmas.{true-false}
use Rattle.trace_laws.specs.Lines.{is_one_line}
use Rattle.trace_laws.proofs.FeedLemmas.{HasOneFeed}

abbrev pub no_feed : ℕ → Bool
no_feed c = not (nat_eq c 10)

feed_ends : (c : ℕ) (rest : Bool) → c ≡ 10 → (no_feed c && rest) ≡ true → ⊥
feed_ends c rest e h = true-false (sym h ∙ (λ i. no_feed (e i) && rest))

abbrev head_or : ℕ → Text → ℕ
head_or d [] = d
head_or d (c ∷ cs) = c

abbrev tail_of : Text → Text
tail_of [] = []
tail_of (c ∷ cs) = cs

-- LAW: a text is cut at its first LF in one way
pub one_cut : (line behind line' behind' : Text) → is_one_line line ≡ true → is_one_line line' ≡ true → line ++ (10 ∷ behind) ≡ line' ++ (10 ∷ behind') → (line ≡ line') × (behind ≡ behind')
one_cut [] behind [] behind' h h' e = (refl, ap tail_of e)
one_cut [] behind (c ∷ line') behind' h h' e = absurd (feed_ends c (is_one_line line') (sym (ap (head_or 0) e)) h')
one_cut (c ∷ line) behind [] behind' h h' e = absurd (feed_ends c (is_one_line line) (ap (head_or 0) e) h)
one_cut (c ∷ line) behind (d ∷ line') behind' h h' e =
    let rest = one_cut line behind line' behind' (and_right (no_feed c) (is_one_line line) h) (and_right (no_feed d) (is_one_line line') h') (ap tail_of e) in
    ((λ i. ap (head_or 0) e i ∷ rest.0 i), rest.1)

-- the line and its end, with what stands behind
pub line_front : (line shown behind : Text) → as_line line ≡ shown → line ++ (10 ∷ behind) ≡ shown ++ behind
line_front line shown behind e = sym (append_assoc line (10 ∷ []) behind) ∙ (λ i. e i ++ behind)

-- texts that begin with a line each, and are the same, begin with the same line
pub one_front : (shown behind shown' behind' : Text) → HasOneFeed shown → HasOneFeed shown' → shown ++ behind ≡ shown' ++ behind' → (shown ≡ shown') × (behind ≡ behind')
one_front shown behind shown' behind' h h' e =
    let cut = one_cut h.line behind h'.line behind' h.one_line h'.one_line (line_front h.line shown behind h.shown_is ∙ e ∙ sym (line_front h'.line shown' behind' h'.shown_is)) in
    (sym h.shown_is ∙ ap as_line cut.0 ∙ h'.shown_is, cut.1)
