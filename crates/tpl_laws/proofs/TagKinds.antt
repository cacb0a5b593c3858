-- The kinds of tags. Their type is the reader's own: here it is what a place within a tag is made of.
use Rattle.std.proofs.Common.{◌≡◌, ℕ, Bool, true, false, cond, inl, inr, List, Option, Some, None, refl, subst}
use Rattle.std.specs.Prelude.{◌==◌, is_some}
use Rattle.reading.proofs.Basics.{chosen as chosen_of}
use Rattle.tpl_parse.specs.Pieces.{tag_of}
use Rattle.tpl_parse.specs.Grammar.{Opens, plain, trimming, inside_tag}

abbrev Domain : {A B : Type 0} → (A → B) → Type 0
Domain {A} f = A

abbrev pub Kind : Type 0
Kind = Domain inside_tag

pub not_true : false ≡ true → ⊥
not_true h = cc

abbrev some_of : {A : Type 0} (o : Option A) → is_some o ≡ true → A
some_of (Some x) h = x
some_of None h = absurd (not_true h)

abbrev pub show_kind : Kind
show_kind = some_of (tag_of (Some 123)) refl

abbrev pub statement_kind : Kind
statement_kind = some_of (tag_of (Some 37)) refl

abbrev pub comment_kind : Kind
comment_kind = some_of (tag_of (Some 35)) refl

-- which kind it is
pub data IsKind : Kind → Type 0 where
  is_show : IsKind show_kind
  is_statement : IsKind statement_kind
  is_comment : IsKind comment_kind

same_kind : (j k : Kind) → Some j ≡ Some k → j ≡ k
same_kind j k e = cc

kind_of : (b : ℕ) (kind : Kind) → tag_of (Some b) ≡ Some kind → IsKind kind
kind_of b kind e = elim (chosen_of (b == 123) (Some show_kind) (cond (b == 37) (Some statement_kind) (cond (b == 35) (Some comment_kind) None)) (Some kind) e) [
  | inl h ↦ subst (λ (k : Kind). IsKind k) (same_kind show_kind kind h.1) is_show
  | inr h ↦ elim (chosen_of (b == 37) (Some statement_kind) (cond (b == 35) (Some comment_kind) None) (Some kind) h.1) [
    | inl k ↦ subst (λ (k : Kind). IsKind k) (same_kind statement_kind kind k.1) is_statement
    | inr k ↦ elim (chosen_of (b == 35) (Some comment_kind) None (Some kind) k.1) [
      | inl m ↦ subst (λ (k : Kind). IsKind k) (same_kind comment_kind kind m.1) is_comment
      | inr m ↦ absurd (let w = m.1 in cc)
    ]
  ]
]

pub opens_kind : {kind : Kind} {sign : Bool} {a b : List ℕ} → Opens kind sign a b → IsKind kind
opens_kind {kind} (plain {b = c} is none) = kind_of c kind is
opens_kind {kind} (trimming {b = c} is) = kind_of c kind is
