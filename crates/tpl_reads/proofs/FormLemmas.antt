-- What an expression, a piece and a template read, by their kinds.
use Rattle.std.proofs.Common.{◌≡◌, ◌∙◌, ap, ℕ, ◌≤◌, Bool, true, false, List, [], ◌∷◌, length, get_or, map, refl, sym, arith}
use Rattle.std.specs.Prelude.{Option, Some, None, option_map, if◌then◌else◌}
use Rattle.ha_value.specs.declared.value.Value.{Value}
use Rattle.ha_config.specs.declared.template.Op.{Op}
use Rattle.ha_config.specs.declared.template.Expr.{Expr}
use Rattle.ha_config.specs.declared.template.Expr.TheOpen.{Expr-F}
use Rattle.ha_config.specs.declared.template.Expr.TheViews.{out-Expr}
use Rattle.ha_config.specs.declared.template.Expr.TheFolds.{map-Expr}
use Rattle.ha_config.specs.declared.template.Expr.TheVariants as exprs
use Rattle.ha_config.specs.declared.template.Expr.TheVariants.{outs-At, outs-Field, outs-Filter, outs-Function, outs-IsNone, outs-List, outs-Name, outs-Negate, outs-Not, outs-Pair, outs-Pick, outs-Plain}
use Rattle.ha_config.specs.declared.template.Piece.{Piece}
use Rattle.ha_config.specs.declared.template.Template.{Template}
use Rattle.ha_config.specs.declared.template.Piece.TheOpen.{Piece-F}
use Rattle.ha_config.specs.declared.template.Piece.TheVariants as forms
use Rattle.ha_config.specs.declared.template.Piece.TheVariants.{outs-Assign, outs-Choice, outs-Show, outs-Text}
use Rattle.ha_config.specs.declared.template.Piece.TheViews.{out-Piece, out-Template}
use Rattle.ha_config.specs.declared.template.Piece.TheFolds.{map-Piece}
use Rattle.ha_config.specs.Words.{Text}
use Rattle.tpl_reads.specs.Reads.{Known, Written, all_of, all_reads, both, else_named, expr_named, expr_reads, ids_in, known_of, known_step, looked_up, looks_up, piece_reads, piece_step, reads_of, takes_item}
use Rattle.tpl_reads.proofs.KnownRolls.{all_reads-out, known_of-out, piece_reads-out}
use Rattle.tpl_reads.proofs.FindLemmas.{both-nil}

reads-map : (es : List Expr) → reads_of (map known_of es) ≡ all_of (map expr_reads es)
reads-map [] = refl
reads-map (e ∷ es) = ap (both (expr_reads e)) (reads-map es)

named-map : (es : List Expr) → all_of (map (λ k. k.named) (map known_of es)) ≡ all_of (map expr_named es)
named-map [] = refl
named-map (e ∷ es) = ap (both (expr_named e)) (named-map es)

at : (x : Expr) (y : Expr-F Expr) → out-Expr x ≡ y → known_of x ≡ known_step (map-Expr Expr Known known_of y)
at x y h = known_of-out x ∙ ap (λ z. known_step (map-Expr Expr Known known_of z)) h

module _ (x : Expr) where
  pub known-plain : (v : Value) → x ≡ exprs.Plain v → known_of x ≡ known_step (Expr-F.Plain v)
  known-plain v h = ap known_of h ∙ at (exprs.Plain v) (Expr-F.Plain v) (simp outs-Plain)

  pub known-name : (name : Text) → x ≡ exprs.Name name → known_of x ≡ known_step (Expr-F.Name name)
  known-name name h = ap known_of h ∙ at (exprs.Name name) (Expr-F.Name name) (simp outs-Name)

  pub known-list : (items : List Expr) → x ≡ exprs.List items → known_of x ≡ known_step (Expr-F.List (map known_of items))
  known-list items h = ap known_of h ∙ at (exprs.List items) (Expr-F.List items) (simp outs-List)

  pub known-field : (base : Expr) (name : Text) → x ≡ exprs.Field base name → known_of x ≡ known_step (Expr-F.Field (known_of base) name)
  known-field base name h = ap known_of h ∙ at (exprs.Field base name) (Expr-F.Field base name) (simp outs-Field)

  pub known-at : (base index : Expr) → x ≡ exprs.At base index → known_of x ≡ known_step (Expr-F.At (known_of base) (known_of index))
  known-at base index h = ap known_of h ∙ at (exprs.At base index) (Expr-F.At base index) (simp outs-At)

  pub known-filter : (name : ℕ) (base : Expr) (args : List Expr) → x ≡ exprs.Filter name base args → known_of x ≡ known_step (Expr-F.Filter name (known_of base) (map known_of args))
  known-filter name base args h = ap known_of h ∙ at (exprs.Filter name base args) (Expr-F.Filter name base args) (simp outs-Filter)

  pub known-function : (name : ℕ) (args : List Expr) → x ≡ exprs.Function name args → known_of x ≡ known_step (Expr-F.Function name (map known_of args))
  known-function name args h = ap known_of h ∙ at (exprs.Function name args) (Expr-F.Function name args) (simp outs-Function)

  pub known-negate : (e : Expr) → x ≡ exprs.Negate e → known_of x ≡ known_step (Expr-F.Negate (known_of e))
  known-negate e h = ap known_of h ∙ at (exprs.Negate e) (Expr-F.Negate e) (simp outs-Negate)

  pub known-not : (e : Expr) → x ≡ exprs.Not e → known_of x ≡ known_step (Expr-F.Not (known_of e))
  known-not e h = ap known_of h ∙ at (exprs.Not e) (Expr-F.Not e) (simp outs-Not)

  pub known-none : (base : Expr) (holds : Bool) → x ≡ exprs.IsNone base holds → known_of x ≡ known_step (Expr-F.IsNone (known_of base) holds)
  known-none base holds h = ap known_of h ∙ at (exprs.IsNone base holds) (Expr-F.IsNone base holds) (simp outs-IsNone)

  pub known-pair : (op : Op) (left right : Expr) → x ≡ exprs.Pair op left right → known_of x ≡ known_step (Expr-F.Pair op (known_of left) (known_of right))
  known-pair op left right h = ap known_of h ∙ at (exprs.Pair op left right) (Expr-F.Pair op left right) (simp outs-Pair)

  pub known-pick-else : (test yes' no' : Expr) → x ≡ exprs.Pick test yes' (Some no') → known_of x ≡ known_step (Expr-F.Pick (known_of test) (known_of yes') (Some (known_of no')))
  known-pick-else test yes' no' h = ap known_of h ∙ at (exprs.Pick test yes' (Some no')) (Expr-F.Pick test yes' (Some no')) (simp outs-Pick)

  pub known-pick : (test yes' : Expr) → x ≡ exprs.Pick test yes' None → known_of x ≡ known_step (Expr-F.Pick (known_of test) (known_of yes') None)
  known-pick test yes' h = ap known_of h ∙ at (exprs.Pick test yes' None) (Expr-F.Pick test yes' None) (simp outs-Pick)

-- ---- what it reads

pub reads-plain : {x : Expr} {v : Value} → x ≡ exprs.Plain v → expr_reads x ≡ Some []
reads-plain {x = x} {v = v} h = ap (λ k. k.reads) (known-plain x v h)

pub reads-name : {x : Expr} {name : Text} → x ≡ exprs.Name name → expr_reads x ≡ Some []
reads-name {x = x} {name = name} h = ap (λ k. k.reads) (known-name x name h)

pub reads-list : {x : Expr} {items es : List Expr} → x ≡ exprs.List items → es ≡ items → all_of (map expr_reads es) ≡ expr_reads x
reads-list {x = x} {items = items} h e = ap (λ l. all_of (map expr_reads l)) e ∙ sym (ap (λ k. k.reads) (known-list x items h) ∙ reads-map items)

pub reads-field : {x base b : Expr} {name : Text} → x ≡ exprs.Field base name → b ≡ base → expr_reads b ≡ expr_reads x
reads-field {x = x} {base = base} {name = name} h e = ap expr_reads e ∙ sym (ap (λ k. k.reads) (known-field x base name h))

pub reads-at : {x base b index i : Expr} → x ≡ exprs.At base index → b ≡ base → i ≡ index → both (expr_reads b) (expr_reads i) ≡ expr_reads x
reads-at {x = x} {base = base} {index = index} h e f = (λ k. both (expr_reads (e k)) (expr_reads (f k))) ∙ sym (ap (λ k. k.reads) (known-at x base index h))

pub reads-filter : {x base b : Expr} {name : ℕ} {args es : List Expr} → x ≡ exprs.Filter name base args → b ≡ base → es ≡ args
    → both (expr_reads b) (all_of (map expr_reads es)) ≡ expr_reads x
reads-filter {x = x} {base = base} {name = name} {args = args} h e f =
    (λ k. both (expr_reads (e k)) (all_of (map expr_reads (f k))))
    ∙ sym (ap (λ k. k.reads) (known-filter x name base args h) ∙ ap (both (expr_reads base)) (reads-map args))

pub reads-function : {x : Expr} {name : ℕ} {args es fs : List Expr} → x ≡ exprs.Function name args → es ≡ args → fs ≡ args
    → both (looked_up name (map known_of es)) (all_of (map expr_reads fs)) ≡ expr_reads x
reads-function {x = x} {name = name} {args = args} h e f =
    (λ k. both (looked_up name (map known_of (e k))) (all_of (map expr_reads (f k))))
    ∙ sym (ap (λ k. k.reads) (known-function x name args h) ∙ ap (both (looked_up name (map known_of args))) (reads-map args))

pub reads-negate : {x e b : Expr} → x ≡ exprs.Negate e → b ≡ e → expr_reads b ≡ expr_reads x
reads-negate {x = x} {e = e} h is = ap expr_reads is ∙ sym (ap (λ k. k.reads) (known-negate x e h))

pub reads-not : {x e b : Expr} → x ≡ exprs.Not e → b ≡ e → expr_reads b ≡ expr_reads x
reads-not {x = x} {e = e} h is = ap expr_reads is ∙ sym (ap (λ k. k.reads) (known-not x e h))

pub reads-none : {x base b : Expr} {holds : Bool} → x ≡ exprs.IsNone base holds → b ≡ base → expr_reads b ≡ expr_reads x
reads-none {x = x} {base = base} {holds = holds} h is = ap expr_reads is ∙ sym (ap (λ k. k.reads) (known-none x base holds h))

pub reads-pair : {op : Op} {x left l right r : Expr} → x ≡ exprs.Pair op left right → l ≡ left → r ≡ right → both (expr_reads l) (expr_reads r) ≡ expr_reads x
reads-pair {op = op} {x = x} {left = left} {right = right} h e f = (λ k. both (expr_reads (e k)) (expr_reads (f k))) ∙ sym (ap (λ k. k.reads) (known-pair x op left right h))

pub reads-pick-else : {x test t yes' y o n : Expr} {no' : Option Expr} → x ≡ exprs.Pick test yes' no' → t ≡ test → y ≡ yes' → no' ≡ Some o → n ≡ o
    → both (both (expr_reads t) (expr_reads y)) (expr_reads n) ≡ expr_reads x
reads-pick-else {x = x} {test = test} {yes' = yes'} {o = o} h e f is g =
    (λ k. both (both (expr_reads (e k)) (expr_reads (f k))) (expr_reads (g k)))
    ∙ sym (ap (λ k. k.reads) (known-pick-else x test yes' o (h ∙ ap (exprs.Pick test yes') is)))

pub reads-pick : {x test t yes' y : Expr} {no' : Option Expr} → x ≡ exprs.Pick test yes' no' → t ≡ test → y ≡ yes' → no' ≡ None → both (expr_reads t) (expr_reads y) ≡ expr_reads x
reads-pick {x = x} {test = test} {t = t} {yes' = yes'} {y = y} h e f is =
    sym (both-nil (both (expr_reads t) (expr_reads y)))
    ∙ (λ k. both (both (expr_reads (e k)) (expr_reads (f k))) (Some []))
    ∙ sym (ap (λ k. k.reads) (known-pick x test yes' (h ∙ ap (exprs.Pick test yes') is)))

-- ---- what it names

pub named-plain : {x : Expr} {v : Value} → x ≡ exprs.Plain v → Some (ids_in v) ≡ expr_named x
named-plain {x = x} {v = v} h = sym (ap (λ k. k.named) (known-plain x v h))

-- ---- by what stands open

-- what is known at an expression that is opened
opened : {x y : Expr} → x ≡ y → known_of x ≡ known_step (map-Expr Expr Known known_of (out-Expr y))
opened {y = y} h = ap known_of h ∙ known_of-out y

-- a list in brackets
abbrev pub is_list : Expr-F Expr → Bool
is_list (Expr-F.Plain v) = false
is_list (Expr-F.Name name) = false
is_list (Expr-F.List es) = true
is_list (Expr-F.Field e name) = false
is_list (Expr-F.At e index) = false
is_list (Expr-F.Filter name e args) = false
is_list (Expr-F.Function name args) = false
is_list (Expr-F.Negate e) = false
is_list (Expr-F.Not e) = false
is_list (Expr-F.IsNone e holds) = false
is_list (Expr-F.Pair op left right) = false
is_list (Expr-F.Pick test yes' no') = false

-- a form whose value is computed, whatever stands in it
abbrev pub is_computed : Expr-F Expr → Bool
is_computed (Expr-F.Plain v) = false
is_computed (Expr-F.Name name) = true
is_computed (Expr-F.List es) = false
is_computed (Expr-F.Field e name) = true
is_computed (Expr-F.At e index) = false
is_computed (Expr-F.Filter name e args) = false
is_computed (Expr-F.Function name args) = true
is_computed (Expr-F.Negate e) = true
is_computed (Expr-F.Not e) = true
is_computed (Expr-F.IsNone e holds) = true
is_computed (Expr-F.Pair op left right) = true
is_computed (Expr-F.Pick test yes' no') = false

-- the base of an item
abbrev pub at_base : Expr-F Expr → Option Expr
at_base (Expr-F.Plain v) = None
at_base (Expr-F.Name name) = None
at_base (Expr-F.List es) = None
at_base (Expr-F.Field e name) = None
at_base (Expr-F.At e index) = Some e
at_base (Expr-F.Filter name e args) = None
at_base (Expr-F.Function name args) = None
at_base (Expr-F.Negate e) = None
at_base (Expr-F.Not e) = None
at_base (Expr-F.IsNone e holds) = None
at_base (Expr-F.Pair op left right) = None
at_base (Expr-F.Pick test yes' no') = None

-- a filter, with its base
abbrev pub filter_parts : Expr-F Expr → Option (ℕ × Expr)
filter_parts (Expr-F.Plain v) = None
filter_parts (Expr-F.Name name) = None
filter_parts (Expr-F.List es) = None
filter_parts (Expr-F.Field e name) = None
filter_parts (Expr-F.At e index) = None
filter_parts (Expr-F.Filter name e args) = Some (name, e)
filter_parts (Expr-F.Function name args) = None
filter_parts (Expr-F.Negate e) = None
filter_parts (Expr-F.Not e) = None
filter_parts (Expr-F.IsNone e holds) = None
filter_parts (Expr-F.Pair op left right) = None
filter_parts (Expr-F.Pick test yes' no') = None

-- what a choice is between
abbrev pub pick_parts : Expr-F Expr → Option (Expr × Option Expr)
pick_parts (Expr-F.Plain v) = None
pick_parts (Expr-F.Name name) = None
pick_parts (Expr-F.List es) = None
pick_parts (Expr-F.Field e name) = None
pick_parts (Expr-F.At e index) = None
pick_parts (Expr-F.Filter name e args) = None
pick_parts (Expr-F.Function name args) = None
pick_parts (Expr-F.Negate e) = None
pick_parts (Expr-F.Not e) = None
pick_parts (Expr-F.IsNone e holds) = None
pick_parts (Expr-F.Pair op left right) = None
pick_parts (Expr-F.Pick test yes' no') = Some (yes', no')

pub named-list : {x y : Expr} → x ≡ y → is_list (out-Expr y) ≡ true → expr_named x ≡ Some []
named-list {y = y} h is = ap (λ k. k.named) (opened h) ∙ by (out-Expr y) is
  where
    by : (z : Expr-F Expr) → is_list z ≡ true → (known_step (map-Expr Expr Known known_of z)).named ≡ Some []
    by (Expr-F.Plain v) k = absurd (cc)
    by (Expr-F.Name name) k = absurd (cc)
    by (Expr-F.List es) k = refl
    by (Expr-F.Field e name) k = absurd (cc)
    by (Expr-F.At e index) k = absurd (cc)
    by (Expr-F.Filter name e args) k = absurd (cc)
    by (Expr-F.Function name args) k = absurd (cc)
    by (Expr-F.Negate e) k = absurd (cc)
    by (Expr-F.Not e) k = absurd (cc)
    by (Expr-F.IsNone e holds) k = absurd (cc)
    by (Expr-F.Pair op left right) k = absurd (cc)
    by (Expr-F.Pick test yes' no') k = absurd (cc)

pub unnamed : {x y : Expr} → x ≡ y → is_computed (out-Expr y) ≡ true → expr_named x ≡ None
unnamed {y = y} h is = ap (λ k. k.named) (opened h) ∙ by (out-Expr y) is
  where
    by : (z : Expr-F Expr) → is_computed z ≡ true → (known_step (map-Expr Expr Known known_of z)).named ≡ None
    by (Expr-F.Plain v) k = absurd (cc)
    by (Expr-F.Name name) k = refl
    by (Expr-F.List es) k = absurd (cc)
    by (Expr-F.Field e name) k = refl
    by (Expr-F.At e index) k = absurd (cc)
    by (Expr-F.Filter name e args) k = absurd (cc)
    by (Expr-F.Function name args) k = refl
    by (Expr-F.Negate e) k = refl
    by (Expr-F.Not e) k = refl
    by (Expr-F.IsNone e holds) k = refl
    by (Expr-F.Pair op left right) k = refl
    by (Expr-F.Pick test yes' no') k = absurd (cc)

pub unlisted : {x y : Expr} → x ≡ y → is_list (out-Expr y) ≡ false → (known_of x).listed ≡ None
unlisted {y = y} h is = ap (λ k. k.listed) (opened h) ∙ by (out-Expr y) is
  where
    by : (z : Expr-F Expr) → is_list z ≡ false → (known_step (map-Expr Expr Known known_of z)).listed ≡ None
    by (Expr-F.Plain v) k = refl
    by (Expr-F.Name name) k = refl
    by (Expr-F.List es) k = absurd (cc)
    by (Expr-F.Field e name) k = refl
    by (Expr-F.At e index) k = refl
    by (Expr-F.Filter name e args) k = refl
    by (Expr-F.Function name args) k = refl
    by (Expr-F.Negate e) k = refl
    by (Expr-F.Not e) k = refl
    by (Expr-F.IsNone e holds) k = refl
    by (Expr-F.Pair op left right) k = refl
    by (Expr-F.Pick test yes' no') k = refl

pub named-at : {x y : Expr} (base b : Expr) → x ≡ y → at_base (out-Expr y) ≡ Some base → b ≡ base → (known_of b).listed ≡ expr_named x
named-at {y = y} base b h is e = ap (λ z. (known_of z).listed) e ∙ sym (ap (λ k. k.named) (opened h) ∙ by (out-Expr y) is)
  where
    by : (z : Expr-F Expr) → at_base z ≡ Some base → (known_step (map-Expr Expr Known known_of z)).named ≡ (known_of base).listed
    by (Expr-F.Plain v) k = absurd (cc)
    by (Expr-F.Name name) k = absurd (cc)
    by (Expr-F.List es) k = absurd (cc)
    by (Expr-F.Field e name) k = absurd (cc)
    by (Expr-F.At e index) k = let f : e ≡ base = cc in ap (λ w. (known_of w).listed) f
    by (Expr-F.Filter name e args) k = absurd (cc)
    by (Expr-F.Function name args) k = absurd (cc)
    by (Expr-F.Negate e) k = absurd (cc)
    by (Expr-F.Not e) k = absurd (cc)
    by (Expr-F.IsNone e holds) k = absurd (cc)
    by (Expr-F.Pair op left right) k = absurd (cc)
    by (Expr-F.Pick test yes' no') k = absurd (cc)

module _ (n : ℕ) (base : Expr) where
  filter-named : (z : Expr-F Expr) → filter_parts z ≡ Some (n, base) → (known_step (map-Expr Expr Known known_of z)).named ≡ (if takes_item n then (known_of base).listed else None)
  filter-named (Expr-F.Plain v) k = absurd (cc)
  filter-named (Expr-F.Name name) k = absurd (cc)
  filter-named (Expr-F.List es) k = absurd (cc)
  filter-named (Expr-F.Field e name) k = absurd (cc)
  filter-named (Expr-F.At e index) k = absurd (cc)
  filter-named (Expr-F.Filter name e args) k = let p : ◌≡◌ {A = ℕ × Expr} (name, e) (n, base) = cc in (λ i. if takes_item (p i).0 then (known_of (p i).1).listed else None)
  filter-named (Expr-F.Function name args) k = absurd (cc)
  filter-named (Expr-F.Negate e) k = absurd (cc)
  filter-named (Expr-F.Not e) k = absurd (cc)
  filter-named (Expr-F.IsNone e holds) k = absurd (cc)
  filter-named (Expr-F.Pair op left right) k = absurd (cc)
  filter-named (Expr-F.Pick test yes' no') k = absurd (cc)

  pub named-filter : {x y : Expr} (b : Expr) → x ≡ y → filter_parts (out-Expr y) ≡ Some (n, base) → b ≡ base → takes_item n ≡ true → (known_of b).listed ≡ expr_named x
  named-filter {y = y} b h is e t =
      ap (λ z. (known_of z).listed) e
      ∙ sym (ap (λ k. k.named) (opened h) ∙ filter-named (out-Expr y) is ∙ (λ i. if t i then (known_of base).listed else None))

  pub named-other-filter : {x y : Expr} → x ≡ y → filter_parts (out-Expr y) ≡ Some (n, base) → takes_item n ≡ false → expr_named x ≡ None
  named-other-filter {y = y} h is f = ap (λ k. k.named) (opened h) ∙ filter-named (out-Expr y) is ∙ (λ i. if f i then (known_of base).listed else None)

module _ (yes' : Expr) (o : Option Expr) where
  pick-named : (z : Expr-F Expr) → pick_parts z ≡ Some (yes', o) → (known_step (map-Expr Expr Known known_of z)).named ≡ both (expr_named yes') (else_named (option_map known_of o))
  pick-named (Expr-F.Plain v) k = absurd (cc)
  pick-named (Expr-F.Name name) k = absurd (cc)
  pick-named (Expr-F.List es) k = absurd (cc)
  pick-named (Expr-F.Field e name) k = absurd (cc)
  pick-named (Expr-F.At e index) k = absurd (cc)
  pick-named (Expr-F.Filter name e args) k = absurd (cc)
  pick-named (Expr-F.Function name args) k = absurd (cc)
  pick-named (Expr-F.Negate e) k = absurd (cc)
  pick-named (Expr-F.Not e) k = absurd (cc)
  pick-named (Expr-F.IsNone e holds) k = absurd (cc)
  pick-named (Expr-F.Pair op left right) k = absurd (cc)
  pick-named (Expr-F.Pick test y None) k = let p : ◌≡◌ {A = Expr × Option Expr} (y, None) (yes', o) = cc in (λ i. both (expr_named (p i).0) (else_named (option_map known_of (p i).1)))
  pick-named (Expr-F.Pick test y (Some n)) k = let p : ◌≡◌ {A = Expr × Option Expr} (y, Some n) (yes', o) = cc in (λ i. both (expr_named (p i).0) (else_named (option_map known_of (p i).1)))

  pub named-pick-else : {x z : Expr} (y m n : Expr) → x ≡ z → pick_parts (out-Expr z) ≡ Some (yes', o) → y ≡ yes' → o ≡ Some m → n ≡ m → both (expr_named y) (expr_named n) ≡ expr_named x
  named-pick-else {z = z} y m n h is e f g =
      (λ i. both (expr_named (e i)) (expr_named (g i)))
      ∙ (λ i. both (expr_named yes') (else_named (option_map known_of (sym f i))))
      ∙ sym (ap (λ k. k.named) (opened h) ∙ pick-named (out-Expr z) is)

  pub named-pick : {x z : Expr} (y : Expr) → x ≡ z → pick_parts (out-Expr z) ≡ Some (yes', o) → y ≡ yes' → o ≡ None → expr_named y ≡ expr_named x
  named-pick {z = z} y h is e f =
      sym (both-nil (expr_named y))
      ∙ (λ i. both (expr_named (e i)) (Some []))
      ∙ (λ i. both (expr_named yes') (else_named (option_map known_of (sym f i))))
      ∙ sym (ap (λ k. k.named) (opened h) ∙ pick-named (out-Expr z) is)

pub listed-list : {x : Expr} {items es : List Expr} → x ≡ exprs.List items → es ≡ items → all_of (map expr_named es) ≡ (known_of x).listed
listed-list {x = x} {items = items} h e = ap (λ l. all_of (map expr_named l)) e ∙ sym (ap (λ k. k.listed) (known-list x items h) ∙ named-map items)

-- ---- what a function looks up

pub first-known : (name : ℕ) (args : List Expr) (x : Expr) → 1 ≤ length args → x ≡ get_or args 0 x → looks_up name ≡ true → expr_named x ≡ looked_up name (map known_of args)
first-known name [] x le is t = absurd (omega (arith, le))
first-known name (e ∷ es) x le is t = ap expr_named is ∙ (λ i. if sym t i then expr_named e else Some [])

pub first-none : (name : ℕ) (args : List Expr) → looks_up name ≡ false → looked_up name (map known_of args) ≡ Some []
first-none name [] f = refl
first-none name (e ∷ es) f = (λ i. if f i then expr_named e else Some [])

-- ---- pieces and templates

abbrev step_of : Piece-F Piece Template → Written
step_of y = piece_step (map-Piece Piece Template Written Written piece_reads all_reads y)

-- what an arm reads
abbrev pub arm_reads : Expr × Template → Written
arm_reads a = both (expr_reads a.0) (all_reads a.1)

arms-map : (arms : List (Expr × Template)) → all_of (map (λ (a : Expr × Written). both (expr_reads a.0) a.1) (map (λ (a : Expr × Template). (a.0, all_reads a.1)) arms)) ≡ all_of (map arm_reads arms)
arms-map [] = refl
arms-map (a ∷ arms) = ap (both (arm_reads a)) (arms-map arms)

choice-reads : (x : Piece) (arms : List (Expr × Template)) (fallback : Template) → x ≡ forms.Choice arms fallback → piece_reads x ≡ both (all_of (map arm_reads arms)) (all_reads fallback)
choice-reads x arms fallback h =
    ap piece_reads h ∙ piece_reads-out (forms.Choice arms fallback) ∙ ap step_of (outs arms fallback) ∙ ap (λ w. both w (all_reads fallback)) (arms-map arms)
  where
    outs : (arms : List (Expr × Template)) (fallback : Template) → out-Piece (forms.Choice arms fallback) ≡ Piece-F.Choice arms fallback
    outs arms fallback = simp outs-Choice

pub reads-choice : {x : Piece} {arms found : List (Expr × Template)} (fallback : Template) → x ≡ forms.Choice arms fallback → found ≡ arms
    → both (all_of (map arm_reads found)) (all_reads fallback) ≡ piece_reads x
reads-choice {x = x} {arms = arms} fallback h e = ap (λ l. both (all_of (map arm_reads l)) (all_reads fallback)) e ∙ sym (choice-reads x arms fallback h)

pub reads-text : {x : Piece} {t : Text} → x ≡ Piece.Text t → piece_reads x ≡ Some []
reads-text {t = t} h = ap piece_reads h ∙ piece_reads-out (Piece.Text t) ∙ ap step_of (outs-Text t)

pub reads-show : {x : Piece} {e : Expr} → x ≡ Piece.Show e → expr_reads e ≡ piece_reads x
reads-show {e = e} h = sym (ap piece_reads h ∙ piece_reads-out (Piece.Show e) ∙ ap step_of (outs-Show e))

pub reads-assign : {x : Piece} {name : Text} {e : Expr} → x ≡ Piece.Assign name e → expr_reads e ≡ piece_reads x
reads-assign {name = name} {e = e} h = sym (ap piece_reads h ∙ piece_reads-out (Piece.Assign name e) ∙ ap step_of (outs-Assign name e))

pub reads-template : (t : Template) (ps : List Piece) → ps ≡ (out-Template t).pieces → all_of (map piece_reads ps) ≡ all_reads t
reads-template t ps e = ap (λ l. all_of (map piece_reads l)) e ∙ sym (all_reads-out t)
