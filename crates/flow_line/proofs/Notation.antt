-- A value is one of the notation.
use Rattle.std.proofs.Common.{◌≡◌, ℕ, zero, suc, List, [], refl, sym, subst}
use Rattle.ha_value.specs.declared.value.Value.{Value}
use Rattle.reading.specs.Spelling.{IsRow, last, more, IsClosed, empty, items}
use Rattle.flow_line.specs.Grammar.{IsPair, pair as pair_of, IsValueOver, null, yes, no, numeric, text as text_of, list, map, IsUnbounded}
use Rattle.flow_line.specs.Refused.{IsNotation}
use Rattle.flow_line.proofs.Values.{ValueBy, all_seen, is_value}
use Rattle.flow_line.proofs.Whole.{AnySize, Family}
use Rattle.flow_line.proofs.Eased.{none_seen}

pub is_notation : (depth : ℕ) → IsNotation depth ≡ ValueBy none_seen AnySize depth
unfolding IsNotation ValueBy
is_notation zero = refl
is_notation (suc depth) = let inner = is_notation depth in λ i. IsValueOver AnySize (IsClosed 93 (λ found. inner i)) (IsClosed 125 (λ found. IsPair (inner i) []))

-- ---- item by item

row_mapped : {A : Type 0} (end : ℕ) (Item Item' : List A → List ℕ → A → List ℕ → Type 0) → ((found : List A) (t : List ℕ) (x : A) (rest : List ℕ) → Item found t x rest → Item' found t x rest)
    → {found all : List A} {t rest : List ℕ} → IsRow end Item found t all rest → IsRow end Item' found t all rest
row_mapped end Item Item' f (last {found = found} {x = x} {text = t} {after = after} here e) = last (f found t x after here) e
row_mapped end Item Item' f (more {found = found} {x = x} {text = t} {after = after} here e others) = more (f found t x after here) e (row_mapped end Item Item' f others)

closed_mapped : {A : Type 0} (end : ℕ) (Item Item' : List A → List ℕ → A → List ℕ → Type 0) → ((found : List A) (t : List ℕ) (x : A) (rest : List ℕ) → Item found t x rest → Item' found t x rest)
    → (t : List ℕ) (all : List A) (rest : List ℕ) → IsClosed end Item t all rest → IsClosed end Item' t all rest
closed_mapped end Item Item' f t all rest (empty e) = empty e
closed_mapped end Item Item' f t all rest (items row) = items (row_mapped end Item Item' f row)

pair_mapped : (Val Val' : List ℕ → Value → List ℕ → Type 0) → ((t : List ℕ) (v : Value) (rest : List ℕ) → Val t v rest → Val' t v rest)
    → (found : List (List ℕ × Value)) (t : List ℕ) (x : List ℕ × Value) (rest : List ℕ) → IsPair Val found t x rest → IsPair Val' [] t x rest
pair_mapped Val Val' f found t x rest (pair_of {behind = behind} {v = v} name new colon here) = pair_of name refl colon (f _ v rest here)

over_mapped : (L L' : List ℕ → List Value → List ℕ → Type 0) (M M' : List ℕ → List (List ℕ × Value) → List ℕ → Type 0) → ((t : List ℕ) (x : List Value) (rest : List ℕ) → L t x rest → L' t x rest)
    → ((t : List ℕ) (x : List (List ℕ × Value)) (rest : List ℕ) → M t x rest → M' t x rest) → (t : List ℕ) (v : Value) (rest : List ℕ) → IsValueOver AnySize L M t v rest → IsValueOver AnySize L' M' t v rest
over_mapped L L' M M' l m t v rest null = null
over_mapped L L' M M' l m t v rest yes = yes
over_mapped L L' M M' l m t v rest no = no
over_mapped L L' M M' l m t v rest (numeric here) = numeric here
over_mapped L L' M M' l m t v rest (text_of here) = text_of here
over_mapped L L' M M' l m t v rest (list {t = u} {vs = vs} here) = list (l u vs rest here)
over_mapped L L' M M' l m t v rest (map {t = u} {ps = ps} here) = map (m u ps rest here)

eased : (depth : ℕ) (t : List ℕ) (v : Value) (rest : List ℕ) → ValueBy all_seen AnySize depth t v rest → ValueBy none_seen AnySize depth t v rest
unfolding ValueBy
eased zero t v rest here = here
eased (suc depth) t v rest here =
    let Val = ValueBy all_seen AnySize depth in
    let Val' = ValueBy none_seen AnySize depth in
    over_mapped (IsClosed 93 (λ found. Val)) (IsClosed 93 (λ found. Val')) (IsClosed 125 (λ found. IsPair Val found)) (IsClosed 125 (λ found. IsPair Val' []))
    (closed_mapped 93 (λ found. Val) (λ found. Val') (λ found. eased depth)) (closed_mapped 125 (λ found. IsPair Val found) (λ found. IsPair Val' []) (λ found. pair_mapped Val Val' (eased depth) found)) t v rest here

pub a_notation : (t : List ℕ) (v : Value) → IsUnbounded t v → IsNotation 32 t v []
a_notation t v here = subst (λ (S : Family). S t v []) (sym (is_notation 32)) (eased 32 t v [] (subst (λ (S : Family). S t v []) (is_value AnySize 32) here))
