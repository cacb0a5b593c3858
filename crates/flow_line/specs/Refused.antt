-- What reading a whole text answers, and what its first fault is.
use Rattle.std.specs.Prelude.{◌≡◌, ℕ, zero, suc, ◌+◌, ◌≤◌, ◌<◌, Bool, true, false, ◌||◌, ◌==◌, List, []}
use Rattle.std.specs.Prelude.{◌∷◌, ◌++◌, length, take, drop, Option, Some, None, Result, Ok, Err}
use Rattle.ha_value.specs.declared.value.Num.{Num}
use Rattle.ha_value.specs.declared.value.Value.{Value}
use Rattle.ha_value.specs.Numbers.{is_in_range}
use Rattle.reading.specs.declared.fault.Bad.{Bad}
use Rattle.reading.specs.Answer.{Answer, front}
use Rattle.reading.specs.Spelling.{Never, IsClosed}
use Rattle.flow_line.specs.declared.fault.FlowFault.{FlowFault}
use Rattle.flow_line.specs.declared.fault.FlowFault.TheVariants as faults
use Rattle.flow_line.specs.declared.fault.Code.{Code}
use Rattle.flow_line.specs.declared.fault.Code.TheVariants.{Syntax, RepeatedKey, Depth, Range}
use Rattle.ha_value.specs.Numbers.{begins_number}
use Rattle.flow_line.specs.Grammar.{IsString, IsNumber, IsPair, IsValueOver, IsDocument, IsUnbounded}

abbrev pub number_of : Code → ℕ
number_of Syntax = 1
number_of RepeatedKey = 2
number_of Depth = 3
number_of Range = 4

-- a fault, by its place
abbrev pub IsFault : List ℕ → Bad Code → ℕ → Code → Type 0
IsFault text f at code = (at + f.left ≡ length text) × (code ≡ f.code)

-- the value, unless memory ran out
abbrev pub Answers : Result Value FlowFault → Value → Type 0
Answers (Ok x) v = x ≡ v
Answers (Err faults.Memory) v = Unit {0}
Answers (Err (faults.Bad at code)) v = ⊥

abbrev pub Tells : List ℕ → Answer ℕ (Bad Code) Value → Result Value FlowFault → Type 0
Tells text answer (Ok v) = answer ≡ Ok (v, [])
Tells text answer (Err faults.Memory) = Unit {0}
Tells text answer (Err (faults.Bad at code)) = (f : Bad Code) × (answer ≡ Err f) × IsFault text f at code

-- ---- the first fault

-- The notation alone: numbers of any size, keys that may stand again, and so many brackets in one another.
unfoldable pub IsNotation : ℕ → List ℕ → Value → List ℕ → Type 0
IsNotation zero = IsValueOver (λ n. Unit {0}) Never Never
IsNotation (suc depth) =
    IsValueOver (λ n. Unit {0}) (IsClosed 93 (λ found. IsNotation depth)) (IsClosed 125 (λ found. IsPair (IsNotation depth) []))

-- both begin with the same key, however it is spelled
pub record SameKey (a b : List ℕ) : Type 0 where
  pub key : List ℕ
  pub text : List ℕ
  pub text' : List ℕ
  pub rest : List ℕ
  pub rest' : List ℕ
  pub a_is : a ≡ 34 ∷ text
  pub b_is : b ≡ 34 ∷ text'
  pub a_key : IsString text key rest
  pub b_key : IsString text' key rest'

abbrev pub is_bracket : Option ℕ → Bool
is_bracket None = false
is_bracket (Some b) = b == 91 || b == 123

-- both begin with the same opening bracket
abbrev pub SameBracket : List ℕ → List ℕ → Type 0
SameBracket a b = (front b ≡ front a) × (is_bracket (front a) ≡ true)

-- both begin with the same number, which is complete and out of range
pub record SameNumber (a b : List ℕ) : Type 0 where
  pub n : Num
  pub rest : List ℕ
  pub rest' : List ℕ
  pub too_big : is_in_range n ≡ false
  pub a_number : IsNumber (λ n. Unit {0}) a n rest
  pub b_number : IsNumber (λ n. Unit {0}) b n rest'
  pub first : front b ≡ front a

-- Two texts begin alike, as far as a fault at their front depends on them: by the next byte, the key, the bracket or the number.
abbrev pub Like : Code → List ℕ → List ℕ → Type 0
Like Syntax a b = front b ≡ front a
Like RepeatedKey a b = SameKey a b
Like Depth a b = SameBracket a b
Like Range a b = SameNumber a b

-- A text is no value: for the syntax not even one of the notation, and for keys and brackets not even with numbers of any size.
abbrev pub IsNone : Code → List ℕ → Type 0
IsNone Syntax text = (depth : ℕ) (v : Value) → 32 ≤ depth → IsNotation depth text v [] → ⊥
IsNone RepeatedKey text = (v : Value) → IsUnbounded text v → ⊥
IsNone Depth text = (v : Value) → IsUnbounded text v → ⊥
IsNone Range text = (v : Value) → IsDocument text v → ⊥

-- some text that begins so is a value, with numbers of any size
abbrev pub Begins : List ℕ → Type 0
Begins text = (more : List ℕ) × (v : Value) × IsUnbounded (text ++ more) v

-- ---- tokens

-- a token, and then the rest: a string, a number of any size, or one byte that begins neither
pub data IsToken : List ℕ → List ℕ → Type 0 where
  quoted : {text s rest : List ℕ} → IsString text s rest → IsToken (34 ∷ text) rest
  numeral : {text rest : List ℕ} {n : Num} → IsNumber (λ n. Unit {0}) text n rest → IsToken text rest
  single : {b : ℕ} {rest : List ℕ} → (b == 34 || begins_number b) ≡ false → IsToken (b ∷ rest) rest

-- tokens one after the other, and then the rest
pub data AreTokens : List ℕ → List ℕ → Type 0 where
  no_token : {text : List ℕ} → AreTokens text text
  one_token : {text middle rest : List ℕ} → IsToken text middle → AreTokens middle rest → AreTokens text rest

-- each number that ends before the place is in range; `left` is what stands from the place on
abbrev pub AreInRange : List ℕ → List ℕ → Type 0
AreInRange text left =
    (t behind : List ℕ) (n : Num) → AreTokens text t
    → IsNumber (λ n. Unit {0}) t n behind → length left ≤ length behind → is_in_range n ≡ true

-- Where a fault may stand: one of the syntax inside no whole token, another where a token begins.
abbrev pub IsPlace : Code → List ℕ → List ℕ → Type 0
IsPlace Syntax text left = (t behind : List ℕ) → AreTokens text t → IsToken t behind → length left < length t → length left ≤ length behind
IsPlace RepeatedKey text left = AreTokens text left
IsPlace Depth text left = AreTokens text left
IsPlace Range text left = AreTokens text left

-- behind `before`, some text of the notation goes on with the byte that `here` begins with
pub record MayStand (before here : List ℕ) : Type 0 where
  pub depth : ℕ
  pub other : List ℕ
  pub v : Value
  pub deep : 32 ≤ depth
  pub same : front other ≡ front here
  pub goes_on : IsNotation depth (before ++ other) v []

-- what is wrong with keys, brackets and numbers is no syntax: the notation alone goes on there
abbrev pub IsNoSyntax : Code → List ℕ → List ℕ → Type 0
IsNoSyntax Syntax before here = Unit {0}
IsNoSyntax RepeatedKey before here = MayStand before here
IsNoSyntax Depth before here = MayStand before here
IsNoSyntax Range before here = MayStand before here

-- ---- the first fault itself

-- Up to the place some text goes on to a value, and the numbers before it are in range. What the code speaks of begins there: a key,
-- an opening bracket, or a number out of range; for the syntax just the next byte, or the end. Whatever text goes on alike is no value.
-- A text has one first fault at most (`laws::one_first_fault`).
pub record IsFirstFault (text : List ℕ) (at : ℕ) (code : Code) : Type 0 where
  pub within : at ≤ length text
  pub goes_on : Begins (take at text)
  pub in_range : AreInRange text (drop at text)
  pub place : IsPlace code text (drop at text)
  pub here : Like code (drop at text) (drop at text)
  pub allowed : IsNoSyntax code (take at text) (drop at text)
  pub no_more : (other : List ℕ) → Like code (drop at text) other → IsNone code (take at text ++ other)

abbrev pub Refuses : List ℕ → Result Value FlowFault → Type 0
Refuses text (Ok v) = Unit {0}
Refuses text (Err faults.Memory) = Unit {0}
Refuses text (Err (faults.Bad at code)) = IsFirstFault text at code
