use Rattle.std.proofs.Common.{◌≡◌, ◌∙◌, ap, refl, sym, List, ℕ, Bool, true, false, Some, None, Option, Err, Result, if◌then◌else◌, IsUtf8}
use Rattle.std.specs.Prelude.{IfSome}
use Rattle.std.specs.Str.{is_utf8}
use Rattle.std.proofs.lemmas.Result.{IfErr-weaker, IfOk-weaker}
use Rattle.std.proofs.lemmas.Str.{IsUtf8-from_is_utf8, is_utf8-from_IsUtf8}
use Rattle.serde_json.specs.Data.{Data, Members}
use Rattle.serde_json.specs.Find.{as_object}
use Rattle.serde_json.specs.Read.{read}
use Rattle.serde_json.specs.View.{view}
use Rattle.serde_json.specs.Errors.{IsMemory}
use Rattle.serde_json.specs.declared.error.Error.{Error}
use Rattle.store_text.specs.declared.stored.Stored.{Stored}
use Rattle.store_text.specs.Fault.{code_of}
use Rattle.store_text.specs.Store.{of_data, of_object, stored_in}
use Rattle.store_text.proofs.read.read_store.Goals as goal

no_json : (text : List ℕ) (b : Bool) → is_utf8 text ≡ b → (IsUtf8 text → read text ≡ None) → stored_in text ≡ Err 1
unfolding stored_in
no_json text true e h = ap (λ b. if b then of_data (read text) else Err 1) e ∙ ap of_data (h (IsUtf8-from_is_utf8 text e))
no_json text false e h = ap (λ b. if b then of_data (read text) else Err 1) e

json : (text : List ℕ) (d : Data) (o : Option Members) → IsUtf8 text → read text ≡ Some d → as_object d ≡ o → stored_in text ≡ of_object o
unfolding stored_in
json text d o u r e = ap (λ b. if b then of_data (read text) else Err 1) (is_utf8-from_IsUtf8 text u) ∙ ap of_data r ∙ ap of_object e

refused : (o : Option ℕ) (text : List ℕ) (x : Error) → IfSome o (λ code. (code ≡ 1) × ¬ IsMemory x) → (¬ IsMemory x → IsUtf8 text → read text ≡ None) → IfSome o (λ code. stored_in text ≡ Err code)
refused None text x h k = tt
refused (Some code) text x h k = no_json text _ refl (k h.1) ∙ ap (λ (n : ℕ). Err n) (sym h.0)

through : (o : Option ℕ) (a b : Result Stored ℕ) → a ≡ b → IfSome o (λ code. b ≡ Err code) → IfSome o (λ code. a ≡ Err code)
through None a b e h = tt
through (Some code) a b e h = e ∙ h

pub returns-in-Err-clause-refused : goal.returns-in-Err-clause-refused
returns-in-Err-clause-refused c = refused (code_of c.refusal.result) c.args.text.now c.in-Err.error c.refusal.ensures c.in-Err.ensures.err

pub returns-in-Some : goal.returns-in-Some
returns-in-Some c =
    let ok = c.in-Ok.ensures.ok in
    let whole = json c.args.text.now (view c.in-Ok.value) _ ok.0 ok.1 (sym c.in-Some.ensures) in
    record {
      sound = c.of_object.ensures.sound;
      last = c.of_object.ensures.last;
      ok = IfOk-weaker c.of_object.result _ _ (λ v h. whole ∙ h) c.of_object.ensures.ok;
      refused = IfErr-weaker c.of_object.result _ _ (λ e h. through (code_of e) _ _ whole h) c.of_object.ensures.refused;
    }

pub returns-clause-refused : goal.returns-clause-refused
returns-clause-refused c =
    let ok = c.in-Ok.ensures.ok in
    json c.args.text.now (view c.in-Ok.value) None ok.0 ok.1 (sym c.in-None.ensures)
