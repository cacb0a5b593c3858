use Rattle.std.proofs.Common.{◌+◌, ◌-◌, arith, sym, refl}
use Rattle.ha_text.proofs.Shorten.{IsShortened, shortened_held}
use Rattle.ha_text.proofs.lines.LineCut.shorten.Goals as goal

made : (c : goal.After-end_with) → IsShortened c.args.self.now c.self.inside.held.items c.self.inside.start c.self.inside.begun c.end_with.new.bytes.items
made c =
    let items = c.self.inside.held.items in
    let front = c.self.inside.begun + c.longest.result in
    let last = c.len-last.result - 1 in
    shortened_held c.args.self.now items c.deref.result.now c.end_with.new.bytes.items c.self.inside.start c.self.inside.begun c.longest.result front last c.mark_of-mark.result c.index-end.result.now
    (sym c.self.view_is) c.self.invariant.0 (omega (arith, c.self.invariant.1, c.self.inside.held.ok.0)) c.self.invariant.2 c.longest.ensures.value refl (omega (arith, c.len.ensures, c.len-last.ensures, c.if-len-front.false, c.self.inside.held.ok.0)) (omega (arith, c.len.ensures, c.len-last.ensures, c.if-len-front.false)) c.deref.ensures.value c.mark_of-mark.ensures.blank c.mark_of-mark.ensures.no_break c.index-end.ensures c.end_with.ensures

pub invariant_of-self : goal.invariant_of-self
invariant_of-self c = (c.self.invariant.0, omega (arith, (made c).fits, c.end_with.new.bytes.ok.0), (made c).last)

pub returns : goal.returns
returns c = (made c).same
