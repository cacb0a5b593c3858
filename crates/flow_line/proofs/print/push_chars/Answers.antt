use Rattle.std.proofs.Common.{◌≡◌, ◌++◌, List, ℕ, ap, sym, subst, ◌∙◌, length, flat_map, ◌<◌, IsUtf8, OnOk}
use Rattle.ha_config.specs.ValueText.{escaped_byte}
use Rattle.flow_line.proofs.PlainRuns.{small, front_utf8, behind_utf8, one_run, less_left, last_run}
use Rattle.flow_line.proofs.print.push_chars.Goals as goal

pub push_bytes-requires : goal.push_bytes-requires
push_bytes-requires c = front_utf8 c.runs.rest.now c.in-Some.at (sym c.in-Some.ensures.place) c.runs.invariant.utf8

pub push_ascii-requires : goal.push_ascii-requires
push_ascii-requires c = small c.runs.rest.now c.in-Some.at (sym c.in-Some.ensures.place)

pub runs-smaller : goal.runs-smaller
runs-smaller c =
    subst (λ (r : List ℕ). length r < length c.runs.rest.now) (sym c.behind-rest.ensures) (less_left c.runs.rest.now c.in-Some.at (sym c.in-Some.ensures.place))

pub runs-preserved : goal.runs-preserved
runs-preserved c =
    let first = sym c.in-Some.ensures.place in
    record {
      utf8 = subst IsUtf8 (sym c.behind-rest.ensures) (behind_utf8 c.runs.rest.now c.in-Some.at first c.runs.invariant.utf8);
      shown =
          ap (λ (r : List ℕ). c.push_ascii.new.text ++ flat_map escaped_byte r) c.behind-rest.ensures
          ∙ one_run c.runs.rest.now c.in-Some.at first (c.args.text.now ++ flat_map escaped_byte c.args.shown.now) c.runs.text c.push_bytes.new.self c.push_ascii.new.text
          c.runs.invariant.shown c.in_ok-push_bytes.ensures.ok c.in_ok-push_ascii.ensures;
    }

pub returns : goal.returns
returns c =
    let whole : c.runs.text ++ c.runs.rest.now ≡ c.args.text.now ++ flat_map escaped_byte c.args.shown.now =
    ap (λ (r : List ℕ). c.runs.text ++ r) (sym (last_run c.runs.rest.now (sym c.in_default.ensures.place))) ∙ c.runs.invariant.shown in
    subst (λ (r : List ℕ). OnOk c.push_bytes-2.result (c.push_bytes-2.new.self ≡ r)) whole c.push_bytes-2.ensures.ok
