use Rattle.time_next.proofs.DayLemmas.{ahead-none, ahead-today, ahead-tomorrow}
use Rattle.time_next.proofs.day.ahead.Goals as goal

pub returns-then-today-lt-DAY : goal.returns-then-today-lt-DAY
returns-then-today-lt-DAY c = ahead-today c.args.rule.now c.args.shown c.requires c.first_from-today.result c.first_from-today.ensures c.if-today-lt-DAY.true

pub returns-then-tomorrow-shown : goal.returns-then-tomorrow-shown
returns-then-tomorrow-shown c =
    ahead-tomorrow c.args.rule.now c.args.shown c.requires c.first_from-today.result c.first_from-today.ensures c.if-today-lt-DAY.false
    c.first_from-tomorrow.result c.first_from-tomorrow.ensures c.if-tomorrow-shown.true

pub returns-else-tomorrow-shown : goal.returns-else-tomorrow-shown
returns-else-tomorrow-shown c =
    ahead-none c.args.rule.now c.args.shown c.requires c.first_from-today.result c.first_from-today.ensures c.if-today-lt-DAY.false
    c.first_from-tomorrow.result c.first_from-tomorrow.ensures c.if-tomorrow-shown.false
