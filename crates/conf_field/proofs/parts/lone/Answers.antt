use Rattle.conf_field.proofs.parts.lone.Goals as goal

pub returns : goal.returns
returns g c = c.list_of.ensures (g.K.Kind.meaning c.args.line c.args.node.now) c.read.ensures
