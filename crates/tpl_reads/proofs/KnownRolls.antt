-- What is known of an expression, and of a template, at one level of its tree.
use Rattle.std.proofs.Common.{◌≡◌}
use Rattle.ha_config.specs.declared.template.Expr.{Expr}
use Rattle.ha_config.specs.declared.template.Expr.TheOpen.{Expr-F}
use Rattle.ha_config.specs.declared.template.Expr.TheViews.{out-Expr, roll-Expr}
use Rattle.ha_config.specs.declared.template.Expr.TheFolds.{fold-roll-Expr, fold_out-Expr, map-Expr}
use Rattle.ha_config.specs.declared.template.Piece.{Piece}
use Rattle.ha_config.specs.declared.template.Template.{Template}
use Rattle.ha_config.specs.declared.template.Piece.TheOpen.{Piece-F, Template-F}
use Rattle.ha_config.specs.declared.template.Piece.TheViews.{out-Piece, out-Template, roll-Piece, roll-Template}
use Rattle.ha_config.specs.declared.template.Piece.TheFolds.{fold-roll-Piece, fold-roll-Template, fold_out-Piece, fold_out-Template, map-Piece, map-Template}
use Rattle.tpl_reads.specs.Reads.{Known, Written, all_reads, known_of, known_step, piece_reads, piece_step, template_step}

pub known_of-roll : (x : Expr-F Expr) → known_of (roll-Expr x) ≡ known_step (map-Expr Expr Known known_of x)
known_of-roll x = fold-roll-Expr Known known_step x

pub known_of-out : (x : Expr) → known_of x ≡ known_step (map-Expr Expr Known known_of (out-Expr x))
known_of-out x = fold_out-Expr Known known_step x

pub piece_reads-roll : (x : Piece-F Piece Template) → piece_reads (roll-Piece x) ≡ piece_step (map-Piece Piece Template Written Written piece_reads all_reads x)
piece_reads-roll x = fold-roll-Piece Written Written piece_step template_step x

pub all_reads-roll : (x : Template-F Piece Template) → all_reads (roll-Template x) ≡ template_step (map-Template Piece Template Written Written piece_reads all_reads x)
all_reads-roll x = fold-roll-Template Written Written piece_step template_step x

pub piece_reads-out : (x : Piece) → piece_reads x ≡ piece_step (map-Piece Piece Template Written Written piece_reads all_reads (out-Piece x))
piece_reads-out x = fold_out-Piece Written Written piece_step template_step x

pub all_reads-out : (x : Template) → all_reads x ≡ template_step (map-Template Piece Template Written Written piece_reads all_reads (out-Template x))
all_reads-out x = fold_out-Template Written Written piece_step template_step x
