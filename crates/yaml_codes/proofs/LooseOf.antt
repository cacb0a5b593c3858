-- What is in the grammar of flow, and of the pieces of lines, is so without the rules.
use Rattle.std.proofs.Common.{ℕ, Bool, List}
use Rattle.yaml_scan.specs.declared.line.RawLine.{RawLine}
use Rattle.yaml_tree.specs.declared.node.Node.{Node}
use Rattle.yaml_tree.specs.declared.piece.Piece.{Piece}
use Rattle.yaml_tree.specs.Nodes.{Pair}
use Rattle.yaml_tree.specs.Brackets as b
use Rattle.yaml_tree.specs.Spelling as s
use Rattle.yaml_rules.specs.LooseFlow as l
use Rattle.yaml_rules.specs.LooseText as t
use Rattle.yaml_rules.specs.Notation as n

mutual
  pub flow_loosely : {at height : ℕ} {bytes rest : List ℕ} {x : Node} → b.IsFlow at bytes x height rest → l.IsFlow at bytes x height rest
  flow_loosely (b.plain s w) = l.plain s w
  flow_loosely (b.quoted s i) = l.quoted s i
  flow_loosely (b.list i) = l.list (items_loosely i)
  flow_loosely (b.map i) = l.map (pairs_loosely i)

  items_loosely : {at height : ℕ} {bytes rest : List ℕ} {xs : List Node} → b.IsItems at bytes xs height rest → l.IsItems at bytes xs height rest
  items_loosely (b.no_item a) = l.no_item a
  items_loosely (b.last_item a v c) = l.last_item a (flow_loosely v) c
  items_loosely (b.more_items a v c i) = l.more_items a (flow_loosely v) c (items_loosely i)

  pair_loosely : {at height : ℕ} {bytes rest : List ℕ} {p : Pair} → b.IsPair at bytes p height rest → l.IsPair at bytes p height rest
  pair_loosely (b.key_alone i) = l.key_alone i
  pair_loosely (b.no_value i e) = l.no_value i e
  pair_loosely (b.key_value i e a v) = l.key_value i e a (flow_loosely v)

  pairs_loosely : {at height : ℕ} {bytes rest : List ℕ} {ps : List Pair} → b.IsPairs at bytes ps height rest → l.IsPairs at bytes ps height rest
  pairs_loosely (b.no_pair a) = l.no_pair a
  pairs_loosely (b.last_pair a v c) = l.last_pair a (pair_loosely v) c
  pairs_loosely (b.more_pairs a v c i new) = l.more_pairs a (pair_loosely v) c (pairs_loosely i)

heads_loosely : {at right column : ℕ} {spaced : Bool} {bytes : List ℕ} {ls ls' : List RawLine} {ps : List Piece} → s.IsHeads at right spaced column bytes ls ps ls' → t.IsLooseHeads at right spaced column bytes ls ps ls'
heads_loosely (s.nothing e) = t.nothing e
heads_loosely (s.dash a d r) = t.dash a d (heads_loosely r)
heads_loosely (s.leaf a d l) = t.leaf a d (t.of_grammar l)
heads_loosely (s.key a d k e) = t.key a d k e
heads_loosely (s.key_value a d k v l) = t.key_value a d k v (t.of_grammar l)

pieces_loosely : {found ps : List Piece} {ls : List RawLine} → s.IsPieces found ls ps → t.IsLoosePieces found ls ps
pieces_loosely s.none = t.none
pieces_loosely (s.line h p) = t.line (heads_loosely h) (pieces_loosely p)

clean_orderly : {begun : Bool} {ls : List RawLine} → s.AreClean begun ls → t.AreOrderly begun ls
clean_orderly s.none = t.none
clean_orderly (s.line tab d m u r) = t.line tab d m (clean_orderly r)

pub notation_loosely : (text : List ℕ) (root : Node) → n.IsNotationText text root → n.IsLooseText text root
notation_loosely text root (n.in_notation (n.spelled li c p low) h) = n.loosely li (clean_orderly c) (pieces_loosely p) h
