-- The tree of a rehearsal's configuration.
use Rattle.std.proofs.Common.{◌≡◌, ◌∙◌, List, [], ◌∷◌, true, false, refl, codes}
use Rattle.std.specs.Prelude.{Ok}
use Rattle.std.specs.Str.{chars, is_utf8}
use lib.Utf8.{encode}
use Rattle.yaml_tree.specs.declared.node.Node.{Node}
use Rattle.yaml_tree.specs.declared.piece.Piece.{Piece}
use Rattle.yaml_tree.specs.Nodes.{listed}
use Rattle.yaml_tree.specs.Pieces.{dash, key, leaf}
use Rattle.yaml_tree.specs.Layout.{document, node}
use Rattle.ha_rehearse.proofs.LineLemmas.{scalar_of}
use Rattle.ha_rehearse.proofs.TreeLemmas.{are_utf8, leaf_node, list_node, map_node, next_item, next_pair, no_item, no_pair, with_pairs}

abbrev pub rest55 : List Piece
rest55 = []

abbrev pub rest54 : List Piece
rest54 = leaf 28 9 (scalar_of 28 (codes "3") true) 1 false ∷ rest55

abbrev pub rest53 : List Piece
rest53 = key 28 4 (codes "max") ∷ rest54

abbrev pub rest52 : List Piece
rest52 = leaf 27 10 (scalar_of 27 (codes "queued") true) 1 false ∷ rest53

abbrev pub rest51 : List Piece
rest51 = key 27 4 (codes "mode") ∷ rest52

abbrev pub rest50 : List Piece
rest50 = leaf 26 23 (scalar_of 26 (codes "{{ trigger.to_state.state }}") false) 1 false ∷ rest51

abbrev pub rest49 : List Piece
rest49 = key 26 16 (codes "value") ∷ rest50

abbrev pub rest48 : List Piece
rest48 = key 25 14 (codes "data") ∷ rest49

abbrev pub rest47 : List Piece
rest47 = leaf 24 22 (scalar_of 24 (codes "notify.log") true) 1 false ∷ rest48

abbrev pub rest46 : List Piece
rest46 = key 24 14 (codes "action") ∷ rest47

abbrev pub rest45 : List Piece
rest45 = dash 24 12 ∷ rest46

abbrev pub rest44 : List Piece
rest44 = key 23 10 (codes "sequence") ∷ rest45

abbrev pub rest43 : List Piece
rest43 = leaf 22 17 (scalar_of 22 (codes "2") true) 1 false ∷ rest44

abbrev pub rest42 : List Piece
rest42 = key 22 10 (codes "count") ∷ rest43

abbrev pub rest41 : List Piece
rest41 = key 21 8 (codes "repeat") ∷ rest42

abbrev pub rest40 : List Piece
rest40 = dash 21 6 ∷ rest41

abbrev pub rest39 : List Piece
rest39 = key 20 4 (codes "actions") ∷ rest40

abbrev pub rest38 : List Piece
rest38 = leaf 19 19 (scalar_of 19 (codes "sensor.s1") true) 1 false ∷ rest39

abbrev pub rest37 : List Piece
rest37 = key 19 8 (codes "entity_id") ∷ rest38

abbrev pub rest36 : List Piece
rest36 = leaf 18 17 (scalar_of 18 (codes "state") true) 1 false ∷ rest37

abbrev pub rest35 : List Piece
rest35 = key 18 8 (codes "trigger") ∷ rest36

abbrev pub rest34 : List Piece
rest34 = dash 18 6 ∷ rest35

abbrev pub rest33 : List Piece
rest33 = key 17 4 (codes "triggers") ∷ rest34

abbrev pub rest32 : List Piece
rest32 = leaf 16 11 (scalar_of 16 (codes "Odd") true) 1 false ∷ rest33

abbrev pub rest31 : List Piece
rest31 = key 16 4 (codes "alias") ∷ rest32

abbrev pub rest30 : List Piece
rest30 = dash 16 2 ∷ rest31

abbrev pub rest29 : List Piece
rest29 = leaf 15 10 (scalar_of 15 (codes "restart") true) 1 false ∷ rest30

abbrev pub rest28 : List Piece
rest28 = key 15 4 (codes "mode") ∷ rest29

abbrev pub rest27 : List Piece
rest27 = leaf 14 21 (scalar_of 14 (codes "fan.f0") true) 1 false ∷ rest28

abbrev pub rest26 : List Piece
rest26 = key 14 10 (codes "entity_id") ∷ rest27

abbrev pub rest25 : List Piece
rest25 = key 13 8 (codes "target") ∷ rest26

abbrev pub rest24 : List Piece
rest24 = leaf 12 16 (scalar_of 12 (codes "fan.turn_off") true) 1 false ∷ rest25

abbrev pub rest23 : List Piece
rest23 = key 12 8 (codes "action") ∷ rest24

abbrev pub rest22 : List Piece
rest22 = dash 12 6 ∷ rest23

abbrev pub rest21 : List Piece
rest21 = leaf 11 15 (scalar_of 11 (codes "60") true) 1 false ∷ rest22

abbrev pub rest20 : List Piece
rest20 = key 11 8 (codes "delay") ∷ rest21

abbrev pub rest19 : List Piece
rest19 = dash 11 6 ∷ rest20

abbrev pub rest18 : List Piece
rest18 = leaf 10 21 (scalar_of 10 (codes "fan.f0") true) 1 false ∷ rest19

abbrev pub rest17 : List Piece
rest17 = key 10 10 (codes "entity_id") ∷ rest18

abbrev pub rest16 : List Piece
rest16 = key 9 8 (codes "target") ∷ rest17

abbrev pub rest15 : List Piece
rest15 = leaf 8 16 (scalar_of 8 (codes "fan.turn_on") true) 1 false ∷ rest16

abbrev pub rest14 : List Piece
rest14 = key 8 8 (codes "action") ∷ rest15

abbrev pub rest13 : List Piece
rest13 = dash 8 6 ∷ rest14

abbrev pub rest12 : List Piece
rest12 = key 7 4 (codes "actions") ∷ rest13

abbrev pub rest11 : List Piece
rest11 = leaf 6 15 (scalar_of 6 (codes "50") true) 1 false ∷ rest12

abbrev pub rest10 : List Piece
rest10 = key 6 8 (codes "above") ∷ rest11

abbrev pub rest9 : List Piece
rest9 = leaf 5 19 (scalar_of 5 (codes "sensor.s0") true) 1 false ∷ rest10

abbrev pub rest8 : List Piece
rest8 = key 5 8 (codes "entity_id") ∷ rest9

abbrev pub rest7 : List Piece
rest7 = leaf 4 17 (scalar_of 4 (codes "numeric_state") true) 1 false ∷ rest8

abbrev pub rest6 : List Piece
rest6 = key 4 8 (codes "trigger") ∷ rest7

abbrev pub rest5 : List Piece
rest5 = dash 4 6 ∷ rest6

abbrev pub rest4 : List Piece
rest4 = key 3 4 (codes "triggers") ∷ rest5

abbrev pub rest3 : List Piece
rest3 = leaf 2 11 (scalar_of 2 (codes "Even") true) 1 false ∷ rest4

abbrev pub rest2 : List Piece
rest2 = key 2 4 (codes "alias") ∷ rest3

abbrev pub rest1 : List Piece
rest1 = dash 2 2 ∷ rest2

abbrev pub rest0 : List Piece
rest0 = key 1 0 (codes "automation") ∷ rest1

abbrev pub node3 : Node
node3 = scalar_of 2 (codes "Even") true

read3 : node 61 2 5 rest3 ≡ Ok (node3, rest4)
read3 = leaf_node 60 2 5 2 11 1 node3 false rest4 refl refl

abbrev pub node7 : Node
node7 = scalar_of 4 (codes "numeric_state") true

read7 : node 59 4 9 rest7 ≡ Ok (node7, rest8)
read7 = leaf_node 58 4 9 4 17 1 node7 false rest8 refl refl

abbrev pub node9 : Node
node9 = scalar_of 5 (codes "sensor.s0") true

read9 : node 59 5 9 rest9 ≡ Ok (node9, rest10)
read9 = leaf_node 58 5 9 5 19 1 node9 false rest10 refl refl

abbrev pub node11 : Node
node11 = scalar_of 6 (codes "50") true

read11 : node 59 6 9 rest11 ≡ Ok (node11, rest12)
read11 = leaf_node 58 6 9 6 15 1 node11 false rest12 refl refl

abbrev pub node6 : Node
node6 = with_pairs 4 ((codes "trigger", 4, node7) ∷ (codes "entity_id", 5, node9) ∷ (codes "above", 6, node11) ∷ [])

keys6 : are_utf8 ((codes "trigger", 4, node7) ∷ (codes "entity_id", 5, node9) ∷ (codes "above", 6, node11) ∷ []) ≡ true
unfolding is_utf8 chars encode
keys6 = refl

read6 : node 60 4 7 rest6 ≡ Ok (node6, rest12)
read6 = map_node 59 4 8 4 7 (codes "trigger") rest7 rest12 ((codes "trigger", 4, node7) ∷ (codes "entity_id", 5, node9) ∷ (codes "above", 6, node11) ∷ []) refl (next_pair 59 4 8 49 ([]) (codes "trigger") rest7 rest8 node7 refl refl read7 ∙ next_pair 59 5 8 48 ((codes "trigger", 4, node7) ∷ []) (codes "entity_id") rest9 rest10 node9 refl refl read9 ∙ next_pair 59 6 8 47 ((codes "trigger", 4, node7) ∷ (codes "entity_id", 5, node9) ∷ []) (codes "above") rest11 rest12 node11 refl refl read11 ∙ no_pair 59 4 8 46 ((codes "trigger", 4, node7) ∷ (codes "entity_id", 5, node9) ∷ (codes "above", 6, node11) ∷ []) rest12 refl) keys6

abbrev pub node5 : Node
node5 = listed 4 (node6 ∷ [])

read5 : node 61 3 5 rest5 ≡ Ok (node5, rest12)
read5 = list_node 60 4 6 3 5 rest6 rest12 (node6 ∷ []) refl (next_item 60 4 6 50 ([]) rest6 rest12 node6 refl read6 ∙ no_item 60 4 6 49 (node6 ∷ []) rest12 refl)

abbrev pub node15 : Node
node15 = scalar_of 8 (codes "fan.turn_on") true

read15 : node 59 8 9 rest15 ≡ Ok (node15, rest16)
read15 = leaf_node 58 8 9 8 16 1 node15 false rest16 refl refl

abbrev pub node18 : Node
node18 = scalar_of 10 (codes "fan.f0") true

read18 : node 58 10 11 rest18 ≡ Ok (node18, rest19)
read18 = leaf_node 57 10 11 10 21 1 node18 false rest19 refl refl

abbrev pub node17 : Node
node17 = with_pairs 10 ((codes "entity_id", 10, node18) ∷ [])

keys17 : are_utf8 ((codes "entity_id", 10, node18) ∷ []) ≡ true
unfolding is_utf8 chars encode
keys17 = refl

read17 : node 59 9 9 rest17 ≡ Ok (node17, rest19)
read17 = map_node 58 10 10 9 9 (codes "entity_id") rest18 rest19 ((codes "entity_id", 10, node18) ∷ []) refl (next_pair 58 10 10 38 ([]) (codes "entity_id") rest18 rest19 node18 refl refl read18 ∙ no_pair 58 10 10 37 ((codes "entity_id", 10, node18) ∷ []) rest19 refl) keys17

abbrev pub node14 : Node
node14 = with_pairs 8 ((codes "action", 8, node15) ∷ (codes "target", 9, node17) ∷ [])

keys14 : are_utf8 ((codes "action", 8, node15) ∷ (codes "target", 9, node17) ∷ []) ≡ true
unfolding is_utf8 chars encode
keys14 = refl

read14 : node 60 8 7 rest14 ≡ Ok (node14, rest19)
read14 = map_node 59 8 8 8 7 (codes "action") rest15 rest19 ((codes "action", 8, node15) ∷ (codes "target", 9, node17) ∷ []) refl (next_pair 59 8 8 41 ([]) (codes "action") rest15 rest16 node15 refl refl read15 ∙ next_pair 59 9 8 40 ((codes "action", 8, node15) ∷ []) (codes "target") rest17 rest19 node17 refl refl read17 ∙ no_pair 59 8 8 39 ((codes "action", 8, node15) ∷ (codes "target", 9, node17) ∷ []) rest19 refl) keys14

abbrev pub node21 : Node
node21 = scalar_of 11 (codes "60") true

read21 : node 59 11 9 rest21 ≡ Ok (node21, rest22)
read21 = leaf_node 58 11 9 11 15 1 node21 false rest22 refl refl

abbrev pub node20 : Node
node20 = with_pairs 11 ((codes "delay", 11, node21) ∷ [])

keys20 : are_utf8 ((codes "delay", 11, node21) ∷ []) ≡ true
unfolding is_utf8 chars encode
keys20 = refl

read20 : node 60 11 7 rest20 ≡ Ok (node20, rest22)
read20 = map_node 59 11 8 11 7 (codes "delay") rest21 rest22 ((codes "delay", 11, node21) ∷ []) refl (next_pair 59 11 8 35 ([]) (codes "delay") rest21 rest22 node21 refl refl read21 ∙ no_pair 59 11 8 34 ((codes "delay", 11, node21) ∷ []) rest22 refl) keys20

abbrev pub node24 : Node
node24 = scalar_of 12 (codes "fan.turn_off") true

read24 : node 59 12 9 rest24 ≡ Ok (node24, rest25)
read24 = leaf_node 58 12 9 12 16 1 node24 false rest25 refl refl

abbrev pub node27 : Node
node27 = scalar_of 14 (codes "fan.f0") true

read27 : node 58 14 11 rest27 ≡ Ok (node27, rest28)
read27 = leaf_node 57 14 11 14 21 1 node27 false rest28 refl refl

abbrev pub node26 : Node
node26 = with_pairs 14 ((codes "entity_id", 14, node27) ∷ [])

keys26 : are_utf8 ((codes "entity_id", 14, node27) ∷ []) ≡ true
unfolding is_utf8 chars encode
keys26 = refl

read26 : node 59 13 9 rest26 ≡ Ok (node26, rest28)
read26 = map_node 58 14 10 13 9 (codes "entity_id") rest27 rest28 ((codes "entity_id", 14, node27) ∷ []) refl (next_pair 58 14 10 29 ([]) (codes "entity_id") rest27 rest28 node27 refl refl read27 ∙ no_pair 58 14 10 28 ((codes "entity_id", 14, node27) ∷ []) rest28 refl) keys26

abbrev pub node23 : Node
node23 = with_pairs 12 ((codes "action", 12, node24) ∷ (codes "target", 13, node26) ∷ [])

keys23 : are_utf8 ((codes "action", 12, node24) ∷ (codes "target", 13, node26) ∷ []) ≡ true
unfolding is_utf8 chars encode
keys23 = refl

read23 : node 60 12 7 rest23 ≡ Ok (node23, rest28)
read23 = map_node 59 12 8 12 7 (codes "action") rest24 rest28 ((codes "action", 12, node24) ∷ (codes "target", 13, node26) ∷ []) refl (next_pair 59 12 8 32 ([]) (codes "action") rest24 rest25 node24 refl refl read24 ∙ next_pair 59 13 8 31 ((codes "action", 12, node24) ∷ []) (codes "target") rest26 rest28 node26 refl refl read26 ∙ no_pair 59 12 8 30 ((codes "action", 12, node24) ∷ (codes "target", 13, node26) ∷ []) rest28 refl) keys23

abbrev pub node13 : Node
node13 = listed 8 (node14 ∷ node20 ∷ node23 ∷ [])

read13 : node 61 7 5 rest13 ≡ Ok (node13, rest28)
read13 = list_node 60 8 6 7 5 rest14 rest28 (node14 ∷ node20 ∷ node23 ∷ []) refl (next_item 60 8 6 42 ([]) rest14 rest19 node14 refl read14 ∙ next_item 60 11 6 41 (node14 ∷ []) rest20 rest22 node20 refl read20 ∙ next_item 60 12 6 40 (node14 ∷ node20 ∷ []) rest23 rest28 node23 refl read23 ∙ no_item 60 8 6 39 (node14 ∷ node20 ∷ node23 ∷ []) rest28 refl)

abbrev pub node29 : Node
node29 = scalar_of 15 (codes "restart") true

read29 : node 61 15 5 rest29 ≡ Ok (node29, rest30)
read29 = leaf_node 60 15 5 15 10 1 node29 false rest30 refl refl

abbrev pub node2 : Node
node2 = with_pairs 2 ((codes "alias", 2, node3) ∷ (codes "triggers", 3, node5) ∷ (codes "actions", 7, node13) ∷ (codes "mode", 15, node29) ∷ [])

keys2 : are_utf8 ((codes "alias", 2, node3) ∷ (codes "triggers", 3, node5) ∷ (codes "actions", 7, node13) ∷ (codes "mode", 15, node29) ∷ []) ≡ true
unfolding is_utf8 chars encode
keys2 = refl

read2 : node 62 2 3 rest2 ≡ Ok (node2, rest30)
read2 = map_node 61 2 4 2 3 (codes "alias") rest3 rest30 ((codes "alias", 2, node3) ∷ (codes "triggers", 3, node5) ∷ (codes "actions", 7, node13) ∷ (codes "mode", 15, node29) ∷ []) refl (next_pair 61 2 4 53 ([]) (codes "alias") rest3 rest4 node3 refl refl read3 ∙ next_pair 61 3 4 52 ((codes "alias", 2, node3) ∷ []) (codes "triggers") rest5 rest12 node5 refl refl read5 ∙ next_pair 61 7 4 51 ((codes "alias", 2, node3) ∷ (codes "triggers", 3, node5) ∷ []) (codes "actions") rest13 rest28 node13 refl refl read13 ∙ next_pair 61 15 4 50 ((codes "alias", 2, node3) ∷ (codes "triggers", 3, node5) ∷ (codes "actions", 7, node13) ∷ []) (codes "mode") rest29 rest30 node29 refl refl read29 ∙ no_pair 61 2 4 49 ((codes "alias", 2, node3) ∷ (codes "triggers", 3, node5) ∷ (codes "actions", 7, node13) ∷ (codes "mode", 15, node29) ∷ []) rest30 refl) keys2

abbrev pub node32 : Node
node32 = scalar_of 16 (codes "Odd") true

read32 : node 61 16 5 rest32 ≡ Ok (node32, rest33)
read32 = leaf_node 60 16 5 16 11 1 node32 false rest33 refl refl

abbrev pub node36 : Node
node36 = scalar_of 18 (codes "state") true

read36 : node 59 18 9 rest36 ≡ Ok (node36, rest37)
read36 = leaf_node 58 18 9 18 17 1 node36 false rest37 refl refl

abbrev pub node38 : Node
node38 = scalar_of 19 (codes "sensor.s1") true

read38 : node 59 19 9 rest38 ≡ Ok (node38, rest39)
read38 = leaf_node 58 19 9 19 19 1 node38 false rest39 refl refl

abbrev pub node35 : Node
node35 = with_pairs 18 ((codes "trigger", 18, node36) ∷ (codes "entity_id", 19, node38) ∷ [])

keys35 : are_utf8 ((codes "trigger", 18, node36) ∷ (codes "entity_id", 19, node38) ∷ []) ≡ true
unfolding is_utf8 chars encode
keys35 = refl

read35 : node 60 18 7 rest35 ≡ Ok (node35, rest39)
read35 = map_node 59 18 8 18 7 (codes "trigger") rest36 rest39 ((codes "trigger", 18, node36) ∷ (codes "entity_id", 19, node38) ∷ []) refl (next_pair 59 18 8 20 ([]) (codes "trigger") rest36 rest37 node36 refl refl read36 ∙ next_pair 59 19 8 19 ((codes "trigger", 18, node36) ∷ []) (codes "entity_id") rest38 rest39 node38 refl refl read38 ∙ no_pair 59 18 8 18 ((codes "trigger", 18, node36) ∷ (codes "entity_id", 19, node38) ∷ []) rest39 refl) keys35

abbrev pub node34 : Node
node34 = listed 18 (node35 ∷ [])

read34 : node 61 17 5 rest34 ≡ Ok (node34, rest39)
read34 = list_node 60 18 6 17 5 rest35 rest39 (node35 ∷ []) refl (next_item 60 18 6 21 ([]) rest35 rest39 node35 refl read35 ∙ no_item 60 18 6 20 (node35 ∷ []) rest39 refl)

abbrev pub node43 : Node
node43 = scalar_of 22 (codes "2") true

read43 : node 58 22 11 rest43 ≡ Ok (node43, rest44)
read43 = leaf_node 57 22 11 22 17 1 node43 false rest44 refl refl

abbrev pub node47 : Node
node47 = scalar_of 24 (codes "notify.log") true

read47 : node 56 24 15 rest47 ≡ Ok (node47, rest48)
read47 = leaf_node 55 24 15 24 22 1 node47 false rest48 refl refl

abbrev pub node50 : Node
node50 = scalar_of 26 (codes "{{ trigger.to_state.state }}") false

read50 : node 55 26 17 rest50 ≡ Ok (node50, rest51)
read50 = leaf_node 54 26 17 26 23 1 node50 false rest51 refl refl

abbrev pub node49 : Node
node49 = with_pairs 26 ((codes "value", 26, node50) ∷ [])

keys49 : are_utf8 ((codes "value", 26, node50) ∷ []) ≡ true
unfolding is_utf8 chars encode
keys49 = refl

read49 : node 56 25 15 rest49 ≡ Ok (node49, rest51)
read49 = map_node 55 26 16 25 15 (codes "value") rest50 rest51 ((codes "value", 26, node50) ∷ []) refl (next_pair 55 26 16 6 ([]) (codes "value") rest50 rest51 node50 refl refl read50 ∙ no_pair 55 26 16 5 ((codes "value", 26, node50) ∷ []) rest51 refl) keys49

abbrev pub node46 : Node
node46 = with_pairs 24 ((codes "action", 24, node47) ∷ (codes "data", 25, node49) ∷ [])

keys46 : are_utf8 ((codes "action", 24, node47) ∷ (codes "data", 25, node49) ∷ []) ≡ true
unfolding is_utf8 chars encode
keys46 = refl

read46 : node 57 24 13 rest46 ≡ Ok (node46, rest51)
read46 = map_node 56 24 14 24 13 (codes "action") rest47 rest51 ((codes "action", 24, node47) ∷ (codes "data", 25, node49) ∷ []) refl (next_pair 56 24 14 9 ([]) (codes "action") rest47 rest48 node47 refl refl read47 ∙ next_pair 56 25 14 8 ((codes "action", 24, node47) ∷ []) (codes "data") rest49 rest51 node49 refl refl read49 ∙ no_pair 56 24 14 7 ((codes "action", 24, node47) ∷ (codes "data", 25, node49) ∷ []) rest51 refl) keys46

abbrev pub node45 : Node
node45 = listed 24 (node46 ∷ [])

read45 : node 58 23 11 rest45 ≡ Ok (node45, rest51)
read45 = list_node 57 24 12 23 11 rest46 rest51 (node46 ∷ []) refl (next_item 57 24 12 10 ([]) rest46 rest51 node46 refl read46 ∙ no_item 57 24 12 9 (node46 ∷ []) rest51 refl)

abbrev pub node42 : Node
node42 = with_pairs 22 ((codes "count", 22, node43) ∷ (codes "sequence", 23, node45) ∷ [])

keys42 : are_utf8 ((codes "count", 22, node43) ∷ (codes "sequence", 23, node45) ∷ []) ≡ true
unfolding is_utf8 chars encode
keys42 = refl

read42 : node 59 21 9 rest42 ≡ Ok (node42, rest51)
read42 = map_node 58 22 10 21 9 (codes "count") rest43 rest51 ((codes "count", 22, node43) ∷ (codes "sequence", 23, node45) ∷ []) refl (next_pair 58 22 10 13 ([]) (codes "count") rest43 rest44 node43 refl refl read43 ∙ next_pair 58 23 10 12 ((codes "count", 22, node43) ∷ []) (codes "sequence") rest45 rest51 node45 refl refl read45 ∙ no_pair 58 22 10 11 ((codes "count", 22, node43) ∷ (codes "sequence", 23, node45) ∷ []) rest51 refl) keys42

abbrev pub node41 : Node
node41 = with_pairs 21 ((codes "repeat", 21, node42) ∷ [])

keys41 : are_utf8 ((codes "repeat", 21, node42) ∷ []) ≡ true
unfolding is_utf8 chars encode
keys41 = refl

read41 : node 60 21 7 rest41 ≡ Ok (node41, rest51)
read41 = map_node 59 21 8 21 7 (codes "repeat") rest42 rest51 ((codes "repeat", 21, node42) ∷ []) refl (next_pair 59 21 8 14 ([]) (codes "repeat") rest42 rest51 node42 refl refl read42 ∙ no_pair 59 21 8 13 ((codes "repeat", 21, node42) ∷ []) rest51 refl) keys41

abbrev pub node40 : Node
node40 = listed 21 (node41 ∷ [])

read40 : node 61 20 5 rest40 ≡ Ok (node40, rest51)
read40 = list_node 60 21 6 20 5 rest41 rest51 (node41 ∷ []) refl (next_item 60 21 6 15 ([]) rest41 rest51 node41 refl read41 ∙ no_item 60 21 6 14 (node41 ∷ []) rest51 refl)

abbrev pub node52 : Node
node52 = scalar_of 27 (codes "queued") true

read52 : node 61 27 5 rest52 ≡ Ok (node52, rest53)
read52 = leaf_node 60 27 5 27 10 1 node52 false rest53 refl refl

abbrev pub node54 : Node
node54 = scalar_of 28 (codes "3") true

read54 : node 61 28 5 rest54 ≡ Ok (node54, rest55)
read54 = leaf_node 60 28 5 28 9 1 node54 false rest55 refl refl

abbrev pub node31 : Node
node31 = with_pairs 16 ((codes "alias", 16, node32) ∷ (codes "triggers", 17, node34) ∷ (codes "actions", 20, node40) ∷ (codes "mode", 27, node52) ∷ (codes "max", 28, node54) ∷ [])

keys31 : are_utf8 ((codes "alias", 16, node32) ∷ (codes "triggers", 17, node34) ∷ (codes "actions", 20, node40) ∷ (codes "mode", 27, node52) ∷ (codes "max", 28, node54) ∷ []) ≡ true
unfolding is_utf8 chars encode
keys31 = refl

read31 : node 62 16 3 rest31 ≡ Ok (node31, rest55)
read31 = map_node 61 16 4 16 3 (codes "alias") rest32 rest55 ((codes "alias", 16, node32) ∷ (codes "triggers", 17, node34) ∷ (codes "actions", 20, node40) ∷ (codes "mode", 27, node52) ∷ (codes "max", 28, node54) ∷ []) refl (next_pair 61 16 4 24 ([]) (codes "alias") rest32 rest33 node32 refl refl read32 ∙ next_pair 61 17 4 23 ((codes "alias", 16, node32) ∷ []) (codes "triggers") rest34 rest39 node34 refl refl read34 ∙ next_pair 61 20 4 22 ((codes "alias", 16, node32) ∷ (codes "triggers", 17, node34) ∷ []) (codes "actions") rest40 rest51 node40 refl refl read40 ∙ next_pair 61 27 4 21 ((codes "alias", 16, node32) ∷ (codes "triggers", 17, node34) ∷ (codes "actions", 20, node40) ∷ []) (codes "mode") rest52 rest53 node52 refl refl read52 ∙ next_pair 61 28 4 20 ((codes "alias", 16, node32) ∷ (codes "triggers", 17, node34) ∷ (codes "actions", 20, node40) ∷ (codes "mode", 27, node52) ∷ []) (codes "max") rest54 rest55 node54 refl refl read54 ∙ no_pair 61 16 4 19 ((codes "alias", 16, node32) ∷ (codes "triggers", 17, node34) ∷ (codes "actions", 20, node40) ∷ (codes "mode", 27, node52) ∷ (codes "max", 28, node54) ∷ []) rest55 refl) keys31

abbrev pub node1 : Node
node1 = listed 2 (node2 ∷ node31 ∷ [])

read1 : node 63 1 1 rest1 ≡ Ok (node1, rest55)
read1 = list_node 62 2 2 1 1 rest2 rest55 (node2 ∷ node31 ∷ []) refl (next_item 62 2 2 54 ([]) rest2 rest30 node2 refl read2 ∙ next_item 62 16 2 53 (node2 ∷ []) rest31 rest55 node31 refl read31 ∙ no_item 62 2 2 52 (node2 ∷ node31 ∷ []) rest55 refl)

abbrev pub node0 : Node
node0 = with_pairs 1 ((codes "automation", 1, node1) ∷ [])

keys0 : are_utf8 ((codes "automation", 1, node1) ∷ []) ≡ true
unfolding is_utf8 chars encode
keys0 = refl

read0 : node 64 1 0 rest0 ≡ Ok (node0, rest55)
read0 = map_node 63 1 0 1 0 (codes "automation") rest1 rest55 ((codes "automation", 1, node1) ∷ []) refl (next_pair 63 1 0 55 ([]) (codes "automation") rest1 rest55 node1 refl refl read1 ∙ no_pair 63 1 0 54 ((codes "automation", 1, node1) ∷ []) rest55 refl) keys0

pub root : document rest0 ≡ Ok (node0, [])
unfolding document
root = rw read0 refl
