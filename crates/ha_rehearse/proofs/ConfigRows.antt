-- The lines of a rehearsal's configuration, what follows each, and the pieces up to it.
use Rattle.std.proofs.Common.{ℕ, List, [], ◌∷◌, ◌++◌, true, false, codes}
use Rattle.yaml_scan.specs.declared.line.RawLine.{RawLine}
use Rattle.yaml_tree.specs.declared.piece.Piece.{Piece}
use Rattle.yaml_tree.specs.Pieces.{dash, key, leaf}
use Rattle.ha_rehearse.proofs.LineLemmas.{scalar_of}

abbrev pub raw : ℕ → ℕ → List ℕ → RawLine
raw n indent content = record { line = n; indent = indent; content = content }

abbrev pub line1 : RawLine
line1 = raw 1 0 (codes "automation:")

abbrev pub line2 : RawLine
line2 = raw 2 2 (codes "- alias: Even")

abbrev pub line3 : RawLine
line3 = raw 3 4 (codes "triggers:")

abbrev pub line4 : RawLine
line4 = raw 4 6 (codes "- trigger: numeric_state")

abbrev pub line5 : RawLine
line5 = raw 5 8 (codes "entity_id: sensor.s0")

abbrev pub line6 : RawLine
line6 = raw 6 8 (codes "above: 50")

abbrev pub line7 : RawLine
line7 = raw 7 4 (codes "actions:")

abbrev pub line8 : RawLine
line8 = raw 8 6 (codes "- action: fan.turn_on")

abbrev pub line9 : RawLine
line9 = raw 9 8 (codes "target:")

abbrev pub line10 : RawLine
line10 = raw 10 10 (codes "entity_id: fan.f0")

abbrev pub line11 : RawLine
line11 = raw 11 6 (codes "- delay: 60")

abbrev pub line12 : RawLine
line12 = raw 12 6 (codes "- action: fan.turn_off")

abbrev pub line13 : RawLine
line13 = raw 13 8 (codes "target:")

abbrev pub line14 : RawLine
line14 = raw 14 10 (codes "entity_id: fan.f0")

abbrev pub line15 : RawLine
line15 = raw 15 4 (codes "mode: restart")

abbrev pub line16 : RawLine
line16 = raw 16 2 (codes "- alias: Odd")

abbrev pub line17 : RawLine
line17 = raw 17 4 (codes "triggers:")

abbrev pub line18 : RawLine
line18 = raw 18 6 (codes "- trigger: state")

abbrev pub line19 : RawLine
line19 = raw 19 8 (codes "entity_id: sensor.s1")

abbrev pub line20 : RawLine
line20 = raw 20 4 (codes "actions:")

abbrev pub line21 : RawLine
line21 = raw 21 6 (codes "- repeat:")

abbrev pub line22 : RawLine
line22 = raw 22 10 (codes "count: 2")

abbrev pub line23 : RawLine
line23 = raw 23 10 (codes "sequence:")

abbrev pub line24 : RawLine
line24 = raw 24 12 (codes "- action: notify.log")

abbrev pub line25 : RawLine
line25 = raw 25 14 (codes "data:")

abbrev pub line26 : RawLine
line26 = raw 26 16 (codes "value: \"{{ trigger.to_state.state }}\"")

abbrev pub line27 : RawLine
line27 = raw 27 4 (codes "mode: queued")

abbrev pub line28 : RawLine
line28 = raw 28 4 (codes "max: 3")

abbrev pub from29 : List RawLine
from29 = []

abbrev pub from28 : List RawLine
from28 = line28 ∷ from29

abbrev pub from27 : List RawLine
from27 = line27 ∷ from28

abbrev pub from26 : List RawLine
from26 = line26 ∷ from27

abbrev pub from25 : List RawLine
from25 = line25 ∷ from26

abbrev pub from24 : List RawLine
from24 = line24 ∷ from25

abbrev pub from23 : List RawLine
from23 = line23 ∷ from24

abbrev pub from22 : List RawLine
from22 = line22 ∷ from23

abbrev pub from21 : List RawLine
from21 = line21 ∷ from22

abbrev pub from20 : List RawLine
from20 = line20 ∷ from21

abbrev pub from19 : List RawLine
from19 = line19 ∷ from20

abbrev pub from18 : List RawLine
from18 = line18 ∷ from19

abbrev pub from17 : List RawLine
from17 = line17 ∷ from18

abbrev pub from16 : List RawLine
from16 = line16 ∷ from17

abbrev pub from15 : List RawLine
from15 = line15 ∷ from16

abbrev pub from14 : List RawLine
from14 = line14 ∷ from15

abbrev pub from13 : List RawLine
from13 = line13 ∷ from14

abbrev pub from12 : List RawLine
from12 = line12 ∷ from13

abbrev pub from11 : List RawLine
from11 = line11 ∷ from12

abbrev pub from10 : List RawLine
from10 = line10 ∷ from11

abbrev pub from9 : List RawLine
from9 = line9 ∷ from10

abbrev pub from8 : List RawLine
from8 = line8 ∷ from9

abbrev pub from7 : List RawLine
from7 = line7 ∷ from8

abbrev pub from6 : List RawLine
from6 = line6 ∷ from7

abbrev pub from5 : List RawLine
from5 = line5 ∷ from6

abbrev pub from4 : List RawLine
from4 = line4 ∷ from5

abbrev pub from3 : List RawLine
from3 = line3 ∷ from4

abbrev pub from2 : List RawLine
from2 = line2 ∷ from3

abbrev pub from1 : List RawLine
from1 = line1 ∷ from2

abbrev pub found0 : List Piece
found0 = []

abbrev pub found1 : List Piece
found1 = (found0 ++ key 1 0 (codes "automation") ∷ [])

abbrev pub found2 : List Piece
found2 = (((found1 ++ dash 2 2 ∷ []) ++ key 2 4 (codes "alias") ∷ []) ++ leaf 2 11 (scalar_of 2 (codes "Even") true) 1 false ∷ [])

abbrev pub found3 : List Piece
found3 = (found2 ++ key 3 4 (codes "triggers") ∷ [])

abbrev pub found4 : List Piece
found4 = (((found3 ++ dash 4 6 ∷ []) ++ key 4 8 (codes "trigger") ∷ []) ++ leaf 4 17 (scalar_of 4 (codes "numeric_state") true) 1 false ∷ [])

abbrev pub found5 : List Piece
found5 = ((found4 ++ key 5 8 (codes "entity_id") ∷ []) ++ leaf 5 19 (scalar_of 5 (codes "sensor.s0") true) 1 false ∷ [])

abbrev pub found6 : List Piece
found6 = ((found5 ++ key 6 8 (codes "above") ∷ []) ++ leaf 6 15 (scalar_of 6 (codes "50") true) 1 false ∷ [])

abbrev pub found7 : List Piece
found7 = (found6 ++ key 7 4 (codes "actions") ∷ [])

abbrev pub found8 : List Piece
found8 = (((found7 ++ dash 8 6 ∷ []) ++ key 8 8 (codes "action") ∷ []) ++ leaf 8 16 (scalar_of 8 (codes "fan.turn_on") true) 1 false ∷ [])

abbrev pub found9 : List Piece
found9 = (found8 ++ key 9 8 (codes "target") ∷ [])

abbrev pub found10 : List Piece
found10 = ((found9 ++ key 10 10 (codes "entity_id") ∷ []) ++ leaf 10 21 (scalar_of 10 (codes "fan.f0") true) 1 false ∷ [])

abbrev pub found11 : List Piece
found11 = (((found10 ++ dash 11 6 ∷ []) ++ key 11 8 (codes "delay") ∷ []) ++ leaf 11 15 (scalar_of 11 (codes "60") true) 1 false ∷ [])

abbrev pub found12 : List Piece
found12 = (((found11 ++ dash 12 6 ∷ []) ++ key 12 8 (codes "action") ∷ []) ++ leaf 12 16 (scalar_of 12 (codes "fan.turn_off") true) 1 false ∷ [])

abbrev pub found13 : List Piece
found13 = (found12 ++ key 13 8 (codes "target") ∷ [])

abbrev pub found14 : List Piece
found14 = ((found13 ++ key 14 10 (codes "entity_id") ∷ []) ++ leaf 14 21 (scalar_of 14 (codes "fan.f0") true) 1 false ∷ [])

abbrev pub found15 : List Piece
found15 = ((found14 ++ key 15 4 (codes "mode") ∷ []) ++ leaf 15 10 (scalar_of 15 (codes "restart") true) 1 false ∷ [])

abbrev pub found16 : List Piece
found16 = (((found15 ++ dash 16 2 ∷ []) ++ key 16 4 (codes "alias") ∷ []) ++ leaf 16 11 (scalar_of 16 (codes "Odd") true) 1 false ∷ [])

abbrev pub found17 : List Piece
found17 = (found16 ++ key 17 4 (codes "triggers") ∷ [])

abbrev pub found18 : List Piece
found18 = (((found17 ++ dash 18 6 ∷ []) ++ key 18 8 (codes "trigger") ∷ []) ++ leaf 18 17 (scalar_of 18 (codes "state") true) 1 false ∷ [])

abbrev pub found19 : List Piece
found19 = ((found18 ++ key 19 8 (codes "entity_id") ∷ []) ++ leaf 19 19 (scalar_of 19 (codes "sensor.s1") true) 1 false ∷ [])

abbrev pub found20 : List Piece
found20 = (found19 ++ key 20 4 (codes "actions") ∷ [])

abbrev pub found21 : List Piece
found21 = ((found20 ++ dash 21 6 ∷ []) ++ key 21 8 (codes "repeat") ∷ [])

abbrev pub found22 : List Piece
found22 = ((found21 ++ key 22 10 (codes "count") ∷ []) ++ leaf 22 17 (scalar_of 22 (codes "2") true) 1 false ∷ [])

abbrev pub found23 : List Piece
found23 = (found22 ++ key 23 10 (codes "sequence") ∷ [])

abbrev pub found24 : List Piece
found24 = (((found23 ++ dash 24 12 ∷ []) ++ key 24 14 (codes "action") ∷ []) ++ leaf 24 22 (scalar_of 24 (codes "notify.log") true) 1 false ∷ [])

abbrev pub found25 : List Piece
found25 = (found24 ++ key 25 14 (codes "data") ∷ [])

abbrev pub found26 : List Piece
found26 = ((found25 ++ key 26 16 (codes "value") ∷ []) ++ leaf 26 23 (scalar_of 26 (codes "{{ trigger.to_state.state }}") false) 1 false ∷ [])

abbrev pub found27 : List Piece
found27 = ((found26 ++ key 27 4 (codes "mode") ∷ []) ++ leaf 27 10 (scalar_of 27 (codes "queued") true) 1 false ∷ [])

abbrev pub found28 : List Piece
found28 = ((found27 ++ key 28 4 (codes "max") ∷ []) ++ leaf 28 9 (scalar_of 28 (codes "3") true) 1 false ∷ [])
