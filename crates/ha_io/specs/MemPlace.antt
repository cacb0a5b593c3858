-- What contracts see of a place in memory.
use Rattle.std.specs.Prelude.{Contains, ◌&&◌, ℕ, Bool, true, is_none, List, [], ◌∷◌, ◌++◌}
use Rattle.std.specs.Prelude.{Option, None, Some, option_and_then, find, string_bytes}
use Rattle.std.specs.Option.{option_map, option_map_or}
use Rattle.std.specs.Str.{bytes_eq}
use Rattle.ha_io.specs.declared.mem_place.MemFile.{MemFile}
use Rattle.ha_io.specs.declared.place.Opening.{Opening}
use Rattle.ha_io.specs.Counts.{one_more}
use Rattle.ha_io.specs.MemSink.{SinkState, new_sink}
use Rattle.ha_io.specs.MemSource.{SourceState, new_source}

pub record PlaceState : Type 0 where
  pub files : List MemFile
  pub fails : List ℕ  -- the numbers of its calls that fail, from 1
  pub calls : ℕ  -- the calls so far, of both kinds
  pub faults : ℕ  -- those that failed
  pub last : Option (List ℕ × Opening)  -- the last that failed
  pub asked : List (List ℕ × Opening)  -- all of them

abbrev pub new_place : List MemFile → List ℕ → PlaceState
new_place files fails = record { files = files; fails = fails; calls = 0; faults = 0; last = None; asked = [] }

abbrev pub name_of : MemFile → List ℕ
name_of file = string_bytes file.name

-- the file of this name
abbrev pub file_named : List MemFile → List ℕ → Option MemFile
file_named files name = find (λ file. bytes_eq (name_of file) name) files

-- no file has the name of an earlier one
abbrev pub have_distinct_names : List MemFile → Bool
have_distinct_names [] = true
have_distinct_names (file ∷ files) = is_none (file_named files (name_of file)) && have_distinct_names files

-- the bytes under a name, `None` where there are none to read
abbrev pub bytes_under : List MemFile → List ℕ → Option (List ℕ)
bytes_under files name = option_and_then (λ file. option_map (λ bytes. bytes.items) file.bytes) (file_named files name)

-- the source that reads a file, if it is there for reading
abbrev pub source_of : List ℕ → MemFile → Option SourceState
source_of name file = option_map (λ bytes. new_source name bytes.items file.read_fails.items) file.bytes

-- the source that the place makes for a name
abbrev pub source_for : List MemFile → List ℕ → Option SourceState
source_for files name = option_and_then (source_of name) (file_named files name)

-- the next call fails by its number
abbrev pub FailsNext : PlaceState → Type 0
FailsNext place = Contains place.fails (one_more place.calls)

-- the sink that the place makes for a name
abbrev pub sink_for : List MemFile → List ℕ → SinkState
sink_for files name =
    option_map_or
    (λ file. new_sink (Some name) [] file.write_fails.items file.write_zeros.items)
    (file_named files name)
    (new_sink (Some name) [] [] [])

-- after a call that is written down
abbrev pub after_asking : PlaceState → List ℕ → Opening → PlaceState
after_asking place name opening = record place { calls = one_more place.calls; asked = place.asked ++ (name, opening) ∷ [] }

-- after a call that failed
abbrev pub after_failed_opening : PlaceState → List ℕ → Opening → PlaceState
after_failed_opening place name opening =
    record (after_asking place name opening) { faults = one_more place.faults; last = Some (name, opening) }
