-- The words that each command takes, by `clap`'s own definition of a simple command.
use Rattle.std.specs.Prelude.{Bool, true, false, List, [], ◌∷◌, Some, codes}
use Rattle.clap.specs.Words.{App, Kinds, Rule, Shape, Text, fault_of, new_app, new_rule, with_rule}
use Rattle.clap.specs.Simple.{on_top}
use Rattle.clap.specs.declared.builder.action.ArgAction.TheVariants.{Set, Append}

-- `--name VALUE` or `--name=VALUE`, once
abbrev pub option_rule : Text → Bool → Rule
option_rule name is_needed = record (new_rule name) {
  long = Some name;
  action = Some Set;
  required = is_needed;
}

-- one positional word
abbrev pub word_rule : Text → Rule
word_rule name = record (new_rule name) { action = Some Set; required = true }

-- one positional word or more
abbrev pub words_rule : Text → Rule
words_rule name = record (new_rule name) { action = Some Append; required = true }

-- a command without help and version flags, whose words are all its own
abbrev pub bare_shape : Shape → Shape
bare_shape s = record s {
  no_binary_name = true;
  disable_help_flag = true;
  disable_version_flag = true;
}

abbrev pub bare_app : Text → App
bare_app name = on_top bare_shape (new_app name)

-- `run --config F --start MOMENT [--zone Z] [--trace F] SOURCE..`
unfoldable pub run_app : App
run_app =
    with_rule (with_rule (with_rule (with_rule (with_rule (bare_app (codes "run"))
    (option_rule (codes "config") true)) (option_rule (codes "start") true))
    (option_rule (codes "zone") false)) (option_rule (codes "trace") false)) (words_rule (codes "source"))

-- `check F`, `replay F`, `rehearse N`
unfoldable pub one_word_app : Text → App
one_word_app name = with_rule (bare_app name) (word_rule (codes "word"))

abbrev pub has_no_kind : Kinds → Bool
has_no_kind [] = true
has_no_kind (k ∷ ks) = false

-- the command takes the words: no step of `clap`'s parse has a fault
unfoldable pub takes_words : App → List Text → Bool
takes_words a words = has_no_kind (fault_of a words)
