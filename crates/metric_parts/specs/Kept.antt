-- What a command reads of the parts of its input.
use Rattle.std.specs.Prelude.{◌≡◌, ℕ, ◌+◌, false, if◌then◌else◌, List, length, None, option_map}
use Rattle.metric_parts.specs.declared.needs.Needs.{Needs}
use Rattle.metric_parts.specs.declared.parts.Parts.{Parts}
use Rattle.metric_parts.specs.Input.{Contents, before_script, IsInput}
use Rattle.metric_parts.specs.Texts.{joined, ScriptLines}

-- the lines of the script, of which the first stands after the header
abbrev pub script_of : Contents → List (List ℕ) → ScriptLines
script_of parts lines = record { first_line = length (before_script parts) + 2; lines = lines }

-- # what is read of an input (profile) [read_of, IsRead]
-- The texts of catalogue and config, and of certificate and script where they are needed.
abbrev pub read_of : Needs → Contents → Parts
read_of needs parts = record {
  catalogue = joined parts.catalogue;
  opens = false;
  config = joined parts.config;
  certificate = if needs.certificate then option_map joined parts.certificate else None;
  script = if needs.script then option_map (script_of parts) parts.script else None;
}

-- The lines are an input, and this is what is read of its parts.
pub record IsRead (needs : Needs) (lines : List (List ℕ)) (read : Parts) : Type 0 where
  pub parts : Contents
  pub is_input : IsInput needs lines parts
  pub texts : read ≡ read_of needs parts
