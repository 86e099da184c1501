-- The attributes that the words of `--resource` give.
use Rattle.std.specs.Prelude.{Bool, List, Result, Ok, Err, ◌==◌, if◌then◌else◌, map}
use Rattle.std.specs.List.{after_first, before_first, list_all, list_any}
use Rattle.clap.specs.Words.{Text}
use Rattle.metric_base.specs.Steps.{with_fault}
use Rattle.metric_names.specs.declared.value.AttrValue.TheVariants as values
use Rattle.metric_contents.specs.declared.attributes.OwnedAttr.{OwnedAttr}
use Rattle.metric_resource.specs.Resources.{resource_of}
use Rattle.metric_resource.specs.declared.fault.ResourceFault.{ResourceFault}
use Rattle.metric_resource.specs.declared.fault.ResourceFault.TheVariants as resources
use Rattle.metric_command_lines.specs.declared.wormweekly.fault.Misuse.{Misuse}
use Rattle.metric_command_lines.specs.declared.wormweekly.fault.Misuse.TheVariants.{NoEquals, TooMany, EmptyKey}
use Rattle.metric_command_lines.specs.declared.wormweekly.fault.Misuse.TheVariants.{RepeatedKey}

abbrev pub has_equals : Text → Bool
has_equals word = list_any (λ b. b == 61) word

-- the key stands before the first `=` of a word, and after it the value, which is a text
abbrev pub attribute_of : Text → OwnedAttr
attribute_of word = record {
  key = before_first (λ b. b == 61) word;
  value = values.Text (after_first (λ b. b == 61) word);
}

abbrev pub misuse_of : ResourceFault → Misuse
misuse_of resources.TooMany = TooMany
misuse_of resources.EmptyKey = EmptyKey
misuse_of _ = RepeatedKey

-- # the attributes that the words of `--resource` give, and the first misuse of an option (profile)
-- [resource_in, resource_asked]
-- The attributes that words give, in order, or the first fault of the words.
abbrev pub resource_in : List Text → Result (List OwnedAttr) Misuse
resource_in words =
    if list_all has_equals words then with_fault misuse_of (resource_of (map attribute_of words))
    else Err NoEquals
