-- where there is no key, or no entry of one
use Rattle.std.proofs.Common.{map, rules, sym}
use Rattle.metric_contents.specs.Attributes.{given_by}
use Rattle.metric_handles.proofs.EntryLaws.{no_entry, no_keys}
use Rattle.metric_handles.proofs.found.+have_entries.Goals as goal

pub returns-in_default : goal.returns-in_default
returns-in_default t c = sym (no_keys (map given_by c.args.attrs.now) c.args.keys.now c.args.set.now (search rules))

pub returns-in_default-split_first : goal.returns-in_default-split_first
returns-in_default-split_first t c = sym (no_entry (map given_by c.args.attrs.now) c.args.keys.now c.args.set.now (search rules) (search rules))
