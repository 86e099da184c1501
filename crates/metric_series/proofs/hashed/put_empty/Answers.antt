-- a key that is not there goes last
use Rattle.std.proofs.Common.{◌∙◌}
use Rattle.std.specs.Str.{bytes_eq}
use Rattle.indexmap.proofs.CallerLemmas.{insert_entry-new}
use Rattle.metric_series.proofs.hashed.put_empty.Goals as goal

pub returns-clause-ok : goal.returns-clause-ok
returns-clause-ok g c = record {
  empty = c.in_ok-empty.empty;
  made = record { aggregation = c.in_ok-empty.ensures.aggregation; stands = c.in_ok-empty.ensures.stands };
  last = c.in_ok-insert.ensures.entries ∙ insert_entry-new bytes_eq c.args.series.now c.args.key c.in_ok-empty.empty c.requires;
}
