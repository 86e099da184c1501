-- The form is none of those of pages.
use Rattle.std.proofs.Common.{◌≡◌, ◌∙◌, Some, None, ap, sym}
use Rattle.metric_exposition.specs.declared.dialect.Dialect.TheVariants as dialects
use Rattle.wormweekly_commands.specs.Paging.{dialect_of}
use Rattle.wormweekly_commands.proofs.program.replay_plain.Goals as goal

pub replay_in_form-requires-clause-text : goal.replay_in_form-requires-clause-text
replay_in_form-requires-clause-text g c = λ e. let wrong : Some dialects.Text ≡ None = sym (ap dialect_of e) ∙ c.requires.form in cc

pub replay_in_form-requires-clause-metrics : goal.replay_in_form-requires-clause-metrics
replay_in_form-requires-clause-metrics g c = λ e. let wrong : Some dialects.OpenMetrics ≡ None = sym (ap dialect_of e) ∙ c.requires.form in cc

pub replay_in_form-requires-clause-created : goal.replay_in_form-requires-clause-created
replay_in_form-requires-clause-created g c = λ e. let wrong : Some dialects.OpenMetricsCreated ≡ None = sym (ap dialect_of e) ∙ c.requires.form in cc
