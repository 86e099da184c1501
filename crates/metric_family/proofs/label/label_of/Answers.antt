-- a label is of ASCII characters
use Rattle.metric_family.specs.Labels.{label_of}
use Rattle.metric_family.proofs.Characters.{utf8_of}
use Rattle.metric_family.proofs.Labels.{plain_label}
use Rattle.metric_family.proofs.label.label_of.Goals as goal

pub text_of_ascii-requires : goal.text_of_ascii-requires
text_of_ascii-requires c = rw (c.in_ok-push_label.ensures, c.new-out.ensures.items) (utf8_of (label_of c.args.key.now) (plain_label c.args.key.now))
