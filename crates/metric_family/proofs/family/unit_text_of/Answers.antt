-- the words of a unit are of ASCII characters
use Rattle.metric_family.specs.Units.{unit_parts}
use Rattle.metric_family.specs.Words.{joined}
use Rattle.metric_family.proofs.Characters.{plain_joined, plain_units, utf8_of}
use Rattle.metric_family.proofs.family.unit_text_of.Goals as goal

pub text_of_ascii-requires : goal.text_of_ascii-requires
text_of_ascii-requires c =
    let unit = c.as_bytes.result.now in
    rw (c.in_ok-unit.ensures) (utf8_of (joined (unit_parts unit)) (plain_joined (unit_parts unit) (plain_units unit)))
