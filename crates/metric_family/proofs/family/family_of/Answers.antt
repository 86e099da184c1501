-- a family is of ASCII characters
use Rattle.metric_family.specs.Families.{family_parts, unless_digit}
use Rattle.metric_family.specs.Words.{joined}
use Rattle.metric_family.proofs.Characters.{plain_family_parts, plain_joined, plain_unless_digit, utf8_of}
use Rattle.metric_family.proofs.family.family_of.Goals as goal

pub text_of_ascii-requires : goal.text_of_ascii-requires
text_of_ascii-requires c =
    let parts = family_parts c.args.stream.now in
    rw (c.in_ok-name.ensures, c.in_ok-parts.ensures) (utf8_of (unless_digit (joined parts)) (plain_unless_digit (joined parts) (plain_joined parts (plain_family_parts c.args.stream.now))))
