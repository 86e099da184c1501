-- What attributes give.
use Rattle.metric_names.specs.Values.{value_of}
use Rattle.metric_contents.specs.declared.attributes.Attr.{Attr}
use Rattle.metric_contents.specs.declared.attributes.OwnedAttr.{OwnedAttr}
use Rattle.metric_contents.specs.Encoding.{Given}

abbrev pub given_by : Attr → Given
given_by attr = (attr.key.now, value_of attr.value)

abbrev pub given_by_owned : OwnedAttr → Given
given_by_owned attr = (attr.key, attr.value)
