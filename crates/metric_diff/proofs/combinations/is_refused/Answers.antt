-- an instrument that is not there refuses otherwise
use Rattle.std.proofs.Common.{◌≡◌, ◌≤◌, ℕ, List, length, map, false, refl, ap, sym, arith}
use Rattle.std.proofs.lemmas.Option.{slice_get_past}
use Rattle.metric_contents.specs.declared.contents.Instrument.{Instrument}
use Rattle.metric_contents.specs.Attributes.{given_by}
use Rattle.metric_contents.specs.Encoding.{Given, encode_of}
use Rattle.metric_diff.specs.Combined.{is_combination}
use Rattle.metric_diff.proofs.combinations.is_refused.Goals as goal

past : (instruments : List Instrument) (n : ℕ) (attrs : List Given) → length instruments ≤ n → is_combination (encode_of instruments n attrs) ≡ false
unfolding encode_of
past instruments n attrs far = rw (slice_get_past instruments n far) refl

pub returns-then-other-instruments : goal.returns-then-other-instruments
returns-then-other-instruments c =
    let far : length c.args.others.now.instruments ≤ c.args.other = omega (arith, ap length c.instruments.ensures.instruments) in
    sym (past c.args.others.now.instruments c.args.other (map given_by c.args.attributes.now) far)
