-- the key is of the stream's reader, its instrument's meter and its name
use Rattle.std.proofs.Common.{◌≡◌, get_or, List, Some, slice_get, refl, ap, ◌∙◌}
use Rattle.std.proofs.lemmas.Option.{slice_get_read}
use Rattle.metric_contents.specs.declared.contents.Instrument.{Instrument}
use Rattle.metric_resolve.proofs.StreamKeyLaws.{key_made}
use Rattle.metric_resolve.proofs.collisions.key_of.Goals as goal

pub returns-clause-key : goal.returns-clause-key
returns-clause-key c =
    let contents = c.args.catalogue.now in
    let i = c.index-instruments-stream.result in
    let n = c.args.stream.now.instrument in
    let is = c.index-instruments-stream.is ∙ ap (λ (is : List Instrument). get_or is n i) c.instruments.ensures.instruments in
    let at : slice_get contents.instruments n ≡ Some i = slice_get_read contents.instruments _ n i refl c.requires is in
    key_made contents c.args.stream.now _ i c.instruments.ensures.sound at refl refl c.in_ok-copy.ensures
