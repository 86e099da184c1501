-- one name more
use Rattle.std.proofs.Common.{◌≡◌, ℕ, List, Option, Some, None, cond, string_bytes, take, take_all, sym, ap, ◌∙◌, arith, rules}
use Rattle.std.specs.Str.{bytes_eq}
use Rattle.metric_contents.specs.PlaceLaws.{or_else}
use Rattle.metric_diff.specs.Known.{place_of}
use Rattle.metric_diff.proofs.Lists.{place_more}
use Rattle.metric_diff.proofs.places.places_of.Goals as goal

pub loop-place-init : goal.loop-place-init
loop-place-init c = λ name. search rules

pub loop-place-preserved : goal.loop-place-preserved
loop-place-preserved c =
    let names = c.args.names.now in
    let n = c.loop-place.place in
    let own = c.index-names-place.result in
    let told : string_bytes c.in_ok-own.own ≡ own = c.in_ok-own.ensures.ok ∙ c.as_str.ensures in
    λ name.
    c.in_ok-add_place.ensures name
    ∙ ap (λ (o : Option ℕ). or_else o (cond (bytes_eq name (string_bytes c.in_ok-own.own)) (Some n) None)) (c.loop-place.invariant name)
    ∙ ap (λ (t : List ℕ). or_else (place_of (take n names) name) (cond (bytes_eq name t) (Some n) None)) told
    ∙ sym (place_more names n own name (omega arith) c.index-names-place.is)

pub returns : goal.returns
returns c =
    let names = c.args.names.now in
    λ name. c.loop-place.invariant name ∙ ap (λ (ns : List (List ℕ)). place_of ns name) (take_all c.loop-place.place names (omega arith))
