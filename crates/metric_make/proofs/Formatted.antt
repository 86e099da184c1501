-- What the maker says is of the catalogue's format.
use Rattle.std.proofs.Common.{◌≡◌, ℕ, Bool, true, false, cond, All, List, [], ◌∷◌, map, get_or, Option, Some, None, inl, inr, refl, ap, subst, ◌∙◌}
use Rattle.std.specs.Prelude.{nat_le, slice_get, unwrap_or}
use Rattle.std.specs.List.{list_any}
use Rattle.std.specs.Option.{option_map}
use Rattle.std.proofs.lemmas.List.Elements.{All-get_or}
use Rattle.std.proofs.lemmas.Option.{get_or_from_slice_get, slice_get_within}
use Rattle.metric_combinations.specs.Restrictions.{restrictions}
use Rattle.metric_catalogue.specs.Sound.{IsSound}
use Rattle.metric_contents.specs.declared.contents.Contents.{Contents}
use Rattle.metric_contents.specs.declared.contents.Instrument.{Instrument}
use Rattle.metric_views.specs.declared.stream.Stream.{Stream}
use Rattle.metric_bounds.specs.Amounts.{total_of}
use Rattle.metric_bounds.specs.Sets.{list_within, listed_of, product_of}
use Rattle.metric_cert.specs.declared.stream.By.TheVariants as by
use Rattle.metric_cert.specs.declared.stream.StreamSets.{StreamSets}
use Rattle.metric_cert.specs.Formats.{has_list, is_format_of}
use Rattle.metric_make.specs.Making.{entry_by_list, entry_of, entry_past, entry_with}

-- no entry is by list where no instrument lists combinations
no_list : (contents : Contents) (stream : Stream) → listed_of contents stream ≡ None → has_list (entry_of contents stream) ≡ false
no_list contents stream none = choose (nat_le (product_of contents stream) stream.limit)
  where
    choose : (b : Bool) → has_list (cond b (entry_with stream by.Product (product_of contents stream)) (entry_past contents stream)) ≡ false
    choose true = refl
    choose false =
        ap (λ (o : Option (List (List ℕ))). has_list (unwrap_or (entry_by_list stream o) (entry_with stream by.Budget (total_of contents stream.instrument)))) none

plain_list : (contents : Contents) → All (λ i. i.allowed ≡ None) contents.instruments → (stream : Stream) → listed_of contents stream ≡ None
unfolding listed_of
plain_list contents plain stream = choose (slice_get contents.instruments stream.instrument) refl
  where
    choose : (o : Option Instrument) → slice_get contents.instruments stream.instrument ≡ o → list_within stream o ≡ None
    choose None at = refl
    choose (Some i) at =
        let same : get_or contents.instruments stream.instrument i ≡ i = get_or_from_slice_get contents.instruments stream.instrument i i at in
        let within = slice_get_within contents.instruments stream.instrument i at in
        let own : i.allowed ≡ None = subst (λ (j : Instrument). j.allowed ≡ None) same (All-get_or (λ (j : Instrument). j.allowed ≡ None) contents.instruments stream.instrument i within plain) in
        ap (option_map (restrictions stream.kept)) own

no_lists : (contents : Contents) → ((stream : Stream) → listed_of contents stream ≡ None) → (streams : List Stream) → list_any has_list (map (entry_of contents) streams) ≡ false
no_lists contents none [] = refl
no_lists contents none (stream ∷ streams) = rw (no_list contents stream (none stream)) (no_lists contents none streams)

pub made_formatted : (contents : Contents) (format : ℕ) (entries : List StreamSets) (streams : List Stream) → IsSound contents → format ≡ contents.format
    → entries ≡ map (entry_of contents) streams → is_format_of entries format ≡ true
made_formatted contents format entries streams sound same made =
    elim sound.format [
      | inl first ↦
          let is : format ≡ 1 = same ∙ first in
          let none : list_any has_list entries ≡ false = ap (list_any has_list) made ∙ no_lists contents (plain_list contents (λ k d within. (sound.plain first k d within).0)) streams in
          rw (is, none) refl
      | inr second ↦ let is : format ≡ 2 = same ∙ second in rw is refl
    ]
